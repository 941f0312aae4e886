use Rattle.std.proofs.Common.{◌≡◌, ◌≢◌, ◌++◌, List, ℕ, sym, ap, ◌∙◌}
use Rattle.std.proofs.lemmas.List.{append_cancel_left}
use Rattle.base64.specs.GeneralPurpose.{IsBytes}
use Rattle.rusty_paseto_parts.specs.Section.{base64url}
use Rattle.rusty_paseto_paserk.specs.Header.{header}
use Rattle.rusty_paseto_paserk.proofs.text.read_bytes.Goals as goal

-- what stands behind the header of the writing of a key
behind : (front payload key text : List ℕ) → text ≡ front ++ payload → text ≡ front ++ base64url key → payload ≡ base64url key
behind front payload key text found written = append_cancel_left front payload (base64url key) (sym found ∙ written)

pub returns-in-Some : goal.returns-in-Some
unfolding base64url
returns-in-Some c =
    let front = header c.args.version c.args.kind in
    let found = c.in_ok-payload.ensures.found in
    record {
      bytes = rw c.in-Some.is at c.in_ok-bytes.ensures.bytes;
      written = found ∙ ap (λ (rest : List ℕ). front ++ rest) (rw c.in-Some.is at c.in_ok-bytes.ensures.read);
      read = λ key h e. rw c.in-Some.is at (c.in_ok-bytes.ensures.exact key h (behind front c.in_ok-payload.payload.now key c.args.text.now found e));
      refused = tt;
    }

pub returns-in-None : goal.returns-in-None
unfolding base64url
returns-in-None c =
    let front = header c.args.version c.args.kind in
    let found = c.in_ok-payload.ensures.found in
    let none : (key : List ℕ) → IsBytes key → c.args.text.now ≢ front ++ base64url key =
    λ key h e. absurd (rw c.in-None.is at (c.in_ok-bytes.ensures.exact key h (behind front c.in_ok-payload.payload.now key c.args.text.now found e))) in
    record {
      bytes = tt;
      written = tt;
      read = λ key h e. absurd (none key h e);
      refused = ((c.in_ok-payload.payload.now, found), λ key h _ e. none key h e);
    }
