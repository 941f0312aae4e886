use Rattle.std.proofs.Common.{◌≡◌, ◌∙◌, List, ℕ, sym, refl, subst}
use Rattle.test_rows.specs.Fields.{Says}
use Rattle.test_rows.proofs.schemes.check_signed.Goals as goal

pub returns : goal.returns
returns c =
    let private : List ℕ = c.in_ok-private.private in
    let message : List ℕ = c.in_ok-message.message.items in
    let half = sym c.split_at.ensures.back ∙ rw c.deref-2.ensures.value at (c.in_ok-compare.ensures.0 refl) in
    let split = rw c.deref.ensures.value at c.in-Some.ensures.cases in
    let made = rw c.deref-3.ensures.value at c.in_ok-sign.ensures.ok in
    let same = c.in_ok-compare-2.ensures.0 refl in
    let rest = rw c.deref-4.ensures.value at (c.in_ok-compare-3.ensures.0 refl) in
    let signature = sym split.0 ∙ sym same in
    record {
      private_bytes = private;
      message_bytes = message;
      signed_bytes = c.in_ok-signed.signed.items;
      says_private = c.in_ok-private.ensures;
      says_public = subst (λ (b : List ℕ). Says c.args.public.now b) (sym half) c.in_ok-public.ensures;
      says_message = c.in_ok-message.ensures;
      says_signed = c.in_ok-signed.ensures;
      is_own = rw c.from.ensures at c.in_ok-signer.ensures.ok.1;
      is_signature = signature ∙ made.1;
      is_message = sym split.1 ∙ sym rest;
      is_valid = rw signature made.0;
    }
