-- The one object that the claims of a default builder are.
use Rattle.std.proofs.Common.{◌≡◌, ◌∙◌, List, ℕ, codes, sym, ap₂}
use Rattle.jiff.specs.Types.{Timestamp}
use Rattle.serde_json.specs.Data.{Members, member, no_members, string}
use Rattle.rusty_paseto_claims.proofs.MomentLemmas.{same_text}
use Rattle.rusty_paseto.specs.PasetoBuilder.{IsDefaultClaims}

pub same_default : (now then : Timestamp) (one two : Members) → now.nanosecond ≡ then.nanosecond
    → IsDefaultClaims now one → IsDefaultClaims then two → one ≡ two
same_default now then one two same a b =
    a.is ∙ ap₂ (λ (e s : List ℕ). member (codes "exp") (string e) (member (codes "iat") (string s) (member (codes "nbf") (string s) no_members)))
    (same_text _ a.end b.end (rw same at a.is_end) b.is_end) (same_text _ a.begin b.begin (rw same at a.is_begin) b.is_begin) ∙ sym b.is
