-- Private keys as they are wrapped.
use Rattle.std.proofs.Common.{◌≡◌, ℕ, Bool, List, IsOk, IsTrue, Result, Err, inl, inr, refl, subst, sym, ◌∙◌}
use Rattle.std.proofs.lemmas.Bool.{false≢true}
use Rattle.base64.specs.GeneralPurpose.{IsBytes}
use Rattle.paseto_rsa.proofs.PublicLaws.{info-is, private_key_info-bytes, rsa_private-bytes, rsa_private-form}
use Rattle.rusty_paseto_parts.specs.OwnedKeys.{TakesKey}
use Rattle.rusty_paseto_parts.specs.declared.error.PasetoError.{PasetoError}
use Rattle.rusty_paseto_paserk.proofs.RsaLaws.{one-secret}
use Rattle.rusty_paseto_paserk.specs.declared.header.PaserkVersion.{PaserkVersion}
use Rattle.rusty_paseto_paserk.specs.declared.header.PaserkVersion.TheVariants.{V1, V2, V3, V4}
use Rattle.paseto_wrapping.specs.Keys.{IsPrivateKey, IsWrappedForm, wrapped_form}

-- octets were wrapped for one private key
pub one_form : (version : PaserkVersion) (octets a b : List ℕ) → IsWrappedForm version octets a → IsWrappedForm version octets b → a ≡ b
one_form V1 octets a b first second = one-secret octets a b first second
one_form V2 octets a b first second = sym first.0 ∙ second.0
one_form V3 octets a b first second = sym first.0 ∙ second.0
one_form V4 octets a b first second = sym first.0 ∙ second.0

pub form_bytes : (version : PaserkVersion) (octets key : List ℕ) → IsBytes octets → IsWrappedForm version octets key → IsBytes key
form_bytes V1 octets key bytes form = elim form [
  | inl info ↦ subst IsBytes (sym info.1) bytes
  | inr alone ↦ subst IsBytes (sym alone.1) (private_key_info-bytes octets alone.0 bytes)
]
form_bytes V2 octets key bytes form = subst IsBytes form.0 bytes
form_bytes V3 octets key bytes form = subst IsBytes form.0 bytes
form_bytes V4 octets key bytes form = subst IsBytes form.0 bytes

-- what is wrapped for a private key is one of its forms
pub wrapped_is_form : (version : PaserkVersion) (key : List ℕ) → IsBytes key → IsPrivateKey version key
    → IsWrappedForm version (wrapped_form version key) key
wrapped_is_form V1 key bytes is = inr (rsa_private-form key bytes is, info-is key is)
wrapped_is_form V2 key bytes is = (refl, is)
wrapped_is_form V3 key bytes is = (refl, is)
wrapped_is_form V4 key bytes is = (refl, is)

pub wrapped_bytes : (version : PaserkVersion) (key : List ℕ) → IsBytes key → IsBytes (wrapped_form version key)
wrapped_bytes V1 key bytes = rsa_private-bytes key bytes
wrapped_bytes V2 key bytes = bytes
wrapped_bytes V3 key bytes = bytes
wrapped_bytes V4 key bytes = bytes

-- where a key owns no bytes of the form, it owns none
pub not_taken : (version : PaserkVersion) (may_have : List ℕ → Bool) (octets key : List ℕ) (answer : Result (List ℕ) PasetoError) (error : PasetoError)
    → answer ≡ Err error → TakesKey (may_have key) key answer → IsWrappedForm version octets key
    → (other : List ℕ) → ¬ (IsWrappedForm version octets other × IsTrue (may_have other))
not_taken version may_have octets key answer error refused takes form other is =
    false≢true (subst IsOk refused (takes.taken.1 (subst (λ (k : List ℕ). IsTrue (may_have k)) (one_form version octets other key is.0 form) is.1)))
