-- What is answered where a text is signed.
use Rattle.std.proofs.Common.{◌≡◌, ◌⊎◌, inl, inr, ℕ, List, Option, None, Some, IfSome, is_some, length, Result, Ok, Err, String, Global}
use Rattle.std.proofs.lemmas.Bool.Decides.{eqb_tells}
use Rattle.rusty_paseto_parts.specs.declared.error.PasetoError.{PasetoError}
use Rattle.rusty_paseto_parts.specs.declared.error.PasetoError.TheVariants.{TryFromSlice}
use Rattle.rusty_paseto_parts.specs.declared.texts.footer.Footer.{Footer}
use Rattle.rusty_paseto_parts.specs.declared.texts.implicit_assertion.ImplicitAssertion.{ImplicitAssertion}
use Rattle.rusty_paseto_core.specs.Context.{assertion_of, footer_of}
use Rattle.rusty_paseto_core.specs.Public.{HasPrivateLength, PublicDesign}
use Rattle.rusty_paseto_core.specs.Public.Scheme.{Declining, Validity}
use Rattle.rusty_paseto_core.specs.Public.Signing.{IsSignAnswer}
use Rattle.paseto_keys.specs.Writing.{IsWriteAnswer, signing_by}

-- a private key has the version's length or not
sized : (size : Option ℕ) (n : ℕ) → IfSome size (λ m. n ≡ m) ⊎ ¬ IfSome size (λ m. n ≡ m)
sized None n = inl tt
sized (Some m) n = elim (eqb_tells n m) [ inl same ↦ inl same.1 | inr other ↦ inr other.1 ]

module _ (valid : Validity) (declined : Declining) (partner : List ℕ → List ℕ) (design : PublicDesign) (private : List ℕ)
    (footer : Option Footer) (assertion : Option ImplicitAssertion) (text : List ℕ) where
  sign_declined : (result : Result (String Global) PasetoError) → (HasPrivateLength design private ⊎ ¬ HasPrivateLength design private)
      → IsSignAnswer valid (declined private) design private (partner private) footer assertion text result
      → IsWriteAnswer (signing_by valid declined partner design private (footer_of footer) (assertion_of assertion)) (is_some footer) text result
  sign_declined (Ok token) sized answer = record { made = answer.ok; declined = tt }
  sign_declined (Err error) (inl sized) answer = record {
    made = tt;
    declined = elim (answer.err sized) [ inl memory ↦ inl memory | inr reason ↦ inr (inr (sized, reason)) ];
  }
  sign_declined (Err error) (inr other) answer = record {
    made = tt;
    declined = let same : error ≡ TryFromSlice = cc (answer.private_length other) in inr (inl (other, same));
  }

  -- the answer of signing is the answer of writing a token
  pub signed_answer : (result : Result (String Global) PasetoError)
      → IsSignAnswer valid (declined private) design private (partner private) footer assertion text result
      → IsWriteAnswer (signing_by valid declined partner design private (footer_of footer) (assertion_of assertion)) (is_some footer) text result
  signed_answer result = sign_declined result (sized design.private_length (length private))
