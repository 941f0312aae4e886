-- The token of a signed text, from its message and its signature.
use Rattle.std.proofs.Common.{◌≡◌, ℕ, List, [], ◌∷◌, ◌++◌, Bool, true, false, length, refl, ap, ◌∙◌, subst, inl, ◌⊎◌, Option, is_some, Result, Ok, Err, IfOk, IfErr, String, Global}
use Rattle.std.specs.String.{string_bytes}
use Rattle.rusty_paseto_primitives.specs.Bytes.{IsBytes}
use Rattle.rusty_paseto_parts.specs.PreAuthenticationEncoding.{pae}
use Rattle.rusty_paseto_parts.specs.Error.{IsMemory}
use Rattle.rusty_paseto_parts.specs.declared.texts.footer.Footer.{Footer}
use Rattle.rusty_paseto_parts.specs.declared.texts.implicit_assertion.ImplicitAssertion.{ImplicitAssertion}
use Rattle.rusty_paseto_parts.specs.declared.error.PasetoError.{PasetoError}
use Rattle.rusty_paseto_core.specs.Context.{Binding, assertion_of, binding_of, footer_of}
use Rattle.rusty_paseto_core.specs.Framing.{framing}
use Rattle.rusty_paseto_core.specs.Public.Scheme.{Validity}
use Rattle.rusty_paseto_core.specs.Public.{PublicDesign, header, message, where_bound}
use Rattle.rusty_paseto_core.specs.Public.Signing.{IsSignAnswer, IsSignedPayload, IsSigning}

bound_same : (binds : Bool) (first second : List ℕ) → (binds ≡ true → first ≡ second) → where_bound binds first ≡ where_bound binds second
bound_same true first second same = ap (λ (key : List ℕ). key ∷ []) (same refl)
bound_same false first second same = refl

-- a key that the version does not bind does not change the message
pub message-key : (design : PublicDesign) (first second footer assertion text : List ℕ) → (design.binds_key ≡ true → first ≡ second)
    → message design (record { key = first; footer = footer; assertion = assertion }) text
    ≡ message design (record { key = second; footer = footer; assertion = assertion }) text
unfolding message
message-key design first second footer assertion text same =
    ap (λ (front : List (List ℕ)). pae (front ++ (header design ∷ text ∷ footer ∷ where_bound design.binds_assertion assertion)))
    (bound_same design.binds_key first second same)

-- an assertion that the version does not bind does not change the message
pub message-assertion : (design : PublicDesign) (key footer first second text : List ℕ) → (design.binds_assertion ≡ true → first ≡ second)
    → message design (record { key = key; footer = footer; assertion = first }) text
    ≡ message design (record { key = key; footer = footer; assertion = second }) text
unfolding message
message-assertion design key footer first second text same =
    ap (λ (end : List (List ℕ)). pae (where_bound design.binds_key key ++ (header design ∷ text ∷ footer ∷ end)))
    (bound_same design.binds_assertion first second same)

-- a payload of a text and a valid signature, in the words of the version
pub signed_payload : (valid : Validity) (design : PublicDesign) (binding : Binding) (text signed payload : List ℕ) (size : ℕ)
    → (signature : List ℕ) × (length signature ≡ size) × IsBytes signature × valid binding.key signed signature × (payload ≡ text ++ signature)
    → size ≡ design.signature_length → signed ≡ message design binding text
    → IsSignedPayload valid design binding payload text
signed_payload valid design binding text signed payload size made own same =
    record { signature = made.0; size = made.1 ∙ own; bytes = made.2; is_valid = rw same at made.3; is_signed = made.4 }

-- the token of a signed payload
pub framed_signing : (valid : Validity) (design : PublicDesign) (binding : Binding) (written : Bool) (text payload front footer : List ℕ)
    (answer : Result (String Global) PasetoError)
    → IsSignedPayload valid design binding payload text → front ≡ header design → footer ≡ binding.footer
    → IfOk answer (λ token. string_bytes token ≡ framing front payload written footer)
    → IfOk answer (λ token. IsSigning valid design binding written text (string_bytes token))
framed_signing valid design binding written text payload front footer (Err error) signed eh ef framed = tt
framed_signing valid design binding written text payload front footer (Ok token) signed eh ef framed =
    record { payload = payload; signed = signed; is_framing = rw (eh, ef) at framed }

-- a failed allocation is one of the errors that may come
pub memory_or : (Declined : PasetoError → Type 0) (answer : Result (String Global) PasetoError) → IfErr answer IsMemory
    → IfErr answer (λ error. IsMemory error ⊎ Declined error)
memory_or Declined (Ok token) memory = tt
memory_or Declined (Err error) memory = inl memory

module _ (valid : Validity) (design : PublicDesign) (public : List ℕ) (footer : Option Footer) (first second : Option ImplicitAssertion)
    (same : design.binds_assertion ≡ true → first ≡ second) (written : Bool) (text : List ℕ) where
  signing-assertion : (token : List ℕ) → IsSigning valid design (binding_of public footer first) written text token
      → IsSigning valid design (binding_of public footer second) written text token
  signing-assertion token signing =
      let bytes : design.binds_assertion ≡ true → assertion_of first ≡ assertion_of second = λ binds. ap assertion_of (same binds) in
      let message_same = message-assertion design public (footer_of footer) (assertion_of first) (assertion_of second) text bytes in
      let signed = signing.signed in
      record {
        payload = signing.payload;
        signed = record {
          signature = signed.signature;
          size = signed.size;
          bytes = signed.bytes;
          is_valid = subst (λ m. valid public m signed.signature) message_same signed.is_valid;
          is_signed = signed.is_signed;
        };
        is_framing = signing.is_framing;
      }

  answer_ok : (answer : Result (String Global) PasetoError)
      → IfOk answer (λ token. IsSigning valid design (binding_of public footer first) written text (string_bytes token))
      → IfOk answer (λ token. IsSigning valid design (binding_of public footer second) written text (string_bytes token))
  answer_ok (Ok token) signing = signing-assertion (string_bytes token) signing
  answer_ok (Err error) signing = tt

-- an assertion that the version does not bind does not change the answer of signing
pub sign_answer-assertion : (valid : Validity) (Declined : List ℕ → PasetoError → Type 0) (design : PublicDesign) (private public : List ℕ) (footer : Option Footer)
    (first second : Option ImplicitAssertion) (text : List ℕ) (answer : Result (String Global) PasetoError)
    → (design.binds_assertion ≡ true → first ≡ second)
    → IsSignAnswer valid Declined design private public footer first text answer
    → IsSignAnswer valid Declined design private public footer second text answer
sign_answer-assertion valid Declined design private public footer first second text answer same given = record {
  ok = answer_ok valid design public footer first second same (is_some footer) text answer given.ok;
  private_length = given.private_length;
  err = λ own_length.
      let bytes : design.binds_assertion ≡ true → assertion_of first ≡ assertion_of second = λ binds. ap assertion_of (same binds) in
      let message_same = message-assertion design public (footer_of footer) (assertion_of first) (assertion_of second) text bytes in
      subst (λ (m : List ℕ). IfErr answer (λ error. IsMemory error ⊎ Declined m error)) message_same (given.err own_length);
}
