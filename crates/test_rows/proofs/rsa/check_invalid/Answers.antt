use Rattle.std.proofs.Common.{◌≡◌, ℕ, List, ◌∙◌, sym, subst, rules}
use Rattle.paseto_rsa.specs.RsaPss.{RsaPssVerifies}
use Rattle.test_rows.proofs.rsa.check_invalid.Goals as goal

moved : (p q m n s t : List ℕ) → p ≡ q → m ≡ n → s ≡ t → (RsaPssVerifies p m s → ⊥) → RsaPssVerifies q n t → ⊥
moved p q m n s t first second third refused v =
    refused
    (subst (λ (l : List ℕ). RsaPssVerifies p m l) (sym third)
    (subst (λ (l : List ℕ). RsaPssVerifies p l t) (sym second) (subst (λ (l : List ℕ). RsaPssVerifies l n t) (sym first) v)))

pub returns-in-Err-InvalidSignature : goal.returns-in-Err-InvalidSignature
returns-in-Err-InvalidSignature c =
    let array : c.in-Some.signature.now ≡ c.in_ok-signature.signature.items = search rules in
    record {
      public_bytes = c.in_ok-public.public.items;
      message_bytes = c.in_ok-message.message.items;
      signature_bytes = c.in_ok-signature.signature.items;
      says_public = c.in_ok-public.ensures;
      says_message = c.in_ok-message.ensures;
      says_signature = c.in_ok-signature.ensures;
      is_refused = moved _ _ _ _ _ _ c.deref-2.ensures.value c.deref-3.ensures.value array c.in-Err-InvalidSignature.ensures.err.1;
    }
