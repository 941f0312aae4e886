use Rattle.std.proofs.Common.{◌≡◌, ℕ, List, refl, ◌∙◌, subst}
use Rattle.paseto_rsa.specs.RsaPss.{IsSigned}
use Rattle.test_rows.proofs.rsa.check_made.Goals as goal

moved : (p q m n s t g h : List ℕ) → p ≡ q → m ≡ n → s ≡ t → g ≡ h → IsSigned p m s g → IsSigned q n t h
moved p q m n s t g h first second third fourth signed =
    subst (λ (l : List ℕ). IsSigned q n t l) fourth
    (subst (λ (l : List ℕ). IsSigned q n l g) third
    (subst (λ (l : List ℕ). IsSigned q l s g) second (subst (λ (l : List ℕ). IsSigned l m s g) first signed)))

pub returns : goal.returns
returns c =
    let private = c.in_ok-private.private.items in
    let message = c.in_ok-message.message.items in
    let made = c.in_ok-made.ensures.ok.1 in
    let drawn = made.2 ∙ c.scheme.ensures in
    let same = c.compare.ensures.0 (rw c.in_ok-compare.was refl) in
    record {
      private_bytes = private;
      message_bytes = message;
      salt_bytes = c.in_ok-salt.salt;
      signature_bytes = c.in_ok-signature.signature;
      says_private = c.in_ok-private.ensures;
      says_message = c.in_ok-message.ensures;
      says_salt = c.in_ok-salt.ensures;
      says_signature = c.in_ok-signature.ensures;
      is_signed = moved _ _ _ _ _ _ _ _ c.deref.ensures.value c.deref-2.ensures.value drawn same made.3;
    }
