-- A line begins the block of one label.
use Rattle.std.proofs.Common.{◌≡◌, ◌≢◌, ℕ, List, ◌++◌, get_or, length, refl, sym, ap, ◌∙◌, arith}
use Rattle.std.specs.Prelude.{codes, nat_eq, if◌then◌else◌}
use Rattle.paseto_pem.specs.declared.label.Label.{Label}
use Rattle.paseto_pem.specs.declared.label.Label.TheVariants.{PrivateKey, EncryptedPrivateKey, PublicKey, EcPrivateKey, RsaPrivateKey, RsaPublicKey, OpenSshPrivateKey}
use Rattle.paseto_pem.specs.Label.{begin_boundary, label_text}
use Rattle.paseto_pem.specs.Text.{IsPassed}

-- the label that two characters of the line tell
told : List ℕ → Label
told text =
    if nat_eq (get_or text 12 0) 82 then PrivateKey
    else (if nat_eq (get_or text 12 0) 78 then EncryptedPrivateKey
    else (if nat_eq (get_or text 12 0) 85 then PublicKey
    else (if nat_eq (get_or text 12 0) 67 then EcPrivateKey
    else (if nat_eq (get_or text 12 0) 80 then OpenSshPrivateKey
    else (if nat_eq (get_or text 16 0) 82 then RsaPrivateKey else RsaPublicKey)))))

told-is : (label : Label) → told (begin_boundary label) ≡ label
unfolding told
told-is PrivateKey = refl
told-is EncryptedPrivateKey = refl
told-is PublicKey = refl
told-is EcPrivateKey = refl
told-is RsaPrivateKey = refl
told-is RsaPublicKey = refl
told-is OpenSshPrivateKey = refl

pub one-label : (a b : Label) → begin_boundary a ≡ begin_boundary b → a ≡ b
one-label a b e = sym (told-is a) ∙ ap told e ∙ told-is b

pub none-of : (line : List ℕ) → line ≢ begin_boundary PrivateKey → line ≢ begin_boundary PublicKey
    → line ≢ begin_boundary EncryptedPrivateKey → line ≢ begin_boundary EcPrivateKey → line ≢ begin_boundary RsaPrivateKey
    → line ≢ begin_boundary RsaPublicKey → line ≢ begin_boundary OpenSshPrivateKey → (label : Label) → line ≢ begin_boundary label
none-of line a b c d e f g PrivateKey = a
none-of line a b c d e f g PublicKey = b
none-of line a b c d e f g EncryptedPrivateKey = c
none-of line a b c d e f g EcPrivateKey = d
none-of line a b c d e f g RsaPrivateKey = e
none-of line a b c d e f g RsaPublicKey = f
none-of line a b c d e f g OpenSshPrivateKey = g

not-13 : (label : Label) → length (begin_boundary label) ≢ 29
not-13 PrivateKey e = omega arith
not-13 EncryptedPrivateKey e = omega arith
not-13 PublicKey e = omega arith
not-13 EcPrivateKey e = omega arith
not-13 RsaPrivateKey e = omega arith
not-13 RsaPublicKey e = omega arith
not-13 OpenSshPrivateKey e = omega arith

-- it is not passed over
pub label-begins : (label : Label) → ¬ IsPassed (begin_boundary label)
unfolding IsPassed
label-begins label h = not-13 label (ap length (h (label_text label ++ codes "-----", refl)))
