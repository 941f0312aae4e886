-- The encapsulation boundaries of texts with a label (RFC 7468, section 3, figure 1).
use Rattle.std.specs.Prelude.{◌≡◌, ℕ, List, ◌++◌, codes}
use Rattle.paseto_pem.specs.declared.label.Label.{Label}
use Rattle.paseto_pem.specs.declared.label.Label.TheVariants.{PrivateKey, EncryptedPrivateKey, PublicKey, EcPrivateKey, RsaPrivateKey, RsaPublicKey, OpenSshPrivateKey}

abbrev pub label_text : Label → List ℕ
label_text PrivateKey = codes "PRIVATE KEY"
label_text EncryptedPrivateKey = codes "ENCRYPTED PRIVATE KEY"
label_text PublicKey = codes "PUBLIC KEY"
label_text EcPrivateKey = codes "EC PRIVATE KEY"
label_text RsaPrivateKey = codes "RSA PRIVATE KEY"
label_text RsaPublicKey = codes "RSA PUBLIC KEY"
label_text OpenSshPrivateKey = codes "OPENSSH PRIVATE KEY"

-- preeb
abbrev pub begin_boundary : Label → List ℕ
begin_boundary label = codes "-----BEGIN " ++ (label_text label ++ codes "-----")

-- posteb
abbrev pub end_boundary : Label → List ℕ
end_boundary label = codes "-----END " ++ (label_text label ++ codes "-----")

-- the text begins with the line of this label
abbrev pub HasLabel : Label → List ℕ → Type 0
HasLabel label text = (rest : List ℕ) × (text ≡ begin_boundary label ++ rest)
