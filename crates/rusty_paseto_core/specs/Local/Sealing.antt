-- The sealing of a text: the token that a local version makes of it under a key, a nonce, a footer
-- and an implicit assertion.
use Rattle.std.specs.Prelude.{ℕ, Bool, List, [], ◌∷◌, ◌++◌, if◌then◌else◌}
use Rattle.rusty_paseto_parts.specs.PreAuthenticationEncoding.{pae}
use Rattle.rusty_paseto_core.specs.Context.{Binding}
use Rattle.rusty_paseto_core.specs.Local.{Design, header}
use Rattle.rusty_paseto_core.specs.Framing.{framing}

-- the pieces that the tag covers
abbrev pub pieces : Design → Binding → List ℕ → List ℕ → List (List ℕ)
pieces design binding nonce ciphertext =
    header design ∷ nonce ∷ ciphertext ∷ binding.footer
    ∷ (if design.binds_assertion then binding.assertion ∷ [] else [])

-- the tag of a ciphertext
abbrev pub tag_of : Design → Binding → List ℕ → List ℕ → List ℕ
tag_of design binding nonce ciphertext =
    design.tag (design.authentication_key binding.key nonce) (pae (pieces design binding nonce ciphertext))

-- the payload of a sealed token: the nonce, the ciphertext and its tag
unfoldable pub sealed_payload : Design → Binding → List ℕ → List ℕ → List ℕ
sealed_payload design binding nonce text =
    let ciphertext = design.apply_keystream binding.key nonce text in
    nonce ++ ciphertext ++ tag_of design binding nonce ciphertext

-- the sealing of a text, with its footer's section or without
abbrev pub sealing : Design → Binding → List ℕ → Bool → List ℕ → List ℕ
sealing design binding nonce written text =
    framing (header design) (sealed_payload design binding nonce text) written binding.footer
