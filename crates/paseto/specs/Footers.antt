-- The footer that words say.
use Rattle.std.specs.Prelude.{◌≡◌, ◌⊎◌, ⊤, ℕ, List, ◌++◌, Option, None, Some, codes, option_map, string_bytes, String}
use Rattle.std.specs.Global.{Global}
use Rattle.rusty_paseto.specs.KeyRing.{kid_footer}
use Rattle.rusty_paseto_parts.specs.Footer.{footer_text}
use Rattle.rusty_paseto_parts.specs.declared.texts.footer.Footer.{Footer}
use Rattle.paseto_tasks.specs.declared.arguments.Options.{Options}

abbrev Begins : List ℕ → List ℕ → Type 0
Begins front text = (rest : List ℕ) × (text ≡ front ++ rest)

-- the footer of --footer-kid, or of --footer, or none
abbrev pub footer_for : Option (List ℕ) → Option (List ℕ) → Option (List ℕ)
footer_for (Some id) footer = Some (kid_footer id)
footer_for None footer = footer

abbrev pub footer_said : Options → Option (List ℕ)
footer_said options = footer_for (option_map (λ id. id.now) options.kid) (option_map footer_text options.footer)

-- the id of a private key of some version (PASERK specification, "PASERK IDs"), by which no reader finds its public key
abbrev pub IsPrivateId : List ℕ → Type 0
IsPrivateId id = Begins (codes "k1.sid.") id ⊎ (Begins (codes "k2.sid.") id ⊎ (Begins (codes "k3.sid.") id ⊎ Begins (codes "k4.sid.") id))

abbrev pub IsNoPrivateId : Option (List ℕ) → Type 0
IsNoPrivateId None = ⊤
IsNoPrivateId (Some id) = ¬ IsPrivateId id

-- the footer is the one that is said, which names no private key
abbrev pub IsFooter : Options → Option (List ℕ) → Type 0
IsFooter options footer = (footer ≡ footer_said options) × IsNoPrivateId (option_map (λ id. id.now) options.kid)

-- the footer has this text
abbrev pub IsFooterOf : Option (String Global) → Option Footer → Type 0
IsFooterOf text footer = option_map footer_text footer ≡ option_map string_bytes text
