-- Tokens of version 2 by its box, with no footer.
use Rattle.std.specs.Prelude.{ℕ, List, Option, false, None}
use Rattle.rusty_paseto_core.specs.Context.{binding_of}
use Rattle.rusty_paseto_core.specs.Local.Boxed.{box_opening, boxed_sealing, token_nonce}
use Rattle.rusty_paseto_core.specs.Reading.{IsRead}
use Rattle.paseto_xchacha20poly1305.specs.Sealing.{box_sealing}

-- the token of a text under a key and a given nonce
abbrev pub boxed_token : List ℕ → List ℕ → List ℕ → Option (List ℕ)
boxed_token key nonce text =
    boxed_sealing box_sealing (binding_of key None None) (token_nonce nonce text) false text

-- the token opens to the text under the key
abbrev pub OpensToText : List ℕ → List ℕ → List ℕ → Type 0
OpensToText key token text = IsRead (box_opening box_sealing (binding_of key None None)) token text
