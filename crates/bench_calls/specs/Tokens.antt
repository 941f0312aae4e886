-- Tokens with no footer and no implicit assertion.
use Rattle.std.specs.Prelude.{ℕ, List, false, None}
use Rattle.rusty_paseto_core.specs.Context.{binding_of}
use Rattle.rusty_paseto_core.specs.Local.{Design}
use Rattle.rusty_paseto_core.specs.Local.Opening.{opening}
use Rattle.rusty_paseto_core.specs.Local.Sealing.{sealing}
use Rattle.rusty_paseto_core.specs.Reading.{IsRead}

-- the token of a text under a key and a given nonce
abbrev pub token_of : Design → List ℕ → List ℕ → List ℕ → List ℕ
token_of design key nonce text =
    sealing design (binding_of key None None) (design.token_nonce nonce text) false text

-- the token opens to the text under the key
abbrev pub OpensTo : Design → List ℕ → List ℕ → List ℕ → Type 0
OpensTo design key token text = IsRead (opening design (binding_of key None None)) token text
