-- When a row of a local token agrees with the definitions.
use Rattle.std.specs.Prelude.{◌≡◌, ℕ, List, [], is_some, string_bytes}
use Rattle.std.specs.Option.{option_map_or}
use Rattle.rusty_paseto_core.specs.Context.{Binding}
use Rattle.rusty_paseto_core.specs.Local.{Design}
use Rattle.rusty_paseto_core.specs.Local.Opening.{opening}
use Rattle.rusty_paseto_core.specs.Local.Sealing.{sealing}
use Rattle.rusty_paseto_core.specs.Reading.{IsRead}
use Rattle.test_rows.specs.declared.tokens.Row.{Row}

-- an absent footer is the empty one
abbrev pub footer_in : Row → List ℕ
footer_in row = option_map_or string_bytes row.footer []

-- what the row's token is bound to
abbrev pub binding : Row → Binding
binding row = record { key = row.key; footer = footer_in row; assertion = string_bytes row.assertion }

-- the sealing of the row's text under the row's nonce
abbrev pub sealing_in : Design → Row → List ℕ
sealing_in design row =
    sealing design (binding row) (design.token_nonce row.nonce (string_bytes row.text)) (is_some row.footer) (string_bytes row.text)

-- the token is the text's sealing, and opens to the text
pub record IsTokenRow (design : Design) (row : Row) : Type 0 where
  pub seals : row.token.now ≡ sealing_in design row
  pub opens : IsRead (opening design (binding row)) row.token.now (string_bytes row.text)
