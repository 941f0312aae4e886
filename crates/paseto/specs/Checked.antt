-- What `check` prints.
use Rattle.std.specs.Prelude.{◌≡◌, ◌⊎◌, ℕ, List, [], ◌∷◌, ◌++◌, Option, false, IsUtf8}
use Rattle.jiff.specs.Types.{Timestamp}
use Rattle.serde_json.specs.Data.{Data}
use Rattle.rusty_paseto_parts.specs.declared.texts.implicit_assertion.ImplicitAssertion.{ImplicitAssertion}
use Rattle.serde_json.specs.Written.{compact_text, has_float}
use Rattle.paseto_tasks.specs.declared.arguments.Options.{Options}
use Rattle.paseto.specs.declared.commands.check.Keys.{Keys}
use Rattle.paseto.specs.declared.commands.check.Keys.TheVariants.{One, Ring}
use Rattle.paseto_keys.specs.AnyKey.{KeyParts, parts_of}
use Rattle.rusty_paseto_claims.specs.declared.error.PasetoClaimError.{PasetoClaimError}
use Rattle.rusty_paseto_generic.specs.Parsers.Parsing.{IsCheckFault}
use Rattle.rusty_paseto_generic.specs.declared.error.GenericParserError.TheVariants.{ClaimError}
use Rattle.paseto.specs.ClaimLine.{IsLineOf}
use Rattle.paseto_tasks.specs.Error.{BlamesOnly, IsNoUsage, IsOfWords, IsOutside, Says, nothing}
use Rattle.paseto_tasks.specs.Input.{IsNoText, OfInput, token_of_input}
use Rattle.paseto_tasks.specs.TokenKind.{NamesKind, kind_read_by}
use Rattle.paseto_tasks.specs.declared.error.ProgramError.{ProgramError}
use Rattle.paseto_tasks.specs.declared.error.ProgramError.TheVariants.{Token}
use Rattle.paseto_tasks.specs.declared.error.token.TokenError.TheVariants.{OtherKind}
use Rattle.paseto_tasks.specs.declared.token_kind.TokenKind.{TokenKind}
use Rattle.paseto.specs.Check.{AreDemands, Demanded, IsDemanded, IsOtherFooter, ParsesByKey, demanded_rules}
use Rattle.paseto.specs.Ring.{IsRingLine, ParsesByRing}

-- the value is that of the token under the key, or under the one of the ring that its footer names
abbrev pub ParsesBy : Keys → Option (List ℕ) → Option ImplicitAssertion → List ℕ → Data → Type 0
ParsesBy (One key) footer assertion token value = ParsesByKey (parts_of key) footer assertion token value
ParsesBy (Ring keys) footer assertion token value = ParsesByRing keys.items footer assertion token value

-- the line is the JSON of the value, with no space
abbrev pub IsJsonLine : Data → List ℕ → Type 0
IsJsonLine value line = has_float value ≡ false → line ≡ compact_text value ++ (10 ∷ [])

-- the value is that of the claims of a token that is what is demanded
pub record Admits (keys : Keys) (demands : Demanded) (token : List ℕ) (value : Data) : Type 0 where
  pub parses : ParsesBy keys demands.footer demands.assertion token value
  pub is_demanded : IsDemanded demands value

-- the line is the JSON of such claims
abbrev pub ChecksBy : Keys → Demanded → List ℕ → List ℕ → Type 0
ChecksBy keys demands token line = (value : Data) × Admits keys demands token value × IsJsonLine value line

-- the same of what words demand at a moment
pub record ChecksFor (claims : List (List ℕ)) (options : Options) (now : Timestamp) (keys : Keys) (token line : List ℕ) : Type 0 where
  pub demands : Demanded
  pub are_demands : AreDemands claims options now demands
  pub utf8 : IsUtf8 token
  pub checks : ChecksBy keys demands token line

-- the token's footer is another one than words say, for one key; the keys of a ring are found by the token's own
abbrev pub IsOtherFooterFor : Keys → Option (List ℕ) → List ℕ → Type 0
IsOtherFooterFor (One key) footer token = IsOtherFooter footer token
IsOtherFooterFor (Ring keys) footer token = ⊥

-- ---- what is said of a token that is refused, beside what stands in the table of errors

-- the first fault of the token's claims under what is demanded of them, at the moment of checking
pub record IsClaimLine (keys : Keys) (demands : Demanded) (token line : List ℕ) : Type 0 where
  pub claims : Data
  pub parses : ParsesBy keys demands.footer demands.assertion token claims
  pub fault : PasetoClaimError
  pub is_fault : IsCheckFault (demanded_rules demands) claims (ClaimError fault)
  pub line_is : IsLineOf demands.claims claims demands.at fault line

abbrev pub IsCheckLine : Keys → Demanded → List ℕ → List ℕ → Type 0
IsCheckLine keys demands token line = IsRingLine token line ⊎ IsClaimLine keys demands token line

-- ---- why a token is refused

-- the value is the one that the token has under the keys
abbrev pub IsTheValueBy : Keys → Option (List ℕ) → Option ImplicitAssertion → List ℕ → Data → Type 0
IsTheValueBy keys footer assertion token value =
    ParsesBy keys footer assertion token value × ((other : Data) → ParsesBy keys footer assertion token other → other ≡ value)

-- why it has none
pub record RefusesKeys (keys : Keys) (footer : Option (List ℕ)) (assertion : Option ImplicitAssertion) (token : List ℕ) (error : ProgramError) : Type 0 where
  pub none : (value : Data) → ¬ ParsesBy keys footer assertion token value
  pub no_usage : IsNoUsage error
  pub said : Says (IsRingLine token) error
  pub blames : BlamesOnly (record nothing { other_footer = IsOtherFooterFor keys footer token }) error

-- why it is not what is demanded
pub record RefusesDemands (keys : Keys) (demands : Demanded) (token : List ℕ) (error : ProgramError) : Type 0 where
  pub none : (line : List ℕ) → ¬ ChecksBy keys demands token line
  pub no_usage : IsNoUsage error
  pub said : Says (IsCheckLine keys demands token) error
  pub blames : BlamesOnly (record nothing { other_footer = IsOtherFooterFor keys demands.footer token }) error

-- why words print nothing for an input at a moment: they demand nothing, or the input is no text, or it is not what they
-- demand
abbrev pub RefusesCheck : List (List ℕ) → Options → Timestamp → Keys → Option (List ℕ) → ProgramError → Type 0
RefusesCheck claims options now keys known error =
    (((demands : Demanded) → ¬ AreDemands claims options now demands) × IsOfWords error × ¬ IsOutside error)
    ⊎ ((demands : Demanded) × AreDemands claims options now demands
    × OfInput known (λ bytes. IsNoText bytes error ⊎ RefusesDemands keys demands (token_of_input bytes) error))

-- the error names the kind that a token begins with, and the one that a key reads
abbrev pub NamesKinds : List ℕ → KeyParts → ProgramError → Type 0
NamesKinds token key error = (kind : TokenKind) × NamesKind kind token × (error ≡ Token (OtherKind kind (kind_read_by key.version key.kind)))
