-- The command `explain`.
use Rattle.std.specs.Prelude.{◌≡◌, ◌⊎◌, ℕ, List, ◌++◌, All, codes, string_bytes}
use Rattle.std.specs.Str.Lines.{lines}
use Rattle.rusty_paseto_core.specs.Context.{footer_of}
use Rattle.rusty_paseto_paserk.specs.declared.header.PaserkType.{PaserkType}
use Rattle.rusty_paseto_paserk.specs.declared.header.PaserkType.TheVariants.{Local, Public}
use Rattle.paseto_keys.specs.AnyKey.{KeyParts}
use Rattle.paseto_tasks.specs.declared.arguments.Options.{Options}
use Rattle.paseto_tasks.specs.declared.error.ProgramError.{ProgramError}
use Rattle.paseto_tasks.specs.declared.explain.Explanation.{Explanation}
use Rattle.paseto_tasks.specs.declared.explain.Explanation.TheVariants.{Issued, Forged}
use Rattle.paseto_tasks.specs.declared.spelling.Spelling.{Spelling}
use Rattle.paseto_tasks.specs.Input.{IsNoText, token_of_input}
use Rattle.paseto_tasks.specs.Shown.{Shows}
use Rattle.paseto_tasks.specs.Spelling.{IsFirst, IsNoSpelling, issued_text}
use Rattle.paseto_tasks.specs.Tokens.{Fits, RefusesKey, RefusesReading}

-- the type of the keys that are taken: those that read tokens, and for a private one, which reads none, public ones
abbrev pub reader_type : PaserkType → PaserkType
reader_type Local = Local
reader_type _ = Public

-- what is printed of a forgery
abbrev pub forged_text : List ℕ → List ℕ
forged_text shown = codes "forged: in no line of the file\n" ++ shown

-- the token opens, and was issued: what is printed tells the first line that is the token, and how the token is spelled
pub record TellsIssued (key : KeyParts) (options : Options) (issued token printed : List ℕ) : Type 0 where
  pub shown : List ℕ
  pub place : ℕ
  pub spelling : Spelling
  pub fits : Fits (reader_type key.kind) options key
  pub shows : Shows key options token shown
  pub first : IsFirst (footer_of options.footer) token (lines issued) place spelling
  pub printed_is : printed ≡ issued_text place spelling

-- the token opens, and no line is the token: what is printed tells what the token shows
pub record TellsForged (key : KeyParts) (options : Options) (issued token printed : List ℕ) : Type 0 where
  pub shown : List ℕ
  pub fits : Fits (reader_type key.kind) options key
  pub shows : Shows key options token shown
  pub new : All (IsNoSpelling (footer_of options.footer) token) (lines issued)
  pub printed_is : printed ≡ forged_text shown

abbrev pub Explains : KeyParts → Options → List ℕ → List ℕ → Explanation → Type 0
Explains key options issued token (Issued printed) = TellsIssued key options issued token (string_bytes printed)
Explains key options issued token (Forged printed) = TellsForged key options issued token (string_bytes printed)

-- why nothing is printed of a token: the key does not fit, or the token is not read with it
abbrev pub RefusesShowing : KeyParts → Options → List ℕ → ProgramError → Type 0
RefusesShowing key options token error =
    RefusesKey (reader_type key.kind) options key error
    ⊎ (Fits (reader_type key.kind) options key × RefusesReading key options token error)

-- the same of an input, which may be no text
abbrev pub RefusesExplaining : KeyParts → Options → List ℕ → ProgramError → Type 0
RefusesExplaining key options input error = IsNoText input error ⊎ RefusesShowing key options (token_of_input input) error
