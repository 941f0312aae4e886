-- No refusal has a text of its own.
use Rattle.std.proofs.Common.{ℕ, List, Option, false, inl, inr, sym, subst}
use Rattle.rusty_paseto_parts.specs.declared.error.PasetoError.{PasetoError}
use Rattle.rusty_paseto_parts.specs.declared.error.PasetoError.TheVariants.{KeyRejected, Signature, WrongHeader}
use Rattle.rusty_paseto_paserk.specs.declared.header.PaserkType.{PaserkType}
use Rattle.paseto_keys.specs.AnyKey.{KeyParts}
use Rattle.paseto_keys.specs.declared.error.KeyError.TheVariants.{Refused as RefusedToken}
use Rattle.paseto_tasks.specs.declared.arguments.Options.{Options}
use Rattle.paseto_tasks.specs.declared.arguments.Task.{Task}
use Rattle.paseto_tasks.specs.declared.arguments.Task.TheVariants.{Encrypt, Decrypt, Sign, Verify}
use Rattle.paseto_tasks.specs.declared.error.ProgramError.{ProgramError}
use Rattle.paseto_tasks.specs.declared.token_kind.TokenKind.{TokenKind}
use Rattle.paseto_tasks.specs.Error.{IsFixed, IsOutside, IsPlain, IsTokenError, token_error_of}
use Rattle.paseto_tasks.specs.Explain.{RefusesExplaining}
use Rattle.paseto_tasks.specs.Inspect.{RefusesInspecting}
use Rattle.paseto_tasks.specs.Input.{IsNoText, token_of_input, uncommented}
use Rattle.paseto_tasks.specs.Run.{RefusesOf}
use Rattle.paseto_tasks.specs.Tokens.{RefusesInput, RefusesKey, RefusesReading, RefusesText, RefusesToken}

key_fixed : (wanted : PaserkType) (options : Options) (key : KeyParts) (error : ProgramError) → RefusesKey wanted options key error → IsFixed error
key_fixed wanted options key error (inl other) = subst IsFixed (sym other.1) tt
key_fixed wanted options key error (inr unbound) = subst IsFixed (sym unbound.2) tt

no_text_fixed : (bytes : List ℕ) (error : ProgramError) → IsNoText bytes error → IsFixed error
no_text_fixed bytes error none = subst IsFixed (sym none.1.1) tt

-- a refused token blames nothing else
pub token_plain : (source : PasetoError) → IsPlain (token_error_of source)
token_plain Signature = (tt, tt)
token_plain KeyRejected = (tt, tt)
token_plain source = (tt, tt)

-- nor does it come from outside
pub token_inside : (source : PasetoError) → ¬ IsOutside (token_error_of source)
token_inside Signature outside = outside
token_inside KeyRejected outside = outside
token_inside source outside = outside

token_fixed : (token : List ℕ) (kind : TokenKind) (source : PasetoError) (error : ProgramError) → IsTokenError token kind (RefusedToken source) error → IsFixed error
token_fixed token kind WrongHeader error told = subst IsFixed (sym told.2) tt
token_fixed token kind source error told = subst IsFixed (sym told) (token_plain source).0

reading_fixed : (key : KeyParts) (options : Options) (token : List ℕ) (error : ProgramError) → RefusesReading key options token error → IsFixed error
reading_fixed key options token error refused = token_fixed token _ refused.source error refused.told

read_fixed : (key : KeyParts) (options : Options) (input : List ℕ) (error : ProgramError) → RefusesToken key options input error → IsFixed error
read_fixed key options input error (inl none) = no_text_fixed input error none
read_fixed key options input error (inr refused) = reading_fixed key options (token_of_input input) error refused

text_fixed : (key : KeyParts) (options : Options) (IsDrawn : ℕ → List ℕ → Type 0) (text : List ℕ) (error : ProgramError) → RefusesText key options IsDrawn text error → IsFixed error
text_fixed key options IsDrawn text error (inl none) = no_text_fixed text error none
text_fixed key options IsDrawn text error (inr declined) = subst IsFixed (sym declined.told) (token_plain declined.source).0

input_fixed : (task : Task) (key : KeyParts) (options : Options) (IsDrawn : ℕ → List ℕ → Type 0) (input : List ℕ) (error : ProgramError)
    → RefusesInput task key options IsDrawn input error → IsFixed error
input_fixed Encrypt key options IsDrawn input error refused = text_fixed key options IsDrawn input error refused
input_fixed Decrypt key options IsDrawn input error refused = read_fixed key options input error refused
input_fixed Sign key options IsDrawn input error refused = text_fixed key options IsDrawn input error refused
input_fixed Verify key options IsDrawn input error refused = read_fixed key options input error refused

pub refuses_fixed : (task : Task) (options : Options) (IsDrawn : ℕ → List ℕ → Type 0) (key : KeyParts) (known : Option (List ℕ)) (error : ProgramError)
    → RefusesOf task options IsDrawn key known error → IsFixed error
refuses_fixed task options IsDrawn key known error (inl refused) = key_fixed _ options key error refused
refuses_fixed task options IsDrawn key known error (inr refused) = input_fixed task key options IsDrawn refused.1.0 error refused.1.2

pub explaining_fixed : (key : KeyParts) (options : Options) (input : List ℕ) (error : ProgramError) → RefusesExplaining key options input error → IsFixed error
explaining_fixed key options input error (inl none) = no_text_fixed input error none
explaining_fixed key options input error (inr (inl refused)) = key_fixed _ options key error refused
explaining_fixed key options input error (inr (inr refused)) = reading_fixed key options (token_of_input input) error refused.1

pub inspecting_fixed : (input : List ℕ) (error : ProgramError) → RefusesInspecting input error → IsFixed error
inspecting_fixed input error (inl none) = no_text_fixed (uncommented false input) error none
inspecting_fixed input error (inr refused) = refused.1.0
