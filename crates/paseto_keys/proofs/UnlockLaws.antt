-- Key files that are read as keys.
use Rattle.std.proofs.Common.{ℕ, List, Ok, Err, Result, String, Global, string_bytes, inl, inr, sym, subst}
use Rattle.paseto_key_files.specs.Held.{GivesLine}
use Rattle.paseto_key_files.specs.Opening.{Unlocks, UnlocksNone}
use Rattle.paseto_key_files.specs.declared.error.KeyFileError.{KeyFileError}
use Rattle.paseto_key_files.specs.declared.openers.Openers.{Openers}
use Rattle.paseto_keys.specs.AnyKey.{KeyParts}
use Rattle.paseto_keys.specs.Line.{GivesKey, IsLineFault, IsLineOf}
use Rattle.paseto_keys.specs.Unlock.{IsUnlockFault, UnlocksKey}
use Rattle.paseto_keys.specs.declared.any_key.AnyKey.{AnyKey}

module _ (openers : Openers) (text : List ℕ) where
  module _ (line : String Global) (opens : GivesLine (Unlocks openers text) (UnlocksNone openers text) (Ok line)) where
    one_line : (key : KeyParts) → UnlocksKey openers text key → IsLineOf (string_bytes line) key
    one_line key h = subst (λ (l : List ℕ). IsLineOf l key) (sym (opens.read h.0 h.1)) h.2

    pub unlocked_key : (answer : Result AnyKey KeyFileError) → GivesKey (IsLineOf (string_bytes line)) (IsLineFault (string_bytes line)) answer
        → GivesKey (UnlocksKey openers text) (IsUnlockFault openers text) answer
    unlocked_key (Ok key) gives = record {
      found = (string_bytes line, opens.found, gives.found);
      read = λ other h. gives.read other (one_line other h);
      refused = tt;
    }
    unlocked_key (Err error) gives = record {
      found = tt;
      read = λ other h. gives.read other (one_line other h);
      refused = inr (string_bytes line, opens.found, gives.refused);
    }

  pub not_unlocked : (error : KeyFileError) → GivesLine (Unlocks openers text) (UnlocksNone openers text) (Err error)
      → GivesKey (UnlocksKey openers text) (IsUnlockFault openers text) (Err error)
  not_unlocked error opens = record { found = tt; read = λ key h. opens.read h.0 h.1; refused = inl opens.refused }
