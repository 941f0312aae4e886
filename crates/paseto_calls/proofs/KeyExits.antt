-- What a call answers for a key that is read, made or written.
use Rattle.std.proofs.Common.{◌≡◌, ◌⊎◌, inl, inr, ℕ, List, [], ◌∷◌, Option, None, Result, Ok, Err, MatchResult, refl}
use Rattle.std.specs.Bool.{⊤}
use Rattle.paseto_key_files.specs.Error.{IsMemory}
use Rattle.paseto_key_files.specs.declared.error.KeyFileError.{KeyFileError}
use Rattle.paseto_key_files.specs.declared.error.KeyFileError.TheVariants as File
use Rattle.paseto_key_files.specs.declared.openers.Openers.{Openers}
use Rattle.paseto_keys.specs.AnyKey.{KeyParts, parts_of}
use Rattle.rusty_paseto_paserk.specs.declared.header.PaserkType.{PaserkType}
use Rattle.rusty_paseto_paserk.specs.declared.header.PaserkType.TheVariants.{Local, Secret, Public}
use Rattle.rusty_paseto_paserk.specs.declared.header.PaserkVersion.{PaserkVersion}
use Rattle.rusty_paseto_paserk.specs.declared.header.PaserkVersion.TheVariants.{V1, V2, V3, V4}
use Rattle.paseto_keys.specs.Generation.{Generates}
use Rattle.paseto_keys.specs.declared.error.KeyError.{KeyError}
use Rattle.paseto_keys.specs.Unlock.{UnlocksKey}
use Rattle.paseto_keys.specs.WrittenLine.{HasNoLine}
use Rattle.paseto_keys.specs.declared.any_key.AnyKey.{AnyKey}
use Rattle.paseto_calls.specs.HeldKey.{Fits, IsHeld, key_fault, named_by}
use Rattle.paseto_calls.specs.KeyCalls.{IsLineless, IsOpenedBy, IsOpeningFault, key_writing, making, opening, unwrapping}
use Rattle.paseto_calls.specs.Arguments.{AreUtf8}
use Rattle.paseto_calls.specs.Refusal.{file_refusal}
use Rattle.paseto_calls.specs.Request.{AreTaken, IsKeyMade, Makes, Refuses, no_memory, refused, status_line}
use Rattle.paseto_calls.specs.declared.held_key.HeldKey.{HeldKey}
use Rattle.paseto_calls.specs.declared.refusal.Refusal.{Refusal}
use Rattle.paseto_calls.specs.declared.refusal.Refusal.TheVariants.{InvalidKey, Memory}
use Rattle.paseto_calls.specs.declared.wanted.Wanted.TheVariants.{Writers}

-- a failed allocation stays one
pub memory_of_file : (error : KeyFileError) → IsMemory error → file_refusal error ≡ Memory
memory_of_file (File.Memory source) memory = refl
memory_of_file error memory = absurd memory

-- ---- texts of keys

module _ (fault : Option Refusal) (IsLine : List ℕ → Type 0) (HasNone : Refusal → Type 0) (fine : fault ≡ None) where
  form_taken : AreTaken (key_writing fault IsLine HasNone)
  form_taken = record { fine = fine; texts = tt }

  pub form_makes : (text : List ℕ) → IsLine text → Makes (key_writing fault IsLine HasNone) text
  form_makes text is = record { taken = form_taken; makes = is }

  pub form_refuses : (refusal : Refusal) → (refusal ≡ Memory) ⊎ HasNone refusal → Refuses (key_writing fault IsLine HasNone) refusal (status_line refusal)
  form_refuses refusal (inl memory) = rw memory no_memory
  form_refuses refusal (inr none) = refused refusal form_taken none

-- a key has no line
pub lineless : (key : KeyParts) (error : KeyFileError) → IsMemory error ⊎ HasNoLine key.kind key.version key.bytes error
    → (file_refusal error ≡ Memory) ⊎ IsLineless key (file_refusal error)
lineless key error (inl memory) = inl (memory_of_file error memory)
lineless key error (inr none) = inr (error, none, refl)

-- ---- keys of texts

module _ (fault : Option Refusal) (Opens : Openers → Type 0) (text : List ℕ) (fine : fault ≡ None) (openers : Openers) (opens : Opens openers) where
  pub opening_made : (result : Result HeldKey Refusal) → AreUtf8 (text ∷ [])
      → MatchResult result (λ held. (key : KeyParts) × UnlocksKey openers text key × Fits key × IsHeld key held) (IsOpeningFault openers text)
      → IsKeyMade (opening fault Opens text) result
  opening_made (Ok held) texts found =
      (found.0, record { taken = record { fine = fine; texts = texts }; makes = (openers, opens, found.1, found.2) }, found.3)
  opening_made (Err refusal) texts reason = refused refusal (record { fine = fine; texts = texts }) (openers, opens, reason)

-- the key that a text opens as, where there is room for it
pub opened_held : (openers : Openers) (text : List ℕ) (key : KeyParts) → UnlocksKey openers text key → (result : Result HeldKey Refusal)
    → MatchResult result (λ held. Fits key × IsHeld key held) (λ refusal. (refusal ≡ InvalidKey) × ¬ Fits key)
    → MatchResult result (λ held. (found : KeyParts) × UnlocksKey openers text found × Fits found × IsHeld found held) (IsOpeningFault openers text)
opened_held openers text key unlocks (Ok held) found = (key, unlocks, found.0, found.1)
opened_held openers text key unlocks (Err refusal) none = inr (key, unlocks, none.1, none.0)

-- ---- keys that are made

module _ {E : Type 0} (fault : Option Refusal) (Answers : Result AnyKey E → Type 0) (refusal_of : E → Refusal) (fine : fault ≡ None) where
  making_taken : AreTaken (making fault Answers refusal_of)
  making_taken = record { fine = fine; texts = tt }

  pub making_held : (key : AnyKey) → Answers (Ok key) → (result : Result HeldKey Refusal)
      → MatchResult result (λ held. Fits (parts_of key) × IsHeld (parts_of key) held) (λ refusal. (refusal ≡ InvalidKey) × ¬ Fits (parts_of key))
      → IsKeyMade (making fault Answers refusal_of) result
  making_held key answers (Ok held) found =
      (parts_of key, record { taken = making_taken; makes = (key, answers, refl, found.0) }, found.1)
  making_held key answers (Err refusal) none = refused refusal making_taken (inr (key, answers, none.1, none.0))

  pub making_refuses : (error : E) → Answers (Err error) → Refuses (making fault Answers refusal_of) (refusal_of error) (status_line (refusal_of error))
  making_refuses error answers = refused (refusal_of error) making_taken (inl (error, answers, refl))

-- ---- keys that another key opens

module _ (text : List ℕ) (opener : HeldKey) (fine : key_fault Writers opener ≡ None) (texts : AreUtf8 (text ∷ [])) where
  unwrapping_taken : AreTaken (unwrapping text opener)
  unwrapping_taken = record { fine = fine; texts = texts }

  -- the opener has no line
  pub line_refuses : (error : KeyFileError)
      → IsMemory error ⊎ HasNoLine (named_by opener).kind (named_by opener).version (named_by opener).bytes error
      → Refuses (unwrapping text opener) (file_refusal error) (status_line (file_refusal error))
  line_refuses error (inl memory) = rw (memory_of_file error memory) no_memory
  line_refuses error (inr none) = refused (file_refusal error) unwrapping_taken (inl (error, none, refl))

  pub unwrapping_made : (openers : Openers) → IsOpenedBy (named_by opener) openers → (result : Result HeldKey Refusal)
      → MatchResult result (λ held. (key : KeyParts) × UnlocksKey openers text key × Fits key × IsHeld key held) (IsOpeningFault openers text)
      → IsKeyMade (unwrapping text opener) result
  unwrapping_made openers opens (Ok held) found =
      (found.0, record { taken = unwrapping_taken; makes = (openers, opens, found.1, found.2) }, found.3)
  unwrapping_made openers opens (Err refusal) reason = refused refusal unwrapping_taken (inr (openers, opens, reason))

-- whether the generator was called is not asked
pub called : (kind : PaserkType) (version : PaserkVersion) (IsDrawn : List ℕ → Type 0) (Failure IsNotCalled : Type 0) (answer : Result AnyKey KeyError)
    → Generates kind version IsDrawn Failure IsNotCalled answer → Generates kind version IsDrawn Failure ⊤ answer
called Local version IsDrawn Failure IsNotCalled answer is = is
called Secret V1 IsDrawn Failure IsNotCalled answer is = (is.0, tt)
called Secret V2 IsDrawn Failure IsNotCalled answer is = is
called Secret V3 IsDrawn Failure IsNotCalled answer is = is
called Secret V4 IsDrawn Failure IsNotCalled answer is = is
called Public version IsDrawn Failure IsNotCalled answer is = (is.0, tt)
