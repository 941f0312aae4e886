-- The key files of a folder.
use Rattle.std.specs.Prelude.{◌≡◌, ◌≢◌, ◌==◌, ◌⊎◌, ◌∷◌, ◌++◌, ℕ, [], List, All, Result, Ok, Err, codes, length}
use Rattle.std.specs.List.{position_or_len}
use Rattle.std.specs.declared.alloc.AllocError.{AllocError}
use Rattle.rusty_paseto_paserk.specs.declared.header.PaserkType.TheVariants.{Secret}
use Rattle.paseto_keys.specs.AnyKey.{KeyParts, parts_of}
use Rattle.paseto_keys.specs.Line.{IsLineOf}
use Rattle.paseto_keys.specs.declared.any_key.AnyKey.{AnyKey}
use Rattle.paseto_tasks.specs.declared.error.ProgramError.{ProgramError}
use Rattle.paseto_tasks.specs.declared.error.ProgramError.TheVariants.{System}
use Rattle.paseto_tasks.specs.declared.error.system.SystemError.TheVariants.{Memory}
use Rattle.paseto.specs.Keys.{Holds, HoldsNoKey}
use Rattle.paseto.specs.declared.fault.Fault.{Fault}
use Rattle.paseto.specs.declared.folder.Entry.{Entry}
use Rattle.paseto.specs.declared.folder.Entry.TheVariants as entry
use Rattle.paseto.specs.declared.keys.Held.{Held}

-- the name has an ending
abbrev pub EndsIn : List ℕ → List ℕ → Type 0
EndsIn ending name = (front : List ℕ) × (name ≡ front ++ ending)

-- the name is that of a key file: `*.key`, `*.pem`, or one without a dot
abbrev pub IsKeyName : List ℕ → Type 0
IsKeyName name = EndsIn (codes ".key") name ⊎ (EndsIn (codes ".pem") name ⊎ (position_or_len (λ letter. letter == 46) name ≡ length name))

-- what a key file is to a ring: a key, or a file that cannot be used. Memory is refused only where it was in reading the file
abbrev pub entry_of : Result AnyKey ProgramError → Result Entry AllocError
entry_of (Ok key) = Ok (entry.Key key)
entry_of (Err (System (Memory source))) = Err source
entry_of (Err error) = Ok (entry.Broken error)

-- the key is one that a text holds, opened with what is held
abbrev pub IsHeldKey : Held → List ℕ → KeyParts → Type 0
IsHeldKey held text key = (line : List ℕ) × Holds held text line × IsLineOf line key

-- why a text has none: it is not opened, or its line is that of no key. Memory is refused only where it was in that
abbrev pub HoldsNoRingKey : Held → List ℕ → ProgramError → Type 0
HoldsNoRingKey held text error = (fault : Fault) × HoldsNoKey held [] text fault × (error ≡ fault.error)

-- no key is a private one
abbrev pub AreNotPrivate : List AnyKey → Type 0
AreNotPrivate keys = All (λ key. (parts_of key).kind ≢ Secret) keys

-- the key is the last private one
abbrev pub IsLastPrivate : List AnyKey → AnyKey → Type 0
IsLastPrivate keys key =
    (front : List AnyKey) × (back : List AnyKey) × (keys ≡ front ++ (key ∷ back)) × ((parts_of key).kind ≡ Secret) × AreNotPrivate back
