-- The line of a public half.
use Rattle.std.proofs.Common.{◌⊎◌, ℕ, List, Ok, inl, inr, subst}
use Rattle.rusty_paseto_paserk.specs.declared.header.PaserkType.{PaserkType}
use Rattle.rusty_paseto_paserk.specs.declared.header.PaserkType.TheVariants.{Local, Secret, Public}
use Rattle.rusty_paseto_paserk.specs.declared.header.PaserkVersion.{PaserkVersion}
use Rattle.rusty_paseto_paserk.specs.declared.header.PaserkVersion.TheVariants.{V1, V2, V3, V4}
use Rattle.paseto_key_files.specs.Error.{IsMemory}
use Rattle.paseto_key_files.specs.declared.error.KeyFileError.{KeyFileError}
use Rattle.paseto_key_files.specs.declared.error.KeyFileError.TheVariants.{Memory}
use Rattle.paseto_keys.specs.AnyKey.{KeyParts, parts_of}
use Rattle.paseto_keys.specs.PublicHalf.{GivesHalfIn}
use Rattle.paseto_keys.specs.WrittenLine.{HasNoLine}
use Rattle.paseto_keys.specs.declared.any_key.AnyKey.{AnyKey}
use Rattle.paseto_tasks.specs.Error.{Fails, key_file_error_of, nothing}

-- a public half always has a line
half_lined : (kind : PaserkType) (version : PaserkVersion) (bytes : List ℕ) (half : AnyKey) (error : KeyFileError) → GivesHalfIn kind version bytes (Ok half)
    → HasNoLine (parts_of half).kind (parts_of half).version (parts_of half).bytes error → ⊥
half_lined Local version bytes half error is none = absurd (cc)
half_lined Public version bytes half error is none = absurd (cc)
half_lined Secret V1 bytes half error is none = (subst (λ (k : KeyParts). HasNoLine k.kind k.version k.bytes error) is.ok.2 none).1 is.ok.1
half_lined Secret V2 bytes half error is none = subst (λ (k : KeyParts). HasNoLine k.kind k.version k.bytes error) is.ok.1 none
half_lined Secret V3 bytes half error is none = subst (λ (k : KeyParts). HasNoLine k.kind k.version k.bytes error) is.ok.1 none
half_lined Secret V4 bytes half error is none = subst (λ (k : KeyParts). HasNoLine k.kind k.version k.bytes error) is.ok.1 none

-- where it is not written, memory was refused
pub half_unwritten : (key : KeyParts) (half : AnyKey) (error : KeyFileError) → GivesHalfIn key.kind key.version key.bytes (Ok half)
    → IsMemory error ⊎ HasNoLine (parts_of half).kind (parts_of half).version (parts_of half).bytes error → Fails nothing (key_file_error_of error)
half_unwritten key half (Memory source) is h = (tt, tt)
half_unwritten key half error is (inl memory) = absurd memory
half_unwritten key half error is (inr none) = absurd (half_lined key.kind key.version key.bytes half error is none)
