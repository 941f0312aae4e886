-- What is said of errors.
use Rattle.std.specs.Prelude.{⊤, ℕ, List, codes}
use Rattle.paseto_pem.specs.Error.{error_text as pem_text}
use Rattle.paseto_pem.specs.declared.error.PemError.{PemError}
use Rattle.paseto_pem.specs.declared.error.PemError.TheVariants.{Memory as NoPemMemory}
use Rattle.paseto_wrapping.specs.Error.{error_text as wrap_text}
use Rattle.paseto_wrapping.specs.declared.error.WrapError.{WrapError}
use Rattle.paseto_wrapping.specs.declared.error.WrapError.TheVariants.{Memory as NoWrapMemory}
use Rattle.rusty_paseto_paserk.specs.Error.{error_text as paserk_text}
use Rattle.rusty_paseto_paserk.specs.declared.header.PaserkVersion.TheVariants.{V1, V2, V3, V4}
use Rattle.rusty_paseto_paserk.specs.declared.header.PaserkType.TheVariants.{Local, Secret, Public}
use Rattle.rusty_paseto_paserk.specs.declared.error.PaserkError.{PaserkError}
use Rattle.rusty_paseto_paserk.specs.declared.error.PaserkError.TheVariants.{NoKey, OtherVersion, OtherType, InvalidKey, Memory as NoPaserkMemory}
use Rattle.paseto_key_files.specs.declared.error.KeyFileError.{KeyFileError}
use Rattle.paseto_key_files.specs.declared.error.KeyFileError.TheVariants.{NeedsPassword, NeedsKey, OtherOpener, PublicKey, NoSealing, LocalInPem, SecondInPem, Pem, Wrap, Paserk, Random, Memory}

-- memory was refused
abbrev pub IsMemory : KeyFileError → Type 0
IsMemory (Memory _) = ⊤
IsMemory _ = ⊥

-- a failed allocation is one, wherever it came
abbrev pub pem_error_of : PemError → KeyFileError
pem_error_of (NoPemMemory source) = Memory source
pem_error_of error = Pem error

abbrev pub wrap_error_of : WrapError → KeyFileError
wrap_error_of (NoWrapMemory source) = Memory source
wrap_error_of error = Wrap error

abbrev pub paserk_error_of : PaserkError → KeyFileError
paserk_error_of (NoPaserkMemory source) = Memory source
paserk_error_of error = Paserk error

-- the same of the other key: the one that opens, wraps or seals
abbrev pub opener_error_of : PaserkError → KeyFileError
opener_error_of (NoPaserkMemory source) = Memory source
opener_error_of error = OtherOpener error

-- what is said of the other key
abbrev pub opener_text : PaserkError → List ℕ
opener_text NoKey = codes "this is no PASERK key"
opener_text (OtherVersion V1) = codes "this key is one of version 1, and the other one is not"
opener_text (OtherVersion V2) = codes "this key is one of version 2, and the other one is not"
opener_text (OtherVersion V3) = codes "this key is one of version 3, and the other one is not"
opener_text (OtherVersion V4) = codes "this key is one of version 4, and the other one is not"
opener_text (OtherType Local) = codes "this key is one for local tokens, and another type is needed"
opener_text (OtherType Secret) = codes "this key is a private one, and another type is needed"
opener_text (OtherType Public) = codes "this key is a public one, and another type is needed"
opener_text InvalidKey = codes "this key was not in the correct format"
opener_text (NoPaserkMemory _) = codes "out of memory"

-- what each error says
abbrev pub error_text : KeyFileError → List ℕ
error_text NeedsPassword = codes "the key is under a password: give it by --password-file or PASETO_PASSWORD"
error_text NeedsKey = codes "the key is wrapped or sealed: name the key that opens it by --unlock-key"
error_text (OtherOpener error) = opener_text error
error_text PublicKey = codes "the key is public: it needs no password and no wrapping key"
error_text NoSealing = codes "keys of version 1 are neither sealed nor unsealed here"
error_text LocalInPem = codes "keys for local tokens have no PEM text"
error_text SecondInPem = codes "keys of version 2 have no PEM text of their own: it would be read as one of version 4"
error_text (Pem error) = pem_text error
error_text (Wrap error) = wrap_text error
error_text (Paserk error) = paserk_text error
error_text Random = codes "the system returned no random bytes"
error_text (Memory _) = codes "out of memory"
