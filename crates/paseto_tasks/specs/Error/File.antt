-- What is said of keys, passwords and other files that cannot be used.
use Rattle.std.specs.Prelude.{ℕ, List, codes}
use Rattle.paseto_key_files.specs.Error.{error_text as key_file_error_text}
use Rattle.paseto_key_files.specs.declared.error.KeyFileError.TheVariants.{NeedsPassword, Pem, Random as NoBytes, Memory as NoFileMemory}
use Rattle.paseto_pem.specs.Error.{error_text as pem_error_text}
use Rattle.paseto_pem.specs.declared.error.PemError.{PemError}
use Rattle.paseto_pem.specs.declared.error.PemError.TheVariants.{NotPem, TwoKeys, Encrypted, OtherLabel, OtherAlgorithm, OtherCurve, OtherSize}
use Rattle.paseto_pem.specs.declared.found.Curve.TheVariants.{P256, P521, Explicit}
use Rattle.paseto_pem.specs.declared.label.Label.TheVariants.{EncryptedPrivateKey, OpenSshPrivateKey}
use Rattle.rusty_paseto_paserk.specs.Error.{error_text as key_error_text}
use Rattle.rusty_paseto_paserk.specs.declared.error.PaserkError.TheVariants.{Memory as NoKeyMemory}
use Rattle.paseto_tasks.specs.declared.error.file.FileError.{FileError}
use Rattle.paseto_tasks.specs.declared.error.file.FileError.TheVariants.{Key, KeyFile, EmptyKey, NotWrapped, NotSealed, NoSigner, SecondLine, TooLong, OtherHalves, NotPrivate, NoAssertion, OddPassword, NoFile, NoPermission, IsFolder, NotFolder, NoAccess, FileExists, Unwritten, NoLink, FileLeft}

-- what is said of a key that was refused as PEM: the text of the error, but where that leaves open what to do
abbrev pub pem_text : PemError → List ℕ
pem_text NotPem = codes "neither PASERK nor valid PEM"
pem_text TwoKeys = codes "more than one key: a key file has one"
pem_text Encrypted = codes "encrypted PEM: remove its password by openssl pkey -in FILE -out NEW"
pem_text (OtherLabel EncryptedPrivateKey) = codes "encrypted PEM: remove its password by openssl pkey -in FILE -out NEW"
pem_text (OtherLabel OpenSshPrivateKey) = codes "a key of OpenSSH: make another by paseto keygen or openssl genpkey"
pem_text (OtherAlgorithm _) = codes "a key of another algorithm than RSA, P-384 and Ed25519"
pem_text (OtherCurve P256) = codes "a key of P-256: version 3 takes P-384"
pem_text (OtherCurve P521) = codes "a key of P-521: version 3 takes P-384"
pem_text (OtherCurve Explicit) = codes "a curve without a name: name it by openssl ec -param_enc named_curve -in FILE -out NEW"
pem_text (OtherCurve _) = codes "a key of another curve: version 3 takes P-384"
pem_text (OtherSize _) = codes "an RSA key of another size: version 1 takes 2048 bits"
pem_text error = pem_error_text error

abbrev pub file_text : FileError → List ℕ
file_text (Key error) = key_error_text error
file_text (KeyFile (Pem error)) = pem_text error
file_text (KeyFile NeedsPassword) = codes "the key is under a password: use --password-file FILE, or\n  read -rs PASETO_PASSWORD\n  export PASETO_PASSWORD"
file_text (KeyFile error) = key_file_error_text error
file_text EmptyKey = codes "it is empty, and holds no key"
file_text NotWrapped = codes "the key is bare: it is under no password, not wrapped and not sealed"
file_text NotSealed = codes "the key is not sealed: use paseto unwrap"
file_text NoSigner = codes "no private key is in this folder"
file_text SecondLine = codes "line 2: a key file has one line of PASERK, or is PEM"
file_text TooLong = codes "too long for a key file"
file_text OtherHalves = codes "the two halves of the private key do not belong together"
file_text NotPrivate = codes "not a valid private key of its kind"
file_text NoAssertion = codes "keys of versions 1 and 2 take no implicit assertion: omit --assertion"
file_text OddPassword = codes "not a password: it must have 1 to 4095 bytes"
file_text NoFile = codes "no such file"
file_text NoPermission = codes "permission denied"
file_text IsFolder = codes "is a folder, and not a file"
file_text NotFolder = codes "not a folder, or not in one"
file_text NoAccess = codes "the file cannot be opened or created"
file_text FileExists = codes "the file already exists and is not overwritten"
file_text Unwritten = codes "the file could not be written: is the disk full?"
file_text NoLink = codes "the folder has no hard links for a new file: use standard output"
file_text FileLeft = codes "this unfinished file could not be removed"

-- the status, which is that of the system where memory, random bytes or a write failed behind the error
abbrev pub file_status : FileError → ℕ
file_status (Key (NoKeyMemory _)) = 4
file_status (KeyFile NoBytes) = 4
file_status (KeyFile (NoFileMemory _)) = 4
file_status Unwritten = 4
file_status _ = 3
