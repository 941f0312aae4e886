-- What is said of errors.
use Rattle.std.specs.Prelude.{◌≡◌, ⊤, ℕ, List, codes, drop}
use Rattle.std.specs.declared.str.Utf8Error.{Utf8Error as Utf8Fault}
use Rattle.std.specs.Str.{error_len, valid_up_to}
use Rattle.std.specs.Str.Lossy.{utf8_error_len, utf8_valid_len}
use Rattle.rusty_paseto_parts.specs.declared.error.PasetoError.{PasetoError}
use Rattle.rusty_paseto_parts.specs.declared.error.PasetoError.TheVariants.{PasetoCipherError', Cryption, InvalidKey, Signature, KeyRejected, Cipher, RsaCipher, ECSDAError, InvalidLength, InvalidSignature, TryFromSlice, IncorrectSize, WrongHeader, FooterInvalid, PayloadBase64Decode, Utf8Error, ChaChaCipherError, Infallibale, FromUtf8Error, Memory, TooLong}

-- memory was refused
abbrev pub IsMemory : PasetoError → Type 0
IsMemory (Memory _) = ⊤
IsMemory _ = ⊥

-- what the reading of the bytes as UTF-8 finds: how many of them are text, and how long the fault behind them is
abbrev pub IsUtf8Fault : List ℕ → Utf8Fault → Type 0
IsUtf8Fault bytes fault = (valid_up_to fault ≡ utf8_valid_len bytes)
    × (error_len fault ≡ utf8_error_len (drop (valid_up_to fault) bytes))

-- what each error says
abbrev pub error_text : PasetoError → List ℕ
error_text (PasetoCipherError' _ _) = codes "A cipher error occurred"
error_text Cryption = codes "An unspecified cryption error occured"
error_text InvalidKey = codes "Key was not in the correct format"
error_text Signature = codes "Could not assemble final signature."
error_text KeyRejected = codes "A private RSA key was not in the correct format"
error_text Cipher = codes "An unspecified cipher error occurred"
error_text RsaCipher = codes "An unspecified cipher error occurred"
error_text ECSDAError = codes "An unspecified ECSDA error occurred"
error_text InvalidLength = codes "An unspecified cipher error occurred"
error_text InvalidSignature = codes "The token signature could not be verified"
error_text TryFromSlice = codes "A slice conversion error occurred"
error_text IncorrectSize = codes "This string has an incorrect number of parts and cannot be parsed into a token"
error_text WrongHeader = codes "The token header is invalid"
error_text FooterInvalid = codes "The provided footer is invalid"
error_text (PayloadBase64Decode _) = codes "A base64 decode error occurred"
error_text (Utf8Error _) = codes "A Utf8 parsing error occurred"
error_text ChaChaCipherError = codes "An unspecified cipher error occurred"
error_text Infallibale = codes "A Utf8 parsing error occurred"
error_text FromUtf8Error = codes "A Utf8 parsing error occurred"
error_text (Memory _) = codes "No memory was found"
error_text TooLong = codes "The token or its footer is longer than allowed"
