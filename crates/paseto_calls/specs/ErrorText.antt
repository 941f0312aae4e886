-- What each status says: the library's texts, without the names of claims and times that it puts in.
use Rattle.std.specs.Prelude.{◌≡◌, ◌≢◌, ℕ, List, codes, nat_lt, ◌==◌, if◌then◌else◌}
use Rattle.rusty_paseto_parts.specs.Error.{error_text}
use Rattle.rusty_paseto_parts.specs.declared.error.PasetoError.{PasetoError}
use Rattle.rusty_paseto_parts.specs.declared.error.PasetoError.TheVariants.{Cryption, InvalidKey, Signature, KeyRejected, InvalidSignature, IncorrectSize, WrongHeader, FooterInvalid, ChaChaCipherError, FromUtf8Error, RsaCipher, TooLong}
use Rattle.paseto_pem.specs.Error.{error_text as pem_text}
use Rattle.paseto_pem.specs.declared.found.Algorithm.TheVariants.{Unknown}
use Rattle.paseto_pem.specs.declared.found.Curve.TheVariants.{Unknown as UnknownCurve}
use Rattle.paseto_pem.specs.declared.error.PemError.TheVariants.{NotPem, Encrypted, OtherAlgorithm, OtherCurve, OtherSize}
use Rattle.paseto_calls.specs.Refusal.{status_of, token_refusal}
use Rattle.paseto_calls.specs.declared.refusal.Refusal.TheVariants.{Other}

-- of a status that says nothing of a token
abbrev pub argument_text : ℕ → List ℕ
argument_text status =
    if status == 0 then codes "No error occurred" else
    if status == 1 then codes "The room is too short" else
    if status == 2 then codes "No memory was found" else
    if status == 3 then error_text InvalidKey else
    if status == 4 then codes "The nonce or the seed has another length" else
    if status == 5 then codes "A Utf8 parsing error occurred" else
    if status == 6 then codes "The claims are not a JSON object" else
    codes "The moment is out of range"

-- of a status of a token or of a private key
abbrev pub token_text : ℕ → List ℕ
token_text status =
    if status == 8 then error_text IncorrectSize else
    if status == 9 then error_text FooterInvalid else
    if status == 10 then error_text WrongHeader else
    if status == 11 then codes "A base64 decode error occurred" else
    if status == 12 then error_text Cryption else
    if status == 13 then error_text ChaChaCipherError else
    if status == 14 then error_text InvalidSignature else
    if status == 15 then codes "A Utf8 parsing error occurred" else
    if status == 16 then error_text FromUtf8Error else
    if status == 17 then error_text KeyRejected else
    error_text Signature

-- of a status of claims
abbrev pub claim_text : ℕ → List ℕ
claim_text status =
    if status == 19 then codes "The payload was unable to be serialized into json" else
    if status == 20 then codes "This token is expired" else
    if status == 21 then codes "The token cannot be used yet" else
    if status == 22 then codes "A value is a malformed RFC3339 date" else
    if status == 23 then codes "An expected claim was not found in the payload" else
    if status == 24 then codes "Could not convert a claim to the expected data type" else
    if status == 25 then codes "A claim failed validation" else
    if status == 26 then codes "A claim appears more than once in the top level payload json" else
    codes "An unknown error occurred"

-- of a status that came later than these
abbrev pub later_text : ℕ → List ℕ
later_text status =
    if status == 28 then error_text RsaCipher else
    if status == 29 then error_text TooLong else
    if status == 30 then codes "The names of claims are not a JSON array of texts" else
    if status == 31 then codes "The text is no PASERK key" else
    if status == 32 then codes "The key is one of another version" else
    if status == 33 then codes "The key is one of another type" else
    if status == 34 then pem_text NotPem else
    if status == 35 then pem_text Encrypted else
    if status == 36 then codes "The text is another thing than such a key" else
    if status == 37 then pem_text (OtherAlgorithm Unknown) else
    if status == 38 then pem_text (OtherCurve UnknownCurve) else
    if status == 39 then pem_text (OtherSize 0) else
    codes "An unknown error occurred"

-- of a status of keys, options and footers
abbrev pub key_text : ℕ → List ℕ
key_text status =
    if status == 40 then codes "Keys of versions 1 and 2 take no implicit assertion" else
    if status == 41 then codes "The key is under a password" else
    if status == 42 then codes "The key is wrapped or sealed" else
    if status == 43 then codes "The password or the key is a wrong one, or the text was modified" else
    if status == 44 then codes "The password asks for more work than is allowed" else
    if status == 45 then codes "The options have another size" else
    if status == 46 then codes "The token has no footer" else
    if status == 47 then codes "The footer is not a JSON object" else
    if status == 48 then codes "The footer names no key" else
    if status == 49 then codes "No key has the id that the footer names" else
    if status == 50 then codes "The system returned no random bytes" else
    codes "An unknown error occurred"

-- of any status
abbrev pub status_text : ℕ → List ℕ
status_text status =
    if nat_lt status 8 then argument_text status else
    if nat_lt status 19 then token_text status else
    if nat_lt status 28 then claim_text status else
    if nat_lt status 40 then later_text status else
    key_text status

-- each error of the core that has a status of its own is said by that status
abbrev pub SayTheErrors : Type 0
SayTheErrors = (error : PasetoError) → token_refusal error ≢ Other → status_text (status_of (token_refusal error)) ≡ error_text error
