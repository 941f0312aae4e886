-- What C is answered where it gets no text.
use Rattle.std.specs.Prelude.{ℕ}
use Rattle.std.specs.Option.{option_map_or}
use Rattle.rusty_paseto_parts.specs.declared.error.PasetoError.{PasetoError}
use Rattle.rusty_paseto_parts.specs.declared.error.PasetoError.TheVariants as Token
use Rattle.rusty_paseto_claims.specs.Error.{Fault, fault_of, expired, use_before_available, malformed_date, missing, unexpected, invalid, duplicate}
use Rattle.rusty_paseto_claims.specs.declared.PasetoClaimError.{PasetoClaimError}
use Rattle.rusty_paseto_generic.specs.declared.error.GenericBuilderError.{GenericBuilderError}
use Rattle.rusty_paseto_generic.specs.declared.error.GenericBuilderError.TheVariants as Builder
use Rattle.rusty_paseto_generic.specs.declared.error.GenericParserError.{GenericParserError}
use Rattle.rusty_paseto_generic.specs.declared.error.GenericParserError.TheVariants as Parser
use Rattle.rusty_paseto_paserk.specs.declared.error.PaserkError.{PaserkError}
use Rattle.rusty_paseto_paserk.specs.declared.error.PaserkError.TheVariants as Paserk
use Rattle.paseto_pem.specs.declared.error.PemError.{PemError}
use Rattle.paseto_pem.specs.declared.error.PemError.TheVariants as Pem
use Rattle.rusty_paseto.specs.declared.error.KeyRingError.{KeyRingError}
use Rattle.rusty_paseto.specs.declared.error.KeyRingError.TheVariants as Ring
use Rattle.paseto_wrapping.specs.declared.error.WrapError.{WrapError}
use Rattle.paseto_wrapping.specs.declared.error.WrapError.TheVariants as Wrapped
use Rattle.paseto_key_files.specs.declared.error.KeyFileError.{KeyFileError}
use Rattle.paseto_key_files.specs.declared.error.KeyFileError.TheVariants as File
use Rattle.paseto_keys.specs.declared.error.KeyError.{KeyError}
use Rattle.paseto_keys.specs.declared.error.KeyError.TheVariants as Key
use Rattle.paseto_calls.specs.declared.refusal.Refusal.{Refusal}
use Rattle.paseto_calls.specs.declared.refusal.Refusal.TheVariants.{Memory, InvalidKey, InvalidNonce, NotUtf8, NotObject, InvalidMoment, IncorrectSize, FooterInvalid, WrongHeader, PayloadBase64Decode, Cryption, ChaChaCipherError, InvalidSignature, Utf8Error, FromUtf8Error, KeyRejected, Signature, PayloadJsonError, Expired, UseBeforeAvailable, Rfc3339Date, Missing, Unexpected, Invalid, DuplicateTopLevelPayloadClaim, Other, RsaCipher, TooLong, NotNames, NoPaserk, OtherVersion, OtherType, NotPem, EncryptedKey, OtherLabel, OtherAlgorithm, OtherCurve, OtherSize, NoAssertion, NeedsPassword, NeedsKey, WrongKey, TooCostly, InvalidOptions, NoFooter, FooterNotObject, NoKeyId, UnknownKey, Random}

-- the status of each, as in paseto.h; 0 is that of a text, and 1 that of room too short for it
abbrev pub status_of : Refusal → ℕ
status_of Memory = 2
status_of InvalidKey = 3
status_of InvalidNonce = 4
status_of NotUtf8 = 5
status_of NotObject = 6
status_of InvalidMoment = 7
status_of IncorrectSize = 8
status_of FooterInvalid = 9
status_of WrongHeader = 10
status_of PayloadBase64Decode = 11
status_of Cryption = 12
status_of ChaChaCipherError = 13
status_of InvalidSignature = 14
status_of Utf8Error = 15
status_of FromUtf8Error = 16
status_of KeyRejected = 17
status_of Signature = 18
status_of PayloadJsonError = 19
status_of Expired = 20
status_of UseBeforeAvailable = 21
status_of Rfc3339Date = 22
status_of Missing = 23
status_of Unexpected = 24
status_of Invalid = 25
status_of DuplicateTopLevelPayloadClaim = 26
status_of Other = 27
status_of RsaCipher = 28
status_of TooLong = 29
status_of NotNames = 30
status_of NoPaserk = 31
status_of OtherVersion = 32
status_of OtherType = 33
status_of NotPem = 34
status_of EncryptedKey = 35
status_of OtherLabel = 36
status_of OtherAlgorithm = 37
status_of OtherCurve = 38
status_of OtherSize = 39
status_of NoAssertion = 40
status_of NeedsPassword = 41
status_of NeedsKey = 42
status_of WrongKey = 43
status_of TooCostly = 44
status_of InvalidOptions = 45
status_of NoFooter = 46
status_of FooterNotObject = 47
status_of NoKeyId = 48
status_of UnknownKey = 49
status_of Random = 50

-- the refusal for an error of the core
abbrev pub token_refusal : PasetoError → Refusal
token_refusal (Token.Memory _) = Memory
token_refusal Token.InvalidKey = InvalidKey
token_refusal Token.IncorrectSize = IncorrectSize
token_refusal Token.FooterInvalid = FooterInvalid
token_refusal Token.WrongHeader = WrongHeader
token_refusal (Token.PayloadBase64Decode _) = PayloadBase64Decode
token_refusal Token.Cryption = Cryption
token_refusal Token.ChaChaCipherError = ChaChaCipherError
token_refusal Token.InvalidSignature = InvalidSignature
token_refusal (Token.Utf8Error _) = Utf8Error
token_refusal Token.FromUtf8Error = FromUtf8Error
token_refusal Token.KeyRejected = KeyRejected
token_refusal Token.Signature = Signature
token_refusal Token.RsaCipher = RsaCipher
token_refusal Token.TooLong = TooLong
token_refusal _ = Other

-- the refusal for a fault of claims
abbrev pub fault_refusal : Fault → Refusal
fault_refusal expired = Expired
fault_refusal (use_before_available _) = UseBeforeAvailable
fault_refusal (malformed_date _) = Rfc3339Date
fault_refusal (missing _) = Missing
fault_refusal (unexpected _) = Unexpected
fault_refusal (invalid _ _ _) = Invalid
fault_refusal (duplicate _) = DuplicateTopLevelPayloadClaim
fault_refusal _ = Other

-- the refusal for an error of claims, which names a fault, or else says that memory was refused
abbrev pub claim_refusal : PasetoClaimError → Refusal
claim_refusal error = option_map_or fault_refusal (fault_of error) Memory

-- the refusal for an error of a builder
abbrev pub builder_refusal : GenericBuilderError → Refusal
builder_refusal (Builder.Memory _) = Memory
builder_refusal (Builder.ClaimError source) = claim_refusal source
builder_refusal (Builder.CipherError source) = token_refusal source
builder_refusal (Builder.DuplicateTopLevelPayloadClaim _) = DuplicateTopLevelPayloadClaim
builder_refusal (Builder.PayloadJsonError _) = PayloadJsonError
builder_refusal (Builder.BadEmailAddress _) = Other

-- the refusal for an error of a parser
abbrev pub parser_refusal : GenericParserError → Refusal
parser_refusal (Parser.Memory _) = Memory
parser_refusal (Parser.ClaimError source) = claim_refusal source
parser_refusal (Parser.CipherError source) = token_refusal source
parser_refusal (Parser.PayloadJsonError _) = PayloadJsonError

-- the refusal for an error of a key's text
abbrev pub paserk_refusal : PaserkError → Refusal
paserk_refusal Paserk.NoKey = NoPaserk
paserk_refusal (Paserk.OtherVersion _) = OtherVersion
paserk_refusal (Paserk.OtherType _) = OtherType
paserk_refusal Paserk.InvalidKey = InvalidKey
paserk_refusal (Paserk.Memory _) = Memory

-- the refusal for an error of a key's text in PEM
abbrev pub pem_refusal : PemError → Refusal
pem_refusal Pem.NotPem = NotPem
pem_refusal Pem.TwoKeys = NotPem
pem_refusal Pem.Encrypted = EncryptedKey
pem_refusal (Pem.OtherLabel _) = OtherLabel
pem_refusal (Pem.OtherAlgorithm _) = OtherAlgorithm
pem_refusal (Pem.OtherCurve _) = OtherCurve
pem_refusal (Pem.OtherSize _) = OtherSize
pem_refusal Pem.InvalidDer = InvalidKey
pem_refusal Pem.OtherHalf = InvalidKey
pem_refusal Pem.InvalidKey = InvalidKey
pem_refusal (Pem.Memory _) = Memory

-- the refusal for an error of a key that reads or writes tokens, or is generated
abbrev pub key_refusal : KeyError → Refusal
key_refusal (Key.OtherType _) = OtherType
key_refusal Key.NoAssertion = NoAssertion
key_refusal (Key.OtherVersion _) = OtherVersion
key_refusal (Key.OtherLength _) = InvalidNonce
key_refusal (Key.Refused source) = token_refusal source
key_refusal Key.Random = InvalidNonce
key_refusal (Key.Memory _) = Memory

-- the refusal for an error of the key that opens, wraps or seals another: one whose text does not begin as PASERK is of
-- version 1, and the other key is not
abbrev pub opener_refusal : PaserkError → Refusal
opener_refusal Paserk.NoKey = OtherVersion
opener_refusal error = paserk_refusal error

-- the refusal for an error of a wrapped key
abbrev pub wrap_refusal : WrapError → Refusal
wrap_refusal Wrapped.NoWrappedKey = NoPaserk
wrap_refusal (Wrapped.OtherVersion _) = OtherVersion
wrap_refusal (Wrapped.OtherType _) = OtherType
wrap_refusal Wrapped.InvalidNonce = InvalidNonce
wrap_refusal Wrapped.LongPassword = TooLong
wrap_refusal Wrapped.TooCostly = TooCostly
wrap_refusal Wrapped.InvalidPrivateKey = KeyRejected
wrap_refusal Wrapped.WrongKey = WrongKey
wrap_refusal (Wrapped.Memory _) = Memory
wrap_refusal _ = InvalidKey

-- the refusal for an error of a key's text in any form
abbrev pub file_refusal : KeyFileError → Refusal
file_refusal File.NeedsPassword = NeedsPassword
file_refusal File.NeedsKey = NeedsKey
file_refusal (File.OtherOpener source) = opener_refusal source
file_refusal File.PublicKey = OtherType
file_refusal File.LocalInPem = OtherType
file_refusal File.NoSealing = OtherVersion
file_refusal File.SecondInPem = OtherVersion
file_refusal (File.Pem source) = pem_refusal source
file_refusal (File.Wrap source) = wrap_refusal source
file_refusal (File.Paserk source) = paserk_refusal source
file_refusal File.Random = InvalidNonce
file_refusal (File.Memory _) = Memory

-- the refusal for an error of a ring of keys
abbrev pub ring_refusal : KeyRingError → Refusal
ring_refusal (Ring.Untrusted source) = token_refusal source
ring_refusal (Ring.Token source) = token_refusal source
ring_refusal Ring.NoFooter = NoFooter
ring_refusal Ring.NotAnObject = FooterNotObject
ring_refusal Ring.NoKeyId = NoKeyId
ring_refusal (Ring.UnknownKey _) = UnknownKey
ring_refusal (Ring.Memory _) = Memory
