-- What is said of errors.
use Rattle.std.specs.Prelude.{⊤, ℕ, List, codes}
use Rattle.rusty_paseto_paserk.specs.declared.header.PaserkVersion.TheVariants.{V1, V2, V3, V4}
use Rattle.paseto_wrapping.specs.declared.header.WrappedType.TheVariants.{LocalWrap, SecretWrap, LocalPassword, SecretPassword, Seal}
use Rattle.paseto_wrapping.specs.declared.error.WrapError.{WrapError}
use Rattle.paseto_wrapping.specs.declared.error.WrapError.TheVariants.{NoWrappedKey, OtherVersion, OtherType, InvalidText, InvalidNonce, LongPassword, InvalidCost, TooCostly, InvalidPrivateKey, InvalidPoint, SmallOrder, WrongKey, InvalidKey, Memory}

-- memory was refused
abbrev pub IsMemory : WrapError → Type 0
IsMemory (Memory _) = ⊤
IsMemory _ = ⊥

-- what each error says
abbrev pub error_text : WrapError → List ℕ
error_text NoWrappedKey = codes "the text is no wrapped key of PASERK"
error_text (OtherVersion V1) = codes "the wrapped key is one of version 1"
error_text (OtherVersion V2) = codes "the wrapped key is one of version 2"
error_text (OtherVersion V3) = codes "the wrapped key is one of version 3"
error_text (OtherVersion V4) = codes "the wrapped key is one of version 4"
error_text (OtherType LocalWrap) = codes "the wrapped key is a local one, under a wrapping key"
error_text (OtherType SecretWrap) = codes "the wrapped key is a private one, under a wrapping key"
error_text (OtherType LocalPassword) = codes "the wrapped key is a local one, under a password"
error_text (OtherType SecretPassword) = codes "the wrapped key is a private one, under a password"
error_text (OtherType Seal) = codes "the wrapped key is a local one, sealed to a public key"
error_text InvalidText = codes "what follows the header is no base64url of a wrapped key, or was cut off"
error_text InvalidNonce = codes "the salt or the nonce has another length than the version asks for"
error_text LongPassword = codes "the password has 4 GiB or more"
error_text InvalidCost = codes "the cost of the password is one that its function does not allow"
error_text TooCostly = codes "the text asks for a costlier password than the bound allows"
error_text InvalidPrivateKey = codes "the private key is none of the version"
error_text InvalidPoint = codes "the public key is no point of the curve"
error_text SmallOrder = codes "the public key is of small order"
error_text WrongKey = codes "wrong key or password, or the text was changed"
error_text InvalidKey = codes "what was wrapped is no key of the version"
error_text (Memory _) = codes "out of memory"
