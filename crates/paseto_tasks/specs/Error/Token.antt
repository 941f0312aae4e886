-- What is said of tokens, texts and wrapped keys that are refused.
use Rattle.std.specs.Prelude.{ℕ, List, codes, string_bytes}
use Rattle.rusty_paseto_parts.specs.Error.{error_text}
use Rattle.rusty_paseto_parts.specs.declared.error.PasetoError.{PasetoError}
use Rattle.rusty_paseto_parts.specs.declared.error.PasetoError.TheVariants.{ChaChaCipherError, Cryption, InvalidSignature, WrongHeader}
use Rattle.paseto_tasks.specs.declared.error.token.TokenError.{TokenError}
use Rattle.paseto_tasks.specs.declared.error.token.TokenError.TheVariants.{Refused, OtherKind, OddClaim, OtherFooter, NoFooter, NotAnObject, NoKeyId, NotJson, OddNumber, Jwt, NoToken, TooLong, Unfit, Wrapped}

-- what is said of a text or a token that was refused: the text of the error, but where that leaves open what to do
abbrev pub refusal_text : PasetoError → List ℕ
refusal_text Cryption = codes "wrong key, wrong footer or assertion, or the token was changed"
refusal_text ChaChaCipherError = codes "wrong key, wrong footer or assertion, or the token was changed"
refusal_text InvalidSignature = codes "wrong key, wrong footer or assertion, or the token was changed"
refusal_text WrongHeader = codes "not a token of a supported kind"
refusal_text error = error_text error

-- the same whatever the words and the input are, but for what tells of a token
abbrev pub token_text : TokenError → List ℕ
token_text (Refused error) = refusal_text error
token_text (OtherKind _ _) = codes "the token is "
token_text OddClaim = codes "--claim: a number in a claim must be a whole number of at most 64 bits"
token_text OtherFooter = codes "the token has another footer: give it by --footer or --footer-kid; paseto inspect shows it"
token_text NoFooter = codes "the token has no footer, which names its key in a ring"
token_text NotAnObject = codes "the footer of the token is not a JSON object"
token_text NoKeyId = codes "the footer of the token names no key: it has no string under kid"
token_text NotJson = codes "the text of the token is not valid JSON"
token_text OddNumber = codes "a claim of the token has a number that is not a whole number of 64 bits"
token_text Jwt = codes "a JWT, and not a PASETO token"
token_text NoToken = codes "not a PASETO token"
token_text TooLong = codes "longer than it may be: 64000000 bytes, or as many as --longest says"
token_text (Unfit line) = string_bytes line
token_text Wrapped = codes "wrong key or password, or the text was changed"
