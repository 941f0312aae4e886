use Rattle.std.proofs.Common.{◌≡◌, ◌≢◌, refl}
use Rattle.rusty_paseto_parts.specs.Error.{error_text}
use Rattle.rusty_paseto_parts.specs.declared.error.PasetoError.{PasetoError}
use Rattle.rusty_paseto_parts.specs.declared.error.PasetoError.TheVariants as Token
use Rattle.paseto_calls.specs.ErrorText.{status_text}
use Rattle.paseto_calls.specs.Refusal.{status_of, token_refusal}
use Rattle.paseto_calls.specs.declared.refusal.Refusal.TheVariants.{Other}
use Rattle.paseto_calls.proofs.laws.statuses_say_the_errors.Goals as goal

said : (error : PasetoError) → token_refusal error ≢ Other → status_text (status_of (token_refusal error)) ≡ error_text error
said (Token.PasetoCipherError' _ _) known = absurd (known refl)
said Token.Cryption known = refl
said Token.InvalidKey known = refl
said Token.Signature known = refl
said Token.KeyRejected known = refl
said Token.Cipher known = absurd (known refl)
said Token.RsaCipher known = refl
said Token.ECSDAError known = absurd (known refl)
said Token.InvalidLength known = absurd (known refl)
said Token.InvalidSignature known = refl
said Token.TryFromSlice known = absurd (known refl)
said Token.IncorrectSize known = refl
said Token.WrongHeader known = refl
said Token.FooterInvalid known = refl
said (Token.PayloadBase64Decode _) known = refl
said (Token.Utf8Error _) known = refl
said Token.ChaChaCipherError known = refl
said Token.Infallibale known = absurd (known refl)
said Token.FromUtf8Error known = refl
said (Token.Memory _) known = refl
said Token.TooLong known = refl

pub returns : goal.returns
returns c = said
