-- What is answered for the claims of a token.
use Rattle.std.proofs.Common.{◌≡◌, true, false, ℕ, List, length, Option, Result, Ok, Err, String, Global, string_bytes, ap, refl}
use Rattle.serde_json.specs.declared.value.Value.{Value}
use Rattle.rusty_paseto_parts.specs.Limit.{is_beyond}
use Rattle.rusty_paseto_parts.specs.declared.error.PasetoError.{PasetoError}
use Rattle.rusty_paseto_parts.specs.declared.error.PasetoError.TheVariants.{Memory, TooLong}
use Rattle.rusty_paseto_core.specs.Reading.{Reading}
use Rattle.rusty_paseto_generic.specs.Error.Parser.{of_cipher}
use Rattle.rusty_paseto_generic.specs.Parsers.Parsing.{IsTextAnswer}
use Rattle.rusty_paseto_generic.specs.Parsers.Rules.{Rules}
use Rattle.rusty_paseto_generic.specs.Validator.{Verdict}
use Rattle.rusty_paseto_generic.specs.declared.error.GenericParserError.{GenericParserError}
use Rattle.rusty_paseto_generic.specs.declared.error.GenericParserError.TheVariants.{CipherError}
use Rattle.rusty_paseto_generic.proofs.ParseLemmas.{parse_answer}
use Rattle.paseto_keys.specs.Claims.{Admits, admitted}
use Rattle.paseto_keys.specs.Error.{admit_error_in, admit_error_of, key_error_of}
use Rattle.paseto_keys.specs.Tokens.{Reads}
use Rattle.paseto_keys.specs.declared.error.AdmitError.TheVariants.{Parser}
use Rattle.paseto_keys.specs.declared.error.KeyError.{KeyError}

-- a token that a key refuses is refused as a parser refuses it
same_refusal : (error : PasetoError) → admit_error_of (key_error_of error) ≡ admit_error_in (of_cipher error)
same_refusal (Memory source) = refl
same_refusal error = refl

module _ (longest : Option ℕ) (reading : Reading) (rules : Rules Verdict) (token : List ℕ) where
  -- a token beyond the limit
  pub too_long : is_beyond longest (length token) ≡ true → Admits longest reading rules token (Err (Parser (CipherError TooLong)))
  too_long is = (Err (CipherError TooLong), refl, record { long = λ _. refl; answer = λ other. absurd (cc (is, other)) })

  module _ (short : is_beyond longest (length token) ≡ false) where
    -- a token that the key refuses
    pub refused : (error : KeyError) → Reads reading token (Err error) → Admits longest reading rules token (Err (admit_error_of error))
    refused error (Ok text, same, is) = absurd (cc same)
    refused error (Err source, same, is) =
        let own : error ≡ key_error_of source = cc same in
        rw own (
          Err (of_cipher source),
          ap Err (same_refusal source),
          record {
            long = λ other. absurd (cc (short, other));
            answer = λ _. parse_answer reading rules token (Err source) _ is refl;
          },
        )

    -- a token that it reads as a text
    pub read : (text : String Global) → Reads reading token (Ok text) → (value : Result Value GenericParserError)
        → IsTextAnswer rules (string_bytes text) value → Admits longest reading rules token (admitted value)
    read text (Ok own, same, is) value checked =
        let known : own ≡ text = cc same in (
          value,
          refl,
          record {
            long = λ other. absurd (cc (short, other));
            answer = λ _. parse_answer reading rules token (Ok text) value (rw known at is) checked;
          },
        )
    read text (Err source, same, is) value checked = absurd (cc same)
