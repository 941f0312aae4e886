-- Tokens under keys that C holds.
use Rattle.std.specs.Prelude.{◌≡◌, ◌≢◌, ◌⊎◌, ℕ, Bool, List, [], ◌∷◌, length, take, Option, None}
use Rattle.rusty_paseto_parts.specs.declared.error.PasetoError.{PasetoError}
use Rattle.rusty_paseto_core.specs.Public.{message, v1_public, v2_public, v3_public, v4_public}
use Rattle.rusty_paseto_core.specs.Reading.{IsFault, IsRead, Reading}
use Rattle.rusty_paseto_paserk.specs.declared.header.PaserkType.TheVariants.{Local, Secret}
use Rattle.rusty_paseto_paserk.specs.declared.header.PaserkVersion.{PaserkVersion}
use Rattle.rusty_paseto_paserk.specs.declared.header.PaserkVersion.TheVariants.{V1, V2, V3, V4}
use Rattle.paseto_ed25519.specs.Ed25519 as ed25519
use Rattle.paseto_p384.specs.P384 as p384
use Rattle.paseto_rsa.specs.Keys.{IsPrivate, rsa_public}
use Rattle.paseto_rsa.specs.RsaPss.{HasNoSignature}
use Rattle.paseto_keys.specs.AnyKey.{binding}
use Rattle.paseto_keys.specs.Reading.{reading_by}
use Rattle.paseto_keys.specs.Writing.{Writing, drawn_length, writing_by}
use Rattle.paseto_calls.specs.Arguments.{has_bytes}
use Rattle.paseto_calls.specs.Footer.{HasFooter, IsFooterFault}
use Rattle.paseto_calls.specs.HeldKey.{bound_fault, bytes_in, drawn_fault, first_of, named_by, type_by, version_by}
use Rattle.paseto_calls.specs.Refusal.{token_refusal}
use Rattle.paseto_calls.specs.Request.{Request, tells_nothing}
use Rattle.paseto_calls.specs.declared.held_key.HeldKey.{HeldKey}
use Rattle.paseto_calls.specs.declared.refusal.Refusal.{Refusal}
use Rattle.paseto_calls.specs.declared.wanted.Wanted.{Wanted}

-- the refusal is for the first fault of reading the token
pub record IsTokenFault (reads : Reading) (token : List ℕ) (refusal : Refusal) : Type 0 where
  pub error : PasetoError
  pub is_fault : IsFault reads token error
  pub is_refusal : refusal ≡ token_refusal error

-- a token is read under a key, of a type that is wanted
abbrev pub reading : Wanted → HeldKey → List ℕ → List ℕ → List ℕ → Request (List ℕ)
reading wanted key token footer assertion = let reads = reading_by (named_by key) footer assertion in record {
  fault = bound_fault wanted key assertion;
  texts = token ∷ footer ∷ assertion ∷ [];
  Makes = IsRead reads token;
  Refuses = IsTokenFault reads token;
  Tells = tells_nothing;
}

-- how many random bytes a token under the key takes
abbrev pub taken : HeldKey → ℕ
taken key = drawn_length (type_by key.kind) (version_by key.version)

-- how a token is written under a key, with the first of what was drawn
abbrev pub writes : HeldKey → List ℕ → List ℕ → List ℕ → Writing
writes key drawn footer assertion = writing_by (named_by key) (take (taken key) drawn) footer assertion

-- why no token is written under the key
abbrev pub writing_fault : Wanted → HeldKey → List ℕ → List ℕ → Option Refusal
writing_fault wanted key drawn assertion = first_of (bound_fault wanted key assertion) (drawn_fault (taken key) drawn)

-- the refusal is for why the text has no token
pub record IsDeclined (writing : Writing) (written : Bool) (text : List ℕ) (refusal : Refusal) : Type 0 where
  pub error : PasetoError
  pub declines : writing.Declines written text error
  pub is_refusal : refusal ≡ token_refusal error

-- a token of a text is written under a key, of a type that is wanted
abbrev pub writing : Wanted → HeldKey → List ℕ → List ℕ → List ℕ → List ℕ → Request (List ℕ)
writing wanted key drawn text footer assertion = let writes_it = writes key drawn footer assertion in record {
  fault = writing_fault wanted key drawn assertion;
  texts = text ∷ footer ∷ assertion ∷ [];
  Makes = writes_it.Writes (has_bytes footer) text;
  Refuses = IsDeclined writes_it (has_bytes footer) text;
  Tells = tells_nothing;
}

-- ---- where a text has a token

-- what a private key signs of a text
abbrev pub signed_by : PaserkVersion → List ℕ → List ℕ → List ℕ → List ℕ → List ℕ
signed_by V1 private footer assertion text = message v1_public (binding (rsa_public private) footer assertion) text
signed_by V2 private footer assertion text = message v2_public (binding (ed25519.partner private) footer assertion) text
signed_by V3 private footer assertion text = message v3_public (binding (p384.p384_public private) footer assertion) text
signed_by V4 private footer assertion text = message v4_public (binding (ed25519.partner private) footer assertion) text

-- a private key signs a message: one of RSA makes a valid signature with each salt; the public half of one of Ed25519 is its
-- seed's, and the nonce of the message is not 0; one of P-384 is a number from 1 to n - 1, and one of the two candidates for a
-- nonce gives a signature
abbrev pub Signs : PaserkVersion → List ℕ → List ℕ → Type 0
Signs V1 private signed = IsPrivate private × ((salt : List ℕ) → length salt ≡ 48 → ¬ HasNoSignature private signed salt)
Signs V2 private signed = ed25519.IsSigned private signed
Signs V3 private signed = p384.IsPrivate private × (p384.p384_sign private signed ≢ None)
Signs V4 private signed = ed25519.IsSigned private signed

-- the private key signs the text
abbrev pub SignsText : HeldKey → List ℕ → List ℕ → List ℕ → Type 0
SignsText key footer assertion text =
    Signs (version_by key.version) (bytes_in key) (signed_by (version_by key.version) (bytes_in key) footer assertion text)

-- the text has a token under the key: a key for local tokens encrypts it, or a private key signs it
abbrev pub HasToken : HeldKey → List ℕ → List ℕ → List ℕ → List ℕ → Type 0
HasToken key drawn footer assertion text =
    ((type_by key.kind ≡ Local) × ((token : List ℕ) × (writes key drawn footer assertion).Writes (has_bytes footer) text token))
    ⊎ ((type_by key.kind ≡ Secret) × SignsText key footer assertion text)

-- the footer of a token is read
abbrev pub footer_reading : List ℕ → Request (List ℕ)
footer_reading token = record {
  fault = None;
  texts = token ∷ [];
  Makes = HasFooter token;
  Refuses = IsFooterFault token;
  Tells = tells_nothing;
}
