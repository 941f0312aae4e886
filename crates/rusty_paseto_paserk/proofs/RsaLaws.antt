-- Keys of RSA that stand in texts.
use Rattle.std.proofs.Common.{◌≡◌, ◌⊎◌, ℕ, List, Result, Ok, Err, inl, inr, refl, sym, ◌∙◌, subst}
use Rattle.std.specs.Bool.{⊤}
use Rattle.std.specs.Result.{IsErrAnd}
use Rattle.std.specs.declared.alloc.Global.{Global}
use Rattle.std.specs.declared.vec.Vec.{Vec}
use Rattle.rusty_paseto_parts.specs.Section.{base64url}
use Rattle.paseto_rsa.specs.Forms.{public_key_info}
use Rattle.paseto_rsa.specs.Keys.{rsa_private}
use Rattle.paseto_rsa.proofs.FormLaws.{one-form, public-unique}
use Rattle.paseto_rsa.proofs.PublicLaws.{info-is, public_key_info-bytes, rsa_private-bytes, rsa_private-form}
use Rattle.rusty_paseto_paserk.specs.declared.header.PaserkVersion.TheVariants.{V1}
use Rattle.rusty_paseto_paserk.specs.declared.header.PaserkType.{PaserkType}
use Rattle.rusty_paseto_paserk.specs.declared.error.PaserkError.{PaserkError}
use Rattle.rusty_paseto_paserk.specs.declared.error.PaserkError.TheVariants.{NoKey, OtherVersion, OtherType, InvalidKey, Memory}
use Rattle.rusty_paseto_paserk.specs.Error.{IsMemory}
use Rattle.rusty_paseto_paserk.specs.Text.{ReadsBytes}
use Rattle.rusty_paseto_paserk.specs.Rsa.{IsPublicForm, IsSecretForm, ReadsForm}
use Rattle.rusty_paseto_paserk.specs.RsaLaws.{PrivateKeysRead, PublicKeysRead}

-- octets are the form of one private key
pub one-secret : (octets a b : List ℕ) → IsSecretForm octets a → IsSecretForm octets b → a ≡ b
one-secret octets a b first second = elim first [
  | inl info ↦ elim second [
    | inl other ↦ info.1 ∙ sym other.1
    | inr alone ↦ absurd (one-form octets info.0 alone.0)
  ]
  | inr alone ↦ elim second [
    | inl info ↦ absurd (one-form octets info.0 alone.0)
    | inr other ↦ alone.1 ∙ sym other.1
  ]
]

-- octets are the form of one public key
pub one-public : (octets a b : List ℕ) → IsPublicForm octets a → IsPublicForm octets b → a ≡ b
one-public octets a b first second = public-unique a b first.0 second.0 (sym first.1 ∙ second.1)

abbrev IsInvalid : PaserkError → Type 0
IsInvalid InvalidKey = ⊤
IsInvalid _ = ⊥

module _ (kind : PaserkType) (IsForm : List ℕ → List ℕ → Type 0) (text : List ℕ) (octets : Vec ℕ Global)
    (reads : ReadsBytes V1 kind text (Ok octets)) where
  -- the key of a text
  pub found-form : (key : List ℕ) → ((other : List ℕ) → IsForm octets.items other → key ≡ other) → IsForm octets.items key
      → ReadsForm kind IsForm text (Ok key)
  found-form key one form = record {
    found = (octets.items, reads.bytes, reads.written, form);
    read = λ other found bytes is written. one found (subst (λ (o : List ℕ). IsForm o found) (sym (reads.read other bytes written)) is);
    refused = tt;
  }

  -- a text in which none stands
  none-stands : (error : PaserkError) → IsInvalid error → ((key : List ℕ) → ¬ IsForm octets.items key) → ReadsForm kind IsForm text (Err error)
  none-stands NoKey is none = absurd is
  none-stands (OtherVersion version) is none = absurd is
  none-stands (OtherType other) is none = absurd is
  none-stands InvalidKey is none = record {
    found = tt;
    read = λ other key bytes is written. absurd (none key (subst (λ (o : List ℕ). IsForm o key) (sym (reads.read other bytes written)) is));
    refused = (
      (base64url octets.items, reads.written),
      λ other bytes is written. none is.0 (subst (λ (o : List ℕ). IsForm o is.0) (sym (reads.read other bytes written)) is.1),
    );
  }
  none-stands (Memory source) is none = absurd is

  no-memory : (error : PaserkError) → IsMemory error → ReadsForm kind IsForm text (Err error)
  no-memory NoKey is = absurd is
  no-memory (OtherVersion version) is = absurd is
  no-memory (OtherType other) is = absurd is
  no-memory InvalidKey is = absurd is
  no-memory (Memory source) is = record { found = tt; read = λ other key bytes is written. tt; refused = tt }

  pub refused-form : (answer : Result (List ℕ) PaserkError) (error : PaserkError) → IsErrAnd answer (λ e. e ≡ error)
      → IsMemory error ⊎ ((error ≡ InvalidKey) × ((key : List ℕ) → ¬ IsForm octets.items key)) → ReadsForm kind IsForm text answer
  refused-form (Ok key) error is refused = absurd is
  refused-form (Err e) error is refused = elim refused [
    | inl memory ↦ no-memory e (subst IsMemory (sym is) memory)
    | inr none ↦ none-stands e (subst IsInvalid (sym (is ∙ none.0)) tt) none.1
  ]

-- ---- what is written of a key is read as it

pub private-read : PrivateKeysRead
private-read key answer bytes is reads =
    reads.read (rsa_private key) key (rsa_private-bytes key bytes) (inr (rsa_private-form key bytes is, info-is key is)) refl

pub public-read : PublicKeysRead
public-read key answer bytes is reads =
    reads.read (public_key_info key) key (public_key_info-bytes key bytes is.size) (is, refl) refl
