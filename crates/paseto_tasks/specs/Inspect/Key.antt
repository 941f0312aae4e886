-- What `inspect` prints of a key: what it begins with, and nothing behind that.
use Rattle.std.specs.Prelude.{◌≡◌, ◌⊎◌, ℕ, List, ◌++◌, codes}
use Rattle.paseto_wrapping.specs.Header.{HasHeader as HasWrappedHeader, HasNoHeader as HasNoWrappedHeader}
use Rattle.paseto_wrapping.specs.declared.header.WrappedType.{WrappedType}
use Rattle.paseto_wrapping.specs.declared.header.WrappedType.TheVariants.{LocalWrap, SecretWrap, LocalPassword, SecretPassword, Seal}
use Rattle.rusty_paseto_paserk.specs.Header.{HasHeader, HasNoHeader, mark}
use Rattle.rusty_paseto_paserk.specs.declared.header.PaserkType.{PaserkType}
use Rattle.rusty_paseto_paserk.specs.declared.header.PaserkType.TheVariants.{Local, Secret, Public}
use Rattle.rusty_paseto_paserk.specs.declared.header.PaserkVersion.{PaserkVersion}

-- the types as they stand in headers (PASERK specification, "PASERK Types")
abbrev pub type_text : PaserkType → List ℕ
type_text Local = codes "local"
type_text Secret = codes "secret"
type_text Public = codes "public"

abbrev pub wrapped_type_text : WrappedType → List ℕ
wrapped_type_text LocalWrap = codes "local-wrap.pie"
wrapped_type_text SecretWrap = codes "secret-wrap.pie"
wrapped_type_text LocalPassword = codes "local-pw"
wrapped_type_text SecretPassword = codes "secret-pw"
wrapped_type_text Seal = codes "seal"

-- the line of a version and a type
abbrev pub key_line : PaserkVersion → List ℕ → List ℕ
key_line version kind = codes "key: " ++ (mark version ++ (kind ++ codes "\n"))

-- a text begins as PEM does (RFC 7468, section 2)
abbrev pub BeginsAsPem : List ℕ → Type 0
BeginsAsPem text = (rest : List ℕ) × (text ≡ codes "-----BEGIN " ++ rest)

-- the text begins as a key, and the line tells how
abbrev pub InspectsKey : List ℕ → List ℕ → Type 0
InspectsKey text line =
    ((version : PaserkVersion) × (kind : PaserkType) × HasHeader version kind text × (line ≡ key_line version (type_text kind)))
    ⊎ (((version : PaserkVersion) × (kind : WrappedType) × HasWrappedHeader version kind text × (line ≡ key_line version (wrapped_type_text kind)))
    ⊎ (BeginsAsPem text × (line ≡ codes "key: PEM\n")))

-- the text begins as no key does
abbrev pub BeginsAsNone : List ℕ → Type 0
BeginsAsNone text = HasNoHeader text × HasNoWrappedHeader text × ¬ BeginsAsPem text
