-- What the text of a wrapped key begins with (PASERK specification, "PASERK Message Format").
use Rattle.std.specs.Prelude.{◌≡◌, ℕ, List, ◌++◌, codes}
use Rattle.rusty_paseto_paserk.specs.declared.header.PaserkVersion.{PaserkVersion}
use Rattle.rusty_paseto_paserk.specs.Header.{mark}
use Rattle.paseto_wrapping.specs.declared.header.WrappedType.{WrappedType}
use Rattle.paseto_wrapping.specs.declared.header.WrappedType.TheVariants.{LocalWrap, SecretWrap, LocalPassword, SecretPassword, Seal}

-- the type of a wrapped key
abbrev pub word : WrappedType → List ℕ
word LocalWrap = codes "local-wrap.pie."
word SecretWrap = codes "secret-wrap.pie."
word LocalPassword = codes "local-pw."
word SecretPassword = codes "secret-pw."
word Seal = codes "seal."

-- what the text of a wrapped key begins with, h
abbrev pub header : PaserkVersion → WrappedType → List ℕ
header version kind = mark version ++ word kind

-- the text begins as a wrapped key of this version and type
abbrev pub HasHeader : PaserkVersion → WrappedType → List ℕ → Type 0
HasHeader version kind text = (rest : List ℕ) × (text ≡ header version kind ++ rest)

-- the text begins as no wrapped key does
abbrev pub HasNoHeader : List ℕ → Type 0
HasNoHeader text = (version : PaserkVersion) (kind : WrappedType) → ¬ HasHeader version kind text
