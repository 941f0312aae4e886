-- The second and the fourth character of a key's text tell its version and its type; and of an id, too.
use Rattle.std.proofs.Common.{◌≡◌, ℕ, List, ◌++◌, get_or, if◌then◌else◌, refl, sym, ap, ◌∙◌}
use Rattle.std.specs.Prelude.{nat_eq}
use Rattle.rusty_paseto_paserk.specs.Header.{header, id_header}
use Rattle.rusty_paseto_paserk.specs.Kinds.{OneKeyKind}
use Rattle.rusty_paseto_paserk.specs.declared.header.PaserkVersion.{PaserkVersion}
use Rattle.rusty_paseto_paserk.specs.declared.header.PaserkVersion.TheVariants.{V1, V2, V3, V4}
use Rattle.rusty_paseto_paserk.specs.declared.header.PaserkType.{PaserkType}
use Rattle.rusty_paseto_paserk.specs.declared.header.PaserkType.TheVariants.{Local, Secret, Public}

version_of : ℕ → PaserkVersion
version_of n = if nat_eq n 49 then V1 else (if nat_eq n 50 then V2 else (if nat_eq n 51 then V3 else V4))

type_of : ℕ → PaserkType
type_of n = if nat_eq n 108 then Local else (if nat_eq n 115 then Secret else Public)

version-read : (version : PaserkVersion) (kind : PaserkType) (rest : List ℕ)
    → version_of (get_or (header version kind ++ rest) 1 0) ≡ version
unfolding version_of
version-read V1 kind rest = refl
version-read V2 kind rest = refl
version-read V3 kind rest = refl
version-read V4 kind rest = refl

type-read : (version : PaserkVersion) (kind : PaserkType) (rest : List ℕ)
    → type_of (get_or (header version kind ++ rest) 3 0) ≡ kind
unfolding type_of
type-read V1 Local rest = refl
type-read V1 Secret rest = refl
type-read V1 Public rest = refl
type-read V2 Local rest = refl
type-read V2 Secret rest = refl
type-read V2 Public rest = refl
type-read V3 Local rest = refl
type-read V3 Secret rest = refl
type-read V3 Public rest = refl
type-read V4 Local rest = refl
type-read V4 Secret rest = refl
type-read V4 Public rest = refl

pub one_key_kind : OneKeyKind
one_key_kind version other_version kind other_kind a b e = (
  sym (version-read version kind a) ∙ ap (λ (l : List ℕ). version_of (get_or l 1 0)) e ∙ version-read other_version other_kind b,
  sym (type-read version kind a) ∙ ap (λ (l : List ℕ). type_of (get_or l 3 0)) e ∙ type-read other_version other_kind b,
)

-- ---- ids

id-version : (version : PaserkVersion) (kind : PaserkType) (rest : List ℕ)
    → version_of (get_or (id_header version kind ++ rest) 1 0) ≡ version
unfolding version_of
id-version V1 kind rest = refl
id-version V2 kind rest = refl
id-version V3 kind rest = refl
id-version V4 kind rest = refl

id-type : (version : PaserkVersion) (kind : PaserkType) (rest : List ℕ)
    → type_of (get_or (id_header version kind ++ rest) 3 0) ≡ kind
unfolding type_of
id-type V1 Local rest = refl
id-type V1 Secret rest = refl
id-type V1 Public rest = refl
id-type V2 Local rest = refl
id-type V2 Secret rest = refl
id-type V2 Public rest = refl
id-type V3 Local rest = refl
id-type V3 Secret rest = refl
id-type V3 Public rest = refl
id-type V4 Local rest = refl
id-type V4 Secret rest = refl
id-type V4 Public rest = refl

pub one_id_kind : (version other_version : PaserkVersion) (kind other_kind : PaserkType) (a b : List ℕ)
    → id_header version kind ++ a ≡ id_header other_version other_kind ++ b → (version ≡ other_version) × (kind ≡ other_kind)
one_id_kind version other_version kind other_kind a b e = (
  sym (id-version version kind a) ∙ ap (λ (l : List ℕ). version_of (get_or l 1 0)) e ∙ id-version other_version other_kind b,
  sym (id-type version kind a) ∙ ap (λ (l : List ℕ). type_of (get_or l 3 0)) e ∙ id-type other_version other_kind b,
)
