-- What the text of a key begins with (PASERK specification, "PASERK Message Format" and "PASERK IDs").
use Rattle.std.specs.Prelude.{◌≡◌, ℕ, List, ◌++◌, codes}
use Rattle.rusty_paseto_paserk.specs.declared.header.PaserkVersion.{PaserkVersion}
use Rattle.rusty_paseto_paserk.specs.declared.header.PaserkVersion.TheVariants.{V1, V2, V3, V4}
use Rattle.rusty_paseto_paserk.specs.declared.header.PaserkType.{PaserkType}
use Rattle.rusty_paseto_paserk.specs.declared.header.PaserkType.TheVariants.{Local, Secret, Public}

-- the version
abbrev pub mark : PaserkVersion → List ℕ
mark V1 = codes "k1."
mark V2 = codes "k2."
mark V3 = codes "k3."
mark V4 = codes "k4."

-- the type of a key
abbrev pub word : PaserkType → List ℕ
word Local = codes "local."
word Secret = codes "secret."
word Public = codes "public."

-- the type of the id of such a key
abbrev pub id_word : PaserkType → List ℕ
id_word Local = codes "lid."
id_word Secret = codes "sid."
id_word Public = codes "pid."

-- what the text of a key begins with
abbrev pub header : PaserkVersion → PaserkType → List ℕ
header version kind = mark version ++ word kind

-- what the id of a key begins with
abbrev pub id_header : PaserkVersion → PaserkType → List ℕ
id_header version kind = mark version ++ id_word kind

-- the text begins as a key of this version and type
abbrev pub HasHeader : PaserkVersion → PaserkType → List ℕ → Type 0
HasHeader version kind text = (payload : List ℕ) × (text ≡ header version kind ++ payload)

-- the text begins as no key does
abbrev pub HasNoHeader : List ℕ → Type 0
HasNoHeader text = (version : PaserkVersion) (kind : PaserkType) → ¬ HasHeader version kind text
