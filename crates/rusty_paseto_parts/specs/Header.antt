-- The header of a token (PASETO specification, "PASETO Message Format").
use Rattle.std.specs.Prelude.{ℕ, List, [], ◌++◌, ◌||◌, ◌&&◌, Bool, if◌then◌else◌, codes, nat_eq}
use Rattle.std.specs.Cmp.Lexicographic.{pointwise}

-- the version is one of the four
abbrev pub is_version : List ℕ → Bool
is_version version = pointwise nat_eq version (codes "v1") || (pointwise nat_eq version (codes "v2")
    || (pointwise nat_eq version (codes "v3") || pointwise nat_eq version (codes "v4")))

-- the purpose is one of the two
abbrev pub is_purpose : List ℕ → Bool
is_purpose purpose = pointwise nat_eq purpose (codes "local") || pointwise nat_eq purpose (codes "public")

-- the version, a dot, the purpose and a dot, and nothing for what makes none of the eight headers
unfoldable pub header_text : List ℕ → List ℕ → List ℕ
header_text version purpose = if is_version version && is_purpose purpose
    then version ++ (codes "." ++ (purpose ++ codes "."))
    else []

-- one of two texts, by the purpose, and nothing for another purpose
abbrev pub chosen : List ℕ → List ℕ → List ℕ → List ℕ
chosen purpose local public = if pointwise nat_eq purpose (codes "local") then local
    else if pointwise nat_eq purpose (codes "public") then public
    else []
