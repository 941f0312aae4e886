-- The kinds of tokens.
use Rattle.std.specs.Prelude.{◌≡◌, ℕ, List, ◌++◌, codes}
use Rattle.rusty_paseto_paserk.specs.declared.header.PaserkVersion.{PaserkVersion}
use Rattle.rusty_paseto_paserk.specs.declared.header.PaserkVersion.TheVariants.{V1, V2, V3, V4}
use Rattle.rusty_paseto_paserk.specs.declared.header.PaserkType.{PaserkType}
use Rattle.rusty_paseto_paserk.specs.declared.header.PaserkType.TheVariants.{Local}
use Rattle.paseto_tasks.specs.declared.token_kind.TokenKind.{TokenKind}
use Rattle.paseto_tasks.specs.declared.token_kind.TokenKind.TheVariants.{V1Local, V1Public, V2Local, V2Public, V3Local, V3Public, V4Local, V4Public, Other}

-- what each kind is called
abbrev pub kind_text : TokenKind → List ℕ
kind_text V1Local = codes "v1.local"
kind_text V1Public = codes "v1.public"
kind_text V2Local = codes "v2.local"
kind_text V2Public = codes "v2.public"
kind_text V3Local = codes "v3.local"
kind_text V3Public = codes "v3.public"
kind_text V4Local = codes "v4.local"
kind_text V4Public = codes "v4.public"
kind_text Other = codes "of no known kind"

abbrev Begins : List ℕ → List ℕ → Type 0
Begins front token = (rest : List ℕ) × (token ≡ front ++ rest)

-- a token of a kind begins with it and a dot, and one of no known kind with none of these
abbrev pub NamesKind : TokenKind → List ℕ → Type 0
NamesKind V1Local token = Begins (codes "v1.local.") token
NamesKind V1Public token = Begins (codes "v1.public.") token
NamesKind V2Local token = Begins (codes "v2.local.") token
NamesKind V2Public token = Begins (codes "v2.public.") token
NamesKind V3Local token = Begins (codes "v3.local.") token
NamesKind V3Public token = Begins (codes "v3.public.") token
NamesKind V4Local token = Begins (codes "v4.local.") token
NamesKind V4Public token = Begins (codes "v4.public.") token
NamesKind Other token =
    ¬ Begins (codes "v1.local.") token × ¬ Begins (codes "v1.public.") token
    × ¬ Begins (codes "v2.local.") token × ¬ Begins (codes "v2.public.") token
    × ¬ Begins (codes "v3.local.") token × ¬ Begins (codes "v3.public.") token
    × ¬ Begins (codes "v4.local.") token × ¬ Begins (codes "v4.public.") token

-- the kind of the tokens that keys of a version and a type are for
abbrev pub kind_read_by : PaserkVersion → PaserkType → TokenKind
kind_read_by V1 Local = V1Local
kind_read_by V2 Local = V2Local
kind_read_by V3 Local = V3Local
kind_read_by V4 Local = V4Local
kind_read_by V1 _ = V1Public
kind_read_by V2 _ = V2Public
kind_read_by V3 _ = V3Public
kind_read_by V4 _ = V4Public
