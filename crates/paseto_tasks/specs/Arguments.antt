-- What a command is asked for.
use Rattle.std.specs.Prelude.{◌≡◌, ⊤, ℕ, List, [], Bool, true, false, if◌then◌else◌, Option, None, Some, codes, map, nat_eq, string_bytes}
use Rattle.std.specs.Borrow.{Bor}
use Rattle.std.specs.Cmp.Lexicographic.{pointwise}
use Rattle.std.specs.declared.alloc.Global.{Global}
use Rattle.std.specs.declared.string.String.{String}
use Rattle.rusty_paseto_core.specs.Context.{assertion_of}
use Rattle.rusty_paseto_parts.specs.declared.texts.implicit_assertion.ImplicitAssertion.{ImplicitAssertion}
use Rattle.rusty_paseto_paserk.specs.declared.header.PaserkVersion.{PaserkVersion}
use Rattle.rusty_paseto_paserk.specs.declared.header.PaserkVersion.TheVariants.{V1, V2, V3, V4}
use Rattle.rusty_paseto_paserk.specs.declared.header.PaserkType.{PaserkType}
use Rattle.rusty_paseto_paserk.specs.declared.header.PaserkType.TheVariants.{Local, Secret}
use Rattle.paseto_tasks.specs.declared.arguments.Kind.{Kind}
use Rattle.paseto_tasks.specs.declared.arguments.Kind.TheVariants.{V1Local, V2Local, V2Public, V3Local, V3Public, V4Local, V4Public}
use Rattle.paseto_tasks.specs.declared.arguments.Format.{Format}
use Rattle.paseto_tasks.specs.declared.arguments.Format.TheVariants.{Paserk, Pem}

-- the texts of lines
abbrev pub words_of : List (String Global) → List (List ℕ)
words_of words = map (λ word. string_bytes word) words

-- the texts that are borrowed
abbrev pub texts : List (Bor (List ℕ)) → List (List ℕ)
texts words = map (λ word. word.now) words

abbrev is : List ℕ → List ℕ → Bool
is word name = pointwise nat_eq word name

abbrev pub kind_of : List ℕ → Option Kind
kind_of word =
    if is word (codes "v1.local") then Some V1Local
    else if is word (codes "v2.local") then Some V2Local
    else if is word (codes "v2.public") then Some V2Public
    else if is word (codes "v3.local") then Some V3Local
    else if is word (codes "v3.public") then Some V3Public
    else if is word (codes "v4.local") then Some V4Local
    else if is word (codes "v4.public") then Some V4Public
    else None

abbrev pub format_of : List ℕ → Option Format
format_of word = if is word (codes "paserk") then Some Paserk else if is word (codes "pem") then Some Pem else None

abbrev pub is_pair : Kind → Bool
is_pair V1Local = false
is_pair V2Local = false
is_pair V3Local = false
is_pair V4Local = false
is_pair V2Public = true
is_pair V3Public = true
is_pair V4Public = true

-- the type and the version of the key that is generated: of a pair, the private half
abbrev pub type_of : Kind → PaserkType
type_of V1Local = Local
type_of V2Local = Local
type_of V3Local = Local
type_of V4Local = Local
type_of V2Public = Secret
type_of V3Public = Secret
type_of V4Public = Secret

abbrev pub version_of : Kind → PaserkVersion
version_of V1Local = V1
version_of V2Local = V2
version_of V2Public = V2
version_of V3Local = V3
version_of V3Public = V3
version_of V4Local = V4
version_of V4Public = V4

-- the assertion may stand in a token of a version: one that binds its tokens to none takes the empty one alone
abbrev pub Takes : PaserkVersion → Option ImplicitAssertion → Type 0
Takes V1 assertion = assertion_of assertion ≡ []
Takes V2 assertion = assertion_of assertion ≡ []
Takes _ assertion = ⊤
