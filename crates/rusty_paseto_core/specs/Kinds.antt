-- A token is of one version and one purpose, and what is signed in one version is signed in no other (PASETO specification,
-- "PASETO Message Format").
use Rattle.std.specs.Prelude.{◌≡◌, ◌≢◌, ℕ, Bool, List}
use Rattle.rusty_paseto_parts.specs.Header.{header_text}
use Rattle.rusty_paseto_core.specs.Context.{Binding}
use Rattle.rusty_paseto_core.specs.Framing.{IsHeader, framing}
use Rattle.rusty_paseto_core.specs.Public.{PublicDesign, message}
use Rattle.rusty_paseto_core.specs.Reading.{IsRead, Reading}

-- one version and one purpose
pub record SameKind (version purpose other_version other_purpose : List ℕ) : Type 0 where
  pub versions : version ≡ other_version
  pub purposes : purpose ≡ other_purpose

-- the token is the framing of some payload and some footer under the header of the version and the purpose
pub record IsOfKind (version purpose token : List ℕ) : Type 0 where
  pub is_header : IsHeader version purpose (header_text version purpose)
  pub payload : List ℕ
  pub written : Bool
  pub footer : List ℕ
  pub is_framing : token ≡ framing (header_text version purpose) payload written footer

-- a token is of one kind
abbrev pub OneKind : Type 0
OneKind = (version purpose other_version other_purpose token : List ℕ) → IsOfKind version purpose token
    → IsOfKind other_version other_purpose token → SameKind version purpose other_version other_purpose

-- tokens that both read are of one kind
abbrev pub ReadOneKind : Reading → Reading → Type 0
ReadOneKind first second = (token a b : List ℕ) → IsRead first token a → IsRead second token b
    → SameKind first.version first.purpose second.version second.purpose

-- no token is read by both
abbrev pub NeverBoth : Reading → Reading → Type 0
NeverBoth first second = (token a b : List ℕ) → IsRead first token a → ¬ IsRead second token b

-- what is signed in one version, under any key, footer and assertion, is not what is signed in the other
abbrev pub MessagesApart : PublicDesign → PublicDesign → Type 0
MessagesApart first second = (a b : Binding) (x y : List ℕ) → message first a x ≢ message second b y
