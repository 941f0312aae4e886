-- Claims by name, as words say them.
use Rattle.std.specs.Prelude.{◌≡◌, ◌≢◌, ◌⊎◌, ⊤, ◌==◌, ◌<◌, ◌&&◌, ◌||◌, ℕ, List, [], ◌∷◌, ◌++◌, Bool, true, false, if◌then◌else◌, Option, None, Some, codes, length, map, nat_eq, string_bytes}
use Rattle.std.specs.List.{before_first, after_first, position_or_len}
use Rattle.std.specs.Cmp.Lexicographic.{pointwise}
use Rattle.serde_json.specs.Data.{Data, Members, string}
use Rattle.serde_json.specs.Read.{read}
use Rattle.serde_json.specs.View.{view}
use Rattle.rusty_paseto_claims.specs.Claim.{gives, one_member}
use Rattle.rusty_paseto_claims.specs.Whole.{is_whole}
use Rattle.rusty_paseto_generic.specs.Builders.Claims.{becomes, claim_set}
use Rattle.rusty_paseto_generic.specs.Parsers.Rules.{Rules, edited, with_required, with_stored}
use Rattle.rusty_paseto.specs.PasetoBuilder.{Counting, counted}
use Rattle.paseto.specs.declared.commands.claims.NamedClaim.{NamedClaim}

-- a claim's name and its value
pub record Named : Type 0 where
  pub name : List ℕ
  pub value : Data

abbrev pub named : NamedClaim → Named
named claim = record { name = string_bytes claim.name; value = view claim.value }

abbrev pub all_named : List NamedClaim → List Named
all_named claims = map (λ claim. named claim) claims

-- what stands before a word's first equals sign, and what stands behind it
abbrev pub front : List ℕ → List ℕ
front word = before_first (λ b. b == 61) word

abbrev pub behind : List ℕ → List ℕ
behind word = after_first (λ b. b == 61) word

-- the name and the value of NAME:=JSON, and of NAME=TEXT
abbrev pub IsNamed : List ℕ → List ℕ → Data → Type 0
IsNamed word name value = ((front word ≡ name ++ codes ":") × (read (behind word) ≡ Some value))
    ⊎ (((other : List ℕ) → front word ≢ other ++ codes ":") × (front word ≡ name) × (value ≡ string (behind word)))

-- the name of a claim that is a time
abbrev pub is_time : List ℕ → Bool
is_time name = pointwise nat_eq name (codes "exp") || (pointwise nat_eq name (codes "nbf") || pointwise nat_eq name (codes "iat"))

-- the claim is the one that the word says: its name is not empty, and that of no time
pub record IsClaimOf (word : List ℕ) (claim : Named) : Type 0 where
  pub equals : position_or_len (λ b. b == 61) word < length word
  pub said : IsNamed word claim.name claim.value
  pub some : claim.name ≢ []
  pub no_time : is_time claim.name ≡ false

-- the claims are those of the words, in their order
abbrev pub AreClaims : List (List ℕ) → List Named → Type 0
AreClaims [] [] = ⊤
AreClaims (word ∷ words) (claim ∷ claims) = IsClaimOf word claim × AreClaims words claims
AreClaims _ _ = ⊥

-- the first claim is the one that the word says, and these are behind it
abbrev pub IsFirstOf : List ℕ → List NamedClaim → List NamedClaim → Type 0
IsFirstOf word claims found = (claim : NamedClaim) × IsClaimOf word (named claim) × (found ≡ claim ∷ claims)

-- the first value, or else the other
abbrev pub either : Option Data → Option Data → Option Data
either (Some value) other = Some value
either None other = other

-- the value of the last claim with a name
abbrev pub value_under : List ℕ → List Named → Option Data
value_under name [] = None
value_under name (claim ∷ claims) = either (value_under name claims) (if pointwise nat_eq claim.name name then Some claim.value else None)

-- the JSON of a claim: an object of its name and its value
abbrev pub json_of : Named → Data
json_of claim = one_member claim.name claim.value

-- every number in the claims is a whole number of 64 bits
abbrev pub are_whole : List Named → Bool
are_whole [] = true
are_whole (claim ∷ claims) = is_whole (json_of claim) && are_whole claims

-- the claims of a builder, when these are set, in their order
abbrev pub AreSet : List Named → Members → Members → Type 0
AreSet [] old new = new ≡ old
AreSet (claim ∷ claims) old new = (next : Members) × (claim_set claim.name (gives (json_of claim)) old ≡ becomes next) × AreSet claims next new

-- the claims cannot be set, whatever a builder holds
abbrev pub AreNeverSet : List Named → Type 0
AreNeverSet claims = (old new : Members) → ¬ AreSet claims old new

-- the keys that a builder counts, when these are set
abbrev pub all_counted : List Named → Counting → Counting
all_counted [] old = old
all_counted (claim ∷ claims) old = all_counted claims (counted claim.name old)

-- what a parser checks, when these are demanded, in their order
abbrev pub all_demanded : {J : Type 0} → List Named → Rules J → Rules J
all_demanded [] old = old
all_demanded (claim ∷ claims) old = all_demanded claims (edited claim.name (with_stored (json_of claim)) old)

-- the same, when values under these names are demanded
abbrev pub all_required : {J : Type 0} → List (List ℕ) → Rules J → Rules J
all_required [] old = old
all_required (name ∷ names) old = all_required names (edited name with_required old)
