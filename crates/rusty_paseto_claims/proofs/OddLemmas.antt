-- The first odd key among members that are in order is the least one.
use Rattle.std.proofs.Common.{◌≡◌, ℕ, List, [], ◌∷◌, Bool, true, false, Option, Some, None, option_map, MatchOption, Bor, String, Global, Ordering, Less, Equal, Greater, string_bytes, string_cmp, nat_cmp, if◌then◌else◌, refl, sym, ◌∙◌}
use Rattle.std.specs.Prelude.{⊤}
use Rattle.std.proofs.lemmas.Cmp.{nat_list_cmp_total, tied_itself}
use Rattle.std.specs.Cmp.Lexicographic.{slice_cmp}
use Rattle.std.specs.List.{AllByRecursion}
use Rattle.std.specs.List.Sorted.{IsStrictlySortedBy}
use Rattle.std.specs.Map.{keys_of}
use Rattle.std.specs.Ordering.{match_ordering}
use Rattle.serde_json.specs.Data.{Data, object, Members}
use Rattle.serde_json.specs.Find.{get_member}
use Rattle.serde_json.specs.View.{view, members_view}
use Rattle.serde_json.proofs.Views.{Entry, member_here, member_later}
use Rattle.rusty_paseto_claims.specs.Whole.{IsFirstOdd, IsOdd, first_odd, is_whole}
use Rattle.rusty_paseto_claims.proofs.WholeLemmas.{is_some-first_odd}

-- a text below every key is none of them
below_all : (name : List ℕ) (es : List Entry) → AllByRecursion (λ (y : String Global). slice_cmp nat_cmp name (string_bytes y) ≡ Less) (keys_of es)
    → get_member name (members_view es) ≡ None
below_all name [] h = refl
below_all name (e ∷ es) h = rw h.0 (below_all name es h.1)

below_more : (other : List ℕ) (first : String Global) (ks : List (String Global)) → slice_cmp nat_cmp other (string_bytes first) ≡ Less
    → AllByRecursion (λ (y : String Global). string_cmp first y ≡ Less) ks → AllByRecursion (λ (y : String Global). slice_cmp nat_cmp other (string_bytes y) ≡ Less) ks
below_more other first [] h all = tt
below_more other first (k ∷ ks) h all = (nat_list_cmp_total.trans other (string_bytes first) (string_bytes k) h all.0, below_more other first ks h all.1)

above_at : (whole : Bool) (first : String Global) (e : Entry) (es : List Entry) (key : List ℕ) → string_cmp first e.0 ≡ Less
    → (first_odd (members_view es) ≡ Some key → slice_cmp nat_cmp (string_bytes first) key ≡ Less)
    → (if whole then first_odd (members_view es) else Some (string_bytes e.0)) ≡ Some key → slice_cmp nat_cmp (string_bytes first) key ≡ Less
above_at true first e es key here later is = later is
above_at false first e es key here later is = let same : key ≡ string_bytes e.0 = cc in rw same here

-- the odd key is above a key that is below all
above_first : (first : String Global) (es : List Entry) (key : List ℕ) → AllByRecursion (λ (y : String Global). string_cmp first y ≡ Less) (keys_of es)
    → first_odd (members_view es) ≡ Some key → slice_cmp nat_cmp (string_bytes first) key ≡ Less
above_first first [] key all is = cc is
above_first first (e ∷ es) key all is = above_at (is_whole (view e.1)) first e es key all.0 (above_first first es key all.1) is

apart : (first key : List ℕ) → slice_cmp nat_cmp first key ≡ Less → key ≡ first → ⊥
apart first key less same =
    let tied : slice_cmp nat_cmp first first ≡ Equal = tied_itself nat_list_cmp_total first in
    let itself = rw same at less in
    cc (tied, itself)

lesser : (order : Ordering) (rest : Option Data) (value : Data) → is_whole value ≡ true → MatchOption rest ⊤ (λ found. is_whole found ≡ true)
    → MatchOption (match_ordering order rest (Some value) rest) ⊤ (λ found. is_whole found ≡ true)
lesser Less rest value whole h = h
lesser Equal rest value whole h = whole
lesser Greater rest value whole h = h

absent : (found : Option Data) → found ≡ None → MatchOption found ⊤ (λ value. is_whole value ≡ true)
absent None is = tt
absent (Some value) is = cc is

first_at : (whole : Bool) (e : Entry) (es : List Entry) (key : List ℕ) → is_whole (view e.1) ≡ whole
    → AllByRecursion (λ (y : String Global). string_cmp e.0 y ≡ Less) (keys_of es)
    → (first_odd (members_view es) ≡ Some key → IsFirstOdd (members_view es) key)
    → (if whole then first_odd (members_view es) else Some (string_bytes e.0)) ≡ Some key → IsFirstOdd (members_view (e ∷ es)) key
first_at false e es key is all later found =
    let same : key ≡ string_bytes e.0 = cc in (
      (view e.1, member_here key e es same, is),
      λ other less. let below = rw same at less in
          absent _ (below_all other (e ∷ es) (below, below_more other e.0 (keys_of es) below all)),
    )
first_at true e es key is all later found =
    let rest = later found in
    let other_key = apart (string_bytes e.0) key (above_first e.0 es key all found) in (
      (rest.0.0, member_later key e es other_key ∙ rest.0.1, rest.0.2),
      λ other less. lesser (slice_cmp nat_cmp other (string_bytes e.0)) (get_member other (members_view es)) (view e.1) is (rest.1 other less),
    )

first_odd-least : (es : List Entry) (key : List ℕ) → IsStrictlySortedBy string_cmp (keys_of es) → first_odd (members_view es) ≡ Some key → IsFirstOdd (members_view es) key
unfolding IsStrictlySortedBy
first_odd-least [] key sorted is = cc is
first_odd-least (e ∷ es) key sorted is = first_at (is_whole (view e.1)) e es key refl sorted.0 (first_odd-least es key sorted.1) is

none_odd : (members : Members) → None ≡ first_odd members → is_whole (object members) ≡ true
none_odd members is = let none = rw (← is) at (is_some-first_odd members) in rw (sym none) refl

pub IsOdd-members : (es : List Entry) (found : Option (Bor (List ℕ))) → IsStrictlySortedBy string_cmp (keys_of es)
    → option_map (λ key. key.now) found ≡ first_odd (members_view es) → IsOdd (option_map (λ key. key.now) found) (object (members_view es))
IsOdd-members es None sorted is = none_odd (members_view es) is
IsOdd-members es (Some key) sorted is = first_odd-least es key.now sorted (sym is)
