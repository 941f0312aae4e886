-- What is checked under each key, after each call on the map of checks.
use Rattle.std.proofs.Common.{◌≡◌, ℕ, List, [], ◌∷◌, Bool, true, false, cond, Option, Some, None, IsSome, is_some, String, BTreeMap, Global, nat_cmp, string_bytes, string_cmp, refl}
use Rattle.std.specs.BTreeMap.{UpdatesBy, WritesThrough, get_by_text}
use Rattle.std.specs.Cmp.Lexicographic.{slice_cmp}
use Rattle.std.specs.Option.{option_map_or}
use Rattle.std.specs.Str.{bytes_eq}
use Rattle.std.proofs.lemmas.Map.Text.{btree_map_updates_text}
use Rattle.std.proofs.lemmas.Slice.Eq.{bytes_eq-Decides}
use Rattle.serde_json.specs.Data.{Members, no_members, member}
use Rattle.rusty_paseto_generic.specs.Parsers.Held.{HasEach, HasMore, rule_of}
use Rattle.rusty_paseto_generic.specs.Parsers.Rules.{AreSame, Rule, Rules, all_with_checkers, all_stored, no_rule, edited, with_checker, with_stored}
use Rattle.rusty_paseto_generic.specs.declared.parsers.checks.Check.{Check}
use Rattle.rusty_paseto_generic.specs.declared.parsers.checks.Checker.{Checker}

-- what is checked under a key, of a map of checks
abbrev pub rule_at : {B : Type 0} → BTreeMap (String Global) (Check B) → List ℕ → Rule (Checker B)
rule_at m key = option_map_or (rule_of key) (get_by_text m key) no_rule

-- the map has this entry at the bytes of a text, and its others as they were
abbrev pub Puts : {B : Type 0} → List ℕ → BTreeMap (String Global) (Check B) → BTreeMap (String Global) (Check B) → Check B → Type 0
Puts bs m n check = UpdatesBy string_cmp (λ k. slice_cmp nat_cmp bs (string_bytes k)) m n (Some check)

pub none_from_test : {A : Type 0} (found : Option A) → is_some found ≡ false → found ≡ None
none_from_test None h = refl
none_from_test (Some x) h = cc h

changed_at : {B : Type 0} (same : Bool) (bs key : List ℕ) (m : BTreeMap (String Global) (Check B)) (old : Option (Check B)) (new : Check B)
    (change : Rule (Checker B) → Rule (Checker B)) → bytes_eq bs key ≡ same → get_by_text m bs ≡ old
    → rule_of bs new ≡ change (option_map_or (rule_of bs) old no_rule)
    → option_map_or (rule_of key) (cond same (Some new) (get_by_text m key)) no_rule ≡ cond same (change (rule_at m key)) (rule_at m key)
changed_at true bs key m old new change is found made = rw (← (bytes_eq-Decides bs key).0 is, found) made
changed_at false bs key m old new change is found made = refl

-- an entry is put in the place of one that was there, or of none
pub changed : {B : Type 0} (bs : List ℕ) (m n : BTreeMap (String Global) (Check B)) (old : Option (Check B)) (new : Check B)
    (change : Rule (Checker B) → Rule (Checker B)) → Puts bs m n new → get_by_text m bs ≡ old
    → rule_of bs new ≡ change (option_map_or (rule_of bs) old no_rule) → (key : List ℕ) → rule_at n key ≡ edited bs change (rule_at m) key
changed bs m n old new change puts found made key =
    rw (btree_map_updates_text bs m n (Some new) puts key) (changed_at (bytes_eq bs key) bs key m old new change refl found made)

reserved_at : {B : Type 0} (same : Bool) (bs key : List ℕ) (m : BTreeMap (String Global) (Check B)) (nothing : Check B)
    → bytes_eq bs key ≡ same → get_by_text m bs ≡ None → rule_of bs nothing ≡ no_rule
    → option_map_or (rule_of key) (cond same (Some nothing) (get_by_text m key)) no_rule ≡ rule_at m key
reserved_at true bs key m nothing is absent empty = rw (← (bytes_eq-Decides bs key).0 is, absent) empty
reserved_at false bs key m nothing is absent empty = refl

-- an entry that checks nothing, where there was none, changes nothing
pub reserved : {B : Type 0} (bs : List ℕ) (m n : BTreeMap (String Global) (Check B)) (nothing : Check B)
    → Puts bs m n nothing → get_by_text m bs ≡ None → rule_of bs nothing ≡ no_rule → (key : List ℕ) → rule_at n key ≡ rule_at m key
reserved bs m n nothing puts absent empty key =
    rw (btree_map_updates_text bs m n (Some nothing) puts key) (reserved_at (bytes_eq bs key) bs key m nothing refl absent empty)

same_edited : {J : Type 0} (b : Bool) (change : Rule J → Rule J) (x y : Rule J) → x ≡ y → cond b (change x) x ≡ cond b (change y) y
same_edited b change x y is = rw is refl

-- one edit of the same rules leaves the same
pub edited-same : {J : Type 0} (key : List ℕ) (change : Rule J → Rule J) (r s : Rules J) → AreSame r s
    → AreSame (edited key change r) (edited key change s)
edited-same key change r s same other = same_edited (bytes_eq key other) change (r other) (s other) (same other)

twice_at : {J : Type 0} (b : Bool) (first second : Rule J → Rule J) (x : Rule J)
    → cond b (second (cond b (first x) x)) (cond b (first x) x) ≡ cond b (second (first x)) x
twice_at true first second x = refl
twice_at false first second x = refl

-- two edits under one key are one
pub edited-edited : {J : Type 0} (key : List ℕ) (first second : Rule J → Rule J) (r : Rules J)
    → AreSame (edited key second (edited key first r)) (edited key (λ rule. second (first rule)) r)
edited-edited key first second r other = twice_at (bytes_eq key other) first second (r other)

pub all_stored-same : {J : Type 0} (more : Members) (r s : Rules J) → AreSame r s → AreSame (all_stored more r) (all_stored more s)
all_stored-same no_members r s same = same
all_stored-same (member key value more) r s same = all_stored-same more _ _ (edited-same key (with_stored value) r s same)

pub all_with_checkers-same : {J : Type 0} (more : List (List ℕ × J)) (r s : Rules J) → AreSame r s → AreSame (all_with_checkers more r) (all_with_checkers more s)
all_with_checkers-same [] r s same = same
all_with_checkers-same (named ∷ more) r s same = all_with_checkers-same more _ _ (edited-same named.0 (with_checker named.1) r s same)

-- ---- which keys have an entry

-- each key that had an entry has one still
pub HasEach-more : {A B C : Type 0} (found : List ℕ → Option A) (before : List ℕ → Option B) (es : List (String Global × C))
    → HasMore found before → HasEach before es → HasEach found es
HasEach-more found before [] more each = tt
HasEach-more found before (e ∷ es) more each = (more (string_bytes e.0) each.0, HasEach-more found before es more each.1)

kept_at : {A : Type 0} (same : Bool) (x : A) (found : Option A) → IsSome found → IsSome (cond same (Some x) found)
kept_at true x found some = refl
kept_at false x found some = some

-- each entry stays
pub kept : {B : Type 0} (bs : List ℕ) (m n : BTreeMap (String Global) (Check B)) (check : Check B) → Puts bs m n check
    → HasMore (get_by_text n) (get_by_text m)
kept bs m n check puts other some =
    rw (btree_map_updates_text bs m n (Some check) puts other) (kept_at (bytes_eq bs other) check (get_by_text m other) some)

-- what is written through an entry that was lent is put there
pub written : {B : Type 0} (bs : List ℕ) (m n : BTreeMap (String Global) (Check B)) (old new : Check B)
    → WritesThrough string_cmp (λ k. slice_cmp nat_cmp bs (string_bytes k)) m new n → Some old ≡ get_by_text m bs → Puts bs m n new
written bs m n old new writes found = writes.3 (rw (← found) refl)
