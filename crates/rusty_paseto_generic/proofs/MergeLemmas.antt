-- Members that are put into others: their places are reserved, and then filled.
use Rattle.std.proofs.Common.{◌≡◌, ◌⊎◌, inr, ℕ, List, [], ◌∷◌, Bool, true, false, Option, Some, None, IsSome, is_some, option_map, String, Global, Ordering, Less, Equal, Greater, nat_cmp, string_bytes, string_cmp, bytes_eq, ⊎_elim, refl, sym, ap, ap₂, ◌∙◌, true≢false}
use Rattle.std.specs.Prelude.{⊤}
use Rattle.std.specs.Cmp.Lexicographic.{slice_cmp}
use Rattle.std.specs.List.{AllByRecursion}
use Rattle.std.specs.List.Sorted.{IsStrictlySortedBy}
use Rattle.std.specs.Map.{keys_of}
use Rattle.std.specs.Ordering.{match_ordering, ordering_reverse}
use Rattle.std.proofs.lemmas.Bool.{or_parts}
use Rattle.std.proofs.lemmas.Cmp.{nat_list_cmp_total, tied_itself}
use Rattle.std.proofs.lemmas.Map.Lookups.{exact_bytes}
use Rattle.std.proofs.lemmas.Slice.Eq.{bytes_eq-Decides}
use Rattle.serde_json.specs.Data.{Data, null, boolean, number, string, array, object, Members, no_members, member, put}
use Rattle.serde_json.specs.Find.{get_member}
use Rattle.serde_json.specs.View.{view, members_view}
use Rattle.serde_json.specs.Written.{has_float, members_have_float}
use Rattle.serde_json.specs.declared.value.Value.{Value}
use Rattle.serde_json.proofs.Views.{Entry, get_member-put, get_member-put_other, member_later, view-lookup}
use Rattle.rusty_paseto_generic.specs.Builders.Claims.{put_all}
use Rattle.rusty_paseto_generic.proofs.MapLemmas.{found_at}
use Rattle.rusty_paseto_generic.specs.Builders.Reserved.{IsReserved, either_value, filled, is_mark, is_marked}

-- ---- members in order of their keys

abbrev pub AllAbove : List ℕ → Members → Type 0
AllAbove key no_members = ⊤
AllAbove key (member found value rest) = (slice_cmp nat_cmp key found ≡ Less) × AllAbove key rest

abbrev pub Ascends : Members → Type 0
Ascends no_members = ⊤
Ascends (member key value rest) = AllAbove key rest × Ascends rest

above_view : (first : String Global) (es : List Entry) → AllByRecursion (λ (y : String Global). string_cmp first y ≡ Less) (keys_of es)
    → AllAbove (string_bytes first) (members_view es)
above_view first [] all = tt
above_view first (e ∷ es) all = (all.0, above_view first es all.1)

pub ascends_view : (es : List Entry) → IsStrictlySortedBy string_cmp (keys_of es) → Ascends (members_view es)
unfolding IsStrictlySortedBy
ascends_view [] sorted = tt
ascends_view (e ∷ es) sorted = (above_view e.0 es sorted.0, ascends_view es sorted.1)

above_less : (low high : List ℕ) (ms : Members) → slice_cmp nat_cmp low high ≡ Less → AllAbove high ms → AllAbove low ms
above_less low high no_members less all = tt
above_less low high (member found value rest) less all =
    (nat_list_cmp_total.trans low high found less all.0, above_less low high rest less all.1)

turned : (left right : List ℕ) → slice_cmp nat_cmp left right ≡ Greater → slice_cmp nat_cmp right left ≡ Less
turned left right is = nat_list_cmp_total.antisymm right left ∙ ap ordering_reverse is

above_at : (o : Ordering) (low key found : List ℕ) (new old : Data) (rest later : Members) → slice_cmp nat_cmp low key ≡ Less
    → AllAbove low (member found old rest) → AllAbove low later
    → AllAbove low (match_ordering o (member key new (member found old rest)) (member found new rest) (member found old later))
above_at Less low key found new old rest later less all more = (less, all)
above_at Equal low key found new old rest later less all more = all
above_at Greater low key found new old rest later less all more = (all.0, more)

above_put : (low key : List ℕ) (value : Data) (ms : Members) → slice_cmp nat_cmp low key ≡ Less → AllAbove low ms → AllAbove low (put key value ms)
above_put low key value no_members less all = (less, tt)
above_put low key value (member found old rest) less all =
    above_at (slice_cmp nat_cmp key found) low key found value old rest (put key value rest) less all (above_put low key value rest less all.1)

ascends_at : (o : Ordering) (key found : List ℕ) (new old : Data) (rest : Members) → slice_cmp nat_cmp key found ≡ o
    → Ascends (member found old rest) → Ascends (put key new rest)
    → Ascends (match_ordering o (member key new (member found old rest)) (member found new rest) (member found old (put key new rest)))
ascends_at Less key found new old rest is up later = ((is, above_less key found rest is up.0), up)
ascends_at Equal key found new old rest is up later = up
ascends_at Greater key found new old rest is up later = (above_put found key new rest (turned key found is) up.0, later)

ascends_put : (key : List ℕ) (value : Data) (ms : Members) → Ascends ms → Ascends (put key value ms)
ascends_put key value no_members up = (tt, tt)
ascends_put key value (member found old rest) up =
    ascends_at (slice_cmp nat_cmp key found) key found value old rest refl up (ascends_put key value rest up.1)

pub ascends_put_all : (more old : Members) → Ascends old → Ascends (put_all more old)
ascends_put_all no_members old up = up
ascends_put_all (member key value rest) old up = ascends_put_all rest (put key value old) (ascends_put key value old up)

get_here : (key : List ℕ) (value : Data) (rest : Members) → get_member key (member key value rest) ≡ Some value
get_here key value rest = rw (tied_itself nat_list_cmp_total key) refl

pub absent : (key : List ℕ) (ms : Members) → AllAbove key ms → get_member key ms ≡ None
absent key no_members all = refl
absent key (member found value rest) all = rw all.0 (absent key rest all.1)

-- a key that is below all has no member
below_all : (key found : List ℕ) (value : Data) (rest : Members) → slice_cmp nat_cmp key found ≡ Less → AllAbove found rest
    → get_member key (member found value rest) ≡ None
below_all key found value rest less all = absent key (member found value rest) (less, above_less key found rest less all)

later_at : (o : Ordering) (key found : List ℕ) (one other : Data) (a b : Members) → slice_cmp nat_cmp key found ≡ o → AllAbove found a → AllAbove found b
    → match_ordering o (get_member key a) (Some one) (get_member key a) ≡ match_ordering o (get_member key b) (Some other) (get_member key b)
    → get_member key a ≡ get_member key b
later_at Less key found one other a b is below above same = same
later_at Equal key found one other a b is below above same = rw (exact_bytes key found is) (absent found a below ∙ sym (absent found b above))
later_at Greater key found one other a b is below above same = same

same_later : (key : List ℕ) (value other : Data) (rest later : Members) → AllAbove key rest → AllAbove key later
    → ((q : List ℕ) → get_member q (member key value rest) ≡ get_member q (member key other later))
    → (q : List ℕ) → get_member q rest ≡ get_member q later
same_later key value other rest later below above same q = later_at (slice_cmp nat_cmp q key) q key value other rest later refl below above (same q)

same_first : (key : List ℕ) (value other : Data) (rest later : Members)
    → ((q : List ℕ) → get_member q (member key value rest) ≡ get_member q (member key other later)) → value ≡ other
same_first key value other rest later same =
    let is : Some value ≡ Some other = sym (get_here key value rest) ∙ same key ∙ get_here key other later in cc is

same_at : (o : Ordering) (key found : List ℕ) (value other : Data) (rest later : Members) → slice_cmp nat_cmp key found ≡ o
    → AllAbove key rest → AllAbove found later
    → ((q : List ℕ) → get_member q (member key value rest) ≡ get_member q (member found other later))
    → (((q : List ℕ) → get_member q rest ≡ get_member q later) → rest ≡ later)
    → member key value rest ≡ member found other later
same_at Less key found value other rest later is below above same again =
    let is_some = get_here key value rest in let none = below_all key found other later is above in let at = same key in cc (is_some, none, at)
same_at Greater key found value other rest later is below above same again =
    let is_some = get_here found other later in let none = below_all found key value rest (turned key found is) below in let at = same found in cc (is_some, none, at)
same_at Equal key found value other rest later is below above same again =
    let one : key ≡ found = exact_bytes key found is in
    let up : AllAbove key later = rw (← one) at above in
    let all : (q : List ℕ) → get_member q (member key value rest) ≡ get_member q (member key other later) = rw (← one) at same in
    rw (← one) (ap₂ (member key) (same_first key value other rest later all) (again (same_later key value other rest later below up all)))

-- members in order that have the same under each key are the same
pub same_members : (a b : Members) → Ascends a → Ascends b → ((key : List ℕ) → get_member key a ≡ get_member key b) → a ≡ b
same_members no_members no_members up down same = refl
same_members no_members (member key value rest) up down same = let is = same key in let is_some = get_here key value rest in cc (is, is_some)
same_members (member key value rest) no_members up down same = let is = same key in let is_some = get_here key value rest in cc (is, is_some)
same_members (member key value rest) (member found other later) up down same =
    same_at (slice_cmp nat_cmp key found) key found value other rest later refl up.0 down.0 same (same_members rest later up.1 down.1)

-- ---- what is put into members is found there, and else what was there

put_at : (o : Ordering) (later new old : Option Data) (value : Data) → (o ≡ Equal → (later ≡ None) × (new ≡ Some value)) → ((o ≡ Equal → ⊥) → new ≡ old)
    → either_value later new ≡ either_value (match_ordering o later (Some value) later) old
put_at Less later new old value here other = ap (either_value later) (other (λ is. cc is))
put_at Equal later new old value here other = rw ((here refl).0, (here refl).1) refl
put_at Greater later new old value here other = ap (either_value later) (other (λ is. cc is))

not_equal : (q key : List ℕ) → (slice_cmp nat_cmp q key ≡ Equal → ⊥) → q ≡ key → ⊥
not_equal q key apart is = apart (rw is (tied_itself nat_list_cmp_total key))

pub get-put_all : (q : List ℕ) (more old : Members) → Ascends more
    → get_member q (put_all more old) ≡ either_value (get_member q more) (get_member q old)
get-put_all q no_members old up = refl
get-put_all q (member key value rest) old up =
    get-put_all q rest (put key value old) up.1
    ∙ put_at (slice_cmp nat_cmp q key) (get_member q rest) (get_member q (put key value old)) (get_member q old) value
    (λ is. (rw (exact_bytes q key is) (absent key rest up.0), rw (exact_bytes q key is) (get_member-put key value old)))
    (λ apart. get_member-put_other q key value old (not_equal q key apart))

-- ---- places are reserved

-- a place as it was, or one that was free and is reserved
abbrev pub HeldAt : Option Data → Option Data → Option Data → Type 0
HeldAt own before now = (now ≡ before) ⊎ ((before ≡ None) × (is_marked now ≡ true) × IsSome own)

reserve_at : (b : Bool) (key : List ℕ) (mark : Data) (own before now : Members) (q : List ℕ) → bytes_eq key q ≡ b
    → ((q : List ℕ) → HeldAt (get_member q own) (get_member q before) (get_member q now))
    → get_member key now ≡ None → IsSome (get_member key own) → is_mark mark ≡ true
    → HeldAt (get_member q own) (get_member q before) (get_member q (put key mark now))
reserve_at true key mark own before now q is places free some marks =
    let free_before : get_member key before ≡ None = ⊎_elim (λ same. sym same ∙ free) (λ reserved. reserved.0) (places key) in
    let here : HeldAt (get_member key own) (get_member key before) (get_member key (put key mark now)) =
    inr (free_before, rw (get_member-put key mark now) marks, some) in
    rw (← (bytes_eq-Decides key q).0 is) here
reserve_at false key mark own before now q is places free some marks =
    rw (get_member-put_other q key mark now (λ same. absurd (true≢false (sym ((bytes_eq-Decides key q).1 (sym same)) ∙ is)))) (places q)

pub reserved_more : (key : List ℕ) (mark : Data) (own before now : Members)
    → ((q : List ℕ) → HeldAt (get_member q own) (get_member q before) (get_member q now))
    → get_member key now ≡ None → IsSome (get_member key own) → is_mark mark ≡ true
    → (q : List ℕ) → HeldAt (get_member q own) (get_member q before) (get_member q (put key mark now))
reserved_more key mark own before now places free some marks q =
    reserve_at (bytes_eq key q) key mark own before now q refl places free some marks

-- a key that has no place stands among the later ones
pub free_later : (own now : Members) (e : Entry) (es : List Entry)
    → ((q : List ℕ) → get_member q now ≡ None → get_member q own ≡ get_member q (members_view (e ∷ es)))
    → (get_member (string_bytes e.0) now ≡ None → ⊥)
    → (q : List ℕ) → get_member q now ≡ None → get_member q own ≡ get_member q (members_view es)
free_later own now e es later has q free =
    later q free ∙ member_later q e es (λ same. has (rw same at free))

pub free_put : (own now : Members) (mark : Data) (e : Entry) (es : List Entry)
    → ((q : List ℕ) → get_member q now ≡ None → get_member q own ≡ get_member q (members_view (e ∷ es)))
    → (q : List ℕ) → get_member q (put (string_bytes e.0) mark now) ≡ None → get_member q own ≡ get_member q (members_view es)
free_put own now mark e es later q free =
    let apart : q ≡ string_bytes e.0 → ⊥ = λ same. let here = get_member-put (string_bytes e.0) mark now in let none = rw same at free in cc (here, none) in
    let before : get_member q now ≡ None = sym (get_member-put_other q (string_bytes e.0) mark now apart) ∙ free in
    later q before ∙ member_later q e es apart

pub mark_float : (value : Data) → has_float value ≡ false → is_mark value ≡ false
mark_float null whole = refl
mark_float (boolean b) whole = refl
mark_float (number n) whole = whole
mark_float (string s) whole = refl
mark_float (array ds) whole = refl
mark_float (object ms) whole = refl

unmarked_at : (o : Ordering) (later : Option Data) (value : Data) → is_marked later ≡ false → is_mark value ≡ false
    → is_marked (match_ordering o later (Some value) later) ≡ false
unmarked_at Less later value none whole = none
unmarked_at Equal later value none whole = whole
unmarked_at Greater later value none whole = none

-- whole members have no mark
pub unmarked : (key : List ℕ) (ms : Members) → members_have_float ms ≡ false → is_marked (get_member key ms) ≡ false
unmarked key no_members whole = refl
unmarked key (member found value rest) whole =
    let both = or_parts (has_float value) (members_have_float rest) whole in
    unmarked_at (slice_cmp nat_cmp key found) (get_member key rest) value (unmarked key rest both.1) (mark_float value both.0)

kept_at : (own before : Option Data) → is_marked before ≡ false → (before ≡ None → own ≡ None)
    → (filled before own ≡ either_value before own) × (is_marked before ≡ true → IsSome own)
kept_at own None whole free = (sym (free refl), λ marks. cc marks)
kept_at own (Some value) whole free = (rw whole refl, λ marks. cc (marks, whole))

marked_at : (own now : Option Data) → is_marked now ≡ true → IsSome own
    → (filled now own ≡ own) × (is_marked now ≡ true → IsSome own)
marked_at own None marks some = cc marks
marked_at own (Some value) marks some = (rw marks refl, λ _. some)

-- once each key of the first has a place
pub all_reserved : (own before now : Members) → members_have_float before ≡ false
    → ((q : List ℕ) → HeldAt (get_member q own) (get_member q before) (get_member q now))
    → ((q : List ℕ) → get_member q now ≡ None → get_member q own ≡ None)
    → IsReserved own before now
all_reserved own before now whole places free q =
    ⊎_elim
    (λ same. rw same (kept_at (get_member q own) (get_member q before) (unmarked q before whole) (λ none. free q (same ∙ none))))
    (λ reserved. rw reserved.0 (marked_at (get_member q own) (get_member q now) reserved.1 reserved.2))
    (places q)

-- ---- places are filled

fill_at : (b : Bool) (key : List ℕ) (value : Data) (own first now : Members) (q : List ℕ) → bytes_eq key q ≡ b
    → ((q : List ℕ) → filled (get_member q now) (get_member q own) ≡ filled (get_member q first) (get_member q own))
    → is_marked (get_member key now) ≡ true → get_member key own ≡ Some value → is_mark value ≡ false → IsSome (get_member key own)
    → filled (get_member q (put key value now)) (get_member q own) ≡ filled (get_member q first) (get_member q own)
fill_at true key value own first now q is same marks has whole some =
    let there : filled (get_member key now) (get_member key own) ≡ get_member key own = (marked_at (get_member key own) (get_member key now) marks some).0 in
    let here : filled (get_member key (put key value now)) (get_member key own) ≡ filled (get_member key first) (get_member key own) =
    rw (get_member-put key value now, whole) (sym has ∙ sym there ∙ same key) in
    rw (← (bytes_eq-Decides key q).0 is) here
fill_at false key value own first now q is same marks has whole some =
    rw (get_member-put_other q key value now (λ other. absurd (true≢false (sym ((bytes_eq-Decides key q).1 (sym other)) ∙ is)))) (same q)

pub filled_more : (key : List ℕ) (value : Data) (own first now : Members)
    → ((q : List ℕ) → filled (get_member q now) (get_member q own) ≡ filled (get_member q first) (get_member q own))
    → is_marked (get_member key now) ≡ true → get_member key own ≡ Some value → is_mark value ≡ false → IsSome (get_member key own)
    → (q : List ℕ) → filled (get_member q (put key value now)) (get_member q own) ≡ filled (get_member q first) (get_member q own)
filled_more key value own first now same marks has whole some q =
    fill_at (bytes_eq key q) key value own first now q refl same marks has whole some

-- what is still marked stands among the later ones
abbrev pub MarkedLater : Members → Members → Members → Type 0
MarkedLater own now later =
    (q : List ℕ) → is_marked (get_member q now) ≡ true → IsSome (get_member q own) × (get_member q own ≡ get_member q later)

pub marked_later : (own now : Members) (e : Entry) (es : List Entry) → MarkedLater own now (members_view (e ∷ es))
    → is_marked (get_member (string_bytes e.0) now) ≡ false → MarkedLater own now (members_view es)
marked_later own now e es later not q marks =
    let apart : q ≡ string_bytes e.0 → ⊥ = λ same. true≢false (sym marks ∙ (rw same not)) in
    ((later q marks).0, (later q marks).1 ∙ member_later q e es apart)

pub marked_put : (own now : Members) (e : Entry) (es : List Entry) → MarkedLater own now (members_view (e ∷ es))
    → is_mark (view e.1) ≡ false → MarkedLater own (put (string_bytes e.0) (view e.1) now) (members_view es)
marked_put own now e es later whole q marks =
    let apart : q ≡ string_bytes e.0 → ⊥ = λ same.
    let here = get_member-put (string_bytes e.0) (view e.1) now in
    let marked : is_marked (get_member (string_bytes e.0) (put (string_bytes e.0) (view e.1) now)) ≡ true = rw same at marks in
    let is : is_mark (view e.1) ≡ true = rw here at marked in true≢false (sym is ∙ whole) in
    let before : is_marked (get_member q now) ≡ true = rw (get_member-put_other q (string_bytes e.0) (view e.1) now apart) at marks in
    ((later q before).0, (later q before).1 ∙ member_later q e es apart)

pub not_some : (own : Option Data) → own ≡ None → IsSome own → ⊥
not_some None is some = cc some
not_some (Some value) is some = cc is

unmarked_filled : (b : Bool) (now own : Option Data) → is_marked now ≡ b → (b ≡ true → ⊥) → filled now own ≡ now
unmarked_filled true now own is not = absurd (not refl)
unmarked_filled false None own is not = refl
unmarked_filled false (Some value) own is not = rw is refl

-- once nothing is left to fill
pub all_filled : (own first now : Members)
    → ((q : List ℕ) → filled (get_member q now) (get_member q own) ≡ filled (get_member q first) (get_member q own))
    → MarkedLater own now no_members
    → (q : List ℕ) → get_member q now ≡ filled (get_member q first) (get_member q own)
all_filled own first now same later q =
    sym (unmarked_filled (is_marked (get_member q now)) (get_member q now) (get_member q own) refl
    (λ marks. not_some (get_member q own) (later q marks).1 (later q marks).0))
    ∙ same q

-- ---- the whole

-- members that are reserved and filled are those of the first with the others put in
pub merged_all : (own more all done : Members) → Ascends own → Ascends more → Ascends done → IsReserved own more all
    → ((q : List ℕ) → get_member q done ≡ filled (get_member q all) (get_member q own)) → done ≡ put_all more own
merged_all own more all done up one down reserved full =
    same_members done (put_all more own) down (ascends_put_all more own up)
    (λ q. full q ∙ (reserved q).0 ∙ sym (get-put_all q more own one))

-- ---- what a map holds under a key

pub found_member : (key : List ℕ) (es : List Entry) (found : Option Value) → found ≡ found_at key es → option_map view found ≡ get_member key (members_view es)
found_member key es found is = ap (option_map view) is ∙ view-lookup key es

pub held_member : (found : Option Value) (held : Option Data) → option_map view found ≡ held → is_some found ≡ true → held ≡ None → ⊥
held_member None held is some none = cc some
held_member (Some value) held is some none = cc (is, none)
