-- The members of a map after each of its calls, and that they stay whole.
use Rattle.std.proofs.Common.{◌≡◌, ℕ, List, [], ◌∷◌, Bool, true, false, not, ◌||◌, cond, Option, Some, None, Result, Ok, Err, IfOk, OnOk, OnErr, is_eq, nat_eq, ◌≤◌, arith, length, String, BTreeMap, Global, IsSome, Ordering, Less, Equal, Greater, nat_cmp, string_bytes, refl, sym, ap, ◌∙◌}
use Rattle.std.specs.declared.alloc.AllocError.{AllocError}
use Rattle.std.specs.BTreeMap.{is_at}
use Rattle.std.specs.Cmp.Lexicographic.{slice_cmp}
use Rattle.std.specs.Map.{lookup, remove_entry}
use Rattle.std.specs.Option.{unwrap_or}
use Rattle.std.specs.Ordering.{match_ordering}
use Rattle.std.proofs.lemmas.Bool.{or_parts}
use Rattle.std.proofs.lemmas.Map.Lookups.{exact_bytes}
use Rattle.serde_json.specs.Data.{Data, null, boolean, number, string, array, object, Members, no_members, member, depth, put}
use Rattle.serde_json.specs.Find.{as_object, get_member}
use Rattle.serde_json.specs.View.{view, members_view}
use Rattle.serde_json.specs.Read.{max_depth, read}
use Rattle.serde_json.specs.Written.{compact_text, has_float, members_have_float}
use Rattle.serde_json.specs.declared.value.Value.{Value, Object}
use Rattle.serde_json.proofs.Views.{Entry, members_len-members_view, view-Object, view-lookup}
use Rattle.rusty_paseto_claims.proofs.WholeLemmas.{is_some-first_odd}
use Rattle.rusty_paseto_claims.specs.Claim.{one_member}
use Rattle.rusty_paseto_claims.specs.Whole.{first_odd}
use Rattle.rusty_paseto_generic.specs.Builders.Claims.{IsReadBack, payload, put_all, unwrapped, without}

-- ---- what each call leaves

-- the value at a text
abbrev pub found_at : List ℕ → List Entry → Option Value
found_at key es = lookup (is_at (λ k. slice_cmp nat_cmp key (string_bytes k))) es

pub unwrapped-other : (key : List ℕ) (m : BTreeMap (String Global) Value) → nat_eq (length m.entries) 1 ≡ false
    → view (Object m) ≡ unwrapped key (view (Object m))
unwrapped-other key m many = rw (view-Object m, members_len-members_view m.entries, many) refl

pub unwrapped-only : (key : List ℕ) (m : BTreeMap (String Global) Value) (only : Value) → nat_eq (length m.entries) 1 ≡ true
    → Some only ≡ found_at key m.entries → view only ≡ unwrapped key (view (Object m))
unwrapped-only key m only one found =
    let is : get_member key (members_view m.entries) ≡ Some (view only) = sym (view-lookup key m.entries) ∙ rw (← found) refl in
    rw (view-Object m, members_len-members_view m.entries, one, is) refl

pub unwrapped-absent : (key : List ℕ) (m kept : BTreeMap (String Global) Value) → nat_eq (length m.entries) 1 ≡ true
    → None ≡ found_at key m.entries → kept.entries ≡ m.entries → view (Object kept) ≡ unwrapped key (view (Object m))
unwrapped-absent key m kept one found same =
    let is : get_member key (members_view m.entries) ≡ None = sym (view-lookup key m.entries) ∙ rw (← found) refl in
    rw (view-Object m, view-Object kept, same, members_len-members_view m.entries, one, is) refl

only_at : (o : Ordering) (key : List ℕ) (e : Entry) (only : Value) → slice_cmp nat_cmp key (string_bytes e.0) ≡ o
    → Some only ≡ cond (is_eq o) (Some e.1) None → members_view (e ∷ []) ≡ member key (view only) no_members
only_at Less key e only is found = cc found
only_at Equal key e only is found = let same : e.1 ≡ only = cc found in rw (exact_bytes key (string_bytes e.0) is, same) refl
only_at Greater key e only is found = cc found

only_of : (key : List ℕ) (es : List Entry) (only : Value) → length es ≡ 1 → Some only ≡ found_at key es
    → members_view es ≡ member key (view only) no_members
only_of key [] only one found = absurd (omega (arith, one))
only_of key (e ∷ []) only one found = only_at (slice_cmp nat_cmp key (string_bytes e.0)) key e only refl found
only_of key (e ∷ f ∷ es) only one found = absurd (omega (arith, one))

-- an object with one member is that member
pub object-only : (key : List ℕ) (m : BTreeMap (String Global) Value) (only : Value) → length m.entries ≡ 1
    → Some only ≡ found_at key m.entries → view (Object m) ≡ one_member key (view only)
object-only key m only one found = view-Object m ∙ ap object (only_of key m.entries only one found)

without_at : (o : Ordering) (e : Entry) (es rest : List Entry) (left : Members) → members_view rest ≡ left
    → members_view (cond (is_eq o) es (e ∷ rest))
    ≡ match_ordering o (member (string_bytes e.0) (view e.1) left) (members_view es) (member (string_bytes e.0) (view e.1) left)
without_at Less e es rest left is = ap (member (string_bytes e.0) (view e.1)) is
without_at Equal e es rest left is = refl
without_at Greater e es rest left is = ap (member (string_bytes e.0) (view e.1)) is

-- after a removal, the members are those without the key
pub members_view-remove_entry : (key : List ℕ) (es : List Entry)
    → members_view (remove_entry (is_at (λ k. slice_cmp nat_cmp key (string_bytes k))) es) ≡ without key (members_view es)
members_view-remove_entry key [] = refl
members_view-remove_entry key (e ∷ es) =
    without_at (slice_cmp nat_cmp key (string_bytes e.0)) e es _ _ (members_view-remove_entry key es)

-- ---- whole claims stay whole

or_false : (a b : Bool) → a ≡ false → b ≡ false → (a || b) ≡ false
or_false a b p q = rw (p, q) refl

whole_at : (o : Ordering) (a b c : Members) → members_have_float a ≡ false → members_have_float b ≡ false
    → members_have_float c ≡ false → members_have_float (match_ordering o a b c) ≡ false
whole_at Less a b c p q r = p
whole_at Equal a b c p q r = q
whole_at Greater a b c p q r = r

pub whole-put : (key : List ℕ) (value : Data) (members : Members) → has_float value ≡ false → members_have_float members ≡ false
    → members_have_float (put key value members) ≡ false
whole-put key value no_members whole all = or_false (has_float value) false whole refl
whole-put key value (member found d rest) whole all =
    let both = or_parts (has_float d) (members_have_float rest) all in
    whole_at (slice_cmp nat_cmp key found) _ _ _
    (or_false (has_float value) _ whole all)
    (or_false (has_float value) (members_have_float rest) whole both.1)
    (or_false (has_float d) _ both.0 (whole-put key value rest whole both.1))

pub whole-without : (key : List ℕ) (members : Members) → members_have_float members ≡ false
    → members_have_float (without key members) ≡ false
whole-without key no_members all = refl
whole-without key (member found d rest) all =
    let both = or_parts (has_float d) (members_have_float rest) all in
    let later = or_false (has_float d) _ both.0 (whole-without key rest both.1) in
    whole_at (slice_cmp nat_cmp key found) _ _ _ later both.1 later

pub whole-put_all : (more old : Members) → members_have_float more ≡ false → members_have_float old ≡ false
    → members_have_float (put_all more old) ≡ false
whole-put_all no_members old all whole = whole
whole-put_all (member key value rest) old all whole =
    let both = or_parts (has_float value) (members_have_float rest) all in
    whole-put_all rest (put key value old) both.1 (whole-put key value old both.0 whole)

-- members with no odd key are whole
pub whole-none_odd : (members : Members) → first_odd members ≡ None → members_have_float members ≡ false
whole-none_odd members none = sym (is_some-first_odd members) ∙ rw none refl

pub not_false : (b : Bool) → not b ≡ true → b ≡ false
not_false true h = cc h
not_false false h = refl

-- whatever a call answers that is to put a whole value
pub whole-put_answer : {T E : Type 0} (answer : Result T E) (key : List ℕ) (value : Data) (old new : Members)
    → OnOk answer (new ≡ put key value old) → OnErr answer (new ≡ old) → has_float value ≡ false → members_have_float old ≡ false
    → members_have_float new ≡ false
whole-put_answer (Ok x) key value old new ok err whole all = rw ok (whole-put key value old whole all)
whole-put_answer (Err e) key value old new ok err whole all = rw err all

-- and whatever a call answers that is to put whole members
pub whole-put_all_answer : {T E : Type 0} (answer : Result T E) (more old new : Members)
    → OnOk answer (new ≡ put_all more old) → OnErr answer (new ≡ old) → members_have_float more ≡ false → members_have_float old ≡ false
    → members_have_float new ≡ false
whole-put_all_answer (Ok x) more old new ok err whole all = rw ok (whole-put_all more old whole all)
whole-put_all_answer (Err e) more old new ok err whole all = rw err all

-- the members of a map's object are those of the map
pub members_of-Object : (m : BTreeMap (String Global) Value) → unwrap_or (as_object (view (Object m))) no_members ≡ members_view m.entries
members_of-Object m = rw (view-Object m) refl

pub is_object-Object : (m : BTreeMap (String Global) Value) → IsSome (as_object (view (Object m)))
is_object-Object m = rw (view-Object m) refl

pub whole-Object : (m : BTreeMap (String Global) Value) → members_have_float (members_view m.entries) ≡ false
    → has_float (view (Object m)) ≡ false
whole-Object m whole = rw (view-Object m) whole

-- what has members is the object of them
pub object_of : (d : Data) → IsSome (as_object d) → d ≡ object (unwrap_or (as_object d) no_members)
object_of null some = cc some
object_of (boolean b) some = cc some
object_of (number n) some = cc some
object_of (string s) some = cc some
object_of (array ds) some = cc some
object_of (object ms) some = refl

-- the members that were found are those that are held
pub found-held : (d : Data) (found : Members) → Some found ≡ as_object d → unwrap_or (as_object d) no_members ≡ found
found-held d found is = rw (← is) refl

pub whole-found : (d : Data) (found : Members) → Some found ≡ as_object d → has_float d ≡ false → members_have_float found ≡ false
whole-found d found is whole =
    let same : d ≡ object found = object_of d (rw (← is) refl) ∙ ap object (found-held d found is) in
    rw same at whole

-- ---- what was written is read back

read_at : (text : List ℕ) (d : Data) (claims : Members) → d ≡ object claims → members_have_float claims ≡ false
    → (has_float d ≡ false → text ≡ compact_text d) → (depth d ≤ max_depth → read text ≡ Some d) → IsReadBack claims
read_at text d claims is whole written reads = record {
  whole = rw whole refl;
  reads = λ deep.
      let own : text ≡ payload claims = written (rw is whole) ∙ ap compact_text is in
      let back : read text ≡ Some d = reads (rw is (omega arith)) in
      rw (own, is) at back;
}

-- the text that was written of an object is read as it
pub written-IsReadBack : (answer : Result (String Global) AllocError) (d : Data) (claims : Members) → d ≡ object claims
    → members_have_float claims ≡ false → IfOk answer (λ text. has_float d ≡ false → string_bytes text ≡ compact_text d)
    → IfOk answer (λ text. depth d ≤ max_depth → read (string_bytes text) ≡ Some d) → OnOk answer (IsReadBack claims)
written-IsReadBack (Ok text) d claims is whole written reads = read_at (string_bytes text) d claims is whole written reads
written-IsReadBack (Err error) d claims is whole written reads = tt
