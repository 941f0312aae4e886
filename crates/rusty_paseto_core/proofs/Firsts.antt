-- The first of each label, as a map keeps it while a list is gone through.
use Rattle.std.proofs.Common.{◌≡◌, ◌≢◌, ℕ, ◌+◌, ◌<◌, List, [], Bool, true, false, cond, Option, Some, None, Bor, BTreeMap, take, length, refl, sym, ap, subst, ◌∙◌, arith}
use Rattle.std.specs.List.{All, slice_get, slice_index_or}
use Rattle.std.specs.Ordering.{is_eq, nat_cmp}
use Rattle.std.specs.Cmp.Lexicographic.{slice_cmp}
use Rattle.std.specs.BTreeMap.{get_by}
use Rattle.std.proofs.lemmas.Cmp.{nat_list_cmp_total, tied_itself}
use Rattle.std.proofs.lemmas.List.{take_all}
use Rattle.std.proofs.lemmas.List.Elements.{All-more, All-nil, All-weaker}
use Rattle.std.proofs.lemmas.Map.Lookups.{exact_bytes}
use Rattle.std.proofs.lemmas.Option.{get_or_from_slice_get, slice_get_within}
use Rattle.std.specs.Cmp.{Equal-is}

-- what a map from borrowed bytes has at these bytes
abbrev pub at_bytes : List ℕ → BTreeMap (Bor (List ℕ)) ℕ → Option ℕ
at_bytes s m = get_by (λ k. slice_cmp nat_cmp s k.now) m

-- what is not something is nothing
pub none_found : (o : Option ℕ) → ((p : ℕ) → o ≡ Some p → ⊥) → o ≡ None
none_found None other = refl
none_found (Some p) other = absurd (other p refl)

module _ {X C : Type 0} (label : X → List ℕ) (content : X → C) (xs : List X) where
  -- the first of a label, which the others before a place that have the label are like
  pub record IsFirstOf (i : ℕ) (s : List ℕ) (p : ℕ) : Type 0 where
    pub first : X
    pub is_there : slice_get xs p ≡ Some first
    pub label_is : label first ≡ s
    pub alike : All (λ x. label x ≡ s → content x ≡ content first) (take i xs)

  -- what is known of a label before a place
  abbrev pub IsKnown : ℕ → List ℕ → Option ℕ → Type 0
  IsKnown i s None = All (λ x. label x ≢ s) (take i xs)
  IsKnown i s (Some p) = IsFirstOf i s p

  abbrev pub AreKnown : ℕ → BTreeMap (Bor (List ℕ)) ℕ → Type 0
  AreKnown i m = (s : List ℕ) → IsKnown i s (at_bytes s m)

  more : (P : X → Type 0) (i : ℕ) (x : X) → slice_get xs i ≡ Some x → All P (take i xs) → P x → All P (take (i + 1) xs)
  more P i x here all h =
      All-more P xs i x (slice_get_within xs i x here) all (subst P (sym (get_or_from_slice_get xs i x x here)) h)

  extended : (i : ℕ) (s : List ℕ) (x : X) (o : Option ℕ) → slice_get xs i ≡ Some x
      → (o ≡ None → label x ≢ s)
      → ((p : ℕ) (first : X) → o ≡ Some p → slice_get xs p ≡ Some first → label x ≡ s → content x ≡ content first)
      → IsKnown i s o → IsKnown (i + 1) s o
  extended i s x None here none some known = more (λ y. label y ≢ s) i x here known (none refl)
  extended i s x (Some p) here none some known = record {
    first = known.first;
    is_there = known.is_there;
    label_is = known.label_is;
    alike = more (λ y. label y ≡ s → content y ≡ content known.first) i x here known.alike (some p known.first refl known.is_there);
  }

  -- what a map answered for the bytes of a label is its first
  pub found_first : (m : BTreeMap (Bor (List ℕ)) ℕ) (i : ℕ) (s bytes : List ℕ) (p : ℕ) (answer : Option ℕ) → AreKnown i m
      → answer ≡ at_bytes bytes m → bytes ≡ s → answer ≡ Some p → IsFirstOf i s p
  found_first m i s bytes p answer known looked same found =
      subst (IsKnown i s) (sym (looked ∙ ap (λ (z : List ℕ). at_bytes z m) same) ∙ found) (known s)

  -- nothing is known of nothing
  pub none_known : (m : BTreeMap (Bor (List ℕ)) ℕ) → m.entries ≡ [] → AreKnown 0 m
  none_known m empty s = rw empty (All-nil (λ x. label x ≢ s))

  -- one more, that is like the first of its label
  pub one_alike : (m : BTreeMap (Bor (List ℕ)) ℕ) (i p : ℕ) (x first : X) → slice_get xs i ≡ Some x → slice_get xs p ≡ Some first
      → at_bytes (label x) m ≡ Some p → content first ≡ content x → AreKnown i m → AreKnown (i + 1) m
  one_alike m i p x first here there found same known s =
      extended i s x (at_bytes s m) here
      (λ none own. let e = ap (λ (z : List ℕ). at_bytes z m) own in cc)
      (λ q other is there_too own.
      let e = ap (λ (z : List ℕ). at_bytes z m) own in
      let places : p ≡ q = cc in
      let firsts : first ≡ other = let e = ap (slice_get xs) places in cc in
      sym same ∙ ap content firsts)
      (known s)

  known_first : (i : ℕ) (s : List ℕ) (x : X) → slice_get xs i ≡ Some x → label x ≡ s → (o : Option ℕ) → o ≡ None → IsKnown i s o
      → IsFirstOf (i + 1) s i
  known_first i s x here own None none known = record {
    first = x;
    is_there = here;
    label_is = own;
    alike = more (λ y. label y ≡ s → content y ≡ content x) i x here
        (All-weaker (λ y. label y ≢ s) (λ y. label y ≡ s → content y ≡ content x) (λ y other same. absurd (other same)) (take i xs) known)
        (λ _. refl);
  }
  known_first i s x here own (Some p) none known = absurd (let e = none in cc)

  first_or_other : (m n : BTreeMap (Bor (List ℕ)) ℕ) (i : ℕ) (x : X) (s : List ℕ) → slice_get xs i ≡ Some x
      → at_bytes (label x) m ≡ None → IsKnown i s (at_bytes s m)
      → (b : Bool) → is_eq (slice_cmp nat_cmp (label x) s) ≡ b → IsKnown (i + 1) s (cond b (Some i) (at_bytes s m))
  first_or_other m n i x s here found known true equal =
      let own : label x ≡ s = exact_bytes (label x) s ((Equal-is (slice_cmp nat_cmp (label x) s)).0 equal) in
      known_first i s x here own (at_bytes s m) (ap (λ (z : List ℕ). at_bytes z m) (sym own) ∙ found) known
  first_or_other m n i x s here found known false other =
      let apart : label x ≢ s = λ own.
      let itself = tied_itself nat_list_cmp_total (label x) in
      let tied = ap (λ (z : List ℕ). is_eq (slice_cmp nat_cmp (label x) z)) own in
      let yes = ap is_eq itself in cc in
      extended i s x (at_bytes s m) here (λ _. apart) (λ _ _ _ _ own. absurd (apart own)) known

  -- one more, that is the first of its label
  pub one_first : (m n : BTreeMap (Bor (List ℕ)) ℕ) (i : ℕ) (x : X) → slice_get xs i ≡ Some x
      → at_bytes (label x) m ≡ None
      → ((s : List ℕ) → at_bytes s n ≡ cond (is_eq (slice_cmp nat_cmp (label x) s)) (Some i) (at_bytes s m))
      → AreKnown i m → AreKnown (i + 1) n
  one_first m n i x here found update known s =
      subst (IsKnown (i + 1) s) (sym (update s)) (first_or_other m n i x s here found (known s) _ refl)

  put_back_at : (m n k : BTreeMap (Bor (List ℕ)) ℕ) (i p : ℕ) (x : X) (s : List ℕ) → at_bytes (label x) m ≡ Some p
      → (b : Bool) → is_eq (slice_cmp nat_cmp (label x) s) ≡ b
      → at_bytes s n ≡ cond b (Some i) (at_bytes s m) → at_bytes s k ≡ cond b (Some p) (at_bytes s n) → at_bytes s k ≡ at_bytes s m
  put_back_at m n k i p x s found true equal taken given =
      let own : label x ≡ s = exact_bytes (label x) s ((Equal-is (slice_cmp nat_cmp (label x) s)).0 equal) in
      given ∙ sym (ap (λ (z : List ℕ). at_bytes z m) (sym own) ∙ found)
  put_back_at m n k i p x s found false other taken given = given ∙ taken

  -- a first that was replaced and put back is known as before
  pub put_back : (m n k : BTreeMap (Bor (List ℕ)) ℕ) (i p j : ℕ) (x : X) → at_bytes (label x) m ≡ Some p
      → ((s : List ℕ) → at_bytes s n ≡ cond (is_eq (slice_cmp nat_cmp (label x) s)) (Some i) (at_bytes s m))
      → ((s : List ℕ) → at_bytes s k ≡ cond (is_eq (slice_cmp nat_cmp (label x) s)) (Some p) (at_bytes s n))
      → AreKnown j m → AreKnown j k
  put_back m n k i p j x found taken given known s =
      subst (IsKnown j s) (sym (put_back_at m n k i p x s found _ refl (taken s) (given s))) (known s)

  alike_at : (s : List ℕ) (o : Option ℕ) → IsKnown (length xs) s o → (k : ℕ) (d : X) (l : ℕ) (e : X) → k < length xs → l < length xs
      → label (slice_index_or xs k d) ≡ s → label (slice_index_or xs l e) ≡ s
      → content (slice_index_or xs k d) ≡ content (slice_index_or xs l e)
  alike_at s None known k d l e low high one other =
      let whole : All (λ x. label x ≢ s) xs = rw (take_all (length xs) xs (omega arith)) at known in
      absurd (whole k d low one)
  alike_at s (Some p) known k d l e low high one other =
      let whole : All (λ x. label x ≡ s → content x ≡ content known.first) xs = rw (take_all (length xs) xs (omega arith)) at known.alike in
      whole k d low one ∙ sym (whole l e high other)

  -- in the end any two of one label are alike
  pub all_alike : (m : BTreeMap (Bor (List ℕ)) ℕ) → AreKnown (length xs) m
      → All (λ first. All (λ second. label first ≡ label second → content first ≡ content second) xs) xs
  all_alike m known k d low l e high same =
      let s = label (slice_index_or xs l e) in
      alike_at s (at_bytes s m) (known s) k d l e low high same refl
