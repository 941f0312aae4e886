use Rattle.std.proofs.Common.{◌≡◌, ◌∙◌, List, ℕ, Some, sym, ap, refl, subst, ◌+◌, ◌<◌, length, arith, cond, Bor}
use Rattle.std.specs.Cmp.Lexicographic.{slice_cmp}
use Rattle.std.specs.Ordering.{is_eq, nat_cmp}
use Rattle.std.proofs.lemmas.Option.{get_or_from_slice_get, slice_get_read, slice_get_within}
use Rattle.rusty_paseto_core.proofs.Firsts.{AreKnown, all_alike, at_bytes, found_first, none_found, none_known, one_alike, one_first, put_back}
use Rattle.rusty_paseto_core.specs.Local.Opened.{nonce_and_tag_in, covered_in}
use Rattle.rusty_paseto_core.proofs.local.tag_collision.find_pair.Goals.{in-Some+else-not-cover_the_same+in_ok-insert, in_default}
use Rattle.rusty_paseto_core.proofs.local.tag_collision.find_pair.Goals as goal

pub places-init : goal.places-init
places-init g c = none_known _ _ _ c.new-firsts.result c.new-firsts.ensures.empty

pub offset_bounds-opened-first : goal.offset_bounds-opened-first
offset_bounds-opened-first g c =
    let nonce_and_tag = c.index-opened-place.result.nonce_and_tag.items in
    let own =
    found_first nonce_and_tag_in (covered_in g.V.LocalSuite.design) c.args.opened.now c.places.firsts c.places.place nonce_and_tag
    c.as_slice-nonce_and_tag.result.now c.in-Some.first c.in_ok-first.field-0 c.places.invariant
    c.in_ok-first.ensures.old c.as_slice-nonce_and_tag.ensures.value c.in-Some.is in
    let low : c.in-Some.first < length c.args.opened.now = slice_get_within c.args.opened.now c.in-Some.first own.first own.is_there in
    omega arith

pub bounds-opened-first : goal.bounds-opened-first
bounds-opened-first g c =
    let nonce_and_tag = c.index-opened-place.result.nonce_and_tag.items in
    let own =
    found_first nonce_and_tag_in (covered_in g.V.LocalSuite.design) c.args.opened.now c.places.firsts c.places.place nonce_and_tag
    c.as_slice-nonce_and_tag.result.now c.in-Some.first c.in_ok-first.field-0 c.places.invariant
    c.in_ok-first.ensures.old c.as_slice-nonce_and_tag.ensures.value c.in-Some.is in
    slice_get_within c.args.opened.now c.in-Some.first own.first own.is_there

pub returns-then-not-cover_the_same : goal.returns-then-not-cover_the_same
returns-then-not-cover_the_same g c =
    let kept = c.index-opened-place.result in
    let nonce_and_tag = kept.nonce_and_tag.items in
    let own =
    found_first nonce_and_tag_in (covered_in g.V.LocalSuite.design) c.args.opened.now c.places.firsts c.places.place nonce_and_tag
    c.as_slice-nonce_and_tag.result.now c.in-Some.first c.in_ok-first.field-0 c.places.invariant
    c.in_ok-first.ensures.old c.as_slice-nonce_and_tag.ensures.value c.in-Some.is in
    let same : c.index-opened-first.result ≡ own.first =
    c.index-opened-first.is ∙ get_or_from_slice_get c.args.opened.now c.in-Some.first own.first c.index-opened-first.result own.is_there in
    record {
      first = own.first;
      second = kept;
      first_is = own.is_there;
      second_is = slice_get_read c.args.opened.now _ c.places.place kept refl c.places-test.true c.index-opened-place.is;
      nonce_and_tag = own.label_is;
      apart = λ alike.
          let equal = c.cover_the_same.ensures.1 (ap (covered_in g.V.LocalSuite.design) same ∙ alike) in
          let other = c.if-not-cover_the_same.true in cc;
    }

pub places-preserved : goal.places-preserved
places-preserved g c =
    let kept = c.index-opened-place.result in
    let nonce_and_tag = kept.nonce_and_tag.items in
    let looked : at_bytes nonce_and_tag c.places.firsts ≡ c.in_ok-first.field-0 =
    sym (c.in_ok-first.ensures.old ∙ ap (λ (s : List ℕ). at_bytes s c.places.firsts) c.as_slice-nonce_and_tag.ensures.value) in
    let here = slice_get_read c.args.opened.now _ c.places.place kept refl c.places-test.true c.index-opened-place.is in
    let taken : (s : List ℕ) → at_bytes s c.insert.new.self ≡ cond (is_eq (slice_cmp nat_cmp nonce_and_tag s)) (Some c.places.place) (at_bytes s c.places.firsts) =
    λ s.
    let other : Bor (List ℕ) = record { ref_ptr = (0, 0); now = s } in
    c.in_ok-first.ensures.updates.0 other
    ∙ ap (λ (z : List ℕ). cond (is_eq (slice_cmp nat_cmp z s)) (Some c.places.place) (at_bytes s c.places.firsts)) c.as_slice-nonce_and_tag.ensures.value in
    elim c.match-branch-2.branch [
      | in-Some+else-not-cover_the_same+in_ok-insert w ↦
          let own =
          found_first nonce_and_tag_in (covered_in g.V.LocalSuite.design) c.args.opened.now c.places.firsts c.places.place nonce_and_tag
          c.as_slice-nonce_and_tag.result.now w.in-Some.first c.in_ok-first.field-0 c.places.invariant
          c.in_ok-first.ensures.old c.as_slice-nonce_and_tag.ensures.value w.in-Some.is in
          let same : w.index-opened-first.result ≡ own.first =
          w.index-opened-first.is ∙ get_or_from_slice_get c.args.opened.now w.in-Some.first own.first w.index-opened-first.result own.is_there in
          let alike = w.cover_the_same.ensures.0 w.if-not-cover_the_same.false in
          let given : (s : List ℕ) → at_bytes s w.insert-in-Some.new.self ≡ cond (is_eq (slice_cmp nat_cmp nonce_and_tag s)) (Some w.in-Some.first) (at_bytes s c.insert.new.self) =
          λ s.
          let other : Bor (List ℕ) = record { ref_ptr = (0, 0); now = s } in
          w.in_ok-insert.ensures.updates.0 other
          ∙ ap (λ (z : List ℕ). cond (is_eq (slice_cmp nat_cmp z s)) (Some w.in-Some.first) (at_bytes s c.insert.new.self)) c.as_slice-nonce_and_tag.ensures.value in
          subst (AreKnown nonce_and_tag_in (covered_in g.V.LocalSuite.design) c.args.opened.now (c.places.place + 1)) (sym w.firsts-is)
          (put_back nonce_and_tag_in (covered_in g.V.LocalSuite.design) c.args.opened.now c.places.firsts c.insert.new.self w.insert-in-Some.new.self
          c.places.place w.in-Some.first (c.places.place + 1) kept (looked ∙ w.in-Some.is) taken given
          (one_alike nonce_and_tag_in (covered_in g.V.LocalSuite.design) c.args.opened.now c.places.firsts c.places.place w.in-Some.first kept own.first here own.is_there
          (looked ∙ w.in-Some.is) (ap (covered_in g.V.LocalSuite.design) (sym same) ∙ alike) c.places.invariant))
      | in_default w ↦
          subst (AreKnown nonce_and_tag_in (covered_in g.V.LocalSuite.design) c.args.opened.now (c.places.place + 1)) (sym w.firsts-is)
          (one_first nonce_and_tag_in (covered_in g.V.LocalSuite.design) c.args.opened.now c.places.firsts c.insert.new.self c.places.place kept here
          (looked ∙ none_found c.in_ok-first.field-0 w.in_default.not-Some) taken c.places.invariant)
    ]

pub returns : goal.returns
returns g c =
    let end : c.places.place ≡ length c.args.opened.now = omega arith in
    all_alike nonce_and_tag_in (covered_in g.V.LocalSuite.design) c.args.opened.now c.places.firsts
    (subst (λ (n : ℕ). AreKnown nonce_and_tag_in (covered_in g.V.LocalSuite.design) c.args.opened.now n c.places.firsts) end c.places.invariant)
