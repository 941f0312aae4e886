use Rattle.std.proofs.Common.{◌∷◌, [], ◌++◌, List, ℕ, ap, arith, slice_index, sym, ◌∙◌}
use Rattle.std.proofs.lemmas.List.{append-nil}
use Rattle.base64.proofs.Decoding.{OnOk_implies}
use Rattle.paseto_base64.specs.Alphabet.{symbols}
use Rattle.paseto_base64.proofs.Tails.{if_ok, no_byte, one_byte, two_bytes}
use Rattle.paseto_base64.proofs.decoding.push_last.Goals as goal

pub returns-in-empty-clause-last : goal.returns-in-empty-clause-last
returns-in-empty-clause-last c last h e =
    rw (no_byte (symbols c.args.alphabet) c.args.rest.now last (omega (arith, c.in-empty.len_below)) e) (sym (append-nil c.args.bytes.now.items))

pub returns-in-len2-clause-last : goal.returns-in-len2-clause-last
returns-in-len2-clause-last c =
    OnOk_implies c.extend_from_slice.result _ _
    (λ items last h e.
    let one = one_byte c.args.alphabet c.args.rest.now last (omega (arith, c.in-len2.len_at_least, c.in-len2.len_below)) h e in
    let made = c.group.ensures.group one.a 0 0 one.low (omega arith) (omega arith) one.group in
    rw one.is (items ∙ ap (λ (found : List ℕ). c.args.bytes.now.items ++ (slice_index found 0 ∷ [])) made))
    (if_ok c.extend_from_slice.result _ _ _ c.extend_from_slice.ensures.items)

pub returns-in-len3-clause-last : goal.returns-in-len3-clause-last
returns-in-len3-clause-last c =
    OnOk_implies c.extend_from_slice-in-len3.result _ _
    (λ items last h e.
    let two = two_bytes c.args.alphabet c.args.rest.now last (omega (arith, c.in-len3.len_at_least, c.in-len3.len_below)) h e in
    let made = c.group-in-len3.ensures.group two.a two.b 0 two.low_a two.low_b (omega arith) two.group in
    rw two.is (items ∙ ap (λ (found : List ℕ). c.args.bytes.now.items ++ (slice_index found 0 ∷ slice_index found 1 ∷ [])) made))
    (if_ok c.extend_from_slice-in-len3.result _ _ _ c.extend_from_slice-in-len3.ensures.items)
