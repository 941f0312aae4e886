use Rattle.std.proofs.Common.{◌≡◌, ◌-◌, ◌∷◌, ◌++◌, List, ℕ, ap, arith, drop, length, sym, take, ◌∙◌}
use Rattle.std.proofs.lemmas.List.{append_assoc, length-drop, take_all}
use Rattle.rusty_paseto_primitives.proofs.ByteLists.{IsBytes-append}
use Rattle.paseto_base64.specs.Alphabet.{symbols}
use Rattle.paseto_base64.proofs.Tails.{next_group}
use Rattle.paseto_base64.proofs.decoding.unchecked.Goals as goal

pub loop-rest-preserved : goal.loop-rest-preserved
loop-rest-preserved c = (
  rw c.in_ok-extend_from_slice.ensures.items (IsBytes-append _ _ c.loop-rest.invariant.0 c.group.ensures.bytes),
  λ bytes h e.
      let rest : List ℕ = c.loop-rest.rest.now in
      let now = c.loop-rest.invariant.1 bytes h e in
      let next = next_group (symbols c.args.alphabet) rest now.0 c.in-len4-up.len_at_least now.1 now.2 in
      let behind : take (length rest - 4) (drop 4 rest) ≡ drop 4 rest = take_all _ _ (omega (arith, length-drop 4 rest)) in
      let made = c.group.ensures.group next.a next.b next.c next.low_a next.low_b next.low_c next.front in
      let begun : bytes ≡ c.loop-rest.bytes.items ++ (next.a ∷ next.b ∷ next.c ∷ next.tail) = now.3 ∙ ap (λ end. c.loop-rest.bytes.items ++ end) next.is in
      (next.tail, next.tail_bytes, behind ∙ next.back, rw (c.in_ok-extend_from_slice.ensures.items, made) (begun ∙ sym (append_assoc c.loop-rest.bytes.items _ _))),
)
