use Rattle.std.proofs.Common.{ℕ, ◌≡◌, ◌-◌, ◌*◌, ◌++◌, length, take, drop, refl, ap, ◌∙◌, arith, length-drop}
use Rattle.std.proofs.lemmas.List.{length-take-le}
use Rattle.paseto_argon2.specs.VariableHash.{front_count, fronts, hash, linked}
use Rattle.paseto_argon2.proofs.Links.{fronts_more, fronts_one, linked_more, whole_output}
use Rattle.paseto_argon2.proofs.variable_hash.long_output.Goals as goal

pub fronts-init : goal.fronts-init
unfolding linked
fronts-init c = (refl, fronts_one c.args.output.now c.args.first c.write_front.new.output c.write_front.ensures)

pub fronts-preserved : goal.fronts-preserved
fronts-preserved c =
    let k : ℕ = c.fronts.k in
    let next = c.blake2b_keyed-link.ensures ∙ linked_more c.args.first c.fronts.link k (omega arith) c.fronts.invariant.0 in (
      next,
      fronts_more c.fronts.output c.write_front-in-fronts.new.output c.args.first c.blake2b_keyed-link.result k c.fronts.invariant.1 (omega arith) next c.write_front-in-fronts.ensures,
    )

pub returns : goal.returns
returns c =
    let t : ℕ = length c.args.output.now in
    let r : ℕ = c.div_ceil-count.result - 2 in
    let all : c.fronts.k ≡ r = omega arith in
    let count : r ≡ front_count t = omega arith in
    let left : ℕ = length c.fronts.output - 32 * r in
    let size : length (take left (drop (32 * r) c.fronts.output)) ≡ left = length-take-le left _ (omega (arith, length-drop (32 * r) c.fronts.output)) in
    whole_output t c.args.first c.fronts.link c.fronts.output c.hash_into.new.output r (length c.fronts.output - 32 * r) (omega arith) (omega arith)
    (rw all at c.fronts.invariant.0) (rw all at c.fronts.invariant.1) (c.hash_into.ensures ∙ ap (λ (n : ℕ). hash n c.fronts.link) size)
    ∙ ap (λ (k : ℕ). fronts c.args.first k ++ hash (t - 32 * k) (linked c.args.first (k - 1))) count
