use Rattle.std.proofs.lemmas.Result.{err_from_is_err_and}
use Rattle.paseto_keys.specs.PublicHalf.{GivesHalf}
use Rattle.paseto_calls.specs.HeldKey.{named_by}
use Rattle.paseto_calls.specs.Refusal.{paserk_refusal}
use Rattle.paseto_calls.proofs.KeyExits.{making_held, making_refuses}
use Rattle.paseto_calls.proofs.Taken.{fault_refuses}
use Rattle.paseto_calls.proofs.KeyWhole.{halving_apart}
use Rattle.paseto_calls.proofs.Whole.{key_whole_of}
use Rattle.paseto_calls.proofs.key_calls.public_half.Goals as goal

pub returns-in_err-key-clause-made : goal.returns-in_err-key-clause-made
returns-in_err-key-clause-made c =
    let p = err_from_is_err_and c.from_residual.result c.from_residual.ensures.1 in
    rw (p.1, p.2) (fault_refuses _ _ c.in_err-key.ensures)

pub returns-in_err-key-clause-whole : goal.returns-in_err-key-clause-whole
returns-in_err-key-clause-whole c = key_whole_of _ (halving_apart c.args.key.now) _ (returns-in_err-key-clause-made c)

pub returns-in_err-half-clause-made : goal.returns-in_err-half-clause-made
returns-in_err-half-clause-made c =
    let p = err_from_is_err_and c.from_residual-in_err-half.result c.from_residual-in_err-half.ensures.1 in
    rw (p.1, p.2) (making_refuses _ (GivesHalf (named_by c.args.key.now)) paserk_refusal c.in_ok-key.ensures.1 _
    (rw c.in_ok-key.ensures.0 at c.in_err-half.ensures))

pub returns-in_err-half-clause-whole : goal.returns-in_err-half-clause-whole
returns-in_err-half-clause-whole c = key_whole_of _ (halving_apart c.args.key.now) _ (returns-in_err-half-clause-made c)

pub returns-clause-made : goal.returns-clause-made
returns-clause-made c =
    making_held _ (GivesHalf (named_by c.args.key.now)) paserk_refusal c.in_ok-key.ensures.1 c.in_ok-half.half
    (rw c.in_ok-key.ensures.0 at c.in_ok-half.ensures) c.of.result c.of.ensures

pub returns-clause-whole : goal.returns-clause-whole
returns-clause-whole c = key_whole_of _ (halving_apart c.args.key.now) _ (returns-clause-made c)
