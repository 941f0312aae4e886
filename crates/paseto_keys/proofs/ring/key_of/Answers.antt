use Rattle.std.proofs.Common.{◌∙◌}
use Rattle.paseto_keys.proofs.RingLaws.{from, none}
use Rattle.paseto_keys.proofs.ring.key_of.Goals as goal

pub returns-then-branch-clause-found : goal.returns-then-branch-clause-found
returns-then-branch-clause-found c =
    let named = c.in_ok-is_named.ensures.named c.if-branch.true in
    c.keys.invariant ∙ from _ _ _ c.args.keys.now c.keys.key-index c.key-item.result c.keys-test.true c.key-item.is ∙ named.1 _

pub keys-preserved : goal.keys-preserved
keys-preserved c =
    let other = c.in_ok-is_named.ensures.other c.if-branch.false in
    c.keys.invariant ∙ from _ _ _ c.args.keys.now c.keys.key-index c.key-item.result c.keys-test.true c.key-item.is ∙ other _

pub returns-clause-found : goal.returns-clause-found
returns-clause-found c = c.keys.invariant ∙ none _ _ _ c.args.keys.now c.keys.key-index c.keys-test.false
