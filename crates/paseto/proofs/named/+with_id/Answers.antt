use Rattle.std.proofs.Common.{◌-◌, inl, refl, drop, length, take}
use Rattle.paseto.proofs.NamedKeys.{more_keys}
use Rattle.paseto.proofs.Rulings.{first_and_rest}
use Rattle.paseto.proofs.named.+with_id.Goals as goal

pub returns-then-branch : goal.returns-then-branch
returns-then-branch t c =
    rw (first_and_rest c.args.keys.now c.key-item.result c.in-len1-up.len_at_least c.key-item.is) (inl (rw c.if-branch.true at c.in_ok-has_id.ensures, refl))

pub returns : goal.returns
returns t c =
    rw (first_and_rest c.args.keys.now c.key-item.result c.in-len1-up.len_at_least c.key-item.is)
    (more_keys c.args.id.now c.key-item.result (take (length c.args.keys.now - 1) (drop 1 c.args.keys.now)) c.with_id.result
    (rw c.if-branch.false at c.in_ok-has_id.ensures) c.with_id.ensures)
