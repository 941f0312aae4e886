use Rattle.std.proofs.Common.{append_assoc}
use Rattle.paseto_wrapping.specs.Password.{cost_bytes}
use Rattle.paseto_wrapping.proofs.cost.PasswordCost.push_memory.Goals as goal

pub returns-clause-ok : goal.returns-clause-ok
unfolding cost_bytes
returns-clause-ok c =
    rw (
      c.in_ok-extend_from_slice-3.ensures.items,
      c.in_ok-extend_from_slice-2.ensures.items,
      c.in_ok-extend_from_slice.ensures.items,
      c.to_be_bytes.ensures,
      c.to_be_bytes-2.ensures,
      c.to_be_bytes-3.ensures,
    ) (simp append_assoc)
