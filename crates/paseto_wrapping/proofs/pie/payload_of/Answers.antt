use Rattle.std.proofs.Common.{refl}
use Rattle.paseto_wrapping.specs.Pie.{payload}
use Rattle.paseto_wrapping.proofs.pie.payload_of.Goals as goal

pub returns-clause-ok : goal.returns-clause-ok
unfolding payload
returns-clause-ok c =
    rw (
      c.in_ok-extend_from_slice-2.ensures.items,
      c.in_ok-extend_from_slice.ensures.items,
      c.in_ok-payload.ensures.items,
      c.as_bytes.ensures,
      c.tag-tag.ensures,
      c.deref-2.ensures.value,
      c.deref.ensures.value,
      c.in_ok-ciphertext.ensures.ok,
      c.of.ensures,
    ) refl
