use Rattle.std.proofs.Common.{refl}
use Rattle.std.proofs.lemmas.List.{take_rest}
use Rattle.rusty_paseto_core.proofs.local.sealing.push_tag.Goals as goal

pub returns-clause-ok : goal.returns-clause-ok
returns-clause-ok g c key split =
    rw (c.in_ok-extend_from_slice.ensures.items, c.write_tag.ensures key split, c.deref.ensures.value, take_rest c.args.payload.now.items 32) refl
