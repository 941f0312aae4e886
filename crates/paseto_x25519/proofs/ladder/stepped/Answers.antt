use Rattle.paseto_edwards25519.specs.Field.{number}
use Rattle.paseto_x25519.specs.Numbers.{numbers}
use Rattle.paseto_x25519.proofs.LadderLaws.{stepped-is}
use Rattle.paseto_x25519.proofs.ladder.stepped.Goals as goal

pub returns : goal.returns
returns c =
    stepped-is (number c.args.x1) c.args.bit (numbers c.args.n) _ _ _ _ _ _ _ _ _ _ _ _ _ _ _ _ _ _
    c.add-a.ensures.value c.square-aa.ensures.value c.sub-b.ensures.value c.square-bb.ensures.value c.sub-e.ensures.value
    c.sub-d.ensures.value c.mul-da.ensures.value c.add-c.ensures.value c.mul-cb.ensures.value
    c.mul.ensures.value c.mul_small.ensures.value c.add.ensures.value c.mul-2.ensures.value
    c.add-2.ensures.value c.square.ensures.value c.sub.ensures.value c.square-2.ensures.value c.mul-3.ensures.value
