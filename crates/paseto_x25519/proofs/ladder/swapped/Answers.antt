use Rattle.paseto_x25519.specs.Numbers.{numbers}
use Rattle.paseto_x25519.proofs.LadderLaws.{swapped-is}
use Rattle.paseto_x25519.proofs.ladder.swapped.Goals as goal

pub returns : goal.returns
returns c =
    swapped-is c.args.choice (numbers c.args.n) _ _ _ _ c.requires
    c.choose.ensures.one c.choose.ensures.zero c.choose-2.ensures.one c.choose-2.ensures.zero
    c.choose-3.ensures.one c.choose-3.ensures.zero c.choose-4.ensures.one c.choose-4.ensures.zero
