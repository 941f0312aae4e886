use Rattle.std.proofs.Common.{◌≡◌, false, inr, refl, rules}
use Rattle.paseto.specs.Times.{is_negative}
use Rattle.paseto.proofs.commands.times.time_error.Goals as goal

pub returns-in_default : goal.returns-in_default
returns-in_default c =
    let plain : is_negative c.args.word.now ≡ false = search rules in
    inr (inr (refl, plain, λ like. c.in_default.ensures.unit like.0 like.1 like.2))
