use Rattle.std.proofs.Common.{rules, ◌≡◌, ◌∙◌, Some, ap, refl}
use Rattle.paseto_words.specs.Action.{text}
use Rattle.paseto.proofs.new_key.differ.Goals as goal

pub returns-in-Some-Some-clause-same : goal.returns-in-Some-Some-clause-same
returns-in-Some-Some-clause-same c =
    let both = c.in-Some-Some in
    let same : both.public.now ≡ both.out.now = search (rules, c.eq.ensures, c.if-eq.true) in
    (refl, both.out.now, ap text both.is-0, ap text both.is-1 ∙ ap Some same)
