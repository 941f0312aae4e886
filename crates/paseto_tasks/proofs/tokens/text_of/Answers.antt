use Rattle.paseto_keys.specs.AnyKey.{parts_of}
use Rattle.paseto_tasks.proofs.Uses.{not_given, read_makes}
use Rattle.paseto_tasks.proofs.tokens.text_of.Goals as goal

pub returns : goal.returns
returns c =
    let given = c.bound-assertion.ensures in
    let answer = c.read-answer.ensures.answer c.requires.reads (λ unbound. not_given _ (given.none unbound)) in
    read_makes (parts_of c.args.key.now) c.args.options.now c.args.token.now c.read-answer.result c.answered.result
    (rw (given.same c.requires.taken) at answer) c.answered.ensures.read
    (rw (c.read_by.ensures, c.version.ensures, c.kind.ensures) at c.answered.ensures.refused)
