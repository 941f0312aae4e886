use Rattle.rusty_paseto.proofs.paseto_parser.DefaultParser+V+Local+ValidatorFn.parse.Goals as goal

pub returns : goal.returns
returns g c = c.parse.ensures
