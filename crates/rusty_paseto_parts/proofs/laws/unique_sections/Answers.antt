use Rattle.rusty_paseto_parts.proofs.SectionLemmas.{are_sections}
use Rattle.rusty_paseto_parts.proofs.laws.unique_sections.Goals as goal

pub returns : goal.returns
returns c = λ parts. are_sections c.args.text.now parts
