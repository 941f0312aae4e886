use Rattle.rusty_paseto_parts.specs.Section.{base64url}
use Rattle.rusty_paseto_parts.proofs.section.to_section.Goals as goal

pub returns-clause-ok : goal.returns-clause-ok
unfolding base64url
returns-clause-ok c = c.in_ok-encode.ensures.text
