use Rattle.rusty_paseto_parts.specs.Section.{base64url}
use Rattle.rusty_paseto_paserk.proofs.text.push_encoded.Goals as goal

pub returns-clause-ok : goal.returns-clause-ok
unfolding base64url
returns-clause-ok c = c.in_ok-encode_string.ensures
