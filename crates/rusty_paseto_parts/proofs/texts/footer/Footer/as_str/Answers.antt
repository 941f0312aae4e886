use Rattle.std.proofs.Common.{rules}
use Rattle.rusty_paseto_parts.proofs.texts.footer.Footer.as_str.Goals as goal

pub returns : goal.returns
returns c = search rules
