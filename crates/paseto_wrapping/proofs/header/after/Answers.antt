use Rattle.rusty_paseto_paserk.proofs.Prefixes.{strip_text}
use Rattle.paseto_wrapping.proofs.header.after.Goals as goal

pub returns : goal.returns
returns c = strip_text c.args.front.now c.args.text.now c.strip_prefix.result c.strip_prefix.ensures.cases
