use Rattle.std.proofs.Common.{ap, arith}
use Rattle.rusty_paseto_parts.specs.Section.{base64url}
use Rattle.rusty_paseto_parts.proofs.SectionLemmas.{base64url-injective}
use Rattle.rusty_paseto_parts.proofs.laws.equal_base64url.Goals as goal

pub returns : goal.returns
returns c = (
  λ same. base64url-injective c.args.first.now c.args.second.now (λ i. let fits = c.type_inv.first i in omega arith)
      (λ i. let fits = c.type_inv.second i in omega arith) same,
  λ equal. ap base64url equal,
)
