use Rattle.std.proofs.Common.{ap}
use Rattle.rusty_paseto_parts.specs.PreAuthenticationEncoding.{pae}
use Rattle.rusty_paseto_parts.proofs.PaeLemmas.{lists, pae-injective}
use Rattle.rusty_paseto_parts.proofs.laws.equal_encodings.Goals as goal

pub returns : goal.returns
returns c = (
  λ same.
      pae-injective (lists c.args.first.now) (lists c.args.second.now) c.lengths_fit.ensures.count c.lengths_fit-2.ensures.count
      c.lengths_fit.ensures.each c.lengths_fit-2.ensures.each same,
  λ equal. ap pae equal,
)
