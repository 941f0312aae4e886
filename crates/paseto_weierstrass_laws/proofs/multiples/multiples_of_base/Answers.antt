use Rattle.paseto_weierstrass_laws.proofs.OrderLaws.{divided-neutral, neutral-multiples}
use Rattle.paseto_weierstrass_laws.proofs.PointLaws as laws
use Rattle.paseto_weierstrass_laws.proofs.multiples.multiples_of_base.Goals as goal

pub returns : goal.returns
returns c = λ k. (λ s. neutral-multiples k (record { point = laws.neutral-is_point; same = s }), λ e. (divided-neutral k e).same)
