use Rattle.std.proofs.Common.{List, ℕ, IsTrue, subst, sym}
use Rattle.rusty_paseto_parts.specs.PublicKey.{is_compressed}
use Rattle.paseto_p384.specs.P384.{p384_public}
use Rattle.paseto_p384.proofs.EncodingLaws.{encoded-compressed}
use Rattle.paseto_p384.proofs.p384.P384.try_new_pair.Goals as goal

compressed : (private : List ℕ) → IsTrue (is_compressed (p384_public private))
unfolding p384_public
compressed private = encoded-compressed _

pub returns-in_err-try_from-clause-err : goal.returns-in_err-try_from-clause-err
returns-in_err-try_from-clause-err g c =
    let public = subst (λ key. IsTrue (is_compressed key)) (sym c.in_ok-private.ensures.ok.2) (compressed c.in_ok-private.private) in
    absurd (cc (c.in_err-try_from.ensures.read.1 public))
