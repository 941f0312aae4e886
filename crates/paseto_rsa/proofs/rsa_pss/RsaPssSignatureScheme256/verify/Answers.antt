use Rattle.std.proofs.Common.{refl}
use Rattle.std.proofs.lemmas.Bool.{false≢true}
use Rattle.paseto_rsa.proofs.KeyLaws.{valid-by}
use Rattle.paseto_rsa.proofs.rsa_pss.RsaPssSignatureScheme256.verify.Goals as goal

pub returns-else-verify-clause-err : goal.returns-else-verify-clause-err
returns-else-verify-clause-err g c =
    (refl, λ v. false≢true (c.if-verify.ensures.1 (valid-by _ _ c.args.public.now c.args.message.now c.args.signature.now c.in-Some.ensures.1 v)))

pub returns-in-None-clause-err : goal.returns-in-None-clause-err
returns-in-None-clause-err g c = (refl, λ v. c.in-None.ensures v.n v.e v.in_range v.key)
