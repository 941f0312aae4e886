use Rattle.paseto_wrapping.proofs.Sealings.{seal-memory, sealed-unsealed}
use Rattle.paseto_wrapping.proofs.SodiumSealings.{own_seal, v2_unsealed, v4_unsealed}
use Rattle.paseto_wrapping.proofs.laws.sealed_keys_unseal.Goals as goal

pub returns : goal.returns
returns c = record {
  unsealed = sealed-unsealed;
  sealed = seal-memory;
  v2_unsealed = v2_unsealed;
  v2_sealed = own_seal;
  v4_unsealed = v4_unsealed;
  v4_sealed = own_seal;
}
