use Rattle.std.proofs.Common.{refl, arith}
use Rattle.std.proofs.lemmas.Bool.Decides.{nat_tests}
use Rattle.rusty_paseto_primitives.proofs.Blake2Hashers.{Holds_new, IsAbsorbed_key}
use Rattle.rusty_paseto_primitives.proofs.blake2.hasher.Blake2b.new.Goals as goal

pub returns-clause-message : goal.returns-clause-message
returns-clause-message c =
    Holds_new _ c.args.key.now c.args.output_len refl
    (IsAbsorbed_key _ c.args.key.now _ _ _ c.requires.key_len (rw (← c.initial_hash.ensures) (c.new.ensures _)) c.zero_padded.ensures
    (λ empty. grind (arith, nat_tests)) (λ some. grind (arith, nat_tests)))
