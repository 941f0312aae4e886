use Rattle.std.proofs.Common.{◌≡◌, ℕ, ◌%◌, List, [], ◌∷◌, get_or, take, refl, ◌∙◌, ap}
use Rattle.std.proofs.Math.ListN.{set}
use Rattle.paseto_rsa.specs.Encoding.{masked}
use Rattle.paseto_rsa.specs.Mask.{first_bit_cleared, mgf1, xor_octets}
use Rattle.paseto_rsa.proofs.mask.masked.Goals as goal

cleared : (xs : List ℕ) → set xs 0 (get_or xs 0 0 % 128) ≡ first_bit_cleared xs
cleared [] = refl
cleared (x ∷ xs) = refl

pub returns : goal.returns
unfolding masked mgf1
returns c =
    cleared c.mixed-octets.result
    ∙ ap first_bit_cleared (c.mixed-octets.ensures ∙ ap (λ m. xor_octets c.args.block.now (take 207 m)) c.joined_digests.ensures)
