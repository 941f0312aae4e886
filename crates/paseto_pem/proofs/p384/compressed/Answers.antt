use Rattle.std.proofs.Common.{◌≡◌, ℕ, ◌+◌, ◌%◌, List, [], ◌∷◌, ◌++◌, length, slice_index, refl, sym, ap, ap₂, ◌∙◌}
use Rattle.std.specs.Prelude.{slice_set}
use Rattle.paseto_pem.proofs.P384Laws.{compressed-is}
use Rattle.paseto_pem.proofs.p384.compressed.Goals as goal

pub copy_from_slice-requires : goal.copy_from_slice-requires
copy_from_slice-requires c = ap length c.split_at_mut-first.ensures.back ∙ sym c.split_at.ensures.front_len

pub returns : goal.returns
returns c =
    let first : ℕ = 2 + slice_index c.args.xy.now 95 % 2 in
    let head : slice_set c.split_at_mut-first.result.0.now 0 first ≡ first ∷ [] = rw c.split_at_mut-first.ensures.front refl in
    ap₂ (λ (a b : List ℕ). a ++ b) head (c.copy_from_slice.ensures.after ∙ c.split_at.ensures.front) ∙ compressed-is c.args.xy.now
