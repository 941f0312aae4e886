use Rattle.std.proofs.Common.{ℕ, List, [], ◌∷◌, ◌++◌, ◌∙◌, sym, append_assoc}
use Rattle.paseto_rsa.specs.Encoding.{emsa_pss_encode, masked, padding, salted_hash}
use Rattle.paseto_rsa.proofs.encoding.encode.Goals as goal

pub returns : goal.returns
unfolding emsa_pss_encode
returns c =
    let first = c.copy_from_slice.ensures.after ∙ c.masked.ensures in
    let second = c.copy_from_slice-2.ensures.after in
    let third = c.split_at_mut-middle.ensures.back in
    let back = c.split_at_mut-block.ensures.back in
    let h : List ℕ = salted_hash c.args.hash.now c.args.salt.now in
    let block : List ℕ = masked h (padding ++ c.args.salt.now) in
    rw (first, second, third, back, c.padded.ensures, c.salted_hash-salted.ensures) (sym (append_assoc block h (0xbc ∷ [])))
