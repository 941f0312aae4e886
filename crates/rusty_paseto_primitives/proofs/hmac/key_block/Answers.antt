use Rattle.std.proofs.Common.{◌≡◌, ℕ, ◌<◌, ◌≤◌, List, ◌++◌, length, ap, arith}
use Rattle.std.proofs.lemmas.Bool.Decides.{nat_tests}
use Rattle.std.proofs.lemmas.List.{drop-replicate}
use Rattle.sha2.specs.Sha512.{sha384}
use Rattle.sha2.proofs.Facts512.{length-sha384}
use Rattle.rusty_paseto_primitives.specs.Hmac.{key_block, short_key}
use Rattle.rusty_paseto_primitives.proofs.hmac.key_block.Goals as goal

short_key-long : (key : List ℕ) → 128 < length key → short_key key ≡ sha384 key
short_key-long key long = grind (arith, nat_tests)

short_key-fits : (key : List ℕ) → length key ≤ 128 → short_key key ≡ key
short_key-fits key fits = grind (arith, nat_tests)

pub returns-then-key-gt-BLOCK_LEN : goal.returns-then-key-gt-BLOCK_LEN
unfolding key_block
returns-then-key-gt-BLOCK_LEN c =
    let key = c.args.key.now in
    let hashed = short_key-long key c.if-key-gt-BLOCK_LEN.true in
    rw (hashed, length-sha384 key, c.copy_from_slice.ensures.after, c.digest.ensures)

pub returns-else-key-gt-BLOCK_LEN : goal.returns-else-key-gt-BLOCK_LEN
unfolding key_block
returns-else-key-gt-BLOCK_LEN c =
    let key = c.args.key.now in
    let zero_byte : ℕ = 0 in
    let same = short_key-fits key c.if-key-gt-BLOCK_LEN.false in
    rw (same, c.copy_from_slice-else-key-gt-BLOCK_LEN.ensures.after) (ap (λ (zeros : List ℕ). key ++ zeros) (drop-replicate (length key) 128 zero_byte))
