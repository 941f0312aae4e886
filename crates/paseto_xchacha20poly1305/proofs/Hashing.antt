-- How a hasher follows its message.
use Rattle.std.proofs.Common.{◌≡◌, ◌≢◌, ℕ, ◌+◌, ◌-◌, ◌*◌, ◌/◌, ◌%◌, ◌<◌, ◌≤◌, List, ◌++◌, length, take, drop, refl, sym, ap, ◌∙◌, arith, length-append, length-drop, add-one}
use Rattle.std.proofs.lemmas.List.{drop-append-le, drop-drop, length-take-le, take_all}
use Rattle.std.proofs.Math.Seq.{take-append-add, drop-append-add}
use Rattle.std.proofs.lemmas.Slice.{take-put_mid}
use Rattle.paseto_xchacha20poly1305.specs.Hasher.{Holds}
use Rattle.paseto_xchacha20poly1305.specs.Limbs.{value}
use Rattle.paseto_xchacha20poly1305.specs.Tag.{absorbed, block_number, clamped, prime, step}
use Rattle.paseto_xchacha20poly1305.specs.declared.hasher.Poly1305Hasher.{Poly1305Hasher}
use Rattle.paseto_xchacha20poly1305.proofs.Absorbing.{absorbed-append, absorbed-more}
use borrow.Rule.Slice.PartMut.{put_mid}

-- a message of whole blocks is taken in
pub absorbed-whole : (s : Poly1305Hasher) (key m : List ℕ) → Holds s key m → s.held ≡ 0
    → value s.accumulator % prime ≡ absorbed (clamped key) 0 m ((length m + 15) / 16)
unfolding Holds
absorbed-whole s key m h none =
    let count : (length m + 15) / 16 ≡ length m / 16 = omega (arith, h.3) in
    rw count h.2

-- a message that ends in a short block is taken in with that block
pub absorbed-short : (s : Poly1305Hasher) (key m : List ℕ) (x : ℕ) → Holds s key m → s.held ≢ 0
    → x ≡ step (value s.r) (value s.accumulator % prime) (block_number (take s.held s.buffer))
    → x ≡ absorbed (clamped key) 0 m ((length m + 15) / 16)
unfolding Holds absorbed
absorbed-short s key m x h some ex =
    let n : ℕ = length m / 16 in
    let count : (length m + 15) / 16 ≡ n + 1 = omega (arith, h.3) in
    let last : take 16 (drop (16 * n) m) ≡ take s.held s.buffer =
    take_all 16 (drop (16 * n) m) (omega (arith, length-drop (16 * n) m)) ∙ sym h.4 in
    rw (count, add-one, last, ← h.2, ← h.0) ex

-- what update leaves where no block is filled
pub Holds-short : (s t : Poly1305Hasher) (key m d ys : List ℕ) (j : ℕ) → Holds s key m → length s.buffer ≡ 16
    → s.held + length d < 16 → ys ≡ d → t.accumulator ≡ s.accumulator → t.r ≡ s.r → t.s ≡ s.s → t.held ≡ s.held + length d
    → t.buffer ≡ put_mid s.held j s.buffer ys → Holds t key (m ++ d)
unfolding Holds
Holds-short s t key m d ys j h len short same_bytes acc er es eh buffer =
    let n : ℕ = length m / 16 in
    let same : length (m ++ d) / 16 ≡ n = omega (arith, length-append m d, h.3) in
    let placed : take (s.held + length d) t.buffer ≡ take s.held s.buffer ++ d =
    rw (buffer, same_bytes) (take-put_mid s.held j s.buffer d (s.held + length d) refl (omega arith)) in (
      rw er h.0,
      es ∙ h.1,
      rw (acc, same, absorbed-append (clamped key) 0 m d n (omega arith)) h.2,
      omega (arith, length-append m d, h.3, eh),
      rw (eh, same, placed, h.4) (sym (drop-append-le (16 * n) m d (omega arith))),
    )

-- bytes that fill the block
filled_block : (b m d : List ℕ) (held room : ℕ) → held ≡ length m % 16 → take held b ≡ drop (16 * (length m / 16)) m
    → held + room ≡ 16 → take held b ++ take room d ≡ take 16 (drop (16 * (length m / 16)) (m ++ d))
filled_block b m d held room eh a fits =
    let n : ℕ = length m / 16 in
    let len : length (take held b) ≡ held = ap length a ∙ length-drop (16 * n) m ∙ omega (arith, eh) in
    let whole : length (take held b) + room ≡ 16 = omega arith in
    rw (drop-append-le (16 * n) m d (omega arith), ← a) (sym (rw whole at (take-append-add (take held b) d room)))

-- what is left after all of m and the first bytes of d
drop_past : (m d : List ℕ) (k j : ℕ) → j ≡ length m + k → drop j (m ++ d) ≡ drop k d
drop_past m d k j e = rw e (drop-append-add m d k)

-- what update leaves where a block is filled
pub Holds-long : (s t : Poly1305Hasher) (key m d block blocks tail : List ℕ) (room q x : ℕ) → Holds s key m
    → s.held + room ≡ 16 → room ≤ length d → block ≡ take s.held s.buffer ++ take room d
    → x ≡ absorbed (value s.r) (value s.accumulator % prime) block (length block / 16)
    → q ≡ (length d - room) / 16 → blocks ≡ take (q * 16) (drop room d)
    → value t.accumulator % prime ≡ absorbed (value s.r) x blocks (length blocks / 16)
    → tail ≡ drop (q * 16) (drop room d) → t.r ≡ s.r → t.s ≡ s.s → t.held ≡ length tail → take (length tail) t.buffer ≡ tail
    → Holds t key (m ++ d)
unfolding Holds
Holds-long s t key m d block blocks tail room q x h fits more eblock ex eq eblocks eacc etail er es eh placed =
    let n : ℕ = length m / 16 in
    let input : List ℕ = m ++ d in
    let long : length input ≡ length m + length d = length-append m d in
    let at : 16 * (n + 1) ≡ length m + room = omega (arith, h.3) in
    let block1 : block ≡ take 16 (drop (16 * n) input) = eblock ∙ filled_block s.buffer m d s.held room h.3 h.4 fits in
    let len1 : length block ≡ 16 = ap length block1 ∙ length-take-le 16 (drop (16 * n) input) (omega (arith, length-drop (16 * n) input)) in
    let one : length block / 16 ≡ 1 = omega arith in
    let part1 : block ≡ take (length block) (drop (16 * n) input) = rw len1 block1 in
    let taken : value s.accumulator % prime ≡ absorbed (clamped key) 0 input n =
    h.2 ∙ sym (absorbed-append (clamped key) 0 m d n (omega arith)) in
    let filled : x ≡ absorbed (clamped key) 0 input (n + 1) =
    ex ∙ rw (h.0, taken, one) (absorbed-more (clamped key) 0 input block n 1 (omega arith) part1) in
    let rest : drop (16 * (n + 1)) input ≡ drop room d = drop_past m d room (16 * (n + 1)) at in
    let left : length (drop room d) ≡ length d - room = length-drop room d in
    let len2 : length blocks ≡ q * 16 = ap length eblocks ∙ length-take-le (q * 16) (drop room d) (omega arith) in
    let many : length blocks / 16 ≡ q = omega arith in
    let part2 : blocks ≡ take (length blocks) (drop (16 * (n + 1)) input) = rw (len2, rest) eblocks in
    let all : n + 1 + q ≡ length input / 16 = omega (arith, h.3) in
    let whole : value t.accumulator % prime ≡ absorbed (clamped key) 0 input (length input / 16) =
    eacc ∙ rw (h.0, filled, many) (absorbed-more (clamped key) 0 input blocks (n + 1) q (omega arith) part2 ∙ ap (absorbed (clamped key) 0 input) all) in
    let len3 : length tail ≡ length d - room - q * 16 =
    ap length etail ∙ length-drop (q * 16) (drop room d) ∙ ap (λ (j : ℕ). j - q * 16) left in
    let end : 16 * (length input / 16) ≡ length m + (room + q * 16) = omega (arith, h.3) in
    let last : drop (16 * (length input / 16)) input ≡ tail =
    drop_past m d (room + q * 16) (16 * (length input / 16)) end ∙ sym (drop-drop (q * 16) room d) ∙ sym etail in
    (rw er h.0, es ∙ h.1, whole, omega (arith, h.3, eh), rw (eh, last) placed)
