use Rattle.std.proofs.Common.{ℕ, ◌+◌, List, [], slice_index_or, refl, ap}
use Rattle.rusty_paseto_primitives.specs.ChaCha.Block.{block_bytes, block_word}
use Rattle.rusty_paseto_primitives.specs.ChaCha.Stream.{numbered}
use Rattle.rusty_paseto_primitives.proofs.LaneBytes.{bytes_of_words}
use Rattle.rusty_paseto_primitives.proofs.chacha.lanes.keystream.Goals as goal

pub returns : goal.returns
unfolding block_bytes
returns c =
    let s : ℕ → List ℕ = λ j. numbered c.args.key.now c.args.tail.now (c.args.n + j) in
    let w : ℕ → ℕ → ℕ = λ k j. block_word (s j) k in
    let e = c.blocks-x.ensures s c.starts.ensures in
    let at = λ (k : ℕ). ap (λ (v : List (List ℕ)). slice_index_or v k []) e in
    let e0 = c.transposed.ensures (w 0) (w 1) (w 2) (w 3) (at 0) (at 1) (at 2) (at 3) in
    let e1 = c.transposed-2.ensures (w 4) (w 5) (w 6) (w 7) (at 4) (at 5) (at 6) (at 7) in
    let e2 = c.transposed-3.ensures (w 8) (w 9) (w 10) (w 11) (at 8) (at 9) (at 10) (at 11) in
    let e3 = c.transposed-4.ensures (w 12) (w 13) (w 14) (w 15) (at 12) (at 13) (at 14) (at 15) in
    rw (
      bytes_of_words (s 0) _ _ 0 1 2 3 (ap (λ (t : List ℕ × List ℕ × List ℕ × List ℕ). t.0) e0) c.bytes_of.ensures,
      bytes_of_words (s 0) _ _ 4 5 6 7 (ap (λ (t : List ℕ × List ℕ × List ℕ × List ℕ). t.0) e1) c.bytes_of-2.ensures,
      bytes_of_words (s 0) _ _ 8 9 10 11 (ap (λ (t : List ℕ × List ℕ × List ℕ × List ℕ). t.0) e2) c.bytes_of-3.ensures,
      bytes_of_words (s 0) _ _ 12 13 14 15 (ap (λ (t : List ℕ × List ℕ × List ℕ × List ℕ). t.0) e3) c.bytes_of-4.ensures,
      bytes_of_words (s 1) _ _ 0 1 2 3 (ap (λ (t : List ℕ × List ℕ × List ℕ × List ℕ). t.1) e0) c.bytes_of-5.ensures,
      bytes_of_words (s 1) _ _ 4 5 6 7 (ap (λ (t : List ℕ × List ℕ × List ℕ × List ℕ). t.1) e1) c.bytes_of-6.ensures,
      bytes_of_words (s 1) _ _ 8 9 10 11 (ap (λ (t : List ℕ × List ℕ × List ℕ × List ℕ). t.1) e2) c.bytes_of-7.ensures,
      bytes_of_words (s 1) _ _ 12 13 14 15 (ap (λ (t : List ℕ × List ℕ × List ℕ × List ℕ). t.1) e3) c.bytes_of-8.ensures,
      bytes_of_words (s 2) _ _ 0 1 2 3 (ap (λ (t : List ℕ × List ℕ × List ℕ × List ℕ). t.2) e0) c.bytes_of-9.ensures,
      bytes_of_words (s 2) _ _ 4 5 6 7 (ap (λ (t : List ℕ × List ℕ × List ℕ × List ℕ). t.2) e1) c.bytes_of-10.ensures,
      bytes_of_words (s 2) _ _ 8 9 10 11 (ap (λ (t : List ℕ × List ℕ × List ℕ × List ℕ). t.2) e2) c.bytes_of-11.ensures,
      bytes_of_words (s 2) _ _ 12 13 14 15 (ap (λ (t : List ℕ × List ℕ × List ℕ × List ℕ). t.2) e3) c.bytes_of-12.ensures,
      bytes_of_words (s 3) _ _ 0 1 2 3 (ap (λ (t : List ℕ × List ℕ × List ℕ × List ℕ). t.3) e0) c.bytes_of-13.ensures,
      bytes_of_words (s 3) _ _ 4 5 6 7 (ap (λ (t : List ℕ × List ℕ × List ℕ × List ℕ). t.3) e1) c.bytes_of-14.ensures,
      bytes_of_words (s 3) _ _ 8 9 10 11 (ap (λ (t : List ℕ × List ℕ × List ℕ × List ℕ). t.3) e2) c.bytes_of-15.ensures,
      bytes_of_words (s 3) _ _ 12 13 14 15 (ap (λ (t : List ℕ × List ℕ × List ℕ × List ℕ). t.3) e3) c.bytes_of-16.ensures,
    ) refl
