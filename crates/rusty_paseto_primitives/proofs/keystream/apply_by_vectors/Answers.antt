use Rattle.std.proofs.Common.{◌≡◌, ℕ, ◌+◌, ◌-◌, ◌*◌, List, [], ◌++◌, length, take, drop, slice_index_or, bit_xor, refl, ◌∙◌, arith, length-append, length-drop}
use Rattle.std.proofs.lemmas.List.{length-take-le}
use Rattle.std.proofs.lemmas.Simd.{length-put_chunk}
use Rattle.std.specs.Simd.Lanes.{chunk, put_chunk, zip2}
use Rattle.rusty_paseto_primitives.proofs.Xored.{xored_to_none, xored_to_block, xored_to_all, vector_xored}
use Rattle.rusty_paseto_primitives.proofs.keystream.apply_by_vectors.Goals as goal

pub vectors-init : goal.vectors-init
vectors-init c = record { size = refl; xored = λ lanes. xored_to_none _ c.args.data.now }

pub vectors-preserved : goal.vectors-preserved
vectors-preserved c =
    let i : ℕ = c.vectors.i in
    let block : ℕ → List ℕ = λ k. slice_index_or c.args.keystream.now k [] in
    let now : List ℕ = c.vectors.data in
    let width : ℕ = 16 * i + 16 - 16 * i in
    let left : List ℕ = drop (16 * i) now in
    let bytes : List ℕ = take width left in
    let vector : List ℕ = zip2 bit_xor (chunk 0 16 bytes) (block i) in
    let part : List ℕ = put_chunk 0 bytes vector in
    let whole : width ≡ 16 = omega arith in
    let rest : length left ≡ length now - 16 * i = length-drop (16 * i) now in
    let size : length bytes ≡ width = length-take-le width left (omega arith) in
    let kept : length part ≡ length bytes = length-put_chunk 0 bytes vector in
    let front : length (take (16 * i) now) ≡ 16 * i = length-take-le (16 * i) now (omega arith) in record {
      size = omega (
        arith,
        length-append (take (16 * i) now) (part ++ drop width left),
        length-append part (drop width left),
        length-drop width left,
      );
      xored = λ lanes.
          xored_to_block 16 block i width (16 * (i + 1)) (block i) c.args.data.now now part (c.vectors.invariant.xored lanes) refl
          (omega arith) (omega arith) (omega arith) (vector_xored bytes (block i) (size ∙ whole) (lanes i (omega arith)));
    }

pub returns : goal.returns
returns c lanes =
    xored_to_all _ (16 * c.vectors.i) c.args.data.now c.vectors.data (c.vectors.invariant.xored lanes) (omega arith)
