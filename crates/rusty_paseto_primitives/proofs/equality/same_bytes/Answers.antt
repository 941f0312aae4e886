use Rattle.std.proofs.Common.{◌≡◌, ℕ, slice_index, refl, ap, arith, below_more}
use Rattle.std.specs.Int.Bits.{xor_self}
use Rattle.std.proofs.lemmas.Bool.{eqb-true}
use Rattle.std.proofs.lemmas.List.{ext_get_or}
use Rattle.rusty_paseto_primitives.proofs.Differences.{joined_none}
use Rattle.rusty_paseto_primitives.proofs.equality.same_bytes.Goals as goal

pub bytes-preserved : goal.bytes-preserved
bytes-preserved c =
    let a = c.args.a.now in
    let b = c.args.b.now in
    let i : ℕ = c.bytes.i in (
      λ none.
          let parts = joined_none c.bytes.difference (slice_index a i) (slice_index b i) none in
          below_more (λ k. slice_index a k ≡ slice_index b k) i (c.bytes.invariant.0 parts.0) parts.1,
      λ same. rw (c.bytes.invariant.1 (λ k h. same k (omega arith)), same i (omega arith), xor_self (slice_index b i)) refl,
    )

pub returns : goal.returns
returns c = (
  λ yes. ext_get_or 0 _ _ (omega arith) (λ k h. c.bytes.invariant.0 (eqb-true c.bytes.difference 0 yes) k (omega arith)),
  λ same. rw (c.bytes.invariant.1 (λ k h. ap (λ l. slice_index l k) same)) refl,
)
