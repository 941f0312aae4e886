use Rattle.std.proofs.Common.{◌≡◌, ℕ, List, length, refl}
use Rattle.rusty_paseto_primitives.specs.Blake2.Keyed.{blake2b, final_hash, initial_hash, keyed_input}
use Rattle.rusty_paseto_primitives.specs.Blake2.Lanes.{both, hash_lanes}
use Rattle.rusty_paseto_primitives.proofs.Blake2Lanes.{hash_words-final_hash}
use Rattle.rusty_paseto_primitives.proofs.blake2.pair.of_two_blocks_each.Goals as goal

pub returns-clause-first : goal.returns-clause-first
unfolding blake2b
returns-clause-first g c =
    let key = c.args.key.now in
    let first = c.args.first.now in
    let second = c.args.second.now in
    let start : ℕ → List ℕ = both (initial_hash g.row.N (length key)) (initial_hash g.row.M (length key)) in
    let value : ℕ → List ℕ = λ j. final_hash (start j) (keyed_input key (both first second j)) in
    let began : c.hashes_side_by_side-start.result ≡ hash_lanes start =
    rw (c.hashes_side_by_side-start.ensures, c.initial_hash.ensures, c.initial_hash-2.ensures) refl in
    let ended = c.final_hashes-hashes.ensures start began in
    rw (c.front_bytes.ensures, c.hash_in_lane.ensures value ended, hash_words-final_hash (start 0) (keyed_input key first)) refl

pub returns-clause-second : goal.returns-clause-second
unfolding blake2b
returns-clause-second g c =
    let key = c.args.key.now in
    let first = c.args.first.now in
    let second = c.args.second.now in
    let start : ℕ → List ℕ = both (initial_hash g.row.N (length key)) (initial_hash g.row.M (length key)) in
    let value : ℕ → List ℕ = λ j. final_hash (start j) (keyed_input key (both first second j)) in
    let began : c.hashes_side_by_side-start.result ≡ hash_lanes start =
    rw (c.hashes_side_by_side-start.ensures, c.initial_hash.ensures, c.initial_hash-2.ensures) refl in
    let ended = c.final_hashes-hashes.ensures start began in
    rw (c.front_bytes-2.ensures, c.hash_in_lane-2.ensures value ended, hash_words-final_hash (start 1) (keyed_input key second)) refl
