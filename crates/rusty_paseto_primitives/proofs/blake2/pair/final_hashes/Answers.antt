use Rattle.std.proofs.Common.{◌≡◌, ℕ, List, [], ◌∷◌, false, slice_index, refl}
use Rattle.rusty_paseto_primitives.specs.Blake2.Block.{compress, words}
use Rattle.rusty_paseto_primitives.specs.Blake2.Keyed.{zero_padded}
use Rattle.rusty_paseto_primitives.specs.Blake2.Lanes.{both, lanes}
use Rattle.rusty_paseto_primitives.proofs.Blake2Hashers.{hash_of_two_blocks}
use Rattle.rusty_paseto_primitives.proofs.blake2.pair.final_hashes.Goals as goal

pub returns : goal.returns
returns c values e =
    let key = c.args.key.now in
    let first = c.args.first.now in
    let second = c.args.second.now in
    let key_block : ℕ → List ℕ = both (zero_padded key) (zero_padded key) in
    let message : ℕ → List ℕ = both (zero_padded first) (zero_padded second) in
    let key_lanes : c.words_side_by_side-key_blocks.result ≡ lanes (λ j. words (key_block j)) =
    rw (c.words_side_by_side-key_blocks.ensures, c.words-key_words.ensures, c.zero_padded.ensures) refl in
    let message_lanes : c.words_side_by_side-messages.result ≡ lanes (λ j. words (message j)) =
    rw (c.words_side_by_side-messages.ensures, c.words.ensures, c.words-2.ensures, c.zero_padded-2.ensures, c.zero_padded-3.ensures) refl in
    let after_key = c.compress.ensures values key_block e key_lanes in
    let after = c.compress-2.ensures (λ j. compress (values j) (key_block j) (slice_index (128 ∷ 128 ∷ []) j) false) message after_key message_lanes in
    rw (
      after,
      hash_of_two_blocks (values 0) key first c.requires.key c.requires.key_len c.requires.first c.requires.first_len,
      hash_of_two_blocks (values 1) key second c.requires.key c.requires.key_len c.requires.second c.requires.second_len,
    ) refl
