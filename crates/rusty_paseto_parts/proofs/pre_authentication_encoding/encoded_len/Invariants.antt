use Rattle.std.proofs.Common.{◌≡◌, length}
use Rattle.rusty_paseto_parts.proofs.PaeLemmas.{pae_so_far}
use Rattle.rusty_paseto_parts.proofs.pre_authentication_encoding.encoded_len.Given as goal

abbrev pub invariant-pieces : goal.invariant-pieces
invariant-pieces l = l.len ≡ length (pae_so_far l.pieces l.piece-index)
