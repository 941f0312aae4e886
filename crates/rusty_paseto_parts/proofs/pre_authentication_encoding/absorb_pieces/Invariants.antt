use Rattle.rusty_paseto_parts.proofs.PaeLemmas.{pae_so_far}
use Rattle.rusty_paseto_parts.proofs.pre_authentication_encoding.absorb_pieces.Given as goal

abbrev pub invariant-pieces : goal.invariant-pieces
invariant-pieces g l = g.A.Absorb.absorbed l.fn.absorber (pae_so_far l.pieces l.piece-index) l.absorber
