use Rattle.std.proofs.Common.{◌≡◌, length, arith}
use Rattle.rusty_paseto_parts.proofs.PaeLemmas.{taken-number, taken-piece, taken-all}
use Rattle.rusty_paseto_parts.proofs.pre_authentication_encoding.absorb_pieces.Goals as goal

pub pieces-init : goal.pieces-init
pieces-init g c = rw (← taken-number c.args.pieces.now _ c.to_le_bytes.ensures) c.in_ok-absorb.ensures

pub pieces-preserved : goal.pieces-preserved
pieces-preserved g c =
    let law = g.met.A.Absorb.joined in
    let length_taken = law _ _ _ _ _ c.pieces.invariant c.in_ok-absorb-2.ensures in
    let piece_taken = law _ _ _ _ _ length_taken c.in_ok-absorb-3.ensures in
    let grown = taken-piece c.args.pieces.now c.pieces.piece-index c.to_le_bytes-in-pieces.result _ c.pieces-test.true c.to_le_bytes-in-pieces.ensures in
    rw (← grown) piece_taken

pub returns : goal.returns
returns g c =
    let end : c.pieces.piece-index ≡ length c.args.pieces.now = omega arith in
    rw (← taken-all c.args.pieces.now c.pieces.piece-index end) c.pieces.invariant
