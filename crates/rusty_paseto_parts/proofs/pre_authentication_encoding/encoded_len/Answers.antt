use Rattle.std.proofs.Common.{◌≡◌, ℕ, List, [], Bor, length, ap, ◌∙◌, sym, arith}
use Rattle.rusty_paseto_parts.proofs.PaeLemmas.{length-le64, pae_so_far-start, pae_so_far-counted, pae_so_far-end, pae-too_long}
use Rattle.rusty_paseto_parts.proofs.pre_authentication_encoding.encoded_len.Goals as goal

pub pieces-init : goal.pieces-init
pieces-init c = sym (ap length (pae_so_far-start c.args.pieces.now) ∙ length-le64 (length c.args.pieces.now))

pub pieces-preserved : goal.pieces-preserved
pieces-preserved c =
    pae_so_far-counted c.args.pieces.now c.pieces.piece-index c.pieces.len c.in_ok-add_lengths.field-0 c.in_ok-len.len _
    c.pieces-test.true c.pieces.invariant c.in_ok-add_lengths.ensures c.in_ok-len.ensures

-- what a place past the end is read as
abbrev nothing : Bor (List ℕ)
nothing = record { ref_ptr = (0, 0); now = [] }

pub returns-in_err-add_lengths-clause-err : goal.returns-in_err-add_lengths-clause-err
returns-in_err-add_lengths-clause-err c none =
    let long = c.in_err-add_lengths.ensures in
    pae-too_long c.args.pieces.now c.pieces.piece-index c.pieces.len nothing c.pieces-test.true c.pieces.invariant (omega (arith, long))

pub returns-in_err-len-clause-err : goal.returns-in_err-len-clause-err
returns-in_err-len-clause-err c none =
    let long = c.in_err-len.ensures in
    pae-too_long c.args.pieces.now c.pieces.piece-index c.pieces.len nothing c.pieces-test.true c.pieces.invariant
    (omega (arith, long, c.in_ok-add_lengths.ensures))

pub returns-clause-ok : goal.returns-clause-ok
returns-clause-ok c =
    let end : c.pieces.piece-index ≡ length c.args.pieces.now = omega arith in
    (rw end at c.pieces.invariant) ∙ ap length (pae_so_far-end c.args.pieces.now)
