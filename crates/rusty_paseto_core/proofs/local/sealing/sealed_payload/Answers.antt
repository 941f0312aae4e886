use Rattle.std.proofs.Common.{◌≡◌, ◌++◌, List, ℕ, drop, length, refl, arith}
use Rattle.std.proofs.lemmas.List.{take_at}
use Rattle.rusty_paseto_core.specs.Context.{bound}
use Rattle.rusty_paseto_core.proofs.Written.{written_payload}
use Rattle.rusty_paseto_core.proofs.local.sealing.sealed_payload.Goals as goal

pub returns-clause-ok : goal.returns-clause-ok
returns-clause-ok g c =
    let first = c.in_ok-extend_from_slice.ensures.items in
    let second = c.in_ok-extend_from_slice-2.ensures.items in
    let front : c.extend_from_slice-2.new.self.items ≡ c.args.nonce.now ++ c.args.text.now = rw (second, first, c.in_ok-payload.ensures.items) refl in
    let ciphertext : List ℕ = c.encrypt_text.new.payload in
    let same : length ciphertext ≡ c.extend_from_slice-2.new.self.len = omega (arith, c.encrypt_text.auto.payload, c.deref_mut.ensures.len) in
    let back = take_at ciphertext (drop (length ciphertext) c.extend_from_slice-2.new.self.items) c.extend_from_slice-2.new.self.len same in
    written_payload g.V.LocalSuite.design (bound c.args.key.now c.args.context.now) c.args.nonce.now c.args.text.now c.extend_from_slice-2.new.self.items ciphertext
    c.push_tag.new.payload.items (omega arith) front (rw (c.encrypt_text.ensures _ _ c.split-keys.ensures, c.deref_mut.ensures.value) refl)
    (rw back at (c.in_ok-push_tag.ensures.ok _ c.split-keys.ensures))
