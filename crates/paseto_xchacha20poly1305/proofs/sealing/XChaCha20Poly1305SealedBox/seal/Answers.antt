use Rattle.std.proofs.Common.{◌≡◌, ℕ, List, length, drop, refl, sym, ◌∙◌, arith}
use Rattle.std.proofs.lemmas.List.{take_at}
use Rattle.paseto_xchacha20poly1305.specs.Sealing.{xored_text, text_tag}
use Rattle.paseto_xchacha20poly1305.proofs.Opening.{box_sealing-None, box_sealing-Some}
use Rattle.paseto_xchacha20poly1305.proofs.sealing.XChaCha20Poly1305SealedBox.seal.Goals as goal

pub returns-then-message-gt-LONGEST_MESSAGE : goal.returns-then-message-gt-LONGEST_MESSAGE
returns-then-message-gt-LONGEST_MESSAGE c =
    sym (box_sealing-None c.args.key.now c.args.nonce.now c.args.data.now c.args.message.now c.if-message-gt-LONGEST_MESSAGE.true)

pub returns : goal.returns
unfolding xored_text
returns c =
    let message = c.args.message.now in
    let plain = c.extend_from_slice.new.self in
    let text : List ℕ = c.xchacha20_apply_from.new.data in
    let sealed = box_sealing-Some c.args.key.now c.args.nonce.now c.args.data.now message (omega arith) in
    let front : plain.items ≡ message = rw (c.in_ok-extend_from_slice.ensures.items, c.in_ok-boxed.ensures.items) refl in
    let same : length text ≡ plain.len = omega (arith, c.xchacha20_apply_from.auto.data, c.deref_mut.ensures.len) in
    let back = take_at text (drop (length text) plain.items) plain.len same in
    let xored : text ≡ xored_text c.args.key.now c.args.nonce.now message =
    c.xchacha20_apply_from.ensures ∙ rw (c.deref_mut.ensures.value, front) refl in
    let tag : c.tag_of-tag.result ≡ text_tag c.args.key.now c.args.nonce.now c.args.data.now text =
    c.tag_of-tag.ensures ∙ rw (c.deref.ensures.value, back) refl in
    rw (c.in_ok-extend_from_slice-2.ensures.items, back, tag, xored) (sym sealed)
