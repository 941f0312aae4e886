use Rattle.std.proofs.Common.{rules, ◌≡◌, ◌++◌, ℕ, length, take, drop, ◌-◌, ◌∙◌, refl, arith, sym, ap, Vec, Global}
use Rattle.std.proofs.lemmas.List.{take_at}
use Rattle.std.proofs.lemmas.Str.{IsUtf8-string_bytes}
use Rattle.std.specs.String.{string_bytes}
use Rattle.rusty_paseto_core.specs.Context.{Binding, bound}
use Rattle.rusty_paseto_core.specs.Local.Opening.{HasRoom, HasTag}
use Rattle.rusty_paseto_core.proofs.Tagged.{holds_text}
use Rattle.rusty_paseto_core.proofs.local.opening.open_payload.Goals as goal

pub returns-in-Ok-clause-holds : goal.returns-in-Ok-clause-holds
returns-in-Ok-clause-holds g c =
    let design = g.V.LocalSuite.design in
    let binding : Binding = bound c.args.key.now c.args.context.now in
    let payload = c.args.payload.items in
    let width = c.tag_length.result in
    let own : width ≡ design.tag_length = c.tag_length.ensures in
    let room : HasRoom design payload = omega arith in
    let tagged : HasTag design binding payload = rw c.deref-2.ensures.value at ((c.has_tag.ensures _ c.split-keys.ensures).0 c.if-not-has_tag.false) in
    let new = c.apply_keystream.new.bytes in
    let same : length new ≡ c.keep_ciphertext.new.payload.len = omega (arith, c.apply_keystream.auto.bytes, c.deref_mut.ensures.len) in
    let back : take c.keep_ciphertext.new.payload.len (new ++ drop (length new) c.keep_ciphertext.new.payload.items) ≡ new =
    take_at new (drop (length new) c.keep_ciphertext.new.payload.items) c.keep_ciphertext.new.payload.len same in
    let text : string_bytes c.in-Ok.text ≡ new = ap (λ (v : Vec ℕ Global). v.items) c.in-Ok.ensures.ok ∙ back in
    let nonce : c.nonce_of-nonce.result ≡ take 32 payload = rw c.deref.ensures.value at c.nonce_of-nonce.ensures in
    let width_again : c.tag_length-2.result ≡ width = c.tag_length-2.ensures ∙ sym c.tag_length.ensures in
    let len : c.len-len.result ≡ length payload = omega arith in
    let ciphertext : c.deref_mut.result.now ≡ drop 32 (take (length payload - width) payload) =
    rw (c.deref_mut.ensures.value, c.keep_ciphertext.ensures, len, width_again) refl in
    holds_text design binding payload width own room c.args.key.now c.nonce_of-nonce.result c.deref_mut.result.now (string_bytes c.in-Ok.text)
    tagged refl nonce ciphertext (text ∙ c.apply_keystream.ensures _ _ c.split-keys.ensures) (IsUtf8-string_bytes c.in-Ok.text)

pub returns-then-len-tag_length-clause-fault : goal.returns-then-len-tag_length-clause-fault
returns-then-len-tag_length-clause-fault g c = search rules
