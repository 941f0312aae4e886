use Rattle.std.proofs.Common.{◌≡◌, true, false, ◌-◌, ◌≤◌, List, ℕ, length, take, drop, refl, sym, ap, ◌∙◌, arith}
use Rattle.std.proofs.lemmas.List.{take_at}
use Rattle.rusty_paseto_primitives.specs.Bytes.{IsBytes}
use Rattle.paseto_xchacha20poly1305.specs.Sealing.{xored_text, text_tag}
use Rattle.paseto_xchacha20poly1305.proofs.Opening.{other_tag, own_tag, too_long, too_short, where_err}
use Rattle.paseto_xchacha20poly1305.proofs.sealing.XChaCha20Poly1305SealedBox.open.Goals as goal
use Rattle.paseto_xchacha20poly1305.proofs.sealing.XChaCha20Poly1305SealedBox.open.Goals.{then-boxed-lt-TAG_LENGTH-via-then-boxed-lt-TAG_LENGTH, then-boxed-lt-TAG_LENGTH-via-else-boxed-lt-TAG_LENGTH+then-boxed}

pub returns-then-boxed-lt-TAG_LENGTH-clause-ok : goal.returns-then-boxed-lt-TAG_LENGTH-clause-ok
returns-then-boxed-lt-TAG_LENGTH-clause-ok c =
    elim c.then-boxed-lt-TAG_LENGTH.branch [
      | then-boxed-lt-TAG_LENGTH-via-then-boxed-lt-TAG_LENGTH w ↦
          too_short c.args.key.now c.args.nonce.now c.args.data.now c.args.boxed.now (omega arith)
      | then-boxed-lt-TAG_LENGTH-via-else-boxed-lt-TAG_LENGTH+then-boxed w ↦
          too_long c.args.key.now c.args.nonce.now c.args.data.now c.args.boxed.now (omega arith)
    ]

pub returns-then-not-same_bytes-clause-ok : goal.returns-then-not-same_bytes-clause-ok
returns-then-not-same_bytes-clause-ok c =
    let own = c.tag_of-own.ensures
    ∙ ap (λ (t : List ℕ). text_tag c.args.key.now c.args.nonce.now c.args.data.now t) c.split_at.ensures.front in
    other_tag c.args.key.now c.args.nonce.now c.args.data.now c.args.boxed.now
    (λ same.
    let told : false ≡ true = sym c.if-not-same_bytes.true ∙ c.same_bytes.ensures.1 (own ∙ same ∙ sym c.split_at.ensures.back) in
    cc)

-- memory was refused behind the right tag
pub returns-in_err-message-clause-err : goal.returns-in_err-message-clause-err
returns-in_err-message-clause-err c =
    let key = c.args.key.now in
    let nonce = c.args.nonce.now in
    let boxed = c.args.boxed.now in
    let bytes : IsBytes boxed = λ i. let fits = c.type_inv.boxed i in omega arith in
    let low : 16 ≤ length boxed = omega arith in
    let high : length boxed ≤ 274877906896 = omega arith in
    let own = c.tag_of-own.ensures
    ∙ ap (λ (t : List ℕ). text_tag key nonce c.args.data.now t) c.split_at.ensures.front in
    let found = c.same_bytes.ensures.0 c.if-not-same_bytes.false in
    where_err c.from_residual.result (
      xored_text key nonce (take (length boxed - 16) boxed),
      own_tag key nonce c.args.data.now boxed low high bytes (sym own ∙ found ∙ c.split_at.ensures.back),
    )

pub returns-clause-ok : goal.returns-clause-ok
unfolding xored_text
returns-clause-ok c =
    let key = c.args.key.now in
    let nonce = c.args.nonce.now in
    let boxed = c.args.boxed.now in
    let bytes : IsBytes boxed = λ i. let fits = c.type_inv.boxed i in omega arith in
    let low : 16 ≤ length boxed = omega arith in
    let high : length boxed ≤ 274877906896 = omega arith in
    let own = c.tag_of-own.ensures
    ∙ ap (λ (t : List ℕ). text_tag key nonce c.args.data.now t) c.split_at.ensures.front in
    let found = c.same_bytes.ensures.0 c.if-not-same_bytes.false in
    let copied = c.in_ok-message.ensures.items_if_clones_equal (λ x y same. same) ∙ c.split_at.ensures.front in
    let copy = c.in_ok-message.message in
    let text : List ℕ = c.xchacha20_apply_from.new.data in
    let same : length text ≡ copy.len = omega (arith, c.xchacha20_apply_from.auto.data, c.deref_mut.ensures.len) in
    let back = take_at text (drop (length text) copy.items) copy.len same in
    let xored : text ≡ xored_text key nonce (take (length boxed - 16) boxed) =
    c.xchacha20_apply_from.ensures ∙ rw (c.deref_mut.ensures.value, copied) refl in
    rw (back, xored)
    (own_tag key nonce c.args.data.now boxed low high bytes (sym own ∙ found ∙ c.split_at.ensures.back))
