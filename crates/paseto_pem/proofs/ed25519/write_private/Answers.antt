use Rattle.std.proofs.Common.{◌++◌, length, inr, refl, sym, take, ap, ap₂, ◌∙◌, arith}
use Rattle.std.proofs.lemmas.List.{take-append-drop}
use Rattle.paseto_pem.specs.Ed25519.{IsPrivateForm}
use Rattle.paseto_pem.specs.declared.label.Label.TheVariants.{PrivateKey}
use Rattle.paseto_pem.specs.Info.{private_key_info}
use Rattle.std.specs.Prelude.{not}
use Rattle.std.proofs.lemmas.Bool.{false≢true}
use Rattle.paseto_der.specs.Element.{element}
use Rattle.paseto_ed25519.specs.Ed25519.{ed25519_public}
use Rattle.paseto_pem.proofs.AlgorithmLaws.{ed25519-octets}
use Rattle.paseto_pem.proofs.Ed25519Laws.{back-half, front-half}
use Rattle.paseto_pem.proofs.InfoLaws.{element-most}
use Rattle.paseto_pem.proofs.WrittenKeys.{edwards_private_is_read}
use Rattle.paseto_pem.proofs.OctetLaws.{equal-octets, same-octets}
use Rattle.paseto_pem.proofs.ed25519.write_private.Goals as goal

pub returns-then-key : goal.returns-then-key
returns-then-key c = record { ok = tt; refused = inr (refl, λ contents p. c.if-key.true p.0.whole) }

pub returns-then-ne : goal.returns-then-ne
returns-then-ne c = record {
  ok = tt;
  refused =
      inr (
        refl,
        λ contents p.
            let key = c.args.key.now in
            let front = c.split_at.ensures.front ∙ front-half p.0.seed key p.0.size p.0.halves in
            let own = c.as_slice.ensures ∙ c.public_key.ensures ∙ ap (λ s. ed25519_public s) front in
            let same = same-octets c.as_slice.result.now c.split_at.result.1.now
            (own ∙ sym (c.split_at.ensures.back ∙ back-half p.0.seed key p.0.size p.0.halves)) in
            false≢true (sym (sym c.if-ne.true ∙ c.ne.ensures ∙ ap not same)),
      );
}

pub write_private_info-requires : goal.write_private_info-requires
write_private_info-requires c =
    let seed = c.split_at.result.0.now in
    let string = c.deref.ensures.value ∙ c.in_ok-push_element.ensures ∙ ap (λ l. l ++ element 0x04 seed) c.new-string.ensures.items in
    omega (arith, ap length string, element-most 0x04 seed, ap length (c.ed25519.ensures ∙ sym ed25519-octets), c.split_at.ensures.front_len)

pub returns : goal.returns
returns c =
    let key = c.args.key.now in
    let seed = c.split_at.result.0.now in
    let string = c.deref.ensures.value ∙ c.in_ok-push_element.ensures ∙ ap (λ l. l ++ element 0x04 seed) c.new-string.ensures.items in
    let written = c.in_ok-write_private_info.ensures ∙ ap₂ private_key_info c.ed25519.ensures string in
    let same = equal-octets c.as_slice.result.now c.split_at.result.1.now (sym c.if-ne.false ∙ c.ne.ensures) in
    let own = sym c.split_at.ensures.back ∙ sym same ∙ c.as_slice.ensures ∙ c.public_key.ensures in
    let form : IsPrivateForm PrivateKey c.in_ok-write_private_info.field-0.items key = record {
      is_private = refl;
      seed = seed;
      size = c.split_at.ensures.front_len;
      written = written;
      halves = sym (take-append-drop 32 key) ∙ ap (λ b. take 32 key ++ b) own
          ∙ ap (λ a. a ++ ed25519_public seed) (sym c.split_at.ensures.front);
      whole = c.if-key.false;
    } in
    record { ok = (form, edwards_private_is_read PrivateKey c.in_ok-write_private_info.field-0.items key form); refused = tt }
