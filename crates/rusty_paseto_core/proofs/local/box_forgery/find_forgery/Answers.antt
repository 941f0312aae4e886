use Rattle.std.proofs.Common.{◌≡◌, ◌∙◌, inl, refl, subst, sym, ap, ℕ, List}
use Rattle.std.proofs.lemmas.Option.{slice_get_read}
use Rattle.std.specs.Prelude.{None}
use Rattle.rusty_paseto_core.specs.Context.{binding_of}
use Rattle.rusty_paseto_core.specs.Local.BoxForgery.{BoxOpens, IsBoxOpened, IsBoxUnopened, IsFreshBox, box_case, box_cases}
use Rattle.rusty_paseto_core.specs.Local.Boxed.{associated, box_in, nonce_in}
use Rattle.rusty_paseto_core.specs.Local.TagCollision.{Case}
use Rattle.rusty_paseto_core.proofs.BoxForgeries.{box_spelling, forgery_answer, fresh_box, issued_answer, issued_fault, issued_there, opens_as, refused_answer, token_fault}
use Rattle.rusty_paseto_core.proofs.Issued.{all_fresh, more_fresh, none_fresh}
use Rattle.rusty_paseto_core.proofs.local.box_forgery.find_forgery.Goals as goal

pub each-init : goal.each-init
each-init g c =
    none_fresh box_case c.args.issued.now
    (IsFreshBox g.B.SealedBox.sealing c.args.token.key.now c.in_ok-found.found.encoding c.in_ok-found.found.sealing.items)

pub returns-in_err-own : goal.returns-in_err-own
returns-in_err-own g c =
    let box = g.B.SealedBox.sealing in
    let issued = c.args.issued.now in
    let case : Case = box_case c.args.token in
    let error = c.in_err-own.field-0.0 in
    let fault : IsBoxUnopened box case error =
    subst (λ (k : List ℕ). let x : Case = record { token = c.args.token.token.now; binding = binding_of k c.args.token.footer None } in IsBoxUnopened box x error)
    c.as_bytes.ensures.bytes c.in_err-own.ensures.err in
    refused_answer box (box_cases issued) case error c.from_residual.result c.from_residual.ensures.1
    (token_fault box (box_cases issued) case error fault)

pub returns-in_err-found : goal.returns-in_err-found
returns-in_err-found g c =
    refused_answer g.B.SealedBox.sealing (box_cases c.args.issued.now) (box_case c.args.token) c.in_err-found.field-0.0
    c.from_residual-in_err-found.result c.from_residual-in_err-found.ensures.1 (inl c.in_err-found.ensures.err)

pub each-preserved : goal.each-preserved
each-preserved g c =
    let box = g.B.SealedBox.sealing in
    let issued = c.args.issued.now in
    let case : Case = box_case c.args.token in
    let asked = c.one-item.result in
    let other : IsBoxOpened box (box_case asked) c.in_ok-other.other.items =
    subst (λ (k : List ℕ). let x : Case = record { token = asked.token.now; binding = binding_of k asked.footer None } in IsBoxOpened box x c.in_ok-other.other.items)
    c.as_bytes-in-each.ensures.bytes c.in_ok-other.ensures.ok in
    let here = slice_get_read issued _ c.each.one-index asked refl c.each-test.true c.one-item.is in
    let found = c.in_ok-found.found in
    let encoding : found.encoding ≡ associated (nonce_in c.in_ok-own.own.items) case.binding.footer =
    c.in_ok-found.ensures.encoding ∙ ap (λ (p : List ℕ). associated (nonce_in p) case.binding.footer) c.deref.ensures.value in
    let sealing : found.sealing.items ≡ box_in c.in_ok-own.own.items = c.in_ok-found.ensures.sealing ∙ ap box_in c.deref.ensures.value in
    let differ : (((box_case asked).binding ≡ case.binding) × (c.in_ok-other.other.items ≡ c.in_ok-own.own.items)) → ⊥ =
    λ both.
    let payloads = c.deref-in-each.ensures.value ∙ both.1 ∙ sym c.deref-in-each-2.ensures.value in
    let yes = c.is_same.ensures.1 (both.0, payloads) in let no = c.if-is_same.false in cc in
    more_fresh box_case issued (IsFreshBox box c.args.token.key.now found.encoding found.sealing.items) c.each.one-index asked here c.each.invariant
    (fresh_box box g.met.B.SealedBox.lawful (box_case asked) case c.in_ok-other.other.items c.in_ok-own.own.items found.encoding found.sealing.items
    other refl encoding c.in_ok-found.ensures.fits sealing differ)

pub returns-in_err-other : goal.returns-in_err-other
returns-in_err-other g c =
    let box = g.B.SealedBox.sealing in
    let issued = c.args.issued.now in
    let case : Case = box_case c.args.token in
    let own : IsBoxOpened box case c.in_ok-own.own.items =
    subst (λ (k : List ℕ). let x : Case = record { token = c.args.token.token.now; binding = binding_of k c.args.token.footer None } in IsBoxOpened box x c.in_ok-own.own.items)
    c.as_bytes.ensures.bytes c.in_ok-own.ensures.ok in
    let asked = c.one-item.result in
    let here = slice_get_read issued _ c.each.one-index asked refl c.each-test.true c.one-item.is in
    let error = c.in_err-other.field-0.0 in
    let fault : IsBoxUnopened box (box_case asked) error =
    subst (λ (k : List ℕ). let x : Case = record { token = asked.token.now; binding = binding_of k asked.footer None } in IsBoxUnopened box x error)
    c.as_bytes-in-each.ensures.bytes c.in_err-other.ensures.err in
    let opens : BoxOpens box case = (record { nonce = nonce_in c.in_ok-own.own.items; text = own.text }, opens_as box case c.in_ok-own.own.items own) in
    refused_answer box (box_cases issued) case error c.from_residual-in_err-other.result c.from_residual-in_err-other.ensures.1
    (issued_fault box issued case c.args.token.key.now c.in_ok-found.found.encoding c.in_ok-found.found.sealing.items c.each.one-index asked error here
    opens c.each.invariant fault)

pub returns-then-is_same : goal.returns-then-is_same
returns-then-is_same g c =
    let box = g.B.SealedBox.sealing in
    let issued = c.args.issued.now in
    let case : Case = box_case c.args.token in
    let own : IsBoxOpened box case c.in_ok-own.own.items =
    subst (λ (k : List ℕ). let x : Case = record { token = c.args.token.token.now; binding = binding_of k c.args.token.footer None } in IsBoxOpened box x c.in_ok-own.own.items)
    c.as_bytes.ensures.bytes c.in_ok-own.ensures.ok in
    let asked = c.one-item.result in
    let other : IsBoxOpened box (box_case asked) c.in_ok-other.other.items =
    subst (λ (k : List ℕ). let x : Case = record { token = asked.token.now; binding = binding_of k asked.footer None } in IsBoxOpened box x c.in_ok-other.other.items)
    c.as_bytes-in-each.ensures.bytes c.in_ok-other.ensures.ok in
    let here = slice_get_read issued _ c.each.one-index asked refl c.each-test.true c.one-item.is in
    let both = c.is_same.ensures.0 c.if-is_same.true in
    let payloads : c.in_ok-other.other.items ≡ c.in_ok-own.own.items =
    sym c.deref-in-each.ensures.value ∙ both.1 ∙ c.deref-in-each-2.ensures.value in
    issued_answer box (box_cases issued) case
    (issued_there box issued case c.each.one-index asked here
    (box_spelling box g.met.B.SealedBox.lawful (box_case asked) case c.in_ok-other.other.items c.in_ok-own.own.items other own both.0 payloads))

pub returns : goal.returns
returns g c =
    let box = g.B.SealedBox.sealing in
    let issued = c.args.issued.now in
    let case : Case = box_case c.args.token in
    let own : IsBoxOpened box case c.in_ok-own.own.items =
    subst (λ (k : List ℕ). let x : Case = record { token = c.args.token.token.now; binding = binding_of k c.args.token.footer None } in IsBoxOpened box x c.in_ok-own.own.items)
    c.as_bytes.ensures.bytes c.in_ok-own.ensures.ok in
    let found = c.in_ok-found.found in
    let encoding : found.encoding ≡ associated (nonce_in c.in_ok-own.own.items) case.binding.footer =
    c.in_ok-found.ensures.encoding ∙ ap (λ (p : List ℕ). associated (nonce_in p) case.binding.footer) c.deref.ensures.value in
    let sealing : found.sealing.items ≡ box_in c.in_ok-own.own.items = c.in_ok-found.ensures.sealing ∙ ap box_in c.deref.ensures.value in
    let nonce : found.nonce ≡ nonce_in c.in_ok-own.own.items = c.in_ok-found.ensures.nonce ∙ ap nonce_in c.deref.ensures.value in
    forgery_answer box (box_cases issued) case c.in_ok-own.own.items found own nonce encoding c.in_ok-found.ensures.fits sealing
    (all_fresh box_case issued (IsFreshBox box c.args.token.key.now found.encoding found.sealing.items) c.each.one-index c.each-test.false c.each.invariant)
