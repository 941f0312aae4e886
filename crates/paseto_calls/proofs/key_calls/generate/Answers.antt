use Rattle.std.proofs.Common.{inr, subst, take, Ok, Err}
use Rattle.std.specs.Bool.{⊤}
use Rattle.std.proofs.lemmas.Result.{err_from_is_err_and}
use Rattle.std.specs.declared.convert.Infallible.{Infallible}
use Rattle.paseto_keys.specs.Generation.{Generates}
use Rattle.paseto_calls.specs.HeldKey.{type_by, version_by}
use Rattle.paseto_calls.specs.KeyCalls.{IsGiven, new_length}
use Rattle.paseto_calls.specs.Refusal.{key_refusal}
use Rattle.paseto_calls.proofs.KeyExits.{called, making_held, making_refuses}
use Rattle.paseto_calls.proofs.Taken.{fault_refuses, first_fault, no_fault, second_fault}
use Rattle.paseto_calls.proofs.KeyWhole.{generating_apart}
use Rattle.paseto_calls.proofs.Whole.{key_whole_of}
use Rattle.paseto_calls.proofs.key_calls.generate.Goals as goal

pub returns-in_err-kind-clause-made : goal.returns-in_err-kind-clause-made
returns-in_err-kind-clause-made c =
    let p = err_from_is_err_and c.from_residual.result c.from_residual.ensures.1 in
    rw (p.1, p.2) (fault_refuses _ _ (first_fault _ _ _ (inr c.in_err-kind.ensures)))

pub returns-in_err-kind-clause-whole : goal.returns-in_err-kind-clause-whole
returns-in_err-kind-clause-whole c = key_whole_of _ (generating_apart c.args.version c.args.kind c.args.drawn.now) _ (returns-in_err-kind-clause-made c)

pub returns-in_err-front-clause-made : goal.returns-in_err-front-clause-made
returns-in_err-front-clause-made c =
    let p = err_from_is_err_and c.from_residual-in_err-front.result c.from_residual-in_err-front.ensures.1 in
    let kind = c.in_ok-kind.ensures in
    rw (p.1, p.2) (fault_refuses _ _ (inr (second_fault _ _ _ kind.2 (rw (c.new_length.ensures, kind.0, kind.1) at c.in_err-front.ensures))))

pub returns-in_err-front-clause-whole : goal.returns-in_err-front-clause-whole
returns-in_err-front-clause-whole c = key_whole_of _ (generating_apart c.args.version c.args.kind c.args.drawn.now) _ (returns-in_err-front-clause-made c)

pub returns-in_err-key-clause-made : goal.returns-in_err-key-clause-made
returns-in_err-key-clause-made c =
    let p = err_from_is_err_and c.from_residual-in_err-key.result c.from_residual-in_err-key.ensures.1 in
    let kind = c.in_ok-kind.ensures in
    let front = rw (c.new_length.ensures, kind.0, kind.1) at c.in_ok-front.ensures in
    let answer = called _ _ _ _ _ _ (rw (kind.0, kind.1) at c.in_err-key.ensures) in
    rw (p.1, p.2) (making_refuses _ (Generates (type_by c.args.kind) (version_by c.args.version)
    (IsGiven (take (new_length (type_by c.args.kind) (version_by c.args.version)) c.args.drawn.now)) Infallible ⊤)
    key_refusal (no_fault _ _ kind.2 front.2) _
    (subst (λ given. Generates (type_by c.args.kind) (version_by c.args.version) (IsGiven given) Infallible ⊤ (Err c.in_err-key.field-0.0)) front.0 answer))

pub returns-in_err-key-clause-whole : goal.returns-in_err-key-clause-whole
returns-in_err-key-clause-whole c = key_whole_of _ (generating_apart c.args.version c.args.kind c.args.drawn.now) _ (returns-in_err-key-clause-made c)

pub returns-clause-made : goal.returns-clause-made
returns-clause-made c =
    let kind = c.in_ok-kind.ensures in
    let front = rw (c.new_length.ensures, kind.0, kind.1) at c.in_ok-front.ensures in
    let answer = called _ _ _ _ _ _ (rw (kind.0, kind.1) at c.in_ok-key.ensures) in
    making_held _ (Generates (type_by c.args.kind) (version_by c.args.version)
    (IsGiven (take (new_length (type_by c.args.kind) (version_by c.args.version)) c.args.drawn.now)) Infallible ⊤)
    key_refusal (no_fault _ _ kind.2 front.2) c.in_ok-key.key
    (subst (λ given. Generates (type_by c.args.kind) (version_by c.args.version) (IsGiven given) Infallible ⊤ (Ok c.in_ok-key.key)) front.0 answer)
    c.of.result c.of.ensures

pub returns-clause-whole : goal.returns-clause-whole
returns-clause-whole c = key_whole_of _ (generating_apart c.args.version c.args.kind c.args.drawn.now) _ (returns-clause-made c)
