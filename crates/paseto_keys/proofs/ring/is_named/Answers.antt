use Rattle.std.proofs.Common.{◌≡◌, ◌≢◌, ◌∙◌, string_bytes, refl, sym, true≢false}
use Rattle.std.specs.Cmp.Lexicographic.{bytes_decides}
use Rattle.paseto_keys.proofs.RingLaws.{named, only_memory, unnamed}
use Rattle.paseto_keys.proofs.ring.is_named.Goals as goal

pub memory_of-requires : goal.memory_of-requires
memory_of-requires c =
    only_memory c.args.kind c.args.version c.args.key.now (c.if-not-is_for.ensures.taken refl) c.in-Err.error c.in-Err.ensures

pub returns-in-Ok-clause-named : goal.returns-in-Ok-clause-named
returns-in-Ok-clause-named c = λ same.
    let for = c.if-not-is_for.ensures.taken refl in
    let is : string_bytes c.in-Ok.own ≡ c.args.id.now =
    sym c.as_str.ensures.value ∙ (bytes_decides c.as_str.result.now c.args.id.now).0 (sym c.eq.ensures ∙ same) in
    (for, named c.args.kind c.args.version c.args.key.now for c.in-Ok.own c.args.id.now c.in-Ok.ensures is)

pub returns-in-Ok-clause-other : goal.returns-in-Ok-clause-other
returns-in-Ok-clause-other c = λ other.
    let for = c.if-not-is_for.ensures.taken refl in
    let apart : string_bytes c.in-Ok.own ≢ c.args.id.now =
    λ e. true≢false (sym ((bytes_decides c.as_str.result.now c.args.id.now).1 (c.as_str.ensures.value ∙ e)) ∙ (sym c.eq.ensures ∙ other)) in
    unnamed c.args.kind c.args.version c.args.key.now for c.in-Ok.own c.args.id.now c.in-Ok.ensures apart
