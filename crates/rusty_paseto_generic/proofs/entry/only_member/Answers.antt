use Rattle.std.proofs.Common.{◌≡◌, nat_eq, true, false, length, string_bytes, arith, sym}
use Rattle.std.proofs.lemmas.Map.Lookups.{exact_bytes}
use Rattle.rusty_paseto_generic.proofs.MapLemmas.{object-only, unwrapped-absent, unwrapped-only, unwrapped-other}
use Rattle.rusty_paseto_generic.proofs.entry.only_member.Goals as goal

pub returns-then-len-ne1-clause-unwrapped : goal.returns-then-len-ne1-clause-unwrapped
returns-then-len-ne1-clause-unwrapped c =
    let many : nat_eq (length c.args.members.entries) 1 ≡ false = grind arith in
    unwrapped-other c.args.key.now c.args.members many

pub returns-in-Some-clause-entry : goal.returns-in-Some-clause-entry
returns-in-Some-clause-entry c =
    let one : length c.args.members.entries ≡ 1 = grind arith in (
      sym (exact_bytes c.args.key.now (string_bytes c.in-Some.entry.0) c.in-Some.ensures.same_key),
      object-only c.args.key.now c.args.members c.in-Some.entry.1 one c.in-Some.ensures.value,
    )

pub returns-in-Some-clause-unwrapped : goal.returns-in-Some-clause-unwrapped
returns-in-Some-clause-unwrapped c =
    let one : nat_eq (length c.args.members.entries) 1 ≡ true = grind arith in
    unwrapped-only c.args.key.now c.args.members c.in-Some.entry.1 one c.in-Some.ensures.value

pub returns-in-None-clause-unwrapped : goal.returns-in-None-clause-unwrapped
returns-in-None-clause-unwrapped c =
    let one : nat_eq (length c.args.members.entries) 1 ≡ true = grind arith in
    unwrapped-absent c.args.key.now c.args.members c.remove_entry.new.self one c.in-None.ensures.value c.in-None.ensures.unchanged
