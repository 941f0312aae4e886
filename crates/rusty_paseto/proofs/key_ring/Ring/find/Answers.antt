use Rattle.std.proofs.Common.{rules, ◌≡◌, Some, string_bytes, sym}
use Rattle.rusty_paseto.specs.Held.{keys_of}
use Rattle.rusty_paseto.proofs.KeyRingLemmas.{same_found}
use Rattle.rusty_paseto.proofs.key_ring.Ring.find.Goals as goal

pub returns-in-Some-clause-complete : goal.returns-in-Some-clause-complete
returns-in-Some-clause-complete g c = λ other named key is.
    let said : c.as_str.result.now ≡ string_bytes c.in_ok-footer.footer = c.as_str.ensures.value in
    let asked : c.as_str-2.result.now ≡ string_bytes c.in_ok-id.id = c.as_str-2.ensures.value in
    let held : keys_of c.args.self.now (string_bytes c.in_ok-id.id) ≡ Some c.in-Some.key.now = rw (← asked) (sym c.in-Some.ensures.value) in
    let same = same_found _ _ (string_bytes c.in_ok-footer.footer) c.in_ok-footer.ensures.ok c.in_ok-footer.ensures.read
    (string_bytes c.in_ok-id.id) (rw said at c.in_ok-id.ensures.read) other named key is in
    let found : c.in-Some.key.now ≡ key = cc (held, same.2) in
    (same.0, same.1, found)

pub returns-in-Some-clause-ok : goal.returns-in-Some-clause-ok
returns-in-Some-clause-ok g c = search rules
