use Rattle.std.proofs.Common.{◌≡◌, Some, string_bytes}
use Rattle.rusty_paseto.proofs.KeyRingLemmas.{same_found}
use Rattle.paseto_keys.specs.AnyKey.{parts_of}
use Rattle.paseto_keys.specs.Ring.{ring_of}
use Rattle.paseto_keys.proofs.ring.find.Goals as goal

pub returns-in-Some-clause-complete : goal.returns-in-Some-clause-complete
returns-in-Some-clause-complete c = λ other named key is.
    let said : c.as_str.result.now ≡ string_bytes c.in_ok-footer.footer = c.as_str.ensures.value in
    let asked : c.as_str-2.result.now ≡ string_bytes c.in_ok-id.id = c.as_str-2.ensures.value in
    let held : ring_of c.args.kind c.args.version c.args.keys.now (string_bytes c.in_ok-id.id) ≡ Some (parts_of c.in-Some.key.now).bytes =
    rw (c.in-Some.is, asked) at c.in_ok-key.ensures.found in
    let same = same_found _ _ (string_bytes c.in_ok-footer.footer) c.in_ok-footer.ensures.ok c.in_ok-footer.ensures.read
    (string_bytes c.in_ok-id.id) (rw said at c.in_ok-id.ensures.read) other named key is in
    let found : (parts_of c.in-Some.key.now).bytes ≡ key = cc (held, same.2) in
    (same.0, same.1, found)

pub returns-in-Some-clause-ok : goal.returns-in-Some-clause-ok
returns-in-Some-clause-ok c =
    let said : c.as_str.result.now ≡ string_bytes c.in_ok-footer.footer = c.as_str.ensures.value in
    let asked : c.as_str-2.result.now ≡ string_bytes c.in_ok-id.id = c.as_str-2.ensures.value in
    record {
      has = c.in_ok-footer.ensures.ok;
      names = rw said at c.in_ok-id.ensures.ok;
      has_key = rw (c.in-Some.is, asked) at c.in_ok-key.ensures.found;
    }
