use Rattle.std.proofs.Common.{string_bytes}
use Rattle.paseto.proofs.NamedKeys.{known_key}
use Rattle.paseto.proofs.named.named_in.Goals as goal

pub returns-in-Some-clause-unknown : goal.returns-in-Some-clause-unknown
returns-in-Some-clause-unknown c =
    known_key c.args.keys.now c.args.token.now c.as_str.result.now (string_bytes c.in_ok-footer.footer) (string_bytes c.in_ok-id.id) c.in-Some.key.now
    c.as_str.ensures.value c.in_ok-footer.ensures.read c.in_ok-id.ensures.read
    (rw (c.in-Some.is, c.as_str-2.ensures.value) at c.in_ok-key.ensures)
