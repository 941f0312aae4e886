use Rattle.std.proofs.Common.{string_bytes, sym}
use Rattle.std.proofs.lemmas.List.{append-nil}
use Rattle.paseto_base64.proofs.Ends.{no_end, none_left}
use Rattle.paseto_base64.proofs.encoding.push_last.Goals as goal

pub returns-in-empty : goal.returns-in-empty
returns-in-empty c =
    rw (none_left c.args.rest.now c.in-empty.len_below, no_end c.args.alphabet) (sym (append-nil (string_bytes c.args.text.now)))
