use Rattle.std.proofs.Common.{string_bytes, refl}
use Rattle.paseto_calls.proofs.issue.times_of.Goals as goal

pub returns : goal.returns
returns c = record {
  end = string_bytes c.in_ok-end.end;
  issue = string_bytes c.in_ok-issue.issue;
  begin = string_bytes c.in_ok-begin.begin;
  is_end = c.in_ok-end.ensures;
  is_issue = c.in_ok-issue.ensures;
  is_begin = c.in_ok-begin.ensures;
  is = rw (c.in_ok-put_text-3.ensures, c.in_ok-put_text-2.ensures, c.in_ok-put_text.ensures, c.new-times.ensures.empty) refl;
}
