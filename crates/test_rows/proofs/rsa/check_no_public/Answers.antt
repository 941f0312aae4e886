use Rattle.test_rows.proofs.rsa.check_no_public.Goals as goal

pub returns : goal.returns
returns c = record {
  key_bytes = c.in_ok-key.key.items;
  says_key = c.in_ok-key.ensures;
  is_none = rw c.deref.ensures.value at c.in-None.ensures;
}
