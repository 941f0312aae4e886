use Rattle.paseto_tasks.proofs.shown.tag_text.Goals as goal

pub returns : goal.returns
returns c = rw (c.in_ok-nonce.ensures, c.in_ok-message.ensures, c.in_ok-tag.ensures, c.as_bytes.ensures, c.as_slice.ensures.value) at c.format.ensures.ok
