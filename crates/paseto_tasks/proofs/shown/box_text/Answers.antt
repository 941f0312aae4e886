use Rattle.paseto_tasks.proofs.shown.box_text.Goals as goal

pub returns : goal.returns
returns c = rw (c.in_ok-nonce.ensures, c.in_ok-data.ensures, c.in_ok-sealing.ensures, c.as_bytes.ensures, c.as_slice.ensures.value) at c.format.ensures.ok
