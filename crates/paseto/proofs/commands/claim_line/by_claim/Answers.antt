use Rattle.paseto.proofs.commands.claim_line.by_claim.Goals as goal

pub returns-in-Invalid-clause-said : goal.returns-in-Invalid-clause-said
returns-in-Invalid-clause-said c =
    rw c.in-Invalid.is (rw (c.as_str-in-Invalid.ensures.value, c.as_str-in-Invalid-2.ensures.value, c.as_str-in-Invalid-3.ensures.value) at c.mismatch.ensures.said)
