use Rattle.paseto_calls.proofs.Replies.{replied, whole_reply_where}
use Rattle.paseto_calls.proofs.Taken.{locals_write}
use Rattle.paseto_calls.proofs.TokenWhole.{sealed_whole}
use Rattle.paseto_c.proofs.tokens.paseto_encrypt_with.Goals as goal

pub write-requires : goal.write-requires
write-requires c = locals_write

pub returns-clause-answer : goal.returns-clause-answer
returns-clause-answer c = replied _ _ _ _ _ _ _ _ c.write.result c.write.ensures.made c.hand_over_telling.ensures

pub returns-clause-whole : goal.returns-clause-whole
returns-clause-whole c =
    sealed_whole c.args.key.now c.args.drawn.now c.args.footer.now c.args.assertion.now c.args.text.now _
    (whole_reply_where _ _ _ _ _ _ _ _ _ c.write.result c.write.ensures.whole c.hand_over_telling.ensures)
