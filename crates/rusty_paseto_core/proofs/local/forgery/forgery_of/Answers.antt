use Rattle.std.proofs.lemmas.List.{take_rest}
use Rattle.rusty_paseto_core.proofs.local.forgery.forgery_of.Goals as goal

pub returns-clause-tag : goal.returns-clause-tag
returns-clause-tag g c =
    rw (c.in_ok-tag.ensures.items, c.deref-2.ensures.value) (take_rest c.args.opened.now.nonce_and_tag.items 32)
