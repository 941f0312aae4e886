use Rattle.std.proofs.Common.{◌∙◌}
use Rattle.std.proofs.lemmas.List.{take_rest}
use Rattle.paseto_tasks.proofs.Comments.{comment_first}
use Rattle.paseto_tasks.proofs.input.behind_comments.Goals as goal

pub comments-smaller : goal.comments-smaller
comments-smaller c =
    rw (c.behind_line-rest.ensures, take_rest c.comments.rest.now 1) ((comment_first c.comments.rest.now c.in-len1-up.len_at_least c.if-first-ne35.false).1)

pub comments-preserved : goal.comments-preserved
comments-preserved c =
    rw (c.behind_line-rest.ensures, take_rest c.comments.rest.now 1)
    ((comment_first c.comments.rest.now c.in-len1-up.len_at_least c.if-first-ne35.false).0 ∙ c.comments.invariant)
