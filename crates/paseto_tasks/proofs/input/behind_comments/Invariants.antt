use Rattle.std.proofs.Common.{◌≡◌, false, length}
use Rattle.paseto_tasks.specs.Input.{uncommented}
use Rattle.paseto_tasks.proofs.input.behind_comments.Given as goal

-- the rest is behind some of the comments
abbrev pub invariant-comments : goal.invariant-comments
invariant-comments l = uncommented false l.rest ≡ uncommented false l.file

abbrev pub decreases-comments : goal.decreases-comments
decreases-comments l = length l.rest
