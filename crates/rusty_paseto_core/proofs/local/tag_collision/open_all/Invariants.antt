use Rattle.std.proofs.Common.{take}
use Rattle.rusty_paseto_core.specs.Local.Opened.{AreOpened}
use Rattle.rusty_paseto_core.specs.Local.TagCollision.{cases}
use Rattle.rusty_paseto_core.proofs.local.tag_collision.open_all.Given as goal

-- the openings so far are opened
abbrev pub invariant-openings : goal.invariant-openings
invariant-openings g l = AreOpened g.V.LocalSuite.design (cases (take l.opening-index l.openings)) l.opened.items
