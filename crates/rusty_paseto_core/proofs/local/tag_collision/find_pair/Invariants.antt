use Rattle.rusty_paseto_core.specs.Local.Opened.{nonce_and_tag_in, covered_in}
use Rattle.rusty_paseto_core.proofs.Firsts.{AreKnown}
use Rattle.rusty_paseto_core.proofs.local.tag_collision.find_pair.Given as goal

-- the first of each nonce_and_tag is known
abbrev pub invariant-places : goal.invariant-places
invariant-places g l =
    AreKnown nonce_and_tag_in (covered_in g.V.LocalSuite.design) l.opened l.place l.firsts
