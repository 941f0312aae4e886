use Rattle.std.proofs.Common.{refl}
use Rattle.rusty_paseto_core.specs.Local.V1.{v1}
use Rattle.rusty_paseto_core.specs.Local.V3.{v3}
use Rattle.rusty_paseto_core.specs.Local.V4.{v4}
use Rattle.rusty_paseto_core.specs.Public.{v1_public, v2_public, v3_public, v4_public}
use Rattle.paseto_ed25519.specs.Ed25519.{Ed25519Verifies, IsRefused}
use Rattle.paseto_p384.specs.P384.{P384Verifies, IsRefused as IsRefusedByP384}
use Rattle.paseto_rsa.specs.RsaPss.{RsaPssVerifies, IsRefused as IsRefusedByRsa}
use Rattle.paseto_xchacha20poly1305.specs.Sealing.{box_sealing}
use Rattle.paseto_tasks.proofs.Showing.{if_box_opens, if_opens, if_verifies}
use Rattle.paseto_tasks.proofs.shown.shown_by.Goals as goal

pub returns-in-V1Local-clause-ok : goal.returns-in-V1Local-clause-ok
returns-in-V1Local-clause-ok c = rw c.in-V1Local.is c.tag_shown.ensures.ok

pub returns-in-V1Local-clause-err : goal.returns-in-V1Local-clause-err
returns-in-V1Local-clause-err c = λ text read. if_opens v1 _ c.args.token.now text c.tag_shown.ensures.err (rw c.in-V1Local.is at read)

pub returns-in-V2Local-clause-ok : goal.returns-in-V2Local-clause-ok
returns-in-V2Local-clause-ok c =
    let none = (rw c.in-V2Local.is at c.requires.bound) refl in
    rw (c.in-V2Local.is, none) c.box_shown.ensures.ok

pub returns-in-V2Local-clause-err : goal.returns-in-V2Local-clause-err
returns-in-V2Local-clause-err c = λ text read.
    let none = (rw c.in-V2Local.is at c.requires.bound) refl in
    if_box_opens box_sealing _ c.args.token.now text c.box_shown.ensures.err (rw (c.in-V2Local.is, none) at read)

pub returns-in-V3Local-clause-ok : goal.returns-in-V3Local-clause-ok
returns-in-V3Local-clause-ok c = rw c.in-V3Local.is c.tag_shown-in-V3Local.ensures.ok

pub returns-in-V3Local-clause-err : goal.returns-in-V3Local-clause-err
returns-in-V3Local-clause-err c = λ text read. if_opens v3 _ c.args.token.now text c.tag_shown-in-V3Local.ensures.err (rw c.in-V3Local.is at read)

pub returns-in-V4Local-clause-ok : goal.returns-in-V4Local-clause-ok
returns-in-V4Local-clause-ok c = rw c.in-V4Local.is c.tag_shown-in-V4Local.ensures.ok

pub returns-in-V4Local-clause-err : goal.returns-in-V4Local-clause-err
returns-in-V4Local-clause-err c = λ text read. if_opens v4 _ c.args.token.now text c.tag_shown-in-V4Local.ensures.err (rw c.in-V4Local.is at read)

pub returns-in-V1Public-clause-ok : goal.returns-in-V1Public-clause-ok
returns-in-V1Public-clause-ok c = rw c.in-V1Public.is (rw c.lend.ensures at c.signature_shown.ensures.ok)

pub returns-in-V1Public-clause-err : goal.returns-in-V1Public-clause-err
returns-in-V1Public-clause-err c = λ text read.
    if_verifies RsaPssVerifies IsRefusedByRsa v1_public _ c.args.token.now text (rw c.lend.ensures at c.signature_shown.ensures.err) (rw c.in-V1Public.is at read)

pub returns-in-V2Public-clause-ok : goal.returns-in-V2Public-clause-ok
returns-in-V2Public-clause-ok c = rw c.in-V2Public.is (rw c.lend-in-V2Public.ensures at c.signature_shown-in-V2Public.ensures.ok)

pub returns-in-V2Public-clause-err : goal.returns-in-V2Public-clause-err
returns-in-V2Public-clause-err c = λ text read.
    if_verifies Ed25519Verifies IsRefused v2_public _ c.args.token.now text (rw c.lend-in-V2Public.ensures at c.signature_shown-in-V2Public.ensures.err) (rw c.in-V2Public.is at read)

pub returns-in-V3Public-clause-ok : goal.returns-in-V3Public-clause-ok
returns-in-V3Public-clause-ok c = rw c.in-V3Public.is (rw c.lend-in-V3Public.ensures at c.signature_shown-in-V3Public.ensures.ok)

pub returns-in-V3Public-clause-err : goal.returns-in-V3Public-clause-err
returns-in-V3Public-clause-err c = λ text read.
    if_verifies P384Verifies IsRefusedByP384 v3_public _ c.args.token.now text (rw c.lend-in-V3Public.ensures at c.signature_shown-in-V3Public.ensures.err) (rw c.in-V3Public.is at read)

pub returns-in-V4Public-clause-ok : goal.returns-in-V4Public-clause-ok
returns-in-V4Public-clause-ok c = rw c.in-V4Public.is (rw c.lend-in-V4Public.ensures at c.signature_shown-in-V4Public.ensures.ok)

pub returns-in-V4Public-clause-err : goal.returns-in-V4Public-clause-err
returns-in-V4Public-clause-err c = λ text read.
    if_verifies Ed25519Verifies IsRefused v4_public _ c.args.token.now text (rw c.lend-in-V4Public.ensures at c.signature_shown-in-V4Public.ensures.err) (rw c.in-V4Public.is at read)
