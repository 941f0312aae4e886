use Rattle.std.proofs.Common.{inl, inr, sym}
use Rattle.rusty_paseto_core.specs.Local.V1Laws.{v1-binds_assertion}
use Rattle.rusty_paseto_core.specs.Local.V3Laws.{v3-binds_assertion}
use Rattle.rusty_paseto_core.specs.Local.V4Laws.{v4-binds_assertion}
use Rattle.paseto_tool.proofs.version.Version.binds_assertion.Goals as goal

pub returns-in-V1 : goal.returns-in-V1
returns-in-V1 c = rw c.in-V1.is (sym v1-binds_assertion)

pub returns-in-V3 : goal.returns-in-V3
returns-in-V3 c = elim c.in-V3.is [
  | inl is ↦ rw is (sym v3-binds_assertion)
  | inr is ↦ rw is (sym v4-binds_assertion)
]
