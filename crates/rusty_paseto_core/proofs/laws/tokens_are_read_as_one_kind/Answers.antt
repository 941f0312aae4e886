use Rattle.std.proofs.Common.{refl}
use Rattle.rusty_paseto_core.specs.HeaderLaws.{IsHeader-known}
use Rattle.rusty_paseto_core.specs.Local.{local}
use Rattle.rusty_paseto_core.specs.Local.Boxed.{box_opening, v2}
use Rattle.rusty_paseto_core.specs.Local.Opening.{opening}
use Rattle.rusty_paseto_core.specs.Public.Verifying.{verification}
use Rattle.rusty_paseto_core.proofs.KindLaws.{never_both, read_one_kind}
use Rattle.rusty_paseto_core.proofs.laws.tokens_are_read_as_one_kind.Goals as goal

pub returns : goal.returns
returns g c = record {
  local = λ a b. read_one_kind (opening g.V.LocalSuite.design a) (opening g.W.LocalSuite.design b)
      g.met.V.LocalSuite.lawful.is_header g.met.W.LocalSuite.lawful.is_header;
  boxed = λ box a b. read_one_kind (box_opening box a) (opening g.V.LocalSuite.design b)
      (IsHeader-known v2 local refl refl) g.met.V.LocalSuite.lawful.is_header;
  public = λ a b. read_one_kind (verification g.X.Verifies.valid g.X.Verifies.refused g.X.PublicSuite.public_design a)
      (verification g.Y.Verifies.valid g.Y.Verifies.refused g.Y.PublicSuite.public_design b)
      g.met.X.PublicSuite.public_lawful.is_header g.met.Y.PublicSuite.public_lawful.is_header;
  purpose = λ a b. never_both (opening g.V.LocalSuite.design a)
      (verification g.X.Verifies.valid g.X.Verifies.refused g.X.PublicSuite.public_design b)
      g.met.V.LocalSuite.lawful.is_header g.met.X.PublicSuite.public_lawful.is_header refl refl;
  boxed_purpose = λ box a b. never_both (box_opening box a)
      (verification g.X.Verifies.valid g.X.Verifies.refused g.X.PublicSuite.public_design b)
      (IsHeader-known v2 local refl refl) g.met.X.PublicSuite.public_lawful.is_header refl refl;
}
