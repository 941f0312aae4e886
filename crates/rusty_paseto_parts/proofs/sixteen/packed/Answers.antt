use Rattle.std.proofs.Common.{refl}
use Rattle.rusty_paseto_parts.proofs.SixteenLemmas.{base64url_group, base64url_none}
use Rattle.rusty_paseto_parts.proofs.sixteen.packed.Goals as goal

pub returns-clause-spelled : goal.returns-clause-spelled
returns-clause-spelled c f fits e t =
    rw (
      e,
      base64url_group t _ (f 0) (f 1) (f 2) (f 3) (fits 0) (fits 1) (fits 2) (fits 3),
      base64url_group t _ (f 4) (f 5) (f 6) (f 7) (fits 4) (fits 5) (fits 6) (fits 7),
      base64url_group t _ (f 8) (f 9) (f 10) (f 11) (fits 8) (fits 9) (fits 10) (fits 11),
      base64url_group t _ (f 12) (f 13) (f 14) (f 15) (fits 12) (fits 13) (fits 14) (fits 15),
      base64url_none t,
    ) refl
