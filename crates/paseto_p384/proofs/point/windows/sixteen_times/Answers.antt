use Rattle.paseto_weierstrass_laws.proofs.PointLaws.{same-is_point}
use Rattle.paseto_weierstrass_laws.proofs.SumLaws.{double-is_point}
use Rattle.paseto_p384.specs.Point.{coordinates}
use Rattle.paseto_p384.proofs.PointLaws.{sixteen-times}
use Rattle.paseto_p384.proofs.point.windows.sixteen_times.Goals as goal

pub double_known-four_times-requires : goal.double_known-four_times-requires
double_known-four_times-requires c = same-is_point (double-is_point (coordinates c.args.p) c.requires) c.double_known-twice.ensures

pub double_known-eight_times-requires : goal.double_known-eight_times-requires
double_known-eight_times-requires c =
    let twice = same-is_point (double-is_point (coordinates c.args.p) c.requires) c.double_known-twice.ensures in
    same-is_point (double-is_point (coordinates c.double_known-twice.result) twice) c.double_known-four_times.ensures

pub double_known-requires : goal.double_known-requires
double_known-requires c =
    let twice = same-is_point (double-is_point (coordinates c.args.p) c.requires) c.double_known-twice.ensures in
    let four_times = same-is_point (double-is_point (coordinates c.double_known-twice.result) twice) c.double_known-four_times.ensures in
    same-is_point (double-is_point (coordinates c.double_known-four_times.result) four_times) c.double_known-eight_times.ensures

pub returns : goal.returns
returns c q n hq h =
    sixteen-times q (coordinates c.args.p) (coordinates c.double_known-twice.result) (coordinates c.double_known-four_times.result)
    (coordinates c.double_known-eight_times.result) (coordinates c.double_known.result) n hq h
    c.double_known-twice.ensures c.double_known-four_times.ensures c.double_known-eight_times.ensures c.double_known.ensures
