use Rattle.std.proofs.Common.{◌-◌, ◌/◌, ◌^◌}
use Rattle.paseto_montgomery.specs.Words.{value}
use Rattle.paseto_weierstrass_laws.specs.Multiples.{IsMultiple}
use Rattle.paseto_p384.specs.Point.{coordinates}
use Rattle.paseto_p384.proofs.point.secret_windows.multiply_secret.Given as goal

abbrev pub invariant-windows : goal.invariant-windows
invariant-windows l = IsMultiple (coordinates l.fn.p) (coordinates l.sum) (value l.k 6 / 16 ^ (96 - l.i))
