-- The curve edwards25519 (RFC 8032, section 5.1).
use Rattle.std.specs.Prelude.{ℕ, ◌+◌, ◌-◌, ◌^◌}
use Rattle.paseto_edwards_laws.specs.Group.{Affine}

-- p
abbrev pub prime : ℕ
prime = 2 ^ 255 - 19

-- d, which is -121665 / 121666
abbrev pub d : ℕ
d = 37095705934669439343138083508754565189542113879843219016388785533085940283555

-- L
abbrev pub order : ℕ
order = 2 ^ 252 + 27742317777372353535851937790883648493

-- 2 ^ ((p - 1) / 4) modulo p, a square root of -1 (section 5.1.3)
abbrev pub square_root_of_minus_one : ℕ
square_root_of_minus_one = 19681161376707505956807079304988542015446066515923890162744021073123829784752

-- B
abbrev pub base_x : ℕ
base_x = 15112221349535400772501151409588531511454012693041857206046113283949847762202

abbrev pub base_y : ℕ
base_y = 46316835694926478169428394003475163141307993866256225615783033603165251855960

abbrev pub base : Affine
base = record { x = base_x; y = base_y }
