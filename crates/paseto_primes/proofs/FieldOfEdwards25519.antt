-- That 2 ^ 255 - 19 is prime. Written by tools/certificates.py.
use Rattle.std.proofs.Common.{◌-◌, ◌^◌, List, [], ◌∷◌, refl}
use Rattle.paseto_primes.specs.Certified.{Certificate, divided, witnessed}
use Rattle.paseto_primes.specs.Prime.{IsPrime}
use Rattle.paseto_primes.proofs.CertificateLaws.{certified, certifying}

certificate : Certificate
certificate =
    witnessed 57896044618658097711785492504343953926634992332820282019728792003956564819949 255
    (record { divisor = 74058212732561358302231226437062788676166966415465897661863160754340907; base = 2; inverse = 55540832096118778044507775605005710249233119951144946814680141076505643269084 }
    ∷ [])

smaller : List Certificate
smaller =
    witnessed 74058212732561358302231226437062788676166966415465897661863160754340907 236
    (record { divisor = 75445702479781427272750846543864801; base = 2; inverse = 70463328703800545008217672123162676565183935400628861884889913886334520 }
    ∷ record { divisor = 353; base = 2; inverse = 37940283535957283147790493383286696582099159842122763948555891970476459 }
    ∷ [])
    ∷ divided 353 17
    ∷ witnessed 75445702479781427272750846543864801 116
    (record { divisor = 1919519569386763; base = 2; inverse = 74602835786463724888147869570305675 }
    ∷ record { divisor = 75707; base = 2; inverse = 8986369574106813140303762220009459 }
    ∷ [])
    ∷ divided 75707 274
    ∷ witnessed 1919519569386763 51
    (record { divisor = 8574133; base = 2; inverse = 1290547218147893 }
    ∷ record { divisor = 7; base = 2; inverse = 681516913897206 }
    ∷ [])
    ∷ divided 7 1
    ∷ witnessed 8574133 24
    (record { divisor = 991; base = 2; inverse = 1014251 }
    ∷ record { divisor = 3; base = 2; inverse = 498358 }
    ∷ [])
    ∷ divided 3 0
    ∷ divided 991 30
    ∷ []

pub is-prime : IsPrime (2 ^ 255 - 19)
unfolding certifying certificate smaller
is-prime = certified certificate smaller refl
