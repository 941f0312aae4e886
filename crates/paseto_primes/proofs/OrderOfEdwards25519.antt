-- That the order of the base point of edwards25519 is prime. Written by tools/certificates.py.
use Rattle.std.proofs.Common.{◌+◌, ◌^◌, List, [], ◌∷◌, refl}
use Rattle.paseto_primes.specs.Certified.{Certificate, divided, witnessed}
use Rattle.paseto_primes.specs.Prime.{IsPrime}
use Rattle.paseto_primes.proofs.CertificateLaws.{certified, certifying}

certificate : Certificate
certificate =
    witnessed 7237005577332262213973186563042994240857116359379907606001950938285454250989 253
    (record { divisor = 276602624281642239937218680557139826668747; base = 2; inverse = 2233364593245673852815932892735013076939656528578070433728021143254617821614 }
    ∷ [])

smaller : List Certificate
smaller =
    witnessed 276602624281642239937218680557139826668747 138
    (record { divisor = 19757330305831588566944191468367130476339; base = 2; inverse = 94074944912245044309966580483695483989395 }
    ∷ [])
    ∷ witnessed 19757330305831588566944191468367130476339 134
    (record { divisor = 172054593956031949258510691; base = 2; inverse = 16371654433361644093796961727196399386194 }
    ∷ [])
    ∷ witnessed 172054593956031949258510691 88
    (record { divisor = 4434155615661930479; base = 2; inverse = 154275350521713489305385904 }
    ∷ [])
    ∷ witnessed 4434155615661930479 62
    (record { divisor = 1257559732178653; base = 2; inverse = 1010501025739283171 }
    ∷ [])
    ∷ witnessed 1257559732178653 51
    (record { divisor = 1224481; base = 2; inverse = 790900187493841 }
    ∷ record { divisor = 531581; base = 2; inverse = 212927577457398 }
    ∷ [])
    ∷ witnessed 531581 20
    (record { divisor = 3797; base = 2; inverse = 50673 }
    ∷ [])
    ∷ divided 3797 60
    ∷ witnessed 1224481 21
    (record { divisor = 2551; base = 2; inverse = 1100631 }
    ∷ [])
    ∷ divided 2551 49
    ∷ []

pub is-prime : IsPrime (2 ^ 252 + 27742317777372353535851937790883648493)
unfolding certifying certificate smaller
is-prime = certified certificate smaller refl
