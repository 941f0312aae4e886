-- That the order of the base point of P-384 is prime. Written by tools/certificates.py.
use Rattle.std.proofs.Common.{List, [], ◌∷◌, refl}
use Rattle.paseto_primes.specs.Certified.{Certificate, divided, witnessed}
use Rattle.paseto_primes.specs.Prime.{IsPrime}
use Rattle.paseto_primes.proofs.CertificateLaws.{certified, certifying}

certificate : Certificate
certificate =
    witnessed 39402006196394479212279040100143613805079739270465446667946905279627659399113263569398956308152294913554433653942643 384
    (record { divisor = 3055465788140352002733946906144561090641249606160407884365391979704929268480326390471; base = 2; inverse = 6690982755611728604002668186530857022804999950720040049042778753912660326557620697048332797102831257476360889901329 }
    ∷ [])

smaller : List Certificate
smaller =
    witnessed 3055465788140352002733946906144561090641249606160407884365391979704929268480326390471 281
    (record { divisor = 1059392654943455286185473617842338478315215895509773412096307; base = 2; inverse = 2712496454280912552189064744403578205633632341143601555674953748700913292982480842577 }
    ∷ [])
    ∷ witnessed 1059392654943455286185473617842338478315215895509773412096307 200
    (record { divisor = 17942392077136950785977011829; base = 2; inverse = 998138853698994773956202982878560095896349290477683143077531 }
    ∷ record { divisor = 251; base = 2; inverse = 48007760035020698497080361650380129539786775532907103937551 }
    ∷ [])
    ∷ divided 251 14
    ∷ witnessed 17942392077136950785977011829 94
    (record { divisor = 1495199339761412565498084319; base = 2; inverse = 2808564913661730269550980362 }
    ∷ [])
    ∷ witnessed 1495199339761412565498084319 91
    (record { divisor = 426632512014427833817; base = 2; inverse = 166870529054719175605931730 }
    ∷ [])
    ∷ witnessed 426632512014427833817 69
    (record { divisor = 23314383343543; base = 2; inverse = 62814440624553491211 }
    ∷ [])
    ∷ witnessed 23314383343543 45
    (record { divisor = 228572385721; base = 2; inverse = 1293503794781 }
    ∷ [])
    ∷ witnessed 228572385721 38
    (record { divisor = 272109983; base = 2; inverse = 195783320097 }
    ∷ [])
    ∷ witnessed 272109983 29
    (record { divisor = 233; base = 2; inverse = 163678795 }
    ∷ record { divisor = 73; base = 2; inverse = 43510825 }
    ∷ [])
    ∷ divided 73 7
    ∷ divided 233 14
    ∷ []

pub is-prime : IsPrime (0xffffffffffffffffffffffffffffffffffffffffffffffffc7634d81f4372ddf581a0db248b0a77aecec196accc52973)
unfolding certifying certificate smaller
is-prime = certified certificate smaller refl
