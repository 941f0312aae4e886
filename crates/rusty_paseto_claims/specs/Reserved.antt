-- The keys that the standard reserves (PASETO specification, "Claims").
use Rattle.std.specs.Prelude.{◌≡◌, ◌⊎◌, ℕ, List, codes}

-- the key is one of the seven
abbrev pub IsReserved : List ℕ → Type 0
IsReserved key = (key ≡ codes "iss") ⊎ ((key ≡ codes "sub") ⊎ ((key ≡ codes "aud") ⊎ ((key ≡ codes "exp")
    ⊎ ((key ≡ codes "nbf") ⊎ ((key ≡ codes "iat") ⊎ (key ≡ codes "jti"))))))
