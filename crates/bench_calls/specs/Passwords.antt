-- What a key costs that is made of a password.
use Rattle.paseto_argon2.specs.declared.allowed.Parameters.{Parameters}

-- 64 MiB, filled twice
abbrev pub argon2_cost : Parameters
argon2_cost = record { memory = 65536; passes = 2; lanes = 1 }
