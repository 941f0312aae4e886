-- What a contract sees of the code's filling.
use Rattle.paseto_argon2.specs.Filling.{Setting}
use Rattle.paseto_argon2.specs.declared.filling.Filling.{Filling}

-- what it depends on
abbrev pub setting_of : Filling → Setting
setting_of f = record { seed = f.seed; lanes = f.lanes; segment = f.segment; passes = f.passes }
