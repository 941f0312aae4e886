-- The command `public`.
use Rattle.std.specs.Prelude.{◌≡◌, ◌⊎◌, ℕ, List, Ok, Err}
use Rattle.rusty_paseto_paserk.specs.declared.error.PaserkError.{PaserkError}
use Rattle.paseto_keys.specs.AnyKey.{KeyParts, parts_of}
use Rattle.paseto_keys.specs.PublicHalf.{GivesHalf}
use Rattle.paseto_keys.specs.declared.any_key.AnyKey.{AnyKey}
use Rattle.paseto_tasks.specs.Error.{key_error_of}
use Rattle.paseto_tasks.specs.declared.arguments.Format.{Format}
use Rattle.paseto.specs.Forms.{HasNoForm, IsFormed}
use Rattle.paseto.specs.Keys.{IsKeyFault}
use Rattle.paseto.specs.declared.fault.Fault.{Fault}

-- the text is that of the public half of a key, in a format
abbrev pub IsHalfIn : Format → KeyParts → List ℕ → Type 0
IsHalfIn format key text = (half : AnyKey) × GivesHalf key (Ok half) × IsFormed format (parts_of half) text

-- why there is none: the key has no public half, or that has no text in the format
abbrev pub IsHalfFault : List ℕ → Format → KeyParts → Fault → Type 0
IsHalfFault name format key fault =
    ((source : PaserkError) × GivesHalf key (Err source) × (fault.about.now ≡ name) × (fault.error ≡ key_error_of source))
    ⊎ ((half : AnyKey) × GivesHalf key (Ok half) × IsKeyFault name (HasNoForm format (parts_of half)) fault)
