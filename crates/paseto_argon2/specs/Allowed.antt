-- What Argon2id is given, and what of it is allowed (RFC 9106, section 3.1). A salt of 8 bytes at least is this
-- crate's.
use Rattle.std.specs.Prelude.{◌≡◌, ℕ, ◌*◌, ◌^◌, ◌==◌, max, nat_le, nat_lt, if◌then◌else◌, Option, Some, None}
use Rattle.std.specs.declared.alloc.AllocError.{AllocError}
use Rattle.paseto_argon2.specs.declared.error.Argon2Error.{Argon2Error}
use Rattle.paseto_argon2.specs.declared.error.Argon2Error.TheVariants.{NoLane, TooManyLanes, NoPass, TooLittleMemory, ShortSalt, ShortOutput, TooLong, Memory}
use Rattle.paseto_argon2.specs.declared.allowed.Parameters.{Parameters}

-- what is wrong with lengths of the password, the salt, the secret and the associated data, parameters, and a length
-- of the output: the first that is
abbrev pub fault : ℕ → ℕ → ℕ → ℕ → Parameters → ℕ → Option Argon2Error
fault password salt secret associated parameters output =
    if parameters.lanes == 0 then Some NoLane else (
    if nat_le (2 ^ 24) parameters.lanes then Some TooManyLanes else (
    if parameters.passes == 0 then Some NoPass else (
    if nat_lt parameters.memory (8 * parameters.lanes) then Some TooLittleMemory else (
    if nat_lt salt 8 then Some ShortSalt else (
    if nat_lt output 4 then Some ShortOutput else (
    if nat_le (2 ^ 32) (max (max (max (max password salt) secret) associated) output) then Some TooLong else None))))))

-- what is refused is the fault, and where there is none, it is memory that was refused
abbrev pub IsRefusal : Option Argon2Error → Argon2Error → Type 0
IsRefusal (Some fault) error = error ≡ fault
IsRefusal None error = (source : AllocError) × (error ≡ Memory source)
