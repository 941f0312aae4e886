-- What is said of failures of the system.
use Rattle.std.specs.Prelude.{ℕ, List, codes}
use Rattle.paseto_tasks.specs.declared.error.system.SystemError.{SystemError}
use Rattle.paseto_tasks.specs.declared.error.system.SystemError.TheVariants.{Clock, Random, InputOrOutput, Memory}

abbrev pub system_text : SystemError → List ℕ
system_text Clock = codes "the system clock is not within the years 0 to 9999"
system_text Random = codes "the system returned no random bytes"
system_text InputOrOutput = codes "a read or a write failed"
system_text (Memory _) = codes "out of memory"
