-- Where errors may come.
use Rattle.std.proofs.Common.{Result, Ok, Err, IfErr}
use Rattle.paseto_tasks.specs.declared.error.ProgramError.{ProgramError}
use Rattle.paseto_tasks.specs.declared.error.ProgramError.TheVariants.{File, System, Token}
use Rattle.paseto_tasks.specs.declared.error.file.FileError.TheVariants.{TooLong}
use Rattle.paseto_tasks.specs.declared.error.system.SystemError.TheVariants.{Clock, InputOrOutput, Random}
use Rattle.paseto_tasks.specs.declared.error.token.TokenError.TheVariants.{OtherFooter}
use Rattle.paseto_tasks.specs.Error.{Blame, BlamesOnly, Fails, IsPlainBut, nothing}

-- wherever one may, another may
pub record IsWithin (one other : Blame) : Type 0 where
  pub bytes : one.no_bytes → other.no_bytes
  pub moment : one.no_moment → other.no_moment
  pub long : one.too_long → other.too_long
  pub footer : one.other_footer → other.other_footer
  pub stream : one.no_stream → other.no_stream

module _ {one other : Blame} (within : IsWithin one other) where
  pub blames_so : (error : ProgramError) → BlamesOnly one error → BlamesOnly other error
  blames_so (System Random) is = within.bytes is
  blames_so (System Clock) is = within.moment is
  blames_so (File TooLong) is = within.long is
  blames_so (Token OtherFooter) is = within.footer is
  blames_so (System InputOrOutput) is = within.stream is
  blames_so error is = tt

  pub blame_so : {T : Type 0} (result : Result T ProgramError) → IfErr result (BlamesOnly one) → IfErr result (BlamesOnly other)
  blame_so (Ok value) is = tt
  blame_so (Err error) is = blames_so error is

  pub plain_so : {T : Type 0} (result : Result T ProgramError) → IfErr result (IsPlainBut one) → IfErr result (IsPlainBut other)
  plain_so (Ok value) is = tt
  plain_so (Err error) is = (is.0, blames_so error is.1)

  pub fails_so : (error : ProgramError) → Fails one error → Fails other error
  fails_so error is = (is.0, blames_so error is.1)

-- nothing is at fault
pub within_all : (other : Blame) → IsWithin nothing other
within_all other = record { bytes = λ h. absurd h; moment = λ h. absurd h; long = λ h. absurd h; footer = λ h. absurd h; stream = λ h. absurd h }
