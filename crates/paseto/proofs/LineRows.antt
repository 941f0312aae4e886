-- The row of a line.
use Rattle.std.proofs.Common.{◌≡◌, ◌⊎◌, ◌∙◌, inl, inr, ℕ, List, false, codes, ap, sym, subst}
use Rattle.serde_json.specs.Data.{Data, member, no_members, object, string}
use Rattle.paseto_tasks.specs.Error.{BlamesOnly, Fails, IsMemory, IsOutside, message_of, nothing}
use Rattle.paseto_tasks.specs.declared.error.ProgramError.{ProgramError}
use Rattle.paseto_tasks.specs.declared.error.ProgramError.TheVariants.{Usage, File, System, Token}
use Rattle.paseto_tasks.specs.declared.error.system.SystemError.TheVariants.{Clock, Random, InputOrOutput, Memory}
use Rattle.paseto.specs.declared.commands.check.Keys.{Keys}
use Rattle.paseto.specs.Check.{Demanded}
use Rattle.paseto.specs.Checked.{IsJsonLine}
use Rattle.paseto.specs.Each.{IsTokenRow, RefusesLine}
use Rattle.paseto.specs.Each.IsTokenRow.{refuses}

-- a failure of the system is blamed on no footer
blames_outside : (X : Type 0) (error : ProgramError) → IsOutside error → BlamesOnly (record nothing { other_footer = X }) error → BlamesOnly nothing error
blames_outside X (System Clock) outside blames = blames
blames_outside X (System Random) outside blames = blames
blames_outside X (System InputOrOutput) outside blames = blames
blames_outside X (System (Memory source)) outside blames = blames
blames_outside X (Usage error) outside blames = absurd outside
blames_outside X (File error) outside blames = absurd outside
blames_outside X (Token error) outside blames = absurd outside

of_memory : (error : ProgramError) → IsMemory error → Fails nothing error
of_memory (System (Memory source)) is = (tt, tt)
of_memory (System Clock) is = absurd is
of_memory (System Random) is = absurd is
of_memory (System InputOrOutput) is = absurd is
of_memory (Usage error) is = absurd is
of_memory (File error) is = absurd is
of_memory (Token error) is = absurd is

module _ (keys : Keys) (demands : Demanded) (line : List ℕ) (error : ProgramError) where
  fails_outside : RefusesLine keys demands line error ⊎ Fails nothing error → IsOutside error → Fails nothing error
  fails_outside (inl (inl no_text)) outside = absurd (subst IsOutside no_text.1.1 outside)
  fails_outside (inl (inr why)) outside = (outside, blames_outside _ error outside why.blames)
  fails_outside (inr fails) outside = fails

  -- why there is no row
  pub no_message : RefusesLine keys demands line error ⊎ Fails nothing error → (fault : ProgramError) → IsOutside fault × ((fault ≡ error) ⊎ IsMemory fault) → Fails nothing fault
  no_message why fault (outside, inl same) = subst (λ (e : ProgramError). Fails nothing e) (sym same) (fails_outside why (subst IsOutside same outside))
  no_message why fault (outside, inr memory) = of_memory fault memory

  -- the row of a refusal
  pub refused_row : RefusesLine keys demands line error ⊎ Fails nothing error → (message text row : List ℕ) (value : Data) → (message ≡ message_of error) × ¬ IsOutside error
      → text ≡ message → value ≡ string text → IsJsonLine (object (member (codes "error") value no_members)) row → IsTokenRow keys demands line row false
  refused_row (inl why) message text row value told same is json =
      refuses error row why told.1 (subst (λ (d : Data). IsJsonLine (object (member (codes "error") d no_members)) row) (is ∙ ap string (same ∙ told.0)) json)
  refused_row (inr fails) message text row value told same is json = absurd (told.1 fails.0)
