-- The text of the claims that are ordered, and why there is none.
use Rattle.std.proofs.Common.{◌≡◌, ◌⊎◌, None, Result, Ok, Err, IfErr, IfOk, IsErrAnd, String, Global, string_bytes, inl, inr, sym, ◌∙◌}
use Rattle.serde_json.specs.Data.{Members}
use Rattle.rusty_paseto_generic.specs.Builders.Claims.{payload}
use Rattle.rusty_paseto_generic.specs.Error.{IsMemory}
use Rattle.rusty_paseto_generic.specs.declared.error.GenericBuilderError.{GenericBuilderError}
use Rattle.rusty_paseto.specs.PasetoBuilder.{Counting, IsRefusedRepeat, IsSame}
use Rattle.paseto_tasks.specs.declared.error.ProgramError.{ProgramError}
use Rattle.paseto_tasks.specs.declared.error.ProgramError.TheVariants.{System}
use Rattle.paseto_tasks.specs.Error.{BlamesNone, BlamesOnly, Fails, IsNoUsage, IsOutside, Says, nothing}
use Rattle.paseto_tasks.specs.Output.{Makes}
use Rattle.paseto_tasks.proofs.Blames.{blames_so, within_all}
use Rattle.paseto_tasks.proofs.Statuses.{says_so}
use Rattle.paseto.specs.Answers.{SaysOfBuilder}
use Rattle.paseto.specs.Issue.{AreNever, AreOrdered, IsPayload, IsRepeatedLine, Ordered, RefusesPayload, keys_set}
use Rattle.paseto.proofs.Lines.{told_built}

-- an error is one from outside, or it is not
pub outside_or_not : (error : ProgramError) → IsOutside error ⊎ (¬ IsOutside error)
outside_or_not (System error) = inl tt
outside_or_not error = inr (λ outside. outside)

module _ (order : Ordered) (NoMoment : Type 0) where
  -- what is ordered is never claims
  pub never_refuses : (error : ProgramError) → IsOutside error ⊎ AreNever order → IsNoUsage error ⊎ AreNever order → Says (λ line. ⊥) error
      → BlamesOnly (record nothing { no_moment = NoMoment }) error → RefusesPayload order error ⊎ Fails (record nothing { no_moment = NoMoment }) error
  never_refuses error never words said blames = by (outside_or_not error) never
    where
      by : IsOutside error ⊎ (¬ IsOutside error) → IsOutside error ⊎ AreNever order → RefusesPayload order error ⊎ Fails (record nothing { no_moment = NoMoment }) error
      by (inl outside) known = inr (outside, blames)
      by (inr inside) (inl outside) = absurd (inside outside)
      by (inr inside) (inr none) = inl (record {
        none = λ text is. none is.claims is.are_ordered;
        words = words;
        said = says_so (λ line. ⊥) (IsRepeatedLine order) (λ line none. absurd none) error said;
        inside = inside;
      })

  module _ (keys : Counting) (same : IsSame (keys_set order) keys) where
    pub payload_found : (claims : Members) (text : String Global) → AreOrdered order claims → keys.repeated ≡ None → string_bytes text ≡ payload claims
        → IsPayload order (string_bytes text)
    payload_found claims text are once is = record { claims = claims; are_ordered = are; once = sym (sym once ∙ same.repeated); text_is = is }

    -- a claim is set twice
    pub built_refuses : (answer : Result (String Global) GenericBuilderError) (error : ProgramError) → IsRefusedRepeat keys.repeated answer
        → (keys.repeated ≡ None → IfErr answer IsMemory) → IsErrAnd answer (λ source. IsOutside error ⊎ (¬ IsMemory source)) → IsNoUsage error
        → BlamesNone error → IsErrAnd answer (λ source. SaysOfBuilder source error)
        → RefusesPayload order error ⊎ Fails (record nothing { no_moment = NoMoment }) error
    built_refuses answer error repeated wants told no_usage blames said = by answer (outside_or_not error) wants told
      where
        says : Says (IsRepeatedLine order) error
        says = told_built order keys answer error same repeated wants said

        by : (found : Result (String Global) GenericBuilderError) → IsOutside error ⊎ (¬ IsOutside error) → (keys.repeated ≡ None → IfErr found IsMemory)
            → IsErrAnd found (λ source. IsOutside error ⊎ (¬ IsMemory source)) → RefusesPayload order error ⊎ Fails (record nothing { no_moment = NoMoment }) error
        by found (inl outside) memory known = inr (outside, blames_so (within_all (record nothing { no_moment = NoMoment })) error blames)
        by (Ok text) (inr inside) memory known = absurd known
        by (Err source) (inr inside) memory (inl outside) = absurd (inside outside)
        by (Err source) (inr inside) memory (inr some) = inl (record {
          none = λ text is. some (memory (same.repeated ∙ is.once));
          words = inl no_usage;
          said = says;
          inside = inside;
        })

    -- the text, or why there is none
    pub built_makes : (claims : Members) (answer : Result (String Global) GenericBuilderError) (made : Result (String Global) ProgramError) → AreOrdered order claims
        → IfOk answer (λ text. string_bytes text ≡ payload claims) → IsRefusedRepeat keys.repeated answer → (keys.repeated ≡ None → IfErr answer IsMemory)
        → IfOk made (λ text. answer ≡ Ok text) → IfErr made (λ error. IsErrAnd answer (λ source. IsOutside error ⊎ (¬ IsMemory source))) → IfErr made IsNoUsage
        → IfErr made BlamesNone → IfErr made (λ error. IsErrAnd answer (λ source. SaysOfBuilder source error))
        → Makes (IsPayload order) (RefusesPayload order) (Fails (record nothing { no_moment = NoMoment })) made
    built_makes claims answer (Ok text) are ok repeated wants is told no_usage blames said =
        record { printed = payload_found claims text are (rw is at repeated.ok) (rw is at ok); refused = tt }
    built_makes claims answer (Err error) are ok repeated wants is told no_usage blames said =
        record { printed = tt; refused = built_refuses answer error repeated wants told no_usage blames said }
