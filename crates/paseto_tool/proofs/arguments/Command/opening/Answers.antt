use Rattle.std.proofs.Common.{◌∷◌, ℕ, List, string_bytes, codes, sym, ap, ◌∙◌}
use Rattle.std.proofs.lemmas.Bool.{false≢true}
use Rattle.paseto_tool.proofs.WordLemmas.{map-two}
use Rattle.paseto_tool.proofs.arguments.Command.opening.Goals as goal

pub returns-clause-fault : goal.returns-clause-fault
returns-clause-fault c =
    let words = map-two string_bytes c.args.words.now c.version-item.result c.key-item.result _ _
    c.in-len2-up.len_at_least c.version-item.is c.key-item.is
    (sym c.in_ok-version.ensures.named ∙ c.deref.ensures) c.as_str-key.ensures.value in (
      λ h. absurd (false≢true (sym h)),
      λ fault. absurd (fault.no_open _ _ _ _ (record {
        last = _;
        words_are = ap (λ (l : List (List ℕ)). codes "open" ∷ l) (sym words);
        are_last = c.in_ok-attachments.ensures.last;
      })),
    )
