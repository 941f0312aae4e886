use Rattle.std.proofs.Common.{◌∷◌, ℕ, List, string_bytes, codes, sym, ap, ◌∙◌}
use Rattle.std.proofs.lemmas.Bool.{false≢true}
use Rattle.paseto_tool.proofs.WordLemmas.{map-three}
use Rattle.paseto_tool.proofs.arguments.Command.sealing.Goals as goal

pub returns-clause-fault : goal.returns-clause-fault
returns-clause-fault c =
    let words = map-three string_bytes c.args.words.now c.version-item.result c.key-item.result c.nonce-item.result _ _ _
    c.in-len3-up.len_at_least c.version-item.is c.key-item.is c.nonce-item.is
    (sym c.in_ok-version.ensures.named ∙ c.deref.ensures) c.as_str-key.ensures.value c.as_str-nonce.ensures.value in (
      λ h. absurd (false≢true (sym h)),
      λ fault. absurd (fault.no_seal _ _ _ _ _ (record {
        last = _;
        words_are = ap (λ (l : List (List ℕ)). codes "seal" ∷ l) (sym words);
        are_last = c.in_ok-attachments.ensures.last;
      })),
    )
