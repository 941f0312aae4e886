use Rattle.std.proofs.Common.{◌≡◌, ℕ, List, [], ◌∷◌, ◌++◌, refl, append_assoc, ◌∙◌}
use Rattle.rusty_paseto_parts.specs.Section.{base64url}
use Rattle.std.proofs.lemmas.List.{append-nil}
use lib.Utf8.{encode}
use Rattle.rusty_paseto_core.specs.Framing.{framing, footer_part}
use Rattle.rusty_paseto_core.proofs.framing.frame.Goals as goal

with_footer : (header payload footer first second third whole : List ℕ) → first ≡ header → second ≡ first ++ base64url payload
    → third ≡ second ++ (46 ∷ []) → whole ≡ third ++ base64url footer → whole ≡ header ++ base64url payload ++ (46 ∷ base64url footer)
with_footer header payload footer first second third whole a b c d = rw (d, c, b, a) (simp append_assoc)

pub returns-in_default-clause-ok : goal.returns-in_default-clause-ok
unfolding framing footer_part
returns-in_default-clause-ok c =
    rw (c.in_ok-push_section.ensures.ok, c.in_ok-push_str.ensures.bytes, c.in_ok-token.ensures.bytes, c.in_default.is, append-nil) refl

pub returns-clause-ok : goal.returns-clause-ok
unfolding framing footer_part encode
returns-clause-ok c =
    let header = c.in_ok-push_str.ensures.bytes ∙ rw c.in_ok-token.ensures.bytes refl in
    let payload = c.in_ok-push_section.ensures.ok in
    let dot = c.in_ok-push.ensures.bytes in
    let done = c.in_ok-push_section-2.ensures.ok in
    let footer = c.as_bytes.ensures in
    rw (c.in-Some.is) (with_footer _ _ _ _ _ _ _ header payload dot (rw footer at done))
