-- The lines of a token, from the parts that were kept of it.
use Rattle.std.proofs.Common.{◌≡◌, ◌∙◌, ℕ, List, [], ◌∷◌, ◌++◌, Option, None, Some, codes, Bor, unwrap_or, option_map, sym, ap, refl}
use Rattle.std.proofs.lemmas.List.{append-nil, append_assoc}
use Rattle.std.proofs.lemmas.Option.{get_or_from_slice_get}
use Rattle.rusty_paseto_parts.specs.Section.{HasCount, sections}
use Rattle.rusty_paseto_parts.specs.UntrustedToken.{AreKept, HasFooterBytes, HasFooterText, footer_section, purpose_section, version_section}
use Rattle.rusty_paseto_parts.specs.declared.untrusted_token.UntrustedToken.{UntrustedToken}
use Rattle.paseto_tool.specs.Inspect.{Inspects, footer_lines, line}

-- the lines where a footer is read, and where there is none
footer_lines-read : (section : Option (List ℕ)) (text : List ℕ) → HasFooterBytes section (Some text)
    → footer_lines section (Some text) ≡ line (codes "footer: ") (unwrap_or section []) ++ line (codes "footer text: ") text
footer_lines-read (Some section) text h = refl
footer_lines-read None text h = absurd h

footer_lines-none : (section : Option (List ℕ)) → HasFooterBytes section None
    → footer_lines section None ≡ line (codes "footer: ") (codes "none")
footer_lines-none None h = refl
footer_lines-none (Some section) h = absurd h

-- a section that is lent, or the empty text
unwrap_or-now : (found : Option (Bor (List ℕ))) (none : Bor (List ℕ)) → none.now ≡ []
    → (unwrap_or found none).now ≡ unwrap_or (option_map (λ (section : Bor (List ℕ)). section.now) found) []
unwrap_or-now None none e = e
unwrap_or-now (Some section) none e = refl

-- two lines, and what follows them
two_lines : (name value name2 value2 rest : List ℕ)
    → name ++ (value ++ ((10 ∷ name2) ++ (value2 ++ (10 ∷ rest)))) ≡ line name value ++ line name2 value2 ++ rest
two_lines name value name2 value2 rest = simp append_assoc

lines-none : (version purpose : List ℕ)
    → codes "version: " ++ (version ++ (codes "\npurpose: " ++ (purpose ++ codes "\nfooter: none\n")))
    ≡ line (codes "version: ") version ++ line (codes "purpose: ") purpose ++ line (codes "footer: ") (codes "none")
lines-none version purpose = two_lines (codes "version: ") version (codes "purpose: ") purpose (codes "footer: none\n")

lines-read : (version purpose section text : List ℕ)
    → codes "version: " ++ (version ++ (codes "\npurpose: " ++ (purpose ++ (codes "\nfooter: " ++ (section ++ (codes "\nfooter text: " ++ (text ++ codes "\n")))))))
    ≡ line (codes "version: ") version ++ line (codes "purpose: ") purpose ++ (line (codes "footer: ") section ++ line (codes "footer text: ") text)
lines-read version purpose section text =
    let footer = two_lines (codes "footer: ") section (codes "footer text: ") text [] ∙ append-nil _ in
    ap (λ (rest : List ℕ). codes "version: " ++ (version ++ (codes "\npurpose: " ++ (purpose ++ (10 ∷ rest))))) footer
    ∙ two_lines (codes "version: ") version (codes "purpose: ") purpose _

module _ (token : List ℕ) (t : UntrustedToken) (kept : AreKept (sections token) t) (count : HasCount (sections token)) where
  inspects : (text : Option (List ℕ)) → HasFooterText (footer_section t) text
      → Inspects token (line (codes "version: ") (version_section t) ++ line (codes "purpose: ") (purpose_section t) ++ footer_lines (footer_section t) text)
  inspects text has = record {
    count = count;
    text = text;
    has_text = rw kept.footer has;
    lines_are = rw (
      get_or_from_slice_get (sections token) 0 (version_section t) [] kept.version,
      get_or_from_slice_get (sections token) 1 (purpose_section t) [] kept.purpose,
      kept.footer,
    ) refl;
  }

  pub inspects-none : (lines version purpose : List ℕ) → version ≡ version_section t → purpose ≡ purpose_section t
      → HasFooterText (footer_section t) None
      → lines ≡ codes "version: " ++ (version ++ (codes "\npurpose: " ++ (purpose ++ codes "\nfooter: none\n")))
      → Inspects token lines
  inspects-none lines version purpose v p has is =
      rw (is, lines-none version purpose, v, p, sym (footer_lines-none (footer_section t) has.0)) (inspects None has)

  pub inspects-read : (lines version purpose text : List ℕ) (found : Option (Bor (List ℕ))) (none : Bor (List ℕ)) → version ≡ version_section t → purpose ≡ purpose_section t
      → none.now ≡ [] → option_map (λ (section : Bor (List ℕ)). section.now) found ≡ footer_section t → HasFooterText (footer_section t) (Some text)
      → lines ≡ codes "version: " ++ (version ++ (codes "\npurpose: " ++ (purpose ++ (codes "\nfooter: " ++ ((unwrap_or found none).now ++ (codes "\nfooter text: " ++ (text ++ codes "\n")))))))
      → Inspects token lines
  inspects-read lines version purpose text found none v p e same has is =
      rw (is, lines-read version purpose (unwrap_or found none).now text, v, p, unwrap_or-now found none e, same, sym (footer_lines-read (footer_section t) text has.0))
      (inspects (Some text) has)
