use Rattle.std.proofs.Common.{Some, None, lit<}
use Rattle.std.proofs.lemmas.Str.Pattern.{split_parts}
use Rattle.rusty_paseto_parts.proofs.SectionLemmas.{HasNoDot-from_search, sections-dot, sections-dotless}
use Rattle.rusty_paseto_parts.proofs.section.first_section.Goals as goal

pub returns-in-Some : goal.returns-in-Some
returns-in-Some c =
    let parts = split_parts 46 c.args.text.now (Some (c.in-Some.section, c.in-Some.rest)) c.in-Some.ensures.cases (lit< tt) in
    rw parts.0 (sections-dot _ _ (HasNoDot-from_search _ parts.1))

pub returns-in-None : goal.returns-in-None
returns-in-None c =
    sections-dotless _ (HasNoDot-from_search _ (split_parts 46 c.args.text.now None c.in-None.ensures.cases (lit< tt)))
