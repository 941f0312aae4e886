use Rattle.std.proofs.Common.{◌≡◌, codes, false, nat_eq, refl, sym, ◌∙◌}
use Rattle.std.specs.Cmp.Lexicographic.{pointwise, same_text}
use Rattle.rusty_paseto_parts.proofs.HeaderLemmas.{header_text-other, header_text-version}
use Rattle.rusty_paseto_parts.proofs.texts.header.header_of.Goals as goal

pub returns-then-eq : goal.returns-then-eq
returns-then-eq c =
    let version : c.args.version.now ≡ codes "v1" = same_text c.args.version.now (codes "v1") (sym c.if-eq.true ∙ c.eq.ensures) in
    c.by_purpose.ensures ∙ rw version (sym (header_text-version (codes "v1") c.args.purpose.now refl))

pub returns-then-eq-2 : goal.returns-then-eq-2
returns-then-eq-2 c =
    let version : c.args.version.now ≡ codes "v2" = same_text c.args.version.now (codes "v2") (sym c.if-eq-2.true ∙ c.eq-else-eq.ensures) in
    c.by_purpose-then-eq-2.ensures ∙ rw version (sym (header_text-version (codes "v2") c.args.purpose.now refl))

pub returns-then-eq-3 : goal.returns-then-eq-3
returns-then-eq-3 c =
    let version : c.args.version.now ≡ codes "v3" = same_text c.args.version.now (codes "v3") (sym c.if-eq-3.true ∙ c.eq-else-eq-2.ensures) in
    c.by_purpose-then-eq-3.ensures ∙ rw version (sym (header_text-version (codes "v3") c.args.purpose.now refl))

pub returns-then-eq-4 : goal.returns-then-eq-4
returns-then-eq-4 c =
    let version : c.args.version.now ≡ codes "v4" = same_text c.args.version.now (codes "v4") (sym c.if-eq-4.true ∙ c.eq-else-eq-3.ensures) in
    c.by_purpose-then-eq-4.ensures ∙ rw version (sym (header_text-version (codes "v4") c.args.purpose.now refl))

pub returns-else-eq-4 : goal.returns-else-eq-4
returns-else-eq-4 c =
    let not_1 : pointwise nat_eq c.args.version.now (codes "v1") ≡ false = sym c.eq.ensures ∙ c.if-eq.false in
    let not_2 : pointwise nat_eq c.args.version.now (codes "v2") ≡ false = sym c.eq-else-eq.ensures ∙ c.if-eq-2.false in
    let not_3 : pointwise nat_eq c.args.version.now (codes "v3") ≡ false = sym c.eq-else-eq-2.ensures ∙ c.if-eq-3.false in
    let not_4 : pointwise nat_eq c.args.version.now (codes "v4") ≡ false = sym c.eq-else-eq-3.ensures ∙ c.if-eq-4.false in
    sym (header_text-other c.args.version.now c.args.purpose.now (rw (not_1, not_2, not_3, not_4) refl))
