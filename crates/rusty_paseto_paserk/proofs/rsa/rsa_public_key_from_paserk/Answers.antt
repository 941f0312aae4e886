use Rattle.std.proofs.Common.{List, ℕ, sym, subst, ◌∙◌}
use Rattle.rusty_paseto_paserk.proofs.RsaLaws.{found-form, one-public}
use Rattle.rusty_paseto_paserk.specs.Rsa.{IsPublicForm}
use Rattle.rusty_paseto_paserk.specs.declared.header.PaserkType.TheVariants.{Public}
use Rattle.rusty_paseto_paserk.proofs.rsa.rsa_public_key_from_paserk.Goals as goal

pub returns-in-Ok : goal.returns-in-Ok
returns-in-Ok c =
    let octets = c.in_ok-octets.octets.items in
    let held = rw c.deref.ensures.value at c.in-Some.ensures in
    let form = subst (λ (k : List ℕ). IsPublicForm octets k) (sym (c.in-Ok.ensures.same ∙ c.in_ok-from_slice.ensures.items)) held in
    found-form Public IsPublicForm c.args.text.now c.in_ok-octets.octets c.in_ok-octets.ensures c.in-Ok.key
    (λ other is. one-public octets c.in-Ok.key other form is) form
