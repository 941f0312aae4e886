use Rattle.std.proofs.Common.{◌≡◌, true, string_bytes, sym, subst, ◌∙◌}
use Rattle.rusty_paseto.specs.Held.{counting}
use Rattle.rusty_paseto.specs.PasetoBuilder.{IsSame, counted}
use Rattle.rusty_paseto.proofs.KeyLemmas.{repeated_again}
use Rattle.rusty_paseto.proofs.paseto_builder.PasetoBuilderCountingSetter.put_claim.Goals as goal

pub returns-then-has-clause-keys : goal.returns-then-has-clause-keys
returns-then-has-clause-keys g c =
    let key : string_bytes c.in_ok-key.key ≡ g.C.PasetoClaim.key c.args.claim.now = c.in_ok-key.ensures.ok ∙ c.get_key.ensures in
    let was : (counting c.args.self.now.keys).is_counted (string_bytes c.in_ok-key.key) ≡ true =
    subst (λ at. (counting c.args.self.now.keys).is_counted at ≡ true) c.as_str.ensures.value (sym c.has.ensures ∙ c.if-has.true) in
    subst (λ at. IsSame (counted at (counting c.args.self.now.keys)) (counting c.repeat.new.self)) key
    (repeated_again (string_bytes c.in_ok-key.key) (counting c.args.self.now.keys) (counting c.repeat.new.self) was c.repeat.ensures)
