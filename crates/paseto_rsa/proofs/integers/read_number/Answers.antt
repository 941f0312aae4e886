use Rattle.std.proofs.Common.{◌≡◌, ◌<◌, ◌≤◌, ◌*◌, ◌^◌, ℕ, ◌∙◌, sym, ap, subst, arith}
use Rattle.std.proofs.lemmas.Bool.{false≢true}
use Rattle.paseto_montgomery.specs.Octets.{os2ip}
use Rattle.paseto_montgomery.specs.Words.{weight}
use Rattle.paseto_montgomery.proofs.DigitLaws.{octet-power, weight-is}
use Rattle.paseto_rsa.specs.Integers.{IsShortest}
use Rattle.paseto_der.proofs.ElementLaws.{element-unique}
use Rattle.paseto_rsa.proofs.integers.read_number.Goals as goal

-- a number that has more octets than n words have is not below what they count
too-long : (n x : ℕ) → x < weight n → 256 ^ (8 * n) ≤ x → ⊥
too-long n x below least =
    let bits : 8 * (8 * n) ≡ 64 * n = omega arith in
    let whole : weight n ≡ 256 ^ (8 * n) = weight-is n ∙ ap (λ k. 2 ^ k) (sym bits) ∙ sym (octet-power (8 * n)) in
    omega (arith, whole)

pub returns-then-not-is_shortest : goal.returns-then-not-is_shortest
returns-then-not-is_shortest g c x behind below i =
    let same = element-unique 2 i.contents c.in_ok-contents.field-0.contents.now behind c.in_ok-contents.field-0.behind.now (sym i.written ∙ c.in_ok-contents.ensures) in
    false≢true (c.if-not-is_shortest.ensures.1 (subst IsShortest same.0 i.shortest))

pub returns-in-None : goal.returns-in-None
returns-in-None g c x behind below i =
    let contents = c.in_ok-contents.field-0.contents.now in
    let same = element-unique 2 i.contents contents behind c.in_ok-contents.field-0.behind.now (sym i.written ∙ c.in_ok-contents.ensures) in
    let number : os2ip contents ≡ x = ap os2ip (sym same.0) ∙ i.value in
    too-long g.row.N x below (subst (λ (k : ℕ). 256 ^ (8 * g.row.N) ≤ k) number c.in-None.ensures)
