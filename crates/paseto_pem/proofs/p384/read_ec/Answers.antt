use Rattle.std.proofs.Common.{◌++◌, Some, None}
use Rattle.std.proofs.lemmas.Bool.Decides.{Decides-eqb}
use Rattle.std.proofs.lemmas.Slice.Eq.{strip_prefix_is}
use Rattle.std.proofs.Common.{◌∙◌}
use Rattle.paseto_der.specs.Element.{element}
use Rattle.paseto_pem.proofs.P384Laws.{ec-behind, ec-contents, ec-is, ec-of}
use Rattle.paseto_pem.proofs.p384.read_ec.Goals as goal

pub returns-in_err-contents : goal.returns-in_err-contents
returns-in_err-contents c =
    rw c.from_residual.ensures (λ number rest e. c.in_err-contents.ensures _ (e ∙ ec-is number rest))

pub returns-in_err-behind : goal.returns-in_err-behind
returns-in_err-behind c =
    rw c.from_residual-in_err-behind.ensures
    (λ number rest e.
    let contents = ec-contents number rest c.in_ok-contents.contents.now c.args.octets.now c.version.result e c.in_ok-contents.ensures c.version.ensures in
    strip_prefix_is Decides-eqb c.in_ok-contents.contents.now c.version.result None c.in_err-behind.ensures.cases
    (element 0x04 number ++ rest) contents)

pub returns-in_err-number : goal.returns-in_err-number
returns-in_err-number c =
    rw c.from_residual-in_err-number.ensures
    (λ number rest e.
    let split = strip_prefix_is Decides-eqb c.in_ok-contents.contents.now c.version.result (Some c.in_ok-behind.behind) c.in_ok-behind.ensures.cases in
    c.in_err-number.ensures number rest
    (ec-behind number rest c.in_ok-contents.contents.now c.args.octets.now c.version.result c.in_ok-behind.behind.now e c.in_ok-contents.ensures c.version.ensures split))

pub returns : goal.returns
returns c =
    let split = strip_prefix_is Decides-eqb c.in_ok-contents.contents.now c.version.result (Some c.in_ok-behind.behind) c.in_ok-behind.ensures.cases in
    ec-of c.in_ok-number.number.contents.now c.in_ok-number.number.behind.now c.in_ok-contents.contents.now c.args.octets.now c.version.result
    c.in_ok-behind.behind.now c.in_ok-contents.ensures c.version.ensures split c.in_ok-number.ensures
