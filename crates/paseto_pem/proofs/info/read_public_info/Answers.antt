use Rattle.std.proofs.Common.{◌∷◌, [], Some, None, sym, ◌∙◌}
use Rattle.std.proofs.lemmas.Bool.Decides.{Decides-eqb}
use Rattle.std.proofs.lemmas.Slice.Eq.{strip_prefix_is}
use Rattle.paseto_der.specs.Element.{element}
use Rattle.paseto_der.proofs.ElementLaws.{element-unique}
use Rattle.paseto_pem.proofs.InfoLaws.{element-same, public-contents, public-is, public-of}
use Rattle.paseto_pem.proofs.info.read_public_info.Goals as goal

pub returns-in_err-contents : goal.returns-in_err-contents
returns-in_err-contents c =
    rw c.from_residual.ensures (λ algorithm key e. c.in_err-contents.ensures _ (e ∙ public-is algorithm key))

pub returns-in_err-algorithm : goal.returns-in_err-algorithm
returns-in_err-algorithm c =
    rw c.from_residual-in_err-algorithm.ensures
    (λ algorithm key e.
    c.in_err-algorithm.ensures algorithm (element 0x03 (0 ∷ key))
    (public-contents algorithm key c.in_ok-contents.contents.now c.args.octets.now e c.in_ok-contents.ensures))

pub returns-in_err-bits : goal.returns-in_err-bits
returns-in_err-bits c =
    rw c.from_residual-in_err-bits.ensures
    (λ algorithm key e.
    let contents = public-contents algorithm key c.in_ok-contents.contents.now c.args.octets.now e c.in_ok-contents.ensures in
    let found = c.in_ok-algorithm.algorithm in
    let parts = element-unique 0x30 found.contents.now algorithm found.behind.now (element 0x03 (0 ∷ key)) (sym c.in_ok-algorithm.ensures ∙ contents) in
    c.in_err-bits.ensures (0 ∷ key) parts.1)

pub returns-in_err-key : goal.returns-in_err-key
returns-in_err-key c =
    rw c.from_residual-in_err-key.ensures
    (λ algorithm key e.
    let contents = public-contents algorithm key c.in_ok-contents.contents.now c.args.octets.now e c.in_ok-contents.ensures in
    let found = c.in_ok-algorithm.algorithm in
    let parts = element-unique 0x30 found.contents.now algorithm found.behind.now (element 0x03 (0 ∷ key)) (sym c.in_ok-algorithm.ensures ∙ contents) in
    let bits = element-same 0x03 c.in_ok-bits.bits.now (0 ∷ key) (sym c.in_ok-bits.ensures ∙ parts.1) in
    strip_prefix_is Decides-eqb c.in_ok-bits.bits.now (0 ∷ []) None c.in_err-key.ensures.cases key bits)

pub returns : goal.returns
returns c =
    let bits = strip_prefix_is Decides-eqb c.in_ok-bits.bits.now (0 ∷ []) (Some c.in_ok-key.key) c.in_ok-key.ensures.cases in
    public-of c.in_ok-algorithm.algorithm.contents.now c.in_ok-key.key.now c.in_ok-contents.contents.now c.args.octets.now
    c.in_ok-algorithm.algorithm.behind.now c.in_ok-bits.bits.now c.in_ok-contents.ensures c.in_ok-algorithm.ensures c.in_ok-bits.ensures bits
