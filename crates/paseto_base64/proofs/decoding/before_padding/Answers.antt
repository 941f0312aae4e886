use Rattle.std.proofs.Common.{◌<◌, ◌∷◌, [], ℕ, arith, length, sym, ◌∙◌}
use Rattle.std.proofs.lemmas.Bool.Decides.{Decides-eqb}
use Rattle.std.proofs.lemmas.Slice.Eq.{strip_suffix_is}
use Rattle.base64.specs.Rfc4648.{encode_symbols, padding_len}
use Rattle.paseto_base64.specs.declared.alphabet.Alphabet.TheVariants.{Standard}
use Rattle.paseto_base64.specs.Alphabet.{symbols}
use Rattle.paseto_base64.proofs.Padding.{all_symbols, no_more, one_less}
use Rattle.paseto_base64.proofs.decoding.before_padding.Goals as goal

few : (n : ℕ) → padding_len n < 3
few n = omega arith

pub loop-front-init : goal.loop-front-init
loop-front-init c bytes e = (padding_len (length bytes), few (length bytes), e)

pub loop-front-preserved : goal.loop-front-preserved
loop-front-preserved c bytes e =
    let found = rw c.in-Some.is at (strip_suffix_is Decides-eqb c.loop-front.rest.now (61 ∷ []) c.strip_suffix.result c.strip_suffix.ensures.cases) in
    let now = c.loop-front.invariant bytes e in
    one_less (encode_symbols (symbols Standard) bytes) c.in-Some.front.now now.0 now.1 (all_symbols bytes) (sym now.2 ∙ found)

pub returns : goal.returns
returns c bytes e =
    let none = rw c.in_default.is at (strip_suffix_is Decides-eqb c.loop-front.rest.now (61 ∷ []) c.strip_suffix.result c.strip_suffix.ensures.cases) in
    let now = c.loop-front.invariant bytes e in
    no_more (encode_symbols (symbols Standard) bytes) c.loop-front.rest.now now.0 now.1 now.2 none
