use Rattle.std.proofs.Common.{◌≡◌, ◌-◌, List, ℕ, arith, drop, length, take}
use Rattle.std.proofs.lemmas.List.{length-drop, take_all}
use Rattle.base64.specs.GeneralPurpose.{encode_of}
use Rattle.paseto_base64.specs.Alphabet.{engine}
use Rattle.paseto_base64.proofs.Groups.{four_characters, last_step, step}
use Rattle.paseto_base64.proofs.comparing.is_encoding.Goals as goal

pub returns-then-left-lt4 : goal.returns-then-left-lt4
returns-then-left-lt4 c = (
  λ no. absurd (cc no),
  λ is. absurd (four_characters c.args.alphabet c.loop-rest.rest.now c.loop-rest.left.now c.in-len3-up.len_at_least
      (omega (arith, c.if-left-lt4.true)) (c.loop-rest.invariant.1 is).1),
)

pub loop-rest-preserved : goal.loop-rest-preserved
loop-rest-preserved c =
    let rest : List ℕ = c.loop-rest.rest.now in
    let tail : take (length rest - 3) (drop 3 rest) ≡ drop 3 rest = take_all _ _ (omega (arith, length-drop 3 rest)) in
    rw (tail, c.split_at.ensures.back)
    (step c.args.alphabet (c.args.text.now ≡ encode_of (engine c.args.alphabet) c.args.bytes.now) rest c.loop-rest.left.now c.loop-rest.same c.same_bytes-same.result
    c.in-len3-up.len_at_least c.loop-rest.invariant (rw (c.group.ensures, c.split_at.ensures.front) at c.same_bytes-same.ensures))

pub returns : goal.returns
returns c =
    last_step (c.args.text.now ≡ encode_of (engine c.args.alphabet) c.args.bytes.now) (c.loop-rest.left.now ≡ encode_of (engine c.args.alphabet) c.loop-rest.rest.now)
    c.loop-rest.same c.is_last.result c.loop-rest.invariant c.is_last.ensures
