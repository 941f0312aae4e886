use Rattle.paseto_base64.proofs.Symbols.{standard_value, url_safe_value}
use Rattle.paseto_base64.proofs.alphabet.Alphabet.value.Goals as goal
use Rattle.paseto_base64.proofs.alphabet.Alphabet.value.Goals.{in-Standard, in-UrlSafe}

pub returns : goal.returns
returns c value low is = elim c.match-self.branch [
  | in-Standard w ↦
      rw (c.equal.ensures.value, c.equal-2.ensures.value, c.above.ensures.value, c.above-2.ensures.value, w.plus-is)
      (standard_value c.args.character value low (rw w.in-Standard.is at is))
  | in-UrlSafe w ↦
      rw (c.equal.ensures.value, c.equal-2.ensures.value, c.above.ensures.value, c.above-2.ensures.value, w.plus-is)
      (url_safe_value c.args.character value low (rw w.in-UrlSafe.is at is))
]
