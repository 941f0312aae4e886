use Rattle.paseto_base64.proofs.Symbols.{standard_symbol, url_safe_symbol}
use Rattle.paseto_base64.proofs.alphabet.Alphabet.symbol.Goals as goal
use Rattle.paseto_base64.proofs.alphabet.Alphabet.symbol.Goals.{in-Standard, in-UrlSafe}

pub returns-clause-value : goal.returns-clause-value
returns-clause-value c = elim c.match-self.branch [
  | in-Standard w ↦
      rw (c.above.ensures.value, c.above-2.ensures.value, c.above-3.ensures.value, c.above-4.ensures.value, w.down-is)
      (rw (w.in-Standard.is) (standard_symbol c.args.value c.requires))
  | in-UrlSafe w ↦
      rw (c.above.ensures.value, c.above-2.ensures.value, c.above-3.ensures.value, c.above-4.ensures.value, w.down-is)
      (rw (w.in-UrlSafe.is) (url_safe_symbol c.args.value c.requires))
]
