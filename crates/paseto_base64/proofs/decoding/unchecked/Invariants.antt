use Rattle.std.proofs.Common.{◌≡◌, ◌++◌, length, ℕ, List}
use Rattle.base64.specs.GeneralPurpose.{IsBytes}
use Rattle.base64.specs.Rfc4648.{encode_symbols}
use Rattle.paseto_base64.specs.Alphabet.{symbols}
use Rattle.paseto_base64.proofs.decoding.unchecked.Given as goal

abbrev pub invariant-loop-rest : goal.invariant-loop-rest
invariant-loop-rest l = IsBytes l.bytes.items
    × ((bytes : List ℕ) → IsBytes bytes → l.text ≡ encode_symbols (symbols l.alphabet) bytes
    → (tail : List ℕ) × IsBytes tail × (l.rest ≡ encode_symbols (symbols l.alphabet) tail) × (bytes ≡ l.bytes.items ++ tail))

abbrev pub decreases-loop-rest : goal.decreases-loop-rest
decreases-loop-rest l = length l.rest
