use Rattle.std.proofs.Common.{◌≡◌, ◌<◌, ◌++◌, length, replicate, ℕ, List}
use Rattle.base64.specs.GeneralPurpose.{encode_of}
use Rattle.base64.specs.Rfc4648.{encode_symbols}
use Rattle.paseto_base64.specs.declared.alphabet.Alphabet.TheVariants.{Standard}
use Rattle.paseto_base64.specs.Alphabet.{engine, symbols}
use Rattle.paseto_base64.proofs.decoding.before_padding.Given as goal

abbrev pub invariant-loop-front : goal.invariant-loop-front
invariant-loop-front l = (bytes : List ℕ) → l.text ≡ encode_of (engine Standard) bytes
    → (count : ℕ) × (count < 3) × (l.rest ≡ encode_symbols (symbols Standard) bytes ++ replicate count 61)

abbrev pub decreases-loop-front : goal.decreases-loop-front
decreases-loop-front l = length l.rest
