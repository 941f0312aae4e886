use Rattle.std.proofs.Common.{◌≡◌, ◌↔◌, IsTrue, length}
use Rattle.base64.specs.GeneralPurpose.{encode_of}
use Rattle.paseto_base64.specs.Alphabet.{engine}
use Rattle.paseto_base64.proofs.comparing.is_encoding.Given as goal

abbrev pub invariant-loop-rest : goal.invariant-loop-rest
invariant-loop-rest l =
    (IsTrue l.same × (l.left ≡ encode_of (engine l.alphabet) l.rest)) ↔ (l.text ≡ encode_of (engine l.alphabet) l.bytes)

abbrev pub decreases-loop-rest : goal.decreases-loop-rest
decreases-loop-rest l = length l.rest
