use Rattle.std.proofs.Common.{◌≡◌, ◌++◌, length, string_bytes}
use Rattle.base64.specs.GeneralPurpose.{encode_of}
use Rattle.paseto_base64.specs.Alphabet.{engine}
use Rattle.paseto_base64.proofs.encoding.encode_string.Given as goal

abbrev pub invariant-loop-rest : goal.invariant-loop-rest
invariant-loop-rest l = string_bytes l.text ++ encode_of (engine l.alphabet) l.rest ≡ string_bytes l.fn.text ++ encode_of (engine l.alphabet) l.bytes

abbrev pub decreases-loop-rest : goal.decreases-loop-rest
decreases-loop-rest l = length l.rest
