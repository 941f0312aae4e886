use Rattle.std.proofs.Common.{◌≡◌, encode_utf8_all, map, string_bytes}
use Rattle.paseto.specs.Answers.{shown_letter}
use Rattle.paseto.proofs.commands.answers.one_line.Given as goal

abbrev pub invariant-loop-letter : goal.invariant-loop-letter
invariant-loop-letter l = string_bytes l.line ≡ encode_utf8_all (map shown_letter l.yielded)
