use Rattle.std.proofs.Common.{rules}
use Rattle.std.proofs.lemmas.List.{take_at}
use Rattle.rusty_paseto_primitives.specs.Hkdf.{hkdf}
use Rattle.rusty_paseto_primitives.proofs.HkdfLengths.{length-hkdf_expand}
use Rattle.test_rows.proofs.primitives.derived.Goals as goal

pub returns : goal.returns
unfolding hkdf
returns c = search (rules, take_at, length-hkdf_expand)
