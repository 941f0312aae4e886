use Rattle.std.proofs.Common.{◌∙◌, length, ap, arith}
use Rattle.std.proofs.lemmas.List.{length-drop}
use Rattle.paseto_montgomery.specs.Octets.{os2ip}
use Rattle.paseto_rsa.proofs.IntegerLaws.{least-front, least-long, value-zero}
use Rattle.paseto_rsa.proofs.integers.digits.Goals as goal

pub returns-then-rest-most : goal.returns-then-rest-most
returns-then-rest-most c =
    let size = ap length c.split_at.ensures.back ∙ length-drop 1 c.args.contents.now in
    least-long c.args.most c.args.contents.now (omega arith) c.requires

pub returns-then-contents-ne0 : goal.returns-then-contents-ne0
returns-then-contents-ne0 c =
    least-front c.args.most c.args.contents.now (omega arith) c.if-contents-ne0.true

pub returns : goal.returns
returns c =
    (ap os2ip c.split_at.ensures.back ∙ value-zero c.args.contents.now c.if-contents-ne0.false (omega arith), omega arith)
