use Rattle.std.proofs.Common.{◌∙◌, List, ℕ, take, ap, arith}
use Rattle.std.proofs.lemmas.List.{take_all}
use Rattle.std.proofs.lemmas.Simd.{put_chunk_whole}
use Rattle.rusty_paseto_parts.specs.Section.{base64url}
use Rattle.rusty_paseto_parts.proofs.SixteenLemmas.{sixteen_read}
use Rattle.rusty_paseto_parts.proofs.sixteen.read_sixteen.Goals as goal

pub returns : goal.returns
returns c = λ test.
    let text : List ℕ = c.args.text.now in
    ap (λ (bytes : List ℕ). base64url (take 12 bytes)) (put_chunk_whole c.args.bytes.now c.packed.result (omega (arith, c.packed.ensures.lanes)))
    ∙ sixteen_read text _ c.values-values.result c.packed.result c.requires.text (λ i. let f = c.type_inv.text i in omega arith)
    (take_all 16 text (omega arith)) c.values-values.ensures (c.are_values.ensures c.if-not-are_values.false) c.packed.ensures.spelled
