use Rattle.std.proofs.Common.{ap, ◌∙◌}
use Rattle.std.proofs.lemmas.Result.{IfOk-weaker}
use Rattle.serde_json.specs.Written.{compact_text}
use Rattle.rusty_paseto_generic.proofs.MapLemmas.{object_of, written-IsReadBack}
use Rattle.rusty_paseto_generic.proofs.builders.claims.Claims.to_text.Goals as goal

pub returns : goal.returns
returns c =
    let claims = c.args.self.now in
    let is = object_of _ claims.is_object in
    record {
      text = IfOk-weaker c.to_string.result _ _ (λ text written. written claims.whole ∙ ap compact_text is) c.to_string.ensures.text;
      read_back = written-IsReadBack c.to_string.result _ _ is (rw is at claims.whole) c.to_string.ensures.text c.to_string.ensures.reads_back;
    }
