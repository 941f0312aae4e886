use Rattle.std.proofs.Common.{◌≡◌, [], ◌∷◌, sym, ◌∙◌}
use Rattle.paseto_tool.specs.Error.{text_of}
use Rattle.paseto_streams.proofs.Lines.{said_by, said_line, when_ok}
use Rattle.paseto_tool.proofs.error.ToolError.say.Goals as goal

pub returns-then-is_ok : goal.returns-then-is_ok
returns-then-is_ok g c =
    let text : c.as_bytes.result.now ≡ text_of c.args.self.now = c.as_bytes.ensures.value ∙ c.text.ensures in
    let whole = when_ok c.write_whole.result (sym c.is_ok.ensures.value ∙ c.if-is_ok.true) c.write_whole.ensures.whole in
    said_line (text_of c.args.self.now) (10 ∷ []) _ _ _ (rw text at whole)
    (said_by _ _ (10 ∷ []) c.write_whole-then-is_ok.result c.write_whole-then-is_ok.ensures.whole c.write_whole-then-is_ok.ensures.beginning)
