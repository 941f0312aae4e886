use Rattle.std.proofs.Common.{rules}
use Rattle.paseto_tool.proofs.error.ToolError.of_words.Goals as goal

pub returns-in-InvalidData : goal.returns-in-InvalidData
returns-in-InvalidData c = search rules
