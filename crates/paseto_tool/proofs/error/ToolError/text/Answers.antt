use Rattle.std.proofs.Common.{rules}
use Rattle.paseto_tool.proofs.error.ToolError.text.Goals as goal

pub returns-in-Refused : goal.returns-in-Refused
returns-in-Refused c = search rules
