use Rattle.std.proofs.Common.{length}
use Rattle.paseto.proofs.commands.claims.+claims_of.Given as goal

abbrev pub decreases-claims_of : goal.decreases-claims_of
decreases-claims_of l = length l.words.now
