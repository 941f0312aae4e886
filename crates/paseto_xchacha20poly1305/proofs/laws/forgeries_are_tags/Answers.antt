use Rattle.paseto_xchacha20poly1305.proofs.ForgeryLaws.{forgeries_are_tags}
use Rattle.paseto_xchacha20poly1305.proofs.laws.forgeries_are_tags.Goals as goal

pub returns : goal.returns
returns c = forgeries_are_tags
