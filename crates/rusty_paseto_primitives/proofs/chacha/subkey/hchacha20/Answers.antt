use Rattle.std.proofs.Common.{List, ℕ, ap, ◌∙◌}
use Rattle.rusty_paseto_primitives.specs.ChaCha.Block.{double_rounds, serialized}
use Rattle.rusty_paseto_primitives.specs.ChaCha.Subkey.{hchacha20, outer_words}
use Rattle.rusty_paseto_primitives.proofs.chacha.subkey.hchacha20.Goals as goal

pub returns : goal.returns
unfolding hchacha20
returns c =
    c.serialize.ensures
    ∙ ap (λ (x : List ℕ). serialized (outer_words x)) (c.twenty_rounds-x.ensures ∙ ap (double_rounds 10) c.start_of.ensures)
