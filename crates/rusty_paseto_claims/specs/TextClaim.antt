-- What a contract sees of a claim that is a text.
use Rattle.std.specs.Prelude.{ℕ, List}
use Rattle.rusty_paseto_claims.specs.declared.text_claim.TextClaim.{TextClaim}

-- the text
abbrev pub claim_text : {K : Type 0} → TextClaim K → List ℕ
claim_text claim = claim.text.now
