-- On which side the fault of a refusal lies.
use Rattle.rusty_paseto_claims.specs.declared.PasetoClaimError.{PasetoClaimError}
use Rattle.rusty_paseto_claims.specs.declared.PasetoClaimError.TheVariants as Claim
use Rattle.rusty_paseto_core.specs.declared.PasetoError.{PasetoError}
use Rattle.rusty_paseto_core.specs.declared.PasetoError.TheVariants as Cipher
use Rattle.rusty_paseto_generic.specs.declared.blame.Blame.{Blame}
use Rattle.rusty_paseto_generic.specs.declared.blame.Blame.TheVariants.{Foreign, Untimely, Unfit, Memory}
use Rattle.rusty_paseto_generic.specs.declared.error.GenericBuilderError.{GenericBuilderError}
use Rattle.rusty_paseto_generic.specs.declared.error.GenericBuilderError.TheVariants as Builder
use Rattle.rusty_paseto_generic.specs.declared.error.GenericParserError.{GenericParserError}
use Rattle.rusty_paseto_generic.specs.declared.error.GenericParserError.TheVariants as Parser

-- a claim is refused for the moment, for want of memory, or for what it says
abbrev pub claim_blame : PasetoClaimError → Blame
claim_blame Claim.Expired = Untimely
claim_blame (Claim.UseBeforeAvailable _) = Untimely
claim_blame (Claim.Memory _) = Memory
claim_blame _ = Unfit

-- a token is not opened or verified for want of memory, or because it is foreign
abbrev pub cipher_blame : PasetoError → Blame
cipher_blame (Cipher.Memory _) = Memory
cipher_blame _ = Foreign

-- a parser's refusal: what was not opened is foreign, and what was opened and is no JSON is unfit
abbrev pub parser_blame : GenericParserError → Blame
parser_blame (Parser.ClaimError source) = claim_blame source
parser_blame (Parser.CipherError source) = cipher_blame source
parser_blame (Parser.PayloadJsonError _) = Unfit
parser_blame (Parser.Memory _) = Memory

-- a builder's refusal: no token came from elsewhere, so nothing is foreign, and nothing untimely
abbrev pub builder_blame : GenericBuilderError → Blame
builder_blame (Builder.Memory _) = Memory
builder_blame _ = Unfit
