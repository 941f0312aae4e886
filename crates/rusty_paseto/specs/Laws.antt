-- Laws of the default builder.
use Rattle.std.specs.Prelude.{◌≡◌, ℕ, List}
use Rattle.serde_json.specs.Data.{Members}
use Rattle.rusty_paseto_claims.specs.Claim.{Answer}
use Rattle.rusty_paseto_generic.specs.Builders.Claims.{becomes, claim_set}
use Rattle.rusty_paseto.specs.PasetoBuilder.{Counting, IsSame, NeverExpires, counted}

-- what never expires never expires after a claim is set
abbrev pub ExpirationStaysOut : Type 0
ExpirationStaysOut = (key : List ℕ) (answer : Answer) (old new : Members) (keys new_keys : Counting)
    → NeverExpires old keys → claim_set key answer old ≡ becomes new → IsSame (counted key keys) new_keys → NeverExpires new new_keys
