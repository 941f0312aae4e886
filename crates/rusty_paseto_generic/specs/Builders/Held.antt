-- What a contract sees of the claims that a builder holds.
use Rattle.std.specs.Prelude.{unwrap_or}
use Rattle.serde_json.specs.Data.{Members, no_members}
use Rattle.serde_json.specs.Find.{as_object}
use Rattle.serde_json.specs.View.{view}
use Rattle.rusty_paseto_generic.specs.declared.builders.claims.Claims.{Claims}

-- the claims, as the members of a JSON object
abbrev pub held : Claims → Members
held claims = unwrap_or (as_object (view claims.object)) no_members
