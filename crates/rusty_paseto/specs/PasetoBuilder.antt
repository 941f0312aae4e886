-- What a default builder holds beside its claims, its footer and its assertion: which keys were set, and the last of
-- them that was set again.
use Rattle.std.specs.Prelude.{◌≡◌, ℕ, ℤ, List, Bool, true, false, if◌then◌else◌, Option, Some, None, bytes_eq, codes, string_bytes, ◌⊎◌, IsSome, Result, OnOk, IfErr, String}
use Rattle.std.specs.Global.{Global}
use Rattle.jiff.specs.Types.{Timestamp}
use Rattle.serde_json.specs.Data.{Members, no_members, member, put, string}
use Rattle.serde_json.specs.Find.{get_member}
use Rattle.rusty_paseto_claims.specs.Error.{malformed_date}
use Rattle.rusty_paseto_claims.specs.Moment.{IsMomentText}
use Rattle.rusty_paseto.specs.Moment.{FitsDefault, HasText, hour_later}
use Rattle.rusty_paseto_generic.specs.Error.{IsClaimFault, IsMemory}
use Rattle.rusty_paseto_generic.specs.declared.error.GenericBuilderError.{GenericBuilderError}
use Rattle.rusty_paseto_generic.specs.declared.error.GenericBuilderError.TheVariants.{DuplicateTopLevelPayloadClaim}

pub record Counting : Type 0 where
  -- whether the key was set
  pub is_counted : List ℕ → Bool
  -- the last key that was set again
  pub repeated : Option (List ℕ)

-- they say the same of every key
pub record IsSame (one other : Counting) : Type 0 where
  pub is_counted : (key : List ℕ) → other.is_counted key ≡ one.is_counted key
  pub repeated : other.repeated ≡ one.repeated

-- no key was set
abbrev pub nothing_counted : Counting
nothing_counted = record { is_counted = λ key. false; repeated = None }

-- a key is counted, and does not become the repeated one
abbrev pub acknowledged : List ℕ → Counting → Counting
acknowledged key old = record old { is_counted = λ other. if bytes_eq key other then true else old.is_counted other }

-- a key is set: it is counted, and becomes the repeated key where it was counted before
abbrev pub counted : List ℕ → Counting → Counting
counted key old = record (acknowledged key old) { repeated = if old.is_counted key then Some key else old.repeated }

-- ---- for private clauses

-- a key is counted no more
abbrev pub not_counted : List ℕ → Counting → Counting
not_counted key old = record old { is_counted = λ other. if bytes_eq key other then false else old.is_counted other }

-- ---- the claims

abbrev pub expiration_key : List ℕ
expiration_key = codes "exp"

-- the claims of a default builder at a moment: it expires an hour later, and is issued and usable at the moment
pub record IsDefaultClaims (now : Timestamp) (claims : Members) : Type 0 where
  pub end : List ℕ
  pub begin : List ℕ
  pub is_end : IsMomentText (hour_later now) end
  pub is_begin : IsMomentText now.nanosecond begin
  pub is : claims
      ≡ member expiration_key (string end) (member (codes "iat") (string begin) (member (codes "nbf") (string begin) no_members))

-- what is built never expires: the expiration's key is counted, and no claim stands under it, unless a key was set
-- again, for which nothing is built
pub record NeverExpires (claims : Members) (keys : Counting) : Type 0 where
  pub is_counted : keys.is_counted expiration_key ≡ true
  pub has_none : keys.repeated ≡ None → get_member expiration_key claims ≡ None

-- the error says that the key was set again
abbrev pub IsDuplicate : Option (List ℕ) → GenericBuilderError → Type 0
IsDuplicate repeated (DuplicateTopLevelPayloadClaim key) = repeated ≡ Some (string_bytes key)
IsDuplicate repeated _ = ⊥

-- nothing is built where a key was set again: the last such key is answered, or memory was refused
pub record IsRefusedRepeat (repeated : Option (List ℕ)) (result : Result (String Global) GenericBuilderError) : Type 0 where
  pub ok : OnOk result (repeated ≡ None)
  pub err : IsSome repeated → IfErr result (λ error. IsMemory error ⊎ IsDuplicate repeated error)

-- the error names a moment by its text
pub record IsMomentFault (now : Timestamp) (error : GenericBuilderError) : Type 0 where
  pub text : List ℕ
  pub is_text : IsMomentText now.nanosecond text
  pub fault : IsClaimFault (malformed_date text) error

-- the error says that no default builder begins at the moment, and has its text
pub record IsUnfitMoment (now : Timestamp) (error : GenericBuilderError) : Type 0 where
  pub fits_not : ¬ FitsDefault now
  pub fault : IsMomentFault now error

-- the claims get an expiration at the end, and stay what they were beside it
pub record GetsEnd (end : ℤ) (old new : Members) : Type 0 where
  pub has_text : HasText end
  pub text : List ℕ
  pub is_text : IsMomentText end text
  pub is : new ≡ put expiration_key (string text) old

-- the error says that no token ends there which begins at the moment, and has the moment's text
pub record IsUnfitEnd (now : Timestamp) (end : ℤ) (error : GenericBuilderError) : Type 0 where
  pub has_none : ¬ HasText end
  pub fault : IsMomentFault now error
