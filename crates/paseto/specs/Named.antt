-- Keys by their ids.
use Rattle.std.specs.Prelude.{◌≡◌, ◌⊎◌, ⊤, ℕ, Bool, false, List, [], ◌∷◌, MatchBool, Err, Ok, Some, IsUtf8, String, string_bytes}
use Rattle.std.specs.Global.{Global}
use Rattle.rusty_paseto.specs.KeyRing.{HasFooter, IsMemory, IsNamingFault, IsUntrustedFault, Names}
use Rattle.rusty_paseto.specs.declared.error.KeyRingError.{KeyRingError}
use Rattle.rusty_paseto.specs.declared.error.KeyRingError.TheVariants.{UnknownKey}
use Rattle.rusty_paseto_paserk.specs.declared.error.PaserkError.{PaserkError}
use Rattle.paseto_keys.specs.AnyKey.{KeyParts, parts_of}
use Rattle.paseto_keys.specs.Id.{Identifies}
use Rattle.paseto_keys.specs.PublicHalf.{GivesHalf}
use Rattle.paseto_keys.specs.declared.any_key.AnyKey.{AnyKey}
use Rattle.paseto_tasks.specs.Input.{token_of_input}
use Rattle.paseto.specs.declared.commands.check.Keys.{Keys}
use Rattle.paseto.specs.declared.commands.check.Keys.TheVariants.{One, Ring}

-- the id is that of the key
abbrev pub IsIdOf : KeyParts → List ℕ → Type 0
IsIdOf key id = (text : String Global) × (string_bytes text ≡ id) × Identifies key (Ok text)

-- the id is that of the public half of the key
abbrev pub IsIdOfHalf : KeyParts → List ℕ → Type 0
IsIdOfHalf key id = (half : AnyKey) × GivesHalf key (Ok half) × IsIdOf (parts_of half) id

-- the key has no public half, or its half no id, for this reason
abbrev pub IsWithoutHalfId : KeyParts → PaserkError → Type 0
IsWithoutHalfId key error = GivesHalf key (Err error)
    ⊎ ((half : AnyKey) × GivesHalf key (Ok half) × Identifies (parts_of half) (Err error))

-- none of the keys has the id
abbrev pub AreWithout : List ℕ → List AnyKey → Type 0
AreWithout id [] = ⊤
AreWithout id (key ∷ keys) = (¬ IsIdOf (parts_of key) id) × AreWithout id keys

-- the key is the first that has it
abbrev pub IsFirstWith : List ℕ → List AnyKey → AnyKey → Type 0
IsFirstWith id [] found = ⊥
IsFirstWith id (key ∷ keys) found = (IsIdOf (parts_of key) id × (found ≡ key)) ⊎ ((¬ IsIdOf (parts_of key) id) × IsFirstWith id keys found)

-- the token has this footer, which names the id
pub record TokenNames (token footer id : List ℕ) : Type 0 where
  pub has : HasFooter token (Some footer)
  pub names : Names footer id

-- the token's footer names an id that none of the keys has
pub record NamesUnknown (keys : List AnyKey) (token id : List ℕ) : Type 0 where
  pub footer : List ℕ
  pub is_named : TokenNames token footer id
  pub without : AreWithout id keys

-- why the footer names none of the keys
abbrev pub NamesNone : List AnyKey → List ℕ → KeyRingError → Type 0
NamesNone keys token (UnknownKey id) = NamesUnknown keys token (string_bytes id)
NamesNone keys token error =
    IsMemory error ⊎ (IsUntrustedFault token error ⊎ ((footer : List ℕ) × HasFooter token (Some footer) × IsNamingFault footer error))

-- the error says that the key is unknown
abbrev pub SaysUnknown : KeyRingError → Type 0
SaysUnknown (UnknownKey _) = ⊤
SaysUnknown _ = ⊥

-- the same, or that memory was refused
abbrev pub IsNoUnknown : KeyRingError → Type 0
IsNoUnknown (UnknownKey _) = ⊤
IsNoUnknown error = IsMemory error

-- the input is a token whose footer names a key that is none of these
pub record IsUnknown (keys : List AnyKey) (input : List ℕ) : Type 0 where
  pub is_text : IsUtf8 input
  pub id : List ℕ
  pub names : NamesUnknown keys (token_of_input input) id

-- the same of the keys that check a token, if they are those of a ring; one key needs no name
abbrev pub AsksUnknown : Keys → List ℕ → Bool → Type 0
AsksUnknown (One key) input unknown = unknown ≡ false
AsksUnknown (Ring keys) input unknown = MatchBool unknown (IsUnknown keys.items input) (¬ IsUnknown keys.items input)
