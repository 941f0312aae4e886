-- Claims of tokens that C admits by a ring of keys: the token's footer names the key.
use Rattle.std.specs.Prelude.{◌≡◌, ◌⊎◌, ℕ, ℤ, true, false, List, [], ◌∷◌, map, Option, None, is_some, Ok, Err, String}
use Rattle.std.specs.Global.{Global}
use Rattle.jiff.specs.Types.{Timestamp}
use Rattle.serde_json.specs.Data.{Items, Members}
use Rattle.serde_json.specs.View.{view}
use Rattle.serde_json.specs.Written.{compact_text, has_float}
use Rattle.serde_json.specs.declared.value.Value.{Value}
use Rattle.rusty_paseto_parts.specs.Limit.{has_long_footer}
use Rattle.rusty_paseto_parts.specs.Section.{sections}
use Rattle.rusty_paseto_parts.specs.declared.error.PasetoError.TheVariants as Token
use Rattle.rusty_paseto_core.specs.Context.{assertion_of, footer_of}
use Rattle.rusty_paseto_generic.specs.Parsers.Rules.{AreSame}
use Rattle.rusty_paseto_generic.specs.declared.error.GenericParserError.TheVariants.{CipherError}
use Rattle.rusty_paseto_paserk.specs.declared.header.PaserkType.{PaserkType}
use Rattle.rusty_paseto_paserk.specs.declared.header.PaserkType.TheVariants.{Local, Secret, Public}
use Rattle.rusty_paseto_paserk.specs.declared.header.PaserkVersion.{PaserkVersion}
use Rattle.rusty_paseto_paserk.specs.declared.header.PaserkVersion.TheVariants.{V1, V2, V3, V4}
use Rattle.paseto_keys.specs.Ring.{IsAdmittedByRing, Wanted}
use Rattle.paseto_keys.specs.declared.any_key.AnyKey.{AnyKey}
use Rattle.paseto_keys.specs.declared.any_key.AnyKey.TheVariants.{V1Local, V2Local, V3Local, V4Local, V1Secret, V2Secret, V3Secret, V4Secret, V1Public, V2Public, V3Public, V4Public}
use Rattle.paseto_keys.specs.declared.ring_error.RingError.{RingError}
use Rattle.paseto_keys.specs.declared.ring_error.RingError.TheVariants as Ring
use Rattle.paseto_calls.specs.Admit.{Demands, IsExpected, IsExpectingFault, demanded, options_fault}
use Rattle.paseto_calls.specs.Arguments.{has_bytes}
use Rattle.paseto_calls.specs.Fault.{fault_line, refusal_of}
use Rattle.paseto_calls.specs.HeldKey.{bytes_in, first_of, key_fault, type_by, version_by}
use Rattle.paseto_calls.specs.Parse.{expected_rules}
use Rattle.paseto_calls.specs.Refusal.{ring_refusal}
use Rattle.paseto_calls.specs.Request.{Request}
use Rattle.paseto_calls.specs.declared.admit.options.AdmitOptions.{AdmitOptions}
use Rattle.paseto_calls.specs.declared.fault.Fault.{Fault}
use Rattle.paseto_calls.specs.declared.fault.Fault.TheVariants.{Refused, Unparsed}
use Rattle.paseto_calls.specs.declared.held_key.HeldKey.{HeldKey}
use Rattle.paseto_calls.specs.declared.refusal.Refusal.{Refusal}
use Rattle.paseto_calls.specs.declared.refusal.Refusal.TheVariants.{Memory, NoAssertion}
use Rattle.paseto_calls.specs.declared.wanted.Wanted.TheVariants.{AllKeys}

-- ---- the keys

-- the key of a type and a version with these bytes
abbrev pub any_key : PaserkType → PaserkVersion → List ℕ → AnyKey
any_key Local V1 bytes = V1Local bytes
any_key Local V2 bytes = V2Local bytes
any_key Local V3 bytes = V3Local bytes
any_key Local V4 bytes = V4Local bytes
any_key Secret V1 bytes = V1Secret bytes
any_key Secret V2 bytes = V2Secret bytes
any_key Secret V3 bytes = V3Secret bytes
any_key Secret V4 bytes = V4Secret bytes
any_key Public V1 bytes = V1Public bytes
any_key Public V2 bytes = V2Public bytes
any_key Public V3 bytes = V3Public bytes
any_key Public V4 bytes = V4Public bytes

-- the key that C holds
abbrev pub key_in : HeldKey → AnyKey
key_in key = any_key (type_by key.kind) (version_by key.version) (bytes_in key)

-- the first of the keys that is none
abbrev pub keys_fault : List HeldKey → Option Refusal
keys_fault [] = None
keys_fault (key ∷ keys) = first_of (key_fault AllKeys key) (keys_fault keys)

-- ---- what is answered

-- the fault for an error of a ring
abbrev pub ring_fault : RingError → Fault
ring_fault Ring.NoAssertion = Refused NoAssertion
ring_fault (Ring.Ring error) = Refused (ring_refusal error)
ring_fault (Ring.Parser error) = Unparsed error
ring_fault (Ring.Memory source) = Refused Memory

-- what is asked of a token: the texts, and rules that check what is expected at the moment
pub record IsAsked (expected : List ℕ) (now : ℤ) (demands : Demands) (footer assertion : List ℕ) (wanted : Wanted) : Type 0 where
  pub members : Members
  pub names : Items
  pub moment : Timestamp
  pub is_expected : IsExpected expected now demands members names moment
  pub rules : AreSame wanted.rules (expected_rules members names moment demands.leeway)
  pub longest : wanted.longest ≡ demands.longest
  pub footer_is : footer_of wanted.footer ≡ footer
  pub has_footer : is_some wanted.footer ≡ has_bytes footer
  pub assertion_is : assertion_of wanted.assertion ≡ assertion
  pub has_assertion : is_some wanted.assertion ≡ has_bytes assertion

-- the text is the compact JSON of a value that the ring admits: no such value has a number that is not a whole one
pub record IsAdmittedBy (keys : List AnyKey) (token expected : List ℕ) (now : ℤ) (demands : Demands) (footer assertion text : List ℕ) : Type 0 where
  pub wanted : Wanted
  pub asked : IsAsked expected now demands footer assertion wanted
  pub short : has_long_footer demands.longest_footer (sections token) ≡ false
  pub id : String Global
  pub value : Value
  pub admitted : IsAdmittedByRing keys wanted token (Ok (id, value))
  pub is_text : has_float (view value) ≡ false → text ≡ compact_text (view value)

-- the footer is too long, or else the ring admits no value, and this is the refusal for its error, and the line
pub record IsRefusedBy (keys : List AnyKey) (token expected : List ℕ) (now : ℤ) (demands : Demands) (footer assertion : List ℕ)
    (refusal : Refusal) (line : List ℕ) : Type 0 where
  pub wanted : Wanted
  pub asked : IsAsked expected now demands footer assertion wanted
  pub fault : Fault
  pub is_fault : ((has_long_footer demands.longest_footer (sections token) ≡ true) × (fault ≡ Unparsed (CipherError Token.TooLong)))
      ⊎ ((has_long_footer demands.longest_footer (sections token) ≡ false)
      × ((error : RingError) × IsAdmittedByRing keys wanted token (Err error) × (fault ≡ ring_fault error)))
  pub is_refusal : refusal ≡ refusal_of fault
  pub is_line : line ≡ fault_line fault

-- a token is admitted by a ring
abbrev pub admitting_by : List HeldKey → List ℕ → List ℕ → ℤ → List ℕ → List ℕ → AdmitOptions → Request (List ℕ)
admitting_by keys token expected now footer assertion options = record {
  fault = first_of (keys_fault keys) (options_fault options);
  texts = expected ∷ options.required.now ∷ token ∷ footer ∷ assertion ∷ [];
  Makes = IsAdmittedBy (map key_in keys) token expected now (demanded options) footer assertion;
  Refuses = IsExpectingFault expected now (demanded options);
  Tells = IsRefusedBy (map key_in keys) token expected now (demanded options) footer assertion;
}
