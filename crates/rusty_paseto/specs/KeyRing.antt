-- Rings of keys, and what they answer for a token, whose footer names the key.
use Rattle.std.specs.Prelude.{◌≡◌, ◌⊎◌, ⊤, ℕ, Bool, true, false, ◌||◌, List, length, if◌then◌else◌, Option, Some, None, bytes_eq, codes, IsSome, Result, Ok, Err, IfOk, IfErr, MatchResult, String, string_bytes}
use Rattle.std.specs.Global.{Global}
use Rattle.std.specs.List.{slice_get}
use Rattle.serde_json.specs.Data.{Data, member, no_members, object, string}
use Rattle.serde_json.specs.Find.{as_object, get}
use Rattle.serde_json.specs.Read.{read}
use Rattle.serde_json.specs.View.{view}
use Rattle.serde_json.specs.Written.{compact_text}
use Rattle.serde_json.specs.declared.value.Value.{Value}
use Rattle.rusty_paseto_core.specs.Reading.{IsFault, IsRead, Reading}
use Rattle.rusty_paseto_parts.specs.Footer.{footer_text}
use Rattle.rusty_paseto_parts.specs.declared.texts.footer.Footer.{Footer}
use Rattle.rusty_paseto_parts.specs.Error.{IsMemory as IsMemoryOfCipher}
use Rattle.rusty_paseto_parts.specs.Limit.{has_long_footer, is_beyond}
use Rattle.rusty_paseto_parts.specs.Section.{HasCount, sections}
use Rattle.rusty_paseto_parts.specs.UntrustedToken.{HasFooterText, IsTokenFooterFault}
use Rattle.rusty_paseto_parts.specs.declared.error.PasetoError.{PasetoError}
use Rattle.rusty_paseto_parts.specs.declared.error.PasetoError.TheVariants as Cipher
use Rattle.rusty_paseto.specs.declared.error.KeyRingError.{KeyRingError}
use Rattle.rusty_paseto.specs.declared.key_ring.limits.Limits.{Limits}
use Rattle.rusty_paseto_generic.specs.Parsers.Parsing.{IsTextAnswer, IsTextFault, IsValueOf}
use Rattle.rusty_paseto_generic.specs.Parsers.Rules.{Rules}
use Rattle.rusty_paseto_generic.specs.Validator.{Verdict}
use Rattle.rusty_paseto_generic.specs.declared.error.GenericParserError.{GenericParserError}
use Rattle.rusty_paseto_generic.specs.declared.error.GenericParserError.TheVariants as Generic
use Rattle.rusty_paseto.specs.declared.error.KeyRingParserError.{KeyRingParserError}
use Rattle.rusty_paseto.specs.declared.error.KeyRingParserError.TheVariants.{Ring, Parser, Memory as NoMemory}
use Rattle.rusty_paseto.specs.declared.error.KeyRingError.TheVariants.{Untrusted, NoFooter, NotAnObject, NoKeyId, UnknownKey, Token, Memory}

-- ---- the keys

-- the key of each id, where it has one
abbrev pub Keys : Type 0 → Type 0
Keys K = List ℕ → Option K

-- each id has the same key
abbrev pub AreSame : {K : Type 0} → Keys K → Keys K → Type 0
AreSame keys others = (id : List ℕ) → keys id ≡ others id

-- the id has the key, and every other id has what it had
abbrev pub with_key : {K : Type 0} → List ℕ → K → Keys K → Keys K
with_key id key old other = if bytes_eq id other then Some key else old other

-- the id has no key, and every other id has what it had
abbrev pub without_key : {K : Type 0} → List ℕ → Keys K → Keys K
without_key id old other = if bytes_eq id other then None else old other

-- ---- the footer

-- the token has three or four sections, and its footer is this text, or it has none
pub record HasFooter (token : List ℕ) (footer : Option (List ℕ)) : Type 0 where
  pub count : HasCount (sections token)
  pub text : HasFooterText (slice_get (sections token) 3) footer

-- the footer is the JSON of this object
pub record IsObject (footer : List ℕ) (value : Data) : Type 0 where
  pub is_json : read footer ≡ Some value
  pub is_object : IsSome (as_object value)

-- the object has the text under `kid`
abbrev pub HasId : Data → List ℕ → Type 0
HasId value id = get (codes "kid") value ≡ Some (string id)

-- the footer that names a key: the compact JSON of an object with the id under `kid`
abbrev pub kid_footer : List ℕ → List ℕ
kid_footer id = compact_text (object (member (codes "kid") (string id) no_members))

-- the footer names the id
pub record Names (footer id : List ℕ) : Type 0 where
  pub value : Data
  pub object : IsObject footer value
  pub has : HasId value id

-- the error is the first reason why the footer names no id: it is no object, or the object has no such text
abbrev pub IsNamingFault : List ℕ → KeyRingError → Type 0
IsNamingFault footer NotAnObject = (value : Data) → ¬ IsObject footer value
IsNamingFault footer NoKeyId = (value : Data) × IsObject footer value × ((id : List ℕ) → ¬ HasId value id)
IsNamingFault footer _ = ⊥

-- the error is the first reason why the footer names no key of these: it names no id, or one that has none
abbrev pub IsKeyFault : {K : Type 0} → Keys K → List ℕ → KeyRingError → Type 0
IsKeyFault keys footer (UnknownKey id) = Names footer (string_bytes id) × (keys (string_bytes id) ≡ None)
IsKeyFault keys footer error = IsNamingFault footer error

-- the footer under which a token is read: the one that is expected, where one is, and else its own
abbrev pub read_under : Option Footer → List ℕ → List ℕ
read_under (Some expected) own = footer_text expected
read_under None own = own

-- ---- the token

-- how a token is read under a key and a footer
abbrev pub Readings : Type 1
Readings = List ℕ → List ℕ → Reading

-- the token's footer, which is this text, names the id, whose key in the ring is this
pub record IsFound {K : Type 0} (keys : Keys K) (token footer id : List ℕ) (key : K) : Type 0 where
  pub has : HasFooter token (Some footer)
  pub names : Names footer id
  pub has_key : keys id ≡ Some key

-- the error is the first reason why no key is found: the footer is not read, there is none, or it names no key
abbrev pub IsFindingFault : {K : Type 0} → Keys K → List ℕ → KeyRingError → Type 0
IsFindingFault keys token (Untrusted source) = (¬ IsMemoryOfCipher source) × IsTokenFooterFault (sections token) source
IsFindingFault keys token NoFooter = HasFooter token None
IsFindingFault keys token error = (footer : List ℕ) × HasFooter token (Some footer) × IsKeyFault keys footer error

-- the key that is found reads the token as the text, under the footer as it stands
pub record IsOpened (keys : Keys (List ℕ)) (reading : Readings) (token id text : List ℕ) : Type 0 where
  pub footer : List ℕ
  pub key : List ℕ
  pub found : IsFound keys token footer id key
  pub is_read : IsRead (reading key footer) token text

-- the error is the first fault: one of finding the key, or else one of reading the token under it
abbrev pub IsFirstFault : Keys (List ℕ) → Readings → List ℕ → KeyRingError → Type 0
IsFirstFault keys reading token (Token source) = (footer : List ℕ) × (id : List ℕ) × (key : List ℕ)
    × IsFound keys token footer id key × (¬ IsMemoryOfCipher source) × IsFault (reading key footer) token source
IsFirstFault keys reading token error = IsFindingFault keys token error

-- memory was refused
abbrev pub IsMemory : KeyRingError → Type 0
IsMemory (Memory _) = ⊤
IsMemory _ = ⊥

-- the answer is this id and this text
abbrev pub IsPair : List ℕ → List ℕ → String Global × String Global → Type 0
IsPair id text found = (string_bytes found.0 ≡ id) × (string_bytes found.1 ≡ text)

-- the answer for a token: an id and a text as which it is opened, these wherever there are such unless memory is
-- refused, and else the first fault; a wrong number of sections whatever memory there is
pub record IsRingAnswer (keys : Keys (List ℕ)) (reading : Readings) (token : List ℕ) (result : Result (String Global × String Global) KeyRingError) : Type 0 where
  pub opened : IfOk result (λ found. IsOpened keys reading token (string_bytes found.0) (string_bytes found.1))
  pub complete : (id text : List ℕ) → IsOpened keys reading token id text → MatchResult result (IsPair id text) IsMemory
  pub count : ¬ HasCount (sections token) → result ≡ Err (Untrusted Cipher.IncorrectSize)
  pub fault : IfErr result (λ error. IsMemory error ⊎ IsFirstFault keys reading token error)

-- ---- limits

-- of neither the token nor its footer
abbrev pub no_limits : Limits
no_limits = record { token = None; footer = None }

-- the token has more bytes than a parser's limit, or than the ring's, or its footer has more than the ring's limit of footers
abbrev pub is_too_long : Option ℕ → Limits → List ℕ → Bool
is_too_long longest limits token =
    is_beyond longest (length token) || (is_beyond limits.token (length token) || has_long_footer limits.footer (sections token))

-- the answer of a ring with limits: that a token beyond them is too long, whatever memory there is, and else that for the token
pub record IsRingAnswerWithin (longest : Option ℕ) (limits : Limits) (keys : Keys (List ℕ)) (reading : Readings) (token : List ℕ)
    (result : Result (String Global × String Global) KeyRingError) : Type 0 where
  pub long : is_too_long longest limits token ≡ true → result ≡ Err (Untrusted Cipher.TooLong)
  pub answer : is_too_long longest limits token ≡ false → IsRingAnswer keys reading token result

-- ---- the claims

-- the token opens as a text, and that is read as the value, which passes what is checked under every key
pub record IsParsed (keys : Keys (List ℕ)) (reading : Readings) (rules : Rules Verdict) (token id : List ℕ) (value : Data) : Type 0 where
  pub text : List ℕ
  pub is_opened : IsOpened keys reading token id text
  pub is_value : IsValueOf rules text value

-- the error is the first fault: one of opening the token, or else of the text as which it opens
abbrev pub IsFirstParsingFault : Keys (List ℕ) → Readings → Rules Verdict → List ℕ → KeyRingParserError → Type 0
IsFirstParsingFault keys reading rules token (Ring source) = IsFirstFault keys reading token source
IsFirstParsingFault keys reading rules token (Parser source) =
    (id : List ℕ) × (text : List ℕ) × IsOpened keys reading token id text × IsTextFault rules text source
IsFirstParsingFault keys reading rules token (NoMemory _) = ⊥

-- memory was refused
abbrev pub IsNoMemory : KeyRingParserError → Type 0
IsNoMemory (NoMemory _) = ⊤
IsNoMemory _ = ⊥

-- the answer is this id and this value
abbrev pub IsIdAndValue : List ℕ → Data → String Global × Value → Type 0
IsIdAndValue id value found = (string_bytes found.0 ≡ id) × (view found.1 ≡ value)

-- the answer for a token: an id and the value as which it is parsed, these wherever there are such unless memory is
-- refused, and else the first fault; a wrong number of sections whatever memory there is
pub record IsParsingAnswer (keys : Keys (List ℕ)) (reading : Readings) (rules : Rules Verdict) (token : List ℕ)
    (result : Result (String Global × Value) KeyRingParserError) : Type 0 where
  pub parsed : IfOk result (λ found. IsParsed keys reading rules token (string_bytes found.0) (view found.1))
  pub complete : (id : List ℕ) (value : Data) → IsParsed keys reading rules token id value
      → MatchResult result (IsIdAndValue id value) IsNoMemory
  pub count : ¬ HasCount (sections token) → result ≡ Err (Ring (Untrusted Cipher.IncorrectSize))
  pub fault : IfErr result (λ error. IsNoMemory error ⊎ IsFirstParsingFault keys reading rules token error)

-- the answer of a ring and a parser with limits: that a token beyond them is too long, whatever memory there is, and else that
-- for the token
pub record IsParsingAnswerWithin (longest : Option ℕ) (limits : Limits) (keys : Keys (List ℕ)) (reading : Readings) (rules : Rules Verdict)
    (token : List ℕ) (result : Result (String Global × Value) KeyRingParserError) : Type 0 where
  pub long : is_too_long longest limits token ≡ true → result ≡ Err (Ring (Untrusted Cipher.TooLong))
  pub answer : is_too_long longest limits token ≡ false → IsParsingAnswer keys reading rules token result

-- ---- for private clauses

-- the error of a ring as one of parsing: out of memory stays so
abbrev pub of_ring : KeyRingError → KeyRingParserError
of_ring (Memory refused) = NoMemory refused
of_ring error = Ring error

-- the error of a parser as one of parsing by a ring: out of memory stays so
abbrev pub of_parser : GenericParserError → KeyRingParserError
of_parser (Generic.Memory refused) = NoMemory refused
of_parser error = Parser error

-- the answer for what a ring opened: the id and the value of its text, or else the fault of the ring or of the text
abbrev pub IsClaimsAnswer : Rules Verdict → Result (String Global × String Global) KeyRingError
    → Result (String Global × Value) KeyRingParserError → Type 0
IsClaimsAnswer rules (Err error) result = result ≡ Err (of_ring error)
IsClaimsAnswer rules (Ok opened) (Ok found) = (found.0 ≡ opened.0) × IsTextAnswer rules (string_bytes opened.1) (Ok found.1)
IsClaimsAnswer rules (Ok opened) (Err error) =
    (source : GenericParserError) × (error ≡ of_parser source) × IsTextAnswer rules (string_bytes opened.1) (Err source)

-- the error is the first fault of finding the footer: one of reading the token's sections, or no footer
abbrev pub IsUntrustedFault : List ℕ → KeyRingError → Type 0
IsUntrustedFault token (Untrusted source) = (¬ IsMemoryOfCipher source) × IsTokenFooterFault (sections token) source
IsUntrustedFault token NoFooter = HasFooter token None
IsUntrustedFault token _ = ⊥

-- the error for one of the core, which is handed on in this variant: a failed allocation stays one
abbrev pub IsHandedOn : PasetoError → KeyRingError → KeyRingError → Type 0
IsHandedOn source handed error = (IsMemoryOfCipher source × IsMemory error) ⊎ ((¬ IsMemoryOfCipher source) × (error ≡ handed))

-- the answer for what the token was opened as under the id's key
abbrev pub IsOpenedUnder : String Global → Result (String Global) PasetoError → Result (String Global × String Global) KeyRingError → Type 0
IsOpenedUnder id opened result =
    MatchResult opened (λ text. result ≡ Ok (id, text)) (λ source. MatchResult result (λ found. ⊥) (IsHandedOn source (Token source)))
