-- Where a text opens as a key, nothing is refused but memory.
use Rattle.std.proofs.Common.{◌≡◌, ◌∙◌, ◌⊎◌, inl, inr, ℕ, List, Option, Some, None, IsSomeAnd, Result, Ok, Err, MatchResult, IfErr, option_map, Bor, sym, ap, subst}
use Rattle.paseto_wrapping.specs.declared.header.WrappedType.{WrappedType}
use Rattle.paseto_wrapping.specs.declared.header.WrappedType.TheVariants.{LocalWrap, SecretWrap, LocalPassword, SecretPassword, Seal}
use Rattle.rusty_paseto_paserk.specs.declared.header.PaserkVersion.{PaserkVersion}
use Rattle.rusty_paseto_paserk.specs.declared.header.PaserkVersion.TheVariants.{V1, V2, V3, V4}
use Rattle.rusty_paseto_paserk.specs.declared.header.PaserkType.TheVariants.{Local, Secret}
use Rattle.rusty_paseto_paserk.specs.Text.{writing}
use Rattle.paseto_key_files.specs.Held.{HoldsKey}
use Rattle.paseto_key_files.specs.Line.{IsLocalKey, IsPrivateKey, private_line, without_line_end}
use Rattle.paseto_key_files.specs.Opening.{ByKey, InForm, OpensAs, OpensLine, Pies, Seals, UnderPassword, Unlocks, Unseals}
use Rattle.paseto_key_files.specs.declared.openers.Openers.{Openers}
use Rattle.paseto_key_files.specs.Error.{IsMemory}
use Rattle.paseto_key_files.specs.declared.error.KeyFileError.{KeyFileError}
use Rattle.paseto_keys.specs.AnyKey.{KeyParts}
use Rattle.paseto_keys.specs.WrittenLine.{HasNoLine}
use Rattle.paseto_calls.specs.Refusal.{file_refusal}
use Rattle.paseto_calls.proofs.KeyExits.{memory_of_file}
use Rattle.paseto_keys.specs.Unlock.{UnlocksKey}
use Rattle.paseto_calls.specs.HeldKey.{Fits, IsHeld}
use Rattle.paseto_calls.specs.KeyCalls.{IsLineOf, IsOpenedBy, IsPassword, OpensNothing}
use Rattle.paseto_calls.specs.declared.held_key.HeldKey.{HeldKey}
use Rattle.paseto_calls.specs.declared.refusal.Refusal.{Refusal}
use Rattle.paseto_calls.specs.declared.refusal.Refusal.TheVariants.{InvalidKey, Memory}
use Rattle.paseto_calls.proofs.KeyWhole.{has_line, one_line}

-- ---- what opens a text, by what it says

abbrev pub said : Option (Bor (List ℕ)) → Option (List ℕ)
said given = option_map (λ (bytes : Bor (List ℕ)). bytes.now) given

said_and : (one two : Option (Bor (List ℕ))) (P : List ℕ → Type 0) → said one ≡ said two → IsSomeAnd one (λ bytes. P bytes.now)
    → IsSomeAnd two (λ bytes. P bytes.now)
said_and None two P same is = absurd is
said_and (Some a) None P same is = absurd (cc same)
said_and (Some a) (Some b) P same is = let e : a.now ≡ b.now = cc same in subst P e is

module _ (one two : Openers) (password : said one.password ≡ said two.password) (key : said one.key ≡ said two.key) where
  unseals_same : (version : PaserkVersion) (text line : List ℕ) → Unseals version one text line → Unseals version two text line
  unseals_same V1 text line is = absurd is
  unseals_same V2 text line is = said_and one.key two.key
      (λ opener. HoldsKey IsLocalKey (writing V2 Local) (ByKey V2 Secret (IsPrivateKey V2) (Seals V2) opener) text line) key is
  unseals_same V3 text line is = said_and one.key two.key
      (λ opener. HoldsKey IsLocalKey (writing V3 Local) (ByKey V3 Secret (IsPrivateKey V3) (Seals V3) opener) text line) key is
  unseals_same V4 text line is = said_and one.key two.key
      (λ opener. HoldsKey IsLocalKey (writing V4 Local) (ByKey V4 Secret (IsPrivateKey V4) (Seals V4) opener) text line) key is

  opens_same : (version : PaserkVersion) (kind : WrappedType) (text line : List ℕ) → OpensAs version kind one text line → OpensAs version kind two text line
  opens_same version LocalPassword text line is = said_and one.password two.password
      (λ given. HoldsKey IsLocalKey (writing version Local) (UnderPassword version LocalPassword given) text line) password is
  opens_same version SecretPassword text line is = said_and one.password two.password
      (λ given. HoldsKey (IsPrivateKey version) (private_line version) (InForm version (UnderPassword version SecretPassword given)) text line) password is
  opens_same version LocalWrap text line is = said_and one.key two.key
      (λ opener. HoldsKey IsLocalKey (writing version Local) (ByKey version Local IsLocalKey (Pies version LocalWrap) opener) text line) key is
  opens_same version SecretWrap text line is = said_and one.key two.key
      (λ opener. HoldsKey (IsPrivateKey version) (private_line version)
      (ByKey version Local IsLocalKey (λ (wk : List ℕ). InForm version (Pies version SecretWrap wk)) opener) text line) key is
  opens_same version Seal text line is = unseals_same version text line is

  line_same : (text line : List ℕ) → OpensLine one text line → OpensLine two text line
  line_same text line (inl opens) = inl (opens.0, opens.1, opens.2, opens_same opens.0 opens.1 text line opens.3)
  line_same text line (inr plain) = inr plain

  unlocks_line : (text line : List ℕ) → Unlocks one text line → Unlocks two text line
  unlocks_line text line (inl pem) = inl pem
  unlocks_line text line (inr other) = inr (other.0, line_same (without_line_end text) line other.1)

  -- the text opens as the same key
  pub unlocks_same : (text : List ℕ) (held : KeyParts) → UnlocksKey one text held → UnlocksKey two text held
  unlocks_same text held is = (is.0, unlocks_line text is.0 is.1, is.2)

said_some : (given : Option (Bor (List ℕ))) (bytes : List ℕ) → IsSomeAnd given (λ b. b.now ≡ bytes) → said given ≡ Some bytes
said_some None bytes is = absurd is
said_some (Some b) bytes is = ap Some is

-- a text that nothing opens, or a password, is the text of the same key to each opener that is so
pub plain_same : (one two : Openers) (text : List ℕ) (key : KeyParts) → OpensNothing one → OpensNothing two → UnlocksKey one text key → UnlocksKey two text key
plain_same one two text key a b is =
    unlocks_same one two (ap said (a.no_password ∙ sym b.no_password)) (ap said (a.no_key ∙ sym b.no_key)) text key is

pub password_same : (password : List ℕ) (one two : Openers) (text : List ℕ) (key : KeyParts) → IsPassword password one → IsPassword password two
    → UnlocksKey one text key → UnlocksKey two text key
password_same password one two text key a b is =
    unlocks_same one two (said_some one.password password a.is_password ∙ sym (said_some two.password password b.is_password))
    (ap said (a.no_key ∙ sym b.no_key)) text key is

lines_same : (opener : KeyParts) (one two : Option (Bor (List ℕ))) → IsSomeAnd one (λ line. IsLineOf opener line.now)
    → IsSomeAnd two (λ line. IsLineOf opener line.now) → said one ≡ said two
lines_same opener None two a b = absurd a
lines_same opener (Some one) None a b = absurd b
lines_same opener (Some one) (Some two) a b = ap Some (one_line opener.kind opener.version opener.bytes one.now two.now a b)

pub opener_same : (opener : KeyParts) (one two : Openers) (text : List ℕ) (key : KeyParts) → IsOpenedBy opener one → IsOpenedBy opener two
    → UnlocksKey one text key → UnlocksKey two text key
opener_same opener one two text key a b is =
    unlocks_same one two (ap said (a.no_password ∙ sym b.no_password)) (lines_same opener one.key two.key a.is_key b.is_key) text key is

lined_not : (opener : KeyParts) (given : Option (Bor (List ℕ))) (error : KeyFileError) → IsSomeAnd given (λ line. IsLineOf opener line.now)
    → HasNoLine opener.kind opener.version opener.bytes error → ⊥
lined_not opener None error is none = absurd is
lined_not opener (Some line) error is none = has_line opener.kind opener.version opener.bytes line.now error is none

-- a key that fits is held
pub fits_held : (key : KeyParts) (result : Result HeldKey Refusal)
    → MatchResult result (λ held. Fits key × IsHeld key held) (λ refusal. (refusal ≡ InvalidKey) × ¬ Fits key) → Fits key
    → IfErr result (λ refusal. refusal ≡ Memory)
fits_held key (Ok held) found fits = tt
fits_held key (Err refusal) none fits = absurd (none.1 fits)

-- a key that opens has a line
pub line_only : (opener : KeyParts) (error : KeyFileError) (openers : Openers) → IsOpenedBy opener openers
    → IsMemory error ⊎ HasNoLine opener.kind opener.version opener.bytes error → file_refusal error ≡ Memory
line_only opener error openers opens (inl memory) = memory_of_file error memory
line_only opener error openers opens (inr none) = absurd (lined_not opener openers.key error opens.is_key none)
