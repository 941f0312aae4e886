-- The command `issue`.
use Rattle.std.specs.Prelude.{◌≡◌, ◌≢◌, ◌⊎◌, ℕ, List, [], true, false, length, Option, None, Some, codes, is_some, option_map, string_bytes, unwrap_or}
use Rattle.jiff.specs.Types.{Timestamp}
use Rattle.serde_json.specs.Data.{Members}
use Rattle.rusty_paseto_core.specs.Context.{assertion_of}
use Rattle.rusty_paseto_core.specs.declared.PasetoError.{PasetoError}
use Rattle.rusty_paseto_generic.specs.Builders.Claims.{payload}
use Rattle.rusty_paseto_parts.specs.declared.texts.implicit_assertion.ImplicitAssertion.{ImplicitAssertion}
use Rattle.rusty_paseto.specs.PasetoBuilder.{Counting, IsDefaultClaims, nothing_counted}
use Rattle.paseto_keys.specs.AnyKey.{KeyParts, takes_assertion, writes_tokens}
use Rattle.paseto_keys.specs.Writing.{Writing, drawn_length, writing_by}
use Rattle.paseto_tasks.specs.declared.arguments.Options.{Options}
use Rattle.paseto.specs.declared.commands.issue.Order.{Order}
use Rattle.paseto.specs.Answers.{one_line, repeated_text}
use Rattle.paseto.specs.Claims.{AreClaims, AreSet, Named, all_counted, all_named}
use Rattle.paseto.specs.Footers.{IsFooter}
use Rattle.rusty_paseto.specs.Moment.{FitsDefault}
use Rattle.paseto_tasks.specs.Error.{Blame, IsNoUsage, IsOfWords, IsOutside, Says, nothing}
use Rattle.paseto_tasks.specs.Output.{IsLineOf}
use Rattle.paseto_tasks.specs.declared.error.ProgramError.{ProgramError}
use Rattle.paseto.specs.Times.{BeginsAt, IsTimeSet, SaysTime, time_counted}
use Rattle.paseto_words.specs.Action.{footing, key_file_words, openers_words, text, texts_of}
use Rattle.paseto_words.specs.declared.action.Issue.{Issue}

-- the words of the command with a folder in place of the key file, and the id of a key in place of a footer
pub record IsSignedBy (words : Issue) (path id : List ℕ) (made : Issue) : Type 0 where
  pub key : key_file_words made.key ≡ record { file = Some path; openers = openers_words words.key.openers }
  pub ring : text made.ring ≡ None
  pub claims : texts_of made.claims.items ≡ texts_of words.claims.items
  pub expires : text made.expires ≡ text words.expires
  pub not_before : text made.not_before ≡ text words.not_before
  pub foot : footing made.foot ≡ (None, Some id)
  pub assertion : text made.assertion ≡ text words.assertion
  pub out : text made.out ≡ text words.out

-- what is ordered: a moment, claims, when the token expires and when it may first be used, and its footer and its assertion
-- or none
pub record Ordered : Type 0 where
  pub moment : Timestamp
  pub claims : List Named
  pub expires : Option Timestamp
  pub not_before : Option Timestamp
  pub footer : Option (List ℕ)
  pub assertion : Option ImplicitAssertion

abbrev pub ordered : Order → Ordered
ordered order = record {
  moment = order.moment;
  claims = all_named order.claims.items;
  expires = order.expires;
  not_before = order.not_before;
  footer = option_map string_bytes order.footer;
  assertion = order.assertion;
}

-- what words order at a moment
pub record IsOrder (claims : List (List ℕ)) (options : Options) (now : Timestamp) (order : Ordered) : Type 0 where
  pub moment : order.moment ≡ now
  pub are_claims : AreClaims claims order.claims
  pub expires : SaysTime (option_map (λ word. word.now) options.expires) now order.expires
  pub not_before : BeginsAt (option_map (λ word. word.now) options.not_before) now order.not_before
  pub footer : IsFooter options order.footer
  pub assertion : order.assertion ≡ options.assertion

-- the claims of a default builder with what is ordered
pub record AreOrdered (order : Ordered) (claims : Members) : Type 0 where
  pub begun : Members
  pub named : Members
  pub expiring : Members
  pub is_default : IsDefaultClaims order.moment begun
  pub are_set : AreSet order.claims begun named
  pub expires : IsTimeSet (codes "exp") order.expires named expiring
  pub not_before : IsTimeSet (codes "nbf") order.not_before expiring claims

-- no claims are those of what is ordered
abbrev pub AreNever : Ordered → Type 0
AreNever order = (claims : Members) → ¬ AreOrdered order claims

-- the keys that are set then, and the last of them that is set again
abbrev pub keys_set : Ordered → Counting
keys_set order =
    time_counted (codes "nbf") order.not_before (time_counted (codes "exp") order.expires (all_counted order.claims nothing_counted))

-- no key is set twice
abbrev pub IsOnce : Ordered → Type 0
IsOnce order = (keys_set order).repeated ≡ None

-- how many bytes a key draws for a token
abbrev pub draws : KeyParts → ℕ
draws key = drawn_length key.kind key.version

-- the text is that of the claims of what is ordered, of which none is set twice
pub record IsPayload (order : Ordered) (text : List ℕ) : Type 0 where
  pub claims : Members
  pub are_ordered : AreOrdered order claims
  pub once : IsOnce order
  pub text_is : text ≡ payload claims

-- how a key writes a token of what is ordered, with what is drawn
abbrev pub writing : KeyParts → Ordered → List ℕ → Writing
writing key order drawn = writing_by key drawn (unwrap_or order.footer []) (assertion_of order.assertion)

-- the key writes tokens, and its version has the implicit assertion that is ordered
pub record MayWrite (key : KeyParts) (order : Ordered) : Type 0 where
  pub writes : writes_tokens key.kind ≡ true
  pub bound : takes_assertion key.version ≡ false → is_some order.assertion ≡ false

-- the line is that of a token of what is ordered, which a key writes with what is drawn
pub record Issues (key : KeyParts) (order : Ordered) (IsDrawn : List ℕ → Type 0) (line : List ℕ) : Type 0 where
  pub may : MayWrite key order
  pub text : List ℕ
  pub is_payload : IsPayload order text
  pub drawn : List ℕ
  pub is_drawn : IsDrawn drawn
  pub token : List ℕ
  pub is_token : (writing key order drawn).Writes (is_some order.footer) text token
  pub line_is : IsLineOf token line

-- the line is that of a token of what the words order at a moment
abbrev pub IssuesFor : List (List ℕ) → Options → Timestamp → KeyParts → (List ℕ → Type 0) → List ℕ → Type 0
IssuesFor claims options now key IsDrawn line = (order : Ordered) × IsOrder claims options now order × Issues key order IsDrawn line

-- the key declines what is ordered, with some bytes that are drawn for it
pub record Declines (key : KeyParts) (order : Ordered) : Type 0 where
  pub may : MayWrite key order
  pub text : List ℕ
  pub is_payload : IsPayload order text
  pub drawn : List ℕ
  pub size : length drawn ≡ draws key
  pub error : PasetoError
  pub is_declined : (writing key order drawn).Declines (is_some order.footer) text error

-- what is said where a claim is set twice, beside what stands in the table of errors: the last one that is
abbrev pub IsRepeatedLine : Ordered → List ℕ → Type 0
IsRepeatedLine order line = (name : List ℕ) × ((keys_set order).repeated ≡ Some name) × (line ≡ one_line (repeated_text name))

-- why the claims of what is ordered have no text: they are none, or one is set twice
pub record RefusesPayload (order : Ordered) (error : ProgramError) : Type 0 where
  pub none : (text : List ℕ) → ¬ IsPayload order text
  pub words : IsNoUsage error ⊎ AreNever order
  pub said : Says (IsRepeatedLine order) error
  pub inside : ¬ IsOutside error

-- why what is ordered has no token, whatever bytes are drawn: there is none under the key, or the key declines it, as one
-- whose halves do not belong together
pub record RefusesOrder (key : KeyParts) (order : Ordered) (error : ProgramError) : Type 0 where
  pub none : ((line : List ℕ) → ¬ Issues key order (λ drawn. length drawn ≡ draws key) line) ⊎ Declines key order
  pub words : IsNoUsage error ⊎ AreNever order
  pub said : Says (IsRepeatedLine order) error
  pub inside : ¬ IsOutside error

-- why words have none at a moment: they order nothing, or what they order has none
abbrev pub RefusesIssue : List (List ℕ) → Options → Timestamp → KeyParts → ProgramError → Type 0
RefusesIssue claims options now key error =
    (((order : Ordered) → ¬ IsOrder claims options now order) × IsOfWords error × ¬ IsOutside error)
    ⊎ ((order : Ordered) × IsOrder claims options now order × RefusesOrder key order error)

-- where an error may come while a token is issued: random bytes, which the key takes, and a moment that is none for claims
abbrev pub issuing : KeyParts → Type 0 → Timestamp → Blame
issuing key Failure now = record nothing { no_bytes = (draws key ≢ 0) × Failure; no_moment = ¬ FitsDefault now }
