-- What is checked of the claims of a token, and the line that tells a fault.
use Rattle.std.specs.Prelude.{◌≡◌, ◌≢◌, ◌==◌, ◌&&◌, ◌++◌, ℕ, Bool, true, false, List, [], ◌∷◌, Option, Some, None, IsSome, codes, if◌then◌else◌}
use Rattle.jiff.specs.Types.{Timestamp}
use Rattle.serde_json.specs.Data.{Data, Items, no_items, item, Members, no_members, member, array, string}
use Rattle.serde_json.specs.Read.{read}
use Rattle.rusty_paseto_claims.specs.Claim.{one_member}
use Rattle.rusty_paseto_claims.specs.Whole.{first_odd}
use Rattle.rusty_paseto_parts.specs.Error.{error_text as token_text}
use Rattle.rusty_paseto_generic.specs.Error.Parser.{error_text}
use Rattle.rusty_paseto_generic.specs.Parsers.Held.{default_date}
use Rattle.rusty_paseto_generic.specs.Parsers.Rules.{Rules, edited, no_rule, with_both, with_required, with_stored}
use Rattle.rusty_paseto_generic.specs.Parsers.Times.{expiry, not_before, times_at}
use Rattle.rusty_paseto_generic.specs.Validator.{Verdict}
use Rattle.rusty_paseto_generic.specs.declared.error.GenericParserError.{GenericParserError}
use Rattle.rusty_paseto_generic.specs.declared.error.GenericParserError.TheVariants.{CipherError}
use Rattle.paseto_calls.specs.declared.refusal.Refusal.{Refusal}
use Rattle.paseto_calls.specs.declared.refusal.Refusal.TheVariants.{NotNames, Unexpected}

-- a limit of 0 bytes is none
abbrev pub limit_of : ℕ → Option ℕ
limit_of bytes = if bytes == 0 then None else Some bytes

-- the names of claims are a JSON array; no bytes are no names
abbrev pub read_names : List ℕ → Option Data
read_names [] = Some (array no_items)
read_names (c ∷ text) = read (c ∷ text)

-- the text is no JSON array
abbrev pub IsNoArray : List ℕ → Type 0
IsNoArray text = (names : Items) → read_names text ≢ Some (array names)

abbrev pub is_text : Data → Bool
is_text (string text) = true
is_text _ = false

-- each item is a text
abbrev pub are_texts : Items → Bool
are_texts no_items = true
are_texts (item name more) = is_text name && are_texts more

-- a claim has to be there under each name, in their order; what is no text names none
abbrev pub all_required : {J : Type 0} → Items → Rules J → Rules J
all_required no_items old = old
all_required (item (string name) more) old = all_required more (edited name with_required old)
all_required (item _ more) old = all_required more old

-- ---- what is checked

-- each member is expected under its key, in its order
abbrev pub all_expected : {J : Type 0} → Members → Rules J → Rules J
all_expected no_members old = old
all_expected (member key value more) old = all_expected more (edited key (with_stored (one_member key value)) old)

-- the times are checked at a moment, with a leeway, and nothing else
abbrev pub timed : Timestamp → ℕ → Rules Verdict
timed moment leeway = edited (codes "nbf") (with_both (not_before (times_at moment leeway)) (default_date (codes "nbf")))
    (edited (codes "exp") (with_both (expiry (times_at moment leeway)) (default_date (codes "exp"))) (λ key. no_rule))

-- what is checked: the times at a moment, that each member is there, and a claim under each name
abbrev pub expected_rules : Members → Items → Timestamp → ℕ → Rules Verdict
expected_rules members names moment leeway = all_required names (all_expected members (timed moment leeway))

-- what tells an error: its own text, and behind a colon that of its cause, where it has one
abbrev pub line_of : GenericParserError → List ℕ
line_of (CipherError source) = error_text (CipherError source) ++ (codes ": " ++ token_text source)
line_of error = error_text error

-- ---- for private clauses

-- a member holds another number than a whole one, and this is the refusal for it
abbrev pub IsMemberFault : Members → Refusal → Type 0
IsMemberFault members refusal = IsSome (first_odd members) × (refusal ≡ Unexpected)

-- a name is no text, and this is the refusal for it
abbrev pub IsNameFault : Items → Refusal → Type 0
IsNameFault names refusal = (are_texts names ≡ false) × (refusal ≡ NotNames)
