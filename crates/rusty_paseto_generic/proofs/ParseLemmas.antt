-- What a parser answers for a text and for a token.
use Rattle.std.proofs.Common.{◌≡◌, ◌⊎◌, inl, inr, ⊎_elim, ℕ, List, Bool, true, false, not, Option, Some, None, Result, Ok, Err, IfOk, IfErr, OnOk, MatchResult, String, Global, Ordering, Less, Equal, Greater, string_bytes, nat_cmp, refl}
use Rattle.std.specs.Bool.{⊤}
use Rattle.std.specs.Cmp.Lexicographic.{slice_cmp}
use Rattle.std.specs.Ordering.{match_ordering}
use Rattle.std.proofs.lemmas.Bool.{or_parts}
use Rattle.serde_json.specs.Data.{Data, null, boolean, number, string, array, object, Members, no_members, member}
use Rattle.serde_json.specs.Find.{get_member}
use Rattle.serde_json.specs.Read.{read}
use Rattle.serde_json.specs.View.{view}
use Rattle.serde_json.specs.Written.{has_float, members_have_float}
use Rattle.serde_json.specs.declared.value.Value.{Value}
use Rattle.rusty_paseto_claims.specs.Error.{Fault}
use Rattle.rusty_paseto_claims.specs.Whole.{IsOdd, is_whole}
use Rattle.rusty_paseto_claims.specs.declared.PasetoClaimError.{PasetoClaimError}
use Rattle.rusty_paseto_claims.specs.declared.PasetoClaimError.TheVariants as Claim
use Rattle.rusty_paseto_core.specs.Reading.{IsAnswer, IsFault as IsCipherFault, IsRead, Reading}
use Rattle.rusty_paseto_parts.specs.Error.{IsMemory as IsMemoryOfCipher}
use Rattle.rusty_paseto_core.specs.declared.ImplicitAssertion.{ImplicitAssertion}
use Rattle.rusty_paseto_core.specs.declared.PasetoError.{PasetoError}
use Rattle.rusty_paseto_core.specs.declared.PasetoError.TheVariants as Cipher
use Rattle.rusty_paseto_generic.specs.Error.Parser.{IsMemory, of_cipher, of_claim}
use Rattle.rusty_paseto_generic.specs.Parsers.Parsing.{IsCheckAnswer, IsCheckFault, IsFirstFault, IsOpenedAnswer, IsParseAnswer, IsParsed, IsReadAs, IsReadingFault, IsTextAnswer, IsTextFault, IsValueOf, assertion_in}
use Rattle.rusty_paseto_generic.specs.Parsers.Rules.{Rule, Rules}
use Rattle.rusty_paseto_generic.specs.Parsers.Verdicts.{Fails, IsFirstFailing, Meets, Misses, Passes, PassesAll}
use Rattle.rusty_paseto_generic.specs.Validator.{IfFault, Verdict}
use Rattle.rusty_paseto_generic.specs.declared.error.GenericParserError.{GenericParserError}
use Rattle.rusty_paseto_generic.specs.declared.error.GenericParserError.TheVariants.{ClaimError, CipherError, PayloadJsonError, Memory}

-- ---- the fault of a check

-- the error of a check
pub check_fault : (rules : Rules Verdict) (value : Data) (source : PasetoClaimError) → IfFault (IsFirstFailing rules value) source
    → IsMemory (of_claim source) ⊎ IsCheckFault rules value (of_claim source)
check_fault rules value Claim.Expired first = inr (_, refl, first)
check_fault rules value (Claim.UseBeforeAvailable t) first = inr (_, refl, first)
check_fault rules value (Claim.RFC3339Date t) first = inr (_, refl, first)
check_fault rules value (Claim.Missing k) first = inr (_, refl, first)
check_fault rules value (Claim.Unexpected k) first = inr (_, refl, first)
check_fault rules value (Claim.CustomValidation k) first = inr (_, refl, first)
check_fault rules value (Claim.Invalid k found wanted) first = inr (_, refl, first)
check_fault rules value (Claim.Reserved k) first = inr (_, refl, first)
check_fault rules value (Claim.DuplicateTopLevelPayloadClaim k) first = inr (_, refl, first)
check_fault rules value (Claim.Memory refused) first = inl tt

-- and that of a check of what a text was read as
pub checked_fault : (rules : Rules Verdict) (text : List ℕ) (value : Data) (error : GenericParserError) → IsReadAs text value
    → IsMemory error ⊎ IsCheckFault rules value error → IsMemory error ⊎ IsTextFault rules text error
checked_fault rules text value error reads (inl memory) = inl memory
checked_fault rules text value error reads (inr fault) = inr (inr (value, reads, fault))

-- ---- a text of which there is a value has no fault

member_whole : (order : Ordering) (found : Option Data) (value other : Data) → has_float value ≡ false
    → (found ≡ Some other → has_float other ≡ false) → match_ordering order found (Some value) found ≡ Some other → has_float other ≡ false
member_whole Less found value other whole more is = more is
member_whole Equal found value other whole more is = let same : value ≡ other = cc in rw (← same) whole
member_whole Greater found value other whole more is = more is

get_member-whole : (members : Members) (key : List ℕ) (value : Data) → members_have_float members ≡ false
    → get_member key members ≡ Some value → has_float value ≡ false
get_member-whole no_members key value whole is = cc is
get_member-whole (member found d rest) key value whole is =
    let both = or_parts (has_float d) (members_have_float rest) whole in
    member_whole (slice_cmp nat_cmp key found) (get_member key rest) d value both.0 (get_member-whole rest key value both.1) is

not_false : (b : Bool) → not b ≡ true → b ≡ false
not_false true h = cc h
not_false false h = refl

not_both : (b : Bool) → b ≡ false → not b ≡ false → ⊥
not_both true is other = cc is
not_both false is other = cc other

odd_whole : (value : Data) (key : List ℕ) → is_whole value ≡ true → IsOdd (Some key) value → ⊥
odd_whole null key whole odd = cc (whole, odd.1)
odd_whole (boolean b) key whole odd = cc (whole, odd.1)
odd_whole (number n) key whole odd = cc (whole, odd.1)
odd_whole (string s) key whole odd = cc (whole, odd.1)
odd_whole (array items) key whole odd = cc (whole, odd.1)
odd_whole (object members) key whole odd =
    not_both (has_float odd.0.0) (get_member-whole members key odd.0.0 (not_false _ whole) odd.0.1) odd.0.2

reading_apart : (text : List ℕ) (value : Data) (error : GenericParserError) → IsReadAs text value → IsReadingFault text error → ⊥
reading_apart text value (PayloadJsonError source) reads none = cc (reads.is_json, none)
reading_apart text value (ClaimError source) reads fault =
    let odd = fault.1 in
    let same : odd.value ≡ value = cc (reads.is_json, odd.is_json) in
    odd_whole value fault.0 reads.whole (rw same at odd.odd)
reading_apart text value (CipherError source) reads fault = fault
reading_apart text value (Memory refused) reads fault = fault

meets_apart : (required : Bool) (stored : Option Data) (checker : Option Verdict) (key : List ℕ) (found : Data) (fault : Fault)
    → Meets (record { required = required; stored = stored; checker = checker }) key found
    → Misses (record { required = required; stored = stored; checker = checker }) key found fault → ⊥
meets_apart required None None key found fault meets misses = misses
meets_apart required (Some stored) None key found fault meets (inl missing) = meets.0 missing.0
meets_apart required (Some stored) None key found fault meets (inr other) = other.1 meets.1
meets_apart required stored (Some verdict) key found fault meets misses = cc (meets, misses)

rule_apart : (rule : Rule Verdict) (key : List ℕ) (found : Data) (fault : Fault) → Passes rule key found → Fails rule key found fault → ⊥
rule_apart rule key found fault passes (inl absent) = passes.0 absent.0.0 absent.0.1
rule_apart rule key found fault passes (inr other) = meets_apart rule.required rule.stored rule.checker key found fault passes.1 other.1

check_apart : (rules : Rules Verdict) (value : Data) (error : GenericParserError) → PassesAll rules value → IsCheckFault rules value error → ⊥
check_apart rules value (ClaimError source) passes fault =
    let first = fault.2 in
    rule_apart (rules first.key) first.key _ fault.0 (passes first.key) first.fails
check_apart rules value (CipherError source) passes fault = fault
check_apart rules value (PayloadJsonError source) passes fault = fault
check_apart rules value (Memory refused) passes fault = fault

text_apart : (rules : Rules Verdict) (text : List ℕ) (value : Data) (error : GenericParserError) → IsValueOf rules text value
    → IsTextFault rules text error → ⊥
text_apart rules text value error is (inl fault) = reading_apart text value error is.is_read fault
text_apart rules text value error is (inr checked) =
    let same : value ≡ checked.0 = cc (is.is_read.is_json, checked.1.is_json) in
    check_apart rules checked.0 error (rw same at is.passes) checked.2

-- a text has one value
one_value : (rules : Rules Verdict) (text : List ℕ) (first second : Data) → IsValueOf rules text first → IsValueOf rules text second
    → first ≡ second
one_value rules text first second is other = cc (is.is_read.is_json, other.is_read.is_json)

completes : (rules : Rules Verdict) (text : List ℕ) (result : Result Value GenericParserError)
    → IfOk result (λ value. IsValueOf rules text (view value)) → IfErr result (λ error. IsMemory error ⊎ IsTextFault rules text error)
    → (value : Data) → IsValueOf rules text value → MatchResult result (λ found. view found ≡ value) IsMemory
completes rules text (Ok found) ok err value is = one_value rules text (view found) value ok is
completes rules text (Err error) ok (inl memory) value is = memory
completes rules text (Err error) ok (inr fault) value is = absurd (text_apart rules text value error is fault)

-- what is answered for a text
pub text_answer : (rules : Rules Verdict) (text : List ℕ) (result : Result Value GenericParserError)
    → IfOk result (λ value. IsValueOf rules text (view value)) → IfErr result (λ error. IsMemory error ⊎ IsTextFault rules text error)
    → IsTextAnswer rules text result
text_answer rules text result ok err = record { value = ok; complete = completes rules text result ok err; fault = err }

passing_completes : {T : Type 0} (rules : Rules Verdict) (value : Data) (result : Result T GenericParserError)
    → IfErr result (λ error. IsMemory error ⊎ IsCheckFault rules value error) → PassesAll rules value → MatchResult result (λ _. ⊤) IsMemory
passing_completes rules value (Ok found) err passes = tt
passing_completes rules value (Err error) (inl memory) passes = memory
passing_completes rules value (Err error) (inr fault) passes = absurd (check_apart rules value error passes fault)

-- what is answered for a value
pub check_answer : (rules : Rules Verdict) (value : Data) (result : Result ⊤ GenericParserError) → OnOk result (PassesAll rules value)
    → IfErr result (λ error. IsMemory error ⊎ IsCheckFault rules value error) → IsCheckAnswer rules value result
check_answer rules value result ok err = record { passes = ok; complete = passing_completes rules value result err; fault = err }

-- ---- what is answered for a token

-- a failed allocation stays so, and no other error becomes it
of_cipher-cases : (error : PasetoError) → IsMemory (of_cipher error) ⊎ ((IsMemoryOfCipher error → ⊥) × (of_cipher error ≡ CipherError error))
of_cipher-cases (Cipher.Memory refused) = inl tt
of_cipher-cases (Cipher.PasetoCipherError' _ _) = inr (λ memory. memory, refl)
of_cipher-cases Cipher.Cryption = inr (λ memory. memory, refl)
of_cipher-cases Cipher.InvalidKey = inr (λ memory. memory, refl)
of_cipher-cases Cipher.Signature = inr (λ memory. memory, refl)
of_cipher-cases Cipher.KeyRejected = inr (λ memory. memory, refl)
of_cipher-cases Cipher.Cipher = inr (λ memory. memory, refl)
of_cipher-cases Cipher.RsaCipher = inr (λ memory. memory, refl)
of_cipher-cases Cipher.ECSDAError = inr (λ memory. memory, refl)
of_cipher-cases Cipher.InvalidLength = inr (λ memory. memory, refl)
of_cipher-cases Cipher.InvalidSignature = inr (λ memory. memory, refl)
of_cipher-cases Cipher.TryFromSlice = inr (λ memory. memory, refl)
of_cipher-cases Cipher.IncorrectSize = inr (λ memory. memory, refl)
of_cipher-cases Cipher.WrongHeader = inr (λ memory. memory, refl)
of_cipher-cases Cipher.FooterInvalid = inr (λ memory. memory, refl)
of_cipher-cases (Cipher.PayloadBase64Decode _) = inr (λ memory. memory, refl)
of_cipher-cases (Cipher.Utf8Error _) = inr (λ memory. memory, refl)
of_cipher-cases Cipher.ChaChaCipherError = inr (λ memory. memory, refl)
of_cipher-cases Cipher.Infallibale = inr (λ memory. memory, refl)
of_cipher-cases Cipher.FromUtf8Error = inr (λ memory. memory, refl)
of_cipher-cases Cipher.TooLong = inr (λ memory. memory, refl)

of_cipher-memory : (error : PasetoError) → IsMemoryOfCipher error → IsMemory (of_cipher error)
of_cipher-memory error memory = ⊎_elim (λ is. is) (λ other. absurd (other.0 memory)) (of_cipher-cases error)

cipher_fault : (reading : Reading) (rules : Rules Verdict) (token : List ℕ) (error : PasetoError) → IsMemoryOfCipher error ⊎ IsCipherFault reading token error
    → IsMemory (of_cipher error) ⊎ IsFirstFault reading rules token (of_cipher error)
cipher_fault reading rules token error (inl memory) = inl (of_cipher-memory error memory)
cipher_fault reading rules token error (inr fault) = ⊎_elim (λ is. inl is) (λ other. rw other.1 (inr fault)) (of_cipher-cases error)

text_fault : (reading : Reading) (rules : Rules Verdict) (token text : List ℕ) (error : GenericParserError) → IsRead reading token text
    → IsMemory error ⊎ IsTextFault rules text error → IsMemory error ⊎ IsFirstFault reading rules token error
text_fault reading rules token text error read (inl memory) = inl memory
text_fault reading rules token text (ClaimError source) read (inr fault) = inr (text, read, fault)
text_fault reading rules token text (PayloadJsonError source) read (inr fault) = inr (text, read, fault)
text_fault reading rules token text (CipherError source) read (inr (inl fault)) = absurd fault
text_fault reading rules token text (CipherError source) read (inr (inr fault)) = absurd fault.2
text_fault reading rules token text (Memory refused) read (inr fault) = inl tt

parsed_at : (reading : Reading) (rules : Rules Verdict) (token text : List ℕ) (result : Result Value GenericParserError) → IsRead reading token text
    → IsTextAnswer rules text result → IfOk result (λ value. IsParsed reading rules token (view value))
parsed_at reading rules token text (Ok found) read answer = record { text = text; is_read = read; is_value = answer.value }
parsed_at reading rules token text (Err error) read answer = tt

fault_at : (reading : Reading) (rules : Rules Verdict) (token text : List ℕ) (result : Result Value GenericParserError) → IsRead reading token text
    → IsTextAnswer rules text result → IfErr result (λ error. IsMemory error ⊎ IsFirstFault reading rules token error)
fault_at reading rules token text (Ok found) read answer = tt
fault_at reading rules token text (Err error) read answer = text_fault reading rules token text error read answer.fault

-- what is answered for what was opened or verified is what is answered for the token
pub parse_answer : (reading : Reading) (rules : Rules Verdict) (token : List ℕ) (opened : Result (String Global) PasetoError)
    (result : Result Value GenericParserError) → IsAnswer reading token opened → IsOpenedAnswer rules opened result
    → IsParseAnswer reading rules token result
parse_answer reading rules token (Ok text) result answer is = record {
  parsed = parsed_at reading rules token (string_bytes text) result answer.read is;
  complete = λ value parsed. is.complete value (rw (← answer.complete parsed.text parsed.is_read) at parsed.is_value);
  count = λ other. absurd (cc (answer.count other));
  fault = fault_at reading rules token (string_bytes text) result answer.read is;
}
parse_answer reading rules token (Err error) result answer is = record {
  parsed = rw is tt;
  complete = λ value parsed. rw is (of_cipher-memory error (answer.complete parsed.text parsed.is_read));
  count = λ other. let same : error ≡ Cipher.IncorrectSize = cc (answer.count other) in rw (is, same) refl;
  fault = rw is (cipher_fault reading rules token error answer.fault);
}

-- the assertion that a version takes
pub is_assertion_in : (binds : Bool) (given taken : Option ImplicitAssertion) → (binds ≡ true → taken ≡ given) → (binds ≡ false → taken ≡ None)
    → taken ≡ assertion_in binds given
is_assertion_in true given taken bound none = bound refl
is_assertion_in false given taken bound none = none refl
