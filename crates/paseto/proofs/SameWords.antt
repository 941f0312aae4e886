-- What words say is one thing.
use Rattle.std.proofs.Common.{◌≡◌, ℕ, ℤ, pos, ◌^◌, ◌≤◌, ◌*◌, ◌+ℤ◌, ◌≤ℤ◌, List, [], ◌∷◌, ◌++◌, length, length-append, drop, get_or, Option, None, Some, Result, Ok, Err, MatchOption, MatchResult, codes, inl, inr, refl, sym, ap, ap₂, subst, ◌∙◌, true, false, true≢false, arith}
use Rattle.std.proofs.Math.Dec.{T_prop}
use Rattle.std.specs.Option.{unwrap_or}
use Rattle.std.proofs.lemmas.List.{append_cancel_right}
use Rattle.std.specs.Str.Parse.{digits_value, without_leading_plus}
use Rattle.jiff.specs.Types.{Timestamp}
use Rattle.jiff.specs.Words.{Error, IsTimestampNanos, parse_timestamp}
use Rattle.serde_json.specs.Data.{Data}
use Rattle.paseto_tasks.specs.declared.arguments.Options.{Options}
use Rattle.paseto.specs.Check.{AreDemands, Demanded, IsCheckedAt}
use Rattle.paseto.specs.Claims.{AreClaims, IsClaimOf, IsNamed, Named, front}
use Rattle.paseto.specs.Issue.{IsOrder, Ordered}
use Rattle.paseto.specs.Times.{BeginsAt, HasUnit, IsAfter, IsLeeway, IsLength, IsLikeLength, IsNumber, IsSecondBefore, SaysMoment, SaysNone, SaysTime, are_digits, unit_of}

-- ---- moments

-- lists that end alike in one element
one_end : (a b : List ℕ) (x y : ℕ) → a ++ (x ∷ []) ≡ b ++ (y ∷ []) → (a ≡ b) × (x ≡ y)
one_end [] [] x y e = (refl, ap (λ (l : List ℕ). get_or l 0 0) e)
one_end [] (c ∷ b) x y e = absurd (omega (arith, ap (λ (l : List ℕ). length l) e, length-append b (y ∷ [])))
one_end (c ∷ a) [] x y e = absurd (omega (arith, ap (λ (l : List ℕ). length l) e, length-append a (x ∷ [])))
one_end (c ∷ a) (d ∷ b) x y e =
    let rest = one_end a b x y (ap (λ (l : List ℕ). drop 1 l) e) in
    (ap₂ (λ (h : ℕ) (t : List ℕ). h ∷ t) (ap (λ (l : List ℕ). get_or l 0 0) e) rest.0, rest.1)

-- what two options have is the same where they are
same_some : {X : Type 0} (x y : X) → Some x ≡ Some y → x ≡ y
same_some x y e = ap (λ (o : Option _). unwrap_or o x) e

pub same_unit : (word first second : List ℕ) (unit other : ℕ) → HasUnit word first unit → HasUnit word second other → (first ≡ second) × (unit ≡ other)
same_unit word first second unit other a b =
    let ends = one_end first second a.letter b.letter (sym a.spelled ∙ b.spelled) in
    (ends.0, same_some unit other (sym a.is_unit ∙ ap (λ (l : ℕ). unit_of l) ends.1 ∙ b.is_unit))

same_number : (word other : List ℕ) (one two : ℕ) → word ≡ other → IsNumber word one → IsNumber other two → one ≡ two
same_number word other one two same a b =
    a.value ∙ ap (λ (w : List ℕ). digits_value 10 (without_leading_plus w)) same ∙ sym b.value

same_length : (word : List ℕ) (one two : ℕ) → IsLength word one → IsLength word two → one ≡ two
same_length word one two a b =
    let units = same_unit word a.front b.front a.unit b.unit a.has_unit b.has_unit in
    a.seconds_are ∙ ap₂ (λ (u n : ℕ). u * n) units.1 (same_number a.front b.front a.number b.number units.0 a.is_number b.is_number) ∙ sym b.seconds_are

same_instant : (word : List ℕ) (now one two : Timestamp) (read : Result ℤ Error)
    → MatchResult read (λ instant. one.nanosecond ≡ instant) (λ _. IsAfter word now one)
    → MatchResult read (λ instant. two.nanosecond ≡ instant) (λ _. IsAfter word now two) → one.nanosecond ≡ two.nanosecond
same_instant word now one two (Ok instant) a b = a ∙ sym b
same_instant word now one two (Err error) a b =
    a.2 ∙ ap (λ (n : ℕ). now.nanosecond +ℤ pos (n * 1_000_000_000)) (same_length word a.0 b.0 a.1 b.1) ∙ sym b.2

-- a word that ends in no unit, or has no number before it, says no length
pub no_length : (word : List ℕ) → ((front : List ℕ) (unit : ℕ) → ¬ HasUnit word front unit) → (seconds : ℕ) → ¬ IsLength word seconds
no_length word none seconds is = none is.front is.unit is.has_unit

pub no_number : (word front : List ℕ) (unit : ℕ) → HasUnit word front unit → ((number : ℕ) → ¬ IsNumber front number) → (seconds : ℕ) → ¬ IsLength word seconds
no_number word front unit has none seconds is =
    none is.number (subst (λ (f : List ℕ). IsNumber f is.number) (same_unit word is.front front is.unit unit is.has_unit has).0 is.is_number)

-- a word that has no digits in front of its unit
pub no_like_length : (word front : List ℕ) (unit : ℕ) → HasUnit word front unit → are_digits front ≡ false → ¬ IsLikeLength word
no_like_length word front unit has none like =
    let digits = subst (λ (f : List ℕ). are_digits f ≡ true) (same_unit word like.0 front like.1 unit like.2 has).0 like.3 in
    true≢false (sym digits ∙ none)

-- a word that is no moment of RFC 3339
pub says_none : (word : List ℕ) (now : Timestamp) (error : Error) → Err error ≡ parse_timestamp word → ((seconds : ℕ) → ¬ IsLength word seconds) → SaysNone word now
says_none word now error read none moment says = let after : IsAfter word now moment = rw (sym read) at says in none after.0 after.1

pub says_after : (word : List ℕ) (now : Timestamp) (error : Error) (seconds : ℕ) (found : Option Timestamp) → Err error ≡ parse_timestamp word → IsLength word seconds
    → MatchOption found (¬ IsTimestampNanos (now.nanosecond +ℤ pos (seconds * 1_000_000_000))) (λ moment. moment.nanosecond ≡ now.nanosecond +ℤ pos (seconds * 1_000_000_000))
    → MatchOption found (SaysNone word now) (λ moment. SaysMoment word now moment)
says_after word now error seconds None read length none = λ moment says.
    let after : IsAfter word now moment = rw (sym read) at says in
    none (subst (λ (n : ℤ). IsTimestampNanos n) (after.2 ∙ ap (λ (s : ℕ). now.nanosecond +ℤ pos (s * 1_000_000_000)) (same_length word after.0 seconds after.1 length)) moment.in_range)
says_after word now error seconds (Some moment) read length at = rw (sym read) (seconds, length, at)

le_prop : (a b : ℤ) (x y : a ≤ℤ b) → x ≡ y
le_prop a b x y = λ i. record { le = T_prop _ x.le y.le i }

moment_prop : (n : ℤ) (x y : IsTimestampNanos n) → x ≡ y
moment_prop n x y = λ i. (le_prop _ _ x.0 y.0 i, le_prop _ _ x.1 y.1 i)

same_timestamp : (one two : Timestamp) → one.nanosecond ≡ two.nanosecond → one ≡ two
same_timestamp one two e = λ i. record {
  nanosecond = e i;
  in_range = moment_prop (e i) (coe 0 i (j. IsTimestampNanos (e j)) one.in_range) (coe 1 i (j. IsTimestampNanos (e j)) two.in_range) i;
}

pub same_moment : (word : List ℕ) (now one two : Timestamp) → SaysMoment word now one → SaysMoment word now two → one ≡ two
same_moment word now one two a b = same_timestamp one two (same_instant word now one two (parse_timestamp word) a b)

same_checked : (word : Option (List ℕ)) (now one two : Timestamp) → IsCheckedAt word now one → IsCheckedAt word now two → one ≡ two
same_checked None now one two a b = a ∙ sym b
same_checked (Some word) now one two a b = same_moment word now one two a b

same_leeway : (word : Option (List ℕ)) (one two : ℕ) → IsLeeway word one → IsLeeway word two → one ≡ two
same_leeway None one two a b = a ∙ sym b
same_leeway (Some word) one two a b = same_length word one two a.0 b.0

-- a length that is too long, and the one of the word, is no leeway
pub long_leeway : (word : List ℕ) (seconds : ℕ) → IsLength word seconds → 2 ^ 32 ≤ seconds → (other : ℕ) → ¬ IsLeeway (Some word) other
long_leeway word seconds length long other is = absurd (omega (arith, long, is.1, same_length word seconds other length is.0))

-- ---- claims

same_named : (word first second : List ℕ) (one two : Data) → IsNamed word first one → IsNamed word second two → (first ≡ second) × (one ≡ two)
same_named word first second one two (inl a) (inl b) =
    (append_cancel_right first second (codes ":") (sym a.0 ∙ b.0), same_some one two (sym a.1 ∙ b.1))
same_named word first second one two (inl a) (inr b) = absurd (b.0 first a.0)
same_named word first second one two (inr a) (inl b) = absurd (a.0 second b.0)
same_named word first second one two (inr a) (inr b) = (sym a.1 ∙ b.1, a.2 ∙ sym b.2)

same_claim : (word : List ℕ) (one two : Named) → IsClaimOf word one → IsClaimOf word two → one ≡ two
same_claim word one two a b =
    let same = same_named word one.name two.name one.value two.value a.said b.said in
    λ i. record { name = same.0 i; value = same.1 i }

pub same_claims : (words : List (List ℕ)) (first second : List Named) → AreClaims words first → AreClaims words second → first ≡ second
same_claims [] [] [] a b = refl
same_claims [] [] (two ∷ second) a b = absurd b
same_claims [] (one ∷ first) second a b = absurd a
same_claims (word ∷ words) [] second a b = absurd a
same_claims (word ∷ words) (one ∷ first) [] a b = absurd b
same_claims (word ∷ words) (one ∷ first) (two ∷ second) a b =
    ap₂ (λ (h : Named) (t : List Named). h ∷ t) (same_claim word one two a.0 b.0) (same_claims words first second a.1 b.1)

-- ---- demands

pub same_demands : (claims : List (List ℕ)) (options : Options) (now : Timestamp) (first second : Demanded)
    → AreDemands claims options now first → AreDemands claims options now second → first ≡ second
same_demands claims options now first second a b =
    let at = same_checked _ now first.at second.at a.moment b.moment in
    let named = same_claims claims first.claims second.claims a.are_claims b.are_claims in
    let leeway = same_leeway _ first.leeway second.leeway a.leeway b.leeway in
    let required = a.required ∙ sym b.required in
    let footer = a.footer.0 ∙ sym b.footer.0 in
    let assertion = a.assertion ∙ sym b.assertion in
    λ i. record { at = at i; leeway = leeway i; claims = named i; required = required i; footer = footer i; assertion = assertion i }

-- ---- orders

same_time : (word : Option (List ℕ)) (now : Timestamp) (one two : Option Timestamp) → SaysTime word now one → SaysTime word now two → one ≡ two
same_time None now one two a b = a ∙ sym b
same_time (Some word) now None two a b = absurd a
same_time (Some word) now (Some one) None a b = absurd b
same_time (Some word) now (Some one) (Some two) a b = ap (λ (t : Timestamp). Some t) (same_moment word now one two a b)

same_before : (now : Timestamp) (one two : Option Timestamp) → IsSecondBefore now one → IsSecondBefore now two → one ≡ two
same_before now None None a b = refl
same_before now None (Some two) a b = absurd (a (subst IsTimestampNanos b two.in_range))
same_before now (Some one) None a b = absurd (b (subst IsTimestampNanos a one.in_range))
same_before now (Some one) (Some two) a b = ap (λ (t : Timestamp). Some t) (same_timestamp one two (a ∙ sym b))

same_begin : (word : Option (List ℕ)) (now : Timestamp) (one two : Option Timestamp) → BeginsAt word now one → BeginsAt word now two → one ≡ two
same_begin None now one two a b = same_before now one two a b
same_begin (Some word) now one two a b = same_time (Some word) now one two a b

pub same_order : (claims : List (List ℕ)) (options : Options) (now : Timestamp) (first second : Ordered)
    → IsOrder claims options now first → IsOrder claims options now second → first ≡ second
same_order claims options now first second a b =
    let at = a.moment ∙ sym b.moment in
    let named = same_claims claims first.claims second.claims a.are_claims b.are_claims in
    let expiry = same_time _ now first.expires second.expires a.expires b.expires in
    let begin = same_begin _ now first.not_before second.not_before a.not_before b.not_before in
    let footer = a.footer.0 ∙ sym b.footer.0 in
    let assertion = a.assertion ∙ sym b.assertion in
    λ i. record { moment = at i; claims = named i; expires = expiry i; not_before = begin i; footer = footer i; assertion = assertion i }
