-- Where a text has a token, nothing is refused but memory.
use Rattle.std.proofs.Common.{◌≡◌, ◌∙◌, ◌&&◌, not, inl, inr, ℕ, ℤ, Bool, true, false, List, length, Some, None, if◌then◌else◌, eqb-true, refl, sym, ap, subst, w64, FitsSigned, arith}
use Rattle.std.proofs.lemmas.Bool.{false≢true}
use Rattle.std.specs.Prelude.{nat_lt}
use Rattle.std.proofs.lemmas.Int.{ints}
use Rattle.serde_json.specs.Data.{Members, object}
use Rattle.serde_json.specs.Read.{read}
use Rattle.rusty_paseto_claims.proofs.MomentLemmas.{same_text}
use Rattle.rusty_paseto_generic.specs.Builders.Claims.{Outcome, becomes, payload, refused as refused_for}
use Rattle.rusty_paseto_parts.specs.declared.error.PasetoError.{PasetoError}
use Rattle.rusty_paseto_paserk.specs.declared.header.PaserkType.{PaserkType}
use Rattle.rusty_paseto_paserk.specs.declared.header.PaserkType.TheVariants.{Local, Secret, Public}
use Rattle.rusty_paseto_paserk.specs.declared.header.PaserkVersion.{PaserkVersion}
use Rattle.rusty_paseto_paserk.specs.declared.header.PaserkVersion.TheVariants.{V1, V2, V3, V4}
use Rattle.paseto_keys.specs.AnyKey.{is_key}
use Rattle.paseto_keys.specs.Writing.{writing_of}
use Rattle.paseto_calls.specs.Arguments.{has_bytes}
use Rattle.paseto_calls.specs.Claims.{all_set}
use Rattle.paseto_calls.specs.HeldKey.{bound_fault, bytes_in, drawn_fault, is_type, is_version, is_wanted, key_fault, type_by, version_by}
use Rattle.paseto_calls.specs.Issue.{AreClaims, AreMomentClaims, AreMoments, IsIssued, IsIssuingFault, issuing, no_claim, no_moment, no_object}
use Rattle.paseto_calls.specs.Request.{IsMade, IsMadeWholeWhere, IsWhole, IsWholeWhere}
use Rattle.paseto_calls.specs.Tokens.{HasToken, IsDeclined, Signs, SignsText, signed_by, taken, writes, writing, writing_fault}
use Rattle.paseto_calls.specs.declared.held_key.HeldKey.{HeldKey}
use Rattle.paseto_calls.specs.declared.refusal.Refusal.{Refusal}
use Rattle.paseto_calls.specs.declared.wanted.Wanted.{Wanted}
use Rattle.paseto_calls.specs.declared.wanted.Wanted.TheVariants.{LocalKeys, SecretKeys, Writers}
use Rattle.paseto_calls.proofs.ClaimLemmas.{all_set-fault}
use Rattle.paseto_calls.proofs.Taken.{suits}
use Rattle.paseto_calls.proofs.Whole.{first_none, whole_where}

-- ---- keys that are used

is_key_at : (v t short is wanted : Bool) (a b : Refusal)
    → (if t && not wanted then Some a else (if v && (t && (short && is)) then None else Some b)) ≡ None → is ≡ true
is_key_at v t short true wanted a b fine = refl
is_key_at true true true false true a b fine = absurd (cc fine)
is_key_at true true true false false a b fine = absurd (cc fine)
is_key_at true true false false true a b fine = absurd (cc fine)
is_key_at true true false false false a b fine = absurd (cc fine)
is_key_at true false short false wanted a b fine = absurd (cc fine)
is_key_at false true short false true a b fine = absurd (cc fine)
is_key_at false true short false false a b fine = absurd (cc fine)
is_key_at false false short false wanted a b fine = absurd (cc fine)

-- the bytes of a key that is used may be such a key
pub used_key : (wanted : Wanted) (key : HeldKey) → key_fault wanted key ≡ None
    → is_key (type_by key.kind) (version_by key.version) (bytes_in key) ≡ true
used_key wanted key fine =
    is_key_at (is_version key.version) (is_type key.kind) (nat_lt key.length 1245)
    (is_key (type_by key.kind) (version_by key.version) (bytes_in key)) (is_wanted wanted (type_by key.kind)) _ _ fine

-- ---- texts that have a token

is_local : (kind : PaserkType) → is_wanted LocalKeys kind ≡ true → kind ≡ Local
is_local Local is = refl
is_local Secret is = absurd (false≢true is)
is_local Public is = absurd (false≢true is)

is_secret : (kind : PaserkType) → is_wanted SecretKeys kind ≡ true → kind ≡ Secret
is_secret Local is = absurd (false≢true is)
is_secret Secret is = refl
is_secret Public is = absurd (false≢true is)

module _ (drawn private footer assertion : List ℕ) (written : Bool) (text : List ℕ) (error : PasetoError) where
  sealed_not : (kind : PaserkType) (version : PaserkVersion) (token : List ℕ) → kind ≡ Local
      → (writing_of kind version drawn private footer assertion).Writes written text token
      → (writing_of kind version drawn private footer assertion).Declines written text error → ⊥
  sealed_not Local V1 token is writes declines = declines
  sealed_not Local V2 token is writes declines = let e : Some token ≡ None = sym writes ∙ declines.1 in cc
  sealed_not Local V3 token is writes declines = declines
  sealed_not Local V4 token is writes declines = declines
  sealed_not Secret version token is writes declines = absurd (cc is)
  sealed_not Public version token is writes declines = absurd (cc is)

  signed_not : (kind : PaserkType) (version : PaserkVersion) → kind ≡ Secret → is_key kind version private ≡ true
      → Signs version private (signed_by version private footer assertion text)
      → (writing_of kind version drawn private footer assertion).Declines written text error → ⊥
  signed_not Secret V1 is key signs (inl none) = none.0 tt
  signed_not Secret V1 is key signs (inr (found, inl other)) = other.0 signs.0
  signed_not Secret V1 is key signs (inr (found, inr none)) = signs.1 none.2.0 none.2.1 none.2.2
  signed_not Secret V2 is key signs (inl none) = none.0 (eqb-true (length private) 64 key)
  signed_not Secret V2 is key signs (inr (size, inl short)) = short.0 size
  signed_not Secret V2 is key signs (inr (size, inr none)) = none.2 signs
  signed_not Secret V3 is key signs (inl none) = none.0 tt
  signed_not Secret V3 is key signs (inr (found, inl other)) = other.0 signs.0
  signed_not Secret V3 is key signs (inr (found, inr none)) = signs.1 none.2
  signed_not Secret V4 is key signs (inl none) = none.0 (eqb-true (length private) 64 key)
  signed_not Secret V4 is key signs (inr (size, inl short)) = short.0 size
  signed_not Secret V4 is key signs (inr (size, inr none)) = none.2 signs
  signed_not Local version is key signs declines = absurd (cc is)
  signed_not Public version is key signs declines = absurd (cc is)

module _ (key : HeldKey) (drawn footer assertion text : List ℕ) where
  -- a text that has a token is not declined
  pub token_not_declined : (wanted : Wanted) → key_fault wanted key ≡ None → HasToken key drawn footer assertion text → (refusal : Refusal)
      → IsDeclined (writes key drawn footer assertion) (has_bytes footer) text refusal → ⊥
  token_not_declined wanted fine (inl sealed) refusal declined =
      sealed_not _ _ footer assertion (has_bytes footer) text declined.error _ _ sealed.1.0 sealed.0 sealed.1.1 declined.declines
  token_not_declined wanted fine (inr signed) refusal declined =
      signed_not _ _ footer assertion (has_bytes footer) text declined.error _ _ signed.0 (used_key wanted key fine) signed.1 declined.declines

  -- why a key is used
  pub writing_fine : (wanted : Wanted) → writing_fault wanted key drawn assertion ≡ None → key_fault wanted key ≡ None
  writing_fine wanted fine =
      (first_none (key_fault wanted key) _ (first_none (bound_fault wanted key assertion) (drawn_fault (taken key) drawn) fine).0).0

  writing_suits : (wanted : Wanted) → writing_fault wanted key drawn assertion ≡ None → is_wanted wanted (type_by key.kind) ≡ true
  writing_suits wanted fine = (suits wanted key assertion (first_none (bound_fault wanted key assertion) (drawn_fault (taken key) drawn) fine).0).0

  pub write_whole : (wanted : Wanted) (result : _) → IsMade (writing wanted key drawn text footer assertion) result
      → IsMadeWholeWhere (HasToken key drawn footer assertion text) (writing wanted key drawn text footer assertion) result
  write_whole wanted result made = whole_where _ _
      (λ refusal taken has declined. absurd (token_not_declined wanted (writing_fine wanted taken.fine) has refusal declined))
      (λ refusal line taken has none. absurd none) result made

  -- what a key for local tokens makes of a text is a token of it
  pub sealed_whole : (status : ℕ)
      → IsWholeWhere (HasToken key drawn footer assertion text) (writing LocalKeys key drawn text footer assertion) status
      → IsWhole (writing LocalKeys key drawn text footer assertion) status
  sealed_whole status whole = λ token makes.
      whole makes.taken (inl (is_local _ (writing_suits LocalKeys makes.taken.fine), (token, makes.makes)))

  -- what a private key signs has a token
  pub signed_whole : (status : ℕ)
      → IsWholeWhere (HasToken key drawn footer assertion text) (writing SecretKeys key drawn text footer assertion) status
      → IsWholeWhere (SignsText key footer assertion text) (writing SecretKeys key drawn text footer assertion) status
  signed_whole status whole = λ is_taken signs.
      whole is_taken (inr (is_secret _ (writing_suits SecretKeys is_taken.fine), signs))

-- ---- claims

same_members : (text : List ℕ) (one other : Members) → read text ≡ Some (object one) → read text ≡ Some (object other) → one ≡ other
same_members text one other first second = let same : Some (object one) ≡ Some (object other) = sym first ∙ second in cc

same_next : (outcome : Outcome) (one two : Members) → outcome ≡ becomes one → outcome ≡ becomes two → one ≡ two
same_next outcome one two a b = let same : becomes one ≡ becomes two = sym a ∙ b in cc

-- the claims of three moments are the same
same_times : (last issued first : ℤ) (one two : Members) → AreMomentClaims last issued first one → AreMomentClaims last issued first two → one ≡ two
same_times last issued first one two a b =
    rw (
      a.is,
      b.is,
      same_text last a.end b.end a.is_end b.is_end,
      same_text issued a.issue b.issue a.is_issue b.is_issue,
      same_text first a.begin b.begin a.is_begin b.is_begin,
    ) refl

same_claims : (found : Members) (now : ℤ) (one two : Members) → AreClaims found now one → AreClaims found now two → one ≡ two
same_claims found now one two a b =
    let times = same_times _ _ _ a.times b.times a.are_times b.are_times in
    same_next (all_set found b.times) one two (sym (ap (all_set found) times) ∙ a.are_set) b.are_set

-- a number of 64 bits, and those an hour after it and a second before it, are moments
pub are_moments : (now : ℤ) → FitsSigned w64 now → AreMoments now
are_moments now fits = record {
  end = (omega (arith, ints), omega (arith, ints));
  issue = (omega (arith, ints), omega (arith, ints));
  begin = (omega (arith, ints), omega (arith, ints));
}

-- what is issued is not refused
issued_not : (text : List ℕ) (now : ℤ) (Has : List ℕ → Type 0) → AreMoments now → IsIssued text now Has → (refusal : Refusal)
    → IsIssuingFault text now refusal → ⊥
issued_not text now Has moments issued refusal (no_object none) = none issued.members issued.is_object
issued_not text now Has moments issued refusal (no_moment found is none) = none moments
issued_not text now Has moments issued refusal (no_claim found own is at fault) =
    let same = same_members text found issued.members is issued.is_object in
    let set = all_set-fault issued.members _ issued.are_claims.times fault.fault (rw same at fault.is_fault) in
    let apart : refused_for fault.fault ≡ becomes issued.claims = sym set ∙ issued.are_claims.are_set in
    cc

issued_same : (text : List ℕ) (now : ℤ) (One Two : List ℕ → Type 0) → ((made : List ℕ) → One made → Two made → ⊥)
    → IsIssued text now One → IsIssued text now Two → ⊥
issued_same text now One Two apart a b =
    let found = same_members text a.members b.members a.is_object b.is_object in
    let claims = same_claims b.members now a.claims b.claims (subst (λ (m : Members). AreClaims m now a.claims) found a.are_claims) b.are_claims in
    apart (payload b.claims) (subst (λ (c : Members). One (payload c)) claims a.makes) b.makes

pub issue_whole : (key : HeldKey) (drawn text : List ℕ) (now : ℤ) (footer assertion : List ℕ) → AreMoments now
    → (result : _) → IsMade (issuing key drawn text now footer assertion) result
    → IsMadeWholeWhere (IsIssued text now (HasToken key drawn footer assertion)) (issuing key drawn text now footer assertion) result
issue_whole key drawn text now footer assertion moments result made = whole_where _ _
    (λ refusal is_taken issued found. elim found [
      | inl fault ↦ absurd (issued_not text now _ moments issued refusal fault)
      | inr declined ↦ absurd (issued_same text now _ _
          (λ made has no. token_not_declined key drawn footer assertion made Writers (writing_fine key drawn footer assertion made Writers is_taken.fine) has refusal no)
          issued declined)
    ])
    (λ refusal line is_taken issued none. absurd none) result made
