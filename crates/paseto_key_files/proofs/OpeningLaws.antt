-- How a key file is opened.
use Rattle.std.proofs.Common.{◌≡◌, ℕ, ◌==◌, List, ◌++◌, if◌then◌else◌, get_or, Some, Bor, Result, Ok, Err, IfOk, IfErr, String, Global, string_bytes, inl, inr, refl, sym, ap, subst, subst₂, ◌∙◌}
use Rattle.paseto_pem.specs.Text.{HoldsPem}
use Rattle.rusty_paseto_paserk.specs.declared.header.PaserkVersion.{PaserkVersion}
use Rattle.rusty_paseto_paserk.specs.declared.header.PaserkVersion.TheVariants.{V1, V2, V3, V4}
use Rattle.paseto_wrapping.specs.declared.header.WrappedType.{WrappedType}
use Rattle.paseto_wrapping.specs.declared.header.WrappedType.TheVariants.{LocalWrap, SecretWrap, LocalPassword, SecretPassword, Seal}
use Rattle.paseto_wrapping.specs.Header.{HasHeader, HasNoHeader, header}
use Rattle.paseto_key_files.specs.declared.error.KeyFileError.{KeyFileError}
use Rattle.paseto_key_files.specs.declared.error.KeyFileError.TheVariants.{Memory}
use Rattle.paseto_key_files.specs.declared.openers.Openers.{Openers}
use Rattle.paseto_key_files.specs.Error.{IsMemory}
use Rattle.rusty_paseto_paserk.specs.declared.header.PaserkType.TheVariants.{Local}
use Rattle.paseto_key_files.specs.Held.{GivesLine, HoldsKey, HoldsNoKey}
use Rattle.paseto_key_files.specs.Line.{IsLocalKey, IsPrivateKey, private_line, without_line_end}
use Rattle.paseto_key_files.specs.Pem.{PemLine, PemLineFault}
use Rattle.paseto_key_files.specs.Opening.{ByKey, ByNoKey, InForm, IsInForm, OpensAs, OpensAsNone, OpensLine, OpensNoLine, PasswordFaults, PieFaults, Pies, UnderPassword, Unlocks, UnlocksNone}

-- the version and the type that a line begins with, by some bytes of each
version_at : List ℕ → PaserkVersion
version_at line = if get_or line 1 0 == 49 then V1 else if get_or line 1 0 == 50 then V2 else if get_or line 1 0 == 51 then V3 else V4

kind_at : List ℕ → WrappedType
kind_at line =
    if get_or line 3 0 == 108 then (if get_or line 9 0 == 119 then LocalWrap else LocalPassword)
    else (if get_or line 5 0 == 97 then Seal else (if get_or line 10 0 == 119 then SecretWrap else SecretPassword))

version_known : (version : PaserkVersion) (kind : WrappedType) (rest : List ℕ) → version_at (header version kind ++ rest) ≡ version
unfolding version_at
version_known V1 LocalWrap rest = refl
version_known V1 SecretWrap rest = refl
version_known V1 LocalPassword rest = refl
version_known V1 SecretPassword rest = refl
version_known V1 Seal rest = refl
version_known V2 LocalWrap rest = refl
version_known V2 SecretWrap rest = refl
version_known V2 LocalPassword rest = refl
version_known V2 SecretPassword rest = refl
version_known V2 Seal rest = refl
version_known V3 LocalWrap rest = refl
version_known V3 SecretWrap rest = refl
version_known V3 LocalPassword rest = refl
version_known V3 SecretPassword rest = refl
version_known V3 Seal rest = refl
version_known V4 LocalWrap rest = refl
version_known V4 SecretWrap rest = refl
version_known V4 LocalPassword rest = refl
version_known V4 SecretPassword rest = refl
version_known V4 Seal rest = refl

kind_known : (version : PaserkVersion) (kind : WrappedType) (rest : List ℕ) → kind_at (header version kind ++ rest) ≡ kind
unfolding kind_at
kind_known V1 LocalWrap rest = refl
kind_known V1 SecretWrap rest = refl
kind_known V1 LocalPassword rest = refl
kind_known V1 SecretPassword rest = refl
kind_known V1 Seal rest = refl
kind_known V2 LocalWrap rest = refl
kind_known V2 SecretWrap rest = refl
kind_known V2 LocalPassword rest = refl
kind_known V2 SecretPassword rest = refl
kind_known V2 Seal rest = refl
kind_known V3 LocalWrap rest = refl
kind_known V3 SecretWrap rest = refl
kind_known V3 LocalPassword rest = refl
kind_known V3 SecretPassword rest = refl
kind_known V3 Seal rest = refl
kind_known V4 LocalWrap rest = refl
kind_known V4 SecretWrap rest = refl
kind_known V4 LocalPassword rest = refl
kind_known V4 SecretPassword rest = refl
kind_known V4 Seal rest = refl

-- a line begins as a wrapped key of one version and one type
same_header : (version other : PaserkVersion) (kind found : WrappedType) (line : List ℕ) → HasHeader version kind line → HasHeader other found line
    → (version ≡ other) × (kind ≡ found)
same_header version other kind found line is also =
    let headers : header version kind ++ is.0 ≡ header other found ++ also.0 = sym is.1 ∙ also.1 in (
      sym (version_known version kind is.0) ∙ ap version_at headers ∙ version_known other found also.0,
      sym (kind_known version kind is.0) ∙ ap kind_at headers ∙ kind_known other found also.0,
    )

module _ (openers : Openers) (text : List ℕ) where
  -- a line that is opened as the version and the type that it begins as
  module _ (version : PaserkVersion) (kind : WrappedType) (begins : HasHeader version kind text) where
    opens_as : (line : List ℕ) → OpensLine openers text line → OpensAs version kind openers text line
    opens_as line (inl h) =
        let same = same_header h.0 version h.1 kind text h.2 begins in
        subst₂ (λ (v : PaserkVersion) (k : WrappedType). OpensAs v k openers text line) same.0 same.1 h.3
    opens_as line (inr h) = absurd (h.0 version kind begins)

    pub opened_line : (answer : Result (String Global) KeyFileError)
        → GivesLine (OpensAs version kind openers text) (OpensAsNone version kind openers text) answer
        → GivesLine (OpensLine openers text) (OpensNoLine openers text) answer
    opened_line (Ok line) gives = record {
      found = inl (version, kind, begins, gives.found);
      read = λ other h. gives.read other (opens_as other h);
      refused = tt;
    }
    opened_line (Err error) gives = record {
      found = tt;
      read = λ other h. gives.read other (opens_as other h);
      refused = inr (version, kind, begins, gives.refused);
    }

  -- a line that is not locked
  module _ (none : HasNoHeader text) where
    not_opened : (error : KeyFileError) → IsMemory error → GivesLine (OpensLine openers text) (OpensNoLine openers text) (Err error)
    not_opened (Memory source) h = record { found = tt; read = λ line is. tt; refused = inl tt }
    not_opened error h = absurd h

    line_itself : (line : List ℕ) → OpensLine openers text line → text ≡ line
    line_itself line (inl h) = absurd (none h.0 h.1 h.2)
    line_itself line (inr h) = sym h.1

    pub kept_line : (answer : Result (String Global) KeyFileError) → IfOk answer (λ line. string_bytes line ≡ text) → IfErr answer IsMemory
        → GivesLine (OpensLine openers text) (OpensNoLine openers text) answer
    kept_line (Ok line) ok err = record {
      found = inr (none, ok);
      read = λ other h. ok ∙ line_itself other h;
      refused = tt;
    }
    kept_line (Err error) ok err = not_opened error err

-- ---- the same line, by other words

pub gives_same : (A B : List ℕ → Type 0) (F G : KeyFileError → Type 0) → ((line : List ℕ) → A line → B line) → ((line : List ℕ) → B line → A line)
    → ((error : KeyFileError) → F error → G error) → (answer : Result (String Global) KeyFileError) → GivesLine A F answer → GivesLine B G answer
gives_same A B F G there back fault (Ok line) gives = record {
  found = there (string_bytes line) gives.found;
  read = λ other h. gives.read other (back other h);
  refused = tt;
}
gives_same A B F G there back fault (Err error) gives = record {
  found = tt;
  read = λ other h. gives.read other (back other h);
  refused = fault error gives.refused;
}

module _ (version : PaserkVersion) (openers : Openers) (text : List ℕ) (answer : Result (String Global) KeyFileError) where
  pub opens_by_password : (password : Bor (List ℕ)) → openers.password ≡ Some password
      → GivesLine (HoldsKey (IsPrivateKey version) (private_line version) (InForm version (UnderPassword version SecretPassword password.now)) text)
      (HoldsNoKey (IsInForm version) (UnderPassword version SecretPassword password.now) (PasswordFaults version SecretPassword password.now) text) answer
      → GivesLine (OpensAs version SecretPassword openers text) (OpensAsNone version SecretPassword openers text) answer
  opens_by_password password is gives = gives_same _ _ _ _ (λ line h. rw is h) (λ line h. rw is at h) (λ error h. rw is h) answer gives

  pub opens_by_key : (opener : Bor (List ℕ)) → openers.key ≡ Some opener
      → GivesLine (HoldsKey (IsPrivateKey version) (private_line version) (ByKey version Local IsLocalKey (λ (wk : List ℕ). InForm version (Pies version SecretWrap wk)) opener.now) text)
      (ByNoKey version Local IsLocalKey (IsInForm version) (Pies version SecretWrap) (PieFaults version SecretWrap) opener.now text) answer
      → GivesLine (OpensAs version SecretWrap openers text) (OpensAsNone version SecretWrap openers text) answer
  opens_by_key opener is gives = gives_same _ _ _ _ (λ line h. rw is h) (λ line h. rw is at h) (λ error h. rw is h) answer gives

module _ (openers : Openers) (text : List ℕ) (answer : Result (String Global) KeyFileError) where
  pub unlocked_pem : HoldsPem text → GivesLine (PemLine text) (PemLineFault text) answer → GivesLine (Unlocks openers text) (UnlocksNone openers text) answer
  unlocked_pem begins gives = gives_same (PemLine text) (Unlocks openers text) (PemLineFault text) (UnlocksNone openers text) (λ line h. inl (begins, h))
      (λ line h. elim h [ inl is ↦ is.1 | inr is ↦ absurd (is.0 begins) ]) (λ error h. inl (begins, h)) answer gives

  pub unlocked_line : (¬ HoldsPem text) → (line : List ℕ) → line ≡ without_line_end text → GivesLine (OpensLine openers line) (OpensNoLine openers line) answer
      → GivesLine (Unlocks openers text) (UnlocksNone openers text) answer
  unlocked_line none line same gives =
      let own : GivesLine (OpensLine openers (without_line_end text)) (OpensNoLine openers (without_line_end text)) answer =
      subst (λ (l : List ℕ). GivesLine (OpensLine openers l) (OpensNoLine openers l) answer) same gives in
      gives_same (OpensLine openers (without_line_end text)) (Unlocks openers text) (OpensNoLine openers (without_line_end text)) (UnlocksNone openers text) (λ l h. inr (none, h))
      (λ l h. elim h [ inl is ↦ absurd (none is.0) | inr is ↦ is.1 ]) (λ error h. inr (none, h)) answer own
