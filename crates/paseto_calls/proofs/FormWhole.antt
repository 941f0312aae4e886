-- Where a key has a text in another form than its line, nothing is refused but memory.
use Rattle.std.proofs.Common.{◌≡◌, ◌∙◌, inl, inr, ℕ, List, Bool, MatchBool, refl, sym, true, false}
use Rattle.std.proofs.lemmas.Bool.{false≢true}
use Rattle.paseto_wrapping.specs.Family.{family_of}
use Rattle.paseto_wrapping.specs.Sealing.{IsSealFault, IsSealed}
use Rattle.paseto_wrapping.specs.declared.error.WrapError.{WrapError}
use Rattle.paseto_wrapping.specs.declared.error.WrapError.TheVariants as Wrapped
use Rattle.rusty_paseto_paserk.specs.declared.header.PaserkType.{PaserkType}
use Rattle.rusty_paseto_paserk.specs.declared.header.PaserkType.TheVariants.{Local, Secret, Public}
use Rattle.rusty_paseto_paserk.specs.declared.header.PaserkVersion.{PaserkVersion}
use Rattle.rusty_paseto_paserk.specs.declared.header.PaserkVersion.TheVariants.{V1, V2, V3, V4}
use Rattle.paseto_keys.specs.AnyKey.{KeyParts}
use Rattle.paseto_calls.specs.KeyCalls.{HasLine, IsLineless, IsNoPemOf, IsPemOf, pem_writing, protecting, sealing, wrapping}
use Rattle.paseto_calls.specs.Refusal.{wrap_refusal}
use Rattle.paseto_calls.specs.declared.held_key.HeldKey.{HeldKey}
use Rattle.paseto_calls.specs.declared.refusal.Refusal.{Refusal}
use Rattle.paseto_calls.specs.declared.refusal.Refusal.TheVariants.{Memory}
use Rattle.paseto_calls.proofs.KeyWhole.{has_line}
use Rattle.paseto_calls.proofs.Whole.{AreApart}

pem_not : (kind : PaserkType) (version : PaserkVersion) (bytes text : List ℕ) (refusal : Refusal) → IsPemOf kind version bytes text
    → IsNoPemOf kind version bytes refusal → ⊥
pem_not Local version bytes text refusal is none = is
pem_not Secret V1 bytes text refusal is none = none.1 is.contents is.held
pem_not Secret V2 bytes text refusal is none = is
pem_not Secret V3 bytes text refusal is none = none.1 is.contents is.held
pem_not Secret V4 bytes text refusal is none = none.1 is.contents is.held
pem_not Public V1 bytes text refusal is none = none.1 is.contents is.held
pem_not Public V2 bytes text refusal is none = is
pem_not Public V3 bytes text refusal is none = none.1 is.contents is.held
pem_not Public V4 bytes text refusal is none = none.1 is.contents is.held

pub pem_apart : (key : HeldKey) → AreApart (pem_writing key)
pem_apart key = record {
  refuses = λ text refusal taken is none. absurd (pem_not _ _ _ text refusal is none);
  tells = λ text refusal line taken is none. absurd none;
}

-- a key that has a line is not refused for want of one
lined_not : (key : KeyParts) (refusal : Refusal) → HasLine key → IsLineless key refusal → ⊥
lined_not key refusal is none = has_line key.kind key.version key.bytes is.0 none.0 is.1 none.1

pub protecting_apart : (key : HeldKey) (password drawn : List ℕ) → AreApart (protecting key password drawn)
protecting_apart key password drawn = record {
  refuses = λ text refusal taken is none. elim none [
    | inl lineless ↦ absurd (lined_not _ refusal is.0 lineless)
    | inr long ↦ absurd (long.1 is.1)
  ];
  tells = λ text refusal line taken is none. absurd none;
}

-- what a test says
pub holds : (b : Bool) (P Q : Type 0) → MatchBool b P Q → b ≡ true → P
holds true P Q is test = is
holds false P Q is test = absurd (false≢true test)

pub fails : (b : Bool) (P Q : Type 0) → MatchBool b P Q → b ≡ false → Q
fails true P Q is test = absurd (false≢true (sym test))
fails false P Q is test = is

pub wrapping_apart : (key other : HeldKey) (drawn : List ℕ) → AreApart (wrapping key other drawn)
wrapping_apart key other drawn = record {
  refuses = λ text refusal taken is none. elim none [
    | inl lineless ↦ absurd (lined_not _ refusal is.0 lineless)
    | inr apart ↦ absurd (apart.1 is.1)
  ];
  tells = λ text refusal line taken is none. absurd none;
}

sealed_memory : (version : PaserkVersion) (point ephemeral key text : List ℕ) (error : WrapError) → IsSealed version point ephemeral key text
    → IsSealFault (family_of version) point ephemeral error → wrap_refusal error ≡ Memory
sealed_memory version point ephemeral key text (Wrapped.Memory source) is none = refl
sealed_memory version point ephemeral key text Wrapped.InvalidPrivateKey is none = absurd (none is.1.0)
sealed_memory version point ephemeral key text Wrapped.InvalidPoint is none = absurd (none.1 is.1.1)
sealed_memory version point ephemeral key text Wrapped.SmallOrder is none = elim none.2 [
  | inl small ↦ absurd (is.1.2 small)
  | inr unshared ↦ absurd (unshared is.1.3.0 is.1.3.1)
]
sealed_memory version point ephemeral key text error is none = absurd none

pub sealing_apart : (key other : HeldKey) (drawn : List ℕ) → AreApart (sealing key other drawn)
sealing_apart key other drawn = record {
  refuses = λ text refusal taken is none. elim none [
    | inl apart ↦ absurd (false≢true (sym apart.0 ∙ is.0))
    | inr found ↦ found.1.2 ∙ sealed_memory _ _ _ _ text found.1.0 is.1 found.1.1
  ];
  tells = λ text refusal line taken is none. absurd none;
}
