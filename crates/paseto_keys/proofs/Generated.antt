-- New private keys of Ed25519.
use Rattle.std.proofs.Common.{◌≡◌, ◌∙◌, ◌++◌, ℕ, List, length, take, drop, Result, Ok, Err, IfOk, IfErr, ap, arith, inl, sym}
use Rattle.std.proofs.lemmas.List.{length-take-le, take-append-drop}
use Rattle.paseto_ed25519.specs.Ed25519.{ed25519_public}
use Rattle.rusty_paseto_paserk.specs.declared.header.PaserkType.TheVariants.{Secret}
use Rattle.rusty_paseto_paserk.specs.declared.header.PaserkVersion.{PaserkVersion}
use Rattle.paseto_keys.specs.AnyKey.{key_parts, parts_of}
use Rattle.paseto_keys.specs.Error.{IsMemory}
use Rattle.paseto_keys.specs.Generation.{IsNew, IsNewEd25519, IsNoKey}
use Rattle.paseto_keys.specs.declared.any_key.AnyKey.{AnyKey}
use Rattle.paseto_keys.specs.declared.error.KeyError.{KeyError}

first_32 : (key : List ℕ) → length key ≡ 64 → length (take 32 key) ≡ 32
first_32 key size = length-take-le 32 key (omega (arith, size))

pub new_ed25519 : (version : PaserkVersion) (private : List ℕ) (IsDrawn : List ℕ → Type 0) (Failure : Type 0) → IsDrawn (take 32 private)
    → length private ≡ 64 → drop 32 private ≡ ed25519_public (take 32 private) → (answer : Result AnyKey KeyError)
    → IfOk answer (λ key. parts_of key ≡ key_parts Secret version private) → IfErr answer IsMemory
    → IsNew Secret version IsNewEd25519 IsNoKey IsDrawn Failure answer
new_ed25519 version private IsDrawn Failure drawn size half (Ok key) ok err = record {
  made = (
    take 32 private,
    private,
    drawn,
    (first_32 private size, sym (take-append-drop 32 private) ∙ ap (λ rest. take 32 private ++ rest) half),
    ok,
  );
  none = tt;
}
new_ed25519 version private IsDrawn Failure drawn size half (Err error) ok err = record { made = tt; none = inl err }
