-- Reading a key from its hexadecimal digits.
use Rattle.std.specs.Prelude.{◌≡◌, ◌↔◌, ℕ, ◌*◌, List, length, Result, Ok, IsOk, IfOk, IfErr}
use Rattle.std.specs.List.{AllPass}
use Rattle.hex.specs.Hex.{decode_of, is_hex_digit}
use Rattle.rusty_paseto_parts.specs.declared.error.PasetoError.{PasetoError}
use Rattle.rusty_paseto_parts.specs.declared.error.PasetoError.TheVariants.{InvalidKey}

-- the text is 2 n hexadecimal digits, of either case
abbrev pub IsKeyText : ℕ → List ℕ → Type 0
IsKeyText n text = (length text ≡ 2 * n) × AllPass is_hex_digit text

-- the answer for a text is the bytes that its digits say, exactly where it has the digits of n bytes
pub record ReadsKey (n : ℕ) (text : List ℕ) (answer : Result (List ℕ) PasetoError) : Type 0 where
  pub read : IsOk answer ↔ IsKeyText n text
  pub bytes : IfOk answer (λ key. decode_of text ≡ Ok key)
  pub refused : IfErr answer (λ error. error ≡ InvalidKey)
