-- The header of a known version and purpose.
use Rattle.std.proofs.Common.{◌≡◌, ℕ, true, List}
use Rattle.rusty_paseto_parts.specs.Header.{header_text, is_purpose, is_version}
use Rattle.rusty_paseto_parts.proofs.TokenLemmas.{HasNoDot-purpose, HasNoDot-version, header_text-known}
use Rattle.rusty_paseto_core.specs.Framing.{IsHeader}

pub IsHeader-known : (version purpose : List ℕ) → is_version version ≡ true → is_purpose purpose ≡ true
    → IsHeader version purpose (header_text version purpose)
IsHeader-known version purpose known_version known_purpose = record {
  plain_version = HasNoDot-version version known_version;
  plain_purpose = HasNoDot-purpose purpose known_purpose;
  text = header_text-known version purpose known_version known_purpose;
}
