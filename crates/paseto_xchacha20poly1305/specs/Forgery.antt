-- What a forgery of the box shows: a tag of Poly1305 under the one-time key of a nonce (RFC 8439, sections 2.5 and 2.8).
use Rattle.std.specs.Prelude.{◌≡◌, ◌≢◌, ℕ, List, ◌++◌, All}
use Rattle.rusty_paseto_core.specs.Local.BoxForgery.{BoxOpens, IsBoxForgery}
use Rattle.rusty_paseto_core.specs.Local.Boxed.{associated}
use Rattle.rusty_paseto_core.specs.Local.TagCollision.{Case}
use Rattle.rusty_paseto_core.specs.declared.local.box_forgery.BoxForgery.{BoxForgery}
use Rattle.paseto_xchacha20poly1305.specs.Sealing.{box_sealing, one_time_key, tagged_data, xored_text}
use Rattle.paseto_xchacha20poly1305.specs.Tag.{poly1305}

-- the token opens, and if it has this key and nonce, its tag does not cover this message
pub record IsUntagged (key nonce message : List ℕ) (one : Case) : Type 0 where
  pub opens : BoxOpens box_sealing one
  pub apart : (p : BoxOpens box_sealing one) → one.binding.key ≡ key → p.0.nonce ≡ nonce
      → tagged_data (associated p.0.nonce one.binding.footer) (xored_text one.binding.key p.0.nonce p.0.text) ≢ message

-- the sealing that was found is a ciphertext and a tag of Poly1305, under the one-time key of the token's key and nonce, of a
-- message that the tag of no token which was issued with that key and nonce covers
pub record IsTagForgery (issued : List Case) (case : Case) (found : BoxForgery) : Type 0 where
  pub ciphertext : List ℕ
  pub tag : List ℕ
  pub sealing : found.sealing.items ≡ ciphertext ++ tag
  pub is_tag : tag ≡ poly1305 (one_time_key case.binding.key found.nonce) (tagged_data found.encoding ciphertext)
  pub fresh : All (IsUntagged case.binding.key found.nonce (tagged_data found.encoding ciphertext)) issued

-- what is a forgery of the box is one of Poly1305
abbrev pub ForgeriesAreTags : Type 0
ForgeriesAreTags = (issued : List Case) (case : Case) (found : BoxForgery) → IsBoxForgery box_sealing issued case found
    → IsTagForgery issued case found
