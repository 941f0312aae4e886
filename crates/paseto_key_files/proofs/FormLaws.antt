-- Private keys, and the octets that stand for them.
use Rattle.std.proofs.Common.{◌≡◌, ℕ, List, None, inl, inr, refl, sym, ap, subst, ◌∙◌}
use Rattle.base64.specs.GeneralPurpose.{IsBytes}
use Rattle.paseto_rsa.specs.Forms.{private_key_info}
use Rattle.paseto_rsa.specs.Keys.{IsPrivate}
use Rattle.paseto_pem.specs.declared.label.Label.TheVariants.{RsaPrivateKey}
use Rattle.paseto_pem.proofs.RsaBytes.{key-bytes}
use Rattle.paseto_pem.proofs.RsaLaws.{front-is}
use Rattle.paseto_wrapping.specs.Keys.{IsWrappable, IsWrappedForm}
use Rattle.rusty_paseto_paserk.specs.declared.header.PaserkVersion.{PaserkVersion}
use Rattle.rusty_paseto_paserk.specs.declared.header.PaserkVersion.TheVariants.{V1, V2, V3, V4}
use Rattle.rusty_paseto_paserk.specs.Rsa.{IsSecretForm}
use Rattle.paseto_key_files.specs.Line.{IsPrivateKey, IsPrivateLine}

rsa_key : (octets key : List ℕ) → IsSecretForm octets key → IsPrivate key
rsa_key octets key (inl same) = subst IsPrivate (sym same.1) same.0
rsa_key octets key (inr inner) = subst IsPrivate (sym inner.1) inner.0.key

-- octets that stand for a key are those of a private one
pub form_key : (version : PaserkVersion) (octets key : List ℕ) → IsWrappedForm version octets key → IsPrivateKey version key
form_key V1 octets key h = rsa_key octets key h
form_key V2 octets key h = h.1
form_key V3 octets key h = h.1
form_key V4 octets key h = h.1

-- the bytes of a key of RSA are bytes
rsa_bytes : (octets key : List ℕ) → IsBytes octets → IsSecretForm octets key → IsBytes key
rsa_bytes octets key of (inl same) = subst IsBytes (sym same.1) of
rsa_bytes octets key of (inr inner) =
    key-bytes RsaPrivateKey octets key of (record {
      inner = octets;
      public = None;
      form = (refl, refl);
      written = inner.1 ∙ front-is octets;
      is_key = rsa_key octets key (inr inner);
      half = tt;
    })

-- what the line of a private key tells of the key
pub line_bytes : (version : PaserkVersion) (key line : List ℕ) → IsPrivateLine version key line → IsBytes key
line_bytes V1 key line is = rsa_bytes is.octets key is.bytes is.form
line_bytes V2 key line is = is.bytes
line_bytes V3 key line is = is.bytes
line_bytes V4 key line is = is.bytes

pub line_key : (version : PaserkVersion) (key line : List ℕ) → IsPrivateLine version key line → IsPrivateKey version key
line_key V1 key line is = rsa_key is.octets key is.form
line_key V2 key line is = is.form
line_key V3 key line is = is.form
line_key V4 key line is = is.form

pub line_wrappable : (version : PaserkVersion) (key line : List ℕ) → IsPrivateLine version key line → IsWrappable version key
line_wrappable V1 key line is = rsa_key is.octets key is.form
line_wrappable V2 key line is = tt
line_wrappable V3 key line is = tt
line_wrappable V4 key line is = tt
