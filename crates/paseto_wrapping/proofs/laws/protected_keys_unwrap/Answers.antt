use Rattle.std.proofs.Common.{refl}
use Rattle.paseto_wrapping.specs.Keys.{wrapped_form}
use Rattle.paseto_wrapping.specs.Laws.{PrivateProtectedUnwrap, ProtectedUnwrap}
use Rattle.paseto_wrapping.specs.declared.header.WrappedType.TheVariants.{SecretPassword}
use Rattle.paseto_wrapping.proofs.KeyLaws.{wrapped_bytes, wrapped_is_form}
use Rattle.paseto_wrapping.proofs.Protected.{IsBytes-protected}
use Rattle.paseto_wrapping.proofs.laws.protected_keys_unwrap.Goals as goal

of_bytes : ProtectedUnwrap
of_bytes version kind password most cost s n ptk short granted salt nonce bytes = (
  _,
  (IsBytes-protected version kind password cost s n ptk salt.0 nonce.0 bytes, refl),
  record { short = short; cost = cost; granted = granted; s = s; n = n; salt = salt; nonce = nonce; made = refl },
)

of_key : PrivateProtectedUnwrap
of_key version password most cost s n key short granted salt nonce bytes is =
    let octets = wrapped_form version key in
    let held = wrapped_bytes version key bytes in
    (octets, held, of_bytes version SecretPassword password most cost s n octets short granted salt nonce held, wrapped_is_form version key bytes is)

pub returns : goal.returns
returns c = record { bytes = of_bytes; private = of_key }
