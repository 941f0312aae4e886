use Rattle.std.proofs.Common.{refl}
use Rattle.paseto_wrapping.specs.Keys.{wrapped_form}
use Rattle.paseto_wrapping.specs.Laws.{PrivateWrappedUnwrap, WrappedUnwrap}
use Rattle.paseto_wrapping.specs.declared.header.WrappedType.TheVariants.{SecretWrap}
use Rattle.paseto_wrapping.proofs.KeyLaws.{wrapped_bytes, wrapped_is_form}
use Rattle.paseto_wrapping.proofs.Pies.{IsBytes-payload}
use Rattle.paseto_wrapping.proofs.laws.wrapped_keys_unwrap.Goals as goal

of_bytes : WrappedUnwrap
of_bytes version kind wk n ptk nonce bytes =
    (_, (IsBytes-payload version kind wk n ptk nonce.0 bytes, refl), (n, nonce, refl))

of_key : PrivateWrappedUnwrap
of_key version wk n key nonce bytes is =
    let octets = wrapped_form version key in
    let held = wrapped_bytes version key bytes in
    (octets, held, of_bytes version SecretWrap wk n octets nonce held, wrapped_is_form version key bytes is)

pub returns : goal.returns
returns c = record { bytes = of_bytes; private = of_key }
