-- The keys that are written are those that are read.
use Rattle.std.proofs.Common.{inl, inr, refl}
use Rattle.std.specs.Prelude.{None}
use Rattle.paseto_der.specs.Element.{element}
use Rattle.paseto_pem.specs.Algorithm.{ed25519}
use Rattle.paseto_pem.specs.Ed25519.{IsPrivateOf as IsEdwardsPrivateOf, IsPrivateForm as IsEdwardsPrivateWritten, IsPublicOf as IsEdwardsPublicOf}
use Rattle.paseto_pem.specs.Key.{IsWithin}
use Rattle.paseto_pem.specs.P384.{IsPrivateOf as IsCurvePrivateOf, IsPrivateForm as IsCurvePrivateWritten, IsPublicOf as IsCurvePublicOf, IsPublicForm as IsCurvePublicWritten, public_part}
use Rattle.paseto_pem.specs.Rsa.{IsHeld, IsPrivateOf as IsRsaPrivateOf, IsPrivateForm as IsRsaPrivateWritten, IsPublicOf as IsRsaPublicOf, IsPublicForm as IsRsaPublicWritten}
use Rattle.std.proofs.Common.{◌∷◌, sym, subst}
use Rattle.paseto_pem.specs.P384.{IsForm}
use Rattle.paseto_pem.specs.declared.label.Label.{Label}
use Rattle.paseto_pem.proofs.InfoLaws.{private-info}
use Rattle.paseto_pem.proofs.P384Laws.{written-form}
use Rattle.paseto_pem.proofs.RsaLaws.{inner-written}

pub edwards_private_is_read : IsWithin IsEdwardsPrivateWritten IsEdwardsPrivateOf
edwards_private_is_read label contents key p = record {
  is_private = p.is_private;
  seed = p.seed;
  public = None;
  written = record { size = p.size; info = private-info ed25519 (element 0x04 p.seed) contents p.written };
  half = tt;
  halves = p.halves;
  whole = p.whole;
}

pub edwards_public_is_read : IsWithin IsEdwardsPublicOf IsEdwardsPublicOf
edwards_public_is_read label contents key p = p

pub curve_private_is_read : IsWithin IsCurvePrivateWritten IsCurvePrivateOf
curve_private_is_read label contents key p = record {
  xy = p.xy;
  point = p.point;
  number = key;
  told = inl refl;
  rest = public_part p.xy;
  public = None;
  form = subst (λ (l : Label). IsForm l contents key (public_part p.xy) None) (sym p.is_private) (written-form contents key p.xy p.written);
  halves = (inr refl, tt);
}

pub curve_public_is_read : IsWithin IsCurvePublicWritten IsCurvePublicOf
curve_public_is_read label contents key p = record {
  is_public = p.is_public;
  xy = p.xy;
  point = p.point;
  octets = 4 ∷ p.xy;
  written = p.written;
  spelled = inr refl;
}

pub rsa_private_is_read : IsWithin IsRsaPrivateWritten IsRsaPrivateOf
rsa_private_is_read label contents key p = subst (λ (l : Label). IsRsaPrivateOf l contents key) (sym p.is_private) (inner-written contents key p.written p.is_key)

pub rsa_public_is_read : IsWithin IsRsaPublicWritten IsRsaPublicOf
rsa_public_is_read label contents key p = record {
  held = subst (λ (l : Label). IsHeld l contents key) (sym p.is_public) p.written;
  is_key = p.is_key;
}
