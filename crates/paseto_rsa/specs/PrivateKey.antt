-- The numbers of a private key that was read. The private exponent is not kept.
use Rattle.std.specs.Prelude.{ℕ}
use Rattle.paseto_montgomery.specs.Words.{value}
use Rattle.paseto_rsa.specs.Keys.{PrivateNumbers}
use Rattle.paseto_rsa.specs.declared.private_key.PrivateKey.{PrivateKey}

abbrev pub private_numbers : PrivateKey → ℕ → PrivateNumbers
private_numbers k exponent = record {
  n = value k.public.modulus.words 32;
  e = k.public.exponent;
  d = exponent;
  p = value k.p.words 16;
  q = value k.q.words 16;
  dp = value k.dp 16;
  dq = value k.dq 16;
  qinv = value k.qinv 16;
}
