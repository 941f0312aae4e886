-- INTEGERs of the distinguished encoding of ASN.1 (X.690).
use Rattle.std.specs.Prelude.{◌≡◌, ℕ, ◌<◌, ◌≤◌, List, [], ◌∷◌, ◌++◌, length, slice_index}
use Rattle.paseto_der.specs.Element.{element}
use Rattle.paseto_montgomery.specs.Octets.{os2ip}

-- octets are the contents of an INTEGER that is not negative: there are some, and the first bit, the sign, is zero; where
-- there are more than one, the first nine bits are not all zero (8.3.2 and 8.3.3)
pub record IsShortest (contents : List ℕ) : Type 0 where
  pub some : 0 < length contents
  pub positive : slice_index contents 0 < 128
  pub least : 1 < length contents → slice_index contents 0 ≡ 0 → 128 ≤ slice_index contents 1

-- the INTEGER of a number stands at the front of octets, and these behind it
pub record IsInteger (number : ℕ) (behind octets : List ℕ) : Type 0 where
  pub contents : List ℕ
  pub shortest : IsShortest contents
  pub value : os2ip contents ≡ number
  pub written : octets ≡ element 0x02 contents ++ behind

-- octets are the INTEGERs of these numbers, and others behind them
unfoldable pub AreIntegers : List ℕ → List ℕ → List ℕ → Type 0
AreIntegers [] behind octets = octets ≡ behind
AreIntegers (x ∷ xs) behind octets = (rest : List ℕ) × (IsInteger x rest octets × AreIntegers xs behind rest)

-- octets are a SEQUENCE of the INTEGERs of these numbers (8.9 and 8.10)
pub record IsSequence (numbers octets : List ℕ) : Type 0 where
  pub contents : List ℕ
  pub written : octets ≡ element 0x30 contents
  pub integers : AreIntegers numbers [] contents
