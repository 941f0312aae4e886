-- What a contract sees of a hasher that takes a message in piece by piece.
use Rattle.std.specs.Prelude.{◌≡◌, ℕ, ◌*◌, ◌/◌, ◌%◌, List, length, take, drop}
use Rattle.paseto_xchacha20poly1305.specs.Limbs.{value}
use Rattle.paseto_xchacha20poly1305.specs.Tag.{absorbed, addend, clamped, prime}
use Rattle.paseto_xchacha20poly1305.specs.declared.hasher.Poly1305Hasher.{Poly1305Hasher}

-- all whole blocks of the message are taken in, and what follows them is held back
unfoldable pub Holds : Poly1305Hasher → List ℕ → List ℕ → Type 0
Holds s key message = (value s.r ≡ clamped key) × (s.s ≡ addend key)
    × (value s.accumulator % prime ≡ absorbed (clamped key) 0 message (length message / 16))
    × (s.held ≡ length message % 16)
    × (take s.held s.buffer ≡ drop (16 * (length message / 16)) message)
