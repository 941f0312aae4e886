-- What is said of the bytes that were read.
use Rattle.std.proofs.Common.{◌≡◌, ◌⊎◌, ◌<◌, inl, inr, ℕ, List, [], length, length-append, Option, None, Some, IfSome, refl, subst, arith}
use Rattle.std.specs.Io.KnownBytes.{Consumes}
use Rattle.paseto_tasks.specs.declared.error.ProgramError.{ProgramError}
use Rattle.paseto_tasks.specs.Input.{OfInput}

-- what is so of some bytes is so of the known input
pub of_known : (known : Option (List ℕ)) (P : List ℕ → Type 0) → OfInput known P → IfSome known P
of_known None P is = tt
of_known (Some bytes) P is = subst P is.1 is.2

-- what is so of the bytes that were read is so of more
pub of_more : (known : Option (List ℕ)) (P Q : List ℕ → Type 0) → ((bytes : List ℕ) → P bytes → Q bytes) → OfInput known P → OfInput known Q
of_more known P Q more is = (is.0, is.1, more is.0 is.2)

-- an input is some bytes, of which what holds of all holds
pub some_input : (known : Option (List ℕ)) (P : List ℕ → Type 0) → ((bytes : List ℕ) → P bytes) → OfInput known P
some_input None P all = ([], tt, all [])
some_input (Some bytes) P all = (bytes, refl, all bytes)

-- why nothing is made of an input, in more words
pub refused_more : (known : Option (List ℕ)) (P Q : List ℕ → Type 0) {F : Type 0} → ((bytes : List ℕ) → P bytes → Q bytes) → OfInput known P ⊎ F → OfInput known Q ⊎ F
refused_more known P Q more (inl is) = inl (of_more known P Q more is)
refused_more known P Q more (inr fails) = inr fails

-- an input of which more was read than this is longer
pub long_input : (error : ProgramError) (known new : Option (List ℕ)) (read : List ℕ) (longest : ℕ) → Consumes known new read → longest < length read
    → OfInput known (λ bytes. (error ≡ error) × (longest < length bytes))
long_input error None new read longest is long = (read, tt, (refl, long))
long_input error (Some all) None read longest is long = absurd is
long_input error (Some all) (Some rest) read longest is long = (all, refl, (refl, rw is (omega (arith, long, length-append read rest))))
