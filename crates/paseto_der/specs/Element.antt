-- Elements of the distinguished encoding of ASN.1 (X.690).
use Rattle.std.specs.Prelude.{ℕ, ◌+◌, ◌*◌, ◌/◌, ◌%◌, List, [], ◌∷◌, ◌++◌, length, take, drop, slice_index, nat_eq, nat_lt, if◌then◌else◌}

-- the length octets of a length below 65,536, as few as there can be (8.1.3 and 10.1)
unfoldable pub der_length : ℕ → List ℕ
der_length n =
    if nat_lt n 128
    then n ∷ []
    else (if nat_lt n 256 then 0x81 ∷ n ∷ [] else 0x82 ∷ n / 256 ∷ n % 256 ∷ [])

-- an element: its tag, the length of its contents, and these (8.1.1)
unfoldable pub element : ℕ → List ℕ → List ℕ
element tag contents = (tag ∷ der_length (length contents)) ++ contents

-- the length that octets begin with, and how many octets tell it
unfoldable pub length_of : List ℕ → ℕ
length_of octets =
    if nat_lt (slice_index octets 0) 128
    then slice_index octets 0
    else (if nat_eq (slice_index octets 0) 0x81 then slice_index octets 1 else 256 * slice_index octets 1 + slice_index octets 2)

unfoldable pub length_size : List ℕ → ℕ
length_size octets =
    if nat_lt (slice_index octets 0) 128 then 1 else (if nat_eq (slice_index octets 0) 0x81 then 2 else 3)

-- the contents of the element that octets begin with, and what stands behind it
abbrev pub contents_of : List ℕ → List ℕ
contents_of octets = let rest = drop 1 octets in take (length_of rest) (drop (length_size rest) rest)

abbrev pub behind_of : List ℕ → List ℕ
behind_of octets = let rest = drop 1 octets in drop (length_size rest + length_of rest) rest
