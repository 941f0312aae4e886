-- Texts of RFC 7468. What is written has the strict form (section 3, figure 3); what is read may have text before its block,
-- lines of any length up to 76, and each line may end in LF or in CR and LF, the last one also in neither.
use Rattle.std.specs.Prelude.{◌≡◌, ℕ, zero, suc, ◌≤◌, List, [], ◌∷◌, ◌++◌, All, Any, codes, length, map}
use Rattle.std.specs.Borrow.{Bor}
use Rattle.std.specs.List.{concat}
use Rattle.std.specs.Str.Lines.{lines as lines_of}
use Rattle.base64.specs.Engines.{standard}
use Rattle.base64.specs.GeneralPurpose.{encode_of}
use Rattle.paseto_pem.specs.Label.{begin_boundary, end_boundary}
use Rattle.paseto_pem.specs.declared.label.Label.{Label}

-- base64 with padding (RFC 4648, section 4)
unfoldable pub base64 : List ℕ → List ℕ
base64 octets = encode_of standard octets

-- ---- what is written

-- the rest of a text in lines, where so many characters have room in the first of them
unfoldable pub lines_from : ℕ → List ℕ → List ℕ
lines_from room [] = 10 ∷ []
lines_from zero (c ∷ text) = 10 ∷ c ∷ lines_from 63 text
lines_from (suc room) (c ∷ text) = c ∷ lines_from room text

-- a text in lines of 64 characters, the last of which may be shorter (strictbase64text)
unfoldable pub lines : List ℕ → List ℕ
lines [] = []
lines (c ∷ text) = c ∷ lines_from 63 text

-- the text of contents (stricttextualmsg), as `openssl pkey` writes it: each line ends in LF
abbrev pub pem : Label → List ℕ → List ℕ
pem label contents =
    (begin_boundary label ++ 10 ∷ []) ++ (lines (base64 contents) ++ (end_boundary label ++ 10 ∷ []))

-- ---- what is read

-- the line begins a block (section 3, preeb)
abbrev pub IsBegin : List ℕ → Type 0
IsBegin line = (rest : List ℕ) × (line ≡ codes "-----BEGIN " ++ rest)

-- a line of the text begins a block, of whatever label
abbrev pub HoldsPem : List ℕ → Type 0
HoldsPem text = Any IsBegin (lines_of text)

-- the line may stand before the block of a key: data before the encapsulation boundaries are permitted (section 2). So is a
-- block of parameters, which names the curve of the key behind it (RFC 5480, section 2.1.1) and tells nothing more than it
unfoldable pub IsPassed : List ℕ → Type 0
IsPassed line = IsBegin line → line ≡ codes "-----BEGIN EC PARAMETERS-----"

-- the first line that begins the block of a key, and the lines behind it
pub record FirstBlock (all : List (List ℕ)) (first : List ℕ) (behind : List (List ℕ)) : Type 0 where
  pub before : List (List ℕ)
  pub passed : All IsPassed before
  pub split : all ≡ before ++ (first ∷ behind)
  pub begins : ¬ IsPassed first

-- a line of base64 (base64line)
pub record IsBase64Line (line : List ℕ) : Type 0 where
  pub some : 1 ≤ length line
  pub most : length line ≤ 76

-- the lines are those of contents and the last line of a block (base64text, posteb)
pub record IsBody (label : Label) (contents : List ℕ) (behind : List (List ℕ)) : Type 0 where
  pub body : List (List ℕ)
  pub wide : All IsBase64Line body
  pub split : behind ≡ body ++ (end_boundary label ∷ [])
  pub told : concat body ≡ base64 contents

-- the text is one of contents: its first block is theirs, and nothing stands behind it
pub record IsPem (label : Label) (contents text : List ℕ) : Type 0 where
  pub behind : List (List ℕ)
  pub first : FirstBlock (lines_of text) (begin_boundary label) behind
  pub block : IsBody label contents behind

-- behind the first line of a block another one begins
abbrev pub HasSecond : List (List ℕ) → Type 0
HasSecond behind = (second : List ℕ) × (others : List (List ℕ)) × FirstBlock behind second others

-- the block of a key has another one behind it
abbrev pub HasTwoKeys : List ℕ → Type 0
HasTwoKeys text = (first : List ℕ) × (behind : List (List ℕ)) × FirstBlock (lines_of text) first behind × HasSecond behind

-- the key of a block is encrypted as before PKCS #8, which its first header says (RFC 1421, section 4.6.1.1)
abbrev pub BeginsOldEncrypted : List (List ℕ) → Type 0
BeginsOldEncrypted behind = (rest : List (List ℕ)) × (behind ≡ codes "Proc-Type: 4,ENCRYPTED" ∷ rest)

abbrev pub IsOldEncrypted : List ℕ → Type 0
IsOldEncrypted text = (first : List ℕ) × (behind : List (List ℕ)) × FirstBlock (lines_of text) first behind × BeginsOldEncrypted behind

-- the texts that are borrowed
abbrev pub texts : List (Bor (List ℕ)) → List (List ℕ)
texts words = map (λ word. word.now) words
