-- The parts of the payload of a key under a wrapping key.
use Rattle.std.proofs.Common.{◌≡◌, ◌⊎◌, ℕ, ◌<◌, ◌≤◌, List, ◌∷◌, ◌++◌, length, take, drop, Result, Ok, Err, IfOk, IfErr, inl, inr, refl, sym, ap, subst, ◌∙◌, arith, append_assoc, length-append, length-drop}
use Rattle.std.proofs.lemmas.List.{take_at, drop_at, take-append-drop, length-take-le}
use Rattle.std.specs.declared.alloc.Global.{Global}
use Rattle.std.specs.declared.vec.Vec.{Vec}
use Rattle.rusty_paseto_primitives.specs.Bytes.{IsBytes}
use Rattle.rusty_paseto_primitives.proofs.Blake2Lengths.{IsBytes-blake2b}
use Rattle.rusty_paseto_primitives.proofs.ByteLists.{IsBytes-append, IsBytes-drop, IsBytes-take}
use Rattle.rusty_paseto_primitives.proofs.HmacLengths.{IsBytes-hmac}
use Rattle.rusty_paseto_paserk.specs.declared.header.PaserkVersion.{PaserkVersion}
use Rattle.paseto_wrapping.specs.declared.header.WrappedType.{WrappedType}
use Rattle.paseto_wrapping.specs.declared.family.Family.{Family}
use Rattle.paseto_wrapping.specs.declared.family.Family.TheVariants.{Nist, Sodium}
use Rattle.paseto_wrapping.specs.declared.error.WrapError.{WrapError}
use Rattle.paseto_wrapping.specs.declared.error.WrapError.TheVariants.{NoWrappedKey, OtherVersion, OtherType, InvalidText, InvalidNonce, LongPassword, InvalidCost, TooCostly, InvalidPrivateKey, InvalidPoint, SmallOrder, WrongKey, InvalidKey, Memory}
use Rattle.paseto_wrapping.specs.Error.{IsMemory}
use Rattle.paseto_wrapping.specs.Family.{family_of, tag_length}
use Rattle.paseto_wrapping.specs.Header.{header}
use Rattle.paseto_wrapping.specs.Pie.{IsNonce, IsPie, IsPieFault, ak, c, payload, shortest, t, x}
use Rattle.paseto_wrapping.specs.Reading.{IsOfPayload, IsTagFault, Unwraps}
use Rattle.paseto_wrapping.proofs.Families.{encrypted-encrypted, length-tag, IsBytes-encrypted, IsBytes-tag}

IsBytes-x : (family : Family) (wk n : List ℕ) → IsBytes (x family wk n)
unfolding x
IsBytes-x Nist wk n = IsBytes-hmac wk (0x80 ∷ n)
IsBytes-x Sodium wk n = IsBytes-blake2b wk 56 (0x80 ∷ n)

pub IsBytes-c : (family : Family) (wk n ptk : List ℕ) → IsBytes ptk → IsBytes (c family wk n ptk)
IsBytes-c family wk n ptk h = IsBytes-encrypted family _ _ ptk (IsBytes-take 32 (x family wk n) (IsBytes-x family wk n)) h

pub IsBytes-payload : (version : PaserkVersion) (kind : WrappedType) (wk n ptk : List ℕ) → IsBytes n → IsBytes ptk → IsBytes (payload version kind wk n ptk)
unfolding payload
IsBytes-payload version kind wk n ptk of_n of_key =
    let body : List ℕ = c (family_of version) wk n ptk in
    IsBytes-append (t version kind wk n body ++ n) body (IsBytes-append (t version kind wk n body) n (IsBytes-tag _ _ _) of_n)
    (IsBytes-c (family_of version) wk n ptk of_key)

-- the errors are a payload's
pub pie_fault : (version : PaserkVersion) (kind : WrappedType) (wk input : List ℕ) (error : WrapError)
    → IsPieFault version kind wk input error → IsOfPayload error
pie_fault version kind wk input NoWrappedKey h = h
pie_fault version kind wk input (OtherVersion found) h = h
pie_fault version kind wk input (OtherType found) h = h
pie_fault version kind wk input InvalidText h = tt
pie_fault version kind wk input InvalidNonce h = absurd h
pie_fault version kind wk input LongPassword h = absurd h
pie_fault version kind wk input InvalidCost h = absurd h
pie_fault version kind wk input TooCostly h = absurd h
pie_fault version kind wk input InvalidPrivateKey h = absurd h
pie_fault version kind wk input InvalidPoint h = absurd h
pie_fault version kind wk input SmallOrder h = absurd h
pie_fault version kind wk input WrongKey h = tt
pie_fault version kind wk input InvalidKey h = h
pie_fault version kind wk input (Memory source) h = h

-- the parts of a payload
pub record AreParts (input : List ℕ) (width : ℕ) (tag n body : List ℕ) : Type 0 where
  pub tag_is : take width input ≡ tag
  pub nonce_is : take 32 (drop width input) ≡ n
  pub body_is : drop 32 (drop width input) ≡ body

joined_parts : (input tag n body : List ℕ) (width : ℕ) → length tag ≡ width → length n ≡ 32 → input ≡ tag ++ n ++ body → AreParts input width tag n body
joined_parts input tag n body width of_tag of_n e =
    let f : input ≡ tag ++ (n ++ body) = e ∙ append_assoc tag n body in
    let rest : drop width input ≡ n ++ body = ap (drop width) f ∙ drop_at tag (n ++ body) width of_tag in
    record {
      tag_is = ap (take width) f ∙ take_at tag (n ++ body) width of_tag;
      nonce_is = ap (take 32) rest ∙ take_at n body 32 of_n;
      body_is = ap (drop 32) rest ∙ drop_at n body 32 of_n;
    }

cut_parts : (input : List ℕ) (width : ℕ) → take width input ++ take 32 (drop width input) ++ drop 32 (drop width input) ≡ input
cut_parts input width =
    append_assoc (take width input) (take 32 (drop width input)) (drop 32 (drop width input))
    ∙ ap (λ (rest : List ℕ). take width input ++ rest) (take-append-drop 32 (drop width input)) ∙ take-append-drop width input

module _ (version : PaserkVersion) (kind : WrappedType) (wk input : List ℕ) where
  pub parts_of : (ptk : List ℕ) (is : IsPie version kind wk input ptk)
      → AreParts input (tag_length (family_of version)) (t version kind wk is.0 (c (family_of version) wk is.0 ptk)) is.0 (c (family_of version) wk is.0 ptk)
  unfolding payload
  parts_of ptk is = joined_parts input _ is.0 _ _ (length-tag (family_of version) _ _) is.1.1 is.2

  pie_long : (ptk : List ℕ) → IsPie version kind wk input ptk → shortest version ≤ length input
  unfolding payload
  pie_long ptk is =
      let body : List ℕ = c (family_of version) wk is.0 ptk in
      let whole : length input ≡ length (t version kind wk is.0 body ++ is.0 ++ body) = ap length is.2 in
      omega (
        arith,
        whole,
        length-append (t version kind wk is.0 body ++ is.0) body,
        length-append (t version kind wk is.0 body) is.0,
        length-tag (family_of version) (ak (family_of version) wk is.0) (header version kind ++ is.0 ++ body),
        is.1.1,
      )

  pub open_short : length input < shortest version → Unwraps (IsPie version kind wk) (IsPieFault version kind wk) input (Err InvalidText)
  open_short short = record {
    bytes = tt;
    found = tt;
    read = λ ptk bytes is. absurd (omega (arith, pie_long ptk is));
    refused = inr short;
  }

  -- a payload that is cut into its parts
  module _ (tag n body : List ℕ) (of_input : IsBytes input) (room : shortest version ≤ length input)
      (tag_is : take (tag_length (family_of version)) input ≡ tag)
      (nonce_is : take 32 (drop (tag_length (family_of version)) input) ≡ n)
      (body_is : drop 32 (drop (tag_length (family_of version)) input) ≡ body) where
    whole : input ≡ tag ++ n ++ body
    whole = sym (cut_parts input (tag_length (family_of version))) ∙ rw (tag_is, nonce_is, body_is) refl

    nonce_of : IsNonce n
    nonce_of = (
      subst IsBytes nonce_is (IsBytes-take 32 (drop (tag_length (family_of version)) input) (IsBytes-drop (tag_length (family_of version)) input of_input)),
      ap length (sym nonce_is) ∙ length-take-le 32 (drop (tag_length (family_of version)) input) (omega (arith, length-drop (tag_length (family_of version)) input)),
    )

    body_bytes : IsBytes body
    body_bytes = subst IsBytes body_is (IsBytes-drop 32 (drop (tag_length (family_of version)) input) (IsBytes-drop (tag_length (family_of version)) input of_input))

    -- the bytes that are wrapped are the parts' own
    own_tag : (ptk : List ℕ) → IsPie version kind wk input ptk → tag ≡ t version kind wk n body
    own_tag ptk is =
        let parts = parts_of ptk is in
        let e : n ≡ is.0 = sym nonce_is ∙ parts.nonce_is in
        let f : body ≡ c (family_of version) wk is.0 ptk = sym body_is ∙ parts.body_is in
        sym tag_is ∙ parts.tag_is ∙ rw (e, f) refl

    own_key : (ptk : List ℕ) → IsPie version kind wk input ptk → c (family_of version) wk n body ≡ ptk
    own_key ptk is =
        let parts = parts_of ptk is in
        let e : n ≡ is.0 = sym nonce_is ∙ parts.nonce_is in
        let f : body ≡ c (family_of version) wk is.0 ptk = sym body_is ∙ parts.body_is in
        rw (e, f) (encrypted-encrypted (family_of version) _ _ ptk)

    made : (key : List ℕ) → tag ≡ t version kind wk n body → key ≡ c (family_of version) wk n body → input ≡ payload version kind wk n key
    unfolding payload
    made key tagged e =
        let back : c (family_of version) wk n key ≡ body = ap (c (family_of version) wk n) e ∙ encrypted-encrypted (family_of version) _ _ body in
        whole ∙ rw (back, tagged) refl

    pub open_cut : (answer : Result (Vec ℕ Global) WrapError)
        → IfOk answer (λ key. (tag ≡ t version kind wk n body) × (key.items ≡ c (family_of version) wk n body))
        → IfErr answer (IsTagFault (tag ≡ t version kind wk n body))
        → Unwraps (IsPie version kind wk) (IsPieFault version kind wk) input answer
    open_cut (Ok key) ok err = record {
      bytes = subst IsBytes (sym ok.1) (IsBytes-c (family_of version) wk n body body_bytes);
      found = (n, nonce_of, made key.items ok.0 ok.1);
      read = λ ptk bytes is. ok.1 ∙ own_key ptk is;
      refused = tt;
    }
    open_cut (Err error) ok err = record {
      bytes = tt;
      found = tt;
      read = λ ptk bytes is. memory error err (own_tag ptk is);
      refused = fault error err;
    } where
      memory : (error : WrapError) → IsTagFault (tag ≡ t version kind wk n body) error → tag ≡ t version kind wk n body → IsMemory error
      memory NoWrappedKey h e = h
      memory (OtherVersion found) h e = h
      memory (OtherType found) h e = h
      memory InvalidText h e = h
      memory InvalidNonce h e = h
      memory LongPassword h e = h
      memory InvalidCost h e = h
      memory TooCostly h e = h
      memory InvalidPrivateKey h e = h
      memory InvalidPoint h e = h
      memory SmallOrder h e = h
      memory WrongKey h e = h e
      memory InvalidKey h e = h
      memory (Memory source) h e = tt

      fault : (error : WrapError) → IsTagFault (tag ≡ t version kind wk n body) error → IsMemory error ⊎ IsPieFault version kind wk input error
      fault NoWrappedKey h = absurd h
      fault (OtherVersion found) h = absurd h
      fault (OtherType found) h = absurd h
      fault InvalidText h = absurd h
      fault InvalidNonce h = absurd h
      fault LongPassword h = absurd h
      fault InvalidCost h = absurd h
      fault TooCostly h = absurd h
      fault InvalidPrivateKey h = absurd h
      fault InvalidPoint h = absurd h
      fault SmallOrder h = absurd h
      fault WrongKey h = inr (room, λ ptk is. h (own_tag ptk is))
      fault InvalidKey h = absurd h
      fault (Memory source) h = inl tt
