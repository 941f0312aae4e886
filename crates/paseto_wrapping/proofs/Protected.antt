-- The parts of the payload of a key under a password.
use Rattle.std.proofs.Common.{◌≡◌, ◌⊎◌, ℕ, ◌<◌, ◌≤◌, List, [], ◌∷◌, ◌++◌, length, take, drop, Result, Ok, Err, IfOk, IfErr, inl, inr, refl, sym, ap, subst, ◌∙◌, arith, length-append}
use Rattle.std.proofs.lemmas.List.{take_at, drop_at}
use Rattle.std.specs.declared.alloc.Global.{Global}
use Rattle.std.specs.declared.vec.Vec.{Vec}
use Rattle.std.specs.Int.{w32, w64, to_be_bytes}
use Rattle.sha2.specs.Sha512.{sha384}
use Rattle.rusty_paseto_primitives.specs.Bytes.{IsBytes}
use Rattle.rusty_paseto_primitives.proofs.Blake2Lengths.{IsBytes-blake2b}
use Rattle.rusty_paseto_primitives.proofs.ByteLists.{IsBytes-append, IsBytes-drop, IsBytes-take}
use Rattle.rusty_paseto_primitives.proofs.HmacLengths.{IsBytes-bytes_high_first, IsBytes-sha384}
use Rattle.rusty_paseto_paserk.specs.declared.header.PaserkVersion.{PaserkVersion}
use Rattle.paseto_wrapping.specs.declared.cost.PasswordCost.{PasswordCost}
use Rattle.paseto_wrapping.specs.declared.header.WrappedType.{WrappedType}
use Rattle.paseto_wrapping.specs.declared.family.Family.{Family}
use Rattle.paseto_wrapping.specs.declared.family.Family.TheVariants.{Nist, Sodium}
use Rattle.paseto_wrapping.specs.declared.error.WrapError.{WrapError}
use Rattle.paseto_wrapping.specs.declared.error.WrapError.TheVariants.{NoWrappedKey, OtherVersion, OtherType, InvalidText, InvalidNonce, LongPassword, InvalidCost, TooCostly, InvalidPrivateKey, InvalidPoint, SmallOrder, WrongKey, InvalidKey, Memory}
use Rattle.paseto_wrapping.specs.Error.{IsMemory}
use Rattle.paseto_wrapping.specs.Family.{encrypted, family_of}
use Rattle.paseto_wrapping.specs.Password.{AreAlike, AreParts, IsAllowed, IsGranted, IsPasswordFault, IsProtected, IsShort, IsWithin, TellsCost, cost_bytes, cost_length, ek, k, payload, shortest, t, untagged}
use Rattle.paseto_wrapping.specs.Reading.{IsOfPayload, IsTagFault, Unwraps}
use Rattle.paseto_wrapping.proofs.Families.{encrypted-encrypted, length-tag, IsBytes-encrypted, IsBytes-tag}

-- the errors are a payload's
pub password_fault : (version : PaserkVersion) (kind : WrappedType) (password : List ℕ) (most : PasswordCost) (input : List ℕ) (error : WrapError)
    → IsPasswordFault version kind password most input error → IsOfPayload error
password_fault version kind password most input NoWrappedKey h = h
password_fault version kind password most input (OtherVersion found) h = h
password_fault version kind password most input (OtherType found) h = h
password_fault version kind password most input InvalidText h = tt
password_fault version kind password most input InvalidNonce h = absurd h
password_fault version kind password most input LongPassword h = tt
password_fault version kind password most input InvalidCost h = tt
password_fault version kind password most input TooCostly h = tt
password_fault version kind password most input InvalidPrivateKey h = absurd h
password_fault version kind password most input InvalidPoint h = absurd h
password_fault version kind password most input SmallOrder h = absurd h
password_fault version kind password most input WrongKey h = tt
password_fault version kind password most input InvalidKey h = h
password_fault version kind password most input (Memory source) h = h

-- ---- costs that are alike

length-cost_bytes : (family : Family) (cost : PasswordCost) → length (cost_bytes family cost) ≡ cost_length family
unfolding cost_bytes
length-cost_bytes Nist cost = refl
length-cost_bytes Sodium cost = refl

allowed-alike : (family : Family) (a b : PasswordCost) → AreAlike family a b → IsAllowed family b → IsAllowed family a
allowed-alike Nist a b e h = rw e h
allowed-alike Sodium a b e h = rw (e.0, e.1, e.2) h

within-alike : (family : Family) (most a b : PasswordCost) → AreAlike family a b → IsWithin family most b → IsWithin family most a
within-alike Nist most a b e h = rw e h
within-alike Sodium most a b e h = rw (e.0, e.1, e.2) h

k-alike : (family : Family) (password s : List ℕ) (a b : PasswordCost) → AreAlike family a b → k family password s a ≡ k family password s b
unfolding k
k-alike Nist password s a b e = rw e refl
k-alike Sodium password s a b e = rw (e.0, e.1, e.2) refl

-- ---- bytes

IsBytes-ek : (family : Family) (key : List ℕ) → IsBytes (ek family key)
unfolding ek
IsBytes-ek Nist key = IsBytes-take 32 (sha384 (0xff ∷ key)) (IsBytes-sha384 (0xff ∷ key))
IsBytes-ek Sodium key = IsBytes-blake2b [] 32 (0xff ∷ key)

IsBytes-front : (xs ys : List ℕ) → IsBytes (xs ++ ys) → IsBytes xs
IsBytes-front xs ys h = subst IsBytes (take_at xs ys (length xs) refl) (IsBytes-take (length xs) (xs ++ ys) h)

IsBytes-back : (xs ys : List ℕ) → IsBytes (xs ++ ys) → IsBytes ys
IsBytes-back xs ys h = subst IsBytes (drop_at xs ys (length xs) refl) (IsBytes-drop (length xs) (xs ++ ys) h)

-- ---- parts

-- two lists that are joined of fronts of one length
fronts : (a b x y : List ℕ) → a ++ b ≡ x ++ y → length a ≡ length x → a ≡ x
fronts a b x y e size = sym (take_at a b (length x) size) ∙ ap (take (length x)) e ∙ take_at x y (length x) refl

backs : (a b x y : List ℕ) → a ++ b ≡ x ++ y → length a ≡ length x → b ≡ y
backs a b x y e size = sym (drop_at a b (length x) size) ∙ ap (drop (length x)) e ∙ drop_at x y (length x) refl

-- the parts of one payload are the same
record AreSame (s told n c t s' told' n' c' t' : List ℕ) : Type 0 where
  pub salt : s ≡ s'
  pub cost : told ≡ told'
  pub nonce : n ≡ n'
  pub ciphertext : c ≡ c'
  pub tag : t ≡ t'

same_parts : (family : Family) (input s told n c t s' told' n' c' t' : List ℕ) → AreParts family input s told n c t → AreParts family input s' told' n' c' t'
    → AreSame s told n c t s' told' n' c' t'
same_parts family input s told n c t s' told' n' c' t' a b =
    let joined : s ++ told ++ n ++ c ++ t ≡ s' ++ told' ++ n' ++ c' ++ t' = sym a.joined ∙ b.joined in
    let sizes : length (s ++ told ++ n ++ c) ≡ length (s' ++ told' ++ n' ++ c') =
    omega (arith, ap length joined, length-append (s ++ told ++ n ++ c) t, length-append (s' ++ told' ++ n' ++ c') t', a.tag, b.tag) in
    let front : s ++ told ++ n ++ c ≡ s' ++ told' ++ n' ++ c' = fronts _ t _ t' joined sizes in
    let short : length (s ++ told ++ n) ≡ length (s' ++ told' ++ n') =
    omega (
      arith,
      length-append (s ++ told) n,
      length-append (s' ++ told') n',
      length-append s told,
      length-append s' told',
      a.salt,
      b.salt,
      a.cost,
      b.cost,
      a.nonce,
      b.nonce,
    ) in
    let three : s ++ told ++ n ≡ s' ++ told' ++ n' = fronts _ c _ c' front short in
    let two : length (s ++ told) ≡ length (s' ++ told') =
    omega (arith, length-append s told, length-append s' told', a.salt, b.salt, a.cost, b.cost) in
    let pair : s ++ told ≡ s' ++ told' = fronts _ n _ n' three two in
    record {
      salt = fronts s told s' told' pair (a.salt ∙ sym b.salt);
      cost = backs s told s' told' pair (a.salt ∙ sym b.salt);
      nonce = backs _ n _ n' three two;
      ciphertext = backs _ c _ c' front short;
      tag = backs _ t _ t' joined sizes;
    }

parts_length : (family : Family) (input s told n c t : List ℕ) → AreParts family input s told n c t → shortest family ≤ length input
parts_length family input s told n c t a =
    omega (
      arith,
      ap length a.joined,
      length-append (s ++ told ++ n ++ c) t,
      length-append (s ++ told ++ n) c,
      length-append (s ++ told) n,
      length-append s told,
      a.salt,
      a.cost,
      a.nonce,
      a.tag,
    )

module _ (version : PaserkVersion) (kind : WrappedType) (password : List ℕ) (most : PasswordCost) (input : List ℕ) where
  -- the ciphertext and the tag
  abbrev body_in : (ptk : List ℕ) → IsProtected version kind password most input ptk → List ℕ
  body_in ptk is = encrypted (family_of version) (ek (family_of version) (k (family_of version) password is.s is.cost)) is.n ptk

  abbrev tag_in : (ptk : List ℕ) → IsProtected version kind password most input ptk → List ℕ
  tag_in ptk is =
      let key = k (family_of version) password is.s is.cost in
      t version kind key (untagged (family_of version) is.s is.cost is.n key ptk)

  abbrev Own : (ptk : List ℕ) → IsProtected version kind password most input ptk → Type 0
  Own ptk is =
      let key = k (family_of version) password is.s is.cost in
      AreParts (family_of version) input is.s (cost_bytes (family_of version) is.cost) is.n (encrypted (family_of version) (ek (family_of version) key) is.n ptk)
      (t version kind key (untagged (family_of version) is.s is.cost is.n key ptk))

  own_parts : (ptk : List ℕ) (is : IsProtected version kind password most input ptk) → Own ptk is
  unfolding payload
  own_parts ptk is = record {
    salt = is.salt.1;
    cost = length-cost_bytes (family_of version) is.cost;
    nonce = is.nonce.1;
    tag = length-tag (family_of version) _ _;
    joined = is.made;
  }

  pub open_short : length input < shortest (family_of version)
      → Unwraps (IsProtected version kind password most) (IsPasswordFault version kind password most) input (Err InvalidText)
  open_short short = record {
    bytes = tt;
    found = tt;
    read = λ ptk bytes is. absurd (omega (arith, parts_length (family_of version) input _ _ _ _ _ (own_parts ptk is)));
    refused = inr short;
  }

  pub open_long : shortest (family_of version) ≤ length input → ¬ IsShort password
      → Unwraps (IsProtected version kind password most) (IsPasswordFault version kind password most) input (Err LongPassword)
  open_long enough long = record {
    bytes = tt;
    found = tt;
    read = λ ptk bytes is. absurd (long is.short);
    refused = inr (enough, long);
  }

  -- a payload that is cut into its parts, whose cost is read
  module _ (s told n c tag front : List ℕ) (cost : PasswordCost) (of_input : IsBytes input) (short : IsShort password)
      (parts : AreParts (family_of version) input s told n c tag) (front_is : front ≡ s ++ told ++ n ++ c)
      (told_is : cost_bytes (family_of version) cost ≡ told)
      (alone : (other : PasswordCost) → IsAllowed (family_of version) other → cost_bytes (family_of version) other ≡ told → AreAlike (family_of version) cost other) where
    tells : TellsCost (family_of version) input cost
    tells = record { s = s; n = n; c = c; t = tag; parts = rw told_is parts }

    tells_alike : (other : PasswordCost) → IsAllowed (family_of version) other → TellsCost (family_of version) input other → AreAlike (family_of version) cost other
    tells_alike other allowed is =
        alone other allowed (sym (same_parts (family_of version) input _ _ _ _ _ _ _ _ _ _ parts is.parts).cost)

    own_same : (ptk : List ℕ) (is : IsProtected version kind password most input ptk)
        → AreSame s told n c tag is.s (cost_bytes (family_of version) is.cost) is.n (body_in ptk is) (tag_in ptk is)
    own_same ptk is = same_parts (family_of version) input _ _ _ _ _ _ _ _ _ _ parts (own_parts ptk is)

    own_alike : (ptk : List ℕ) (is : IsProtected version kind password most input ptk) → AreAlike (family_of version) cost is.cost
    own_alike ptk is = alone is.cost is.granted.0 (sym (own_same ptk is).cost)

    pub open_invalid : ¬ IsAllowed (family_of version) cost
        → Unwraps (IsProtected version kind password most) (IsPasswordFault version kind password most) input (Err InvalidCost)
    open_invalid refused = record {
      bytes = tt;
      found = tt;
      read = λ ptk bytes is. absurd (refused (allowed-alike (family_of version) cost is.cost (own_alike ptk is) is.granted.0));
      refused = inr (
        parts_length (family_of version) input _ _ _ _ _ parts,
        short,
        λ other allowed is. refused (allowed-alike (family_of version) cost other (tells_alike other allowed is) allowed),
      );
    }

    pub open_costly : IsAllowed (family_of version) cost → ¬ IsWithin (family_of version) most cost
        → Unwraps (IsProtected version kind password most) (IsPasswordFault version kind password most) input (Err TooCostly)
    open_costly allowed beyond = record {
      bytes = tt;
      found = tt;
      read = λ ptk bytes is. absurd (beyond (within-alike (family_of version) most cost is.cost (own_alike ptk is) is.granted.1));
      refused = inr (short, cost, tells, allowed, beyond);
    }

    module _ (granted : IsGranted (family_of version) most cost) where
      own_key : (ptk : List ℕ) (is : IsProtected version kind password most input ptk)
          → k (family_of version) password s cost ≡ k (family_of version) password is.s is.cost
      own_key ptk is =
          k-alike (family_of version) password s cost is.cost (own_alike ptk is)
          ∙ ap (λ (salt : List ℕ). k (family_of version) password salt is.cost) (own_same ptk is).salt

      own_tag : (ptk : List ℕ) → IsProtected version kind password most input ptk → tag ≡ t version kind (k (family_of version) password s cost) front
      own_tag ptk is =
          let same = own_same ptk is in
          let f : front ≡ untagged (family_of version) is.s is.cost is.n (k (family_of version) password is.s is.cost) ptk =
          front_is ∙ rw (same.salt, same.cost, same.nonce, same.ciphertext) refl in
          same.tag ∙ rw (own_key ptk is, f) refl

      own_bytes : (ptk : List ℕ) → IsProtected version kind password most input ptk
          → encrypted (family_of version) (ek (family_of version) (k (family_of version) password s cost)) n c ≡ ptk
      own_bytes ptk is =
          let same = own_same ptk is in
          rw (own_key ptk is, same.nonce, same.ciphertext) (encrypted-encrypted (family_of version) _ _ ptk)

      made : (key : List ℕ) → tag ≡ t version kind (k (family_of version) password s cost) front
          → key ≡ encrypted (family_of version) (ek (family_of version) (k (family_of version) password s cost)) n c
          → input ≡ payload version kind password cost s n key
      unfolding payload
      made key tagged e =
          let secret : List ℕ = ek (family_of version) (k (family_of version) password s cost) in
          let back : encrypted (family_of version) secret n key ≡ c = ap (encrypted (family_of version) secret n) e ∙ encrypted-encrypted (family_of version) secret n c in
          parts.joined ∙ rw (back, told_is, tagged, front_is) refl

      whole : IsBytes (s ++ told ++ n ++ c ++ tag)
      whole = subst IsBytes parts.joined of_input

      pub open_cut : (answer : Result (Vec ℕ Global) WrapError)
          → IfOk answer (λ found. (tag ≡ t version kind (k (family_of version) password s cost) front)
          × (found.items ≡ encrypted (family_of version) (ek (family_of version) (k (family_of version) password s cost)) n c))
          → IfErr answer (IsTagFault (tag ≡ t version kind (k (family_of version) password s cost) front))
          → Unwraps (IsProtected version kind password most) (IsPasswordFault version kind password most) input answer
      open_cut (Ok key) ok err =
          let four : IsBytes (s ++ told ++ n ++ c) = IsBytes-front (s ++ told ++ n ++ c) tag whole in
          let three : IsBytes (s ++ told ++ n) = IsBytes-front (s ++ told ++ n) c four in
          record {
            bytes = subst IsBytes (sym ok.1) (IsBytes-encrypted (family_of version) _ n c (IsBytes-ek (family_of version) _) (IsBytes-back (s ++ told ++ n) c four));
            found = record {
              short = short;
              cost = cost;
              granted = granted;
              s = s;
              n = n;
              salt = (IsBytes-front s told (IsBytes-front (s ++ told) n three), parts.salt);
              nonce = (IsBytes-back (s ++ told) n three, parts.nonce);
              made = made key.items ok.0 ok.1;
            };
            read = λ ptk bytes is. ok.1 ∙ own_bytes ptk is;
            refused = tt;
          }
      open_cut (Err error) ok err = record {
        bytes = tt;
        found = tt;
        read = λ ptk bytes is. memory error err (own_tag ptk is);
        refused = fault error err;
      } where
        memory : (error : WrapError) → IsTagFault (tag ≡ t version kind (k (family_of version) password s cost) front) error
            → tag ≡ t version kind (k (family_of version) password s cost) front → IsMemory error
        memory NoWrappedKey h e = h
        memory (OtherVersion found) h e = h
        memory (OtherType found) h e = h
        memory InvalidText h e = h
        memory InvalidNonce h e = h
        memory LongPassword h e = h
        memory InvalidCost h e = h
        memory TooCostly h e = h
        memory InvalidPrivateKey h e = h
        memory InvalidPoint h e = h
        memory SmallOrder h e = h
        memory WrongKey h e = h e
        memory InvalidKey h e = h
        memory (Memory source) h e = tt

        fault : (error : WrapError) → IsTagFault (tag ≡ t version kind (k (family_of version) password s cost) front) error
            → IsMemory error ⊎ IsPasswordFault version kind password most input error
        fault NoWrappedKey h = absurd h
        fault (OtherVersion found) h = absurd h
        fault (OtherType found) h = absurd h
        fault InvalidText h = absurd h
        fault InvalidNonce h = absurd h
        fault LongPassword h = absurd h
        fault InvalidCost h = absurd h
        fault TooCostly h = absurd h
        fault InvalidPrivateKey h = absurd h
        fault InvalidPoint h = absurd h
        fault SmallOrder h = absurd h
        fault WrongKey h = inr (short, (cost, tells, granted), λ ptk is. h (own_tag ptk is))
        fault InvalidKey h = absurd h
        fault (Memory source) h = inl tt

-- ---- what is written is bytes

IsBytes-cost_bytes : (family : Family) (cost : PasswordCost) → IsBytes (cost_bytes family cost)
unfolding cost_bytes
IsBytes-cost_bytes Nist cost = IsBytes-bytes_high_first 4 cost.iterations
IsBytes-cost_bytes Sodium cost =
    IsBytes-append (to_be_bytes w64 cost.memory ++ to_be_bytes w32 cost.passes) (to_be_bytes w32 cost.lanes)
    (IsBytes-append (to_be_bytes w64 cost.memory) (to_be_bytes w32 cost.passes) (IsBytes-bytes_high_first 8 cost.memory) (IsBytes-bytes_high_first 4 cost.passes))
    (IsBytes-bytes_high_first 4 cost.lanes)

pub IsBytes-protected : (version : PaserkVersion) (kind : WrappedType) (password : List ℕ) (cost : PasswordCost) (s n ptk : List ℕ)
    → IsBytes s → IsBytes n → IsBytes ptk → IsBytes (payload version kind password cost s n ptk)
unfolding payload
IsBytes-protected version kind password cost s n ptk of_salt of_nonce of_key =
    let family = family_of version in
    let key = k family password s cost in
    let body : List ℕ = encrypted family (ek family key) n ptk in
    IsBytes-append (untagged family s cost n key ptk) _
    (IsBytes-append (s ++ cost_bytes family cost ++ n) body
    (IsBytes-append (s ++ cost_bytes family cost) n (IsBytes-append s (cost_bytes family cost) of_salt (IsBytes-cost_bytes family cost)) of_nonce)
    (IsBytes-encrypted family _ n ptk (IsBytes-ek family key) of_key))
    (IsBytes-tag family _ _)
