-- What follows from the reading of contents for that of a text.
use Rattle.std.proofs.Common.{◌≡◌, ◌⊎◌, ℕ, List, inl, inr, sym, subst, ◌∙◌}
use Rattle.std.specs.Prelude.{Result, Ok, Err, IfErr, IfOk, IsErrAnd, string_bytes}
use Rattle.std.specs.declared.string.String.{String}
use Rattle.std.specs.declared.alloc.Global.{Global}
use Rattle.std.specs.declared.vec.Vec.{Vec}
use Rattle.base64.specs.GeneralPurpose.{IsBytes}
use Rattle.paseto_pem.specs.declared.label.Label.{Label}
use Rattle.paseto_pem.specs.declared.error.PemError.{PemError}
use Rattle.paseto_pem.specs.declared.error.PemError.TheVariants.{Memory}
use Rattle.paseto_pem.specs.Error.{IsMemory}
use Rattle.paseto_pem.specs.Key.{Contents, Faults, IsKeyFault, IsText, IsTextFault, ReadsContents, ReadsHeld, ReadsKey, ReadsText, WritesKey}
use Rattle.paseto_pem.specs.Text.{IsPem, pem}

memory-fault : (text : List ℕ) (error : PemError) → IsMemory error → IsTextFault text error
memory-fault text (Memory source) h = h
memory-fault text error h = absurd h

-- why a text is refused whose contents are
pub held-fault : (IsFaultOf : Faults) (text : List ℕ) (label : Label) (held : Vec ℕ Global) (octets : List ℕ) → ReadsText text (Ok (label, held))
    → octets ≡ held.items → (error : PemError) → IsMemory error ⊎ IsFaultOf label octets error → IsKeyFault IsFaultOf text error
held-fault IsFaultOf text label held octets h are error (inl memory) = inl (memory-fault text error memory)
held-fault IsFaultOf text label held octets h are error (inr other) =
    let bytes = subst (λ (o : List ℕ). IsBytes o) (sym are) h.bytes in
    let written = subst (λ (o : List ℕ). IsPem label o text) (sym are) h.found in
    inr (label, octets, bytes, written, other)

module _ (IsKeyOf : Contents) (IsFaultOf : Faults) where
  -- the answer for contents, where it is a key
  pub refused-held : (label : Label) (contents : List ℕ) (error : PemError) (answer : Result (List ℕ) PemError) → IsErrAnd answer (λ e. e ≡ error)
      → ReadsContents IsKeyOf IsFaultOf label contents (Err error) → ReadsHeld IsKeyOf IsFaultOf label contents answer
  refused-held label contents error (Ok made) is r = absurd is
  refused-held label contents error (Err e) is r =
      subst (λ (x : PemError). ReadsHeld IsKeyOf IsFaultOf label contents (Err x)) (sym is)
      (record { found = tt; read = r.read; refused = r.refused })

  pub made-held : (label : Label) (contents : List ℕ) (made : Vec ℕ Global) (key : List ℕ) → ReadsContents IsKeyOf IsFaultOf label contents (Ok made)
      → key ≡ made.items → ReadsHeld IsKeyOf IsFaultOf label contents (Ok key)
  made-held label contents made key r is = record {
    found = subst (λ (k : List ℕ). IsKeyOf label contents k) (sym is) r.found;
    read = λ other p. is ∙ r.read other p;
    refused = tt;
  }

  -- contents that are no key
  pub refused-contents : (label : Label) (contents : List ℕ) (error : PemError) (answer : Result (Vec ℕ Global) PemError)
      → IsErrAnd answer (λ e. e ≡ error) → IsMemory error ⊎ IsFaultOf label contents error
      → ((key : List ℕ) → IsKeyOf label contents key → IsMemory error) → ReadsContents IsKeyOf IsFaultOf label contents answer
  refused-contents label contents error (Ok made) is fault none = absurd is
  refused-contents label contents error (Err e) is fault none =
      subst (λ (x : PemError). ReadsContents IsKeyOf IsFaultOf label contents (Err x)) (sym is)
      (record { found = tt; read = none; refused = fault })

  -- the text of contents that are a key
  pub written-key : (label : Label) (key given octets held : List ℕ) (answer : Result (String Global) PemError) → IsBytes octets
      → IsKeyOf label held given → octets ≡ held → given ≡ key
      → IfOk answer (λ text. string_bytes text ≡ pem label octets) → IfErr answer IsMemory
      → WritesKey IsKeyOf label key answer
  written-key label key given octets held (Ok text) bytes is are same ok err =
      let octets_are : IsKeyOf label octets key =
      subst (λ (k : List ℕ). IsKeyOf label octets k) same (subst (λ (o : List ℕ). IsKeyOf label o given) (sym are) is) in
      record { ok = record { contents = octets; bytes = bytes; held = octets_are; written = ok }; refused = tt }
  written-key label key given octets held (Err e) bytes is are same ok err = record { ok = tt; refused = inl err }

  module _ (text : List ℕ) where
    -- a text that is none
    pub refused-text : (error : PemError) (answer : Result (List ℕ) PemError) → IsErrAnd answer (λ e. e ≡ error)
        → ReadsText text (Err error) → ReadsKey IsKeyOf IsFaultOf text answer
    refused-text error (Ok made) is h = absurd is
    refused-text error (Err e) is h =
        subst (λ (x : PemError). ReadsKey IsKeyOf IsFaultOf text (Err x)) (sym is)
        (record { found = tt; read = λ key p. h.read p.label p.contents p.bytes p.written; refused = inl h.refused })

    module _ (label : Label) (held : Vec ℕ Global) (octets : List ℕ) (h : ReadsText text (Ok (label, held))) (are : octets ≡ held.items) where
      pub at-octets : (key : List ℕ) → (p : IsText IsKeyOf key text) → IsKeyOf label octets key
      at-octets key p =
          let same = h.read p.label p.contents p.bytes p.written in
          subst (λ (l : Label). IsKeyOf l octets key) (sym same.0)
          (subst (λ (o : List ℕ). IsKeyOf p.label o key) (sym (are ∙ same.1)) p.held)

      pub at-text : (key : List ℕ) → IsKeyOf label octets key → IsText IsKeyOf key text
      at-text key p = record {
        label = label;
        contents = octets;
        bytes = subst (λ (o : List ℕ). IsBytes o) (sym are) h.bytes;
        written = subst (λ (o : List ℕ). IsPem label o text) (sym are) h.found;
        held = p;
      }

      -- the answer for a text is that for its contents
      pub read-key : (answer : Result (List ℕ) PemError) → ReadsHeld IsKeyOf IsFaultOf label octets answer → ReadsKey IsKeyOf IsFaultOf text answer
      read-key (Ok key) r = record { found = at-text key r.found; read = λ other p. r.read other (at-octets other p); refused = tt }
      read-key (Err e) r = record {
        found = tt;
        read = λ key p. r.read key (at-octets key p);
        refused = held-fault IsFaultOf text label held octets h are e r.refused;
      }
