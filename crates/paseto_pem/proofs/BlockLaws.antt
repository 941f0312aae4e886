-- Blocks of lines.
use Rattle.std.proofs.Common.{◌≡◌, ◌≢◌, ◌<◌, ◌≤◌, ◌+◌, ◌-◌, ℕ, suc, List, [], ◌∷◌, ◌++◌, append_assoc, drop, get_or, length, length-append, refl, rules, sym, ap, subst, take, ◌∙◌, arith}
use Rattle.std.proofs.Math.Seq.{take-suc}
use Rattle.std.proofs.lemmas.List.{append-nil, get_or_default, get_or-map, length-map, map-append, take_all}
use Rattle.std.proofs.lemmas.List.Elements.{All-append, All-cons, All-more, All-nil}
use Rattle.std.proofs.lemmas.List.Folds.{concat-append}
use Rattle.std.specs.Borrow.{Bor}
use Rattle.std.proofs.lemmas.Bool.{false≢true}
use Rattle.std.specs.List.{AllWithin, HoldsAt}
use Rattle.std.specs.Prelude.{◌↔◌, All, Any, Bool, Err, IfOk, IfSome, IsTrue, MatchBool, MatchOption, None, Ok, Option, Result, Some, codes, false, true}
use Rattle.std.specs.declared.alloc.AllocError.{AllocError}
use Rattle.std.specs.declared.alloc.Global.{Global}
use Rattle.std.specs.declared.vec.Vec.{Vec}
use Rattle.std.specs.List.{concat}
use Rattle.std.specs.Str.Lines.{lines as lines_of}
use Rattle.base64.specs.Engines.{standard}
use Rattle.base64.specs.GeneralPurpose.{IsBytes, decode_of, encode_of}
use Rattle.base64.proofs.EngineFacts.{decode_of-encode_of}
use Rattle.paseto_pem.specs.declared.label.Label.{Label}
use Rattle.paseto_pem.specs.declared.error.PemError.{PemError}
use Rattle.paseto_pem.specs.declared.error.PemError.TheVariants.{NotPem, TwoKeys, Encrypted}
use Rattle.paseto_pem.specs.Key.{IsBlockRefusal, IsNoPem, IsTextFault, ReadsText}
use Rattle.paseto_pem.specs.Label.{begin_boundary, end_boundary}
use Rattle.paseto_pem.specs.Text.{BeginsOldEncrypted, FirstBlock, HasSecond, HasTwoKeys, IsBase64Line, IsBody, IsOldEncrypted, IsPassed, IsPem, base64, texts}
use Rattle.paseto_pem.proofs.LabelLaws.{one-label}

all-first : (P : List ℕ → Type 0) (x : List ℕ) (xs : List (List ℕ)) → All P (x ∷ xs) → P x
all-first P x xs h = h 0 x (omega arith)

all-rest : (P : List ℕ → Type 0) (x : List ℕ) (xs : List (List ℕ)) → All P (x ∷ xs) → All P xs
all-rest P x xs h = λ k d low. h (suc k) d (omega arith)

all-at : (P : List ℕ → Type 0) (before : List (List ℕ)) (x : List ℕ) (r : List (List ℕ)) → All P (before ++ (x ∷ r)) → P x
all-at P [] x r h = all-first P x r h
all-at P (z ∷ before) x r h = all-at P before x r (all-rest P z (before ++ (x ∷ r)) h)

cons-first : (x y : List ℕ) (r s : List (List ℕ)) → x ∷ r ≡ y ∷ s → x ≡ y
cons-first x y r s e = ap (λ (l : List (List ℕ)). get_or l 0 []) e

cons-rest : (x y : List ℕ) (r s : List (List ℕ)) → x ∷ r ≡ y ∷ s → r ≡ s
cons-rest x y r s e = ap (λ (l : List (List ℕ)). drop 1 l) e

one-first : (a b : List (List ℕ)) (x y : List ℕ) (r s : List (List ℕ)) → All IsPassed a → All IsPassed b → ¬ IsPassed x → ¬ IsPassed y
    → a ++ (x ∷ r) ≡ b ++ (y ∷ s) → (x ≡ y) × (r ≡ s)
one-first [] [] x y r s p q n m e = (cons-first x y r s e, cons-rest x y r s e)
one-first [] (z ∷ b) x y r s p q n m e =
    absurd (n (subst IsPassed (sym (cons-first x z r (b ++ (y ∷ s)) e)) (all-first IsPassed z b q)))
one-first (z ∷ a) [] x y r s p q n m e =
    absurd (m (subst IsPassed (cons-first z y (a ++ (x ∷ r)) s e) (all-first IsPassed z a p)))
one-first (z ∷ a) (w ∷ b) x y r s p q n m e =
    one-first a b x y r s (all-rest IsPassed z a p) (all-rest IsPassed w b q) n m
    (cons-rest z w (a ++ (x ∷ r)) (b ++ (y ∷ s)) e)

-- lines have one first block
pub one-block : (all : List (List ℕ)) (x y : List ℕ) (r s : List (List ℕ)) → FirstBlock all x r → FirstBlock all y s → (x ≡ y) × (r ≡ s)
one-block all x y r s p q = one-first p.before q.before x y r s p.passed q.passed p.begins q.begins (sym p.split ∙ q.split)

pub no-block : (all : List (List ℕ)) (x : List ℕ) (r : List (List ℕ)) → All IsPassed all → FirstBlock all x r → ⊥
no-block all x r h p = p.begins (all-at IsPassed p.before x r (subst (All IsPassed) p.split h))

snoc : (a b : List (List ℕ)) (x : List ℕ) → a ++ (x ∷ []) ≡ b ++ (x ∷ []) → a ≡ b
snoc [] [] x e = refl
snoc [] (z ∷ b) x e =
    let none : length (b ++ (x ∷ [])) ≡ 0 = ap length (sym (cons-rest x z [] (b ++ (x ∷ [])) e)) in
    absurd (omega (arith, none, length-append b (x ∷ [])))
snoc (z ∷ a) [] x e =
    let none : length (a ++ (x ∷ [])) ≡ 0 = ap length (cons-rest z x (a ++ (x ∷ [])) [] e) in
    absurd (omega (arith, none, length-append a (x ∷ [])))
snoc (z ∷ a) (w ∷ b) x e =
    let rest = snoc a b x (cons-rest z w (a ++ (x ∷ [])) (b ++ (x ∷ [])) e) in
    let same = cons-first z w (a ++ (x ∷ [])) (b ++ (x ∷ [])) e in
    rw (same, rest) refl

pub one-base64 : (a b : List ℕ) → IsBytes a → IsBytes b → base64 a ≡ base64 b → a ≡ b
unfolding base64
one-base64 a b p q e =
    let both = sym (decode_of-encode_of standard a (search rules) p) ∙ ap (decode_of standard) e
    ∙ decode_of-encode_of standard b (search rules) q in
    cc both

-- ---- some line

-- the answer of a search, where a line was found or each was passed over
pub any-line : (P : List ℕ → Type 0) (r : Bool) (lines : List (List ℕ))
    → MatchBool r ((k : ℕ) × (k < length lines) × HoldsAt P lines k) (AllWithin (λ line. ¬ P line) lines 0 (length lines))
    → IsTrue r ↔ Any P lines
any-line P true lines h = (λ yes. (h.0, get_or lines h.0 [], h.1, get_or_default lines h.0 (get_or lines h.0 []) [] h.1, h.2 []), λ has. refl)
any-line P false lines h = (
  λ yes. absurd (false≢true yes),
  λ has. absurd (h has.0 has.1 (omega arith) has.2 (subst P (sym has.3) has.4)),
)

-- ---- borrowed lines

pub texts-first : (rest : List (Bor (List ℕ))) (d : Bor (List ℕ)) → 1 ≤ length rest
    → texts rest ≡ (get_or rest 0 d).now ∷ texts (take (length rest - 1) (drop 1 rest))
texts-first [] d some = absurd (omega arith)
texts-first (x ∷ xs) d some = ap (λ (l : List (Bor (List ℕ))). x.now ∷ texts l) (sym (take_all (suc (length xs) - 1) xs (omega arith)))

pub texts-none : (rest : List (Bor (List ℕ))) → length rest < 1 → texts rest ≡ []
texts-none [] none = refl
texts-none (x ∷ xs) none = absurd (omega arith)

-- the last of the lines
pub texts-last : (lines : List (Bor (List ℕ))) (d : Bor (List ℕ)) (n : ℕ) → length lines ≡ suc n
    → texts lines ≡ texts (take n lines) ++ ((get_or lines n d).now ∷ [])
texts-last lines d n size =
    ap texts (sym (take_all (suc n) lines (omega (arith, size))) ∙ take-suc lines n d (omega (arith, size)))
    ∙ map-append (λ (w : Bor (List ℕ)). w.now) (take n lines) (get_or lines n d ∷ [])

-- a line that is passed over, and the lines behind it
pub passed-on : (P : List ℕ → Type 0) (all before : List (List ℕ)) (rest : List (Bor (List ℕ))) (d : Bor (List ℕ)) → 1 ≤ length rest
    → All P before → all ≡ before ++ texts rest → P (get_or rest 0 d).now
    → (more : List (List ℕ)) × All P more × (all ≡ more ++ texts (take (length rest - 1) (drop 1 rest)))
passed-on P all before rest d some passed split this =
    let line : List (List ℕ) = (get_or rest 0 d).now ∷ [] in
    let alone : All P line = All-cons P (get_or rest 0 d).now [] this (All-nil P) in (
      before ++ line,
      All-append P before line passed alone,
      split ∙ ap (λ (l : List (List ℕ)). before ++ l) (texts-first rest d some)
          ∙ sym (append_assoc before line (texts (take (length rest - 1) (drop 1 rest)))),
    )

pub all-passed : (P : List ℕ → Type 0) (all before : List (List ℕ)) (rest : List (Bor (List ℕ))) → length rest < 1
    → All P before → all ≡ before ++ texts rest → All P all
all-passed P all before rest none passed split =
    subst (All P) (sym (split ∙ ap (λ (l : List (List ℕ)). before ++ l) (texts-none rest none) ∙ append-nil before)) passed

-- the lines up to one, and this one
pub one-more : (P : List ℕ → Type 0) (lines : List (Bor (List ℕ))) (i : ℕ) (d : Bor (List ℕ)) (written new : List ℕ) → i < length lines
    → All P (take i (texts lines)) → written ≡ concat (take i (texts lines)) → P (get_or lines i d).now
    → new ≡ written ++ (get_or lines i d).now
    → All P (take (i + 1) (texts lines)) × (new ≡ concat (take (i + 1) (texts lines)))
one-more P lines i d written new low before told this is =
    let there : i < length (texts lines) = subst (λ (n : ℕ). i < n) (sym (length-map lines (λ (w : Bor (List ℕ)). w.now))) low in
    let same : get_or (texts lines) i [] ≡ (get_or lines i d).now = get_or-map {X = Bor (List ℕ)} (λ w. w.now) lines i d [] low in
    let up_one : i + 1 ≡ suc i = omega arith in
    let up : take (i + 1) (texts lines) ≡ take i (texts lines) ++ ((get_or lines i d).now ∷ []) =
    ap (λ (n : ℕ). take n (texts lines)) up_one ∙ take-suc (texts lines) i [] there
    ∙ ap (λ (l : List ℕ). take i (texts lines) ++ (l ∷ [])) same in (
      All-more P (texts lines) i [] there before (subst P (sym same) this),
      is ∙ ap (λ (l : List ℕ). l ++ (get_or lines i d).now) told
          ∙ ap (λ (l : List ℕ). concat (take i (texts lines)) ++ l) (sym (append-nil (get_or lines i d).now))
          ∙ sym (concat-append (take i (texts lines)) ((get_or lines i d).now ∷ [])) ∙ ap concat (sym up),
    )

pub all-of : (P : List ℕ → Type 0) (lines : List (Bor (List ℕ))) (i : ℕ) (written : List ℕ) → length lines ≤ i
    → All P (take i (texts lines)) → written ≡ concat (take i (texts lines)) → All P (texts lines) × (written ≡ concat (texts lines))
all-of P lines i written end all told =
    let whole : take i (texts lines) ≡ texts lines =
    take_all i (texts lines) (subst (λ (n : ℕ). n ≤ i) (sym (length-map lines (λ (w : Bor (List ℕ)). w.now))) end) in
    (subst (All P) whole all, told ∙ ap concat whole)

-- a line that is not such
pub not-all : (P : List ℕ → Type 0) (lines : List (Bor (List ℕ))) (i : ℕ) (d : Bor (List ℕ)) → i < length lines
    → ¬ P (get_or lines i d).now → ¬ All P (texts lines)
not-all P lines i d low not all =
    let there : i < length (texts lines) = subst (λ (n : ℕ). i < n) (sym (length-map lines (λ (w : Bor (List ℕ)). w.now))) low in
    not (subst P (get_or-map {X = Bor (List ℕ)} (λ w. w.now) lines i d [] low) (all i [] there))

-- the first of the lines says that a key is encrypted
pub old-first : (rest : List (Bor (List ℕ))) (d : Bor (List ℕ)) → 1 ≤ length rest
    → (get_or rest 0 d).now ≡ codes "Proc-Type: 4,ENCRYPTED" → BeginsOldEncrypted (texts rest)
old-first rest d some is =
    let behind = texts (take (length rest - 1) (drop 1 rest)) in
    (behind, texts-first rest d some ∙ ap (λ (l : List ℕ). l ∷ behind) is)

pub old-is : (rest : List (Bor (List ℕ))) (d : Bor (List ℕ)) → 1 ≤ length rest → BeginsOldEncrypted (texts rest)
    → (get_or rest 0 d).now ≡ codes "Proc-Type: 4,ENCRYPTED"
old-is rest d some h = cons-first _ _ _ _ (sym (texts-first rest d some) ∙ h.1)

pub old-none : (rest : List (Bor (List ℕ))) → length rest < 1 → ¬ BeginsOldEncrypted (texts rest)
old-none rest none h =
    let no : length (codes "Proc-Type: 4,ENCRYPTED" ∷ h.0) ≡ 0 = ap length (sym h.1 ∙ texts-none rest none) in
    absurd (omega arith)

-- the contents of a block whose last line and whose characters are known
pub body-answer : (label : Label) (behind : List (Bor (List ℕ))) (d : Bor (List ℕ)) (text : List ℕ)
    (answer : Result (Option (Vec ℕ Global)) AllocError) → 1 ≤ length behind
    → (get_or behind (length behind - 1) d).now ≡ end_boundary label → All IsBase64Line (texts (take (length behind - 1) behind))
    → text ≡ concat (texts (take (length behind - 1) behind))
    → IfOk answer (λ read. IfSome read (λ bytes. text ≡ encode_of standard bytes.items))
    → IfOk answer (λ read. read ≡ None → (bytes : List ℕ) → IsBytes bytes → text ≢ encode_of standard bytes)
    → IfOk answer (λ found. MatchOption found ((contents : List ℕ) → IsBytes contents → ¬ IsBody label contents (texts behind))
    (λ contents. IsBody label contents.items (texts behind)))
unfolding base64
body-answer label behind d text (Err error) some last wide told read none = tt
body-answer label behind d text (Ok (Some v)) some last wide told read none =
    let size : length behind ≡ suc (length behind - 1) = omega arith in
    record {
      body = texts (take (length behind - 1) behind);
      wide = wide;
      split = texts-last behind d (length behind - 1) size
          ∙ ap (λ (l : List ℕ). texts (take (length behind - 1) behind) ++ (l ∷ [])) last;
      told = sym told ∙ read;
    }
body-answer label behind d text (Ok None) some last wide told read none = λ contents is b.
    let size : length behind ≡ suc (length behind - 1) = omega arith in
    let same = snoc (texts (take (length behind - 1) behind)) b.body (end_boundary label)
    (sym (texts-last behind d (length behind - 1) size
    ∙ ap (λ (l : List ℕ). texts (take (length behind - 1) behind) ++ (l ∷ [])) last) ∙ b.split) in
    none refl contents is (told ∙ ap concat same ∙ b.told)

-- two lists with another last line
last-same : (a b : List (List ℕ)) (x y : List ℕ) → a ++ (x ∷ []) ≡ b ++ (y ∷ []) → x ≡ y
last-same [] [] x y e = cons-first x y [] [] e
last-same [] (z ∷ b) x y e =
    let none : length (b ++ (y ∷ [])) ≡ 0 = ap length (sym (cons-rest x z [] (b ++ (y ∷ [])) e)) in
    absurd (omega (arith, none, length-append b (y ∷ [])))
last-same (z ∷ a) [] x y e =
    let none : length (a ++ (x ∷ [])) ≡ 0 = ap length (cons-rest z y (a ++ (x ∷ [])) [] e) in
    absurd (omega (arith, none, length-append a (x ∷ [])))
last-same (z ∷ a) (w ∷ b) x y e = last-same a b x y (cons-rest z w (a ++ (x ∷ [])) (b ++ (y ∷ [])) e)

-- a block whose last line is another one
pub other-end : (label : Label) (behind : List (Bor (List ℕ))) (d : Bor (List ℕ)) (contents : List ℕ) → 1 ≤ length behind
    → (get_or behind (length behind - 1) d).now ≢ end_boundary label → ¬ IsBody label contents (texts behind)
other-end label behind d contents some other b =
    let size : length behind ≡ suc (length behind - 1) = omega arith in
    other (last-same _ _ _ _ (sym (texts-last behind d (length behind - 1) size) ∙ b.split))

pub no-end : (label : Label) (behind : List (Bor (List ℕ))) (contents : List ℕ) → length behind < 1 → ¬ IsBody label contents (texts behind)
no-end label behind contents none b =
    let no : length (b.body ++ (end_boundary label ∷ [])) ≡ 0 = ap length (sym b.split ∙ texts-none behind none) in
    absurd (omega (arith, no, length-append b.body (end_boundary label ∷ [])))

-- a block with a line of another length
pub not-wide : (label : Label) (behind : List (Bor (List ℕ))) (d : Bor (List ℕ)) (contents : List ℕ) → 1 ≤ length behind
    → (get_or behind (length behind - 1) d).now ≡ end_boundary label → ¬ All IsBase64Line (texts (take (length behind - 1) behind))
    → ¬ IsBody label contents (texts behind)
not-wide label behind d contents some last not b =
    let size : length behind ≡ suc (length behind - 1) = omega arith in
    let same = snoc (texts (take (length behind - 1) behind)) b.body (end_boundary label)
    (sym (texts-last behind d (length behind - 1) size
    ∙ ap (λ (l : List ℕ). texts (take (length behind - 1) behind) ++ (l ∷ [])) last) ∙ b.split) in
    not (subst (All IsBase64Line) (sym same) b.wide)

-- a block has one body
pub one-body : (label : Label) (a b : List ℕ) (behind : List (List ℕ)) → IsBytes a → IsBytes b → IsBody label a behind
    → IsBody label b behind → a ≡ b
one-body label a b behind p q f g =
    let same = snoc f.body g.body (end_boundary label) (sym f.split ∙ g.split) in
    one-base64 a b p q (sym f.told ∙ ap concat same ∙ g.told)

-- the first block of a text that is PEM
pub pem-label : (label other : Label) (contents text first : List ℕ) (behind : List (List ℕ)) → FirstBlock (lines_of text) first behind
    → first ≡ begin_boundary label → (p : IsPem other contents text) → (label ≡ other) × IsBody label contents behind
pem-label label other contents text first behind f is p =
    let same = one-block (lines_of text) first (begin_boundary other) behind p.behind f p.first in
    let labels = one-label label other (sym is ∙ same.0) in
    (labels, subst (λ (l : Label). IsBody l contents behind) (sym labels) (subst (IsBody other contents) (sym same.1) p.block))

module _ (text first : List ℕ) (behind : List (List ℕ)) (f : FirstBlock (lines_of text) first behind) where
  second : HasTwoKeys text → HasSecond behind
  second h = subst HasSecond (one-block (lines_of text) h.0 first h.1 behind h.2 f).1 h.3

  old : IsOldEncrypted text → BeginsOldEncrypted behind
  old h = subst BeginsOldEncrypted (one-block (lines_of text) h.0 first h.1 behind h.2 f).1 h.3

  -- why a text is refused whose first block is not that of a key
  pub block-fault : (error : PemError) → IsNoPem text → IsBlockRefusal behind error → IsTextFault text error
  block-fault NotPem none h = (none, λ t. h.0 (second t), λ t. h.1 (old t))
  block-fault TwoKeys none h = (none, (first, behind, f, h))
  block-fault Encrypted none h = (none, λ t. h.0 (second t), (first, behind, f, h.1))
  block-fault error none h = absurd h

-- ---- the answers for a text

no-pem : (text : List ℕ) → All IsPassed (lines_of text) → IsNoPem text
no-pem text all label contents bytes p = no-block (lines_of text) (begin_boundary label) p.behind all p.first

pub no-text : (text : List ℕ) → All IsPassed (lines_of text) → ReadsText text (Err NotPem)
no-text text all = record {
  bytes = tt;
  found = tt;
  read = λ label contents bytes p. absurd (no-pem text all label contents bytes p);
  refused = (
    no-pem text all,
    λ two. no-block (lines_of text) two.0 two.1 all two.2,
    λ old. no-block (lines_of text) old.0 old.1 all old.2,
  );
}

module _ (text first : List ℕ) (behind : List (List ℕ)) (f : FirstBlock (lines_of text) first behind) where
  pub other-text : (error : PemError) → IsNoPem text → IsBlockRefusal behind error → ReadsText text (Err error)
  other-text error none refused = record {
    bytes = tt;
    found = tt;
    read = λ label contents bytes p. absurd (none label contents bytes p);
    refused = block-fault text first behind f error none refused;
  }

  pub other-label : ((label : Label) → first ≢ begin_boundary label) → IsNoPem text
  other-label none label contents bytes p = none label (sym (one-block (lines_of text) (begin_boundary label) first p.behind behind p.first f).0)

  module _ (label : Label) (is : first ≡ begin_boundary label) where
    pub other-body : ((contents : List ℕ) → IsBytes contents → ¬ IsBody label contents behind) → IsNoPem text
    other-body none other contents bytes p = none contents bytes (pem-label label other contents text first behind f is p).1

    pub read-text : (contents : Vec ℕ Global) → IsBytes contents.items → IsBody label contents.items behind
        → ReadsText text (Ok (label, contents))
    read-text contents bytes body = record {
      bytes = bytes;
      found = record {
        behind = behind;
        first = subst (λ (l : List ℕ). FirstBlock (lines_of text) l behind) is f;
        block = body;
      };
      read = λ other held are p.
          let same = pem-label label other held text first behind f is p in
          (same.0, one-body label contents.items held behind bytes are body same.1);
      refused = tt;
    }
