-- What is locked is opened.
use Rattle.std.proofs.Common.{◌≡◌, ℕ, List, ◌++◌, length, inl, inr, refl, sym, subst, ◌∙◌}
use Rattle.std.proofs.lemmas.List.{append_cancel_left, take_at, drop_at}
use Rattle.base64.specs.GeneralPurpose.{IsBytes}
use Rattle.rusty_paseto_parts.specs.Section.{base64url}
use Rattle.rusty_paseto_paserk.specs.declared.header.PaserkVersion.{PaserkVersion}
use Rattle.rusty_paseto_paserk.specs.declared.header.PaserkVersion.TheVariants.{V1, V2, V3, V4}
use Rattle.rusty_paseto_paserk.specs.declared.header.PaserkType.TheVariants.{Local, Secret, Public}
use Rattle.rusty_paseto_parts.proofs.SectionLemmas.{base64url-injective}
use Rattle.rusty_paseto_paserk.specs.Header.{header}
use Rattle.rusty_paseto_paserk.specs.Text.{writing as key_writing}
use Rattle.paseto_p384.specs.P384.{p384_public}
use Rattle.paseto_p384.proofs.AgreementLaws.{public-bytes}
use Rattle.rusty_paseto_primitives.proofs.ByteLists.{IsBytes-take, IsBytes-drop}
use Rattle.paseto_wrapping.specs.declared.header.WrappedType.{WrappedType}
use Rattle.paseto_wrapping.specs.declared.header.WrappedType.TheVariants.{LocalWrap, SecretWrap, LocalPassword, SecretPassword, Seal}
use Rattle.paseto_wrapping.specs.Keys.{IsPrivateKey as IsWrappedKey, wrapped_form}
use Rattle.paseto_wrapping.specs.Sealing.{IsSealed}
use Rattle.paseto_wrapping.specs.Laws.{PrivateProtectedUnwrap, PrivateWrappedUnwrap, ProtectedUnwrap, SealedUnseal, WrappedUnwrap}
use Rattle.paseto_wrapping.specs.Password.{payload as password_payload}
use Rattle.paseto_wrapping.specs.Pie.{payload as pie_payload}
use Rattle.paseto_wrapping.specs.Text.{writing}
use Rattle.paseto_key_files.specs.declared.openers.Openers.{Openers}
use Rattle.paseto_key_files.specs.Held.{HoldsKey}
use Rattle.paseto_key_files.specs.Laws.{IsSameLine, ProtectedUnlock, SealedUnlock, WrappedUnlock}
use Rattle.paseto_key_files.specs.Line.{IsLocalKey, IsPrivateKey, IsPrivateLine, private_line}
use Rattle.paseto_key_files.specs.Opening.{ByKey, InForm, OpensAs, OpensLine, Pies, Seals, UnderPassword, Unlocks, most}
use Rattle.paseto_key_files.proofs.FormLaws.{line_bytes, line_key}
use Rattle.paseto_key_files.proofs.TextLaws.{writing_is_line, writing_no_pem}

-- the parts of bytes are bytes
front_bytes : (front back : List ℕ) → IsBytes (front ++ back) → IsBytes front × IsBytes back
front_bytes front back h = (
  subst IsBytes (take_at front back (length front) refl) (IsBytes-take (length front) (front ++ back) h),
  subst IsBytes (drop_at front back (length front) refl) (IsBytes-drop (length front) (front ++ back) h),
)

-- a private key is one that is wrapped
wrapping_key : (version : PaserkVersion) (key : List ℕ) → IsPrivateKey version key → IsWrappedKey version key
wrapping_key V1 key h = h
wrapping_key V2 key h = h
wrapping_key V3 key h = h
wrapping_key V4 key h = h

-- the line of a private key is the one that is written, or in version 1 another one of the same key
same_line : (version : PaserkVersion) (key line : List ℕ) → IsPrivateLine version key line → IsSameLine line (private_line version key)
same_line V1 key line is = inr (key, is, refl)
same_line V2 key line is = inl (sym is.written)
same_line V3 key line is = inl (sym is.written)
same_line V4 key line is = inl (sym is.written)

-- a locked text is opened as the version and the type that it begins as
unlocks_writing : (version : PaserkVersion) (kind : WrappedType) (payload : List ℕ) (openers : Openers) (line text : List ℕ) → text ≡ writing version kind payload
    → OpensAs version kind openers (writing version kind payload) line → Unlocks openers text line
unlocks_writing version kind payload openers line text is opens =
    let own : OpensLine openers (writing version kind payload) line = inl (version, kind, (base64url payload, refl), opens) in
    subst (λ (t : List ℕ). Unlocks openers t line) (sym is)
    (inr (writing_no_pem version kind payload, subst (λ (t : List ℕ). OpensLine openers t line) (sym (writing_is_line version kind payload)) own))

pub protected_unlocks : ProtectedUnwrap → PrivateProtectedUnwrap → ProtectedUnlock
protected_unlocks unwraps private version Local cost openers password line text opener within p =
    let bytes = front_bytes p.salt p.nonce p.is_drawn in
    let sealed : List ℕ = password_payload version LocalPassword password.now cost p.salt p.nonce p.key in
    let held : HoldsKey IsLocalKey (key_writing version Local) (UnderPassword version LocalPassword password.now) (writing version LocalPassword sealed) line = record {
      key = p.key;
      bytes = p.is_line.bytes;
      form = p.is_line.form;
      wrapped = unwraps version LocalPassword password.now most cost p.salt p.nonce p.key p.short (p.allowed, within) (bytes.0, p.lengths.0) (bytes.1, p.lengths.1) p.is_line.bytes;
      line_is = p.is_line.written;
    } in
    (line, inl refl, unlocks_writing version LocalPassword sealed openers line text p.text_is (rw opener held))
protected_unlocks unwraps private version Secret cost openers password line text opener within p =
    let bytes = front_bytes p.salt p.nonce p.is_drawn in
    let of = line_bytes version p.key line p.is_line in
    let form = line_key version p.key line p.is_line in
    let sealed : List ℕ = password_payload version SecretPassword password.now cost p.salt p.nonce (wrapped_form version p.key) in
    let held : HoldsKey (IsPrivateKey version) (private_line version) (InForm version (UnderPassword version SecretPassword password.now)) (writing version SecretPassword sealed) (private_line version p.key) = record {
      key = p.key;
      bytes = of;
      form = form;
      wrapped = private version password.now most cost p.salt p.nonce p.key p.short (p.allowed, within) (bytes.0, p.lengths.0) (bytes.1, p.lengths.1) of (wrapping_key version p.key form);
      line_is = refl;
    } in
    (private_line version p.key, same_line version p.key line p.is_line, unlocks_writing version SecretPassword sealed openers (private_line version p.key) text p.text_is (rw opener held))
protected_unlocks unwraps private version Public cost openers password line text opener within p = absurd p

pub wrapped_unlocks : WrappedUnwrap → PrivateWrappedUnwrap → WrappedUnlock
wrapped_unlocks unwraps private version Local openers wrapping line text opener p =
    let sealed : List ℕ = pie_payload version LocalWrap p.wk p.nonce p.key in
    let held : HoldsKey IsLocalKey (key_writing version Local) (ByKey version Local IsLocalKey (Pies version LocalWrap) wrapping.now) (writing version LocalWrap sealed) line = record {
      key = p.key;
      bytes = p.is_line.bytes;
      form = p.is_line.form;
      wrapped = (p.wk, p.is_wrapping, unwraps version LocalWrap p.wk p.nonce p.key (p.is_drawn, p.size) p.is_line.bytes);
      line_is = p.is_line.written;
    } in
    (line, inl refl, unlocks_writing version LocalWrap sealed openers line text p.text_is (rw opener held))
wrapped_unlocks unwraps private version Secret openers wrapping line text opener p =
    let of = line_bytes version p.key line p.is_line in
    let form = line_key version p.key line p.is_line in
    let sealed : List ℕ = pie_payload version SecretWrap p.wk p.nonce (wrapped_form version p.key) in
    let held : HoldsKey (IsPrivateKey version) (private_line version) (ByKey version Local IsLocalKey (λ (wk : List ℕ). InForm version (Pies version SecretWrap wk)) wrapping.now) (writing version SecretWrap sealed) (private_line version p.key) = record {
      key = p.key;
      bytes = of;
      form = form;
      wrapped = (p.wk, p.is_wrapping, private version p.wk p.nonce p.key (p.is_drawn, p.size) of (wrapping_key version p.key form));
      line_is = refl;
    } in
    (private_line version p.key, same_line version p.key line p.is_line, unlocks_writing version SecretWrap sealed openers (private_line version p.key) text p.text_is (rw opener held))
wrapped_unlocks unwraps private version Public openers wrapping line text opener p = absurd p

-- a public key has one line
one_point : (a b : List ℕ) → IsBytes a → IsBytes b → key_writing V3 Public a ≡ key_writing V3 Public b → a ≡ b
one_point a b of_a of_b same = base64url-injective a b of_a of_b (append_cancel_left (header V3 Public) (base64url a) (base64url b) same)

pub sealed_unlocks : SealedUnseal → SealedUnlock
sealed_unlocks unseals private openers opener public line text is own public_is p =
    let same : p.point ≡ p384_public private = one_point p.point (p384_public private) p.is_public.bytes (public-bytes private) (sym p.is_public.written ∙ public_is) in
    let sealed : IsSealed V3 (p384_public private) p.ephemeral p.key text = subst (λ (q : List ℕ). IsSealed V3 q p.ephemeral p.key text) same p.sealed in
    let wrapped : Seals V3 private text p.key = unseals private p.ephemeral p.key text own.0 (p.is_line.bytes, p.is_line.form) sealed in
    let held : HoldsKey IsLocalKey (key_writing V3 Local) (ByKey V3 Secret (IsPrivateKey V3) (Seals V3) opener.now) text line = record {
      key = p.key;
      bytes = p.is_line.bytes;
      form = p.is_line.form;
      wrapped = (private, own.1, wrapped);
      line_is = p.is_line.written;
    } in
    let opens : OpensAs V3 Seal openers text line = rw is held in
    (line, inl refl, unlocks_writing V3 Seal sealed.0 openers line text sealed.2 (subst (λ (t : List ℕ). OpensAs V3 Seal openers t line) sealed.2 opens))
