use Rattle.std.proofs.Common.{◌≡◌, ℕ, List, length, inr, refl, ◌∙◌, ap}
use Rattle.std.proofs.lemmas.Bool.{false≢true}
use Rattle.sha2.specs.Sha512.{sha384}
use Rattle.paseto_rsa.specs.Keys.{IsPrivate}
use Rattle.paseto_rsa.specs.PrivateKey.{private_numbers}
use Rattle.paseto_rsa.specs.Rsa.{pss_sign}
use Rattle.paseto_rsa.specs.RsaPss.{HasNoSignature}
use Rattle.paseto_rsa.proofs.KeyLaws.{no-signature, public-of}
use Rattle.paseto_rsa.proofs.rsa_pss.RsaPssSignatureScheme256.sign.Goals as goal

pub returns-then-not-is_valid-clause-err : goal.returns-then-not-is_valid-clause-err
returns-then-not-is_valid-clause-err g c =
    let private : List ℕ = c.args.private.now in
    let message : List ℕ = c.args.message.now in
    let found = c.in-Some.ensures in
    let k = private_numbers c.in-Some.key found.0 in
    let salt = c.in_ok-salt.salt in
    let key : IsPrivate private = record { numbers = k; in_range = found.1.0; read = found.1.1 } in
    let long : length salt ≡ 48 = c.as_bytes.ensures.len in
    let none : HasNoSignature private message salt =
    no-signature k private message salt c.digest-hash.result c.as_bytes.result.now c.signature-made.result found.1.1
    c.digest-hash.ensures c.as_bytes.ensures.bytes (c.signature-made.ensures found.0)
    (λ v. false≢true (c.if-not-is_valid.ensures.1 v)) in (
      inr (key, inr (refl, (salt, long, none))),
      λ _. inr (refl, (salt, long, c.in_ok-salt.ensures.given, none)),
      λ no. absurd (no key),
    )

pub returns-clause-ok : goal.returns-clause-ok
returns-clause-ok g c =
    let private : List ℕ = c.args.private.now in
    let message : List ℕ = c.args.message.now in
    let found = c.in-Some.ensures in
    let k = private_numbers c.in-Some.key found.0 in
    let salt = c.in_ok-salt.salt in
    let valid = c.if-not-is_valid.ensures.0 refl in
    let made = c.signature-made.ensures found.0 ∙ ap (λ h. pss_sign k h c.as_bytes.result.now) c.digest-hash.ensures ∙ ap (pss_sign k (sha384 message)) c.as_bytes.ensures.bytes in (
      record {
        n = k.n;
        e = k.e;
        in_range = found.1.0.public;
        key = public-of k private found.1.1;
        valid = rw c.digest-hash.ensures at valid;
      },
      (
        salt,
        c.as_bytes.ensures.len,
        c.in_ok-salt.ensures.given,
        record { numbers = k; in_range = found.1.0; read = found.1.1; made = made },
      ),
    )
