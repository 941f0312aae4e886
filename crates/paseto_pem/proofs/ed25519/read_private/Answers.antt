use Rattle.std.proofs.Common.{◌≡◌, ◌++◌, length, inr, subst, sym, ap, ◌∙◌, length-append, rules, arith}
use Rattle.std.proofs.lemmas.Bool.{false≢true}
use Rattle.paseto_ed25519.specs.Ed25519.{ed25519_public}
use Rattle.paseto_pem.specs.declared.error.PemError.TheVariants.{OtherHalf}
use Rattle.paseto_pem.specs.Ed25519.{IsPrivateFault, IsPrivateOf}
use Rattle.paseto_pem.specs.Info.{IsHalf, lent}
use Rattle.paseto_pem.proofs.Ed25519Laws.{other-half, private-one, refused-private}
use Rattle.paseto_pem.proofs.KeyLaws.{refused-contents}
use Rattle.paseto_pem.proofs.ed25519.read_private.Goals as goal

pub returns-in_err-found : goal.returns-in_err-found
returns-in_err-found c =
    let error = c.in_err-found.field-0.0 in
    refused-contents IsPrivateOf IsPrivateFault c.args.label c.args.contents.now error c.from_residual.result c.from_residual.ensures.1
    (inr (inr (c.in-PrivateKey.is, c.in_err-found.ensures.refused)))
    (λ key p. absurd (refused-private c.args.label c.args.contents.now key error c.in_err-found.ensures.refused p))

pub returns-then-not-is_half : goal.returns-then-not-is_half
returns-then-not-is_half c =
    let seed = c.in_ok-found.found.seed.now in
    let refused = other-half seed c.public_key-own.result c.args.contents.now (lent c.in_ok-found.found.public) c.in_ok-found.ensures.found
    c.public_key-own.ensures (λ half. false≢true (sym c.if-not-is_half.true ∙ c.is_half.ensures.1 half)) in
    record {
      found = tt;
      read = λ key p. absurd (refused-private c.args.label c.args.contents.now key OtherHalf refused p);
      refused = inr (inr (c.in-PrivateKey.is, refused));
    }

pub returns : goal.returns
returns c =
    let seed = c.in_ok-found.found.seed.now in
    let public = lent c.in_ok-found.found.public in
    let known = c.in_ok-found.ensures.found in
    let made = c.in_ok-extend_from_slice.ensures.items ∙ ap (λ l. l ++ c.public_key-own.result) c.in_ok-key.ensures.items in
    let halves : c.extend_from_slice.new.self.items ≡ seed ++ ed25519_public seed = made ∙ ap (λ l. seed ++ l) c.public_key-own.ensures in
    let size : length c.public_key-own.result ≡ 32 = search rules in
    record {
      found = record {
        is_private = c.in-PrivateKey.is;
        seed = seed;
        public = public;
        written = known;
        half = subst (IsHalf public) c.public_key-own.ensures (c.is_half.ensures.0 c.if-not-is_half.false);
        halves = halves;
        whole = ap length made ∙ length-append seed c.public_key-own.result ∙ omega (arith, size, known.size);
      };
      read = λ key p. private-one c.args.label c.args.contents.now seed c.extend_from_slice.new.self.items key public known halves p;
      refused = tt;
    }
