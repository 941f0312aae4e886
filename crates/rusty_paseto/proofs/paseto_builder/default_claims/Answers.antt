use Rattle.std.proofs.Common.{codes, string_bytes, ap, subst}
use Rattle.serde_json.specs.Data.{no_members, member, string}
use Rattle.rusty_paseto.specs.PasetoBuilder.{expiration_key}
use Rattle.rusty_paseto_claims.specs.Moment.{IsMomentText}
use Rattle.rusty_paseto.proofs.paseto_builder.default_claims.Goals as goal

pub returns : goal.returns
returns c = record {
  end = string_bytes c.in_ok-expiration.expiration;
  begin = string_bytes c.in_ok-begin.begin;
  is_end = subst (λ moment. IsMomentText moment (string_bytes c.in_ok-expiration.expiration)) c.hour_after.ensures c.in_ok-expiration.ensures;
  is_begin = c.in_ok-begin.ensures;
  is = rw (c.in_ok-put_text-3.ensures, c.in_ok-put_text-2.ensures, c.in_ok-put_text.ensures, c.new-claims.ensures.empty)
      (ap (λ text. member expiration_key (string (string_bytes c.in_ok-expiration.expiration))
      (member (codes "iat") (string text) (member (codes "nbf") (string (string_bytes c.in_ok-begin.begin)) no_members)))
      c.in_ok-clone.ensures.cases);
}
