use Rattle.std.proofs.Common.{◌≡◌, List, ℕ, sym, ap, ◌∙◌}
use Rattle.paseto_wrapping.specs.Family.{family_of}
use Rattle.paseto_wrapping.specs.Laws.{WrappedCommit, WrappedOnce}
use Rattle.paseto_wrapping.specs.Pie.{c, t}
use Rattle.paseto_wrapping.proofs.Families.{encrypted-encrypted}
use Rattle.paseto_wrapping.proofs.Pies.{parts_of}
use Rattle.paseto_wrapping.proofs.laws.wrapped_keys_commit.Goals as goal

tag_of_both : WrappedCommit
tag_of_both version kind wk other input ptk found first second =
    let a = parts_of version kind wk input ptk first in
    let b = parts_of version kind other input found second in
    let body : List ℕ = c (family_of version) wk first.0 ptk in
    let nonces : second.0 ≡ first.0 = sym b.nonce_is ∙ a.nonce_is in
    let bodies : c (family_of version) other second.0 found ≡ body = sym b.body_is ∙ a.body_is in
    let tags = ap (t version kind other second.0) bodies ∙ ap (λ n. t version kind other n body) nonces in
    (first.0, body, first.1, a.tag_is, b.tag_is ∙ tags)

one_key : WrappedOnce
one_key version kind wk input ptk found first second =
    let a = parts_of version kind wk input ptk first in
    let b = parts_of version kind wk input found second in
    let nonces : second.0 ≡ first.0 = sym b.nonce_is ∙ a.nonce_is in
    let bodies : c (family_of version) wk second.0 found ≡ c (family_of version) wk first.0 ptk = sym b.body_is ∙ a.body_is in
    let same = ap (λ n. c (family_of version) wk n found) (sym nonces) ∙ bodies in
    let back = ap (c (family_of version) wk first.0) same in
    sym (encrypted-encrypted (family_of version) _ _ ptk) ∙ sym back ∙ encrypted-encrypted (family_of version) _ _ found

pub returns : goal.returns
returns g = record { commits = tag_of_both; once = one_key }
