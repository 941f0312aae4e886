use Rattle.std.proofs.Common.{List, ℕ, sym, subst}
use Rattle.paseto_pem.specs.Text.{IsPem}
use Rattle.paseto_pem.proofs.WrittenLaws.{written-is-pem}
use Rattle.paseto_pem.proofs.laws.written_public_keys_are_read.Goals as goal

pub returns : goal.returns
returns g c label key text w = record {
  label = label;
  contents = w.contents;
  bytes = w.bytes;
  written = subst (λ (t : List ℕ). IsPem label w.contents t) (sym w.written) (written-is-pem label w.contents);
  held = g.V.PemVersion.public_is_read label w.contents key w.held;
}
