use Rattle.std.proofs.Common.{◌≡◌, ◌*◌, ◌^◌, ◌<◌, ◌≤◌}
use Rattle.std.specs.Prelude.{replicate}
use Rattle.paseto_edwards25519.specs.Table.{IsEntry}
use Rattle.paseto_edwards25519.proofs.point.comb.select.Given as goal

abbrev pub invariant-entries : goal.invariant-entries
invariant-entries l = record {
  kept : l.fn.at < l.i → IsEntry (l.fn.at * 2 ^ (16 * l.fn.row)) l.chosen;
  none : l.i ≤ l.fn.at → l.chosen ≡ replicate 6 0;
}
