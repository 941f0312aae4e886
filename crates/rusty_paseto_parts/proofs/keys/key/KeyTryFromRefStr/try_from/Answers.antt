use Rattle.std.proofs.Common.{◌≡◌, Ok, Err, IsOk, refl, sym, ◌∙◌}
use Rattle.hex.specs.Hex.{decode_sized}
use Rattle.hex.proofs.HexLemmas.{IsOk-decode_sized, decode_sized-twice}
use Rattle.rusty_paseto_parts.proofs.keys.key.KeyTryFromRefStr.try_from.Goals as goal

pub returns-in-Ok : goal.returns-in-Ok
returns-in-Ok g c =
    let sized : decode_sized c.args.text.now g.row.N ≡ Ok c.in-Ok.bytes = sym c.from_hex.ensures ∙ c.in-Ok.is in
    let read : IsOk (decode_sized c.args.text.now g.row.N) = rw sized refl in
    let is = (IsOk-decode_sized c.args.text.now g.row.N).0 read in
    record {
      read = (λ _. is, λ _. refl);
      bytes = sym (decode_sized-twice c.args.text.now g.row.N is.0) ∙ sized;
      refused = tt;
    }

pub returns-in-Err : goal.returns-in-Err
returns-in-Err g c =
    let sized : decode_sized c.args.text.now g.row.N ≡ Err c.in-Err.field-0 = sym c.from_hex.ensures ∙ c.in-Err.is in
    record {
      read = (λ h. cc h, λ is. let read = rw sized at ((IsOk-decode_sized c.args.text.now g.row.N).1 is) in cc read);
      bytes = tt;
      refused = refl;
    }
