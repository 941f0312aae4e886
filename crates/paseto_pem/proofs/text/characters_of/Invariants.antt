use Rattle.std.proofs.Common.{◌≡◌, take}
use Rattle.std.specs.Prelude.{All, string_bytes}
use Rattle.std.specs.List.{concat}
use Rattle.paseto_pem.specs.Text.{IsBase64Line, texts}
use Rattle.paseto_pem.proofs.text.characters_of.Given as goal

abbrev pub invariant-each : goal.invariant-each
invariant-each l =
    All IsBase64Line (take l.index (texts l.body))
    × (string_bytes l.characters ≡ concat (take l.index (texts l.body)))
