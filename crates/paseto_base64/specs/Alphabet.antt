-- The symbols of base64 (RFC 4648, tables 1 and 2), as the crate `base64` has them.
use Rattle.std.specs.Prelude.{ℕ, List, []}
use Rattle.base64.specs.Engines.{standard, url_safe_no_pad}
use Rattle.base64.specs.declared.engine.general_purpose.GeneralPurpose.{GeneralPurpose}
use Rattle.paseto_base64.specs.declared.alphabet.Alphabet.{Alphabet}
use Rattle.paseto_base64.specs.declared.alphabet.Alphabet.TheVariants.{Standard, UrlSafe}

-- the engine of an alphabet
abbrev pub engine : Alphabet → GeneralPurpose
engine Standard = standard
engine UrlSafe = url_safe_no_pad

-- the 64 symbols of an alphabet
abbrev pub symbols : Alphabet → List ℕ
symbols alphabet = (engine alphabet).encode_table

-- padding, where an alphabet has any
abbrev pub padding_of : Alphabet → List ℕ → List ℕ
padding_of Standard padding = padding
padding_of UrlSafe padding = []
