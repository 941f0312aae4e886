use Rattle.std.proofs.Common.{◌≡◌, take}
use Rattle.std.proofs.lemmas.Bool.Decides.{Decides-eqb}
use Rattle.std.proofs.lemmas.Slice.Eq.{strip_prefix_is}
use Rattle.base64.specs.Engines.{url_safe_no_pad}
use Rattle.base64.specs.GeneralPurpose.{encode_of}
use Rattle.base64.proofs.EngineFacts.{encoded_prefix}
use Rattle.rusty_paseto_parts.specs.Section.{base64url}
use Rattle.rusty_paseto_parts.proofs.section.strip_base64url.Goals as goal

pub returns : goal.returns
unfolding base64url
returns c =
    let spelled : take c.in-Ok.len c.encode_slice.new.output ≡ encode_of url_safe_no_pad c.args.piece.now =
    encoded_prefix (encode_of url_safe_no_pad c.args.piece.now) _ c.encode_slice.new.output _ c.in-Ok.len c.encode_slice.result _
    c.encode_slice.auto.output c.encode_slice.ensures.fits c.encode_slice.ensures.too_small c.in-Ok.is c.in-Ok.ensures.written in
    rw spelled at (strip_prefix_is Decides-eqb c.args.text.now (take c.in-Ok.len c.encode_slice.new.output) c.strip_prefix.result c.strip_prefix.ensures.cases)
