use Rattle.std.proofs.Common.{◌≡◌, ◌∙◌, refl}
use Rattle.std.proofs.lemmas.List.{take_rest}
use Rattle.std.proofs.lemmas.Option.{get_or_from_slice_get}
use Rattle.rusty_paseto_core.proofs.TagCollisions.{pair_collides}
use Rattle.rusty_paseto_core.proofs.local.tag_collision.collision_of.Goals as goal

pub returns-clause-ok : goal.returns-clause-ok
returns-clause-ok g c =
    let design = g.V.LocalSuite.design in
    let pair = c.requires.pair in
    let first : c.index-opened-i.result ≡ pair.first =
    c.index-opened-i.is ∙ get_or_from_slice_get c.args.opened.now c.args.i pair.first c.index-opened-i.result pair.first_is in
    let second : c.index-opened-j.result ≡ pair.second =
    c.index-opened-j.is ∙ get_or_from_slice_get c.args.opened.now c.args.j pair.second c.index-opened-j.result pair.second_is in
    pair_collides design c.args.opened.now c.requires.each c.args.i c.args.j pair c.index-opened-i.result c.index-opened-j.result first second _ refl
    c.in_ok-encoding_of.ensures.ok c.in_ok-encoding_of.ensures.fits
    c.in_ok-encoding_of-2.ensures.ok c.in_ok-encoding_of-2.ensures.fits
    (rw (c.in_ok-tag.ensures.items, c.deref.ensures.value) (take_rest c.index-opened-i.result.nonce_and_tag.items 32))
