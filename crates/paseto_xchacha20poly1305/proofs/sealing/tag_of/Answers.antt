use Rattle.std.proofs.Common.{◌≡◌, ℕ, List, [], ◌++◌, length, ap₂, ◌∙◌}
use Rattle.std.specs.Int.{w64, to_le_bytes}
use Rattle.std.proofs.lemmas.List.{append_assoc}
use Rattle.paseto_xchacha20poly1305.specs.Sealing.{one_time_key, padded, tagged_data, text_tag}
use Rattle.paseto_xchacha20poly1305.specs.Tag.{poly1305}
use Rattle.paseto_xchacha20poly1305.proofs.sealing.tag_of.Goals as goal

pub returns : goal.returns
unfolding text_tag tagged_data one_time_key
returns c =
    let a = c.args.data.now in
    let t = c.args.text.now in
    let key = c.xchacha20_apply.new.data in
    let held0 = c.new-hasher.ensures in
    let held1 = c.update_padded.ensures key [] held0 in
    let held2 = c.update_padded-2.ensures key (padded a) held1 in
    let held3 = c.update.ensures key (padded a ++ padded t) held2 in
    let held4 = c.update-2.ensures key _ held3 in
    let lengths : padded a ++ padded t ++ c.to_le_bytes.result ++ c.to_le_bytes-2.result
    ≡ padded a ++ (padded t ++ (to_le_bytes w64 (length a) ++ to_le_bytes w64 (length t))) =
    append_assoc (padded a ++ padded t) c.to_le_bytes.result c.to_le_bytes-2.result
    ∙ append_assoc (padded a) (padded t) _
    ∙ ap₂ (λ (x y : List ℕ). padded a ++ (padded t ++ (x ++ y))) c.to_le_bytes.ensures c.to_le_bytes-2.ensures in
    c.finalize.ensures key _ held4 ∙ ap₂ poly1305 c.xchacha20_apply.ensures lengths
