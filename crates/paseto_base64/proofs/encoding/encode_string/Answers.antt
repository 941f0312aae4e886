use Rattle.std.proofs.Common.{◌≡◌, ◌-◌, ◌++◌, List, ℕ, arith, ap, drop, length, string_bytes, sym, take, ◌∙◌}
use Rattle.std.proofs.lemmas.List.{append_assoc, length-drop, take_all}
use Rattle.paseto_base64.proofs.Ends.{group_first}
use Rattle.paseto_base64.proofs.encoding.encode_string.Goals as goal

pub loop-rest-preserved : goal.loop-rest-preserved
loop-rest-preserved c =
    let rest : List ℕ = c.loop-rest.rest.now in
    let tail : take (length rest - 3) (drop 3 rest) ≡ drop 3 rest = take_all _ _ (omega (arith, length-drop 3 rest)) in
    let grouped = sym (group_first c.args.alphabet rest c.in-len3-up.len_at_least) in
    rw (tail, c.in_ok-push_group.ensures)
    (append_assoc (string_bytes c.loop-rest.text) _ _ ∙ ap (λ end. string_bytes c.loop-rest.text ++ end) grouped ∙ c.loop-rest.invariant)
