-- The message that is signed, from the five pieces that may be.
use Rattle.std.proofs.Common.{◌≡◌, ℕ, ◌-◌, Bool, true, false, if◌then◌else◌, List, [], ◌∷◌, ◌++◌, map, take, drop, Bor, refl, sym, ap, ◌∙◌}
use Rattle.std.proofs.lemmas.List.{take-map, drop-map}
use Rattle.rusty_paseto_parts.specs.PreAuthenticationEncoding.{pae}
use Rattle.rusty_paseto_core.specs.Context.{Binding}
use Rattle.rusty_paseto_core.specs.Public.{PublicDesign, header, message, where_bound}

-- of five pieces those from the first or the second to the last or the last but one
cut : (key header text footer assertion : List ℕ) (binds_key binds_assertion : Bool) (start end : ℕ)
    → start ≡ (if binds_key then 0 else 1) → end ≡ (if binds_assertion then 5 else 4)
    → take (end - start) (drop start (key ∷ header ∷ text ∷ footer ∷ assertion ∷ []))
    ≡ where_bound binds_key key ++ (header ∷ text ∷ footer ∷ where_bound binds_assertion assertion)
cut key header text footer assertion true true start end s e = rw (s, e) refl
cut key header text footer assertion true false start end s e = rw (s, e) refl
cut key header text footer assertion false true start end s e = rw (s, e) refl
cut key header text footer assertion false false start end s e = rw (s, e) refl

-- the encoding of the pieces from `start` to `end`
pub bound_message : (design : PublicDesign) (binding : Binding) (text : List ℕ) (lent : List (Bor (List ℕ))) (binds_key binds_assertion : Bool) (start end : ℕ)
    → map (λ piece. piece.now) lent ≡ binding.key ∷ header design ∷ text ∷ binding.footer ∷ binding.assertion ∷ []
    → design.binds_key ≡ binds_key → design.binds_assertion ≡ binds_assertion
    → start ≡ (if binds_key then 0 else 1) → end ≡ (if binds_assertion then 5 else 4)
    → pae (map (λ piece. piece.now) (take (end - start) (drop start lent))) ≡ message design binding text
unfolding message
bound_message design binding text lent binds_key binds_assertion start end five ek ea s e =
    let five_cut = cut binding.key (header design) text binding.footer binding.assertion binds_key binds_assertion start end s e in
    rw (ek, ea)
    (ap pae (sym (take-map (λ (piece : Bor (List ℕ)). piece.now) (end - start) (drop start lent))
    ∙ ap (λ (lists : List (List ℕ)). take (end - start) lists) (sym (drop-map (λ (piece : Bor (List ℕ)). piece.now) start lent)
    ∙ ap (λ (lists : List (List ℕ)). drop start lists) five) ∙ five_cut))
