-- Two boxes under one key and one nonce have one keystream.
use Rattle.std.proofs.Common.{◌≡◌, ℕ, List, Some, length, take, sym, ap, ap₂, ◌∙◌}
use Rattle.std.proofs.lemmas.List.{take_at}
use Rattle.rusty_paseto_primitives.specs.ChaCha.Stream.{xchacha20_stream}
use Rattle.rusty_paseto_core.specs.Local.Keystreams.{BoxesShow, xor_lists}
use Rattle.rusty_paseto_core.proofs.KeystreamLaws.{xored_from-shows}
use Rattle.paseto_xchacha20poly1305.specs.Sealing.{box_sealing, text_tag, xored_text}
use Rattle.paseto_xchacha20poly1305.specs.SealingLaws.{box_sealing-parts, length-xored_text}

front : (key nonce data_ message boxed : List ℕ) → box_sealing key nonce data_ message ≡ Some boxed
    → take (length message) boxed ≡ xored_text key nonce message
front key nonce data_ message boxed is =
    let whole = (box_sealing-parts key nonce data_ message boxed is).1 in
    ap (take (length message)) (sym whole)
    ∙ take_at (xored_text key nonce message) (text_tag key nonce data_ (xored_text key nonce message)) (length message) (length-xored_text key nonce message)

texts-show : (key nonce a b : List ℕ) → xor_lists (xored_text key nonce a) (xored_text key nonce b) ≡ xor_lists a b
unfolding xored_text
texts-show key nonce a b = xored_from-shows (xchacha20_stream key nonce) 64 a b

pub boxes_show : BoxesShow box_sealing
boxes_show key nonce data_a data_b a b boxed_a boxed_b one other =
    ap₂ xor_lists (front key nonce data_a a boxed_a one) (front key nonce data_b b boxed_b other) ∙ texts-show key nonce a b
