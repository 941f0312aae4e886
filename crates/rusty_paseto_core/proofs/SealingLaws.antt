-- The laws of sealing and opening, and of signing and verifying.
use Rattle.std.proofs.Common.{◌≡◌, ◌≢◌, ℕ, List, [], ◌∷◌, ◌++◌, Bool, true, false, length, refl, ap, arith, length-append, lit≤}
use Rattle.rusty_paseto_parts.specs.Section.{base64url}
use Rattle.rusty_paseto_primitives.proofs.Blake2Lengths.{IsBytes-blake2b, length-blake2b}
use Rattle.rusty_paseto_core.specs.Context.{Binding}
use Rattle.rusty_paseto_core.specs.Framing.{IsHeader, framing, footer_part}
use Rattle.rusty_paseto_core.specs.Laws.{BoxedSealingsOpen, BoxesHoldOneText, SealingsHoldOneText, SealingsOpen, SignaturesHoldOneText, SigningsVerify, TextsHaveTheirForms}
use Rattle.rusty_paseto_core.specs.Local.{Design, IsLawful, header}
use Rattle.rusty_paseto_core.specs.Local.Boxed.{box_opening, boxed_payload, token_nonce}
use Rattle.rusty_paseto_core.specs.Local.Opening.{opening}
use Rattle.rusty_paseto_core.specs.Local.Sealing.{sealing, sealed_payload}
use Rattle.rusty_paseto_core.specs.Public.{PublicDesign, public}
use Rattle.rusty_paseto_core.specs.Public as signed
use Rattle.rusty_paseto_core.specs.Public.Scheme.{Refusal, Validity}
use Rattle.rusty_paseto_core.specs.Public.Verifying.{verification}
use Rattle.rusty_paseto_core.specs.Reading.{IsForm, IsRead}
use Rattle.rusty_paseto_core.proofs.Opened.{opening-lawful}
use Rattle.rusty_paseto_core.proofs.ReadingLaws.{IsRead-text}
use Rattle.rusty_paseto_core.proofs.Unboxed.{box_opening-lawful, sealing_parts}
use Rattle.rusty_paseto_core.proofs.Verified.{verification-lawful}

module _ (design : Design) (law : IsLawful design) where
  pub sealings_open : SealingsOpen design
  sealings_open binding seed text written is_nonce is_text form = record {
    payload = sealed_payload design binding (design.token_nonce seed text) text;
    carried = record {
      utf8 = is_text.utf8;
      bytes = is_text.bytes;
      carries = record { nonce = design.token_nonce seed text; is_nonce = law.nonce seed text is_nonce; is_sealed = refl };
    };
    written = written;
    form = form;
    is_framing = refl;
  }

  pub sealings_hold_one_text : SealingsHoldOneText design
  sealings_hold_one_text binding footer_bytes = IsRead-text (opening design binding) (opening-lawful design law binding footer_bytes)

-- a footer's section makes a token longer
forms_apart : (front payload footer : List ℕ) → framing front payload true footer ≢ framing front payload false footer
unfolding framing footer_part
forms_apart front payload footer same =
    let longer = length-append (front ++ base64url payload) (46 ∷ base64url footer) in
    let plain = length-append (front ++ base64url payload) [] in
    omega (arith, ap length same, longer, plain)

form_of : (design : Design) (binding : Binding) (nonce text token : List ℕ) (read : IsRead (opening design binding) token text)
    → read.carried.carries.nonce ≡ nonce
    → (written : Bool) × IsForm written binding.footer × (token ≡ sealing design binding nonce written text)
form_of design binding nonce text token read same =
    (read.written, read.form, rw (read.is_framing, read.carried.carries.is_sealed, same) refl)

pub texts_have_their_forms : (design : Design) → TextsHaveTheirForms design
texts_have_their_forms design binding nonce text is_nonce is_text = record {
  each = λ written form. record {
    payload = sealed_payload design binding nonce text;
    carried = record {
      utf8 = is_text.utf8;
      bytes = is_text.bytes;
      carries = record { nonce = nonce; is_nonce = is_nonce; is_sealed = refl };
    };
    written = written;
    form = form;
    is_framing = refl;
  };
  apart = forms_apart (header design) (sealed_payload design binding nonce text) binding.footer;
  no_other = form_of design binding nonce text;
}

pub boxed_sealings_open : BoxedSealingsOpen
boxed_sealings_open box binding seed text written token is_text form same =
    let nonce = token_nonce seed text in
    let parts = sealing_parts binding.footer written token (boxed_payload box binding nonce text) same in
    record {
      payload = parts.0;
      carried = record {
        utf8 = is_text.utf8;
        bytes = is_text.bytes;
        carries = record {
          nonce = nonce;
          is_nonce = record { size = length-blake2b seed 24 text (lit≤ tt); bytes = IsBytes-blake2b seed 24 text };
          is_boxed = parts.1;
        };
      };
      written = written;
      form = form;
      is_framing = parts.2;
    }

pub boxes_hold_one_text : BoxesHoldOneText
boxes_hold_one_text box law binding key_size key_bytes footer_bytes =
    IsRead-text (box_opening box binding) (box_opening-lawful box law binding key_size key_bytes footer_bytes)

module _ (valid : Validity) (refused : Refusal) (design : PublicDesign) where
  pub signings_verify : SigningsVerify valid refused design
  signings_verify binding text token written is_text form signing = record {
    payload = signing.payload;
    carried = record { utf8 = is_text.utf8; bytes = is_text.bytes; carries = signing.signed };
    written = written;
    form = form;
    is_framing = signing.is_framing;
  }

  pub signatures_hold_one_text : IsHeader design.version public (signed.header design) → SignaturesHoldOneText valid refused design
  signatures_hold_one_text is_header binding footer_bytes =
      IsRead-text (verification valid refused design binding) (verification-lawful valid refused design binding is_header footer_bytes)
