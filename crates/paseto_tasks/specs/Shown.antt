-- What a token shows that opens or verifies under a key: what its tag or its signature covers, and that.
use Rattle.std.specs.Prelude.{◌≡◌, ℕ, List, [], ◌∷◌, ◌++◌, codes}
use Rattle.hex.specs.Hex.{encode_lower}
use Rattle.rusty_paseto_core.specs.Context.{Binding, assertion_of, footer_of}
use Rattle.rusty_paseto_core.specs.Local.{Design}
use Rattle.rusty_paseto_core.specs.Local.BoxForgery.{IsBoxForgery}
use Rattle.rusty_paseto_core.specs.Local.Forgery.{IsForgery}
use Rattle.rusty_paseto_core.specs.Local.TagCollision.{Case}
use Rattle.rusty_paseto_core.specs.Local.V1.{v1}
use Rattle.rusty_paseto_core.specs.Local.V3.{v3}
use Rattle.rusty_paseto_core.specs.Local.V4.{v4}
use Rattle.rusty_paseto_core.specs.Public.{PublicDesign, v1_public, v2_public, v3_public, v4_public}
use Rattle.rusty_paseto_core.specs.Public.Scheme.{Refusal, Validity}
use Rattle.rusty_paseto_core.specs.Public.SignatureForgery.{IsSignatureForgery}
use Rattle.rusty_paseto_core.specs.declared.local.box_forgery.BoxForgery.{BoxForgery}
use Rattle.rusty_paseto_core.specs.declared.local.forgery.TagForgery.{TagForgery}
use Rattle.rusty_paseto_core.specs.declared.public.signature_forgery.SignatureForgery.{SignatureForgery}
use Rattle.rusty_paseto_paserk.specs.declared.header.PaserkType.{PaserkType}
use Rattle.rusty_paseto_paserk.specs.declared.header.PaserkType.TheVariants.{Local, Secret, Public}
use Rattle.rusty_paseto_paserk.specs.declared.header.PaserkVersion.{PaserkVersion}
use Rattle.rusty_paseto_paserk.specs.declared.header.PaserkVersion.TheVariants.{V1, V2, V3, V4}
use Rattle.paseto_ed25519.specs.Ed25519.{Ed25519Verifies, IsRefused}
use Rattle.paseto_keys.specs.AnyKey.{KeyParts, binding}
use Rattle.paseto_p384.specs.P384.{P384Verifies, IsRefused as IsRefusedByP384}
use Rattle.paseto_rsa.specs.RsaPss.{RsaPssVerifies, IsRefused as IsRefusedByRsa}
use Rattle.paseto_xchacha20poly1305.specs.Sealing.{box_sealing}
use Rattle.paseto_tasks.specs.declared.arguments.Options.{Options}

-- ---- lines

abbrev pub tag_text : TagForgery → List ℕ
tag_text found =
    codes "nonce: " ++ (encode_lower found.nonce ++ (codes "\nmessage: " ++ (encode_lower found.message
    ++ (codes "\ntag: " ++ (encode_lower found.tag.items ++ (10 ∷ []))))))

abbrev pub box_text : BoxForgery → List ℕ
box_text found =
    codes "nonce: " ++ (encode_lower found.nonce ++ (codes "\nassociated data: " ++ (encode_lower found.encoding
    ++ (codes "\nsealing: " ++ (encode_lower found.sealing.items ++ (10 ∷ []))))))

abbrev pub signature_text : SignatureForgery → List ℕ
signature_text found =
    codes "message: " ++ (encode_lower found.message ++ (codes "\nsignature: " ++ (encode_lower found.signature.items ++ (10 ∷ []))))

-- ---- what is shown

-- a token, and what it is bound to
abbrev pub case_with : Binding → List ℕ → Case
case_with binding token = record { token = token; binding = binding }

-- the token opens, and the lines tell its nonce, what its tag covers, and the tag
pub record ShowsTag (design : Design) (bound : Binding) (token lines : List ℕ) : Type 0 where
  pub found : TagForgery
  pub is_forgery : IsForgery design [] (case_with bound token) found
  pub lines_are : lines ≡ tag_text found

-- the same in version 2, of the nonce, the associated data and the sealing
pub record ShowsBox (bound : Binding) (token lines : List ℕ) : Type 0 where
  pub found : BoxForgery
  pub is_forgery : IsBoxForgery box_sealing [] (case_with bound token) found
  pub lines_are : lines ≡ box_text found

-- the token verifies, and the lines tell what its signature covers, and that
pub record ShowsSignature (valid : Validity) (refused : Refusal) (design : PublicDesign) (bound : Binding) (token lines : List ℕ) : Type 0 where
  pub found : SignatureForgery
  pub is_forgery : IsSignatureForgery valid refused design [] (case_with bound token) found
  pub lines_are : lines ≡ signature_text found

-- by keys of each type and version, of which private ones show nothing
abbrev pub ShowsBy : PaserkType → PaserkVersion → Binding → List ℕ → List ℕ → Type 0
ShowsBy Local V1 = ShowsTag v1
ShowsBy Local V2 = ShowsBox
ShowsBy Local V3 = ShowsTag v3
ShowsBy Local V4 = ShowsTag v4
ShowsBy Public V1 = ShowsSignature RsaPssVerifies IsRefusedByRsa v1_public
ShowsBy Public V2 = ShowsSignature Ed25519Verifies IsRefused v2_public
ShowsBy Public V3 = ShowsSignature P384Verifies IsRefusedByP384 v3_public
ShowsBy Public V4 = ShowsSignature Ed25519Verifies IsRefused v4_public
ShowsBy Secret version = λ bound token lines. ⊥

-- with the key, the footer and the assertion of the options
abbrev pub Shows : KeyParts → Options → List ℕ → List ℕ → Type 0
Shows key options = ShowsBy key.kind key.version (binding key.bytes (footer_of options.footer) (assertion_of options.assertion))
