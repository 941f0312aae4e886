-- What the words after the program's name ask for.
use Rattle.std.specs.Prelude.{◌≡◌, ℕ, List, [], ◌∷◌, ◌++◌, Option, IsSome, option_map, option_to_list, codes, Ok, map, string_bytes}
use Rattle.std.specs.declared.alloc.Global.{Global}
use Rattle.std.specs.declared.string.String.{String}
use Rattle.hex.specs.Hex.{decode_of}
use Rattle.rusty_paseto_parts.specs.Key.{IsKeyText}
use Rattle.rusty_paseto_parts.specs.Footer.{footer_text}
use Rattle.rusty_paseto_parts.specs.ImplicitAssertion.{assertion_text}
use Rattle.paseto_tool.specs.Version.{IsBound, design_of, version_word}
use Rattle.paseto_tool.specs.declared.version.Version.{Version}
use Rattle.paseto_tool.specs.declared.arguments.Attachments.{Attachments}
use Rattle.paseto_tool.specs.declared.arguments.Command.{Command}
use Rattle.paseto_tool.specs.declared.arguments.Command.TheVariants.{Inspect, Seal, Open}

-- the texts of the words
abbrev pub words_of : List (String Global) → List (List ℕ)
words_of words = map (λ word. string_bytes word) words

-- KEY and NONCE are each 64 hexadecimal digits, of either case
abbrev pub IsDigits : List ℕ → Type 0
IsDigits word = IsKeyText 32 word

-- the digits of the word say these 32 bytes
pub record Says (word bytes : List ℕ) : Type 0 where
  pub digits : IsDigits word
  pub decoded : decode_of word ≡ Ok bytes

-- the last words of a command: nothing, a footer, or, where the version's tokens are bound to one, a
-- footer and an implicit assertion
pub record AreLast (version : Version) (words : List (List ℕ)) (footer assertion : Option (List ℕ)) : Type 0 where
  pub words_are : words ≡ option_to_list footer ++ option_to_list assertion
  pub in_order : IsSome assertion → IsSome footer
  pub bound : IsBound (design_of version) assertion

-- `inspect TOKEN`
abbrev pub AsksToInspect : List (List ℕ) → List ℕ → Type 0
AsksToInspect words token = words ≡ codes "inspect" ∷ token ∷ []

-- `seal VERSION KEY NONCE [FOOTER [ASSERTION]]`
pub record AsksToSeal (words : List (List ℕ)) (version : Version) (key nonce : List ℕ) (footer assertion : Option (List ℕ)) : Type 0 where
  pub last : List (List ℕ)
  pub words_are : words ≡ codes "seal" ∷ version_word version ∷ key ∷ nonce ∷ last
  pub are_last : AreLast version last footer assertion

-- `open VERSION KEY [FOOTER [ASSERTION]]`
pub record AsksToOpen (words : List (List ℕ)) (version : Version) (key : List ℕ) (footer assertion : Option (List ℕ)) : Type 0 where
  pub last : List (List ℕ)
  pub words_are : words ≡ codes "open" ∷ version_word version ∷ key ∷ last
  pub are_last : AreLast version last footer assertion

-- the words ask for nothing that the program does
pub record IsUsageFault (words : List (List ℕ)) : Type 0 where
  pub no_inspect : (token : List ℕ) → ¬ AsksToInspect words token
  pub no_seal : (version : Version) (key nonce : List ℕ) (footer assertion : Option (List ℕ)) → ¬ AsksToSeal words version key nonce footer assertion
  pub no_open : (version : Version) (key : List ℕ) (footer assertion : Option (List ℕ)) → ¬ AsksToOpen words version key footer assertion

-- the texts that were attached, where they were
abbrev pub given_footer : Attachments → Option (List ℕ)
given_footer attachments = option_map footer_text attachments.footer

abbrev pub given_assertion : Attachments → Option (List ℕ)
given_assertion attachments = option_map assertion_text attachments.implicit_assertion

-- the words ask for this command
abbrev pub Asks : List (List ℕ) → Command → Type 0
Asks words (Inspect command) = AsksToInspect words command.token.now
Asks words (Seal command) =
    AsksToSeal words command.version command.key.now command.nonce.now (given_footer command.attachments) (given_assertion command.attachments)
Asks words (Open command) =
    AsksToOpen words command.version command.key.now (given_footer command.attachments) (given_assertion command.attachments)
