-- What a call for C asks of its arguments, what it makes of them, and what C sees of it, with a line that tells a refusal.
use Rattle.std.specs.Prelude.{◌≡◌, ◌⊎◌, ℕ, List, Option, Some, None, Result, MatchResult, IfErr, String, string_bytes}
use Rattle.std.specs.Global.{Global}
use Rattle.paseto_keys.specs.AnyKey.{KeyParts}
use Rattle.paseto_calls.specs.Answer.{IsCut, IsGiven, IsNotRefused, IsRefused}
use Rattle.paseto_calls.specs.Arguments.{AreUtf8}
use Rattle.paseto_calls.specs.ErrorText.{status_text}
use Rattle.paseto_calls.specs.Fault.{fault_line, refusal_of}
use Rattle.paseto_calls.specs.HeldKey.{IsHeld}
use Rattle.paseto_calls.specs.Refusal.{status_of}
use Rattle.paseto_calls.specs.declared.fault.Fault.{Fault}
use Rattle.paseto_calls.specs.declared.held_key.HeldKey.{HeldKey}
use Rattle.paseto_calls.specs.declared.refusal.Refusal.{Refusal}
use Rattle.paseto_calls.specs.declared.refusal.Refusal.TheVariants.{Memory, NotUtf8}

-- a call: why its keys, its random bytes or its options are refused, where they are; what is to be text; and of arguments that
-- are so, what it makes, by which refusals it makes nothing, and by which with a line of their own
pub record Request (A : Type 0) : Type 1 where
  pub fault : Option Refusal
  pub texts : List (List ℕ)
  pub Makes : A → Type 0
  pub Refuses : Refusal → Type 0
  pub Tells : Refusal → List ℕ → Type 0

-- no refusal has a line of its own
abbrev pub tells_nothing : Refusal → List ℕ → Type 0
tells_nothing refusal line = ⊥

-- the arguments are what the call asks for
pub record AreTaken {A : Type 0} (request : Request A) : Type 0 where
  pub fine : request.fault ≡ None
  pub texts : AreUtf8 request.texts

-- the call makes this
pub record Makes {A : Type 0} (request : Request A) (made : A) : Type 0 where
  pub taken : AreTaken request
  pub makes : request.Makes made

-- what the status of a refusal says
abbrev pub status_line : Refusal → List ℕ
status_line refusal = status_text (status_of refusal)

-- why the call makes nothing, and the line that tells it: the first reason of its keys, its random bytes and its options, its
-- texts, or what it finds then; a failed allocation may come in place of any
pub data Refuses {A : Type 0} (request : Request A) : Refusal → List ℕ → Type 0 where
  no_memory : Refuses request Memory (status_line Memory)
  misused : (refusal : Refusal) → request.fault ≡ Some refusal → Refuses request refusal (status_line refusal)
  not_utf8 : request.fault ≡ None → ¬ AreUtf8 request.texts → Refuses request NotUtf8 (status_line NotUtf8)
  refused : (refusal : Refusal) → AreTaken request → request.Refuses refusal → Refuses request refusal (status_line refusal)
  told : (refusal : Refusal) (line : List ℕ) → AreTaken request → request.Tells refusal line → Refuses request refusal line

-- what C sees of a call that makes a text: the text, and no line; or why there is none, and the line
pub data IsReply (request : Request (List ℕ)) (before after : List ℕ) (written status : ℕ) (line_before line_after : List ℕ) (length_told : ℕ) : Type 0 where
  gives : (text : List ℕ) → Makes request text → IsGiven text before after written status → line_after ≡ line_before → length_told ≡ 0
      → IsReply request before after written status line_before line_after length_told
  refuses : (refusal : Refusal) (line : List ℕ) → Refuses request refusal line → IsRefused refusal before after written status
      → IsCut line line_before line_after length_told
      → IsReply request before after written status line_before line_after length_told

-- where the call makes a text, C gets it, or learns that the room is too short or memory was refused
abbrev pub IsWhole : Request (List ℕ) → ℕ → Type 0
IsWhole request status = (text : List ℕ) → Makes request text → IsNotRefused status

-- where the arguments are what the call asks for, and this holds of them, C gets a text, or learns that the room is too short or
-- memory was refused
abbrev pub IsWholeWhere : Type 0 → Request (List ℕ) → ℕ → Type 0
IsWholeWhere Holds request status = AreTaken request → Holds → IsNotRefused status

-- what C sees of a call that makes a key: the key is written, and no line; or why there is none, and the line
pub data IsKeyReply (request : Request KeyParts) (before after : HeldKey) (status : ℕ) (line_before line_after : List ℕ) (length_told : ℕ) : Type 0 where
  gives_key : (key : KeyParts) → Makes request key → IsHeld key after → status ≡ 0 → line_after ≡ line_before → length_told ≡ 0
      → IsKeyReply request before after status line_before line_after length_told
  refuses_key : (refusal : Refusal) (line : List ℕ) → Refuses request refusal line → status ≡ status_of refusal → after ≡ before
      → IsCut line line_before line_after length_told
      → IsKeyReply request before after status line_before line_after length_told

-- where the call makes a key, C gets it, or learns that memory was refused
abbrev pub IsKeyWhole : Request KeyParts → ℕ → Type 0
IsKeyWhole request status = (key : KeyParts) → Makes request key → (status ≡ 0) ⊎ (status ≡ 2)

-- ---- for private clauses

-- why the call makes nothing
abbrev pub IsFaultOf : {A : Type 0} → Request A → Fault → Type 0
IsFaultOf request fault = Refuses request (refusal_of fault) (fault_line fault)

-- the result is the text that the call makes, or why it makes none
abbrev pub IsMade : Request (List ℕ) → Result (String Global) Fault → Type 0
IsMade request result = MatchResult result (λ text. Makes request (string_bytes text)) (IsFaultOf request)

-- where the call makes a text, nothing is refused but memory
abbrev pub IsMadeWhole : Request (List ℕ) → Result (String Global) Fault → Type 0
IsMadeWhole request result = (text : List ℕ) → Makes request text → IfErr result (λ fault. refusal_of fault ≡ Memory)

abbrev pub IsMadeWholeWhere : Type 0 → Request (List ℕ) → Result (String Global) Fault → Type 0
IsMadeWholeWhere Holds request result = AreTaken request → Holds → IfErr result (λ fault. refusal_of fault ≡ Memory)

-- the result is the key that the call makes, or why it makes none, by a status
abbrev pub IsKeyMade : Request KeyParts → Result HeldKey Refusal → Type 0
IsKeyMade request result =
    MatchResult result (λ held. (key : KeyParts) × Makes request key × IsHeld key held) (λ refusal. Refuses request refusal (status_line refusal))

abbrev pub IsKeyMadeWhole : Request KeyParts → Result HeldKey Refusal → Type 0
IsKeyMadeWhole request result = (key : KeyParts) → Makes request key → IfErr result (λ refusal. refusal ≡ Memory)

-- the answer for a key
abbrev pub IsKeyHanded : Result HeldKey Refusal → HeldKey → HeldKey → ℕ → List ℕ → List ℕ → ℕ → Type 0
IsKeyHanded made before after status line_before line_after length_told =
    MatchResult made (λ held. (after ≡ held) × (status ≡ 0) × (line_after ≡ line_before) × (length_told ≡ 0))
    (λ refusal. (after ≡ before) × (status ≡ status_of refusal) × IsCut (status_line refusal) line_before line_after length_told)
