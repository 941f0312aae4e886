-- What C sees of what was made, with a line that tells a refusal.
use Rattle.std.proofs.Common.{◌≡◌, ◌∙◌, ◌⊎◌, ℕ, List, inl, inr, Result, Ok, Err, String, Global, string_bytes, ap}
use Rattle.paseto_keys.specs.AnyKey.{KeyParts}
use Rattle.paseto_calls.specs.Answer.{IsCut}
use Rattle.paseto_calls.specs.ErrorText.{status_text}
use Rattle.paseto_calls.specs.Fault.{IsHandedTelling, fault_line, refusal_of}
use Rattle.paseto_calls.specs.Refusal.{status_of}
use Rattle.paseto_calls.specs.Request.{IsFaultOf, IsKeyHanded, IsKeyMade, IsKeyMadeWhole, IsKeyReply, IsKeyWhole, IsMade, IsMadeWhole, IsMadeWholeWhere, IsReply, IsWhole, IsWholeWhere, Request, gives, gives_key, no_memory, refuses, refuses_key, status_line}
use Rattle.paseto_calls.specs.declared.fault.Fault.{Fault}
use Rattle.paseto_calls.specs.declared.held_key.HeldKey.{HeldKey}
use Rattle.paseto_calls.specs.declared.refusal.Refusal.{Refusal}
use Rattle.paseto_calls.specs.declared.refusal.Refusal.TheVariants.{Memory}

module _ (request : Request (List ℕ)) (before after : List ℕ) (written status : ℕ) (line_before line_after : List ℕ) (length_told : ℕ) where
  fault_replied : (fault : Fault) → IsFaultOf request fault → after ≡ before → written ≡ 0
      → ((status ≡ status_of (refusal_of fault)) × IsCut (fault_line fault) line_before line_after length_told)
      ⊎ ((status ≡ status_of Memory) × IsCut (status_text (status_of Memory)) line_before line_after length_told)
      → IsReply request before after written status line_before line_after length_told
  fault_replied fault reason same nothing (inl line) =
      refuses (refusal_of fault) (fault_line fault) reason (record { is_status = line.0; same = same; nothing = nothing }) line.1
  fault_replied fault reason same nothing (inr memory) =
      refuses Memory (status_line Memory) no_memory (record { is_status = memory.0; same = same; nothing = nothing }) memory.1

  pub replied : (made : Result (String Global) Fault) → IsMade request made
      → IsHandedTelling made before after written status line_before line_after length_told
      → IsReply request before after written status line_before line_after length_told
  replied (Ok text) makes given = gives (string_bytes text) makes given.0 given.1 given.2
  replied (Err fault) reason given = fault_replied fault reason given.0 given.1 given.2

  pub whole_reply : (made : Result (String Global) Fault) → IsMadeWhole request made
      → IsHandedTelling made before after written status line_before line_after length_told → IsWhole request status
  whole_reply (Ok text) whole given = λ other makes. elim given.0 [ inl stands ↦ inl stands.is_status | inr long ↦ inr (inl long.is_status) ]
  whole_reply (Err fault) whole given = λ other makes. elim given.2 [
    | inl line ↦ inr (inr (line.0 ∙ ap status_of (whole other makes)))
    | inr memory ↦ inr (inr memory.0)
  ]

  pub whole_reply_where : (Holds : Type 0) (made : Result (String Global) Fault) → IsMadeWholeWhere Holds request made
      → IsHandedTelling made before after written status line_before line_after length_told → IsWholeWhere Holds request status
  whole_reply_where Holds (Ok text) whole given = λ taken holds. elim given.0 [ inl stands ↦ inl stands.is_status | inr long ↦ inr (inl long.is_status) ]
  whole_reply_where Holds (Err fault) whole given = λ taken holds. elim given.2 [
    | inl line ↦ inr (inr (line.0 ∙ ap status_of (whole taken holds)))
    | inr memory ↦ inr (inr memory.0)
  ]

module _ (request : Request KeyParts) (before after : HeldKey) (status : ℕ) (line_before line_after : List ℕ) (length_told : ℕ) where
  pub key_replied : (made : Result HeldKey Refusal) → IsKeyMade request made
      → IsKeyHanded made before after status line_before line_after length_told
      → IsKeyReply request before after status line_before line_after length_told
  key_replied (Ok held) makes given = gives_key makes.0 makes.1 (rw given.0 makes.2) given.1 given.2 given.3
  key_replied (Err refusal) reason given = refuses_key refusal (status_line refusal) reason given.1 given.0 given.2

  pub whole_key_reply : (made : Result HeldKey Refusal) → IsKeyMadeWhole request made
      → IsKeyHanded made before after status line_before line_after length_told → IsKeyWhole request status
  whole_key_reply (Ok held) whole given = λ other makes. inl given.1
  whole_key_reply (Err refusal) whole given = λ other makes. inr (given.1 ∙ ap status_of (whole other makes))
