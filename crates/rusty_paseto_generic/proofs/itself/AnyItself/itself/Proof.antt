-- A value is lent as itself: its reference is handed on as it is, for every T. Assumes `Logic`.
use mathlib.Core.Path.{refl}
use Prim.Native.Nat.{ℕ}
use mathlib.Core.List.{[], ◌∷◌}
use seplogic.Ra.Ura.{Ura}
use mir.Syntax.{Args, Fn, named, a_type}
use mir.MapTy.{inst_fn}
use mir.Val.{vptr}
use base.Logic.{SProp, ent, emp, wand}
use base.Fml.{Lft, GName, Share, Fml, ftrue, flft, fsep, feq, fex, fauth, fres}
use prog.Memory.{Memory}
use prog.Routine.{Routine}
use prog.Wp.{Calls, Loops, WpFn, Tables}
use types.Logic.{Logic, sem}
use contract.Lifetimes.{AllOutlive}
use contract.Monad.{Fun}
use contract.Running.{tables, tables_of}
use sound.WpLaws.{WpFn-mono}
use types.Kit.{‵, ◌⊛◌, raw, ◌$◌, ◌∵◌, !, qed, by, move, keep, join, fsplit, fjoin, fpack, feq_i, use0, each, assume, suffices, frame, done}
use types.Run.{stop, addr, returns, enter}
use types.ByLocal.{alloc_all, pass_all, free_all, look_at, through, sets}
use denote.Builtin.{RefMutOf}
use denote.Exit.{no}
use denote.Follow.{follows}
use denote.Param.{param, layouts}
use denote.RattleType.{RattleType, owns}
use denote.Ref.{MutBor, MutRef, mut_vals, mut_Tells}
use denote.Signature.{plain}
use denote.Steps.{nothing}
use denote.Triple.Clauses.{Clauses, Ended, closing}
use denote.Triple.Entry.{on_entry}
use denote.Triple.Spec.{Meets, triple_of}
use denote.Triple.Table.{entered}
use denote.Triple.Walked.{says, Stays, stay_dropped, walk_of, ends_at, walked, Goes-spent_ref, walk_Meets}
use Rattle.rusty_paseto_generic.specs.contracts.itself.AnyItself.itself as F
use Rattle.rusty_paseto_generic.specs.contracts.itself.AnyItself.itself.Key.{name as #self}
use Rattle.rusty_paseto_generic.proofs.itself.AnyItself.itself.Statement as stated
use Rattle.rusty_paseto_generic.proofs.itself.AnyItself.itself.Code as code

module _ (X : RattleType) where
  abbrev args : Args
  args = layouts (a_type ∷ []) (X, tt)

  abbrev function : Fn
  function = inst_fn args code.function

  abbrev R : RattleType
  R = param 0 X

  abbrev ended : Ended
  ended = F.ended X

  abbrev stayed : Stays ended.signature.params ended.kept
  stayed = (stay_dropped (RefMutOf (0 ∷ []) tt (plain (λ _. R)) (λ _. tt)) no, tt)

module _ (X : RattleType) {M : Type 1} {𝓤 : Ura M} (𝓛 : Logic 𝓤) (at_mem : Memory → SProp 𝓤) (run : Routine → Fun 𝓤) where
  open 𝓛 use {H, A}

  abbrev clauses : Clauses 𝓤 (ended X)
  clauses = F.clauses X 𝓛 at_mem run

  -- what has the name itself follows it
  follows_itself : (γ : GName) → ent 𝓤 (emp 𝓤) (sem 𝓛 (follows (R X) (R X) γ γ (λ w. w)))
  follows_itself γ =
      let From : (R X).Denot → (R X).Denot → Fml = λ z w. fsep (feq (R X).Denot z w) (fauth γ ((R X).coded.code w)) in
      let said = qed 𝓛 (raw (emp 𝓤) ∷ []) ∵ each ! (λ (w : (R X).Denot). wand 𝓤 (A.res γ ((R X).coded.code w)) (A.res γ ((R X).coded.code w)))
      (λ w. assume ! (‵ (fres γ ((R X).coded.code w))) $ keep ! (0 ∷ []) $ done !) in
      let back = qed 𝓛 (raw (emp 𝓤) ∷ []) ∵ each ! (λ (z : (R X).Denot). wand 𝓤 (A.auth γ ((R X).coded.code z)) (sem 𝓛 (fex (R X).Denot (From z))))
      (λ z. assume ! (‵ (fauth γ ((R X).coded.code z))) $ keep ! (0 ∷ []) $ feq_i ! (R X).Denot z z refl $ fjoin ! $ fpack ! (R X).Denot (From z) z $ done !) in
      record { apply = λ a p. (said.apply a p, back.apply a p) }

  module _ (C : Calls 𝓤 H) (Λ : Loops 𝓤 H) (κ κT : Lft) (q qT : Share) (bd : AllOutlive 2 (ended X).signature.outlives (κ, (κT, tt))) (b o : ℕ) (γ : GName) (x : (R X).Denot) where
    abbrev self : MutBor (R X).Denot
    self = record { ref_ptr = (b, o); ghost_name = γ; now = x }

    abbrev bound : (walk_of 𝓛 (ended X) (stayed X) clauses).Ghost
    bound = (((κ, (κT, tt)), (q, (qT, tt)), bd, (self, tt), (mut_vals self, tt)), tt)

    walk : ent 𝓤 (on_entry 𝓛 (ended X).signature (κ, (κT, tt)) (q, (qT, tt)) (self, tt) (mut_vals self, tt))
        (WpFn 𝓤 H C Λ (function X) (vptr b o ∷ []) ((walk_of 𝓛 (ended X) (stayed X) clauses).post bound))
    walk =
        qed 𝓛 ((‵ (flft κ q) ⊛ ‵ (flft κT qT) ⊛ ‵ ftrue) ∷ ‵ (owns (MutRef (named 0) κ (R X) ∷ []) (self, tt) (mut_vals self, tt)) ∷ []) ∵ enter ! C Λ (function X) (vptr b o ∷ []) _ $
        alloc_all ! (λ l. pass_all ! refl ((tt, tt), tt) $
        sets ! (addr ! (through ! refl (stop !))) refl (tt, tt) $
        returns ! (look_at ! 0 refl) $ free_all ! refl $ move ! (1 ∷ []) $ fsplit ! $ keep ! (0 ∷ 2 ∷ []) $
        suffices ! _ (ends_at 𝓛 (ended X) (stayed X) clauses bound (vptr b o) self (tt, tt) (tt, tt)) $
        nothing ! $ nothing ! $ fjoin ! $ join ! $ move ! (1 ∷ 0 ∷ []) $ join ! $
        use0 𝓛 (‵ (follows (R X) (R X) γ γ (λ w. w))) (follows_itself γ) $ move ! (1 ∷ 0 ∷ []) $ frame ! $ says ! (refl, refl) $ done !)

  meets : (𝓣 : Tables 𝓤 H) → Meets 𝓛 (ended X).signature (WpFn 𝓤 H 𝓣.C 𝓣.Λ (function X)) (closing 𝓛 (ended X) clauses)
  meets 𝓣 =
      walk_Meets 𝓛 (ended X) (stayed X) (Goes-spent_ref 𝓛 2 (0 ∷ []) tt (plain (λ _. R X)), tt) clauses (WpFn 𝓤 H 𝓣.C 𝓣.Λ (function X)) (WpFn-mono 𝓤 H 𝓛.laws 𝓣 (function X))
      (walked 𝓛 (ended X) (stayed X) clauses (WpFn 𝓤 H 𝓣.C 𝓣.Λ (function X)) (λ κs. (mut_vals, tt)) (λ κs. (mut_Tells (named 0) κs.0 (R X), tt))
      (λ κs qs bounds a g are.
      qed 𝓛 (raw (on_entry 𝓛 (ended X).signature κs qs a (mut_vals a.0, tt)) ∷ raw ((clauses κs a).requires g) ∷ []) ∵
      keep ! (0 ∷ []) $ by ! (walk 𝓣.C 𝓣.Λ κs.0 κs.1.0 qs.0 qs.1.0 bounds a.0.ref_ptr.0 a.0.ref_ptr.1 a.0.ghost_name a.0.now)))

pub itself_spec : {M : Type 1} → stated.statement M
unfolding tables_of
itself_spec 𝓤 𝓛 𝓜 𝓡 wired X L =
    let 𝓣 : Tables 𝓤 𝓛.H = tables_of 𝓤 𝓛.H 𝓜 (tables 𝓤 𝓛.H 𝓜 𝓡 𝓡.env) in
    entered 𝓤 𝓛.H (triple_of 𝓛 (ended X).signature (F.spec X 𝓛 𝓜.mem 𝓡.returns)) 𝓣.C 𝓣.Λ (#self (args X)) (function X) (code.unfolded 𝓤 𝓛.H 𝓜 𝓡 wired (X, tt))
    (meets X 𝓛 𝓜.mem 𝓡.returns 𝓣)
