-- Where an activation that a coro.destroy has called comes to coro.end, its instance was freed.
use Rattle.std.proofs.Common.{◌≡◌, ◌∷◌, ℕ, Bool, true, false, List, refl, sym, ap, ◌∙◌, subst}
use Rattle.std.specs.Prelude.{Option, Some, slice_get}
use Rattle.elide_sites.specs.Destroyed.{FreesWhenDestroyed, IsOn}
use Rattle.elide_sites.specs.declared.destroyed.Way.{Way}
use Rattle.pass_elide_proof.proofs.Begins.{no_both}
use Rattle.pass_elide_proof.specs.Destroying.{AreToFree, DestroysAreToFree, Entering, HasToFree, IsAtDestroyedEnd, IsToFree, Released, Unfreed}
use Rattle.pass_elide_proof.specs.Elision.{Elision, framed, function_in}
use Rattle.pass_elide_proof.specs.Releasing.{Branches, Frees, FreesAtOnce, HaveReleased, IsFreedSoon, IsReleasing, Jumps, NullTest, Passes, Tests, is_calm}
use Rattle.pass_elide_proof.specs.Sound.{IsSoundState}
use Rattle.pass_proofs.proofs.run_laws.memory.Written.{same_some}
use Rattle.pass_proofs.specs.ir_model.declared.instr.Instr.{Instr}
use Rattle.pass_proofs.specs.ir_model.declared.instr.Terminator.{Terminator}
use Rattle.pass_proofs.specs.ir_model.declared.module.Function.{Function}
use Rattle.pass_proofs.specs.ir_model.declared.operand.Callee.{Callee}
use Rattle.pass_proofs.specs.ir_model.declared.operand.Intrinsic.{Intrinsic}
use Rattle.pass_proofs.specs.ir_model.declared.operand.Operand.{Operand}
use Rattle.pass_proofs.specs.run_source.declared.state.Activation.{Activation}
use Rattle.pass_proofs.specs.run_source.declared.state.Instance.{Instance}
use Rattle.pass_proofs.specs.run_source.declared.state.Mode.{Mode}
use Rattle.pass_proofs.specs.run_source.declared.state.State.{State}
use Rattle.pass_proofs.specs.run_step.Step.{AtInstr, AtTerm, fetch}

module _ (e : Elision) (s : State) (sound : IsSoundState (framed e) s) (released : HaveReleased e s)
    (destroys : DestroysAreToFree e.code s) (at_once : FreesAtOnce (function_in e s.top.func) (e.shape s.top.func))
    (frees : FreesWhenDestroyed (function_in e s.top.func)) (at : IsAtDestroyedEnd e.code s) (number : ℕ) (x : Instance)
    (own : s.top.instance ≡ Some number) (there : slice_get s.instances number ≡ Some x) where
  abbrev f : Function
  f = function_in e s.top.func

  abbrev call : Instr
  call = Instr.Call at.result at.must_tail at.ty (Callee.Intrinsic Intrinsic.CoroEnd) at.args

  -- ---- no coro.end stands between a coro.free and its deallocation

  other_instr : (i : Instr) → AtInstr i ≡ AtInstr call → is_calm i ≡ true → ⊥
  other_instr i same calm = no_both (is_calm i) (ap is_calm (one i call same)) calm
    where
      one : (p q : Instr) → AtInstr p ≡ AtInstr q → p ≡ q
      one p q k = cc

  other_term : (t : Terminator) → AtTerm t ≡ AtInstr call → ⊥
  other_term t same = cc

  not_between : (v : ℕ) (test : Option NullTest) (block k : ℕ) → IsFreedSoon f v test block k → s.top.block ≡ block
      → s.top.at ≡ k → ⊥
  not_between v _ _ _ (Frees test block k result must_tail ty a args stands deals takes) eb ek =
      absurd (other (sym ((λ j. fetch f (eb j) (ek j)) ∙ stands) ∙ at.there))
    where
      other : AtInstr (Instr.Call result must_tail ty (Callee.Allocator a) args) ≡ AtInstr call → ⊥
      other same = cc
  not_between v _ _ _ (Passes test block k i stands calm spares next) eb ek =
      other_instr i (sym ((λ j. fetch f (eb j) (ek j)) ∙ stands) ∙ at.there) calm
  not_between v _ _ _ (Tests block k y p q stands test ne next) eb ek =
      other_instr _ (sym ((λ j. fetch f (eb j) (ek j)) ∙ stands) ∙ at.there) refl
  not_between v _ _ _ (Branches block k y one other stands none place) eb ek =
      other_term (Terminator.Branch (Operand.Local y.name) one other)
      (sym ((λ j. fetch f (eb j) (ek j)) ∙ stands) ∙ at.there)
  not_between v _ _ _ (Jumps test block k label stands none place) eb ek =
      other_term (Terminator.Jump label) (sym ((λ j. fetch f (eb j) (ek j)) ∙ stands) ∙ at.there)

  not_releasing : IsReleasing e s number x → ⊥
  not_releasing k = not_between k.name k.test s.top.block s.top.at k.place refl refl

  was_freed : x.released ≡ true → x.freed ≡ true
  was_freed is = by x.freed refl
    where
      coroutine : x.coroutine ≡ s.top.func
      coroutine = sound.acts.0.coroutine number x own there

      by : (b : Bool) → x.freed ≡ b → b ≡ true
      by true freed = refl
      by false unfreed =
          absurd (not_releasing
          (released number x there
          (subst (λ (k : ℕ). FreesAtOnce (function_in e k) (e.shape k)) (sym coroutine) at_once) is unfreed))

  -- ---- the activation is to free it

  has : HasToFree e.code s.instances s.top
  has =
      (subst (λ (bs : List Activation). AreToFree e.code s.instances (s.top ∷ bs)) at.below destroys).0 at.behind

  same_instance : has.instance ≡ x
  same_instance =
      same_some has.instance x
      (sym has.there ∙ (ap (slice_get s.instances) (one has.number number (sym has.own ∙ own)) ∙ there))
    where
      one : (a b : ℕ) → Some a ≡ Some b → a ≡ b
      one a b k = cc

  pub freed_at_end : x.freed ≡ true
  freed_at_end = by (subst (λ (y : Instance). IsToFree f y s.top) same_instance has.frees)
    where
      resumed : (from label : ℕ) → Mode.Resumed ≡ Mode.Entering from label → ⊥
      resumed from label same = cc

      by : IsToFree f x s.top → x.freed ≡ true
      by (Released is) = was_freed is
      by (Unfreed way none mode) = absurd (frees.freed (subst (IsOn Way.Unfreed f) at.block way))
      by (Entering from label mode way) = absurd (resumed from label (sym at.resumed ∙ mode))

pub ended_freed : (e : Elision) (s : State) → IsSoundState (framed e) s → HaveReleased e s
    → DestroysAreToFree e.code s → FreesAtOnce (function_in e s.top.func) (e.shape s.top.func)
    → FreesWhenDestroyed (function_in e s.top.func) → IsAtDestroyedEnd e.code s → (number : ℕ) (x : Instance)
    → s.top.instance ≡ Some number → slice_get s.instances number ≡ Some x → x.freed ≡ true
ended_freed e s sound released destroys at_once frees at number x own there =
    freed_at_end e s sound released destroys at_once frees at number x own there
