-- Resumes and destroys in both runs: what is asked of the two states and of what stands at their place.
use Rattle.std.specs.Prelude.{◌≡◌, ◌⊎◌, ℕ, Bool, true, List, ◌∷◌, slice_get, Some, None, Option}
use Rattle.pass_elide_proof.specs.Calling.{HoldsStill, IsAlike, differing}
use Rattle.pass_elide_proof.specs.Elision.{Elision, Shape, framed, function_in, rooms}
use Rattle.pass_elide_proof.specs.Invariant.{HaveCallers}
use Rattle.pass_elide_proof.specs.Places.{instrs_of, room_at}
use Rattle.pass_proofs.specs.ir_base.declared.outcome.Outcome.{Outcome}
use Rattle.pass_proofs.specs.ir_model.Ty.{Ty}
use Rattle.pass_proofs.specs.ir_model.declared.instr.Instr.{Instr}
use Rattle.pass_proofs.specs.ir_model.declared.instr.Phi.{Phi}
use Rattle.pass_proofs.specs.ir_model.declared.operand.Arg.{Arg}
use Rattle.pass_proofs.specs.ir_model.declared.operand.Callee.{Callee}
use Rattle.pass_proofs.specs.ir_model.declared.operand.Intrinsic.{Intrinsic}
use Rattle.pass_proofs.specs.run_agreement.Machines.{IsFine}
use Rattle.pass_proofs.specs.run_framed.Framed.{begin_name, framed_step}
use Rattle.pass_proofs.specs.run_laws.changed.Changed.{Each}
use Rattle.pass_proofs.specs.run_source.declared.state.Instance.{Instance}
use Rattle.pass_proofs.specs.run_source.declared.state.State.{State}
use Rattle.pass_proofs.specs.run_step.Step.{phis_of}

-- no call of a function gives a frame
abbrev pub GivesNone : Elision → ℕ → Type 0
GivesNone e func = (block at : ℕ) (i : Instr) → rooms e func block at i ≡ None

-- a name of what coro.free gives, or of a test of it
abbrev pub IsFreedName : Shape → ℕ → Type 0
IsFreedName x v = (x.freed v ≡ true) ⊎ ((is_eq : Bool) × (x.tested v ≡ Some is_eq))

-- A coroutine gives no frame. What coro.free gives has no name that is set where it goes on.
pub record WakesAlike (e : Elision) (func : ℕ) : Type 0 where
  pub none : GivesNone e func
  pub begins : (v : ℕ) → IsFreedName (e.shape func) v → begin_name (function_in e func) ≡ Some v → ⊥
  pub phis : (v : ℕ) → IsFreedName (e.shape func) v → (block : ℕ)
      → Each (λ (p : Phi). p.result ≡ v → ⊥) (phis_of (slice_get (function_in e func).blocks block))

-- what is asked of a resume or a destroy that isn't undefined
pub record IsAtWaking (e : Elision) (s t : State) : Type 0 where
  pub runs : s.outcome ≡ Outcome.Running
  pub by : Intrinsic
  pub wakes : (by ≡ Intrinsic.CoroResume) ⊎ (by ≡ Intrinsic.CoroDestroy)
  pub result : Option ℕ
  pub must_tail : Bool
  pub ty : Option Ty
  pub arg : Arg
  pub rest : List Arg
  pub there : slice_get (instrs_of (function_in e s.top.func) s.top.block) s.top.at
      ≡ Some (Instr.Call result must_tail ty (Callee.Intrinsic by) (arg ∷ rest))
  pub none : room_at (rooms e s.top.func) (function_in e s.top.func) s.top.block s.top.at
      (Instr.Call result must_tail ty (Callee.Intrinsic by) (arg ∷ rest)) ≡ None
  pub reads : IsAlike (differing e s t) arg.value
  pub holds : HoldsStill e s
  pub alike : (n : ℕ) (x : Instance) → slice_get s.instances n ≡ Some x → WakesAlike e x.coroutine
  pub callers : HaveCallers e t
  pub fine : IsFine (framed_step (framed e) s).outcome
