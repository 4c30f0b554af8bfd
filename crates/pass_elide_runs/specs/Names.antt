-- What the values of some names are in each state of a run: sizes, and answers of coro.alloc.
use Rattle.std.specs.Prelude.{◌≡◌, ◌≢◌, ◌⊎◌, ℕ, Bool, List, ◌∷◌, slice_get, Some, Option}
use Rattle.pass_elide_proof.specs.Places.{instrs_of}
use Rattle.pass_elide_proof.specs.pass_proofs.ir_model.Names.{function_at}
use Rattle.pass_elide_proof.specs.pass_proofs.ir_model.Ty.{Ty}
use Rattle.pass_elide_proof.specs.pass_proofs.ir_model.declared.instr.Instr.{Instr}
use Rattle.pass_elide_proof.specs.pass_proofs.ir_model.declared.instr.Phi.{Phi}
use Rattle.pass_elide_proof.specs.pass_proofs.ir_model.declared.module.Function.{Function}
use Rattle.pass_elide_proof.specs.pass_proofs.ir_model.declared.module.Module.{Module}
use Rattle.pass_elide_proof.specs.pass_proofs.ir_model.declared.module.Param.{Param}
use Rattle.pass_elide_proof.specs.pass_proofs.ir_model.declared.operand.Arg.{Arg}
use Rattle.pass_elide_proof.specs.pass_proofs.ir_model.declared.operand.Callee.{Callee}
use Rattle.pass_elide_proof.specs.pass_proofs.ir_model.declared.operand.Intrinsic.{Intrinsic}
use Rattle.pass_elide_proof.specs.pass_proofs.ir_parts.Contents.{result_of}
use Rattle.pass_elide_proof.specs.pass_proofs.run_framed.Framed.{begin_name}
use Rattle.pass_elide_proof.specs.pass_proofs.run_laws.changed.Changed.{Each}
use Rattle.pass_elide_proof.specs.pass_proofs.run_memory.declared.pointer.Value.{Value}
use Rattle.pass_elide_proof.specs.pass_proofs.run_source.declared.state.Activation.{Activation}
use Rattle.pass_elide_proof.specs.pass_proofs.run_source.declared.state.Mode.{Mode}
use Rattle.pass_elide_proof.specs.pass_proofs.run_source.declared.state.State.{State}
use Rattle.pass_elide_proof.specs.pass_proofs.run_step.Step.{phis_of}
use Rattle.pass_elide_proof.specs.pass_proofs.run_step.Values.{value_in}

-- a call of one of some intrinsics
pub record IsCallBy (calls : Intrinsic → Type 0) (i : Instr) : Type 0 where
  pub intrinsic : Intrinsic
  pub result : Option ℕ
  pub must_tail : Bool
  pub ty : Option Ty
  pub args : List Arg
  pub is : i ≡ Instr.Call result must_tail ty (Callee.Intrinsic intrinsic) args
  pub called : calls intrinsic

-- a name of a function that calls of these alone give
pub record IsGivenBy (calls : Intrinsic → Type 0) (f : Function) (v : ℕ) : Type 0 where
  pub instrs : (block at : ℕ) (i : Instr) → slice_get (instrs_of f block) at ≡ Some i → result_of i ≡ Some v
      → IsCallBy calls i
  pub phis : (block : ℕ) → Each (λ (p : Phi). p.result ≢ v) (phis_of (slice_get f.blocks block))
  pub params : Each (λ (p : Param). p.name ≢ v) f.params
  pub begins : begin_name f ≡ Some v → ⊥

-- in an activation such a name has no value, or one for its function and its mode
abbrev pub HasGiven : (ℕ → Mode → Value → Type 0) → (Intrinsic → Type 0) → Module → Activation → Type 0
HasGiven fits calls m a =
    (v : ℕ) → IsGivenBy calls (function_at m a.func) v
    → (value_in a.values v ≡ Value.Poison) ⊎ fits a.func a.mode (value_in a.values v)

abbrev pub HaveGiven : (ℕ → Mode → Value → Type 0) → (Intrinsic → Type 0) → Module → State → Type 0
HaveGiven fits calls m s = Each (HasGiven fits calls m) (s.top ∷ s.below)

-- ---- the intrinsics that are asked

-- for the frame's size
abbrev pub AsksSize : Intrinsic → Type 0
AsksSize Intrinsic.CoroSizeI32 = Unit {0}
AsksSize Intrinsic.CoroSizeI64 = Unit {0}
AsksSize _ = ⊥

-- for whether the frame is to be allocated
abbrev pub AsksAlloc : Intrinsic → Type 0
AsksAlloc Intrinsic.CoroAlloc = Unit {0}
AsksAlloc _ = ⊥
