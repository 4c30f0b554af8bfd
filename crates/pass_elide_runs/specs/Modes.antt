-- In which modes activations are, and where they stand while they execute their allocas again.
use Rattle.std.specs.Prelude.{◌≡◌, ℕ, true, ◌∷◌, slice_get, Some, None, Option}
use Rattle.pass_elide_proof.specs.Places.{instrs_of}
use Rattle.pass_elide_proof.specs.pass_proofs.ir_model.Names.{function_at}
use Rattle.pass_elide_proof.specs.pass_proofs.ir_model.Ty.{Ty}
use Rattle.pass_elide_proof.specs.pass_proofs.ir_model.declared.instr.Instr.{Instr}
use Rattle.pass_elide_proof.specs.pass_proofs.ir_model.declared.module.Function.{Function}
use Rattle.pass_elide_proof.specs.pass_proofs.ir_model.declared.module.Module.{Module}
use Rattle.pass_elide_proof.specs.pass_proofs.ir_model.declared.operand.Intrinsic.{Intrinsic}
use Rattle.pass_elide_proof.specs.pass_proofs.ir_paths.Windows.{is_call_of}
use Rattle.pass_elide_proof.specs.pass_proofs.run_laws.changed.Changed.{Each}
use Rattle.pass_elide_proof.specs.pass_proofs.run_source.declared.state.Activation.{Activation}
use Rattle.pass_elide_proof.specs.pass_proofs.run_source.declared.state.Mode.{Mode}
use Rattle.pass_elide_proof.specs.pass_proofs.run_source.declared.state.State.{State}

-- a suspend stands in the block
pub record HasSuspend (f : Function) (block : ℕ) : Type 0 where
  pub at : ℕ
  pub suspend : Instr
  pub there : slice_get (instrs_of f block) at ≡ Some suspend
  pub suspends : is_call_of Intrinsic.CoroSuspend suspend ≡ true

-- An activation of an instance stands at an alloca of the entry block. It goes on from the block of a suspend.
pub record IsEnteringAt (f : Function) (block at from : ℕ) (instance : Option ℕ) : Type 0 where
  pub owns : instance ≡ None → ⊥
  pub first : block ≡ 0
  pub name : ℕ
  pub ty : Ty
  pub align : ℕ
  pub alloca : slice_get (instrs_of f block) at ≡ Some (Instr.Alloca name ty align)
  pub from_suspend : HasSuspend f from

-- One of a coroutine is in a mode of coroutines. One that was resumed has an instance.
pub record KnowsMode (m : Module) (a : Activation) : Type 0 where
  pub inside : (function_at m a.func).coroutine ≡ true → a.mode ≡ Mode.Plain → ⊥
  pub resumed : a.mode ≡ Mode.Resumed → a.instance ≡ None → ⊥
  pub entering : (from label : ℕ) → a.mode ≡ Mode.Entering from label
      → IsEnteringAt (function_at m a.func) a.block a.at from a.instance

abbrev pub KnowModes : Module → State → Type 0
KnowModes m s = Each (KnowsMode m) (s.top ∷ s.below)
