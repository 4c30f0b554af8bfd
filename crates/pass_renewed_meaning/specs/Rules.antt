-- What steps ask of a function besides what is asked of its slots; each part is a consequence of rules by which modules
-- are refused, or of blocks on edges.
use Rattle.std.specs.Prelude.{◌≡◌, ◌⊎◌, ◌<◌, ◌^◌, ℕ, ℤ, Bool, List, [], Option, slice_get}
use Rattle.run_types.specs.ir_base.declared.outcome.Word.{Word}
use Rattle.run_types.specs.ir_model.Layout.{size_of}
use Rattle.run_types.specs.ir_model.Names.{function_at, position_of}
use Rattle.run_types.specs.ir_model.Ty.{Ty}
use Rattle.run_types.specs.ir_model.declared.instr.Instr.{Instr}
use Rattle.run_types.specs.ir_model.declared.module.Frame.{Frame}
use Rattle.run_types.specs.ir_model.declared.module.Function.{Function}
use Rattle.run_types.specs.ir_model.declared.module.Module.{Module}
use Rattle.run_types.specs.ir_model.declared.operand.Arg.{Arg}
use Rattle.run_types.specs.ir_model.declared.operand.Callee.{Callee}
use Rattle.run_types.specs.ir_model.declared.operand.Intrinsic.{Intrinsic}
use Rattle.run_types.specs.ir_model.declared.operand.Operand.{Operand}
use Rattle.run_types.specs.ir_paths.Windows.{destroy_label, operand_at, resume_label}
use Rattle.run_types.specs.ir_paths.declared.point.Point.{Point}
use Rattle.run_types.specs.ir_laws.facts.sound_states.Named.{AreLocalsNamed}
use Rattle.run_types.specs.pass_kept_proof.Kept.{Keep}
use Rattle.run_types.specs.pass_kept_proof.SuspendRules.{IsCallAt}
use Rattle.run_types.specs.run_hooks.Away.{KeepsPlaceRules}
use Rattle.run_types.specs.run_laws.embedded.Related.{HasBytes}
use Rattle.run_types.specs.run_step.Step.{AtInstr, fetch, phis_of}
use Rattle.run_types.specs.Rules.{KeepsAllTypes}
use Rattle.run_types.specs.States.{AreArguments}
use Rattle.run_types.specs.pass_renewed_proof.Ledger.{AreSmallGlobals}
use Rattle.run_types.specs.pass_renewed_proof.Renewed.{Flags, Roots}
use Rattle.run_types.specs.pass_renewed_proof.SlotRules.{IsMadeOnce, KeepsAllSlots}

-- a lifetime marker takes a name that an alloca alone gives
pub record IsMarked (f : Function) (args : List Arg) : Type 0 where
  pub slot : ℕ
  pub takes : operand_at args 1 ≡ Operand.Local slot
  pub made : IsMadeOnce f slot

pub record KeepsStepRules (m : Module) (f : Function) : Type 0 where
  -- K13, with N1 and F3
  pub marked : (block at : ℕ) (result : Option ℕ) (must_tail : Bool) (ty : Option Ty) (marker : Intrinsic) (args : List
      Arg) → fetch f block at ≡ AtInstr (Instr.Call result must_tail ty (Callee.Intrinsic marker) args)
      → (marker ≡ Intrinsic.LifetimeStart) ⊎ (marker ≡ Intrinsic.LifetimeEnd) → IsMarked f args
  -- Y4
  pub sizes : (block at name : ℕ) (ty : Ty) (align : ℕ) → fetch f block at ≡ AtInstr (Instr.Alloca name ty align)
      → size_of m ty < 2 ^ 64
  -- Y1: what is loaded or stored has a type of the first class
  pub bytes : (block at : ℕ) (i : Instr) → fetch f block at ≡ AtInstr i → HasBytes (AtInstr i)
  -- blocks on edges: those of resume and destroy edges have no phis
  pub no_phis : (s : Point) → IsCallAt Intrinsic.CoroSuspend f s
      → (phis_of (slice_get f.blocks (position_of f (resume_label f s))) ≡ [])
      × (phis_of (slice_get f.blocks (position_of f (destroy_label f s))) ≡ [])

-- what is asked of a run, in which so many values are handed on and such slots are made anew
pub record Setting : Type 0 where
  pub code : Module
  pub keep : Keep
  pub flags : Flags
  pub roots : Roots
  pub sizes : List Frame
  pub entry : ℕ
  pub args : List Word
  pub answers : List ℤ

pub record KeepsAll (c : Setting) : Type 0 where
  pub slots : KeepsAllSlots c.code c.keep c.flags c.roots
  pub steps : (func : ℕ) → KeepsStepRules c.code (function_at c.code func)
  pub locals : AreLocalsNamed c.code
  pub globals : AreSmallGlobals c.code
  pub places : (func : ℕ) → KeepsPlaceRules c.code (function_at c.code func)
  pub types : KeepsAllTypes c.code
  pub arguments : AreArguments c.code c.entry c.args
