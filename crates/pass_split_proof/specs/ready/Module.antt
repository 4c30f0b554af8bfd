-- What a framed module has, so that each place of its runs has what the laws of steps ask there.
use Rattle.std.specs.Prelude.{◌≡◌, ℕ, Bool, true, false, List, [], None, Some, codes, find, is_some, slice_get}
use Rattle.pass_proofs.specs.frame_layout.declared.layout.Layouts.{Layouts}
use Rattle.pass_proofs.specs.frame_layout.declared.layout.PlacedField.{PlacedField}
use Rattle.pass_proofs.specs.ir_model.Names.{function_named, position_of}
use Rattle.pass_proofs.specs.ir_model.Ty.{Ty}
use Rattle.pass_proofs.specs.ir_model.declared.instr.Instr.{Instr}
use Rattle.pass_proofs.specs.ir_model.declared.module.Function.{Function}
use Rattle.pass_proofs.specs.ir_model.declared.module.Module.{Module}
use Rattle.pass_proofs.specs.ir_model.declared.operand.Arg.{Arg}
use Rattle.pass_proofs.specs.ir_model.declared.operand.Intrinsic.{Intrinsic}
use Rattle.pass_proofs.specs.ir_model.declared.operand.Operand.{Operand}
use Rattle.pass_proofs.specs.ir_paths.Paths.{Leads}
use Rattle.pass_proofs.specs.ir_paths.Windows.{call_result, is_call_of, suspend_of}
use Rattle.pass_proofs.specs.ir_paths.declared.point.Point.{Point}
use Rattle.pass_proofs.specs.pass_intrinsics.Shapes.{part_name, shape_of}
use Rattle.pass_proofs.specs.pass_kept_proof.SuspendRules.{IsCallAt}
use Rattle.pass_split_proof.specs.ready.Fields.{AreInnerIndices}
use Rattle.pass_split_proof.specs.ready.Names.{HasMovedNames}
use Rattle.pass_split_proof.specs.simulation.Statement.{IsPartableIn, IsRulerOf}
use Rattle.pass_proofs.specs.rule_laws.frames.replaced.Parted.{IsSmall}
use Rattle.pass_proofs.specs.rule_laws.rules.counted.Widths.{first_other_width}
use Rattle.pass_proofs.specs.rule_laws.rules.function_rules.Kept.{KeepsFunctionRulesAt}
use Rattle.pass_proofs.specs.rule_names.declared.stage.Stage.{Stage}
use Rattle.pass_proofs.specs.rule_shape.OneOfEach.{wrong_call}
use Rattle.pass_proofs.specs.rule_shape.Suspends.{is_suspend}
use Rattle.pass_proofs.specs.rule_shape.Switches.{wrong_switch}
use Rattle.pass_proofs.specs.run_framed.Framed.{is_promise_kind, layout_of, no_layout}
use Rattle.pass_proofs.specs.run_step.Step.{AtInstr, fetch}

-- A function at a position breaks no rule of functions, and as a coroutine neither K2 nor K3. Its integers have the
-- widths of the grammar. Allocas of a function that is no coroutine may be frames that it gives (2^24 bytes).
pub record IsRuled (m : Module) (k : ℕ) (f : Function) : Type 0 where
  pub rules : KeepsFunctionRulesAt Stage.Plain m k f
  pub widths : first_other_width k f ≡ None
  pub calls : f.coroutine ≡ true → wrong_call k f ≡ None
  pub switches : f.coroutine ≡ true → wrong_switch k f ≡ None

-- what a coroutine has besides (`IsCoroutinePartable`)
pub record IsCoroutineFollowable (ls : Layouts) (m : Module) (k : ℕ) (f : Function) : Type 0 where
  -- numbers of frames fit their types (`IsReady`)
  pub small : IsSmall (shape_of f (layout_of ls.coroutines k))
  -- the promise is right behind the header (`IsGoodLayout`)
  pub promise : (x : PlacedField) → find (λ y. is_promise_kind y.kind) (layout_of ls.coroutines k).fields ≡ Some x
      → x.offset ≡ 16
  -- K5: no suspend stands in the block of the end
  pub apart : (at : ℕ) (i : Instr)
      → fetch f (position_of f (shape_of f (layout_of ls.coroutines k)).end) at ≡ AtInstr i → is_suspend i ≡ true → ⊥
  -- K6: a save's token is that of a suspend, so it has a name; that suspend stands in a block, and a path leads there
  pub named : (block at : ℕ) (i : Instr) → fetch f block at ≡ AtInstr i → is_call_of Intrinsic.CoroSave i ≡ true
      → is_some (call_result i) ≡ true
  pub leads : (p s : Point) → IsCallAt Intrinsic.CoroSave f p → suspend_of f p ≡ Some s → Leads f [] p s
  -- N3: no function has the name of its cleanup
  pub untaken : function_named m (part_name f.name (codes ".cleanup")) ≡ None

-- A module whose runs may be followed in its parts, by the rules of another.
pub record IsFollowableIn (stage : Stage) (r : Module) (ls : Layouts) (m : Module) : Type 0 where
  pub partable : IsPartableIn stage r ls m
  pub ruler : IsRulerOf r m
  pub names : HasMovedNames ls m
  -- Y1, and structures with fewer than 2^31 fields
  pub fields : (k : ℕ) (f : Function) → slice_get m.functions k ≡ Some f
      → (block at name : ℕ) (inbounds : Bool) (ty : Ty)
      (base : Operand) (indices : List Arg)
      → fetch f block at ≡ AtInstr (Instr.Gep name inbounds ty base indices) → AreInnerIndices m ty indices
  -- readers read no other widths
  pub widths : (k : ℕ) (f : Function) → slice_get m.functions k ≡ Some f → first_other_width k f ≡ None
  pub coroutines : (k : ℕ) (f : Function) → slice_get m.functions k ≡ Some f → f.coroutine ≡ true
      → IsCoroutineFollowable ls m k f
  -- layouts are of coroutines
  pub plain : (k : ℕ) (f : Function) → slice_get m.functions k ≡ Some f → f.coroutine ≡ false
      → layout_of ls.coroutines k ≡ no_layout k

-- by its own, where no call gives a frame
abbrev pub IsFollowable : Layouts → Module → Type 0
IsFollowable ls m = IsFollowableIn Stage.Source m ls m
