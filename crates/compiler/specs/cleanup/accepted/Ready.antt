-- What is asked of a module before its coroutines are split, so that the lowered module breaks no rule.
use Rattle.std.specs.Prelude.{◌≡◌, ℕ, true, false, Some, slice_get}
use Rattle.frame_layout.specs.declared.layout.Layout.{Layout}
use Rattle.frame_layout.specs.declared.layout.Layouts.{Layouts}
use Rattle.pass_proofs.specs.rule_laws.frames.suspend_counts.Given.{IsGiven}
use Rattle.pass_proofs.specs.rule_laws.rules.function_rules.Kept.{KeepsFunctionRulesAt}
use Rattle.pass_proofs.specs.pass_intrinsics.Shapes.{shape_of}
use Rattle.ir_model.specs.declared.module.Function.{Function}
use Rattle.ir_model.specs.declared.module.Module.{Module}
use Rattle.pass_proofs.specs.rule_laws.rules.plain_rules.Items.{KeepsItemRules}
use Rattle.pass_proofs.specs.rule_names.declared.stage.Stage.{Stage}
use Rattle.pass_proofs.specs.ir_laws.facts.same_names.Short.{HaveShortNames}
use Rattle.pass_proofs.specs.rule_laws.frames.replaced.Parted.{IsSmall}
use Rattle.pass_proofs.specs.split.rules.Splittable.{IsSplittable}
use Rattle.compiler.specs.cleanup.unnamed_intrinsics.Unnamed.{NamesNoIntrinsic}
use Rattle.pass_proofs.specs.pass_exits.ExitBlocks.{with_exit_blocks}

-- A function that is no coroutine breaks no rule of functions, and names no coro intrinsic but where it calls it. Its allocas
-- are no larger than a stage allows.
pub record IsPlainReady (stage : Stage) (m : Module) (k : ℕ) (f : Function) : Type 0 where
  pub rules : KeepsFunctionRulesAt stage m k f
  pub names : NamesNoIntrinsic k f

-- a coroutine, with blocks on the edges that leave its windows, may be split
pub record IsCoroutineReady (m : Module) (ls : Layouts) (k : ℕ) (f : Function) : Type 0 where
  pub begin : ℕ
  pub splittable : IsSplittable m k (with_exit_blocks f) begin
  pub names : NamesNoIntrinsic k (with_exit_blocks f)
  pub small : (l : Layout) → IsGiven ls.coroutines l → IsSmall (shape_of (with_exit_blocks f) l)

-- The items break no rule of sources, and the numbers in names are short. All functions are ready by the rules of another
-- module: that of the functions and of the ramps to which calls give frames. Allocas are no larger than a stage allows, since
-- frames that functions give may be larger than allocas of sources.
pub record IsReadyIn (stage : Stage) (r : Module) (ls : Layouts) (m : Module) : Type 0 where
  pub items : KeepsItemRules Stage.Source m
  pub short : HaveShortNames m
  pub plain : (k : ℕ) (f : Function) → slice_get m.functions k ≡ Some f → f.coroutine ≡ false
      → IsPlainReady stage r k f
  pub coroutines : (k : ℕ) (f : Function) → slice_get m.functions k ≡ Some f → f.coroutine ≡ true
      → IsCoroutineReady r ls k f

-- so it is where no call gives a frame
abbrev pub IsReady : Layouts → Module → Type 0
IsReady ls m = IsReadyIn Stage.Source m ls m
