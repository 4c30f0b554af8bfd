-- Where an instance is resumed or destroyed, and where its new activation goes on.
use Rattle.std.specs.Prelude.{◌≡◌, ◌<◌, ◌+◌, ℕ, [], None, Some, IsTrue, length, slice_get}
use Rattle.run_types.specs.ir_model.Names.{function_at, position_of}
use Rattle.run_types.specs.ir_model.declared.instr.Instr.{Instr}
use Rattle.run_types.specs.ir_model.declared.module.Block.{Block}
use Rattle.run_types.specs.ir_model.declared.module.Module.{Module}
use Rattle.run_types.specs.ir_paths.Paths.{entry_point, has_point}
use Rattle.run_types.specs.pass_kept_proof.Needed.{BranchesTo}
use Rattle.run_types.specs.rule_windows.Windows.{own_edges}
use Rattle.run_types.specs.run_source.Source.{Sleeper}
use Rattle.run_types.specs.run_source.declared.state.State.{State}
use Rattle.run_types.specs.run_step.Step.{fetch, phis_of}
use Rattle.run_types.specs.pass_renewed_proof.Making.{IsGiving}
use Rattle.run_types.specs.pass_renewed_proof.Renewed.{Flags, Roots}

-- a call at the activation's place resumes or destroys the instance, which goes on at the label, along its suspend's own
-- edge
pub record IsResuming (m : Module) (flags : Flags) (roots : Roots) (s : State) (i : Instr) (y : Sleeper) (label : ℕ)
    : Type 0 where
  pub giving : IsGiving m roots s.top i None
  pub there : slice_get s.instances y.number ≡ Some y.instance
  pub switch : BranchesTo label (fetch (function_at m y.instance.coroutine) y.suspend.block (y.suspend.at + 1))
  pub own : IsTrue (has_point (own_edges (function_at m y.instance.coroutine) y.suspend) (entry_point (function_at m
      y.instance.coroutine) label))
  -- blocks on edges: that of an own edge has no phis
  pub no_phis : phis_of (slice_get (function_at m y.instance.coroutine).blocks (position_of (function_at m
      y.instance.coroutine) label)) ≡ []
  pub block : Block
  pub first : slice_get (function_at m y.instance.coroutine).blocks 0 ≡ Some block
  -- the names of slots that are made anew are among its values
  pub named : (a : ℕ) → IsTrue (flags y.instance.coroutine a) → a < length y.values
