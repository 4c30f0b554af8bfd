-- Where a slot was used, and where an activation that was resumed may come to use it, by paths.
use Rattle.std.specs.Prelude.{◌≡◌, ◌⊎◌, ℕ, ◌+◌, IsFalse}
use Rattle.pass_kept_proof.specs.ir_model.Names.{position_of}
use Rattle.pass_kept_proof.specs.ir_model.declared.instr.Instr.{Instr}
use Rattle.pass_kept_proof.specs.ir_model.declared.module.Function.{Function}
use Rattle.pass_kept_proof.specs.ir_model.declared.operand.Intrinsic.{Intrinsic}
use Rattle.pass_kept_proof.specs.ir_paths.Paths.{has_point}
use Rattle.pass_kept_proof.specs.ir_paths.Slots.{is_escaped}
use Rattle.pass_kept_proof.specs.ir_paths.Windows.{end_block}
use Rattle.pass_kept_proof.specs.ir_paths.declared.point.Point.{Point}
use Rattle.pass_kept_proof.specs.Needed.{BranchesTo}
use Rattle.pass_kept_proof.specs.SuspendRules.{IsCallAt}
use Rattle.pass_kept_proof.specs.run_step.Step.{AtInstr, fetch}
use Rattle.frame_classes.specs.Classes.{parting}
use Rattle.frame_classes.specs.rule_slots.Closed.{IsClosed}
use Rattle.frame_classes.specs.frame_slots.Spots.{At, IsBehind, IsUse, LeadsFrom, On, Spot, point_at}

-- the point is no start of the slot, if that isn't escaped
abbrev pub IsNoStart : Function → ℕ → Point → Type 0
IsNoStart f slot p = IsFalse (has_point (parting (is_escaped f slot) f slot) p)

-- ---- behind a point

-- a suspend stands right before the point
pub record IsBehindSuspendCall (f : Function) (block at : ℕ) : Type 0 where
  pub before : ℕ
  pub next : at ≡ before + 1
  pub is_suspend : IsCallAt Intrinsic.CoroSuspend f (record { block = block; at = before })

-- a resumed activation that goes on may take the edge to the label: a suspend's switch takes the stop edge alone, and behind an edge to the end it returns
pub record Takes (f : Function) (block at label : ℕ) : Type 0 where
  pub branches : BranchesTo label (fetch f block at)
  pub no_suspend : IsBehindSuspendCall f block at → ⊥
  pub no_end : position_of f label ≡ end_block f → ⊥

-- such an activation may come to a use of the slot with no start before it
pub data IsUsedAhead (f : Function) (slot : ℕ) : ℕ → ℕ → Type 0 where
  used : {block at : ℕ} → IsUse f slot (At (record { block = block; at = at })) → IsUsedAhead f slot block at
  passes : {block at : ℕ} (i : Instr) → fetch f block at ≡ AtInstr i → IsNoStart f slot (record { block = block; at = at }) → IsUsedAhead f slot block (at + 1) → IsUsedAhead f slot block at
  on_edge : {block at : ℕ} (label : ℕ) → Takes f block at label → IsNoStart f slot (record { block = block; at = at }) → IsUse f slot (On block (position_of f label)) → IsUsedAhead f slot block at
  enters : {block at : ℕ} (label : ℕ) → Takes f block at label → IsNoStart f slot (record { block = block; at = at }) → IsUsedAhead f slot (position_of f label) 0 → IsUsedAhead f slot block at

-- a use stands behind the suspend, with no start between the suspend's own edge and it
pub record IsUsedBehind (f : Function) (slot : ℕ) (s : Point) : Type 0 where
  pub late : Spot
  pub is_use : IsUse f slot late
  pub is_behind : IsBehind f s (parting (is_escaped f slot) f slot) late

-- ---- before a point

-- a use stands before the point, with no start between
pub record IsUsedBefore (f : Function) (slot : ℕ) (p : Point) : Type 0 where
  pub early : Spot
  pub is_use : IsUse f slot early
  pub comes : LeadsFrom f (parting (is_escaped f slot) f slot) early p

-- a use stands in a window or after the end
pub record HasAwayUse (f : Function) (slot : ℕ) : Type 0 where
  pub spot : Spot
  pub is_use : IsUse f slot spot
  pub is_away : IsClosed f (point_at f spot)

-- the slot was used before the suspend, or may be where the activation that has left is
abbrev pub WasUsed : Function → ℕ → Point → Type 0
WasUsed f slot s = IsUsedBefore f slot s ⊎ HasAwayUse f slot
