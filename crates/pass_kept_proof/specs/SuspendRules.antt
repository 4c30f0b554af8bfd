-- What is asked of saves, suspends and windows, in paths; each part is a consequence of rules by which modules are refused.
use Rattle.std.specs.Prelude.{◌≡◌, ℕ, IsTrue, slice_get, Some, ◌+◌, ◌⊎◌, []}
use Rattle.pass_kept_proof.specs.Kept.{Keep}
use Rattle.pass_kept_proof.specs.Needed.{IsNeededBehind, IsReached, given_by, phis_give}
use Rattle.ir_model.specs.Names.{function_at}
use Rattle.ir_model.specs.declared.instr.Instr.{Instr}
use Rattle.ir_model.specs.declared.instr.Terminator.{Terminator}
use Rattle.ir_model.specs.declared.module.Function.{Function}
use Rattle.ir_model.specs.declared.module.Module.{Module}
use Rattle.ir_model.specs.declared.operand.Intrinsic.{Intrinsic}
use Rattle.ir_paths.specs.Paths.{Leads, targets}
use Rattle.ir_paths.specs.Slots.{has_name}
use Rattle.ir_paths.specs.Windows.{IsInWindow, destroy_label, is_call_of, resume_label, suspend_of}
use Rattle.ir_paths.specs.declared.point.Point.{Point}
use Rattle.run_step.specs.Step.{AtInstr, AtTerm, Fetched, Nowhere, fetch, phis_of}

-- a call of an intrinsic stands at a point
pub record IsCallAt (intrinsic : Intrinsic) (f : Function) (p : Point) : Type 0 where
  pub instr : Instr
  pub stands : fetch f p.block p.at ≡ AtInstr instr
  pub is : IsTrue (is_call_of intrinsic instr)

-- v is given by the instruction at a point, or by a phi of the block that begins there
abbrev pub IsGivenBy : Fetched → ℕ → Type 0
IsGivenBy Nowhere v = ⊥
IsGivenBy (AtInstr i) v = given_by i ≡ Some v
IsGivenBy (AtTerm t) v = ⊥

abbrev pub IsPhiAt : Function → ℕ → Point → Type 0
IsPhiAt f v p = (p.at ≡ 0) × IsTrue (phis_give v (phis_of (slice_get f.blocks p.block)))

-- the terminator behind a suspend, with the labels of 0 and 1
pub record IsSwitched (f : Function) (suspend : Point) : Type 0 where
  pub term : Terminator
  pub stands : fetch f suspend.block (suspend.at + 1) ≡ AtTerm term
  pub to_resume : IsTrue (has_name (targets term) (resume_label f suspend))
  pub to_destroy : IsTrue (has_name (targets term) (destroy_label f suspend))

pub record KeepsSuspendRules (f : Function) : Type 0 where
  -- K3: a suspend is followed at once by its switch, which alone uses its result
  pub switched : (s : Point) → IsCallAt Intrinsic.CoroSuspend f s → IsSwitched f s
  pub unread : (s : Point) (c : IsCallAt Intrinsic.CoroSuspend f s) (v : ℕ) → given_by c.instr ≡ Some v → IsNeededBehind f s v → ⊥
  -- K6.1: a path leads from a save to its suspend
  pub leads : (k s : Point) → IsCallAt Intrinsic.CoroSave f k → suspend_of f k ≡ Some s → Leads f [] k s
  -- K6.3: no end stands in a window
  pub no_end : (k s p : Point) → IsCallAt Intrinsic.CoroSave f k → suspend_of f k ≡ Some s → IsInWindow f k s p → IsCallAt Intrinsic.CoroEnd f p → ⊥
  -- K7: what is given in a window isn't needed behind its suspend's own edges; a phi stands at the first place of its block
  pub given : (k s p : Point) (v : ℕ) → IsCallAt Intrinsic.CoroSave f k → suspend_of f k ≡ Some s → IsInWindow f k s p → IsNeededBehind f s v → IsGivenBy (fetch f p.block p.at) v ⊎ IsPhiAt f v p → ⊥
  -- more than K7 says: nor is a phi of the suspend's own block, where that begins with the suspend
  pub no_phi : (k s : Point) (v : ℕ) → IsCallAt Intrinsic.CoroSave f k → suspend_of f k ≡ Some s → IsNeededBehind f s v → IsPhiAt f v s → ⊥

abbrev pub AllKeepSuspendRules : Module → Type 0
AllKeepSuspendRules m = (func : ℕ) → KeepsSuspendRules (function_at m func)

-- what is needed behind a reached suspend is kept
abbrev pub KeepsNeeded : Module → Keep → Type 0
KeepsNeeded m keep = (func : ℕ) (suspend : Point) (v : ℕ) → IsReached (function_at m func) suspend.block suspend.at → IsCallAt Intrinsic.CoroSuspend (function_at m func) suspend → IsNeededBehind (function_at m func) suspend v → IsTrue (keep func suspend v)
