-- Which values cross a suspend.
use Rattle.std.specs.Prelude.{◌≡◌, ℕ, Bool, true, false, IsTrue, IsFalse, slice_get, Some, None, Option, ◌+◌, ◌⊎◌, ◌↔◌, ◌&&◌, ◌||◌, ◌==◌}
use Rattle.pass_kept_proof.specs.SuspendRules.{IsCallAt, IsGivenBy}
use Rattle.pass_kept_proof.specs.Kept.{Keep}
use Rattle.pass_kept_proof.specs.Needed.{BranchesTo, IsNeededBehind, given_by, label_of_block, phis_at, phis_give, phis_read, reads_at}
use Rattle.std.specs.List.{list_any}
use Rattle.ir_model.specs.Names.{function_at, position_of}
use Rattle.ir_model.specs.declared.instr.Instr.{Instr}
use Rattle.ir_model.specs.declared.module.Function.{Function}
use Rattle.ir_model.specs.declared.module.Module.{Module}
use Rattle.ir_model.specs.declared.operand.Intrinsic.{Intrinsic}
use Rattle.ir_paths.specs.Windows.{is_call_of}
use Rattle.ir_paths.specs.declared.point.Point.{Point}
use Rattle.run_step.specs.Step.{AtInstr, fetch, phis_of}

-- a path leads to a point
pub data LeadsTo (f : Function) (to_block to_at : ℕ) : ℕ → ℕ → Type 0 where
  there : LeadsTo f to_block to_at to_block to_at
  over : {block at : ℕ} (i : Instr) → fetch f block at ≡ AtInstr i → LeadsTo f to_block to_at block (at + 1) → LeadsTo f to_block to_at block at
  across : {block at : ℕ} (label : ℕ) → BranchesTo label (fetch f block at) → LeadsTo f to_block to_at (position_of f label) 0 → LeadsTo f to_block to_at block at

abbrev pub is_param : Function → ℕ → Bool
is_param f v = list_any (λ p. p.name == v) f.params

-- a path leads from a definition of v: a parameter's is the entry, a phi's the first point of its block
pub data IsDefinedBefore (f : Function) (v : ℕ) (block at : ℕ) : Type 0 where
  by_param : IsTrue (is_param f v) → LeadsTo f block at 0 0 → IsDefinedBefore f v block at
  by_instr : (b a : ℕ) → IsGivenBy (fetch f b a) v → LeadsTo f block at b a → IsDefinedBefore f v block at
  by_phi : (b : ℕ) → IsTrue (phis_give v (phis_of (slice_get f.blocks b))) → LeadsTo f block at b 0 → IsDefinedBefore f v block at

-- what gives an address that is made anew: an alloca, coro.begin and coro.frame
abbrev pub remakes : Instr → Bool
remakes (Instr.Alloca name ty align) = true
remakes (Instr.Call result must_tail ty callee args) = is_call_of Intrinsic.CoroBegin (Instr.Call result must_tail ty callee args) || is_call_of Intrinsic.CoroFrame (Instr.Call result must_tail ty callee args)
remakes _ = false

abbrev pub gives_name : ℕ → Option ℕ → Bool
gives_name v None = false
gives_name v (Some u) = u == v

abbrev pub is_remade : Function → ℕ → Bool
is_remade f v = list_any (λ b. list_any (λ i. remakes i && gives_name v (given_by i)) b.instrs) f.blocks

-- v, which isn't remade, is defined, then the suspend comes, then from its resume or destroy edge a use, with neither a definition nor coro.end between that edge and the use; no token is ever needed
pub record Crosses (f : Function) (suspend : Point) (v : ℕ) : Type 0 where
  pub not_remade : IsFalse (is_remade f v)
  pub defined : IsDefinedBefore f v suspend.block suspend.at
  pub needed : IsNeededBehind f suspend v

-- what is kept at a suspend: what crosses it, and what is remade
pub record KeepsCrossing (m : Module) (keep : Keep) : Type 0 where
  pub each : (func : ℕ) (suspend : Point) (v : ℕ) → IsCallAt Intrinsic.CoroSuspend (function_at m func) suspend → IsTrue (keep func suspend v) ↔ (IsTrue (is_remade (function_at m func) v) ⊎ Crosses (function_at m func) suspend v)

-- ---- F2

-- a path leads from the entry to a point with no definition of v on it; a phi of the entry block is one there
pub data IsReachedWithout (f : Function) (v : ℕ) : ℕ → ℕ → Type 0 where
  first_without : IsFalse (is_param f v) → IsFalse (phis_give v (phis_of (slice_get f.blocks 0))) → IsReachedWithout f v 0 0
  after_without : {block at : ℕ} (i : Instr) → fetch f block at ≡ AtInstr i → (given_by i ≡ Some v → ⊥) → IsReachedWithout f v block at → IsReachedWithout f v block (at + 1)
  along_without : {block at : ℕ} (label : ℕ) → BranchesTo label (fetch f block at) → IsFalse (phis_give v (phis_at f label)) → IsReachedWithout f v block at → IsReachedWithout f v (position_of f label) 0

-- F2: no use is reached without the definition; a phi's use is on its edge
pub record IsDefinite (f : Function) : Type 0 where
  pub uses : (v block at : ℕ) → IsReachedWithout f v block at → IsTrue (reads_at v (fetch f block at)) → ⊥
  pub phi_uses : (v block at label : ℕ) → IsReachedWithout f v block at → BranchesTo label (fetch f block at) → IsTrue (phis_read v (label_of_block f block) (phis_at f label)) → ⊥

pub record AreDefinite (m : Module) : Type 0 where
  pub each : (func : ℕ) → IsDefinite (function_at m func)
