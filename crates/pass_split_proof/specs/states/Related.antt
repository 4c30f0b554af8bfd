-- The states of a framed run and of the run of its parts: which stand beside each other, and how far the parts may be
-- behind.
use Rattle.std.specs.Prelude.{◌≡◌, ℕ, ◌+◌, ◌≤◌, ◌<◌, ◌⊎◌, Bool, true, false, List, [], ◌∷◌, length, slice_get, Some, None, Option, ◌-◌, is_none, ◌&&◌, ◌||◌, if◌then◌else◌, ◌==◌}
use Rattle.pass_proofs.specs.ir_base.declared.outcome.Outcome.{Outcome}
use Rattle.pass_proofs.specs.ir_model.declared.instr.Instr.{Instr}
use Rattle.pass_proofs.specs.ir_model.declared.module.Block.{Block}
use Rattle.pass_proofs.specs.ir_model.declared.module.Function.{Function}
use Rattle.pass_proofs.specs.ir_model.declared.operand.Callee.{Callee}
use Rattle.pass_proofs.specs.ir_model.declared.operand.Intrinsic.{Intrinsic}
use Rattle.pass_proofs.specs.ir_paths.Windows.{end_block, is_call_of}
use Rattle.pass_proofs.specs.pass_intrinsics.Shapes.{suspends_of}
use Rattle.pass_proofs.specs.pass_intrinsics.declared.shape.SuspendPoint.{SuspendPoint}
use Rattle.pass_split_proof.specs.states.Activations.{AreAllWaiting, IsBeside, IsReturning}
use Rattle.pass_split_proof.specs.states.Instances.{AreFrames, IsHeadedIn, in_state, is_held}
use Rattle.pass_split_proof.specs.states.Memories.{AreWorldsBeside, homes_of}
use Rattle.pass_proofs.specs.run_agreement.Machines.{iterate}
use Rattle.pass_proofs.specs.run_framed.Framed.{FramedGiven}
use Rattle.pass_proofs.specs.run_memory.declared.block.MemoryBlock.{MemoryBlock}
use Rattle.run_access_worked.specs.run_plain.Plain.{PlainGiven, plain_step}
use Rattle.run_access_worked.specs.run_plain.declared.state.PlainState.{PlainState}
use Rattle.pass_proofs.specs.run_source.State.{function_of}
use Rattle.pass_proofs.specs.run_source.declared.state.Activation.{Activation}
use Rattle.pass_proofs.specs.run_source.declared.state.Instance.{Instance}
use Rattle.pass_proofs.specs.run_source.declared.state.Mode.{Mode}
use Rattle.pass_proofs.specs.run_source.declared.state.State.{State}
use Rattle.pass_proofs.specs.run_source.declared.state.Status.{Status}
use Rattle.pass_proofs.specs.run_step.Step.{AtInstr, AtTerm, Fetched, Nowhere, fetch, label_of}

-- the two runs are at the same place, and have the same memory, values and instances
pub record AreRelated (g : FramedGiven) (h : PlainGiven) (s : State) (t : PlainState) : Type 0 where
  pub outcome : t.outcome ≡ s.outcome
  pub globals : length g.given.code.globals ≤ length s.world.memory
  pub world : AreWorldsBeside g s.instances s.world t.world
  pub frames : AreFrames g s.instances s.world.memory t.world.memory
  pub top : IsBeside g h.code s.instances (homes_of s.world.memory) s.top t.top
  pub below : AreAllWaiting g h.code s.instances (homes_of s.world.memory) s.top.result s.below t.below
  pub making : (from label : ℕ) → s.top.mode ≡ Mode.Entering from label
      → IsReturning g top.shape top.part (function_of g.given s) s.instances t.world.memory s.top.instance from label

-- ---- what steps cost

-- what stands at the place of the topmost activation
abbrev pub fetched_at : FramedGiven → State → Fetched
fetched_at g s = fetch (function_of g.given s) s.top.block s.top.at

-- a label at which a part goes on behind a suspend
abbrev pub is_return_label : List SuspendPoint → ℕ → Bool
is_return_label [] label = false
is_return_label (p ∷ ps) label = ((label == p.resume) || (label == p.destroy)) || is_return_label ps label

-- A step has 4, and a terminator 2, since an edge that leaves a window has a block; but 4 where a part goes on behind
-- a suspend.
abbrev pub price_of : Bool → Fetched → ℕ
price_of true x = 4
price_of false (AtTerm t) = 2
price_of false (AtInstr i) = 4
price_of false Nowhere = 4

abbrev pub is_behind_suspend : FramedGiven → State → Bool
is_behind_suspend g s =
    is_return_label (suspends_of (function_of g.given s))
    (label_of (slice_get (function_of g.given s).blocks s.top.block))

abbrev pub part_price : FramedGiven → State → ℕ
part_price g s = price_of (is_behind_suspend g s) (fetched_at g s)

-- A step may cost its price, but for the end, for a terminator, and for an instruction that is one step of a part.
-- Before these the parts may be behind.
abbrev pub weight_of_intrinsic : Intrinsic → ℕ
weight_of_intrinsic Intrinsic.CoroEnd = 1
weight_of_intrinsic i = 4

abbrev pub weight : Fetched → ℕ
weight (AtInstr (Instr.Call result must_tail ty (Callee.Intrinsic i) args)) = weight_of_intrinsic i
weight (AtInstr (Instr.Call result must_tail ty callee args)) = 4
weight (AtInstr (Instr.Alloca name ty align)) = 4
weight x = 1

-- a ramp that hasn't begun has a step left of its call
abbrev pub is_ramp : Mode → Bool
is_ramp Mode.Ramp = true
is_ramp (Mode.GivenRamp frame) = true
is_ramp mode = false

abbrev pub left_of_call : Activation → ℕ
left_of_call a = if is_ramp a.mode && is_none a.instance then 1 else 0

abbrev pub left_of_calls : List Activation → ℕ
left_of_calls [] = 0
left_of_calls (a ∷ below) = left_of_call a + left_of_calls below

abbrev pub credit_of : State → ℕ
credit_of s = left_of_calls (s.top ∷ s.below)

-- ---- the relation

-- a save stands there
abbrev pub is_save_there : Fetched → Bool
is_save_there (AtInstr i) = is_call_of Intrinsic.CoroSave i
is_save_there x = false

-- In a memory of the parts' run each frame that is there has its header and its index, as its instance says. Only
-- while the topmost activation saves, what its own instance's frame says of the suspend is being written.
pub record AreHeadersKept (g : FramedGiven) (s : State) (n : List MemoryBlock) : Type 0 where
  pub headed : (i : ℕ) (x : Instance) → slice_get s.instances i ≡ Some x → is_held s.world.memory x ≡ true
      → (s.top.instance ≡ Some i → is_save_there (fetched_at g s) ≡ true → ⊥) → IsHeadedIn g s.world.memory n x
  pub destroyed : (i : ℕ) (x : Instance) → slice_get s.instances i ≡ Some x → is_held s.world.memory x ≡ true
      → IsHeadedIn g s.world.memory n (in_state x Status.Running x.last_save x.released)

-- a state that shows what the framed run shows, where neither is over, and keeps headers
pub record IsOn (g : FramedGiven) (s : State) (t : PlainState) : Type 0 where
  pub goes : s.outcome ≡ Outcome.Running
  pub running : t.outcome ≡ Outcome.Running
  pub events : t.world.events ≡ s.world.events
  pub allocs : t.world.allocs ≡ s.world.allocs
  pub headers : AreHeadersKept g s t.world.memory

-- The parts are so many steps behind, and show the same. What they are behind and the next step are paid by that
-- step.
pub record IsFollowing (g : FramedGiven) (h : PlainGiven) (credit : ℕ) (s : State) (t : PlainState) : Type 0 where
  pub behind : ℕ
  pub related : AreRelated g h s (iterate (plain_step h) behind t)
  pub passes : (i : ℕ) → i < behind → IsOn g s (iterate (plain_step h) i t)
  pub paid : (behind ≡ 0) ⊎ (behind + weight (fetched_at g s) ≤ part_price g s)
  pub calls : credit_of s ≤ credit

-- what holds at corresponding steps
abbrev pub Follows : FramedGiven → PlainGiven → State → PlainState → Type 0
Follows g h s t = (credit : ℕ) × IsFollowing g h credit s t

-- ---- instructions that become nothing

-- a run leaves fewer instructions of its block ahead, those before the end's block more than those in it
abbrev pub instrs_of : Option Block → List Instr
instrs_of None = []
instrs_of (Some b) = b.instrs

abbrev pub ahead_in : List Instr → ℕ → ℕ
ahead_in is at = length is - at

abbrev pub steps_ahead : Function → ℕ → ℕ → ℕ
steps_ahead f block at =
    (if block == end_block f then 0 else 1 + length (instrs_of (slice_get f.blocks (end_block f))))
    + ahead_in (instrs_of (slice_get f.blocks block)) at

abbrev pub measure : FramedGiven → State → ℕ
measure g s = steps_ahead (function_of g.given s) s.top.block s.top.at
