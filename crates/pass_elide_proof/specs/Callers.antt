-- What is asked of a step of the run that gives frames, so that callers of instances stay on the stack.
use Rattle.std.specs.Prelude.{◌≡◌, ◌≢◌, ◌≤◌, ◌<◌, ℕ, Bool, false, true, IsFalse, IsTrue, List, length, slice_get, None, Some, Option}
use Rattle.std.specs.List.{Contains}
use Rattle.elide_sites.specs.Destroyed.{IsOn, has_at, is_stop}
use Rattle.elide_sites.specs.Sites.{destroys_of}
use Rattle.elide_sites.specs.declared.destroyed.Way.{Way}
use Rattle.pass_elide_proof.specs.Calling.{DestroysHandles}
use Rattle.pass_elide_proof.specs.Edges.{phis_at}
use Rattle.pass_elide_proof.specs.Elision.{Elision, elided, function_in, rooms}
use Rattle.pass_elide_proof.specs.Invariant.{IsDestroying, StandsAt}
use Rattle.pass_elide_proof.specs.Match.{instance_in}
use Rattle.pass_elide_proof.specs.Places.{instrs_of, own_at, room_at}
use Rattle.pass_proofs.specs.ir_base.declared.name.Name.{Name}
use Rattle.pass_proofs.specs.ir_base.declared.outcome.Outcome.{Outcome}
use Rattle.pass_proofs.specs.ir_model.Names.{position_of}
use Rattle.pass_proofs.specs.ir_model.declared.instr.Instr.{Instr}
use Rattle.pass_proofs.specs.ir_model.declared.instr.Phi.{Phi}
use Rattle.pass_proofs.specs.ir_model.declared.module.Block.{Block}
use Rattle.pass_proofs.specs.ir_model.declared.module.Function.{Function}
use Rattle.pass_proofs.specs.ir_model.declared.operand.Intrinsic.{Intrinsic}
use Rattle.pass_proofs.specs.ir_parts.Contents.{result_of}
use Rattle.pass_proofs.specs.ir_paths.Paths.{has_point, nexts, same_point}
use Rattle.pass_proofs.specs.ir_paths.Windows.{destroy_label, instr_at}
use Rattle.pass_proofs.specs.ir_paths.declared.point.Point.{Point}
use Rattle.pass_proofs.specs.run_framed.Framed.{framed_context, given_ramp, is_given, is_stack_block}
use Rattle.pass_proofs.specs.run_laws.changed.Changed.{Each, callee_at}
use Rattle.pass_proofs.specs.run_laws.embedded.Related.{HasNoSlot}
use Rattle.pass_proofs.specs.run_memory.Memory.{is_live}
use Rattle.pass_proofs.specs.run_memory.declared.block.MemoryBlock.{MemoryBlock}
use Rattle.pass_proofs.specs.run_memory.declared.pointer.Value.{Value}
use Rattle.pass_proofs.specs.run_source.State.{is_finished, work_of}
use Rattle.pass_proofs.specs.run_source.declared.state.Activation.{Activation}
use Rattle.pass_proofs.specs.run_source.declared.state.Instance.{Instance}
use Rattle.pass_proofs.specs.run_source.declared.state.Mode.{Mode}
use Rattle.pass_proofs.specs.run_source.declared.state.State.{State}
use Rattle.pass_proofs.specs.run_source.declared.state.Status.{Status}
use Rattle.pass_proofs.specs.run_step.Step.{AtInstr, Done, GoTo, Work, action_of, block_of, term_action}
use Rattle.pass_proofs.specs.run_step.Values.{Env, value_in}
use Rattle.pass_proofs.specs.run_step.declared.world.Slot.{Slot}

-- ---- instances and their blocks

-- An instance as it was, but for its status and what it was released to. It isn't Finished only if it wasn't before.
pub record WasBefore (xs : List Instance) (number : ℕ) (y : Instance) : Type 0 where
  pub before : Instance
  pub there : slice_get xs number ≡ Some before
  pub coroutine : y.coroutine ≡ before.coroutine
  pub block : y.block ≡ before.block
  pub start : y.start ≡ before.start
  pub going : is_finished y.status ≡ false → is_finished before.status ≡ false

abbrev pub LivesAt : List MemoryBlock → ℕ → Type 0
LivesAt memory b = (z : MemoryBlock) × (slice_get memory b ≡ Some z) × (is_live z.life ≡ true)

-- What is given was so before. Its block lives on.
pub record KeepsFrames (t u : State) : Type 0 where
  pub given : (number : ℕ) (y : Instance) → slice_get t.instances number ≡ Some y
      → is_given u.world.memory y ≡ true → is_given t.world.memory y ≡ true
  pub lives : (number : ℕ) (y : Instance) → slice_get t.instances number ≡ Some y
      → is_stack_block t.world.memory y.block ≡ true → is_finished y.status ≡ false → LivesAt t.world.memory y.block
      → LivesAt u.world.memory y.block

-- ---- the topmost activation

-- It is the same call. If it destroys an instance it does so still.
pub record GoesOnAs (e : Elision) (c d : Activation) : Type 0 where
  pub func : d.func ≡ c.func
  pub result : d.result ≡ c.result
  pub instance : (number : ℕ) → c.instance ≡ Some number → d.instance ≡ Some number
  pub mode : (frame : Value) → c.mode ≡ Mode.GivenRamp frame → d.mode ≡ Mode.GivenRamp frame
  pub given : (frame : Value) → d.mode ≡ Mode.GivenRamp frame → c.mode ≡ Mode.GivenRamp frame
  pub begun : d.instance ≡ None → c.instance ≡ None
  pub destroys : (y : Instance) (number : ℕ) → IsDestroying e y number c → IsDestroying e y number d

-- It goes from one place to the next. What another place gives has its value still, and so have names of new allocas.
pub record MovesOn (e : Elision) (c d : Activation) (p q : Point) : Type 0 where
  pub stands : (r : Point) → StandsAt e c r → (r.block ≡ p.block) × (r.at ≡ p.at)
  pub behind : StandsAt e d q
  pub next : IsTrue (has_point (nexts (function_in e c.func) p) q)
  pub handles : (call : Point) (i : Instr) (v : ℕ) → instr_at (function_in e c.func) call ≡ Some i
      → result_of i ≡ Some v → IsFalse (same_point p call) → value_in d.values v ≡ value_in c.values v
  pub added : (v : ℕ) → length (function_in e c.func).names ≤ v → value_in d.values v ≡ value_in c.values v
  pub slots : (z : Slot) → Contains c.slots z → Contains d.slots z

-- ---- a step

-- The topmost activation goes on in its function, and destroys nothing. Those below it stay, and so do instances and
-- their frames.
pub record GoesOnward (e : Elision) (t u : State) : Type 0 where
  pub below : u.below ≡ t.below
  pub instances : (number : ℕ) (y : Instance) → slice_get u.instances number ≡ Some y
      → WasBefore t.instances number y
  pub frames : KeepsFrames t u
  pub goes : GoesOnAs e t.top u.top
  pub from : Point
  pub to : Point
  pub moves : (function_in e t.top.func).coroutine ≡ false → MovesOn e t.top u.top from to
  pub still : (function_in e t.top.func).coroutine ≡ false → (v : Option ℕ)
      → IsFalse (has_point (destroys_of (function_in e t.top.func) v) from)
  pub destroyed : (function_in e t.top.func).coroutine ≡ false → DestroysHandles e t.top.func

-- ---- names of a function that gives frames

-- Each name is given by one instruction, and by no phi beside it. All are names of the function.
pub record GivesOnce (f : Function) : Type 0 where
  pub alone : (p q : Point) (i j : Instr) (v : ℕ) → instr_at f p ≡ Some i → instr_at f q ≡ Some j
      → result_of i ≡ Some v → result_of j ≡ Some v → (p.block ≡ q.block) × (p.at ≡ q.at)
  pub names : (p : Point) (i : Instr) (v : ℕ) → instr_at f p ≡ Some i → result_of i ≡ Some v → v < length f.names
  pub phis : (p : Point) (i : Instr) (v : ℕ) → instr_at f p ≡ Some i → result_of i ≡ Some v
      → (block : ℕ) → Each (λ (x : Phi). x.result ≡ v → ⊥) (phis_at f block)
  pub phi_names : (block : ℕ) → Each (λ (x : Phi). x.result < length f.names) (phis_at f block)

-- so it is of a function that gives frames, and it destroys its handles
pub record KeepsHandles (e : Elision) (func : ℕ) : Type 0 where
  pub once : GivesOnce (function_in e func)
  pub destroyed : DestroysHandles e func

-- ---- the place of an instruction

-- It stands behind what is put in front of it, and gives no frame. A function that may give some destroys its handles.
pub record StandsAtInstr (e : Elision) (t : State) (at : ℕ) (i : Instr) : Type 0 where
  pub runs : t.outcome ≡ Outcome.Running
  pub there : slice_get (instrs_of (function_in e t.top.func) t.top.block) at ≡ Some i
  pub stands : t.top.at ≡ own_at (rooms e t.top.func) (function_in e t.top.func) t.top.block at
  pub none : room_at (rooms e t.top.func) (function_in e t.top.func) t.top.block at i ≡ None
  pub handles : (function_in e t.top.func).coroutine ≡ false → KeepsHandles e t.top.func

-- what stands there is done, and it makes, marks and allocates no block
pub record StandsAtDone (e : Elision) (t : State) (at : ℕ) (i : Instr) (w : Work) : Type 0 where
  pub place : StandsAtInstr e t at i
  pub no_ramp : (n : Name) → callee_at (AtInstr i) ≡ Some n → given_ramp e.code n ≡ None
  pub no_slot : HasNoSlot (AtInstr i)
  pub does : action_of (framed_context (elided e) t) (work_of t) (AtInstr i) ≡ Done w

-- each frame lies in a block that there is
abbrev pub HaveBlocks : State → Type 0
HaveBlocks t = (number : ℕ) (y : Instance) → slice_get t.instances number ≡ Some y → y.block < length t.world.memory

-- ---- the end of a block

-- it stands at its block's end, from which it goes to a label
pub record StandsAtEnd (e : Elision) (t : State) (label : ℕ) : Type 0 where
  pub runs : t.outcome ≡ Outcome.Running
  pub block : Block
  pub has_block : slice_get (function_in e t.top.func).blocks t.top.block ≡ Some block
  pub stands : t.top.at ≡ own_at (rooms e t.top.func) (function_in e t.top.func) t.top.block (length block.instrs)
  pub goes : term_action (framed_context (elided e) t) (work_of t) block.term ≡ GoTo label
  pub handles : (function_in e t.top.func).coroutine ≡ false → KeepsHandles e t.top.func

-- ---- a coroutine's own calls

-- the activation doesn't execute its allocas again
abbrev pub IsNotEntering : Activation → Type 0
IsNotEntering c = (from label : ℕ) → c.mode ≡ Mode.Entering from label → ⊥

-- Its instance isn't Finished. No path from a destroy edge of the coroutine meets a save or a suspend.
pub record MaySaveAt (e : Elision) (t : State) : Type 0 where
  pub inside : (function_in e t.top.func).coroutine ≡ true
  pub mode : IsNotEntering t.top
  pub goes : (x : Instance) → instance_in t.instances t.top.instance ≡ Some x → is_finished x.status ≡ false
  pub still : (b : ℕ) → IsOn Way.Destroyed (function_in e t.top.func) b
      → IsFalse (has_at is_stop (function_in e t.top.func) b)

-- such a call gives a value, or marks the instance as released
abbrev pub gives_only : Intrinsic → Bool
gives_only Intrinsic.CoroId = true
gives_only Intrinsic.CoroSizeI32 = true
gives_only Intrinsic.CoroSizeI64 = true
gives_only Intrinsic.CoroAlignI32 = true
gives_only Intrinsic.CoroAlignI64 = true
gives_only Intrinsic.CoroAlloc = true
gives_only Intrinsic.CoroFrame = true
gives_only Intrinsic.CoroFree = true
gives_only Intrinsic.CoroDone = true
gives_only Intrinsic.CoroPromise = true
gives_only _ = false

abbrev pub saves_by : Intrinsic → Bool
saves_by Intrinsic.CoroSave = true
saves_by Intrinsic.CoroSuspend = true
saves_by _ = false

-- no frame of an instance that isn't Finished lies in the block into which a pointer leads
abbrev pub MarksNoFrame : State → Value → Type 0
MarksNoFrame t p =
    (b number : ℕ) (y : Instance) → block_of p ≡ Some b → slice_get t.instances number ≡ Some y
    → is_finished y.status ≡ false → y.block ≢ b

-- ---- destroys

-- each instance sleeps at a suspend whose destroy edge leads to the label of 1
abbrev pub WakesByEdge : Elision → State → Type 0
WakesByEdge e t =
    (number : ℕ) (x : Instance) (q : Point) (values : Env) → slice_get t.instances number ≡ Some x
    → x.status ≡ Status.Suspended q values
    → IsOn Way.Destroyed (function_in e x.coroutine) (position_of (function_in e x.coroutine)
    (destroy_label (function_in e x.coroutine) q))
