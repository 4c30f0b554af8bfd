-- Where a step of a framed run leads that isn't undefined: the state behind it, by what stands at the place.
use Rattle.std.specs.Prelude.{◌≡◌, ◌≢◌, ◌⊎◌, ℕ, Bool, true, false, List, [], ◌∷◌, length, Ok, Some, None, Option, if◌then◌else◌, negsuc}
use Rattle.std.specs.List.{list_all}
use Rattle.pass_proofs.specs.ir_model.Ty.{Ty}
use Rattle.pass_proofs.specs.ir_base.declared.name.Name.{Name}
use Rattle.pass_proofs.specs.ir_model.declared.instr.Instr.{Instr}
use Rattle.pass_proofs.specs.ir_model.declared.operand.Arg.{Arg}
use Rattle.pass_proofs.specs.ir_model.declared.operand.Callee.{Callee}
use Rattle.pass_proofs.specs.ir_model.declared.operand.Intrinsic.{Intrinsic}
use Rattle.pass_proofs.specs.ir_paths.declared.point.Point.{Point}
use Rattle.pass_proofs.specs.ir_paths.declared.point.Window.{Window}
use Rattle.pass_proofs.specs.run_framed.Framed.{FramedGiven, continue_framed, framed_context, framed_finish, framed_slot, given_call, given_ramp, last_value}
use Rattle.pass_proofs.specs.run_memory.Memory.{own}
use Rattle.pass_proofs.specs.run_memory.declared.block.Kind.{Kind}
use Rattle.pass_proofs.specs.run_memory.declared.block.MemoryBlock.{MemoryBlock}
use Rattle.pass_proofs.specs.run_memory.declared.pointer.Value.{Value}
use Rattle.pass_proofs.specs.run_source.Source.{Sleeper, begun, called, enter, enter_block, if_let_go, left_windows, may_leave, push, release, return, sleeper_at}
use Rattle.pass_proofs.specs.run_source.State.{function_of, gives, instance_at, next, own_frame, own_instance, settled, with_instance, with_left, with_memory, with_status, work_of}
use Rattle.pass_proofs.specs.run_source.declared.state.Instance.{Instance}
use Rattle.pass_proofs.specs.run_source.declared.state.Mode.{Mode}
use Rattle.pass_proofs.specs.run_source.declared.state.State.{State}
use Rattle.pass_proofs.specs.run_source.declared.state.Status.{Status}
use Rattle.pass_proofs.specs.run_step.Step.{Action, AtInstr, Coro, Deallocate, Done, Enter, Fetched, GoTo, NewSlot, Return, Work, action_of, deallocated, fetch}
use Rattle.pass_proofs.specs.run_step.Values.{arg_values, integer, nth, truth_value}
use Rattle.pass_proofs.specs.run_step.declared.world.Slot.{Slot}

-- ---- the action at the place

-- what stands at the place, which is no call of a ramp that is given its frame, does this
pub record ActsBy (g : FramedGiven) (s : State) (a : Action) : Type 0 where
  pub here : Fetched
  pub there : fetch (function_of g.given s) s.top.block s.top.at ≡ here
  pub none : given_call g s here ≡ None
  pub acts : action_of (framed_context g s) (work_of s) here ≡ a

-- a call of such a ramp
pub record CallsGiven (g : FramedGiven) (s : State) (func : ℕ) (result : Option ℕ) (args : List Arg) : Type 0 where
  pub must_tail : Bool
  pub ty : Option Ty
  pub name : Name
  pub there : fetch (function_of g.given s) s.top.block s.top.at
      ≡ AtInstr (Instr.Call result must_tail ty (Callee.Named name) args)
  pub ramp : given_ramp g.given.code name ≡ Some func

-- ---- states that intrinsics leave

-- a save has suspended the instance, and the activation has left
abbrev pub saved_at : State → ℕ → Instance → Point → Point → State
saved_at s i x save suspend =
    with_left
    (with_instance s i (record x {
      status = Status.Suspended suspend s.top.values;
      last_save = Some (record { depth = length s.below; save = save });
    }))
    true

-- an activation that hasn't left makes its instance Finished at the end
abbrev pub ended : State → State
ended s = if s.top.has_left then s else framed_finish s

-- the block of a begin is owned, or it is a field of a frame and isn't
abbrev pub IsTaken : FramedGiven → State → List MemoryBlock → Type 0
IsTaken g s memory =
    ((mem : Value) × ((kind : Kind) × (own s.world.memory mem (own_frame g.given s).size kind ≡ Ok memory)))
    ⊎ (memory ≡ s.world.memory)

-- ---- all cases

pub data LeadsTo (g : FramedGiven) (s : State) : State → Type 0 where
  Works : (w : Work) → ActsBy g s (Done w) → LeadsTo g s (settled s w)
  MakesSlot : (w : Work) (slot : Slot) → ActsBy g s (NewSlot w slot)
      → LeadsTo g s (framed_slot g (settled s w) slot s.top.mode)
  Enters : (func : ℕ) (args : List Value) (result : Option ℕ) (must_tail : Bool)
      → ActsBy g s (Enter func args result must_tail) → LeadsTo g s (enter g.given s func args result)
  EntersGiven : (func : ℕ) (result : Option ℕ) (args : List Arg) → CallsGiven g s func result args
      → LeadsTo g s (push s (called g.given.code func (arg_values g.given.code s.top.values args) result
      (Mode.GivenRamp (last_value (arg_values g.given.code s.top.values args)))))
  Answers : (i : Intrinsic) (args : List Arg) (result : Option ℕ) (v : Value) → ActsBy g s (Coro i args result)
      → LeadsTo g s (gives s result v)
  Passes : (i : Intrinsic) (args : List Arg) (result : Option ℕ) → ActsBy g s (Coro i args result)
      → LeadsTo g s (next s)
  Begins : (args : List Arg) (result : Option ℕ) (mem : Value) (memory : List MemoryBlock) (block start : ℕ)
      → ActsBy g s (Coro Intrinsic.CoroBegin args result) → s.top.instance ≡ None → IsTaken g s memory
      → LeadsTo g s (gives (begun g.given (with_memory s memory) block start) result mem)
  Releases : (args : List Arg) (result : Option ℕ) (v : Value) → ActsBy g s (Coro Intrinsic.CoroFree args result)
      → LeadsTo g s (gives (release s) result v)
  Saves : (args : List Arg) (result : Option ℕ) (i : ℕ) (x : Instance) (save suspend : Point)
      → ActsBy g s (Coro Intrinsic.CoroSave args result) → own_instance s ≡ Some (i, x) → x.freed ≡ false
      → LeadsTo g s (next (saved_at s i x save suspend))
  Suspends : (args : List Arg) (result : Option ℕ) (i : ℕ) (x : Instance) (save suspend : Point)
      → ActsBy g s (Coro Intrinsic.CoroSuspend args result) → own_instance s ≡ Some (i, x) → x.freed ≡ false
      → LeadsTo g s (gives (saved_at s i x save suspend) result (integer 8 (negsuc 0)))
  Wakes : (i : Intrinsic) (args : List Arg) (result : Option ℕ) (y : Sleeper) (label : ℕ)
      → ActsBy g s (Coro i args result)
      → sleeper_at s (nth (arg_values g.given.code s.top.values args) 0) ≡ Ok y
      → LeadsTo g s (continue_framed g s y.number y.instance y.suspend y.values label)
  EndsRamp : (args : List Arg) (result : Option ℕ) → ActsBy g s (Coro Intrinsic.CoroEnd args result)
      → s.top.mode ≢ Mode.Resumed → LeadsTo g s (gives (ended s) result (truth_value false))
  EndsResumed : (args : List Arg) (result : Option ℕ) (u : State) → ActsBy g s (Coro Intrinsic.CoroEnd args result)
      → s.top.mode ≡ Mode.Resumed → return (ended s) None ≡ Ok u → LeadsTo g s u
  Deallocates : (p : Value) (memory : List MemoryBlock) → ActsBy g s (Deallocate p)
      → deallocated (if_let_go s (instance_at s.instances p)).world.memory p ≡ Ok memory
      → LeadsTo g s (next (with_memory (if_let_go s (instance_at s.instances p)) memory))
  GoesTo : (label : ℕ) → ActsBy g s (GoTo label) → left_windows g.given s label ≡ []
      → LeadsTo g s (enter_block g.given s label)
  Leaves : (label : ℕ) (w : Window) (ws : List Window) (i : ℕ) (x : Instance) → ActsBy g s (GoTo label)
      → left_windows g.given s label ≡ w ∷ ws → own_instance s ≡ Some (i, x)
      → list_all (may_leave (length s.below) x) (w ∷ ws) ≡ true
      → LeadsTo g s (enter_block g.given (with_left (with_status s i x Status.Running) false) label)
  Returns : (v : Option Value) (u : State) → ActsBy g s (Return v) → return s v ≡ Ok u → LeadsTo g s u
