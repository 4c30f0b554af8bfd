-- Returns: what is asked of the slots of the activation that returns, and of the one below it, which goes on behind its
-- call.
use Rattle.std.specs.Prelude.{◌≡◌, ◌<◌, ◌≤◌, ◌+◌, ◌⊎◌, ◌||◌, ℕ, Bool, true, false, List, [], ◌∷◌, length, map, slice_get, unwrap_or, None, Some, Option, Ok}
use Rattle.std.specs.List.{Contains}
use Rattle.pass_proofs.specs.flow_solver.Paths.{IsListed}
use Rattle.pass_proofs.specs.ir_base.declared.outcome.Outcome.{Outcome}
use Rattle.pass_proofs.specs.ir_model.Ty.{Ty}
use Rattle.pass_proofs.specs.ir_model.declared.instr.Instr.{Instr}
use Rattle.pass_proofs.specs.ir_model.declared.instr.Terminator.{Terminator}
use Rattle.pass_proofs.specs.ir_model.declared.module.Module.{Module}
use Rattle.pass_proofs.specs.ir_model.declared.operand.Arg.{Arg}
use Rattle.pass_proofs.specs.ir_model.declared.operand.Callee.{Callee}
use Rattle.pass_proofs.specs.ir_model.declared.operand.Intrinsic.{Intrinsic}
use Rattle.pass_proofs.specs.ir_parts.Contents.{result_of}
use Rattle.pass_proofs.specs.pass_cells.declared.plan.KeptValue.{KeptValue}
use Rattle.pass_frames_code.specs.Followed.{IsOn}
use Rattle.pass_frames_code.specs.Jumps.{MayEndAt, MayGo}
use Rattle.pass_frames_code.specs.Lines.{IsStorable}
use Rattle.pass_frames_code.specs.Meaning.{behind_cost}
use Rattle.pass_frames_code.specs.Ordinary.{IsPlainName}
use Rattle.pass_frames_code.specs.Passes.{block_at}
use Rattle.pass_frames_code.specs.Places.{Framing, edged, framed, instrs_at, is_return}
use Rattle.pass_frames_code.specs.Related.{AreBuiltOf, Building, IsKeptValue, below_place, is_coroutine}
use Rattle.pass_frames_code.specs.Stepping.{IsNotEntering, IsUnlocated, state_in}
use Rattle.pass_renewed_proof.specs.Renewed.{RenewedGiven}
use Rattle.pass_proofs.specs.run_agreement.Machines.{iterate}
use Rattle.pass_proofs.specs.run_framed.Framed.{framed_context, framed_step}
use Rattle.pass_proofs.specs.run_laws.embedded.Making.{whole_home}
use Rattle.pass_proofs.specs.run_laws.memory.Pointers.{home_of}
use Rattle.pass_proofs.specs.run_laws.transfer.Muted.{muted}
use Rattle.pass_proofs.specs.run_memory.Memory.{is_killed, is_live, same_kind}
use Rattle.pass_proofs.specs.run_memory.declared.block.Kind.{Kind}
use Rattle.pass_proofs.specs.run_memory.declared.block.MemoryBlock.{MemoryBlock}
use Rattle.pass_proofs.specs.run_memory.declared.pointer.Value.{Value}
use Rattle.pass_proofs.specs.run_source.State.{function_of, work_of}
use Rattle.pass_proofs.specs.run_source.declared.state.Activation.{Activation}
use Rattle.pass_proofs.specs.run_source.declared.state.Instance.{Instance}
use Rattle.pass_proofs.specs.run_source.declared.state.State.{State}
use Rattle.pass_proofs.specs.run_step.Step.{AtTerm, fetch, outcome_of}
use Rattle.pass_proofs.specs.run_step.Values.{Env, arg_value, with_result}
use Rattle.pass_proofs.specs.run_step.declared.world.Slot.{Slot}

-- ---- slots

-- the block of one of these slots
abbrev pub IsAmong : ℕ → List Slot → Type 0
IsAmong n ss = IsListed n (map (λ (slot : Slot). slot.block) ss)

-- Nothing of the source stands in a slot of the framed activation on top but slots of the source's. A slot of another
-- activation has its home in one of that one's slots, which has another block, and a slot of an instance has it in a
-- frame. Any other block has one of its own kind for its home. No frame is a slot: allocators make it.
pub record OwnsSlots (b : Building) (s t : State) (r : AreBuiltOf b s t) : Type 0 where
  pub live : (slot : Slot) → Contains t.top.slots slot → (n : ℕ) (z : MemoryBlock)
      → slice_get (muted r.hides s.world.memory) n ≡ Some z → is_live z.life ≡ true
      → (home_of r.homes n).block ≡ slot.block → IsAmong n s.top.slots
  pub whole : (slot : Slot) → Contains t.top.slots slot → (n : ℕ) → n < length s.world.memory
      → home_of r.homes n ≡ whole_home slot.block → IsAmong n s.top.slots
  pub frames : (k : ℕ) (p : Instance) → slice_get s.instances k ≡ Some p → IsAmong p.block s.top.slots → ⊥

-- ---- calls

-- a function is called by its name or through a pointer, or a coroutine is resumed or destroyed, or ends
abbrev pub SwitchesTo : Callee → Type 0
SwitchesTo (Callee.Named n) = Unit {0}
SwitchesTo (Callee.Local v) = Unit {0}
SwitchesTo (Callee.Intrinsic Intrinsic.CoroResume) = Unit {0}
SwitchesTo (Callee.Intrinsic Intrinsic.CoroDestroy) = Unit {0}
SwitchesTo (Callee.Intrinsic Intrinsic.CoroEnd) = Unit {0}
SwitchesTo _ = ⊥

abbrev pub IsSwitching : Instr → Type 0
IsSwitching (Instr.Call r must_tail ty callee args) = SwitchesTo callee
IsSwitching _ = ⊥

-- An activation of a coroutine stands behind a call whose result has this name. Blocks on resume and destroy edges have
-- no call. The address of a slot that is used before begin is no argument of one there (K9). The name is one of the
-- coroutine's, with no distance (N1).
pub record IsBehindCall (b : Building) (a : Activation) (result : Option ℕ) : Type 0 where
  pub mode : IsNotEntering a.mode
  pub unreturned : is_return (b.framing a.func) a.block ≡ false
  pub at : ℕ
  pub behind : a.at ≡ at + 1
  pub call : Instr
  pub there : slice_get (instrs_at (b.framing a.func) a.block) at ≡ Some call
  pub given : result_of call ≡ result
  pub switches : IsSwitching call
  pub unlocated : IsUnlocated (b.framing a.func) (state_in (b.framing a.func) a.block at) call
  pub plain : (q : ℕ) → result ≡ Some q → IsPlainName (b.framing a.func) q
  pub room : length a.values ≡ length (edged (b.framing a.func)).names
  pub wide : length (edged (b.framing a.func)).names ≤ length (framed (b.framing a.func)).names
  pub allocas : (k u align : ℕ) (ty : Ty) → slice_get (instrs_at (b.framing a.func) 0) k ≡ Some (Instr.Alloca u ty align)
      → (u < length (edged (b.framing a.func)).names) × (result ≡ Some u → ⊥)

-- what it is given fits the type of that name
abbrev pub FitsResult : Framing → Option ℕ → Value → Type 0
FitsResult x result v = (q : ℕ) (k : KeptValue) → result ≡ Some q → IsKeptValue x q k → IsStorable k.ty v

-- where it is a coroutine's
abbrev pub GoesOnBehind : Building → Activation → Option ℕ → Value → Type 0
GoesOnBehind b a result v =
    is_coroutine b a.func ≡ true → IsBehindCall b a result × FitsResult (b.framing a.func) result v

-- an activation goes on behind its call
pub record GoesBehind (b : Building) (a : Activation) (result : Option ℕ) (v : Value) : Type 0 where
  pub mode : IsNotEntering a.mode
  pub call : GoesOnBehind b a result v

-- ---- a result behind a call

-- the framed activation on top, right behind its call, with the result
abbrev pub behind_state : Building → State → State → Option ℕ → Value → State
behind_state b s t o u =
    record t {
      top = record t.top {
        block = (below_place b s.top).block;
        at = (below_place b s.top).at;
        values = with_result t.top.values o u;
      };
    }

-- What stands behind its call is executed, at just its cost. Meanwhile the framed run shows what the other one does, and
-- then the states are related.
pub record IsGivenBehind (b : Building) (s t : State) (o : Option ℕ) (v u : Value) : Type 0 where
  pub steps : ℕ
  pub cost : (below : List Activation) → behind_cost b (s.top ∷ below) ≡ steps
  pub shown : (i : ℕ) → i < steps → IsOn b s (iterate (framed_step b.given) i (behind_state b s t o u))
  pub related : AreBuiltOf b (record s { top = record s.top { values = with_result s.top.values o v } })
      (iterate (framed_step b.given) steps (behind_state b s t o u))

-- ---- returns

-- what a return gives
abbrev pub value_of : Module → Env → Option Arg → Option Value
value_of m env None = None
value_of m env (Some a) = Some (arg_value m env a)

abbrev pub given_value : Module → Env → Option Arg → Value
given_value m env arg = unwrap_or (value_of m env arg) Value.Poison

-- The next step is a return to an activation below.
pub record IsAtReturn (b : Building) (g : RenewedGiven) (s : State) (arg : Option Arg) (a : Activation)
    (more : List Activation) : Type 0 where
  pub runs : s.outcome ≡ Outcome.Running
  pub mode : IsNotEntering s.top.mode
  pub there : fetch (function_of g.given s) s.top.block s.top.at ≡ AtTerm (Terminator.Ret arg)
  pub below : s.below ≡ a ∷ more
  pub goes : GoesBehind b a s.top.result (given_value g.given.code s.top.values arg)

-- At the end of a block of a coroutine what is fetched for its return may be, and stands for the source's (`MayGo`).
pub record MayReturn (b : Building) (g : RenewedGiven) (s t : State) (r : AreBuiltOf b s t) (arg : Option Arg) : Type 0
  where
    pub coroutine : is_coroutine b s.top.func ≡ true
    pub at : s.top.at ≡ length (instrs_at (b.framing s.top.func) s.top.block)
    pub block : slice_get (edged (b.framing s.top.func)).blocks s.top.block
        ≡ Some (block_at (edged (b.framing s.top.func)) s.top.block)
    pub unreturned : is_return (b.framing s.top.func) s.top.block ≡ false
    pub given : ℕ → Value
    pub reached : ℕ → Value
    pub ends : MayEndAt (b.framing s.top.func) given reached (framed_context b.given t) s.top.block (work_of t)
    pub go : MayGo b g s t r (Terminator.Ret arg) given reached

-- The next step is the return of the entry function, by which the run has returned: it is no coroutine, and its value is
-- no pointer and no poison.
pub record IsAtLast (b : Building) (g : RenewedGiven) (s : State) (arg : Option Arg) (o : Outcome) : Type 0 where
  pub runs : s.outcome ≡ Outcome.Running
  pub plain : is_coroutine b s.top.func ≡ false
  pub mode : IsNotEntering s.top.mode
  pub there : fetch (function_of g.given s) s.top.block s.top.at ≡ AtTerm (Terminator.Ret arg)
  pub below : s.below ≡ []
  pub returns : outcome_of (value_of g.given.code s.top.values arg) ≡ Ok o

-- ---- slots in both runs

-- the block of an alloca
abbrev pub is_own_kind : MemoryBlock → Bool
is_own_kind x = same_kind x.kind Kind.Slot || same_kind x.kind Kind.Stack

-- What each run has of slots. Each block of an alloca that wasn't killed is a slot of an activation or an instance: slots
-- of what is over are killed. Each slot of the activation on top has such a block. Instances begin in blocks of
-- allocators.
pub record HasSlotsListed (s : State) : Type 0 where
  pub listed : (n : ℕ) (z : MemoryBlock) → slice_get s.world.memory n ≡ Some z → is_killed z.life ≡ false
      → is_own_kind z ≡ true
      → ((a : Activation) × IsListed a (s.top ∷ s.below) × IsAmong n a.slots)
      ⊎ ((k : ℕ) × (p : Instance) × (slice_get s.instances k ≡ Some p) × IsAmong n p.slots)
  pub frames : (k : ℕ) (p : Instance) → slice_get s.instances k ≡ Some p
      → (z : MemoryBlock) × (slice_get s.world.memory p.block ≡ Some z) × (is_own_kind z ≡ false)

pub record HasSlotKinds (s : State) : Type 0 where
  pub each : (slot : Slot) → Contains s.top.slots slot
      → (z : MemoryBlock) × (slice_get s.world.memory slot.block ≡ Some z) × (is_own_kind z ≡ true)

pub record HasOwnSlots (s : State) : Type 0 where
  pub each : (slot : Slot) → Contains s.top.slots slot
      → (z : MemoryBlock) × (slice_get s.world.memory slot.block ≡ Some z) × (is_own_kind z ≡ true)
      × (is_killed z.life ≡ false)
