-- Fetches in two blocks that stand beside each other: behind the allocator's block, and on the edge that passes it. What
-- is asked of the place at which they stand.
use Rattle.std.specs.Prelude.{◌≡◌, ◌≢◌, ◌<◌, ◌+◌, ℕ, true, false, [], length, slice_get, Some, None, Ok}
use Rattle.pass_elide_proof.specs.Elision.{Elision, differs_in, framed, function_in, rooms}
use Rattle.pass_elide_proof.specs.Match.{is_given_mode, sides, was_given}
use Rattle.pass_elide_proof.specs.Ordinary.{IsPlainName}
use Rattle.pass_elide_proof.specs.Places.{allocas_ahead, instrs_of, own_at, room_at}
use Rattle.pass_elide_proof.specs.Shapes.{slot_address}
use Rattle.pass_proofs.specs.ir_base.declared.outcome.Outcome.{Outcome}
use Rattle.pass_proofs.specs.ir_model.Names.{is_local}
use Rattle.pass_proofs.specs.ir_model.Ty.{Ty, ptr}
use Rattle.pass_proofs.specs.ir_model.declared.instr.Instr.{Instr}
use Rattle.pass_proofs.specs.ir_model.declared.operand.Operand.{Operand}
use Rattle.pass_proofs.specs.ir_parts.Contents.{result_of}
use Rattle.pass_proofs.specs.run_framed.Framed.{frame_rights}
use Rattle.pass_proofs.specs.run_memory.Memory.{access_bytes, load}
use Rattle.pass_proofs.specs.run_memory.declared.pointer.Value.{Value}
use Rattle.pass_proofs.specs.run_source.State.{function_of}
use Rattle.pass_proofs.specs.run_source.declared.state.State.{State}
use Rattle.pass_proofs.specs.run_step.Step.{AtInstr, fetch, is_alignment}
use Rattle.pass_proofs.specs.run_step.Values.{access_of, address, operand_value}

-- no instruction before a position of a block gives the name
abbrev pub IsUnsetBefore : Elision → (func block at : ℕ) → ℕ → Type 0
IsUnsetBefore e func block at v =
    (k name : ℕ) (i : Instr) → k < at → slice_get (instrs_of (function_in e func) block) k ≡ Some i
    → result_of i ≡ Some name → name ≢ v

-- Both activations stand at instructions that give names of their own, one in a block aside of the other's.
pub record AreAside (e : Elision) (s t : State) (i j : Instr) (u v : ℕ) : Type 0 where
  pub runs : s.outcome ≡ Outcome.Running
  pub here : fetch (function_of (framed e).given s) s.top.block s.top.at ≡ AtInstr i
  pub there : slice_get (instrs_of (function_in e s.top.func) t.top.block) s.top.at ≡ Some j
  -- they stand in two blocks, one aside of the other
  pub given : was_given (sides s t) t.top ≡ true
  pub aside : (e.shape s.top.func).aside s.top.block ≡ Some t.top.block
  pub other : t.top.block ≢ s.top.block
  pub waits : (e.shape s.top.func).waits s.top.block ≡ None
  pub frees : (e.shape s.top.func).frees s.top.block ≡ None
  -- the coroutine gives no frames
  pub none : allocas_ahead (rooms e s.top.func) (function_in e s.top.func) ≡ []
  pub own : own_at (rooms e s.top.func) (function_in e s.top.func) t.top.block s.top.at ≡ s.top.at
  pub no_room : room_at (rooms e s.top.func) (function_in e s.top.func) t.top.block s.top.at j ≡ None
  -- the two names differ
  pub differs : differs_in (e.shape s.top.func) (is_given_mode t.top.mode) (was_given (sides s t) t.top) u ≡ true
  pub differs_too : differs_in (e.shape s.top.func) (is_given_mode t.top.mode) (was_given (sides s t) t.top) v ≡ true
  pub plain : IsPlainName (e.shape s.top.func) (is_given_mode t.top.mode) (was_given (sides s t) t.top) u
  pub plain_too : IsPlainName (e.shape s.top.func) (is_given_mode t.top.mode) (was_given (sides s t) t.top) v
  -- each is set once, and has room
  pub unset : IsUnsetBefore e s.top.func s.top.block s.top.at u
  pub unset_too : IsUnsetBefore e s.top.func t.top.block s.top.at v
  pub named : v < length (function_in e s.top.func).names
  pub wide : v < length t.top.values
  pub holds : is_given_mode t.top.mode ≡ true
      → (e.shape s.top.func).holds s.top.block (s.top.at + 1) ≡ (e.shape s.top.func).holds s.top.block s.top.at
  pub kept : (name : ℕ) → is_given_mode t.top.mode ≡ true
      → (e.shape s.top.func).holds s.top.block s.top.at ≡ Some name → name ≢ u

-- What is read doesn't differ.
abbrev pub IsReadAlike : Elision → State → State → Operand → Type 0
IsReadAlike e s t x =
    (name : ℕ) → is_local name x ≡ true
    → differs_in (e.shape s.top.func) (is_given_mode t.top.mode) (was_given (sides s t) t.top) name ≡ false

-- They load one kept value. The framed run's load isn't undefined.
pub record IsAtLoads (e : Elision) (s t : State) (u v align : ℕ) (ty : Ty) (cell : Operand) (loaded : Value)
    : Type 0 where
  pub place : AreAside e s t (Instr.Load u ty cell align) (Instr.Load v ty cell align) u v
  pub reads : IsReadAlike e s t cell
  pub aligned : is_alignment align ≡ true
  pub bytes : 0 < access_bytes (access_of ty)
  pub loads : load (frame_rights (framed e) s.instances) s.world.memory
      (address (operand_value e.code s.top.values ptr cell)) (access_of ty) align ≡ Ok loaded

-- They make the address of one slot.
pub record IsAtAddresses (e : Elision) (s t : State) (u v base distance : ℕ) : Type 0 where
  pub place : AreAside e s t (slot_address u base distance) (slot_address v base distance) u v
  pub reads : IsReadAlike e s t (Operand.Local base)
