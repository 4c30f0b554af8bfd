-- What the shape of a coroutine says of its code, where its frame may be given. The source's sentences on callees
-- (`IsElidable`) have this form behind the passes that build frames.
use Rattle.std.specs.Prelude.{◌≡◌, ◌≢◌, ◌⊎◌, ◌<◌, ◌≤◌, ℕ, true, false, List, [], ◌∷◌, length, pos, slice_get, Some, None}
use Rattle.elide_shape.specs.Calls.{deals_by, is_size_call}
use Rattle.elide_shape.specs.declared.calls.Dealing.{Dealing}
use Rattle.pass_elide_proof.specs.Elision.{Shape}
use Rattle.pass_elide_proof.specs.Places.{instrs_of}
use Rattle.pass_proofs.specs.ir_model.Names.{position_of}
use Rattle.pass_proofs.specs.flow_blocks.Reach.{IsReached as IsReachedBlock}
use Rattle.pass_proofs.specs.ir_model.Ty.{Ty, int}
use Rattle.pass_proofs.specs.ir_model.declared.instr.Instr.{Instr}
use Rattle.pass_proofs.specs.ir_model.declared.instr.Terminator.{Terminator}
use Rattle.pass_proofs.specs.ir_model.declared.module.Function.{Function}
use Rattle.pass_proofs.specs.ir_model.declared.operand.Operand.{Operand}
use Rattle.pass_proofs.specs.ir_parts.Contents.{result_of}
use Rattle.pass_proofs.specs.ir_paths.Windows.{call_operand, call_result, is_call_of}
use Rattle.pass_proofs.specs.ir_model.declared.operand.Intrinsic.{Intrinsic}
use Rattle.pass_proofs.specs.run_step.Step.{AtTerm, fetch}

-- the last of a block is a jump to another one
pub record JumpsTo (f : Function) (block target : ℕ) : Type 0 where
  pub label : ℕ
  pub stands : fetch f block (length (instrs_of f block)) ≡ AtTerm (Terminator.Jump label)
  pub leads : position_of f label ≡ target

-- a load of a kept value, for the allocator's call
pub data IsKeptLoad : Instr → Type 0 where
  KeptLoad : (name cell align : ℕ) (ty : Ty) → IsKeptLoad (Instr.Load name ty (Operand.Local cell) align)

-- a call of coro.size, the one call of an allocator, or a load for it
abbrev pub IsAllocating : Instr → Type 0
IsAllocating i = (is_size_call i ≡ true) ⊎ ((deals_by Dealing.Allocates i ≡ true) ⊎ IsKeptLoad i)

-- the address so many bytes behind that of a name, as weavings of frames fetch that of a slot
abbrev pub slot_address : (name base distance : ℕ) → Instr
slot_address name base distance =
    Instr.Gep name false (int 8) (Operand.Local base)
    (record { ty = int 64; value = Operand.Number (pos distance) } ∷ [])

-- loads of the same kept values, or addresses of the same slots, into names of their own
pub data AreSameFetches : Instr → Instr → Type 0 where
  Loads : (u v align : ℕ) (ty : Ty) (cell : Operand) → AreSameFetches (Instr.Load u ty cell align)
      (Instr.Load v ty cell align)
  Addresses : (u v base distance : ℕ) → AreSameFetches (slot_address u base distance) (slot_address v base distance)

-- coro.alloc is asked at the end of one block, from which the allocator's block and another one are entered. Behind the
-- allocator's block and beside it stand two blocks of as many fetches. They lead to the block that begins.
pub record AsksForFrame (f : Function) (x : Shape) : Type 0 where
  pub asks : ℕ
  pub allocates : ℕ
  pub after : ℕ
  pub beside : ℕ
  pub begins : ℕ
  pub need : ℕ
  pub one : ℕ
  pub other : ℕ
  pub branch : fetch f asks (length (instrs_of f asks)) ≡ AtTerm (Terminator.Branch (Operand.Local need) one other)
  pub to_allocator : position_of f one ≡ allocates
  pub to_beside : position_of f other ≡ beside
  pub jumps : JumpsTo f allocates after
  pub joins : JumpsTo f after begins
  pub meets : JumpsTo f beside begins
  pub waits : x.waits allocates ≡ Some asks
  pub aside : x.aside after ≡ Some beside
  -- where no path leads weavings may leave anything
  pub instrs : IsReachedBlock f (0 ∷ []) [] allocates → (k : ℕ) (i : Instr)
      → slice_get (instrs_of f allocates) k ≡ Some i → IsAllocating i
  pub allocation : ℕ
  pub allocator : Instr
  pub there : slice_get (instrs_of f allocates) allocation ≡ Some allocator
  pub is_allocator : deals_by Dealing.Allocates allocator ≡ true
  pub once : (k : ℕ) (i : Instr) → slice_get (instrs_of f allocates) k ≡ Some i
      → deals_by Dealing.Allocates i ≡ true → k ≡ allocation
  pub loads : (k : ℕ) (i j : Instr) → slice_get (instrs_of f after) k ≡ Some i
      → slice_get (instrs_of f beside) k ≡ Some j → AreSameFetches i j
  pub many : length (instrs_of f after) ≡ length (instrs_of f beside)
  -- the block is held from the allocator's call to begin
  pub block : ℕ
  pub memory : ℕ
  pub begin : ℕ
  pub start : Instr
  pub given : call_result allocator ≡ Some block
  pub is_start : slice_get (instrs_of f begins) begin ≡ Some start
  pub is_begin : is_call_of Intrinsic.CoroBegin start ≡ true
  pub takes : call_operand start 1 ≡ Operand.Local memory
  pub held : (at : ℕ) → allocation < at → x.holds allocates at ≡ Some block
  pub held_behind : (at : ℕ) → x.holds after at ≡ Some block
  pub held_until : (at : ℕ) → at ≤ begin → x.holds begins at ≡ Some memory
  pub free_before : (at : ℕ) → at ≤ allocation → x.holds allocates at ≡ None
  pub free_behind : (at : ℕ) → begin < at → x.holds begins at ≡ None
  pub free_elsewhere : (k at : ℕ) → k ≢ allocates → k ≢ after → k ≢ begins → x.holds k at ≡ None
  -- what differs
  pub is_need : x.need need ≡ true
  pub is_memory : x.made memory ≡ true
  pub is_made : (k v : ℕ) (i : Instr) → slice_get (instrs_of f allocates) k ≡ Some i → result_of i ≡ Some v
      → x.made v ≡ true
  pub is_loaded : (k v : ℕ) (i : Instr) → slice_get (instrs_of f after) k ≡ Some i → result_of i ≡ Some v
      → x.made v ≡ true
  pub is_loaded_beside : (k v : ℕ) (i : Instr) → slice_get (instrs_of f beside) k ≡ Some i → result_of i ≡ Some v
      → x.made v ≡ true
