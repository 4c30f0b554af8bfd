-- What stands in the place of each coro intrinsic.
use Rattle.std.specs.Prelude.{ℕ, Bool, true, false, List, [], slice_get, ℤ, pos, negsuc, Some, None, Option, ◌+◌, ◌*◌, ◌/◌, ◌∷◌, if◌then◌else◌, ◌==◌}
use Rattle.ir_base.specs.declared.name.Name.{Name}
use Rattle.ir_base.specs.declared.ops.BinOp.{BinOp}
use Rattle.ir_base.specs.declared.ops.Flags.{Flags}
use Rattle.ir_base.specs.declared.ops.Pred.{Pred}
use Rattle.ir_model.specs.Ty.{Ty, int, ptr}
use Rattle.ir_model.specs.declared.instr.Instr.{Instr}
use Rattle.ir_model.specs.declared.operand.Arg.{Arg}
use Rattle.ir_model.specs.declared.operand.Callee.{Callee}
use Rattle.ir_model.specs.declared.operand.Intrinsic.{Intrinsic}
use Rattle.ir_model.specs.declared.operand.Operand.{Operand}
use Rattle.ir_model.specs.TypeView.{bits_of}
use Rattle.pass_intrinsics.specs.Shapes.{given_name, index_bytes, is_true}
use Rattle.pass_intrinsics.specs.declared.shape.Part.{Part}
use Rattle.pass_intrinsics.specs.declared.shape.Shape.{Shape}
use Rattle.pass_intrinsics.specs.declared.shape.SuspendPoint.{SuspendPoint}

-- ---- small instructions

abbrev pub no_flags : Flags
no_flags = record { nuw = false; nsw = false; exact = false; disjoint = false }

abbrev pub number_arg : ℕ → ℤ → Arg
number_arg w z = record { ty = int w; value = Operand.Number z }

abbrev pub pointer_arg : Operand → Arg
pointer_arg x = record { ty = ptr; value = x }

-- a name for a number of a width
abbrev pub set_number : Option ℕ → ℕ → ℕ → List Instr
set_number None w k = []
set_number (Some r) w k = Instr.Binary r BinOp.Add no_flags (int w) (Operand.Number (pos k)) (Operand.Number (pos 0)) ∷ []

abbrev pub truth_of : Bool → Operand
truth_of true = Operand.True
truth_of false = Operand.False

-- a name for a truth
abbrev pub set_truth : Option ℕ → Operand → List Instr
set_truth None x = []
set_truth (Some r) x = Instr.Binary r BinOp.And no_flags (int 1) x x ∷ []

-- a name for an address so many bytes behind another
abbrev pub address : ℕ → Operand → ℤ → Instr
address r p distance = Instr.Gep r false (int 8) p (number_arg 64 distance ∷ [])

abbrev pub set_address : Option ℕ → Operand → ℤ → List Instr
set_address None p distance = []
set_address (Some r) p distance = address r p distance ∷ []

abbrev pub store_pointer : Operand → Operand → Instr
store_pointer x p = Instr.Store (pointer_arg x) p 8

abbrev pub load_pointer : ℕ → Operand → Instr
load_pointer r p = Instr.Load r ptr p 8

abbrev pub call_pointer : ℕ → Operand → Instr
call_pointer f p = Instr.Call None false None (Callee.Local f) (pointer_arg p ∷ [])

abbrev pub value_or_null : Option Arg → Operand
value_or_null None = Operand.Null
value_or_null (Some a) = a.value

-- the operand at a position, null where there is none
abbrev pub operand_at : List Arg → ℕ → Operand
operand_at args i = value_or_null (slice_get args i)

-- ---- what differs where a frame is given: in the ramp that is given it, and where that instance is destroyed

-- such a ramp's coro.alloc is false, any other's is true
abbrev pub allocates : Part → Bool
allocates Part.GivenRamp = false
allocates _ = true

-- begin's memory is its operand, in such a ramp the address that it is given
abbrev pub begin_memory : Shape → Part → List Arg → Operand
begin_memory s Part.GivenRamp args = Operand.Local (given_name s)
begin_memory s _ args = operand_at args 1

-- the function that a destroy calls
abbrev pub destroyed_by : Shape → Part → Name
destroyed_by s Part.GivenRamp = s.cleanup_name
destroyed_by s _ = s.destroy_name

-- what coro.free gives: null for a frame that was given
abbrev pub freed_by : Shape → Part → Operand
freed_by s Part.GivenRamp = Operand.Null
freed_by s Part.Cleanup = Operand.Null
freed_by s _ = Operand.Local s.begin

-- ---- the intrinsics; n is the next new name

-- begin's value is its operand; the functions that a resume and a destroy call are stored there
abbrev pub begin_stores : Shape → Part → ℕ → Operand → List Instr
begin_stores s part n p =
    address s.begin p (pos 0)
    ∷ store_pointer (Operand.Global s.resume_name) (Operand.Local s.begin)
    ∷ address n (Operand.Local s.begin) (pos 8)
    ∷ store_pointer (Operand.Global (destroyed_by s part)) (Operand.Local n)
    ∷ []

-- what a resume calls behind a suspend
abbrev pub resumed_by : Shape → Bool → Operand
resumed_by s true = Operand.Null
resumed_by s false = Operand.Global s.resume_name

abbrev pub is_final_at : Option SuspendPoint → Bool
is_final_at None = false
is_final_at (Some p) = p.is_final

-- the index and the function that a resume calls are stored
abbrev pub save_stores : Shape → ℕ → ℕ → List Instr
save_stores s n j =
    address n (Operand.Local s.begin) (pos s.index)
    ∷ Instr.Store (number_arg (bits_of s.width) (pos j)) (Operand.Local n) (index_bytes s.width)
    ∷ store_pointer (resumed_by s (is_final_at (slice_get s.suspends j))) (Operand.Local s.begin)
    ∷ []

abbrev pub resume_call : ℕ → Operand → List Instr
resume_call n p = load_pointer n p ∷ call_pointer n p ∷ []

abbrev pub destroy_call : ℕ → Operand → List Instr
destroy_call n p = address n p (pos 8) ∷ load_pointer (n + 1) (Operand.Local n) ∷ call_pointer (n + 1) p ∷ []

-- a coroutine is done where a resume would call nothing
abbrev pub done_test : ℕ → Option ℕ → Operand → List Instr
done_test n None p = []
done_test n (Some r) p = load_pointer n p ∷ Instr.Icmp r Pred.Eq ptr (Operand.Local n) Operand.Null ∷ []

-- the promise stands 16 bytes behind the frame's start
abbrev pub promise_distance : Bool → ℤ
promise_distance true = negsuc 15
promise_distance false = pos 16

abbrev pub number_at : Option (Option ℕ) → Option ℕ
number_at None = None
number_at (Some j) = j

-- the suspend of a save
abbrev pub number_of_save : Shape → Option ℕ → Option ℕ
number_of_save s None = None
number_of_save s (Some r) = number_at (slice_get s.saves r)

abbrev pub save_or_none : Shape → ℕ → Option ℕ → List Instr
save_or_none s n None = []
save_or_none s n (Some j) = save_stores s n j

-- what stands in the place of a call of an intrinsic
abbrev pub lowered_call : Shape → Part → ℕ → Instr → Intrinsic → Option ℕ → List Arg → List Instr
lowered_call s part n i Intrinsic.CoroSizeI32 r args = set_number r 32 s.size
lowered_call s part n i Intrinsic.CoroSizeI64 r args = set_number r 64 s.size
lowered_call s part n i Intrinsic.CoroAlignI32 r args = set_number r 32 s.align
lowered_call s part n i Intrinsic.CoroAlignI64 r args = set_number r 64 s.align
lowered_call s part n i Intrinsic.CoroAlloc r args = set_truth r (truth_of (allocates part))
lowered_call s part n i Intrinsic.CoroBegin r args = begin_stores s part n (begin_memory s part args)
lowered_call s part n i Intrinsic.CoroFree r args = set_address r (freed_by s part) (pos 0)
lowered_call s part n i Intrinsic.CoroFrame r args = set_address r (Operand.Local s.begin) (pos 0)
lowered_call s part n i Intrinsic.CoroSave r args = save_or_none s n (number_of_save s r)
lowered_call s part n i Intrinsic.CoroSuspend r args = []
lowered_call s part n i Intrinsic.CoroEnd r args = set_truth r (truth_of false)
lowered_call s part n i Intrinsic.CoroResume r args = resume_call n (operand_at args 0)
lowered_call s part n i Intrinsic.CoroDestroy r args = destroy_call n (operand_at args 0)
lowered_call s part n i Intrinsic.CoroDone r args = done_test n r (operand_at args 0)
lowered_call s part n i Intrinsic.CoroPromise r args = set_address r (operand_at args 0) (promise_distance (is_true (operand_at args 2)))
lowered_call s part n i _ r args = i ∷ []

-- what stands in the place of an instruction
abbrev pub lowered : Shape → Part → ℕ → Instr → List Instr
lowered s part n (Instr.Call r must_tail ty (Callee.Intrinsic x) args) = lowered_call s part n (Instr.Call r must_tail ty (Callee.Intrinsic x) args) x r args
lowered s part n i = i ∷ []

-- how many new names it takes
abbrev pub names_for : Intrinsic → ℕ
names_for Intrinsic.CoroBegin = 1
names_for Intrinsic.CoroSave = 1
names_for Intrinsic.CoroResume = 1
names_for Intrinsic.CoroDestroy = 2
names_for Intrinsic.CoroDone = 1
names_for _ = 0

abbrev pub names_taken : Instr → ℕ
names_taken (Instr.Call r must_tail ty (Callee.Intrinsic x) args) = names_for x
names_taken i = 0
