-- The ordinary step: what one instruction does that is no coro intrinsic, in each of the three meanings.
use Rattle.std.specs.Prelude.{ℕ, pred, min, Bool, true, false, not, List, [], map, length, replicate, ℤ, pos, slice_get, Some, None, Ok, Err, Option, Result, unwrap_or, option_map, ◌+◌, ◌-◌, ◌^◌, ◌&&◌, ◌||◌, ◌∷◌, ◌++◌, if◌then◌else◌, ◌==◌}
use Rattle.run_memory.specs.Memory.{Rights, access_bytes, compare, copy, encode, end, fresh, kill, killed, load, start, store}
use Rattle.run_memory.specs.declared.block.Kind.{Kind}
use Rattle.run_memory.specs.declared.block.Life.{Life}
use Rattle.run_memory.specs.declared.block.MemoryBlock.{MemoryBlock}
use Rattle.run_memory.specs.declared.pointer.Pointer.{Pointer}
use Rattle.run_memory.specs.declared.pointer.Value.{Value}
use Rattle.ir_paths.specs.ir_base.declared.cause.Cause.{Cause}
use Rattle.ir_paths.specs.ir_base.declared.ops.CastOp.{CastOp}
use Rattle.ir_paths.specs.ir_base.declared.ops.Pred.{Pred}
use Rattle.ir_paths.specs.ir_base.declared.outcome.Outcome.{Outcome}
use Rattle.ir_paths.specs.ir_base.declared.outcome.Item.{Item}
use Rattle.ir_paths.specs.ir_base.declared.outcome.Place.{Place}
use Rattle.ir_paths.specs.ir_base.declared.outcome.Word.{Word}
use Rattle.run_memory.specs.run_ints.Numbers.{binary, cast, icmp}
use Rattle.run_memory.specs.run_ints.declared.num.Num.{Num}
use Rattle.ir_paths.specs.ir_model.Layout.{same_type, size_of}
use Rattle.ir_paths.specs.ir_model.Names.{declaration_named, function_named, is_local}
use Rattle.ir_paths.specs.ir_model.Ty.{Ty, int, ptr}
use Rattle.ir_paths.specs.ir_model.declared.instr.Case.{Case}
use Rattle.ir_paths.specs.ir_model.declared.instr.Incoming.{Incoming}
use Rattle.ir_paths.specs.ir_model.declared.instr.Instr.{Instr}
use Rattle.ir_paths.specs.ir_model.declared.instr.Phi.{Phi}
use Rattle.ir_paths.specs.ir_model.declared.instr.Terminator.{Terminator}
use Rattle.ir_paths.specs.ir_model.declared.module.Block.{Block}
use Rattle.ir_paths.specs.ir_model.declared.module.Function.{Function}
use Rattle.ir_paths.specs.ir_model.declared.module.GlobalItem.{GlobalItem}
use Rattle.ir_paths.specs.ir_model.declared.module.Module.{Module}
use Rattle.ir_paths.specs.ir_model.declared.module.Param.{Param}
use Rattle.ir_paths.specs.ir_model.declared.operand.Allocator.{Allocator}
use Rattle.ir_paths.specs.ir_model.declared.operand.Arg.{Arg}
use Rattle.ir_paths.specs.ir_model.declared.operand.Callee.{Callee}
use Rattle.ir_paths.specs.ir_model.declared.operand.Intrinsic.{Intrinsic}
use Rattle.ir_paths.specs.ir_model.declared.operand.Operand.{Operand}
use Rattle.run_step.specs.Values.{Env, access_of, address, arg_value, arg_values, distance, element, indices_of, literal, nth, number_at, number_of_width, operand_value, pointer_to, stored, truth_value, value_in, value_of, with_result, with_value}
use Rattle.run_step.specs.declared.world.Slot.{Slot}
use Rattle.run_step.specs.declared.world.World.{World}
use Rattle.std.specs.List.{list_any}

-- ---- what stands at a place

pub data Fetched : Type 0 where
  Nowhere : Fetched
  AtInstr : Instr → Fetched
  AtTerm : Terminator → Fetched

abbrev pub fetch_or : Option Instr → Bool → Terminator → Fetched
fetch_or (Some i) is_last t = AtInstr i
fetch_or None true t = AtTerm t
fetch_or None false t = Nowhere

abbrev pub fetch_in : Option Block → ℕ → Fetched
fetch_in None at = Nowhere
fetch_in (Some b) at = fetch_or (slice_get b.instrs at) (at == length b.instrs) b.term

-- the instruction at a position of the block, right behind the last of them its terminator, and further on nothing
abbrev pub fetch : Function → ℕ → ℕ → Fetched
fetch f block at = fetch_in (slice_get f.blocks block) at

abbrev pub phis_of : Option Block → List Phi
phis_of None = []
phis_of (Some b) = b.phis

abbrev pub label_of : Option Block → ℕ
label_of None = 0
label_of (Some b) = b.label

-- the place of an instruction, which counts the block's phis too
abbrev pub place_at : ℕ → Function → ℕ → ℕ → Place
place_at func f block at = record { item = Item.Function func; block = Some block; instr = Some (length (phis_of (slice_get f.blocks block)) + at) }

-- ---- what an instruction works on, and what comes of it

-- what it is given: the module, the answers, what an access may do, and the function in which it stands
pub record Context : Type 0 where
  pub code : Module
  pub answers : List ℤ
  pub rights : Rights
  pub function : Function

-- what it may change: what all activations share, and the values of its own
pub record Work : Type 0 where
  pub world : World
  pub values : Env

-- what comes of it: it is done and the next one follows; so is an alloca, with its new slot; a call of a defined function; a coro intrinsic or a deallocation, of which each meaning says what it does; a branch to a label; a return; or the run is undefined
pub data Action : Type 0 where
  Done : Work → Action
  NewSlot : Work → Slot → Action
  Enter : (func : ℕ) (args : List Value) (result : Option ℕ) (must_tail : Bool) → Action
  Coro : Intrinsic → (args : List Arg) (result : Option ℕ) → Action
  Deallocate : Value → Action
  GoTo : (label : ℕ) → Action
  Return : Option Value → Action
  Stuck : Cause → Action

abbrev pub set_value : Work → ℕ → Value → Work
set_value w name v = record w { values = with_value w.values name v }

abbrev pub set_result : Work → Option ℕ → Value → Work
set_result w name v = record w { values = with_result w.values name v }

abbrev pub set_memory : Work → List MemoryBlock → Work
set_memory w memory = record w { world = record w.world { memory = memory } }

-- done with what an operation gives, or stuck by its cause
abbrev pub done : {A : Type 0} → (A → Work) → Result A Cause → Action
done f (Err c) = Stuck c
done f (Ok a) = Done (f a)

abbrev pub value_at : Context → Work → Ty → Operand → Value
value_at c w ty x = operand_value c.code w.values ty x

-- ---- the instructions

-- pointers are compared by eq and ne only
abbrev pub by_pred : Pred → Bool → Bool
by_pred Pred.Ne b = not b
by_pred _ b = b

abbrev pub compared : Context → Work → ℕ → Pred → Ty → Value → Value → Action
compared c w name pred (int n) a b = Done (set_value w name (value_of (icmp pred (number_of_width n a) (number_of_width n b))))
compared c w name pred ty a b = done (λ same. set_value w name (truth_value (by_pred pred same))) (compare c.rights w.world.memory (address a) (address b))

abbrev pub chosen : Value → Value → Value → Value
chosen Value.Poison a b = Value.Poison
chosen (Value.Int x) a b = if x.bits == 1 then a else b
chosen (Value.Ptr p) a b = Value.Poison

-- a number cast to a type
abbrev pub cast_to : CastOp → Bool → Num → Ty → Value
cast_to op nneg n (int w) = value_of (cast op nneg n w)
cast_to op nneg n _ = Value.Poison

abbrev pub is_alignment : ℕ → Bool
is_alignment align = (align == 1) || (align == 2) || (align == 4) || (align == 8) || (align == 16)

-- nothing is aligned to another number
abbrev pub if_alignment : ℕ → Action → Action
if_alignment align a = if is_alignment align then a else Stuck Cause.Align

abbrev pub is_lifetime : Callee → Bool
is_lifetime (Callee.Intrinsic Intrinsic.LifetimeStart) = true
is_lifetime (Callee.Intrinsic Intrinsic.LifetimeEnd) = true
is_lifetime _ = false

-- a marker of an alloca
abbrev pub is_marker_of : ℕ → Instr → Bool
is_marker_of name (Instr.Call result must_tail ty callee args) = is_lifetime callee && list_any (λ a. is_local name a.value) args
is_marker_of name _ = false

abbrev pub has_markers : Function → ℕ → Bool
has_markers f name = list_any (λ b. list_any (is_marker_of name) b.instrs) f.blocks

-- an alloca's block is a slot in a coroutine and a stack block elsewhere; one with markers starts dead
abbrev pub alloca_kind : Function → Kind
alloca_kind f = if f.coroutine then Kind.Slot else Kind.Stack

abbrev pub alloca : Context → Work → ℕ → ℕ → ℕ → Action
alloca c w name size align =
    let b = length w.world.memory in
    let memory = fresh w.world.memory size align (alloca_kind c.function) in
    NewSlot
    (set_memory (set_value w name (pointer_to b)) (if has_markers c.function name then end memory b else memory))
    (record { alloca = name; block = b })

-- ---- calls

abbrev pub block_of : Value → Option ℕ
block_of (Value.Ptr (Pointer.At b offset)) = Some b
block_of _ = None

abbrev pub on_block : (List MemoryBlock → ℕ → List MemoryBlock) → List MemoryBlock → Option ℕ → List MemoryBlock
on_block f memory None = memory
on_block f memory (Some b) = f memory b

-- a size or length, which may not be poison
abbrev pub with_length : Value → (ℕ → Action) → Action
with_length (Value.Int n) go = go n.bits
with_length Value.Poison go = Stuck Cause.Poison
with_length (Value.Ptr p) go = Stuck Cause.Poison

-- a count that rises stands still at its type's end
abbrev pub risen : ℕ → ℕ
risen n = min (n + 1) (2 ^ 128 - 1)

-- a fresh block of an allocator
abbrev pub allocated : Work → Option ℕ → ℕ → Work
allocated w result size =
    let memory = w.world.memory in
    record {
      world = record w.world { memory = fresh memory size 16 Kind.Allocator; allocs = risen w.world.allocs };
      values = with_result w.values result (pointer_to (length memory));
    }

abbrev pub allocator_call : Allocator → Work → Option ℕ → List Value → Action
allocator_call Allocator.Malloc w result vs = with_length (nth vs 0) (λ n. Done (allocated w result n))
allocator_call Allocator.Znwm w result vs = with_length (nth vs 0) (λ n. Done (allocated w result n))
allocator_call Allocator.Free w result vs = Deallocate (address (nth vs 0))
allocator_call Allocator.ZdlPv w result vs = Deallocate (address (nth vs 0))
allocator_call Allocator.ZdlPvm w result vs = Deallocate (address (nth vs 0))

-- the arguments as words, which none is that is poison
abbrev pub words_of : List Value → Option (List Word)
words_of [] = Some []
words_of (Value.Int x ∷ vs) = option_map (λ xs. x ∷ xs) (words_of vs)
words_of (Value.Poison ∷ vs) = None
words_of (Value.Ptr p ∷ vs) = None

-- the next answer, and 0 past the end
abbrev pub answer : List ℤ → ℕ → ℤ
answer answers k = unwrap_or (slice_get answers k) (pos 0)

abbrev pub with_event : World → ℕ → List Word → World
with_event s d args = record s { events = s.events ++ record { func = d; args = args } ∷ [] }

-- a call of a declared function is observed; where it has a result, that is the next answer, cut to its width, and a name for no result is poison
abbrev pub observed : Context → Work → ℕ → Option Ty → Option ℕ → Option (List Word) → Action
observed c w d ty result None = Stuck Cause.Poison
observed c w d None result (Some args) =
    Done (record { world = with_event w.world d args; values = with_result w.values result Value.Poison })
observed c w d (Some ty) result (Some args) =
    Done (record {
      world = record w.world { events = (with_event w.world d args).events; answers_used = risen w.world.answers_used };
      values = with_result w.values result (literal ty (answer c.answers w.world.answers_used));
    })

abbrev pub named_call : Context → Work → Option ℕ → Option ℕ → Option Ty → Option ℕ → Bool → List Value → Action
named_call c w (Some f) d ty result must_tail vs = Enter f vs result must_tail
named_call c w None (Some d) ty result must_tail vs = observed c w d ty result (words_of vs)
named_call c w None None ty result must_tail vs = Stuck Cause.Call

abbrev pub same_result : Option Ty → Option Ty → Bool
same_result None None = true
same_result (Some t) (Some u) = same_type t u
same_result _ _ = false

abbrev pub fits_params : List Arg → List Param → Bool
fits_params [] [] = true
fits_params (a ∷ args) (p ∷ params) = same_type a.ty p.ty && fits_params args params
fits_params _ _ = false

abbrev pub fits_function : Option Ty → List Arg → Option Function → Bool
fits_function ty args None = false
fits_function ty args (Some f) = same_result ty f.result && fits_params args f.params

-- a call through a pointer needs a defined function of the call's type
abbrev pub indirect_call : Context → Value → Option Ty → Option ℕ → Bool → List Arg → List Value → Action
indirect_call c (Value.Ptr (Pointer.Func f)) ty result must_tail args vs =
    if fits_function ty args (slice_get c.code.functions f) then Enter f vs result must_tail else Stuck Cause.Call
indirect_call c _ ty result must_tail args vs = Stuck Cause.Call

abbrev pub copied_bytes : Context → Work → List Value → Action
copied_bytes c w vs = with_length (nth vs 2) (λ n. done (set_memory w) (copy c.rights w.world.memory (address (nth vs 0)) (address (nth vs 1)) n))

abbrev pub intrinsic_call : Context → Work → Intrinsic → Option ℕ → List Arg → List Value → Action
intrinsic_call c w Intrinsic.LifetimeStart result args vs = Done (set_memory w (on_block start w.world.memory (block_of (nth vs 1))))
intrinsic_call c w Intrinsic.LifetimeEnd result args vs = Done (set_memory w (on_block end w.world.memory (block_of (nth vs 1))))
intrinsic_call c w Intrinsic.MemcpyI64 result args vs = copied_bytes c w vs
intrinsic_call c w Intrinsic.MemcpyI32 result args vs = copied_bytes c w vs
intrinsic_call c w i result args vs = Coro i args result

abbrev pub call : Context → Work → Option ℕ → Bool → Option Ty → Callee → List Arg → List Value → Action
call c w result must_tail ty (Callee.Named n) args vs = named_call c w (function_named c.code n) (declaration_named c.code n) ty result must_tail vs
call c w result must_tail ty (Callee.Allocator a) args vs = allocator_call a w result vs
call c w result must_tail ty (Callee.Intrinsic i) args vs = intrinsic_call c w i result args vs
call c w result must_tail ty (Callee.Local name) args vs = indirect_call c (value_in w.values name) ty result must_tail args vs

-- ---- one instruction

abbrev pub instr_action : Context → Work → Instr → Action
instr_action c w (Instr.Binary name op flags ty a b) =
    done (λ n. set_value w name (value_of n)) (binary op flags (number_at ty (value_at c w ty a)) (number_at ty (value_at c w ty b)))
instr_action c w (Instr.Icmp name pred ty a b) = compared c w name pred ty (value_at c w ty a) (value_at c w ty b)
instr_action c w (Instr.Select name x a b) =
    Done (set_value w name (chosen (value_at c w (int 1) x) (arg_value c.code w.values a) (arg_value c.code w.values b)))
instr_action c w (Instr.Cast name op nneg arg to) =
    Done (set_value w name (cast_to op nneg (number_at arg.ty (arg_value c.code w.values arg)) to))
instr_action c w (Instr.Alloca name ty align) = if_alignment align (alloca c w name (size_of c.code ty) align)
instr_action c w (Instr.Load name ty p align) =
    if_alignment align (done (set_value w name) (load c.rights w.world.memory (address (value_at c w ptr p)) (access_of ty) align))
instr_action c w (Instr.Store arg p align) =
    let what = access_of arg.ty in
    let v = stored what (arg_value c.code w.values arg) in
    if_alignment align (done (set_memory w) (store c.rights w.world.memory (address (value_at c w ptr p)) v what align))
instr_action c w (Instr.Gep name inbounds ty base indices) =
    Done (set_value w name (element w.world.memory inbounds (value_at c w ptr base) (distance c.code ty (indices_of c.code w.values indices))))
instr_action c w (Instr.Call result must_tail ty callee args) = call c w result must_tail ty callee args (arg_values c.code w.values args)

-- ---- terminators

abbrev pub branch : Value → ℕ → ℕ → Action
branch (Value.Int x) a b = GoTo (if x.bits == 1 then a else b)
branch Value.Poison a b = Stuck Cause.Poison
branch (Value.Ptr p) a b = Stuck Cause.Poison

abbrev pub is_word : Word → Value → Bool
is_word x (Value.Int y) = x.bits == y.bits
is_word x Value.Poison = false
is_word x (Value.Ptr p) = false

-- the label of the first case with the value
abbrev pub target_of : Module → Word → ℕ → List Case → ℕ
target_of m x default [] = default
target_of m x default (k ∷ cases) = if is_word x (arg_value m [] k.arg) then k.target else target_of m x default cases

abbrev pub switch : Module → Value → ℕ → List Case → Action
switch m (Value.Int x) default cases = GoTo (target_of m x default cases)
switch m Value.Poison default cases = Stuck Cause.Poison
switch m (Value.Ptr p) default cases = Stuck Cause.Poison

abbrev pub term_action : Context → Work → Terminator → Action
term_action c w (Terminator.Jump label) = GoTo label
term_action c w (Terminator.Branch x a b) = branch (value_at c w (int 1) x) a b
term_action c w (Terminator.Switch arg default cases) = switch c.code (arg_value c.code w.values arg) default cases
term_action c w (Terminator.Ret None) = Return None
term_action c w (Terminator.Ret (Some arg)) = Return (Some (arg_value c.code w.values arg))
term_action c w Terminator.Unreachable = Stuck Cause.Unreachable

-- what comes of the instruction at a place
abbrev pub action_of : Context → Work → Fetched → Action
action_of c w Nowhere = Stuck Cause.Unreachable
action_of c w (AtInstr i) = instr_action c w i
action_of c w (AtTerm t) = term_action c w t

-- ---- entering a block, a function, and leaving it

abbrev pub incoming_from : List Incoming → ℕ → Operand
incoming_from [] label = Operand.Poison
incoming_from (i ∷ rest) label = if i.from == label then i.value else incoming_from rest label

-- the values of the phis where their block is entered from a label, all taken before any is set
abbrev pub phi_values : Module → Env → ℕ → List Phi → List (ℕ × Value)
phi_values m env label phis = map (λ p. (p.result, operand_value m env p.ty (incoming_from p.incoming label))) phis

abbrev pub with_all : Env → List (ℕ × Value) → Env
with_all env [] = env
with_all env (p ∷ ps) = with_all (with_value env p.0 p.1) ps

-- the values after the block is entered from a label
abbrev pub values_in : Module → Option Block → ℕ → Env → Env
values_in m b label env = with_all env (phi_values m env label (phis_of b))

-- the values of a function at its entry
abbrev pub with_params : Env → List Param → List Value → Env
with_params env [] vs = env
with_params env (p ∷ params) [] = env
with_params env (p ∷ params) (v ∷ vs) = with_params (with_value env p.name v) params vs

abbrev pub entry_values : Function → List Value → Env
entry_values f args = with_params (replicate (length f.names) None) f.params args

-- the slots die
abbrev pub without_slots : List MemoryBlock → List Slot → List MemoryBlock
without_slots memory [] = memory
without_slots memory (s ∷ slots) = without_slots (killed memory s.block) slots

-- what a deallocator leaves of the memory where no instance is concerned
abbrev pub deallocated : List MemoryBlock → Value → Result (List MemoryBlock) Cause
deallocated memory (Value.Ptr Pointer.Null) = Ok memory
deallocated memory p = kill memory p Kind.Allocator

-- the outcome of the entry's return
abbrev pub outcome_of : Option Value → Result Outcome Cause
outcome_of None = Ok (Outcome.Returned None)
outcome_of (Some (Value.Int x)) = Ok (Outcome.Returned (Some x))
outcome_of (Some Value.Poison) = Err Cause.Poison
outcome_of (Some (Value.Ptr p)) = Err Cause.Poison

-- ---- the start

-- a global's block, with its contents stored
abbrev pub global_block : Module → GlobalItem → MemoryBlock
global_block m g =
    let what = access_of g.ty in
    let value = stored what (operand_value m [] g.ty g.init) in
    record {
      size = access_bytes what;
      align = if is_alignment g.align then g.align else 1;
      kind = if g.constant then Kind.Constant else Kind.Global;
      life = Life.Live;
      owned = None;
      bytes = encode (access_bytes what) value;
    }

-- the globals' blocks, in the order of the text, with their contents stored
abbrev pub first_world : Module → World
first_world m = record { memory = map (global_block m) m.globals; events = []; answers_used = 0; allocs = 0 }
