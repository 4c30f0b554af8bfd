-- Operands and their values.
use Rattle.std.specs.Prelude.{ℕ, min, Bool, true, false, not, List, [], map, length, ℤ, nat_lt, slice_get, slice_set, Some, None, Option, unwrap_or, ◌+◌, ◌-◌, ◌*◌, ◌%◌, ◌^◌, ◌&&◌, ◌∷◌, if◌then◌else◌, ◌==◌}
use Rattle.run_memory.specs.Memory.{is_within}
use Rattle.run_memory.specs.Pointers.{moved, offset_of}
use Rattle.run_memory.specs.declared.block.MemoryBlock.{MemoryBlock}
use Rattle.run_memory.specs.declared.pointer.Access.{Access}
use Rattle.run_memory.specs.declared.pointer.Offset.{Offset}
use Rattle.run_memory.specs.declared.pointer.Pointer.{Pointer}
use Rattle.run_memory.specs.declared.pointer.Value.{Value}
use Rattle.ir_paths.specs.ir_base.declared.name.Name.{Name}
use Rattle.ir_paths.specs.ir_base.declared.outcome.Word.{Word}
use Rattle.run_memory.specs.run_ints.Numbers.{bits_of, signed_of, truth, word_of}
use Rattle.run_memory.specs.run_ints.declared.num.Num.{Num}
use Rattle.ir_paths.specs.ir_model.Layout.{field_offset, field_type, size_of, unnamed}
use Rattle.ir_paths.specs.ir_model.Names.{declaration_named, function_named, global_named}
use Rattle.ir_paths.specs.ir_model.Ty.{Ty, array, int, structure}
use Rattle.ir_paths.specs.ir_model.declared.module.Module.{Module}
use Rattle.ir_paths.specs.ir_model.declared.operand.Arg.{Arg}
use Rattle.ir_paths.specs.ir_model.declared.operand.Operand.{Operand}

-- the values of an activation, by the names of its function: none where a name has no value yet
abbrev pub Env : Type 0
Env = List (Option Value)

abbrev pub value_or_poison : Option (Option Value) → Value
value_or_poison None = Value.Poison
value_or_poison (Some None) = Value.Poison
value_or_poison (Some (Some v)) = v

abbrev pub value_in : Env → ℕ → Value
value_in env name = value_or_poison (slice_get env name)

abbrev pub with_value : Env → ℕ → Value → Env
with_value env name v = slice_set env name (Some v)

abbrev pub with_result : Env → Option ℕ → Value → Env
with_result env None v = env
with_result env (Some name) v = with_value env name v

abbrev pub integer : ℕ → ℤ → Value
integer w z = Value.Int (word_of w z)

abbrev pub truth_value : Bool → Value
truth_value b = Value.Int (truth b)

abbrev pub literal : Ty → ℤ → Value
literal (int w) z = integer w z
literal _ z = Value.Poison

abbrev pub pointer_to : ℕ → Value
pointer_to b = Value.Ptr (Pointer.At b (offset_of 0))

-- the address of a defined function, of a global, whose block has the global's number, or of a declared function
abbrev pub address_from : Module → Option ℕ → Option ℕ → Option ℕ → Value
address_from m (Some f) g d = Value.Ptr (Pointer.Func f)
address_from m None (Some g) d = pointer_to g
address_from m None None (Some d) = Value.Ptr (Pointer.Func (length m.functions + d))
address_from m None None None = Value.Poison

abbrev pub address_of : Module → Name → Value
address_of m n = address_from m (function_named m n) (global_named m n) (declaration_named m n)

abbrev pub operand_value : Module → Env → Ty → Operand → Value
operand_value m env ty (Operand.Local name) = value_in env name
operand_value m env ty (Operand.Global n) = address_of m n
operand_value m env ty (Operand.Number z) = literal ty z
operand_value m env ty Operand.True = truth_value true
operand_value m env ty Operand.False = truth_value false
operand_value m env ty Operand.Null = Value.Ptr Pointer.Null
operand_value m env ty Operand.None = Value.Poison
operand_value m env ty Operand.Poison = Value.Poison

abbrev pub arg_value : Module → Env → Arg → Value
arg_value m env arg = operand_value m env arg.ty arg.value

abbrev pub arg_values : Module → Env → List Arg → List Value
arg_values m env args = map (arg_value m env) args

-- the value of the argument at a position
abbrev pub nth : List Value → ℕ → Value
nth vs i = unwrap_or (slice_get vs i) Value.Poison

-- the word has a width, and its bits are below 2 to it
abbrev pub is_word_of : ℕ → Word → Bool
is_word_of w x = (x.width == w) && nat_lt x.bits (2 ^ w)

-- a value as a number of a width, which nothing but such a word is
abbrev pub number_of_width : ℕ → Value → Num
number_of_width w Value.Poison = Num.Poison
number_of_width w (Value.Int x) = if is_word_of w x then Num.Is x else Num.Poison
number_of_width w (Value.Ptr p) = Num.Poison

-- a value as a number of a type
abbrev pub number_at : Ty → Value → Num
number_at (int w) v = number_of_width w v
number_at _ v = Num.Poison

-- a value as an address, which nothing but a pointer is
abbrev pub address : Value → Value
address (Value.Ptr p) = Value.Ptr p
address _ = Value.Poison

abbrev pub value_of : Num → Value
value_of Num.Poison = Value.Poison
value_of (Num.Is w) = Value.Int w

-- what a load or a store of the type takes
abbrev pub access_of : Ty → Access
access_of (int w) = Access.Int w
access_of _ = Access.Ptr

-- a value as what a store takes
abbrev pub stored : Access → Value → Value
stored (Access.Int w) v = value_of (number_of_width w v)
stored Access.Ptr v = address v

-- ---- getelementptr: distances are sums that wrap in 64 bits

-- an index with its sign, none where it is poison
abbrev pub index_of : Num → Option ℕ
index_of Num.Poison = None
index_of (Num.Is x) = Some (bits_of 64 (signed_of x.width x.bits))

abbrev pub indices_of : Module → Env → List Arg → List (Option ℕ)
indices_of m env args = map (λ a. index_of (number_at a.ty (arg_value m env a))) args

abbrev pub plus : Option ℕ → Option ℕ → Option ℕ
plus None y = None
plus (Some x) None = None
plus (Some x) (Some y) = Some ((x + y) % 2 ^ 64)

abbrev pub times : ℕ → Option ℕ → Option ℕ
times n None = None
times n (Some i) = Some ((n * i) % 2 ^ 64)

-- a number of bytes, 2^64 - 1 where it is more
abbrev pub capped : ℕ → ℕ
capped n = min n (2 ^ 64 - 1)

-- where one index leads inside a type that is no name: how far, and to which type
abbrev pub part_at : Module → Ty → Option ℕ → Option ℕ × Ty
part_at m (array n t) i = (times (capped (size_of m t)) i, t)
part_at m (structure ts) i = (Some (capped (field_offset m ts (unwrap_or i 0))), field_type ts (unwrap_or i 0))
part_at m t i = (None, t)

-- the distance so far, and that of further indices inside a type
abbrev pub inner_distance : Module → Ty → Option ℕ → List (Option ℕ) → Option ℕ
inner_distance m ty d [] = d
inner_distance m ty d (i ∷ is) = inner_distance m (part_at m (unnamed m ty) i).1 (plus d (part_at m (unnamed m ty) i).0) is

-- the distance of a getelementptr, none where an index is poison
abbrev pub distance : Module → Ty → List (Option ℕ) → Option ℕ
distance m ty [] = Some 0
distance m ty (i ∷ is) = inner_distance m ty (times (capped (size_of m ty)) i) is

abbrev pub is_in_bounds : Option MemoryBlock → Offset → Bool
is_in_bounds None offset = false
is_in_bounds (Some x) offset = is_within x offset

-- a pointer moved by a distance
abbrev pub moved_by : List MemoryBlock → Bool → Value → ℕ → Value
moved_by memory inbounds (Value.Ptr Pointer.Null) d = if d == 0 then Value.Ptr Pointer.Null else Value.Poison
moved_by memory inbounds (Value.Ptr (Pointer.At b o)) d =
    if inbounds && not (is_in_bounds (slice_get memory b) (moved o d)) then Value.Poison
    else Value.Ptr (Pointer.At b (moved o d))
moved_by memory inbounds (Value.Ptr (Pointer.Func f)) d = Value.Poison
moved_by memory inbounds Value.Poison d = Value.Poison
moved_by memory inbounds (Value.Int w) d = Value.Poison

abbrev pub element : List MemoryBlock → Bool → Value → Option ℕ → Value
element memory inbounds p None = Value.Poison
element memory inbounds p (Some d) = moved_by memory inbounds p d
