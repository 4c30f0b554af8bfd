-- What stands in the place of a call of a coro intrinsic.
use Rattle.std.specs.Prelude.{◌≡◌, ◌⊎◌, ℕ, Bool, true, List, length, ℤ, pos, negsuc, Some, Option, ◌+◌, ◌<◌}
use Rattle.ir_laws.specs.ir_base.declared.ops.BinOp.{BinOp}
use Rattle.ir_laws.specs.ir_base.declared.ops.Pred.{Pred}
use Rattle.ir_laws.specs.flow_solver.Paths.{IsListed}
use Rattle.pass_intrinsics.specs.Lowered.{address, call_pointer, load_pointer, no_flags, number_arg, store_pointer, truth_of}
use Rattle.pass_intrinsics.specs.Shapes.{given_name, index_bytes}
use Rattle.pass_intrinsics.specs.declared.shape.Part.{Part}
use Rattle.pass_intrinsics.specs.declared.shape.Shape.{Shape}
use Rattle.ir_laws.specs.ir_model.Ty.{Ty, int, ptr}
use Rattle.ir_laws.specs.ir_model.TypeView.{bits_of}
use Rattle.ir_laws.specs.ir_model.declared.instr.Instr.{Instr}
use Rattle.ir_laws.specs.ir_model.declared.operand.Arg.{Arg}
use Rattle.ir_laws.specs.ir_model.declared.operand.Callee.{Callee}
use Rattle.ir_laws.specs.ir_model.declared.operand.Intrinsic.{Intrinsic}
use Rattle.ir_laws.specs.ir_model.declared.operand.Operand.{Operand}
use Rattle.rule_locals.specs.Intrinsics.{is_inner}
use Rattle.rule_values.specs.Kinds.{result_kind}
use Rattle.rule_values.specs.declared.kinds.Kind.{Kind}

-- A pointer that is used there: one that the call was given, the frame address, that which a ramp is given, null, or a new name.
pub data IsPointer (s : Shape) (part : Part) (n : ℕ) (x : Intrinsic) (args : List Arg) : Operand → Type 0 where
  Given : (a : Arg) → IsListed a args → a.ty ≡ ptr → IsPointer s part n x args a.value
  Frame : is_inner x ≡ true → IsPointer s part n x args (Operand.Local s.begin)
  OfParameter : part ≡ Part.GivenRamp → is_inner x ≡ true → IsPointer s part n x args (Operand.Local (given_name s))
  NoFrame : IsPointer s part n x args Operand.Null
  First : IsPointer s part n x args (Operand.Local n)
  Second : IsPointer s part n x args (Operand.Local (n + 1))

-- A name for an address: that of the call's result, of the frame where the call is begin, or a new one.
pub data IsAddressName (s : Shape) (n : ℕ) (x : Intrinsic) (r : Option ℕ) (ty : Option Ty) : ℕ → Type 0 where
  OfResult : (v : ℕ) → r ≡ Some v → result_kind (Callee.Intrinsic x) ty ≡ Kind.Ptr → IsAddressName s n x r ty v
  OfFrame : x ≡ Intrinsic.CoroBegin → IsAddressName s n x r ty s.begin
  New : IsAddressName s n x r ty n

-- distances: of fields, and of a promise before its frame
pub data IsDistance (s : Shape) : ℤ → Type 0 where
  Nothing : IsDistance s (pos 0)
  OfDestroy : IsDistance s (pos 8)
  OfPromise : IsDistance s (pos 16)
  BackToFrame : IsDistance s (negsuc 15)
  OfIndex : IsDistance s (pos s.index)

-- An instruction of a part in the place of a call of an intrinsic with a result, a type and arguments; n is the next new name.
pub data Replaces (s : Shape) (part : Part) (n : ℕ) (x : Intrinsic) (r : Option ℕ) (ty : Option Ty) (args : List Arg) : Instr → Type 0 where
  Number : (v w k : ℕ) → r ≡ Some v → result_kind (Callee.Intrinsic x) ty ≡ Kind.Int w → (w ≡ 32) ⊎ (w ≡ 64) → (k ≡ s.size) ⊎ (k ≡ s.align) → Replaces s part n x r ty args (Instr.Binary v BinOp.Add no_flags (int w) (Operand.Number (pos k)) (Operand.Number (pos 0)))
  Truth : (v : ℕ) (b : Bool) → r ≡ Some v → result_kind (Callee.Intrinsic x) ty ≡ Kind.Int 1 → Replaces s part n x r ty args (Instr.Binary v BinOp.And no_flags (int 1) (truth_of b) (truth_of b))
  Address : (v : ℕ) (p : Operand) (z : ℤ) → IsAddressName s n x r ty v → IsPointer s part n x args p → IsDistance s z → Replaces s part n x r ty args (address v p z)
  StoresResume : (p : Operand) → is_inner x ≡ true → IsPointer s part n x args p → Replaces s part n x r ty args (store_pointer (Operand.Global s.resume_name) p)
  StoresDestroy : (p : Operand) → is_inner x ≡ true → IsPointer s part n x args p → Replaces s part n x r ty args (store_pointer (Operand.Global s.destroy_name) p)
  StoresCleanup : (p : Operand) → part ≡ Part.GivenRamp → is_inner x ≡ true → IsPointer s part n x args p → Replaces s part n x r ty args (store_pointer (Operand.Global s.cleanup_name) p)
  StoresNull : (p : Operand) → IsPointer s part n x args p → Replaces s part n x r ty args (store_pointer Operand.Null p)
  StoresIndex : (j : ℕ) (p : Operand) → j < length s.suspends → IsPointer s part n x args p → Replaces s part n x r ty args (Instr.Store (number_arg (bits_of s.width) (pos j)) p (index_bytes s.width))
  Loads : (v : ℕ) (p : Operand) → (v ≡ n) ⊎ (v ≡ n + 1) → IsPointer s part n x args p → Replaces s part n x r ty args (load_pointer v p)
  Calls : (v : ℕ) (p : Operand) → (v ≡ n) ⊎ (v ≡ n + 1) → IsPointer s part n x args p → Replaces s part n x r ty args (call_pointer v p)
  Tests : (v : ℕ) → r ≡ Some v → result_kind (Callee.Intrinsic x) ty ≡ Kind.Int 1 → Replaces s part n x r ty args (Instr.Icmp v Pred.Eq ptr (Operand.Local n) Operand.Null)
