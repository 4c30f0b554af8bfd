-- The one table of what the intrinsics and the allocators take and give.
use Rattle.std.specs.Prelude.{ℕ, Bool, true, false, List, [], Some, None, Option, ◌||◌, ◌∷◌, ◌==◌, ℤ, pos, negsuc}
use Rattle.ir_model.specs.Ty.{Ty, int, ptr, token}
use Rattle.ir_model.specs.declared.operand.Allocator.{Allocator}
use Rattle.ir_model.specs.declared.operand.Intrinsic.{Intrinsic}
use Rattle.ir_model.specs.declared.operand.Operand.{Operand}
use Rattle.rule_types.specs.declared.wants.Basic.{Basic}
use Rattle.rule_types.specs.declared.wants.Demand.{Demand}
use Rattle.rule_types.specs.declared.wants.Wanted.{Wanted}

abbrev pub want : Basic → Demand → Wanted
want b d = record { ty = b; value = d }

abbrev pub any : Basic → Wanted
any b = want b Demand.Any

abbrev pub intrinsic_result : Intrinsic → Option Basic
intrinsic_result Intrinsic.CoroId = Some Basic.Token
intrinsic_result Intrinsic.CoroSizeI32 = Some Basic.I32
intrinsic_result Intrinsic.CoroSizeI64 = Some Basic.I64
intrinsic_result Intrinsic.CoroAlignI32 = Some Basic.I32
intrinsic_result Intrinsic.CoroAlignI64 = Some Basic.I64
intrinsic_result Intrinsic.CoroAlloc = Some Basic.I1
intrinsic_result Intrinsic.CoroBegin = Some Basic.Ptr
intrinsic_result Intrinsic.CoroFree = Some Basic.Ptr
intrinsic_result Intrinsic.CoroFrame = Some Basic.Ptr
intrinsic_result Intrinsic.CoroSave = Some Basic.Token
intrinsic_result Intrinsic.CoroSuspend = Some Basic.I8
intrinsic_result Intrinsic.CoroEnd = Some Basic.I1
intrinsic_result Intrinsic.CoroResume = None
intrinsic_result Intrinsic.CoroDestroy = None
intrinsic_result Intrinsic.CoroDone = Some Basic.I1
intrinsic_result Intrinsic.CoroPromise = Some Basic.Ptr
intrinsic_result Intrinsic.LifetimeStart = None
intrinsic_result Intrinsic.LifetimeEnd = None
intrinsic_result Intrinsic.MemcpyI64 = None
intrinsic_result Intrinsic.MemcpyI32 = None

abbrev pub intrinsic_params : Intrinsic → List Wanted
intrinsic_params Intrinsic.CoroId = want Basic.I32 Demand.AlignOrZero ∷ any Basic.Ptr ∷ want Basic.Ptr Demand.Null ∷ want Basic.Ptr Demand.Null ∷ []
intrinsic_params Intrinsic.CoroSizeI32 = []
intrinsic_params Intrinsic.CoroSizeI64 = []
intrinsic_params Intrinsic.CoroAlignI32 = []
intrinsic_params Intrinsic.CoroAlignI64 = []
intrinsic_params Intrinsic.CoroAlloc = any Basic.Token ∷ []
intrinsic_params Intrinsic.CoroBegin = any Basic.Token ∷ any Basic.Ptr ∷ []
intrinsic_params Intrinsic.CoroFree = any Basic.Token ∷ any Basic.Ptr ∷ []
intrinsic_params Intrinsic.CoroFrame = []
intrinsic_params Intrinsic.CoroSave = any Basic.Ptr ∷ []
intrinsic_params Intrinsic.CoroSuspend = any Basic.Token ∷ want Basic.I1 Demand.Flag ∷ []
intrinsic_params Intrinsic.CoroEnd = any Basic.Ptr ∷ want Basic.I1 Demand.False ∷ want Basic.Token Demand.None ∷ []
intrinsic_params Intrinsic.CoroResume = any Basic.Ptr ∷ []
intrinsic_params Intrinsic.CoroDestroy = any Basic.Ptr ∷ []
intrinsic_params Intrinsic.CoroDone = any Basic.Ptr ∷ []
intrinsic_params Intrinsic.CoroPromise = any Basic.Ptr ∷ want Basic.I32 Demand.Align ∷ want Basic.I1 Demand.Flag ∷ []
intrinsic_params Intrinsic.LifetimeStart = want Basic.I64 Demand.Number ∷ any Basic.Ptr ∷ []
intrinsic_params Intrinsic.LifetimeEnd = want Basic.I64 Demand.Number ∷ any Basic.Ptr ∷ []
intrinsic_params Intrinsic.MemcpyI64 = any Basic.Ptr ∷ any Basic.Ptr ∷ any Basic.I64 ∷ want Basic.I1 Demand.False ∷ []
intrinsic_params Intrinsic.MemcpyI32 = any Basic.Ptr ∷ any Basic.Ptr ∷ any Basic.I32 ∷ want Basic.I1 Demand.False ∷ []

abbrev pub allocator_result : Allocator → Option Basic
allocator_result Allocator.Malloc = Some Basic.Ptr
allocator_result Allocator.Znwm = Some Basic.Ptr
allocator_result Allocator.Free = None
allocator_result Allocator.ZdlPv = None
allocator_result Allocator.ZdlPvm = None

abbrev pub allocator_params : Allocator → List Wanted
allocator_params Allocator.Malloc = any Basic.Size ∷ []
allocator_params Allocator.Znwm = any Basic.I64 ∷ []
allocator_params Allocator.Free = any Basic.Ptr ∷ []
allocator_params Allocator.ZdlPv = any Basic.Ptr ∷ []
allocator_params Allocator.ZdlPvm = any Basic.Ptr ∷ any Basic.I64 ∷ []

abbrev pub is_int : ℕ → Ty → Bool
is_int w (int v) = v == w
is_int w _ = false

abbrev pub is_ptr : Ty → Bool
is_ptr ptr = true
is_ptr _ = false

abbrev pub is_token : Ty → Bool
is_token token = true
is_token _ = false

-- a size is an i32 or an i64
abbrev pub is_basic : Basic → Ty → Bool
is_basic Basic.Token t = is_token t
is_basic Basic.Ptr t = is_ptr t
is_basic Basic.I1 t = is_int 1 t
is_basic Basic.I8 t = is_int 8 t
is_basic Basic.I32 t = is_int 32 t
is_basic Basic.I64 t = is_int 64 t
is_basic Basic.Size t = is_int 32 t || is_int 64 t

abbrev pub is_alignment : ℤ → Bool
is_alignment (pos n) = (n == 1) || ((n == 2) || ((n == 4) || ((n == 8) || (n == 16))))
is_alignment (negsuc n) = false

abbrev pub is_zero : ℤ → Bool
is_zero (pos n) = n == 0
is_zero (negsuc n) = false

-- any operand; a literal, of an i1 also `true` and `false`; an alignment; false, also as 0; null; the token none
abbrev pub meets : Demand → Operand → Bool
meets Demand.Any x = true
meets Demand.Number (Operand.Number n) = true
meets Demand.Flag (Operand.Number n) = true
meets Demand.Flag Operand.True = true
meets Demand.Flag Operand.False = true
meets Demand.Align (Operand.Number n) = is_alignment n
meets Demand.AlignOrZero (Operand.Number n) = is_alignment n || is_zero n
meets Demand.False (Operand.Number n) = is_zero n
meets Demand.False Operand.False = true
meets Demand.Null Operand.Null = true
meets Demand.None Operand.None = true
meets _ _ = false
