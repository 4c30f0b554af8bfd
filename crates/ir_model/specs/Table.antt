-- The one table of the names of intrinsics and allocators.
use Rattle.std.specs.Prelude.{ℕ, List, [], ◌∷◌, codes, Option, Some, None, if◌then◌else◌}
use Rattle.ir_base.specs.declared.name.Name.{Name}
use Rattle.ir_model.specs.Names.{same_text}
use Rattle.ir_model.specs.declared.operand.Allocator.{Allocator}
use Rattle.ir_model.specs.declared.operand.Callee.{Callee}
use Rattle.ir_model.specs.declared.operand.Intrinsic.{Intrinsic}

abbrev pub intrinsic_word : Intrinsic → List ℕ
intrinsic_word Intrinsic.CoroId = codes "llvm.coro.id"
intrinsic_word Intrinsic.CoroSizeI32 = codes "llvm.coro.size.i32"
intrinsic_word Intrinsic.CoroSizeI64 = codes "llvm.coro.size.i64"
intrinsic_word Intrinsic.CoroAlignI32 = codes "llvm.coro.align.i32"
intrinsic_word Intrinsic.CoroAlignI64 = codes "llvm.coro.align.i64"
intrinsic_word Intrinsic.CoroAlloc = codes "llvm.coro.alloc"
intrinsic_word Intrinsic.CoroBegin = codes "llvm.coro.begin"
intrinsic_word Intrinsic.CoroFree = codes "llvm.coro.free"
intrinsic_word Intrinsic.CoroFrame = codes "llvm.coro.frame"
intrinsic_word Intrinsic.CoroSave = codes "llvm.coro.save"
intrinsic_word Intrinsic.CoroSuspend = codes "llvm.coro.suspend"
intrinsic_word Intrinsic.CoroEnd = codes "llvm.coro.end"
intrinsic_word Intrinsic.CoroResume = codes "llvm.coro.resume"
intrinsic_word Intrinsic.CoroDestroy = codes "llvm.coro.destroy"
intrinsic_word Intrinsic.CoroDone = codes "llvm.coro.done"
intrinsic_word Intrinsic.CoroPromise = codes "llvm.coro.promise"
intrinsic_word Intrinsic.LifetimeStart = codes "llvm.lifetime.start.p0"
intrinsic_word Intrinsic.LifetimeEnd = codes "llvm.lifetime.end.p0"
intrinsic_word Intrinsic.MemcpyI64 = codes "llvm.memcpy.p0.p0.i64"
intrinsic_word Intrinsic.MemcpyI32 = codes "llvm.memcpy.p0.p0.i32"

abbrev pub allocator_word : Allocator → List ℕ
allocator_word Allocator.Malloc = codes "malloc"
allocator_word Allocator.Znwm = codes "_Znwm"
allocator_word Allocator.Free = codes "free"
allocator_word Allocator.ZdlPv = codes "_ZdlPv"
allocator_word Allocator.ZdlPvm = codes "_ZdlPvm"

abbrev pub all_intrinsics : List Intrinsic
all_intrinsics =
    Intrinsic.CoroId ∷ Intrinsic.CoroSizeI32 ∷ Intrinsic.CoroSizeI64 ∷ Intrinsic.CoroAlignI32 ∷ Intrinsic.CoroAlignI64 ∷ Intrinsic.CoroAlloc ∷ Intrinsic.CoroBegin ∷ Intrinsic.CoroFree ∷ Intrinsic.CoroFrame ∷ Intrinsic.CoroSave ∷ Intrinsic.CoroSuspend ∷ Intrinsic.CoroEnd ∷ Intrinsic.CoroResume ∷ Intrinsic.CoroDestroy ∷ Intrinsic.CoroDone ∷ Intrinsic.CoroPromise ∷ Intrinsic.LifetimeStart ∷ Intrinsic.LifetimeEnd ∷ Intrinsic.MemcpyI64 ∷ Intrinsic.MemcpyI32 ∷ []

abbrev pub all_allocators : List Allocator
all_allocators = Allocator.Malloc ∷ Allocator.Znwm ∷ Allocator.Free ∷ Allocator.ZdlPv ∷ Allocator.ZdlPvm ∷ []

-- the intrinsic of the list that is so named
abbrev pub intrinsic_in : List Intrinsic → List ℕ → Option Intrinsic
intrinsic_in [] text = None
intrinsic_in (i ∷ rest) text = if same_text text (intrinsic_word i) then Some i else intrinsic_in rest text

abbrev pub allocator_in : List Allocator → List ℕ → Option Allocator
allocator_in [] text = None
allocator_in (a ∷ rest) text = if same_text text (allocator_word a) then Some a else allocator_in rest text

abbrev pub callee_or : Name → Option Intrinsic → Option Allocator → Callee
callee_or n (Some i) a = Callee.Intrinsic i
callee_or n None (Some a) = Callee.Allocator a
callee_or n None None = Callee.Named n

-- what a name that is called stands for
abbrev pub callee_named : Name → Callee
callee_named (Name.Number n) = Callee.Named (Name.Number n)
callee_named (Name.Text t) = callee_or (Name.Text t) (intrinsic_in all_intrinsics t) (allocator_in all_allocators t)
