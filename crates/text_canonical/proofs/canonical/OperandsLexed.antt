-- The tokens of printed operands.
use Rattle.std.proofs.Common.{◌≡◌, ℕ, suc, true, false, List, [], ◌∷◌, ◌++◌, codes, Option, None, refl}
use Rattle.std.specs.Prelude.{pos, negsuc, Some, slice_get}
use Rattle.ir_base.specs.declared.name.Name.{Name}
use Rattle.ir_model.specs.Table.{allocator_word, intrinsic_word}
use Rattle.ir_model.specs.Ty.{Ty}
use Rattle.ir_model.specs.declared.operand.Allocator.{Allocator}
use Rattle.ir_model.specs.declared.operand.Arg.{Arg}
use Rattle.ir_model.specs.declared.operand.Callee.{Callee}
use Rattle.ir_model.specs.declared.operand.Intrinsic.{Intrinsic}
use Rattle.ir_model.specs.declared.operand.Operand.{Operand}
use Rattle.text_canonical.specs.canonical.Operands.{arg_text, args_text, callee_text, label_text, local_text, more_args_text, operand_text, result_text}
use Rattle.text_canonical.specs.canonical.OperandSymbols.{arg_symbols, args_symbols, callee_symbol, global_symbol, label_symbols, local_symbol, more_args_symbols, operand_symbol, result_symbols}
use Rattle.text_canonical.proofs.canonical.Lexed.{Lexed, empty, global, join, local, negative_number, number, spaced, stops, then}
use Rattle.text_canonical.proofs.canonical.TypesLexed.{type_lexed}
use Rattle.text_canonical.proofs.canonical.WordsLexed.{comma_space, false_lexed, label_word_lexed, none_lexed, null_lexed, poison_lexed, space, true_lexed, void_lexed}

pub local_lexed : (names : List Name) (id : ℕ) → Lexed false (local_text names id) (local_symbol names id ∷ [])
local_lexed names id = local (slice_get names id)

pub label_lexed : (names : List Name) (id : ℕ) → Lexed false (label_text names id) (label_symbols names id)
label_lexed names id = then label_word_lexed (local_lexed names id) refl

pub operand_lexed : (names : List Name) (x : Operand) → Lexed false (operand_text names x) (operand_symbol names x ∷ [])
operand_lexed names (Operand.Local id) = local_lexed names id
operand_lexed names (Operand.Global n) = global n
operand_lexed names (Operand.Number (pos n)) = number n
operand_lexed names (Operand.Number (negsuc n)) = negative_number (suc n)
operand_lexed names Operand.True = true_lexed
operand_lexed names Operand.False = false_lexed
operand_lexed names Operand.Null = null_lexed
operand_lexed names Operand.None = none_lexed
operand_lexed names Operand.Poison = poison_lexed

pub arg_lexed : (names : List Name) (a : Arg) → Lexed false (arg_text names a) (arg_symbols names a)
arg_lexed names a = then (spaced (type_lexed a.ty) space refl) (operand_lexed names a.value) refl

pub more_args_pass : (names : List Name) (args : List Arg) (rest : List ℕ) → stops rest ≡ true → stops (more_args_text names args ++ rest) ≡ true
more_args_pass names [] rest h = h
more_args_pass names (a ∷ args) rest h = refl

pub more_args_lexed : (names : List Name) (args : List Arg) → Lexed false (more_args_text names args) (more_args_symbols names args)
more_args_lexed names [] = empty
more_args_lexed names (a ∷ args) = join (then comma_space (arg_lexed names a) refl) (more_args_lexed names args) (more_args_pass names args)

pub args_lexed : (names : List Name) (args : List Arg) → Lexed false (args_text names args) (args_symbols names args)
args_lexed names [] = empty
args_lexed names (a ∷ args) = join (arg_lexed names a) (more_args_lexed names args) (more_args_pass names args)

allocator_lexed : (a : Allocator) → Lexed false (codes "@" ++ allocator_word a) (global_symbol (Name.Text (allocator_word a)) ∷ [])
allocator_lexed Allocator.Malloc = global (Name.Text (codes "malloc"))
allocator_lexed Allocator.Znwm = global (Name.Text (codes "_Znwm"))
allocator_lexed Allocator.Free = global (Name.Text (codes "free"))
allocator_lexed Allocator.ZdlPv = global (Name.Text (codes "_ZdlPv"))
allocator_lexed Allocator.ZdlPvm = global (Name.Text (codes "_ZdlPvm"))

intrinsic_lexed : (i : Intrinsic) → Lexed false (codes "@" ++ intrinsic_word i) (global_symbol (Name.Text (intrinsic_word i)) ∷ [])
intrinsic_lexed Intrinsic.CoroId = global (Name.Text (codes "llvm.coro.id"))
intrinsic_lexed Intrinsic.CoroSizeI32 = global (Name.Text (codes "llvm.coro.size.i32"))
intrinsic_lexed Intrinsic.CoroSizeI64 = global (Name.Text (codes "llvm.coro.size.i64"))
intrinsic_lexed Intrinsic.CoroAlignI32 = global (Name.Text (codes "llvm.coro.align.i32"))
intrinsic_lexed Intrinsic.CoroAlignI64 = global (Name.Text (codes "llvm.coro.align.i64"))
intrinsic_lexed Intrinsic.CoroAlloc = global (Name.Text (codes "llvm.coro.alloc"))
intrinsic_lexed Intrinsic.CoroBegin = global (Name.Text (codes "llvm.coro.begin"))
intrinsic_lexed Intrinsic.CoroFree = global (Name.Text (codes "llvm.coro.free"))
intrinsic_lexed Intrinsic.CoroFrame = global (Name.Text (codes "llvm.coro.frame"))
intrinsic_lexed Intrinsic.CoroSave = global (Name.Text (codes "llvm.coro.save"))
intrinsic_lexed Intrinsic.CoroSuspend = global (Name.Text (codes "llvm.coro.suspend"))
intrinsic_lexed Intrinsic.CoroEnd = global (Name.Text (codes "llvm.coro.end"))
intrinsic_lexed Intrinsic.CoroResume = global (Name.Text (codes "llvm.coro.resume"))
intrinsic_lexed Intrinsic.CoroDestroy = global (Name.Text (codes "llvm.coro.destroy"))
intrinsic_lexed Intrinsic.CoroDone = global (Name.Text (codes "llvm.coro.done"))
intrinsic_lexed Intrinsic.CoroPromise = global (Name.Text (codes "llvm.coro.promise"))
intrinsic_lexed Intrinsic.LifetimeStart = global (Name.Text (codes "llvm.lifetime.start.p0"))
intrinsic_lexed Intrinsic.LifetimeEnd = global (Name.Text (codes "llvm.lifetime.end.p0"))
intrinsic_lexed Intrinsic.MemcpyI64 = global (Name.Text (codes "llvm.memcpy.p0.p0.i64"))
intrinsic_lexed Intrinsic.MemcpyI32 = global (Name.Text (codes "llvm.memcpy.p0.p0.i32"))

pub callee_lexed : (names : List Name) (c : Callee) → Lexed false (callee_text names c) (callee_symbol names c ∷ [])
callee_lexed names (Callee.Named n) = global n
callee_lexed names (Callee.Allocator a) = allocator_lexed a
callee_lexed names (Callee.Intrinsic i) = intrinsic_lexed i
callee_lexed names (Callee.Local id) = local_lexed names id

pub result_lexed : (t : Option Ty) → Lexed false (result_text t) (result_symbols t)
result_lexed None = void_lexed
result_lexed (Some t) = type_lexed t
