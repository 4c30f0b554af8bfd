-- What a step reads of its activation's values, and what it sets.
use Rattle.std.specs.Prelude.{ℕ, pred, Bool, false, List, Some, None, Option, ◌||◌, ◌==◌}
use Rattle.ir_paths.specs.ir_model.Names.{is_local}
use Rattle.ir_paths.specs.ir_model.declared.instr.Instr.{Instr}
use Rattle.ir_paths.specs.ir_model.declared.operand.Allocator.{Allocator}
use Rattle.ir_paths.specs.ir_model.declared.operand.Arg.{Arg}
use Rattle.ir_paths.specs.ir_model.declared.operand.Callee.{Callee}
use Rattle.ir_paths.specs.ir_model.declared.operand.Intrinsic.{Intrinsic}
use Rattle.ir_paths.specs.Slots.{is_in_args, occurs_in_term}
use Rattle.ir_paths.specs.Windows.{operand_at}
use Rattle.run_step.specs.Step.{AtInstr, AtTerm, Fetched, Nowhere}

-- ---- the operands whose values a step looks at, so that no token is ever read

abbrev pub reads_intrinsic : ℕ → Intrinsic → List Arg → Bool
reads_intrinsic v Intrinsic.CoroBegin args = is_local v (operand_at args 1)
reads_intrinsic v Intrinsic.CoroResume args = is_local v (operand_at args 0)
reads_intrinsic v Intrinsic.CoroDestroy args = is_local v (operand_at args 0)
reads_intrinsic v Intrinsic.CoroDone args = is_local v (operand_at args 0)
reads_intrinsic v Intrinsic.CoroPromise args = is_local v (operand_at args 0)
reads_intrinsic v Intrinsic.LifetimeStart args = is_in_args v args
reads_intrinsic v Intrinsic.LifetimeEnd args = is_in_args v args
reads_intrinsic v Intrinsic.MemcpyI64 args = is_in_args v args
reads_intrinsic v Intrinsic.MemcpyI32 args = is_in_args v args
reads_intrinsic v _ args = false

abbrev pub reads_call : ℕ → Callee → List Arg → Bool
reads_call v (Callee.Named n) args = is_in_args v args
reads_call v (Callee.Allocator a) args = is_in_args v args
reads_call v (Callee.Intrinsic i) args = reads_intrinsic v i args
reads_call v (Callee.Local f) args = (v == f) || is_in_args v args

abbrev pub reads : ℕ → Instr → Bool
reads v (Instr.Binary name op flags ty a b) = is_local v a || is_local v b
reads v (Instr.Icmp name pred ty a b) = is_local v a || is_local v b
reads v (Instr.Select name x a b) = is_local v x || (is_local v a.value || is_local v b.value)
reads v (Instr.Cast name op nneg arg to) = is_local v arg.value
reads v (Instr.Alloca name ty align) = false
reads v (Instr.Load name ty p align) = is_local v p
reads v (Instr.Store arg p align) = is_local v arg.value || is_local v p
reads v (Instr.Gep name inbounds ty base indices) = is_local v base || is_in_args v indices
reads v (Instr.Call result must_tail ty callee args) = reads_call v callee args

abbrev pub reads_at : ℕ → Fetched → Bool
reads_at v Nowhere = false
reads_at v (AtInstr i) = reads v i
reads_at v (AtTerm t) = occurs_in_term v t

-- ---- the name whose value a step sets, wherever it goes on

abbrev pub given_by_intrinsic : Intrinsic → Option ℕ → Option ℕ
given_by_intrinsic Intrinsic.CoroSizeI32 result = result
given_by_intrinsic Intrinsic.CoroSizeI64 result = result
given_by_intrinsic Intrinsic.CoroAlignI32 result = result
given_by_intrinsic Intrinsic.CoroAlignI64 result = result
given_by_intrinsic Intrinsic.CoroAlloc result = result
given_by_intrinsic Intrinsic.CoroBegin result = result
given_by_intrinsic Intrinsic.CoroFree result = result
given_by_intrinsic Intrinsic.CoroFrame result = result
given_by_intrinsic Intrinsic.CoroSuspend result = result
given_by_intrinsic Intrinsic.CoroDone result = result
given_by_intrinsic Intrinsic.CoroPromise result = result
given_by_intrinsic _ result = None

abbrev pub given_by_allocator : Allocator → Option ℕ → Option ℕ
given_by_allocator Allocator.Malloc result = result
given_by_allocator Allocator.Znwm result = result
given_by_allocator _ result = None

abbrev pub given_by_call : Callee → Option ℕ → Option ℕ
given_by_call (Callee.Named n) result = result
given_by_call (Callee.Allocator a) result = given_by_allocator a result
given_by_call (Callee.Intrinsic i) result = given_by_intrinsic i result
given_by_call (Callee.Local f) result = result

abbrev pub given_by : Instr → Option ℕ
given_by (Instr.Binary name op flags ty a b) = Some name
given_by (Instr.Icmp name pred ty a b) = Some name
given_by (Instr.Select name x a b) = Some name
given_by (Instr.Cast name op nneg arg to) = Some name
given_by (Instr.Alloca name ty align) = Some name
given_by (Instr.Load name ty p align) = Some name
given_by (Instr.Store arg p align) = None
given_by (Instr.Gep name inbounds ty base indices) = Some name
given_by (Instr.Call result must_tail ty callee args) = given_by_call callee result
