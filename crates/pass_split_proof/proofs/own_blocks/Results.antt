-- The names that instructions set are their results.
use Rattle.std.proofs.Common.{◌≡◌, ℕ, Option, Some}
use Rattle.pass_proofs.specs.ir_model.Ty.{Ty}
use Rattle.pass_proofs.specs.ir_model.declared.instr.Instr.{Instr}
use Rattle.pass_proofs.specs.ir_model.declared.operand.Allocator.{Allocator}
use Rattle.pass_proofs.specs.ir_model.declared.operand.Callee.{Callee}
use Rattle.pass_proofs.specs.ir_model.declared.operand.Intrinsic.{Intrinsic}
use Rattle.pass_proofs.specs.pass_kept_proof.Needed.{given_by, given_by_allocator, given_by_call, given_by_intrinsic}
use Rattle.pass_proofs.specs.run_laws.changed.Changed.{result_of}

-- what gives a name has it as its result
given_intrinsic : (i : Intrinsic) (result : Option ℕ) (name : ℕ) → given_by_intrinsic i result ≡ Some name
    → result ≡ Some name
given_intrinsic Intrinsic.CoroSizeI32 result name e = e
given_intrinsic Intrinsic.CoroSizeI64 result name e = e
given_intrinsic Intrinsic.CoroAlignI32 result name e = e
given_intrinsic Intrinsic.CoroAlignI64 result name e = e
given_intrinsic Intrinsic.CoroAlloc result name e = e
given_intrinsic Intrinsic.CoroBegin result name e = e
given_intrinsic Intrinsic.CoroFree result name e = e
given_intrinsic Intrinsic.CoroFrame result name e = e
given_intrinsic Intrinsic.CoroSuspend result name e = e
given_intrinsic Intrinsic.CoroEnd result name e = e
given_intrinsic Intrinsic.CoroDone result name e = e
given_intrinsic Intrinsic.CoroPromise result name e = e
given_intrinsic _ result name e = absurd (cc)

given_allocator : (a : Allocator) (result : Option ℕ) (name : ℕ) → given_by_allocator a result ≡ Some name
    → result ≡ Some name
given_allocator Allocator.Malloc result name e = e
given_allocator Allocator.Znwm result name e = e
given_allocator _ result name e = absurd (cc)

given_called : (callee : Callee) (ty : Option Ty) (result : Option ℕ) (name : ℕ)
    → given_by_call callee ty result ≡ Some name → result ≡ Some name
given_called (Callee.Named n) ty result name e = e
given_called (Callee.Allocator a) ty result name e = given_allocator a result name e
given_called (Callee.Intrinsic i) ty result name e = given_intrinsic i result name e
given_called (Callee.Local v) ty result name e = e

pub given_result : (i : Instr) (name : ℕ) → given_by i ≡ Some name → result_of i ≡ Some name
given_result (Instr.Binary r op flags ty a b) name e = e
given_result (Instr.Icmp r pred ty a b) name e = e
given_result (Instr.Select r x a b) name e = e
given_result (Instr.Cast r op nneg arg to) name e = e
given_result (Instr.Alloca r ty align) name e = e
given_result (Instr.Load r ty p align) name e = e
given_result (Instr.Store arg p align) name e = absurd (cc)
given_result (Instr.Gep r inbounds ty base indices) name e = e
given_result (Instr.Call r must_tail ty callee args) name e = given_called callee ty r name e
