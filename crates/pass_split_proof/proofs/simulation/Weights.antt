-- What steps weigh, and what they have.
use Rattle.std.proofs.Common.{◌≤◌, Bool, true, false, arith}
use Rattle.pass_proofs.specs.ir_model.declared.instr.Instr.{Instr}
use Rattle.pass_proofs.specs.ir_model.declared.operand.Callee.{Callee}
use Rattle.pass_proofs.specs.ir_model.declared.operand.Intrinsic.{Intrinsic}
use Rattle.pass_split_proof.specs.states.Related.{price_of, weight, weight_of_intrinsic}
use Rattle.pass_proofs.specs.run_step.Step.{AtInstr, AtTerm, Fetched, Nowhere}

one_low : 1 ≤ 4
one_low = omega arith

four_low : 4 ≤ 4
four_low = omega arith

intrinsic_low : (i : Intrinsic) → weight_of_intrinsic i ≤ 4
intrinsic_low Intrinsic.CoroEnd = one_low
intrinsic_low i = four_low

instr_low : (i : Instr) → weight (AtInstr i) ≤ 4
instr_low (Instr.Call result must_tail ty (Callee.Intrinsic i) args) = intrinsic_low i
instr_low (Instr.Call result must_tail ty (Callee.Named n) args) = four_low
instr_low (Instr.Call result must_tail ty (Callee.Local n) args) = four_low
instr_low (Instr.Call result must_tail ty (Callee.Allocator a) args) = four_low
instr_low (Instr.Alloca name ty align) = four_low
instr_low i = one_low

weight_low : (x : Fetched) → weight x ≤ 4
weight_low Nowhere = one_low
weight_low (AtTerm t) = one_low
weight_low (AtInstr i) = instr_low i

-- a step has what it weighs
pub weight_within : (behind : Bool) (x : Fetched) → weight x ≤ price_of behind x
weight_within true x = weight_low x
weight_within false Nowhere = one_low
weight_within false (AtTerm t) = omega arith
weight_within false (AtInstr i) = instr_low i

one_some : 1 ≤ 1
one_some = omega arith

four_some : 1 ≤ 4
four_some = omega arith

intrinsic_some : (i : Intrinsic) → 1 ≤ weight_of_intrinsic i
intrinsic_some Intrinsic.CoroEnd = one_some
intrinsic_some i = four_some

instr_some : (i : Instr) → 1 ≤ weight (AtInstr i)
instr_some (Instr.Call result must_tail ty (Callee.Intrinsic i) args) = intrinsic_some i
instr_some (Instr.Call result must_tail ty (Callee.Named n) args) = four_some
instr_some (Instr.Call result must_tail ty (Callee.Local n) args) = four_some
instr_some (Instr.Call result must_tail ty (Callee.Allocator a) args) = four_some
instr_some (Instr.Alloca name ty align) = four_some
instr_some i = one_some

pub weight_some : (x : Fetched) → 1 ≤ weight x
weight_some Nowhere = one_some
weight_some (AtTerm t) = one_some
weight_some (AtInstr i) = instr_some i
