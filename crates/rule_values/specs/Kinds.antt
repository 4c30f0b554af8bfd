-- What the values of a function are.
use Rattle.std.specs.Prelude.{ℕ, Some, None, Option, ◌==◌, if◌then◌else◌}
use Rattle.ir_model.specs.Ty.{Ty, int, ptr, token}
use Rattle.ir_model.specs.declared.instr.Instr.{Instr}
use Rattle.ir_model.specs.declared.instr.Phi.{Phi}
use Rattle.ir_model.specs.declared.module.Block.{Block}
use Rattle.ir_model.specs.declared.module.Function.{Function}
use Rattle.ir_model.specs.declared.module.Param.{Param}
use Rattle.ir_model.specs.declared.operand.Callee.{Callee}
use Rattle.ir_model.specs.declared.operand.Intrinsic.{Intrinsic}
use Rattle.ir_locals.specs.Tables.{first_in, or_first}
use Rattle.rule_values.specs.declared.kinds.Kind.{Kind}

-- integers, ptr and tokens are told apart; of arrays and structures there are no values
abbrev pub kind_of : Ty → Kind
kind_of (int w) = Kind.Int w
kind_of ptr = Kind.Ptr
kind_of token = Kind.Token
kind_of t = Kind.Other

abbrev pub kind_if : ℕ → Kind → ℕ → Option Kind
kind_if r kind n = if r == n then Some kind else None

-- a call of type void has no value
abbrev pub result_kind : Callee → Option Ty → Kind
result_kind callee None = Kind.Other
result_kind (Callee.Intrinsic Intrinsic.CoroSave) (Some t) = Kind.Saved
result_kind callee (Some t) = kind_of t

abbrev pub call_kind : Option ℕ → Kind → ℕ → Option Kind
call_kind None kind n = None
call_kind (Some r) kind n = kind_if r kind n

-- the kind of an instruction's result, beside its name
abbrev pub instr_kind : Instr → ℕ → Option Kind
instr_kind (Instr.Binary r op flags ty left right) n = kind_if r (kind_of ty) n
instr_kind (Instr.Icmp r pred ty left right) n = kind_if r (Kind.Int 1) n
instr_kind (Instr.Select r c a b) n = kind_if r (kind_of a.ty) n
instr_kind (Instr.Cast r op nneg arg to) n = kind_if r (kind_of to) n
instr_kind (Instr.Alloca r ty align) n = kind_if r Kind.Ptr n
instr_kind (Instr.Load r ty address align) n = kind_if r (kind_of ty) n
instr_kind (Instr.Store arg address align) n = None
instr_kind (Instr.Gep r inbounds ty base indices) n = kind_if r Kind.Ptr n
instr_kind (Instr.Call r must_tail ty callee args) n = call_kind r (result_kind callee ty) n

abbrev pub phi_kind : Phi → ℕ → Option Kind
phi_kind p n = kind_if p.result (kind_of p.ty) n

abbrev pub param_kind : Param → ℕ → Option Kind
param_kind p n = kind_if p.name (kind_of p.ty) n

abbrev pub block_kind : Block → ℕ → Option Kind
block_kind b n = or_first (first_in phi_kind b.phis n) (first_in instr_kind b.instrs n)

-- the kind of a value of the function; of two of one name the first counts, and labels have none
abbrev pub value_kind : Function → ℕ → Option Kind
value_kind f n = or_first (first_in param_kind f.params n) (first_in block_kind f.blocks n)
