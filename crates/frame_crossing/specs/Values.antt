-- The values of a function that may cross a suspend: all but tokens and the results of allocas, of coro.begin and of
-- coro.frame.
use Rattle.std.specs.Prelude.{ℕ, Bool, true, false, List, [], Some, None, Option, ◌||◌, ◌∷◌, ◌++◌, if◌then◌else◌}
use Rattle.ir_parts.specs.Contents.{result_of}
use Rattle.ir_model.specs.Ty.{Ty, token}
use Rattle.ir_model.specs.declared.instr.Instr.{Instr}
use Rattle.ir_model.specs.declared.instr.Phi.{Phi}
use Rattle.ir_model.specs.declared.module.Block.{Block}
use Rattle.ir_model.specs.declared.module.Function.{Function}
use Rattle.ir_model.specs.declared.module.Param.{Param}
use Rattle.ir_model.specs.declared.operand.Intrinsic.{Intrinsic}
use Rattle.ir_paths.specs.Slots.{has_name}
use Rattle.ir_paths.specs.Windows.{is_call_of}

abbrev pub is_token : Ty → Bool
is_token token = true
is_token _ = false

abbrev pub is_token_result : Option Ty → Bool
is_token_result None = false
is_token_result (Some ty) = is_token ty

-- the result is a token, or an address that is made anew wherever it is needed
abbrev pub is_apart : Instr → Bool
is_apart (Instr.Binary r op flags ty left right) = is_token ty
is_apart (Instr.Icmp r pred ty left right) = false
is_apart (Instr.Select r c a b) = is_token a.ty
is_apart (Instr.Cast r op nneg arg to) = is_token to
is_apart (Instr.Alloca r ty align) = true
is_apart (Instr.Load r ty address align) = is_token ty
is_apart (Instr.Store arg address align) = false
is_apart (Instr.Gep r inbounds ty base indices) = false
is_apart (Instr.Call r must_tail ty callee args) =
    is_token_result ty
    || (is_call_of Intrinsic.CoroBegin (Instr.Call r must_tail ty callee args)
    || is_call_of Intrinsic.CoroFrame (Instr.Call r must_tail ty callee args))

abbrev pub unless : Bool → ℕ → List ℕ
unless true v = []
unless false v = v ∷ []

abbrev pub result_unless : Bool → Option ℕ → List ℕ
result_unless b None = []
result_unless b (Some v) = unless b v

abbrev pub params_defined : List Param → List ℕ
params_defined [] = []
params_defined (p ∷ ps) = unless (is_token p.ty) p.name ++ params_defined ps

abbrev pub phis_defined : List Phi → List ℕ
phis_defined [] = []
phis_defined (p ∷ ps) = unless (is_token p.ty) p.result ++ phis_defined ps

abbrev pub instrs_defined : List Instr → List ℕ
instrs_defined [] = []
instrs_defined (i ∷ is) = result_unless (is_apart i) (result_of i) ++ instrs_defined is

abbrev pub blocks_defined : List Block → List ℕ
blocks_defined [] = []
blocks_defined (b ∷ bs) = phis_defined b.phis ++ (instrs_defined b.instrs ++ blocks_defined bs)

-- these values, as often as they are defined, in order of the text: parameters by position, others by block and instruction
abbrev pub all_defined : Function → List ℕ
all_defined f = params_defined f.params ++ blocks_defined f.blocks

abbrev pub with_new : List ℕ → ℕ → List ℕ
with_new found v = if has_name found v then found else found ++ v ∷ []

abbrev pub distinct : List ℕ → List ℕ → List ℕ
distinct found [] = found
distinct found (v ∷ vs) = distinct (with_new found v) vs

-- the same, each once
abbrev pub values_of : Function → List ℕ
values_of f = distinct [] (all_defined f)
