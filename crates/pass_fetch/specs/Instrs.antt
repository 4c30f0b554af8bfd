-- Instructions and terminators with their operands fetched anew.
use Rattle.std.specs.Prelude.{ℕ, List, [], Some, None, Option, ◌∷◌, ◌++◌}
use Rattle.ir_parts.specs.Contents.{callee_operands, instr_operands, return_operands}
use Rattle.ir_model.specs.declared.instr.Instr.{Instr}
use Rattle.ir_model.specs.declared.instr.Terminator.{Terminator}
use Rattle.ir_model.specs.declared.operand.Arg.{Arg}
use Rattle.ir_model.specs.declared.operand.Operand.{Operand}
use Rattle.pass_fetch.specs.Fetching.{fetched_arg, fetched_args, fetched_callee, fetched_operand, fetches_of_all, next_after, next_after_all}
use Rattle.pass_fetch.specs.declared.fetch.Fetch.{Fetch}

-- ---- instructions

-- the instruction with what is fetched from the name n on in the place of its operands
abbrev pub with_fetched : List (Option Fetch) → ℕ → Instr → Instr
with_fetched t n (Instr.Binary r op flags ty a b) = Instr.Binary r op flags ty (fetched_operand t n a) (fetched_operand t (next_after t n a) b)
with_fetched t n (Instr.Icmp r pred ty a b) = Instr.Icmp r pred ty (fetched_operand t n a) (fetched_operand t (next_after t n a) b)
with_fetched t n (Instr.Select r c a b) =
    Instr.Select r (fetched_operand t n c) (fetched_arg t (next_after t n c) a) (fetched_arg t (next_after t (next_after t n c) a.value) b)
with_fetched t n (Instr.Cast r op nneg arg to) = Instr.Cast r op nneg (fetched_arg t n arg) to
with_fetched t n (Instr.Alloca r ty align) = Instr.Alloca r ty align
with_fetched t n (Instr.Load r ty p align) = Instr.Load r ty (fetched_operand t n p) align
with_fetched t n (Instr.Store arg p align) = Instr.Store (fetched_arg t n arg) (fetched_operand t (next_after t n arg.value) p) align
with_fetched t n (Instr.Gep r inbounds ty base indices) =
    Instr.Gep r inbounds ty (fetched_operand t n base) (fetched_args t (next_after t n base) indices)
with_fetched t n (Instr.Call r must_tail ty callee args) =
    Instr.Call r must_tail ty (fetched_callee t n callee) (fetched_args t (next_after_all t n (callee_operands callee)) args)

-- an instruction behind what is fetched for it
abbrev pub fetched_instr : List (Option Fetch) → ℕ → Instr → List Instr
fetched_instr t n i = fetches_of_all t n (instr_operands i) ++ with_fetched t n i ∷ []

abbrev pub next_after_instr : List (Option Fetch) → ℕ → Instr → ℕ
next_after_instr t n i = next_after_all t n (instr_operands i)

abbrev pub fetched_instrs : List (Option Fetch) → ℕ → List Instr → List Instr
fetched_instrs t n [] = []
fetched_instrs t n (i ∷ is) = fetched_instr t n i ++ fetched_instrs t (next_after_instr t n i) is

abbrev pub next_after_instrs : List (Option Fetch) → ℕ → List Instr → ℕ
next_after_instrs t n [] = n
next_after_instrs t n (i ∷ is) = next_after_instrs t (next_after_instr t n i) is

-- ---- terminators

-- the operands of a terminator; the values of a switch's cases are literals
abbrev pub term_operands : Terminator → List Operand
term_operands (Terminator.Jump label) = []
term_operands (Terminator.Branch c a b) = c ∷ []
term_operands (Terminator.Switch arg default cases) = arg.value ∷ []
term_operands (Terminator.Ret value) = return_operands value
term_operands Terminator.Unreachable = []

abbrev pub fetched_return : List (Option Fetch) → ℕ → Option Arg → Option Arg
fetched_return t n None = None
fetched_return t n (Some a) = Some (fetched_arg t n a)

abbrev pub fetched_term : List (Option Fetch) → ℕ → Terminator → Terminator
fetched_term t n (Terminator.Jump label) = Terminator.Jump label
fetched_term t n (Terminator.Branch c a b) = Terminator.Branch (fetched_operand t n c) a b
fetched_term t n (Terminator.Switch arg default cases) = Terminator.Switch (fetched_arg t n arg) default cases
fetched_term t n (Terminator.Ret value) = Terminator.Ret (fetched_return t n value)
fetched_term t n Terminator.Unreachable = Terminator.Unreachable
