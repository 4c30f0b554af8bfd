-- Where each local is a position of its function's table, so are the names that writing saves out looks at.
use Rattle.std.proofs.Common.{ℕ, List, [], ◌∷◌, length}
use Rattle.run_laws.specs.ir_model.Names.{function_at}
use Rattle.run_laws.specs.ir_model.declared.instr.Instr.{Instr}
use Rattle.run_laws.specs.ir_model.declared.module.Block.{Block}
use Rattle.run_laws.specs.ir_model.declared.module.Module.{Module}
use Rattle.run_laws.specs.ir_model.declared.operand.Arg.{Arg}
use Rattle.run_laws.specs.ir_model.declared.operand.Callee.{Callee}
use Rattle.run_laws.specs.ir_paths.Windows.{call_operand, call_result, operand_at}
use Rattle.run_laws.specs.changed.Changed.{Each, operands_of, result_of, values_of, Each as EachOperand}
use Rattle.ir_laws.specs.paths.expanded.Tokens.{HasNamedToken, address_name}
use Rattle.ir_laws.specs.facts.expanded.Tokens.{IsNamed, IsNamedResult}
use Rattle.ir_laws.specs.paths.saved.SavedState.{AreTokensNamed}
use Rattle.ir_laws.specs.facts.sound_states.Named.{AreLocalsNamed, AreUsesNamed}

module _ (n : ℕ) where
  result_named : (i : Instr) → IsNamedResult n (result_of i) → IsNamedResult n (call_result i)
  result_named (Instr.Call result must_tail ty callee args) h = h
  result_named (Instr.Binary name op flags ty a b) h = tt
  result_named (Instr.Icmp name pred ty a b) h = tt
  result_named (Instr.Select name x a b) h = tt
  result_named (Instr.Cast name op nneg arg to) h = tt
  result_named (Instr.Alloca name ty align) h = tt
  result_named (Instr.Load name ty p align) h = tt
  result_named (Instr.Store arg p align) h = tt
  result_named (Instr.Gep name inbounds ty base indices) h = tt

  address_named : (i : Instr) → IsNamedResult n (result_of i) → IsNamedResult n (address_name i)
  address_named (Instr.Call result must_tail ty callee args) h = tt
  address_named (Instr.Binary name op flags ty a b) h = tt
  address_named (Instr.Icmp name pred ty a b) h = tt
  address_named (Instr.Select name x a b) h = tt
  address_named (Instr.Cast name op nneg arg to) h = tt
  address_named (Instr.Alloca name ty align) h = h
  address_named (Instr.Load name ty p align) h = tt
  address_named (Instr.Store arg p align) h = tt
  address_named (Instr.Gep name inbounds ty base indices) h = h

  first_named : (args : List Arg) → EachOperand (IsNamed n) (values_of args) → IsNamed n (operand_at args 0)
  first_named [] h = tt
  first_named (a ∷ args) h = h.0

  token_named : (i : Instr) → EachOperand (IsNamed n) (operands_of i) → IsNamed n (call_operand i 0)
  token_named (Instr.Call result must_tail ty (Callee.Named k) args) h = first_named args h
  token_named (Instr.Call result must_tail ty (Callee.Allocator a) args) h = first_named args h
  token_named (Instr.Call result must_tail ty (Callee.Intrinsic j) args) h = first_named args h
  token_named (Instr.Call result must_tail ty (Callee.Local k) args) h = first_named args h.1
  token_named (Instr.Binary name op flags ty a b) h = tt
  token_named (Instr.Icmp name pred ty a b) h = tt
  token_named (Instr.Select name x a b) h = tt
  token_named (Instr.Cast name op nneg arg to) h = tt
  token_named (Instr.Alloca name ty align) h = tt
  token_named (Instr.Load name ty p align) h = tt
  token_named (Instr.Store arg p align) h = tt
  token_named (Instr.Gep name inbounds ty base indices) h = tt

  instrs_named : (is : List Instr) → Each (λ (i : Instr). IsNamedResult n (result_of i)) is → Each (λ (i : Instr). EachOperand (IsNamed n) (operands_of i)) is → Each (HasNamedToken n) is
  instrs_named [] h k = tt
  instrs_named (i ∷ is) h k = (record { result = result_named i h.0; address = address_named i h.0; token = token_named i k.0 }, instrs_named is h.1 k.1)

  blocks_named : (bs : List Block) → Each (λ (b : Block). Each (λ (i : Instr). IsNamedResult n (result_of i)) b.instrs) bs → Each (λ (b : Block). Each (λ (i : Instr). EachOperand (IsNamed n) (operands_of i)) b.instrs) bs → Each (λ (b : Block). Each (HasNamedToken n) b.instrs) bs
  blocks_named [] h k = tt
  blocks_named (b ∷ bs) h k = (instrs_named b.instrs h.0 k.0, blocks_named bs h.1 k.1)

pub tokens_named : (m : Module) → AreLocalsNamed m → AreUsesNamed m → AreTokensNamed m
tokens_named m locals uses func = blocks_named (length (function_at m func).names) (function_at m func).blocks (locals func).results (uses func).operands
