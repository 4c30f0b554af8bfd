-- What writing saves out asks of the calls of a coroutine.
use Rattle.std.specs.Prelude.{ℕ, length, Some, None, Option}
pub use Rattle.run_laws.specs.changed.Changed.{Each}
use Rattle.run_laws.specs.ir_model.declared.instr.Instr.{Instr}
use Rattle.run_laws.specs.ir_model.declared.module.Block.{Block}
use Rattle.run_laws.specs.ir_model.declared.module.Function.{Function}
use Rattle.run_laws.specs.ir_paths.Windows.{call_operand, call_result}
use Rattle.ir_laws.specs.facts.expanded.Tokens.{IsNamed, IsNamedResult}

-- the name of an address: of an alloca or a getelementptr
abbrev pub address_name : Instr → Option ℕ
address_name (Instr.Alloca name ty align) = Some name
address_name (Instr.Gep name inbounds ty base indices) = Some name
address_name _ = None

-- the result and the first operand of a call, and the names of addresses, are among so many names
pub record HasNamedToken (n : ℕ) (i : Instr) : Type 0 where
  pub result : IsNamedResult n (call_result i)
  pub address : IsNamedResult n (address_name i)
  pub token : IsNamed n (call_operand i 0)

-- the same in all of a function, whose table has these names
abbrev pub HasNamedTokens : Function → Type 0
HasNamedTokens f = Each (λ (b : Block). Each (HasNamedToken (length f.names)) b.instrs) f.blocks
