-- Locals that are positions of their function's table of names: readers make no others.
use Rattle.std.specs.Prelude.{ℕ, length, ◌<◌}
use Rattle.run_laws.specs.ir_model.Names.{function_at}
use Rattle.run_laws.specs.ir_model.declared.instr.Incoming.{Incoming}
use Rattle.run_laws.specs.ir_model.declared.instr.Instr.{Instr}
use Rattle.run_laws.specs.ir_model.declared.instr.Phi.{Phi}
use Rattle.run_laws.specs.ir_model.declared.module.Block.{Block}
use Rattle.run_laws.specs.ir_model.declared.module.Function.{Function}
use Rattle.run_laws.specs.ir_model.declared.module.Module.{Module}
use Rattle.run_laws.specs.ir_model.declared.module.Param.{Param}
use Rattle.run_laws.specs.changed.Changed.{Each, operands_of, operands_of_term, result_of, Each as EachOperand}
use Rattle.ir_laws.specs.facts.expanded.Tokens.{IsNamed, IsNamedResult}

-- ---- the locals that a function defines

-- the results of a function's phis are positions of its table of names
abbrev pub HasNamedPhis : Function → Type 0
HasNamedPhis f = Each (λ (b : Block). Each (λ (p : Phi). p.result < length f.names) b.phis) f.blocks

-- so are those of its instructions
abbrev pub HasNamedResults : Function → Type 0
HasNamedResults f = Each (λ (b : Block). Each (λ (i : Instr). IsNamedResult (length f.names) (result_of i)) b.instrs) f.blocks

-- and its parameters
abbrev pub HasNamedParams : Function → Type 0
HasNamedParams f = Each (λ (p : Param). p.name < length f.names) f.params

pub record HasNamedLocals (f : Function) : Type 0 where
  pub params : HasNamedParams f
  pub phis : HasNamedPhis f
  pub results : HasNamedResults f

-- each local that a function of the module defines is a position of its table of names
abbrev pub AreLocalsNamed : Module → Type 0
AreLocalsNamed m = (func : ℕ) → HasNamedLocals (function_at m func)

-- ---- the locals that it uses

-- the operands of its instructions that are locals are positions of its table of names
abbrev pub HasNamedOperands : Function → Type 0
HasNamedOperands f = Each (λ (b : Block). Each (λ (i : Instr). EachOperand (IsNamed (length f.names)) (operands_of i)) b.instrs) f.blocks

-- so are those of its phis
abbrev pub HasNamedIncoming : Function → Type 0
HasNamedIncoming f = Each (λ (b : Block). Each (λ (p : Phi). Each (λ (i : Incoming). IsNamed (length f.names) i.value) p.incoming) b.phis) f.blocks

-- and those of its terminators
abbrev pub HasNamedEnds : Function → Type 0
HasNamedEnds f = Each (λ (b : Block). EachOperand (IsNamed (length f.names)) (operands_of_term b.term)) f.blocks

pub record HasNamedUses (f : Function) : Type 0 where
  pub operands : HasNamedOperands f
  pub incoming : HasNamedIncoming f
  pub ends : HasNamedEnds f

-- each local that a function of the module uses is a position of its table of names
abbrev pub AreUsesNamed : Module → Type 0
AreUsesNamed m = (func : ℕ) → HasNamedUses (function_at m func)
