-- What the last pass takes: what the pass before it leaves.
use Rattle.std.specs.Prelude.{IsTrue, Some, None, Option, is_some, ◌||◌}
use Rattle.ir_base.specs.declared.name.Name.{Name}
use Rattle.pass_cleanup.specs.Cleanup.{is_kept_callee}
use Rattle.ir_model.specs.Names.{function_named, global_named}
use Rattle.ir_model.specs.Table.{callee_named}
use Rattle.ir_model.specs.declared.instr.Instr.{Instr}
use Rattle.ir_model.specs.declared.instr.Phi.{Phi}
use Rattle.ir_model.specs.declared.module.Block.{Block}
use Rattle.ir_model.specs.declared.module.Function.{Function}
use Rattle.ir_model.specs.declared.module.Module.{Module}
use Rattle.ir_model.specs.declared.operand.Operand.{Operand}
use Rattle.run_step.specs.Step.{AtInstr}
use Rattle.run_laws.specs.changed.Changed.{Each, callee_at, operands_of, operands_of_term}

-- an operand that names anything outside its function names a defined function or a global
abbrev pub IsDefined : Module → Operand → Type 0
IsDefined m (Operand.Global n) = IsTrue (is_some (function_named m n) || is_some (global_named m n))
IsDefined m _ = Unit {0}

-- what is called by its name is no coro intrinsic
abbrev pub IsNoIntrinsic : Option Name → Type 0
IsNoIntrinsic None = Unit {0}
IsNoIntrinsic (Some n) = IsTrue (is_kept_callee (callee_named n))

pub record IsCleanableInstr (m : Module) (i : Instr) : Type 0 where
  pub operands : Each (IsDefined m) (operands_of i)
  pub callee : IsNoIntrinsic (callee_at (AtInstr i))

abbrev pub IsCleanablePhi : Module → Phi → Type 0
IsCleanablePhi m p = Each (λ i. IsDefined m i.value) p.incoming

pub record IsCleanableBlock (m : Module) (b : Block) : Type 0 where
  pub phis : Each (IsCleanablePhi m) b.phis
  pub instrs : Each (IsCleanableInstr m) b.instrs
  pub term : Each (IsDefined m) (operands_of_term b.term)

abbrev pub IsCleanableFunction : Module → Function → Type 0
IsCleanableFunction m f = Each (IsCleanableBlock m) f.blocks

-- no address of a function that is only declared is used, and no coro intrinsic is called as if it were none
pub record IsCleanable (m : Module) : Type 0 where
  pub globals : Each (λ g. IsDefined m g.init) m.globals
  pub functions : Each (IsCleanableFunction m) m.functions
