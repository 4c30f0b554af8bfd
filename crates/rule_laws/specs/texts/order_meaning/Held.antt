-- Functions in whose table of names all that they set has a place.
use Rattle.std.specs.Prelude.{List}
use Rattle.ir_laws.specs.ir_base.declared.name.Name.{Name}
use Rattle.ir_laws.specs.ir_model.declared.instr.Instr.{Instr}
use Rattle.ir_laws.specs.ir_model.declared.instr.Phi.{Phi}
use Rattle.ir_laws.specs.ir_model.declared.module.Block.{Block}
use Rattle.ir_laws.specs.ir_model.declared.module.Function.{Function}
use Rattle.ir_laws.specs.ir_model.declared.module.Param.{Param}
use Rattle.text_canonical.specs.order.Shape.{Each, IsPlaced, IsSet}
use Rattle.ir_laws.specs.run_laws.changed.Changed.{result_of}

abbrev pub SetsPlaced : List Name → Instr → Type 0
SetsPlaced names i = IsSet names (result_of i)

abbrev pub IsPhiPlaced : List Name → Phi → Type 0
IsPhiPlaced names p = IsPlaced names p.result

abbrev pub IsBlockPlaced : List Name → Block → Type 0
IsBlockPlaced names b = Each (IsPhiPlaced names) b.phis × Each (SetsPlaced names) b.instrs

abbrev pub IsParamPlaced : List Name → Param → Type 0
IsParamPlaced names p = IsPlaced names p.name

-- its parameters, phis and instructions set names of its table
pub record HoldsResults (f : Function) : Type 0 where
  pub params : Each (IsParamPlaced f.names) f.params
  pub blocks : Each (IsBlockPlaced f.names) f.blocks
