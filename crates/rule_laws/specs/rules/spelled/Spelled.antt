-- Functions whose names can be written, and whose types, flags and callees are such as the grammar has.
use Rattle.std.specs.Prelude.{◌≡◌, option_to_list}
use Rattle.ir_laws.specs.text_names.Spelling.{IsName}
use Rattle.ir_parts.specs.Contents.{ending_types, instr_types}
use Rattle.ir_laws.specs.ir_model.Table.{callee_named}
use Rattle.ir_laws.specs.ir_model.declared.instr.Instr.{Instr}
use Rattle.ir_laws.specs.ir_model.declared.module.Block.{Block}
use Rattle.ir_laws.specs.ir_model.declared.module.Function.{Function}
use Rattle.ir_laws.specs.ir_model.declared.operand.Callee.{Callee}
use Rattle.text_canonical.specs.order.Shape.{MayBe, MayHave}
use Rattle.ir_laws.specs.run_laws.changed.Changed.{Each}
use Rattle.rule_laws.specs.texts.spelled.Spelled.{IsSpelled}

-- an operation has flags that it may have, and what is called by its name is what the table of names says
abbrev pub MayStand : Instr → Type 0
MayStand (Instr.Binary r op flags ty left right) = MayHave op flags
MayStand (Instr.Cast r op nneg arg to) = MayBe op nneg
MayStand (Instr.Call r must_tail ty (Callee.Named n) args) = Callee.Named n ≡ callee_named n
MayStand i = Unit {0}

pub record IsSpelledInstr (i : Instr) : Type 0 where
  pub types : Each IsSpelled (instr_types i)
  pub stands : MayStand i

pub record IsSpelledBlock (b : Block) : Type 0 where
  pub phis : Each (λ p. IsSpelled p.ty) b.phis
  pub instrs : Each IsSpelledInstr b.instrs
  pub term : Each IsSpelled (ending_types b.term)

-- what the grammar asks of a function besides its operands, and that its names can be written
pub record IsSpelledFunction (f : Function) : Type 0 where
  pub name : IsName f.name
  pub result : Each IsSpelled (option_to_list f.result)
  pub params : Each (λ p. IsSpelled p.ty) f.params
  pub blocks : Each IsSpelledBlock f.blocks
  pub names : Each IsName f.names
