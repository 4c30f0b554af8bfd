-- Allocas that are put in at the front of the entry block.
use Rattle.std.specs.Prelude.{◌≡◌, ℕ, true, false, List, [], length, option_to_list, ◌+◌, ◌<◌, ◌≤◌, ◌∷◌, ◌++◌}
use Rattle.std.specs.List.{list_all}
use Rattle.ir_laws.specs.ir_base.declared.name.Name.{Name}
use Rattle.ir_laws.specs.ir_base.declared.outcome.Place.{Place}
use Rattle.ir_parts.specs.Contents.{instr_types, result_of}
use Rattle.ir_laws.specs.ir_model.Ty.{Ty}
use Rattle.ir_laws.specs.ir_model.declared.instr.Instr.{Instr}
use Rattle.ir_laws.specs.ir_model.declared.module.Block.{Block}
use Rattle.ir_laws.specs.ir_model.declared.module.Function.{Function}
use Rattle.ir_laws.specs.ir_model.declared.module.Module.{Module}
use Rattle.rule_locals.specs.Extents.{breaks_extents}
use Rattle.rule_names.specs.Known.{knows_type}
use Rattle.rule_names.specs.declared.stage.Stage.{Stage}
use Rattle.ir_laws.specs.run_laws.changed.Changed.{Each}
use Rattle.rule_types.specs.Limits.{all_fit}
use Rattle.rule_values.specs.Fits.{is_tokenless}
use Rattle.ir_laws.specs.paths.woven_rules.Pairs.{AreDifferent}

abbrev pub with_front_block : List Instr → List Block → List Block
with_front_block front [] = []
with_front_block front (b ∷ bs) = record b { instrs = front ++ b.instrs } ∷ bs

-- the function with these instructions at the front of the entry block, and these further names
abbrev pub with_front : List Instr → List Name → Function → Function
with_front front names f = record f { blocks = with_front_block front f.blocks; names = f.names ++ names }

-- what instructions make, in order
abbrev pub results_of : List Instr → List ℕ
results_of [] = []
results_of (i ∷ is) = option_to_list (result_of i) ++ results_of is

-- an alloca of a new name, of a type and an alignment that may stand in a module at a stage
pub record IsNewAlloca (stage : Stage) (m : Module) (first after : ℕ) (i : Instr) : Type 0 where
  pub name : ℕ
  pub ty : Ty
  pub align : ℕ
  pub is : i ≡ Instr.Alloca name ty align
  pub low : first ≤ name
  pub high : name < after
  pub tokenless : is_tokenless ty ≡ true
  pub types : list_all (knows_type m) (instr_types (Instr.Alloca name ty align)) ≡ true
  pub depths : all_fit m (instr_types (Instr.Alloca name ty align)) ≡ true
  pub extents : (p : Place) → breaks_extents stage m p (Instr.Alloca name ty align) ≡ false

-- the instructions are such allocas, each of another name
pub record FrontFits (stage : Stage) (m : Module) (f : Function) (front : List Instr) (names : List Name) : Type 0
  where
    pub each : Each (IsNewAlloca stage m (length f.names) (length f.names + length names)) front
    pub different : AreDifferent (results_of front)
