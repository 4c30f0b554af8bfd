use Rattle.std.proofs.Common.{◌≡◌, take}
use Rattle.std.specs.Prelude.{is_some}
use Rattle.std.specs.List.{list_any}
use Rattle.ir_base.specs.declared.name.Name.{Name}
use Rattle.indexmap.specs.IndexMap.{get}
use Rattle.ir_model.specs.Names.{same_name}
use Rattle.rule_names.specs.Reserved.{is_part_of}
use Rattle.rule_names.proofs.reserved.parts_of.Given as goal

abbrev pub invariant-loop-function : goal.invariant-loop-function
invariant-loop-function l = (n : Name) → is_some (get same_name l.parts n) ≡ list_any (is_part_of n) (take l.function-index l.functions)
