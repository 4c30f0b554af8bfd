-- Lemmas on known, that speak of no pass.
use Rattle.std.proofs.Common.{◌≡◌, ℕ, Bool, true, false}
use Rattle.std.specs.List.{list_all}
use Rattle.std.specs.Prelude.{◌&&◌}
use Rattle.ir_laws.specs.ir_base.declared.outcome.Place.{Place}
use Rattle.ir_laws.proofs.facts.Truth.{and_first, and_second, holds}
use Rattle.ir_parts.specs.Contents.{part_labels, part_operands, part_types}
use Rattle.ir_parts.specs.Parts.{Part as FunctionPart}
use Rattle.ir_laws.specs.ir_model.declared.module.Module.{Module}
use Rattle.rule_names.specs.Known.{knows_called, knows_operand, knows_type, names_unknown}

-- ---- names but for those of locals

-- the four parts of the rule
module _ (m : Module) (values labels : ℕ → Bool) (p : Place) (x : FunctionPart) (e : names_unknown m values labels p x ≡ false) where
  abbrev Names : Bool
  Names = list_all (knows_operand m values) (part_operands x) && (list_all labels (part_labels x) && knows_called m x)

  whole : (list_all (knows_type m) (part_types x) && Names) ≡ true
  whole = holds (list_all (knows_type m) (part_types x) && Names) e

  pub types_before : list_all (knows_type m) (part_types x) ≡ true
  types_before = and_first (list_all (knows_type m) (part_types x)) Names whole

  pub operands_before : list_all (knows_operand m values) (part_operands x) ≡ true
  operands_before = and_first (list_all (knows_operand m values) (part_operands x)) (list_all labels (part_labels x) && knows_called m x) (and_second (list_all (knows_type m) (part_types x)) Names whole)

  pub labels_before : list_all labels (part_labels x) ≡ true
  labels_before =
      and_first (list_all labels (part_labels x)) (knows_called m x)
      (and_second (list_all (knows_operand m values) (part_operands x))
      (list_all labels (part_labels x) && knows_called m x)
      (and_second (list_all (knows_type m) (part_types x)) Names whole))

  pub called_before : knows_called m x ≡ true
  called_before =
      and_second (list_all labels (part_labels x)) (knows_called m x)
      (and_second (list_all (knows_operand m values) (part_operands x)) (list_all labels (part_labels x) && knows_called m x) (and_second (list_all (knows_type m) (part_types x)) Names whole))
