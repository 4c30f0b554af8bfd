-- Lemmas on early.
use Rattle.std.proofs.Common.{◌≡◌, true, false, ap}
use Rattle.std.specs.List.{list_all}
use Rattle.std.specs.Prelude.{not, ◌&&◌}
use Rattle.compiler.specs.cleanup.rules.Clean.{calls_left}
use Rattle.ir_base.specs.declared.outcome.Place.{Place}
use Rattle.pass_proofs.proofs.ir_laws.facts.Truth.{and_both, and_first, and_second, holds}
use Rattle.pass_proofs.specs.ir_parts.Contents.{part_operands}
use Rattle.pass_proofs.specs.ir_parts.Parts.{Part}
use Rattle.compiler.specs.cleanup.unnamed_intrinsics.Unnamed.{is_no_intrinsic, names_intrinsic}

-- ---- a part whose operands and callee are no intrinsics

pub named_by : (p : Place) (x : Part) → list_all is_no_intrinsic (part_operands x) ≡ true → calls_left x ≡ true → names_intrinsic p x ≡ false
named_by p x o c = ap not (and_both (list_all is_no_intrinsic (part_operands x)) (calls_left x) o c)

pub operands_free : (p : Place) (x : Part) → names_intrinsic p x ≡ false → list_all is_no_intrinsic (part_operands x) ≡ true
operands_free p x e = and_first (list_all is_no_intrinsic (part_operands x)) (calls_left x) (holds (list_all is_no_intrinsic (part_operands x) && calls_left x) e)

pub calls_free : (p : Place) (x : Part) → names_intrinsic p x ≡ false → calls_left x ≡ true
calls_free p x e = and_second (list_all is_no_intrinsic (part_operands x)) (calls_left x) (holds (list_all is_no_intrinsic (part_operands x) && calls_left x) e)
