use Rattle.std.proofs.Common.{◌≡◌, drop}
use Rattle.std.specs.List.{list_all}
use Rattle.ir_locals.specs.Tables.{noted}
use Rattle.rule_values.specs.Fits.{fits_integer}
use Rattle.rule_values.proofs.instrs.are_integers.Given as goal

abbrev pub invariant-loop-arg : goal.invariant-loop-arg
invariant-loop-arg l = list_all (fits_integer (noted l.kinds)) l.args ≡ list_all (fits_integer (noted l.kinds)) (drop l.arg-index l.args)
