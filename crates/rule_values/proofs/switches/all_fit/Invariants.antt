use Rattle.std.proofs.Common.{◌≡◌, drop}
use Rattle.std.specs.List.{list_all}
use Rattle.ir_locals.specs.Tables.{noted}
use Rattle.rule_values.specs.Switches.{fits_case}
use Rattle.rule_values.proofs.switches.all_fit.Given as goal

abbrev pub invariant-loop-case : goal.invariant-loop-case
invariant-loop-case l = list_all (fits_case (noted l.kinds) l.ty) l.cases ≡ list_all (fits_case (noted l.kinds) l.ty) (drop l.case-index l.cases)
