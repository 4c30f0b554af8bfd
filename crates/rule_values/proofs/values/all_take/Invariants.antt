use Rattle.std.proofs.Common.{◌≡◌, drop}
use Rattle.std.specs.List.{list_all}
use Rattle.ir_locals.specs.Tables.{noted}
use Rattle.rule_values.specs.Values.{takes}
use Rattle.rule_values.proofs.values.all_take.Given as goal

abbrev pub invariant-loop-one : goal.invariant-loop-one
invariant-loop-one l = list_all (takes (noted l.kinds) l.ty) l.incoming ≡ list_all (takes (noted l.kinds) l.ty) (drop l.one-index l.incoming)
