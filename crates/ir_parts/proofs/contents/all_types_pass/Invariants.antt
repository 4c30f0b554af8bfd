use Rattle.std.proofs.Common.{◌≡◌, ◌++◌, drop, map}
use Rattle.std.specs.List.{list_all}
use Rattle.ir_parts.proofs.contents.all_types_pass.Given as goal

abbrev pub invariant-loop-ty : goal.invariant-loop-ty
invariant-loop-ty g l = list_all (g.T.TypeTest.type_passes l.test) (l.types) ≡ list_all (g.T.TypeTest.type_passes l.test) ((drop l.ty-index l.types))
