use Rattle.std.proofs.Common.{◌≡◌, ◌++◌, drop, map}
use Rattle.std.specs.List.{list_all}
use Rattle.ir_parts.specs.Contents.{arg_types}
use Rattle.ir_parts.proofs.contents.arg_types_pass.Given as goal

abbrev pub invariant-loop-arg : goal.invariant-loop-arg
invariant-loop-arg g l = list_all (g.T.TypeTest.type_passes l.test) (arg_types l.args) ≡ list_all (g.T.TypeTest.type_passes l.test) (arg_types (drop l.arg-index l.args))
