use Rattle.std.proofs.Common.{◌≡◌, take}
use Rattle.std.specs.List.{list_any}
use Rattle.ir_paths.specs.ir_model.Names.{is_local}
use Rattle.run_step.specs.Tables.{IsMarked}
use Rattle.run_step.proofs.markers.mark_locals.Given as goal

abbrev pub invariant-loop-arg : goal.invariant-loop-arg
invariant-loop-arg l = IsMarked l.initial.table l.table (λ name. list_any (λ a. is_local name a.value) (take l.arg-index l.args))
