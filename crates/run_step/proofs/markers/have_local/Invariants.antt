use Rattle.std.proofs.Common.{◌≡◌, drop}
use Rattle.std.specs.List.{list_any}
use Rattle.ir_paths.specs.ir_model.Names.{is_local}
use Rattle.run_step.proofs.markers.have_local.Given as goal

abbrev pub invariant-loop-arg : goal.invariant-loop-arg
invariant-loop-arg l = list_any (λ a. is_local l.name a.value) l.args ≡ list_any (λ a. is_local l.name a.value) (drop l.arg-index l.args)
