use Rattle.std.proofs.Common.{◌≡◌, ◌++◌, ◌∷◌, drop, take, map, filter, length, ◌-◌, ◌+◌}
use Rattle.pass_split.specs.Parts.{suspend_names}
use Rattle.pass_split.proofs.parts.suspend_names.Given as goal

abbrev pub invariant-loop-suspend : goal.invariant-loop-suspend
invariant-loop-suspend l = l.names ≡ suspend_names l.suspend
