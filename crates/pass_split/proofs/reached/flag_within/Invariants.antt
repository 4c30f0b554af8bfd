use Rattle.std.proofs.Common.{◌≡◌, ◌-◌}
use Rattle.pass_split.specs.Reached.{flagged_within}
use Rattle.pass_split.proofs.reached.flag_within.Given as goal

abbrev pub invariant-loop : goal.invariant-loop
invariant-loop l = flagged_within (l.turns - l.counter) l.function l.flags l.todo ≡ flagged_within l.turns l.function l.initial.flags l.initial.todo
