use Rattle.std.proofs.Common.{◌≡◌, ◌++◌, drop, filter}
use Rattle.rule_windows.specs.Windows.{is_call_between}
use Rattle.rule_windows.proofs.windows.calls_between.Given as goal

abbrev pub invariant-loop-point : goal.invariant-loop-point
invariant-loop-point l = l.all ++ filter (is_call_between l.function l.save l.suspend) (drop l.point-index l.back) ≡ filter (is_call_between l.function l.save l.suspend) l.back
