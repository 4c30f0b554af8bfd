use Rattle.std.proofs.Common.{◌≡◌, length}
use Rattle.rule_all.proofs.Listed.{HasEach}
use Rattle.rule_all.proofs.faults.all_faults.Given as goal

abbrev pub invariant-loop-func : goal.invariant-loop-func
invariant-loop-func l = record { count : length l.all ≡ l.func; each : HasEach l.functions l.all }
