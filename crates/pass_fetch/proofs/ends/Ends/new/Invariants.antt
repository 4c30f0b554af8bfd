use Rattle.std.proofs.Common.{◌≡◌, [], replicate}
use Rattle.pass_fetch.proofs.ends.Ends.new.Given as goal

abbrev pub invariant-loop : goal.invariant-loop
invariant-loop l = l.lists.items ≡ replicate l.counter []
