use Rattle.std.proofs.Common.{◌≡◌, map, take}
use Rattle.flow_facts.proofs.chains.asked.Given as goal

abbrev pub invariant-loop-name : goal.invariant-loop-name
invariant-loop-name l = l.starts.items ≡ map (λ v. (v, 1)) (take l.name-index l.names)
