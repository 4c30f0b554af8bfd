use Rattle.std.proofs.Common.{◌≡◌, ◌++◌, drop}
use Rattle.frame_crossing.specs.EdgeUses.{incoming_uses}
use Rattle.frame_crossing.proofs.plan.push_incoming.Given as goal

abbrev pub invariant-loop-one : goal.invariant-loop-one
invariant-loop-one l = l.uses ++ incoming_uses l.function l.to (drop l.one-index l.incoming) ≡ l.initial.uses ++ incoming_uses l.function l.to l.incoming
