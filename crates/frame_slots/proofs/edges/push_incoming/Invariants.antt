use Rattle.std.proofs.Common.{◌≡◌, ◌++◌, drop}
use Rattle.frame_slots.specs.Words.{incoming_uses}
use Rattle.frame_slots.proofs.edges.push_incoming.Given as goal

abbrev pub invariant-loop-one : goal.invariant-loop-one
invariant-loop-one l = l.uses ++ incoming_uses l.function l.to (drop l.one-index l.incoming) ≡ l.initial.uses ++ incoming_uses l.function l.to l.incoming
