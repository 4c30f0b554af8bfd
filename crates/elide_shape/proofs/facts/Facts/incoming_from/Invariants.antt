use Rattle.std.proofs.Common.{◌≡◌, drop}
use Rattle.std.specs.Prelude.{find, ◌==◌}
use Rattle.ir_model.specs.Names.{position_of}
use Rattle.elide_shape.proofs.facts.Facts.incoming_from.Given as goal

abbrev pub invariant-loop-one : goal.invariant-loop-one
invariant-loop-one l = find (λ i. position_of l.self.function.now i.from == l.block) (drop l.one-index l.incoming) ≡ find (λ i. position_of l.self.function.now i.from == l.block) l.incoming
