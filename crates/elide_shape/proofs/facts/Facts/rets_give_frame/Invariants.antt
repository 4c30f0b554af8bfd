use Rattle.std.proofs.Common.{◌≡◌, drop}
use Rattle.std.specs.List.{list_all}
use Rattle.elide_shape.specs.Frames.{returns_frame}
use Rattle.elide_shape.proofs.facts.Facts.rets_give_frame.Given as goal

abbrev pub invariant-loop-block : goal.invariant-loop-block
invariant-loop-block l = list_all (λ b. returns_frame l.self.function.now b.term) (drop l.block-index l.block-items) ≡ list_all (λ b. returns_frame l.self.function.now b.term) l.block-items
