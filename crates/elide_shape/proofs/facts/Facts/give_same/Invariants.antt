use Rattle.std.proofs.Common.{◌≡◌, drop}
use Rattle.std.specs.List.{list_all}
use Rattle.elide_shape.specs.Phis.{gives_same}
use Rattle.elide_shape.proofs.facts.Facts.give_same.Given as goal

abbrev pub invariant-loop-phi : goal.invariant-loop-phi
invariant-loop-phi l = list_all (gives_same l.self.function.now l.a l.d) (drop l.phi-index l.phis) ≡ list_all (gives_same l.self.function.now l.a l.d) l.phis
