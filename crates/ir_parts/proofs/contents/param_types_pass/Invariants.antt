use Rattle.std.proofs.Common.{◌≡◌, ◌++◌, drop, map}
use Rattle.std.specs.List.{list_all}
use Rattle.ir_parts.proofs.contents.param_types_pass.Given as goal

abbrev pub invariant-loop-param : goal.invariant-loop-param
invariant-loop-param g l = list_all (g.T.TypeTest.type_passes l.test) (map (λ p. p.ty) l.params) ≡ list_all (g.T.TypeTest.type_passes l.test) (map (λ p. p.ty) (drop l.param-index l.params))
