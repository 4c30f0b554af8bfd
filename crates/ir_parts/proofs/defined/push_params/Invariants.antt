use Rattle.std.proofs.Common.{◌≡◌, ◌++◌, drop, map}
use Rattle.std.specs.Prelude.{false}
use Rattle.ir_parts.specs.Locals.{local_at}
use Rattle.ir_parts.proofs.defined.push_params.Given as goal

abbrev pub invariant-loop-param : goal.invariant-loop-param
invariant-loop-param l = l.all ++ map (local_at l.place false) (map (λ p. p.name) (drop l.param-index l.params)) ≡ l.initial.all ++ map (local_at l.place false) (map (λ p. p.name) l.params)
