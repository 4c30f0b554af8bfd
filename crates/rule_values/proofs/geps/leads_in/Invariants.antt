use Rattle.std.proofs.Common.{◌≡◌, drop, Some}
use Rattle.rule_values.specs.Geps.{leads_in}
use Rattle.rule_values.proofs.geps.leads_in.Given as goal

abbrev pub invariant-loop-arg : goal.invariant-loop-arg
invariant-loop-arg l = leads_in l.names.source.now (Some l.fn.ty) l.indices ≡ leads_in l.names.source.now (Some l.inside) (drop l.arg-index l.indices)
