use Rattle.std.proofs.Common.{◌≡◌, drop}
use Rattle.std.specs.Prelude.{find}
use Rattle.run_source.specs.Source.{has_promise_at}
use Rattle.run_source.specs.SourceEffects.{given_of}
use Rattle.run_source.proofs.promise.keeper_of.Given as goal

abbrev pub invariant-loop-instance : goal.invariant-loop-instance
invariant-loop-instance l = find (λ x. has_promise_at (given_of l.given) l.block x) l.instances ≡ find (λ x. has_promise_at (given_of l.given) l.block x) (drop l.instance-index l.instances)
