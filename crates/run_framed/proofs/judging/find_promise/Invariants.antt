use Rattle.std.proofs.Common.{◌≡◌, drop}
use Rattle.std.specs.Prelude.{find}
use Rattle.run_framed.specs.Framed.{is_promise_kind}
use Rattle.run_framed.proofs.judging.find_promise.Given as goal

abbrev pub invariant-loop-field : goal.invariant-loop-field
invariant-loop-field l = find (λ y. is_promise_kind y.kind) l.fields ≡ find (λ y. is_promise_kind y.kind) (drop l.field-index l.fields)
