use Rattle.std.proofs.Common.{◌≡◌, drop}
use Rattle.std.specs.List.{list_any}
use Rattle.run_framed.specs.Framed.{field_opens}
use Rattle.run_framed.proofs.judging.any_opens.Given as goal

abbrev pub invariant-loop-field : goal.invariant-loop-field
invariant-loop-field l = list_any (λ x. field_opens l.byte x) l.fields ≡ list_any (λ x. field_opens l.byte x) (drop l.field-index l.fields)
