use Rattle.std.proofs.Common.{◌≡◌, drop}
use Rattle.std.specs.List.{list_any}
use Rattle.rule_types.specs.Wants.{is_ptr}
use Rattle.rule_locals.proofs.calls.any_pointer.Given as goal

abbrev pub invariant-loop-ty : goal.invariant-loop-ty
invariant-loop-ty l = list_any is_ptr l.types ≡ list_any is_ptr (drop l.ty-index l.types)
