use Rattle.std.proofs.Common.{◌+◌, ◌*◌, ◌≤◌, length}
use Rattle.ir_model.specs.Ty.{tys_size, to_tys}
use Rattle.ir_model.proofs.ir_type.+ir_type.Given as goal

abbrev pub invariant-drop_all-loop-field : goal.invariant-drop_all-loop-field
invariant-drop_all-loop-field l = (tys_size (to_tys l.waiting.items) + tys_size (to_tys l.fields.items) ≤ tys_size (to_tys l.initial.waiting.items) + tys_size (to_tys l.initial.fields.items)) × (tys_size (to_tys l.initial.waiting.items) + tys_size (to_tys l.initial.fields.items) + 2 ≤ tys_size (to_tys l.fn.types.items))

abbrev pub decreases-drop_all-loop-field : goal.decreases-drop_all-loop-field
decreases-drop_all-loop-field l = length l.fields.items

abbrev pub invariant-drop_all-loop-ty : goal.invariant-drop_all-loop-ty
invariant-drop_all-loop-ty l = tys_size (to_tys l.waiting.items) ≤ tys_size (to_tys l.fn.types.items)

abbrev pub decreases-drop_all-loop-ty : goal.decreases-drop_all-loop-ty
decreases-drop_all-loop-ty l = tys_size (to_tys l.waiting.items)

abbrev pub decreases-drop_all : goal.decreases-drop_all
decreases-drop_all l = 2 * tys_size (to_tys l.types.items) + 1
