use Rattle.std.proofs.Common.{◌<◌, ◌+◌, ◌*◌, List, [], ◌∷◌, arith, ap}
use Rattle.ir_model.specs.Ty.{Ty, ty_size, tys_size, to_tys}
use Rattle.ir_model.specs.TypeView.{tys_size_append}
use Rattle.ir_model.proofs.ir_type.+ir_type.Goals as goal

pub drop_all-drop-requires : goal.drop_all-drop-requires
drop_all-drop-requires t c =
    let inv = c.loop-field.invariant in
    let parts = ap (λ (l : List Ty). tys_size (to_tys l)) c.in-Some-pop.ensures.items in
    let sum = tys_size_append c.pop-in-loop-field.new.self.items (c.in-Some-pop.field ∷ []) in
    let same = ap ty_size c.in-Err.ensures.value_returned in
    let below : 2 * (ty_size c.in-Err.failed.value + 1) + 0 < t = omega (arith, inv.0, inv.1, parts, sum, same, c.decreases) in (below, tt)
