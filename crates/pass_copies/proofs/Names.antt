-- The names of temporaries and cells one by one.
use Rattle.std.proofs.Common.{◌≡◌, ℕ, suc, ◌+◌, ◌++◌, ap, arith}
use Rattle.pass_copies.specs.Slots.{names_of_slot, slot_names}

pub slot_names_step : (k : ℕ) → slot_names (k + 1) ≡ slot_names k ++ names_of_slot k
slot_names_step k =
    let e : k + 1 ≡ suc k = omega arith in
    ap slot_names e
