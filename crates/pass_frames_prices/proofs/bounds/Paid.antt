-- Four times a name, an operand and one pay for each instruction.
use Rattle.std.proofs.Common.{◌≡◌, ℕ, ◌+◌, ◌-◌, ◌*◌, ◌≤◌, Bool, true, false, length, refl, ap, subst, arith}
use Rattle.std.specs.Prelude.{None, Some, slice_get, ◌==◌}
use Rattle.pass_frames_proof.proofs.ir_laws.facts.Truth.{equal_numbers}
use Rattle.pass_frames_proof.specs.ir_model.declared.instr.Instr.{Instr}
use Rattle.pass_frames_proof.specs.ir_model.declared.operand.Callee.{Callee}
use Rattle.pass_frames_proof.specs.ir_model.declared.operand.Intrinsic.{Intrinsic}
use Rattle.pass_frames_proof.specs.ir_parts.Contents.{instr_operands}
use Rattle.pass_frames_proof.specs.ir_paths.declared.point.Point.{Point}
use Rattle.pass_frames_prices.proofs.bounds.Around.{operands_many}
use Rattle.pass_frames_prices.proofs.bounds.Early.{early_few}
use Rattle.pass_frames_prices.proofs.bounds.Rows.{row_few}
use Rattle.pass_frames_prices.proofs.bounds.Steps.{behind_cost_short, cost_short, none_next, none_own}
use Rattle.pass_frames_prices.proofs.bounds.Totals.{blocks_counted, entry_few}
use Rattle.pass_frames_prices.proofs.bounds.Values.{kept_few}
use Rattle.pass_frames_proof.specs.Costs.{instr_cost}
use Rattle.pass_frames_prices.specs.Counts.{behind_by, more_by}
use Rattle.pass_frames_proof.specs.Framings.{IsFraming}
use Rattle.pass_frames_proof.specs.Meaning.{behind_at}
use Rattle.pass_frames_prices.specs.Numbers.{names_of, phis_of_blocks}
use Rattle.pass_frames_proof.specs.Places.{Framing, copies, edged, entry_layer, instrs_at, is_return, own_place_by, place_by, placed_layer, plan}

more_fits : (kept early m : ℕ) → kept ≤ m → early ≤ m → (i : Instr)
    → more_by kept early i ≤ 2 + 4 * m + 3 * length (instr_operands i)
more_fits kept early m a b (Instr.Binary r op flags ty x y) = omega arith
more_fits kept early m a b (Instr.Icmp r pred ty x y) = omega arith
more_fits kept early m a b (Instr.Select r c x y) = omega arith
more_fits kept early m a b (Instr.Cast r op nneg x to) = omega arith
more_fits kept early m a b (Instr.Alloca r ty align) = omega arith
more_fits kept early m a b (Instr.Load r ty x align) = omega arith
more_fits kept early m a b (Instr.Store x y align) = omega arith
more_fits kept early m a b (Instr.Gep r inbounds ty base indices) =
    let e = operands_many indices in omega (arith, e)
more_fits kept early m a b (Instr.Call r must_tail ty (Callee.Intrinsic Intrinsic.CoroBegin) args) =
    omega (arith, a, b)
more_fits kept early m a b (Instr.Call r must_tail ty (Callee.Intrinsic Intrinsic.CoroSave) args) =
    omega (arith, a, b)
more_fits kept early m a b (Instr.Call r must_tail ty (Callee.Intrinsic Intrinsic.MemcpyI64) args) =
    let e = operands_many args in omega (arith, e)
more_fits kept early m a b (Instr.Call r must_tail ty (Callee.Intrinsic Intrinsic.MemcpyI32) args) =
    let e = operands_many args in omega (arith, e)
more_fits kept early m a b (Instr.Call r must_tail ty _ args) = omega arith

behind_fits : (early m phis : ℕ) → early + phis ≤ m → (i : Instr)
    → behind_by early i + 2 * phis ≤ 4 * m + 3 * length (instr_operands i)
behind_fits early m phis a (Instr.Gep r inbounds ty base indices) =
    let e = operands_many indices in omega (arith, a, e)
behind_fits early m phis a (Instr.Binary r op flags ty x y) = omega (arith, a)
behind_fits early m phis a (Instr.Icmp r pred ty x y) = omega (arith, a)
behind_fits early m phis a (Instr.Select r c x y) = omega (arith, a)
behind_fits early m phis a (Instr.Cast r op nneg x to) = omega (arith, a)
behind_fits early m phis a (Instr.Alloca r ty align) = omega (arith, a)
behind_fits early m phis a (Instr.Load r ty x align) = omega (arith, a)
behind_fits early m phis a (Instr.Store x y align) = omega (arith, a)
behind_fits early m phis a (Instr.Call r must_tail ty (Callee.Intrinsic Intrinsic.CoroBegin) args) = omega (arith, a)
behind_fits early m phis a (Instr.Call r must_tail ty _ args) = omega (arith, a)

module _ (x : Framing) (is : IsFraming x) where
  abbrev M : ℕ
  M = names_of (edged x)

  pub instr_paid : (p : Point) (i : Instr) → slice_get (instrs_at x p.block) p.at ≡ Some i
      → instr_cost x p ≤ 4 * (1 + M + length (instr_operands i))
  instr_paid p i e =
      let a = cost_short x is (row_few x is) p.block p.at i e in
      let b = kept_few x is in
      let c = early_few x is in
      let d = entry_few (edged x).blocks in
      let f = more_fits (length (plan x).kept) (length (copies x).slots) M (omega (arith, b))
      (omega (arith, b, c, d)) i in
      omega (arith, a, f)

  pub behind_paid : (p : Point) (i : Instr) → slice_get (instrs_at x p.block) p.at ≡ Some i
      → behind_at x p.block (p.at + 1) + 2 * phis_of_blocks (edged x).blocks
      ≤ 1 + 4 * M + 3 * length (instr_operands i)
  behind_paid p i e =
      let a = behind_cost_short x is (row_few x is) p.block p.at i e in
      let c = early_few x is in
      let d = entry_few (edged x).blocks in
      let g = blocks_counted (edged x).blocks in
      let f = behind_fits (length (copies x).slots) M (phis_of_blocks (edged x).blocks) (omega (arith, c, d, g)) i in
      omega (arith, a, f)

-- ---- where no instruction stands

module _ (x : Framing) (k at : ℕ) (e : slice_get (instrs_at x k) at ≡ None) where
  abbrev here : Point
  here = record { block = k; at = at }

  abbrev next : Point
  next = record { block = k; at = at + 1 }

  at_entry : (k == 0) ≡ true → slice_get (instrs_at x 0) at ≡ None
  at_entry z = subst (λ (j : ℕ). slice_get (instrs_at x j) at ≡ None) (equal_numbers k 0 z) e

  next_by : (r z : Bool) → (k == 0) ≡ z → place_by x next r z ≡ place_by x here r z
  next_by true z d = refl
  next_by false true d = none_next (entry_layer x) (instrs_at x 0) at (at_entry d)
  next_by false false d = none_next (placed_layer x k) (instrs_at x k) at e

  pub none_cost : instr_cost x here ≡ 0
  none_cost = let a = next_by (is_return x k) (k == 0) refl in omega (arith, a)

  own_by : (r z : Bool) → (k == 0) ≡ z → place_by x next r z ≤ own_place_by x here z
  own_by true z d = omega arith
  own_by false true d =
      let a = next_by false true d in
      let b = none_own (entry_layer x) (instrs_at x 0) at (at_entry d) in
      omega (arith, a, b)
  own_by false false d =
      let a = next_by false false d in
      let b = none_own (placed_layer x k) (instrs_at x k) at e in
      omega (arith, a, b)

  pub none_behind : behind_at x k (at + 1) ≡ 0
  none_behind =
      let a = own_by (is_return x k) (k == 0) refl in
      let same : at + 1 - 1 ≡ at = omega arith in
      let b : own_place_by x (record { block = k; at = at + 1 - 1 }) (k == 0) ≡ own_place_by x here (k == 0) =
      ap (λ (j : ℕ). own_place_by x (record { block = k; at = j }) (k == 0)) same in
      omega (arith, a, b)

-- in front of the first instruction stands nothing of a call
module _ (x : Framing) (k : ℕ) where
  abbrev front : Point
  front = record { block = k; at = 0 }

  first_by : (r z : Bool) → place_by x front r z ≤ own_place_by x front z
  first_by true z = omega arith
  first_by false true = omega arith
  first_by false false = omega arith

  pub first_behind : behind_at x k 0 ≡ 0
  first_behind = let a = first_by (is_return x k) (k == 0) in omega (arith, a)
