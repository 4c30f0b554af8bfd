-- A jump takes few steps.
use Rattle.std.proofs.Common.{◌≡◌, ◌≢◌, ℕ, ◌+◌, ◌*◌, ◌≤◌, Bool, true, false, [], length, refl, ap, arith}
use Rattle.std.specs.Prelude.{Some, slice_get, ◌==◌}
use Rattle.pass_frames_prices.proofs.bounds.Ends.{end_cost_short, end_short}
use Rattle.pass_frames_prices.proofs.bounds.Ordinary.{ordinary_place}
use Rattle.pass_frames_prices.proofs.bounds.Totals.{front_total, phis_same}
use Rattle.pass_frames_proof.proofs.from_edges.Places.{return_there}
use Rattle.pass_frames_proof.specs.Costs.{jump_cost}
use Rattle.pass_frames_proof.specs.Framings.{IsFraming}
use Rattle.pass_frames_prices.specs.Numbers.{names_of, phis_of_blocks}
use Rattle.pass_frames_proof.specs.Passes.{block_at}
use Rattle.pass_frames_proof.specs.Places.{Framing, edged, instrs_at, is_return, place, place_by}

module _ (x : Framing) (is : IsFraming x) (target : ℕ)
    (goal : slice_get (edged x).blocks target ≡ Some (block_at (edged x) target)) (later : target ≢ 0) where
  abbrev phis : ℕ
  phis = length (block_at (edged x) target).phis

  -- a block on a resume or destroy edge is entered in front of all, another one behind its phis' stores
  target_by : (b : Bool) → is_return x target ≡ b → (place x (record { block = target; at = 0 })).at ≤ phis
  target_by true e =
      let a : (place x (record { block = target; at = 0 })).at ≡ 0 =
      ap (λ (b : Bool). place_by x (record { block = target; at = 0 }) b (target == 0)) e in
      omega (arith, a)
  target_by false e =
      let a = ordinary_place x is target goal e later in
      let b = phis_same x is target in
      omega (arith, a, b)

  target_place : (place x (record { block = target; at = 0 })).at ≤ phis
  target_place = target_by (is_return x target) refl

  module _ (k : ℕ) (there : slice_get (edged x).blocks k ≡ Some (block_at (edged x) k)) where
    pub other_jump : is_return x k ≡ false
        → jump_cost x k target ≤ 3 + 2 * phis_of_blocks (edged x).blocks + phis
    other_jump unreturned =
        let a = end_cost_short x is k there unreturned in
        let b = target_place in
        omega (arith, a, b)

    pub return_jump : is_return x k ≡ true → k ≢ 0 → instrs_at x k ≡ []
        → jump_cost x k target ≤ 3 + 5 * names_of (edged x) + length (block_at (edged x) k).phis + phis
    return_jump returned away none =
        let a = (return_there x is k away there none).whole_is in
        let b = front_total x is k away in
        let c = end_short x is k in
        let d = target_place in
        omega (arith, a, b, c, d)
