-- What a call of a ramp executes in front of its entry is short.
use Rattle.std.proofs.Common.{◌≡◌, ℕ, zero, suc, ◌+◌, ◌*◌, ◌≤◌, Bool, true, false, List, [], ◌∷◌, ◌++◌, length, refl, ap, ◌∙◌, arith}
use Rattle.std.proofs.lemmas.List.{length-append}
use Rattle.std.specs.Prelude.{None, Option, Some, filter, if◌then◌else◌, map, option_to_list, slice_get, take}
use Rattle.pass_frames_proof.specs.ir_model.Ty.{Ty, int, ptr}
use Rattle.pass_frames_proof.specs.ir_model.declared.instr.Instr.{Instr}
use Rattle.pass_frames_proof.specs.ir_model.declared.module.Block.{Block}
use Rattle.pass_frames_proof.specs.ir_parts.Contents.{instr_operands}
use Rattle.pass_frames_proof.specs.pass_addresses.Placing.{lies_outside}
use Rattle.pass_frames_proof.specs.pass_cells.Links.{link_name}
use Rattle.pass_frames_proof.specs.pass_cells.Moves.{again_values, cell_alloca}
use Rattle.pass_frames_proof.specs.pass_cells.Written.{after_blocks as after_written, again_row, distance_alloca, distance_allocas, kept_allocas, link_allocas, row_at, stored_params, stored_phis}
use Rattle.pass_frames_proof.specs.pass_cells.declared.plan.KeptValue.{KeptValue}
use Rattle.pass_frames_proof.specs.pass_copies.BeginCopies.{entry_front as copies_front, put, puts, slot_allocas}
use Rattle.pass_frames_proof.specs.pass_copies.Uses.{flag_at}
use Rattle.pass_frames_proof.specs.pass_copies.declared.slot.EarlySlot.{EarlySlot}
use Rattle.pass_frames_proof.specs.pass_fetch.Blocks.{end_at}
use Rattle.pass_frames_proof.specs.pass_fetch.declared.fetch.Fetch.{Fetch}
use Rattle.pass_frames_prices.proofs.bounds.Codes.{T, slots_free}
use Rattle.pass_frames_prices.proofs.bounds.Lean.{filtered, woven_few}
use Rattle.pass_frames_prices.proofs.bounds.Lengths.{only_short}
use Rattle.pass_frames_prices.proofs.bounds.Ordinary.{none_returned, unresumed}
use Rattle.pass_frames_prices.proofs.bounds.Parts.{AreFree, all_free, cell_weight, one_short, params_short, phis_short, weight, weights}
use Rattle.pass_frames_prices.proofs.bounds.Returned.{calm_unfetched}
use Rattle.pass_frames_proof.proofs.code.Ends.{front_is, params_each, phis_each}
use Rattle.pass_frames_proof.proofs.layers.Grown.{both_becomes, grown_append}
use Rattle.pass_frames_proof.proofs.layers.Standing.{first_place}
use Rattle.pass_frames_proof.specs.Code.{front_code, front_moves}
use Rattle.pass_frames_proof.specs.Costs.{call_cost}
use Rattle.pass_frames_proof.specs.Framings.{IsFraming}
use Rattle.pass_frames_proof.specs.Layers.{Layer, becomes, both, grown, only, woven}
use Rattle.pass_frames_prices.specs.Numbers.{allocas_of_instrs, distances_of}
use Rattle.pass_frames_proof.specs.Passes.{block_at, fetched_first, fetching, phi_ends}
use Rattle.pass_frames_proof.specs.Places.{Framing, addressing_layer, copies, copying_layer, edged, entry_layer, fetched, instrs_at, is_return, offsets, place_by, placed_layer, plan, unmarked, writing_layer, written}
use Rattle.pass_frames_proof.specs.pass_front.Front.{is_alloca, is_no_alloca}
use Rattle.pass_frames_proof.specs.pass_proofs.fetch.rules.Fetches.{AreUnfetched}

-- ---- what isn't an alloca, with its addresses

abbrev others : List (Option Fetch) → List Instr → ℕ
others t [] = 0
others t (Instr.Alloca r ty align ∷ is) = others t is
others t (i ∷ is) = weight t i + others t is

others_append : (t : List (Option Fetch)) (is js : List Instr) → others t (is ++ js) ≡ others t is + others t js
others_append t [] js = omega arith
others_append t (Instr.Alloca r ty align ∷ is) js = others_append t is js
others_append t (_ ∷ is) js = let a = others_append t is js in omega (arith, a)

others_few : (t : List (Option Fetch)) (is : List Instr) → others t is ≤ weights t is
others_few t [] = omega arith
others_few t (Instr.Alloca r ty align ∷ is) = let a = others_few t is in omega (arith, a)
others_few t (_ ∷ is) = let a = others_few t is in omega (arith, a)

abbrev left : List Instr → ℕ
left is = length (grown (only is_no_alloca) tt is)

left_append : (is js : List Instr) → left (is ++ js) ≡ left is + left js
left_append is js =
    ap length (grown_append (only is_no_alloca) tt is js)
    ∙ length-append (grown (only is_no_alloca) tt is) (grown (only is_no_alloca) tt js)

-- a layer that fetches, and then leaves what passes a test
module _ (t : List (Option Fetch)) (ends : List Instr) (first : ℕ) (b : Block) (test : Instr → Bool) where
  abbrev L : Layer (ℕ × Unit {0})
  L = both (fetching t ends first b) (only test)

  abbrev each_few : Instr → ℕ
  each_few i = others t (i ∷ [])

  alloca_left : (n : ℕ) (u : Unit {0}) (r : ℕ) (ty : Ty) (align : ℕ)
      → left (becomes L (n, u) (Instr.Alloca r ty align)) ≡ 0
  alloca_left n u r ty align =
      ap left (both_becomes (fetching t ends first b) (only test) n u (Instr.Alloca r ty align))
      ∙ on (test (Instr.Alloca r ty align))
    where
      on : (c : Bool)
          → left (([] ++ (option_to_list (if c then Some (Instr.Alloca r ty align) else None) ++ [])) ++ []) ≡ 0
      on true = refl
      on false = refl

  other_left : (n : ℕ) (u : Unit {0}) (i : Instr) → left (becomes L (n, u) i) ≤ weight t i
  other_left n u i =
      let a = only_short is_no_alloca tt (becomes L (n, u) i) in
      let c = one_short t ends first b test n u i in
      omega (arith, a, c)

  left_few : (s : ℕ × Unit {0}) (is : List Instr) → left (grown L s is) ≤ others t is
  left_few s [] = omega arith
  left_few s (Instr.Alloca r ty align ∷ is) =
      let a = alloca_left s.0 s.1 r ty align in
      let c = left_few (L.after s (Instr.Alloca r ty align)) is in
      let e = left_append (becomes L s (Instr.Alloca r ty align))
      (grown L (L.after s (Instr.Alloca r ty align)) is) in
      omega (arith, a, c, e)
  left_few s (i ∷ is) =
      let a = other_left s.0 s.1 i in
      let c = left_few (L.after s i) is in
      let e = left_append (becomes L s i) (grown L (L.after s i) is) in
      omega (arith, a, c, e)

-- ---- the moves in front of an entry

kept_others : (t : List (Option Fetch)) (ks : List KeptValue) → others t (kept_allocas ks) ≡ 0
kept_others t [] = refl
kept_others t (k ∷ ks) =
    let a = kept_others t ks in
    let b = on k.slot in
    let e = others_append t (distance_allocas k) (kept_allocas ks) in
    omega (arith, a, b, e)
  where
    on : (o : Option ℕ) → others t (distance_alloca k.field_cell k.field_ty o) ≡ 0
    on None = refl
    on (Some s) = refl

links_others : (t : List (Option Fetch)) (first count n : ℕ) → others t (link_allocas first count n) ≡ 0
links_others t first count zero = refl
links_others t first count (suc n) =
    let a = links_others t first count n in
    let e = others_append t (link_allocas first count n) (cell_alloca (link_name first count n) (int 64) ∷ []) in
    omega (arith, a, e)

slots_others : (t : List (Option Fetch)) (ss : List EarlySlot) → others t (slot_allocas ss) ≡ 0
slots_others t [] = refl
slots_others t (s ∷ ss) = slots_others t ss

puts_others : (t : List (Option Fetch)) (ss : List EarlySlot) → AreFree t ss
    → others t (map (λ s. put s.temporary s.cell) ss) ≤ length ss
puts_others t [] h = omega arith
puts_others t (s ∷ ss) h =
    let a = puts_others t ss h.1 in
    let b = cell_weight t s.temporary s.cell ptr h.0.0 h.0.1 in
    omega (arith, a, b)

module _ (x : Framing) (is : IsFraming x) (there : slice_get (edged x).blocks 0 ≡ Some (block_at (edged x) 0))
    (unreturned : is_return x 0 ≡ false) where
  copied_others : others (T x is) (copying_layer x 0).front ≤ length (copies x).slots
  copied_others =
      on (flag_at (copies x).resumed (block_at (written x) 0).label) (unresumed x is 0 there unreturned)
    where
      on : (b : Bool) → b ≡ false
          → others (T x is) (copies_front (copies x).slots ++ (if b then puts (copies x).slots else []))
          ≤ length (copies x).slots
      on true e = absurd (cc)
      on false e =
          let ss : List EarlySlot = (copies x).slots in
          let a = slots_others (T x is) ss in
          let b = puts_others (T x is) ss (slots_free x is ss (λ z l. l)) in
          let c = others_append (T x is) (copies_front ss) [] in
          let d = others_append (T x is) (slot_allocas ss) (map (λ s. put s.temporary s.cell) ss) in
          omega (arith, a, b, c, d)

  params_few : others (T x is) (stored_params (plan x) (edged x).params) ≤ length (edged x).params
  params_few =
      let js : List Instr = stored_params (plan x) (edged x).params in
      let a = all_free (T x is) js
      (params_each x is 0 (λ j. AreUnfetched (T x is) (instr_operands j)) (λ j c. calm_unfetched x is j c)
      (edged x).params) in
      let b = params_short (plan x) (edged x).params in
      let c = others_few (T x is) js in
      omega (arith, a, b, c)

  phis_few : others (T x is) (stored_phis (plan x) (block_at (fetched x) 0).phis)
      ≤ length (block_at (fetched x) 0).phis
  phis_few =
      let js : List Instr = stored_phis (plan x) (block_at (fetched x) 0).phis in
      let a = all_free (T x is) js
      (phis_each x is 0 (λ j. AreUnfetched (T x is) (instr_operands j)) (λ j c. calm_unfetched x is j c)
      (block_at (fetched x) 0).phis) in
      let b = phis_short (plan x) (block_at (fetched x) 0).phis in
      let c = others_few (T x is) js in
      omega (arith, a, b, c)

  abbrev first : ℕ
  first = after_written x.code (plan x) (length (fetched x).names) (take 0 (fetched x).blocks)

  written_others : others (T x is) (writing_layer x 0).front
      ≤ length (edged x).params + length (block_at (fetched x) 0).phis
  written_others =
      let t : List (Option Fetch) = T x is in
      let kept : List Instr = kept_allocas (plan x).kept in
      let links : List Instr = link_allocas (plan x).first (length (plan x).kept) (plan x).links in
      let params : List Instr = stored_params (plan x) (edged x).params in
      let row : List ℕ = again_row (plan x) (block_at (fetched x) 0).label in
      let again : List Instr = again_values (plan x).kept first row in
      let phis : List Instr = stored_phis (plan x) (block_at (fetched x) 0).phis in
      let a = kept_others t (plan x).kept in
      let b = links_others t (plan x).first (length (plan x).kept) (plan x).links in
      let c = params_few in
      let d : others t again ≡ 0 =
      ap (λ (o : Option ℕ). others t (again_values (plan x).kept first (row_at (plan x).rows o)))
      (none_returned x is 0 there unreturned) in
      let e = phis_few in
      let f = others_append t (kept ++ links) params in
      let g = others_append t kept links in
      let h = others_append t (((kept ++ links) ++ params) ++ again) phis in
      let i = others_append t ((kept ++ links) ++ params) again in
      omega (arith, a, b, c, d, e, f, g, h, i)

  left_front : left (placed_layer x 0).front
      ≤ length (copies x).slots + (length (edged x).params + length (block_at (fetched x) 0).phis)
  left_front =
      let t : List (Option Fetch) = T x is in
      let e : left (placed_layer x 0).front ≡ left (front_code x 0) = ap left (front_is x is 0) in
      let a = left_few t (end_at (phi_ends (unmarked x) t) (block_at (unmarked x) 0).label)
      (fetched_first (unmarked x) t 0) (block_at (unmarked x) 0) (lies_outside (offsets x))
      (addressing_layer x 0).start (front_moves x 0) in
      let b = others_append t (copying_layer x 0).front (writing_layer x 0).front in
      let c = copied_others in
      let d = written_others in
      omega (arith, e, a, b, c, d)

  abbrev few : ℕ
  few = 2 * length (plan x).kept + distances_of (plan x).kept + (plan x).links + 2 * length (copies x).slots
      + allocas_of_instrs (instrs_at x 0)

  front_few : length (entry_layer x).front
      ≤ few + (length (copies x).slots + (length (edged x).params + length (block_at (fetched x) 0).phis))
  front_few =
      let a = filtered (woven (placed_layer x 0) (instrs_at x 0)) in
      let b = woven_few x in
      let c = left_front in
      let e = length-append (filter is_alloca (woven (placed_layer x 0) (instrs_at x 0)))
      (grown (only is_no_alloca) tt (placed_layer x 0).front) in
      omega (arith, a, b, c, e)

  pub call_short : call_cost x
      ≤ few + (length (copies x).slots + (length (edged x).params + length (block_at (fetched x) 0).phis))
  call_short =
      let a : call_cost x ≡ length (entry_layer x).front =
      ap (λ (b : Bool). place_by x (record { block = 0; at = 0 }) b true) unreturned
      ∙ first_place (entry_layer x) (instrs_at x 0) in
      let b = front_few in
      omega (arith, a, b)
