-- How many allocas stand in front of the entry of a framed form.
use Rattle.std.proofs.Common.{◌≡◌, ℕ, zero, suc, ◌+◌, ◌*◌, ◌≤◌, List, [], ◌∷◌, length, refl, arith}
use Rattle.std.specs.Prelude.{None, Option, Some, filter, slice_get}
use Rattle.pass_frames_proof.specs.ir_model.Ty.{int}
use Rattle.pass_frames_proof.specs.ir_model.declared.instr.Instr.{Instr}
use Rattle.pass_frames_proof.specs.pass_cells.Links.{link_name}
use Rattle.pass_frames_proof.specs.pass_cells.Moves.{cell_alloca}
use Rattle.pass_frames_proof.specs.pass_cells.Written.{distance_alloca, distance_allocas, kept_allocas, link_allocas}
use Rattle.pass_frames_proof.specs.pass_cells.declared.plan.KeptValue.{KeptValue}
use Rattle.pass_frames_proof.specs.pass_copies.BeginCopies.{slot_allocas}
use Rattle.pass_frames_proof.specs.pass_copies.declared.slot.EarlySlot.{EarlySlot}
use Rattle.pass_frames_prices.proofs.bounds.Allocas.{many, many_append}
use Rattle.pass_frames_prices.proofs.bounds.Weights.{woven_least}
use Rattle.pass_frames_proof.proofs.entering.Stand.{all_counted}
use Rattle.pass_frames_proof.specs.Costs.{allocas_before}
use Rattle.pass_frames_proof.specs.Layers.{woven}
use Rattle.pass_frames_prices.specs.Numbers.{allocas_of_instrs, distances_of, one_distance}
use Rattle.pass_frames_proof.specs.Passes.{block_at}
use Rattle.pass_frames_proof.specs.Places.{Framing, copies, edged, instrs_at, placed_layer, plan}
use Rattle.pass_frames_proof.specs.pass_front.Front.{is_alloca}

abbrev w : ℕ → ℕ
w r = 1

abbrev A : List Instr → ℕ
A is = many w is

pub filtered : (is : List Instr) → length (filter is_alloca is) ≡ A is
filtered [] = refl
filtered (Instr.Alloca r ty align ∷ is) = let a = filtered is in omega (arith, a)
filtered (_ ∷ is) = let a = filtered is in omega (arith, a)

counted : (is : List Instr) → A is ≡ allocas_of_instrs is
counted [] = refl
counted (Instr.Alloca r ty align ∷ is) = let a = counted is in omega (arith, a)
counted (_ ∷ is) = let a = counted is in omega (arith, a)

-- ---- fronts of the entry

kept_many : (ks : List KeptValue) → A (kept_allocas ks) ≡ 2 * length ks + distances_of ks
kept_many [] = refl
kept_many (k ∷ ks) =
    let a = kept_many ks in
    let b = on k.slot in
    let e = many_append w (distance_allocas k) (kept_allocas ks) in
    omega (arith, a, b, e)
  where
    on : (o : Option ℕ) → A (distance_alloca k.field_cell k.field_ty o) ≡ one_distance o
    on None = refl
    on (Some s) = refl

links_many : (first count n : ℕ) → A (link_allocas first count n) ≡ n
links_many first count zero = refl
links_many first count (suc n) =
    let a = links_many first count n in
    let e = many_append w (link_allocas first count n) (cell_alloca (link_name first count n) (int 64) ∷ []) in
    omega (arith, a, e)

slots_many : (ss : List EarlySlot) → A (slot_allocas ss) ≡ 2 * length ss
slots_many [] = refl
slots_many (s ∷ ss) = let a = slots_many ss in omega (arith, a)

module _ (x : Framing) where
  abbrev few : ℕ
  few = 2 * length (plan x).kept + distances_of (plan x).kept + (plan x).links + 2 * length (copies x).slots

  pub woven_few : A (woven (placed_layer x 0) (instrs_at x 0)) ≤ few + allocas_of_instrs (instrs_at x 0)
  woven_few =
      let a = woven_least w x in
      let d = counted (instrs_at x 0) in
      let b = kept_many (plan x).kept in
      let c = links_many (plan x).first (length (plan x).kept) (plan x).links in
      let e = slots_many (copies x).slots in
      omega (arith, a, b, c, d, e)

  pub allocas_few : slice_get (edged x).blocks 0 ≡ Some (block_at (edged x) 0)
      → allocas_before x None ≤ few + allocas_of_instrs (instrs_at x 0)
  allocas_few there =
      let a = all_counted x there in
      let b = filtered (woven (placed_layer x 0) (instrs_at x 0)) in
      let c = woven_few in
      omega (arith, a, b, c)
