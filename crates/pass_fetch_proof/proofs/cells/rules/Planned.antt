-- What a plan says of the values that are kept, as far as the rules go by it.
use Rattle.std.proofs.Common.{◌≡◌, ℕ, ◌<◌, zero, suc, true, List, [], ◌∷◌, refl, sym, ap, ◌∙◌, subst}
use Rattle.std.specs.Prelude.{Option, Some, None, map, slice_get}
use Rattle.pass_fetch_proof.proofs.cells.rules.Fetched.{AreFetches, IsFetchOf, Loaded, NotFetched}
use Rattle.pass_edges_proof.proofs.rule_laws.rules.counted.Types.{is_cell_type}
use Rattle.pass_edges_proof.specs.flow_solver.Paths.{IsListed}
use Rattle.ir_model.specs.declared.module.Function.{Function}
use Rattle.pass_edges_proof.specs.pass_fetch.Fetching.{fetch_at}
use Rattle.pass_edges_proof.specs.pass_cells.Cells.{fetch_by, fetch_for, fetches_of}
use Rattle.pass_edges_proof.specs.pass_cells.Kept.{entry}
use Rattle.pass_edges_proof.specs.pass_cells.declared.plan.KeptValue.{KeptValue}
use Rattle.pass_edges_proof.specs.pass_cells.declared.plan.Plan.{Plan}
use Rattle.pass_edges_proof.specs.rule_values.Kinds.{kind_of, value_kind}
use Rattle.pass_edges_proof.specs.rule_laws.rules.woven_rules.Weaving.{Weaving}
use Rattle.pass_edges_proof.proofs.rule_laws.rules.counted.Planned.{IsSlot}

-- cell, field and what the field is filled from are among the cells, and types are those of values in cells
pub record IsKeptWell (w : Weaving) (f : Function) (x : KeptValue) : Type 0 where
  pub ty : is_cell_type x.ty ≡ true
  pub field_ty : is_cell_type x.field_ty ≡ true
  pub cell : IsListed x.cell w.fronts
  pub field : IsListed x.field w.fronts
  pub field_cell : IsListed x.field_cell w.fronts
  pub slot : (s : ℕ) → x.slot ≡ Some s → IsSlot f x.field_ty s

-- a value with a place is an old one, and it is kept there by its type
pub record HasPlace (w : Weaving) (f : Function) (p : Plan) (v k : ℕ) : Type 0 where
  pub low : v < w.first
  pub value : KeptValue
  pub there : slice_get p.kept k ≡ Some value
  pub kind : value_kind f v ≡ Some (kind_of value.ty)

pub record IsPlanned (w : Weaving) (f : Function) (p : Plan) : Type 0 where
  pub kept : (k : ℕ) (x : KeptValue) → slice_get p.kept k ≡ Some x → IsKeptWell w f x
  pub places : (v k : ℕ) → entry p.places v ≡ Some k → HasPlace w f p v k
  pub cells : (v c : ℕ) → entry p.cells v ≡ Some c → IsListed c w.fronts

-- ---- how uses are fetched

pub fetch_there : (kept : List KeptValue) (places : List (Option ℕ)) (v : ℕ) → fetch_at (slice_get (map (fetch_for kept) places) v) ≡ fetch_for kept (entry places v)
fetch_there kept [] v = refl
fetch_there kept (x ∷ xs) zero = refl
fetch_there kept (x ∷ xs) (suc v) = fetch_there kept xs v

-- what has no place isn't fetched
pub unplaced_fetch : (p : Plan) (v : ℕ) → entry p.places v ≡ None → fetch_at (slice_get (fetches_of p) v) ≡ None
unplaced_fetch p v e = fetch_there p.kept p.places v ∙ ap (fetch_for p.kept) e

module _ (w : Weaving) (f : Function) (p : Plan) (planned : IsPlanned w f p) where
  fetch_placed : (v k : ℕ) → HasPlace w f p v k → IsFetchOf w f v (fetch_by (slice_get p.kept k))
  fetch_placed v k h =
      let well = planned.kept k h.value h.there in
      subst (λ o. IsFetchOf w f v (fetch_by o)) (sym h.there) (Loaded h.value.ty h.value.cell well.ty well.cell h.kind)

  fetch_by_place : (v : ℕ) (o : Option ℕ) → entry p.places v ≡ o → IsFetchOf w f v (fetch_for p.kept o)
  fetch_by_place v None e = NotFetched
  fetch_by_place v (Some k) e = fetch_placed v k (planned.places v k e)

  pub planned_fetches : AreFetches w f (fetches_of p)
  planned_fetches v = subst (λ o. IsFetchOf w f v o) (sym (fetch_there p.kept p.places v)) (fetch_by_place v (entry p.places v) refl)
