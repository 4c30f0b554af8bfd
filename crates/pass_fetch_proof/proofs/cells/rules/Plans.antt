-- The plan of a function says what the rules ask of it.
use Rattle.std.proofs.Common.{◌≡◌, ℕ, zero, suc, ◌+◌, ◌<◌, ◌≤◌, Bool, true, List, [], ◌∷◌, length, refl, sym, ap, ◌∙◌, subst, arith}
use Rattle.std.specs.Prelude.{Option, Some, None, option_map, slice_get}
use Rattle.pass_edges_proof.proofs.rule_laws.frames.counted.CellKinds.{same_cell}
use Rattle.pass_fetch_proof.proofs.cells.rules.Fronts.{HasCells, IsNumbered, cell_in, distance_in, field_in, link_in}
use Rattle.pass_fetch_proof.proofs.cells.rules.Keepable.{IsKeepable}
use Rattle.pass_fetch_proof.proofs.cells.rules.Keeping.{IsKeeping, place_within}
use Rattle.pass_fetch_proof.proofs.cells.rules.Links.{HasSlot, IsDistanceCell, OfLink, OfValue, distance_there, marks_have, slot_flagged}
use Rattle.pass_edges_proof.proofs.rule_laws.rules.counted.Lists.{row_joined}
use Rattle.pass_fetch_proof.proofs.cells.rules.Planned.{HasPlace, IsKeptWell, IsPlanned}
use Rattle.pass_edges_proof.proofs.rule_laws.rules.counted.Planned.{IsSlot}
use Rattle.pass_edges_proof.proofs.rule_laws.rules.counted.Types.{is_cell_type}
use Rattle.pass_fetch_proof.proofs.cells.rules.ValueTypes.{TellBlock, Tells, types_seen}
use Rattle.pass_fetch_proof.specs.cells.rules.Weaving.{front_allocas}
use Rattle.pass_edges_proof.proofs.ir_laws.paths.source_rules.Locals.{listed_left, listed_right}
use Rattle.pass_edges_proof.proofs.rule_laws.rules.source_rules.Locals.{made_by}
use Rattle.pass_edges_proof.proofs.ir_laws.facts.Lists.{row_of}
use Rattle.pass_edges_proof.specs.flow_solver.Paths.{IsListed}
use Rattle.ir_model.specs.Ty.{Ty, int}
use Rattle.ir_model.specs.declared.instr.Instr.{Instr}
use Rattle.ir_model.specs.declared.module.Function.{Function}
use Rattle.ir_model.specs.declared.module.Module.{Module}
use Rattle.pass_edges_proof.specs.run_laws.changed.Changed.{Each}
use Rattle.pass_edges_proof.specs.pass_cells.Kept.{entry, is_flagged, keeping_of, value_types}
use Rattle.pass_edges_proof.specs.pass_cells.Links.{bases_of, cell_name, cells_from, distance_name, field_name, link_name, links_from, marks_of, slots_of}
use Rattle.pass_edges_proof.specs.pass_cells.Plan.{kept_from, kept_value, plan_of, type_at}
use Rattle.pass_edges_proof.specs.pass_cells.Written.{kept_allocas, link_allocas}
use Rattle.pass_edges_proof.specs.pass_cells.declared.keeping.Keeping.{Keeping}
use Rattle.pass_edges_proof.specs.pass_cells.declared.plan.KeptValue.{KeptValue}
use Rattle.pass_edges_proof.specs.pass_cells.declared.plan.Plan.{Plan}
use Rattle.pass_edges_proof.specs.rule_values.Kinds.{kind_of, value_kind}
use Rattle.pass_edges_proof.specs.rule_laws.rules.woven_rules.Weaving.{Weaving}

-- ---- what is kept at each place

module _ (first count : ℕ) (types : List Ty) (cells slots : List (Option ℕ)) where
  abbrev pub kept_as : ℕ → ℕ → KeptValue
  kept_as k v = kept_value (cell_name first k) (field_name first count k) (type_at types k) (entry cells v) (entry slots v)

  kept_there : (k : ℕ) (vs : List ℕ) (j : ℕ) → slice_get (kept_from first count types cells slots k vs) j ≡ option_map (kept_as (k + j)) (slice_get vs j)
  kept_there k [] j = refl
  kept_there k (v ∷ vs) zero = let same : k ≡ k + 0 = omega arith in ap (λ (n : ℕ). Some (kept_as n v)) same
  kept_there k (v ∷ vs) (suc j) = let same : k + 1 + j ≡ k + suc j = omega arith in kept_there (k + 1) vs j ∙ ap (λ (n : ℕ). option_map (kept_as n) (slice_get vs j)) same

  pub kept_at : (vs : List ℕ) (j v : ℕ) → slice_get vs j ≡ Some v → slice_get (kept_from first count types cells slots 0 vs) j ≡ Some (kept_as j v)
  kept_at vs j v e = let same : 0 + j ≡ j = omega arith in kept_there 0 vs j ∙ ap (λ (n : ℕ). option_map (kept_as n) (slice_get vs j)) same ∙ ap (option_map (kept_as j)) e

  -- each has a value
  pub kept_of : (vs : List ℕ) (j : ℕ) (x : KeptValue) → slice_get (kept_from first count types cells slots 0 vs) j ≡ Some x → (v : ℕ) × (slice_get vs j ≡ Some v) × (x ≡ kept_as j v)
  kept_of vs j x e = on (slice_get vs j) refl
    where
      on : (o : Option ℕ) → slice_get vs j ≡ o → (v : ℕ) × (slice_get vs j ≡ Some v) × (x ≡ kept_as j v)
      on None d = let same : 0 + j ≡ j = omega arith in let both : None ≡ Some x = sym (kept_there 0 vs j ∙ ap (option_map (kept_as (0 + j))) d) ∙ e in absurd (cc)
      on (Some v) d = let both : Some (kept_as j v) ≡ Some x = sym (kept_at vs j v d) ∙ e in let is_one : x ≡ kept_as j v = cc in (v, d, is_one)

  pub kept_length : (k : ℕ) (vs : List ℕ) → length (kept_from first count types cells slots k vs) ≡ length vs
  kept_length k [] = refl
  kept_length k (v ∷ vs) = ap suc (kept_length (k + 1) vs)

-- what is kept for a value, by whether it has the cell of a distance
module _ (cell field : ℕ) (t : Ty) where
  value_field : (o slot : Option ℕ) → is_cell_type t ≡ true → is_cell_type (kept_value cell field t o slot).field_ty ≡ true
  value_field None slot h = h
  value_field (Some d) slot h = refl

  value_ty : (o slot : Option ℕ) → (kept_value cell field t o slot).ty ≡ t
  value_ty None slot = refl
  value_ty (Some d) slot = refl

  value_cell : (o slot : Option ℕ) → (kept_value cell field t o slot).cell ≡ cell
  value_cell None slot = refl
  value_cell (Some d) slot = refl

  value_name : (o slot : Option ℕ) → (kept_value cell field t o slot).field ≡ field
  value_name None slot = refl
  value_name (Some d) slot = refl

module _ (w : Weaving) (m : Module) (f : Function) (crossing : List (ℕ × ℕ)) (local : List Bool) where
  abbrev pub first : ℕ
  first = length f.names

  abbrev pub values : Keeping
  values = keeping_of first crossing

  abbrev pub plan : Plan
  plan = plan_of f crossing local

  abbrev bases : List (Option ℕ)
  bases = bases_of f

  abbrev slots : List (Option ℕ)
  slots = slots_of local bases

  abbrev marks : List Bool
  marks = marks_of bases slots values.values

  abbrev count : ℕ
  count = length values.values

  abbrev cells : List (Option ℕ)
  cells = cells_from first count values.places 0 0 marks

  abbrev pub kept_now : ℕ → ℕ → KeptValue
  kept_now at v = kept_as first count (value_types f values) cells slots at v

  module _ (keeping : IsKeeping first (IsKeepable m f) values) (params : Each (λ p. Tells f values p.name p.ty) f.params) (blocks : Each (TellBlock f values) f.blocks) where
    -- ---- types

    type_told : (v at : ℕ) → entry values.places v ≡ Some at → value_kind f v ≡ Some (kind_of (type_at (value_types f values) at))
    type_told v at e = types_seen f first (IsKeepable m f) values keeping params blocks v (keeping.holds v at (keeping.there v at e)).defined at e

    type_cell : (v at : ℕ) → entry values.places v ≡ Some at → is_cell_type (type_at (value_types f values) at) ≡ true
    type_cell v at e =
        let x = (keeping.holds v at (keeping.there v at e)).kind in
        let both : Some (kind_of (type_at (value_types f values) at)) ≡ Some (kind_of x.ty) = sym (type_told v at e) ∙ x.kind in
        let same : kind_of (type_at (value_types f values) at) ≡ kind_of x.ty = cc in
        same_cell x.ty (type_at (value_types f values) at) x.cell same

    -- ---- distances

    -- a kept value with the cell of a distance has a slot, and that cell is its own
    slotted : (v at d : ℕ) → entry values.places v ≡ Some at → entry cells v ≡ Some d → HasSlot slots v × (d ≡ distance_name first count at)
    slotted v at d place e =
        let x = distance_there first count values.places marks v d e in
        (marks_have bases slots values.values v x.marked, own (entry values.places v) d x.cell place)
      where
        own : (o : Option ℕ) (d : ℕ) → IsDistanceCell first count (links_from values.places 0 0 marks) o d → o ≡ Some at → d ≡ distance_name first count at
        own _ _ (OfValue k) e = let same : k ≡ at = cc in ap (distance_name first count) same
        own _ _ (OfLink i lt) e = absurd (cc)

    -- ---- names of what is kept

    value_slot : (v at : ℕ) → entry values.places v ≡ Some at → (o : Option ℕ) → entry cells v ≡ o → (s : ℕ) → (kept_value (cell_name first at) (field_name first count at) (type_at (value_types f values) at) o (entry slots v)).slot ≡ Some s → (entry slots v ≡ Some s) × ((d : ℕ) × (o ≡ Some d) × (d ≡ distance_name first count at))
    value_slot v at place None e s slot = absurd (cc)
    value_slot v at place (Some d) e s slot = (slot, (d, refl, (slotted v at d place e).1))

    numbered_at : (v at : ℕ) → entry values.places v ≡ Some at → (o : Option ℕ) → entry cells v ≡ o → (s : ℕ) → (kept_value (cell_name first at) (field_name first count at) (type_at (value_types f values) at) o (entry slots v)).slot ≡ Some s → (kept_value (cell_name first at) (field_name first count at) (type_at (value_types f values) at) o (entry slots v)).field_cell ≡ distance_name first count at
    numbered_at v at place None e s slot = absurd (cc)
    numbered_at v at place (Some d) e s slot = (slotted v at d place e).1

    pub kept_numbered : (at : ℕ) (x : KeptValue) → slice_get plan.kept at ≡ Some x → IsNumbered first count at x
    kept_numbered at x e =
        let y = kept_of first count (value_types f values) cells slots values.values at x e in
        let place : entry values.places y.0 ≡ Some at = keeping.back y.0 at y.1 in
        subst (λ (z : KeptValue). IsNumbered first count at z) (sym y.2)
        (record {
          cell = value_cell (cell_name first at) (field_name first count at) (type_at (value_types f values) at) (entry cells y.0) (entry slots y.0);
          field = value_name (cell_name first at) (field_name first count at) (type_at (value_types f values) at) (entry cells y.0) (entry slots y.0);
          distance = numbered_at y.0 at place (entry cells y.0) refl;
        })

    field_cell_low : (v at : ℕ) → entry values.places v ≡ Some at → (o : Option ℕ) → entry cells v ≡ o → first ≤ (kept_value (cell_name first at) (field_name first count at) (type_at (value_types f values) at) o (entry slots v)).field_cell
    field_cell_low v at place None e = omega arith
    field_cell_low v at place (Some d) e = let is : d ≡ distance_name first count at = (slotted v at d place e).1 in omega (arith, is)

    pub kept_cells_are : (at : ℕ) (x : KeptValue) → slice_get plan.kept at ≡ Some x → HasCells first x
    kept_cells_are at x e =
        let y = kept_of first count (value_types f values) cells slots values.values at x e in
        let place : entry values.places y.0 ≡ Some at = keeping.back y.0 at y.1 in
        let t : Ty = type_at (value_types f values) at in
        let names = kept_numbered at x e in
        let cell : x.cell ≡ cell_name first at = names.cell in
        let field : x.field ≡ field_name first count at = names.field in
        record {
          ty = ap (λ (z : KeptValue). is_cell_type z.ty) y.2 ∙ ap is_cell_type (value_ty (cell_name first at) (field_name first count at) t (entry cells y.0) (entry slots y.0)) ∙ type_cell y.0 at place;
          field_ty = ap (λ (z : KeptValue). is_cell_type z.field_ty) y.2 ∙ value_field (cell_name first at) (field_name first count at) t (entry cells y.0) (entry slots y.0) (type_cell y.0 at place);
          cell = omega (arith, cell);
          field = omega (arith, field);
          field_cell = subst (λ (z : KeptValue). first ≤ z.field_cell) (sym y.2) (field_cell_low y.0 at place (entry cells y.0) refl);
        }

    -- ---- the plan

    module _ (fronts : (c : ℕ) → IsListed c (row_of made_by (front_allocas plan)) → IsListed c w.fronts) (below : first ≤ w.first) (slot_made : (s : ℕ) → is_flagged local s ≡ true → IsSlot f (int 64) s) where
      kept_front : (c : ℕ) → IsListed c (row_of made_by (kept_allocas plan.kept)) → IsListed c w.fronts
      kept_front c h =
          let links : List Instr = link_allocas plan.first (length plan.kept) plan.links in
          fronts c (subst (λ (l : List ℕ). IsListed c l) (sym (row_joined made_by (kept_allocas plan.kept) links)) (listed_left c (row_of made_by (kept_allocas plan.kept)) (row_of made_by links) h))

      link_front : (c : ℕ) → IsListed c (row_of made_by (link_allocas first (length plan.kept) plan.links)) → IsListed c w.fronts
      link_front c h =
          let links : List Instr = link_allocas plan.first (length plan.kept) plan.links in
          fronts c (subst (λ (l : List ℕ). IsListed c l) (sym (row_joined made_by (kept_allocas plan.kept) links)) (listed_right c (row_of made_by (kept_allocas plan.kept)) (row_of made_by links) h))

      well_field_cell : (v at : ℕ) → entry values.places v ≡ Some at → slice_get plan.kept at ≡ Some (kept_now at v) → (o : Option ℕ) → entry cells v ≡ o → IsListed (kept_value (cell_name first at) (field_name first count at) (type_at (value_types f values) at) o (entry slots v)).field_cell w.fronts
      well_field_cell v at place e None d =
          subst (λ (c : ℕ). IsListed c w.fronts) (value_cell (cell_name first at) (field_name first count at) (type_at (value_types f values) at) (entry cells v) (entry slots v))
          (kept_front (kept_now at v).cell (cell_in plan.kept at (kept_now at v) e))
      well_field_cell v at place e (Some c) d =
          let s = (slotted v at c place d).0 in
          let same : (kept_now at v).field_cell ≡ c = ap (λ (o : Option ℕ). (kept_value (cell_name first at) (field_name first count at) (type_at (value_types f values) at) o (entry slots v)).field_cell) d in
          let slot : (kept_now at v).slot ≡ Some s.0 = ap (λ (o : Option ℕ). (kept_value (cell_name first at) (field_name first count at) (type_at (value_types f values) at) o (entry slots v)).slot) d ∙ s.1 in
          subst (λ (x : ℕ). IsListed x w.fronts) same (kept_front (kept_now at v).field_cell (distance_in plan.kept at (kept_now at v) s.0 e slot))

      well_slot : (v at : ℕ) → entry values.places v ≡ Some at → (o : Option ℕ) → entry cells v ≡ o → (s : ℕ) → (kept_value (cell_name first at) (field_name first count at) (type_at (value_types f values) at) o (entry slots v)).slot ≡ Some s → IsSlot f (kept_value (cell_name first at) (field_name first count at) (type_at (value_types f values) at) o (entry slots v)).field_ty s
      well_slot v at place None e s slot = absurd (cc)
      well_slot v at place (Some d) e s slot = slot_made s (slot_flagged local bases v s slot)

      kept_well : (at : ℕ) (x : KeptValue) → slice_get plan.kept at ≡ Some x → IsKeptWell w f x
      kept_well at x e =
          let y = kept_of first count (value_types f values) cells slots values.values at x e in
          let v : ℕ = y.0 in
          let place : entry values.places v ≡ Some at = keeping.back v at y.1 in
          let there : slice_get plan.kept at ≡ Some (kept_now at v) = e ∙ ap (λ (z : KeptValue). Some z) y.2 in
          let all = kept_cells_are at x e in
          record {
            ty = all.ty;
            field_ty = all.field_ty;
            cell = kept_front x.cell (cell_in plan.kept at x e);
            field = kept_front x.field (field_in plan.kept at x e);
            field_cell = subst (λ (z : KeptValue). IsListed z.field_cell w.fronts) (sym y.2) (well_field_cell v at place there (entry cells v) refl);
            slot = subst (λ (z : KeptValue). (s : ℕ) → z.slot ≡ Some s → IsSlot f z.field_ty s) (sym y.2) (well_slot v at place (entry cells v) refl);
          }

      place_there : (v at : ℕ) → entry values.places v ≡ Some at → HasPlace w f plan v at
      place_there v at e =
          let low : v < first = place_within first (IsKeepable m f) values v at keeping e in
          record {
            low = omega (arith, low, below);
            value = kept_now at v;
            there = kept_at first count (value_types f values) cells slots values.values at v (keeping.there v at e);
            kind = type_told v at e ∙ ap (λ (t : Ty). Some (kind_of t)) (sym (value_ty (cell_name first at) (field_name first count at) (type_at (value_types f values) at) (entry cells v) (entry slots v)));
          }

      cell_front : (v c : ℕ) → entry cells v ≡ Some c → IsListed c w.fronts
      cell_front v c e = on (entry values.places v) c refl (distance_there first count values.places marks v c e).cell e
        where
          on : (o : Option ℕ) (d : ℕ) → entry values.places v ≡ o → IsDistanceCell first count (links_from values.places 0 0 marks) o d → entry cells v ≡ Some d → IsListed d w.fronts
          on _ _ place (OfValue at) h = well_field_cell v at place (kept_at first count (value_types f values) cells slots values.values at v (keeping.there v at place)) (Some (distance_name first count at)) h
          on _ _ place (OfLink i lt) h =
              let long : length plan.kept ≡ count = kept_length first count (value_types f values) cells slots 0 values.values in
              subst (λ (n : ℕ). IsListed (link_name first n i) w.fronts) long (link_front (link_name first (length plan.kept) i) (link_in first (length plan.kept) plan.links i lt))

      pub plan_is : IsPlanned w f plan
      plan_is = record { kept = kept_well; places = place_there; cells = cell_front }
