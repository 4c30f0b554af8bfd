-- The operands of what is put in, but at saves and behind resume and destroy edges, don't lie in the frame.
use Rattle.std.proofs.Common.{◌≡◌, ⊎_elim, ℕ, ◌+◌, ◌*◌, ◌<◌, ◌≤◌, Bool, true, false, List, [], ◌∷◌, ◌++◌, length, refl, sym, ◌∙◌, subst, arith, length-append}
use Rattle.std.specs.Prelude.{None, Option, Some, codes, slice_get}
use Rattle.pass_exits_proof.specs.addresses.rules.Addresses.{lies_in_frame}
use Rattle.pass_proofs.specs.frames.begin_order.Fields.{FieldsFit, IsField, values_kept}
use Rattle.pass_exits_proof.proofs.cells.rules.Fronts.{IsNumbered}
use Rattle.pass_exits_proof.proofs.cells.rules.Keepable.{IsKeepable, blocks_tell, keeping_holds, params_tell}
use Rattle.pass_exits_proof.proofs.cells.rules.Keeping.{IsKeeping, place_within}
use Rattle.pass_exits_proof.proofs.cells.rules.Links.{IsDistanceCell, OfLink, OfValue, distance_there}
use Rattle.pass_exits_proof.proofs.cells.rules.Planned.{fetch_there}
use Rattle.pass_exits_proof.proofs.cells.rules.Plans.{kept_length, kept_numbered}
use Rattle.pass_exits_proof.proofs.cells.rules.Totals.{numbered_length}
use Rattle.pass_exits_proof.specs.cells.rules.Asked.{AreCellsFor}
use Rattle.pass_exits_proof.specs.cells.rules.Weaving.{cells_weaving}
use Rattle.pass_exits_proof.specs.ir_base.declared.name.Name.{Name}
use Rattle.pass_exits_proof.proofs.ir_laws.facts.Members.{each_behind}
use Rattle.pass_exits_proof.proofs.ir_laws.facts.Lists.{get_within}
use Rattle.pass_exits_proof.specs.ir_parts.Contents.{instr_operands}
use Rattle.pass_exits_proof.specs.rule_laws.rules.function_rules.Kept.{KeepsFunctionRules}
use Rattle.ir_model.specs.declared.instr.Instr.{Instr}
use Rattle.ir_model.specs.declared.instr.Phi.{Phi}
use Rattle.ir_model.specs.declared.module.Function.{Function}
use Rattle.ir_model.specs.declared.module.Module.{Module}
use Rattle.ir_model.specs.declared.module.Param.{Param}
use Rattle.ir_model.specs.declared.operand.Operand.{Operand}
use Rattle.pass_exits_proof.specs.run_laws.changed.Changed.{Each}
use Rattle.pass_exits_proof.specs.pass_fetch.Blocks.{numbered_names}
use Rattle.pass_exits_proof.specs.pass_fetch.Fetching.{fetch_into, fetch_of}
use Rattle.pass_exits_proof.specs.pass_fetch.declared.fetch.Fetch.{Fetch}
use Rattle.pass_exits_proof.specs.pass_cells.Cells.{fetch_by, fetch_for, fetches_of, with_own_names}
use Rattle.pass_exits_proof.specs.pass_cells.Kept.{entry}
use Rattle.pass_exits_proof.specs.pass_cells.Links.{bases_of, links_from, marks_of, slots_of}
use Rattle.pass_exits_proof.specs.pass_cells.Plan.{plan_of}
use Rattle.pass_exits_proof.specs.pass_cells.Written.{stored, stored_at, stored_one, stored_params, stored_phis, stored_result}
use Rattle.pass_exits_proof.specs.pass_cells.declared.keeping.Keeping.{Keeping}
use Rattle.pass_exits_proof.specs.pass_cells.declared.plan.KeptValue.{KeptValue}
use Rattle.pass_exits_proof.specs.pass_cells.declared.plan.Plan.{Plan}

own_names : (names : List Name) (count links : ℕ) → length names + 2 * count ≤ length (with_own_names names count links)
own_names names count links =
    let a : List Name = numbered_names (codes "$c.cell.") count in
    let b : List Name = numbered_names (codes "$c.field.") count in
    let c : List Name = numbered_names (codes "$c.distance.") count in
    let d : List Name = numbered_names (codes "$c.link.") links in
    let la = numbered_length (codes "$c.cell.") count in
    let lb = numbered_length (codes "$c.field.") count in
    let s1 = length-append names a in
    let s2 = length-append (names ++ a) b in
    let s3 = length-append (names ++ a ++ b) c in
    let s4 = length-append (names ++ a ++ b ++ c) d in
    omega (arith, la, lb, s1, s2, s3, s4)

pub distance_far : (first count links : ℕ) (o : Option ℕ) (c : ℕ) → IsDistanceCell first count links o c → first + 2 * count ≤ c
distance_far first count links _ _ (OfValue at) = omega arith
distance_far first count links _ _ (OfLink i low) = omega arith

module _ (m : Module) (k : ℕ) (f : Function) (rules : KeepsFunctionRules m k f) (crossing : List (ℕ × ℕ)) (local : List Bool) (asked : AreCellsFor k f crossing local) (old offsets : List (Option ℕ)) (marked : List Bool) (fields : FieldsFit f crossing old offsets marked) (low_frame : (v : ℕ) → lies_in_frame old v ≡ true → v < length f.names) where
  abbrev plan : Plan
  plan = plan_of f crossing local

  abbrev First : ℕ
  First = length f.names

  abbrev keeping : Keeping
  keeping = values_kept f crossing

  abbrev Count : ℕ
  Count = length keeping.values

  is_keeping : IsKeeping First (IsKeepable m f) keeping
  is_keeping = keeping_holds m k f rules crossing local asked

  pub count_is : length plan.kept ≡ Count
  count_is = kept_length First Count _ _ _ 0 keeping.values

  -- the operand is no name in the frame
  abbrev pub Quiet : Operand → Type 0
  Quiet (Operand.Local v) = lies_in_frame offsets v ≡ true → ⊥
  Quiet _ = Unit {0}

  abbrev pub AllQuiet : List Instr → Type 0
  AllQuiet is = Each (λ (i : Instr). Each Quiet (instr_operands i)) is

  near_quiet : (v : ℕ) → First ≤ v → v < First + Count → lies_in_frame offsets v ≡ true → ⊥
  near_quiet v low high e =
      ⊎_elim (λ o. let lt : v < First = low_frame v o in absurd (omega (arith, lt, low))) (λ (d : IsField First Count v). let up : First + Count ≤ v = d.low in absurd (omega (arith, up, high)))
      (fields.frame v e)

  pub far_quiet : (v : ℕ) → First + 2 * Count ≤ v → lies_in_frame offsets v ≡ true → ⊥
  far_quiet v far e =
      ⊎_elim (λ o. let lt : v < First = low_frame v o in absurd (omega (arith, lt, far))) (λ (d : IsField First Count v). let up : v < First + 2 * Count = d.high in absurd (omega (arith, up, far)))
      (fields.frame v e)

  -- the names behind those of cells and fields
  pub own_low : First + 2 * Count ≤ length (with_own_names f.names (length plan.kept) plan.links)
  own_low = let a = own_names f.names (length plan.kept) plan.links in let b = count_is in omega (arith, a, b)

  -- ---- cells

  pub numbered_field : (at : ℕ) (x : KeptValue) → slice_get plan.kept at ≡ Some x → IsNumbered First Count at x
  numbered_field at x e = kept_numbered (cells_weaving m f crossing local) m f crossing local is_keeping (params_tell m k f rules crossing local asked) (blocks_tell m k f rules crossing local asked) at x e

  cell_quiet : (at : ℕ) (x : KeptValue) → slice_get plan.kept at ≡ Some x → Quiet (Operand.Local x.cell)
  cell_quiet at x e =
      let n : IsNumbered First Count at x = numbered_field at x e in
      let lt : at < length plan.kept = get_within plan.kept at x e in
      let long : length plan.kept ≡ Count = count_is in
      let is : x.cell ≡ First + at = n.cell in
      near_quiet x.cell (omega (arith, is)) (omega (arith, is, lt, long))

  pub distance_quiet : (v c : ℕ) → entry plan.cells v ≡ Some c → Quiet (Operand.Local c)
  distance_quiet v c e =
      let marks : List Bool = marks_of (bases_of f) (slots_of local (bases_of f)) keeping.values in
      far_quiet c (distance_far First Count (links_from keeping.places 0 0 marks) (entry keeping.places v) c (distance_there First Count keeping.places marks v c e).cell)

  kept_quiet : (v at : ℕ) → entry plan.places v ≡ Some at → Quiet (Operand.Local v)
  kept_quiet v at e d =
      let lt : v < First = place_within First (IsKeepable m f) keeping v at is_keeping e in
      ⊎_elim (λ o. let t : true ≡ false = sym o ∙ fields.kept v at e in absurd (cc)) (λ (x : IsField First Count v). let up : First + Count ≤ v = x.low in absurd (omega (arith, up, lt)))
      (fields.frame v d)

  -- ---- what is fetched and stored

  by_kept : (n at : ℕ) (o : Option KeptValue) → slice_get plan.kept at ≡ o → (fetch : Fetch) → fetch_by o ≡ Some fetch → Each Quiet (instr_operands (fetch_into n fetch))
  by_kept n at None e fetch d = absurd (cc)
  by_kept n at (Some x) e fetch d =
      let same : Fetch.Load x.ty x.cell ≡ fetch = cc in
      subst (λ (y : Fetch). Each Quiet (instr_operands (fetch_into n y))) same (cell_quiet at x e, tt)

  by_place : (n : ℕ) (o : Option ℕ) (fetch : Fetch) → fetch_for plan.kept o ≡ Some fetch → Each Quiet (instr_operands (fetch_into n fetch))
  by_place n None fetch d = absurd (cc)
  by_place n (Some at) fetch d = by_kept n at (slice_get plan.kept at) refl fetch d

  pub fetch_quiet : (n : ℕ) (x : Operand) (fetch : Fetch) → fetch_of (fetches_of plan) x ≡ Some fetch → Each Quiet (instr_operands (fetch_into n fetch))
  fetch_quiet n (Operand.Local v) fetch e = by_place n (entry plan.places v) fetch (sym (fetch_there plan.kept plan.places v) ∙ e)
  fetch_quiet n _ fetch e = absurd (cc)

  one_stored : (v at : ℕ) → entry plan.places v ≡ Some at → (o : Option KeptValue) → slice_get plan.kept at ≡ o → AllQuiet (stored_one v o)
  one_stored v at place None e = tt
  one_stored v at place (Some x) e = ((kept_quiet v at place, (cell_quiet at x e, tt)), tt)

  pub stored_quiet : (v : ℕ) → AllQuiet (stored plan v)
  stored_quiet v = on (entry plan.places v) refl
    where
      on : (o : Option ℕ) → entry plan.places v ≡ o → AllQuiet (stored_at plan.kept v o)
      on None e = tt
      on (Some at) e = one_stored v at e (slice_get plan.kept at) refl

  pub result_quiet : (o : Option ℕ) → AllQuiet (stored_result plan o)
  result_quiet None = tt
  result_quiet (Some v) = stored_quiet v

  pub phis_quiet : (ps : List Phi) → AllQuiet (stored_phis plan ps)
  phis_quiet [] = tt
  phis_quiet (p ∷ ps) = each_behind (λ (i : Instr). Each Quiet (instr_operands i)) (stored plan p.result) (stored_phis plan ps) (stored_quiet p.result) (phis_quiet ps)

  pub params_quiet : (ps : List Param) → AllQuiet (stored_params plan ps)
  params_quiet [] = tt
  params_quiet (p ∷ ps) = each_behind (λ (i : Instr). Each Quiet (instr_operands i)) (stored plan p.name) (stored_params plan ps) (stored_quiet p.name) (params_quiet ps)
