-- The cells from which fields are filled, and the code that fills them.
use Rattle.pass_proofs.specs.ir_model.Ty.{Ty, int}
use Rattle.pass_proofs.specs.ir_model.declared.instr.Instr.{Instr}
use Rattle.pass_proofs.specs.ir_model.declared.operand.Operand.{Operand}
use Rattle.pass_proofs.specs.pass_addresses.Placing.{lies_outside, slot_fetches}
use Rattle.pass_proofs.specs.pass_cells.Kept.{entry}
use Rattle.pass_proofs.specs.pass_cells.Kept.{value_types}
use Rattle.pass_proofs.specs.pass_cells.Links.{bases_of, marks_of, slots_of}
use Rattle.pass_proofs.specs.pass_cells.Links.{cell_name, field_name}
use Rattle.pass_proofs.specs.pass_cells.Moves.{load_from, saved_one, store_to}
use Rattle.pass_proofs.specs.pass_cells.Plan.{kept_value, type_at}
use Rattle.pass_proofs.specs.pass_cells.declared.plan.KeptValue.{KeptValue}
use Rattle.pass_proofs.specs.pass_fetch.Fetching.{address_behind, fetch_at, fetch_of, fetches_by, next_by, operand_by, value_bytes}
use Rattle.pass_proofs.specs.pass_fetch.declared.fetch.Fetch.{Fetch}
use Rattle.pass_proofs.specs.pass_frames.Framed.{begin_of}
use Rattle.pass_frames_code.proofs.code.Idle.{only_idle}
use Rattle.pass_frames_code.proofs.code.Left.{Far, calm_addressed}
use Rattle.pass_frames_code.proofs.code.Names.{Count, F, First, IsLeft, Kept, cell_left, distance_left, far_left, keeping, local}
use Rattle.pass_frames_code.proofs.layers.Grown.{both_becomes}
use Rattle.pass_frames_code.proofs.layers.Idle.{all_stay}
use Rattle.pass_frames_code.specs.Framings.{IsFraming}
use Rattle.pass_frames_code.specs.Layers.{IsIdle, Layer, becomes, grown, only, passed}
use Rattle.pass_frames_code.specs.Lines.{at_work}
use Rattle.pass_frames_code.specs.Passes.{fetching_at}
use Rattle.pass_frames_code.specs.Places.{Framing, addressing_layer, edged, offsets, plan, unmarked}
use Rattle.pass_frames_code.specs.Related.{AreCellsRight, IsCell, IsDistanceOf, IsKeptAs, IsKeptValue}
use Rattle.pass_proofs.proofs.cells.rules.Links.{distance_there, marks_have}
use Rattle.pass_proofs.proofs.cells.rules.Plans.{kept_of}
use Rattle.pass_proofs.specs.run_ints.declared.num.Num.{Num}
use Rattle.pass_proofs.specs.run_laws.memory.Pointers.{Home, IsValue}
use Rattle.pass_proofs.specs.run_memory.declared.pointer.Access.{Access}
use Rattle.pass_proofs.specs.run_memory.declared.pointer.Value.{Value}
use Rattle.pass_proofs.specs.run_source.declared.state.Activation.{Activation}
use Rattle.pass_proofs.specs.run_step.Step.{Context, Work}
use Rattle.pass_proofs.specs.run_step.Values.{Env, stored, value_in, value_of}
use Rattle.std.proofs.Common.{◌≡◌, inl, inr, ℕ, ◌+◌, ◌^◌, ◌<◌, ◌≤◌, Bool, List, [], ◌∷◌, ◌++◌, refl, sym, ap, ◌∙◌, subst}
use Rattle.std.proofs.lemmas.Bool.{lt-ltb}
use Rattle.std.proofs.lemmas.Option.{slice_get-map}
use Rattle.std.specs.Prelude.{None, Option, Some, option_map, slice_get, ◌&&◌, ◌==◌, if◌then◌else◌}

-- ---- what is stored of a distance is the distance

number_stored : (n : ℕ) → n < 2 ^ 64
    → stored (Access.Int 64) (Value.Int (record { width = 64; bits = n })) ≡ Value.Int (record {
      width = 64;
      bits = n;
    })
number_stored n lt =
    ap (λ (b : Bool). value_of (if (64 == 64) && b then Num.Is (record { width = 64; bits = n }) else Num.Poison))
    (lt-ltb n (2 ^ 64) lt)

pub distance_stored : (root v d : Value) → IsDistanceOf root v d → IsDistanceOf root v (stored (Access.Int 64) d)
distance_stored root v d (inl e) = inl e
distance_stored root v d (inr h) =
    inr (h.0, h.1, h.2, h.3, h.4, ap (stored (Access.Int 64)) h.5 ∙ number_stored h.1.bits h.4)

module _ (x : Framing) (is : IsFraming x) (homes : List Home) (c : Context) (env : Env) (a : Activation) (w : Work)
    (right : AreCellsRight x homes c.rights w.world.memory env (at_work a w)) (v : ℕ) (k : KeptValue)
    (kept : IsKeptValue x v k) where
  abbrev slots : List (Option ℕ)
  slots = slots_of (local x is) (bases_of (edged x))

  abbrev cells : List (Option ℕ)
  cells = (plan x).cells

  abbrev IsFilled : KeptValue → Type 0
  IsFilled z =
      IsCell c.rights w.world.memory (at_work a w) z.field_cell z.field_ty (IsKeptAs homes env v z z.slot)

  abbrev made : ℕ → Option ℕ → Option ℕ → KeptValue
  made at o slot =
      kept_value (cell_name (First x is) at) (field_name (First x is) (Count x is) at)
      (type_at (value_types (F x is) (Kept x is)) at) o slot

  -- the cell from which its field is filled has it, or its distance
  by_cell : (at : ℕ) (o : Option ℕ) → entry cells v ≡ o → k ≡ made at o (entry slots v) → IsFilled k
  by_cell at None e same =
      subst IsFilled (sym same)
      (subst (λ (z : KeptValue). IsCell c.rights w.world.memory (at_work a w) z.cell z.ty
      (IsValue homes (value_in env v))) same (right.values v k kept))
  by_cell at (Some d) e same =
      let marks : List Bool = marks_of (bases_of (F x is)) slots (Kept x is).values in
      let told = distance_there (First x is) (Count x is) (Kept x is).places marks v d e in
      let slot = marks_have (bases_of (F x is)) slots (Kept x is).values v told.marked in
      subst IsFilled (sym same)
      (subst (λ (o : Option ℕ). IsCell c.rights w.world.memory (at_work a w) d (int 64)
      (IsKeptAs homes env v (made at (Some d) o) o)) (sym slot.1) (right.distances v d slot.0 e slot.1))

  pub filled_from : IsFilled k
  filled_from =
      let y = kept_of (First x is) (Count x is) (value_types (F x is) (Kept x is)) cells slots (Kept x is).values
      kept.number k kept.there in
      let here : slice_get (Kept x is).values kept.number ≡ Some v =
      (keeping x is).there v kept.number kept.told in
      let one : Some y.0 ≡ Some v = sym y.1 ∙ here in
      let name : y.0 ≡ v = cc in
      by_cell kept.number (entry cells v) refl
      (y.2 ∙ (λ j. made kept.number (entry cells (name j)) (entry slots (name j))))

-- ---- the code

module _ (x : Framing) (k : ℕ) where
  abbrev A : Layer (ℕ × Unit {0})
  A = addressing_layer x k

  abbrev T : List (Option Fetch)
  T = slot_fetches (begin_of x.function) (offsets x)

  pub field_fetched : (v d : ℕ) → slice_get (offsets x) v ≡ Some (Some d)
      → fetch_of T (Operand.Local v) ≡ Some (Fetch.Address (begin_of x.function) d)
  field_fetched v d e =
      ap fetch_at (slice_get-map (option_map (Fetch.Address (begin_of x.function))) (offsets x) v)
      ∙ ap (λ (o : Option (Option ℕ)). fetch_at (option_map (option_map (Fetch.Address (begin_of x.function))) o)) e

  -- a store into a field goes by its address
  abbrev pub stored_there : ℕ → ℕ → ℕ → Ty → List Instr
  stored_there n m d ty =
      address_behind m (begin_of x.function) d
      ∷ Instr.Store (record { ty = ty; value = Operand.Local n }) (Operand.Local m) (value_bytes ty) ∷ []

  store_code : (n m field d : ℕ) (ty : Ty) → fetch_of T (Operand.Local n) ≡ None
      → slice_get (offsets x) field ≡ Some (Some d)
      → (becomes A (m, tt) (store_to ty n field) ≡ stored_there n m d ty)
      × (A.after (m, tt) (store_to ty n field) ≡ (m + 1, tt))
  store_code n m field d ty none told =
      let at = field_fetched field d told in (
        both_becomes (fetching_at (unmarked x) T k) (only (lies_outside (offsets x))) m tt (store_to ty n field)
            ∙ (λ i. grown (only (lies_outside (offsets x))) tt
            ((fetches_by m (none i) ++ (fetches_by (next_by m (none i)) (at i) ++ []))
            ++ (Instr.Store (record { ty = ty; value = operand_by m (none i) (Operand.Local n) })
            (operand_by (next_by m (none i)) (at i) (Operand.Local field)) (value_bytes ty) ∷ [])))
            ∙ all_stay (only (lies_outside (offsets x))) (stored_there n m d ty)
            (only_idle (lies_outside (offsets x)) _ refl, (only_idle (lies_outside (offsets x)) _ refl, tt)) tt,
        (λ i. (next_by (next_by m (none i)) (at i), tt)),
      )

module _ (x : Framing) (is : IsFraming x) (k : ℕ) where
  pub saved_code : (n m at d : ℕ) (v : KeptValue) → Far x is ≤ n → slice_get (plan x).kept at ≡ Some v
      → IsLeft x is v.field_cell
      → slice_get (offsets x) v.field ≡ Some (Some d)
      → (grown (A x k) (m, tt) (saved_one n (Some v))
      ≡ load_from n v.field_ty v.field_cell ∷ stored_there x k n m d v.field_ty)
      × (passed (A x k) (m, tt) (saved_one n (Some v)) ≡ (m + 1, tt))
  saved_code n m at d v low there quiet told =
      let load : Instr = load_from n v.field_ty v.field_cell in
      let store : Instr = store_to v.field_ty n v.field in
      let idle : IsIdle (A x k) load = calm_addressed x is k load (tt, (quiet, tt)) in
      let code = store_code x k n m v.field d v.field_ty (far_left x is n low).0 told in (
        (λ i. idle.stays (m, tt) i ++ (becomes (A x k) (idle.state (m, tt) i) store ++ []))
            ∙ (λ i. load ∷ (code.0 i ++ [])),
        (λ i. (A x k).after (idle.state (m, tt) i) store) ∙ code.1,
      )

-- the cell from which a field is filled isn't fetched
module _ (x : Framing) (is : IsFraming x) where
  pub filler_left : (v : ℕ) (k : KeptValue) → IsKeptValue x v k → IsLeft x is k.field_cell
  filler_left v k kept =
      let slots : List (Option ℕ) = slots_of (local x is) (bases_of (edged x)) in
      let y = kept_of (First x is) (Count x is) (value_types (F x is) (Kept x is)) (plan x).cells slots
      (Kept x is).values kept.number k kept.there in
      on y.0 (entry (plan x).cells y.0) refl y.2
    where
      on : (u : ℕ) (o : Option ℕ) → entry (plan x).cells u ≡ o
          → k ≡ kept_value (cell_name (First x is) kept.number) (field_name (First x is) (Count x is) kept.number)
          (type_at (value_types (F x is) (Kept x is)) kept.number) o
          (entry (slots_of (local x is) (bases_of (edged x))) u)
          → IsLeft x is k.field_cell
      on u None e same =
          subst (λ (z : KeptValue). IsLeft x is z.field_cell) (sym same)
          (subst (λ (z : KeptValue). IsLeft x is z.cell) same (cell_left x is kept.number k kept.there))
      on u (Some d) e same =
          subst (λ (z : KeptValue). IsLeft x is z.field_cell) (sym same) (distance_left x is u d e)
