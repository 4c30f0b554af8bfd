-- What stands in front of a block on a resume or destroy edge for one value, with the address of its field.
use Rattle.std.proofs.Common.{◌≡◌, ⊎_elim, ℕ, ◌+◌, ◌<◌, ◌≤◌, Bool, true, false, List, [], ◌∷◌, ◌++◌, length, refl, sym, ap, ◌∙◌, arith}
use Rattle.std.specs.Prelude.{None, Option, Some, replicate, slice_get, unwrap_or}
use Rattle.pass_proofs.specs.frame_classes.declared.class.SlotClass.{SlotClass}
use Rattle.pass_proofs.specs.ir_model.Ty.{Ty, ptr}
use Rattle.pass_proofs.specs.ir_model.declared.instr.Instr.{Instr}
use Rattle.pass_proofs.specs.ir_model.declared.operand.Operand.{Operand}
use Rattle.pass_proofs.specs.ir_paths.Slots.{allocas_of}
use Rattle.pass_proofs.specs.pass_addresses.Placing.{lies_outside, slot_fetches}
use Rattle.pass_proofs.specs.pass_cells.Kept.{flag_or_false, is_flagged}
use Rattle.pass_proofs.specs.pass_cells.Links.{bases_of}
use Rattle.pass_proofs.specs.pass_cells.Moves.{address_again, again_one, load_from, store_to}
use Rattle.pass_proofs.specs.pass_cells.declared.plan.KeptValue.{KeptValue}
use Rattle.pass_proofs.specs.pass_copies.Uses.{flag_at}
use Rattle.pass_proofs.specs.pass_fetch.Fetching.{fetch_of, fetches_by, next_by, operand_by, value_bytes}
use Rattle.pass_proofs.specs.pass_fetch.declared.fetch.Fetch.{Fetch}
use Rattle.pass_proofs.specs.pass_frames.Framed.{begin_of}
use Rattle.pass_proofs.specs.pass_frames.Tables.{is_of}
use Rattle.pass_frames_code.proofs.agains.One.{loaded_there, slot_address}
use Rattle.pass_frames_code.proofs.code.Idle.{only_idle}
use Rattle.pass_frames_code.proofs.code.Left.{Far, addressed_idle, calm_addressed}
use Rattle.pass_frames_code.proofs.code.Names.{Count, First, IsLeft, cell_left, far_left, local}
use Rattle.pass_frames_code.proofs.layers.Grown.{both_becomes}
use Rattle.pass_frames_code.proofs.layers.Idle.{all_stay, state_stays}
use Rattle.pass_frames_code.proofs.lines.Fillers.{field_fetched}
use Rattle.pass_frames_code.specs.Framings.{IsFraming}
use Rattle.pass_frames_code.specs.Layers.{IsIdle, Layer, becomes, grown, only, passed}
use Rattle.pass_frames_code.specs.Passes.{fetching_at}
use Rattle.pass_frames_code.specs.Places.{Framing, addressing_layer, edged, offsets, plan, unmarked, with_copies}
use Rattle.pass_frames_code.specs.Related.{root_of}
use Rattle.pass_proofs.proofs.addresses.rules.Placed.{outside_unfetched}
use Rattle.pass_proofs.proofs.cells.rules.Links.{slot_flagged as local_flagged}
use Rattle.pass_proofs.proofs.copies.begin_order.Marks.{none_flagged}
use Rattle.pass_proofs.proofs.frames.begin_order.Framed.{alloca_pointer, frame_alone, in_either, old_slot, pointer_low, slot_alloca}
use Rattle.pass_proofs.proofs.frames.begin_order.Tables.{IsOfClass, slot_flagged}
use Rattle.pass_proofs.specs.addresses.rules.Addresses.{lies_in_frame}
use Rattle.pass_proofs.specs.frames.begin_order.Fields.{IsField}
use Rattle.pass_proofs.specs.run_laws.changed.Changed.{Each}

-- ---- a local slot isn't in the frame

flags_same : (flags : List Bool) (v : ℕ) → is_flagged flags v ≡ true → flag_at flags v ≡ true
flags_same flags v e = on (slice_get flags v) e
  where
    on : (o : Option Bool) → flag_or_false o ≡ true → unwrap_or o false ≡ true
    on None d = d
    on (Some b) d = d

local_alone : (o : Option SlotClass) → is_of SlotClass.Local o ≡ true → o ≡ Some SlotClass.Local
local_alone None e = absurd (cc)
local_alone (Some SlotClass.Ramp) e = absurd (cc)
local_alone (Some SlotClass.Local) e = refl
local_alone (Some SlotClass.Frame) e = absurd (cc)

module _ (x : Framing) (is : IsFraming x) where
  abbrev names : ℕ
  names = length (with_copies x).names

  local_class : (v : ℕ) → flag_at (local x is) v ≡ true
      → IsOfClass SlotClass.Local x.contents.classes 0 (allocas_of x.function) v
  local_class v e =
      ⊎_elim (λ h. let t : true ≡ false = sym h ∙ none_flagged (length x.function.names) v in absurd (cc)) (λ y. y)
      (slot_flagged SlotClass.Local x.contents.classes 0 (allocas_of x.function)
      (replicate (length x.function.names) false) v e)

  of_class : (class : SlotClass) (v : ℕ) → (y : IsOfClass class x.contents.classes 0 (allocas_of x.function) v)
      → is_of class (slice_get x.contents.classes y.number) ≡ true
  of_class class v y =
      let n : ℕ = y.number in
      let same : 0 + n ≡ n = omega arith in
      ap (λ (j : ℕ). is_of class (slice_get x.contents.classes j)) (sym same) ∙ y.class_is

  two_classes : (v : ℕ) → IsOfClass SlotClass.Local x.contents.classes 0 (allocas_of x.function) v
      → IsOfClass SlotClass.Frame x.contents.classes 0 (allocas_of x.function) v → ⊥
  two_classes v one other =
      let told = is.frameable.contents.classes_are.each in
      let local_is = told one.number v SlotClass.Local one.slot
      (local_alone (slice_get x.contents.classes one.number) (of_class SlotClass.Local v one)) in
      let frame_is = told other.number v SlotClass.Frame other.slot
      (frame_alone (slice_get x.contents.classes other.number) (of_class SlotClass.Frame v other)) in
      local_is.1 frame_is.1

  in_frame_not : (v : ℕ) → flag_at (local x is) v ≡ true → lies_in_frame (offsets x) v ≡ true → ⊥
  in_frame_not v e lies =
      let one : IsOfClass SlotClass.Local x.contents.classes 0 (allocas_of x.function) v = local_class v e in
      let low : v < First x is =
      pointer_low x.code is.position x.layout x.function x.contents is.begin names is.frameable v
      (alloca_pointer x.code is.position x.layout x.function x.contents is.begin names is.frameable v
      (slot_alloca x.code is.position x.layout x.function x.contents is.begin names is.frameable v SlotClass.Local
      one)) in
      ⊎_elim
      (λ old. two_classes v one
      (old_slot x.code is.position x.layout x.function x.contents is.begin names is.frameable v old))
      (λ (y : IsField (First x is) (Count x is) v).
      let up : First x is + Count x is ≤ v = y.low in absurd (omega (arith, up, low)))
      (in_either x.code is.position x.layout x.function x.contents is.begin names is.frameable v lies)

  pub root_unfetched : (v slot : ℕ) → root_of x v ≡ Some slot
      → fetch_of (slot_fetches (begin_of x.function) (offsets x)) (Operand.Local slot) ≡ None
  root_unfetched v slot e =
      outside_unfetched (begin_of x.function) (offsets x) slot (on (lies_in_frame (offsets x) slot) refl)
    where
      on : (b : Bool) → lies_in_frame (offsets x) slot ≡ b → lies_in_frame (offsets x) slot ≡ false
      on false d = d
      on true d =
          absurd (in_frame_not slot
          (flags_same (local x is) slot (local_flagged (local x is) (bases_of (edged x)) v slot e)) d)

-- ---- the code of one value

module _ (x : Framing) (k : ℕ) where
  abbrev pub A : Layer (ℕ × Unit {0})
  A = addressing_layer x k

  abbrev T : List (Option Fetch)
  T = slot_fetches (begin_of x.function) (offsets x)

  -- a load from a field goes by its address
  load_code : (n m field d : ℕ) (ty : Ty) → slice_get (offsets x) field ≡ Some (Some d)
      → (becomes A (m, tt) (load_from n ty field) ≡ loaded_there (begin_of x.function) n m d ty)
      × (A.after (m, tt) (load_from n ty field) ≡ (m + 1, tt))
  load_code n m field d ty told =
      let at = field_fetched x k field d told in (
        both_becomes (fetching_at (unmarked x) T k) (only (lies_outside (offsets x))) m tt (load_from n ty field)
            ∙ (λ i. grown (only (lies_outside (offsets x))) tt
            ((fetches_by m (at i) ++ [])
            ++ (Instr.Load n ty (operand_by m (at i) (Operand.Local field)) (value_bytes ty) ∷ [])))
            ∙ all_stay (only (lies_outside (offsets x))) (loaded_there (begin_of x.function) n m d ty)
            (only_idle (lies_outside (offsets x)) _ refl, (only_idle (lies_outside (offsets x)) _ refl, tt)) tt,
        (λ i. (next_by m (at i), tt)),
      )

-- behind the load stands the store into the cell, and the address from the slot
abbrev pub behind_load : ℕ → KeptValue → List Instr
behind_load n v = store_to v.field_ty n v.field_cell ∷ address_again n v.cell v.slot

module _ (x : Framing) (is : IsFraming x) (k : ℕ) where
  behind_idle : (n at : ℕ) (v : KeptValue) → Far x is ≤ n → slice_get (plan x).kept at ≡ Some v
      → IsLeft x is v.field_cell
      → ((slot : ℕ) → v.slot ≡ Some slot
      → fetch_of (slot_fetches (begin_of x.function) (offsets x)) (Operand.Local slot) ≡ None)
      → Each (IsIdle (A x k)) (behind_load n v)
  behind_idle n at v low there quiet free = (
    calm_addressed x is k (store_to v.field_ty n v.field_cell) (tt, (far_left x is n low, (quiet, tt))),
    on v.slot free,
  )
    where
      on : (o : Option ℕ)
          → ((slot : ℕ) → o ≡ Some slot
          → fetch_of (slot_fetches (begin_of x.function) (offsets x)) (Operand.Local slot) ≡ None)
          → Each (IsIdle (A x k)) (address_again n v.cell o)
      on None f = tt
      on (Some slot) f = (
        addressed_idle x is k (slot_address n slot) tt (f slot refl, ((far_left x is n low).0, tt)),
        (
          calm_addressed x is k (store_to ptr (n + 1) v.cell)
              (tt, (far_left x is (n + 1) (omega (arith, low)), (cell_left x is at v there, tt))),
          tt,
        ),
      )

  pub again_code : (n m at d : ℕ) (v : KeptValue) → Far x is ≤ n → slice_get (plan x).kept at ≡ Some v
      → IsLeft x is v.field_cell
      → ((slot : ℕ) → v.slot ≡ Some slot
      → fetch_of (slot_fetches (begin_of x.function) (offsets x)) (Operand.Local slot) ≡ None)
      → slice_get (offsets x) v.field ≡ Some (Some d)
      → (grown (A x k) (m, tt) (again_one n (Some v))
      ≡ loaded_there (begin_of x.function) n m d v.field_ty ++ behind_load n v)
      × (passed (A x k) (m, tt) (again_one n (Some v)) ≡ (m + 1, tt))
  again_code n m at d v low there quiet free told =
      let code = load_code x k n m v.field d v.field_ty told in
      let idle : Each (IsIdle (A x k)) (behind_load n v) = behind_idle n at v low there quiet free in (
        (λ i. code.0 i ++ grown (A x k) (code.1 i) (behind_load n v))
            ∙ ap (λ (js : List Instr). loaded_there (begin_of x.function) n m d v.field_ty ++ js)
            (all_stay (A x k) (behind_load n v) idle (m + 1, tt)),
        (λ i. passed (A x k) (code.1 i) (behind_load n v)) ∙ state_stays (A x k) (behind_load n v) idle (m + 1, tt),
      )
