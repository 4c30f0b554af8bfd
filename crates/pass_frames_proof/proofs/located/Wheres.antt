-- Loads from the cells of the addresses of slots that are used before begin give these addresses.
use Rattle.std.proofs.Common.{◌≡◌, ◌<◌, ◌≤◌, ◌∙◌, List, None, Option, Some, ap, arith, inr, refl, subst, sym, ℕ}
use Rattle.std.specs.List.{Contains}
use Rattle.pass_frames_steps.specs.ir_model.Ty.{ptr}
use Rattle.pass_frames_steps.specs.ir_model.declared.operand.Operand.{Operand}
use Rattle.pass_frames_steps.specs.pass_copies.Slots.{early_slots}
use Rattle.pass_frames_steps.specs.pass_copies.Uses.{used_before}
use Rattle.pass_frames_steps.specs.pass_copies.declared.slot.EarlySlot.{EarlySlot}
use Rattle.pass_frames_steps.specs.frame_classes.declared.class.SlotClass.{SlotClass}
use Rattle.pass_frames_steps.specs.pass_fetch.Fetching.{fetch_of, fetches_of_all, next_after_all, value_bytes}
use Rattle.pass_frames_steps.specs.pass_fetch.declared.fetch.Fetch.{Fetch}
use Rattle.pass_frames_steps.specs.pass_frames.Tables.{class_flags, sizes_by_name}
use Rattle.pass_frames_proof.proofs.from_edges.Front.{listed_contains}
use Rattle.pass_frames_steps.proofs.led.Front.{all_still}
use Rattle.pass_frames_steps.proofs.led.Steps.{still_others}
use Rattle.pass_frames_steps.proofs.stepping.After.{not_set}
use Rattle.pass_frames_steps.specs.Distances.{SetsFrom}
use Rattle.pass_frames_steps.specs.Fetched.{CanFetch, IsGiven}
use Rattle.pass_frames_steps.specs.Lines.{at_work}
use Rattle.pass_frames_steps.specs.Loaded.{or_poison}
use Rattle.pass_frames_steps.specs.Located.{where_table}
use Rattle.pass_frames_steps.specs.Places.{Framing, before_labels, copies, written}
use Rattle.pass_frames_steps.specs.Related.{AreWheresRight, IsCell, IsWhere}
use Rattle.pass_frames_steps.proofs.pass_proofs.copies.rules.Slots.{IsCellOf, cell_found}
use Rattle.pass_frames_steps.proofs.run_laws.access.Ranges.{load_held}
use Rattle.pass_frames_steps.proofs.run_laws.embedded.Values.{alignment_is}
use Rattle.pass_frames_steps.specs.pass_proofs.fetch.rules.Fetches.{base_of}
use Rattle.pass_frames_steps.specs.run_laws.access.Lines.{Holds, Runs}
use Rattle.pass_frames_steps.specs.run_memory.Memory.{decode, load}
use Rattle.pass_frames_steps.specs.run_memory.declared.pointer.Value.{Value}
use Rattle.pass_frames_steps.specs.run_source.declared.state.Activation.{Activation}
use Rattle.pass_frames_steps.specs.run_source.declared.state.Instance.{Instance}
use Rattle.pass_frames_steps.specs.run_step.Step.{Context, Work}
use Rattle.pass_frames_steps.specs.run_step.Values.{access_of, address, value_in}
use Rattle.pass_frames_steps.specs.run_step.declared.world.World.{World}

-- what a load from the cell of an address gives
abbrev pub where_load : Context → Work → Option Fetch → Value
where_load d y None = Value.Poison
where_load d y (Some (Fetch.Load ty cell)) =
    or_poison (load d.rights y.world.memory (address (value_in y.values cell)) (access_of ty) (value_bytes ty))
where_load d y (Some (Fetch.Address base distance)) = Value.Poison

abbrev pub where_value : Framing → Context → Work → ℕ → Value
where_value x d y v = where_load d y (fetch_of (where_table x) (Operand.Local v))

-- what is fetched by the table is the address of a slot that is used before begin
pub early_found : (x : Framing) (v : ℕ) (f : Fetch) → fetch_of (where_table x) (Operand.Local v) ≡ Some f
    → IsCellOf (copies x).slots v f
early_found x v f e =
    cell_found (written x)
    (early_slots (written x)
    (used_before (written x) (class_flags x.function x.contents.classes SlotClass.Frame) (before_labels x))
    (sizes_by_name x.function x.contents.held)) v f e

module _ (x : Framing) (d : Context) (own : Option Instance) (a : Activation) (y : Work)
    (right : AreWheresRight x d.rights y.world.memory own (at_work a y)) (v : ℕ) (f : Fetch)
    (e : fetch_of (where_table x) (Operand.Local v) ≡ Some f) where
  abbrev z : IsCellOf (copies x).slots v f
  z = early_found x v f e

  pub slot_there : Contains (copies x).slots z.slot
  slot_there = listed_contains (copies x).slots z.slot z.listed

  abbrev cell_is : IsCell d.rights y.world.memory (at_work a y) z.slot.cell ptr (IsWhere own x (at_work a y) z.slot)
  cell_is = right.each z.slot slot_there

  where_is : where_value x d y v ≡ decode (access_of ptr) cell_is.bytes
  where_is =
      ap (where_load d y) (e ∙ ap (λ (g : Fetch). Some g) z.same)
      ∙ ap (λ (p : Value). or_poison (load d.rights y.world.memory (address p) (access_of ptr) (value_bytes ptr)))
      cell_is.address
      ∙ ap or_poison
      (load_held d.rights y.world.memory cell_is.block 0 (value_bytes ptr) cell_is.bytes cell_is.holds
      (access_of ptr) (value_bytes ptr) cell_is.sized (alignment_is (value_bytes ptr) refl) (omega arith))

  pub where_has : IsWhere own x (at_work a y) z.slot (where_value x d y v)
  where_has = subst (IsWhere own x (at_work a y) z.slot) (sym where_is) cell_is.has

  -- it can be loaded where the cell's name has kept its value
  given_there : (w : Work) → w.world ≡ y.world → value_in w.values z.slot.cell ≡ value_in y.values z.slot.cell
      → IsGiven d w (Fetch.Load ptr z.slot.cell) (where_value x d y v)
  given_there w world same = record {
    block = cell_is.block;
    offset = 0;
    most = value_bytes ptr;
    bytes = cell_is.bytes;
    leads = same ∙ cell_is.address;
    sized = cell_is.sized;
    holds = subst (λ (u : World). Holds d.rights u.memory cell_is.block 0 (value_bytes ptr) cell_is.bytes) (sym world)
        cell_is.holds;
    alignment = refl;
    aligned = omega arith;
    is = where_is;
  }

  pub where_given : (w : Work) (k : ℕ) → w.world ≡ y.world
      → value_in w.values z.slot.cell ≡ value_in y.values z.slot.cell → z.slot.cell < k
      → IsGiven d w f (where_value x d y v) × (base_of f < k)
  where_given w k world same low =
      subst (λ (g : Fetch). IsGiven d w g (where_value x d y v) × (base_of g < k)) (sym z.same)
      (given_there w world same, low)

-- behind the loads of kept operands it can be loaded
pub can_where : (x : Framing) (d : Context) (own : Option Instance) (a : Activation) (y : Work)
    → AreWheresRight x d.rights y.world.memory own (at_work a y) → (t : List (Option Fetch)) (n k : ℕ)
    (xs : List Operand)
    → ((s : EarlySlot) → Contains (copies x).slots s → (next_after_all t n xs ≤ s.cell) × (s.cell < k))
    → (o : Operand) (w : Work) → Runs d (fetches_of_all t n xs) y w → SetsFrom n y w
    → CanFetch (where_table x) (where_value x d y) k d w o
can_where x d own a y right t n k xs order (Operand.Local v) w runs sets = λ f e.
    let s : EarlySlot = (early_found x v f e).slot in
    let low = order s (slot_there x d own a y right v f e) in
    where_given x d own a y right v f e w k sets.world
    (still_others d s.cell (fetches_of_all t n xs) y w (all_still t n xs) (not_set t s.cell n xs (inr low.0)) runs)
    low.1
can_where x d own a y right t n k xs order _ w runs sets = tt
