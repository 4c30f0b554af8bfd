-- Behind an ordinary instruction the activation on top is related again.
use Rattle.std.proofs.Common.{◌≡◌, ◌⊎◌, inl, inr, ℕ, ◌+◌, ◌<◌, ◌≤◌, Bool, List, [], ◌∷◌, length, refl, sym, ap, ◌∙◌, subst, arith}
use Rattle.std.specs.List.{Contains}
use Rattle.std.specs.Prelude.{None, Option, Some, slice_get}
use Rattle.pass_proofs.proofs.ir_laws.facts.Lists.{get_within}
use Rattle.pass_proofs.proofs.ir_laws.facts.Members.{each_joined}
use Rattle.pass_proofs.specs.ir_model.Ty.{Ty, int, ptr}
use Rattle.pass_proofs.specs.ir_model.declared.operand.Operand.{Operand}
use Rattle.pass_proofs.specs.ir_parts.Contents.{result_of}
use Rattle.pass_proofs.specs.pass_cells.Kept.{entry}
use Rattle.pass_proofs.specs.pass_cells.Links.{bases_of, marks_of, slots_of}
use Rattle.pass_proofs.specs.pass_copies.declared.slot.EarlySlot.{EarlySlot}
use Rattle.pass_proofs.specs.pass_fetch.Fetching.{fetch_into, fetch_of, fetches_by, fetches_of_all, next_after, next_after_all, next_by}
use Rattle.pass_proofs.specs.pass_fetch.declared.fetch.Fetch.{Fetch}
use Rattle.pass_frames_code.proofs.code.Names.{Count, First, Kept, local}
use Rattle.pass_frames_code.proofs.lines.Cells.{cell_has}
use Rattle.pass_frames_code.specs.Framings.{IsFraming}
use Rattle.pass_frames_code.specs.Led.{IsNotSet}
use Rattle.pass_frames_code.specs.Places.{Framing, copies, edged, plan}
use Rattle.pass_frames_code.specs.Related.{Anything, AreCellsRight, AreCellsThere, AreWheresRight, AreWheresThere, IsCell, IsWhere, root_of}
use Rattle.pass_proofs.proofs.cells.rules.Links.{distance_there, marks_have}
use Rattle.pass_proofs.proofs.fetch.rules.Puts.{fetch_makes, fetch_rises}
use Rattle.pass_proofs.specs.run_laws.changed.Changed.{Each}
use Rattle.pass_proofs.specs.run_laws.memory.Pointers.{Home, IsValue}
use Rattle.pass_proofs.specs.run_memory.Memory.{Rights}
use Rattle.pass_proofs.specs.run_memory.declared.block.MemoryBlock.{MemoryBlock}
use Rattle.pass_proofs.specs.run_memory.declared.pointer.Value.{Value}
use Rattle.pass_proofs.specs.run_source.declared.state.Activation.{Activation}
use Rattle.pass_proofs.specs.run_source.declared.state.Instance.{Instance}
use Rattle.pass_proofs.specs.run_step.Values.{Env, value_in, value_or_poison}
use Rattle.pass_proofs.specs.run_step.declared.world.Slot.{Slot}

-- ---- names that what is fetched doesn't set

module _ (t : List (Option Fetch)) (u : ℕ) where
  one_unset : (n : ℕ) (o : Option Fetch) → (u < n) ⊎ (next_by n o ≤ u) → Each (IsNotSet u) (fetches_by n o)
  one_unset n None h = tt
  one_unset n (Some f) h = ((λ e. not_both (same e) h), tt)
    where
      same : result_of (fetch_into n f) ≡ Some u → n ≡ u
      same e = let both : Some n ≡ Some u = sym (fetch_makes n f) ∙ e in cc

      not_both : n ≡ u → (u < n) ⊎ (n + 1 ≤ u) → ⊥
      not_both e (inl lt) = omega (arith, e, lt)
      not_both e (inr le) = omega (arith, e, le)

  -- it sets the names from one on, and none from where the next ones are
  pub not_set : (n : ℕ) (xs : List Operand) → (u < n) ⊎ (next_after_all t n xs ≤ u)
      → Each (IsNotSet u) (fetches_of_all t n xs)
  not_set n [] h = tt
  not_set n (a ∷ xs) h =
      let up : n ≤ next_after t n a = fetch_rises t n (a ∷ []) in
      let more : next_after t n a ≤ next_after_all t (next_after t n a) xs = fetch_rises t (next_after t n a) xs in
      each_joined (IsNotSet u) (fetches_by n (fetch_of t a)) (fetches_of_all t (next_after t n a) xs)
      (one_unset n (fetch_of t a) (first up more h)) (not_set (next_after t n a) xs (rest up h))
    where
      first : n ≤ next_after t n a → next_after t n a ≤ next_after_all t (next_after t n a) xs
          → (u < n) ⊎ (next_after_all t (next_after t n a) xs ≤ u) → (u < n) ⊎ (next_after t n a ≤ u)
      first up more (inl lt) = inl lt
      first up more (inr le) = inr (omega (arith, more, le))

      rest : n ≤ next_after t n a → (u < n) ⊎ (next_after_all t (next_after t n a) xs ≤ u)
          → (u < next_after t n a) ⊎ (next_after_all t (next_after t n a) xs ≤ u)
      rest up (inl lt) = inl (omega (arith, up, lt))
      rest up (inr le) = inr le

-- ---- names behind all of an environment

pub past_value : (env : Env) (u : ℕ) → length env ≤ u → value_in env u ≡ Value.Poison
past_value env u le = on (slice_get env u) refl
  where
    on : (o : Option (Option Value)) → slice_get env u ≡ o → value_or_poison (slice_get env u) ≡ Value.Poison
    on None e = ap value_or_poison e
    on (Some v) e = let lt : u < length env = get_within env u v e in absurd (omega (arith, lt, le))

-- ---- cells of the activation with other values at another place

module _ (rights : Rights) (m : List MemoryBlock) (c e : Activation) where
  pub cell_turned : (cell : ℕ) (ty : Ty) (Has : Value → Type 0) → e.slots ≡ c.slots
      → value_in e.values cell ≡ value_in c.values cell → IsCell rights m c cell ty Has → IsCell rights m e cell ty Has
  cell_turned cell ty Has slots same h = record {
    block = h.block;
    address = same ∙ h.address;
    own = subst (λ (xs : List Slot). Contains xs (record { alloca = cell; block = h.block })) (sym slots) h.own;
    bytes = h.bytes;
    sized = h.sized;
    holds = h.holds;
    has = h.has;
  }

  pub cells_turned : (x : Framing) (homes : List Home) (env : Env) → e.slots ≡ c.slots → e.values ≡ c.values
      → AreCellsRight x homes rights m env c → AreCellsRight x homes rights m env e
  cells_turned x homes env slots same h = record {
    values = λ v k kept.
        cell_turned k.cell k.ty (IsValue homes (value_in env v)) slots
        (ap (λ (other : Env). value_in other k.cell) same) (h.values v k kept);
    distances = λ v cell slot told root.
        cell_turned cell (int 64) _ slots (ap (λ (other : Env). value_in other cell) same)
        (h.distances v cell slot told root);
  }

  where_turned : (x : Framing) (own : Option Instance) (s : EarlySlot)
      → value_in e.values s.temporary ≡ value_in c.values s.temporary → (v : Value) → IsWhere own x c s v
      → IsWhere own x e s v
  where_turned x None s same v h = h ∙ sym same
  where_turned x (Some y) s same v h = h

  -- cells of addresses of slots that are used before begin, where their names and temporaries keep their values
  pub wheres_turned : (x : Framing) (own : Option Instance) → e.slots ≡ c.slots
      → ((s : EarlySlot) → Contains (copies x).slots s
      → (value_in e.values s.cell ≡ value_in c.values s.cell)
      × (value_in e.values s.temporary ≡ value_in c.values s.temporary))
      → AreWheresRight x rights m own c → AreWheresRight x rights m own e
  wheres_turned x own slots same h = record {
    each = λ s listed.
        cell_turned s.cell ptr (IsWhere own x e s) slots (same s listed).0
        (cell_has rights m c s.cell ptr (IsWhere own x c s) (IsWhere own x e s)
        (where_turned x own s (same s listed).1) (h.each s listed));
  }

-- ---- cells that are right are there

module _ (x : Framing) (is : IsFraming x) where
  -- a name whose distance has a cell has a local slot
  pub has_root : (v cell : ℕ) → entry (plan x).cells v ≡ Some cell → (slot : ℕ) × (root_of x v ≡ Some slot)
  has_root v cell e =
      let slots : List (Option ℕ) = slots_of (local x is) (bases_of (edged x)) in
      let marks : List Bool = marks_of (bases_of (edged x)) slots (Kept x is).values in
      let told = distance_there (First x is) (Count x is) (Kept x is).places marks v cell e in
      let slot = marks_have (bases_of (edged x)) slots (Kept x is).values v told.marked in
      (slot.0, slot.1)

  pub right_there : (homes : List Home) (rights : Rights) (m : List MemoryBlock) (env : Env) (c : Activation)
      → AreCellsRight x homes rights m env c → AreCellsThere x rights m c
  right_there homes rights m env c h = record {
    values = λ v k kept.
        cell_has rights m c k.cell k.ty (IsValue homes (value_in env v)) Anything (λ u e. tt) (h.values v k kept);
    distances = λ v cell e.
        let root = has_root v cell e in
        cell_has rights m c cell (int 64) _ Anything (λ u d. tt) (h.distances v cell root.0 e root.1);
  }

pub wheres_there : (x : Framing) (rights : Rights) (m : List MemoryBlock) (c : Activation) (own : Option Instance)
    → AreWheresRight x rights m own c → AreWheresThere x rights m c
wheres_there x rights m c own h = record {
  each = λ s e. cell_has rights m c s.cell ptr (IsWhere own x c s) Anything (λ v k. tt) (h.each s e);
}
