-- An alloca in front of a framed form's entry with a name of the coroutine's is one of its entry, and lies in no
-- frame.
use Rattle.std.proofs.Common.{◌≡◌, inl, inr, ℕ, zero, suc, ◌+◌, ◌<◌, ◌≤◌, Bool, true, false, List, [], ◌∷◌, ◌++◌, Option, Some, None, length, refl, sym, ap, ◌∙◌, subst, arith}
use Rattle.std.specs.Prelude.{if◌then◌else◌, not, option_to_list, slice_get, unwrap_or, ◌==◌}
use Rattle.compiler.specs.flow_solver.Paths.{IsListed}
use Rattle.compiler.proofs.ir_laws.facts.Members.{each_joined}
use Rattle.compiler.proofs.ir_laws.facts.Truth.{equal_numbers, itself}
use Rattle.compiler.proofs.ir_laws.paths.edges.Lists.{from_filtered}
use Rattle.compiler.proofs.ir_laws.paths.woven_rules.Unbroken.{of_listed}
use Rattle.compiler.specs.ir_model.Ty.{Ty, int}
use Rattle.compiler.specs.ir_model.declared.instr.Instr.{Instr}
use Rattle.compiler.specs.ir_paths.Slots.{allocas_in}
use Rattle.compiler.specs.pass_addresses.Placing.{is_none, lies_outside}
use Rattle.compiler.specs.pass_cells.Links.{link_name}
use Rattle.compiler.specs.pass_cells.Moves.{cell_alloca}
use Rattle.compiler.proofs.ir_laws.paths.uses.Paths.{place_of}
use Rattle.compiler.specs.pass_addresses.Placing.{slot_fetches}
use Rattle.compiler.specs.pass_frames.Framed.{begin_of}
use Rattle.pass_frames_prices.proofs.bounds.Weights.{woven_least}
use Rattle.pass_frames_meaning.proofs.pass_frames_proof.from_edges.Front.{listed_contains}
use Rattle.pass_frames_meaning.proofs.pass_frames_proof.stepping.Names.{edged_named, named_written, slots_new}
use Rattle.pass_frames_meaning.specs.pass_frames_proof.Passes.{fetching_at}
use Rattle.compiler.proofs.pass_proofs.cells.rules.Fronts.{HasCells}
use Rattle.compiler.specs.pass_cells.Written.{distance_alloca, distance_allocas, kept_allocas, link_allocas}
use Rattle.compiler.specs.pass_cells.declared.plan.KeptValue.{KeptValue}
use Rattle.compiler.specs.pass_copies.BeginCopies.{slot_allocas}
use Rattle.compiler.specs.pass_copies.declared.slot.EarlySlot.{EarlySlot}
use Rattle.pass_frames_prices.proofs.bounds.Allocas.{many, many_append}
use Rattle.pass_frames_meaning.proofs.pass_frames_proof.code.Names.{has_cells}
use Rattle.pass_frames_meaning.proofs.pass_frames_proof.layers.Grown.{both_becomes}
use Rattle.pass_frames_meaning.specs.pass_frames_proof.Entering.{front_allocas}
use Rattle.pass_frames_meaning.specs.pass_frames_proof.Framings.{IsFraming}
use Rattle.pass_frames_meaning.specs.pass_frames_proof.Layers.{Layer, becomes, both, grown, only, passed, woven}
use Rattle.pass_frames_meaning.specs.pass_frames_proof.Places.{Framing, addressing_layer, copies, edged, instrs_at, named, offsets, placed_layer, plan, unmarked, unmarked_layer, written}
use Rattle.compiler.specs.pass_front.Front.{is_alloca}
use Rattle.compiler.specs.pass_proofs.addresses.rules.Addresses.{lies_in_frame}
use Rattle.compiler.specs.run_laws.changed.Changed.{Each}

-- ---- what lies in the frame goes

module _ (P : Instr → Type 0) where
  -- all that a layer puts out
  record IsOutput {S : Type 0} (L : Layer S) : Type 0 where
    front : Each P L.front
    becoming : (s : S) (i : Instr) → Each P (becomes L s i)
    back : (s : S) → Each P (L.back s)

  grown_output : {S : Type 0} (L : Layer S) → IsOutput L → (s : S) (is : List Instr) → Each P (grown L s is)
  grown_output L h s [] = tt
  grown_output L h s (i ∷ is) =
      each_joined P (becomes L s i) (grown L (L.after s i) is) (h.becoming s i) (grown_output L h (L.after s i) is)

  -- the last layer puts all out
  both_output : {S T : Type 0} (L : Layer S) (M : Layer T) → IsOutput M → IsOutput (both L M)
  both_output L M h = record {
    front = each_joined P M.front (grown M M.start L.front) h.front (grown_output M h M.start L.front);
    becoming = λ s i. subst (Each P) (sym (both_becomes L M s.0 s.1 i)) (grown_output M h s.1 (becomes L s.0 i));
    back = λ s. each_joined P (grown M s.1 (L.back s.0)) (M.back (passed M s.1 (L.back s.0)))
        (grown_output M h s.1 (L.back s.0)) (h.back (passed M s.1 (L.back s.0)));
  }

  woven_output : {S : Type 0} (L : Layer S) → IsOutput L → (is : List Instr) → Each P (woven L is)
  woven_output L h is =
      each_joined P L.front (grown L L.start is ++ L.back (passed L L.start is)) h.front
      (each_joined P (grown L L.start is) (L.back (passed L L.start is)) (grown_output L h L.start is)
      (h.back (passed L L.start is)))

abbrev Passes : (Instr → Bool) → Instr → Type 0
Passes test i = test i ≡ true

only_output : (test : Instr → Bool) → IsOutput (Passes test) (only test)
only_output test = record { front = tt; becoming = λ s i. on i (test i) refl; back = λ s. tt }
  where
    on : (i : Instr) (b : Bool) → test i ≡ b → Each (Passes test) (option_to_list (if b then Some i else None) ++ [])
    on i true e = (e, tt)
    on i false e = tt

-- ---- counts of a name

abbrev one_if : Bool → ℕ
one_if true = 1
one_if false = 0

abbrev mark : ℕ → ℕ → ℕ
mark v u = one_if (u == v)

marked_once : (v : ℕ) → mark v v ≡ 1
marked_once v = ap one_if (itself v)

marked_not : (v u : ℕ) → v < u → mark v u ≡ 0
marked_not v u lt = on (u == v) refl
  where
    on : (b : Bool) → (u == v) ≡ b → one_if b ≡ 0
    on true e = let same : u ≡ v = equal_numbers u v e in absurd (omega (arith, same, lt))
    on false e = refl

named_counts : (v : ℕ) (is : List Instr) → IsListed v (allocas_in is) → 1 ≤ many (mark v) is
named_counts v [] l = absurd l
named_counts v (Instr.Alloca r ty align ∷ is) (inl e) =
    let one : mark v r ≡ 1 = ap (mark v) (sym e) ∙ marked_once v in omega (arith, one)
named_counts v (Instr.Alloca r ty align ∷ is) (inr l) = let a = named_counts v is l in omega (arith, a)
named_counts v (_ ∷ is) l = let a = named_counts v is l in omega (arith, a)

counts_named : (v : ℕ) (is : List Instr) → 1 ≤ many (mark v) is → IsListed v (allocas_in is)
counts_named v [] le = absurd (omega (arith, le))
counts_named v (Instr.Alloca r ty align ∷ is) le = on (r == v) refl le (counts_named v is)
  where
    on : (b : Bool) → (r == v) ≡ b → 1 ≤ one_if b + many (mark v) is
        → (1 ≤ many (mark v) is → IsListed v (allocas_in is)) → IsListed v (r ∷ allocas_in is)
    on true e k more = inl (sym (equal_numbers r v e))
    on false e k more = inr (more (omega (arith, k)))
counts_named v (_ ∷ is) le = counts_named v is (omega (arith, le))

-- the alloca of a name
record IsAllocaAt (is : List Instr) (v : ℕ) : Type 0 where
  at : ℕ
  ty : Ty
  align : ℕ
  there : slice_get is at ≡ Some (Instr.Alloca v ty align)
  listed : IsListed (Instr.Alloca v ty align) is

later : (i : Instr) (is : List Instr) (v : ℕ) → IsAllocaAt is v → IsAllocaAt (i ∷ is) v
later i is v x = record { at = suc x.at; ty = x.ty; align = x.align; there = x.there; listed = inr x.listed }

alloca_at : (is : List Instr) (v : ℕ) → IsListed v (allocas_in is) → IsAllocaAt is v
alloca_at [] v l = absurd l
alloca_at (Instr.Alloca r ty align ∷ is) v (inl e) =
    let same : Instr.Alloca v ty align ≡ Instr.Alloca r ty align = ap (λ (n : ℕ). Instr.Alloca n ty align) e in
    record { at = 0; ty = ty; align = align; there = ap (λ (i : Instr). Some i) (sym same); listed = inl same }
alloca_at (Instr.Alloca r ty align ∷ is) v (inr l) = later (Instr.Alloca r ty align) is v (alloca_at is v l)
alloca_at (i ∷ is) v l = later i is v (alloca_at is v l)

allocas_listed : (is : List Instr) (v align : ℕ) (ty : Ty) → IsListed (Instr.Alloca v ty align) is
    → IsListed v (allocas_in is)
allocas_listed [] v align ty l = absurd l
allocas_listed (Instr.Alloca r t a ∷ is) v align ty (inl e) = inl (cc)
allocas_listed (Instr.Alloca r t a ∷ is) v align ty (inr l) = inr (allocas_listed is v align ty l)
allocas_listed (i ∷ is) v align ty (inl e) = absurd (cc)
allocas_listed (i ∷ is) v align ty (inr l) = allocas_listed is v align ty l

-- ---- what passes put in has new names

abbrev IsNone : ℕ → List Instr → Type 0
IsNone v is = many (mark v) is ≡ 0

slots_none : (v : ℕ) (ss : List EarlySlot)
    → ((s : EarlySlot) → IsListed s ss → (v < s.temporary) × (v < s.cell)) → IsNone v (slot_allocas ss)
slots_none v [] h = refl
slots_none v (s ∷ ss) h =
    let one = h s (inl refl) in
    let a = marked_not v s.temporary one.0 in
    let b = marked_not v s.cell one.1 in
    let rest = slots_none v ss (λ z l. h z (inr l)) in
    omega (arith, a, b, rest)

links_none : (v first count n : ℕ) → v < first → IsNone v (link_allocas first count n)
links_none v first count zero lt = refl
links_none v first count (suc n) lt =
    let a = links_none v first count n lt in
    let b = marked_not v (link_name first count n) (omega (arith, lt)) in
    let e = many_append (mark v) (link_allocas first count n) (cell_alloca (link_name first count n) (int 64) ∷ []) in
    omega (arith, a, b, e)

kept_none : (v first : ℕ) (ks : List KeptValue) → v < first → ((k : KeptValue) → IsListed k ks → HasCells first k)
    → IsNone v (kept_allocas ks)
kept_none v first [] lt h = refl
kept_none v first (k ∷ ks) lt h =
    let one = h k (inl refl) in
    let cell : first ≤ k.cell = one.cell in
    let field : first ≤ k.field = one.field in
    let a = marked_not v k.cell (omega (arith, cell, lt)) in
    let b = marked_not v k.field (omega (arith, field, lt)) in
    let c = on k.slot in
    let rest = kept_none v first ks lt (λ z l. h z (inr l)) in
    let e = many_append (mark v) (distance_allocas k) (kept_allocas ks) in
    omega (arith, a, b, c, e, rest)
  where
    on : (o : Option ℕ) → many (mark v) (distance_alloca k.field_cell k.field_ty o) ≡ 0
    on None = refl
    on (Some s) =
        let far : first ≤ k.field_cell = (h k (inl refl)).field_cell in
        let a = marked_not v k.field_cell (omega (arith, far, lt)) in omega (arith, a)

-- ---- of a coroutine

module _ (x : Framing) (is : IsFraming x) (v : ℕ) (low : v < length (edged x).names) where
  written_far : length (edged x).names ≤ length (written x).names
  written_far =
      let a : length (edged x).names ≤ length (named x).names = edged_named x in
      let b : length (named x).names ≤ length (written x).names = named_written x in
      omega (arith, a, b)

  new_slots : IsNone v (slot_allocas (copies x).slots)
  new_slots = slots_none v (copies x).slots (λ s l.
      let far = slots_new x s (listed_contains (copies x).slots s l) in
      let up = written_far in
      let one : length (written x).names ≤ s.temporary = far.0 in
      let two : length (written x).names ≤ s.cell = far.1 in
      (omega (arith, low, up, one), omega (arith, low, up, two)))

  new_kept : IsNone v (kept_allocas (plan x).kept)
  new_kept = kept_none v (length (edged x).names) (plan x).kept low (λ k l.
      let at = place_of (plan x).kept k l in has_cells x is at.0 k at.1)

  own_listed : IsListed v (allocas_in (woven (placed_layer x 0) (instrs_at x 0)))
      → IsListed v (allocas_in (instrs_at x 0))
  own_listed l =
      let most = woven_least (mark v) x in
      let some = named_counts v (woven (placed_layer x 0) (instrs_at x 0)) l in
      let a = new_kept in
      let b = links_none v (plan x).first (length (plan x).kept) (plan x).links low in
      let c = new_slots in
      counts_named v (instrs_at x 0) (omega (arith, most, some, a, b, c))

  outputs : Each (Passes (lies_outside (offsets x))) (woven (placed_layer x 0) (instrs_at x 0))
  outputs =
      let P : Instr → Type 0 = Passes (lies_outside (offsets x)) in
      woven_output P (placed_layer x 0)
      (both_output P (unmarked_layer x 0) (addressing_layer x 0)
      (both_output P (fetching_at (unmarked x) (slot_fetches (begin_of x.function) (offsets x)) 0)
      (only (lies_outside (offsets x))) (only_output (lies_outside (offsets x))))) (instrs_at x 0)

  absent : (b : Bool) → b ≡ true → not b ≡ false
  absent true e = refl
  absent false e = absurd (cc)

  pub front_own : IsListed v (allocas_in (front_allocas x))
      → (at : ℕ) × (align : ℕ) × (ty : Ty) × (slice_get (instrs_at x 0) at ≡ Some (Instr.Alloca v ty align))
      × (lies_in_frame (offsets x) v ≡ false)
  front_own l =
      let here = alloca_at (front_allocas x) v l in
      let i : Instr = Instr.Alloca v here.ty here.align in
      let code : List Instr = woven (placed_layer x 0) (instrs_at x 0) in
      let in_code = (from_filtered is_alloca code i here.listed).0 in
      let own = alloca_at (instrs_at x 0) v (own_listed (allocas_listed code v here.align here.ty in_code)) in (
        own.at,
        own.align,
        own.ty,
        own.there,
        absent (is_none (unwrap_or (slice_get (offsets x) v) None))
            (of_listed (Passes (lies_outside (offsets x))) code outputs i in_code),
      )
