-- Which allocas stand in front of an entry: those that the passes put in, and the coroutine's that lie in no frame.
use Rattle.std.proofs.Common.{◌≡◌, ◌+◌, ◌<◌, ◌≤◌, ◌++◌, ◌∙◌, ◌∷◌, [], Bool, List, None, Option, Some, ap, arith, false, inl, inr, length, not, refl, subst, suc, sym, true, zero, ℕ, ⊎_elim}
use Rattle.std.proofs.lemmas.Bool.{cases_eq}
use Rattle.std.specs.List.{Contains}
use Rattle.std.specs.Prelude.{if◌then◌else◌, option_map, option_to_list, slice_get, unwrap_or, ◌&&◌}
use Rattle.pass_frames_steps.specs.flow_solver.Paths.{IsListed}
use Rattle.pass_frames_steps.proofs.ir_laws.paths.source_rules.Locals.{listed_left, listed_right}
use Rattle.pass_frames_steps.specs.ir_laws.paths.woven_rules.Pairs.{AreDifferent}
use Rattle.pass_frames_steps.specs.ir_model.Ty.{Ty, int, ptr}
use Rattle.pass_frames_steps.specs.ir_model.declared.instr.Instr.{Instr}
use Rattle.pass_frames_steps.specs.ir_model.declared.module.Block.{Block}
use Rattle.pass_frames_steps.specs.pass_addresses.Placing.{is_none as is_absent, lies_outside}
use Rattle.pass_frames_steps.specs.pass_cells.Kept.{entry, joined, value_types}
use Rattle.pass_frames_steps.specs.pass_cells.Links.{bases_of, cell_name, distance_name, field_name, link_name, marks_of, slots_of}
use Rattle.pass_frames_steps.specs.pass_cells.Moves.{cell_alloca}
use Rattle.pass_frames_steps.specs.pass_cells.Plan.{kept_value, type_at}
use Rattle.pass_frames_steps.specs.pass_cells.Written.{distance_allocas, entry_front as cells_front, kept_allocas, link_allocas, stored_params}
use Rattle.pass_frames_steps.specs.pass_cells.declared.plan.KeptValue.{KeptValue}
use Rattle.pass_frames_steps.specs.pass_copies.BeginCopies.{entry_front as copies_front, slot_allocas}
use Rattle.pass_frames_steps.specs.pass_copies.Slots.{entry_instrs}
use Rattle.pass_frames_steps.specs.pass_copies.Uses.{used_before}
use Rattle.pass_frames_steps.specs.pass_copies.declared.slot.EarlySlot.{EarlySlot}
use Rattle.pass_frames_steps.specs.pass_fetch.Blocks.{end_at}
use Rattle.pass_frames_steps.specs.pass_fetch.Fetching.{value_bytes}
use Rattle.pass_frames_steps.specs.pass_fetch.declared.fetch.Fetch.{Fetch}
use Rattle.pass_frames_steps.specs.pass_frames.Framed.{begin_of}
use Rattle.pass_frames_steps.specs.pass_frames.Tables.{class_flags, sizes_by_name}
use Rattle.pass_frames_steps.specs.frame_classes.declared.class.SlotClass.{SlotClass}
use Rattle.pass_frames_proof.proofs.beginning.Places.{filter_in}
use Rattle.pass_frames_steps.proofs.code.Ends.{front_is}
use Rattle.pass_frames_steps.proofs.code.Instrs.{instr_code}
use Rattle.pass_frames_steps.proofs.code.Left.{Far, far_named, parts_left}
use Rattle.pass_frames_steps.proofs.code.Names.{Count, First, IsLeft, Kept, cell_left, count_is, distance_left, far_left, keeping, local}
use Rattle.pass_frames_steps.proofs.layers.Standing.{split_woven}
use Rattle.pass_frames_steps.proofs.lines.Cells.{contained}
use Rattle.pass_frames_proof.proofs.ramps.Front.{moves_are}
use Rattle.pass_frames_steps.proofs.stepping.After.{has_root}
use Rattle.pass_frames_steps.proofs.stepping.Names.{named_written, slots_new}
use Rattle.pass_frames_steps.proofs.stepping.Operands.{slot_fetch}
use Rattle.pass_frames_steps.specs.Code.{address_state, addressed, code_of, copied_there, front_moves, is_ahead, loads, located, past_addressed, saved, slot_table, stores, unmarked_one, wheres}
use Rattle.pass_frames_steps.specs.Entered.{temporary_of}
use Rattle.pass_frames_steps.specs.Entering.{front_allocas}
use Rattle.pass_frames_steps.specs.Entry.{cells_of, puts_of}
use Rattle.pass_frames_steps.specs.Framings.{IsFraming}
use Rattle.pass_frames_steps.specs.Layers.{becomes, both, grown, only, passed, state_at, up_to, woven}
use Rattle.pass_frames_steps.specs.Passes.{block_at, fetched_first, fetching, phi_ends}
use Rattle.pass_frames_steps.specs.Places.{Framing, Placed, addressing_layer, before_labels, copies, edged, instrs_at, named, offsets, placed_layer, plan, unmarked, written}
use Rattle.pass_frames_steps.specs.Ramps.{HasAllocasInFront, IsPlainEntry}
use Rattle.pass_frames_steps.specs.Related.{IsKeptValue}
use Rattle.pass_frames_steps.specs.pass_front.Front.{is_alloca}
use Rattle.pass_frames_steps.proofs.pass_proofs.cells.rules.Links.{IsDistanceCell, OfLink, OfValue, distance_there}
use Rattle.pass_frames_steps.proofs.pass_proofs.cells.rules.Plans.{kept_at}
use Rattle.pass_frames_steps.proofs.pass_proofs.copies.rules.Slots.{AreNumbered, numbered}
use Rattle.pass_frames_steps.specs.pass_proofs.addresses.rules.Addresses.{lies_in_frame}

-- ---- lists of allocas

kept_alloca : (ks : List KeptValue) (at : ℕ) (k : KeptValue) → slice_get ks at ≡ Some k
    → IsListed (cell_alloca k.cell k.ty) (kept_allocas ks)
kept_alloca [] at k e = absurd (cc)
kept_alloca (y ∷ ks) zero k e =
    let same : y ≡ k = cc in inl (ap (λ (z : KeptValue). cell_alloca z.cell z.ty) (sym same))
kept_alloca (y ∷ ks) (suc at) k e =
    inr (inr (listed_right (cell_alloca k.cell k.ty) (distance_allocas y) (kept_allocas ks) (kept_alloca ks at k e)))

distance_alloca_in : (ks : List KeptValue) (at : ℕ) (k : KeptValue) (slot : ℕ) → slice_get ks at ≡ Some k
    → k.slot ≡ Some slot → IsListed (cell_alloca k.field_cell k.field_ty) (kept_allocas ks)
distance_alloca_in [] at k slot e is = absurd (cc)
distance_alloca_in (y ∷ ks) zero k slot e is =
    subst (λ (z : KeptValue). IsListed (cell_alloca z.field_cell z.field_ty) (kept_allocas (y ∷ ks))) same
    (inr (inr (listed_left (cell_alloca y.field_cell y.field_ty) (distance_allocas y) (kept_allocas ks)
    (on y.slot (ap (λ (z : KeptValue). z.slot) same ∙ is)))))
  where
    same : y ≡ k
    same = cc

    on : (o : Option ℕ) → o ≡ Some slot
        → IsListed (cell_alloca y.field_cell y.field_ty)
        (distance_allocas (record y { slot = o }))
    on None d = absurd (cc)
    on (Some u) d = inl refl
distance_alloca_in (y ∷ ks) (suc at) k slot e is =
    inr (inr (listed_right (cell_alloca k.field_cell k.field_ty) (distance_allocas y) (kept_allocas ks)
    (distance_alloca_in ks at k slot e is)))

link_alloca_in : (first count n i : ℕ) → i < n
    → IsListed (cell_alloca (link_name first count i) (int 64)) (link_allocas first count n)
link_alloca_in first count zero i lt = absurd (omega (arith, lt))
link_alloca_in first count (suc n) i lt =
    ⊎_elim
    (λ same. listed_right (cell_alloca (link_name first count i) (int 64)) (link_allocas first count n)
    (cell_alloca (link_name first count n) (int 64) ∷ [])
    (inl (ap (λ (q : ℕ). cell_alloca (link_name first count q) (int 64)) same)))
    (λ other. listed_left (cell_alloca (link_name first count i) (int 64)) (link_allocas first count n)
    (cell_alloca (link_name first count n) (int 64) ∷ []) (link_alloca_in first count n i (less other))) (cases_eq i n)
  where
    less : (i ≡ n → ⊥) → i < n
    less other = omega (arith, lt, other)

slot_alloca_in : (ss : List EarlySlot) (s : EarlySlot) → IsListed s ss
    → IsListed (Instr.Alloca s.temporary s.ty s.align) (slot_allocas ss)
    × IsListed (Instr.Alloca s.cell ptr (value_bytes ptr)) (slot_allocas ss)
slot_alloca_in [] s l = absurd l
slot_alloca_in (u ∷ ss) s (inl e) = (
  inl (ap (λ (z : EarlySlot). Instr.Alloca z.temporary z.ty z.align) e),
  inr (inl (ap (λ (z : EarlySlot). Instr.Alloca z.cell ptr 8) e)),
)
slot_alloca_in (u ∷ ss) s (inr l) = let more = slot_alloca_in ss s l in (inr (inr more.0), inr (inr more.1))

-- ---- an alloca that lies in no frame stays

outside_of : (q : Bool) → not q ≡ false → q ≡ true
outside_of true e = refl
outside_of false e = absurd (cc)

out_alloca : (offs : List (Option ℕ)) (v : ℕ) (ty : Ty) (align : ℕ) → lies_in_frame offs v ≡ false
    → lies_outside offs (Instr.Alloca v ty align) ≡ true
out_alloca offs v ty align e = outside_of (is_absent (unwrap_or (slice_get offs v) None)) e

stays_by : (t : List (Option Fetch)) (ends : List Instr) (first : ℕ) (c : Block) (offs : List (Option ℕ))
    (s : ℕ × Unit {0}) (v : ℕ) (ty : Ty) (align : ℕ) → lies_outside offs (Instr.Alloca v ty align) ≡ true
    → IsListed (Instr.Alloca v ty align)
    (becomes (both (fetching t ends first c) (only (lies_outside offs))) s (Instr.Alloca v ty align))
stays_by t ends first c offs s v ty align out =
    subst (λ (q : Bool). IsListed (Instr.Alloca v ty align)
    (option_to_list (if q then Some (Instr.Alloca v ty align) else None) ++ [])) (sym out) (inl refl)

module _ (x : Framing) (v : ℕ) (ty : Ty) (align : ℕ)
    (out : lies_outside (offsets x) (Instr.Alloca v ty align) ≡ true) where
  abbrev J : Instr
  J = Instr.Alloca v ty align

  one_stays : (k : ℕ) (s : ℕ × Unit {0}) → IsListed J (becomes (addressing_layer x k) s J)
  one_stays k s =
      stays_by (slot_table x) (end_at (phi_ends (unmarked x) (slot_table x)) (block_at (unmarked x) k).label)
      (fetched_first (unmarked x) (slot_table x) k) (block_at (unmarked x) k) (offsets x) s v ty align out

  stays_in : (k : ℕ) (s : ℕ × Unit {0}) (js : List Instr) → IsListed J js → IsListed J (addressed x k s js)
  stays_in k s [] l = absurd l
  stays_in k s (j ∷ js) (inl e) =
      listed_left J (becomes (addressing_layer x k) s j)
      (addressed x k ((addressing_layer x k).after s j) js)
      (subst (λ (i : Instr). IsListed J (becomes (addressing_layer x k) s i)) e (one_stays k s))
  stays_in k s (j ∷ js) (inr l) =
      listed_right J (becomes (addressing_layer x k) s j)
      (addressed x k ((addressing_layer x k).after s j) js)
      (stays_in k ((addressing_layer x k).after s j) js l)

  -- of what the passes put in
  front_listed : IsFraming x → IsListed J (front_moves x 0) → IsListed J (front_allocas x)
  front_listed is l =
      filter_in is_alloca (woven (placed_layer x 0) (instrs_at x 0)) J
      (listed_left J (placed_layer x 0).front
      (grown (placed_layer x 0) (placed_layer x 0).start (instrs_at x 0)
      ++ (placed_layer x 0).back (passed (placed_layer x 0) (placed_layer x 0).start (instrs_at x 0)))
      (subst (IsListed J) (sym (front_is x is 0)) (stays_in 0 (addressing_layer x 0).start (front_moves x 0) l))) refl

  -- of what one of the coroutine's becomes
  located_same : (st : Placed) → located x st J ≡ J
  located_same st = on (is_ahead st)
    where
      on : (q : Bool) → (if q && false then J else J) ≡ J
      on true = refl
      on false = refl

  code_has : (st : Placed) → IsListed J (code_of x 0 st J)
  code_has st =
      let one : List Instr = unmarked_one x (located x st J) in
      let first : ℕ × Unit {0} = past_addressed x 0 (address_state st) (saved x st J) in
      let second : ℕ × Unit {0} = past_addressed x 0 first one in
      let behind : List Instr = addressed x 0 second (copied_there x st J) ++ stores x st J in
      listed_right J (loads x st J)
      (addressed x 0 (address_state st) (saved x st J) ++ (wheres x st J ++ (addressed x 0 first one ++ behind)))
      (listed_right J (addressed x 0 (address_state st) (saved x st J))
      (wheres x st J ++ (addressed x 0 first one ++ behind))
      (listed_right J (wheres x st J) (addressed x 0 first one ++ behind)
      (listed_left J (addressed x 0 first one) behind
      (subst (λ (i : Instr). IsListed J (addressed x 0 first (unmarked_one x i))) (sym (located_same st))
      (stays_in 0 first (J ∷ []) (inl refl))))))

-- a list between two others
in_middle : (J : Instr) (xs ys zs ws : List Instr) → ws ≡ xs ++ (ys ++ zs) → IsListed J ys → IsListed J ws
in_middle J xs ys zs ws e l = subst (IsListed J) (sym e) (listed_right J xs (ys ++ zs) (listed_left J ys zs l))

-- ---- in front of an entry

module _ (x : Framing) (is : IsFraming x) (e : IsPlainEntry x) where
  abbrev ss : List EarlySlot
  ss = (copies x).slots

  abbrev kept : List KeptValue
  kept = (plan x).kept

  abbrev links : List Instr
  links = link_allocas (plan x).first (length kept) (plan x).links

  abbrev cells : List Instr
  cells = cells_front (plan x) (edged x).params

  abbrev behind : List Instr
  behind = (cells ++ []) ++ []

  abbrev before : List Instr
  before = copies_front ss ++ []

  moved : (J : Instr) → IsListed J (before ++ behind) → IsListed J (front_moves x 0)
  moved J l = subst (IsListed J) (sym (moves_are x is e)) l

  in_slots : (J : Instr) → IsListed J (slot_allocas ss) → IsListed J (front_moves x 0)
  in_slots J l =
      moved J (listed_left J before behind (listed_left J (copies_front ss) []
      (listed_left J (slot_allocas ss) (puts_of temporary_of ss) l)))

  in_cells : (J : Instr) → IsListed J (kept_allocas kept ++ links) → IsListed J (front_moves x 0)
  in_cells J l =
      moved J (listed_right J before behind (listed_left J (cells ++ []) [] (listed_left J cells []
      (listed_left J (kept_allocas kept ++ links) (stored_params (plan x) (edged x).params) l))))

  -- ---- cells and temporaries lie in no frame

  left_outside : (v : ℕ) → IsLeft x is v → (ty : Ty) (align : ℕ)
      → lies_outside (offsets x) (Instr.Alloca v ty align) ≡ true
  left_outside v h ty align = on (slice_get (offsets x) v) (sym (slot_fetch x v) ∙ h.0)
    where
      on : (o : Option (Option ℕ)) → option_map (Fetch.Address (begin_of x.function)) (joined o) ≡ None
          → is_absent (unwrap_or o None) ≡ true
      on None d = refl
      on (Some None) d = refl
      on (Some (Some n)) d = absurd (cc)

  high_outside : (v : ℕ) → length (written x).names ≤ v → (ty : Ty) (align : ℕ)
      → lies_outside (offsets x) (Instr.Alloca v ty align) ≡ true
  high_outside v high ty align =
      let far : Far x is ≤ length (named x).names = far_named x is in
      let more : length (named x).names ≤ length (written x).names = named_written x in
      left_outside v (far_left x is v (omega (arith, high, far, more))) ty align

  temporary_listed : (s : EarlySlot) → Contains ss s
      → IsListed (Instr.Alloca s.temporary s.ty s.align) (front_allocas x)
  temporary_listed s l =
      front_listed x s.temporary s.ty s.align (high_outside s.temporary (slots_new x s l).0 s.ty s.align) is
      (in_slots (Instr.Alloca s.temporary s.ty s.align) (slot_alloca_in ss s (contained ss s l)).0)

  where_listed : (s : EarlySlot) → Contains ss s
      → IsListed (Instr.Alloca s.cell ptr (value_bytes ptr)) (front_allocas x)
  where_listed s l =
      front_listed x s.cell ptr (value_bytes ptr) (high_outside s.cell (slots_new x s l).1 ptr (value_bytes ptr)) is
      (in_slots (Instr.Alloca s.cell ptr (value_bytes ptr)) (slot_alloca_in ss s (contained ss s l)).1)

  value_listed : (v : ℕ) (k : KeptValue) → IsKeptValue x v k
      → IsListed (Instr.Alloca k.cell k.ty (value_bytes k.ty)) (front_allocas x)
  value_listed v k h =
      front_listed x k.cell k.ty (value_bytes k.ty)
      (left_outside k.cell (cell_left x is h.number k h.there) k.ty (value_bytes k.ty)) is
      (in_cells (cell_alloca k.cell k.ty)
      (listed_left (cell_alloca k.cell k.ty) (kept_allocas kept) links (kept_alloca kept h.number k h.there)))

  -- ---- cells of distances

  abbrev all_links : ℕ
  all_links = (plan x).links

  distance_cell_in : (v cell : ℕ) → entry (plan x).cells v ≡ Some cell
      → IsListed (cell_alloca cell (int 64)) (kept_allocas kept ++ links)
  distance_cell_in v cell told =
      on (entry (Kept x is).places v) refl cell told
      (distance_there (First x is) (Count x is) (Kept x is).places marks v cell told).cell
    where
      slots : List (Option ℕ)
      slots = slots_of (local x is) (bases_of (edged x))

      marks : List Bool
      marks = marks_of (bases_of (edged x)) (slots_of (local x is) (bases_of (edged x))) (Kept x is).values

      value_in_kept : (at c : ℕ) → entry (Kept x is).places v ≡ Some at → entry (plan x).cells v ≡ Some c
          → IsListed (cell_alloca c (int 64)) (kept_allocas kept)
      value_in_kept at c place d =
          let root = has_root x is v c d in
          let types : List Ty = value_types (edged x) (Kept x is) in
          let there = kept_at (First x is) (Count x is) types (plan x).cells slots (Kept x is).values at v
          ((keeping x is).there v at place) in
          distance_alloca_in kept at
          (kept_value (cell_name (First x is) at) (field_name (First x is) (Count x is) at) (type_at types at) (Some c)
          (Some root.0)) root.0
          (there ∙ (λ i. Some (kept_value (cell_name (First x is) at) (field_name (First x is) (Count x is) at)
          (type_at types at) (d i) (root.1 i)))) refl

      on : (o : Option ℕ) → entry (Kept x is).places v ≡ o → (c : ℕ) → entry (plan x).cells v ≡ Some c
          → IsDistanceCell (First x is) (Count x is) all_links o c
          → IsListed (cell_alloca c (int 64)) (kept_allocas kept ++ links)
      on _ place _ d (OfValue at) =
          let c : ℕ = distance_name (First x is) (Count x is) at in
          listed_left (cell_alloca c (int 64)) (kept_allocas kept) links (value_in_kept at c place d)
      on _ place _ d (OfLink i lt) =
          let c : ℕ = link_name (First x is) (Count x is) i in
          listed_right (cell_alloca c (int 64)) (kept_allocas kept) links
          (subst (λ (n : ℕ). IsListed (cell_alloca c (int 64)) (link_allocas (First x is) n all_links))
          (sym (count_is x is)) (link_alloca_in (First x is) (Count x is) all_links i lt))

  distance_listed : (v cell : ℕ) → entry (plan x).cells v ≡ Some cell
      → IsListed (Instr.Alloca cell (int 64) (value_bytes (int 64))) (front_allocas x)
  distance_listed v cell told =
      front_listed x cell (int 64) (value_bytes (int 64))
      (left_outside cell (distance_left x is v cell told) (int 64) (value_bytes (int 64))) is
      (in_cells (cell_alloca cell (int 64)) (distance_cell_in v cell told))

  -- ---- the coroutine's own

  own_listed : (at v align : ℕ) (ty : Ty) → slice_get (instrs_at x 0) at ≡ Some (Instr.Alloca v ty align)
      → lies_in_frame (offsets x) v ≡ false → IsListed (Instr.Alloca v ty align) (front_allocas x)
  own_listed at v align ty there out =
      filter_in is_alloca (woven (placed_layer x 0) (instrs_at x 0)) J
      (in_middle J (up_to (placed_layer x 0) (instrs_at x 0) at) (becomes (placed_layer x 0) st J) _
      (woven (placed_layer x 0) (instrs_at x 0)) (split_woven (placed_layer x 0) (instrs_at x 0) at J there) itself)
      refl
    where
      J : Instr
      J = Instr.Alloca v ty align

      st : Placed
      st = state_at (placed_layer x 0) (instrs_at x 0) at

      itself : IsListed J (becomes (placed_layer x 0) st J)
      itself =
          subst (IsListed J) (sym (instr_code x 0 st J (parts_left x is 0 at J there)))
          (code_has x v ty align (out_alloca (offsets x) v ty align out) st)

  -- ---- cells of addresses

  cells_high : (n : ℕ) (zs : List EarlySlot) → AreNumbered n zs → (v : ℕ) → IsListed v (cells_of zs) → n < v
  cells_high n [] h v l = absurd l
  cells_high n (s ∷ zs) h v (inl same) =
      let a : s.cell ≡ n + 1 = h.1.0 in let c : v ≡ s.cell = same in omega (arith, a, c)
  cells_high n (s ∷ zs) h v (inr l) = let more = cells_high (n + 2) zs h.1.1 v l in omega (arith, more)

  cells_once : (n : ℕ) (zs : List EarlySlot) → AreNumbered n zs → AreDifferent (cells_of zs)
  cells_once n [] h = tt
  cells_once n (s ∷ zs) h = (
    λ l. let a : s.cell ≡ n + 1 = h.1.0 in
        let high : n + 2 < s.cell = cells_high (n + 2) zs h.1.1 s.cell l in
        omega (arith, a, high),
    cells_once (n + 2) zs h.1.1,
  )

  pub allocas_in_front : HasAllocasInFront x
  allocas_in_front = record {
    own = own_listed;
    temporaries = temporary_listed;
    wheres = where_listed;
    values = value_listed;
    distances = distance_listed;
    once =
        cells_once (length (written x).names) ss
        (numbered
        (used_before (written x) (class_flags x.function x.contents.classes SlotClass.Frame) (before_labels x))
        (sizes_by_name x.function x.contents.held) (length (written x).names) (entry_instrs (written x).blocks));
  }
