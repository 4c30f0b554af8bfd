-- Before a save a value that crosses goes from its cell, or from that of its distance, to its field.
use Rattle.pass_proofs.specs.ir_model.Ty.{Ty, int}
use Rattle.pass_proofs.specs.ir_model.declared.operand.Operand.{Operand}
use Rattle.pass_proofs.specs.pass_cells.Kept.{entry}
use Rattle.pass_proofs.specs.pass_cells.Kept.{value_types}
use Rattle.pass_proofs.specs.pass_cells.Links.{bases_of, marks_of, slots_of}
use Rattle.pass_proofs.specs.pass_cells.Links.{cell_name, field_name}
use Rattle.pass_proofs.specs.pass_cells.Moves.{load_from}
use Rattle.pass_proofs.specs.pass_cells.Plan.{kept_value, type_at}
use Rattle.pass_proofs.specs.pass_cells.declared.plan.KeptValue.{KeptValue}
use Rattle.pass_proofs.specs.pass_fetch.Fetching.{value_bytes}
use Rattle.pass_proofs.specs.pass_frames.Framed.{begin_of}
use Rattle.pass_frames_code.proofs.code.Names.{Count, F, First, Kept, has_cells, local}
use Rattle.pass_frames_code.proofs.distances.Sums.{value_set}
use Rattle.pass_frames_code.proofs.lines.Cells.{cell_loads, cell_stays, kept_type}
use Rattle.pass_frames_code.proofs.lines.Filled.{others_stay}
use Rattle.pass_frames_code.proofs.lines.Fillers.{distance_stored, filled_from, stored_there}
use Rattle.pass_frames_code.proofs.lines.Names.{distance_low, distance_of, kept_low}
use Rattle.pass_frames_code.proofs.lines.Results.{kept_is_cell, storable_stands}
use Rattle.pass_frames_code.specs.Framings.{IsFraming}
use Rattle.pass_frames_code.specs.Led.{RunsThrough}
use Rattle.pass_frames_code.specs.Lines.{Fills, IsKeptType, IsStorable, LoadsCell, NoneFilled, OneFilled, RunsOver, at_work}
use Rattle.pass_frames_code.specs.Places.{Framing, edged, named, plan}
use Rattle.pass_frames_code.specs.Related.{Anything, AreCellsRight, IsDistanceOf, IsKeptAs, IsKeptValue}
use Rattle.pass_frames_code.specs.Saves.{AreCellsElsewhere, AreStorable, HoldsField, IsButBlock}
use Rattle.pass_proofs.proofs.addresses.numbers.Done.{address_done}
use Rattle.pass_proofs.proofs.cells.rules.Links.{distance_there, marks_have}
use Rattle.pass_proofs.proofs.cells.rules.Plans.{kept_of}
use Rattle.pass_proofs.proofs.run_laws.access.Done.{store_done}
use Rattle.pass_proofs.proofs.run_laws.access.Loaded.{stored_back}
use Rattle.pass_proofs.proofs.run_laws.access.Ranges.{write_held}
use Rattle.pass_proofs.proofs.run_laws.transfer.Sets.{set_elsewhere, set_length}
use Rattle.pass_proofs.specs.run_laws.access.Accessed.{Span}
use Rattle.pass_proofs.specs.run_laws.access.Lines.{AreDisjoint, pointer_at, refilled_at}
use Rattle.pass_proofs.specs.run_laws.memory.Pointers.{Home, IsValue}
use Rattle.pass_proofs.specs.run_laws.memory.Standing.{AreByteRights}
use Rattle.pass_proofs.proofs.run_memory.Digits.{length-encode}
use Rattle.pass_proofs.specs.run_memory.Memory.{access_bytes, encode}
use Rattle.pass_proofs.specs.run_memory.declared.block.Byte.{Byte}
use Rattle.pass_proofs.specs.run_memory.declared.block.MemoryBlock.{MemoryBlock}
use Rattle.pass_proofs.specs.run_memory.declared.pointer.Value.{Value}
use Rattle.pass_proofs.specs.run_source.declared.state.Activation.{Activation}
use Rattle.pass_proofs.specs.run_step.Step.{Context, Work, set_memory, set_value}
use Rattle.pass_proofs.specs.run_step.Values.{Env, access_of, stored, value_in}
use Rattle.pass_proofs.specs.run_step.declared.world.Slot.{Slot}
use Rattle.std.proofs.Common.{◌≡◌, ℕ, ◌+◌, ◌<◌, ◌≤◌, Bool, List, [], ◌∷◌, length, refl, sym, ◌∙◌, subst, arith}
use Rattle.std.specs.Prelude.{None, Option, Some}

abbrev slot_at : ℕ → ℕ → Slot
slot_at alloca block = record { alloca = alloca; block = block }

-- ---- one value

module _ (x : Framing) (is : IsFraming x) (homes : List Home) (c : Context) (law : AreByteRights c.rights) (env : Env)
    (a : Activation) (block start k : ℕ) (elsewhere : AreCellsElsewhere x block a) (storable : AreStorable x env) where
  abbrev AreRight : Work → Type 0
  AreRight w = AreCellsRight x homes c.rights w.world.memory env (at_work a w)

  abbrev HasField : List MemoryBlock → KeptValue → (Value → Type 0) → Type 0
  HasField m j Has = HoldsField x c.rights m block start j Has

  abbrev IsKept : ℕ → KeptValue → Value → Type 0
  IsKept v j u = IsKeptAs homes env v j j.slot u

  abbrev built : ℕ → Option ℕ → Option ℕ → KeptValue
  built at o slot =
      kept_value (cell_name (First x is) at) (field_name (First x is) (Count x is) at)
      (type_at (value_types (F x is) (Kept x is)) at) o slot

  -- what is stored of what is kept is kept
  abbrev Stays : ℕ → KeptValue → Type 0
  Stays v z =
      IsStorable z.ty (value_in env v) → (u : Value) → IsKeptAs homes env v z z.slot u
      → IsKeptAs homes env v z z.slot (stored (access_of z.field_ty) u)

  built_stays : (v at u : ℕ) (o : Option ℕ) → entry (plan x).cells u ≡ o
      → Stays v (built at o (entry (slots_of (local x is) (bases_of (edged x))) u))
  built_stays v at u None e = λ fits value h.
      storable_stands homes (type_at (value_types (F x is) (Kept x is)) at) (value_in env v) value fits h
  built_stays v at u (Some d) e =
      let slots : List (Option ℕ) = slots_of (local x is) (bases_of (edged x)) in
      let marks : List Bool = marks_of (bases_of (F x is)) slots (Kept x is).values in
      let told = distance_there (First x is) (Count x is) (Kept x is).places marks u d e in
      let slot = marks_have (bases_of (F x is)) slots (Kept x is).values u told.marked in
      subst (λ (o : Option ℕ). Stays v (built at (Some d) o)) (sym slot.1)
      (λ fits value h. distance_stored (value_in env slot.0) (value_in env v) value h)

  kept_stored : (v : ℕ) (j : KeptValue) → IsKeptValue x v j → Stays v j
  kept_stored v j kept =
      let slots : List (Option ℕ) = slots_of (local x is) (bases_of (edged x)) in
      let y = kept_of (First x is) (Count x is) (value_types (F x is) (Kept x is)) (plan x).cells slots
      (Kept x is).values kept.number j kept.there in
      subst (Stays v) (sym y.2) (built_stays v kept.number y.0 (entry (plan x).cells y.0) refl)

  -- it is loaded, its field's address is made, and it is stored there
  pub record IsSavedOne (w : Work) (n m v d : ℕ) (j : KeptValue) : Type 0 where
    pub work : Work
    pub over : RunsOver c (load_from n j.field_ty j.field_cell ∷ stored_there x k n m d j.field_ty) n
        (record { block = block; offset = start + d; len = value_bytes j.field_ty } ∷ []) w work
    pub through : RunsThrough c (IsButBlock block w) (load_from n j.field_ty j.field_cell
        ∷ stored_there x k n m d j.field_ty) w work
    pub between : (u : ℕ) → n < u → u < m → value_in work.values u ≡ value_in w.values u
    pub cells : AreRight work
    pub field : HasField work.world.memory j (IsKept v j)

  pub one_saved : (w : Work) (n m v : ℕ) (j : KeptValue) → IsKeptValue x v j → length (named x).names ≤ n
      → begin_of x.function < n → n < m → m < length w.values
      → value_in w.values (begin_of x.function) ≡ pointer_at block start → AreRight w
      → (f : HasField w.world.memory j Anything) → IsSavedOne w n m v f.offset j
  one_saved w n m v j kept low old lt room begun right f =
      let ty : Ty = j.field_ty in
      let begin : ℕ = begin_of x.function in
      let t : IsKeptType ty = kept_type ty (has_cells x is kept.number j kept.there).field_ty in
      let l : LoadsCell c w n j.field_cell ty (IsKept v j) =
      cell_loads c w a n j.field_cell ty (IsKept v j) t (filled_from x is homes c env a w right v j kept) in
      let w1 : Work = set_value w n l.value in
      let there : Value = pointer_at block (start + f.offset) in
      let w2 : Work = set_value w1 m there in
      let long1 : length w1.values ≡ length w.values = set_length w.values n l.value in
      let long2 : length w2.values ≡ length w1.values = set_length w1.values m there in
      let begun1 : value_in w1.values begin ≡ pointer_at block start =
      set_elsewhere w.values n begin l.value (λ e. absurd (omega (arith, e, old))) ∙ begun in
      let leads : value_in w2.values m ≡ there = value_set w1 m m there (omega (arith, room, long1)) in
      let has_n : value_in w2.values n ≡ l.value =
      set_elsewhere w1.values m n there (λ e. absurd (omega (arith, e, lt)))
      ∙ value_set w n n l.value (omega (arith, lt, room)) in
      let value : Value = stored (access_of ty) (value_in w2.values n) in
      let new : List Byte = encode (access_bytes (access_of ty)) value in
      let sized : length new ≡ access_bytes (access_of ty) = length-encode (access_bytes (access_of ty)) value in
      let same : length new ≡ length f.bytes = sized ∙ sym t.bytes ∙ sym f.sized in
      let m2 : List MemoryBlock = refilled_at w.world.memory block (start + f.offset) new in
      let y : Work = set_memory w2 m2 in
      let span : ℕ → Span = λ len. record { block = block; offset = start + f.offset; len = len } in
      let fills : Fills c.rights (span (length new) ∷ []) w.world.memory m2 =
      OneFilled block (start + f.offset) (value_bytes ty) f.bytes new [] w.world.memory m2 f.holds same
      (NoneFilled m2) in
      let others : (u : ℕ) → u < n → value_in y.values u ≡ value_in w.values u = λ u less.
      set_elsewhere w1.values m u there (λ e. absurd (omega (arith, e, less, lt)))
      ∙ set_elsewhere w.values n u l.value (λ e. absurd (omega (arith, e, less))) in
      record {
        work = y;
        over = subst
            (λ (len : ℕ). RunsOver c (load_from n ty j.field_cell ∷ stored_there x k n m f.offset ty) n (span
            len ∷ []) w y)
            (sized ∙ sym t.bytes)
            (record {
              runs = (
                w1,
                (
                  l.is,
                  (
                    w2,
                    (
                      address_done c w1 m block start f.offset (Operand.Local begin) begun1 f.near,
                      (
                        y,
                        (
                          store_done c w2 (value_bytes ty) block (start + f.offset) (value_bytes ty)
                              (record { ty = ty; value = Operand.Local n }) (Operand.Local m) f.bytes leads f.holds
                              (f.sized ∙ t.bytes) t.alignment (omega arith),
                          refl,
                        ),
                      ),
                    ),
                  ),
                ),
              );
              fills = fills;
              world = refl;
              others = others;
              room = long2 ∙ long1;
            });
        through = (
          record { world = refl; others = λ e d. refl },
          (
            w1,
            (
              l.is,
              (
                record { world = refl; others = λ e d. refl },
                (
                  w2,
                  (
                    address_done c w1 m block start f.offset (Operand.Local begin) begun1 f.near,
                    (
                      record { world = refl; others = λ e d. refl },
                      (
                        y,
                        (
                          store_done c w2 (value_bytes ty) block (start + f.offset) (value_bytes ty)
                              (record { ty = ty; value = Operand.Local n }) (Operand.Local m) f.bytes leads f.holds
                              (f.sized ∙ t.bytes) t.alignment (omega arith),
                          refl,
                        ),
                      ),
                    ),
                  ),
                ),
              ),
            ),
          ),
        );
        between = λ u more less.
            set_elsewhere w1.values m u there (λ e. absurd (omega (arith, e, less)))
            ∙ set_elsewhere w.values n u l.value (λ e. absurd (omega (arith, e, more)));
        cells = record {
          values = λ u other known.
              let h = right.values u other known in
              let less : other.cell < length (named x).names = kept_low x is u other known in
              cell_stays c.rights law (span (length new) ∷ []) w.world.memory m2 a w y other.cell other.ty
              (IsValue homes (value_in env u)) fills h
              ((λ e. elsewhere (slot_at other.cell h.block) h.own (kept_is_cell x is u other known) (sym e)), tt)
              (others other.cell (omega (arith, less, low)));
          distances = λ u cell slot told r.
              let h = right.distances u cell slot told r in
              let less : cell < length (named x).names = distance_low x is u cell told in
              cell_stays c.rights law (span (length new) ∷ []) w.world.memory m2 a w y cell (int 64)
              (IsDistanceOf (value_in env slot) (value_in env u)) fills h
              ((λ e. elsewhere (slot_at cell h.block) h.own (distance_of x is u cell told) (sym e)), tt)
              (others cell (omega (arith, less, low)));
        };
        field = record {
          offset = f.offset;
          told = f.told;
          near = f.near;
          bytes = new;
          sized = sized ∙ sym t.bytes;
          holds = write_held c.rights w.world.memory block (start + f.offset) (value_bytes ty) f.bytes f.holds law new
              same;
          has = subst (IsKept v j)
              (sym (stored_back (access_of ty) (value_in w2.values n)
              (let some = t.some in let is = t.bytes in omega (arith, some, is))))
              (subst (λ (u : Value). IsKept v j (stored (access_of ty) u)) (sym has_n)
              (kept_stored v j kept (storable v j kept) l.value l.has));
        };
      }

  -- another field stays where one is saved
  pub other_stays : (w : Work) (n m v u d : ℕ) (j i : KeptValue) (one : IsSavedOne w n m v d j)
      (Has : Value → Type 0) (f : HasField w.world.memory i Has)
      → AreDisjoint block (start + d) (value_bytes j.field_ty) block (start + f.offset) (value_bytes i.field_ty)
      → HasField one.work.world.memory i Has
  other_stays w n m v u d j i one Has f apart = record {
    offset = f.offset;
    told = f.told;
    near = f.near;
    bytes = f.bytes;
    sized = f.sized;
    holds = others_stay c.rights law (record { block = block; offset = start + d; len = value_bytes j.field_ty } ∷ [])
        w.world.memory one.work.world.memory block (start + f.offset) (value_bytes i.field_ty) f.bytes one.over.fills (
          subst (λ (len : ℕ). AreDisjoint block (start + d) (value_bytes j.field_ty) block (start + f.offset) len)
              (sym f.sized) apart,
          tt,
        ) f.holds;
    has = f.has;
  }
