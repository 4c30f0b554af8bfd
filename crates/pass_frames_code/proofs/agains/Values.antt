-- In front of a block on a resume or destroy edge one value comes back into its cell, and the others stay.
use Rattle.std.proofs.Common.{◌≡◌, ◌⊎◌, inl, inr, ⊎_elim, ℕ, ◌+◌, ◌<◌, ◌≤◌, List, ◌++◌, length, refl, sym, ap, ◌∙◌, subst, arith}
use Rattle.std.specs.List.{Contains}
use Rattle.std.specs.Prelude.{None, Option, Some, slice_get, ◌≢◌}
use Rattle.pass_proofs.proofs.ir_laws.facts.Members.{each_turns}
use Rattle.pass_proofs.proofs.ir_laws.facts.Truth.{is_number}
use Rattle.pass_proofs.specs.ir_model.Ty.{Ty, int, ptr}
use Rattle.pass_proofs.specs.ir_model.declared.instr.Instr.{Instr}
use Rattle.pass_proofs.specs.pass_cells.Kept.{entry, value_types}
use Rattle.pass_proofs.specs.pass_cells.Links.{bases_of, cell_name, field_name, slots_of}
use Rattle.pass_proofs.specs.pass_cells.Plan.{kept_value, type_at}
use Rattle.pass_proofs.specs.pass_cells.declared.plan.KeptValue.{KeptValue}
use Rattle.pass_proofs.specs.pass_fetch.Fetching.{value_bytes}
use Rattle.pass_proofs.specs.pass_frames.Framed.{begin_of}
use Rattle.pass_frames_code.proofs.agains.Lines.{behind_load}
use Rattle.pass_frames_code.proofs.agains.One.{IsPut, IsPutFar, IsRead, distance_put, field_put, field_read, loaded_there}
use Rattle.pass_frames_code.proofs.distances.Apart.{distances_differ, has_root}
use Rattle.pass_frames_code.proofs.code.Names.{Count, F, First, Kept, has_cells, keeping, local}
use Rattle.pass_frames_code.proofs.lines.Cells.{cell_has, cell_stays, kept_type, other_block}
use Rattle.pass_frames_code.proofs.lines.Filled.{elsewhere_apart, others_stay}
use Rattle.pass_frames_code.proofs.lines.Results.{distance_apart, kept_is_cell, kept_once, same_kept, storable_stands}
use Rattle.pass_frames_code.proofs.lines.Names.{distance_low, distance_of, kept_low}
use Rattle.pass_frames_code.specs.Framings.{IsFraming}
use Rattle.pass_frames_code.specs.Lines.{AreElsewhere, HasOwnBlocks, IsCellOf, IsKeptType, IsStorable, RunsOver, at_work}
use Rattle.pass_frames_code.specs.Places.{Framing, edged, named, plan}
use Rattle.pass_frames_code.specs.Related.{Anything, AreCellsThere, IsCell, IsDistanceOf, IsKeptAs, IsKeptValue, root_of}
use Rattle.pass_frames_code.specs.Saves.{AreCellsElsewhere, AreStorable, HoldsField}
use Rattle.pass_proofs.proofs.cells.rules.Plans.{kept_of}
use Rattle.pass_proofs.specs.run_laws.access.Accessed.{Span}
use Rattle.pass_proofs.specs.run_laws.access.Lines.{pointer_at}
use Rattle.pass_proofs.specs.run_laws.changed.Changed.{Each}
use Rattle.pass_proofs.specs.run_laws.memory.Pointers.{Home, IsValue}
use Rattle.pass_proofs.specs.run_laws.memory.Standing.{AreByteRights}
use Rattle.pass_proofs.specs.run_memory.Memory.{decode}
use Rattle.pass_proofs.specs.run_memory.declared.pointer.Value.{Value}
use Rattle.pass_proofs.specs.run_source.declared.state.Activation.{Activation}
use Rattle.pass_proofs.specs.run_step.Step.{Context, Work}
use Rattle.pass_proofs.specs.run_step.Values.{Env, access_of, stored, value_in}

-- ---- the slot of what is kept

slot_given : (cell field : ℕ) (t : Ty) (o root : Option ℕ) (slot : ℕ)
    → (kept_value cell field t o root).slot ≡ Some slot → root ≡ Some slot
slot_given cell field t None root slot e = absurd (cc)
slot_given cell field t (Some d) root slot e = e

module _ (x : Framing) (is : IsFraming x) where
  -- the slot of a kept address is the end of its chain
  pub kept_root : (v : ℕ) (j : KeptValue) → IsKeptValue x v j → (slot : ℕ) → j.slot ≡ Some slot
      → root_of x v ≡ Some slot
  kept_root v j kept slot e =
      let slots : List (Option ℕ) = slots_of (local x is) (bases_of (edged x)) in
      let types : List Ty = value_types (F x is) (Kept x is) in
      let at : ℕ = kept.number in
      let y = kept_of (First x is) (Count x is) types (plan x).cells slots (Kept x is).values at j kept.there in
      let here : slice_get (Kept x is).values at ≡ Some v = (keeping x is).there v at kept.told in
      let one : Some y.0 ≡ Some v = sym y.1 ∙ here in
      let name : y.0 ≡ v = cc in
      subst (λ (u : ℕ). entry slots u ≡ Some slot) name
      (slot_given (cell_name (First x is) at) (field_name (First x is) (Count x is) at) (type_at types at)
      (entry (plan x).cells y.0) (entry slots y.0) slot (ap (λ (z : KeptValue). z.slot) (sym y.2) ∙ e))

-- ---- one value

module _ (x : Framing) (is : IsFraming x) (homes : List Home) (c : Context) (law : AreByteRights c.rights) (env : Env)
    (a : Activation) (own : HasOwnBlocks a) (block start : ℕ) (elsewhere : AreCellsElsewhere x block a)
    (storable : AreStorable x env) where
  abbrev pub Cell : Work → ℕ → Ty → (Value → Type 0) → Type 0
  Cell w cell ty Has = IsCell c.rights w.world.memory (at_work a w) cell ty Has

  abbrev pub AreThere : Work → Type 0
  AreThere w = AreCellsThere x c.rights w.world.memory (at_work a w)

  abbrev pub HasField : Work → ℕ → KeptValue → Type 0
  HasField w v j = HoldsField x c.rights w.world.memory block start j (IsKeptAs homes env v j j.slot)

  -- the slot of a kept address has its value in the target
  abbrev pub HasSlot : Work → ℕ → KeptValue → Type 0
  HasSlot w n j =
      (slot : ℕ) → j.slot ≡ Some slot → (slot < n) × IsValue homes (value_in env slot) (value_in w.values slot)

  abbrev pub IsAddress : KeptValue → Type 0
  IsAddress j = (slot : ℕ) → j.slot ≡ Some slot → j.ty ≡ ptr

  pub record IsRight (w : Work) (v : ℕ) (j : KeptValue) : Type 0 where
    pub value : Cell w j.cell j.ty (IsValue homes (value_in env v))
    pub distance : (cell slot : ℕ) → entry (plan x).cells v ≡ Some cell → root_of x v ≡ Some slot
        → Cell w cell (int 64) (IsDistanceOf (value_in env slot) (value_in env v))

  -- a cell of a value, or of its distance
  abbrev pub IsOneOf : ℕ → KeptValue → ℕ → Type 0
  IsOneOf v j name = (name ≡ j.cell) ⊎ (entry (plan x).cells v ≡ Some name)

  abbrev pub AreOfValue : ℕ → KeptValue → List Span → Type 0
  AreOfValue v j spans =
      Each (λ (s : Span). (name : ℕ) × IsOneOf v j name × Contains a.slots (record { alloca = name; block = s.block }))
      spans

  pub record IsAgainOne (w : Work) (n v : ℕ) (j : KeptValue) (line : List Instr) : Type 0 where
    pub work : Work
    pub spans : List Span
    pub over : RunsOver c line n spans w work
    pub of : AreOfValue v j spans
    pub right : IsRight work v j

  abbrev pub line_of : ℕ → ℕ → ℕ → KeptValue → List Instr
  line_of n m d j = loaded_there (begin_of x.function) n m d j.field_ty ++ behind_load n j

  module _ (w : Work) (n m v : ℕ) (low : length (named x).names ≤ n) (old : begin_of x.function < n) (lt : n + 1 < m)
      (room : m < length w.values) (begun : value_in w.values (begin_of x.function) ≡ pointer_at block start)
      (there : AreThere w) where
    abbrev pub Goal : KeptValue → Type 0
    Goal j =
        (kept : IsKeptValue x v j) → (f : HasField w v j) → HasSlot w n j → IsAddress j
        → IsAgainOne w n v j (line_of n m f.offset j)

    abbrev made : ℕ → Option ℕ → Option ℕ → KeptValue
    made at o slot =
        kept_value (cell_name (First x is) at) (field_name (First x is) (Count x is) at)
        (type_at (value_types (F x is) (Kept x is)) at) o slot

    -- a value comes as it is
    value_again : (at : ℕ) (slot : Option ℕ) → entry (plan x).cells v ≡ None → Goal (made at None slot)
    value_again at slot none kept f slots address =
        let j : KeptValue = made at None slot in
        let ty : Ty = j.ty in
        let t : IsKeptType ty = kept_type ty (has_cells x is kept.number j kept.there).ty in
        let cell_lt : j.cell < length (named x).names = kept_low x is v j kept in
        let u : Value = decode (access_of ty) f.bytes in
        let r : IsRead x homes c law a own block start w n m f.offset ty u =
        field_read x homes c law a own block start w n m f.offset ty f.bytes t old (omega (arith, lt)) room begun
        f.near f.sized f.holds in
        let p : IsPut x homes c law a own block start w n j.cell ty (line_of n m f.offset j) u =
        field_put x homes c law a own block start w n m f.offset j.cell ty u t (omega (arith, cell_lt, low)) r
        (there.values v j kept) in
        record {
          work = p.work;
          spans = p.spans;
          over = p.over;
          of = each_turns (λ (s : Span). Contains a.slots (record { alloca = j.cell; block = s.block })) _
              (λ s co. (j.cell, inl refl, co)) p.spans p.of;
          right = record {
            value = cell_has c.rights p.work.world.memory (at_work a p.work) j.cell ty
                (λ (z : Value). z ≡ stored (access_of ty) u) (IsValue homes (value_in env v))
                (λ z e. subst (IsValue homes (value_in env v)) (sym e)
                (storable_stands homes ty (value_in env v) u (storable v j kept) f.has)) p.cell_is;
            distance = λ cell s e root. let no : None ≡ Some cell = sym none ∙ e in absurd (cc);
          };
        }

    -- of an address in a slot the distance comes, and the address so far from the slot
    address_again : (at d slot : ℕ) → entry (plan x).cells v ≡ Some d → root_of x v ≡ Some slot
        → Goal (made at (Some d) (Some slot))
    address_again at d slot e root kept f slots address =
        let j : KeptValue = made at (Some d) (Some slot) in
        let is_ptr : j.ty ≡ ptr = address slot refl in
        let cell_lt : j.cell < length (named x).names = kept_low x is v j kept in
        let far_lt : d < length (named x).names = distance_low x is v d e in
        let s = slots slot refl in
        let u : Value = decode (access_of (int 64)) f.bytes in
        let r : IsRead x homes c law a own block start w n m f.offset (int 64) u =
        field_read x homes c law a own block start w n m f.offset (int 64) f.bytes (kept_type (int 64) refl) old
        (omega (arith, lt)) room begun f.near f.sized f.holds in
        let apart : j.cell ≢ d = λ same. distance_apart x is v d v j e kept (sym same) in
        let p : IsPutFar x homes c law a own block start w n j.cell d (line_of n m f.offset j) (value_in env slot)
        (value_in env v) =
        distance_put x homes c law a own block start w n m f.offset j.cell d slot (value_in env slot) (value_in env v) u
        (omega (arith, cell_lt, low)) (omega (arith, far_lt, low)) s.0 apart (omega (arith, lt, room))
        (subst (λ (ty : Ty). IsStorable ty (value_in env v)) is_ptr (storable v j kept)) r f.has s.1
        (there.distances v d e) (subst (λ (ty : Ty). Cell w j.cell ty Anything) is_ptr (there.values v j kept)) in
        record {
          work = p.work;
          spans = p.spans;
          over = p.over;
          of = each_turns
              (λ (z : Span). (name : ℕ) × ((name ≡ j.cell) ⊎ (name ≡ d))
              × Contains a.slots (record { alloca = name; block = z.block })) _
              (λ z h. (
                h.0,
                ⊎_elim (λ same. inl same) (λ (same : h.0 ≡ d). inr (e ∙ ap (λ (i : ℕ). Some i) (sym same))) h.1,
                h.2,
              )) p.spans p.of;
          right = record {
            value = subst (λ (ty : Ty). Cell p.work j.cell ty (IsValue homes (value_in env v))) (sym is_ptr) p.cell_is;
            distance = λ cell i told at_root.
                let one : Some d ≡ Some cell = sym e ∙ told in
                let two : Some slot ≡ Some i = sym root ∙ at_root in
                let same : d ≡ cell = cc in
                let same_slot : slot ≡ i = cc in
                subst (λ (z : ℕ). Cell p.work z (int 64) (IsDistanceOf (value_in env i) (value_in env v))) same
                (subst (λ (z : ℕ). Cell p.work d (int 64) (IsDistanceOf (value_in env z) (value_in env v))) same_slot
                p.far_is);
          };
        }

    by_cell : (at : ℕ) (o : Option ℕ) → entry (plan x).cells v ≡ o
        → Goal (made at o (entry (slots_of (local x is) (bases_of (edged x))) v))
    by_cell at None e = value_again at (entry (slots_of (local x is) (bases_of (edged x))) v) e
    by_cell at (Some d) e =
        let root = has_root x is v d e in
        subst (λ (o : Option ℕ). Goal (made at (Some d) o)) (sym root.1) (address_again at d root.0 e root.1)

    pub one_again : (j : KeptValue) → Goal j
    one_again j kept =
        let slots : List (Option ℕ) = slots_of (local x is) (bases_of (edged x)) in
        let y = kept_of (First x is) (Count x is) (value_types (F x is) (Kept x is)) (plan x).cells slots
        (Kept x is).values kept.number j kept.there in
        let here : slice_get (Kept x is).values kept.number ≡ Some v = (keeping x is).there v kept.number kept.told in
        let one : Some y.0 ≡ Some v = sym y.1 ∙ here in
        let name : y.0 ≡ v = cc in
        subst Goal
        (sym (y.2 ∙ (λ i. made kept.number (entry (plan x).cells (name i)) (entry slots (name i)))))
        (by_cell kept.number (entry (plan x).cells v) refl) kept

  -- ---- what stays

  module _ (w : Work) (n v : ℕ) (j : KeptValue) (line : List Instr) (kept : IsKeptValue x v j)
      (low : length (named x).names ≤ n) (one : IsAgainOne w n v j line) where
    elsewhere_of : (name b : ℕ) → Contains a.slots (record { alloca = name; block = b })
        → ((other : ℕ) → IsOneOf v j other → other ≢ name) → AreElsewhere b one.spans
    elsewhere_of name b co apart =
        each_turns
        (λ (s : Span). (other : ℕ) × IsOneOf v j other × Contains a.slots (record { alloca = other; block = s.block }))
        (λ (s : Span). s.block ≢ b) (λ s h. other_block a h.0 name s.block b own h.2 co (apart h.0 h.1)) one.spans
        one.of

    cell_on : (name : ℕ) (ty : Ty) (Has : Value → Type 0) → name < length (named x).names
        → ((other : ℕ) → IsOneOf v j other → other ≢ name) → Cell w name ty Has → Cell one.work name ty Has
    cell_on name ty Has lt apart h =
        cell_stays c.rights law one.spans w.world.memory one.work.world.memory a w one.work name ty Has one.over.fills h
        (elsewhere_of name h.block h.own apart) (one.over.others name (omega (arith, lt, low)))

    value_on : (u : ℕ) (i : KeptValue) (Has : Value → Type 0) (other : IsKeptValue x u i) → u ≢ v
        → Cell w i.cell i.ty Has
        → Cell one.work i.cell i.ty Has
    value_on u i Has other differ h =
        cell_on i.cell i.ty Has (kept_low x is u i other)
        (λ name of. ⊎_elim
        (λ (e : name ≡ j.cell) same. differ (kept_once x is u v i j other kept (sym same ∙ e)))
        (λ told same. distance_apart x is v name u i told other same) of) h

    distance_on : (u cell : ℕ) (Has : Value → Type 0) → entry (plan x).cells u ≡ Some cell → u ≢ v
        → Cell w cell (int 64) Has → Cell one.work cell (int 64) Has
    distance_on u cell Has e differ h =
        cell_on cell (int 64) Has (distance_low x is u cell e)
        (λ name of. ⊎_elim
        (λ (q : name ≡ j.cell) same. distance_apart x is u cell v j e kept (sym same ∙ q))
        (λ told same. distances_differ x is u v cell name e told differ (sym same)) of) h

    pub right_on : (u : ℕ) (i : KeptValue) → IsKeptValue x u i → u ≢ v → IsRight w u i → IsRight one.work u i
    right_on u i other differ r = record {
      value = value_on u i (IsValue homes (value_in env u)) other differ r.value;
      distance = λ cell slot e root.
          distance_on u cell (IsDistanceOf (value_in env slot) (value_in env u)) e differ (r.distance cell slot e root);
    }

    -- the value itself, under its other names
    pub right_here : (u : ℕ) (i : KeptValue) → IsKeptValue x u i → u ≡ v → IsRight one.work u i
    right_here u i other e =
        subst (λ (z : ℕ). IsRight one.work z i) (sym e)
        (subst (λ (z : KeptValue). IsRight one.work v z)
        (same_kept x is v j i kept (subst (λ (z : ℕ). IsKeptValue x z i) e other)) one.right)

    anything : (name : ℕ) (ty : Ty) (Has : Value → Type 0) → Cell one.work name ty Has → Cell one.work name ty Anything
    anything name ty Has h =
        cell_has c.rights one.work.world.memory (at_work a one.work) name ty Has Anything (λ z e. tt) h

    pub there_on : AreThere w → AreThere one.work
    there_on h = record {
      values = λ u i other. ⊎_elim
          (λ e. anything i.cell i.ty (IsValue homes (value_in env u)) (right_here u i other e).value)
          (λ d. value_on u i Anything other d (h.values u i other)) (is_number u v);
      distances = λ u cell e. ⊎_elim
          (λ (same : u ≡ v).
          let told : entry (plan x).cells v ≡ Some cell = ap (entry (plan x).cells) (sym same) ∙ e in
          let root = has_root x is v cell told in
          anything cell (int 64) (IsDistanceOf (value_in env root.0) (value_in env v))
          (one.right.distance cell root.0 told root.1))
          (λ d. distance_on u cell Anything e d (h.distances u cell e)) (is_number u v);
    }

    pub is_cell : (name : ℕ) → IsOneOf v j name → IsCellOf x name
    is_cell name of =
        ⊎_elim (λ (e : name ≡ j.cell). subst (IsCellOf x) (sym e) (kept_is_cell x is v j kept))
        (λ e. distance_of x is v name e) of

    pub field_on : (u : ℕ) (i : KeptValue) → HasField w u i → HasField one.work u i
    field_on u i f = record {
      offset = f.offset;
      told = f.told;
      near = f.near;
      bytes = f.bytes;
      sized = f.sized;
      holds = others_stay c.rights law one.spans w.world.memory one.work.world.memory block (start + f.offset)
          (value_bytes i.field_ty) f.bytes one.over.fills
          (elsewhere_apart block (start + f.offset) (length f.bytes) one.spans
          (each_turns
          (λ (s : Span). (other : ℕ) × IsOneOf v j other
          × Contains a.slots (record { alloca = other; block = s.block }))
          (λ (s : Span). s.block ≢ block)
          (λ s h. elsewhere (record { alloca = h.0; block = s.block }) h.2 (is_cell h.0 h.1)) one.spans one.of))
          f.holds;
      has = f.has;
    }
