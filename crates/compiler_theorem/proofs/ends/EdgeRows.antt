-- What crosses a suspend stands in its row, and has its field in the frame; the slot of a kept address is a name.
use Rattle.std.proofs.Common.{◌≡◌, ◌⊎◌, inl, inr, ⊎_elim, ℕ, zero, suc, ◌+◌, Bool, true, false, List, [], ◌∷◌, ◌++◌, Option, Some, None, refl, sym, ap, ◌∙◌, subst, if◌then◌else◌, ◌==◌, arith}
use Rattle.std.proofs.lemmas.Bool.{false≢true}
use Rattle.std.specs.Prelude.{replicate, slice_get, slice_set, ◌||◌}
use Rattle.compiler.specs.flow_solver.Paths.{IsListed}
use Rattle.compiler.specs.frame_contents.Held.{crossing_values, frame_slots, held_blocks, held_instr, held_instrs, held_params, held_phis, if_result, if_value, position_from, position_of, result_size, value_held, value_size}
use Rattle.compiler.specs.frame_contents.declared.held.Holding.{Holding}
use Rattle.compiler.specs.frame_crossing.Crossing.{AreCrossed, CrossedBy, LeftOut, More, NoMore, Nothing, Taken, suspends_of}
use Rattle.compiler.specs.frame_crossing.Values.{all_defined, blocks_defined, distinct, instrs_defined, is_apart, is_token, params_defined, phis_defined, result_unless, unless, values_of, with_new}
use Rattle.compiler.proofs.ir_laws.facts.Truth.{itself}
use Rattle.compiler.proofs.ir_laws.paths.source_rules.Locals.{listed_either, listed_left, listed_right}
use Rattle.compiler.specs.ir_model.Ty.{Ty}
use Rattle.compiler.specs.ir_model.declared.instr.Instr.{Instr}
use Rattle.compiler.specs.ir_model.declared.instr.Phi.{Phi}
use Rattle.compiler.specs.ir_model.declared.module.Block.{Block}
use Rattle.compiler.specs.ir_model.declared.module.Function.{Function}
use Rattle.compiler.specs.ir_model.declared.module.Module.{Module}
use Rattle.compiler.specs.ir_model.declared.module.Param.{Param}
use Rattle.compiler.specs.ir_parts.Contents.{result_of}
use Rattle.compiler.specs.ir_paths.Slots.{has_name, promise_of}
use Rattle.compiler.specs.ir_paths.declared.point.Point.{Point}
use Rattle.compiler.specs.pass_cells.Kept.{entry, row_or, rows_from, rows_of, value_types, with_pair, with_row_of}
use Rattle.compiler.specs.pass_cells.Links.{bases_of, slots_of}
use Rattle.compiler.specs.pass_cells.declared.plan.KeptValue.{KeptValue}
use Rattle.compiler.specs.pass_frames.Tables.{offset_at}
use Rattle.pass_frames_meaning.proofs.pass_frames_proof.code.Names.{Count, F, First, Kept, keeping, local}
use Rattle.pass_frames_meaning.proofs.pass_frames_proof.from_edges.Front.{listed_contains}
use Rattle.pass_frames_meaning.proofs.pass_frames_proof.lines.Rows.{field_placed}
use Rattle.pass_frames_meaning.specs.pass_frames_proof.Framings.{IsFraming}
use Rattle.pass_frames_meaning.specs.pass_frames_proof.FromEdges.{IsInRow}
use Rattle.pass_frames_meaning.specs.pass_frames_proof.Places.{Framing, edged, offsets, plan}
use Rattle.pass_frames_meaning.specs.pass_frames_proof.Related.{IsKeptValue}
use Rattle.compiler.proofs.pass_proofs.cells.rules.Plans.{kept_as, kept_at}

-- ---- rows

none_in : (n j k : ℕ) → IsListed k (row_or (slice_get (replicate {A = List ℕ} n []) j)) → ⊥
none_in zero j k l = l
none_in (suc n) zero k l = l
none_in (suc n) (suc j) k l = none_in n j k l

-- a value with the place is paired with the suspend
abbrev IsPaired : List (Option ℕ) → List (ℕ × ℕ) → ℕ → ℕ → Type 0
IsPaired places ps j k = (v : ℕ) × IsListed {X = ℕ × ℕ} (v, j) ps × (entry places v ≡ Some k)

set_row : (k : ℕ) (rows : List (List ℕ)) (i : ℕ) (new : List ℕ) (j : ℕ)
    → IsListed k (row_or (slice_get (slice_set rows i new) j))
    → IsListed k (row_or (slice_get rows j)) ⊎ ((i ≡ j) × IsListed k new)
set_row k [] i new j l = inl l
set_row k (r ∷ rows) zero new zero l = inr (refl, l)
set_row k (r ∷ rows) zero new (suc j) l = inl l
set_row k (r ∷ rows) (suc i) new zero l = inl l
set_row k (r ∷ rows) (suc i) new (suc j) l =
    ⊎_elim (λ h. inl h) (λ (h : (i ≡ j) × IsListed k new). inr (ap suc h.0, h.1)) (set_row k rows i new j l)

module _ (places : List (Option ℕ)) (j k : ℕ) where
  abbrev InRow : List (List ℕ) → Type 0
  InRow rows = IsListed k (row_or (slice_get rows j))

  one_row : (rows : List (List ℕ)) (p : ℕ × ℕ) (o : Option ℕ) → entry places p.0 ≡ o
      → InRow (with_row_of rows p.1 o) → InRow rows ⊎ ((p.1 ≡ j) × (entry places p.0 ≡ Some k))
  one_row rows p None e l = inl l
  one_row rows p (Some n) e l =
      ⊎_elim (λ h. inl h)
      (λ (h : (p.1 ≡ j) × IsListed k (row_or (slice_get rows p.1) ++ n ∷ [])).
      ⊎_elim (λ old. inl (subst (λ (i : ℕ). IsListed k (row_or (slice_get rows i))) h.0 old))
      (λ (l : IsListed k (n ∷ [])).
      ⊎_elim (λ (same : k ≡ n). inr (h.0, e ∙ ap Some (sym same))) (λ none. absurd none) l)
      (listed_either k (row_or (slice_get rows p.1)) (n ∷ []) h.1))
      (set_row k rows p.1 (row_or (slice_get rows p.1) ++ n ∷ []) j l)

  in_rows : (rows : List (List ℕ)) (ps : List (ℕ × ℕ)) → InRow (rows_from places rows ps)
      → InRow rows ⊎ IsPaired places ps j k
  in_rows rows [] l = inl l
  in_rows rows (p ∷ ps) l =
      ⊎_elim
      (λ h. ⊎_elim (λ old. inl old)
      (λ (q : (p.1 ≡ j) × (entry places p.0 ≡ Some k)). inr (p.0, inl (λ i. (p.0, sym q.0 i)), q.1))
      (one_row rows p (entry places p.0) refl h))
      (λ (q : IsPaired places ps j k). inr (q.0, inr q.1, q.2))
      (in_rows (with_pair places rows p.0 p.1) ps l)

  pub paired : (n : ℕ) (ps : List (ℕ × ℕ)) → InRow (rows_of places n ps) → IsPaired places ps j k
  paired n ps l = ⊎_elim (λ none. absurd (none_in n j k none)) (λ q. q) (in_rows (replicate n []) ps l)

-- ---- what crosses is one of the values

crossed_is : (f : Function) (u n : ℕ) (ss : List Point) (all : List (ℕ × ℕ)) → AreCrossed f u n ss all → (p : ℕ × ℕ)
    → IsListed p all → p.0 ≡ u
crossed_is f u _ _ _ (NoMore n) p l = absurd l
crossed_is f u _ _ _ (Taken n q ss all crosses rest) p (inl e) = ap (λ (y : ℕ × ℕ). y.0) e
crossed_is f u _ _ _ (Taken n q ss all crosses rest) p (inr l) = crossed_is f u (n + 1) ss all rest p l
crossed_is f u _ _ _ (LeftOut n q ss all never rest) p l = crossed_is f u (n + 1) ss all rest p l

crossing_is : (f : Function) (us : List ℕ) (all : List (ℕ × ℕ)) → CrossedBy f us all → (p : ℕ × ℕ) → IsListed p all
    → IsListed p.0 us
crossing_is f _ _ Nothing p l = absurd l
crossing_is f _ _ (More u us here rest first more) p l =
    ⊎_elim (λ a. inl (crossed_is f u 0 (suspends_of f) here first p a)) (λ b. inr (crossing_is f us rest more p b))
    (listed_either p here rest l)

crossing_named : (ps : List (ℕ × ℕ)) (p : ℕ × ℕ) → IsListed p ps → has_name (crossing_values ps) p.0 ≡ true
crossing_named [] p l = absurd l
crossing_named (q ∷ ps) p (inl e) =
    ap (λ (b : Bool). ◌||◌ b (has_name (crossing_values ps) p.0))
    (ap (λ (y : ℕ × ℕ). q.0 == y.0) e ∙ itself q.0)
crossing_named (q ∷ ps) p (inr l) = on (q.0 == p.0) (crossing_named ps p l)
  where
    on : (b : Bool) → has_name (crossing_values ps) p.0 ≡ true
        → ◌||◌ b (has_name (crossing_values ps) p.0) ≡ true
    on true h = refl
    on false h = h

new_listed : (found : List ℕ) (v u : ℕ) → IsListed u (with_new found v) → IsListed u found ⊎ (u ≡ v)
new_listed found v u l = on (has_name found v) l
  where
    on : (b : Bool) → IsListed u (if b then found else found ++ v ∷ []) → IsListed u found ⊎ (u ≡ v)
    on true l = inl l
    on false l = ⊎_elim (λ h. inl h) (λ (h : IsListed u (v ∷ [])). ⊎_elim (λ e. inr e) (λ none. absurd none) h)
        (listed_either u found (v ∷ []) l)

distinct_listed : (found vs : List ℕ) (u : ℕ) → IsListed u (distinct found vs) → IsListed u found ⊎ IsListed u vs
distinct_listed found [] u l = inl l
distinct_listed found (v ∷ vs) u l =
    ⊎_elim (λ h. ⊎_elim (λ old. inl old) (λ e. inr (inl e)) (new_listed found v u h)) (λ h. inr (inr h))
    (distinct_listed (with_new found v) vs u l)

-- ---- and it is held

abbrev IsHeldIn : List Holding → ℕ → Type 0
IsHeldIn hs v = (h : Holding) × IsListed h hs × (h.value ≡ v)

held_left : (v : ℕ) (xs ys : List Holding) → IsHeldIn xs v → IsHeldIn (xs ++ ys) v
held_left v xs ys h = (h.0, listed_left h.0 xs ys h.1, h.2)

held_right : (v : ℕ) (xs ys : List Holding) → IsHeldIn ys v → IsHeldIn (xs ++ ys) v
held_right v xs ys h = (h.0, listed_right h.0 xs ys h.1, h.2)

module _ (m : Module) (promise : Option ℕ) (is_value is_slot : ℕ → Bool) (v : ℕ) (told : is_value v ≡ true) where
  one_held : (u size : ℕ) → v ≡ u → IsHeldIn (if_value is_value u size) v
  one_held u size same = on (is_value u) (ap is_value (sym same) ∙ told)
    where
      on : (b : Bool) → b ≡ true → IsHeldIn (if b then value_held u size ∷ [] else []) v
      on true e = (value_held u size, inl refl, sym same)
      on false e = absurd (false≢true e)

  is_one : (b : Bool) (u : ℕ) → IsListed v (unless b u) → v ≡ u
  is_one true u l = absurd l
  is_one false u l = ⊎_elim (λ e. e) (λ none. absurd none) l

  params_held : (ps : List Param) → IsListed v (params_defined ps) → IsHeldIn (held_params is_value ps) v
  params_held [] l = absurd l
  params_held (p ∷ ps) l =
      ⊎_elim
      (λ h. held_left v (if_value is_value p.name (value_size p.ty)) (held_params is_value ps)
      (one_held p.name (value_size p.ty) (is_one (is_token p.ty) p.name h)))
      (λ h. held_right v (if_value is_value p.name (value_size p.ty)) (held_params is_value ps) (params_held ps h))
      (listed_either v (unless (is_token p.ty) p.name) (params_defined ps) l)

  phis_held : (ps : List Phi) → IsListed v (phis_defined ps) → IsHeldIn (held_phis is_value ps) v
  phis_held [] l = absurd l
  phis_held (p ∷ ps) l =
      ⊎_elim
      (λ h. held_left v (if_value is_value p.result (value_size p.ty)) (held_phis is_value ps)
      (one_held p.result (value_size p.ty) (is_one (is_token p.ty) p.result h)))
      (λ h. held_right v (if_value is_value p.result (value_size p.ty)) (held_phis is_value ps) (phis_held ps h))
      (listed_either v (unless (is_token p.ty) p.result) (phis_defined ps) l)

  result_held : (b : Bool) (o : Option ℕ) (size : ℕ) → IsListed v (result_unless b o)
      → IsHeldIn (if_result is_value o size) v
  result_held b None size l = absurd l
  result_held b (Some u) size l = one_held u size (is_one b u l)

  instr_held : (i : Instr) → IsListed v (result_unless (is_apart i) (result_of i))
      → IsHeldIn (held_instr m promise is_value is_slot i) v
  instr_held (Instr.Alloca r ty align) l = absurd l
  instr_held i l = result_held (is_apart i) (result_of i) (result_size i) l

  instrs_held : (is : List Instr) → IsListed v (instrs_defined is)
      → IsHeldIn (held_instrs m promise is_value is_slot is) v
  instrs_held [] l = absurd l
  instrs_held (i ∷ is) l =
      ⊎_elim
      (λ h. held_left v (held_instr m promise is_value is_slot i) (held_instrs m promise is_value is_slot is)
      (instr_held i h))
      (λ h. held_right v (held_instr m promise is_value is_slot i) (held_instrs m promise is_value is_slot is)
      (instrs_held is h))
      (listed_either v (result_unless (is_apart i) (result_of i)) (instrs_defined is) l)

  blocks_held : (bs : List Block) → IsListed v (blocks_defined bs)
      → IsHeldIn (held_blocks m promise is_value is_slot bs) v
  blocks_held [] l = absurd l
  blocks_held (b ∷ bs) l =
      let phis : List Holding = held_phis is_value b.phis in
      let instrs : List Holding = held_instrs m promise is_value is_slot b.instrs in
      let rest : List Holding = held_blocks m promise is_value is_slot bs in
      ⊎_elim
      (λ h. held_left v (phis ++ instrs) rest (held_left v phis instrs (phis_held b.phis h)))
      (λ h. ⊎_elim
      (λ h. held_left v (phis ++ instrs) rest (held_right v phis instrs (instrs_held b.instrs h)))
      (λ h. held_right v (phis ++ instrs) rest (blocks_held bs h))
      (listed_either v (instrs_defined b.instrs) (blocks_defined bs) h))
      (listed_either v (phis_defined b.phis) (instrs_defined b.instrs ++ blocks_defined bs) l)

-- the first of its name
first_place : (k : ℕ) (hs : List Holding) (v : ℕ) → IsHeldIn hs v → (n : ℕ) × (position_from k hs v ≡ Some n)
first_place k [] v h = absurd h.1
first_place k (x ∷ hs) v h = on (x.value == v) refl h.1 (λ l. first_place (k + 1) hs v (h.0, l, h.2))
  where
    on : (b : Bool) → (x.value == v) ≡ b → (h.0 ≡ x) ⊎ IsListed h.0 hs
        → (IsListed h.0 hs → (n : ℕ) × (position_from (k + 1) hs v ≡ Some n))
        → (n : ℕ) × ((if b then Some k else position_from (k + 1) hs v) ≡ Some n)
    on true e l more = (k, refl)
    on false e (inl same) more =
        let t : (x.value == v) ≡ true = ap (λ (n : ℕ). n == v) (sym (ap (λ (y : Holding). y.value) same) ∙ h.2)
        ∙ itself v in
        absurd (false≢true (sym e ∙ t))
    on false e (inr l) more = more l

-- ---- of a coroutine

module _ (x : Framing) (is : IsFraming x) where
  abbrev crossing : List (ℕ × ℕ)
  crossing = x.contents.crossing

  value_place : (p : ℕ × ℕ) → IsListed p x.contents.crossing
      → (n : ℕ) × (position_of x.contents.held p.0 ≡ Some n)
  value_place p l =
      let is_value : ℕ → Bool = has_name (crossing_values crossing) in
      let is_slot : ℕ → Bool = has_name (frame_slots x.function x.contents.classes) in
      let told : is_value p.0 ≡ true = crossing_named crossing p l in
      let value : IsListed p.0 (all_defined x.function) =
      ⊎_elim (λ none. absurd none) (λ h. h)
      (distinct_listed [] (all_defined x.function) p.0
      (crossing_is x.function (values_of x.function) crossing is.frameable.contents.crossing_are p l)) in
      let params : List Holding = held_params is_value x.function.params in
      let blocks : List Holding = held_blocks x.code (promise_of x.function) is_value is_slot x.function.blocks in
      first_place 0 x.contents.held p.0
      (subst (λ (hs : List Holding). IsHeldIn hs p.0) (sym is.frameable.contents.held_are)
      (⊎_elim
      (λ h. held_left p.0 params blocks
      (params_held x.code (promise_of x.function) is_value is_slot p.0 told x.function.params h))
      (λ h. held_right p.0 params blocks
      (blocks_held x.code (promise_of x.function) is_value is_slot p.0 told x.function.blocks h))
      (listed_either p.0 (params_defined x.function.params) (blocks_defined x.function.blocks) value)))

  pub in_row : (order v : ℕ) (k : KeptValue) → (kept : IsKeptValue x v k)
      → IsListed kept.number (row_or (slice_get (plan x).rows order)) → IsInRow x 0 order v
  in_row order v k kept l =
      let q = paired (plan x).places order kept.number _ crossing l in
      let one : Some q.0 ≡ Some v =
      sym ((keeping x is).there q.0 kept.number q.2) ∙ (keeping x is).there v kept.number kept.told in
      let same : q.0 ≡ v = cc in
      let listed : IsListed {X = ℕ × ℕ} (v, order) crossing =
      subst (λ (u : ℕ). IsListed {X = ℕ × ℕ} (u, order) crossing) same q.1 in
      let place = value_place (v, order) listed in
      let low = is.frameable.near place.0 in
      record {
        crosses = listed_contains crossing (v, order) listed;
        position = place.0;
        placed = place.1;
        near = omega (arith, low);
      }

  -- a row has numbers of kept values, whose fields lie in the frame
  pub record IsToldRow (at : ℕ) : Type 0 where
    pub name : ℕ
    pub value : KeptValue
    pub told : entry (plan x).places name ≡ Some at
    pub there : slice_get (plan x).kept at ≡ Some value
    pub offset : ℕ
    pub placed : slice_get (offsets x) value.field ≡ Some (Some offset)

  pub row_told : (order at : ℕ) → IsListed at (row_or (slice_get (plan x).rows order)) → IsToldRow at
  row_told order at l =
      let q = paired (plan x).places order at _ crossing l in
      let slots : List (Option ℕ) = slots_of (local x is) (bases_of (edged x)) in
      let types : List Ty = value_types (F x is) (Kept x is) in
      let here : slice_get (Kept x is).values at ≡ Some q.0 = (keeping x is).there q.0 at q.2 in
      let k : KeptValue = kept_as (First x is) (Count x is) types (plan x).cells slots at q.0 in
      let there : slice_get (plan x).kept at ≡ Some k =
      kept_at (First x is) (Count x is) types (plan x).cells slots (Kept x is).values at q.0 here in
      let place = value_place (q.0, order) q.1 in
      record {
        name = q.0;
        value = k;
        told = q.2;
        there = there;
        offset = offset_at x.layout place.0;
        placed = field_placed x is q.0 place.0 k (record { number = at; told = q.2; there = there }) place.1;
      }
