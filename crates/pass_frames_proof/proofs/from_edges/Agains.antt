-- What loads values again fills cells alone, and sets no names but new ones.
use Rattle.std.proofs.Common.{◌≡◌, ◌⊎◌, ◌+◌, ◌*◌, ◌<◌, ◌≤◌, ◌∷◌, ◌++◌, ◌∙◌, [], List, None, Option, Some, ap, arith, inl, inr, length, refl, subst, sym, ℕ, ⊎_elim}
use Rattle.std.specs.Prelude.{slice_get}
use Rattle.pass_frames_steps.specs.flow_solver.Paths.{IsListed}
use Rattle.pass_frames_steps.proofs.ir_laws.facts.Members.{each_joined}
use Rattle.pass_frames_steps.specs.ir_model.Ty.{Ty, ptr}
use Rattle.pass_frames_steps.specs.ir_model.declared.instr.Instr.{Instr}
use Rattle.pass_frames_steps.specs.ir_model.declared.operand.Arg.{Arg}
use Rattle.pass_frames_steps.specs.ir_model.declared.operand.Operand.{Operand}
use Rattle.pass_frames_steps.specs.ir_parts.Contents.{result_of}
use Rattle.pass_frames_steps.specs.pass_cells.Kept.{entry, value_types}
use Rattle.pass_frames_steps.specs.pass_cells.Links.{bases_of, cell_name, field_name, slots_of}
use Rattle.pass_frames_steps.specs.pass_cells.Moves.{address_again, again_one, again_values}
use Rattle.pass_frames_steps.specs.pass_cells.Plan.{kept_value, type_at}
use Rattle.pass_frames_steps.specs.pass_cells.declared.plan.KeptValue.{KeptValue}
use Rattle.pass_frames_steps.specs.pass_fetch.Fetching.{address_behind, value_bytes}
use Rattle.pass_frames_steps.specs.pass_frames.Framed.{begin_of}
use Rattle.pass_frames_steps.proofs.agains.Lines.{A, again_code, behind_load, root_unfetched}
use Rattle.pass_frames_steps.proofs.agains.One.{loaded_there, slot_address}
use Rattle.pass_frames_steps.proofs.agains.Values.{kept_root}
use Rattle.pass_frames_steps.proofs.code.Left.{Far, far_named}
use Rattle.pass_frames_steps.proofs.code.Names.{Count, F, First, Kept, keeping, local}
use Rattle.pass_frames_proof.proofs.jumping.Fronts.{store_changes}
use Rattle.pass_frames_steps.proofs.layers.Grown.{grown_append}
use Rattle.pass_frames_steps.proofs.led.Steps.{still_value}
use Rattle.pass_frames_steps.proofs.lines.Fillers.{filler_left}
use Rattle.pass_frames_steps.proofs.lines.Names.{distance_of}
use Rattle.pass_frames_steps.proofs.lines.Results.{kept_is_cell}
use Rattle.pass_frames_steps.specs.Code.{addressed}
use Rattle.pass_frames_steps.specs.Framings.{IsFraming}
use Rattle.pass_frames_steps.specs.FromEdges.{IsCellMove, agains_line}
use Rattle.pass_frames_steps.specs.Layers.{grown}
use Rattle.pass_frames_steps.specs.Led.{IsNotSet, IsStill}
use Rattle.pass_frames_steps.specs.Lines.{IsCellOf, at_work}
use Rattle.pass_frames_steps.specs.Places.{Framing, edged, named, offsets, plan}
use Rattle.pass_frames_steps.specs.Related.{Anything, AreCellsThere, IsCell, IsKeptValue}
use Rattle.pass_frames_steps.proofs.pass_proofs.cells.rules.Plans.{kept_of}
use Rattle.pass_frames_steps.specs.run_laws.access.Lines.{Runs}
use Rattle.pass_frames_steps.specs.run_laws.changed.Changed.{Each}
use Rattle.pass_frames_steps.specs.run_memory.Memory.{Rights}
use Rattle.pass_frames_steps.specs.run_memory.declared.block.MemoryBlock.{MemoryBlock}
use Rattle.pass_frames_steps.specs.run_source.declared.state.Activation.{Activation}
use Rattle.pass_frames_steps.specs.run_step.Step.{Context, Done, Work, instr_action}
use Rattle.pass_frames_steps.specs.run_step.Values.{Env, value_in}
use Rattle.pass_frames_steps.proofs.stepping.Names.{cell_is_name}

-- ---- the cell from which a field is filled, and into which it is loaded

module _ (x : Framing) (is : IsFraming x) (rights : Rights) (m : List MemoryBlock) (a : Activation)
    (there : AreCellsThere x rights m a) where
  pub record IsFillCell (cell : ℕ) (ty : Ty) : Type 0 where
    pub of : IsCellOf x cell
    pub is_there : IsCell rights m a cell ty Anything

  module _ (v : ℕ) (k : KeptValue) (kept : IsKeptValue x v k) where
    abbrev slots : List (Option ℕ)
    slots = slots_of (local x is) (bases_of (edged x))

    abbrev made : ℕ → Option ℕ → Option ℕ → KeptValue
    made at o slot =
        kept_value (cell_name (First x is) at) (field_name (First x is) (Count x is) at)
        (type_at (value_types (F x is) (Kept x is)) at) o slot

    abbrev Fills : KeptValue → Type 0
    Fills z = IsFillCell z.field_cell z.field_ty

    by_cell : (at : ℕ) (o : Option ℕ) → entry (plan x).cells v ≡ o → k ≡ made at o (entry slots v) → Fills k
    by_cell at None e same =
        subst Fills (sym same)
        (subst (λ (z : KeptValue). IsFillCell z.cell z.ty) same
        (record { of = kept_is_cell x is v k kept; is_there = there.values v k kept }))
    by_cell at (Some d) e same =
        subst Fills (sym same) (record { of = distance_of x is v d e; is_there = there.distances v d e })

    pub fill_cell : Fills k
    fill_cell =
        let y = kept_of (First x is) (Count x is) (value_types (F x is) (Kept x is)) (plan x).cells slots
        (Kept x is).values kept.number k kept.there in
        let here : slice_get (Kept x is).values kept.number ≡ Some v = (keeping x is).there v kept.number kept.told in
        let one : Some y.0 ≡ Some v = sym y.1 ∙ here in
        let name : y.0 ≡ v = cc in
        by_cell kept.number (entry (plan x).cells v) refl
        (y.2 ∙ (λ j. made kept.number (entry (plan x).cells (name j)) (entry slots (name j))))

-- ---- one value

module _ (x : Framing) (is : IsFraming x) (rights : Rights) (a : Activation) (start : Work)
    (there : AreCellsThere x rights start.world.memory (at_work a start)) (first last high : ℕ)
    (low : length (named x).names ≤ first) where
  -- a move into cells, which sets no name in between
  abbrev pub Quiet : Instr → Type 0
  Quiet j = IsCellMove x a start first j × ((u : ℕ) → last ≤ u → u < high → IsNotSet u j)

  into : (v : ℕ) (k : KeptValue) (kept : IsKeptValue x v k) (arg : Arg) (align cell : ℕ) (ty : Ty) → IsCellOf x cell
      → IsCell rights start.world.memory (at_work a start) cell ty Anything
      → Quiet (Instr.Store arg (Operand.Local cell) align)
  into v k kept arg align cell ty of h = (
    inr (record {
      arg = arg;
      cell = cell;
      align = align;
      block = h.block;
      is = refl;
      name = cell_is_name x cell of;
      low = let lt : cell < length (named x).names = of.1 in omega (arith, lt, low);
      own = h.own;
      leads = h.address;
    }),
    λ u le lt e. absurd (cc),
  )

  sets : (j : Instr) (r : ℕ) → IsStill j → result_of j ≡ Some r → first ≤ r → (r < last) ⊎ (high ≤ r) → Quiet j
  sets j r still e le apart = (
    inl (record { still = still; high = λ q d. subst (λ (z : ℕ). first ≤ z) (same q d) le }),
    λ u lo hi d. ⊎_elim (λ lt. let s = same u d in absurd (omega (arith, s, lo, lt)))
        (λ up. let s = same u d in absurd (omega (arith, s, hi, up))) apart,
  )
    where
      same : (q : ℕ) → result_of j ≡ Some q → r ≡ q
      same q d = let both : Some r ≡ Some q = sym e ∙ d in cc

  module _ (v : ℕ) (k : KeptValue) (kept : IsKeptValue x v k) (n m d : ℕ) (from : first ≤ n) (to : n + 2 ≤ last)
      (up : high ≤ m) (ordered : last ≤ high) where
    again : (o : Option ℕ) → Each Quiet (address_again n k.cell o)
    again None = tt
    again (Some slot) = (
      sets (slot_address n slot) (n + 1) tt refl (omega (arith, from)) (inl (omega (arith, to))),
      (
        into v k kept (record { ty = ptr; value = Operand.Local (n + 1) }) (value_bytes ptr) k.cell k.ty
            (kept_is_cell x is v k kept) (there.values v k kept),
        tt,
      ),
    )

    pub one_quiet : Each Quiet (loaded_there (begin_of x.function) n m d k.field_ty ++ behind_load n k)
    one_quiet =
        let f = fill_cell x is rights start.world.memory (at_work a start) there v k kept in (
          sets (address_behind m (begin_of x.function) d) m tt refl (omega (arith, from, to, up, ordered)) (inr up),
          (
            sets (Instr.Load n k.field_ty (Operand.Local m) (value_bytes k.field_ty)) n tt refl from
                (inl (omega (arith, to))),
            (
              into v k kept (record { ty = k.field_ty; value = Operand.Local n }) (value_bytes k.field_ty) k.field_cell
                  k.field_ty f.of f.is_there,
              again k.slot,
            ),
          ),
        )

  -- ---- a row

  module _ (block : ℕ) (ordered : last ≤ high) where
    pub row_quiet : (row : List ℕ) (n m : ℕ) → first ≤ n → n + 2 * length row ≤ last → high ≤ m
        → ((v : ℕ) (k : KeptValue) → (kept : IsKeptValue x v k) → IsListed kept.number row
        → (d : ℕ) × (slice_get (offsets x) k.field ≡ Some (Some d)))
        → Each Quiet (agains_line x block n m row)
    row_quiet [] n m from to up told = tt
    row_quiet (at ∷ row) n m from to up told =
        on (slice_get (plan x).kept at) refl
        (λ q le. row_quiet row (n + 2) q (omega (arith, from)) (omega (arith, to)) (omega (arith, up, le))
        (λ v k kept l. told v k kept (inr l)))
      where
        on : (o : Option KeptValue) → slice_get (plan x).kept at ≡ o
            → ((q : ℕ) → m ≤ q → Each Quiet (agains_line x block (n + 2) q row))
            → Each Quiet (addressed x block (m, tt) (again_one n o ++ again_values (plan x).kept (n + 2) row))
        on None e rest = rest m (omega arith)
        on (Some k) e rest =
            let slots : List (Option ℕ) = slots_of (local x is) (bases_of (edged x)) in
            let y = kept_of (First x is) (Count x is) (value_types (F x is) (Kept x is)) (plan x).cells slots
            (Kept x is).values at k e in
            let v : ℕ = y.0 in
            let kept : IsKeptValue x v k = record { number = at; told = (keeping x is).back v at y.1; there = e } in
            let f = told v k kept (inl refl) in
            let far : Far x is ≤ length (named x).names = far_named x is in
            let code = again_code x is block n m at f.0 k (omega (arith, low, far, from)) e (filler_left x is v k kept)
            (λ slot s. root_unfetched x is v slot (kept_root x is v k kept slot s)) f.1 in
            subst (Each Quiet)
            (sym
            (grown_append (A x block) (m, tt) (again_one n (Some k)) (again_values (plan x).kept (n + 2) row)
            ∙ (λ i. code.0 i ++ grown (A x block) (code.1 i) (again_values (plan x).kept (n + 2) row))))
            (each_joined Quiet (loaded_there (begin_of x.function) n m f.0 k.field_ty ++ behind_load n k)
            (agains_line x block (n + 2) (m + 1) row)
            (one_quiet v k kept n m f.0 from (omega (arith, to)) up ordered) (rest (m + 1) (omega arith)))

-- ---- names that aren't set stay

pub quiet_value : (x : Framing) (a : Activation) (start : Work) (first : ℕ) (d : Context) (k : ℕ) (line : List Instr)
    (w z : Work) → Each (λ (j : Instr). IsCellMove x a start first j × IsNotSet k j) line → Runs d line w z
    → value_in z.values k ≡ value_in w.values k
quiet_value x a start first d k [] w z m runs = ap (λ (u : Work). value_in u.values k) runs
quiet_value x a start first d k (j ∷ js) w z m runs =
    quiet_value x a start first d k js runs.0 z m.1 runs.1.1 ∙ one m.0.0 m.0.1
  where
    one : IsCellMove x a start first j → IsNotSet k j → value_in runs.0.values k ≡ value_in w.values k
    one (inl s) unset = still_value d k w runs.0 j s.still unset runs.1.0
    one (inr s) unset =
        ap (λ (q : Env). value_in q k)
        (store_changes d w runs.0 s.arg (Operand.Local s.cell) s.align
        (subst (λ (i : Instr). instr_action d w i ≡ Done runs.0) s.is runs.1.0)).values
