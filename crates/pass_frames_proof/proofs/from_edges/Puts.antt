-- In front of a block on a resume or destroy edge the addresses of slots that are used before begin go to their cells.
use Rattle.std.proofs.Common.{◌≡◌, ◌≢◌, ◌+◌, ◌<◌, ◌≤◌, ◌∷◌, ◌++◌, ◌∙◌, [], List, None, Some, ap, arith, inl, inr, length, refl, subst, sym, ℕ}
use Rattle.std.specs.List.{Contains}
use Rattle.std.specs.Prelude.{slice_get}
use Rattle.pass_frames_steps.specs.flow_solver.Paths.{IsListed}
use Rattle.pass_frames_steps.proofs.ir_laws.facts.Members.{each_joined, each_turns}
use Rattle.pass_frames_steps.specs.ir_laws.paths.woven_rules.Pairs.{AreDifferent}
use Rattle.pass_frames_steps.specs.ir_model.Ty.{ptr}
use Rattle.pass_frames_steps.specs.ir_model.declared.instr.Instr.{Instr}
use Rattle.pass_frames_steps.specs.ir_model.declared.operand.Operand.{Operand}
use Rattle.pass_frames_steps.specs.pass_addresses.Placing.{lies_outside}
use Rattle.pass_frames_steps.specs.pass_copies.BeginCopies.{put, puts}
use Rattle.pass_frames_steps.specs.pass_copies.declared.slot.EarlySlot.{EarlySlot}
use Rattle.pass_frames_steps.specs.pass_fetch.Fetching.{address_behind, fetch_of, fetches_by, next_by, operand_by}
use Rattle.pass_frames_steps.specs.pass_frames.Framed.{begin_of}
use Rattle.pass_frames_steps.proofs.code.Idle.{only_idle}
use Rattle.pass_frames_steps.proofs.distances.Sums.{set_from, value_set}
use Rattle.pass_frames_steps.proofs.layers.Grown.{both_becomes}
use Rattle.pass_frames_steps.proofs.layers.Idle.{all_stay}
use Rattle.pass_frames_steps.proofs.lines.Cells.{AreOf, cell_has, cell_on, cell_stays, cell_stores, inside_of, kept_type, other_block}
use Rattle.pass_frames_steps.proofs.lines.Filled.{over_fewer, over_joined, over_none, over_sets}
use Rattle.pass_frames_steps.proofs.lines.Fillers.{field_fetched}
use Rattle.pass_frames_steps.specs.Code.{addressed, slot_table}
use Rattle.pass_frames_steps.specs.Entry.{cells_of}
use Rattle.pass_frames_steps.specs.FromEdges.{IsEarlyInFrame}
use Rattle.pass_frames_steps.specs.Layers.{Layer, becomes, grown, only, passed}
use Rattle.pass_frames_steps.specs.Lines.{HasOwnBlocks, RunsOver, StoresCell, at_work}
use Rattle.pass_frames_steps.specs.Passes.{fetching_at}
use Rattle.pass_frames_steps.specs.Places.{Framing, addressing_layer, offsets, unmarked}
use Rattle.pass_frames_steps.specs.Related.{Anything, IsCell}
use Rattle.pass_frames_steps.proofs.pass_proofs.addresses.numbers.Done.{address_done}
use Rattle.pass_frames_steps.specs.run_laws.access.Accessed.{Span}
use Rattle.pass_frames_steps.specs.run_laws.access.Lines.{pointer_at}
use Rattle.pass_frames_steps.specs.run_laws.changed.Changed.{Each}
use Rattle.pass_frames_steps.specs.run_laws.memory.Standing.{AreByteRights}
use Rattle.pass_frames_steps.specs.run_memory.declared.pointer.Access.{Access}
use Rattle.pass_frames_steps.specs.run_memory.declared.pointer.Value.{Value}
use Rattle.pass_frames_steps.specs.run_source.declared.state.Activation.{Activation}
use Rattle.pass_frames_steps.specs.run_step.Step.{Context, Work, set_value}
use Rattle.pass_frames_steps.specs.run_step.Values.{stored, value_in}

module _ (x : Framing) (k : ℕ) where
  abbrev A : Layer (ℕ × Unit {0})
  A = addressing_layer x k

  -- an address is made and put into the cell
  abbrev pub put_code : ℕ → ℕ → EarlySlot → List Instr
  put_code m d s = address_behind m (begin_of x.function) d ∷ put m s.cell ∷ []

  pub put_is : (m d : ℕ) (s : EarlySlot) → slice_get (offsets x) s.slot ≡ Some (Some d)
      → fetch_of (slot_table x) (Operand.Local s.cell) ≡ None
      → (becomes A (m, tt) (put s.slot s.cell) ≡ put_code m d s)
      × (A.after (m, tt) (put s.slot s.cell) ≡ (m + 1, tt))
  put_is m d s told none =
      let at = field_fetched x k s.slot d told in (
        both_becomes (fetching_at (unmarked x) (slot_table x) k) (only (lies_outside (offsets x))) m tt
            (put s.slot s.cell)
            ∙ (λ i. grown (only (lies_outside (offsets x))) tt
            ((fetches_by m (at i) ++ (fetches_by (next_by m (at i)) (none i) ++ []))
            ++ (Instr.Store (record { ty = ptr; value = operand_by m (at i) (Operand.Local s.slot) })
            (operand_by (next_by m (at i)) (none i) (Operand.Local s.cell)) 8 ∷ [])))
            ∙ all_stay (only (lies_outside (offsets x))) (put_code m d s)
            (only_idle (lies_outside (offsets x)) _ refl, (only_idle (lies_outside (offsets x)) _ refl, tt)) tt,
        (λ i. (next_by (next_by m (at i)) (none i), tt)),
      )

  -- all of them, one behind another
  module _ (start : ℕ) where
    abbrev InFrame : EarlySlot → Type 0
    InFrame s = IsEarlyInFrame x start s

    abbrev pub puts_code : (m : ℕ) (ss : List EarlySlot) → Each InFrame ss → List Instr
    puts_code m [] h = []
    puts_code m (s ∷ ss) h = put_code m h.0.offset s ++ puts_code (m + 1) ss h.1

    pub puts_are : (m : ℕ) (ss : List EarlySlot) (h : Each InFrame ss)
        → (addressed x k (m, tt) (puts ss) ≡ puts_code m ss h)
        × (passed A (m, tt) (puts ss) ≡ (m + length ss, tt))
    puts_are m [] h = (refl, let e : m ≡ m + 0 = omega arith in λ i. (e i, tt))
    puts_are m (s ∷ ss) h =
        let code = put_is m h.0.offset s h.0.told h.0.unfetched in
        let rest = puts_are (m + 1) ss h.1 in
        let e : m + 1 + length ss ≡ m + length (s ∷ ss) = omega arith in (
          (λ i. code.0 i ++ grown A (code.1 i) (puts ss)) ∙ ap
              (λ (js : List Instr). put_code m h.0.offset s ++ js) rest.0,
          (λ i. passed A (code.1 i) (puts ss)) ∙ rest.1 ∙ (λ i. (e i, tt)),
        )

-- ---- the line is executed

module _ (x : Framing) (k : ℕ) (c : Context) (law : AreByteRights c.rights) (a : Activation) (own : HasOwnBlocks a)
    (block start : ℕ) where
  abbrev pub Cell : Work → ℕ → (Value → Type 0) → Type 0
  Cell w cell Has = IsCell c.rights w.world.memory (at_work a w) cell ptr Has

  abbrev pub Put : Work → (s : EarlySlot) → ℕ → Type 0
  Put w s d = Cell w s.cell (λ (v : Value). v ≡ pointer_at block (start + d))

  abbrev pub In : EarlySlot → Type 0
  In s = IsEarlyInFrame x start s

  abbrev pub ArePlaced : Work → (ss : List EarlySlot) → Each In ss → Type 0
  ArePlaced w [] h = Unit {0}
  ArePlaced w (s ∷ ss) h = Put w s h.0.offset × ArePlaced w ss h.1

  abbrev AreThere : Work → List EarlySlot → Type 0
  AreThere w ss = Each (λ (s : EarlySlot). Cell w s.cell Anything) ss

  -- each range is in the block of one of these cells
  abbrev AreAmong : List EarlySlot → List Span → Type 0
  AreAmong ss spans =
      Each (λ (z : Span).
      (cell : ℕ) × IsListed cell (cells_of ss) × Contains a.slots (record { alloca = cell; block = z.block })) spans

  pub record ArePutThere (w : Work) (m : ℕ) (line : List Instr) (ss : List EarlySlot) (h : Each In ss) : Type 0 where
    pub work : Work
    pub spans : List Span
    pub over : RunsOver c line m spans w work
    pub inside : AreAmong ss spans
    pub placed : ArePlaced work ss h

  module _ (w : Work) (m : ℕ) (s : EarlySlot) (f : In s) (begun : value_in w.values (begin_of x.function)
      ≡ pointer_at block start) (old : begin_of x.function < m) (room : m < length w.values) (low : s.cell < m)
      (there : Cell w s.cell Anything) where
    abbrev at : Value
    at = pointer_at block (start + f.offset)

    abbrev w1 : Work
    w1 = set_value w m at

    first : RunsOver c (address_behind m (begin_of x.function) f.offset ∷ []) m [] w w1
    first =
        over_sets c (address_behind m (begin_of x.function) f.offset ∷ []) m w w1
        (w1, (address_done c w m block start f.offset (Operand.Local (begin_of x.function)) begun f.near, refl))
        (set_from w m m at (omega arith))

    there1 : Cell w1 s.cell Anything
    there1 = cell_stays c.rights law [] w.world.memory w1.world.memory a w w1 s.cell ptr Anything first.fills there tt
        (first.others s.cell low)

    pub stored_at : StoresCell c w1 a m s.cell ptr m
    stored_at = cell_stores c w1 a law m s.cell m ptr Anything (kept_type ptr refl) there1

    abbrev pub w2 : Work
    w2 = stored_at.work

    pub one_over : RunsOver c (put_code x k m f.offset s) m ([] ++ stored_at.spans) w w2
    one_over =
        over_joined c (address_behind m (begin_of x.function) f.offset ∷ []) (put m s.cell ∷ []) m [] stored_at.spans w
        w1 w2 first stored_at.over

    pub one_of : AreOf c law a own s.cell stored_at.spans
    one_of = inside_of c law a own s.cell stored_at.cell_is.block stored_at.spans stored_at.cell_is.own stored_at.inside

    pub one_put : Put w2 s f.offset
    one_put =
        cell_has c.rights w2.world.memory (at_work a w2) s.cell ptr
        (λ (v : Value). v ≡ stored Access.Ptr (value_in w1.values m)) (λ (v : Value). v ≡ at)
        (λ v e. e ∙ ap (stored Access.Ptr) (value_set w m m at room)) stored_at.cell_is

    -- another cell stays
    pub one_kept : (other : ℕ) (Has : Value → Type 0) → other < m → (other ≡ s.cell → ⊥) → Cell w other Has
        → Cell w2 other Has
    one_kept other Has lt apart h =
        cell_on c law a own (put_code x k m f.offset s) m s.cell other ptr Has ([] ++ stored_at.spans) w w2 one_over
        one_of lt apart h

  all_there : (w : Work) (m : ℕ) (s : EarlySlot) (f : In s) (begun : value_in w.values (begin_of x.function)
      ≡ pointer_at block start) (old : begin_of x.function < m) (room : m < length w.values) (low : s.cell < m)
      (there : Cell w s.cell Anything) (ss : List EarlySlot) → (IsListed s.cell (cells_of ss) → ⊥)
      → Each (λ (z : EarlySlot). z.cell < m) ss → AreThere w ss
      → AreThere (w2 w m s f begun old room low there) ss
  all_there w m s f begun old room low there [] off lows h = tt
  all_there w m s f begun old room low there (z ∷ ss) off lows h = (
    one_kept w m s f begun old room low there z.cell Anything lows.0 (λ e. off (inl (sym e))) h.0,
    all_there w m s f begun old room low there ss (λ l. off (inr l)) lows.1 h.1,
  )

  pub puts_run : (ss : List EarlySlot) (w : Work) (m : ℕ) (h : Each In ss) → AreDifferent (cells_of ss)
      → value_in w.values (begin_of x.function) ≡ pointer_at block start → begin_of x.function < m
      → m + length ss ≤ length w.values → Each (λ (z : EarlySlot). z.cell < m) ss → AreThere w ss
      → ArePutThere w m (puts_code x k start m ss h) ss h
  puts_run [] w m h d begun old room lows there =
      record { work = w; spans = []; over = over_none c m w; inside = tt; placed = tt }
  puts_run (s ∷ ss) w m h d begun old room lows there =
      let lt : m < length w.values = omega (arith, room) in
      let v : Work = w2 w m s h.0 begun old lt lows.0 there.0 in
      let one : RunsOver c (put_code x k m h.0.offset s) m
      ([] ++ (stored_at w m s h.0 begun old lt lows.0 there.0).spans)
      w v = one_over w m s h.0 begun old lt lows.0 there.0 in
      let same : length v.values ≡ length w.values = one.room in
      let r : ArePutThere v (m + 1) (puts_code x k start (m + 1) ss h.1) ss h.1 =
      puts_run ss v (m + 1) h.1 d.1 (one.others (begin_of x.function) old ∙ begun) (omega (arith, old))
      (omega (arith, room, same))
      (each_turns (λ (z : EarlySlot). z.cell < m) (λ (z : EarlySlot). z.cell < m + 1)
      (λ z q. omega (arith, q)) ss lows.1)
      (all_there w m s h.0 begun old lt lows.0 there.0 ss d.0 lows.1 there.1) in
      record {
        work = r.work;
        spans = (stored_at w m s h.0 begun old lt lows.0 there.0).spans ++ r.spans;
        over = over_joined c (put_code x k m h.0.offset s) (puts_code x k start (m + 1) ss h.1) m
            (stored_at w m s h.0 begun old lt lows.0 there.0).spans r.spans w v r.work one
            (over_fewer c (puts_code x k start (m + 1) ss h.1) m (m + 1) r.spans v r.work (omega arith) r.over);
        inside = each_joined _ (stored_at w m s h.0 begun old lt lows.0 there.0).spans r.spans
            (each_turns (λ (z : Span). Contains a.slots (record { alloca = s.cell; block = z.block }))
            (λ (z : Span). (cell : ℕ) × IsListed cell (cells_of (s ∷ ss))
            × Contains a.slots (record { alloca = cell; block = z.block }))
            (λ z co. (s.cell, inl refl, co)) (stored_at w m s h.0 begun old lt lows.0 there.0).spans
            (one_of w m s h.0 begun old lt lows.0 there.0))
            (each_turns
            (λ (z : Span). (cell : ℕ) × IsListed cell (cells_of ss)
            × Contains a.slots (record { alloca = cell; block = z.block }))
            (λ (z : Span). (cell : ℕ) × IsListed cell (cells_of (s ∷ ss))
            × Contains a.slots (record { alloca = cell; block = z.block }))
            (λ z q. (q.0, inr q.1, q.2)) r.spans r.inside);
        placed = (
          cell_stays c.rights law r.spans v.world.memory r.work.world.memory a v r.work s.cell ptr
              (λ (z : Value). z ≡ pointer_at block (start + h.0.offset)) r.over.fills
              (one_put w m s h.0 begun old lt lows.0 there.0)
              (each_turns
              (λ (z : Span).
              (cell : ℕ) × IsListed cell (cells_of ss) × Contains a.slots (record { alloca = cell; block = z.block }))
              (λ (z : Span). z.block ≢ (one_put w m s h.0 begun old lt lows.0 there.0).block)
              (λ z q. other_block a q.0 s.cell z.block (one_put w m s h.0 begun old lt lows.0 there.0).block own q.2
              (one_put w m s h.0 begun old lt lows.0 there.0).own
              (λ e. d.0 (subst (λ (n : ℕ). IsListed n (cells_of ss)) e q.1))) r.spans r.inside)
              (r.over.others s.cell (let q = lows.0 in omega (arith, q))),
          r.placed,
        );
      }
