-- Right behind begin bytes of temporaries are copied into the frame, and addresses there go to cells.
use Rattle.std.proofs.Common.{◌≡◌, ◌≢◌, ◌⊎◌, ◌+◌, ◌*◌, ◌<◌, ◌≤◌, ◌^◌, ◌%◌, ◌∷◌, ◌++◌, ◌∙◌, [], List, None, ap, arith, inl, inr, length, refl, subst, sym, ℕ}
use Rattle.std.specs.List.{Contains}
use Rattle.std.specs.Prelude.{false}
use Rattle.pass_frames_steps.specs.flow_solver.Paths.{IsListed}
use Rattle.pass_frames_steps.proofs.ir_laws.facts.Members.{each_joined, each_turns}
use Rattle.pass_frames_steps.specs.ir_laws.paths.woven_rules.Pairs.{AreDifferent}
use Rattle.pass_frames_steps.specs.ir_model.Ty.{ptr}
use Rattle.pass_frames_steps.specs.ir_model.declared.instr.Instr.{Instr}
use Rattle.pass_frames_steps.specs.ir_model.declared.operand.Intrinsic.{Intrinsic}
use Rattle.pass_frames_steps.specs.ir_model.declared.operand.Operand.{Operand}
use Rattle.pass_frames_steps.specs.pass_copies.declared.slot.EarlySlot.{EarlySlot}
use Rattle.pass_frames_steps.specs.pass_fetch.Fetching.{address_behind}
use Rattle.pass_frames_steps.specs.pass_frames.Framed.{begin_of}
use Rattle.pass_frames_steps.proofs.distances.Sums.{set_from, value_set}
use Rattle.pass_frames_proof.proofs.from_edges.Puts.{one_of, one_over, one_put, put_code, stored_at, w2 as put_work}
use Rattle.pass_frames_steps.proofs.led.Steps.{fills_elsewhere, still_world}
use Rattle.pass_frames_steps.proofs.led.Through.{through_joined, through_turns}
use Rattle.pass_frames_steps.proofs.lines.Cells.{cell_stays, other_block}
use Rattle.pass_frames_steps.proofs.lines.Filled.{elsewhere_apart, others_stay, over_fewer, over_joined, over_none, over_sets}
use Rattle.pass_frames_steps.specs.Early.{AllApart, AllAreCopied, AllMayCopy, AreCopied, IsApartFromAll, IsButCells, IsCopied, IsCopiedSlot, IsFilledThere, MayCopy, MayCopyAll, range_of}
use Rattle.pass_frames_steps.specs.Entry.{cells_of}
use Rattle.pass_frames_steps.specs.Led.{RunsThrough}
use Rattle.pass_frames_steps.specs.Lines.{Fills, HasOwnBlocks, NoneFilled, OneFilled, RunsOver, at_work}
use Rattle.pass_frames_steps.specs.Places.{Framing}
use Rattle.pass_frames_steps.specs.Related.{Anything, IsCell}
use Rattle.pass_frames_steps.proofs.pass_proofs.addresses.numbers.Done.{address_done}
use Rattle.pass_frames_steps.proofs.run_laws.access.Done.{copy_done}
use Rattle.pass_frames_steps.proofs.run_laws.access.Ranges.{write_held}
use Rattle.pass_frames_steps.specs.run_laws.access.Accessed.{Span}
use Rattle.pass_frames_steps.specs.run_laws.access.Lines.{AreDisjoint, Holds, IsCopyOf, pointer_at, refilled_at}
use Rattle.pass_frames_steps.specs.run_laws.changed.Changed.{Each}
use Rattle.pass_frames_steps.specs.run_laws.memory.Standing.{AreByteRights}
use Rattle.pass_frames_steps.specs.run_memory.declared.block.Byte.{Byte}
use Rattle.pass_frames_steps.specs.run_memory.declared.block.MemoryBlock.{MemoryBlock}
use Rattle.pass_frames_steps.specs.run_memory.declared.pointer.Value.{Value}
use Rattle.pass_frames_steps.specs.run_source.declared.state.Activation.{Activation}
use Rattle.pass_frames_steps.specs.run_step.Step.{Context, Done, Work, instr_action, set_memory, set_value}
use Rattle.pass_frames_steps.specs.run_step.Values.{arg_values, value_in}
use Rattle.pass_frames_steps.specs.run_step.declared.world.Slot.{Slot}
use Rattle.pass_frames_steps.specs.run_step.declared.world.World.{World}
use Rattle.pass_frames_proof.proofs.early.CopyCode.{copies_are, copies_code, copy_args, copy_code, copy_from, one_code}

-- ---- one slot is copied

module _ (x : Framing) (k : ℕ) (c : Context) (law : AreByteRights c.rights) (a : Activation) (own : HasOwnBlocks a)
    (block start : ℕ) (elsewhere : (slot : Slot) → Contains a.slots slot → slot.block ≢ block) where
  abbrev Cell : Work → ℕ → (Value → Type 0) → Type 0
  Cell w cell Has = IsCell c.rights w.world.memory (at_work a w) cell ptr Has

  module _ (w : Work) (m : ℕ) (s : EarlySlot) (p : IsCopiedSlot x start s) (h : MayCopy x c a block start m w s p)
      (begun : value_in w.values (begin_of x.function) ≡ pointer_at block start) (old : begin_of x.function < m)
      (room : m + 2 ≤ length w.values) where
    abbrev off : ℕ
    off = range_of x start s p

    abbrev d : ℕ
    d = p.place.offset

    abbrev w1 : Work
    w1 = set_value w m (pointer_at block off)

    first : RunsOver c (address_behind m (begin_of x.function) d ∷ []) m [] w w1
    first =
        over_sets c (address_behind m (begin_of x.function) d ∷ []) m w w1
        (w1, (address_done c w m block start d (Operand.Local (begin_of x.function)) begun p.place.near, refl))
        (set_from w m m (pointer_at block off) (omega arith))

    abbrev pub span : Span
    span = record { block = block; offset = off; len = length p.bytes }

    abbrev v : Work
    v = set_memory w1 (refilled_at w1.world.memory block off p.bytes)

    is_copy : IsCopyOf (arg_values c.code w1.values (copy_args m s)) block off p.temporary 0 s.size
    is_copy = record {
      to = value_set w m m (pointer_at block off) (omega (arith, room));
      from = first.others s.temporary h.low_temporary ∙ h.leads;
      width = 64;
      long = ap (λ (n : ℕ). Value.Int (record { width = 64; bits = n })) (small s.size p.small);
      some = p.some;
    }
      where
        small : (n : ℕ) → n < 2 ^ 64 → n % 2 ^ 64 ≡ n
        small n lt = omega (arith, lt)

    copied : instr_action c w1 (copy_from m s) ≡ Done v
    copied =
        copy_done c w1 Intrinsic.MemcpyI64 None false None (copy_args m s) block off 1 p.temporary 0 1 s.size p.old
        p.bytes refl is_copy h.there h.holds p.fits p.many (omega arith) (omega arith)
        (inl (elsewhere (record { alloca = s.temporary; block = p.temporary }) h.own))

    second : RunsOver c (copy_from m s ∷ []) m (span ∷ []) w1 v
    second = record {
      runs = (v, (copied, refl));
      fills = OneFilled block off 1 p.old p.bytes [] w1.world.memory v.world.memory h.there (p.many ∙ sym p.fits)
          (NoneFilled v.world.memory);
      world = refl;
      others = λ n lt. refl;
      room = refl;
    }

    both : RunsOver c (copy_code x k m d s) m (span ∷ []) w v
    both =
        over_joined c (address_behind m (begin_of x.function) d ∷ []) (copy_from m s ∷ []) m [] (span ∷ []) w w1 v
        first second

    pub cell_there : Cell v s.cell Anything
    cell_there =
        cell_stays c.rights law (span ∷ []) w.world.memory v.world.memory a w v s.cell ptr Anything both.fills h.cell
        ((λ e. elsewhere (record { alloca = s.cell; block = h.cell.block }) h.cell.own (sym e)), tt)
        (both.others s.cell h.low_cell)

    pub begun_there : value_in v.values (begin_of x.function) ≡ pointer_at block start
    begun_there = both.others (begin_of x.function) old ∙ begun

    pub old_there : begin_of x.function < m + 1
    old_there = omega (arith, old)

    pub room_there : m + 1 < length v.values
    room_there = let same = both.room in omega (arith, same, room)

    pub low_there : s.cell < m + 1
    low_there = let lt = h.low_cell in omega (arith, lt)

    abbrev pub z : Work
    z = put_work x k c law a own block start v (m + 1) s p.place begun_there old_there room_there low_there cell_there

    abbrev pub spans : List Span
    spans = (stored_at x k c law a own block start v (m + 1) s p.place begun_there old_there room_there low_there
        cell_there).spans

    third : RunsOver c (put_code x k (m + 1) d s) (m + 1) spans v z
    third = one_over x k c law a own block start v (m + 1) s p.place begun_there old_there room_there low_there
        cell_there

    pub total : RunsOver c (one_code x k start m s p) m (span ∷ spans) w z
    total =
        over_joined c (copy_code x k m d s) (put_code x k (m + 1) d s) m (span ∷ []) spans w v z both
        (over_fewer c (put_code x k (m + 1) d s) m (m + 1) spans v z (omega arith) third)

    pub of_cell : Each (λ (q : Span). Contains a.slots (record { alloca = s.cell; block = q.block })) spans
    of_cell = one_of x k c law a own block start v (m + 1) s p.place begun_there old_there room_there low_there
        cell_there

    -- a range elsewhere stays
    pub stays : (n o most : ℕ) (bytes : List Byte) → AreDisjoint block off s.size n o (length bytes)
        → ((q : Span) → Contains a.slots (record { alloca = s.cell; block = q.block }) → q.block ≢ n)
        → Holds c.rights w.world.memory n o most bytes → Holds c.rights z.world.memory n o most bytes
    stays n o most bytes apart no_cell held =
        others_stay c.rights law (span ∷ spans) w.world.memory z.world.memory n o most bytes total.fills (
          subst (λ (len : ℕ). AreDisjoint block off len n o (length bytes)) (sym p.many) apart,
          elsewhere_apart n o (length bytes) spans
              (each_turns (λ (q : Span). Contains a.slots (record { alloca = s.cell; block = q.block }))
              (λ (q : Span). q.block ≢ n) no_cell spans of_cell),
        ) held

    -- on the way
    pub spared : (u : Work) (qs : List Span) → Fills c.rights qs w.world.memory u.world.memory
        → Each (λ (q : Span). (q.block ≡ block) ⊎ Contains a.slots (record { alloca = s.cell; block = q.block })) qs
        → u.world ≡ record w.world { memory = u.world.memory } → IsButCells a block (s ∷ []) w u
    spared u qs fills inside world = record {
      world = world;
      others = λ e ne none.
          fills_elsewhere c.rights qs w.world.memory u.world.memory e fills
          (each_turns
          (λ (q : Span). (q.block ≡ block) ⊎ Contains a.slots (record { alloca = s.cell; block = q.block }))
          (λ (q : Span). q.block ≡ e → ⊥) (apart e ne none) qs inside);
    }
      where
        apart : (e : ℕ) → e ≢ block
            → ((z : EarlySlot) → IsListed z (s ∷ []) → Contains a.slots (record { alloca = z.cell; block = e }) → ⊥)
            → (q : Span) → (q.block ≡ block) ⊎ Contains a.slots (record { alloca = s.cell; block = q.block })
            → q.block ≡ e → ⊥
        apart e ne none q (inl at) same = ne (sym same ∙ at)
        apart e ne none q (inr co) same =
            none s (inl refl) (subst (λ (n : ℕ). Contains a.slots (record { alloca = s.cell; block = n })) same co)

    at_cell : Each (λ (q : Span). (q.block ≡ block) ⊎ Contains a.slots (record { alloca = s.cell; block = q.block }))
        spans
    at_cell =
        each_turns (λ (q : Span). Contains a.slots (record { alloca = s.cell; block = q.block }))
        (λ (q : Span). (q.block ≡ block) ⊎ Contains a.slots (record { alloca = s.cell; block = q.block }))
        (λ q co. inr co) spans of_cell

    pub spared_here : IsButCells a block (s ∷ []) w z
    spared_here = spared z (span ∷ spans) total.fills (inl refl, at_cell) total.world

    spared_copied : (u : Work) → u.world ≡ v.world → IsButCells a block (s ∷ []) w u
    spared_copied u same =
        spared u (span ∷ [])
        (subst (λ (m : List MemoryBlock). Fills c.rights (span ∷ []) w.world.memory m)
        (ap (λ (q : World). q.memory) (sym same)) both.fills) (inl refl, tt)
        (same ∙ (λ j. record w.world { memory = (sym same j).memory }))

    pub through : RunsThrough c (IsButCells a block (s ∷ []) w) (one_code x k start m s p) w z
    through = (
      spared w [] (NoneFilled w.world.memory) tt refl,
      (
        w1,
        (
          address_done c w m block start d (Operand.Local (begin_of x.function)) begun p.place.near,
          (
            spared w1 [] (NoneFilled w.world.memory) tt refl,
            (
              v,
              (
                copied,
                (
                  spared_copied v refl,
                  (
                    third.runs.0,
                    (
                      third.runs.1.0,
                      (
                        spared_copied third.runs.0
                            (still_world c v third.runs.0 (address_behind (m + 1) (begin_of x.function) d) tt
                            third.runs.1.0),
                        third.runs.1.1,
                      ),
                    ),
                  ),
                ),
              ),
            ),
          ),
        ),
      ),
    )

    -- it is copied
    pub here : IsCopied x c a block start z s p
    here = record {
      holds =
          others_stay c.rights law spans v.world.memory z.world.memory block off 1 p.bytes third.fills
          (elsewhere_apart block off (length p.bytes) spans
          (each_turns (λ (q : Span). Contains a.slots (record { alloca = s.cell; block = q.block }))
          (λ (q : Span). q.block ≢ block)
          (λ q co. elsewhere (record { alloca = s.cell; block = q.block }) co) spans of_cell))
          (write_held c.rights w1.world.memory block off 1 p.old h.there law p.bytes (p.many ∙ sym p.fits));
      cell = one_put x k c law a own block start v (m + 1) s p.place begun_there old_there room_there low_there
          cell_there;
    }

    -- another one may still be copied
    pub later : (u : EarlySlot) (r : IsCopiedSlot x start u) → s.cell ≢ u.cell → s.cell ≢ u.temporary
        → AreDisjoint block off s.size block (range_of x start u r) u.size → MayCopy x c a block start m w u r
        → MayCopy x c a block start (m + 2) z u r
    later u r cells temporaries apart f = record {
      low_temporary = let lt = f.low_temporary in omega (arith, lt);
      low_cell = let lt = f.low_cell in omega (arith, lt);
      cell =
          cell_stays c.rights law (span ∷ spans) w.world.memory z.world.memory a w z u.cell ptr Anything total.fills
          f.cell (
            (λ e. elsewhere (record { alloca = u.cell; block = f.cell.block }) f.cell.own (sym e)),
            each_turns (λ (q : Span). Contains a.slots (record { alloca = s.cell; block = q.block }))
                (λ (q : Span). q.block ≢ f.cell.block)
                (λ q co. other_block a s.cell u.cell q.block f.cell.block own co f.cell.own cells) spans of_cell,
          ) (total.others u.cell f.low_cell);
      own = f.own;
      leads = total.others u.temporary f.low_temporary ∙ f.leads;
      holds =
          stays r.temporary 0 1 r.bytes
          (inl (elsewhere (record { alloca = u.temporary; block = r.temporary }) f.own))
          (λ q co. other_block a s.cell u.temporary q.block r.temporary own co f.own temporaries) f.holds;
      there =
          stays block (range_of x start u r) 1 r.old
          (subst (λ (len : ℕ). AreDisjoint block off s.size block (range_of x start u r) len) (sym r.fits) apart)
          (λ q co. elsewhere (record { alloca = s.cell; block = q.block }) co) f.there;
    }

  -- ---- all of them

  all_later : (w : Work) (m : ℕ) (s : EarlySlot) (p : IsCopiedSlot x start s) (h : MayCopy x c a block start m w s p)
      (begun : value_in w.values (begin_of x.function) ≡ pointer_at block start) (old : begin_of x.function < m)
      (room : m + 2 ≤ length w.values) (us : List EarlySlot) (rs : Each (IsCopiedSlot x start) us)
      → (IsListed s.cell (cells_of us) → ⊥) → ((u : EarlySlot) → IsListed u us → s.cell ≢ u.temporary)
      → IsApartFromAll x block start s p us rs → AllMayCopy x c a block start m w us rs
      → AllMayCopy x c a block start (m + 2) (z w m s p h begun old room) us rs
  all_later w m s p h begun old room [] rs lone names apart f = tt
  all_later w m s p h begun old room (u ∷ us) rs lone names apart f = (
    later w m s p h begun old room u rs.0 (λ e. lone (inl e)) (names u (inl refl)) apart.0 f.0,
    all_later w m s p h begun old room us rs.1 (λ l. lone (inr l)) (λ y l. names y (inr l)) apart.1 f.1,
  )

  -- what later ones fill lies apart from the range and the cell of an earlier one
  flipped : (o len p more : ℕ) → AreDisjoint block o len block p more → AreDisjoint block p more block o len
  flipped o len p more (inl ne) = inl (λ e. ne (sym e))
  flipped o len p more (inr (inl le)) = inr (inr le)
  flipped o len p more (inr (inr le)) = inr (inl le)

  range_apart : (s : EarlySlot) (p : IsCopiedSlot x start s) (us : List EarlySlot)
      (rs : Each (IsCopiedSlot x start) us) → IsApartFromAll x block start s p us rs → (q : Span)
      → IsFilledThere x a block start us rs q
      → AreDisjoint q.block q.offset q.len block (range_of x start s p) (length p.bytes)
  range_apart s p [] rs apart q f = absurd f
  range_apart s p (u ∷ us) rs apart q (inl (inl at)) =
      subst (λ (e : ℕ × ℕ × ℕ × ℕ). AreDisjoint e.0 e.1 e.2 block (range_of x start s p) e.3)
      (λ i. (sym at.0 i, sym at.1 i, sym at.2 i, sym p.many i))
      (flipped (range_of x start s p) s.size (range_of x start u rs.0) u.size apart.0)
  range_apart s p (u ∷ us) rs apart q (inl (inr co)) =
      inl (λ e. elsewhere (record { alloca = u.cell; block = q.block }) co (sym e))
  range_apart s p (u ∷ us) rs apart q (inr f) = range_apart s p us rs.1 apart.1 q f

  cell_apart : (cell n : ℕ) → Contains a.slots (record { alloca = cell; block = n }) → (us : List EarlySlot)
      (rs : Each (IsCopiedSlot x start) us) → (IsListed cell (cells_of us) → ⊥) → (q : Span)
      → IsFilledThere x a block start us rs q → q.block ≢ n
  cell_apart cell n co [] rs lone q f = absurd f
  cell_apart cell n co (u ∷ us) rs lone q (inl (inl at)) =
      λ e. elsewhere (record { alloca = cell; block = n }) co (sym e ∙ at.0)
  cell_apart cell n co (u ∷ us) rs lone q (inl (inr of)) =
      other_block a u.cell cell q.block n own of co (λ e. lone (inl (sym e)))
  cell_apart cell n co (u ∷ us) rs lone q (inr f) = cell_apart cell n co us rs.1 (λ l. lone (inr l)) q f

  -- fewer cells change fewer blocks, and so it is of two lines
  more_cells : (ss zs : List EarlySlot) → ((u : EarlySlot) → IsListed u ss → IsListed u zs) → (w u : Work)
      → IsButCells a block ss w u → IsButCells a block zs w u
  more_cells ss zs more w u h = record {
    world = h.world;
    others = λ e ne none. h.others e ne (λ s l. none s (more s l));
  }

  both_cells : (ss : List EarlySlot) (w v u : Work) → IsButCells a block ss w v → IsButCells a block ss v u
      → IsButCells a block ss w u
  both_cells ss w v u h g = record {
    world = g.world ∙ ap (λ (q : World). record q { memory = u.world.memory }) h.world;
    others = λ e ne none. g.others e ne none ∙ h.others e ne none;
  }

  record AreDone (w : Work) (m : ℕ) (ss : List EarlySlot) (ps : Each (IsCopiedSlot x start) ss) : Type 0 where
    work : Work
    spans : List Span
    over : RunsOver c (copies_code x k start m ss ps) m spans w work
    through : RunsThrough c (IsButCells a block ss w) (copies_code x k start m ss ps) w work
    spares : IsButCells a block ss w work
    inside : Each (IsFilledThere x a block start ss ps) spans
    copied : AllAreCopied x c a block start work ss ps

  first_of : (ss : List EarlySlot) (s u : EarlySlot) → IsListed u (s ∷ []) → IsListed u (s ∷ ss)
  first_of ss s u (inl e) = inl e
  first_of ss s u (inr none) = absurd none

  all_run : (ss : List EarlySlot) (ps : Each (IsCopiedSlot x start) ss) (m : ℕ) (w : Work)
      → value_in w.values (begin_of x.function) ≡ pointer_at block start → begin_of x.function < m
      → m + 2 * length ss ≤ length w.values → AreDifferent (cells_of ss)
      → ((s u : EarlySlot) → IsListed s ss → IsListed u ss → s.cell ≢ u.temporary) → AllApart x block start ss ps
      → AllMayCopy x c a block start m w ss ps → AreDone w m ss ps
  all_run [] ps m w begun old room once names apart f =
      record {
        work = w;
        spans = [];
        over = over_none c m w;
        through = refl;
        spares = record { world = refl; others = λ e ne none. refl };
        inside = tt;
        copied = tt;
      }
  all_run (s ∷ ss) ps m w begun old room once names apart f =
      let p : IsCopiedSlot x start s = ps.0 in
      let h : MayCopy x c a block start m w s p = f.0 in
      let two : m + 2 ≤ length w.values = omega (arith, room) in
      let v : Work = z w m s p h begun old two in
      let one = total w m s p h begun old two in
      let same : length v.values ≡ length w.values = one.room in
      let r : AreDone v (m + 2) ss ps.1 =
      all_run ss ps.1 (m + 2) v (one.others (begin_of x.function) old ∙ begun) (omega (arith, old))
      (omega (arith, room, same)) once.1 (λ u y l o. names u y (inr l) (inr o)) apart.1
      (all_later w m s p h begun old two ss ps.1 once.0 (λ u l. names s u (inl refl) (inr l)) apart.0 f.1) in
      let here_copied : IsCopied x c a block start v s p = here w m s p h begun old two in
      let mine : List Span = spans w m s p h begun old two in
      let spared_one : IsButCells a block (s ∷ ss) w v =
      more_cells (s ∷ []) (s ∷ ss) (λ u l. first_of ss s u l) w v (spared_here w m s p h begun old two) in
      record {
        through = through_joined c (IsButCells a block (s ∷ ss) w) (one_code x k start m s p)
            (copies_code x k start (m + 2) ss ps.1) w v r.work
            (through_turns c (IsButCells a block (s ∷ []) w) (IsButCells a block (s ∷ ss) w)
            (more_cells (s ∷ []) (s ∷ ss) (λ u l. first_of ss s u l) w) (one_code x k start m s p) w v
            (through w m s p h begun old two))
            (through_turns c (IsButCells a block ss v) (IsButCells a block (s ∷ ss) w)
            (λ u g. both_cells (s ∷ ss) w v u spared_one (more_cells ss (s ∷ ss) (λ q l. inr l) v u g))
            (copies_code x k start (m + 2) ss ps.1) v r.work r.through);
        spares = both_cells (s ∷ ss) w v r.work spared_one (more_cells ss (s ∷ ss) (λ q l. inr l) v r.work r.spares);
        work = r.work;
        spans = (span w m s p h begun old two ∷ mine) ++ r.spans;
        over = over_joined c (one_code x k start m s p) (copies_code x k start (m + 2) ss ps.1) m
            (span w m s p h begun old two ∷ mine) r.spans w v r.work one
            (over_fewer c (copies_code x k start (m + 2) ss ps.1) m (m + 2) r.spans v r.work (omega arith) r.over);
        inside = each_joined (IsFilledThere x a block start (s ∷ ss) ps) (span w m s p h begun old two ∷ mine) r.spans (
          inl (inl (refl, refl, p.many)),
          each_turns (λ (q : Span). Contains a.slots (record { alloca = s.cell; block = q.block }))
              (IsFilledThere x a block start (s ∷ ss) ps) (λ q co. inl (inr co)) mine
              (of_cell w m s p h begun old two),
        )
            (each_turns (IsFilledThere x a block start ss ps.1) (IsFilledThere x a block start (s ∷ ss) ps)
            (λ q e. inr e) r.spans r.inside);
        copied = (
          record {
            holds =
                others_stay c.rights law r.spans v.world.memory r.work.world.memory block (range_of x start s p) 1
                p.bytes r.over.fills
                (each_turns (IsFilledThere x a block start ss ps.1)
                (λ (q : Span). AreDisjoint q.block q.offset q.len block (range_of x start s p) (length p.bytes))
                (range_apart s p ss ps.1 apart.0) r.spans r.inside) here_copied.holds;
            cell =
                cell_stays c.rights law r.spans v.world.memory r.work.world.memory a v r.work s.cell ptr
                (λ (u : Value). u ≡ pointer_at block (range_of x start s p)) r.over.fills here_copied.cell
                (each_turns (IsFilledThere x a block start ss ps.1)
                (λ (q : Span). q.block ≢ here_copied.cell.block)
                (cell_apart s.cell here_copied.cell.block here_copied.cell.own ss ps.1 once.0) r.spans r.inside)
                (r.over.others s.cell (let lt = h.low_cell in omega (arith, lt)));
          },
          r.copied,
        );
      }

-- the line is executed
pub slots_copied : (x : Framing) (c : Context) → AreByteRights c.rights → (a : Activation) (k block start : ℕ)
    (ss : List EarlySlot) (ps : Each (IsCopiedSlot x start) ss) (m : ℕ) (w : Work)
    → MayCopyAll x c a block start m w ss ps → AreCopied x c a k block start m w ss ps
slots_copied x c law a k block start ss ps m w h =
    let r = all_run x k c law a h.own block start h.elsewhere ss ps m w h.begun h.old h.room h.once h.temporaries
    h.apart h.each in
    record {
      work = r.work;
      spans = r.spans;
      over = subst (λ (line : List Instr). RunsOver c line m r.spans w r.work) (sym (copies_are x k start m ss ps))
          r.over;
      through = subst (λ (line : List Instr). RunsThrough c (IsButCells a block ss w) line w r.work)
          (sym (copies_are x k start m ss ps)) r.through;
      spares = r.spares;
      inside = r.inside;
      copied = r.copied;
    }
