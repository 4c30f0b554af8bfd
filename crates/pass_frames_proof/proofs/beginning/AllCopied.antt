-- Right behind begin all slots that are used before it are copied.
use Rattle.std.proofs.Common.{◌≡◌, ◌≢◌, ◌⊎◌, ◌+◌, ◌*◌, ◌<◌, ◌≤◌, ◌∷◌, ◌∙◌, [], List, None, Option, Some, ap, arith, inl, inr, length, map, refl, subst, sym, ℕ}
use Rattle.std.specs.List.{Contains}
use Rattle.pass_frames_steps.specs.flow_solver.Paths.{IsListed}
use Rattle.pass_frames_steps.proofs.ir_laws.facts.Members.{each_turns}
use Rattle.pass_frames_steps.specs.ir_laws.paths.woven_rules.Pairs.{AreDifferent}
use Rattle.pass_frames_steps.specs.pass_copies.declared.slot.EarlySlot.{EarlySlot}
use Rattle.pass_frames_steps.specs.pass_cells.Cells.{fetches_of}
use Rattle.pass_frames_steps.specs.pass_fetch.Fetching.{next_after_all}
use Rattle.pass_frames_steps.specs.ir_parts.Contents.{instr_operands}
use Rattle.pass_frames_steps.proofs.pass_proofs.fetch.rules.Puts.{fetch_rises}
use Rattle.pass_frames_steps.specs.pass_frames.Framed.{begin_of}
use Rattle.pass_frames_steps.specs.pass_frames.Tables.{offset_at}
use Rattle.pass_frames_steps.proofs.allocating.Grown.{listed_in}
use Rattle.pass_frames_steps.proofs.allocating.Ramp.{value_here}
use Rattle.pass_frames_steps.proofs.allocating.Steps.{set_length}
use Rattle.pass_frames_proof.proofs.beginning.Given.{Begins}
use Rattle.pass_frames_proof.proofs.beginning.Ranges.{apart_disjoint, first_apart}
use Rattle.pass_frames_proof.proofs.beginning.Loads.{I, M0, N0, W, low_names, old, same_room}
use Rattle.pass_frames_proof.proofs.beginning.Places.{B, X, slot_apart, ys}
use Rattle.pass_frames_proof.proofs.beginning.Steps.{tB}
use Rattle.pass_frames_proof.proofs.early.Copies.{slots_copied}
use Rattle.pass_frames_proof.proofs.early.Placed.{cells_apart}
use Rattle.pass_frames_steps.proofs.lines.Filled.{over_none}
use Rattle.pass_frames_steps.proofs.stepping.May.{own_blocks}
use Rattle.pass_frames_steps.specs.Beginning.{IsAtBegin}
use Rattle.pass_frames_steps.specs.Early.{AllApart, AllAreCopied, AllMayCopy, AreCopied, IsApartFromAll, IsButCells, IsCopied, IsCopiedSlot, IsFilledThere, MayCopy, copies_line, range_of}
use Rattle.pass_frames_steps.specs.Entry.{cells_of}
use Rattle.pass_frames_steps.specs.Led.{RunsThrough}
use Rattle.pass_frames_steps.specs.Lines.{RunsOver}
use Rattle.pass_frames_steps.specs.Places.{Framing, copies, edged, framed, plan}
use Rattle.pass_frames_steps.specs.Related.{AreBuiltOf, Building}
use Rattle.pass_frames_steps.specs.pass_renewed_proof.Renewed.{RenewedGiven}
use Rattle.pass_frames_steps.proofs.run_access_worked.run_laws_worked.Frames.{frame_rights_fit}
use Rattle.pass_frames_steps.specs.run_framed.Framed.{framed_context}
use Rattle.pass_frames_steps.specs.run_laws.access.Accessed.{Span}
use Rattle.pass_frames_steps.specs.run_laws.changed.Changed.{Each}
use Rattle.pass_frames_steps.specs.run_source.State.{work_of}
use Rattle.pass_frames_steps.specs.run_source.declared.state.State.{State}
use Rattle.pass_frames_steps.specs.run_step.Step.{Context, Work}
use Rattle.pass_frames_steps.specs.run_step.Values.{pointer_to, value_in, with_result}
use Rattle.pass_frames_proof.proofs.beginning.Copied.{may_copy, ready_place}

module _ (facts : Begins) where
  abbrev b : Building
  b = facts.b

  abbrev g : RenewedGiven
  g = facts.g

  abbrev s : State
  s = facts.s

  abbrev t : State
  t = facts.t

  abbrev r : AreBuiltOf b s t
  r = facts.r

  abbrev h : IsAtBegin b g s facts.result facts.must_tail facts.ty facts.id facts.typed facts.memory facts.block
  h = facts.h

  abbrev x : Framing
  x = X facts

  abbrev k : ℕ
  k = B facts

  abbrev early : List EarlySlot
  early = (copies x).slots

  abbrev D : Context
  D = framed_context b.given (tB facts)

  abbrev w0 : Work
  w0 = work_of (tB facts)

  -- ---- all of them

  abbrev AreEarly : List EarlySlot → Type 0
  AreEarly qs = (e : EarlySlot) → IsListed e qs → IsListed e early

  abbrev places_of : (qs : List EarlySlot) → AreEarly qs → Each (IsCopiedSlot x 0) qs
  places_of [] more = tt
  places_of (e ∷ qs) more = (ready_place facts e (more e (inl refl)), places_of qs (λ y l. more y (inr l)))

  may_all : (qs : List EarlySlot) (more : AreEarly qs)
      → AllMayCopy x D t.top k 0 (M0 facts) w0 qs (places_of qs more)
  may_all [] more = tt
  may_all (e ∷ qs) more = (may_copy facts e (more e (inl refl)), may_all qs (λ y l. more y (inr l)))

  shifted : (a c A C i j : ℕ) → a ≡ A → c ≡ C → (0 + a) + i ≡ (0 + c) + j → A + i ≡ C + j
  shifted a c A C i j p q clash = omega (arith, p, q, clash)

  apart_from : (e : EarlySlot) (p : IsCopiedSlot x 0 e) → IsListed e early → (qs : List EarlySlot)
      (ps : Each (IsCopiedSlot x 0) qs) → AreEarly qs → ((f : EarlySlot) → IsListed f qs → e.slot ≢ f.slot)
      → IsApartFromAll x k 0 e p qs ps
  apart_from e p l [] ps more ne = tt
  apart_from e p l (f ∷ qs) ps more ne = (
    apart_disjoint k (0 + p.place.offset) e.size (0 + ps.0.place.offset) f.size p.some ps.0.some
        (λ i j lt lt' clash.
        h.early.apart e f (listed_in early e l) (listed_in early f (more f (inl refl))) (ne f (inl refl))
        p.place.position ps.0.place.position p.place.placed ps.0.place.placed i j lt lt'
        (shifted p.place.offset ps.0.place.offset (offset_at x.layout p.place.position)
        (offset_at x.layout ps.0.place.position) i j p.place.same ps.0.place.same clash)),
    apart_from e p l qs ps.1 (λ y o. more y (inr o)) (λ y o. ne y (inr o)),
  )

  all_apart : (qs : List EarlySlot) (ps : Each (IsCopiedSlot x 0) qs) → AreEarly qs
      → AreDifferent (map (λ (e : EarlySlot). e.slot) qs) → AllApart x k 0 qs ps
  all_apart [] ps more d = tt
  all_apart (e ∷ qs) ps more d = (
    apart_from e ps.0 (more e (inl refl)) qs ps.1 (λ y l. more y (inr l)) (first_apart e qs d),
    all_apart qs ps.1 (λ y l. more y (inr l)) d.1,
  )

  -- ---- the line

  pub record IsCopiedThere (e : EarlySlot) (w : Work) : Type 0 where
    pub place : IsCopiedSlot x 0 e
    pub may : MayCopy x D t.top k 0 (M0 facts) w0 e place
    pub copied : IsCopied x D t.top k 0 w e place

  -- a range that is filled is one of these in the frame, or lies in a cell
  abbrev pub IsSpanThere : Span → Type 0
  IsSpanThere q =
      ((e : EarlySlot) × IsListed e early × (p : IsCopiedSlot x 0 e) × (q.block ≡ k) × (q.offset ≡ range_of x 0 e p)
      × (q.len ≡ e.size))
      ⊎ ((e : EarlySlot) × IsListed e early × Contains t.top.slots (record { alloca = e.cell; block = q.block }))

  pub record AreCopiedThere (qs : List EarlySlot) : Type 0 where
    pub work : Work
    pub spans : List Span
    pub over : RunsOver D (copies_line x s.top.block (M0 facts) qs) (M0 facts) spans w0 work
    pub through : RunsThrough D (IsButCells t.top k qs w0) (copies_line x s.top.block (M0 facts) qs) w0 work
    pub spares : IsButCells t.top k qs w0 work
    pub inside : Each IsSpanThere spans
    pub each : (e : EarlySlot) → IsListed e qs → IsCopiedThere e work

  each_copied : (w : Work) (qs : List EarlySlot) (ps : Each (IsCopiedSlot x 0) qs)
      → AllMayCopy x D t.top k 0 (M0 facts) w0 qs ps → AllAreCopied x D t.top k 0 w qs ps → (e : EarlySlot)
      → IsListed e qs → IsCopiedThere e w
  each_copied w [] ps may copied e l = absurd l
  each_copied w (f ∷ qs) ps may copied e (inl same) =
      subst (λ (q : EarlySlot). IsCopiedThere q w) (sym same)
      (record { place = ps.0; may = may.0; copied = copied.0 })
  each_copied w (f ∷ qs) ps may copied e (inr l) = each_copied w qs ps.1 may.1 copied.1 e l

  span_there : (qs : List EarlySlot) (ps : Each (IsCopiedSlot x 0) qs) → AreEarly qs → (q : Span)
      → IsFilledThere x t.top k 0 qs ps q → IsSpanThere q
  span_there [] ps more q f = absurd f
  span_there (e ∷ qs) ps more q (inl (inl at)) = inl (e, more e (inl refl), ps.0, at.0, at.1, at.2)
  span_there (e ∷ qs) ps more q (inl (inr of)) = inr (e, more e (inl refl), of)
  span_there (e ∷ qs) ps more q (inr f) = span_there qs ps.1 (λ y l. more y (inr l)) q f

  result_long : (o : Option ℕ) → length (with_result (W facts).values o (pointer_to k)) ≡ length (W facts).values
  result_long None = refl
  result_long (Some name) = set_length (W facts).values name (Some (pointer_to k))

  pub long : length w0.values ≡ length (framed x).names
  long = result_long facts.result ∙ same_room facts ∙ (old facts).names.room

  copied_all : (qs : List EarlySlot) → AreEarly qs → AreDifferent (map (λ (e : EarlySlot). e.slot) qs)
      → AreDifferent (cells_of qs) → M0 facts + 2 * length qs ≤ length (framed x).names → AreCopiedThere qs
  copied_all [] more slots cells room = record {
    work = w0;
    spans = [];
    over = over_none D (M0 facts) w0;
    through = refl;
    spares = record { world = refl; others = λ e ne none. refl };
    inside = tt;
    each = λ e l. absurd l;
  }
  copied_all (q ∷ qs) more slots cells room = record {
    work = done.work;
    spans = done.spans;
    over = done.over;
    through = done.through;
    spares = done.spares;
    inside = each_turns (IsFilledThere x t.top k 0 (q ∷ qs) (places_of (q ∷ qs) more)) IsSpanThere
        (span_there (q ∷ qs) (places_of (q ∷ qs) more) more) done.spans
        done.inside;
    each = each_copied done.work (q ∷ qs) (places_of (q ∷ qs) more) (may_all (q ∷ qs) more) done.copied;
  }
    where
      named : (facts.result ≡ Some (begin_of x.function)) × (begin_of x.function < length (edged x).names)
      named = h.begun

      done : AreCopied x D t.top s.top.block k 0 (M0 facts) w0 (q ∷ qs) (places_of (q ∷ qs) more)
      done =
          slots_copied x D (frame_rights_fit b.given (ys facts)) t.top s.top.block k 0 (q ∷ qs)
          (places_of (q ∷ qs) more) (M0 facts) w0 (record {
            begun =
                ap (λ (o : Option ℕ). value_in (with_result (W facts).values o (pointer_to k)) (begin_of x.function))
                named.0
                ∙ value_here (W facts).values (begin_of x.function) (pointer_to k)
                (let lt = (h.named (begin_of x.function) named.0).2 in
                let all : length (W facts).values ≡ length t.top.values = same_room facts in
                let room' : length t.top.values ≡ length (framed x).names = (old facts).names.room in
                omega (arith, lt, all, room'));
            old =
                let low = named.1 in
                let up = low_names facts in
                let few = h.order.loads in
                let rises : N0 facts ≤ next_after_all (fetches_of (plan x)) (N0 facts) (instr_operands (I facts)) =
                fetch_rises (fetches_of (plan x)) (N0 facts) (instr_operands (I facts)) in
                let high = h.order.addresses in
                omega (arith, low, up, few, rises, high);
            room = let all : length w0.values ≡ length (framed x).names = long in omega (arith, room, all);
            own = own_blocks t r.once;
            elsewhere = λ slot c. slot_apart facts t.top (inl refl) slot c;
            once = cells;
            temporaries = λ e f l o. cells_apart x e f (more e l) (more f o);
            apart = all_apart (q ∷ qs) (places_of (q ∷ qs) more) more slots;
            each = may_all (q ∷ qs) more;
          })

  pub all_copied : AreCopiedThere early
  all_copied = copied_all early (λ e l. l) h.early.slots h.early.cells h.copies_room
