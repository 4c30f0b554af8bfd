-- A getelementptr whose distance is kept is followed.
use Rattle.std.proofs.Common.{◌≡◌, ◌⊎◌, inl, inr, ℕ, ◌+◌, ◌<◌, ◌≤◌, Bool, true, false, List, [], ◌∷◌, ◌++◌, length, refl, sym, ap, ◌∙◌, subst, arith, append-nil}
use Rattle.std.proofs.lemmas.Bool.{cases_lt}
use Rattle.std.proofs.lemmas.List.{length-append}
use Rattle.std.specs.Prelude.{None, Option, Some, slice_get, option_map, ◌≢◌}
use Rattle.pass_proofs.proofs.ir_laws.facts.Members.{each_joined, each_turns}
use Rattle.pass_proofs.proofs.ir_laws.facts.Truth.{is_number}
use Rattle.pass_proofs.specs.ir_model.Ty.{Ty}
use Rattle.pass_proofs.specs.ir_model.declared.instr.Instr.{Instr}
use Rattle.pass_proofs.specs.ir_model.declared.module.Module.{Module}
use Rattle.pass_proofs.specs.ir_model.declared.operand.Arg.{Arg}
use Rattle.pass_proofs.specs.ir_model.declared.operand.Operand.{Operand}
use Rattle.pass_proofs.specs.ir_parts.Contents.{instr_operands}
use Rattle.pass_proofs.specs.pass_cells.Cells.{fetches_of}
use Rattle.pass_proofs.specs.pass_cells.Kept.{entry}
use Rattle.pass_proofs.specs.pass_cells.Written.{distance_behind, distance_from, distance_into, stored, stored_at, stored_one}
use Rattle.pass_proofs.specs.pass_cells.declared.plan.KeptValue.{KeptValue}
use Rattle.pass_proofs.specs.pass_distances.Sums.{distance_instrs}
use Rattle.pass_proofs.specs.pass_distances.Ways.{ways_of}
use Rattle.pass_proofs.specs.pass_distances.declared.way.Way.{Way}
use Rattle.pass_proofs.specs.pass_fetch.Fetching.{fetch_of, fetches_of_all, next_after, next_after_all, operand_by}
use Rattle.pass_proofs.specs.pass_fetch.Instrs.{with_fetched}
use Rattle.pass_proofs.specs.pass_fetch.declared.fetch.Fetch.{Fetch}
use Rattle.pass_proofs.specs.pass_frames.Framed.{begin_of}
use Rattle.pass_frames_code.proofs.code.Idle.{instr_same}
use Rattle.pass_frames_code.proofs.code.Left.{Far, far_named}
use Rattle.pass_frames_code.proofs.code.Names.{far_left}
use Rattle.pass_frames_code.proofs.distanced.Through.{distance_through, distance_unset, distance_woven, woven_gives, woven_no_alloca}
use Rattle.pass_frames_code.proofs.distances.Sums.{more_below}
use Rattle.pass_frames_code.proofs.geps.Moves as moving
use Rattle.pass_frames_code.proofs.led.Front.{all_still}
use Rattle.pass_frames_code.proofs.led.Steps.{short_result, still_through}
use Rattle.pass_frames_code.proofs.led.Through.{one_through, runs_of, through_joined}
use Rattle.pass_frames_code.proofs.led.Twice.{operands_fetched}
use Rattle.pass_frames_code.proofs.stepping.After.{not_set, past_value}
use Rattle.pass_frames_code.proofs.stepping.Calm.{IsWoven, woven_others}
use Rattle.pass_frames_code.proofs.stepping.Doing.{doing_followed}
use Rattle.pass_frames_code.proofs.stepping.Fetch as fetching
use Rattle.pass_frames_code.proofs.stepping.Fetch.{own_blocks}
use Rattle.pass_frames_code.proofs.stepping.Line.{left}
use Rattle.pass_frames_code.proofs.stepping.Names.{slots_new}
use Rattle.pass_frames_code.proofs.stepping.Operands.{asked, outside_not, slot_fetch}
use Rattle.pass_frames_code.proofs.stepping.Owns.{alone_stands}
use Rattle.pass_frames_code.specs.Code.{address_state, load_name, loaded, slot_table, stores, write_name}
use Rattle.pass_frames_code.specs.Distanced.{IsAtDistanced, IsOutside}
use Rattle.pass_frames_code.specs.Distances.{AreFields, IsBelow}
use Rattle.pass_frames_code.specs.Edges.{IsOnFront}
use Rattle.pass_frames_code.specs.Followed.{IsFollowed}
use Rattle.pass_frames_code.specs.Framings.{IsFraming}
use Rattle.pass_frames_code.specs.Geps.{MayMove, Moves, loaded_indices}
use Rattle.pass_frames_code.specs.Landing.{LeavesCells}
use Rattle.pass_frames_code.specs.Led.{IsNotSet, IsStill, RunsThrough, fetched_all}
use Rattle.pass_frames_code.specs.Lined.{GivesNone}
use Rattle.pass_frames_code.specs.Lines.{IsStorable, at_work}
use Rattle.pass_frames_code.specs.Operands.{StandsAlone}
use Rattle.pass_frames_code.specs.Ordinary.{MayFetch, StandsUnkept}
use Rattle.pass_frames_code.specs.Places.{Framing, Placed, edged, framed, named, offsets, plan, written}
use Rattle.pass_frames_code.specs.Related.{AreBuiltOf, AreCellsRight, Building, IsKeptValue}
use Rattle.pass_frames_code.specs.Stepping.{AreGiven, StandsInPlace, placed_front, placed_instr, state_in}
use Rattle.pass_proofs.specs.pass_front.Front.{is_no_alloca}
use Rattle.pass_proofs.proofs.fetch.rules.Puts.{fetch_rises}
use Rattle.pass_proofs.proofs.fetch.shape.Fetching.{none_fetched}
use Rattle.pass_proofs.specs.addresses.rules.Addresses.{lies_in_frame}
use Rattle.pass_proofs.specs.fetch.rules.Fetches.{AreUnfetched}
use Rattle.pass_renewed_proof.specs.Renewed.{RenewedGiven}
use Rattle.pass_proofs.specs.run_framed.Framed.{framed_context, frame_rights}
use Rattle.pass_proofs.proofs.run_laws.memory.Itself.{owner_rights_fit}
use Rattle.pass_proofs.specs.run_laws.access.Lines.{Runs}
use Rattle.pass_proofs.specs.run_laws.changed.Changed.{Each}
use Rattle.pass_proofs.specs.run_laws.memory.Pointers.{IsValue}
use Rattle.pass_proofs.specs.run_laws.transfer.Transfer.{AreOver}
use Rattle.run_access_worked.proofs.run_laws_worked.Frames.{frame_rights_fit}
use Rattle.pass_proofs.specs.run_memory.Memory.{Rights, owner_rights}
use Rattle.pass_proofs.specs.run_memory.declared.pointer.Value.{Value}
use Rattle.pass_proofs.specs.run_source.Source.{context_of}
use Rattle.pass_proofs.specs.run_source.State.{work_of}
use Rattle.pass_proofs.specs.run_source.declared.state.State.{State}
use Rattle.pass_proofs.specs.run_step.Step.{Context, Done, Work, instr_action}
use Rattle.pass_proofs.specs.run_step.Values.{distance, value_in}
use Rattle.pass_proofs.specs.run_step.declared.world.World.{World}

-- ---- operands that lie in no frame have no address made

module _ (x : Framing) (is : IsFraming x) where
  outside_all : (n : ℕ) (xs : List Operand) → length (named x).names ≤ n → Each (IsOutside x) xs
      → AreUnfetched (slot_table x) (fetched_all (fetches_of (plan x)) n xs)
  outside_all n [] low h = tt
  outside_all n (a ∷ xs) low h = (
    by (fetch_of (fetches_of (plan x)) a),
    outside_all (next_after (fetches_of (plan x)) n a) xs
        (let up : n ≤ next_after (fetches_of (plan x)) n a = fetch_rises (fetches_of (plan x)) n (a ∷ []) in
        omega (arith, low, up)) h.1,
  )
    where
      old : (o : Operand) → IsOutside x o → fetch_of (slot_table x) o ≡ None
      old (Operand.Local v) e = slot_fetch x v ∙ ap (option_map (Fetch.Address (begin_of x.function))) e
      old (Operand.Global v) e = refl
      old (Operand.Number v) e = refl
      old Operand.True e = refl
      old Operand.False e = refl
      old Operand.Null e = refl
      old Operand.None e = refl
      old Operand.Poison e = refl

      by : (o : Option Fetch) → fetch_of (slot_table x) (operand_by n o a) ≡ None
      by None = old a h.0
      by (Some f) =
          (far_left x is n
          (let far : Far x is ≤ length (named x).names = far_named x is in omega (arith, far, low))).0

-- ---- stores

stored_woven : (x : Framing) (v : ℕ) → Each IsWoven (stored (plan x) v)
stored_woven x v = by_place (entry (plan x).places v)
  where
    by_kept : (o : Option KeptValue) → Each IsWoven (stored_one v o)
    by_kept None = tt
    by_kept (Some k) = (tt, tt)

    by_place : (o : Option ℕ) → Each IsWoven (stored_at (plan x).kept v o)
    by_place None = tt
    by_place (Some at) = by_kept (slice_get (plan x).kept at)

stored_unset : (x : Framing) (v k : ℕ) → Each (IsNotSet k) (stored (plan x) v)
stored_unset x v k = by_place (entry (plan x).places v)
  where
    by_kept : (o : Option KeptValue) → Each (IsNotSet k) (stored_one v o)
    by_kept None = tt
    by_kept (Some q) = ((λ e. absurd (cc)), tt)

    by_place : (o : Option ℕ) → Each (IsNotSet k) (stored_at (plan x).kept v o)
    by_place None = tt
    by_place (Some at) = by_kept (slice_get (plan x).kept at)

still_woven : (j : Instr) → IsStill j → IsWoven j
still_woven (Instr.Load r ty p align) h = tt
still_woven (Instr.Gep r inbounds ty p indices) h = tt
still_woven _ h = absurd h

-- ---- the step

module _ (b : Building) (g : RenewedGiven) (given : AreGiven b g) (s t : State) (r : AreBuiltOf b s t) (u : ℕ)
    (inbounds : Bool) (ty : Ty) (base : ℕ) (indices : List Arg) (cell slot : ℕ) (v : Work)
    (h : IsAtDistanced b g s u inbounds ty base indices cell slot v) where
  abbrev x : Framing
  x = b.framing s.top.func

  abbrev i : Instr
  i = Instr.Gep u inbounds ty (Operand.Local base) indices

  abbrev st : Placed
  st = state_in x s.top.block s.top.at

  abbrev n : ℕ
  n = load_name st

  abbrev m : ℕ
  m = write_name st

  abbrev T : List (Option Fetch)
  T = fetches_of (plan x)

  abbrev c : Context
  c = context_of g.given s

  abbrev d : Context
  d = framed_context b.given t

  abbrev R : Rights
  R = frame_rights b.given t.instances

  is : IsFraming x
  is = given.framings s.top.func h.at.coroutine

  abbrev now : List Arg
  now = loaded_indices x n base indices

  abbrev ways : List Way
  ways = ways_of x.code ty now

  -- ---- names

  low : length (edged x).names ≤ n
  low = fetching.low b g given s t r i h.at

  room_is : length t.top.values ≡ length (framed x).names
  room_is = (fetching.values b g given s t r i h.at).names.room

  written_framed : length (written x).names ≤ length (framed x).names
  written_framed =
      let a : length (written x).names ≤ (address_state st).0 = h.at.order.addresses in
      let e = h.at.order.room in
      let up : (address_state st).0
      ≤ next_after_all (slot_table x) (address_state st).0 (instr_operands (with_fetched T n i)) =
      fetch_rises (slot_table x) (address_state st).0 (instr_operands (with_fetched T n i)) in
      omega (arith, a, e, up)

  stands_one : (o : Operand) → IsOutside x o → StandsUnkept x r.homes c d (work_of s) (work_of t) o
  stands_one (Operand.Local k) out = λ unkept.
      (fetching.values b g given s t r i h.at).names.each k (asked x s.top s.top.mode k h.at.mode) unkept
      (outside_not x k out)
  stands_one (Operand.Global k) out = fetching.others b g given s t r i h.at (Operand.Global k) (λ q e. absurd (cc))
  stands_one (Operand.Number k) out = fetching.others b g given s t r i h.at (Operand.Number k) (λ q e. absurd (cc))
  stands_one Operand.True out = fetching.others b g given s t r i h.at Operand.True (λ q e. absurd (cc))
  stands_one Operand.False out = fetching.others b g given s t r i h.at Operand.False (λ q e. absurd (cc))
  stands_one Operand.Null out = fetching.others b g given s t r i h.at Operand.Null (λ q e. absurd (cc))
  stands_one Operand.None out = fetching.others b g given s t r i h.at Operand.None (λ q e. absurd (cc))
  stands_one Operand.Poison out = fetching.others b g given s t r i h.at Operand.Poison (λ q e. absurd (cc))

  same_result : (k : ℕ) → Some u ≡ Some k → u ≡ k
  same_result k e = cc

  may_fetch : MayFetch x r.homes r.hides c d (work_of s) (work_of t) t.top n i
  may_fetch = record {
    joined = record {
      over = r.world;
      hidden = r.hidden;
      answers = given.answers;
      room = fetching.enough b g given s t r i h.at;
    };
    cells = fetching.right b g given s t r i h.at;
    free = λ slot listed of. fetching.free b g given s t r i h.at slot listed
        (fetching.cell_name b g given s t r i h.at slot.alloca of);
    own = own_blocks t r.once;
    low = h.at.order.low;
    below = each_turns (IsBelow (length (edged x).names)) (IsBelow n)
        (λ o lt. more_below (length (edged x).names) n o low lt) (instr_operands i) h.at.below;
    room = let a = h.at.order.loads in let e = written_framed in let k = room_is in omega (arith, a, e, k);
    stands = each_turns (IsOutside x) (StandsUnkept x r.homes c d (work_of s) (work_of t)) stands_one
        (instr_operands i) h.outside;
    callee = tt;
    bytes = tt;
    storable = λ z does k kept e is_kept. storable_at z does k kept (same_result k e) is_kept;
  }
    where
      storable_at : (z : Work) → instr_action c (work_of s) i ≡ Done z → (k : ℕ) (kept : KeptValue) → u ≡ k
          → IsKeptValue x k kept → IsStorable kept.ty (value_in z.values k)
      storable_at z does k kept e is_kept =
          let both : Done v ≡ Done z = sym h.does ∙ does in
          let one : v ≡ z = cc in
          subst (λ (p : ℕ × Work). IsStorable kept.ty (value_in p.1.values p.0)) (λ q. (e q, one q))
          (h.storable kept (subst (λ (j : ℕ). IsKeptValue x j kept) (sym e) is_kept))

  may : MayMove x r.homes r.hides c d (work_of s) (work_of t) t.top n m u inbounds ty base indices cell slot
  may = record {
    operands = may_fetch;
    result = h.result;
    told = h.told;
    root = h.root;
    from = h.from;
    not_itself = h.not_itself;
    fields = h.fields;
    same = λ q ks. ap (λ (k : Module). distance k q ks) given.code ∙ h.same q ks;
    later = h.later;
    room = let a = h.room in let e = written_framed in let k = room_is in omega (arith, a, e, k);
    below = h.below;
    loaded_fields = subst (λ (k : Module). AreFields k ty now) (sym given.code) h.loaded_fields;
    ways = ap (λ (k : Module). ways_of k ty now) given.code ∙ h.ways;
  }

  -- ---- the line

  abbrev one : Instr
  one = with_fetched T n i

  abbrev loads : List Instr
  loads = fetches_of_all T n (instr_operands i)

  abbrev behind_line : List Instr
  behind_line = stored (plan x) u ++ distance_behind x.code (plan x) m one

  abbrev line : List Instr
  line = loads ++ (one ∷ behind_line)

  unfetched : AreUnfetched (slot_table x) (instr_operands one)
  unfetched =
      subst (AreUnfetched (slot_table x)) (sym (operands_fetched T n i))
      (outside_all x is n (instr_operands i) h.at.order.low h.outside)

  front_is : placed_front x st i ≡ loads
  front_is =
      ap (λ (is : List Instr). loads ++ is)
      (none_fetched (slot_table x) (address_state st).0 (instr_operands one) unfetched)
      ∙ append-nil loads

  last_is : placed_instr x st i ≡ one
  last_is = instr_same (slot_table x) (address_state st).0 one unfetched

  distance_is : distance_behind x.code (plan x) m one ≡ distance_instrs m (distance_from (plan x) u) cell ways
  distance_is =
      ap (λ (o : Option ℕ). distance_into x.code (distance_from (plan x) u) m o ty now) h.told

  behind_each : (P : Instr → Type 0) → Each P (stored (plan x) u)
      → Each P (distance_instrs m (distance_from (plan x) u) cell ways) → Each P behind_line
  behind_each P a e =
      each_joined P (stored (plan x) u) (distance_behind x.code (plan x) m one) a
      (subst (Each P) (sym distance_is) e)

  loads_still : Each IsStill loads
  loads_still = all_still T n (instr_operands i)

  behind_woven : Each IsWoven behind_line
  behind_woven =
      behind_each IsWoven (stored_woven x u) (distance_woven m (distance_from (plan x) u) cell ways)

  line_woven : Each IsWoven line
  line_woven =
      each_joined IsWoven loads (one ∷ behind_line) (each_turns IsStill IsWoven still_woven loads loads_still)
      (tt, behind_woven)

  gives : Each (GivesNone b.given.given.code) line
  gives = each_turns IsWoven (GivesNone b.given.given.code) (woven_gives b.given.given.code) line line_woven

  stands : StandsAlone x s.top.block s.top.at (placed_front x st i) (placed_instr x st i) (stores x st i)
  stands =
      alone_stands x is s.top.block s.top.at i h.at.there h.at.unreturned (left x (loaded x st i) tt)
      (left x (placed_instr x st i) tt) h.unlocated
      (each_turns IsWoven (λ (j : Instr). is_no_alloca j ≡ true) woven_no_alloca (stores x st i) behind_woven)

  in_place : StandsInPlace x s.top.block s.top.at line
  in_place =
      subst (λ (p : List Instr × Instr). StandsInPlace x s.top.block s.top.at (p.0 ++ (p.1 ∷ stores x st i)))
      (λ q. (front_is q, last_is q)) (stands.stand, stands.next)

  -- ---- it is executed

  abbrev P : Work → Type 0
  P = IsOnFront x t

  abbrev y : Work
  y = work_of t

  moved : Moves x r.homes r.hides c d y v t.top n m u inbounds ty base indices
  moved = moving.moves x is r.homes r.hides c d owner_rights_fit (frame_rights_fit b.given t.instances)
      (work_of s) y v t.top n m u inbounds ty base indices cell slot h.does may

  on : moving.MovesOn x d (work_of s) y v t.top n m u inbounds ty base indices cell
  on = moving.moves_on x is r.homes r.hides c d owner_rights_fit (frame_rights_fit b.given t.instances)
      (work_of s) y v t.top n m u inbounds ty base indices cell slot h.does may

  abbrev z : Work
  z = on.work

  same_work : moved.work ≡ on.work
  unfolding moved on
  same_work = moving.moves_work x is r.homes r.hides c d owner_rights_fit (frame_rights_fit b.given t.instances)
      (work_of s) y v t.top n m u inbounds ty base indices cell slot h.does may

  holds : (k : Work) → k.world ≡ t.world → P k
  holds k e = record {
    events = ap (λ (q : World). q.events) e;
    spares = record { same = λ q none. ap (λ (p : World). slice_get p.memory q) e };
  }

  short_stored : length (stored (plan x) u) ≤ 1
  short_stored = short_result x (Some u)

  through_behind : RunsThrough d P behind_line on.second z
  through_behind =
      through_joined d P (stored (plan x) u) (distance_behind x.code (plan x) m one) on.second on.third z
      (one_through d P (stored (plan x) u) on.second on.third short_stored (holds on.second on.second_world) on.stores)
      (subst (λ (is : List Instr). RunsThrough d P is on.third z) (sym distance_is)
      (distance_through d P on.third
      (λ k e. record {
        events = ap (λ (q : World). q.events) e ∙ on.third_events;
        spares = record {
          same = λ q none. ap (λ (p : World). slice_get p.memory q) e ∙ on.third_spares.same q none;
        };
      }) m (distance_from (plan x) u) cell ways on.third z refl on.measures))

  through : RunsThrough d P line y z
  through =
      through_joined d P loads (one ∷ behind_line) y on.first z
      (still_through d P y holds loads y on.first loads_still refl on.loads)
      (holds on.first on.first_world, (on.second, (on.is_done, through_behind)))

  runs_line : Runs d line y z
  runs_line = runs_of d P line y z through

  -- ---- what it leaves

  others : (k : ℕ) → k < n → (Some u ≡ Some k → ⊥) → value_in z.values k ≡ value_in t.top.values k
  others k lt differ = ap (λ (q : Work). value_in q.values k) (sym same_work) ∙ moved.others k lt differ

  other_name : (k : ℕ) → k ≢ u → Some u ≡ Some k → ⊥
  other_name k differ e = differ (sym (same_result k e))

  high : (k : ℕ) → length (written x).names ≤ k → value_in z.values k ≡ value_in t.top.values k
  high k le = woven_others d k line y z line_woven unset runs_line
    where
      ordered : length (edged x).names ≤ length (written x).names
      ordered = fetching.written_high b g given s t r i h.at

      unset : Each (IsNotSet k) line
      unset =
          each_joined (IsNotSet k) loads (one ∷ behind_line)
          (not_set T k n (instr_operands i) (inr (let a = h.at.order.loads in omega (arith, a, le)))) (
            (λ e.
                let same : u ≡ k = same_result k e in
                let small : u < length (edged x).names = h.result.low in
                let long = ordered in
                omega (arith, same, small, long, le)),
            behind_each (IsNotSet k) (stored_unset x u k)
                (distance_unset k m (distance_from (plan x) u) cell ways
                (let a = h.room in omega (arith, a, le))),
          )

  leaves : LeavesCells b s t r v.world v.values z
  leaves = record {
    source = ap (λ (k : World). k.memory) on.source_world;
    over = subst (λ (k : Work). AreOver owner_rights R r.homes r.hides (λ q. q) v.world k.world) same_work moved.over;
    spares = on.spares;
    right = subst (λ (k : Work). AreCellsRight x r.homes R k.world.memory v.values (at_work t.top k)) same_work
        moved.cells;
    room = ap (λ (k : Work). length k.values) (sym same_work) ∙ moved.room;
    names = λ k unkept out. by_name k unkept out (is_number k u) (cases_lt k n);
    wheres = λ e listed. (high e.cell (slots_new x e listed).1, high e.temporary (slots_new x e listed).0);
    allocas = λ at k align of e.
        let a = h.allocas at k align of e in (
          a.0,
          others k (let lt = a.0 in let le = low in omega (arith, lt, le)) (other_name k a.1),
        );
  }
    where
      by_name : (k : ℕ) → entry (plan x).places k ≡ None → lies_in_frame (offsets x) k ≡ false
          → (k ≡ u) ⊎ (k ≢ u) → (k < n) ⊎ (n ≤ k) → IsValue r.homes (value_in v.values k) (value_in z.values k)
      by_name k unkept out (inl e) le =
          subst (λ (q : Work). IsValue r.homes (value_in v.values k) (value_in q.values k)) same_work
          (moved.set k (ap Some (sym e)))
      by_name k unkept out (inr differ) (inl lt) =
          subst (λ (q : Value × Value). IsValue r.homes q.0 q.1)
          (λ j. (sym (on.source k differ) j, sym (others k lt (other_name k differ)) j))
          ((fetching.values b g given s t r i h.at).names.each k (asked x s.top s.top.mode k h.at.mode) unkept out)
      by_name k unkept out (inr differ) (inr le) =
          subst (λ (q : Value). IsValue r.homes q (value_in z.values k))
          (sym (past_value v.values k
          (let a = on.source_room in let e = h.at.room in let f = low in omega (arith, a, e, f, le)))) tt

  some : 0 < length line
  some =
      let long : length line ≡ length loads + length (one ∷ behind_line) = length-append loads (one ∷ behind_line) in
      omega (arith, long)

  pub measured_followed : IsFollowed b g s t
  measured_followed =
      doing_followed b g given s t r i h.at h.runs v h.does refl line gives in_place some z through leaves
