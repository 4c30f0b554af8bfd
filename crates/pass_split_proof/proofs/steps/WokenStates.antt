-- A part that a resume or destroy has called follows the framed run: among its allocas, or behind the suspend.
use Rattle.std.proofs.Common.{◌≡◌, ℕ, zero, suc, ◌+◌, ◌-◌, ◌<◌, ◌≤◌, inl, inr, ⊎_elim, Bool, true, false, List, [], ◌∷◌, length, replicate, Option, None, Some, refl, sym, ap, ◌∙◌, subst, arith}
use Rattle.std.specs.Prelude.{slice_get, slice_set, ◌||◌, ◌==◌}
use Rattle.std.proofs.lemmas.List.{length-replicate}
use Rattle.std.proofs.lemmas.Option.{slice_get_within}
use Rattle.std.proofs.lemmas.Bool.{cases_lt, eq-eqb, or_left, or_right}
use Rattle.pass_proofs.specs.ir_base.declared.outcome.Outcome.{Outcome}
use Rattle.pass_proofs.specs.ir_model.Names.{function_at, position_of}
use Rattle.pass_proofs.specs.ir_model.declared.instr.Phi.{Phi}
use Rattle.pass_proofs.specs.ir_model.declared.module.Function.{Function}
use Rattle.pass_proofs.specs.pass_front.Front.{allocas_of}
use Rattle.pass_proofs.specs.pass_intrinsics.Shapes.{back_label, given_name, index_name, slot_name, suspends_of}
use Rattle.pass_proofs.specs.pass_intrinsics.declared.shape.Part.{Part}
use Rattle.pass_proofs.specs.pass_intrinsics.declared.shape.Shape.{Shape}
use Rattle.pass_proofs.specs.pass_intrinsics.declared.shape.SuspendPoint.{SuspendPoint}
use Rattle.pass_split_proof.proofs.simulation.Knowing.{KeepsPlaces, calls_know, frame_knows, frames_know, set_places, waking_knows}
use Rattle.pass_split_proof.proofs.steps.Calling.{IsCounted, counted_is, counted_related}
use Rattle.pass_split_proof.proofs.steps.Calls.{result_length}
use Rattle.pass_split_proof.proofs.steps.Dispatched.{leads_on, quiet_on}
use Rattle.pass_split_proof.proofs.steps.Followed.{many_followed, still_on}
use Rattle.pass_split_proof.proofs.steps.Saves.{values_extra}
use Rattle.pass_split_proof.proofs.steps.Waking.{index_inside, ours, returning, start_frame, start_stands, theirs, woken_related}
use Rattle.pass_split_proof.proofs.states.Values.{entry_length}
use Rattle.pass_split_proof.specs.code.Entry.{GoesBack}
use Rattle.pass_split_proof.specs.places.Places.{Enters, Leads, StartsWithEnd, Straight, ThroughDone, entering}
use Rattle.pass_split_proof.specs.code.Positions.{is_given}
use Rattle.pass_split_proof.specs.simulation.Followed.{IsFollowed, ShowsOn}
use Rattle.pass_split_proof.specs.simulation.Knowing.{KnowCalls, KnowFrames, KnowsFrame, KnowsGiven, LeavesGiven, is_for_some}
use Rattle.pass_split_proof.specs.states.Activations.{Inside, IsReturning, Making, is_entering}
use Rattle.pass_split_proof.specs.states.Going.{placed_at, stands_at}
use Rattle.pass_split_proof.specs.states.Instances.{is_given_in, part_position, shape_at}
use Rattle.pass_split_proof.specs.states.Memories.{homes_of}
use Rattle.pass_split_proof.specs.states.Related.{AreRelated, IsOn, credit_of, fetched_at, is_behind_suspend, is_return_label, left_of_calls, part_price, price_of, weight}
use Rattle.pass_split_proof.specs.states.Values.{AreValuesOf}
use Rattle.pass_split_proof.specs.steps.Called.{HasCalled}
use Rattle.pass_split_proof.specs.steps.Dispatch.{IsAtIndex, indexed_work}
use Rattle.pass_split_proof.specs.steps.Woken.{IsWaking, IsWoken}
use Rattle.pass_proofs.specs.pass_split.Parts.{or_zero}
use Rattle.pass_proofs.specs.pass_split.Pieces.{going_on, redirected}
use Rattle.pass_proofs.proofs.run_agreement.Runs.{iterate-add}
use Rattle.pass_proofs.specs.run_agreement.Machines.{iterate}
use Rattle.pass_proofs.specs.run_framed.Framed.{FramedGiven, alloca_from, continue_framed, enter_after, framed_step, layout_of, reentry_values}
use Rattle.pass_proofs.proofs.run_laws.transfer.Sets.{set_elsewhere, set_length}
use Rattle.pass_proofs.specs.run_laws.access.Lines.{pointer_at}
use Rattle.pass_proofs.specs.run_laws.memory.Pointers.{Home}
use Rattle.pass_proofs.specs.run_memory.declared.pointer.Value.{Value}
use Rattle.run_access_worked.specs.run_plain.Plain.{PlainGiven, counted, plain_called, plain_go_to, plain_step}
use Rattle.run_access_worked.specs.run_plain.declared.state.PlainState.{PlainState}
use Rattle.pass_proofs.specs.run_source.Source.{push, resumed}
use Rattle.pass_proofs.specs.run_source.State.{frame_address_of, with_status}
use Rattle.pass_proofs.specs.run_source.declared.state.Instance.{Instance}
use Rattle.pass_proofs.specs.run_source.declared.state.Mode.{Mode}
use Rattle.pass_proofs.specs.run_source.declared.state.State.{State}
use Rattle.pass_proofs.specs.run_source.declared.state.Status.{Status}
use Rattle.pass_proofs.specs.run_step.Step.{Fetched, Work, entry_values, fetch, label_of, phi_values, phis_of, with_all}
use Rattle.pass_proofs.specs.run_step.Values.{Env, value_in, with_value}
use Rattle.pass_proofs.specs.run_step.declared.world.World.{World}

abbrev no_one : Option Value
no_one = None

-- ---- phis that there are none of

pub none_entering : (label : ℕ) (ps : List Phi) → entering label ps ≡ [] → ps ≡ []
none_entering label [] e = refl
none_entering label (p ∷ ps) e = absurd (cc)

-- ---- labels behind suspends

pub returns_there : (ps : List SuspendPoint) (j : ℕ) (p : SuspendPoint) (label : ℕ) → slice_get ps j ≡ Some p
    → ((label == p.resume) || (label == p.destroy)) ≡ true → is_return_label ps label ≡ true
returns_there [] j p label e is = absurd (cc)
returns_there (q ∷ ps) zero p label e is =
    let same : q ≡ p = cc in
    or_left ((label == q.resume) || (label == q.destroy)) (is_return_label ps label)
    (ap (λ (x : SuspendPoint). (label == x.resume) || (label == x.destroy)) same ∙ is)
returns_there (q ∷ ps) (suc j) p label e is =
    or_right ((label == q.resume) || (label == q.destroy)) (is_return_label ps label) (returns_there ps j p label e is)

pub is_edge : (part : Part) (p : SuspendPoint) (label : ℕ) → going_on part (Some p) ≡ Some label
    → ((label == p.resume) || (label == p.destroy)) ≡ true
is_edge Part.Ramp p label e = absurd (cc)
is_edge Part.GivenRamp p label e = absurd (cc)
is_edge Part.Resume p label e =
    let same : label ≡ p.resume = cc in
    or_left (label == p.resume) (label == p.destroy) (eq-eqb label p.resume same)
is_edge Part.Destroy p label e =
    let same : label ≡ p.destroy = cc in
    or_right (label == p.resume) (label == p.destroy) (eq-eqb label p.destroy same)
is_edge Part.Cleanup p label e =
    let same : label ≡ p.destroy = cc in
    or_right (label == p.resume) (label == p.destroy) (eq-eqb label p.destroy same)

module _ (g : FramedGiven) (h : PlainGiven) (s : State) (t : PlainState) (r : AreRelated g h s t)
    (runs : s.outcome ≡ Outcome.Running) (settled : is_entering s.top.mode ≡ false) (p : Value) (w : IsWoken s p)
    (part : Part) (label : ℕ) (k : IsWaking g h.code s t.world.memory p w part label)
    (is : framed_step g s ≡ continue_framed g s w.number w.instance w.suspend w.values label)
    (heavy : weight (fetched_at g s) ≡ 4)
    (ends : StartsWithEnd (function_at g.given.code w.instance.coroutine) (shape_at g w.instance.coroutine).end)
    (c : HasCalled g h s t r w.instance part)
    (right : is_for_some part ≡ true
    → is_given part ≡ is_given_in (slice_get s.world.memory w.instance.block) w.instance) where
  abbrev calls : ℕ
  calls = c.calls

  few : c.calls ≤ 3
  few = c.few

  abbrev x : Instance
  x = w.instance

  abbrev func : ℕ
  func = x.coroutine

  abbrev f : Function
  f = function_at g.given.code func

  abbrev shape : Shape
  shape = shape_at g func

  abbrev part_at : ℕ
  part_at = part_position g func part

  abbrev q : Function
  q = function_at h.code part_at

  abbrev frame : Value
  frame = frame_address_of x

  abbrev ys : List Instance
  ys = slice_set s.instances w.number (record x { status = Status.Running })

  abbrev homes : List Home
  homes = homes_of s.world.memory

  abbrev count : ℕ
  count = length (allocas_of f.blocks)

  abbrev start : Env
  start = entry_values q (frame ∷ [])

  -- the framed run with the new activation on top
  abbrev pushed : State
  pushed = push (with_status s w.number x Status.Running) (resumed w.number x w.suspend (reentry_values f frame))

  -- the parts' run behind the call
  abbrev called : PlainState
  called = record t {
    top = plain_called h.code part_at (frame ∷ []) None;
    below = placed_at t.top c.piece c.offset c.values ∷ t.below;
  }

  tally : IsCounted called (counted h part_at called)
  tally = counted_is h part_at called

  abbrev entered : PlainState
  entered = record called { elided = tally.count }

  comes_in : iterate (plain_step h) calls t ≡ record called { elided = tally.count }
  comes_in = c.comes ∙ tally.is

  -- the part goes on, and changes nothing that is seen
  abbrev IsStill : PlainState → Type 0
  IsStill u = (u.outcome ≡ Outcome.Running) × (u.world ≡ t.world)

  same_credit : left_of_calls (s.top ∷ s.below) ≡ 0 + left_of_calls (s.top ∷ s.below)
  same_credit = zero_more (left_of_calls (s.top ∷ s.below))
    where
      zero_more : (n : ℕ) → n ≡ 0 + n
      zero_more n = omega arith

  -- ---- what is known of frames that callers give

  unnamed : (name : ℕ) → None ≡ Some name → ⊥
  unnamed name e = cc

  places : KeepsPlaces s.instances ys s.world.memory s.world.memory
  places = set_places s.instances s.world.memory w.number x (record x { status = Status.Running }) w.there refl refl

  knows : (mode : Mode) → ((other : Value) → mode ≡ Mode.GivenRamp other → ⊥) → (values : Env) → KnowsGiven g s t
      → (KnowsFrame g ys s.world.memory func mode (Some w.number) part_at values
      × (KnowsFrame g ys s.world.memory s.top.func s.top.mode s.top.instance t.top.func c.values
      × (LeavesGiven g None s.top.func s.top.mode
      × KnowFrames g ys s.world.memory s.top.result s.below t.below)))
      × KnowCalls g ys s.world.memory
  knows mode none values know = (
    (
      waking_knows g s.instances s.world.memory w.number (record x { status = Status.Running }) func mode
          part_at values
          part (slice_get_within s.instances w.number x w.there) refl right none,
      (
        frame_knows g s.instances ys s.world.memory s.world.memory (record { each = λ b e. refl }) places s.top.func
            s.top.mode s.top.instance t.top.func t.top.values c.values know.0.0 c.given,
        (
          λ other e sets. absurd (unnamed (given_name (shape_at g s.top.func)) sets),
          frames_know g s.instances ys s.world.memory s.world.memory (record { each = λ b e. refl }) places
              s.top.result s.below t.below know.0.1,
        ),
      ),
    ),
    calls_know g s.instances ys s.world.memory s.world.memory (record { each = λ b e. refl }) places know.1,
  )

  -- ---- among the allocas

  module _ (allocas : 0 < count) where
    abbrev mode : Mode
    mode = Mode.Entering w.suspend.block label

    abbrev making : State
    making = record s {
      instances = ys;
      top = ours g h s t r p w part label k mode 0 0 0 0 start;
      below = record s.top { at = s.top.at + 1 } ∷ s.below;
    }

    is_making : framed_step g s ≡ making
    is_making = is ∙ ap (enter_after g pushed w.suspend.block label) (k.part_there.entry.allocas.next 0 allocas)

    makes : AreRelated g h making (record called { elided = tally.count })
    makes = counted_related g h making called tally.count
        (woken_related g h s t r p w part label k mode 0 0 0 0 start settled k.part_there.goes
        (start_stands g h s t r p w part label k) (entry_length q (frame ∷ []))
        (start_frame g h s t r p w part label k)
        (Making w.suspend.block label refl refl refl allocas)
        (λ from to e. going_back from to e) c.piece c.offset c.values c.kept c.long c.begin c.waiting c.behind)
      where
        going_back : (from to : ℕ) → Mode.Entering w.suspend.block label ≡ Mode.Entering from to
            → IsReturning g shape part f ys t.world.memory (Some w.number) from to
        going_back from to e =
            let a : w.suspend.block ≡ from = cc in
            let b : label ≡ to = cc in
            subst (λ (q : ℕ × ℕ). IsReturning g shape part f ys t.world.memory (Some w.number) q.0 q.1)
            (λ i. (a i, b i)) (returning g h s t r p w part label k)

    no_ramp : (other : Value) → Mode.Entering w.suspend.block label ≡ Mode.GivenRamp other → ⊥
    no_ramp other e = cc

    pub making_followed : IsFollowed g h s t
    making_followed = many_followed g h s t r runs calls making (low calls few) c.some is_making
        (subst (λ (n : ℕ). calls + credit_of making ≤ n + credit_of s) (sym heavy)
        (subst (λ (n : ℕ). calls + n ≤ 4 + left_of_calls (s.top ∷ s.below)) same_credit
        (fits calls (left_of_calls (s.top ∷ s.below)) few)))
        (λ i lt. still_on g h s t r runs (c.quiet i lt).0 (c.quiet i lt).1)
        (subst (AreRelated g h making) (sym comes_in) makes)
        (λ know. subst (KnowsGiven g making) (sym comes_in) (knows mode no_ramp start know))
      where
        low : (n : ℕ) → n ≤ 3 → n ≤ 9
        low n le = omega arith

        fits : (n k : ℕ) → n ≤ 3 → n + k ≤ 4 + k
        fits n k le = omega arith

  -- ---- behind the suspend

  module _ (none : length (allocas_of (function_at g.given.code w.instance.coroutine).blocks) ≡ 0) where
    abbrev number : ℕ
    number = k.saved.number

    abbrev point : SuspendPoint
    point = k.saved.numbered.suspend

    abbrev back : ℕ
    back = position_of q (back_label shape number)

    abbrev work : Work
    work = indexed_work shape (record { world = t.world; values = start }) x.block x.start number

    -- the block of its own
    no_phis : phis_of (slice_get f.blocks (position_of f label)) ≡ []
    no_phis = ap phis_of k.own.got ∙ k.own.no_phis

    not_end : label ≡ shape.end → ⊥
    not_end e = k.own.no_end ends.first (ap (λ (l : ℕ). fetch f (position_of f l) 0) e ∙ ends.here) ends.ends

    -- the framed run stands in it
    abbrev going : State
    going = record s {
      instances = ys;
      top = ours g h s t r p w part label k Mode.Resumed (position_of f label) 0 0 0 start;
      below = record s.top { at = s.top.at + 1 } ∷ s.below;
    }

    is_going : framed_step g s ≡ going
    is_going = is
        ∙ ap (enter_after g pushed w.suspend.block label) (ap (alloca_from f) (sym none)
        ∙ k.part_there.entry.allocas.none)
        ∙ ap (λ (ps : List Phi). record going {
          top = record going.top {
            values = with_all (reentry_values f frame) (phi_values g.given.code (reentry_values f frame)
                (label_of (slice_get f.blocks w.suspend.block)) ps);
          };
        }) no_phis

    -- the part comes there in four steps
    at_index : IsAtIndex h entered f (layout_of g.layouts func) part number point x.block x.start
    at_index = record {
      running = r.outcome ∙ runs;
      small = k.part_there.small;
      entry = k.part_there.entry;
      block_is = refl;
      at_is = sym none;
      there = k.saved.numbered.stands;
      entered = k.entered;
      frame = start_frame g h s t r p w part label k;
      index = k.saved.index.holds;
      within = index_inside g h s t r p w part label k;
      begin = k.part_there.begin;
      slot_room = subst (λ (n : ℕ). slot_name shape < n) (sym (entry_length q (frame ∷ []))) k.part_there.entry.slot;
      index_room = subst (λ (n : ℕ). index_name shape < n) (sym (entry_length q (frame ∷ [])))
          k.part_there.entry.index;
    }

    goes_back : GoesBack shape part f q number point
    goes_back = k.part_there.entry.entered number point k.saved.numbered.stands k.entered

    is_label : or_zero (going_on part (Some point)) ≡ label
    is_label = ap or_zero k.leads

    leads : Leads shape part f q (position_of f point.block) back label
    leads = subst (Leads shape part f q (position_of f point.block) back) is_label goes_back.leads

    module _ (straight : redirected shape label ≡ label)
        (enters : Enters shape part f q (position_of f point.block) back label) where
      no_phis_there : phis_of (slice_get q.blocks (position_of q label)) ≡ []
      no_phis_there = none_entering (label_of (slice_get q.blocks back)) (phis_of (slice_get q.blocks
          (position_of q label))) (enters.phis
          ∙ ap (entering (label_of (slice_get f.blocks (position_of f point.block)))) no_phis)

      abbrev arrived : PlainState
      arrived = record entered {
        top = theirs g h s t r p w part label k Mode.Resumed 0 0 (position_of q label) 0
            work.values;
      }

      arrives : iterate (plain_step h) 4 entered ≡ arrived
      arrives = leads_on h entered f (layout_of g.layouts func) part number point x.block x.start at_index
          ∙ ap (plain_go_to h (stands_at entered back 0 work)) (ap (redirected shape) is_label ∙ straight)
          ∙ ap (λ (ps : List Phi). record arrived {
            top = record arrived.top {
              values = with_all work.values (phi_values h.code work.values (label_of (slice_get q.blocks back)) ps);
            };
          }) no_phis_there

      names_low : length (reentry_values f frame) ≡ length f.names
      names_low = result_length (replicate (length f.names) no_one) _ frame ∙ length-replicate (length f.names) no_one

      low_by : (d : ℕ) → length (reentry_values f frame) ≤ shape.base + d
      low_by d = subst (λ (n : ℕ). n ≤ shape.base + d) (sym names_low) (more (length f.names) d)
        where
          more : (n d : ℕ) → n ≤ n + d
          more n d = omega arith

      stand : AreValuesOf f homes (reentry_values f frame) work.values
      stand = values_extra f homes (reentry_values f frame)
          (with_value start (slot_name shape) (pointer_at x.block (x.start + shape.index))) (index_name shape) _
          (low_by 5)
          (values_extra f homes (reentry_values f frame) start (slot_name shape) _ (low_by 4)
          (start_stands g h s t r p w part label k))

      length_is : length work.values ≡ length q.names
      length_is = set_length (with_value start (slot_name shape) (pointer_at x.block (x.start + shape.index)))
          (index_name shape) _
          ∙ set_length start (slot_name shape) _ ∙ entry_length q (frame ∷ [])

      frame_is : value_in work.values shape.begin ≡ frame
      frame_is = set_elsewhere (with_value start (slot_name shape) (pointer_at x.block (x.start + shape.index)))
          (index_name shape) shape.begin _ (other 5)
          ∙ set_elsewhere start (slot_name shape) shape.begin _ (other 4)
          ∙ start_frame g h s t r p w part label k
        where
          other : (d : ℕ) → shape.base + d ≡ shape.begin → ⊥
          other d e = apart shape.base d shape.begin k.part_there.begin e
            where
              apart : (a d b : ℕ) → b < a → a + d ≡ b → ⊥
              apart a d b lt e = omega arith

      goes : AreRelated g h going arrived
      goes = counted_related g h going (record arrived { elided = t.elided }) tally.count
          (woken_related g h s t r p w part label k Mode.Resumed (position_of f label) 0 (position_of q label) 0
          work.values settled k.part_there.goes stand length_is frame_is
          (Inside Mode.Resumed refl enters.place) (λ from to e. absurd (cc)) c.piece c.offset c.values c.kept c.long c.begin
          c.waiting c.behind)

      whole : iterate (plain_step h) (calls + 4) t ≡ arrived
      whole = iterate-add (plain_step h) calls 4 t ∙ ap (iterate (plain_step h) 4) comes_in ∙ arrives

      all_still : (i : ℕ) → i < calls + 4 → IsStill (iterate (plain_step h) i t)
      all_still i lt = ⊎_elim (λ l. c.quiet i l) later (cases_lt i calls)
        where
          sums : (i n : ℕ) → n ≤ i → n + (i - n) ≡ i
          sums i n le = omega arith

          less : (i n : ℕ) → n ≤ i → i < n + 4 → i - n < 4
          less i n le lt = omega arith

          later : calls ≤ i → IsStill (iterate (plain_step h) i t)
          later le = subst IsStill (sym (ap (λ (j : ℕ). iterate (plain_step h) j t) (sym (sums i calls le))
              ∙ iterate-add (plain_step h) calls (i - calls) t
              ∙ ap (iterate (plain_step h) (i - calls)) comes_in))
              (quiet_on h entered f (layout_of g.layouts func) part number point x.block x.start at_index
              (i - calls) (less i calls le lt))

      on_way : (i : ℕ) → i < calls + 4 → IsOn g s (iterate (plain_step h) i t)
      on_way i lt = let y = all_still i lt in still_on g h s t r runs y.0 y.1

      still : (i : ℕ) → calls + 4 ≤ i + calls → i < calls + 4
          → (iterate (plain_step h) i t).world.memory ≡ (iterate (plain_step h) (calls + 4) t).world.memory
      still i low lt = ap (λ (v : World). v.memory) (all_still i lt).1
          ∙ sym (ap (λ (y : PlainState). y.world.memory) whole)

      light : (b : Bool) (z : Fetched) → b ≡ true → weight z ≡ 1 → calls + weight z ≤ price_of b z
      light b z e one = subst (λ (y : Bool). calls + weight z ≤ price_of y z) (sym e)
          (subst (λ (n : ℕ). calls + n ≤ 4) (sym one) (four calls few))
        where
          four : (n : ℕ) → n ≤ 3 → n + 1 ≤ 4
          four n le = omega arith

      behind_suspend : is_behind_suspend g going ≡ true
      behind_suspend = ap (is_return_label (suspends_of f)) (ap label_of k.own.got ∙ k.own.is_label)
          ∙ returns_there (suspends_of f) number point label k.saved.numbered.stands (is_edge part point label k.leads)

      has_room : calls + weight (fetched_at g going) ≤ part_price g going
      has_room = light (is_behind_suspend g going) (fetched_at g going) behind_suspend k.own.light

      resumed_no_ramp : (other : Value) → Mode.Resumed ≡ Mode.GivenRamp other → ⊥
      resumed_no_ramp other e = cc

      pub straight_going : IsFollowed g h s t
      straight_going = record {
        steps = calls + 4;
        debt = calls;
        within = within calls;
        short = short calls few;
        few = subst (λ (y : State). calls + 4 + credit_of y ≤ weight (fetched_at g s) + calls + credit_of s)
            (sym is_going) (subst (λ (n : ℕ). calls + 4 + credit_of going ≤ n + calls + credit_of s) (sym heavy)
            (subst (λ (n : ℕ). calls + 4 + n ≤ 4 + calls + left_of_calls (s.top ∷ s.below)) same_credit
            (fits calls (left_of_calls (s.top ∷ s.below)))));
        owed = inr (record {
          room = subst (λ (y : State). calls + weight (fetched_at g y) ≤ part_price g y) (sym is_going) has_room;
          shows = subst (ShowsOn s) (sym is_going) (record { goes = runs; events = refl; allocs = refl });
          still = still;
        });
        goes_on = inl (grows calls);
        passes = on_way;
        related = subst (λ (y : State). AreRelated g h y (iterate (plain_step h) (calls + 4) t)) (sym is_going)
            (subst (AreRelated g h going) (sym whole) goes);
        keeps = λ know. subst (λ (y : State). KnowsGiven g y (iterate (plain_step h) (calls + 4) t)) (sym is_going)
            (subst (KnowsGiven g going) (sym whole) (knows Mode.Resumed resumed_no_ramp work.values know));
      }
        where
          within : (n : ℕ) → n ≤ n + 4
          within n = omega arith

          short : (n : ℕ) → n ≤ 3 → n + 4 ≤ 9
          short n le = omega arith

          fits : (n k : ℕ) → n + 4 + k ≤ 4 + n + k
          fits n k = omega arith

          grows : (n : ℕ) → n < n + 4
          grows n = omega arith

    going_by : Leads shape part f q (position_of f point.block) back label → IsFollowed g h s t
    going_by (Straight straight enters) = straight_going straight enters
    going_by (ThroughDone e through on enters) = absurd (not_end e)

    pub going_followed : IsFollowed g h s t
    going_followed = going_by leads

  -- in both cases
  pub woken_followed : IsFollowed g h s t
  woken_followed = ⊎_elim making_followed (λ le. going_followed (no_alloca count le)) (cases_lt 0 count)
    where
      no_alloca : (n : ℕ) → n ≤ 0 → n ≡ 0
      no_alloca n le = omega arith
