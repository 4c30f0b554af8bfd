-- Behind the last alloca that is made again the part comes in four steps to the block behind the suspend.
use Rattle.std.proofs.Common.{◌≡◌, ℕ, zero, suc, ◌+◌, ◌<◌, ◌≤◌, ◌^◌, inl, inr, Bool, true, List, [], ◌∷◌, length, Some, refl, sym, ap, ◌∙◌, subst, arith}
use Rattle.std.specs.Prelude.{slice_get}
use Rattle.pass_proofs.specs.ir_base.declared.outcome.Outcome.{Outcome}
use Rattle.pass_proofs.specs.ir_model.Layout.{size_of}
use Rattle.pass_proofs.specs.ir_model.Names.{function_at, position_of}
use Rattle.pass_proofs.specs.ir_model.declared.instr.Phi.{Phi}
use Rattle.pass_proofs.specs.ir_model.declared.module.Function.{Function}
use Rattle.pass_proofs.specs.pass_front.Front.{allocas_of}
use Rattle.pass_proofs.specs.pass_intrinsics.Shapes.{back_label, index_name, slot_name, suspends_of}
use Rattle.pass_proofs.specs.pass_intrinsics.declared.shape.Shape.{Shape}
use Rattle.pass_proofs.specs.pass_intrinsics.declared.shape.SuspendPoint.{SuspendPoint}
use Rattle.pass_proofs.specs.pass_split.Parts.{or_zero}
use Rattle.pass_proofs.specs.pass_split.Pieces.{going_on, redirected}
use Rattle.pass_split_proof.proofs.begins.SaveCode.{shape_is}
use Rattle.pass_split_proof.proofs.entering.Again.{here, indexed, old, unlike}
use Rattle.pass_split_proof.proofs.giving.Frames.{block_there}
use Rattle.pass_split_proof.proofs.making.Allocas.{fewer_markers, made, made_too, makes_slot, slot, slot_made}
use Rattle.pass_split_proof.proofs.simulation.Knowing.{turns_knows}
use Rattle.pass_split_proof.proofs.states.Advanced.{all_beside_on, frame_on, same_frames}
use Rattle.pass_split_proof.proofs.states.Twins.{twin_at}
use Rattle.pass_split_proof.proofs.steps.Dispatched.{leads_on, quiet_on}
use Rattle.pass_split_proof.proofs.steps.Followed.{here_on}
use Rattle.pass_split_proof.proofs.steps.Saves.{values_extra}
use Rattle.pass_split_proof.proofs.steps.Slots.{grows, homes_grow, slot_beside, slot_frames, slot_headed, slot_places, stand}
use Rattle.pass_split_proof.proofs.steps.WokenStates.{is_edge, none_entering, returns_there}
use Rattle.pass_split_proof.specs.code.Entry.{GoesBack, HasEntry}
use Rattle.pass_split_proof.specs.entering.Entering.{GoesBehind, IsMakingAgain}
use Rattle.pass_split_proof.specs.places.Places.{Enters, IsPlace, Leads, Straight, ThroughDone, entering}
use Rattle.pass_split_proof.specs.simulation.Followed.{IsFollowed, ShowsOn}
use Rattle.pass_split_proof.specs.simulation.Knowing.{KnowsGiven}
use Rattle.pass_split_proof.specs.states.Activations.{HasFrame, Inside, RunsPart}
use Rattle.pass_split_proof.specs.states.Going.{stands_at}
use Rattle.pass_split_proof.specs.states.Instances.{index_length, part_position, shape_at}
use Rattle.pass_split_proof.specs.states.Memories.{homes_of}
use Rattle.pass_split_proof.specs.states.Related.{AreHeadersKept, AreRelated, IsOn, credit_of, fetched_at, is_behind_suspend, is_return_label, left_of_call, left_of_calls, part_price, price_of, weight}
use Rattle.pass_split_proof.specs.states.Values.{AreValuesOf}
use Rattle.pass_split_proof.specs.steps.Dispatch.{IsAtIndex, indexed_work}
use Rattle.pass_proofs.specs.run_agreement.Machines.{IsFine, iterate}
use Rattle.pass_proofs.specs.run_framed.Framed.{FramedGiven, alloca_from, enter_after, framed_slot, framed_step, layout_of}
use Rattle.pass_proofs.proofs.run_laws.memory.Written.{same_some}
use Rattle.pass_proofs.proofs.run_laws.transfer.Sets.{set_elsewhere, set_length}
use Rattle.pass_proofs.specs.run_laws.access.Lines.{Holds, pointer_at}
use Rattle.pass_proofs.specs.run_memory.Memory.{digits, owner_rights}
use Rattle.pass_proofs.specs.run_memory.declared.pointer.Value.{Value}
use Rattle.run_access_worked.specs.run_plain.Plain.{PlainGiven, plain_go_to, plain_settled, plain_slot, plain_step, plain_work}
use Rattle.run_access_worked.specs.run_plain.declared.state.PlainState.{PlainState}
use Rattle.pass_proofs.specs.run_source.State.{frame_address_of, function_of, settled, with_slots}
use Rattle.pass_proofs.specs.run_source.declared.state.Instance.{Instance}
use Rattle.pass_proofs.specs.run_source.declared.state.Mode.{Mode}
use Rattle.pass_proofs.specs.run_source.declared.state.State.{State}
use Rattle.pass_proofs.specs.run_step.Step.{Fetched, Work, alloca_kind, fetch, has_markers, label_of, phi_values, phis_of, with_all}
use Rattle.pass_proofs.specs.run_step.Values.{pointer_to, value_in, with_value}
use Rattle.pass_proofs.specs.run_step.declared.world.Slot.{Slot}
use Rattle.pass_proofs.specs.run_step.declared.world.World.{World}
use Rattle.pass_split_proof.proofs.states.Headers.{headers_all}

module _ (g : FramedGiven) (h : PlainGiven) (s : State) (t : PlainState) (r : AreRelated g h s t)
    (runs : s.outcome ≡ Outcome.Running) (fine : IsFine (framed_step g s).outcome) (from label : ℕ)
    (k : IsMakingAgain g h s t r from label) (b : GoesBehind g h s t r label)
    (last : s.top.at + 1 ≡ length (allocas_of (function_of g.given s).blocks)) where
  abbrev f : Function
  f = function_of g.given s

  abbrev q : Function
  q = function_at h.code t.top.func

  abbrev size : ℕ
  size = size_of g.given.code k.alloca.ty

  abbrev marked : Bool
  marked = has_markers f k.alloca.name

  abbrev too : Bool
  too = has_markers q k.alloca.name

  less : has_markers q k.alloca.name ≡ true → has_markers f k.alloca.name ≡ true
  less = fewer_markers g h s t r runs fine k.alloca

  abbrev work : Work
  work = made g h s t r runs fine k.alloca

  abbrev work_too : Work
  work_too = made_too g h s t r runs fine k.alloca

  abbrev new : Slot
  new = slot g h s t r runs fine k.alloca

  abbrev shape : Shape
  shape = shape_at g s.top.func

  abbrev z : State
  z = with_slots (settled s work) (new ∷ s.top.slots)

  -- the part behind its alloca
  abbrev w : PlainState
  w = plain_slot (plain_settled t work_too) new

  makes : plain_step h t ≡ w
  makes = makes_slot g h s t r runs fine k.alloca (here g h s t r runs fine from label k)

  abbrev x : Instance
  x = (old g h s t r runs fine from label k).frame

  abbrev number : ℕ
  number = (old g h s t r runs fine from label k).number

  abbrev point : SuspendPoint
  point = (old g h s t r runs fine from label k).point

  same_shape : r.top.shape ≡ shape
  same_shape = shape_is g s.top.func f r.top.shape r.top.shaped b.part_there.coroutine

  -- ---- the framed run

  no_phis : phis_of (slice_get f.blocks (position_of f label)) ≡ []
  no_phis = ap phis_of b.own.got ∙ b.own.no_phis

  abbrev going : State
  going = record z {
    top = record z.top { block = position_of f label; at = 0; mode = Mode.Resumed };
  }

  is_going : framed_step g s ≡ going
  is_going = slot_made g h s t r runs fine k.alloca ∙ ap (framed_slot g (settled s work) new) k.mode
      ∙ ap (enter_after g z from label) (ap (alloca_from f) last ∙ k.front.none)
      ∙ ap (λ (ps : List Phi). record going {
        top = record going.top {
          values = with_all z.top.values (phi_values g.given.code z.top.values (label_of (slice_get f.blocks from)) ps);
        };
      }) no_phis

  -- ---- the part's code

  at_part : part_position g s.top.func r.top.part ≡ t.top.func
  at_part = sym r.top.func

  entry : HasEntry shape r.top.part f q
  entry = subst (λ (n : ℕ). HasEntry shape r.top.part f (function_at h.code n)) at_part b.part_there.entry

  has : HasFrame s.instances s.top.func (value_in t.top.values r.top.shape.begin)
      (old g h s t r runs fine from label k).own
  has = r.top.frame (old g h s t r runs fine from label k).own (old g h s t r runs fine from label k).is_own

  same : has.instance ≡ x
  same = same_some has.instance x (sym has.there ∙ (old g h s t r runs fine from label k).there)

  mine : x.coroutine ≡ s.top.func
  mine = ap (λ (y : Instance). y.coroutine) (sym same) ∙ has.coroutine

  start_within : x.start + (layout_of g.layouts s.top.func).index < 2 ^ 64
  start_within =
      let o = old g h s t r runs fine from label k in
      let y = block_there s.world.memory x.block (r.frames.laid.known o.own o.frame o.there) in
      below x.start (layout_of g.layouts s.top.func).index _ (layout_of g.layouts s.top.func).size y.0.size b.laid.index
      (subst (λ (n : ℕ). x.start + (layout_of g.layouts n).size ≤ y.0.size) mine
      (r.frames.laid.lies o.own o.frame y.0 o.there y.1).inside)
      (twin_at s.world.memory t.world.memory r.world.memory.twins x.block y.0 y.1).is.small
    where
      below : (a c l d e : ℕ) → c + l ≤ d → a + d ≤ e → e < 2 ^ 64 → a + c < 2 ^ 64
      below a c l d e le inside small = omega arith

  -- the name of the frame has its address still
  frame_there : value_in w.top.values shape.begin ≡ pointer_at x.block x.start
  frame_there = set_elsewhere t.top.values k.alloca.name shape.begin (pointer_to (length t.world.memory))
      (λ e. k.alloca.others (e ∙ ap (λ (y : Shape). y.begin) (sym same_shape)))
      ∙ ap (λ (y : Shape). value_in t.top.values y.begin) (sym same_shape) ∙ has.is ∙ ap frame_address_of same

  room : length w.top.values ≡ length q.names
  room = set_length t.top.values k.alloca.name (pointer_to (length t.world.memory)) ∙ r.top.room

  is_suspend : slice_get shape.suspends number ≡ Some point
  is_suspend = subst (λ (y : Shape). slice_get y.suspends number ≡ Some point) same_shape
      (old g h s t r runs fine from label k).is

  at_index : IsAtIndex h w f (layout_of g.layouts s.top.func) r.top.part number point x.block x.start
  at_index = record {
    running = r.outcome ∙ runs;
    small = b.part_there.small;
    entry = entry;
    block_is = k.piece;
    at_is = ap (λ (n : ℕ). n + 1) k.at ∙ last;
    there = is_suspend;
    entered = (old g h s t r runs fine from label k).entered;
    frame = frame_there;
    index = subst (λ (n : ℕ). Holds owner_rights w.world.memory x.block (x.start + (layout_of g.layouts n).index)
        (index_length g n) (digits (index_length g n) number)) mine
        (indexed g h s t r runs fine from label k).holds;
    within = start_within;
    begin = b.part_there.begin;
    slot_room = subst (λ (n : ℕ). slot_name shape < n) (sym room) entry.slot;
    index_room = subst (λ (n : ℕ). index_name shape < n) (sym room) entry.index;
  }

  goes_back : GoesBack shape r.top.part f q number point
  goes_back = entry.entered number point is_suspend (old g h s t r runs fine from label k).entered

  is_label : or_zero (going_on r.top.part (Some point)) ≡ label
  is_label = ap or_zero (old g h s t r runs fine from label k).leads

  abbrev back : ℕ
  back = position_of q (back_label shape number)

  leads : Leads shape r.top.part f q (position_of f point.block) back label
  leads = subst (Leads shape r.top.part f q (position_of f point.block) back) is_label goes_back.leads

  not_end : label ≡ shape.end → ⊥
  not_end e = b.own.no_end b.ends.first (ap (λ (l : ℕ). fetch f (position_of f l) 0) e ∙ b.ends.here) b.ends.ends

  abbrev after : Work
  after = indexed_work shape (plain_work w) x.block x.start number

  module _ (straight : redirected shape label ≡ label)
      (enters : Enters shape r.top.part f q (position_of f point.block) back label) where
    no_phis_there : phis_of (slice_get q.blocks (position_of q label)) ≡ []
    no_phis_there = none_entering (label_of (slice_get q.blocks back)) (phis_of (slice_get q.blocks
        (position_of q label))) (enters.phis
        ∙ ap (entering (label_of (slice_get f.blocks (position_of f point.block)))) no_phis)

    abbrev arrived : PlainState
    arrived = record w {
      top = record w.top { block = position_of q label; at = 0; values = after.values };
    }

    arrives : iterate (plain_step h) 4 w ≡ arrived
    arrives = leads_on h w f (layout_of g.layouts s.top.func) r.top.part number point x.block x.start at_index
        ∙ ap (plain_go_to h (stands_at w back 0 after)) (ap (redirected shape) is_label ∙ straight)
        ∙ ap (λ (ps : List Phi). record arrived {
          top = record arrived.top {
            values = with_all after.values (phi_values h.code after.values (label_of (slice_get q.blocks back)) ps);
          };
        }) no_phis_there

    whole_now : length z.top.values ≡ length f.names
    whole_now = set_length s.top.values k.alloca.name (pointer_to (length s.world.memory)) ∙ r.top.whole

    low_by : (d : ℕ) → length z.top.values ≤ shape.base + d
    low_by d = subst (λ (n : ℕ). n ≤ shape.base + d) (sym whole_now) (more (length f.names) d)
      where
        more : (n d : ℕ) → n ≤ n + d
        more n d = omega arith

    values : AreValuesOf f (homes_of work.world.memory) z.top.values after.values
    values = values_extra f (homes_of work.world.memory) z.top.values
        (with_value w.top.values (slot_name shape) (pointer_at x.block (x.start + shape.index))) (index_name shape) _
        (low_by 5)
        (values_extra f (homes_of work.world.memory) z.top.values w.top.values (slot_name shape) _ (low_by 4)
        (stand g h s t r (Some k.alloca.name) size k.alloca.align (alloca_kind f) marked too s.world.allocs))

    room_now : length after.values ≡ length q.names
    room_now = set_length (with_value w.top.values (slot_name shape) (pointer_at x.block (x.start + shape.index)))
        (index_name shape) _ ∙ set_length w.top.values (slot_name shape) _ ∙ room

    -- the name of the frame is none of those that were set
    begin_now : value_in after.values r.top.shape.begin ≡ value_in t.top.values r.top.shape.begin
    begin_now = set_elsewhere (with_value w.top.values (slot_name shape) (pointer_at x.block (x.start + shape.index)))
        (index_name shape) r.top.shape.begin _ (other 5)
        ∙ set_elsewhere w.top.values (slot_name shape) r.top.shape.begin _ (other 4)
        ∙ set_elsewhere t.top.values k.alloca.name r.top.shape.begin (pointer_to (length t.world.memory))
        k.alloca.others
      where
        other : (d : ℕ) → shape.base + d ≡ r.top.shape.begin → ⊥
        other d e = apart shape.base d shape.begin b.part_there.begin
            (e ∙ ap (λ (y : Shape). y.begin) same_shape)
          where
            apart : (a d c : ℕ) → c < a → a + d ≡ c → ⊥
            apart a d c lt e = omega arith

    related : AreRelated g h going arrived
    related = record {
      outcome = r.outcome;
      globals = chain (length g.given.code.globals) (length s.world.memory) (length work.world.memory) r.globals
          (grows g h s t r (Some k.alloca.name) size k.alloca.align (alloca_kind f) marked too s.world.allocs);
      world = record {
        memory = slot_beside g s.instances s.world.memory t.world.memory size k.alloca.align (alloca_kind f)
            k.alloca.small (unlike g h s t r runs fine from label k) r.world.memory.twins.long marked too
            less r.frames r.world.memory;
        events = r.world.events;
        answers = r.world.answers;
        allocs = refl;
      };
      frames = slot_frames g s.instances s.world.memory t.world.memory size k.alloca.align (alloca_kind f)
          k.alloca.small (unlike g h s t r runs fine from label k) r.world.memory.twins.long marked too
          less r.frames;
      top = record {
        shape = r.top.shape;
        part = r.top.part;
        coded = r.top.coded;
        shaped = r.top.shaped;
        runs = subst (λ (m : Mode). RunsPart m r.top.part) k.mode r.top.runs;
        func = r.top.func;
        place = Inside Mode.Resumed refl (subst (λ (y : Shape). IsPlace y r.top.part f q (position_of f label) 0
            (position_of q label) 0) (sym same_shape) enters.place);
        values = values;
        whole = whole_now;
        room = room_now;
        frame = λ j own. frame_on s.instances s.instances s.top.func j _ _ (same_frames s.instances) begin_now
            (r.top.frame j own);
        result = r.top.result;
        slots = ap (λ (rest : List Slot). new ∷ rest) r.top.slots;
        own = λ c. (k.alloca.among (length s.world.memory) c, r.top.own c);
      };
      below = all_beside_on g h.code s.instances s.instances (homes_of s.world.memory) (homes_of work.world.memory)
          (homes_grow g h s t r (Some k.alloca.name) size k.alloca.align (alloca_kind f) marked too s.world.allocs)
          (same_frames s.instances) s.top.result s.below t.below r.below;
      making = λ a c e. absurd (cc);
    }
      where
        chain : (a b c : ℕ) → a ≤ b → b ≤ c → a ≤ c
        chain a b c p q = omega arith

    no_ramp : (frame : Value) → Mode.Resumed ≡ Mode.GivenRamp frame → ⊥
    no_ramp frame e = cc

    knows : KnowsGiven g s t → KnowsGiven g going arrived
    knows = turns_knows g s t s.instances work.world.memory after.values
        (homes_grow g h s t r (Some k.alloca.name) size k.alloca.align (alloca_kind f) marked too s.world.allocs)
        (slot_places g h s t r (Some k.alloca.name) size k.alloca.align (alloca_kind f) marked too s.world.allocs)
        Mode.Resumed no_ramp

    -- ---- the account

    -- headers stand with the slot's block too
    headers : AreHeadersKept g s w.world.memory
    headers = headers_all g s w.world.memory (slot_headed g s.instances s.world.memory t.world.memory size
        k.alloca.align
        (alloca_kind f) k.alloca.small (unlike g h s t r runs fine from label k) r.world.memory.twins.long marked too
        less r.frames)

    on_quiet : (i : ℕ) → i < 4 → IsOn g s (iterate (plain_step h) i w)
    on_quiet i lt = let y = quiet_on h w f (layout_of g.layouts s.top.func) r.top.part number point x.block x.start
        at_index i lt in record {
          goes = runs;
          running = y.0;
          events = ap (λ (v : World). v.events) y.1 ∙ r.world.events;
          allocs = ap (λ (v : World). v.allocs) y.1;
          headers = subst (λ (v : World). AreHeadersKept g s v.memory) (sym y.1) headers;
        }

    -- the last four change no memory
    still : (i : ℕ) → 5 ≤ i + 1 → i < 5
        → (iterate (plain_step h) i t).world.memory ≡ (iterate (plain_step h) 5 t).world.memory
    still zero low lt = absurd (none low)
      where
        none : 5 ≤ 0 + 1 → ⊥
        none low = omega arith
    still (suc i) low lt = ap (λ (y : PlainState). y.world.memory) (ap (iterate (plain_step h) i) makes)
        ∙ ap (λ (v : World). v.memory) (quiet_on h w f (layout_of g.layouts s.top.func) r.top.part number point x.block
        x.start at_index i (less i lt)).1
        ∙ sym (ap (λ (y : PlainState). y.world.memory) (ap (iterate (plain_step h) 4) makes ∙ arrives))
      where
        less : (i : ℕ) → suc i < 5 → i < 4
        less i lt = omega arith

    on_way : (i : ℕ) → i < 5 → IsOn g s (iterate (plain_step h) i t)
    on_way zero lt = here_on g h s t r runs
    on_way (suc i) lt = subst (IsOn g s) (sym (ap (iterate (plain_step h) i) makes)) (on_quiet i (less i lt))
      where
        less : (i : ℕ) → suc i < 5 → i < 4
        less i lt = omega arith

    behind_suspend : is_behind_suspend g going ≡ true
    behind_suspend = ap (is_return_label (suspends_of f)) (ap label_of b.own.got ∙ b.own.is_label)
        ∙ returns_there (suspends_of f) number point label is_suspend
        (is_edge r.top.part point label (old g h s t r runs fine from label k).leads)

    light : (t : Bool) (z : Fetched) → t ≡ true → weight z ≡ 1 → 1 + weight z ≤ price_of t z
    light t z e one = subst (λ (y : Bool). 1 + weight z ≤ price_of y z) (sym e)
        (subst (λ (n : ℕ). 1 + n ≤ 4) (sym one) (omega arith))

    has_room : 1 + weight (fetched_at g going) ≤ part_price g going
    has_room = light (is_behind_suspend g going) (fetched_at g going) behind_suspend b.own.light

    straight_followed : IsFollowed g h s t
    straight_followed = record {
      steps = 5;
      debt = 1;
      within = omega arith;
      short = omega arith;
      few = subst (λ (y : State). 5 + credit_of y ≤ weight (fetched_at g s) + 1 + credit_of s) (sym is_going)
          (subst (λ (y : Fetched). 5 + (0 + left_of_calls s.below) ≤ weight y + 1 + credit_of s) (sym k.alloca.there)
          (fits (left_of_call s.top) (left_of_calls s.below)));
      owed = inr (record {
        room = subst (λ (y : State). 1 + weight (fetched_at g y) ≤ part_price g y) (sym is_going) has_room;
        shows = subst (ShowsOn s) (sym is_going) (record { goes = runs; events = refl; allocs = refl });
        still = still;
      });
      goes_on = inl (omega arith);
      passes = on_way;
      related = subst (λ (y : State). AreRelated g h y (iterate (plain_step h) 5 t)) (sym is_going)
          (subst (AreRelated g h going) (sym (ap (iterate (plain_step h) 4) makes ∙ arrives)) related);
      keeps = λ know. subst (λ (y : State). KnowsGiven g y (iterate (plain_step h) 5 t)) (sym is_going)
          (subst (KnowsGiven g going) (sym (ap (iterate (plain_step h) 4) makes ∙ arrives)) (knows know));
    }
      where
        fits : (a n : ℕ) → 5 + (0 + n) ≤ 4 + 1 + (a + n)
        fits a n = omega arith

  by : Leads shape r.top.part f q (position_of f point.block) back label → IsFollowed g h s t
  by (Straight straight enters) = straight_followed straight enters
  by (ThroughDone e through on enters) = absurd (not_end e)

  pub last_followed : IsFollowed g h s t
  last_followed = by leads
