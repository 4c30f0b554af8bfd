-- A begin of a ramp that was given its frame is followed in its part, in five steps.
use Rattle.std.proofs.Common.{◌≡◌, ℕ, ◌+◌, ◌<◌, ◌≤◌, ◌^◌, true, false, List, length, Option, Some, refl, sym, ap, ◌∙◌, subst, arith, if◌then◌else◌}
use Rattle.std.specs.Prelude.{is_none, pos, slice_get, ◌&&◌}
use Rattle.std.proofs.lemmas.Option.{slice_get_within}
use Rattle.pass_proofs.specs.ir_base.declared.outcome.Outcome.{Outcome}
use Rattle.pass_proofs.specs.ir_model.Ty.{ptr}
use Rattle.pass_proofs.specs.ir_model.declared.instr.Instr.{Instr}
use Rattle.pass_proofs.specs.ir_model.declared.instr.Terminator.{Terminator}
use Rattle.pass_proofs.specs.ir_model.declared.module.Function.{Function}
use Rattle.pass_proofs.specs.ir_model.declared.operand.Callee.{Callee}
use Rattle.pass_proofs.specs.ir_model.declared.operand.Intrinsic.{Intrinsic}
use Rattle.pass_proofs.specs.ir_model.declared.operand.Operand.{Operand}
use Rattle.pass_proofs.specs.pass_intrinsics.Lowered.{address, begin_stores, destroyed_by, lowered}
use Rattle.pass_proofs.specs.pass_intrinsics.Shapes.{begun_label, given_name}
use Rattle.pass_proofs.specs.pass_intrinsics.declared.shape.Part.{Part}
use Rattle.pass_proofs.specs.pass_intrinsics.declared.shape.Shape.{Shape}
use Rattle.pass_proofs.specs.pass_split.Pieces.{begins_again}
use Rattle.pass_split_proof.proofs.begins.Calm.{IsQuiet, line_quiet}
use Rattle.pass_split_proof.proofs.begins.SaveCode.{IsMarked, marked, shape_is}
use Rattle.pass_split_proof.proofs.given_begins.Owners.{held_same, owner_beside, owner_frames}
use Rattle.pass_split_proof.proofs.given_begins.States.{given_begin_related, given_begin_steps, line_keeping, line_runs}
use Rattle.pass_split_proof.proofs.given_begins.Within.{has_begun_within}
use Rattle.pass_split_proof.proofs.simulation.Knowing.{more_calls, more_know, new_kept, newest_knows, same_extends}
use Rattle.pass_split_proof.proofs.states.SameKind.{given_kept}
use Rattle.pass_split_proof.proofs.states.OwnHomes.{own_pointer}
use Rattle.pass_split_proof.proofs.states.Twins.{twin_at}
use Rattle.pass_split_proof.proofs.states.Written.{length-changed}
use Rattle.pass_split_proof.proofs.steps.Followed.{framed_does, many_followed}
use Rattle.pass_split_proof.specs.given_begins.Beginning.{BeginsWithin, HasBegunWithin, InBlock, InField, IsAtGivenBegin}
use Rattle.pass_split_proof.specs.given_begins.Room.{HasRoom, IsBegun}
use Rattle.pass_split_proof.specs.places.Places.{Remain}
use Rattle.pass_split_proof.specs.simulation.Followed.{IsFollowed}
use Rattle.pass_split_proof.specs.simulation.Knowing.{KnowsGiven}
use Rattle.pass_split_proof.specs.states.Activations.{RunsPart, is_entering}
use Rattle.pass_split_proof.specs.code.Positions.{is_given}
use Rattle.pass_split_proof.specs.states.Going.{stands_at}
use Rattle.pass_split_proof.specs.states.Instances.{AreFrames, StandsThere, address_of_part, destroyer_of, is_given_in, is_held, shape_at}
use Rattle.pass_split_proof.specs.states.Memories.{AreBeside, homes_of}
use Rattle.pass_split_proof.specs.states.Related.{AreHeadersKept, AreRelated, IsOn, credit_of, is_ramp, left_of_call, left_of_calls, weight}
use Rattle.pass_split_proof.specs.steps.Begins.{HasBeginCode, begun_to}
use Rattle.pass_proofs.specs.run_agreement.Machines.{IsFine, iterate}
use Rattle.pass_proofs.specs.run_framed.Framed.{FramedGiven, framed_begin, framed_step, layout_of}
use Rattle.pass_proofs.specs.run_laws.access.Lines.{pointer_at}
use Rattle.pass_proofs.specs.run_laws.changed.Changed.{Each}
use Rattle.pass_proofs.proofs.run_laws.memory.Homes.{value_on}
use Rattle.pass_proofs.specs.run_laws.memory.Pointers.{Extends, IsValue}
use Rattle.pass_proofs.specs.run_memory.Memory.{owned_to}
use Rattle.pass_proofs.specs.run_memory.Pointers.{offset_of}
use Rattle.pass_proofs.specs.run_memory.declared.block.Kind.{Kind}
use Rattle.pass_proofs.specs.run_memory.declared.block.MemoryBlock.{MemoryBlock}
use Rattle.pass_proofs.specs.run_memory.declared.pointer.Pointer.{Pointer}
use Rattle.pass_proofs.specs.run_memory.declared.pointer.Value.{Value}
use Rattle.run_access_worked.specs.run_plain.Plain.{PlainGiven, plain_context, plain_function, plain_step, plain_work}
use Rattle.run_access_worked.specs.run_plain.declared.state.PlainState.{PlainState}
use Rattle.pass_proofs.specs.run_source.Source.{is_among, new_instance}
use Rattle.pass_proofs.specs.run_source.State.{function_of, or_undefined, own_facts, own_frame}
use Rattle.pass_proofs.specs.run_source.declared.state.Instance.{Instance}
use Rattle.pass_proofs.specs.run_source.declared.state.Mode.{Mode}
use Rattle.pass_proofs.specs.run_source.declared.state.State.{State}
use Rattle.pass_proofs.specs.run_step.Step.{AtInstr, Coro, Fetched, value_at}
use Rattle.pass_proofs.specs.run_step.Values.{Env, address_of, arg_values, nth, value_in, with_value}
use Rattle.pass_proofs.specs.run_step.declared.world.Slot.{Slot}
use Rattle.pass_split_proof.proofs.states.Headers.{headers_all}
use Rattle.pass_split_proof.proofs.steps.Through.{line_through}

-- what the begin makes of the memory keeps what there is
module _ (g : FramedGiven) (s : State) (n : List MemoryBlock) (block start : ℕ) where
  pub same_many : (after : List MemoryBlock) → BeginsWithin g s block start after
      → length after ≡ length s.world.memory
  same_many after (InBlock u zero there given is) = ap length is
      ∙ length-changed s.world.memory block (owned_to (own_frame g.given s).size)
  same_many after (InField room live is) = ap length is

  no_allocator : (k : Kind) → k ≡ Kind.Stack → k ≡ Kind.Allocator → ⊥
  no_allocator k e f = absurd (other (sym e ∙ f))
    where
      other : Kind.Stack ≡ Kind.Allocator → ⊥
      other h = cc

  pub within_held : (after : List MemoryBlock) → BeginsWithin g s block start after → (z : Instance)
      → is_held after z ≡ is_held s.world.memory z
  within_held after (InBlock u zero there given is) z = ap (λ (m : List MemoryBlock). is_held m z) is
      ∙ held_same g s.instances s.world.memory n block (owned_to (own_frame g.given s).size) (λ y. refl) u there
      (no_allocator u.kind given.kind) z
  within_held after (InField room live is) z = ap (λ (m : List MemoryBlock). is_held m z) is

  pub within_frames : (after : List MemoryBlock) → BeginsWithin g s block start after
      → AreFrames g s.instances s.world.memory n → AreFrames g s.instances after n
  within_frames after (InBlock u zero there given is) frames = subst (λ (m : List MemoryBlock).
      AreFrames g s.instances m n) (sym is)
      (owner_frames g s.instances s.world.memory n block (owned_to (own_frame g.given s).size) (λ y. refl) u there
      (no_allocator u.kind given.kind) frames)
  within_frames after (InField room live is) frames = subst (λ (m : List MemoryBlock). AreFrames g s.instances m n)
      (sym is) frames

  pub within_beside : (after : List MemoryBlock) → BeginsWithin g s block start after
      → AreFrames g s.instances s.world.memory n → AreBeside g s.instances s.world.memory n
      → AreBeside g s.instances after n
  within_beside after (InBlock u zero there given is) frames beside = subst (λ (m : List MemoryBlock).
      AreBeside g s.instances m n) (sym is)
      (owner_beside g s.instances s.world.memory n block (owned_to (own_frame g.given s).size) (λ y. refl) u there
      (no_allocator u.kind given.kind) beside frames.laid)
  within_beside after (InField room live is) frames beside = subst (λ (m : List MemoryBlock).
      AreBeside g s.instances m n) (sym is) beside

module _ (g : FramedGiven) (h : PlainGiven) (s : State) (t : PlainState) (r : AreRelated g h s t)
    (goes : s.outcome ≡ Outcome.Running) (fine : IsFine (framed_step g s).outcome) (k : IsAtGivenBegin g h s t r) where
  abbrev f : Function
  f = function_of g.given s

  abbrev q : Function
  q = plain_function h t

  abbrev i : Instr
  i = Instr.Call (Some r.top.shape.begin) k.must_tail k.ty (Callee.Intrinsic Intrinsic.CoroBegin) k.args

  settled : is_entering s.top.mode ≡ false
  settled = ap is_entering k.mode

  -- it is the ramp that is given its frame
  part_is : r.top.part ≡ Part.GivenRamp
  part_is = by s.top.mode k.mode r.top.runs
    where
      by : (mode : Mode) → mode ≡ Mode.GivenRamp k.frame → RunsPart mode r.top.part → r.top.part ≡ Part.GivenRamp
      by (Mode.GivenRamp frame) e x = x
      by Mode.Ramp e x = absurd (cc)
      by Mode.Plain e x = absurd (cc)
      by Mode.Resumed e x = absurd (cc)
      by (Mode.Entering from label) e x = absurd (cc)

  -- ---- the framed run

  own_slots : Each (λ (x : Slot). is_among (own_facts g.given s).ramp_slots x ≡ true) s.top.slots
  own_slots = subst (λ (ramp : List ℕ). Each (λ (x : Slot). is_among ramp x ≡ true) s.top.slots) (sym k.slots)
      (r.top.own k.coroutine)

  pub begun : HasBegunWithin g s r.top.shape.begin k.frame
  begun = has_begun_within g s r.top.shape.begin k.frame fine
      (framed_does g s (AtInstr i) (Coro Intrinsic.CoroBegin k.args (Some r.top.shape.begin)) goes
      k.there refl refl
      ∙ ap (λ (m : Mode). or_undefined g.given s (framed_begin g s (Some r.top.shape.begin)
      (nth (arg_values g.given.code s.top.values k.args) 1) m)) k.mode) own_slots

  abbrev pub x : Instance
  x = new_instance s.top.func begun.block begun.start

  new : IsBegun x
  new = record { slots = refl; runs = refl; unfreed = refl }

  module _ (room : HasRoom g s.instances x begun.after t.world.memory) where
    abbrev frames : AreFrames g s.instances begun.after t.world.memory
    frames = within_frames g s t.world.memory begun.block begun.start begun.after begun.within r.frames

    abbrev beside : AreBeside g s.instances begun.after t.world.memory
    beside = within_beside g s t.world.memory begun.block begun.start begun.after begun.within r.frames r.world.memory

    many : length begun.after ≡ length s.world.memory
    many = same_many g s t.world.memory begun.block begun.start begun.after begun.within

    known : begun.block < length s.world.memory
    known = subst (λ (n : ℕ). begun.block < n) many (slice_get_within begun.after begun.block room.block room.there)

    small : begun.start + 16 < 2 ^ 64
    small = below begun.start (layout_of g.layouts s.top.func).index (layout_of g.layouts s.top.func).size room.block.size
        _ k.laid.behind k.laid.index room.lies.inside
        (twin_at begun.after t.world.memory beside.twins begun.block room.block room.there).is.small
      where
        below : (a b l n w : ℕ) → 16 ≤ b → b + w ≤ l → a + l ≤ n → n < 2 ^ 64 → a + 16 < 2 ^ 64
        below a b l n w from to le lt = omega arith

    -- ---- the code

    same_shape : r.top.shape ≡ shape_at g s.top.func
    same_shape = shape_is g s.top.func f r.top.shape r.top.shaped k.coroutine

    code : IsMarked r.top.shape r.top.part f q s.top.block s.top.at t.top.block t.top.at i
    code = marked r.top.shape r.top.part f q s.top.block s.top.at t.top.block t.top.at i (begun_label r.top.shape)
        (subst (λ (p : Part). begins_again p i ≡ false) (sym part_is) refl) (λ after. refl) k.place k.there

    abbrev memory : Operand
    memory = Operand.Local (given_name (shape_at g s.top.func))

    has_code : HasBeginCode g h s t r memory
    has_code = record {
      same = same_shape;
      name = code.name;
      new = subst (λ (n : ℕ). n ≤ code.name) (sym r.top.whole) code.new.low;
      room = more code.name (length q.names) (length t.top.values) code.new.high (sym r.top.room);
      begin = subst (λ (n : ℕ). (shape_at g s.top.func).begin < n) (sym r.top.whole)
          (subst (λ (z : Shape). z.begin < length f.names) same_shape k.begin);
      mark = code.mark;
      stands = subst (λ (z : Shape). Remain q t.top.block t.top.at (begin_stores z r.top.part code.name
          (Operand.Local (given_name z))) (Terminator.Jump code.mark)) same_shape
          (subst (λ (p : Part). Remain q t.top.block t.top.at (begin_stores r.top.shape p code.name
          (Operand.Local (given_name r.top.shape))) (Terminator.Jump code.mark)) (sym part_is)
          (subst (λ (p : Part). Remain q t.top.block t.top.at (lowered r.top.shape p code.name i)
          (Terminator.Jump code.mark)) part_is code.stands));
      bare = code.bare;
      place = code.place;
      resumes = subst (λ (z : Shape). address_of h.code z.resume_name ≡ address_of_part g s.top.func Part.Resume)
          same_shape k.resumes;
      destroys = subst (λ (p : Part). address_of h.code (destroyed_by (shape_at g s.top.func) p) ≡ address_of_part g
          s.top.func (destroyer_of p)) (sym part_is)
          (subst (λ (z : Shape). address_of h.code z.cleanup_name ≡ address_of_part g s.top.func Part.Cleanup) same_shape
          k.destroys);
      standing = subst (λ (p : Part). StandsThere g s.top.func (destroyer_of p)) (sym part_is)
          (λ e. k.stands);
    }
      where
        more : (n a b : ℕ) → n + 1 ≤ a → a ≡ b → n < b
        more n a b le e = omega (arith, le, e)

    -- ---- the address that the part was given

    stands : IsValue (homes_of s.world.memory) (pointer_at begun.block begun.start)
        (value_in t.top.values (given_name (shape_at g s.top.func)))
    stands = subst (λ (z : Shape). IsValue (homes_of s.world.memory) (pointer_at begun.block begun.start)
        (value_in t.top.values (given_name z))) same_shape
        (subst (λ (v : Value). IsValue (homes_of s.world.memory) v (value_in t.top.values (given_name r.top.shape)))
        begun.leads k.given)

    leads : value_at (plain_context h t) (plain_work t) ptr memory ≡ pointer_at begun.block begun.start
    leads = stands.1 ∙ ap (λ (p : Pointer). Value.Ptr p) (own_pointer (length s.world.memory) begun.block
        (offset_of begun.start) known (low begun.start small))
      where
        low : (n : ℕ) → n + 16 < 2 ^ 64 → n < 2 ^ 64
        low n lt = omega arith

    -- a destroy is to call the part for frames that were given
    right : is_given (destroyer_of r.top.part) ≡ true
    right = ap (λ (p : Part). is_given (destroyer_of p)) part_is

    -- frames are there as they were
    same_held : (z : Instance) → is_held begun.after z ≡ is_held s.world.memory z
    same_held = within_held g s t.world.memory begun.block begun.start begun.after begun.within

    -- ---- both runs

    abbrev at_start : Value
    at_start = pointer_at begun.block begun.start

    abbrev u : State
    u = begun_to s x begun.after (with_value s.top.values r.top.shape.begin at_start)

    abbrev w : State
    w = begun_to s x begun.after (with_value s.top.values (shape_at g s.top.func).begin at_start)

    same_state : u ≡ w
    same_state = ap (λ (z : Shape). begun_to s x begun.after (with_value s.top.values z.begin at_start)) same_shape

    related : AreRelated g h u (iterate (plain_step h) 5 t)
    related = subst (λ (z : State). AreRelated g h z (iterate (plain_step h) 5 t)) (sym same_state)
        (subst (AreRelated g h w)
        (sym (given_begin_steps g h s t r memory has_code x begun.after refl many frames beside room k.laid new known small
        leads right same_held (r.outcome ∙ goes)))
        (given_begin_related g h s t r memory has_code x begun.after refl many frames beside room k.laid new known small
        leads right same_held settled))

    -- ---- what is known of frames that callers give

    kinds : (c : ℕ) (z : Instance)
        → is_given_in (slice_get begun.after c) z ≡ is_given_in (slice_get s.world.memory c) z
    kinds c z = by begun.after begun.within
      where
        by : (after : List MemoryBlock) → BeginsWithin g s begun.block begun.start after
            → is_given_in (slice_get after c) z ≡ is_given_in (slice_get s.world.memory c) z
        by after (InBlock b zero there given is) = ap (λ (m : List MemoryBlock). is_given_in (slice_get m c) z) is
            ∙ given_kept (owned_to (own_frame g.given s).size) (λ y. refl) s.world.memory begun.block c z
        by after (InField fits live is) = ap (λ (m : List MemoryBlock). is_given_in (slice_get m c) z) is

    ext : Extends (homes_of s.world.memory) (homes_of begun.after)
    ext = same_extends s.world.memory begun.after many

    abbrev at_second : Value
    at_second = pointer_at begun.block (begun.start + 8)

    abbrev with_frame : Env
    with_frame = with_value t.top.values (shape_at g s.top.func).begin at_start

    abbrev values : Env
    values = with_value with_frame has_code.name at_second

    -- neither name is that of what the part was given
    kept : (frame : Value) → s.top.mode ≡ Mode.GivenRamp frame → value_in values (given_name (shape_at g s.top.func))
        ≡ value_in t.top.values (given_name (shape_at g s.top.func))
    kept frame e = new_kept g h s t r with_frame at_second t.top.block (t.top.at + 1 + 1)
        (address has_code.name (Operand.Local (shape_at g s.top.func).begin) (pos 8)) has_code.stands.stand.1.1.0
        has_code.name refl frame e
        ∙ new_kept g h s t r t.top.values at_start t.top.block t.top.at
        (address (shape_at g s.top.func).begin memory (pos 0)) has_code.stands.stand.0 (shape_at g
        s.top.func).begin refl
        frame e

    knows_behind : KnowsGiven g s t
        → KnowsGiven g w (stands_at t t.top.block 0 (record { world = t.world; values = values }))
    knows_behind know = (
      (
        newest_knows g s.instances x begun.after s.top.func s.top.mode t.top.func values r.top.part r.top.func
            (room.given ∙ sym (ap is_given part_is))
            (λ frame e. subst (λ (v : Value). IsValue (homes_of begun.after) frame v) (sym (kept frame e))
            (value_on (homes_of s.world.memory) (homes_of begun.after) ext frame
            (value_in t.top.values (given_name (shape_at g s.top.func))) (know.0.0.given frame e)))
            know.0.0.calls,
        more_know g h.code s.instances x s.world.memory begun.after (homes_of s.world.memory) ext
            (λ i z e. kinds z.block z) s.top.result s.below t.below r.below know.0.1,
      ),
      more_calls g s.instances x s.world.memory begun.after (λ i z e. kinds z.block z) (λ held. k.stands) know.1,
    )

    knows : KnowsGiven g s t → KnowsGiven g u (iterate (plain_step h) 5 t)
    knows know = subst (λ (z : State). KnowsGiven g z (iterate (plain_step h) 5 t)) (sym same_state)
        (subst (KnowsGiven g w)
        (sym (given_begin_steps g h s t r memory has_code x begun.after refl many frames beside room k.laid new known small
        leads right same_held (r.outcome ∙ goes)))
        (knows_behind know))

    quiet : (n : ℕ) → n ≤ 4 → IsQuiet t (iterate (plain_step h) n t)
    quiet n le = line_quiet h (begin_stores (shape_at g s.top.func) r.top.part has_code.name memory) t _
        (r.outcome ∙ goes) has_code.stands.stand
        (line_runs g h s t r memory has_code x begun.after refl many frames beside room k.laid new known small
        leads right same_held)
        (refl, (refl, (refl, (refl, tt)))) n le

    headers : (n : ℕ) → n ≤ 4 → AreHeadersKept g s (iterate (plain_step h) n t).world.memory
    headers n le = line_through (λ (m : List MemoryBlock). AreHeadersKept g s m) h
        (begin_stores (shape_at g s.top.func) r.top.part has_code.name memory) t _ (r.outcome ∙ goes)
        has_code.stands.stand
        (line_keeping g h s t r memory has_code x begun.after refl many frames beside room k.laid new known small
        leads right same_held) (headers_all g s t.world.memory r.frames.headed) n le

    on_way : (n : ℕ) → n < 5 → IsOn g s (iterate (plain_step h) n t)
    on_way n lt = let z = quiet n (less n lt) in record {
      goes = goes;
      running = z.0;
      events = z.1.0 ∙ r.world.events;
      allocs = z.1.1 ∙ r.world.allocs;
      headers = headers n (less n lt);
    }
      where
        less : (n : ℕ) → n < 5 → n ≤ 4
        less n lt = omega arith

    -- the ramp had a step left of its call
    left_one : left_of_call s.top ≡ 1
    left_one = ap (λ (m : Mode). if is_ramp m && is_none s.top.instance then 1 else 0) k.mode
        ∙ ap (λ (o : Option ℕ). if true && is_none o then 1 else 0) begun.alone

    left_none : left_of_call u.top ≡ 0
    left_none = ap (λ (m : Mode). if is_ramp m && false then 1 else 0) k.mode

    pub given_begin_followed : IsFollowed g h s t
    given_begin_followed = many_followed g h s t r goes 5 u (omega arith) (omega arith) begun.is
        (subst (λ (y : Fetched). 5 + credit_of u ≤ weight y + credit_of s) (sym k.there)
        (pays (left_of_call s.top) (left_of_call u.top) (left_of_calls s.below) left_one left_none)) on_way
        related knows
      where
        pays : (a b n : ℕ) → a ≡ 1 → b ≡ 0 → 5 + (b + n) ≤ 4 + (a + n)
        pays a b n e z = omega (arith, e, z)
