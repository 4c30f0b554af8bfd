-- Where an activation goes on behind a suspend, an alloca before the last is made again in both runs.
use Rattle.std.proofs.Common.{◌≡◌, ℕ, ◌+◌, ◌<◌, ◌≤◌, Bool, true, false, List, ◌∷◌, length, Some, refl, sym, ap, ◌∙◌, subst, arith}
use Rattle.std.specs.Prelude.{slice_get, ◌≢◌}
use Rattle.pass_proofs.specs.ir_base.declared.outcome.Outcome.{Outcome}
use Rattle.pass_proofs.specs.ir_model.Layout.{size_of}
use Rattle.pass_proofs.specs.ir_model.Names.{function_at}
use Rattle.pass_proofs.specs.ir_model.declared.instr.Instr.{Instr}
use Rattle.pass_proofs.specs.ir_model.declared.module.Function.{Function}
use Rattle.pass_proofs.specs.pass_front.Front.{allocas_of}
use Rattle.pass_split_proof.proofs.making.Allocas.{fewer_markers, made, made_too, makes_slot, no_allocator, slot, slot_made}
use Rattle.pass_split_proof.proofs.simulation.Knowing.{turns_knows}
use Rattle.pass_split_proof.proofs.states.Advanced.{all_beside_on, frame_on, same_frames}
use Rattle.pass_split_proof.proofs.states.Fresh.{got_before}
use Rattle.pass_split_proof.proofs.steps.Followed.{one_followed}
use Rattle.pass_split_proof.proofs.steps.Slots.{grows, homes_grow, slot_beside, slot_frames, slot_places, stand}
use Rattle.pass_split_proof.specs.entering.Entering.{IsMakingAgain}
use Rattle.pass_split_proof.specs.simulation.Followed.{IsFollowed}
use Rattle.pass_split_proof.specs.simulation.Knowing.{KnowsGiven}
use Rattle.pass_split_proof.specs.states.Activations.{IsReturning, Making, RunsPart}
use Rattle.pass_split_proof.specs.states.Instances.{IsIndexed, index_length}
use Rattle.pass_split_proof.specs.states.Memories.{homes_of, plain_kind}
use Rattle.pass_split_proof.specs.states.Related.{AreRelated, left_of_call, left_of_calls}
use Rattle.pass_split_proof.specs.steps.Slots.{slot_memory}
use Rattle.pass_proofs.specs.run_agreement.Machines.{IsFine}
use Rattle.pass_proofs.specs.run_framed.Framed.{FramedGiven, at_point, enter_after, framed_slot, framed_step, layout_of, with_mode}
use Rattle.pass_proofs.proofs.run_laws.access.Held.{same_held}
use Rattle.pass_proofs.proofs.run_laws.memory.Written.{changed_elsewhere}
use Rattle.pass_proofs.proofs.run_laws.transfer.Sets.{set_elsewhere, set_length}
use Rattle.pass_proofs.specs.run_laws.memory.Standing.{blank_block}
use Rattle.pass_proofs.specs.run_memory.Memory.{digits, ended, fresh, owner_rights}
use Rattle.pass_proofs.specs.run_memory.declared.block.Kind.{Kind}
use Rattle.pass_proofs.specs.run_memory.declared.block.MemoryBlock.{MemoryBlock}
use Rattle.pass_proofs.specs.run_memory.declared.pointer.Value.{Value}
use Rattle.run_access_worked.specs.run_plain.Plain.{PlainGiven, plain_settled, plain_slot}
use Rattle.run_access_worked.specs.run_plain.declared.state.PlainState.{PlainState}
use Rattle.pass_proofs.specs.run_source.State.{function_of, settled, with_slots}
use Rattle.pass_proofs.specs.run_source.declared.state.Mode.{Mode}
use Rattle.pass_proofs.specs.run_source.declared.state.State.{State}
use Rattle.pass_proofs.specs.run_step.Step.{AtInstr, Work, alloca_kind, fetch, has_markers}
use Rattle.pass_proofs.specs.run_step.Values.{pointer_to}
use Rattle.pass_proofs.specs.run_step.declared.world.Slot.{Slot}

-- the blocks that there were stand where they stood
old_there : (n : List MemoryBlock) (size align : ℕ) (kind : Kind) (marked : Bool) (b : ℕ) → b < length n
    → slice_get (slot_memory n size align kind marked) b ≡ slice_get n b
old_there n size align kind true b lt = changed_elsewhere (fresh n size align kind) (length n) b ended (other b (length n)
    lt) ∙ got_before n (blank_block size align kind) b lt
  where
    other : (b k : ℕ) → b < k → b ≢ k
    other b k lt e = omega (arith, lt, e)
old_there n size align kind false b lt = got_before n (blank_block size align kind) b lt

module _ (g : FramedGiven) (h : PlainGiven) (s : State) (t : PlainState) (r : AreRelated g h s t)
    (runs : s.outcome ≡ Outcome.Running) (fine : IsFine (framed_step g s).outcome) (from label : ℕ)
    (k : IsMakingAgain g h s t r from label) where
  abbrev f : Function
  f = function_of g.given s

  abbrev q : Function
  q = function_at h.code t.top.func

  abbrev i : Instr
  i = Instr.Alloca k.alloca.name k.alloca.ty k.alloca.align

  abbrev size : ℕ
  size = size_of g.given.code k.alloca.ty

  abbrev marked : Bool
  marked = has_markers f k.alloca.name

  abbrev too : Bool
  too = has_markers q k.alloca.name

  less : has_markers q k.alloca.name ≡ true → has_markers f k.alloca.name ≡ true
  less = fewer_markers g h s t r runs fine k.alloca

  abbrev work : Work
  work = made g h s t r runs fine k.alloca

  abbrev work_too : Work
  work_too = made_too g h s t r runs fine k.alloca

  abbrev new : Slot
  new = slot g h s t r runs fine k.alloca

  pub here : fetch q t.top.block t.top.at ≡ AtInstr i
  here = ap (λ (b : ℕ). fetch q b t.top.at) k.piece ∙ ap (fetch q 0) k.at
      ∙ k.front.alike s.top.at k.among i (sym (ap (λ (b : ℕ). fetch f b s.top.at) k.block) ∙ k.alloca.there)

  pub unlike : alloca_kind f ≡ Kind.Allocator → k.alloca.align ≡ 16
  unlike = no_allocator g h s t r runs fine k.alloca f.coroutine

  -- the index leads back as before
  abbrev pub old : IsReturning g r.top.shape r.top.part f s.instances t.world.memory s.top.instance from label
  old = r.making from label k.mode

  pub known : old.frame.block < length t.world.memory
  known = subst (λ (n : ℕ). old.frame.block < n) (sym r.world.memory.twins.long)
      (r.frames.laid.known old.own old.frame old.there)

  pub indexed : IsIndexed g work_too.world.memory old.frame old.number
  indexed = record {
    holds = same_held owner_rights t.world.memory work_too.world.memory old.frame.block
        (old.frame.start + (layout_of g.layouts old.frame.coroutine).index)
        (index_length g old.frame.coroutine) (digits (index_length g old.frame.coroutine) old.number)
        (old_there t.world.memory size k.alloca.align (plain_kind (alloca_kind f)) too old.frame.block known)
        old.index.holds;
  }

  module _ (more : s.top.at + 1 < length (allocas_of (function_of g.given s).blocks)) where
    abbrev z : State
    z = with_slots (settled s work) (new ∷ s.top.slots)

    abbrev u : State
    u = at_point (with_mode z (Mode.Entering from label)) (record { block = 0; at = s.top.at + 1 })

    abbrev w : PlainState
    w = plain_slot (plain_settled t work_too) new

    is : framed_step g s ≡ u
    is = slot_made g h s t r runs fine k.alloca ∙ ap (framed_slot g (settled s work) new) k.mode
        ∙ ap (enter_after g z from label) (k.front.next (s.top.at + 1) more)

    returning : IsReturning g r.top.shape r.top.part f s.instances work_too.world.memory s.top.instance from label
    returning = record {
      own = old.own;
      frame = old.frame;
      is_own = old.is_own;
      there = old.there;
      number = old.number;
      point = old.point;
      is = old.is;
      behind = old.behind;
      entered = old.entered;
      leads = old.leads;
      index = indexed;
    }

    going_back : (a b : ℕ) → Mode.Entering from label ≡ Mode.Entering a b
        → IsReturning g r.top.shape r.top.part f s.instances work_too.world.memory s.top.instance a b
    going_back a b e =
        let c : from ≡ a = cc in
        let d : label ≡ b = cc in
        subst (λ (q : ℕ × ℕ). IsReturning g r.top.shape r.top.part f s.instances work_too.world.memory s.top.instance
        q.0 q.1) (λ j. (c j, d j)) returning

    related : AreRelated g h u w
    related = record {
      outcome = r.outcome;
      globals = chain (length g.given.code.globals) (length s.world.memory) (length work.world.memory) r.globals
          (grows g h s t r (Some k.alloca.name) size k.alloca.align (alloca_kind f) marked too s.world.allocs);
      world = record {
        memory = slot_beside g s.instances s.world.memory t.world.memory size k.alloca.align (alloca_kind f)
            k.alloca.small unlike r.world.memory.twins.long marked too less r.frames
            r.world.memory;
        events = r.world.events;
        answers = r.world.answers;
        allocs = refl;
      };
      frames = slot_frames g s.instances s.world.memory t.world.memory size k.alloca.align (alloca_kind f)
          k.alloca.small unlike r.world.memory.twins.long marked too less r.frames;
      top = record {
        shape = r.top.shape;
        part = r.top.part;
        coded = r.top.coded;
        shaped = r.top.shaped;
        runs = subst (λ (m : Mode). RunsPart m r.top.part) k.mode r.top.runs;
        func = r.top.func;
        place = Making from label refl k.piece (ap (λ (n : ℕ). n + 1) k.at) more;
        values = stand g h s t r (Some k.alloca.name) size k.alloca.align (alloca_kind f) marked too s.world.allocs;
        whole = set_length s.top.values k.alloca.name (pointer_to (length s.world.memory)) ∙ r.top.whole;
        room = set_length t.top.values k.alloca.name (pointer_to (length t.world.memory)) ∙ r.top.room;
        frame = λ j own. frame_on s.instances s.instances s.top.func j _ _ (same_frames s.instances)
            (set_elsewhere t.top.values k.alloca.name r.top.shape.begin (pointer_to (length t.world.memory))
            k.alloca.others) (r.top.frame j own);
        result = r.top.result;
        slots = ap (λ (rest : List Slot). new ∷ rest) r.top.slots;
        own = λ c. (k.alloca.among (length s.world.memory) c, r.top.own c);
      };
      below = all_beside_on g h.code s.instances s.instances (homes_of s.world.memory) (homes_of work.world.memory)
          (homes_grow g h s t r (Some k.alloca.name) size k.alloca.align (alloca_kind f) marked too s.world.allocs)
          (same_frames s.instances) s.top.result s.below t.below r.below;
      making = going_back;
    }
      where
        chain : (a b c : ℕ) → a ≤ b → b ≤ c → a ≤ c
        chain a b c p q = omega arith

    no_ramp : (frame : Value) → Mode.Entering from label ≡ Mode.GivenRamp frame → ⊥
    no_ramp frame e = cc

    knows : KnowsGiven g s t → KnowsGiven g u w
    knows = turns_knows g s t s.instances work.world.memory work_too.values
        (homes_grow g h s t r (Some k.alloca.name) size k.alloca.align (alloca_kind f) marked too s.world.allocs)
        (slot_places g h s t r (Some k.alloca.name) size k.alloca.align (alloca_kind f) marked too s.world.allocs)
        (Mode.Entering from label) no_ramp

    pub again_followed : IsFollowed g h s t
    again_followed = one_followed g h s t r runs u w is (makes_slot g h s t r runs fine k.alloca here)
        (fewer (left_of_call s.top) (left_of_calls s.below)) related knows
      where
        fewer : (a n : ℕ) → 0 + n ≤ a + n
        fewer a n = omega arith
