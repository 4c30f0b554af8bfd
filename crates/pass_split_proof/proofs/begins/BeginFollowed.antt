-- A begin of a ramp is followed in its part, in five steps.
use Rattle.std.proofs.Common.{◌≡◌, ℕ, ◌+◌, ◌<◌, ◌≤◌, ◌^◌, true, false, List, ◌∷◌, length, Option, Some, refl, sym, ap, ◌∙◌, subst, arith, if◌then◌else◌}
use Rattle.std.proofs.lemmas.Bool.{false≢true}
use Rattle.std.specs.Prelude.{is_none, not, slice_get, ◌&&◌, ◌||◌, ◌==◌}
use Rattle.std.proofs.lemmas.Option.{slice_get_within}
use Rattle.pass_proofs.specs.ir_base.declared.outcome.Outcome.{Outcome}
use Rattle.pass_proofs.specs.ir_model.Ty.{Ty, ptr}
use Rattle.pass_proofs.specs.ir_model.declared.instr.Instr.{Instr}
use Rattle.pass_proofs.specs.ir_model.declared.instr.Terminator.{Terminator}
use Rattle.pass_proofs.specs.ir_model.declared.module.Function.{Function}
use Rattle.pass_proofs.specs.ir_model.declared.operand.Callee.{Callee}
use Rattle.pass_proofs.specs.ir_model.declared.operand.Intrinsic.{Intrinsic}
use Rattle.pass_proofs.specs.pass_intrinsics.Lowered.{begin_stores, destroyed_by, lowered}
use Rattle.pass_proofs.specs.pass_intrinsics.Shapes.{begun_label}
use Rattle.pass_proofs.specs.pass_intrinsics.declared.shape.Part.{Part}
use Rattle.pass_proofs.specs.pass_intrinsics.declared.shape.Shape.{Shape}
use Rattle.pass_proofs.specs.pass_split.Pieces.{begins_again}
use Rattle.pass_split_proof.proofs.begins.Begun.{HasBegun, has_begun}
use Rattle.pass_split_proof.proofs.begins.Calm.{IsQuiet, line_quiet}
use Rattle.pass_split_proof.proofs.begins.SaveCode.{IsMarked, marked, shape_is}
use Rattle.pass_split_proof.proofs.simulation.Knowing.{more_calls, more_know, newest_knows, same_extends}
use Rattle.pass_split_proof.proofs.states.SameKind.{given_kept}
use Rattle.pass_split_proof.proofs.states.OwnHomes.{own_pointer}
use Rattle.pass_split_proof.proofs.states.Written.{length-changed}
use Rattle.pass_split_proof.proofs.steps.BegunStates.{begin_related, begin_steps, runs, runs_keeping}
use Rattle.pass_split_proof.proofs.steps.Followed.{framed_does, many_followed}
use Rattle.pass_split_proof.proofs.steps.Operands.{operand_stands}
use Rattle.pass_split_proof.specs.begins.Beginning.{IsAtBegin}
use Rattle.pass_split_proof.specs.places.Places.{Remain}
use Rattle.pass_split_proof.specs.simulation.Followed.{IsFollowed}
use Rattle.pass_split_proof.specs.simulation.Knowing.{KnowsGiven}
use Rattle.pass_split_proof.specs.states.Activations.{RunsPart, is_entering}
use Rattle.pass_split_proof.specs.states.Begun.{IsNewInstance}
use Rattle.pass_split_proof.specs.code.Positions.{is_given}
use Rattle.pass_split_proof.specs.states.Going.{stands_at}
use Rattle.pass_split_proof.specs.states.Instances.{StandsThere, address_of_part, destroyer_of, is_given_in, shape_at}
use Rattle.pass_split_proof.specs.states.Memories.{homes_of}
use Rattle.pass_split_proof.specs.states.Related.{AreHeadersKept, AreRelated, IsOn, credit_of, is_ramp, left_of_call, left_of_calls, weight}
use Rattle.pass_split_proof.specs.steps.Begins.{HasBeginCode, begun_to}
use Rattle.pass_proofs.specs.run_agreement.Machines.{IsFine, iterate}
use Rattle.pass_proofs.specs.run_framed.Framed.{FramedGiven, framed_begin, framed_step}
use Rattle.pass_proofs.specs.run_laws.access.Lines.{pointer_at}
use Rattle.pass_proofs.specs.run_laws.changed.Changed.{Each}
use Rattle.pass_proofs.specs.run_laws.memory.Pointers.{IsValue}
use Rattle.pass_proofs.specs.run_memory.Memory.{owned_to, same_kind, with_block}
use Rattle.pass_proofs.specs.run_memory.Pointers.{offset_of}
use Rattle.pass_proofs.specs.run_memory.declared.block.Kind.{Kind}
use Rattle.pass_proofs.specs.run_memory.declared.block.MemoryBlock.{MemoryBlock}
use Rattle.pass_proofs.specs.run_memory.declared.pointer.Pointer.{Pointer}
use Rattle.pass_proofs.specs.run_memory.declared.pointer.Value.{Value}
use Rattle.run_access_worked.specs.run_plain.Plain.{PlainGiven, plain_context, plain_function, plain_step, plain_work}
use Rattle.run_access_worked.specs.run_plain.declared.state.PlainState.{PlainState}
use Rattle.pass_proofs.specs.run_source.Source.{is_among, new_instance}
use Rattle.pass_proofs.specs.run_source.State.{function_of, or_undefined, own_facts, own_frame}
use Rattle.pass_proofs.specs.run_source.declared.state.Instance.{Instance}
use Rattle.pass_proofs.specs.run_source.declared.state.Mode.{Mode}
use Rattle.pass_proofs.specs.run_source.declared.state.State.{State}
use Rattle.pass_proofs.specs.run_step.Step.{AtInstr, Coro, Fetched, value_at}
use Rattle.pass_proofs.specs.run_step.Values.{Env, address_of, operand_value, with_value}
use Rattle.pass_proofs.specs.run_step.declared.world.Slot.{Slot}
use Rattle.pass_split_proof.proofs.states.Headers.{headers_all}
use Rattle.pass_split_proof.proofs.steps.Through.{line_through}

module _ (g : FramedGiven) (h : PlainGiven) (s : State) (t : PlainState) (r : AreRelated g h s t)
    (goes : s.outcome ≡ Outcome.Running) (fine : IsFine (framed_step g s).outcome) (k : IsAtBegin g h s t r) where
  abbrev f : Function
  f = function_of g.given s

  abbrev q : Function
  q = plain_function h t

  abbrev i : Instr
  i = Instr.Call (Some r.top.shape.begin) k.must_tail k.ty (Callee.Intrinsic Intrinsic.CoroBegin)
      (k.id ∷ k.memory ∷ k.rest)

  abbrev size : ℕ
  size = (own_frame g.given s).size

  settled : is_entering s.top.mode ≡ false
  settled = ap is_entering k.mode

  -- it is the ramp that allocates
  part_is : r.top.part ≡ Part.Ramp
  part_is = by s.top.mode k.mode r.top.runs
    where
      by : (mode : Mode) → mode ≡ Mode.Ramp → RunsPart mode r.top.part → r.top.part ≡ Part.Ramp
      by Mode.Ramp e x = x
      by Mode.Plain e x = x
      by (Mode.GivenRamp frame) e x = absurd (cc)
      by Mode.Resumed e x = absurd (cc)
      by (Mode.Entering from label) e x = absurd (cc)

  -- ---- the framed run

  abbrev mem : Value
  mem = operand_value g.given.code s.top.values k.memory.ty k.memory.value

  own_slots : Each (λ (x : Slot). is_among (own_facts g.given s).ramp_slots x ≡ true) s.top.slots
  own_slots = subst (λ (ramp : List ℕ). Each (λ (x : Slot). is_among ramp x ≡ true) s.top.slots) (sym k.slots)
      (r.top.own k.coroutine)

  begun : HasBegun g s r.top.shape.begin mem
  begun = has_begun g s r.top.shape.begin mem fine
      (framed_does g s (AtInstr i) (Coro Intrinsic.CoroBegin (k.id ∷ k.memory ∷ k.rest) (Some r.top.shape.begin)) goes
      k.there refl refl
      ∙ ap (λ (m : Mode). or_undefined g.given s (framed_begin g s (Some r.top.shape.begin) mem m)) k.mode) own_slots

  abbrev x : Instance
  x = new_instance s.top.func begun.block 0

  abbrev u : State
  u = begun_to s x (with_block s.world.memory begun.block (owned_to size))
      (with_value s.top.values r.top.shape.begin (pointer_at begun.block 0))

  new : IsNewInstance x
  new = record { start = refl; slots = refl; runs = refl; unfreed = refl }

  -- ---- the code

  same_shape : r.top.shape ≡ shape_at g s.top.func
  same_shape = shape_is g s.top.func f r.top.shape r.top.shaped k.coroutine

  code : IsMarked r.top.shape r.top.part f q s.top.block s.top.at t.top.block t.top.at i
  code = marked r.top.shape r.top.part f q s.top.block s.top.at t.top.block t.top.at i (begun_label r.top.shape)
      (subst (λ (p : Part). begins_again p i ≡ false) (sym part_is) refl) (λ after. refl) k.place k.there

  has_code : HasBeginCode g h s t r k.memory.value
  has_code = record {
    same = same_shape;
    name = code.name;
    new = subst (λ (n : ℕ). n ≤ code.name) (sym r.top.whole) code.new.low;
    room = more code.name (length q.names) (length t.top.values) code.new.high (sym r.top.room);
    begin = subst (λ (n : ℕ). (shape_at g s.top.func).begin < n) (sym r.top.whole)
        (subst (λ (z : Shape). z.begin < length f.names) same_shape k.begin);
    mark = code.mark;
    stands = subst (λ (z : Shape). Remain q t.top.block t.top.at (begin_stores z r.top.part code.name k.memory.value)
        (Terminator.Jump code.mark)) same_shape
        (subst (λ (p : Part). Remain q t.top.block t.top.at (begin_stores r.top.shape p code.name k.memory.value)
        (Terminator.Jump code.mark)) (sym part_is)
        (subst (λ (p : Part). Remain q t.top.block t.top.at (lowered r.top.shape p code.name i)
        (Terminator.Jump code.mark)) part_is code.stands));
    bare = code.bare;
    place = code.place;
    resumes = subst (λ (z : Shape). address_of h.code z.resume_name ≡ address_of_part g s.top.func Part.Resume)
        same_shape k.resumes;
    destroys = subst (λ (p : Part). address_of h.code (destroyed_by (shape_at g s.top.func) p) ≡ address_of_part g
        s.top.func (destroyer_of p)) (sym part_is)
        (subst (λ (z : Shape). address_of h.code z.destroy_name ≡ address_of_part g s.top.func Part.Destroy) same_shape
        k.destroys);
    standing = subst (λ (p : Part). StandsThere g s.top.func (destroyer_of p)) (sym part_is)
        (λ e. absurd (false≢true e));
  }
    where
      more : (n a b : ℕ) → n + 1 ≤ a → a ≡ b → n < b
      more n a b le e = omega (arith, le, e)

  -- a destroy is to call the part for frames that were allocated
  own_part : is_given (destroyer_of r.top.part) ≡ false
  own_part = ap (λ (p : Part). is_given (destroyer_of p)) part_is

  -- ---- the memory's address in the part

  stands : IsValue (homes_of s.world.memory) (pointer_at begun.block 0)
      (operand_value h.code t.top.values ptr k.memory.value)
  stands = subst (λ (v : Value). IsValue (homes_of s.world.memory) v (operand_value h.code t.top.values ptr
      k.memory.value)) (ap (λ (y : Ty). operand_value g.given.code s.top.values y k.memory.value) (sym k.typed)
      ∙ begun.leads)
      (operand_stands g.given.code h.code f (length s.world.memory) s.top.values t.top.values r.globals r.top.values
      k.memory.value k.readable ptr)

  leads : value_at (plain_context h t) (plain_work t) ptr k.memory.value ≡ pointer_at x.block 0
  leads = stands.1 ∙ ap (λ (p : Pointer). Value.Ptr p) (own_pointer (length s.world.memory) begun.block (offset_of 0)
      (slice_get_within s.world.memory begun.block begun.source begun.there) small)
    where
      small : 0 < 2 ^ 64
      small = omega arith

  roomy : 16 ≤ begun.source.size
  roomy = chain 16 size begun.source.size k.roomy begun.fresh.room
    where
      chain : (a b c : ℕ) → a ≤ b → b ≤ c → a ≤ c
      chain a b c p q = omega arith

  -- ---- both runs

  abbrev w : State
  w = begun_to s x (with_block s.world.memory begun.block (owned_to size))
      (with_value s.top.values (shape_at g s.top.func).begin (pointer_at begun.block 0))

  same_state : u ≡ w
  same_state = ap (λ (z : Shape). begun_to s x (with_block s.world.memory begun.block (owned_to size))
      (with_value s.top.values z.begin (pointer_at begun.block 0))) same_shape

  related : AreRelated g h u (iterate (plain_step h) 5 t)
  related = subst (λ (z : State). AreRelated g h z (iterate (plain_step h) 5 t)) (sym same_state)
      (subst (AreRelated g h w)
      (sym (begin_steps g h s t r k.memory.value has_code x begun.source size refl begun.there begun.fresh k.laid k.sized
      new roomy leads own_part (r.outcome ∙ goes)))
      (begin_related g h s t r k.memory.value has_code x begun.source size refl begun.there begun.fresh k.laid k.sized new
      roomy leads own_part settled))

  -- ---- what is known of frames that callers give

  abbrev behind : List MemoryBlock
  behind = with_block s.world.memory begun.block (owned_to size)

  kinds : (c : ℕ) (z : Instance) → is_given_in (slice_get behind c) z ≡ is_given_in (slice_get s.world.memory c) z
  kinds c z = given_kept (owned_to size) (λ y. refl) s.world.memory begun.block c z

  -- the frame wasn't given
  ungiven : is_given_in (slice_get behind begun.block) x ≡ false
  ungiven = kinds begun.block x ∙ ap (λ (o : Option MemoryBlock). is_given_in o x) begun.there
      ∙ ap (λ (y : Kind). same_kind y Kind.Stack || not (0 == 0)) begun.fresh.kind

  no_frame : (mode : Mode) (frame : Value) → mode ≡ Mode.Ramp → mode ≡ Mode.GivenRamp frame → ⊥
  no_frame mode frame e f = absurd (other (sym e ∙ f))
    where
      other : Mode.Ramp ≡ Mode.GivenRamp frame → ⊥
      other h = cc

  abbrev values : Env
  values = with_value (with_value t.top.values (shape_at g s.top.func).begin (pointer_at x.block 0)) has_code.name
      (pointer_at x.block 8)

  knows_behind : KnowsGiven g s t
      → KnowsGiven g w (stands_at t t.top.block 0 (record { world = t.world; values = values }))
  knows_behind know = (
    (
      newest_knows g s.instances x behind s.top.func s.top.mode t.top.func values r.top.part r.top.func
          (ungiven ∙ sym (ap is_given part_is)) (λ frame e. absurd (no_frame s.top.mode frame k.mode e))
          know.0.0.calls,
      more_know g h.code s.instances x s.world.memory behind (homes_of s.world.memory)
          (same_extends s.world.memory behind (length-changed s.world.memory begun.block (owned_to size)))
          (λ i z e. kinds z.block z) s.top.result s.below t.below r.below know.0.1,
    ),
    more_calls g s.instances x s.world.memory behind (λ i z e. kinds z.block z)
        (λ held. absurd (false≢true (sym ungiven ∙ held))) know.1,
  )

  knows : KnowsGiven g s t → KnowsGiven g u (iterate (plain_step h) 5 t)
  knows know = subst (λ (z : State). KnowsGiven g z (iterate (plain_step h) 5 t)) (sym same_state)
      (subst (KnowsGiven g w)
      (sym (begin_steps g h s t r k.memory.value has_code x begun.source size refl begun.there begun.fresh k.laid k.sized
      new roomy leads own_part (r.outcome ∙ goes)))
      (knows_behind know))

  quiet : (n : ℕ) → n ≤ 4 → IsQuiet t (iterate (plain_step h) n t)
  quiet n le = line_quiet h (begin_stores (shape_at g s.top.func) r.top.part has_code.name k.memory.value) t _
      (r.outcome ∙ goes) has_code.stands.stand
      (runs g h s t r k.memory.value has_code x begun.source size refl begun.there begun.fresh k.laid k.sized new roomy
      leads own_part)
      (refl, (refl, (refl, (refl, tt)))) n le

  headers : (n : ℕ) → n ≤ 4 → AreHeadersKept g s (iterate (plain_step h) n t).world.memory
  headers n le = line_through (λ (m : List MemoryBlock). AreHeadersKept g s m) h
      (begin_stores (shape_at g s.top.func) r.top.part has_code.name k.memory.value) t _ (r.outcome ∙ goes)
      has_code.stands.stand
      (runs_keeping g h s t r k.memory.value has_code x begun.source size refl begun.there begun.fresh k.laid
      k.sized new
      roomy leads own_part) (headers_all g s t.world.memory r.frames.headed) n le

  on_way : (n : ℕ) → n < 5 → IsOn g s (iterate (plain_step h) n t)
  on_way n lt = let z = quiet n (less n lt) in record {
    goes = goes;
    running = z.0;
    events = z.1.0 ∙ r.world.events;
    allocs = z.1.1 ∙ r.world.allocs;
    headers = headers n (less n lt);
  }
    where
      less : (n : ℕ) → n < 5 → n ≤ 4
      less n lt = omega arith

  -- the ramp had a step left of its call
  left_one : left_of_call s.top ≡ 1
  left_one = ap (λ (m : Mode). if is_ramp m && is_none s.top.instance then 1 else 0) k.mode
      ∙ ap (λ (o : Option ℕ). if true && is_none o then 1 else 0) begun.alone

  left_none : left_of_call u.top ≡ 0
  left_none = ap (λ (m : Mode). if is_ramp m && false then 1 else 0) k.mode

  pub begin_followed : IsFollowed g h s t
  begin_followed = many_followed g h s t r goes 5 u (omega arith) (omega arith) begun.is
      (subst (λ (y : Fetched). 5 + credit_of u ≤ weight y + credit_of s) (sym k.there)
      (pays (left_of_call s.top) (left_of_call u.top) (left_of_calls s.below) left_one left_none)) on_way related knows
    where
      pays : (a b n : ℕ) → a ≡ 1 → b ≡ 0 → 5 + (b + n) ≤ 4 + (a + n)
      pays a b n e z = omega (arith, e, z)
