-- A call that gives a ramp its frame is followed in the part.
use Rattle.std.proofs.Common.{◌≡◌, ℕ, suc, ◌+◌, ◌≤◌, ◌-◌, false, List, [], ◌∷◌, length, Option, Ok, Result, Some, inl, refl, sym, ap, ◌∙◌, subst, arith}
use Rattle.std.specs.Prelude.{unwrap_or}
use Rattle.std.proofs.lemmas.Bool.{false≢true}
use Rattle.pass_proofs.specs.ir_base.declared.cause.Cause.{Cause}
use Rattle.pass_proofs.specs.ir_base.declared.outcome.Outcome.{Outcome}
use Rattle.pass_proofs.specs.ir_model.Names.{declaration_named, function_at}
use Rattle.pass_proofs.specs.ir_model.Ty.{ptr}
use Rattle.pass_proofs.specs.ir_model.declared.instr.Instr.{Instr}
use Rattle.pass_proofs.specs.ir_model.declared.module.Function.{Function}
use Rattle.pass_proofs.specs.ir_model.declared.module.Module.{Module}
use Rattle.pass_proofs.specs.ir_model.declared.operand.Arg.{Arg}
use Rattle.pass_proofs.specs.ir_model.declared.operand.Callee.{Callee}
use Rattle.pass_proofs.specs.pass_intrinsics.Shapes.{given_name}
use Rattle.pass_proofs.specs.pass_intrinsics.declared.shape.Part.{Part}
use Rattle.pass_proofs.specs.pass_split.Pieces.{begins_again}
use Rattle.pass_split_proof.proofs.simulation.Knowing.{calls_knows, result_unset}
use Rattle.pass_split_proof.specs.simulation.Knowing.{KnowsGiven}
use Rattle.pass_split_proof.proofs.calling.Called.{args_stand, left_low}
use Rattle.pass_split_proof.proofs.given_calls.Entered.{given_entries_stand, given_entry}
use Rattle.pass_split_proof.proofs.states.Advanced.{same_frames}
use Rattle.pass_split_proof.proofs.states.Values.{entry_length}
use Rattle.pass_split_proof.proofs.steps.Calling.{IsCounted, counted_is, counted_related}
use Rattle.pass_split_proof.proofs.steps.Calls.{pushes_related}
use Rattle.pass_split_proof.proofs.steps.Followed.{call_followed}
use Rattle.pass_split_proof.proofs.steps.Ordinary.{IsCopied, alone}
use Rattle.pass_split_proof.proofs.steps.Settled.{plain_does}
use Rattle.pass_split_proof.specs.given_calls.Calling.{IsAtGivenCall, IsGivenCallee, IsGivenFrame}
use Rattle.pass_split_proof.specs.simulation.Followed.{IsFollowed}
use Rattle.pass_split_proof.specs.states.Activations.{Inside, IsBeside, is_entering}
use Rattle.pass_split_proof.specs.states.Instances.{part_position, shape_at}
use Rattle.pass_split_proof.specs.states.Memories.{homes_of}
use Rattle.pass_split_proof.specs.states.Related.{AreRelated, left_of_call, left_of_calls, weight}
use Rattle.pass_proofs.specs.run_framed.Framed.{FramedGiven, enter_given, framed_act, framed_advance, framed_context, framed_next, framed_step, given_call, last_value}
use Rattle.pass_proofs.specs.run_laws.embedded.Related.{AreValues}
use Rattle.pass_proofs.specs.run_laws.memory.Pointers.{Home, IsValue}
use Rattle.pass_proofs.proofs.run_laws.embedded.Values.{nth_kept}
use Rattle.pass_proofs.specs.run_memory.declared.pointer.Value.{Value}
use Rattle.run_access_worked.specs.run_plain.Plain.{PlainGiven, counted, plain_call, plain_called, plain_context, plain_step, plain_work}
use Rattle.run_access_worked.specs.run_plain.declared.state.PlainState.{PlainState}
use Rattle.pass_proofs.specs.run_source.Source.{called, push}
use Rattle.pass_proofs.specs.run_source.State.{function_of, or_undefined, work_of}
use Rattle.pass_proofs.specs.run_source.declared.state.Activation.{Activation}
use Rattle.pass_proofs.specs.run_source.declared.state.Instance.{Instance}
use Rattle.pass_proofs.specs.run_source.declared.state.Mode.{Mode}
use Rattle.pass_proofs.specs.run_source.declared.state.State.{State}
use Rattle.pass_proofs.specs.run_step.Step.{AtInstr, Enter, Fetched, action_of, fetch, named_call}
use Rattle.pass_proofs.specs.run_step.Values.{arg_values, nth, value_in}
use Rattle.pass_split_proof.proofs.given_calls.Ramps.{called_given}

-- ---- the framed run

-- a step that gives a frame
framed_gives : (g : FramedGiven) (s u : State) (here : Fetched) → s.outcome ≡ Outcome.Running
    → fetch (function_of g.given s) s.top.block s.top.at ≡ here → given_call g s here ≡ Some (Ok u)
    → framed_step g s ≡ u
framed_gives g s u here runs there gives =
    ap (framed_advance g s) runs
    ∙ ap (λ (x : Fetched). or_undefined g.given s (framed_next g s x)) there
    ∙ ap (λ (o : Option (Result State Cause)). or_undefined g.given s
    (unwrap_or o (framed_act g s (action_of (framed_context g s) (work_of s) here)))) gives

-- so many values as arguments
many_values : (m : Module) (values : List (Option Value)) (args : List Arg)
    → length (arg_values m values args) ≡ length args
many_values m values [] = refl
many_values m values (a ∷ args) = ap suc (many_values m values args)

-- ---- the activation of the ramp

module _ (g : FramedGiven) (h : PlainGiven) (instances : List Instance) (homes : List Home) (func : ℕ)
    (args others : List Value) (result : Option ℕ) (frame : Value) where
  given_beside : IsGivenCallee g h.code func → AreValues homes args others
      → IsBeside g h.code instances homes (called g.given.code func args result (Mode.GivenRamp frame))
      (plain_called h.code (part_position g func Part.GivenRamp) others result)
  given_beside c stand = record {
    shape = shape_at g func;
    part = Part.GivenRamp;
    coded = c.coded;
    shaped = inl (c.coroutine, refl);
    runs = refl;
    func = refl;
    place = Inside (Mode.GivenRamp frame) refl c.place;
    values = given_entries_stand (function_at g.given.code func)
        (function_at h.code (part_position g func Part.GivenRamp)) homes args others
        (record { ty = ptr; name = given_name (shape_at g func) }) c.params c.names c.room stand;
    whole = entry_length (function_at g.given.code func) args;
    room = entry_length (function_at h.code (part_position g func Part.GivenRamp)) others;
    frame = λ i own. absurd (cc);
    result = refl;
    slots = refl;
    own = λ coroutine. tt;
  }

module _ (g : FramedGiven) (h : PlainGiven) (s : State) (t : PlainState) (r : AreRelated g h s t)
    (runs : s.outcome ≡ Outcome.Running) (k : IsAtGivenCall g h s t r) where
  abbrev f : Function
  f = function_of g.given s

  abbrev q : Function
  q = function_at h.code t.top.func

  abbrev i : Instr
  i = Instr.Call k.result false k.ty (Callee.Named k.name) k.args

  abbrev to : ℕ
  to = part_position g k.func Part.GivenRamp

  abbrev vs : List Value
  vs = arg_values g.given.code s.top.values k.args

  abbrev us : List Value
  us = arg_values h.code t.top.values k.args

  abbrev a : Activation
  a = called g.given.code k.func vs k.result (Mode.GivenRamp (last_value vs))

  not_again : (part : Part) → begins_again part i ≡ false
  not_again Part.Ramp = refl
  not_again Part.GivenRamp = refl
  not_again Part.Resume = refl
  not_again Part.Destroy = refl
  not_again Part.Cleanup = refl

  copied : IsCopied r.top.shape r.top.part f q s.top.block s.top.at t.top.block t.top.at i
  copied = alone r.top.shape r.top.part f q s.top.block s.top.at t.top.block t.top.at i i
      (record { begins = not_again r.top.part; cut = λ after. refl; lowered = λ n. refl }) k.place k.there

  theirs : action_of (plain_context h t) (plain_work t) (AtInstr i) ≡ Enter to us k.result false
  theirs = ap (λ (o : Option ℕ). named_call (plain_context h t) (plain_work t) o (declaration_named h.code k.name)
      k.ty k.result false us) k.moves

  is : framed_step g s ≡ push s a
  is = framed_gives g s (push s a) (AtInstr i) runs k.there (ap (enter_given g s k.result vs) k.gives)

  abbrev entered : PlainState
  entered = plain_call h t to us k.result false

  goes : plain_step h t ≡ counted h to entered
  goes = plain_does h t (AtInstr i) (Enter to us k.result false) (r.outcome ∙ runs) copied.0 theirs

  tally : IsCounted entered (counted h to entered)
  tally = counted_is h to entered

  stand : AreValues (homes_of s.world.memory) vs us
  stand = args_stand g h s t r k.args k.readable

  related : AreRelated g h (push s a) (counted h to entered)
  related = subst (AreRelated g h (push s a)) (sym tally.is)
      (counted_related g h (push s a) entered tally.count
      (pushes_related g h s t r s.instances t.world.memory a (plain_called h.code to us k.result)
      t.top.block (t.top.at + 1) t.top.values k.settled r.world.memory r.frames (same_frames s.instances)
      (given_beside g h s.instances (homes_of s.world.memory) k.func vs us k.result (last_value vs) k.callee stand)
      (λ from label e. absurd (no_entering from label e))
      r.top.values refl (λ i own. refl) (Inside s.top.mode k.settled copied.1)
      (record { before = s.top.at; at = refl; instr = i; there = k.there; is = refl }) k.others))
    where
      no_entering : (from label : ℕ) → Mode.GivenRamp (last_value vs) ≡ Mode.Entering from label → ⊥
      no_entering from label e = false≢true (ap is_entering e)

  -- ---- the frame's address

  abbrev given : ℕ
  given = given_name (shape_at g k.func)

  abbrev few : ℕ
  few = length (function_at g.given.code k.func).params

  last_is : last_value vs ≡ nth vs few
  last_is = ap (nth vs) (before (length vs) few (many_values g.given.code s.top.values k.args ∙ k.many))
    where
      before : (n k : ℕ) → n ≡ suc k → n - 1 ≡ k
      before n k e = omega arith

  there_called : value_in (plain_called h.code to us k.result).values given ≡ nth us few
  there_called = given_entry (function_at g.given.code k.func) (function_at h.code to) (homes_of s.world.memory) vs us
      (record { ty = ptr; name = given }) k.callee.params (many_values h.code t.top.values k.args ∙ k.many) k.callee.room

  there : value_in (plain_step h t).top.values given ≡ nth us few
  there = ap (λ (z : PlainState). value_in z.top.values given) (goes ∙ tally.is) ∙ there_called

  pub given_frame : IsGivenFrame g (framed_step g s) (plain_step h t)
  given_frame = subst (λ (z : State). IsGivenFrame g z (plain_step h t)) (sym is) (record {
    frame = last_value vs;
    mode = refl;
    stands = subst (λ (v : Value). IsValue (homes_of s.world.memory) v (value_in (plain_step h t).top.values given))
        (sym last_is)
        (subst (λ (u : Value). IsValue (homes_of s.world.memory) (nth vs few) u) (sym there)
        (nth_kept (homes_of s.world.memory) vs us few stand));
  })

  -- ---- the step

  stands_given : (frame : Value) → Mode.GivenRamp (last_value vs) ≡ Mode.GivenRamp frame
      → IsValue (homes_of s.world.memory) frame (value_in (plain_called h.code to us k.result).values given)
  stands_given frame e = subst (λ (v : Value). IsValue (homes_of s.world.memory) v
      (value_in (plain_called h.code to us k.result).values given)) (sym last_is ∙ same e)
      (subst (λ (u : Value). IsValue (homes_of s.world.memory) (nth vs few) u) (sym there_called)
      (nth_kept (homes_of s.world.memory) vs us few stand))
    where
      same : Mode.GivenRamp (last_value vs) ≡ Mode.GivenRamp frame → last_value vs ≡ frame
      same e = cc

  know : KnowsGiven g s t → KnowsGiven g (push s a) (counted h to entered)
  know known = subst (KnowsGiven g (push s a)) (sym tally.is)
      (calls_knows g h s t k.func (Mode.GivenRamp (last_value vs)) k.result to
      (plain_called h.code to us k.result).values known stands_given
      (λ frame e. called_given g.given.code s.top.func s.top.block s.top.at k.result false k.ty k.name k.args k.there
      k.func k.gives)
      (λ frame e sets. result_unset g h s t r frame e s.top.block s.top.at i k.there
      (given_name (shape_at g s.top.func)) sets refl))

  pub given_call_followed : IsFollowed g h s t
  given_call_followed = call_followed g h s t r runs (push s a) (counted h to entered) is goes
      (subst (λ (x : Fetched). 2 ≤ weight x) (sym k.there) (omega arith))
      (more (left_of_call a) (left_of_call s.top) (left_of_calls s.below) (left_low a)) related know
    where
      more : (n a b : ℕ) → n ≤ 1 → n + (a + b) ≤ 1 + (a + b)
      more n a b low = omega arith
