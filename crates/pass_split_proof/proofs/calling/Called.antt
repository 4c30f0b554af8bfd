-- A call of a function, or of a ramp, is followed in the part.
use Rattle.std.proofs.Common.{◌≡◌, ℕ, ◌+◌, ◌≤◌, Bool, true, false, List, [], ◌∷◌, length, Option, refl, sym, ap, ◌∙◌, subst, arith, if◌then◌else◌}
use Rattle.std.specs.Prelude.{is_none, ◌&&◌}
use Rattle.pass_proofs.specs.ir_base.declared.outcome.Outcome.{Outcome}
use Rattle.pass_proofs.specs.ir_model.Names.{declaration_named, function_at}
use Rattle.pass_proofs.specs.ir_model.declared.instr.Instr.{Instr}
use Rattle.pass_proofs.specs.ir_model.declared.module.Function.{Function}
use Rattle.pass_proofs.specs.ir_model.declared.operand.Arg.{Arg}
use Rattle.pass_proofs.specs.ir_model.declared.operand.Callee.{Callee}
use Rattle.pass_proofs.specs.pass_intrinsics.declared.shape.Part.{Part}
use Rattle.pass_proofs.specs.pass_split.Pieces.{begins_again}
use Rattle.pass_proofs.specs.pass_intrinsics.Shapes.{given_name}
use Rattle.pass_split_proof.proofs.simulation.Knowing.{calls_knows, result_unset}
use Rattle.pass_split_proof.specs.simulation.Knowing.{KnowsGiven}
use Rattle.pass_proofs.specs.run_source.declared.state.Mode.{Mode}
use Rattle.pass_split_proof.proofs.steps.Calling.{IsCounted, counted_is, counted_related}
use Rattle.pass_split_proof.proofs.steps.Entered.{calls_related}
use Rattle.pass_split_proof.proofs.steps.Followed.{call_followed, framed_does}
use Rattle.pass_split_proof.proofs.steps.Operands.{operand_stands}
use Rattle.pass_split_proof.proofs.steps.Ordinary.{IsCopied, alone}
use Rattle.pass_split_proof.proofs.steps.Settled.{plain_does}
use Rattle.pass_split_proof.specs.calling.Named.{IsAtCall}
use Rattle.pass_split_proof.specs.simulation.Followed.{IsFollowed}
use Rattle.pass_split_proof.specs.states.Activations.{Inside}
use Rattle.pass_split_proof.specs.states.Instances.{part_position, shape_at}
use Rattle.pass_split_proof.specs.states.Memories.{homes_of}
use Rattle.pass_split_proof.specs.states.Related.{AreRelated, is_ramp, left_of_call, left_of_calls, weight}
use Rattle.pass_split_proof.specs.steps.Operands.{IsReadable}
use Rattle.pass_proofs.specs.run_framed.Framed.{FramedGiven, enter_given, framed_context, framed_step}
use Rattle.pass_proofs.specs.run_laws.changed.Changed.{Each, values_of}
use Rattle.pass_proofs.specs.run_laws.embedded.Related.{AreValues}
use Rattle.pass_proofs.specs.run_memory.declared.pointer.Value.{Value}
use Rattle.run_access_worked.specs.run_plain.Plain.{PlainGiven, counted, plain_call, plain_called, plain_context, plain_step, plain_work}
use Rattle.run_access_worked.specs.run_plain.declared.state.PlainState.{PlainState}
use Rattle.pass_proofs.specs.run_source.Source.{enter, mode_of}
use Rattle.pass_proofs.specs.run_source.State.{function_of, work_of}
use Rattle.pass_proofs.specs.run_source.declared.state.Activation.{Activation}
use Rattle.pass_proofs.specs.run_source.declared.state.State.{State}
use Rattle.pass_proofs.specs.run_step.Step.{AtInstr, Enter, Fetched, action_of, named_call}
use Rattle.pass_proofs.specs.run_step.Values.{arg_values}

-- a call by the name of a function gives no frame
called_ungiven : (coroutine : Bool) (frame : Value) → (if coroutine then Mode.Ramp else Mode.Plain)
    ≡ Mode.GivenRamp frame → ⊥
called_ungiven true frame e = cc
called_ungiven false frame e = cc

-- a call makes at most one ramp more that hasn't begun
pub left_low : (a : Activation) → left_of_call a ≤ 1
left_low a = on (is_ramp a.mode && is_none a.instance)
  where
    on : (b : Bool) → (if b then 1 else 0) ≤ 1
    on true = omega arith
    on false = omega arith

module _ (g : FramedGiven) (h : PlainGiven) (s : State) (t : PlainState) (r : AreRelated g h s t) where
  -- arguments that may be read stand for each other
  pub args_stand : (args : List Arg) → Each (IsReadable g.given.code h.code (function_of g.given s)) (values_of args)
      → AreValues (homes_of s.world.memory) (arg_values g.given.code s.top.values args)
      (arg_values h.code t.top.values args)
  args_stand [] e = tt
  args_stand (a ∷ args) e = (
    operand_stands g.given.code h.code (function_of g.given s) (length s.world.memory) s.top.values t.top.values
        r.globals r.top.values a.value e.0 a.ty,
    args_stand args e.1,
  )

  module _ (runs : s.outcome ≡ Outcome.Running) (k : IsAtCall g h s t r) where
    abbrev f : Function
    f = function_of g.given s

    abbrev q : Function
    q = function_at h.code t.top.func

    abbrev i : Instr
    i = Instr.Call k.result false k.ty (Callee.Named k.name) k.args

    abbrev to : ℕ
    to = part_position g k.func Part.Ramp

    abbrev vs : List Value
    vs = arg_values g.given.code s.top.values k.args

    abbrev us : List Value
    us = arg_values h.code t.top.values k.args

    not_again : (part : Part) → begins_again part i ≡ false
    not_again Part.Ramp = refl
    not_again Part.GivenRamp = refl
    not_again Part.Resume = refl
    not_again Part.Destroy = refl
    not_again Part.Cleanup = refl

    copied : IsCopied r.top.shape r.top.part f q s.top.block s.top.at t.top.block t.top.at i
    copied = alone r.top.shape r.top.part f q s.top.block s.top.at t.top.block t.top.at i i
        (record { begins = not_again r.top.part; cut = λ after. refl; lowered = λ n. refl }) k.place k.there

    ours : action_of (framed_context g s) (work_of s) (AtInstr i) ≡ Enter k.func vs k.result false
    ours = ap (λ (o : Option ℕ). named_call (framed_context g s) (work_of s) o (declaration_named g.given.code k.name)
        k.ty k.result false vs) k.calls

    theirs : action_of (plain_context h t) (plain_work t) (AtInstr i) ≡ Enter to us k.result false
    theirs = ap (λ (o : Option ℕ). named_call (plain_context h t) (plain_work t) o (declaration_named h.code k.name)
        k.ty k.result false us) k.moves

    is : framed_step g s ≡ enter g.given s k.func vs k.result
    is = framed_does g s (AtInstr i) (Enter k.func vs k.result false) runs k.there
        (ap (enter_given g s k.result vs) k.ungiven) ours

    goes : plain_step h t ≡ counted h to (plain_call h t to us k.result false)
    goes = plain_does h t (AtInstr i) (Enter to us k.result false) (r.outcome ∙ runs) copied.0 theirs

    tally : IsCounted (plain_call h t to us k.result false) (counted h to (plain_call h t to us k.result false))
    tally = counted_is h to (plain_call h t to us k.result false)

    related : AreRelated g h (enter g.given s k.func vs k.result) (counted h to (plain_call h t to us k.result false))
    related = subst (AreRelated g h (enter g.given s k.func vs k.result)) (sym tally.is)
        (counted_related g h (enter g.given s k.func vs k.result) (plain_call h t to us k.result false) tally.count
        (calls_related g h s t r k.func vs us k.result k.callee (args_stand k.args k.readable) k.settled
        (Inside s.top.mode k.settled copied.1)
        (record { before = s.top.at; at = refl; instr = i; there = k.there; is = refl }) k.others))

    know : KnowsGiven g s t
        → KnowsGiven g (enter g.given s k.func vs k.result) (counted h to (plain_call h t to us k.result false))
    know known = subst (KnowsGiven g (enter g.given s k.func vs k.result)) (sym tally.is)
        (calls_knows g h s t k.func (mode_of (function_at g.given.code k.func)) k.result to
        (plain_called h.code to us k.result).values known
        (λ frame e. absurd (called_ungiven (function_at g.given.code k.func).coroutine frame e))
        (λ frame e. absurd (called_ungiven (function_at g.given.code k.func).coroutine frame e))
        (λ frame e sets. result_unset g h s t r frame e s.top.block s.top.at i k.there
        (given_name (shape_at g s.top.func)) sets refl))

    pub call_to_followed : IsFollowed g h s t
    call_to_followed = call_followed g h s t r runs (enter g.given s k.func vs k.result)
        (counted h to (plain_call h t to us k.result false)) is goes
        (subst (λ (x : Fetched). 2 ≤ weight x) (sym k.there) (omega arith))
        (more (left_of_call (enter g.given s k.func vs k.result).top) (left_of_call s.top) (left_of_calls s.below)
        (left_low (enter g.given s k.func vs k.result).top)) related know
      where
        more : (n a b : ℕ) → n ≤ 1 → n + (a + b) ≤ 1 + (a + b)
        more n a b low = omega arith
