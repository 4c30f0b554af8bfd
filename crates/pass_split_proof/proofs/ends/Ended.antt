-- The end of a coroutine is followed in a ramp, which goes on behind it.
use Rattle.std.proofs.Common.{◌≡◌, ℕ, ◌+◌, ◌≤◌, Bool, false, List, length, Option, Some, None, refl, sym, ap, ◌∙◌, arith, if◌then◌else◌}
use Rattle.std.proofs.lemmas.Bool.{false≢true}
use Rattle.pass_proofs.specs.ir_base.declared.ops.BinOp.{BinOp}
use Rattle.pass_proofs.specs.ir_base.declared.outcome.Outcome.{Outcome}
use Rattle.pass_proofs.specs.ir_model.Names.{function_at}
use Rattle.pass_proofs.specs.ir_model.Ty.{Ty, int}
use Rattle.pass_proofs.specs.ir_model.declared.instr.Instr.{Instr}
use Rattle.pass_proofs.specs.ir_model.declared.module.Function.{Function}
use Rattle.pass_proofs.specs.ir_model.declared.operand.Arg.{Arg}
use Rattle.pass_proofs.specs.ir_model.declared.operand.Callee.{Callee}
use Rattle.pass_proofs.specs.ir_model.declared.operand.Intrinsic.{Intrinsic}
use Rattle.pass_proofs.specs.pass_intrinsics.Cuts.{cut_at, goes_on}
use Rattle.pass_proofs.specs.pass_intrinsics.Lowered.{no_flags, truth_of}
use Rattle.pass_proofs.specs.pass_intrinsics.declared.cuts.Cut.{Cut}
use Rattle.pass_proofs.specs.pass_intrinsics.declared.shape.Part.{Part}
use Rattle.pass_proofs.specs.pass_intrinsics.declared.shape.Shape.{Shape}
use Rattle.pass_split_proof.proofs.ends.Finished.{HasEnded, has_ended}
use Rattle.pass_split_proof.proofs.giving.Constants.{not_again}
use Rattle.pass_split_proof.proofs.giving.Given.{nothing_there}
use Rattle.pass_split_proof.proofs.giving.Small.{truth_done}
use Rattle.pass_split_proof.proofs.silent.Measure.{next_lower}
use Rattle.pass_split_proof.proofs.simulation.Knowing.{goes_knows, set_kept}
use Rattle.pass_split_proof.proofs.states.Advanced.{advanced}
use Rattle.pass_split_proof.proofs.states.Values.{values_set}
use Rattle.pass_split_proof.proofs.steps.Followed.{framed_does, none_followed, one_followed}
use Rattle.pass_split_proof.proofs.steps.Ordinary.{IsCopied, alone}
use Rattle.pass_split_proof.proofs.steps.Settled.{plain_does}
use Rattle.pass_split_proof.specs.ends.Ending.{HasOwnFrame}
use Rattle.pass_split_proof.specs.giving.Intrinsics.{IsAtIntrinsic}
use Rattle.pass_split_proof.specs.simulation.Followed.{IsFollowed}
use Rattle.pass_split_proof.specs.states.Activations.{Inside, RunsPart}
use Rattle.pass_split_proof.specs.states.Memories.{AreWorldsBeside, homes_of}
use Rattle.pass_split_proof.specs.states.Related.{AreRelated, credit_of}
use Rattle.pass_split_proof.specs.states.Values.{AreValuesOf}
use Rattle.pass_proofs.specs.run_framed.Framed.{FramedGiven, framed_step}
use Rattle.pass_proofs.proofs.run_laws.transfer.Sets.{set_elsewhere, set_length, sets_name}
use Rattle.run_access_worked.specs.run_plain.Plain.{PlainGiven, plain_context, plain_settled, plain_work}
use Rattle.run_access_worked.specs.run_plain.declared.state.PlainState.{PlainState}
use Rattle.pass_proofs.specs.run_source.Source.{after_end}
use Rattle.pass_proofs.specs.run_source.State.{function_of, gives, next, or_undefined}
use Rattle.pass_proofs.specs.run_source.declared.state.Instance.{Instance}
use Rattle.pass_proofs.specs.run_source.declared.state.Mode.{Mode}
use Rattle.pass_proofs.specs.run_source.declared.state.State.{State}
use Rattle.pass_proofs.specs.run_step.Step.{AtInstr, Coro, Done, fetch, set_value}
use Rattle.pass_proofs.specs.run_step.Values.{truth_value, with_value}

abbrev pub at_end : Option ℕ → Bool → Option Ty → List Arg → Instr
at_end result must_tail ty args = Instr.Call result must_tail ty (Callee.Intrinsic Intrinsic.CoroEnd) args

-- in a part that doesn't go on the end stays
pub cut_stays : (s : Shape) (part : Part) (result : Option ℕ) (must_tail : Bool) (ty : Option Ty) (args : List Arg)
    (after : List Instr) → goes_on part ≡ false → cut_at s part (at_end result must_tail ty args) after ≡ Cut.Stays
cut_stays s part result must_tail ty args after e = ap (λ (b : Bool). if b then Cut.Returns else Cut.Stays) e

module _ (g : FramedGiven) (h : PlainGiven) (s : State) (t : PlainState) (r : AreRelated g h s t)
    (runs : s.outcome ≡ Outcome.Running) (allocated : HasOwnFrame s) where
  abbrev f : Function
  f = function_of g.given s

  abbrev q : Function
  q = function_at h.code t.top.func

  ended : HasEnded g h s t
  ended = has_ended g h s t r allocated

  abbrev ys : List Instance
  ys = ended.instances

  world : AreWorldsBeside g ys s.world t.world
  world = record {
    memory = ended.beside;
    events = r.world.events;
    answers = r.world.answers;
    allocs = r.world.allocs;
  }

  reach : (n : ℕ) → n ≤ n
  reach n = omega arith

  -- what the framed run does, by the mode
  does : (mode : Mode) (result : Option ℕ) (must_tail : Bool) (ty : Option Ty) (args : List Arg) → s.top.mode ≡ mode
      → fetch f s.top.block s.top.at ≡ AtInstr (at_end result must_tail ty args)
      → framed_step g s ≡ or_undefined g.given s (after_end (record s { instances = ys }) result mode)
  does mode result must_tail ty args e there = framed_does g s (AtInstr (at_end result must_tail ty args))
      (Coro Intrinsic.CoroEnd args result) runs there refl refl
      ∙ ap (λ (z : State). or_undefined g.given s (after_end z result s.top.mode)) ended.is
      ∙ ap (λ (m : Mode). or_undefined g.given s (after_end (record s { instances = ys }) result m)) e

  -- ---- in a ramp

  module _ (k : IsAtIntrinsic g h s t r Intrinsic.CoroEnd) (ramp : goes_on r.top.part ≡ false) where
    abbrev z : State
    z = record s { instances = ys }

    by_mode : (mode : Mode) → RunsPart mode r.top.part → s.top.mode ≡ mode
        → framed_step g s ≡ gives z k.result (truth_value false)
    by_mode Mode.Plain e m = does Mode.Plain k.result k.must_tail k.ty k.args m k.there
    by_mode Mode.Ramp e m = does Mode.Ramp k.result k.must_tail k.ty k.args m k.there
    by_mode (Mode.GivenRamp frame) e m = does (Mode.GivenRamp frame) k.result k.must_tail k.ty k.args m k.there
    by_mode Mode.Resumed e m = absurd (false≢true (sym ramp ∙ e))
    by_mode (Mode.Entering from label) e m = absurd (false≢true (sym ramp ∙ e))

    is : framed_step g s ≡ gives z k.result (truth_value false)
    is = by_mode s.top.mode r.top.runs refl

    -- without a name
    none_ends : k.result ≡ None → IsFollowed g h s t
    none_ends e = none_followed g h s t r runs (next z)
        (is ∙ ap (λ (o : Option ℕ). gives z o (truth_value false)) e) (reach (credit_of s))
        (next_lower f s.top.block s.top.at (at_end k.result k.must_tail k.ty k.args) k.there)
        (advanced g h s t r (record { world = s.world; values = s.top.values }) (plain_work t) ys s.top.block
        (s.top.at + 1) t.top.block t.top.at s.top.has_left k.settled world ended.frames ended.keeps
        (reach (length s.world.memory)) (record { each = λ b e. refl }) r.top.values refl refl refl
        (Inside s.top.mode k.settled (nothing_there r.top.shape r.top.part f q s.top.block s.top.at t.top.block t.top.at
        (at_end None k.must_tail k.ty k.args)
        (record {
          begins = not_again r.top.part (at_end None k.must_tail k.ty k.args) refl;
          cut = λ after. cut_stays r.top.shape r.top.part None k.must_tail k.ty k.args after ramp;
          lowered = λ n. refl;
        })
        k.place (k.there ∙ ap (λ (o : Option ℕ). AtInstr (at_end o k.must_tail k.ty k.args)) e))))
        (λ know. goes_knows g s t ys s.world.memory t.top.values (record { each = λ b e. refl }) ended.places
        know (λ frame e. refl))

    -- with one
    module _ (name : ℕ) (e : k.result ≡ Some name) where
      abbrev falsity : Instr
      falsity = Instr.Binary name BinOp.And no_flags (int 1) (truth_of false) (truth_of false)

      copied : IsCopied r.top.shape r.top.part f q s.top.block s.top.at t.top.block t.top.at falsity
      copied = alone r.top.shape r.top.part f q s.top.block s.top.at t.top.block t.top.at
          (at_end (Some name) k.must_tail k.ty k.args) falsity
          (record {
            begins = not_again r.top.part (at_end (Some name) k.must_tail k.ty k.args) refl;
            cut = λ after. cut_stays r.top.shape r.top.part (Some name) k.must_tail k.ty k.args after ramp;
            lowered = λ n. refl;
          })
          k.place (k.there ∙ ap (λ (o : Option ℕ). AtInstr (at_end o k.must_tail k.ty k.args)) e)

      stand : AreValuesOf f (homes_of s.world.memory) (with_value s.top.values name (truth_value false))
          (with_value t.top.values name (truth_value false))
      stand = values_set f (homes_of s.world.memory) (Some name) s.top.values t.top.values
          (with_value s.top.values name (truth_value false)) (with_value t.top.values name (truth_value false))
          r.top.values (sets_name (homes_of s.world.memory) s.top.values t.top.values r.top.values.room name
          (truth_value false) (truth_value false) refl)

      one_ends : IsFollowed g h s t
      one_ends = one_followed g h s t r runs (gives z (Some name) (truth_value false))
          (plain_settled t (set_value (plain_work t) name (truth_value false)))
          (is ∙ ap (λ (o : Option ℕ). gives z o (truth_value false)) e)
          (plain_does h t (AtInstr falsity) (Done (set_value (plain_work t) name (truth_value false)))
          (r.outcome ∙ runs) copied.0 (truth_done (plain_context h t) (plain_work t) name false))
          (reach (credit_of s))
          (advanced g h s t r
          (record { world = s.world; values = with_value s.top.values name (truth_value false) })
          (set_value (plain_work t) name (truth_value false)) ys s.top.block (s.top.at + 1) t.top.block (t.top.at + 1)
          s.top.has_left k.settled world ended.frames ended.keeps (reach (length s.world.memory))
          (record { each = λ b e. refl }) stand (set_length s.top.values name (truth_value false))
          (set_length t.top.values name (truth_value false))
          (set_elsewhere t.top.values name r.top.shape.begin (truth_value false)
          (λ n. k.others (e ∙ ap (λ (a : ℕ). Some a) n)))
          (Inside s.top.mode k.settled copied.1))
          (λ know. goes_knows g s t ys s.world.memory (with_value t.top.values name (truth_value false))
          (record { each = λ b e. refl })
          ended.places know (set_kept g h s t r t.top.values (truth_value false) s.top.block s.top.at
          (at_end k.result k.must_tail k.ty k.args) k.there name e))

    by_result : (o : Option ℕ) → k.result ≡ o → IsFollowed g h s t
    by_result None e = none_ends e
    by_result (Some name) e = one_ends name e

    pub ramp_ends : IsFollowed g h s t
    ramp_ends = by_result k.result refl
