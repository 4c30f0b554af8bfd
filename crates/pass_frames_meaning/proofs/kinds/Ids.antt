-- coro.id of a coroutine is followed: the framed form names no promise, and it gives nothing in either run.
use Rattle.std.proofs.Common.{◌≡◌, ℕ, ◌+◌, ◌-◌, ◌≤◌, Bool, true, false, List, [], ◌∷◌, Option, Some, None, refl, sym, ap, ◌∙◌, subst, arith, if◌then◌else◌}
use Rattle.std.specs.Prelude.{slice_get}
use Rattle.std.proofs.lemmas.Bool.{and_parts}
use Rattle.pass_frames_proof.specs.flow_solver.Paths.{IsListed}
use Rattle.pass_frames_proof.specs.ir_base.declared.outcome.Outcome.{Outcome}
use Rattle.pass_frames_proof.specs.ir_model.Names.{function_at}
use Rattle.pass_frames_proof.specs.ir_model.Ty.{Ty, token}
use Rattle.pass_frames_proof.specs.ir_model.declared.instr.Instr.{Instr}
use Rattle.pass_frames_proof.specs.ir_model.declared.module.Function.{Function}
use Rattle.pass_frames_proof.specs.ir_model.declared.operand.Arg.{Arg}
use Rattle.pass_frames_proof.specs.ir_model.declared.operand.Callee.{Callee}
use Rattle.pass_frames_proof.specs.ir_model.declared.operand.Intrinsic.{Intrinsic}
use Rattle.pass_frames_proof.specs.ir_model.declared.operand.Operand.{Operand}
use Rattle.pass_frames_proof.specs.ir_parts.Contents.{instr_operands}
use Rattle.pass_frames_proof.specs.ir_paths.Slots.{allocas_of}
use Rattle.pass_frames_proof.specs.ir_paths.Windows.{operand_at}
use Rattle.pass_frames_proof.specs.ir_paths.declared.point.Point.{Point}
use Rattle.pass_frames_proof.specs.pass_addresses.Placing.{with_null, without_promise_of}
use Rattle.pass_frames_proof.specs.pass_cells.Cells.{fetches_of}
use Rattle.pass_frames_proof.specs.pass_fetch.Fetching.{fetch_of}
use Rattle.pass_frames_proof.specs.pass_fetch.declared.fetch.Fetch.{Fetch}
use Rattle.pass_frames_meaning.proofs.coroutines.Tokens.{token_nowhere}
use Rattle.pass_frames_meaning.proofs.kinds.Going.{going_related}
use Rattle.pass_frames_meaning.proofs.kinds.Unkept.{AreFour, alloca_unloaded, four_wanted, literal_unfetched, token_given}
use Rattle.pass_frames_meaning.proofs.others.AtPlace.{args_wanted}
use Rattle.pass_frames_meaning.proofs.others.Returns.{instr_in, no_return}
use Rattle.pass_frames_meaning.specs.Coroutines.{IsNowhere}
use Rattle.pass_frames_meaning.specs.Kinds.{KeepsKinds}
use Rattle.pass_frames_meaning.specs.Setting.{AreOfRuns, KeepsAll, Setting}
use Rattle.pass_frames_proof.proofs.asking.Ids.{id_code}
use Rattle.pass_frames_proof.proofs.lined.Lines.{framed_does}
use Rattle.pass_frames_proof.proofs.stepping.Codes.{code_stands}
use Rattle.pass_frames_proof.proofs.stepping.Other.{one_followed}
use Rattle.pass_frames_proof.proofs.stepping.Stands.{cost_is, renewed_does, top_is}
use Rattle.pass_frames_proof.specs.Code.{slot_table}
use Rattle.pass_frames_proof.specs.Followed.{IsFollowed}
use Rattle.pass_frames_proof.specs.Framings.{IsFraming}
use Rattle.pass_frames_proof.specs.Meaning.{action_at, coroutine_cost, other_cost, step_cost}
use Rattle.pass_frames_proof.specs.Places.{Framing, edged, framed, instrs_at, is_return, place, plan}
use Rattle.pass_frames_proof.specs.Related.{AreBuiltOf, is_coroutine, point_of}
use Rattle.pass_frames_proof.specs.Stepping.{IsNotEntering, StandsInPlace}
use Rattle.pass_frames_proof.specs.pass_proofs.fetch.rules.Fetches.{AreUnfetched}
use Rattle.pass_frames_proof.specs.pass_renewed_proof.Renewed.{renewed_step}
use Rattle.pass_frames_proof.specs.rule_types.Signatures.{are_wanted}
use Rattle.pass_frames_proof.specs.rule_types.Wants.{any, intrinsic_params, is_basic, meets, want}
use Rattle.pass_frames_proof.specs.rule_types.declared.wants.Basic.{Basic}
use Rattle.pass_frames_proof.specs.rule_types.declared.wants.Demand.{Demand}
use Rattle.pass_frames_proof.specs.rule_values.Fits.{fits_kind}
use Rattle.pass_frames_proof.specs.rule_values.Kinds.{value_kind}
use Rattle.pass_frames_proof.specs.rule_values.declared.kinds.Kind.{Kind}
use Rattle.pass_frames_proof.specs.run_framed.Framed.{framed_step}
use Rattle.pass_frames_proof.specs.run_source.Source.{context_of}
use Rattle.pass_frames_proof.specs.run_source.State.{function_of, next, work_of}
use Rattle.pass_frames_proof.specs.run_source.declared.state.State.{State}
use Rattle.pass_frames_proof.specs.run_step.Step.{AtInstr, Coro, Fetched, action_of, fetch}

module _ (c : Setting) (all : KeepsAll c) (kinds : KeepsKinds c) (s t : State) (r : AreBuiltOf c.b s t)
    (k : AreOfRuns c s t r) (runs : s.outcome ≡ Outcome.Running) (coroutine : is_coroutine c.b s.top.func ≡ true)
    (mode : IsNotEntering s.top.mode) (result : Option ℕ) (must_tail : Bool) (ty : Option Ty) (args : List Arg)
    (there : fetch (function_of c.g.given s) s.top.block s.top.at
    ≡ AtInstr (Instr.Call result must_tail ty (Callee.Intrinsic Intrinsic.CoroId) args)) where
  abbrev x : Framing
  x = c.b.framing s.top.func

  abbrev f : Function
  f = function_at c.g.given.code s.top.func

  is : IsFraming x
  is = all.given.framings s.top.func coroutine

  same : f ≡ edged x
  same = all.given.coroutines s.top.func coroutine

  abbrev i : Instr
  i = Instr.Call result must_tail ty (Callee.Intrinsic Intrinsic.CoroId) args

  abbrev w : Instr
  w = without_promise_of i

  stands : slice_get (instrs_at x s.top.block) s.top.at ≡ Some i
  stands = instr_in x f same s.top.block s.top.at i there

  -- ---- its operands

  wanted : are_wanted (intrinsic_params Intrinsic.CoroId) args ≡ true
  wanted = args_wanted c.g.given.code f (all.types s.top.func) s.top.block s.top.at result must_tail ty
      Intrinsic.CoroId args there

  four : AreFour args
  four = four_wanted (want Basic.I32 Demand.AlignOrZero) (any Basic.Ptr) (want Basic.Ptr Demand.Null)
      (want Basic.Ptr Demand.Null) args wanted

  abbrev shaped : List Arg
  shaped = four.first ∷ four.second ∷ four.third ∷ four.fourth ∷ []

  demanded : are_wanted (intrinsic_params Intrinsic.CoroId) shaped ≡ true
  demanded = ap (are_wanted (intrinsic_params Intrinsic.CoroId)) (sym four.are) ∙ wanted

  rest : are_wanted (want Basic.Ptr Demand.Null ∷ want Basic.Ptr Demand.Null ∷ []) (four.third ∷ four.fourth ∷ [])
      ≡ true
  rest = (and_parts _ _ (and_parts _ _ demanded).1).1

  first_is : meets Demand.AlignOrZero four.first.value ≡ true
  first_is = (and_parts (is_basic Basic.I32 four.first.ty) (meets Demand.AlignOrZero four.first.value)
      (and_parts _ _ demanded).0).1

  third_is : meets Demand.Null four.third.value ≡ true
  third_is = (and_parts (is_basic Basic.Ptr four.third.ty) (meets Demand.Null four.third.value) (and_parts _ _ rest).0).1

  fourth_is : meets Demand.Null four.fourth.value ≡ true
  fourth_is = (and_parts (is_basic Basic.Ptr four.fourth.ty) (meets Demand.Null four.fourth.value)
      (and_parts _ _ (and_parts _ _ rest).1).0).1

  module _ (T : List (Option Fetch)) where
    first_none : fetch_of T four.first.value ≡ None
    first_none = literal_unfetched T Demand.AlignOrZero four.first.value first_is (λ v. refl)

    third_none : fetch_of T four.third.value ≡ None
    third_none = literal_unfetched T Demand.Null four.third.value third_is (λ v. refl)

    fourth_none : fetch_of T four.fourth.value ≡ None
    fourth_none = literal_unfetched T Demand.Null four.fourth.value fourth_is (λ v. refl)

  promise_none : fetch_of (fetches_of (plan x)) four.second.value ≡ None
  promise_none = on four.second.value refl
    where
      on : (o : Operand) → four.second.value ≡ o → fetch_of (fetches_of (plan x)) o ≡ None
      on (Operand.Local v) e =
          alloca_unloaded x is v (subst (λ (g : Function). IsListed v (allocas_of g)) same
          (kinds.promises s.top.func s.top.block s.top.at result must_tail ty args v coroutine there
          (ap (λ (q : List Arg). operand_at q 1) four.are ∙ e)))
      on (Operand.Global n) e = refl
      on (Operand.Number n) e = refl
      on Operand.True e = refl
      on Operand.False e = refl
      on Operand.Null e = refl
      on Operand.None e = refl
      on Operand.Poison e = refl

  unloaded : AreUnfetched (fetches_of (plan x)) (instr_operands i)
  unloaded =
      subst (λ (q : List Arg). AreUnfetched (fetches_of (plan x))
      (instr_operands (Instr.Call result must_tail ty (Callee.Intrinsic Intrinsic.CoroId) q))) (sym four.are) (
        first_none (fetches_of (plan x)),
        (
          promise_none,
          (third_none (fetches_of (plan x)), (fourth_none (fetches_of (plan x)), tt)),
        ),
      )

  unplaced : AreUnfetched (slot_table x) (instr_operands w)
  unplaced =
      subst (λ (q : List Arg). AreUnfetched (slot_table x)
      (instr_operands (without_promise_of (Instr.Call result must_tail ty (Callee.Intrinsic Intrinsic.CoroId) q))))
      (sym four.are)
      (first_none (slot_table x), (refl, (third_none (slot_table x), (fourth_none (slot_table x), tt))))

  -- ---- its result

  named : (q : ℕ) → result ≡ Some q
      → fetch f s.top.block s.top.at
      ≡ AtInstr (Instr.Call (Some q) must_tail ty (Callee.Intrinsic Intrinsic.CoroId) args)
  named q e =
      there
      ∙ ap (λ (o : Option ℕ). AtInstr (Instr.Call o must_tail ty (Callee.Intrinsic Intrinsic.CoroId) args)) e

  nowhere : (q : ℕ) → result ≡ Some q → IsNowhere x q
  nowhere q e =
      token_nowhere x is q
      (ap (λ (g : Function). fits_kind (value_kind g q) token) (sym same)
      ∙ token_given c.g.given.code f (all.types s.top.func) s.top.block s.top.at q must_tail ty Intrinsic.CoroId args
      (named q e) refl Kind.Token refl refl)

  -- ---- the step

  unreturned : is_return x s.top.block ≡ false
  unreturned = no_return c all s.top.func s.top.block s.top.at i coroutine there

  abbrev here : Point
  here = record { block = s.top.block; at = s.top.at }

  stand : StandsInPlace x s.top.block s.top.at (w ∷ [])
  stand =
      code_stands x s.top.block s.top.at i (w ∷ []) stands
      (id_code x is s.top.block s.top.at result must_tail ty args stands unloaded unplaced (λ q e. (nowhere q e).unkept))
      (refl, tt) unreturned

  at_place : point_of t.top ≡ place x here
  at_place = r.top.place ∙ top_is c.b s.top coroutine mode

  block_is : t.top.block ≡ s.top.block
  block_is = ap (λ (p : Point). p.block) at_place

  at_is : t.top.at ≡ (place x here).at
  at_is = ap (λ (p : Point). p.at) at_place

  framed_is : function_of c.b.given.given t ≡ framed x
  framed_is =
      (λ j. function_at (all.given.code j) (r.top.func j)) ∙ (all.given.built.coroutines s.top.func coroutine).is

  source_is : renewed_step c.g s ≡ next s
  source_is = renewed_does c.g s (AtInstr i) (Coro Intrinsic.CoroId args result) runs there refl refl

  target_is : framed_step c.b.given t ≡ next t
  target_is =
      framed_does c.b.given t (AtInstr w) (Coro Intrinsic.CoroId (with_null args) result) (r.outcome ∙ runs)
      ((λ j. fetch (framed_is j) (block_is j) (at_is j)) ∙ stand.0.0) refl refl

  related : AreBuiltOf c.b (next s) (next t)
  related =
      going_related c.b s t r all.given.framings coroutine mode unreturned (t.top.at + 1)
      (ap (λ (q : ℕ). q + 1) at_is ∙ sym stand.1)

  cost : step_cost c.b c.g s s.top.mode ≡ 1
  cost =
      cost_is c.b c.g s s.top.mode mode
      ∙ ap (λ (q : Bool). if q then coroutine_cost c.b c.g s (action_at c.g s)
      else other_cost c.b c.g s (action_at c.g s)) coroutine
      ∙ ap (λ (z : Fetched). coroutine_cost c.b c.g s (action_of (context_of c.g.given s) (work_of s) z)) there
      ∙ ap (λ (q : ℕ). q - (place x here).at) stand.1
      ∙ behind (place x here).at
    where
      behind : (q : ℕ) → (q + 1) - q ≡ 1
      behind q = omega arith

  pub id_followed : IsFollowed c.b c.g s t
  id_followed =
      one_followed c.b c.g s t (subst (λ (q : ℕ). 1 ≤ q) (sym cost) (omega arith))
      (subst (λ (q : State × State). AreBuiltOf c.b q.0 q.1) (λ j. (sym source_is j, sym target_is j)) related)
