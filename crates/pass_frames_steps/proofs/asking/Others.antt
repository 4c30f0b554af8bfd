-- A function that is no coroutine asks for a value: the framed run gives what stands for it.
use Rattle.std.proofs.Common.{◌≡◌, ◌+◌, ◌&&◌, ◌∷◌, ◌∙◌, [], Bool, List, None, Option, Some, ap, false, refl, subst, suc, sym, zero, ℕ}
use Rattle.pass_frames_code.specs.ir_base.declared.outcome.Outcome.{Outcome}
use Rattle.pass_frames_code.specs.ir_model.Ty.{Ty}
use Rattle.pass_frames_code.specs.ir_model.declared.instr.Instr.{Instr}
use Rattle.pass_frames_code.specs.ir_model.declared.operand.Arg.{Arg}
use Rattle.pass_frames_code.specs.ir_model.declared.operand.Callee.{Callee}
use Rattle.pass_frames_code.specs.ir_model.declared.operand.Intrinsic.{Intrinsic}
use Rattle.pass_frames_code.specs.ir_paths.Windows.{operand_at}
use Rattle.pass_frames_code.specs.ir_paths.declared.point.Point.{Point}
use Rattle.pass_frames_steps.proofs.asking.Given.{asked}
use Rattle.pass_frames_code.proofs.lined.Lines.{framed_does}
use Rattle.pass_frames_code.proofs.stepping.Other.{AreStanding, cost_one, fetched_there, here_is, memory_left, one_followed, one_standing, operand_stands, related_left, stands}
use Rattle.pass_frames_code.proofs.stepping.Stands.{renewed_does}
use Rattle.pass_frames_code.specs.Asking.{GivesAlike, IsAsking, IsAtOtherAsking}
use Rattle.pass_frames_code.specs.Followed.{IsFollowed}
use Rattle.pass_frames_code.specs.Meaning.{other_cost}
use Rattle.pass_frames_code.specs.Related.{AreBuiltOf, Building, is_coroutine}
use Rattle.pass_frames_code.specs.Stepping.{AreGiven, IsNotEntering}
use Rattle.pass_frames_code.specs.pass_renewed_proof.Renewed.{RenewedGiven, continue_renewed, is_flagged, renewed_step}
use Rattle.pass_frames_code.specs.run_framed.Framed.{framed_context, framed_coro, framed_step}
use Rattle.pass_frames_code.specs.run_laws.memory.Pointers.{IsValue}
use Rattle.pass_frames_code.specs.run_memory.declared.pointer.Value.{Value}
use Rattle.pass_frames_code.specs.run_source.Source.{context_of}
use Rattle.pass_frames_code.specs.run_source.State.{gives, or_undefined, work_of}
use Rattle.pass_frames_code.specs.run_source.declared.state.State.{State}
use Rattle.pass_frames_code.specs.run_step.Step.{AtInstr, Context, Coro, Fetched, Work, action_of, intrinsic_call, is_lifetime}
use Rattle.pass_frames_code.specs.run_step.Values.{arg_values, nth, with_result}

-- ---- a value is given to a name

module _ (b : Building) (g : RenewedGiven) (given : AreGiven b g) (s t : State) (r : AreBuiltOf b s t)
    (plain : is_coroutine b s.top.func ≡ false) (runs : s.outcome ≡ Outcome.Running)
    (mode : IsNotEntering s.top.mode) where
  standing_given : (result : Option ℕ) (v u : Value) → IsValue r.homes v u
      → AreStanding r.homes (with_result s.top.values result v) (with_result t.top.values result u)
  standing_given None v u h = stands b g given s t r plain runs mode
  standing_given (Some k) v u h =
      one_standing r.homes s.top.values t.top.values k v u (stands b g given s t r plain runs mode) h

  pub gives_next : (result : Option ℕ) (v u : Value) → IsValue r.homes v u
      → AreBuiltOf b (gives s result v) (gives t result u)
  gives_next result v u h =
      subst
      (λ (p : Point). AreBuiltOf b (gives s result v)
      (record t {
        top = record t.top { block = p.block; at = p.at + 1; values = with_result t.top.values result u };
      }))
      (sym (here_is b g given s t r plain runs mode))
      (related_left b g given s t r plain runs mode s.world t.world s.top.block (s.top.at + 1)
      (with_result s.top.values result v) (with_result t.top.values result u) r.world
      (memory_left b g given s t r plain runs mode s.world t.world refl refl) (standing_given result v u h))

  pub nth_stands : (args : List Arg) (n : ℕ)
      → IsValue r.homes (nth (arg_values g.given.code s.top.values args) n)
      (nth (arg_values b.given.given.code t.top.values args) n)
  nth_stands [] n = tt
  nth_stands (x ∷ args) zero = operand_stands b g given s t r plain runs mode x.value x.ty
  nth_stands (x ∷ args) (suc n) = nth_stands args n

-- ---- what such intrinsics are

pub asks : (c : Context) (w : Work) (i : Intrinsic) → IsAsking i → (result : Option ℕ) (args : List Arg)
    (vs : List Value) → intrinsic_call c w i result args vs ≡ Coro i args result
asks c w Intrinsic.CoroSizeI32 q result args vs = refl
asks c w Intrinsic.CoroSizeI64 q result args vs = refl
asks c w Intrinsic.CoroAlignI32 q result args vs = refl
asks c w Intrinsic.CoroAlignI64 q result args vs = refl
asks c w Intrinsic.CoroAlloc q result args vs = refl
asks c w Intrinsic.CoroFrame q result args vs = refl
asks c w Intrinsic.CoroDone q result args vs = refl
asks c w Intrinsic.CoroPromise q result args vs = refl
asks c w _ q result args vs = absurd q

pub no_marker : (i : Intrinsic) → IsAsking i → is_lifetime (Callee.Intrinsic i) ≡ false
no_marker Intrinsic.CoroSizeI32 q = refl
no_marker Intrinsic.CoroSizeI64 q = refl
no_marker Intrinsic.CoroAlignI32 q = refl
no_marker Intrinsic.CoroAlignI64 q = refl
no_marker Intrinsic.CoroAlloc q = refl
no_marker Intrinsic.CoroFrame q = refl
no_marker Intrinsic.CoroDone q = refl
no_marker Intrinsic.CoroPromise q = refl
no_marker _ q = absurd q

one_cost : (b : Building) (g : RenewedGiven) (s : State) (i : Intrinsic) → IsAsking i → (args : List Arg)
    (result : Option ℕ) → other_cost b g s (Coro i args result) ≡ 1
one_cost b g s Intrinsic.CoroSizeI32 q args result = refl
one_cost b g s Intrinsic.CoroSizeI64 q args result = refl
one_cost b g s Intrinsic.CoroAlignI32 q args result = refl
one_cost b g s Intrinsic.CoroAlignI64 q args result = refl
one_cost b g s Intrinsic.CoroAlloc q args result = refl
one_cost b g s Intrinsic.CoroFrame q args result = refl
one_cost b g s Intrinsic.CoroDone q args result = refl
one_cost b g s Intrinsic.CoroPromise q args result = refl
one_cost b g s _ q args result = absurd q

-- ---- the step

module _ (b : Building) (g : RenewedGiven) (given : AreGiven b g) (s t : State) (r : AreBuiltOf b s t) (i : Intrinsic)
    (result : Option ℕ) (must_tail : Bool) (ty : Option Ty) (args : List Arg) (after : State)
    (h : IsAtOtherAsking b g s i result must_tail ty args after) where
  abbrev here : Fetched
  here = AtInstr (Instr.Call result must_tail ty (Callee.Intrinsic i) args)

  abbrev vs : List Value
  vs = arg_values g.given.code s.top.values args

  abbrev us : List Value
  us = arg_values b.given.given.code t.top.values args

  alike : GivesAlike r.homes s t result after (framed_coro b.given t i args us result)
  alike =
      asked b g given s t r h.may t.world t.top.block t.top.at t.top.values i h.asking (continue_renewed g) args args vs
      us result (nth_stands b g given s t r h.plain h.runs h.mode args 0) refl after h.does

  source_is : renewed_step g s ≡ gives s result alike.value
  source_is =
      renewed_does g s here (Coro i args result) h.runs h.there
      (ap (λ (k : Bool). k && is_flagged (g.flags s.top.func) (operand_at args 1)) (no_marker i h.asking))
      (asks (context_of g.given s) (work_of s) i h.asking result args vs)
      ∙ ap (or_undefined g.given s) h.does
      ∙ alike.source

  target_is : framed_step b.given t ≡ gives t result alike.other
  target_is =
      framed_does b.given t here (Coro i args result) (r.outcome ∙ h.runs)
      (fetched_there b g given s t r h.plain h.runs h.mode here h.there) refl
      (asks (framed_context b.given t) (work_of t) i h.asking result args us)
      ∙ ap (or_undefined b.given.given t) alike.target

  pub other_asked : IsFollowed b g s t
  other_asked =
      one_followed b g s t
      (cost_one b g given s t r h.plain h.runs h.mode (Coro i args result)
      (ap (action_of (context_of g.given s) (work_of s)) h.there
      ∙ asks (context_of g.given s) (work_of s) i h.asking result args vs) (one_cost b g s i h.asking args result))
      (subst (λ (p : State × State). AreBuiltOf b p.0 p.1) (λ k. (sym source_is k, sym target_is k))
      (gives_next b g given s t r h.plain h.runs h.mode result alike.value alike.other alike.stands))
