-- A coroutine asks for a value: its operands are fetched, what stands for the first run's value is given, and stored.
use Rattle.std.proofs.Common.{◌≡◌, ◌+◌, ◌∙◌, Bool, List, Ok, Option, ap, refl, subst, ℕ}
use Rattle.pass_frames_code.specs.ir_model.Ty.{Ty}
use Rattle.pass_frames_code.specs.ir_model.declared.operand.Arg.{Arg}
use Rattle.pass_frames_code.specs.ir_model.declared.operand.Intrinsic.{Intrinsic}
use Rattle.pass_frames_steps.proofs.asking.Given.{asked}
use Rattle.pass_frames_steps.proofs.asking.Others.{asks}
use Rattle.pass_frames_steps.proofs.here.Intrinsics.{S, argument, intrinsic_followed, literal_there, now, us, vs, width}
use Rattle.pass_frames_code.specs.Asking.{GivesAlike, IsAsking, IsAtAsking}
use Rattle.pass_frames_code.specs.Costs.{instr_cost}
use Rattle.pass_frames_code.specs.Followed.{IsFollowed}
use Rattle.pass_frames_code.specs.Lined.{lined}
use Rattle.pass_frames_code.specs.Lines.{IsStorable}
use Rattle.pass_frames_code.specs.Meaning.{coroutine_cost}
use Rattle.pass_frames_code.specs.Related.{AreBuiltOf, Building}
use Rattle.pass_frames_code.specs.Stepping.{AreGiven}
use Rattle.pass_frames_code.specs.pass_renewed_proof.Renewed.{RenewedGiven, continue_renewed}
use Rattle.pass_frames_code.specs.run_framed.Framed.{framed_coro}
use Rattle.pass_frames_code.specs.run_memory.declared.pointer.Value.{Value}
use Rattle.pass_frames_code.specs.run_source.declared.state.State.{State}
use Rattle.pass_frames_code.specs.run_step.Step.{Context, Coro, Work, intrinsic_call}
use Rattle.pass_frames_code.specs.run_step.Values.{value_in}

own_cost_of : (b : Building) (g : RenewedGiven) (s : State) (i : Intrinsic) → IsAsking i → (args : List Arg)
    (result : Option ℕ)
    → coroutine_cost b g s (Coro i args result)
    ≡ instr_cost (b.framing s.top.func) (record { block = s.top.block; at = s.top.at })
own_cost_of b g s Intrinsic.CoroSizeI32 q args result = refl
own_cost_of b g s Intrinsic.CoroSizeI64 q args result = refl
own_cost_of b g s Intrinsic.CoroAlignI32 q args result = refl
own_cost_of b g s Intrinsic.CoroAlignI64 q args result = refl
own_cost_of b g s Intrinsic.CoroAlloc q args result = refl
own_cost_of b g s Intrinsic.CoroFrame q args result = refl
own_cost_of b g s Intrinsic.CoroDone q args result = refl
own_cost_of b g s Intrinsic.CoroPromise q args result = refl
own_cost_of b g s _ q args result = absurd q

-- ---- the step

module _ (b : Building) (g : RenewedGiven) (given : AreGiven b g) (s t : State) (r : AreBuiltOf b s t) (i : Intrinsic)
    (result : Option ℕ) (must_tail : Bool) (ty : Option Ty) (args : List Arg) (after : State)
    (h : IsAtAsking b g s i result must_tail ty args after) where
  acts : (c : Context) (w : Work) (args : List Arg) (vs : List Value)
      → intrinsic_call c w i result args vs ≡ Coro i args result
  acts c w args vs = asks c w i h.asking result args vs

  costs : coroutine_cost b g s (Coro i args result)
      ≡ instr_cost (b.framing s.top.func) (record { block = s.top.block; at = s.top.at })
  costs = own_cost_of b g s i h.asking args result

  abbrev k : ℕ
  k = width b g given s t r i result must_tail ty args h.here acts costs

  abbrev M : Work
  M = S b g given s t r i result must_tail ty args h.here acts costs

  alike : GivesAlike r.homes s (lined t k M) result after
      (framed_coro b.given (lined t k M) i (now b g given s t r i result must_tail ty args h.here acts costs)
      (us b g given s t r i result must_tail ty args h.here acts costs) result)
  alike =
      asked b g given s t r h.may M.world t.top.block (t.top.at + k) M.values i h.asking (continue_renewed g) args
      (now b g given s t r i result must_tail ty args h.here acts costs)
      (vs b g given s t r i result must_tail ty args h.here acts costs)
      (us b g given s t r i result must_tail ty args h.here acts costs) result
      (argument b g given s t r i result must_tail ty args h.here acts costs 0)
      (literal_there b g given s t r i result must_tail ty args h.here acts costs 2) after h.does

  pub coroutine_asked : IsFollowed b g s t
  coroutine_asked =
      intrinsic_followed b g given s t r i result must_tail ty args h.here acts costs s.instances t.instances r
      alike.value alike.other alike.stands (h.does ∙ ap Ok alike.source) alike.target
      (λ q kv e kept.
      subst (λ (z : State). IsStorable kv.ty (value_in z.top.values q)) alike.source (h.storable q kv e kept))
