-- What the steps of a source may cost where slots are made anew: so much as the framed module's take for them.
use Rattle.std.specs.Prelude.{ℕ, suc, ◌+◌, Bool, List, [], ◌∷◌, None, Some, Option, Err, Ok, Result, slice_get, if◌then◌else◌, ℤ}
use Rattle.pass_kept_proof.specs.run_agreement.Machines.{Machine}
use Rattle.pass_kept_proof.specs.ir_base.declared.cause.Cause.{Cause}
use Rattle.pass_kept_proof.specs.ir_base.declared.outcome.Word.{Word}
use Rattle.pass_kept_proof.specs.run_source.Source.{Sleeper, context_of, first_state, sleeper_at}
use Rattle.pass_kept_proof.specs.run_source.State.{function_of, work_of}
use Rattle.pass_kept_proof.specs.run_source.declared.state.Mode.{Mode}
use Rattle.pass_kept_proof.specs.run_source.declared.state.State.{State}
use Rattle.pass_kept_proof.specs.Kept.{Keep}
use Rattle.pass_kept_proof.specs.ir_model.Names.{function_at}
use Rattle.pass_kept_proof.specs.ir_model.declared.instr.Instr.{Instr}
use Rattle.pass_kept_proof.specs.ir_model.declared.module.Block.{Block}
use Rattle.pass_kept_proof.specs.ir_model.declared.module.Frame.{Frame}
use Rattle.pass_kept_proof.specs.ir_model.declared.module.Module.{Module}
use Rattle.pass_kept_proof.specs.ir_model.declared.operand.Arg.{Arg}
use Rattle.pass_kept_proof.specs.ir_model.declared.operand.Intrinsic.{Intrinsic}
use Rattle.pass_kept_proof.specs.run_step.Runs.{seen_of}
use Rattle.pass_kept_proof.specs.run_step.Step.{Action, Coro, action_of, fetch}
use Rattle.pass_kept_proof.specs.run_step.Values.{arg_values, nth}
use Rattle.pass_renewed_proof.specs.Renewed.{Flags, Roots, is_renewed, renewed_given, renewed_step}
use Rattle.pass_kept_proof.specs.run_source_tables.Given.{Given}

-- what is seen of it after n steps is RenewedAt
abbrev pub renewed_machine : Module → Keep → Flags → Roots → List Frame → ℕ → List Word → List ℤ → Machine State
renewed_machine m keep flags roots sizes entry args answers =
    record {
      start = first_state m entry args;
      step = renewed_step (renewed_given m keep flags roots sizes answers);
      seen = λ s. seen_of m s.world s.outcome;
    }

-- of a step at a place of a function; of a resume or destroy of the coroutine at a position; of the alloca of a slot
-- that is made anew, at a place of its entry block
pub record Prices : Type 0 where
  pub step : ℕ → ℕ → ℕ → ℕ
  pub resume : ℕ → ℕ
  pub slot : ℕ → ℕ → ℕ

-- ---- the coroutine that the next step resumes or destroys

abbrev pub coroutine_of : Result Sleeper Cause → Option ℕ
coroutine_of (Err cause) = None
coroutine_of (Ok y) = Some y.instance.coroutine

abbrev pub sleeper_named : Given → State → List Arg → Option ℕ
sleeper_named g s args = coroutine_of (sleeper_at s (nth (arg_values g.code s.top.values args) 0))

abbrev pub resumed_by : Given → State → Action → Option ℕ
resumed_by g s (Coro Intrinsic.CoroResume args result) = sleeper_named g s args
resumed_by g s (Coro Intrinsic.CoroDestroy args result) = sleeper_named g s args
resumed_by g s action = None

abbrev pub resumed_in : Given → State → Option ℕ
resumed_in g s = resumed_by g s (action_of (context_of g s) (work_of s)
    (fetch (function_of g s) s.top.block s.top.at))

-- ---- where slots are made anew step by step

abbrev pub price_of : Prices → State → Option ℕ → ℕ
price_of p s None = p.step s.top.func s.top.block s.top.at
price_of p s (Some f) = p.resume f

abbrev pub price_in : Prices → State → Option ℕ → Mode → ℕ
price_in p s resumed (Mode.Entering from label) = p.slot s.top.func s.top.at
price_in p s resumed mode = price_of p s resumed

abbrev pub renewed_price : Prices → Given → State → ℕ
renewed_price p g s = price_in p s (resumed_in g s) s.top.mode

-- ---- where none is: a resume has the price of all that its activation makes anew

abbrev pub slots_from : (ℕ → ℕ) → (ℕ → Bool) → ℕ → List Instr → ℕ
slots_from price flags k [] = 0
slots_from price flags k (i ∷ instrs) = (if is_renewed flags i then price k else 0) + slots_from price flags (suc k)
    instrs

abbrev pub slots_in : (ℕ → ℕ) → (ℕ → Bool) → Option Block → ℕ
slots_in price flags None = 0
slots_in price flags (Some b) = slots_from price flags 0 b.instrs

abbrev pub anew_price : Prices → Flags → Given → Option ℕ → ℕ
anew_price p flags g None = 0
anew_price p flags g (Some f) = slots_in (p.slot f) (flags f) (slice_get (function_at g.code f).blocks 0)

abbrev pub kept_price : Prices → Flags → Given → State → ℕ
kept_price p flags g s = price_of p s (resumed_in g s) + anew_price p flags g (resumed_in g s)
