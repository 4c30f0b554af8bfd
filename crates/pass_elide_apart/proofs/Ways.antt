-- Which way a step goes on: in the same activation, over a call, behind a suspend, or back.
use Rattle.std.proofs.Common.{◌≡◌, ◌⊎◌, inl, inr, ◌∙◌, ◌+◌, ℕ, suc, true, List, ◌∷◌, length, None, Some, Option, ap, arith, refl, sym, subst}
use Rattle.pass_elide_apart.specs.Behind.{EntersBehind, GoesBehind, IsBehindSuspend, LeadsBehind, SleepBehind}
use Rattle.pass_elide_edges.proofs.StepMoves.{IsOnTop}
use Rattle.pass_elide_edges.proofs.pass_elide_proof.StepCases.{leads_to}
use Rattle.pass_elide_edges.specs.pass_elide_proof.StepCases.{ActsBy, LeadsTo, ended}
use Rattle.pass_elide_runs.proofs.Acts.{MakesOne}
use Rattle.pass_elide_runs.proofs.Allocas.{next_alloca}
use Rattle.pass_elide_runs.proofs.KnownModes.{IsAsleep, asleep, calm_at}
use Rattle.pass_elide_runs.proofs.Stacks.{Comes, changed_stack, comes, ended_stack, entered_on, gone_stack, woken_at, woken_on}
use Rattle.pass_elide_runs.proofs.WakesBy.{IsWoken, wakes_by}
use Rattle.pass_elide_runs.specs.Modes.{KnowsMode}
use Rattle.pass_elide_edges.specs.pass_elide_proof.pass_proofs.ir_base.declared.outcome.Outcome.{Outcome}
use Rattle.pass_elide_edges.specs.pass_elide_proof.pass_proofs.ir_model.Names.{function_at}
use Rattle.pass_elide_edges.specs.pass_elide_proof.pass_proofs.ir_model.declared.module.Module.{Module}
use Rattle.pass_elide_edges.specs.pass_elide_proof.pass_proofs.ir_paths.Windows.{destroy_label, resume_label}
use Rattle.pass_elide_edges.specs.pass_elide_proof.pass_proofs.ir_paths.declared.point.Point.{Point}
use Rattle.pass_elide_edges.specs.pass_elide_proof.pass_proofs.run_agreement.Machines.{IsFine}
use Rattle.pass_elide_edges.specs.pass_elide_proof.pass_proofs.run_framed.Framed.{FramedGiven, alloca_from, continue_framed, enter_after, framed_slot, framed_step}
use Rattle.pass_elide_edges.specs.pass_elide_proof.pass_proofs.run_memory.declared.pointer.Value.{Value}
use Rattle.pass_elide_edges.specs.pass_elide_proof.pass_proofs.run_source.Source.{Sleeper}
use Rattle.pass_elide_edges.specs.pass_elide_proof.pass_proofs.run_source.State.{function_of, instance_at, own_instance, settled, with_slots}
use Rattle.pass_elide_edges.specs.pass_elide_proof.pass_proofs.run_source.declared.state.Activation.{Activation}
use Rattle.pass_elide_edges.specs.pass_elide_proof.pass_proofs.run_source.declared.state.Instance.{Instance}
use Rattle.pass_elide_edges.specs.pass_elide_proof.pass_proofs.run_source.declared.state.Mode.{Mode}
use Rattle.pass_elide_edges.specs.pass_elide_proof.pass_proofs.run_source.declared.state.State.{State}
use Rattle.pass_elide_edges.specs.pass_elide_proof.pass_proofs.run_step.Step.{Action, Coro, Deallocate, Done, GoTo, Return}

-- ---- ways

pub data GoesBy (g : FramedGiven) (s u : State) : Type 0 where
  -- the topmost activation goes on, and doesn't execute its allocas again
  Onward : u.below ≡ s.below → ((from label : ℕ) → s.top.mode ≡ Mode.Entering from label → ⊥) → GoesBy g s u
  -- it executes an alloca again
  Again : u.below ≡ s.below → GoesBehind g.given.code u.top → GoesBy g s u
  -- a function is called
  Called : u.top.instance ≡ None → length u.below ≡ 1 + length s.below → GoesBy g s u
  -- an instance is woken
  Woken : IsOnTop s u → GoesBehind g.given.code u.top → GoesBy g s u
  -- the activation returns to the one below it
  Back : length s.below ≡ 1 + length u.below → GoesBy g s u

pub higher : (rows : List Activation) (a : Activation) (below : List Activation) → rows ≡ a ∷ below
    → length rows ≡ 1 + length below
higher rows a below is = let up : length rows ≡ suc (length below) = ap length is in omega (arith, up)

-- ---- where an activation goes on behind a suspend

module _ (g : FramedGiven) where
  abbrev m : Module
  m = g.given.code

  pub enters_there : (s : State) (from label at : ℕ) → IsBehindSuspend (function_of g.given s) from label
      → (o : Option Point) → alloca_from (function_of g.given s) at ≡ o
      → GoesBehind g.given.code (enter_after g s from label o).top
  enters_there s from label at behind None eo = record {
    from = from;
    label = label;
    behind = behind;
    place = inr (refl, refl, refl);
  }
  enters_there s from label at behind (Some p) eo = record {
    from = from;
    label = label;
    behind = behind;
    place = inl (refl, (next_alloca (function_of g.given s) at p eo).first);
  }

  pub wakes_there : (s : State) → SleepBehind g.given.code s → (y : Sleeper) (label : ℕ) → IsAsleep s y
      → (label ≡ resume_label (function_at m y.instance.coroutine) y.suspend)
      ⊎ (label ≡ destroy_label (function_at m y.instance.coroutine) y.suspend)
      → GoesBehind g.given.code (continue_framed g s y.number y.instance y.suspend y.values label).top
  wakes_there s sleeps y label sleeper is =
      enters_there (woken_at g s y.number y.instance y.suspend) y.suspend.block label 0 (by is)
      (alloca_from (function_at m y.instance.coroutine) 0) refl
    where
      labels : LeadsBehind (function_at m y.instance.coroutine) y.suspend
      labels = sleeps y.number y.instance y.suspend y.values sleeper.there sleeper.status

      by : (label ≡ resume_label (function_at m y.instance.coroutine) y.suspend)
          ⊎ (label ≡ destroy_label (function_at m y.instance.coroutine) y.suspend)
          → IsBehindSuspend (function_at m y.instance.coroutine) y.suspend.block label
      by (inl e) =
          subst (IsBehindSuspend (function_at m y.instance.coroutine) y.suspend.block) (sym e) labels.resume
      by (inr e) =
          subst (IsBehindSuspend (function_at m y.instance.coroutine) y.suspend.block) (sym e) labels.destroy

  module _ (s : State) (known : KnowsMode g.given.code s.top) (enters : EntersBehind g.given.code s.top)
      (sleeps : SleepBehind g.given.code s) (runs : s.outcome ≡ Outcome.Running) where
    calm : (a : Action) → ActsBy g s a → (MakesOne g s a → ⊥) → (from label : ℕ)
        → s.top.mode ≡ Mode.Entering from label → ⊥
    calm a acts never = calm_at g s a known acts never

    back : (v : Option Value) (z u : State) → z.below ≡ s.below
        → ((from label : ℕ) → s.top.mode ≡ Mode.Entering from label → ⊥) → Comes z v u → GoesBy g s u
    back v z u same steady (Comes.Ends k) =
        GoesBy.Onward (ap (λ (w : State). w.below) k.is ∙ same) steady
    back v z u same steady (Comes.Back k) =
        GoesBy.Back
        (higher s.below k.caller u.below
        (sym same ∙ (k.below ∙ ap (λ (rows : List Activation). k.caller ∷ rows)
        (sym (ap (λ (w : State). w.below) k.is)))))

    by_case : (u : State) → framed_step g s ≡ u → IsFine u.outcome → LeadsTo g s u → GoesBy g s u
    by_case _ is fine (LeadsTo.Works w acts) = GoesBy.Onward refl (calm (Done w) acts (λ k. k))
    by_case _ is fine (LeadsTo.MakesSlot w slot acts) = by s.top.mode refl
      where
        z : State
        z = settled s w

        by : (mode : Mode) → s.top.mode ≡ mode → GoesBy g s (framed_slot g z slot mode)
        by Mode.Plain e = GoesBy.Onward refl (λ from label at. absurd (cc))
        by Mode.Ramp e = GoesBy.Onward refl (λ from label at. absurd (cc))
        by Mode.Resumed e = GoesBy.Onward refl (λ from label at. absurd (cc))
        by (Mode.GivenRamp frame) e = GoesBy.Onward refl (λ from label at. absurd (cc))
        by (Mode.Entering from label) e =
            GoesBy.Again
            (entered_on g (with_slots z (slot ∷ z.top.slots)) from label
            (alloca_from (function_of g.given s) (s.top.at + 1))).below
            (enters_there (with_slots z (slot ∷ z.top.slots)) from label (s.top.at + 1) (enters from label e)
            (alloca_from (function_of g.given s) (s.top.at + 1)) refl)
    by_case _ is fine (LeadsTo.Enters func args result must_tail acts) =
        GoesBy.Called refl (omega arith)
    by_case _ is fine (LeadsTo.EntersGiven func result args calls) =
        GoesBy.Called refl (omega arith)
    by_case _ is fine (LeadsTo.Answers i args result v acts) =
        GoesBy.Onward refl (calm (Coro i args result) acts (λ k. k))
    by_case _ is fine (LeadsTo.Passes i args result acts) =
        GoesBy.Onward refl (calm (Coro i args result) acts (λ k. k))
    by_case _ is fine (LeadsTo.Begins args result mem memory block start acts alone taken) =
        GoesBy.Onward refl (calm _ acts (λ k. k))
    by_case _ is fine (LeadsTo.Releases args result v acts) =
        GoesBy.Onward (changed_stack s (λ (x : Instance). record x { released = true }) (own_instance s)).below
        (calm _ acts (λ k. k))
    by_case _ is fine (LeadsTo.Saves args result i x save suspend acts own unfreed) =
        GoesBy.Onward refl (calm _ acts (λ k. k))
    by_case _ is fine (LeadsTo.Suspends args result i x save suspend acts own unfreed) =
        GoesBy.Onward refl (calm _ acts (λ k. k))
    by_case _ is fine (LeadsTo.Wakes i args result y label acts asleep_there) =
        subst (GoesBy g s) (sym k.is)
        (GoesBy.Woken
        (record {
          at = s.top.at + 1;
          below = (woken_on g s k.sleeper.number k.sleeper.instance k.sleeper.suspend k.sleeper.values k.label).below;
        })
        (wakes_there s sleeps k.sleeper k.label (asleep s k.from k.sleeper k.sleeps) k.at))
      where
        longer : length (continue_framed g s y.number y.instance y.suspend y.values label).below
            ≡ length s.below + 1
        longer =
            let up = higher _ (record s.top { at = s.top.at + 1 }) s.below
            (woken_on g s y.number y.instance y.suspend y.values label).below in
            omega (arith, up)

        k : IsWoken g s (continue_framed g s y.number y.instance y.suspend y.values label)
        k =
            wakes_by g s (continue_framed g s y.number y.instance y.suspend y.values label) runs is fine i args result
            acts longer
    by_case _ is fine (LeadsTo.EndsRamp args result acts ramp) =
        GoesBy.Onward (ended_stack s).below (calm _ acts (λ k. k))
    by_case _ is fine (LeadsTo.EndsResumed args result u acts mode comes_back) =
        back None (ended s) u (ended_stack s).below (calm _ acts (λ k. k)) (comes (ended s) None u comes_back)
    by_case _ is fine (LeadsTo.Deallocates p memory acts dead) =
        GoesBy.Onward (gone_stack s (instance_at s.instances p)).below (calm (Deallocate p) acts (λ k. k))
    by_case _ is fine (LeadsTo.GoesTo label acts none) = GoesBy.Onward refl (calm (GoTo label) acts (λ k. k))
    by_case _ is fine (LeadsTo.Leaves label w ws i x acts leaves own may) =
        GoesBy.Onward refl (calm (GoTo label) acts (λ k. k))
    by_case _ is fine (LeadsTo.Returns v u acts comes_back) =
        back v s u refl (calm (Return v) acts (λ k. k)) (comes s v u comes_back)

    pub goes_by : IsFine (framed_step g s).outcome → GoesBy g s (framed_step g s)
    goes_by fine = by_case (framed_step g s) refl fine (leads_to g s runs fine)
