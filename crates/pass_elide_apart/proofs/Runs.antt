-- What each state of both runs has, so that instances are woken past blocks of their own.
use Rattle.std.proofs.Common.{◌≡◌, ◌∙◌, ℕ, zero, suc, Bool, true, false, List, refl, sym, subst}
use Rattle.std.specs.Prelude.{Some, slice_get}
use Rattle.pass_elide_apart.proofs.Blocks.{label_frees}
use Rattle.pass_elide_apart.proofs.EachState.{step_fine}
use Rattle.pass_elide_apart.proofs.Switched.{sleeps_behind}
use Rattle.pass_elide_apart.specs.Behind.{EnterBehind, IsBehindSuspend, KnowsBehind, LeadsBehind, SleepBehind}
use Rattle.pass_elide_edges.proofs.pass_elide_proof.OwnSlots.{start_counts, step_counts}
use Rattle.pass_elide_edges.proofs.pass_elide_proof.PlacingKnown.{states_known}
use Rattle.pass_elide_edges.proofs.pass_elide_proof.SoundSteps.{states_sound}
use Rattle.pass_elide_edges.specs.pass_elide_proof.Elision.{Elision, elided, elided_code, framed, function_in}
use Rattle.pass_elide_edges.specs.pass_elide_proof.OwnSlots.{CountsSlots, HaveNoSlots}
use Rattle.pass_elide_edges.specs.pass_elide_proof.Placing.{KeepsPlaces}
use Rattle.pass_elide_edges.specs.pass_elide_proof.PlacingStates.{IsKnownState}
use Rattle.pass_elide_edges.specs.pass_elide_proof.Sound.{KnowsAllocas, NestsNone}
use Rattle.pass_elide_kept.specs.Modules.{KeepsHandlesAndEnds}
use Rattle.pass_elide_kept.specs.Runs.{LeadsPast, WakesPast}
use Rattle.pass_elide_runs.proofs.Elided.{coroutine_same, elided_switched, elided_switches, same_kind_of}
use Rattle.pass_elide_runs.proofs.ElidedFirst.{elided_begins}
use Rattle.pass_elide_runs.proofs.KnownRuns.{knows_framed}
use Rattle.pass_elide_runs.proofs.Led.{state_reached}
use Rattle.pass_elide_runs.proofs.Runs.{one_more}
use Rattle.pass_elide_runs.specs.Keeps.{KeepsRuns}
use Rattle.pass_elide_edges.specs.pass_elide_proof.pass_proofs.edges.rules.Returns.{AreSwitched}
use Rattle.pass_elide_edges.specs.pass_elide_proof.pass_proofs.ir_base.declared.outcome.Word.{Word}
use Rattle.pass_elide_edges.specs.pass_elide_proof.pass_proofs.ir_model.Names.{function_at}
use Rattle.pass_elide_edges.specs.pass_elide_proof.pass_proofs.ir_model.declared.module.Function.{Function}
use Rattle.pass_elide_edges.specs.pass_elide_proof.pass_proofs.ir_paths.Windows.{destroy_label, resume_label}
use Rattle.pass_elide_edges.specs.pass_elide_proof.pass_proofs.ir_paths.declared.point.Point.{Point}
use Rattle.pass_elide_edges.specs.pass_elide_proof.pass_proofs.run_agreement.Machines.{IsFine}
use Rattle.pass_elide_edges.specs.pass_elide_proof.pass_proofs.run_framed.Framed.{FramedGiven, framed_state_at, framed_step}
use Rattle.pass_elide_edges.specs.pass_elide_proof.pass_proofs.run_source.Source.{first_state}
use Rattle.pass_elide_edges.specs.pass_elide_proof.pass_proofs.run_source.declared.state.Instance.{Instance}
use Rattle.pass_elide_edges.specs.pass_elide_proof.pass_proofs.run_source.declared.state.Mode.{Mode}
use Rattle.pass_elide_edges.specs.pass_elide_proof.pass_proofs.run_source.declared.state.State.{State}
use Rattle.pass_elide_edges.specs.pass_elide_proof.pass_proofs.run_source.declared.state.Status.{Status}
use Rattle.pass_elide_edges.specs.pass_elide_proof.pass_proofs.run_step.Values.{Env}
use Rattle.run_hooks.specs.Reached.{AllHaveSwitches}

-- ---- any framed run

module _ (g : FramedGiven) (switches : AllHaveSwitches g.given.code)
    (switched : (func : ℕ) → AreSwitched (function_at g.given.code func)) (knows : KnowsAllocas g)
    (nests : NestsNone g) (entry : ℕ) (args : List Word) where
  pub sleeps_in_runs : (n : ℕ) → SleepBehind g.given.code (framed_state_at g entry args n)
  sleeps_in_runs n =
      sleeps_behind g.given (framed_state_at g entry args n) switches switched
      (state_reached g switches entry args n)

  pub each_in_runs : (n : ℕ) → HaveNoSlots (framed_state_at g entry args n)
      × EnterBehind g.given.code (framed_state_at g entry args n)
  each_in_runs zero = ((λ i x is. absurd (cc)), ((λ from label is. absurd (cc)), tt))
  each_in_runs (suc n) =
      subst (λ (s : State). HaveNoSlots s × EnterBehind g.given.code s)
      (sym (one_more (framed_step g) n (first_state g.given.code entry args)))
      (step_fine g (framed_state_at g entry args n) (states_sound g knows nests entry args n).acts.0.own
      (sleeps_in_runs n) (each_in_runs n))

  pub counts_in_runs : (n : ℕ) → CountsSlots (framed_state_at g entry args n)
  counts_in_runs zero = start_counts g.given.code entry args
  counts_in_runs (suc n) =
      subst CountsSlots (sym (one_more (framed_step g) n (first_state g.given.code entry args)))
      (step_counts g (framed_state_at g entry args n) (each_in_runs n).0 (counts_in_runs n))

-- ---- both runs

module _ (e : Elision) (keeps : KeepsPlaces e) (k : KeepsRuns e) (nests : NestsNone (framed e)) (entry : ℕ)
    (args : List Word) (n : ℕ) where
  pub behind_in_runs : (function_in e entry).coroutine ≡ false
      → IsFine (framed_state_at (framed e) entry args n).outcome
      → KnowsBehind e.code (framed_state_at (framed e) entry args n)
  behind_in_runs plain fine = record {
    modes = (knows_framed e keeps k entry args n plain fine).modes;
    enters = (each_in_runs (framed e) k.switches k.switched k.known nests entry args n).1;
    sleeps = sleeps_in_runs (framed e) k.switches k.switched k.known nests entry args n;
  }

  pub giving_counts : CountsSlots (framed_state_at (elided e) entry args n)
  giving_counts =
      counts_in_runs (elided e) (elided_switches e keeps k.switches) (elided_switched e keeps k.switched)
      k.known_giving nests entry args n

  module _ (handles : KeepsHandlesAndEnds e) where
    abbrev t : State
    t = framed_state_at (elided e) entry args n

    known : IsKnownState (elided_code e) t
    known = states_known (elided e) (elided_begins e keeps) entry args n

    pub giving_enters : (from label : ℕ)
        → (framed_state_at (elided e) entry args n).top.mode ≡ Mode.Entering from label
        → LeadsPast e (framed_state_at (elided e) entry args n).top.func label
    giving_enters from label is = by (function_in e t.top.func).coroutine refl
      where
        not_plain : t.top.mode ≡ Mode.Plain → ⊥
        not_plain plain = absurd (cc)

        by : (b : Bool) → (function_in e t.top.func).coroutine ≡ b → LeadsPast e t.top.func label
        by true inside =
            label_frees e handles t.top.func from label
            (subst (λ (f : Function). IsBehindSuspend f from label) (coroutine_same e keeps t.top.func inside)
            ((each_in_runs (elided e) (elided_switches e keeps k.switches) (elided_switched e keeps k.switched)
            k.known_giving nests entry args n).1.0 from label is))
        by false outside =
            absurd (not_plain (known.acts.0.plain (same_kind_of e keeps t.top.func ∙ outside)).0)

    pub giving_sleeps : (number : ℕ) (x : Instance) (q : Point) (values : Env)
        → slice_get (framed_state_at (elided e) entry args n).instances number ≡ Some x
        → x.status ≡ Status.Suspended q values → WakesPast e x q
    giving_sleeps number x q values there status = record {
      resume = label_frees e handles x.coroutine q.block (resume_label (function_in e x.coroutine) q) labels.resume;
      destroy = label_frees e handles x.coroutine q.block (destroy_label (function_in e x.coroutine) q) labels.destroy;
    }
      where
        labels : LeadsBehind (function_in e x.coroutine) q
        labels =
            subst (λ (f : Function). LeadsBehind f q)
            (coroutine_same e keeps x.coroutine
            (sym (same_kind_of e keeps x.coroutine) ∙ known.instances number x there))
            (sleeps_in_runs (elided e) (elided_switches e keeps k.switches) (elided_switched e keeps k.switched)
            k.known_giving nests entry args n number x q values there status)
