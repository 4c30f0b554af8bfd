-- Each step from states that are carried is of a known kind, and what is carried stays so.
use Rattle.std.proofs.Common.{◌≡◌, ◌∙◌, ℕ, Bool, true, List}
use Rattle.pass_elide_apart.proofs.Runs.{behind_in_runs, giving_counts}
use Rattle.pass_elide_apart.proofs.Woken.{known_apart}
use Rattle.pass_elide_apart.proofs.pass_elide_edges.Starts.{start_apart}
use Rattle.pass_elide_apart.specs.pass_elide_proof.Assembling.{KnowsSteps, elided_after, framed_after}
use Rattle.pass_elide_apart.specs.pass_elide_proof.Elision.{Elision, elided, framed}
use Rattle.pass_elide_apart.specs.pass_elide_proof.Match.{AreElided}
use Rattle.pass_elide_apart.specs.pass_elide_proof.Statement.{AreRelated, IsEntryCall}
use Rattle.pass_elide_apart.specs.pass_elide_proof.Stepping.{IsKnownStep, steps_of}
use Rattle.pass_elide_apart.proofs.pass_elide_proof.StartsRelated.{starts_related}
use Rattle.pass_elide_kept.specs.Kept.{AreKept}
use Rattle.pass_elide_kept.specs.Runs.{IsKeptFramed, IsKeptGiving}
use Rattle.pass_elide_meaning.proofs.StatesKnown.{ends_framed, ends_giving, known_framed, known_giving}
use Rattle.pass_elide_meaning.proofs.StepsKnown.{step_known}
use Rattle.pass_elide_meaning.specs.Lacks.{LacksGiving}
use Rattle.pass_elide_theorem.proofs.Exact.{exact_lacks}
use Rattle.pass_elide_theorem.proofs.States.{DestroyedAreFreed, kept_framed, kept_giving, running_fine}
use Rattle.pass_elide_theorem.specs.Carried.{AreCarried}
use Rattle.pass_elide_theorem.specs.Exact.{CoversShapes, is_exact}
use Rattle.pass_elide_theorem.specs.Ready.{IsElisionReady}
use Rattle.pass_elide_apart.specs.pass_proofs.ir_base.declared.outcome.Outcome.{Outcome}
use Rattle.pass_elide_apart.specs.pass_proofs.ir_base.declared.outcome.Word.{Word}
use Rattle.pass_elide_apart.specs.pass_proofs.ir_model.declared.module.Module.{Module}
use Rattle.pass_elide_apart.specs.pass_proofs.run_agreement.Machines.{IsFine, iterate}
use Rattle.pass_elide_apart.specs.pass_proofs.run_framed.Framed.{framed_step}
use Rattle.pass_elide_apart.specs.pass_proofs.run_source.declared.state.State.{State}

-- the law by which what is kept stays kept, of two states
abbrev pub StaysKept : Elision → State → State → Type 0
StaysKept e s t =
    IsKeptFramed e s → ((n : ℕ) → IsKeptGiving e (iterate (framed_step (elided e)) n t)) → (h : AreKept e s t)
    → s.outcome ≡ Outcome.Running → IsFine (framed_step (framed e) s).outcome
    → (k : IsKnownStep e s t h.related.beside)
    → AreElided e (framed_step (framed e) s)
    (iterate (framed_step (elided e)) (steps_of e s t h.related.beside k) t)
    → AreKept e (framed_step (framed e) s)
    (iterate (framed_step (elided e)) (steps_of e s t h.related.beside k) t)

module _ (e : Elision) (source : Module) (most : ℕ) (ready : IsElisionReady e source most) (entry : ℕ)
    (args : List Word) (call : IsEntryCall e entry args) where
  -- ---- where both runs start

  pub start_carried : (AreRelated e (framed_after e entry args 0) (elided_after e entry args 0)
      → AreKept e (framed_after e entry args 0) (elided_after e entry args 0))
      → AreCarried e (framed_after e entry args 0) (elided_after e entry args 0)
  start_carried kept = record {
    kept = kept (starts_related e entry args call.plain ready.globals.stands ready.globals.small);
    apart = (start_apart e entry args ready.places call.plain, tt);
  }

  -- ---- a step

  module _ (callees : ℕ → Bool) (covers : CoversShapes e callees)
      (lacks : (m : ℕ) → (elided_after e entry args m).outcome ≡ Outcome.Running
      → LacksGiving e (elided_after e entry args m))
      (freed : (s : State) → DestroyedAreFreed e s) (stays : (s t : State) → StaysKept e s t) (n m : ℕ)
      (k : AreCarried e (framed_after e entry args n) (elided_after e entry args m))
      (runs : (framed_after e entry args n).outcome ≡ Outcome.Running)
      (passes : is_exact e callees (framed_after e entry args n) ≡ true)
      (fine : IsFine (framed_step (framed e) (framed_after e entry args n)).outcome) where
    abbrev s : State
    s = framed_after e entry args n

    abbrev t : State
    t = elided_after e entry args m

    going : t.outcome ≡ Outcome.Running
    going = k.kept.related.beside.outcome ∙ runs

    pub carried_known : IsKnownStep e (framed_after e entry args n) (elided_after e entry args m)
        k.kept.related.beside
    carried_known =
        let counts = giving_counts e ready.places ready.runs ready.more.nests entry args m in
        step_known e s t k.kept.related ready.places ready.more ready.ends
        (known_framed e ready.places ready.more ready.runs entry args call n runs
        (exact_lacks e callees covers s passes))
        (known_giving e ready.places ready.runs entry args call m going counts ready.more (lacks m going))
        (ends_framed e ready.places ready.more entry args n)
        (ends_giving e ready.places ready.runs entry args call m going counts) k.apart.0 runs fine

    pub carried_stays : (place : IsKnownStep e (framed_after e entry args n) (elided_after e entry args m)
        k.kept.related.beside)
        → AreElided e (framed_step (framed e) (framed_after e entry args n)) (iterate (framed_step (elided e))
        (steps_of e (framed_after e entry args n) (elided_after e entry args m) k.kept.related.beside place)
        (elided_after e entry args m))
        → AreCarried e (framed_step (framed e) (framed_after e entry args n)) (iterate (framed_step (elided e))
        (steps_of e (framed_after e entry args n) (elided_after e entry args m) k.kept.related.beside place)
        (elided_after e entry args m))
    carried_stays place next = record {
      kept = stays s t (kept_framed e source most ready entry args call n runs (freed s))
          (kept_giving e source most ready entry args call m) k.kept runs fine place next;
      apart = known_apart e ready.ends ready.handles ready.alone s t k.kept.related
          (ends_framed e ready.places ready.more entry args n)
          (behind_in_runs e ready.places ready.runs ready.more.nests entry args n call.plain (running_fine s runs))
          k.apart runs fine place next;
    }

  -- ---- all steps

  pub steps_known : (callees : ℕ → Bool) → CoversShapes e callees
      → ((m : ℕ) → (elided_after e entry args m).outcome ≡ Outcome.Running
      → LacksGiving e (elided_after e entry args m))
      → ((s : State) → DestroyedAreFreed e s) → ((s t : State) → StaysKept e s t)
      → (AreRelated e (framed_after e entry args 0) (elided_after e entry args 0)
      → AreKept e (framed_after e entry args 0) (elided_after e entry args 0))
      → KnowsSteps e entry args (is_exact e callees) (AreCarried e)
  steps_known callees covers lacks freed stays kept = record {
    related = λ n m k. k.kept.related;
    start = start_carried kept;
    known = λ n m k runs passes fine. carried_known callees covers lacks freed stays n m k runs passes fine;
    kept = λ n m k runs passes fine place next.
        carried_stays callees covers lacks freed stays n m k runs passes fine place next;
  }
