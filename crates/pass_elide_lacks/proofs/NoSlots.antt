-- Instances of framed runs have no slots, so slots of activations have blocks of their own in each state.
use Rattle.std.proofs.Common.{◌≡◌, ◌≢◌, ◌⊎◌, inl, inr, ◌∙◌, ◌++◌, ℕ, Bool, true, List, [], ◌∷◌, length, None, Option, Some, ap, if◌then◌else◌, refl, sym, subst}
use Rattle.std.specs.Prelude.{filter, not, slice_get}
use Rattle.pass_elide_lacks.proofs.Changes.{AreAs, changed_as, ended_as, gone_as, set_as}
use Rattle.pass_elide_meaning.proofs.pass_elide_runs.KnownModes.{IsAsleep, asleep}
use Rattle.pass_elide_meaning.proofs.pass_elide_runs.Runs.{runs_keep, runs_keep_by}
use Rattle.pass_elide_meaning.proofs.pass_elide_runs.Stacks.{Comes, comes, slotted_on, woken_on}
use Rattle.pass_elide_meaning.proofs.pass_elide_edges.pass_elide_proof.Begun.{end_or_before}
use Rattle.pass_elide_meaning.proofs.pass_elide_edges.pass_elide_proof.Changing.{WasSet, was_set}
use Rattle.pass_elide_meaning.proofs.pass_elide_edges.pass_elide_proof.OwnSlots.{start_counts, step_counts}
use Rattle.pass_elide_meaning.proofs.pass_elide_edges.pass_elide_proof.Saves.{own_number}
use Rattle.pass_elide_meaning.proofs.pass_elide_edges.pass_elide_proof.SoundSteps.{states_sound}
use Rattle.pass_elide_meaning.proofs.pass_elide_edges.pass_elide_proof.pass_proofs.ir_laws.facts.Lists.{get_last}
use Rattle.pass_elide_meaning.specs.pass_elide_edges.pass_elide_proof.OwnSlots.{CountsSlots, HaveNoSlots}
use Rattle.pass_elide_meaning.specs.pass_elide_edges.pass_elide_proof.Sound.{IsSoundState, KnowsAllocas, NestsNone}
use Rattle.pass_elide_meaning.specs.pass_elide_edges.pass_elide_proof.StepCases.{LeadsTo, ended}
use Rattle.pass_elide_meaning.specs.pass_elide_edges.pass_elide_proof.pass_proofs.ir_base.declared.outcome.Outcome.{Outcome}
use Rattle.pass_elide_meaning.specs.pass_elide_edges.pass_elide_proof.pass_proofs.ir_base.declared.outcome.Word.{Word}
use Rattle.pass_elide_meaning.specs.pass_elide_edges.pass_elide_proof.pass_proofs.run_agreement.Machines.{IsFine}
use Rattle.pass_elide_meaning.specs.pass_elide_edges.pass_elide_proof.pass_proofs.run_framed.Framed.{FramedGiven, framed_state_at}
use Rattle.pass_elide_meaning.specs.pass_elide_edges.pass_elide_proof.pass_proofs.run_laws.changed.Changed.{Each}
use Rattle.pass_elide_meaning.specs.pass_elide_edges.pass_elide_proof.pass_proofs.run_memory.declared.pointer.Value.{Value}
use Rattle.pass_elide_meaning.specs.pass_elide_edges.pass_elide_proof.pass_proofs.run_source.Source.{begun, is_among, new_instance}
use Rattle.pass_elide_meaning.specs.pass_elide_edges.pass_elide_proof.pass_proofs.run_source.State.{gives, own_facts, settled, with_memory}
use Rattle.pass_elide_meaning.specs.pass_elide_edges.pass_elide_proof.pass_proofs.run_source.declared.state.Instance.{Instance}
use Rattle.pass_elide_meaning.specs.pass_elide_edges.pass_elide_proof.pass_proofs.run_source.declared.state.State.{State}
use Rattle.pass_elide_meaning.specs.pass_elide_edges.pass_elide_proof.pass_proofs.run_source.declared.state.Status.{Status}
use Rattle.pass_elide_meaning.specs.pass_elide_edges.pass_elide_proof.pass_proofs.run_step.Values.{arg_values, nth}
use Rattle.pass_elide_meaning.specs.pass_elide_edges.pass_elide_proof.pass_proofs.run_step.declared.world.Slot.{Slot}

-- what instances were has none
as_none : (xs ys : List Instance) → AreAs xs ys → ((i : ℕ) (x : Instance) → slice_get xs i ≡ Some x → x.slots ≡ [])
    → (i : ℕ) (y : Instance) → slice_get ys i ≡ Some y → y.slots ≡ []
as_none xs ys like none i y at = let k = like i y at in k.slots ∙ none i k.was k.there

-- no slot is left out of those that are all found
filter_none : (test : Slot → Bool) (zs : List Slot) → Each (λ (z : Slot). test z ≡ true) zs
    → filter (λ z. not (test z)) zs ++ [] ≡ []
filter_none test [] all = refl
filter_none test (z ∷ zs) all =
    ap (λ (t : Bool). (if not t then z ∷ filter (λ y. not (test y)) zs else filter (λ y. not (test y)) zs) ++ [])
    all.0
    ∙ filter_none test zs all.1

module _ (g : FramedGiven) where
  came : (s : State) (v : Option Value) (u : State) → Comes s v u → HaveNoSlots s → HaveNoSlots u
  came s v u (Comes.Ends k) h = subst HaveNoSlots (sym k.is) h
  came s v u (Comes.Back k) h = subst HaveNoSlots (sym k.is) h

  pub none_stays : (s u : State) → s.outcome ≡ Outcome.Running → IsSoundState g s → HaveNoSlots s → LeadsTo g s u
      → HaveNoSlots u
  none_stays s _ runs q h (LeadsTo.Works w acts) = h
  none_stays s _ runs q h (LeadsTo.MakesSlot w slot acts) =
      subst (λ (xs : List Instance). (i : ℕ) (x : Instance) → slice_get xs i ≡ Some x → x.slots ≡ [])
      (sym (slotted_on g (settled s w) slot s.top.mode).instances) h
  none_stays s _ runs q h (LeadsTo.Enters func args result must_tail acts) = h
  none_stays s _ runs q h (LeadsTo.EntersGiven func result args calls) = h
  none_stays s _ runs q h (LeadsTo.Answers j args result v acts) = h
  none_stays s _ runs q h (LeadsTo.Passes j args result acts) = h
  none_stays s _ runs q h (LeadsTo.Begins args result mem memory block start acts alone taken) = by
    where
      first : Instance
      first = new_instance s.top.func block start

      test : Slot → Bool
      test = is_among (own_facts g.given s).ramp_slots

      new : Instance
      new = record first { slots = filter (λ z. not (test z)) s.top.slots ++ [] }

      u : State
      u = gives (begun g.given (with_memory s memory) block start) result mem

      xs : List Instance
      xs = s.instances ++ first ∷ []

      by : HaveNoSlots u
      by i y at = on w.is
        where
          w : WasSet xs (length s.instances) new i y
          w = was_set xs (length s.instances) first new (get_last s.instances first) i y at

          before : ((i ≡ length s.instances) × (w.was ≡ first)) ⊎ (slice_get s.instances i ≡ Some w.was)
              → w.was.slots ≡ []
          before (inl last) = ap (λ (z : Instance). z.slots) last.1
          before (inr old) = h i w.was old

          on : ((i ≡ length s.instances) × (y ≡ new)) ⊎ ((i ≢ length s.instances) × (y ≡ w.was)) → y.slots ≡ []
          on (inl k) = ap (λ (z : Instance). z.slots) k.1 ∙ filter_none test s.top.slots q.acts.0.own
          on (inr k) =
              ap (λ (z : Instance). z.slots) k.1 ∙ before (end_or_before s.instances first w.was i w.at)
  none_stays s _ runs q h (LeadsTo.Releases args result v acts) =
      as_none s.instances _ (changed_as s (λ x. record x { released = true }) (λ x. refl) (λ x. refl)) h
  none_stays s _ runs q h (LeadsTo.Saves args result n x save suspend acts own unfreed) =
      as_none s.instances _
      (set_as s.instances n x
      (record x {
        status = Status.Suspended suspend s.top.values;
        last_save = Some (record { depth = length s.below; save = save });
      }) (own_number s n x own).1 refl refl) h
  none_stays s _ runs q h (LeadsTo.Suspends args result n x save suspend acts own unfreed) =
      as_none s.instances _
      (set_as s.instances n x
      (record x {
        status = Status.Suspended suspend s.top.values;
        last_save = Some (record { depth = length s.below; save = save });
      }) (own_number s n x own).1 refl refl) h
  none_stays s _ runs q h (LeadsTo.Wakes j args result y label acts sleeps) =
      subst (λ (xs : List Instance). (i : ℕ) (x : Instance) → slice_get xs i ≡ Some x → x.slots ≡ [])
      (sym (woken_on g s y.number y.instance y.suspend y.values label).instances)
      (as_none s.instances _
      (set_as s.instances y.number y.instance (record y.instance { status = Status.Running }) sleeper.there refl refl)
      h)
    where
      sleeper : IsAsleep s y
      sleeper = asleep s (nth (arg_values g.given.code s.top.values args) 0) y sleeps
  none_stays s _ runs q h (LeadsTo.EndsRamp args result acts ramp) = as_none s.instances _ (ended_as s) h
  none_stays s _ runs q h (LeadsTo.EndsResumed args result u acts mode back) =
      came (ended s) None u (comes (ended s) None u back) (as_none s.instances (ended s).instances (ended_as s) h)
  none_stays s _ runs q h (LeadsTo.Deallocates p memory acts dead) = as_none s.instances _ (gone_as s p) h
  none_stays s _ runs q h (LeadsTo.GoesTo label acts none) = h
  none_stays s _ runs q h (LeadsTo.Leaves label w ws n x acts leaves own may) =
      as_none s.instances _
      (set_as s.instances n x (record x { status = Status.Running }) (own_number s n x own).1 refl refl) h
  none_stays s _ runs q h (LeadsTo.Returns v u acts back) = came s v u (comes s v u back) h

  -- ---- runs

  module _ (knows : KnowsAllocas g) (nests : NestsNone g) (entry : ℕ) (args : List Word) where
    pub none_in_runs : (n : ℕ) → IsFine (framed_state_at g entry args n).outcome
        → HaveNoSlots (framed_state_at g entry args n)
    none_in_runs n fine =
        runs_keep g HaveNoSlots (IsSoundState g) none_stays entry args (λ i x at. absurd (cc))
        (λ k ok. states_sound g knows nests entry args k) n fine

    pub counts_in_runs : (n : ℕ) → IsFine (framed_state_at g entry args n).outcome
        → CountsSlots (framed_state_at g entry args n)
    counts_in_runs n fine =
        runs_keep_by g CountsSlots HaveNoSlots
        (λ s u runs step ok none counts leads. subst CountsSlots step (step_counts g s none counts)) entry args
        (start_counts g.given.code entry args) none_in_runs n fine
