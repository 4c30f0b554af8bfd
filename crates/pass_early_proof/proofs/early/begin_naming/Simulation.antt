-- The runs of a module whose begins are named are those of the module, with a value more.
use Rattle.std.proofs.Common.{◌≡◌, inl, ℕ, List, refl, sym, ap, ◌∙◌, subst, arith}
use Rattle.std.proofs.lemmas.Option.{slice_get-map}
use Rattle.std.specs.Prelude.{ℤ, Some, None, Option, map, option_and_then, option_map, slice_get}
use Rattle.rule_laws.proofs.run_agreement.Lockstep.{Advance, ShowsSame, Simulates, lockstep_one, lockstep_within}
use Rattle.rule_laws.specs.run_agreement.Agreements.{AgreesWithin}
use Rattle.rule_laws.specs.run_agreement.Costs.{AgreesBy}
use Rattle.rule_laws.specs.run_agreement.Machines.{IsRunning, Machine}
use Rattle.rule_laws.specs.run_memory.declared.pointer.Value.{Value}
use Rattle.rule_laws.specs.ir_base.declared.outcome.Outcome.{Outcome}
use Rattle.rule_laws.specs.ir_base.declared.outcome.Word.{Word}
use Rattle.rule_laws.specs.run_source.Source.{SeenOf, SourceAt, advance_by, continue, first_state, given, step}
use Rattle.rule_laws.specs.run_source.State.{numbered}
use Rattle.rule_laws.specs.run_source.declared.state.Activation.{Activation}
use Rattle.rule_laws.specs.run_source.declared.state.Instance.{Instance}
use Rattle.rule_laws.specs.run_source.declared.state.Mode.{Mode}
use Rattle.rule_laws.specs.run_source.declared.state.State.{State}
use Rattle.pass_early_proof.proofs.early.begin_naming.NamedActs.{called_there, facts_all, mild, step_there}
use Rattle.run_states.proofs.shortened.ShortActs.{called_short}
use Rattle.run_states.proofs.shortened.ShortSteps.{step_short}
use Rattle.run_states.specs.shortened.Shortened.{IsOwned, short_instance, short_state}
use Rattle.run_states.proofs.renamed.Modules.{world_there}
use Rattle.pass_early_proof.specs.early.renaming.Passes.{named_function, named_module}
use Rattle.pass_early_proof.specs.early.early_states.Beside.{IsShortOf, source_machine}
use Rattle.ir_model.specs.declared.module.Frame.{Frame}
use Rattle.ir_model.specs.declared.module.Module.{Module}
use Rattle.rule_laws.specs.ir_paths.Facts.{all_facts}
use Rattle.rule_laws.specs.ir_paths.declared.point.Facts.{Facts}
use Rattle.rule_laws.specs.run_step.Runs.{seen_of}
use Rattle.rule_laws.specs.run_step.declared.world.World.{World}
use Rattle.run_states.proofs.sound_states.Steps.{first_sound, source_step_sound}
use Rattle.rule_laws.specs.ir_laws.facts.sound_states.Named.{AreLocalsNamed, AreUsesNamed}
use Rattle.run_states.specs.sound_states.Sound.{IsInstanceOf, IsSound}
use Rattle.rule_laws.specs.run_source_tables.Given.{Given}

-- an activation's instance is one of its function
own_fits : (m : Module) (t : State) (o : Option ℕ) → IsInstanceOf (map (short_instance m) t.instances) t.top.func o → IsOwned t (option_and_then (numbered t.instances) o)
own_fits m t None own = tt
own_fits m t (Some i) own = on (slice_get t.instances i) (sym (ap (option_map (λ (x : Instance). x.coroutine)) (slice_get-map (short_instance m) t.instances i)) ∙ own)
  where
    on : (o : Option Instance) → option_map (λ (x : Instance). x.coroutine) (option_map (short_instance m) o) ≡ Some t.top.func → IsOwned t (option_map (λ (x : Instance). (i, x)) o)
    on None e = tt
    on (Some x) e = cc

module _ (m : Module) (locals : AreLocalsNamed m) (uses : AreUsesNamed m) (sizes : List Frame) (answers : List ℤ) where
  abbrev m2 : Module
  m2 = named_module m

  abbrev g : Given
  g = given m sizes answers

  abbrev with_facts : List Facts → Given
  with_facts facts = record { code = m2; sizes = sizes; answers = answers; facts = facts }

  abbrev h : Given
  h = with_facts (all_facts m)

  step_same : (s t : State) → s ≡ short_state m t → IsSound m s → step g s ≡ short_state m (step h t)
  step_same s t is sound =
      ap (step g) is
      ∙ step_short g uses t (own_fits m t t.top.instance (subst (IsSound m) is sound).top.instance)
      ∙ sym (step_there m uses sizes answers t)

  module _ (entry : ℕ) (args : List Word) where
    abbrev A : Machine State
    A = record { start = first_state m entry args; step = step g; seen = λ s. seen_of m s.world s.outcome }

    abbrev B : Machine State
    B = record { start = first_state m2 entry args; step = step h; seen = λ s. seen_of m2 s.world s.outcome }

    abbrev Related : State → State → Type 0
    Related = IsShortOf m

    first_same : first_state m entry args ≡ short_state m (first_state m2 entry args)
    first_same =
        ap (λ (w : World). record (first_state m entry args) { world = w }) (sym (world_there named_function mild m))
        ∙ ap (λ (a : Activation). record (first_state m2 entry args) { top = a })
        (called_short g uses entry (map Value.Int args) None Mode.Plain ∙ sym (called_there m uses sizes answers entry (map Value.Int args) None Mode.Plain))

    stays_by : (k : Given) (s : State) (o : Outcome) → (IsRunning o → ⊥) → advance_by k (continue k) s o ≡ s
    stays_by k s (Outcome.Returned v) over = refl
    stays_by k s Outcome.Running over = absurd (over tt)
    stays_by k s (Outcome.Undefined cause place) over = refl

    advance : (s t : State) → Related s t → Advance A B 1 Related (λ x. 0) s t
    advance s t r = record {
      steps = 1;
      few = omega arith;
      goes_on = inl (omega arith);
      between = λ i low high. absurd (omega arith);
      related = record { is = step_same s t r.is r.sound; sound = source_step_sound m sizes answers s locals r.sound };
    }

    simulates : Simulates A B 1 Related (λ x. 0)
    simulates = record {
      begin = record { is = first_same; sound = first_sound m entry args };
      same = λ s t r. subst (λ (x : State). ShowsSame (B.seen t) (A.seen x)) (sym r.is) (record { events = refl; outcome = refl });
      advance = λ s t r runs fine. advance s t r;
      stays_a = λ s over. stays_by g s s.outcome over;
      stays_b = λ s over. stays_by h s s.outcome over;
    }

    agrees_by : AgreesWithin 1 (SeenOf g entry args) (SeenOf h entry args)
    agrees_by = lockstep_within A B 1 Related (λ x. 0) simulates (λ s t r. ap (λ (x : State). x.world.allocs) r.is)

    pub agrees : AgreesWithin 1 (SourceAt m sizes entry args answers) (SourceAt m2 sizes entry args answers)
    agrees = subst (λ (facts : List Facts). AgreesWithin 1 (SeenOf g entry args) (SeenOf (with_facts facts) entry args)) (sym (facts_all m uses sizes answers)) agrees_by

    abbrev with_machine : List Facts → Machine State
    with_machine facts = record {
      start = first_state m2 entry args;
      step = step (with_facts facts);
      seen = λ s.
          seen_of m2 s.world s.outcome;
    }

    pub corresponds : AgreesBy Related Related A (λ s. 1) (source_machine m2 sizes entry args answers) (λ t. 1)
    corresponds =
        subst (λ (facts : List Facts). AgreesBy Related Related A (λ s. 1) (with_machine facts) (λ t. 1))
        (sym (facts_all m uses sizes answers))
        (lockstep_one A B Related (λ x. 0) simulates (λ s t r. ap (λ (x : State). x.world.allocs) r.is))

pub named_agrees : (m : Module) → AreLocalsNamed m → AreUsesNamed m → (sizes : List Frame) (entry : ℕ) (args : List Word) (answers : List ℤ) → AgreesWithin 1 (SourceAt m sizes entry args answers) (SourceAt (named_module m) sizes entry args answers)
named_agrees m locals uses sizes entry args answers = agrees m locals uses sizes answers entry args

pub named_corresponds : (m : Module) → AreLocalsNamed m → AreUsesNamed m
    → (sizes : List Frame) (entry : ℕ) (args : List Word) (answers : List ℤ)
    → AgreesBy (IsShortOf m) (IsShortOf m) (source_machine m sizes entry args answers) (λ s. 1)
    (source_machine (named_module m) sizes entry args answers) (λ t. 1)
named_corresponds m locals uses sizes entry args answers = corresponds m locals uses sizes answers entry args
