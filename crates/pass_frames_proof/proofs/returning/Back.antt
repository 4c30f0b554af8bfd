-- The activation on top returns in both runs: its slots die, and the one below it goes on behind its call.
use Rattle.std.proofs.Common.{◌≡◌, ℕ, Bool, List, [], ◌∷◌, refl, sym, ap, ◌∙◌, subst}
use Rattle.std.specs.Prelude.{Ok, Option, unwrap_or}
use Rattle.pass_frames_steps.specs.ir_base.declared.outcome.Outcome.{Outcome}
use Rattle.pass_frames_proof.proofs.returning.Dying.{died, over, u, w}
use Rattle.pass_frames_proof.proofs.returning.Popped.{popped, popped_homes, t'}
use Rattle.pass_frames_proof.proofs.returning.Results.{result_given}
use Rattle.pass_frames_steps.proofs.stepping.Onward.{EndsUp}
use Rattle.pass_frames_steps.specs.Followed.{IsOn}
use Rattle.pass_frames_steps.specs.Meaning.{behind_cost}
use Rattle.pass_frames_steps.specs.Related.{AreBelow, AreBuiltOf, Building, below_place, point_of}
use Rattle.pass_frames_steps.specs.Returning.{GoesBehind, IsGivenBehind, OwnsSlots}
use Rattle.pass_frames_steps.specs.Stepping.{AreGiven}
use Rattle.pass_frames_steps.specs.pass_renewed_proof.Renewed.{RenewedGiven}
use Rattle.pass_frames_steps.specs.run_agreement.Machines.{iterate}
use Rattle.pass_frames_steps.specs.run_framed.Framed.{framed_step}
use Rattle.pass_frames_steps.specs.run_laws.memory.Pointers.{Home, IsValue}
use Rattle.pass_frames_steps.specs.run_memory.declared.pointer.Value.{Value}
use Rattle.pass_frames_steps.specs.run_source.Source.{pop, return, returned}
use Rattle.pass_frames_steps.specs.run_source.declared.state.Activation.{Activation}
use Rattle.pass_frames_steps.specs.run_source.declared.state.State.{State}
use Rattle.pass_frames_steps.specs.run_step.Step.{without_slots}
use Rattle.pass_frames_steps.specs.run_step.Values.{Env, with_result}
use Rattle.pass_frames_steps.specs.run_step.declared.world.World.{World}

-- what the source shows doesn't depend on the values on top
pub on_top : (b : Building) (s t : State) (a : Activation) → IsOn b s t → IsOn b (record s { top = a }) t
on_top b s t a h = record {
  running = h.running;
  shown = record {
    homes = h.shown.homes;
    events = h.shown.events;
    outcome = h.shown.outcome;
    instances = h.shown.instances;
  };
}

below_split : (b : Building) (homes : List Home) (hides : ℕ → Bool) (t : State) (a : Activation) (more ts : List Activation)
    → AreBelow b homes hides t (a ∷ more) ts → (c : Activation) × (cs : List Activation) × (ts ≡ c ∷ cs)
below_split b homes hides t a more [] h = absurd h
below_split b homes hides t a more (c ∷ cs) h = (c, cs, refl)

-- how both go back, where the target is so far on a line that left its world
pub record GoesBack (b : Building) (s t : State) (v u : Option Value) : Type 0 where
  pub ends : EndsUp b
  pub source_is : return s v ≡ Ok ends.source
  pub target_is : (at : ℕ) (env : Env) (k : World) → k ≡ t.world
      → return (record t { world = k; top = record t.top { at = at; values = env } }) u ≡ Ok ends.target
  pub cost : behind_cost b s.below ≡ ends.steps

module _ (b : Building) (g : RenewedGiven) (given : AreGiven b g) (s t : State) (r : AreBuiltOf b s t)
    (running : t.outcome ≡ Outcome.Running) (owns : OwnsSlots b s t r) (a : Activation) (more : List Activation)
    (below : s.below ≡ a ∷ more) (v x : Option Value)
    (stand : IsValue r.homes (unwrap_or v Value.Poison) (unwrap_or x Value.Poison))
    (goes : GoesBehind b a s.top.result (unwrap_or v Value.Poison)) where
  both : AreBelow b r.homes r.hides t (a ∷ more) t.below
  both = subst (λ (q : List Activation). AreBelow b r.homes r.hides t q t.below) below r.below

  split : (c : Activation) × (cs : List Activation) × (t.below ≡ c ∷ cs)
  split = below_split b r.homes r.hides t a more t.below both

  abbrev c : Activation
  c = split.0

  abbrev cs : List Activation
  cs = split.1

  place : point_of c ≡ below_place b a
  place = (subst (AreBelow b r.homes r.hides t (a ∷ more)) split.2 both).0.place

  abbrev w1 : World
  w1 = w b s t r given.framings owns

  abbrev u1 : World
  u1 = u b s t r given.framings owns

  abbrev s1 : State
  s1 = record s { world = w1; top = a; below = more }

  abbrev t1 : State
  t1 = t' b s t r w1 u1 (died b s t r given.framings owns) (over b s t r given.framings owns) a c more cs below split.2

  r1 : AreBuiltOf b s1 t1
  r1 = popped b s t r w1 u1 (died b s t r given.framings owns) (over b s t r given.framings owns) a c more cs below
      split.2

  same_homes : r1.homes ≡ r.homes
  unfolding r1
  same_homes =
      popped_homes b s t r w1 u1 (died b s t r given.framings owns) (over b s t r given.framings owns) a c more cs below
      split.2

  behind : IsGivenBehind b s1 t1 s.top.result (unwrap_or v Value.Poison) (unwrap_or x Value.Poison)
  behind =
      result_given b g given s1 t1 r1 running s.top.result (unwrap_or v Value.Poison) (unwrap_or x Value.Poison)
      (subst (λ (q : List Home). IsValue q (unwrap_or v Value.Poison) (unwrap_or x Value.Poison)) (sym same_homes)
      stand) goes

  abbrev source : State
  source = record s1 {
    top = record a { values = with_result a.values s.top.result (unwrap_or v Value.Poison) };
  }

  abbrev target : State
  target = record t {
    world = u1;
    top = record c {
      block = (below_place b a).block;
      at = (below_place b a).at;
      values = with_result c.values s.top.result (unwrap_or x Value.Poison);
    };
    below = cs;
  }

  target_there : (at : ℕ) (env : Env) (k : World) → k ≡ t.world
      → return (record t { world = k; top = record t.top { at = at; values = env } }) x ≡ Ok target
  target_there at env k same =
      ap (pop (returned (record t { world = k; top = record t.top { at = at; values = env } })) x) split.2
      ∙ (λ i. Ok (record t {
        world = record (same i) { memory = without_slots (same i).memory t.top.slots };
        top = record c {
          block = (place i).block;
          at = (place i).at;
          values = with_result c.values (r.top.result i) (unwrap_or x Value.Poison);
        };
        below = cs;
      }))

  pub goes_back : GoesBack b s t v x
  goes_back = record {
    ends = record {
      source = source;
      target = target;
      steps = behind.steps;
      shown = λ i lt. on_top b s1 (iterate (framed_step b.given) i target) source.top (behind.shown i lt);
      related = behind.related;
    };
    source_is = ap (pop (returned s) v) below;
    target_is = target_there;
    cost = ap (behind_cost b) below ∙ behind.cost more;
  }
