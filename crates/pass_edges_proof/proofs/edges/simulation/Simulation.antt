-- The runs of the module whose coroutines' edges have blocks are those of the module.
use Rattle.std.proofs.Common.{◌≡◌, ◌⊎◌, inl, inr, ℕ, ◌<◌, List, [], ◌∷◌, refl, sym, ap, ◌∙◌, subst, arith}
use Rattle.std.specs.Prelude.{ℤ, None, Ok, Err, Result, map}
use Rattle.pass_early_proof.proofs.run_agreement.Lockstep.{Advance, IsBetween, ShowsSame, Simulates, lockstep_near, lockstep_within}
use Rattle.pass_early_proof.specs.run_agreement.Agreements.{AgreesWithin}
use Rattle.pass_early_proof.specs.run_agreement.Costs.{AgreesBy}
use Rattle.pass_early_proof.specs.run_agreement.Machines.{IsFine, IsRunning, Machine, iterate}
use Rattle.pass_early_proof.specs.run_memory.Memory.{access_bytes, encode}
use Rattle.pass_early_proof.specs.run_memory.declared.block.MemoryBlock.{MemoryBlock}
use Rattle.pass_early_proof.specs.run_memory.declared.pointer.Value.{Value}
use Rattle.pass_early_proof.specs.ir_base.declared.cause.Cause.{Cause}
use Rattle.pass_early_proof.specs.ir_base.declared.outcome.Outcome.{Outcome}
use Rattle.pass_early_proof.specs.ir_base.declared.outcome.Word.{Word}
use Rattle.pass_early_proof.specs.run_source.Source.{SourceAt, act, advance_by, context_of, continue, first_state, given, step}
use Rattle.pass_early_proof.specs.run_source.State.{function_of, or_undefined, work_of}
use Rattle.pass_early_proof.specs.run_source.declared.state.Activation.{Activation}
use Rattle.pass_early_proof.specs.run_source.declared.state.Mode.{Mode}
use Rattle.pass_early_proof.specs.run_source.declared.state.State.{State}
use Rattle.pass_edges_proof.proofs.edges.states.Calls.{called_moved}
use Rattle.pass_edges_proof.proofs.edges.states.Performs.{step_near}
use Rattle.pass_edges_proof.proofs.edges.states.States.{operand_moved}
use Rattle.pass_edges_proof.specs.edges.simulation.Beside.{IsNearlySplitOf, IsSplitOf}
use Rattle.pass_edges_proof.specs.edges.states.MovedState.{AreEdgesKept, edges_split, moved_state}
use Rattle.pass_edges_proof.specs.edges.states.Near.{IsBefore, IsNear}
use Rattle.ir_model.specs.declared.module.Frame.{Frame}
use Rattle.ir_model.specs.declared.module.GlobalItem.{GlobalItem}
use Rattle.ir_model.specs.declared.module.Module.{Module}
use Rattle.pass_early_proof.specs.run_step.Runs.{seen_of}
use Rattle.pass_early_proof.specs.run_step.Step.{action_of, fetch, first_world, global_block}
use Rattle.pass_early_proof.specs.run_step.Values.{access_of, stored}
use Rattle.pass_early_proof.specs.run_step.declared.world.World.{World}
use Rattle.pass_early_proof.proofs.run_states.sound_states.Steps.{first_sound, source_step_sound}
use Rattle.pass_early_proof.specs.early.early_states.Beside.{source_machine}
use Rattle.pass_early_proof.specs.ir_laws.facts.sound_states.Named.{AreLocalsNamed}
use Rattle.pass_early_proof.specs.run_states.sound_states.Sound.{IsSound}
use Rattle.pass_early_proof.specs.run_source_tables.Given.{Given}
use Rattle.pass_early_proof.proofs.run_states.named.Simulation.{running_is}

map_same : {A B : Type 0} (f g : A → B) → ((x : A) → f x ≡ g x) → (xs : List A) → map f xs ≡ map g xs
map_same f g h [] = refl
map_same f g h (x ∷ xs) =
    let rest = map_same f g h xs in
    λ j. h x j ∷ rest j

module _ (m : Module) (sizes : List Frame) (answers : List ℤ) (names : AreLocalsNamed m) (keeps : AreEdgesKept m) where
  abbrev g : Given
  g = given m sizes answers

  abbrev k : Given
  k = given (edges_split m) sizes answers

  -- ---- the start

  world_same : first_world (edges_split m) ≡ first_world m
  world_same = ap (λ (blocks : List MemoryBlock). record { memory = blocks; events = []; answers_used = 0; allocs = 0 }) (map_same (global_block (edges_split m)) (global_block m) block_same m.globals)
    where
      block_same : (x : GlobalItem) → global_block (edges_split m) x ≡ global_block m x
      block_same x = ap (λ (v : Value). record (global_block m x) { bytes = encode (access_bytes (access_of x.ty)) (stored (access_of x.ty) v) }) (operand_moved m 0 [] x.ty x.init)

  first_same : (entry : ℕ) (args : List Word) → first_state (edges_split m) entry args ≡ moved_state m (first_state m entry args)
  first_same entry args =
      ap (λ (w : World). record (first_state (edges_split m) entry args) { world = w }) world_same
      ∙ ap (λ (a : Activation). record { world = first_world m; instances = []; top = a; below = []; outcome = Outcome.Running }) (called_moved m entry (map Value.Int args) None Mode.Plain (names entry).params)

  -- ---- a step

  module _ (s : State) (h : IsSound m s) (runs : s.outcome ≡ Outcome.Running) (fine : IsFine (step g s).outcome) where
    abbrev made : Result State Cause
    made = act g (continue g) s (action_of (context_of g s) (work_of s) (fetch (function_of g s) s.top.block s.top.at))

    abbrev made_then : Result State Cause
    made_then = act k (continue k) (moved_state m s) (action_of (context_of k (moved_state m s)) (work_of (moved_state m s)) (fetch (function_of k (moved_state m s)) (moved_state m s).top.block s.top.at))

    -- one step comes to where the source comes, or one step before it
    abbrev Arrives : State → State → Type 0
    Arrives t u = (u ≡ moved_state m t) ⊎ IsBefore m sizes answers t u

    matched : (r q : Result State Cause) → IsNear m sizes answers r q → IsFine (or_undefined g s r).outcome → Arrives (or_undefined g s r) (or_undefined k (moved_state m s) q)
    matched (Err c) q n e = absurd e
    matched (Ok t) (Err d) n e = absurd n
    matched (Ok t) (Ok u) n e = n

    is_made : step g s ≡ or_undefined g s made
    is_made = ap (advance_by g (continue g) s) runs

    is_made_then : step k (moved_state m s) ≡ or_undefined k (moved_state m s) made_then
    is_made_then = ap (advance_by k (continue k) (moved_state m s)) runs

    arrives : Arrives (step g s) (step k (moved_state m s))
    arrives =
        subst (λ (t : State). Arrives t (step k (moved_state m s))) (sym is_made)
        (subst (Arrives (or_undefined g s made)) (sym is_made_then)
        (matched made made_then (step_near m sizes answers names keeps s h runs) (subst (λ (t : State). IsFine t.outcome) is_made fine)))

  -- ---- the two machines

  module _ (entry : ℕ) (args : List Word) where
    abbrev A : Machine State
    A = record { start = first_state m entry args; step = step g; seen = λ s. seen_of m s.world s.outcome }

    abbrev B : Machine State
    B = record { start = first_state (edges_split m) entry args; step = step k; seen = λ s. seen_of (edges_split m) s.world s.outcome }

    abbrev Related : State → State → Type 0
    Related = IsSplitOf m

    stays_by : (x : Given) (s : State) (o : Outcome) → (IsRunning o → ⊥) → advance_by x (continue x) s o ≡ s
    stays_by x s (Outcome.Returned v) over = refl
    stays_by x s Outcome.Running over = absurd (over tt)
    stays_by x s (Outcome.Undefined cause place) over = refl

    abbrev Advances : State → State → Type 0
    Advances s t = Advance A B 2 Related (λ x. 0) s t

    only_one : (i : ℕ) → 0 < i → i < 2 → i ≡ 1
    only_one i low high = omega arith

    advance : (s : State) → IsSound m s → IsRunning s.outcome → IsFine (step g s).outcome → Advances s (moved_state m s)
    advance s h running fine = on (arrives s h (running_is s.outcome running) fine)
      where
        on : (step k (moved_state m s) ≡ moved_state m (step g s)) ⊎ IsBefore m sizes answers (step g s) (step k (moved_state m s)) → Advances s (moved_state m s)
        on (inl same) = record {
          steps = 1;
          few = omega arith;
          goes_on = inl (omega arith);
          between = λ i low high. absurd (omega arith);
          related = record { is = same; holds = source_step_sound m sizes answers s names h };
        }
        on (inr before) = record {
          steps = 2;
          few = omega arith;
          goes_on = inl (omega arith);
          between = λ i low high.
              subst (λ (n : ℕ). IsBetween (A.seen s) (A.seen (step g s)) (B.seen (iterate (step k) n (moved_state m s)))) (sym (only_one i low high))
              (before.running, inr (ap (λ (w : World). (seen_of m w s.outcome).events) before.world));
          related = record { is = before.goes_on; holds = source_step_sound m sizes answers s names h };
        }

    simulates : Simulates A B 2 Related (λ x. 0)
    simulates = record {
      begin = record { is = first_same entry args; holds = first_sound m entry args };
      same = λ s t r. subst (λ (x : State). ShowsSame (B.seen x) (A.seen s)) (sym r.is) (record { events = refl; outcome = refl });
      advance = λ s t r runs fine. subst (λ (x : State). Advances s x) (sym r.is) (advance s r.holds runs fine);
      stays_a = λ s over. stays_by g s s.outcome over;
      stays_b = λ s over. stays_by k s s.outcome over;
    }

    pub agrees : AgreesWithin 2 (SourceAt m sizes entry args answers) (SourceAt (edges_split m) sizes entry args answers)
    agrees = lockstep_within A B 2 Related (λ x. 0) simulates (λ s t r. ap (λ (x : State). x.world.allocs) (sym r.is))

    pub corresponds : AgreesBy Related (IsNearlySplitOf m sizes entry args answers) A (λ s. 2) B (λ t. 1)
    corresponds = lockstep_near A B 2 Related (λ x. 0) simulates
        (λ s t r. ap (λ (x : State). x.world.allocs) (sym r.is))

pub edges_agree : (m : Module) → AreLocalsNamed m → AreEdgesKept m → (sizes : List Frame) (entry : ℕ) (args : List Word) (answers : List ℤ) → AgreesWithin 2 (SourceAt m sizes entry args answers) (SourceAt (edges_split m) sizes entry args answers)
edges_agree m names keeps sizes entry args answers = agrees m sizes answers names keeps entry args

pub edges_correspond : (m : Module) → AreLocalsNamed m → AreEdgesKept m
    → (sizes : List Frame) (entry : ℕ) (args : List Word) (answers : List ℤ)
    → AgreesBy (IsSplitOf m) (IsNearlySplitOf m sizes entry args answers) (source_machine m sizes entry args answers)
    (λ s. 2) (source_machine (edges_split m) sizes entry args answers) (λ t. 1)
edges_correspond m names keeps sizes entry args answers = corresponds m sizes answers names keeps entry args
