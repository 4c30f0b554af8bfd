-- The runs of the module whose saves are written out are those of the module.
use Rattle.std.proofs.Common.{◌≡◌, inl, ℕ, ◌<◌, Bool, true, false, List, [], ◌∷◌, refl, sym, ap, ◌∙◌, subst, arith}
use Rattle.std.specs.Prelude.{ℤ, negsuc, Some, None, Ok, Err, Option, Result, map, slice_get, if◌then◌else◌}
use Rattle.rule_laws.proofs.run_agreement.Lockstep.{Advance, IsBetween, ShowsSame, Simulates, lockstep_near, lockstep_within}
use Rattle.rule_laws.specs.run_agreement.Agreements.{AgreesWithin}
use Rattle.rule_laws.specs.run_agreement.Costs.{AgreesBy, IsNear}
use Rattle.rule_laws.specs.run_agreement.Machines.{IsFine, IsRunning, Machine, iterate}
use Rattle.rule_laws.specs.run_memory.Memory.{access_bytes, encode}
use Rattle.rule_laws.specs.run_memory.declared.block.MemoryBlock.{MemoryBlock}
use Rattle.rule_laws.specs.run_memory.declared.pointer.Value.{Value}
use Rattle.rule_laws.specs.ir_base.declared.cause.Cause.{Cause}
use Rattle.rule_laws.specs.ir_base.declared.outcome.Outcome.{Outcome}
use Rattle.rule_laws.specs.ir_base.declared.outcome.Word.{Word}
use Rattle.rule_laws.specs.run_source.Source.{SourceAt, act, advance_by, context_of, continue, first_state, given, save_for, step}
use Rattle.rule_laws.specs.run_source.State.{gives, next, or_undefined, point_of, with_instance, with_left, work_of}
use Rattle.rule_laws.specs.run_source.declared.state.Activation.{Activation}
use Rattle.rule_laws.specs.run_source.declared.state.Mode.{Mode}
use Rattle.rule_laws.specs.run_source.declared.state.State.{State}
use Rattle.ir_model.specs.Names.{function_at}
use Rattle.ir_model.specs.declared.instr.Instr.{Instr}
use Rattle.ir_model.specs.declared.module.Frame.{Frame}
use Rattle.ir_model.specs.declared.module.GlobalItem.{GlobalItem}
use Rattle.ir_model.specs.declared.module.Module.{Module}
use Rattle.rule_laws.specs.run_step.Results.{and_then}
use Rattle.rule_laws.specs.run_step.Runs.{seen_of}
use Rattle.rule_laws.specs.run_step.Step.{action_of, fetch, first_world, global_block}
use Rattle.rule_laws.specs.run_step.Values.{access_of, integer, stored}
use Rattle.rule_laws.specs.run_step.declared.world.World.{World}
use Rattle.pass_early_proof.specs.early.early_states.Beside.{IsSavedOf, source_machine}
use Rattle.pass_early_proof.specs.early.saves.SavesWritten.{is_bare, saves_written}
use Rattle.rule_laws.specs.ir_laws.facts.expanded.Spots.{instrs_in}
use Rattle.pass_early_proof.specs.early.saves.Spots.{own_saves}
use Rattle.rule_laws.proofs.ir_laws.paths.named_locals.Names.{tokens_named}
use Rattle.pass_early_proof.proofs.early.save_simulation.Suspending.{Made, Refused, Saving, comes_behind, first_step, result, saving, second_step, source_step}
use Rattle.pass_early_proof.proofs.early.save_states.Calls.{called_saved}
use Rattle.pass_early_proof.proofs.early.save_states.Performs.{step_kept}
use Rattle.pass_early_proof.proofs.early.save_states.States.{operand_saved}
use Rattle.rule_laws.specs.ir_laws.paths.saved.SavedState.{AreTokensNamed}
use Rattle.pass_early_proof.specs.early.save_states.SavedState.{StandsAlone, saved_result, saved_state}
use Rattle.run_states.proofs.sound_states.Steps.{first_sound, source_step_sound}
use Rattle.rule_laws.specs.ir_laws.facts.sound_states.Named.{AreLocalsNamed, AreUsesNamed}
use Rattle.run_states.specs.sound_states.Sound.{IsSound}
use Rattle.rule_laws.specs.run_source_tables.Given.{Given}
use Rattle.run_states.proofs.named.Simulation.{running_is}

map_same : {A B : Type 0} (f g : A → B) → ((x : A) → f x ≡ g x) → (xs : List A) → map f xs ≡ map g xs
map_same f g h [] = refl
map_same f g h (x ∷ xs) =
    let rest = map_same f g h xs in
    λ j. h x j ∷ rest j

-- an instruction stands alone, or is a suspend without a save
data Standing (c : Bool) (o : Option Instr) : Type 0 where
  Alone : own_saves c o ≡ 0 → Standing c o
  Bare : (i : Instr) → o ≡ Some i → is_bare c i ≡ true → Standing c o

standing : (c : Bool) (o : Option Instr) → Standing c o
standing c None = Alone refl
standing c (Some i) = on (is_bare c i) refl
  where
    on : (b : Bool) → is_bare c i ≡ b → Standing c (Some i)
    on true e = Bare i refl e
    on false e = Alone (ap (λ (t : Bool). if t then 1 else 0) e)

module _ (m : Module) (sizes : List Frame) (answers : List ℤ) (names : AreLocalsNamed m) (tokens : AreTokensNamed m) where
  abbrev g : Given
  g = given m sizes answers

  abbrev k : Given
  k = given (saves_written m) sizes answers

  -- ---- the start

  world_same : first_world (saves_written m) ≡ first_world m
  world_same = ap (λ (blocks : List MemoryBlock). record { memory = blocks; events = []; answers_used = 0; allocs = 0 }) (map_same (global_block (saves_written m)) (global_block m) block_same m.globals)
    where
      block_same : (x : GlobalItem) → global_block (saves_written m) x ≡ global_block m x
      block_same x = ap (λ (v : Value). record (global_block m x) { bytes = encode (access_bytes (access_of x.ty)) (stored (access_of x.ty) v) }) (operand_saved m 0 [] x.ty x.init)

  first_same : (entry : ℕ) (args : List Word) → first_state (saves_written m) entry args ≡ saved_state m (first_state m entry args)
  first_same entry args =
      ap (λ (w : World). record (first_state (saves_written m) entry args) { world = w }) world_same
      ∙ ap (λ (a : Activation). record { world = first_world m; instances = []; top = a; below = []; outcome = Outcome.Running }) (called_saved m entry (map Value.Int args) None Mode.Plain (names entry).params)

  -- ---- a step

  module _ (s : State) (h : IsSound m s) (runs : s.outcome ≡ Outcome.Running) (fine : IsFine (step g s).outcome) where
    matched : (r : Result State Cause) → IsFine (or_undefined g s r).outcome → or_undefined k (saved_state m s) (saved_result m r) ≡ saved_state m (or_undefined g s r)
    matched (Err cause) e = absurd e
    matched (Ok t) e = refl

    abbrev made : Result State Cause
    made = act g (continue g) s (action_of (context_of g s) (work_of s) (fetch (function_at m s.top.func) s.top.block s.top.at))

    is_made : step g s ≡ or_undefined g s made
    is_made = ap (advance_by g (continue g) s) runs

    lone_same : StandsAlone m s → step k (saved_state m s) ≡ saved_state m (step g s)
    lone_same lone =
        ap (advance_by k (continue k) (saved_state m s)) runs
        ∙ ap (or_undefined k (saved_state m s)) (step_kept m sizes answers s names tokens h lone)
        ∙ matched made (subst (λ (t : State). IsFine t.outcome) is_made fine)
        ∙ ap (saved_state m) (sym is_made)

    -- ---- a suspend without a save

    module _ (i : Instr) (there : slice_get (instrs_in (slice_get (function_at m s.top.func).blocks s.top.block)) s.top.at ≡ Some i) (bare : is_bare (function_at m s.top.func).coroutine i ≡ true) where
      abbrev name : Option ℕ
      name = result m sizes answers tokens s h runs i there bare

      abbrev v : Value
      v = integer 8 (negsuc 0)

      -- what the two steps come to
      record Twice : Type 0 where
        between : State
        first : step k (saved_state m s) ≡ between
        running : between.outcome ≡ Outcome.Running
        world : between.world ≡ s.world
        second : step k between ≡ saved_state m (step g s)

      twice_by : (r : Result State Cause) → Saving s r → step g s ≡ or_undefined g s (and_then r (λ (t : State). Ok (gives t name v))) → step k (saved_state m s) ≡ or_undefined k (saved_state m s) (and_then (saved_result m r) (λ (t : State). Ok (next t))) → Twice
      twice_by _ (Refused cause) source target = absurd (subst (λ (t : State). IsFine t.outcome) source fine)
      twice_by _ (Made j x) source target = record {
        between = next (saved_state m (with_left (with_instance s j x) true));
        first = target;
        running = runs;
        world = refl;
        second =
            second_step m sizes answers tokens s h runs i there bare (next (saved_state m (with_left (with_instance s j x) true))) runs refl refl refl
            ∙ comes_behind m sizes answers tokens s h runs i there bare j x
            ∙ ap (saved_state m) (sym source);
      }

      twice : Twice
      twice = twice_by (save_for s (point_of s) (point_of s)) (saving s (point_of s) (point_of s)) (source_step m sizes answers tokens s h runs i there bare) (first_step m sizes answers tokens s h runs i there bare)

  -- ---- the two machines

  module _ (entry : ℕ) (args : List Word) where
    abbrev A : Machine State
    A = record { start = first_state m entry args; step = step g; seen = λ s. seen_of m s.world s.outcome }

    abbrev B : Machine State
    B = record { start = first_state (saves_written m) entry args; step = step k; seen = λ s. seen_of (saves_written m) s.world s.outcome }

    abbrev Related : State → State → Type 0
    Related = IsSavedOf m

    stays_by : (x : Given) (s : State) (o : Outcome) → (IsRunning o → ⊥) → advance_by x (continue x) s o ≡ s
    stays_by x s (Outcome.Returned v) over = refl
    stays_by x s Outcome.Running over = absurd (over tt)
    stays_by x s (Outcome.Undefined cause place) over = refl

    abbrev Advances : State → State → Type 0
    Advances s t = Advance A B 2 Related (λ x. 0) s t

    advance_lone : (s : State) → IsSound m s → step k (saved_state m s) ≡ saved_state m (step g s) → Advances s (saved_state m s)
    advance_lone s h same = record {
      steps = 1;
      few = omega arith;
      goes_on = inl (omega arith);
      between = λ i low high. absurd (omega arith);
      related = record { is = same; holds = source_step_sound m sizes answers s names h };
    }

    only_one : (i : ℕ) → 0 < i → i < 2 → i ≡ 1
    only_one i low high = omega arith

    advance_twice : (s : State) → IsSound m s → (u : State) → step k (saved_state m s) ≡ u → u.outcome ≡ Outcome.Running → u.world ≡ s.world → step k u ≡ saved_state m (step g s) → Advances s (saved_state m s)
    advance_twice s h u first running world second = record {
      steps = 2;
      few = omega arith;
      goes_on = inl (omega arith);
      between = λ i low high.
          subst (λ (n : ℕ). IsBetween (A.seen s) (A.seen (step g s)) (B.seen (iterate (step k) n (saved_state m s)))) (sym (only_one i low high))
          (subst (λ (t : State). IsBetween (A.seen s) (A.seen (step g s)) (B.seen t)) (sym first)
          (running, inl (ap (λ (w : World). (seen_of m w s.outcome).events) world)));
      related = record { is = ap (step k) first ∙ second; holds = source_step_sound m sizes answers s names h };
    }

    advance : (s : State) → IsSound m s → IsRunning s.outcome → IsFine (step g s).outcome → Advances s (saved_state m s)
    advance s h running fine = on (standing (function_at m s.top.func).coroutine (slice_get (instrs_in (slice_get (function_at m s.top.func).blocks s.top.block)) s.top.at))
      where
        runs : s.outcome ≡ Outcome.Running
        runs = running_is s.outcome running

        on : Standing (function_at m s.top.func).coroutine (slice_get (instrs_in (slice_get (function_at m s.top.func).blocks s.top.block)) s.top.at) → Advances s (saved_state m s)
        on (Alone lone) = advance_lone s h (lone_same s h runs fine lone)
        on (Bare i there bare) =
            let two = twice s h runs fine i there bare in
            advance_twice s h two.between two.first two.running two.world two.second

    simulates : Simulates A B 2 Related (λ x. 0)
    simulates = record {
      begin = record { is = first_same entry args; holds = first_sound m entry args };
      same = λ s t r. subst (λ (x : State). ShowsSame (B.seen x) (A.seen s)) (sym r.is) (record { events = refl; outcome = refl });
      advance = λ s t r runs fine. subst (λ (x : State). Advances s x) (sym r.is) (advance s r.holds runs fine);
      stays_a = λ s over. stays_by g s s.outcome over;
      stays_b = λ s over. stays_by k s s.outcome over;
    }

    pub agrees : AgreesWithin 2 (SourceAt m sizes entry args answers) (SourceAt (saves_written m) sizes entry args answers)
    agrees = lockstep_within A B 2 Related (λ x. 0) simulates (λ s t r. ap (λ (x : State). x.world.allocs) (sym r.is))

    pub corresponds : AgreesBy Related (IsNear B 2 Related) A (λ s. 2) B (λ t. 1)
    corresponds = lockstep_near A B 2 Related (λ x. 0) simulates
        (λ s t r. ap (λ (x : State). x.world.allocs) (sym r.is))

pub saves_agree : (m : Module) → AreLocalsNamed m → AreUsesNamed m → (sizes : List Frame) (entry : ℕ) (args : List Word) (answers : List ℤ) → AgreesWithin 2 (SourceAt m sizes entry args answers) (SourceAt (saves_written m) sizes entry args answers)
saves_agree m names uses sizes entry args answers = agrees m sizes answers names (tokens_named m names uses) entry args

pub saves_correspond : (m : Module) → AreLocalsNamed m → AreUsesNamed m
    → (sizes : List Frame) (entry : ℕ) (args : List Word) (answers : List ℤ)
    → AgreesBy (IsSavedOf m) (IsNear (source_machine (saves_written m) sizes entry args answers) 2 (IsSavedOf m))
    (source_machine m sizes entry args answers) (λ s. 2) (source_machine (saves_written m) sizes entry args answers)
    (λ t. 1)
saves_correspond m names uses sizes entry args answers = corresponds m sizes answers names (tokens_named m names uses)
    entry args
