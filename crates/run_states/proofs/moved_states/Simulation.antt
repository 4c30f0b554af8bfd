-- The framed runs of the module whose functions have blocks on some of their edges are those of the module.
use Rattle.std.proofs.Common.{◌≡◌, ◌⊎◌, inl, inr, ℕ, ◌<◌, List, [], refl, sym, ap, ◌∙◌, subst, arith}
use Rattle.std.specs.Prelude.{ℤ, None, Ok, Err, Result, map}
use Rattle.ir_laws.proofs.run_agreement.Lockstep.{Advance, IsBetween, ShowsSame, Simulates, lockstep_near, lockstep_within}
use Rattle.ir_laws.specs.run_agreement.Agreements.{AgreesWithin}
use Rattle.ir_laws.specs.run_agreement.Costs.{AgreesBy, IsNear as IsWithin}
use Rattle.ir_laws.specs.run_agreement.Machines.{IsFine, IsRunning, Machine, iterate}
use Rattle.ir_laws.specs.run_memory.Memory.{access_bytes, encode}
use Rattle.ir_laws.specs.run_memory.declared.block.MemoryBlock.{MemoryBlock}
use Rattle.ir_laws.specs.run_memory.declared.pointer.Value.{Value}
use Rattle.ir_laws.specs.ir_base.declared.cause.Cause.{Cause}
use Rattle.ir_laws.specs.ir_base.declared.outcome.Outcome.{Outcome}
use Rattle.ir_laws.specs.ir_base.declared.outcome.Word.{Word}
use Rattle.ir_laws.specs.run_source.Source.{first_state}
use Rattle.ir_laws.specs.run_source.State.{function_of, or_undefined}
use Rattle.ir_laws.specs.run_source.declared.state.Activation.{Activation}
use Rattle.ir_laws.specs.run_source.declared.state.Mode.{Mode}
use Rattle.ir_laws.specs.run_source.declared.state.State.{State}
use Rattle.ir_laws.specs.facts.sound_states.Named.{AreLocalsNamed}
use Rattle.frame_layout.specs.declared.layout.Layout.{Layout}
use Rattle.frame_layout.specs.declared.layout.Layouts.{Layouts}
use Rattle.ir_laws.proofs.facts.Lists.{map_same}
use Rattle.run_states.proofs.named.Simulation.{running_is}
use Rattle.run_framed.specs.Framed.{FramedAt, FramedGiven, framed_advance, framed_given, framed_next, framed_step}
use Rattle.ir_laws.specs.ir_model.declared.module.GlobalItem.{GlobalItem}
use Rattle.ir_laws.specs.ir_model.declared.module.Module.{Module}
use Rattle.ir_laws.specs.run_step.Runs.{seen_of}
use Rattle.ir_laws.specs.run_step.Step.{fetch, first_world, global_block}
use Rattle.ir_laws.specs.run_step.Values.{access_of, stored}
use Rattle.ir_laws.specs.run_step.declared.world.World.{World}
use Rattle.run_states.proofs.moved_states.Calls.{called_moved}
use Rattle.run_states.proofs.moved_states.Parts.{operand_moved}
use Rattle.run_states.proofs.moved_states.Soundness.{first_holds, step_holds}
use Rattle.run_states.proofs.moved_states.Steps.{step_near}
use Rattle.run_states.specs.moved_states.Beside.{IsMovedOf, framed_machine}
use Rattle.run_states.specs.moved_states.MovedState.{moved_module, moved_state}
use Rattle.run_states.specs.moved_states.Moving.{AllMove, KeepsKinds, Moving}
use Rattle.run_states.specs.moved_states.Near.{HoldsIn, IsBefore, IsNear}

module _ (mv : Moving) (kinds : KeepsKinds mv) (m : Module) (names : AreLocalsNamed m) (moves : AllMove mv m) (layouts : List Layout) (answers : List ℤ) where
  abbrev g : FramedGiven
  g = framed_given m layouts answers

  abbrev k : FramedGiven
  k = framed_given (moved_module mv m) layouts answers

  -- ---- the start

  world_same : first_world (moved_module mv m) ≡ first_world m
  world_same = ap (λ (blocks : List MemoryBlock). record { memory = blocks; events = []; answers_used = 0; allocs = 0 }) (map_same (global_block (moved_module mv m)) (global_block m) block_same m.globals)
    where
      block_same : (x : GlobalItem) → global_block (moved_module mv m) x ≡ global_block m x
      block_same x = ap (λ (v : Value). record (global_block m x) { bytes = encode (access_bytes (access_of x.ty)) (stored (access_of x.ty) v) }) (operand_moved mv kinds m 0 [] x.ty x.init)

  pub first_same : (entry : ℕ) (args : List Word) → first_state (moved_module mv m) entry args ≡ moved_state mv m (first_state m entry args)
  first_same entry args =
      ap (λ (w : World). record (first_state (moved_module mv m) entry args) { world = w }) world_same
      ∙ ap (λ (a : Activation). record { world = first_world m; instances = []; top = a; below = []; outcome = Outcome.Running }) (called_moved mv kinds m entry (map Value.Int args) None Mode.Plain refl (moves entry) (names entry).params)

  -- ---- a step

  module _ (s : State) (h : HoldsIn mv m s) (runs : s.outcome ≡ Outcome.Running) (fine : IsFine (framed_step g s).outcome) where
    abbrev made : Result State Cause
    made = framed_next g s (fetch (function_of g.given s) s.top.block s.top.at)

    abbrev made_then : Result State Cause
    made_then = framed_next k (moved_state mv m s) (fetch (function_of k.given (moved_state mv m s)) (moved_state mv m s).top.block s.top.at)

    -- one step comes to where the module comes, or one step before it
    abbrev Arrives : State → State → Type 0
    Arrives t u = (u ≡ moved_state mv m t) ⊎ IsBefore mv m layouts answers t u

    matched : (r q : Result State Cause) → IsNear mv m layouts answers r q → IsFine (or_undefined g.given s r).outcome → Arrives (or_undefined g.given s r) (or_undefined k.given (moved_state mv m s) q)
    matched (Err c) q n e = absurd e
    matched (Ok t) (Err d) n e = absurd n
    matched (Ok t) (Ok u) n e = n

    is_made : framed_step g s ≡ or_undefined g.given s made
    is_made = ap (framed_advance g s) runs

    is_made_then : framed_step k (moved_state mv m s) ≡ or_undefined k.given (moved_state mv m s) made_then
    is_made_then = ap (framed_advance k (moved_state mv m s)) runs

    pub arrives : Arrives (framed_step g s) (framed_step k (moved_state mv m s))
    arrives =
        subst (λ (t : State). Arrives t (framed_step k (moved_state mv m s))) (sym is_made)
        (subst (Arrives (or_undefined g.given s made)) (sym is_made_then)
        (matched made made_then (step_near mv kinds m layouts answers names moves s h runs) (subst (λ (t : State). IsFine t.outcome) is_made fine)))

  -- ---- the two machines

  module _ (entry : ℕ) (args : List Word) where
    abbrev A : Machine State
    A = record { start = first_state m entry args; step = framed_step g; seen = λ s. seen_of m s.world s.outcome }

    abbrev B : Machine State
    B = record { start = first_state (moved_module mv m) entry args; step = framed_step k; seen = λ s. seen_of (moved_module mv m) s.world s.outcome }

    abbrev Related : State → State → Type 0
    Related = IsMovedOf mv m

    stays_by : (x : FramedGiven) (s : State) (o : Outcome) → (IsRunning o → ⊥) → framed_advance x s o ≡ s
    stays_by x s (Outcome.Returned v) over = refl
    stays_by x s Outcome.Running over = absurd (over tt)
    stays_by x s (Outcome.Undefined cause place) over = refl

    abbrev Advances : State → State → Type 0
    Advances s t = Advance A B 2 Related (λ x. 0) s t

    only_one : (i : ℕ) → 0 < i → i < 2 → i ≡ 1
    only_one i low high = omega arith

    advance : (s : State) → HoldsIn mv m s → IsRunning s.outcome → IsFine (framed_step g s).outcome → Advances s (moved_state mv m s)
    advance s h running fine = on (arrives s h (running_is s.outcome running) fine)
      where
        on : (framed_step k (moved_state mv m s) ≡ moved_state mv m (framed_step g s)) ⊎ IsBefore mv m layouts answers (framed_step g s) (framed_step k (moved_state mv m s)) → Advances s (moved_state mv m s)
        on (inl same) = record {
          steps = 1;
          few = omega arith;
          goes_on = inl (omega arith);
          between = λ i low high. absurd (omega arith);
          related = record { is = same; holds = step_holds mv m layouts answers names moves s h };
        }
        on (inr before) = record {
          steps = 2;
          few = omega arith;
          goes_on = inl (omega arith);
          between = λ i low high.
              subst (λ (n : ℕ). IsBetween (A.seen s) (A.seen (framed_step g s)) (B.seen (iterate (framed_step k) n (moved_state mv m s)))) (sym (only_one i low high))
              (before.running, inr (ap (λ (w : World). (seen_of m w s.outcome).events) before.world));
          related = record { is = before.goes_on; holds = step_holds mv m layouts answers names moves s h };
        }

    simulates : Simulates A B 2 Related (λ x. 0)
    simulates = record {
      begin = record { is = first_same entry args; holds = first_holds mv m layouts answers names moves entry args };
      same = λ s t r. subst (λ (x : State). ShowsSame (B.seen x) (A.seen s)) (sym r.is) (record { events = refl; outcome = refl });
      advance = λ s t r runs fine. subst (λ (x : State). Advances s x) (sym r.is) (advance s r.holds runs fine);
      stays_a = λ s over. stays_by g s s.outcome over;
      stays_b = λ s over. stays_by k s s.outcome over;
    }

    agrees : AgreesWithin 2 (λ n. seen_of m (iterate (framed_step g) n (first_state m entry args)).world (iterate (framed_step g) n (first_state m entry args)).outcome) (λ n. seen_of (moved_module mv m) (iterate (framed_step k) n (first_state (moved_module mv m) entry args)).world (iterate (framed_step k) n (first_state (moved_module mv m) entry args)).outcome)
    agrees = lockstep_within A B 2 Related (λ x. 0) simulates (λ s t r. ap (λ (x : State). x.world.allocs) (sym r.is))

    corresponds : AgreesBy Related (IsWithin B 2 Related) A (λ s. 2) B (λ t. 1)
    corresponds = lockstep_near A B 2 Related (λ x. 0) simulates
        (λ s t r. ap (λ (x : State). x.world.allocs) (sym r.is))

pub moves_agree : (mv : Moving) (m : Module) → KeepsKinds mv → AreLocalsNamed m → AllMove mv m → (layouts : Layouts) (entry : ℕ) (args : List Word) (answers : List ℤ) → AgreesWithin 2 (FramedAt m layouts entry args answers) (FramedAt (moved_module mv m) layouts entry args answers)
moves_agree mv m kinds names moves layouts entry args answers = agrees mv kinds m names moves layouts.coroutines answers entry args

pub moves_correspond : (mv : Moving) (m : Module) → KeepsKinds mv → AreLocalsNamed m → AllMove mv m
    → (layouts : Layouts) (entry : ℕ) (args : List Word) (answers : List ℤ)
    → AgreesBy (IsMovedOf mv m) (IsWithin (framed_machine (moved_module mv m) layouts entry args answers) 2
    (IsMovedOf mv m)) (framed_machine m layouts entry args answers) (λ s. 2)
    (framed_machine (moved_module mv m) layouts entry args answers) (λ t. 1)
moves_correspond mv m kinds names moves layouts entry args answers = corresponds mv kinds m names moves
    layouts.coroutines answers entry args
