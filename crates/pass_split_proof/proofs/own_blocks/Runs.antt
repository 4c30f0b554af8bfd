-- In each state of a framed run frames begin blocks of allocators, or were given.
use Rattle.std.proofs.Common.{◌≡◌, ℕ, zero, suc, ◌+◌, ◌<◌, false, List, map, refl, sym, ap, ◌∙◌, subst, arith}
use Rattle.pass_proofs.specs.ir_base.declared.outcome.Word.{Word}
use Rattle.pass_proofs.specs.ir_model.Names.{function_at}
use Rattle.pass_split_proof.proofs.own_blocks.Steps.{marks_none, step_own}
use Rattle.pass_split_proof.specs.held.Kept.{MarksNoHeaps}
use Rattle.pass_split_proof.specs.own_blocks.Own.{HasOwnBlocks, IsOwnState}
use Rattle.pass_proofs.proofs.run_agreement.Runs.{iterate-add}
use Rattle.pass_proofs.specs.run_framed.Framed.{FramedGiven, framed_state_at, framed_step}
use Rattle.pass_proofs.specs.run_memory.declared.pointer.Value.{Value}
use Rattle.pass_proofs.specs.run_source.Source.{first_state}
use Rattle.pass_proofs.specs.run_source.State.{function_of}
use Rattle.pass_proofs.proofs.run_states.sound_states.Acts.{entry_length}
use Rattle.pass_proofs.specs.run_step.Step.{fetch}

module _ (g : FramedGiven) (asks : HasOwnBlocks g.given.code) (entry : ℕ) (args : List Word)
    (plain : (function_at g.given.code entry).coroutine ≡ false) where
  first_own : IsOwnState g.given.code (first_state g.given.code entry args)
  first_own = record {
    instances = λ i x e. absurd (cc);
    top = record {
      mode = plain;
      whole = entry_length (function_at g.given.code entry) (map Value.Int args);
      made = λ k name a lt. absurd (none k (lt refl));
    };
    below = tt;
  }
    where
      none : (k : ℕ) → k < 0 → ⊥
      none k lt = omega arith

  one_more : (n : ℕ) → framed_step g (framed_state_at g entry args n) ≡ framed_state_at g entry args (suc n)
  one_more n = sym (ap (λ (k : ℕ). framed_state_at g entry args k) (more n)
      ∙ iterate-add (framed_step g) n 1 (first_state g.given.code entry args))
    where
      more : (n : ℕ) → suc n ≡ n + 1
      more n = omega arith

  pub runs_own : (n : ℕ) → IsOwnState g.given.code (framed_state_at g entry args n)
  runs_own zero = first_own
  runs_own (suc n) = subst (IsOwnState g.given.code) (one_more n) (step_own g asks (framed_state_at g entry args n)
      (runs_own n))

  pub runs_mark_none : MarksNoHeaps g entry args
  runs_mark_none n = marks_none g asks (framed_state_at g entry args n) (runs_own n)
      (fetch (function_of g.given (framed_state_at g entry args n)) (framed_state_at g entry args n).top.block
      (framed_state_at g entry args n).top.at) refl
