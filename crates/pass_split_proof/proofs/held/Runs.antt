-- In a framed run Suspended instances are held.
use Rattle.std.proofs.Common.{◌≡◌, ℕ, zero, suc, ◌+◌, Bool, true, false, not, List, Option, Some, None, refl, sym, ap, ◌∙◌, subst, arith, ◌&&◌, ◌==◌}
use Rattle.std.specs.Prelude.{slice_get, is_some}
use Rattle.std.proofs.lemmas.Bool.{and_from, and_parts, and_right, eqb-true, false≢true}
use Rattle.pass_proofs.specs.ir_base.declared.outcome.Word.{Word}
use Rattle.pass_split_proof.proofs.held.Steps.{step_kept}
use Rattle.pass_split_proof.specs.held.Kept.{AreKept, DoGivenFramesLive, IsKeptState, MarksNoHeaps, begins_heap, is_heap_in, is_kept_in}
use Rattle.pass_split_proof.specs.states.Instances.{is_given_in, is_held, is_held_in, lives_in}
use Rattle.pass_proofs.proofs.run_agreement.Runs.{iterate-add}
use Rattle.pass_proofs.specs.run_framed.Framed.{FramedGiven, framed_state_at, framed_step}
use Rattle.pass_proofs.specs.run_memory.Memory.{is_live}
use Rattle.pass_proofs.specs.run_memory.declared.block.MemoryBlock.{MemoryBlock}
use Rattle.pass_proofs.specs.run_source.Source.{first_state}
use Rattle.pass_proofs.specs.run_source.State.{is_finished, is_suspended}
use Rattle.pass_proofs.specs.run_source.declared.state.Instance.{Instance}
use Rattle.pass_proofs.specs.run_source.declared.state.Status.{Status}

first_kept : (g : FramedGiven) (entry : ℕ) (args : List Word) → IsKeptState (first_state g.given.code entry args)
first_kept g entry args = record {
  instances = record {
    known = λ i x e. absurd (cc);
    kept = λ i x e. absurd (cc);
    gone = λ i x e. absurd (cc);
    apart = λ i j x y e. absurd (cc);
    unfreed = λ i x e. absurd (cc);
    slots = λ i x e. absurd (cc);
  };
  top = tt;
  below = tt;
}

module _ (g : FramedGiven) (entry : ℕ) (args : List Word) (marks : MarksNoHeaps g entry args) where
  one_more : (n : ℕ) → framed_step g (framed_state_at g entry args n) ≡ framed_state_at g entry args (suc n)
  one_more n = sym (ap (λ (k : ℕ). framed_state_at g entry args k) (more n)
      ∙ iterate-add (framed_step g) n 1 (first_state g.given.code entry args))
    where
      more : (n : ℕ) → suc n ≡ n + 1
      more n = omega arith

  pub runs_kept : (n : ℕ) → IsKeptState (framed_state_at g entry args n)
  runs_kept zero = first_kept g entry args
  runs_kept (suc n) = subst IsKeptState (one_more n) (step_kept g (framed_state_at g entry args n) (runs_kept n)
      (marks n))

-- ---- held

lives_where_kept : (o : Option MemoryBlock) → is_kept_in o ≡ true → lives_in o ≡ true
lives_where_kept None h = h
lives_where_kept (Some u) h = (and_parts (is_live u.life) (is_some u.owned) h).0

held_by : (o : Option MemoryBlock) (x : Instance) → x.freed ≡ false → is_finished x.status ≡ false → lives_in o ≡ true
    → is_held_in o x ≡ true
held_by o x unfreed runs lives = and_from (not x.freed) (not (is_given_in o x && is_finished x.status) && lives_in o)
    (ap not unfreed) (and_from (not (is_given_in o x && is_finished x.status)) (lives_in o)
    (ap not (and_right (is_given_in o x) (is_finished x.status) runs)) lives)

sleeps_on : (status : Status) → is_suspended status ≡ true → is_finished status ≡ false
sleeps_on Status.Running e = refl
sleeps_on (Status.Suspended p vs) e = refl
sleeps_on Status.Finished e = absurd (false≢true e)

module _ (g : FramedGiven) (entry : ℕ) (args : List Word) (marks : MarksNoHeaps g entry args)
    (given : DoGivenFramesLive g entry args) (n i : ℕ) (x : Instance)
    (e : slice_get (framed_state_at g entry args n).instances i ≡ Some x) (sleeps : is_suspended x.status
    ≡ true) where
  abbrev m : List MemoryBlock
  m = (framed_state_at g entry args n).world.memory

  kept : AreKept (framed_state_at g entry args n).instances (framed_state_at g entry args n).world.memory
  kept = (runs_kept g entry args marks n).instances

  unfreed : x.freed ≡ false
  unfreed = kept.unfreed i x e sleeps

  lives : (t : Bool) → begins_heap m x ≡ t → lives_in (slice_get m x.block) ≡ true
  lives true h =
      let p = and_parts (is_heap_in (slice_get m x.block)) (x.start == 0) h in
      lives_where_kept (slice_get m x.block) (kept.kept i x e unfreed (eqb-true x.start 0 p.1) p.0)
  lives false h = given n i x e h (sleeps_on x.status sleeps)

  pub suspended_held : is_held (framed_state_at g entry args n).world.memory x ≡ true
  suspended_held = held_by (slice_get m x.block) x unfreed (sleeps_on x.status sleeps) (lives (begins_heap m x) refl)
