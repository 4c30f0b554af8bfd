-- The run that gives frames agrees with the source's.
use Rattle.std.proofs.Common.{◌≡◌, ◌+◌, ◌*◌, ◌≤◌, ◌∙◌, ℕ, Bool, false, List, ap, arith, map, subst, sym}
use Rattle.std.specs.Prelude.{Option, Some, slice_get, unwrap_or}
use Rattle.compiler_elided.specs.Elided.{AgreesElided, elision_of}
use Rattle.compiler_theorem.proofs.compiler.run_agreement.Compose.{compose, follows_returned, returned_fine, weaken}
use Rattle.compiler_theorem.proofs.compiler.run_agreement.Costs.{agrees_within, cost_above, cost_below}
use Rattle.compiler_theorem.specs.compiler.ir_base.declared.outcome.Place.{Place}
use Rattle.compiler_theorem.specs.compiler.ir_model.Names.{function_at, no_function}
use Rattle.compiler_theorem.specs.compiler.ir_model.declared.module.Function.{Function}
use Rattle.compiler_theorem.specs.compiler.run_agreement.Agreements.{Agrees, AgreesWithin}
use Rattle.compiler_theorem.specs.compiler.run_agreement.Costs.{IsNear, cost_at}
use Rattle.pass_frames_prices.specs.FramePrices.{frames_factor}
use Rattle.compiler_theorem.specs.compiler.run_agreement.Machines.{IsReturned, Machine, Seen, at, state_at}
use Rattle.compiler_theorem.specs.compiler.run_memory.declared.pointer.Value.{Value}
use Rattle.compiler_theorem.specs.compiler.run_source.declared.state.State.{State}
use Rattle.compiler_theorem.specs.run_types.Fitting.{FitParams}
use Rattle.compiler_theorem.specs.theorem.Entries.{IsEntryCall, Run}
use Rattle.compiler_theorem.specs.theorem.Lowered.{Lowered, source_run}
use Rattle.pass_elide_apart.specs.pass_elide_proof.Counts.{LosesCalls, capped, given_frames, uncounted}
use Rattle.pass_elide_apart.specs.pass_elide_proof.Elision.{Elision, Shape}
use Rattle.pass_elide_apart.specs.pass_elide_proof.Statement.{AreRelatedOrOver, IsEntryCall as IsElidedCall, elided_run}
use Rattle.pass_elide_theorem.specs.Carried.{AgreesWithElided}
use Rattle.pass_elide_theorem.specs.Exact.{exact_run}

-- agreement says nothing of counts
counted : {S T : Type 0} (k : ℕ) (a : Machine S) (b : Machine T) → Agrees k 0 (at (uncounted a)) (at (uncounted b))
    → Agrees k 0 (at a) (at b)
counted k a b h = record {
  carried_down = λ fine n. let x = h.carried_down fine n in record
      { steps = x.steps; few = x.few; follows = record { events = x.follows.events; returns = x.follows.returns } };
  never_stuck = h.never_stuck;
  nothing_invented = λ fine m. let x = h.nothing_invented fine m in record
      { steps = x.steps; follows = record { events = x.follows.events; returns = x.follows.returns } };
  prefix = λ n fine. let x = h.prefix n fine in record {
    steps = x.steps;
    few = x.few;
    follows = record
        { events = x.follows.events; returns = x.follows.returns };
    unstuck = x.unstuck;
  };
}

composed : (j k : ℕ) (a b c : ℕ → Seen) → Agrees j 0 a b → Agrees k 0 b c → Agrees (j * k) 0 a c
composed j k a b c g h =
    let none : k * 0 + 0 ≤ 0 = omega arith in
    weaken (j * k) (k * 0 + 0) (j * k) 0 a c (omega arith) none (compose j 0 k 0 a b c g h)

at_least : {T : Type 0} (b : Machine T) (n : ℕ) → n ≤ cost_at b (λ t. 1) n
at_least b n = least n (cost_at b (λ t. 1) n) (cost_above b.step (λ t. 1) 1 (λ t. omega arith) n b.start)
  where
    least : (n x : ℕ) → 1 * n ≤ x → n ≤ x
    least n x h = omega arith

module _ (l : Lowered) (sites : List Place) (shape : ℕ → Shape) (callees : ℕ → Bool) (most : ℕ) (r : Run) where
  abbrev e : Elision
  e = elision_of l sites shape r.answers

  -- ---- the entry

  -- the entry is no coroutine, and the framed form has the same function
  pub entry_called : IsEntryCall l.source r
      → ((func : ℕ) → (function_at l.source func).coroutine ≡ false → function_at l.framed func ≡ function_at l.source func)
      → IsElidedCall (elision_of l sites shape r.answers) r.entry r.args
  entry_called call same =
      let there : function_at l.source r.entry ≡ call.callable.function
      = ap (λ (o : Option Function). unwrap_or o no_function) call.callable.there in
      let plain : (function_at l.source r.entry).coroutine ≡ false
      = ap (λ (f : Function). f.coroutine) there ∙ call.callable.plain in
      let one = same r.entry plain in
      record {
        plain = ap (λ (f : Function). f.coroutine) one ∙ plain;
        fits = subst (λ (f : Function). FitParams f.params (map Value.Int r.args)) (sym one) call.fits;
      }

  -- ---- the runs

  abbrev exact : Machine State
  exact = exact_run e callees r.entry r.args

  abbrev given : Machine State
  given = elided_run e r.entry r.args

  abbrev factor : ℕ
  factor = 4 * (4 * frames_factor l.source)

  module _ (first : AgreesWithin (4 * (4 * frames_factor l.source)) (at (source_run l r))
      (at (exact_run (elision_of l sites shape r.answers) callees r.entry r.args)))
      (states : AgreesWithElided (elision_of l sites shape r.answers) callees most r.entry r.args)
      (loses : LosesCalls (exact_run (elision_of l sites shape r.answers) callees r.entry r.args)
      (elided_run (elision_of l sites shape r.answers) r.entry r.args)) where
    second : Agrees (1 + most) 0 (at exact) (at given)
    second =
        counted (1 + most) exact given
        (agrees_within (AreRelatedOrOver e) (IsNear given (1 + most) (AreRelatedOrOver e)) (uncounted exact)
        (λ s. 1 + most) (uncounted given) (λ t. 1) (1 + most) (λ k fine. flat k) (at_least (uncounted given)) states).runs
      where
        flat : (k : ℕ) → cost_at (uncounted exact) (λ s. 1 + most) k ≤ (1 + most) * k
        flat k = cost_below (uncounted exact).step (λ s. 1 + most) (1 + most) (λ s. omega arith) k (uncounted exact).start

    lost : (i j : ℕ) → IsReturned (at (source_run l r) i).outcome → IsReturned (at given j).outcome
        → (at (source_run l r) i).allocs ≡ capped ((at given j).allocs + given_frames (state_at given j))
    lost i j ri rj =
        let x = first.runs.prefix i (returned_fine (at (source_run l r) i).outcome ri) in
        let rx : IsReturned (at exact x.steps).outcome
        = follows_returned (at (source_run l r) i) (at exact x.steps) x.follows ri in
        first.counts i x.steps ri rx ∙ loses x.steps j rx rj

    pub agrees_elided : AgreesElided l (elision_of l sites shape r.answers) most r
    agrees_elided = record {
      runs = composed factor (1 + most) (at (source_run l r)) (at exact) (at given) first.runs second;
      counts = lost;
    }
