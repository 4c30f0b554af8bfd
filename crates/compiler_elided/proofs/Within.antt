-- The exact run of a framed form agrees with the source's, by the rows up to frames.
use Rattle.std.proofs.Common.{◌≡◌, ◌*◌, ◌≤◌, ℕ, Bool, List, arith}
use Rattle.compiler_elided.specs.Elided.{IsExactBeside, elision_of}
use Rattle.compiler_theorem.proofs.compiler.run_agreement.Compose.{compose_within}
use Rattle.compiler_theorem.proofs.compiler.run_agreement.Costs.{agrees_within, agrees_within_by_steps, cost_above}
use Rattle.compiler_theorem.specs.compiler.ir_base.declared.outcome.Place.{Place}
use Rattle.compiler_theorem.specs.compiler.pass_proofs.kept.sources.Beside.{IsKeptOf, IsNearlyKeptOf}
use Rattle.compiler_theorem.specs.compiler.run_agreement.Agreements.{AgreesWithin}
use Rattle.compiler_theorem.specs.compiler.run_agreement.Costs.{AgreesBy, Through, cost_at}
use Rattle.pass_frames_prices.specs.FramePrices.{frames_factor}
use Rattle.compiler_theorem.specs.compiler.run_agreement.Machines.{IsFine, Machine, at}
use Rattle.compiler_theorem.specs.compiler.run_source.declared.state.State.{State}
use Rattle.compiler_theorem.specs.pass_frames_meaning.pass_frames_proof.Related.{AreBuiltOf, AreShownAlike}
use Rattle.compiler_theorem.specs.pass_frames_meaning.pass_renewed_meaning.Followed.{AreAlike}
use Rattle.compiler_theorem.specs.theorem.Anew.{Anew, IsAnewOf}
use Rattle.compiler_theorem.specs.theorem.Built.{building}
use Rattle.compiler_theorem.specs.theorem.Entries.{Run}
use Rattle.compiler_theorem.specs.theorem.Lowered.{IsLowered, Lowered, early, framed_run, kept_run, price_kept, sizes_of, source_run}
use Rattle.compiler_theorem.specs.theorem.Theorem.{AreMadeAnew, prices_of}
use Rattle.pass_elide_apart.proofs.pass_elide_proof.Passing.{passing_agrees}
use Rattle.pass_elide_apart.specs.pass_elide_proof.Elision.{Elision, Shape}
use Rattle.pass_elide_theorem.specs.Exact.{exact_run, is_exact}

-- each step costs 1 or more
at_least : {T : Type 0} (b : Machine T) (n : ℕ) → n ≤ cost_at b (λ t. 1) n
at_least b n = least n (cost_at b (λ t. 1) n) (cost_above b.step (λ t. 1) 1 (λ t. omega arith) n b.start)
  where
    least : (n x : ℕ) → 1 * n ≤ x → n ≤ x
    least n x h = omega arith

module _ (l : Lowered) (low : IsLowered l) (a : Anew) (anew : IsAnewOf (early l) a) (sites : List Place)
    (shape : ℕ → Shape) (callees : ℕ → Bool) (r : Run) where
  abbrev e : Elision
  e = elision_of l sites shape r.answers

  abbrev R : State → State → Type 0
  R = Through (AreMadeAnew l a) (AreBuiltOf (building l low.is_framed r.answers))

  abbrev V : State → State → Type 0
  V = Through AreAlike (AreShownAlike (building l low.is_framed r.answers))

  abbrev price : State → ℕ
  price = price_kept l a r (prices_of l low a)

  pub exact_within : IsExactBeside l low sites shape callees r
      → AgreesBy (IsKeptOf l.source (sizes_of l) r.answers)
      (IsNearlyKeptOf l.source (sizes_of l) r.entry r.args r.answers) (source_run l r) (λ s. 4) (kept_run l a r) (λ t. 1)
      → AgreesBy (Through (AreMadeAnew l a) (AreBuiltOf (building l low.is_framed r.answers)))
      (Through AreAlike (AreShownAlike (building l low.is_framed r.answers))) (kept_run l a r)
      (price_kept l a r (prices_of l low a)) (framed_run l l.framed r) (λ t. 1)
      → ((n : ℕ) → IsFine (at (kept_run l a r) n).outcome
      → cost_at (kept_run l a r) (price_kept l a r (prices_of l low a)) n ≤ (4 * frames_factor l.source) * n)
      → AgreesWithin (4 * (4 * frames_factor l.source)) (at (source_run l r))
      (at (exact_run (elision_of l sites shape r.answers) callees r.entry r.args))
  exact_within exact kept framed paid =
      compose_within 4 (4 * frames_factor l.source) (at (source_run l r)) (at (kept_run l a r))
      (at (exact_run e callees r.entry r.args))
      (agrees_within_by_steps (IsKeptOf l.source (sizes_of l) r.answers)
      (IsNearlyKeptOf l.source (sizes_of l) r.entry r.args r.answers) (source_run l r) (λ s. 4) (kept_run l a r) (λ t. 1) 4
      (λ s. omega arith) (λ t. omega arith) kept)
      (agrees_within R V (kept_run l a r) price (exact_run e callees r.entry r.args) (λ t. 1) (4 * frames_factor l.source)
      paid (at_least (exact_run e callees r.entry r.args))
      (passing_agrees e (is_exact e callees) r.entry r.args R V (kept_run l a r) price (λ t. 1) framed (exact a anew)))
