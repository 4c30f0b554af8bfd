-- The framed form of a source with its calls elided, beside the source's run.
use Rattle.std.specs.Prelude.{◌≡◌, ◌+◌, ◌*◌, ℕ, ℤ, Bool, List}
use Rattle.compiler_theorem.specs.compiler.ir_base.declared.outcome.Place.{Place}
use Rattle.compiler_theorem.specs.compiler.run_agreement.Agreements.{Agrees}
use Rattle.compiler_theorem.specs.compiler.run_agreement.Costs.{Through}
use Rattle.pass_frames_prices.specs.FramePrices.{frames_factor}
use Rattle.compiler_theorem.specs.compiler.run_agreement.Machines.{IsReturned, at, state_at}
use Rattle.compiler_theorem.specs.pass_frames_meaning.pass_frames_proof.Related.{AreBuiltOf}
use Rattle.compiler_theorem.specs.theorem.Anew.{Anew, IsAnewOf}
use Rattle.compiler_theorem.specs.theorem.Built.{building}
use Rattle.compiler_theorem.specs.theorem.Entries.{Run}
use Rattle.compiler_theorem.specs.theorem.Lowered.{IsLowered, Lowered, early, framed_run, kept_run, source_run}
use Rattle.compiler_theorem.specs.theorem.Theorem.{AreMadeAnew}
use Rattle.pass_elide_theorem.specs.Exact.{is_exact}
use Rattle.pass_elide_apart.specs.pass_elide_proof.Counts.{capped, given_frames}
use Rattle.pass_elide_apart.specs.pass_elide_proof.Elision.{Elision, Shape}
use Rattle.pass_elide_apart.specs.pass_elide_proof.Passing.{PassesOn}
use Rattle.pass_elide_apart.specs.pass_elide_proof.Statement.{elided_run}

-- the framed form of what is lowered, with sites and shapes
abbrev pub elision_of : Lowered → List Place → (ℕ → Shape) → List ℤ → Elision
elision_of l sites shape answers =
    record { code = l.framed; layouts = l.layouts; sites = sites; answers = answers; shape = shape }

-- The framed run is exact as far as the source's isn't undefined, by the relation of frames.
abbrev pub IsExactBeside : (l : Lowered) → IsLowered l → List Place → (ℕ → Shape) → (ℕ → Bool) → Run → Type 0
IsExactBeside l low sites shape callees r =
    (a : Anew) → IsAnewOf (early l) a
    → PassesOn (Through (AreMadeAnew l a) (AreBuiltOf (building l low.is_framed r.answers))) (kept_run l a r)
    (framed_run l l.framed r) (is_exact (elision_of l sites shape r.answers) callees)

-- The source's run and the run that gives frames agree within the factor of framing, times one more than the sites of a
-- function. Where both have returned, the second made fewer allocator calls by the calls that it executed without
-- allocation, as far as counts go.
pub record AgreesElided (l : Lowered) (e : Elision) (most : ℕ) (r : Run) : Type 0 where
  pub runs : Agrees ((4 * (4 * frames_factor l.source)) * (1 + most)) 0 (at (source_run l r))
      (at (elided_run e r.entry r.args))
  pub counts : (i j : ℕ) → IsReturned (at (source_run l r) i).outcome
      → IsReturned (at (elided_run e r.entry r.args) j).outcome
      → (at (source_run l r) i).allocs
      ≡ capped ((at (elided_run e r.entry r.args) j).allocs + given_frames (state_at (elided_run e r.entry r.args) j))
