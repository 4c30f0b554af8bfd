-- The framed form of an accepted source, with sites of the source at which calls give frames.
use Rattle.std.specs.Prelude.{◌≡◌, ℕ}
use Rattle.compiler_theorem.specs.compiler.ir_model.Names.{function_at}
use Rattle.compiler_theorem.specs.theorem.Lowered.{HasFewBytes, IsLowered, Lowered, early}
use Rattle.pass_elide_ready.specs.elide_sites.Elidable.{IsElidable}
use Rattle.pass_elide_ready.specs.elide_sites.Sites.{AreSites}
use Rattle.pass_elide_ready.specs.pass_elide_proof.Elision.{Elision}
use Rattle.pass_elide_ready.specs.pass_elide_proof.Placing.{HasShape}
use Rattle.pass_elide_ready.specs.Form.{AreFormed}

-- Each coroutine with a shape has that of its form, and what the first pass makes of it is elidable. A module without
-- sites has no shapes at all.
pub record IsElidedForm (l : Lowered) (e : Elision) : Type 0 where
  pub lowered : IsLowered l
  pub few : HasFewBytes l
  pub code : e.code ≡ l.framed
  pub layouts : e.layouts ≡ l.layouts
  pub sites : AreSites l.source e.sites
  pub formed : AreFormed e
  pub elidable : (func : ℕ) → HasShape e func → IsElidable (function_at (early l) func)
