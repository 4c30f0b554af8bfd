-- What a framed module keeps besides, so that nothing is lacking of states of both runs.
use Rattle.std.specs.Prelude.{◌≢◌, ℕ}
use Rattle.pass_elide_meaning.specs.pass_elide_edges.Keeping.{EntersAlone}
use Rattle.pass_elide_meaning.specs.pass_elide_edges.pass_elide_proof.Elision.{Elision, function_in}
use Rattle.pass_elide_meaning.specs.pass_elide_edges.pass_elide_proof.Shapes.{AsksForFrame}
use Rattle.pass_elide_meaning.specs.pass_elide_edges.pass_elide_proof.pass_proofs.ir_model.declared.module.Param.{Param}
use Rattle.pass_elide_meaning.specs.pass_elide_edges.pass_elide_proof.pass_proofs.run_laws.changed.Changed.{Each}

pub record KeepsAsked (e : Elision) : Type 0 where
  -- blocks of their own are entered by one edge
  pub alone : (func : ℕ) → EntersAlone (function_in e func) (e.shape func)
  -- N1: no parameter has the name of what coro.alloc gives
  pub params : (func : ℕ) (k : AsksForFrame (function_in e func) (e.shape func))
      → Each (λ (p : Param). p.name ≢ k.need) (function_in e func).params
