-- Which activations of the run that gives frames stand in the block beside the allocator's.
use Rattle.std.specs.Prelude.{◌≡◌, ◌≢◌, ◌∷◌, ℕ, true}
use Rattle.pass_elide_meaning.specs.pass_elide_edges.pass_elide_proof.Elision.{Elision, function_in}
use Rattle.pass_elide_meaning.specs.pass_elide_edges.pass_elide_proof.Match.{is_given_mode}
use Rattle.pass_elide_meaning.specs.pass_elide_edges.pass_elide_proof.Shapes.{AsksForFrame}
use Rattle.pass_elide_meaning.specs.pass_elide_edges.pass_elide_proof.pass_proofs.ir_model.Names.{position_of}
use Rattle.pass_elide_meaning.specs.pass_elide_edges.pass_elide_proof.pass_proofs.run_laws.changed.Changed.{Each}
use Rattle.pass_elide_meaning.specs.pass_elide_edges.pass_elide_proof.pass_proofs.run_source.declared.state.Activation.{Activation}
use Rattle.pass_elide_meaning.specs.pass_elide_edges.pass_elide_proof.pass_proofs.run_source.declared.state.Mode.{Mode}
use Rattle.pass_elide_meaning.specs.pass_elide_edges.pass_elide_proof.pass_proofs.run_source.declared.state.State.{State}

-- In a block and in a mode: a ramp that was given its frame alone is beside, and nothing is about to enter that block
-- behind a suspend.
pub record IsAside (e : Elision) (func block : ℕ) (mode : Mode) : Type 0 where
  pub given : (k : AsksForFrame (function_in e func) (e.shape func)) → block ≡ k.beside → is_given_mode mode ≡ true
  pub entering : (from label : ℕ) → mode ≡ Mode.Entering from label
      → (k : AsksForFrame (function_in e func) (e.shape func)) → position_of (function_in e func) label ≢ k.beside

abbrev pub StandsAside : Elision → Activation → Type 0
StandsAside e c = IsAside e c.func c.block c.mode

-- so it is with all activations
abbrev pub StandAside : Elision → State → Type 0
StandAside e t = Each (StandsAside e) (t.top ∷ t.below)
