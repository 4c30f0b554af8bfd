-- A given ramp comes to the question whether its frame is to be allocated, waits there, and passes by.
use Rattle.std.specs.Prelude.{◌≡◌, ℕ, true, [], None}
use Rattle.pass_elide_proof.specs.Edges.{GivesNone, IsEntering, phis_at}
use Rattle.pass_elide_proof.specs.Elision.{Elision, elided, framed, function_in, rooms}
use Rattle.pass_elide_proof.specs.Match.{IsAtEnd, is_given_mode}
use Rattle.pass_elide_proof.specs.Places.{front_at}
use Rattle.pass_elide_proof.specs.Shapes.{AsksForFrame}
use Rattle.pass_proofs.specs.run_source.Source.{left_windows}
use Rattle.pass_proofs.specs.run_source.declared.state.State.{State}

-- both are at the end of the block that asks, and the first run goes to a label
pub record IsAtQuestion (e : Elision) (s t : State) (k : AsksForFrame (function_in e s.top.func) (e.shape s.top.func))
    (label : ℕ) : Type 0 where
  pub enters : IsEntering (framed e) s label
  pub asks : s.top.block ≡ k.asks
  pub given : is_given_mode t.top.mode ≡ true
  pub beside : t.top.block ≡ s.top.block
  pub stands : t.top.at ≡ front_at (rooms e s.top.func) (function_in e s.top.func) s.top.block s.top.at
  pub none : GivesNone e s.top.func
  pub bare : phis_at (function_in e s.top.func) k.allocates ≡ []
  pub untested : (e.shape s.top.func).tested k.need ≡ None

-- the first run is at the end of the allocator's block, and the given ramp waits
pub record IsAtWayOn (e : Elision) (s t : State) (k : AsksForFrame (function_in e s.top.func) (e.shape s.top.func))
    (label : ℕ) : Type 0 where
  pub enters : IsEntering (framed e) s label
  pub allocates : s.top.block ≡ k.allocates
  pub given : is_given_mode t.top.mode ≡ true
  pub asks : t.top.block ≡ k.asks
  pub stands : IsAtEnd e t.top
  pub none : GivesNone e s.top.func
  pub bare : phis_at (function_in e s.top.func) k.after ≡ []
  pub empty : phis_at (function_in e s.top.func) k.beside ≡ []
  pub stays : left_windows (elided e).given t k.other ≡ []
