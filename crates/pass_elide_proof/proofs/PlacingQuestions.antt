-- Records of places where a given ramp asks for its frame, and passes by the block that allocates.
use Rattle.std.proofs.Common.{◌≡◌, ℕ, true, [], sym, ap, ◌∙◌}
use Rattle.std.specs.Prelude.{Some}
use Rattle.pass_elide_proof.proofs.PlacingFacts.{no_frames}
use Rattle.pass_elide_proof.specs.Edges.{GivesNone, IsEntering}
use Rattle.pass_elide_proof.specs.EdgesAsking.{IsAtQuestion, IsAtWayOn}
use Rattle.pass_elide_proof.specs.Elision.{Elision, elided, framed, function_in, rooms}
use Rattle.pass_elide_proof.specs.Match.{is_given_mode}
use Rattle.pass_elide_proof.specs.Places.{front_at}
use Rattle.pass_elide_proof.specs.Placing.{HasShape, KeepsPlaces}
use Rattle.pass_elide_proof.specs.PlacingStates.{IsLeftWaiting}
use Rattle.pass_proofs.specs.run_source.Source.{left_windows}
use Rattle.pass_proofs.specs.run_source.declared.state.State.{State}

module _ (e : Elision) (keeps : KeepsPlaces e) (s t : State) (k : HasShape e s.top.func) (label : ℕ)
    (enters : IsEntering (framed e) s label) where
  none : GivesNone e s.top.func
  none = no_frames (rooms e s.top.func) (keeps.wakes s.top.func k.coroutine).none (function_in e s.top.func)

  pub question_place : s.top.block ≡ k.asks.asks → is_given_mode t.top.mode ≡ true → t.top.block ≡ s.top.block
      → t.top.at ≡ front_at (rooms e s.top.func) (function_in e s.top.func) s.top.block s.top.at
      → IsAtQuestion e s t k.asks label
  question_place asks given beside stands = record {
    enters = enters;
    asks = asks;
    given = given;
    beside = beside;
    stands = stands;
    none = none;
    bare = k.bare;
    untested = k.untested;
  }

  same_number : (a b : ℕ) → Some a ≡ Some b → a ≡ b
  same_number a b is = cc

  pub way_on_place : s.top.block ≡ k.asks.allocates → IsLeftWaiting e s t
      → left_windows (elided e).given t k.asks.other ≡ [] → IsAtWayOn e s t k.asks label
  way_on_place allocates waits stays = record {
    enters = enters;
    allocates = allocates;
    given = waits.given;
    asks = same_number t.top.block k.asks.asks
        (sym waits.waits ∙ (ap (e.shape s.top.func).waits allocates ∙ k.asks.waits));
    stands = waits.stays;
    none = none;
    bare = k.empty;
    empty = k.empty_beside;
    stays = stays;
  }
