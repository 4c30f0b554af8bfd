-- What of two states beside each other is looked at where the second run makes a step.
use Rattle.std.proofs.Common.{◌≡◌, ◌≤◌, ℕ, Bool, List, length}
use Rattle.std.specs.Prelude.{Some, slice_get}
use Rattle.pass_elide_proof.proofs.Addresses.{twin_back}
use Rattle.pass_elide_proof.specs.Calling.{AreReady}
use Rattle.pass_elide_proof.specs.Elision.{Elision}
use Rattle.pass_elide_proof.specs.Match.{AreBelow, AreElided, AreModes, Sides, sides as both_sides}
use Rattle.pass_elide_proof.specs.pass_proofs.run_laws.memory.Pointers.{Home}
use Rattle.pass_elide_proof.specs.pass_proofs.run_source.declared.state.Instance.{Instance}
use Rattle.pass_elide_proof.specs.pass_proofs.run_source.declared.state.State.{State}

-- what of the two states is looked at
pub record HasBeside (e : Elision) (s t : State) : Type 0 where
  pub func : t.top.func ≡ s.top.func
  pub result : t.top.result ≡ s.top.result
  pub instance : t.top.instance ≡ s.top.instance
  pub left : t.top.has_left ≡ s.top.has_left
  pub modes : AreModes s.top.mode t.top.mode
  pub twins : (number : ℕ) (y : Instance) → slice_get t.instances number ≡ Some y
      → (x : Instance) × (slice_get s.instances number ≡ Some x)
  pub room : length s.top.values ≤ length t.top.values
  pub homes : List Home
  pub hides : ℕ → Bool
  pub sides : Sides
  pub below : AreBelow e homes hides sides s.below t.below

pub of_beside : (e : Elision) (s t : State) → AreElided e s t → HasBeside e s t
of_beside e s t r = record {
  func = r.top.func;
  result = r.top.result;
  instance = r.top.instance;
  left = r.top.has_left;
  modes = r.top.mode;
  twins = twin_back e s t r;
  room = r.top.values.room;
  homes = r.homes;
  hides = r.hides;
  sides = both_sides s t;
  below = r.below;
}

pub of_ready : (e : Elision) (s t : State) → AreReady e s t → HasBeside e s t
of_ready e s t r = record {
  func = r.beside.top.func;
  result = r.beside.top.result;
  instance = r.beside.top.instance;
  left = r.beside.top.has_left;
  modes = r.beside.top.mode;
  twins = twin_back e s _ r.beside;
  room = r.beside.top.values.room;
  homes = r.beside.homes;
  hides = r.beside.hides;
  sides = both_sides s t;
  below = r.beside.below;
}
