-- What is asked of an instruction that both runs execute themselves, by what the module keeps.
use Rattle.std.proofs.Common.{◌≡◌, ℕ, true, false, sym, ◌∙◌}
use Rattle.std.specs.Prelude.{IsTrue, None, Some, slice_get}
use Rattle.elide_shape.specs.Calls.{deals_by}
use Rattle.elide_shape.specs.declared.calls.Dealing.{Dealing}
use Rattle.pass_elide_proof.proofs.OwnPlaces.{instr_there}
use Rattle.pass_elide_proof.proofs.PlacingFacts.{by_truth, gives_result, holds_still, no_ramp, no_room, quiet}
use Rattle.pass_elide_proof.specs.Elision.{Elision, Shape, differs_in, function_in, rooms}
use Rattle.pass_elide_proof.specs.Match.{is_given_mode, sides, was_given}
use Rattle.pass_elide_proof.specs.Ordinary.{IsAtOwn}
use Rattle.pass_elide_proof.specs.Places.{instrs_of, room_at}
use Rattle.pass_elide_proof.specs.Placing.{IsPlain, KeepsPlaces, ReadsPlain, SetsPlain}
use Rattle.pass_elide_proof.specs.PlacingStates.{AreAtInstr, PassesBy}
use Rattle.pass_proofs.specs.ir_model.declared.instr.Instr.{Instr}
use Rattle.pass_proofs.specs.ir_model.declared.module.Function.{Function}
use Rattle.pass_proofs.specs.run_source.declared.state.State.{State}
use Rattle.pass_proofs.specs.run_step.Reads.{given_by, reads}

module _ (e : Elision) (keeps : KeepsPlaces e) (s t : State) (func : t.top.func ≡ s.top.func)
    (block : t.top.block ≡ s.top.block) (by : PassesBy e t t.top) where
  -- the second run's activation isn't aside
  pub never_waits : is_given_mode t.top.mode ≡ true → (e.shape s.top.func).waits s.top.block ≡ None
  never_waits is = sym (λ j. (e.shape (func j)).waits (block j)) ∙ by.waits is

  pub never_frees : was_given (sides s t) t.top ≡ true → (e.shape s.top.func).frees s.top.block ≡ None
  never_frees is = sym (λ j. (e.shape (func j)).frees (block j)) ∙ by.frees is

module _ (e : Elision) (keeps : KeepsPlaces e) (s t : State) (i : Instr) (func : t.top.func ≡ s.top.func)
    (by : PassesBy e t t.top) (at : AreAtInstr e s t i) (plain : IsPlain (e.shape s.top.func) i) where
  abbrev f : Function
  f = function_in e s.top.func

  abbrev x : Shape
  x = e.shape s.top.func

  there : slice_get (instrs_of f s.top.block) s.top.at ≡ Some i
  there = instr_there f s.top.block s.top.at i at.there

  read : (v : ℕ) → IsTrue (reads v i) → ReadsPlain x s.top.block i v
  read v is = (keeps.instrs s.top.func).takes s.top.block s.top.at v i at.reached there is

  set : (v : ℕ) → given_by i ≡ Some v → SetsPlain f x s.top.block s.top.at i v
  set v is = (keeps.instrs s.top.func).sets s.top.block s.top.at v i there (gives_result i v is)

  pub alike : (v : ℕ) → IsTrue (reads v i)
      → differs_in x (is_given_mode t.top.mode) (was_given (sides s t) t.top) v ≡ false
  alike v is =
      let r = read v is in
      quiet x (is_given_mode t.top.mode) (was_given (sides s t) t.top) v r.need
      (λ h. r.made plain.begins (never_waits e keeps s t func at.block by h))
      (by_truth (deals_by Dealing.Frees i) (λ h. plain.takes h v is) (λ h. r.freed h plain.tests)) r.tested
      (λ h. r.passed (never_frees e keeps s t func at.block by h))

  pub own_of : room_at (rooms e s.top.func) (function_in e s.top.func) s.top.block s.top.at i ≡ None
      → IsAtOwn e s t i
  own_of none = record {
    runs = at.runs;
    there = at.there;
    block = at.block;
    at = at.at;
    no_room = none;
    no_ramp = no_ramp e.code keeps.ungiven s.top.func s.top.block s.top.at i at.there;
    indices = (keeps.instrs s.top.func).steady s.top.block s.top.at i there;
    reads = alike;
    named = λ v is. (set v is).low;
    plain = λ v is. record {
      need = λ h. (set v is).need plain.asks;
      freed = λ h. (set v is).freed plain.frees;
      tested = λ h. (set v is).tested plain.tests;
    };
    holds = λ h. holds_still e s.top.func s.top.block s.top.at i there plain.begins
        (never_waits e keeps s t func at.block by h) (keeps.shapes s.top.func);
    kept = λ v name h is held. (set v is).kept name held;
  }
