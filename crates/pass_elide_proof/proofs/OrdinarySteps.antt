-- An ordinary instruction that both runs execute leaves the states beside each other.
use Rattle.std.proofs.Common.{◌≡◌, ◌+◌, inl, inr, ℕ, List, length, refl, sym, ap, ◌∙◌, subst, arith}
use Rattle.pass_elide_proof.proofs.Followed.{IsFollowed, first_count, first_refilled, follows, lengths, second_count, second_refilled, still}
use Rattle.pass_elide_proof.proofs.Modules.{finds_alike}
use Rattle.pass_elide_proof.proofs.Onward.{GoesOn, SlotsStay, each_all}
use Rattle.pass_elide_proof.proofs.OwnPlaces.{acts, there_too}
use Rattle.pass_elide_proof.proofs.Refilled.{goes_on, mates_stay}
use Rattle.pass_elide_proof.proofs.SetNames.{keeps_top}
use Rattle.pass_elide_proof.proofs.Settled.{next_of, settles}
use Rattle.pass_elide_proof.specs.Counts.{capped}
use Rattle.pass_elide_proof.specs.Elision.{Elision, elided, framed, function_in, rooms}
use Rattle.pass_elide_proof.specs.Match.{AreElided, HasAllocas, sides}
use Rattle.pass_elide_proof.specs.Ordinary.{IsAtOrdinary, IsAtOwn, StandsInFront, with_at}
use Rattle.pass_elide_proof.specs.Places.{allocas_ahead, front_at, instrs_of, own_at, phi_count, put_up_to}
use Rattle.pass_proofs.proofs.run_laws.access.Reading.{as_many}
use Rattle.pass_proofs.specs.ir_model.declared.instr.Instr.{Instr}
use Rattle.pass_proofs.specs.run_framed.Framed.{framed_step}
use Rattle.pass_proofs.specs.run_source.State.{settled}
use Rattle.pass_proofs.specs.run_source.declared.state.State.{State}
use Rattle.pass_proofs.specs.run_step.Step.{Done, Work}
use Rattle.pass_proofs.specs.run_step.declared.world.Slot.{Slot}

-- ---- the allocas put in front have been made

module _ (e : Elision) (s t : State) (r : AreElided e s t) (front : StandsInFront e s t) (i : Instr)
    (own : IsAtOwn e s t i) where
  abbrev f : ℕ
  f = s.top.func

  made_by : (slots : List Slot) → HasAllocas e r.homes r.hides (sides s t) s.top t.top slots
      → length slots ≡ length (allocas_ahead (rooms e f) (function_in e f))
  made_by slots (inl first) =
      let none : length slots ≡ 0 = ap length first.2 in
      let start : front_at (rooms e f) (function_in e f) s.top.block s.top.at ≡ 0
      = λ j. front_at (rooms e f) (function_in e f) (first.0 j) (first.1 j) in
      let ahead : own_at (rooms e f) (function_in e f) s.top.block s.top.at
      ≡ length (allocas_ahead (rooms e f) (function_in e f))
      + (0 + put_up_to (rooms e f 0) (phi_count (function_in e f) 0) (instrs_of (function_in e f) 0) 0)
      = λ j. own_at (rooms e f) (function_in e f) (first.0 j) (first.1 j) in
      let here = own.at in
      let there : t.top.at ≡ front_at (rooms e f) (function_in e f) s.top.block s.top.at = front in
      omega (arith, none, start, ahead, here, there)
  made_by slots (inr made) = made.1

  pub all_made : length r.top.own ≡ length (allocas_ahead (rooms e f) (function_in e f))
  all_made = made_by r.top.own r.top.allocas

-- ---- the step

module _ (e : Elision) (s t : State) (n : ℕ) (r : AreElided e s (with_at t n)) (i : Instr) (v : Work)
    (at : IsAtOrdinary e s t i v)
    (made : length r.top.own ≡ length (allocas_ahead (rooms e s.top.func) (function_in e s.top.func))) where
  abbrev fell : IsFollowed e s t n r i at.own v
  fell = follows e s t n r i at.own v at.does at.no_slot at.bytes

  abbrev y : Work
  y = (follows e s t n r i at.own v at.does at.no_slot at.bytes).other

  on : GoesOn (sides s t) v.world.memory y.world.memory r.homes r.homes r.hides r.hides
  on =
      goes_on (sides s t) v.world.memory y.world.memory r.homes r.hides
      (first_refilled e s t n r i at.own v at.does at.no_slot at.bytes)
      (second_refilled e s t n r i at.own v at.does at.no_slot at.bytes)
      (still e s t n r i at.own v at.does at.no_slot at.bytes)
      (lengths e s t n r i at.own v at.does at.no_slot at.bytes)

  known : length r.homes ≡ length v.world.memory
  known =
      r.known ∙ sym (as_many s.world.memory v.world.memory
      (first_refilled e s t n r i at.own v at.does at.no_slot at.bytes))

  counts : (more : ℕ) → s.world.allocs ≡ capped (t.world.allocs + more)
      → v.world.allocs ≡ capped (y.world.allocs + more)
  counts more h =
      first_count e s t n r i at.own v at.does at.no_slot at.bytes
      ∙ (h ∙ ap (λ (k : ℕ). capped (k + more))
      (sym (second_count e s t n r i at.own v at.does at.no_slot at.bytes)))

  beside : AreElided e (settled s v) (settled t y)
  beside =
      settles e s t n r made v y r.homes r.hides on (next_of s.top) (next_of t.top)
      (keeps_top e s t n r i at.own r.homes on.extends v.values y.values fell.set) fell.over known r.hidden
      (mates_stay (sides s t) v.world.memory y.world.memory r.homes r.hides
      (first_refilled e s t n r i at.own v at.does at.no_slot at.bytes)
      (second_refilled e s t n r i at.own v at.does at.no_slot at.bytes)
      (still e s t n r i at.own v at.does at.no_slot at.bytes)
      (lengths e s t n r i at.own v at.does at.no_slot at.bytes) r.mates)
      (each_all (SlotsStay e (sides s t) v.world.memory y.world.memory r.homes r.homes r.hides r.hides on)
      (λ a. refl) s.below)
      counts s.top.slots t.top.slots r.top.slots

  pub goes : AreElided e (framed_step (framed e) s) (framed_step (elided e) t)
  goes =
      let first : framed_step (framed e) s ≡ settled s v
      = acts (framed e) s (settled s v) i (Done v) at.own.runs at.own.there at.own.no_ramp at.does refl in
      let second : framed_step (elided e) t ≡ settled t y
      = acts (elided e) t (settled t y) i (Done y) (r.outcome ∙ at.own.runs) (there_too e s t i at.own r.top.func)
      (λ m is. (finds_alike e).ramps m ∙ at.own.no_ramp m is) fell.is refl in
      subst (λ (p : State × State). AreElided e p.0 p.1) (λ j. (sym first j, sym second j)) beside

pub stay : (e : Elision) (s t : State) (i : Instr) (v : Work) → AreElided e s t → StandsInFront e s t
    → IsAtOrdinary e s t i v → AreElided e (framed_step (framed e) s) (framed_step (elided e) t)
stay e s t i v r front at = goes e s t t.top.at r i v at (all_made e s t r front i at.own)
