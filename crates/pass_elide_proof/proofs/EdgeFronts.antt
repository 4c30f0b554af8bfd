-- At the end of a block nothing more is put in front.
use Rattle.std.proofs.Common.{◌≡◌, ◌+◌, inl, inr, ℕ, zero, suc, List, [], ◌∷◌, length, length-append, map, refl, sym, ap, ◌∙◌, arith}
use Rattle.std.specs.Prelude.{Option}
use Rattle.pass_elide.specs.declared.given.GivenFrame.{GivenFrame}
use Rattle.pass_elide_proof.proofs.EdgeValues.{map_long}
use Rattle.pass_elide_proof.proofs.EdgeEntered.{end_at}
use Rattle.pass_elide_proof.specs.Edges.{at_itself}
use Rattle.pass_elide_proof.specs.Elision.{Elision, framed, function_in, rooms}
use Rattle.pass_elide_proof.specs.Match.{AreElided, HasAllocas, sides}
use Rattle.pass_elide_proof.specs.Places.{Rooms, ahead, allocas_ahead, front_at, instrs_of, own_at, phi_count, put_up_to}
use Rattle.pass_proofs.specs.ir_model.declared.instr.Instr.{Instr}
use Rattle.pass_proofs.specs.ir_model.declared.instr.Terminator.{Terminator}
use Rattle.pass_proofs.specs.ir_model.declared.module.Function.{Function}
use Rattle.pass_proofs.specs.run_laws.embedded.Deaths.{moved_slot}
use Rattle.pass_proofs.specs.run_source.State.{function_of}
use Rattle.pass_proofs.specs.run_source.declared.state.State.{State}
use Rattle.pass_proofs.specs.run_step.Step.{AtTerm, fetch}
use Rattle.pass_proofs.specs.run_step.declared.world.Slot.{Slot}

-- ---- instructions

put_none : (room : ℕ → Instr → Option GivenFrame) (at : ℕ) (is : List Instr) → 0 ≡ length is
    → put_up_to room at is 0 ≡ 0
put_none room at [] e = refl
put_none room at (i ∷ is) e = absurd (omega (arith, e))

put_last : (room : ℕ → Instr → Option GivenFrame) (at : ℕ) (is : List Instr) (k : ℕ) → suc k ≡ length is
    → put_up_to room at is (suc k) ≡ put_up_to room at is k
put_last room at [] k e = absurd (omega (arith, e))
put_last room at (i ∷ []) zero e = omega arith
put_last room at (i ∷ (j ∷ is)) zero e = absurd (omega (arith, e))
put_last room at (i ∷ is) (suc k) e =
    let rest = put_last room (at + 1) is k (omega (arith, e)) in omega (arith, rest)

-- ---- places

module _ (room : Rooms) (f : Function) where
  none_ahead : (block : ℕ) → (block ≡ 0 → allocas_ahead room f ≡ []) → ahead room f block ≡ 0
  none_ahead zero none = ap (λ (is : List Instr). length is) (none refl)
  none_ahead (suc block) none = refl

  pub front_is : (block at : ℕ) → at ≡ length (instrs_of f block)
      → (block ≡ 0 → at ≡ 0 → allocas_ahead room f ≡ []) → own_at room f block at ≡ front_at room f block at
  front_is block zero e none =
      let front = none_ahead block (λ is. none is refl) in
      let puts = put_none (room block) (phi_count f block) (instrs_of f block) e in
      omega (arith, front, puts)
  front_is block (suc k) e none =
      let puts = put_last (room block) (phi_count f block) (instrs_of f block) k e in
      omega (arith, puts)

-- ---- states

module _ (e : Elision) (s t : State) (r : AreElided e s t) (term : Terminator)
    (there : fetch (function_of (framed e).given s) s.top.block s.top.at ≡ AtTerm term)
    (stands : t.top.at ≡ front_at (rooms e s.top.func) (function_in e s.top.func) s.top.block s.top.at)
    (none : s.top.block ≡ 0 → s.top.at ≡ 0 → allocas_ahead (rooms e s.top.func) (function_in e s.top.func) ≡ [])
  where
    pub is_itself : at_itself e s t ≡ t
    is_itself =
        let place = front_is (rooms e s.top.func) (function_in e s.top.func) s.top.block s.top.at
        (end_at (function_in e s.top.func) s.top.block s.top.at term there) none ∙ sym stands in
        λ i. record t { top = record t.top { at = place i } }

    made_by : (own : List Slot) → HasAllocas e r.homes r.hides (sides s t) s.top t.top own
        → length own ≡ length (allocas_ahead (rooms e s.top.func) (function_in e s.top.func))
    made_by own (inl first) =
        ap (λ (xs : List Slot). length xs) first.2
        ∙ sym (ap (λ (is : List Instr). length is) (none first.0 first.1))
    made_by own (inr made) = made.1

    pub are_made : length t.top.slots
        ≡ length s.top.slots + length (allocas_ahead (rooms e s.top.func) (function_in e s.top.func))
    are_made =
        let slots = ap (λ (xs : List Slot). length xs) r.top.slots in
        let both = length-append (map (moved_slot r.homes) s.top.slots) r.top.own in
        let few = map_long (moved_slot r.homes) s.top.slots in
        let own = made_by r.top.own r.top.allocas in
        omega (arith, slots, both, few, own)
