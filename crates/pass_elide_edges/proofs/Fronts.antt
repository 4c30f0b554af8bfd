-- The function has just been entered, and its new allocas stand in front. Or nothing stands in front of the place.
use Rattle.std.proofs.Common.{◌≡◌, ◌⊎◌, ◌+◌, inl, inr, ℕ, true, false, List, [], length, length-append, map, sym, ap, ◌∙◌, arith, ◌==◌}
use Rattle.std.specs.Prelude.{Some, slice_get}
use Rattle.pass_elide.specs.Elided.{frame_allocas}
use Rattle.pass_elide.specs.declared.given.GivenFrame.{GivenFrame}
use Rattle.pass_elide_edges.proofs.Staying.{gives_none}
use Rattle.pass_elide_edges.specs.States.{EndsElided, EndsFramed}
use Rattle.pass_elide_proof.proofs.EdgeEntered.{term_end}
use Rattle.pass_elide_proof.proofs.EdgeValues.{map_long}
use Rattle.pass_elide_proof.proofs.Modules.{finds_alike}
use Rattle.pass_elide_proof.proofs.PlacingEntered.{behind_place}
use Rattle.pass_elide_proof.proofs.PlacingFacts.{by_truth}
use Rattle.pass_elide_proof.specs.Calling.{AreReady, IsAtFront, IsBehindFront}
use Rattle.pass_elide_proof.specs.Elision.{Elision, framed, function_in, function_in_elided, rooms}
use Rattle.pass_elide_proof.specs.Match.{AreElided, AreModes, Given, Same}
use Rattle.pass_elide_proof.specs.Places.{allocas_ahead, front_at}
use Rattle.pass_elide_proof.specs.Placing.{KeepsPlaces}
use Rattle.pass_elide_proof.proofs.pass_proofs.ir_laws.facts.Truth.{equal_numbers, not_equal}
use Rattle.pass_elide_proof.specs.pass_proofs.ir_base.declared.outcome.Outcome.{Outcome}
use Rattle.pass_elide_proof.specs.pass_proofs.ir_model.declared.instr.Instr.{Instr}
use Rattle.pass_elide_proof.specs.pass_proofs.ir_model.declared.instr.Terminator.{Terminator}
use Rattle.pass_elide_proof.specs.pass_proofs.ir_model.declared.module.Block.{Block}
use Rattle.pass_elide_proof.specs.pass_proofs.ir_model.declared.module.Function.{Function}
use Rattle.pass_elide_proof.specs.pass_proofs.run_laws.embedded.Deaths.{moved_slot}
use Rattle.pass_elide_proof.specs.pass_proofs.run_source.State.{function_of}
use Rattle.pass_elide_proof.specs.pass_proofs.run_source.declared.state.Mode.{Mode}
use Rattle.pass_elide_proof.specs.pass_proofs.run_source.declared.state.State.{State}
use Rattle.pass_elide_proof.specs.pass_proofs.run_step.Step.{AtTerm, fetch}
use Rattle.pass_elide_proof.specs.pass_proofs.run_step.declared.world.Slot.{Slot}

plain_too : (m n : Mode) → AreModes m n → m ≡ Mode.Plain → n ≡ Mode.Plain
plain_too _ _ (Same mode allocates) is = is
plain_too _ _ (Given block offset) is = absurd (cc)

module _ (e : Elision) (keeps : KeepsPlaces e) (s t : State) (r : AreElided e s t) (first : EndsFramed e s)
    (second : EndsElided e t) (runs : s.outcome ≡ Outcome.Running) (term : Terminator)
    (there : fetch (function_of (framed e).given s) s.top.block s.top.at ≡ AtTerm term)
    (beside : t.top.block ≡ s.top.block)
    (stands : t.top.at ≡ front_at (rooms e s.top.func) (function_in e s.top.func) s.top.block s.top.at) where
  abbrev f : Function
  f = function_in e s.top.func

  abbrev is : List Instr
  is = allocas_ahead (rooms e s.top.func) (function_in e s.top.func)

  entry : (s.top.block ≡ 0) → (b : Block) × (slice_get f.blocks 0 ≡ Some b)
  entry block =
      let end = term_end f s.top.block s.top.at term there in
      (end.own, ap (slice_get f.blocks) (sym block) ∙ end.there)

  front_place : f.coroutine ≡ false → s.top.block ≡ 0 → s.top.at ≡ 0 → IsAtFront e s t
  front_place plain block at =
      let known = first.known.acts.0.plain plain in
      let many = first.known.acts.0.room in
      let wide : length t.top.values ≡ length (function_in_elided e s.top.func).names
      = second.known.acts.0.room ∙ ap (λ (n : ℕ). length (function_in_elided e n).names) r.top.func in
      let still : (function_in_elided e t.top.func).coroutine ≡ false
      = ap (λ (h : Function). h.coroutine) (ap (function_in_elided e) r.top.func
      ∙ (finds_alike e).functions s.top.func) ∙ plain in
      let other_at : t.top.at ≡ 0 = stands ∙ ap (front_at (rooms e s.top.func) f s.top.block) at in
      record {
        runs = runs;
        plain = plain;
        mode = plain_too s.top.mode t.top.mode r.top.mode known.0;
        instance = r.top.instance ∙ known.1;
        block = block;
        at = at;
        other_block = beside ∙ block;
        other_at = other_at;
        slots = second.bare.slots still (beside ∙ block) other_at;
        values = omega (arith, many);
        others = omega (arith, wide);
        entry = (entry block).0;
        has_entry = (entry block).1;
        aligned = keeps.fronts s.top.func;
        marks = keeps.marks s.top.func;
      }

  none_ahead : f.coroutine ≡ true → is ≡ []
  none_ahead coroutine =
      ap (λ (rs : List GivenFrame). frame_allocas (length f.names) rs) (gives_none e keeps s.top.func coroutine)

  behind : (s.top.block ≡ 0 → s.top.at ≡ 0 → is ≡ []) → IsBehindFront e s t
  behind none = behind_place e keeps s t beside stands none

  -- a function that is no coroutine has just been entered, or nothing stands in front
  pub place : IsAtFront e s t ⊎ IsBehindFront e s t
  place =
      by_truth f.coroutine (λ is_so. inr (behind (λ block at. none_ahead is_so)))
      (λ never. by_truth (s.top.block == 0)
      (λ block. by_truth (s.top.at == 0)
      (λ at. inl (front_place never (equal_numbers s.top.block 0 block) (equal_numbers s.top.at 0 at)))
      (λ other. inr (behind (λ b at. absurd (not_equal s.top.at 0 other at)))))
      (λ other. inr (behind (λ block at. absurd (not_equal s.top.block 0 other block)))))

-- all that is put in front has been made
pub all_slots : (e : Elision) (s u : State) → AreReady e s u → length u.top.slots
    ≡ length s.top.slots + length (allocas_ahead (rooms e s.top.func) (function_in e s.top.func))
all_slots e s u ready =
    let slots = ap (λ (xs : List Slot). length xs) ready.beside.top.slots in
    let both = length-append (map (moved_slot ready.beside.homes) s.top.slots) ready.beside.top.own in
    let few = map_long (moved_slot ready.beside.homes) s.top.slots in
    let own = ready.many in
    omega (arith, slots, both, few, own)
