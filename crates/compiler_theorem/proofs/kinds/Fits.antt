-- The block of each instance of an accepted source's run has its frame's size, also where the instance is freed.
use Rattle.std.proofs.Common.{◌≡◌, ◌+◌, ◌≤◌, ℕ, Some, sym, ap, ◌∙◌, arith}
use Rattle.std.proofs.lemmas.Option.{slice_get-map}
use Rattle.std.specs.Prelude.{option_map, slice_get}
use Rattle.compiler_theorem.proofs.kinds.Roomy.{states_roomy}
use Rattle.compiler_theorem.proofs.kinds.Whole.{kinds_kept}
use Rattle.compiler_theorem.specs.theorem.Anew.{Anew, IsAnewOf}
use Rattle.compiler_theorem.specs.theorem.Asked.{asking}
use Rattle.compiler_theorem.specs.theorem.Between.{renewing}
use Rattle.compiler_theorem.specs.theorem.Entries.{Run}
use Rattle.compiler_theorem.specs.theorem.Lowered.{IsLowered, Lowered, early, edged}
use Rattle.pass_frames_meaning.specs.Kinds.{KeepsKinds}
use Rattle.pass_frames_meaning.proofs.pass_frames_proof.followed.Assembly.{other_instance}
use Rattle.pass_frames_meaning.specs.pass_frames_proof.Related.{AreBuiltOf}
use Rattle.pass_frames_meaning.specs.pass_renewed_proof.Renewed.{renewed_step}
use Rattle.compiler.specs.run_framed.Framed.{layout_of}
use Rattle.compiler.specs.run_memory.declared.block.MemoryBlock.{MemoryBlock}
use Rattle.pass_frames_meaning.specs.run_slots.Slots.{IsSlottedState}
use Rattle.compiler.specs.run_source.Source.{first_state}
use Rattle.compiler.specs.run_source.declared.state.Instance.{Instance}
use Rattle.compiler.specs.run_source.declared.state.State.{State}
use Rattle.compiler.specs.run_step.Runs.{iterate}

module _ (l : Lowered) (low : IsLowered l) (a : Anew) (anew : IsAnewOf (early l) a) (r : Run) (n : ℕ) where
  abbrev s : State
  s = iterate (renewed_step (renewing l a r)) n (first_state (edged l) r.entry r.args)

  pub frame_fits : IsSlottedState (iterate (renewed_step (renewing l a r)) n (first_state (edged l) r.entry r.args))
      → (t : State)
      → AreBuiltOf (asking l low a r).b (iterate (renewed_step (renewing l a r)) n (first_state (edged l) r.entry r.args)) t
      → (i : ℕ) (x : Instance) (z : MemoryBlock)
      → slice_get (iterate (renewed_step (renewing l a r)) n (first_state (edged l) r.entry r.args)).instances i ≡ Some x
      → slice_get (iterate (renewed_step (renewing l a r)) n (first_state (edged l) r.entry r.args)).world.memory x.block
      ≡ Some z → x.start + (layout_of (asking l low a r).b.given.layouts x.coroutine).size ≤ z.size
  frame_fits slotted t built i x z there e =
      let kinds : KeepsKinds (asking l low a r) = kinds_kept l low a anew r in
      let size = kinds.sizes x.coroutine (other_instance (asking l low a r).b s t built i x there).2.is_coroutine in
      let room = states_roomy (renewing l a r) r.entry r.args n i x there in
      let row : room.row.0 ≡ z.size = ap (λ (q : ℕ × ℕ). q.0) (same_row room.row (z.size, z.align) (sym room.there
      ∙ slice_get-map (λ (y : MemoryBlock). (y.size, y.align)) s.world.memory x.block
      ∙ ap (option_map (λ (y : MemoryBlock). (y.size, y.align))) e)) in
      let start = (slotted.slotted.frames i x there).start in
      let fits = room.fits in
      omega (arith, size, row, start, fits)
    where
      same_row : (p q : ℕ × ℕ) → Some p ≡ Some q → p ≡ q
      same_row p q e = cc
