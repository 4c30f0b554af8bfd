-- Frame slots stand in frames, and frames are there.
use Rattle.std.proofs.Common.{◌≡◌, ℕ, ◌+◌, ◌<◌, Bool, true, false, None, Some, length, take, drop, refl, sym, ap, ◌∙◌, subst}
use Rattle.std.proofs.lemmas.Bool.{false≢true}
use Rattle.std.specs.List.{Contains}
use Rattle.std.specs.Prelude.{slice_get}
use Rattle.compiler_theorem.proofs.theorem.shown.Whole.{whole_stands}
use Rattle.compiler_theorem.specs.theorem.SharedBytes.{Frame, StandAt}
use Rattle.compiler.specs.frame_contents.Held.{position_of}
use Rattle.compiler.specs.pass_frames.Tables.{offset_at}
use Rattle.pass_frames_meaning.specs.pass_frames_proof.Related.{AreBuiltOf, Building}
use Rattle.compiler.specs.run_framed.Framed.{frame_rights}
use Rattle.compiler.specs.run_laws.memory.Pointers.{AreBytes, Home, home_of}
use Rattle.compiler.specs.run_memory.Memory.{is_live}
use Rattle.compiler.specs.run_memory.declared.block.MemoryBlock.{MemoryBlock}
use Rattle.pass_frames_meaning.proofs.run_slots.Times.{same_there, there_at, there_below}
use Rattle.compiler.specs.run_source.declared.state.Instance.{Instance}
use Rattle.compiler.specs.run_source.declared.state.State.{State}
use Rattle.compiler.specs.run_step.declared.world.Slot.{Slot}

module _ (b : Building) (u t : State) (h : AreBuiltOf b u t) where
  -- the frame of an instance is there
  pub frame_there : (i : ℕ) (y : Instance) → slice_get u.instances i ≡ Some y → (w : MemoryBlock)
      → slice_get u.world.memory y.block ≡ Some w → Frame t i
  frame_there i y e w held =
      let z = there_at t.instances i (subst (λ (n : ℕ). i < n) (sym h.count) (there_below u.instances i y e)) in
      let own = h.mates.each y.block z.0.block w held (h.instances i y z.0 e z.1).block in
      record {
        instance = z.0;
        there = z.1;
        block = record w { bytes = own.0 };
        held = own.1;
      }

  -- a slot into which pointers may be about isn't hidden
  shown_there : (n : ℕ) → (home_of h.homes n).is_seen ≡ true → h.hides n ≡ false
  shown_there n seen = on (h.hides n) refl
    where
      on : (c : Bool) → h.hides n ≡ c → h.hides n ≡ false
      on false e = e
      on true e = absurd (false≢true (sym (h.hidden n e) ∙ seen))

  -- by the position of its field a live slot that nobody owns stands in the frame
  pub slot_placed : (i : ℕ) (y : Instance) → slice_get u.instances i ≡ Some y → (f : Frame t i) (slot : Slot)
      → Contains y.slots slot → (w : MemoryBlock) → slice_get u.world.memory slot.block ≡ Some w
      → is_live w.life ≡ true → w.owned ≡ None → (position offset : ℕ)
      → position_of (b.framing y.coroutine).contents.held slot.alloca ≡ Some position
      → offset_at (b.framing y.coroutine).layout position ≡ offset
      → StandAt h.homes w.bytes f.block (f.instance.start + offset)
  slot_placed i y e f slot own w there live free position offset position_is offset_is =
      let placed = (h.instances i y f.instance e f.there).slots slot own in
      let seen : (home_of h.homes slot.block).is_seen ≡ true = ap (λ (q : Home). q.is_seen) placed.home in
      let x = whole_stands (frame_rights b.given t.instances) h.homes h.hides
      u.world.memory t.world.memory slot.block w
      h.world.memory (shown_there slot.block seen) there live free in
      let at : slice_get t.world.memory f.instance.block ≡ Some x.block =
      ap (λ (q : Home). slice_get t.world.memory q.block) (sym placed.home) ∙ x.there in
      let same : x.block ≡ f.block =
      same_there (slice_get t.world.memory f.instance.block) x.block f.block at f.held in
      let position_same : placed.position ≡ position =
      same_there (position_of (b.framing y.coroutine).contents.held slot.alloca) placed.position position
      placed.position_is position_is in
      let start : (home_of h.homes slot.block).offset ≡ f.instance.start + offset =
      ap (λ (q : Home). q.offset) placed.home
      ∙ ap (λ (k : ℕ). f.instance.start + offset_at (b.framing y.coroutine).layout k) position_same
      ∙ ap (λ (k : ℕ). f.instance.start + k) offset_is in
      subst (λ (z : MemoryBlock). StandAt h.homes w.bytes z (f.instance.start + offset)) same
      (subst (λ (k : ℕ). AreBytes h.homes w.bytes (take (length w.bytes) (drop k x.block.bytes))) start x.bytes)
