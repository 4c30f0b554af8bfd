-- The frames of instances that aren't freed are there as layouts say.
use Rattle.std.proofs.Common.{◌≡◌, ◌+◌, ◌≤◌, ℕ, true, false, Some, sym, ap, ◌∙◌, arith}
use Rattle.std.proofs.lemmas.Bool.{ltb-false}
use Rattle.std.specs.Prelude.{slice_get}
use Rattle.pass_frames_meaning.specs.Framed.{AreFramesHeld, IsFrameHeld}
use Rattle.pass_frames_meaning.specs.Setting.{Setting}
use Rattle.pass_frames_proof.specs.Related.{is_coroutine}
use Rattle.pass_frames_proof.specs.Slotted.{HasFrameThere}
use Rattle.pass_frames_proof.specs.run_framed.Framed.{layout_of}
use Rattle.pass_frames_proof.specs.run_memory.Memory.{is_below, same_kind}
use Rattle.pass_frames_proof.specs.run_memory.declared.block.Kind.{Kind}
use Rattle.pass_frames_proof.specs.run_memory.declared.block.MemoryBlock.{MemoryBlock}
use Rattle.run_slots.proofs.Times.{same_there}
use Rattle.run_slots.specs.Slots.{IsFrameBlock, IsSlottedState}
use Rattle.pass_frames_proof.specs.run_source.declared.state.Instance.{Instance}
use Rattle.pass_frames_proof.specs.run_source.declared.state.State.{State}
use Rattle.pass_frames_proof.specs.run_source_tables.Given.{frame_of}

-- where the instance's layout has the printed size
pub frame_same : (c : Setting) (s : State) → IsSlottedState s
    → AreFramesHeld c.g.given.sizes s.world.memory s.instances → (i : ℕ) (x : Instance)
    → slice_get s.instances i ≡ Some x
    → (layout_of c.b.given.layouts x.coroutine).size ≡ (frame_of c.g.given.sizes x.coroutine).size
    → x.freed ≡ false → HasFrameThere c.b s x
frame_same c s slotted held i x e size unfreed = record {
  block = f.block;
  there = f.there;
  live = f.live;
  fits = all f.block.size f.fits;
  writable = ap (λ (k : Kind). same_kind k Kind.Constant)
      (ap (λ (z : MemoryBlock). z.kind) (same_there (slice_get s.world.memory x.block) f.block b.block f.there b.there)
      ∙ b.heap);
  owned = λ o d. all o (ltb-false o (frame_of c.g.given.sizes x.coroutine).size
      (sym (ap (is_below o) f.owned) ∙ d));
}
  where
    f : IsFrameHeld s.world.memory (frame_of c.g.given.sizes x.coroutine).size x
    f = held i x e unfreed

    b : IsFrameBlock s.world.memory x
    b = slotted.slotted.frames i x e

    -- what holds the printed size holds the frame
    all : (o : ℕ) → (frame_of c.g.given.sizes x.coroutine).size ≤ o
        → x.start + (layout_of c.b.given.layouts x.coroutine).size ≤ o
    all o h = let k = b.start in omega (arith, h, k, size)

pub frame_there : (c : Setting)
    → ((func : ℕ) → is_coroutine c.b func ≡ true
    → (layout_of c.b.given.layouts func).size ≡ (frame_of c.g.given.sizes func).size)
    → (s : State) → IsSlottedState s → AreFramesHeld c.g.given.sizes s.world.memory s.instances
    → (i : ℕ) (x : Instance) → slice_get s.instances i ≡ Some x → is_coroutine c.b x.coroutine ≡ true
    → x.freed ≡ false → HasFrameThere c.b s x
frame_there c sizes s slotted held i x e coroutine unfreed =
    frame_same c s slotted held i x e (sizes x.coroutine coroutine) unfreed
