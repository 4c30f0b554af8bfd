-- What sound states give the laws on begins and frees.
use Rattle.std.proofs.Common.{◌≡◌, ℕ, true, List, [], ◌∷◌, refl, ◌||◌, ◌==◌, not}
use Rattle.std.specs.Prelude.{None, Option, Some, slice_get}
use Rattle.pass_elide_proof.proofs.Begins.{no_both}
use Rattle.pass_elide_proof.specs.Beginning.{HasNoHeapSlot, HaveFrames, IsKnownTo}
use Rattle.pass_elide_proof.specs.Elision.{Elision, elided, framed}
use Rattle.pass_elide_proof.specs.Match.{instance_in, is_given_mode}
use Rattle.pass_elide_proof.specs.Sound.{IsSoundAct, IsSoundState}
use Rattle.pass_proofs.specs.run_framed.Framed.{FramedGiven, is_given}
use Rattle.pass_proofs.specs.run_laws.changed.Changed.{Each}
use Rattle.pass_proofs.specs.run_memory.Memory.{is_live}
use Rattle.pass_proofs.specs.run_memory.declared.block.Kind.{Kind}
use Rattle.pass_proofs.specs.run_memory.declared.block.MemoryBlock.{MemoryBlock}
use Rattle.pass_proofs.specs.run_source.State.{is_finished}
use Rattle.pass_proofs.specs.run_source.declared.state.Activation.{Activation}
use Rattle.pass_proofs.specs.run_source.declared.state.Instance.{Instance}
use Rattle.pass_proofs.specs.run_source.declared.state.Mode.{Mode}
use Rattle.pass_proofs.specs.run_source.declared.state.State.{State}

all_known : (g : FramedGiven) (m : List MemoryBlock) (xs : List Instance) (bs : List Activation)
    → Each (IsSoundAct g m xs) bs → Each (IsKnownTo xs) bs
all_known g m xs [] h = tt
all_known g m xs (a ∷ bs) h = (h.0.known, all_known g m xs bs h.1)

pub frames_of : (e : Elision) (s t : State) → IsSoundState (framed e) s → IsSoundState (elided e) t
    → ((i : ℕ) (x : Instance) (z : MemoryBlock) → slice_get s.instances i ≡ Some x
    → slice_get s.world.memory x.block ≡ Some z → is_live z.life ≡ true → z.owned ≡ None → ⊥)
    → Each (HasNoHeapSlot s.world.memory) (s.top ∷ s.below) → HaveFrames e s t
frames_of e s t first second owned heaps = record {
  owned = owned;
  starts = second.blocks.starts;
  slots = first.acts.0.own;
  others = second.acts.0.own;
  heaps = heaps;
  known = all_known (elided e) t.world.memory t.instances (t.top ∷ t.below) second.acts;
}

pub unowned_of : (g : FramedGiven) (t : State) → IsSoundState g t → (block : ℕ) (z : MemoryBlock)
    → slice_get t.world.memory block ≡ Some z → z.kind ≡ Kind.Stack
    → ((i : ℕ) (y : Instance) → slice_get t.instances i ≡ Some y → y.block ≡ block → is_finished y.status ≡ true)
    → z.owned ≡ None
unowned_of g t h block z there kind over = by z.owned refl
  where
    by : (o : Option ℕ) → z.owned ≡ o → z.owned ≡ None
    by None eo = eo
    by (Some n) eo =
        let k = h.blocks.owners block n z there kind eo in
        absurd (no_both (is_finished k.instance.status) k.goes (over k.number k.instance k.there k.block))

pub given_of : (g : FramedGiven) (t : State) → IsSoundState g t → (y : Instance)
    → instance_in t.instances t.top.instance ≡ Some y → is_given_mode t.top.mode ≡ true
    → is_given t.world.memory y ≡ true
given_of g t h y there ramp = by t.top.instance refl there t.top.mode refl ramp
  where
    by : (o : Option ℕ) → t.top.instance ≡ o → instance_in t.instances o ≡ Some y → (mode : Mode)
        → t.top.mode ≡ mode → is_given_mode mode ≡ true → is_given t.world.memory y ≡ true
    by None eo at mode em is = absurd (cc)
    by (Some i) eo at (Mode.GivenRamp frame) em is =
        λ j. h.acts.0.given frame i y em eo at j || not (y.start == 0)
    by (Some i) eo at Mode.Plain em is = absurd (cc)
    by (Some i) eo at Mode.Ramp em is = absurd (cc)
    by (Some i) eo at Mode.Resumed em is = absurd (cc)
    by (Some i) eo at (Mode.Entering from label) em is = absurd (cc)

pub own_of : (g : FramedGiven) (s : State) → IsSoundState g s → (x : Instance)
    → instance_in s.instances s.top.instance ≡ Some x → x.coroutine ≡ s.top.func
own_of g s h x there = by s.top.instance refl there
  where
    by : (o : Option ℕ) → s.top.instance ≡ o → instance_in s.instances o ≡ Some x → x.coroutine ≡ s.top.func
    by None eo at = absurd (cc)
    by (Some i) eo at = h.acts.0.coroutine i x eo at
