-- The control bytes of frames stay where a step keeps what is closed to the framed run.
use Rattle.std.proofs.Common.{◌≡◌, ℕ, ◌+◌, ◌<◌, ◌≤◌, inl, inr, Bool, true, false, List, length, Option, Some, None, refl, sym, ap, ◌∙◌, subst, arith}
use Rattle.std.specs.Prelude.{slice_get, is_some}
use Rattle.std.proofs.lemmas.Bool.{false≢true}
use Rattle.std.proofs.lemmas.Option.{slice_get_within}
use Rattle.pass_proofs.specs.ir_model.declared.ir_type.IntWidth.{IntWidth}
use Rattle.pass_proofs.specs.ir_paths.declared.point.Point.{Point}
use Rattle.pass_proofs.specs.pass_intrinsics.Shapes.{index_bytes}
use Rattle.pass_split_proof.proofs.states.OwnHomes.{own_home}
use Rattle.pass_split_proof.specs.states.Instances.{AreFrames, AreLaidFrames, IsControl, IsHeaded, IsHeadedIn, IsIndexed, IsSavedAt, LiesAligned, address_of_part, index_length, is_given_in, is_held, is_held_in, resumer_of, shape_at}
use Rattle.pass_split_proof.specs.states.Memories.{homes_of}
use Rattle.pass_proofs.specs.run_framed.Framed.{FramedGiven, frame_rights, layout_of}
use Rattle.pass_proofs.proofs.run_laws.access.Done.{free_held}
use Rattle.pass_proofs.proofs.run_laws.access.Reading.{as_many}
use Rattle.pass_proofs.proofs.run_laws.memory.Itself.{owner_rights_fit}
use Rattle.pass_proofs.specs.run_laws.access.Changed.{IsFree, KeepsFree}
use Rattle.pass_proofs.specs.run_laws.access.Lines.{Holds}
use Rattle.pass_proofs.specs.run_laws.embedded.Refilled.{AreRefilled, IsRefilled}
use Rattle.pass_proofs.specs.run_laws.memory.Pointers.{Home}
use Rattle.pass_proofs.proofs.run_memory.Digits.{length-encode}
use Rattle.pass_proofs.specs.run_memory.Memory.{digits, encode, is_live, owner_rights}
use Rattle.pass_proofs.specs.run_memory.declared.block.Byte.{Byte}
use Rattle.pass_proofs.specs.run_memory.declared.block.Kind.{Kind}
use Rattle.pass_proofs.specs.run_memory.declared.block.MemoryBlock.{MemoryBlock}
use Rattle.pass_proofs.specs.run_memory.declared.pointer.Value.{Value}
use Rattle.pass_proofs.specs.run_source.declared.state.Instance.{Instance}

-- ---- what is free

-- a byte that is closed to the framed run is the home of nothing that it may touch
pub closed_free : (g : FramedGiven) (instances : List Instance) (m : List MemoryBlock) (block at : ℕ)
    → ((y : MemoryBlock) → (frame_rights g instances).is_closed block y at 1 ≡ true)
    → IsFree (frame_rights g instances) (homes_of m) m block at
closed_free g instances m block at closed = record {
  each = λ b j z e live lt opened here there.
      let h = own_home (length m) b (slice_get_within m b z e) in
      let is_block : b ≡ block = sym (ap (λ (q : Home). q.block) h) ∙ here in
      let at_start : 0 + j ≡ at = ap (λ (q : Home). q.offset + j) (sym h) ∙ there in
      let is_at : j ≡ at = omega arith in
      false≢true (sym opened ∙ ap (λ (p : ℕ × ℕ). (frame_rights g instances).is_closed p.0 z p.1 1)
      (λ i. (is_block i, is_at i)) ∙ closed z);
}

-- ---- the control bytes of one frame

pub index_some : (w : IntWidth) → 0 < index_bytes w
index_some IntWidth.I1 = omega arith
index_some IntWidth.I8 = omega arith
index_some IntWidth.I16 = omega arith
index_some IntWidth.I32 = omega arith
index_some IntWidth.I64 = omega arith

-- what stands in them is held in another memory too
abbrev pub MovesControl : FramedGiven → (n l : List MemoryBlock) → Instance → Type 0
MovesControl g n l x = (o most : ℕ) (bytes : List Byte) → 0 < length bytes → ((i : ℕ) → i < length bytes
    → IsControl g x x.block (o + i)) → Holds owner_rights n x.block o most bytes
    → Holds owner_rights l x.block o most bytes

module _ (g : FramedGiven) (n l : List MemoryBlock) (x : Instance) (move : MovesControl g n l x) where
  pub index_held : (number : ℕ) → IsIndexed g n x number → IsIndexed g l x number
  index_held number h = record {
    holds = move (x.start + (layout_of g.layouts x.coroutine).index) (index_length g x.coroutine)
        (digits (index_length g x.coroutine) number)
        (subst (λ k. 0 < k) (sym long) (index_some (shape_at g x.coroutine).width))
        (λ i lt. (
          refl,
          inr (inside (x.start + (layout_of g.layouts x.coroutine).index) i (index_length g x.coroutine)
              (subst (λ k. i < k) long lt)),
        )) h.holds;
  }
    where
      long : length (digits (index_length g x.coroutine) number) ≡ index_length g x.coroutine
      long = length-encode (index_length g x.coroutine) (Value.Int (record { width = 0; bits = number }))

      inside : (o i k : ℕ) → i < k → (o ≤ o + i) × (o + i < o + k)
      inside o i k lt = (omega arith, omega arith)

  pub pointer_held : (o : ℕ) (v : Value) → x.start ≤ o → o + 8 ≤ x.start + 16
      → Holds owner_rights n x.block o 8 (encode 8 v) → Holds owner_rights l x.block o 8 (encode 8 v)
  pointer_held o v from to h = move o 8 (encode 8 v) (subst (λ k. 0 < k) (sym (length-encode 8 v)) (omega arith))
      (λ i lt. (refl, inl (inside x.start o i (subst (λ k. i < k) (length-encode 8 v) lt) from to))) h
    where
      inside : (s o i : ℕ) → i < 8 → s ≤ o → o + 8 ≤ s + 16 → (s ≤ o + i) × (o + i < s + 16)
      inside s o i lt from to = (omega arith, omega arith)

  pub saved_held : (suspend : Point) → IsSavedAt g n x suspend → IsSavedAt g l x suspend
  saved_held suspend h = record {
    number = h.number;
    numbered = h.numbered;
    led = h.led;
    resumes = pointer_held x.start (resumer_of g x.coroutine h.numbered.suspend) (omega arith) (omega arith) h.resumes;
    index = index_held h.number h.index;
  }

  pub headed_held : {given : Bool} → IsHeaded g n given x → IsHeaded g l given x
  headed_held h = record {
    destroyer = h.destroyer;
    stands = h.stands;
    is = h.is;
    right = h.right;
    destroys = pointer_held (x.start + 8) (address_of_part g x.coroutine h.destroyer) (omega arith)
        (omega arith) h.destroys;
    saved = λ suspend values e. saved_held suspend (h.saved suspend values e);
  }

-- so it is where the frame lies in a block of the same kind
pub headed_on : (g : FramedGiven) (m k n : List MemoryBlock) (x : Instance)
    → is_given_in (slice_get k x.block) x ≡ is_given_in (slice_get m x.block) x → IsHeadedIn g m n x
    → IsHeadedIn g k n x
headed_on g m k n x same h = subst (λ (b : Bool). IsHeaded g n b x) (sym same) h

-- what is closed to the framed run stays, and so do they
pub closed_moves : (g : FramedGiven) (instances : List Instance) (m n l : List MemoryBlock) (x : Instance)
    → ((y : MemoryBlock) (at : ℕ) → IsControl g x x.block at
    → (frame_rights g instances).is_closed x.block y at 1 ≡ true)
    → KeepsFree (frame_rights g instances) (homes_of m) m n l → MovesControl g n l x
closed_moves g instances m n l x closed free o most bytes some control h =
    free_held (frame_rights g instances) owner_rights (homes_of m) m n l x.block o most bytes owner_rights_fit free h
    (λ i lt. closed_free g instances m x.block (o + i) (λ y. closed y (o + i) (control i lt)))

-- ---- all frames

pub lies_by : (g : FramedGiven) (x : Instance) (y z : MemoryBlock) → z.align ≡ y.align → z.size ≡ y.size
    → LiesAligned g x y → LiesAligned g x z
lies_by g x y z align size h = record {
  alignment = h.alignment;
  block = subst (λ (a : ℕ). (layout_of g.layouts x.coroutine).align ≤ a) (sym align) h.block;
  start = h.start;
  inside = subst (λ (k : ℕ). x.start + (layout_of g.layouts x.coroutine).size ≤ k) (sym size) h.inside;
}

held_refilled : (x : Instance) (a b : Option MemoryBlock) → IsRefilled a b → is_held_in b x ≡ is_held_in a x
held_refilled x None None r = refl
held_refilled x None (Some y) r = absurd r
held_refilled x (Some z) None r = absurd r
held_refilled x (Some z) (Some y) r = ap (λ (u : MemoryBlock). is_held_in (Some u) x) r

pub given_refilled : (x : Instance) (a b : Option MemoryBlock) → IsRefilled a b → is_given_in b x ≡ is_given_in a x
given_refilled x None None r = refl
given_refilled x None (Some y) r = absurd r
given_refilled x (Some z) None r = absurd r
given_refilled x (Some z) (Some y) r = ap (λ (u : MemoryBlock). is_given_in (Some u) x) r

-- a block that was there, as it was but for its bytes
record Was (o : Option MemoryBlock) (y : MemoryBlock) : Type 0 where
  block : MemoryBlock
  there : o ≡ Some block
  same : y ≡ record block { bytes = y.bytes }

was : (a b : Option MemoryBlock) (y : MemoryBlock) → IsRefilled a b → b ≡ Some y → Was a y
was None None y r e = absurd (cc)
was None (Some z) y r e = absurd r
was (Some x) None y r e = absurd r
was (Some x) (Some z) y r e = let is : z ≡ y = cc
    in record { block = x; there = refl; same = subst (λ (u : MemoryBlock). u ≡ record x { bytes = u.bytes }) is r }

-- frames stay laid where bytes of the framed run change
module _ (g : FramedGiven) (instances : List Instance) (m k : List MemoryBlock) (frames : AreLaidFrames g instances m)
    (refilled : AreRefilled m k) where
  held_same : (x : Instance) → is_held k x ≡ is_held m x
  held_same x = held_refilled x (slice_get m x.block) (slice_get k x.block) (refilled.each x.block)

  pub was_held : (x : Instance) → is_held k x ≡ true → is_held m x ≡ true
  was_held x e = sym (held_same x) ∙ e

  before : (x : Instance) (y : MemoryBlock) → slice_get k x.block ≡ Some y → Was (slice_get m x.block) y
  before x y there = was (slice_get m x.block) (slice_get k x.block) y (refilled.each x.block) there

  owning : (i : ℕ) (x : Instance) (y : MemoryBlock) → slice_get instances i ≡ Some x → x.freed ≡ false
      → is_live y.life ≡ true → y.kind ≡ Kind.Allocator → Was (slice_get m x.block) y → is_some y.owned ≡ true
  owning i x y e fresh live kind w = ap (λ (z : MemoryBlock). is_some z.owned) w.same
      ∙ frames.owned i x w.block e fresh w.there (sym (ap (λ (z : MemoryBlock). is_live z.life) w.same)
      ∙ live) (sym (ap (λ (z : MemoryBlock). z.kind) w.same) ∙ kind)

  lost : (i : ℕ) (x : Instance) (y : MemoryBlock) → slice_get instances i ≡ Some x → x.freed ≡ true
      → y.kind ≡ Kind.Allocator → Was (slice_get m x.block) y → is_live y.life ≡ false
  lost i x y e freed kind w = ap (λ (z : MemoryBlock). is_live z.life) w.same
      ∙ frames.gone i x w.block e freed w.there (sym (ap (λ (z : MemoryBlock). z.kind) w.same) ∙ kind)

  lain : (i : ℕ) (x : Instance) (y : MemoryBlock) → slice_get instances i ≡ Some x → Was (slice_get m x.block) y
      → LiesAligned g x y
  lain i x y e w = lies_by g x w.block y (ap (λ (z : MemoryBlock). z.align) w.same)
      (ap (λ (z : MemoryBlock). z.size) w.same) (frames.lies i x w.block e w.there)

  pub laid_stay : AreLaidFrames g instances k
  laid_stay = record {
    known = λ i x e. subst (λ (c : ℕ). x.block < c) (sym (as_many m k refilled)) (frames.known i x e);
    slots = frames.slots;
    owned = λ i x y e fresh there live kind. owning i x y e fresh live kind (before x y there);
    gone = λ i x y e freed there kind. lost i x y e freed kind (before x y there);
    lies = λ i x y e there. lain i x y e (before x y there);
    closed = λ i x y at e held. frames.closed i x y at e (was_held x held);
    apart = λ i j x y at ne e f held held'. frames.apart i j x y at ne e f (was_held x held) (was_held y held');
  }

-- and their control bytes stay where what is closed to it does
pub frames_stay : (g : FramedGiven) (instances : List Instance) (m n k l : List MemoryBlock)
    → AreFrames g instances m n → AreRefilled m k → KeepsFree (frame_rights g instances) (homes_of m) m n l
    → AreFrames g instances k l
frames_stay g instances m n k l frames refilled free = record {
  laid = laid_stay g instances m k frames.laid refilled;
  headed = λ i x e held.
      let was = was_held g instances m k frames.laid refilled x held in
      headed_on g m k l x (given_refilled x (slice_get m x.block) (slice_get k x.block) (refilled.each x.block))
      (headed_held g n l x (closed_moves g instances m n l x (λ y at. frames.laid.closed i x y at e was) free)
      (frames.headed i x e was));
}
