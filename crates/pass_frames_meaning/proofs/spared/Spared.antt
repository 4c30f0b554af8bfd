-- No byte of a live slot lies in the fields of what crosses the suspend at which an instance is.
use Rattle.std.proofs.Common.{◌≡◌, inl, inr, ℕ, ◌+◌, ◌<◌, ◌≤◌, Bool, true, false, List, [], ◌∷◌, Option, Some, None, refl, sym, ap, ◌∙◌, subst, arith, ◌&&◌}
use Rattle.std.specs.List.{Contains}
use Rattle.std.specs.Prelude.{◌≢◌, option_map, slice_get}
use Rattle.std.proofs.lemmas.Bool.{false≢true}
use Rattle.std.proofs.lemmas.Option.{slice_get_within}
use Rattle.pass_frames_proof.specs.flow_solver.Paths.{IsListed}
use Rattle.pass_frames_proof.specs.frame_contents.Held.{position_of}
use Rattle.pass_frames_proof.specs.pass_cells.declared.plan.KeptValue.{KeptValue}
use Rattle.pass_frames_proof.specs.pass_fetch.Fetching.{value_bytes}
use Rattle.pass_frames_proof.specs.pass_frames.Tables.{offset_at}
use Rattle.pass_frames_meaning.specs.Spared.{AreFieldsApart, HasFieldAt, HasNoReturnsBelow}
use Rattle.pass_frames_proof.proofs.followed.Assembly.{other_instance}
use Rattle.pass_frames_proof.proofs.stepping.Stored.{muted_is}
use Rattle.pass_frames_proof.specs.Asking.{AreInstancesPlaced}
use Rattle.pass_frames_proof.specs.Places.{offsets}
use Rattle.pass_frames_proof.specs.Related.{AreBelow, AreBuiltOf, AreInstances, Building, IsKeptValue, IsOwnSlot, IsSlotBy, is_coroutine, is_slot}
use Rattle.pass_frames_proof.specs.Returning.{HasSlotsListed}
use Rattle.pass_frames_proof.specs.Slotted.{AreRangesApart, HasFrameThere, HasListedSlots, HasSlotsApart, IsSlotSomewhere, OfActivation, OfInstance}
use Rattle.pass_frames_proof.specs.Stepping.{AreFieldsSpared}
use Rattle.pass_frames_proof.specs.pass_proofs.addresses.rules.Addresses.{lies_in_frame}
use Rattle.pass_frames_proof.specs.run_framed.Framed.{layout_of}
use Rattle.pass_frames_proof.specs.run_laws.embedded.Making.{whole_home}
use Rattle.pass_frames_proof.specs.run_laws.memory.Pointers.{Home, home_of}
use Rattle.pass_frames_proof.specs.run_laws.memory.Standing.{IsOpen}
use Rattle.pass_frames_proof.specs.run_laws.transfer.Muted.{ended_if, muted}
use Rattle.pass_frames_proof.specs.run_memory.Memory.{is_below, is_live, owner_rights}
use Rattle.pass_frames_proof.specs.run_memory.declared.block.MemoryBlock.{MemoryBlock}
use Rattle.pass_frames_proof.specs.run_source.declared.state.Activation.{Activation}
use Rattle.pass_frames_proof.specs.run_source.declared.state.Instance.{Instance}
use Rattle.pass_frames_proof.specs.run_source.declared.state.State.{State}
use Rattle.pass_frames_proof.specs.run_step.declared.world.Slot.{Slot}

-- what lives where some blocks count as dead lives, and isn't one of them
pub shown_live : (hides : ℕ → Bool) (m : List MemoryBlock) (n : ℕ) (z : MemoryBlock)
    → slice_get (muted hides m) n ≡ Some z → is_live z.life ≡ true → (hides n ≡ false) × (slice_get m n ≡ Some z)
shown_live hides m n z e live = on (slice_get m n) refl (sym (muted_is hides m n) ∙ e)
  where
    on : (o : Option MemoryBlock) → slice_get m n ≡ o → option_map (ended_if (hides n)) o ≡ Some z
        → (hides n ≡ false) × (slice_get m n ≡ Some z)
    on None d f = absurd (cc)
    on (Some x) d f = by (hides n) refl
      where
        one : ended_if (hides n) x ≡ z
        one = cc

        by : (h : Bool) → hides n ≡ h → (hides n ≡ false) × (slice_get m n ≡ Some z)
        by true q =
            let dead : false ≡ true =
            ap (λ (h : Bool). is_live (ended_if h x).life) (sym q) ∙ ap (λ (k : MemoryBlock). is_live k.life) one ∙ live in
            absurd (cc)
        by false q = (q, d ∙ ap Some (ap (λ (h : Bool). ended_if h x) (sym q) ∙ one))

whole_same : (a c : ℕ) → whole_home a ≡ whole_home c → a ≡ c
whole_same a c e = ap (λ (h : Home). h.block) e

-- the framed activation beside one, with its slots
pub record IsBeside (b : Building) (s t : State) (r : AreBuiltOf b s t) (a : Activation) : Type 0 where
  pub beside : Activation
  pub listed : IsListed beside (t.top ∷ t.below)
  pub slots : (slot : Slot) → Contains a.slots slot → IsOwnSlot b r.homes r.hides a beside slot

module _ (b : Building) (s t : State) (r : AreBuiltOf b s t) where
  below_beside : (xs ys : List Activation) → AreBelow b r.homes r.hides t xs ys
      → ((c : Activation) → IsListed c ys → IsListed c t.below) → (a : Activation) → IsListed a xs → IsBeside b s t r a
  below_beside [] ys h up a l = absurd l
  below_beside (x ∷ xs) [] h up a l = absurd h
  below_beside (x ∷ xs) (y ∷ ys) h up a (inl e) = record {
    beside = y;
    listed = inr (up y (inl refl));
    slots = λ slot c. subst (λ (z : Activation). IsOwnSlot b r.homes r.hides z y slot) (sym e)
        (h.0.slots slot (subst (λ (z : Activation). Contains z.slots slot) e c));
  }
  below_beside (x ∷ xs) (y ∷ ys) h up a (inr l) = below_beside xs ys h.1 (λ c k. up c (inr k)) a l

  pub beside : (a : Activation) → IsListed a (s.top ∷ s.below) → IsBeside b s t r a
  beside a (inl e) = record {
    beside = t.top;
    listed = inl refl;
    slots = λ slot c. subst (λ (z : Activation). IsOwnSlot b r.homes r.hides z t.top slot) (sym e)
        (r.top.slots slot (subst (λ (z : Activation). Contains z.slots slot) e c));
  }
  beside a (inr l) = below_beside s.below t.below r.below (λ c k. k) a l

  module _ (live : HasListedSlots s) (listed : HasSlotsListed s) (apart : HasSlotsApart t)
      (placed : AreInstancesPlaced s) where
    -- no slot of an activation that shows stands in the block of a frame
    outside : (a : Activation) → IsListed a (s.top ∷ s.below) → (slot : Slot) → Contains a.slots slot
        → r.hides slot.block ≡ false → (i : ℕ) (y : Instance) → slice_get t.instances i ≡ Some y
        → (home_of r.homes slot.block).block ≡ y.block → ⊥
    outside a l slot c shown i y there at =
        let z = beside a l in
        by z (is_coroutine b a.func && lies_in_frame (offsets (b.framing a.func)) slot.alloca) (z.slots slot c)
      where
        by : (z : IsBeside b s t r a) (q : Bool) → IsSlotBy b r.homes r.hides a z.beside slot q → ⊥
        by z true (inl h) = false≢true (sym shown ∙ h.0)
        by z true (inr h) = apart.each z.beside z.listed (record { alloca = h.0.temporary; block = h.1 }) h.4 i y there
            (sym at ∙ ap (λ (k : Home). k.block) h.5)
        by z false h = apart.each z.beside z.listed (record { alloca = slot.alloca; block = h.block }) h.own i y there
            (sym at ∙ ap (λ (k : Home). k.block) h.home)

    -- the instance whose frame lies in the block
    pub same_frame : (i j : ℕ) (x z : Instance) (y u : Instance) → slice_get s.instances i ≡ Some x
        → slice_get s.instances j ≡ Some z → AreInstances b r.homes t x y → AreInstances b r.homes t z u
        → y.block ≡ u.block → i ≡ j
    same_frame i j x z y u e d f g same =
        let one = listed.frames i x e in
        let two = listed.frames j z d in
        placed.apart i j x z e d
        (r.mates.alone x.block z.block u.block
        (slice_get_within s.world.memory x.block one.0 one.1)
        (slice_get_within s.world.memory z.block two.0 two.1)
        (f.block ∙ ap whole_home same) g.block)

    -- a range of the frame that lies apart from live slots of the instance
    module _ (i : ℕ) (x y : Instance) (there : slice_get s.instances i ≡ Some x) (inst : AreInstances b r.homes t x y)
        (frame : HasFrameThere b s x) (offset size : ℕ)
        (inside : offset + size ≤ (layout_of b.given.layouts x.coroutine).size)
        (spares : (slot : Slot) (z : MemoryBlock) (place : ℕ) → Contains x.slots slot
        → slice_get s.world.memory slot.block ≡ Some z → is_live z.life ≡ true
        → position_of (b.framing x.coroutine).contents.held slot.alloca ≡ Some place
        → AreRangesApart (offset_at (b.framing x.coroutine).layout place) z.size offset size) (q : ℕ) (low : q < size)
      where
        abbrev At : ℕ
        At = y.start + offset + q

        -- the block of the frame is owned there
        in_frame : (n j : ℕ) (z : MemoryBlock) → slice_get s.world.memory n ≡ Some z → is_slot z ≡ false
            → IsOpen owner_rights n z j → (home_of r.homes n).block ≡ y.block → (home_of r.homes n).offset + j ≢ At
        in_frame n j z e other opened at hit =
            let home = r.mates.whole n z e other in
            let same : home.0 ≡ y.block = ap (λ (h : Home). h.block) (sym home.1) ∙ at in
            let one = listed.frames i x there in
            let own : n ≡ x.block =
            r.mates.alone n x.block y.block (slice_get_within s.world.memory n z e)
            (slice_get_within s.world.memory x.block one.0 one.1) (home.1 ∙ ap whole_home same) inst.block in
            let block : z ≡ frame.block = same_some z frame.block (sym e ∙ ap (slice_get s.world.memory) own ∙ frame.there) in
            let past : x.start + (layout_of b.given.layouts x.coroutine).size ≤ j =
            frame.owned j (ap (λ (u : MemoryBlock). is_below j u.owned) (sym block) ∙ opened) in
            let zero : (home_of r.homes n).offset ≡ 0 = ap (λ (h : Home). h.offset) home.1 in
            far (home_of r.homes n).offset j y.start x.start offset q size (layout_of b.given.layouts x.coroutine).size zero
            inst.start past inside low hit
          where
            same_some : (a c : MemoryBlock) → Some a ≡ Some c → a ≡ c
            same_some a c e = cc

            far : (h j m n o q w z : ℕ) → h ≡ 0 → m ≡ n → n + z ≤ j → o + w ≤ z → q < w → h + j ≡ m + o + q → ⊥
            far h j m n o q w z e f g d l u = omega (arith, e, f, g, d, l, u)

        -- a slot of an instance in that block is one of this instance
        in_slots : (n j : ℕ) (z : MemoryBlock) → slice_get s.world.memory n ≡ Some z → is_live z.life ≡ true → j < z.size
            → (home_of r.homes n).block ≡ y.block → (l : ℕ) (u : Instance) → slice_get s.instances l ≡ Some u
            → (slot : Slot) → Contains u.slots slot → slot.block ≡ n → (home_of r.homes n).offset + j ≢ At
        in_slots n j z e lives less at l u d slot c same hit =
            let w = other_instance b s t r l u d in
            let home = w.2.slots slot c in
            let here : (home_of r.homes n)
            ≡ record {
              block = w.0.block;
              offset = w.0.start + offset_at (b.framing u.coroutine).layout home.position;
              is_seen = true;
            } = ap (home_of r.homes) (sym same) ∙ home.home in
            let block : w.0.block ≡ y.block = ap (λ (h : Home). h.block) (sym here) ∙ at in
            let number_is : l ≡ i = same_frame l i u x w.0 y d there w.2 inst block in
            let one : u ≡ x = same_some u x (sym d ∙ ap (slice_get s.instances) number_is ∙ there) in
            let mine : Contains x.slots slot = subst (λ (a : Instance). Contains a.slots slot) one c in
            let position_is : position_of (b.framing x.coroutine).contents.held slot.alloca ≡ Some home.position =
            subst (λ (a : Instance). position_of (b.framing a.coroutine).contents.held slot.alloca ≡ Some home.position)
            one home.position_is in
            let apart = spares slot z home.position mine (ap (slice_get s.world.memory) same ∙ e) lives position_is j q less
            low in
            let offset_is : (home_of r.homes n).offset
            ≡ w.0.start + offset_at (b.framing u.coroutine).layout home.position = ap (λ (h : Home). h.offset) here in
            let moved : offset_at (b.framing u.coroutine).layout home.position
            ≡ offset_at (b.framing x.coroutine).layout home.position =
            ap (λ (a : Instance). offset_at (b.framing a.coroutine).layout home.position) one in
            let starts : w.0.start ≡ y.start = w.2.start ∙ ap (λ (a : Instance). a.start) one ∙ sym inst.start in
            apart (meets (home_of r.homes n).offset w.0.start (offset_at (b.framing u.coroutine).layout home.position)
            (offset_at (b.framing x.coroutine).layout home.position) j y.start offset q offset_is moved starts hit)
          where
            same_some : (a c : Instance) → Some a ≡ Some c → a ≡ c
            same_some a c e = cc

            meets : (h m o p j n f q : ℕ) → h ≡ m + o → o ≡ p → m ≡ n → h + j ≡ n + f + q → p + j ≡ f + q
            meets h m o p j n f q e d g u = omega (arith, e, d, g, u)

        -- any live block
        pub free : (n j : ℕ) (z : MemoryBlock) → slice_get (muted r.hides s.world.memory) n ≡ Some z → is_live z.life ≡ true
            → j < z.size → IsOpen owner_rights n z j → (home_of r.homes n).block ≡ y.block
            → (home_of r.homes n).offset + j ≢ At
        free n j z e lives less opened at = by (is_slot z) refl
          where
            shown : (r.hides n ≡ false) × (slice_get s.world.memory n ≡ Some z)
            shown = shown_live r.hides s.world.memory n z e lives

            somewhere : IsSlotSomewhere s n → (home_of r.homes n).offset + j ≢ At
            somewhere (OfActivation a l slot c same) =
                let w = other_instance b s t r i x there in
                let block : w.0.block ≡ y.block = whole_same w.0.block y.block (sym w.2.block ∙ inst.block) in
                absurd (outside a l slot c (ap r.hides same ∙ shown.0) i w.0 w.1
                (ap (λ (m : ℕ). (home_of r.homes m).block) same ∙ at ∙ sym block))
            somewhere (OfInstance l u d slot c same) = in_slots n j z shown.1 lives less at l u d slot c same

            by : (w : Bool) → is_slot z ≡ w → (home_of r.homes n).offset + j ≢ At
            by true d = somewhere (live.each n z shown.1 lives d)
            by false d = in_frame n j z shown.1 d opened at

pub fields_spared : (b : Building) (s t : State) (r : AreBuiltOf b s t) → HasListedSlots s → HasSlotsListed s
    → HasSlotsApart t → AreInstancesPlaced s → AreFieldsApart b s → HasNoReturnsBelow b s → AreFieldsSpared b s t r
fields_spared b s t r live listed apart placed fields below = record {
  fields = λ i x y there inst unfreed p env status j number v position k kept crosses held q low. record {
    each = free b s t r live listed apart placed i x y there inst (fields.frames i x there unfreed p env status)
        (offset_at (b.framing x.coroutine).layout position) (value_bytes k.field_ty)
        (fields.inside x.coroutine j v position k inst.is_coroutine (field x j v position k kept crosses held))
        (fields.apart i x there unfreed p env status j v position k number (field x j v position k kept crosses held)) q low;
  };
  below = below;
}
  where
    field : (x : Instance) (j v position : ℕ) (k : KeptValue) → IsKeptValue (b.framing x.coroutine) v k
        → Contains (b.framing x.coroutine).contents.crossing (v, j)
        → position_of (b.framing x.coroutine).contents.held v ≡ Some position
        → HasFieldAt b x.coroutine j v position k
    field x j v position k kept crosses held = record { kept = kept; crosses = crosses; placed = held }
