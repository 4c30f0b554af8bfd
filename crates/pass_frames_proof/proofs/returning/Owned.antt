-- By what each run has of slots nothing of the source stands in a slot of the framed activation on top but its own.
use Rattle.std.proofs.Common.{◌≡◌, ◌⊎◌, inl, inr, ⊎_elim, ℕ, Bool, true, false, List, [], ◌∷◌, refl, sym, ap, ◌∙◌, subst}
use Rattle.std.specs.List.{Contains}
use Rattle.std.specs.Prelude.{None, Option, Some, map, option_map, slice_get, ◌&&◌, ◌||◌}
use Rattle.std.proofs.lemmas.List.{map-append}
use Rattle.pass_frames_steps.specs.flow_solver.Paths.{IsListed}
use Rattle.pass_frames_steps.proofs.ir_laws.paths.edges.Lists.{different_both}
use Rattle.pass_frames_steps.specs.ir_laws.paths.woven_rules.Pairs.{AreDifferent}
use Rattle.pass_frames_steps.proofs.followed.Assembly.{other_instance}
use Rattle.pass_frames_proof.proofs.returning.Deaths.{slot_among}
use Rattle.pass_frames_steps.proofs.stepping.Rest.{got, more_below, one_below as in_first, slot_block}
use Rattle.pass_frames_steps.proofs.stepping.Stored.{muted_is}
use Rattle.pass_frames_steps.specs.Places.{offsets}
use Rattle.pass_frames_steps.specs.Related.{AreBelow, AreBuiltOf, AreInstances, Building, IsOwnSlot, IsSlotBy, is_coroutine, is_slot, slots_below}
use Rattle.pass_frames_steps.specs.Returning.{HasOwnSlots, HasSlotKinds, HasSlotsListed, IsAmong, OwnsSlots, is_own_kind}
use Rattle.pass_frames_steps.specs.pass_proofs.addresses.rules.Addresses.{lies_in_frame}
use Rattle.pass_frames_steps.specs.run_laws.embedded.Making.{whole_home}
use Rattle.pass_frames_steps.specs.run_laws.memory.Pointers.{Home, home_of}
use Rattle.pass_frames_steps.specs.run_laws.transfer.Muted.{ended_if, muted}
use Rattle.pass_frames_steps.specs.run_memory.Memory.{is_killed, is_live, same_kind}
use Rattle.pass_frames_steps.specs.run_memory.declared.block.Kind.{Kind}
use Rattle.pass_frames_steps.specs.run_memory.declared.block.Life.{Life}
use Rattle.pass_frames_steps.specs.run_memory.declared.block.MemoryBlock.{MemoryBlock}
use Rattle.pass_frames_steps.specs.run_source.declared.state.Activation.{Activation}
use Rattle.pass_frames_steps.specs.run_source.declared.state.Instance.{Instance}
use Rattle.pass_frames_steps.specs.run_source.declared.state.State.{State}
use Rattle.pass_frames_steps.specs.run_step.declared.world.Slot.{Slot}

first_block : (c : Activation) (cs : List Activation) (k : ℕ) → IsAmong k c.slots
    → IsListed k (map (λ (slot : Slot). slot.block) (slots_below (c ∷ cs)))
first_block c cs k among =
    let z = slot_among k c.slots among in
    subst (λ (n : ℕ). IsListed n (map (λ (slot : Slot). slot.block) (slots_below (c ∷ cs)))) z.2
    (in_first c cs z.0 z.1)

live_unkilled : (z : Life) → is_live z ≡ true → is_killed z ≡ false
live_unkilled Life.Live e = refl
live_unkilled Life.Ended e = absurd (cc)
live_unkilled Life.Killed e = absurd (cc)

-- no kind of an alloca's block is the kind of a slot
not_slot : (a c : Bool) → (a || c) ≡ false → a ≡ false
not_slot true c e = absurd (cc)
not_slot false c e = refl

-- what lives where blocks count as dead lives, and isn't one of them
shown_live : (hides : ℕ → Bool) (m : List MemoryBlock) (n : ℕ) (z : MemoryBlock)
    → slice_get (muted hides m) n ≡ Some z → is_live z.life ≡ true → (hides n ≡ false) × (slice_get m n ≡ Some z)
shown_live hides m n z e live = on (slice_get m n) refl (sym (muted_is hides m n) ∙ e)
  where
    on : (o : Option MemoryBlock) → slice_get m n ≡ o → option_map (ended_if (hides n)) o ≡ Some z
        → (hides n ≡ false) × (slice_get m n ≡ Some z)
    on None d f = absurd (cc)
    on (Some x) d f = by (hides n) refl
      where
        one : ended_if (hides n) x ≡ z
        one = cc

        by : (h : Bool) → hides n ≡ h → (hides n ≡ false) × (slice_get m n ≡ Some z)
        by true q =
            let dead : false ≡ true =
            ap (λ (h : Bool). is_live (ended_if h x).life) (sym q) ∙ ap (λ (k : MemoryBlock). is_live k.life) one ∙ live in
            absurd (cc)
        by false q = (q, d ∙ ap Some (ap (λ (h : Bool). ended_if h x) (sym q) ∙ one))

module _ (b : Building) (s t : State) (r : AreBuiltOf b s t) (listed : HasSlotsListed s) (own : HasSlotKinds s)
    (target : HasOwnSlots t) where
  -- ---- a slot of the source that stands in a slot of the framed activation on top

  -- it has a slot of its activation there
  abbrev HasBlock : Activation → ℕ → Type 0
  HasBlock c k = IsAmong k c.slots

  one_placed : (a c : Activation) (n k : ℕ) → ((slot : Slot) → Contains a.slots slot → IsOwnSlot b r.homes r.hides a c slot)
      → IsAmong n a.slots → (home_of r.homes n).block ≡ k
      → ((home_of r.homes n).is_seen ≡ true) ⊎ (r.hides n ≡ false) → HasBlock c k
  one_placed a c n k slots among at about =
      let z = slot_among n a.slots among in
      by z.0 z.2 (is_coroutine b a.func && lies_in_frame (offsets (b.framing a.func)) z.0.alloca) (slots z.0 z.1)
    where
      by : (slot : Slot) → slot.block ≡ n → (f : Bool) → IsSlotBy b r.homes r.hides a c slot f → HasBlock c k
      by slot e false q =
          let same : q.block ≡ k = sym (ap (λ (h : Home). h.block) q.home) ∙ ap (λ (j : ℕ). (home_of r.homes j).block) e
          ∙ at in
          subst (HasBlock c) same (slot_block c.slots (record { alloca = slot.alloca; block = q.block }) q.own)
      by slot e true (inl h) = absurd (hidden about)
        where
          hidden_there : r.hides n ≡ true
          hidden_there = ap r.hides (sym e) ∙ h.0

          hidden : ((home_of r.homes n).is_seen ≡ true) ⊎ (r.hides n ≡ false) → ⊥
          hidden (inl seen) = let no : false ≡ true = sym (r.hidden n hidden_there) ∙ seen in absurd (cc)
          hidden (inr shown) = let no : false ≡ true = sym shown ∙ hidden_there in absurd (cc)
      by slot e true (inr q) =
          let same : q.1 ≡ k = sym (ap (λ (h : Home). h.block) q.5) ∙ ap (λ (j : ℕ). (home_of r.homes j).block) e ∙ at in
          subst (HasBlock c) same (slot_block c.slots (record { alloca = q.0.temporary; block = q.1 }) q.4)

  one_below : (ups cs : List Activation) → AreBelow b r.homes r.hides t ups cs → (a : Activation) → IsListed a ups
      → (n k : ℕ) → IsAmong n a.slots → (home_of r.homes n).block ≡ k
      → ((home_of r.homes n).is_seen ≡ true) ⊎ (r.hides n ≡ false)
      → IsListed k (map (λ (slot : Slot). slot.block) (slots_below cs))
  one_below [] cs h a l n k among at about = absurd l
  one_below (p ∷ ps) [] h a l n k among at about = absurd h
  one_below (p ∷ ps) (q ∷ qs) h a (inl e) n k among at about =
      first_block q qs k
      (one_placed p q n k h.0.slots (subst (λ (z : Activation). IsAmong n z.slots) e among) at about)
  one_below (p ∷ ps) (q ∷ qs) h a (inr l) n k among at about =
      more_below q qs k (one_below ps qs h.1 a l n k among at about)

  -- a frame is none
  not_frame : (j : ℕ) (p : Instance) → slice_get s.instances j ≡ Some p → (y : Instance) → AreInstances b r.homes t p y
      → (slot : Slot) → Contains t.top.slots slot → y.block ≡ slot.block → ⊥
  not_frame j p e y h slot c same =
      let f = listed.frames j p e in
      let mate = r.mates.each p.block y.block f.0 f.1 h.block in
      let k = target.each slot c in
      let both : Some (record f.0 { bytes = mate.0 }) ≡ Some k.0 =
      sym mate.1 ∙ ap (slice_get t.world.memory) same ∙ k.1 in
      let one : record f.0 { bytes = mate.0 } ≡ k.0 = cc in
      let no : false ≡ true = sym f.2 ∙ ap is_own_kind one ∙ k.2 in
      absurd (cc)

  -- so it is one of the activation on top
  is_own : (slot : Slot) → Contains t.top.slots slot → (n : ℕ) (z : MemoryBlock) → slice_get s.world.memory n ≡ Some z
      → is_killed z.life ≡ false → is_own_kind z ≡ true → (home_of r.homes n).block ≡ slot.block
      → ((home_of r.homes n).is_seen ≡ true) ⊎ (r.hides n ≡ false) → IsAmong n s.top.slots
  is_own slot c n z e unkilled kind at about = ⊎_elim of_activation of_instance (listed.listed n z e unkilled kind)
    where
      here : IsAmong slot.block t.top.slots
      here = slot_block t.top.slots slot c

      of_activation : (a : Activation) × IsListed a (s.top ∷ s.below) × IsAmong n a.slots → IsAmong n s.top.slots
      of_activation k = by k.1
        where
          by : IsListed k.0 (s.top ∷ s.below) → IsAmong n s.top.slots
          by (inl same) = subst (λ (q : Activation). IsAmong n q.slots) same k.2
          by (inr l) =
              absurd (different_both (map (λ (q : Slot). q.block) t.top.slots)
              (map (λ (q : Slot). q.block) (slots_below t.below)) slot.block
              (subst AreDifferent (map-append (λ (q : Slot). q.block) t.top.slots (slots_below t.below)) r.once) here
              (one_below s.below t.below r.below k.0 l n slot.block k.2 at about))

      of_instance : (j : ℕ) × (p : Instance) × (slice_get s.instances j ≡ Some p) × IsAmong n p.slots
          → IsAmong n s.top.slots
      of_instance k =
          let y = other_instance b s t r k.0 k.1 k.2 in
          let q = slot_among n k.1.slots k.3 in
          let placed = y.2.slots q.0 q.1 in
          absurd (not_frame k.0 k.1 k.2 y.0 y.2 slot c
          (sym (ap (λ (h : Home). h.block) placed.home)
          ∙ ap (λ (i : ℕ). (home_of r.homes i).block) q.2 ∙ at))

  -- a block of another kind stands whole in one of its kind
  not_other : (slot : Slot) → Contains t.top.slots slot → (n k : ℕ) (z : MemoryBlock)
      → slice_get s.world.memory n ≡ Some z → home_of r.homes n ≡ whole_home k → k ≡ slot.block
      → (is_own_kind z ≡ true) × (is_killed z.life ≡ false)
  not_other slot c n k z e home same =
      let mate = r.mates.each n k z e home in
      let q = target.each slot c in
      let both : Some (record z { bytes = mate.0 }) ≡ Some q.0 =
      sym mate.1 ∙ ap (slice_get t.world.memory) same ∙ q.1 in
      let one : record z { bytes = mate.0 } ≡ q.0 = cc in
      (ap is_own_kind one ∙ q.2, ap (λ (y : MemoryBlock). is_killed y.life) one ∙ q.3)

  live_own : (slot : Slot) → Contains t.top.slots slot → (n : ℕ) (z : MemoryBlock)
      → slice_get (muted r.hides s.world.memory) n ≡ Some z → is_live z.life ≡ true
      → (home_of r.homes n).block ≡ slot.block → IsAmong n s.top.slots
  live_own slot c n z e live at =
      let k = shown_live r.hides s.world.memory n z e live in
      is_own slot c n z k.1 (live_unkilled z.life live) (kind k.1 (is_own_kind z) refl) at (inr k.0)
    where
      kind : slice_get s.world.memory n ≡ Some z → (d : Bool) → is_own_kind z ≡ d → is_own_kind z ≡ true
      kind there true q = q
      kind there false q =
          let whole = r.mates.whole n z there (not_slot (is_slot z) (same_kind z.kind Kind.Stack) q) in
          (not_other slot c n whole.0 z there whole.1
          (sym (ap (λ (h : Home). h.block) whole.1) ∙ at)).0

  pub slots_owned : OwnsSlots b s t r
  slots_owned = record {
    live = live_own;
    whole = λ slot c n lt home.
        let z = got s.world.memory n lt in
        let k = not_other slot c n slot.block z.0 z.1 home refl in
        is_own slot c n z.0 z.1 k.1 k.0 (ap (λ (h : Home). h.block) home) (inl (ap (λ (h : Home). h.is_seen) home));
    frames = λ j p e among.
        let f = listed.frames j p e in
        let slot = slot_among p.block s.top.slots among in
        let k = own.each slot.0 slot.1 in
        let both : Some f.0 ≡ Some k.0 = sym f.1 ∙ ap (slice_get s.world.memory) (sym slot.2) ∙ k.1 in
        let one : f.0 ≡ k.0 = cc in
        let no : false ≡ true = sym f.2 ∙ ap is_own_kind one ∙ k.2 in
        absurd (cc);
  }
