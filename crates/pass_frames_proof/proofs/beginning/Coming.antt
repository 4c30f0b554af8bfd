-- Slots that come to stand in the frame: hidden ones, and those that stand in their temporaries, whose bytes were copied.
use Rattle.std.proofs.Common.{◌≡◌, ◌≢◌, ◌+◌, ◌<◌, ◌≤◌, ◌==◌, ◌||◌, ◌∷◌, ◌∙◌, [], Bool, List, Option, Some, ap, arith, false, inl, inr, length, map, not, refl, subst, sym, true, ℕ}
use Rattle.std.proofs.lemmas.List.{map-append}
use Rattle.std.specs.List.{Contains}
use Rattle.std.specs.Prelude.{filter, slice_get, unwrap_or}
use Rattle.pass_frames_steps.specs.flow_solver.Paths.{IsListed}
use Rattle.pass_frames_steps.specs.frame_contents.Held.{position_of}
use Rattle.pass_frames_steps.proofs.ir_laws.paths.edges.Lists.{different_left}
use Rattle.pass_frames_steps.specs.ir_laws.paths.woven_rules.Pairs.{AreDifferent}
use Rattle.pass_frames_steps.specs.pass_copies.declared.slot.EarlySlot.{EarlySlot}
use Rattle.pass_frames_steps.specs.pass_frames.Tables.{offset_at}
use Rattle.pass_frames_steps.proofs.allocating.Grown.{in_all, listed_in}
use Rattle.pass_frames_proof.proofs.beginning.AllCopied.{IsCopiedThere}
use Rattle.pass_frames_proof.proofs.beginning.Copied.{early, leads_there, unplaced_slot}
use Rattle.pass_frames_proof.proofs.beginning.Frame.{C, IsOwner, n1, owner_from, owner_start}
use Rattle.pass_frames_proof.proofs.beginning.Given.{Begins}
use Rattle.pass_frames_proof.proofs.beginning.Places.{B, M, N, Q, X, block_in, different_filter, in_filter, seen, slot_apart, size, z}
use Rattle.pass_frames_proof.proofs.beginning.Ranges.{held_byte}
use Rattle.pass_frames_proof.proofs.early.Placed.{cells_apart}
use Rattle.pass_frames_steps.proofs.lines.Cells.{contained, other_block}
use Rattle.pass_frames_steps.proofs.stepping.May.{own_blocks}
use Rattle.pass_frames_steps.specs.Beginning.{IsAtBegin, IsSlotAtBegin, is_in_frame}
use Rattle.pass_frames_steps.specs.Places.{Framing}
use Rattle.pass_frames_steps.specs.Related.{AreBuiltOf, Building, IsUnplacedSlot, slots_below}
use Rattle.pass_frames_steps.specs.Slotted.{IsSlotField}
use Rattle.pass_frames_steps.specs.pass_renewed_proof.Renewed.{RenewedGiven}
use Rattle.pass_frames_steps.specs.run_framed.Framed.{layout_of}
use Rattle.pass_frames_steps.proofs.run_laws.memory.Written.{changed_elsewhere, same_some}
use Rattle.pass_frames_steps.specs.run_laws.changed.Changed.{Each}
use Rattle.pass_frames_steps.specs.run_laws.memory.Pointers.{Home, home_of}
use Rattle.pass_frames_steps.specs.run_laws.memory.Standing.{AreApart, byte_of}
use Rattle.pass_frames_steps.specs.run_laws.transfer.Ready.{ArePlacesApart, AreTwoPlaces, Place, home_at}
use Rattle.pass_frames_steps.specs.run_memory.Memory.{is_below, is_live, owned_to, owner_rights}
use Rattle.pass_frames_steps.specs.run_memory.declared.block.MemoryBlock.{MemoryBlock}
use Rattle.pass_frames_steps.specs.run_source.declared.state.State.{State}
use Rattle.pass_frames_steps.specs.run_step.Values.{pointer_to}
use Rattle.pass_frames_steps.specs.run_step.declared.world.Slot.{Slot}

pub each_of : {A C : Type 0} (f : A → C) (P : C → Type 0) (zs : List A) → ((z : A) → IsListed z zs → P (f z))
    → Each P (map f zs)
each_of f P [] h = tt
each_of f P (z ∷ zs) h = (h z (inl refl), each_of f P zs (λ y l. h y (inr l)))

module _ (facts : Begins) where
  abbrev b : Building
  b = facts.b

  abbrev g : RenewedGiven
  g = facts.g

  abbrev s : State
  s = facts.s

  abbrev t : State
  t = facts.t

  abbrev r : AreBuiltOf b s t
  r = facts.r

  abbrev block : ℕ
  block = facts.block

  abbrev h : IsAtBegin b g s facts.result facts.must_tail facts.ty facts.id facts.typed facts.memory block
  h = facts.h

  abbrev x : Framing
  x = X facts

  abbrev k : ℕ
  k = B facts

  abbrev pub d_of : Slot → ℕ
  d_of slot = offset_at x.layout (unwrap_or (position_of x.contents.held slot.alloca) 0)

  abbrev pub place_of : Slot → Place
  place_of slot = record { block = slot.block; target = k; offset = 0 + d_of slot }

  abbrev pub zs : List Slot
  zs = filter (is_in_frame x) s.top.slots

  -- of a slot of the frame
  pub record IsComingSlot (slot : Slot) : Type 0 where
    pub own : Contains s.top.slots slot
    pub inside : is_in_frame x slot ≡ true
    pub way : IsUnplacedSlot x r.homes r.hides t.top slot
    pub unseen : (home_of r.homes slot.block).is_seen ≡ false
    pub at : IsSlotAtBegin b s slot
    pub other : slot.block ≢ block
    pub low : slot.block < length r.homes
    pub d : d_of slot ≡ offset_at x.layout at.position

  pub coming : (slot : Slot) → IsListed slot zs → IsComingSlot slot
  coming slot l =
      let q = in_filter (is_in_frame x) s.top.slots slot l in
      let own' : Contains s.top.slots slot = listed_in s.top.slots slot q.0 in
      let way = unplaced_slot facts slot own' q.1 in
      let a = h.slots slot own' q.1 in
      record {
        own = own';
        inside = q.1;
        way = way;
        unseen = unseen_by way;
        at = a;
        other = λ e. apart_of (unseen_by way) e;
        low = let lt : slot.block < length s.world.memory = facts.mine.each slot (in_all s s.top (inl refl) slot own') in
            let many : length r.homes ≡ length s.world.memory = r.known in
            omega (arith, lt, many);
        d = ap (λ (o : Option ℕ). offset_at x.layout (unwrap_or o 0)) a.held;
      }
    where
      unseen_by : IsUnplacedSlot x r.homes r.hides t.top slot → (home_of r.homes slot.block).is_seen ≡ false
      unseen_by (inl q) = r.hidden slot.block q.0
      unseen_by (inr q) = ap (λ (p : Home). p.is_seen) q.5

      apart_of : (home_of r.homes slot.block).is_seen ≡ false → slot.block ≡ block → ⊥
      apart_of e same =
          let no : false ≡ true = sym e ∙ ap (λ (n : ℕ). (home_of r.homes n).is_seen) same ∙ seen facts in cc

  module _ (slot : Slot) (c : IsComingSlot slot) where
    pub there_was : (v : MemoryBlock) → slice_get (M facts) slot.block ≡ Some v
        → slice_get s.world.memory slot.block ≡ Some v
    there_was v e = sym (changed_elsewhere s.world.memory block slot.block (owned_to (size facts)) c.other) ∙ e

    pub field_at : (v : MemoryBlock) → slice_get (M facts) slot.block ≡ Some v
        → IsSlotField (layout_of b.given.layouts s.top.func) (d_of slot) v.size v.align
    field_at v e =
        subst (λ (d : ℕ). IsSlotField (layout_of b.given.layouts s.top.func) d v.size v.align) (sym c.d)
        (c.at.field v (there_was v e))

    -- apart from the block itself, whose first bytes are owned
    pub owner_apart : (n : ℕ) (u v : MemoryBlock) → IsOwner facts n u → slice_get (M facts) slot.block ≡ Some v
        → AreApart owner_rights (home_of r.homes n) (home_at (place_of slot)) n slot.block u v
    owner_apart n u v o e = record {
      bytes = λ i j lt lt' opens opens' clash. far i j (owner_from facts n u o i opens) lt' clash;
      places = λ i j lt lt' compares compares' clash. by i j lt' (i == 0) refl (is_below i u.owned) refl compares clash;
    }
      where
        far : (i j : ℕ) → size facts ≤ i → j < v.size → (home_of r.homes n).offset + i ≡ (0 + d_of slot) + j → ⊥
        far i j le lt clash =
            let f = (field_at v e).inside in
            let l = h.laid in
            let start = owner_start facts n u o in
            omega (arith, f, l, start, le, lt, clash)

        near : (i j : ℕ) → i ≡ 0 → (home_of r.homes n).offset + i ≡ (0 + d_of slot) + j → ⊥
        near i j first clash =
            let f = (field_at v e).behind in
            let start = owner_start facts n u o in
            omega (arith, f, start, first, clash)

        is_zero : (i : ℕ) → (i == 0) ≡ true → i ≡ 0
        is_zero i e = grind arith

        by : (i j : ℕ) → j < v.size → (a : Bool) → (i == 0) ≡ a → (q : Bool) → is_below i u.owned ≡ q
            → ((i == 0) || not (is_below i u.owned)) ≡ true
            → (home_of r.homes n).offset + i ≡ (0 + d_of slot) + j → ⊥
        by i j lt true a q q' compares clash = near i j (is_zero i a) clash
        by i j lt false a false q' compares clash = far i j (owner_from facts n u o i q') lt clash
        by i j lt false a true q' compares clash =
            let no : false ≡ true = sym (λ m. a m || not (q' m)) ∙ compares in cc

  -- two of them
  pub two : (one other : Slot) → IsComingSlot one → IsComingSlot other → other.block ≢ one.block
      → AreTwoPlaces owner_rights (M facts) (place_of one) (place_of other)
  two one other c l ne = record {
    blocks = ne;
    homes = λ u v e f live live' same. record {
      bytes = λ i j lt lt' opens opens' clash. apart u v e f live live' i j lt lt' clash;
      places = λ i j lt lt' compares compares' clash. apart u v e f live live' i j lt lt' clash;
    };
  }
    where
      apart : (u v : MemoryBlock) → slice_get (M facts) one.block ≡ Some u → slice_get (M facts) other.block ≡ Some v
          → is_live u.life ≡ true → is_live v.life ≡ true → (i j : ℕ) → i < u.size → j < v.size
          → (0 + d_of one) + i ≡ (0 + d_of other) + j → ⊥
      apart u v e f live live' i j lt lt' clash =
          h.apart one other c.own l.own c.inside l.inside (λ same. ne (sym same)) u v (there_was one c u e)
          (there_was other l v f) live live' c.at.position l.at.position c.at.held l.at.held i j lt lt'
          (less (d_of one) (d_of other) (offset_at x.layout c.at.position) (offset_at x.layout l.at.position) i j c.d l.d
          clash)
        where
          less : (a c p q i j : ℕ) → a ≡ p → c ≡ q → (0 + a) + i ≡ (0 + c) + j → p + i ≡ q + j
          less a c p q i j e f g = omega (arith, e, f, g)

  all_two : (ws : List Slot) → ((slot : Slot) → IsListed slot ws → IsComingSlot slot)
      → AreDifferent (map (λ (slot : Slot). slot.block) ws)
      → ArePlacesApart owner_rights (M facts) (map place_of ws)
  all_two [] all d = tt
  all_two (w ∷ ws) all d = (
    each_of place_of (AreTwoPlaces owner_rights (M facts) (place_of w)) ws
        (λ slot l. two w slot (all w (inl refl)) (all slot (inr l))
        (λ e. d.0 (subst (λ (n : ℕ). IsListed n (map (λ (slot : Slot). slot.block) ws)) e (block_in ws slot l)))),
    all_two ws (λ slot l. all slot (inr l)) d.1,
  )

  top_different : AreDifferent (map (λ (slot : Slot). slot.block) s.top.slots)
  top_different =
      different_left (map (λ (slot : Slot). slot.block) s.top.slots)
      (map (λ (slot : Slot). slot.block) (slots_below s.below))
      (subst AreDifferent (map-append (λ (slot : Slot). slot.block) s.top.slots (slots_below s.below)) h.once)

  pub zs_different : AreDifferent (map (λ (slot : Slot). slot.block) zs)
  zs_different = different_filter (is_in_frame x) s.top.slots top_different

  pub places_apart : ArePlacesApart owner_rights (M facts) (map place_of zs)
  places_apart = all_two zs coming zs_different

  -- ---- a slot that was copied

  pub record WasCopied (slot : Slot) : Type 0 where
    pub early_slot : EarlySlot
    pub listed : IsListed early_slot (early facts)
    pub copied : IsCopiedThere facts early_slot (C facts).work
    pub is : early_slot.slot ≡ slot.alloca
    pub home : home_of r.homes slot.block ≡ record { block = copied.place.temporary; offset = 0; is_seen = false }
    pub offset : 0 + copied.place.place.offset ≡ 0 + d_of slot

  same_pointer : (m n : ℕ) → pointer_to m ≡ pointer_to n → m ≡ n
  same_pointer m n e = cc

  pub was_copied : (slot : Slot) → IsComingSlot slot → r.hides slot.block ≡ false → WasCopied slot
  was_copied slot c shown' = by c.way
    where
      by : IsUnplacedSlot x r.homes r.hides t.top slot → WasCopied slot
      by (inl q) = let no : true ≡ false = sym q.0 ∙ shown' in absurd (cc)
      by (inr q) = record {
        early_slot = q.0;
        listed = l;
        copied = p;
        is = q.3;
        home = q.5 ∙ ap (λ (n : ℕ). record { block = n; offset = 0; is_seen = false }) same;
        offset = ap (λ (n : ℕ). 0 + n) (p.place.place.same ∙ ap (offset_at x.layout) position ∙ sym c.d);
      }
        where
          l : IsListed q.0 (early facts)
          l = contained (early facts) q.0 q.2

          p : IsCopiedThere facts q.0 (C facts).work
          p = (C facts).each q.0 l

          same : q.1 ≡ p.place.temporary
          same =
              same_pointer q.1 p.place.temporary
              (sym (leads_there facts q.0 q.1 q.4) ∙ leads_there facts q.0 p.place.temporary p.may.own)

          position : p.place.place.position ≡ c.at.position
          position =
              let one : Some p.place.place.position ≡ Some c.at.position =
              sym p.place.place.placed ∙ ap (position_of x.contents.held) q.3 ∙ c.at.held in
              cc

  -- its bytes are those of its temporary
  module _ (slot : Slot) (c : IsComingSlot slot) (w : WasCopied slot) where
    abbrev n : ℕ
    n = w.copied.place.temporary

    temporary_apart : n ≢ k
    temporary_apart = slot_apart facts t.top (inl refl) (record { alloca = w.early_slot.temporary; block = n }) w.copied.may.own

    temporary_stays : slice_get (n1 facts) n ≡ slice_get (N facts) n
    temporary_stays =
        (C facts).spares.others n temporary_apart
        (λ f l of.
        other_block t.top f.cell w.early_slot.temporary n n (own_blocks t r.once) of w.copied.may.own
        (cells_apart x f w.early_slot l w.listed) refl)

    pub copied_bytes : (v : MemoryBlock) → slice_get s.world.memory slot.block ≡ Some v → (y z' : MemoryBlock)
        → slice_get (n1 facts) k ≡ Some y → slice_get (n1 facts) n ≡ Some z' → (i : ℕ) → i < v.size
        → byte_of y ((0 + d_of slot) + i) ≡ byte_of z' (0 + i)
    copied_bytes v there y z' y_there z_there i lt =
        ap (λ (q : ℕ). byte_of y (q + i)) (sym w.offset)
        ∙ ap (λ (q : MemoryBlock). byte_of q ((0 + w.copied.place.place.offset) + i))
        (same_some y w.copied.copied.holds.block (sym y_there ∙ w.copied.copied.holds.there))
        ∙ held_byte (Q facts) (n1 facts) k (0 + w.copied.place.place.offset) 1 w.copied.place.bytes w.copied.copied.holds i less
        ∙ sym (held_byte (Q facts) (N facts) n 0 1 w.copied.place.bytes w.copied.may.holds i less)
        ∙ ap (λ (q : MemoryBlock). byte_of q (0 + i))
        (same_some w.copied.may.holds.block z' (sym w.copied.may.holds.there ∙ sym temporary_stays ∙ z_there))
      where
        less : i < length w.copied.place.bytes
        less =
            let sized : v.size ≡ w.early_slot.size =
            ((h.early.each w.early_slot (listed_in (early facts) w.early_slot w.listed)).sized slot c.own (sym w.is) v
            there).0 in
            let many : length w.copied.place.bytes ≡ w.early_slot.size = w.copied.place.many in
            omega (arith, lt, sized, many)
