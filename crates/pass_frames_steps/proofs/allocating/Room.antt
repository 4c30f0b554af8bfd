-- A slot of an instance has room in the frame, apart from all that lives there.
use Rattle.std.proofs.Common.{◌≡◌, ◌≢◌, ◌+◌, ◌<◌, ◌≤◌, ◌||◌, ◌==◌, ◌∙◌, Bool, Some, ap, arith, false, length, not, refl, subst, sym, true, ℕ}
use Rattle.std.specs.List.{Contains}
use Rattle.std.specs.Prelude.{slice_get}
use Rattle.pass_frames_code.proofs.ir_laws.facts.Lists.{get_within}
use Rattle.pass_frames_code.specs.frame_contents.Held.{position_of}
use Rattle.pass_frames_code.specs.pass_frames.Tables.{offset_at}
use Rattle.pass_frames_steps.proofs.allocating.Lives.{Early, Itself, Placed, WhoLives, shown_live, who_lives}
use Rattle.pass_frames_steps.proofs.allocating.Rights.{frame_room}
use Rattle.pass_frames_code.proofs.followed.Assembly.{other_instance}
use Rattle.pass_frames_code.proofs.stepping.Rest.{got, seen_known}
use Rattle.pass_frames_code.specs.Related.{AreBuiltOf, AreInstances, Building, IsPlacedSlot}
use Rattle.pass_frames_code.specs.Slotted.{AreRangesApart, HasFrameThere, HasListedSlots, HasOwnFrame, HasSlotsApart, IsSlotField, IsSlotInFrame}
use Rattle.pass_frames_code.specs.Stepping.{AreGiven}
use Rattle.pass_frames_code.specs.pass_renewed_proof.Renewed.{RenewedGiven}
use Rattle.pass_frames_code.specs.run_framed.Framed.{frame_rights, layout_of}
use Rattle.pass_frames_code.proofs.run_laws.memory.Written.{same_some}
use Rattle.pass_frames_code.proofs.run_laws.transfer.Muted.{muted_get}
use Rattle.pass_frames_code.specs.run_laws.embedded.Making.{whole_home}
use Rattle.pass_frames_code.specs.run_laws.memory.Pointers.{Home, home_of}
use Rattle.pass_frames_code.specs.run_laws.memory.Standing.{AreApart, Stands}
use Rattle.pass_frames_code.specs.run_laws.transfer.Muted.{muted}
use Rattle.pass_frames_code.specs.run_laws.transfer.Places.{HasRoom, IsApartFrom}
use Rattle.pass_frames_code.specs.run_memory.Memory.{Rights, is_below, is_killed, is_live, owner_rights}
use Rattle.pass_frames_code.specs.run_memory.declared.block.MemoryBlock.{MemoryBlock}
use Rattle.pass_frames_code.specs.run_source.declared.state.Instance.{Instance}
use Rattle.pass_frames_code.specs.run_source.declared.state.State.{State}
use Rattle.pass_frames_code.specs.run_step.declared.world.Slot.{Slot}

module _ (b : Building) (g : RenewedGiven) (given : AreGiven b g) (s t : State) (r : AreBuiltOf b s t) (number : ℕ)
    (x : Instance) (only : HasOwnFrame s number x) where
  abbrev pub R : Rights
  R = frame_rights b.given t.instances

  pub beside : (y : Instance) × (slice_get t.instances number ≡ Some y) × AreInstances b r.homes t x y
  beside = other_instance b s t r number x only.there

  abbrev pub y : Instance
  y = beside.0

  pub y_there : slice_get t.instances number ≡ Some y
  y_there = beside.1

  pub i : AreInstances b r.homes t x y
  i = beside.2

  pub seen_shown : (n : ℕ) → (home_of r.homes n).is_seen ≡ true → r.hides n ≡ false
  seen_shown n seen = on (r.hides n) refl
    where
      on : (k : Bool) → r.hides n ≡ k → r.hides n ≡ false
      on true e = let no : false ≡ true = sym (r.hidden n e) ∙ seen in absurd (cc)
      on false e = e

  block_known : (n k : ℕ) → home_of r.homes n ≡ whole_home k → n < length s.world.memory
  block_known n k h =
      let lt : n < length r.homes = seen_known r.homes n (ap (λ (q : Home). q.is_seen) h) in
      let known : length r.homes ≡ length s.world.memory = r.known in
      omega (arith, lt, known)

  -- instances in one block are one
  same_source : (j : ℕ) (x' y' : Instance) → slice_get s.instances j ≡ Some x' → AreInstances b r.homes t x' y'
      → y'.block ≡ y.block → j ≡ number
  same_source j x' y' there h same =
      only.alone j x' there
      (r.mates.alone x'.block x.block y.block (block_known x'.block y'.block h.block)
      (block_known x.block y.block i.block) (h.block ∙ ap whole_home same) i.block)

  pub alone_there : (j : ℕ) (y' : Instance) → slice_get t.instances j ≡ Some y' → y'.block ≡ y.block → j ≡ number
  alone_there j y' there same =
      let lt : j < length t.instances = get_within t.instances j y' there in
      let many : length t.instances ≡ length s.instances = r.count in
      let x' = got s.instances j (omega (arith, lt, many)) in
      same_source j x'.0 y' x'.1 (r.instances j x'.0 y' x'.1 there) same

  module _ (f : HasFrameThere b s x) (d size align : ℕ)
      (field : IsSlotField (layout_of b.given.layouts x.coroutine) d size align) where
    abbrev pub q : Home
    q = record { block = y.block; offset = y.start + d; is_seen = true }

    frame_stands : Stands owner_rights R r.homes t.world.memory x.block f.block
    frame_stands =
        r.world.memory.each x.block f.block
        (muted_get r.hides s.world.memory x.block (seen_shown x.block (ap (λ (h : Home). h.is_seen) i.block))
        ∙ f.there) f.live

    frame_there : slice_get t.world.memory y.block ≡ Some frame_stands.block
    frame_there = ap (slice_get t.world.memory) (sym (ap (λ (h : Home). h.block) i.block)) ∙ frame_stands.there

    fits : y.start + (layout_of b.given.layouts y.coroutine).size ≤ frame_stands.block.size
    fits =
        enough (ap (λ (h : Home). h.offset) i.block) i.start frame_stands.fits f.fits
        (ap (λ (k : ℕ). (layout_of b.given.layouts k).size) i.coroutine)
      where
        enough : (home_of r.homes x.block).offset ≡ 0 → y.start ≡ x.start
            → (home_of r.homes x.block).offset + f.block.size ≤ frame_stands.block.size
            → x.start + (layout_of b.given.layouts x.coroutine).size ≤ f.block.size
            → (layout_of b.given.layouts y.coroutine).size ≡ (layout_of b.given.layouts x.coroutine).size
            → y.start + (layout_of b.given.layouts y.coroutine).size ≤ frame_stands.block.size
        enough a c p q' e = omega (arith, a, c, p, q', e)

    -- there is room for a block of that size and alignment
    pub room_there : (n : ℕ) (v : MemoryBlock) → v.size ≡ size → v.align ≡ align
        → HasRoom owner_rights R t.world.memory q n v
    room_there n v sized even =
        frame_room b.given t.instances number y y_there alone_there t.world.memory frame_stands.block frame_there
        frame_stands.live frame_stands.whole frame_stands.small (frame_stands.writable f.writable) fits d size align
        (subst (λ (k : ℕ). IsSlotField (layout_of b.given.layouts k) d size align) (sym i.coroutine) field) n v sized
        even true

    module _ (listed : HasListedSlots s) (others : HasSlotsApart t) (n : ℕ)
        (apart : (other : Slot) → Contains x.slots other → other.block ≢ n → (z : MemoryBlock)
        → slice_get s.world.memory other.block ≡ Some z → is_live z.life ≡ true → (p : ℕ)
        → position_of (b.framing x.coroutine).contents.held other.alloca ≡ Some p
        → AreRangesApart (offset_at (b.framing x.coroutine).layout p) z.size d size) where
      -- and it is apart from all that lives there
      pub apart_from : (v : MemoryBlock) → v.size ≡ size
          → IsApartFrom owner_rights r.homes (muted r.hides s.world.memory) q n v
      apart_from v sized c u ne at live same =
          by (who_lives b s t r x.block y.block i.block listed c u at live same)
        where
          c_there : slice_get s.world.memory c ≡ Some u
          c_there = (shown_live b s t r c u at live).there

          -- the frame's own block is owned there
          itself : c ≡ x.block → AreApart owner_rights (home_of r.homes c) q c n u v
          itself e = record {
            bytes = λ p k lt lt' opens opens' clash.
                behind_all p k (f.owned p (ap (λ (m : MemoryBlock). is_below p m.owned) (sym is_frame) ∙ opens)) lt'
                clash;
            places = λ p k lt lt' compares compares' clash. places_by p k lt' compares clash;
          }
            where
              is_frame : u ≡ f.block
              is_frame = same_some u f.block (sym c_there ∙ ap (slice_get s.world.memory) e ∙ f.there)

              c_home : (home_of r.homes c).offset ≡ 0
              c_home = ap (λ (m : ℕ). (home_of r.homes m).offset) e ∙ ap (λ (h : Home). h.offset) i.block

              behind_all : (p k : ℕ) → x.start + (layout_of b.given.layouts x.coroutine).size ≤ p → k < v.size
                  → (home_of r.homes c).offset + p ≡ (y.start + d) + k → ⊥
              behind_all p k le lt clash =
                  let within = field.inside in
                  let st = i.start in
                  let ho = c_home in
                  omega (arith, le, lt, clash, within, st, ho, sized)

              at_start : (p k : ℕ) → p ≡ 0 → (home_of r.homes c).offset + p ≡ (y.start + d) + k → ⊥
              at_start p k first clash =
                  let within = field.behind in
                  let ho = c_home in
                  omega (arith, first, clash, within, ho)

              is_zero : (m : ℕ) → (m == 0) ≡ true → m ≡ 0
              is_zero m e = grind arith

              places_by : (p k : ℕ) → k < v.size → ((p == 0) || not (is_below p u.owned)) ≡ true
                  → (home_of r.homes c).offset + p ≡ (y.start + d) + k → ⊥
              places_by p k lt compares clash = on (p == 0) refl (is_below p u.owned) refl
                where
                  on : (a : Bool) → (p == 0) ≡ a → (o : Bool) → is_below p u.owned ≡ o → ⊥
                  on true a o c' = at_start p k (is_zero p a) clash
                  on false a false c' =
                      behind_all p k (f.owned p (ap (λ (m : MemoryBlock). is_below p m.owned) (sym is_frame) ∙ c')) lt
                      clash
                  on false a true c' =
                      let no : false ≡ true = sym (λ j. a j || not (c' j)) ∙ compares in cc

          beside_it : (j : ℕ) (x' y' : Instance) → slice_get s.instances j ≡ Some x'
              → slice_get t.instances j ≡ Some y' → AreInstances b r.homes t x' y' → (other : Slot)
              → Contains x'.slots other → other.block ≡ c → y'.block ≡ y.block
              → AreApart owner_rights (home_of r.homes c) q c n u v
          beside_it j x' y' x_there y'_there h other own is_c there = record {
            bytes = λ p k lt lt' opens opens'. clash p k lt lt';
            places = λ p k lt lt' compares compares'. clash p k lt lt';
          }
            where
              number_is : j ≡ number
              number_is = same_source j x' y' x_there h there

              source_is : x' ≡ x
              source_is = same_some x' x (sym x_there ∙ ap (slice_get s.instances) number_is ∙ only.there)

              other_own : Contains x.slots other
              other_own = subst (λ (m : Instance). Contains m.slots other) source_is own

              p_other : IsPlacedSlot (b.framing x.coroutine) r.homes y other
              p_other = i.slots other other_own

              other_home : (home_of r.homes c).offset
                  ≡ y.start + offset_at (b.framing x.coroutine).layout p_other.position
              other_home =
                  ap (λ (m : ℕ). (home_of r.homes m).offset) (sym is_c) ∙ ap (λ (h : Home). h.offset) p_other.home

              clash : (p k : ℕ) → p < u.size → k < v.size → (home_of r.homes c).offset + p ≢ (y.start + d) + k
              clash p k lt lt' e =
                  apart other other_own (λ same. ne (sym is_c ∙ same)) u (ap (slice_get s.world.memory) is_c ∙ c_there)
                  live p_other.position p_other.position_is p k lt (subst (λ (m : ℕ). k < m) sized lt')
                  (less y.start (offset_at (b.framing x.coroutine).layout p_other.position) d p k
                  (ap (λ (m : ℕ). m + p) (sym other_home) ∙ e))
                where
                  less : (a m m' p k : ℕ) → (a + m) + p ≡ (a + m') + k → m + p ≡ m' + k
                  less a m m' p k e = omega (arith, e)

          by : WhoLives b s t r c x.block y.block → AreApart owner_rights (home_of r.homes c) q c n u v
          by (Itself e) = itself e
          by (Placed j x' y' x_there y'_there h other own is_c there) =
              beside_it j x' y' x_there y'_there h other own is_c there
          by (Early a l is e listed' own) =
              absurd (others.each a l (record { alloca = e.temporary; block = y.block }) own number y y_there refl)

-- ---- of a slot that the instance has

module _ (b : Building) (g : RenewedGiven) (given : AreGiven b g) (s t : State) (r : AreBuiltOf b s t) (number : ℕ)
    (x : Instance) (slot : Slot) (starts : Bool) (z : IsSlotInFrame b s number x slot starts) where
  pub placed : IsPlacedSlot (b.framing x.coroutine) r.homes (y b g given s t r number x z.alone) slot
  placed = (i b g given s t r number x z.alone).slots slot z.own

  abbrev pub position : ℕ
  position = placed.position

  pub slot_shown : r.hides slot.block ≡ false
  slot_shown =
      seen_shown b g given s t r number x z.alone slot.block (ap (λ (h : Home). h.is_seen) placed.home)

  pub slot_known : slot.block < length r.homes
  slot_known = seen_known r.homes slot.block (ap (λ (h : Home). h.is_seen) placed.home)

  module _ (w : MemoryBlock) (w_there : slice_get s.world.memory slot.block ≡ Some w)
      (unkilled : is_killed w.life ≡ false) where
    pub room : (v : MemoryBlock) → v.size ≡ w.size → v.align ≡ w.align
        → HasRoom owner_rights (frame_rights b.given t.instances) t.world.memory (home_of r.homes slot.block) slot.block
        v
    room v sized even =
        subst (λ (h : Home). HasRoom owner_rights (frame_rights b.given t.instances) t.world.memory h slot.block v)
        (sym placed.home)
        (room_there b g given s t r number x z.alone (z.frame w w_there unkilled)
        (offset_at (b.framing x.coroutine).layout placed.position) w.size w.align
        (z.field placed.position placed.position_is w w_there) slot.block v sized even)

    pub apart_there : starts ≡ true → HasListedSlots s → HasSlotsApart t → (v : MemoryBlock) → v.size ≡ w.size
        → IsApartFrom owner_rights r.homes (muted r.hides s.world.memory) (home_of r.homes slot.block) slot.block v
    apart_there begins listed others v sized =
        subst (λ (h : Home). IsApartFrom owner_rights r.homes (muted r.hides s.world.memory) h slot.block v)
        (sym placed.home)
        (apart_from b g given s t r number x z.alone (z.frame w w_there unkilled)
        (offset_at (b.framing x.coroutine).layout placed.position) w.size w.align
        (z.field placed.position placed.position_is w w_there) listed others slot.block
        (λ other own ne u there live p p_is.
        z.apart begins other own ne u w there w_there live p placed.position p_is placed.position_is) v sized)
