-- Behind the copies all slots of the frame come to stand in it: first those whose bytes were copied, then the hidden
-- ones.
use Rattle.std.proofs.Common.{◌≡◌, ◌≢◌, ◌⊎◌, ◌+◌, ◌<◌, ◌∷◌, ◌∙◌, [], Bool, List, Option, Some, ap, arith, false, get_or-set_other, inl, inr, length, map, not, refl, set, subst, sym, true, ℕ, ⊎_elim}
use Rattle.std.proofs.lemmas.Bool.{cases_eq}
use Rattle.std.proofs.lemmas.List.{get_or-set_same, length-set}
use Rattle.std.specs.List.{Contains}
use Rattle.std.specs.Prelude.{filter, slice_get}
use Rattle.pass_frames_steps.specs.flow_solver.Paths.{IsListed}
use Rattle.pass_frames_steps.specs.ir_laws.paths.woven_rules.Pairs.{AreDifferent}
use Rattle.pass_frames_steps.specs.pass_copies.declared.slot.EarlySlot.{EarlySlot}
use Rattle.pass_frames_steps.proofs.allocating.Rights.{frames_compare}
use Rattle.pass_frames_proof.proofs.beginning.Coming.{IsComingSlot, coming, copied_bytes, d_of, each_of, field_at, owner_apart, place_of, places_apart, there_was, two, was_copied, zs, zs_different}
use Rattle.pass_frames_proof.proofs.beginning.Frame.{lives_there, mm, n1, room_there, stands_copied, y1, z1}
use Rattle.pass_frames_proof.proofs.beginning.Given.{Begins}
use Rattle.pass_frames_proof.proofs.beginning.Places.{B, M, Q, X, block_in, different_filter, frame_fits, in_filter, filter_in, mapped_in, shown_other, stood_other, stood_length, ys, zt_small}
use Rattle.pass_frames_proof.proofs.early.Moved.{came_there}
use Rattle.pass_frames_steps.proofs.marking.Changed.{hidden_dead}
use Rattle.pass_frames_steps.specs.Beginning.{IsAtBegin}
use Rattle.pass_frames_steps.specs.Places.{Framing, copies}
use Rattle.pass_frames_steps.specs.Related.{AreBuiltOf, Building, IsUnplacedSlot}
use Rattle.pass_frames_steps.specs.pass_renewed_proof.Renewed.{RenewedGiven}
use Rattle.pass_frames_steps.proofs.run_laws.transfer.Muted.{muted_get}
use Rattle.pass_frames_steps.proofs.run_laws.transfer.Ready.{ready_all, still_hidden, stood_at, stood_extends}
use Rattle.pass_frames_steps.specs.run_laws.memory.Pointers.{Extends, Home, home_of, nowhere}
use Rattle.pass_frames_steps.specs.run_laws.memory.Standing.{AreApart, byte_of}
use Rattle.pass_frames_steps.specs.run_laws.transfer.Muted.{muted}
use Rattle.pass_frames_steps.specs.run_laws.transfer.Places.{AreStanding, IsApartFrom, MayBeSeen}
use Rattle.pass_frames_steps.specs.run_laws.transfer.Ready.{ArePlaces, Comes, IsPlace, IsSettled, Place, Stays, home_at, shown_of, stood}
use Rattle.pass_frames_steps.specs.run_memory.Memory.{is_live, owner_rights}
use Rattle.pass_frames_steps.specs.run_memory.declared.block.MemoryBlock.{MemoryBlock}
use Rattle.pass_frames_steps.specs.run_source.declared.state.State.{State}
use Rattle.pass_frames_steps.specs.run_step.declared.world.Slot.{Slot}

trans_extends : (homes next most : List Home) → Extends homes next → Extends next most → Extends homes most
trans_extends homes next most f g = record {
  each = λ n e. g.each n (ap (λ (q : Home). q.is_seen) (f.each n e) ∙ e) ∙ f.each n e;
}

module _ (facts : Begins) where
  abbrev b : Building
  b = facts.b

  abbrev g : RenewedGiven
  g = facts.g

  abbrev s : State
  s = facts.s

  abbrev t : State
  t = facts.t

  abbrev r : AreBuiltOf b s t
  r = facts.r

  abbrev block : ℕ
  block = facts.block

  abbrev h : IsAtBegin b g s facts.result facts.must_tail facts.ty facts.id facts.typed facts.memory block
  h = facts.h

  abbrev x : Framing
  x = X facts

  abbrev k : ℕ
  k = B facts

  -- a block stands where it stood, or is one of a slot that was copied and stands in the frame
  abbrev IsMoved : List Home → ℕ → Type 0
  IsMoved homes d =
      (home_of homes d ≡ home_of r.homes d)
      ⊎ ((slot : Slot) × IsListed slot (zs facts) × (slot.block ≡ d) × (r.hides d ≡ false)
      × (home_of homes d ≡ home_at (place_of facts slot)))

  record AreMoved (homes : List Home) : Type 0 where
    long : length homes ≡ length r.homes
    each : (d : ℕ) → IsMoved homes d

  -- what is live isn't hidden
  live_there : (c : ℕ) (u : MemoryBlock) → slice_get (mm facts) c ≡ Some u → is_live u.life ≡ true
      → slice_get (M facts) c ≡ Some u
  live_there c u e live = on (r.hides c) refl
    where
      on : (q : Bool) → r.hides c ≡ q → slice_get (M facts) c ≡ Some u
      on true hides = absurd (hidden_dead r.hides (M facts) c u hides e live)
      on false hides = sym (muted_get r.hides (M facts) c hides) ∙ e

  -- ---- apart from all that live in the frame's block

  apart_there : (homes : List Home) → AreMoved homes → (slot : Slot) → IsListed slot (zs facts) → (v : MemoryBlock)
      → slice_get (M facts) slot.block ≡ Some v → is_live v.life ≡ true
      → IsApartFrom owner_rights homes (mm facts) (home_at (place_of facts slot)) slot.block v
  apart_there homes moved slot l v e live c u ne at lives same = by (moved.each c)
    where
      other : (z : Slot) → IsListed z (zs facts) → z.block ≡ c
          → AreApart owner_rights (home_at (place_of facts z)) (home_at (place_of facts slot)) c slot.block u v
      other z lz is =
          subst
          (λ (n : ℕ). AreApart owner_rights (home_at (place_of facts z)) (home_at (place_of facts slot)) n slot.block u v)
          is
          ((two facts z slot (coming facts z lz) (coming facts slot l) (λ q. ne (sym is ∙ sym q))).homes u v
          (ap (slice_get (M facts)) is ∙ live_there c u at lives) e lives live refl)

      by : IsMoved homes c
          → AreApart owner_rights (home_of homes c) (home_at (place_of facts slot)) c slot.block u v
      by (inl q) =
          subst (λ (p : Home). AreApart owner_rights p (home_at (place_of facts slot)) c slot.block u v) (sym q)
          (owner_apart facts slot (coming facts slot l) c u v
          (lives_there facts c u at lives (ap (λ (p : Home). p.block) (sym q) ∙ same)) e)
      by (inr q) =
          subst (λ (p : Home). AreApart owner_rights p (home_at (place_of facts slot)) c slot.block u v) (sym q.4)
          (other q.0 q.1 q.2)

  -- pointers into it may be about there
  seen_there : (slot : Slot) → IsListed slot (zs facts)
      → MayBeSeen owner_rights (Q facts) (n1 facts) (home_at (place_of facts slot)) slot.block
      (slice_get (M facts) slot.block)
  seen_there slot l = record {
    nulls = λ q e. frames_compare b.given (ys facts) k _ _;
    bounds = λ v e. record {
      block = z1 facts;
      there = (y1 facts).there;
      fits =
          let f = (field_at facts slot (coming facts slot l) v e).inside in
          let m = frame_fits facts in
          omega (arith, f, m);
      small = zt_small facts;
    };
  }

  -- ---- one that was copied

  module _ (homes : List Home) (moved : AreMoved homes) (slot : Slot) (l : IsListed slot (zs facts))
      (shows : r.hides slot.block ≡ false) (still : home_of homes slot.block ≡ home_of r.homes slot.block)
      (st : AreStanding owner_rights (Q facts) homes (mm facts) (n1 facts)) where
    abbrev c : IsComingSlot facts slot
    c = coming facts slot l

    abbrev next : List Home
    next = set homes slot.block (home_at (place_of facts slot))

    low : slot.block < length homes
    low = let lt = c.low in let many = moved.long in omega (arith, lt, many)

    unmuted : slice_get (mm facts) slot.block ≡ slice_get (M facts) slot.block
    unmuted = muted_get r.hides (M facts) slot.block shows

    came : AreStanding owner_rights (Q facts) next (mm facts) (n1 facts)
    came =
        came_there owner_rights (Q facts) homes (mm facts) (n1 facts) (place_of facts slot) (record {
          known = low;
          unseen = ap (λ (p : Home). p.is_seen) still ∙ c.unseen;
          seen = subst
              (λ (o : Option MemoryBlock). MayBeSeen owner_rights (Q facts) (n1 facts) (home_at (place_of facts slot))
              slot.block o) (sym unmuted) (seen_there slot l);
          copied = λ v e live.
              let at : slice_get (M facts) slot.block ≡ Some v = sym unmuted ∙ e in
              let room = room_there facts (d_of facts slot) v (field_at facts slot c v at) slot.block in
              record {
                room = room;
                apart = apart_there homes moved slot l v at live;
                same = λ z there i lt.
                    let w = was_copied facts slot c shows in
                    let home : home_of homes slot.block
                    ≡ record { block = w.copied.place.temporary; offset = 0; is_seen = false } = still ∙ w.home in
                    copied_bytes facts slot c w v (there_was facts slot c v at) room.block z room.there
                    (ap (λ (p : Home). slice_get (n1 facts) p.block) (sym home) ∙ there) i lt
                    ∙ ap (λ (p : Home). byte_of z (p.offset + i)) (sym home);
              };
        }) st

    came_moved : AreMoved next
    came_moved = record {
      long = length-set homes slot.block (home_at (place_of facts slot)) ∙ moved.long;
      each = λ d. ⊎_elim
          (λ (is : d ≡ slot.block). inr (
            slot,
            l,
            sym is,
            ap r.hides is ∙ shows,
            ap (home_of next) is ∙ get_or-set_same homes slot.block (home_at (place_of facts slot)) nowhere low,
          ))
          (λ (ne : d ≢ slot.block). other d ne (moved.each d))
          (cases_eq d slot.block);
    }
      where
        stays : (d : ℕ) → d ≢ slot.block → home_of next d ≡ home_of homes d
        stays d ne = get_or-set_other homes slot.block d (home_at (place_of facts slot)) nowhere ne

        other : (d : ℕ) → d ≢ slot.block → IsMoved homes d → IsMoved next d
        other d ne (inl q) = inl (stays d ne ∙ q)
        other d ne (inr q) = inr (q.0, q.1, q.2, q.3, stays d ne ∙ q.4)

  -- ---- all that were

  record HasCome (ws : List Slot) (homes : List Home) : Type 0 where
    moved : AreMoved (stood homes (map (place_of facts) ws))
    stands : AreStanding owner_rights (Q facts) (stood homes (map (place_of facts) ws)) (mm facts) (n1 facts)
    here : (slot : Slot) → IsListed slot ws
        → home_of (stood homes (map (place_of facts) ws)) slot.block ≡ home_at (place_of facts slot)

  come_all : (ws : List Slot)
      → ((slot : Slot) → IsListed slot ws → IsListed slot (zs facts) × (r.hides slot.block ≡ false))
      → AreDifferent (map (λ (slot : Slot). slot.block) ws) → (homes : List Home) → AreMoved homes
      → ((slot : Slot) → IsListed slot ws → home_of homes slot.block ≡ home_of r.homes slot.block)
      → AreStanding owner_rights (Q facts) homes (mm facts) (n1 facts) → HasCome ws homes
  come_all [] all d homes moved still st = record { moved = moved; stands = st; here = λ slot l. absurd l }
  come_all (w ∷ ws) all d homes moved still st =
      let a = all w (inl refl) in
      let next : List Home = set homes w.block (home_at (place_of facts w)) in
      let rest : HasCome ws next =
      come_all ws (λ slot l. all slot (inr l)) d.1 next
      (came_moved homes moved w a.0 a.1 (still w (inl refl)) st)
      (λ slot l. get_or-set_other homes w.block slot.block (home_at (place_of facts w)) nowhere
      (λ e. apart slot l e) ∙ still slot (inr l))
      (came homes moved w a.0 a.1 (still w (inl refl)) st) in
      record {
        moved = rest.moved;
        stands = rest.stands;
        here = at rest;
      }
    where
      apart : (slot : Slot) → IsListed slot ws → slot.block ≢ w.block
      apart slot l e =
          d.0 (subst (λ (n : ℕ). IsListed n (map (λ (z : Slot). z.block) ws)) e (block_in ws slot l))

      low : w.block < length homes
      low =
          let lt = (coming facts w (all w (inl refl)).0).low in
          let many = moved.long in
          omega (arith, lt, many)

      first : home_of (stood (set homes w.block (home_at (place_of facts w))) (map (place_of facts) ws)) w.block
          ≡ home_at (place_of facts w)
      first =
          stood_other (set homes w.block (home_at (place_of facts w))) (map (place_of facts) ws) w.block
          (each_of (place_of facts) (λ (q : Place). q.block ≢ w.block) ws (λ slot l. apart slot l))
          ∙ get_or-set_same homes w.block (home_at (place_of facts w)) nowhere low

      at : HasCome ws (set homes w.block (home_at (place_of facts w))) → (slot : Slot) → IsListed slot (w ∷ ws)
          → home_of (stood (set homes w.block (home_at (place_of facts w))) (map (place_of facts) ws)) slot.block
          ≡ home_at (place_of facts slot)
      at rest slot (inl e) =
          subst (λ (z : Slot).
          home_of (stood (set homes w.block (home_at (place_of facts w))) (map (place_of facts) ws)) z.block
          ≡ home_at (place_of facts z)) (sym e) first
      at rest slot (inr l) = rest.here slot l

  abbrev es : List Slot
  es = filter (λ (slot : Slot). not (r.hides slot.block)) (zs facts)

  not_true : (q : Bool) → not q ≡ true → q ≡ false
  not_true true e = absurd (cc)
  not_true false e = refl

  all_come : HasCome es r.homes
  all_come =
      come_all es
      (λ slot l. let q = in_filter (λ (z : Slot). not (r.hides z.block)) (zs facts) slot l in
      (q.0, not_true (r.hides slot.block) q.1))
      (different_filter (λ (z : Slot). not (r.hides z.block)) (zs facts) (zs_different facts)) r.homes
      (record { long = refl; each = λ d. inl refl }) (λ slot l. refl) (stands_copied facts)

  abbrev pub homes1 : List Home
  homes1 = stood r.homes (map (place_of facts) es)

  -- ---- and then the hidden ones

  abbrev pub places : List Place
  places = map (place_of facts) (zs facts)

  is_place : (slot : Slot) → IsListed slot (zs facts)
      → IsPlace owner_rights (Q facts) homes1 (M facts) (n1 facts) (place_of facts slot)
  is_place slot l = record {
    within = let lt = (coming facts slot l).low in let many = all_come.moved.long in omega (arith, lt, many);
    seen = seen_there slot l;
  }

  settled : (slot : Slot) → IsListed slot (zs facts)
      → IsSettled owner_rights (Q facts) homes1 r.hides (M facts) (n1 facts) (place_of facts slot)
  settled slot l = on (r.hides slot.block) refl
    where
      unseen_by : r.hides slot.block ≡ true → IsMoved homes1 slot.block
          → (home_of homes1 slot.block).is_seen ≡ false
      unseen_by hides (inl q) = ap (λ (p : Home). p.is_seen) q ∙ (coming facts slot l).unseen
      unseen_by hides (inr q) = let no : true ≡ false = sym hides ∙ q.3 in absurd (cc)

      no_early : r.hides slot.block ≡ true → IsUnplacedSlot x r.homes r.hides t.top slot → (e : EarlySlot)
          → Contains (copies x).slots e → e.slot ≢ slot.alloca
      no_early hides (inl q) = q.1
      no_early hides (inr q) = let no : true ≡ false = sym hides ∙ q.6 in absurd (cc)

      shown_in : r.hides slot.block ≡ false → IsListed slot es
      shown_in e = filter_in (λ (z : Slot). not (r.hides z.block)) (zs facts) slot l (ap not e)

      on : (q : Bool) → r.hides slot.block ≡ q
          → IsSettled owner_rights (Q facts) homes1 r.hides (M facts) (n1 facts) (place_of facts slot)
      on true hides =
          Comes (unseen_by hides (all_come.moved.each slot.block)) (λ v e live. record {
            blank = (coming facts slot l).at.blank (no_early hides (coming facts slot l).way) v
                (there_was facts slot (coming facts slot l) v e) live;
            room = room_there facts (d_of facts slot) v (field_at facts slot (coming facts slot l) v e) slot.block;
            apart = apart_there homes1 all_come.moved slot l v e live;
          })
      on false shows = Stays true (all_come.here slot (shown_in shows)) shows

  are_places : ArePlaces owner_rights (Q facts) homes1 r.hides (M facts) (n1 facts) places
  are_places = record {
    places = each_of (place_of facts) (IsPlace owner_rights (Q facts) homes1 (M facts) (n1 facts)) (zs facts) is_place;
    settled = each_of (place_of facts) (IsSettled owner_rights (Q facts) homes1 r.hides (M facts) (n1 facts)) (zs facts)
        settled;
    apart = places_apart facts;
  }

  -- ---- homes behind begin

  abbrev pub homes : List Home
  homes = stood homes1 places

  abbrev pub hides : ℕ → Bool
  hides = shown_of r.hides places

  pub stands_begun : AreStanding owner_rights (Q facts) homes (muted hides (M facts)) (n1 facts)
  stands_begun = ready_all owner_rights (Q facts) homes1 r.hides (M facts) (n1 facts) places are_places all_come.stands

  first_extends : Extends r.homes homes1
  first_extends = record { each = λ d e. by d e (all_come.moved.each d) }
    where
      by : (d : ℕ) → (home_of r.homes d).is_seen ≡ true → IsMoved homes1 d → home_of homes1 d ≡ home_of r.homes d
      by d e (inl q) = q
      by d e (inr q) =
          let no : false ≡ true =
          sym (coming facts q.0 q.1).unseen ∙ ap (λ (n : ℕ). (home_of r.homes n).is_seen) q.2 ∙ e in
          absurd (cc)

  pub extends : Extends r.homes homes
  extends =
      trans_extends r.homes homes1 homes first_extends
      (stood_extends owner_rights (Q facts) homes1 r.hides (M facts) (n1 facts) places are_places)

  pub slot_home : (slot : Slot) → IsListed slot (zs facts) → home_of homes slot.block ≡ home_at (place_of facts slot)
  slot_home slot l =
      stood_at owner_rights (Q facts) homes1 r.hides (M facts) (n1 facts) places (place_of facts slot) are_places
      (mapped_in (place_of facts) (zs facts) slot l)

  -- a block that is none of a slot's
  pub other_block_home : (d : ℕ) → ((slot : Slot) → IsListed slot (zs facts) → slot.block ≢ d)
      → (home_of homes d ≡ home_of r.homes d) × (hides d ≡ r.hides d)
  other_block_home d apart =
      let all = each_of (place_of facts) (λ (q : Place). q.block ≢ d) (zs facts) (λ slot l. apart slot l) in
      (stood_other homes1 places d all ∙ before (all_come.moved.each d), shown_other r.hides places d all)
    where
      before : IsMoved homes1 d → home_of homes1 d ≡ home_of r.homes d
      before (inl q) = q
      before (inr q) = absurd (apart q.0 q.1 q.2)

  pub homes_long : length homes ≡ length r.homes
  homes_long = stood_length homes1 places ∙ all_come.moved.long

  pub hidden_behind : (n : ℕ) → hides n ≡ true → (home_of homes n).is_seen ≡ false
  hidden_behind = still_hidden owner_rights (Q facts) homes1 r.hides places (λ n e. by n e (all_come.moved.each n))
    where
      by : (n : ℕ) → r.hides n ≡ true → IsMoved homes1 n → (home_of homes1 n).is_seen ≡ false
      by n e (inl q) = ap (λ (p : Home). p.is_seen) q ∙ r.hidden n e
      by n e (inr q) = let no : true ≡ false = sym e ∙ q.3 in absurd (cc)
