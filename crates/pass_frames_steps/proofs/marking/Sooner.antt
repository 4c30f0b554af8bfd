-- Markers of a slot that is used before begin, executed there: the block stands in the temporary, which has none.
use Rattle.std.proofs.Common.{◌≡◌, ◌≢◌, ◌⊎◌, ◌+◌, ◌<◌, ◌≤◌, ◌&&◌, ◌∙◌, Bool, List, Option, Some, ap, arith, false, inl, inr, length, refl, subst, sym, true, ℕ}
use Rattle.std.proofs.lemmas.Bool.{cases_eq}
use Rattle.std.specs.List.{Contains}
use Rattle.std.specs.Prelude.{slice_get}
use Rattle.pass_frames_code.specs.flow_solver.Paths.{IsListed}
use Rattle.pass_frames_code.specs.ir_model.Ty.{Ty}
use Rattle.pass_frames_code.specs.ir_model.declared.instr.Instr.{Instr}
use Rattle.pass_frames_code.specs.ir_model.declared.operand.Arg.{Arg}
use Rattle.pass_frames_code.specs.pass_copies.declared.slot.EarlySlot.{EarlySlot}
use Rattle.pass_frames_steps.proofs.allocating.Both.{each_index}
use Rattle.pass_frames_steps.proofs.allocating.Rights.{frames_compare, outside_rights}
use Rattle.pass_frames_steps.proofs.allocating.Whole.{below_other}
use Rattle.pass_frames_code.proofs.code.Left.{Far, far_written}
use Rattle.pass_frames_code.proofs.lines.Cells.{other_block}
use Rattle.pass_frames_steps.proofs.marking.Changed.{muted_others}
use Rattle.pass_frames_steps.proofs.marking.Gone.{stays, steps}
use Rattle.pass_frames_steps.proofs.marking.Marks.{IsMarkedAt, end_stands, mark_is, marked_at, marked_by, marks_block, mates_marked, start_stands}
use Rattle.pass_frames_steps.proofs.marking.Still.{after, none_followed, place_still}
use Rattle.pass_frames_code.proofs.moved.Rest.{moved_related, same_place}
use Rattle.pass_frames_code.proofs.stepping.May.{own_blocks}
use Rattle.pass_frames_code.proofs.stepping.Names.{slots_new}
use Rattle.pass_frames_code.proofs.stepping.Stands.{values_of}
use Rattle.pass_frames_code.specs.Followed.{IsFollowed}
use Rattle.pass_frames_code.specs.Framings.{IsFraming}
use Rattle.pass_frames_code.specs.Marking.{IsAtMarker, IsEarlyMarked, IsTemporaryThere, IsUnmarked, marking}
use Rattle.pass_frames_code.specs.Moved.{AreMoved, MovesRest}
use Rattle.pass_frames_code.specs.Places.{Framing, copies, edged, offsets, place, written}
use Rattle.pass_frames_code.specs.Related.{AreActivations, AreAhead, AreBuiltOf, Building, HasFields, IsAhead, IsCellName, IsFreeOf, IsOwnSlot, IsSlotBy, IsUnplacedSlot, instance_in, is_coroutine, is_first, top_place}
use Rattle.pass_frames_code.specs.Stepping.{AreGiven}
use Rattle.pass_frames_code.specs.pass_proofs.addresses.rules.Addresses.{lies_in_frame}
use Rattle.pass_frames_code.specs.pass_renewed_proof.Renewed.{RenewedGiven}
use Rattle.pass_frames_code.specs.run_framed.Framed.{frame_rights}
use Rattle.pass_frames_code.proofs.run_laws.memory.Written.{same_some}
use Rattle.pass_frames_code.specs.run_laws.changed.Changed.{Each}
use Rattle.pass_frames_code.specs.run_laws.embedded.Making.{whole_home}
use Rattle.pass_frames_code.specs.run_laws.memory.Pointers.{Home, home_of}
use Rattle.pass_frames_code.specs.run_laws.transfer.Muted.{muted}
use Rattle.pass_frames_code.specs.run_laws.transfer.Places.{AreStanding, HasRoom, IsApartFrom}
use Rattle.pass_frames_code.specs.run_memory.Memory.{Rights, may_compare_at, owner_rights, started}
use Rattle.pass_frames_code.specs.run_memory.declared.block.MemoryBlock.{MemoryBlock}
use Rattle.pass_frames_code.specs.run_memory.declared.pointer.Offset.{Offset}
use Rattle.pass_frames_code.specs.run_source.declared.state.Activation.{Activation}
use Rattle.pass_frames_code.specs.run_source.declared.state.Instance.{Instance}
use Rattle.pass_frames_code.specs.run_source.declared.state.State.{State}
use Rattle.pass_frames_code.specs.run_step.Values.{value_in}
use Rattle.pass_frames_code.specs.run_step.declared.world.Slot.{Slot}
use Rattle.pass_frames_code.specs.run_step.declared.world.World.{World}

module _ (b : Building) (g : RenewedGiven) (given : AreGiven b g) (s t : State) (r : AreBuiltOf b s t)
    (starts must_tail : Bool) (ty : Option Ty) (size : Arg) (t' : Ty) (name : ℕ)
    (h : IsAtMarker b s starts must_tail ty size t' name)
    (unmarked : IsUnmarked b s (marking starts must_tail ty size t' name)) (off : g.flags s.top.func name ≡ false)
    (z : IsEarlyMarked b s t r name) where
  abbrev X : Framing
  X = b.framing s.top.func

  abbrev R : Rights
  R = frame_rights b.given t.instances

  abbrev n : ℕ
  n = z.slot.block

  abbrev i : Instr
  i = marking starts must_tail ty size t' name

  is : IsFraming X
  is = given.framings s.top.func h.coroutine

  abbrev k : List MemoryBlock
  k = marked_by starts s.world.memory (value_in s.top.values name)

  abbrev w : World
  w = record s.world { memory = k }

  at : IsMarkedAt starts s.world.memory k n
  at =
      subst (λ (m : List MemoryBlock). IsMarkedAt starts s.world.memory m n)
      (sym (marks_block starts s.world.memory (value_in s.top.values name) n z.address))
      (marked_at starts s.world.memory n)

  unplaced : IsUnplacedSlot X r.homes r.hides t.top z.slot
  unplaced =
      by (is_coroutine b s.top.func && lies_in_frame (offsets X) z.slot.alloca)
      (λ j. h.coroutine j && (ap (lies_in_frame (offsets X)) z.alloca ∙ z.frame) j) (r.top.slots z.slot z.own)
    where
      by : (f : Bool) → f ≡ true → IsSlotBy b r.homes r.hides s.top t.top z.slot f
          → IsUnplacedSlot X r.homes r.hides t.top z.slot
      by true e p = p
      by false e p = absurd (cc)

  module _ (e : EarlySlot) (q : ℕ) (listed : Contains (copies X).slots e) (slot_is : e.slot ≡ z.slot.alloca)
      (own : Contains t.top.slots (record { alloca = e.temporary; block = q }))
      (home : home_of r.homes n ≡ record { block = q; offset = 0; is_seen = false }) (shown : r.hides n ≡ false) where
    named : e.slot ≡ name
    named = slot_is ∙ z.alloca

    v : IsTemporaryThere b s t r n q
    v = z.there q e listed named own

    free_on : (d : ℕ) → d ≢ q → IsFreeOf r.homes r.hides s.world.memory d → IsFreeOf r.homes r.hides k d
    free_on d ne free c y there why same = by (cases_eq c n)
      where
        by : (c ≡ n) ⊎ (c ≢ n) → ⊥
        by (inl p) =
            ne (sym same ∙ ap (λ (m : ℕ). (home_of r.homes m).block) p ∙ ap (λ (o : Home). o.block) home)
        by (inr other) =
            free c y (sym (muted_others r.homes r.hides s.world.memory k n at.others at.long c other) ∙ there) why same

    ahead_on : (y : Framing) (c : Activation) (u align : ℕ) (ty' : Ty)
        → (p : IsAhead y r.homes r.hides s.world.memory t.world.memory c u ty' align) → p.block ≢ q
        → IsAhead y r.homes r.hides k t.world.memory c u ty' align
    ahead_on y c u align ty' p ne = record {
      block = p.block;
      address = p.address;
      own = p.own;
      free = free_on p.block ne p.free;
      bytes = p.bytes;
      sized = p.sized;
      there = p.there;
    }

    apart_below : (c : Activation) → IsListed c t.below → (slot : Slot) → Contains c.slots slot → slot.block ≢ q
    apart_below c l slot own' same =
        below_other b s t r (record { alloca = e.temporary; block = q }) own c l slot own' (sym same)

    apart_top : (slot : Slot) → Contains t.top.slots slot → (slot.alloca ≡ e.temporary → ⊥) → slot.block ≢ q
    apart_top slot own' ne same =
        other_block t.top e.temporary slot.alloca q slot.block (own_blocks t r.once) own own' (λ p. ne (sym p)) (sym same)

    moves : MovesRest b s t r s.below t.below r.homes r.hides t.instances w t.world
    moves = record {
      framings = given.framings;
      seen = record { each = λ c p. refl };
      slots = λ a l slot own'. (refl, refl);
      owners = λ c l is'. same_place (instance_in t.instances c.instance);
      cells = λ c l is' slot own' cell o most bytes p. p;
      returned = λ a c y y' j l is' was now from p.
          subst (λ (d : Instance). HasFields (b.framing a.func) r.homes R t.world.memory j a.values d.block d.start a.mode)
          (same_some y y' (sym was ∙ now)) p;
      free = λ c l is' slot own' cell. free_on slot.block (apart_below c l slot own');
      ahead = λ y c u align ty' l p.
          ahead_on y c u align ty' p (apart_below c l (record { alloca = u; block = p.block }) p.own);
    }

    low : n < length r.homes
    low =
        let lt = z.low in let many : length r.homes ≡ length s.world.memory = r.known in omega (arith, lt, many)

    compares : (c : ℕ) (y : Option MemoryBlock) (o : Offset) → may_compare_at R c y o ≡ true
    compares c y o = frames_compare b.given t.instances c y o

    frames : Each (λ (y : Instance). y.block ≢ q) t.instances
    frames = each_index (λ (y : Instance). y.block ≢ q) t.instances v.frames

    abbrev H : Home
    H = record { block = q; offset = 0; is_seen = false }

    room : (y : MemoryBlock) → slice_get s.world.memory n ≡ Some y → HasRoom owner_rights R t.world.memory H n (started y)
    room y there = record {
      block = v.block;
      there = v.there;
      live = v.live;
      whole = v.whole;
      fits = subst (λ (m : ℕ). 0 + m ≤ v.block.size) (sym (mark_is true y).size) (v.sized y there).0;
      small = v.small;
      writable = λ p. v.writable;
      allowed = outside_rights b.given t.instances q frames n (started y) v.block false
          ((v.sized y there).1 ∙ sym (mark_is true y).align);
    }

    stands_now : AreStanding owner_rights R r.homes (muted r.hides s.world.memory) t.world.memory
    stands_now = record { memory = r.world.memory; nulls = r.world.nulls; bounds = r.world.bounds }

    stands : (c : Bool) → IsMarkedAt c s.world.memory k n
        → AreStanding owner_rights R r.homes (muted r.hides k) t.world.memory
    stands false m =
        end_stands owner_rights R r.homes r.hides s.world.memory k t.world.memory n m shown compares stands_now
    stands true m =
        start_stands owner_rights R r.homes r.hides s.world.memory k t.world.memory n m shown low compares
        (λ y there live. subst
        (λ (d : Home). HasRoom owner_rights R t.world.memory d n (started y)
        × IsApartFrom owner_rights r.homes (muted r.hides s.world.memory) d n (started y)) (sym home)
        (room y there, λ c u ne there' live' same. absurd (v.lonely c u ne there' live' same))) stands_now

    no_whole : (m : ℕ) → home_of r.homes n ≡ whole_home m → ⊥
    no_whole m p = let no : false ≡ true = ap (λ (o : Home). o.is_seen) (sym home ∙ p) in cc

    moved_now : AreMoved b t r.homes r.hides s.instances t.instances w t.world t.top
    moved_now = record {
      world = record {
        memory = (stands starts at).memory;
        nulls = (stands starts at).nulls;
        bounds = (stands starts at).bounds;
        events = r.world.events;
        answers = r.world.answers;
        allocs = r.world.allocs;
      };
      known = r.known ∙ sym at.long;
      globals = r.globals;
      mates = mates_marked owner_rights R r.homes r.hides s.world.memory k t.world.memory n starts at no_whole r.mates;
      hidden = r.hidden;
      count = r.count;
      instances = r.instances;
    }

    same_slot : (slot : Slot) → Contains s.top.slots slot
        → IsOwnSlot b r.homes r.hides (record s.top { at = s.top.at + 1 }) t.top slot
    same_slot slot own' =
        by (is_coroutine b s.top.func && lies_in_frame (offsets X) slot.alloca) (r.top.slots slot own')
      where
        by : (f : Bool) → IsSlotBy b r.homes r.hides s.top t.top slot f
            → IsSlotBy b r.homes r.hides (record s.top { at = s.top.at + 1 }) t.top slot f
        by true p = p
        by false p = record { block = p.block; home = p.home; own = p.own }

    still : (place X (record { block = s.top.block; at = s.top.at + 1 })).at
        ≡ (place X (record { block = s.top.block; at = s.top.at })).at
    still = stays b g given s t r starts must_tail ty size t' name h unmarked

    top_now : AreActivations b r.homes r.hides t (top_place b) (record s.top { at = s.top.at + 1 }) t.top
    top_now = record {
      func = r.top.func;
      place = place_still b g given s t r h.coroutine h.mode h.unreturned still;
      result = r.top.result;
      mode = r.top.mode;
      instance = r.top.instance;
      has_left = r.top.has_left;
      values = values_of b r.homes R t (record s.top { at = s.top.at + 1 }) t.top (is_coroutine b s.top.func) h.coroutine
          (after b g given s t r h.coroutine h.mode h.unreturned still);
      slots = same_slot;
    }

    ahead_top : is_coroutine b s.top.func ≡ true → is_first s.top.mode ≡ true → s.top.block ≡ 0
        → AreAhead X r.homes r.hides k t.world.memory (record s.top { at = s.top.at + 1 }) t.top
    ahead_top coroutine first block = record {
      slots = λ d u align ty' there le out.
          let p = (r.ahead.0 coroutine first block).slots d u align ty' there (omega (arith, le)) out in
          ahead_on X t.top u align ty' p
          (apart_top (record { alloca = u; block = p.block }) p.own (old_name u (z.names d u align ty' there)));
      temporaries = λ f d align ty' listed' there le.
          let p = (r.ahead.0 coroutine first block).temporaries f d align ty' listed' there (omega (arith, le)) in
          ahead_on X t.top f.temporary f.align f.ty p
          (apart_top (record { alloca = f.temporary; block = p.block }) p.own
          (λ same. z.made d f.slot align ty' there block (omega (arith, le)) (z.alone f e listed' listed same ∙ named)));
    }
      where
        old_name : (u : ℕ) → u < length (edged X).names → u ≡ e.temporary → ⊥
        old_name u lt same =
            let new : length (written X).names ≤ e.temporary = (slots_new X e listed).0 in
            let a : Far X is ≤ length (written X).names = far_written X is in
            omega (arith, lt, new, a, same)

    related : AreBuiltOf b (record s { world = w; top = record s.top { at = s.top.at + 1 } }) t
    related =
        moved_related b s t r r.homes r.hides s.instances t.instances w t.world (record s.top { at = s.top.at + 1 })
        t.top moves moved_now (record {
          top = top_now;
          once = r.once;
          cells = λ coroutine slot own' cell.
              free_on slot.block
              (apart_top slot own' (λ p. (cell_of slot.alloca cell).no_temporary e listed (sym p)))
              (r.cells.0 coroutine slot own' cell);
          ahead = ahead_top;
        })
      where
        cell_of : (u : ℕ) → IsCellName (b.framing t.top.func) u → IsCellName X u
        cell_of u = subst (λ (f : ℕ). IsCellName (b.framing f) u) r.top.func

    pub goes : IsFollowed b g s t
    goes =
        none_followed b g given s t h.coroutine i h.there
        (record s { world = w; top = record s.top { at = s.top.at + 1 } })
        (steps b g given s t r starts must_tail ty size t' name h unmarked off) refl refl refl related

  pub early_marker_followed : IsFollowed b g s t
  early_marker_followed = by unplaced
    where
      by : IsUnplacedSlot X r.homes r.hides t.top z.slot → IsFollowed b g s t
      by (inl p) = absurd (p.1 z.early z.listed (z.slot_is ∙ sym z.alloca))
      by (inr p) = goes p.0 p.1 p.2 p.3 p.4 p.5 p.6
