-- Which slots may be alive at the suspends, by words.
use Rattle.std.proofs.Common.{◌≡◌, ℕ, ◌+◌, ◌*◌, ◌/◌, ◌%◌, ◌<◌, ◌≤◌, ◌⊎◌, Bool, true, false, List, [], ◌∷◌, map, Some, Option, refl, sym, ap, ◌∙◌, subst, ⊎_elim, inl, inr, arith}
use Rattle.std.specs.Prelude.{bit_or, bit_xor, slice_get, if◌then◌else◌}
use Rattle.std.proofs.lemmas.Bool.{false≢true}
use Rattle.flow_bits.specs.Bits.{HasBit}
use Rattle.frame_classes.specs.flow_blocks.Words.{word_at}
use Rattle.flow_solver.proofs.Lists.{listed_at, same_place}
use Rattle.ir_model.specs.declared.module.Function.{Function}
use Rattle.ir_model.specs.declared.operand.Intrinsic.{Intrinsic}
use Rattle.ir_paths.specs.Paths.{Leads, has_point}
use Rattle.ir_paths.specs.Slots.{allocas_of}
use Rattle.ir_paths.specs.Windows.{is_call_of}
use Rattle.ir_paths.specs.declared.point.Point.{Point}
use Rattle.flow_points.specs.Reached.{IsReached}
use Rattle.flow_points.specs.Rows.{is_marked}
use Rattle.frame_classes.proofs.flow_reach.Bits.{flipped_off, flipped_on, left_bit, one_bit, right_bit}
use Rattle.frame_classes.specs.flow_reach.Reached.{IsPointOf, word_at_point}
use Rattle.frame_classes.specs.flow_reach.Rows.{all_bits}
use Rattle.frame_conflicts.proofs.Places.{in_chunk, instr_point, listed_has, map_some, same_chunk, some_map, word_of_some, word_some}
use Rattle.frame_conflicts.specs.Conflicts.{AliveAt, IsFrameSlotAt}
use Rattle.frame_conflicts.specs.Known.{IsFrameAt, chunk_slots}
use Rattle.frame_conflicts.specs.Started.{AreStarted, HaveMarkers, IsStarted}
use Rattle.frame_conflicts.specs.Suspended.{IsAliveAtSuspend, TellSlot, TellSuspends, alive_word}
use Rattle.frame_classes.specs.Alive.{MayBeAlive, markers_of}
use Rattle.frame_classes.specs.Alive.MayBeAlive.{Unmarked, Started}
use Rattle.frame_classes.specs.Classes.{suspends}
use Rattle.frame_classes.proofs.frame_slots.Points.{where_sound}
use Rattle.frame_classes.specs.rule_windows.Points.{begins}
use Rattle.frame_classes.specs.rule_windows.Sets.{AreThose}

module _ (f : Function) (slots : List ℕ) (rows : List (List ℕ)) (marked : ℕ) (behind : List (List Bool)) (started : AreStarted f slots rows) (markers : HaveMarkers f slots marked) (set : AreThose (IsReached f (begins f) []) behind) where
  module _ (p : Point) (at : IsPointOf f p) (c slot : ℕ) (lt : c < 64) (is : slice_get slots c ≡ Some slot) where
    of_start : HasBit (word_at_point rows p) c → MayBeAlive f slot p
    of_start h = let s : IsStarted f slot p = (started.each p c slot at lt is).0 h in Started s.start s.is_start s.leads

    word_alive : HasBit (alive_word rows marked behind p) c → MayBeAlive f slot p
    word_alive h = by (is_marked behind p) refl h
      where
        by : (b : Bool) → is_marked behind p ≡ b → HasBit (if b then bit_or (word_at_point rows p) (bit_xor marked all_bits) else word_at_point rows p) c → MayBeAlive f slot p
        by true e has = ⊎_elim
            of_start
            (λ other.
            let r : IsReached f (begins f) [] p = (set.each p).0 e in
            Unmarked r.start (markers.unmarked c slot lt is (flipped_off marked c lt other)) r.is_start r.path)
            (one_bit (word_at_point rows p) (bit_xor marked all_bits) c has)
        by false e has = of_start has

    alive_has : MayBeAlive f slot p → HasBit (alive_word rows marked behind p) c
    alive_has (Unmarked begin none is_begin leads) =
        subst (λ (b : Bool). HasBit (if b then bit_or (word_at_point rows p) (bit_xor marked all_bits) else word_at_point rows p) c) (sym ((set.each p).1 (record { start = begin; is_start = is_begin; path = leads })))
        (right_bit (word_at_point rows p) (bit_xor marked all_bits) c (flipped_on marked c lt (λ h. markers.marked c slot lt is h none)))
    alive_has (Started start is_start leads) = by (is_marked behind p)
      where
        has : HasBit (word_at_point rows p) c
        has = (started.each p c slot at lt is).1 (record { start = start; is_start = is_start; leads = leads })

        by : (b : Bool) → HasBit (if b then bit_or (word_at_point rows p) (bit_xor marked all_bits) else word_at_point rows p) c
        by true = left_bit (word_at_point rows p) (bit_xor marked all_bits) c has
        by false = has

  suspend_point : (k : ℕ) (p : Point) → slice_get (suspends f) k ≡ Some p → IsPointOf f p
  suspend_point k p e =
      let r = where_sound (is_call_of Intrinsic.CoroSuspend) f p (listed_has (suspends f) p (listed_at (suspends f) k p e)) in
      instr_point f p r.instr r.is

  tell : TellSuspends f slots (map (alive_word rows marked behind) (suspends f))
  tell = record { each = λ k c slot lt is. (to k c slot lt is, from k c slot lt is) }
    where
      to : (k c slot : ℕ) → c < 64 → slice_get slots c ≡ Some slot → HasBit (word_at (map (alive_word rows marked behind) (suspends f)) k) c → IsAliveAtSuspend f slot k
      to k c slot lt is h =
          let w : (x : ℕ) × (slice_get (map (alive_word rows marked behind) (suspends f)) k ≡ Some x) × HasBit x c = word_some (map (alive_word rows marked behind) (suspends f)) k c h in
          let s : (p : Point) × (slice_get (suspends f) k ≡ Some p) × (w.0 ≡ alive_word rows marked behind p) = some_map (alive_word rows marked behind) (suspends f) k w.0 w.1 in
          record {
            suspend = s.0;
            is_suspend = s.1;
            is_alive = word_alive s.0 (suspend_point k s.0 s.1) c slot lt is (subst (λ (x : ℕ). HasBit x c) s.2 w.2);
          }

      from : (k c slot : ℕ) → c < 64 → slice_get slots c ≡ Some slot → IsAliveAtSuspend f slot k → HasBit (word_at (map (alive_word rows marked behind) (suspends f)) k) c
      from k c slot lt is a =
          subst (λ (x : ℕ). HasBit x c)
          (sym (word_of_some (map (alive_word rows marked behind) (suspends f)) k (alive_word rows marked behind a.suspend) (map_some (alive_word rows marked behind) (suspends f) k a.suspend a.is_suspend)))
          (alive_has a.suspend (suspend_point k a.suspend a.is_suspend) c slot lt is a.is_alive)

  pub suspends_told : (points : List Point) (words : List ℕ) → points ≡ suspends f → words ≡ map (alive_word rows marked behind) points → TellSuspends f slots words
  suspends_told points words points_are words_are = subst (TellSuspends f slots) (sym (words_are ∙ ap (map (alive_word rows marked behind)) points_are)) tell

pub slot_told : (f : Function) (chunk i : ℕ) (words : List ℕ) → TellSuspends f (chunk_slots f chunk) words → chunk * 64 ≤ i → i < chunk * 64 + 64 → IsFrameAt f i → TellSlot f i (i % 64) words
slot_told f chunk i words told low high frame = record { each = λ k. (to k, from k) }
  where
    small : i % 64 < 64
    small = omega arith

    is : slice_get (chunk_slots f chunk) (i % 64) ≡ Some frame.slot
    is = in_chunk (allocas_of f) chunk i (same_chunk chunk i low high) ∙ frame.is_slot.stands

    to : (k : ℕ) → HasBit (word_at words k) (i % 64) → AliveAt f i k
    to k h =
        let a : IsAliveAtSuspend f frame.slot k = (told.each k (i % 64) frame.slot small is).0 h in
        record { slot = frame.slot; is_slot = frame.is_slot; suspend = a.suspend; is_suspend = a.is_suspend; is_alive = a.is_alive }

    from : (k : ℕ) → AliveAt f i k → HasBit (word_at words k) (i % 64)
    from k a =
        let same : a.slot ≡ frame.slot = same_place (slice_get (allocas_of f) i) a.slot frame.slot a.is_slot.stands frame.is_slot.stands in
        (told.each k (i % 64) frame.slot small is).1 (record { suspend = a.suspend; is_suspend = a.is_suspend; is_alive = subst (λ (s : ℕ). MayBeAlive f s a.suspend) same a.is_alive })
