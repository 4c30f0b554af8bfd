-- The words that put slots into the frame, sentence by sentence.
use Rattle.std.proofs.Common.{◌≡◌, ℕ, ◌<◌, Bool, true, false, List, [], ◌∷◌, ◌++◌, Option, Some, None, sym, ap, ◌∙◌, subst, ⊎_elim, inl, inr}
use Rattle.std.specs.Prelude.{◌⊎◌, ◌==◌, IsTrue, bit_and, bit_or, option_to_list, slice_get}
use Rattle.std.proofs.lemmas.Bool.{false≢true}
use Rattle.flow_bits.specs.Bits.{HasBit}
use Rattle.ir_model.specs.declared.module.Function.{Function}
use Rattle.ir_model.specs.declared.operand.Intrinsic.{Intrinsic}
use Rattle.ir_paths.proofs.Search.{either, eq_from, eq_itself, or_left}
use Rattle.ir_paths.specs.Paths.{Leads, has_point}
use Rattle.ir_paths.specs.Slots.{has_name, is_escaped, promise_of}
use Rattle.ir_paths.specs.declared.point.Point.{Point}
use Rattle.flow_reach.specs.Reached.{HaveShape, IsPointOf}
use Rattle.frame_classes.proofs.Coming.{Avoids, SpotLeads, coming_complete, coming_sound}
use Rattle.frame_classes.proofs.Flips.{all_bit}
use Rattle.frame_classes.proofs.Gathers.{HasSpot, any_complete, any_sound, spots_complete, spots_sound}
use Rattle.frame_classes.proofs.Late.{late_complete, late_sound}
use Rattle.frame_classes.proofs.Passing.{shape_of_calls, shape_of_none}
use Rattle.frame_classes.proofs.Places.{call_complete, call_sound, set_told}
use Rattle.frame_classes.proofs.Shapes.{bit_point, point_inside, shape_of_zip}
use Rattle.frame_classes.proofs.Slots.{alive_stops_shape, avoids_ends, avoids_parting, escaped_complete, escaped_sound, start_complete, start_sound, starts_shape, touch_complete, touch_point, touch_sound, unmarked_complete, unmarked_sound, use_complete, use_point, use_sound, uses_shape}
use Rattle.frame_classes.proofs.Zips.{common_complete, common_sound, joined_left, joined_right, joined_sound, kept_sound}
use Rattle.frame_classes.specs.Alive.{MayBeAlive, markers_of}
use Rattle.frame_classes.specs.Classes.{IsAliveAcross, IsUsedAcross, IsUsedAway, NeedsFrame, parting, suspends}
use Rattle.frame_classes.specs.Rows.{all_bits, block_words, call_rows, common, joined, kept_rows, rows_word, set_rows}
use Rattle.frame_classes.specs.Words.{AreAliveRows, AreBehindRows, AreComing, IsAcrossWord, IsAliveWord, IsChunkOf, IsFrameWord, IsMetWord, IsPlanOf, away_word, birth_rows, end_rows, late_word, none_rows, parting_rows, promise_word, spots_word, touch_rows, unmarked_word}
use Rattle.frame_classes.specs.Words.IsAliveWord.{NoneEscapes, SomeEscape}
use Rattle.frame_classes.specs.declared.chunk.Chunk.{Chunk}
use Rattle.frame_classes.specs.declared.plan.Plan.{Plan}
use Rattle.frame_slots.specs.rule_slots.Closed.{IsClosed}
use Rattle.frame_slots.proofs.Bits.{both_bits, common_bit, left_bit, no_bit, one_bit, right_bit}
use Rattle.frame_slots.specs.Spots.{IsUse, LeadsFrom, Spot, point_at}
use Rattle.frame_slots.specs.Spots.Spot.{At, On}
use Rattle.frame_slots.specs.Uses.{ends_of, starts_of}
use Rattle.frame_slots.specs.Words.{word_at_point}
use Rattle.frame_slots.specs.rule_windows.Sets.{IsAfterEnd}

-- ---- a function's rows

module _ (f : Function) (p : Plan) (plan : IsPlanOf f p) (c : ℕ) (lt : c < 64) where
  avoids_none : Avoids f (none_rows f) c []
  avoids_none = record { each = λ q q_is. (λ h. absurd (false≢true h), λ h. absurd (no_bit c (kept_sound 0 (call_rows Intrinsic.CoroSuspend all_bits f) q c h).1)) }

  same_rows : (a b : List (List ℕ)) (q : Point) → a ≡ b → HasBit (word_at_point a q) c → HasBit (word_at_point b q) c
  same_rows a b q e h = subst (λ (r : List (List ℕ)). HasBit (word_at_point r q) c) e h

  pub suspend_sound : (q : Point) → HasBit (word_at_point p.suspends q) c → has_point (suspends f) q ≡ true
  suspend_sound q h = (call_sound Intrinsic.CoroSuspend all_bits f q c (same_rows p.suspends (call_rows Intrinsic.CoroSuspend all_bits f) q plan.suspends h)).0

  pub suspend_complete : (q : Point) → has_point (suspends f) q ≡ true → HasBit (word_at_point p.suspends q) c
  suspend_complete q h = same_rows (call_rows Intrinsic.CoroSuspend all_bits f) p.suspends q (sym plan.suspends) (call_complete Intrinsic.CoroSuspend all_bits f q c h (all_bit c lt))

  pub suspend_point : (q : Point) → has_point (suspends f) q ≡ true → IsPointOf f q
  suspend_point q h = bit_point f (call_rows Intrinsic.CoroSuspend all_bits f) (shape_of_calls Intrinsic.CoroSuspend all_bits f) q c (call_complete Intrinsic.CoroSuspend all_bits f q c h (all_bit c lt))

  -- after the end
  pub after_sound : (q : Point) → HasBit (word_at_point p.after q) c → IsAfterEnd f q
  after_sound q h = by (coming_sound f c lt (call_rows Intrinsic.CoroEnd all_bits f) [] (none_rows f) p.after [] plan.after avoids_none q h)
    where
      from_spot : (spot : Spot) → HasSpot (call_rows Intrinsic.CoroEnd all_bits f) [] c spot → LeadsFrom f [] spot q → IsAfterEnd f q
      from_spot (At e) has leads = record { start = e; is_start = (call_sound Intrinsic.CoroEnd all_bits f e c has).0; path = leads }
      from_spot (On from to) has leads = absurd has.is_listed

      by : SpotLeads f (call_rows Intrinsic.CoroEnd all_bits f) [] c [] q → IsAfterEnd f q
      by s = from_spot s.spot s.has s.leads

  pub after_complete : (q : Point) → IsPointOf f q → IsAfterEnd f q → HasBit (word_at_point p.after q) c
  after_complete q is a =
      coming_complete f c lt (call_rows Intrinsic.CoroEnd all_bits f) [] (none_rows f) p.after [] plan.after avoids_none
      (shape_of_calls Intrinsic.CoroEnd all_bits f) (shape_of_none f) q is (At a.start) (call_complete Intrinsic.CoroEnd all_bits f a.start c a.is_start (all_bit c lt)) a.path

  -- after the end and in windows
  closed_rows : List (List ℕ)
  closed_rows = joined p.after (set_rows plan.closed.set 0 f.blocks)

  pub closed_shape : HaveShape f (joined p.after (set_rows plan.closed.set 0 f.blocks))
  closed_shape = shape_of_zip f bit_or p.after (set_rows plan.closed.set 0 f.blocks) plan.after.shape

  pub closed_sound : (q : Point) → HasBit (word_at_point p.closed q) c → IsClosed f q
  closed_sound q h =
      let in_rows = same_rows p.closed (joined p.after (set_rows plan.closed.set 0 f.blocks)) q plan.closed.is h in
      let is = bit_point f (joined p.after (set_rows plan.closed.set 0 f.blocks)) closed_shape q c in_rows in
      ⊎_elim
      (λ after. inl (after_sound q after))
      (λ inside. inr ((plan.closed.is_set.each q).0 ((set_told plan.closed.set f q c lt is).0 inside)))
      (joined_sound p.after (set_rows plan.closed.set 0 f.blocks) q c in_rows)

  pub closed_complete : (q : Point) → IsPointOf f q → IsClosed f q → HasBit (word_at_point p.closed q) c
  closed_complete q is closed =
      let inside = point_inside f p.after plan.after.shape q is in
      same_rows (joined p.after (set_rows plan.closed.set 0 f.blocks)) p.closed q (sym plan.closed.is)
      (⊎_elim
      (λ a. joined_left p.after (set_rows plan.closed.set 0 f.blocks) q c (after_complete q is a))
      (λ w. joined_right p.after (set_rows plan.closed.set 0 f.blocks) q c inside.0 inside.1 ((set_told plan.closed.set f q c lt is).1 ((plan.closed.is_set.each q).1 w)))
      closed)

-- ---- a slot's words

module _ (f : Function) (p : Plan) (plan : IsPlanOf f p) (slots : List ℕ) (ch : Chunk) (is : IsChunkOf f slots ch) (c slot : ℕ) (lt : c < 64) (at : slice_get slots c ≡ Some slot) where
  abbrev stops_of : List Point
  stops_of = parting (is_escaped f slot) f slot

  -- ---- used away

  away_behind : AreBehindRows f (block_words p.suspends) (none_rows f) p.behind
  away_behind = subst (λ (o : List ℕ). AreBehindRows f o (none_rows f) p.behind) plan.own plan.behind

  late_is : HasBit (late_word f (touch_rows ch) ch.edges p.own p.behind) c → HasBit (late_word f (touch_rows ch) ch.edges (block_words p.suspends) p.behind) c
  late_is h = subst (λ (o : List ℕ). HasBit (late_word f (touch_rows ch) ch.edges o p.behind) c) plan.own h

  is_late : HasBit (late_word f (touch_rows ch) ch.edges (block_words p.suspends) p.behind) c → HasBit (late_word f (touch_rows ch) ch.edges p.own p.behind) c
  is_late h = subst (λ (o : List ℕ). HasBit (late_word f (touch_rows ch) ch.edges o p.behind) c) (sym plan.own) h

  pub away_sound : HasBit (away_word f p ch) c → IsUsedAway f slot
  away_sound h =
      let two = both_bits (spots_word f ch.uses ch.edges p.closed) (late_word f (touch_rows ch) ch.edges p.own p.behind) c h in
      let early = spots_sound f ch.uses ch.edges p.closed c two.0 in
      let late = late_sound f c lt (touch_rows ch) ch.edges p.suspends [] (none_rows f) p.behind away_behind (avoids_none f p plan c lt) (late_is two.1) in
      record {
        early = early.spot;
        is_use = use_sound f slots ch is c slot lt at early.spot early.has;
        is_away = closed_sound f p plan c lt (point_at f early.spot) early.met;
        suspend = late.suspend;
        is_suspend = suspend_sound f p plan c lt late.suspend late.comes;
        late = late.spot;
        touches = touch_sound f slots ch is c slot lt at late.spot late.stands;
        is_behind = late.behind;
      }

  pub away_complete : IsUsedAway f slot → HasBit (away_word f p ch) c
  away_complete a =
      common_bit (spots_word f ch.uses ch.edges p.closed) (late_word f (touch_rows ch) ch.edges p.own p.behind) c
      (spots_complete f ch.uses ch.edges p.closed c a.early (use_complete f slots ch is c slot lt at a.early a.is_use)
      (closed_complete f p plan c lt (point_at f a.early) (use_point f slots ch is c slot lt at a.early a.is_use) a.is_away))
      (is_late
      (late_complete f c lt (touch_rows ch) ch.edges p.suspends [] (none_rows f) p.behind away_behind (avoids_none f p plan c lt)
      a.suspend (suspend_point f p plan c lt a.suspend a.is_suspend) (suspend_complete f p plan c lt a.suspend a.is_suspend)
      a.late (touch_point f slots ch is c slot lt at a.late a.touches) a.is_behind (touch_complete f slots ch is c slot lt at a.late a.touches)))

  -- ---- uses that come to suspends

  pub record ComesTo (s : Point) : Type 0 where
    pub is_suspend : IsTrue (has_point (suspends f) s)
    pub early : Spot
    pub is_use : IsUse f slot early
    pub comes : LeadsFrom f stops_of early s

  module _ (rows : List (List ℕ)) (are : AreComing f p ch rows) where
    pub comes_sound : (s : Point) → HasBit (word_at_point rows s) c → ComesTo s
    comes_sound s h =
        let two = common_sound p.suspends are.reached s c (same_rows f p plan c lt rows (common p.suspends are.reached) s are.is h) in
        let r = coming_sound f c lt ch.uses ch.edges (parting_rows ch) are.reached stops_of are.are_reached (avoids_parting f slots ch is c slot lt at) s two.1 in
        record {
          is_suspend = suspend_sound f p plan c lt s two.0;
          early = r.spot;
          is_use = use_sound f slots ch is c slot lt at r.spot r.has;
          comes = r.leads;
        }

    pub comes_complete : HaveShape f (parting_rows ch) → (s : Point) → has_point (suspends f) s ≡ true → (early : Spot) → IsUse f slot early → LeadsFrom f stops_of early s → HasBit (word_at_point rows s) c
    comes_complete shape s is_suspend early is_use leads =
        same_rows f p plan c lt (common p.suspends are.reached) rows s (sym are.is)
        (common_complete p.suspends are.reached s c (suspend_complete f p plan c lt s is_suspend)
        (coming_complete f c lt ch.uses ch.edges (parting_rows ch) are.reached stops_of are.are_reached (avoids_parting f slots ch is c slot lt at)
        (uses_shape f slots ch is c slot lt at) shape s (suspend_point f p plan c lt s is_suspend) early (use_complete f slots ch is c slot lt at early is_use) leads))

  pub across_sound : (rows : List (List ℕ)) → AreComing f p ch rows → (word : ℕ) → IsAcrossWord f ch rows word → HasBit word c → IsUsedAcross f slot
  across_sound rows are word across h =
      let late = late_sound f c lt (touch_rows ch) ch.edges rows stops_of (parting_rows ch) across.behind across.are_behind (avoids_parting f slots ch is c slot lt at) (subst (λ (w : ℕ). HasBit w c) across.is h) in
      let first = comes_sound rows are late.suspend late.comes in
      record {
        early = first.early;
        is_use = first.is_use;
        suspend = late.suspend;
        is_suspend = first.is_suspend;
        comes = first.comes;
        late = late.spot;
        touches = touch_sound f slots ch is c slot lt at late.spot late.stands;
        is_behind = late.behind;
      }

  pub across_complete : (rows : List (List ℕ)) → AreComing f p ch rows → (word : ℕ) → IsAcrossWord f ch rows word → HaveShape f (parting_rows ch) → IsUsedAcross f slot → HasBit word c
  across_complete rows are word across shape a =
      subst (λ (w : ℕ). HasBit w c) (sym across.is)
      (late_complete f c lt (touch_rows ch) ch.edges rows stops_of (parting_rows ch) across.behind across.are_behind (avoids_parting f slots ch is c slot lt at)
      a.suspend (suspend_point f p plan c lt a.suspend a.is_suspend) (comes_complete rows are shape a.suspend a.is_suspend a.early a.is_use a.comes)
      a.late (touch_point f slots ch is c slot lt at a.late a.touches) a.is_behind (touch_complete f slots ch is c slot lt at a.late a.touches))

  -- ---- alive

  empty_right : (xs ys : List Point) → xs ++ ys ≡ [] → ys ≡ []
  empty_right [] ys e = e
  empty_right (x ∷ xs) ys e = absurd (cc)

  no_ends : markers_of f slot ≡ [] → ends_of f slot ≡ []
  no_ends e = empty_right (starts_of f slot) (ends_of f slot) e

  pub alive_sound : is_escaped f slot ≡ true → (alive : List (List ℕ)) → AreAliveRows f ch alive → (q : Point) → HasBit (word_at_point alive q) c → MayBeAlive f slot q
  alive_sound e alive are q h = by (coming_sound f c lt (birth_rows f ch) [] (kept_rows ch.escaped (end_rows f ch)) alive (ends_of f slot) are (avoids_ends f slots ch is c slot lt at e) q h)
    where
      from_spot : (spot : Spot) → HasSpot (birth_rows f ch) [] c spot → LeadsFrom f (ends_of f slot) spot q → MayBeAlive f slot q
      from_spot (At b) has leads = ⊎_elim
          (λ start. MayBeAlive.Started b (start_sound f slots ch is c slot lt at b start) leads)
          (λ begin.
          let two = call_sound Intrinsic.CoroBegin (unmarked_word f ch) f b c begin in
          let none = unmarked_sound f slots ch is c slot lt at two.1 in
          MayBeAlive.Unmarked b none two.0 (subst (λ (l : List Point). Leads f l b q) (no_ends none) leads))
          (joined_sound ch.starts (call_rows Intrinsic.CoroBegin (unmarked_word f ch) f) b c has)
      from_spot (On from to) has leads = absurd has.is_listed

      by : SpotLeads f (birth_rows f ch) [] c (ends_of f slot) q → MayBeAlive f slot q
      by s = from_spot s.spot s.has s.leads

  birth_shape : HaveShape f (birth_rows f ch)
  birth_shape = shape_of_zip f bit_or ch.starts (call_rows Intrinsic.CoroBegin (unmarked_word f ch) f) (starts_shape f slots ch is c slot lt at)

  pub alive_complete : is_escaped f slot ≡ true → (alive : List (List ℕ)) → AreAliveRows f ch alive → (q : Point) → IsPointOf f q → MayBeAlive f slot q → HasBit (word_at_point alive q) c
  alive_complete e alive are q q_is (MayBeAlive.Started start is_start leads) =
      coming_complete f c lt (birth_rows f ch) [] (kept_rows ch.escaped (end_rows f ch)) alive (ends_of f slot) are (avoids_ends f slots ch is c slot lt at e) birth_shape (alive_stops_shape f slots ch is c slot lt at) q q_is (At start)
      (joined_left ch.starts (call_rows Intrinsic.CoroBegin (unmarked_word f ch) f) start c (start_complete f slots ch is c slot lt at start is_start)) leads
  alive_complete e alive are q q_is (MayBeAlive.Unmarked begin none is_begin leads) =
      let has = call_complete Intrinsic.CoroBegin (unmarked_word f ch) f begin c is_begin (unmarked_complete f slots ch is c slot lt at none) in
      let inside = point_inside f ch.starts (starts_shape f slots ch is c slot lt at) begin (bit_point f (call_rows Intrinsic.CoroBegin (unmarked_word f ch) f) (shape_of_calls Intrinsic.CoroBegin (unmarked_word f ch) f) begin c has) in
      coming_complete f c lt (birth_rows f ch) [] (kept_rows ch.escaped (end_rows f ch)) alive (ends_of f slot) are (avoids_ends f slots ch is c slot lt at e) birth_shape (alive_stops_shape f slots ch is c slot lt at) q q_is (At begin)
      (joined_right ch.starts (call_rows Intrinsic.CoroBegin (unmarked_word f ch) f) begin c inside.0 inside.1 has)
      (subst (λ (l : List Point). Leads f l begin q) (sym (no_ends none)) leads)

  none_parts : is_escaped f slot ≡ true → stops_of ≡ []
  none_parts e = ap (λ (b : Bool). parting b f slot) e

  abbrev met_rows : List (List ℕ) → List (List ℕ) → ℕ
  met_rows rows alive = rows_word 0 (common rows alive)

  abbrev after_word : List (List ℕ) → ℕ
  after_word alive = bit_and (spots_word f ch.uses ch.edges p.after) (rows_word 0 (common p.suspends alive))

  pub met_sound : (rows : List (List ℕ)) → AreComing f p ch rows → (word : ℕ) → IsMetWord f p ch rows word → HasBit word c → IsAliveAcross f slot
  met_sound rows are word known h =
      let two = both_bits ch.escaped (bit_or (met_rows rows known.alive) (after_word known.alive)) c (subst (λ (w : ℕ). HasBit w c) known.is h) in
      let e = escaped_sound f slots ch is c slot lt at two.0 in
      ⊎_elim (λ met. by_use e (any_sound 0 (common rows known.alive) c met)) (λ after. by_end e after) (one_bit (met_rows rows known.alive) (after_word known.alive) c two.1)
    where
      by_use : is_escaped f slot ≡ true → HasBit 0 c ⊎ ((q : Point) × HasBit (word_at_point (common rows known.alive) q) c) → IsAliveAcross f slot
      by_use e (inl none) = absurd (no_bit c none)
      by_use e (inr found) =
          let two = common_sound rows known.alive found.0 c found.1 in
          let first = comes_sound rows are found.0 two.0 in
          record {
            is_escaped = e;
            suspend = found.0;
            is_suspend = first.is_suspend;
            is_alive = alive_sound e known.alive known.are_alive found.0 two.1;
            spot = first.early;
            is_use = first.is_use;
            meets = inl (subst (λ (l : List Point). LeadsFrom f l first.early found.0) (none_parts e) first.comes);
          }

      at_suspend : is_escaped f slot ≡ true → (spot : Spot) → IsUse f slot spot → IsAfterEnd f (point_at f spot) → HasBit 0 c ⊎ ((q : Point) × HasBit (word_at_point (common p.suspends known.alive) q) c) → IsAliveAcross f slot
      at_suspend e spot u a (inl none) = absurd (no_bit c none)
      at_suspend e spot u a (inr found) =
          let two = common_sound p.suspends known.alive found.0 c found.1 in
          record {
            is_escaped = e;
            suspend = found.0;
            is_suspend = suspend_sound f p plan c lt found.0 two.0;
            is_alive = alive_sound e known.alive known.are_alive found.0 two.1;
            spot = spot;
            is_use = u;
            meets = inr a;
          }

      by_end : is_escaped f slot ≡ true → HasBit (after_word known.alive) c → IsAliveAcross f slot
      by_end e h =
          let two = both_bits (spots_word f ch.uses ch.edges p.after) (rows_word 0 (common p.suspends known.alive)) c h in
          let m = spots_sound f ch.uses ch.edges p.after c two.0 in
          at_suspend e m.spot (use_sound f slots ch is c slot lt at m.spot m.has) (after_sound f p plan c lt (point_at f m.spot) m.met) (any_sound 0 (common p.suspends known.alive) c two.1)

  pub met_complete : (rows : List (List ℕ)) → AreComing f p ch rows → (word : ℕ) → IsMetWord f p ch rows word → HaveShape f (parting_rows ch) → IsAliveAcross f slot → HasBit word c
  met_complete rows are word known shape a =
      let s_is = suspend_point f p plan c lt a.suspend a.is_suspend in
      let alive = alive_complete a.is_escaped known.alive known.are_alive a.suspend s_is a.is_alive in
      subst (λ (w : ℕ). HasBit w c) (sym known.is)
      (common_bit ch.escaped (bit_or (met_rows rows known.alive) (after_word known.alive)) c (escaped_complete f slots ch is c slot lt at a.is_escaped)
      (⊎_elim
      (λ leads. left_bit (met_rows rows known.alive) (after_word known.alive) c
      (any_complete 0 (common rows known.alive) c a.suspend
      (common_complete rows known.alive a.suspend c
      (comes_complete rows are shape a.suspend a.is_suspend a.spot a.is_use (subst (λ (l : List Point). LeadsFrom f l a.spot a.suspend) (sym (none_parts a.is_escaped)) leads))
      alive)))
      (λ after. right_bit (met_rows rows known.alive) (after_word known.alive) c
      (common_bit (spots_word f ch.uses ch.edges p.after) (rows_word 0 (common p.suspends known.alive)) c
      (spots_complete f ch.uses ch.edges p.after c a.spot (use_complete f slots ch is c slot lt at a.spot a.is_use) (after_complete f p plan c lt (point_at f a.spot) (use_point f slots ch is c slot lt at a.spot a.is_use) after))
      (any_complete 0 (common p.suspends known.alive) c a.suspend (common_complete p.suspends known.alive a.suspend c (suspend_complete f p plan c lt a.suspend a.is_suspend) alive))))
      a.meets))

  pub across_alive_sound : (rows : List (List ℕ)) → AreComing f p ch rows → (word : ℕ) → IsAliveWord f p ch rows word → HasBit word c → IsAliveAcross f slot
  across_alive_sound rows are word (NoneEscapes none is_zero) h = absurd (no_bit c (subst (λ (w : ℕ). HasBit w c) is_zero h))
  across_alive_sound rows are word (SomeEscape met) h = met_sound rows are word met h

  pub across_alive_complete : (rows : List (List ℕ)) → AreComing f p ch rows → (word : ℕ) → IsAliveWord f p ch rows word → HaveShape f (parting_rows ch) → IsAliveAcross f slot → HasBit word c
  across_alive_complete rows are word (NoneEscapes none is_zero) shape a = absurd (no_bit c (subst (λ (w : ℕ). HasBit w c) none (escaped_complete f slots ch is c slot lt at a.is_escaped)))
  across_alive_complete rows are word (SomeEscape met) shape a = met_complete rows are word met shape a

  -- ---- the promise

  some_same : (o : Option ℕ) (a b : ℕ) → o ≡ Some a → o ≡ Some b → a ≡ b
  some_same o a b e k = let same : Some a ≡ Some b = sym e ∙ k in cc

  promise_sound : (o : Option ℕ) → HasBit (promise_word o ch.own) c → has_name (option_to_list o) slot ≡ true
  promise_sound None h = absurd (no_bit c h)
  promise_sound (Some v) h =
      let same = some_same (slice_get slots c) v slot ((is.own.each v c lt).0 h) at in
      or_left (v == slot) false (subst (λ (x : ℕ). (v == x) ≡ true) same (eq_itself v))

  promise_complete : (o : Option ℕ) → has_name (option_to_list o) slot ≡ true → HasBit (promise_word o ch.own) c
  promise_complete None h = absurd (false≢true h)
  promise_complete (Some v) h = ⊎_elim
      (λ same. (is.own.each v c lt).1 (at ∙ ap (λ (x : ℕ). Some x) (sym (eq_from v slot same))))
      (λ none. absurd (false≢true none))
      (either (v == slot) false h)

  -- ---- all together

  abbrev rest_of : ℕ → ℕ → ℕ
  rest_of across alive = bit_or (away_word f p ch) (bit_or across alive)

  pub frame_sound : (word : ℕ) → IsFrameWord f p ch word → HasBit word c → NeedsFrame f slot
  frame_sound word w h = ⊎_elim
      (λ promise. NeedsFrame.Promise (promise_sound (promise_of f) (subst (λ (o : Option ℕ). HasBit (promise_word o ch.own) c) plan.promise promise)))
      (λ rest. ⊎_elim
      (λ away. NeedsFrame.Away (away_sound away))
      (λ later. ⊎_elim
      (λ across. NeedsFrame.Across (across_sound w.rows w.are_coming w.across w.is_across across))
      (λ alive. NeedsFrame.Alive (across_alive_sound w.rows w.are_coming w.alive w.is_alive alive))
      (one_bit w.across w.alive c later))
      (one_bit (away_word f p ch) (bit_or w.across w.alive) c rest))
      (one_bit (promise_word p.promise ch.own) (rest_of w.across w.alive) c (subst (λ (x : ℕ). HasBit x c) w.is h))

  pub frame_complete : HaveShape f (parting_rows ch) → (word : ℕ) → IsFrameWord f p ch word → NeedsFrame f slot → HasBit word c
  frame_complete shape word w (NeedsFrame.Promise e) =
      subst (λ (x : ℕ). HasBit x c) (sym w.is)
      (left_bit (promise_word p.promise ch.own) (rest_of w.across w.alive) c (subst (λ (o : Option ℕ). HasBit (promise_word o ch.own) c) (sym plan.promise) (promise_complete (promise_of f) e)))
  frame_complete shape word w (NeedsFrame.Away a) =
      subst (λ (x : ℕ). HasBit x c) (sym w.is)
      (right_bit (promise_word p.promise ch.own) (rest_of w.across w.alive) c (left_bit (away_word f p ch) (bit_or w.across w.alive) c (away_complete a)))
  frame_complete shape word w (NeedsFrame.Across a) =
      subst (λ (x : ℕ). HasBit x c) (sym w.is)
      (right_bit (promise_word p.promise ch.own) (rest_of w.across w.alive) c
      (right_bit (away_word f p ch) (bit_or w.across w.alive) c (left_bit w.across w.alive c (across_complete w.rows w.are_coming w.across w.is_across shape a))))
  frame_complete shape word w (NeedsFrame.Alive a) =
      subst (λ (x : ℕ). HasBit x c) (sym w.is)
      (right_bit (promise_word p.promise ch.own) (rest_of w.across w.alive) c
      (right_bit (away_word f p ch) (bit_or w.across w.alive) c (right_bit w.across w.alive c (across_alive_complete w.rows w.are_coming w.alive w.is_alive shape a))))
