-- Which slots conflict, by what is known.
use Rattle.std.proofs.Common.{◌≡◌, ℕ, zero, suc, ◌+◌, ◌-◌, ◌*◌, ◌/◌, ◌%◌, ◌<◌, ◌≤◌, ◌⊎◌, Bool, true, false, ◌||◌, List, [], ◌∷◌, ◌++◌, length, Some, None, Option, refl, sym, ap, ◌∙◌, subst, ⊎_elim, inl, inr, arith, eq-eqb}
use Rattle.std.specs.Prelude.{◌↔◌, IsTrue, not, option_map, slice_get, unwrap_or, ◌==◌}
use Rattle.std.specs.Int.{bit_at}
use Rattle.std.proofs.lemmas.Bool.{eqb-true, false≢true}
use Rattle.std.proofs.lemmas.Option.{slice_get_within}
use Rattle.flow_bits.specs.Bits.{HasBit}
use Rattle.frame_classes.specs.flow_blocks.Words.{word_at}
use Rattle.flow_solver.proofs.Lists.{listed_at, place_of, same_place}
use Rattle.ir_model.specs.declared.instr.Instr.{Instr}
use Rattle.ir_model.specs.declared.module.Function.{Function}
use Rattle.ir_model.specs.declared.operand.Intrinsic.{Intrinsic}
use Rattle.ir_model.specs.Names.{is_local}
use Rattle.ir_paths.proofs.Search.{both, either}
use Rattle.ir_paths.specs.Paths.{IsPath, Leads, has_point, nexts}
use Rattle.ir_paths.specs.Slots.{allocas_of}
use Rattle.ir_paths.specs.Windows.{call_operand, instr_at, is_call_of}
use Rattle.ir_paths.specs.declared.point.Point.{Point}
use Rattle.flow_points.proofs.Neighbours.{IsBranch, IsInner, edge-cases}
use Rattle.flow_points.proofs.Tests.{point-is}
use Rattle.frame_classes.proofs.flow_reach.Ways.{branch_is}
use Rattle.frame_classes.specs.flow_reach.Reached.{row_of}
use Rattle.frame_conflicts.proofs.Frames.{place_in}
use Rattle.frame_conflicts.proofs.Places.{in_chunk}
use Rattle.frame_conflicts.specs.Conflicts.{AreAliveTogether, Conflict, ConflictAt, IsFrameSlotAt, IsUsedEarly}
use Rattle.frame_conflicts.specs.Conflicts.Conflict.{Unmarked, Early, Together}
use Rattle.frame_conflicts.specs.Known.{AreMetFor, IsFrameAt, IsKnown, IsSeen, TellsChunk, are_apart, chunk_slots, have_met_at, is_loose_at, loose_at, seen_at}
use Rattle.frame_conflicts.specs.Looked.{IsLookedBefore, IsOutside}
use Rattle.frame_conflicts.specs.Meeting.{AreMeetings, Meet}
use Rattle.frame_conflicts.specs.Started.{IsStarted}
use Rattle.frame_conflicts.specs.declared.facts.Chunk.{Chunk}
use Rattle.frame_conflicts.specs.declared.facts.Known.{Known}
use Rattle.frame_classes.specs.Alive.{MayBeAlive, markers_of}
use Rattle.frame_classes.specs.Alive.MayBeAlive.{Unmarked as NoMarkers, Started as FromStart}
use Rattle.frame_classes.proofs.frame_slots.Points.{where_sound}
use Rattle.frame_classes.specs.frame_slots.Uses.{ends_of, is_marker_of, starts_of}

-- ---- one point back

record LastStep (f : Function) (avoided : List Point) (p q : Point) : Type 0 where
  pub point : Point
  pub path : Leads f avoided p point
  pub free : has_point avoided point ≡ false
  pub next : has_point (nexts f point) q ≡ true

last_step : (f : Function) (avoided : List Point) (p : Point) (between : List Point) (q : Point) → IsPath f avoided p between q → (has_point (nexts f p) q ≡ true) ⊎ LastStep f avoided p q
last_step f avoided p [] q h = inl h
last_step f avoided p (v ∷ between) q h = inr (⊎_elim
    (λ next. record { point = v; path = record { between = []; is_path = h.0 }; free = h.1; next = next })
    (λ (x : LastStep f avoided v q). record { point = x.point; path = record { between = v ∷ x.path.between; is_path = (h.0, h.1, x.path.is_path) }; free = x.free; next = x.next })
    (last_step f avoided v between q h.2))

abbrev in_block : ℕ → ℕ → Point
in_block n k = record { block = n; at = k }

before_is : (f : Function) (v : Point) (n k : ℕ) → has_point (nexts f v) (in_block n (suc k)) ≡ true → v ≡ in_block n k
before_is f v n k next = ⊎_elim
    (λ (x : IsInner f v (in_block n (suc k))). let step = x.next in point-is v (in_block n k) (sym x.same) (omega (arith, step)))
    (λ (x : IsBranch f v (in_block n (suc k))). let first : suc k ≡ 0 = ap (λ (y : Point). y.at) (branch_is f v (in_block n (suc k)) x).0 in absurd (omega (arith, first)))
    (edge-cases f v (in_block n (suc k)) next)

abbrev NoStart : Function → ℕ → ℕ → Type 0
NoStart f n k = (i : Instr) → instr_at f (in_block n k) ≡ Some i → is_call_of Intrinsic.LifetimeStart i ≡ false

one_back : (f : Function) (slot n k : ℕ) → NoStart f n k → IsStarted f slot (in_block n (suc k)) → IsStarted f slot (in_block n k)
one_back f slot n k quiet s = ⊎_elim
    (λ next.
    let same : s.start ≡ in_block n k = before_is f s.start n k next in
    let r = where_sound (is_marker_of Intrinsic.LifetimeStart slot) f s.start s.is_start in
    let two = both (is_call_of Intrinsic.LifetimeStart r.instr) (is_local slot (call_operand r.instr 1)) r.passes in
    absurd (false≢true (sym (quiet r.instr (ap (instr_at f) (sym same) ∙ r.is)) ∙ two.0)))
    (λ (x : LastStep f (ends_of f slot) s.start (in_block n (suc k))).
    record { start = s.start; is_start = s.is_start; leads = subst (Leads f (ends_of f slot) s.start) (before_is f x.point n k x.next) x.path })
    (last_step f (ends_of f slot) s.start s.leads.between (in_block n (suc k)) s.leads.is_path)

far_back : (f : Function) (slot n a m : ℕ) → ((k : ℕ) → a ≤ k → k < a + m → NoStart f n k) → IsStarted f slot (in_block n (a + m)) → IsStarted f slot (in_block n a)
far_back f slot n a zero quiet s = let z : a + 0 ≡ a = omega arith in subst (λ (k : ℕ). IsStarted f slot (in_block n k)) z s
far_back f slot n a (suc m) quiet s =
    let step : a + suc m ≡ suc (a + m) = omega arith in
    far_back f slot n a m (λ k le lt. quiet k le (omega (arith, lt)))
    (one_back f slot n (a + m) (quiet (a + m) (omega arith) (omega arith)) (subst (λ (k : ℕ). IsStarted f slot (in_block n k)) step s))

-- ---- one slot

pub record IsPart (f : Function) (looked : List Point) (chunks : List Chunk) (i slot : ℕ) : Type 0 where
  pub loose : is_loose_at chunks i ≡ true → (markers_of f slot ≡ [] → ⊥) × (IsUsedEarly f slot → ⊥)
  pub tight : is_loose_at chunks i ≡ false → (markers_of f slot ≡ []) ⊎ IsUsedEarly f slot
  pub seen : is_loose_at chunks i ≡ true → (k : ℕ) → HasBit (word_at (seen_at chunks (i / 64)) k) (i % 64) ↔ IsSeen f slot looked k

not_bit : (w c : ℕ) → (bit_at w c == 1) ≡ false → HasBit w c → ⊥
not_bit w c e h = false≢true (sym e ∙ eq-eqb (bit_at w c) 1 h)

module _ (f : Function) (known : Known) (is : IsKnown f known) where
  pub part_of : (i slot : ℕ) → IsFrameSlotAt f i slot → IsPart f is.looked known.chunks i slot
  part_of i slot at =
      let lt = slice_get_within (allocas_of f) i slot at.stands in
      let found : (x : Chunk) × (slice_get known.chunks (i / 64) ≡ Some x) = place_in known.chunks (i / 64) (is.are_all i lt) in
      let t : TellsChunk f is.looked (chunk_slots f (i / 64)) found.0 = is.are_chunks.each (i / 64) found.0 found.1 in
      let small : i % 64 < 64 = omega arith in
      let stands : slice_get (chunk_slots f (i / 64)) (i % 64) ≡ Some slot = in_chunk (allocas_of f) (i / 64) i refl ∙ at.stands in
      let loose_is : loose_at known.chunks (i / 64) ≡ found.0.loose = ap (λ (o : Option Chunk). unwrap_or (option_map (λ (x : Chunk). x.loose) o) 0) found.1 in
      let seen_is : seen_at known.chunks (i / 64) ≡ found.0.seen = ap (λ (o : Option Chunk). unwrap_or (option_map (λ (x : Chunk). x.seen) o) []) found.1 in
      let has : is_loose_at known.chunks i ≡ true → HasBit found.0.loose (i % 64) = λ e. subst (λ (w : ℕ). HasBit w (i % 64)) loose_is (eqb-true (bit_at (loose_at known.chunks (i / 64)) (i % 64)) 1 e) in
      record {
        loose = λ e. t.loose (i % 64) slot small stands (has e);
        tight = λ e. t.tight (i % 64) slot small stands (λ h. not_bit (loose_at known.chunks (i / 64)) (i % 64) e (subst (λ (w : ℕ). HasBit w (i % 64)) (sym loose_is) h));
        seen = λ e k. (
          λ h. (t.seen (i % 64) slot k small stands (has e)).0 (subst (λ (l : List ℕ). HasBit (word_at l k) (i % 64)) seen_is h),
          λ s. subst (λ (l : List ℕ). HasBit (word_at l k) (i % 64)) (sym seen_is) ((t.seen (i % 64) slot k small stands (has e)).1 s),
        );
      }

  -- ---- two slots

  module _ (met : List (List ℕ)) (i k : ℕ) (for_all : AreMetFor known.chunks (i / 64) (length known.chunks) met) (lower : i < k) (a b : ℕ) (at_i : IsFrameSlotAt f i a) (at_k : IsFrameSlotAt f k b) where
    one : IsPart f is.looked known.chunks i a
    one = part_of i a at_i

    other : IsPart f is.looked known.chunks k b
    other = part_of k b at_k

    met_row : (l : List ℕ) × (slice_get met (k / 64) ≡ Some l)
    met_row =
        let lt = is.are_all k (slice_get_within (allocas_of f) k b at_k.stands) in
        let long = for_all.is_long in
        place_in met (k / 64) (omega (arith, lt, long))

    meetings : AreMeetings (seen_at known.chunks (i / 64)) (seen_at known.chunks (k / 64)) met_row.0
    meetings = for_all.are_met.each (k / 64) met_row.0 (omega (arith, lower)) met_row.1

    row_is : row_of met (k / 64) ≡ met_row.0
    row_is = ap (λ (o : Option (List ℕ)). unwrap_or o []) met_row.1

    small : i % 64 < 64
    small = omega arith

    -- alive together at a point looked at
    met_together : is_loose_at known.chunks i ≡ true → is_loose_at known.chunks k ≡ true → have_met_at met i k ≡ true → Conflict f a b
    met_together li lk e =
        let has : HasBit (word_at met_row.0 (i % 64)) (k % 64) = subst (λ (l : List ℕ). HasBit (word_at l (i % 64)) (k % 64)) row_is (eqb-true (bit_at (word_at (row_of met (k / 64)) (i % 64)) (k % 64)) 1 e) in
        let m : Meet (seen_at known.chunks (i / 64)) (seen_at known.chunks (k / 64)) (i % 64) (k % 64) = (meetings.each (i % 64) (k % 64) small).0 has in
        let x : IsSeen f a is.looked m.at = (one.seen li m.at).0 m.has_one in
        let y : IsSeen f b is.looked m.at = (other.seen lk m.at).0 m.has_other in
        let same : y.point ≡ x.point = same_place (slice_get is.looked m.at) y.point x.point y.is_point x.is_point in
        let out : IsOutside f x.point = is.are_looked.are_outside x.point (listed_at is.looked m.at x.point x.is_point) in
        let s : IsStarted f b x.point = subst (IsStarted f b) same y.is_started in
        Together (record {
          point = x.point;
          is_point = out.is_point;
          is_outside = out.is_outside;
          is_before_end = out.is_before_end;
          one = FromStart x.is_started.start x.is_started.is_start x.is_started.leads;
          other = FromStart s.start s.is_start s.leads;
        })

    started_at : (slot : ℕ) (p : Point) → (markers_of f slot ≡ [] → ⊥) → MayBeAlive f slot p → IsStarted f slot p
    started_at slot p marked (NoMarkers begin none is_begin leads) = absurd (marked none)
    started_at slot p marked (FromStart start is_start leads) = record { start = start; is_start = is_start; leads = leads }

    back_at : (slot : ℕ) (p : Point) (x : IsLookedBefore f is.looked p) → IsStarted f slot p → IsStarted f slot (in_block p.block x.at)
    back_at slot p x s =
        let le = x.is_before in
        let m : p.at ≡ x.at + (p.at - x.at) = omega (arith, le) in
        far_back f slot p.block x.at (p.at - x.at) (λ j low high i e. x.no_start j i low (omega (arith, high, m)) e)
        (subst (λ (j : ℕ). IsStarted f slot (in_block p.block j)) m s)

    together_met : is_loose_at known.chunks i ≡ true → is_loose_at known.chunks k ≡ true → AreAliveTogether f a b → have_met_at met i k ≡ true
    together_met li lk t =
        let x : IsLookedBefore f is.looked t.point = is.are_looked.are_enough t.point (record { is_point = t.is_point; is_outside = t.is_outside; is_before_end = t.is_before_end }) in
        let j : (n : ℕ) × (slice_get is.looked n ≡ Some (in_block t.point.block x.at)) = place_of is.looked (in_block t.point.block x.at) x.is_looked in
        let sa = back_at a t.point x (started_at a t.point (one.loose li).0 t.one) in
        let sb = back_at b t.point x (started_at b t.point (other.loose lk).0 t.other) in
        let has : HasBit (word_at met_row.0 (i % 64)) (k % 64) =
        (meetings.each (i % 64) (k % 64) small).1 (record {
          at = j.0;
          has_one = (one.seen li j.0).1 (record { point = in_block t.point.block x.at; is_point = j.1; is_started = sa });
          has_other = (other.seen lk j.0).1 (record { point = in_block t.point.block x.at; is_point = j.1; is_started = sb });
        }) in
        eq-eqb (bit_at (word_at (row_of met (k / 64)) (i % 64)) (k % 64)) 1 (subst (λ (l : List ℕ). HasBit (word_at l (i % 64)) (k % 64)) (sym row_is) has)

    conflict_met : Conflict f a b → is_loose_at known.chunks i ≡ true → is_loose_at known.chunks k ≡ true → have_met_at met i k ≡ true
    conflict_met (Unmarked none) li lk = ⊎_elim (λ e. absurd ((one.loose li).0 e)) (λ e. absurd ((other.loose lk).0 e)) none
    conflict_met (Early used) li lk = ⊎_elim (λ u. absurd ((one.loose li).1 u)) (λ u. absurd ((other.loose lk).1 u)) used
    conflict_met (Together t) li lk = together_met li lk t

    loose_cases : (x y m : Bool) → (x ≡ true → y ≡ true → m ≡ true) → (not x || (not y || m)) ≡ true
    loose_cases false y m h = refl
    loose_cases true false m h = refl
    loose_cases true true m h = h refl refl

    apart_cases : (x y m : Bool) → is_loose_at known.chunks i ≡ x → is_loose_at known.chunks k ≡ y → have_met_at met i k ≡ m → (not x || (not y || m)) ≡ true → Conflict f a b
    apart_cases false y m ex ey em h = ⊎_elim (λ e. Unmarked (inl e)) (λ u. Early (inl u)) (one.tight ex)
    apart_cases true false m ex ey em h = ⊎_elim (λ e. Unmarked (inr e)) (λ u. Early (inr u)) (other.tight ey)
    apart_cases true true true ex ey em h = met_together ex ey em
    apart_cases true true false ex ey em h = absurd (false≢true h)

    apart_is : IsTrue (are_apart known.chunks met i k) ↔ Conflict f a b
    apart_is = (
      apart_cases (is_loose_at known.chunks i) (is_loose_at known.chunks k) (have_met_at met i k) refl refl refl,
      λ c. loose_cases (is_loose_at known.chunks i) (is_loose_at known.chunks k) (have_met_at met i k) (conflict_met c),
    )

  pub conflict_told : (met : List (List ℕ)) (i k : ℕ) (b : Bool) → AreMetFor known.chunks (i / 64) (length known.chunks) met → i < k → IsFrameAt f i → IsFrameAt f k → b ≡ are_apart known.chunks met i k → IsTrue b ↔ ConflictAt f i k
  conflict_told met i k b for_all lower x y b_is = (
    λ h. record {
      one = x.slot;
      other = y.slot;
      is_one = x.is_slot;
      is_other = y.is_slot;
      is_lower = lower;
      conflict = (apart_is met i k for_all lower x.slot y.slot x.is_slot y.is_slot).0 (sym b_is ∙ h);
    },
    λ (c : ConflictAt f i k). b_is ∙ (apart_is met i k for_all lower c.one c.other c.is_one c.is_other).1 c.conflict,
  )

pub no_conflict : (f : Function) (i k : ℕ) → (IsFrameAt f k → ⊥) → IsTrue false ↔ ConflictAt f i k
no_conflict f i k never = (λ h. absurd (false≢true h), λ (c : ConflictAt f i k). absurd (never (record { slot = c.other; is_slot = c.is_other })))
