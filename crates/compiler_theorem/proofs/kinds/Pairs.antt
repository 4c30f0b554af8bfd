-- Fields conflict: those of two values that cross one suspend, of two frame slots that conflict, and of a value that
-- crosses a suspend and a frame slot that may be alive there.
use Rattle.std.proofs.Common.{◌≡◌, ◌≢◌, ⊎_elim, inl, inr, ℕ, zero, suc, ◌<◌, ◌≤◌, true, false, List, [], ◌∷◌, Option, Some, None, refl, sym, ap, ◌∙◌, subst, arith}
use Rattle.std.proofs.lemmas.Bool.{cases_lt, false≢true}
use Rattle.std.proofs.lemmas.Option.{slice_get_within}
use Rattle.std.specs.Prelude.{get_or, map, slice_get}
use Rattle.compiler_theorem.proofs.kinds.Held.{IsPlacedAs}
use Rattle.compiler_theorem.proofs.kinds.Opened.{field_there}
use Rattle.compiler.specs.flow_solver.Paths.{IsListed}
use Rattle.compiler.specs.frame_classes.Alive.{MayBeAlive}
use Rattle.compiler.specs.frame_classes.Classes.{suspends}
use Rattle.compiler.specs.frame_conflicts.Conflicts.{AreAliveAt, AreConflicts, Conflict, Early, IsFrameSlotAt, Together, Unmarked}
use Rattle.compiler.specs.frame_contents.Held.{at_fields, both_at_fields, both_with, field_of, fields_of, pair_with, position_of, slot_position}
use Rattle.compiler.specs.frame_contents.declared.contents.Contents.{Contents}
use Rattle.compiler.specs.frame_contents.declared.held.Holding.{Holding}
use Rattle.compiler.specs.frame_good.Frames.{AreInConflict}
use Rattle.compiler.proofs.frame_layout.Grouped.{AliveBack, Conflicts, Crossing, Named, pairs_at}
use Rattle.compiler.proofs.ir_laws.paths.source_rules.Locals.{listed_left, listed_right}
use Rattle.compiler.specs.ir_model.declared.module.Function.{Function}
use Rattle.compiler.specs.ir_paths.Slots.{allocas_of}
use Rattle.compiler.specs.ir_paths.declared.point.Point.{Point}
use Rattle.compiler.specs.pass_frames.Tables.{is_slot_kind}
use Rattle.pass_frames_meaning.proofs.pass_frames_proof.from_edges.Front.{listed_contains}

-- ---- positions of pairs

pub pair_listed : (at : ℕ → Option ℕ) (ps : List (ℕ × ℕ)) (v j n : ℕ) → IsListed (v, j) ps → at v ≡ Some n
    → IsListed (n, j) (at_fields at ps)
pair_listed at [] v j n l e = absurd l
pair_listed at (p ∷ ps) v j n (inl same) e =
    listed_left (n, j) (pair_with (at p.0) p.1) (at_fields at ps)
    (subst (λ (q : ℕ × ℕ). IsListed (n, j) (pair_with (at q.0) q.1)) same
    (subst (λ (o : Option ℕ). IsListed (n, j) (pair_with o j)) (sym e) (inl refl)))
pair_listed at (p ∷ ps) v j n (inr l) e =
    listed_right (n, j) (pair_with (at p.0) p.1) (at_fields at ps) (pair_listed at ps v j n l e)

both_listed : (at : ℕ → Option ℕ) (ps : List (ℕ × ℕ)) (i j m n : ℕ) → IsListed (i, j) ps → at i ≡ Some m
    → at j ≡ Some n → IsListed (m, n) (both_at_fields at ps)
both_listed at [] i j m n l d e = absurd l
both_listed at (p ∷ ps) i j m n (inl same) d e =
    listed_left (m, n) (both_with (at p.0) (at p.1)) (both_at_fields at ps)
    (subst (λ (q : ℕ × ℕ). IsListed (m, n) (both_with (at q.0) (at q.1))) same
    (subst (λ (q : Option ℕ × Option ℕ). IsListed (m, n) (both_with q.0 q.1)) (λ k. (sym d k, sym e k)) (inl refl)))
both_listed at (p ∷ ps) i j m n (inr l) d e =
    listed_right (m, n) (both_with (at p.0) (at p.1)) (both_at_fields at ps) (both_listed at ps i j m n l d e)

position_at : (g : ℕ → Option ℕ) (vs : List ℕ) (i v : ℕ) → slice_get vs i ≡ Some v → get_or (map g vs) i None ≡ g v
position_at g [] i v e = absurd (cc)
position_at g (u ∷ vs) zero v e =
    let same : u ≡ v = cc in
    ap g same
position_at g (u ∷ vs) (suc i) v e = position_at g vs i v e

conflict_back : (f : Function) (a b : ℕ) → Conflict f a b → Conflict f b a
conflict_back f a b (Unmarked (inl e)) = Unmarked (inr e)
conflict_back f a b (Unmarked (inr e)) = Unmarked (inl e)
conflict_back f a b (Early (inl e)) = Early (inr e)
conflict_back f a b (Early (inr e)) = Early (inl e)
conflict_back f a b (Together t) = Together (record {
  point = t.point;
  is_point = t.is_point;
  is_outside = t.is_outside;
  is_before_end = t.is_before_end;
  one = t.other;
  other = t.one;
})

-- ---- two fields

-- the field of a name is another than that of another name
pub places_differ : (c : Contents) (h k : Holding) (one : IsPlacedAs c.held h) (other : IsPlacedAs c.held k)
    → h.value ≢ k.value → one.position ≢ other.position
places_differ c h k one other unlike e =
    let both : Some h ≡ Some k = sym one.there ∙ ap (slice_get c.held) e ∙ other.there in
    let same : h ≡ k = cc in
    unlike (ap (λ (z : Holding). z.value) same)

-- so is a slot's from a value's
pub kinds_differ : (c : Contents) (h k : Holding) (one : IsPlacedAs c.held h) (other : IsPlacedAs c.held k)
    → is_slot_kind h.kind ≡ true → is_slot_kind k.kind ≡ false → one.position ≢ other.position
kinds_differ c h k one other slot value e =
    let both : Some h ≡ Some k = sym one.there ∙ ap (slice_get c.held) e ∙ other.there in
    let same : h ≡ k = cc in
    false≢true (sym value ∙ ap (λ (z : Holding). is_slot_kind z.kind) (sym same) ∙ slot)

module _ (f : Function) (c : Contents) (h k : Holding) (one : IsPlacedAs c.held h) (other : IsPlacedAs c.held k)
    (apart : one.position ≢ other.position) where
  pub first_field : slice_get (fields_of f c.held) one.position ≡ Some (field_of f h)
  first_field = field_there f c.held one.position h one.there

  pub second_field : slice_get (fields_of f c.held) other.position ≡ Some (field_of f k)
  second_field = field_there f c.held other.position k other.there

  -- they conflict by what makes fields conflict, whatever lists name the slots
  by_lists : ((alive conflicts : List (ℕ × ℕ)) → AreAliveAt f alive → AreConflicts f conflicts
      → Conflicts (fields_of f c.held) (at_fields (position_of c.held) c.crossing)
      (at_fields (slot_position f c.held) alive) (both_at_fields (slot_position f c.held) conflicts) one.position
      other.position)
      → AreInConflict f c one.position other.position
  by_lists told alive conflicts alive_are conflicts_are =
      pairs_at (fields_of f c.held) (at_fields (position_of c.held) c.crossing)
      (at_fields (slot_position f c.held) alive) (both_at_fields (slot_position f c.held) conflicts) one.position
      other.position
      (slice_get_within (fields_of f c.held) one.position (field_of f h) first_field)
      (slice_get_within (fields_of f c.held) other.position (field_of f k) second_field) apart
      (told alive conflicts alive_are conflicts_are)

  -- two values that cross one suspend
  pub values_conflict : (suspend : ℕ) → IsListed (h.value, suspend) c.crossing
      → IsListed (k.value, suspend) c.crossing → AreInConflict f c one.position other.position
  values_conflict suspend crosses too = by_lists (λ alive conflicts alive_are conflicts_are. Crossing (
    suspend,
    listed_contains (at_fields (position_of c.held) c.crossing) (one.position, suspend)
        (pair_listed (position_of c.held) c.crossing h.value suspend one.position crosses one.told),
    listed_contains (at_fields (position_of c.held) c.crossing) (other.position, suspend)
        (pair_listed (position_of c.held) c.crossing k.value suspend other.position too other.told),
  ))

  -- a frame slot that may be alive at a suspend, and a value that crosses it
  pub alive_conflict : (i suspend : ℕ) (p : Point) → IsFrameSlotAt f i h.value
      → slice_get (suspends f) suspend ≡ Some p → MayBeAlive f h.value p → IsListed (k.value, suspend) c.crossing
      → AreInConflict f c one.position other.position
  alive_conflict i suspend p slot number alive crosses = by_lists (λ lives conflicts lives_are conflicts_are. AliveBack (
    suspend,
    listed_contains (at_fields (slot_position f c.held) lives) (one.position, suspend)
        (pair_listed (slot_position f c.held) lives i suspend one.position ((lives_are.each i suspend).1 (record {
          slot = h.value;
          is_slot = slot;
          suspend = p;
          is_suspend = number;
          is_alive = alive;
        }))
        (position_at (position_of c.held) (allocas_of f) i h.value slot.stands ∙ one.told)),
    listed_contains (at_fields (position_of c.held) c.crossing) (other.position, suspend)
        (pair_listed (position_of c.held) c.crossing k.value suspend other.position crosses other.told),
  ))

  -- two frame slots that conflict
  module _ (i j : ℕ) (slot : IsFrameSlotAt f i h.value) (too : IsFrameSlotAt f j k.value)
      (conflict : Conflict f h.value k.value) where
    numbers : i ≢ j
    numbers e =
        let both : Some h.value ≡ Some k.value = sym slot.stands ∙ ap (slice_get (allocas_of f)) e ∙ too.stands in
        let same : h.value ≡ k.value = cc in
        let places : Some one.position ≡ Some other.position =
        sym one.told ∙ ap (position_of c.held) same ∙ other.told in
        let place : one.position ≡ other.position = cc in
        apart place

    abbrev at : ℕ → Option ℕ
    at = slot_position f c.held

    at_one : slot_position f c.held i ≡ Some one.position
    at_one = position_at (position_of c.held) (allocas_of f) i h.value slot.stands ∙ one.told

    at_other : slot_position f c.held j ≡ Some other.position
    at_other = position_at (position_of c.held) (allocas_of f) j k.value too.stands ∙ other.told

    lower : j ≤ i → j < i
    lower le = ⊎_elim (λ (lt : j < i). lt) (λ (low : i ≤ j). absurd (numbers (omega (arith, le, low)))) (cases_lt j i)

    pub slots_conflict : AreInConflict f c one.position other.position
    slots_conflict = by_lists (λ lives conflicts lives_are conflicts_are. Named (⊎_elim
        (λ (lt : i < j). inl (listed_contains (both_at_fields at conflicts) (one.position, other.position)
        (both_listed at conflicts i j one.position other.position ((conflicts_are.each i j).1 (record {
          one = h.value;
          other = k.value;
          is_one = slot;
          is_other = too;
          is_lower = lt;
          conflict = conflict;
        })) at_one at_other)))
        (λ (le : j ≤ i). inr (listed_contains (both_at_fields at conflicts) (other.position, one.position)
        (both_listed at conflicts j i other.position one.position ((conflicts_are.each j i).1 (record {
          one = k.value;
          other = h.value;
          is_one = too;
          is_other = slot;
          is_lower = lower le;
          conflict = conflict_back f h.value k.value conflict;
        })) at_other at_one)))
        (cases_lt i j)))
