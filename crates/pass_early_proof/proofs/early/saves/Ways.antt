-- The paths of a function, and those of the function whose saves are written out.
use Rattle.std.proofs.Common.{◌≡◌, ℕ, ◌+◌, ◌<◌, ◌≤◌, ◌⊎◌, inl, inr, ⊎_elim, Bool, true, false, List, [], ◌∷◌, length, refl, sym, ap, ◌∙◌, arith, add-one, add-zero}
use Rattle.std.proofs.lemmas.Bool.{cases_lt, le-ltb, lt-ltb}
use Rattle.std.proofs.lemmas.Option.{slice_get_within}
use Rattle.std.specs.Prelude.{Some, None, Option, map, nat_lt, option_map, slice_get, if◌then◌else◌, ◌==◌}
use Rattle.ir_model.specs.declared.instr.Instr.{Instr}
use Rattle.ir_model.specs.declared.module.Block.{Block}
use Rattle.ir_model.specs.declared.module.Function.{Function}
use Rattle.rule_laws.proofs.ir_paths.Search.{either, eq_from, eq_itself, or_left, same_point-itself, same_point-same}
use Rattle.rule_laws.specs.ir_paths.Paths.{entry_point, has_point, nexts, nexts_in, same_point, targets}
use Rattle.rule_laws.specs.ir_paths.declared.point.Point.{Point}
use Rattle.pass_early_proof.proofs.early.saves.Blocks.{get_block, position_saved}
use Rattle.pass_early_proof.proofs.early.saves.Instrs.{back_end, back_inside, back_past, get_save, next_place}
use Rattle.rule_laws.proofs.ir_laws.paths.expanded.Strands.{AreStrands, IsOnlyNext}
use Rattle.pass_early_proof.specs.early.saves.SavesWritten.{is_bare, saved_block, saved_function, with_saves}
use Rattle.pass_early_proof.specs.early.saves.Spots.{back_of, front_of, number_of_block, own_saves, place_in}
use Rattle.rule_laws.specs.ir_laws.facts.expanded.Spots.{instrs_in}
use Rattle.rule_laws.proofs.ir_laws.paths.expanded.Ways.{has_map, map_has}

-- ---- a number inside, at the end, or behind it

inside_if : {X : Type 0} (a l : ℕ) (x y z : X) → a < l → (if nat_lt a l then x else if a == l then y else z) ≡ x
inside_if a l x y z lt = ap (λ (b : Bool). if b then x else if a == l then y else z) (lt-ltb a l lt)

end_if : {X : Type 0} (a l : ℕ) (x y z : X) → a ≡ l → (if nat_lt a l then x else if a == l then y else z) ≡ y
end_if a l x y z e =
    ap (λ (b : Bool). if b then x else if a == l then y else z) (le-ltb a l (omega arith))
    ∙ ap (λ (b : Bool). if b then y else z) (ap (λ (n : ℕ). n == l) e ∙ eq_itself l)

past_if : {X : Type 0} (a l : ℕ) (x y z : X) → l < a → (if nat_lt a l then x else if a == l then y else z) ≡ z
past_if a l x y z lt =
    ap (λ (b : Bool). if b then x else if a == l then y else z) (le-ltb a l (omega arith))
    ∙ on (a == l) refl
  where
    on : (b : Bool) → (a == l) ≡ b → (if b then y else z) ≡ z
    on true e = let same = eq_from a l e in absurd (omega arith)
    on false e = refl

-- ---- edges

module _ (f : Function) where
  abbrev g : Function
  g = saved_function f

  abbrev number : ℕ → ℕ
  number block = number_of_block f.coroutine block (length f.names) f.blocks

  abbrev there : ℕ → ℕ → List Instr → ℕ
  there block at is = place_in f.coroutine at (number block) is + own_saves f.coroutine (slice_get is at)

  entries_saved : (labels : List ℕ) → map (entry_point g) labels ≡ map (front_of f) (map (entry_point f) labels)
  entries_saved [] = refl
  entries_saved (l ∷ labels) =
      let first = position_saved f l in
      let rest = entries_saved labels in
      λ i. record { block = first i; at = 0 } ∷ rest i

  abbrev point_at : ℕ → ℕ → Point
  point_at block at = record { block = block; at = at }

  nexts_of_block : (block at : ℕ) (b : Block) → slice_get f.blocks block ≡ Some b → nexts_in g (point_at block (there block at b.instrs)) (Some (saved_block f.coroutine (number block) b)) ≡ map (front_of f) (nexts_in f (point_at block at) (Some b))
  nexts_of_block block at b e = ⊎_elim inside other (cases_lt at (length b.instrs))
    where
      new : List Instr
      new = with_saves f.coroutine (number block) b.instrs

      to : ℕ
      to = there block at b.instrs

      front_next : place_in f.coroutine (at + 1) (number block) (instrs_in (slice_get f.blocks block)) ≡ to + 1
      front_next =
          ap (λ (o : Option Block). place_in f.coroutine (at + 1) (number block) (instrs_in o)) e
          ∙ ap (λ (k : ℕ). place_in f.coroutine k (number block) b.instrs) (add-one at)
          ∙ next_place f.coroutine at (number block) b.instrs
          ∙ sym (add-one to)

      inside : at < length b.instrs → nexts_in g (point_at block to) (Some (saved_block f.coroutine (number block) b)) ≡ map (front_of f) (nexts_in f (point_at block at) (Some b))
      inside lt =
          inside_if to (length new) (point_at block (to + 1) ∷ []) (map (entry_point g) (targets b.term)) [] (back_inside f.coroutine at (number block) b.instrs lt)
          ∙ ap (λ (k : ℕ). point_at block k ∷ []) (sym front_next)
          ∙ ap (map (front_of f)) (sym (inside_if at (length b.instrs) (point_at block (at + 1) ∷ []) (map (entry_point f) (targets b.term)) [] lt))

      end : at ≡ length b.instrs → nexts_in g (point_at block to) (Some (saved_block f.coroutine (number block) b)) ≡ map (front_of f) (nexts_in f (point_at block at) (Some b))
      end s =
          end_if to (length new) (point_at block (to + 1) ∷ []) (map (entry_point g) (targets b.term)) [] (back_end f.coroutine at (number block) b.instrs s)
          ∙ entries_saved (targets b.term)
          ∙ ap (map (front_of f)) (sym (end_if at (length b.instrs) (point_at block (at + 1) ∷ []) (map (entry_point f) (targets b.term)) [] s))

      past : length b.instrs < at → nexts_in g (point_at block to) (Some (saved_block f.coroutine (number block) b)) ≡ map (front_of f) (nexts_in f (point_at block at) (Some b))
      past lt =
          past_if to (length new) (point_at block (to + 1) ∷ []) (map (entry_point g) (targets b.term)) [] (back_past f.coroutine at (number block) b.instrs lt)
          ∙ ap (map (front_of f)) (sym (past_if at (length b.instrs) (point_at block (at + 1) ∷ []) (map (entry_point f) (targets b.term)) [] lt))

      other : length b.instrs ≤ at → nexts_in g (point_at block to) (Some (saved_block f.coroutine (number block) b)) ≡ map (front_of f) (nexts_in f (point_at block at) (Some b))
      other ge = ⊎_elim past (λ (le : at ≤ length b.instrs). end (omega arith)) (cases_lt (length b.instrs) at)

  -- the edges from a back lead to the fronts of the points to which those of the point lead
  pub nexts_saved : (p : Point) → nexts g (back_of f p) ≡ map (front_of f) (nexts f p)
  nexts_saved p = ap (nexts_in g (back_of f p)) (get_block f.coroutine p.block (length f.names) f.blocks) ∙ on (slice_get f.blocks p.block) refl
    where
      on : (o : Option Block) → slice_get f.blocks p.block ≡ o → nexts_in g (back_of f p) (option_map (saved_block f.coroutine (number p.block)) o) ≡ map (front_of f) (nexts_in f p o)
      on None e = refl
      on (Some b) e =
          ap (λ (x : Option Block). nexts_in g (point_at p.block (there p.block p.at (instrs_in x))) (Some (saved_block f.coroutine (number p.block) b))) e
          ∙ nexts_of_block p.block p.at b e

  -- ---- fronts and backs

  -- the save that is written before a suspend leads to the suspend alone
  pub save_leads : (p : Point) (i : Instr) → slice_get (instrs_in (slice_get f.blocks p.block)) p.at ≡ Some i → is_bare f.coroutine i ≡ true → nexts g (front_of f p) ≡ back_of f p ∷ []
  save_leads p i e b = ap (nexts_in g (front_of f p)) (get_block f.coroutine p.block (length f.names) f.blocks) ∙ on (slice_get f.blocks p.block) refl
    where
      on : (o : Option Block) → slice_get f.blocks p.block ≡ o → nexts_in g (front_of f p) (option_map (saved_block f.coroutine (number p.block)) o) ≡ back_of f p ∷ []
      on None s = absurd (cc)
      on (Some x) s =
          let there : slice_get x.instrs p.at ≡ Some i = sym (ap (λ (y : Option Block). slice_get (instrs_in y) p.at) s) ∙ e in
          let own : own_saves f.coroutine (slice_get (instrs_in (slice_get f.blocks p.block)) p.at) ≡ 1 = ap (own_saves f.coroutine) e ∙ ap (λ (t : Bool). if t then 1 else 0) b in
          let place : (front_of f p).at ≡ place_in f.coroutine p.at (number p.block) x.instrs = ap (λ (y : Option Block). place_in f.coroutine p.at (number p.block) (instrs_in y)) s in
          let lt = slice_get_within (with_saves f.coroutine (number p.block) x.instrs) _ _ (get_save f.coroutine p.at (number p.block) x.instrs i there b) in
          inside_if (front_of f p).at (length (with_saves f.coroutine (number p.block) x.instrs)) (point_at p.block ((front_of f p).at + 1) ∷ []) (map (entry_point g) (targets x.term)) [] (omega (arith, place, lt))
          ∙ ap (λ (k : ℕ). point_at p.block ((front_of f p).at + k) ∷ []) (sym own)

  only_next : (x y : Point) → nexts g x ≡ y ∷ [] → IsOnlyNext g x y
  only_next x y e = record {
    edge = ap (λ (ps : List Point). has_point ps y) e ∙ or_left (same_point y y) false (same_point-itself y);
    only = λ z h. alone z (ap (λ (ps : List Point). has_point ps z) (sym e) ∙ h);
  }
    where
      alone : (z : Point) → has_point (y ∷ []) z ≡ true → z ≡ y
      alone z h = on (either (same_point z y) false h)
        where
          on : (same_point z y ≡ true) ⊎ (false ≡ true) → z ≡ y
          on (inl s) = same_point-same z y s
          on (inr s) = absurd (cc)

  pub within : (p : Point) → (front_of f p ≡ back_of f p) ⊎ IsOnlyNext g (front_of f p) (back_of f p)
  within p = on (slice_get (instrs_in (slice_get f.blocks p.block)) p.at) refl
    where
      same : own_saves f.coroutine (slice_get (instrs_in (slice_get f.blocks p.block)) p.at) ≡ 0 → front_of f p ≡ back_of f p
      same z = ap (point_at p.block) (sym (add-zero (front_of f p).at)) ∙ ap (λ (k : ℕ). point_at p.block ((front_of f p).at + k)) (sym z)

      with_instr : (i : Instr) → slice_get (instrs_in (slice_get f.blocks p.block)) p.at ≡ Some i → (b : Bool) → is_bare f.coroutine i ≡ b → (front_of f p ≡ back_of f p) ⊎ IsOnlyNext g (front_of f p) (back_of f p)
      with_instr i e true b = inr (only_next (front_of f p) (back_of f p) (save_leads p i e b))
      with_instr i e false b = inl (same (ap (own_saves f.coroutine) e ∙ ap (λ (t : Bool). if t then 1 else 0) b))

      on : (o : Option Instr) → slice_get (instrs_in (slice_get f.blocks p.block)) p.at ≡ o → (front_of f p ≡ back_of f p) ⊎ IsOnlyNext g (front_of f p) (back_of f p)
      on None e = inl (same (ap (own_saves f.coroutine) e))
      on (Some i) e = with_instr i e (is_bare f.coroutine i) refl

  pub strands : AreStrands f g (front_of f) (back_of f)
  strands = record {
    forth = λ p q h. ap (λ (ps : List Point). has_point ps (front_of f q)) (nexts_saved p) ∙ has_map (front_of f) (nexts f p) q h;
    home = λ p y h.
        let from = map_has (front_of f) (nexts f p) y (ap (λ (ps : List Point). has_point ps y) (sym (nexts_saved p)) ∙ h) in
        record { point = from.point; is = from.is; edge = from.there };
    within = within;
  }
