-- The points looked at are outside the end, and enough.
use Rattle.std.proofs.Common.{◌≡◌, ◌≢◌, ℕ, zero, suc, ◌+◌, ◌-◌, ◌<◌, ◌≤◌, ◌⊎◌, Bool, true, false, ◌&&◌, List, [], ◌∷◌, ◌++◌, length, Some, None, Option, refl, sym, ap, ◌∙◌, subst, ⊎_elim, inl, inr, arith, append_assoc, length-append}
use Rattle.std.specs.Prelude.{not, slice_get, if◌then◌else◌, ◌==◌}
use Rattle.std.proofs.lemmas.Bool.{cases_eq, cases_lt, eq-eqb, eqb-true, false≢true}
use Rattle.frame_classes.proofs.flow_blocks.Elements.{listed_append}
use Rattle.flow_solver.proofs.Lists.{listed_front, same_place}
use Rattle.flow_solver.specs.Paths.{IsListed}
use Rattle.ir_model.specs.declared.instr.Instr.{Instr}
use Rattle.ir_model.specs.declared.module.Block.{Block}
use Rattle.ir_model.specs.declared.module.Function.{Function}
use Rattle.ir_model.specs.declared.operand.Intrinsic.{Intrinsic}
use Rattle.ir_paths.proofs.Search.{leads-more, or_left}
use Rattle.ir_paths.specs.Paths.{has_point, nexts, same_point}
use Rattle.ir_paths.specs.Windows.{end_block, instr_at, instr_in, is_call_of}
use Rattle.ir_paths.specs.declared.point.Point.{Point}
use Rattle.flow_points.proofs.Neighbours.{next-inner}
use Rattle.flow_points.proofs.Tests.{same_point-from}
use Rattle.flow_points.specs.Reached.{IsReached}
use Rattle.flow_points.specs.Rows.{is_marked}
use Rattle.frame_classes.proofs.flow_reach.Ways.{listed_back}
use Rattle.frame_classes.specs.flow_reach.Reached.{IsPointOf}
use Rattle.frame_conflicts.specs.Looked.{AreLooked, IsLookedBefore, IsOutside, block_looked, looked_blocks, looked_row, point_if}
use Rattle.frame_classes.specs.rule_windows.Points.{ends}
use Rattle.frame_classes.specs.rule_windows.Sets.{AreThose, IsAfterEnd}

-- ---- one point

if_listed : (b : Bool) (p q : Point) → IsListed q (point_if b p) → (b ≡ true) × (q ≡ p)
if_listed true p q h = ⊎_elim (λ e. (refl, e)) (λ none. absurd none) h
if_listed false p q h = absurd h

listed_if : (b : Bool) (p : Point) → b ≡ true → IsListed p (point_if b p)
listed_if true p e = inl refl
listed_if false p e = absurd (false≢true e)

not_true : (b : Bool) → not b ≡ true → b ≡ false
not_true true e = absurd (false≢true e)
not_true false e = refl

second : (a b : Bool) → (a && b) ≡ true → b ≡ true
second true b e = e
second false b e = absurd (false≢true e)

no_true : (b : Bool) → (b ≡ true → ⊥) → b ≡ false
no_true true n = absurd (n refl)
no_true false n = refl

both_true : (a b : Bool) → a ≡ true → b ≡ false → (a && not b) ≡ true
both_true true false e k = refl
both_true true true e k = absurd (false≢true (sym k))
both_true false b e k = absurd (false≢true e)

-- ---- after the end

abbrev in_block : ℕ → ℕ → Point
in_block n k = record { block = n; at = k }

after_next : (f : Function) (n k : ℕ) (b : Block) → slice_get f.blocks n ≡ Some b → k < length b.instrs → IsAfterEnd f (in_block n k) → IsAfterEnd f (in_block n (suc k))
after_next f n k b e lt r =
    let one : k + 1 ≡ suc k = omega arith in
    record {
      start = r.start;
      is_start = r.is_start;
      path = leads-more f [] r.start (in_block n k) (in_block n (suc k)) r.path refl
          (ap (λ (l : List Point). has_point l (in_block n (suc k))) (next-inner f (in_block n k) b e lt)
          ∙ or_left (same_point (in_block n (suc k)) (in_block n (k + 1))) false (same_point-from (in_block n (suc k)) (in_block n (k + 1)) refl (sym one)));
    }

after_later : (f : Function) (n k : ℕ) (b : Block) → slice_get f.blocks n ≡ Some b → (m : ℕ) → k + m ≤ length b.instrs → IsAfterEnd f (in_block n k) → IsAfterEnd f (in_block n (k + m))
after_later f n k b e zero le r = let z : k ≡ k + 0 = omega arith in subst (λ (x : ℕ). IsAfterEnd f (in_block n x)) z r
after_later f n k b e (suc m) le r =
    let s : suc (k + m) ≡ k + suc m = omega arith in
    subst (λ (x : ℕ). IsAfterEnd f (in_block n x)) s (after_next f n (k + m) b e (omega arith) (after_later f n k b e m (omega arith) r))

module _ (f : Function) (after : List (List Bool)) (set : AreThose (IsAfterEnd f) after) where
  -- ---- a block

  record IsIn (n at count : ℕ) (p : Point) : Type 0 where
    pub block : p.block ≡ n
    pub low : at ≤ p.at
    pub high : p.at ≤ at + count
    pub before : is_marked after p ≡ false

  here_in : (n at count : ℕ) (fresh : Bool) (p : Point) → IsListed p (point_if (fresh && not (is_marked after (in_block n at))) (in_block n at)) → IsIn n at count p
  here_in n at count fresh p h =
      let k = if_listed (fresh && not (is_marked after (in_block n at))) (in_block n at) p h in
      let same : p.at ≡ at = ap (λ (x : Point). x.at) k.1 in
      record {
        block = ap (λ (x : Point). x.block) k.1;
        low = omega (arith, same);
        high = omega (arith, same);
        before = ap (is_marked after) k.1 ∙ not_true (is_marked after (in_block n at)) (second fresh (not (is_marked after (in_block n at))) k.0);
      }

  row_in : (n at : ℕ) (fresh : Bool) (is : List Instr) (p : Point) → IsListed p (looked_row after n at fresh is) → IsIn n at (length is) p
  row_in n at fresh [] p h = here_in n at 0 fresh p h
  row_in n at fresh (i ∷ is) p h = ⊎_elim
      (λ first. here_in n at (suc (length is)) fresh p first)
      (λ later.
      let x : IsIn n (at + 1) (length is) p = row_in n (at + 1) (is_call_of Intrinsic.LifetimeStart i) is p later in
      let low = x.low in
      let high = x.high in
      record { block = x.block; low = omega (arith, low); high = omega (arith, high); before = x.before })
      (listed_append p (point_if (fresh && not (is_marked after (in_block n at))) (in_block n at)) (looked_row after n (at + 1) (is_call_of Intrinsic.LifetimeStart i) is) h)

  -- ---- all blocks

  record IsInSome (end at : ℕ) (bs : List Block) (p : Point) : Type 0 where
    pub place : ℕ
    pub block : Block
    pub is_block : slice_get bs place ≡ Some block
    pub is_at : p.block ≡ at + place
    pub is_outside : p.block ≢ end
    pub within : p.at ≤ length block.instrs
    pub before : is_marked after p ≡ false

  block_in : (end at : ℕ) (b : Block) (bs : List Block) (p : Point) (t : Bool) → (at == end) ≡ t → IsListed p (if t then [] else looked_row after at 0 true b.instrs) → IsInSome end at (b ∷ bs) p
  block_in end at b bs p true e h = absurd h
  block_in end at b bs p false e h =
      let x : IsIn at 0 (length b.instrs) p = row_in at 0 true b.instrs p h in
      let same = x.block in
      let high = x.high in
      record {
        place = 0;
        block = b;
        is_block = refl;
        is_at = omega (arith, same);
        is_outside = λ k. false≢true (sym e ∙ eq-eqb at end (sym same ∙ k));
        within = omega (arith, high);
        before = x.before;
      }

  blocks_in : (end at : ℕ) (bs : List Block) (p : Point) → IsListed p (looked_blocks after end at bs) → IsInSome end at bs p
  blocks_in end at [] p h = absurd h
  blocks_in end at (b ∷ bs) p h = ⊎_elim
      (λ first. block_in end at b bs p (at == end) refl first)
      (λ later.
      let x : IsInSome end (at + 1) bs p = blocks_in end (at + 1) bs p later in
      let same = x.is_at in
      record { place = suc x.place; block = x.block; is_block = x.is_block; is_at = omega (arith, same); is_outside = x.is_outside; within = x.within; before = x.before })
      (listed_append p (block_looked after end at b) (looked_blocks after end (at + 1) bs) h)

  listed_outside : (p : Point) → IsListed p (looked_blocks after (end_block f) 0 f.blocks) → IsOutside f p
  listed_outside p h =
      let x : IsInSome (end_block f) 0 f.blocks p = blocks_in (end_block f) 0 f.blocks p h in
      let z = x.is_at in
      let same : p.block ≡ x.place = omega (arith, z) in
      record {
        is_point = record { block = x.block; is_block = ap (slice_get f.blocks) same ∙ x.is_block; within = x.within };
        is_outside = x.is_outside;
        is_before_end = λ r. false≢true (sym x.before ∙ (set.each p).1 r);
      }

  -- ---- enough

  row_listed : (end at : ℕ) (bs : List Block) (k : ℕ) (b : Block) (p : Point) → slice_get bs k ≡ Some b → at + k ≢ end → IsListed p (looked_row after (at + k) 0 true b.instrs) → IsListed p (looked_blocks after end at bs)
  row_listed end at [] k b p e ne h = absurd (cc)
  row_listed end at (x ∷ bs) zero b p e ne h =
      let same : x ≡ b = cc in
      let z : at + 0 ≡ at = omega arith in
      listed_front p (block_looked after end at x) (looked_blocks after end (at + 1) bs)
      (subst (λ (t : Bool). IsListed p (if t then [] else looked_row after at 0 true x.instrs)) (sym (no_true (at == end) (λ t. ne (z ∙ eqb-true at end t))))
      (subst (λ (y : Block). IsListed p (looked_row after at 0 true y.instrs)) (sym same) (subst (λ (n : ℕ). IsListed p (looked_row after n 0 true b.instrs)) z h)))
  row_listed end at (x ∷ bs) (suc k) b p e ne h =
      let s : at + suc k ≡ at + 1 + k = omega arith in
      listed_back p (block_looked after end at x) (looked_blocks after end (at + 1) bs)
      (row_listed end (at + 1) bs k b p e (λ t. ne (s ∙ t)) (subst (λ (n : ℕ). IsListed p (looked_row after n 0 true b.instrs)) s h))

  module _ (all : List Point) (n : ℕ) (b : Block) (is_block : slice_get f.blocks n ≡ Some b) where
    record IsFound (t : ℕ) : Type 0 where
      pub at : ℕ
      pub is_listed : IsListed (in_block n at) all
      pub low : at ≤ t
      pub no_start : (k : ℕ) (i : Instr) → at ≤ k → k < t → instr_at f (in_block n k) ≡ Some i → is_call_of Intrinsic.LifetimeStart i ≡ false

    get_behind : {X : Type 0} (xs : List X) (x : X) (rest : List X) → slice_get (xs ++ x ∷ rest) (length xs) ≡ Some x
    get_behind [] x rest = refl
    get_behind (y ∷ xs) x rest = get_behind xs x rest

    one_further : (front : List Instr) (i : Instr) (is : List Instr) → b.instrs ≡ front ++ i ∷ is → b.instrs ≡ (front ++ i ∷ []) ++ is
    one_further front i is e = e ∙ sym (append_assoc front (i ∷ []) is)

    instr_here : (front : List Instr) (i : Instr) (is : List Instr) → b.instrs ≡ front ++ i ∷ is → instr_at f (in_block n (length front)) ≡ Some i
    instr_here front i is e = ap (λ (o : Option Block). instr_in o (length front)) is_block ∙ ap (λ (l : List Instr). slice_get l (length front)) e ∙ get_behind front i is

    -- a point further, behind what starts nothing
    found_on : (front : List Instr) (i : Instr) (is : List Instr) → b.instrs ≡ front ++ i ∷ is → is_call_of Intrinsic.LifetimeStart i ≡ false → IsFound (length front) → IsFound (length front + 1)
    found_on front i is e quiet x =
        let low = x.low in
        record {
          at = x.at;
          is_listed = x.is_listed;
          low = omega (arith, low);
          no_start = λ k j le lt stands. ⊎_elim
              (λ less. x.no_start k j le less stands)
              (λ more.
              let same : k ≡ length front = omega (arith, lt, more) in
              let is_i : j ≡ i = same_place (instr_at f (in_block n k)) j i stands (ap (λ (m : ℕ). instr_at f (in_block n m)) same ∙ instr_here front i is e) in
              ap (is_call_of Intrinsic.LifetimeStart) is_i ∙ quiet)
              (cases_lt k (length front));
        }

    first_of : (front l : List Instr) (fresh : Bool) → IsListed (in_block n (length front)) (point_if (fresh && not (is_marked after (in_block n (length front)))) (in_block n (length front))) → IsListed (in_block n (length front)) (looked_row after n (length front) fresh l)
    first_of front [] fresh h = h
    first_of front (i ∷ l) fresh h = listed_front (in_block n (length front)) (point_if (fresh && not (is_marked after (in_block n (length front)))) (in_block n (length front))) (looked_row after n (length front + 1) (is_call_of Intrinsic.LifetimeStart i) l) h

    found_here : (front l : List Instr) (fresh b : Bool) → fresh ≡ b → is_marked after (in_block n (length front)) ≡ false → (fresh ≡ false → IsFound (length front)) → ((p : Point) → IsListed p (looked_row after n (length front) fresh l) → IsListed p all) → IsFound (length front)
    found_here front l fresh true k clear prior up = record {
      at = length front;
      is_listed = up (in_block n (length front)) (first_of front l fresh (listed_if (fresh && not (is_marked after (in_block n (length front)))) (in_block n (length front)) (both_true fresh (is_marked after (in_block n (length front))) k clear)));
      low = omega arith;
      no_start = λ m i ge lt stands. absurd (omega (arith, ge, lt));
    }
    found_here front l fresh false k clear prior up = prior k

    row_found : (t : ℕ) → t ≤ length b.instrs → ((a : ℕ) → a ≤ t → is_marked after (in_block n a) ≡ false) → (front is : List Instr) (fresh : Bool) → b.instrs ≡ front ++ is → length front ≤ t → (fresh ≡ false → IsFound (length front)) →
        ((p : Point) → IsListed p (looked_row after n (length front) fresh is) → IsListed p all) → IsFound t
    row_found t le clear front [] fresh whole low prior up =
        let len : length b.instrs ≡ length front + 0 = ap length whole ∙ length-append front [] in
        let same : length front ≡ t = omega (arith, len, le, low) in
        subst IsFound same (found_here front [] fresh fresh refl (clear (length front) low) prior up)
    row_found t le clear front (i ∷ l) fresh whole low prior up =
        let x : IsFound (length front) = found_here front (i ∷ l) fresh fresh refl (clear (length front) low) prior up in
        let long : length (front ++ i ∷ []) ≡ length front + 1 = length-append front (i ∷ []) in
        ⊎_elim
        (λ less. row_found t le clear (front ++ i ∷ []) l (is_call_of Intrinsic.LifetimeStart i) (one_further front i l whole) (omega (arith, long, less))
        (λ quiet. subst IsFound (sym long) (found_on front i l whole quiet x))
        (λ p h. up p (listed_back p (point_if (fresh && not (is_marked after (in_block n (length front)))) (in_block n (length front))) (looked_row after n (length front + 1) (is_call_of Intrinsic.LifetimeStart i) l)
        (subst (λ (m : ℕ). IsListed p (looked_row after n m (is_call_of Intrinsic.LifetimeStart i) l)) long h))))
        (λ more. let same : length front ≡ t = omega (arith, low, more) in subst IsFound same x)
        (cases_lt (length front) t)

  looked_enough : (p : Point) → IsOutside f p → IsLookedBefore f (looked_blocks after (end_block f) 0 f.blocks) p
  looked_enough p out =
      let b = out.is_point.block in
      let x : IsFound (looked_blocks after (end_block f) 0 f.blocks) p.block b out.is_point.is_block p.at =
      row_found (looked_blocks after (end_block f) 0 f.blocks) p.block b out.is_point.is_block p.at out.is_point.within clear [] b.instrs true refl (omega arith) (λ k. absurd (false≢true (sym k)))
      (λ q h. row_listed (end_block f) 0 f.blocks p.block b q out.is_point.is_block (λ e. out.is_outside (z ∙ e)) (subst (λ (m : ℕ). IsListed q (looked_row after m 0 true b.instrs)) z h)) in
      record { at = x.at; is_looked = x.is_listed; is_before = x.low; no_start = x.no_start }
    where
      z : p.block ≡ 0 + p.block
      z = omega arith

      clear : (a : ℕ) → a ≤ p.at → is_marked after (in_block p.block a) ≡ false
      clear a le = no_true (is_marked after (in_block p.block a)) (λ h.
          let m : a + (p.at - a) ≡ p.at = omega (arith, le) in
          let within = out.is_point.within in
          out.is_before_end (subst (λ (x : ℕ). IsAfterEnd f (in_block p.block x)) m (after_later f p.block a out.is_point.block out.is_point.is_block (p.at - a) (omega (arith, m, within)) ((set.each (in_block p.block a)).0 h))))

  pub are_looked : AreLooked f (looked_blocks after (end_block f) 0 f.blocks)
  are_looked = record { are_outside = listed_outside; are_enough = looked_enough }

pub looked_made : (f : Function) (points none all first : List Point) (after : List (List Bool)) (end : ℕ) (blocks : List Block) → AreThose (IsReached f points none) after → points ≡ ends f → none ≡ [] → end ≡ end_block f → blocks ≡ f.blocks → first ≡ [] → all ≡ first ++ looked_blocks after end 0 blocks → AreLooked f all
looked_made f points none all first after end blocks set points_are none_is end_is blocks_are first_is is =
    subst (AreLooked f)
    (sym (is ∙ ap (λ (l : List Point). l ++ looked_blocks after end 0 blocks) first_is ∙ ap (λ (e : ℕ). looked_blocks after e 0 blocks) end_is ∙ ap (looked_blocks after (end_block f) 0) blocks_are))
    (are_looked f after (subst (λ (l : List Point). AreThose (IsReached f l []) after) points_are (subst (λ (l : List Point). AreThose (IsReached f points l) after) none_is set)))
