-- The position of the end's block, and its points.
use Rattle.std.proofs.Common.{◌≡◌, ℕ, zero, suc, ◌+◌, ◌-◌, ◌<◌, ◌≤◌, Bool, true, false, List, [], ◌∷◌, ◌++◌, length, refl, sym, ap, ◌∙◌, ⊎_elim, arith, append_assoc}
use Rattle.std.specs.Prelude.{Option, Some, None, nat_le, option_map, slice_get, unwrap_or, if◌then◌else◌, ◌==◌}
use Rattle.std.specs.List.{list_any}
use Rattle.std.proofs.lemmas.Bool.{cases_lt, false≢true}
use Rattle.ir_model.specs.Names.{first_where, position_of}
use Rattle.ir_model.specs.declared.module.Block.{Block}
use Rattle.ir_model.specs.declared.module.Function.{Function}
use Rattle.ir_model.specs.declared.operand.Intrinsic.{Intrinsic}
use Rattle.flow_points.proofs.ir_paths.Search.{either, eq_from, or_left, or_right, same_point-same}
use Rattle.flow_points.specs.ir_paths.Paths.{block_points, has_point, same_point}
use Rattle.flow_points.specs.ir_paths.Slots.{end_points, points_at}
use Rattle.flow_points.specs.ir_paths.Windows.{end_block, is_call_of}
use Rattle.flow_points.specs.ir_paths.declared.point.Point.{Point}
use Rattle.flow_points.proofs.Tests.{same_point-from, same_test}
use Rattle.flow_facts.specs.Slots.{end_from}

later : (o : Option ℕ) (n : ℕ) → suc (unwrap_or o n) ≡ unwrap_or (option_map suc o) (suc n)
later None n = refl
later (Some k) n = refl

by_test : (b : Bool) (o : Option ℕ) (n k : ℕ) → k ≡ unwrap_or o n → (if b then 0 else suc k) ≡ unwrap_or (if b then Some 0 else option_map suc o) (suc n)
by_test true o n k e = refl
by_test false o n k e = ap suc e ∙ later o n

end_from_by : (bs : List Block) → end_from bs ≡ unwrap_or (first_where (λ b. list_any (is_call_of Intrinsic.CoroEnd) b.instrs) bs) (length bs)
end_from_by [] = refl
end_from_by (b ∷ bs) =
    by_test (list_any (is_call_of Intrinsic.CoroEnd) b.instrs) (first_where (λ b. list_any (is_call_of Intrinsic.CoroEnd) b.instrs) bs) (length bs) (end_from bs) (end_from_by bs)

pub end_from_is : (f : Function) → end_from f.blocks ≡ end_block f
end_from_is f = end_from_by f.blocks

-- ---- points of the end's block

pub first-bound : {A : Type 0} (test : A → Bool) (xs : List A) → unwrap_or (first_where test xs) (length xs) ≤ length xs
first-bound test [] = omega arith
first-bound test (x ∷ xs) = on (test x) (first-bound test xs)
  where
    on : (b : Bool) → unwrap_or (first_where test xs) (length xs) ≤ length xs → unwrap_or (if b then Some 0 else option_map suc (first_where test xs)) (suc (length xs)) ≤ suc (length xs)
    on true h = omega arith
    on false h = let e = later (first_where test xs) (length xs) in omega (arith, e, h)

pub position-bound : (f : Function) (label : ℕ) → position_of f label ≤ length f.blocks
position-bound f label = first-bound (λ b. b.label == label) f.blocks

block-sound : (n k : ℕ) (p : Point) → has_point (block_points n k) p ≡ true → (p.block ≡ n) × (p.at ≤ k)
block-sound n zero p h = ⊎_elim
    (λ e. let is = same_point-same p (record { block = n; at = 0 }) e in (ap (λ (q : Point). q.block) is, let z = ap (λ (q : Point). q.at) is in omega (arith, z)))
    (λ none. absurd (false≢true none))
    (either (same_point p (record { block = n; at = 0 })) false h)
block-sound n (suc k) p h = ⊎_elim
    (λ e. let is = same_point-same p (record { block = n; at = suc k }) e in (ap (λ (q : Point). q.block) is, let z = ap (λ (q : Point). q.at) is in omega (arith, z)))
    (λ more. let r = block-sound n k p more in (r.0, let le = r.1 in omega (arith, le)))
    (either (same_point p (record { block = n; at = suc k })) (has_point (block_points n k) p) h)

block-complete : (n k : ℕ) (p : Point) → p.block ≡ n → p.at ≤ k → has_point (block_points n k) p ≡ true
block-complete n zero p e le = or_left (same_point p (record { block = n; at = 0 })) false (same_point-from p (record { block = n; at = 0 }) e (omega arith))
block-complete n (suc k) p e le = ⊎_elim
    (λ lt. or_right (same_point p (record { block = n; at = suc k })) (has_point (block_points n k) p) (block-complete n k p e (omega arith)))
    (λ ge. or_left (same_point p (record { block = n; at = suc k })) (has_point (block_points n k) p) (same_point-from p (record { block = n; at = suc k }) e (omega arith)))
    (cases_lt p.at (suc k))

le-from : (a b : ℕ) → nat_le a b ≡ true → a ≤ b
le-from a b e = grind arith

le-to : (a b : ℕ) → a ≤ b → nat_le a b ≡ true
le-to a b e = grind arith

end-is : (f : Function) (end : ℕ) (b : Block) → end ≡ end_block f → slice_get f.blocks end ≡ Some b → end_points f ≡ block_points end (length b.instrs)
end-is f end b e at = ap (λ n. points_at n (slice_get f.blocks n)) (sym e) ∙ ap (points_at end) at

pub in-end : (f : Function) (end : ℕ) (b : Block) (p : Point) → end ≡ end_block f → slice_get f.blocks end ≡ Some b → p.block ≡ end → nat_le p.at (length b.instrs) ≡ has_point (end_points f) p
in-end f end b p e at here =
    same_test (nat_le p.at (length b.instrs)) (has_point (block_points end (length b.instrs)) p)
    (λ h. block-complete end (length b.instrs) p here (le-from p.at (length b.instrs) h))
    (λ h. le-to p.at (length b.instrs) (block-sound end (length b.instrs) p h).1)
    ∙ ap (λ (l : List Point). has_point l p) (sym (end-is f end b e at))

pub out-of-end : (f : Function) (end : ℕ) (b : Block) (p : Point) → end ≡ end_block f → slice_get f.blocks end ≡ Some b → (p.block ≡ end → ⊥) → (p.block == end) ≡ has_point (end_points f) p
out-of-end f end b p e at other =
    same_test (p.block == end) (has_point (block_points end (length b.instrs)) p)
    (λ h. absurd (other (eq_from p.block end h)))
    (λ h. absurd (other (block-sound end (length b.instrs) p h).0))
    ∙ ap (λ (l : List Point). has_point l p) (sym (end-is f end b e at))

-- one point more of a block, from the last one on
pub points-back : (block count back : ℕ) (all next : List Point) → back < count → next ≡ all ++ record { block = block; at = count - back } ∷ [] → all ++ block_points block (count - back) ≡ block_points block count → next ++ block_points block (count - (back + 1)) ≡ block_points block count
points-back block count back all next lt is before =
    let s : count - back ≡ suc (count - (back + 1)) = omega arith in
    ap (λ (l : List Point). l ++ block_points block (count - (back + 1))) is
    ∙ append_assoc all (record { block = block; at = count - back } ∷ []) (block_points block (count - (back + 1)))
    ∙ ap (λ n. all ++ record { block = block; at = n } ∷ block_points block (count - (back + 1))) s
    ∙ ap (λ n. all ++ block_points block n) (sym s)
    ∙ before
