-- The first of all points, found one after another.
use Rattle.std.proofs.Common.{◌≡◌, ℕ, ◌+◌, ◌<◌, false, List, [], ◌∷◌, ◌++◌, length, take, get_or, refl, ap, sym, ◌∙◌, Option, Some, None, arith}
use Rattle.std.specs.Prelude.{slice_get, if◌then◌else◌, ◌==◌}
use Rattle.ir_model.specs.declared.instr.Instr.{Instr}
use Rattle.ir_model.specs.declared.module.Block.{Block}
use Rattle.flow_points.specs.ir_paths.Windows.{is_suspend_of, points_from, points_in}
use Rattle.flow_points.specs.ir_paths.declared.point.Point.{Point}
use Rattle.flow_facts.specs.Tokens.{is_token, or_head}
use Rattle.flow_facts.proofs.Points.{one_point, points_from-more, points_in-more}

or_head-append : (o : Option Point) (xs ys : List Point) → or_head (or_head o xs) ys ≡ or_head o (xs ++ ys)
or_head-append (Some p) xs ys = refl
or_head-append None [] ys = refl
or_head-append None (x ∷ xs) ys = refl

or_head-none : (o : Option Point) → or_head o [] ≡ o
or_head-none (Some p) = refl
or_head-none None = refl

-- one instruction more, which is a suspend that takes a token
pub head-more : (t token block : ℕ) (is : List Instr) (i : ℕ) (x : Instr) (first old new : Option Point) → i < length is → x ≡ get_or is i x → is_suspend_of (Some t) x ≡ is_token t (Some token) → old ≡ or_head first (points_from (is_suspend_of (Some t)) block 0 (take i is)) → new ≡ or_head old (if t == token then record { block = block; at = i } ∷ [] else []) → new ≡ or_head first (points_from (is_suspend_of (Some t)) block 0 (take (i + 1) is))
head-more t token block is i x first old new lt e test before now =
    let zero_add : 0 + i ≡ i = omega arith in
    now
    ∙ ap (λ (o : Option Point). or_head o (one_point (t == token) block i)) before
    ∙ ap (λ b. or_head (or_head first (points_from (is_suspend_of (Some t)) block 0 (take i is))) (one_point b block i)) (sym test)
    ∙ ap (λ n. or_head (or_head first (points_from (is_suspend_of (Some t)) block 0 (take i is))) (one_point (is_suspend_of (Some t) x) block n)) (sym zero_add)
    ∙ or_head-append first (points_from (is_suspend_of (Some t)) block 0 (take i is)) (one_point (is_suspend_of (Some t) x) block (0 + i))
    ∙ ap (or_head first) (sym (points_from-more (is_suspend_of (Some t)) block 0 is i x lt e))

-- one that takes none
pub head-same : (t block : ℕ) (is : List Instr) (i : ℕ) (x : Instr) (first old : Option Point) → i < length is → x ≡ get_or is i x → is_suspend_of (Some t) x ≡ false → old ≡ or_head first (points_from (is_suspend_of (Some t)) block 0 (take i is)) → old ≡ or_head first (points_from (is_suspend_of (Some t)) block 0 (take (i + 1) is))
head-same t block is i x first old lt e test before =
    before
    ∙ sym (or_head-none (or_head first (points_from (is_suspend_of (Some t)) block 0 (take i is))))
    ∙ ap (λ b. or_head (or_head first (points_from (is_suspend_of (Some t)) block 0 (take i is))) (one_point b block (0 + i))) (sym test)
    ∙ or_head-append first (points_from (is_suspend_of (Some t)) block 0 (take i is)) (one_point (is_suspend_of (Some t) x) block (0 + i))
    ∙ ap (or_head first) (sym (points_from-more (is_suspend_of (Some t)) block 0 is i x lt e))

slice_get-or_head : (xs ys : List Point) → or_head (slice_get xs 0) ys ≡ slice_get (xs ++ ys) 0
slice_get-or_head [] ys = refl
slice_get-or_head (x ∷ xs) ys = refl

-- one block more
pub head-block : (t : ℕ) (bs : List Block) (i : ℕ) (b : Block) (old new : Option Point) → i < length bs → b ≡ get_or bs i b → old ≡ slice_get (points_in (is_suspend_of (Some t)) 0 (take i bs)) 0 → new ≡ or_head old (points_from (is_suspend_of (Some t)) i 0 b.instrs) → new ≡ slice_get (points_in (is_suspend_of (Some t)) 0 (take (i + 1) bs)) 0
head-block t bs i b old new lt e before now =
    let zero_add : 0 + i ≡ i = omega arith in
    now
    ∙ ap (λ (o : Option Point). or_head o (points_from (is_suspend_of (Some t)) i 0 b.instrs)) before
    ∙ ap (λ n. or_head (slice_get (points_in (is_suspend_of (Some t)) 0 (take i bs)) 0) (points_from (is_suspend_of (Some t)) n 0 b.instrs)) (sym zero_add)
    ∙ slice_get-or_head (points_in (is_suspend_of (Some t)) 0 (take i bs)) (points_from (is_suspend_of (Some t)) (0 + i) 0 b.instrs)
    ∙ ap (λ (l : List Point). slice_get l 0) (sym (points_in-more (is_suspend_of (Some t)) 0 bs i b lt e))
