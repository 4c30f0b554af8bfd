-- The row of a token.
use Rattle.std.proofs.Common.{◌≡◌, ◌<◌, ◌+◌, ℕ, zero, suc, Bool, true, false, ◌&&◌, List, [], ◌∷◌, ◌++◌, length, replicate, refl, sym, ap, ◌∙◌, arith, append_assoc, add-one}
use Rattle.std.proofs.lemmas.Bool.{eqb-true, eq-eqb, false≢true}
use Rattle.std.specs.Prelude.{Option, Some, None, slice_get, slice_set, unwrap_or, if◌then◌else◌, ◌==◌}
use Rattle.ir_parts.specs.ir_model.Names.{is_local}
use Rattle.ir_parts.specs.ir_model.declared.instr.Instr.{Instr}
use Rattle.ir_parts.specs.ir_model.declared.module.Block.{Block}
use Rattle.ir_parts.specs.ir_model.declared.module.Function.{Function}
use Rattle.ir_parts.specs.ir_model.declared.operand.Intrinsic.{Intrinsic}
use Rattle.ir_parts.specs.ir_model.declared.operand.Operand.{Operand}
use Rattle.flow_points.specs.ir_paths.Slots.{local_of}
use Rattle.flow_points.specs.ir_paths.Windows.{call_operand, is_call_of, is_suspend_of, points_from, points_in, points_where}
use Rattle.flow_points.specs.ir_paths.declared.point.Point.{Point}
use Rattle.flow_points.proofs.Tests.{place_other, place_set, set_past}
use Rattle.flow_points.specs.Rows.{row_at}
use Rattle.rule_windows.specs.Tokens.{AreTokensOf, taken_by, token_in, with_point, with_token, with_tokens_by, with_tokens_in}

-- ---- one suspend

same_row : (rows : List (List Point)) (v : ℕ) (p : Point) → v < length rows → row_at (with_point rows v p) v ≡ row_at rows v ++ p ∷ []
same_row rows v p lt = place_set rows v (row_at rows v ++ p ∷ []) [] lt

other_row : (rows : List (List Point)) (u v : ℕ) (p : Point) → (v ≡ u → ⊥) → row_at (with_point rows u p) v ≡ row_at rows v
other_row rows u v p ne = place_other rows u v (row_at rows u ++ p ∷ []) [] ne

-- the operand is the local v exactly where v is its local
abbrev pub takes : Option ℕ → ℕ → Bool
takes None v = false
takes (Some u) v = v == u

local_is : (x : Operand) (v : ℕ) → takes (local_of x) v ≡ is_local v x
local_is (Operand.Local u) v = refl
local_is (Operand.Global n) v = refl
local_is (Operand.Number n) v = refl
local_is Operand.True v = refl
local_is Operand.False v = refl
local_is Operand.Null v = refl
local_is Operand.None v = refl
local_is Operand.Poison v = refl

taken_is_by : (b : Bool) (x : Operand) (v : ℕ) → takes (if b then local_of x else None) v ≡ (b && is_local v x)
taken_is_by true x v = local_is x v
taken_is_by false x v = refl

taken_is : (i : Instr) (v : ℕ) → takes (taken_by i) v ≡ is_suspend_of (Some v) i
taken_is i v = taken_is_by (is_call_of Intrinsic.CoroSuspend i) (call_operand i 0) v

row_by : (rows : List (List Point)) (u v : ℕ) (p : Point) (rest : List Point) (b : Bool) → (v == u) ≡ b → v < length rows → row_at (with_point rows u p) v ++ rest ≡ row_at rows v ++ (if b then p ∷ rest else rest)
row_by rows u v p rest true e lt =
    let is : v ≡ u = eqb-true v u e in
    ap (λ (w : ℕ). row_at (with_point rows w p) v ++ rest) (sym is) ∙ ap (λ (l : List Point). l ++ rest) (same_row rows v p lt) ∙ append_assoc (row_at rows v) (p ∷ []) rest
row_by rows u v p rest false e lt = ap (λ (l : List Point). l ++ rest) (other_row rows u v p (λ is. false≢true (sym e ∙ eq-eqb v u is)))

row_step : (rows : List (List Point)) (t : Option ℕ) (v : ℕ) (p : Point) (rest : List Point) → v < length rows → row_at (with_token rows t p) v ++ rest ≡ row_at rows v ++ (if takes t v then p ∷ rest else rest)
row_step rows None v p rest lt = refl
row_step rows (Some u) v p rest lt = row_by rows u v p rest (v == u) refl lt

length_set : (rows : List (List Point)) (k : ℕ) (row : List Point) → length (slice_set rows k row) ≡ length rows
length_set [] k row = refl
length_set (r ∷ rows) zero row = refl
length_set (r ∷ rows) (suc k) row = ap suc (length_set rows k row)

length_token : (rows : List (List Point)) (t : Option ℕ) (p : Point) → length (with_token rows t p) ≡ length rows
length_token rows None p = refl
length_token rows (Some u) p = length_set rows u (row_at rows u ++ p ∷ [])

length_in : (rows : List (List Point)) (block at : ℕ) (is : List Instr) → length (with_tokens_in rows block at is) ≡ length rows
length_in rows block at [] = refl
length_in rows block at (i ∷ is) =
    length_in (with_token rows (taken_by i) (record { block = block; at = at })) block (at + 1) is ∙ length_token rows (taken_by i) (record { block = block; at = at })

length_by : (rows : List (List Point)) (block : ℕ) (bs : List Block) → length (with_tokens_by rows block bs) ≡ length rows
length_by rows block [] = refl
length_by rows block (b ∷ bs) = length_by (with_tokens_in rows block 0 b.instrs) (block + 1) bs ∙ length_in rows block 0 b.instrs

-- ---- all suspends

along : (a b n : ℕ) → a ≡ b → n < b → n < a
along a b n e lt = omega (arith, e)

rows_in : (rows : List (List Point)) (block at v : ℕ) (is : List Instr) → v < length rows → row_at (with_tokens_in rows block at is) v ≡ row_at rows v ++ points_from (is_suspend_of (Some v)) block at is
rows_in rows block at v [] lt = sym (append_none (row_at rows v))
  where
    append_none : (l : List Point) → l ++ [] ≡ l
    append_none [] = refl
    append_none (d ∷ ds) = ap (λ l. d ∷ l) (append_none ds)
rows_in rows block at v (i ∷ is) lt =
    let p : Point = record { block = block; at = at } in
    let next = with_token rows (taken_by i) p in
    let rest = points_from (is_suspend_of (Some v)) block (at + 1) is in
    rows_in next block (at + 1) v is (along (length next) (length rows) v (length_token rows (taken_by i) p) lt)
    ∙ row_step rows (taken_by i) v p rest lt
    ∙ ap (λ (b : Bool). row_at rows v ++ (if b then p ∷ rest else rest)) (taken_is i v)
    ∙ ap (λ (n : ℕ). row_at rows v ++ (if is_suspend_of (Some v) i then p ∷ points_from (is_suspend_of (Some v)) block n is else points_from (is_suspend_of (Some v)) block n is)) (add-one at)

rows_by : (rows : List (List Point)) (block v : ℕ) (bs : List Block) → v < length rows → row_at (with_tokens_by rows block bs) v ≡ row_at rows v ++ points_in (is_suspend_of (Some v)) block bs
rows_by rows block v [] lt = sym (append_none (row_at rows v))
  where
    append_none : (l : List Point) → l ++ [] ≡ l
    append_none [] = refl
    append_none (d ∷ ds) = ap (λ l. d ∷ l) (append_none ds)
rows_by rows block v (b ∷ bs) lt =
    let next = with_tokens_in rows block 0 b.instrs in
    rows_by next (block + 1) v bs (along (length next) (length rows) v (length_in rows block 0 b.instrs) lt)
    ∙ ap (λ (l : List Point). l ++ points_in (is_suspend_of (Some v)) (block + 1) bs) (rows_in rows block 0 v b.instrs lt)
    ∙ append_assoc (row_at rows v) (points_from (is_suspend_of (Some v)) block 0 b.instrs) (points_in (is_suspend_of (Some v)) (block + 1) bs)
    ∙ ap (λ (n : ℕ). row_at rows v ++ (points_from (is_suspend_of (Some v)) block 0 b.instrs ++ points_in (is_suspend_of (Some v)) n bs)) (add-one block)

-- ---- from empty rows on

abbrev pub empties : ℕ → List (List Point)
empties n = replicate n []

empty_row : (n v : ℕ) → row_at (empties n) v ≡ []
empty_row zero v = refl
empty_row (suc n) zero = refl
empty_row (suc n) (suc v) = empty_row n v

within : (rows : List (List Point)) (v : ℕ) (row : List Point) → slice_get rows v ≡ Some row → v < length rows
within [] v row e = cc
within (r ∷ rows) zero row e = omega arith
within (r ∷ rows) (suc v) row e = let lt : v < length rows = within rows v row e in omega arith

pub tokens_are : (n : ℕ) (f : Function) (rows : List (List Point)) → rows ≡ with_tokens_by (replicate n []) 0 f.blocks → AreTokensOf f rows
tokens_are n f rows is = record { each = each }
  where
    each : (v : ℕ) (row : List Point) → slice_get rows v ≡ Some row → row ≡ points_where (is_suspend_of (Some v)) f
    each v row e =
        let lt : v < length (empties n) = along (length (empties n)) (length rows) v (sym (ap (λ (r : List (List Point)). length r) is ∙ length_by (empties n) 0 f.blocks)) (within rows v row e) in
        sym (ap (λ (o : Option (List Point)). unwrap_or o []) e) ∙ ap (λ (r : List (List Point)). row_at r v) is ∙ rows_by (empties n) 0 v f.blocks lt
        ∙ ap (λ (l : List Point). l ++ points_in (is_suspend_of (Some v)) 0 f.blocks) (empty_row n v)
