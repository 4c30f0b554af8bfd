-- Counts of operands, one list behind another.
use Rattle.std.proofs.Common.{◌≡◌, ◌<◌, ◌≤◌, ◌+◌, ℕ, zero, suc, Bool, true, false, cond, List, [], ◌∷◌, ◌++◌, length, replicate, flat_map, refl, sym, ap, ◌∙◌, arith}
use Rattle.std.proofs.lemmas.Bool.{eqb-true, eq-eqb, false≢true}
use Rattle.std.proofs.lemmas.List.Sums.{sum_by-cons}
use Rattle.std.specs.Prelude.{Option, Some, None, slice_get, slice_set, count_by, map, nat_le, unwrap_or, ◌==◌}
use Rattle.rule_windows.specs.ir_parts.Contents.{ending_operands, instr_operands}
use Rattle.ir_model.specs.Names.{is_local}
use Rattle.ir_model.specs.declared.instr.Instr.{Instr}
use Rattle.ir_model.specs.declared.instr.Phi.{Phi}
use Rattle.ir_model.specs.declared.module.Block.{Block}
use Rattle.ir_model.specs.declared.module.Function.{Function}
use Rattle.ir_model.specs.declared.operand.Operand.{Operand}
use Rattle.rule_shape.specs.Uses.{block_operands, counted, counted_all, counted_block, counted_blocks, counted_instrs, counted_phis, operands_of, phi_operands, times, uses_of}

pub counted_append : (counts : List ℕ) (xs ys : List Operand) → counted_all counts (xs ++ ys) ≡ counted_all (counted_all counts xs) ys
counted_append counts [] ys = refl
counted_append counts (x ∷ xs) ys = counted_append (counted counts x) xs ys

counted_phis_is : (counts : List ℕ) (ps : List Phi) → counted_phis counts ps ≡ counted_all counts (flat_map phi_operands ps)
counted_phis_is counts [] = refl
counted_phis_is counts (p ∷ ps) =
    counted_phis_is (counted_all counts (phi_operands p)) ps ∙ sym (counted_append counts (phi_operands p) (flat_map phi_operands ps))

counted_instrs_is : (counts : List ℕ) (is : List Instr) → counted_instrs counts is ≡ counted_all counts (flat_map instr_operands is)
counted_instrs_is counts [] = refl
counted_instrs_is counts (i ∷ is) =
    counted_instrs_is (counted_all counts (instr_operands i)) is ∙ sym (counted_append counts (instr_operands i) (flat_map instr_operands is))

counted_block_is : (counts : List ℕ) (b : Block) → counted_block counts b ≡ counted_all counts (block_operands b)
counted_block_is counts b =
    ap (λ (c : List ℕ). counted_all (counted_instrs c b.instrs) (ending_operands b.term)) (counted_phis_is counts b.phis)
    ∙ ap (λ (c : List ℕ). counted_all c (ending_operands b.term)) (counted_instrs_is (counted_all counts (flat_map phi_operands b.phis)) b.instrs)
    ∙ sym (counted_append (counted_all counts (flat_map phi_operands b.phis)) (flat_map instr_operands b.instrs) (ending_operands b.term))
    ∙ sym (counted_append counts (flat_map phi_operands b.phis) (flat_map instr_operands b.instrs ++ ending_operands b.term))

counted_blocks_by : (counts : List ℕ) (bs : List Block) → counted_blocks counts bs ≡ counted_all counts (flat_map block_operands bs)
counted_blocks_by counts [] = refl
counted_blocks_by counts (b ∷ bs) =
    ap (λ (c : List ℕ). counted_blocks c bs) (counted_block_is counts b)
    ∙ counted_blocks_by (counted_all counts (block_operands b)) bs
    ∙ sym (counted_append counts (block_operands b) (flat_map block_operands bs))

pub counted_blocks_is : (counts : List ℕ) (f : Function) → counted_blocks counts f.blocks ≡ counted_all counts (operands_of f)
counted_blocks_is counts f = counted_blocks_by counts f.blocks

-- ---- the count of one local

neqb : (a b : ℕ) → (a ≡ b → ⊥) → (a == b) ≡ false
neqb a b h = by (a == b) refl
  where
    by : (r : Bool) → (a == b) ≡ r → (a == b) ≡ false
    by true e = absurd (h (eqb-true a b e))
    by false e = e

-- one more where it is the local
abbrev pub one_if : Bool → ℕ → ℕ
one_if true n = suc n
one_if false n = n

set_same : (xs : List ℕ) (i n : ℕ) → i < length xs → slice_get (slice_set xs i n) i ≡ Some n
set_same [] i n lt = absurd (omega arith)
set_same (x ∷ xs) zero n lt = refl
set_same (x ∷ xs) (suc i) n lt = set_same xs i n (omega arith)

set_other : (xs : List ℕ) (i j n : ℕ) → (i ≡ j → ⊥) → slice_get (slice_set xs i n) j ≡ slice_get xs j
set_other [] i j n ne = refl
set_other (x ∷ xs) zero zero n ne = absurd (ne refl)
set_other (x ∷ xs) zero (suc j) n ne = refl
set_other (x ∷ xs) (suc i) zero n ne = refl
set_other (x ∷ xs) (suc i) (suc j) n ne = set_other xs i j n (λ e. ne (ap suc e))

length_set : (xs : List ℕ) (i n : ℕ) → length (slice_set xs i n) ≡ length xs
length_set [] i n = refl
length_set (x ∷ xs) zero n = refl
length_set (x ∷ xs) (suc i) n = ap suc (length_set xs i n)

length_counted : (counts : List ℕ) (x : Operand) → length (counted counts x) ≡ length counts
length_counted counts (Operand.Local v) = length_set counts v (times counts v + 1)
length_counted counts (Operand.Global n) = refl
length_counted counts (Operand.Number n) = refl
length_counted counts Operand.True = refl
length_counted counts Operand.False = refl
length_counted counts Operand.Null = refl
length_counted counts Operand.None = refl
length_counted counts Operand.Poison = refl

length_counted_all : (counts : List ℕ) (xs : List Operand) → length (counted_all counts xs) ≡ length counts
length_counted_all counts [] = refl
length_counted_all counts (x ∷ xs) = length_counted_all (counted counts x) xs ∙ length_counted counts x

within : (xs : List ℕ) (i n : ℕ) → slice_get xs i ≡ Some n → i < length xs
within [] i n e = cc
within (x ∷ xs) zero n e = omega arith
within (x ∷ xs) (suc i) n e = let lt : i < length xs = within xs i n e in omega arith

past : (xs : List ℕ) (i : ℕ) → length xs ≤ i → slice_get xs i ≡ None
past [] i le = refl
past (x ∷ xs) zero le = absurd (omega arith)
past (x ∷ xs) (suc i) le = past xs i (omega arith)

-- the count of v after one operand more
counted_local : (counts : List ℕ) (v u k : ℕ) (b : Bool) → (v == u) ≡ b → slice_get counts v ≡ Some k → slice_get (slice_set counts u (times counts u + 1)) v ≡ Some (one_if b k)
counted_local counts v u k true same e =
    let is : v ≡ u = eqb-true v u same in
    ap (λ (w : ℕ). slice_get (slice_set counts w (times counts w + 1)) v) (sym is)
    ∙ set_same counts v (times counts v + 1) (within counts v k e)
    ∙ ap (λ (o : Option ℕ). Some (unwrap_or o 0 + 1)) e ∙ ap (λ (n : ℕ). Some n) (omega arith)
counted_local counts v u k false same e =
    set_other counts u v (times counts u + 1) (λ is. false≢true (sym same ∙ eq-eqb v u (sym is))) ∙ e

counted_one : (counts : List ℕ) (v k : ℕ) (x : Operand) → slice_get counts v ≡ Some k → slice_get (counted counts x) v ≡ Some (one_if (is_local v x) k)
counted_one counts v k (Operand.Local u) e = counted_local counts v u k (v == u) refl e
counted_one counts v k (Operand.Global n) e = e
counted_one counts v k (Operand.Number n) e = e
counted_one counts v k Operand.True e = e
counted_one counts v k Operand.False e = e
counted_one counts v k Operand.Null e = e
counted_one counts v k Operand.None e = e
counted_one counts v k Operand.Poison e = e

more : (b : Bool) (k n : ℕ) → one_if b k + n ≡ k + (cond b 1 0 + n)
more true k n = omega arith
more false k n = omega arith

pub counted_at : (counts : List ℕ) (v k : ℕ) (xs : List Operand) → slice_get counts v ≡ Some k → slice_get (counted_all counts xs) v ≡ Some (k + count_by (is_local v) xs)
counted_at counts v k [] e = e ∙ ap (λ (n : ℕ). Some n) (omega arith)
counted_at counts v k (x ∷ xs) e =
    counted_at (counted counts x) v (one_if (is_local v x) k) xs (counted_one counts v k x e)
    ∙ ap (λ (n : ℕ). Some n) (more (is_local v x) k (count_by (is_local v) xs))
    ∙ ap (λ (n : ℕ). Some (k + n)) (sym (sum_by-cons (λ (y : Operand). cond (is_local v y) 1 0) x xs))

get_zero : (n v : ℕ) → v < n → slice_get {X = ℕ} (replicate n 0) v ≡ Some 0
get_zero zero v lt = absurd (omega arith)
get_zero (suc n) zero lt = refl
get_zero (suc n) (suc v) lt = get_zero n v (omega arith)

length_zeros : (n : ℕ) → length {A = ℕ} (replicate n 0) ≡ n
length_zeros zero = refl
length_zeros (suc n) = ap suc (length_zeros n)

some_is : (a b : ℕ) → Some a ≡ Some b → a ≡ b
some_is a b e = cc

-- a count that is there is how many operands are the local
pub count_of : (n : ℕ) (xs : List Operand) (counts : List ℕ) (v k : ℕ) → counts ≡ counted_all (replicate n 0) xs → slice_get counts v ≡ Some k → k ≡ count_by (is_local v) xs
count_of n xs counts v k is e =
    let e' : slice_get (counted_all (replicate n 0) xs) v ≡ Some k = sym (ap (λ (c : List ℕ). slice_get c v) is) ∙ e in
    let lt : v < length (counted_all (replicate n 0) xs) = within (counted_all (replicate n 0) xs) v k e' in
    let all : length (counted_all (replicate n 0) xs) ≡ n = length_counted_all (replicate n 0) xs ∙ length_zeros n in
    let inside : v < n = omega arith in
    let zero_more : 0 + count_by (is_local v) xs ≡ count_by (is_local v) xs = omega arith in
    some_is k (count_by (is_local v) xs) (sym e' ∙ counted_at (replicate n 0) v 0 xs (get_zero n v inside) ∙ ap (λ (m : ℕ). Some m) zero_more)
