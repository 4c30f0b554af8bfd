-- The points of the instructions that pass a test, one after another.
use Rattle.std.proofs.Common.{◌≡◌, ℕ, zero, suc, ◌+◌, ◌<◌, ◌≤◌, Bool, true, false, List, [], ◌∷◌, ◌++◌, length, take, get_or, refl, ap, sym, ◌∙◌, arith, append_assoc, add-zero}
use Rattle.std.specs.Prelude.{if◌then◌else◌}
use Rattle.std.proofs.lemmas.Bool.{false≢true}
use Rattle.std.proofs.lemmas.List.{append-nil, get_or_default}
use Rattle.ir_model.specs.declared.instr.Instr.{Instr}
use Rattle.ir_model.specs.declared.module.Block.{Block}
use Rattle.flow_points.specs.ir_paths.Windows.{points_from, points_in}
use Rattle.flow_points.specs.ir_paths.declared.point.Point.{Point}

pub take-all : {A : Type 0} (xs : List A) (i : ℕ) → length xs ≤ i → take i xs ≡ xs
take-all [] zero le = refl
take-all [] (suc i) le = refl
take-all (x ∷ xs) zero le = absurd (omega arith)
take-all (x ∷ xs) (suc i) le = ap (λ (l : List _). x ∷ l) (take-all xs i (omega arith))

pub take-next : {A : Type 0} (x : A) (xs : List A) (i : ℕ) → take (suc i + 1) (x ∷ xs) ≡ x ∷ take (i + 1) xs
take-next x xs i = let e : suc i + 1 ≡ suc (i + 1) = omega arith in ap (λ n. take n (x ∷ xs)) e

pub take-first : {A : Type 0} (x : A) (xs : List A) → take (0 + 1) (x ∷ xs) ≡ x ∷ []
take-first x xs = refl

abbrev pub one_point : Bool → ℕ → ℕ → List Point
one_point b block at = if b then record { block = block; at = at } ∷ [] else []

from-cons : (b : Bool) (p : Point) (xs : List Point) (ys : List Point) → (if b then p ∷ (xs ++ ys) else xs ++ ys) ≡ (if b then p ∷ xs else xs) ++ ys
from-cons true p xs ys = refl
from-cons false p xs ys = refl

-- one instruction more
pub points_from-more : (test : Instr → Bool) (block at : ℕ) (is : List Instr) (i : ℕ) (x : Instr) → i < length is → x ≡ get_or is i x → points_from test block at (take (i + 1) is) ≡ points_from test block at (take i is) ++ one_point (test x) block (at + i)
points_from-more test block at [] i x lt e = absurd (omega arith)
points_from-more test block at (y ∷ is) zero x lt e =
    ap (points_from test block at) (take-first y is)
    ∙ ap (λ (z : Instr). if test z then record { block = block; at = at } ∷ [] else []) (sym e)
    ∙ ap (λ n. one_point (test x) block n) (sym (add-zero at))
points_from-more test block at (y ∷ is) (suc i) x lt e =
    let ih = points_from-more test block (suc at) is i x (omega arith) e in
    let same : suc at + i ≡ at + suc i = omega arith in
    ap (points_from test block at) (take-next y is i)
    ∙ ap (λ (l : List Point). if test y then record { block = block; at = at } ∷ l else l) (ih ∙ ap (λ n. points_from test block (suc at) (take i is) ++ one_point (test x) block n) same)
    ∙ from-cons (test y) (record { block = block; at = at }) (points_from test block (suc at) (take i is)) (one_point (test x) block (at + suc i))

-- one block more
pub points_in-more : (test : Instr → Bool) (block : ℕ) (bs : List Block) (i : ℕ) (b : Block) → i < length bs → b ≡ get_or bs i b → points_in test block (take (i + 1) bs) ≡ points_in test block (take i bs) ++ points_from test (block + i) 0 b.instrs
points_in-more test block [] i b lt e = absurd (omega arith)
points_in-more test block (y ∷ bs) zero b lt e =
    ap (points_in test block) (take-first y bs)
    ∙ append-nil (points_from test block 0 y.instrs)
    ∙ ap (λ (z : Block). points_from test block 0 z.instrs) (sym e)
    ∙ ap (λ n. points_from test n 0 b.instrs) (sym (add-zero block))
points_in-more test block (y ∷ bs) (suc i) b lt e =
    let ih = points_in-more test (suc block) bs i b (omega arith) e in
    let same : suc block + i ≡ block + suc i = omega arith in
    ap (points_in test block) (take-next y bs i)
    ∙ ap (λ (l : List Point). points_from test block 0 y.instrs ++ l) (ih ∙ ap (λ n. points_in test (suc block) (take i bs) ++ points_from test n 0 b.instrs) same)
    ∙ sym (append_assoc (points_from test block 0 y.instrs) (points_in test (suc block) (take i bs)) (points_from test (block + suc i) 0 b.instrs))

one-is : (b : Bool) (block at : ℕ) → b ≡ true → one_point b block at ≡ record { block = block; at = at } ∷ []
one-is true block at e = refl
one-is false block at e = absurd (false≢true e)

none-is : (b : Bool) (block at : ℕ) → b ≡ false → one_point b block at ≡ []
none-is false block at e = refl
none-is true block at e = absurd (false≢true (sym e))

pub pushed-one : (test : Instr → Bool) (block : ℕ) (is : List Instr) (i : ℕ) (x : Instr) (first all : List Point) → i < length is → x ≡ get_or is i x → test x ≡ true → all ≡ first ++ points_from test block 0 (take i is) → all ++ record { block = block; at = i } ∷ [] ≡ first ++ points_from test block 0 (take (i + 1) is)
pushed-one test block is i x first all lt e h so_far =
    let zero_add : 0 + i ≡ i = omega arith in
    ap (λ (l : List Point). l ++ record { block = block; at = i } ∷ []) so_far
    ∙ append_assoc first (points_from test block 0 (take i is)) (record { block = block; at = i } ∷ [])
    ∙ ap (λ (l : List Point). first ++ (points_from test block 0 (take i is) ++ l)) (sym (one-is (test x) block i h) ∙ ap (λ n. one_point (test x) block n) (sym zero_add))
    ∙ ap (λ (l : List Point). first ++ l) (sym (points_from-more test block 0 is i x lt e))

pub pushed-none : (test : Instr → Bool) (block : ℕ) (is : List Instr) (i : ℕ) (x : Instr) (first all : List Point) → i < length is → x ≡ get_or is i x → test x ≡ false → all ≡ first ++ points_from test block 0 (take i is) → all ≡ first ++ points_from test block 0 (take (i + 1) is)
pushed-none test block is i x first all lt e h so_far =
    so_far
    ∙ ap (λ (l : List Point). first ++ l) (sym (append-nil (points_from test block 0 (take i is))))
    ∙ ap (λ (l : List Point). first ++ (points_from test block 0 (take i is) ++ l)) (sym (none-is (test x) block (0 + i) h))
    ∙ ap (λ (l : List Point). first ++ l) (sym (points_from-more test block 0 is i x lt e))

pub pushed-block : (test : Instr → Bool) (bs : List Block) (i : ℕ) (b : Block) (all next : List Point) → i < length bs → b ≡ get_or bs i b → all ≡ points_in test 0 (take i bs) → next ≡ all ++ points_from test i 0 b.instrs → next ≡ points_in test 0 (take (i + 1) bs)
pushed-block test bs i b all next lt e so_far is =
    let zero_add : 0 + i ≡ i = omega arith in
    is ∙ ap (λ (l : List Point). l ++ points_from test i 0 b.instrs) so_far
    ∙ ap (λ n. points_in test 0 (take i bs) ++ points_from test n 0 b.instrs) (sym zero_add)
    ∙ sym (points_in-more test 0 bs i b lt e)

-- what is read from a list, as it is read again
pub read-again : {A : Type 0} (xs : List A) (i : ℕ) (d : A) → i < length xs → get_or xs i d ≡ get_or xs i (get_or xs i d)
read-again xs i d lt = get_or_default xs i d (get_or xs i d) lt

abbrev pub no_point : Point
no_point = record { block = 0; at = 0 }
