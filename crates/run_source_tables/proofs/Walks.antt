-- Walks along lists, from either end.
use Rattle.std.proofs.Common.{◌≡◌, ℕ, zero, suc, ◌+◌, ◌<◌, ◌≤◌, Bool, true, false, List, [], ◌∷◌, ◌++◌, length, take, drop, get_or, reverse, refl, ap, sym, subst, ◌∙◌, arith, Option, Some, None}
use Rattle.std.specs.Prelude.{IfSome, option_map, slice_get, if◌then◌else◌}
use Rattle.std.proofs.Math.Seq.{take-suc}
use Rattle.std.proofs.lemmas.List.{length-take-le, reverse-append, take_all}
use Rattle.std.proofs.lemmas.Bool.{false≢true}
use Rattle.std.proofs.lemmas.Option.{slice_get-get_or}
use Rattle.ir_model.specs.Names.{first_where}
use Rattle.ir_model.specs.declared.instr.Instr.{Instr}
use Rattle.ir_model.specs.declared.module.Block.{Block}
use Rattle.ir_paths.specs.Windows.{points_from, points_in}
use Rattle.ir_paths.specs.declared.point.Point.{Point}
use Rattle.run_step.proofs.Lists.{drop-next, drop-end}

pub take-next : {A : Type 0} (xs : List A) (i : ℕ) (x : A) → i < length xs → x ≡ get_or xs i x → take (i + 1) xs ≡ take i xs ++ x ∷ []
take-next xs i x lt e =
    let one : i + 1 ≡ suc i = omega arith in
    ap (λ n. take n xs) one ∙ take-suc xs i x lt ∙ ap (λ y. take i xs ++ y ∷ []) (sym e)

-- the first elements the other way round, with one more
pub reverse-next : {A : Type 0} (xs : List A) (i : ℕ) (x : A) → i < length xs → x ≡ get_or xs i x → reverse (take (i + 1) xs) ≡ x ∷ reverse (take i xs)
reverse-next xs i x lt e = ap reverse (take-next xs i x lt e) ∙ reverse-append (take i xs) (x ∷ [])

-- ---- the first element that passes a test

if-none : (b : Bool) (o : Option ℕ) → b ≡ false → o ≡ None → (if b then Some 0 else option_map suc o) ≡ None
if-none true o e f = absurd (false≢true (sym e))
if-none false o e f = ap (option_map suc) f

none-head : (b : Bool) (o : Option ℕ) → (if b then Some 0 else option_map suc o) ≡ None → b ≡ false
none-head true o e = absurd cc
none-head false o e = refl

none-tail : (b : Bool) (o : Option ℕ) → (if b then Some 0 else option_map suc o) ≡ None → o ≡ None
none-tail true o e = absurd cc
none-tail false None e = refl
none-tail false (Some i) e = absurd cc

if-some : (b : Bool) (o : Option ℕ) (i : ℕ) → b ≡ false → o ≡ Some i → (if b then Some 0 else option_map suc o) ≡ Some (suc i)
if-some true o i e f = absurd (false≢true (sym e))
if-some false o i e f = ap (option_map suc) f

if-here : (b : Bool) (o : Option ℕ) → b ≡ true → (if b then Some 0 else option_map suc o) ≡ Some 0
if-here true o e = refl
if-here false o e = absurd (false≢true e)

pub first-here : {A : Type 0} (test : A → Bool) (xs : List A) (i : ℕ) (x : A) → i < length xs → x ≡ get_or xs i x → first_where test (take i xs) ≡ None → test x ≡ true → first_where test xs ≡ Some i
first-here test [] i x lt e none is = absurd (omega arith)
first-here test (y ∷ xs) zero x lt e none is = if-here (test y) (first_where test xs) (ap test (sym e) ∙ is)
first-here test (y ∷ xs) (suc i) x lt e none is =
    if-some (test y) (first_where test xs) i (none-head (test y) (first_where test (take i xs)) none)
    (first-here test xs i x (omega arith) e (none-tail (test y) (first_where test (take i xs)) none) is)

pub first-never : {A : Type 0} (test : A → Bool) (xs : List A) (i : ℕ) → length xs ≤ i → first_where test (take i xs) ≡ None → first_where test xs ≡ None
first-never test xs i le none = ap (first_where test) (sym (take_all i xs le)) ∙ none

first-snoc : {A : Type 0} (test : A → Bool) (xs : List A) (x : A) → first_where test xs ≡ None → test x ≡ false → first_where test (xs ++ x ∷ []) ≡ None
first-snoc test [] x none is = if-none (test x) None is refl
first-snoc test (y ∷ xs) x none is =
    if-none (test y) (first_where test (xs ++ x ∷ [])) (none-head (test y) (first_where test xs) none)
    (first-snoc test xs x (none-tail (test y) (first_where test xs) none) is)

pub first-next : {A : Type 0} (test : A → Bool) (xs : List A) (i : ℕ) (x : A) → i < length xs → x ≡ get_or xs i x → first_where test (take i xs) ≡ None → test x ≡ false → first_where test (take (i + 1) xs) ≡ None
first-next test xs i x lt e none is = ap (first_where test) (take-next xs i x lt e) ∙ first-snoc test (take i xs) x none is

-- ---- the points of instructions that pass a test

no-point : (b : Bool) (p : Point) (rest : List Point) (o : Option ℕ) → (if b then Some 0 else option_map suc o) ≡ None → (o ≡ None → rest ≡ []) → (if b then p ∷ rest else rest) ≡ []
no-point true p rest o e h = absurd cc
no-point false p rest o e h = h (none-tail false o e)

no-points : (test : Instr → Bool) (block at : ℕ) (instrs : List Instr) → first_where test instrs ≡ None → points_from test block at instrs ≡ []
no-points test block at [] e = refl
no-points test block at (i ∷ is) e =
    no-point (test i) (record { block = block; at = at }) (points_from test block (suc at) is) (first_where test is) e (λ f. no-points test block (suc at) is f)

point-by : (b : Bool) (block at : ℕ) (ps rest : List Point) (o : Option ℕ) (k : ℕ) → (if b then Some 0 else option_map suc o) ≡ Some k → ((j : ℕ) → o ≡ Some j → slice_get (ps ++ rest) 0 ≡ Some (record { block = block; at = suc at + j })) → slice_get ((if b then record { block = block; at = at } ∷ ps else ps) ++ rest) 0 ≡ Some (record { block = block; at = at + k })
point-by true block at ps rest o k e h =
    let z : 0 ≡ k = cc in let n : at ≡ at + k = omega (arith, z) in ap (λ m. Some (record { block = block; at = m })) n
point-by false block at ps rest None k e h = absurd cc
point-by false block at ps rest (Some j) k e h =
    let z : suc j ≡ k = cc in
    let n : suc at + j ≡ at + k = omega (arith, z) in
    h j refl ∙ ap (λ m. Some (record { block = block; at = m })) n

point-first : (test : Instr → Bool) (block at : ℕ) (instrs : List Instr) (rest : List Point) (k : ℕ) → first_where test instrs ≡ Some k → slice_get (points_from test block at instrs ++ rest) 0 ≡ Some (record { block = block; at = at + k })
point-first test block at [] rest k e = absurd cc
point-first test block at (i ∷ is) rest k e =
    point-by (test i) block at (points_from test block (suc at) is) rest (first_where test is) k e (λ j f. point-first test block (suc at) is rest j f)

pub blocks-at : (test : Instr → Bool) (blocks : List Block) (block : ℕ) (b : Block) → block < length blocks → b ≡ get_or blocks block b → points_in test block (drop block blocks) ≡ points_from test block 0 b.instrs ++ points_in test (block + 1) (drop (block + 1) blocks)
blocks-at test blocks block b lt e =
    let one : suc block ≡ block + 1 = omega arith in
    ap (points_in test block) (drop-next blocks block b lt e)
    ∙ ap (λ n. points_from test block 0 b.instrs ++ points_in test n (drop (block + 1) blocks)) one

pub points-next : (test : Instr → Bool) (blocks : List Block) (block : ℕ) (b : Block) → block < length blocks → b ≡ get_or blocks block b → first_where test b.instrs ≡ None → slice_get (points_in test block (drop block blocks)) 0 ≡ slice_get (points_in test (block + 1) (drop (block + 1) blocks)) 0
points-next test blocks block b lt e none =
    ap (λ l. slice_get l 0) (blocks-at test blocks block b lt e)
    ∙ ap (λ l. slice_get (l ++ points_in test (block + 1) (drop (block + 1) blocks)) 0) (no-points test block 0 b.instrs none)

pub points-here : (test : Instr → Bool) (blocks : List Block) (block : ℕ) (b : Block) (at : ℕ) → block < length blocks → b ≡ get_or blocks block b → first_where test b.instrs ≡ Some at → slice_get (points_in test block (drop block blocks)) 0 ≡ Some (record { block = block; at = at })
points-here test blocks block b at lt e is =
    let n : 0 + at ≡ at = omega arith in
    ap (λ l. slice_get l 0) (blocks-at test blocks block b lt e)
    ∙ point-first test block 0 b.instrs (points_in test (block + 1) (drop (block + 1) blocks)) at is
    ∙ ap (λ k. Some (record { block = block; at = k })) n

pub points-end : (test : Instr → Bool) (blocks : List Block) (block : ℕ) → block ≡ length blocks → slice_get (points_in test block (drop block blocks)) 0 ≡ None
points-end test blocks block e = ap (λ (l : List Block). slice_get (points_in test block l) 0) (drop-end blocks block e)
