-- Something for each row of a function.
use Rattle.std.proofs.Common.{◌≡◌, ℕ, zero, suc, ◌+◌, List, [], ◌∷◌, length, map, Some, refl, ap, ◌∙◌, arith}
use Rattle.std.specs.Prelude.{slice_get}
use Rattle.ir_model.specs.declared.module.Block.{Block}
use Rattle.flow_reach.specs.Rows.{each_from}

pub some_same : {X : Type 0} (x y : X) → Some x ≡ Some y → x ≡ y
some_same x y e = cc

pub each_gets : {X Y : Type 0} (make : ℕ → X → Y) (at : ℕ) (xs : List X) (k : ℕ) (x : X) → slice_get xs k ≡ Some x → slice_get (each_from make at xs) k ≡ Some (make (at + k) x)
each_gets make at [] k x e = absurd (cc)
each_gets make at (y ∷ ys) zero x e =
    let z : at ≡ at + 0 = omega arith in
    ap (λ w. Some (make at w)) (some_same y x e) ∙ ap (λ n. Some (make n x)) z
each_gets make at (y ∷ ys) (suc k) x e =
    let s : at + 1 + k ≡ at + suc k = omega arith in
    each_gets make (at + 1) ys k x e ∙ ap (λ n. Some (make n x)) s

pub length_each : {X Y : Type 0} (make : ℕ → X → List Y) (size : X → ℕ) → ((at : ℕ) (x : X) → length (make at x) ≡ size x) → (at : ℕ) (xs : List X) → map length (each_from make at xs) ≡ map size xs
length_each make size same at [] = refl
length_each make size same at (x ∷ xs) = ap (λ n. n ∷ map length (each_from make (at + 1) xs)) (same at x) ∙ ap (λ (l : List ℕ). size x ∷ l) (length_each make size same (at + 1) xs)

-- the row of a block, of rows that are as long as the blocks
pub record HasRow {X : Type 0} (rows : List (List X)) (k count : ℕ) : Type 0 where
  pub row : List X
  pub is_row : slice_get rows k ≡ Some row
  pub is_long : length row ≡ count + 1

row_stands : {X : Type 0} (rows : List (List X)) (bs : List Block) → map length rows ≡ map (λ (b : Block). length b.instrs + 1) bs → (k : ℕ) (b : Block) → slice_get bs k ≡ Some b → HasRow rows k (length b.instrs)
row_stands rows [] e k b at = absurd (cc)
row_stands [] (x ∷ bs) e k b at = absurd (cc)
row_stands (r ∷ rows) (x ∷ bs) e zero b at =
    let same : length r ≡ length x.instrs + 1 = cc in
    record { row = r; is_row = refl; is_long = same ∙ ap (λ (y : Block). length y.instrs + 1) (some_same x b at) }
row_stands (r ∷ rows) (x ∷ bs) e (suc k) b at =
    let rest : map length rows ≡ map (λ (b : Block). length b.instrs + 1) bs = cc in
    let found = row_stands rows bs rest k b at in
    record { row = found.row; is_row = found.is_row; is_long = found.is_long }

pub row_of_block : {X : Type 0} (rows : List (List X)) (bs : List Block) → map length rows ≡ map (λ (b : Block). length b.instrs + 1) bs → (k : ℕ) (b : Block) → slice_get bs k ≡ Some b → HasRow rows k (length b.instrs)
row_of_block rows bs e k b at = row_stands rows bs e k b at
