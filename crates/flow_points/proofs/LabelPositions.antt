-- The position of a label's block, counted along the blocks.
use Rattle.std.proofs.Common.{◌≡◌, ℕ, zero, suc, ◌+◌, ◌-◌, ◌<◌, ◌≤◌, subst, Bool, true, false, List, [], ◌∷◌, length, drop, get_or, refl, ap, sym, ◌∙◌, arith, Option, Some, None, zero-add, inl, inr}
use Rattle.std.proofs.lemmas.Bool.{eqb-true, eq-eqb, false≢true}
use Rattle.std.proofs.Math.Seq.{drop-cons}
use Rattle.std.specs.Prelude.{option_map, unwrap_or, slice_get, slice_set, replicate, if◌then◌else◌, ◌==◌, ◌⊎◌}
use Rattle.ir_paths.specs.ir_model.Names.{first_where, position_of}
use Rattle.ir_paths.specs.ir_model.declared.module.Block.{Block}
use Rattle.ir_paths.specs.ir_model.declared.module.Function.{Function}

abbrev pub leading : ℕ → List Block → ℕ
leading label [] = 0
leading label (b ∷ blocks) = if b.label == label then 0 else suc (leading label blocks)

unwrap-suc : (o : Option ℕ) (n : ℕ) → unwrap_or (option_map suc o) (suc n) ≡ suc (unwrap_or o n)
unwrap-suc (Some k) n = refl
unwrap-suc None n = refl

leading-by : (b : Bool) (o : Option ℕ) (n : ℕ) → unwrap_or (if b then Some 0 else option_map suc o) (suc n) ≡ (if b then 0 else suc (unwrap_or o n))
leading-by true o n = refl
leading-by false o n = unwrap-suc o n

pub leading-is : (label : ℕ) (blocks : List Block) → unwrap_or (first_where (λ b. b.label == label) blocks) (length blocks) ≡ leading label blocks
leading-is label [] = refl
leading-is label (b ∷ blocks) =
    leading-by (b.label == label) (first_where (λ b. b.label == label) blocks) (length blocks)
    ∙ ap (λ n. if b.label == label then 0 else suc n) (leading-is label blocks)

pick : (v : Bool) (at n : ℕ) → at + (if v then 0 else suc n) ≡ (if v then at else at + 1 + n)
pick true at n = omega arith
pick false at n = omega arith

-- a block further
pub leading-drop : (label : ℕ) (blocks : List Block) (at : ℕ) (b : Block) → at < length blocks → b ≡ get_or blocks at b → at + leading label (drop at blocks) ≡ (if b.label == label then at else at + 1 + leading label (drop (suc at) blocks))
leading-drop label blocks at b lt e =
    ap (λ (l : List Block). at + leading label l) (drop-cons blocks at b lt)
    ∙ ap (λ (x : Block). at + leading label (x ∷ drop (suc at) blocks)) (sym e)
    ∙ pick (b.label == label) at (leading label (drop (suc at) blocks))

pub found-at : (label : ℕ) (blocks : List Block) (at : ℕ) (b : Block) → at < length blocks → b ≡ get_or blocks at b → (get_or blocks at b).label ≡ label → leading label blocks ≡ at + leading label (drop at blocks) → at ≡ unwrap_or (first_where (λ b. b.label == label) blocks) (length blocks)
found-at label blocks at b lt e is h =
    sym (leading-is label blocks ∙ h ∙ leading-drop label blocks at b lt e ∙ ap (λ (v : Bool). if v then at else at + 1 + leading label (drop (suc at) blocks)) (eq-eqb b.label label (ap (λ (x : Block). x.label) e ∙ is)))

drop-all : {A : Type 0} (xs : List A) → drop (length xs) xs ≡ []
drop-all [] = refl
drop-all (x ∷ xs) = drop-all xs

pub found-nowhere : (label : ℕ) (blocks : List Block) (at : ℕ) → at ≡ length blocks → leading label blocks ≡ at + leading label (drop at blocks) → length blocks ≡ unwrap_or (first_where (λ b. b.label == label) blocks) (length blocks)
found-nowhere label blocks at e h =
    let f : leading label blocks ≡ length blocks + leading label (drop (length blocks) blocks) = h ∙ ap (λ n. n + leading label (drop n blocks)) e in
    let g : leading label (drop (length blocks) blocks) ≡ 0 = ap (leading label) (drop-all blocks) in
    let k : leading label blocks ≡ length blocks = omega (arith, f, g) in
    sym (leading-is label blocks ∙ k)

-- what an element is after another was set
pub slice_get-set : {A : Type 0} (xs : List A) (i j : ℕ) (v w : A) → slice_get (slice_set xs i v) j ≡ Some w → ((j ≡ i) × (w ≡ v)) ⊎ ((slice_get xs j ≡ Some w) × (j ≡ i → ⊥))
slice_get-set [] i j v w h = absurd cc
slice_get-set (x ∷ xs) zero zero v w h = inl (refl, cc)
slice_get-set (x ∷ xs) zero (suc j) v w h = inr (h, λ e. omega arith)
slice_get-set (x ∷ xs) (suc i) zero v w h = inr (h, λ e. omega arith)
slice_get-set (x ∷ xs) (suc i) (suc j) v w h = elim (slice_get-set xs i j v w h) [ inl p ↦ inl (ap suc p.0, p.1) | inr q ↦ inr (q.0, λ e. q.1 (omega arith)) ]

pub slice_get-replicate : {A : Type 0} (n i : ℕ) (v w : A) → slice_get (replicate n v) i ≡ Some w → w ≡ v
slice_get-replicate zero i v w h = absurd cc
slice_get-replicate (suc n) zero v w h = cc
slice_get-replicate (suc n) (suc i) v w h = slice_get-replicate n i v w h

abbrev pub ArePositions : List Block → ℕ → List ℕ → Type 0
ArePositions blocks at table = (label block : ℕ) → slice_get table label ≡ Some block → block ≡ at + leading label (drop at blocks)

here : (v : Bool) (at n : ℕ) → v ≡ true → at ≡ (if v then at else n)
here true at n e = refl
here false at n e = absurd (false≢true e)

there : (v : Bool) (x label n at : ℕ) → (x == label) ≡ v → (label ≡ x → ⊥) → n ≡ (if v then at else n)
there true x label n at e h = absurd (h (sym (eqb-true x label e)))
there false x label n at e h = refl

pub positions-set : (blocks : List Block) (at : ℕ) (table : List ℕ) (b : Block) → at < length blocks → b ≡ get_or blocks at b → ArePositions blocks (at + 1) table → ArePositions blocks at (slice_set table b.label at)
positions-set blocks at table b lt e h label block get =
    let rest : ℕ = at + 1 + leading label (drop (suc at) blocks) in
    let next : at + leading label (drop at blocks) ≡ (if b.label == label then at else rest) = leading-drop label blocks at b lt e in
    let one : at + 1 ≡ suc at = omega arith in
    elim (slice_get-set table b.label label at block get) [
      | inl p ↦ p.1 ∙ here (b.label == label) at rest (eq-eqb b.label label (sym p.0)) ∙ sym next
      | inr q ↦
          h label block q.0 ∙ ap (λ n. at + 1 + leading label (drop n blocks)) one
          ∙ there (b.label == label) b.label label rest at refl q.1 ∙ sym next
    ]

pub positions-first : (blocks : List Block) (n : ℕ) → ArePositions blocks (length blocks) (replicate n (length blocks))
positions-first blocks n label block get =
    let g : leading label (drop (length blocks) blocks) ≡ 0 = ap (leading label) (drop-all blocks) in
    slice_get-replicate n label (length blocks) block get ∙ omega (arith, g)

pub positions-none : (f : Function) (at : ℕ) (table : List ℕ) → at ≡ 0 → ArePositions f.blocks at table → (label block : ℕ) → slice_get table label ≡ Some block → block ≡ position_of f label
positions-none f at table e h label block get =
    h label block get ∙ ap (λ n. n + leading label (drop n f.blocks)) e ∙ zero-add (leading label f.blocks) ∙ sym (leading-is label f.blocks)

pub positions-step : (blocks : List Block) (at : ℕ) (table next : List ℕ) (b : Block) → 0 < at → at ≤ length blocks → b ≡ get_or blocks (at - 1) b → next ≡ slice_set table (get_or blocks (at - 1) b).label (at - 1) → ArePositions blocks at table → ArePositions blocks (at - 1) next
positions-step blocks at table next b lt le e is h =
    let one : at ≡ at - 1 + 1 = omega arith in
    let h' : ArePositions blocks (at - 1 + 1) table = subst (λ n. ArePositions blocks n table) one h in
    let all : ArePositions blocks (at - 1) (slice_set table b.label (at - 1)) = positions-set blocks (at - 1) table b (omega arith) e h' in
    let same : slice_set table b.label (at - 1) ≡ next = ap (λ (x : Block). slice_set table x.label (at - 1)) e ∙ sym is in
    subst (ArePositions blocks (at - 1)) same all
