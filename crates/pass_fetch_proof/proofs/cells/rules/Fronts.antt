-- The cells and fields at the front of the entry block.
use Rattle.std.proofs.Common.{◌≡◌, inl, inr, ⊎_elim, ℕ, zero, suc, ◌+◌, ◌*◌, ◌<◌, ◌≤◌, true, List, [], ◌∷◌, ◌++◌, length, refl, sym, ap, ◌∙◌, subst, arith}
use Rattle.std.specs.Prelude.{Option, Some, None, slice_get}
use Rattle.pass_fetch_proof.proofs.cells.rules.Counts.{lists_joined}
use Rattle.pass_edges_proof.proofs.ir_laws.facts.Truth.{either}
use Rattle.pass_edges_proof.proofs.rule_laws.rules.counted.Lists.{row_joined}
use Rattle.pass_edges_proof.proofs.rule_laws.rules.counted.Puts.{ArePut}
use Rattle.pass_fetch_proof.proofs.cells.rules.Single.{IsTold, alloca_put}
use Rattle.pass_edges_proof.proofs.rule_laws.rules.counted.Times.{Adds, adds_as, adds_joined, adds_none, adds_one, adds_wider, made_both, made_times, same_times}
use Rattle.pass_edges_proof.proofs.rule_laws.rules.counted.Types.{is_cell_type}
use Rattle.pass_edges_proof.proofs.ir_laws.facts.Members.{each_joined}
use Rattle.pass_edges_proof.proofs.ir_laws.paths.source_rules.Locals.{listed_left, listed_right}
use Rattle.pass_edges_proof.proofs.rule_laws.rules.source_rules.Locals.{made_by}
use Rattle.pass_edges_proof.proofs.ir_laws.facts.Lists.{row_of}
use Rattle.pass_edges_proof.specs.flow_solver.Paths.{IsListed}
use Rattle.ir_model.specs.Ty.{Ty, int}
use Rattle.ir_model.specs.declared.instr.Instr.{Instr}
use Rattle.ir_model.specs.declared.module.Function.{Function}
use Rattle.ir_model.specs.declared.module.Module.{Module}
use Rattle.pass_edges_proof.specs.run_laws.changed.Changed.{Each}
use Rattle.pass_edges_proof.specs.pass_cells.Links.{cell_name, distance_name, field_name, link_name}
use Rattle.pass_edges_proof.specs.pass_cells.Moves.{cell_alloca}
use Rattle.pass_edges_proof.specs.pass_cells.Written.{distance_alloca, distance_allocas, kept_allocas, link_allocas}
use Rattle.pass_edges_proof.specs.pass_cells.declared.plan.KeptValue.{KeptValue}
use Rattle.pass_edges_proof.specs.rule_laws.rules.woven_rules.Blocks.{IsPutIn}
use Rattle.pass_edges_proof.specs.rule_laws.rules.woven_rules.Weaving.{Weaving}

-- ---- what stands there

in_rest : (n : ℕ) (x : KeptValue) (xs : List KeptValue) → IsListed n (row_of made_by (kept_allocas xs)) → IsListed n (row_of made_by (kept_allocas (x ∷ xs)))
in_rest n x xs h =
    inr (inr (subst (λ (l : List ℕ). IsListed n l) (sym (row_joined made_by (distance_allocas x) (kept_allocas xs))) (listed_right n (row_of made_by (distance_allocas x)) (row_of made_by (kept_allocas xs)) h)))

pub cell_in : (xs : List KeptValue) (k : ℕ) (x : KeptValue) → slice_get xs k ≡ Some x → IsListed x.cell (row_of made_by (kept_allocas xs))
cell_in [] k x e = absurd (cc)
cell_in (y ∷ xs) zero x e = let same : y ≡ x = cc in inl (ap (λ (z : KeptValue). z.cell) (sym same))
cell_in (y ∷ xs) (suc k) x e = in_rest x.cell y xs (cell_in xs k x e)

pub field_in : (xs : List KeptValue) (k : ℕ) (x : KeptValue) → slice_get xs k ≡ Some x → IsListed x.field (row_of made_by (kept_allocas xs))
field_in [] k x e = absurd (cc)
field_in (y ∷ xs) zero x e = let same : y ≡ x = cc in inr (inl (ap (λ (z : KeptValue). z.field) (sym same)))
field_in (y ∷ xs) (suc k) x e = in_rest x.field y xs (field_in xs k x e)

distance_made : (cell : ℕ) (t : Ty) (o : Option ℕ) (s : ℕ) → o ≡ Some s → IsListed cell (row_of made_by (distance_alloca cell t o))
distance_made cell t None s e = absurd (cc)
distance_made cell t (Some u) s e = inl refl

pub distance_in : (xs : List KeptValue) (k : ℕ) (x : KeptValue) (s : ℕ) → slice_get xs k ≡ Some x → x.slot ≡ Some s → IsListed x.field_cell (row_of made_by (kept_allocas xs))
distance_in [] k x s e slot = absurd (cc)
distance_in (y ∷ xs) zero x s e slot =
    let same : y ≡ x = cc in
    let here : IsListed y.field_cell (row_of made_by (distance_allocas y)) = distance_made y.field_cell y.field_ty y.slot s (ap (λ (z : KeptValue). z.slot) same ∙ slot) in
    subst (λ (n : ℕ). IsListed n (row_of made_by (kept_allocas (y ∷ xs)))) (ap (λ (z : KeptValue). z.field_cell) same)
    (inr (inr (subst (λ (l : List ℕ). IsListed y.field_cell l) (sym (row_joined made_by (distance_allocas y) (kept_allocas xs))) (listed_left y.field_cell (row_of made_by (distance_allocas y)) (row_of made_by (kept_allocas xs)) here))))
distance_in (y ∷ xs) (suc k) x s e slot = in_rest x.field_cell y xs (distance_in xs k x s e slot)

pub link_in : (first count links i : ℕ) → i < links → IsListed (link_name first count i) (row_of made_by (link_allocas first count links))
link_in first count zero i lt = absurd (omega (arith, lt))
link_in first count (suc j) i lt =
    let before : List Instr = link_allocas first count j in
    let last : List Instr = cell_alloca (link_name first count j) (int 64) ∷ [] in
    subst (λ (l : List ℕ). IsListed (link_name first count i) l) (sym (row_joined made_by before last))
    (⊎_elim
    (λ same. listed_right (link_name first count i) (row_of made_by before) (row_of made_by last) (inl (ap (link_name first count) same)))
    (λ ne. listed_left (link_name first count i) (row_of made_by before) (row_of made_by last) (link_in first count j i (omega (arith, lt, ne))))
    (either i j))

-- ---- all are allocas of cells

pub data IsCell (first : ℕ) : Instr → Type 0 where
  ACell : (n : ℕ) (t : Ty) → is_cell_type t ≡ true → first ≤ n → IsCell first (cell_alloca n t)

distance_cells : (first cell : ℕ) (t : Ty) (o : Option ℕ) → is_cell_type t ≡ true → first ≤ cell → Each (IsCell first) (distance_alloca cell t o)
distance_cells first cell t None h low = tt
distance_cells first cell t (Some s) h low = (ACell cell t h low, tt)

-- types and names of what is kept
pub record HasCells (first : ℕ) (x : KeptValue) : Type 0 where
  pub ty : is_cell_type x.ty ≡ true
  pub field_ty : is_cell_type x.field_ty ≡ true
  pub cell : first ≤ x.cell
  pub field : first ≤ x.field
  pub field_cell : first ≤ x.field_cell

pub kept_cells : (first : ℕ) (xs : List KeptValue) → Each (HasCells first) xs → Each (IsCell first) (kept_allocas xs)
kept_cells first [] h = tt
kept_cells first (x ∷ xs) h = (
  ACell x.cell x.ty h.0.ty h.0.cell,
  (
    ACell x.field x.field_ty h.0.field_ty h.0.field,
    each_joined (IsCell first) (distance_allocas x) (kept_allocas xs) (distance_cells first x.field_cell x.field_ty x.slot h.0.field_ty h.0.field_cell) (kept_cells first xs h.1),
  ),
)

pub link_cells : (first count links : ℕ) → Each (IsCell first) (link_allocas first count links)
link_cells first count zero = tt
link_cells first count (suc i) =
    each_joined (IsCell first) (link_allocas first count i) (cell_alloca (link_name first count i) (int 64) ∷ []) (link_cells first count i) (ACell (link_name first count i) (int 64) refl (omega arith), tt)

-- ---- they may be put in

pub cells_put : (w : Weaving) (m : Module) (f : Function) (made : List ℕ) (is : List Instr) → Each (IsCell w.first) is → Each (IsTold w) is → ArePut w m f 0 made is
cells_put w m f made [] h told = tt
cells_put w m f made (i ∷ is) h told = (one i h.0 told.0, cells_put w m f (made_by i ++ made) is h.1 told.1)
  where
    one : (i : Instr) → IsCell w.first i → IsTold w i → IsPutIn w m f 0 made i
    one _ (ACell n t c low) told = alloca_put w m f 0 made n t refl c low told

-- ---- each makes a number of its own

-- where each element counts a number at most once, and only at its own place, so do all
abbrev counted : (KeptValue → ℕ) → List KeptValue → ℕ
counted g [] = 0
counted g (x ∷ xs) = g x + counted g xs

counted_adds : (g : KeptValue → ℕ) (n base : ℕ) (xs : List KeptValue) → ((j : ℕ) (x : KeptValue) → slice_get xs j ≡ Some x → Adds (base + j) (base + j + 1) n 0 (g x)) → Adds base (base + length xs) n 0 (counted g xs)
counted_adds g n base [] h = adds_none base (base + 0) n 0 0 refl
counted_adds g n base (x ∷ xs) h =
    let first : base ≤ base + 0 = omega arith in
    let here : base + 0 + 1 ≤ base + 1 = omega arith in
    let last : base + 1 + length xs ≤ base + length (x ∷ xs) = omega arith in
    adds_joined base (base + 1) (base + length (x ∷ xs)) n 0 0 (g x) (counted g xs) (omega arith) (omega arith)
    (adds_wider (base + 0) (base + 0 + 1) base (base + 1) n 0 (g x) first here (h 0 x refl))
    (adds_wider (base + 1) (base + 1 + length xs) (base + 1) (base + length (x ∷ xs)) n 0 (counted g xs) (omega arith) last
    (counted_adds g n (base + 1) xs (λ j y e. let low : base + 1 + j ≤ base + suc j = omega arith in let high : base + suc j + 1 ≤ base + 1 + j + 1 = omega arith in adds_wider (base + suc j) (base + suc j + 1) (base + 1 + j) (base + 1 + j + 1) n 0 (g y) low high (h (suc j) y e))))

distance_count : ℕ → KeptValue → ℕ
distance_count n x = made_times n (distance_allocas x)

kept_count : (n : ℕ) (xs : List KeptValue) → made_times n (kept_allocas xs) ≡ counted (λ x. same_times x.cell n) xs + counted (λ x. same_times x.field n) xs + counted (distance_count n) xs
unfolding distance_count
kept_count n [] = refl
kept_count n (x ∷ xs) =
    let rest = kept_count n xs in
    let both = made_both n (distance_allocas x) (kept_allocas xs) in
    omega (arith, rest, both)

-- the names of what is kept, by its place
pub record IsNumbered (first count at : ℕ) (x : KeptValue) : Type 0 where
  pub cell : x.cell ≡ cell_name first at
  pub field : x.field ≡ field_name first count at
  pub distance : (s : ℕ) → x.slot ≡ Some s → x.field_cell ≡ distance_name first count at

at_place : (n k c : ℕ) → c ≡ k → Adds k (k + 1) n 0 (same_times c n)
at_place n k c e = adds_as k (k + 1) n 0 (same_times k n) 0 (same_times c n) refl (ap (λ (x : ℕ). same_times x n) e) (adds_one k n)

distance_at : (n k c : ℕ) (t : Ty) (o : Option ℕ) → ((s : ℕ) → o ≡ Some s → c ≡ k) → Adds k (k + 1) n 0 (made_times n (distance_alloca c t o))
distance_at n k c t None h = adds_none k (k + 1) n 0 0 refl
distance_at n k c t (Some s) h = adds_as k (k + 1) n 0 (same_times c n) 0 (same_times c n + 0) refl (omega arith) (at_place n k c (h s refl))

pub kept_adds : (n first : ℕ) (xs : List KeptValue) → ((at : ℕ) (x : KeptValue) → slice_get xs at ≡ Some x → IsNumbered first (length xs) at x) → Adds first (link_name first (length xs) 0) n 0 (made_times n (kept_allocas xs))
unfolding distance_count
kept_adds n first xs h =
    let count : ℕ = length xs in
    let cells : Adds first (first + count) n 0 (counted (λ x. same_times x.cell n) xs) = counted_adds (λ x. same_times x.cell n) n first xs (λ j x e. at_place n (first + j) x.cell (h j x e).cell) in
    let fields : Adds (first + count) (first + count + count) n 0 (counted (λ x. same_times x.field n) xs) = counted_adds (λ x. same_times x.field n) n (first + count) xs (λ j x e. at_place n (first + count + j) x.field (h j x e).field) in
    let distances : Adds (first + 2 * count) (first + 2 * count + count) n 0 (counted (distance_count n) xs) = counted_adds (distance_count n) n (first + 2 * count) xs (λ j x e. distance_at n (first + 2 * count + j) x.field_cell x.field_ty x.slot (h j x e).distance) in
    let low : first + count + count ≤ first + 2 * count = omega arith in
    let high : first + 2 * count + count ≤ link_name first count 0 = omega arith in
    adds_as first (link_name first count 0) n (0 + 0 + 0) (counted (λ x. same_times x.cell n) xs + counted (λ x. same_times x.field n) xs + counted (distance_count n) xs) 0 (made_times n (kept_allocas xs)) refl (kept_count n xs)
    (adds_joined first (first + count + count) (link_name first count 0) n (0 + 0) 0 (counted (λ x. same_times x.cell n) xs + counted (λ x. same_times x.field n) xs) (counted (distance_count n) xs) (omega arith) (omega arith)
    (adds_joined first (first + count) (first + count + count) n 0 0 (counted (λ x. same_times x.cell n) xs) (counted (λ x. same_times x.field n) xs) (omega arith) (omega arith) cells fields)
    (adds_wider (first + 2 * count) (first + 2 * count + count) (first + count + count) (link_name first count 0) n 0 (counted (distance_count n) xs) low high distances))

pub links_add : (n first count links : ℕ) → Adds (link_name first count 0) (link_name first count links) n 0 (made_times n (link_allocas first count links))
links_add n first count zero = adds_none (link_name first count 0) (link_name first count 0) n 0 0 refl
links_add n first count (suc i) =
    let here : ℕ = link_name first count i in
    let last : List Instr = cell_alloca here (int 64) ∷ [] in
    let one : Adds here (here + 1) n 0 (made_times n last) = adds_as here (here + 1) n 0 (same_times here n) 0 (same_times here n + 0) refl (omega arith) (adds_one here n) in
    let high : here + 1 ≤ link_name first count (suc i) = omega arith in
    lists_joined n (link_name first count 0) here (link_name first count (suc i)) 0 0 (link_allocas first count i) last (omega arith) (omega arith) (links_add n first count i) (adds_wider here (here + 1) here (link_name first count (suc i)) n 0 (made_times n last) (omega arith) high one)
