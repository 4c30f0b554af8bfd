-- Counts of operands that come from other lists.
use Rattle.std.proofs.Common.{◌≡◌, ◌+◌, ℕ, Bool, true, false, not, cond, List, [], ◌∷◌, refl, sym, ap, ◌∙◌, arith, replicate, length, drop, get_or, ◌<◌}
use Rattle.std.proofs.lemmas.Bool.{eqb-true}
use Rattle.std.proofs.lemmas.List.Sums.{sum_by-cons}
use Rattle.flow_solver.proofs.Lists.{drop-next}
use Rattle.std.specs.Prelude.{Some, flat_map, slice_get, count_by, map, ◌==◌, ◌||◌}
use Rattle.std.specs.List.{list_any}
use Rattle.rule_shape.proofs.Counts.{count_of, counted_append}
use Rattle.rule_shape.specs.Uses.{counted_all, phi_operands}
use Rattle.elide_shape.specs.Edges.{edges_into, edges_of}
use Rattle.elide_shape.specs.Frames.{all_from, frame_value, frame_values}
use Rattle.elide_shape.specs.declared.edges.Edge.{Edge}
use Rattle.ir_model.specs.Names.{is_local}
use Rattle.ir_model.specs.declared.instr.Phi.{Phi}
use Rattle.ir_model.specs.declared.module.Function.{Function}
use Rattle.ir_model.specs.declared.operand.Operand.{Operand}

count_map : {X Y : Type 0} (p : Y → Bool) (g : X → Y) (xs : List X) → count_by p (map g xs) ≡ count_by (λ x. p (g x)) xs
count_map p g [] = refl
count_map p g (x ∷ xs) =
    sum_by-cons (λ y. cond (p y) 1 0) (g x) (map g xs)
    ∙ ap (λ (n : ℕ). cond (p (g x)) 1 0 + n) (count_map p g xs)
    ∙ sym (sum_by-cons (λ z. cond (p (g z)) 1 0) x xs)

pub phi_count : (v : ℕ) (p : Phi) → count_by (is_local v) (phi_operands p) ≡ count_by (λ i. is_local v i.value) p.incoming
phi_count v p = count_map (is_local v) (λ i. i.value) p.incoming

abbrev pub target : Edge → Operand
target e = Operand.Local e.to

pub entries_are : (n : ℕ) (f : Function) (counts : List ℕ) (v k : ℕ) → counts ≡ counted_all (replicate n 0) (map (λ e. Operand.Local e.to) (edges_of f)) → slice_get counts v ≡ Some k → k ≡ edges_into f v
entries_are n f counts v k is e = count_of n (map target (edges_of f)) counts v k is e ∙ count_map (is_local v) target (edges_of f)

-- ---- whether there is one

neqb : (a b : ℕ) → (a ≡ b → ⊥) → (a == b) ≡ false
neqb a b h = by (a == b) refl
  where
    by : (r : Bool) → (a == b) ≡ r → (a == b) ≡ false
    by true e = absurd (h (eqb-true a b e))
    by false e = e

any_by : (b : Bool) (rest : Bool) (n : ℕ) → rest ≡ not (n == 0) → (b || rest) ≡ not (cond b 1 0 + n == 0)
any_by true rest n e = sym (ap not (neqb (1 + n) 0 (λ z. absurd (omega arith))))
any_by false rest n e = e ∙ ap (λ (m : ℕ). not (m == 0)) (omega arith)

pub any_count : {X : Type 0} (p : X → Bool) (xs : List X) → list_any p xs ≡ not (count_by p xs == 0)
any_count p [] = refl
any_count p (x ∷ xs) = any_by (p x) (list_any p xs) (count_by p xs) (any_count p xs) ∙ ap (λ (m : ℕ). not (m == 0)) (sym (sum_by-cons (λ y. cond (p y) 1 0) x xs))

pub frames_are : (n : ℕ) (f : Function) (counts : List ℕ) (v k : ℕ) → counts ≡ counted_all (replicate n 0) (all_from frame_value f.blocks) → slice_get counts v ≡ Some k → not (k == 0) ≡ list_any (is_local v) (frame_values f)
frames_are n f counts v k is e =
    ap (λ (m : ℕ). not (m == 0)) (count_of n (frame_values f) counts v k is e) ∙ sym (any_count (is_local v) (frame_values f))

-- ---- one element more of a list whose operands are counted

pub count_step : {X : Type 0} (chosen : X → List Operand) (counts next : List ℕ) (xs : List X) (at : ℕ) (x : X) (all : List ℕ) → at < length xs → x ≡ get_or xs at x → next ≡ counted_all counts (chosen x) →
    counted_all counts (flat_map chosen (drop at xs)) ≡ all → counted_all next (flat_map chosen (drop (at + 1) xs)) ≡ all
count_step chosen counts next xs at x all lt is put before =
    ap (λ (c : List ℕ). counted_all c (flat_map chosen (drop (at + 1) xs))) put
    ∙ sym (counted_append counts (chosen x) (flat_map chosen (drop (at + 1) xs)))
    ∙ sym (ap (λ l. counted_all counts (flat_map chosen l)) (drop-next xs at x lt is))
    ∙ before
