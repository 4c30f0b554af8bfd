-- Sets of locals, and the definitions in them.
use Rattle.std.proofs.lemmas.Bool.{eqb-true, eq-eqb, false≢true}
use Rattle.std.proofs.Common.{◌≡◌, ◌<◌, ◌≤◌, ◌+◌, drop, get_or, drop-cons, add-one, ℕ, zero, suc, cond, Bool, true, false, ◌&&◌, List, [], ◌∷◌, length, replicate, refl, sym, ap, ◌∙◌, arith}
use Rattle.std.specs.Prelude.{Option, Some, None, slice_get, slice_set, ◌||◌, ◌==◌, if◌then◌else◌}
use Rattle.std.specs.List.{list_any}
use Rattle.ir_base.specs.declared.outcome.Place.{Place}
use Rattle.ir_parts.specs.declared.defined.Definition.{Definition}
use Rattle.rule_names.specs.Definitions.{first_twice, has_number}
use Rattle.ir_parts.specs.Locals.{locals_of}
use Rattle.ir_parts.specs.Parts.{first_part, parts_of}
use Rattle.ir_model.specs.declared.module.Function.{Function}
use Rattle.ir_model.specs.declared.module.Module.{Module}
use Rattle.rule_names.specs.Known.{first_unknown, is_defined, is_kind, is_label, is_value, names_unknown}
use Rattle.rule_names.specs.Numbers.{or_false}

-- ---- marks

-- numbers that differ
neqb : (a b : ℕ) → (a ≡ b → ⊥) → (a == b) ≡ false
neqb a b h = by (a == b) refl
  where
    by : (r : Bool) → (a == b) ≡ r → (a == b) ≡ false
    by true e = absurd (h (eqb-true a b e))
    by false e = e

eqb-suc : (n k : ℕ) → (n == k) ≡ (suc n == suc k)
eqb-suc n k = by (n == k) refl
  where
    by : (r : Bool) → (n == k) ≡ r → (n == k) ≡ (suc n == suc k)
    by true e = e ∙ sym (eq-eqb (suc n) (suc k) (ap suc (eqb-true n k e)))
    by false e = e ∙ sym (neqb (suc n) (suc k) (λ same. false≢true (sym e ∙ eq-eqb n k (omega (arith, same)))))

past : {A : Type 0} (xs : List A) (i : ℕ) → length xs ≤ i → drop i xs ≡ []
past [] zero le = refl
past [] (suc i) le = refl
past (x ∷ xs) zero le = absurd (omega arith)
past (x ∷ xs) (suc i) le = past xs i (omega arith)

pub no_marks : (names n : ℕ) → or_false (slice_get (replicate names false) n) ≡ false
no_marks zero n = refl
no_marks (suc k) zero = refl
no_marks (suc k) (suc n) = no_marks k n

pub one_mark : (marks : List Bool) (n k : ℕ) → n < length marks → or_false (slice_get (slice_set marks n true) k) ≡ ((n == k) || or_false (slice_get marks k))
one_mark [] n k lt = absurd (omega arith)
one_mark (m ∷ ms) zero zero lt = refl
one_mark (m ∷ ms) zero (suc k) lt = ap (λ (b : Bool). b || or_false (slice_get ms k)) (sym (neqb 0 (suc k) (omega arith)))
one_mark (m ∷ ms) (suc n) zero lt = ap (λ (b : Bool). b || m) (sym (neqb (suc n) 0 (omega arith)))
one_mark (m ∷ ms) (suc n) (suc k) lt = one_mark ms n k (omega arith) ∙ ap (λ (b : Bool). b || or_false (slice_get ms k)) (eqb-suc n k)

-- ---- the first that is also among those before

abbrev pub also : ℕ → (ℕ → Bool) → ℕ → Bool
also n before k = (n == k) || before k

abbrev pub twice : (ℕ → Bool) → List Definition → Option Place
twice before [] = None
twice before (d ∷ ds) = if before d.name then Some d.place else twice (also d.name before) ds

pub twice_is : (names : List ℕ) (ds : List Definition) → twice (has_number names) ds ≡ first_twice names ds
twice_is names [] = refl
twice_is names (d ∷ ds) = ap (λ (o : Option Place). if has_number names d.name then Some d.place else o) (twice_is (d.name ∷ names) ds)

pub twice_found : (before : ℕ → Bool) (d : Definition) (ds all : List Definition) → all ≡ d ∷ ds → before d.name ≡ true → twice before all ≡ Some d.place
twice_found before d ds all e is = ap (twice before) e ∙ ap (λ (b : Bool). if b then Some d.place else twice (also d.name before) ds) is

pub twice_turn : (before after : ℕ → Bool) (d : Definition) (ds all : List Definition) → all ≡ d ∷ ds → before d.name ≡ false → ((k : ℕ) → after k ≡ also d.name before k) → twice before all ≡ twice after ds
twice_turn before after d ds all e is h =
    let same : also d.name before ≡ after = λ i k. sym (h k) i in
    ap (twice before) e ∙ ap (λ (b : Bool). if b then Some d.place else twice (also d.name before) ds) is ∙ ap (λ (f : ℕ → Bool). twice f ds) same

pub twice_found_at : (before : ℕ → Bool) (ds : List Definition) (i : ℕ) (d : Definition) → i < length ds → before (get_or ds i d).name ≡ true → twice before (drop i ds) ≡ twice (has_number []) ds → Some (get_or ds i d).place ≡ first_twice [] ds
twice_found_at before ds i d lt is inv =
    sym (twice_found before (get_or ds i d) (drop (suc i) ds) (drop i ds) (drop-cons ds i d lt) is) ∙ inv ∙ twice_is [] ds

pub twice_next_at : (before after : ℕ → Bool) (ds : List Definition) (i : ℕ) (d : Definition) → i < length ds → before (get_or ds i d).name ≡ false → ((k : ℕ) → after k ≡ also (get_or ds i d).name before k) → twice before (drop i ds) ≡ twice (has_number []) ds → twice after (drop (i + 1) ds) ≡ twice (has_number []) ds
twice_next_at before after ds i d lt is h inv =
    ap (λ (k : ℕ). twice after (drop k ds)) (add-one i) ∙ sym (twice_turn before after (get_or ds i d) (drop (suc i) ds) (drop i ds) (drop-cons ds i d lt) is h) ∙ inv

pub twice_none : (before : ℕ → Bool) (ds : List Definition) (i : ℕ) → length ds ≤ i → twice before (drop i ds) ≡ twice (has_number []) ds → None ≡ first_twice [] ds
twice_none before ds i le inv = sym (ap (twice before) (past ds i le)) ∙ inv ∙ twice_is [] ds

-- ---- the definitions of a kind

abbrev pub marked : Bool → (ℕ → Bool) → List Definition → ℕ → Bool
marked label before [] k = before k
marked label before (d ∷ ds) k = marked label (if is_kind label d then also d.name before else before) ds k

or_swap : (a b c : Bool) → (a || (b || c)) ≡ ((b || a) || c)
or_swap true true c = refl
or_swap true false c = refl
or_swap false true c = refl
or_swap false false c = refl

marked_by : (label : Bool) (before : ℕ → Bool) (d : Definition) (ds : List Definition) (k : ℕ) (b : Bool) → marked label (if b then also d.name before else before) ds k ≡ (list_any (λ e. is_kind label e && (e.name == k)) ds || (if b then also d.name before else before) k) → marked label (if b then also d.name before else before) ds k ≡ (((b && (d.name == k)) || list_any (λ e. is_kind label e && (e.name == k)) ds) || before k)
marked_by label before d ds k true e = e ∙ or_swap (list_any (λ e. is_kind label e && (e.name == k)) ds) (d.name == k) (before k)
marked_by label before d ds k false e = e

pub marked_is : (label : Bool) (before : ℕ → Bool) (ds : List Definition) (k : ℕ) → marked label before ds k ≡ (is_defined label ds k || before k)
marked_is label before [] k = refl
marked_is label before (d ∷ ds) k =
    marked_by label before d ds k (is_kind label d) (marked_is label (if is_kind label d then also d.name before else before) ds k)

or-false : (b : Bool) → (b || false) ≡ b
or-false true = refl
or-false false = refl

pub marked_done : (label : Bool) (set : ℕ → Bool) (ds : List Definition) (i : ℕ) → length ds ≤ i → ((n : ℕ) → marked label set (drop i ds) n ≡ marked label (λ k. false) ds n) → (n : ℕ) → set n ≡ is_defined label ds n
marked_done label set ds i le inv n =
    sym (ap (λ (l : List Definition). marked label set l n) (past ds i le)) ∙ inv n ∙ marked_is label (λ k. false) ds n ∙ or-false (is_defined label ds n)

-- ---- the names of a function

pub unknown_is : (m : Module) (k : ℕ) (f : Function) (values labels : ℕ → Bool) (vs ls : List Definition) → ((n : ℕ) → values n ≡ is_defined false vs n) → ((n : ℕ) → labels n ≡ is_defined true ls n) → vs ≡ locals_of k f → ls ≡ locals_of k f → first_part (names_unknown m values labels) (parts_of k f) ≡ first_unknown m k f
unknown_is m k f values labels vs ls hv hl ev el =
    let sv : values ≡ is_value k f = λ i n. (hv n ∙ ap (λ (l : List Definition). is_defined false l n) ev) i in
    let sl : labels ≡ is_label k f = λ i n. (hl n ∙ ap (λ (l : List Definition). is_defined true l n) el) i in
    ap (λ (v : ℕ → Bool). first_part (names_unknown m v labels) (parts_of k f)) sv
    ∙ ap (λ (l : ℕ → Bool). first_part (names_unknown m (is_value k f) l) (parts_of k f)) sl
