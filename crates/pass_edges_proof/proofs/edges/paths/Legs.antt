-- The edges of a terminator, one after another, and the labels to which they lead then.
use Rattle.std.proofs.Common.{◌≡◌, ℕ, zero, suc, ◌+◌, inl, inr, Bool, true, false, List, [], ◌∷◌, ◌++◌, length, refl, sym, ap, ◌∙◌, subst, arith}
use Rattle.std.specs.Prelude.{Some, map, slice_get, unwrap_or, ◌||◌, if◌then◌else◌}
use Rattle.pass_edges.specs.EdgeBlocks.{split_cases, split_label, split_term}
use Rattle.pass_edges.specs.Edges.{after_edge, case_edges, edge_to, is_split, term_edges}
use Rattle.pass_edges.specs.declared.edge.Edge.{Edge}
use Rattle.ir_model.specs.declared.instr.Case.{Case}
use Rattle.ir_model.specs.declared.instr.Terminator.{Terminator}
use Rattle.pass_early_proof.specs.ir_paths.Paths.{targets}
use Rattle.pass_early_proof.proofs.ir_laws.facts.Lists.{get_behind}
use Rattle.pass_edges_proof.specs.edges.paths.Labels.{AreSplit, IsSplit}

-- an edge of a terminator: whether it is a suspend's resume or destroy edge, and its label
abbrev pub Leg : Type 0
Leg = Bool × ℕ

abbrev pub case_legs : Bool → List Case → List Leg
case_legs resumes cases = map (λ (k : Case). (resumes, k.target)) cases

abbrev pub legs : Bool → Terminator → List Leg
legs resumes (Terminator.Jump label) = (false, label) ∷ []
legs resumes (Terminator.Branch c a b) = (false, a) ∷ (false, b) ∷ []
legs resumes (Terminator.Switch arg default cases) = (false, default) ∷ case_legs resumes cases
legs resumes (Terminator.Ret value) = []
legs resumes Terminator.Unreachable = []

-- edges with the labels n, n + 1, .. that come from a label
abbrev pub AreNumbered : ℕ → ℕ → List Edge → Type 0
AreNumbered from n [] = Unit {0}
AreNumbered from n (e ∷ es) = (e.from ≡ from) × (e.label ≡ n) × AreNumbered from (suc n) es

module _ (flags : List Bool) (from : ℕ) where
  abbrev pub leg_edges : ℕ → List Leg → List Edge
  leg_edges n [] = []
  leg_edges n (x ∷ xs) = edge_to flags x.0 from n x.1 ++ leg_edges (after_edge flags x.0 n x.1) xs

  abbrev pub leg_labels : ℕ → List Leg → List ℕ
  leg_labels n [] = []
  leg_labels n (x ∷ xs) = split_label flags x.0 n x.1 ∷ leg_labels (after_edge flags x.0 n x.1) xs

  -- ---- terminators by their legs

  cases_by_legs : (resumes : Bool) (n : ℕ) (cases : List Case) → case_edges flags resumes from n cases ≡ leg_edges n (case_legs resumes cases)
  cases_by_legs resumes n [] = refl
  cases_by_legs resumes n (k ∷ cases) = ap (λ (es : List Edge). edge_to flags resumes from n k.target ++ es) (cases_by_legs resumes (after_edge flags resumes n k.target) cases)

  none_behind : (es : List Edge) → es ≡ es ++ []
  none_behind [] = refl
  none_behind (e ∷ es) = ap (λ (xs : List Edge). e ∷ xs) (none_behind es)

  pub edges_by_legs : (resumes : Bool) (n : ℕ) (t : Terminator) → term_edges flags resumes from n t ≡ leg_edges n (legs resumes t)
  edges_by_legs resumes n (Terminator.Jump label) = none_behind (edge_to flags false from n label)
  edges_by_legs resumes n (Terminator.Branch c a b) =
      ap (λ (es : List Edge). edge_to flags false from n a ++ es) (none_behind (edge_to flags false from (after_edge flags false n a) b))
  edges_by_legs resumes n (Terminator.Switch arg default cases) =
      ap (λ (es : List Edge). edge_to flags false from n default ++ es) (cases_by_legs resumes (after_edge flags false n default) cases)
  edges_by_legs resumes n (Terminator.Ret value) = refl
  edges_by_legs resumes n Terminator.Unreachable = refl

  case_labels : (resumes : Bool) (n : ℕ) (cases : List Case) → map (λ (k : Case). k.target) (split_cases flags resumes n cases) ≡ leg_labels n (case_legs resumes cases)
  case_labels resumes n [] = refl
  case_labels resumes n (k ∷ cases) = ap (λ (ls : List ℕ). split_label flags resumes n k.target ∷ ls) (case_labels resumes (after_edge flags resumes n k.target) cases)

  pub labels_by_legs : (resumes : Bool) (n : ℕ) (t : Terminator) → targets (split_term flags resumes n t) ≡ leg_labels n (legs resumes t)
  labels_by_legs resumes n (Terminator.Jump label) = refl
  labels_by_legs resumes n (Terminator.Branch c a b) = refl
  labels_by_legs resumes n (Terminator.Switch arg default cases) =
      ap (λ (ls : List ℕ). split_label flags false n default ∷ ls) (case_labels resumes (after_edge flags false n default) cases)
  labels_by_legs resumes n (Terminator.Ret value) = refl
  labels_by_legs resumes n Terminator.Unreachable = refl

  case_targets : (resumes : Bool) (cases : List Case) → map (λ (k : Case). k.target) cases ≡ map (λ (x : Leg). x.1) (case_legs resumes cases)
  case_targets resumes [] = refl
  case_targets resumes (k ∷ cases) = ap (λ (ls : List ℕ). k.target ∷ ls) (case_targets resumes cases)

  pub targets_by_legs : (resumes : Bool) (t : Terminator) → targets t ≡ map (λ (x : Leg). x.1) (legs resumes t)
  targets_by_legs resumes (Terminator.Jump label) = refl
  targets_by_legs resumes (Terminator.Branch c a b) = refl
  targets_by_legs resumes (Terminator.Switch arg default cases) = ap (λ (ls : List ℕ). default ∷ ls) (case_targets resumes cases)
  targets_by_legs resumes (Terminator.Ret value) = refl
  targets_by_legs resumes Terminator.Unreachable = refl

  -- ---- the labels of the edges

  pub numbered : (n : ℕ) (xs : List Leg) → AreNumbered from n (leg_edges n xs)
  numbered n [] = tt
  numbered n (x ∷ xs) = on (is_split flags x.0 x.1) (numbered (n + 1) xs) (numbered n xs)
    where
      next : n + 1 ≡ suc n
      next = omega arith

      on : (b : Bool) → AreNumbered from (n + 1) (leg_edges (n + 1) xs) → AreNumbered from n (leg_edges n xs) → AreNumbered from n ((if b then record { from = from; target = x.1; label = n } ∷ [] else []) ++ leg_edges (if b then n + 1 else n) xs)
      on true one none = (refl, refl, subst (λ (k : ℕ). AreNumbered from k (leg_edges (n + 1) xs)) next one)
      on false one none = none

  -- ---- each edge leads to its target, or to its block

  abbrev Split : List Edge → ℕ → ℕ → Type 0
  Split all t l = IsSplit flags from all t l

  append_once : (pre es fs : List Edge) → (pre ++ es) ++ fs ≡ pre ++ (es ++ fs)
  append_once [] es fs = refl
  append_once (e ∷ pre) es fs = ap (λ (xs : List Edge). e ∷ xs) (append_once pre es fs)

  not_flagged : (r c : Bool) → (r || c) ≡ false → c ≡ false
  not_flagged true c e = absurd (cc)
  not_flagged false c e = e

  pub legs_split : (pre : List Edge) (n : ℕ) (xs : List Leg) → AreSplit flags from (pre ++ leg_edges n xs) (map (λ (x : Leg). x.1) xs) (leg_labels n xs)
  legs_split pre n [] = tt
  legs_split pre n (x ∷ xs) = on (is_split flags x.0 x.1) refl (legs_split (pre ++ e ∷ []) (n + 1) xs) (legs_split pre n xs)
    where
      e : Edge
      e = record { from = from; target = x.1; label = n }

      on : (b : Bool) → is_split flags x.0 x.1 ≡ b → AreSplit flags from ((pre ++ e ∷ []) ++ leg_edges (n + 1) xs) (map (λ (y : Leg). y.1) xs) (leg_labels (n + 1) xs) → AreSplit flags from (pre ++ leg_edges n xs) (map (λ (y : Leg). y.1) xs) (leg_labels n xs) → Split (pre ++ ((if b then e ∷ [] else []) ++ leg_edges (if b then n + 1 else n) xs)) x.1 (if b then n else x.1) × AreSplit flags from (pre ++ ((if b then e ∷ [] else []) ++ leg_edges (if b then n + 1 else n) xs)) (map (λ (y : Leg). y.1) xs) (leg_labels (if b then n + 1 else n) xs)
      on true s one none = (
        inr (record { at = length pre + 0; got = get_behind pre (e ∷ leg_edges (n + 1) xs) 0 }),
        subst (λ (all : List Edge). AreSplit flags from all (map (λ (y : Leg). y.1) xs) (leg_labels (n + 1) xs)) (append_once pre (e ∷ []) (leg_edges (n + 1) xs)) one,
      )
      on false s one none = (inl (refl, not_flagged x.0 (unwrap_or (slice_get flags x.1) false) s), none)

  -- what each edge of a terminator leads to
  pub term_split : (resumes : Bool) (n : ℕ) (t : Terminator) → AreSplit flags from (term_edges flags resumes from n t) (targets t) (targets (split_term flags resumes n t))
  term_split resumes n t =
      subst (λ (ls : List ℕ). AreSplit flags from (term_edges flags resumes from n t) (targets t) ls) (sym (labels_by_legs resumes n t))
      (subst (λ (ts : List ℕ). AreSplit flags from (term_edges flags resumes from n t) ts (leg_labels n (legs resumes t))) (sym (targets_by_legs resumes t))
      (subst (λ (es : List Edge). AreSplit flags from es (map (λ (x : Leg). x.1) (legs resumes t)) (leg_labels n (legs resumes t))) (sym (edges_by_legs resumes n t)) (legs_split [] n (legs resumes t))))

  pub term_numbered : (resumes : Bool) (n : ℕ) (t : Terminator) → AreNumbered from n (term_edges flags resumes from n t)
  term_numbered resumes n t = subst (AreNumbered from n) (sym (edges_by_legs resumes n t)) (numbered n (legs resumes t))

-- ---- what stands among numbered edges

pub numbered_at : (from n : ℕ) (es : List Edge) → AreNumbered from n es → (i : ℕ) (e : Edge) → slice_get es i ≡ Some e → (e.from ≡ from) × (e.label ≡ n + i)
numbered_at from n [] h i e s = absurd (cc)
numbered_at from n (x ∷ es) h zero e s = on (cc)
  where
    on : x ≡ e → (e.from ≡ from) × (e.label ≡ n + 0)
    on is = (sym (ap (λ (y : Edge). y.from) is) ∙ h.0, (let d : n ≡ n + 0 = omega arith in sym (ap (λ (y : Edge). y.label) is) ∙ h.1 ∙ d))
numbered_at from n (x ∷ es) h (suc i) e s =
    let again = numbered_at from (suc n) es h.2 i e s in
    let d : suc n + i ≡ n + suc i = omega arith in
    (again.0, again.1 ∙ d)
