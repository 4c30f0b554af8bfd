-- The edges of a terminator, and the labels to which they lead when blocks are put on those that leave windows.
use Rattle.std.proofs.Common.{◌≡◌, ℕ, zero, suc, ◌+◌, ◌⊎◌, inl, inr, List, [], ◌∷◌, ◌++◌, map, None, Option, Some, refl, sym, ap, subst, arith}
use Rattle.std.specs.Prelude.{slice_get}
use Rattle.pass_fetch_proof.specs.flow_solver.Paths.{IsListed}
use Rattle.ir_model.specs.declared.instr.Case.{Case}
use Rattle.ir_model.specs.declared.instr.Terminator.{Terminator}
use Rattle.ir_model.specs.declared.module.Function.{Function}
use Rattle.pass_fetch_proof.specs.ir_paths.Paths.{targets}
use Rattle.pass_split.specs.pass_exits.ExitBlocks.{after_exit, exit_cases, exit_label, exit_term}
use Rattle.pass_split.specs.pass_exits.Exits.{exit_to, exits_to, mark_of}
use Rattle.pass_split.specs.pass_exits.declared.exit.Exit.{Exit}

module _ (f : Function) (at from : ℕ) where
  -- the labels to which edges to these labels lead then; n is the next new label
  abbrev pub cut_labels : ℕ → List ℕ → List ℕ
  cut_labels n [] = []
  cut_labels n (t ∷ ts) = exit_label n (mark_of f at t) t ∷ cut_labels (after_exit n (mark_of f at t)) ts

  case_labels : (n : ℕ) (cases : List Case) → map (λ k. k.target) (exit_cases f at n cases) ≡ cut_labels n (map (λ k. k.target) cases)
  case_labels n [] = refl
  case_labels n (k ∷ cases) = ap (λ (ls : List ℕ). exit_label n (mark_of f at k.target) k.target ∷ ls) (case_labels (after_exit n (mark_of f at k.target)) cases)

  pub cut_targets : (n : ℕ) (t : Terminator) → targets (exit_term f at n t) ≡ cut_labels n (targets t)
  cut_targets n (Terminator.Jump label) = refl
  cut_targets n (Terminator.Branch c a b) = refl
  cut_targets n (Terminator.Switch arg default cases) =
      ap (λ (ls : List ℕ). exit_label n (mark_of f at default) default ∷ ls) (case_labels (after_exit n (mark_of f at default)) cases)
  cut_targets n (Terminator.Ret value) = refl
  cut_targets n Terminator.Unreachable = refl

  -- the edge has a mark, and leads to the block of one of these exits
  pub record IsMarked (n : ℕ) (exits : List Exit) (t l : ℕ) : Type 0 where
    pub index : ℕ
    pub exit : Exit
    pub got : slice_get exits index ≡ Some exit
    pub target : exit.target ≡ t
    pub label : l ≡ n + index
    pub mark : mark_of f at t ≡ Some exit.suspend

  -- an edge to t leads to l then
  abbrev pub Cut : ℕ → List Exit → ℕ → ℕ → Type 0
  Cut n exits t l = ((l ≡ t) × (mark_of f at t ≡ None)) ⊎ IsMarked n exits t l

  further : (n j u : ℕ) (exits : List Exit) (t l : ℕ) → Cut (n + 1) exits t l → Cut n (record { from = from; target = u; suspend = j } ∷ exits) t l
  further n j u exits t l (inl d) = inl d
  further n j u exits t l (inr m) =
      let s = m.label in
      let z : l ≡ n + suc m.index = omega (arith, s) in
      inr (record { index = suc m.index; exit = m.exit; got = m.got; target = m.target; label = z; mark = m.mark })

  pub one_cut : (n t : ℕ) (ts : List ℕ) (o : Option ℕ) → mark_of f at t ≡ o → Cut n (exit_to from t o ++ exits_to f at from ts) t (exit_label n o t)
  one_cut n t ts None e = inl (refl, e)
  one_cut n t ts (Some j) e = let z : n ≡ n + 0 = omega arith in inr (record { index = 0; exit = record { from = from; target = t; suspend = j }; got = refl; target = refl; label = z; mark = e })

  pub later_cut : (n u : ℕ) (ts : List ℕ) (t l : ℕ) (o : Option ℕ) → Cut (after_exit n o) (exits_to f at from ts) t l → Cut n (exit_to from u o ++ exits_to f at from ts) t l
  later_cut n u ts t l None c = c
  later_cut n u ts t l (Some j) c = further n j u (exits_to f at from ts) t l c

  -- an edge to each of the labels leads somewhere, and what they lead to comes from such an edge
  pub cut_forth : (n : ℕ) (ts : List ℕ) (t : ℕ) → IsListed t ts → (l : ℕ) × (IsListed l (cut_labels n ts) × Cut n (exits_to f at from ts) t l)
  cut_forth n [] t l = absurd l
  cut_forth n (u ∷ ts) t (inl e) =
      (exit_label n (mark_of f at u) u, (inl refl, subst (λ (x : ℕ). Cut n (exits_to f at from (u ∷ ts)) x (exit_label n (mark_of f at u) u)) (sym e) (one_cut n u ts (mark_of f at u) refl)))
  cut_forth n (u ∷ ts) t (inr l) =
      let x = cut_forth (after_exit n (mark_of f at u)) ts t l in
      (x.0, (inr x.1.0, later_cut n u ts t x.0 (mark_of f at u) x.1.1))

  pub cut_back : (n : ℕ) (ts : List ℕ) (l : ℕ) → IsListed l (cut_labels n ts) → (t : ℕ) × (IsListed t ts × Cut n (exits_to f at from ts) t l)
  cut_back n [] l h = absurd h
  cut_back n (u ∷ ts) l (inl e) =
      (u, (inl refl, subst (λ (x : ℕ). Cut n (exits_to f at from (u ∷ ts)) u x) (sym e) (one_cut n u ts (mark_of f at u) refl)))
  cut_back n (u ∷ ts) l (inr h) =
      let x = cut_back (after_exit n (mark_of f at u)) ts l h in
      (x.0, (inr x.1.0, later_cut n u ts x.0 l (mark_of f at u) x.1.1))

  -- where an exit leads, and that an edge leads to its block
  pub record IsTaken (n : ℕ) (ts : List ℕ) (i : ℕ) (e : Exit) : Type 0 where
    pub target : IsListed e.target ts
    pub label : IsListed (n + i) (cut_labels n ts)
    pub mark : mark_of f at e.target ≡ Some e.suspend

  abbrev Takes : ℕ → ℕ → List ℕ → Exit → Option ℕ → ℕ → Type 0
  Takes n t ts e o j = (IsListed e.target (t ∷ ts)) × ((IsListed (n + j) (exit_label n o t ∷ cut_labels (after_exit n o) ts)) × (mark_of f at e.target ≡ Some e.suspend))

  pub taken : (n : ℕ) (ts : List ℕ) (i : ℕ) (e : Exit) → slice_get (exits_to f at from ts) i ≡ Some e → IsTaken n ts i e
  taken n [] i e s = absurd (cc)
  taken n (t ∷ ts) i e s = on (mark_of f at t) refl i s (taken (after_exit n (mark_of f at t)) ts)
    where
      first : (j : ℕ) → mark_of f at t ≡ Some j → record { from = from; target = t; suspend = j } ≡ e → Takes n t ts e (Some j) 0
      first j m same =
          let z : n + 0 ≡ n = omega arith in (
            inl (sym (ap (λ (x : Exit). x.target) same)),
            (
              inl z,
              subst (λ (x : Exit). mark_of f at x.target ≡ Some x.suspend) same m,
            ),
          )

      on : (o : Option ℕ) → mark_of f at t ≡ o → (i : ℕ) → slice_get (exit_to from t o ++ exits_to f at from ts) i ≡ Some e → ((i : ℕ) (e : Exit) → slice_get (exits_to f at from ts) i ≡ Some e → IsTaken (after_exit n (mark_of f at t)) ts i e) → IsTaken n (t ∷ ts) i e
      on o m i s again = as_taken o m i (parts o m i s)
        where
          parts : (o : Option ℕ) → mark_of f at t ≡ o → (i : ℕ) → slice_get (exit_to from t o ++ exits_to f at from ts) i ≡ Some e → Takes n t ts e o i
          parts None m i s =
              let x = again i e s in
              (inr x.target, (inr (subst (λ (o : Option ℕ). IsListed (after_exit n o + i) (cut_labels (after_exit n o) ts)) m x.label), x.mark))
          parts (Some j) m zero s = first j m (cc)
          parts (Some j) m (suc i) s =
              let x = again i e s in
              let z : n + 1 + i ≡ n + suc i = omega arith in (
                inr x.target,
                (
                  inr (subst (λ (k : ℕ). IsListed k (cut_labels (n + 1) ts)) z (subst (λ (o : Option ℕ). IsListed (after_exit n o + i) (cut_labels (after_exit n o) ts)) m x.label)),
                  x.mark,
                ),
              )

          as_taken : (o : Option ℕ) → mark_of f at t ≡ o → (i : ℕ) → Takes n t ts e o i → IsTaken n (t ∷ ts) i e
          as_taken o m i h = record { target = h.0; label = subst (λ (p : Option ℕ). IsListed (n + i) (exit_label n p t ∷ cut_labels (after_exit n p) ts)) (sym m) h.1.0; mark = h.1.1 }
