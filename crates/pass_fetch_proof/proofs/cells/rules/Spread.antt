-- The instructions of a block in one row: what is fetched, what is saved, the instruction, what is stored, and the distance.
use Rattle.std.proofs.Common.{◌≡◌, ℕ, ◌<◌, ◌≤◌, List, [], ◌∷◌, ◌++◌, refl, sym, ap, ◌∙◌, arith, append_assoc}
use Rattle.std.specs.Prelude.{Option, Some, None}
use Rattle.pass_fetch_proof.proofs.cells.rules.Fetched.{FromCell, IsFetch}
use Rattle.pass_edges_proof.specs.ir_parts.Contents.{instr_operands, result_of}
use Rattle.ir_model.specs.declared.instr.Instr.{Instr}
use Rattle.ir_model.specs.declared.module.Module.{Module}
use Rattle.pass_edges_proof.specs.run_laws.changed.Changed.{Each}
use Rattle.pass_edges_proof.specs.pass_fetch.Fetching.{fetches_of_all}
use Rattle.pass_edges_proof.specs.pass_fetch.Instrs.{fetched_instr, fetched_instrs, next_after_instr, with_fetched}
use Rattle.pass_edges_proof.specs.pass_fetch.declared.fetch.Fetch.{Fetch}
use Rattle.pass_edges_proof.specs.pass_cells.Kept.{entry}
use Rattle.pass_edges_proof.specs.pass_cells.Moves.{after_saved, load_from, saved_values}
use Rattle.pass_edges_proof.specs.pass_cells.Written.{after_one, distance_behind, save_row, stored_at, stored_result, written_instrs, written_one}
use Rattle.pass_edges_proof.specs.pass_cells.declared.plan.Plan.{Plan}
use Rattle.pass_edges_proof.specs.rule_laws.rules.woven_rules.Weaving.{Weaving}

-- k is the next name of what is written, and n that of what is fetched; the rest stands behind the instructions
abbrev pub spread : Module → Plan → List (Option Fetch) → ℕ → ℕ → List Instr → List Instr → List Instr
spread m p t k n [] rest = rest
spread m p t k n (i ∷ is) rest =
    let j = with_fetched t n i in
    fetches_of_all t n (instr_operands i)
    ++ (saved_values p.kept k (save_row p j)
    ++ (j ∷ (stored_result p (result_of j)
    ++ (distance_behind m p (after_saved k (save_row p j)) j ++ spread m p t (after_one m p k j) (next_after_instr t n i) is rest))))

regrouped : (a b c d : List Instr) (j : Instr) → ((a ++ (j ∷ b)) ++ c) ++ d ≡ a ++ (j ∷ (b ++ (c ++ d)))
regrouped [] b c d j = ap (λ (l : List Instr). j ∷ l) (append_assoc b c d)
regrouped (x ∷ a) b c d j = ap (λ (l : List Instr). x ∷ l) (regrouped a b c d j)

module _ (w : Weaving) (m : Module) (p : Plan) (placed : (v k : ℕ) → entry p.places v ≡ Some k → v < w.first) where
  -- a new name has no place
  unplaced : (n : ℕ) → w.first ≤ n → entry p.places n ≡ None
  unplaced n low = on (entry p.places n) refl
    where
      on : (o : Option ℕ) → entry p.places n ≡ o → o ≡ None
      on None e = refl
      on (Some k) e = let lt : n < w.first = placed n k e in absurd (omega (arith, lt, low))

  -- nothing is written around what is fetched
  fetch_alone : (k : ℕ) (i : Instr) (ys : List Instr) → IsFetch w i → written_instrs m p k (i ∷ ys) ≡ i ∷ written_instrs m p k ys
  fetch_alone k _ ys (FromCell n t c h l low) = ap (λ (o : Option ℕ). load_from n t c ∷ ((stored_at p.kept n o ++ []) ++ written_instrs m p k ys)) (unplaced n low)

  fetches_alone : (k : ℕ) (xs ys : List Instr) → Each (IsFetch w) xs → written_instrs m p k (xs ++ ys) ≡ xs ++ written_instrs m p k ys
  fetches_alone k [] ys h = refl
  fetches_alone k (x ∷ xs) ys h = fetch_alone k x (xs ++ ys) h.0 ∙ ap (λ (l : List Instr). x ∷ l) (fetches_alone k xs ys h.1)

  none_behind : (xs : List Instr) → xs ++ [] ≡ xs
  none_behind [] = refl
  none_behind (x ∷ xs) = ap (λ (l : List Instr). x ∷ l) (none_behind xs)

  pub fetches_written : (k : ℕ) (xs : List Instr) → Each (IsFetch w) xs → written_instrs m p k xs ≡ xs
  fetches_written k xs h = ap (written_instrs m p k) (sym (none_behind xs)) ∙ fetches_alone k xs [] h ∙ none_behind xs

  module _ (t : List (Option Fetch)) (fetched : (n : ℕ) (i : Instr) → w.first ≤ n → Each (IsFetch w) (fetches_of_all t n (instr_operands i))) (next : (n : ℕ) (i : Instr) → w.first ≤ n → w.first ≤ next_after_instr t n i) where
    pub spread_is : (k n : ℕ) (is rest : List Instr) → w.first ≤ n → Each (IsFetch w) rest → written_instrs m p k (fetched_instrs t n is ++ rest) ≡ spread m p t k n is rest
    spread_is k n [] rest low h = fetches_written k rest h
    spread_is k n (i ∷ is) rest low h =
        let j : Instr = with_fetched t n i in
        let here : List Instr = fetches_of_all t n (instr_operands i) in
        let more : List Instr = fetched_instrs t (next_after_instr t n i) is in
        let k2 : ℕ = after_one m p k j in
        ap (written_instrs m p k) (append_assoc (fetched_instr t n i) more rest ∙ append_assoc here (j ∷ []) (more ++ rest))
        ∙ fetches_alone k here (j ∷ (more ++ rest)) (fetched n i low)
        ∙ ap (λ (l : List Instr). here ++ l)
        (ap (λ (l : List Instr). written_one m p k j ++ l) (spread_is k2 (next_after_instr t n i) is rest (next n i low) h)
        ∙ regrouped (saved_values p.kept k (save_row p j)) (stored_result p (result_of j)) (distance_behind m p (after_saved k (save_row p j)) j) (spread m p t k2 (next_after_instr t n i) is rest) j)
