-- Instructions that stand one behind another, from a place of a block on.
use Rattle.std.proofs.Common.{◌≡◌, ℕ, suc, ◌+◌, List, [], ◌∷◌, ◌++◌, length, refl, sym, ap, ◌∙◌, subst, arith, append-nil}
use Rattle.pass_proofs.proofs.ir_laws.paths.crossing.Spots.{Spot, spot_instr, spot_next, spot_term}
use Rattle.pass_proofs.specs.ir_model.declared.instr.Instr.{Instr}
use Rattle.pass_proofs.specs.ir_model.declared.instr.Terminator.{Terminator}
use Rattle.pass_proofs.specs.ir_model.declared.module.Block.{Block}
use Rattle.pass_proofs.specs.ir_model.declared.module.Function.{Function}
use Rattle.pass_split_proof.specs.places.Places.{Remain}
use Rattle.pass_proofs.specs.run_laws.access.Lines.{StandAt}
use Rattle.pass_proofs.specs.run_step.Step.{AtInstr, AtTerm, fetch}

module _ (h : Function) (q : ℕ) (b : Block) where
  -- the first of the instructions ahead stand there, and behind them the others are ahead
  pub line_there : (xs ys : List Instr) (at : ℕ) → Spot h q at b (xs ++ ys) → StandAt h q at xs
      × Spot h q (at + length xs) b ys
  line_there [] ys at s = let same : at ≡ at + 0 = omega arith in (tt, subst (λ (n : ℕ). Spot h q n b ys) same s)
  line_there (x ∷ xs) ys at s =
      let more = line_there xs ys (at + 1) (spot_next h q at b x (xs ++ ys) s) in
      let same : at + 1 + length xs ≡ at + suc (length xs) = omega arith in
      ((spot_instr h q at b x (xs ++ ys) s, more.0), subst (λ (n : ℕ). Spot h q n b ys) same more.1)

  -- all that are ahead, and the end
  pub all_there : (xs : List Instr) (at : ℕ) → Spot h q at b xs → Remain h q at xs b.term
  all_there xs at s =
      let x = line_there xs [] at (subst (λ (is : List Instr). Spot h q at b is) (sym (append-nil xs)) s) in
      record { stand = x.0; ends = spot_term h q (at + length xs) b x.1 }

  -- what is fetched stands ahead
  pub ahead_instr : (at : ℕ) (i : Instr) (is : List Instr) → Spot h q at b is → fetch h q at ≡ AtInstr i
      → (rest : List Instr) × (is ≡ i ∷ rest)
  ahead_instr at i [] s e = let no : AtTerm b.term ≡ AtInstr i = sym (spot_term h q at b s) ∙ e in absurd (cc)
  ahead_instr at i (j ∷ is) s e =
      let both : AtInstr j ≡ AtInstr i = sym (spot_instr h q at b j is s) ∙ e in
      let same : j ≡ i = cc in
      (is, ap (λ (x : Instr). x ∷ is) same)

  pub ahead_term : (at : ℕ) (t : Terminator) (is : List Instr) → Spot h q at b is → fetch h q at ≡ AtTerm t → (is ≡ [])
      × (b.term ≡ t)
  ahead_term at t [] s e = let both : AtTerm b.term ≡ AtTerm t = sym (spot_term h q at b s) ∙ e in (refl, cc)
  ahead_term at t (j ∷ is) s e = let no : AtInstr j ≡ AtTerm t = sym (spot_instr h q at b j is s) ∙ e in absurd (cc)
