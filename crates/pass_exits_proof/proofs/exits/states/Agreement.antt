-- With blocks on the edges that leave windows each framed run agrees with the run of the module.
use Rattle.std.proofs.Common.{ℕ, ◌⊎◌, inl, inr, ⊎_elim, List, refl, arith}
use Rattle.std.specs.Prelude.{ℤ}
use Rattle.pass_fetch_proof.proofs.run_agreement.Costs.{weaken_by}
use Rattle.pass_fetch_proof.specs.run_agreement.Agreements.{AgreesWithin}
use Rattle.pass_fetch_proof.specs.run_agreement.Costs.{AgreesBy, IsNear}
use Rattle.pass_fetch_proof.specs.ir_base.declared.outcome.Word.{Word}
use Rattle.pass_fetch_proof.specs.run_source.declared.state.State.{State}
use Rattle.pass_fetch_proof.specs.ir_laws.facts.sound_states.Named.{AreLocalsNamed}
use Rattle.pass_fetch_proof.specs.frame_layout.declared.layout.Layouts.{Layouts}
use Rattle.pass_fetch_proof.specs.run_framed.Framed.{FramedAt}
use Rattle.ir_model.specs.declared.module.Module.{Module}
use Rattle.pass_exits_proof.proofs.exits.states.Exits.{all_move, exit_moving, kinds}
use Rattle.pass_fetch_proof.proofs.run_states.moved_states.Costs.{moves_pay}
use Rattle.pass_fetch_proof.proofs.run_states.moved_states.Simulation.{moves_agree, moves_correspond}
use Rattle.pass_exits_proof.specs.exits.states.Exits.{AreExitsKept, exits_split}
use Rattle.pass_fetch_proof.specs.run_states.moved_states.Beside.{AllPayFor, IsMovedIn, IsMovedOf, framed_machine}

pub exits_agree : (m : Module) → AreLocalsNamed m → AreExitsKept m → (layouts : Layouts) (entry : ℕ) (args : List Word) (answers : List ℤ) → AgreesWithin 2 (FramedAt m layouts entry args answers) (FramedAt (exits_split m) layouts entry args answers)
exits_agree m names kept layouts entry args answers = moves_agree exit_moving m kinds names (all_move m kept) layouts entry args answers

module _ (m : Module) (names : AreLocalsNamed m) (kept : AreExitsKept m) (layouts : Layouts) (entry : ℕ)
    (args : List Word) (answers : List ℤ) where
  abbrev R : State → State → Type 0
  R = IsMovedOf exit_moving m

  abbrev Q : State → State → Type 0
  Q = IsMovedIn m (exits_split m)

  moved_in : (s t : State) → R s t → Q s t
  moved_in s t r = record { moving = exit_moving; kinds = kinds; moves = all_move m kept; makes = refl; beside = r }

  near_in : (s t : State) → IsNear (framed_machine (exits_split m) layouts entry args answers) 2 R s t
      → IsNear (framed_machine (exits_split m) layouts entry args answers) 2 Q s t
  near_in s t h = (h.0, h.1, ⊎_elim (λ x. inl (x.0, moved_in s x.0 x.1, x.2)) (λ r. inr (moved_in s _ r)) h.2)

  pub exits_correspond : AgreesBy (IsMovedIn m (exits_split m))
      (IsNear (framed_machine (exits_split m) layouts entry args answers) 2 (IsMovedIn m (exits_split m)))
      (framed_machine m layouts entry args answers) (λ s. 2)
      (framed_machine (exits_split m) layouts entry args answers) (λ t. 1)
  exits_correspond =
      weaken_by R (IsNear (framed_machine (exits_split m) layouts entry args answers) 2 R) Q
      (IsNear (framed_machine (exits_split m) layouts entry args answers) 2 Q)
      (framed_machine m layouts entry args answers) (λ s. 2) (λ s. 2)
      (framed_machine (exits_split m) layouts entry args answers) (λ t. 1) (λ t. 1)
      moved_in near_in (λ n fine. omega arith) (λ n. omega arith)
      (moves_correspond exit_moving m kinds names (all_move m kept) layouts entry args answers)

  pub exits_pay : (price cost : State → ℕ) → AllPayFor m (exits_split m) layouts answers price cost
      → AgreesBy (IsMovedIn m (exits_split m)) (IsNear (framed_machine (exits_split m) layouts entry args answers) 2
      (IsMovedIn m (exits_split m))) (framed_machine m layouts entry args answers) price
      (framed_machine (exits_split m) layouts entry args answers) cost
  exits_pay price cost pays =
      weaken_by R (IsNear (framed_machine (exits_split m) layouts entry args answers) 2 R) Q
      (IsNear (framed_machine (exits_split m) layouts entry args answers) 2 Q)
      (framed_machine m layouts entry args answers) price price
      (framed_machine (exits_split m) layouts entry args answers) cost cost
      moved_in near_in (λ n fine. omega arith) (λ n. omega arith)
      (moves_pay exit_moving m kinds names (all_move m kept) layouts entry args answers price cost
      (pays exit_moving kinds (all_move m kept) refl))
