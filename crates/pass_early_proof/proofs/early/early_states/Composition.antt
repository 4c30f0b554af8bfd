-- The first pass keeps states beside each other: its three passes in turn.
use Rattle.std.proofs.Common.{ℕ, List, sym, subst, arith}
use Rattle.std.specs.Prelude.{ℤ}
use Rattle.rule_laws.proofs.run_agreement.Costs.{compose_by, weaken_by}
use Rattle.rule_laws.specs.run_agreement.Costs.{AgreesBy, IsNear, Through}
use Rattle.rule_laws.specs.run_agreement.Machines.{Machine}
use Rattle.rule_laws.specs.ir_base.declared.outcome.Word.{Word}
use Rattle.rule_laws.specs.run_source.declared.state.State.{State}
use Rattle.pass_early.specs.Early.{early_module}
use Rattle.pass_early_proof.proofs.early.begin_naming.Simulation.{named_corresponds}
use Rattle.pass_early_proof.proofs.early.renaming.Composition.{early_in_turn}
use Rattle.pass_early_proof.proofs.early.renaming.Rules.{all_regular}
use Rattle.pass_early_proof.proofs.early.renaming.Simulation.{renamed_corresponds}
use Rattle.pass_early_proof.proofs.early.meaning.Names.{named_locals, named_uses, renamed_locals, renamed_uses}
use Rattle.run_states.proofs.early_states.Scaled.{scale_by}
use Rattle.pass_early_proof.proofs.early.save_simulation.Simulation.{saves_correspond}
use Rattle.pass_early_proof.specs.early.renaming.Passes.{named_module}
use Rattle.pass_early_proof.specs.early.renaming.Regular.{AllKeepRules}
use Rattle.pass_early_proof.specs.early.early_states.Beside.{IsEarlyOf, IsNearlyEarlyOf, IsSameState, IsSavedOf, IsShortOf, source_machine, unsaved_module}
use Rattle.pass_early_proof.specs.early.saves.SavesWritten.{saves_written}
use Rattle.rule_laws.specs.ir_laws.facts.sound_states.Named.{AreLocalsNamed, AreUsesNamed}
use Rattle.ir_model.specs.declared.module.Frame.{Frame}
use Rattle.ir_model.specs.declared.module.Module.{Module}

module _ (m : Module) (locals : AreLocalsNamed m) (uses : AreUsesNamed m) (rules : AllKeepRules (named_module m))
    (sizes : List Frame) (entry : ℕ) (args : List Word) (answers : List ℤ) where
  abbrev run : Module → Machine State
  run k = source_machine k sizes entry args answers

  abbrev second : Module
  second = unsaved_module m

  abbrev One : State → ℕ
  One s = 1

  abbrev Two : State → ℕ
  Two s = 2

  same_through : (s u : State) → Through (IsShortOf m) IsSameState s u → IsShortOf m s u
  same_through s u r = subst (IsShortOf m s) (sym r.2) r.1

  first_two : AgreesBy (IsShortOf m) (IsShortOf m) (run m) One (run second) One
  first_two =
      weaken_by (Through (IsShortOf m) IsSameState) (Through (IsShortOf m) IsSameState) (IsShortOf m) (IsShortOf m)
      (run m) One One (run second) One One
      same_through same_through (λ n fine. omega arith) (λ n. omega arith)
      (compose_by (IsShortOf m) (IsShortOf m) IsSameState IsSameState (run m) One (run (named_module m)) One
      (run second) One
      (named_corresponds m locals uses sizes entry args answers)
      (renamed_corresponds (named_module m) (all_regular (named_module m) rules) sizes entry args answers))

  abbrev Near : Module → State → State → Type 0
  Near k = IsNear (run k) 2 (IsSavedOf second)

  all_three : AgreesBy (IsEarlyOf m) (Through (IsShortOf m) (Near (saves_written second))) (run m) Two
      (run (saves_written second)) One
  all_three =
      compose_by (IsShortOf m) (IsShortOf m) (IsSavedOf second) (Near (saves_written second)) (run m) Two (run second)
      Two (run (saves_written second)) One
      (scale_by (IsShortOf m) (IsShortOf m) (run m) One (run second) One 2 first_two)
      (saves_correspond second (renamed_locals (named_module m) (named_locals m locals))
      (renamed_uses (named_module m) rules (named_uses m uses)) sizes entry args answers)

  pub early_corresponds : AgreesBy (IsEarlyOf m) (IsNearlyEarlyOf m sizes entry args answers) (run m) Two
      (run (early_module m)) One
  early_corresponds = subst (λ (k : Module). AgreesBy (IsEarlyOf m) (Through (IsShortOf m) (Near k)) (run m) Two
      (run k) One) (sym (early_in_turn m)) all_three
