-- What lowering keeps of a text, in terms of what the call `lower` gives: its text stands for a module whose runs agree
-- with those of the module that the source's text stands for.
use Rattle.std.specs.Prelude.{ℕ, Bool, List, map}
use Rattle.compiler.specs.declared.lowered.Lowered.{Lowered as Given}
use Rattle.compiler_theorem.specs.theorem.Entries.{IsEntry, Run}
use Rattle.compiler_theorem.specs.theorem.Lowered.{Lowered}
use Rattle.compiler.specs.ir_model.declared.module.Frame.{Frame}
use Rattle.compiler.specs.ir_model.declared.module.Module.{Module}
use Rattle.compiler.specs.pass_cleanup.Cleaned.{plain_machine}
use Rattle.compiler.specs.pass_kept_proof.Machines.{source_machine}
use Rattle.compiler.specs.run_agreement.Agreements.{AgreesWithin}
use Rattle.compiler.specs.run_agreement.Factor.{step_factor}
use Rattle.compiler.specs.run_agreement.Machines.{at}
use Rattle.compiler.specs.run_framed.Framed.{frame_of_layout}
use Rattle.pass_frames_meaning.specs.run_types.States.{AreArguments}
use Rattle.compiler.specs.text_canonical.order.Order.{module_order}
use Rattle.compiler.specs.text_grammar.Text.{StandsFor}

-- what the text that is given stands for
abbrev pub printed_of : Given → Module
printed_of l = module_order l.«module»

-- a text with what was given for it
abbrev pub lowering_of : List ℕ → Bool → Given → Lowered
lowering_of text share l =
    record { text = text; source = l.source; share = share; layouts = l.layouts; framed = l.framed }

-- Of each call of an entry, with each list of answers, the run of the source, which is given these sizes of frames, and
-- that of the other module agree within the source's step factor.
pub record AgreeInRuns (m : Module) (frames : List Frame) (n : Module) : Type 0 where
  pub each : (r : Run) (other : ℕ) → IsEntry m n r.entry other → AreArguments m r.entry r.args
      → AgreesWithin (step_factor m 0) (at (source_machine m frames r.entry r.args r.answers))
      (at (plain_machine n other r.args r.answers))

-- The source is given the sizes of frames that are printed.
pub record KeepsTexts (text : List ℕ) (l : Given) : Type 0 where
  pub stands : StandsFor text l.source
  pub printed : StandsFor l.text (printed_of l)
  pub runs : AgreeInRuns l.source (map frame_of_layout l.layouts.coroutines) (printed_of l)
  -- so does the module itself, before its names are put in order
  pub lowered : AgreeInRuns l.source (map frame_of_layout l.layouts.coroutines) l.«module»
