-- What is lowered, and the modules and machines of its passes in a row.
use Rattle.std.specs.Prelude.{◌≡◌, ◌<◌, ◌^◌, ℕ, Bool, true, List, None, Ok, Some, length, map, slice_get}
use Rattle.compiler.specs.run_agreement.Machines.{Machine}
use Rattle.compiler.specs.pass_cleanup.Cleaned.{plain_machine}
use Rattle.compiler.specs.pass_cleanup.Cleanup.{clean_module}
use Rattle.compiler.specs.run_source.Source.{given}
use Rattle.compiler.specs.run_source.declared.state.State.{State}
use Rattle.compiler.specs.pass_split.Parts.{split_module}
use Rattle.compiler.specs.frame_contents.Frames.{AreLayouts}
use Rattle.compiler_theorem.specs.theorem.Anew.{Anew}
use Rattle.compiler_theorem.specs.theorem.Entries.{Run}
use Rattle.pass_frames_meaning.specs.pass_renewed_proof.Prices.{Prices, kept_price, renewed_price}
use Rattle.compiler.specs.pass_early.Early.{early_module}
use Rattle.compiler.specs.frame_layout.declared.layout.Layouts.{Layouts}
use Rattle.compiler.specs.pass_proofs.edges.states.MovedState.{edges_split}
use Rattle.compiler.specs.run_framed.Framed.{frame_of_layout}
use Rattle.compiler.specs.rule_all.Refused.{IsRefused}
use Rattle.compiler.specs.text_grammar.Text.{StandsFor}
use Rattle.compiler.specs.ir_model.declared.instr.Instr.{Instr}
use Rattle.compiler.specs.ir_model.declared.module.Block.{Block}
use Rattle.compiler.specs.ir_model.declared.module.Frame.{Frame}
use Rattle.compiler.specs.ir_model.declared.module.Function.{Function}
use Rattle.compiler.specs.ir_model.declared.module.Module.{Module}
use Rattle.compiler.specs.pass_kept_proof.Machines.{kept_machine, source_machine}
use Rattle.compiler.specs.text_canonical.order.Order.{module_order}
use Rattle.compiler.specs.rule_names.declared.stage.Stage.{Stage}
use Rattle.compiler.specs.run_step.Effects.{is_alloca}
use Rattle.compiler.specs.run_plain.declared.state.PlainState.{PlainState}
use Rattle.compiler.specs.text_canonical.grammar.Bytes.{AreBytes}
use Rattle.compiler.specs.rule_laws.rules.names_apart.Words.{AreNamesFew}
use Rattle.pass_frames_meaning.specs.pass_renewed_proof.Renewed.{renewed_given}
use Rattle.compiler.specs.pass_frames.Framed.{IsFramedForm}
use Rattle.compiler.specs.run_states.moved_states.Beside.{framed_machine}

-- a text, its module, whether frames share bytes, the layouts of its frames, and its framed form
pub record Lowered : Type 0 where
  pub text : List ℕ
  pub source : Module
  pub share : Bool
  pub layouts : Layouts
  pub framed : Module

-- ---- the modules

abbrev pub early : Lowered → Module
early l = early_module l.source

abbrev pub edged : Lowered → Module
edged l = edges_split (early l)

-- of a framed module
abbrev pub split_from : Lowered → Module → Module
split_from l n = split_module l.layouts n

abbrev pub lowered_from : Lowered → Module → Module
lowered_from l n = clean_module (split_from l n)

-- what the printed text stands for
abbrev pub printed_from : Lowered → Module → Module
printed_from l n = module_order (lowered_from l n)

-- the text stands for the module, which breaks no rule
pub record IsAccepted (l : Lowered) : Type 0 where
  pub bytes : AreBytes l.text
  pub stands : StandsFor l.text l.source
  pub accepted : IsRefused Stage.Source l.source None

-- An index into a structure is a word of 32 bits, in which 2^31 or more is negative. The program takes a text of at most
-- 2^24 bytes.
abbrev pub HasFewBytes : Lowered → Type 0
HasFewBytes l = length l.text < 2 ^ 31

-- the layouts and the framed form are its own
pub record IsLowered (l : Lowered) : Type 0 where
  pub source : IsAccepted l
  pub laid : AreLayouts l.source l.share (Ok l.layouts)
  pub is_framed : IsFramedForm l.layouts (early l) l.framed
  pub few : AreNamesFew (lowered_from l l.framed)

-- ---- the machines

-- the frame sizes that are printed
abbrev pub sizes_of : Lowered → List Frame
sizes_of l = map frame_of_layout l.layouts.coroutines

abbrev pub source_run : Lowered → Run → Machine State
source_run l r = source_machine l.source (sizes_of l) r.entry r.args r.answers

abbrev pub kept_run : Lowered → Anew → Run → Machine State
kept_run l a r = kept_machine (edged l) a.keep (sizes_of l) r.entry r.args r.answers

abbrev pub framed_run : Lowered → Module → Run → Machine State
framed_run l n r = framed_machine n l.layouts r.entry r.args r.answers

-- from the function at a position
abbrev pub plain_run : Module → Run → ℕ → Machine PlainState
plain_run m r other = plain_machine m other r.args r.answers

-- ---- the prices

abbrev pub price_kept : Lowered → Anew → Run → Prices → State → ℕ
price_kept l a r p = kept_price p a.flags (given (edged l) (sizes_of l) r.answers)

abbrev pub price_renewed : Lowered → Anew → Run → Prices → State → ℕ
price_renewed l a r p = renewed_price p (renewed_given (edged l) a.keep a.flags a.roots (sizes_of l) r.answers).given

-- ---- the framed form

-- the entry of a coroutine begins with its allocas
pub record HasAllocasFirst (f : Function) : Type 0 where
  pub first : (b : Block) (j k : ℕ) (i x : Instr) → slice_get f.blocks 0 ≡ Some b → slice_get b.instrs j ≡ Some i
      → slice_get b.instrs k ≡ Some x → is_alloca x ≡ true → j < k → is_alloca i ≡ true

abbrev pub AreAllocasFirst : Module → Type 0
AreAllocasFirst m = (func : ℕ) (f : Function) → slice_get m.functions func ≡ Some f → f.coroutine ≡ true
    → HasAllocasFirst f
