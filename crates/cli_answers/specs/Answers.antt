-- What a command answers to the bytes of its input.
use Rattle.std.specs.Prelude.{◌≡◌, ℕ, Bool, true, false, not, List, max, min, codes, Some, None, Option, is_some, if◌then◌else◌, length, ◌≤◌}
use Rattle.ir_base.specs.declared.status.Options.{Options}
use Rattle.cli_compare.specs.cli_runs.cli_entries.declared.verdict.Answer.{Answer}
use Rattle.cli_compare.specs.cli_runs.cli_entries.declared.verdict.Verdict.{Verdict}
use Rattle.cli_words.specs.declared.words.Form.{Form}
use Rattle.cli_words.specs.declared.words.RunWords.{RunWords}
use Rattle.cli_words.specs.declared.words.Words.{Words}
use Rattle.frame_contents.specs.Report.{layout_text}
use Rattle.ir_model.specs.declared.module.Module.{Module}
use Rattle.text_parser.specs.Parse.{read_module}
use Rattle.text_parser.specs.declared.text.Parsed.{Parsed}
use Rattle.text_printer.specs.Items.{module_text}
use Rattle.cli_compare.specs.Compared.{IsCompared}
use Rattle.cli_compare.specs.compiler.Lowering.{IsLowering, OfLowered}
use Rattle.cli_compare.specs.compiler_theorem.theorem.Texts.{AgreeInRuns}
use Rattle.text_canonical.specs.grammar.Bytes.{AreBytes}
use Rattle.cli_compare.specs.compiler.NoCoroutine.{LeavesNoCoroutine}
use Rattle.cli_compare.specs.compiler.Printed.{HasFewNames, IsReadPlain}
use Rattle.cli_compare.specs.compiler.declared.lowered.Lowered.{Lowered}
use Rattle.cli_compare.specs.compiler.declared.lowered.Lowering.{Lowering}
use Rattle.rule_all.specs.Refused.{IsRefused}
use Rattle.cli_compare.specs.frame_acceptance.Acceptance.{IsAcceptance, IsRefusedFor}
use Rattle.cli_compare.specs.frame_acceptance.declared.accepting.Acceptance.{Acceptance}
use Rattle.cli_gen.specs.Generated.{generated_module}
use Rattle.rule_modules.specs.declared.order.Refusal.{Refusal}
use Rattle.rule_names.specs.declared.stage.Stage.{Stage}
use Rattle.cli_compare.specs.cli_runs.cli_entries.Entries.{shown, refused, syntax_fault, entry_call, not_callable}
use Rattle.cli_compare.specs.cli_runs.Runs.{run_module, sizes_of, source_or, run_framed}

-- ---- lower

abbrev pub lower_answer : Lowering → Answer
lower_answer (Lowering.Done l) = shown Verdict.Done l.text
lower_answer (Lowering.Syntax items) = syntax_fault items
lower_answer (Lowering.Refused m rule place) = refused m rule place

-- ---- run

abbrev pub checked_run : Option Refusal → Module → RunWords → Answer
checked_run (Some r) m w = refused m r.rule r.place
checked_run None m w = run_module m w

-- what is made of the first broken rule of a module
pub record IsMadeOfRules (stage : Stage) (m : Module) (make : Option Refusal → Answer) (a : Answer) : Type 0 where
  pub refusal : Option Refusal
  pub refused : IsRefused stage m refusal
  pub is : a ≡ make refusal

-- a module without coroutines is looked at for all rules and run
abbrev pub IsTextAnswer : Parsed → RunWords → Answer → Type 0
IsTextAnswer (Parsed.Syntax items) w a = a ≡ syntax_fault items
IsTextAnswer (Parsed.Module m) w a = IsMadeOfRules Stage.Plain m (λ r. checked_run r m w) a

-- the source says whether the entry is callable; the lowered module runs the function of that name
abbrev pub run_lowered : Lowered → RunWords → Answer
run_lowered l w = if is_some (entry_call l.source w.entry w.args) then run_module l.module w else not_callable w.entry

abbrev pub lowered_answer : Lowering → RunWords → Answer
lowered_answer (Lowering.Syntax items) w = syntax_fault items
lowered_answer (Lowering.Refused m rule place) w = refused m rule place
lowered_answer (Lowering.Done l) w = run_lowered l w

-- ---- run of a source

-- a source with the layouts of its frames, or what it is refused for
abbrev pub source_form_answer : Module → RunWords → Acceptance → Answer
source_form_answer m w (Acceptance.Refused r) = refused m r.rule r.place
source_form_answer m w (Acceptance.Accepted layouts) = source_or m (sizes_of layouts) w (entry_call m w.entry w.args)

-- what is made of the acceptance of a module, by plain layouts or those that share bytes
pub record IsMadeOfAcceptance (m : Module) (share : Bool) (make : Acceptance → Answer) (a : Answer) : Type 0 where
  pub acceptance : Acceptance
  pub accepted : IsAcceptance m share acceptance
  pub is : a ≡ make acceptance

-- a source is looked at for all rules and run, with the sizes of the frames that lowering it by these words gives
abbrev pub IsSourceAnswer : Parsed → RunWords → Answer → Type 0
IsSourceAnswer (Parsed.Syntax items) w a = a ≡ syntax_fault items
IsSourceAnswer (Parsed.Module m) w a = IsMadeOfAcceptance m (not w.plain) (source_form_answer m w) a

-- ---- run of a framed module

-- the source says whether the entry is callable; its framed form, with the layouts of its frames, runs the function of that name
abbrev pub run_laid_out : Lowered → RunWords → Answer
run_laid_out l w = if is_some (entry_call l.source w.entry w.args) then run_framed l.framed l.layouts w else not_callable w.entry

abbrev pub framed_form_answer : Lowering → RunWords → Answer
framed_form_answer (Lowering.Syntax items) w = syntax_fault items
framed_form_answer (Lowering.Refused m rule place) w = refused m rule place
framed_form_answer (Lowering.Done l) w = run_laid_out l w

-- ---- layout

-- the lines of the layouts
abbrev pub layout_answer : Module → Acceptance → Answer
layout_answer m (Acceptance.Refused r) = refused m r.rule r.place
layout_answer m (Acceptance.Accepted layouts) = shown Verdict.Done (layout_text m layouts)

abbrev pub IsLayoutAnswer : Bool → Parsed → Answer → Type 0
IsLayoutAnswer plain (Parsed.Syntax items) a = a ≡ syntax_fault items
IsLayoutAnswer plain (Parsed.Module m) a = IsMadeOfAcceptance m (not plain) (layout_answer m) a

-- ---- check

-- `ok`, or the first broken rule with its place
abbrev pub check_answer : Module → Option Refusal → Answer
check_answer m None = shown Verdict.Done (codes "ok\n")
check_answer m (Some r) = refused m r.rule r.place

-- what is made of what a source is refused for
pub record IsMadeOfRefusal (m : Module) (make : Option Refusal → Answer) (a : Answer) : Type 0 where
  pub refusal : Option Refusal
  pub refused : IsRefusedFor m refusal
  pub is : a ≡ make refusal

abbrev pub IsCheckAnswer : Bool → Parsed → Answer → Type 0
IsCheckAnswer lowered (Parsed.Syntax items) a = a ≡ syntax_fault items
IsCheckAnswer true (Parsed.Module m) a = IsMadeOfRules Stage.Plain m (check_answer m) a
IsCheckAnswer false (Parsed.Module m) a = IsMadeOfRefusal m (check_answer m) a

-- ---- the commands

-- with `--plain` no bytes are shared, no call is elided, and no transfer is made
abbrev pub options_of : Bool → Options
options_of plain = record { share = not plain; elide = not plain; transfer = not plain }

-- What is made of the lowering of the bytes, whose functions have fewer than 2^64 names. What is lowered has no coroutine and
-- no coro intrinsic. Its text stands for it, and it breaks none of the rules of modules without coroutines.
pub record IsMadeOf (plain : Bool) (bytes : List ℕ) (make : Lowering → Answer) (a : Answer) : Type 0 where
  pub lowering : Lowering
  pub lowered : IsLowering (options_of plain) bytes lowering
  pub few : HasFewNames lowering
  pub none : LeavesNoCoroutine lowering
  pub printed : IsReadPlain lowering
  pub is : a ≡ make lowering

abbrev pub IsRunAnswer : Form → List ℕ → RunWords → Answer → Type 0
IsRunAnswer Form.Source bytes w a = IsSourceAnswer (read_module bytes) w a
IsRunAnswer Form.Text bytes w a = IsTextAnswer (read_module bytes) w a
IsRunAnswer Form.Framed bytes w a = IsMadeOf w.plain bytes (λ l. framed_form_answer l w) a
IsRunAnswer Form.Lowered bytes w a = IsMadeOf w.plain bytes (λ l. lowered_answer l w) a

-- ---- compare

-- the report of the source's run and of the lowered one
abbrev pub IsComparedOf : Lowering → RunWords → Answer → Type 0
IsComparedOf (Lowering.Done l) w a = IsCompared l w a
IsComparedOf (Lowering.Syntax items) w a = a ≡ syntax_fault items
IsComparedOf (Lowering.Refused m rule place) w a = a ≡ refused m rule place

-- what the lowering of the bytes is compared with its source to
pub record IsComparison (bytes : List ℕ) (w : RunWords) (a : Answer) : Type 0 where
  pub lowering : Lowering
  pub lowered : IsLowering (options_of w.plain) bytes lowering
  pub few : HasFewNames lowering
  pub is : IsComparedOf lowering w a

-- where it was lowered, both runs agree
abbrev pub AreAgreeing : Lowering → Type 0
AreAgreeing = OfLowered (λ l. AgreeInRuns l.source (sizes_of l.layouts) l.«module»)

-- an input of the program: bytes, of which an index can count all
pub record IsInput (bytes : List ℕ) : Type 0 where
  pub are : AreBytes bytes
  pub few : length bytes ≤ 16777216

-- ---- gen

-- a number within bounds; those that the words give are taken only where they lie within them
abbrev pub within : ℕ → ℕ → ℕ → ℕ
within low high n = min (max n low) high

-- the canonical text of the generated module
abbrev pub gen_answer : ℕ → ℕ → ℕ → Answer
gen_answer seed coroutines suspends =
    shown Verdict.Done (module_text (generated_module (within 0 1000000 seed) (within 1 64 coroutines) (within 1 64 suspends)))

-- ---- all of them

-- what the words' command answers to these bytes
unfoldable pub IsAnswer : Words → List ℕ → Answer → Type 0
IsAnswer (Words.Lower plain) bytes a = IsMadeOf plain bytes lower_answer a
IsAnswer (Words.Check lowered) bytes a = IsCheckAnswer lowered (read_module bytes) a
IsAnswer (Words.Layout plain) bytes a = IsLayoutAnswer plain (read_module bytes) a
IsAnswer (Words.Run form w) bytes a = IsRunAnswer form bytes w a
IsAnswer (Words.Compare w) bytes a = IsComparison bytes w a
IsAnswer (Words.Gen seed coroutines suspends) bytes a = a ≡ gen_answer seed coroutines suspends
