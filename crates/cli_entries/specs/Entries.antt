-- What is answered, and where an entry may be called.
use Rattle.std.specs.Prelude.{ℕ, Bool, true, false, not, List, [], ℤ, Some, None, Option, slice_get, ◌&&◌, ◌+◌, ◌∷◌, if◌then◌else◌}
use Rattle.ir_base.specs.declared.outcome.Place.{Place}
use Rattle.ir_base.specs.declared.outcome.Word.{Word}
use Rattle.ir_base.specs.declared.rule.Rule.{Rule}
use Rattle.ir_base.specs.declared.status.Status.{Status}
use Rattle.cli_entries.specs.declared.verdict.Answer.{Answer}
use Rattle.cli_entries.specs.declared.verdict.EntryCall.{EntryCall}
use Rattle.cli_entries.specs.declared.verdict.Verdict.{Verdict}
use Rattle.text_names.specs.Spelling.{spelling}
use Rattle.cli_report.specs.Report.{not_callable_text, refused_text, syntax_text}
use Rattle.run_ints.specs.Numbers.{word_of}
use Rattle.ir_model.specs.Names.{same_text}
use Rattle.ir_model.specs.Ty.{Ty, int}
use Rattle.ir_model.specs.declared.module.Function.{Function}
use Rattle.ir_model.specs.declared.module.Module.{Module}
use Rattle.ir_model.specs.declared.module.Param.{Param}

-- ---- answers

-- the status of a verdict
abbrev pub verdict_status : Verdict → Status
verdict_status Verdict.Done = Status.Done
verdict_status Verdict.Refused = Status.Refused
verdict_status Verdict.NotCallable = Status.Words
verdict_status Verdict.Undefined = Status.Undefined
verdict_status Verdict.Unfinished = Status.Unfinished

abbrev pub shown : Verdict → List ℕ → Answer
shown verdict text = record { verdict = verdict; out = text; err = [] }

abbrev pub told : Verdict → List ℕ → Answer
told verdict text = record { verdict = verdict; out = []; err = text }

abbrev pub refused : Module → Rule → Place → Answer
refused m rule place = told Verdict.Refused (refused_text m rule place)

abbrev pub syntax_fault : ℕ → Answer
syntax_fault items = told Verdict.Refused (syntax_text items)

abbrev pub not_callable : List ℕ → Answer
not_callable entry = told Verdict.NotCallable (not_callable_text entry)

-- ---- callable entries

abbrev pub word_as : Ty → ℤ → Option Word
word_as (int w) z = Some (word_of w z)
word_as _ z = None

abbrev pub with_word : Option Word → Option (List Word) → Option (List Word)
with_word None ws = None
with_word (Some w) None = None
with_word (Some w) (Some ws) = Some (w ∷ ws)

-- the arguments cut to the widths of the parameters, where these are integers and as many
abbrev pub words_for : List Param → List ℤ → Option (List Word)
words_for [] [] = Some []
words_for [] (z ∷ zs) = None
words_for (p ∷ ps) [] = None
words_for (p ∷ ps) (z ∷ zs) = with_word (word_as p.ty z) (words_for ps zs)

abbrev pub is_int : Ty → Bool
is_int (int w) = true
is_int _ = false

abbrev pub has_int_result : Option Ty → Bool
has_int_result None = true
has_int_result (Some t) = is_int t

abbrev pub is_entry : Function → Bool
is_entry f = not f.coroutine && has_int_result f.result

-- the first function whose name is spelled so, these being the functions from the k-th on
abbrev pub entry_from : ℕ → List Function → List ℕ → Option ℕ
entry_from k [] text = None
entry_from k (f ∷ fs) text = if same_text (spelling f.name) text then Some k else entry_from (k + 1) fs text

-- the function of a name, which is given in its canonical spelling
abbrev pub entry_named : Module → List ℕ → Option ℕ
entry_named m text = entry_from 0 m.functions text

-- a call of an entry: its function and its arguments
abbrev pub call_if : Bool → ℕ → Option (List Word) → Option EntryCall
call_if false func words = None
call_if true func None = None
call_if true func (Some words) = Some (record { func = func; args = words })

abbrev pub call_of : ℕ → Option Function → List ℤ → Option EntryCall
call_of func None args = None
call_of func (Some f) args = call_if (is_entry f) func (words_for f.params args)

abbrev pub call_at : Module → Option ℕ → List ℤ → Option EntryCall
call_at m None args = None
call_at m (Some func) args = call_of func (slice_get m.functions func) args

-- the entry's call, where it is callable: no coroutine, with integers as parameters, as many as arguments, and an integer or no result
abbrev pub entry_call : Module → List ℕ → List ℤ → Option EntryCall
entry_call m text args = call_at m (entry_named m text) args
