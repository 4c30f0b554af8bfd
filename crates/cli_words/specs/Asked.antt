-- What the words ask for.
use Rattle.std.specs.Prelude.{ℕ, ℤ, Bool, false, ◌||◌, if◌then◌else◌, List, [], ◌∷◌, take, Option, Some, None, codes, unwrap_or, option_and_then}
use Rattle.std.specs.Str.{bytes_eq}
use Rattle.std.specs.Option.{option_map_or}
use Rattle.std.specs.Str.Parse.{without_leading_plus}
use Rattle.clap.specs.Words.{Kinds, Row, Text, fault_of, first_of, subcommand_of}
use Rattle.cli_words.specs.App.{the_app}
use Rattle.cli_words.specs.Lists.{magnitude, list}
use Rattle.cli_words.specs.declared.words.CallReading.{CallReading}
use Rattle.cli_words.specs.declared.words.Form.{Form}
use Rattle.cli_words.specs.declared.words.Words.{Words}
use Rattle.cli_words.specs.declared.words.Reading.{Reading}

-- the flag was given
abbrev pub has_flag : Text → List Row → Bool
has_flag name rows = option_map_or (λ t. bytes_eq t (codes "true")) (first_of name rows) false

abbrev pub form_named : Text → Option Form
form_named t =
    if bytes_eq t (codes "source") then Some Form.Source
    else if bytes_eq t (codes "framed") then Some Form.Framed
    else if bytes_eq t (codes "lowered") then Some Form.Lowered
    else if bytes_eq t (codes "text") then Some Form.Text
    else None

abbrev pub form : List Row → Option Form
form rows = option_and_then form_named (first_of (codes "form") rows)

-- the list of an option; without the option it is empty
abbrev pub list_at : Text → List Row → Option (List ℤ)
list_at name rows = option_map_or list (first_of name rows) (Some [])

-- the number that a word writes, or another where it is none
abbrev pub number_or : ℕ → Text → ℕ
number_or other t = unwrap_or (magnitude (without_leading_plus t)) other

-- the number of an argument, or another where there is none
abbrev pub number_at : Text → ℕ → List Row → ℕ
number_at name other rows = option_map_or (number_or other) (first_of name rows) other

abbrev pub steps : List Row → ℕ
steps rows = number_at (codes "steps") 1000000 rows

-- the word of an option
abbrev pub word_at : Text → List Row → Text
word_at name rows = unwrap_or (first_of name rows) []

-- the words of a call, or the word of a list that isn't one; `--args` before `--answers`
abbrev pub with_lists : Text → List Row → Option (List ℤ) → Option (List ℤ) → CallReading
with_lists entry rows None answers = CallReading.BadList (word_at (codes "args") rows)
with_lists entry rows (Some args) None = CallReading.BadList (word_at (codes "answers") rows)
with_lists entry rows (Some args) (Some answers) = CallReading.Read (record {
  plain = has_flag (codes "plain") rows;
  entry = entry;
  args = args;
  answers = answers;
  steps = steps rows;
})

abbrev pub call_read : Text → List Row → CallReading
call_read entry rows = with_lists entry rows (list_at (codes "args") rows) (list_at (codes "answers") rows)

-- `run` in a form
abbrev pub run_by : Form → CallReading → Reading
run_by form (CallReading.BadList word) = Reading.BadList word
run_by form (CallReading.Read w) = Reading.Read (Words.Run form w)

-- `run`, where it has a form and an entry
abbrev pub run_named : List Row → Option Form → Option Text → Reading
run_named rows (Some form) (Some entry) = run_by form (call_read entry rows)
run_named rows _ _ = Reading.Refused

abbrev pub run_read : List Row → Reading
run_read rows = run_named rows (form rows) (first_of (codes "entry") rows)

abbrev pub compare_by : CallReading → Reading
compare_by (CallReading.BadList word) = Reading.BadList word
compare_by (CallReading.Read w) = Reading.Read (Words.Compare w)

-- `compare`, where it has an entry
abbrev pub compare_named : List Row → Option Text → Reading
compare_named rows None = Reading.Refused
compare_named rows (Some entry) = compare_by (call_read entry rows)

abbrev pub compare_read : List Row → Reading
compare_read rows = compare_named rows (first_of (codes "entry") rows)

abbrev pub lower_read : List Row → Reading
lower_read rows = Reading.Read (Words.Lower (has_flag (codes "plain") rows))

abbrev pub check_read : List Row → Reading
check_read rows = Reading.Read (Words.Check (has_flag (codes "lowered") rows))

abbrev pub layout_read : List Row → Reading
layout_read rows = Reading.Read (Words.Layout (has_flag (codes "plain") rows))

abbrev pub gen_read : List Row → Reading
gen_read rows =
    Reading.Read (Words.Gen (number_at (codes "SEED") 0 rows) (number_at (codes "COROUTINES") 0 rows) (number_at (codes "SUSPENDS") 0 rows))

-- a command with what was given to it
abbrev pub command_read : Option (Text × List Row) → Reading
command_read None = Reading.Refused
command_read (Some p) =
    if bytes_eq p.0 (codes "lower") then lower_read p.1
    else if bytes_eq p.0 (codes "check") then check_read p.1
    else if bytes_eq p.0 (codes "layout") then layout_read p.1
    else if bytes_eq p.0 (codes "run") then run_read p.1
    else if bytes_eq p.0 (codes "compare") then compare_read p.1
    else if bytes_eq p.0 (codes "gen") then gen_read p.1
    else Reading.Refused

-- what clap finds at fault comes first
abbrev pub read_unless : Kinds → Option (Text × List Row) → Reading
read_unless [] found = command_read found
read_unless (k ∷ ks) found = Reading.Refused

-- the words after the program's name are words of the command set, or one of their lists isn't a list, or they are refused
abbrev pub asked : List Text → Reading
asked words = read_unless (fault_of the_app words) (subcommand_of the_app words)

-- `help`, `--help`, or what begins with `-h`
abbrev pub asks_help : Text → Bool
asks_help t = bytes_eq t (codes "help") || bytes_eq t (codes "--help") || bytes_eq (take 2 t) (codes "-h")
