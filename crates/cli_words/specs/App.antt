-- The command line that the program takes, in the words of clap.
use Rattle.std.specs.Prelude.{ℕ, List, [], ◌∷◌, Some, true, codes}
use Rattle.clap.specs.Words.{App, Rule, new_app, new_rule, with_rule, with_subcommand}
use Rattle.clap.specs.Simple.{on_top}
use Rattle.clap.specs.declared.builder.ArgAction.TheVariants.{SetTrue}
use Rattle.clap.specs.declared.builder.ValueParser.TheVariants.{Unsigned}

-- `--name`
abbrev pub flag : List ℕ → Rule
flag name = record (new_rule name) { long = Some name; action = Some SetTrue }

-- `--name VALUE`
abbrev pub option : List ℕ → Rule
option name = record (new_rule name) { long = Some name; value_names = 1 }

abbrev pub required : List ℕ → Rule
required name = record (option name) { required = true }

-- `--steps N`, from 0 to 10^9, by default 10^6
abbrev pub steps : Rule
steps = record (option (codes "steps")) {
  parser = Some (Unsigned 0 1000000000);
  defaults = codes "1000000" ∷ [];
}

-- NAME, a number within bounds
abbrev pub numeral : List ℕ → ℕ → ℕ → Rule
numeral name low high = record (new_rule name) { value_names = 1; required = true; parser = Some (Unsigned low high) }

-- `lower [--plain]`
abbrev pub lower_app : App
lower_app = with_rule (new_app (codes "lower")) (flag (codes "plain"))

-- `check [--lowered]`
abbrev pub check_app : App
check_app = with_rule (new_app (codes "check")) (flag (codes "lowered"))

-- `layout [--plain]`
abbrev pub layout_app : App
layout_app = with_rule (new_app (codes "layout")) (flag (codes "plain"))

-- `--entry NAME`
abbrev pub with_entry : App → App
with_entry a = with_rule a (required (codes "entry"))

-- `--form FORM --entry NAME`
abbrev pub with_form : App → App
with_form a = with_entry (with_rule a (required (codes "form")))

-- `[--args LIST] [--answers LIST]`
abbrev pub with_lists : App → App
with_lists a = with_rule (with_rule a (option (codes "args"))) (option (codes "answers"))

-- `run [--plain] --form FORM --entry NAME [--args LIST] [--answers LIST] [--steps N]`
abbrev pub run_app : App
run_app = with_rule (with_lists (with_form (with_rule (new_app (codes "run")) (flag (codes "plain"))))) steps

-- `compare [--plain] --entry NAME [--args LIST] [--answers LIST] [--steps N]`
abbrev pub compare_app : App
compare_app = with_rule (with_lists (with_entry (with_rule (new_app (codes "compare")) (flag (codes "plain"))))) steps

-- `gen SEED COROUTINES SUSPENDS`
abbrev pub gen_app : App
gen_app =
    with_rule (with_rule (with_rule (new_app (codes "gen")) (numeral (codes "SEED") 0 1000000)) (numeral (codes "COROUTINES") 1 64)) (numeral (codes "SUSPENDS") 1 64)

abbrev pub top_app : App
top_app = on_top (λ s. record s { subcommand_required = true; no_binary_name = true }) (new_app (codes "corolower"))

-- `lower` and `check`
abbrev pub with_lowering : App → App
with_lowering a = with_subcommand (with_subcommand a lower_app.top) check_app.top

-- `layout` and `run`
abbrev pub with_showing : App → App
with_showing a = with_subcommand (with_subcommand a layout_app.top) run_app.top

-- `compare` and `gen`
abbrev pub with_measuring : App → App
with_measuring a = with_subcommand (with_subcommand a compare_app.top) gen_app.top

-- the program, with its commands
abbrev pub the_app : App
the_app = with_measuring (with_showing (with_lowering top_app))
