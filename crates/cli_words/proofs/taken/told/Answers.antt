use Rattle.std.proofs.Common.{map, sym, ◌∙◌, string_bytes}
use Rattle.clap.proofs.WalkLemmas.{list_any-map}
use Rattle.clap.specs.Words.{kind_of}
use Rattle.cli_words.proofs.Refusals.{told_aside, unasked, unwanted}
use Rattle.cli_words.proofs.taken.told.Goals as goal
use Rattle.cli_words.proofs.taken.told.Goals.{else-not-use_stderr-via-then-not-use_stderr+else-ask_help, else-not-use_stderr-via-else-not-use_stderr}
use Rattle.cli_words.specs.Asked.{asks_help}
use Rattle.cli_words.specs.Told.{wants_help}

pub returns-then-ask_help : goal.returns-then-ask_help
returns-then-ask_help c = λ refused kind. (refused, sym (list_any-map asks_help string_bytes c.args.words.now) ∙ sym c.ask_help.ensures ∙ c.if-ask_help.true)

pub returns-else-not-use_stderr : goal.returns-else-not-use_stderr
returns-else-not-use_stderr c = λ refused kind. (
  refused,
  elim c.else-not-use_stderr.branch [
    | else-not-use_stderr-via-then-not-use_stderr+else-ask_help w ↦
        unasked (map string_bytes c.args.words.now)
        (sym (list_any-map asks_help string_bytes c.args.words.now) ∙ (sym w.ask_help.ensures ∙ w.if-ask_help.false))
    | else-not-use_stderr-via-else-not-use_stderr w ↦
        unwanted (wants_help (map string_bytes c.args.words.now)) (kind_of c.args.error.now) kind
        (told_aside c.use_stderr.result (kind_of c.args.error.now) c.use_stderr.ensures w.if-not-use_stderr.false)
  ],
)
