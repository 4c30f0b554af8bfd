use Rattle.std.proofs.Common.{map, string_bytes}
use Rattle.clap.specs.Words.{app_of}
use Rattle.clap.proofs.TakesLemmas.{passed_up}
use Rattle.cli_words.proofs.Refusals.{asked_words, helped_words, refused_words, unhelped_words}
use Rattle.cli_words.proofs.taken.read_words.Goals as goal

pub returns-in_err-matches-clause-refused : goal.returns-in_err-matches-clause-refused
returns-in_err-matches-clause-refused c =
    passed_up c.from_residual.result c.in_err-matches.field-0.0 _ c.from_residual.ensures.1
    (λ other. refused_words (app_of c.args.command.now) (map string_bytes c.args.words.now) c.in_err-matches.field-0.0 c.requires c.in_err-matches.ensures.kinds other)

pub returns-clause-read : goal.returns-clause-read
returns-clause-read c =
    asked_words (app_of c.args.command.now) (map string_bytes c.args.words.now) _ _ c.requires c.in_ok-matches.ensures.ok.2 c.in_ok-matches.ensures.kinds c.in_ok-command_read.ensures

pub returns-in_err-matches-clause-helps : goal.returns-in_err-matches-clause-helps
returns-in_err-matches-clause-helps c =
    passed_up c.from_residual.result c.in_err-matches.field-0.0 _ c.from_residual.ensures.1
    (λ other wants. helped_words (app_of c.args.command.now) (map string_bytes c.args.words.now) c.in_err-matches.field-0.0 c.requires c.in_err-matches.ensures.kinds other wants)

pub returns-clause-free : goal.returns-clause-free
returns-clause-free c =
    unhelped_words (app_of c.args.command.now) (map string_bytes c.args.words.now) c.requires c.in_ok-matches.ensures.kinds
