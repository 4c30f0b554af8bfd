-- For which rules a module is looked at.
use Rattle.std.specs.Prelude.{Bool, true, false}
use Rattle.rule_names.specs.declared.stage.Stage.{Stage}

abbrev pub is_source : Stage → Bool
is_source Stage.Source = true
is_source Stage.Plain = false
