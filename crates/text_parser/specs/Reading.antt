-- What is told of a text, by the grammar.
use Rattle.std.specs.Prelude.{ℕ, List}
use Rattle.text_grammar.specs.Text.{StandsFor, BeginsWith}
use Rattle.ir_model.specs.declared.module.Module.{Module}
use Rattle.text_parser.specs.declared.text.Parsed.{Parsed}
use Rattle.text_parser.specs.declared.text.Parsed.TheVariants as parsed

-- The text stands for the module; or it stands for none, and begins with this many whole items.
abbrev pub IsReading : List ℕ → Parsed → Type 0
IsReading text (parsed.Module m) = StandsFor text m
IsReading text (parsed.Syntax n) = BeginsWith text n × ((m : Module) → StandsFor text m → ⊥)
