-- What the items of the whole text tell about those that come before them.
use Rattle.std.specs.Prelude.{[]}
use Rattle.text_parser.specs.declared.known.Known.{Known}

abbrev pub nothing : Known
nothing = record { types = []; groups = [] }
