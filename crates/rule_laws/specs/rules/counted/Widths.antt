-- Lemmas on widths, that speak of no pass.
use Rattle.std.specs.Prelude.{ℕ, Bool, not, Option}
use Rattle.std.specs.List.{list_all}
use Rattle.ir_laws.specs.ir_base.declared.outcome.Place.{Place}
use Rattle.ir_parts.specs.Contents.{part_types}
use Rattle.ir_parts.specs.Parts.{Part, first_part, parts_of}
use Rattle.ir_laws.specs.ir_model.declared.module.Function.{Function}
use Rattle.ir_laws.specs.facts.counted.Widths.{has_width}

abbrev pub is_of_other_width : Place → Part → Bool
is_of_other_width place part = not (list_all has_width (part_types part))

-- the place of the first integer type of another width
abbrev pub first_other_width : ℕ → Function → Option Place
first_other_width k f = first_part is_of_other_width (parts_of k f)
