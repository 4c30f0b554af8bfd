-- The limits of a module (rule L1).
use Rattle.std.specs.Prelude.{ℕ, zero, suc, Bool, true, false, not, List, [], length, Some, None, Option, option_to_list, nat_le, ◌+◌, ◌-◌, ◌&&◌, ◌||◌, ◌∷◌, ◌++◌, if◌then◌else◌, ◌==◌}
use Rattle.std.specs.List.{list_all}
use Rattle.ir_base.specs.declared.outcome.Place.{Place}
use Rattle.ir_parts.specs.Contents.{part_types}
use Rattle.ir_parts.specs.Locals.{locals_of}
use Rattle.ir_parts.specs.Parts.{Part, first_part, function_place, parts_of}
use Rattle.ir_parts.specs.declared.defined.Definition.{Definition}
use Rattle.ir_model.specs.Ty.{Ty}
use Rattle.ir_model.specs.declared.module.Function.{Function}
use Rattle.ir_model.specs.declared.module.Module.{Module}
use Rattle.rule_types.specs.Depth.{is_shallow}
use Rattle.rule_names.specs.Items.{Sentence}
use Rattle.rule_names.specs.Stage.{is_source}
use Rattle.rule_names.specs.declared.stage.Stage.{Stage}

-- a type deeper than 64
abbrev pub all_fit : Module → List Ty → Bool
all_fit m types = list_all (is_shallow m.types) types

-- of a source, the one at position k, counted from 0, is one too many of these
abbrev pub is_past : Stage → ℕ → ℕ → Bool
is_past stage most k = is_source stage && nat_le most k

abbrev pub same_number : Option ℕ → Option ℕ → Bool
same_number None None = true
same_number (Some a) (Some b) = a == b
same_number _ _ = false

-- the same place of one function
abbrev pub same_spot : Place → Place → Bool
same_spot p q = same_number p.block q.block && same_number p.instr q.instr

abbrev pub is_spot : Option Place → Place → Bool
is_spot None p = false
is_spot (Some q) p = same_spot q p

-- the place of the value at position n, counted from 0: parameters and results, in order of the text
abbrev pub nth_value : ℕ → List Definition → Option Place
nth_value n [] = None
nth_value n (d ∷ ds) = if d.is_label then nth_value n ds else (if n == 0 then Some d.place else nth_value (n - 1) ds)

-- the place of the first of a source's values too many
abbrev pub value_past : Stage → ℕ → ℕ → Function → Option Place
value_past stage most func f = if is_source stage then nth_value most (locals_of func f) else None

abbrev pub is_block_past : Stage → Option ℕ → Bool
is_block_past stage None = false
is_block_past stage (Some block) = is_past stage 1048575 block

-- a place of a function that is beyond a limit, given that of the first value too many
abbrev pub breaks_limits : Stage → Module → Option Place → Place → Part → Bool
breaks_limits stage m past place part = is_spot past place || (is_block_past stage place.block || not (all_fit m (part_types part)))

abbrev pub first_past : Stage → Module → ℕ → Function → Option Place
first_past stage m k f =
    if is_past stage 65535 (length m.declarations + k) then Some (function_place k)
    else first_part (breaks_limits stage m (value_past stage 1048576 k f)) (parts_of k f)

-- L1: more than 65,535 functions, declared and defined, or globals; more than 1,048,575 blocks or 2^20 values; a type deeper than 64
abbrev pub limits : Stage → Module → Sentence
limits stage m =
    record {
      on_type = λ k t. not (is_shallow m.types t.ty);
      on_global = λ k g. is_past stage 65535 k || not (is_shallow m.types g.ty);
      on_declaration = λ k d. is_past stage 65535 k || not (all_fit m (option_to_list d.result ++ d.params));
      in_function = first_past stage m;
    }
