-- Second definitions (rule N1).
use Rattle.std.specs.Prelude.{ℕ, Bool, true, false, not, List, [], Some, None, Option, is_some, ◌||◌, ◌∷◌, if◌then◌else◌, ◌==◌}
use Rattle.std.specs.List.{list_any}
use Rattle.ir_base.specs.declared.name.Name.{Name}
use Rattle.ir_base.specs.declared.outcome.Place.{Place}
use Rattle.ir_parts.specs.Locals.{locals_of}
use Rattle.ir_parts.specs.Parts.{function_place, or_place, place_if}
use Rattle.ir_parts.specs.declared.defined.Definition.{Definition}
use Rattle.ir_model.specs.Names.{declaration_named, first_where, function_named, global_named, same_name}
use Rattle.ir_model.specs.declared.module.Function.{Function}
use Rattle.ir_model.specs.declared.module.Module.{Module}
use Rattle.rule_names.specs.Items.{Sentence}

abbrev pub is_position : Option ℕ → ℕ → Bool
is_position None k = false
is_position (Some j) k = j == k

abbrev pub has_number : List ℕ → ℕ → Bool
has_number ns n = list_any (λ k. k == n) ns

-- the place of the first local that is also among those before it
abbrev pub first_twice : List ℕ → List Definition → Option Place
first_twice before [] = None
first_twice before (d ∷ ds) = if has_number before d.name then Some d.place else first_twice (d.name ∷ before) ds

abbrev pub type_position : Module → Name → Option ℕ
type_position m n = first_where (λ t. same_name t.name n) m.types

-- a function whose name a global, a declaration or a function before it has
abbrev pub is_second_function : Module → ℕ → Name → Bool
is_second_function m k n = is_some (global_named m n) || (is_some (declaration_named m n) || not (is_position (function_named m n) k))

abbrev pub first_second : Module → ℕ → Function → Option Place
first_second m k f = or_place (place_if (is_second_function m k f.name) (function_place k)) (first_twice [] (locals_of k f))

-- N1: a type, function, global or local name is defined twice; functions, declared or defined, and globals are one name space, labels and values of a function another
abbrev pub second_definitions : Module → Sentence
second_definitions m =
    record {
      on_type = λ k t. not (is_position (type_position m t.name) k);
      on_global = λ k g. not (is_position (global_named m g.name) k);
      on_declaration = λ k d. is_some (global_named m d.name) || not (is_position (declaration_named m d.name) k);
      in_function = first_second m;
    }
