-- Reserved names (rule N3).
use Rattle.std.specs.Prelude.{ℕ, Bool, true, false, not, List, [], Some, None, Option, codes, slice_get, nat_le, ◌&&◌, ◌||◌, ◌∷◌, ◌++◌, if◌then◌else◌, ◌==◌}
use Rattle.std.specs.List.{list_all, list_any}
use Rattle.ir_base.specs.declared.name.Name.{Name}
use Rattle.ir_base.specs.declared.outcome.Place.{Place}
use Rattle.ir_parts.specs.Locals.{locals_of}
use Rattle.ir_parts.specs.Parts.{function_place, or_place, place_if}
use Rattle.ir_parts.specs.declared.defined.Definition.{Definition}
use Rattle.ir_model.specs.Names.{same_name, same_text, spelling}
use Rattle.ir_model.specs.Table.{callee_named}
use Rattle.ir_model.specs.declared.module.Function.{Function}
use Rattle.ir_model.specs.declared.module.Module.{Module}
use Rattle.ir_model.specs.declared.operand.Callee.{Callee}
use Rattle.rule_names.specs.Items.{Sentence}
use Rattle.rule_names.specs.Stage.{is_source}
use Rattle.rule_names.specs.declared.stage.Stage.{Stage}

-- the text begins with these bytes
abbrev pub begins_with : List ℕ → List ℕ → Bool
begins_with [] text = true
begins_with (x ∷ xs) [] = false
begins_with (x ∷ xs) (y ∷ ys) = (x == y) && begins_with xs ys

abbrev pub name_begins : List ℕ → Name → Bool
name_begins head (Name.Number n) = false
name_begins head (Name.Text t) = begins_with head t

abbrev pub is_allocator : Callee → Bool
is_allocator (Callee.Allocator a) = true
is_allocator _ = false

-- named as an allocator, or beginning with `llvm.`
abbrev pub is_reserved : Name → Bool
is_reserved n = is_allocator (callee_named n) || name_begins (codes "llvm.") n

abbrev pub is_digit : ℕ → Bool
is_digit c = nat_le 48 c && nat_le c 57

-- names that no coroutine has: `llvm`, and texts of digits alone
abbrev pub is_odd : Name → Bool
is_odd (Name.Number n) = false
is_odd (Name.Text t) = same_text t (codes "llvm") || list_all is_digit t

-- the name of a part of a coroutine
abbrev pub part_name : Name → List ℕ → Name
part_name n suffix = Name.Text (spelling n ++ suffix)

abbrev pub suffixes : List (List ℕ)
suffixes = codes ".resume" ∷ codes ".destroy" ∷ codes ".cleanup" ∷ codes ".noalloc" ∷ []

abbrev pub is_part_of : Name → Function → Bool
is_part_of n f = f.coroutine && list_any (λ s. same_name (part_name f.name s) n) suffixes

-- the name of a part of one of the coroutines
abbrev pub is_part : Module → Name → Bool
is_part m n = list_any (is_part_of n) m.functions

-- a function's name that is reserved in a source
abbrev pub is_taken : Module → Function → Bool
is_taken m f = is_part m f.name || (f.coroutine && is_odd f.name)

abbrev pub is_own : Option Name → Bool
is_own None = false
is_own (Some n) = name_begins (codes "$c.") n

-- the place of the first local whose name begins with `$c.`
abbrev pub first_own : List Name → List Definition → Option Place
first_own names [] = None
first_own names (d ∷ ds) = if is_own (slice_get names d.name) then Some d.place else first_own names ds

abbrev pub own_local : Stage → ℕ → Function → Option Place
own_local stage k f = if is_source stage then first_own f.names (locals_of k f) else None

abbrev pub first_reserved : Stage → Module → ℕ → Function → Option Place
first_reserved stage m k f =
    or_place (place_if (is_reserved f.name || (is_source stage && is_taken m f)) (function_place k)) (own_local stage k f)

-- N3: a definition or a global with a reserved name; in a source also what has the name of a part of a coroutine, declarations among them, a coroutine with an odd name, and a local that begins with `$c.`
abbrev pub reserved_names : Stage → Module → Sentence
reserved_names stage m =
    record {
      on_type = λ k t. false;
      on_global = λ k g. is_reserved g.name || (is_source stage && is_part m g.name);
      on_declaration = λ k d. is_source stage && is_part m d.name;
      in_function = first_reserved stage m;
    }
