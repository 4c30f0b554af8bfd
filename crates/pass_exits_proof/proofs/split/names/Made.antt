-- Lemmas on made.
use Rattle.std.proofs.Common.{◌≡◌, Bool, true, false, List, [], ◌∷◌, ◌++◌, refl, ◌∙◌}
use Rattle.std.proofs.lemmas.List.{map-append}
use Rattle.std.specs.Prelude.{map, if◌then◌else◌}
use Rattle.pass_split.specs.Given.{has_given_call}
use Rattle.pass_split.specs.Parts.{first_layout, layouts_after, marked_parts, plain_of, plain_shape, split_function, split_functions}
use Rattle.pass_fetch_proof.specs.frame_layout.declared.layout.Layout.{Layout}
use Rattle.ir_model.specs.declared.module.Function.{Function}
use Rattle.ir_model.specs.declared.module.Module.{Module}
use Rattle.pass_split.specs.pass_exits.ExitBlocks.{with_exit_blocks}
use Rattle.pass_fetch_proof.proofs.rule_laws.rules.same_names.Made.{all_names, made_names, part_suffixes}
use Rattle.pass_fetch_proof.specs.rule_names.Reserved.{part_name}

names_split : (l : Layout) (given : Bool) (f : Function) → map (λ g. g.name) (split_function l given f) ≡ made_names given f
names_split l given f = on f.coroutine given
  where
    on : (b given : Bool) → map (λ g. g.name) (if b then marked_parts l given (with_exit_blocks f) else plain_of (plain_shape f) f ∷ []) ≡ f.name ∷ (if b then map (part_name f.name) (part_suffixes given) else [])
    on true true = refl
    on true false = refl
    on false given = refl

pub all_names_split : (ls : List Layout) (m : Module) (fs : List Function) → map (λ g. g.name) (split_functions ls m fs) ≡ all_names (has_given_call m) fs
all_names_split ls m [] = refl
all_names_split ls m (f ∷ fs) =
    map-append (λ (g : Function). g.name) (split_function (first_layout ls) (has_given_call m f) f) (split_functions (layouts_after f ls) m fs)
    ∙ (λ i. names_split (first_layout ls) (has_given_call m f) f i ++ all_names_split (layouts_after f ls) m fs i)
