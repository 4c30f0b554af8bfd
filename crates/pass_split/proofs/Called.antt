-- Functions are split by the names by which those of their module are called.
use Rattle.std.proofs.Common.{◌≡◌, ℕ, ◌+◌, ◌<◌, List, [], ◌∷◌, ◌++◌, append_assoc, length, drop, get_or, refl, sym, ap, ◌∙◌}
use Rattle.frame_layout.specs.declared.layout.Layout.{Layout}
use Rattle.ir_model.specs.declared.module.Function.{Function}
use Rattle.ir_model.specs.declared.module.Module.{Module}
use Rattle.run_step.proofs.Lists.{drop-next}
use Rattle.pass_split.specs.Called.{split_by}
use Rattle.pass_split.specs.Given.{called_names, has_given_call, is_given_by}
use Rattle.pass_split.specs.Parts.{first_layout, layouts_after, split_function, split_functions}
use Rattle.pass_split.specs.declared.given.CalledName.{CalledName}

pub split_alike : (ls : List Layout) (m : Module) (fs : List Function)
    → split_by ls (called_names m.functions) fs ≡ split_functions ls m fs
split_alike ls m [] = refl
split_alike ls m (f ∷ fs) =
    ap (λ (gs : List Function). split_function (first_layout ls) (has_given_call m f) f ++ gs)
    (split_alike (layouts_after f ls) m fs)

-- one function further
pub one_more : (names : List CalledName) (fs : List Function) (i : ℕ) (f : Function) (all new whole : List Function)
    (ls next : List Layout) → i < length fs → f ≡ get_or fs i f → all ++ split_by ls names (drop i fs) ≡ whole
    → new ≡ all ++ split_function (first_layout ls) (is_given_by names f) f → next ≡ layouts_after f ls
    → new ++ split_by next names (drop (i + 1) fs) ≡ whole
one_more names fs i f all new whole ls next lt is before made after =
    ap (λ (xs : List Function). xs ++ split_by next names (drop (i + 1) fs)) made
    ∙ ap (λ (ks : List Layout). (all ++ split_function (first_layout ls) (is_given_by names f) f) ++ split_by ks names (drop (i + 1) fs)) after
    ∙ append_assoc all (split_function (first_layout ls) (is_given_by names f) f) (split_by (layouts_after f ls) names (drop (i + 1) fs))
    ∙ ap (λ (gs : List Function). all ++ split_by ls names gs) (sym (drop-next fs i f lt is))
    ∙ before
