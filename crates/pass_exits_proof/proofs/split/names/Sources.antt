-- From where the functions of a split module come.
use Rattle.std.proofs.Common.{◌≡◌, ⊎_elim, ℕ, suc, List, [], ◌∷◌, refl, Some}
use Rattle.std.specs.Prelude.{slice_get}
use Rattle.pass_split.specs.Given.{has_given_call}
use Rattle.pass_split.specs.Parts.{first_layout, layouts_after, split_function, split_functions, split_module}
use Rattle.pass_fetch_proof.specs.frame_layout.declared.layout.Layout.{Layout}
use Rattle.pass_fetch_proof.specs.frame_layout.declared.layout.Layouts.{Layouts}
use Rattle.ir_model.specs.declared.module.Function.{Function}
use Rattle.ir_model.specs.declared.module.Module.{Module}
use Rattle.pass_fetch_proof.proofs.ir_laws.facts.Lists.{of_both}
use Rattle.pass_exits_proof.specs.split.names.Sources.{ComesFrom}

-- the same of a list of functions
record IsSplitFrom (m : Module) (fs : List Function) (g : Function) : Type 0 where
  position : ℕ
  source : Function
  stands : slice_get fs position ≡ Some source
  layout : Layout
  number : ℕ
  is_one : slice_get (split_function layout (has_given_call m source) source) number ≡ Some g

split_from : (ls : List Layout) (m : Module) (fs : List Function) (k : ℕ) (g : Function) → slice_get (split_functions ls m fs) k ≡ Some g → IsSplitFrom m fs g
split_from ls m [] k g e = absurd (cc)
split_from ls m (f ∷ fs) k g e =
    ⊎_elim
    (λ h. record { position = 0; source = f; stands = refl; layout = first_layout ls; number = h.at; is_one = h.is })
    (λ h.
    let r = split_from (layouts_after f ls) m fs h.at g h.is in
    record { position = suc r.position; source = r.source; stands = r.stands; layout = r.layout; number = r.number; is_one = r.is_one })
    (of_both (split_function (first_layout ls) (has_given_call m f) f) (split_functions (layouts_after f ls) m fs) k g e)

pub come_from : (ls : Layouts) (m : Module) (k : ℕ) (g : Function) → slice_get (split_module ls m).functions k ≡ Some g → ComesFrom m g
come_from ls m k g e =
    let r = split_from ls.coroutines m m.functions k g e in
    record { position = r.position; source = r.source; stands = r.stands; layout = r.layout; number = r.number; is_one = r.is_one }
