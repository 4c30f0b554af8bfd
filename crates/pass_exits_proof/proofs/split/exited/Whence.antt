-- From which functions those of a split module come, and by which layouts.
use Rattle.std.proofs.Common.{◌≡◌, ◌⊎◌, ⊎_elim, inl, inr, ℕ, suc, Bool, true, false, List, [], ◌∷◌, refl}
use Rattle.std.specs.Prelude.{Some, slice_get, if◌then◌else◌}
use Rattle.pass_split.specs.Given.{has_given_call}
use Rattle.pass_split.specs.Parts.{first_layout, layouts_after, other_layouts, split_function, split_functions}
use Rattle.pass_fetch_proof.specs.flow_solver.Paths.{IsListed}
use Rattle.pass_fetch_proof.specs.frame_layout.Frames.{index_alone}
use Rattle.pass_fetch_proof.specs.frame_layout.declared.layout.Layout.{Layout}
use Rattle.ir_model.specs.declared.module.Function.{Function}
use Rattle.ir_model.specs.declared.module.Module.{Module}
use Rattle.pass_fetch_proof.proofs.ir_laws.facts.Lists.{of_both}

abbrev pub IsAmong : List Layout → Layout → Type 0
IsAmong ls l = IsListed l ls ⊎ (l ≡ index_alone 0 0)

pub record ComesBy (ls : List Layout) (m : Module) (fs : List Function) (g : Function) : Type 0 where
  pub position : ℕ
  pub source : Function
  pub stands : slice_get fs position ≡ Some source
  pub layout : Layout
  pub given : IsAmong ls layout
  pub number : ℕ
  pub is_one : slice_get (split_function layout (has_given_call m source) source) number ≡ Some g

first_given : (ls : List Layout) → IsAmong ls (first_layout ls)
first_given [] = inr refl
first_given (l ∷ ls) = inl (inl refl)

other_given : (ls : List Layout) (l : Layout) → IsAmong (other_layouts ls) l → IsAmong ls l
other_given [] l h = h
other_given (x ∷ ls) l (inl h) = inl (inr h)
other_given (x ∷ ls) l (inr h) = inr h

later_given : (f : Function) (ls : List Layout) (l : Layout) → IsAmong (layouts_after f ls) l → IsAmong ls l
later_given f ls l = on f.coroutine
  where
    on : (b : Bool) → IsAmong (if b then other_layouts ls else ls) l → IsAmong ls l
    on true h = other_given ls l h
    on false h = h

pub comes_by : (ls : List Layout) (m : Module) (fs : List Function) (k : ℕ) (g : Function) → slice_get (split_functions ls m fs) k ≡ Some g → ComesBy ls m fs g
comes_by ls m [] k g e = absurd (cc)
comes_by ls m (f ∷ fs) k g e =
    ⊎_elim
    (λ h. record { position = 0; source = f; stands = refl; layout = first_layout ls; given = first_given ls; number = h.at; is_one = h.is })
    (λ h.
    let r = comes_by (layouts_after f ls) m fs h.at g h.is in
    record { position = suc r.position; source = r.source; stands = r.stands; layout = r.layout; given = later_given f ls r.layout r.given; number = r.number; is_one = r.is_one })
    (of_both (split_function (first_layout ls) (has_given_call m f) f) (split_functions (layouts_after f ls) m fs) k g e)
