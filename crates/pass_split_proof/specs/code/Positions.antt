-- Where the functions of a module stand once its coroutines are split.
use Rattle.std.specs.Prelude.{ℕ, zero, suc, Bool, true, false, List, [], length, ◌+◌, ◌∷◌}
use Rattle.pass_proofs.specs.frame_layout.declared.layout.Layout.{Layout}
use Rattle.pass_proofs.specs.ir_model.declared.module.Function.{Function}
use Rattle.pass_proofs.specs.ir_model.declared.module.Module.{Module}
use Rattle.pass_proofs.specs.pass_intrinsics.declared.shape.Part.{Part}
use Rattle.pass_split_proof.specs.first_exits.Parted.{parted_function}
use Rattle.pass_proofs.specs.pass_split.Given.{has_given_call}
use Rattle.pass_proofs.specs.pass_split.Parts.{first_layout, layouts_after}

-- the layouts that are left for the k-th function and those behind it
abbrev pub layouts_from : List Layout → List Function → ℕ → List Layout
layouts_from ls [] k = ls
layouts_from ls (f ∷ fs) zero = ls
layouts_from ls (f ∷ fs) (suc k) = layouts_from (layouts_after f ls) fs k

-- the layout of the k-th function, where it is a coroutine
abbrev pub layout_at : List Layout → List Function → ℕ → Layout
layout_at ls fs k = first_layout (layouts_from ls fs k)

-- the position of what the k-th function becomes, of its first part where it is a coroutine
abbrev pub moved : List Layout → Module → List Function → ℕ → ℕ
moved ls m [] k = k
moved ls m (f ∷ fs) zero = 0
moved ls m (f ∷ fs) (suc k) = length (parted_function (first_layout ls) (has_given_call m f) f) + moved (layouts_after f ls) m fs k

-- the parts of a coroutine by their order
abbrev pub number_of : Part → ℕ
number_of Part.Ramp = 0
number_of Part.Resume = 1
number_of Part.Destroy = 2
number_of Part.Cleanup = 3
number_of Part.GivenRamp = 4

-- the parts of instances whose frames are given
abbrev pub is_given : Part → Bool
is_given Part.Cleanup = true
is_given Part.GivenRamp = true
is_given _ = false
