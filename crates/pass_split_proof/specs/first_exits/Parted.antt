-- What splitting makes of a module in which edges that leave windows have blocks already.
use Rattle.std.specs.Prelude.{Bool, List, [], ◌∷◌, ◌++◌, if◌then◌else◌}
use Rattle.pass_proofs.specs.pass_split.Given.{has_given_call}
use Rattle.pass_proofs.specs.pass_split.Parts.{first_layout, layouts_after, marked_parts, plain_of, plain_shape}
use Rattle.pass_proofs.specs.frame_layout.declared.layout.Layout.{Layout}
use Rattle.pass_proofs.specs.frame_layout.declared.layout.Layouts.{Layouts}
use Rattle.pass_proofs.specs.ir_model.declared.module.Function.{Function}
use Rattle.pass_proofs.specs.ir_model.declared.module.Module.{Module}

abbrev pub parted_function : Layout → Bool → Function → List Function
parted_function l given f = if f.coroutine then marked_parts l given f else plain_of (plain_shape f) f ∷ []

-- the layouts are those of the coroutines in order
abbrev pub parted_functions : List Layout → Module → List Function → List Function
parted_functions ls m [] = []
parted_functions ls m (f ∷ fs) = parted_function (first_layout ls) (has_given_call m f) f ++ parted_functions (layouts_after f ls) m fs

abbrev pub parted_module : Layouts → Module → Module
parted_module ls m =
    record { types = m.types; globals = m.globals; declarations = m.declarations; functions = parted_functions ls.coroutines m m.functions }
