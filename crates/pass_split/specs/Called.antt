-- What functions become by the names by which functions are called.
use Rattle.std.specs.Prelude.{List, [], ◌∷◌, ◌++◌}
use Rattle.frame_layout.specs.declared.layout.Layout.{Layout}
use Rattle.ir_model.specs.declared.module.Function.{Function}
use Rattle.pass_split.specs.Given.{is_given_by}
use Rattle.pass_split.specs.Parts.{first_layout, layouts_after, split_function}
use Rattle.pass_split.specs.declared.given.CalledName.{CalledName}

abbrev pub split_by : List Layout → List CalledName → List Function → List Function
split_by ls names [] = []
split_by ls names (f ∷ fs) = split_function (first_layout ls) (is_given_by names f) f ++ split_by (layouts_after f ls) names fs
