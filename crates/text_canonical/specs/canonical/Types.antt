-- The text of types.
use Rattle.std.specs.Prelude.{ℕ, List, [], ◌++◌, codes, decimal}
use Rattle.text_names.specs.Spelling.{spelling}
use Rattle.ir_model.specs.Ty.{Ty, Tys, array, field, int, named, none, ptr, structure, token}

abbrev mutual
  pub type_text : Ty → List ℕ
  type_text (int w) = codes "i" ++ decimal w
  type_text ptr = codes "ptr"
  type_text token = codes "token"
  type_text (array n t) = codes "[" ++ decimal n ++ codes " x " ++ type_text t ++ codes "]"
  type_text (structure none) = codes "{}"
  type_text (structure (field t ts)) = codes "{ " ++ type_text t ++ fields_text ts ++ codes " }"
  type_text (named n) = codes "%" ++ spelling n

  -- the fields behind the first
  pub fields_text : Tys → List ℕ
  fields_text none = []
  fields_text (field t ts) = codes ", " ++ type_text t ++ fields_text ts
