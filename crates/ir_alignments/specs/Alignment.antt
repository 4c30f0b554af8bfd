-- The alignments of types, given the named ones.
use Rattle.std.specs.Prelude.{ℕ, zero, suc, max, List, Option, Some, None}
use Rattle.ir_base.specs.declared.name.Name.{Name}
use Rattle.ir_model.specs.Layout.{bytes_of_width, extent_of, extent_or, type_named}
use Rattle.ir_model.specs.Ty.{Ty, Tys, array, field, int, named, none, ptr, structure, token}
use Rattle.ir_model.specs.declared.module.TypeItem.{TypeItem}

-- the alignment of a type, or 1 where it has no size
unfoldable pub align_in : List TypeItem → Ty → ℕ
align_in types t = (extent_or (extent_of types t)).align

abbrev pub align_then : Option ℕ → (ℕ → Option ℕ) → Option ℕ
align_then None f = None
align_then (Some a) f = f a

-- the greatest alignment of the fields and of those before
abbrev pub fields_alignment : (Ty → Option ℕ) → ℕ → Tys → Option ℕ
fields_alignment alignment a none = Some a
fields_alignment alignment a (field t ts) = align_then (alignment t) (λ b. fields_alignment alignment (max a b) ts)

-- the alignment of a type, given those of the named types; it goes down through at most d brackets
abbrev pub alignment_in : (Name → Option ℕ) → ℕ → Ty → Option ℕ
alignment_in names zero t = None
alignment_in names (suc d) (int w) = Some (bytes_of_width w)
alignment_in names (suc d) ptr = Some 8
alignment_in names (suc d) token = None
alignment_in names (suc d) (array n t) = alignment_in names d t
alignment_in names (suc d) (structure ts) = fields_alignment (alignment_in names d) 1 ts
alignment_in names (suc d) (named n) = names n

abbrev pub of_named : (Ty → Option ℕ) → Option Ty → Option ℕ
of_named alignment None = None
of_named alignment (Some t) = alignment t

-- the alignment of a named type, which goes down through at most k names
abbrev pub alignment_at : List TypeItem → ℕ → Name → Option ℕ
alignment_at types zero n = None
alignment_at types (suc k) n = of_named (alignment_in (alignment_at types k) 64) (type_named types n)
