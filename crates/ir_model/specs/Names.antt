-- Finding things in a module by their names.
use Rattle.std.specs.Prelude.{ℕ, suc, Bool, true, false, List, [], length, drop, slice_get, Some, None, codes, decimal, Option, unwrap_or, option_map, ◌-◌, ◌&&◌, ◌∷◌, ◌++◌, if◌then◌else◌, ◌==◌}
use Rattle.ir_base.specs.declared.name.Name.{Name}
use Rattle.ir_model.specs.declared.operand.Intrinsic.{Intrinsic}
use Rattle.ir_model.specs.declared.operand.Operand.{Operand}
use Rattle.ir_model.specs.declared.module.Function.{Function}
use Rattle.ir_model.specs.declared.module.Module.{Module}

abbrev pub same_text : List ℕ → List ℕ → Bool
same_text [] [] = true
same_text [] (y ∷ ys) = false
same_text (x ∷ xs) [] = false
same_text (x ∷ xs) (y ∷ ys) = (x == y) && same_text xs ys

abbrev pub same_name : Name → Name → Bool
same_name (Name.Number m) (Name.Number n) = m == n
same_name (Name.Number m) (Name.Text t) = false
same_name (Name.Text s) (Name.Number n) = false
same_name (Name.Text s) (Name.Text t) = same_text s t

-- the position of the first element that passes a test
abbrev pub first_where : {A : Type 0} → (A → Bool) → List A → Option ℕ
first_where test [] = None
first_where test (x ∷ xs) = if test x then Some 0 else option_map suc (first_where test xs)

abbrev pub function_named : Module → Name → Option ℕ
function_named m n = first_where (λ f. same_name f.name n) m.functions

abbrev pub declaration_named : Module → Name → Option ℕ
declaration_named m n = first_where (λ d. same_name d.name n) m.declarations

abbrev pub global_named : Module → Name → Option ℕ
global_named m n = first_where (λ g. same_name g.name n) m.globals

-- the position of the block with a label
abbrev pub block_labelled : Function → ℕ → Option ℕ
block_labelled f label = first_where (λ b. b.label == label) f.blocks

-- the block of a label, or, where there is none, the position behind the last
abbrev pub position_of : Function → ℕ → ℕ
position_of f label = unwrap_or (block_labelled f label) (length f.blocks)

abbrev pub intrinsic_number : Intrinsic → ℕ
intrinsic_number Intrinsic.CoroId = 0
intrinsic_number Intrinsic.CoroSizeI32 = 1
intrinsic_number Intrinsic.CoroSizeI64 = 2
intrinsic_number Intrinsic.CoroAlignI32 = 3
intrinsic_number Intrinsic.CoroAlignI64 = 4
intrinsic_number Intrinsic.CoroAlloc = 5
intrinsic_number Intrinsic.CoroBegin = 6
intrinsic_number Intrinsic.CoroFree = 7
intrinsic_number Intrinsic.CoroFrame = 8
intrinsic_number Intrinsic.CoroSave = 9
intrinsic_number Intrinsic.CoroSuspend = 10
intrinsic_number Intrinsic.CoroEnd = 11
intrinsic_number Intrinsic.CoroResume = 12
intrinsic_number Intrinsic.CoroDestroy = 13
intrinsic_number Intrinsic.CoroDone = 14
intrinsic_number Intrinsic.CoroPromise = 15
intrinsic_number Intrinsic.LifetimeStart = 16
intrinsic_number Intrinsic.LifetimeEnd = 17
intrinsic_number Intrinsic.MemcpyI64 = 18
intrinsic_number Intrinsic.MemcpyI32 = 19

abbrev pub same_intrinsic : Intrinsic → Intrinsic → Bool
same_intrinsic i j = intrinsic_number i == intrinsic_number j

abbrev pub is_local : ℕ → Operand → Bool
is_local name (Operand.Local n) = name == n
is_local name _ = false

abbrev pub no_function : Function
no_function = record { name = Name.Number 0; result = None; params = []; coroutine = false; blocks = []; names = [] }

abbrev pub function_at : Module → ℕ → Function
function_at m f = unwrap_or (slice_get m.functions f) no_function

-- the name ends in these bytes
abbrev pub ends_in : List ℕ → List ℕ → Bool
ends_in suffix text = same_text suffix (drop (length text - length suffix) text)

abbrev pub is_noalloc : Name → Bool
is_noalloc (Name.Number n) = false
is_noalloc (Name.Text t) = ends_in (codes ".noalloc") t

-- the bytes of a name without its mark
abbrev pub spelling : Name → List ℕ
spelling (Name.Number n) = decimal n
spelling (Name.Text t) = t

-- the name of the ramp that allocates no frame
abbrev pub noalloc_of : Name → Name
noalloc_of n = Name.Text (spelling n ++ codes ".noalloc")

-- a name of a text and a number
abbrev pub numbered : List ℕ → ℕ → Name
numbered text n = Name.Text (text ++ decimal n)
