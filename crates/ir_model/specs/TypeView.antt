-- What a node of the code's tree stands for, with each child already seen as data.
use Rattle.std.specs.Prelude.{◌≡◌, ℕ, zero, suc, ◌+◌, ◌≤◌, ◌<◌, length, List, [], ◌∷◌, ◌++◌}
use Rattle.std.proofs.Common.{arith, ap, get_or, refl, sym, ◌∙◌}
use denote.Param.Weighed.{most}
use Rattle.ir_model.specs.Ty.{Ty, Tys, int, ptr, token, array, structure, named, none, field, to_tys, ty_size, tys_size}
use Rattle.ir_model.specs.declared.ir_type.IntWidth.{IntWidth}
use Rattle.ir_model.specs.declared.ir_type.IntWidth.TheVariants.{I1, I8, I16, I32, I64}
use Rattle.ir_model.specs.declared.ir_type.Node.{Node}
use Rattle.ir_model.specs.declared.ir_type.Node.TheVariants.{Int, Ptr, Token, Array, Struct, Named}

abbrev pub bits_of : IntWidth → ℕ
bits_of I1 = 1
bits_of I8 = 8
bits_of I16 = 16
bits_of I32 = 32
bits_of I64 = 64

abbrev pub ty_of : Node → Ty
ty_of (Int w) = int (bits_of w)
ty_of Ptr = ptr
ty_of Token = token
ty_of (Array n t) = array n t.value
ty_of (Struct ts) = structure (to_tys ts.items)
ty_of (Named n) = named n

pub most_below_tys_size : (ts : List Ty) → most (λ t. ty_size t + 1) ts ≤ tys_size (to_tys ts)
most_below_tys_size [] = omega arith
most_below_tys_size (t ∷ ts) = omega (arith, most_below_tys_size ts)

-- an element of a list of types is smaller than the list
pub item_below_tys_size : (ts : List Ty) (i : ℕ) (t : Ty) → i < length ts → t ≡ get_or ts i t → ty_size t < tys_size (to_tys ts)
item_below_tys_size [] i t lt e = absurd (omega arith)
item_below_tys_size (x ∷ ts) zero t lt e =
    let same : ty_size t ≡ ty_size x = ap ty_size e in omega arith
item_below_tys_size (x ∷ ts) (suc i) t lt e =
    let rest = item_below_tys_size ts i t (omega arith) e in omega (arith, rest)

fields_again : Tys → List Ty
fields_again none = []
fields_again (field t ts) = t ∷ fields_again ts

fields_again-to_tys : (ts : List Ty) → fields_again (to_tys ts) ≡ ts
unfolding fields_again
fields_again-to_tys [] = refl
fields_again-to_tys (t ∷ ts) = ap (λ (l : List Ty). t ∷ l) (fields_again-to_tys ts)

-- lists of types are told apart by the structures that they make
pub to_tys_same : (a b : List Ty) → structure (to_tys a) ≡ structure (to_tys b) → a ≡ b
to_tys_same a b e =
    let e' : to_tys a ≡ to_tys b = cc in
    sym (fields_again-to_tys a) ∙ ap fields_again e' ∙ fields_again-to_tys b

pub tys_size_append : (xs ys : List Ty) → tys_size (to_tys (xs ++ ys)) ≡ tys_size (to_tys xs) + tys_size (to_tys ys)
tys_size_append [] ys = omega arith
tys_size_append (x ∷ xs) ys = omega (arith, tys_size_append xs ys)
