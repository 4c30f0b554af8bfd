-- Which operands fit a type.
use Rattle.std.specs.Prelude.{ℕ, Bool, true, false, Some, Option, ℤ, pos, negsuc, nat_lt, ◌*◌, ◌^◌, ◌||◌, ◌&&◌, ◌==◌}
use Rattle.ir_model.specs.Ty.{Ty, Tys, array, field, int, none, ptr, structure, token}
use Rattle.ir_model.specs.declared.operand.Arg.{Arg}
use Rattle.ir_model.specs.declared.operand.Operand.{Operand}
use Rattle.rule_types.specs.Wants.{is_int, is_ptr, is_token}
use Rattle.rule_values.specs.declared.kinds.Kind.{Kind}

abbrev pub is_integer : Ty → Bool
is_integer (int w) = true
is_integer t = false

-- the types of values in memory: integers and ptr
abbrev pub is_scalar : Ty → Bool
is_scalar t = is_integer t || is_ptr t

-- a literal fits iW from -2^(W-1) to 2^W - 1
abbrev pub is_literal : ℕ → ℤ → Bool
is_literal w (pos n) = nat_lt n (2 ^ w)
is_literal w (negsuc n) = nat_lt (2 * n) (2 ^ w)

abbrev pub fits_literal : Ty → ℤ → Bool
fits_literal (int w) z = is_literal w z
fits_literal t z = false

abbrev pub fits_kind : Option Kind → Ty → Bool
fits_kind (Some (Kind.Int v)) (int w) = v == w
fits_kind (Some Kind.Ptr) ptr = true
fits_kind (Some Kind.Token) token = true
fits_kind (Some Kind.Saved) token = true
fits_kind kind t = false

-- the operand fits the type:
--   a local       is of the type
--   a global      ptr
--   a literal     an integer type, in its range
--   true, false   i1
--   null          ptr
--   none          token
--   poison        integers and ptr
abbrev pub fits : (ℕ → Option Kind) → Ty → Operand → Bool
fits kinds t (Operand.Local v) = fits_kind (kinds v) t
fits kinds t (Operand.Global n) = is_ptr t
fits kinds t (Operand.Number z) = fits_literal t z
fits kinds t Operand.True = is_int 1 t
fits kinds t Operand.False = is_int 1 t
fits kinds t Operand.Null = is_ptr t
fits kinds t Operand.None = is_token t
fits kinds t Operand.Poison = is_scalar t

abbrev pub fits_arg : (ℕ → Option Kind) → Arg → Bool
fits_arg kinds a = fits kinds a.ty a.value

-- an operand of an integer type, or of an integer type or ptr
abbrev pub fits_integer : (ℕ → Option Kind) → Arg → Bool
fits_integer kinds a = is_integer a.ty && fits_arg kinds a

abbrev pub fits_scalar : (ℕ → Option Kind) → Arg → Bool
fits_scalar kinds a = is_scalar a.ty && fits_arg kinds a

abbrev mutual
  -- no token is written in the type
  pub is_tokenless : Ty → Bool
  is_tokenless token = false
  is_tokenless (array n t) = is_tokenless t
  is_tokenless (structure ts) = are_tokenless ts
  is_tokenless t = true

  pub are_tokenless : Tys → Bool
  are_tokenless none = true
  are_tokenless (field t ts) = is_tokenless t && are_tokenless ts
