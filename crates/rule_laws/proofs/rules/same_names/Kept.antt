-- Lemmas on kept, that speak of no pass.
use Rattle.std.proofs.Common.{◌≡◌, ℕ, Bool, true, false, List, [], ◌∷◌, refl, sym, ap, ◌∙◌, Option, None}
use Rattle.std.proofs.lemmas.Bool.{or_left, or_right}
use Rattle.std.specs.List.{list_all}
use Rattle.std.specs.Prelude.{is_some, ◌&&◌, ◌||◌}
use Rattle.ir_laws.specs.ir_base.declared.name.Name.{Name}
use Rattle.ir_laws.specs.ir_model.Names.{first_where, global_named, same_name}
use Rattle.ir_laws.specs.ir_model.Table.{callee_named}
use Rattle.ir_laws.specs.ir_model.Ty.{Ty, Tys, array, field, int, named, none, ptr, structure, token}
use Rattle.ir_laws.specs.ir_model.declared.module.Module.{Module}
use Rattle.ir_laws.specs.ir_model.declared.module.TypeItem.{TypeItem}
use Rattle.ir_laws.specs.ir_model.declared.operand.Operand.{Operand}
use Rattle.rule_names.specs.Known.{is_intrinsic, knows_address, knows_name, knows_type, knows_types}
use Rattle.rule_types.specs.Wants.{is_ptr}
use Rattle.rule_values.specs.Initials.{fits_initial}

-- ---- types

mutual
  pub knows_type_same : (m n : Module) → n.types ≡ m.types → (t : Ty) → knows_type n t ≡ knows_type m t
  knows_type_same m n e (int w) = refl
  knows_type_same m n e ptr = refl
  knows_type_same m n e token = refl
  knows_type_same m n e (array k t) = knows_type_same m n e t
  knows_type_same m n e (structure ts) = knows_types_same m n e ts
  knows_type_same m n e (named x) = ap (λ (ts : List TypeItem). is_some (first_where (λ t. same_name t.name x) ts)) e

  knows_types_same : (m n : Module) → n.types ≡ m.types → (ts : Tys) → knows_types n ts ≡ knows_types m ts
  knows_types_same m n e none = refl
  knows_types_same m n e (field t ts) = λ i. knows_type_same m n e t i && knows_types_same m n e ts i

pub all_types_same : (m n : Module) → n.types ≡ m.types → (ts : List Ty) → list_all (knows_type n) ts ≡ list_all (knows_type m) ts
all_types_same m n e [] = refl
all_types_same m n e (t ∷ ts) = λ i. knows_type_same m n e t i && all_types_same m n e ts i

-- ---- initial values

pub initial_same : (m n : Module) → ((x : Name) → global_named n x ≡ global_named m x) → (ty : Ty) (x : Operand) → fits_initial n ty x ≡ fits_initial m ty x
initial_same m n same ty (Operand.Local v) = refl
initial_same m n same ty (Operand.Global x) = ap (λ (o : Option ℕ). is_ptr ty && is_some o) (same x)
initial_same m n same ty (Operand.Number z) = refl
initial_same m n same ty Operand.True = refl
initial_same m n same ty Operand.False = refl
initial_same m n same ty Operand.Null = refl
initial_same m n same ty Operand.None = refl
initial_same m n same ty Operand.Poison = refl

-- ---- names

-- what is known as an address stays so where names do
pub address_known : (m n : Module) → ((x : Name) → knows_name m x ≡ true → knows_name n x ≡ true) → (x : Name) → knows_address m x ≡ true → knows_address n x ≡ true
address_known m n knows x e = on (knows_name m x) refl
  where
    on : (b : Bool) → knows_name m x ≡ b → knows_address n x ≡ true
    on true known = or_left (knows_name n x) (is_intrinsic (callee_named x)) (knows x known)
    on false other = or_right (knows_name n x) (is_intrinsic (callee_named x)) (sym (ap (λ (b : Bool). b || is_intrinsic (callee_named x)) other) ∙ e)
