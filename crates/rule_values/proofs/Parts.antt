-- The parts of types to which indices lead.
use Rattle.std.proofs.Common.{◌≡◌, ◌<◌, ◌≤◌, ℕ, zero, suc, Bool, true, false, List, [], ◌∷◌, length, drop, get_or, drop-cons, add-one, ◌+◌, refl, ap, sym, ◌∙◌, arith, Option, Some, None}
use Rattle.std.specs.Prelude.{option_map, slice_get, if◌then◌else◌}
use Rattle.ir_base.specs.declared.name.Name.{Name}
use Rattle.ir_model.specs.Layout.{type_named, type_or, unnamed}
use Rattle.ir_model.specs.Names.{first_where, same_name}
use Rattle.ir_model.specs.Ty.{Ty, named, to_tys}
use Rattle.ir_model.specs.declared.module.Module.{Module}
use Rattle.ir_model.specs.declared.module.TypeItem.{TypeItem}
use Rattle.ir_model.specs.declared.operand.Arg.{Arg}
use Rattle.rule_values.specs.Geps.{field_at, leads_in, part_of}

pub field_is : (ts : List Ty) (i : ℕ) → slice_get ts i ≡ field_at (to_tys ts) i
field_is [] i = refl
field_is (t ∷ ts) zero = refl
field_is (t ∷ ts) (suc i) = field_is ts i

pub field_past : (ts : List Ty) (i : ℕ) → length ts ≤ i → None ≡ field_at (to_tys ts) i
field_past [] i le = refl
field_past (t ∷ ts) zero le = absurd (omega arith)
field_past (t ∷ ts) (suc i) le = field_past ts i (omega arith)

abbrev pub item_type : Option TypeItem → Option Ty
item_type None = None
item_type (Some t) = Some t.ty

abbrev pub type_at : List TypeItem → Option ℕ → Option Ty
type_at ts None = None
type_at ts (Some i) = item_type (slice_get ts i)

at-by : (b : Bool) (t : TypeItem) (ts : List TypeItem) (o : Option ℕ) (rest : Option Ty) → rest ≡ type_at ts o → (if b then Some t.ty else rest) ≡ type_at (t ∷ ts) (if b then Some 0 else option_map suc o)
at-by true t ts o rest e = refl
at-by false t ts None rest e = e
at-by false t ts (Some i) rest e = e

named_at : (ts : List TypeItem) (n : Name) → type_named ts n ≡ type_at ts (first_where (λ t. same_name t.name n) ts)
named_at [] n = refl
named_at (t ∷ ts) n = at-by (same_name t.name n) t ts (first_where (λ u. same_name u.name n) ts) (type_named ts n) (named_at ts n)

nowhere : (m : Module) (indices : List Arg) → leads_in m None indices ≡ false
nowhere m [] = refl
nowhere m (a ∷ rest) = nowhere m rest

-- what a name stands for, by its position
unnamed-at : (m : Module) (t : Ty) (n : Name) (o : Option ℕ) → named n ≡ t → o ≡ first_where (λ t. same_name t.name n) m.types → unnamed m t ≡ type_or t (type_at m.types o)
unnamed-at m t n o is e =
    ap (unnamed m) (sym is)
    ∙ ap (type_or (named n)) (named_at m.types n ∙ ap (type_at m.types) (sym e))
    ∙ ap (λ u. type_or u (type_at m.types o)) is

pub unnamed_none : (m : Module) (t : Ty) (n : Name) → named n ≡ t → None ≡ first_where (λ t. same_name t.name n) m.types → t ≡ unnamed m t
unnamed_none m t n is e = sym (unnamed-at m t n None is e)

pub unnamed_gone : (m : Module) (t : Ty) (n : Name) (i : ℕ) → named n ≡ t → Some i ≡ first_where (λ t. same_name t.name n) m.types → slice_get m.types i ≡ None → t ≡ unnamed m t
unnamed_gone m t n i is e h = sym (unnamed-at m t n (Some i) is e ∙ ap (λ o. type_or t (item_type o)) h)

pub unnamed_there : (m : Module) (t : Ty) (n : Name) (i : ℕ) (item : TypeItem) → named n ≡ t → Some i ≡ first_where (λ t. same_name t.name n) m.types → slice_get m.types i ≡ Some item → item.ty ≡ unnamed m t
unnamed_there m t n i item is e h = sym (unnamed-at m t n (Some i) is e ∙ ap (λ o. type_or t (item_type o)) h)

-- one index further
further : (m : Module) (inside u : Ty) (indices : List Arg) (i : ℕ) (a : Arg) (o : Option Ty) → i < length indices → a ≡ get_or indices i a → u ≡ unnamed m inside → o ≡ part_of u a → leads_in m (Some inside) (drop i indices) ≡ leads_in m o (drop (i + 1) indices)
further m inside u indices i a o lt is eu eo =
    ap (leads_in m (Some inside)) (drop-cons indices i a lt)
    ∙ ap (λ (b : Arg). leads_in m (part_of (unnamed m inside) b) (drop (suc i) indices)) (sym is)
    ∙ ap (λ (t : Ty). leads_in m (part_of t a) (drop (suc i) indices)) (sym eu)
    ∙ ap (λ p. leads_in m p (drop (suc i) indices)) (sym eo)
    ∙ ap (λ (k : ℕ). leads_in m o (drop k indices)) (sym (add-one i))

pub stops : (m : Module) (inside u : Ty) (indices : List Arg) (i : ℕ) (a : Arg) (all : Bool) → i < length indices → a ≡ get_or indices i a → u ≡ unnamed m inside → None ≡ part_of u a → all ≡ leads_in m (Some inside) (drop i indices) → false ≡ all
stops m inside u indices i a all lt is eu eo inv = sym (inv ∙ further m inside u indices i a None lt is eu eo ∙ nowhere m (drop (i + 1) indices))

pub goes : (m : Module) (inside u part : Ty) (indices : List Arg) (i : ℕ) (a : Arg) (all : Bool) → i < length indices → a ≡ get_or indices i a → u ≡ unnamed m inside → Some part ≡ part_of u a → all ≡ leads_in m (Some inside) (drop i indices) → all ≡ leads_in m (Some part) (drop (i + 1) indices)
goes m inside u part indices i a all lt is eu eo inv = inv ∙ further m inside u indices i a (Some part) lt is eu eo
