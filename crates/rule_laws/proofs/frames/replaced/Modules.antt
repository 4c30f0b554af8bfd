-- What a module with the functions of another one knows of it: types are the same, and names are known as before.
use Rattle.std.proofs.Common.{◌≡◌, ℕ, suc, Bool, true, false, List, [], ◌∷◌, refl, sym, ap, ◌∙◌}
use Rattle.std.specs.List.{list_all}
use Rattle.std.specs.Prelude.{None, Option, Some, codes, is_some, map, not, option_map, slice_get, ◌&&◌, ◌||◌, if◌then◌else◌}
use Rattle.ir_laws.specs.ir_base.declared.name.Name.{Name}
use Rattle.ir_laws.specs.ir_base.declared.outcome.Place.{Place}
use Rattle.ir_laws.proofs.facts.Truth.{and_both, and_first, and_second, or_last as either}
use Rattle.ir_laws.specs.ir_model.Layout.{extent_of, extent_or, size_of, type_named, type_or, unnamed}
use Rattle.ir_laws.specs.ir_model.Names.{declaration_named, first_where, function_named, global_named, same_name}
use Rattle.ir_laws.specs.ir_model.Table.{callee_named}
use Rattle.ir_laws.specs.ir_model.Ty.{Ty, Tys, array, field, int, named, none, ptr, structure, token}
use Rattle.ir_laws.specs.ir_model.declared.instr.Instr.{Instr}
use Rattle.ir_laws.specs.ir_model.declared.module.Declaration.{Declaration}
use Rattle.ir_laws.specs.ir_model.declared.module.Function.{Function}
use Rattle.ir_laws.specs.ir_model.declared.module.GlobalItem.{GlobalItem}
use Rattle.ir_laws.specs.ir_model.declared.module.Module.{Module}
use Rattle.ir_laws.specs.ir_model.declared.module.TypeItem.{TypeItem}
use Rattle.ir_laws.specs.ir_model.declared.operand.Arg.{Arg}
use Rattle.ir_laws.specs.ir_model.declared.operand.Callee.{Callee}
use Rattle.rule_locals.specs.Calls.{has_pointer, is_closed, is_closed_at, is_closed_declaration}
use Rattle.rule_locals.specs.Extents.{breaks_extents, is_aligned, is_sized, most_of_alloca}
use Rattle.rule_names.specs.Known.{allocator_name, is_intrinsic, knows_address, knows_callee, knows_name, knows_type, knows_types}
use Rattle.rule_names.specs.Reserved.{name_begins}
use Rattle.rule_names.specs.declared.stage.Stage.{Stage}
use Rattle.rule_laws.specs.frames.same_names.Parts.{HasFunctionsOf, HasPartsOf, HasSignature}
use Rattle.rule_types.specs.Depth.{is_shallow}
use Rattle.rule_types.specs.Limits.{all_fit}
use Rattle.rule_types.specs.Signatures.{are_wanted, fits_callee, fits_declaration, fits_declared, fits_function, fits_named, fits_position, is_result, same_list, same_result}
use Rattle.rule_types.specs.Wants.{allocator_params, allocator_result}
use Rattle.rule_values.specs.Fits.{fits, fits_integer, is_tokenless}
use Rattle.rule_values.specs.Geps.{indices_fit, inner_part, leads_in, part_of}
use Rattle.rule_values.specs.Instrs.{fits_instr}
use Rattle.rule_values.specs.declared.kinds.Kind.{Kind}

-- ---- lists

-- what is found stands there
pub found_there : {A : Type 0} (t : A → Bool) (xs : List A) (k : ℕ) → first_where t xs ≡ Some k → (x : A) × (slice_get xs k ≡ Some x)
found_there {A = A} t [] k e = absurd (cc)
found_there {A = A} t (x ∷ xs) k e = on (t x) (first_where t xs) refl e (λ j d. found_there t xs j d)
  where
    on : (b : Bool) → (o : Option ℕ) → first_where t xs ≡ o → (if b then Some 0 else option_map suc o) ≡ Some k → ((j : ℕ) → first_where t xs ≡ Some j → (y : A) × (slice_get xs j ≡ Some y)) → (y : A) × (slice_get (x ∷ xs) k ≡ Some y)
    on true o d e more = let first : 0 ≡ k = cc in (x, ap (λ j. slice_get (x ∷ xs) j) (sym first))
    on false None d e more = absurd (cc)
    on false (Some j) d e more = let next : suc j ≡ k = cc in let y = more j d in (y.0, ap (λ i. slice_get (x ∷ xs) i) (sym next) ∙ y.1)

pub has_functions : (m n : Module) → HasPartsOf m n → HasFunctionsOf m n
has_functions m n h =
    record {
      types = h.types;
      globals = h.globals;
      declarations = h.declarations;
      functions = h.functions;
      others = h.others;
    }

module _ (m n : Module) (h : HasFunctionsOf m n) where
  -- ---- types

  mutual
    pub type_known : (t : Ty) → knows_type n t ≡ knows_type m t
    type_known (int w) = refl
    type_known ptr = refl
    type_known token = refl
    type_known (array k t) = type_known t
    type_known (structure ts) = types_known ts
    type_known (named x) = ap (λ (types : List TypeItem). is_some (first_where (λ t. same_name t.name x) types)) h.types

    types_known : (ts : Tys) → knows_types n ts ≡ knows_types m ts
    types_known none = refl
    types_known (field t ts) = λ i. type_known t i && types_known ts i

  pub all_known : (ts : List Ty) → list_all (knows_type n) ts ≡ list_all (knows_type m) ts
  all_known ts = ap (λ (test : Ty → Bool). list_all test ts) (λ i t. type_known t i)

  pub depths_there : (ts : List Ty) → all_fit n ts ≡ all_fit m ts
  depths_there ts = ap (λ (types : List TypeItem). list_all (is_shallow types) ts) h.types

  pub size_there : (t : Ty) → size_of n t ≡ size_of m t
  size_there t = ap (λ (types : List TypeItem). (extent_or (extent_of types t)).size) h.types

  unnamed_there : (t : Ty) → unnamed n t ≡ unnamed m t
  unnamed_there (named x) = ap (λ (types : List TypeItem). type_or (named x) (type_named types x)) h.types
  unnamed_there (int w) = refl
  unnamed_there ptr = refl
  unnamed_there token = refl
  unnamed_there (array k t) = refl
  unnamed_there (structure ts) = refl

  inner_there : (t : Option Ty) (a : Arg) → inner_part n t a ≡ inner_part m t a
  inner_there None a = refl
  inner_there (Some t) a = ap (λ (u : Ty). part_of u a) (unnamed_there t)

  leads_there : (t : Option Ty) (args : List Arg) → leads_in n t args ≡ leads_in m t args
  leads_there t [] = refl
  leads_there t (a ∷ args) = leads_there (inner_part n t a) args ∙ ap (λ (u : Option Ty). leads_in m u args) (inner_there t a)

  indices_there : (t : Ty) (args : List Arg) → indices_fit n t args ≡ indices_fit m t args
  indices_there t [] = refl
  indices_there t (a ∷ args) = leads_there (Some t) args

  pub instr_there : (kinds : ℕ → Option Kind) (i : Instr) → fits_instr n kinds i ≡ fits_instr m kinds i
  instr_there kinds (Instr.Gep r inbounds ty base indices) = ap (λ (b : Bool). (is_tokenless ty && fits kinds ptr base) && (list_all (fits_integer kinds) indices && b)) (indices_there ty indices)
  instr_there kinds _ = refl

  pub extents_there : (stage : Stage) (p q : Place) (i : Instr) → breaks_extents stage n q i ≡ breaks_extents stage m p i
  extents_there stage p q (Instr.Alloca r ty align) = ap (λ (k : ℕ). not (is_sized (most_of_alloca stage) k && is_aligned align)) (size_there ty)
  extents_there stage p q (Instr.Gep r inbounds ty base indices) = ap (λ (k : ℕ). not (is_sized 1048576 k)) (size_there ty)
  extents_there stage p q _ = refl

  -- ---- names

  pub declared_there : (x : Name) → declaration_named n x ≡ declaration_named m x
  declared_there x = ap (λ (ds : List Declaration). first_where (λ d. same_name d.name x) ds) h.declarations

  pub global_there : (x : Name) → global_named n x ≡ global_named m x
  global_there x = ap (λ (gs : List GlobalItem). first_where (λ g. same_name g.name x) gs) h.globals

  signature_there : (x : Name) (k : ℕ) → function_named m x ≡ Some k → (f : Function) × ((slice_get m.functions k ≡ Some f) × HasSignature n x f.result (map (λ p. p.ty) f.params))
  signature_there x k e = let f = found_there (λ f. same_name f.name x) m.functions k e in (f.0, (f.1, h.functions x k f.0 e f.1))

  pub name_known : (x : Name) → knows_name m x ≡ true → knows_name n x ≡ true
  name_known x e = on (function_named m x) refl
    where
      on : (o : Option ℕ) → function_named m x ≡ o → knows_name n x ≡ true
      on (Some k) d = ap (λ (o : Option ℕ). is_some o || (is_some (declaration_named n x) || is_some (global_named n x))) (signature_there x k d).1.1.is_named
      on None d =
          let rest : (is_some (declaration_named m x) || is_some (global_named m x)) ≡ true = sym (ap (λ (o : Option ℕ). is_some o || (is_some (declaration_named m x) || is_some (global_named m x))) d) ∙ e in
          ap (λ (o : Option ℕ). is_some o || (is_some (declaration_named n x) || is_some (global_named n x))) (h.others x d rest)
          ∙ (λ i. is_some (declared_there x i) || is_some (global_there x i)) ∙ rest

  pub callee_known : (c : Callee) → knows_callee m c ≡ true → knows_callee n c ≡ true
  callee_known (Callee.Named x) e = name_known x e
  callee_known (Callee.Allocator a) e = name_known (allocator_name a) e
  callee_known (Callee.Intrinsic i) e = refl
  callee_known (Callee.Local v) e = refl

  pub address_known : (x : Name) → knows_address m x ≡ true → knows_address n x ≡ true
  address_known x e = on (knows_name m x) refl e
    where
      on : (b : Bool) → knows_name m x ≡ b → (b || is_intrinsic (callee_named x)) ≡ true → knows_address n x ≡ true
      on true d e = ap (λ (b : Bool). b || is_intrinsic (callee_named x)) (name_known x d)
      on false d e = either (knows_name n x) (is_intrinsic (callee_named x)) e

  -- ---- types of functions

  declared_fits : (ty : Option Ty) (args : List Ty) (x : Name) → function_named m x ≡ None → (o : Option ℕ) → declaration_named m x ≡ o → fits_declaration m ty args o ≡ true → fits_named n ty args x ≡ true
  declared_fits ty args x d None c e = absurd (cc)
  declared_fits ty args x d (Some k) c e =
      ap (λ (o : Option ℕ). fits_position n ty args x o) (h.others x d (ap (λ (o : Option ℕ). is_some o || is_some (global_named m x)) c))
      ∙ ap (fits_declaration n ty args) (declared_there x ∙ c)
      ∙ ap (λ (ds : List Declaration). fits_declared ty args (slice_get ds k)) h.declarations ∙ e

  pub named_fits : (ty : Option Ty) (args : List Ty) (x : Name) → fits_named m ty args x ≡ true → fits_named n ty args x ≡ true
  named_fits ty args x e = on (function_named m x) refl e
    where
      on : (o : Option ℕ) → function_named m x ≡ o → fits_position m ty args x o ≡ true → fits_named n ty args x ≡ true
      on (Some k) d e =
          let f = signature_there x k d in
          let s = f.1.1 in
          ap (λ (o : Option ℕ). fits_position n ty args x o) s.is_named
          ∙ ap (fits_function ty args) s.stands
          ∙ (λ i. same_result ty (s.has_result i) && same_list args (s.has_params i))
          ∙ sym (ap (fits_function ty args) f.1.0) ∙ e
      on None d e = declared_fits ty args x d (declaration_named m x) refl e

  pub callee_fits : (ty : Option Ty) (args : List Arg) (c : Callee) → fits_callee m ty args c ≡ true → fits_callee n ty args c ≡ true
  callee_fits ty args (Callee.Named x) e = named_fits ty (map (λ a. a.ty) args) x e
  callee_fits ty args (Callee.Allocator a) e =
      let table : Bool = is_result (allocator_result a) ty && are_wanted (allocator_params a) args in
      and_both table (fits_named n ty (map (λ b. b.ty) args) (allocator_name a))
      (and_first table (fits_named m ty (map (λ b. b.ty) args) (allocator_name a)) e)
      (named_fits ty (map (λ b. b.ty) args) (allocator_name a) (and_second table (fits_named m ty (map (λ b. b.ty) args) (allocator_name a)) e))
  callee_fits ty args (Callee.Intrinsic i) e = e
  callee_fits ty args (Callee.Local v) e = refl

  -- ---- declarations

  closed_same : (x : Name) (o : Option ℕ) → is_closed_declaration n x o ≡ is_closed_declaration m x o
  closed_same x None = refl
  closed_same x (Some k) = ap (λ (ds : List Declaration). name_begins (codes "llvm.") x || has_pointer (slice_get ds k)) h.declarations

  pub closed_there : (x : Name) → knows_name m x ≡ true → is_closed m x ≡ false → is_closed n x ≡ false
  closed_there x known e = on (function_named m x) refl e
    where
      on : (o : Option ℕ) → function_named m x ≡ o → is_closed_at m x o ≡ false → is_closed n x ≡ false
      on (Some k) d e = ap (is_closed_at n x) (signature_there x k d).1.1.is_named
      on None d e =
          let rest : (is_some (declaration_named m x) || is_some (global_named m x)) ≡ true = sym (ap (λ (o : Option ℕ). is_some o || (is_some (declaration_named m x) || is_some (global_named m x))) d) ∙ known in
          ap (is_closed_at n x) (h.others x d rest) ∙ ap (is_closed_declaration n x) (declared_there x) ∙ closed_same x (declaration_named m x) ∙ e
