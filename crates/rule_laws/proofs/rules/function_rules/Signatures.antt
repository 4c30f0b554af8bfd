-- The rules of functions go by the types, globals and declarations of a module, and by how its functions are called.
use Rattle.std.proofs.Common.{Bool, List, None, Option, Some, [], ap, false, if◌then◌else◌, map, not, option_map, refl, subst, suc, sym, ℕ, ◌&&◌, ◌||◌, ◌∙◌, ◌∷◌, ◌≡◌}
use Rattle.std.proofs.lemmas.Option.{slice_get-map}
use Rattle.std.specs.List.{list_all}
use Rattle.std.specs.Prelude.{is_some, slice_get}
use Rattle.ir_laws.specs.ir_base.declared.name.Name.{Name}
use Rattle.ir_laws.specs.ir_base.declared.outcome.Place.{Place}
use Rattle.rule_laws.specs.rules.local_rules.Local.{BreaksNoLocalRuleAt}
use Rattle.ir_parts.specs.Contents.{part_labels, part_operands, part_types}
use Rattle.ir_parts.specs.Parts.{OfInstr, Part, first_part, parts_of}
use Rattle.rule_laws.specs.rules.function_rules.Kept.{KeepsFunctionRules, KeepsFunctionRulesAt}
use Rattle.ir_laws.specs.facts.function_rules.Signatures.{HaveSameSignatures, Heading, heading}
use Rattle.rule_laws.specs.rules.plain_rules.Kept.{KeepsPlainRules}
use Rattle.ir_laws.specs.ir_model.Layout.{unnamed}
use Rattle.ir_laws.specs.ir_model.Names.{declaration_named, first_where, function_named, global_named, same_name}
use Rattle.ir_laws.specs.ir_model.Table.{callee_named}
use Rattle.ir_laws.specs.ir_model.Ty.{Ty, Tys, array, field, int, named, none, ptr, structure, token}
use Rattle.ir_laws.specs.ir_model.declared.instr.Instr.{Instr}
use Rattle.ir_laws.specs.ir_model.declared.module.Function.{Function}
use Rattle.ir_laws.specs.ir_model.declared.module.Module.{Module}
use Rattle.ir_laws.specs.ir_model.declared.operand.Arg.{Arg}
use Rattle.ir_laws.specs.ir_model.declared.operand.Callee.{Callee}
use Rattle.ir_laws.specs.ir_model.declared.operand.Operand.{Operand}
use Rattle.rule_locals.specs.Calls.{calls_closed, is_closed, is_closed_at, is_closed_declaration}
use Rattle.rule_locals.specs.Instrs.{on_instr}
use Rattle.rule_names.specs.Known.{allocator_name, is_intrinsic, is_label, is_value, knows_called, knows_callee, knows_name, knows_operand, knows_type, knows_types, names_unknown}
use Rattle.rule_names.specs.declared.stage.Stage.{Stage}
use Rattle.rule_types.specs.Signatures.{are_wanted, calls_otherwise, fits_callee, fits_declaration, fits_function, fits_named, fits_position, is_result, same_list, same_result}
use Rattle.rule_types.specs.Wants.{allocator_params, allocator_result}
use Rattle.rule_values.specs.Fits.{fits, fits_integer, is_tokenless}
use Rattle.rule_values.specs.Geps.{indices_fit, inner_part, leads_in, part_of}
use Rattle.rule_values.specs.Instrs.{fits_instr}
use Rattle.rule_values.specs.Kinds.{value_kind}
use Rattle.rule_values.specs.Values.{breaks_values}
use Rattle.rule_values.specs.declared.kinds.Kind.{Kind}

-- ---- functions by their headings

first_heading : (x : Name) (fs : List Function) → first_where (λ (h : Heading). same_name h.name x) (map heading fs) ≡ first_where (λ (f : Function). same_name f.name x) fs
first_heading x [] = refl
first_heading x (f ∷ fs) = λ k. if same_name f.name x then Some 0 else option_map suc (first_heading x fs k)

abbrev fits_heading : Option Ty → List Ty → Option Heading → Bool
fits_heading ty args None = false
fits_heading ty args (Some h) = same_result ty h.result && same_list args h.params

by_heading : (ty : Option Ty) (args : List Ty) (o : Option Function) → fits_function ty args o ≡ fits_heading ty args (option_map heading o)
by_heading ty args None = refl
by_heading ty args (Some f) = refl

module _ (m : Module) (fs : List Function) (same : map heading fs ≡ map heading m.functions) where
  -- the module with other functions
  abbrev n : Module
  n = record { types = m.types; globals = m.globals; declarations = m.declarations; functions = fs }

  named_same : (x : Name) → function_named n x ≡ function_named m x
  named_same x =
      sym (first_heading x fs)
      ∙ ap (λ (hs : List Heading). first_where (λ (h : Heading). same_name h.name x) hs) same
      ∙ first_heading x m.functions

  -- ---- calls

  function_same : (ty : Option Ty) (args : List Ty) (k : ℕ) → fits_function ty args (slice_get fs k) ≡ fits_function ty args (slice_get m.functions k)
  function_same ty args k =
      by_heading ty args (slice_get fs k)
      ∙ ap (fits_heading ty args) (sym (slice_get-map heading fs k) ∙ ap (λ (hs : List Heading). slice_get hs k) same ∙ slice_get-map heading m.functions k)
      ∙ sym (by_heading ty args (slice_get m.functions k))

  fits_same : (ty : Option Ty) (args : List Ty) (x : Name) → fits_named n ty args x ≡ fits_named m ty args x
  fits_same ty args x = ap (fits_position n ty args x) (named_same x) ∙ on (function_named m x)
    where
      declared : (o : Option ℕ) → fits_declaration n ty args o ≡ fits_declaration m ty args o
      declared None = refl
      declared (Some k) = refl

      on : (o : Option ℕ) → fits_position n ty args x o ≡ fits_position m ty args x o
      on None = declared (declaration_named m x)
      on (Some k) = function_same ty args k

  callee_same : (ty : Option Ty) (args : List Arg) (c : Callee) → fits_callee n ty args c ≡ fits_callee m ty args c
  callee_same ty args (Callee.Named x) = fits_same ty (map (λ a. a.ty) args) x
  callee_same ty args (Callee.Allocator a) = ap (λ (b : Bool). (is_result (allocator_result a) ty && are_wanted (allocator_params a) args) && b) (fits_same ty (map (λ x. x.ty) args) (allocator_name a))
  callee_same ty args (Callee.Intrinsic i) = refl
  callee_same ty args (Callee.Local v) = refl

  calls_same : (p : Place) (x : Part) → calls_otherwise n p x ≡ calls_otherwise m p x
  calls_same p (OfInstr (Instr.Call r must_tail ty callee args)) = ap not (callee_same ty args callee)
  calls_same p _ = refl

  closed_same : (x : Name) → is_closed n x ≡ is_closed m x
  closed_same x = ap (is_closed_at n x) (named_same x) ∙ on (function_named m x)
    where
      declared : (o : Option ℕ) → is_closed_declaration n x o ≡ is_closed_declaration m x o
      declared None = refl
      declared (Some k) = refl

      on : (o : Option ℕ) → is_closed_at n x o ≡ is_closed_at m x o
      on None = declared (declaration_named m x)
      on (Some k) = refl

  closed_calls_same : (p : Place) (x : Part) → on_instr (calls_closed n) p x ≡ on_instr (calls_closed m) p x
  closed_calls_same p (OfInstr (Instr.Call r must_tail ty (Callee.Named name) args)) = closed_same name
  closed_calls_same p _ = refl

  -- ---- names

  mutual
    type_same : (t : Ty) → knows_type n t ≡ knows_type m t
    type_same (int w) = refl
    type_same ptr = refl
    type_same token = refl
    type_same (array k t) = type_same t
    type_same (structure ts) = fields_same ts
    type_same (named x) = refl

    fields_same : (ts : Tys) → knows_types n ts ≡ knows_types m ts
    fields_same none = refl
    fields_same (field t ts) = λ k. type_same t k && fields_same ts k

  name_same : (x : Name) → knows_name n x ≡ knows_name m x
  name_same x = ap (λ (o : Option ℕ). is_some o || (is_some (declaration_named m x) || is_some (global_named m x))) (named_same x)

  operand_same : (values : ℕ → Bool) (x : Operand) → knows_operand n values x ≡ knows_operand m values x
  operand_same values (Operand.Global x) = ap (λ (b : Bool). b || is_intrinsic (callee_named x)) (name_same x)
  operand_same values _ = refl

  known_callee_same : (c : Callee) → knows_callee n c ≡ knows_callee m c
  known_callee_same (Callee.Named x) = name_same x
  known_callee_same (Callee.Allocator a) = name_same (allocator_name a)
  known_callee_same (Callee.Intrinsic i) = refl
  known_callee_same (Callee.Local v) = refl

  called_same : (x : Part) → knows_called n x ≡ knows_called m x
  called_same (OfInstr (Instr.Call r must_tail ty callee args)) = known_callee_same callee
  called_same _ = refl

  unknown_same : (values labels : ℕ → Bool) (p : Place) (x : Part) → names_unknown n values labels p x ≡ names_unknown m values labels p x
  unknown_same values labels p x = λ k.
      not (list_all (λ t. type_same t k) (part_types x)
      && (list_all (λ o. operand_same values o k) (part_operands x)
      && (list_all labels (part_labels x) && called_same x k)))

  -- ---- values

  unnamed_same : (t : Ty) → unnamed n t ≡ unnamed m t
  unnamed_same (named x) = refl
  unnamed_same _ = refl

  inner_same : (o : Option Ty) (a : Arg) → inner_part n o a ≡ inner_part m o a
  inner_same None a = refl
  inner_same (Some t) a = ap (λ (u : Ty). part_of u a) (unnamed_same t)

  leads_same : (o : Option Ty) (args : List Arg) → leads_in n o args ≡ leads_in m o args
  leads_same o [] = refl
  leads_same o (a ∷ args) = ap (λ (q : Option Ty). leads_in n q args) (inner_same o a) ∙ leads_same (inner_part m o a) args

  indices_same : (t : Ty) (args : List Arg) → indices_fit n t args ≡ indices_fit m t args
  indices_same t [] = refl
  indices_same t (a ∷ args) = leads_same (Some t) args

  instr_same : (kinds : ℕ → Option Kind) (i : Instr) → fits_instr n kinds i ≡ fits_instr m kinds i
  instr_same kinds (Instr.Gep r inbounds ty base indices) = ap (λ (b : Bool). (is_tokenless ty && fits kinds ptr base) && (list_all (fits_integer kinds) indices && b)) (indices_same ty indices)
  instr_same kinds _ = refl

  values_same : (kinds : ℕ → Option Kind) (ty : Option Ty) (p : Place) (x : Part) → breaks_values n kinds ty p x ≡ breaks_values m kinds ty p x
  values_same kinds ty p (OfInstr i) = ap not (instr_same kinds i)
  values_same kinds ty p _ = refl

  -- ---- all rules

  -- where a test of parts answers the same, so does the first part that it finds
  first_same : (a b : Place → Part → Bool) → ((p : Place) (x : Part) → a p x ≡ b p x) → (xs : List (Place × Part)) → first_part a xs ≡ first_part b xs
  first_same a b h xs = ap (λ (t : Place → Part → Bool). first_part t xs) (λ k p x. h p x k)

  local_same : (stage : Stage) (k : ℕ) (f : Function) → BreaksNoLocalRuleAt stage m k f → BreaksNoLocalRuleAt stage n k f
  local_same stage k f h = record {
    values = first_same (breaks_values n (value_kind f) f.result) (breaks_values m (value_kind f) f.result) (values_same (value_kind f) f.result) (parts_of k f) ∙ h.values;
    closed_calls = first_same (on_instr (calls_closed n)) (on_instr (calls_closed m)) closed_calls_same (parts_of k f) ∙ h.closed_calls;
    extents = h.extents;
    transfers = h.transfers;
    allocas = h.allocas;
    function_pointers = h.function_pointers;
    misplaced = h.misplaced;
    marks = h.marks;
  }

  rules_same : (stage : Stage) (k : ℕ) (f : Function) → KeepsFunctionRulesAt stage m k f → KeepsFunctionRulesAt stage n k f
  rules_same stage k f h = record {
    tabled = h.tabled;
    definitions = h.definitions;
    known = first_same (names_unknown n (is_value k f) (is_label k f)) (names_unknown m (is_value k f) (is_label k f)) (unknown_same (is_value k f) (is_label k f)) (parts_of k f) ∙ h.known;
    depths = h.depths;
    calls = first_same (calls_otherwise n) (calls_otherwise m) calls_same (parts_of k f) ∙ h.calls;
    local = local_same stage k f h.local;
    edges = h.edges;
    uses = h.uses;
  }

  plain_same : (k : ℕ) (f : Function) → KeepsPlainRules m k f → KeepsPlainRules n k f
  plain_same k f h = record {
    definitions = h.definitions;
    known = first_same (names_unknown n (is_value k f) (is_label k f)) (names_unknown m (is_value k f) (is_label k f)) (unknown_same (is_value k f) (is_label k f)) (parts_of k f) ∙ h.known;
    depths = h.depths;
    calls = first_same (calls_otherwise n) (calls_otherwise m) calls_same (parts_of k f) ∙ h.calls;
    values = first_same (breaks_values n (value_kind f) f.result) (breaks_values m (value_kind f) f.result) (values_same (value_kind f) f.result) (parts_of k f) ∙ h.values;
    closed_calls = first_same (on_instr (calls_closed n)) (on_instr (calls_closed m)) closed_calls_same (parts_of k f) ∙ h.closed_calls;
    extents = h.extents;
    transfers = h.transfers;
    edges = h.edges;
    uses = h.uses;
    allocas = h.allocas;
    marks = h.marks;
  }

-- the same functions in a module with the same types, globals and declarations
pub go_by_signatures_at : (stage : Stage) (m n : Module) (k : ℕ) (f : Function) → HaveSameSignatures m n
    → KeepsFunctionRulesAt stage m k f → KeepsFunctionRulesAt stage n k f
go_by_signatures_at stage m n k f same h =
    let types = sym same.types in
    let globals = sym same.globals in
    let declarations = sym same.declarations in
    let is : record { types = m.types; globals = m.globals; declarations = m.declarations; functions = n.functions } ≡ n =
    (λ i. record { types = types i; globals = globals i; declarations = declarations i; functions = n.functions }) in
    subst (λ (x : Module). KeepsFunctionRulesAt stage x k f) is (rules_same m n.functions same.functions stage k f h)

pub go_by_signatures : (m n : Module) (k : ℕ) (f : Function) → HaveSameSignatures m n → KeepsFunctionRules m k f
    → KeepsFunctionRules n k f
go_by_signatures = go_by_signatures_at Stage.Source

pub plain_rules_by_signatures : (m n : Module) (k : ℕ) (f : Function) → HaveSameSignatures m n → KeepsPlainRules m k f → KeepsPlainRules n k f
plain_rules_by_signatures m n k f same h =
    let types = sym same.types in
    let globals = sym same.globals in
    let declarations = sym same.declarations in
    let is : record { types = m.types; globals = m.globals; declarations = m.declarations; functions = n.functions } ≡ n =
    (λ i. record { types = types i; globals = globals i; declarations = declarations i; functions = n.functions }) in
    subst (λ (x : Module). KeepsPlainRules x k f) is (plain_same m n.functions same.functions k f h)
