-- What the first pass makes of a source that is not refused breaks none of the rules that speak of no paths.
use Rattle.std.proofs.Common.{◌≡◌, ℕ, ◌+◌, Bool, true, false, List, [], ◌∷◌, ◌++◌, refl, sym, ap, ◌∙◌, subst, arith}
use Rattle.std.specs.List.{list_all}
use Rattle.std.specs.Prelude.{None, Option, Some, is_some, not, option_to_list, slice_get, unwrap_or, ◌&&◌, ◌||◌, if◌then◌else◌}
use Rattle.rule_laws.specs.ir_base.declared.name.Name.{Name}
use Rattle.rule_laws.specs.ir_base.declared.outcome.Item.{Item}
use Rattle.rule_laws.specs.ir_base.declared.outcome.Place.{Place}
use Rattle.rule_laws.proofs.rules.local_rules.Accepted.{accepted_breaks_none}
use Rattle.pass_early_proof.proofs.early.local_rules.Carried.{carried, on_instrs}
use Rattle.pass_early_proof.proofs.early.local_rules.Defined.{label_same}
use Rattle.rule_laws.proofs.rules.local_rules.Defined.{value_defined}
use Rattle.rule_laws.proofs.rules.local_rules.Fitting.{either, no_either}
use Rattle.pass_early_proof.proofs.early.local_rules.Fitting.{values_carried}
use Rattle.pass_early_proof.proofs.early.local_rules.Followed.{Follows, follower, no_follower, sizes_same}
use Rattle.pass_early_proof.proofs.early.local_rules.Known.{address_same, other_marks_over, type_same, unknown_carried}
use Rattle.pass_early_proof.proofs.early.local_rules.Names.{early_once}
use Rattle.pass_early_proof.proofs.early.local_rules.Rules.{AreRight, CarriesSentence, local_rules_carried, named_same, sentence_carried}
use Rattle.rule_laws.proofs.rules.plain_rules.Places.{no_place_in as both_out, first_place_out as first_out}
use Rattle.rule_laws.proofs.rules.local_rules.Rules.{second_out}
use Rattle.pass_early_proof.proofs.early.local_rules.Turned.{turned_function}
use Rattle.rule_laws.specs.rules.local_rules.Local.{BreaksNoLocalRule}
use Rattle.pass_early.specs.BeginName.{with_begin_name}
use Rattle.pass_early.specs.Early.{early_function, early_module, early_named}
use Rattle.pass_early.specs.Renaming.{renamed_value}
use Rattle.rule_laws.proofs.rules.source_rules.Order.{unbroken}
use Rattle.rule_laws.specs.rules.source_rules.Named.{AreTabled, HasTabledLocals}
use Rattle.rule_laws.specs.ir_parts.Locals.{locals_of}
use Rattle.rule_laws.specs.ir_parts.Parts.{first_part, function_place, or_place, parts_of, place_if}
use Rattle.rule_laws.specs.rule_all.Refused.{IsRefused}
use Rattle.ir_model.specs.Names.{declaration_named, function_at, global_named, no_function}
use Rattle.ir_model.specs.Ty.{Ty}
use Rattle.ir_model.specs.declared.module.Function.{Function}
use Rattle.ir_model.specs.declared.module.Module.{Module}
use Rattle.ir_model.specs.declared.operand.Operand.{Operand}
use Rattle.rule_laws.specs.rule_locals.Instrs.{on_instr}
use Rattle.rule_laws.specs.rule_locals.Markers.{marks_otherwise, slot_size}
use Rattle.rule_laws.specs.rule_names.Definitions.{first_twice, is_position, is_second_function, second_definitions}
use Rattle.rule_laws.specs.rule_names.Items.{Sentence, first_function, first_item, first_place}
use Rattle.rule_laws.specs.rule_names.Known.{is_label, is_value, knows_operand, knows_type, names_unknown, unknown_names}
use Rattle.rule_laws.specs.rule_names.declared.stage.Stage.{Stage}
use Rattle.rule_laws.specs.rule_types.Signatures.{calls_otherwise, first_otherwise, other_types}
use Rattle.rule_laws.specs.rule_values.Kinds.{value_kind}
use Rattle.rule_laws.specs.rule_values.Values.{breaks_values}
use Rattle.rule_laws.specs.rule_values.declared.kinds.Kind.{Kind}
use Rattle.rule_laws.proofs.rules.local_rules.Sources.{of_functions}

-- a coroutine of the module has its locals in its table of names
tabled_there : (m : Module) → AreTabled m → (k : ℕ) (f : Function) → slice_get m.functions k ≡ Some f → f.coroutine ≡ true → HasTabledLocals k f
tabled_there m tabled k f there coroutine =
    let same : function_at m k ≡ f = ap (λ (o : Option Function). unwrap_or o no_function) there in
    subst (HasTabledLocals k) same (tabled k (ap (λ (g : Function). g.coroutine) same ∙ coroutine))

pub of_function : (m : Module) (s : Sentence) → first_place s m ≡ None → (k : ℕ) (f : Function) → slice_get m.functions k ≡ Some f → s.in_function k f ≡ None
of_function m s e k f there =
    let types : Option Place = first_item Item.Type s.on_type 0 m.types in
    let globals : Option Place = first_item Item.Global s.on_global 0 m.globals in
    let declarations : Option Place = first_item Item.Declaration s.on_declaration 0 m.declarations in
    let functions : Option Place = first_function s.in_function 0 m.functions in
    let last = second_out declarations functions (second_out globals (or_place declarations functions) (second_out types (or_place globals (or_place declarations functions)) e)) in
    let same : 0 + k ≡ k = omega arith in
    subst (λ (n : ℕ). s.in_function n f ≡ None) same (of_functions s.in_function 0 m.functions k f last there)

module _ (m : Module) (accepted : IsRefused Stage.Source m None) (tabled : AreTabled m) where
  abbrev m2 : Module
  m2 = early_module m

  once : (k : ℕ) (f : Function) → slice_get m.functions k ≡ Some f → first_twice [] (locals_of k f) ≡ None → first_twice [] (locals_of k (early_function f)) ≡ None
  once k f there e = on f.coroutine refl
    where
      on : (b : Bool) → f.coroutine ≡ b → first_twice [] (locals_of k (if b then early_named (with_begin_name f) else f)) ≡ None
      on true d = early_once m k f d (unbroken m k f accepted there) (tabled_there m tabled k f there d)
      on false d = e

  second_same : (k : ℕ) (n : Name) → is_second_function m2 k n ≡ is_second_function m k n
  second_same k n = ap (λ (o : Option ℕ). is_some (global_named m n) || (is_some (declaration_named m n) || not (is_position o k))) (named_same m n)

  definitions_carried : CarriesSentence m (second_definitions m) (second_definitions m2)
  definitions_carried =
      record {
        on_type = λ k t e. e;
        on_global = λ k g e. e;
        on_declaration = λ k d e. e;
        in_function = λ k f there e.
            let g : Function = early_function f in
            both_out (place_if (is_second_function m2 k g.name) (function_place k)) (first_twice [] (locals_of k g))
            (ap (λ (n : Name). place_if (is_second_function m2 k n) (function_place k)) (turned_function f).name
            ∙ ap (λ (b : Bool). place_if b (function_place k)) (second_same k f.name)
            ∙ first_out (place_if (is_second_function m k f.name) (function_place k)) (first_twice [] (locals_of k f)) e)
            (once k f there (second_out (place_if (is_second_function m k f.name) (function_place k)) (first_twice [] (locals_of k f)) e));
      }

  -- ---- the values of each function

  rules : BreaksNoLocalRule m
  rules = accepted_breaks_none m accepted

  follows : (k : ℕ) (f : Function) → slice_get m.functions k ≡ Some f → Follows m f (early_function f)
  follows k f there = on f.coroutine refl
    where
      types : first_otherwise m k f ≡ None
      types = of_function m (other_types m) rules.types k f there

      on : (b : Bool) → f.coroutine ≡ b → Follows m f (if b then early_named (with_begin_name f) else f)
      on true d = follower m k f d (unbroken m k f accepted there) (tabled_there m tabled k f there d) types
      on false d = no_follower m f

  right : AreRight m
  right k f there =
      let g : Function = early_function f in
      let x : Follows m f g = follows k f there in
      let saved : ℕ → Type 0 = λ n. value_kind g n ≡ Some Kind.Saved in
      let own = rules.functions k f there in
      let marks_before = on_instr (marks_otherwise (slot_size m f)) in
      let marks_now = on_instr (marks_otherwise (slot_size m2 g)) in
      let values_before = either (breaks_values m (value_kind f) f.result) (calls_otherwise m) in
      let values_now = breaks_values m2 (value_kind g) f.result in (
        subst (λ (ty : Option Ty). first_part (breaks_values m2 (value_kind g) ty) (parts_of k g) ≡ None) (sym (turned_function f).result)
            (carried x.renaming saved f g values_before values_now
            (values_carried m x.renaming saved (value_kind f) (value_kind g) x.kinds x.stays (λ n number. number) f.result f g (turned_function f).result (turned_function f).params) k x.blocks
            (no_either (breaks_values m (value_kind f) f.result) (calls_otherwise m) (parts_of k f) own.values (of_function m (other_types m) rules.types k f there))),
        carried x.renaming saved f g marks_before marks_now
            (on_instrs x.renaming saved f g (marks_otherwise (slot_size m f)) (marks_otherwise (slot_size m2 g)) (other_marks_over x.renaming saved (slot_size m f) (slot_size m2 g) x.slots (λ v. sizes_same m x.renaming saved v f g x.blocks)))
            k x.blocks own.marks,
      )

  -- ---- N2

  value_over : (k : ℕ) (f g : Function) (v w : ℕ) → ((kind : Kind) → value_kind f v ≡ Some kind → value_kind g w ≡ Some kind) → is_value k f v ≡ true → is_value k g w ≡ true
  value_over k f g v w h e = value_defined w k g ∙ on (value_kind f v) refl (sym (value_defined v k f) ∙ e)
    where
      on : (o : Option Kind) → value_kind f v ≡ o → is_some o ≡ true → is_some (value_kind g w) ≡ true
      on None d t = absurd (cc)
      on (Some kind) d t = ap is_some (h kind d)

  initial_same : (x : Operand) → knows_operand m2 (λ n. false) x ≡ knows_operand m (λ n. false) x
  initial_same (Operand.Global n) = address_same m n
  initial_same _ = refl

  types_same : (ts : List Ty) → list_all (knows_type m2) ts ≡ list_all (knows_type m) ts
  types_same [] = refl
  types_same (t ∷ ts) = λ k. type_same m t k && types_same ts k

  known_carried : CarriesSentence m (unknown_names m) (unknown_names m2)
  known_carried =
      record {
        on_type = λ k t e. ap not (type_same m t.ty) ∙ e;
        on_global = λ k g e. (λ j. not (type_same m g.ty j && initial_same g.init j)) ∙ e;
        on_declaration = λ k d e. ap not (types_same (option_to_list d.result ++ d.params)) ∙ e;
        in_function = λ k f there e.
            let g : Function = early_function f in
            let x : Follows m f g = follows k f there in
            let saved : ℕ → Type 0 = λ n. value_kind g n ≡ Some Kind.Saved in
            carried x.renaming saved f g (names_unknown m (is_value k f) (is_label k f)) (names_unknown m2 (is_value k g) (is_label k g))
            (unknown_carried m x.renaming saved (is_value k f) (is_value k g) (is_label k f) (is_label k g)
            (λ v. value_over k f g v (renamed_value x.renaming v) (x.kinds v))
            (λ v. value_over k f g v v (x.stays v))
            (λ v d. label_same v x.renaming saved k f g x.blocks ∙ d)
            (λ n number. value_defined n k g ∙ ap is_some number)
            f g (turned_function f).result (turned_function f).params)
            k x.blocks e;
      }

  pub early_breaks_none : BreaksNoLocalRule (early_module m)
  early_breaks_none =
      local_rules_carried m rules
      (sentence_carried m (second_definitions m) (second_definitions m2) definitions_carried rules.definitions)
      (sentence_carried m (unknown_names m) (unknown_names m2) known_carried rules.known)
      right
