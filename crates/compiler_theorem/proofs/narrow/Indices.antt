-- Indices into structures of few fields are small.
use Rattle.std.proofs.Common.{◌≡◌, ◌<◌, ◌≤◌, ◌^◌, ℕ, zero, suc, Bool, true, false, List, [], ◌∷◌, Option, None, Some, refl, sym, ap, ◌∙◌, subst, arith}
use Rattle.std.proofs.lemmas.Bool.{false≢true}
use Rattle.std.specs.List.{list_all}
use Rattle.std.specs.Prelude.{pos, slice_get, ◌&&◌, unwrap_or, if◌then◌else◌}
use Rattle.compiler_theorem.proofs.parts.Fields.{int_is, same_field}
use Rattle.compiler_theorem.specs.narrow.Narrow.{AreNarrow, IsNarrow, IsNarrowBlock, IsNarrowFunction, IsNarrowInstr, IsNarrowModule, field_count}
use Rattle.compiler_theorem.specs.parts.Framed.{AreSmallIndices, AreSmallInnerIndices, IsSmallIndex}
use Rattle.compiler.specs.ir_base.declared.name.Name.{Name}
use Rattle.compiler.proofs.ir_laws.facts.Members.{at_each}
use Rattle.compiler.proofs.ir_laws.facts.Truth.{and_second, holds}
use Rattle.compiler.proofs.ir_laws.paths.renamed.Uses.{stands_in}
use Rattle.compiler.specs.ir_model.Layout.{field_type, type_named, type_or, unnamed}
use Rattle.compiler.specs.ir_model.Names.{same_name}
use Rattle.compiler.specs.ir_model.Ty.{Ty, Tys, array, field, int, named, none, ptr, structure, token}
use Rattle.compiler.specs.ir_model.declared.instr.Instr.{Instr}
use Rattle.compiler.specs.ir_model.declared.module.Function.{Function}
use Rattle.compiler.specs.ir_model.declared.module.Module.{Module}
use Rattle.compiler.specs.ir_model.declared.module.TypeItem.{TypeItem}
use Rattle.compiler.specs.ir_model.declared.operand.Arg.{Arg}
use Rattle.compiler.specs.ir_model.declared.operand.Operand.{Operand}
use Rattle.pass_frames_meaning.specs.pass_renewed_proof.SlotRules.{AreSteady, AreSteadyInside, IsNoLocal, IsSteady}
use Rattle.pass_split_proof.proofs.ready.Distances.{field_index}
use Rattle.pass_split_proof.specs.ready.Fields.{AreFieldIndices, AreInnerIndices, IsFieldIndex, number_in, type_inside}
use Rattle.compiler.proofs.rule_laws.rules.counted.PartFacts.{block_passes}
use Rattle.compiler.proofs.rule_laws.rules.sources.Places.{instr_there, point}
use Rattle.compiler.specs.rule_laws.rules.function_rules.Kept.{KeepsFunctionRules}
use Rattle.compiler.specs.rule_types.Wants.{is_int}
use Rattle.compiler.specs.rule_values.Fits.{fits, fits_integer, is_tokenless}
use Rattle.compiler.specs.rule_values.Geps.{field_at, field_number, field_of, indices_fit, leads_in, only_if, part_of}
use Rattle.compiler.specs.rule_values.Instrs.{fits_instr}
use Rattle.compiler.specs.rule_values.Kinds.{value_kind}
use Rattle.compiler.specs.rule_values.Values.{breaks_values}
use Rattle.compiler.specs.run_laws.changed.Changed.{Each}
use Rattle.compiler.specs.run_step.Step.{AtInstr, fetch}
use Rattle.compiler.specs.run_step.Values.{arg_value, index_of, number_at, part_at}

-- ---- fields

field_low : (ts : Tys) (n : ℕ) (t : Ty) → field_at ts n ≡ Some t → n < field_count ts
field_low none n t e = absurd (cc)
field_low (field u ts) zero t e = omega arith
field_low (field u ts) (suc n) t e = let less : n < field_count ts = field_low ts n t e in omega arith

field_narrow : (bound : ℕ) (ts : Tys) (n : ℕ) → AreNarrow bound ts → IsNarrow bound (field_type ts n)
field_narrow bound none n h = tt
field_narrow bound (field t ts) zero h = h.0
field_narrow bound (field t ts) (suc n) h = field_narrow bound ts n h.1

named_narrow : (bound : ℕ) (types : List TypeItem) (n : Name) → Each (λ (t : TypeItem). IsNarrow bound t.ty) types
    → IsNarrow bound (type_or (named n) (type_named types n))
named_narrow bound [] n h = tt
named_narrow bound (t ∷ types) n h = on (same_name t.name n) (named_narrow bound types n h.1)
  where
    on : (b : Bool) → IsNarrow bound (type_or (named n) (type_named types n))
        → IsNarrow bound (type_or (named n) (if b then Some t.ty else type_named types n))
    on true rest = h.0
    on false rest = rest

module _ (bound : ℕ) (low : bound < 2 ^ 31) (m : Module) (few : IsNarrowModule bound m) where
  unnamed_narrow : (t : Ty) → IsNarrow bound t → IsNarrow bound (unnamed m t)
  unnamed_narrow (named n) h = named_narrow bound m.types n few.types
  unnamed_narrow (int w) h = h
  unnamed_narrow ptr h = h
  unnamed_narrow token h = h
  unnamed_narrow (array n t) h = h
  unnamed_narrow (structure ts) h = h

  none_leads : (rest : List Arg) → leads_in m None rest ≡ true → ⊥
  none_leads [] e = false≢true e
  none_leads (a ∷ rest) e = none_leads rest e

  abbrev Again : List Arg → Type 0
  Again rest = (t : Ty) → leads_in m (Some t) rest ≡ true → IsNarrow bound t → AreFieldIndices m t rest

  module _ (rest : List Arg) (again : Again rest) where
    by_field : (ts : Tys) (n : ℕ) (o : Option Ty) → field_at ts n ≡ o → leads_in m o rest ≡ true → AreNarrow bound ts
        → (n < field_count ts) × AreFieldIndices m (field_type ts n) rest
    by_field ts n None d e h = absurd (none_leads rest e)
    by_field ts n (Some t) d e h = (
      field_low ts n t d,
      again (field_type ts n) (subst (λ (u : Ty). leads_in m (Some u) rest ≡ true) (sym (same_field ts n t d)) e)
          (field_narrow bound ts n h),
    )

    by_value : (ts : Tys) (ty : Ty) (x : Operand) → ty ≡ int 32 → leads_in m (field_of ts (field_number x)) rest ≡ true
        → field_count ts ≤ bound → AreNarrow bound ts
        → IsFieldIndex (structure ts) (record { ty = ty; value = x })
        × AreFieldIndices m (field_type ts (number_in x)) rest
    by_value ts ty (Operand.Number (pos n)) is e count h =
        let r = by_field ts n (field_at ts n) refl e h in
        let less : n < field_count ts = r.0 in
        let small : n < 2 ^ 31 = omega (arith, low, count, less) in
        ((n, is, refl, small), r.1)
    by_value ts ty _ is e count h = absurd (none_leads rest e)

    by_type : (ts : Tys) (a : Arg) (b : Bool) → is_int 32 a.ty ≡ b
        → leads_in m (only_if b (field_of ts (field_number a.value))) rest ≡ true → field_count ts ≤ bound
        → AreNarrow bound ts
        → IsFieldIndex (structure ts) a × AreFieldIndices m (field_type ts (number_in a.value)) rest
    by_type ts a false d e count h = absurd (none_leads rest e)
    by_type ts a true d e count h = by_value ts a.ty a.value (int_is 32 a.ty d) e count h

    one_index : (u : Ty) (a : Arg) → leads_in m (part_of u a) rest ≡ true → IsNarrow bound u
        → IsFieldIndex u a × AreFieldIndices m (type_inside u a) rest
    one_index (array n t) a e h = (tt, again t e h)
    one_index (structure ts) a e h = by_type ts a (is_int 32 a.ty) refl e h.0 h.1
    one_index _ a e h = absurd (none_leads rest e)

  all_indices : (args : List Arg) → Again args
  all_indices [] t e h = tt
  all_indices (a ∷ rest) t e h = one_index rest (all_indices rest) (unnamed m t) a e (unnamed_narrow t h)

  inner_indices : (t : Ty) (args : List Arg) → indices_fit m t args ≡ true → IsNarrow bound t → AreInnerIndices m t args
  inner_indices t [] e h = tt
  inner_indices t (a ∷ rest) e h = all_indices rest t e h

  -- of each getelementptr of a function that keeps the rules
  pub fields_small : (k : ℕ) (f : Function) → KeepsFunctionRules m k f → slice_get m.functions k ≡ Some f
      → (block at name : ℕ) (inbounds : Bool) (ty : Ty) (base : Operand) (indices : List Arg)
      → fetch f block at ≡ AtInstr (Instr.Gep name inbounds ty base indices) → AreInnerIndices m ty indices
  fields_small k f rules there block at name inbounds ty base indices e =
      let i : Instr = Instr.Gep name inbounds ty base indices in
      let x = stands_in f (point block at) i (instr_there f block at i e) in
      let v = at_each _ x.block.instrs at i (block_passes (breaks_values m (value_kind f) f.result) k f rules.local.values
      block x.block x.got).instrs x.stands in
      let fit : fits_instr m (value_kind f) i ≡ true = holds (fits_instr m (value_kind f) i) v.2 in
      let own = at_each (IsNarrowInstr bound) x.block.instrs at i
      (at_each (IsNarrowBlock bound) f.blocks block x.block (at_each (IsNarrowFunction bound) m.functions k f few.functions there)
      x.got) x.stands in
      inner_indices ty indices
      (and_second (list_all (fits_integer (value_kind f)) indices) (indices_fit m ty indices)
      (and_second (is_tokenless ty && fits (value_kind f) ptr base)
      (list_all (fits_integer (value_kind f)) indices && indices_fit m ty indices) fit)) own

-- ---- small indices, and steady ones

module _ (m : Module) where
  small_inside : (t : Ty) (args : List Arg) → AreFieldIndices m t args → AreSmallIndices m t args
  small_inside t [] h = tt
  small_inside t (a ∷ args) h = (one (unnamed m t) h.0, small_inside (type_inside (unnamed m t) a) args h.1)
    where
      one : (u : Ty) → IsFieldIndex u a → IsSmallIndex u a
      one (structure ts) x = λ n e. let same : Operand.Number (pos x.0) ≡ Operand.Number (pos n) = sym x.2 ∙ e in
          subst (λ (k : ℕ). k < 2 ^ 31) (ap number_in same) x.3
      one (array n u) x = tt
      one (int w) x = tt
      one ptr x = tt
      one token x = tt
      one (named n) x = tt

  pub small_indices : (t : Ty) (args : List Arg) → AreInnerIndices m t args → AreSmallInnerIndices m t args
  small_indices t [] h = tt
  small_indices t (a ∷ args) h = small_inside t args h

  abbrev number_of : Arg → Option ℕ
  number_of a = index_of (number_at a.ty (arg_value m [] a))

  -- a literal is no local, and leads to its field
  steady_one : (u : Ty) (a : Arg) → IsFieldIndex u a
      → IsSteady u a.value × ((part_at m u (number_of a)).1 ≡ type_inside u a)
  steady_one (structure ts) a x = (
    subst IsNoLocal (sym x.2) tt,
    ap (λ (i : Option ℕ). field_type ts (unwrap_or i 0)) (field_index m [] a x.0 x.1 x.2 x.3)
        ∙ ap (field_type ts) (sym (ap number_in x.2)),
  )
  steady_one (array n u) a x = (tt, refl)
  steady_one (int w) a x = (tt, refl)
  steady_one ptr a x = (tt, refl)
  steady_one token a x = (tt, refl)
  steady_one (named n) a x = (tt, refl)

  steady_inside : (t : Ty) (args : List Arg) → AreFieldIndices m t args → AreSteadyInside m t args
  steady_inside t [] h = tt
  steady_inside t (a ∷ args) h =
      let one = steady_one (unnamed m t) a h.0 in (
        one.0,
        subst (λ (u : Ty). AreSteadyInside m u args) (sym one.1)
            (steady_inside (type_inside (unnamed m t) a) args h.1),
      )

  pub steady_indices : (t : Ty) (args : List Arg) → AreInnerIndices m t args → AreSteady m t args
  steady_indices t [] h = tt
  steady_indices t (a ∷ args) h = steady_inside t args h
