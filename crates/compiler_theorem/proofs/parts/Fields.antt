-- Indices into structures are literals, by the rule on types of values.
use Rattle.std.proofs.Common.{◌≡◌, ℕ, zero, suc, Bool, true, false, List, [], ◌∷◌, Option, None, Some, refl, sym, ap, subst}
use Rattle.std.proofs.lemmas.Bool.{false≢true}
use Rattle.std.specs.List.{list_all}
use Rattle.std.specs.Prelude.{pos, ◌&&◌}
use Rattle.compiler_theorem.specs.parts.Framed.{AreSmallIndices, AreSmallInnerIndices, IsSmallIndex}
use Rattle.compiler.proofs.ir_laws.facts.Members.{at_each}
use Rattle.compiler.proofs.ir_laws.facts.Truth.{and_second, equal_numbers, holds}
use Rattle.compiler.proofs.ir_laws.paths.renamed.Uses.{stands_in}
use Rattle.compiler.specs.ir_model.Layout.{field_type, unnamed}
use Rattle.compiler.specs.ir_model.Ty.{Ty, Tys, array, field, int, named, none, ptr, structure, token}
use Rattle.compiler.specs.ir_model.declared.instr.Instr.{Instr}
use Rattle.compiler.specs.ir_model.declared.module.Function.{Function}
use Rattle.compiler.specs.ir_model.declared.module.Module.{Module}
use Rattle.compiler.specs.ir_model.declared.operand.Arg.{Arg}
use Rattle.compiler.specs.ir_model.declared.operand.Operand.{Operand}
use Rattle.pass_split_proof.specs.ready.Fields.{AreFieldIndices, AreInnerIndices, IsFieldIndex, number_in, type_inside}
use Rattle.compiler.proofs.rule_laws.rules.counted.PartFacts.{block_passes}
use Rattle.compiler.proofs.rule_laws.rules.sources.Places.{instr_there, point}
use Rattle.compiler.specs.rule_laws.rules.function_rules.Kept.{KeepsFunctionRules}
use Rattle.compiler.specs.rule_types.Wants.{is_int}
use Rattle.compiler.specs.rule_values.Fits.{fits, fits_integer, is_tokenless}
use Rattle.compiler.specs.rule_values.Geps.{field_at, field_number, field_of, indices_fit, leads_in, only_if, part_of}
use Rattle.compiler.specs.rule_values.Instrs.{fits_instr}
use Rattle.compiler.specs.rule_values.Kinds.{value_kind}
use Rattle.compiler.specs.rule_values.Values.{breaks_values}
use Rattle.compiler.specs.run_step.Step.{AtInstr, fetch}

-- the field of a number
pub same_field : (ts : Tys) (n : ℕ) (t : Ty) → field_at ts n ≡ Some t → field_type ts n ≡ t
same_field none n t e = absurd (cc)
same_field (field u ts) zero t e = cc
same_field (field u ts) (suc n) t e = same_field ts n t e

pub int_is : (w : ℕ) (t : Ty) → is_int w t ≡ true → t ≡ int w
int_is w (int v) e = ap int (equal_numbers v w e)
int_is w ptr e = absurd (false≢true e)
int_is w token e = absurd (false≢true e)
int_is w (array n t) e = absurd (false≢true e)
int_is w (structure ts) e = absurd (false≢true e)
int_is w (named n) e = absurd (false≢true e)

module _ (m : Module) where
  none_leads : (rest : List Arg) → leads_in m None rest ≡ true → ⊥
  none_leads [] e = false≢true e
  none_leads (a ∷ rest) e = none_leads rest e

  abbrev Again : List Arg → Type 0
  Again rest = (t : Ty) → leads_in m (Some t) rest ≡ true → AreSmallIndices m t rest → AreFieldIndices m t rest

  module _ (rest : List Arg) (again : Again rest) where
    by_field : (ts : Tys) (n : ℕ) (o : Option Ty) → field_at ts n ≡ o → leads_in m o rest ≡ true
        → AreSmallIndices m (field_type ts n) rest → AreFieldIndices m (field_type ts n) rest
    by_field ts n None d e s = absurd (none_leads rest e)
    by_field ts n (Some t) d e s =
        again (field_type ts n) (subst (λ (u : Ty). leads_in m (Some u) rest ≡ true) (sym (same_field ts n t d)) e) s

    by_value : (ts : Tys) (ty : Ty) (x : Operand) → ty ≡ int 32 → leads_in m (field_of ts (field_number x)) rest ≡ true
        → IsSmallIndex (structure ts) (record { ty = ty; value = x })
        → AreSmallIndices m (field_type ts (number_in x)) rest
        → IsFieldIndex (structure ts) (record { ty = ty; value = x })
        × AreFieldIndices m (field_type ts (number_in x)) rest
    by_value ts ty (Operand.Number (pos n)) is e small s =
        ((n, is, refl, small n refl), by_field ts n (field_at ts n) refl e s)
    by_value ts ty _ is e small s = absurd (none_leads rest e)

    by_type : (ts : Tys) (a : Arg) (b : Bool) → is_int 32 a.ty ≡ b
        → leads_in m (only_if b (field_of ts (field_number a.value))) rest ≡ true → IsSmallIndex (structure ts) a
        → AreSmallIndices m (field_type ts (number_in a.value)) rest
        → IsFieldIndex (structure ts) a × AreFieldIndices m (field_type ts (number_in a.value)) rest
    by_type ts a false d e small s = absurd (none_leads rest e)
    by_type ts a true d e small s = by_value ts a.ty a.value (int_is 32 a.ty d) e small s

    one_index : (u : Ty) (a : Arg) → leads_in m (part_of u a) rest ≡ true → IsSmallIndex u a
        → AreSmallIndices m (type_inside u a) rest → IsFieldIndex u a × AreFieldIndices m (type_inside u a) rest
    one_index (array n t) a e small s = (tt, again t e s)
    one_index (structure ts) a e small s = by_type ts a (is_int 32 a.ty) refl e small s
    one_index _ a e small s = absurd (none_leads rest e)

  all_indices : (args : List Arg) → Again args
  all_indices [] t e s = tt
  all_indices (a ∷ rest) t e s = one_index rest (all_indices rest) (unnamed m t) a e s.0 s.1

  inner_indices : (t : Ty) (args : List Arg) → indices_fit m t args ≡ true → AreSmallInnerIndices m t args
      → AreInnerIndices m t args
  inner_indices t [] e s = tt
  inner_indices t (a ∷ rest) e s = all_indices rest t e s

pub fields_found : (m : Module) (k : ℕ) (f : Function) → KeepsFunctionRules m k f → (block at name : ℕ)
    (inbounds : Bool) (ty : Ty) (base : Operand) (indices : List Arg)
    → fetch f block at ≡ AtInstr (Instr.Gep name inbounds ty base indices) → AreSmallInnerIndices m ty indices
    → AreInnerIndices m ty indices
fields_found m k f rules block at name inbounds ty base indices e small =
    let i : Instr = Instr.Gep name inbounds ty base indices in
    let x = stands_in f (point block at) i (instr_there f block at i e) in
    let v = at_each _ x.block.instrs at i (block_passes (breaks_values m (value_kind f) f.result) k f rules.local.values
    block x.block x.got).instrs x.stands in
    let fit : fits_instr m (value_kind f) i ≡ true = holds (fits_instr m (value_kind f) i) v.2 in
    inner_indices m ty indices
    (and_second (list_all (fits_integer (value_kind f)) indices) (indices_fit m ty indices)
    (and_second (is_tokenless ty && fits (value_kind f) ptr base)
    (list_all (fits_integer (value_kind f)) indices && indices_fit m ty indices) fit)) small
