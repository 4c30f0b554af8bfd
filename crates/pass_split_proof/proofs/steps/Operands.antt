-- What operands and phis give in a part stands for what they give in the framed run.
use Rattle.std.proofs.Common.{◌≡◌, ℕ, ◌^◌, ◌<◌, ◌≤◌, ⊎_elim, List, [], ◌∷◌, length, Some, refl, sym, ap, ◌∙◌, subst, arith}
use Rattle.std.specs.Prelude.{ℤ}
use Rattle.pass_proofs.specs.ir_base.declared.name.Name.{Name}
use Rattle.pass_proofs.specs.ir_model.Ty.{Ty, array, int, named, ptr, structure, token}
use Rattle.pass_proofs.specs.ir_model.declared.instr.Phi.{Phi}
use Rattle.pass_proofs.specs.ir_model.declared.module.Function.{Function}
use Rattle.pass_proofs.specs.ir_model.declared.module.Module.{Module}
use Rattle.pass_proofs.specs.ir_model.declared.operand.Operand.{Operand}
use Rattle.pass_split_proof.proofs.states.OwnHomes.{own_home, own_pointer}
use Rattle.pass_split_proof.proofs.states.Values.{values_set}
use Rattle.pass_split_proof.specs.states.Values.{AreValuesOf}
use Rattle.pass_split_proof.specs.steps.Operands.{IsReadable, IsSameAddress}
use Rattle.pass_proofs.proofs.run_laws.transfer.Sets.{set_elsewhere, set_length, sets_name}
use Rattle.pass_proofs.specs.run_laws.changed.Changed.{Each}
use Rattle.pass_proofs.specs.run_laws.embedded.Related.{IsOperand}
use Rattle.pass_proofs.specs.run_laws.memory.Pointers.{Home, IsValue}
use Rattle.pass_proofs.specs.run_laws.memory.Standing.{own_homes}
use Rattle.pass_proofs.specs.run_memory.Pointers.{offset_of}
use Rattle.pass_proofs.specs.run_memory.declared.pointer.Value.{Value}
use Rattle.pass_proofs.specs.run_step.Step.{Context, incoming_from, phi_values, with_all}
use Rattle.pass_proofs.specs.run_step.Values.{Env, address_of, literal, operand_value, pointer_to, value_in, with_value}

-- ---- one operand

literal_itself : (homes : List Home) (ty : Ty) (z : ℤ) → IsValue homes (literal ty z) (literal ty z)
literal_itself homes (int w) z = refl
literal_itself homes ptr z = tt
literal_itself homes token z = tt
literal_itself homes (array n t) z = tt
literal_itself homes (structure ts) z = tt
literal_itself homes (named n) z = tt

-- the address of a block that there is stands for itself
pub block_itself : (k b : ℕ) → b < k → IsValue (own_homes 0 k) (pointer_to b) (pointer_to b)
block_itself k b lt
    = (ap (λ (q : Home). q.is_seen) (own_home k b lt), ap Value.Ptr (sym (own_pointer k b (offset_of 0) lt small)))
  where
    small : 0 < 2 ^ 64
    small = omega arith

module _ (m n : Module) (f : Function) (k : ℕ) (env other : Env) (globals : length m.globals ≤ k)
    (values : AreValuesOf f (own_homes 0 k) env other) where
  abbrev homes : List Home
  homes = own_homes 0 k

  pub global_stands : (name : Name) → IsSameAddress m n name → IsValue homes (address_of m name) (address_of n name)
  global_stands name h = subst (IsValue homes (address_of m name)) (sym h.same) (⊎_elim
      (λ at. subst (λ (v : Value). IsValue homes v v) (sym at.1.0) (block_itself k at.0 (within at.0 at.1.1)))
      (λ none. subst (λ (v : Value). IsValue homes v v) (sym none) tt)
      h.global)
    where
      within : (b : ℕ) → b < length m.globals → b < k
      within b lt = omega arith

  pub operand_stands : (x : Operand) → IsReadable m n f x → (ty : Ty)
      → IsValue homes (operand_value m env ty x) (operand_value n other ty x)
  operand_stands (Operand.Local v) h ty = values.each v h
  operand_stands (Operand.Global name) h ty = global_stands name h
  operand_stands (Operand.Number z) h ty = literal_itself homes ty z
  operand_stands Operand.True h ty = refl
  operand_stands Operand.False h ty = refl
  operand_stands Operand.Null h ty = (tt, refl)
  operand_stands Operand.None h ty = tt
  operand_stands Operand.Poison h ty = tt

  pub same_nowhere : (x : Operand) → IsReadable m n f x → (ty : Ty) → operand_value n [] ty x ≡ operand_value m [] ty x
  same_nowhere (Operand.Local v) h ty = refl
  same_nowhere (Operand.Global name) h ty = h.same
  same_nowhere (Operand.Number z) h ty = refl
  same_nowhere Operand.True h ty = refl
  same_nowhere Operand.False h ty = refl
  same_nowhere Operand.Null h ty = refl
  same_nowhere Operand.None h ty = refl
  same_nowhere Operand.Poison h ty = refl

  module _ (c d : Context) (code : c.code ≡ m) (other_code : d.code ≡ n) where
    operand_is : (x : Operand) → IsReadable m n f x → IsOperand homes c d env other x
    operand_is x h = record {
      here = λ ty. subst (λ (p : Module × Module). IsValue homes (operand_value p.0 env ty x)
          (operand_value p.1 other ty x)) (λ i. (sym code i, sym other_code i)) (operand_stands x h ty);
      nowhere = λ ty. subst (λ (p : Module × Module). operand_value p.1 [] ty x ≡ operand_value p.0 [] ty x)
          (λ i. (sym code i, sym other_code i)) (same_nowhere x h ty);
    }

    pub operands_are : (xs : List Operand) → Each (IsReadable m n f) xs → Each (IsOperand homes c d env other) xs
    operands_are [] h = tt
    operands_are (x ∷ xs) h = (operand_is x h.0, operands_are xs h.1)

-- ---- phis

module _ (m n : Module) (f : Function) (k label : ℕ) (globals : length m.globals ≤ k) where
  -- all are taken from the values before any is set
  phis_from : (env other start other_start : Env) (phis : List Phi) → AreValuesOf f (own_homes 0 k) env other
      → AreValuesOf f (own_homes 0 k) start other_start
      → Each (λ (p : Phi). IsReadable m n f (incoming_from p.incoming label)) phis
      → AreValuesOf f (own_homes 0 k) (with_all start (phi_values m env label phis))
      (with_all other_start (phi_values n other label phis))
  phis_from env other start other_start [] values now h = now
  phis_from env other start other_start (p ∷ phis) values now h =
      let v = operand_value m env p.ty (incoming_from p.incoming label) in
      let u = operand_value n other p.ty (incoming_from p.incoming label) in
      phis_from env other (with_value start p.result v) (with_value other_start p.result u) phis values
      (values_set f (own_homes 0 k) (Some p.result) start other_start (with_value start p.result v)
      (with_value other_start p.result u) now
      (sets_name (own_homes 0 k) start other_start now.room p.result v u
      (operand_stands m n f k env other globals values (incoming_from p.incoming label) h.0 p.ty)))
      h.1

  pub phis_stand : (env other : Env) (phis : List Phi) → AreValuesOf f (own_homes 0 k) env other
      → Each (λ (p : Phi). IsReadable m n f (incoming_from p.incoming label)) phis
      → AreValuesOf f (own_homes 0 k) (with_all env (phi_values m env label phis))
      (with_all other (phi_values n other label phis))
  phis_stand env other phis values h = phis_from env other env other phis values values h

-- ---- names that phis don't set

pub all_length : (env : Env) (ps : List (ℕ × Value)) → length (with_all env ps) ≡ length env
all_length env [] = refl
all_length env (p ∷ ps) = all_length (with_value env p.0 p.1) ps ∙ set_length env p.0 p.1

pub all_elsewhere : (env : Env) (ps : List (ℕ × Value)) (at : ℕ) → Each (λ (p : ℕ × Value). p.0 ≡ at → ⊥) ps
    → value_in (with_all env ps) at ≡ value_in env at
all_elsewhere env [] at h = refl
all_elsewhere env (p ∷ ps) at h = all_elsewhere (with_value env p.0 p.1) ps at h.1 ∙ set_elsewhere env p.0 at p.1 h.0
