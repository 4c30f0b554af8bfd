-- Values that stand at other names: each operand has the value that it had.
use Rattle.std.proofs.Common.{◌≡◌, ℕ, zero, suc, ◌+◌, ◌<◌, ⊎_elim, Bool, true, false, List, [], ◌∷◌, length, Option, Some, None, refl, sym, ap, ◌∙◌, subst, arith}
use Rattle.std.specs.Prelude.{◌==◌, if◌then◌else◌, map, option_map}
use Rattle.std.proofs.lemmas.Bool.{cases_eq}
use Rattle.std.proofs.lemmas.List.{length-set}
use Rattle.ir_laws.specs.run_memory.declared.pointer.Pointer.{Pointer}
use Rattle.ir_laws.specs.run_memory.declared.pointer.Value.{Value}
use Rattle.ir_laws.specs.ir_base.declared.name.Name.{Name}
use Rattle.ir_laws.specs.ir_base.declared.outcome.Word.{Word}
use Rattle.ir_laws.specs.ir_model.Names.{declaration_named, function_named, global_named}
use Rattle.ir_laws.specs.ir_model.Ty.{Ty}
use Rattle.ir_laws.specs.ir_model.declared.instr.Case.{Case}
use Rattle.ir_laws.specs.ir_model.declared.instr.Incoming.{Incoming}
use Rattle.ir_laws.specs.ir_model.declared.instr.Phi.{Phi}
use Rattle.ir_laws.specs.ir_model.declared.module.Function.{Function}
use Rattle.ir_laws.specs.ir_model.declared.module.Module.{Module}
use Rattle.ir_laws.specs.ir_model.declared.module.Param.{Param}
use Rattle.ir_laws.specs.ir_model.declared.operand.Arg.{Arg}
use Rattle.ir_laws.specs.ir_model.declared.operand.Operand.{Operand}
use Rattle.ir_laws.proofs.facts.Renumbering.{equal_same}
pub use Rattle.ir_laws.specs.paths.order_meaning.Beside.{AreMoved}
pub use Rattle.ir_laws.specs.facts.order_meaning.Beside.{IsHeld, IsHeldResult}
use Rattle.ir_laws.specs.facts.order_rules.Renumbered.{StaysApart, renumbered_arg, renumbered_case, renumbered_incoming, renumbered_operand, renumbered_param, renumbered_phi}
use Rattle.text_canonical.specs.order.Shape.{Each}
use Rattle.ir_laws.specs.run_step.Step.{incoming_from, is_word, phi_values, target_of, with_all, with_params}
use Rattle.ir_laws.specs.run_step.Values.{Env, address_from, arg_value, arg_values, index_of, indices_of, number_at, operand_value, value_in, with_result, with_value}

set_same : (env : Env) (r : ℕ) (x : Value) → r < length env → value_in (with_value env r x) r ≡ x
set_same [] r x lt = absurd (omega arith)
set_same (o ∷ env) zero x lt = refl
set_same (o ∷ env) (suc r) x lt = set_same env r x (omega arith)

set_other : (env : Env) (r v : ℕ) (x : Value) → (v ≡ r → ⊥) → value_in (with_value env r x) v ≡ value_in env v
set_other [] r v x ne = refl
set_other (o ∷ env) zero zero x ne = absurd (ne refl)
set_other (o ∷ env) zero (suc v) x ne = refl
set_other (o ∷ env) (suc r) zero x ne = refl
set_other (o ∷ env) (suc r) (suc v) x ne = set_other env r v x (λ e. ne (ap suc e))

module _ (to : ℕ → ℕ) (apart : StaysApart to) (k l : ℕ) where
  pub set_moved : (vs ws : Env) (r : ℕ) (x : Value) → AreMoved to k l vs ws → IsHeld to k l r → AreMoved to k l (with_value vs r x) (with_value ws (to r) x)
  set_moved vs ws r x s h =
      let here : r < length vs = omega (arith, h.0, s.wide) in
      let there : to r < length ws = omega (arith, h.1, s.other) in
      record {
        each = λ v. ⊎_elim
            (λ e. subst (λ (u : ℕ). value_in (with_value ws (to r) x) (to u) ≡ value_in (with_value vs r x) u) (sym e) (set_same ws (to r) x there ∙ sym (set_same vs r x here)))
            (λ ne. set_other ws (to r) (to v) x (λ e. ne (apart v r e)) ∙ s.each v ∙ sym (set_other vs r v x ne))
            (cases_eq v r);
        wide = length-set vs r (Some x) ∙ s.wide;
        other = length-set ws (to r) (Some x) ∙ s.other;
      }

  pub result_moved : (vs ws : Env) (r : Option ℕ) (x : Value) → AreMoved to k l vs ws → IsHeldResult to k l r → AreMoved to k l (with_result vs r x) (with_result ws (option_map to r) x)
  result_moved vs ws None x s h = s
  result_moved vs ws (Some r) x s h = set_moved vs ws r x s h

  pub params_moved : (vs ws : Env) (ps : List Param) (xs : List Value) → AreMoved to k l vs ws → Each (λ p. IsHeld to k l p.name) ps → AreMoved to k l (with_params vs ps xs) (with_params ws (map (renumbered_param to) ps) xs)
  params_moved vs ws [] xs s h = s
  params_moved vs ws (p ∷ ps) [] s h = s
  params_moved vs ws (p ∷ ps) (x ∷ xs) s h = params_moved (with_value vs p.name x) (with_value ws (to p.name) x) ps xs (set_moved vs ws p.name x s h.0) h.1

-- ---- operands

-- a module with other functions
abbrev pub with_functions : Module → List Function → Module
with_functions m fs = record { types = m.types; globals = m.globals; declarations = m.declarations; functions = fs }

-- functions are found by name where they were
pub record AreFoundAlike (m : Module) (fs : List Function) : Type 0 where
  pub named : (x : Name) → function_named (with_functions m fs) x ≡ function_named m x
  pub count : length fs ≡ length m.functions

module _ (m : Module) (fs : List Function) (alike : AreFoundAlike m fs) (to : ℕ → ℕ) where
  abbrev n : Module
  n = with_functions m fs

  address_same : (f g d : Option ℕ) → address_from n f g d ≡ address_from m f g d
  address_same (Some f) g d = refl
  address_same None (Some g) d = refl
  address_same None None (Some d) = ap (λ (c : ℕ). Value.Ptr (Pointer.Func (c + d))) alike.count
  address_same None None None = refl

  module _ (vs ws : Env) (each : (v : ℕ) → value_in ws (to v) ≡ value_in vs v) where
    pub operand_moved : (ty : Ty) (x : Operand) → operand_value n ws ty (renumbered_operand to x) ≡ operand_value m vs ty x
    operand_moved ty (Operand.Local v) = each v
    operand_moved ty (Operand.Global x) =
        ap (λ (f : Option ℕ). address_from n f (global_named m x) (declaration_named m x)) (alike.named x)
        ∙ address_same (function_named m x) (global_named m x) (declaration_named m x)
    operand_moved ty (Operand.Number z) = refl
    operand_moved ty Operand.True = refl
    operand_moved ty Operand.False = refl
    operand_moved ty Operand.Null = refl
    operand_moved ty Operand.None = refl
    operand_moved ty Operand.Poison = refl

    pub args_moved : (args : List Arg) → arg_values n ws (map (renumbered_arg to) args) ≡ arg_values m vs args
    args_moved [] = refl
    args_moved (a ∷ args) = let e = operand_moved a.ty a.value in let h = args_moved args in λ i. e i ∷ h i

    pub indices_moved : (args : List Arg) → indices_of n ws (map (renumbered_arg to) args) ≡ indices_of m vs args
    indices_moved [] = refl
    indices_moved (a ∷ args) = let e = operand_moved a.ty a.value in let h = indices_moved args in λ i. index_of (number_at a.ty (e i)) ∷ h i

  pub target_moved : (x : Word) (default : ℕ) (cases : List Case) → target_of n x (to default) (map (renumbered_case to) cases) ≡ to (target_of m x default cases)
  target_moved x default [] = refl
  target_moved x default (c ∷ cases) =
      ap (λ (v : Value). if is_word x v then to c.target else target_of n x (to default) (map (renumbered_case to) cases)) (operand_moved [] [] (λ v. refl) c.arg.ty c.arg.value)
      ∙ on (is_word x (arg_value m [] c.arg)) (target_moved x default cases)
    where
      on : (b : Bool) → target_of n x (to default) (map (renumbered_case to) cases) ≡ to (target_of m x default cases) → (if b then to c.target else target_of n x (to default) (map (renumbered_case to) cases)) ≡ to (if b then c.target else target_of m x default cases)
      on true h = refl
      on false h = h

  -- ---- phis

  module _ (apart : StaysApart to) (k l : ℕ) where
    incoming_moved : (xs : List Incoming) (label : ℕ) → incoming_from (map (renumbered_incoming to) xs) (to label) ≡ renumbered_operand to (incoming_from xs label)
    incoming_moved [] label = refl
    incoming_moved (x ∷ xs) label =
        ap (λ (b : Bool). if b then renumbered_operand to x.value else incoming_from (map (renumbered_incoming to) xs) (to label)) (equal_same to apart x.from label)
        ∙ on (x.from == label) (incoming_moved xs label)
      where
        on : (b : Bool) → incoming_from (map (renumbered_incoming to) xs) (to label) ≡ renumbered_operand to (incoming_from xs label) → (if b then renumbered_operand to x.value else incoming_from (map (renumbered_incoming to) xs) (to label)) ≡ renumbered_operand to (if b then x.value else incoming_from xs label)
        on true h = refl
        on false h = h

    abbrev given : ℕ × Value → ℕ × Value
    given p = (to p.0, p.1)

    phi_values_moved : (vs ws : Env) (label : ℕ) (phis : List Phi) → AreMoved to k l vs ws → phi_values n ws (to label) (map (renumbered_phi to) phis) ≡ map given (phi_values m vs label phis)
    phi_values_moved vs ws label [] s = refl
    phi_values_moved vs ws label (p ∷ phis) s =
        let e : operand_value n ws p.ty (incoming_from (map (renumbered_incoming to) p.incoming) (to label)) ≡ operand_value m vs p.ty (incoming_from p.incoming label) =
        ap (operand_value n ws p.ty) (incoming_moved p.incoming label) ∙ operand_moved vs ws s.each p.ty (incoming_from p.incoming label) in
        let h = phi_values_moved vs ws label phis s in
        λ i. (to p.result, e i) ∷ h i

    all_moved : (env : Env) (label : ℕ) (phis : List Phi) (vs ws : Env) → AreMoved to k l vs ws → Each (λ p. IsHeld to k l p.result) phis → AreMoved to k l (with_all vs (phi_values m env label phis)) (with_all ws (map given (phi_values m env label phis)))
    all_moved env label [] vs ws s h = s
    all_moved env label (p ∷ phis) vs ws s h =
        all_moved env label phis _ _ (set_moved to apart k l vs ws p.result (operand_value m env p.ty (incoming_from p.incoming label)) s h.0) h.1

    -- the values behind the phis of a block
    pub phis_moved : (vs ws : Env) (label : ℕ) (phis : List Phi) → AreMoved to k l vs ws → Each (λ p. IsHeld to k l p.result) phis → AreMoved to k l (with_all vs (phi_values m vs label phis)) (with_all ws (phi_values n ws (to label) (map (renumbered_phi to) phis)))
    phis_moved vs ws label phis s h =
        subst (λ (ps : List (ℕ × Value)). AreMoved to k l (with_all vs (phi_values m vs label phis)) (with_all ws ps)) (sym (phi_values_moved vs ws label phis s)) (all_moved vs label phis vs ws s h)
