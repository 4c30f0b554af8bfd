-- Rule K3 goes by the calls by which a function is a coroutine, and by how often results of suspends are used.
use Rattle.std.proofs.Common.{◌≡◌, inl, inr, ℕ, ◌≤◌, Bool, true, false, List, [], ◌∷◌, length, refl, sym, ap, ◌∙◌, subst, arith}
use Rattle.std.specs.Prelude.{Some, None, Option, nat_le, not, slice_get, if◌then◌else◌, ◌&&◌, ◌||◌}
use Rattle.rule_shape.specs.Places.{is_the}
use Rattle.rule_shape.specs.Switches.{are_both, breaks_switch, end_label, is_last, is_switch_on, is_switched, is_switched_in, wrong_switch}
use Rattle.rule_shape.specs.Uses.{uses_of}
use Rattle.rule_laws.proofs.rules.renamed.Switches.{none_part}
use Rattle.rule_laws.proofs.rules.path_rules.Holding.{HoldsOf, of_parts, part_none, to_parts}
use Rattle.ir_laws.specs.flow_solver.Paths.{IsListed}
use Rattle.ir_parts.specs.Parts.{OfInstr, first_part, instr_place, parts_of}
use Rattle.ir_laws.specs.ir_model.Names.{is_local, same_intrinsic}
use Rattle.ir_laws.specs.ir_model.declared.instr.Instr.{Instr}
use Rattle.ir_laws.specs.ir_model.declared.instr.Terminator.{Terminator}
use Rattle.ir_laws.specs.ir_model.declared.module.Block.{Block}
use Rattle.ir_laws.specs.ir_model.declared.module.Function.{Function}
use Rattle.ir_laws.specs.ir_model.declared.operand.Callee.{Callee}
use Rattle.ir_laws.specs.ir_model.declared.operand.Intrinsic.{Intrinsic}
use Rattle.ir_laws.specs.run_laws.changed.Changed.{Each}
use Rattle.rule_laws.proofs.rules.woven_shape.Found.{end_found, label_of_first, not_suspend}
use Rattle.rule_laws.proofs.rules.woven_shape.Gathered.{gathered, of_rows, spread, to_row}
use Rattle.ir_laws.proofs.facts.Truth.{holds as not_true}
use Rattle.rule_laws.specs.rules.woven_shape.Calls.{ShapingCall, call_at, default_on, is_shaping, is_suspend_call, shaping_call, shaping_calls, switched_to}

-- ---- a suspend is switched as is asked

-- the default is the end's block
abbrev pub leads_to : Option ℕ → Option ℕ → Bool
leads_to end None = false
leads_to end (Some label) = is_the end label

-- a value that is used once is switched on with that default
abbrev pub is_fine : Option ℕ → (ℕ → ℕ) → Option ℕ → Option ℕ → Bool
is_fine end uses None default = false
is_fine end uses (Some v) default = leads_to end default && nat_le (uses v) 1

abbrev pub IsFine : Option ℕ → (ℕ → ℕ) → ShapingCall → Type 0
IsFine end uses c = (not (is_suspend_call c) || is_fine end uses c.result c.default) ≡ true

-- ---- that is what the rule asks

switch_same : (v : ℕ) (end : Option ℕ) (u : Bool) (t : Terminator) → (is_switch_on v end t && u) ≡ (leads_to end (default_on v t) && u)
switch_same v end u (Terminator.Switch arg default cases) = on (is_local v arg.value) (are_both cases)
  where
    on : (a b : Bool) → ((a && (b && is_the end default)) && u) ≡ (leads_to end (if a && b then Some default else None) && u)
    on true true = refl
    on true false = refl
    on false b = refl
switch_same v end u (Terminator.Jump label) = refl
switch_same v end u (Terminator.Branch x a b) = refl
switch_same v end u (Terminator.Ret value) = refl
switch_same v end u Terminator.Unreachable = refl

last_same : (a : Bool) (v : ℕ) (end : Option ℕ) (u : Bool) (t : Terminator) → (a && (is_switch_on v end t && u)) ≡ (leads_to end (if a then default_on v t else None) && u)
last_same true v end u t = switch_same v end u t
last_same false v end u t = refl

module _ (func : ℕ) (f : Function) where
  switched_same : (k at : ℕ) (b : Block) → slice_get f.blocks k ≡ Some b → (r : Option ℕ) → is_switched f (instr_place func k at) r ≡ is_fine (end_label f) (uses_of f) r (switched_to b at r)
  switched_same k at b e None = refl
  switched_same k at b e (Some v) =
      ap (is_switched_in f v (instr_place func k at)) e
      ∙ last_same (is_last b (Some at)) v (end_label f) (nat_le (uses_of f v) 1) b.term

  abbrev Unbroken : ℕ → ℕ → Instr → Type 0
  Unbroken k at i = breaks_switch f (instr_place func k at) (OfInstr i) ≡ false

  module _ (k : ℕ) (b : Block) (there : slice_get f.blocks k ≡ Some b) where
    fine_of : (at : ℕ) (t : Bool) (r : Option ℕ) → (t && not (is_switched f (instr_place func k at) r)) ≡ false → (not t || is_fine (end_label f) (uses_of f) r (if t then switched_to b at r else None)) ≡ true
    fine_of at true r h = sym (switched_same k at b there r) ∙ not_true (is_switched f (instr_place func k at) r) h
    fine_of at false r h = refl

    of_fine : (at : ℕ) (t : Bool) (r : Option ℕ) → (not t || is_fine (end_label f) (uses_of f) r (if t then switched_to b at r else None)) ≡ true → (t && not (is_switched f (instr_place func k at) r)) ≡ false
    of_fine at true r h = ap not (switched_same k at b there r ∙ h)
    of_fine at false r h = refl

    call_fine : (at : ℕ) (i : Instr) → Unbroken k at i → Each (IsFine (end_label f) (uses_of f)) (call_at b at i)
    call_fine at (Instr.Call result must_tail ty (Callee.Intrinsic x) args) h = on (is_shaping x)
      where
        on : (t : Bool) → Each (IsFine (end_label f) (uses_of f)) (if t then shaping_call b at x result args ∷ [] else [])
        on true = (fine_of at (same_intrinsic Intrinsic.CoroSuspend x) result h, tt)
        on false = tt
    call_fine at _ h = tt

    fine_call : (at : ℕ) (i : Instr) → Each (IsFine (end_label f) (uses_of f)) (call_at b at i) → Unbroken k at i
    fine_call at (Instr.Call result must_tail ty (Callee.Intrinsic x) args) h = on (is_shaping x) refl h
      where
        on : (t : Bool) → is_shaping x ≡ t → Each (IsFine (end_label f) (uses_of f)) (if t then shaping_call b at x result args ∷ [] else []) → Unbroken k at (Instr.Call result must_tail ty (Callee.Intrinsic x) args)
        on true e d = of_fine at (same_intrinsic Intrinsic.CoroSuspend x) result d.0
        on false e d = ap (λ (t : Bool). t && not (is_switched f (instr_place func k at) result)) (not_suspend x e)
    fine_call at _ h = refl

  pub all_fine : f.coroutine ≡ true → wrong_switch func f ≡ None → Each (IsFine (end_label f) (uses_of f)) (shaping_calls f)
  all_fine coroutine right =
      of_rows (IsFine (end_label f) (uses_of f)) f.blocks
      (λ k b e. gathered (IsFine (end_label f) (uses_of f)) b (Unbroken k) (call_fine k b e) (length b.phis) b.instrs (parts.blocks k b e).instrs)
    where
      parts : HoldsOf (λ x. breaks_switch f x.0 x.1 ≡ false) func f
      parts = of_parts (λ x. breaks_switch f x.0 x.1 ≡ false) func f (none_part (breaks_switch f) (parts_of func f) (subst (λ (b : Bool). (if b then first_part (breaks_switch f) (parts_of func f) else None) ≡ None) coroutine right))

  pub fine_all : f.coroutine ≡ true → Each (IsFine (end_label f) (uses_of f)) (shaping_calls f) → wrong_switch func f ≡ None
  fine_all coroutine h =
      subst (λ (b : Bool). (if b then first_part (breaks_switch f) (parts_of func f) else None) ≡ None) (sym coroutine)
      (part_none (breaks_switch f) (parts_of func f) (to_parts (λ x. breaks_switch f x.0 x.1 ≡ false) func f (record {
        signature = refl;
        blocks = λ k b e. record {
          head = refl;
          phis = λ j p d. refl;
          instrs = spread (IsFine (end_label f) (uses_of f)) b (Unbroken k) (fine_call k b e) (length b.phis) b.instrs (to_row (IsFine (end_label f) (uses_of f)) f.blocks h k b e);
          ending = refl;
        };
      })))

-- ---- a function with the calls of another, which uses results of suspends no more often

no_more : (a b : ℕ) → b ≤ a → nat_le a 1 ≡ true → nat_le b 1 ≡ true
no_more a b le e = grind arith

module _ (end : Option ℕ) (uses now : ℕ → ℕ) where
  fewer : (t : Bool) (r default : Option ℕ) → ((v : ℕ) → t ≡ true → r ≡ Some v → now v ≤ uses v) → (not t || is_fine end uses r default) ≡ true → (not t || is_fine end now r default) ≡ true
  fewer false r default le e = refl
  fewer true None default le e = e
  fewer true (Some v) default le e = on (leads_to end default) e
    where
      on : (a : Bool) → (a && nat_le (uses v) 1) ≡ true → (a && nat_le (now v) 1) ≡ true
      on true h = no_more (uses v) (now v) (le v refl refl) h
      on false h = h

  all_fewer : (cs : List ShapingCall) → ((c : ShapingCall) (v : ℕ) → IsListed c cs → is_suspend_call c ≡ true → c.result ≡ Some v → now v ≤ uses v) → Each (IsFine end uses) cs → Each (IsFine end now) cs
  all_fewer [] le h = tt
  all_fewer (c ∷ cs) le h = (fewer (is_suspend_call c) c.result c.default (λ v. le c v (inl refl)) h.0, all_fewer cs (λ d v l. le d v (inr l)) h.1)

pub wrong_switch_same : (func : ℕ) (f g : Function) → shaping_calls g ≡ shaping_calls f → ((c : ShapingCall) (v : ℕ) → IsListed c (shaping_calls f) → is_suspend_call c ≡ true → c.result ≡ Some v → uses_of g v ≤ uses_of f v) → f.coroutine ≡ true → wrong_switch func f ≡ None → g.coroutine ≡ f.coroutine → wrong_switch func g ≡ None
wrong_switch_same func f g same le coroutine right is =
    fine_all func g (is ∙ coroutine)
    (subst (λ (cs : List ShapingCall). Each (IsFine (end_label g) (uses_of g)) cs) (sym same)
    (subst (λ (end : Option ℕ). Each (IsFine end (uses_of g)) (shaping_calls f)) (sym end_same)
    (all_fewer (end_label f) (uses_of f) (uses_of g) (shaping_calls f) le (all_fine func f coroutine right))))
  where
    end_same : end_label g ≡ end_label f
    end_same = end_found g ∙ ap (label_of_first Intrinsic.CoroEnd) same ∙ sym (end_found f)
