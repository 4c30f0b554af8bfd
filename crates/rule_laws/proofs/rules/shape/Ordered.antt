-- How the calls of a coroutine stand that breaks neither K2 nor K3: the end leads its block, and suspends are the last of theirs.
use Rattle.std.proofs.Common.{◌≡◌, ℕ, ◌+◌, Bool, true, false, List, [], ◌∷◌, length, refl, subst, arith}
use Rattle.std.specs.Prelude.{Some, None, Option, is_some, map, not, if◌then◌else◌, ◌||◌}
use Rattle.ir_laws.specs.ir_calls.Calls.{is_null, is_value}
use Rattle.rule_shape.specs.OneOfEach.{calls_of, wrong_call}
use Rattle.rule_shape.specs.Switches.{end_label, is_last, wrong_switch}
use Rattle.rule_shape.specs.Uses.{uses_of}
use Rattle.rule_uses.specs.Undefined.{Entry}
use Rattle.rule_uses.specs.Uses.{made_by_phis}
use Rattle.ir_laws.proofs.facts.Members.{each_behind, each_there}
use Rattle.ir_laws.proofs.facts.Truth.{equal_numbers, and_first}
use Rattle.rule_laws.proofs.rules.renamed.Outside.{each_left, each_right}
use Rattle.ir_laws.specs.flow_solver.Paths.{IsListed}
use Rattle.rule_laws.proofs.rules.shape.Steady.{AreAllOrdered, LeadsAt}
use Rattle.ir_laws.proofs.paths.shape.Steady.{AreOrdered, is_end, is_suspend}
use Rattle.ir_laws.specs.ir_model.Names.{same_intrinsic}
use Rattle.ir_laws.specs.ir_model.declared.instr.Instr.{Instr}
use Rattle.ir_laws.specs.ir_model.declared.instr.Phi.{Phi}
use Rattle.ir_laws.specs.ir_model.declared.module.Block.{Block}
use Rattle.ir_laws.specs.ir_model.declared.module.Function.{Function}
use Rattle.ir_laws.specs.ir_model.declared.operand.Callee.{Callee}
use Rattle.ir_laws.specs.ir_model.declared.operand.Intrinsic.{Intrinsic}
use Rattle.ir_laws.specs.ir_model.declared.operand.Operand.{Operand}
use Rattle.ir_laws.specs.ir_paths.Windows.{call_result}
use Rattle.rule_laws.specs.rules.replaced.Splittable.{AreBegun, AreBlocksBegun}
use Rattle.ir_laws.specs.run_laws.changed.Changed.{Each}
use Rattle.ir_laws.proofs.paths.woven_rules.Unbroken.{each_listed, of_listed}
use Rattle.rule_laws.proofs.rules.woven_shape.Gathered.{to_row}
use Rattle.rule_laws.proofs.rules.woven_shape.OneOfEach.{IsRight, all_right, right_of}
use Rattle.rule_laws.proofs.rules.woven_shape.Switches.{IsFine, all_fine, is_fine}
use Rattle.rule_laws.specs.rules.woven_shape.Calls.{ShapingCall, call_at, calls_in, calls_of_block, default_on, is_shaping, is_suspend_call, joined, shaping_call, shaping_calls, switched_to}
use Rattle.ir_laws.proofs.facts.Lists.{none_of as nothing_left}

-- a suspend makes the value
pub record IsSuspendValue (f : Function) (v : ℕ) : Type 0 where
  pub call : ShapingCall
  pub listed : IsListed call (shaping_calls f)
  pub suspends : is_suspend_call call ≡ true
  pub result : call.result ≡ Some v

-- an end leads its block, and a suspend has a switch right behind it and makes one of these values
pub record IsPlaced (V : ℕ → Type 0) (c : ShapingCall) : Type 0 where
  pub leads : same_intrinsic Intrinsic.CoroEnd c.intrinsic ≡ true → c.leads ≡ true
  pub last : is_suspend_call c ≡ true → is_some c.default ≡ true
  pub value : (v : ℕ) → is_suspend_call c ≡ true → c.result ≡ Some v → V v

-- ---- of a function that breaks neither rule

right_leads : (token frame : Option ℕ) (leads : Bool) (x : Intrinsic) (a b : Operand) → right_of token frame leads x a b ≡ true → same_intrinsic Intrinsic.CoroEnd x ≡ true → leads ≡ true
right_leads token frame leads Intrinsic.CoroEnd a b h e = and_first leads (is_null a || is_value frame a) h
right_leads token frame leads _ a b h e = absurd (cc)

fine_default : (end : Option ℕ) (uses : ℕ → ℕ) (t : Bool) (r d : Option ℕ) → (not t || is_fine end uses r d) ≡ true → t ≡ true → is_some d ≡ true
fine_default end uses false r d h e = absurd (cc)
fine_default end uses true None d h e = absurd (cc)
fine_default end uses true (Some v) None h e = absurd (cc)
fine_default end uses true (Some v) (Some l) h e = refl

pub placed_calls : (k : ℕ) (f : Function) → f.coroutine ≡ true → wrong_call k f ≡ None → wrong_switch k f ≡ None → Each (IsPlaced (IsSuspendValue f)) (shaping_calls f)
placed_calls k f coroutine calls switches =
    each_listed (IsPlaced (IsSuspendValue f)) (shaping_calls f)
    (λ c l.
    record {
      leads = right_leads (calls_of k f).token (calls_of k f).frame c.leads c.intrinsic c.first c.second (of_listed (IsRight (calls_of k f)) (shaping_calls f) (all_right k f f refl coroutine calls) c l);
      last = fine_default (end_label f) (uses_of f) (is_suspend_call c) c.result c.default (of_listed (IsFine (end_label f) (uses_of f)) (shaping_calls f) (all_fine k f coroutine switches) c l);
      value = λ v s r. record { call = c; listed = l; suspends = s; result = r };
    })

module _ (V : ℕ → Type 0) (b : Block) where
  end_leads : (at : ℕ) (i : Instr) → Each (IsPlaced V) (call_at b at i) → is_end i ≡ true → at ≡ 0
  end_leads at (Instr.Call result must_tail ty (Callee.Intrinsic Intrinsic.CoroEnd) args) h e = equal_numbers at 0 (h.0.leads refl)
  end_leads at _ h e = absurd (cc)

  switched_last : (at : ℕ) (r : Option ℕ) → is_some (switched_to b at r) ≡ true → at + 1 ≡ length b.phis + length b.instrs
  switched_last at None h = absurd (cc)
  switched_last at (Some v) h = on (is_last b (Some at)) refl h
    where
      on : (t : Bool) → is_last b (Some at) ≡ t → is_some (if t then default_on v b.term else None) ≡ true → at + 1 ≡ length b.phis + length b.instrs
      on true e d = equal_numbers (at + 1) (length b.phis + length b.instrs) e
      on false e d = absurd (cc)

  suspend_last : (at : ℕ) (i : Instr) → Each (IsPlaced V) (call_at b at i) → is_suspend i ≡ true → at + 1 ≡ length b.phis + length b.instrs
  suspend_last at (Instr.Call result must_tail ty (Callee.Intrinsic Intrinsic.CoroSuspend) args) h e = switched_last at result (h.0.last refl)
  suspend_last at _ h e = absurd (cc)

  suspend_value : (at : ℕ) (i : Instr) → Each (IsPlaced V) (call_at b at i) → (v : ℕ) → is_suspend i ≡ true → call_result i ≡ Some v → V v
  suspend_value at (Instr.Call result must_tail ty (Callee.Intrinsic Intrinsic.CoroSuspend) args) h v e d = h.0.value v refl d
  suspend_value at _ h v e d = absurd (cc)

  ordered : (at : ℕ) (is : List Instr) → at + length is ≡ length b.phis + length b.instrs → Each (IsPlaced V) (calls_in b at is) → AreOrdered V at is
  ordered at [] n h = tt
  ordered at (i ∷ is) n h =
      let here : List ShapingCall = call_at b at i in
      let more : List ShapingCall = calls_in b (at + 1) is in
      let one : Each (IsPlaced V) here = each_left (IsPlaced V) here more h in (
        record {
          leads = end_leads at i one;
          last = λ e. let last : at + 1 ≡ length b.phis + length b.instrs = suspend_last at i one e in nothing_left is (omega (arith, last, n));
          value = suspend_value at i one;
        },
        ordered (at + 1) is (omega (arith, n)) (each_right (IsPlaced V) here more h),
      )

pub all_ordered : (V : ℕ → Type 0) (bs : List Block) → Each (IsPlaced V) (joined (map calls_of_block bs)) → AreAllOrdered V bs
all_ordered V bs h = each_there _ bs (λ j b got. ordered V b (length b.phis) b.instrs refl (to_row (IsPlaced V) bs h j b got))

-- ---- blocks without an end

-- the first instruction is no end
abbrev pub HasNoFirstEnd : List Instr → Type 0
HasNoFirstEnd [] = Unit {0}
HasNoFirstEnd (i ∷ is) = is_end i ≡ true → ⊥

abbrev pub IsNoEnd : ShapingCall → Type 0
IsNoEnd c = same_intrinsic Intrinsic.CoroEnd c.intrinsic ≡ true → ⊥

-- so no call is
no_end_call : (b : Block) (at : ℕ) (i : Instr) → (is_end i ≡ true → ⊥) → Each IsNoEnd (call_at b at i)
no_end_call b at (Instr.Call result must_tail ty (Callee.Intrinsic x) args) h = on (is_shaping x)
  where
    on : (t : Bool) → Each IsNoEnd (if t then shaping_call b at x result args ∷ [] else [])
    on true = (h, tt)
    on false = tt
no_end_call b at _ h = tt

no_end_calls : (V : ℕ → Type 0) (b : Block) (at : ℕ) (is : List Instr) → AreOrdered V at is → HasNoFirstEnd is → Each IsNoEnd (calls_in b at is)
no_end_calls V b at [] o h = tt
no_end_calls V b at (i ∷ is) o h = each_behind IsNoEnd (call_at b at i) (calls_in b (at + 1) is) (no_end_call b at i h) (no_end_calls V b (at + 1) is o.1 (next is o.1))
  where
    next : (js : List Instr) → AreOrdered V (at + 1) js → HasNoFirstEnd js
    next [] q = tt
    next (j ∷ js) q = λ e. let z : at + 1 ≡ 0 = q.0.leads e in absurd (omega (arith, z))

-- and where no call is, the first isn't
first_no_end : (b : Block) (at : ℕ) (i : Instr) → Each IsNoEnd (call_at b at i) → is_end i ≡ true → ⊥
first_no_end b at (Instr.Call result must_tail ty (Callee.Intrinsic Intrinsic.CoroEnd) args) h e = h.0 refl
first_no_end b at _ h e = absurd (cc)

calls_no_end : (b : Block) (at : ℕ) (is : List Instr) → Each IsNoEnd (calls_in b at is) → HasNoFirstEnd is
calls_no_end b at [] h = tt
calls_no_end b at (i ∷ is) h = first_no_end b at i (each_left IsNoEnd (call_at b at i) (calls_in b (at + 1) is) h)

pub block_no_end : (b : Block) → Each IsNoEnd (calls_of_block b) → HasNoFirstEnd b.instrs
block_no_end b h = calls_no_end b (length b.phis) b.instrs h

-- nothing stands in front of an end where one leads
pub no_end_leads : (ahead : Bool) (is : List Instr) → HasNoFirstEnd is → LeadsAt ahead is
no_end_leads ahead [] h = tt
no_end_leads ahead (i ∷ is) h = λ e. absurd (h e)

-- an end has no phis in front of it
pub phis_no_end : (V : ℕ → Type 0) (p : Phi) (ps : List Phi) (is : List Instr) → AreOrdered V (length (p ∷ ps)) is → HasNoFirstEnd is
phis_no_end V p ps [] o = tt
phis_no_end V p ps (i ∷ is) o = λ e. let z : length (p ∷ ps) ≡ 0 = o.0.leads e in absurd (cc)

-- ---- the end doesn't stand in the entry block, as begin is made before it

module _ (f : Function) (begin : ℕ) where
  end_asks : (before : List ℕ) (i : Instr) (is : List Instr) → AreBegun f begin 0 before (i ∷ is) → is_end i ≡ true → IsListed begin before
  end_asks before (Instr.Call result must_tail ty (Callee.Intrinsic Intrinsic.CoroEnd) args) is h e = h.0 refl Entry
  end_asks before _ is h e = absurd (cc)

  first_block : (V : ℕ → Type 0) (ps : List Phi) (is : List Instr) → AreBegun f begin 0 (made_by_phis [] ps) is → AreOrdered V (length ps) is → HasNoFirstEnd is
  first_block V ps [] h o = tt
  first_block V [] (i ∷ is) h o = λ e. end_asks [] i is h e
  first_block V (p ∷ ps) (i ∷ is) h o = phis_no_end V p ps (i ∷ is) o

  pub none_in_entry : (V : ℕ → Type 0) (b : Block) (bs : List Block) → f.blocks ≡ b ∷ bs → AreBlocksBegun f begin 0 f.blocks → AreAllOrdered V f.blocks → Each IsNoEnd (calls_of_block b)
  none_in_entry V b bs e h o =
      let ordered_here : AreOrdered V (length b.phis) b.instrs = (subst (AreAllOrdered V) e o).0 in
      no_end_calls V b (length b.phis) b.instrs ordered_here (first_block V b.phis b.instrs (subst (λ (xs : List Block). AreBlocksBegun f begin 0 xs) e h).0 ordered_here)
