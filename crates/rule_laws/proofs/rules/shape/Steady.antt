-- Instructions with others put in and some gone, where the calls by which a function is a coroutine stay.
use Rattle.std.proofs.Common.{◌≡◌, ℕ, ◌+◌, Bool, true, false, List, [], ◌∷◌, ◌++◌, length, refl, sym, ap, ◌∙◌, arith}
use Rattle.std.specs.Prelude.{Some, None, Option, map, if◌then◌else◌, ◌&&◌, ◌==◌}
use Rattle.ir_laws.proofs.facts.Truth.{itself}
use Rattle.ir_laws.specs.ir_model.Names.{same_intrinsic}
use Rattle.ir_laws.specs.ir_model.declared.instr.Instr.{Instr}
use Rattle.ir_laws.specs.ir_model.declared.module.Block.{Block}
use Rattle.ir_laws.specs.ir_model.declared.operand.Callee.{Callee}
use Rattle.ir_laws.specs.ir_model.declared.operand.Intrinsic.{Intrinsic}
use Rattle.ir_laws.specs.ir_paths.Windows.{call_result}
use Rattle.ir_laws.specs.run_laws.changed.Changed.{Each}
use Rattle.ir_laws.specs.facts.woven_rules.Pairs.{Empty, Pair, Pairwise}
use Rattle.rule_laws.specs.rules.woven_shape.Calls.{call_at, calls_in, calls_of_block, default_on, first_named, is_shaping, second_named, shaping_call, switched_to}
use Rattle.ir_laws.proofs.paths.shape.Steady.{AreOrdered, is_end, is_suspend}

-- ---- one instruction

-- none of these calls
abbrev pub IsPlain : Instr → Type 0
IsPlain j = (b : Block) (at : ℕ) → call_at b at j ≡ []

-- the same of these calls, if it is one
abbrev pub IsAlike : Instr → Instr → Type 0
IsAlike i j = (b : Block) (at : ℕ) → call_at b at j ≡ call_at b at i

-- ---- lists

-- Others are put in and go that are none of these calls; nothing is put in front of an end nor behind a suspend. `ahead` says whether
-- nothing stands in front.
pub data Keeps : Bool → List Instr → List Instr → Type 0 where
  Ended : (ahead : Bool) → Keeps ahead [] []
  Put : (ahead : Bool) (j : Instr) (is js : List Instr) → IsPlain j → Keeps false is js → Keeps ahead is (j ∷ js)
  Left : (ahead : Bool) (i : Instr) (is js : List Instr) → IsPlain i → Keeps false is js → Keeps ahead (i ∷ is) js
  Stay : (ahead : Bool) (i j : Instr) (is js : List Instr) → IsAlike i j → (is_end i ≡ true → ahead ≡ true) → (is_suspend i ≡ true → js ≡ []) → Keeps false is js → Keeps ahead (i ∷ is) (j ∷ js)

-- an instruction with others in front of it
pub row : (ahead : Bool) (i j : Instr) (is pre rest : List Instr) → Each IsPlain pre → IsAlike i j → (is_end i ≡ true → (pre ≡ []) × (ahead ≡ true)) → (is_suspend i ≡ true → rest ≡ []) → Keeps false is rest → Keeps ahead (i ∷ is) (pre ++ (j ∷ rest))
row ahead i j is [] rest plain alike front last more = Stay ahead i j is rest alike (λ e. (front e).1) last more
row ahead i j is (p ∷ pre) rest plain alike front last more =
    Put ahead p (i ∷ is) (pre ++ (j ∷ rest)) plain.0 (row false i j is pre rest plain.1 alike (λ e. let z : p ∷ pre ≡ [] = (front e).0 in absurd (cc)) last more)

-- others in front of all
pub in_front : (ahead : Bool) (ps is js : List Instr) → Each IsPlain ps → ((later : Bool) → (ps ≡ [] → later ≡ ahead) → Keeps later is js) → Keeps ahead is (ps ++ js)
in_front ahead [] is js plain more = more ahead (λ e. refl)
in_front ahead (p ∷ ps) is js plain more = Put ahead p is (ps ++ js) plain.0 (in_front false ps is js plain.1 (λ later e. more later (λ z. absurd (cc))))

pub all_put : (ahead : Bool) (ps : List Instr) → Each IsPlain ps → Keeps ahead [] ps
all_put ahead [] plain = Ended ahead
all_put ahead (p ∷ ps) plain = Put ahead p [] ps plain.0 (all_put false ps plain.1)

-- where the first is an end, nothing stands in front
abbrev pub LeadsAt : Bool → List Instr → Type 0
LeadsAt ahead [] = Unit {0}
LeadsAt ahead (i ∷ is) = is_end i ≡ true → ahead ≡ true

pub first_leads : (is : List Instr) → LeadsAt true is
first_leads [] = tt
first_leads (i ∷ is) = λ e. refl

-- no end stands behind the first
pub behind_first : (V : ℕ → Type 0) (ahead : Bool) (at : ℕ) (is : List Instr) → AreOrdered V (at + 1) is → LeadsAt ahead is
behind_first V ahead at [] h = tt
behind_first V ahead at (i ∷ is) h = λ e. let z : at + 1 ≡ 0 = h.0.leads e in absurd (omega (arith, z))

-- ---- blocks

last_same : (d : Option ℕ) (x y : ℕ) → x ≡ y → (if x == y then d else None) ≡ d
last_same d x y e = ap (λ (t : Bool). if t then d else None) (ap (λ (n : ℕ). n == y) e ∙ itself y)

lead_same : (t : Bool) (at now : ℕ) → (t ≡ true → now ≡ at) → (t && (now == 0)) ≡ (t && (at == 0))
lead_same true at now h = ap (λ (n : ℕ). n == 0) (h refl)
lead_same false at now h = refl

-- a block with the same label and as many phis, whose end switches on these values as the other's
pub record IsBlockKept (V : ℕ → Type 0) (b c : Block) : Type 0 where
  pub label : c.label ≡ b.label
  pub phis : length c.phis ≡ length b.phis
  pub instrs : Keeps true b.instrs c.instrs
  pub term : (v : ℕ) → V v → default_on v c.term ≡ default_on v b.term

module _ (V : ℕ → Type 0) (b c : Block) (label : c.label ≡ b.label) (term : (v : ℕ) → V v → default_on v c.term ≡ default_on v b.term) where
  abbrev all_before : ℕ
  all_before = length b.phis + length b.instrs

  abbrev all_now : ℕ
  all_now = length c.phis + length c.instrs

  record AreLast (at now : ℕ) : Type 0 where
    before : at + 1 ≡ all_before
    now_last : now + 1 ≡ all_now

  behind_same : (at now : ℕ) (t : Bool) (r : Option ℕ) → (t ≡ true → AreLast at now) → ((v : ℕ) → t ≡ true → r ≡ Some v → V v) → (if t then switched_to c now r else None) ≡ (if t then switched_to b at r else None)
  behind_same at now true None last value = refl
  behind_same at now true (Some v) last value =
      last_same (default_on v c.term) (now + 1) all_now (last refl).now_last
      ∙ term v (value v refl refl)
      ∙ sym (last_same (default_on v b.term) (at + 1) all_before (last refl).before)
  behind_same at now false r last value = refl

  moved : (at now : ℕ) (i : Instr) → (is_end i ≡ true → now ≡ at) → (is_suspend i ≡ true → AreLast at now) → ((v : ℕ) → is_suspend i ≡ true → call_result i ≡ Some v → V v) → call_at c now i ≡ call_at b at i
  moved at now (Instr.Call result must_tail ty (Callee.Intrinsic x) args) leads last value = on (is_shaping x)
    where
      on : (t : Bool) → (if t then shaping_call c now x result args ∷ [] else []) ≡ (if t then shaping_call b at x result args ∷ [] else [])
      on true =
          λ k.
          record {
            intrinsic = x;
            result = result;
            first = first_named x args;
            second = second_named x args;
            block = label k;
            leads = lead_same (same_intrinsic Intrinsic.CoroEnd x) at now leads k;
            default = behind_same at now (same_intrinsic Intrinsic.CoroSuspend x) result last value k;
          } ∷ []
      on false = refl
  moved at now _ leads last value = refl

  kept : (ahead : Bool) (at now : ℕ) (is js : List Instr) → Keeps ahead is js → (ahead ≡ true → now ≡ at) → at + length is ≡ all_before → now + length js ≡ all_now → AreOrdered V at is → calls_in c now js ≡ calls_in b at is
  kept _ at now _ _ (Ended ahead) front m n o = refl
  kept _ at now _ _ (Put ahead j is js plain rest) front m n o = λ k. plain c now k ++ kept false at (now + 1) is js rest (λ e. absurd (cc)) m (omega (arith, n)) o k
  kept _ at now _ _ (Left ahead i is js plain rest) front m n o = λ k. sym (plain b at) k ++ kept false (at + 1) now is js rest (λ e. absurd (cc)) (omega (arith, m)) n o.1 k
  kept _ at now _ _ (Stay ahead i j is js alike leads last rest) front m n o =
      λ k.
      (alike c now ∙ moved at now i (λ e. front (leads e)) ends o.0.value) k
      ++ kept false (at + 1) (now + 1) is js rest (λ e. absurd (cc)) (omega (arith, m)) (omega (arith, n)) o.1 k
    where
      ends : is_suspend i ≡ true → AreLast at now
      ends e =
          let a : length is ≡ 0 = ap length (o.0.last e) in
          let d : length js ≡ 0 = ap length (last e) in
          record { before = omega (arith, a, m); now_last = omega (arith, d, n) }

pub block_calls : (V : ℕ → Type 0) (b c : Block) → IsBlockKept V b c → AreOrdered V (length b.phis) b.instrs → calls_of_block c ≡ calls_of_block b
block_calls V b c h o = kept V b c h.label h.term true (length b.phis) (length c.phis) b.instrs c.instrs h.instrs (λ e. h.phis) refl refl o

abbrev pub AreAllOrdered : (ℕ → Type 0) → List Block → Type 0
AreAllOrdered V bs = Each (λ (b : Block). AreOrdered V (length b.phis) b.instrs) bs

pub all_calls : (V : ℕ → Type 0) (bs cs : List Block) → Pairwise (IsBlockKept V) bs cs → AreAllOrdered V bs → map calls_of_block cs ≡ map calls_of_block bs
all_calls V _ _ Empty o = refl
all_calls V _ _ (Pair b c bs cs h rest) o = λ k. block_calls V b c h o.0 k ∷ all_calls V bs cs rest o.1 k

pub all_labels : (V : ℕ → Type 0) (bs cs : List Block) → Pairwise (IsBlockKept V) bs cs → map (λ (b : Block). b.label) cs ≡ map (λ (b : Block). b.label) bs
all_labels V _ _ Empty = refl
all_labels V _ _ (Pair b c bs cs h rest) = λ k. h.label k ∷ all_labels V bs cs rest k
