-- Rules that look at an instruction alone: L1 of types, Y2 to Y5, and of N2 the names of types, functions and globals.
use Rattle.std.proofs.Common.{◌≡◌, inl, inr, ⊎_elim, ℕ, ◌+◌, ◌<◌, Bool, true, false, List, [], ◌∷◌, ◌++◌, length, refl, sym, ap, ◌∙◌, subst}
use Rattle.std.specs.Prelude.{None, Option, Some, map, not, if◌then◌else◌, ◌&&◌, ◌||◌}
use Rattle.pass_fetch_proof.specs.ir_base.declared.outcome.Place.{Place}
use Rattle.pass_split.specs.Parts.{case_of, cases_from, entry_term, is_entered}
use Rattle.pass_split.specs.Pieces.{redirected_case, redirected_term}
use Rattle.pass_fetch_proof.proofs.rule_laws.rules.local_rules.Fitting.{either}
use Rattle.pass_fetch_proof.proofs.ir_laws.facts.Truth.{and_both, holds, first_no, second_no}
use Rattle.pass_fetch_proof.specs.ir_parts.Contents.{ending_operands, ending_types, instr_types}
use Rattle.pass_fetch_proof.specs.ir_parts.Parts.{Ending, OfInstr, OfPhi}
use Rattle.pass_fetch_proof.specs.pass_intrinsics.Lowered.{lowered, number_of_save}
use Rattle.pass_fetch_proof.specs.pass_intrinsics.Shapes.{index_bytes}
use Rattle.pass_fetch_proof.specs.pass_intrinsics.declared.shape.Part.{Part}
use Rattle.pass_fetch_proof.specs.pass_intrinsics.declared.shape.Shape.{Shape}
use Rattle.pass_fetch_proof.specs.pass_intrinsics.declared.shape.SuspendPoint.{SuspendPoint}
use Rattle.ir_model.specs.Ty.{Ty, int, ptr}
use Rattle.ir_model.specs.TypeView.{bits_of}
use Rattle.ir_model.specs.declared.instr.Case.{Case}
use Rattle.ir_model.specs.declared.instr.Instr.{Instr}
use Rattle.ir_model.specs.declared.instr.Terminator.{Terminator}
use Rattle.ir_model.specs.declared.ir_type.IntWidth.{IntWidth}
use Rattle.ir_model.specs.declared.module.Function.{Function}
use Rattle.ir_model.specs.declared.module.Module.{Module}
use Rattle.ir_model.specs.declared.operand.Arg.{Arg}
use Rattle.ir_model.specs.declared.operand.Callee.{Callee}
use Rattle.ir_model.specs.declared.operand.Intrinsic.{Intrinsic}
use Rattle.ir_model.specs.declared.operand.Operand.{Operand}
use Rattle.pass_fetch_proof.specs.rule_locals.Calls.{calls_closed, is_closed}
use Rattle.pass_fetch_proof.proofs.rule_laws.rules.function_rules.Stages.{extents_larger}
use Rattle.pass_fetch_proof.specs.rule_locals.Extents.{breaks_extents, is_aligned}
use Rattle.pass_fetch_proof.specs.rule_locals.Instrs.{on_instr}
use Rattle.pass_fetch_proof.specs.rule_locals.Transfers.{breaks_transfers, may_transfer}
use Rattle.pass_fetch_proof.specs.rule_names.Known.{knows_callee}
use Rattle.pass_fetch_proof.specs.rule_names.declared.stage.Stage.{Stage}
use Rattle.pass_fetch_proof.specs.rule_laws.frames.same_names.Parts.{HasPartsOf}
use Rattle.pass_exits_proof.proofs.split.rules.Carried.{Carries, index_instrs}
use Rattle.pass_fetch_proof.proofs.rule_laws.frames.replaced.Modules.{callee_fits, closed_there, depths_there, extents_there, has_functions}
use Rattle.pass_fetch_proof.proofs.rule_laws.frames.replaced.Replaced.{IsKeptOne, replaced}
use Rattle.pass_fetch_proof.specs.rule_laws.frames.replaced.Replaced.{Address, Calls, Loads, Number, Replaces, StoresCleanup, StoresDestroy, StoresIndex, StoresNull, StoresResume, Tests, Truth}
use Rattle.pass_fetch_proof.specs.run_laws.changed.Changed.{Each}
use Rattle.pass_fetch_proof.specs.rule_types.Depth.{is_shallow}
use Rattle.pass_fetch_proof.specs.rule_types.Limits.{all_fit, breaks_limits, is_block_past}
use Rattle.pass_fetch_proof.specs.rule_types.Signatures.{calls_otherwise}
use Rattle.pass_fetch_proof.proofs.ir_laws.facts.Members.{each_turns}
use Rattle.pass_fetch_proof.proofs.rule_laws.rules.fetching_rules.Puts.{int_shallow as shallow_int, ptr_shallow as shallow_ptr}

-- ---- what is lowered in the place of an instruction that is of the types of its callee

pub data Lowers (s : Shape) (part : Part) (n : ℕ) (i : Instr) : Type 0 where
  Same : lowered s part n i ≡ i ∷ [] → Lowers s part n i
  Replaced : (x : Intrinsic) (r : Option ℕ) (must_tail : Bool) (ty : Option Ty) (args : List Arg) → i ≡ Instr.Call r must_tail ty (Callee.Intrinsic x) args → Each (Replaces s part n x r ty args) (lowered s part n i) → Lowers s part n i

abbrev StaysAs : Shape → Part → ℕ → Option ℕ → Bool → Option Ty → List Arg → Intrinsic → Type 0
StaysAs s part n r must_tail ty args x = lowered s part n (Instr.Call r must_tail ty (Callee.Intrinsic x) args) ≡ Instr.Call r must_tail ty (Callee.Intrinsic x) args ∷ []

module _ (m : Module) (s : Shape) (part : Part) (saves : (r : Option ℕ) (j : ℕ) → number_of_save s r ≡ Some j → j < length s.suspends) where
  kept_lowers : (n : ℕ) (r : Option ℕ) (must_tail : Bool) (ty : Option Ty) (args : List Arg) (x : Intrinsic) → IsKeptOne s part n saves r ty args x → lowered s part n (Instr.Call r must_tail ty (Callee.Intrinsic x) args) ≡ Instr.Call r must_tail ty (Callee.Intrinsic x) args ∷ []
  kept_lowers n r must_tail ty args x h = on h
    where
      on : IsKeptOne s part n saves r ty args x → StaysAs s part n r must_tail ty args x
      on (inl e) = subst (StaysAs s part n r must_tail ty args) (sym e) refl
      on (inr (inl e)) = subst (StaysAs s part n r must_tail ty args) (sym e) refl
      on (inr (inr (inl e))) = subst (StaysAs s part n r must_tail ty args) (sym e) refl
      on (inr (inr (inr (inl e)))) = subst (StaysAs s part n r must_tail ty args) (sym e) refl
      on (inr (inr (inr (inr e)))) = subst (StaysAs s part n r must_tail ty args) (sym e) refl

  pub lowers : (n : ℕ) (p : Place) (i : Instr) → calls_otherwise m p (OfInstr i) ≡ false → Lowers s part n i
  lowers n p (Instr.Call r must_tail ty (Callee.Intrinsic x) args) e =
      ⊎_elim (λ h. Replaced x r must_tail ty args refl h) (λ h. Same (kept_lowers n r must_tail ty args x h)) (replaced s part n saves r ty args must_tail x (holds _ e))
  lowers n p (Instr.Call r must_tail ty (Callee.Named x) args) e = Same refl
  lowers n p (Instr.Call r must_tail ty (Callee.Allocator a) args) e = Same refl
  lowers n p (Instr.Call r must_tail ty (Callee.Local v) args) e = Same refl
  lowers n p _ e = Same refl

  -- a rule that holds of what stays and of what replaces a call
  module _ (p : Place) (now : Instr → Bool) (put : (n : ℕ) (x : Intrinsic) (r : Option ℕ) (ty : Option Ty) (args : List Arg) (j : Instr) → Replaces s part n x r ty args j → now j ≡ false) where
    pub lowered_keeps : (n : ℕ) (i : Instr) → calls_otherwise m p (OfInstr i) ≡ false → now i ≡ false → Each (λ (j : Instr). now j ≡ false) (lowered s part n i)
    lowered_keeps n i e same = on (lowers n p i e)
      where
        on : Lowers s part n i → Each (λ (j : Instr). now j ≡ false) (lowered s part n i)
        on (Same d) = subst (Each (λ (j : Instr). now j ≡ false)) (sym d) (same, tt)
        on (Replaced x r must_tail ty args d h) = each_turns (Replaces s part n x r ty args) (λ (j : Instr). now j ≡ false) (λ j k. put n x r ty args j k) (lowered s part n i) h

-- ---- terminators

pub same_case_types : (s : Shape) (cases : List Case) → map (λ (k : Case). k.arg.ty) (map (redirected_case s) cases) ≡ map (λ (k : Case). k.arg.ty) cases
same_case_types s [] = refl
same_case_types s (k ∷ cases) = ap (λ (ts : List Ty). k.arg.ty ∷ ts) (same_case_types s cases)

pub same_case_operands : (s : Shape) (cases : List Case) → map (λ (k : Case). k.arg.value) (map (redirected_case s) cases) ≡ map (λ (k : Case). k.arg.value) cases
same_case_operands s [] = refl
same_case_operands s (k ∷ cases) = ap (λ (xs : List Operand). k.arg.value ∷ xs) (same_case_operands s cases)

pub same_term_types : (s : Shape) (t : Terminator) → ending_types (redirected_term s t) ≡ ending_types t
same_term_types s (Terminator.Jump label) = refl
same_term_types s (Terminator.Branch c a b) = refl
same_term_types s (Terminator.Switch arg default cases) = ap (λ (ts : List Ty). arg.ty ∷ ts) (same_case_types s cases)
same_term_types s (Terminator.Ret value) = refl
same_term_types s Terminator.Unreachable = refl

pub same_term_operands : (s : Shape) (t : Terminator) → ending_operands (redirected_term s t) ≡ ending_operands t
same_term_operands s (Terminator.Jump label) = refl
same_term_operands s (Terminator.Branch c a b) = refl
same_term_operands s (Terminator.Switch arg default cases) = ap (λ (xs : List Operand). arg.value ∷ xs) (same_case_operands s cases)
same_term_operands s (Terminator.Ret value) = refl
same_term_operands s Terminator.Unreachable = refl

-- ---- the rules

pub no_block : (o : Option ℕ) → is_block_past Stage.Plain o ≡ false
no_block None = refl
no_block (Some n) = refl

-- a call of what isn't known, or that is closed
abbrev pub unknown_call : Module → Instr → Bool
unknown_call m (Instr.Call r must_tail ty callee args) = not (knows_callee m callee)
unknown_call m _ = false

abbrev pub closed_before : Module → Place → Instr → Bool
closed_before m p i = calls_closed m p i || unknown_call m i

module _ (m n : Module) (h : HasPartsOf m n) (s : Shape) (part : Part) (saves : (r : Option ℕ) (j : ℕ) → number_of_save s r ≡ Some j → j < length s.suspends) where
  -- a rule on instructions alone
  module _ (breaks now : Place → Instr → Bool) (same : (p q : Place) (i : Instr) → breaks p i ≡ false → now q i ≡ false) (put : (q : Place) (k : ℕ) (x : Intrinsic) (r : Option ℕ) (ty : Option Ty) (args : List Arg) (j : Instr) → Replaces s part k x r ty args j → now q j ≡ false) (index : (q : Place) → Each (λ (j : Instr). now q j ≡ false) (index_instrs s)) where
    pub instr_carried : Carries s part 0 (either (on_instr breaks) (calls_otherwise m)) (on_instr now)
    instr_carried =
        record {
          head = λ p b. refl;
          phi = λ p q x y of e. refl;
          instr = λ p q k i low again e. lowered_keeps m s part saves p (now q) (put q) k i (second_no (breaks p i) (calls_otherwise m p (OfInstr i)) e) (same p q i (first_no (breaks p i) (calls_otherwise m p (OfInstr i)) e));
          ending = λ p q t e. refl;
          jump = λ q l. refl;
          return = λ e q. refl;
          stop = λ q. refl;
          index = λ e q. index q;
          switch = λ e flags q. refl;
        }

  -- ---- Y5

  transfers_same : (f g : Function) (p q : Place) (i : Instr) → breaks_transfers Stage.Source f p i ≡ false → breaks_transfers Stage.Plain g q i ≡ false
  transfers_same f g p q (Instr.Call r must_tail ty callee args) e = on must_tail (not (may_transfer g q ty (map (λ (a : Arg). a.ty) args))) e
    where
      on : (b c : Bool) → (b && true) ≡ false → (b && c) ≡ false
      on true c e = absurd (cc)
      on false c e = refl
  transfers_same f g p q _ e = refl

  transfers_put : (g : Function) (q : Place) (k : ℕ) (x : Intrinsic) (r : Option ℕ) (ty : Option Ty) (args : List Arg) (j : Instr) → Replaces s part k x r ty args j → breaks_transfers Stage.Plain g q j ≡ false
  transfers_put g q k x r ty args _ (Number v w z a b c d) = refl
  transfers_put g q k x r ty args _ (Truth v b c d) = refl
  transfers_put g q k x r ty args _ (Address v p z a b c) = refl
  transfers_put g q k x r ty args _ (StoresResume p a b) = refl
  transfers_put g q k x r ty args _ (StoresDestroy p a b) = refl
  transfers_put g q k x r ty args _ (StoresCleanup p a b c) = refl
  transfers_put g q k x r ty args _ (StoresNull p a) = refl
  transfers_put g q k x r ty args _ (StoresIndex j p a b) = refl
  transfers_put g q k x r ty args _ (Loads v p a b) = refl
  transfers_put g q k x r ty args _ (Calls v p a b) = refl
  transfers_put g q k x r ty args _ (Tests v a b) = refl

  pub transfers_carried : (f g : Function) → Carries s part 0 (either (on_instr (breaks_transfers Stage.Source f)) (calls_otherwise m)) (on_instr (breaks_transfers Stage.Plain g))
  transfers_carried f g = instr_carried (breaks_transfers Stage.Source f) (breaks_transfers Stage.Plain g) (transfers_same f g) (transfers_put g) (λ q. (refl, (refl, tt)))

  -- ---- Y4

  bytes_aligned : (w : IntWidth) → is_aligned (index_bytes w) ≡ true
  bytes_aligned IntWidth.I16 = refl
  bytes_aligned _ = refl

  extents_put : (q : Place) (k : ℕ) (x : Intrinsic) (r : Option ℕ) (ty : Option Ty) (args : List Arg) (j : Instr) → Replaces s part k x r ty args j → breaks_extents Stage.Plain n q j ≡ false
  extents_put q k x r ty args _ (Number v w z a b c d) = refl
  extents_put q k x r ty args _ (Truth v b c d) = refl
  extents_put q k x r ty args _ (Address v p z a b c) = refl
  extents_put q k x r ty args _ (StoresResume p a b) = refl
  extents_put q k x r ty args _ (StoresDestroy p a b) = refl
  extents_put q k x r ty args _ (StoresCleanup p a b c) = refl
  extents_put q k x r ty args _ (StoresNull p a) = refl
  extents_put q k x r ty args _ (StoresIndex j p a b) = ap not (bytes_aligned s.width)
  extents_put q k x r ty args _ (Loads v p a b) = refl
  extents_put q k x r ty args _ (Calls v p a b) = refl
  extents_put q k x r ty args _ (Tests v a b) = refl

  pub extents_carried : (stage : Stage)
      → Carries s part 0 (either (on_instr (breaks_extents stage m)) (calls_otherwise m))
      (on_instr (breaks_extents Stage.Plain n))
  extents_carried stage =
      instr_carried (breaks_extents stage m) (breaks_extents Stage.Plain n)
      (λ p q i e. extents_larger stage n q i (extents_there m n (has_functions m n h) stage p q i ∙ e)) extents_put
      (λ q. (refl, (ap not (bytes_aligned s.width), tt)))

  -- ---- Y3

  closed_put : (q : Place) (k : ℕ) (x : Intrinsic) (r : Option ℕ) (ty : Option Ty) (args : List Arg) (j : Instr) → Replaces s part k x r ty args j → calls_closed n q j ≡ false
  closed_put q k x r ty args _ (Number v w z a b c d) = refl
  closed_put q k x r ty args _ (Truth v b c d) = refl
  closed_put q k x r ty args _ (Address v p z a b c) = refl
  closed_put q k x r ty args _ (StoresResume p a b) = refl
  closed_put q k x r ty args _ (StoresDestroy p a b) = refl
  closed_put q k x r ty args _ (StoresCleanup p a b c) = refl
  closed_put q k x r ty args _ (StoresNull p a) = refl
  closed_put q k x r ty args _ (StoresIndex j p a b) = refl
  closed_put q k x r ty args _ (Loads v p a b) = refl
  closed_put q k x r ty args _ (Calls v p a b) = refl
  closed_put q k x r ty args _ (Tests v a b) = refl

  closed_same : (p q : Place) (i : Instr) → closed_before m p i ≡ false → calls_closed n q i ≡ false
  closed_same p q (Instr.Call r must_tail ty (Callee.Named x) args) e = closed_there m n (has_functions m n h) x (holds (knows_callee m (Callee.Named x)) (second_no (is_closed m x) (not (knows_callee m (Callee.Named x))) e)) (first_no (is_closed m x) (not (knows_callee m (Callee.Named x))) e)
  closed_same p q _ e = refl

  pub closed_carried : Carries s part 0 (either (on_instr (closed_before m)) (calls_otherwise m)) (on_instr (calls_closed n))
  closed_carried = instr_carried (closed_before m) (calls_closed n) closed_same closed_put (λ q. (refl, (refl, tt)))

  -- ---- Y2

  abbrev otherwise_one : Place → Instr → Bool
  otherwise_one q j = calls_otherwise n q (OfInstr j)

  otherwise_same : (p q : Place) (i : Instr) → calls_otherwise m p (OfInstr i) ≡ false → calls_otherwise n q (OfInstr i) ≡ false
  otherwise_same p q (Instr.Call r must_tail ty callee args) e = ap not (callee_fits m n (has_functions m n h) ty args callee (holds _ e))
  otherwise_same p q _ e = refl

  otherwise_put : (q : Place) (k : ℕ) (x : Intrinsic) (r : Option ℕ) (ty : Option Ty) (args : List Arg) (j : Instr) → Replaces s part k x r ty args j → calls_otherwise n q (OfInstr j) ≡ false
  otherwise_put q k x r ty args _ (Number v w z a b c d) = refl
  otherwise_put q k x r ty args _ (Truth v b c d) = refl
  otherwise_put q k x r ty args _ (Address v p z a b c) = refl
  otherwise_put q k x r ty args _ (StoresResume p a b) = refl
  otherwise_put q k x r ty args _ (StoresDestroy p a b) = refl
  otherwise_put q k x r ty args _ (StoresCleanup p a b c) = refl
  otherwise_put q k x r ty args _ (StoresNull p a) = refl
  otherwise_put q k x r ty args _ (StoresIndex j p a b) = refl
  otherwise_put q k x r ty args _ (Loads v p a b) = refl
  otherwise_put q k x r ty args _ (Calls v p a b) = refl
  otherwise_put q k x r ty args _ (Tests v a b) = refl

  pub calls_carried : Carries s part 0 (calls_otherwise m) (calls_otherwise n)
  calls_carried =
      record {
        head = λ p b. refl;
        phi = λ p q x y of e. refl;
        instr = λ p q k i low again e. lowered_keeps m s part saves p (λ (j : Instr). calls_otherwise n q (OfInstr j)) (otherwise_put q) k i e (otherwise_same p q i e);
        ending = λ p q t e. refl;
        jump = λ q l. refl;
        return = λ e q. refl;
        stop = λ q. refl;
        index = λ e q. (refl, (refl, tt));
        switch = λ e flags q. refl;
      }

  -- ---- L1

  pub deep : (q : Place) (ts : List Ty) → all_fit n ts ≡ true → (is_block_past Stage.Plain q.block || not (all_fit n ts)) ≡ false
  deep q ts e = (λ i. no_block q.block i || not (e i))

  pub deep_again : (p q : Place) (ts us : List Ty) → us ≡ ts → (is_block_past Stage.Plain p.block || not (all_fit m ts)) ≡ false → (is_block_past Stage.Plain q.block || not (all_fit n us)) ≡ false
  deep_again p q ts us same e =
      deep q us (ap (all_fit n) same ∙ depths_there m n (has_functions m n h) ts ∙ holds (all_fit m ts) (second_no (is_block_past Stage.Plain p.block) (not (all_fit m ts)) e))

  one_fits : (t : Ty) → is_shallow n.types t ≡ true → all_fit n (t ∷ []) ≡ true
  one_fits t e = and_both (is_shallow n.types t) true e refl

  two_fit : (t u : Ty) → is_shallow n.types t ≡ true → is_shallow n.types u ≡ true → all_fit n (t ∷ u ∷ []) ≡ true
  two_fit t u d e = and_both (is_shallow n.types t) (all_fit n (u ∷ [])) d (one_fits u e)

  depths_put : (q : Place) (k : ℕ) (x : Intrinsic) (r : Option ℕ) (ty : Option Ty) (args : List Arg) (j : Instr) → Replaces s part k x r ty args j → all_fit n (instr_types j) ≡ true
  depths_put q k x r ty args _ (Number v w z a b c d) = one_fits (int w) (shallow_int n.types w)
  depths_put q k x r ty args _ (Truth v b c d) = one_fits (int 1) (shallow_int n.types 1)
  depths_put q k x r ty args _ (Address v p z a b c) = two_fit (int 8) (int 64) (shallow_int n.types 8) (shallow_int n.types 64)
  depths_put q k x r ty args _ (StoresResume p a b) = one_fits ptr (shallow_ptr n.types)
  depths_put q k x r ty args _ (StoresDestroy p a b) = one_fits ptr (shallow_ptr n.types)
  depths_put q k x r ty args _ (StoresCleanup p a b c) = one_fits ptr (shallow_ptr n.types)
  depths_put q k x r ty args _ (StoresNull p a) = one_fits ptr (shallow_ptr n.types)
  depths_put q k x r ty args _ (StoresIndex j p a b) = one_fits (int _) (shallow_int n.types _)
  depths_put q k x r ty args _ (Loads v p a b) = one_fits ptr (shallow_ptr n.types)
  depths_put q k x r ty args _ (Calls v p a b) = one_fits ptr (shallow_ptr n.types)
  depths_put q k x r ty args _ (Tests v a b) = one_fits ptr (shallow_ptr n.types)

  cases_fit : (flags : List Bool) (j : ℕ) (ps : List SuspendPoint) → all_fit n (map (λ (k : Case). k.arg.ty) (cases_from s flags part j ps)) ≡ true
  cases_fit flags j [] = refl
  cases_fit flags j (p ∷ ps) = on (is_entered flags part p) (cases_fit flags (j + 1) ps)
    where
      on : (b : Bool) → all_fit n (map (λ (k : Case). k.arg.ty) (cases_from s flags part (j + 1) ps)) ≡ true → all_fit n (map (λ (k : Case). k.arg.ty) ((if b then case_of s j ∷ [] else []) ++ cases_from s flags part (j + 1) ps)) ≡ true
      on true e = and_both (is_shallow n.types (int (bits_of s.width))) (all_fit n (map (λ (k : Case). k.arg.ty) (cases_from s flags part (j + 1) ps))) (shallow_int n.types (bits_of s.width)) e
      on false e = e

  depths_instr : (p q : Place) (k : ℕ) (i : Instr) → either (breaks_limits Stage.Plain m None) (calls_otherwise m) p (OfInstr i) ≡ false → Each (λ (j : Instr). breaks_limits Stage.Plain n None q (OfInstr j) ≡ false) (lowered s part k i)
  depths_instr p q k i e =
      let before = first_no (breaks_limits Stage.Plain m None p (OfInstr i)) (calls_otherwise m p (OfInstr i)) e in
      let calls = second_no (breaks_limits Stage.Plain m None p (OfInstr i)) (calls_otherwise m p (OfInstr i)) e in
      lowered_keeps m s part saves p (λ (j : Instr). breaks_limits Stage.Plain n None q (OfInstr j)) (λ l x r ty args j c. deep q (instr_types j) (depths_put q l x r ty args j c)) k i calls
      (deep_again p q (instr_types i) (instr_types i) refl before)

  pub depths_carried : Carries s part 0 (either (breaks_limits Stage.Plain m None) (calls_otherwise m)) (breaks_limits Stage.Plain n None)
  depths_carried =
      record {
        head = λ p b. deep p [] refl;
        phi = λ p q x y of e. deep_again p q (x.ty ∷ []) (y.ty ∷ []) (λ i. of.ty i ∷ []) (first_no (breaks_limits Stage.Plain m None p (OfPhi x)) false e);
        instr = λ p q k i low again e. depths_instr p q k i e;
        ending = λ p q t e. deep_again p q (ending_types t) (ending_types (redirected_term s t)) (same_term_types s t) (first_no (breaks_limits Stage.Plain m None p (Ending t)) false e);
        jump = λ q l. deep q [] refl;
        return = λ e q. deep q [] refl;
        stop = λ q. deep q [] refl;
        index = λ e q. (deep q (int 8 ∷ int 64 ∷ []) (two_fit (int 8) (int 64) (shallow_int n.types 8) (shallow_int n.types 64)), (deep q (int (bits_of s.width) ∷ []) (one_fits (int (bits_of s.width)) (shallow_int n.types (bits_of s.width))), tt));
        switch = λ e flags q. deep q (ending_types (entry_term s flags part))
            (and_both (is_shallow n.types (int (bits_of s.width))) (all_fit n (map (λ (k : Case). k.arg.ty) (cases_from s flags part 0 s.suspends))) (shallow_int n.types (bits_of s.width)) (cases_fit flags 0 s.suspends));
      }
