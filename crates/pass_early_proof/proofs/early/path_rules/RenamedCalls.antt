-- The calls of a renamed function: rules K2, K4 and K11.
use Rattle.std.proofs.Common.{◌≡◌, ℕ, ◌+◌, Bool, true, false, List, [], ◌∷◌, ◌++◌, length, refl, sym, ap, ◌∙◌, subst}
use Rattle.std.specs.Prelude.{Some, None, Option, find, is_none, map, not, option_and_then, option_map, slice_get, if◌then◌else◌, ◌&&◌, ◌||◌}
use Rattle.rule_laws.specs.ir_base.declared.outcome.Place.{Place}
use Rattle.rule_laws.specs.ir_calls.Calls.{first_call, first_call_by, first_call_in, is_null, is_true, is_value, or_instr, value_of_first}
use Rattle.rule_laws.specs.rule_shape.OneOfEach.{breaks_calls, calls_of, has_frame_at, has_no_other_frame, has_token, is_first_in_block, is_right, is_right_instr, is_second, wrong_call}
use Rattle.rule_laws.specs.rule_shape.Places.{places_by, places_in, places_where}
use Rattle.rule_laws.specs.rule_shape.Suspends.{is_final_suspend, is_suspend, second_final, suspend_too_many}
use Rattle.rule_laws.specs.rule_shape.declared.one_of_each.Calls.{Calls}
use Rattle.run_states.proofs.renamed.Modules.{length_same}
use Rattle.pass_early_proof.proofs.early.renaming.Parts.{call_of_same, call_operand_same, operand_at_same, result_same}
use Rattle.pass_early_proof.proofs.early.renaming.Simulation.{other_call}
use Rattle.rule_laws.proofs.rules.renamed.Switches.{none_part}
use Rattle.pass_early_proof.specs.early.renaming.Passes.{renamed_block, renamed_coroutine}
use Rattle.pass_early_proof.specs.early.renaming.Regular.{IsRegular}
use Rattle.pass_early.specs.Renaming.{is_renamed, renamed, renamed_arg, renamed_instr, renamed_phi}
use Rattle.pass_early.specs.declared.renaming.Renaming.{Renaming}
use Rattle.rule_laws.proofs.rules.path_rules.Holding.{HoldsIn, of_parts, part_none, to_parts}
use Rattle.pass_early_proof.proofs.early.path_rules.RenamedOperands.{local_stays, map_was, null_stays, true_stays}
use Rattle.rule_laws.proofs.rules.source_rules.Once.{first_call_at}
use Rattle.rule_laws.specs.ir_parts.Parts.{OfInstr, first_part, instr_place, parts_of}
use Rattle.ir_model.specs.declared.instr.Instr.{Instr}
use Rattle.ir_model.specs.declared.module.Block.{Block}
use Rattle.ir_model.specs.declared.module.Function.{Function}
use Rattle.ir_model.specs.declared.operand.Arg.{Arg}
use Rattle.ir_model.specs.declared.operand.Callee.{Callee}
use Rattle.ir_model.specs.declared.operand.Intrinsic.{Intrinsic}
use Rattle.ir_model.specs.declared.operand.Operand.{Operand}
use Rattle.rule_laws.specs.ir_paths.Windows.{call_operand, call_result, is_call_of, operand_at}
use Rattle.rule_laws.specs.run_laws.changed.Changed.{result_of}
use Rattle.rule_laws.proofs.ir_laws.facts.Truth.{both_stay, second_false}

pub call_result_is : (k : Intrinsic) (i : Instr) → is_call_of k i ≡ true → result_of i ≡ call_result i
call_result_is k (Instr.Call result must_tail ty callee args) e = refl
call_result_is k _ e = absurd (cc)

-- ---- places

module _ (r : Renaming) (t : Instr → Bool) (h : (i : Instr) → t (renamed_instr r i) ≡ t i) (func : ℕ) where
  places_in_same : (block at : ℕ) (is : List Instr) → places_in t func block at (map (renamed_instr r) is) ≡ places_in t func block at is
  places_in_same block at [] = refl
  places_in_same block at (i ∷ is) = λ k. (if h i k then instr_place func block at ∷ [] else []) ++ places_in_same block (at + 1) is k

  places_by_same : (block : ℕ) (bs : List Block) → places_by t func block (map (renamed_block r) bs) ≡ places_by t func block bs
  places_by_same block [] = refl
  places_by_same block (b ∷ bs) =
      (λ k. places_in t func block (length_same (renamed_phi r) b.phis k) (map (renamed_instr r) b.instrs) ++ places_by_same (block + 1) bs k)
      ∙ ap (λ (ps : List Place). ps ++ places_by t func (block + 1) bs) (places_in_same block (length b.phis) b.instrs)

  pub places_same : (f : Function) → places_where t func (renamed_coroutine r f) ≡ places_where t func f
  places_same f = places_by_same 0 f.blocks

module _ (r : Renaming) where
  pub final_same : (i : Instr) → is_final_suspend (renamed_instr r i) ≡ is_final_suspend i
  final_same i = λ k. call_of_same r Intrinsic.CoroSuspend i k && (ap is_true (call_operand_same r i 1) ∙ true_stays r (call_operand i 1)) k

  -- ---- K4 and K11

  pub second_final_renamed : (func : ℕ) (f : Function) → second_final func f ≡ None → second_final func (renamed_coroutine r f) ≡ None
  second_final_renamed func f e = ap (λ (ps : List Place). if f.coroutine then slice_get ps 1 else None) (places_same r is_final_suspend final_same func f) ∙ e

  pub too_many_renamed : (func : ℕ) (f : Function) → suspend_too_many func f ≡ None → suspend_too_many func (renamed_coroutine r f) ≡ None
  too_many_renamed func f e = ap (λ (ps : List Place). if f.coroutine then slice_get ps 65536 else None) (places_same r is_suspend (call_of_same r Intrinsic.CoroSuspend) func f) ∙ e

  -- ---- the first call of an intrinsic

  first_in_renamed : (k : Intrinsic) (is : List Instr) → first_call_in k (map (renamed_instr r) is) ≡ option_map (renamed_instr r) (first_call_in k is)
  first_in_renamed k [] = refl
  first_in_renamed k (i ∷ is) = ap (λ (b : Bool). if b then Some (renamed_instr r i) else find (is_call_of k) (map (renamed_instr r) is)) (call_of_same r k i) ∙ on (is_call_of k i) (first_in_renamed k is)
    where
      on : (b : Bool) → first_call_in k (map (renamed_instr r) is) ≡ option_map (renamed_instr r) (first_call_in k is) → (if b then Some (renamed_instr r i) else find (is_call_of k) (map (renamed_instr r) is)) ≡ option_map (renamed_instr r) (if b then Some i else find (is_call_of k) is)
      on true again = refl
      on false again = again

  first_by_renamed : (k : Intrinsic) (bs : List Block) → first_call_by k (map (renamed_block r) bs) ≡ option_map (renamed_instr r) (first_call_by k bs)
  first_by_renamed k [] = refl
  first_by_renamed k (b ∷ bs) = (λ j. or_instr (first_in_renamed k b.instrs j) (first_by_renamed k bs j)) ∙ on (first_call_in k b.instrs)
    where
      on : (o : Option Instr) → or_instr (option_map (renamed_instr r) o) (option_map (renamed_instr r) (first_call_by k bs)) ≡ option_map (renamed_instr r) (or_instr o (first_call_by k bs))
      on None = refl
      on (Some i) = refl

  pub first_call_renamed : (k : Intrinsic) (f : Function) → first_call k (renamed_coroutine r f) ≡ option_map (renamed_instr r) (first_call k f)
  first_call_renamed k f = first_by_renamed k f.blocks

  missing_same : (o : Option Instr) → is_none (option_map (renamed_instr r) o) ≡ is_none o
  missing_same None = refl
  missing_same (Some i) = refl

  value_same : (o : Option Instr) → option_and_then call_result (option_map (renamed_instr r) o) ≡ option_and_then call_result o
  value_same None = refl
  value_same (Some i) = result_same r i

  calls_renamed : (func : ℕ) (f : Function) → calls_of func (renamed_coroutine r f) ≡ calls_of func f
  calls_renamed func f = λ k. record {
    is_missing = missing Intrinsic.CoroId k || (missing Intrinsic.CoroBegin k || missing Intrinsic.CoroEnd k);
    second_id = slice_get (places_same r (is_call_of Intrinsic.CoroId) (call_of_same r Intrinsic.CoroId) func f k) 1;
    second_begin = slice_get (places_same r (is_call_of Intrinsic.CoroBegin) (call_of_same r Intrinsic.CoroBegin) func f k) 1;
    second_end = slice_get (places_same r (is_call_of Intrinsic.CoroEnd) (call_of_same r Intrinsic.CoroEnd) func f k) 1;
    token = (ap (option_and_then call_result) (first_call_renamed Intrinsic.CoroId f) ∙ value_same (first_call Intrinsic.CoroId f)) k;
    frame = (ap (option_and_then call_result) (first_call_renamed Intrinsic.CoroBegin f) ∙ value_same (first_call Intrinsic.CoroBegin f)) k;
  }
    where
      missing : (k : Intrinsic) → is_none (first_call k (renamed_coroutine r f)) ≡ is_none (first_call k f)
      missing k = ap is_none (first_call_renamed k f) ∙ missing_same (first_call k f)

-- ---- K2

-- a value that stays is named as it was
value_stays : (r : Renaming) (o : Option ℕ) (x : Operand) → ((v : ℕ) → o ≡ Some v → is_renamed r v ≡ false) → is_value o x ≡ true → is_value o (renamed r x) ≡ true
value_stays r None x h e = absurd (cc)
value_stays r (Some v) x h e = local_stays r v x (h v refl) e

pub either_stays : (a b c d : Bool) → c ≡ a → (b ≡ true → d ≡ true) → (a || b) ≡ true → (c || d) ≡ true
either_stays true b c d h k e = ap (λ (x : Bool). x || d) h
either_stays false b c d h k e = ap (λ (x : Bool). x || d) h ∙ k e

module _ (r : Renaming) (s : Calls) (token : (v : ℕ) → s.token ≡ Some v → is_renamed r v ≡ false) (frame : (v : ℕ) → s.frame ≡ Some v → is_renamed r v ≡ false) where
  token_stays : (args : List Arg) → has_token s args ≡ true → has_token s (map (renamed_arg r) args) ≡ true
  token_stays args e = ap (is_value s.token) (operand_at_same r args 0) ∙ value_stays r s.token (operand_at args 0) token e

  frame_stays : (n : ℕ) (args : List Arg) → has_frame_at s n args ≡ true → has_frame_at s n (map (renamed_arg r) args) ≡ true
  frame_stays n args e = ap (is_value s.frame) (operand_at_same r args n) ∙ value_stays r s.frame (operand_at args n) frame e

  other_stays : (args : List Arg) → has_no_other_frame s args ≡ true → has_no_other_frame s (map (renamed_arg r) args) ≡ true
  other_stays args e = either_stays (is_null (operand_at args 0)) (has_frame_at s 0 args) (is_null (operand_at (map (renamed_arg r) args) 0)) (has_frame_at s 0 (map (renamed_arg r) args)) (ap is_null (operand_at_same r args 0) ∙ null_stays r (operand_at args 0)) (frame_stays 0 args) e

  right_renamed : (p : Place) (j : Intrinsic) (args : List Arg) → is_right s p j args ≡ true → is_right s p j (map (renamed_arg r) args) ≡ true
  right_renamed p Intrinsic.CoroAlloc args e = token_stays args e
  right_renamed p Intrinsic.CoroBegin args e = token_stays args e
  right_renamed p Intrinsic.CoroFree args e = both_stay (has_token s args) (has_frame_at s 1 args) (has_token s (map (renamed_arg r) args)) (has_frame_at s 1 (map (renamed_arg r) args)) (token_stays args) (frame_stays 1 args) e
  right_renamed p Intrinsic.CoroSave args e = other_stays args e
  right_renamed p Intrinsic.CoroEnd args e = both_stay (is_first_in_block p) (has_no_other_frame s args) (is_first_in_block p) (has_no_other_frame s (map (renamed_arg r) args)) (λ h. h) (other_stays args) e
  right_renamed p _ args e = refl

  instr_renamed : (p : Place) (i : Instr) → is_right_instr s p i ≡ true → is_right_instr s p (renamed_instr r i) ≡ true
  instr_renamed p (Instr.Call result must_tail ty (Callee.Intrinsic j) args) e = right_renamed p j args e
  instr_renamed p (Instr.Call result must_tail ty (Callee.Named n) args) e = refl
  instr_renamed p (Instr.Call result must_tail ty (Callee.Allocator a) args) e = refl
  instr_renamed p (Instr.Call result must_tail ty (Callee.Local n) args) e = refl
  instr_renamed p (Instr.Binary name op flags ty a b) e = refl
  instr_renamed p (Instr.Icmp name pred ty a b) e = refl
  instr_renamed p (Instr.Select name x a b) e = refl
  instr_renamed p (Instr.Cast name op nneg arg to) e = refl
  instr_renamed p (Instr.Alloca name ty align) e = refl
  instr_renamed p (Instr.Load name ty q align) e = refl
  instr_renamed p (Instr.Store arg q align) e = refl
  instr_renamed p (Instr.Gep name inbounds ty base indices) e = refl

  call_renamed : (p : Place) (i : Instr) → breaks_calls s p (OfInstr i) ≡ false → breaks_calls s p (OfInstr (renamed_instr r i)) ≡ false
  call_renamed p i e =
      let was = second_false (is_second s p) (is_right_instr s p i) e in
      (λ k. was.0 k || not (instr_renamed p i was.1 k))

module _ (r : Renaming) (func : ℕ) (f : Function) (coroutine : f.coroutine ≡ true) (ok : IsRegular f r) where
  abbrev g : Function
  g = renamed_coroutine r f

  -- the value of the first call of what is no coro.frame stays
  first_stays : (k : Intrinsic) → ((i : Instr) → is_call_of k i ≡ true → is_call_of Intrinsic.CoroFrame i ≡ false) → (v : ℕ) → value_of_first k f ≡ Some v → is_renamed r v ≡ false
  first_stays k other v e = on (first_call k f) refl e
    where
      by : (i : Instr) → first_call k f ≡ Some i → call_result i ≡ Some v → (b : Bool) → is_renamed r v ≡ b → b ≡ false
      by i there result true renamed =
          let x = first_call_at f k i there in
          let t : true ≡ false = sym (ok.frame_calls x.point i v x.stands (call_result_is k i x.is_call ∙ result) renamed) ∙ other i x.is_call in
          absurd (cc)
      by i there result false renamed = refl

      on : (o : Option Instr) → first_call k f ≡ o → option_and_then call_result o ≡ Some v → is_renamed r v ≡ false
      on None there result = absurd (cc)
      on (Some i) there result = by i there result (is_renamed r v) refl

  pub wrong_call_renamed : wrong_call func f ≡ None → wrong_call func g ≡ None
  wrong_call_renamed e =
      let s : Calls = calls_of func f in
      let parts = of_parts (λ x. breaks_calls s x.0 x.1 ≡ false) func f (none_part (breaks_calls s) (parts_of func f) (subst (λ (b : Bool). (if b then first_part (breaks_calls s) (parts_of func f) else None) ≡ None) coroutine e)) in
      subst (λ (b : Bool). (if b then first_part (breaks_calls (calls_of func g)) (parts_of func g) else None) ≡ None) (sym coroutine)
      (subst (λ (c : Calls). first_part (breaks_calls c) (parts_of func g) ≡ None) (sym (calls_renamed r func f))
      (part_none (breaks_calls s) (parts_of func g) (to_parts (λ x. breaks_calls s x.0 x.1 ≡ false) func g (record {
        signature = parts.signature;
        blocks = λ k d there.
            let x = map_was (renamed_block r) f.blocks k d there in
            subst (HoldsIn (λ x. breaks_calls s x.0 x.1 ≡ false) func k) (sym x.1.1) (record {
              head = refl;
              phis = λ j p q. refl;
              instrs = λ j y q. on k x.0 j y (parts.blocks k x.0 x.1.0) q;
              ending = refl;
            });
      }))))
    where
      token : (v : ℕ) → value_of_first Intrinsic.CoroId f ≡ Some v → is_renamed r v ≡ false
      token = first_stays Intrinsic.CoroId (λ i c. other_call Intrinsic.CoroId Intrinsic.CoroFrame i c refl)

      frame : (v : ℕ) → value_of_first Intrinsic.CoroBegin f ≡ Some v → is_renamed r v ≡ false
      frame = first_stays Intrinsic.CoroBegin (λ i c. other_call Intrinsic.CoroBegin Intrinsic.CoroFrame i c refl)

      on : (k : ℕ) (b : Block) (j : ℕ) (y : Instr) → HoldsIn (λ x. breaks_calls (calls_of func f) x.0 x.1 ≡ false) func k b → slice_get (map (renamed_instr r) b.instrs) j ≡ Some y → breaks_calls (calls_of func f) (instr_place func k (length (map (renamed_phi r) b.phis) + j)) (OfInstr y) ≡ false
      on k b j y holds q =
          let was = map_was (renamed_instr r) b.instrs j y q in
          subst (λ (n : ℕ). breaks_calls (calls_of func f) (instr_place func k (n + j)) (OfInstr y) ≡ false) (sym (length_same (renamed_phi r) b.phis))
          (subst (λ (z : Instr). breaks_calls (calls_of func f) (instr_place func k (length b.phis + j)) (OfInstr z) ≡ false) (sym was.1.1)
          (call_renamed r (calls_of func f) token frame (instr_place func k (length b.phis + j)) was.0 (holds.instrs j was.0 was.1.0)))
