-- A suspend that its switch follows at once (rule K3): what is dead at it is dead behind it.
use Rattle.std.proofs.Common.{◌≡◌, ℕ, ◌+◌, Bool, true, false, List, [], ◌∷◌, length, refl, sym, ap, ◌∙◌, subst, arith}
use Rattle.std.specs.List.{list_any}
use Rattle.std.specs.Prelude.{IsTrue, Some, None, Option, map, not, slice_get, ◌==◌, ◌||◌, ◌&&◌, if◌then◌else◌}
use Rattle.rule_laws.specs.rule_shape.Switches.{breaks_switch, end_label, is_last, is_switch_on, is_switched, is_switched_in, wrong_switch}
use Rattle.pass_early_proof.proofs.early.renaming.Invariant.{dead_next, next_edge, unstopped_at}
use Rattle.pass_early_proof.proofs.early.renaming.Kept.{target_edge}
use Rattle.rule_laws.proofs.ir_laws.facts.Truth.{equal_numbers, itself, both_true, or_right as later_is}
use Rattle.rule_laws.proofs.rules.renamed.Outside.{at_point}
use Rattle.rule_laws.specs.ir_laws.paths.renamed.Regular.{Here, IsDead, OnEdge}
use Rattle.pass_early_proof.specs.early.renaming.Regular.{IsDeadAt, IsDeadBehind}
use Rattle.rule_laws.specs.ir_laws.facts.renamed.Regular.{is_result}
use Rattle.pass_early.specs.declared.renaming.Renaming.{Renaming}
use Rattle.rule_laws.specs.ir_parts.Parts.{first_part, instr_place, parts_of}
use Rattle.ir_model.specs.declared.instr.Case.{Case}
use Rattle.ir_model.specs.declared.instr.Instr.{Instr}
use Rattle.ir_model.specs.declared.instr.Terminator.{Terminator}
use Rattle.ir_model.specs.declared.module.Block.{Block}
use Rattle.ir_model.specs.declared.module.Function.{Function}
use Rattle.ir_model.specs.declared.operand.Intrinsic.{Intrinsic}
use Rattle.rule_laws.specs.ir_paths.Paths.{entry_point, targets}
use Rattle.rule_laws.specs.ir_paths.Windows.{call_result, destroy_label, instr_at, instr_in, is_call_of, is_number, label_at, label_in, label_of_term, resume_label}
use Rattle.rule_laws.specs.ir_paths.declared.point.Point.{Point}
use Rattle.rule_laws.specs.run_laws.changed.Changed.{result_of}
use Rattle.rule_laws.specs.rule_windows.Points.{phi_count, phis_in}
use Rattle.rule_laws.proofs.ir_laws.paths.renamed.Switches.{suspend_no_end}
use Rattle.rule_laws.proofs.rules.renamed.Switches.{none_part}

-- the suspend is the last instruction of its block, behind which a switch stands
record IsSwitched (f : Function) (s : Point) : Type 0 where
  block : Block
  got : slice_get f.blocks s.block ≡ Some block
  last : s.at + 1 ≡ length block.instrs
  on : (n : ℕ) → IsTrue (list_any (λ l. l == label_of_term n block.term) (targets block.term))

here_is : (l : ℕ) (b : Bool) → IsTrue ((l == l) || b)
here_is l b = subst (λ (t : Bool). IsTrue (t || b)) (sym (itself l)) refl

case_in : (n : ℕ) (cases : List Case) (default : ℕ) → IsTrue (list_any (λ l. l == label_in n cases default) (default ∷ map (λ k. k.target) cases))
case_in n [] default = here_is default false
case_in n (k ∷ cases) default = on (is_number n k.arg.value) (case_in n cases default)
  where
    swap : (a b d : Bool) → IsTrue (a || d) → IsTrue (a || (b || d))
    swap true b d h = refl
    swap false b d h = later_is b d h

    on : (t : Bool) → IsTrue (list_any (λ l. l == label_in n cases default) (default ∷ map (λ c. c.target) cases)) → IsTrue (list_any (λ l. l == (if t then k.target else label_in n cases default)) (default ∷ k.target ∷ map (λ c. c.target) cases))
    on true h = later_is (default == k.target) ((k.target == k.target) || list_any (λ l. l == k.target) (map (λ c. c.target) cases)) (here_is k.target (list_any (λ l. l == k.target) (map (λ c. c.target) cases)))
    on false h = swap (default == label_in n cases default) (k.target == label_in n cases default) (list_any (λ l. l == label_in n cases default) (map (λ c. c.target) cases)) h

switch_in : (v : ℕ) (end : Option ℕ) (t : Terminator) → is_switch_on v end t ≡ true → (n : ℕ) → IsTrue (list_any (λ l. l == label_of_term n t) (targets t))
switch_in v end (Terminator.Switch arg default cases) e n = case_in n cases default
switch_in v end (Terminator.Jump label) e n = absurd (cc)
switch_in v end (Terminator.Branch x a b) e n = absurd (cc)
switch_in v end (Terminator.Ret value) e n = absurd (cc)
switch_in v end Terminator.Unreachable e n = absurd (cc)

module _ (func : ℕ) (f : Function) (coroutine : f.coroutine ≡ true) (switches : wrong_switch func f ≡ None) where
  no_part : first_part (breaks_switch f) (parts_of func f) ≡ None
  no_part = subst (λ (c : Bool). (if c then first_part (breaks_switch f) (parts_of func f) else None) ≡ None) coroutine switches

  switched_at : (s : Point) (i : Instr) → instr_at f s ≡ Some i → is_call_of Intrinsic.CoroSuspend i ≡ true → is_switched f (instr_place func s.block (phi_count f s.block + s.at)) (call_result i) ≡ true
  switched_at s i e is = on (is_switched f (instr_place func s.block (phi_count f s.block + s.at)) (call_result i)) refl
    where
      right : (is_call_of Intrinsic.CoroSuspend i && not (is_switched f (instr_place func s.block (phi_count f s.block + s.at)) (call_result i))) ≡ false
      right = at_point (λ x. breaks_switch f x.0 x.1 ≡ false) func f s i (none_part (breaks_switch f) (parts_of func f) no_part) e

      on : (b : Bool) → is_switched f (instr_place func s.block (phi_count f s.block + s.at)) (call_result i) ≡ b → b ≡ true
      on true d = refl
      on false d = let t : true ≡ false = sym (λ k. is k && not (d k)) ∙ right in absurd (cc)

  in_its_block : (s : Point) (v : ℕ) (o : Option Block) → slice_get f.blocks s.block ≡ o → is_switched_in f v (instr_place func s.block (phis_in o + s.at)) o ≡ true → IsSwitched f s
  in_its_block s v None e h = absurd (cc)
  in_its_block s v (Some b) e h =
      let first = both_true (is_last b (Some (length b.phis + s.at))) _ h in
      let second = both_true (is_switch_on v (end_label f) b.term) _ first.1 in
      let sum : length b.phis + s.at + 1 ≡ length b.phis + length b.instrs = equal_numbers (length b.phis + s.at + 1) (length b.phis + length b.instrs) first.0 in
      record { block = b; got = e; last = omega arith; on = switch_in v (end_label f) b.term second.0 }

  by_result : (s : Point) (o : Option ℕ) → is_switched f (instr_place func s.block (phi_count f s.block + s.at)) o ≡ true → IsSwitched f s
  by_result s None h = absurd (cc)
  by_result s (Some v) h = in_its_block s v (slice_get f.blocks s.block) refl h

  get_past : (xs : List Instr) → slice_get xs (length xs) ≡ None
  get_past [] = refl
  get_past (x ∷ xs) = get_past xs

  module _ (r : Renaming) (n : ℕ) (s : Point) (i : Instr) (here : instr_at f s ≡ Some i) (sw : IsSwitched f s) (end : is_call_of Intrinsic.CoroEnd i ≡ false) (unmade : is_result n (result_of i) ≡ false) (dead : IsDead f true n s) where
    dead_at : (label k : ℕ) → label ≡ label_of_term k sw.block.term → IsDeadAt f n s label
    dead_at label k e =
        let t : Point = record { block = s.block; at = s.at + 1 } in
        let gone : instr_at f t ≡ None = ap (λ (o : Option Block). instr_in o (s.at + 1)) sw.got ∙ ap (slice_get sw.block.instrs) sw.last ∙ get_past sw.block.instrs in
        let dead_there : IsDead f true n t = dead_next f r true n s t (unstopped_at f r true n s (Some i) here end unmade) (next_edge f s i here) dead in
        let target : IsTrue (list_any (λ l. l == label) (targets sw.block.term)) = subst (λ (x : ℕ). IsTrue (list_any (λ l. l == x) (targets sw.block.term))) (sym e) (sw.on k) in
        record {
          ahead = dead_next f r true n t (entry_point f label) (unstopped_at f r true n t None gone refl refl) (target_edge f t sw.block label sw.got sw.last target) dead_there;
          not_taken = λ taken. dead_there t Here (OnEdge sw.block label sw.got sw.last target taken);
        }

    dead_both : IsDeadBehind f n s
    dead_both = record { resumed = dead_at (resume_label f s) 0 (ap (label_at 0) sw.got); destroyed = dead_at (destroy_label f s) 1 (ap (label_at 1) sw.got) }

  pub dead_behind_suspend : (r : Renaming) (n : ℕ) (s : Point) (i : Instr) → instr_at f s ≡ Some i → is_call_of Intrinsic.CoroSuspend i ≡ true → is_result n (result_of i) ≡ false → IsDead f true n s → IsDeadBehind f n s
  dead_behind_suspend r n s i here is unmade dead = dead_both r n s i here (by_result s (call_result i) (switched_at s i here is)) (suspend_no_end i is) unmade dead
