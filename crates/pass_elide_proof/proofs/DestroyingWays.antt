-- From where a destroy enters a suspended instance a path goes on to a coro.free: it begins at a destroy edge.
use Rattle.std.proofs.Common.{◌≡◌, ◌⊎◌, inl, inr, ◌+◌, ℕ, zero, suc, Bool, true, false, List, [], ◌∷◌, length, refl, sym, ap, ◌∙◌, subst, arith, if◌then◌else◌, ◌&&◌, ◌||◌, ◌==◌}
use Rattle.std.specs.Prelude.{None, Option, Some, option_and_then, pos, slice_get, ◌-◌}
use Rattle.elide_shape.specs.Edges.{edges_by, edges_of, edges_out}
use Rattle.elide_shape.specs.declared.edges.Edge.{Edge}
use Rattle.elide_sites.specs.Destroyed.{IsOn, Start, is_destroy, target_if, targets_of}
use Rattle.elide_sites.specs.declared.destroyed.Way.{Way}
use Rattle.pass_elide_proof.proofs.DestroyingSteps.{listed_left, listed_right}
use Rattle.pass_elide_proof.proofs.GoesOn.{instr_there}
use Rattle.pass_elide_proof.specs.Destroying.{AreDestroysOnWay}
use Rattle.pass_elide_proof.specs.Places.{instrs_in}
use Rattle.pass_proofs.proofs.ir_laws.facts.Truth.{both_true, equal_numbers, itself}
use Rattle.pass_proofs.specs.edges.rules.Returns.{AreSwitched}
use Rattle.pass_proofs.specs.pass_edges.Edges.{is_suspend}
use Rattle.pass_proofs.specs.flow_blocks.Kinds.{is_value, kind_at, kind_in, kind_of, kind_of_case, kind_of_ending, suspended}
use Rattle.pass_proofs.specs.flow_blocks.declared.kinds.EdgeKind.{EdgeKind}
use Rattle.pass_proofs.specs.flow_solver.Paths.{IsListed}
use Rattle.pass_proofs.specs.ir_model.Calls.{result_of_call}
use Rattle.pass_proofs.specs.ir_model.Names.{function_at, position_of, same_intrinsic}
use Rattle.pass_proofs.specs.ir_model.declared.instr.Case.{Case}
use Rattle.pass_proofs.specs.ir_model.declared.instr.Instr.{Instr}
use Rattle.pass_proofs.specs.ir_model.declared.instr.Terminator.{Terminator}
use Rattle.pass_proofs.specs.ir_model.declared.module.Block.{Block}
use Rattle.pass_proofs.specs.ir_model.declared.module.Function.{Function}
use Rattle.pass_proofs.specs.ir_model.declared.operand.Callee.{Callee}
use Rattle.pass_proofs.specs.ir_model.declared.operand.Intrinsic.{Intrinsic}
use Rattle.pass_proofs.specs.ir_model.declared.operand.Operand.{Operand}
use Rattle.pass_proofs.specs.ir_paths.Paths.{targets}
use Rattle.pass_proofs.specs.ir_paths.Windows.{call_result, destroy_label, is_call_of, is_number, label_at, label_in, label_of_term}
use Rattle.pass_proofs.specs.ir_paths.declared.point.Point.{Point}
use Rattle.pass_proofs.specs.rule_laws.rules.rows.Returns.{IsSwitched}
use Rattle.pass_proofs.specs.rule_shape.Switches.{are_both}
use Rattle.pass_proofs.specs.run_source.declared.state.Instance.{Instance}
use Rattle.pass_proofs.specs.run_source_tables.Given.{Given}
use Rattle.pass_proofs.specs.pass_kept_proof.Related.{AreSoundInstances, IsSoundStatus}
use Rattle.pass_proofs.specs.pass_kept_proof.SuspendRules.{IsCallAt}

-- ---- edges

by_any : (f : Function) (from : ℕ) (bs : List Block) (k : ℕ) (b : Block) (e : Edge) → slice_get bs k ≡ Some b
    → IsListed e (edges_out f (from + k) 0 (targets b.term)) → IsListed e (edges_by f from bs)
by_any f from [] k b e at l = absurd (cc)
by_any f from (c ∷ bs) zero b e at l =
    let same : c ≡ b = cc in
    let first : from + 0 ≡ from = omega arith in
    listed_left e (edges_out f from 0 (targets c.term)) (edges_by f (from + 1) bs)
    (subst (λ (z : Block). IsListed e (edges_out f from 0 (targets z.term))) (sym same)
    (subst (λ (n : ℕ). IsListed e (edges_out f n 0 (targets b.term))) first l))
by_any f from (c ∷ bs) (suc k) b e at l =
    let further : from + suc k ≡ from + 1 + k = omega arith in
    listed_right e (edges_out f from 0 (targets c.term)) (edges_by f (from + 1) bs)
    (by_any f (from + 1) bs k b e at (subst (λ (n : ℕ). IsListed e (edges_out f n 0 (targets b.term))) further l))

any_edge : (f : Function) (block : ℕ) (b : Block) (e : Edge) → slice_get f.blocks block ≡ Some b
    → IsListed e (edges_out f block 0 (targets b.term)) → IsListed e (edges_of f)
unfolding edges_of
any_edge f block b e at l = by_any f 0 f.blocks block b e at (subst (λ (n : ℕ). IsListed e (edges_out f n 0 (targets b.term))) (from_zero block) l)
  where
    from_zero : (n : ℕ) → n ≡ 0 + n
    from_zero n = omega arith

-- a destroy edge leads to a start
target_has : (es : List Edge) (e : Edge) → IsListed e es → e.kind ≡ EdgeKind.Destroy
    → IsListed e.to (targets_of Way.Unfreed es)
target_has [] e l kind = absurd l
target_has (x ∷ es) e (inl same) kind =
    listed_left e.to (target_if (is_destroy x.kind) x) (targets_of Way.Unfreed es)
    (subst (λ (z : Edge). IsListed e.to (target_if (is_destroy z.kind) z)) same
    (subst (λ (t : Bool). IsListed e.to (target_if t e)) (sym (ap is_destroy kind)) (inl refl)))
target_has (x ∷ es) e (inr l) kind =
    listed_right e.to (target_if (is_destroy x.kind) x) (targets_of Way.Unfreed es) (target_has es e l kind)

starts_at : (f : Function) (e : Edge) → IsListed e (edges_of f) → e.kind ≡ EdgeKind.Destroy → IsOn Way.Unfreed f e.to
starts_at f e l kind = Start e.to (target_has (edges_of f) e l kind)

-- ---- the switch of a suspend

one_of : (p q : Bool) → (p || q) ≡ true → (p ≡ true) ⊎ (q ≡ true)
one_of true q h = inl refl
one_of false q h = inr h

-- a case of 0 is none of 1, and the other way round
other_case : (m n : ℕ) (x : Operand) → (n == m) ≡ false → is_number m x ≡ true → is_number n x ≡ false
other_case m n (Operand.Number (pos k)) ne h = ap (λ (j : ℕ). n == j) (sym (equal_numbers m k h)) ∙ ne
other_case m n _ ne h = absurd (cc)

module _ (f : Function) (p : Point) (b : Block) (i : Instr) (whole : slice_get f.blocks p.block ≡ Some b)
    (there : slice_get b.instrs p.at ≡ Some i) (call : is_call_of Intrinsic.CoroSuspend i ≡ true)
    (sw : IsSwitched b p.at i) where
  result_is : (i : Instr) → is_call_of Intrinsic.CoroSuspend i ≡ true
      → result_of_call Intrinsic.CoroSuspend i ≡ call_result i
  result_is (Instr.Call result must_tail ty (Callee.Intrinsic j) args) h =
      ap (λ (t : Bool). if t then result else None) h
  result_is _ h = absurd (cc)

  suspends : suspended b.instrs ≡ Some sw.value
  suspends =
      let last = sw.last in
      let at : length b.instrs - 1 ≡ p.at = omega (arith, last) in
      ap (option_and_then (result_of_call Intrinsic.CoroSuspend)) (ap (slice_get b.instrs) at ∙ there)
      ∙ (result_is i call ∙ sw.result)

  kind_is : (cases : List Case) (n : ℕ) → b.term ≡ Terminator.Switch sw.arg sw.default cases
      → kind_of f p.block n ≡ kind_at cases n
  kind_is cases n is =
      ap (λ (o : Option Block). kind_in o n) whole
      ∙ ((λ j. kind_of_ending (suspends j) (is j) n)
      ∙ ((λ j. if is_value (Some sw.value) (sw.on j) then kind_at cases n else EdgeKind.Ordinary)
      ∙ ap (λ (t : Bool). if t then kind_at cases n else EdgeKind.Ordinary) (itself sw.value)))

  destroy_case : (x : Case) → is_number 1 x.arg.value ≡ true → kind_of_case (Some x) ≡ EdgeKind.Destroy
  destroy_case x h =
      ap (λ (t : Bool). if t then EdgeKind.Resume
      else (if is_number 1 x.arg.value then EdgeKind.Destroy else EdgeKind.Ordinary))
      (other_case 1 0 x.arg.value refl h)
      ∙ ap (λ (t : Bool). if t then EdgeKind.Destroy else EdgeKind.Ordinary) h

  listed : (cases : List Case) → b.term ≡ Terminator.Switch sw.arg sw.default cases → (e : Edge)
      → IsListed e (edges_out f p.block 0 (targets (Terminator.Switch sw.arg sw.default cases)))
      → IsListed e (edges_of f)
  listed cases is e l =
      any_edge f p.block b e whole
      (subst (λ (t : Terminator). IsListed e (edges_out f p.block 0 (targets t))) (sym is) l)

  first_case : (x y : Case) → b.term ≡ Terminator.Switch sw.arg sw.default (x ∷ y ∷ [])
      → is_number 1 x.arg.value ≡ true
      → IsOn Way.Unfreed f (position_of f (label_in 1 (x ∷ y ∷ []) sw.default))
  first_case x y is one =
      subst (λ (l : ℕ). IsOn Way.Unfreed f (position_of f l))
      (sym (ap (λ (t : Bool). if t then x.target else label_in 1 (y ∷ []) sw.default) one))
      (starts_at f (record { from = p.block; to = position_of f x.target; kind = kind_of f p.block 1 })
      (listed (x ∷ y ∷ []) is (record { from = p.block; to = position_of f x.target; kind = kind_of f p.block 1 })
      (inr (inl refl))) (kind_is (x ∷ y ∷ []) 1 is ∙ destroy_case x one))

  second_case : (x y : Case) → b.term ≡ Terminator.Switch sw.arg sw.default (x ∷ y ∷ [])
      → is_number 0 x.arg.value ≡ true → is_number 1 y.arg.value ≡ true
      → IsOn Way.Unfreed f (position_of f (label_in 1 (x ∷ y ∷ []) sw.default))
  second_case x y is null one =
      subst (λ (l : ℕ). IsOn Way.Unfreed f (position_of f l))
      (sym (ap (λ (t : Bool). if t then x.target else label_in 1 (y ∷ []) sw.default)
      (other_case 0 1 x.arg.value refl null) ∙ ap (λ (t : Bool). if t then y.target else sw.default) one))
      (starts_at f (record { from = p.block; to = position_of f y.target; kind = kind_of f p.block 2 })
      (listed (x ∷ y ∷ []) is (record { from = p.block; to = position_of f y.target; kind = kind_of f p.block 2 })
      (inr (inr (inl refl)))) (kind_is (x ∷ y ∷ []) 2 is ∙ destroy_case y one))

  by_cases : (cases : List Case) → b.term ≡ Terminator.Switch sw.arg sw.default cases → are_both cases ≡ true
      → IsOn Way.Unfreed f (position_of f (label_in 1 cases sw.default))
  by_cases [] is both = absurd (cc)
  by_cases (x ∷ []) is both = absurd (cc)
  by_cases (x ∷ y ∷ []) is both =
      by (one_of (is_number 0 x.arg.value && is_number 1 y.arg.value)
      (is_number 1 x.arg.value && is_number 0 y.arg.value) both)
    where
      by : ((is_number 0 x.arg.value && is_number 1 y.arg.value) ≡ true)
          ⊎ ((is_number 1 x.arg.value && is_number 0 y.arg.value) ≡ true)
          → IsOn Way.Unfreed f (position_of f (label_in 1 (x ∷ y ∷ []) sw.default))
      by (inl k) =
          let both = both_true (is_number 0 x.arg.value) (is_number 1 y.arg.value) k in
          second_case x y is both.0 both.1
      by (inr k) = first_case x y is (both_true (is_number 1 x.arg.value) (is_number 0 y.arg.value) k).0
  by_cases (x ∷ y ∷ z ∷ more) is both = absurd (cc)

  pub destroys_start : IsOn Way.Unfreed f (position_of f (destroy_label f p))
  destroys_start =
      subst (λ (l : ℕ). IsOn Way.Unfreed f (position_of f l))
      (sym (ap (label_at 1) whole ∙ ap (label_of_term 1) sw.is)) (by_cases sw.cases sw.is sw.both)

-- ---- instances

sound_there : (g : Given) (xs : List Instance) → AreSoundInstances g xs → (i : ℕ) (x : Instance)
    → slice_get xs i ≡ Some x → IsSoundStatus g x.coroutine x.status
sound_there g [] h i x at = absurd (cc)
sound_there g (y ∷ xs) h zero x at =
    let same : y ≡ x = cc in subst (λ (z : Instance). IsSoundStatus g z.coroutine z.status) same h.0
sound_there g (y ∷ xs) h (suc i) x at = sound_there g xs h.1 i x at

is_suspend_too : (i : Instr) → is_call_of Intrinsic.CoroSuspend i ≡ true → is_suspend i ≡ true
is_suspend_too (Instr.Call result must_tail ty (Callee.Intrinsic j) args) h =
    ap (λ (k : Intrinsic). is_suspend (Instr.Call result must_tail ty (Callee.Intrinsic k) args)) (suspend_is j h)
  where
    suspend_is : (j : Intrinsic) → same_intrinsic Intrinsic.CoroSuspend j ≡ true → j ≡ Intrinsic.CoroSuspend
    suspend_is Intrinsic.CoroSuspend h = refl
    suspend_is _ h = absurd (cc)
is_suspend_too _ h = absurd (cc)

pub destroys_on_way : (g : Given) (xs : List Instance) → ((func : ℕ) → AreSwitched (function_at g.code func))
    → AreSoundInstances g xs → AreDestroysOnWay g.code xs
destroys_on_way g xs switched sound i x p values at status =
    on (subst (IsSoundStatus g x.coroutine) status (sound_there g xs sound i x at)).1
  where
    on : IsCallAt Intrinsic.CoroSuspend (function_at g.code x.coroutine) p
        → IsOn Way.Unfreed (function_at g.code x.coroutine)
        (position_of (function_at g.code x.coroutine) (destroy_label (function_at g.code x.coroutine) p))
    on c =
        by (slice_get (function_at g.code x.coroutine).blocks p.block) refl
        (instr_there (function_at g.code x.coroutine) p.block p.at c.instr c.stands)
      where
        by : (o : Option Block) → slice_get (function_at g.code x.coroutine).blocks p.block ≡ o
            → slice_get (instrs_in o) p.at ≡ Some c.instr
            → IsOn Way.Unfreed (function_at g.code x.coroutine)
            (position_of (function_at g.code x.coroutine) (destroy_label (function_at g.code x.coroutine) p))
        by None eo there = absurd (cc)
        by (Some b) eo there =
            destroys_start (function_at g.code x.coroutine) p b c.instr eo there c.is
            (switched x.coroutine p.block p.at b c.instr eo there (is_suspend_too c.instr c.is))
