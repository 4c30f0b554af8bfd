-- The kinds of edges from a block by what stands in it (K3), and functions with the same edges.
use Rattle.std.proofs.Common.{◌≡◌, ℕ, zero, suc, ◌+◌, ◌-◌, Bool, true, false, List, [], ◌∷◌, ◌++◌, length, refl, sym, ap, ◌∙◌, arith}
use Rattle.std.proofs.lemmas.Bool.{false≢true}
use Rattle.std.specs.List.{list_any}
use Rattle.std.specs.Prelude.{None, Option, Some, map, option_and_then, slice_get, if◌then◌else◌, ◌||◌}
use Rattle.compiler_theorem.proofs.compiler.ir_laws.facts.Lists.{at_any}
use Rattle.compiler_theorem.proofs.compiler.ir_laws.facts.Truth.{itself}
use Rattle.compiler_theorem.proofs.compiler.pass_proofs.edges.rules.Switched.{switched}
use Rattle.compiler_theorem.specs.compiler.ir_model.Calls.{result_of_call}
use Rattle.compiler_theorem.specs.compiler.ir_model.Names.{is_local, position_of}
use Rattle.compiler_theorem.specs.compiler.ir_model.declared.instr.Case.{Case}
use Rattle.compiler_theorem.specs.compiler.ir_model.declared.instr.Instr.{Instr}
use Rattle.compiler_theorem.specs.compiler.ir_model.declared.instr.Terminator.{Terminator}
use Rattle.compiler_theorem.specs.compiler.ir_model.declared.module.Block.{Block}
use Rattle.compiler_theorem.specs.compiler.ir_model.declared.module.Function.{Function}
use Rattle.compiler_theorem.specs.compiler.ir_model.declared.operand.Callee.{Callee}
use Rattle.compiler_theorem.specs.compiler.ir_model.declared.operand.Intrinsic.{Intrinsic}
use Rattle.compiler_theorem.specs.compiler.ir_model.declared.operand.Operand.{Operand}
use Rattle.compiler_theorem.specs.compiler.ir_paths.Paths.{targets}
use Rattle.compiler_theorem.specs.compiler.ir_paths.Windows.{call_result, is_call_of}
use Rattle.compiler_theorem.specs.compiler.pass_edges.Edges.{is_suspend}
use Rattle.compiler_theorem.specs.compiler.pass_proofs.flow_blocks.Kinds.{kind_at, kind_in, kind_of, kind_of_ending, suspended}
use Rattle.compiler_theorem.specs.compiler.pass_proofs.flow_blocks.declared.kinds.EdgeKind.{EdgeKind}
use Rattle.compiler_theorem.specs.compiler.rule_laws.rules.rows.Returns.{IsSwitched}
use Rattle.compiler_theorem.specs.compiler.rule_shape.Switches.{wrong_switch}
use Rattle.pass_elide_ready.specs.elide_shape.Edges.{edges_by, edges_of, edges_out}

-- ---- one block

suspends : (i : Instr) → is_call_of Intrinsic.CoroSuspend i ≡ true → is_suspend i ≡ true
suspends (Instr.Call result must_tail ty (Callee.Intrinsic Intrinsic.CoroSuspend) args) e = refl
suspends _ e = absurd (cc)

abbrev pub cases_of : Terminator → List Case
cases_of (Terminator.Switch arg default cases) = cases
cases_of _ = []

abbrev pub has_suspend : Block → Bool
has_suspend b = list_any (is_call_of Intrinsic.CoroSuspend) b.instrs

-- the kind of an edge by its block's last calls and cases
abbrev pub kind_by : Bool → List Case → ℕ → EdgeKind
kind_by true cases at = kind_at cases at
kind_by false cases at = EdgeKind.Ordinary

none_kind : (t : Terminator) (at : ℕ) → kind_of_ending None t at ≡ EdgeKind.Ordinary
none_kind (Terminator.Switch arg default cases) at = refl
none_kind (Terminator.Jump label) at = refl
none_kind (Terminator.Branch x a b) at = refl
none_kind (Terminator.Ret value) at = refl
none_kind Terminator.Unreachable at = refl

call_gives : (i : Instr) → is_call_of Intrinsic.CoroSuspend i ≡ true
    → result_of_call Intrinsic.CoroSuspend i ≡ call_result i
call_gives (Instr.Call result must_tail ty (Callee.Intrinsic j) args) e =
    ap (λ (b : Bool). if b then result else None) e
call_gives _ e = absurd (cc)

no_call_gives : (i : Instr) → is_call_of Intrinsic.CoroSuspend i ≡ false
    → result_of_call Intrinsic.CoroSuspend i ≡ None
no_call_gives (Instr.Call result must_tail ty (Callee.Intrinsic j) args) e =
    ap (λ (b : Bool). if b then result else None) e
no_call_gives (Instr.Call result must_tail ty (Callee.Named n) args) e = refl
no_call_gives (Instr.Call result must_tail ty (Callee.Allocator a) args) e = refl
no_call_gives (Instr.Call result must_tail ty (Callee.Local v) args) e = refl
no_call_gives (Instr.Binary name op flags ty a b) e = refl
no_call_gives (Instr.Icmp name pred ty a b) e = refl
no_call_gives (Instr.Select name x a b) e = refl
no_call_gives (Instr.Cast name op nneg arg to) e = refl
no_call_gives (Instr.Alloca name ty align) e = refl
no_call_gives (Instr.Load name ty p align) e = refl
no_call_gives (Instr.Store arg p align) e = refl
no_call_gives (Instr.Gep name inbounds ty base indices) e = refl

none_passes : (test : Instr → Bool) (is : List Instr) (at : ℕ) (i : Instr) → list_any test is ≡ false
    → slice_get is at ≡ Some i → test i ≡ false
none_passes test [] at i e there = absurd (cc)
none_passes test (j ∷ is) zero i e there = let same : j ≡ i = cc in sym (ap test same) ∙ first (test j) e
  where
    first : (b : Bool) → (b || list_any test is) ≡ false → b ≡ false
    first true d = d
    first false d = refl
none_passes test (j ∷ is) (suc at) i e there = none_passes test is at i (rest (test j) e) there
  where
    rest : (b : Bool) → (b || list_any test is) ≡ false → list_any test is ≡ false
    rest true d = absurd (false≢true (sym d))
    rest false d = d

module _ (k : ℕ) (f : Function) (coroutine : f.coroutine ≡ true) (switches : wrong_switch k f ≡ None) (q : ℕ)
    (b : Block) (got : slice_get f.blocks q ≡ Some b) where
  with_suspend : has_suspend b ≡ true → (at : ℕ) → kind_in (Some b) at ≡ kind_at (cases_of b.term) at
  with_suspend has at =
      let x = at_any (is_call_of Intrinsic.CoroSuspend) b.instrs has in
      on x.index x.element x.got x.passes (switched k f coroutine switches q x.index b x.element got x.got (suspends x.element x.passes))
    where
      on : (n : ℕ) (i : Instr) → slice_get b.instrs n ≡ Some i → is_call_of Intrinsic.CoroSuspend i ≡ true
          → IsSwitched b n i → kind_in (Some b) at ≡ kind_at (cases_of b.term) at
      on n i there is s =
          let end = s.last in
          let place : length b.instrs - 1 ≡ n = omega (arith, end) in
          let gives : suspended b.instrs ≡ Some s.value =
          ap (option_and_then (result_of_call Intrinsic.CoroSuspend)) (ap (slice_get b.instrs) place ∙ there)
          ∙ call_gives i is ∙ s.result in
          (λ z. kind_of_ending (gives z) (s.is z) at)
          ∙ ap (λ (o : Operand). if is_local s.value o then kind_at s.cases at else EdgeKind.Ordinary) s.on
          ∙ ap (λ (t : Bool). if t then kind_at s.cases at else EdgeKind.Ordinary) (itself s.value)
          ∙ sym (ap (λ (t : Terminator). kind_at (cases_of t) at) s.is)

  without_suspend : has_suspend b ≡ false → (at : ℕ) → kind_in (Some b) at ≡ EdgeKind.Ordinary
  without_suspend none at =
      ap (λ (o : Option ℕ). kind_of_ending o b.term at) (gives (slice_get b.instrs (length b.instrs - 1)) refl)
      ∙ none_kind b.term at
    where
      gives : (o : Option Instr) → slice_get b.instrs (length b.instrs - 1) ≡ o
          → option_and_then (result_of_call Intrinsic.CoroSuspend) (slice_get b.instrs (length b.instrs - 1)) ≡ None
      gives None e = ap (option_and_then (result_of_call Intrinsic.CoroSuspend)) e
      gives (Some i) e = ap (option_and_then (result_of_call Intrinsic.CoroSuspend)) e
          ∙ no_call_gives i (none_passes (is_call_of Intrinsic.CoroSuspend) b.instrs (length b.instrs - 1) i none e)

  pub kind_is : (at : ℕ) → kind_in (Some b) at ≡ kind_by (has_suspend b) (cases_of b.term) at
  kind_is at = on (has_suspend b) refl
    where
      on : (t : Bool) → has_suspend b ≡ t → kind_in (Some b) at ≡ kind_by t (cases_of b.term) at
      on true e = with_suspend e at
      on false e = without_suspend e at

-- ---- functions

module _ (f g : Function) (positions : (t : ℕ) → position_of g t ≡ position_of f t)
    (kinds : (from at : ℕ) → kind_of g from at ≡ kind_of f from at) where
  out_same : (from at : ℕ) (ls : List ℕ) → edges_out g from at ls ≡ edges_out f from at ls
  out_same from at [] = refl
  out_same from at (l ∷ ls) =
      λ i. record { from = from; to = positions l i; kind = kinds from at i } ∷ out_same from (at + 1) ls i

  by_same : (from : ℕ) (bs cs : List Block) → map (λ (b : Block). targets b.term) cs ≡ map (λ
      (b : Block). targets b.term) bs
      → edges_by g from cs ≡ edges_by f from bs
  by_same from [] [] e = refl
  by_same from [] (c ∷ cs) e = absurd (cc)
  by_same from (b ∷ bs) [] e = absurd (cc)
  by_same from (b ∷ bs) (c ∷ cs) e =
      let first : targets c.term ≡ targets b.term = cc in
      let rest : map (λ (x : Block). targets x.term) cs ≡ map (λ (x : Block). targets x.term) bs = cc in
      let one = ap (edges_out g from 0) first ∙ out_same from 0 (targets b.term) in
      let more = by_same (from + 1) bs cs rest in
      λ i. one i ++ more i

  pub edges_same : map (λ (b : Block). targets b.term) g.blocks ≡ map (λ (b : Block). targets b.term) f.blocks
      → edges_of g ≡ edges_of f
  unfolding edges_of
  edges_same e = by_same 0 f.blocks g.blocks e
