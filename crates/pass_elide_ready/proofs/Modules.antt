-- What rules give of each function of a framed module.
use Rattle.std.proofs.Common.{◌≡◌, ℕ, Bool, true, false, List, [], refl, subst}
use Rattle.std.specs.Prelude.{Option, Some, slice_get}
use Rattle.pass_elide_kept.specs.Modules.{BeginsAlone}
use Rattle.pass_elide_known.specs.Keeping.{is_marker}
use Rattle.pass_elide_edges.proofs.pass_elide_proof.pass_proofs.rule_laws.rules.function_rules.Stages.{rules_larger}
use Rattle.pass_elide_edges.specs.pass_elide_proof.pass_proofs.rule_names.declared.stage.Stage.{Stage}
use Rattle.pass_elide_edges.proofs.pass_elide_proof.ElidedFound.{fetched}
use Rattle.pass_elide_edges.specs.pass_elide_proof.Callers.{GivesOnce}
use Rattle.pass_elide_edges.specs.pass_elide_proof.Calling.{MarksOwn}
use Rattle.pass_elide_edges.specs.pass_elide_proof.Edges.{label_from, phis_at}
use Rattle.pass_elide_edges.specs.pass_elide_proof.Elision.{Elision, function_in}
use Rattle.pass_elide_edges.specs.pass_elide_proof.Ordinary.{HasSteadyIndices}
use Rattle.pass_elide_edges.specs.pass_elide_proof.Places.{instrs_of}
use Rattle.pass_elide_edges.specs.pass_elide_proof.Placing.{IsSmallAlloca, is_own}
use Rattle.pass_elide_ready.proofs.Allocas.{allocas_first, marks_allocas, names_allocas, unmarked}
use Rattle.pass_elide_ready.proofs.Entries.{no_edge_to_entry}
use Rattle.pass_elide_ready.proofs.Instrs.{alloca_aligned, alloca_small, instr_bytes, own_inside}
use Rattle.pass_elide_ready.proofs.Names.{gives_once}
use Rattle.pass_elide_ready.proofs.OneEnd.{begins_alone, ends_in_block}
use Rattle.pass_elide_ready.proofs.Operands.{marks_own}
use Rattle.pass_elide_ready.proofs.Plain.{begins_never, no_saves}
use Rattle.pass_elide_ready.proofs.Steady.{instr_steady}
use Rattle.pass_elide_ready.proofs.Suspends.{are_switched, none_from_suspends}
use Rattle.pass_elide_ready.specs.Ruled.{IsRuled}
use Rattle.pass_elide_runs.specs.Marks.{MarksAllocas}
use Rattle.pass_elide_runs.specs.Slots.{AllocasFirst, NamesAllocas}
use Rattle.pass_elide_edges.proofs.pass_elide_proof.pass_proofs.kept.sources.Modules.{at_function}
use Rattle.pass_elide_edges.proofs.pass_elide_proof.pass_proofs.kept.sources.Names.{none_outside, save_inside, suspend_inside}
use Rattle.pass_elide_edges.proofs.pass_elide_proof.pass_proofs.kept.sources.Suspends.{is_switched}
use Rattle.pass_elide_edges.proofs.pass_elide_proof.pass_proofs.rule_laws.frames.crossing.Paths.{edge_from}
use Rattle.pass_elide_edges.specs.pass_elide_proof.pass_proofs.edges.rules.Returns.{AreSwitched}
use Rattle.pass_elide_edges.specs.pass_elide_proof.pass_proofs.ir_model.Names.{function_at, no_function}
use Rattle.pass_elide_edges.specs.pass_elide_proof.pass_proofs.ir_model.Ty.{Ty}
use Rattle.pass_elide_edges.specs.pass_elide_proof.pass_proofs.ir_model.declared.instr.Instr.{Instr}
use Rattle.pass_elide_edges.specs.pass_elide_proof.pass_proofs.ir_model.declared.instr.Phi.{Phi}
use Rattle.pass_elide_edges.specs.pass_elide_proof.pass_proofs.ir_model.declared.module.Function.{Function}
use Rattle.pass_elide_edges.specs.pass_elide_proof.pass_proofs.ir_model.declared.module.Module.{Module}
use Rattle.pass_elide_edges.specs.pass_elide_proof.pass_proofs.ir_model.declared.operand.Arg.{Arg}
use Rattle.pass_elide_edges.specs.pass_elide_proof.pass_proofs.ir_model.declared.operand.Callee.{Callee}
use Rattle.pass_elide_edges.specs.pass_elide_proof.pass_proofs.ir_model.declared.operand.Intrinsic.{Intrinsic}
use Rattle.pass_elide_edges.specs.pass_elide_proof.pass_proofs.ir_model.declared.operand.Operand.{Operand}
use Rattle.pass_elide_edges.specs.pass_elide_proof.pass_proofs.ir_paths.Windows.{end_block, is_call_of, points_where}
use Rattle.pass_elide_edges.specs.pass_elide_proof.pass_proofs.ir_paths.declared.point.Point.{Point}
use Rattle.pass_elide_edges.specs.pass_elide_proof.pass_proofs.pass_kept_proof.SuspendRules.{IsCallAt}
use Rattle.pass_elide_edges.specs.pass_elide_proof.pass_proofs.rule_laws.rules.function_rules.Kept.{AllKeepFunctionRules}
use Rattle.pass_elide_edges.specs.pass_elide_proof.pass_proofs.run_laws.changed.Changed.{Each}
use Rattle.pass_elide_edges.specs.pass_elide_proof.pass_proofs.run_laws.embedded.Related.{HasBytes}
use Rattle.pass_elide_edges.specs.pass_elide_proof.pass_proofs.run_step.Step.{AtInstr, Nowhere, fetch, incoming_from}
use Rattle.pass_split_proof.proofs.ready.Allocas.{allocas_alone}
use Rattle.pass_split_proof.proofs.ready.Given.{there_is}
use Rattle.pass_split_proof.specs.simulation.Premises.{AreAllocasAlone}
use Rattle.run_accepted.proofs.Modules.{all_types}
use Rattle.run_hooks.specs.Reached.{AllHaveSwitches, HasSwitches}
use Rattle.run_types.specs.Rules.{KeepsAllTypes}

-- ---- where there is no function

once_in_none : GivesOnce no_function
once_in_none = record {
  alone = λ p q i j v here there one other. absurd (cc);
  names = λ p i v here one. absurd (cc);
  phis = λ p i v here one block. tt;
  phi_names = λ block. tt;
}

begin_in_none : BeginsAlone no_function
begin_in_none = record {
  alone = λ block at v i e there gives. absurd (cc);
  phis = λ v e block. tt;
  named = λ block at v i there begins e. absurd (cc);
}

no_call : (j : Intrinsic) (p : Point) → IsCallAt j no_function p → ⊥
no_call j p c = let t : Nowhere ≡ AtInstr c.instr = c.stands in absurd (cc)

switches_in_none : HasSwitches no_function
switches_in_none = record {
  switched = λ s c. absurd (no_call Intrinsic.CoroSuspend s c);
  leads = λ k s c e. absurd (no_call Intrinsic.CoroSave k c);
}

first_in_none : AllocasFirst no_function
first_in_none = record {
  first = λ block at name align ty there. absurd (cc);
  entry = λ from l. let x = edge_from no_function from 0 l in let got = x.got in absurd (cc);
}

-- ---- each function

module _ (m : Module) (ruled : IsRuled m) where
  pub all_rules : AllKeepFunctionRules m
  all_rules k f there = (ruled.functions k f there).rules

  pub once : (func : ℕ) → GivesOnce (function_at m func)
  once = at_function GivesOnce m once_in_none (λ k f there. gives_once m k f (all_rules k f there))

  begins_in : (k : ℕ) (f : Function) → slice_get m.functions k ≡ Some f → BeginsAlone f
  begins_in k f there = on f.coroutine refl
    where
      on : (c : Bool) → f.coroutine ≡ c → BeginsAlone f
      on true e = let x = ruled.coroutines k f there e in
          begins_alone m k f (all_rules k f there) x.begin x.named e x.calls
      on false e = begins_never m k f (all_rules k f there) e

  pub begins : (func : ℕ) → BeginsAlone (function_at m func)
  begins = at_function BeginsAlone m begin_in_none begins_in

  alone : (func : ℕ) → AreAllocasAlone (function_at m func)
  alone = allocas_alone m m (λ k there. rules_larger Stage.Source m k (function_at m k)
      (all_rules k (function_at m k) there))

  alone_in : (k : ℕ) (f : Function) → slice_get m.functions k ≡ Some f → AreAllocasAlone f
  alone_in k f there = subst AreAllocasAlone (there_is m k f there) (alone k)

  pub allocas : (func : ℕ) → AllocasFirst (function_at m func)
  allocas = at_function AllocasFirst m first_in_none (λ k f there.
      allocas_first f (alone_in k f there) (no_edge_to_entry m k f (all_rules k f there)))

  pub named : (func : ℕ) → NamesAllocas (function_at m func)
  named func = names_allocas (function_at m func) (alone func)

  pub marks : (func : ℕ) → MarksAllocas (function_at m func)
  marks func = marks_allocas (function_at m func) (alone func)

  pub first_unmarked : (func : ℕ) (i : Instr) → slice_get (instrs_of (function_at m func) 0) 0 ≡ Some i
      → is_marker i ≡ false
  first_unmarked func i there = unmarked (function_at m func) (marks func) i there

  pub own_marks : (func : ℕ) → MarksOwn (function_at m func)
  own_marks = at_function MarksOwn m (λ v high. refl) (λ k f there. marks_own m k f (all_rules k f there))

  pub types : KeepsAllTypes m
  types = all_types m all_rules (λ k f there. (ruled.functions k f there).widths)

  pub plain : (func : ℕ) → (function_at m func).coroutine ≡ false
      → points_where (is_call_of Intrinsic.CoroSave) (function_at m func) ≡ []
  plain = at_function (λ (f : Function). f.coroutine ≡ false → points_where (is_call_of Intrinsic.CoroSave) f ≡ []) m
      (λ e. refl) (λ k f there e. no_saves m k f (all_rules k f there) e)

  -- ---- suspends and ends

  suspended_in : (k : ℕ) (f : Function) → slice_get m.functions k ≡ Some f → HasSwitches f
  suspended_in k f there = on f.coroutine refl
    where
      on : (c : Bool) → f.coroutine ≡ c → HasSwitches f
      on true e =
          let x = ruled.coroutines k f there e in
          record { switched = λ s c. is_switched k f e x.switches s c; leads = x.leads }
      on false e = record {
        switched = λ s c. absurd (none_outside m k f (all_rules k f there) e s.block s.at c.instr Intrinsic.CoroSuspend
            suspend_inside c.stands c.is);
        leads = λ p s c t. absurd (none_outside m k f (all_rules k f there) e p.block p.at c.instr Intrinsic.CoroSave
            save_inside c.stands c.is);
      }

  pub switches : AllHaveSwitches m
  switches = at_function HasSwitches m switches_in_none suspended_in

  pub switched : (func : ℕ) → AreSwitched (function_at m func)
  switched = at_function AreSwitched m (λ k x b i got stands is. absurd (cc))
      (λ k f there. are_switched m k f (all_rules k f there) (λ e. (ruled.coroutines k f there e).switches))

  abbrev EndsThere : Function → Type 0
  EndsThere f =
      (block at : ℕ) (result : Option ℕ) (must_tail : Bool) (ty : Option Ty) (args : List Arg)
      → fetch f block at ≡ AtInstr (Instr.Call result must_tail ty (Callee.Intrinsic Intrinsic.CoroEnd) args)
      → block ≡ end_block f

  pub ends : (func : ℕ) → EndsThere (function_at m func)
  ends = at_function EndsThere m (λ block at result must_tail ty args here. absurd (cc))
      (λ k f there. ends_in_block m k f (all_rules k f there) (λ e. (ruled.coroutines k f there e).calls))

  abbrev NoneTaken : Function → Type 0
  NoneTaken f =
      (block at to : ℕ) (i : Instr) → slice_get (instrs_of f block) at ≡ Some i
      → is_call_of Intrinsic.CoroSuspend i ≡ true
      → Each (λ (p : Phi). (v : ℕ) → incoming_from p.incoming (label_from f block) ≡ Operand.Local v
      → ⊥) (phis_at f to)

  -- of a function that is no coroutine nothing is a suspend
  none_in : (k : ℕ) (f : Function) → slice_get m.functions k ≡ Some f → NoneTaken f
  none_in k f there = on f.coroutine refl
    where
      on : (c : Bool) → f.coroutine ≡ c → NoneTaken f
      on true e =
          let x = ruled.coroutines k f there e in
          none_from_suspends m k f (all_rules k f there) (λ c. x.switches) x.jumps
      on false e = λ block at to i stands is. absurd (none_outside m k f (all_rules k f there) e block at i
          Intrinsic.CoroSuspend suspend_inside (fetched f block at i stands) is)

  pub none_taken : (func : ℕ) → NoneTaken (function_at m func)
  none_taken = at_function NoneTaken m (λ block at to i there is. absurd (cc)) none_in

  -- ---- instructions

  pub steady : (func block at : ℕ) (i : Instr) → slice_get (instrs_of (function_at m func) block) at ≡ Some i
      → HasSteadyIndices m i
  steady = at_function (λ (f : Function). (block at : ℕ) (i : Instr) → slice_get (instrs_of f block) at ≡ Some i
      → HasSteadyIndices m i) m (λ block at i there. absurd (cc))
      (λ k f there. instr_steady m f (ruled.functions k f there).indices)

  pub bytes : (func block at : ℕ) (i : Instr) → slice_get (instrs_of (function_at m func) block) at ≡ Some i
      → HasBytes (AtInstr i)
  bytes = at_function (λ (f : Function). (block at : ℕ) (i : Instr) → slice_get (instrs_of f block) at ≡ Some i
      → HasBytes (AtInstr i)) m (λ block at i there. absurd (cc))
      (λ k f there. instr_bytes k f (ruled.functions k f there).widths)

  abbrev OwnInside : Function → Type 0
  OwnInside f =
      (block at : ℕ) (result : Option ℕ) (must_tail : Bool) (ty : Option Ty) (j : Intrinsic) (args : List Arg)
      → slice_get (instrs_of f block) at ≡ Some (Instr.Call result must_tail ty (Callee.Intrinsic j) args)
      → is_own j ≡ true → f.coroutine ≡ true

  pub own : (func : ℕ) → OwnInside (function_at m func)
  own = at_function OwnInside m (λ block at result must_tail ty j args there is. absurd (cc))
      (λ k f there. own_inside m k f (all_rules k f there))

module _ (e : Elision) (ruled : IsRuled e.code) where
  pub small_allocas : (func block at name align : ℕ) (ty : Ty)
      → slice_get (instrs_of (function_in e func) block) at ≡ Some (Instr.Alloca name ty align)
      → IsSmallAlloca e ty align
  small_allocas = at_function (λ (f : Function). (block at name align : ℕ) (ty : Ty)
      → slice_get (instrs_of f block) at ≡ Some (Instr.Alloca name ty align) → IsSmallAlloca e ty align) e.code
      (λ block at name align ty there. absurd (cc)) (λ k f there block at name align ty stands. record {
        small = alloca_small e.code k f (all_rules e.code ruled k f there) block at name align ty stands;
        aligned = alloca_aligned e.code k f (all_rules e.code ruled k f there) block at name align ty stands;
      })
