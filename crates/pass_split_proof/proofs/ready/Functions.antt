-- What all functions have of a module whose runs may be followed in its parts.
use Rattle.std.proofs.Common.{◌≡◌, ◌<◌, inl, ℕ, suc, Bool, true, false, List, [], ◌∷◌, length, refl, ap, ◌∙◌, subst}
use Rattle.std.proofs.lemmas.Bool.{false≢true}
use Rattle.std.specs.List.{AllByRecursion}
use Rattle.std.specs.Prelude.{ℤ, None, Option, Some, is_some, slice_get, unwrap_or, if◌then◌else◌}
use Rattle.pass_proofs.specs.flow_solver.Paths.{IsListed}
use Rattle.pass_proofs.specs.frame_layout.declared.layout.Layouts.{Layouts}
use Rattle.pass_proofs.proofs.ir_laws.paths.edges.Lists.{listed_at}
use Rattle.pass_proofs.proofs.ir_laws.paths.renamed.Uses.{stands_in}
use Rattle.pass_proofs.proofs.ir_laws.paths.woven_rules.Unbroken.{each_listed as each_of}
use Rattle.pass_proofs.specs.ir_model.Names.{function_at, no_function, position_of}
use Rattle.pass_proofs.specs.ir_model.Ty.{Ty}
use Rattle.pass_proofs.specs.ir_model.declared.instr.Instr.{Instr}
use Rattle.pass_proofs.specs.ir_model.declared.module.Block.{Block}
use Rattle.pass_proofs.specs.ir_model.declared.module.Function.{Function}
use Rattle.pass_proofs.specs.ir_model.declared.module.Module.{Module}
use Rattle.pass_proofs.specs.ir_model.declared.module.Param.{Param}
use Rattle.pass_proofs.specs.ir_model.declared.operand.Arg.{Arg}
use Rattle.pass_proofs.specs.ir_model.declared.operand.Callee.{Callee}
use Rattle.pass_proofs.specs.ir_model.declared.operand.Intrinsic.{Intrinsic}
use Rattle.pass_proofs.specs.ir_paths.Paths.{targets}
use Rattle.pass_proofs.specs.ir_paths.Windows.{is_call_of}
use Rattle.pass_proofs.specs.pass_intrinsics.Cuts.{token_in}
use Rattle.pass_proofs.specs.pass_intrinsics.Shapes.{save_of, shape_of, suspends_of}
use Rattle.pass_proofs.specs.pass_intrinsics.declared.shape.Part.{Part}
use Rattle.pass_proofs.specs.pass_intrinsics.declared.shape.Shape.{Shape}
use Rattle.pass_proofs.specs.pass_intrinsics.declared.shape.SuspendPoint.{SuspendPoint}
use Rattle.pass_proofs.proofs.kept.sources.Suspends.{is_switched}
use Rattle.pass_proofs.proofs.kept.sources.Typed.{calls_fit, ends_fit, instrs_fit, loads_fit, names_given, param_named, phi_fits, phi_named}
use Rattle.pass_proofs.proofs.split.edges.Cuttable.{IsCuttable}
use Rattle.pass_proofs.proofs.split.edges.Sources.{cuttable}
use Rattle.pass_proofs.proofs.split.rules.Reached.{led_is_flagged}
use Rattle.pass_proofs.specs.split.rules.Reached.{HasTabledLabels, IsTabled}
use Rattle.pass_proofs.specs.pass_split.Parts.{goes_on_at, is_entered}
use Rattle.pass_proofs.specs.pass_split.Reached.{entry_of, is_flagged, reached, targets_in}
use Rattle.pass_split_proof.proofs.code.Numbers.{is_call, point_of, there_by}
use Rattle.pass_split_proof.proofs.places.Transfers.{end_first}
use Rattle.pass_split_proof.proofs.ready.Allocas.{allocas_alone}
use Rattle.pass_split_proof.proofs.ready.Callees.{called_directly}
use Rattle.pass_split_proof.proofs.ready.Coroutine.{laid_out}
use Rattle.pass_split_proof.proofs.ready.Entering.{coroutine_there}
use Rattle.pass_split_proof.proofs.ready.Given.{ruled_at}
use Rattle.pass_split_proof.proofs.ready.Intrinsics.{in_coroutine}
use Rattle.pass_split_proof.proofs.ready.Next.{no_cleanup}
use Rattle.pass_split_proof.proofs.ready.Parts.{part_callee, part_goes_on}
use Rattle.pass_split_proof.proofs.ready.Rules.{function_of_instr, function_of_term}
use Rattle.pass_split_proof.specs.ready.Module.{IsFollowable, IsFollowableIn}
use Rattle.pass_split_proof.specs.simulation.Premises.{AreFunctionsMet, IsCoroutineThere, is_of_coroutines}
use Rattle.pass_split_proof.specs.simulation.Statement.{parts_given}
use Rattle.pass_proofs.proofs.rule_laws.rules.source_rules.Locals.{own_label}
use Rattle.pass_proofs.proofs.rule_laws.rules.sources.Places.{instr_there, point}
use Rattle.pass_proofs.specs.rule_laws.rules.function_rules.Kept.{KeepsFunctionRules, KeepsFunctionRulesAt}
use Rattle.pass_proofs.specs.rule_locals.Intrinsics.{is_inner}
use Rattle.pass_proofs.specs.rule_shape.Suspends.{is_suspend}
use Rattle.pass_proofs.specs.rule_values.Kinds.{kind_of, value_kind}
use Rattle.pass_proofs.specs.run_framed.Framed.{framed_given, layout_of}
use Rattle.run_types.specs.run_hooks.Reached.{HasSwitches}
use Rattle.pass_proofs.specs.run_laws.changed.Changed.{Each}
use Rattle.pass_proofs.specs.run_step.Step.{AtInstr, fetch, phis_of}
use Rattle.run_types.specs.Rules.{FitsPhi, KeepsTypes}
use Rattle.pass_proofs.specs.rule_names.declared.stage.Stage.{Stage}

-- ---- suspends have tokens

tokens_are : (i : Instr) (args : List Arg) (result : Option ℕ) (must_tail : Bool) (ty : Option Ty)
    → i ≡ Instr.Call result must_tail ty (Callee.Intrinsic Intrinsic.CoroSuspend) args → token_in i ≡ save_of args
tokens_are i args result must_tail ty e = ap token_in e

suspends_saved : (f : Function) → ((p : SuspendPoint) → IsListed p (suspends_of f) → is_some p.save ≡ true)
    → (block at : ℕ) (i : Instr) → fetch f block at ≡ AtInstr i → is_suspend i ≡ true → is_some (token_in i) ≡ true
suspends_saved f saved block at i here e =
    let y = stands_in f (point block at) i (instr_there f block at i here) in
    let c = is_call i e in
    let listed = there_by y.block i c [] f.blocks (listed_at f.blocks block y.block y.got)
    (listed_at y.block.instrs at i y.stands) in
    ap is_some (tokens_are i c.args c.result c.must_tail c.ty c.is) ∙ saved (point_of y.block c.args) listed

-- ---- where parts enter

labels_tabled : (s : Shape) (part : Part) (f : Function) → IsCuttable s part f → HasTabledLabels f
labels_tabled s part f ok = record {
  entry = by_entry f.blocks (λ b l. l);
  targets = λ from. by_block (position_of f from)
      (slice_get f.blocks (position_of f from)) refl;
}
  where
    low : (b : Block) → IsListed b f.blocks → b.label < length f.names
    low b l = subst (λ (n : ℕ). b.label < n) ok.base (ok.low b l)

    by_entry : (bs : List Block) → ((b : Block) → IsListed b bs → IsListed b f.blocks)
        → Each (IsTabled f) (entry_of bs)
    by_entry [] h = tt
    by_entry (b ∷ bs) h = (low b (h b (inl refl)), tt)

    by_block : (q : ℕ) (o : Option Block) → slice_get f.blocks q ≡ o → Each (IsTabled f) (targets_in o)
    by_block q None e = tt
    by_block q (Some b) e = each_of (IsTabled f) (targets b.term) (λ label l.
        let x = ok.known b label (listed_at f.blocks q b e) l in
        subst (λ (n : ℕ). n < length f.names) x.has_label (low x.block x.listed))

goes_at : (part : Part) (p : SuspendPoint) → (part ≡ Part.Resume → p.is_final ≡ false) → goes_on_at part p ≡ true
goes_at Part.Resume p h = ap (λ (b : Bool). if b then false else true) (h refl)
goes_at Part.Ramp p h = refl
goes_at Part.GivenRamp p h = refl
goes_at Part.Destroy p h = refl
goes_at Part.Cleanup p h = refl

-- ---- intrinsics of coroutines (K1)

suspend_inside : (m : Module) (k : ℕ) (f : Function) → KeepsFunctionRulesAt Stage.Plain m k f → (block at : ℕ)
    (i : Instr) → fetch f block at ≡ AtInstr i → is_call_of Intrinsic.CoroSuspend i ≡ true → f.coroutine ≡ true
suspend_inside m k f rules block at (Instr.Call r must_tail ty (Callee.Intrinsic Intrinsic.CoroSuspend) args) here e =
    in_coroutine m k f rules block at r must_tail ty Intrinsic.CoroSuspend args here refl
suspend_inside m k f rules block at _ here e = absurd (false≢true e)

save_inside : (m : Module) (k : ℕ) (f : Function) → KeepsFunctionRulesAt Stage.Plain m k f → (block at : ℕ)
    (i : Instr) → fetch f block at ≡ AtInstr i → is_call_of Intrinsic.CoroSave i ≡ true → f.coroutine ≡ true
save_inside m k f rules block at (Instr.Call r must_tail ty (Callee.Intrinsic Intrinsic.CoroSave) args) here e =
    in_coroutine m k f rules block at r must_tail ty Intrinsic.CoroSave args here refl
save_inside m k f rules block at _ here e = absurd (false≢true e)

inner_of : (x : Intrinsic) → is_of_coroutines x ≡ true → is_inner x ≡ true
inner_of Intrinsic.CoroResume e = absurd (false≢true e)
inner_of Intrinsic.CoroDestroy e = absurd (false≢true e)
inner_of Intrinsic.CoroDone e = absurd (false≢true e)
inner_of Intrinsic.CoroPromise e = absurd (false≢true e)
inner_of Intrinsic.LifetimeStart e = absurd (false≢true e)
inner_of Intrinsic.LifetimeEnd e = absurd (false≢true e)
inner_of Intrinsic.MemcpyI64 e = absurd (false≢true e)
inner_of Intrinsic.MemcpyI32 e = absurd (false≢true e)
inner_of _ e = refl

-- ---- types of phis and parameters

all_by : {A : Type 0} (P : A → Type 0) (xs : List A) → ((at : ℕ) (x : A) → slice_get xs at ≡ Some x → P x)
    → AllByRecursion P xs
all_by P [] h = tt
all_by P (x ∷ xs) h = (h 0 x refl, all_by P xs (λ at y e. h (suc at) y e))

module _ (m : Module) (k : ℕ) (f : Function) (rules : KeepsFunctionRules m k f) where
  phis_of_block : (block : ℕ) (o : Option Block) → slice_get f.blocks block ≡ o
      → AllByRecursion (FitsPhi f) (phis_of o)
  phis_of_block block None e = tt
  phis_of_block block (Some b) e = all_by (FitsPhi f) b.phis (λ at p there. record {
    fits = phi_fits m k f rules block b at p e there;
    own = phi_named m k f rules block b at p e there;
  })

  own_params : AllByRecursion (λ (p : Param). value_kind f p.name ≡ Some (kind_of p.ty)) f.params
  own_params = all_by (λ (p : Param). value_kind f p.name ≡ Some (kind_of p.ty)) f.params
      (λ at p there. param_named m k f rules at p there)

module _ (m : Module) (k : ℕ) (rules : slice_get m.functions k ≡ Some (function_at m k)
    → KeepsFunctionRules m k (function_at m k)) where
  phis_all : (block : ℕ) → AllByRecursion (FitsPhi (function_at m k))
      (phis_of (slice_get (function_at m k).blocks block))
  phis_all block = on (slice_get m.functions k) refl rules
    where
      on : (o : Option Function) → slice_get m.functions k ≡ o
          → (slice_get m.functions k ≡ Some (unwrap_or o no_function)
          → KeepsFunctionRules m k (unwrap_or o no_function)) → AllByRecursion (FitsPhi (unwrap_or o no_function))
          (phis_of (slice_get (unwrap_or o no_function).blocks block))
      on None e h = tt
      on (Some f) e h = phis_of_block m k f (h e) block (slice_get f.blocks block) refl

  params_all : AllByRecursion (λ (p : Param). value_kind (function_at m k) p.name ≡ Some (kind_of p.ty))
      (function_at m k).params
  params_all = on (slice_get m.functions k) refl rules
    where
      on : (o : Option Function) → slice_get m.functions k ≡ o
          → (slice_get m.functions k ≡ Some (unwrap_or o no_function)
          → KeepsFunctionRules m k (unwrap_or o no_function))
          → AllByRecursion (λ (p : Param). value_kind (unwrap_or o no_function) p.name ≡ Some (kind_of p.ty))
          (unwrap_or o no_function).params
      on None e h = tt
      on (Some f) e h = own_params m k f (h e)

-- ---- coroutines

module _ {stage : Stage} {ruler : Module} (ls : Layouts) (m : Module) (w : IsFollowableIn stage ruler ls m)
    (answers : List ℤ) where
  rules_at : (k : ℕ) → slice_get m.functions k ≡ Some (function_at m k)
      → KeepsFunctionRulesAt Stage.Plain ruler k (function_at m k)
  rules_at k there = (ruled_at ls m w k (function_at m k) there).rules

  pub coroutine_met : (k : ℕ) → (function_at m k).coroutine ≡ true
      → IsCoroutineThere (framed_given m ls.coroutines answers) (parts_given ls m answers) k
  coroutine_met k c =
      let there = coroutine_there m k c in
      let own = w.partable.coroutines k (function_at m k) there c in
      let more = w.coroutines k (function_at m k) there c in
      record {
        laid = laid_out ls m k answers own.laid;
        promise = more.promise;
        parts = λ part goes stands. part_goes_on ls m w answers k there c part stands goes;
        takes = λ part goes stands. part_callee ls m w answers k there c part stands goes;
        cleanup = λ none coded. no_cleanup ls m k (function_at m k) there c none more.untaken
            (shape_of (function_at m k) (layout_of ls.coroutines k)) coded;
        ends = end_first ruler k (function_at m k) own.begin (layout_of ls.coroutines k) own.splittable;
        suspends = record { saved = suspends_saved (function_at m k) own.saved; elsewhere = more.apart };
        returns = own.returns;
        blocks = own_label k (function_at m k) own.splittable.rules.definitions;
        entered = λ part p goes l led last. entered (function_at m k) part p (led_is_flagged (function_at m k)
            (labels_tabled (shape_of (function_at m k) (layout_of ls.coroutines k)) part (function_at m k)
            (cuttable ruler k (function_at m k) own.begin own.splittable (layout_of ls.coroutines k) part)) p.block
            led)
            (goes_at part p last);
      }
    where
      entered : (f : Function) (part : Part) (p : SuspendPoint) → is_flagged (reached f) p.block ≡ true
          → goes_on_at part p ≡ true → is_entered (reached f) part p ≡ true
      entered f part p flagged at = ap (λ (b : Bool). if b then goes_on_at part p else false) flagged ∙ at

  -- ---- K3 and K6

  pub switches_met : (k : ℕ) → HasSwitches (function_at m k)
  switches_met k = record {
    switched = λ p c.
        let there = function_of_instr m k p.block p.at c.instr c.stands in
        let inside = suspend_inside ruler k (function_at m k) (rules_at k there) p.block p.at c.instr c.stands c.is in
        is_switched k (function_at m k) inside ((ruled_at ls m w k (function_at m k) there).switches inside) p c;
    leads = λ p s c found.
        let there = function_of_instr m k p.block p.at c.instr c.stands in
        let inside = save_inside ruler k (function_at m k) (rules_at k there) p.block p.at c.instr c.stands c.is in
        (w.coroutines k (function_at m k) there inside).leads p s c found;
  }

  pub functions_met : AreFunctionsMet (framed_given m ls.coroutines answers) (parts_given ls m answers)
  functions_met = record {
    coroutines = coroutine_met;
    allocas = allocas_alone ruler m rules_at;
    switches = switches_met;
    intrinsics = λ k block at result must_tail ty x args here of. in_coroutine ruler k (function_at m k)
        (rules_at k (function_of_instr m k block at (Instr.Call result must_tail ty (Callee.Intrinsic x) args) here))
        block
        at result must_tail ty x args here (inner_of x of);
    direct = λ k block at result must_tail ty name args here. called_directly ruler k (function_at m k)
        (rules_at k (function_of_instr m k block at (Instr.Call result must_tail ty (Callee.Local name) args) here))
        block
        at result must_tail ty args name here;
  }

-- ---- N1, Y1 and Y2, where the rules are the module's own

module _ (ls : Layouts) (m : Module) (w : IsFollowable ls m) where
  own_rules : (k : ℕ) → slice_get m.functions k ≡ Some (function_at m k) → KeepsFunctionRules m k (function_at m k)
  own_rules k there = on (function_at m k).coroutine refl
    where
      on : (c : Bool) → (function_at m k).coroutine ≡ c → KeepsFunctionRules m k (function_at m k)
      on true e = (w.partable.coroutines k (function_at m k) there e).splittable.rules
      on false e = w.partable.plain k (function_at m k) there e

  pub types_met : (k : ℕ) → KeepsTypes m (function_at m k)
  types_met k = record {
    instrs = λ block at i here. instrs_fit m k (function_at m k)
        (own_rules k (function_of_instr m k block at i here)) block at i here;
    ends = λ block at t here. ends_fit m k (function_at m k) (own_rules k (function_of_term m k block at t here))
        block at
        t here;
    given = λ block at n i kind here is. names_given m k (function_at m k)
        (own_rules k (function_of_instr m k block at i here)) block at i here n kind is;
    phis = λ block. phis_all m k (own_rules k) block;
    params = params_all m k (own_rules k);
    calls = λ block at result must_tail ty callee args here. calls_fit m k (function_at m k)
        (own_rules k (function_of_instr m k block at (Instr.Call result must_tail ty callee args) here)) block at
        result
        must_tail ty callee args here;
    loads = λ block at name ty p align here.
        let there = function_of_instr m k block at (Instr.Load name ty p align) here in
        loads_fit m k (function_at m k) (own_rules k there) (w.widths k (function_at m k) there) block at name ty p
        align
        here;
  }
