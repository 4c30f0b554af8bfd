-- Labels behind suspends are names of the function.
use Rattle.std.proofs.Common.{◌≡◌, inl, inr, ℕ, ◌≤◌, ◌<◌, Bool, true, false, List, [], ◌∷◌, length, refl, sym, ap, ◌∙◌, subst, arith}
use Rattle.std.proofs.lemmas.Bool.{false≢true}
use Rattle.std.specs.Prelude.{None, ◌||◌, ◌==◌}
use Rattle.compiler.specs.flow_solver.Paths.{IsListed}
use Rattle.compiler.proofs.ir_laws.facts.Truth.{equal_numbers}
use Rattle.compiler.proofs.ir_laws.paths.uses.Paths.{place_of}
use Rattle.compiler.specs.ir_laws.facts.branches.MovedState.{IsSwitch}
use Rattle.compiler.specs.ir_laws.paths.threads.Labels.{HasLabelsBelow}
use Rattle.compiler.specs.ir_model.declared.instr.Instr.{Instr}
use Rattle.compiler.specs.ir_model.declared.module.Block.{Block}
use Rattle.compiler.specs.ir_model.declared.module.Function.{Function}
use Rattle.compiler.specs.ir_model.declared.module.Module.{Module}
use Rattle.compiler.specs.ir_model.declared.operand.Callee.{Callee}
use Rattle.compiler.specs.ir_model.declared.operand.Intrinsic.{Intrinsic}
use Rattle.compiler.specs.ir_paths.Paths.{targets}
use Rattle.compiler.specs.ir_paths.Windows.{is_call_of, label_of_term}
use Rattle.compiler.specs.pass_edges.Edges.{is_suspend}
use Rattle.compiler.specs.pass_intrinsics.Shapes.{suspends_of}
use Rattle.compiler.specs.pass_intrinsics.declared.shape.SuspendPoint.{SuspendPoint}
use Rattle.compiler.proofs.pass_proofs.edges.rules.CaseLabels.{switch_target}
use Rattle.compiler.proofs.pass_proofs.edges.rules.Switched.{switched}
use Rattle.pass_split_proof.specs.states.Related.{is_return_label}
use Rattle.compiler.proofs.rule_laws.frames.edges.Shaped.{point_home}
use Rattle.compiler.proofs.rule_laws.rules.known_labels.Known.{labels_known}
use Rattle.compiler.specs.rule_laws.rules.function_rules.Kept.{KeepsFunctionRules}
use Rattle.compiler.specs.rule_shape.Switches.{wrong_switch}
use Rattle.compiler.specs.run_laws.changed.Changed.{Each}

each_listed : {A : Type 0} (P : A → Type 0) (xs : List A) → Each P xs → (x : A) → IsListed x xs → P x
each_listed P [] h x l = absurd l
each_listed P (y ∷ ys) h x (inl e) = subst P (sym e) h.0
each_listed P (y ∷ ys) h x (inr l) = each_listed P ys h.1 x l

unlike : (l x n : ℕ) → n ≤ l → x < n → (l == x) ≡ false
unlike l x n low lt = on (l == x) refl
  where
    on : (b : Bool) → (l == x) ≡ b → b ≡ false
    on false e = refl
    on true e = let same : l ≡ x = equal_numbers l x e in absurd (omega (arith, low, lt, same))

none_label : (ps : List SuspendPoint) (l n : ℕ) → n ≤ l
    → ((p : SuspendPoint) → IsListed p ps → (p.resume < n) × (p.destroy < n)) → is_return_label ps l ≡ false
none_label [] l n low h = refl
none_label (p ∷ ps) l n low h =
    let x = h p (inl refl) in
    ap (λ (b : Bool). (b || (l == p.destroy)) || is_return_label ps l) (unlike l p.resume n low x.0)
    ∙ ap (λ (b : Bool). b || is_return_label ps l) (unlike l p.destroy n low x.1)
    ∙ none_label ps l n low (λ q m. h q (inr m))

suspends_marked : (i : Instr) → is_call_of Intrinsic.CoroSuspend i ≡ true → is_suspend i ≡ true
suspends_marked (Instr.Call result must_tail ty (Callee.Intrinsic Intrinsic.CoroSuspend) args) e = refl
suspends_marked _ e = absurd (false≢true e)

module _ (m : Module) (k : ℕ) (f : Function) (rules : KeepsFunctionRules m k f) (coroutine : f.coroutine ≡ true)
    (switches : wrong_switch k f ≡ None) where
  low_targets : (b : Block) → IsListed b f.blocks → (t : ℕ) → IsListed t (targets b.term) → t < length f.names
  low_targets b l t listed =
      each_listed (λ (x : ℕ). x < length f.names) (targets b.term)
      (each_listed (HasLabelsBelow (length f.names)) f.blocks (labels_known k f rules.tabled m rules.known) b l).targets
      t listed

  low_returns : (p : SuspendPoint) → IsListed p (suspends_of f)
      → (p.resume < length f.names) × (p.destroy < length f.names)
  low_returns p l =
      let y = point_home p f l in
      let b = y.0 in
      let at = place_of f.blocks b y.1.0 in
      let i = place_of b.instrs y.1.1.instr y.1.1.listed in
      let sw = switched k f coroutine switches at.0 i.0 b y.1.1.instr at.1 i.1
      (suspends_marked y.1.1.instr y.1.1.is_one) in
      let is = subst IsSwitch (sym sw.is) tt in (
        subst (λ (t : ℕ). t < length f.names) (sym y.1.1.resume)
            (low_targets b y.1.0 (label_of_term 0 b.term) (switch_target 0 b.term is)),
        subst (λ (t : ℕ). t < length f.names) (sym y.1.1.destroy)
            (low_targets b y.1.0 (label_of_term 1 b.term) (switch_target 1 b.term is)),
      )

  pub named_behind : (l : ℕ) → length f.names ≤ l → is_return_label (suspends_of f) l ≡ false
  named_behind l low = none_label (suspends_of f) l (length f.names) low low_returns
