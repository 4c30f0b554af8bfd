-- A suspend takes the token of one save, and no path from the entry leads to it without that (rules N1 and F2).
use Rattle.std.proofs.Common.{◌≡◌, ◌⊎◌, inl, inr, ℕ, ◌+◌, Bool, true, false, List, [], ◌∷◌, Option, Some, None}
use Rattle.std.proofs.Common.{refl, sym, ap, ◌∙◌, subst, arith}
use Rattle.std.specs.List.{list_any}
use Rattle.std.specs.Prelude.{slice_get, map, ◌==◌, ◌&&◌, ◌||◌, option_and_then}
use Rattle.pass_early_proof.proofs.flow_facts.Chained.{listed-name}
use Rattle.pass_early_proof.proofs.rule_laws.flow_points.Neighbours.{IsBranch, IsInner, edge-cases}
use Rattle.pass_early_proof.specs.flow_solver.Paths.{IsListed}
use Rattle.pass_early_proof.proofs.ir_laws.facts.Lists.{none_past}
use Rattle.pass_early_proof.proofs.ir_laws.facts.Truth.{and_first, and_second, equal_numbers, itself}
use Rattle.pass_early_proof.specs.ir_laws.facts.renamed.Regular.{is_result}
use Rattle.ir_model.specs.Names.{is_local, position_of}
use Rattle.ir_model.specs.declared.instr.Instr.{Instr}
use Rattle.ir_model.specs.declared.module.Block.{Block}
use Rattle.ir_model.specs.declared.module.Function.{Function}
use Rattle.ir_model.specs.declared.module.Module.{Module}
use Rattle.ir_model.specs.declared.module.Param.{Param}
use Rattle.ir_model.specs.declared.operand.Callee.{Callee}
use Rattle.ir_model.specs.declared.operand.Intrinsic.{Intrinsic}
use Rattle.ir_model.specs.declared.operand.Operand.{Operand}
use Rattle.pass_early_proof.specs.ir_parts.Contents.{instr_operands}
use Rattle.pass_early_proof.proofs.ir_paths.Search.{same_point-same}
use Rattle.pass_early_proof.specs.ir_paths.Paths.{IsPath, Leads, entry_point, has_point, nexts, same_point, targets}
use Rattle.pass_early_proof.specs.ir_paths.Windows.{call_operand, call_result, instr_at, is_call_of, is_suspend_of, points_where}
use Rattle.pass_early_proof.specs.ir_paths.Windows.{suspend_of}
use Rattle.pass_early_proof.specs.ir_paths.declared.point.Point.{Point}
use Rattle.pass_early_proof.specs.frame_crossing.Paths.{used_by}
use Rattle.pass_kept_proof.proofs.Rules.{where_is}
use Rattle.pass_kept_proof.specs.Crossing.{is_param}
use Rattle.pass_kept_proof.specs.Needed.{BranchesTo, phis_give}
use Rattle.pass_kept_proof.specs.SuspendRules.{IsCallAt}
use Rattle.pass_early_proof.proofs.early.save_simulation.Suspending.{fetch_at}
use Rattle.pass_edges_proof.proofs.kept.sources.Definite.{Comes, across, not_read, over_unmade, result_there}
use Rattle.pass_edges_proof.proofs.kept.sources.Stops.{the_local}
use Rattle.pass_edges_proof.proofs.kept.sources.Suspends.{behind_last}
use Rattle.pass_edges_proof.proofs.kept.sources.Windows.{phis_listed}
use Rattle.pass_early_proof.proofs.rule_laws.rules.sources.Places.{instr_there}
use Rattle.pass_early_proof.proofs.rule_laws.rules.source_rules.Locals.{no_param, no_phi, same_result}
use Rattle.pass_early_proof.specs.rule_laws.rules.function_rules.Kept.{KeepsFunctionRules}
use Rattle.pass_early_proof.specs.rule_uses.Undefined.{Entry}
use Rattle.pass_early_proof.specs.rule_uses.Uses.{locals_in}
use Rattle.pass_early_proof.specs.run_laws.changed.Changed.{result_of}
use Rattle.pass_early_proof.specs.run_step.Step.{AtInstr, fetch, phis_of}

-- ---- points

pub not_at : (p k : Point) → has_point (k ∷ []) p ≡ false → p ≡ k → ⊥
not_at p k e same =
    let its_own : same_point k k ≡ true = λ j. itself k.block j && itself k.at j in
    let is : has_point (k ∷ []) p ≡ true =
    ap (λ (q : Point). has_point (k ∷ []) q) same ∙ ap (λ (b : Bool). b || false) its_own in
    let no : true ≡ false = sym is ∙ e in
    absurd (cc)

pub entered_by : (f : Function) (q : Point) (ls : List ℕ) → has_point (map (entry_point f) ls) q ≡ true
    → (label : ℕ) × IsListed label ls × (q ≡ entry_point f label)
entered_by f q [] h = absurd (cc)
entered_by f q (l ∷ ls) h = on (same_point q (entry_point f l)) refl h (entered_by f q ls)
  where
    on : (b : Bool) → same_point q (entry_point f l) ≡ b → (b || has_point (map (entry_point f) ls) q) ≡ true
        → (has_point (map (entry_point f) ls) q ≡ true
        → (label : ℕ) × IsListed label ls × (q ≡ entry_point f label))
        → (label : ℕ) × IsListed label (l ∷ ls) × (q ≡ entry_point f label)
    on true e k rest = (l, inl refl, same_point-same q (entry_point f l) e)
    on false e k rest = let r = rest k in (r.0, inr r.1, r.2)

-- ---- tokens

call_makes : (x : Intrinsic) (i : Instr) → is_call_of x i ≡ true → call_result i ≡ result_of i
call_makes x (Instr.Call r must_tail ty callee args) e = refl
call_makes x _ e = absurd (cc)

-- the token of a save that a suspend takes
pub record IsTaken (f : Function) (save s : Point) : Type 0 where
  pub value : ℕ
  pub made : option_and_then call_result (instr_at f save) ≡ Some value
  pub instr : Instr
  pub stands : fetch f s.block s.at ≡ AtInstr instr
  pub takes : is_suspend_of (Some value) instr ≡ true

pub is_taken : (f : Function) (save s : Point) → suspend_of f save ≡ Some s → IsTaken f save s
is_taken f save s e = on (option_and_then call_result (instr_at f save)) refl e
  where
    on : (o : Option ℕ) → option_and_then call_result (instr_at f save) ≡ o
        → slice_get (points_where (is_suspend_of o) f) 0 ≡ Some s → IsTaken f save s
    on None eo h = let r = where_is (is_suspend_of None) f s h in absurd (cc)
    on (Some v) eo h =
        let r = where_is (is_suspend_of (Some v)) f s h in
        record { value = v; made = eo; instr = r.0; stands = r.1; takes = r.2 }

taken_operand : (v : ℕ) (i : Instr) → is_suspend_of (Some v) i ≡ true → call_operand i 0 ≡ Operand.Local v
taken_operand v i e =
    the_local v (call_operand i 0) (and_second (is_call_of Intrinsic.CoroSuspend i) (is_local v (call_operand i 0)) e)

suspend_uses : (v : ℕ) (i : Instr) → is_call_of Intrinsic.CoroSuspend i ≡ true → call_operand i 0 ≡ Operand.Local v
    → IsListed v (locals_in (instr_operands i))
suspend_uses v (Instr.Call r must_tail ty (Callee.Intrinsic x) []) is e = absurd (cc)
suspend_uses v (Instr.Call r must_tail ty (Callee.Intrinsic x) (a ∷ args)) is e = on a.value e
  where
    on : (o : Operand) → o ≡ Operand.Local v
        → IsListed v (locals_in (o ∷ Rattle.pass_early_proof.specs.ir_parts.Contents.arg_operands args))
    on (Operand.Local n) k = let same : n ≡ v = cc in inl (sym same)
    on _ k = absurd (cc)
suspend_uses v _ is e = absurd (cc)

module _ (k : ℕ) (m : Module) (f : Function) (rules : KeepsFunctionRules m k f) where
  made_by : (save : Point) (c : IsCallAt Intrinsic.CoroSave f save) (v : ℕ)
      → option_and_then call_result (instr_at f save) ≡ Some v → result_of c.instr ≡ Some v
  made_by save c v e =
      sym (call_makes Intrinsic.CoroSave c.instr c.is)
      ∙ sym (ap (option_and_then call_result) (instr_there f save.block save.at c.instr c.stands)) ∙ e

  -- a suspend takes the token of one save
  pub one_save : (save other s : Point) → IsCallAt Intrinsic.CoroSave f save → suspend_of f save ≡ Some s
      → IsCallAt Intrinsic.CoroSave f other → suspend_of f other ≡ Some s → other ≡ save
  one_save save other s c e d h =
      let x = is_taken f save s e in
      let y = is_taken f other s h in
      let both : AtInstr x.instr ≡ AtInstr y.instr = sym x.stands ∙ y.stands in
      let instrs : x.instr ≡ y.instr = cc in
      let operands : Operand.Local y.value ≡ Operand.Local x.value =
      sym (taken_operand y.value y.instr y.takes) ∙ ap (λ (i : Instr). call_operand i 0) (sym instrs)
      ∙ taken_operand x.value x.instr x.takes in
      let same : y.value ≡ x.value = cc in
      same_result k f rules.definitions other save d.instr c.instr x.value
      (instr_there f other.block other.at d.instr d.stands) (instr_there f save.block save.at c.instr c.stands)
      (made_by other d y.value y.made ∙ ap Some same) (made_by save c x.value x.made)

  -- ---- paths without the save

  module _ (save s : Point) (c : IsCallAt Intrinsic.CoroSave f save) (pair : suspend_of f save ≡ Some s) where
    abbrev token : IsTaken f save s
    token = is_taken f save s pair

    abbrev v : ℕ
    v = (is_taken f save s pair).value

    there : instr_at f save ≡ Some c.instr
    there = instr_there f save.block save.at c.instr c.stands

    made : result_of c.instr ≡ Some (is_taken f save s pair).value
    made = made_by save c v token.made

    unmade : (p : Point) (i : Instr) → fetch f p.block p.at ≡ AtInstr i → (p ≡ save → ⊥)
        → is_result v (result_of i) ≡ false
    unmade p i e other = on (is_result v (result_of i)) refl
      where
        on : (b : Bool) → is_result v (result_of i) ≡ b → b ≡ false
        on false d = refl
        on true d = absurd (other (same_result k f rules.definitions p save i c.instr v
            (instr_there f p.block p.at i e) there (result_there m k f rules v (result_of i) d) made))

    no_phi_gives : (block : ℕ) → phis_give v (phis_of (slice_get f.blocks block)) ≡ false
    no_phi_gives block = on (slice_get f.blocks block) refl
      where
        by : (b : Block) → slice_get f.blocks block ≡ Some b → (t : Bool) → phis_give v b.phis ≡ t → t ≡ false
        by b e false d = refl
        by b e true d = absurd (no_phi k f rules.definitions block b save c.instr v e (phis_listed v b.phis d) there
            made)

        on : (o : Option Block) → slice_get f.blocks block ≡ o → phis_give v (phis_of o) ≡ false
        on None e = refl
        on (Some b) e = by b e (phis_give v b.phis) refl

    param_listed : (ps : List Param) → list_any (λ p. p.name == v) ps ≡ true → IsListed v (map (λ p. p.name) ps)
    param_listed [] h = absurd (cc)
    param_listed (p ∷ ps) h = on (p.name == v) refl h (param_listed ps)
      where
        on : (b : Bool) → (p.name == v) ≡ b → (b || list_any (λ q. q.name == v) ps) ≡ true
            → (list_any (λ q. q.name == v) ps ≡ true → IsListed v (map (λ q. q.name) ps))
            → IsListed v (p.name ∷ map (λ q. q.name) ps)
        on true e d rest = inl (sym (equal_numbers p.name v e))
        on false e d rest = inr (rest d)

    not_param : is_param f v ≡ false
    not_param = on (is_param f v) refl
      where
        on : (b : Bool) → is_param f v ≡ b → b ≡ false
        on false d = refl
        on true d = absurd (no_param k f rules.definitions save c.instr v there made (param_listed f.params d))

    abbrev ComesTo : Point → Type 0
    ComesTo p = Comes m k f rules (is_taken f save s pair).value p.block p.at

    at_entry : ComesTo (record { block = 0; at = 0 })
    at_entry = record {
      reaches = Entry;
      no_param = not_param;
      no_phi = no_phi_gives 0;
      unmade = λ j lt. absurd (omega arith);
    }

    comes_on : (p q : Point) → has_point (nexts f p) q ≡ true → (p ≡ save → ⊥) → ComesTo p → ComesTo q
    comes_on p q h other w = on (edge-cases f p q h)
      where
        inner : (x : IsInner f p q) → (o : Option Instr) → slice_get x.block.instrs p.at ≡ o → ComesTo q
        inner x None e = let past = none_past x.block.instrs p.at e in let lt = x.within
            in absurd (omega (arith, past, lt))
        inner x (Some i) e =
            let stands : fetch f p.block p.at ≡ AtInstr i = fetch_at f p i
            (ap (λ (o : Option Block). Rattle.pass_early_proof.specs.ir_paths.Windows.instr_in o p.at) x.got ∙ e) in
            let next = over_unmade m k f rules v p.block p.at i stands (unmade p i stands other) w in
            (λ (eb : q.block ≡ p.block) (ea : q.at ≡ p.at + 1).
            subst (λ (z : Point). ComesTo z) (λ j. record { block = sym eb j; at = sym ea j }) next) x.same x.next

        on : IsInner f p q ⊎ IsBranch f p q → ComesTo q
        on (inl x) = inner x (slice_get x.block.instrs p.at) refl
        on (inr x) =
            let r = entered_by f q (targets x.block.term) x.entry in
            let branches : BranchesTo r.0 (fetch f p.block p.at) =
            subst (BranchesTo r.0) (sym (behind_last f p.block p.at x.block x.got x.last))
            (listed-name r.0 (targets x.block.term) r.1) in
            subst (λ (z : Point). ComesTo z) (sym r.2)
            (across m k f rules v p.block p.at r.0 branches (no_phi_gives (position_of f r.0)) w)

    comes_along : (p : Point) (between : List Point) (q : Point) → IsPath f (save ∷ []) p between q → (p ≡ save → ⊥)
        → ComesTo p → ComesTo q
    comes_along p [] q h other w = comes_on p q h other w
    comes_along p (x ∷ between) q h other w =
        comes_along x between q h.2 (not_at x save h.1) (comes_on p x h.0 other w)

    not_at_suspend : ComesTo s → ⊥
    not_at_suspend w = not_read m k f rules v s.block s.at w
        (subst (λ x. IsListed v (used_by x)) (sym token.stands)
        (suspend_uses v token.instr
        (and_first (is_call_of Intrinsic.CoroSuspend token.instr) (is_local v (call_operand token.instr 0)) token.takes)
        (taken_operand v token.instr token.takes)))

    pub none_from_entry : ((record { block = 0; at = 0 }) ≡ save → ⊥)
        → ((record { block = 0; at = 0 }) ≡ s) ⊎ Leads f (save ∷ []) (record { block = 0; at = 0 }) s → ⊥
    none_from_entry other (inl e) = not_at_suspend (subst (λ (z : Point). ComesTo z) e at_entry)
    none_from_entry other (inr l) =
        not_at_suspend (comes_along (record { block = 0; at = 0 }) l.between s l.is_path other at_entry)
