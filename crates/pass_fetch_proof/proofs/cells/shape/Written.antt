-- What is written around instructions for cells leaves the calls of a coroutine.
use Rattle.std.proofs.Common.{◌≡◌, ◌⊎◌, inl, inr, ⊎_elim, ℕ, ◌+◌, ◌<◌, ◌≤◌, Bool, true, false, List, [], ◌∷◌, ◌++◌, length, refl, sym, ap, ◌∙◌, subst, arith, append_assoc}
use Rattle.std.specs.Prelude.{Some, None, Option, slice_get, ◌==◌}
use Rattle.pass_fetch_proof.proofs.cells.crossing.Calls.{AreQuiet, IsQuiet, agains_quiet, behind_quiet, phis_quiet, result_quiet, saves_quiet}
use Rattle.pass_edges_proof.proofs.rule_laws.rules.crossing.Follows.{IsExtra}
use Rattle.pass_fetch_proof.proofs.cells.crossing.Follows.{agains_extra, behind_extra, saves_extra}
use Rattle.pass_fetch_proof.proofs.cells.rules.Around.{again_low, saved_low}
use Rattle.pass_fetch_proof.proofs.cells.rules.Indices.{behind_low}
use Rattle.pass_fetch_proof.proofs.cells.rules.Planned.{IsPlanned}
use Rattle.pass_fetch_proof.proofs.cells.rules.Single.{IsSound}
use Rattle.pass_fetch_proof.proofs.cells.rules.Counts.{written_low}
use Rattle.pass_edges_proof.specs.rule_uses.Uses.{locals_in}
use Rattle.pass_edges_proof.proofs.ir_laws.facts.Truth.{itself}
use Rattle.pass_edges_proof.proofs.ir_laws.facts.Members.{each_joined}
use Rattle.pass_edges_proof.proofs.ir_laws.facts.local_rules.Woven.{other_number}
use Rattle.pass_edges_proof.proofs.early.path_rules.SavedSwitches.{times_in}
use Rattle.pass_edges_proof.proofs.edges.shape.Uses.{ends_total}
use Rattle.pass_edges_proof.specs.flow_solver.Paths.{IsListed}
use Rattle.pass_edges_proof.proofs.rule_laws.rules.shape.Ordered.{HasNoFirstEnd, phis_no_end}
use Rattle.pass_edges_proof.proofs.edges.calls.Spared.{AreInstrsOther, AreOther, IsOther, IsSpared}
use Rattle.pass_edges_proof.proofs.edges.calls.Steadily.{AreSteady, IsFirstClear}
use Rattle.pass_edges_proof.proofs.rule_laws.rules.shape.Steady.{AreAllOrdered, IsBlockKept, IsPlain, Keeps, LeadsAt, Ended, all_calls, all_labels, behind_first, in_front, row}
use Rattle.pass_edges_proof.proofs.ir_laws.paths.shape.Steady.{AreOrdered, is_end, is_suspend}
use Rattle.pass_edges_proof.specs.ir_parts.Contents.{ending_operands, instr_operands, result_of}
use Rattle.ir_model.specs.Names.{intrinsic_number}
use Rattle.ir_model.specs.declared.instr.Instr.{Instr}
use Rattle.ir_model.specs.declared.instr.Phi.{Phi}
use Rattle.ir_model.specs.declared.module.Block.{Block}
use Rattle.ir_model.specs.declared.module.Function.{Function}
use Rattle.ir_model.specs.declared.module.Module.{Module}
use Rattle.ir_model.specs.declared.module.Param.{Param}
use Rattle.ir_model.specs.declared.operand.Callee.{Callee}
use Rattle.ir_model.specs.declared.operand.Intrinsic.{Intrinsic}
use Rattle.ir_model.specs.declared.operand.Operand.{Operand}
use Rattle.pass_edges_proof.specs.ir_paths.Windows.{call_result}
use Rattle.pass_edges_proof.specs.run_laws.changed.Changed.{Each}
use Rattle.pass_edges_proof.specs.pass_cells.Kept.{entry}
use Rattle.pass_edges_proof.specs.pass_cells.Moves.{after_again, after_saved, again_values, saved_values}
use Rattle.pass_edges_proof.specs.pass_cells.Written.{after_block, after_one, again_row, distance_behind, entry_blocks, row_at, save_row, stored, stored_at, stored_one, stored_params, stored_phis, stored_result, written_block, written_blocks, written_instrs, written_one}
use Rattle.pass_edges_proof.specs.pass_cells.declared.plan.KeptValue.{KeptValue}
use Rattle.pass_edges_proof.specs.pass_cells.declared.plan.Plan.{Plan}
use Rattle.pass_edges_proof.specs.ir_laws.facts.woven_rules.Pairs.{Empty, Pair, Pairwise}
use Rattle.pass_edges_proof.specs.rule_laws.rules.woven_rules.Weaving.{Weaving}

-- ---- an instruction that calls no intrinsic is none of the calls

pub quiet_plain : (j : Instr) → IsQuiet j → IsPlain j
quiet_plain (Instr.Call result must_tail ty (Callee.Intrinsic x) args) h b at = let t : true ≡ false = sym (itself (intrinsic_number x)) ∙ h x in absurd (cc)
quiet_plain (Instr.Call result must_tail ty (Callee.Named c) args) h b at = refl
quiet_plain (Instr.Call result must_tail ty (Callee.Allocator c) args) h b at = refl
quiet_plain (Instr.Call result must_tail ty (Callee.Local v) args) h b at = refl
quiet_plain (Instr.Binary r op flags ty x y) h b at = refl
quiet_plain (Instr.Icmp r pred ty x y) h b at = refl
quiet_plain (Instr.Select r c x y) h b at = refl
quiet_plain (Instr.Cast r op nneg a to) h b at = refl
quiet_plain (Instr.Alloca r ty align) h b at = refl
quiet_plain (Instr.Load r ty x align) h b at = refl
quiet_plain (Instr.Store a x align) h b at = refl
quiet_plain (Instr.Gep r inbounds ty x args) h b at = refl

pub all_plain : (js : List Instr) → AreQuiet js → Each IsPlain js
all_plain [] h = tt
all_plain (j ∷ js) h = (quiet_plain j h.0, all_plain js h.1)

-- ---- what isn't used

unused_other : (v : ℕ) (xs : List Operand) → (IsListed v (locals_in xs) → ⊥) → AreOther v xs
unused_other v [] h = tt
unused_other v (Operand.Local u ∷ xs) h = (other_number v u (λ e. h (inl e)), unused_other v xs (λ l. h (inr l)))
unused_other v (Operand.Global n ∷ xs) h = (refl, unused_other v xs h)
unused_other v (Operand.Number z ∷ xs) h = (refl, unused_other v xs h)
unused_other v (Operand.True ∷ xs) h = (refl, unused_other v xs h)
unused_other v (Operand.False ∷ xs) h = (refl, unused_other v xs h)
unused_other v (Operand.Null ∷ xs) h = (refl, unused_other v xs h)
unused_other v (Operand.None ∷ xs) h = (refl, unused_other v xs h)
unused_other v (Operand.Poison ∷ xs) h = (refl, unused_other v xs h)

pub other_unused : (v : ℕ) (xs : List Operand) → AreOther v xs → IsListed v (locals_in xs) → ⊥
other_unused v [] h l = l
other_unused v (Operand.Local u ∷ xs) h (inl e) = let t : true ≡ false = sym (ap (λ (n : ℕ). v == n) (sym e) ∙ itself v) ∙ h.0 in absurd (cc)
other_unused v (Operand.Local u ∷ xs) h (inr l) = other_unused v xs h.1 l
other_unused v (Operand.Global n ∷ xs) h l = other_unused v xs h.1 l
other_unused v (Operand.Number z ∷ xs) h l = other_unused v xs h.1 l
other_unused v (Operand.True ∷ xs) h l = other_unused v xs h.1 l
other_unused v (Operand.False ∷ xs) h l = other_unused v xs h.1 l
other_unused v (Operand.Null ∷ xs) h l = other_unused v xs h.1 l
other_unused v (Operand.None ∷ xs) h l = other_unused v xs h.1 l
other_unused v (Operand.Poison ∷ xs) h l = other_unused v xs h.1 l

extras_other : (v : ℕ) (js : List Instr) → Each (IsExtra v) js → AreInstrsOther v js
extras_other v [] h = tt
extras_other v (j ∷ js) h = (unused_other v (instr_operands j) h.0.unused, extras_other v js h.1)

-- ---- where no end leads, or nothing stands in front

pub leads_when : (l : Bool) (is : List Instr) → (l ≡ true) ⊎ HasNoFirstEnd is → LeadsAt l is
leads_when l [] h = tt
leads_when l (i ∷ is) h = λ e. ⊎_elim (λ t. t) (λ no. absurd (no e)) h

pub still_ahead : (ps is : List Instr) (l now : Bool) → (ps ≡ [] → now ≡ l) → (ps ≡ []) ⊎ HasNoFirstEnd is → (l ≡ true) ⊎ HasNoFirstEnd is → (now ≡ true) ⊎ HasNoFirstEnd is
still_ahead ps is l now e none was = ⊎_elim (λ a. ⊎_elim (λ t. inl (e a ∙ t)) (λ no. inr no) was) (λ no. inr no) none

module _ (m : Module) (p : Plan) where
  -- ---- one instruction

  regrouped : (a b c d : List Instr) (j : Instr) → ((a ++ (j ∷ b)) ++ c) ++ d ≡ a ++ (j ∷ (b ++ (c ++ d)))
  regrouped a b c d j = append_assoc (a ++ (j ∷ b)) c d ∙ append_assoc a (j ∷ b) (c ++ d)

  end_saved : (k : ℕ) (i : Instr) → is_end i ≡ true → saved_values p.kept k (save_row p i) ≡ []
  end_saved k (Instr.Call (Some r) must_tail ty (Callee.Intrinsic Intrinsic.CoroEnd) args) e = refl
  end_saved k (Instr.Call None must_tail ty (Callee.Intrinsic Intrinsic.CoroEnd) args) e = refl
  end_saved k _ e = absurd (cc)

  suspend_alone : (k : ℕ) (i : Instr) (xs : List Instr) → is_suspend i ≡ true → ((v : ℕ) → call_result i ≡ Some v → entry p.places v ≡ None) → stored_result p (result_of i) ++ (distance_behind m p k i ++ xs) ≡ xs
  suspend_alone k (Instr.Call (Some r) must_tail ty (Callee.Intrinsic Intrinsic.CoroSuspend) args) xs e h = ap (λ (o : Option ℕ). stored_at p.kept r o ++ xs) (h r refl)
  suspend_alone k (Instr.Call None must_tail ty (Callee.Intrinsic Intrinsic.CoroSuspend) args) xs e h = refl
  suspend_alone k _ xs e h = absurd (cc)

  module _ (V : ℕ → Type 0) (unplaced : (v : ℕ) → V v → entry p.places v ≡ None) where
    instrs_kept : (ahead : Bool) (at k : ℕ) (is : List Instr) → AreOrdered V at is → LeadsAt ahead is → Keeps ahead is (written_instrs m p k is)
    instrs_kept ahead at k [] o leads = Ended ahead
    instrs_kept ahead at k (i ∷ is) o leads =
        let a : List Instr = saved_values p.kept k (save_row p i) in
        let b : List Instr = stored_result p (result_of i) in
        let k1 : ℕ = after_saved k (save_row p i) in
        let c : List Instr = distance_behind m p k1 i in
        let k2 : ℕ = after_one m p k i in
        let more : List Instr = written_instrs m p k2 is in
        subst (Keeps ahead (i ∷ is)) (sym (regrouped a b c more i))
        (row ahead i i is a (b ++ (c ++ more)) (all_plain a (saves_quiet p.kept k (save_row p i))) (λ x y. refl)
        (λ e. (end_saved k i e, leads e))
        (λ e. suspend_alone k1 i more e (λ v r. unplaced v (o.0.value v e r)) ∙ ap (written_instrs m p k2) (o.0.last e))
        (in_front false b is (c ++ more) (all_plain b (result_quiet p (result_of i)))
        (λ l1 e1. in_front l1 c is more (all_plain c (behind_quiet m p k1 i))
        (λ l2 e2. instrs_kept l2 (at + 1) k2 is o.1 (behind_first V l2 at is o.1)))))

    -- ---- a block

    abbrev pub AreReturnsClear : Block → Type 0
    AreReturnsClear c = (x : ℕ) → entry p.returns c.label ≡ Some x → HasNoFirstEnd c.instrs

    again_clear : (k : ℕ) (c : Block) → AreReturnsClear c → (again_values p.kept k (again_row p c.label) ≡ []) ⊎ HasNoFirstEnd c.instrs
    again_clear k c h = on (entry p.returns c.label) refl
      where
        on : (o : Option ℕ) → entry p.returns c.label ≡ o → (again_values p.kept k (row_at p.rows o) ≡ []) ⊎ HasNoFirstEnd c.instrs
        on None e = inl refl
        on (Some x) e = inr (h x e)

    phis_clear : (ps : List Phi) (is : List Instr) → AreOrdered V (length ps) is → (stored_phis p ps ≡ []) ⊎ HasNoFirstEnd is
    phis_clear [] is o = inl refl
    phis_clear (q ∷ ps) is o = inr (phis_no_end V q ps is o)

    block_regrouped : (a b c d : List Instr) → ((a ++ b) ++ c) ++ d ≡ a ++ (b ++ (c ++ d))
    block_regrouped a b c d = append_assoc (a ++ b) c d ∙ append_assoc a b (c ++ d)

    block_kept : (front : List Instr) (k : ℕ) (c : Block) → Each IsPlain front → (front ≡ []) ⊎ HasNoFirstEnd c.instrs → AreReturnsClear c → AreOrdered V (length c.phis) c.instrs → IsBlockKept V c (written_block m p front k c)
    block_kept front k c plain none clear o =
        let again : List Instr = again_values p.kept k (again_row p c.label) in
        let phis : List Instr = stored_phis p c.phis in
        let k2 : ℕ = after_again k (again_row p c.label) in
        let all : List Instr = written_instrs m p k2 c.instrs in
        record {
          label = refl;
          phis = refl;
          instrs =
              subst (Keeps true c.instrs) (sym (block_regrouped front again phis all))
              (in_front true front c.instrs (again ++ (phis ++ all)) plain
              (λ l1 e1. in_front l1 again c.instrs (phis ++ all) (all_plain again (agains_quiet p.kept k (again_row p c.label)))
              (λ l2 e2. in_front l2 phis c.instrs all (all_plain phis (phis_quiet p c.phis))
              (λ l3 e3.
              instrs_kept l3 (length c.phis) k2 c.instrs o
              (leads_when l3 c.instrs
              (still_ahead phis c.instrs l2 l3 e3 (phis_clear c.phis c.instrs o)
              (still_ahead again c.instrs l1 l2 e2 (again_clear k c clear)
              (still_ahead front c.instrs true l1 e1 none (inl refl)))))))));
          term = λ v x. refl;
        }

    later_kept : (k : ℕ) (cs : List Block) → Each AreReturnsClear cs → AreAllOrdered V cs → Pairwise (IsBlockKept V) cs (written_blocks m p k cs)
    later_kept k [] clear o = Empty
    later_kept k (c ∷ cs) clear o = Pair c (written_block m p [] k c) cs (written_blocks m p (after_block m p k c) cs) (block_kept [] k c tt (inl refl) clear.0 o.0) (later_kept (after_block m p k c) cs clear.1 o.1)

    entry_kept : (front : List Instr) (k : ℕ) (cs : List Block) → Each IsPlain front → IsFirstClear cs → Each AreReturnsClear cs → AreAllOrdered V cs → Pairwise (IsBlockKept V) cs (entry_blocks m p front k cs)
    entry_kept front k [] plain first clear o = Empty
    entry_kept front k (c ∷ cs) plain first clear o = Pair c (written_block m p front k c) cs (written_blocks m p (after_block m p k c) cs) (block_kept front k c plain (inr first) clear.0 o.0) (later_kept (after_block m p k c) cs clear.1 o.1)

    pub entry_steady : (front : List Instr) (k : ℕ) (cs : List Block) → Each IsPlain front → IsFirstClear cs → Each AreReturnsClear cs → AreAllOrdered V cs → ((v : ℕ) → V v → Each (IsSpared v) cs → Each (IsSpared v) (entry_blocks m p front k cs)) → ((v : ℕ) → ends_total v (entry_blocks m p front k cs) ≡ ends_total v cs) → AreSteady V cs (entry_blocks m p front k cs)
    entry_steady front k cs plain first clear o spares ends =
        let pairs : Pairwise (IsBlockKept V) cs (entry_blocks m p front k cs) = entry_kept front k cs plain first clear o in
        record {
          labels = all_labels V cs (entry_blocks m p front k cs) pairs;
          calls = all_calls V cs (entry_blocks m p front k cs) pairs o;
          spares = spares;
          ends = λ v x. let same : ends_total v (entry_blocks m p front k cs) ≡ ends_total v cs = ends v in omega (arith, same);
        }

  -- ---- a value that isn't kept

  module _ (w : Weaving) (f : Function) (ok : IsSound w f) (planned : IsPlanned w f p) (v : ℕ) (old : v < w.first) (unplaced : entry p.places v ≡ None) (no_slot : (k : ℕ) (x : KeptValue) (s : ℕ) → slice_get p.kept k ≡ Some x → x.slot ≡ Some s → s ≡ v → ⊥) where
    abbrev Joined : (xs ys : List Instr) → AreInstrsOther v xs → AreInstrsOther v ys → AreInstrsOther v (xs ++ ys)
    Joined xs ys h k = each_joined (λ (i : Instr). AreOther v (instr_operands i)) xs ys h k

    cell_other : (c : ℕ) → IsListed c w.fronts → IsOther v (Operand.Local c)
    cell_other c l = let low : w.first ≤ c = ok.low c l in other_number v c (λ e. absurd (omega (arith, e, low, old)))

    stored_other : (u : ℕ) (o : Option ℕ) → entry p.places u ≡ o → AreInstrsOther v (stored_at p.kept u o)
    stored_other u None e = tt
    stored_other u (Some k) e = on (slice_get p.kept k) refl
      where
        different : v ≡ u → ⊥
        different s = let no : None ≡ Some k = sym unplaced ∙ ap (entry p.places) s ∙ e in absurd (cc)

        on : (o : Option KeptValue) → slice_get p.kept k ≡ o → AreInstrsOther v (stored_one u o)
        on None d = tt
        on (Some x) d = ((other_number v u different, (cell_other x.cell (planned.kept k x d).cell, tt)), tt)

    result_other : (o : Option ℕ) → AreInstrsOther v (stored_result p o)
    result_other None = tt
    result_other (Some u) = stored_other u (entry p.places u) refl

    phis_other : (ps : List Phi) → AreInstrsOther v (stored_phis p ps)
    phis_other [] = tt
    phis_other (x ∷ xs) = Joined (stored p x.result) (stored_phis p xs) (stored_other x.result (entry p.places x.result) refl) (phis_other xs)

    pub params_other : (ps : List Param) → AreInstrsOther v (stored_params p ps)
    params_other [] = tt
    params_other (x ∷ xs) = Joined (stored p x.name) (stored_params p xs) (stored_other x.name (entry p.places x.name) refl) (params_other xs)

    instrs_other : (k : ℕ) (is : List Instr) → w.first ≤ k → AreInstrsOther v is → AreInstrsOther v (written_instrs m p k is)
    instrs_other k [] low h = tt
    instrs_other k (i ∷ is) low h =
        let a : List Instr = saved_values p.kept k (save_row p i) in
        let b : List Instr = stored_result p (result_of i) in
        let k1 : ℕ = after_saved k (save_row p i) in
        let c : List Instr = distance_behind m p k1 i in
        let k2 : ℕ = after_one m p k i in
        let low1 : w.first ≤ k1 = saved_low w.first k (save_row p i) low in
        Joined (written_one m p k i) (written_instrs m p k2 is)
        (Joined (a ++ (i ∷ b)) c
        (Joined a (i ∷ b) (extras_other v a (saves_extra w f p ok planned v old k (save_row p i) low)) (h.0, result_other (result_of i)))
        (extras_other v c (behind_extra w f p ok planned v old m k1 i low1 (other_unused v (instr_operands i) h.0))))
        (instrs_other k2 is (behind_low m p w.first k1 i low1) h.1)

    block_other : (front : List Instr) (k : ℕ) (c : Block) → AreInstrsOther v front → w.first ≤ k → IsSpared v c → IsSpared v (written_block m p front k c)
    block_other front k c ahead low h =
        let again : List Instr = again_values p.kept k (again_row p c.label) in
        let phis : List Instr = stored_phis p c.phis in
        let k2 : ℕ = after_again k (again_row p c.label) in
        record {
          phis = h.phis;
          instrs =
              Joined ((front ++ again) ++ phis) (written_instrs m p k2 c.instrs)
              (Joined (front ++ again) phis (Joined front again ahead (extras_other v again (agains_extra w f p ok planned v old no_slot k (again_row p c.label) low))) (phis_other c.phis))
              (instrs_other k2 c.instrs (again_low w.first k (again_row p c.label) low) h.instrs);
        }

    next_low : (k : ℕ) (c : Block) → w.first ≤ k → w.first ≤ after_block m p k c
    next_low k c low =
        let mid : ℕ = after_again k (again_row p c.label) in
        let a : w.first ≤ mid = again_low w.first k (again_row p c.label) low in
        let b : mid ≤ after_block m p k c = written_low 0 m p mid c.instrs in
        omega (arith, a, b)

    later_other : (k : ℕ) (cs : List Block) → w.first ≤ k → Each (IsSpared v) cs → Each (IsSpared v) (written_blocks m p k cs)
    later_other k [] low h = tt
    later_other k (c ∷ cs) low h = (block_other [] k c tt low h.0, later_other (after_block m p k c) cs (next_low k c low) h.1)

    pub entry_other : (front : List Instr) (k : ℕ) (cs : List Block) → AreInstrsOther v front → w.first ≤ k → Each (IsSpared v) cs → Each (IsSpared v) (entry_blocks m p front k cs)
    entry_other front k [] ahead low h = tt
    entry_other front k (c ∷ cs) ahead low h = (block_other front k c ahead low h.0, later_other (after_block m p k c) cs (next_low k c low) h.1)

  -- ---- ends are the same

  later_ends : (v k : ℕ) (cs : List Block) → ends_total v (written_blocks m p k cs) ≡ ends_total v cs
  later_ends v k [] = refl
  later_ends v k (c ∷ cs) = λ e. times_in v (ending_operands c.term) + later_ends v (after_block m p k c) cs e

  pub entry_ends : (v : ℕ) (front : List Instr) (k : ℕ) (cs : List Block) → ends_total v (entry_blocks m p front k cs) ≡ ends_total v cs
  entry_ends v front k [] = refl
  entry_ends v front k (c ∷ cs) = λ e. times_in v (ending_operands c.term) + later_ends v (after_block m p k c) cs e
