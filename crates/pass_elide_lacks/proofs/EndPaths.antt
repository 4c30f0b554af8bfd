-- Paths from begin that don't pass the end.
use Rattle.std.proofs.Common.{◌≡◌, ◌⊎◌, inl, inr, ◌∙◌, ◌+◌, ℕ, Bool, true, false, [], ◌∷◌, None, Option, Some, ap, refl, sym, subst}
use Rattle.std.specs.Prelude.{slice_get}
use Rattle.pass_elide_meaning.proofs.pass_elide_edges.pass_elide_proof.ElidedFound.{fetched}
use Rattle.pass_elide_meaning.proofs.pass_elide_edges.pass_elide_proof.pass_proofs.ir_laws.paths.renamed.Outside.{where_pass}
use Rattle.pass_elide_meaning.specs.pass_elide_edges.pass_elide_proof.Places.{instrs_in}
use Rattle.pass_elide_meaning.specs.pass_elide_edges.pass_elide_proof.pass_proofs.flow_points.Reached.{IsReached as IsReachedBy}
use Rattle.pass_elide_meaning.specs.pass_elide_edges.pass_elide_proof.pass_proofs.ir_model.Names.{same_intrinsic}
use Rattle.pass_elide_meaning.specs.pass_elide_edges.pass_elide_proof.pass_proofs.ir_model.declared.instr.Instr.{Instr}
use Rattle.pass_elide_meaning.specs.pass_elide_edges.pass_elide_proof.pass_proofs.ir_model.declared.instr.Terminator.{Terminator}
use Rattle.pass_elide_meaning.specs.pass_elide_edges.pass_elide_proof.pass_proofs.ir_model.declared.module.Block.{Block}
use Rattle.pass_elide_meaning.specs.pass_elide_edges.pass_elide_proof.pass_proofs.ir_model.declared.module.Function.{Function}
use Rattle.pass_elide_meaning.specs.pass_elide_edges.pass_elide_proof.pass_proofs.ir_model.declared.operand.Callee.{Callee}
use Rattle.pass_elide_meaning.specs.pass_elide_edges.pass_elide_proof.pass_proofs.ir_model.declared.operand.Intrinsic.{Intrinsic}
use Rattle.pass_elide_meaning.specs.pass_elide_edges.pass_elide_proof.pass_proofs.ir_paths.Paths.{entry_point, has_point, nexts}
use Rattle.pass_elide_meaning.specs.pass_elide_edges.pass_elide_proof.pass_proofs.ir_paths.Windows.{instr_at, instr_in, is_call_of, points_where}
use Rattle.pass_elide_meaning.specs.pass_elide_edges.pass_elide_proof.pass_proofs.ir_paths.declared.point.Point.{Point}
use Rattle.pass_elide_meaning.specs.pass_elide_edges.pass_elide_proof.pass_proofs.pass_kept_proof.Needed.{BranchesTo, IsReached, after, along, first}
use Rattle.pass_elide_meaning.specs.pass_elide_edges.pass_elide_proof.pass_proofs.pass_kept_proof.SuspendRules.{IsCallAt}
use Rattle.pass_elide_meaning.specs.pass_elide_edges.pass_elide_proof.pass_proofs.rule_windows.Points.{begins, ends, entry}
use Rattle.pass_elide_meaning.specs.pass_elide_edges.pass_elide_proof.pass_proofs.rule_windows.Sets.{IsAfterEnd, IsWithoutBegin, RunsOut}
use Rattle.pass_elide_meaning.specs.pass_elide_edges.pass_elide_proof.pass_proofs.ir_laws.facts.renamed.Regular.{passes}
use Rattle.pass_elide_meaning.specs.pass_elide_edges.pass_elide_proof.pass_proofs.run_step.Step.{AtInstr, AtTerm, fetch}
use Rattle.run_slots.proofs.run_hooks.pass_renewed_proof.Ahead.{branch_edge, leads_more, next_edge}
use Rattle.run_slots.proofs.run_hooks.pass_renewed_proof.Left.{after_edge}

-- ---- calls at points

passing_is : (t : Instr → Bool) (o : Option Instr) → passes t o ≡ true
    → (i : Instr) × (o ≡ Some i) × (t i ≡ true)
passing_is t None h = absurd (cc)
passing_is t (Some i) h = (i, refl, h)

in_block : (o : Option Block) (at : ℕ) (i : Instr) → instr_in o at ≡ Some i → slice_get (instrs_in o) at ≡ Some i
in_block None at i h = absurd (cc)
in_block (Some b) at i h = h

-- what is listed as a call stands there
pub call_there : (j : Intrinsic) (f : Function) (p : Point)
    → has_point (points_where (is_call_of j) f) p ≡ true → IsCallAt j f p
call_there j f p h =
    let x = passing_is (is_call_of j) (instr_at f p) (where_pass (is_call_of j) f p h) in
    record {
      instr = x.0;
      stands = fetched f p.block p.at x.0 (in_block (slice_get f.blocks p.block) p.at x.0 x.1);
      is = x.2;
    }

by_none : (b : Bool) → (b ≡ true → ⊥) → b ≡ false
by_none true h = absurd (h refl)
by_none false h = refl

same_instr : (i j : Instr) → AtInstr i ≡ AtInstr j → i ≡ j
same_instr i j h = cc

no_term : (i : Instr) (t : Terminator) → AtInstr i ≡ AtTerm t → ⊥
no_term i t h = cc

-- two intrinsics aren't called at one point
apart : (i : Instr) (j k : Intrinsic) → ((x : Intrinsic) → same_intrinsic j x ≡ true → same_intrinsic k x ≡ true → ⊥)
    → is_call_of j i ≡ true → is_call_of k i ≡ true → ⊥
apart (Instr.Call result must_tail ty (Callee.Intrinsic x) args) j k never h l = never x h l
apart _ j k never h l = absurd (cc)

suspend_no_end : (x : Intrinsic) → same_intrinsic Intrinsic.CoroSuspend x ≡ true
    → same_intrinsic Intrinsic.CoroEnd x ≡ true → ⊥
suspend_no_end Intrinsic.CoroSuspend h l = absurd (cc)
suspend_no_end _ h l = absurd (cc)

suspend_no_begin : (x : Intrinsic) → same_intrinsic Intrinsic.CoroSuspend x ≡ true
    → same_intrinsic Intrinsic.CoroBegin x ≡ true → ⊥
suspend_no_begin Intrinsic.CoroSuspend h l = absurd (cc)
suspend_no_begin _ h l = absurd (cc)

module _ (f : Function) where
  -- where no end is called, no end is listed
  pub no_end : (p : Point) → (IsCallAt Intrinsic.CoroEnd f p → ⊥) → has_point (ends f) p ≡ false
  no_end p never = by_none (has_point (ends f) p) (λ yes. never (call_there Intrinsic.CoroEnd f p yes))

  suspend_apart : (p : Point) → IsCallAt Intrinsic.CoroSuspend f p → IsCallAt Intrinsic.CoroEnd f p → ⊥
  suspend_apart p c d =
      let same = same_instr d.instr c.instr (sym d.stands ∙ c.stands) in
      apart c.instr Intrinsic.CoroSuspend Intrinsic.CoroEnd suspend_no_end c.is
      (ap (is_call_of Intrinsic.CoroEnd) (sym same) ∙ d.is)

  begin_apart : (p : Point) → IsCallAt Intrinsic.CoroSuspend f p → IsCallAt Intrinsic.CoroBegin f p → ⊥
  begin_apart p c d =
      let same = same_instr d.instr c.instr (sym d.stands ∙ c.stands) in
      apart c.instr Intrinsic.CoroSuspend Intrinsic.CoroBegin suspend_no_begin c.is
      (ap (is_call_of Intrinsic.CoroBegin) (sym same) ∙ d.is)

  pub term_apart : (p : Point) (t : Terminator) → fetch f p.block p.at ≡ AtTerm t
      → IsCallAt Intrinsic.CoroEnd f p → ⊥
  term_apart p t there d = no_term d.instr t (sym d.stands ∙ there)

  -- ---- paths go on

  pub out_on : (p q : Point) → RunsOut f p → has_point (ends f) p ≡ false → has_point (nexts f p) q ≡ true
      → RunsOut f q
  out_on p q h none edge = record {
    start = h.start;
    is_start = h.is_start;
    path = leads_more f (ends f) h.start p q h.path none edge;
  }

  -- behind a suspend, at the labels of its switch
  pub out_behind : (p : Point) (label : ℕ) (c : IsCallAt Intrinsic.CoroSuspend f p) (t : Terminator)
      → fetch f p.block (p.at + 1) ≡ AtTerm t → BranchesTo label (AtTerm t) → RunsOut f p
      → RunsOut f (entry_point f label)
  out_behind p label c t there to h =
      out_on switch (entry_point f label)
      (out_on p switch h (no_end p (suspend_apart p c)) (next_edge f p.block p.at c.instr c.stands))
      (no_end switch (term_apart switch t there))
      (branch_edge f p.block (p.at + 1) label (subst (BranchesTo label) (sym there) to)).edge
    where
      switch : Point
      switch = record { block = p.block; at = p.at + 1 }

  -- ---- where a path leads from the entry

  data Comes (p : Point) : Type 0 where
    Without : IsWithoutBegin f p → Comes p
    AtBegin : has_point (begins f) p ≡ true → Comes p
    Out : RunsOut f p → Comes p
    Over : IsAfterEnd f p → Comes p

  comes_on : (p q : Point) → has_point (nexts f p) q ≡ true → Comes p → Comes q
  comes_on p q edge (Without w) = by (has_point (begins f) p) refl
    where
      later : (p ≡ entry) ⊎ IsReachedBy f (entry ∷ []) (begins f) p → has_point (begins f) p ≡ false
          → IsReachedBy f (entry ∷ []) (begins f) q
      later (inl is) none = record {
        start = p;
        is_start = subst (λ (z : Point). has_point (entry ∷ []) z ≡ true) (sym is) refl;
        path = record { between = []; is_path = edge };
      }
      later (inr r) none = record {
        start = r.start;
        is_start = r.is_start;
        path = leads_more f (begins f) r.start p q r.path none edge;
      }

      by : (b : Bool) → has_point (begins f) p ≡ b → Comes q
      by true listed = Out (record { start = p; is_start = listed; path = record { between = []; is_path = edge } })
      by false none = Without (record { begins_later = w.begins_later; path = inr (later w.path none) })
  comes_on p q edge (AtBegin listed) =
      Out (record { start = p; is_start = listed; path = record { between = []; is_path = edge } })
  comes_on p q edge (Out h) = by (has_point (ends f) p) refl
    where
      by : (b : Bool) → has_point (ends f) p ≡ b → Comes q
      by true listed = Over (record { start = p; is_start = listed; path = record { between = []; is_path = edge } })
      by false none = Out (out_on p q h none edge)
  comes_on p q edge (Over h) = Over (after_edge f p q h edge)

  comes : (block at : ℕ) → IsReached f block at → Comes (record { block = block; at = at })
  comes _ _ first = by (has_point (begins f) entry) refl
    where
      by : (b : Bool) → has_point (begins f) entry ≡ b → Comes entry
      by true listed = AtBegin listed
      by false none = Without (record { begins_later = none; path = inl refl })
  comes _ _ (after {block} {at} i there h) =
      comes_on (record { block = block; at = at }) (record { block = block; at = at + 1 })
      (next_edge f block at i there) (comes block at h)
  comes _ _ (along {block} {at} label to h) =
      comes_on (record { block = block; at = at }) (entry_point f label) (branch_edge f block at label to).edge
      (comes block at h)

  -- a suspend that is reached stands behind begin, before the end
  pub suspend_out : (p : Point) → IsReached f p.block p.at → IsCallAt Intrinsic.CoroSuspend f p
      → (IsWithoutBegin f p → ⊥) → (IsAfterEnd f p → ⊥) → RunsOut f p
  suspend_out p reached c begun past = by (comes p.block p.at reached)
    where
      by : Comes p → RunsOut f p
      by (Without w) = absurd (begun w)
      by (AtBegin listed) = absurd (begin_apart p c (call_there Intrinsic.CoroBegin f p listed))
      by (Out h) = h
      by (Over h) = absurd (past h)
