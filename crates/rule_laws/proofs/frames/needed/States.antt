-- A path from the entry leads to a point before begin, between begin and the end, or behind the end.
use Rattle.std.proofs.Common.{◌≡◌, ◌⊎◌, inl, inr, ℕ, zero, suc, ◌+◌, ◌<◌, Bool, true, false, List, [], ◌∷◌, length, refl, sym, ap, ◌∙◌, subst, arith}
use Rattle.std.proofs.lemmas.Option.{slice_get_past}
use Rattle.std.specs.Prelude.{Some, None, Option, map, slice_get, ◌==◌}
use Rattle.rule_shape.specs.OneOfEach.{wrong_call}
use Rattle.ir_laws.proofs.facts.Truth.{equal_numbers}
use Rattle.ir_laws.proofs.facts.Lists.{get_within}
use Rattle.ir_laws.specs.facts.renamed.Regular.{passes}
use Rattle.rule_laws.proofs.rules.path_rules.Outside.{NothingOutside}
use Rattle.ir_laws.proofs.paths.path_rules.Where.{has_where}
use Rattle.rule_laws.proofs.rules.source_rules.Ends.{end_first}
use Rattle.rule_laws.proofs.rules.source_rules.Once.{one_end}
use Rattle.ir_laws.specs.flow_solver.Paths.{IsListed}
use Rattle.ir_laws.specs.ir_model.Names.{position_of}
use Rattle.ir_laws.specs.ir_model.declared.instr.Instr.{Instr}
use Rattle.ir_laws.specs.ir_model.declared.module.Block.{Block}
use Rattle.ir_laws.specs.ir_model.declared.module.Function.{Function}
use Rattle.ir_laws.specs.ir_model.declared.operand.Callee.{Callee}
use Rattle.ir_laws.specs.ir_model.declared.operand.Intrinsic.{Intrinsic}
use Rattle.ir_laws.proofs.ir_paths.Search.{Has, leads-more, or_left, or_right, same_point-itself}
use Rattle.ir_laws.specs.ir_paths.Paths.{Leads, entry_point, has_point, nexts, same_point, targets}
use Rattle.ir_laws.specs.ir_paths.Windows.{end_block, instr_at, instr_in, is_call_of}
use Rattle.ir_laws.specs.ir_paths.declared.point.Point.{Point}
use Rattle.ir_laws.specs.run_step.Step.{AtInstr, Nowhere, fetch, fetch_in, fetch_or}
use Rattle.flow_points.proofs.Neighbours.{next-inner, next-term}
use Rattle.frame_contents.specs.frame_crossing.Paths.{Along, BranchesTo, IsOutside, LeadsTo, Over, There}
use Rattle.rule_windows.specs.Outside.{ends_with_it, needs_begin}
use Rattle.rule_windows.specs.Points.{begins, ends, entry}
use Rattle.rule_windows.specs.Sets.{IsAfterEnd, IsWithoutBegin, RunsOut}

abbrev pub point : ℕ → ℕ → Point
point block at = record { block = block; at = at }

-- ---- edges of points

module _ (f : Function) where
  entry_among : (ts : List ℕ) (label : ℕ) → IsListed label ts → has_point (map (entry_point f) ts) (entry_point f label) ≡ true
  entry_among [] label l = absurd l
  entry_among (t ∷ ts) label (inl e) =
      or_left (same_point (entry_point f label) (entry_point f t)) (has_point (map (entry_point f) ts) (entry_point f label))
      (ap (λ (n : ℕ). same_point (entry_point f label) (entry_point f n)) (sym e) ∙ same_point-itself (entry_point f label))
  entry_among (t ∷ ts) label (inr l) = or_right (same_point (entry_point f label) (entry_point f t)) (has_point (map (entry_point f) ts) (entry_point f label)) (entry_among ts label l)

  pub next_in : (q at : ℕ) (b : Block) → slice_get f.blocks q ≡ Some b → at < length b.instrs → Has (nexts f (point q at)) (point q (at + 1))
  next_in q at b got lt =
      ap (λ (ps : List Point). has_point ps (point q (at + 1))) (next-inner f (point q at) b got lt)
      ∙ or_left (same_point (point q (at + 1)) (point q (at + 1))) false (same_point-itself (point q (at + 1)))

  pub next_out : (q : ℕ) (b : Block) (label : ℕ) → slice_get f.blocks q ≡ Some b → IsListed label (targets b.term) → Has (nexts f (point q (length b.instrs))) (entry_point f label)
  next_out q b label got l =
      ap (λ (ps : List Point). has_point ps (entry_point f label)) (next-term f (point q (length b.instrs)) b got refl) ∙ entry_among (targets b.term) label l

  -- the same by what stands at the point
  over_edge : (q at : ℕ) (i : Instr) → fetch f q at ≡ AtInstr i → Has (nexts f (point q at)) (point q (at + 1))
  over_edge q at i e = on (slice_get f.blocks q) refl (e)
    where
      on : (o : Option Block) → slice_get f.blocks q ≡ o → fetch f q at ≡ AtInstr i → Has (nexts f (point q at)) (point q (at + 1))
      on None d h = let no : Nowhere ≡ AtInstr i = sym (ap (λ (o : Option Block). fetch_in o at) d) ∙ h in absurd (cc)
      on (Some b) d h = inside (slice_get b.instrs at) refl (sym (ap (λ (o : Option Block). fetch_in o at) d) ∙ h)
        where
          neither : (t : Bool) → fetch_or None t b.term ≡ AtInstr i → ⊥
          neither true k = absurd (cc)
          neither false k = absurd (cc)

          inside : (o : Option Instr) → slice_get b.instrs at ≡ o → fetch_or o (at == length b.instrs) b.term ≡ AtInstr i → Has (nexts f (point q at)) (point q (at + 1))
          inside None s k = absurd (neither (at == length b.instrs) k)
          inside (Some j) s k = next_in q at b d (get_within b.instrs at j s)

  along_edge : (q at label : ℕ) → BranchesTo label (fetch f q at) → Has (nexts f (point q at)) (entry_point f label)
  along_edge q at label h = on (slice_get f.blocks q) refl
    where
      on : (o : Option Block) → slice_get f.blocks q ≡ o → Has (nexts f (point q at)) (entry_point f label)
      on None d = absurd (subst (BranchesTo label) (ap (λ (o : Option Block). fetch_in o at) d) h)
      on (Some b) d = inside (slice_get b.instrs at) (at == length b.instrs) refl (subst (BranchesTo label) (ap (λ (o : Option Block). fetch_in o at) d) h)
        where
          inside : (o : Option Instr) (t : Bool) → (at == length b.instrs) ≡ t → BranchesTo label (fetch_or o t b.term) → Has (nexts f (point q at)) (entry_point f label)
          inside (Some i) t s k = absurd k
          inside None true s k =
              let last : length b.instrs ≡ at = sym (equal_numbers at (length b.instrs) s) in
              subst (λ (n : ℕ). Has (nexts f (point q n)) (entry_point f label)) last (next_out q b label d k)
          inside None false s k = absurd k

-- ---- suspends

suspend_needs : (i : Instr) → is_call_of Intrinsic.CoroSuspend i ≡ true → needs_begin i ≡ true
suspend_needs (Instr.Call r must_tail ty (Callee.Intrinsic Intrinsic.CoroSuspend) args) e = refl
suspend_needs _ e = absurd (cc)

suspend_ends : (i : Instr) → is_call_of Intrinsic.CoroSuspend i ≡ true → ends_with_it i ≡ true
suspend_ends (Instr.Call r must_tail ty (Callee.Intrinsic Intrinsic.CoroSuspend) args) e = refl
suspend_ends _ e = absurd (cc)

suspend_other : (i : Instr) → is_call_of Intrinsic.CoroSuspend i ≡ true → is_call_of Intrinsic.CoroBegin i ≡ false
suspend_other (Instr.Call r must_tail ty (Callee.Intrinsic Intrinsic.CoroSuspend) args) e = refl
suspend_other _ e = absurd (cc)

-- ---- where a point stands

module _ (f : Function) where
  abbrev Early : Point → Type 0
  Early p = (p ≡ entry) ⊎ ((has_point (begins f) entry ≡ false) × Leads f (begins f) entry p)

  -- before begin, between begin and the end, or behind the end
  abbrev pub Stands : Point → Type 0
  Stands p = Early p ⊎ (RunsOut f p ⊎ IsAfterEnd f p)

  pub at_entry : Stands entry
  at_entry = inl (inl refl)

  pub runs_on : (p q : Point) → RunsOut f p → has_point (ends f) p ≡ false → Has (nexts f p) q → RunsOut f q
  runs_on p q x none edge = record { start = x.start; is_start = x.is_start; path = leads-more f (ends f) x.start p q x.path none edge }

  one_step : (p q : Point) → Has (nexts f p) q → Stands p → Stands q
  one_step p q edge (inl x) = on (has_point (begins f) p) refl
    where
      more : has_point (begins f) p ≡ false → Early p → Early q
      more none (inl e) = inr (ap (has_point (begins f)) (sym e) ∙ none, record { between = []; is_path = ap (λ (y : Point). has_point (nexts f y) q) (sym e) ∙ edge })
      more none (inr h) = inr (h.0, leads-more f (begins f) entry p q h.1 none edge)

      on : (b : Bool) → has_point (begins f) p ≡ b → Stands q
      on true e = inr (inl (record { start = p; is_start = e; path = record { between = []; is_path = edge } }))
      on false e = inl (more e x)
  one_step p q edge (inr (inl x)) = on (has_point (ends f) p) refl
    where
      on : (b : Bool) → has_point (ends f) p ≡ b → Stands q
      on true e = inr (inr (record { start = p; is_start = e; path = record { between = []; is_path = edge } }))
      on false e = inr (inl (runs_on p q x e edge))
  one_step p q edge (inr (inr x)) = inr (inr (record { start = x.start; is_start = x.is_start; path = leads-more f [] x.start p q x.path refl edge }))

  pub stands_on : (tb ta b a : ℕ) → LeadsTo f tb ta b a → Stands (point b a) → Stands (point tb ta)
  stands_on tb ta _ _ There s = s
  stands_on tb ta _ _ (Over b a i e rest) s = stands_on tb ta b (a + 1) rest (one_step (point b a) (point b (a + 1)) (over_edge f b a i e) s)
  stands_on tb ta _ _ (Along b a label e rest) s = stands_on tb ta (position_of f label) 0 rest (one_step (point b a) (entry_point f label) (along_edge f b a label e) s)

  -- further within a block
  pub stands_within : (n q at : ℕ) (b : Block) → slice_get f.blocks q ≡ Some b → at + n < length b.instrs → Stands (point q at) → Stands (point q (at + n))
  stands_within zero q at b got lt s = let same : at ≡ at + 0 = omega arith in subst (λ (j : ℕ). Stands (point q j)) same s
  stands_within (suc n) q at b got lt s =
      let here : at < length b.instrs = omega (arith, lt) in
      let more : at + 1 + n < length b.instrs = omega (arith, lt) in
      let same : at + 1 + n ≡ at + suc n = omega arith in
      subst (λ (j : ℕ). Stands (point q j)) same (stands_within n q (at + 1) b got more (one_step (point q at) (point q (at + 1)) (next_in f q at b got here) s))

  -- ---- a suspend stands between begin and the end

  without : (p : Point) → has_point (begins f) p ≡ false → Early p → IsWithoutBegin f p
  without p none (inl e) = record { begins_later = ap (has_point (begins f)) (sym e) ∙ none; path = inl e }
  without p none (inr h) = record { begins_later = h.0; path = inr (record { start = entry; is_start = refl; path = h.1 }) }

  pub suspend_runs : NothingOutside f → (p : Point) (i : Instr) → instr_at f p ≡ Some i → is_call_of Intrinsic.CoroSuspend i ≡ true → Stands p → RunsOut f p
  suspend_runs none p i e s (inl x) =
      absurd (none.instrs p i e (inr (suspend_needs i s, without p (has_where (is_call_of Intrinsic.CoroBegin) f p ∙ ap (passes (is_call_of Intrinsic.CoroBegin)) e ∙ suspend_other i s) x)))
  suspend_runs none p i e s (inr (inl x)) = x
  suspend_runs none p i e s (inr (inr x)) = absurd (none.instrs p i e (inl (suspend_ends i s, x)))

-- ---- outside the end's block

module _ (k : ℕ) (f : Function) (coroutine : f.coroutine ≡ true) (calls : wrong_call k f ≡ None) where
  pub not_end : (q j : ℕ) → IsOutside f q → has_point (ends f) (point q j) ≡ false
  not_end q j out = has_where (is_call_of Intrinsic.CoroEnd) f (point q j) ∙ on (instr_at f (point q j)) refl
    where
      end_there : (o : Option Instr) → instr_at f (point (end_block f) 0) ≡ o → passes (is_call_of Intrinsic.CoroEnd) o ≡ true → (i : Instr) → instr_at f (point q j) ≡ Some i → is_call_of Intrinsic.CoroEnd i ≡ true → ⊥
      end_there None d h i e s = absurd (cc)
      end_there (Some x) d h i e s = out (ap (λ (p : Point). p.block) (one_end k f coroutine calls (point q j) (point (end_block f) 0) i x e d s h))

      on : (o : Option Instr) → instr_at f (point q j) ≡ o → passes (is_call_of Intrinsic.CoroEnd) o ≡ false
      on None e = refl
      on (Some i) e = which (is_call_of Intrinsic.CoroEnd i) refl
        where
          which : (b : Bool) → is_call_of Intrinsic.CoroEnd i ≡ b → b ≡ false
          which true s = absurd (end_there (instr_at f (point (end_block f) 0)) refl (end_first k f coroutine calls) i e s)
          which false s = refl

module _ (f : Function) where
  -- to the end of a block without the end
  pub runs_through : (n q at : ℕ) (b : Block) → slice_get f.blocks q ≡ Some b → at + n ≡ length b.instrs → ((j : ℕ) → has_point (ends f) (point q j) ≡ false) → RunsOut f (point q at) → RunsOut f (point q (length b.instrs))
  runs_through zero q at b got e none x = let last : at ≡ length b.instrs = omega (arith, e) in subst (λ (n : ℕ). RunsOut f (point q n)) last x
  runs_through (suc n) q at b got e none x =
      let lt : at < length b.instrs = omega (arith, e) in
      let more : at + 1 + n ≡ length b.instrs = omega (arith, e) in
      runs_through n q (at + 1) b got more none (runs_on f (point q at) (point q (at + 1)) x (none at) (next_in f q at b got lt))

  -- and along an edge from there, where no instruction stands
  pub runs_out : (q : ℕ) (b : Block) (label : ℕ) → slice_get f.blocks q ≡ Some b → IsListed label (targets b.term) → RunsOut f (point q (length b.instrs)) → RunsOut f (point (position_of f label) 0)
  runs_out q b label got l x = runs_on f (point q (length b.instrs)) (point (position_of f label) 0) x past (next_out f q b label got l)
    where
      past : has_point (ends f) (point q (length b.instrs)) ≡ false
      past =
          has_where (is_call_of Intrinsic.CoroEnd) f (point q (length b.instrs))
          ∙ ap (passes (is_call_of Intrinsic.CoroEnd)) (ap (λ (o : Option Block). instr_in o (length b.instrs)) got ∙ slice_get_past b.instrs (length b.instrs) (omega arith))
