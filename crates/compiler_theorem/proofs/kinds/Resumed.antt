-- A resumed activation doesn't stand in the entry block: no edge leads there (F1).
use Rattle.std.proofs.Common.{◌≡◌, ◌⊎◌, inl, inr, ⊎_elim, ℕ, ◌+◌, ◌||◌, ◌==◌, Bool, true, false, List, [], ◌∷◌, length, map, Option, Some, None, refl, sym, ap, ◌∙◌, subst}
use Rattle.std.specs.Prelude.{if◌then◌else◌, nat_lt, slice_get}
use Rattle.std.proofs.lemmas.Bool.{and_parts}
use Rattle.compiler.specs.frame_classes.Classes.{suspends}
use Rattle.compiler.proofs.ir_laws.facts.Truth.{equal_numbers, itself}
use Rattle.compiler.specs.ir_model.declared.instr.Instr.{Instr}
use Rattle.compiler.specs.ir_model.declared.module.Block.{Block}
use Rattle.compiler.specs.ir_model.declared.module.Function.{Function}
use Rattle.compiler.specs.ir_model.declared.operand.Intrinsic.{Intrinsic}
use Rattle.compiler.specs.ir_paths.Paths.{IsPath, entry_point, has_point, nexts, nexts_in, same_point, targets}
use Rattle.compiler.specs.ir_paths.Slots.{has_name}
use Rattle.compiler.specs.ir_paths.Windows.{destroy_label, instr_at, instr_in, is_call_of, resume_label}
use Rattle.compiler.specs.ir_paths.declared.point.Point.{Point}
use Rattle.compiler.specs.pass_kept_proof.Needed.{BranchesTo}
use Rattle.compiler.specs.pass_kept_proof.SuspendRules.{IsCallAt, IsSwitched}
use Rattle.pass_frames_meaning.specs.pass_renewed_proof.SlotRules.{KeepsSlots}
use Rattle.pass_frames_meaning.specs.pass_renewed_proof.Way.{IsResumedAt}
use Rattle.compiler.specs.ir_model.declared.module.Module.{Module}
use Rattle.compiler.proofs.rule_laws.frames.alike_slots.Tests.{passed}
use Rattle.compiler.specs.run_step.Step.{AtInstr, AtTerm, fetch, fetch_in, fetch_or}
use Rattle.compiler.specs.rule_windows.Windows.{own_edges}

or_case : (b c : Bool) → (b || c) ≡ true → (b ≡ true) ⊎ (c ≡ true)
or_case true c e = inl refl
or_case false c e = inr e

same_block : (p q : Point) → same_point p q ≡ true → p.block ≡ q.block
same_block p q e = equal_numbers p.block q.block (and_parts (p.block == q.block) (p.at == q.at) e).0

end_none : {A : Type 0} (xs : List A) → slice_get xs (length xs) ≡ None
end_none [] = refl
end_none (x ∷ xs) = end_none xs

fetched : (h : Function) (p : Point) (i : Instr) → instr_at h p ≡ Some i → fetch h p.block p.at ≡ AtInstr i
fetched h p i e = on (slice_get h.blocks p.block) e
  where
    on : (o : Option Block) → instr_in o p.at ≡ Some i → fetch_in o p.at ≡ AtInstr i
    on None d = absurd (cc)
    on (Some b) d = ap (λ (o : Option Instr). fetch_or o (p.at == length b.instrs) b.term) d

module _ (m : Module) (f : Function) (flags : ℕ → Bool) (roots : ℕ → Option ℕ) (keeps : KeepsSlots m f flags roots) where
  -- what a list of labels leads to
  label_of : (ls : List ℕ) (q : Point) → has_point (map (entry_point f) ls) q ≡ true
      → (l : ℕ) × (has_name ls l ≡ true) × (q.block ≡ (entry_point f l).block)
  label_of [] q e = absurd (cc)
  label_of (l ∷ ls) q e = ⊎_elim
      (λ here. (l, ap (λ (b : Bool). b || has_name ls l) (itself l), same_block q (entry_point f l) here))
      (λ more. let z = label_of ls q more in (z.0, or_more (l == z.0) (has_name ls z.0) z.1, z.2))
      (or_case (same_point q (entry_point f l)) (has_point (map (entry_point f) ls) q) e)
    where
      or_more : (b c : Bool) → c ≡ true → (b || c) ≡ true
      or_more true c h = refl
      or_more false c h = h

  -- an edge from a later block leads to a later one
  next_later : (p q : Point) → (p.block ≡ 0 → ⊥) → has_point (nexts f p) q ≡ true → q.block ≡ 0 → ⊥
  next_later p q later e = on (slice_get f.blocks p.block) refl e
    where
      on : (o : Option Block) → slice_get f.blocks p.block ≡ o → has_point (nexts_in f p o) q ≡ true → q.block ≡ 0 → ⊥
      on None d h = absurd (cc)
      on (Some b) d h = by (nat_lt p.at (length b.instrs)) (p.at == length b.instrs) refl h
        where
          ends : (p.at == length b.instrs) ≡ true → fetch f p.block p.at ≡ AtTerm b.term
          ends last =
              ap (λ (o : Option Block). fetch_in o p.at) d
              ∙ ap (λ (o : Option Instr). fetch_or o (p.at == length b.instrs) b.term)
              (ap (slice_get b.instrs) (equal_numbers p.at (length b.instrs) last) ∙ end_none b.instrs)
              ∙ ap (λ (t : Bool). fetch_or None t b.term) last

          by : (t u : Bool) → (p.at == length b.instrs) ≡ u
              → has_point (if t then record { block = p.block; at = p.at + 1 } ∷ []
              else if u then map (entry_point f) (targets b.term) else []) q ≡ true → q.block ≡ 0 → ⊥
          by true u same k zero_is = ⊎_elim
              (λ here. later (sym (same_block q (record { block = p.block; at = p.at + 1 }) here) ∙ zero_is))
              (λ none. absurd (cc))
              (or_case (same_point q (record { block = p.block; at = p.at + 1 })) false k)
          by false true same k zero_is =
              let z = label_of (targets b.term) q k in
              keeps.entry p.block p.at z.0 (subst (BranchesTo z.0) (sym (ends same)) z.1) (sym z.2 ∙ zero_is)
          by false false same k zero_is = absurd (cc)

  path_later : (avoided : List Point) (between : List Point) (p q : Point) → (p.block ≡ 0 → ⊥)
      → IsPath f avoided p between q → q.block ≡ 0 → ⊥
  path_later avoided [] p q later h = next_later p q later h
  path_later avoided (v ∷ between) p q later h =
      path_later avoided between v q (next_later p v later h.0) h.2

  own_later : (s edge : Point) → has_point (suspends f) s ≡ true → has_point (own_edges f s) edge ≡ true
      → edge.block ≡ 0 → ⊥
  own_later s edge is e zero_is = ⊎_elim
      (λ first. leads (resume_label f s) switched.to_resume (same_block edge (entry_point f (resume_label f s)) first))
      (λ rest. ⊎_elim
      (λ second. leads (destroy_label f s) switched.to_destroy
      (same_block edge (entry_point f (destroy_label f s)) second))
      (λ none. absurd (cc))
      (or_case (same_point edge (entry_point f (destroy_label f s))) false rest))
      (or_case (same_point edge (entry_point f (resume_label f s))) _ e)
    where
      call : IsCallAt Intrinsic.CoroSuspend f s
      call =
          let z = passed (is_call_of Intrinsic.CoroSuspend) f s is in
          record { instr = z.instr; stands = fetched f s z.instr z.is; is = z.passes_it }

      switched : IsSwitched f s
      switched = keeps.suspends.switched s call

      leads : (label : ℕ) → has_name (targets switched.term) label ≡ true
          → edge.block ≡ (entry_point f label).block → ⊥
      leads label among same =
          keeps.entry s.block (s.at + 1) label (subst (BranchesTo label) (sym switched.stands) among)
          (sym same ∙ zero_is)

  pub resumed_later : (p : Point) → IsResumedAt f p → p.block ≡ 0 → ⊥
  resumed_later p r zero_is =
      let edge_later = own_later r.suspend r.came.edge r.came.is_suspend r.came.own in
      ⊎_elim
      (λ same. edge_later (ap (λ (q : Point). q.block) same ∙ zero_is))
      (λ z. path_later _ z.1.between r.came.edge p edge_later z.1.is_path zero_is)
      r.came.comes
