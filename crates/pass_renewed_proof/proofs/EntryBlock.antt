-- No end comes before a point of the entry block, where the switch of a suspend leads to the end.
use Rattle.std.proofs.Common.{◌≡◌, ℕ, zero, suc, ◌+◌, ◌⊎◌, inl, inr, Bool, true, false, List, [], ◌∷◌, length, map}
use Rattle.std.proofs.Common.{Option, Some, None, refl, sym, ap, ◌∙◌, subst, arith, if◌then◌else◌, ◌==◌}
use Rattle.std.specs.List.{list_any}
use Rattle.std.specs.Prelude.{IsTrue, nat_lt, option_map, slice_get, unwrap_or}
use Rattle.pass_kept_proof.specs.ir_model.Names.{first_where, position_of}
use Rattle.pass_kept_proof.specs.ir_model.declared.instr.Case.{Case}
use Rattle.pass_kept_proof.specs.ir_model.declared.instr.Instr.{Instr}
use Rattle.pass_kept_proof.specs.ir_model.declared.instr.Terminator.{Terminator}
use Rattle.pass_kept_proof.specs.ir_model.declared.module.Block.{Block}
use Rattle.pass_kept_proof.specs.ir_model.declared.module.Function.{Function}
use Rattle.pass_kept_proof.specs.ir_model.declared.module.Module.{Module}
use Rattle.pass_kept_proof.specs.ir_model.declared.operand.Arg.{Arg}
use Rattle.pass_kept_proof.specs.ir_model.declared.operand.Intrinsic.{Intrinsic}
use Rattle.pass_kept_proof.specs.ir_paths.Paths.{IsPath, entry_point, has_point, nexts, nexts_in, same_point, targets}
use Rattle.pass_kept_proof.specs.ir_paths.Slots.{has_name}
use Rattle.pass_kept_proof.specs.ir_paths.Windows.{end_block, instr_in, is_call_of}
use Rattle.pass_kept_proof.specs.ir_paths.declared.point.Point.{Point}
use Rattle.frame_classes.proofs.frame_slots.Points.{where_sound}
use Rattle.pass_kept_proof.proofs.Same.{either, eq_itself, or_left, or_right, same_point_same}
use Rattle.pass_kept_proof.specs.Needed.{BranchesTo}
use Rattle.pass_kept_proof.specs.SuspendRules.{IsCallAt}
use Rattle.pass_renewed_proof.specs.SlotRules.{KeepsSlots}
use Rattle.pass_kept_proof.specs.rule_windows.Points.{ends}
use Rattle.pass_kept_proof.specs.rule_windows.Sets.{IsAfterEnd}
use Rattle.pass_kept_proof.specs.run_step.Step.{AtTerm, fetch, fetch_in, fetch_or}

-- ---- edges

outside : {A : Type 0} (xs : List A) (k : ℕ) → nat_lt k (length xs) ≡ false → slice_get xs k ≡ None
outside [] k h = refl
outside (x ∷ xs) zero h = absurd (grind arith)
outside (x ∷ xs) (suc k) h = outside xs k (grind arith)

-- the label by which a point is entered
record IsEntered (f : Function) (ls : List ℕ) (q : Point) : Type 0 where
  pub label : ℕ
  pub is_in : IsTrue (has_name ls label)
  pub is : q ≡ entry_point f label

entered : (f : Function) (q : Point) (ls : List ℕ) → has_point (map (entry_point f) ls) q ≡ true → IsEntered f ls q
entered f q [] h = absurd (cc)
entered f q (l ∷ ls) h = on (λ e. entered f q ls e) (either (same_point q (entry_point f l)) _ h)
  where
    on : (has_point (map (entry_point f) ls) q ≡ true → IsEntered f ls q) → (same_point q (entry_point f l) ≡ true) ⊎ (has_point (map (entry_point f) ls) q ≡ true)
        → IsEntered f (l ∷ ls) q
    on rest (inl e) = record {
      label = l;
      is_in = or_left (l == l) _ (eq_itself l);
      is = same_point_same q (entry_point f l) e;
    }
    on rest (inr e) = let r = rest e in record {
      label = r.label;
      is_in = or_right (l == r.label) _ r.is_in;
      is = r.is;
    }

module _ (f : Function) (entry : (block at label : ℕ) → BranchesTo label (fetch f block at) → position_of f label ≡ 0
    → ⊥) where
  -- an edge into the entry block comes from there
  back : (p q : Point) → has_point (nexts f p) q ≡ true → q.block ≡ 0 → p.block ≡ 0
  back p q h zero_is = on (slice_get f.blocks p.block) (λ label k. entry p.block p.at label k) h
    where
      at_block : (b : Block) → (c : Bool) → nat_lt p.at (length b.instrs) ≡ c → (d : Bool)
          → ((label : ℕ) → BranchesTo label (fetch_or (slice_get b.instrs p.at) d b.term) → position_of f label ≡ 0
          → ⊥) → has_point (if c then record { block = p.block; at = p.at + 1 } ∷ [] else if d then map (entry_point f)
          (targets b.term) else []) q ≡ true → p.block ≡ 0
      at_block b true ec d shut h = by (either (same_point q (record { block = p.block; at = p.at + 1 })) false h)
        where
          by : (same_point q (record { block = p.block; at = p.at + 1 }) ≡ true) ⊎ (false ≡ true) → p.block ≡ 0
          by (inl e) = ap (λ (z : Point). z.block) (sym (same_point_same q _ e)) ∙ zero_is
          by (inr e) = absurd (cc)
      at_block b false ec true shut h =
          let r = entered f q (targets b.term) h in
          absurd (shut r.label (subst (λ (o : Option Instr). BranchesTo r.label (fetch_or o true b.term)) (sym (outside
          b.instrs p.at ec)) r.is_in) (ap (λ (z : Point). z.block) (sym r.is) ∙ zero_is))
      at_block b false ec false shut h = absurd (cc)

      on : (o : Option Block) → ((label : ℕ) → BranchesTo label (fetch_in o p.at)
          → position_of f label ≡ 0 → ⊥) → has_point (nexts_in f p o) q ≡ true → p.block ≡ 0
      on None shut h = absurd (cc)
      on (Some b) shut h = at_block b (nat_lt p.at (length b.instrs)) refl (p.at == length b.instrs) shut h

  path_back : (p : Point) (between : List Point) (q : Point) → IsPath f [] p between q → q.block ≡ 0 → p.block ≡ 0
  path_back p [] q h e = back p q h e
  path_back p (v ∷ between) q h e = back p v h.0 (path_back v between q h.2 e)

-- ---- the end

any_at : (test : Instr → Bool) (is : List Instr) (k : ℕ) (i : Instr) → slice_get is k ≡ Some i → test i ≡ true
    → list_any test is ≡ true
any_at test [] k i e t = absurd (cc)
any_at test (j ∷ is) zero i e t = let same : j ≡ i = cc in or_left (test j) _ (ap test same ∙ t)
any_at test (j ∷ is) (suc k) i e t = or_right (test j) _ (any_at test is k i e t)

-- where an end stands in the entry block, that is its block
end_is_entry : (f : Function) (p : Point) → p.block ≡ 0 → has_point (ends f) p ≡ true → end_block f ≡ 0
end_is_entry f p first h =
    let z = where_sound (is_call_of Intrinsic.CoroEnd) f p h in
    on f.blocks z.instr (ap (λ n. instr_in (slice_get f.blocks n) p.at) (sym first) ∙ z.is) z.passes
  where
    on : (bs : List Block) (i : Instr) → instr_in (slice_get bs 0) p.at ≡ Some i
        → is_call_of Intrinsic.CoroEnd i ≡ true
        → unwrap_or (first_where (λ (b : Block). list_any (is_call_of Intrinsic.CoroEnd) b.instrs) bs) (length bs) ≡ 0
    on [] i e t = absurd (cc)
    on (b ∷ bs) i e t = ap (λ k. unwrap_or (if k then Some 0 else option_map suc (first_where (λ (b : Block). list_any
        (is_call_of Intrinsic.CoroEnd) b.instrs) bs)) (length (b ∷ bs))) (any_at (is_call_of Intrinsic.CoroEnd) b.instrs
        p.at i e t)

pub entry_before_end : (m : Module) (f : Function) (flags : ℕ → Bool) (roots : ℕ → Option ℕ)
    → KeepsSlots m f flags roots → (u : Point) → IsCallAt Intrinsic.CoroSuspend f u → (arg : Arg) (label : ℕ)
    (cases : List Case) → fetch f u.block (u.at + 1) ≡ AtTerm (Terminator.Switch arg label cases) → (p : Point)
    → p.block ≡ 0 → IsAfterEnd f p → ⊥
entry_before_end m f flags roots keeps u call arg label cases e p first after = keeps.entry u.block (u.at + 1) label
    (subst (BranchesTo label) (sym e) (or_left (label == label) _ (eq_itself label)))
    ((keeps.default u call arg label cases e).0 ∙ end_is_entry f after.start (path_back f (λ block at l. keeps.entry
    block at l) after.start after.path.between p after.path.is_path first) after.is_start)
