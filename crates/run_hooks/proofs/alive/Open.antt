-- Points outside the end's block and what that reaches.
use Rattle.std.proofs.Common.{◌≡◌, ◌≤◌, ◌⊎◌, inl, inr, ℕ, zero, suc, ◌+◌, Bool, true, false, List, [], ◌∷◌, length, map}
use Rattle.std.proofs.Common.{Option, Some, None, refl, sym, ap, ◌∙◌, subst, arith}
use Rattle.std.specs.Prelude.{if◌then◌else◌, nat_lt, slice_get, ◌==◌}
use Rattle.pass_renewed_proof.specs.ir_model.declared.instr.Instr.{Instr}
use Rattle.pass_renewed_proof.specs.ir_model.declared.module.Block.{Block}
use Rattle.pass_renewed_proof.specs.ir_model.declared.module.Function.{Function}
use Rattle.pass_renewed_proof.specs.ir_model.declared.operand.Intrinsic.{Intrinsic}
use Rattle.pass_renewed_proof.specs.flow_reach.Reached.{IsPointOf}
use Rattle.pass_renewed_proof.proofs.frame_slots.Points.{where_sound}
use Rattle.pass_renewed_proof.specs.ir_paths.Paths.{IsPath, Leads, entry_point, has_point, nexts, nexts_in, same_point, targets}
use Rattle.pass_renewed_proof.specs.ir_paths.Windows.{end_block, is_call_of, points_where}
use Rattle.pass_renewed_proof.specs.ir_paths.declared.point.Point.{Point}
use Rattle.pass_renewed_proof.proofs.pass_kept_proof.Same.{either, same_point_same}
use Rattle.pass_renewed_proof.specs.pass_kept_proof.SuspendRules.{IsCallAt}
use Rattle.pass_renewed_proof.proofs.History.{fetch_is}
use Rattle.pass_renewed_proof.specs.rule_windows.Points.{ends}
use Rattle.pass_renewed_proof.specs.rule_windows.Sets.{IsAfterEnd}
use Rattle.run_hooks.specs.alive.Slots.{IsOpen}
use Rattle.pass_renewed_proof.specs.run_step.Step.{AtInstr, fetch, fetch_in, fetch_or}

abbrev pub after : Point → Point
after p = record { block = p.block; at = p.at + 1 }

pub not_listed : (f : Function) (x : Intrinsic) (p : Point) → (IsCallAt x f p → ⊥)
    → has_point (points_where (is_call_of x) f) p ≡ false
not_listed f x p never = on (has_point (points_where (is_call_of x) f) p) refl
  where
    on : (t : Bool) → has_point (points_where (is_call_of x) f) p ≡ t
        → has_point (points_where (is_call_of x) f) p ≡ false
    on true e =
        let r = where_sound (is_call_of x) f p e in
        absurd (never (record { instr = r.instr; stands = fetch_is f p r.instr r.is; is = r.passes }))
    on false e = e

-- ---- the way back from behind an instruction

no_front : (f : Function) (block at : ℕ) (labels : List ℕ)
    → has_point (map (entry_point f) labels) (record { block = block; at = at + 1 }) ≡ true → ⊥
no_front f block at [] h = absurd (cc)
no_front f block at (l ∷ labels) h = on (either (same_point (record { block = block; at = at + 1 }) (entry_point f l)) _
    h)
    (no_front f block at labels)
  where
    on : (same_point (record { block = block; at = at + 1 }) (entry_point f l) ≡ true)
        ⊎ (has_point (map (entry_point f) labels) (record { block = block; at = at + 1 }) ≡ true)
        → (has_point (map (entry_point f) labels) (record { block = block; at = at + 1 }) ≡ true → ⊥) → ⊥
    on (inl e) rest =
        let same : record { block = block; at = at + 1 } ≡ entry_point f l = same_point_same _ _ e in
        let no : at + 1 ≡ 0 = ap (λ (q : Point). q.at) same in
        absurd (omega (arith, no))
    on (inr e) rest = rest e

one_less : (a b : ℕ) → a + 1 ≡ b + 1 → b ≡ a
one_less a b e = omega (arith, e)

back_to : (f : Function) (r : Point) (block at : ℕ)
    → has_point (nexts f r) (record { block = block; at = at + 1 }) ≡ true → r ≡ record { block = block; at = at }
back_to f r block at e = on (slice_get f.blocks r.block) e
  where
    in_block : (b : Block) (t u : Bool)
        → has_point (if t then record { block = r.block; at = r.at + 1 } ∷ []
        else if u then map (entry_point f) (targets b.term) else []) (record { block = block; at = at + 1 }) ≡ true
        → r ≡ record { block = block; at = at }
    in_block b true u h = one (either (same_point (record { block = block; at = at + 1 })
        (record { block = r.block; at = r.at + 1 })) false h)
      where
        one : (same_point (record { block = block; at = at + 1 }) (record { block = r.block; at = r.at + 1 }) ≡ true)
            ⊎ (false ≡ true) → r ≡ record { block = block; at = at }
        one (inl k) =
            let same : record { block = block; at = at + 1 } ≡ record { block = r.block; at = r.at + 1 } =
            same_point_same _ _ k in
            let eb : r.block ≡ block = sym (ap (λ (q : Point). q.block) same) in
            let ea : r.at ≡ at = one_less at r.at (ap (λ (q : Point). q.at) same) in
            λ j. record { block = eb j; at = ea j }
        one (inr k) = absurd (cc)
    in_block b false true h = absurd (no_front f block at (targets b.term) h)
    in_block b false false h = absurd (cc)

    on : (o : Option Block) → has_point (nexts_in f r o) (record { block = block; at = at + 1 }) ≡ true
        → r ≡ record { block = block; at = at }
    on None h = absurd (cc)
    on (Some b) h = in_block b (nat_lt r.at (length b.instrs)) (r.at == length b.instrs) h

-- a path to behind an instruction begins there, or leads there
last : (f : Function) (p a : Point) (between : List Point) → IsPath f [] a between (after p) → (a ≡ p) ⊎ Leads f [] a p
last f p a [] path = inl (back_to f a p.block p.at path)
last f p a (v ∷ between) path = on (last f p v between path.2)
  where
    on : (v ≡ p) ⊎ Leads f [] v p → (a ≡ p) ⊎ Leads f [] a p
    on (inl e) = inr (record {
      between = [];
      is_path = subst (λ (z : Point). has_point (nexts f a) z ≡ true) e path.0;
    })
    on (inr l) = inr (record { between = v ∷ l.between; is_path = (path.0, refl, l.is_path) })

-- behind an instruction that isn't the end no more is behind the end than at it
pub not_after : (f : Function) (p : Point) → (IsCallAt Intrinsic.CoroEnd f p → ⊥) → (IsAfterEnd f p → ⊥)
    → IsAfterEnd f (after p) → ⊥
not_after f p no_end never a = on (last f p a.start a.path.between a.path.is_path)
  where
    on : (a.start ≡ p) ⊎ Leads f [] a.start p → ⊥
    on (inl e) =
        let listed : has_point (ends f) p ≡ true = subst (λ (z : Point). has_point (ends f) z ≡ true) e a.is_start in
        let no : true ≡ false = sym listed ∙ not_listed f Intrinsic.CoroEnd p no_end in absurd (cc)
    on (inr l) = never (record { start = a.start; is_start = a.is_start; path = l })

-- ---- an open point

within : {A : Type 0} (xs : List A) (k : ℕ) (x : A) → slice_get xs k ≡ Some x → k + 1 ≤ length xs
within [] k x e = absurd (cc)
within (y ∷ xs) zero x e = omega arith
within (y ∷ xs) (suc k) x e = let h = within xs k x e in omega (arith, h)

is_point : (f : Function) (p : Point) (i : Instr) → fetch f p.block p.at ≡ AtInstr i → IsPointOf f (after p)
is_point f p i e = on (slice_get f.blocks p.block) refl e
  where
    inside : (b : Block) → slice_get f.blocks p.block ≡ Some b → (o : Option Instr) → slice_get b.instrs p.at ≡ o
        → (t : Bool) → fetch_or o t b.term ≡ AtInstr i → IsPointOf f (after p)
    inside b eb (Some j) ej t h = record { block = b; is_block = eb; within = within b.instrs p.at j ej }
    inside b eb None ej true h = absurd (cc)
    inside b eb None ej false h = absurd (cc)

    on : (o : Option Block) → slice_get f.blocks p.block ≡ o → fetch_in o p.at ≡ AtInstr i → IsPointOf f (after p)
    on None eo h = absurd (cc)
    on (Some b) eo h = inside b eo (slice_get b.instrs p.at) refl (p.at == length b.instrs) h

-- the point behind an instruction that is neither the end nor behind it, nor in the end's block
pub open_behind : (f : Function) (p : Point) (i : Instr) → fetch f p.block p.at ≡ AtInstr i
    → (p.block ≡ end_block f → ⊥) → (IsCallAt Intrinsic.CoroEnd f p → ⊥) → (IsAfterEnd f p → ⊥) → IsOpen f (after p)
open_behind f p i stands outside no_end never = record {
  is_point = is_point f p i stands;
  is_outside = outside;
  is_before_end = not_after f p no_end never;
}
