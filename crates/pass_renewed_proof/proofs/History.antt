-- What holds of a slot at a save or in its window holds at the suspend, since no marker of the slot stands between.
use Rattle.std.proofs.Common.{◌≡◌, ℕ, ◌⊎◌, inl, inr, Bool, true, false, List, [], ◌∷◌, length, Option, Some, None, refl, sym, ap, ◌∙◌, subst, arith, ◌&&◌, ◌==◌}
use Rattle.std.proofs.lemmas.Bool.{false≢true}
use Rattle.std.specs.Prelude.{slice_get}
use Rattle.pass_kept_proof.specs.ir_model.Names.{is_local, same_intrinsic}
use Rattle.pass_kept_proof.specs.ir_model.declared.instr.Instr.{Instr}
use Rattle.pass_kept_proof.specs.ir_model.declared.module.Block.{Block}
use Rattle.pass_kept_proof.specs.ir_model.declared.module.Function.{Function}
use Rattle.pass_kept_proof.specs.ir_model.declared.operand.Callee.{Callee}
use Rattle.pass_kept_proof.specs.ir_model.declared.operand.Intrinsic.{Intrinsic}
use Rattle.pass_kept_proof.specs.ir_model.declared.operand.Operand.{Operand}
use Rattle.pass_kept_proof.specs.ir_paths.Paths.{IsPath, Leads, has_point, nexts, same_point}
use Rattle.pass_kept_proof.specs.ir_paths.Slots.{is_escaped}
use Rattle.pass_kept_proof.specs.ir_paths.Windows.{IsInWindow, call_operand, instr_at, instr_in, is_call_of, points_where, suspend_of}
use Rattle.pass_kept_proof.specs.ir_paths.declared.point.Point.{Point}
use Rattle.pass_kept_proof.proofs.Rules.{leads_between}
use Rattle.pass_kept_proof.proofs.Same.{neither}
use Rattle.pass_kept_proof.specs.SuspendRules.{IsCallAt}
use Rattle.pass_kept_proof.specs.run_step.Step.{AtInstr, fetch, fetch_in, fetch_or}
use Rattle.pass_renewed_proof.proofs.Ahead.{leads_more, not_in_either, used_on}
use Rattle.pass_renewed_proof.specs.Ahead.{IsNoStart, IsUsedBefore}
use Rattle.pass_renewed_proof.specs.SlotRules.{IsMarkerAt}
use Rattle.frame_classes.specs.Alive.{MayBeAlive, Started, Unmarked}
use Rattle.frame_classes.specs.Classes.{parting}
use Rattle.frame_classes.proofs.frame_slots.Points.{where_sound}
use Rattle.frame_classes.specs.frame_slots.Uses.{ends_of, is_marker_of}

-- ---- markers

both_true : (a b : Bool) → (a && b) ≡ true → (a ≡ true) × (b ≡ true)
both_true true true e = (refl, refl)
both_true true false e = absurd (false≢true e)
both_true false b e = absurd (false≢true e)

pub local_is : (v : ℕ) (x : Operand) → is_local v x ≡ true → x ≡ Operand.Local v
local_is v (Operand.Local n) e = let is : n ≡ v = grind arith in ap Operand.Local is
local_is v (Operand.Global n) e = absurd (false≢true e)
local_is v (Operand.Number z) e = absurd (false≢true e)
local_is v Operand.True e = absurd (false≢true e)
local_is v Operand.False e = absurd (false≢true e)
local_is v Operand.Null e = absurd (false≢true e)
local_is v Operand.None e = absurd (false≢true e)
local_is v Operand.Poison e = absurd (false≢true e)

pub fetch_is : (f : Function) (p : Point) (i : Instr) → instr_at f p ≡ Some i → fetch f p.block p.at ≡ AtInstr i
fetch_is f p i e = on (slice_get f.blocks p.block) e
  where
    on : (o : Option Block) → instr_in o p.at ≡ Some i → fetch_in o p.at ≡ AtInstr i
    on None h = absurd (cc)
    on (Some b) h = ap (λ o. fetch_or o (p.at == length b.instrs) b.term) h

pub no_marker : (f : Function) (marker : Intrinsic) (slot : ℕ) (p : Point) → (IsMarkerAt f marker slot p → ⊥)
    → has_point (points_where (is_marker_of marker slot) f) p ≡ false
no_marker f marker slot p none = on (has_point (points_where (is_marker_of marker slot) f) p) refl
  where
    on : (t : Bool) → has_point (points_where (is_marker_of marker slot) f) p ≡ t → has_point (points_where (is_marker_of marker slot) f) p ≡ false
    on true e =
        let r = where_sound (is_marker_of marker slot) f p e in
        let h = both_true (is_call_of marker r.instr) (is_local slot (call_operand r.instr 1)) r.passes in
        absurd (none (record { instr = r.instr; stands = fetch_is f p r.instr r.is; is = h.0; takes = local_is slot (call_operand r.instr 1) h.1 }))
    on false e = e

pub no_start : (f : Function) (slot : ℕ) (p : Point) → (IsMarkerAt f Intrinsic.LifetimeStart slot p → ⊥)
    → IsNoStart f slot p
no_start f slot p none = on (is_escaped f slot)
  where
    on : (t : Bool) → has_point (parting t f slot) p ≡ false
    on true = refl
    on false = no_marker f Intrinsic.LifetimeStart slot p none

not_both : (i j : Intrinsic) → same_intrinsic Intrinsic.CoroSave i ≡ true → same_intrinsic Intrinsic.LifetimeStart i ≡ true → ⊥
not_both Intrinsic.CoroSave j e h = false≢true h
not_both _ j e h = absurd (cc)

not_ended : (i : Intrinsic) → same_intrinsic Intrinsic.CoroSave i ≡ true → same_intrinsic Intrinsic.LifetimeEnd i ≡ true → ⊥
not_ended Intrinsic.CoroSave e h = false≢true h
not_ended _ e h = absurd (cc)

pub save_starts : (i : Instr) → is_call_of Intrinsic.CoroSave i ≡ true → is_call_of Intrinsic.LifetimeStart i ≡ true → ⊥
save_starts (Instr.Call result must_tail ty (Callee.Intrinsic j) args) e h = not_both j j e h
save_starts _ e h = absurd (cc)

pub save_ends : (i : Instr) → is_call_of Intrinsic.CoroSave i ≡ true → is_call_of Intrinsic.LifetimeEnd i ≡ true → ⊥
save_ends (Instr.Call result must_tail ty (Callee.Intrinsic j) args) e h = not_ended j e h
save_ends _ e h = absurd (cc)

-- no marker of the slot stands there
abbrev IsQuiet : Function → ℕ → Point → Type 0
IsQuiet f slot p = (IsMarkerAt f Intrinsic.LifetimeStart slot p → ⊥) × (IsMarkerAt f Intrinsic.LifetimeEnd slot p → ⊥)

module _ (f : Function) (slot : ℕ) (k s : Point) (c : IsCallAt Intrinsic.CoroSave f k) (es : suspend_of f k ≡ Some s) (quiet : (q : Point) → IsInWindow f k s q → IsQuiet f slot q) where
  abbrev both : List Point
  both = k ∷ s ∷ []

  same_instr : (i : Instr) → fetch f k.block k.at ≡ AtInstr i → i ≡ c.instr
  same_instr i e = let h : AtInstr i ≡ AtInstr c.instr = sym e ∙ c.stands in cc

  save_quiet : IsQuiet f slot k
  save_quiet = (
    λ x. save_starts c.instr c.is (subst (λ i. is_call_of Intrinsic.LifetimeStart i ≡ true) (same_instr x.instr x.stands) x.is),
    λ x. save_ends c.instr c.is (subst (λ i. is_call_of Intrinsic.LifetimeEnd i ≡ true) (same_instr x.instr x.stands) x.is),
  )

  -- the save, or a point of its window
  abbrev pub IsOnWay : Point → Type 0
  IsOnWay p = (p ≡ k) ⊎ IsInWindow f k s p

  way_quiet : (p : Point) → IsOnWay p → IsQuiet f slot p
  way_quiet p (inl e) = subst (IsQuiet f slot) (sym e) save_quiet
  way_quiet p (inr w) = quiet p w

  way_on : (p q : Point) → IsOnWay p → has_point (nexts f p) q ≡ true → Leads f both k q
  way_on p q (inl e) h = record { between = []; is_path = subst (λ z. has_point (nexts f z) q ≡ true) e h }
  way_on p q (inr w) h = leads_more f both k p q w.from_save (not_in_either (same_point p k) (same_point p s) w.is_not_save w.is_not_suspend) h

  walk : (H : Point → Type 0) → ((p q : Point) → has_point (nexts f p) q ≡ true → IsQuiet f slot p → H p → H q) → (p : Point) (between : List Point) → IsPath f both p between s → IsOnWay p → H p → H s
  walk H more p [] path way h = more p s path (way_quiet p way) h
  walk H more p (v ∷ between) path way h =
      let n = neither (same_point v k) _ path.1 in
      walk H more v between path.2
      (inr (record { is_not_save = n.0; is_not_suspend = (neither (same_point v s) _ n.1).0; from_save = way_on p v way path.0; to_suspend = record { between = between; is_path = path.2 } }))
      (more p v path.0 (way_quiet p way) h)

  to_suspend : Leads f [] k s → (p : Point) → IsOnWay p → Leads f both p s
  to_suspend l p (inl e) = subst (λ z. Leads f both z s) (sym e) (leads_between f k s l)
  to_suspend l p (inr w) = w.to_suspend

  reaches : (H : Point → Type 0) → ((p q : Point) → has_point (nexts f p) q ≡ true → IsQuiet f slot p → H p → H q) → Leads f [] k s → (p : Point) → IsOnWay p → H p → H s
  reaches H more l p way h = let m = to_suspend l p way in walk H more p m.between m.is_path way h

  alive_on : (p q : Point) → has_point (nexts f p) q ≡ true → IsQuiet f slot p → MayBeAlive f slot p → MayBeAlive f slot q
  alive_on p q edge none (Unmarked begin unmarked is path) = Unmarked begin unmarked is (leads_more f [] begin p q path refl edge)
  alive_on p q edge none (Started start is path) = Started start is (leads_more f (ends_of f slot) start p q path (no_marker f Intrinsic.LifetimeEnd slot p none.1) edge)

  pub used_at_suspend : Leads f [] k s → (p : Point) → IsOnWay p → IsUsedBefore f slot p → IsUsedBefore f slot s
  used_at_suspend = reaches (IsUsedBefore f slot) (λ p q edge none h. used_on f slot p q edge (no_start f slot p none.0) h)

  pub alive_at_suspend : Leads f [] k s → (p : Point) → IsOnWay p → MayBeAlive f slot p → MayBeAlive f slot s
  alive_at_suspend = reaches (MayBeAlive f slot) alive_on
