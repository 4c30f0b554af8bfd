-- An activation that has left stays between the save and the suspend until it comes to the suspend, the end, and behind it.
use Rattle.std.proofs.Common.{◌≡◌, ℕ, ◌+◌, ◌⊎◌, inl, inr, Bool, true, false, not, List, [], ◌∷◌, length, map}
use Rattle.std.proofs.Common.{Option, Some, None, refl, sym, ap, ◌∙◌, subst, ⊎_elim, if◌then◌else◌, ◌&&◌, ◌==◌}
use Rattle.std.proofs.lemmas.Bool.{false≢true}
use Rattle.std.specs.List.{cons_option}
use Rattle.std.specs.Prelude.{filter_map, option_map, slice_get}
use Rattle.pass_kept_proof.specs.ir_model.Names.{position_of}
use Rattle.pass_kept_proof.specs.ir_model.declared.instr.Instr.{Instr}
use Rattle.pass_kept_proof.specs.ir_model.declared.module.Block.{Block}
use Rattle.pass_kept_proof.specs.ir_model.declared.module.Function.{Function}
use Rattle.pass_kept_proof.specs.ir_model.declared.operand.Intrinsic.{Intrinsic}
use Rattle.pass_kept_proof.specs.ir_paths.Facts.{IsWindow}
use Rattle.pass_kept_proof.specs.ir_paths.Paths.{IsPath, Leads, entry_point, has_point, nexts, nexts_in, same_point, targets}
use Rattle.pass_kept_proof.specs.ir_paths.Windows.{IsInWindow, end_block, instr_in, is_call_of, leaves, points_where, suspend_of}
use Rattle.pass_kept_proof.specs.ir_paths.declared.point.Point.{Point}
use Rattle.pass_kept_proof.specs.ir_paths.declared.point.Window.{Window}
use Rattle.pass_kept_proof.proofs.Rules.{leads_between}
use Rattle.pass_kept_proof.proofs.Same.{either, neither, same_point_same}
use Rattle.pass_kept_proof.specs.SuspendRules.{IsCallAt}
use Rattle.pass_kept_proof.specs.run_step.Step.{AtInstr, fetch, fetch_in, fetch_or}
use Rattle.pass_renewed_proof.proofs.Ahead.{get_within, leads_more, next_edge, not_in_either}
use Rattle.pass_renewed_proof.specs.Ahead.{IsBehindSuspendCall}
use Rattle.pass_renewed_proof.specs.Left.{AtEnd, AtSuspend, AtSwitch, Behind, Between, IsLeftBy, behind}
use Rattle.frame_classes.specs.rule_slots.Closed.{IsClosed, IsInOneOf}
use Rattle.frame_classes.proofs.frame_slots.Points.{where_complete}
use Rattle.pass_kept_proof.specs.rule_windows.Points.{ends}
use Rattle.pass_kept_proof.specs.rule_windows.Sets.{IsAfterEnd}

-- ---- edges

pub nexts_instr : (f : Function) (p : Point) (i : Instr) → fetch f p.block p.at ≡ AtInstr i → nexts f p ≡ record { block = p.block; at = p.at + 1 } ∷ []
nexts_instr f p i e = on (slice_get f.blocks p.block) e
  where
    at_block : (b : Block) → (o : Option Instr) → slice_get b.instrs p.at ≡ o → (t : Bool) → fetch_or o t b.term ≡ AtInstr i → nexts_in f p (Some b) ≡ record { block = p.block; at = p.at + 1 } ∷ []
    at_block b None eo true h = absurd (cc)
    at_block b None eo false h = absurd (cc)
    at_block b (Some j) eo t h = ap (λ s. if s then record { block = p.block; at = p.at + 1 } ∷ [] else if p.at == length b.instrs then map (entry_point f) (targets b.term) else []) (get_within b.instrs p.at j eo)

    on : (o : Option Block) → fetch_in o p.at ≡ AtInstr i → nexts_in f p o ≡ record { block = p.block; at = p.at + 1 } ∷ []
    on None h = absurd (cc)
    on (Some b) h = at_block b (slice_get b.instrs p.at) refl (p.at == length b.instrs) h

next_is : (f : Function) (p q : Point) (i : Instr) → fetch f p.block p.at ≡ AtInstr i → has_point (nexts f p) q ≡ true → q ≡ record { block = p.block; at = p.at + 1 }
next_is f p q i e h = on (either (same_point q (record { block = p.block; at = p.at + 1 })) false (ap (λ ps. has_point ps q) (sym (nexts_instr f p i e)) ∙ h))
  where
    on : (same_point q (record { block = p.block; at = p.at + 1 }) ≡ true) ⊎ (false ≡ true) → q ≡ record { block = p.block; at = p.at + 1 }
    on (inl k) = same_point_same q _ k
    on (inr k) = absurd (false≢true k)

-- ---- windows

module _ (f : Function) (k s : Point) (c : IsCallAt Intrinsic.CoroSave f k) (es : suspend_of f k ≡ Some s) where
  abbrev both : List Point
  both = k ∷ s ∷ []

  inside : (q : Point) → has_point both q ≡ false → Leads f both k q → Leads f both q s → IsInWindow f k s q
  inside q out from to =
      let n = neither (same_point q k) _ out in
      record { is_not_save = n.0; is_not_suspend = (neither (same_point q s) _ n.1).0; from_save = from; to_suspend = to }

  -- from a point on a path leads to the suspend: the next point is on it
  step_on : (p : Point) (i : Instr) → fetch f p.block p.at ≡ AtInstr i → ((q : Point) → has_point (nexts f p) q ≡ true
      → Leads f both k q) → (between : List Point) → IsPath f both p between s → IsLeftBy f s (behind p)
  step_on p i e from [] path = AtSuspend (sym (next_is f p s i e path))
  step_on p i e from (v ∷ between) path =
      let is : v ≡ record { block = p.block; at = p.at + 1 } = next_is f p v i e path.0 in
      subst (IsLeftBy f s) is
      (Between k c es (inside v path.1 (from v path.0) (record { between = between; is_path = path.2 })))

  pub save_next : Leads f [] k s → IsLeftBy f s (behind k)
  save_next l = let m = leads_between f k s l in step_on k c.instr c.stands (λ q h. record { between = []; is_path = h }) m.between m.is_path

  out_of_both : (p : Point) → IsInWindow f k s p → has_point both p ≡ false
  out_of_both p w = not_in_either (same_point p k) (same_point p s) w.is_not_save w.is_not_suspend

  pub window_next : (p : Point) (i : Instr) → fetch f p.block p.at ≡ AtInstr i → IsInWindow f k s p
      → IsLeftBy f s (behind p)
  window_next p i e w = step_on p i e (λ q h. leads_more f both k p q w.from_save (out_of_both p w) h) w.to_suspend.between w.to_suspend.is_path

  -- a branch that doesn't leave the window stays in it, or comes to the suspend
  pub window_stays : (w : Window) → w.save ≡ k → w.suspend ≡ s → IsWindow f w → (p q : Point) → IsInWindow f k s p
      → leaves p q w ≡ false → IsInWindow f k s q ⊎ (q ≡ s)
  window_stays w ek et facts p q is stays = on (has_point w.inside q) refl (same_point q w.suspend) refl
    where
      in_it : IsInWindow f w.save w.suspend p
      in_it = subst (λ z. IsInWindow f z w.suspend p) (sym ek) (subst (λ z. IsInWindow f k z p) (sym et) is)

      on : (a : Bool) → has_point w.inside q ≡ a → (b : Bool) → same_point q w.suspend ≡ b
          → IsInWindow f k s q ⊎ (q ≡ s)
      on true ea b eb
          = inl (subst (λ z. IsInWindow f k z q) et (subst (λ z. IsInWindow f z w.suspend q) ek
          ((facts.inside q).0 ea)))
      on false ea true eb = inr (same_point_same q w.suspend eb ∙ et)
      on false ea false eb =
          let h : leaves p q w ≡ true = (λ i. ((facts.inside p).1 in_it i && not (ea i)) && not (eb i)) in
          absurd (false≢true (sym stays ∙ h))

  pub window_branch : (w : Window) → w.save ≡ k → w.suspend ≡ s → IsWindow f w → (p q : Point) → IsInWindow f k s p
      → leaves p q w ≡ false → IsLeftBy f s q
  window_branch w ek et facts p q is stays = ⊎_elim (λ h. Between k c es h) (λ e. AtSuspend e) (window_stays w ek et
      facts p q is stays)

-- ---- the suspend, its switch, the end

pub switch_next : (f : Function) (s : Point) (label : ℕ) → position_of f label ≡ end_block f
    → IsLeftBy f s (entry_point f label)
switch_next f s label e = AtEnd e refl

pub after_edge : (f : Function) (p q : Point) → IsAfterEnd f p → has_point (nexts f p) q ≡ true → IsAfterEnd f q
after_edge f p q a h = record { start = a.start; is_start = a.is_start; path = leads_more f [] a.start p q a.path refl h }

pub after_along : (f : Function) (p : Point) (between : List Point) (q : Point) → IsPath f [] p between q
    → IsAfterEnd f p → IsAfterEnd f q
after_along f p [] q path a = after_edge f p q a path
after_along f p (v ∷ between) q path a = after_along f v between q path.2 (after_edge f p v a path.0)

pub end_follows : (f : Function) (p : Point) (c : IsCallAt Intrinsic.CoroEnd f p) → has_point (ends f) p ≡ true → IsAfterEnd f (record { block = p.block; at = p.at + 1 })
end_follows f p c h = record { start = p; is_start = h; path = record { between = []; is_path = next_edge f p.block p.at c.instr c.stands } }

-- ---- uses where an activation has left

pub to_pairs : (f : Function) (p k s : Point) (saves : List Point) → suspend_of f k ≡ Some s → IsInWindow f k s p → has_point saves k ≡ true → IsInOneOf f (filter_map (λ save. option_map (λ suspend. (save, suspend)) (suspend_of f save)) saves) p
to_pairs f p k s [] es w h = absurd (false≢true h)
to_pairs f p k s (x ∷ saves) es w h = on (λ e. to_pairs f p k s saves es w e) (either (same_point k x) (has_point saves k) h)
  where
    One : Option Point → Type 0
    One o = IsInOneOf f (cons_option (option_map (λ suspend. (x, suspend)) o) (filter_map (λ save. option_map (λ suspend. (save, suspend)) (suspend_of f save)) saves)) p

    later : IsInOneOf f (filter_map (λ save. option_map (λ suspend. (save, suspend)) (suspend_of f save)) saves) p → (o : Option Point) → One o
    later r None = r
    later r (Some z) = inr r

    on : (has_point saves k ≡ true → IsInOneOf f (filter_map (λ save. option_map (λ suspend. (save, suspend)) (suspend_of f save)) saves) p) → (same_point k x ≡ true) ⊎ (has_point saves k ≡ true) → One (suspend_of f x)
    on ih (inl e) =
        let is : k ≡ x = same_point_same k x e in
        subst One (sym (ap (suspend_of f) (sym is) ∙ es)) (inl (subst (λ z. IsInWindow f z s p) is w))
    on ih (inr e) = later (ih e) (suspend_of f x)

pub instr_there : (f : Function) (p : Point) (i : Instr) → fetch f p.block p.at ≡ AtInstr i
    → instr_in (slice_get f.blocks p.block) p.at ≡ Some i
instr_there f p i e = on (slice_get f.blocks p.block) e
  where
    at_block : (b : Block) (o : Option Instr) (t : Bool) → fetch_or o t b.term ≡ AtInstr i → o ≡ Some i
    at_block b (Some j) t h = let e : j ≡ i = cc in ap Some e
    at_block b None true h = absurd (cc)
    at_block b None false h = absurd (cc)

    on : (o : Option Block) → fetch_in o p.at ≡ AtInstr i → instr_in o p.at ≡ Some i
    on None h = absurd (cc)
    on (Some b) h = at_block b (slice_get b.instrs p.at) (p.at == length b.instrs) h

-- a call that stands at a point is among the calls
pub call_listed : (f : Function) (intrinsic : Intrinsic) (p : Point) → IsCallAt intrinsic f p → has_point (points_where (is_call_of intrinsic) f) p ≡ true
call_listed f intrinsic p c = where_complete (is_call_of intrinsic) f p c.instr (instr_there f p c.instr c.stands) c.is

pub left_closed : (f : Function) (s p : Point) → IsCallAt Intrinsic.CoroSuspend f s
    → (IsCallAt Intrinsic.CoroSuspend f p → ⊥) → (IsBehindSuspendCall f p.block p.at → ⊥)
    → (p.block ≡ end_block f → p.at ≡ 0 → ⊥) → IsLeftBy f s p → IsClosed f p
left_closed f s p call no_suspend no_switch no_end (Between k c es w)
    = inr (to_pairs f p k s (points_where (is_call_of Intrinsic.CoroSave) f) es w
    (call_listed f Intrinsic.CoroSave k c))
left_closed f s p call no_suspend no_switch no_end (AtSuspend e)
    = absurd (no_suspend (subst (IsCallAt Intrinsic.CoroSuspend f) (sym e) call))
left_closed f s p call no_suspend no_switch no_end (AtSwitch e)
    = absurd (no_switch (subst (λ q. IsBehindSuspendCall f q.block q.at) (sym e) (record {
      before = s.at;
      next = refl;
      is_suspend = call;
    })))
left_closed f s p call no_suspend no_switch no_end (AtEnd e z) = absurd (no_end e z)
left_closed f s p call no_suspend no_switch no_end (Behind a) = inl a

pub end_next : (f : Function) (p : Point) → IsCallAt Intrinsic.CoroEnd f p → IsAfterEnd f (record { block = p.block; at = p.at + 1 })
end_next f p c = end_follows f p c (call_listed f Intrinsic.CoroEnd p c)
