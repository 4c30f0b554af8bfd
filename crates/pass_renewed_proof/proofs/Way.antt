-- What the path behind an activation says of its slots goes on along edges, and forbids uses and starts.
use Rattle.std.proofs.Common.{◌≡◌, ℕ, ◌+◌, ◌⊎◌, inl, inr, true, false, List, [], ◌∷◌, ◌++◌, refl, sym, ap, ◌∙◌, subst}
use Rattle.std.proofs.Common.{arith}
use Rattle.std.specs.Prelude.{IsTrue, ◌==◌}
use Rattle.std.proofs.lemmas.Bool.{false≢true}
use Rattle.pass_kept_proof.specs.ir_model.Names.{intrinsic_number}
use Rattle.pass_kept_proof.specs.ir_model.declared.instr.Instr.{Instr}
use Rattle.pass_kept_proof.specs.ir_model.declared.instr.Terminator.{Terminator}
use Rattle.pass_kept_proof.specs.ir_model.declared.operand.Callee.{Callee}
use Rattle.pass_kept_proof.specs.ir_model.declared.module.Function.{Function}
use Rattle.pass_kept_proof.specs.ir_model.declared.operand.Intrinsic.{Intrinsic}
use Rattle.pass_kept_proof.specs.ir_paths.Paths.{IsPath, entry_point, has_point, nexts, same_point}
use Rattle.pass_kept_proof.specs.ir_paths.Slots.{end_points, is_escaped}
use Rattle.pass_kept_proof.specs.ir_paths.Windows.{destroy_label, end_block, is_call_of, resume_label}
use Rattle.pass_kept_proof.specs.ir_paths.declared.point.Point.{Point}
use Rattle.frame_classes.specs.Alive.{MayBeAlive, Started, Unmarked}
use Rattle.frame_classes.specs.Classes.{Alive, Away, MeetsLater, NeedsFrame, parting, suspends}
use Rattle.frame_classes.proofs.frame_slots.Points.{where_sound}
use Rattle.frame_classes.specs.frame_slots.Spots.{At, Comes, IsBehind, IsStart, IsUse, Later, Spot, point_at}
use Rattle.frame_classes.specs.frame_slots.Uses.{ends_of}
use Rattle.pass_kept_proof.proofs.Same.{either, same_point_same}
use Rattle.pass_kept_proof.specs.Needed.{BranchesTo}
use Rattle.pass_kept_proof.specs.SuspendRules.{IsCallAt, IsSwitched}
use Rattle.pass_kept_proof.specs.run_step.Step.{AtInstr, AtTerm, fetch}
use Rattle.pass_kept_proof.specs.rule_windows.Windows.{own_edges}
use Rattle.pass_renewed_proof.proofs.Ahead.{branch_edge, found_append, not_found_first, leads_more, next_edge}
use Rattle.pass_renewed_proof.proofs.Ahead.{not_in_end, not_started_behind, not_used_behind, used_on}
use Rattle.pass_renewed_proof.proofs.History.{fetch_is, no_start}
use Rattle.pass_renewed_proof.specs.Ahead.{HasAwayUse, IsNoStart, IsUsedBefore, WasUsed}
use Rattle.pass_renewed_proof.specs.Left.{AtEnd, AtSuspend, AtSwitch, Behind, Between, IsLeftBy, behind}
use Rattle.pass_renewed_proof.specs.Way.{CameBehind, IsBarred, IsResumedAt, WasAlive}

-- ---- paths that go on

comes_more : (f : Function) (avoided : List Point) (r p q : Point) → Comes f avoided r p
    → has_point avoided p ≡ false → has_point (nexts f p) q ≡ true → Comes f avoided r q
comes_more f avoided r p q (inl e) out edge = inr (
  subst (λ z. has_point avoided z ≡ false) (sym e) out,
  record { between = []; is_path = subst (λ z. has_point (nexts f z) q ≡ true) (sym e) edge },
)
comes_more f avoided r p q (inr h) out edge = inr (h.0, leads_more f avoided r p q h.1 out edge)

came_more : (f : Function) (avoided : List Point) (s p q : Point) → CameBehind f avoided s p
    → has_point avoided p ≡ false → (p.block ≡ end_block f → ⊥) → has_point (nexts f p) q ≡ true
    → CameBehind f avoided s q
came_more f avoided s p q c out ne edge = record {
  is_suspend = c.is_suspend;
  edge = c.edge;
  own = c.own;
  comes = comes_more f (avoided ++ end_points f) c.edge p q c.comes (found_append avoided (end_points f) p out
      (not_in_end f p ne)) edge;
}

pub resumed_more : (f : Function) (p q : Point) → IsResumedAt f p → (p.block ≡ end_block f → ⊥)
    → has_point (nexts f p) q ≡ true → IsResumedAt f q
resumed_more f p q r ne edge = record { suspend = r.suspend; came = came_more f [] r.suspend p q r.came refl ne edge }

pub barred_more : (f : Function) (slot : ℕ) (p q : Point) → IsBarred f slot p → IsNoStart f slot p
    → (p.block ≡ end_block f → ⊥) → has_point (nexts f p) q ≡ true → IsBarred f slot q
barred_more f slot p q b out ne edge = record {
  suspend = b.suspend;
  used = b.used;
  came = came_more f (parting (is_escaped f slot) f slot) b.suspend p q b.came out ne edge;
}

-- ---- where a resume goes on

came_first : (f : Function) (avoided : List Point) (s r : Point) → has_point (suspends f) s ≡ true
    → has_point (own_edges f s) r ≡ true → CameBehind f avoided s r
came_first f avoided s r is own = record { is_suspend = is; edge = r; own = own; comes = inl refl }

pub resumed_first : (f : Function) (s r : Point) → IsTrue (has_point (suspends f) s)
    → IsTrue (has_point (own_edges f s) r) → IsResumedAt f r
resumed_first f s r is own = record { suspend = s; came = came_first f [] s r is own }

pub barred_first : (f : Function) (slot : ℕ) (s r : Point) → IsTrue (has_point (suspends f) s)
    → IsTrue (has_point (own_edges f s) r) → WasUsed f slot s → IsBarred f slot r
barred_first f slot s r is own used = record { suspend = s; used = used; came = came_first f _ s r is own }

-- ---- what it forbids

came_behind : (f : Function) (avoided : List Point) (s p : Point) (spot : Spot) → CameBehind f avoided s p
    → point_at f spot ≡ p → (p.block ≡ end_block f → ⊥) → IsBehind f s avoided spot
came_behind f avoided s p spot c is ne = Later spot c.edge c.own (subst (Comes f (avoided ++ end_points f) c.edge)
    (sym is) c.comes) (ap (has_point (end_points f)) is ∙ not_in_end f p ne)

pub barred_unused : (f : Function) (slot : ℕ) → (¬ NeedsFrame f slot) → (p : Point) (spot : Spot)
    → IsBarred f slot p → point_at f spot ≡ p → (p.block ≡ end_block f → ⊥) → IsUse f slot spot → ⊥
barred_unused f slot local p spot b is ne u = not_used_behind f slot local b.suspend b.came.is_suspend b.used (record
    { late = spot; is_use = u; is_behind = came_behind f _ b.suspend p spot b.came is ne })

pub barred_unstarted : (f : Function) (slot : ℕ) → (¬ NeedsFrame f slot) → IsTrue (is_escaped f slot) → (p : Point)
    → IsBarred f slot p → (p.block ≡ end_block f → ⊥) → IsStart f slot (At p) → ⊥
barred_unstarted f slot local escaped p b ne start = not_started_behind f slot local escaped b.suspend
    b.came.is_suspend b.used (At p) start (came_behind f _ b.suspend p (At p) b.came refl ne)

pub away_unused : (f : Function) (slot : ℕ) → (¬ NeedsFrame f slot) → HasAwayUse f slot → (p : Point) (spot : Spot)
    → IsResumedAt f p → point_at f spot ≡ p → (p.block ≡ end_block f → ⊥) → IsUse f slot spot → ⊥
away_unused f slot local a p spot r is ne u = local (Away (record {
  early = a.spot;
  is_use = a.is_use;
  is_away = a.is_away;
  suspend = r.suspend;
  is_suspend = r.came.is_suspend;
  late = spot;
  touches = inl u;
  is_behind = came_behind f [] r.suspend p spot r.came is ne;
}))

pub away_unstarted : (f : Function) (slot : ℕ) → (¬ NeedsFrame f slot) → IsTrue (is_escaped f slot)
    → HasAwayUse f slot → (p : Point) → IsResumedAt f p → (p.block ≡ end_block f → ⊥) → IsStart f slot (At p) → ⊥
away_unstarted f slot local escaped a p r ne start = local (Away (record {
  early = a.spot;
  is_use = a.is_use;
  is_away = a.is_away;
  suspend = r.suspend;
  is_suspend = r.came.is_suspend;
  late = At p;
  touches = inr (
    escaped,
    start,
  );
  is_behind = came_behind f [] r.suspend p (At p) r.came refl ne;
}))

-- ---- what was used before the suspend was used before the place

used_along : (f : Function) (slot : ℕ) (r : Point) (between : List Point) (p : Point)
    → has_point (parting (is_escaped f slot) f slot) r ≡ false
    → IsPath f (parting (is_escaped f slot) f slot ++ end_points f) r between p → IsUsedBefore f slot r
    → IsUsedBefore f slot p
used_along f slot r [] p out path used = used_on f slot r p path out used
used_along f slot r (v ∷ between) p out path used =
    used_along f slot v between p (not_found_first (parting (is_escaped f slot) f slot) (end_points f) v path.1)
    path.2 (used_on f slot r v path.0 out used)

used_comes : (f : Function) (slot : ℕ) (r p : Point)
    → Comes f (parting (is_escaped f slot) f slot ++ end_points f) r p → IsUsedBefore f slot r → IsUsedBefore f slot p
used_comes f slot r p (inl e) used = subst (IsUsedBefore f slot) e used
used_comes f slot r p (inr h) used = used_along f slot r h.1.between p (not_found_first (parting (is_escaped f slot) f
    slot) (end_points f) r h.0) h.1.is_path used

-- ---- what stands at a suspend

same_number : (a b n : ℕ) → (a == n) ≡ true → (b == n) ≡ true → a ≡ b
same_number a b n e h = grind arith

-- one instruction is a call of one intrinsic
one_call : (i j : Intrinsic) (x : Instr) → is_call_of i x ≡ true → is_call_of j x ≡ true
    → intrinsic_number i ≡ intrinsic_number j
one_call i j (Instr.Call result must_tail ty (Callee.Intrinsic k) args) e h = same_number (intrinsic_number i)
    (intrinsic_number j) (intrinsic_number k) e h
one_call i j _ e h = absurd (cc)

pub same_instr : (i j : Instr) → AtInstr i ≡ AtInstr j → i ≡ j
same_instr i j e = cc

-- a call of another intrinsic is no start
pub no_start_call : (f : Function) (slot : ℕ) (intrinsic : Intrinsic) (s : Point) → IsCallAt intrinsic f s
    → (intrinsic_number intrinsic ≡ intrinsic_number Intrinsic.LifetimeStart → ⊥) → IsNoStart f slot s
no_start_call f slot intrinsic s call other = no_start f slot s (λ x. other (one_call intrinsic
    Intrinsic.LifetimeStart call.instr call.is (subst (λ i. is_call_of Intrinsic.LifetimeStart i ≡ true) (same_instr
    x.instr call.instr (sym x.stands ∙ call.stands)) x.is)))

-- nor is a terminator
pub no_start_term : (f : Function) (slot : ℕ) (p : Point) (t : Terminator) → fetch f p.block p.at ≡ AtTerm t
    → IsNoStart f slot p
no_start_term f slot p t e = no_start f slot p (λ x. let h : AtInstr x.instr ≡ AtTerm t = sym x.stands
    ∙ e in absurd (cc))

pub suspend_called : (f : Function) (s : Point) → IsTrue (has_point (suspends f) s)
    → IsCallAt Intrinsic.CoroSuspend f s
suspend_called f s h = let r = where_sound (is_call_of Intrinsic.CoroSuspend) f s h in record {
  instr = r.instr;
  stands = fetch_is f s r.instr r.is;
  is = r.passes;
}

-- over a suspend and its switch, on neither of which a start stands
module _ (f : Function) (slot : ℕ) (s : Point) (call : IsCallAt Intrinsic.CoroSuspend f s) (switch : IsSwitched f s)
  where
    abbrev term_at : Point
    term_at = record { block = s.block; at = s.at + 1 }

    pub used_over : IsUsedBefore f slot s → (r : Point) → has_point (own_edges f s) r ≡ true → IsUsedBefore f slot r
    used_over used r own =
        let at_switch = used_on f slot s (term_at) (next_edge f s.block s.at call.instr call.stands) (no_start_call f
        slot Intrinsic.CoroSuspend s call (λ e. absurd (omega arith))) used in
        to_label at_switch (either (same_point r (entry_point f (resume_label f s))) _ own)
      where
        over : IsUsedBefore f slot (term_at) → (label : ℕ) → BranchesTo label (fetch f s.block (s.at + 1))
            → r ≡ entry_point f label → IsUsedBefore f slot r
        over u label branches is = subst (IsUsedBefore f slot) (sym is) (used_on f slot (term_at) (entry_point f label)
            (branch_edge f s.block (s.at + 1) label branches).edge (no_start_term f slot (term_at) switch.term
            switch.stands) u)

        to_label : IsUsedBefore f slot (term_at)
            → (same_point r (entry_point f (resume_label f s)) ≡ true) ⊎ (has_point (entry_point f (destroy_label f s) ∷
            []) r ≡ true) → IsUsedBefore f slot r
        to_label u (inl e) = over u (resume_label f s) (subst (BranchesTo (resume_label f s)) (sym switch.stands)
            switch.to_resume) (same_point_same r _ e)
        to_label u (inr e) = on (either (same_point r (entry_point f (destroy_label f s))) false e)
          where
            on : (same_point r (entry_point f (destroy_label f s)) ≡ true) ⊎ (false ≡ true) → IsUsedBefore f slot r
            on (inl k) = over u (destroy_label f s) (subst (BranchesTo (destroy_label f s)) (sym switch.stands)
                switch.to_destroy) (same_point_same r _ k)
            on (inr k) = absurd (false≢true k)

pub barred_used : (f : Function) (slot : ℕ) → ((s : Point) → IsCallAt Intrinsic.CoroSuspend f s → IsSwitched f s)
    → (p : Point) → IsBarred f slot p → WasUsed f slot p
barred_used f slot switched p b = on b.used
  where
    on : WasUsed f slot b.suspend → WasUsed f slot p
    on (inr away) = inr away
    on (inl used) =
        let call = suspend_called f b.suspend b.came.is_suspend in
        inl (used_comes f slot b.came.edge p b.came.comes (used_over f slot b.suspend call (switched b.suspend call)
        used b.came.edge b.came.own))

-- ---- slots that may be alive

pub alive_more : (f : Function) (slot : ℕ) (p q : Point) → has_point (nexts f p) q ≡ true
    → has_point (ends_of f slot) p ≡ false → MayBeAlive f slot p → MayBeAlive f slot q
alive_more f slot p q edge none (Unmarked begin unmarked is path) = Unmarked begin unmarked is (leads_more f [] begin
    p q path refl edge)
alive_more f slot p q edge none (Started start is path) = Started start is (leads_more f (ends_of f slot) start p q
    path none edge)

-- ---- activations that have left

pub drop_avoided : (f : Function) (avoided : List Point) (p : Point) (between : List Point) (q : Point)
    → IsPath f avoided p between q → IsPath f [] p between q
drop_avoided f avoided p [] q h = h
drop_avoided f avoided p (v ∷ between) q h = (h.0, refl, drop_avoided f avoided v between q h.2)

pub meets_in : (f : Function) (s p : Point) → IsCallAt Intrinsic.CoroSuspend f s
    → (IsCallAt Intrinsic.CoroSuspend f p → ⊥) → (p ≡ behind s → ⊥) → (p.block ≡ end_block f → p.at ≡ 0 → ⊥)
    → IsLeftBy f s p → MeetsLater f (At p) s
meets_in f s p call no_suspend no_switch no_end (Between k c es w) = inl (record {
  between =
      w.to_suspend.between;
  is_path = drop_avoided f (k ∷ s ∷ []) p w.to_suspend.between s w.to_suspend.is_path;
})
meets_in f s p call no_suspend no_switch no_end (AtSuspend e) = absurd (no_suspend (subst (IsCallAt
    Intrinsic.CoroSuspend f) (sym e) call))
meets_in f s p call no_suspend no_switch no_end (AtSwitch e) = absurd (no_switch e)
meets_in f s p call no_suspend no_switch no_end (AtEnd e z) = absurd (no_end e z)
meets_in f s p call no_suspend no_switch no_end (Behind a) = inr a

-- an escaped slot that may have been alive where an activation left isn't used where that may come to the suspend, nor
-- after the end
pub left_unused_at : (f : Function) (slot : ℕ) → (¬ NeedsFrame f slot) → IsTrue (is_escaped f slot) → (p : Point)
    → (w : WasAlive f slot p) → (spot : Spot) → MeetsLater f spot w.suspend → IsUse f slot spot → ⊥
left_unused_at f slot local escaped p w spot meets u = local (Alive (record {
  is_escaped = escaped;
  suspend = w.suspend;
  is_suspend = w.is_suspend;
  is_alive = w.is_alive;
  spot = spot;
  is_use = u;
  meets = meets;
}))

pub left_unused : (f : Function) (slot : ℕ) → (¬ NeedsFrame f slot) → IsTrue (is_escaped f slot) → (p : Point)
    → WasAlive f slot p → (IsCallAt Intrinsic.CoroSuspend f p → ⊥) → ((s : Point)
    → IsCallAt Intrinsic.CoroSuspend f s → p ≡ behind s → ⊥) → (p.block ≡ end_block f → p.at ≡ 0 → ⊥)
    → IsUse f slot (At p) → ⊥
left_unused f slot local escaped p w no_suspend no_switch no_end u =
    let call = suspend_called f w.suspend w.is_suspend in
    left_unused_at f slot local escaped p w (At p) (meets_in f w.suspend p call no_suspend (no_switch w.suspend
    call) no_end w.by) u
