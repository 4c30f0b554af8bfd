-- What is needed behind a suspend was needed at its save; what can be reached.
use Rattle.std.proofs.Common.{◌≡◌, ℕ, zero, suc, ◌+◌, ◌⊎◌, inl, inr, Bool, true, false, List, [], ◌∷◌, length, Option, Some, None, refl, sym, ap, ◌∙◌, subst, arith}
use Rattle.std.specs.Prelude.{IsTrue, IsFalse, map, slice_get, nat_lt, ◌==◌, ◌||◌, ◌&&◌, if◌then◌else◌}
use Rattle.pass_kept_proof.specs.SuspendRules.{KeepsSuspendRules, IsCallAt, IsGivenBy, IsPhiAt, IsSwitched}
use Rattle.pass_kept_proof.specs.Needed.{BranchesTo, IsNeeded, IsNeededBehind, IsNeededOn, IsReached, PassesBy, after, along, next, phi, enter, given_by, given_by_intrinsic, phis_at, phis_give}
use Rattle.pass_kept_proof.proofs.Rules.{leads_between, suspend_is_suspend}
use Rattle.pass_kept_proof.proofs.Same.{either, neither, or_left, or_right, same_point_same}
use Rattle.pass_kept_proof.proofs.Simulation.{SavesEnough}
use Rattle.ir_model.specs.Names.{position_of, same_intrinsic}
use Rattle.ir_model.specs.declared.instr.Instr.{Instr}
use Rattle.ir_model.specs.declared.module.Block.{Block}
use Rattle.ir_model.specs.declared.module.Function.{Function}
use Rattle.ir_model.specs.declared.operand.Callee.{Callee}
use Rattle.ir_model.specs.declared.operand.Intrinsic.{Intrinsic}
use Rattle.ir_paths.specs.Paths.{IsPath, Leads, entry_point, has_point, nexts, nexts_in, same_point, targets}
use Rattle.ir_paths.specs.Slots.{has_name}
use Rattle.ir_paths.specs.Windows.{IsInWindow, destroy_label, is_call_of, resume_label, suspend_of}
use Rattle.ir_paths.specs.declared.point.Point.{Point}
use Rattle.run_step.specs.Step.{AtInstr, AtTerm, Fetched, fetch, fetch_in, fetch_or}

-- ---- edges

within : {A : Type 0} (xs : List A) (k : ℕ) → nat_lt k (length xs) ≡ true → (x : A) × (slice_get xs k ≡ Some x)
within [] k h = absurd (grind arith)
within (x ∷ xs) zero h = (x, refl)
within (x ∷ xs) (suc k) h = within xs k (grind arith)

outside : {A : Type 0} (xs : List A) (k : ℕ) → nat_lt k (length xs) ≡ false → slice_get xs k ≡ None
outside [] k h = refl
outside (x ∷ xs) zero h = absurd (grind arith)
outside (x ∷ xs) (suc k) h = outside xs k (grind arith)

entry_in : (f : Function) (q : Point) (ls : List ℕ) → has_point (map (entry_point f) ls) q ≡ true → (label : ℕ) × IsTrue (has_name ls label) × (q ≡ entry_point f label)
entry_in f q [] h = absurd (cc)
entry_in f q (l ∷ ls) h = on (λ e. entry_in f q ls e) (either (same_point q (entry_point f l)) _ h)
  where
    on : (has_point (map (entry_point f) ls) q ≡ true → (label : ℕ) × IsTrue (has_name ls label) × (q ≡ entry_point f label)) → (same_point q (entry_point f l) ≡ true) ⊎ (has_point (map (entry_point f) ls) q ≡ true) → (label : ℕ) × IsTrue (has_name (l ∷ ls) label) × (q ≡ entry_point f label)
    on ih (inl e) = (l, or_left (l == l) _ (grind arith), same_point_same q (entry_point f l) e)
    on ih (inr e) = let r = ih e in (r.0, or_right (l == r.0) _ r.1, r.2)

abbrev IsEdge : Function → Point → Fetched → Point → Type 0
IsEdge f p x q = ((i : Instr) × (x ≡ AtInstr i) × (q ≡ record { block = p.block; at = p.at + 1 })) ⊎ ((label : ℕ) × BranchesTo label x × (q ≡ entry_point f label))

edge_in : (f : Function) (p q : Point) (b : Block) → (c : Bool) → nat_lt p.at (length b.instrs) ≡ c → (d : Bool) → (p.at == length b.instrs) ≡ d → has_point (if c then record { block = p.block; at = p.at + 1 } ∷ [] else if d then map (entry_point f) (targets b.term) else []) q ≡ true → IsEdge f p (fetch_or (slice_get b.instrs p.at) (p.at == length b.instrs) b.term) q
edge_in f p q b true ec d ed h =
    let w = within b.instrs p.at ec in
    let e : fetch_or (slice_get b.instrs p.at) (p.at == length b.instrs) b.term ≡ AtInstr w.0 = ap (λ (o : Option Instr). fetch_or o (p.at == length b.instrs) b.term) w.1 in
    inl (w.0, e, on (either (same_point q (record { block = p.block; at = p.at + 1 })) _ h))
  where
    on : (same_point q (record { block = p.block; at = p.at + 1 }) ≡ true) ⊎ (false ≡ true) → q ≡ record { block = p.block; at = p.at + 1 }
    on (inl k) = same_point_same q _ k
    on (inr k) = absurd (cc)
edge_in f p q b false ec true ed h =
    let r = entry_in f q (targets b.term) h in
    let e : fetch_or (slice_get b.instrs p.at) (p.at == length b.instrs) b.term ≡ AtTerm b.term = ap (λ (o : Option Instr). fetch_or o (p.at == length b.instrs) b.term) (outside b.instrs p.at ec) ∙ ap (λ (k : Bool). fetch_or None k b.term) ed in
    inr (r.0, subst (BranchesTo r.0) (sym e) r.1, r.2)
edge_in f p q b false ec false ed h = absurd (cc)

edge : (f : Function) (p q : Point) → has_point (nexts f p) q ≡ true → IsEdge f p (fetch f p.block p.at) q
edge f p q h = on (slice_get f.blocks p.block) h
  where
    on : (o : Option Block) → has_point (nexts_in f p o) q ≡ true → IsEdge f p (fetch_in o p.at) q
    on None h = absurd (cc)
    on (Some b) h = edge_in f p q b (nat_lt p.at (length b.instrs)) refl (p.at == length b.instrs) refl h

-- ---- what can be reached

edge_reached : (f : Function) (p q : Point) → IsEdge f p (fetch f p.block p.at) q → IsReached f p.block p.at → IsReached f q.block q.at
edge_reached f p q (inl e) r = subst (λ (z : Point). IsReached f z.block z.at) (sym e.2) (after e.0 e.1 r)
edge_reached f p q (inr e) r = subst (λ (z : Point). IsReached f z.block z.at) (sym e.2) (along e.0 e.1 r)

pub path_reached : (f : Function) (avoided : List Point) (p : Point) (between : List Point) (q : Point) → IsPath f avoided p between q → IsReached f p.block p.at → IsReached f q.block q.at
path_reached f avoided p [] q h r = edge_reached f p q (edge f p q h) r
path_reached f avoided p (v ∷ between) q h r = path_reached f avoided v between q h.2 (edge_reached f p v (edge f p v h.0) r)

pub resume_reached : (f : Function) (s : Point) → IsCallAt Intrinsic.CoroSuspend f s → IsSwitched f s → IsReached f s.block s.at → IsReached f (position_of f (resume_label f s)) 0
resume_reached f s c w r = along (resume_label f s) (subst (BranchesTo (resume_label f s)) (sym w.stands) w.to_resume) (after c.instr c.stands r)

pub destroy_reached : (f : Function) (s : Point) → IsCallAt Intrinsic.CoroSuspend f s → IsSwitched f s → IsReached f s.block s.at → IsReached f (position_of f (destroy_label f s)) 0
destroy_reached f s c w r = along (destroy_label f s) (subst (BranchesTo (destroy_label f s)) (sym w.stands) w.to_destroy) (after c.instr c.stands r)

-- ---- intrinsics

save_gives : (j : Intrinsic) (result : Option ℕ) → same_intrinsic Intrinsic.CoroSave j ≡ true → (given_by_intrinsic j result ≡ None) × (same_intrinsic Intrinsic.CoroEnd j ≡ false)
save_gives Intrinsic.CoroSave result e = (refl, refl)
save_gives _ result e = absurd (cc)

save_is : (i : Instr) → is_call_of Intrinsic.CoroSave i ≡ true → (given_by i ≡ None) × (is_call_of Intrinsic.CoroEnd i ≡ false)
save_is (Instr.Call result must_tail ty (Callee.Intrinsic j) args) e = save_gives j result e
save_is _ e = absurd (cc)

suspend_no_end : (j : Intrinsic) → same_intrinsic Intrinsic.CoroSuspend j ≡ true → same_intrinsic Intrinsic.CoroEnd j ≡ false
suspend_no_end Intrinsic.CoroSuspend e = refl
suspend_no_end _ e = absurd (cc)

suspend_is : (i : Instr) → is_call_of Intrinsic.CoroSuspend i ≡ true → is_call_of Intrinsic.CoroEnd i ≡ false
suspend_is (Instr.Call result must_tail ty (Callee.Intrinsic j) args) e = suspend_no_end j e
suspend_is _ e = absurd (cc)

-- ---- what is needed behind a suspend is needed at it

module _ (f : Function) (ok : KeepsSuspendRules f) where
  itself : (s : Point) → IsCallAt Intrinsic.CoroSuspend f s → (v : ℕ) → IsNeededBehind f s v → IsNeeded f v s.block s.at
  itself s c v n = next (subst (PassesBy v) (sym c.stands) (suspend_is c.instr c.is, λ e. ok.unread s c v e n)) (on n)
    where
      w : IsSwitched f s
      w = ok.switched s c

      by : (label : ℕ) → IsTrue (has_name (targets w.term) label) → IsNeededOn f v s.block label → IsNeeded f v s.block (s.at + 1)
      by label h (inl r) = phi label (subst (BranchesTo label) (sym w.stands) h) r
      by label h (inr r) = enter label (subst (BranchesTo label) (sym w.stands) h) r.0 r.1

      on : IsNeededBehind f s v → IsNeeded f v s.block (s.at + 1)
      on (inl r) = by (resume_label f s) w.to_resume r
      on (inr r) = by (destroy_label f s) w.to_destroy r

  -- a step back along an edge
  edge_back : (v : ℕ) (p q : Point) → has_point (nexts f p) q ≡ true → (IsGivenBy (fetch f p.block p.at) v → ⊥) → (IsCallAt Intrinsic.CoroEnd f p → ⊥) → (IsPhiAt f v q → ⊥) → IsNeeded f v q.block q.at → IsNeeded f v p.block p.at
  edge_back v p q h given ends phis n = on (edge f p q h)
    where
      not_end : (i : Instr) → fetch f p.block p.at ≡ AtInstr i → (b : Bool) → is_call_of Intrinsic.CoroEnd i ≡ b → IsFalse b
      not_end i e true k = absurd (ends (record { instr = i; stands = e; is = k }))
      not_end i e false k = refl

      no_phis : (label : ℕ) → q ≡ entry_point f label → (b : Bool) → phis_give v (phis_at f label) ≡ b → IsFalse b
      no_phis label e true k = absurd (phis (subst (IsPhiAt f v) (sym e) (refl, k)))
      no_phis label e false k = refl

      on : IsEdge f p (fetch f p.block p.at) q → IsNeeded f v p.block p.at
      on (inl e) = next (subst (PassesBy v) (sym e.1) (not_end e.0 e.1 _ refl, λ k. given (subst (λ (x : Fetched). IsGivenBy x v) (sym e.1) k))) (subst (λ (z : Point). IsNeeded f v z.block z.at) e.2 n)
      on (inr e) = enter e.0 e.1 (no_phis e.0 e.2 _ refl) (subst (λ (z : Point). IsNeeded f v z.block z.at) e.2 n)

  -- a path with one edge more
  path_more : (a : List Point) (p : Point) (between : List Point) (v w : Point) → IsPath f a p between v → has_point a v ≡ false → has_point (nexts f v) w ≡ true → IsPath f a p (Rattle.std.specs.Prelude.◌++◌ between (v ∷ [])) w
  path_more a p [] v w h o k = (h, o, k)
  path_more a p (u ∷ between) v w h o k = (h.0, h.1, path_more a u between v w h.2 o k)

  module _ (k s : Point) (c : IsCallAt Intrinsic.CoroSave f k) (es : suspend_of f k ≡ Some s) (v : ℕ) (n : IsNeededBehind f s v) where
    abbrev both : List Point
    both = k ∷ s ∷ []

    -- the save itself, or a point that a path leads to from it
    abbrev IsOnWay : Point → Type 0
    IsOnWay p = (p ≡ k) ⊎ (Leads f both k p × (has_point both p ≡ false))

    in_window : (p : Point) → Leads f both k p → has_point both p ≡ false → Leads f both p s → IsInWindow f k s p
    in_window p from out to =
        let e = neither (same_point p k) _ out in
        record { is_not_save = e.0; is_not_suspend = (neither (same_point p s) _ e.1).0; from_save = from; to_suspend = to }

    not_given : (p : Point) → IsOnWay p → Leads f both p s → IsGivenBy (fetch f p.block p.at) v → ⊥
    not_given p (inl e) to g =
        let g' : IsGivenBy (AtInstr c.instr) v = subst (λ (x : Fetched). IsGivenBy x v) (ap (λ (z : Point). fetch f z.block z.at) e ∙ c.stands) g in
        let none : given_by c.instr ≡ None = (save_is c.instr c.is).0 in
        absurd (cc)
    not_given p (inr l) to g = ok.given k s p v c es (in_window p l.0 l.1 to) n (inl g)

    not_end : (p : Point) → IsOnWay p → Leads f both p s → IsCallAt Intrinsic.CoroEnd f p → ⊥
    not_end p (inl e) to x =
        let same : AtInstr x.instr ≡ AtInstr c.instr = sym x.stands ∙ ap (λ (z : Point). fetch f z.block z.at) e ∙ c.stands in
        let i : x.instr ≡ c.instr = cc in
        let no_end : is_call_of Intrinsic.CoroEnd c.instr ≡ false = (save_is c.instr c.is).1 in
        let is_end : is_call_of Intrinsic.CoroEnd c.instr ≡ true = subst (λ (z : Instr). is_call_of Intrinsic.CoroEnd z ≡ true) i x.is in
        absurd (cc)
    not_end p (inr l) to x = ok.no_end k s p c es (in_window p l.0 l.1 to) x

    leads_on : (p q : Point) → IsOnWay p → has_point (nexts f p) q ≡ true → Leads f both k q
    leads_on p q (inl e) h = record { between = []; is_path = subst (λ (z : Point). has_point (nexts f z) q ≡ true) e h }
    leads_on p q (inr l) h = record { between = _; is_path = path_more both k l.0.between p q l.0.is_path l.1 h }

    walk : (p : Point) (between : List Point) → IsPath f both p between s → IsOnWay p → IsNeeded f v s.block s.at → IsNeeded f v p.block p.at
    walk p [] h way at_s = edge_back v p s h (not_given p way (record { between = []; is_path = h })) (not_end p way (record { between = []; is_path = h })) (ok.no_phi k s v c es n) at_s
    walk p (q ∷ between) h way at_s =
        let to : Leads f both p s = record { between = q ∷ between; is_path = h } in
        let on : Leads f both k q = leads_on p q way h.0 in
        edge_back v p q h.0 (not_given p way to) (not_end p way to)
        (λ x. ok.given k s q v c es (in_window q on h.1 (record { between = between; is_path = h.2 })) n (inr x))
        (walk q between h.2 (inr (on, h.1)) at_s)

  pub saves_enough : SavesEnough f
  saves_enough = record {
    saved = λ k s c es v n. let l = leads_between f k s (ok.leads k s c es) in walk k s c es v n k l.between l.is_path (inl refl) (itself s (suspend_is_suspend f k s es) v n);
    itself = itself;
  }
