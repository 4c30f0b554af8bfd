-- The points between a save and its suspend.
use Rattle.std.proofs.Common.{◌≡◌, ℕ, zero, suc, ◌+◌, ◌<◌, ◌≤◌, Bool, true, false, not, ◌&&◌, ◌||◌, cond, List, [], ◌∷◌, ◌++◌, length, filter, refl, sym, ap, ◌∙◌, subst, inl, inr, arith, add-one, drop, get_or, drop-cons, map}
use Rattle.std.proofs.lemmas.Bool.{false≢true, lt-ltb}
use Rattle.std.specs.Prelude.{Option, Some, None, IsTrue, IsFalse, nat_lt, slice_get, is_some, option_and_then, ◌⊎◌, ◌↔◌, ◌==◌, if◌then◌else◌}
use Rattle.std.specs.List.{list_any}
use Rattle.ir_base.specs.declared.outcome.Place.{Place}
use Rattle.ir_parts.specs.ir_model.declared.instr.Instr.{Instr}
use Rattle.ir_parts.specs.ir_model.declared.module.Block.{Block}
use Rattle.ir_parts.specs.ir_model.declared.module.Function.{Function}
use Rattle.ir_parts.specs.ir_model.declared.operand.Intrinsic.{Intrinsic}
use Rattle.flow_points.proofs.ir_paths.Search.{leads-more, same_point-itself, same_point-same}
use Rattle.flow_points.specs.ir_paths.Paths.{IsPath, Leads, entry_point, has_point, nexts, nexts_in, same_point, targets}
use Rattle.flow_points.specs.ir_paths.Windows.{IsInWindow, call_result, destroy_label, instr_at, instr_in, is_call_of, is_suspend_of, points_from, points_in, points_where, resume_label}
use Rattle.flow_points.specs.ir_paths.declared.point.Point.{Point}
use Rattle.flow_points.specs.Reached.{AllLeadTo, AreReached, IsReached, LeadsToAny}
use Rattle.flow_points.specs.Rows.{is_marked}
use Rattle.rule_windows.specs.First.{IsFirst}
use Rattle.rule_windows.specs.Points.{place_of}
use Rattle.rule_windows.specs.Sets.{AreIn}
use Rattle.rule_windows.specs.Windows.{AreOnTheWay, Back, BreaksSave, BreaksWindow, Between, Call, ComesBack, HasCall, HasLeavingEdge, HasWayBack, IsFirstWindow, IsOnly, IsWrong, Left, NoPath, NotOne, StandsAt, comes_back, ends_window_at, has_way_back, is_call_between, is_final_at, is_off, own_edges, suspends_of}

-- ---- tests

or_cases : (a b : Bool) → (a || b) ≡ true → (a ≡ true) ⊎ (b ≡ true)
or_cases true b e = inl refl
or_cases false b e = inr e

or_first : (a b : Bool) → a ≡ true → (a || b) ≡ true
or_first true b e = refl
or_first false b e = absurd (false≢true e)

or_second : (a b : Bool) → b ≡ true → (a || b) ≡ true
or_second true b e = refl
or_second false b e = e

or_none : (a b : Bool) → a ≡ false → b ≡ false → (a || b) ≡ false
or_none true b e h = e
or_none false b e h = h

and_first : (a b : Bool) → (a && b) ≡ true → a ≡ true
and_first true b e = refl
and_first false b e = absurd (false≢true e)

and_second : (a b : Bool) → (a && b) ≡ true → b ≡ true
and_second true b e = e
and_second false b e = absurd (false≢true e)

and_both : (a b : Bool) → a ≡ true → b ≡ true → (a && b) ≡ true
and_both true b e h = h
and_both false b e h = absurd (false≢true e)

not_true : (b : Bool) → not b ≡ true → b ≡ false
not_true true e = absurd (false≢true e)
not_true false e = refl

not_false : (b : Bool) → b ≡ false → not b ≡ true
not_false true e = absurd (false≢true (sym e))
not_false false e = refl

abbrev Decided : Bool → Type 0
Decided b = (b ≡ true) ⊎ (b ≡ false)

decide : (b : Bool) → Decided b
decide true = inl refl
decide false = inr refl

-- ---- lists of points

any_from : (test : Point → Bool) (xs : List Point) → list_any test xs ≡ true → (q : Point) × (has_point xs q ≡ true) × (test q ≡ true)
any_from test [] e = absurd (false≢true e)
any_from test (x ∷ xs) e = by (any_from test xs) (or_cases (test x) (list_any test xs) e)
  where
    by : (list_any test xs ≡ true → (q : Point) × (has_point xs q ≡ true) × (test q ≡ true)) → (test x ≡ true) ⊎ (list_any test xs ≡ true) → (q : Point) × (has_point (x ∷ xs) q ≡ true) × (test q ≡ true)
    by later (inl h) = (x, or_first (same_point x x) (has_point xs x) (same_point-itself x), h)
    by later (inr h) = let r = later h in (r.0, or_second (same_point r.0 x) (has_point xs r.0) r.1, r.2)

any_to : (test : Point → Bool) (xs : List Point) (q : Point) → has_point xs q ≡ true → test q ≡ true → list_any test xs ≡ true
any_to test [] q e h = e
any_to test (x ∷ xs) q e h =
    elim (or_cases (same_point q x) (has_point xs q) e) [
      | inl s ↦ or_first (test x) (list_any test xs) (sym (ap test (same_point-same q x s)) ∙ h)
      | inr s ↦ or_second (test x) (list_any test xs) (any_to test xs q s h)
    ]

kept_from : (test : Point → Bool) (xs : List Point) (q : Point) → has_point (filter test xs) q ≡ true → (has_point xs q ≡ true) × (test q ≡ true)
kept_from test [] q e = absurd (false≢true e)
kept_from test (x ∷ xs) q e = by (kept_from test xs q) (test x) refl e
  where
    by : (has_point (filter test xs) q ≡ true → (has_point xs q ≡ true) × (test q ≡ true)) → (b : Bool) → test x ≡ b → has_point (cond b (x ∷ filter test xs) (filter test xs)) q ≡ true → (has_point (x ∷ xs) q ≡ true) × (test q ≡ true)
    by later true t h =
        elim (or_cases (same_point q x) (has_point (filter test xs) q) h) [
          | inl s ↦ (or_first (same_point q x) (has_point xs q) s, ap test (same_point-same q x s) ∙ t)
          | inr s ↦ (or_second (same_point q x) (has_point xs q) (later s).0, (later s).1)
        ]
    by later false t h = (or_second (same_point q x) (has_point xs q) (later h).0, (later h).1)

kept_to : (test : Point → Bool) (xs : List Point) (q : Point) → has_point xs q ≡ true → test q ≡ true → has_point (filter test xs) q ≡ true
kept_to test [] q e h = e
kept_to test (x ∷ xs) q e h = by (λ s. kept_to test xs q s h) (test x) refl
  where
    by : (has_point xs q ≡ true → has_point (filter test xs) q ≡ true) → (b : Bool) → test x ≡ b → has_point (cond b (x ∷ filter test xs) (filter test xs)) q ≡ true
    by later true t =
        elim (or_cases (same_point q x) (has_point xs q) e) [
          | inl s ↦ or_first (same_point q x) (has_point (filter test xs) q) s
          | inr s ↦ or_second (same_point q x) (has_point (filter test xs) q) (later s)
        ]
    by later false t =
        elim (or_cases (same_point q x) (has_point xs q) e) [
          | inl s ↦ absurd (false≢true (sym t ∙ sym (ap test (same_point-same q x s)) ∙ h))
          | inr s ↦ later s
        ]

one_is : (q s : Point) → has_point (s ∷ []) q ≡ true → q ≡ s
one_is q s e =
    elim (or_cases (same_point q s) false e) [
      | inl h ↦ same_point-same q s h
      | inr h ↦ absurd (false≢true h)
    ]

one_has : (s : Point) → has_point (s ∷ []) s ≡ true
one_has s = or_first (same_point s s) false (same_point-itself s)

-- neither the save nor the suspend
neither : (k s p : Point) → same_point p k ≡ false → same_point p s ≡ false → has_point (k ∷ s ∷ []) p ≡ false
neither k s p ek es = or_none (same_point p k) (same_point p s || false) ek (or_none (same_point p s) false es refl)

no_save : (k s p : Point) → has_point (k ∷ s ∷ []) p ≡ false → same_point p k ≡ false
no_save k s p e = by (same_point p k) refl
  where
    by : (b : Bool) → same_point p k ≡ b → same_point p k ≡ false
    by true h = absurd (false≢true (sym e ∙ or_first (same_point p k) (same_point p s || false) h))
    by false h = h

no_suspend : (k s p : Point) → has_point (k ∷ s ∷ []) p ≡ false → same_point p s ≡ false
no_suspend k s p e = by (same_point p s) refl
  where
    by : (b : Bool) → same_point p s ≡ b → same_point p s ≡ false
    by true h = absurd (false≢true (sym e ∙ or_second (same_point p k) (same_point p s || false) (or_first (same_point p s) false h)))
    by false h = h

-- ---- the points on the way to the suspend

pub on_the_way : (f : Function) (k s : Point) (goals avoided back : List Point) → goals ≡ s ∷ [] → avoided ≡ k ∷ s ∷ [] → AllLeadTo f goals avoided back → AreOnTheWay f k s back
on_the_way f k s goals avoided back eg ea all = record { each = λ p. (sound p, complete p) }
  where
    sound : (p : Point) → IsTrue (has_point back p) → Leads f (k ∷ s ∷ []) p s
    sound p h =
        let to = (all.each p).0 h in
        let goal : to.goal ≡ s = one_is to.goal s (subst (λ (l : List Point). has_point l to.goal ≡ true) eg to.is_goal) in
        subst (λ (q : Point). Leads f (k ∷ s ∷ []) p q) goal (subst (λ (l : List Point). Leads f l p to.goal) ea to.path)

    complete : (p : Point) → Leads f (k ∷ s ∷ []) p s → IsTrue (has_point back p)
    complete p h =
        (all.each p).1 (record { goal = s; is_goal = subst (λ (l : List Point). has_point l s ≡ true) (sym eg) (one_has s); path = subst (λ (l : List Point). Leads f l p s) (sym ea) h })

-- ---- calls in the window

pub has_call_is : (f : Function) (k s : Point) (back calls avoided found : List Point) (b : Bool) → AreOnTheWay f k s back → calls ≡ filter (is_call_between f k s) back → avoided ≡ k ∷ s ∷ [] → AllLeadTo f calls avoided found → b ≡ has_point found k → IsTrue b ↔ HasCall f k s
has_call_is f k s back calls avoided found b way ec ea all eb = (sound, complete)
  where
    sound : IsTrue b → HasCall f k s
    sound h =
        let to = (all.each k).0 (sym eb ∙ h) in
        let kept = kept_from (is_call_between f k s) back to.goal (subst (λ (l : List Point). has_point l to.goal ≡ true) ec to.is_goal) in
        let others = and_second (not (same_point to.goal k)) (not (same_point to.goal s) && ends_window_at f to.goal) kept.1 in
        record {
          point = to.goal;
          is_inside = record {
            is_not_save = not_true (same_point to.goal k) (and_first (not (same_point to.goal k)) (not (same_point to.goal s) && ends_window_at f to.goal) kept.1);
            is_not_suspend = not_true (same_point to.goal s) (and_first (not (same_point to.goal s)) (ends_window_at f to.goal) others);
            from_save = subst (λ (l : List Point). Leads f l k to.goal) ea to.path;
            to_suspend = (way.each to.goal).0 kept.0;
          };
          ends = and_second (not (same_point to.goal s)) (ends_window_at f to.goal) others;
        }

    complete : HasCall f k s → IsTrue b
    complete h =
        let p = h.point in
        let is_call = and_both (not (same_point p k)) (not (same_point p s) && ends_window_at f p) (not_false (same_point p k) h.is_inside.is_not_save) (and_both (not (same_point p s)) (ends_window_at f p) (not_false (same_point p s) h.is_inside.is_not_suspend) h.ends) in
        eb ∙ (all.each k).1 (record {
          goal = p;
          is_goal = subst (λ (l : List Point). has_point l p ≡ true) (sym ec) (kept_to (is_call_between f k s) back p ((way.each p).1 h.is_inside.to_suspend) is_call);
          path = subst (λ (l : List Point). Leads f l k p) (sym ea) h.is_inside.from_save;
        })

-- ---- edges that leave the window

-- a point off the way: it isn't the suspend, and it is the save or leads to the suspend by no path
record IsOff (f : Function) (k s q : Point) : Type 0 where
  other : same_point q s ≡ false
  off : IsInWindow f k s q → ⊥

-- from a point in the window a path leads to a point off the way
window_left : (f : Function) (k s : Point) (back : List Point) → AreOnTheWay f k s back → (v q : Point) (between : List Point) → IsInWindow f k s v → IsOff f k s q → IsPath f (k ∷ s ∷ []) v between q → HasLeavingEdge f k s
window_left f k s back way v q [] inside off path = record { from = v; to = q; is_inside = inside; is_edge = path; is_outside = off.off; is_not_suspend = off.other }
window_left f k s back way v q (w ∷ between) inside off path =
    by (λ i. window_left f k s back way w q between i off path.2) (decide (has_point back w))
  where
    from : Leads f (k ∷ s ∷ []) k w
    from = leads-more f (k ∷ s ∷ []) k v w inside.from_save (neither k s v inside.is_not_save inside.is_not_suspend) path.0

    by : (IsInWindow f k s w → HasLeavingEdge f k s) → Decided (has_point back w) → HasLeavingEdge f k s
    by later (inl h) = later (record { is_not_save = no_save k s w path.1; is_not_suspend = no_suspend k s w path.1; from_save = from; to_suspend = (way.each w).0 h })
    by later (inr h) =
        record { from = v; to = w; is_inside = inside; is_edge = path.0; is_outside = λ i. false≢true (sym h ∙ (way.each w).1 i.to_suspend); is_not_suspend = no_suspend k s w path.1 }

-- an instruction has one point behind it
abbrev behind : Point → Point
behind p = record { block = p.block; at = p.at + 1 }

within : {A : Type 0} (xs : List A) (i : ℕ) → is_some (slice_get xs i) ≡ true → i < length xs
within [] i e = absurd (false≢true e)
within (x ∷ xs) zero e = omega arith
within (x ∷ xs) (suc i) e = let lt : i < length xs = within xs i e in omega arith

chosen : (t : Bool) (a b : List Point) → t ≡ true → (if t then a else b) ≡ a
chosen true a b h = refl
chosen false a b h = absurd (false≢true h)

nexts_by : (f : Function) (k : Point) (o : Option Block) → is_some (instr_in o k.at) ≡ true → nexts_in f k o ≡ behind k ∷ []
nexts_by f k None e = absurd (false≢true e)
nexts_by f k (Some b) e =
    chosen (nat_lt k.at (length b.instrs)) (behind k ∷ []) (if k.at == length b.instrs then map (entry_point f) (targets b.term) else []) (lt-ltb k.at (length b.instrs) (within b.instrs k.at e))

first_is : (f : Function) (k v : Point) → StandsAt f k → has_point (nexts f k) v ≡ true → v ≡ behind k
first_is f k v stands e = one_is v (behind k) (subst (λ (l : List Point). has_point l v ≡ true) (nexts_by f k (slice_get f.blocks k.block) stands) e)

-- the point right behind the save is the suspend or in the window
begun : (f : Function) (k s : Point) → StandsAt f k → (between : List Point) → IsPath f (k ∷ s ∷ []) k between s → (behind k ≡ s) ⊎ IsInWindow f k s (behind k)
begun f k s stands [] path = inl (sym (first_is f k s stands path))
begun f k s stands (w ∷ between) path =
    inr (subst (λ (v : Point). IsInWindow f k s v) (first_is f k w stands path.0)
    (record {
      is_not_save = no_save k s w path.1;
      is_not_suspend = no_suspend k s w path.1;
      from_save = record { between = []; is_path = path.0 };
      to_suspend = record { between = between; is_path = path.2 };
    }))

left_by : (f : Function) (k s : Point) (back : List Point) → AreOnTheWay f k s back → StandsAt f k → (behind k ≡ s) ⊎ IsInWindow f k s (behind k) → (q : Point) → IsOff f k s q → (between : List Point) → IsPath f (k ∷ s ∷ []) k between q → HasLeavingEdge f k s
left_by f k s back way stands (inl e) q off [] path = absurd (false≢true (sym off.other ∙ ap (λ (v : Point). same_point v s) (first_is f k q stands path ∙ e) ∙ same_point-itself s))
left_by f k s back way stands (inr i) q off [] path = absurd (off.off (subst (λ (v : Point). IsInWindow f k s v) (sym (first_is f k q stands path)) i))
left_by f k s back way stands (inl e) q off (v ∷ between) path =
    absurd (false≢true (sym (no_suspend k s v path.1) ∙ ap (λ (w : Point). same_point w s) (first_is f k v stands path.0 ∙ e) ∙ same_point-itself s))
left_by f k s back way stands (inr i) q off (v ∷ between) path =
    window_left f k s back way v q between (subst (λ (w : Point). IsInWindow f k s w) (sym (first_is f k v stands path.0)) i) off path.2

pub has_leaving_edge_is : (f : Function) (k s : Point) (back starts avoided reached : List Point) (set : List (List Bool)) (b : Bool) → AreOnTheWay f k s back → has_point back k ≡ true → StandsAt f k → starts ≡ k ∷ [] → avoided ≡ k ∷ s ∷ [] → AreReached f starts avoided reached → AreIn back set → b ≡ list_any (is_off set k s) reached → IsTrue b ↔ HasLeavingEdge f k s
has_leaving_edge_is f k s back starts avoided reached set b way there stands es ea all marks eb = (sound, complete)
  where
    leads : (q : Point) → has_point reached q ≡ true → Leads f (k ∷ s ∷ []) k q
    leads q h =
        let r = (all.each q).0 h in
        let start : r.start ≡ k = one_is r.start k (subst (λ (l : List Point). has_point l r.start ≡ true) es r.is_start) in
        subst (λ (v : Point). Leads f (k ∷ s ∷ []) v q) start (subst (λ (l : List Point). Leads f l r.start q) ea r.path)

    off : (q : Point) → is_off set k s q ≡ true → IsOff f k s q
    off q h = record { other = not_true (same_point q s) (and_first (not (same_point q s)) (same_point q k || not (is_marked set q)) h); off = outside }
      where
        outside : IsInWindow f k s q → ⊥
        outside i =
            elim (or_cases (same_point q k) (not (is_marked set q)) (and_second (not (same_point q s)) (same_point q k || not (is_marked set q)) h)) [
              | inl a ↦ false≢true (sym i.is_not_save ∙ a)
              | inr a ↦ false≢true (sym (not_true (is_marked set q) a) ∙ marks.each q ∙ (way.each q).1 i.to_suspend)
            ]

    sound : IsTrue b → HasLeavingEdge f k s
    sound h =
        let found = any_from (is_off set k s) reached (sym eb ∙ h) in
        let straight = (way.each k).0 there in
        let path = leads found.0 found.1 in
        left_by f k s back way stands (begun f k s stands straight.between straight.is_path) found.0 (off found.0 found.2) path.between path.is_path

    is_outside : (q : Point) → (IsInWindow f k s q → ⊥) → Leads f (k ∷ s ∷ []) k q → same_point q s ≡ false → same_point q k ≡ false → is_marked set q ≡ false
    is_outside q out from other save = by (is_marked set q) refl
      where
        by : (t : Bool) → is_marked set q ≡ t → is_marked set q ≡ false
        by true m = absurd (out (record { is_not_save = save; is_not_suspend = other; from_save = from; to_suspend = (way.each q).0 (sym (marks.each q) ∙ m) }))
        by false m = m

    complete : HasLeavingEdge f k s → IsTrue b
    complete h =
        let q = h.to in
        let from = leads-more f (k ∷ s ∷ []) k h.from q h.is_inside.from_save (neither k s h.from h.is_inside.is_not_save h.is_inside.is_not_suspend) h.is_edge in
        let there' = (all.each q).1 (record { start = k; is_start = subst (λ (l : List Point). has_point l k ≡ true) (sym es) (one_has k); path = subst (λ (l : List Point). Leads f l k q) (sym ea) from }) in
        let test : is_off set k s q ≡ true = and_both (not (same_point q s)) (same_point q k || not (is_marked set q)) (not_false (same_point q s) h.is_not_suspend)
        (elim (decide (same_point q k)) [
          | inl a ↦ or_first (same_point q k) (not (is_marked set q)) a
          | inr a ↦ or_second (same_point q k) (not (is_marked set q)) (not_false (is_marked set q) (is_outside q h.is_outside from h.is_not_suspend a))
        ]) in
        eb ∙ any_to (is_off set k s) reached q there' test

-- ---- a window

comes_back_is : (f : Function) (k s : Point) (back : List Point) → AreOnTheWay f k s back → (r : Point) → comes_back back k s r ≡ true → ComesBack f k s r
comes_back_is f k s back way r e =
    elim (or_cases (same_point r s) (not (same_point r k) && has_point back r) e) [
      | inl a ↦ inl (same_point-same r s a)
      | inr a ↦ inr (not_true (same_point r k) (and_first (not (same_point r k)) (has_point back r) a), (way.each r).0 (and_second (not (same_point r k)) (has_point back r) a))
    ]

comes_back_has : (f : Function) (k s : Point) (back : List Point) → AreOnTheWay f k s back → (r : Point) → ComesBack f k s r → comes_back back k s r ≡ true
comes_back_has f k s back way r c =
    elim c [
      | inl a ↦ or_first (same_point r s) (not (same_point r k) && has_point back r) (ap (λ (v : Point). same_point v s) a ∙ same_point-itself s)
      | inr a ↦ or_second (same_point r s) (not (same_point r k) && has_point back r) (and_both (not (same_point r k)) (has_point back r) (not_false (same_point r k) a.0) ((way.each r).1 a.1))
    ]

way_back_is : (f : Function) (k s : Point) (back : List Point) → AreOnTheWay f k s back → has_way_back f back k s ≡ true → HasWayBack f k s
way_back_is f k s back way e =
    let a = entry_point f (resume_label f s) in
    let b = entry_point f (destroy_label f s) in
    elim (or_cases (comes_back back k s a) (comes_back back k s b) e) [
      | inl h ↦ record { first = a; is_first = or_first (same_point a a) (same_point a b || false) (same_point-itself a); comes_back = comes_back_is f k s back way a h }
      | inr h ↦ record { first = b; is_first = or_second (same_point b a) (same_point b b || false) (or_first (same_point b b) false (same_point-itself b)); comes_back = comes_back_is f k s back way b h }
    ]

way_back_has : (f : Function) (k s : Point) (back : List Point) → AreOnTheWay f k s back → HasWayBack f k s → has_way_back f back k s ≡ true
way_back_has f k s back way h =
    let a = entry_point f (resume_label f s) in
    let b = entry_point f (destroy_label f s) in
    let test = comes_back_has f k s back way h.first h.comes_back in
    elim (or_cases (same_point h.first a) (same_point h.first b || false) h.is_first) [
      | inl e ↦ or_first (comes_back back k s a) (comes_back back k s b) (sym (ap (λ (v : Point). comes_back back k s v) (same_point-same h.first a e)) ∙ test)
      | inr e ↦ or_second (comes_back back k s a) (comes_back back k s b) (sym (ap (λ (v : Point). comes_back back k s v) (same_point-same h.first b (only_first (same_point h.first b) e))) ∙ test)
    ]
  where
    only_first : (t : Bool) → (t || false) ≡ true → t ≡ true
    only_first true e = refl
    only_first false e = e

always : (f : Function) (k s : Point) → IsWrong f k s → IsTrue true ↔ IsWrong f k s
always f k s w = ((λ e. w), (λ x. refl))

pub wrong_no_path : (f : Function) (k s : Point) (back : List Point) → AreOnTheWay f k s back → has_point back k ≡ false → IsTrue true ↔ IsWrong f k s
wrong_no_path f k s back way e = always f k s (NoPath (λ l. false≢true (sym e ∙ (way.each k).1 l)))

pub wrong_back : (f : Function) (k s : Point) (back : List Point) → AreOnTheWay f k s back → has_way_back f back k s ≡ true → IsTrue true ↔ IsWrong f k s
wrong_back f k s back way e = always f k s (Back (way_back_is f k s back way e))

pub wrong_call : (f : Function) (k s : Point) (b : Bool) → (IsTrue b ↔ HasCall f k s) → b ≡ true → IsTrue true ↔ IsWrong f k s
wrong_call f k s b h e = always f k s (Call (h.0 e))

wrong_left : (f : Function) (k s : Point) (back : List Point) (b c : Bool) → AreOnTheWay f k s back → has_point back k ≡ true → has_way_back f back k s ≡ false → (IsTrue c ↔ HasCall f k s) → c ≡ false → (IsTrue (is_final_at f s) → HasLeavingEdge f k s → b ≡ true) → IsWrong f k s → b ≡ true
wrong_left f k s back b c way there none call calm left (NoPath l) = absurd (l ((way.each k).0 there))
wrong_left f k s back b c way there none call calm left (Back w) = absurd (false≢true (sym none ∙ way_back_has f k s back way w))
wrong_left f k s back b c way there none call calm left (Call h) = absurd (false≢true (sym calm ∙ call.1 h))
wrong_left f k s back b c way there none call calm left (Left final h) = left final h

pub not_wrong : (f : Function) (k s : Point) (back : List Point) (c : Bool) → AreOnTheWay f k s back → has_point back k ≡ true → has_way_back f back k s ≡ false → (IsTrue c ↔ HasCall f k s) → c ≡ false → is_final_at f s ≡ false → IsTrue false ↔ IsWrong f k s
not_wrong f k s back c way there none call calm final =
    ((λ e. absurd (false≢true e)), wrong_left f k s back false c way there none call calm (λ is h. sym final ∙ is))

pub wrong_leaving : (f : Function) (k s : Point) (back : List Point) (b c : Bool) → AreOnTheWay f k s back → has_point back k ≡ true → has_way_back f back k s ≡ false → (IsTrue c ↔ HasCall f k s) → c ≡ false → is_final_at f s ≡ true → (IsTrue b ↔ HasLeavingEdge f k s) → IsTrue b ↔ IsWrong f k s
wrong_leaving f k s back b c way there none call calm final left =
    ((λ e. Left final (left.0 e)), wrong_left f k s back b c way there none call calm (λ is h. left.1 h))

-- ---- a save and its suspends

none_from : (block at : ℕ) (is : List Instr) → points_from (λ i. false) block at is ≡ []
none_from block at [] = refl
none_from block at (i ∷ is) = none_from block (suc at) is

none_in : (block : ℕ) (bs : List Block) → points_in (λ i. false) block bs ≡ []
none_in block [] = refl
none_in block (b ∷ bs) = ap (λ (l : List Point). l ++ points_in (λ i. false) (suc block) bs) (none_from block 0 b.instrs) ∙ none_in (suc block) bs

none_taken : (f : Function) → points_where (is_suspend_of None) f ≡ []
none_taken f = none_in 0 f.blocks

pub no_token : (f : Function) (k : Point) → option_and_then call_result (instr_at f k) ≡ None → IsOnly (suspends_of f k) None
no_token f k e = λ s h. empty s (sym (none_taken f) ∙ sym (ap (λ (o : Option ℕ). points_where (is_suspend_of o) f) e) ∙ h)
  where
    empty : (s : Point) → [] ≡ s ∷ [] → ⊥
    empty s h = cc

pub some_token : (f : Function) (k : Point) (t : ℕ) (row : List Point) (o : Option Point) → option_and_then call_result (instr_at f k) ≡ Some t → row ≡ points_where (is_suspend_of (Some t)) f → IsOnly row o → IsOnly (suspends_of f k) o
some_token f k t row o e is h =
    subst (λ (l : List Point). IsOnly l o) (is ∙ sym (ap (λ (v : Option ℕ). points_where (is_suspend_of v) f) e)) h

pub stands_by : (f : Function) (k s : Point) → suspends_of f k ≡ s ∷ [] → StandsAt f k
stands_by f k s h = by (instr_at f k) refl
  where
    by : (o : Option Instr) → instr_at f k ≡ o → is_some (instr_at f k) ≡ true
    by None e = absurd (no_token f k (ap (option_and_then call_result) e) s h)
    by (Some i) e = ap is_some e

pub breaks_none : (f : Function) (k : Point) → IsOnly (suspends_of f k) None → IsTrue true ↔ BreaksWindow f k
breaks_none f k h = ((λ e. NotOne h), (λ w. refl))

same_suspend : (f : Function) (k s t : Point) → suspends_of f k ≡ s ∷ [] → suspends_of f k ≡ t ∷ [] → s ≡ t
same_suspend f k s t a b = same (sym a ∙ b)
  where
    same : s ∷ [] ≡ t ∷ [] → s ≡ t
    same h = cc

between_wrong : (f : Function) (k s : Point) → suspends_of f k ≡ s ∷ [] → BreaksWindow f k → IsWrong f k s
between_wrong f k s e (NotOne h) = absurd (h s e)
between_wrong f k s e (Between t h w) = subst (λ (v : Point). IsWrong f k v) (same_suspend f k t s h e) w

pub breaks_some : (f : Function) (k s : Point) (b : Bool) → suspends_of f k ≡ s ∷ [] → (IsTrue b ↔ IsWrong f k s) → IsTrue b ↔ BreaksWindow f k
breaks_some f k s b e w = ((λ h. Between s e (w.0 h)), (λ h. w.1 (between_wrong f k s e h)))

-- ---- rule K6

none_first : (Breaks : Point → Type 0) (place : Point → Place) (xs : List Point) → ((x : Point) → Breaks x → ⊥) → IsFirst Breaks place xs None
none_first Breaks place [] h = refl
none_first Breaks place (x ∷ xs) h = inr (h x, none_first Breaks place xs h)

pub no_first_window : (func : ℕ) (f : Function) → f.coroutine ≡ false → IsFirstWindow func f None
no_first_window func f e = none_first (BreaksSave f) (place_of func f) (points_where (is_call_of Intrinsic.CoroSave) f) (λ x b. false≢true (sym e ∙ b.0))

save_first : (func : ℕ) (f : Function) → f.coroutine ≡ true → (saves : List Point) (o : Option Place) → IsFirst (BreaksWindow f) (place_of func f) saves o → IsFirst (BreaksSave f) (place_of func f) saves o
save_first func f co [] o h = h
save_first func f co (k ∷ saves) o (inl h) = inl ((co, h.0), h.1)
save_first func f co (k ∷ saves) o (inr h) = inr ((λ b. h.0 b.1), save_first func f co saves o h.1)

pub first_window_is : (func : ℕ) (f : Function) (saves : List Point) (o : Option Place) → f.coroutine ≡ true → saves ≡ points_where (is_call_of Intrinsic.CoroSave) f → IsFirst (BreaksWindow f) (place_of func f) saves o → IsFirstWindow func f o
first_window_is func f saves o co e h = subst (λ (l : List Point). IsFirst (BreaksSave f) (place_of func f) l o) e (save_first func f co saves o h)

pub first_step : (func : ℕ) (f : Function) (saves : List Point) (i : ℕ) (k : Point) (b : Bool) → i < length saves → (IsTrue b ↔ BreaksWindow f (get_or saves i k)) → b ≡ false → ((o : Option Place) → IsFirst (BreaksWindow f) (place_of func f) (drop i saves) o → IsFirst (BreaksWindow f) (place_of func f) saves o) → (o : Option Place) → IsFirst (BreaksWindow f) (place_of func f) (drop (i + 1) saves) o → IsFirst (BreaksWindow f) (place_of func f) saves o
first_step func f saves i k b lt says calm rest o h =
    rest o (subst (λ (l : List Point). IsFirst (BreaksWindow f) (place_of func f) l o) (sym (drop-cons saves i k lt))
    (inr ((λ w. false≢true (sym calm ∙ says.1 w)), subst (λ (n : ℕ). IsFirst (BreaksWindow f) (place_of func f) (drop n saves) o) (add-one i) h)))

pub first_found : (func : ℕ) (f : Function) (saves : List Point) (i : ℕ) (k : Point) (b : Bool) (p : Place) → i < length saves → (IsTrue b ↔ BreaksWindow f (get_or saves i k)) → b ≡ true → p ≡ place_of func f (get_or saves i k) → ((o : Option Place) → IsFirst (BreaksWindow f) (place_of func f) (drop i saves) o → IsFirst (BreaksWindow f) (place_of func f) saves o) → IsFirst (BreaksWindow f) (place_of func f) saves (Some p)
first_found func f saves i k b p lt says broken is rest =
    rest (Some p) (subst (λ (l : List Point). IsFirst (BreaksWindow f) (place_of func f) l (Some p)) (sym (drop-cons saves i k lt)) (inl (says.0 broken, ap (λ (q : Place). Some q) is)))

past : (xs : List Point) (i : ℕ) → length xs ≤ i → drop i xs ≡ []
past [] zero le = refl
past [] (suc i) le = refl
past (x ∷ xs) zero le = absurd (omega arith)
past (x ∷ xs) (suc i) le = past xs i (omega arith)

pub first_none : (func : ℕ) (f : Function) (saves : List Point) (i : ℕ) → length saves ≤ i → ((o : Option Place) → IsFirst (BreaksWindow f) (place_of func f) (drop i saves) o → IsFirst (BreaksWindow f) (place_of func f) saves o) → IsFirst (BreaksWindow f) (place_of func f) saves None
first_none func f saves i le rest =
    rest None (subst (λ (l : List Point). IsFirst (BreaksWindow f) (place_of func f) l None) (sym (past saves i le)) refl)
