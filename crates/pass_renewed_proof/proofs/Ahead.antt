-- A local slot isn't used behind a suspend without a start where it was used before.
use Rattle.std.proofs.Common.{◌≡◌, ℕ, zero, suc, ◌+◌, ◌⊎◌, inl, inr, Bool, true, false, List, [], ◌∷◌, ◌++◌, length, map, Option, Some, None, refl, sym, ap, ◌∙◌, subst, arith, if◌then◌else◌, ◌&&◌, ◌||◌, ◌==◌}
use Rattle.std.specs.Prelude.{IsTrue, nat_lt, slice_get}
use Rattle.pass_kept_proof.specs.ir_model.Names.{position_of}
use Rattle.pass_kept_proof.specs.ir_model.declared.instr.Instr.{Instr}
use Rattle.pass_kept_proof.specs.ir_model.declared.module.Block.{Block}
use Rattle.pass_kept_proof.specs.ir_model.declared.module.Function.{Function}
use Rattle.pass_kept_proof.specs.ir_paths.Paths.{IsPath, Leads, block_points, entry_point, has_point, nexts, nexts_in, same_point, targets}
use Rattle.pass_kept_proof.specs.ir_paths.Slots.{end_points, has_name, is_escaped, points_at}
use Rattle.pass_kept_proof.specs.ir_paths.Windows.{end_block}
use Rattle.pass_kept_proof.specs.ir_paths.declared.point.Point.{Point}
use Rattle.pass_kept_proof.proofs.Same.{either, neither, or_left, or_right, eq_itself}
use Rattle.pass_kept_proof.specs.Needed.{BranchesTo}
use Rattle.pass_kept_proof.specs.run_step.Step.{AtInstr, fetch, fetch_in, fetch_or}
use Rattle.pass_renewed_proof.specs.Ahead.{IsNoStart, IsUsedAhead, IsUsedBefore, IsUsedBehind, WasUsed, enters, on_edge, passes, used}
use Rattle.frame_classes.specs.Alive.{MayBeAlive}
use Rattle.frame_classes.specs.Classes.{NeedsFrame, parting, suspends, Across, Alive, Away}
use Rattle.frame_classes.specs.rule_slots.Early.{end_at, instr_count}
use Rattle.frame_classes.specs.frame_slots.Spots.{At, Comes, IsBehind, IsStart, IsUse, LeadsFrom, On, OnEdge, Later, Spot, point_at}
use Rattle.pass_kept_proof.specs.rule_windows.Windows.{own_edges}
use Rattle.frame_classes.specs.rule_window_values.Kept.{front}

-- ---- edges

pub same_itself : (p : Point) → same_point p p ≡ true
same_itself p = (λ i. eq_itself p.block i && (p.at == p.at)) ∙ eq_itself p.at

found_first : (p : Point) (ps : List Point) → has_point (p ∷ ps) p ≡ true
found_first p ps = or_left (same_point p p) _ (same_itself p)

entry_found : (f : Function) (label : ℕ) (ls : List ℕ) → IsTrue (has_name ls label) → has_point (map (entry_point f) ls) (entry_point f label) ≡ true
entry_found f label [] h = absurd (cc)
entry_found f label (l ∷ ls) h = on (λ e. entry_found f label ls e) (either (l == label) (has_name ls label) h)
  where
    on : (has_name ls label ≡ true → has_point (map (entry_point f) ls) (entry_point f label) ≡ true) → ((l == label) ≡ true) ⊎ (has_name ls label ≡ true) → has_point (map (entry_point f) (l ∷ ls)) (entry_point f label) ≡ true
    on ih (inl e) = or_left (same_point (entry_point f label) (entry_point f l)) _ (let is : l ≡ label = grind arith in ap (λ k. same_point (entry_point f label) (entry_point f k)) is ∙ same_itself (entry_point f label))
    on ih (inr e) = or_right (same_point (entry_point f label) (entry_point f l)) _ (ih e)

pub get_within : {A : Type 0} (xs : List A) (k : ℕ) (x : A) → slice_get xs k ≡ Some x → nat_lt k (length xs) ≡ true
get_within [] k x e = absurd (cc)
get_within (y ∷ xs) zero x e = grind arith
get_within (y ∷ xs) (suc k) x e = let h = get_within xs k x e in grind arith

pub next_edge : (f : Function) (block at : ℕ) (i : Instr) → fetch f block at ≡ AtInstr i → has_point (nexts f (record { block = block; at = at })) (record { block = block; at = at + 1 }) ≡ true
next_edge f block at i e = on (slice_get f.blocks block) e
  where
    at_block : (b : Block) → (o : Option Instr) → slice_get b.instrs at ≡ o → (t : Bool) → fetch_or o t b.term ≡ AtInstr i → has_point (nexts_in f (record { block = block; at = at }) (Some b)) (record { block = block; at = at + 1 }) ≡ true
    at_block b None eo true h = absurd (cc)
    at_block b None eo false h = absurd (cc)
    at_block b (Some j) eo t h =
        ap (λ s. has_point (if s then record { block = block; at = at + 1 } ∷ [] else if at == length b.instrs then map (entry_point f) (targets b.term) else []) (record { block = block; at = at + 1 })) (get_within b.instrs at j eo)
        ∙ found_first (record { block = block; at = at + 1 }) []

    on : (o : Option Block) → fetch_in o at ≡ AtInstr i → has_point (nexts_in f (record { block = block; at = at }) o) (record { block = block; at = at + 1 }) ≡ true
    on None h = absurd (cc)
    on (Some b) h = at_block b (slice_get b.instrs at) refl (at == length b.instrs) h

-- where a branch stands, its block ends
pub record IsEnd (f : Function) (block at label : ℕ) : Type 0 where
  pub edge : has_point (nexts f (record { block = block; at = at })) (entry_point f label) ≡ true
  pub is_end : end_at f block ≡ record { block = block; at = at }

pub branch_edge : (f : Function) (block at label : ℕ) → BranchesTo label (fetch f block at) → IsEnd f block at label
branch_edge f block at label h = record { edge = on (slice_get f.blocks block) h; is_end = ap (λ k. record { block = block; at = k }) (ends (slice_get f.blocks block) h) }
  where
    last : (b : Block) (o : Option Instr) → slice_get b.instrs at ≡ o → (t : Bool) → (at == length b.instrs) ≡ t → BranchesTo label (fetch_or o t b.term) → (at ≡ length b.instrs) × IsTrue (has_name (targets b.term) label)
    last b (Some j) eo t et k = absurd k
    last b None eo true et k = (grind arith, k)
    last b None eo false et k = absurd k

    not_within : (n : ℕ) → at ≡ n → nat_lt at n ≡ false
    not_within n e = grind arith

    is_last : (n : ℕ) → at ≡ n → (at == n) ≡ true
    is_last n e = grind arith

    on : (o : Option Block) → BranchesTo label (fetch_in o at) → has_point (nexts_in f (record { block = block; at = at }) o) (entry_point f label) ≡ true
    on None k = absurd k
    on (Some b) k =
        let r = last b (slice_get b.instrs at) refl (at == length b.instrs) refl k in
        ap (λ s. has_point (if s then record { block = block; at = at + 1 } ∷ [] else if at == length b.instrs then map (entry_point f) (targets b.term) else []) (entry_point f label)) (not_within (length b.instrs) r.0)
        ∙ ap (λ s. has_point (if s then map (entry_point f) (targets b.term) else []) (entry_point f label)) (is_last (length b.instrs) r.0)
        ∙ entry_found f label (targets b.term) r.1

    ends : (o : Option Block) → BranchesTo label (fetch_in o at) → instr_count o ≡ at
    ends None k = absurd k
    ends (Some b) k = sym (last b (slice_get b.instrs at) refl (at == length b.instrs) refl k).0

-- ---- lists of points

pub not_in_either : (a b : Bool) → a ≡ false → b ≡ false → (a || (b || false)) ≡ false
not_in_either a b h k = (λ i. h i || (k i || false))

pub found_append : (xs ys : List Point) (p : Point) → has_point xs p ≡ false → has_point ys p ≡ false
    → has_point (xs ++ ys) p ≡ false
found_append [] ys p h k = k
found_append (x ∷ xs) ys p h k = let n = neither (same_point p x) (has_point xs p) h in ap (λ t. t || has_point (xs ++ ys) p) n.0 ∙ found_append xs ys p n.1 k

pub not_found_first : (xs ys : List Point) (p : Point) → has_point (xs ++ ys) p ≡ false → has_point xs p ≡ false
not_found_first [] ys p h = refl
not_found_first (x ∷ xs) ys p h = let n = neither (same_point p x) (has_point (xs ++ ys) p) h
    in ap (λ t. t || has_point xs p) n.0 ∙ not_found_first xs ys p n.1

found_behind : (xs ys : List Point) (p : Point) → has_point (xs ++ ys) p ≡ false → has_point ys p ≡ false
found_behind [] ys p h = h
found_behind (x ∷ xs) ys p h = found_behind xs ys p (neither (same_point p x) (has_point (xs ++ ys) p) h).1

differs : (a b : ℕ) → (a ≡ b → ⊥) → (a == b) ≡ false
differs a b ne = on (a == b) refl
  where
    on : (t : Bool) → (a == b) ≡ t → (a == b) ≡ false
    on true e = absurd (ne (grind arith))
    on false e = e

not_in_block : (n k : ℕ) (p : Point) → (p.block ≡ n → ⊥) → has_point (block_points n k) p ≡ false
not_in_block n zero p ne = ap (λ t. (t && (p.at == 0)) || false) (differs p.block n ne)
not_in_block n (suc k) p ne = ap (λ t. (t && (p.at == suc k)) || has_point (block_points n k) p) (differs p.block n ne) ∙ not_in_block n k p ne

pub not_in_end : (f : Function) (p : Point) → (p.block ≡ end_block f → ⊥) → has_point (end_points f) p ≡ false
not_in_end f p ne = on (slice_get f.blocks (end_block f))
  where
    on : (o : Option Block) → has_point (points_at (end_block f) o) p ≡ false
    on None = refl
    on (Some b) = not_in_block (end_block f) (length b.instrs) p ne

-- ---- paths

comes_front : (f : Function) (avoided : List Point) (p q t : Point) → has_point (nexts f p) q ≡ true → has_point avoided p ≡ false → Comes f avoided q t → Comes f avoided p t
comes_front f avoided p q t edge out (inl e) = inr (out, record { between = []; is_path = subst (λ z. has_point (nexts f p) z ≡ true) e edge })
comes_front f avoided p q t edge out (inr h) = inr (out, record { between = q ∷ h.1.between; is_path = (edge, h.0, h.1.is_path) })

path_more : (f : Function) (avoided : List Point) (p : Point) (between : List Point) (v w : Point) → IsPath f avoided p between v → has_point avoided v ≡ false → has_point (nexts f v) w ≡ true → IsPath f avoided p (between ++ v ∷ []) w
path_more f avoided p [] v w h out edge = (h, out, edge)
path_more f avoided p (u ∷ between) v w h out edge = (h.0, h.1, path_more f avoided u between v w h.2 out edge)

pub leads_more : (f : Function) (avoided : List Point) (p v w : Point) → Leads f avoided p v → has_point avoided v ≡ false → has_point (nexts f v) w ≡ true → Leads f avoided p w
leads_more f avoided p v w h out edge = record { between = h.between ++ v ∷ []; is_path = path_more f avoided p h.between v w h.is_path out edge }

path_less : (f : Function) (xs ys : List Point) (p : Point) (between : List Point) (q : Point) → IsPath f (xs ++ ys) p between q → IsPath f ys p between q
path_less f xs ys p [] q h = h
path_less f xs ys p (v ∷ between) q h = (h.0, found_behind xs ys v h.1, path_less f xs ys v between q h.2)

comes_less : (f : Function) (xs ys : List Point) (p q : Point) → Comes f (xs ++ ys) p q → Comes f ys p q
comes_less f xs ys p q (inl e) = inl e
comes_less f xs ys p q (inr h) = inr (found_behind xs ys p h.0, record { between = h.1.between; is_path = path_less f xs ys p h.1.between q h.1.is_path })

behind_less : (f : Function) (s : Point) (avoided : List Point) (spot : Spot) → IsBehind f s avoided spot → IsBehind f s [] spot
behind_less f s avoided _ (OnEdge to listed) = OnEdge to listed
behind_less f s avoided _ (Later spot r own comes out) = Later spot r own (comes_less f avoided (end_points f) r (point_at f spot) comes) out

-- ---- uses ahead stand behind the suspend

module _ (f : Function) (slot : ℕ) where
  abbrev parts : List Point
  parts = parting (is_escaped f slot) f slot

  pub record ComesToUse (r : Point) : Type 0 where
    pub late : Spot
    pub is_use : IsUse f slot late
    pub comes : Comes f (parts ++ end_points f) r (point_at f late)
    pub is_outside : has_point (end_points f) (point_at f late) ≡ false

  pub ahead_comes : (block at : ℕ) → (block ≡ end_block f → ⊥) → IsUsedAhead f slot block at → ComesToUse (record { block = block; at = at })
  ahead_comes block at ne (used u) = record { late = At (record { block = block; at = at }); is_use = u; comes = inl refl; is_outside = not_in_end f (record { block = block; at = at }) ne }
  ahead_comes block at ne (passes i e out h) =
      let r = ahead_comes block (at + 1) ne h in
      record { late = r.late; is_use = r.is_use; comes = comes_front f (parts ++ end_points f) (record { block = block; at = at }) (record { block = block; at = at + 1 }) _ (next_edge f block at i e) (found_append parts (end_points f) _ out (not_in_end f (record { block = block; at = at }) ne)) r.comes; is_outside = r.is_outside }
  ahead_comes block at ne (on_edge label takes out u) =
      let e = branch_edge f block at label takes.branches in
      record { late = On block (position_of f label); is_use = u; comes = inl (sym e.is_end); is_outside = ap (has_point (end_points f)) e.is_end ∙ not_in_end f (record { block = block; at = at }) ne }
  ahead_comes block at ne (enters label takes out h) =
      let r = ahead_comes (position_of f label) 0 takes.no_end h in
      record { late = r.late; is_use = r.is_use; comes = comes_front f (parts ++ end_points f) (record { block = block; at = at }) (entry_point f label) _ (branch_edge f block at label takes.branches).edge (found_append parts (end_points f) _ out (not_in_end f (record { block = block; at = at }) ne)) r.comes; is_outside = r.is_outside }

  pub ahead_behind : (s : Point) (label : ℕ) → has_point (own_edges f s) (entry_point f label) ≡ true → (position_of f label ≡ end_block f → ⊥) → IsUsedAhead f slot (position_of f label) 0 → IsUsedBehind f slot s
  ahead_behind s label own ne h =
      let r = ahead_comes (position_of f label) 0 ne h in
      record { late = r.late; is_use = r.is_use; is_behind = Later r.late (entry_point f label) own r.comes r.is_outside }

  -- ---- local slots

  pub not_used_behind : (¬ NeedsFrame f slot) → (s : Point) → IsTrue (has_point (suspends f) s) → WasUsed f slot s → IsUsedBehind f slot s → ⊥
  not_used_behind local s is (inl b) u = local (Across (record { early = b.early; is_use = b.is_use; suspend = s; is_suspend = is; comes = b.comes; late = u.late; touches = inl u.is_use; is_behind = u.is_behind }))
  not_used_behind local s is (inr a) u = local (Away (record { early = a.spot; is_use = a.is_use; is_away = a.is_away; suspend = s; is_suspend = is; late = u.late; touches = inl u.is_use; is_behind = behind_less f s parts u.late u.is_behind }))

  pub not_started_behind : (¬ NeedsFrame f slot) → IsTrue (is_escaped f slot) → (s : Point) → IsTrue (has_point (suspends f) s) → WasUsed f slot s → (spot : Spot) → IsStart f slot spot → IsBehind f s parts spot → ⊥
  not_started_behind local escaped s is (inl b) spot start behind = local (Across (record { early = b.early; is_use = b.is_use; suspend = s; is_suspend = is; comes = b.comes; late = spot; touches = inr (escaped, start); is_behind = behind }))
  not_started_behind local escaped s is (inr a) spot start behind = local (Away (record { early = a.spot; is_use = a.is_use; is_away = a.is_away; suspend = s; is_suspend = is; late = spot; touches = inr (escaped, start); is_behind = behind_less f s parts spot behind }))

  -- an escaped slot that was used isn't alive at a suspend
  pub not_alive : (¬ NeedsFrame f slot) → IsTrue (is_escaped f slot) → (s : Point) → IsTrue (has_point (suspends f) s) → IsUsedBefore f slot s → MayBeAlive f slot s → ⊥
  not_alive local escaped s is b alive = local (Alive (record { is_escaped = escaped; suspend = s; is_suspend = is; is_alive = alive; spot = b.early; is_use = b.is_use; meets = inl (subst (λ t. LeadsFrom f (parting t f slot) b.early s) escaped b.comes) }))

  -- ---- what was used stays so along an edge on which no start is passed

  pub used_on : (p q : Point) → has_point (nexts f p) q ≡ true → IsNoStart f slot p → IsUsedBefore f slot p → IsUsedBefore f slot q
  used_on p q edge out b = record { early = b.early; is_use = b.is_use; comes = more b.early b.comes }
    where
      more : (spot : Spot) → LeadsFrom f parts spot p → LeadsFrom f parts spot q
      more (At r) h = leads_more f parts r p q h out edge
      more (On from to) (inl e) = inr (subst (λ z. has_point parts z ≡ false) (sym e) out, record { between = []; is_path = subst (λ z. has_point (nexts f z) q ≡ true) (sym e) edge })
      more (On from to) (inr h) = inr (h.0, leads_more f parts (front to) p q h.1 out edge)

  pub used_at : (p q : Point) → has_point (nexts f p) q ≡ true → IsUse f slot (At p) → IsUsedBefore f slot q
  used_at p q edge u = record { early = At p; is_use = u; comes = record { between = []; is_path = edge } }

  pub used_on_edge : (from to : ℕ) → IsUse f slot (On from to) → IsUsedBefore f slot (front to)
  used_on_edge from to u = record { early = On from to; is_use = u; comes = inl refl }
