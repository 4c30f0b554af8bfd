-- Where edges of a coroutine have blocks no further slot needs the frame.
use Rattle.std.proofs.Common.{◌≡◌, ◌⊎◌, inl, inr, ⊎_elim, ℕ, suc, ◌+◌, Bool, true, false, List, [], ◌∷◌, ◌++◌, Option, Some, refl, sym, ap, ◌∙◌, subst}
use Rattle.std.proofs.lemmas.List.Folds.{list_any-append}
use Rattle.std.specs.Prelude.{option_to_list, slice_get, ◌||◌}
use Rattle.pass_proofs.specs.flow_solver.Paths.{IsListed}
use Rattle.pass_proofs.specs.frame_classes.Alive.{MayBeAlive}
use Rattle.pass_proofs.specs.frame_classes.Classes.{IsAliveAcross, IsUsedAcross, IsUsedAway, MeetsLater, NeedsFrame, parting, suspends}
use Rattle.pass_proofs.specs.frame_slots.Spots.{Comes, IsBehind, LeadsFrom, Spot, point_at}
use Rattle.pass_proofs.specs.frame_slots.Uses.{is_marker_of}
use Rattle.pass_proofs.proofs.ir_laws.paths.threads.Threads.{ahead_home, leads_home}
use Rattle.pass_proofs.specs.ir_laws.facts.branches.MovedState.{IsSwitch}
use Rattle.pass_proofs.specs.ir_laws.paths.threads.Moved.{GoesTo}
use Rattle.pass_proofs.specs.ir_laws.paths.threads.Threads.{AreAvoidedToo}
use Rattle.pass_proofs.specs.ir_model.Names.{position_of}
use Rattle.pass_proofs.specs.ir_model.declared.module.Block.{Block}
use Rattle.pass_proofs.specs.ir_model.declared.module.Function.{Function}
use Rattle.pass_proofs.specs.ir_model.declared.operand.Intrinsic.{Intrinsic}
use Rattle.pass_proofs.proofs.ir_paths.Search.{either, or_left, or_right, same_point-itself, same_point-same}
use Rattle.pass_proofs.specs.ir_paths.Paths.{Leads, entry_point, has_point, same_point}
use Rattle.pass_proofs.specs.ir_paths.Slots.{end_points, has_name, is_escaped}
use Rattle.pass_proofs.specs.ir_paths.Windows.{instr_in, is_call_of, label_at, label_of_term}
use Rattle.pass_proofs.specs.ir_paths.declared.point.Point.{Point}
use Rattle.pass_proofs.specs.pass_edges.EdgeBlocks.{with_edge_blocks}
use Rattle.pass_proofs.specs.pass_edges.Edges.{ends_in_suspend, phi_flags}
use Rattle.pass_proofs.specs.pass_edges.declared.edge.Edge.{Edge}
use Rattle.pass_proofs.proofs.edges.paths.Behind.{ends_avoided, number_leads}
use Rattle.pass_proofs.proofs.edges.paths.Blocks.{entry_moved, own_number, position_edge, spot}
use Rattle.pass_proofs.proofs.edges.paths.Edges.{edges_of_block, moved_apart}
use Rattle.pass_proofs.proofs.edges.paths.Slots.{same_promise}
use Rattle.pass_proofs.proofs.edges.rules.Alive.{IsMovedTo, alive_stays, avoided, from_where, nothing}
use Rattle.pass_proofs.proofs.edges.rules.CaseLabels.{switch_split, switch_target}
use Rattle.pass_proofs.proofs.edges.rules.Homes.{own_block, own_there, spots_no_edge, target_low}
use Rattle.pass_proofs.proofs.kept.sources.EdgeWindows.{ways}
use Rattle.pass_proofs.specs.edges.paths.Labels.{IsSplit}
use Rattle.pass_proofs.specs.edges.paths.Spots.{moved}
use Rattle.pass_proofs.specs.edges.states.MovedState.{KeepsEdges}
use Rattle.pass_proofs.proofs.rule_laws.frames.alike_slots.Tests.{IsPassed, passed}
use Rattle.pass_proofs.specs.rule_window_values.Kept.{own_blocks}
use Rattle.pass_proofs.specs.rule_windows.Sets.{IsAfterEnd}
use Rattle.pass_proofs.specs.rule_windows.Windows.{own_edges}
use Rattle.run_accepted.proofs.EdgeSpots.{EdgeAt, IsEdgeSpot, IsMovedSpot, Stood, before_is, comes_by, edge_front, end_before, end_is, escaped_same, front_apart, same_edge, spot_of, stood_after, stood_closed, stood_leads, target_of, touch_home, use_home}

-- ---- points of two lists

abbrev has_both : (ps qs : List Point) (p : Point) → has_point (ps ++ qs) p ≡ (has_point ps p || has_point qs p)
has_both ps qs p = list_any-append (same_point p) ps qs

both_avoided : (move : Point → Point) (ps qs rs ss : List Point) → AreAvoidedToo move ps rs → AreAvoidedToo move qs ss
    → AreAvoidedToo move (ps ++ qs) (rs ++ ss)
both_avoided move ps qs rs ss a b = record {
  moved = λ p.
      has_both rs ss (move p) ∙ (λ j. a.moved p j || b.moved p j) ∙ sym (has_both ps qs p);
  others = λ y h. has_both rs ss y ∙ (λ j. a.others y h j || b.others y h j);
}

second_none : (ps qs : List Point) (p : Point) → has_point (ps ++ qs) p ≡ false → has_point qs p ≡ false
second_none ps qs p h = on (has_point ps p) (has_point qs p) (sym (has_both ps qs p) ∙ h)
  where
    on : (a b : Bool) → (a || b) ≡ false → b ≡ false
    on true b e = absurd (cc)
    on false b e = e

-- ---- what lies behind a suspend

-- on one of its edges
record IsBehindEdge (f : Function) (s : Point) (x : Spot) : Type 0 where
  to : ℕ
  is : x ≡ Spot.On s.block to
  listed : IsListed to (own_blocks f s)

-- on a path from one of its edges
record IsBehindLater (f : Function) (s : Point) (avoided : List Point) (x : Spot) : Type 0 where
  first : Point
  is_first : has_point (own_edges f s) first ≡ true
  comes : Comes f (avoided ++ end_points f) first (point_at f x)
  is_not_in_end : has_point (end_points f) (point_at f x) ≡ false

behind_by : (f : Function) (s : Point) (avoided : List Point) (x : Spot) → IsBehind f s avoided x
    → IsBehindEdge f s x ⊎ IsBehindLater f s avoided x
behind_by f s avoided _ (IsBehind.OnEdge to l) = inl (record { to = to; is = refl; listed = l })
behind_by f s avoided x (IsBehind.Later _ r own comes none) =
    inr (record { first = r; is_first = own; comes = comes; is_not_in_end = none })

abbrev on_from : Spot → ℕ
on_from (Spot.At p) = 0
on_from (Spot.On from to) = from

module _ (f : Function) (keeps : KeepsEdges f) where
  abbrev g : Function
  g = with_edge_blocks f

  -- ---- paths from where a suspend's edges lead

  module _ (besides avoids : List Point) (both : AreAvoidedToo (moved f) avoids besides) where
    comes_home : (q r p : Point) → GoesTo g (moved f) q r → Comes g besides r (moved f p) → Comes f avoids q p
    comes_home q r p (inl e) (inl s) = inl (moved_apart f q p (sym e ∙ s))
    comes_home q r p (inl e) (inr a) = inr (
      sym (both.moved q) ∙ ap (has_point besides) (sym e) ∙ a.0,
      leads_home f g (moved f) (ways f keeps) avoids besides both q p
          (subst (λ (z : Point). Leads g besides z (moved f p)) e a.1),
    )
    comes_home q r p (inr i) (inl s) = absurd (i.apart p s)
    comes_home q r p (inr i) (inr a) = ahead_home f g (moved f) (ways f keeps) avoids besides both r q p i.next a.1

  -- ---- one of a suspend's edges

  module _ (s : Point) (b : Block) (got : slice_get f.blocks s.block ≡ Some b) (switch : IsSwitch b.term) where
    -- where the edge of a number leads, and led
    abbrev label : ℕ → ℕ
    label n = label_at n (slice_get f.blocks s.block)

    abbrev label_now : ℕ → ℕ
    label_now n = label_at n (slice_get g.blocks (spot f s.block))

    record IsOwnEdge (r : Point) : Type 0 where
      number : ℕ
      now : r ≡ entry_point g (label_now number)
      first : has_point (own_edges f s) (entry_point f (label number)) ≡ true
      listed : IsListed (position_of f (label number)) (own_blocks f s)

    own_edge : (r : Point) → has_point (own_edges g (moved f s)) r ≡ true → IsOwnEdge r
    own_edge r h = ⊎_elim resumes
        (λ (k : (same_point r (entry_point g (label_now 1)) || false) ≡ true).
        ⊎_elim destroys (λ (e : false ≡ true). absurd (cc)) (either (same_point r (entry_point g (label_now 1))) false k))
        (either (same_point r (entry_point g (label_now 0))) (same_point r (entry_point g (label_now 1)) || false) h)
      where
        resumes : same_point r (entry_point g (label_now 0)) ≡ true → IsOwnEdge r
        resumes e = record {
          number = 0;
          now = same_point-same r (entry_point g (label_now 0)) e;
          first = or_left (same_point (entry_point f (label 0)) (entry_point f (label 0)))
              (same_point (entry_point f (label 0)) (entry_point f (label 1)) || false)
              (same_point-itself (entry_point f (label 0)));
          listed = inl refl;
        }

        destroys : same_point r (entry_point g (label_now 1)) ≡ true → IsOwnEdge r
        destroys e = record {
          number = 1;
          now = same_point-same r (entry_point g (label_now 1)) e;
          first = or_right (same_point (entry_point f (label 1)) (entry_point f (label 0)))
              (same_point (entry_point f (label 1)) (entry_point f (label 1)) || false)
              (or_left (same_point (entry_point f (label 1)) (entry_point f (label 1))) false
              (same_point-itself (entry_point f (label 1))));
          listed = inr (inl refl);
        }

    goes : (n : ℕ) → GoesTo g (moved f) (entry_point f (label n)) (entry_point g (label_now n))
    goes n = number_leads f keeps.labels n s b got

    label_is : (n : ℕ) → label n ≡ label_of_term n b.term
    label_is n = ap (label_at n) got

    now_is : (n : ℕ) → label_now n ≡ label_of_term n (own_block f s.block b).term
    now_is n = ap (label_at n) (own_there f s.block b got)

    -- where it is the block of an edge, that edge is the suspend's
    record IsOwnOf (x : EdgeAt f keeps) : Type 0 where
      index : x.index ≡ s.block
      listed : IsListed (target_of f keeps x) (own_blocks f s)

    own_front : (x : EdgeAt f keeps) (r : Point) → IsOwnEdge r → r ≡ edge_front f keeps x → IsOwnOf x
    own_front x r o e = on (switch_split (phi_flags f) b.label (ends_in_suspend b.instrs) o.number (own_number f s.block) b.term switch)
      where
        n : ℕ
        n = o.number

        to : edge_front f keeps x ≡ entry_point g (label_of_term n (own_block f s.block b).term)
        to = sym e ∙ o.now ∙ ap (entry_point g) (now_is n)

        on : IsSplit (phi_flags f) b.label (edges_of_block f s.block b) (label_of_term n b.term)
            (label_of_term n (own_block f s.block b).term) → IsOwnOf x
        on (inl d) = absurd (front_apart f keeps x (entry_point f (label_of_term n b.term))
            (to ∙ ap (entry_point g) d.0
            ∙ entry_moved f (label_of_term n b.term) (target_low f keeps.labels s.block b (label_of_term n b.term) got
            (switch_target n b.term switch))))
        on (inr among) =
            let d : Edge = record {
              from = b.label;
              target = label_of_term n b.term;
              label = label_of_term n (own_block f s.block b).term;
            } in
            let at = position_edge f keeps.labels s.block b among.at d got among.got in
            let same = same_edge f keeps x s.block b among.at d got among.got (ap (λ (q : Point). q.block) to ∙ at) in
            record {
              index = same.index;
              listed = subst (λ (t : ℕ). IsListed (position_of f t) (own_blocks f s))
                  (label_is n ∙ sym (ap (λ (y : Edge). y.target) same.edge)) o.listed;
            }

    -- ---- behind it

    module _ (avoids besides : List Point) (both : AreAvoidedToo (moved f) avoids besides) where
      abbrev ends_now : List Point
      ends_now = besides ++ end_points g

      abbrev ends_then : List Point
      ends_then = avoids ++ end_points f

      all : AreAvoidedToo (moved f) (avoids ++ end_points f) (besides ++ end_points g)
      all = both_avoided (moved f) avoids (end_points f) besides (end_points g) both (ends_avoided f)

      at_point : (p : Point) → IsBehindLater g (moved f s) besides (Spot.At (moved f p)) → IsBehind f s avoids (Spot.At p)
      at_point p l =
          let o = own_edge l.first l.is_first in
          IsBehind.Later (Spot.At p) (entry_point f (label o.number)) o.first
          (comes_home ends_now ends_then all (entry_point f (label o.number)) l.first p
          (subst (GoesTo g (moved f) (entry_point f (label o.number))) (sym o.now) (goes o.number)) l.comes)
          (sym ((ends_avoided f).moved p) ∙ l.is_not_in_end)

      module _ (x : EdgeAt f keeps) where
        abbrev then : Spot
        then = Spot.On x.index (target_of f keeps x)

        abbrev last : Point
        last = moved f (end_before f keeps x)

        on_path : (r : Point) → IsOwnEdge r → has_point ends_now last ≡ false → Comes g ends_now r last
            → IsBehind f s avoids then
        on_path r o none comes =
            let before : has_point ends_then (end_before f keeps x) ≡ false =
            sym (all.moved (end_before f keeps x)) ∙ none in
            IsBehind.Later then (entry_point f (label o.number)) o.first
            (subst (Comes f ends_then (entry_point f (label o.number))) (sym (before_is f keeps x))
            (comes_home ends_now ends_then all (entry_point f (label o.number)) r (end_before f keeps x)
            (subst (GoesTo g (moved f) (entry_point f (label o.number))) (sym o.now) (goes o.number)) comes))
            (subst (λ (p : Point). has_point (end_points f) p ≡ false) (sym (before_is f keeps x))
            (second_none avoids (end_points f) (end_before f keeps x) before))

        on_edge : (r : Point) → has_point (own_edges g (moved f s)) r ≡ true → Comes g ends_now r (edge_front f keeps x)
            → IsBehind f s avoids then
        on_edge r h (inl e) =
            let o = own_front x r (own_edge r h) e in
            subst (λ (k : ℕ). IsBehind f s avoids (Spot.On k (target_of f keeps x))) (sym o.index)
            (IsBehind.OnEdge (target_of f keeps x) o.listed)
        on_edge r h (inr a) = on (comes_by f keeps x ends_now r a.1).way
          where
            on : (r ≡ last) ⊎ ((has_point ends_now last ≡ false) × Leads g ends_now r last) → IsBehind f s avoids then
            on (inl e) = on_path r (own_edge r h) (sym (ap (has_point ends_now) e) ∙ a.0) (inl e)
            on (inr y) = on_path r (own_edge r h) y.0 (inr (a.0, y.1))

      behind_home : (x y : Spot) → Stood f keeps x y → IsBehind g (moved f s) besides x → IsBehind f s avoids y
      behind_home x y (inl m) h = subst (IsBehind f s avoids) (sym m.to) (⊎_elim
          (λ (d : IsBehindEdge g (moved f s) x). let no : Spot.At (moved f m.point) ≡ Spot.On (spot f s.block) d.to = sym m.from ∙ d.is in absurd (cc))
          (λ (l : IsBehindLater g (moved f s) besides x). at_point m.point (subst (IsBehindLater g (moved f s) besides) m.from l))
          (behind_by g (moved f s) besides x h))
      behind_home x y (inr e) h = subst (IsBehind f s avoids) (sym e.to) (⊎_elim
          (λ (d : IsBehindEdge g (moved f s) x).
          let a : EdgeAt f keeps = e.edge in
          let same : spot f s.block ≡ spot_of f keeps a = ap on_from (sym d.is ∙ e.from) in
          absurd (spots_no_edge f keeps.labels a.index a.block a.position a.edge a.got a.there s.block same))
          (λ (l : IsBehindLater g (moved f s) besides x).
          on_edge e.edge l.first l.is_first
          (subst (Comes g (besides ++ end_points g) l.first) (end_is f keeps e.edge)
          (subst (λ (z : Spot). Comes g (besides ++ end_points g) l.first (point_at g z)) e.from l.comes)))
          (behind_by g (moved f s) besides x h))

  -- ---- suspends

  record IsSuspend (s : Point) : Type 0 where
    point : Point
    is : s ≡ moved f point
    there : has_point (suspends f) point ≡ true
    block : Block
    got : slice_get f.blocks point.block ≡ Some block
    switch : IsSwitch block.term

  suspend_home : (s : Point) → has_point (suspends g) s ≡ true → IsSuspend s
  suspend_home s h = on (slice_get f.blocks x.point.block) refl
    where
      x : IsMovedTo f keeps.labels (is_call_of Intrinsic.CoroSuspend) s
      x = from_where f keeps.labels (is_call_of Intrinsic.CoroSuspend) s h

      y : IsPassed (is_call_of Intrinsic.CoroSuspend) f x.point
      y = passed (is_call_of Intrinsic.CoroSuspend) f x.point x.there

      on : (o : Option Block) → slice_get f.blocks x.point.block ≡ o → IsSuspend s
      on Option.None e =
          let none : Option.None ≡ Some y.instr = sym (ap (λ (o : Option Block). instr_in o x.point.at) e) ∙ y.is in
          absurd (cc)
      on (Some b) e = record {
        point = x.point;
        is = x.is;
        there = x.there;
        block = b;
        got = e;
        switch = keeps.switches x.point b y.instr y.is y.passes_it e;
      }

  behind_suspend : (avoids besides : List Point) → AreAvoidedToo (moved f) avoids besides → (s : Point) (h : IsSuspend s)
      → (x y : Spot) → Stood f keeps x y → IsBehind g s besides x → IsBehind f h.point avoids y
  behind_suspend avoids besides both s h x y stood behind =
      behind_home h.point h.block h.got h.switch avoids besides both x y stood
      (subst (λ (p : Point). IsBehind g p besides x) h.is behind)

  -- ---- the frame

  module _ (v : ℕ) where
    away_home : IsUsedAway g v → IsUsedAway f v
    away_home u =
        let early = use_home f keeps v u.early u.is_use in
        let late = touch_home f keeps v u.late u.touches in
        let s = suspend_home u.suspend u.is_suspend in
        record {
          early = early.spot;
          is_use = early.is;
          is_away = stood_closed f keeps u.early early.spot early.stood u.is_away;
          suspend = s.point;
          is_suspend = s.there;
          late = late.spot;
          touches = late.is;
          is_behind = behind_suspend [] [] (nothing f keeps.labels) u.suspend s u.late late.spot late.stood u.is_behind;
        }

    parting_avoided : AreAvoidedToo (moved f) (parting (is_escaped f v) f v) (parting (is_escaped g v) g v)
    parting_avoided = subst (λ (b : Bool). AreAvoidedToo (moved f) (parting (is_escaped f v) f v) (parting b g v))
        (sym (escaped_same f keeps v)) (on (is_escaped f v))
      where
        on : (b : Bool) → AreAvoidedToo (moved f) (parting b f v) (parting b g v)
        on true = nothing f keeps.labels
        on false = avoided f keeps.labels (is_marker_of Intrinsic.LifetimeStart v)

    across_home : IsUsedAcross g v → IsUsedAcross f v
    across_home u =
        let early = use_home f keeps v u.early u.is_use in
        let late = touch_home f keeps v u.late u.touches in
        let s = suspend_home u.suspend u.is_suspend in
        let parts = parting (is_escaped f v) f v in
        let parts_now = parting (is_escaped g v) g v in
        record {
          early = early.spot;
          is_use = early.is;
          suspend = s.point;
          is_suspend = s.there;
          comes = stood_leads f keeps parts parts_now parting_avoided u.early early.spot early.stood s.point
              (subst (λ (p : Point). LeadsFrom g parts_now u.early p) s.is u.comes);
          late = late.spot;
          touches = late.is;
          is_behind = behind_suspend parts parts_now parting_avoided u.suspend s u.late late.spot late.stood u.is_behind;
        }

    alive_home : IsAliveAcross g v → IsAliveAcross f v
    alive_home u =
        let spot = use_home f keeps v u.spot u.is_use in
        let s = suspend_home u.suspend u.is_suspend in
        record {
          is_escaped = sym (escaped_same f keeps v) ∙ u.is_escaped;
          suspend = s.point;
          is_suspend = s.there;
          is_alive = (alive_stays f keeps.labels v s.point).1 (subst (MayBeAlive g v) s.is u.is_alive);
          spot = spot.spot;
          is_use = spot.is;
          meets = ⊎_elim
              (λ (l : LeadsFrom g [] u.spot u.suspend).
              inl (stood_leads f keeps [] [] (nothing f keeps.labels) u.spot spot.spot spot.stood s.point
              (subst (LeadsFrom g [] u.spot) s.is l)))
              (λ (a : IsAfterEnd g (point_at g u.spot)). inr (stood_after f keeps u.spot spot.spot spot.stood a))
              u.meets;
        }

    pub needs_home : NeedsFrame (with_edge_blocks f) v → NeedsFrame f v
    needs_home (NeedsFrame.Promise e) =
        NeedsFrame.Promise (ap (λ (o : Option ℕ). has_name (option_to_list o) v) (sym (same_promise f)) ∙ e)
    needs_home (NeedsFrame.Away u) = NeedsFrame.Away (away_home u)
    needs_home (NeedsFrame.Across u) = NeedsFrame.Across (across_home u)
    needs_home (NeedsFrame.Alive u) = NeedsFrame.Alive (alive_home u)
