-- Where edges of a coroutine have blocks: which paths lead to those blocks, and where what is used stood before.
use Rattle.std.proofs.Common.{◌≡◌, ◌⊎◌, inl, inr, ⊎_elim, ℕ, suc, ◌+◌, ◌<◌, Bool, true, false, List, [], ◌∷◌, ◌++◌, length, Option, Some, None, if◌then◌else◌, refl, sym, ap, ◌∙◌, subst, arith}
use Rattle.std.proofs.lemmas.Option.{slice_get_past, slice_get_within}
use Rattle.std.specs.Prelude.{map, nat_lt, slice_get, ◌||◌, ◌==◌}
use Rattle.pass_proofs.proofs.flow_solver.Lists.{listed_at, place_of}
use Rattle.pass_proofs.specs.flow_solver.Paths.{IsListed}
use Rattle.pass_proofs.specs.frame_classes.Classes.{Touches}
use Rattle.pass_proofs.specs.frame_crossing.EdgeUses.{IsUsedOn}
use Rattle.pass_proofs.specs.frame_slots.Spots.{IsStart, IsUse, LeadsFrom, Spot, UsesIn, point_at}
use Rattle.pass_proofs.specs.frame_slots.Uses.{UsesAt, is_marker_of}
use Rattle.pass_proofs.proofs.ir_laws.facts.Numbers.{IsTakenBy}
use Rattle.pass_proofs.proofs.ir_laws.paths.alike_slots.Strands.{leads_at}
use Rattle.pass_proofs.proofs.ir_laws.paths.expanded.Strands.{leads_on}
use Rattle.pass_proofs.proofs.ir_laws.paths.path_rules.SavedWindows.{neither}
use Rattle.pass_proofs.proofs.ir_laws.paths.threads.Edges.{only_one}
use Rattle.pass_proofs.proofs.ir_laws.paths.threads.Threads.{leads_home}
use Rattle.pass_proofs.specs.ir_laws.paths.threads.Threads.{AreAvoidedToo}
use Rattle.pass_proofs.specs.ir_model.Names.{position_of}
use Rattle.pass_proofs.specs.ir_model.declared.instr.Incoming.{Incoming}
use Rattle.pass_proofs.specs.ir_model.declared.instr.Instr.{Instr}
use Rattle.pass_proofs.specs.ir_model.declared.instr.Phi.{Phi}
use Rattle.pass_proofs.specs.ir_model.declared.module.Block.{Block}
use Rattle.pass_proofs.specs.ir_model.declared.module.Function.{Function}
use Rattle.pass_proofs.specs.ir_model.declared.operand.Intrinsic.{Intrinsic}
use Rattle.pass_proofs.specs.ir_model.declared.operand.Operand.{Operand}
use Rattle.pass_proofs.proofs.ir_paths.Search.{Has, eq_from}
use Rattle.pass_proofs.specs.ir_paths.Paths.{IsPath, Leads, entry_point, has_point, nexts, nexts_in, same_point, targets}
use Rattle.pass_proofs.specs.ir_paths.Slots.{addresses_of, has_name, is_escaped, occurs_in_term}
use Rattle.pass_proofs.specs.ir_paths.Windows.{IsInWindow, instr_at, instr_in}
use Rattle.pass_proofs.specs.ir_paths.declared.point.Point.{Point}
use Rattle.pass_proofs.specs.pass_edges.EdgeBlocks.{edge_block, split_phi, with_edge_blocks}
use Rattle.pass_proofs.specs.pass_edges.Edges.{edges_at, ends_in_suspend, phi_flags}
use Rattle.pass_proofs.specs.pass_edges.declared.edge.Edge.{Edge}
use Rattle.pass_proofs.proofs.pass_kept_proof.Rules.{suspend_is_suspend}
use Rattle.pass_proofs.proofs.early.path_rules.Marked.{some_window, window_some}
use Rattle.pass_proofs.proofs.early.save_simulation.Suspending.{fetch_at}
use Rattle.pass_proofs.proofs.edges.paths.Blocks.{entry_moved, own_number, position_edge, spot}
use Rattle.pass_proofs.proofs.edges.paths.Edges.{LegTo, edge_apart, edges_of_block, leg_to, legs_of_block, moved_apart, moved_nexts, new_term, target_named}
use Rattle.pass_proofs.proofs.edges.paths.Slots.{same_addresses, same_escaped, term_occurs}
use Rattle.pass_proofs.proofs.edges.paths.Windows.{differ, instr_moved}
use Rattle.pass_proofs.proofs.edges.rules.Alive.{from_where}
use Rattle.pass_proofs.proofs.edges.rules.EdgeUses.{WasUsed, used_home}
use Rattle.pass_proofs.proofs.edges.rules.Homes.{IsEdge, IsOwn, edge_spots, edge_target, edge_there, home, target_low}
use Rattle.pass_proofs.proofs.kept.sources.EdgeWindows.{IsMovedFrom, instr_from, ways}
use Rattle.pass_proofs.specs.edges.paths.Labels.{IsSplit}
use Rattle.pass_proofs.specs.edges.paths.Spots.{moved, table_of}
use Rattle.pass_proofs.specs.edges.states.MovedState.{KeepsEdges}
use Rattle.pass_proofs.proofs.rule_laws.frames.alike_slots.Tests.{passed}
use Rattle.pass_proofs.proofs.rule_laws.frames.rows.EdgeUses.{taken_by, used_on}
use Rattle.pass_proofs.proofs.rule_laws.rules.sources.Places.{instr_there, point}
use Rattle.pass_proofs.specs.rule_slots.Closed.{IsClosed}
use Rattle.pass_proofs.specs.rule_slots.Early.{end_at, instr_count}
use Rattle.pass_proofs.specs.rule_uses.Uses.{local_of}
use Rattle.pass_proofs.specs.rule_window_values.Kept.{TakesFrom, front, phis_in}
use Rattle.pass_proofs.specs.rule_windows.Sets.{IsAfterEnd}
use Rattle.run_accepted.proofs.Edges.{after_home, closed_home}

local_is : (x : Operand) (v : ℕ) → local_of x ≡ Some v → x ≡ Operand.Local v
local_is (Operand.Local w) v e = let same : w ≡ v = cc in ap Operand.Local same
local_is _ v e = absurd (cc)

-- what a phi takes is used on the edge, and the other way round
takes_on : (h : Function) (v from to : ℕ) → TakesFrom h v from to → IsUsedOn h v from to
takes_on h v from to t = on (slice_get h.blocks to) refl t.stands
  where
    on : (o : Option Block) → slice_get h.blocks to ≡ o → IsListed t.phi (phis_in o) → IsUsedOn h v from to
    on None e l = absurd l
    on (Some b) e l =
        let x = place_of b.phis t.phi l in
        let y = place_of t.phi.incoming t.incoming t.comes in
        used_on h v from to (record {
          block = b;
          got = e;
          at = x.0;
          phi = t.phi;
          stands = x.1;
          index = y.0;
          incoming = t.incoming;
          there = y.1;
          source = t.is_from;
          value = local_is t.incoming.value v t.takes;
        })

on_takes : (h : Function) (v from to : ℕ) → IsUsedOn h v from to → TakesFrom h v from to
on_takes h v from to l =
    let x = taken_by h v from to l in
    record {
      phi = x.phi;
      incoming = x.incoming;
      stands = subst (λ (o : Option Block). IsListed x.phi (phis_in o)) (sym x.got) (listed_at x.block.phis x.at x.phi x.stands);
      comes = listed_at x.phi.incoming x.index x.incoming x.there;
      is_from = x.source;
      takes = ap local_of x.value;
    }

module _ (f : Function) (keeps : KeepsEdges f) where
  abbrev g : Function
  g = with_edge_blocks f

  -- an edge that has a block
  pub record EdgeAt : Type 0 where
    pub index : ℕ
    pub block : Block
    pub got : slice_get f.blocks index ≡ Some block
    pub position : ℕ
    pub edge : Edge
    pub there : slice_get (edges_of_block f index block) position ≡ Some edge

  -- the position of its block
  abbrev pub spot_of : EdgeAt → ℕ
  spot_of x = spot f x.index + suc x.position

  -- where it leads in the function
  abbrev pub target_of : EdgeAt → ℕ
  target_of x = position_of f x.edge.target

  -- the one point of its block, and the end of the block from which it comes
  abbrev pub edge_front : EdgeAt → Point
  edge_front x = front (spot_of x)

  abbrev pub end_before : EdgeAt → Point
  end_before x = record { block = x.index; at = length x.block.instrs }

  entry_is : (x : EdgeAt) → entry_point g x.edge.label ≡ edge_front x
  entry_is x = ap (λ (n : ℕ). front n) (position_edge f keeps.labels x.index x.block x.position x.edge x.got x.there)

  -- it is no point of the function
  pub front_apart : (x : EdgeAt) (p : Point) → edge_front x ≡ moved f p → ⊥
  front_apart x p e = edge_apart f keeps.labels x.index x.block x.position x.edge x.got x.there p (entry_is x ∙ e)

  pub target_moved : (x : EdgeAt) → entry_point g x.edge.target ≡ moved f (entry_point f x.edge.target)
  target_moved x = entry_moved f x.edge.target
      (target_low f keeps.labels x.index x.block x.edge.target x.got
      (edge_target f x.index x.block x.position x.edge x.there))

  pub end_is : (x : EdgeAt) → end_at g (spot_of x) ≡ edge_front x
  end_is x = ap (λ (o : Option Block). record { block = spot_of x; at = instr_count o })
      (edge_there f x.index x.block x.position x.edge x.got x.there)

  pub before_is : (x : EdgeAt) → end_at f x.index ≡ end_before x
  before_is x = ap (λ (o : Option Block). record { block = x.index; at = instr_count o }) x.got

  -- one block is that of one edge
  pub record IsSameEdge (x : EdgeAt) (k : ℕ) (e : Edge) : Type 0 where
    pub index : x.index ≡ k
    pub edge : x.edge ≡ e

  pub same_edge : (x : EdgeAt) (k : ℕ) (b : Block) (i : ℕ) (e : Edge) → slice_get f.blocks k ≡ Some b
      → slice_get (edges_of_block f k b) i ≡ Some e → spot_of x ≡ spot f k + suc i → IsSameEdge x k e
  same_edge x k b i e got there same =
      let index : x.index ≡ k = edge_spots f x.index k x.block b x.position i x.edge e x.got x.there got there same in
      let spots : spot f x.index ≡ spot f k = ap (spot f) index in
      let position : x.position ≡ i = omega (arith, same, spots) in
      let both : Some x.block ≡ Some b = sym x.got ∙ ap (slice_get f.blocks) index ∙ got in
      let block : x.block ≡ b = cc in
      let edges : Some x.edge ≡ Some e =
      sym x.there ∙ (λ j. slice_get (edges_of_block f (index j) (block j)) (position j)) ∙ there in
      record { index = index; edge = cc }

  -- ---- what leads to an edge's block

  module _ (x : EdgeAt) where
    -- from a block of the function
    module _ (p : Point) (b : Block) (got : slice_get f.blocks p.block ≡ Some b) where
      from_leg : (p.at == length b.instrs) ≡ true → LegTo f p.block b (targets b.term) (new_term f p.block b) (edge_front x)
          → p ≡ end_before x
      from_leg last l = on l.leg.split
        where
          on : IsSplit (phi_flags f) b.label (edges_of_block f p.block b) l.leg.target l.leg.label → p ≡ end_before x
          on (inl d) = absurd (front_apart x (entry_point f l.leg.target)
              (l.leg.to ∙ ap (entry_point g) d.0 ∙ entry_moved f l.leg.target l.leg.below))
          on (inr among) =
              let e : Edge = record { from = b.label; target = l.leg.target; label = l.leg.label } in
              let at = position_edge f keeps.labels p.block b among.at e got among.got in
              let same = same_edge x p.block b among.at e got among.got (ap (λ (q : Point). q.block) l.leg.to ∙ at) in
              let both : Some x.block ≡ Some b = sym x.got ∙ ap (slice_get f.blocks) same.index ∙ got in
              let block : x.block ≡ b = cc in
              let end : p.at ≡ length x.block.instrs =
              eq_from p.at (length b.instrs) last ∙ ap (λ (c : Block). length c.instrs) (sym block) in
              (λ j. record { block = sym same.index j; at = end j })

      from_own : (s t : Bool) → (p.at == length b.instrs) ≡ t
          → Has (if s then record { block = spot f p.block; at = p.at + 1 } ∷ []
          else if t then map (entry_point g) (new_term f p.block b) else []) (edge_front x) → p ≡ end_before x
      from_own true t e h =
          let same = only_one (record { block = spot f p.block; at = p.at + 1 }) (edge_front x) h in
          let at : 0 ≡ p.at + 1 = ap (λ (q : Point). q.at) same in
          absurd (omega (arith, at))
      from_own false true e h = from_leg e (leg_to f p.block b (targets b.term) (new_term f p.block b)
          (target_named f keeps.labels p.block b got) (legs_of_block f p.block b) (edge_front x) h)
      from_own false false e h = absurd (cc)

      own_into : Has (nexts g (moved f p)) (edge_front x) → p ≡ end_before x
      own_into h = from_own (nat_lt p.at (length b.instrs)) (p.at == length b.instrs) refl
          (subst (λ (qs : List Point). Has qs (edge_front x)) (moved_nexts f p b got) h)

    -- from the block of an edge
    from_edge : (z : Point) (y : EdgeAt) (s t : Bool)
        → Has (if s then record { block = z.block; at = z.at + 1 } ∷ []
        else if t then entry_point g y.edge.target ∷ [] else []) (edge_front x) → ⊥
    from_edge z y true t h =
        let same = only_one (record { block = z.block; at = z.at + 1 }) (edge_front x) h in
        let at : 0 ≡ z.at + 1 = ap (λ (q : Point). q.at) same in
        absurd (omega (arith, at))
    from_edge z y false true h = front_apart x (entry_point f y.edge.target)
        (only_one (entry_point g y.edge.target) (edge_front x) h ∙ target_moved y)
    from_edge z y false false h = absurd (cc)

    -- only the end of the block from which the edge comes
    into : (z : Point) → Has (nexts g z) (edge_front x) → z ≡ moved f (end_before x)
    into z h = on (slice_get g.blocks z.block) refl
      where
        on : (o : Option Block) → slice_get g.blocks z.block ≡ o → z ≡ moved f (end_before x)
        on None e =
            let none : Has [] (edge_front x) = sym (ap (λ (o : Option Block). has_point (nexts_in g z o) (edge_front x)) e) ∙ h in
            absurd (cc)
        on (Some c) e = ⊎_elim own edge (home f z.block c e)
          where
            own : IsOwn f z.block c → z ≡ moved f (end_before x)
            own y =
                let p : Point = point y.index z.at in
                let same : z ≡ moved f p = (λ j. point (y.stands j) z.at) in
                same ∙ ap (moved f) (own_into p y.block y.got (subst (λ (q : Point). Has (nexts g q) (edge_front x)) same h))

            edge : IsEdge f z.block c → z ≡ moved f (end_before x)
            edge y =
                let is : slice_get g.blocks z.block ≡ Some (edge_block y.edge) = e ∙ ap (λ (d : Block). Some d) y.is in
                absurd (from_edge z (record {
                  index = y.index;
                  block = y.block;
                  got = y.got;
                  position = y.position;
                  edge = y.edge;
                  there = y.there;
                }) (nat_lt z.at 0) (z.at == 0)
                (sym (ap (λ (o : Option Block). has_point (nexts_in g z o) (edge_front x)) is) ∙ h))

    -- a path that comes to an edge's block
    pub record ComesBy (avoided : List Point) (p : Point) : Type 0 where
      pub edge : Has (nexts g (moved f (end_before x))) (edge_front x)
      pub way : (p ≡ moved f (end_before x)) ⊎ ((has_point avoided (moved f (end_before x)) ≡ false)
          × Leads g avoided p (moved f (end_before x)))

    pub comes_by : (avoided : List Point) (p : Point) → Leads g avoided p (edge_front x) → ComesBy avoided p
    comes_by avoided p l = along l.between p l.is_path
      where
        last : Point
        last = moved f (end_before x)

        along : (between : List Point) (q : Point) → IsPath g avoided q between (edge_front x) → ComesBy avoided q
        along [] q h =
            let same = into q h in
            record { edge = subst (λ (z : Point). Has (nexts g z) (edge_front x)) same h; way = inl same }
        along (v ∷ between) q h =
            let again = along between v h.2 in
            record { edge = again.edge; way = inr (on again.way) }
          where
            on : (v ≡ last) ⊎ ((has_point avoided last ≡ false) × Leads g avoided v last)
                → (has_point avoided last ≡ false) × Leads g avoided q last
            on (inl e) = (
              subst (λ (z : Point). has_point avoided z ≡ false) e h.1,
              leads_at g avoided q last (subst (λ (z : Point). Has (nexts g q) z) e h.0),
            )
            on (inr r) = (r.0, leads_on g avoided q v last h.0 h.1 r.1)

    -- no instruction stands at the end of a block
    no_instr : (p : Point) (i : Instr) → instr_at g p ≡ Some i → p ≡ moved f (end_before x) → ⊥
    no_instr p i e same =
        let none : instr_at f (end_before x) ≡ None =
        ap (λ (o : Option Block). instr_in o (length x.block.instrs)) x.got
        ∙ slice_get_past x.block.instrs (length x.block.instrs) (omega arith) in
        let some : None ≡ Some i = sym none ∙ sym (instr_moved f (end_before x)) ∙ ap (instr_at g) (sym same) ∙ e in
        absurd (cc)

    -- ---- closed places

    after_before : IsAfterEnd g (edge_front x) → IsAfterEnd g (moved f (end_before x))
    after_before a = on (comes_by [] a.start a.path).way
      where
        on : (a.start ≡ moved f (end_before x)) ⊎ ((has_point [] (moved f (end_before x)) ≡ false)
            × Leads g [] a.start (moved f (end_before x))) → IsAfterEnd g (moved f (end_before x))
        on (inl e) = let y = passed _ g a.start a.is_start in absurd (no_instr a.start y.instr y.is e)
        on (inr r) = record { start = a.start; is_start = a.is_start; path = r.1 }

    window_before : (k s : Point) (i j : Instr) → instr_at g k ≡ Some i → instr_at g s ≡ Some j
        → IsInWindow g k s (edge_front x) → IsInWindow g k s (moved f (end_before x))
    window_before k s i j save suspend w = record {
      is_not_save = differ k last (λ e. no_instr k i save (sym e));
      is_not_suspend = differ s last (λ e. no_instr s j suspend (sym e));
      from_save = on y.way;
      to_suspend = leads_on g (k ∷ s ∷ []) last (edge_front x) s y.edge
          (neither k s (edge_front x) w.is_not_save w.is_not_suspend) w.to_suspend;
    }
      where
        last : Point
        last = moved f (end_before x)

        y : ComesBy (k ∷ s ∷ []) k
        y = comes_by (k ∷ s ∷ []) k w.from_save

        on : (k ≡ last) ⊎ ((has_point (k ∷ s ∷ []) last ≡ false) × Leads g (k ∷ s ∷ []) k last)
            → Leads g (k ∷ s ∷ []) k last
        on (inl e) = absurd (no_instr k i save e)
        on (inr r) = r.1

    closed_before : IsClosed g (edge_front x) → IsClosed g (moved f (end_before x))
    closed_before (inl a) = inl (after_before a)
    closed_before (inr w) =
        let y = some_window g (edge_front x) w in
        let save = passed _ g y.save y.stands in
        let c = suspend_is_suspend g y.save y.suspend y.is_suspend in
        inr (window_some g (moved f (end_before x)) y.save y.suspend y.stands y.is_suspend
        (window_before y.save y.suspend save.instr c.instr save.is
        (instr_there g y.suspend.block y.suspend.at c.instr c.stands) y.inside))

    pub closed_edge : IsClosed g (edge_front x) → IsClosed f (end_before x)
    closed_edge c = closed_home f keeps (end_before x) (closed_before c)

    pub after_edge : IsAfterEnd g (edge_front x) → IsAfterEnd f (end_before x)
    after_edge a = after_home f keeps (end_before x) (after_before a)

  -- ---- what stood where

  -- at a point that is moved
  pub record IsMovedSpot (x y : Spot) : Type 0 where
    pub point : Point
    pub from : x ≡ Spot.At (moved f point)
    pub to : y ≡ Spot.At point

  -- on the edge out of an edge's block what stood on the edge
  pub record IsEdgeSpot (x y : Spot) : Type 0 where
    pub edge : EdgeAt
    pub from : x ≡ Spot.On (spot_of edge) (spot f (target_of edge))
    pub to : y ≡ Spot.On edge.index (target_of edge)

  abbrev pub Stood : Spot → Spot → Type 0
  Stood x y = IsMovedSpot x y ⊎ IsEdgeSpot x y

  pub stood_closed : (x y : Spot) → Stood x y → IsClosed g (point_at g x) → IsClosed f (point_at f y)
  stood_closed x y (inl m) c =
      subst (λ (z : Spot). IsClosed f (point_at f z)) (sym m.to)
      (closed_home f keeps m.point (subst (λ (z : Spot). IsClosed g (point_at g z)) m.from c))
  stood_closed x y (inr d) c =
      subst (λ (z : Spot). IsClosed f (point_at f z)) (sym d.to)
      (subst (IsClosed f) (sym (before_is d.edge)) (closed_edge d.edge
      (subst (IsClosed g) (end_is d.edge) (subst (λ (z : Spot). IsClosed g (point_at g z)) d.from c))))

  pub stood_after : (x y : Spot) → Stood x y → IsAfterEnd g (point_at g x) → IsAfterEnd f (point_at f y)
  stood_after x y (inl m) a =
      subst (λ (z : Spot). IsAfterEnd f (point_at f z)) (sym m.to)
      (after_home f keeps m.point (subst (λ (z : Spot). IsAfterEnd g (point_at g z)) m.from a))
  stood_after x y (inr d) a =
      subst (λ (z : Spot). IsAfterEnd f (point_at f z)) (sym d.to)
      (subst (IsAfterEnd f) (sym (before_is d.edge)) (after_edge d.edge
      (subst (IsAfterEnd g) (end_is d.edge) (subst (λ (z : Spot). IsAfterEnd g (point_at g z)) d.from a))))

  pub stood_leads : (avoided besides : List Point) → AreAvoidedToo (moved f) avoided besides → (x y : Spot) → Stood x y
      → (q : Point) → LeadsFrom g besides x (moved f q) → LeadsFrom f avoided y q
  stood_leads avoided besides both x y (inl m) q l =
      subst (λ (z : Spot). LeadsFrom f avoided z q) (sym m.to)
      (leads_home f g (moved f) (ways f keeps) avoided besides both m.point q
      (subst (λ (z : Spot). LeadsFrom g besides z (moved f q)) m.from l))
  stood_leads avoided besides both x y (inr d) q l =
      subst (λ (z : Spot). LeadsFrom f avoided z q) (sym d.to)
      (on (subst (λ (z : Spot). LeadsFrom g besides z (moved f q)) d.from l))
    where
      to : Point
      to = front (target_of d.edge)

      on : (moved f to ≡ moved f q) ⊎ ((has_point besides (moved f to) ≡ false) × Leads g besides (moved f to) (moved f q))
          → (to ≡ q) ⊎ ((has_point avoided to ≡ false) × Leads f avoided to q)
      on (inl e) = inl (moved_apart f to q e)
      on (inr r) = inr (
        sym (both.moved to) ∙ r.0,
        leads_home f g (moved f) (ways f keeps) avoided besides both to q r.1,
      )

  -- ---- uses and starts

  module _ (v : ℕ) where
    -- something of the slot that stood somewhere
    pub record StoodAt (Is : Spot → Type 0) (x : Spot) : Type 0 where
      pub spot : Spot
      pub stood : Stood x spot
      pub is : Is spot

    uses_home : (a : ℕ) (x : Spot) → UsesIn g a x → StoodAt (UsesIn f a) x
    uses_home a (Spot.At p) (UsesAt.ByInstr i e some occurs) =
        let y = instr_from f keeps p i (fetch_at g p i e) in
        record {
          spot = Spot.At y.place;
          stood = inl (record { point = y.place; from = ap Spot.At y.is; to = refl });
          is = UsesAt.ByInstr i (sym (instr_moved f y.place) ∙ ap (instr_at g) (sym y.is) ∙ e) some occurs;
        }
    uses_home a (Spot.At p) (UsesAt.ByTerm b got last occurs) = ⊎_elim own edge (home f p.block b got)
      where
        own : IsOwn f p.block b → StoodAt (UsesIn f a) (Spot.At p)
        own y = record {
          spot = Spot.At (point y.index p.at);
          stood = inl (record {
            point = point y.index p.at;
            from = (λ j. Spot.At (point (y.stands j) p.at));
            to = refl;
          });
          is = UsesAt.ByTerm y.block y.got (last ∙ ap (λ (c : Block). length c.instrs) y.is)
              (sym (term_occurs a (phi_flags f) (ends_in_suspend y.block.instrs) (own_number f y.index) y.block.term)
              ∙ ap (λ (c : Block). occurs_in_term a c.term) (sym y.is) ∙ occurs);
        }

        edge : IsEdge f p.block b → StoodAt (UsesIn f a) (Spot.At p)
        edge y =
            let no : false ≡ true = ap (λ (c : Block). occurs_in_term a c.term) (sym y.is) ∙ occurs in
            absurd (cc)
    uses_home a (Spot.On from to) u =
        let w = used_home f keeps.labels keeps.once a from to (takes_on g a from to u.1) in
        let at : EdgeAt = record {
          index = w.index;
          block = w.block;
          got = w.got;
          position = w.position;
          edge = w.edge;
          there = w.there;
        } in
        record {
          spot = Spot.On w.index (position_of f w.edge.target);
          stood = inr (record { edge = at; from = (λ j. Spot.On (w.from j) (w.to j)); to = refl });
          is = (
            slice_get_within f.blocks w.index w.block w.got,
            on_takes f a w.index (position_of f w.edge.target) w.used,
          );
        }

    pub use_home : (x : Spot) → IsUse g v x → StoodAt (IsUse f v) x
    use_home x u =
        let y = uses_home u.address x u.uses in
        record {
          spot = y.spot;
          stood = y.stood;
          is = record {
            address = u.address;
            is_address = ap (λ (vs : List ℕ). has_name vs u.address) (sym (same_addresses f v)) ∙ u.is_address;
            uses = y.is;
          };
        }

    start_home : (x : Spot) → IsStart g v x → StoodAt (IsStart f v) x
    start_home _ (IsStart.Marked p there) =
        let y = from_where f keeps.labels (is_marker_of Intrinsic.LifetimeStart v) p there in
        record {
          spot = Spot.At y.point;
          stood = inl (record { point = y.point; from = ap Spot.At y.is; to = refl });
          is = IsStart.Marked y.point y.there;
        }

    pub escaped_same : is_escaped g v ≡ is_escaped f v
    escaped_same = same_escaped f keeps.labels keeps.once keeps.phis v

    pub touch_home : (x : Spot) → Touches g v x → StoodAt (Touches f v) x
    touch_home x (inl u) = let y = use_home x u in record { spot = y.spot; stood = y.stood; is = inl y.is }
    touch_home x (inr s) =
        let y = start_home x s.1 in
        record { spot = y.spot; stood = y.stood; is = inr (sym escaped_same ∙ s.0, y.is) }
