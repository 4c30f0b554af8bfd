-- From where edges come where edges have blocks.
use Rattle.std.proofs.Common.{◌≡◌, ◌⊎◌, inl, inr, ⊎_elim, ◌+◌, ℕ, zero, suc, false, List, [], ◌∷◌, length, refl, sym, ap, ◌∙◌, subst}
use Rattle.std.specs.Prelude.{None, Option, Some, slice_get, unwrap_or, ◌==◌}
use Rattle.elide_shape.specs.Edges.{edges_into, edges_of}
use Rattle.elide_shape.specs.declared.edges.Edge.{Edge}
use Rattle.pass_elide_edges.specs.Keeping.{HasEdge}
use Rattle.pass_elide_edges.specs.pass_elide_proof.Places.{instrs_in, instrs_of}
use Rattle.pass_elide_ready.proofs.Counted.{one_counted}
use Rattle.pass_elide_ready.proofs.EdgeRows.{edge_at, edge_listed}
use Rattle.pass_elide_ready.proofs.Entries.{ending}
use Rattle.pass_elide_edges.proofs.pass_elide_proof.pass_proofs.edges.paths.Blocks.{position_edge, position_moved, spot}
use Rattle.pass_elide_edges.proofs.pass_elide_proof.pass_proofs.edges.paths.Edges.{edges_of_block}
use Rattle.pass_elide_edges.proofs.pass_elide_proof.pass_proofs.edges.rules.Homes.{IsEdge, IsOwn, IsTarget, edge_spots, edge_target, home, spots_apart, spots_no_edge, target_home, target_low}
use Rattle.pass_elide_edges.proofs.pass_elide_proof.pass_proofs.ir_laws.facts.Truth.{itself}
use Rattle.pass_elide_edges.specs.pass_elide_proof.pass_proofs.edges.paths.Labels.{IsAmong}
use Rattle.pass_elide_edges.specs.pass_elide_proof.pass_proofs.flow_solver.Paths.{IsListed}
use Rattle.pass_elide_edges.specs.pass_elide_proof.pass_proofs.ir_laws.paths.threads.Labels.{HasNamedLabels}
use Rattle.pass_elide_edges.specs.pass_elide_proof.pass_proofs.ir_model.Names.{position_of}
use Rattle.pass_elide_edges.specs.pass_elide_proof.pass_proofs.ir_model.declared.instr.Terminator.{Terminator}
use Rattle.pass_elide_edges.specs.pass_elide_proof.pass_proofs.ir_model.declared.module.Block.{Block}
use Rattle.pass_elide_edges.specs.pass_elide_proof.pass_proofs.ir_model.declared.module.Function.{Function}
use Rattle.pass_elide_edges.specs.pass_elide_proof.pass_proofs.ir_paths.Paths.{targets}
use Rattle.pass_elide_edges.specs.pass_elide_proof.pass_proofs.pass_edges.EdgeBlocks.{with_edge_blocks}
use Rattle.pass_elide_edges.specs.pass_elide_proof.pass_proofs.pass_edges.Edges.{phi_flags}
use Rattle.pass_elide_edges.specs.pass_elide_proof.pass_proofs.pass_edges.declared.edge.Edge.{Edge as OwnEdge}
use Rattle.pass_elide_edges.specs.pass_elide_proof.pass_proofs.run_step.Step.{AtTerm, Nowhere, fetch, fetch_in}

-- ---- the block of an edge

pub record EndsSo (g : Function) (block label : ℕ) : Type 0 where
  pub own : Block
  pub there : slice_get g.blocks block ≡ Some own
  pub at : ℕ
  pub target : slice_get (targets own.term) at ≡ Some label

pub listed_at : (ts : List ℕ) (t : ℕ) → IsListed t ts → (at : ℕ) × (slice_get ts at ≡ Some t)
listed_at [] t l = absurd l
listed_at (x ∷ ts) t (inl e) = (0, ap Some (sym e))
listed_at (x ∷ ts) t (inr l) = let y = listed_at ts t l in (suc y.0, y.1)

pub ends_so : (g : Function) (block label : ℕ) → HasEdge g block label → EndsSo g block label
ends_so g block label x = on (slice_get g.blocks block) refl
  where
    on : (o : Option Block) → slice_get g.blocks block ≡ o → EndsSo g block label
    on None e =
        let none : Nowhere ≡ AtTerm x.term =
        sym (ap (λ (o : Option Block). fetch_in o (length (instrs_of g block))) e) ∙ x.stands in
        absurd (cc)
    on (Some b) e =
        let many : length (instrs_of g block) ≡ length b.instrs = ap (λ (o : Option Block). length (instrs_in o)) e in
        let both : AtTerm b.term ≡ AtTerm x.term =
        sym (ending g block b e) ∙ ap (fetch g block) (sym many) ∙ x.stands in
        let same : b.term ≡ x.term = cc in
        let y = listed_at (targets b.term) label (subst (λ (t : Terminator). IsListed label (targets t))
        (sym same) x.leads) in
        record { own = b; there = e; at = y.0; target = y.1 }

-- ---- where edges have blocks

module _ (f : Function) (named : HasNamedLabels f) where
  -- the edge comes from a block of the function, where it leads to a target, or to the block on an edge to it
  pub record ComesFromOwn (block label : ℕ) : Type 0 where
    pub index : ℕ
    pub own : Block
    pub got : slice_get f.blocks index ≡ Some own
    pub stands : block ≡ spot f index
    pub at : ℕ
    pub home : IsTarget f index own at label

  -- or from the block on one
  pub record ComesFromEdge (block label : ℕ) : Type 0 where
    pub index : ℕ
    pub own : Block
    pub got : slice_get f.blocks index ≡ Some own
    pub position : ℕ
    pub edge : OwnEdge
    pub there : slice_get (edges_of_block f index own) position ≡ Some edge
    pub stands : block ≡ spot f index + suc position
    pub to : label ≡ edge.target
    pub listed : IsListed edge.target (targets own.term)
    pub leads : position_of (with_edge_blocks f) label ≡ spot f (position_of f edge.target)

  only_one : (t label at : ℕ) → slice_get (t ∷ []) at ≡ Some label → label ≡ t
  only_one t label zero e = let same : t ≡ label = cc in sym same
  only_one t label (suc at) e = absurd (cc)

  pub comes_from : (block label : ℕ) → HasEdge (with_edge_blocks f) block label
      → ComesFromOwn block label ⊎ ComesFromEdge block label
  comes_from block label x = by (ends_so (with_edge_blocks f) block label x)
    where
      by : EndsSo (with_edge_blocks f) block label → ComesFromOwn block label ⊎ ComesFromEdge block label
      by y = ⊎_elim
          (λ (o : IsOwn f block y.own). inl (record {
            index = o.index;
            own = o.block;
            got = o.got;
            stands = o.stands;
            at = y.at;
            home = target_home f o.index o.block y.at label
                (sym (ap (λ (c : Block). slice_get (targets c.term) y.at) o.is) ∙ y.target);
          }))
          (λ (o : IsEdge f block y.own).
          let to : label ≡ o.edge.target = only_one o.edge.target label y.at
          (sym (ap (λ (c : Block). slice_get (targets c.term) y.at) o.is) ∙ y.target) in
          let listed = edge_target f o.index o.block o.position o.edge o.there in
          inr (record {
            index = o.index;
            own = o.block;
            got = o.got;
            position = o.position;
            edge = o.edge;
            there = o.there;
            stands = o.stands;
            to = to;
            listed = listed;
            leads = ap (position_of (with_edge_blocks f)) to
                ∙ position_moved f o.edge.target (target_low f named o.index o.block o.edge.target o.got listed);
          }))
          (home f block y.own y.there)

  -- where an edge from an own block leads
  pub record LandsOwn (k : ℕ) (b : Block) (label target : ℕ) : Type 0 where
    pub unflagged : unwrap_or (slice_get (phi_flags f) target) false ≡ false
    pub leads : position_of (with_edge_blocks f) label ≡ spot f (position_of f target)

  pub record LandsBetween (k : ℕ) (b : Block) (label target : ℕ) : Type 0 where
    pub position : ℕ
    pub edge : OwnEdge
    pub there : slice_get (edges_of_block f k b) position ≡ Some edge
    pub to : edge.target ≡ target
    pub leads : position_of (with_edge_blocks f) label ≡ spot f k + suc position

  pub lands : (k : ℕ) (b : Block) (at label : ℕ) → slice_get f.blocks k ≡ Some b → (h : IsTarget f k b at label)
      → LandsOwn k b label h.target ⊎ LandsBetween k b label h.target
  lands k b at label got h = ⊎_elim
      (λ (d : (label ≡ h.target) × (unwrap_or (slice_get (phi_flags f) h.target) false ≡ false)).
      inl (record {
        unflagged = d.1;
        leads = ap (position_of (with_edge_blocks f)) d.0
            ∙ position_moved f h.target (target_low f named k b h.target got (listed
            (targets b.term) at h.target h.got));
      }))
      (λ (among : IsAmong (edges_of_block f k b) (record { from = b.label; target = h.target; label = label })).
      inr (record {
        position = among.at;
        edge = record { from = b.label; target = h.target; label = label };
        there = among.got;
        to = refl;
        leads = position_edge f named k b among.at (record { from = b.label; target = h.target; label = label }) got
            among.got;
      }))
      h.split
    where
      listed : (ts : List ℕ) (at t : ℕ) → slice_get ts at ≡ Some t → IsListed t ts
      listed [] at t e = absurd (cc)
      listed (x ∷ ts) zero t e = let same : x ≡ t = cc in inl (sym same)
      listed (x ∷ ts) (suc at) t e = inr (listed ts at t e)

  -- ---- single entries

  -- the block on an edge is entered from the block of the edge
  pub into_edge : (k : ℕ) (c : Block) (i : ℕ) (e : OwnEdge) → slice_get f.blocks k ≡ Some c
      → slice_get (edges_of_block f k c) i ≡ Some e → (block label : ℕ) → HasEdge (with_edge_blocks f) block label
      → position_of (with_edge_blocks f) label ≡ spot f k + suc i → block ≡ spot f k
  into_edge k c i e got there block label edge leads = ⊎_elim own between (comes_from block label edge)
    where
      own : ComesFromOwn block label → block ≡ spot f k
      own o = ⊎_elim
          (λ (l : LandsOwn o.index o.own label o.home.target).
          absurd (spots_no_edge f named k c i e got there (position_of f o.home.target) (sym l.leads ∙ leads)))
          (λ (l : LandsBetween o.index o.own label o.home.target).
          o.stands ∙ ap (spot f) (edge_spots f o.index k o.own c l.position i l.edge e o.got l.there got there
          (sym l.leads ∙ leads)))
          (lands o.index o.own o.at label o.got o.home)

      between : ComesFromEdge block label → block ≡ spot f k
      between o = absurd (spots_no_edge f named k c i e got there (position_of f o.edge.target) (sym o.leads ∙ leads))

  -- one edge leads to a block, so other ones come from the same block
  pub one_entry : (d k : ℕ) (c : Block) (at t : ℕ) → edges_into f d ≡ 1 → slice_get f.blocks k ≡ Some c
      → slice_get (targets c.term) at ≡ Some t → position_of f t ≡ d → (j : ℕ) (b : Block) (n s : ℕ)
      → slice_get f.blocks j ≡ Some b → slice_get (targets b.term) n ≡ Some s → position_of f s ≡ d → j ≡ k
  one_entry d k c at t one got there to j b n s had stands leads =
      ap (λ (e : Edge). e.from) (one_counted (λ (e : Edge). d == e.to) (edges_of f) one (edge_at f j n s)
      (edge_at f k at t) (edge_listed f j b n s had stands) (ap (λ (x : ℕ). d == x) leads ∙ itself d)
      (edge_listed f k c at t got there) (ap (λ (x : ℕ). d == x) to ∙ itself d))

  pub same_own : (k j : ℕ) (c e : Block) → slice_get f.blocks k ≡ Some c → slice_get f.blocks j ≡ Some e → k ≡ j
      → c ≡ e
  same_own k j c e one two same =
      let both : Some c ≡ Some e = sym one ∙ ap (slice_get f.blocks) same ∙ two in cc

  -- where that edge has no block, the block stays entered from there alone
  pub into_single : (d k : ℕ) (c : Block) (at t : ℕ) → edges_into f d ≡ 1 → slice_get f.blocks k ≡ Some c
      → slice_get (targets c.term) at ≡ Some t → position_of f t ≡ d
      → ((i : ℕ) (e : OwnEdge) → slice_get (edges_of_block f k c) i ≡ Some e → position_of f e.target ≡ d → ⊥)
      → (block label : ℕ) → HasEdge (with_edge_blocks f) block label
      → position_of (with_edge_blocks f) label ≡ spot f d → block ≡ spot f k
  into_single d k c at t one got there to none block label edge leads =
      ⊎_elim own between (comes_from block label edge)
    where
      own : ComesFromOwn block label → block ≡ spot f k
      own o = ⊎_elim
          (λ (l : LandsOwn o.index o.own label o.home.target).
          o.stands ∙ ap (spot f) (one_entry d k c at t one got there to o.index o.own o.at o.home.target o.got
          o.home.got (spots_apart f (position_of f o.home.target) d (sym l.leads ∙ leads))))
          (λ (l : LandsBetween o.index o.own label o.home.target).
          absurd (spots_no_edge f named o.index o.own l.position l.edge o.got l.there d (sym leads ∙ l.leads)))
          (lands o.index o.own o.at label o.got o.home)

      between : ComesFromEdge block label → block ≡ spot f k
      between o =
          let is : position_of f o.edge.target ≡ d =
          spots_apart f (position_of f o.edge.target) d (sym o.leads ∙ leads) in
          let z = listed_at (targets o.own.term) o.edge.target o.listed in
          let from : o.index ≡ k =
          one_entry d k c at t one got there to o.index o.own z.0 o.edge.target o.got z.1 is in
          let same : o.own ≡ c = same_own o.index k o.own c o.got got from in
          absurd (none o.position o.edge
          (sym (λ i. slice_get (edges_of_block f (from i) (same i)) o.position) ∙ o.there) is)

-- the one edge with a block
pub only_edge : (es : List OwnEdge) (e : OwnEdge) → es ≡ e ∷ [] → (i : ℕ) (y : OwnEdge) → slice_get es i ≡ Some y
    → (i ≡ 0) × (y ≡ e)
only_edge es e is i y got = on i (ap (λ (zs : List OwnEdge). slice_get zs i) (sym is) ∙ got)
  where
    on : (i : ℕ) → slice_get (e ∷ []) i ≡ Some y → (i ≡ 0) × (y ≡ e)
    on zero h = let same : e ≡ y = cc in (refl, sym same)
    on (suc i) h = absurd (cc)
