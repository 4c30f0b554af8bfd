-- Two ways lead from a block to another one, through blocks of single entries. What one of them makes is used on it
-- alone, where a path leads.
use Rattle.std.proofs.Common.{◌≡◌, ◌≢◌, ◌⊎◌, ◌∙◌, ◌+◌, inl, inr, ⊎_elim, ℕ, [], ◌∷◌, Some, ap, arith, length, refl, subst, sym}
use Rattle.std.specs.Prelude.{slice_get}
use Rattle.pass_elide_edges.specs.Keeping.{HasEdge}
use Rattle.pass_elide_edges.proofs.pass_elide_proof.pass_proofs.ir_laws.facts.Truth.{either}
use Rattle.pass_elide_edges.proofs.pass_elide_proof.pass_proofs.rule_laws.frames.crossing.Paths.{edge_from}
use Rattle.pass_elide_reads.proofs.Detours.{leads_around}
use Rattle.pass_elide_ready.proofs.Comes.{ends_so}
use Rattle.pass_elide_ready.proofs.Entries.{ending}
use Rattle.pass_elide_ready.specs.pass_elide_proof.Places.{instrs_in, instrs_of}
use Rattle.pass_elide_ready.specs.pass_elide_proof.Shapes.{JumpsTo}
use Rattle.pass_elide_ready.specs.pass_elide_proof.pass_proofs.flow_blocks.Edges.{block_edges}
use Rattle.pass_elide_ready.specs.pass_elide_proof.pass_proofs.flow_blocks.Reach.{IsReached}
use Rattle.pass_elide_ready.specs.pass_elide_proof.pass_proofs.flow_solver.Paths.{IsListed}
use Rattle.pass_elide_ready.specs.pass_elide_proof.pass_proofs.ir_model.Names.{position_of}
use Rattle.pass_elide_ready.specs.pass_elide_proof.pass_proofs.ir_model.declared.instr.Terminator.{Terminator}
use Rattle.pass_elide_ready.specs.pass_elide_proof.pass_proofs.ir_model.declared.module.Block.{Block}
use Rattle.pass_elide_ready.specs.pass_elide_proof.pass_proofs.ir_model.declared.module.Function.{Function}
use Rattle.pass_elide_ready.specs.pass_elide_proof.pass_proofs.ir_paths.Paths.{targets}
use Rattle.pass_elide_ready.specs.pass_elide_proof.pass_proofs.rule_uses.Undefined.{Next, ReachesWithout}
use Rattle.pass_elide_ready.specs.pass_elide_proof.pass_proofs.rule_uses.Uses.{values_at}
use Rattle.pass_elide_ready.specs.pass_elide_proof.pass_proofs.run_step.Step.{AtTerm, fetch}
use Rattle.pass_elide_runs.proofs.Paths.{edge_listed}

-- ---- edges

abbrev pub Leads : Function → ℕ → ℕ → Type 0
Leads f from to = IsListed {X = ℕ × ℕ} (from, to) (block_edges f)

-- an edge between blocks has a label
pub record EdgeTo (f : Function) (from to : ℕ) : Type 0 where
  pub label : ℕ
  pub edge : HasEdge f from label
  pub leads : position_of f label ≡ to

pub edge_to : (f : Function) (from to : ℕ) → Leads f from to → EdgeTo f from to
edge_to f from to l =
    let x = edge_from f from to l in
    let here : from ≡ x.position = (let e : from ≡ 0 + x.position = x.is_from in omega (arith, e)) in
    let got : slice_get f.blocks from ≡ Some x.block = ap (slice_get f.blocks) here ∙ x.got in
    record {
      label = x.label;
      edge = record {
        term = x.block.term;
        stands = subst (λ (n : ℕ). fetch f from n ≡ AtTerm x.block.term)
            (sym (ap (λ o. length (instrs_in o)) got)) (ending f from x.block got);
        leads = x.leads;
      };
      leads = x.is_to;
    }

in_targets : (f : Function) (block label : ℕ) (x : HasEdge f block label) (b : Block)
    → slice_get f.blocks block ≡ Some b → IsListed label (targets b.term)
in_targets f block label x b got =
    let many : length (instrs_of f block) ≡ length b.instrs = ap (λ o. length (instrs_in o)) got in
    let both : AtTerm b.term ≡ AtTerm x.term = sym (ending f block b got) ∙ ap (fetch f block) (sym many) ∙ x.stands in
    let same : b.term ≡ x.term = cc in
    subst (λ (t : Terminator). IsListed label (targets t)) (sym same) x.leads

pub leads_to : (f : Function) (block label : ℕ) → HasEdge f block label → Leads f block (position_of f label)
leads_to f block label x =
    let y = ends_so f block label x in
    edge_listed f block y.own label y.there (in_targets f block label x y.own y.there)

-- a block that ends in a jump leads to its target alone
pub only_jump : (f : Function) (block target : ℕ) → JumpsTo f block target → (to : ℕ) → Leads f block to → to ≡ target
only_jump f block target j to l =
    let x = edge_to f block to l in
    let both : AtTerm x.edge.term ≡ AtTerm (Terminator.Jump j.label) = sym x.edge.stands ∙ j.stands in
    let same : x.edge.term ≡ Terminator.Jump j.label = cc in
    one x.label (subst (λ (t : Terminator). IsListed x.label (targets t)) same x.edge.leads) x.leads
  where
    one : (label : ℕ) → IsListed label (j.label ∷ []) → position_of f label ≡ to → to ≡ target
    one label (inl is) leads = sym leads ∙ ap (position_of f) is ∙ j.leads
    one label (inr none) leads = absurd none

-- ---- two ways

-- From `home` one way leads over two blocks, or over one, and one way beside it over another block, or straight.
pub record HasSides (f : Function) (home first last target : ℕ) : Type 0 where
  pub to_first : Leads f home first
  pub to_last : (first ≡ last) ⊎ Leads f first last
  pub to_target : Leads f last target
  pub only_last : (first ≡ last) ⊎ ((to : ℕ) → Leads f first to → to ≡ last)
  pub only_target : (to : ℕ) → Leads f last to → to ≡ target
  pub into_first : (from : ℕ) → Leads f from first → from ≡ home
  pub into_last : (first ≡ last) ⊎ ((from : ℕ) → Leads f from last → from ≡ first)
  pub apart_first : home ≢ first
  pub apart_last : home ≢ last
  pub inner_first : first ≢ 0
  pub inner_last : last ≢ 0

abbrev pub IsSide : ℕ → ℕ → ℕ → Type 0
IsSide first last b = (b ≡ first) ⊎ (b ≡ last)

module _ (f : Function) (home first last target : ℕ) (s : HasSides f home first last target) (v : ℕ)
    (unmade : (b : ℕ) → (IsSide first last b → ⊥) → IsListed v (values_at f b) → ⊥)
    (detour : ReachesWithout f v home → ReachesWithout f v target) where
  abbrev In : ℕ → Type 0
  In = IsSide first last

  in_or : (b : ℕ) → In b ⊎ (In b → ⊥)
  in_or b =
      ⊎_elim (λ is. inl (inl is))
      (λ (not : b ≡ first → ⊥). ⊎_elim (λ is. inl (inr is)) (λ (other : b ≡ last → ⊥). inr (none not other)) (either b last))
      (either b first)
    where
      none : (b ≡ first → ⊥) → (b ≡ last → ⊥) → In b → ⊥
      none x y (inl is) = x is
      none x y (inr is) = y is

  outside : In home → ⊥
  outside (inl is) = s.apart_first is
  outside (inr is) = s.apart_last is

  no_start : In 0 → ⊥
  no_start (inl is) = s.inner_first (sym is)
  no_start (inr is) = s.inner_last (sym is)

  into : (from to : ℕ) → Leads f from to → In to → In from ⊎ (from ≡ home)
  into from to edge (inl is) = inr (s.into_first from (subst (Leads f from) is edge))
  into from to edge (inr is) = ⊎_elim
      (λ (same : first ≡ last). inr (s.into_first from (subst (Leads f from) (is ∙ sym same) edge)))
      (λ by. inl (inl (by from (subst (Leads f from) is edge)))) s.into_last

  from_last : (to : ℕ) → Leads f last to → ReachesWithout f v home → ReachesWithout f v to
  from_last to edge reaches = subst (ReachesWithout f v) (sym (s.only_target to edge)) (detour reaches)

  out : (from to : ℕ) → Leads f from to → In from → (In to → ⊥) → ReachesWithout f v home → ReachesWithout f v to
  out from to edge (inr is) away reaches = from_last to (subst (λ (n : ℕ). Leads f n to) is edge) reaches
  out from to edge (inl is) away reaches =
      ⊎_elim (λ (same : first ≡ last). from_last to (subst (λ (n : ℕ). Leads f n to) (is ∙ same) edge) reaches)
      (λ by. absurd (away (inr (by to (subst (λ (n : ℕ). Leads f n to) is edge))))) s.only_last

  -- a path to a block that isn't on this way leads past the value
  pub leads_beside : (b : ℕ) → IsReached f (0 ∷ []) [] b → (IsSide first last b → ⊥) → ReachesWithout f v b
  leads_beside b path away =
      leads_around f v In in_or home outside unmade no_start into out b path away

-- along a way that doesn't make the value
module _ (f : Function) (home first last target : ℕ) (s : HasSides f home first last target) (v : ℕ)
    (at_home : IsListed v (values_at f home) → ⊥) (at_first : IsListed v (values_at f first) → ⊥)
    (at_last : IsListed v (values_at f last) → ⊥) where
  pub goes_along : ReachesWithout f v home → ReachesWithout f v target
  goes_along reaches =
      let one = Next home first reaches at_home s.to_first in
      let two : ReachesWithout f v last
      = ⊎_elim (λ (same : first ≡ last). subst (ReachesWithout f v) same one) (λ edge. Next first last one at_first edge)
      s.to_last in
      Next last target two at_last s.to_target
