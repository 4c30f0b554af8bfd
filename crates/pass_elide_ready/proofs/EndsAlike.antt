-- Functions whose blocks end alike ask for their frames in the same blocks.
use Rattle.std.proofs.Common.{◌≡◌, inl, inr, ⊎_elim, ℕ, length, refl, sym, ap, ◌∙◌, subst}
use Rattle.std.specs.Prelude.{None, Option, Some, slice_get, if◌then◌else◌}
use Rattle.pass_elide_edges.specs.Keeping.{HasEdge}
use Rattle.pass_elide_edges.specs.pass_elide_proof.Places.{instrs_in, instrs_of}
use Rattle.pass_elide_edges.specs.pass_elide_proof.Shapes.{JumpsTo}
use Rattle.pass_elide_ready.proofs.Entries.{ending}
use Rattle.pass_elide_ready.specs.Blocks.{AskingBlocks, AsksBlocks, FreeingBlocks, FreesBlocks, MeetsBlocks}
use Rattle.pass_elide_ready.specs.Ways.{HasSameEnds, SameEnd}
use Rattle.pass_elide_edges.specs.pass_elide_proof.pass_proofs.flow_solver.Paths.{IsListed}
use Rattle.pass_elide_edges.specs.pass_elide_proof.pass_proofs.ir_model.declared.instr.Terminator.{Terminator}
use Rattle.pass_elide_edges.specs.pass_elide_proof.pass_proofs.ir_model.declared.module.Block.{Block}
use Rattle.pass_elide_edges.specs.pass_elide_proof.pass_proofs.ir_model.declared.module.Function.{Function}
use Rattle.pass_elide_edges.specs.pass_elide_proof.pass_proofs.ir_model.declared.operand.Operand.{Operand}
use Rattle.pass_elide_edges.specs.pass_elide_proof.pass_proofs.ir_paths.Paths.{targets}
use Rattle.pass_elide_edges.specs.pass_elide_proof.pass_proofs.run_step.Step.{AtTerm, Nowhere, fetch, fetch_in}

pub ends_at : (g : Function) (k : ℕ) (c : Block) → slice_get g.blocks k ≡ Some c
    → fetch g k (length (instrs_of g k)) ≡ AtTerm c.term
ends_at g k c there =
    ap (fetch g k) (ap (λ (o : Option Block). length (instrs_in o)) there) ∙ ending g k c there

-- a block that ends in a terminator
pub record IsEndedBy (f : Function) (k : ℕ) (t : Terminator) : Type 0 where
  pub block : Block
  pub there : slice_get f.blocks k ≡ Some block
  pub term : block.term ≡ t

pub ended_by : (f : Function) (k : ℕ) (t : Terminator) → fetch f k (length (instrs_of f k)) ≡ AtTerm t
    → IsEndedBy f k t
ended_by f k t stands = on (slice_get f.blocks k) refl
  where
    on : (o : Option Block) → slice_get f.blocks k ≡ o → IsEndedBy f k t
    on None e =
        let none : Nowhere ≡ AtTerm t =
        sym (ap (λ (o : Option Block). fetch_in o (length (instrs_of f k))) e) ∙ stands in
        absurd (cc)
    on (Some b) e =
        let both : AtTerm b.term ≡ AtTerm t = sym (ends_at f k b e) ∙ stands in
        let same : b.term ≡ t = cc in
        record { block = b; there = e; term = same }

module _ (f g : Function) (same : HasSameEnds f g) where
  pub edge_back : (block label : ℕ) → HasEdge g block label → HasEdge f block label
  edge_back block label x =
      let y = ended_by g block x.term x.stands in
      let b = same.back block y.block y.there in
      record {
        term = b.0.term;
        stands = ends_at f block b.0 b.1.0;
        leads = subst (IsListed label) (sym (ap targets y.term) ∙ b.1.1) x.leads;
      }

  jump_there : (k label : ℕ) → fetch f k (length (instrs_of f k)) ≡ AtTerm (Terminator.Jump label)
      → fetch g k (length (instrs_of g k)) ≡ AtTerm (Terminator.Jump label)
  jump_there k label stands =
      let y = ended_by f k (Terminator.Jump label) stands in
      let z = same.blocks k y.block y.there in
      ends_at g k z.block z.there ∙ ap AtTerm (subst (λ (t : Terminator). SameEnd t z.block.term) y.term z.end)

  pub jumps_there : (k to : ℕ) → JumpsTo f k to → JumpsTo g k to
  jumps_there k to j = record {
    label = j.label;
    stands = jump_there k j.label j.stands;
    leads = same.positions j.label ∙ j.leads;
  }

  pub branch_there : (k : ℕ) (x : Operand) (one other : ℕ)
      → fetch f k (length (instrs_of f k)) ≡ AtTerm (Terminator.Branch x one other)
      → (y : Operand) × (fetch g k (length (instrs_of g k)) ≡ AtTerm (Terminator.Branch y one other))
  branch_there k x one other stands =
      let y = ended_by f k (Terminator.Branch x one other) stands in
      let z = same.blocks k y.block y.there in
      let end = subst (λ (t : Terminator). SameEnd t z.block.term) y.term z.end in
      (end.0, ends_at g k z.block z.there ∙ ap AtTerm end.1)

  pub asks_alike : (a : AskingBlocks) → AsksBlocks f a → AsksBlocks g a
  asks_alike a s =
      let branch = branch_there a.asks s.on a.one a.other s.branch in
      record {
        on = branch.0;
        branch = branch.1;
        to_allocator = same.positions a.one ∙ s.to_allocator;
        to_beside = same.positions a.other ∙ s.to_beside;
        jumps = jumps_there a.allocates a.after s.jumps;
        joins = jumps_there a.after a.begins s.joins;
        meets = jumps_there a.beside a.begins s.meets;
        apart_after = s.apart_after;
        apart_beside = s.apart_beside;
        apart_sides = s.apart_sides;
        apart_begins = s.apart_begins;
        apart_last = s.apart_last;
        into_allocates = λ block label edge leads.
            s.into_allocates block label (edge_back block label edge) (sym (same.positions label) ∙ leads);
        into_after = λ block label edge leads.
            s.into_after block label (edge_back block label edge) (sym (same.positions label) ∙ leads);
        into_beside = λ block label edge leads.
            s.into_beside block label (edge_back block label edge) (sym (same.positions label) ∙ leads);
        into_begins = λ block label edge leads.
            s.into_begins block label (edge_back block label edge) (sym (same.positions label) ∙ leads);
      }

  pub meets_alike : (q : FreeingBlocks) → MeetsBlocks f q → MeetsBlocks g q
  meets_alike q w = record {
    apart = w.apart;
    ends = w.ends;
    joins = jumps_there q.after w.ends w.joins;
    meets = jumps_there q.beside w.ends w.meets;
    into_freed = λ block label edge leads.
        w.into_freed block label (edge_back block label edge) (sym (same.positions label) ∙ leads);
    into_tested = λ block label edge leads.
        w.into_tested block label (edge_back block label edge) (sym (same.positions label) ∙ leads);
  }

  pub frees_alike : (q : FreeingBlocks) → FreesBlocks f q → FreesBlocks g q
  frees_alike q s =
      let branch = branch_there q.tests s.on q.one q.other s.branch in
      record {
        on = branch.0;
        branch = branch.1;
        to_free = same.positions (if q.is_eq then q.other else q.one) ∙ s.to_free;
        to_beside = same.positions (if q.is_eq then q.one else q.other) ∙ s.to_beside;
        jumps = jumps_there q.frees q.after s.jumps;
        apart = s.apart;
        into_frees = λ block label edge leads.
            s.into_frees block label (edge_back block label edge) (sym (same.positions label) ∙ leads);
        ways = ⊎_elim
            (λ (e : q.after ≡ q.beside). inl e)
            (λ (w : MeetsBlocks f q). inr (meets_alike q w))
            s.ways;
      }
