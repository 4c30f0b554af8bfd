-- Where allocas stand in the function that is cut, and so in its pieces.
use Rattle.std.proofs.Common.{◌≡◌, ◌⊎◌, inl, inr, ⊎_elim, ℕ, suc, ◌+◌, true, false, List, [], ◌∷◌, ◌++◌, length, refl, sym, ap, ◌∙◌, subst, arith}
use Rattle.std.specs.Prelude.{Some, filter, map, not, slice_get}
use Rattle.pass_split.specs.Parts.{origins_for}
use Rattle.pass_fetch_proof.specs.pass_front.Front.{allocas_first, is_alloca, is_no_alloca, with_allocas_first}
use Rattle.pass_split.specs.Pieces.{pieced_phi}
use Rattle.pass_fetch_proof.proofs.ir_laws.facts.Members.{each_there}
use Rattle.pass_fetch_proof.proofs.rule_laws.rules.renamed.Switches.{none_part}
use Rattle.pass_fetch_proof.proofs.ir_laws.facts.local_rules.Woven.{other_number}
use Rattle.pass_fetch_proof.proofs.rule_laws.rules.path_rules.Holding.{of_parts}
use Rattle.pass_fetch_proof.specs.flow_solver.Paths.{IsListed}
use Rattle.pass_fetch_proof.specs.frame_layout.declared.layout.Layout.{Layout}
use Rattle.pass_fetch_proof.specs.ir_parts.Parts.{instr_place, parts_of}
use Rattle.pass_fetch_proof.specs.pass_intrinsics.Cuts.{goes_on}
use Rattle.pass_fetch_proof.specs.pass_intrinsics.Shapes.{shape_of}
use Rattle.pass_fetch_proof.specs.pass_intrinsics.declared.shape.Part.{Part}
use Rattle.pass_fetch_proof.specs.pass_intrinsics.declared.shape.Shape.{Shape}
use Rattle.ir_model.specs.declared.instr.Instr.{Instr}
use Rattle.ir_model.specs.declared.instr.Phi.{Phi}
use Rattle.ir_model.specs.declared.module.Block.{Block}
use Rattle.ir_model.specs.declared.module.Function.{Function}
use Rattle.ir_model.specs.declared.module.Module.{Module}
use Rattle.pass_fetch_proof.specs.rule_locals.Entries.{allocates_late}
use Rattle.pass_fetch_proof.specs.rule_locals.Instrs.{on_instr}
use Rattle.pass_exits_proof.proofs.split.edges.Allocas.{HasFront, HasNoAlloca, IsNoAlloca, all_allocas, front_pieces, no_allocas, none_allocas, still_none}
use Rattle.pass_exits_proof.proofs.split.edges.Cuttable.{IsCuttable, IsPiece}
use Rattle.pass_exits_proof.proofs.split.edges.Labels.{whole}
use Rattle.pass_fetch_proof.proofs.ir_laws.paths.uses.Paths.{place_of}
use Rattle.pass_exits_proof.proofs.split.edges.Pieces.{HasHead, head_is}
use Rattle.pass_fetch_proof.proofs.ir_laws.facts.Numbers.{label_of}
use Rattle.pass_exits_proof.proofs.split.edges.Sources.{cuttable}
use Rattle.pass_fetch_proof.proofs.ir_laws.paths.replaced.Known.{of_listed}
use Rattle.pass_exits_proof.specs.split.rules.Splittable.{IsSplittable}

-- ---- the rule, instruction by instruction

no_later : (l at j : ℕ) (i : Instr) → allocates_late (instr_place l (suc at) j) i ≡ false → is_alloca i ≡ false
no_later l at j (Instr.Alloca r ty align) e = let late : true ≡ false = sym (ap not (other_number (suc at) 0 (λ d. absurd (omega (arith, d))))) ∙ e in absurd (cc)
no_later l at j _ e = refl

module _ (m : Module) (k : ℕ) (f : Function) (begin : ℕ) (x : IsSplittable m k f begin) where
  -- the allocas of the function stand in its first block
  pub own_allocas : (at : ℕ) (b : Block) → slice_get f.blocks (suc at) ≡ Some b → HasNoAlloca b
  own_allocas at b e =
      let parts = of_parts (λ y. on_instr allocates_late y.0 y.1 ≡ false) k f (none_part (on_instr allocates_late) (parts_of k f) x.rules.local.allocas) in
      each_there IsNoAlloca b.instrs (λ j i d. no_later k at (length b.phis + j) i ((parts.blocks (suc at) b e).instrs j i d))

  -- a block of the function that is cut is the first, or has no alloca
  kind_in : (bs : List Block) → ((at : ℕ) (b : Block) → slice_get bs (suc at) ≡ Some b → HasNoAlloca b) → (c : Block) → IsListed c bs → (slice_get bs 0 ≡ Some c) ⊎ HasNoAlloca c
  kind_in [] h c l = absurd l
  kind_in (b ∷ bs) h c (inl e) = inl (ap (λ (d : Block). Some d) (sym e))
  kind_in (b ∷ bs) h c (inr l) = inr (let q = place_of bs c l in h q.0 c q.1)

  -- the allocas of the first block stand first
  first_front : (bs : List Block) → with_allocas_first bs ≡ bs → (r : Block) → slice_get bs 0 ≡ Some r → allocas_first r ≡ r
  first_front [] e r there = absurd (cc)
  first_front (b ∷ bs) e r there = let same : b ≡ r = cc in let first : allocas_first b ≡ b = cc in subst (λ (c : Block). allocas_first c ≡ c) same first

  pub own_front : (r : Block) → slice_get f.blocks 0 ≡ Some r → allocas_first r ≡ r
  own_front r there = first_front f.blocks x.front r there

  module _ (layout : Layout) (part : Part) where
    abbrev s : Shape
    s = shape_of f layout

    abbrev h : Function
    h = f

    ok : IsCuttable s part h
    ok = cuttable m k f begin x layout part

    -- a piece with an alloca is one of the first block
    pub first_has : (c : Block) (z : IsPiece s part (origins_for s part h) h.blocks (whole s part h) c) (i : Instr) → IsListed i c.instrs → is_alloca i ≡ true → slice_get h.blocks 0 ≡ Some z.block
    first_has c z i l e =
        ⊎_elim
        (λ first. first)
        (λ none.
        absurd
        (still_none c.instrs
        (of_listed HasNoAlloca z.of.pieces c
        (none_allocas s part z.block.term z.block.label (map (pieced_phi s part (origins_for s part h) z.block.label) z.block.phis) z.of.start z.of.last z.block.instrs z.of.pieces z.of.are none)
        z.piece)
        i l e))
        (kind_in f.blocks own_allocas z.block z.listed)

    -- and in the ramp the first one
    pub ramp_has : goes_on part ≡ false → (c : Block) (z : IsPiece s part (origins_for s part h) h.blocks (whole s part h) c) (i : Instr) → IsListed i c.instrs → is_alloca i ≡ true → c.label ≡ z.block.label
    ramp_has g c z i l e =
        let same : z.block.instrs ≡ filter is_alloca z.block.instrs ++ filter is_no_alloca z.block.instrs = ap (λ (b : Block). b.instrs) (sym (own_front z.block (first_has c z i l e))) in
        let phis : List Phi = map (pieced_phi s part (origins_for s part h) z.block.label) z.block.phis in
        on (filter is_alloca z.block.instrs) phis z.of.pieces
        (front_pieces s part z.block.term z.block.label phis z.of.start z.of.last z.block.instrs z.of.pieces z.of.are (filter is_alloca z.block.instrs) (filter is_no_alloca z.block.instrs) same (all_allocas z.block.instrs) (no_allocas z.block.instrs))
        (head_is s part z.block.term z.block.label phis z.of.start z.of.last z.block.instrs z.of.pieces z.of.are) z.piece
      where
        on : (xs : List Instr) (ps : List Phi) (cs : List Block) → HasFront s part xs cs → HasHead s part z.block.label ps cs → IsListed c cs → c.label ≡ z.block.label
        on xs ps [] a b n = absurd n
        on xs ps (d ∷ ds) a b (inl q) = ap label_of q ∙ b.0
        on xs ps (d ∷ ds) a b (inr n) = absurd (still_none c.instrs (of_listed HasNoAlloca ds c a.1 n) i l e)
