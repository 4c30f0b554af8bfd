-- The entry of a part that goes on behind a suspend, and where its index leads.
use Rattle.std.proofs.Common.{◌≡◌, ◌<◌, inl, inr, ⊎_elim, ℕ, zero, suc, ◌+◌, ◌-◌, Bool, true, false, List, [], ◌∷◌, ◌++◌, length, refl, sym, ap, ◌∙◌, subst, arith}
use Rattle.std.specs.Prelude.{None, Some, filter, map, slice_get, if◌then◌else◌}
use Rattle.pass_proofs.specs.flow_solver.Paths.{IsListed}
use Rattle.pass_proofs.specs.frame_layout.declared.layout.Layout.{Layout}
use Rattle.pass_proofs.proofs.rule_laws.frames.edges.Shaped.{point_home}
use Rattle.pass_proofs.proofs.ir_laws.paths.crossing.Spots.{Spot, spot_first, spot_term}
use Rattle.pass_proofs.proofs.ir_laws.paths.edges.Lists.{listed_at}
use Rattle.pass_proofs.proofs.ir_laws.paths.replaced.Known.{of_listed}
use Rattle.pass_proofs.proofs.ir_laws.paths.uses.Paths.{place_of}
use Rattle.pass_proofs.proofs.rule_laws.rules.source_rules.Locals.{own_label}
use Rattle.pass_proofs.specs.rule_laws.frames.replaced.Splittable.{HasOwnEdges}
use Rattle.pass_proofs.specs.ir_model.Names.{position_of}
use Rattle.pass_proofs.specs.ir_model.declared.instr.Case.{Case}
use Rattle.pass_proofs.specs.ir_model.declared.instr.Instr.{Instr}
use Rattle.pass_proofs.specs.ir_model.declared.instr.Phi.{Phi}
use Rattle.pass_proofs.specs.ir_model.declared.instr.Terminator.{Terminator}
use Rattle.pass_proofs.specs.ir_model.declared.module.Block.{Block}
use Rattle.pass_proofs.specs.ir_model.declared.module.Function.{Function}
use Rattle.pass_proofs.specs.ir_model.declared.module.Module.{Module}
use Rattle.pass_proofs.specs.ir_paths.Paths.{targets}
use Rattle.pass_proofs.specs.ir_paths.Windows.{label_of_term}
use Rattle.pass_proofs.specs.pass_front.Front.{allocas_first, allocas_of, is_alloca}
use Rattle.pass_proofs.specs.pass_intrinsics.Cuts.{goes_on}
use Rattle.pass_proofs.specs.pass_intrinsics.Shapes.{back_label, first_name, shape_of, suspends_of}
use Rattle.pass_proofs.specs.pass_intrinsics.declared.shape.Part.{Part}
use Rattle.pass_proofs.specs.pass_intrinsics.declared.shape.Shape.{Shape}
use Rattle.pass_proofs.specs.pass_intrinsics.declared.shape.SuspendPoint.{SuspendPoint}
use Rattle.pass_split_proof.proofs.code.Allocas.{alike, alloca_there, allocas_are, next_alloca, no_alloca}
use Rattle.pass_proofs.proofs.split.edges.Cuttable.{HasBlock, IsCuttable}
use Rattle.pass_proofs.proofs.split.edges.Entries.{entry_flagged, first_block}
use Rattle.pass_proofs.proofs.split.edges.Fronts.{own_front}
use Rattle.pass_proofs.proofs.split.edges.Labels.{suspend_there, whole}
use Rattle.pass_proofs.proofs.split.edges.Rules.{returned_target, stopped}
use Rattle.pass_proofs.proofs.split.edges.Sources.{cuttable, pruned_part}
use Rattle.pass_proofs.proofs.split.edges.Targets.{goes_on_label}
use Rattle.pass_split_proof.proofs.places.Coded.{like_bare}
use Rattle.pass_split_proof.proofs.places.Fronts.{IsCutCode, leads}
use Rattle.pass_split_proof.proofs.places.Lines.{all_there, line_there}
use Rattle.pass_split_proof.proofs.places.Parts.{like, names_long, pruned_code}
use Rattle.pass_proofs.proofs.split.rules.Reached.{flagged_is_led}
use Rattle.pass_proofs.proofs.split.uses.Assembled.{first_kept}
use Rattle.pass_split_proof.specs.code.Entry.{GoesBack, HasEntry, HasFrontAllocas, index_line}
use Rattle.pass_split_proof.specs.places.Places.{HasLike, IsNamed, Remain, entering}
use Rattle.pass_proofs.specs.split.rules.Parted.{IsPartOf}
use Rattle.pass_proofs.specs.split.rules.Reached.{Edge, IsLedTo}
use Rattle.pass_proofs.specs.split.rules.Splittable.{IsSplittable}
use Rattle.pass_proofs.specs.pass_split.Parts.{back_block, back_blocks, case_of, cases_from, done_block, entry_block, entry_term, goes_on_at, is_entered, later_head, none_block, or_zero, origins_for, part_names}
use Rattle.pass_proofs.specs.pass_split.Pieces.{going_on, next_after, pieced_phi, pieces_of, redirected}
use Rattle.pass_proofs.specs.pass_split.Reached.{is_flagged, kept_block, kept_blocks, pruned, reached, targets_at, targets_in}
use Rattle.pass_proofs.specs.pass_split.declared.origin.Origin.{Origin}
use Rattle.pass_proofs.specs.run_framed.Framed.{alloca_from}
use Rattle.pass_proofs.specs.run_step.Step.{AtTerm, label_of, phis_of}

-- ---- the cases of the index

case_there : (s : Shape) (flags : List Bool) (part : Part) (j : ℕ) (ps : List SuspendPoint) (at : ℕ) (p : SuspendPoint)
    → slice_get ps at ≡ Some p → is_entered flags part p ≡ true
    → IsListed (back_label s (j + at)) (map (λ (k : Case). k.target) (cases_from s flags part j ps))
case_there s flags part j [] at p e entered = absurd (cc)
case_there s flags part j (q ∷ ps) zero p e entered =
    let same : q ≡ p = cc in
    let none : j + 0 ≡ j = omega arith in
    let now : is_entered flags part q ≡ true = ap (is_entered flags part) same ∙ entered in
    subst (λ (b : Bool). IsListed (back_label s (j + 0)) (map (λ (k : Case). k.target)
    ((if b then case_of s j ∷ [] else []) ++ cases_from s flags part (j + 1) ps))) (sym now)
    (inl (ap (back_label s) none))
case_there s flags part j (q ∷ ps) (suc at) p e entered =
    let same : j + 1 + at ≡ j + suc at = omega arith in
    on (is_entered flags part q)
    (subst (λ (n : ℕ). IsListed (back_label s n) (map (λ (k : Case). k.target)
    (cases_from s flags part (j + 1) ps))) same (case_there s flags part (j + 1) ps at p e entered))
  where
    on : (b : Bool)
        → IsListed (back_label s (j + suc at)) (map (λ (k : Case). k.target) (cases_from s flags part (j + 1) ps))
        → IsListed (back_label s (j + suc at)) (map (λ (k : Case). k.target)
        ((if b then case_of s j ∷ [] else []) ++ cases_from s flags part (j + 1) ps))
    on true l = inr l
    on false l = l

-- a suspend at which a part goes on stands in a block that is reached
entered_flagged : (flags : List Bool) (part : Part) (p : SuspendPoint) → is_entered flags part p ≡ true
    → is_flagged flags p.block ≡ true
entered_flagged flags part p e = on (is_flagged flags p.block) refl e
  where
    on : (b : Bool) → is_flagged flags p.block ≡ b → (if b then goes_on_at part p else false) ≡ true
        → is_flagged flags p.block ≡ true
    on true d h = d
    on false d h = absurd (cc)

module _ (m : Module) (k : ℕ) (f : Function) (begin : ℕ) (x : IsSplittable m k f begin) (layout : Layout) (part : Part)
    (later : goes_on part ≡ true) where
  abbrev s : Shape
  s = shape_of f layout

  abbrev os : List Origin
  os = origins_for s part f

  abbrev entry : Block
  entry = entry_block s (reached f) part f.blocks

  abbrev more : List Block
  more = none_block s ∷ back_blocks s part 0 s.suspends

  ok : IsCuttable s part f
  ok = cuttable m k f begin x layout part

  head_first : whole s part f ≡ entry ∷ ((more ++ pieces_of s part os (first_name s) f.blocks) ++ done_block s ∷ [])
  head_first
      = ap (λ (b : Bool). ((if b then later_head s (reached f) part f.blocks else []) ++ pieces_of s part os
      (first_name s) f.blocks) ++ done_block s ∷ []) later

  -- ---- labels at which the part goes on

  module _ (j : ℕ) (p : SuspendPoint) (stands : slice_get s.suspends j ≡ Some p) where
    listed : IsListed p (suspends_of f)
    listed = listed_at s.suspends j p stands

    abbrev target : ℕ
    target = or_zero (going_on part (Some p))

    by_edge : (P : ℕ → Type 0) → P p.resume → P p.destroy → P target
    by_edge P a b = ⊎_elim (λ (e : target ≡ p.resume). subst P (sym e) a) (λ (e : target ≡ p.destroy). subst P
        (sym e) b) (goes_on_label part p later)

    target_known : HasBlock f target
    target_known = by_edge (HasBlock f) (ok.resumes p listed) (ok.destroys p listed)

    -- the edges of the suspend are edges of its block
    target_led : is_flagged (reached f) p.block ≡ true → IsLedTo f target
    target_led flagged =
        let y = point_home p f listed in
        let q = place_of f.blocks y.0 y.1.0 in
        let st = stopped m k f begin x layout y.0 y.1.1.instr y.1.0 y.1.1.listed y.1.1.is_one in
        let at : targets_at f p.block ≡ targets y.0.term = ap (targets_at f) y.1.1.block
        ∙ ap (λ (n : ℕ). targets_in (slice_get f.blocks n)) (own y.0 q.0 q.1) ∙ ap targets_in q.1 in
        let edge : (n label : ℕ) → label ≡ label_of_term n y.0.term → IsLedTo f label = λ n label e.
        Edge p.block label (flagged_is_led f p.block flagged) (subst (IsListed label) (sym at)
        (subst (λ (v : ℕ). IsListed v (targets y.0.term)) (sym e) (returned_target m k f begin x layout n y.0 st)))
        in
        by_edge (IsLedTo f) (edge 0 p.resume y.1.1.resume) (edge 1 p.destroy y.1.1.destroy)
      where
        own : (b : Block) (q : ℕ) → slice_get f.blocks q ≡ Some b → position_of f b.label ≡ q
        own b q e = own_label k f x.rules.definitions q b e

    -- and lead to blocks without phis
    target_bare : (b : Block) → IsListed b f.blocks → b.label ≡ target → b.phis ≡ []
    target_bare b l e =
        let q = place_of f.blocks b l in
        let edges = of_listed (HasOwnEdges f) (suspends_of f) p x.edges listed in
        by_edge (λ (n : ℕ). b.label ≡ n → b.phis ≡ []) (λ same. edges.resume.phis q.0 b q.1 same)
        (λ same. edges.destroy.phis q.0 b q.1 same) e

  module _ (p : Function) (blocks : p.blocks ≡ whole s part f) (names : p.names ≡ part_names s part f os) where
    abbrev g : Function
    g = pruned p

    -- ---- the entry block

    abbrev kept : Block
    kept = kept_block (reached p) entry

    stands : slice_get (pruned p).blocks 0 ≡ Some (kept_block (reached p) (entry_block (shape_of f layout)
        (reached f) part f.blocks))
    stands =
        let there : slice_get p.blocks 0 ≡ Some entry = ap (λ (bs : List Block). slice_get bs 0) (blocks
        ∙ head_first) in
        ap (λ (bs : List Block). slice_get (kept_blocks (reached p) bs) 0) (blocks ∙ head_first)
        ∙ first_kept (reached p) entry ((more ++ pieces_of s part os (first_name s) f.blocks) ++ done_block s ∷ [])
        (entry_flagged m k f begin x layout part p blocks names entry there)

    spot : Spot (pruned p) 0 0 kept (allocas_of f.blocks ++ index_line s)
    spot = spot_first g 0 kept stands

    line : Spot (pruned p) 0 (length (allocas_of f.blocks)) kept (index_line s)
    line =
        let y = line_there g 0 kept (allocas_of f.blocks) (index_line s) 0 spot in
        let same : 0 + length (allocas_of f.blocks) ≡ length (allocas_of f.blocks) = omega arith in
        subst (λ (n : ℕ). Spot g 0 n kept (index_line s)) same y.1

    remain : Remain (pruned p) 0 (length (allocas_of f.blocks)) (index_line s) (entry_term s (reached f) part)
    remain = all_there g 0 kept (index_line s) (length (allocas_of f.blocks)) line

    front_allocas : HasFrontAllocas f (pruned p) (length (allocas_of f.blocks))
    front_allocas =
        let r = first_block m k f begin x layout part in
        let front : allocas_first r.0 ≡ r.0 = own_front m k f begin x r.0 r.1 in
        let are : allocas_of f.blocks ≡ filter is_alloca r.0.instrs = allocas_are f r.0 r.1 front in
        record {
          each = λ at low. alloca_there f r.0 r.1 front at (subst (λ (is : List Instr). at < length is) are low);
          next = λ at low. next_alloca f r.0 r.1 front at (subst (λ (is : List Instr). at < length is) are low);
          none = subst (λ (is : List Instr). alloca_from f (length is) ≡ None) (sym are) (no_alloca f r.0 r.1 front);
          alike = λ at low i here. alike f r.0 r.1 front g kept (index_line s) stands
              (ap (λ (is : List Instr). is ++ index_line s) are) at
              (subst (λ (is : List Instr). at < length is) are low) i here;
        }

    -- ---- where the index leads

    module _ (j : ℕ) (q : SuspendPoint) (at : slice_get s.suspends j ≡ Some q)
        (entered : is_entered (reached f) part q ≡ true) where
      abbrev from : Block
      from = back_block s part j q

      named : IsNamed (pruned p) (back_label s j)
      named =
          let same : 0 + j ≡ j = omega arith in (
            kept,
            (
              listed_at g.blocks 0 kept stands,
              inr
                  (subst (λ (n : ℕ). IsListed (back_label s n) (map (λ (c : Case). c.target)
                  (cases_from s (reached f) part 0 s.suspends))) same
                  (case_there s (reached f) part 0 s.suspends j q at entered)),
            ),
          )

      as_it_was : HasLike (pruned p) (back_block (shape_of f layout) part j q)
      as_it_was = like m k f begin x layout part p blocks names from (suspend_there s part f later j q at) named

      goes_back : GoesBack (shape_of f layout) part f (pruned p) j q
      goes_back =
          let label : ℕ = redirected s (or_zero (going_on part (Some q))) in
          let here : Spot g (position_of g (back_label s j)) 0 as_it_was.block [] = subst (λ (is : List Instr). Spot g
          (position_of g (back_label s j)) 0 as_it_was.block is) as_it_was.instrs
          (spot_first g (position_of g (back_label s j)) as_it_was.block as_it_was.there) in
          let code : IsCutCode s part f g = pruned_code m k f begin x layout part p blocks names in
          record {
            back = record {
              bare = ap phis_of as_it_was.there
                  ∙ like_bare g from kept as_it_was (listed_at g.blocks 0 kept stands) refl;
              jumps = spot_term g (position_of g (back_label s j)) 0 as_it_was.block here ∙ ap AtTerm as_it_was.term;
            };
            leads = leads s part f g code (position_of f q.block) (position_of g (back_label s j))
                (or_zero (going_on part (Some q))) as_it_was.block as_it_was.there (target_known j q at)
                (target_led j q at (entered_flagged (reached f) part q entered))
                (λ b n same.
                let none = target_bare j q at b n same in
                ap (λ (ps : List Phi). entering as_it_was.block.label
                (map (pieced_phi s part code.origins b.label) ps)) none
                ∙ ap (entering (label_of (slice_get f.blocks (position_of f q.block)))) (sym none))
                (subst (λ (t : Terminator). IsListed label (targets t)) (sym as_it_was.term) (inl refl));
          }

    pub pruned_entry : HasEntry (shape_of f layout) part f (pruned p)
    pruned_entry =
        let long : length g.names ≡ first_name s + (next_after s part os (first_name s) f.blocks - first_name s) =
        names_long m k f begin x layout part p blocks names in
        record {
          allocas = front_allocas;
          line = remain.stand;
          switch = remain.ends;
          slot = omega (arith, long);
          index = omega (arith, long);
          entered = goes_back;
        }

pub later_entry : (m : Module) (k : ℕ) (f g : Function) (begin : ℕ) (layout : Layout) (part : Part)
    → IsSplittable m k f begin → IsPartOf (shape_of f layout) f part g → goes_on part ≡ true
    → HasEntry (shape_of f layout) part f g
later_entry m k f g begin layout part x is later =
    let y = pruned_part (shape_of f layout) part f g is in
    subst (HasEntry (shape_of f layout) part f) (sym y.is) (pruned_entry m k f begin x layout part later y.before
    y.blocks y.names)
