-- A ramp defines each of its locals once.
use Rattle.std.proofs.Common.{◌≡◌, ◌⊎◌, ⊎_elim, inl, inr, ℕ, ◌+◌, ◌<◌, ◌≤◌, Bool, false, List, [], ◌∷◌, ◌++◌, sym, ap, ◌∙◌, subst, arith}
use Rattle.std.proofs.lemmas.Bool.{cases_lt}
use Rattle.std.specs.Prelude.{None, map, ◌==◌, if◌then◌else◌}
use Rattle.pass_fetch_proof.specs.ir_base.declared.name.Name.{Name}
use Rattle.pass_split.specs.Parts.{done_block, later_head, origins_for, part_blocks, ramp_part}
use Rattle.pass_split.specs.Pieces.{next_after, pieces_of}
use Rattle.pass_split.specs.Reached.{pruned, reached}
use Rattle.pass_split.specs.declared.origin.Origin.{Origin}
use Rattle.pass_fetch_proof.specs.rule_uses.Undefined.{params_of}
use Rattle.pass_fetch_proof.proofs.rule_laws.rules.local_rules.Names.{numbers}
use Rattle.pass_fetch_proof.proofs.ir_laws.facts.local_rules.Woven.{other_number}
use Rattle.pass_fetch_proof.proofs.rule_laws.rules.source_rules.Locals.{block_names}
use Rattle.pass_fetch_proof.proofs.ir_laws.facts.Lists.{row_of, times_joined}
use Rattle.pass_fetch_proof.specs.frame_layout.declared.layout.Layout.{Layout}
use Rattle.pass_fetch_proof.specs.ir_parts.Locals.{locals_of}
use Rattle.pass_fetch_proof.specs.pass_intrinsics.Cuts.{goes_on}
use Rattle.pass_fetch_proof.specs.pass_intrinsics.Shapes.{done_label, first_name, given_name, shape_of}
use Rattle.pass_fetch_proof.specs.pass_intrinsics.declared.shape.Part.{Part}
use Rattle.pass_fetch_proof.specs.pass_intrinsics.declared.shape.Shape.{Shape}
use Rattle.ir_model.specs.declared.module.Block.{Block}
use Rattle.ir_model.specs.declared.module.Function.{Function}
use Rattle.ir_model.specs.declared.module.Module.{Module}
use Rattle.ir_model.specs.declared.module.Param.{Param}
use Rattle.pass_fetch_proof.specs.rule_names.Definitions.{first_twice}
use Rattle.pass_exits_proof.proofs.split.edges.Cuttable.{Begun, IsMark, Passed, Saved}
use Rattle.pass_exits_proof.proofs.split.edges.Labels.{part_different}
use Rattle.pass_exits_proof.proofs.split.edges.Pieces.{block_marks, blocks_times}
use Rattle.pass_exits_proof.proofs.split.uses.Assembled.{ok}
use Rattle.pass_exits_proof.proofs.split.uses.Names.{blocks_within, fresh, fresh_low, fresh_once, one_more, values, values_joined}
use Rattle.pass_exits_proof.proofs.split.uses.Once.{blocks_kept, frames, kept_most, labelled, labels_both, names_split, no_mark, no_marks, none_new, own_once}
use Rattle.pass_fetch_proof.proofs.rule_laws.rules.uses.Once.{none_twice_by}
use Rattle.pass_fetch_proof.proofs.ir_laws.facts.uses.Sources.{label_of}
use Rattle.pass_fetch_proof.proofs.ir_laws.facts.Truth.{is_number}
use Rattle.pass_exits_proof.proofs.split.rules.Cutting.{cut_blocks}
use Rattle.pass_exits_proof.specs.split.rules.Pieced.{ArePiecesOf}
use Rattle.pass_exits_proof.specs.split.rules.Splittable.{IsSplittable}
use Rattle.pass_fetch_proof.proofs.rule_laws.rules.woven_rules.Once.{apart_once}
use Rattle.pass_fetch_proof.specs.ir_laws.facts.woven_rules.Pairs.{one_if, times}

module _ (m : Module) (k : ℕ) (f : Function) (begin : ℕ) (split : IsSplittable m k f begin) (layout : Layout) (part : Part) (first : goes_on part ≡ false) (name : Name) (params : List Param) (same_params : (v : ℕ) → (v ≡ given_name (shape_of f layout) → ⊥) → times v (params_of (ramp_part (shape_of f layout) part name params f)) ≡ times v (params_of f)) (one_given : times (given_name (shape_of f layout)) (params_of (ramp_part (shape_of f layout) part name params f)) ≤ 1) where
  abbrev s : Shape
  s = shape_of f layout

  abbrev h : Function
  h = f

  abbrev whole : Function
  whole = ramp_part (shape_of f layout) part name params f

  abbrev origins : List Origin
  origins = origins_for (shape_of f layout) part f

  abbrev pieces : List Block
  pieces = pieces_of s part origins (first_name s) h.blocks

  abbrev last : ℕ
  last = next_after s part origins (first_name s) h.blocks

  -- nothing stands in front of the pieces
  blocks_are : part_blocks s part f origins ≡ pieces ++ done_block s ∷ []
  blocks_are = ap (λ (b : Bool). (if b then later_head s (reached f) part f.blocks else []) ++ pieces ++ done_block s ∷ []) first

  cut : ArePiecesOf s part origins (first_name s) h.blocks pieces last
  cut = cut_blocks s part origins (first_name s) h.blocks

  module _ (v : ℕ) where
    no_done : (done_label s ≡ v → ⊥) → labelled v (done_block s ∷ []) ≡ 0
    no_done other = let e : one_if (done_label s == v) ≡ 0 = ap one_if (other_number (done_label s) v other) in omega (arith, e)

    abbrev Names : ℕ
    Names = times v (row_of block_names (pruned (ramp_part (shape_of f layout) part name params f)).blocks)

    -- the parameters are those of the function, and the address that is given
    abbrev Params : ℕ
    Params = times v (params_of (ramp_part (shape_of f layout) part name params f))

    -- the names of the ramp by their kinds
    counted : (x : ℕ) × ((Names ≤ (labelled v pieces + labelled v (done_block s ∷ [])) + values v pieces) × ((values v pieces ≤ values v f.blocks + times v (fresh (first_name s) x)) × (labelled v pieces ≤ labelled v f.blocks + times v (row_of (block_marks s part) h.blocks))))
    counted =
        let most = kept_most v (reached whole) whole.blocks in
        let all : times v (row_of block_names whole.blocks) ≡ labelled v (pieces ++ done_block s ∷ []) + values v (pieces ++ done_block s ∷ []) =
        names_split v whole.blocks ∙ ap (λ (bs : List Block). labelled v bs + values v bs) blocks_are in
        let labels = labels_both v pieces (done_block s ∷ []) in
        let both = values_joined v s part pieces (done_block s ∷ []) in
        let none = one_more v (done_block s) [] in
        let x = blocks_within v s part origins (first_name s) last h.blocks pieces cut (frames m k f begin split layout part) in
        let bound = x.1.1 in
        let stays = blocks_kept v part h.blocks in
        let few = blocks_times s part origins (first_name s) last h.blocks pieces cut v in
        (x.0, (omega (arith, most, all, labels, both, none), (omega (arith, bound, stays), omega (arith, few))))

    other_once : (v ≡ given_name (shape_of f layout) → ⊥) → times v (numbers (pruned (ramp_part (shape_of f layout) part name params f))) ≤ 1
    other_once other = on (cases_lt v s.base) (cases_lt v (first_name s))
      where
        own : times v (params_of f) + (labelled v f.blocks + values v f.blocks) ≤ 1
        own = own_once m k f begin split layout v

        joined : times v (numbers (pruned (ramp_part (shape_of f layout) part name params f))) ≡ times v (params_of f) + Names
        joined =
            times_joined v (params_of (ramp_part (shape_of f layout) part name params f)) (row_of block_names (pruned (ramp_part (shape_of f layout) part name params f)).blocks)
            ∙ ap (λ (n : ℕ). n + Names) (same_params v other)

        on : (v < s.base) ⊎ (s.base ≤ v) → (v < first_name s) ⊎ (first_name s ≤ v) → times v (numbers (pruned (ramp_part (shape_of f layout) part name params f))) ≤ 1
        on (inl low) side =
            let c = counted in
            let most = c.1.0 in
            let bound = c.1.1.0 in
            let few = c.1.1.1 in
            let marks = no_marks m k f begin split layout part v (inl low) in
            let new = fresh_low v (first_name s) c.0 (omega (arith, low)) in
            let done = no_done (λ e. let same : done_label s ≡ v = e in absurd (omega (arith, same, low))) in
            omega (arith, own, joined, most, bound, few, marks, new, done)
        on (inr high) (inl less) =
            let c = counted in
            let most = c.1.0 in
            let bound = c.1.1.0 in
            let none = none_new m k f begin split layout v high in
            let new = fresh_low v (first_name s) c.0 less in
            let labels = labels_both v pieces (done_block s ∷ []) in
            let apart : labelled v whole.blocks ≤ 1 = apart_once (map label_of whole.blocks) (part_different s part h (ok m k f begin split layout part)) v in
            let one : labelled v (pieces ++ done_block s ∷ []) ≤ 1 = subst (λ (bs : List Block). labelled v bs ≤ 1) blocks_are apart in
            omega (arith, joined, most, bound, none, new, labels, one)
        on (inr high) (inr far) =
            let c = counted in
            let most = c.1.0 in
            let bound = c.1.1.0 in
            let few = c.1.1.1 in
            let none = none_new m k f begin split layout v high in
            let marks = no_marks m k f begin split layout part v (inr far) in
            let new = fresh_once v (first_name s) c.0 in
            let done = no_done (λ e. let same : done_label s ≡ v = e in absurd (omega (arith, same, far))) in
            omega (arith, joined, most, bound, few, none, marks, new, done)

    -- the address that is given is neither a label nor a value of a block
    given_once : v ≡ given_name (shape_of f layout) → times v (numbers (pruned (ramp_part (shape_of f layout) part name params f))) ≤ 1
    given_once e =
        let c = counted in
        let most = c.1.0 in
        let bound = c.1.1.0 in
        let few = c.1.1.1 in
        let none = none_new m k f begin split layout v (omega (arith, e)) in
        let marks = no_mark m k f begin split layout part v never in
        let new = fresh_low v (first_name s) c.0 (omega (arith, e)) in
        let done = no_done (λ d. let same : done_label s ≡ v = d in absurd (omega (arith, same, e))) in
        let one : times v (params_of (ramp_part s part name params f)) ≤ 1 = subst (λ (n : ℕ). times n (params_of (ramp_part s part name params f)) ≤ 1) (sym e) one_given in
        let joined = times_joined v (params_of (ramp_part s part name params f)) (row_of block_names (pruned (ramp_part s part name params f)).blocks) in
        omega (arith, joined, one, most, bound, few, none, marks, new, done)
      where
        never : IsMark s v → ⊥
        never (Begun d) = absurd (omega (arith, d, e))
        never (Saved j low d) = absurd (omega (arith, d, e))
        never (Passed j low d) = absurd (omega (arith, d, e))

    once : times v (numbers (pruned (ramp_part (shape_of f layout) part name params f))) ≤ 1
    once = ⊎_elim given_once other_once (is_number v (given_name s))

  pub ramp_once : (l : ℕ) → first_twice [] (locals_of l (pruned (ramp_part (shape_of f layout) part name params f))) ≡ None
  ramp_once l = none_twice_by l (pruned (ramp_part (shape_of f layout) part name params f)) once
