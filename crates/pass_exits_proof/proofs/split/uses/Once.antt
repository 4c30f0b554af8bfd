-- How often the blocks of a part define a name.
use Rattle.std.proofs.Common.{◌≡◌, ◌⊎◌, inl, inr, ℕ, ◌+◌, ◌<◌, ◌≤◌, Bool, true, false, List, [], ◌∷◌, ◌++◌, length, refl, ap, subst, arith}
use Rattle.std.specs.Prelude.{filter, map, if◌then◌else◌}
use Rattle.pass_split.specs.Pieces.{begins_again}
use Rattle.pass_split.specs.Reached.{is_flagged, kept_block, kept_blocks, kept_phi}
use Rattle.pass_fetch_proof.specs.rule_uses.Undefined.{params_of}
use Rattle.pass_fetch_proof.proofs.rule_laws.rules.local_rules.Names.{numbers}
use Rattle.pass_fetch_proof.proofs.rule_laws.rules.local_rules.Woven.{apart_names}
use Rattle.pass_fetch_proof.proofs.ir_laws.paths.source_rules.Locals.{Apart}
use Rattle.pass_fetch_proof.proofs.rule_laws.rules.source_rules.Locals.{block_names, made_by, names_are}
use Rattle.pass_fetch_proof.proofs.ir_laws.facts.Lists.{phi_names, row_of, times_joined}
use Rattle.pass_fetch_proof.specs.flow_solver.Paths.{IsListed}
use Rattle.pass_fetch_proof.specs.frame_layout.declared.layout.Layout.{Layout}
use Rattle.pass_fetch_proof.specs.ir_parts.Locals.{locals_of}
use Rattle.pass_fetch_proof.specs.pass_intrinsics.Shapes.{first_name, shape_of}
use Rattle.pass_fetch_proof.specs.pass_intrinsics.declared.shape.Part.{Part}
use Rattle.pass_fetch_proof.specs.pass_intrinsics.declared.shape.Shape.{Shape}
use Rattle.ir_model.specs.declared.instr.Instr.{Instr}
use Rattle.ir_model.specs.declared.instr.Phi.{Phi}
use Rattle.ir_model.specs.declared.module.Block.{Block}
use Rattle.ir_model.specs.declared.module.Function.{Function}
use Rattle.ir_model.specs.declared.module.Module.{Module}
use Rattle.pass_exits_proof.proofs.split.edges.Cuttable.{Begun, IsMark, Passed, Saved}
use Rattle.pass_exits_proof.proofs.split.edges.Labels.{mark_low}
use Rattle.pass_exits_proof.proofs.split.edges.Pieces.{block_marks}
use Rattle.pass_exits_proof.proofs.split.uses.Assembled.{ok}
use Rattle.pass_exits_proof.proofs.split.uses.Names.{NamesFrame, kept_made, kept_values, one_more, values, values_of}
use Rattle.pass_fetch_proof.proofs.ir_laws.paths.uses.Paths.{place_of}
use Rattle.pass_exits_proof.proofs.split.uses.Rules.{begin_result}
use Rattle.pass_fetch_proof.proofs.ir_laws.facts.uses.Sources.{label_of}
use Rattle.pass_exits_proof.specs.split.rules.Splittable.{IsSplittable}
use Rattle.pass_fetch_proof.specs.run_laws.changed.Changed.{Each}
use Rattle.pass_fetch_proof.proofs.rule_laws.rules.woven_rules.Once.{apart_once, names_below}
use Rattle.pass_fetch_proof.proofs.ir_laws.paths.woven_rules.Once.{times_none}
use Rattle.pass_fetch_proof.specs.ir_laws.facts.woven_rules.Pairs.{times}
use Rattle.pass_fetch_proof.proofs.ir_laws.paths.woven_rules.Unbroken.{each_listed as each_of}

module _ (v : ℕ) where
  abbrev pub labelled : List Block → ℕ
  labelled bs = times v (map label_of bs)

  -- the names of blocks are their labels and their values
  pub names_split : (bs : List Block) → times v (row_of block_names bs) ≡ labelled bs + values v bs
  names_split [] = omega arith
  names_split (b ∷ bs) =
      let e = names_split bs in
      let a = times_joined v (block_names b) (row_of block_names bs) in
      let c = times_joined v (values_of b) (row_of values_of bs) in
      omega (arith, e, a, c)

  pub labels_both : (xs ys : List Block) → labelled (xs ++ ys) ≡ labelled xs + labelled ys
  labels_both [] ys = omega arith
  labels_both (x ∷ xs) ys = let e = labels_both xs ys in omega (arith, e)

  -- ---- blocks that stay

  kept_phis : (flags : List Bool) (ps : List Phi) → phi_names (map (kept_phi flags) ps) ≡ phi_names ps
  kept_phis flags [] = refl
  kept_phis flags (p ∷ ps) = ap (λ (ns : List ℕ). p.result ∷ ns) (kept_phis flags ps)

  kept_same : (flags : List Bool) (b : Block) → times v (block_names (kept_block flags b)) ≡ times v (block_names b)
  kept_same flags b = ap (λ (ns : List ℕ). times v (b.label ∷ (ns ++ row_of made_by b.instrs))) (kept_phis flags b.phis)

  abbrev pub kept : List Bool → List Block → ℕ
  kept flags bs = times v (row_of block_names (kept_blocks flags bs))

  kept_one : (flags : List Bool) (b : Block) (bs : List Block) (t : Bool) → kept flags bs ≤ times v (row_of block_names bs) → times v (row_of block_names (map (kept_block flags) (if t then b ∷ filter (λ c. is_flagged flags c.label) bs else filter (λ c. is_flagged flags c.label) bs))) ≤ times v (row_of block_names (b ∷ bs))
  kept_one flags b bs true h =
      let a = times_joined v (block_names (kept_block flags b)) (row_of block_names (kept_blocks flags bs)) in
      let c = times_joined v (block_names b) (row_of block_names bs) in
      let same = kept_same flags b in
      omega (arith, h, a, c, same)
  kept_one flags b bs false h = let c = times_joined v (block_names b) (row_of block_names bs) in omega (arith, h, c)

  pub kept_most : (flags : List Bool) (bs : List Block) → kept flags bs ≤ times v (row_of block_names bs)
  kept_most flags [] = omega arith
  kept_most flags (b ∷ bs) = kept_one flags b bs (is_flagged flags b.label) (kept_most flags bs)

  kept_two : (flags : List Bool) (b : Block) (xs ys : List Block) (t : Bool) → kept flags (xs ++ ys) ≡ kept flags xs + kept flags ys → times v (row_of block_names (map (kept_block flags) (if t then b ∷ filter (λ c. is_flagged flags c.label) (xs ++ ys) else filter (λ c. is_flagged flags c.label) (xs ++ ys)))) ≡ times v (row_of block_names (map (kept_block flags) (if t then b ∷ filter (λ c. is_flagged flags c.label) xs else filter (λ c. is_flagged flags c.label) xs))) + kept flags ys
  kept_two flags b xs ys true h =
      let a = times_joined v (block_names (kept_block flags b)) (row_of block_names (kept_blocks flags (xs ++ ys))) in
      let c = times_joined v (block_names (kept_block flags b)) (row_of block_names (kept_blocks flags xs)) in
      omega (arith, h, a, c)
  kept_two flags b xs ys false h = h

  pub kept_joined : (flags : List Bool) (xs ys : List Block) → kept flags (xs ++ ys) ≡ kept flags xs + kept flags ys
  kept_joined flags [] ys = omega arith
  kept_joined flags (b ∷ xs) ys = kept_two flags b xs ys (is_flagged flags b.label) (kept_joined flags xs ys)

  pub kept_none : (flags : List Bool) (xs : List Block) → ((c : Block) → IsListed c xs → is_flagged flags c.label ≡ true → ⊥) → kept flags xs ≡ 0
  kept_none flags [] h = refl
  kept_none flags (b ∷ xs) h = on (is_flagged flags b.label) refl (kept_none flags xs (λ c l. h c (inr l)))
    where
      on : (t : Bool) → is_flagged flags b.label ≡ t → kept flags xs ≡ 0 → times v (row_of block_names (map (kept_block flags) (if t then b ∷ filter (λ c. is_flagged flags c.label) xs else filter (λ c. is_flagged flags c.label) xs))) ≡ 0
      on true e k = absurd (h b (inl refl) e)
      on false e k = k

  -- ---- what stays of begin

  abbrev pub dropped_made : Part → Instr → List ℕ
  dropped_made part i = if begins_again part i then made_by i else []

  abbrev pub dropped : Part → List Block → ℕ
  dropped part bs = times v (row_of (λ (b : Block). row_of (dropped_made part) b.instrs) bs)

  instrs_kept : (part : Part) (is : List Instr) → times v (row_of (kept_made part) is) + times v (row_of (dropped_made part) is) ≡ times v (row_of made_by is)
  instrs_kept part [] = omega arith
  instrs_kept part (i ∷ is) = on (begins_again part i) (instrs_kept part is)
    where
      on : (t : Bool) → times v (row_of (kept_made part) is) + times v (row_of (dropped_made part) is) ≡ times v (row_of made_by is) → times v ((if t then [] else made_by i) ++ row_of (kept_made part) is) + times v ((if t then made_by i else []) ++ row_of (dropped_made part) is) ≡ times v (made_by i ++ row_of made_by is)
      on true e = let a = times_joined v (made_by i) (row_of (dropped_made part) is) in let c = times_joined v (made_by i) (row_of made_by is) in omega (arith, e, a, c)
      on false e = let a = times_joined v (made_by i) (row_of (kept_made part) is) in let c = times_joined v (made_by i) (row_of made_by is) in omega (arith, e, a, c)

  pub blocks_kept : (part : Part) (bs : List Block) → times v (row_of (kept_values part) bs) + dropped part bs ≡ values v bs
  blocks_kept part [] = omega arith
  blocks_kept part (b ∷ bs) =
      let e = blocks_kept part bs in
      let own = instrs_kept part b.instrs in
      let a = times_joined v (kept_values part b) (row_of (kept_values part) bs) in
      let a2 = times_joined v (phi_names b.phis) (row_of (kept_made part) b.instrs) in
      let c = times_joined v (row_of (dropped_made part) b.instrs) (row_of (λ (x : Block). row_of (dropped_made part) x.instrs) bs) in
      let d = one_more v b bs in
      omega (arith, e, own, a, a2, c, d)

module _ (m : Module) (k : ℕ) (f : Function) (begin : ℕ) (split : IsSplittable m k f begin) (layout : Layout) where
  abbrev s : Shape
  s = shape_of f layout

  -- ---- the coroutine's own names

  pub own_once : (v : ℕ) → times v (params_of f) + (labelled v f.blocks + values v f.blocks) ≤ 1
  own_once v =
      let one : times v (numbers f) ≤ 1 = apart_once (numbers f) (subst Apart (names_are k f) (apart_names [] (locals_of k f) split.rules.definitions)) v in
      let a = times_joined v (params_of f) (row_of block_names f.blocks) in
      let e = names_split v f.blocks in
      omega (arith, one, a, e)

  pub none_new : (v : ℕ) → s.base ≤ v → times v (params_of f) + (labelled v f.blocks + values v f.blocks) ≡ 0
  none_new v high =
      let none : times v (numbers f) ≡ 0 = times_none v (numbers f) (λ l. let low : v < length f.names = names_below k f split.rules.tabled v l in absurd (omega (arith, low, high))) in
      let a = times_joined v (params_of f) (row_of block_names f.blocks) in
      let e = names_split v f.blocks in
      omega (arith, none, a, e)

  module _ (part : Part) where
    abbrev h : Function
    h = f

    pub frames : Each (λ (b : Block). Each (NamesFrame s part) b.instrs) f.blocks
    frames =
        each_of (λ (b : Block). Each (NamesFrame s part) b.instrs) h.blocks
        (λ c l. each_of (NamesFrame s part) c.instrs
        (λ i n again is.
        let p = place_of h.blocks c l in
        let at = place_of c.instrs i n in
        begin_result m k f begin split layout p.0 at.0 c i p.1 at.1 is))

    pub no_mark : (v : ℕ) → (IsMark s v → ⊥) → times v (row_of (block_marks s part) f.blocks) ≡ 0
    no_mark v never = times_none v (row_of (block_marks s part) h.blocks) (λ l. never ((ok m k f begin split layout part).are_marks v l))

    pub no_marks : (v : ℕ) → (v < s.base) ⊎ (first_name s ≤ v) → times v (row_of (block_marks s part) f.blocks) ≡ 0
    no_marks v side = no_mark v (λ x. on side x)
      where
        old : v < s.base → IsMark s v → ⊥
        old low (Begun e) = absurd (omega (arith, low, e))
        old low (Saved j less e) = absurd (omega (arith, low, e))
        old low (Passed j less e) = absurd (omega (arith, low, e))

        on : (v < s.base) ⊎ (first_name s ≤ v) → IsMark s v → ⊥
        on (inl low) x = old low x
        on (inr high) x = let less : v < first_name s = mark_low s part h (ok m k f begin split layout part) v x in absurd (omega (arith, high, less))
