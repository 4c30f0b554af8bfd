-- Where what is written around an instruction takes its new names: behind those of loads, and within those of the
-- function.
use Rattle.std.proofs.Common.{◌≡◌, ℕ, zero, suc, ◌-◌, ◌≤◌, List, [], ◌∷◌, ◌++◌, length, Option, Some, None, refl, sym, ap, ◌∙◌, subst, arith, append_assoc, length-append}
use Rattle.std.specs.Prelude.{codes, drop, slice_get, take, unwrap_or}
use Rattle.pass_frames_proof.specs.ir_model.declared.instr.Instr.{Instr}
use Rattle.pass_frames_proof.specs.ir_model.declared.module.Block.{Block}
use Rattle.pass_frames_proof.specs.ir_model.declared.module.Module.{Module}
use Rattle.pass_frames_proof.specs.ir_parts.Contents.{instr_operands}
use Rattle.pass_frames_proof.specs.pass_cells.Cells.{fetched_function, fetches_of}
use Rattle.pass_frames_proof.specs.pass_cells.Moves.{after_again}
use Rattle.pass_frames_proof.specs.pass_cells.Written.{after_block, after_blocks, after_instrs, after_one, again_row}
use Rattle.pass_frames_proof.specs.pass_cells.declared.plan.Plan.{Plan}
use Rattle.pass_frames_proof.specs.pass_fetch.Blocks.{numbered_names}
use Rattle.pass_frames_proof.specs.pass_fetch.Fetching.{fetches_of_all, next_after_all}
use Rattle.pass_frames_proof.specs.pass_fetch.Instrs.{next_after_instr, next_after_instrs, with_fetched}
use Rattle.pass_frames_meaning.proofs.order.Counts.{at_one, instrs_to}
use Rattle.pass_frames_proof.proofs.code.Left.{parts_left}
use Rattle.pass_frames_proof.proofs.code.Passes.{fetches_made}
use Rattle.pass_frames_proof.proofs.layers.Grown.{both_passed, grown_append}
use Rattle.pass_frames_proof.proofs.layers.Idle.{state_stays}
use Rattle.pass_frames_proof.proofs.layers.Standing.{split_at}
use Rattle.pass_frames_proof.specs.Code.{load_name, loaded, loads as loads_of, write_name}
use Rattle.pass_frames_proof.specs.Framings.{IsFraming}
use Rattle.pass_frames_proof.specs.Layers.{IsMadeBy, becomes, grown, passed, woven}
use Rattle.pass_frames_proof.specs.Passes.{IsBlockMade, block_at, no_block}
use Rattle.pass_frames_proof.specs.Places.{Celled, Framing, Placed, celled_layer, edged, fetched, instrs_at, loading_layer, named, placed_layer, plan, writing_layer, written}
use Rattle.pass_frames_proof.specs.Stepping.{state_in}
use Rattle.pass_frames_proof.proofs.pass_proofs.cells.rules.Around.{again_low}
use Rattle.pass_frames_proof.proofs.pass_proofs.cells.rules.Counts.{written_low}
use Rattle.pass_frames_proof.proofs.pass_proofs.cells.rules.Totals.{all_rise, numbered_length}

-- ---- all blocks

module _ (m : Module) (p : Plan) where
  blocks_to : (n : ℕ) (bs : List Block) (k : ℕ) (b : Block) → slice_get bs k ≡ Some b
      → after_block m p (after_blocks m p n (take k bs)) b ≤ after_blocks m p n bs
  blocks_to n [] k b e = absurd (cc)
  blocks_to n (c ∷ bs) zero b e =
      let same : c ≡ b = cc in
      subst (λ (d : Block). after_block m p n d ≤ after_blocks m p n (c ∷ bs)) same
      (all_rise 0 m p (after_block m p n c) bs)
  blocks_to n (c ∷ bs) (suc k) b e = blocks_to (after_block m p n c) bs k b e

  -- one among them takes no more than all
  joined : (n : ℕ) (xs ys : List Instr)
      → after_instrs m p n (xs ++ ys) ≡ after_instrs m p (after_instrs m p n xs) ys
  joined n [] ys = refl
  joined n (x ∷ xs) ys = joined (after_one m p n x) xs ys

module _ (x : Framing) (is : IsFraming x) (k : ℕ) where
  abbrev L : ℕ → List Instr → ℕ
  L n is = after_instrs x.code (plan x) n is

  -- ---- the state of what is written

  celled_passed : (s : Placed) (js : List Instr)
      → (passed (placed_layer x k) s js).0.0.0 ≡ passed (celled_layer x k) s.0.0.0 js
  celled_passed s [] = refl
  celled_passed s (j ∷ js) = celled_passed ((placed_layer x k).after s j) js

  instrs_passed : (n : ℕ) (js : List Instr) → passed (writing_layer x k) n js ≡ L n js
  instrs_passed n [] = refl
  instrs_passed n (j ∷ js) = instrs_passed (after_one x.code (plan x) n j) js

  abbrev before : ℕ → List Instr
  before at = grown (loading_layer x k) (loading_layer x k).start (take at (instrs_at x k))

  abbrev W0 : ℕ
  W0 = (writing_layer x k).start

  write_is : (at : ℕ) → write_name (state_in x k at) ≡ L W0 (before at)
  write_is at =
      ap (λ (s : Celled). s.1) (celled_passed (placed_layer x k).start (take at (instrs_at x k))
      ∙ both_passed (loading_layer x k) (writing_layer x k) (loading_layer x k).start W0 (take at (instrs_at x k)))
      ∙ instrs_passed W0 (before at)

  first : ℕ
  first = after_blocks x.code (plan x) (length (fetched x).names) (take k (fetched x).blocks)

  first_is : first ≡ after_blocks x.code (plan x) (length (fetched x).names) (take k (fetched x).blocks)
  unfolding first
  first_is = refl

  -- behind the names of loads
  pub write_low : (at : ℕ) → length (fetched x).names ≤ write_name (state_in x k at)
  write_low at =
      let a : length (fetched x).names ≤ first =
      subst (λ (n : ℕ). length (fetched x).names ≤ n) (sym first_is)
      (all_rise 0 x.code (plan x) (length (fetched x).names) (take k (fetched x).blocks)) in
      let b : first ≤ W0 =
      subst (λ (n : ℕ). n ≤ W0) (sym first_is)
      (again_low _ _ (again_row (plan x) (block_at (fetched x) k).label) (omega arith)) in
      let c : W0 ≤ L W0 (before at) = written_low 0 x.code (plan x) W0 (before at) in
      let e = write_is at in
      omega (arith, a, b, c, e)

  written_names : length (written x).names ≡ after_blocks x.code (plan x) (length (fetched x).names) (fetched x).blocks
  written_names =
      let last : ℕ = after_blocks x.code (plan x) (length (fetched x).names) (fetched x).blocks in
      let up : length (fetched x).names ≤ last =
      all_rise 0 x.code (plan x) (length (fetched x).names) (fetched x).blocks in
      let long : length (numbered_names (codes "$c.kept.") (last - length (fetched x).names))
      ≡ last - length (fetched x).names =
      numbered_length (codes "$c.kept.") (last - length (fetched x).names) in
      let sum = length-append (fetched x).names
      (numbered_names (codes "$c.kept.") (last - length (fetched x).names)) in
      omega (arith, up, long, sum)

  -- ---- an instruction

  module _ (at : ℕ) (i : Instr) (there : slice_get (instrs_at x k) at ≡ Some i) where
    abbrev n : Placed
    n = state_in x k at

    block_there : (b : Block) × (slice_get (edged x).blocks k ≡ Some b) × (b.instrs ≡ instrs_at x k)
    block_there = on (slice_get (edged x).blocks k) refl there
      where
        on : (o : Option Block) → slice_get (edged x).blocks k ≡ o → slice_get (unwrap_or o no_block).instrs at ≡ Some i
            → (b : Block) × (slice_get (edged x).blocks k ≡ Some b) × (b.instrs ≡ instrs_at x k)
        on None d h = absurd (cc)
        on (Some b) d h = (b, d, sym (ap (λ (o : Option Block). (unwrap_or o no_block).instrs) d))

    -- the block with its loads
    loaded_there : IsBlockMade (loading_layer x k) (named x) (fetched x) k
    unfolding fetched_function
    loaded_there = fetches_made (named x) (fetches_of (plan x)) (codes "$c.use.") k

    abbrev made : (c : Block) × (slice_get (fetched x).blocks k ≡ Some c)
        × IsMadeBy (loading_layer x k) block_there.0 c
    made = loaded_there block_there.0 block_there.1

    abbrev s0 : ℕ
    s0 = passed (loading_layer x k) (loading_layer x k).start (take at (instrs_at x k))

    load_same : s0 ≡ load_name n
    load_same =
        sym (ap (λ (s : Celled). s.0) (celled_passed (placed_layer x k).start (take at (instrs_at x k))
        ∙ both_passed (loading_layer x k) (writing_layer x k) (loading_layer x k).start W0 (take at (instrs_at x k))))

    abbrev later : List Instr
    later =
        grown (loading_layer x k) ((loading_layer x k).after s0 i) (drop (suc at) (instrs_at x k))
        ++ (loading_layer x k).back (passed (loading_layer x k) (loading_layer x k).start (instrs_at x k))

    grown_is : grown (loading_layer x k) (loading_layer x k).start (instrs_at x k)
        ≡ before at
        ++ (becomes (loading_layer x k) s0 i
        ++ grown (loading_layer x k) ((loading_layer x k).after s0 i) (drop (suc at) (instrs_at x k)))
    grown_is =
        ap (λ (js : List Instr). grown (loading_layer x k) (loading_layer x k).start js)
        (split_at (instrs_at x k) at i there)
        ∙ grown_append (loading_layer x k) (loading_layer x k).start (take at (instrs_at x k))
        (i ∷ drop (suc at) (instrs_at x k))

    shaped : (a l r c : List Instr) (j : Instr) → (a ++ ((l ++ j ∷ []) ++ r)) ++ c ≡ a ++ (l ++ (j ∷ (r ++ c)))
    shaped a l r c j = simp append_assoc

    instrs_are : made.0.instrs ≡ before at ++ (loads_of x n i ++ (loaded x n i ∷ later))
    instrs_are =
        made.2.instrs
        ∙ ap (λ (js : List Instr). woven (loading_layer x k) js) block_there.2
        ∙ ap (λ (js : List Instr). js
        ++ (loading_layer x k).back (passed (loading_layer x k) (loading_layer x k).start (instrs_at x k))) grown_is
        ∙ shaped (before at) (fetches_of_all (fetches_of (plan x)) s0 (instr_operands i))
        (grown (loading_layer x k) ((loading_layer x k).after s0 i) (drop (suc at) (instrs_at x k)))
        ((loading_layer x k).back (passed (loading_layer x k) (loading_layer x k).start (instrs_at x k)))
        (with_fetched (fetches_of (plan x)) s0 i)
        ∙ ap (λ (q : ℕ). before at
        ++ (fetches_of_all (fetches_of (plan x)) q (instr_operands i)
        ++ (with_fetched (fetches_of (plan x)) q i ∷ later))) load_same

    loads_stay : (q : ℕ) → L q (loads_of x n i) ≡ q
    loads_stay q =
        sym (instrs_passed q (loads_of x n i))
        ∙ state_stays (writing_layer x k) (loads_of x n i) (parts_left x is k at i there).written q

    all_is : (q : ℕ) → L q (before at ++ (loads_of x n i ++ (loaded x n i ∷ later)))
        ≡ L (after_one x.code (plan x) (L q (before at)) (loaded x n i)) later
    all_is q =
        joined x.code (plan x) q (before at) (loads_of x n i ++ (loaded x n i ∷ later))
        ∙ joined x.code (plan x) (L q (before at)) (loads_of x n i) (loaded x n i ∷ later)
        ∙ ap (λ (r : ℕ). L r (loaded x n i ∷ later)) (loads_stay (L q (before at)))

    row_same : after_again first (again_row (plan x) made.0.label) ≡ W0
    unfolding first
    row_same =
        ap (λ (o : Option Block). after_again
        (after_blocks x.code (plan x) (length (fetched x).names) (take k (fetched x).blocks))
        (again_row (plan x) (unwrap_or o no_block).label)) (sym made.1)

    in_block : L W0 made.0.instrs ≤ length (written x).names
    unfolding first
    in_block =
        let a : after_block x.code (plan x)
        (after_blocks x.code (plan x) (length (fetched x).names) (take k (fetched x).blocks)) made.0
        ≤ after_blocks x.code (plan x) (length (fetched x).names) (fetched x).blocks =
        blocks_to x.code (plan x) (length (fetched x).names) (fetched x).blocks k made.0 made.1 in
        let b = written_names in
        subst (λ (q : ℕ). L q made.0.instrs ≤ length (written x).names) row_same (omega (arith, a, b))

    -- what is written around the instruction takes names of the function
    pub write_to : after_one x.code (plan x) (write_name n) (loaded x n i) ≤ length (written x).names
    write_to =
        let up : after_one x.code (plan x) (L W0 (before at)) (loaded x n i)
        ≤ L (after_one x.code (plan x) (L W0 (before at)) (loaded x n i)) later =
        written_low 0 x.code (plan x) (after_one x.code (plan x) (L W0 (before at)) (loaded x n i)) later in
        let all = all_is W0 in
        let block = in_block in
        let whole = ap (λ (js : List Instr). L W0 js) instrs_are in
        subst (λ (q : ℕ). after_one x.code (plan x) q (loaded x n i) ≤ length (written x).names) (sym (write_is at))
        (omega (arith, up, all, block, whole))

    -- and loads take names of the function with its uses loaded
    fetched_passed : (q : ℕ) (js : List Instr)
        → passed (loading_layer x k) q js ≡ next_after_instrs (fetches_of (plan x)) q js
    fetched_passed q [] = refl
    fetched_passed q (j ∷ js) = fetched_passed (next_after_instr (fetches_of (plan x)) q j) js

    pub loads_to : next_after_all (fetches_of (plan x)) (load_name n) (instr_operands i) ≤ length (fetched x).names
    unfolding fetched_function
    loads_to =
        let f : ℕ = (loading_layer x k).start in
        let b = block_there in
        let a : next_after_all (fetches_of (plan x)) (next_after_instrs (fetches_of (plan x)) f (take at (instrs_at x k)))
        (instr_operands i) ≤ next_after_instrs (fetches_of (plan x)) f (instrs_at x k) =
        at_one (fetches_of (plan x)) f (instrs_at x k) at i there in
        let e : next_after_instrs (fetches_of (plan x)) f b.0.instrs ≤ length (fetched x).names =
        instrs_to (fetches_of (plan x)) (named x) (codes "$c.use.") k b.0 b.1 in
        let d = ap (λ (js : List Instr). next_after_instrs (fetches_of (plan x)) f js) b.2 in
        let g = ap (λ (q : ℕ). next_after_all (fetches_of (plan x)) q (instr_operands i))
        (sym (fetched_passed f (take at (instrs_at x k))) ∙ load_same) in
        omega (arith, a, e, d, g)
