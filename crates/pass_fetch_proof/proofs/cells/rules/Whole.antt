-- The whole function is woven.
use Rattle.std.proofs.Common.{◌≡◌, inl, inr, ⊎_elim, ℕ, zero, suc, ◌+◌, ◌<◌, ◌≤◌, Bool, List, [], ◌∷◌, ◌++◌, length, refl, sym, ap, ◌∙◌, subst, arith}
use Rattle.std.specs.Prelude.{Option, Some, None, replicate, slice_get, if◌then◌else◌}
use Rattle.pass_fetch_proof.proofs.cells.rules.Around.{stored_params_put}
use Rattle.pass_fetch_proof.proofs.cells.rules.Counts.{phis_rise}
use Rattle.pass_fetch_proof.proofs.cells.rules.Ends.{AreBlocksEnds, AreEndsFetches, HasRow, blank_fetches, blocks_fetches, blocks_there}
use Rattle.pass_fetch_proof.proofs.cells.rules.Fronts.{ACell, HasCells, IsCell, cells_put, kept_cells, link_cells}
use Rattle.pass_fetch_proof.proofs.cells.rules.Goods.{block_good}
use Rattle.pass_fetch_proof.proofs.cells.rules.Keepable.{blocks_tell, keeping_holds, once, params_tell}
use Rattle.pass_fetch_proof.proofs.cells.rules.Labels.{IsLabel, entry_unreturned, labels_there}
use Rattle.pass_edges_proof.proofs.rule_laws.rules.counted.Lists.{made_listed, row_joined}
use Rattle.pass_edges_proof.proofs.ir_laws.paths.woven_rules.Unbroken.{each_listed}
use Rattle.pass_edges_proof.proofs.rule_laws.rules.counted.Members.{made_either}
use Rattle.pass_fetch_proof.proofs.cells.rules.NewNames.{blocks_are, blocks_told, coroutine_is, defined_below, ends, fetched, first_kept, first_kept_low, first_phi, first_phi_low, first_use, first_use_low, front, last_low, made_once, name_is, params_are, plan, result, result_of_is, table, weaving}
use Rattle.pass_fetch_proof.proofs.cells.rules.Planned.{IsPlanned, planned_fetches}
use Rattle.pass_fetch_proof.proofs.cells.rules.Plans.{kept_cells_are, plan_is}
use Rattle.pass_edges_proof.proofs.rule_laws.rules.counted.Puts.{ArePut, puts_joined}
use Rattle.pass_fetch_proof.proofs.cells.rules.Single.{IsSound, IsTold}
use Rattle.pass_edges_proof.proofs.rule_laws.rules.counted.Slots.{alloca_slot}
use Rattle.pass_fetch_proof.proofs.cells.rules.Totals.{block_rise, written_rise}
use Rattle.pass_fetch_proof.proofs.cells.rules.WovenBlocks.{HasEnd, IsEndOf, block_has_end, block_woven, blocks_have_ends, blocks_woven, end_of}
use Rattle.pass_fetch_proof.specs.cells.rules.Asked.{AreCellsFor}
use Rattle.pass_fetch_proof.specs.cells.rules.Weaving.{front_allocas, front_cells}
use Rattle.pass_edges_proof.specs.rule_uses.Undefined.{params_of}
use Rattle.pass_edges_proof.specs.rule_uses.Uses.{made_by_instrs, phi_values, values_in}
use Rattle.pass_edges_proof.proofs.ir_laws.facts.Members.{each_there, each_joined, each_left}
use Rattle.pass_edges_proof.proofs.ir_laws.facts.Truth.{itself}
use Rattle.pass_edges_proof.proofs.rule_laws.rules.local_rules.Names.{numbers}
use Rattle.pass_edges_proof.proofs.rule_laws.rules.local_rules.ValueKinds.{kind_none}
use Rattle.pass_edges_proof.proofs.rule_laws.rules.source_rules.Locals.{block_names, made_by}
use Rattle.pass_edges_proof.proofs.ir_laws.paths.source_rules.Locals.{in_row, listed_either, listed_left, listed_right}
use Rattle.pass_edges_proof.proofs.ir_laws.facts.Lists.{row_of}
use Rattle.pass_edges_proof.specs.flow_solver.Paths.{IsListed}
use Rattle.pass_edges_proof.specs.rule_laws.rules.function_rules.Kept.{KeepsFunctionRules}
use Rattle.ir_model.specs.Ty.{Ty}
use Rattle.ir_model.specs.declared.instr.Incoming.{Incoming}
use Rattle.ir_model.specs.declared.instr.Instr.{Instr}
use Rattle.ir_model.specs.declared.instr.Phi.{Phi}
use Rattle.ir_model.specs.declared.module.Block.{Block}
use Rattle.ir_model.specs.declared.module.Function.{Function}
use Rattle.ir_model.specs.declared.module.Module.{Module}
use Rattle.pass_edges_proof.specs.run_laws.changed.Changed.{Each}
use Rattle.pass_edges_proof.specs.pass_fetch.Blocks.{fetched_block, fetched_blocks, next_after_block, next_after_phis}
use Rattle.pass_edges_proof.specs.pass_fetch.declared.fetch.Fetch.{Fetch}
use Rattle.pass_edges_proof.specs.pass_cells.Moves.{again_values, cell_alloca}
use Rattle.pass_edges_proof.specs.pass_cells.Written.{after_block, again_row, entry_blocks, kept_allocas, link_allocas, row_at, stored_params, stored_phis, written_block, written_blocks}
use Rattle.pass_edges_proof.specs.pass_cells.declared.plan.Plan.{Plan}
use Rattle.pass_edges_proof.specs.rule_values.declared.kinds.Kind.{Kind}
use Rattle.pass_edges_proof.specs.rule_laws.rules.woven_rules.Blocks.{AreWovenBlocks, IsFront, IsWoven, NoBlock, OneBlock}
use Rattle.pass_edges_proof.specs.rule_laws.rules.woven_rules.Weaving.{New, Weaving}

-- ---- cells are addresses

cells_are : (w : Weaving) (f : Function) (is : List Instr) → Each (IsCell w.first) is → Each (IsTold w) is → (c : ℕ) → IsListed c (row_of made_by is) → (w.first ≤ c) × (w.kinds c ≡ Some Kind.Ptr)
cells_are w f [] h told c l = absurd l
cells_are w f (i ∷ is) h told c l = ⊎_elim (one i h.0 told.0) (λ r. cells_are w f is h.1 told.1 c r) (listed_either c (made_by i) (row_of made_by is) l)
  where
    one : (i : Instr) → IsCell w.first i → IsTold w i → IsListed c (made_by i) → (w.first ≤ c) × (w.kinds c ≡ Some Kind.Ptr)
    one _ (ACell n t cell low) tell (inl e) = (subst (λ (k : ℕ). w.first ≤ k) (sym e) low, ap w.kinds e ∙ sym (tell n refl low).kind ∙ ap (λ (b : Bool). if b then Some Kind.Ptr else None) (itself n))
    one _ (ACell n t cell low) tell (inr x) = absurd x

left_row : (c : ℕ) (xs ys : List Instr) → IsListed c (row_of made_by xs) → IsListed c (row_of made_by (xs ++ ys))
left_row c xs ys h = subst (λ (l : List ℕ). IsListed c l) (sym (row_joined made_by xs ys)) (listed_left c (row_of made_by xs) (row_of made_by ys) h)

-- the alloca of a cell in the entry block
pub record FrontAlloca (g : Function) (c : ℕ) : Type 0 where
  pub block : Block
  pub got : slice_get g.blocks 0 ≡ Some block
  pub ty : Ty
  pub listed : IsListed (cell_alloca c ty) block.instrs

-- the alloca of a cell among others
alloca_there : (first : ℕ) (is : List Instr) → Each (IsCell first) is → (c : ℕ) → IsListed c (row_of made_by is) → (t : Ty) × IsListed (cell_alloca c t) is
alloca_there first [] h c l = absurd l
alloca_there first (i ∷ is) h c l = ⊎_elim (one i h.0) (λ r. let x = alloca_there first is h.1 c r in (x.0, inr x.1)) (listed_either c (made_by i) (row_of made_by is) l)
  where
    one : (i : Instr) → IsCell first i → IsListed c (made_by i) → (t : Ty) × IsListed (cell_alloca c t) (i ∷ is)
    one _ (ACell n t cell low) (inl e) = (t, inl (ap (λ (k : ℕ). cell_alloca k t) e))
    one _ (ACell n t cell low) (inr x) = absurd x

-- a row of so many blanks
blank_length : (n : ℕ) → length (replicate {A = List Instr} n []) ≡ n
blank_length zero = refl
blank_length (suc n) = ap suc (blank_length n)

-- the blocks of the result have the labels of the function's
module _ (m : Module) (p : Plan) (t : List (Option Fetch)) (rows : List (List Instr)) where
  later_labels : (j n k : ℕ) (bs : List Block) (i : ℕ) (b : Block) → slice_get bs i ≡ Some b → IsLabel (written_blocks m p k (fetched_blocks t rows j n bs)) b.label
  later_labels j n k [] i b e = absurd (cc)
  later_labels j n k (c ∷ bs) zero b e = let same : c ≡ b = cc in record { at = 0; block = written_block m p [] k (fetched_block t rows j n c); got = refl; same = ap (λ (x : Block). x.label) same }
  later_labels j n k (c ∷ bs) (suc i) b e =
      let x = later_labels (next_after_phis t j c.phis) (next_after_block t n c) (after_block m p k (fetched_block t rows j n c)) bs i b e in
      record { at = suc x.at; block = x.block; got = x.got; same = x.same }

  all_labels : (start : List Instr) (j n k : ℕ) (bs : List Block) (i : ℕ) (b : Block) → slice_get bs i ≡ Some b → IsLabel (entry_blocks m p start k (fetched_blocks t rows j n bs)) b.label
  all_labels start j n k [] i b e = absurd (cc)
  all_labels start j n k (c ∷ bs) zero b e = let same : c ≡ b = cc in record { at = 0; block = written_block m p start k (fetched_block t rows j n c); got = refl; same = ap (λ (x : Block). x.label) same }
  all_labels start j n k (c ∷ bs) (suc i) b e =
      let x = later_labels (next_after_phis t j c.phis) (next_after_block t n c) (after_block m p k (fetched_block t rows j n c)) bs i b e in
      record { at = suc x.at; block = x.block; got = x.got; same = x.same }

module _ (m : Module) (k : ℕ) (f : Function) (rules : KeepsFunctionRules m k f) (crossing : List (ℕ × ℕ)) (local : List Bool) (asked : AreCellsFor k f crossing local) where
  abbrev pub p : Plan
  p = plan m k f rules crossing local asked

  abbrev pub g : Function
  g = result m k f rules crossing local asked

  abbrev pub w : Weaving
  w = weaving m k f rules crossing local asked

  abbrev pub t : List (Option Fetch)
  t = table m p f

  abbrev pub rows : List (List Instr)
  rows = ends m p f

  abbrev pub start : List Instr
  start = front m p f

  abbrev pub cells : List Instr
  cells = front_allocas p

  told : Each (λ b. Each (IsTold w) b.instrs) g.blocks
  told = blocks_told m k f rules crossing local asked

  -- ---- labels

  label_of_block : (label : ℕ) → IsLabel f.blocks label → IsLabel g.blocks label
  label_of_block label x =
      subst (λ (bs : List Block). IsLabel bs label) (sym (blocks_are m p f))
      (subst (λ (n : ℕ). IsLabel (entry_blocks m p start (first_kept m p f) (fetched m p f)) n) x.same
      (all_labels m p t rows start (first_phi m p f) (first_use m p f) (first_kept m p f) f.blocks x.at x.block x.got))

  label_has_row : (i : Incoming) → IsLabel f.blocks i.from → HasRow t (first_phi m p f) i
  label_has_row i x =
      let listed : IsListed i.from (numbers f) = listed_right i.from (params_of f) (row_of block_names f.blocks) (in_row block_names f.blocks x.at i.from x.block x.got (inl (sym x.same))) in
      let lt : i.from < length f.names = defined_below m k f rules crossing local asked i.from listed in
      let low : length f.names ≤ first_phi m p f = first_phi_low m k f rules crossing local asked in
      omega (arith, lt, low)

  over_incoming : (P Q : Incoming → Type 0) → ((i : Incoming) → P i → Q i) → (is : List Incoming) → Each P is → Each Q is
  over_incoming P Q h [] e = tt
  over_incoming P Q h (i ∷ is) e = (h i e.0, over_incoming P Q h is e.1)

  over_phis : (P Q : Incoming → Type 0) → ((i : Incoming) → P i → Q i) → (ps : List Phi) → Each (λ q. Each P q.incoming) ps → Each (λ q. Each Q q.incoming) ps
  over_phis P Q h [] e = tt
  over_phis P Q h (q ∷ ps) e = (over_incoming P Q h q.incoming e.0, over_phis P Q h ps e.1)

  -- of all blocks
  over_blocks : (Q : Incoming → Type 0) → ((i : Incoming) → IsLabel f.blocks i.from → Q i) → Each (λ b. Each (λ q. Each Q q.incoming) b.phis) f.blocks
  over_blocks Q h = each_there _ f.blocks (λ j b got. over_phis (λ i. IsLabel f.blocks i.from) Q h b.phis (labels_there m k f rules j b got))

  phi_rows : AreBlocksEnds t rows (first_phi m p f) f.blocks
  phi_rows = blocks_there t rows (first_phi m p f) (first_phi m p f) (replicate (first_phi m p f) []) f.blocks (blank_length (first_phi m p f)) (over_blocks (HasRow t (first_phi m p f)) label_has_row) (λ l x h. h)

  -- ---- cells

  kept_are : Each (HasCells (length f.names)) p.kept
  kept_are = each_there _ p.kept (λ at x e. kept_cells_are w m f crossing local (keeping_holds m k f rules crossing local asked) (params_tell m k f rules crossing local asked) (blocks_tell m k f rules crossing local asked) at x e)

  cells_hold : Each (IsCell (length f.names)) cells
  cells_hold =
      each_joined (IsCell (length f.names)) (kept_allocas p.kept) (link_allocas (length f.names) (length p.kept) p.links) (kept_cells (length f.names) p.kept kept_are) (link_cells (length f.names) (length p.kept) p.links)

  -- ---- a function with an entry block

  module _ (b : Block) (bs : List Block) (blocks : f.blocks ≡ b ∷ bs) where
    abbrev pub j0 : ℕ
    j0 = first_phi m p f

    abbrev pub n0 : ℕ
    n0 = first_use m p f

    abbrev pub k0 : ℕ
    k0 = first_kept m p f

    abbrev pub fb : Block
    fb = fetched_block t rows j0 n0 b

    abbrev pub first_block : Block
    first_block = written_block m p start k0 fb

    abbrev pub rest : List Block
    rest = written_blocks m p (after_block m p k0 fb) (fetched_blocks t rows (next_after_phis t j0 b.phis) (next_after_block t n0 b) bs)

    pub result_is : g.blocks ≡ first_block ∷ rest
    result_is = blocks_are m p f ∙ ap (λ (xs : List Block). entry_blocks m p start k0 (fetched_blocks t rows j0 n0 xs)) blocks

    told_all : Each (λ c. Each (IsTold w) c.instrs) (first_block ∷ rest)
    told_all = subst (λ (xs : List Block). Each (λ c. Each (IsTold w) c.instrs) xs) result_is told

    abbrev kept : List Instr
    kept = again_values p.kept k0 (again_row p b.label)

    abbrev phis : List Instr
    phis = stored_phis p fb.phis

    told_start : Each (IsTold w) start
    told_start =
        each_left (IsTold w) start kept
        (each_left (IsTold w) (start ++ kept) phis
        (each_left (IsTold w) ((start ++ kept) ++ phis) _ told_all.0))

    told_cells : Each (IsTold w) cells
    told_cells = each_left (IsTold w) cells (stored_params p f.params) told_start

    fronts_are : w.fronts ≡ made_by_instrs [] cells
    fronts_are = ap (front_cells p) blocks

    front_made : (c : ℕ) → IsListed c w.fronts → IsListed c (row_of made_by cells)
    front_made c h = ⊎_elim (λ x. absurd x) (λ r. r) (made_either cells [] c (subst (λ (l : List ℕ). IsListed c l) fronts_are h))

    made_front : (c : ℕ) → IsListed c (row_of made_by cells) → IsListed c w.fronts
    made_front c h = subst (λ (l : List ℕ). IsListed c l) (sym fronts_are) (made_listed cells [] c h)

    pub sound : IsSound w f
    sound =
        record {
          old = λ n low. kind_none f n (λ l. let lt : n < length f.names = defined_below m k f rules crossing local asked n l in absurd (omega (arith, lt, low)));
          goes = λ n. refl;
          low = λ n l. (cells_are w f cells cells_hold told_cells n (front_made n l)).0;
          addresses = λ n l. (cells_are w f cells cells_hold told_cells n (front_made n l)).1;
        }

    pub planned : IsPlanned w f p
    planned =
        plan_is w m f crossing local (keeping_holds m k f rules crossing local asked) (params_tell m k f rules crossing local asked) (blocks_tell m k f rules crossing local asked)
        made_front (omega arith) (λ s e. alloca_slot m k f s (once m k f rules crossing local asked s) rules.local.allocas (asked.slots s e))

    pub loads : AreEndsFetches w rows
    loads = blocks_fetches w f sound t (planned_fetches w f p planned) j0 (replicate j0 []) f.blocks (first_phi_low m k f rules crossing local asked) (blank_fetches w j0)

    have_ends : Each (HasEnd w m f g p sound planned rows loads) g.blocks
    have_ends =
        subst (λ (xs : List Block). Each (HasEnd w m f g p sound planned rows loads) xs) (sym result_is) (
          block_has_end w m f g p sound planned rows loads start j0 n0 k0 b (first_use_low m k f rules crossing local asked),
          blocks_have_ends w m f g p sound planned rows loads (next_after_phis t j0 b.phis) (next_after_block t n0 b) (after_block m p k0 fb) bs (use_next_low b),
        )
      where
        use_next_low : (b : Block) → w.first ≤ next_after_block t n0 b
        use_next_low b = let low = first_use_low m k f rules crossing local asked in let rise = block_rise 0 t rows n0 b in omega (arith, low, rise)

    ready : Each (λ c. Each (λ q. Each (λ i. IsEndOf w m f g p sound planned rows loads i.from) q.incoming) c.phis) (b ∷ bs)
    ready =
        subst (λ (xs : List Block). Each (λ c. Each (λ q. Each (λ i. IsEndOf w m f g p sound planned rows loads i.from) q.incoming) c.phis) xs) blocks
        (over_blocks (λ i. IsEndOf w m f g p sound planned rows loads i.from) (λ i x. end_of w m f g p sound planned rows loads have_ends told i.from (label_of_block i.from x)))

    rows_there : AreBlocksEnds t rows j0 (b ∷ bs)
    rows_there = subst (λ (xs : List Block). AreBlocksEnds t rows j0 xs) blocks phi_rows

    at_entry : slice_get f.blocks 0 ≡ Some b
    at_entry = ap (λ (xs : List Block). slice_get xs 0) blocks

    none_again : again_row p b.label ≡ []
    none_again = ap (row_at p.rows) (entry_unreturned m k f rules crossing local asked b at_entry)

    abbrev made0 : List ℕ
    made0 = phi_values first_block

    start_made : (c : ℕ) → IsListed c w.fronts → IsListed c (made_by_instrs made0 start)
    start_made c l =
        made_listed start made0 c
        (subst (λ (ns : List ℕ). IsListed c ns) (sym (row_joined made_by cells (stored_params p f.params))) (listed_left c (row_of made_by cells) (row_of made_by (stored_params p f.params)) (front_made c l)))

    cells_made : (c : ℕ) → IsListed c w.fronts → IsListed c (made_by_instrs made0 cells)
    cells_made c l = made_listed cells made0 c (front_made c l)

    start_put : ArePut w m f 0 made0 start
    start_put =
        puts_joined w m f 0 made0 cells (stored_params p f.params) (cells_put w m f made0 cells cells_hold told_cells)
        (stored_params_put w m f p 0 sound planned (made_by_instrs made0 cells) f.params (λ c l. New c (sound.low c l) (cells_made c l)) (λ n l. l))

    again_none : ArePut w m f 0 (made_by_instrs made0 start) kept
    again_none = subst (λ (row : List ℕ). ArePut w m f 0 (made_by_instrs made0 start) (again_values p.kept k0 row)) (sym none_again) tt

    blocks_are_woven : AreWovenBlocks w m f g 0 f.blocks g.blocks
    blocks_are_woven =
        subst (λ (xs : List Block). AreWovenBlocks w m f g 0 xs g.blocks) (sym blocks)
        (subst (λ (xs : List Block). AreWovenBlocks w m f g 0 (b ∷ bs) xs) (sym result_is)
        (OneBlock 0 b first_block bs rest
        (block_woven w m f g p sound planned rows loads 0 b start j0 n0 k0 (block_good m k f rules crossing local asked p refl 0 b at_entry)
        (first_phi_low m k f rules crossing local asked) (first_use_low m k f rules crossing local asked) (first_kept_low m k f rules crossing local asked)
        start_put (λ c l. New c (sound.low c l) (start_made c l)) again_none rows_there.0 ready.0 told_all.0)
        (blocks_woven w m f g p sound planned rows loads (0 + 1) (next_after_phis t j0 b.phis) (next_after_block t n0 b) (after_block m p k0 fb) bs
        (λ i c e. block_good m k f rules crossing local asked p refl (0 + 1 + i) c (let same : 0 + 1 + i ≡ suc i = omega arith in ap (slice_get f.blocks) same ∙ ap (λ (xs : List Block). slice_get xs (suc i)) blocks ∙ e))
        (λ e. absurd (omega (arith, e)))
        (let low = first_phi_low m k f rules crossing local asked in let rise = phis_rise 0 t j0 b.phis in omega (arith, low, rise))
        (let low = first_use_low m k f rules crossing local asked in let rise = block_rise 0 t rows n0 b in omega (arith, low, rise))
        (let low = first_kept_low m k f rules crossing local asked in let rise = written_rise 0 m p k0 fb in omega (arith, low, rise))
        rows_there.1 ready.1 told_all.1)))

    fronts_made : Each (IsFront w g) w.fronts
    fronts_made =
        each_listed (IsFront w g) w.fronts
        (λ c l. (
          sound.low c l,
          subst (λ (o : Option Block). IsListed c (values_in o)) (sym (ap (λ (xs : List Block). slice_get xs 0) result_is))
              (made_listed first_block.instrs made0 c (in_first c (listed_left c (row_of made_by cells) (row_of made_by (stored_params p f.params)) (front_made c l)))),
        ))
      where
        in_first : (c : ℕ) → IsListed c (row_of made_by cells ++ row_of made_by (stored_params p f.params)) → IsListed c (row_of made_by first_block.instrs)
        in_first c l =
            left_row c ((start ++ kept) ++ phis) _ (left_row c (start ++ kept) phis (left_row c start kept (subst (λ (ns : List ℕ). IsListed c ns) (sym (row_joined made_by cells (stored_params p f.params))) l)))

    -- a cell's alloca stands in the entry block
    front_alloca : (c : ℕ) → IsListed c w.fronts → FrontAlloca g c
    front_alloca c l =
        let x = alloca_there (length f.names) cells cells_hold c (front_made c l) in
        record {
          block = first_block;
          got = ap (λ (xs : List Block). slice_get xs 0) result_is;
          ty = x.0;
          listed =
              listed_left (cell_alloca c x.0) ((start ++ kept) ++ phis) _
              (listed_left (cell_alloca c x.0) (start ++ kept) phis
              (listed_left (cell_alloca c x.0) start kept (listed_left (cell_alloca c x.0) cells (stored_params p f.params) x.1)));
        }

  -- ---- the function

  front_by : (bs : List Block) → f.blocks ≡ bs → (c : ℕ) → IsListed c w.fronts → FrontAlloca g c
  front_by [] e c l = absurd (subst (λ (xs : List Block). IsListed c (front_cells p xs)) e l)
  front_by (b ∷ bs) e c l = front_alloca b bs e c l

  pub front_is : (c : ℕ) → IsListed c w.fronts → FrontAlloca g c
  front_is c l = front_by f.blocks refl c l

  woven_by : (bs : List Block) → f.blocks ≡ bs → AreWovenBlocks w m f g 0 f.blocks g.blocks × Each (IsFront w g) w.fronts
  woven_by [] e = (
    subst (λ (xs : List Block). AreWovenBlocks w m f g 0 xs g.blocks) (sym e)
        (subst (λ (xs : List Block). AreWovenBlocks w m f g 0 [] xs) (sym (blocks_are m p f ∙ ap (λ (xs : List Block). entry_blocks m p start (first_kept m p f) (fetched_blocks t rows (first_phi m p f) (first_use m p f) xs)) e)) (NoBlock 0)),
    subst (Each (IsFront w g)) (sym (ap (front_cells p) e)) tt,
  )
  woven_by (b ∷ bs) e = (blocks_are_woven b bs e, fronts_made b bs e)

  pub is_woven : IsWoven w m f g
  is_woven =
      let both = woven_by f.blocks refl in
      record {
        name = name_is m p f;
        result = result_of_is m p f;
        params = params_are m p f;
        coroutine = coroutine_is m p f;
        first = refl;
        after = refl;
        grows = last_low m k f rules crossing local asked;
        blocks = both.0;
        fronts = both.1;
        once = λ n low. made_once m k f rules crossing local asked n low;
      }
