-- The blocks are woven, one after the other.
use Rattle.std.proofs.Common.{◌≡◌, inl, inr, ⊎_elim, ℕ, suc, ◌+◌, ◌≤◌, List, [], ◌∷◌, ◌++◌, length, refl, sym, ap, ◌∙◌, subst, arith, append_assoc}
use Rattle.std.specs.Prelude.{Option, Some, map, slice_get, unwrap_or, ◌==◌}
use Rattle.pass_fetch_proof.proofs.cells.rules.Around.{again_low, again_put, stored_phis_put}
use Rattle.pass_fetch_proof.proofs.cells.rules.Counts.{instrs_rise, operands_rise, phis_rise, written_low}
use Rattle.pass_fetch_proof.proofs.cells.rules.Ends.{AreBlocksEnds, AreEnds, AreEndsFetches, ArePhisEnds}
use Rattle.pass_fetch_proof.proofs.cells.rules.Fetched.{AreAtHand, AreFetches, IsFetch, all_fetches, all_in_place, operand_in_place, operand_low, operands_low, still_at_hand, term_stays}
use Rattle.pass_fetch_proof.proofs.cells.rules.Instrs.{AreGood, instrs_woven}
use Rattle.pass_fetch_proof.proofs.cells.rules.Labels.{IsLabel}
use Rattle.pass_edges_proof.proofs.rule_laws.rules.counted.Lists.{AreAmong, made_grows, made_joined, made_listed}
use Rattle.pass_fetch_proof.proofs.fetch.cells.Members.{fetched_phis_make}
use Rattle.pass_edges_proof.proofs.ir_laws.paths.woven_rules.Unbroken.{of_listed as listed_each}
use Rattle.pass_edges_proof.proofs.rule_laws.rules.counted.Members.{phis_made, row_among, row_to}
use Rattle.pass_fetch_proof.proofs.cells.rules.Members.{spread_has}
use Rattle.pass_fetch_proof.proofs.cells.rules.Planned.{IsPlanned, planned_fetches}
use Rattle.pass_edges_proof.proofs.rule_laws.rules.counted.Puts.{ArePut, puts_joined, puts_woven}
use Rattle.pass_fetch_proof.proofs.cells.rules.Single.{IsSound, IsTold}
use Rattle.pass_fetch_proof.proofs.cells.rules.Spread.{spread, spread_is}
use Rattle.pass_edges_proof.specs.rule_uses.Uses.{block_values, made_by_instrs, phi_values, values_at, values_in}
use Rattle.pass_edges_proof.proofs.ir_laws.facts.Members.{at_each, each_joined, each_left, each_right}
use Rattle.pass_edges_proof.proofs.ir_laws.facts.Truth.{equal_numbers, itself}
use Rattle.pass_edges_proof.proofs.rule_laws.rules.source_rules.Locals.{found_in, made_by}
use Rattle.pass_edges_proof.proofs.ir_laws.paths.source_rules.Locals.{listed_either, listed_left, listed_right}
use Rattle.pass_edges_proof.proofs.ir_laws.facts.Lists.{phi_names, row_of}
use Rattle.pass_edges_proof.specs.flow_solver.Paths.{IsListed}
use Rattle.pass_edges_proof.specs.ir_parts.Contents.{instr_operands}
use Rattle.ir_model.specs.Names.{position_of}
use Rattle.ir_model.specs.declared.instr.Incoming.{Incoming}
use Rattle.ir_model.specs.declared.instr.Instr.{Instr}
use Rattle.ir_model.specs.declared.instr.Phi.{Phi}
use Rattle.ir_model.specs.declared.module.Block.{Block}
use Rattle.ir_model.specs.declared.module.Function.{Function}
use Rattle.ir_model.specs.declared.module.Module.{Module}
use Rattle.pass_edges_proof.specs.run_laws.changed.Changed.{Each}
use Rattle.pass_edges_proof.specs.pass_fetch.Blocks.{end_at, fetched_block, fetched_blocks, fetched_incoming, fetched_phi, fetched_phis, next_after_block, next_after_phi, next_after_phis}
use Rattle.pass_edges_proof.specs.pass_fetch.Fetching.{fetched_operand, fetches_of, fetches_of_all, next_after}
use Rattle.pass_edges_proof.specs.pass_fetch.Instrs.{fetched_instrs, next_after_instrs, term_operands}
use Rattle.pass_edges_proof.specs.pass_fetch.declared.fetch.Fetch.{Fetch}
use Rattle.pass_edges_proof.specs.pass_cells.Cells.{fetches_of as fetch_table}
use Rattle.pass_edges_proof.specs.pass_cells.Moves.{after_again, again_values}
use Rattle.pass_edges_proof.specs.pass_cells.Written.{after_block, again_row, stored_phis, written_block, written_blocks, written_instrs}
use Rattle.pass_edges_proof.specs.pass_cells.declared.plan.Plan.{Plan}
use Rattle.pass_edges_proof.specs.rule_laws.rules.woven_rules.Blocks.{AreWoven, AreWovenBlocks, IsWovenBlock, NoBlock, OneBlock}
use Rattle.pass_edges_proof.specs.ir_laws.facts.woven_rules.Pairs.{Empty, Pair, Pairwise}
use Rattle.pass_edges_proof.specs.rule_laws.rules.woven_rules.Parts.{IncomingStays, PhiStays}
use Rattle.pass_edges_proof.specs.rule_laws.rules.woven_rules.Weaving.{Front, IsInPlace, Weaving}

module _ (w : Weaving) (m : Module) (f g : Function) (p : Plan) (ok : IsSound w f) (planned : IsPlanned w f p) (ends : List (List Instr)) (loads : AreEndsFetches w ends) where
  abbrev pub table : List (Option Fetch)
  table = fetch_table p

  abbrev fetches : AreFetches w f table
  fetches = planned_fetches w f p planned

  -- ---- what stands in a block

  abbrev pub behind : ℕ → Block → List Instr
  behind n b = end_at ends b.label ++ fetches_of_all table (next_after_instrs table n b.instrs) (term_operands b.term)

  instrs_low : (n : ℕ) (b : Block) → w.first ≤ n → w.first ≤ next_after_instrs table n b.instrs
  instrs_low n b low = let rises = instrs_rise 0 table n b.instrs in omega (arith, low, rises)

  pub behind_fetches : (n : ℕ) (b : Block) → w.first ≤ n → Each (IsFetch w) (behind n b)
  behind_fetches n b low =
      let last : ℕ = next_after_instrs table n b.instrs in
      each_joined (IsFetch w) (end_at ends b.label) (fetches_of_all table last (term_operands b.term)) (loads b.label) (all_fetches w f ok table fetches last (term_operands b.term) (instrs_low n b low))

  -- the written instructions of a block, in a row
  pub row_is : (j n k : ℕ) (b : Block) → w.first ≤ n → written_instrs m p k (fetched_block table ends j n b).instrs ≡ spread m p table k n b.instrs (behind n b)
  row_is j n k b low =
      ap (written_instrs m p k) (append_assoc (fetched_instrs table n b.instrs) (end_at ends b.label) (fetches_of_all table (next_after_instrs table n b.instrs) (term_operands b.term)))
      ∙ spread_is w m p (λ v at e. (planned.places v at e).low) table (λ x i l. all_fetches w f ok table fetches x (instr_operands i) l) (λ x i l. operands_low w f ok table fetches x (instr_operands i) l) k n b.instrs (behind n b) low (behind_fetches n b low)

  abbrev pub block_of : List Instr → ℕ → ℕ → ℕ → Block → Block
  block_of front j n k b = written_block m p front k (fetched_block table ends j n b)

  abbrev pub ahead : List Instr → ℕ → ℕ → Block → List Instr
  ahead front j k b = (front ++ again_values p.kept k (again_row p b.label)) ++ stored_phis p (fetched_phis table j b.phis)

  abbrev pub next_kept : ℕ → Block → ℕ
  next_kept k b = after_again k (again_row p b.label)

  -- what is fetched for phis and for the terminator stands in the block
  behind_in : (front : List Instr) (j n k : ℕ) (b : Block) → w.first ≤ n → (x : Instr) → IsListed x (behind n b) → IsListed x (block_of front j n k b).instrs
  behind_in front j n k b low x h =
      listed_right x (ahead front j k b) (written_instrs m p (next_kept k b) (fetched_block table ends j n b).instrs)
      (subst (λ (l : List Instr). IsListed x l) (sym (row_is j n (next_kept k b) b low)) (spread_has m p table (next_kept k b) n b.instrs (behind n b) x h))

  -- ---- phis

  -- what is fetched at the end of the block of a label is made there
  pub record IsEndOf (label : ℕ) : Type 0 where
    pub told : (x : Instr) → IsListed x (end_at ends label) → IsTold w x
    pub made : (x : Instr) → IsListed x (end_at ends label) → (n : ℕ) → IsListed n (made_by x) → IsListed n (values_at g (position_of g label))

  incoming_stay : (n : ℕ) (is : List Incoming) → AreEnds table ends n is → Each (λ i. IsEndOf i.from) is → w.first ≤ n → Pairwise (IncomingStays (λ from. IsInPlace w f (values_at g (position_of g from)))) is (fetched_incoming table n is)
  incoming_stay n [] h ready low = Empty
  incoming_stay n (i ∷ is) h ready low =
      let here : List Instr = fetches_of table n i.value in
      let there : (x : Instr) → IsListed x here → IsListed x (end_at ends i.from) = listed_each (λ x. IsListed x (end_at ends i.from)) here h.0 in
      Pair i (record { value = fetched_operand table n i.value; from = i.from }) is (fetched_incoming table (next_after table n i.value) is)
      (record {
        from = refl;
        value = operand_in_place w f ok table fetches (values_at g (position_of g i.from)) n i.value (among i n here there ready.0) (told i here there ready.0) low;
      })
      (incoming_stay (next_after table n i.value) is h.1 ready.1 (operand_low w f ok table fetches n i.value low))
    where
      told : (i : Incoming) (xs : List Instr) → ((x : Instr) → IsListed x xs → IsListed x (end_at ends i.from)) → IsEndOf i.from → Each (IsTold w) xs
      told i [] there end = tt
      told i (x ∷ xs) there end = (end.told x (there x (inl refl)), told i xs (λ y l. there y (inr l)) end)

      among : (i : Incoming) (n : ℕ) (xs : List Instr) → ((x : Instr) → IsListed x xs → IsListed x (end_at ends i.from)) → IsEndOf i.from → AreAmong (row_of made_by xs) (values_at g (position_of g i.from))
      among i n [] there end v l = absurd l
      among i n (x ∷ xs) there end v l = ⊎_elim (λ a. end.made x (there x (inl refl)) v a) (λ b. among i n xs (λ y e. there y (inr e)) end v b) (listed_either v (made_by x) (row_of made_by xs) l)

  phis_stay : (n : ℕ) (ps : List Phi) → ArePhisEnds table ends n ps → Each (λ q. Each (λ i. IsEndOf i.from) q.incoming) ps → w.first ≤ n → Pairwise (PhiStays (λ from. IsInPlace w f (values_at g (position_of g from)))) ps (fetched_phis table n ps)
  phis_stay n [] h ready low = Empty
  phis_stay n (q ∷ ps) h ready low =
      let rises : n ≤ next_after_phi table n q = operands_rise 0 table n (map (λ i. i.value) q.incoming) in
      Pair q (fetched_phi table n q) ps (fetched_phis table (next_after_phi table n q) ps)
      (record { result = refl; ty = refl; incoming = incoming_stay n q.incoming h.0 ready.0 low })
      (phis_stay (next_after_phi table n q) ps h.1 ready.1 (omega (arith, low, rises)))

  -- ---- a block

  pub block_woven : (at : ℕ) (b : Block) (front : List Instr) (j n k : ℕ) → AreGood m f p at (phi_values b) b.instrs → w.first ≤ j → w.first ≤ n → w.first ≤ k → ArePut w m f at (phi_values (block_of front j n k b)) front → AreAtHand w f at (made_by_instrs (phi_values (block_of front j n k b)) front) → ArePut w m f at (made_by_instrs (phi_values (block_of front j n k b)) front) (again_values p.kept k (again_row p b.label)) → ArePhisEnds table ends j b.phis → Each (λ q. Each (λ i. IsEndOf i.from) q.incoming) b.phis → Each (IsTold w) (block_of front j n k b).instrs → IsWovenBlock w m f g at b (block_of front j n k b)
  block_woven at b front j n k good low1 low2 low3 put hand again phi_ends ready told =
      let c : Block = block_of front j n k b in
      let made0 : List ℕ = phi_values c in
      let fb : Block = fetched_block table ends j n b in
      let kept : List Instr = again_values p.kept k (again_row p b.label) in
      let phis : List Instr = stored_phis p fb.phis in
      let first : List Instr = ahead front j k b in
      let k2 : ℕ = next_kept k b in
      let written : List Instr = written_instrs m p k2 fb.instrs in
      let row : List Instr = spread m p table k2 n b.instrs (behind n b) in
      let same : written ≡ row = row_is j n k2 b low2 in
      let made1 : List ℕ = made_by_instrs made0 (front ++ kept) in
      let made2 : List ℕ = made_by_instrs made0 first in
      let to1 : AreAmong (made_by_instrs made0 front) made1 = λ v l. subst (λ (ns : List ℕ). IsListed v ns) (sym (made_joined made0 front kept)) (made_grows kept (made_by_instrs made0 front) v l) in
      let to2 : AreAmong made1 made2 = λ v l. subst (λ (ns : List ℕ). IsListed v ns) (sym (made_joined made0 (front ++ kept) phis)) (made_grows phis made1 v l) in
      let hand1 : AreAtHand w f at made1 = still_at_hand w m f at (made_by_instrs made0 front) made1 to1 hand in
      let hand2 : AreAtHand w f at made2 = still_at_hand w m f at made1 made2 to2 hand1 in
      let phis_there : AreAmong (phi_names fb.phis) made1 = λ v l. made_grows (front ++ kept) made0 v (phis_made fb.phis [] v l) in
      let all_put : ArePut w m f at made0 first = puts_joined w m f at made0 (front ++ kept) phis (puts_joined w m f at made0 front kept put again) (stored_phis_put w m f p at ok planned made1 fb.phis hand1 phis_there) in
      let values : phi_values b ≡ made0 = sym (fetched_phis_make table j b.phis []) in
      let before : AreAmong (phi_values b) made2 = λ v l. made_grows first made0 v (subst (λ (ns : List ℕ). IsListed v ns) values l) in
      let told_row : Each (IsTold w) row = subst (Each (IsTold w)) same (each_right (IsTold w) first written told) in
      let low4 : w.first ≤ k2 = again_low w.first k (again_row p b.label) low3 in
      let last : ℕ = next_after_instrs table n b.instrs in
      let ops = term_operands b.term in
      let ending : List Instr = fetches_of_all table last ops in
      let in_block : (x : Instr) → IsListed x ending → IsListed x c.instrs = λ x l. behind_in front j n k b low2 x (listed_right x (end_at ends b.label) ending l) in
      let told_ending : Each (IsTold w) ending = each_of ending (λ x l. listed_each (IsTold w) c.instrs told x (in_block x l)) in
      record {
        label = refl;
        phis = phis_stay j b.phis phi_ends ready low1;
        instrs =
            puts_woven w m f at made0 first b.instrs written all_put
            (subst (λ (l : List Instr). AreWoven w m f at made2 b.instrs l) (sym same)
            (instrs_woven w m f p at ok planned (phi_values b) made2 k2 n b.instrs (behind n b) good before hand2 low4 low2 (behind_fetches n b low2) told_row));
        term = term_stays w f ok table fetches (block_values c) last b.term (all_in_place w f ok table fetches (block_values c) last ops (λ v l. made_listed c.instrs made0 v (row_among ending c.instrs in_block v l)) told_ending (instrs_low n b low2));
      }
    where
      each_of : (xs : List Instr) → ((x : Instr) → IsListed x xs → IsTold w x) → Each (IsTold w) xs
      each_of [] h = tt
      each_of (x ∷ xs) h = (h x (inl refl), each_of xs (λ y l. h y (inr l)))

  -- ---- blocks behind the entry block

  pub blocks_woven : (at j n k : ℕ) (bs : List Block) → ((i : ℕ) (b : Block) → slice_get bs i ≡ Some b → AreGood m f p (at + i) (phi_values b) b.instrs) → (at ≡ 0 → ⊥) → w.first ≤ j → w.first ≤ n → w.first ≤ k → AreBlocksEnds table ends j bs → Each (λ b. Each (λ q. Each (λ i. IsEndOf i.from) q.incoming) b.phis) bs → Each (λ c. Each (IsTold w) c.instrs) (written_blocks m p k (fetched_blocks table ends j n bs)) → AreWovenBlocks w m f g at bs (written_blocks m p k (fetched_blocks table ends j n bs))
  blocks_woven at j n k [] good other low1 low2 low3 h ready told = NoBlock at
  blocks_woven at j n k (b ∷ bs) good other low1 low2 low3 h ready told =
      let c : Block = block_of [] j n k b in
      let j2 : ℕ = next_after_phis table j b.phis in
      let n2 : ℕ = next_after_block table n b in
      let fb : Block = fetched_block table ends j n b in
      let k2 : ℕ = after_block m p k fb in
      let row : List ℕ = again_row p b.label in
      let made0 : List ℕ = phi_values c in
      let hand : AreAtHand w f at made0 = λ x l. Front x other l in
      let here : at + 0 ≡ at = omega arith in
      let kept : List Instr = again_values p.kept k row in
      let told_first : Each (IsTold w) (([] ++ kept) ++ stored_phis p fb.phis) = each_left (IsTold w) (([] ++ kept) ++ stored_phis p fb.phis) (written_instrs m p (next_kept k b) fb.instrs) told.0 in
      let told_again : Each (IsTold w) kept = each_left (IsTold w) kept (stored_phis p fb.phis) told_first in
      let rise_j : j ≤ j2 = phis_rise 0 table j b.phis in
      let rise_n1 = instrs_rise 0 table n b.instrs in
      let rise_n2 = operands_rise 0 table (next_after_instrs table n b.instrs) (term_operands b.term) in
      let rise_k1 : k ≤ next_kept k b = again_low k k row (omega arith) in
      let rise_k2 : next_kept k b ≤ k2 = written_low 0 m p (next_kept k b) fb.instrs in
      OneBlock at b c bs (written_blocks m p k2 (fetched_blocks table ends j2 n2 bs))
      (block_woven at b [] j n k (subst (λ (i : ℕ). AreGood m f p i (phi_values b) b.instrs) here (good 0 b refl)) low1 low2 low3 tt hand
      (again_put w m f p at ok planned made0 k row other hand low3 told_again) h.0 ready.0 told.0)
      (blocks_woven (at + 1) j2 n2 k2 bs
      (λ i x e. let same : at + suc i ≡ at + 1 + i = omega arith in subst (λ (y : ℕ). AreGood m f p y (phi_values x) x.instrs) same (good (suc i) x e))
      (λ e. absurd (omega (arith, e))) (omega (arith, low1, rise_j)) (omega (arith, low2, rise_n1, rise_n2)) (omega (arith, low3, rise_k1, rise_k2)) h.1 ready.1 told.1)

  -- ---- the ends of the result's blocks

  -- what is fetched at the end of a block stands there
  abbrev pub HasEnd : Block → Type 0
  HasEnd c = (x : Instr) → IsListed x (end_at ends c.label) → IsListed x c.instrs

  pub block_has_end : (front : List Instr) (j n k : ℕ) (b : Block) → w.first ≤ n → HasEnd (block_of front j n k b)
  block_has_end front j n k b low x h = behind_in front j n k b low x (listed_left x (end_at ends b.label) (fetches_of_all table (next_after_instrs table n b.instrs) (term_operands b.term)) h)

  pub blocks_have_ends : (j n k : ℕ) (bs : List Block) → w.first ≤ n → Each HasEnd (written_blocks m p k (fetched_blocks table ends j n bs))
  blocks_have_ends j n k [] low = tt
  blocks_have_ends j n k (b ∷ bs) low =
      let rise_n1 = instrs_rise 0 table n b.instrs in
      let rise_n2 = operands_rise 0 table (next_after_instrs table n b.instrs) (term_operands b.term) in (
        block_has_end [] j n k b low,
        blocks_have_ends (next_after_phis table j b.phis) (next_after_block table n b) (after_block m p k (fetched_block table ends j n b)) bs (omega (arith, low, rise_n1, rise_n2)),
      )

  -- a label of the result
  pub end_of : Each HasEnd g.blocks → Each (λ c. Each (IsTold w) c.instrs) g.blocks → (label : ℕ) → IsLabel g.blocks label → IsEndOf label
  end_of have told label x =
      let y = found_in (λ c. c.label == label) g.blocks x.at x.block x.got (ap (λ (n : ℕ). n == label) x.same ∙ itself label) in
      let same : y.block.label ≡ label = equal_numbers y.block.label label y.passes in
      let at_is : position_of g label ≡ y.at = ap (λ (o : Option ℕ). unwrap_or o (length g.blocks)) y.found in
      let values : values_at g (position_of g label) ≡ block_values y.block = ap (values_at g) at_is ∙ ap values_in y.there in
      let inside : (z : Instr) → IsListed z (end_at ends label) → IsListed z y.block.instrs = λ z l. at_each HasEnd g.blocks y.at y.block have y.there z (subst (λ (n : ℕ). IsListed z (end_at ends n)) (sym same) l) in
      record {
        told = λ z l. listed_each (IsTold w) y.block.instrs (at_each (λ c. Each (IsTold w) c.instrs) g.blocks y.at y.block told y.there) z (inside z l);
        made = λ z l n h. subst (λ (ns : List ℕ). IsListed n ns) (sym values) (made_listed y.block.instrs (phi_values y.block) n (row_to y.block.instrs z n (inside z l) h));
      }
