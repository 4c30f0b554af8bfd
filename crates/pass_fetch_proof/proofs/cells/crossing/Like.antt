-- The result is like the function, for each of its old values.
use Rattle.std.proofs.Common.{◌≡◌, ◌⊎◌, inl, inr, ⊎_elim, ℕ, zero, suc, ◌+◌, ◌<◌, ◌≤◌, true, List, [], ◌∷◌, ◌++◌, length, refl, sym, ap, ◌∙◌, subst, arith}
use Rattle.std.specs.List.{list_all, list_any}
use Rattle.std.specs.Prelude.{Option, Some, None, map, not, option_map, option_to_list, slice_get, ◌&&◌, ◌==◌, if◌then◌else◌}
use Rattle.pass_edges_proof.specs.flow_blocks.Edges.{edges_of_blocks}
use Rattle.pass_fetch_proof.proofs.cells.crossing.Calls.{AreQuiet, IsQuiet, agains_quiet, phis_quiet, quiet_ahead, spread_calls}
use Rattle.pass_edges_proof.proofs.rule_laws.rules.crossing.Follows.{Follows}
use Rattle.pass_fetch_proof.proofs.cells.crossing.Follows.{HasAPlace, agains_extra, extras_follow, list_stays, operand_stays, phis_extra, spread_follows}
use Rattle.pass_edges_proof.proofs.rule_laws.frames.crossing.Needed.{IsBlockLike}
use Rattle.pass_fetch_proof.proofs.cells.rules.Around.{again_low}
use Rattle.pass_fetch_proof.proofs.cells.rules.Counts.{instrs_rise, operands_rise, phis_rise, written_low}
use Rattle.pass_fetch_proof.proofs.cells.rules.Ends.{AreEndsFetches}
use Rattle.pass_fetch_proof.proofs.cells.rules.Fetched.{FromCell, IsFetch, operand_low}
use Rattle.pass_fetch_proof.proofs.fetch.cells.Members.{fetched_phis_make}
use Rattle.pass_fetch_proof.proofs.cells.rules.Planned.{IsPlanned, planned_fetches}
use Rattle.pass_fetch_proof.proofs.cells.rules.Single.{IsSound}
use Rattle.pass_fetch_proof.proofs.cells.rules.Totals.{fetched_names}
use Rattle.pass_fetch_proof.proofs.cells.rules.WovenBlocks.{behind, behind_fetches, block_of, next_kept, row_is}
use Rattle.pass_edges_proof.specs.rule_uses.Uses.{local_of, locals_in, phi_values}
use Rattle.pass_edges_proof.proofs.ir_laws.facts.Members.{each_joined}
use Rattle.pass_edges_proof.proofs.ir_laws.facts.Truth.{and_first, and_second}
use Rattle.pass_edges_proof.proofs.ir_laws.paths.source_rules.Locals.{listed_either, listed_left, listed_right}
use Rattle.pass_edges_proof.proofs.ir_laws.facts.Lists.{phi_names}
use Rattle.pass_edges_proof.specs.flow_solver.Paths.{IsListed}
use Rattle.pass_edges_proof.specs.ir_parts.Contents.{ending_operands}
use Rattle.ir_model.specs.Layout.{same_type}
use Rattle.ir_model.specs.Names.{first_where, position_of}
use Rattle.ir_model.specs.Ty.{Ty}
use Rattle.ir_model.specs.declared.instr.Case.{Case}
use Rattle.ir_model.specs.declared.instr.Incoming.{Incoming}
use Rattle.ir_model.specs.declared.instr.Instr.{Instr}
use Rattle.ir_model.specs.declared.instr.Phi.{Phi}
use Rattle.ir_model.specs.declared.instr.Terminator.{Terminator}
use Rattle.ir_model.specs.declared.module.Block.{Block}
use Rattle.ir_model.specs.declared.module.Function.{Function}
use Rattle.ir_model.specs.declared.module.Module.{Module}
use Rattle.ir_model.specs.declared.operand.Intrinsic.{Intrinsic}
use Rattle.ir_model.specs.declared.operand.Operand.{Operand}
use Rattle.pass_edges_proof.specs.ir_paths.Paths.{targets}
use Rattle.pass_edges_proof.specs.ir_paths.Windows.{is_call_of, label_of_term}
use Rattle.pass_edges_proof.specs.run_laws.changed.Changed.{Each}
use Rattle.pass_edges_proof.specs.frame_crossing.EdgeUses.{blocks_uses, edge_use, incoming_uses, phis_uses, uses_by}
use Rattle.pass_edges_proof.specs.frame_crossing.Paths.{phis_in}
use Rattle.pass_edges_proof.specs.frame_crossing.declared.edge_use.EdgeUse.{EdgeUse}
use Rattle.pass_edges_proof.specs.pass_fetch.Blocks.{fetched_block, fetched_blocks, fetched_incoming, fetched_phis, next_after_block, next_after_phi, next_after_phis}
use Rattle.pass_edges_proof.specs.pass_fetch.Fetching.{fetched_operand, next_after}
use Rattle.pass_edges_proof.specs.pass_fetch.Instrs.{fetched_term, next_after_instrs, term_operands}
use Rattle.pass_edges_proof.specs.pass_fetch.declared.fetch.Fetch.{Fetch}
use Rattle.pass_edges_proof.specs.pass_cells.Cells.{fetches_of as fetch_table}
use Rattle.pass_edges_proof.specs.pass_cells.Moves.{again_values}
use Rattle.pass_edges_proof.specs.pass_cells.Written.{after_block, again_row, entry_blocks, stored_phis, written_blocks, written_instrs}
use Rattle.pass_edges_proof.specs.pass_cells.declared.plan.KeptValue.{KeptValue}
use Rattle.pass_edges_proof.specs.pass_cells.declared.plan.Plan.{Plan}
use Rattle.pass_edges_proof.specs.rule_values.Fits.{fits_arg, fits_integer}
use Rattle.pass_edges_proof.specs.rule_values.Switches.{any_twice, bits_in, case_word, fits_case, is_constant}
use Rattle.pass_edges_proof.specs.rule_values.Values.{fits_ending}
use Rattle.pass_edges_proof.specs.rule_values.declared.kinds.Kind.{Kind}
use Rattle.pass_edges_proof.specs.rule_laws.rules.woven_rules.Weaving.{Weaving}

-- ---- values of switches are constants

constant_free : (x : Operand) → is_constant x ≡ true → local_of x ≡ None
constant_free (Operand.Local v) h = absurd (cc)
constant_free _ h = refl

cases_free : (kinds : ℕ → Option Kind) (t : Ty) (cases : List Case) (v : ℕ) → list_all (fits_case kinds t) cases ≡ true → IsListed v (locals_in (map (λ k. k.arg.value) cases)) → ⊥
cases_free kinds t [] v h l = l
cases_free kinds t (c ∷ cases) v h l =
    let constant : is_constant c.arg.value ≡ true = and_first (is_constant c.arg.value) (fits_arg kinds c.arg) (and_second (same_type c.arg.ty t) (is_constant c.arg.value && fits_arg kinds c.arg) (and_first (fits_case kinds t c) (list_all (fits_case kinds t) cases) h)) in
    ⊎_elim (λ a. subst (λ (o : Option ℕ). IsListed v (option_to_list o)) (constant_free c.arg.value constant) a)
    (λ b. cases_free kinds t cases v (and_second (fits_case kinds t c) (list_all (fits_case kinds t) cases) h) b)
    (listed_either v (option_to_list (local_of c.arg.value)) (locals_in (map (λ k. k.arg.value) cases)) l)

-- fetched operands leave where a terminator leads
pub term_leads : (t : List (Option Fetch)) (n : ℕ) (x : Terminator) → targets (fetched_term t n x) ≡ targets x
term_leads t n (Terminator.Jump label) = refl
term_leads t n (Terminator.Branch c a b) = refl
term_leads t n (Terminator.Switch arg default cases) = refl
term_leads t n (Terminator.Ret value) = refl
term_leads t n Terminator.Unreachable = refl

pub term_label : (t : List (Option Fetch)) (n i : ℕ) (x : Terminator) → label_of_term i (fetched_term t n x) ≡ label_of_term i x
term_label t n i (Terminator.Jump label) = refl
term_label t n i (Terminator.Branch c a b) = refl
term_label t n i (Terminator.Switch arg default cases) = refl
term_label t n i (Terminator.Ret value) = refl
term_label t n i Terminator.Unreachable = refl

module _ (w : Weaving) (m : Module) (f g : Function) (p : Plan) (ok : IsSound w f) (planned : IsPlanned w f p) (ends : List (List Instr)) (loads : AreEndsFetches w ends) where
  abbrev table : List (Option Fetch)
  table = fetch_table p

  abbrev the_block : List Instr → ℕ → ℕ → ℕ → Block → Block
  the_block front j n k b = block_of w m f g p ok planned ends loads front j n k b

  -- ---- which intrinsics are called

  loads_quiet : (is : List Instr) → Each (IsFetch w) is → AreQuiet is
  loads_quiet [] h = tt
  loads_quiet (i ∷ is) h = (one i h.0, loads_quiet is h.1)
    where
      one : (i : Instr) → IsFetch w i → IsQuiet i
      one _ (FromCell n t c cell l low) = λ j. refl

  pub block_calls : (i : Intrinsic) (front : List Instr) (j n k : ℕ) (b : Block) → AreQuiet front → w.first ≤ n → list_any (is_call_of i) (the_block front j n k b).instrs ≡ list_any (is_call_of i) b.instrs
  block_calls i front j n k b quiet low =
      let fb : Block = fetched_block table ends j n b in
      let again : List Instr = again_values p.kept k (again_row p b.label) in
      let phis : List Instr = stored_phis p fb.phis in
      let k2 : ℕ = next_kept w m f g p ok planned ends loads k b in
      let rest : List Instr = behind w m f g p ok planned ends loads n b in
      let first_quiet : AreQuiet ((front ++ again) ++ phis) = each_joined IsQuiet (front ++ again) phis (each_joined IsQuiet front again quiet (agains_quiet p.kept k (again_row p b.label))) (phis_quiet p fb.phis) in
      quiet_ahead i ((front ++ again) ++ phis) (written_instrs m p k2 fb.instrs) first_quiet
      ∙ ap (list_any (is_call_of i)) (row_is w m f g p ok planned ends loads j n k2 b low)
      ∙ spread_calls m p table i k2 n b.instrs rest (loads_quiet rest (behind_fetches w m f g p ok planned ends loads n b low))

  next_low : (n : ℕ) (b : Block) → w.first ≤ n → w.first ≤ next_after_block table n b
  next_low n b low =
      let rise_n1 = instrs_rise 0 table n b.instrs in
      let rise_n2 = operands_rise 0 table (next_after_instrs table n b.instrs) (term_operands b.term) in
      omega (arith, low, rise_n1, rise_n2)

  kept_low : (j n k : ℕ) (b : Block) → w.first ≤ k → w.first ≤ after_block m p k (fetched_block table ends j n b)
  kept_low j n k b low =
      let k2 : ℕ = next_kept w m f g p ok planned ends loads k b in
      let rise_k1 : k ≤ k2 = again_low k k (again_row p b.label) (omega arith) in
      let rise_k2 : k2 ≤ after_block m p k (fetched_block table ends j n b) = written_low 0 m p k2 (fetched_block table ends j n b).instrs in
      omega (arith, low, rise_k1, rise_k2)

  -- the first block with a call, and that with a label
  where_calls : (i : Intrinsic) (j n k : ℕ) (bs : List Block) → w.first ≤ n → first_where (λ b. list_any (is_call_of i) b.instrs) (written_blocks m p k (fetched_blocks table ends j n bs)) ≡ first_where (λ b. list_any (is_call_of i) b.instrs) bs
  where_calls i j n k [] low = refl
  where_calls i j n k (b ∷ bs) low =
      λ e. if block_calls i [] j n k b tt low e then Some 0 else option_map suc (where_calls i (next_after_phis table j b.phis) (next_after_block table n b) (after_block m p k (fetched_block table ends j n b)) bs (next_low n b low) e)

  where_label : (label : ℕ) (j n k : ℕ) (bs : List Block) → first_where (λ b. b.label == label) (written_blocks m p k (fetched_blocks table ends j n bs)) ≡ first_where (λ b. b.label == label) bs
  where_label label j n k [] = refl
  where_label label j n k (b ∷ bs) = λ e. if b.label == label then Some 0 else option_map suc (where_label label (next_after_phis table j b.phis) (next_after_block table n b) (after_block m p k (fetched_block table ends j n b)) bs e)

  same_length : (j n k : ℕ) (bs : List Block) → length (written_blocks m p k (fetched_blocks table ends j n bs)) ≡ length bs
  same_length j n k [] = refl
  same_length j n k (b ∷ bs) = ap suc (same_length (next_after_phis table j b.phis) (next_after_block table n b) (after_block m p k (fetched_block table ends j n b)) bs)

  pub entry_calls : (i : Intrinsic) (front : List Instr) (j n k : ℕ) (bs : List Block) → AreQuiet front → w.first ≤ n → first_where (λ b. list_any (is_call_of i) b.instrs) (entry_blocks m p front k (fetched_blocks table ends j n bs)) ≡ first_where (λ b. list_any (is_call_of i) b.instrs) bs
  entry_calls i front j n k [] quiet low = refl
  entry_calls i front j n k (b ∷ bs) quiet low =
      λ e. if block_calls i front j n k b quiet low e then Some 0 else option_map suc (where_calls i (next_after_phis table j b.phis) (next_after_block table n b) (after_block m p k (fetched_block table ends j n b)) bs (next_low n b low) e)

  pub entry_label : (label : ℕ) (front : List Instr) (j n k : ℕ) (bs : List Block) → first_where (λ b. b.label == label) (entry_blocks m p front k (fetched_blocks table ends j n bs)) ≡ first_where (λ b. b.label == label) bs
  entry_label label front j n k [] = refl
  entry_label label front j n k (b ∷ bs) = λ e. if b.label == label then Some 0 else option_map suc (where_label label (next_after_phis table j b.phis) (next_after_block table n b) (after_block m p k (fetched_block table ends j n b)) bs e)

  pub entry_length : (front : List Instr) (j n k : ℕ) (bs : List Block) → length (entry_blocks m p front k (fetched_blocks table ends j n bs)) ≡ length bs
  entry_length front j n k [] = refl
  entry_length front j n k (b ∷ bs) = ap suc (same_length (next_after_phis table j b.phis) (next_after_block table n b) (after_block m p k (fetched_block table ends j n b)) bs)

  -- ---- which block stands at a position

  pub record PlaceOf (cs : List Block) (front : List Instr) (at : ℕ) (b : Block) : Type 0 where
    pub first_of_phis : ℕ
    pub first_of_uses : ℕ
    pub first_of_kept : ℕ
    pub uses_low : w.first ≤ first_of_uses
    pub kept_is_low : w.first ≤ first_of_kept
    pub got : slice_get cs at ≡ Some (the_block front first_of_phis first_of_uses first_of_kept b)

  later_place : (j n k : ℕ) (bs : List Block) → w.first ≤ n → w.first ≤ k → (at : ℕ) (b : Block) → slice_get bs at ≡ Some b → PlaceOf (written_blocks m p k (fetched_blocks table ends j n bs)) [] at b
  later_place j n k [] low1 low2 at b e = absurd (cc)
  later_place j n k (c ∷ bs) low1 low2 zero b e =
      let one : c ≡ b = cc in
      record { first_of_phis = j; first_of_uses = n; first_of_kept = k; uses_low = low1; kept_is_low = low2; got = ap (λ (x : Block). Some (the_block [] j n k x)) one }
  later_place j n k (c ∷ bs) low1 low2 (suc at) b e =
      let x = later_place (next_after_phis table j c.phis) (next_after_block table n c) (after_block m p k (fetched_block table ends j n c)) bs (next_low n c low1) (kept_low j n k c low2) at b e in
      record { first_of_phis = x.first_of_phis; first_of_uses = x.first_of_uses; first_of_kept = x.first_of_kept; uses_low = x.uses_low; kept_is_low = x.kept_is_low; got = x.got }

  pub place_of : (front : List Instr) (j n k : ℕ) (bs : List Block) → w.first ≤ n → w.first ≤ k → (at : ℕ) (b : Block) → slice_get bs at ≡ Some b → (at ≡ 0 → ⊥) → PlaceOf (entry_blocks m p front k (fetched_blocks table ends j n bs)) [] at b
  place_of front j n k [] low1 low2 at b e other = absurd (cc)
  place_of front j n k (c ∷ bs) low1 low2 zero b e other = absurd (other refl)
  place_of front j n k (c ∷ bs) low1 low2 (suc at) b e other =
      let x = later_place (next_after_phis table j c.phis) (next_after_block table n c) (after_block m p k (fetched_block table ends j n c)) bs (next_low n c low1) (kept_low j n k c low2) at b e in
      record { first_of_phis = x.first_of_phis; first_of_uses = x.first_of_uses; first_of_kept = x.first_of_kept; uses_low = x.uses_low; kept_is_low = x.kept_is_low; got = x.got }

  later_none : (j n k : ℕ) (bs : List Block) (at : ℕ) → slice_get bs at ≡ None → slice_get (written_blocks m p k (fetched_blocks table ends j n bs)) at ≡ None
  later_none j n k [] at e = refl
  later_none j n k (c ∷ bs) zero e = absurd (cc)
  later_none j n k (c ∷ bs) (suc at) e = later_none (next_after_phis table j c.phis) (next_after_block table n c) (after_block m p k (fetched_block table ends j n c)) bs at e

  pub none_of : (front : List Instr) (j n k : ℕ) (bs : List Block) (at : ℕ) → slice_get bs at ≡ None → slice_get (entry_blocks m p front k (fetched_blocks table ends j n bs)) at ≡ None
  none_of front j n k [] at e = refl
  none_of front j n k (c ∷ bs) zero e = absurd (cc)
  none_of front j n k (c ∷ bs) (suc at) e = later_none (next_after_phis table j c.phis) (next_after_block table n c) (after_block m p k (fetched_block table ends j n c)) bs at e

  -- ---- the block of the function at the position of a block of the result

  pub record Matched (bs : List Block) (at : ℕ) (c : Block) : Type 0 where
    pub block : Block
    pub got : slice_get bs at ≡ Some block
    pub calls : (i : Intrinsic) → list_any (is_call_of i) c.instrs ≡ list_any (is_call_of i) block.instrs
    pub labels : (i : ℕ) → label_of_term i c.term ≡ label_of_term i block.term
    pub names : phi_names c.phis ≡ phi_names block.phis
    pub values : phi_values c ≡ phi_values block

  match : (front : List Instr) (j n k : ℕ) (b : Block) (bs : List Block) → AreQuiet front → w.first ≤ n → Matched (b ∷ bs) 0 (the_block front j n k b)
  match front j n k b bs quiet low =
      record {
        block = b;
        got = refl;
        calls = λ i. block_calls i front j n k b quiet low;
        labels = λ i. term_label table (next_after_instrs table n b.instrs) i b.term;
        names = fetched_names 0 table ends j b.phis;
        values = fetched_phis_make table j b.phis [];
      }

  further : (b : Block) (bs : List Block) (at : ℕ) (c : Block) → Matched bs at c → Matched (b ∷ bs) (suc at) c
  further b bs at c x = record { block = x.block; got = x.got; calls = x.calls; labels = x.labels; names = x.names; values = x.values }

  later_match : (j n k : ℕ) (bs : List Block) → w.first ≤ n → (at : ℕ) (c : Block) → slice_get (written_blocks m p k (fetched_blocks table ends j n bs)) at ≡ Some c → Matched bs at c
  later_match j n k [] low at c e = absurd (cc)
  later_match j n k (b ∷ bs) low zero c e = let one : the_block [] j n k b ≡ c = cc in subst (Matched (b ∷ bs) 0) one (match [] j n k b bs tt low)
  later_match j n k (b ∷ bs) low (suc at) c e = further b bs at c (later_match (next_after_phis table j b.phis) (next_after_block table n b) (after_block m p k (fetched_block table ends j n b)) bs (next_low n b low) at c e)

  pub entry_match : (front : List Instr) (j n k : ℕ) (bs : List Block) → AreQuiet front → w.first ≤ n → (at : ℕ) (c : Block) → slice_get (entry_blocks m p front k (fetched_blocks table ends j n bs)) at ≡ Some c → Matched bs at c
  entry_match front j n k [] quiet low at c e = absurd (cc)
  entry_match front j n k (b ∷ bs) quiet low zero c e = let one : the_block front j n k b ≡ c = cc in subst (Matched (b ∷ bs) 0) one (match front j n k b bs quiet low)
  entry_match front j n k (b ∷ bs) quiet low (suc at) c e = further b bs at c (later_match (next_after_phis table j b.phis) (next_after_block table n b) (after_block m p k (fetched_block table ends j n b)) bs (next_low n b low) at c e)

  later_phis : (j n k : ℕ) (bs : List Block) (at : ℕ) → phis_in (slice_get (written_blocks m p k (fetched_blocks table ends j n bs)) at) ≡ phis_in (slice_get bs at)
  later_phis j n k [] at = refl
  later_phis j n k (b ∷ bs) zero = fetched_phis_make table j b.phis []
  later_phis j n k (b ∷ bs) (suc at) = later_phis (next_after_phis table j b.phis) (next_after_block table n b) (after_block m p k (fetched_block table ends j n b)) bs at

  pub entry_phis : (front : List Instr) (j n k : ℕ) (bs : List Block) (at : ℕ) → phis_in (slice_get (entry_blocks m p front k (fetched_blocks table ends j n bs)) at) ≡ phis_in (slice_get bs at)
  entry_phis front j n k [] at = refl
  entry_phis front j n k (b ∷ bs) zero = fetched_phis_make table j b.phis []
  entry_phis front j n k (b ∷ bs) (suc at) = later_phis (next_after_phis table j b.phis) (next_after_block table n b) (after_block m p k (fetched_block table ends j n b)) bs at

  -- ---- edges

  positions : ((label : ℕ) → position_of g label ≡ position_of f label) → (ts : List ℕ) → map (position_of g) ts ≡ map (position_of f) ts
  positions same [] = refl
  positions same (x ∷ xs) = λ e. same x e ∷ positions same xs e

  edges_out_same : ((label : ℕ) → position_of g label ≡ position_of f label) → (at n : ℕ) (x : Terminator) → map {B = ℕ × ℕ} (λ to. (at, to)) (map (position_of g) (targets (fetched_term table n x))) ≡ map {B = ℕ × ℕ} (λ to. (at, to)) (map (position_of f) (targets x))
  edges_out_same same at n x = ap (λ (ts : List ℕ). map {B = ℕ × ℕ} (λ to. (at, to)) (map (position_of g) ts)) (term_leads table n x) ∙ ap (λ (ts : List ℕ). map {B = ℕ × ℕ} (λ to. (at, to)) ts) (positions same (targets x))

  later_edges : ((label : ℕ) → position_of g label ≡ position_of f label) → (at j n k : ℕ) (bs : List Block) → edges_of_blocks g at (written_blocks m p k (fetched_blocks table ends j n bs)) ≡ edges_of_blocks f at bs
  later_edges same at j n k [] = refl
  later_edges same at j n k (b ∷ bs) =
      λ e. edges_out_same same at (next_after_instrs table n b.instrs) b.term e ++ later_edges same (at + 1) (next_after_phis table j b.phis) (next_after_block table n b) (after_block m p k (fetched_block table ends j n b)) bs e

  pub entry_edges : ((label : ℕ) → position_of g label ≡ position_of f label) → (front : List Instr) (j n k : ℕ) (bs : List Block) → edges_of_blocks g 0 (entry_blocks m p front k (fetched_blocks table ends j n bs)) ≡ edges_of_blocks f 0 bs
  entry_edges same front j n k [] = refl
  entry_edges same front j n k (b ∷ bs) =
      λ e. edges_out_same same 0 (next_after_instrs table n b.instrs) b.term e ++ later_edges same (0 + 1) (next_after_phis table j b.phis) (next_after_block table n b) (after_block m p k (fetched_block table ends j n b)) bs e

  -- ---- an old value

  module _ (v : ℕ) (old : v < w.first) where
    term_uses : (n : ℕ) (t : Terminator) (kinds : ℕ → Option Kind) (ty : Option Ty) → w.first ≤ n → fits_ending kinds ty t ≡ true → IsListed v (locals_in (ending_operands (fetched_term table n t))) → IsListed v (locals_in (ending_operands t)) × (HasAPlace p v → ⊥)
    term_uses n (Terminator.Jump label) kinds ty low fit l = absurd l
    term_uses n (Terminator.Branch c a b) kinds ty low fit l = list_stays w f p ok planned v old n (c ∷ []) low l
    term_uses n (Terminator.Switch arg default cases) kinds ty low fit l =
        let all : list_all (fits_case kinds arg.ty) cases ≡ true = and_first (list_all (fits_case kinds arg.ty) cases) (not (any_twice [] (map (case_word (bits_in arg.ty)) cases))) (and_second (fits_integer kinds arg) (list_all (fits_case kinds arg.ty) cases && not (any_twice [] (map (case_word (bits_in arg.ty)) cases))) fit) in
        ⊎_elim
        (λ a. let s = list_stays w f p ok planned v old n (arg.value ∷ []) low (listed_left v (option_to_list (local_of (fetched_operand table n arg.value))) [] a) in
        (⊎_elim (λ x. listed_left v (option_to_list (local_of arg.value)) (locals_in (map (λ k. k.arg.value) cases)) x) (λ x. absurd x) (listed_either v (option_to_list (local_of arg.value)) [] s.0), s.1))
        (λ b. absurd (cases_free kinds arg.ty cases v all b))
        (listed_either v (option_to_list (local_of (fetched_operand table n arg.value))) (locals_in (map (λ k. k.arg.value) cases)) l)
    term_uses n (Terminator.Ret None) kinds ty low fit l = absurd l
    term_uses n (Terminator.Ret (Some a)) kinds ty low fit l = list_stays w f p ok planned v old n (a.value ∷ []) low l
    term_uses n Terminator.Unreachable kinds ty low fit l = absurd l

    -- where an edge has the value, it had it
    incoming_used : (position : (label : ℕ) → position_of g label ≡ position_of f label) (at from to n : ℕ) (is : List Incoming) → w.first ≤ n → IsListed (edge_use from to v) (incoming_uses g at (fetched_incoming table n is)) → IsListed (edge_use from to v) (incoming_uses f at is) × (HasAPlace p v → ⊥)
    incoming_used position at from to n [] low l = absurd l
    incoming_used position at from to n (i ∷ is) low l =
        ⊎_elim
        (λ a. let s = own (local_of (fetched_operand table n i.value)) refl a in (listed_left (edge_use from to v) (uses_by (position_of f i.from) at (local_of i.value)) (incoming_uses f at is) s.0, s.1))
        (λ r. let s = incoming_used position at from to (next_after table n i.value) is (operand_low w f ok table (planned_fetches w f p planned) n i.value low) r in (listed_right (edge_use from to v) (uses_by (position_of f i.from) at (local_of i.value)) (incoming_uses f at is) s.0, s.1))
        (listed_either (edge_use from to v) (uses_by (position_of g i.from) at (local_of (fetched_operand table n i.value))) (incoming_uses g at (fetched_incoming table (next_after table n i.value) is)) l)
      where
        own : (o : Option ℕ) → local_of (fetched_operand table n i.value) ≡ o → IsListed (edge_use from to v) (uses_by (position_of g i.from) at o) → IsListed (edge_use from to v) (uses_by (position_of f i.from) at (local_of i.value)) × (HasAPlace p v → ⊥)
        own None e x = absurd x
        own (Some u) e (inr x) = absurd x
        own (Some u) e (inl same) =
            let value_is : u ≡ v = ap (λ (y : EdgeUse). y.value) (sym same) in
            let s = operand_stays w f p ok planned v old n i.value low (e ∙ ap (λ (y : ℕ). Some y) value_is) in
            let again : edge_use from to v ≡ edge_use (position_of f i.from) at v = same ∙ (λ k. edge_use (position i.from k) at (value_is k)) in
            (subst (λ (o : Option ℕ). IsListed (edge_use from to v) (uses_by (position_of f i.from) at o)) (sym s.0) (inl again), s.1)

    phis_used : (position : (label : ℕ) → position_of g label ≡ position_of f label) (at from to n : ℕ) (ps : List Phi) → w.first ≤ n → IsListed (edge_use from to v) (phis_uses g at (fetched_phis table n ps)) → IsListed (edge_use from to v) (phis_uses f at ps) × (HasAPlace p v → ⊥)
    phis_used position at from to n [] low l = absurd l
    phis_used position at from to n (x ∷ xs) low l =
        let rises : n ≤ next_after_phi table n x = operands_rise 0 table n (map (λ i. i.value) x.incoming) in
        ⊎_elim
        (λ a. let s = incoming_used position at from to n x.incoming low a in (listed_left (edge_use from to v) (incoming_uses f at x.incoming) (phis_uses f at xs) s.0, s.1))
        (λ r. let s = phis_used position at from to (next_after_phi table n x) xs (omega (arith, low, rises)) r in (listed_right (edge_use from to v) (incoming_uses f at x.incoming) (phis_uses f at xs) s.0, s.1))
        (listed_either (edge_use from to v) (incoming_uses g at (fetched_incoming table n x.incoming)) (phis_uses g at (fetched_phis table (next_after_phi table n x) xs)) l)

    later_used : (position : (label : ℕ) → position_of g label ≡ position_of f label) (at from to j n k : ℕ) (bs : List Block) → w.first ≤ j → IsListed (edge_use from to v) (blocks_uses g at (written_blocks m p k (fetched_blocks table ends j n bs))) → IsListed (edge_use from to v) (blocks_uses f at bs) × (HasAPlace p v → ⊥)
    later_used position at from to j n k [] low l = absurd l
    later_used position at from to j n k (b ∷ bs) low l =
        let rises : j ≤ next_after_phis table j b.phis = phis_rise 0 table j b.phis in
        let j2 : ℕ = next_after_phis table j b.phis in
        let n2 : ℕ = next_after_block table n b in
        let k2 : ℕ = after_block m p k (fetched_block table ends j n b) in
        ⊎_elim
        (λ a. let s = phis_used position at from to j b.phis low a in (listed_left (edge_use from to v) (phis_uses f at b.phis) (blocks_uses f (at + 1) bs) s.0, s.1))
        (λ r. let s = later_used position (at + 1) from to j2 n2 k2 bs (omega (arith, low, rises)) r in (listed_right (edge_use from to v) (phis_uses f at b.phis) (blocks_uses f (at + 1) bs) s.0, s.1))
        (listed_either (edge_use from to v) (phis_uses g at (fetched_phis table j b.phis)) (blocks_uses g (at + 1) (written_blocks m p k2 (fetched_blocks table ends j2 n2 bs))) l)

    pub entry_used : (position : (label : ℕ) → position_of g label ≡ position_of f label) (front : List Instr) (from to j n k : ℕ) (bs : List Block) → w.first ≤ j → IsListed (edge_use from to v) (blocks_uses g 0 (entry_blocks m p front k (fetched_blocks table ends j n bs))) → IsListed (edge_use from to v) (blocks_uses f 0 bs) × (HasAPlace p v → ⊥)
    entry_used position front from to j n k [] low l = absurd l
    entry_used position front from to j n k (b ∷ bs) low l =
        let rises : j ≤ next_after_phis table j b.phis = phis_rise 0 table j b.phis in
        let j2 : ℕ = next_after_phis table j b.phis in
        let n2 : ℕ = next_after_block table n b in
        let k2 : ℕ = after_block m p k (fetched_block table ends j n b) in
        ⊎_elim
        (λ a. let s = phis_used position 0 from to j b.phis low a in (listed_left (edge_use from to v) (phis_uses f 0 b.phis) (blocks_uses f (0 + 1) bs) s.0, s.1))
        (λ r. let s = later_used position (0 + 1) from to j2 n2 k2 bs (omega (arith, low, rises)) r in (listed_right (edge_use from to v) (phis_uses f 0 b.phis) (blocks_uses f (0 + 1) bs) s.0, s.1))
        (listed_either (edge_use from to v) (phis_uses g 0 (fetched_phis table j b.phis)) (blocks_uses g (0 + 1) (written_blocks m p k2 (fetched_blocks table ends j2 n2 bs))) l)

    module _ (no_slot : (k : ℕ) (x : KeptValue) (s : ℕ) → slice_get p.kept k ≡ Some x → x.slot ≡ Some s → s ≡ v → ⊥) where
      block_follows : (j n k : ℕ) (b : Block) → w.first ≤ n → w.first ≤ k → (IsListed v (phi_names b.phis) → ⊥) → Follows (HasAPlace p) v b.instrs (the_block [] j n k b).instrs
      block_follows j n k b low1 low2 other =
          let fb : Block = fetched_block table ends j n b in
          let again : List Instr = again_values p.kept k (again_row p b.label) in
          let phis : List Instr = stored_phis p fb.phis in
          let k2 : ℕ = next_kept w m f g p ok planned ends loads k b in
          let low3 : w.first ≤ k2 = again_low w.first k (again_row p b.label) low2 in
          let rest : List Instr = behind w m f g p ok planned ends loads n b in
          let unnamed : IsListed v (phi_names fb.phis) → ⊥ = λ l. other (subst (λ (ns : List ℕ). IsListed v ns) (fetched_names 0 table ends j b.phis) l) in
          extras_follow (HasAPlace p) v (([] ++ again) ++ phis) b.instrs (written_instrs m p k2 fb.instrs)
          (each_joined _ again phis (agains_extra w f p ok planned v old no_slot k (again_row p b.label) low2) (phis_extra w f p ok planned v old fb.phis unnamed))
          (subst (λ (js : List Instr). Follows (HasAPlace p) v b.instrs js) (sym (row_is w m f g p ok planned ends loads j n k2 b low1))
          (spread_follows w f p ok planned v old m k2 n b.instrs rest low3 low1 (behind_fetches w m f g p ok planned ends loads n b low1)))

      pub block_like : (cs : List Block) (q : ℕ) (b : Block) (kinds : ℕ → Option Kind) (ty : Option Ty) → g.blocks ≡ cs → fits_ending kinds ty b.term ≡ true → PlaceOf cs [] q b → IsBlockLike (HasAPlace p) v g q b
      block_like cs q b kinds ty blocks fit x =
          let last : ℕ = next_after_instrs table x.first_of_uses b.instrs in
          let low : w.first ≤ last = (let low1 : w.first ≤ x.first_of_uses = x.uses_low in let rise = instrs_rise 0 table x.first_of_uses b.instrs in omega (arith, low1, rise)) in
          record {
            block = the_block [] x.first_of_phis x.first_of_uses x.first_of_kept b;
            got = ap (λ (xs : List Block). slice_get xs q) blocks ∙ x.got;
            follows = block_follows x.first_of_phis x.first_of_uses x.first_of_kept b x.uses_low x.kept_is_low;
            term = record { uses = term_uses last b.term kinds ty low fit; leads = term_leads table last b.term };
          }
