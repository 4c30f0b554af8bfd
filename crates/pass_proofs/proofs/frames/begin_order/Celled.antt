-- Where crossing values are kept in cells, what lies in the frame is used behind begin.
use Rattle.std.proofs.Common.{◌≡◌, ◌⊎◌, inl, inr, ⊎_elim, ℕ, zero, suc, ◌+◌, ◌*◌, ◌<◌, ◌≤◌, Bool, true, false, List, [], ◌∷◌, ◌++◌, length, refl, sym, ap, ◌∙◌, subst, arith, append_assoc, length-append}
use Rattle.std.specs.Prelude.{None, Option, Some, codes, is_some, map, not, option_to_list, replicate, slice_get, unwrap_or, ◌-◌}
use Rattle.pass_exits_proof.specs.addresses.rules.Addresses.{lies_in_frame}
use Rattle.pass_proofs.proofs.frames.begin_order.Begins.{alone_still, allocas_still, named_still}
use Rattle.pass_exits_proof.proofs.addresses.begin_order.Early.{in_frame}
use Rattle.pass_proofs.proofs.frames.begin_order.Fields.{AllQuiet, Quiet, count_is, distance_quiet, far_quiet, fetch_quiet, numbered_field, own_low, params_quiet, phis_quiet, result_quiet}
use Rattle.pass_exits_proof.proofs.rule_laws.rules.begin_order.Known.{IsOwn, each_both, own_instrs, own_phis, own_term}
use Rattle.pass_exits_proof.proofs.fetch.begin_order.Operands.{accesses_kept, accesses_of, ending_kept, low_after, operand_kept, others_kept, others_of}
use Rattle.pass_exits_proof.proofs.addresses.begin_order.Passing.{Passes, there_still, woven_passes}
use Rattle.pass_proofs.proofs.frames.begin_order.Puts.{Whole, all_whole, are_only, are_put, behind_grown, both_grown, may_access}
use Rattle.pass_exits_proof.proofs.fetch.begin_order.Rows.{AllRows, all_fetched, blank_rows, blocks_rows}
use Rattle.pass_exits_proof.proofs.cells.begin_order.Sums.{behind_holds}
use Rattle.pass_exits_proof.proofs.fetch.rules.Times.{with_result as same_fetched}
use Rattle.pass_proofs.specs.frames.begin_order.Behind.{AreBehind, IsBlockBehind, IsEntrySlot, IsFrameBehind, MayBeAccessed}
use Rattle.pass_exits_proof.specs.addresses.begin_order.Behind.{IsBehind, IsIncomingBehind}
use Rattle.pass_exits_proof.specs.rule_laws.frames.begin_order.Behind.{LeadsAgain}
use Rattle.pass_exits_proof.specs.rule_laws.rules.begin_order.Behind.{access_operands, other_operands}
use Rattle.pass_proofs.specs.frames.begin_order.Fields.{FieldsFit, IsField, values_kept}
use Rattle.pass_exits_proof.proofs.cells.rules.Around.{saved_low, again_low}
use Rattle.pass_exits_proof.proofs.cells.rules.Counts.{by_phis_rise, instrs_rise, written_low}
use Rattle.pass_exits_proof.proofs.cells.rules.Fronts.{IsNumbered}
use Rattle.pass_exits_proof.proofs.fetch.cells.Members.{fetched_phis_make}
use Rattle.pass_exits_proof.proofs.cells.rules.NewNames.{blocks_are, ends, first_kept, first_phi, first_use, front, last_use, table}
use Rattle.pass_exits_proof.proofs.cells.rules.Spread.{spread}
use Rattle.pass_exits_proof.proofs.cells.rules.Whole.{is_woven, loads, planned, sound}
use Rattle.pass_exits_proof.proofs.cells.rules.WovenBlocks.{row_is}
use Rattle.pass_exits_proof.specs.cells.rules.Asked.{AreCellsFor}
use Rattle.pass_exits_proof.specs.cells.rules.Weaving.{cells_weaving}
use Rattle.pass_exits_proof.specs.rule_uses.Undefined.{ReachesWithout}
use Rattle.pass_exits_proof.specs.rule_uses.Uses.{block_values, phi_values, values_at, values_in}
use Rattle.pass_exits_proof.proofs.ir_laws.facts.Members.{each_behind, each_turns}
use Rattle.pass_exits_proof.proofs.rule_laws.rules.source_rules.Locals.{made_by}
use Rattle.pass_exits_proof.proofs.fetch.rules.Puts.{fetch_rises}
use Rattle.pass_exits_proof.specs.flow_solver.Paths.{IsListed}
use Rattle.pass_addresses.specs.Placing.{is_none}
use Rattle.pass_exits_proof.specs.ir_parts.Contents.{ending_operands, instr_operands, result_of}
use Rattle.pass_exits_proof.specs.rule_laws.rules.function_rules.Kept.{KeepsFunctionRules}
use Rattle.pass_exits_proof.specs.pass_intrinsics.Shapes.{suspends_of}
use Rattle.ir_model.specs.Names.{position_of}
use Rattle.ir_model.specs.declared.instr.Incoming.{Incoming}
use Rattle.ir_model.specs.declared.instr.Instr.{Instr}
use Rattle.ir_model.specs.declared.instr.Phi.{Phi}
use Rattle.ir_model.specs.declared.module.Block.{Block}
use Rattle.ir_model.specs.declared.module.Function.{Function}
use Rattle.ir_model.specs.declared.module.Module.{Module}
use Rattle.ir_model.specs.declared.operand.Operand.{Operand}
use Rattle.pass_exits_proof.specs.rule_laws.rules.replaced.Splittable.{AreBegun, AreBlocksBegun}
use Rattle.pass_exits_proof.specs.ir_laws.facts.replaced.Splittable.{asks_begin}
use Rattle.pass_exits_proof.specs.run_laws.changed.Changed.{Each}
use Rattle.pass_exits_proof.specs.pass_fetch.Blocks.{end_at, fetched_block, fetched_incoming, fetched_phis, next_after_phi, numbered_names}
use Rattle.pass_exits_proof.specs.pass_fetch.Fetching.{fetches_of_all, next_after}
use Rattle.pass_exits_proof.specs.pass_fetch.Instrs.{next_after_instr, next_after_instrs, term_operands, with_fetched}
use Rattle.pass_exits_proof.specs.pass_fetch.declared.fetch.Fetch.{Fetch}
use Rattle.pass_exits_proof.specs.pass_cells.Cells.{named_function, with_cells}
use Rattle.pass_exits_proof.specs.pass_cells.Kept.{entry}
use Rattle.pass_exits_proof.specs.pass_cells.Moves.{after_again, after_saved, again_values, saved_values}
use Rattle.pass_exits_proof.specs.pass_cells.Plan.{plan_of}
use Rattle.pass_exits_proof.specs.pass_cells.Written.{after_one, again_row, distance_behind, distance_alloca, distance_allocas, kept_allocas, link_allocas, row_at, save_row, stored_params, stored_phis, stored_result, written_block, written_instrs}
use Rattle.pass_exits_proof.specs.pass_cells.declared.plan.KeptValue.{KeptValue}
use Rattle.pass_exits_proof.specs.pass_cells.declared.plan.Plan.{Plan}
use Rattle.pass_exits_proof.specs.rule_values.Kinds.{value_kind}
use Rattle.pass_exits_proof.specs.rule_values.declared.kinds.Kind.{Kind}
use Rattle.pass_exits_proof.proofs.rule_laws.rules.woven_rules.Laid.{valued_old}
use Rattle.pass_exits_proof.proofs.rule_laws.rules.woven_rules.Once.{names_below}
use Rattle.pass_exits_proof.proofs.rule_laws.rules.woven_rules.ValueKinds.{old_kind}
use Rattle.pass_exits_proof.specs.rule_laws.rules.woven_rules.Blocks.{IsWoven}
use Rattle.pass_exits_proof.specs.rule_laws.rules.woven_rules.Pairs.{AreIncomingOnce}
use Rattle.pass_exits_proof.specs.rule_laws.rules.woven_rules.Weaving.{IsThere, Weaving}
use Rattle.pass_exits_proof.proofs.cells.begin_order.CelledBlocks.{IsCelled, entry_there, first_of, returns_lead, row_asks, same_asks, there_is}
use Rattle.pass_exits_proof.proofs.rule_laws.rules.begin_order.CelledBlocks.{begun_at}

-- ---- the function

module _ (m : Module) (k : ℕ) (f : Function) (crossing : List (ℕ × ℕ)) (local : List Bool) (begin : ℕ) (slots : List Bool) (old offsets : List (Option ℕ)) (marked : List Bool) (rules : KeepsFunctionRules m k f) (once : AreIncomingOnce f) (asked : AreCellsFor k f crossing local) (suspends : suspends_of (with_cells m f crossing local) ≡ suspends_of f) (begun : AreBlocksBegun f begin 0 f.blocks) (fields : FieldsFit f crossing old offsets marked) (all : IsFrameBehind f begin slots old marked) where
  abbrev G : Function
  G = with_cells m f crossing local

  abbrev W : Weaving
  W = cells_weaving m f crossing local

  abbrev plan : Plan
  plan = plan_of f crossing local

  abbrev T : List (Option Fetch)
  T = table m plan f

  abbrev Ends : List (List Instr)
  Ends = ends m plan f

  abbrev First : ℕ
  First = length f.names

  abbrev Base : ℕ
  Base = first_phi m plan f

  woven : IsWoven W m f G
  woven = is_woven m k f rules crossing local asked

  passes : Passes f G begin
  passes = woven_passes W m k f G begin woven rules once refl

  valued_low : (v : ℕ) (kind : Kind) → value_kind f v ≡ Some kind → v < First
  valued_low v kind e = valued_old W m f G woven (names_below k f rules.tabled) v (ap (λ (o : Option Kind). is_some o) e)

  low_frame : (v : ℕ) → lies_in_frame old v ≡ true → v < First
  low_frame v e = let x = in_frame old v e in valued_low v Kind.Ptr (all.pointers v x.0 x.1)

  abbrev QuietIn : Operand → Type 0
  QuietIn = Quiet m k f rules crossing local asked old offsets marked fields low_frame

  abbrev AllQuietIn : List Instr → Type 0
  AllQuietIn = AllQuiet m k f rules crossing local asked old offsets marked fields low_frame

  far : (v : ℕ) → Base ≤ v → lies_in_frame offsets v ≡ true → ⊥
  far v low = let base = own_low m k f rules crossing local asked old offsets marked fields low_frame in far_quiet m k f rules crossing local asked old offsets marked fields low_frame v (omega (arith, base, low))

  slot_still : (v : ℕ) → IsEntrySlot f slots v → IsEntrySlot G slots v
  slot_still v s = record { flagged = s.flagged; alloca = allocas_still W m f G (λ n. refl) woven v s.alloca }

  -- a name of the function that lies in the frame lay there before
  was_there : (v : ℕ) → v < First → lies_in_frame offsets v ≡ true → lies_in_frame old v ≡ true
  was_there v low e =
      ⊎_elim (λ o. o) (λ (x : IsField First (length (values_kept f crossing).values) v). let up : First + length (values_kept f crossing).values ≤ v = x.low in absurd (omega (arith, up, low)))
      (fields.frame v e)

  rows_quiet : AllRows (λ (i : Instr). Each QuietIn (instr_operands i)) T (fetch_quiet m k f rules crossing local asked old offsets marked fields low_frame) Ends
  rows_quiet =
      blocks_rows (λ (i : Instr). Each QuietIn (instr_operands i)) T (fetch_quiet m k f rules crossing local asked old offsets marked fields low_frame) Base (replicate Base []) f.blocks
      (blank_rows (λ (i : Instr). Each QuietIn (instr_operands i)) T (fetch_quiet m k f rules crossing local asked old offsets marked fields low_frame) Base)

  fetches_quiet : (n : ℕ) (xs : List Operand) → AllQuietIn (fetches_of_all T n xs)
  fetches_quiet n xs = all_fetched (λ (i : Instr). Each QuietIn (instr_operands i)) T (fetch_quiet m k f rules crossing local asked old offsets marked fields low_frame) n xs

  kept_at : (block : ℕ) (seen made : List ℕ) → (IsListed begin seen → IsListed begin made) → (x : Operand) → IsOwn f x → IsBehind f begin old block seen x → IsBehind G begin offsets block made x
  kept_at block seen made up (Operand.Local v) low h = λ e. there_still f G begin old passes block seen made up (h (was_there v low e))
  kept_at block seen made up _ low h = tt

  new_at : (block : ℕ) (made : List ℕ) (n : ℕ) → Base ≤ n → IsBehind G begin offsets block made (Operand.Local n)
  new_at block made n low = λ e. absurd (far n low e)

  allocas_quiet : (xs : List KeptValue) → AllQuietIn (kept_allocas xs)
  allocas_quiet [] = tt
  allocas_quiet (x ∷ xs) = (tt, (tt, each_behind (λ (i : Instr). Each QuietIn (instr_operands i)) (distance_allocas x) (kept_allocas xs) (on x.slot) (allocas_quiet xs)))
    where
      on : (o : Option ℕ) → AllQuietIn (distance_alloca x.field_cell x.field_ty o)
      on None = tt
      on (Some s) = (tt, tt)

  links_quiet : (count n : ℕ) → AllQuietIn (link_allocas First count n)
  links_quiet count zero = tt
  links_quiet count (suc n) = each_behind (λ (i : Instr). Each QuietIn (instr_operands i)) (link_allocas First count n) _ (links_quiet count n) (tt, tt)

  abbrev Start : List Instr
  Start = front m plan f

  start_quiet : AllQuietIn Start
  start_quiet =
      each_behind (λ (i : Instr). Each QuietIn (instr_operands i)) (kept_allocas plan.kept ++ link_allocas First (length plan.kept) plan.links) (stored_params plan f.params)
      (each_behind (λ (i : Instr). Each QuietIn (instr_operands i)) (kept_allocas plan.kept) (link_allocas First (length plan.kept) plan.links) (allocas_quiet plan.kept) (links_quiet (length plan.kept) plan.links))
      (params_quiet m k f rules crossing local asked old offsets marked fields low_frame f.params)

  base_high : (n : ℕ) → Base ≤ n → First ≤ n
  base_high n low = let base = own_low m k f rules crossing local asked old offsets marked fields low_frame in omega (arith, base, low)

  leads_same : (l : ℕ) → LeadsAgain G l → LeadsAgain f l
  leads_same l x = record { suspend = x.suspend; listed = subst (IsListed x.suspend) suspends x.listed; leads = x.leads }

  -- ---- phis

  own_position : (i : Incoming) → IsOwn f i.value → IsIncomingBehind f begin old i → (x : Operand) → x ≡ i.value → IsBehind G begin offsets (position_of G i.from) (values_at G (position_of G i.from)) x
  own_position i low h x e =
      subst (λ (y : Operand). IsBehind G begin offsets (position_of G i.from) (values_at G (position_of G i.from)) y) (sym e)
      (subst (λ (n : ℕ). IsBehind G begin offsets n (values_at G n) i.value) (sym (passes.position i.from))
      (kept_at (position_of f i.from) (values_at f (position_of f i.from)) (values_at G (position_of f i.from)) (passes.made (position_of f i.from)) i.value low h))

  incoming_behind : (n : ℕ) (is : List Incoming) → Base ≤ n → Each (λ (i : Incoming). IsOwn f i.value) is → Each (IsIncomingBehind f begin old) is → Each (IsIncomingBehind G begin offsets) (fetched_incoming T n is)
  incoming_behind n [] low mine h = tt
  incoming_behind n (i ∷ is) low mine h =
      let Q : Operand → Type 0 = λ (x : Operand). IsBehind G begin offsets (position_of G i.from) (values_at G (position_of G i.from)) x in
      let new : (y : ℕ) → Base ≤ y → Q (Operand.Local y) = λ y l. new_at (position_of G i.from) (values_at G (position_of G i.from)) y l in
      (operand_kept Q T Base new n i.value low (own_position i mine.0 h.0 i.value refl), incoming_behind (next_after T n i.value) is (low_after Q T Base new n i.value low) mine.1 h.1)

  phis_behind : (n : ℕ) (ps : List Phi) → Base ≤ n → Each (λ (p : Phi). Each (λ (i : Incoming). IsOwn f i.value) p.incoming) ps → Each (λ (p : Phi). Each (IsIncomingBehind f begin old) p.incoming) ps → Each (λ (p : Phi). Each (IsIncomingBehind G begin offsets) p.incoming) (fetched_phis T n ps)
  phis_behind n [] low mine h = tt
  phis_behind n (p ∷ ps) low mine h =
      let up : n ≤ next_after_phi T n p = fetch_rises T n (map (λ (i : Incoming). i.value) p.incoming) in
      (incoming_behind n p.incoming low mine.0 h.0, phis_behind (next_after_phi T n p) ps (omega (arith, low, up)) mine.1 h.1)

  -- ---- one block

  module _ (at : ℕ) (b : Block) (there : slice_get f.blocks at ≡ Some b) where
    abbrev P : List ℕ → Operand → Type 0
    P made = IsBehind G begin offsets at made

    abbrev R : List ℕ → Operand → Type 0
    R made = MayBeAccessed G begin slots offsets at made

    abbrev Are : List ℕ → List Instr → Type 0
    Are made is = AreBehind G begin slots offsets at made is

    abbrev Alls : List ℕ → List Instr → Type 0
    Alls made is = Each (Whole G begin slots offsets at made) is

    own : IsBlockBehind f begin slots old at b
    own = all.blocks at b there

    quiet_behind : (made : List ℕ) (x : Operand) → QuietIn x → P made x
    quiet_behind made (Operand.Local v) h = λ e. absurd (h e)
    quiet_behind made _ h = tt

    quiet_all : (made : List ℕ) (xs : List Instr) → AllQuietIn xs → Alls made xs
    quiet_all made xs h = each_turns (λ (i : Instr). Each QuietIn (instr_operands i)) (Whole G begin slots offsets at made) (λ i q. each_turns QuietIn (P made) (λ x y. quiet_behind made x y) (instr_operands i) q) xs h

    new_behind : (made : List ℕ) (n : ℕ) → Base ≤ n → P made (Operand.Local n)
    new_behind made n low = new_at at made n low

    there_behind : (made : List ℕ) → IsThere G at made begin → (x : Operand) → P made x
    there_behind made h (Operand.Local v) = λ e. h
    there_behind made h _ = tt

    -- operands of the function

    kept_behind : (seen made : List ℕ) → (IsListed begin seen → IsListed begin made) → (x : Operand) → IsOwn f x → IsBehind f begin old at seen x → P made x
    kept_behind seen made up x low h = kept_at at seen made up x low h

    kept_accessed : (seen made : List ℕ) → (IsListed begin seen → IsListed begin made) → (x : Operand) → IsOwn f x → MayBeAccessed f begin slots old at seen x → R made x
    kept_accessed seen made up (Operand.Local v) low h = λ e. ⊎_elim (λ s. inl (slot_still v s)) (λ t. inr (there_still f G begin old passes at seen made up t)) (h (was_there v low e))
    kept_accessed seen made up _ low h = tt

    others_behind : (seen made : List ℕ) (n : ℕ) (i : Instr) → (IsListed begin seen → IsListed begin made) → Base ≤ n → Each (IsOwn f) (instr_operands i) → Each (IsBehind f begin old at seen) (other_operands i) → Each (P made) (other_operands (with_fetched T n i))
    others_behind seen made n i up low mine h =
        others_kept (P made) T Base (new_behind made) n i low
        (each_both (IsOwn f) (IsBehind f begin old at seen) (P made) (λ x o y. kept_behind seen made up x o y) (other_operands i) (others_of (IsOwn f) i mine) h)

    accesses_behind : (seen made : List ℕ) (n : ℕ) (i : Instr) → (IsListed begin seen → IsListed begin made) → Base ≤ n → Each (IsOwn f) (instr_operands i) → Each (MayBeAccessed f begin slots old at seen) (access_operands i) → Each (R made) (access_operands (with_fetched T n i))
    accesses_behind seen made n i up low mine h =
        accesses_kept (R made) T Base (λ y l. may_access G begin slots offsets at made (Operand.Local y) (new_behind made y l)) n i low
        (each_both (IsOwn f) (MayBeAccessed f begin slots old at seen) (R made) (λ x o y. kept_accessed seen made up x o y) (access_operands i) (accesses_of (IsOwn f) i mine) h)

    -- what is saved stands behind begin
    saved_behind : (seen made : List ℕ) (next n : ℕ) (i : Instr) → (IsListed begin seen → IsListed begin made) → (asks_begin i ≡ true → ReachesWithout f begin at → IsListed begin seen) → Alls made (saved_values plan.kept next (save_row plan (with_fetched T n i)))
    saved_behind seen made next n i up asks =
        ⊎_elim
        (λ e. subst (λ (row : List ℕ). Alls made (saved_values plan.kept next row)) (sym e) tt)
        (λ e. all_whole G begin slots offsets at made (there_behind made (there_still f G begin old passes at seen made up (λ r none no_param. none (asks (same_asks T n i e) r)))) (saved_values plan.kept next (save_row plan (with_fetched T n i))))
        (row_asks plan (with_fetched T n i))

    made_again : (n : ℕ) (i : Instr) → IsListed begin (made_by i) → IsListed begin (made_by (with_fetched T n i))
    made_again n i l = subst (λ (o : Option ℕ). IsListed begin (option_to_list o)) (sym (same_fetched T n i)) l

    spread_behind : (seen made : List ℕ) (next n : ℕ) (is rest : List Instr) → Base ≤ next → Base ≤ n → (IsListed begin seen → IsListed begin made) → Each (λ (i : Instr). Each (IsOwn f) (instr_operands i)) is → AreBehind f begin slots old at seen is → AreBegun f begin at seen is → AllQuietIn rest → Are made (spread m plan T next n is rest)
    spread_behind seen made next n [] rest low1 low2 up mine h asks q = are_only G begin slots offsets at made rest (quiet_all made rest q)
    spread_behind seen made next n (i ∷ is) rest low1 low2 up mine h asks q =
        let j : Instr = with_fetched T n i in
        let fs : List Instr = fetches_of_all T n (instr_operands i) in
        let saved : List Instr = saved_values plan.kept next (save_row plan j) in
        let stores : List Instr = stored_result plan (result_of j) in
        let sums : List Instr = distance_behind m plan (after_saved next (save_row plan j)) j in
        let next2 : ℕ = after_one m plan next j in
        let n2 : ℕ = next_after_instr T n i in
        let more : List Instr = spread m plan T next2 n2 is rest in
        let rise1 : next ≤ next2 = written_low 0 m plan next (j ∷ []) in
        let rise2 : n ≤ n2 = fetch_rises T n (instr_operands i) in
        are_put G begin slots offsets at made fs (saved ++ (j ∷ (stores ++ (sums ++ more)))) (quiet_all made fs (fetches_quiet n (instr_operands i)))
        (λ one up1. are_put G begin slots offsets at one saved (j ∷ (stores ++ (sums ++ more))) (saved_behind seen one next n i (λ l. up1 (up l)) asks.0)
        (λ two up2.
        let upto : IsListed begin seen → IsListed begin two = λ l. up2 (up1 (up l)) in
        let now : IsListed begin (made_by i ++ seen) → IsListed begin (made_by j ++ two) = both_grown G begin slots offsets at seen two i j (made_again n i) upto in (
          others_behind seen two n i upto low2 mine.0 h.0,
          (
            accesses_behind seen two n i upto low2 mine.0 h.1.0,
            are_put G begin slots offsets at (made_by j ++ two) stores (sums ++ more) (quiet_all (made_by j ++ two) stores (result_quiet m k f rules crossing local asked old offsets marked fields low_frame (result_of j)))
                (λ three up3.
                let late : IsListed begin seen → IsListed begin three = λ l. up3 (behind_grown G begin slots offsets at two j (upto l)) in
                are_put G begin slots offsets at three sums more
                (behind_holds (P three) Base (new_behind three) (λ z. tt) m plan (λ v c e. quiet_behind three (Operand.Local c) (distance_quiet m k f rules crossing local asked old offsets marked fields low_frame v c e)) (after_saved next (save_row plan j)) j (saved_low Base next (save_row plan j) low1) (others_behind seen three n i late low2 mine.0 h.0))
                (λ four up4. spread_behind (made_by i ++ seen) four next2 n2 is rest (omega (arith, low1, rise1)) (omega (arith, low2, rise2)) (λ l. up4 (up3 (now l))) mine.1 h.1.1 asks.1 q)),
          ),
        )))

    -- the block

    no_path : LeadsAgain f b.label → (made : List ℕ) (x : Operand) → P made x
    no_path lead made (Operand.Local v) = λ e r none no_param. all.again at b there lead (passes.path at r)
    no_path lead made _ = tt

    again_behind : (made : List ℕ) (next : ℕ) → Alls made (again_values plan.kept next (again_row plan b.label))
    again_behind made next = on (entry plan.returns b.label) refl
      where
        on : (o : Option ℕ) → entry plan.returns b.label ≡ o → Alls made (again_values plan.kept next (row_at plan.rows o))
        on None e = tt
        on (Some j) e = all_whole G begin slots offsets at made (no_path (returns_lead f b.label j e) made) (again_values plan.kept next (row_at plan.rows (Some j)))

    front_behind : (lead : List Instr) (made : List ℕ) → (lead ≡ []) ⊎ (lead ≡ Start) → Alls made lead
    front_behind lead made (inl e) = subst (Alls made) (sym e) tt
    front_behind lead made (inr e) = subst (Alls made) (sym e) (quiet_all made Start start_quiet)

    module _ (b0 : Block) (bs0 : List Block) (blocks : f.blocks ≡ b0 ∷ bs0) where
      instrs_behind : (front : List Instr) (j n next : ℕ) → (front ≡ []) ⊎ (front ≡ Start) → Base ≤ j → Base ≤ n → Base ≤ next → Are (phi_values (written_block m plan front next (fetched_block T Ends j n b))) (written_block m plan front next (fetched_block T Ends j n b)).instrs
      instrs_behind front j n next fronts low1 low2 low3 =
          let fb : Block = fetched_block T Ends j n b in
          let made : List ℕ = phi_values fb in
          let again : List Instr = again_values plan.kept next (again_row plan b.label) in
          let phis : List Instr = stored_phis plan fb.phis in
          let next2 : ℕ = after_again next (again_row plan b.label) in
          let written : List Instr = written_instrs m plan next2 fb.instrs in
          let last : ℕ = next_after_instrs T n b.instrs in
          let rest : List Instr = end_at Ends b.label ++ fetches_of_all T last (term_operands b.term) in
          let first_low : First ≤ n = base_high n low2 in
          let same : written ≡ spread m plan T next2 n b.instrs rest = row_is W m f G plan (sound m k f rules crossing local asked b0 bs0 blocks) (planned m k f rules crossing local asked b0 bs0 blocks) Ends (loads m k f rules crossing local asked b0 bs0 blocks) j n next2 b first_low in
          let values : made ≡ phi_values b = fetched_phis_make T j b.phis [] in
          let zeroed : 0 + at ≡ at = omega arith in
          subst (Are made) (sym (append_assoc (front ++ again) phis written ∙ append_assoc front again (phis ++ written)))
          (are_put G begin slots offsets at made front (again ++ (phis ++ written)) (front_behind front made fronts)
          (λ one up1. are_put G begin slots offsets at one again (phis ++ written) (again_behind one next)
          (λ two up2. are_put G begin slots offsets at two phis written (quiet_all two phis (phis_quiet m k f rules crossing local asked old offsets marked fields low_frame fb.phis))
          (λ three up3.
          subst (Are three) (sym same)
          (spread_behind (phi_values b) three next2 n b.instrs rest (again_low Base next (again_row plan b.label) low3) low2 (λ l. up3 (up2 (up1 (subst (IsListed begin) (sym values) l)))) (own_instrs m k f rules at b there) own.instrs
          (subst (λ (x : ℕ). AreBegun f begin x (phi_values b) b.instrs) zeroed (begun_at f begin 0 f.blocks at b begun there))
          (each_behind (λ (i : Instr). Each QuietIn (instr_operands i)) (end_at Ends b.label) (fetches_of_all T last (term_operands b.term)) (rows_quiet b.label) (fetches_quiet last (term_operands b.term))))))))

      block_behind : (d : Block) → slice_get G.blocks at ≡ Some d → (front : List Instr) (j n next : ℕ) → (front ≡ []) ⊎ (front ≡ Start) → Base ≤ j → Base ≤ n → Base ≤ next → d ≡ written_block m plan front next (fetched_block T Ends j n b) → IsBlockBehind G begin slots offsets at d
      block_behind d found front j n next fronts low1 low2 low3 same =
          let last : ℕ = next_after_instrs T n b.instrs in
          let rise = instrs_rise 0 T n b.instrs in
          let more : IsListed begin (block_values b) → IsListed begin (block_values d) =
          λ l. subst (λ (o : Option Block). IsListed begin (values_in o)) found (passes.made at (subst (λ (o : Option Block). IsListed begin (values_in o)) (sym there) l)) in
          record {
            phis = subst (λ (c : Block). Each (λ (p : Phi). Each (IsIncomingBehind G begin offsets) p.incoming) c.phis) (sym same) (phis_behind j b.phis low1 (own_phis m k f rules at b there) own.phis);
            instrs = subst (λ (c : Block). Are (phi_values c) c.instrs) (sym same) (instrs_behind front j n next fronts low1 low2 low3);
            term =
                subst (λ (c : Block). Each (P (block_values d)) (ending_operands c.term)) (sym same)
                (ending_kept (P (block_values d)) T Base (new_behind (block_values d)) last b.term (omega (arith, low2, rise))
                (each_both (IsOwn f) (IsBehind f begin old at (block_values b)) (P (block_values d)) (λ x o y. kept_behind (block_values b) (block_values d) more x o y) (ending_operands b.term) (own_term m k f rules at b there) own.term));
          }

  -- ---- all of it

  use_low : Base ≤ first_use m plan f
  use_low = by_phis_rise 0 T Base f.blocks

  kept_low : Base ≤ first_kept m plan f
  kept_low = let e = length-append (named_function plan f).names (numbered_names (codes "$c.use.") (last_use m plan f - Base)) in omega (arith, e)

  celled_at : (at : ℕ) (d : Block) → slice_get G.blocks at ≡ Some d → IsCelled m plan T Ends Base Start f.blocks at d
  celled_at at d e = entry_there m plan T Ends Base Start Base (first_use m plan f) (first_kept m plan f) f.blocks at d (omega arith) use_low kept_low (ap (λ (bs : List Block). slice_get bs at) (sym (blocks_are m plan f)) ∙ e)

  again_still : (at : ℕ) (d : Block) → slice_get G.blocks at ≡ Some d → LeadsAgain G d.label → ReachesWithout G begin at → ⊥
  again_still at d e lead r =
      let x = celled_at at d e in
      all.again at x.block x.there (subst (LeadsAgain f) (ap (λ (c : Block). c.label) x.same) (leads_same d.label lead)) (passes.path at r)

  blocks_behind : (at : ℕ) (d : Block) → slice_get G.blocks at ≡ Some d → IsBlockBehind G begin slots offsets at d
  blocks_behind at d e =
      let x = celled_at at d e in
      let y = first_of f.blocks fields.starts in
      block_behind at x.block x.there y.0 y.1.0 y.1.1 d e x.front x.phi x.first x.kept x.fronts x.phi_low x.use_low x.kept_low x.same

  begin_low : begin < First
  begin_low = valued_low begin Kind.Ptr all.pointer

  field_pointer : (v : ℕ) → IsField First (length (values_kept f crossing).values) v → value_kind G v ≡ Some Kind.Ptr
  field_pointer v d =
      let count : ℕ = length (values_kept f crossing).values in
      let long : length plan.kept ≡ count = count_is m k f rules crossing local asked old offsets marked fields low_frame in
      let low : First + count ≤ v = d.low in
      let high : v < First + 2 * count = d.high in
      let at : ℕ = v - (First + count) in
      let x = there_is plan.kept at (omega (arith, long, low, high)) in
      let y = first_of f.blocks fields.starts in
      let n : IsNumbered First count at x.0 = numbered_field m k f rules crossing local asked old offsets marked fields low_frame at x.0 x.1 in
      let name : x.0.field ≡ First + count + at = n.field in
      let is : x.0.field ≡ v = omega (arith, name, low) in
      subst (λ (c : ℕ). value_kind G c ≡ Some Kind.Ptr) is ((sound m k f rules crossing local asked y.0 y.1.0 y.1.1).addresses x.0.field ((planned m k f rules crossing local asked y.0 y.1.0 y.1.1).kept at x.0 x.1).field)

  old_same : (v : ℕ) (kind : Kind) → value_kind f v ≡ Some kind → value_kind G v ≡ Some kind
  old_same v kind e = old_kind W m f G v (valued_low v kind e) refl woven ∙ e

  outside : lies_in_frame offsets begin ≡ false
  outside = on (lies_in_frame offsets begin) refl
    where
      on : (c : Bool) → lies_in_frame offsets begin ≡ c → c ≡ false
      on true e = let t : true ≡ false = sym (was_there begin begin_low e) ∙ all.outside in absurd (cc)
      on false e = refl

  pub cells_behind : IsFrameBehind G begin slots offsets marked
  cells_behind =
      record {
        named = named_still W m f G woven begin begin_low all.named;
        alone = alone_still W m f G woven begin begin_low all.alone;
        pointer = old_same begin Kind.Ptr all.pointer;
        outside = outside;
        pointers = λ v d e.
            ⊎_elim (λ o. let x = in_frame old v o in old_same v Kind.Ptr (all.pointers v x.0 x.1)) (λ y. field_pointer v y)
            (fields.frame v (ap (λ (o : Option (Option ℕ)). not (is_none (unwrap_or o None))) e));
        near = fields.near;
        unmarked = fields.unmarked;
        blocks = blocks_behind;
        again = again_still;
      }
