-- What passes put in stays as it is under the later ones, in a coroutine whose frame may be built.
use Rattle.std.proofs.Common.{◌≡◌, inl, inr, ℕ, ◌+◌, ◌*◌, ◌≤◌, Bool, true, false, List, [], ◌∷◌, ◌++◌, length, refl, sym, ◌∙◌, subst, arith, length-append}
use Rattle.std.specs.List.{list_all}
use Rattle.std.specs.Prelude.{None, Option, Some, codes, map, slice_get, take, unwrap_or, ◌&&◌, if◌then◌else◌}
use Rattle.pass_proofs.specs.flow_solver.Paths.{IsListed}
use Rattle.pass_proofs.specs.frame_classes.declared.class.SlotClass.{SlotClass}
use Rattle.pass_proofs.specs.ir_base.declared.name.Name.{Name}
use Rattle.pass_proofs.specs.ir_base.declared.ops.CastOp.{CastOp}
use Rattle.pass_proofs.proofs.ir_laws.facts.Members.{at_each, each_joined, each_turns}
use Rattle.pass_proofs.proofs.ir_laws.facts.Truth.{and_first, and_second}
use Rattle.pass_proofs.specs.ir_model.Ty.{Ty, int, ptr}
use Rattle.pass_proofs.specs.ir_model.declared.instr.Incoming.{Incoming}
use Rattle.pass_proofs.specs.ir_model.declared.instr.Instr.{Instr}
use Rattle.pass_proofs.specs.ir_model.declared.instr.Phi.{Phi}
use Rattle.pass_proofs.specs.ir_model.declared.module.Block.{Block}
use Rattle.pass_proofs.specs.ir_model.declared.module.Module.{Module}
use Rattle.pass_proofs.specs.ir_model.declared.operand.Arg.{Arg}
use Rattle.pass_proofs.specs.ir_model.declared.operand.Operand.{Operand}
use Rattle.pass_proofs.specs.ir_parts.Contents.{arg_operands, instr_operands, result_of}
use Rattle.pass_proofs.specs.pass_addresses.Placing.{lies_outside, slot_fetches, stays, without_promise_of}
use Rattle.pass_proofs.specs.pass_cells.Cells.{fetch_by, fetch_for, fetched_function, fetches_of}
use Rattle.pass_proofs.specs.pass_cells.Kept.{entry}
use Rattle.pass_proofs.specs.pass_cells.Moves.{after_saved, saved_one, saved_values}
use Rattle.pass_proofs.specs.pass_cells.Written.{after_blocks as after_written, after_one, again_row, distance_behind, distance_from, distance_into, entry_front as cells_front, save_row, stored, stored_at, stored_one, stored_result}
use Rattle.pass_proofs.specs.pass_cells.declared.plan.KeptValue.{KeptValue}
use Rattle.pass_proofs.specs.pass_copies.BeginCopies.{after_blocks as after_copied, begin_copies, copy, entry_front as copies_front, first_fetched, is_fetched, put}
use Rattle.pass_proofs.specs.pass_copies.Slots.{entry_instrs}
use Rattle.pass_proofs.specs.pass_copies.Uses.{is_access, is_begin, used_before}
use Rattle.pass_proofs.specs.pass_copies.declared.slot.EarlySlot.{EarlySlot}
use Rattle.pass_proofs.specs.pass_distances.Sums.{distance_instrs, is_wide, start_instrs, start_value, sum_instrs, way_instrs, widening}
use Rattle.pass_proofs.specs.pass_distances.Ways.{ways_of}
use Rattle.pass_proofs.specs.pass_distances.declared.way.Way.{Way}
use Rattle.pass_proofs.specs.pass_fetch.Blocks.{end_at, ends_of_blocks, ends_of_incoming, ends_of_phis, next_after_blocks, next_after_phi, next_after_phis, next_after_phis_by, numbered_names, with_end}
use Rattle.pass_proofs.specs.pass_fetch.Fetching.{fetch_into, fetch_of, fetched_args, fetched_operand, fetches_by, fetches_of as fetches_of_one, fetches_of_all, next_after, operand_by}
use Rattle.pass_proofs.specs.pass_fetch.Instrs.{next_after_instr, with_fetched}
use Rattle.pass_proofs.specs.pass_fetch.declared.fetch.Fetch.{Fetch}
use Rattle.pass_proofs.specs.pass_frames.Framed.{begin_of}
use Rattle.pass_proofs.specs.pass_frames.Tables.{class_flags, sizes_by_name}
use Rattle.pass_frames_code.proofs.code.Idle.{cells_idle, copies_idle, each_idle, fetches_idle, only_idle, other_idle}
use Rattle.pass_frames_code.proofs.code.Names.{Count, F, First, IsLeft, cell_left, count_is, distance_left, far_left, has_cells, kept_left, local, new_unfetched, new_unkept, number_left}
use Rattle.pass_frames_code.proofs.layers.Idle.{both_idle}
use Rattle.pass_proofs.proofs.cells.begin_order.Sums.{behind_holds}
use Rattle.pass_proofs.proofs.cells.rules.Around.{again_low, saved_low}
use Rattle.pass_proofs.proofs.cells.rules.Counts.{by_phis_rise}
use Rattle.pass_proofs.proofs.cells.rules.Indices.{behind_low}
use Rattle.pass_proofs.proofs.cells.rules.Keepable.{block_fits}
use Rattle.pass_proofs.proofs.cells.rules.Planned.{fetch_there}
use Rattle.pass_proofs.proofs.cells.rules.Totals.{all_rise, blocks_rise, numbered_length}
use Rattle.pass_proofs.proofs.copies.begin_order.Early.{all_loaded}
use Rattle.pass_proofs.proofs.copies.rules.Slots.{cell_named, front_range, numbered as slots_numbered}
use Rattle.pass_proofs.proofs.fetch.begin_order.Rows.{row_set}
use Rattle.pass_proofs.proofs.fetch.rules.Ends.{phis_rise}
use Rattle.pass_proofs.proofs.fetch.rules.Puts.{fetch_rises}
use Rattle.pass_frames_code.specs.Code.{ArePartsLeft, copied_there, load_name, loaded, loads, saved, stores, wheres, where_name, write_name, is_ahead}
use Rattle.pass_frames_code.specs.Framings.{IsFraming}
use Rattle.pass_frames_code.specs.Layers.{IsIdle, becomes, each, only, passed, state_at}
use Rattle.pass_frames_code.specs.Passes.{IsUnwritten, at_entry, block_at, fetched_first, fetching_at, no_block, phi_ends, unmarked_at}
use Rattle.pass_frames_code.specs.Places.{Framing, Placed, addressing_layer, before_labels, copies, copying_layer, edged, fetched, instrs_at, loading_layer, marked, named, offsets, placed_layer, plan, unmarked, writing_layer, written}
use Rattle.pass_proofs.specs.fetch.rules.Fetches.{AreUnfetched}
use Rattle.pass_proofs.specs.rule_values.Fits.{fits, fits_integer, fits_kind, is_integer, is_tokenless}
use Rattle.pass_proofs.specs.rule_values.Geps.{indices_fit}
use Rattle.pass_proofs.specs.rule_values.Instrs.{fits_instr}
use Rattle.pass_proofs.specs.rule_values.Kinds.{value_kind}
use Rattle.pass_proofs.specs.rule_values.declared.kinds.Kind.{Kind}
use Rattle.pass_proofs.specs.run_laws.changed.Changed.{Each}

-- names behind others are more
pub longer : (xs ys : List Name) → length xs ≤ length (xs ++ ys)
longer xs ys = let s = length-append xs ys in omega (arith, s)

-- ---- what is fetched by a table from a name on

module _ (t : List (Option Fetch)) (P : Instr → Type 0) (first : ℕ)
    (one : (n : ℕ) (y : Operand) (f : Fetch) → first ≤ n → fetch_of t y ≡ Some f → P (fetch_into n f)) where
  by_fetch : (n : ℕ) (y : Operand) (o : Option Fetch) → first ≤ n → fetch_of t y ≡ o → Each P (fetches_by n o)
  by_fetch n y None low e = tt
  by_fetch n y (Some f) low e = (one n y f low e, tt)

  pub all_by : (n : ℕ) (xs : List Operand) → first ≤ n → Each P (fetches_of_all t n xs)
  all_by n [] low = tt
  all_by n (y ∷ xs) low =
      let up : n ≤ next_after t n y = fetch_rises t n (y ∷ []) in
      each_joined P (fetches_of_one t n y) (fetches_of_all t (next_after t n y) xs)
      (by_fetch n y (fetch_of t y) low refl) (all_by (next_after t n y) xs (omega (arith, low, up)))

  -- so it is at the ends of blocks
  abbrev pub AllIn : List (List Instr) → Type 0
  AllIn rows = (l : ℕ) → Each P (end_at rows l)

  end_by : (rows : List (List Instr)) (label n : ℕ) (y : Operand) (o : Option Fetch) → first ≤ n → fetch_of t y ≡ o
      → AllIn rows → AllIn (with_end rows label n o)
  end_by rows label n y None low e h = h
  end_by rows label n y (Some f) low e h = λ l.
      row_set P rows label (end_at rows label ++ fetch_into n f ∷ []) l
      (each_joined P (end_at rows label) (fetch_into n f ∷ []) (h label) (one n y f low e, tt)) (h l)

  incoming_by : (n : ℕ) (rows : List (List Instr)) (is : List Incoming) → first ≤ n → AllIn rows
      → AllIn (ends_of_incoming t n rows is)
  incoming_by n rows [] low h = h
  incoming_by n rows (i ∷ is) low h =
      let up : n ≤ next_after t n i.value = fetch_rises t n (i.value ∷ []) in
      incoming_by (next_after t n i.value) (with_end rows i.from n (fetch_of t i.value)) is (omega (arith, low, up))
      (end_by rows i.from n i.value (fetch_of t i.value) low refl h)

  phis_by : (n : ℕ) (rows : List (List Instr)) (ps : List Phi) → first ≤ n → AllIn rows
      → AllIn (ends_of_phis t n rows ps)
  phis_by n rows [] low h = h
  phis_by n rows (p ∷ ps) low h =
      let up : n ≤ next_after_phi t n p = fetch_rises t n (map (λ i. i.value) p.incoming) in
      phis_by (next_after_phi t n p) (ends_of_incoming t n rows p.incoming) ps (omega (arith, low, up))
      (incoming_by n rows p.incoming low h)

  pub blocks_by : (n : ℕ) (rows : List (List Instr)) (bs : List Block) → first ≤ n → AllIn rows
      → AllIn (ends_of_blocks t n rows bs)
  blocks_by n rows [] low h = h
  blocks_by n rows (b ∷ bs) low h =
      let up : n ≤ next_after_phis t n b.phis = phis_rise t n b.phis in
      blocks_by (next_after_phis t n b.phis) (ends_of_phis t n rows b.phis) bs (omega (arith, low, up))
      (phis_by n rows b.phis low h)

-- ---- loads, stores, sums and addresses

abbrev pub IsMove : Instr → Type 0
IsMove (Instr.Binary r op flags ty a b) = Unit {0}
IsMove (Instr.Cast r op nneg a to) = Unit {0}
IsMove (Instr.Load r ty p align) = Unit {0}
IsMove (Instr.Store a p align) = Unit {0}
IsMove (Instr.Gep r inbounds ty p indices) = Unit {0}
IsMove _ = ⊥

pub move_stays : (marked : List Bool) (i : Instr) → IsMove i → stays marked i ≡ true
move_stays marked (Instr.Binary r op flags ty a b) m = refl
move_stays marked (Instr.Cast r op nneg a to) m = refl
move_stays marked (Instr.Load r ty p align) m = refl
move_stays marked (Instr.Store a p align) m = refl
move_stays marked (Instr.Gep r inbounds ty p indices) m = refl
move_stays marked _ m = absurd m

pub move_same : (i : Instr) → IsMove i → without_promise_of i ≡ i
move_same (Instr.Binary r op flags ty a b) m = refl
move_same (Instr.Cast r op nneg a to) m = refl
move_same (Instr.Load r ty p align) m = refl
move_same (Instr.Store a p align) m = refl
move_same (Instr.Gep r inbounds ty p indices) m = refl
move_same _ m = absurd m

pub move_outside : (offsets : List (Option ℕ)) (i : Instr) → IsMove i → lies_outside offsets i ≡ true
move_outside offsets (Instr.Binary r op flags ty a b) m = refl
move_outside offsets (Instr.Cast r op nneg a to) m = refl
move_outside offsets (Instr.Load r ty p align) m = refl
move_outside offsets (Instr.Store a p align) m = refl
move_outside offsets (Instr.Gep r inbounds ty p indices) m = refl
move_outside offsets _ m = absurd m

pub move_begins_not : (i : Instr) → IsMove i → is_begin i ≡ false
move_begins_not (Instr.Binary r op flags ty a b) m = refl
move_begins_not (Instr.Cast r op nneg a to) m = refl
move_begins_not (Instr.Load r ty p align) m = refl
move_begins_not (Instr.Store a p align) m = refl
move_begins_not (Instr.Gep r inbounds ty p indices) m = refl
move_begins_not _ m = absurd m

-- sums are moves
widening_moves : (n : ℕ) (a : Arg) → Each IsMove (widening n a)
widening_moves n a = on (is_wide a.ty)
  where
    on : (b : Bool) → Each IsMove (if b then [] else Instr.Cast n CastOp.Sext false a (int 64) ∷ [])
    on true = tt
    on false = (tt, tt)

way_moves : (n : ℕ) (y : Operand) (w : Way) → Each IsMove (way_instrs n y w)
way_moves n y (Way.Bytes bytes) = (tt, tt)
way_moves n y (Way.Elements a size) = each_joined IsMove (widening n a) _ (widening_moves n a) (tt, (tt, tt))

sum_moves : (n : ℕ) (y : Operand) (ws : List Way) → Each IsMove (sum_instrs n y ws)
sum_moves n y [] = tt
sum_moves n y (w ∷ ws) =
    each_joined IsMove (way_instrs n y w) (sum_instrs (n + 3) (Operand.Local (n + 2)) ws) (way_moves n y w)
    (sum_moves (n + 3) (Operand.Local (n + 2)) ws)

distance_moves : (n : ℕ) (from : Option ℕ) (cell : ℕ) (ws : List Way) → Each IsMove (distance_instrs n from cell ws)
distance_moves n from cell ws =
    each_joined IsMove (start_instrs n from ++ sum_instrs (n + 1) (start_value n from) ws) _
    (each_joined IsMove (start_instrs n from) (sum_instrs (n + 1) (start_value n from) ws) (on from)
    (sum_moves (n + 1) (start_value n from) ws))
    (tt, tt)
  where
    on : (o : Option ℕ) → Each IsMove (start_instrs n o)
    on None = tt
    on (Some c) = (tt, tt)

into_moves : (m : Module) (from : Option ℕ) (n : ℕ) (o : Option ℕ) (ty : Ty) (args : List Arg)
    → Each IsMove (distance_into m from n o ty args)
into_moves m from n None ty args = tt
into_moves m from n (Some cell) ty args = distance_moves n from cell (ways_of m ty args)

-- ---- the framing

module _ (x : Framing) (is : IsFraming x) where
  abbrev pub T : List (Option Fetch)
  T = slot_fetches (begin_of x.function) (offsets x)

  abbrev pub E : List (Option Fetch)
  E = (copies x).fetches

  abbrev pub Far : ℕ
  Far = First x is + 2 * Count x is

  -- the operand isn't fetched by later passes
  abbrev pub Q : Operand → Type 0
  Q (Operand.Local v) = IsLeft x is v
  Q _ = Unit {0}

  -- a move of operands that aren't
  abbrev pub IsCalm : Instr → Type 0
  IsCalm j = IsMove j × Each Q (instr_operands j)

  no_slot : (y : Operand) → Q y → fetch_of T y ≡ None
  no_slot (Operand.Local v) h = h.0
  no_slot _ h = refl

  no_early : (y : Operand) → Q y → fetch_of E y ≡ None
  no_early (Operand.Local v) h = h.1
  no_early _ h = refl

  -- ---- idle moves

  pub written_idle : (k : ℕ) (j : Instr) → IsUnwritten (plan x) j → IsIdle (writing_layer x k) j
  written_idle k j u =
      cells_idle x.code (plan x) (at_entry k (cells_front (plan x) (edged x).params))
      (after_written x.code (plan x) (length (fetched x).names) (take k (fetched x).blocks)) (block_at (fetched x) k) j
      u

  pub copied_idle : (k : ℕ) (j : Instr) → IsMove j → AreUnfetched E (instr_operands j)
      → IsIdle (copying_layer x k) j
  copied_idle k j m h =
      copies_idle (copies x) (before_labels x) (at_entry k (copies_front (copies x).slots))
      (after_copied (copies x) (before_labels x) (first_fetched (written x) (copies x)) (take k (written x).blocks))
      (block_at (written x) k) j (move_begins_not j m) h

  pub other_copied : (k : ℕ) (j : Instr) → is_begin j ≡ false → is_access j ≡ false → IsIdle (copying_layer x k) j
  other_copied k j begins reads =
      other_idle (copies x) (before_labels x) (at_entry k (copies_front (copies x).slots))
      (after_copied (copies x) (before_labels x) (first_fetched (written x) (copies x)) (take k (written x).blocks))
      (block_at (written x) k) j begins reads

  pub unmarked_idle : (j : Instr) → IsMove j → IsIdle (unmarked_at (marked x)) j
  unmarked_idle j m =
      both_idle (only (stays (marked x))) (each without_promise_of) j
      (only_idle (stays (marked x)) j (move_stays (marked x) j m))
      (each_idle without_promise_of j (move_same j m))

  pub addressed_idle : (k : ℕ) (j : Instr) → IsMove j → AreUnfetched T (instr_operands j)
      → IsIdle (addressing_layer x k) j
  addressed_idle k j m h =
      both_idle (fetching_at (unmarked x) T k) (only (lies_outside (offsets x))) j
      (fetches_idle T (end_at (phi_ends (unmarked x) T) (block_at (unmarked x) k).label)
      (fetched_first (unmarked x) T k) (block_at (unmarked x) k) j h)
      (only_idle (lies_outside (offsets x)) j (move_outside (offsets x) j m))

  -- all of this at once
  pub calm_copied : (k : ℕ) (j : Instr) → IsCalm j → IsIdle (copying_layer x k) j
  calm_copied k j c =
      copied_idle k j c.0 (each_turns Q (λ (y : Operand). fetch_of E y ≡ None) no_early (instr_operands j) c.1)

  pub calm_addressed : (k : ℕ) (j : Instr) → IsCalm j → IsIdle (addressing_layer x k) j
  calm_addressed k j c =
      addressed_idle k j c.0 (each_turns Q (λ (y : Operand). fetch_of T y ≡ None) no_slot (instr_operands j) c.1)

  -- ---- how many names there are

  pub far_named : Far ≤ length (named x).names
  far_named =
      let count : ℕ = length (plan x).kept in
      let one = numbered_length (codes "$c.cell.") count in
      let two = numbered_length (codes "$c.field.") count in
      let three = numbered_length (codes "$c.distance.") count in
      let a : List Name = numbered_names (codes "$c.cell.") count in
      let b : List Name = numbered_names (codes "$c.field.") count in
      let c : List Name = numbered_names (codes "$c.distance.") count in
      let d : List Name = numbered_names (codes "$c.link.") (plan x).links in
      let s1 = length-append (edged x).names a in
      let s2 = length-append ((edged x).names ++ a) b in
      let s3 = length-append (((edged x).names ++ a) ++ b) c in
      let s4 = length-append ((((edged x).names ++ a) ++ b) ++ c) d in
      let same = count_is x is in
      omega (arith, one, two, three, s1, s2, s3, s4, same)

  fetched_longer : length (named x).names ≤ length (fetched x).names
  unfolding fetched_function
  fetched_longer = longer (named x).names _

  pub far_fetched : Far ≤ length (fetched x).names
  far_fetched = let low = far_named in let more = fetched_longer in omega (arith, low, more)

  pub far_written : Far ≤ length (written x).names
  far_written =
      let low = far_fetched in
      let more : length (fetched x).names ≤ length (written x).names = longer (fetched x).names _ in
      omega (arith, low, more)

  -- ---- loads of what is kept

  -- the kept value that a fetch loads
  pub record IsFetch (v : ℕ) (f : Fetch) : Type 0 where
    pub at : ℕ
    pub kept : KeptValue
    pub told : entry (plan x).places v ≡ Some at
    pub there : slice_get (plan x).kept at ≡ Some kept
    pub same : f ≡ Fetch.Load kept.ty kept.cell

  pub fetch_found : (v : ℕ) (f : Fetch) → fetch_of (fetches_of (plan x)) (Operand.Local v) ≡ Some f → IsFetch v f
  fetch_found v f e =
      on (entry (plan x).places v) refl (sym (fetch_there (plan x).kept (plan x).places v) ∙ e)
    where
      by : (at : ℕ) → entry (plan x).places v ≡ Some at → (o : Option KeptValue) → slice_get (plan x).kept at ≡ o
          → fetch_by o ≡ Some f → IsFetch v f
      by at told None d h = absurd (cc)
      by at told (Some k) d h =
          let one : Fetch.Load k.ty k.cell ≡ f = cc in
          record { at = at; kept = k; told = told; there = d; same = sym one }

      on : (o : Option ℕ) → entry (plan x).places v ≡ o → fetch_for (plan x).kept o ≡ Some f → IsFetch v f
      on None told h = absurd (cc)
      on (Some at) told h = by at told (slice_get (plan x).kept at) refl h

  pub load_calm : (n : ℕ) (y : Operand) (f : Fetch) → Far ≤ n → fetch_of (fetches_of (plan x)) y ≡ Some f
      → IsCalm (fetch_into n f)
  load_calm n (Operand.Local v) f low e =
      let z = fetch_found v f e in
      subst (λ (g : Fetch). IsCalm (fetch_into n g)) (sym z.same) (tt, (cell_left x is z.at z.kept z.there, tt))
  load_calm n _ f low e = absurd (cc)

  -- what it is loaded into isn't kept
  pub load_unwritten : (n : ℕ) (y : Operand) (f : Fetch) → Far ≤ n → fetch_of (fetches_of (plan x)) y ≡ Some f
      → IsUnwritten (plan x) (fetch_into n f)
  load_unwritten n (Operand.Local v) f low e =
      let z = fetch_found v f e in
      subst (λ (g : Fetch). IsUnwritten (plan x) (fetch_into n g)) (sym z.same)
      (record {
        row = refl;
        result = λ u d. let same : n ≡ u = cc in
            subst (λ (w : ℕ). entry (plan x).places w ≡ None) same (new_unkept x is n (omega (arith, low)));
        distance = tt;
      })
  load_unwritten n _ f low e = absurd (cc)

  pub loads_calm : (n : ℕ) (ys : List Operand) → Far ≤ n → Each IsCalm (fetches_of_all (fetches_of (plan x)) n ys)
  loads_calm n ys low = all_by (fetches_of (plan x)) IsCalm Far load_calm n ys low

  pub loads_unwritten : (n : ℕ) (ys : List Operand) → Far ≤ n
      → Each (IsUnwritten (plan x)) (fetches_of_all (fetches_of (plan x)) n ys)
  loads_unwritten n ys low = all_by (fetches_of (plan x)) (IsUnwritten (plan x)) Far load_unwritten n ys low

  -- ---- values on their way to their fields: no slot that is used before begin is among them

  abbrev IsEarlyCalm : Instr → Type 0
  IsEarlyCalm j = IsMove j × AreUnfetched E (instr_operands j)

  module _ (P : Instr → Type 0)
      (one : (n at : ℕ) (k : KeptValue) → First x is ≤ n → slice_get (plan x).kept at ≡ Some k → Each P
      (saved_one n (Some k)))
    where
      saved_each : (n : ℕ) (ks : List ℕ) → First x is ≤ n → Each P (saved_values (plan x).kept n ks)
      saved_each n [] low = tt
      saved_each n (at ∷ ks) low =
          each_joined P (saved_one n (slice_get (plan x).kept at)) (saved_values (plan x).kept (n + 1) ks)
          (on (slice_get (plan x).kept at) refl) (saved_each (n + 1) ks (omega (arith, low)))
        where
          on : (o : Option KeptValue) → slice_get (plan x).kept at ≡ o → Each P (saved_one n o)
          on None e = tt
          on (Some k) e = one n at k low e

  one_saved : (n at : ℕ) (k : KeptValue) → First x is ≤ n → slice_get (plan x).kept at ≡ Some k
      → Each IsEarlyCalm (saved_one n (Some k))
  one_saved n at k low e =
      let c = has_cells x is at k e in (
        (tt, (new_unfetched x is k.field_cell c.field_cell, tt)),
        ((tt, (new_unfetched x is n low, (new_unfetched x is k.field c.field, tt))), tt),
      )

  pub saved_calm : (n : ℕ) (ks : List ℕ) → First x is ≤ n → Each IsEarlyCalm (saved_values (plan x).kept n ks)
  saved_calm = saved_each IsEarlyCalm one_saved

  -- ---- stores into cells

  one_stored : (v at : ℕ) → entry (plan x).places v ≡ Some at → (o : Option KeptValue)
      → slice_get (plan x).kept at ≡ o → Each IsCalm (stored_one v o)
  one_stored v at place None e = tt
  one_stored v at place (Some k) e = ((tt, (kept_left x is v at place, (cell_left x is at k e, tt))), tt)

  pub stored_calm : (v : ℕ) → Each IsCalm (stored (plan x) v)
  stored_calm v = on (entry (plan x).places v) refl
    where
      on : (o : Option ℕ) → entry (plan x).places v ≡ o → Each IsCalm (stored_at (plan x).kept v o)
      on None e = tt
      on (Some at) e = one_stored v at e (slice_get (plan x).kept at) refl

  pub result_calm : (o : Option ℕ) → Each IsCalm (stored_result (plan x) o)
  result_calm None = tt
  result_calm (Some v) = stored_calm v

  -- ---- distances

  kind_left : (v w : ℕ) (o : Option Kind) → value_kind (F x is) v ≡ o → fits_kind o (int w) ≡ true → IsLeft x is v
  kind_left v w (Some (Kind.Int u)) d e = number_left x is v u d
  kind_left v w _ d e = absurd (cc)

  local_left : (ty : Ty) (v : ℕ) → (is_integer ty && fits_kind (value_kind (F x is) v) ty) ≡ true → IsLeft x is v
  local_left (int w) v e = kind_left v w (value_kind (F x is) v) refl e
  local_left _ v e = absurd (cc)

  index_calm : (ty : Ty) (y : Operand) → (is_integer ty && fits (value_kind (F x is)) ty y) ≡ true → Q y
  index_calm ty (Operand.Local v) e = local_left ty v e
  index_calm ty _ e = tt

  index_there : (n : ℕ) (a : Arg) → Far ≤ n → fits_integer (value_kind (F x is)) a ≡ true
      → (o : Option Fetch) → Q (operand_by n o a.value)
  index_there n a low e None = index_calm a.ty a.value e
  index_there n a low e (Some f) = far_left x is n low

  indices_calm : (n : ℕ) (args : List Arg) → Far ≤ n → list_all (fits_integer (value_kind (F x is))) args ≡ true
      → Each Q (arg_operands (fetched_args (fetches_of (plan x)) n args))
  indices_calm n [] low e = tt
  indices_calm n (a ∷ args) low e =
      let up : n ≤ next_after (fetches_of (plan x)) n a.value = fetch_rises (fetches_of (plan x)) n (a.value ∷ []) in (
        index_there n a low
            (and_first (fits_integer (value_kind (F x is)) a) (list_all (fits_integer (value_kind (F x is))) args) e)
            (fetch_of (fetches_of (plan x)) a.value),
        indices_calm (next_after (fetches_of (plan x)) n a.value) args (omega (arith, low, up))
            (and_second (fits_integer (value_kind (F x is)) a) (list_all (fits_integer (value_kind (F x is))) args) e),
      )

  -- the base isn't looked at, so any stands for it
  gep_calm : (n r : ℕ) (inbounds : Bool) (ty : Ty) (base : Operand) (args : List Arg) → Far ≤ n
      → Each Q (arg_operands args)
      → Each (λ (j : Instr). Each Q (instr_operands j))
      (distance_behind x.code (plan x) n (Instr.Gep r inbounds ty base args))
  gep_calm n r inbounds ty base args low h =
      behind_holds Q Far (far_left x is) (λ z. tt) x.code (plan x) (distance_left x is) n
      (Instr.Gep r inbounds ty Operand.Null args) low (tt, h)

  both_calm : (js : List Instr) → Each IsMove js → Each (λ (j : Instr). Each Q (instr_operands j)) js → Each IsCalm js
  both_calm [] a b = tt
  both_calm (j ∷ js) a b = ((a.0, b.0), both_calm js a.1 b.1)

  pub behind_calm : (n load : ℕ) (i : Instr) → Far ≤ n → Far ≤ load → fits_instr x.code (value_kind (F x is)) i ≡ true
      → Each IsCalm (distance_behind x.code (plan x) n (with_fetched (fetches_of (plan x)) load i))
  behind_calm n load (Instr.Gep r inbounds ty base args) low lower e =
      let t : List (Option Fetch) = fetches_of (plan x) in
      let up : load ≤ next_after t load base = fetch_rises t load (base ∷ []) in
      let right : (list_all (fits_integer (value_kind (F x is))) args && indices_fit x.code ty args) ≡ true =
      and_second (is_tokenless ty && fits (value_kind (F x is)) ptr base)
      (list_all (fits_integer (value_kind (F x is))) args && indices_fit x.code ty args) e in
      both_calm (distance_behind x.code (plan x) n (with_fetched t load (Instr.Gep r inbounds ty base args)))
      (into_moves x.code (distance_from (plan x) r) n (entry (plan x).cells r) ty
      (fetched_args t (next_after t load base) args))
      (gep_calm n r inbounds ty (fetched_operand t load base) (fetched_args t (next_after t load base) args) low
      (indices_calm (next_after t load base) args (omega (arith, lower, up))
      (and_first (list_all (fits_integer (value_kind (F x is))) args) (indices_fit x.code ty args) right)))
  behind_calm n load _ low lower e = tt

  -- ---- loads of addresses of slots that are used before begin

  abbrev IsSlotCalm : Instr → Type 0
  IsSlotCalm j = IsMove j × AreUnfetched T (instr_operands j)

  cell_calm : (s : EarlySlot) → IsListed s (copies x).slots → fetch_of T (Operand.Local s.cell) ≡ None
  cell_calm s l =
      let range = front_range (length (written x).names) s.cell (copies x).slots
      (slots_numbered
      (used_before (written x) (class_flags x.function x.contents.classes SlotClass.Frame) (before_labels x))
      (sizes_by_name x.function x.contents.held) (length (written x).names) (entry_instrs (written x).blocks))
      (cell_named (copies x).slots s l) in
      let low : length (written x).names ≤ s.cell = range.0 in
      let far = far_written in
      (far_left x is s.cell (omega (arith, low, far))).0

  pub wheres_calm : (n : ℕ) (ys : List Operand) → Each IsSlotCalm (fetches_of_all E n ys)
  wheres_calm n ys = each_of (fetches_of_all E n ys) (λ j l. l)
    where
      one : (j : Instr) → IsListed j (fetches_of_all E n ys) → IsSlotCalm j
      one j l =
          let y = all_loaded (written x) (copies x).slots n ys j l in
          subst IsSlotCalm (sym y.same) (tt, (cell_calm y.slot y.listed, tt))

      each_of : (js : List Instr) → ((j : Instr) → IsListed j js → IsListed j (fetches_of_all E n ys))
          → Each IsSlotCalm js
      each_of [] up = tt
      each_of (j ∷ js) up = (one j (up j (inl refl)), each_of js (λ k l. up k (inr l)))

  -- ---- copies behind begin

  copies_move : (ss : List EarlySlot) → Each (IsIdle (unmarked_at (marked x))) (begin_copies ss)
  copies_move [] = tt
  copies_move (s ∷ ss) = (
    both_idle (only (stays (marked x))) (each without_promise_of) (copy s)
        (only_idle (stays (marked x)) (copy s) refl) (each_idle without_promise_of (copy s) refl),
    (unmarked_idle (put s.slot s.cell) tt, copies_move ss),
  )

  -- ---- how far the names are on

  pub start_loads : (k : ℕ) → Far ≤ load_name (placed_layer x k).start
  start_loads k =
      let t : List (Option Fetch) = fetches_of (plan x) in
      let first : ℕ = next_after_phis_by t (length (named x).names) (named x).blocks in
      let low = far_named in
      let a : length (named x).names ≤ first = by_phis_rise 0 t (length (named x).names) (named x).blocks in
      let b : first ≤ next_after_blocks t first (take k (named x).blocks) =
      blocks_rise 0 t [] first (take k (named x).blocks) in
      omega (arith, low, a, b)

  pub start_writes : (k : ℕ) → Far ≤ write_name (placed_layer x k).start
  start_writes k =
      let first : ℕ = after_written x.code (plan x) (length (fetched x).names) (take k (fetched x).blocks) in
      let low = far_fetched in
      let a : length (fetched x).names ≤ first =
      all_rise 0 x.code (plan x) (length (fetched x).names) (take k (fetched x).blocks) in
      again_low Far first (again_row (plan x) (block_at (fetched x) k).label) (omega (arith, low, a))

  writes_rise : (k n : ℕ) (js : List Instr) → Far ≤ n → Far ≤ passed (writing_layer x k) n js
  writes_rise k n [] low = low
  writes_rise k n (j ∷ js) low =
      writes_rise k (after_one x.code (plan x) n j) js
      (behind_low x.code (plan x) Far (after_saved n (save_row (plan x) j)) j
      (saved_low Far n (save_row (plan x) j) low))

  abbrev pub AreFar : Placed → Type 0
  AreFar s = (Far ≤ load_name s) × (Far ≤ write_name s)

  pub names_rise : (k : ℕ) (s : Placed) (js : List Instr) → AreFar s → AreFar (passed (placed_layer x k) s js)
  names_rise k s [] low = low
  names_rise k s (j ∷ js) low =
      let t : List (Option Fetch) = fetches_of (plan x) in
      let a : Far ≤ load_name s = low.0 in
      let up : load_name s ≤ next_after_instr t (load_name s) j = fetch_rises t (load_name s) (instr_operands j) in
      names_rise k ((placed_layer x k).after s j) js (
        omega (arith, a, up),
        writes_rise k (write_name s) (becomes (loading_layer x k) (load_name s) j) low.1,
      )

  pub names_far : (k at : ℕ) → AreFar (state_at (placed_layer x k) (instrs_at x k) at)
  names_far k at =
      names_rise k (placed_layer x k).start (take at (instrs_at x k)) (start_loads k, start_writes k)

  -- ---- all of it

  record IsIn (k at : ℕ) (i : Instr) : Type 0 where
    block : Block
    there : slice_get (edged x).blocks k ≡ Some block
    is_at : slice_get block.instrs at ≡ Some i

  instr_in : (k at : ℕ) (i : Instr) → slice_get (instrs_at x k) at ≡ Some i → IsIn k at i
  instr_in k at i e = on (slice_get (edged x).blocks k) refl e
    where
      on : (o : Option Block) → slice_get (edged x).blocks k ≡ o
          → slice_get (unwrap_or o no_block).instrs at ≡ Some i → IsIn k at i
      on None d h = absurd (cc)
      on (Some b) d h = record { block = b; there = d; is_at = h }

  typed : (k at : ℕ) (i : Instr) → slice_get (instrs_at x k) at ≡ Some i
      → fits_instr x.code (value_kind (F x is)) i ≡ true
  typed k at i e =
      let y = instr_in k at i e in
      at_each _ y.block.instrs at i
      (block_fits x.code is.position (F x is) is.frameable.rules x.contents.crossing (local x is) is.frameable.cells k
      y.block y.there) y.is_at

  module _ (k at : ℕ) (i : Instr) (e : slice_get (instrs_at x k) at ≡ Some i) where
    abbrev s : Placed
    s = state_at (placed_layer x k) (instrs_at x k) at

    far : AreFar s
    far = names_far k at

    writes_first : First x is ≤ write_name s
    writes_first = let low : Far ≤ write_name s = far.1 in omega (arith, low)

    stores_calm : Each IsCalm (stores x s i)
    stores_calm =
        each_joined IsCalm (stored_result (plan x) (result_of (loaded x s i))) _
        (result_calm (result_of (loaded x s i)))
        (behind_calm (after_saved (write_name s) (save_row (plan x) (loaded x s i))) (load_name s) i
        (saved_low Far (write_name s) (save_row (plan x) (loaded x s i)) far.1) far.0 (typed k at i e))

    loads_are : Each IsCalm (loads x s i)
    loads_are = loads_calm (load_name s) (instr_operands i) far.0

    saved_are : Each IsEarlyCalm (saved x s i)
    saved_are = saved_calm (write_name s) (save_row (plan x) (loaded x s i)) writes_first

    wheres_are : Each IsSlotCalm (wheres x s i)
    wheres_are = on (is_fetched (is_ahead s) (loaded x s i))
      where
        on : (b : Bool)
            → Each IsSlotCalm (if b then fetches_of_all E (where_name s) (instr_operands (loaded x s i)) else [])
        on true = wheres_calm (where_name s) (instr_operands (loaded x s i))
        on false = tt

    copies_are : Each (IsIdle (unmarked_at (marked x))) (copied_there x s i)
    copies_are = on (is_begin (loaded x s i))
      where
        on : (b : Bool) → Each (IsIdle (unmarked_at (marked x))) (if b then begin_copies (copies x).slots else [])
        on true = copies_move (copies x).slots
        on false = tt

    pub parts_left : ArePartsLeft x k s i
    parts_left = record {
      written =
          each_turns (IsUnwritten (plan x)) (IsIdle (writing_layer x k)) (written_idle k) (loads x s i)
          (loads_unwritten (load_name s) (instr_operands i) far.0);
      copied =
          each_joined (IsIdle (copying_layer x k)) (loads x s i) (saved x s i)
          (each_turns IsCalm (IsIdle (copying_layer x k)) (calm_copied k) (loads x s i) loads_are)
          (each_turns IsEarlyCalm (IsIdle (copying_layer x k)) (λ j c. copied_idle k j c.0 c.1) (saved x s i)
          saved_are);
      copied_behind =
          each_turns IsCalm (IsIdle (copying_layer x k)) (calm_copied k) (stores x s i) stores_calm;
      unmarked =
          each_joined (IsIdle (unmarked_at (marked x))) (loads x s i ++ saved x s i) (wheres x s i)
          (each_joined (IsIdle (unmarked_at (marked x))) (loads x s i) (saved x s i)
          (each_turns IsCalm (IsIdle (unmarked_at (marked x))) (λ j c. unmarked_idle j c.0) (loads x s i) loads_are)
          (each_turns IsEarlyCalm (IsIdle (unmarked_at (marked x))) (λ j c. unmarked_idle j c.0) (saved x s i)
          saved_are))
          (each_turns IsSlotCalm (IsIdle (unmarked_at (marked x))) (λ j c. unmarked_idle j c.0) (wheres x s i)
          wheres_are);
      unmarked_behind =
          each_joined (IsIdle (unmarked_at (marked x))) (copied_there x s i) (stores x s i) copies_are
          (each_turns IsCalm (IsIdle (unmarked_at (marked x))) (λ j c. unmarked_idle j c.0) (stores x s i)
          stores_calm);
      addressed_loads =
          each_turns IsCalm (IsIdle (addressing_layer x k)) (calm_addressed k) (loads x s i) loads_are;
      addressed_wheres =
          each_turns IsSlotCalm (IsIdle (addressing_layer x k)) (λ j c. addressed_idle k j c.0 c.1) (wheres x s i)
          wheres_are;
      addressed_stores =
          each_turns IsCalm (IsIdle (addressing_layer x k)) (calm_addressed k) (stores x s i) stores_calm;
    }
