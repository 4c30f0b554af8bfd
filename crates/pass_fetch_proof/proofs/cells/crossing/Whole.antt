-- In the result nothing is needed behind a suspend that is reached.
use Rattle.std.proofs.Common.{◌≡◌, ◌⊎◌, inr, ⊎_elim, ℕ, zero, suc, ◌+◌, ◌<◌, ◌≤◌, Bool, true, false, List, [], ◌∷◌, length, refl, sym, ap, ◌∙◌, subst, arith}
use Rattle.std.proofs.lemmas.Bool.{cases_lt}
use Rattle.std.specs.List.{list_any}
use Rattle.std.specs.Prelude.{Some, None, map, slice_get, unwrap_or, ◌||◌, ◌==◌}
use Rattle.pass_edges_proof.specs.flow_blocks.Edges.{block_edges, edges_of_blocks}
use Rattle.pass_edges_proof.specs.flow_blocks.Reach.{Edge, IsReached, Start}
use Rattle.pass_fetch_proof.proofs.cells.crossing.Calls.{AreQuiet, front_quiet}
use Rattle.pass_fetch_proof.proofs.cells.crossing.Complete.{crossed_listed, pair_placed}
use Rattle.pass_edges_proof.proofs.rule_laws.frames.crossing.Defined.{defined_before, switch_leads}
use Rattle.pass_edges_proof.proofs.rule_laws.frames.crossing.Entries.{none_enters, not_entered}
use Rattle.pass_fetch_proof.proofs.cells.crossing.Follows.{HasAPlace}
use Rattle.pass_fetch_proof.proofs.cells.crossing.Like.{Matched, block_like, entry_calls, entry_edges, entry_label, entry_length, entry_match, entry_phis, entry_used, none_of, place_of}
use Rattle.pass_edges_proof.proofs.rule_laws.frames.crossing.Needed.{IsLike, needed_behind}
use Rattle.pass_edges_proof.proofs.rule_laws.frames.crossing.NewUses.{new_unneeded}
use Rattle.pass_edges_proof.proofs.rule_laws.frames.crossing.Paths.{point_found, point_there}
use Rattle.pass_fetch_proof.proofs.cells.crossing.Values.{no_cell}
use Rattle.pass_edges_proof.proofs.rule_laws.frames.crossing.Values.{old_value}
use Rattle.pass_edges_proof.specs.rule_laws.frames.crossing.Crossed.{AreSuspendsApart, IsApart}
use Rattle.pass_edges_proof.proofs.ir_laws.facts.Lists.{FoundParam, FoundPhi, phi_names, row_of}
use Rattle.pass_fetch_proof.proofs.cells.rules.Keepable.{keepable, once}
use Rattle.pass_edges_proof.proofs.ir_laws.paths.counted.Keepable.{param_listed, phi_listed}
use Rattle.pass_fetch_proof.proofs.cells.rules.NewNames.{blocks_are, defined_below, first_kept, first_kept_low, first_phi, first_phi_low, first_use, first_use_low, numbers_few, params_are}
use Rattle.pass_fetch_proof.proofs.cells.rules.Ends.{AreEndsFetches}
use Rattle.pass_fetch_proof.proofs.cells.rules.Planned.{IsPlanned}
use Rattle.pass_fetch_proof.proofs.cells.rules.Single.{IsSound}
use Rattle.pass_edges_proof.specs.rule_laws.rules.woven_rules.Weaving.{Weaving}
use Rattle.pass_edges_proof.specs.pass_cells.declared.plan.Plan.{Plan}
use Rattle.pass_edges_proof.proofs.rule_laws.rules.counted.PartFacts.{block_passes}
use Rattle.pass_edges_proof.proofs.rule_laws.rules.counted.Slots.{alloca_sized}
use Rattle.pass_fetch_proof.proofs.cells.rules.Whole.{front_is, g, is_woven, loads, p, planned, rows, sound, start, t, w}
use Rattle.pass_fetch_proof.specs.cells.rules.Asked.{AreCellsFor}
use Rattle.pass_edges_proof.specs.rule_uses.Undefined.{params_of}
use Rattle.pass_edges_proof.proofs.rule_laws.rules.local_rules.Names.{numbers}
use Rattle.pass_edges_proof.proofs.ir_laws.facts.Truth.{holds}
use Rattle.pass_edges_proof.proofs.rule_laws.rules.source_rules.Locals.{block_names, made_by}
use Rattle.pass_edges_proof.proofs.ir_laws.paths.source_rules.Locals.{in_row, listed_left, listed_right}
use Rattle.pass_edges_proof.specs.flow_solver.Paths.{IsListed}
use Rattle.pass_edges_proof.specs.rule_laws.rules.function_rules.Kept.{KeepsFunctionRules}
use Rattle.ir_model.specs.Names.{first_where, position_of}
use Rattle.ir_model.specs.declared.instr.Instr.{Instr}
use Rattle.ir_model.specs.declared.module.Block.{Block}
use Rattle.ir_model.specs.declared.module.Function.{Function}
use Rattle.ir_model.specs.declared.module.Module.{Module}
use Rattle.ir_model.specs.declared.module.Param.{Param}
use Rattle.ir_model.specs.declared.operand.Intrinsic.{Intrinsic}
use Rattle.pass_edges_proof.specs.ir_paths.Windows.{destroy_label, end_block, is_call_of, label_at, label_of_term, points_in, resume_label}
use Rattle.pass_edges_proof.specs.ir_paths.declared.point.Point.{Point}
use Rattle.pass_edges_proof.specs.rule_locals.Markers.{slot_size}
use Rattle.pass_edges_proof.specs.frame_crossing.Crossing.{AreCrossing, Crosses, suspends_of}
use Rattle.pass_edges_proof.specs.frame_crossing.EdgeUses.{blocks_uses, edge_use}
use Rattle.pass_edges_proof.specs.frame_crossing.Paths.{IsNeededBehind, phis_at, phis_in}
use Rattle.pass_edges_proof.specs.frame_crossing.Values.{values_of}
use Rattle.pass_edges_proof.specs.pass_fetch.Blocks.{fetched_blocks}
use Rattle.pass_edges_proof.specs.pass_cells.Written.{entry_blocks}
use Rattle.pass_edges_proof.specs.pass_cells.declared.plan.KeptValue.{KeptValue}
use Rattle.pass_edges_proof.specs.rule_values.Kinds.{value_kind}
use Rattle.pass_edges_proof.specs.rule_values.Values.{breaks_values, fits_ending}

-- a position where an instruction passes a test
passing_at : (t : Instr → Bool) (is : List Instr) → list_any t is ≡ true → (j : ℕ) × ((i : Instr) × ((slice_get is j ≡ Some i) × (t i ≡ true)))
passing_at t [] h = absurd (cc)
passing_at t (i ∷ is) h = on (t i) refl h (passing_at t is)
  where
    on : (b : Bool) → t i ≡ b → (b || list_any t is) ≡ true → (list_any t is ≡ true → (j : ℕ) × ((x : Instr) × ((slice_get is j ≡ Some x) × (t x ≡ true)))) → (j : ℕ) × ((x : Instr) × ((slice_get (i ∷ is) j ≡ Some x) × (t x ≡ true)))
    on true e k rest = (0, (i, (refl, e)))
    on false e k rest = let r = rest k in (suc r.0, r.1)

any_at : (t : Instr → Bool) (is : List Instr) (j : ℕ) (i : Instr) → slice_get is j ≡ Some i → t i ≡ true → list_any t is ≡ true
any_at t [] j i e h = absurd (cc)
any_at t (x ∷ is) zero i e h = let one : x ≡ i = cc in ap (λ (b : Bool). b || list_any t is) (ap t one ∙ h)
any_at t (x ∷ is) (suc j) i e h = ap (λ (b : Bool). t x || b) (any_at t is j i e h) ∙ or_true (t x)
  where
    or_true : (b : Bool) → (b || true) ≡ true
    or_true true = refl
    or_true false = refl

-- a suspend of the function behind which the value is needed
pub record NeededBefore (f : Function) (v : ℕ) : Type 0 where
  pub point : Point
  pub listed : IsListed point (suspends_of f)
  pub needed : IsNeededBehind f v point

-- a path in a function with the same edges
same_reach : (f h : Function) → block_edges h ≡ block_edges f → (starts avoided : List ℕ) (q : ℕ) → IsReached h starts avoided q → IsReached f starts avoided q
same_reach f h same starts avoided _ (Start q l) = Start q l
same_reach f h same starts avoided _ (Edge from to path edge away) = Edge from to (same_reach f h same starts avoided from path) (subst (λ (es : List (ℕ × ℕ)). IsListed {X = ℕ × ℕ} (from, to) es) same edge) away

module _ (m : Module) (k : ℕ) (f : Function) (rules : KeepsFunctionRules m k f) (crossing : List (ℕ × ℕ)) (local : List Bool) (asked : AreCellsFor k f crossing local) (apart : AreSuspendsApart f) (crossed : AreCrossing f crossing) where
  abbrev the_plan : Plan
  the_plan = p m k f rules crossing local asked

  abbrev the_result : Function
  the_result = g m k f rules crossing local asked

  abbrev the_weaving : Weaving
  the_weaving = w m k f rules crossing local asked

  abbrev the_rows : List (List Instr)
  the_rows = rows m k f rules crossing local asked

  abbrev the_start : List Instr
  the_start = start m k f rules crossing local asked

  abbrev j0 : ℕ
  j0 = first_phi m the_plan f

  abbrev n0 : ℕ
  n0 = first_use m the_plan f

  abbrev k0 : ℕ
  k0 = first_kept m the_plan f

  low_j : the_weaving.first ≤ j0
  low_j = first_phi_low m k f rules crossing local asked

  low_n : the_weaving.first ≤ n0
  low_n = first_use_low m k f rules crossing local asked

  low_k : the_weaving.first ≤ k0
  low_k = first_kept_low m k f rules crossing local asked

  quiet : AreQuiet the_start
  quiet = front_quiet the_plan f.params

  module _ (b : Block) (bs : List Block) (blocks : f.blocks ≡ b ∷ bs) where
    abbrev ok : IsSound the_weaving f
    ok = sound m k f rules crossing local asked b bs blocks

    abbrev kept : IsPlanned the_weaving f the_plan
    kept = planned m k f rules crossing local asked b bs blocks

    abbrev all_loads : AreEndsFetches the_weaving the_rows
    all_loads = loads m k f rules crossing local asked b bs blocks

    result_blocks : the_result.blocks ≡ entry_blocks m the_plan the_start k0 (fetched_blocks (t m k f rules crossing local asked) the_rows j0 n0 f.blocks)
    result_blocks = blocks_are m the_plan f

    -- ---- positions, edges and phis

    position : (label : ℕ) → position_of the_result label ≡ position_of f label
    position label =
        λ e. unwrap_or
        ((ap (first_where (λ c. c.label == label)) result_blocks ∙ entry_label the_weaving m f the_result the_plan ok kept the_rows all_loads label the_start j0 n0 k0 f.blocks) e)
        ((ap length result_blocks ∙ entry_length the_weaving m f the_result the_plan ok kept the_rows all_loads the_start j0 n0 k0 f.blocks) e)

    same_end : end_block the_result ≡ end_block f
    same_end =
        λ e. unwrap_or
        ((ap (first_where (λ c. list_any (is_call_of Intrinsic.CoroEnd) c.instrs)) result_blocks ∙ entry_calls the_weaving m f the_result the_plan ok kept the_rows all_loads Intrinsic.CoroEnd the_start j0 n0 k0 f.blocks quiet low_n) e)
        ((ap length result_blocks ∙ entry_length the_weaving m f the_result the_plan ok kept the_rows all_loads the_start j0 n0 k0 f.blocks) e)

    same_edges : block_edges the_result ≡ block_edges f
    unfolding block_edges
    same_edges = ap (edges_of_blocks the_result 0) result_blocks ∙ entry_edges the_weaving m f the_result the_plan ok kept the_rows all_loads position the_start j0 n0 k0 f.blocks

    matched : (q : ℕ) (c : Block) → slice_get the_result.blocks q ≡ Some c → Matched the_weaving m f the_result the_plan ok kept the_rows all_loads f.blocks q c
    matched q c e = entry_match the_weaving m f the_result the_plan ok kept the_rows all_loads the_start j0 n0 k0 f.blocks quiet low_n q c (ap (λ (xs : List Block). slice_get xs q) (sym result_blocks) ∙ e)

    none_there : (q : ℕ) → slice_get f.blocks q ≡ None → slice_get the_result.blocks q ≡ None
    none_there q e = ap (λ (xs : List Block). slice_get xs q) result_blocks ∙ none_of the_weaving m f the_result the_plan ok kept the_rows all_loads the_start j0 n0 k0 f.blocks q e

    same_phis : (q : ℕ) → phis_at the_result q ≡ phis_at f q
    same_phis q = ap (λ (xs : List Block). phis_in (slice_get xs q)) result_blocks ∙ entry_phis the_weaving m f the_result the_plan ok kept the_rows all_loads the_start j0 n0 k0 f.blocks q

    -- ---- an old value

    slotless : (v : ℕ) → slot_size m f v ≡ None → (i : ℕ) (x : KeptValue) (slot : ℕ) → slice_get the_plan.kept i ≡ Some x → x.slot ≡ Some slot → slot ≡ v → ⊥
    slotless v none i x slot e d same =
        alloca_sized m f slot (once m k f rules crossing local asked slot) (((kept.kept i x e).slot slot d).alloca) (ap (slot_size m f) same ∙ none)

    module _ (v : ℕ) (old : v < the_weaving.first) (no_slot : (i : ℕ) (x : KeptValue) (s : ℕ) → slice_get the_plan.kept i ≡ Some x → x.slot ≡ Some s → s ≡ v → ⊥) where
      like : IsLike (HasAPlace the_plan) v f the_result
      like =
          record {
            position = position;
            end = same_end;
            blocks = λ q c got other.
                block_like the_weaving m f the_result the_plan ok kept the_rows all_loads v old no_slot (entry_blocks m the_plan the_start k0 (fetched_blocks (t m k f rules crossing local asked) the_rows j0 n0 f.blocks)) q c (value_kind f) f.result result_blocks
                (holds (fits_ending (value_kind f) f.result c.term) (block_passes (breaks_values m (value_kind f) f.result) k f rules.local.values q c got).ending.1)
                (place_of the_weaving m f the_result the_plan ok kept the_rows all_loads the_start j0 n0 k0 f.blocks low_n low_k q c got other);
            none = none_there;
            edges = λ from to used. entry_used the_weaving m f the_result the_plan ok kept the_rows all_loads v old position the_start from to j0 n0 k0 f.blocks low_j (subst (λ (xs : List Block). IsListed (edge_use from to v) (blocks_uses the_result 0 xs)) result_blocks used);
            phis = same_phis;
            entered = not_entered m k f rules;
          }

    -- ---- a suspend of the result is one of the function

    module _ (s : Point) (l : IsListed s (suspends_of the_result)) where
      record SuspendAt : Type 0 where
        pub block : Block
        pub got : slice_get f.blocks s.block ≡ Some block
        pub at : ℕ
        pub listed : IsListed (record { block = s.block; at = at }) (suspends_of f)
        pub resume : resume_label the_result s ≡ resume_label f s
        pub destroy : destroy_label the_result s ≡ destroy_label f s

      suspend_at : SuspendAt
      suspend_at =
          let x = point_found (is_call_of Intrinsic.CoroSuspend) the_result s l in
          let same : s.block ≡ x.position = (let e : s.block ≡ 0 + x.position = x.is_block in omega (arith, e)) in
          let there : slice_get the_result.blocks s.block ≡ Some x.block = ap (slice_get the_result.blocks) same ∙ x.got in
          let y = matched s.block x.block there in
          let called : list_any (is_call_of Intrinsic.CoroSuspend) y.block.instrs ≡ true = sym (y.calls Intrinsic.CoroSuspend) ∙ any_at (is_call_of Intrinsic.CoroSuspend) x.block.instrs s.at x.instr x.there x.passes in
          let at = passing_at (is_call_of Intrinsic.CoroSuspend) y.block.instrs called in
          record {
            block = y.block;
            got = y.got;
            at = at.0;
            listed = point_there (is_call_of Intrinsic.CoroSuspend) f s.block y.block at.0 at.1.0 y.got at.1.1.0 at.1.1.1;
            resume = ap (label_at 0) there ∙ y.labels 0 ∙ sym (ap (label_at 0) y.got);
            destroy = ap (label_at 1) there ∙ y.labels 1 ∙ sym (ap (label_at 1) y.got);
          }

      abbrev before : Point
      before = record { block = s.block; at = suspend_at.at }

      abbrev stands_apart : IsApart f before
      stands_apart = apart before suspend_at.listed

      away : (i : ℕ) → position_of f (label_at i (slice_get f.blocks s.block)) ≡ 0 → ⊥
      away i e =
          let b2 : Block = suspend_at.block in
          let got : slice_get f.blocks s.block ≡ Some b2 = suspend_at.got in
          none_enters m k f rules s.block b2 (label_of_term i b2.term) got (switch_leads i b2.term (stands_apart.switch b2 got)) (ap (position_of f) (sym (ap (label_at i) got)) ∙ e)

      -- an old value that is no slot was needed behind that
      was_needed_behind : (v : ℕ) → v < the_weaving.first → slot_size m f v ≡ None → IsNeededBehind the_result v s → NeededBefore f v
      was_needed_behind v old none needed =
          let r = needed_behind (HasAPlace the_plan) v f the_result (like v old (slotless v none)) s suspend_at.resume suspend_at.destroy (away 0) (away 1) needed in
          record { point = before; listed = suspend_at.listed; needed = r.0 }

      module _ (v : ℕ) (is : IsListed v (values_of the_result)) (reached : IsReached the_result (0 ∷ []) [] s.block) (needed : IsNeededBehind the_result v s) where
        -- new values aren't needed
        new_not : the_weaving.first ≤ v → ⊥
        new_not new =
            let woven = is_woven m k f rules crossing local asked in
            new_unneeded m k f rules v new the_weaving the_result woven (ok.old v new)
            (λ front. no_cell the_weaving m f the_result woven (defined_below m k f rules crossing local asked) v new (numbers_few m k f rules crossing local asked v new) (front_is m k f rules crossing local asked v front) (no_phi new) (no_param new) is)
            s
            (same_phis (position_of the_result (resume_label the_result s)) ∙ ap (phis_at f) (position (resume_label the_result s) ∙ ap (position_of f) suspend_at.resume) ∙ stands_apart.resume)
            (same_phis (position_of the_result (destroy_label the_result s)) ∙ ap (phis_at f) (position (destroy_label the_result s) ∙ ap (position_of f) suspend_at.destroy) ∙ stands_apart.destroy)
            needed
          where
            below : the_weaving.first ≤ v → IsListed v (numbers f) → ⊥
            below low n = let lt : v < length f.names = defined_below m k f rules crossing local asked v n in absurd (omega (arith, low, lt))

            no_phi : the_weaving.first ≤ v → (q : ℕ) (c : Block) → slice_get the_result.blocks q ≡ Some c → FoundPhi c.phis v → ⊥
            no_phi low q c e x =
                let y = matched q c e in
                let named : IsListed v (phi_names y.block.phis) = subst (λ (ns : List ℕ). IsListed v ns) y.names (phi_listed c.phis x.at x.phi v x.there x.same) in
                below low (listed_right v (params_of f) (row_of block_names f.blocks) (in_row block_names f.blocks q v y.block y.got (inr (listed_left v (phi_names y.block.phis) (row_of made_by y.block.instrs) named))))

            no_param : the_weaving.first ≤ v → FoundParam the_result.params v → ⊥
            no_param low x =
                let named : IsListed v (map (λ q. q.name) the_result.params) = param_listed the_result.params x.at x.param v x.there x.same in
                below low (listed_left v (params_of f) (row_of block_names f.blocks) (subst (λ (ps : List Param). IsListed v (map (λ q. q.name) ps)) (params_are m the_plan f) named))

        -- old ones are kept, so they aren't needed either
        old_not : v < the_weaving.first → ⊥
        old_not old =
            let value : IsListed v (values_of f) = old_value the_weaving m f the_result (is_woven m k f rules crossing local asked) v old is in
            let none : slot_size m f v ≡ None = (keepable m k f rules crossing local asked v value).no_slot in
            let r = needed_behind (HasAPlace the_plan) v f the_result (like v old (slotless v none)) s suspend_at.resume suspend_at.destroy (away 0) (away 1) needed in
            let path : IsReached f (0 ∷ []) [] s.block = same_reach f the_result same_edges (0 ∷ []) [] s.block reached in
            let crosses : Crosses f v before = record { is_value = value; defined = defined_before k f rules.uses v before suspend_at.listed stands_apart path r.0; needed = r.0 } in
            let pair = crossed_listed f (values_of f) crossing crossed v value before suspend_at.listed crosses in
            r.1 (pair_placed (length f.names) crossing (v, pair.0) old pair.1)

        nothing : ⊥
        nothing = ⊎_elim old_not new_not (cases_lt v the_weaving.first)

  no_suspends : f.blocks ≡ [] → (s : Point) → IsListed s (suspends_of the_result) → {A : Type 0} → A
  no_suspends e s l = absurd (subst (λ (xs : List Block). IsListed s (points_in (is_call_of Intrinsic.CoroSuspend) 0 xs)) (blocks_are m the_plan f ∙ ap (λ (xs : List Block). entry_blocks m the_plan the_start k0 (fetched_blocks (t m k f rules crossing local asked) the_rows j0 n0 xs)) e) l)

  before_by : (bs : List Block) → f.blocks ≡ bs → (v : ℕ) → v < the_weaving.first → slot_size m f v ≡ None → (s : Point) → IsListed s (suspends_of the_result) → IsNeededBehind the_result v s → NeededBefore f v
  before_by [] e v old none s l needed = no_suspends e s l
  before_by (b ∷ bs) e v old none s l needed = was_needed_behind b bs e s l v old none needed

  pub was_needed : (v : ℕ) → v < the_weaving.first → slot_size m f v ≡ None → (s : Point) → IsListed s (suspends_of the_result) → IsNeededBehind the_result v s → NeededBefore f v
  was_needed = before_by f.blocks refl

  by_blocks : (bs : List Block) → f.blocks ≡ bs → (v : ℕ) (s : Point) → IsListed s (suspends_of the_result) → IsReached the_result (0 ∷ []) [] s.block → IsListed v (values_of the_result) → IsNeededBehind the_result v s → ⊥
  by_blocks [] e v s l reached is needed = no_suspends e s l
  by_blocks (b ∷ bs) e v s l reached is needed = nothing b bs e s l v is reached needed

  pub nothing_needed : (v : ℕ) (s : Point) → IsListed s (suspends_of the_result) → IsReached the_result (0 ∷ []) [] s.block → IsListed v (values_of the_result) → IsNeededBehind the_result v s → ⊥
  nothing_needed = by_blocks f.blocks refl
