-- The words that are solved for, and paths of points.
use Rattle.std.proofs.Common.{◌≡◌, ℕ, zero, suc, ◌+◌, ◌<◌, ◌≤◌, ◌⊎◌, Bool, true, false, List, [], ◌∷◌, ◌++◌, length, map, Some, refl, sym, ap, ◌∙◌, subst, ⊎_elim, inl, inr, arith, eq-eqb}
use Rattle.std.specs.Prelude.{option_map, slice_get, unwrap_or, if◌then◌else◌, ◌==◌}
use Rattle.std.proofs.lemmas.Bool.{eqb-true}
use Rattle.std.proofs.lemmas.Option.{slice_get-map}
use Rattle.flow_bits.specs.Bits.{HasBit}
use Rattle.flow_bits.specs.Reaching.{AnswersAt, Reaches}
use Rattle.flow_bits.specs.Reaching.Reaches.{Start, Edge}
use Rattle.flow_blocks.proofs.Bounds.{edge_bounded}
use Rattle.flow_blocks.proofs.Elements.{listed_append, listed_map, map_listed}
use Rattle.flow_blocks.proofs.Reached.{word_within}
use Rattle.flow_blocks.specs.Edges.{block_edges}
use Rattle.flow_blocks.specs.Words.{word_at}
use Rattle.flow_solver.proofs.Lists.{listed_at, listed_front, place_of}
use Rattle.flow_solver.specs.Paths.{IsListed}
use Rattle.ir_model.specs.declared.module.Block.{Block}
use Rattle.ir_model.specs.declared.module.Function.{Function}
use Rattle.ir_paths.specs.Paths.{has_point, nexts}
use Rattle.ir_paths.specs.declared.point.Point.{Point}
use Rattle.flow_points.proofs.Neighbours.{IsBranch, IsInner, edge-cases, next-inner}
use Rattle.flow_points.proofs.Tests.{point-is, same_point-from}
use Rattle.ir_paths.proofs.Search.{or_left}
use Rattle.ir_paths.specs.Paths.{same_point}
use Rattle.flow_reach.proofs.Bits.{all_bit, flipped_off, flipped_on, no_bit}
use Rattle.flow_reach.proofs.Each.{HasRow, each_gets, row_of_block, some_same}
use Rattle.flow_reach.proofs.Stepping.{GoesOn, GoesThrough, after_step, begins_stepped, goes_stepped, none_stopped, out_has, out_step, stepped_has, stops_through, through_out, through_stops, word_after}
use Rattle.flow_reach.proofs.Ways.{LeavesBlock, branch_is, edge_leaves, listed_back}
use Rattle.flow_reach.specs.Reached.{AreBlocks, HaveShape, IsReached, begins_at, front, pass_at, row_of, stops_at}
use Rattle.flow_reach.specs.Reached.IsReached.{AtFront, Behind, On}
use Rattle.flow_reach.specs.Rows.{all_bits, each_from, kept_word, made_of, made_start, out_word, shut_of, stepped, stops_of, stops_word}
use Rattle.flow_reach.specs.declared.question.Pass.{Pass}
use Rattle.flow_reach.specs.declared.question.Passes.{Passes}

-- ---- the closed block

shut_by : (b : Bool) (c : ℕ) → c < 64 → b ≡ true → HasBit (if b then all_bits else 0) c
shut_by true c lt e = all_bit c lt
shut_by false c lt e = absurd (cc)

open_by : (b : Bool) (c : ℕ) → HasBit (if b then all_bits else 0) c → b ≡ true
open_by true c h = refl
open_by false c h = absurd (no_bit c h)

pub closed_shut : (closed b c : ℕ) → c < 64 → b ≡ closed → HasBit (shut_of closed b) c
closed_shut closed b c lt e = shut_by (b == closed) c lt (eq-eqb b closed e)

pub shut_closed : (closed b c : ℕ) → HasBit (shut_of closed b) c → b ≡ closed
shut_closed closed b c h = eqb-true b closed (open_by (b == closed) c h)

-- ---- words and passes at their places

pub pass_is : (rows : List (List Pass)) (p : Point) (row : List Pass) (pass : Pass) → slice_get rows p.block ≡ Some row → slice_get row p.at ≡ Some pass → pass_at rows p ≡ pass
pass_is rows p row pass e at =
    ap (λ (r : List Pass). unwrap_or (slice_get r p.at) (record { stops = 0; begins = 0 })) (ap (λ o. unwrap_or o []) e)
    ∙ ap (λ o. unwrap_or o (record { stops = 0; begins = 0 })) at

word_from : (make : ℕ → List Pass → ℕ) (rows : List (List Pass)) (b : ℕ) (row : List Pass) → slice_get rows b ≡ Some row → word_at (each_from make 0 rows) b ≡ make b row
word_from make rows b row e =
    let z : 0 + b ≡ b = omega arith in
    ap (λ o. unwrap_or o 0) (each_gets make 0 rows b row e) ∙ ap (λ (n : ℕ). make n row) z

place_in : {X : Type 0} (xs : List X) (k : ℕ) → k < length xs → (x : X) × (slice_get xs k ≡ Some x)
place_in [] k lt = absurd (omega arith)
place_in (x ∷ xs) zero lt = (x, refl)
place_in (x ∷ xs) (suc k) lt = place_in xs k (omega arith)

module _ (f : Function) (passes : Passes) (c : ℕ) (small : c < 64) (shape : HaveShape f passes.rows) where
  abbrev made : List ℕ
  made = each_from (made_of passes.closed) 0 passes.rows

  abbrev stops : List ℕ
  stops = each_from (stops_of passes.closed) 0 passes.rows

  abbrev kept : List ℕ
  kept = map (kept_word stops) (block_edges f)

  abbrev starts : List (ℕ × ℕ)
  starts = passes.fronts ++ map (made_start made) (block_edges f)

  -- ---- along a block

  module _ (b : ℕ) (block : Block) (is_block : slice_get f.blocks b ≡ Some block) (row : List Pass) (is_row : slice_get passes.rows b ≡ Some row) (is_long : length row ≡ length block.instrs + 1) where
    abbrev here : ℕ → Point
    here k = record { block = b; at = k }

    goes : (k : ℕ) (pass : Pass) (q : Point) → slice_get row k ≡ Some pass → has_point (nexts f (here k)) q ≡ true → HasBit pass.begins c ⊎ (IsReached f passes c (here k) × GoesOn (shut_of passes.closed b) pass c) → IsReached f passes c q
    goes k pass q at next way =
        let same : pass_at passes.rows (here k) ≡ pass = pass_is passes.rows (here k) row pass is_row at in
        ⊎_elim
        (λ begins. Behind (here k) q (subst (λ (x : Pass). HasBit x.begins c) (sym same) begins) next)
        (λ r. On (here k) q r.0 (λ s. r.1.0 (subst (λ (x : Pass). HasBit x.stops c) same s)) (λ e. r.1.1 (closed_shut passes.closed b c small e)) next)
        way

    inner_next : (k : ℕ) → k < length block.instrs → has_point (nexts f (here k)) (here (suc k)) ≡ true
    inner_next k lt =
        let one : k + 1 ≡ suc k = omega arith in
        ap (λ (l : List Point). has_point l (here (suc k))) (next-inner f (here k) block is_block lt)
        ∙ or_left (same_point (here (suc k)) (here (k + 1))) false (same_point-from (here (suc k)) (here (k + 1)) refl (sym one))

    pub walk : (k : ℕ) → k ≤ length block.instrs → (word : ℕ) → (HasBit word c → IsReached f passes c (front b)) → HasBit (word_after (shut_of passes.closed b) word row k) c → IsReached f passes c (here k)
    walk zero le word known h = known h
    walk (suc k) le word known h =
        let found : (pass : Pass) × (slice_get row k ≡ Some pass) = place_in row k (omega (arith, le, is_long)) in
        let stands : HasBit (stepped (shut_of passes.closed b) found.0 (word_after (shut_of passes.closed b) word row k)) c = subst (λ (w : ℕ). HasBit w c) (after_step (shut_of passes.closed b) word row k found.0 found.1) h in
        goes k found.0 (here (suc k)) found.1 (inner_next k (omega (arith, le)))
        (⊎_elim (λ begins. inl begins) (λ r. inr (walk k (omega (arith, le)) word known r.0, r.1))
        (stepped_has (shut_of passes.closed b) found.0 (word_after (shut_of passes.closed b) word row k) c small stands))

    pub leaves : (word : ℕ) → (HasBit word c → IsReached f passes c (front b)) → HasBit (out_word (shut_of passes.closed b) word row) c → (q : Point) → has_point (nexts f (here (length block.instrs))) q ≡ true → IsReached f passes c q
    leaves word known h q next =
        let found : (pass : Pass) × (slice_get row (length block.instrs) ≡ Some pass) = place_in row (length block.instrs) (omega (arith, is_long)) in
        let stands : HasBit (stepped (shut_of passes.closed b) found.0 (word_after (shut_of passes.closed b) word row (length block.instrs))) c = subst (λ (w : ℕ). HasBit w c) (out_step (shut_of passes.closed b) word row (length block.instrs) found.0 is_long found.1) h in
        goes (length block.instrs) found.0 q found.1 next
        (⊎_elim (λ begins. inl begins) (λ r. inr (walk (length block.instrs) (omega arith) word known r.0, r.1))
        (stepped_has (shut_of passes.closed b) found.0 (word_after (shut_of passes.closed b) word row (length block.instrs)) c small stands))

  -- ---- from blocks to points

  leaves_by : (from to : ℕ) → IsListed (from, to) (block_edges f) → (word : ℕ) → (HasBit word c → IsReached f passes c (front from)) →
      ((row : List Pass) → slice_get passes.rows from ≡ Some row → HasBit (out_word (shut_of passes.closed from) word row) c) → IsReached f passes c (front to)
  leaves_by from to edge word known has =
      let x : LeavesBlock f from to = edge_leaves f from to edge in
      let r : HasRow passes.rows from (length x.block.instrs) = row_of_block passes.rows f.blocks shape from x.block x.is_block in
      leaves from x.block x.is_block r.row r.is_row r.is_long word known (has r.row r.is_row) (front to) x.leads

  start_reached : (node word : ℕ) → IsListed (node, word) starts → HasBit word c → IsReached f passes c (front node)
  start_reached node word listed has = ⊎_elim
      (λ at_front. AtFront node word at_front has)
      (λ out.
      let found : (e : ℕ × ℕ) × (IsListed e (block_edges f) × ((node, word) ≡ made_start made e)) = listed_map (made_start made) (node, word) (block_edges f) out in
      let is_node : node ≡ found.0.1 = ap (λ (p : ℕ × ℕ). p.0) found.1.1 in
      let is_word : word ≡ word_at made found.0.0 = ap (λ (p : ℕ × ℕ). p.1) found.1.1 in
      subst (λ (n : ℕ). IsReached f passes c (front n)) (sym is_node)
      (leaves_by found.0.0 found.0.1 found.1.0 0 (λ none. absurd (no_bit c none))
      (λ row at. subst (λ (w : ℕ). HasBit w c) (is_word ∙ word_from (made_of passes.closed) passes.rows found.0.0 row at) has)))
      (listed_append (node, word) passes.fronts (map (made_start made) (block_edges f)) listed)

  word_is : (e from to : ℕ) → slice_get (block_edges f) e ≡ Some (from, to) → slice_get kept e ≡ Some (kept_word stops (from, to))
  word_is e from to at = slice_get-map (kept_word stops) (block_edges f) e ∙ ap (option_map (kept_word stops)) at

  pub to_points : (node : ℕ) → Reaches (block_edges f) kept starts c node → IsReached f passes c (front node)
  to_points _ (Start node word listed has) = start_reached node word listed has
  to_points _ (Edge e from to word at kept_is has before) =
      let is : word ≡ kept_word stops (from, to) = some_same word (kept_word stops (from, to)) (sym kept_is ∙ word_is e from to at) in
      let none : HasBit (word_at stops from) c → ⊥ = flipped_off (word_at stops from) c small (subst (λ (w : ℕ). HasBit w c) is has) in
      let edge = listed_at (block_edges f) e (from, to) at in
      let known = to_points from before in
      leaves_by from to edge all_bits (λ h. known)
      (λ row is_row.
      let free : HasBit (stops_word (shut_of passes.closed from) row) c → ⊥ = λ s. none (subst (λ (w : ℕ). HasBit w c) (sym (word_from (stops_of passes.closed) passes.rows from row is_row)) s) in
      through_out (shut_of passes.closed from) row all_bits c small (all_bit c small)
      (stops_through (shut_of passes.closed from) row (shut_of passes.closed from) c (none_stopped (shut_of passes.closed from) row (shut_of passes.closed from) c free) free))

  -- ---- from points to blocks

  module _ (fronts : AreBlocks f passes.fronts) (words : List ℕ) (len : length words ≡ length f.blocks + 1) (answers : (node word : ℕ) → slice_get words node ≡ Some word → AnswersAt (block_edges f) kept starts node word) where
    abbrev IsTold : Point → Type 0
    IsTold p = HasBit (word_after (shut_of passes.closed p.block) (word_at words p.block) (row_of passes.rows p.block) p.at) c

    reached_has : (node : ℕ) → node < length f.blocks + 1 → Reaches (block_edges f) kept starts c node → HasBit (word_at words node) c
    reached_has node lt r = (answers node (word_at words node) (word_within words node (omega (arith, lt, len)))).is_told c small r

    pub has_reached : (node : ℕ) → node < length f.blocks + 1 → HasBit (word_at words node) c → Reaches (block_edges f) kept starts c node
    has_reached node lt h = (answers node (word_at words node) (word_within words node (omega (arith, lt, len)))).is_reached c small h

    -- what comes out of a block
    out_reaches : (from to : ℕ) (row : List Pass) → slice_get passes.rows from ≡ Some row → IsListed (from, to) (block_edges f) → HasBit (out_word (shut_of passes.closed from) (word_at words from) row) c → Reaches (block_edges f) kept starts c to
    out_reaches from to row is_row edge h = ⊎_elim
        (λ own.
        Start to (word_at made from)
        (listed_back (to, word_at made from) passes.fronts (map (made_start made) (block_edges f)) (map_listed (made_start made) (from, to) (block_edges f) edge))
        (subst (λ (w : ℕ). HasBit w c) (sym (word_from (made_of passes.closed) passes.rows from row is_row)) own))
        (λ through.
        let found : (e : ℕ) × (slice_get (block_edges f) e ≡ Some (from, to)) = place_of (block_edges f) (from, to) edge in
        let bound = (edge_bounded f from to edge).0 in
        Edge found.0 from to (kept_word stops (from, to)) found.1 (word_is found.0 from to found.1)
        (flipped_on (word_at stops from) c small (λ s. still row is_row through.1 (subst (λ (w : ℕ). HasBit w c) (word_from (stops_of passes.closed) passes.rows from row is_row) s)))
        (has_reached from (omega (arith, bound)) through.0))
        (out_has (shut_of passes.closed from) row (word_at words from) 0 c small h)
      where
        block_of : LeavesBlock f from to
        block_of = edge_leaves f from to edge

        not_empty : (r : List Pass) → length r ≡ length block_of.block.instrs + 1 → GoesThrough (shut_of passes.closed from) c r → HasBit (shut_of passes.closed from) c → ⊥
        not_empty [] long goes s = absurd (omega (arith, long))
        not_empty (pass ∷ r) long goes s = goes.0.1 s

        still : (r : List Pass) → slice_get passes.rows from ≡ Some r → GoesThrough (shut_of passes.closed from) c r → HasBit (stops_word (shut_of passes.closed from) r) c → ⊥
        still r at goes =
            let x : HasRow passes.rows from (length block_of.block.instrs) = row_of_block passes.rows f.blocks shape from block_of.block block_of.is_block in
            let same : x.row ≡ r = some_same x.row r (sym x.is_row ∙ at) in
            through_stops (shut_of passes.closed from) r (shut_of passes.closed from) c (not_empty r (subst (λ (l : List Pass). length l ≡ length block_of.block.instrs + 1) same x.is_long) goes) goes

    row_is : (p : Point) (row : List Pass) → slice_get passes.rows p.block ≡ Some row → row_of passes.rows p.block ≡ row
    row_is p row e = ap (λ o. unwrap_or o []) e

    -- what comes to a point and goes on, or begins there, comes to the next
    next_told : (p q : Point) → has_point (nexts f p) q ≡ true → HasBit (begins_at passes.rows p) c ⊎ (IsTold p × ((HasBit (stops_at passes.rows p) c → ⊥) × (p.block ≡ passes.closed → ⊥))) → IsTold q
    next_told p q next way = ⊎_elim inner branch (edge-cases f p q next)
      where
        goes_out : (row : List Pass) (k : ℕ) (pass : Pass) → k ≡ p.at → slice_get passes.rows p.block ≡ Some row → slice_get row p.at ≡ Some pass →
            HasBit (stepped (shut_of passes.closed p.block) pass (word_after (shut_of passes.closed p.block) (word_at words p.block) row p.at)) c
        goes_out row k pass ke is_row at =
            let same : pass_at passes.rows p ≡ pass = pass_is passes.rows p row pass is_row at in
            ⊎_elim
            (λ begins. begins_stepped (shut_of passes.closed p.block) pass (word_after (shut_of passes.closed p.block) (word_at words p.block) row p.at) c (subst (λ (x : Pass). HasBit x.begins c) same begins))
            (λ r. goes_stepped (shut_of passes.closed p.block) pass (word_after (shut_of passes.closed p.block) (word_at words p.block) row p.at) c small
            (subst (λ (l : List Pass). HasBit (word_after (shut_of passes.closed p.block) (word_at words p.block) l p.at) c) (row_is p row is_row) r.0)
            ((λ s. r.1.0 (subst (λ (x : Pass). HasBit x.stops c) (sym same) s)), λ s. r.1.1 (shut_closed passes.closed p.block c s)))
            way

        inner : IsInner f p q → IsTold q
        inner x =
            let r : HasRow passes.rows p.block (length x.block.instrs) = row_of_block passes.rows f.blocks shape p.block x.block x.got in
            let lt = x.within in
            let long = r.is_long in
            let found : (pass : Pass) × (slice_get r.row p.at ≡ Some pass) = place_in r.row p.at (omega (arith, lt, long)) in
            let step = x.next in
            let is : q ≡ record { block = p.block; at = suc p.at } = point-is q (record { block = p.block; at = suc p.at }) x.same (omega (arith, step)) in
            subst IsTold (sym is)
            (subst (λ (l : List Pass). HasBit (word_after (shut_of passes.closed p.block) (word_at words p.block) l (suc p.at)) c) (sym (row_is p r.row r.is_row))
            (subst (λ (w : ℕ). HasBit w c) (sym (after_step (shut_of passes.closed p.block) (word_at words p.block) r.row p.at found.0 found.1))
            (goes_out r.row p.at found.0 refl r.is_row found.1)))

        branch : IsBranch f p q → IsTold q
        branch x =
            let r : HasRow passes.rows p.block (length x.block.instrs) = row_of_block passes.rows f.blocks shape p.block x.block x.got in
            let last = x.last in
            let long = r.is_long in
            let found : (pass : Pass) × (slice_get r.row p.at ≡ Some pass) = place_in r.row p.at (omega (arith, last, long)) in
            let way_out = branch_is f p q x in
            let is_long : length r.row ≡ p.at + 1 = omega (arith, long, last) in
            let bound = (edge_bounded f p.block q.block way_out.1).1 in
            subst IsTold (sym way_out.0)
            (reached_has q.block bound
            (out_reaches p.block q.block r.row r.is_row way_out.1
            (subst (λ (w : ℕ). HasBit w c) (sym (out_step (shut_of passes.closed p.block) (word_at words p.block) r.row p.at found.0 is_long found.1))
            (goes_out r.row p.at found.0 refl r.is_row found.1))))

    pub all_told : (p : Point) → IsReached f passes c p → IsTold p
    all_told _ (AtFront block word listed h) = reached_has block (fronts block word listed) (Start block word (listed_front (block, word) passes.fronts (map (made_start made) (block_edges f)) listed) h)
    all_told _ (Behind p q h next) = next_told p q next (inl h)
    all_told _ (On p q before free outside next) = next_told p q next (inr (all_told p before, (free, outside)))
