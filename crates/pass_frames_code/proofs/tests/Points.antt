-- The calls of a coro intrinsic stand in the framed form where the coroutine has them.
use Rattle.std.proofs.Common.{◌≡◌, ℕ, zero, suc, ◌+◌, Bool, true, List, [], ◌∷◌, ◌++◌, length, refl, sym, ap, ◌∙◌, subst, arith}
use Rattle.std.proofs.lemmas.List.{map-append}
use Rattle.std.specs.Prelude.{Option, Some, codes, filter, map, slice_get, ◌≢◌}
use Rattle.pass_proofs.proofs.ir_laws.facts.Lists.{map_map, map_same, places}
use Rattle.pass_proofs.proofs.ir_laws.facts.local_rules.Woven.{other_number}
use Rattle.pass_proofs.proofs.ir_laws.paths.expanded.Points.{points_are}
use Rattle.pass_proofs.specs.ir_model.declared.instr.Instr.{Instr}
use Rattle.pass_proofs.specs.ir_model.declared.module.Block.{Block}
use Rattle.pass_proofs.specs.ir_model.declared.module.Function.{Function}
use Rattle.pass_proofs.specs.ir_model.declared.module.Module.{Module}
use Rattle.pass_proofs.specs.ir_model.declared.operand.Intrinsic.{Intrinsic}
use Rattle.pass_proofs.specs.ir_paths.Windows.{is_call_of, points_from, points_in, points_where}
use Rattle.pass_proofs.specs.ir_paths.declared.point.Point.{Point}
use Rattle.pass_proofs.specs.pass_addresses.Placing.{lies_outside, slot_fetches, stays, turned_block, without_markers, without_promise_of}
use Rattle.pass_proofs.specs.pass_cells.Cells.{fetched_function, fetches_of}
use Rattle.pass_proofs.specs.pass_cells.Written.{after_block as after_written_block, entry_blocks, entry_front as cells_front, written_blocks}
use Rattle.pass_proofs.specs.pass_cells.declared.plan.Plan.{Plan}
use Rattle.pass_proofs.specs.pass_copies.BeginCopies.{after_block as after_copied_block, copied_blocks, entry_front as copies_front, first_fetched}
use Rattle.pass_proofs.specs.pass_copies.declared.copying.Copying.{Copying}
use Rattle.pass_proofs.specs.pass_fetch.Blocks.{fetched_blocks, next_after_block, next_after_phis, next_after_phis_by, with_fetches}
use Rattle.pass_proofs.specs.pass_fetch.declared.fetch.Fetch.{Fetch}
use Rattle.pass_proofs.specs.pass_frames.Framed.{begin_of}
use Rattle.pass_proofs.specs.pass_front.Front.{with_allocas_first}
use Rattle.pass_frames_code.proofs.code.Framed.{entry_made, framed_is, others_made}
use Rattle.pass_frames_code.proofs.code.Passes.{addressed, block_is}
use Rattle.pass_frames_code.proofs.tests.Kept.{both_keep, led_keeps, woven_places}
use Rattle.pass_frames_code.proofs.tests.Passes.{addressed_keeps, alloca_fails, copying_keeps, fetching_keeps, unmarked_keeps, writing_keeps}
use Rattle.pass_frames_code.specs.Layers.{own_place_in}
use Rattle.pass_frames_code.specs.Passes.{addressed_at, copying_at, fetching_at, phi_ends, unmarked_at, writing_at}
use Rattle.pass_frames_code.specs.Places.{Framing, celled_layer, copied_layer, copies, before_labels, edged, entry_layer, fetched, framed, instrs_at, marked, named, offsets, own_place, own_place_by, placed_layer, plan, unmarked, unmarked_layer, with_copies, written}
use Rattle.pass_frames_code.specs.Tests.{KeepsTest, is_steady}

-- ---- two lists of blocks, in which the instructions that pass a test have moved

module _ (test : Instr → Bool) (spot : ℕ → ℕ → ℕ) where
  -- the block of the second list at a position has what passes where it has moved to
  record IsMovedBlock (cs : List Block) (j k : ℕ) (b : Block) : Type 0 where
    block : Block
    there : slice_get cs j ≡ Some block
    moved : places test block.instrs ≡ map (spot k) (places test b.instrs)

  in_block : (k : ℕ) (b c : Block) → places test c.instrs ≡ map (spot k) (places test b.instrs)
      → points_from test k 0 c.instrs
      ≡ map (λ (p : Point). record { block = p.block; at = spot p.block p.at }) (points_from test k 0 b.instrs)
  in_block k b c e =
      points_are test k 0 c.instrs
      ∙ ap (map (λ at. record { block = k; at = 0 + at })) e
      ∙ map_map (λ at. record { block = k; at = 0 + at }) (spot k) (places test b.instrs)
      ∙ map_same (λ at. record { block = k; at = 0 + spot k at }) (λ at. record { block = k; at = spot k (0 + at) })
      same (places test b.instrs)
      ∙ sym (map_map (λ (p : Point). record { block = p.block; at = spot p.block p.at })
      (λ at. record { block = k; at = 0 + at }) (places test b.instrs))
      ∙ ap (map (λ (p : Point). record { block = p.block; at = spot p.block p.at }))
      (sym (points_are test k 0 b.instrs))
    where
      same : (at : ℕ)
          → ◌≡◌ {A = Point} (record { block = k; at = 0 + spot k at }) (record { block = k; at = spot k (0 + at) })
      same at =
          let one : 0 + spot k at ≡ spot k at = omega arith in
          let other : at ≡ 0 + at = omega arith in
          (λ i. record { block = k; at = one i }) ∙ (λ i. record { block = k; at = spot k (other i) })

  all_moved : (k : ℕ) (bs cs : List Block) → length cs ≡ length bs
      → ((j : ℕ) (b : Block) → slice_get bs j ≡ Some b → IsMovedBlock cs j (k + j) b)
      → points_in test k cs
      ≡ map (λ (p : Point). record { block = p.block; at = spot p.block p.at }) (points_in test k bs)
  all_moved k [] [] long moved = refl
  all_moved k [] (c ∷ cs) long moved = absurd (omega arith)
  all_moved k (b ∷ bs) [] long moved = absurd (omega arith)
  all_moved k (b ∷ bs) (c ∷ cs) long moved =
      let here : k + 0 ≡ k = omega arith in
      let first = moved 0 b refl in
      let same : first.block ≡ c = (let e = first.there in cc) in
      let spots : places test c.instrs ≡ map (spot k) (places test b.instrs) =
      (λ i. places test (sym same i).instrs) ∙ first.moved
      ∙ ap (λ (n : ℕ). map (spot n) (places test b.instrs)) here in
      (λ i. in_block k b c spots i ++ all_moved (suc k) bs cs (omega (arith, long)) rest i)
      ∙ sym (map-append (λ (p : Point). record { block = p.block; at = spot p.block p.at })
      (points_from test k 0 b.instrs) (points_in test (suc k) bs))
    where
      rest : (j : ℕ) (d : Block) → slice_get bs j ≡ Some d → IsMovedBlock cs j (suc k + j) d
      rest j d e =
          let next : k + suc j ≡ suc k + j = omega arith in
          let m = moved (suc j) d e in
          record {
            block = m.block;
            there = m.there;
            moved =
                m.moved ∙ ap (λ (n : ℕ). map (spot n) (places test d.instrs)) next;
          }

-- ---- as many blocks

fetched_many : (t : List (Option Fetch)) (ends : List (List Instr)) (m n : ℕ) (bs : List Block)
    → length (fetched_blocks t ends m n bs) ≡ length bs
fetched_many t ends m n [] = refl
fetched_many t ends m n (b ∷ bs) =
    ap suc (fetched_many t ends (next_after_phis t m b.phis) (next_after_block t n b) bs)

written_many : (m : Module) (p : Plan) (n : ℕ) (bs : List Block) → length (written_blocks m p n bs) ≡ length bs
written_many m p n [] = refl
written_many m p n (b ∷ bs) = ap suc (written_many m p (after_written_block m p n b) bs)

entry_many : (m : Module) (p : Plan) (front : List Instr) (n : ℕ) (bs : List Block)
    → length (entry_blocks m p front n bs) ≡ length bs
entry_many m p front n [] = refl
entry_many m p front n (b ∷ bs) = ap suc (written_many m p (after_written_block m p n b) bs)

copied_many : (c : Copying) (before : List Bool) (front : List Instr) (n : ℕ) (bs : List Block)
    → length (copied_blocks c before front n bs) ≡ length bs
copied_many c before front n [] = refl
copied_many c before front n (b ∷ bs) = ap suc (copied_many c before [] (after_copied_block c before n b) bs)

turned_many : (turned : List Instr → List Instr) (bs : List Block) → length (map (turned_block turned) bs) ≡ length bs
turned_many turned [] = refl
turned_many turned (b ∷ bs) = ap suc (turned_many turned bs)

first_many : (bs : List Block) → length (with_allocas_first bs) ≡ length bs
first_many [] = refl
first_many (b ∷ bs) = refl

module _ (x : Framing) where
  as_many : length (framed x).blocks ≡ length (edged x).blocks
  unfolding fetched_function
  as_many =
      ap (λ (f : Function). length f.blocks) (framed_is x)
      ∙ first_many (addressed (unmarked x) (begin_of x.function) (offsets x)).blocks
      ∙ turned_many (filter (lies_outside (offsets x)))
      (with_fetches (unmarked x) (slot_fetches (begin_of x.function) (offsets x)) (codes "$c.at.")).blocks
      ∙ fetched_many (slot_fetches (begin_of x.function) (offsets x))
      (phi_ends (unmarked x) (slot_fetches (begin_of x.function) (offsets x))) (length (unmarked x).names)
      (next_after_phis_by (slot_fetches (begin_of x.function) (offsets x)) (length (unmarked x).names)
      (unmarked x).blocks) (unmarked x).blocks
      ∙ turned_many (map without_promise_of) (without_markers (marked x) (with_copies x)).blocks
      ∙ turned_many (filter (stays (marked x))) (with_copies x).blocks
      ∙ copied_many (copies x) (before_labels x) (copies_front (copies x).slots)
      (first_fetched (written x) (copies x)) (written x).blocks
      ∙ entry_many x.code (plan x) (cells_front (plan x) (fetched x).params) (length (fetched x).names)
      (fetched x).blocks
      ∙ fetched_many (fetches_of (plan x)) (phi_ends (named x) (fetches_of (plan x))) (length (named x).names)
      (next_after_phis_by (fetches_of (plan x)) (length (named x).names) (named x).blocks) (named x).blocks

  module _ (intrinsic : Intrinsic) (steady : is_steady intrinsic ≡ true) where
    abbrev test : Instr → Bool
    test = is_call_of intrinsic

    pub placed_keeps : (k : ℕ) → KeepsTest test (placed_layer x k)
    placed_keeps k =
        let cells = both_keep test (fetching_at (named x) (fetches_of (plan x)) k)
        (writing_at x.code (plan x) (cells_front (plan x) (edged x).params) (fetched x) k)
        (fetching_keeps intrinsic (named x) (fetches_of (plan x)) k)
        (writing_keeps intrinsic x.code (plan x) (edged x).params (fetched x) k) in
        let copied_too =
        both_keep test (celled_layer x k)
        (copying_at (copies x) (before_labels x) (copies_front (copies x).slots)
        (first_fetched (written x) (copies x)) (written x) k)
        cells (copying_keeps intrinsic steady (copies x) (before_labels x) (first_fetched (written x) (copies x))
        (written x) k) in
        let unmarked_too =
        both_keep test (copied_layer x k) (unmarked_at (marked x)) copied_too
        (unmarked_keeps intrinsic steady (marked x)) in
        both_keep test (unmarked_layer x k) (addressed_at (unmarked x) (begin_of x.function) (offsets x) k)
        unmarked_too (addressed_keeps intrinsic steady (unmarked x) (begin_of x.function) (offsets x) k)

    abbrev spot : ℕ → ℕ → ℕ
    spot k at = (own_place x (record { block = k; at = at })).at

    moved_at : (k : ℕ) (b : Block) → slice_get (edged x).blocks k ≡ Some b
        → IsMovedBlock test spot (framed x).blocks k k b
    moved_at zero b e =
        let made = entry_made x b e in
        record {
          block = made.0;
          there = made.1;
          moved =
              ap (places test) made.2.instrs
              ∙ woven_places test (entry_layer x)
              (led_keeps test (alloca_fails intrinsic steady) (placed_layer x 0) (instrs_at x 0) (placed_keeps 0))
              b.instrs
              ∙ ap (λ (is : List Instr). map (own_place_in (entry_layer x) is) (places test b.instrs))
              (sym (ap (λ (c : Block). c.instrs) (block_is (edged x) 0 b e)));
        }
    moved_at (suc k) b e =
        let other : suc k ≢ 0 = λ d. absurd (omega (arith, d)) in
        let made = others_made x (suc k) other b e in
        record {
          block = made.0;
          there = made.1;
          moved =
              ap (places test) made.2.instrs
              ∙ woven_places test (placed_layer x (suc k)) (placed_keeps (suc k)) b.instrs
              ∙ ap (λ (is : List Instr). map (own_place_in (placed_layer x (suc k)) is) (places test b.instrs))
              (sym (ap (λ (c : Block). c.instrs) (block_is (edged x) (suc k) b e)))
              ∙ ap (λ (y : Bool). map (λ at. own_place_by x (record { block = suc k; at = at }) y)
              (places test b.instrs)) (sym (other_number (suc k) 0 other));
        }

    pub calls_moved : points_where (is_call_of intrinsic) (framed x)
        ≡ map (own_place x) (points_where (is_call_of intrinsic) (edged x))
    calls_moved =
        all_moved test spot 0 (edged x).blocks (framed x).blocks as_many
        (λ j b e. let here : 0 + j ≡ j = omega arith in
        subst (λ (n : ℕ). IsMovedBlock test spot (framed x).blocks j n b) (sym here) (moved_at j b e))
