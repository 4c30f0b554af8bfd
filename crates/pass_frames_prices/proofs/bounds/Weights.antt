-- Allocas, each with the weight of its name: passes put none in but in front of an entry.
use Rattle.std.proofs.Common.{◌≡◌, ℕ, ◌+◌, ◌≤◌, Bool, true, false, List, [], ◌∷◌, ◌++◌, length, refl, ap, arith}
use Rattle.std.specs.Prelude.{None, Option, Some, if◌then◌else◌, map, option_to_list, replicate, take}
use Rattle.pass_frames_proof.specs.ir_model.declared.instr.Instr.{Instr}
use Rattle.pass_frames_proof.specs.ir_model.declared.module.Block.{Block}
use Rattle.pass_frames_proof.specs.ir_model.declared.module.Function.{Function}
use Rattle.pass_frames_proof.specs.ir_model.declared.module.Module.{Module}
use Rattle.pass_frames_proof.specs.ir_model.declared.operand.Callee.{Callee}
use Rattle.pass_frames_proof.specs.ir_model.declared.operand.Intrinsic.{Intrinsic}
use Rattle.pass_frames_proof.specs.ir_parts.Contents.{instr_operands, result_of}
use Rattle.pass_frames_proof.specs.pass_addresses.Placing.{lies_outside, slot_fetches, stays, without_promise_of}
use Rattle.pass_frames_proof.specs.pass_cells.Cells.{fetches_of}
use Rattle.pass_frames_proof.specs.pass_cells.Moves.{after_saved, again_values, saved_values}
use Rattle.pass_frames_proof.specs.pass_cells.Written.{after_blocks as after_written, again_row, distance_behind, entry_front, kept_allocas, link_allocas, save_row, stored_params, stored_phis, stored_result}
use Rattle.pass_frames_proof.specs.pass_cells.declared.plan.Plan.{Plan}
use Rattle.pass_frames_proof.specs.pass_copies.BeginCopies.{after_blocks as after_copied, begin_copies, entry_front as copies_front, first_fetched, is_fetched, put, puts, slot_allocas}
use Rattle.pass_frames_proof.specs.pass_copies.Uses.{flag_at, is_begin}
use Rattle.pass_frames_proof.specs.pass_copies.declared.copying.Copying.{Copying}
use Rattle.pass_frames_proof.specs.pass_copies.declared.slot.EarlySlot.{EarlySlot}
use Rattle.pass_frames_proof.specs.pass_fetch.Blocks.{end_at}
use Rattle.pass_frames_proof.specs.pass_fetch.Fetching.{fetch_into, fetches_of_all}
use Rattle.pass_frames_proof.specs.pass_fetch.Instrs.{term_operands, with_fetched}
use Rattle.pass_frames_proof.specs.pass_fetch.declared.fetch.Fetch.{Fetch}
use Rattle.pass_frames_proof.specs.pass_frames.Framed.{begin_of}
use Rattle.pass_frames_prices.proofs.bounds.Allocas.{again_none, distance_none, fetches_none, many, many_append, none, one, one_same, params_none, phis_none, result_none, saved_none}
use Rattle.pass_frames_proof.proofs.code.Left.{blocks_by}
use Rattle.pass_frames_proof.proofs.layers.Grown.{both_becomes}
use Rattle.pass_frames_proof.specs.Layers.{Layer, becomes, both, each, grown, only, passed, woven}
use Rattle.pass_frames_proof.specs.Passes.{block_at, copying, fetched_first, fetching, fetching_at, phi_ends, unmarked_at, writing}
use Rattle.pass_frames_proof.specs.Places.{Framing, Placed, addressing_layer, before_labels, celled_layer, copied_layer, copies, copying_layer, edged, fetched, instrs_at, loading_layer, marked, named, offsets, placed_layer, plan, unmarked, unmarked_layer, writing_layer, written}
use Rattle.pass_frames_proof.specs.pass_front.Front.{is_no_alloca}
use Rattle.pass_frames_proof.proofs.pass_proofs.fetch.shape.Fetching.{no_rows}

into_none : (n : ℕ) (y : Fetch) → is_no_alloca (fetch_into n y) ≡ true
into_none n (Fetch.Load ty cell) = refl
into_none n (Fetch.Address base distance) = refl

module _ (w : ℕ → ℕ) where
  abbrev A : List Instr → ℕ
  A is = many w is

  -- ---- layers that put in no alloca

  abbrev pub IsLean : {S : Type 0} → Layer S → Type 0
  IsLean {S = S} L = (s : S) (i : Instr) → A (becomes L s i) ≤ one w i

  abbrev pub HasNoneBehind : {S : Type 0} → Layer S → Type 0
  HasNoneBehind {S = S} L = (s : S) → A (L.back s) ≡ 0

  pub grown_lean : {S : Type 0} (L : Layer S) → IsLean L → (s : S) (is : List Instr) → A (grown L s is) ≤ A is
  grown_lean L h s [] = omega arith
  grown_lean L h s (i ∷ is) =
      let a = h s i in
      let b = grown_lean L h (L.after s i) is in
      let e = many_append w (becomes L s i) (grown L (L.after s i) is) in
      omega (arith, a, b, e)

  module _ {S T : Type 0} (L : Layer S) (M : Layer T) (g : IsLean L) (h : IsLean M) where
    both_lean : IsLean (both L M)
    both_lean s i =
        let a : A (becomes (both L M) s i) ≡ A (grown M s.1 (becomes L s.0 i)) = ap A (both_becomes L M s.0 s.1 i) in
        let b = grown_lean M h s.1 (becomes L s.0 i) in
        let c = g s.0 i in
        omega (arith, a, b, c)

    both_behind : HasNoneBehind L → HasNoneBehind M → HasNoneBehind (both L M)
    both_behind x y s =
        let a = grown_lean M h s.1 (L.back s.0) in
        let b = x s.0 in
        let c = y (passed M s.1 (L.back s.0)) in
        let e = many_append w (grown M s.1 (L.back s.0)) (M.back (passed M s.1 (L.back s.0))) in
        omega (arith, a, b, c, e)

    both_front : A (both L M).front ≤ A M.front + A L.front
    both_front =
        let a = grown_lean M h M.start L.front in
        let e = many_append w M.front (grown M M.start L.front) in
        omega (arith, a, e)

  -- ---- the passes

  fetching_lean : (t : List (Option Fetch)) (ends : List Instr) (first : ℕ) (b : Block)
      → IsLean (fetching t ends first b)
  fetching_lean t ends first b n i =
      let a = fetches_none w t n (instr_operands i) in
      let c = one_same w t n i in
      let e = many_append w (fetches_of_all t n (instr_operands i)) (with_fetched t n i ∷ []) in
      omega (arith, a, c, e)

  writing_lean : (m : Module) (p : Plan) (front : List Instr) (first : ℕ) (b : Block)
      → IsLean (writing m p front first b)
  writing_lean m p front first b n i =
      let q : ℕ = after_saved n (save_row p i) in
      let a = saved_none w p.kept n (save_row p i) in
      let c = result_none w p (result_of i) in
      let d = distance_none w m p q i in
      let e = many_append w (saved_values p.kept n (save_row p i)) (i ∷ (stored_result p (result_of i)
      ++ distance_behind m p q i)) in
      let f = many_append w (stored_result p (result_of i)) (distance_behind m p q i) in
      omega (arith, a, c, d, e, f)

  copies_none : (ss : List EarlySlot) → A (begin_copies ss) ≡ 0
  copies_none [] = refl
  copies_none (s ∷ ss) = let a = copies_none ss in omega (arith, a)

  copying_lean : (c : Copying) (before : List Bool) (front : List Instr) (first : ℕ) (b : Block)
      → IsLean (copying c before front first b)
  copying_lean c before front first b s i = on (is_fetched s.0 i) (is_begin i)
    where
      behind : (e : Bool) → A (if e then begin_copies c.slots else []) ≡ 0
      behind true = copies_none c.slots
      behind false = refl

      on : (d e : Bool)
          → A ((if d then fetches_of_all c.fetches s.1 (instr_operands i) else [])
          ++ (((if d then with_fetched c.fetches s.1 i else i) ∷ []) ++ (if e then begin_copies c.slots else [])))
          ≤ one w i
      on true e =
          let a = fetches_none w c.fetches s.1 (instr_operands i) in
          let d = one_same w c.fetches s.1 i in
          let f = behind e in
          let g = many_append w (fetches_of_all c.fetches s.1 (instr_operands i))
          (with_fetched c.fetches s.1 i ∷ (if e then begin_copies c.slots else [])) in
          omega (arith, a, d, f, g)
      on false e = let f = behind e in omega (arith, f)

  only_lean : (test : Instr → Bool) → IsLean (only test)
  only_lean test s i = on (test i)
    where
      on : (b : Bool) → A ([] ++ (option_to_list (if b then Some i else None) ++ [])) ≤ one w i
      on true = omega arith
      on false = omega arith

  promise_lean : (i : Instr) → one w (without_promise_of i) ≤ one w i
  promise_lean (Instr.Call r must_tail ty (Callee.Intrinsic Intrinsic.CoroId) args) = omega arith
  promise_lean i = omega arith

  each_lean : IsLean (each without_promise_of)
  each_lean s i = let a = promise_lean i in omega (arith, a)

  -- ---- fronts of the entry

  puts_none : (address : EarlySlot → ℕ) (ss : List EarlySlot) → A (map (λ s. put (address s) s.cell) ss) ≡ 0
  puts_none address [] = refl
  puts_none address (s ∷ ss) = let a = puts_none address ss in omega (arith, a)

  module _ (x : Framing) where
    abbrev block : Block
    block = block_at (fetched x) 0

    abbrev pub links : List Instr
    links = link_allocas (plan x).first (length (plan x).kept) (plan x).links

    abbrev first : ℕ
    first = after_written x.code (plan x) (length (fetched x).names) (take 0 (fetched x).blocks)

    cells_least : A (writing_layer x 0).front ≡ A (kept_allocas (plan x).kept) + A links
    cells_least =
        let kept : List Instr = kept_allocas (plan x).kept in
        let params : List Instr = stored_params (plan x) (edged x).params in
        let again : List Instr = again_values (plan x).kept first (again_row (plan x) block.label) in
        let phis : List Instr = stored_phis (plan x) block.phis in
        let c = params_none w (plan x) (edged x).params in
        let d = again_none w (plan x).kept first (again_row (plan x) block.label) in
        let e = phis_none w (plan x) block.phis in
        let f = many_append w (kept ++ links) params in
        let g = many_append w kept links in
        let h = many_append w (((kept ++ links) ++ params) ++ again) phis in
        let i = many_append w ((kept ++ links) ++ params) again in
        omega (arith, c, d, e, f, g, h, i)

    copies_least : A (copying_layer x 0).front ≡ A (slot_allocas (copies x).slots)
    copies_least = on (flag_at (copies x).resumed (block_at (written x) 0).label)
      where
        on : (b : Bool) → A (copies_front (copies x).slots ++ (if b then puts (copies x).slots else []))
            ≡ A (slot_allocas (copies x).slots)
        on b =
            let ss : List EarlySlot = (copies x).slots in
            let c = puts_none (λ s. s.temporary) ss in
            let d = by_flag b in
            let e = many_append w (copies_front ss) (if b then puts ss else []) in
            let f = many_append w (slot_allocas ss) (map (λ s. put s.temporary s.cell) ss) in
            omega (arith, c, d, e, f)
          where
            by_flag : (d : Bool) → A (if d then puts (copies x).slots else []) ≡ 0
            by_flag true = puts_none (λ s. s.slot) (copies x).slots
            by_flag false = refl

    -- ---- all passes

    ends_none : (t : List (Option Fetch)) (f : Function) (label : ℕ) → A (end_at (phi_ends f t) label) ≡ 0
    ends_none t f label =
        none w (end_at (phi_ends f t) label)
        (blocks_by t (λ (j : Instr). is_no_alloca j ≡ true) 0 (λ n y f low e. into_none n f) (length f.names)
        (replicate (length f.names) []) f.blocks (omega arith)
        (no_rows t (λ (j : Instr). is_no_alloca j ≡ true) (length f.names)) label)

    abbrev L : Layer ℕ
    L = loading_layer x 0

    abbrev T : List (Option Fetch)
    T = slot_fetches (begin_of x.function) (offsets x)

    abbrev F : Layer ℕ
    F = fetching_at (unmarked x) T 0

    abbrev O : Layer (Unit {0})
    O = only (lies_outside (offsets x))

    abbrev U : Layer (Unit {0} × Unit {0})
    U = unmarked_at (marked x)

    lean_L : IsLean L
    lean_L =
        fetching_lean (fetches_of (plan x))
        (end_at (phi_ends (named x) (fetches_of (plan x))) (block_at (named x) 0).label)
        (fetched_first (named x) (fetches_of (plan x)) 0) (block_at (named x) 0)

    lean_F : IsLean F
    lean_F =
        fetching_lean T (end_at (phi_ends (unmarked x) T) (block_at (unmarked x) 0).label)
        (fetched_first (unmarked x) T 0) (block_at (unmarked x) 0)

    lean_U : IsLean U
    lean_U = both_lean (only (stays (marked x))) (each without_promise_of) (only_lean (stays (marked x))) each_lean

    lean_W : IsLean (writing_layer x 0)
    lean_W =
        writing_lean x.code (plan x) (entry_front (plan x) (edged x).params) first (block_at (fetched x) 0)

    lean_C : IsLean (copying_layer x 0)
    lean_C =
        copying_lean (copies x) (before_labels x) (copies_front (copies x).slots)
        (after_copied (copies x) (before_labels x) (first_fetched (written x) (copies x)) (take 0 (written x).blocks))
        (block_at (written x) 0)

    lean_A : IsLean (addressing_layer x 0)
    lean_A = both_lean F O lean_F (only_lean (lies_outside (offsets x)))

    lean_1 : IsLean (celled_layer x 0)
    lean_1 = both_lean L (writing_layer x 0) lean_L lean_W

    lean_2 : IsLean (copied_layer x 0)
    lean_2 = both_lean (celled_layer x 0) (copying_layer x 0) lean_1 lean_C

    lean_3 : IsLean (unmarked_layer x 0)
    lean_3 = both_lean (copied_layer x 0) U lean_2 lean_U

    pub lean_all : IsLean (placed_layer x 0)
    lean_all = both_lean (unmarked_layer x 0) (addressing_layer x 0) lean_3 lean_A

    behind_L : HasNoneBehind L
    behind_L n =
        let t : List (Option Fetch) = fetches_of (plan x) in
        let a = ends_none t (named x) (block_at (named x) 0).label in
        let b = fetches_none w t n (term_operands (block_at (named x) 0).term) in
        let e = many_append w (end_at (phi_ends (named x) t) (block_at (named x) 0).label)
        (fetches_of_all t n (term_operands (block_at (named x) 0).term)) in
        omega (arith, a, b, e)

    behind_F : HasNoneBehind F
    behind_F n =
        let a = ends_none T (unmarked x) (block_at (unmarked x) 0).label in
        let b = fetches_none w T n (term_operands (block_at (unmarked x) 0).term) in
        let e = many_append w (end_at (phi_ends (unmarked x) T) (block_at (unmarked x) 0).label)
        (fetches_of_all T n (term_operands (block_at (unmarked x) 0).term)) in
        omega (arith, a, b, e)

    pub behind_all : HasNoneBehind (placed_layer x 0)
    behind_all =
        both_behind (unmarked_layer x 0) (addressing_layer x 0) lean_3 lean_A
        (both_behind (copied_layer x 0) U lean_2 lean_U
        (both_behind (celled_layer x 0) (copying_layer x 0) lean_1 lean_C
        (both_behind L (writing_layer x 0) lean_L lean_W behind_L (λ s. refl)) (λ s. refl))
        (both_behind (only (stays (marked x))) (each without_promise_of) (only_lean (stays (marked x))) each_lean
        (λ s. refl) (λ s. refl)))
        (both_behind F O lean_F (only_lean (lies_outside (offsets x))) behind_F (λ s. refl))

    front_least : A (placed_layer x 0).front ≤ A (writing_layer x 0).front + A (copying_layer x 0).front
    front_least =
        let a = both_front (unmarked_layer x 0) (addressing_layer x 0) lean_3 lean_A in
        let b = both_front (copied_layer x 0) U lean_2 lean_U in
        let c = both_front (celled_layer x 0) (copying_layer x 0) lean_1 lean_C in
        let d = both_front L (writing_layer x 0) lean_L lean_W in
        omega (arith, a, b, c, d)

    -- of a framed form's entry are those of kept values, links, early slots, and the coroutine's entry
    pub woven_least : A (woven (placed_layer x 0) (instrs_at x 0))
        ≤ A (kept_allocas (plan x).kept) + A links + A (slot_allocas (copies x).slots) + A (instrs_at x 0)
    woven_least =
        let P : Layer Placed = placed_layer x 0 in
        let is : List Instr = instrs_at x 0 in
        let a = front_least in
        let b = grown_lean P lean_all P.start is in
        let c = behind_all (passed P P.start is) in
        let d = cells_least in
        let h = copies_least in
        let e = many_append w P.front (grown P P.start is ++ P.back (passed P P.start is)) in
        let f = many_append w (grown P P.start is) (P.back (passed P P.start is)) in
        omega (arith, a, b, c, d, e, f, h)
