-- Each pass that builds frames makes blocks instruction by instruction.
use Rattle.std.proofs.Common.{◌≡◌, ℕ, zero, suc, Bool, true, false, List, [], ◌∷◌, ◌++◌, length, refl, sym, ap, ◌∙◌, subst, append_assoc, append-nil, arith}
use Rattle.std.specs.Prelude.{None, Option, Some, filter, map, option_to_list, slice_get, take, unwrap_or, codes, if◌then◌else◌, ◌==◌}
use Rattle.pass_proofs.proofs.ir_laws.facts.local_rules.Woven.{other_number}
use Rattle.pass_proofs.specs.ir_model.declared.instr.Instr.{Instr}
use Rattle.pass_proofs.specs.ir_model.declared.module.Block.{Block}
use Rattle.pass_proofs.specs.ir_model.declared.module.Function.{Function}
use Rattle.pass_proofs.specs.ir_model.declared.module.Module.{Module}
use Rattle.pass_proofs.specs.ir_parts.Contents.{instr_operands, result_of}
use Rattle.pass_proofs.specs.pass_addresses.Placing.{lies_outside, slot_fetches, stays, turned_block, with_frame_addresses, without_markers, without_promise, without_promise_of, without_slots}
use Rattle.pass_proofs.specs.pass_cells.Cells.{written_function}
use Rattle.pass_proofs.specs.pass_cells.Moves.{after_again, after_saved, again_values, saved_values}
use Rattle.pass_proofs.specs.pass_cells.Written.{after_one, distance_behind, save_row, stored_result, after_block as after_written_block, after_blocks as after_written, again_row, entry_blocks, entry_front as cells_front, stored_phis, written_block, written_blocks, written_instrs}
use Rattle.pass_proofs.specs.pass_cells.declared.plan.Plan.{Plan}
use Rattle.pass_proofs.specs.pass_copies.BeginCopies.{after_block as after_copied_block, after_blocks as after_copied, after_instr, behind as behind_begin, block_front, copied_block, copied_blocks, copied_function, copied_instr, copied_instrs, entry_front as copies_front, first_fetched, is_fetched}
use Rattle.pass_proofs.specs.pass_copies.Uses.{flag_at, still_before}
use Rattle.pass_proofs.specs.pass_copies.declared.copying.Copying.{Copying}
use Rattle.pass_proofs.specs.pass_fetch.Blocks.{end_at, fetched_block, fetched_blocks, next_after_block, next_after_blocks, next_after_phis, next_after_phis_by, with_fetches}
use Rattle.pass_proofs.specs.pass_fetch.Fetching.{fetches_of_all}
use Rattle.pass_proofs.specs.pass_fetch.Instrs.{fetched_instr, fetched_instrs, fetched_term, next_after_instr, next_after_instrs, term_operands, with_fetched}
use Rattle.pass_proofs.specs.pass_fetch.declared.fetch.Fetch.{Fetch}
use Rattle.pass_frames_code.proofs.layers.Grown.{both_made}
use Rattle.pass_frames_code.specs.Layers.{IsMadeBy, Layer, becomes, both, each, grown, only, passed}
use Rattle.pass_frames_code.specs.Passes.{IsBlockMade, addressed_at, at_entry, block_at, copying, copying_at, fetched_first, fetching, fetching_at, no_block, phi_ends, unmarked_at, writing, writing_at}

-- the block at a position
pub block_is : (f : Function) (k : ℕ) (b : Block) → slice_get f.blocks k ≡ Some b → block_at f k ≡ b
block_is f k b e = ap (λ (o : Option Block). unwrap_or o no_block) e

-- a block behind the entry has none of its front
later_front : (k : ℕ) (front : List Instr) → at_entry (suc k) front ≡ []
later_front k front =
    ap (λ (c : Bool). if c then front else []) (other_number (suc k) 0 (λ e. absurd (omega (arith, e))))

no_front : (k : ℕ) → at_entry k [] ≡ []
no_front k = on (k == 0)
  where
    on : (c : Bool) → ◌≡◌ {A = List Instr} (if c then [] else []) []
    on true = refl
    on false = refl

-- ---- fetches

module _ (t : List (Option Fetch)) (ends : List Instr) (first : ℕ) (b : Block) where
  abbrev fetches : Layer ℕ
  fetches = fetching t ends first b

  fetched_grown : (n : ℕ) (is : List Instr) → fetched_instrs t n is ≡ grown fetches n is
  fetched_grown n [] = refl
  fetched_grown n (i ∷ is) =
      ap (λ (xs : List Instr). fetched_instr t n i ++ xs) (fetched_grown (next_after_instr t n i) is)

  fetched_passed : (n : ℕ) (is : List Instr) → next_after_instrs t n is ≡ passed fetches n is
  fetched_passed n [] = refl
  fetched_passed n (i ∷ is) = fetched_passed (next_after_instr t n i) is

fetched_made : (t : List (Option Fetch)) (ends : List (List Instr)) (m n : ℕ) (b : Block)
    → IsMadeBy (fetching t (end_at ends b.label) n b) b (fetched_block t ends m n b)
fetched_made t ends m n b = record {
  label = refl;
  instrs =
      (λ k. (fetched_grown t (end_at ends b.label) n b n b.instrs k ++ end_at ends b.label)
      ++ fetches_of_all t (fetched_passed t (end_at ends b.label) n b n b.instrs k) (term_operands b.term))
      ∙ append_assoc (grown (fetching t (end_at ends b.label) n b) n b.instrs) (end_at ends b.label)
      (fetches_of_all t (passed (fetching t (end_at ends b.label) n b) n b.instrs) (term_operands b.term));
  term = ap (λ (x : ℕ). fetched_term t x b.term) (fetched_passed t (end_at ends b.label) n b n b.instrs);
}

pub fetched_there : (t : List (Option Fetch)) (ends : List (List Instr)) (m n : ℕ) (bs : List Block) (k : ℕ) (b : Block)
    → slice_get bs k ≡ Some b
    → (p : ℕ) × (slice_get (fetched_blocks t ends m n bs) k
    ≡ Some (fetched_block t ends p (next_after_blocks t n (take k bs)) b))
fetched_there t ends m n [] k b e = absurd (cc)
fetched_there t ends m n (c ∷ bs) zero b e = let same : c ≡ b = cc in
    (m, ap (λ (x : Block). Some (fetched_block t ends m n x)) same)
fetched_there t ends m n (c ∷ bs) (suc k) b e =
    fetched_there t ends (next_after_phis t m c.phis) (next_after_block t n c) bs k b e

pub fetches_made : (f : Function) (t : List (Option Fetch)) (word : List ℕ) (k : ℕ)
    → IsBlockMade (fetching_at f t k) f (with_fetches f t word) k
fetches_made f t word k b e =
    let there = fetched_there t (phi_ends f t) (length f.names) (next_after_phis_by t (length f.names) f.blocks)
    f.blocks k b e in (
      fetched_block t (phi_ends f t) there.0 (fetched_first f t k) b,
      there.1,
      subst (λ (x : Block). IsMadeBy (fetching t (end_at (phi_ends f t) x.label) (fetched_first f t k) x) b
          (fetched_block t (phi_ends f t) there.0 (fetched_first f t k) b)) (sym (block_is f k b e))
          (fetched_made t (phi_ends f t) there.0 (fetched_first f t k) b),
    )

-- ---- cells

module _ (m : Module) (p : Plan) (front : List Instr) (first : ℕ) (b : Block) where
  abbrev writes : Layer ℕ
  writes = writing m p front first b

  written_grown : (n : ℕ) (is : List Instr) → written_instrs m p n is ≡ grown writes n is
  written_grown n [] = refl
  written_grown n (i ∷ is) =
      λ k. append_assoc (saved_values p.kept n (save_row p i)) (i ∷ stored_result p (result_of i))
      (distance_behind m p (after_saved n (save_row p i)) i) k ++ written_grown (after_one m p n i) is k

  pub written_made : IsMadeBy writes b (written_block m p front first b)
  written_made = record {
    label = refl;
    instrs =
        ap (λ (xs : List Instr). (front ++ again_values p.kept first (again_row p b.label) ++ stored_phis p b.phis)
        ++ xs)
        (written_grown (after_again first (again_row p b.label)) b.instrs
        ∙ sym (append-nil (grown writes (after_again first (again_row p b.label)) b.instrs)));
    term = refl;
  }

written_there : (m : Module) (p : Plan) (n : ℕ) (bs : List Block) (k : ℕ) (b : Block) → slice_get bs k ≡ Some b
    → slice_get (written_blocks m p n bs) k ≡ Some (written_block m p [] (after_written m p n (take k bs)) b)
written_there m p n [] k b e = absurd (cc)
written_there m p n (c ∷ bs) zero b e = let same : c ≡ b = cc in
    ap (λ (x : Block). Some (written_block m p [] n x)) same
written_there m p n (c ∷ bs) (suc k) b e = written_there m p (after_written_block m p n c) bs k b e

pub entry_there : (m : Module) (p : Plan) (front : List Instr) (n : ℕ) (bs : List Block) (k : ℕ) (b : Block)
    → slice_get bs k ≡ Some b
    → slice_get (entry_blocks m p front n bs) k
    ≡ Some (written_block m p (at_entry k front) (after_written m p n (take k bs)) b)
entry_there m p front n [] k b e = absurd (cc)
entry_there m p front n (c ∷ bs) zero b e = let same : c ≡ b = cc in
    ap (λ (x : Block). Some (written_block m p front n x)) same
entry_there m p front n (c ∷ bs) (suc k) b e =
    written_there m p (after_written_block m p n c) bs k b e
    ∙ ap (λ (xs : List Instr). Some (written_block m p xs (after_written m p (after_written_block m p n c) (take k bs))
    b))
    (sym (later_front k front))

pub cells_made : (m : Module) (p : Plan) (f : Function) (k : ℕ)
    → IsBlockMade (writing_at m p (cells_front p f.params) f k) f (written_function m p f) k
cells_made m p f k b e =
    let first : ℕ = after_written m p (length f.names) (take k f.blocks) in
    let front : List Instr = at_entry k (cells_front p f.params) in (
      written_block m p front first b,
      entry_there m p (cells_front p f.params) (length f.names) f.blocks k b e,
      subst (λ (x : Block). IsMadeBy (writing m p front first x) b (written_block m p front first b))
          (sym (block_is f k b e)) (written_made m p front first b),
    )

-- ---- copies

module _ (c : Copying) (before : List Bool) (front : List Instr) (first : ℕ) (b : Block) where
  abbrev copies : Layer (Bool × ℕ)
  copies = copying c before front first b

  one_copied : (x : Bool) (n : ℕ) (i : Instr) → copied_instr c x n i ≡ becomes copies (x, n) i
  one_copied x n i = on (is_fetched x i)
    where
      on : (y : Bool)
          → (if y then fetched_instr c.fetches n i else i ∷ []) ++ behind_begin c i
          ≡ (if y then fetches_of_all c.fetches n (instr_operands i) else [])
          ++ ((if y then with_fetched c.fetches n i else i) ∷ behind_begin c i)
      on true = append_assoc (fetches_of_all c.fetches n (instr_operands i)) (with_fetched c.fetches n i ∷ [])
          (behind_begin c i)
      on false = refl

  copied_grown : (x : Bool) (n : ℕ) (is : List Instr) → copied_instrs c x n is ≡ grown copies (x, n) is
  copied_grown x n [] = refl
  copied_grown x n (i ∷ is) = λ k. one_copied x n i k ++ copied_grown (still_before x i) (after_instr c x n i) is k

  pub copied_made : IsMadeBy copies b (copied_block c before front first b)
  copied_made = record {
    label = refl;
    instrs =
        ap (λ (xs : List Instr). (front ++ block_front c b.label) ++ xs)
        (copied_grown (flag_at before b.label) first b.instrs
        ∙ sym (append-nil (grown copies (flag_at before b.label, first) b.instrs)));
    term = refl;
  }

pub copied_there : (c : Copying) (before : List Bool) (front : List Instr) (n : ℕ) (bs : List Block) (k : ℕ) (b : Block)
    → slice_get bs k ≡ Some b
    → slice_get (copied_blocks c before front n bs) k
    ≡ Some (copied_block c before (at_entry k front) (after_copied c before n (take k bs)) b)
copied_there c before front n [] k b e = absurd (cc)
copied_there c before front n (d ∷ bs) zero b e = let same : d ≡ b = cc in
    ap (λ (x : Block). Some (copied_block c before front n x)) same
copied_there c before front n (d ∷ bs) (suc k) b e =
    copied_there c before [] (after_copied_block c before n d) bs k b e
    ∙ ap (λ (xs : List Instr).
    Some (copied_block c before xs (after_copied c before (after_copied_block c before n d) (take k bs)) b))
    (no_front k ∙ sym (later_front k front))

pub copies_made : (f : Function) (before : List Bool) (c : Copying) (k : ℕ)
    → IsBlockMade (copying_at c before (copies_front c.slots) (first_fetched f c) f k) f (copied_function f before c)
    k
copies_made f before c k b e =
    let first : ℕ = after_copied c before (first_fetched f c) (take k f.blocks) in
    let front : List Instr = at_entry k (copies_front c.slots) in (
      copied_block c before front first b,
      copied_there c before (copies_front c.slots) (first_fetched f c) f.blocks k b e,
      subst (λ (x : Block). IsMadeBy (copying c before front first x) b (copied_block c before front first b))
          (sym (block_is f k b e)) (copied_made c before front first b),
    )

-- ---- instructions that go, and others in their place

only_grown : (test : Instr → Bool) (is : List Instr) → filter test is ≡ grown (only test) tt is
only_grown test [] = refl
only_grown test (i ∷ is) = on (only_grown test is) (test i)
  where
    on : filter test is ≡ grown (only test) tt is → (y : Bool)
        → (if y then i ∷ filter test is else filter test is)
        ≡ ([] ++ (option_to_list (if y then Some i else None) ++ [])) ++ grown (only test) tt is
    on later true = ap (λ (xs : List Instr). i ∷ xs) later
    on later false = later

pub only_made : (test : Instr → Bool) (b : Block) → IsMadeBy (only test) b (turned_block (filter test) b)
only_made test b =
    record {
      label = refl;
      instrs =
          only_grown test b.instrs ∙ sym (append-nil (grown (only test) tt b.instrs));
      term = refl;
    }

each_grown : (turned : Instr → Instr) (is : List Instr) → map turned is ≡ grown (each turned) tt is
each_grown turned [] = refl
each_grown turned (i ∷ is) = ap (λ (xs : List Instr). turned i ∷ xs) (each_grown turned is)

pub each_made : (turned : Instr → Instr) (b : Block) → IsMadeBy (each turned) b (turned_block (map turned) b)
each_made turned b =
    record {
      label = refl;
      instrs =
          each_grown turned b.instrs ∙ sym (append-nil (grown (each turned) tt b.instrs));
      term = refl;
    }

pub turned_there : (turned : List Instr → List Instr) (bs : List Block) (k : ℕ) (b : Block) → slice_get bs k ≡ Some b
    → slice_get (map (turned_block turned) bs) k ≡ Some (turned_block turned b)
turned_there turned [] k b e = absurd (cc)
turned_there turned (c ∷ bs) zero b e = let same : c ≡ b = cc in ap (λ (x : Block). Some (turned_block turned x)) same
turned_there turned (c ∷ bs) (suc k) b e = turned_there turned bs k b e

-- ---- addresses

pub unmarked_made : (f : Function) (marked : List Bool) (k : ℕ)
    → IsBlockMade (unmarked_at marked) f (without_promise (without_markers marked f)) k
unmarked_made f marked k b e =
    let c : Block = turned_block (filter (stays marked)) b in (
      turned_block (map without_promise_of) c,
      turned_there (map without_promise_of) (without_markers marked f).blocks k c
          (turned_there (filter (stays marked)) f.blocks k b e),
      both_made (only (stays marked)) (each without_promise_of) b c (turned_block (map without_promise_of) c)
          (only_made (stays marked) b) (each_made without_promise_of c),
    )

-- the function with the addresses of its slots fetched, and without their allocas
abbrev pub addressed : Function → ℕ → List (Option ℕ) → Function
addressed g begin offsets = without_slots offsets (with_fetches g (slot_fetches begin offsets) (codes "$c.at."))

pub addressed_made : (g : Function) (begin : ℕ) (offsets : List (Option ℕ)) (k : ℕ)
    → IsBlockMade (addressed_at g begin offsets k) g (addressed g begin offsets) k
addressed_made g begin offsets k b e =
    let made = fetches_made g (slot_fetches begin offsets) (codes "$c.at.") k b e in (
      turned_block (filter (lies_outside offsets)) made.0,
      turned_there (filter (lies_outside offsets)) (with_fetches g (slot_fetches begin offsets) (codes "$c.at.")).blocks
          k made.0 made.1,
      both_made (fetching_at g (slot_fetches begin offsets) k) (only (lies_outside offsets)) b made.0
          (turned_block (filter (lies_outside offsets)) made.0) made.2 (only_made (lies_outside offsets) made.0),
    )

-- ---- passes in a row

pub rows : {S T : Type 0} (L : Layer S) (M : Layer T) (f g h : Function) (k : ℕ) → IsBlockMade L f g k
    → IsBlockMade M g h k → IsBlockMade (both L M) f h k
rows L M f g h k x y b e =
    let c = x b e in
    let d = y c.0 c.1 in
    (d.0, d.1, both_made L M b c.0 d.0 c.2 d.2)

pub addresses_made : (f : Function) (begin : ℕ) (offsets : List (Option ℕ)) (marked : List Bool) (k : ℕ)
    → IsBlockMade
    (both (unmarked_at marked) (addressed_at (without_promise (without_markers marked f)) begin offsets k)) f
    (with_frame_addresses f begin offsets marked) k
addresses_made f begin offsets marked k =
    let g : Function = without_promise (without_markers marked f) in
    rows (unmarked_at marked) (addressed_at g begin offsets k) f g (addressed g begin offsets) k
    (unmarked_made f marked k) (addressed_made g begin offsets k)
