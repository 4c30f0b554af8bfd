-- The passes that build frames keep the calls of coro intrinsics, but for markers.
use Rattle.std.proofs.Common.{◌≡◌, ℕ, Bool, true, false, List, [], ◌∷◌, ◌++◌, length, refl}
use Rattle.std.specs.Prelude.{None, Option, Some, map, replicate, take, if◌then◌else◌, ◌==◌}
use Rattle.pass_proofs.proofs.ir_laws.facts.Members.{each_joined}
use Rattle.pass_proofs.specs.ir_model.Names.{same_intrinsic}
use Rattle.pass_proofs.specs.ir_model.declared.instr.Instr.{Instr}
use Rattle.pass_proofs.specs.ir_model.declared.module.Block.{Block}
use Rattle.pass_proofs.specs.ir_model.declared.module.Function.{Function}
use Rattle.pass_proofs.specs.ir_model.declared.module.Module.{Module}
use Rattle.pass_proofs.specs.ir_model.declared.module.Param.{Param}
use Rattle.pass_proofs.specs.ir_model.declared.operand.Callee.{Callee}
use Rattle.pass_proofs.specs.ir_model.declared.operand.Intrinsic.{Intrinsic}
use Rattle.pass_proofs.specs.ir_parts.Contents.{instr_operands, result_of}
use Rattle.pass_proofs.specs.ir_paths.Windows.{is_call_of}
use Rattle.pass_proofs.specs.pass_addresses.Placing.{lies_outside, slot_fetches, stays, without_promise_of}
use Rattle.pass_proofs.specs.pass_cells.Moves.{after_saved, again_values, saved_values}
use Rattle.pass_proofs.specs.pass_cells.Written.{after_blocks as after_written, again_row, distance_behind, entry_front as cells_front, save_row, stored_phis, stored_result}
use Rattle.pass_proofs.specs.pass_cells.declared.plan.Plan.{Plan}
use Rattle.pass_proofs.specs.pass_copies.BeginCopies.{begin_copies, block_front, entry_front as copies_front, is_fetched, put, puts, slot_allocas}
use Rattle.pass_proofs.specs.pass_copies.Uses.{flag_at, is_begin}
use Rattle.pass_proofs.specs.pass_copies.declared.copying.Copying.{Copying}
use Rattle.pass_proofs.specs.pass_copies.declared.slot.EarlySlot.{EarlySlot}
use Rattle.pass_proofs.specs.pass_fetch.Blocks.{end_at}
use Rattle.pass_proofs.specs.pass_fetch.Fetching.{fetch_into, fetches_of_all}
use Rattle.pass_proofs.specs.pass_fetch.Instrs.{term_operands, with_fetched}
use Rattle.pass_proofs.specs.pass_fetch.declared.fetch.Fetch.{Fetch}
use Rattle.pass_proofs.specs.pass_front.Front.{is_alloca}
use Rattle.pass_frames_code.proofs.tests.Kept.{both_keep}
use Rattle.pass_proofs.proofs.cells.crossing.Calls.{AreQuiet, agains_quiet, behind_quiet, fetches_quiet, front_quiet, phis_quiet, result_quiet, same_call, saves_quiet}
use Rattle.pass_proofs.proofs.fetch.shape.Fetching.{ends_each, no_rows}
use Rattle.pass_frames_code.specs.Layers.{each, only}
use Rattle.pass_frames_code.specs.Passes.{addressed_at, at_entry, block_at, copying_at, fetching_at, phi_ends, unmarked_at, writing_at}
use Rattle.pass_frames_code.specs.Tests.{AllFail, KeepsTest, PassesLike, is_steady}

module _ (x : Intrinsic) where
  abbrev test : Instr → Bool
  test = is_call_of x

  -- what calls no intrinsic fails
  quiet_fails : (js : List Instr) → AreQuiet js → AllFail test js
  quiet_fails [] h = tt
  quiet_fails (j ∷ js) h = (h.0 x, quiet_fails js h.1)

  joined : (xs ys : List Instr) → AllFail test xs → AllFail test ys → AllFail test (xs ++ ys)
  joined xs ys a b = each_joined (λ (j : Instr). test j ≡ false) xs ys a b

  -- ---- fetches

  one_fetch : (n : ℕ) (y : Fetch) → test (fetch_into n y) ≡ false
  one_fetch n (Fetch.Load ty cell) = refl
  one_fetch n (Fetch.Address base distance) = refl

  same_fetched : (t : List (Option Fetch)) (n : ℕ) (i : Instr) → test (with_fetched t n i) ≡ test i
  same_fetched t n i = same_call t n x i

  ends_fail : (f : Function) (t : List (Option Fetch)) (l : ℕ) → AllFail test (end_at (phi_ends f t) l)
  ends_fail f t l =
      ends_each t (λ (j : Instr). test j ≡ false) (λ n o y e. one_fetch n y) (length f.names)
      (replicate (length f.names) []) f.blocks
      (no_rows t (λ (j : Instr). test j ≡ false) (length f.names)) l

  pub fetching_keeps : (f : Function) (t : List (Option Fetch)) (k : ℕ) → KeepsTest test (fetching_at f t k)
  fetching_keeps f t k = record {
    front = tt;
    before = λ n i. quiet_fails (fetches_of_all t n (instr_operands i)) (fetches_quiet t n (instr_operands i));
    here = λ n i. same_fetched t n i;
    behind = λ n i. tt;
    back = λ n.
        joined (end_at (phi_ends f t) (block_at f k).label) (fetches_of_all t n (term_operands (block_at f k).term))
        (ends_fail f t (block_at f k).label)
        (quiet_fails (fetches_of_all t n (term_operands (block_at f k).term))
        (fetches_quiet t n (term_operands (block_at f k).term)));
  }

  -- ---- cells

  at_entry_fails : (k : ℕ) (front : List Instr) → AllFail test front → AllFail test (at_entry k front)
  at_entry_fails k front h = on (k == 0)
    where
      on : (b : Bool) → AllFail test (if b then front else [])
      on true = h
      on false = tt

  cells_fail : (p : Plan) (ps : List Param) → AllFail test (cells_front p ps)
  cells_fail p ps = quiet_fails (cells_front p ps) (front_quiet p ps)

  pub writing_keeps : (m : Module) (p : Plan) (ps : List Param) (f : Function) (k : ℕ)
      → KeepsTest test (writing_at m p (cells_front p ps) f k)
  writing_keeps m p ps f k =
      let b : Block = block_at f k in
      record {
        front =
            joined (at_entry k (cells_front p ps)
            ++ again_values p.kept (after_written m p (length f.names) (take k f.blocks)) (again_row p b.label))
            (stored_phis p b.phis)
            (joined (at_entry k (cells_front p ps))
            (again_values p.kept (after_written m p (length f.names) (take k f.blocks)) (again_row p b.label))
            (at_entry_fails k (cells_front p ps) (cells_fail p ps))
            (quiet_fails (again_values p.kept (after_written m p (length f.names) (take k f.blocks))
            (again_row p b.label))
            (agains_quiet p.kept (after_written m p (length f.names) (take k f.blocks)) (again_row p b.label))))
            (quiet_fails (stored_phis p b.phis) (phis_quiet p b.phis));
        before = λ n i. quiet_fails (saved_values p.kept n (save_row p i)) (saves_quiet p.kept n (save_row p i));
        here = λ n i. refl;
        behind = λ n i.
            joined (stored_result p (result_of i)) (distance_behind m p (after_saved n (save_row p i)) i)
            (quiet_fails (stored_result p (result_of i)) (result_quiet p (result_of i)))
            (quiet_fails (distance_behind m p (after_saved n (save_row p i)) i)
            (behind_quiet m p (after_saved n (save_row p i)) i));
        back = λ n. tt;
      }

  -- ---- copies, but for calls of memcpy

  module _ (steady : is_steady x ≡ true) where
    no_memcpy : same_intrinsic x Intrinsic.MemcpyI64 ≡ false
    no_memcpy = on x steady
      where
        on : (y : Intrinsic) → is_steady y ≡ true → same_intrinsic y Intrinsic.MemcpyI64 ≡ false
        on Intrinsic.MemcpyI64 e = absurd (cc)
        on _ e = refl

    allocas_fail : (ss : List EarlySlot) → AllFail test (slot_allocas ss)
    allocas_fail [] = tt
    allocas_fail (s ∷ ss) = (refl, (refl, allocas_fail ss))

    puts_fail : (ss : List EarlySlot) → AllFail test (puts ss)
    puts_fail [] = tt
    puts_fail (s ∷ ss) = (refl, puts_fail ss)

    temporaries_fail : (ss : List EarlySlot) → AllFail test (map (λ s. put s.temporary s.cell) ss)
    temporaries_fail [] = tt
    temporaries_fail (s ∷ ss) = (refl, temporaries_fail ss)

    copies_fail : (ss : List EarlySlot) → AllFail test (begin_copies ss)
    copies_fail [] = tt
    copies_fail (s ∷ ss) = (no_memcpy, (refl, copies_fail ss))

    if_fails : (b : Bool) (js : List Instr) → AllFail test js → AllFail test (if b then js else [])
    if_fails true js h = h
    if_fails false js h = tt

    pub copying_keeps : (c : Copying) (before : List Bool) (first : ℕ) (f : Function) (k : ℕ)
        → KeepsTest test (copying_at c before (copies_front c.slots) first f k)
    copying_keeps c before first f k = record {
      front =
          joined (at_entry k (copies_front c.slots)) (block_front c (block_at f k).label)
          (at_entry_fails k (copies_front c.slots)
          (joined (slot_allocas c.slots) (map (λ s. put s.temporary s.cell) c.slots) (allocas_fail c.slots)
          (temporaries_fail c.slots)))
          (if_fails (flag_at c.resumed (block_at f k).label) (puts c.slots) (puts_fail c.slots));
      before = λ s i. if_fails (is_fetched s.0 i) (fetches_of_all c.fetches s.1 (instr_operands i))
          (quiet_fails (fetches_of_all c.fetches s.1 (instr_operands i))
          (fetches_quiet c.fetches s.1 (instr_operands i)));
      here = λ s i. by_flag (is_fetched s.0 i) s.1 i;
      behind = λ s i. if_fails (is_begin i) (begin_copies c.slots) (copies_fail c.slots);
      back = λ s. tt;
    }
      where
        by_flag : (b : Bool) (n : ℕ) (i : Instr) → test (if b then with_fetched c.fetches n i else i) ≡ test i
        by_flag true n i = same_fetched c.fetches n i
        by_flag false n i = refl

    -- ---- markers go, and coro.id loses its promise

    stays_or : (marked : List Bool) (i : Instr) → test i ≡ true → stays marked i ≡ true
    stays_or marked (Instr.Call r must_tail ty (Callee.Intrinsic Intrinsic.LifetimeStart) args) e =
        absurd (no_start x steady e)
      where
        no_start : (y : Intrinsic) → is_steady y ≡ true → same_intrinsic y Intrinsic.LifetimeStart ≡ true → ⊥
        no_start Intrinsic.LifetimeStart s d = absurd (cc)
        no_start _ s d = absurd (cc)
    stays_or marked (Instr.Call r must_tail ty (Callee.Intrinsic Intrinsic.LifetimeEnd) args) e =
        absurd (no_end x steady e)
      where
        no_end : (y : Intrinsic) → is_steady y ≡ true → same_intrinsic y Intrinsic.LifetimeEnd ≡ true → ⊥
        no_end Intrinsic.LifetimeEnd s d = absurd (cc)
        no_end _ s d = absurd (cc)
    stays_or marked _ e = refl

    by_test : (u : Instr → Bool) → ((i : Instr) → test i ≡ true → u i ≡ true) → KeepsTest test (only u)
    by_test u h =
        record {
          front = tt;
          before = λ s i. tt;
          here = λ s i. on i (test i) (u i) refl refl;
          behind =
              λ s i. tt;
          back = λ s. tt;
        }
      where
        on : (i : Instr) (b d : Bool) → test i ≡ b → u i ≡ d → PassesLike test i (if d then Some i else None)
        on i b true e k = refl
        on i true false e k = let yes : u i ≡ true = h i e in absurd (cc)
        on i false false e k = e

    promise_same : (i : Instr) → test (without_promise_of i) ≡ test i
    promise_same (Instr.Call r must_tail ty (Callee.Intrinsic Intrinsic.CoroId) args) = refl
    promise_same _ = refl

    pub unmarked_keeps : (marked : List Bool) → KeepsTest test (unmarked_at marked)
    unmarked_keeps marked =
        both_keep test (only (stays marked)) (each without_promise_of) (by_test (stays marked) (stays_or marked))
        (record { front = tt; before = λ s i. tt; here = λ s i. promise_same i; behind = λ s i. tt; back = λ s. tt })

    -- ---- addresses

    lies_or : (offsets : List (Option ℕ)) (i : Instr) → test i ≡ true → lies_outside offsets i ≡ true
    lies_or offsets (Instr.Alloca r ty align) e = absurd (cc)
    lies_or offsets _ e = refl

    pub addressed_keeps : (f : Function) (begin : ℕ) (offsets : List (Option ℕ)) (k : ℕ)
        → KeepsTest test (addressed_at f begin offsets k)
    addressed_keeps f begin offsets k =
        both_keep test (fetching_at f (slot_fetches begin offsets) k) (only (lies_outside offsets))
        (fetching_keeps f (slot_fetches begin offsets) k) (by_test (lies_outside offsets) (lies_or offsets))

    pub alloca_fails : (j : Instr) → is_alloca j ≡ true → test j ≡ false
    alloca_fails (Instr.Alloca r ty align) e = refl
    alloca_fails _ e = absurd (cc)
