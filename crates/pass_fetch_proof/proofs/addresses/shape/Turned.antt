-- Markers and allocas that go, and the promise that becomes null, leave the calls of a coroutine.
use Rattle.std.proofs.Common.{◌≡◌, ℕ, ◌+◌, Bool, true, false, List, [], ◌∷◌, length, refl, ap, arith}
use Rattle.std.specs.Prelude.{Option, filter, map, if◌then◌else◌}
use Rattle.pass_edges_proof.proofs.early.path_rules.SavedSwitches.{times_in}
use Rattle.pass_edges_proof.proofs.edges.shape.Uses.{ends_total}
use Rattle.pass_addresses.specs.Placing.{lies_outside, stays, turned_block, without_promise_of}
use Rattle.pass_edges_proof.proofs.edges.calls.Spared.{AreInstrsOther, AreOther, IsSpared}
use Rattle.pass_edges_proof.proofs.edges.calls.Steadily.{AreSteady}
use Rattle.pass_edges_proof.proofs.rule_laws.rules.shape.Steady.{AreAllOrdered, Ended, IsAlike, IsBlockKept, IsPlain, Keeps, LeadsAt, Left, Stay, all_calls, all_labels, behind_first, first_leads}
use Rattle.pass_edges_proof.proofs.ir_laws.paths.shape.Steady.{AreOrdered, IsOrdered, is_end}
use Rattle.pass_edges_proof.specs.ir_parts.Contents.{ending_operands, instr_operands}
use Rattle.ir_model.specs.declared.instr.Instr.{Instr}
use Rattle.ir_model.specs.declared.module.Block.{Block}
use Rattle.ir_model.specs.declared.operand.Callee.{Callee}
use Rattle.ir_model.specs.declared.operand.Intrinsic.{Intrinsic}
use Rattle.pass_edges_proof.specs.run_laws.changed.Changed.{Each}
use Rattle.pass_edges_proof.specs.ir_laws.facts.woven_rules.Pairs.{Empty, Pair, Pairwise}

-- ---- instructions that go

module _ (V : ℕ → Type 0) (keep : Instr → Bool) (plain : (i : Instr) → keep i ≡ false → IsPlain i) where
  one_filtered : (ahead : Bool) (at : ℕ) (i : Instr) (is : List Instr) → IsOrdered V at i is → (is_end i ≡ true → ahead ≡ true) → Keeps false is (filter keep is) → Keeps ahead (i ∷ is) (filter keep (i ∷ is))
  one_filtered ahead at i is o leads rest = on (keep i) refl
    where
      on : (b : Bool) → keep i ≡ b → Keeps ahead (i ∷ is) (if b then i ∷ filter keep is else filter keep is)
      on true e = Stay ahead i i is (filter keep is) (λ b now. refl) leads (λ s. ap (filter keep) (o.last s)) rest
      on false e = Left ahead i is (filter keep is) (plain i e) rest

  filter_kept : (ahead : Bool) (at : ℕ) (is : List Instr) → AreOrdered V at is → LeadsAt ahead is → Keeps ahead is (filter keep is)
  filter_kept ahead at [] o leads = Ended ahead
  filter_kept ahead at (i ∷ is) o leads = one_filtered ahead at i is o.0 leads (filter_kept false (at + 1) is o.1 (behind_first V false at is o.1))

filter_other : (keep : Instr → Bool) (v : ℕ) (is : List Instr) → AreInstrsOther v is → AreInstrsOther v (filter keep is)
filter_other keep v [] h = tt
filter_other keep v (i ∷ is) h = on (keep i) (filter_other keep v is h.1)
  where
    on : (b : Bool) → AreInstrsOther v (filter keep is) → AreInstrsOther v (if b then i ∷ filter keep is else filter keep is)
    on true rest = (h.0, rest)
    on false rest = rest

-- ---- instructions that are turned

module _ (V : ℕ → Type 0) (turn : Instr → Instr) (alike : (i : Instr) → IsAlike i (turn i)) where
  map_kept : (ahead : Bool) (at : ℕ) (is : List Instr) → AreOrdered V at is → LeadsAt ahead is → Keeps ahead is (map turn is)
  map_kept ahead at [] o leads = Ended ahead
  map_kept ahead at (i ∷ is) o leads = Stay ahead i (turn i) is (map turn is) (alike i) leads (λ s. ap (map turn) (o.0.last s)) (map_kept false (at + 1) is o.1 (behind_first V false at is o.1))

map_other : (turn : Instr → Instr) (v : ℕ) → ((i : Instr) → AreOther v (instr_operands i) → AreOther v (instr_operands (turn i))) → (is : List Instr) → AreInstrsOther v is → AreInstrsOther v (map turn is)
map_other turn v one [] h = tt
map_other turn v one (i ∷ is) h = (one i h.0, map_other turn v one is h.1)

-- ---- blocks

module _ (V : ℕ → Type 0) (T : List Instr → List Instr) (kept : (at : ℕ) (is : List Instr) → AreOrdered V at is → LeadsAt true is → Keeps true is (T is)) (other : (v : ℕ) (is : List Instr) → AreInstrsOther v is → AreInstrsOther v (T is)) where
  blocks_kept : (bs : List Block) → AreAllOrdered V bs → Pairwise (IsBlockKept V) bs (map (turned_block T) bs)
  blocks_kept [] o = Empty
  blocks_kept (b ∷ bs) o =
      Pair b (turned_block T b) bs (map (turned_block T) bs)
      (record { label = refl; phis = refl; instrs = kept (length b.phis) b.instrs o.0 (first_leads b.instrs); term = λ v x. refl })
      (blocks_kept bs o.1)

  blocks_spared : (v : ℕ) (bs : List Block) → Each (IsSpared v) bs → Each (IsSpared v) (map (turned_block T) bs)
  blocks_spared v [] h = tt
  blocks_spared v (b ∷ bs) h = (record { phis = h.0.phis; instrs = other v b.instrs h.0.instrs }, blocks_spared v bs h.1)

  same_ends : (v : ℕ) (bs : List Block) → ends_total v (map (turned_block T) bs) ≡ ends_total v bs
  same_ends v [] = refl
  same_ends v (b ∷ bs) = λ k. times_in v (ending_operands b.term) + same_ends v bs k

  turned_steady : (bs : List Block) → AreAllOrdered V bs → AreSteady V bs (map (turned_block T) bs)
  turned_steady bs o = record {
    labels = all_labels V bs (map (turned_block T) bs) (blocks_kept bs o);
    calls = all_calls V bs (map (turned_block T) bs) (blocks_kept bs o) o;
    spares = λ v x h. blocks_spared v bs h;
    ends = λ v x. let same : ends_total v (map (turned_block T) bs) ≡ ends_total v bs = same_ends v bs in omega (arith, same);
  }

-- ---- the passes

marker_plain : (marked : List Bool) (i : Instr) → stays marked i ≡ false → IsPlain i
marker_plain marked (Instr.Call r must_tail ty (Callee.Intrinsic Intrinsic.LifetimeStart) args) e b at = refl
marker_plain marked (Instr.Call r must_tail ty (Callee.Intrinsic Intrinsic.LifetimeEnd) args) e b at = refl
marker_plain marked _ e b at = absurd (cc)

slot_plain : (offsets : List (Option ℕ)) (i : Instr) → lies_outside offsets i ≡ false → IsPlain i
slot_plain offsets (Instr.Alloca r ty align) e b at = refl
slot_plain offsets _ e b at = absurd (cc)

promise_alike : (i : Instr) → IsAlike i (without_promise_of i)
promise_alike (Instr.Call r must_tail ty (Callee.Intrinsic Intrinsic.CoroId) args) b at = refl
promise_alike _ b at = refl

promise_other : (v : ℕ) (i : Instr) → AreOther v (instr_operands i) → AreOther v (instr_operands (without_promise_of i))
promise_other v (Instr.Call r must_tail ty (Callee.Intrinsic Intrinsic.CoroId) []) h = h
promise_other v (Instr.Call r must_tail ty (Callee.Intrinsic Intrinsic.CoroId) (a ∷ [])) h = h
promise_other v (Instr.Call r must_tail ty (Callee.Intrinsic Intrinsic.CoroId) (a ∷ p ∷ args)) h = (h.0, (refl, h.1.1))
promise_other v _ h = h

pub markers_steady : (V : ℕ → Type 0) (marked : List Bool) (bs : List Block) → AreAllOrdered V bs → AreSteady V bs (map (turned_block (filter (stays marked))) bs)
markers_steady V marked bs o = turned_steady V (filter (stays marked)) (filter_kept V (stays marked) (marker_plain marked) true) (filter_other (stays marked)) bs o

pub slots_steady : (V : ℕ → Type 0) (offsets : List (Option ℕ)) (bs : List Block) → AreAllOrdered V bs → AreSteady V bs (map (turned_block (filter (lies_outside offsets))) bs)
slots_steady V offsets bs o = turned_steady V (filter (lies_outside offsets)) (filter_kept V (lies_outside offsets) (slot_plain offsets) true) (filter_other (lies_outside offsets)) bs o

pub promise_steady : (V : ℕ → Type 0) (bs : List Block) → AreAllOrdered V bs → AreSteady V bs (map (turned_block (map without_promise_of)) bs)
promise_steady V bs o = turned_steady V (map without_promise_of) (map_kept V without_promise_of promise_alike true) (λ v. map_other without_promise_of v (promise_other v)) bs o
