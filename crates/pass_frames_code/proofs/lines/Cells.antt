-- Loads from cells and stores into them.
use Rattle.std.proofs.Common.{◌≡◌, inl, inr, ℕ, zero, suc, ◌<◌, true, List, [], ◌∷◌, length, refl, sym, ap, ◌∙◌, subst, arith}
use Rattle.std.specs.List.{Contains}
use Rattle.std.specs.Prelude.{get_or, map, ◌≢◌}
use Rattle.pass_proofs.specs.flow_solver.Paths.{IsListed}
use Rattle.pass_proofs.proofs.ir_laws.facts.Members.{each_turns}
use Rattle.pass_proofs.specs.ir_laws.paths.woven_rules.Pairs.{AreDifferent}
use Rattle.pass_proofs.specs.ir_model.Ty.{Ty, int, ptr}
use Rattle.pass_proofs.specs.ir_model.declared.instr.Instr.{Instr}
use Rattle.pass_proofs.specs.ir_model.declared.operand.Operand.{Operand}
use Rattle.pass_proofs.specs.pass_fetch.Fetching.{value_bytes}
use Rattle.pass_frames_code.proofs.lines.Filled.{elsewhere_apart, others_stay}
use Rattle.pass_frames_code.specs.Lines.{AreElsewhere, AreInBlock, Fills, HasOwnBlocks, IsKeptType, LoadsCell, NoneFilled, OneFilled, RunsOver, StoresCell, at_work}
use Rattle.pass_frames_code.specs.Related.{IsCell}
use Rattle.pass_proofs.proofs.rule_laws.rules.counted.Types.{is_cell_type, width_cases}
use Rattle.pass_proofs.proofs.run_laws.access.Done.{load_done, store_done}
use Rattle.pass_proofs.proofs.run_laws.access.Loaded.{stored_back}
use Rattle.pass_proofs.proofs.run_laws.access.Ranges.{write_held}
use Rattle.pass_proofs.specs.run_laws.access.Accessed.{Span}
use Rattle.pass_proofs.specs.run_laws.access.Lines.{refilled_at}
use Rattle.pass_proofs.specs.run_laws.changed.Changed.{Each}
use Rattle.pass_proofs.specs.run_laws.memory.Standing.{AreByteRights}
use Rattle.pass_proofs.proofs.run_memory.Digits.{length-encode}
use Rattle.pass_proofs.specs.run_memory.Memory.{Rights, access_bytes, decode, encode}
use Rattle.pass_proofs.specs.run_memory.declared.block.Byte.{Byte}
use Rattle.pass_proofs.specs.run_memory.declared.block.MemoryBlock.{MemoryBlock}
use Rattle.pass_proofs.specs.run_memory.declared.pointer.Value.{Value}
use Rattle.pass_proofs.specs.run_source.declared.state.Activation.{Activation}
use Rattle.pass_proofs.specs.run_step.Step.{Context, Work, set_memory, value_at}
use Rattle.pass_proofs.specs.run_step.Values.{Env, access_of, stored, value_in}
use Rattle.pass_proofs.specs.run_step.declared.world.Slot.{Slot}

-- ---- types of what is kept

pub kept_type : (ty : Ty) → is_cell_type ty ≡ true → IsKeptType ty
kept_type (int w) e =
    width_cases (λ n. IsKeptType (int n)) (record { bytes = refl; some = omega arith; alignment = refl })
    (record { bytes = refl; some = omega arith; alignment = refl })
    (record { bytes = refl; some = omega arith; alignment = refl })
    (record { bytes = refl; some = omega arith; alignment = refl })
    (record { bytes = refl; some = omega arith; alignment = refl }) w e
kept_type ptr e = record { bytes = refl; some = omega arith; alignment = refl }
kept_type _ e = absurd (cc)

-- ---- slots with blocks of their own

listed_of : {A : Type 0} (xs : List A) (x : A) (k : ℕ) → k < length xs → get_or xs k x ≡ x → IsListed x xs
listed_of [] x k lt e = absurd (omega (arith, lt))
listed_of (y ∷ xs) x zero lt e = inl (sym e)
listed_of (y ∷ xs) x (suc k) lt e = inr (listed_of xs x k (omega (arith, lt)) e)

pub contained : {A : Type 0} (xs : List A) (x : A) → Contains xs x → IsListed x xs
contained xs x c = listed_of xs x c.0 c.1 c.2

block_listed : (xs : List Slot) (x : Slot) → IsListed x xs → IsListed x.block (map (λ (s : Slot). s.block) xs)
block_listed [] x l = absurd l
block_listed (y ∷ xs) x (inl e) = inl (ap (λ (s : Slot). s.block) e)
block_listed (y ∷ xs) x (inr l) = inr (block_listed xs x l)

same_slot : (xs : List Slot) (x y : Slot) → AreDifferent (map (λ (s : Slot). s.block) xs) → IsListed x xs
    → IsListed y xs → x.block ≡ y.block → x ≡ y
same_slot [] x y d l k e = absurd l
same_slot (z ∷ xs) x y d (inl a) (inl b) e = a ∙ sym b
same_slot (z ∷ xs) x y d (inl a) (inr b) e =
    absurd (d.0 (subst (λ (n : ℕ). IsListed n (map (λ (s : Slot). s.block) xs))
    (sym e ∙ ap (λ (s : Slot). s.block) a) (block_listed xs y b)))
same_slot (z ∷ xs) x y d (inr a) (inl b) e =
    absurd (d.0 (subst (λ (n : ℕ). IsListed n (map (λ (s : Slot). s.block) xs))
    (e ∙ ap (λ (s : Slot). s.block) b) (block_listed xs x a)))
same_slot (z ∷ xs) x y d (inr a) (inr b) e = same_slot xs x y d.1 a b e

-- cells of two names have two blocks
pub other_block : (a : Activation) (p q b d : ℕ) → HasOwnBlocks a
    → Contains a.slots (record { alloca = p; block = b }) → Contains a.slots (record { alloca = q; block = d })
    → p ≢ q → b ≢ d
other_block a p q b d own one other n e =
    n (ap (λ (s : Slot). s.alloca)
    (same_slot a.slots (record { alloca = p; block = b }) (record { alloca = q; block = d }) own
    (contained a.slots (record { alloca = p; block = b }) one)
    (contained a.slots (record { alloca = q; block = d }) other) e))

-- ---- cells stay

-- where nothing is filled in its block, and its name has the value that it had
pub cell_stays : (rights : Rights) → AreByteRights rights → (spans : List Span) (m k : List MemoryBlock)
    (a : Activation) (w x : Work) (cell : ℕ) (ty : Ty) (Has : Value → Type 0) → Fills rights spans m k
    → (h : IsCell rights m (at_work a w) cell ty Has) → AreElsewhere h.block spans
    → value_in x.values cell ≡ value_in w.values cell → IsCell rights k (at_work a x) cell ty Has
cell_stays rights law spans m k a w x cell ty Has fills h apart same = record {
  block = h.block;
  address = same ∙ h.address;
  own = h.own;
  bytes = h.bytes;
  sized = h.sized;
  holds = others_stay rights law spans m k h.block 0 (value_bytes ty) h.bytes fills
      (elsewhere_apart h.block 0 (length h.bytes) spans apart) h.holds;
  has = h.has;
}

-- it has what follows from what it has
pub cell_has : (rights : Rights) (m : List MemoryBlock) (a : Activation) (cell : ℕ) (ty : Ty) (Has Now : Value
    → Type 0)
    → ((v : Value) → Has v → Now v) → IsCell rights m a cell ty Has → IsCell rights m a cell ty Now
cell_has rights m a cell ty Has Now turns h = record {
  block = h.block;
  address = h.address;
  own = h.own;
  bytes = h.bytes;
  sized = h.sized;
  holds = h.holds;
  has = turns (decode (access_of ty) h.bytes) h.has;
}

-- ---- one load, one store

module _ (c : Context) (w : Work) (a : Activation) where
  pub cell_loads : (n cell : ℕ) (ty : Ty) (Has : Value → Type 0) → IsKeptType ty
      → IsCell c.rights w.world.memory (at_work a w) cell ty Has → LoadsCell c w n cell ty Has
  cell_loads n cell ty Has t h = record {
    value = decode (access_of ty) h.bytes;
    has = h.has;
    is = load_done c w n (value_bytes ty) h.block 0 (value_bytes ty) ty (Operand.Local cell) h.bytes h.address h.holds
        (h.sized ∙ t.bytes) t.alignment (omega arith);
  }

  -- a store of any operand into a cell
  pub record StoresOperand (y : Operand) (cell : ℕ) (ty : Ty) (n : ℕ) : Type 0 where
    pub work : Work
    pub spans : List Span
    pub over : RunsOver c
        (Instr.Store (record { ty = ty; value = y }) (Operand.Local cell) (value_bytes ty) ∷ []) n spans w work
    pub values : work.values ≡ w.values
    pub cell_is : IsCell c.rights work.world.memory (at_work a work) cell ty
        (λ (u : Value). u ≡ stored (access_of ty) (value_at c w ty y))
    pub inside : AreInBlock cell_is.block spans

  pub operand_stores : AreByteRights c.rights → (y : Operand) (cell n : ℕ) (ty : Ty) (Has : Value → Type 0)
      → IsKeptType ty → IsCell c.rights w.world.memory (at_work a w) cell ty Has → StoresOperand y cell ty n
  operand_stores law y cell n ty Has t h =
      let given : Value = stored (access_of ty) (value_at c w ty y) in
      let new : List Byte = encode (access_bytes (access_of ty)) given in
      let long : length new ≡ access_bytes (access_of ty) = length-encode (access_bytes (access_of ty)) given in
      let same : length new ≡ length h.bytes = long ∙ sym t.bytes ∙ sym h.sized in
      let m : List MemoryBlock = refilled_at w.world.memory h.block 0 new in
      let z : Work = set_memory w m in
      let spans : List Span = record { block = h.block; offset = 0; len = length new } ∷ [] in
      let fills : Fills c.rights spans w.world.memory m =
      OneFilled h.block 0 (value_bytes ty) h.bytes new [] w.world.memory m h.holds same (NoneFilled m) in
      record {
        work = z;
        spans = spans;
        over = record {
          runs = (
            z,
            (
              store_done c w (value_bytes ty) h.block 0 (value_bytes ty) (record { ty = ty; value = y })
                  (Operand.Local cell) h.bytes h.address h.holds (h.sized ∙ t.bytes) t.alignment (omega arith),
              refl,
            ),
          );
          fills = fills;
          world = refl;
          others = λ u lt. refl;
          room = refl;
        };
        values = refl;
        inside = (refl, tt);
        cell_is = record {
          block = h.block;
          address = h.address;
          own = h.own;
          bytes = new;
          sized = long ∙ sym t.bytes;
          holds = write_held c.rights w.world.memory h.block 0 (value_bytes ty) h.bytes h.holds law new same;
          has = stored_back (access_of ty) (value_at c w ty y)
              (let some = t.some in let is = t.bytes in omega (arith, some, is));
        };
      }

  pub cell_stores : AreByteRights c.rights → (v cell n : ℕ) (ty : Ty) (Has : Value → Type 0)
      → IsKeptType ty → IsCell c.rights w.world.memory (at_work a w) cell ty Has → StoresCell c w a v cell ty n
  cell_stores law v cell n ty Has t h =
      let s : StoresOperand (Operand.Local v) cell ty n = operand_stores law (Operand.Local v) cell n ty Has t h in
      record {
        work = s.work;
        spans = s.spans;
        over = s.over;
        values = s.values;
        inside = s.inside;
        cell_is = s.cell_is;
      }

  -- the other cells stay as they are
  pub others_kept : AreByteRights c.rights → HasOwnBlocks a → (v cell n other : ℕ) (ty t : Ty) (Has : Value → Type 0)
      → (s : StoresCell c w a v cell ty n) → other ≢ cell
      → IsCell c.rights w.world.memory (at_work a w) other t Has
      → IsCell c.rights s.work.world.memory (at_work a s.work) other t Has
  others_kept law own v cell n other ty t Has s d h =
      cell_stays c.rights law s.spans w.world.memory s.work.world.memory a w s.work other t Has s.over.fills h
      (each_turns (λ (z : Span). z.block ≡ s.cell_is.block) (λ (z : Span). z.block ≢ h.block)
      (λ z e f. other_block a cell other s.cell_is.block h.block own s.cell_is.own h.own (λ q. d (sym q)) (sym e ∙ f))
      s.spans s.inside)
      (ap (λ (env : Env). value_in env other) s.values)

-- ---- lines that fill one cell

module _ (c : Context) (law : AreByteRights c.rights) (a : Activation) (own : HasOwnBlocks a) where
  -- each range is one of a cell
  abbrev pub AreOf : ℕ → List Span → Type 0
  AreOf cell spans = Each (λ (s : Span). Contains a.slots (record { alloca = cell; block = s.block })) spans

  of_elsewhere : (cell other b : ℕ) (spans : List Span) → AreOf cell spans
      → Contains a.slots (record { alloca = other; block = b }) → other ≢ cell → AreElsewhere b spans
  of_elsewhere cell other b spans h k d =
      each_turns (λ (s : Span). Contains a.slots (record {
        alloca = cell;
        block =
            s.block;
      })) (λ (s : Span). s.block ≢ b)
      (λ s co e. other_block a cell other s.block b own co k (λ q. d (sym q)) e) spans h

  -- another cell goes on
  pub cell_on : (line : List Instr) (n cell other : ℕ) (ty : Ty) (Has : Value → Type 0) (spans : List Span) (w y : Work)
      → RunsOver c line n spans w y → AreOf cell spans → other < n → other ≢ cell
      → IsCell c.rights w.world.memory (at_work a w) other ty Has
      → IsCell c.rights y.world.memory (at_work a y) other ty Has
  cell_on line n cell other ty Has spans w y over of lt d h =
      cell_stays c.rights law spans w.world.memory y.world.memory a w y other ty Has over.fills h
      (of_elsewhere cell other h.block spans of h.own d) (over.others other lt)

  -- what is in the block of a cell is one of it
  pub inside_of : (cell b : ℕ) (spans : List Span) → Contains a.slots (record { alloca = cell; block = b })
      → AreInBlock b spans → AreOf cell spans
  inside_of cell b spans co inside =
      each_turns (λ (z : Span). z.block ≡ b)
      (λ (z : Span). Contains a.slots (record { alloca = cell; block = z.block }))
      (λ z e. subst (λ (d : ℕ). Contains a.slots (record { alloca = cell; block = d })) (sym e) co) spans inside
