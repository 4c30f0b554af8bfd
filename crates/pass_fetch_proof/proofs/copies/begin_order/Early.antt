-- The slots that are used before begin are fetched, and the new names lie in no frame.
use Rattle.std.proofs.Common.{◌≡◌, ◌⊎◌, inl, inr, ⊎_elim, ℕ, zero, suc, ◌+◌, ◌<◌, Bool, true, false, List, [], ◌∷◌, ◌++◌, length, refl, sym, ap, ◌∙◌, subst, arith}
use Rattle.std.specs.Prelude.{None, Option, Some, replicate, slice_get, slice_set, if◌then◌else◌}
use Rattle.pass_copies.specs.Slots.{early_slot, fetches_of, resumed_at, set_fetches, set_resumed, slots_from}
use Rattle.pass_copies.specs.Uses.{flag_at}
use Rattle.pass_copies.specs.declared.slot.EarlySlot.{EarlySlot}
use Rattle.pass_fetch_proof.proofs.copies.begin_order.Marks.{flag_back, none_flagged}
use Rattle.pass_edges_proof.specs.rule_laws.frames.begin_order.Behind.{LeadsAgain}
use Rattle.pass_fetch_proof.proofs.copies.rules.Slots.{cell_found}
use Rattle.pass_edges_proof.proofs.ir_laws.facts.Lists.{set_here, set_length, set_other}
use Rattle.pass_edges_proof.proofs.ir_laws.paths.source_rules.Locals.{listed_either}
use Rattle.pass_edges_proof.specs.flow_solver.Paths.{IsListed}
use Rattle.pass_edges_proof.specs.pass_intrinsics.Shapes.{suspends_of}
use Rattle.pass_edges_proof.specs.pass_intrinsics.declared.shape.SuspendPoint.{SuspendPoint}
use Rattle.ir_model.specs.Ty.{ptr}
use Rattle.ir_model.specs.declared.instr.Instr.{Instr}
use Rattle.ir_model.specs.declared.module.Function.{Function}
use Rattle.ir_model.specs.declared.operand.Operand.{Operand}
use Rattle.pass_edges_proof.specs.ir_paths.Slots.{allocas_in}
use Rattle.pass_edges_proof.specs.pass_fetch.Fetching.{fetch_at, fetch_into, fetch_of, fetches_by, fetches_of_all, next_after, value_bytes}
use Rattle.pass_edges_proof.specs.pass_fetch.declared.fetch.Fetch.{Fetch}
use Rattle.pass_edges_proof.proofs.ir_laws.facts.Truth.{is_number}

-- ---- a flagged alloca is a slot

pub record IsSlotOf (ss : List EarlySlot) (v : ℕ) : Type 0 where
  pub slot : EarlySlot
  pub listed : IsListed slot ss
  pub same : slot.slot ≡ v

behind_slot : (s : EarlySlot) (ss : List EarlySlot) (v : ℕ) → IsSlotOf ss v → IsSlotOf (s ∷ ss) v
behind_slot s ss v x = record { slot = x.slot; listed = inr x.listed; same = x.same }

pub slot_listed : (used : List Bool) (sizes : List ℕ) (n : ℕ) (is : List Instr) (v : ℕ) → flag_at used v ≡ true → IsListed v (allocas_in is) → IsSlotOf (slots_from used sizes n is) v
slot_listed used sizes n [] v e l = absurd l
slot_listed used sizes n (Instr.Alloca r ty align ∷ is) v e (inl same) = on (flag_at used r) (ap (flag_at used) (sym same) ∙ e)
  where
    on : (b : Bool) → b ≡ true → IsSlotOf ((if b then early_slot sizes n r ty align ∷ [] else []) ++ slots_from used sizes (if b then n + 2 else n) is) v
    on true d = record { slot = early_slot sizes n r ty align; listed = inl refl; same = sym same }
    on false d = absurd (cc)
slot_listed used sizes n (Instr.Alloca r ty align ∷ is) v e (inr l) = on (flag_at used r) (slot_listed used sizes n is v e l) (slot_listed used sizes (n + 2) is v e l)
  where
    on : (b : Bool) → IsSlotOf (slots_from used sizes n is) v → IsSlotOf (slots_from used sizes (n + 2) is) v → IsSlotOf ((if b then early_slot sizes n r ty align ∷ [] else []) ++ slots_from used sizes (if b then n + 2 else n) is) v
    on true same next = behind_slot (early_slot sizes n r ty align) (slots_from used sizes (n + 2) is) v next
    on false same next = same
slot_listed used sizes n (_ ∷ is) v e l = slot_listed used sizes n is v e l

-- ---- a slot is fetched

abbrev IsSet : List (Option Fetch) → ℕ → Type 0
IsSet table v = (x : Fetch) × (slice_get table v ≡ Some (Some x))

set_stays : (table : List (Option Fetch)) (n : ℕ) (x : Fetch) (v : ℕ) → v < length table → IsSet table v → IsSet (slice_set table n (Some x)) v
set_stays table n x v low h =
    ⊎_elim
    (λ (e : n ≡ v). (x, subst (λ (k : ℕ). slice_get (slice_set table n (Some x)) k ≡ Some (Some x)) e (set_here table n (Some x) (omega (arith, e, low)))))
    (λ e. (h.0, set_other table n v (Some x) e ∙ h.1))
    (is_number n v)

all_stay : (table : List (Option Fetch)) (ss : List EarlySlot) (v : ℕ) → v < length table → IsSet table v → IsSet (set_fetches table ss) v
all_stay table [] v low h = h
all_stay table (s ∷ ss) v low h =
    let same : length (slice_set table s.slot (Some (Fetch.Load ptr s.cell))) ≡ length table = set_length table s.slot (Some (Fetch.Load ptr s.cell)) in
    all_stay (slice_set table s.slot (Some (Fetch.Load ptr s.cell))) ss v (omega (arith, same, low)) (set_stays table s.slot (Fetch.Load ptr s.cell) v low h)

all_set : (table : List (Option Fetch)) (ss : List EarlySlot) (s : EarlySlot) → IsListed s ss → s.slot < length table → IsSet (set_fetches table ss) s.slot
all_set table [] s l low = absurd l
all_set table (x ∷ ss) s (inl e) low =
    let same : length (slice_set table x.slot (Some (Fetch.Load ptr x.cell))) ≡ length table = set_length table x.slot (Some (Fetch.Load ptr x.cell)) in
    let one : s.slot ≡ x.slot = ap (λ (y : EarlySlot). y.slot) e in
    all_stay (slice_set table x.slot (Some (Fetch.Load ptr x.cell))) ss s.slot (omega (arith, same, low))
    (Fetch.Load ptr x.cell, ap (slice_get (slice_set table x.slot (Some (Fetch.Load ptr x.cell)))) one ∙ set_here table x.slot (Some (Fetch.Load ptr x.cell)) (omega (arith, one, low)))
all_set table (x ∷ ss) s (inr l) low =
    let same : length (slice_set table x.slot (Some (Fetch.Load ptr x.cell))) ≡ length table = set_length table x.slot (Some (Fetch.Load ptr x.cell)) in
    all_set (slice_set table x.slot (Some (Fetch.Load ptr x.cell))) ss s l (omega (arith, same, low))

abbrev none_of : ℕ → List (Option Fetch)
none_of n = replicate n None

none_length : (n : ℕ) → length (none_of n) ≡ n
none_length zero = refl
none_length (suc n) = ap suc (none_length n)

pub slot_fetched : (f : Function) (ss : List EarlySlot) (v : ℕ) → IsSlotOf ss v → v < length f.names → fetch_of (fetches_of f ss) (Operand.Local v) ≡ None → ⊥
slot_fetched f ss v x low none =
    let size : length (none_of (length f.names)) ≡ length f.names = none_length (length f.names) in
    let same : x.slot.slot ≡ v = x.same in
    let y = all_set (none_of (length f.names)) ss x.slot x.listed (omega (arith, size, same, low)) in
    let there : slice_get (fetches_of f ss) v ≡ Some (Some y.0) = ap (slice_get (fetches_of f ss)) (sym x.same) ∙ y.1 in
    let both : Some y.0 ≡ None = sym (ap fetch_at there) ∙ none in
    absurd (cc)

-- ---- what is fetched is loaded from cells

pub record IsLoaded (ss : List EarlySlot) (j : Instr) : Type 0 where
  pub name : ℕ
  pub slot : EarlySlot
  pub listed : IsListed slot ss
  pub same : j ≡ Instr.Load name ptr (Operand.Local slot.cell) (value_bytes ptr)

module _ (f : Function) (ss : List EarlySlot) where
  one_loaded : (n : ℕ) (x : Operand) (o : Option Fetch) → fetch_of (fetches_of f ss) x ≡ o → (j : Instr) → IsListed j (fetches_by n o) → IsLoaded ss j
  one_loaded n x None e j l = absurd l
  one_loaded n (Operand.Local v) (Some fetch) e j (inl same) =
      let c = cell_found f ss v fetch e in
      record { name = n; slot = c.slot; listed = c.listed; same = same ∙ ap (fetch_into n) c.same }
  one_loaded n (Operand.Local v) (Some fetch) e j (inr l) = absurd l
  one_loaded n _ (Some fetch) e j l = absurd (cc)

  pub all_loaded : (n : ℕ) (xs : List Operand) (j : Instr) → IsListed j (fetches_of_all (fetches_of f ss) n xs) → IsLoaded ss j
  all_loaded n [] j l = absurd l
  all_loaded n (x ∷ xs) j l =
      ⊎_elim (λ h. one_loaded n x (fetch_of (fetches_of f ss) x) refl j h) (λ h. all_loaded (next_after (fetches_of f ss) n x) xs j h)
      (listed_either j (fetches_by n (fetch_of (fetches_of f ss) x)) (fetches_of_all (fetches_of f ss) (next_after (fetches_of f ss) n x) xs) l)

-- ---- labels of resume and destroy edges

resumed_back : (flags : List Bool) (ps : List SuspendPoint) (l : ℕ) → flag_at (set_resumed flags ps) l ≡ true → (flag_at flags l ≡ true) ⊎ ((p : SuspendPoint) × (IsListed p ps × ((p.resume ≡ l) ⊎ (p.destroy ≡ l))))
resumed_back flags [] l e = inl e
resumed_back flags (p ∷ ps) l e =
    ⊎_elim
    (λ h. ⊎_elim (λ old. ⊎_elim (λ one. inl one) (λ same. inr (p, (inl refl, inl same))) (flag_back flags p.resume l old)) (λ same. inr (p, (inl refl, inr same))) (flag_back (slice_set flags p.resume true) p.destroy l h))
    (λ x. inr (x.0, (inr x.1.0, x.1.1)))
    (resumed_back (slice_set (slice_set flags p.resume true) p.destroy true) ps l e)

pub leads_again : (f : Function) (l : ℕ) → flag_at (resumed_at f) l ≡ true → LeadsAgain f l
leads_again f l e =
    ⊎_elim
    (λ h. let t : true ≡ false = sym h ∙ none_flagged (length f.names) l in absurd (cc)) (λ x. record { suspend = x.0; listed = x.1.0; leads = x.1.1 })
    (resumed_back (replicate (length f.names) false) (suspends_of f) l e)
