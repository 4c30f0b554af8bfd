-- A slot that is used before begin has the size of its field.
use Rattle.std.proofs.Common.{◌≡◌, ◌+◌, ◌<◌, ◌∙◌, ◌∷◌, ◌++◌, [], Bool, List, Option, Some, ap, arith, false, inl, inr, length, refl, replicate, subst, suc, sym, true, zero, ℕ}
use Rattle.std.proofs.lemmas.List.{length-replicate}
use Rattle.std.specs.Prelude.{if◌then◌else◌, slice_get, slice_set, unwrap_or}
use Rattle.pass_frames_steps.specs.flow_solver.Paths.{IsListed}
use Rattle.pass_frames_steps.specs.frame_classes.declared.class.SlotClass.{SlotClass}
use Rattle.pass_frames_steps.specs.frame_contents.declared.held.Holding.{Holding}
use Rattle.pass_frames_steps.proofs.ir_laws.facts.Lists.{set_here, set_length, set_other}
use Rattle.pass_frames_steps.specs.ir_model.declared.instr.Instr.{Instr}
use Rattle.pass_frames_steps.specs.ir_paths.Slots.{allocas_of}
use Rattle.pass_frames_steps.specs.pass_copies.Slots.{early_slot, entry_instrs, slots_from}
use Rattle.pass_frames_steps.specs.pass_copies.Uses.{flag_at}
use Rattle.pass_frames_steps.specs.pass_copies.declared.slot.EarlySlot.{EarlySlot}
use Rattle.pass_frames_steps.specs.pass_frames.Tables.{class_flags, is_of, sizes_by_name, with_sizes, with_slots}
use Rattle.pass_frames_proof.proofs.early.Placed.{each_listed, flagged_slot, used}
use Rattle.pass_frames_steps.specs.Early.{IsOfField}
use Rattle.pass_frames_steps.specs.Offsets.{AreHeldOnce}
use Rattle.pass_frames_steps.specs.Places.{Framing, copies, written}
use Rattle.pass_frames_steps.specs.run_laws.changed.Changed.{Each}

-- ---- the table of sizes

sizes_kept : (hs : List Holding) (table : List ℕ) (v : ℕ)
    → ((i : ℕ) (x : Holding) → slice_get hs i ≡ Some x → x.value ≡ v → ⊥)
    → slice_get (with_sizes hs table) v ≡ slice_get table v
sizes_kept [] table v none = refl
sizes_kept (h ∷ hs) table v none =
    sizes_kept hs (slice_set table h.value h.size) v (λ i x e d. none (suc i) x e d)
    ∙ set_other table h.value v h.size (λ e. none 0 h refl e)

sizes_set : (hs : List Holding) (table : List ℕ) (j : ℕ) (h : Holding) → slice_get hs j ≡ Some h
    → ((i : ℕ) (x : Holding) → slice_get hs i ≡ Some x → x.value ≡ h.value → i ≡ j) → h.value < length table
    → slice_get (with_sizes hs table) h.value ≡ Some h.size
sizes_set [] table j h e once low = absurd (cc)
sizes_set (y ∷ hs) table zero h e once low =
    let same : y ≡ h = cc in
    sizes_kept hs (slice_set table y.value y.size) h.value
    (λ i x d q. absurd (let wrong : suc i ≡ 0 = once (suc i) x d q in omega (arith, wrong)))
    ∙ ap (λ (z : Holding). slice_get (slice_set table z.value z.size) h.value) same
    ∙ set_here table h.value h.size low
sizes_set (y ∷ hs) table (suc j) h e once low =
    let long : length (slice_set table y.value y.size) ≡ length table = set_length table y.value y.size in
    sizes_set hs (slice_set table y.value y.size) j h e
    (λ i x d q. let same : suc i ≡ suc j = once (suc i) x d q in omega (arith, same)) (omega (arith, long, low))

-- ---- the size of a slot

size_is : (flags : List Bool) (sizes : List ℕ) (n : ℕ) (is : List Instr) (s : EarlySlot)
    → IsListed s (slots_from flags sizes n is) → s.size ≡ unwrap_or (slice_get sizes s.slot) 0
size_is flags sizes n [] s l = absurd l
size_is flags sizes n (Instr.Alloca r ty align ∷ is) s l =
    on (flag_at flags r) (size_is flags sizes n is s) (size_is flags sizes (n + 2) is s) l
  where
    on : (b : Bool)
        → (IsListed s (slots_from flags sizes n is) → s.size ≡ unwrap_or (slice_get sizes s.slot) 0)
        → (IsListed s (slots_from flags sizes (n + 2) is) → s.size ≡ unwrap_or (slice_get sizes s.slot) 0)
        → IsListed s ((if b then early_slot sizes n r ty align ∷ [] else [])
        ++ slots_from flags sizes (if b then n + 2 else n) is) → s.size ≡ unwrap_or (slice_get sizes s.slot) 0
    on true same next (inl e) =
        ap (λ (y : EarlySlot). y.size) e
        ∙ ap (λ (v : ℕ). unwrap_or (slice_get sizes v) 0) (sym (ap (λ (y : EarlySlot). y.slot) e))
    on true same next (inr k) = next k
    on false same next k = same k
size_is flags sizes n (_ ∷ is) s l = size_is flags sizes n is s l

-- ---- a name that is flagged is in the table

flag_low : (flags : List Bool) (v : ℕ) → flag_at flags v ≡ true → v < length flags
flag_low [] v e = absurd (cc)
flag_low (b ∷ flags) zero e = omega arith
flag_low (b ∷ flags) (suc v) e = let lt = flag_low flags v e in omega (arith, lt)

flags_long : (class : SlotClass) (classes : List SlotClass) (k : ℕ) (slots : List ℕ) (flags : List Bool)
    → length (with_slots class classes k slots flags) ≡ length flags
flags_long class classes k [] flags = refl
flags_long class classes k (s ∷ slots) flags =
    flags_long class classes (k + 1) slots (if is_of class (slice_get classes k) then slice_set flags s true else flags)
    ∙ on (is_of class (slice_get classes k))
  where
    on : (b : Bool) → length (if b then slice_set flags s true else flags) ≡ length flags
    on true = set_length flags s true
    on false = refl

module _ (x : Framing) (once : AreHeldOnce x.contents.held) where
  abbrev table : List ℕ
  table = replicate (length x.function.names) 0

  low_name : (v : ℕ) → flag_at (class_flags x.function x.contents.classes SlotClass.Frame) v ≡ true
      → v < length table
  low_name v e =
      let lt = flag_low (class_flags x.function x.contents.classes SlotClass.Frame) v e in
      let long : length (class_flags x.function x.contents.classes SlotClass.Frame)
      ≡ length (replicate (length x.function.names) false) =
      flags_long SlotClass.Frame x.contents.classes 0 (allocas_of x.function)
      (replicate (length x.function.names) false) in
      let one : length (replicate (length x.function.names) false) ≡ length x.function.names =
      length-replicate (length x.function.names) false in
      let other : length table ≡ length x.function.names = length-replicate (length x.function.names) 0 in
      omega (arith, lt, long, one, other)

  one_sized : (s : EarlySlot) → IsListed s (copies x).slots → IsOfField x s
  one_sized s l n h there same =
      let low : h.value < length table =
      subst (λ (v : ℕ). v < length table) (sym same) (low_name s.slot (flagged_slot x s l)) in
      size_is (used x) (sizes_by_name x.function x.contents.held) (length (written x).names)
      (entry_instrs (written x).blocks) s l
      ∙ ap (λ (v : ℕ). unwrap_or (slice_get (sizes_by_name x.function x.contents.held) v) 0) (sym same)
      ∙ ap (λ (o : Option ℕ). unwrap_or o 0)
      (sizes_set x.contents.held table n h there (λ i y d q. once.each i n y h d there q) low)

  pub all_sized : Each (IsOfField x) (copies x).slots
  all_sized = each_listed (IsOfField x) (copies x).slots one_sized
