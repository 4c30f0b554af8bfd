-- A slot that is copied at begin is used before it, where a path leads to begin's block without begin.
use Rattle.std.proofs.Common.{◌≡◌, ◌⊎◌, ⊎_elim, inl, inr, ℕ, zero, suc, ◌+◌, ◌<◌, ◌≤◌, Bool, true, false, List, []}
use Rattle.std.proofs.Common.{◌∷◌, ◌++◌, length, Option, Some, None, refl, sym, ap, ◌∙◌, subst, arith}
use Rattle.std.proofs.lemmas.Bool.{false≢true}
use Rattle.std.specs.Prelude.{if◌then◌else◌, option_to_list, replicate, slice_get, ◌==◌}
use Rattle.compiler_theorem.proofs.apart.Unaccessed.{only, only_here}
use Rattle.compiler.specs.pass_proofs.flow_blocks.Reach.{Edge, IsReached, Start}
use Rattle.compiler.specs.flow_solver.Paths.{IsListed}
use Rattle.compiler.proofs.ir_laws.facts.Lists.{get_within}
use Rattle.compiler.specs.ir_model.declared.instr.Instr.{Instr}
use Rattle.compiler.specs.ir_model.declared.module.Block.{Block}
use Rattle.compiler.specs.ir_model.declared.module.Function.{Function}
use Rattle.compiler.specs.ir_model.declared.module.Module.{Module}
use Rattle.compiler.specs.ir_model.declared.operand.Operand.{Operand}
use Rattle.compiler.specs.ir_parts.Contents.{result_of}
use Rattle.compiler.specs.ir_paths.Windows.{instr_in}
use Rattle.compiler.specs.ir_paths.declared.point.Point.{Point}
use Rattle.compiler.specs.pass_copies.Slots.{early_slot, slots_from}
use Rattle.compiler.specs.pass_copies.Uses.{flag_at, used_before}
use Rattle.compiler.specs.pass_copies.declared.slot.EarlySlot.{EarlySlot}
use Rattle.compiler.specs.pass_frames.Framed.{AreBefore, begin_block, begin_from, has_begin, is_begin, starts_before}
use Rattle.compiler.specs.pass_frames.Tables.{label_flags}
use Rattle.compiler.proofs.pass_proofs.copies.begin_order.Marks.{IsAccessed, IsAccessedAt, blocks_back, none_flagged}
use Rattle.compiler.proofs.pass_proofs.frames.begin_order.Blocks.{IsBeginOf, begin_found, begin_listed, flagged_back}
use Rattle.compiler.specs.pass_proofs.frames.begin_order.Behind.{AreBehind, IsFrameBehind, MayBeAccessed}
use Rattle.compiler.proofs.rule_laws.rules.source_rules.Locals.{same_result}
use Rattle.compiler.proofs.rule_laws.rules.sources.Places.{point}
use Rattle.compiler.specs.rule_laws.rules.begin_order.Behind.{access_operands}
use Rattle.compiler.specs.rule_laws.rules.function_rules.Kept.{KeepsFunctionRules}
use Rattle.compiler.specs.rule_uses.Undefined.{Entry, Next, ReachesWithout, params_of}
use Rattle.compiler.specs.rule_uses.Uses.{made_by_instrs, phi_values, values_at, values_in}
use Rattle.compiler.specs.run_laws.changed.Changed.{Each}

-- ---- lists

of_each : {A : Type 0} (P : A → Type 0) (xs : List A) → Each P xs → (x : A) → IsListed x xs → P x
of_each P [] h x l = absurd l
of_each P (y ∷ xs) h x (inl e) = subst P (sym e) h.0
of_each P (y ∷ xs) h x (inr l) = of_each P xs h.1 x l

listed_at : {A : Type 0} (xs : List A) (x : A) → IsListed x xs → (n : ℕ) × (slice_get xs n ≡ Some x)
listed_at [] x l = absurd l
listed_at (y ∷ xs) x (inl e) = (0, ap Some (sym e))
listed_at (y ∷ xs) x (inr l) = let z = listed_at xs x l in (suc z.0, z.1)

-- a flagged slot
pub slot_flagged : (used : List Bool) (sizes : List ℕ) (n : ℕ) (is : List Instr) (s : EarlySlot)
    → IsListed s (slots_from used sizes n is) → flag_at used s.slot ≡ true
slot_flagged used sizes n [] s l = absurd l
slot_flagged used sizes n (Instr.Alloca r ty align ∷ is) s l =
    on (flag_at used r) refl (slot_flagged used sizes n is s) (slot_flagged used sizes (n + 2) is s) l
  where
    on : (b : Bool) → flag_at used r ≡ b → (IsListed s (slots_from used sizes n is) → flag_at used s.slot ≡ true)
        → (IsListed s (slots_from used sizes (n + 2) is) → flag_at used s.slot ≡ true)
        → IsListed s ((if b then early_slot sizes n r ty align ∷ [] else [])
        ++ slots_from used sizes (if b then n + 2 else n) is) → flag_at used s.slot ≡ true
    on true d same next (inl e) = ap (λ (z : EarlySlot). flag_at used z.slot) e ∙ d
    on true d same next (inr k) = next k
    on false d same next k = same k
slot_flagged used sizes n (_ ∷ is) s l = slot_flagged used sizes n is s l

-- what makes a value of a block
made_from : (v : ℕ) (before : List ℕ) (is : List Instr) → IsListed v (made_by_instrs before is)
    → IsListed v before ⊎ ((i : Instr) × (IsListed i is × (result_of i ≡ Some v)))
made_from v before [] l = inl l
made_from v before (i ∷ is) l =
    ⊎_elim (λ h. on (result_of i) refl h) (λ z. inr (z.0, (inr z.1.0, z.1.1)))
    (made_from v (option_to_list (result_of i) ++ before) is l)
  where
    on : (o : Option ℕ) → result_of i ≡ o → IsListed v (option_to_list o ++ before)
        → IsListed v before ⊎ ((j : Instr) × (IsListed j (i ∷ is) × (result_of j ≡ Some v)))
    on None d h = inl h
    on (Some u) d (inl e) = inr (i, (inl refl, d ∙ ap Some (sym e)))
    on (Some u) d (inr h) = inl h

begins_in : (is : List Instr) (i : Instr) → IsListed i is → is_begin i ≡ true → has_begin is ≡ true
begins_in [] i l e = absurd l
begins_in (j ∷ is) i l e = on (is_begin j) refl l (begins_in is i)
  where
    on : (b : Bool) → is_begin j ≡ b → IsListed i (j ∷ is) → (IsListed i is → is_begin i ≡ true → has_begin is ≡ true)
        → (if b then true else has_begin is) ≡ true
    on true d k rest = refl
    on false d (inl same) rest = absurd (false≢true (sym d ∙ ap is_begin (sym same) ∙ e))
    on false d (inr k) rest = rest k e

-- begin is found at or before its block
found_low : (k : ℕ) (bs : List Block) (n : ℕ) (b : Block) → slice_get bs n ≡ Some b → has_begin b.instrs ≡ true
    → begin_from k bs ≤ k + n
found_low k [] n b e h = absurd (cc)
found_low k (c ∷ bs) zero b e h =
    let same : c ≡ b = cc in
    let here : begin_from k (c ∷ bs) ≡ k =
    ap (λ (t : Bool). if t then k else begin_from (k + 1) bs) (ap (λ (z : Block). has_begin z.instrs) same ∙ h) in
    omega (arith, here)
found_low k (c ∷ bs) (suc n) b e h = on (has_begin c.instrs) (found_low (k + 1) bs n b e h)
  where
    on : (t : Bool) → begin_from (k + 1) bs ≤ k + 1 + n → (if t then k else begin_from (k + 1) bs) ≤ k + suc n
    on true low = omega arith
    on false low = omega (arith, low)

-- ---- a function in which begin's value is made by begin alone

module _ (m : Module) (k : ℕ) (g : Function) (rules : KeepsFunctionRules m k g) (begin v : ℕ)
    (all : IsFrameBehind g begin [] (only v) [])
    (no_phi : (at : ℕ) (b : Block) → slice_get g.blocks at ≡ Some b → IsListed begin (phi_values b) → ⊥)
    (no_param : IsListed begin (params_of g) → ⊥) where
  abbrev bb : ℕ
  bb = begin_block g

  -- a block that makes it is begin's
  one_block : (n p : ℕ) (b c : Block) (i j : Instr) → slice_get g.blocks n ≡ Some b → slice_get g.blocks p ≡ Some c
      → IsListed i b.instrs → IsListed j c.instrs → result_of i ≡ Some begin → result_of j ≡ Some begin → n ≡ p
  one_block n p b c i j eb ec li lj ri rj =
      let y = listed_at b.instrs i li in
      let z = listed_at c.instrs j lj in
      ap (λ (q : Point). q.block) (same_result k g rules.definitions (point n y.0) (point p z.0) i j begin
      (ap (λ (o : Option Block). instr_in o y.0) eb ∙ y.1) (ap (λ (o : Option Block). instr_in o z.0) ec ∙ z.1) ri rj)

  makes_begin : (n : ℕ) (b : Block) (i : Instr) → slice_get g.blocks n ≡ Some b → IsListed i b.instrs
      → result_of i ≡ Some begin → n ≡ bb
  makes_begin n b i eb li ri = ⊎_elim
      (λ (far : begin_from 0 g.blocks ≡ 0 + length g.blocks).
      let low : begin_from 0 g.blocks ≤ 0 + n = found_low 0 g.blocks n b eb
      (begins_in b.instrs i li (all.alone n b i eb li ri)) in
      let inside : n < length g.blocks = get_within g.blocks n b eb in
      absurd (omega (arith, far, low, inside)))
      (λ (z : IsBeginOf 0 g.blocks).
      let y = begin_listed z.block.instrs z.begins in
      let same : n ≡ z.at = one_block n z.at b z.block i y.0 eb z.there li y.1.0 ri
      (all.named z.at z.block y.0 z.there y.1.0 y.1.1) in
      let found : begin_from 0 g.blocks ≡ 0 + z.at = z.found in
      omega (arith, same, found))
      (begin_found 0 g.blocks)

  pub made_in : (n : ℕ) → IsListed begin (values_at g n) → n ≡ bb
  made_in n = on (slice_get g.blocks n) refl
    where
      on : (o : Option Block) → slice_get g.blocks n ≡ o → IsListed begin (values_in o) → n ≡ bb
      on None e l = absurd l
      on (Some b) e l = ⊎_elim (λ h. absurd (no_phi n b e h))
          (λ z. makes_begin n b z.0 e z.1.0 z.1.1) (made_from begin (phi_values b) b.instrs l)

  -- ---- blocks before begin's

  start_is : (n p : ℕ) → IsListed n (starts_before p) → (n ≡ 0) × (n ≡ p → ⊥)
  start_is n p = on (p == 0) refl
    where
      on : (t : Bool) → (p == 0) ≡ t → IsListed {X = ℕ} n (if t then [] else 0 ∷ []) → (n ≡ 0) × (n ≡ p → ⊥)
      on true d l = absurd l
      on false d (inl e) = (e, λ same. false≢true (sym d ∙ ap (λ (q : ℕ). q == 0) (sym same ∙ e)))
      on false d (inr l) = absurd l

  elsewhere : (n : ℕ) → IsReached g (starts_before bb) (bb ∷ []) n → n ≡ bb → ⊥
  elsewhere _ (Start n l) same = (start_is n bb l).1 same
  elsewhere _ (Edge from to r e apart) same = apart (inl same)

  without : (n : ℕ) → IsReached g (starts_before bb) (bb ∷ []) n → ReachesWithout g begin n
  without _ (Start n l) = subst (ReachesWithout g begin) (sym (start_is n bb l).0) Entry
  without _ (Edge from to r e apart) =
      Next from to (without from r) (λ l. elsewhere from r (made_in from l)) e

  -- ---- an access in front of begin

  go : (at : ℕ) (b : Block) → slice_get g.blocks at ≡ Some b → ReachesWithout g begin at → (before : List ℕ)
      (is : List Instr) → ((i : Instr) → IsListed i is → IsListed i b.instrs) → AreBehind g begin [] (only v) at
      before is
      → IsAccessed v is → (IsListed begin before → ⊥) → ⊥
  go at b e path before [] inside h l unmade = absurd l
  go at b e path before (i ∷ is) inside h (inl l) unmade =
      ⊎_elim (λ slot. false≢true slot.flagged) (λ there. there path unmade no_param)
      (of_each (MayBeAccessed g begin [] (only v) at before) (access_operands i) h.1.0 (Operand.Local v) l
      (only_here v))
  go at b e path before (i ∷ is) inside h (inr l) unmade =
      go at b e path (option_to_list (result_of i) ++ before) is (λ j k2. inside j (inr k2)) h.1.1 l.1
      (on (result_of i) refl)
    where
      on : (o : Option ℕ) → result_of i ≡ o → IsListed begin (option_to_list o ++ before) → ⊥
      on None d k2 = unmade k2
      on (Some u) d (inl same) =
          let no : true ≡ false = sym (all.alone at b i e (inside i (inl refl)) (d ∙ ap Some (sym same))) ∙ l.0 in
          absurd (cc)
      on (Some u) d (inr k2) = unmade k2

  -- ---- the slots that are copied

  module _ (before : List ℕ) (are : AreBefore g before) (reached : ReachesWithout g begin (begin_block g))
      (slots : List Bool) where
    pub never_accessed : flag_at (used_before g slots (label_flags g (begin_block g ∷ before))) v ≡ true → ⊥
    never_accessed flagged = ⊎_elim
        (λ h. false≢true (sym (none_flagged (length g.names) v) ∙ h))
        (λ (z : IsAccessedAt slots (label_flags g (begin_block g ∷ before)) g.blocks v).
        go z.at z.block z.there
        (by z.at (flagged_back m k g rules (begin_block g ∷ before) z.at z.block z.there z.flagged)) (phi_values
        z.block)
        z.block.instrs (λ i l. l) (all.blocks z.at z.block z.there).instrs z.accessed (no_phi z.at z.block z.there))
        (blocks_back slots (label_flags g (begin_block g ∷ before)) (replicate (length g.names) false) g.blocks v
        flagged)
      where
        by : (at : ℕ) → IsListed at (begin_block g ∷ before) → ReachesWithout g begin at
        by at (inl e) = subst (ReachesWithout g begin) (sym e) reached
        by at (inr l) = without at (are.is_reached at l)
