-- Once slots are copied at begin, what lies in the frame is used behind begin.
use Rattle.std.proofs.Common.{◌≡◌, ◌⊎◌, inl, inr, ⊎_elim, ℕ, ◌<◌, ◌≤◌, Bool, true, false, List, [], ◌∷◌, ◌++◌, length, refl, sym, ap, ◌∙◌, subst, arith, append_assoc}
use Rattle.std.specs.Prelude.{None, Option, Some, is_some, map, option_to_list, replicate, slice_get, ◌&&◌, if◌then◌else◌}
use Rattle.pass_exits_proof.proofs.addresses.rules.Unmarked.{left_woven, markers_woven, stays_all}
use Rattle.pass_exits_proof.specs.addresses.rules.Addresses.{AddressesFit, HasBegin, left_over, lies_in_frame, turning_weaving}
use Rattle.pass_copies.specs.BeginCopies.{after_instr, begin_copies, behind, block_front, copied_block, copied_instrs, copy, copying_of, entry_front, first_fetched, is_fetched, put, puts, slot_allocas, with_begin_copies}
use Rattle.pass_copies.specs.Slots.{entry_instrs, fetches_of, resumed_at}
use Rattle.pass_copies.specs.Uses.{flag_at, is_access, is_begin, still_before, used_before}
use Rattle.pass_copies.specs.declared.copying.Copying.{Copying}
use Rattle.pass_copies.specs.declared.slot.EarlySlot.{EarlySlot}
use Rattle.pass_proofs.proofs.frames.begin_order.Blocks.{before_told, flagged_here, same_begin}
use Rattle.pass_exits_proof.proofs.ir_laws.facts.Lists.{flags_length}
use Rattle.pass_exits_proof.proofs.copies.begin_order.Early.{IsLoaded, all_loaded, leads_again, slot_fetched, slot_listed}
use Rattle.pass_exits_proof.proofs.addresses.begin_order.Early.{in_frame}
use Rattle.pass_exits_proof.proofs.addresses.begin_order.Lists.{AllLeft, IsLeft, IsMore, all_uses, block_has, each_left_well}
use Rattle.pass_exits_proof.proofs.copies.begin_order.Marks.{IsAccessed, blocks_here}
use Rattle.pass_exits_proof.proofs.addresses.begin_order.Passing.{Passes, operands_still, passes_both, phis_still, there_still, woven_passes}
use Rattle.pass_proofs.proofs.frames.begin_order.Turned.{access_stays, access_turned, gone_no_begin, left_operands, no_access}
use Rattle.pass_exits_proof.proofs.fetch.rules.Times.{with_result as same_fetched}
use Rattle.pass_proofs.specs.frames.begin_order.Behind.{AreBehind, IsBlockBehind, IsFrameBehind, MayBeAccessed, before_begin}
use Rattle.pass_exits_proof.specs.addresses.begin_order.Behind.{IsBehind, IsIncomingBehind}
use Rattle.pass_exits_proof.specs.rule_laws.rules.begin_order.Behind.{access_operands, other_operands}
use Rattle.pass_exits_proof.proofs.copies.rules.KeptCopies.{with_copies_keeps, with_copies_woven}
use Rattle.pass_exits_proof.proofs.copies.rules.Slots.{AreNumbered, Cell, IsFrontOf, Temporary, cell_named, front_allocas, front_range, numbered, one_of, temporary_named}
use Rattle.pass_exits_proof.specs.copies.rules.Copies.{CopiesFit, copied_slots, copy_weaving}
use Rattle.pass_exits_proof.specs.rule_uses.Uses.{block_uses, block_values, phi_values, uses_of, values_in}
use Rattle.pass_exits_proof.proofs.ir_laws.paths.source_rules.Locals.{listed_either, listed_left, listed_right}
use Rattle.pass_exits_proof.proofs.rule_laws.rules.source_rules.Locals.{made_by}
use Rattle.pass_exits_proof.proofs.fetch.rules.Puts.{fetch_rises}
use Rattle.pass_exits_proof.specs.flow_solver.Paths.{IsListed}
use Rattle.pass_addresses.specs.Placing.{is_flagged, stays, without_markers}
use Rattle.pass_exits_proof.specs.ir_parts.Contents.{ending_operands, instr_operands, result_of}
use Rattle.pass_exits_proof.specs.rule_laws.rules.function_rules.Kept.{KeepsFunctionRules}
use Rattle.ir_model.specs.declared.instr.Instr.{Instr}
use Rattle.ir_model.specs.declared.module.Block.{Block}
use Rattle.ir_model.specs.declared.module.Function.{Function}
use Rattle.ir_model.specs.declared.module.Module.{Module}
use Rattle.ir_model.specs.declared.operand.Operand.{Operand}
use Rattle.pass_frames.specs.Framed.{AreBefore, begin_block}
use Rattle.pass_exits_proof.specs.run_laws.changed.Changed.{Each}
use Rattle.pass_exits_proof.specs.pass_fetch.Fetching.{fetch_of, fetches_of_all}
use Rattle.pass_exits_proof.specs.pass_fetch.Instrs.{fetched_instr, next_after_instr, with_fetched}
use Rattle.pass_exits_proof.specs.pass_fetch.declared.fetch.Fetch.{Fetch}
use Rattle.pass_exits_proof.specs.rule_values.Kinds.{value_kind}
use Rattle.pass_exits_proof.specs.rule_values.declared.kinds.Kind.{Kind}
use Rattle.pass_exits_proof.proofs.rule_laws.rules.woven_rules.All.{rules_woven}
use Rattle.pass_exits_proof.proofs.rule_laws.rules.woven_rules.Edges.{incoming_woven}
use Rattle.pass_exits_proof.proofs.rule_laws.rules.woven_rules.Laid.{valued_old}
use Rattle.pass_exits_proof.proofs.rule_laws.rules.woven_rules.Once.{names_below}
use Rattle.pass_exits_proof.proofs.ir_laws.paths.woven_rules.Unbroken.{each_listed, of_listed}
use Rattle.pass_exits_proof.proofs.rule_laws.rules.woven_rules.ValueKinds.{is_result, listed_result, made_grows, old_kind}
use Rattle.pass_exits_proof.specs.rule_laws.rules.woven_rules.Blocks.{IsWoven}
use Rattle.pass_exits_proof.specs.rule_laws.rules.woven_rules.Pairs.{AreIncomingOnce}
use Rattle.pass_exits_proof.specs.rule_laws.rules.woven_rules.Weaving.{IsThere}
use Rattle.pass_proofs.proofs.frames.begin_order.CopiedBlocks.{IsCopyOf, copy_there, left_block, with_copies}
use Rattle.pass_exits_proof.proofs.copies.rules.Copied.{copies_are as copied_are}

module _ (m : Module) (k : ℕ) (f : Function) (begin : ℕ) (slots : List Bool) (before : List ℕ) (sizes : List ℕ) (offsets : List (Option ℕ)) (marked : List Bool) (keeps : KeepsFunctionRules m k f) (once : AreIncomingOnce f) (are : AreBefore f before) (fit : CopiesFit f (copied_slots f slots (before_begin f before) sizes)) (all : IsFrameBehind f begin slots offsets marked) where
  abbrev Early : List Bool
  Early = before_begin f before

  abbrev Used : List Bool
  Used = used_before f slots Early

  abbrev SS : List EarlySlot
  SS = copied_slots f slots Early sizes

  abbrev C : Copying
  C = copying_of f SS

  abbrev T : List (Option Fetch)
  T = fetches_of f SS

  abbrev First : ℕ
  First = length f.names

  abbrev G : Function
  G = with_begin_copies f slots Early sizes

  abbrev N : Function
  N = without_markers marked G

  abbrev H : Function
  H = left_over marked G

  -- ---- the passes

  woven_g : IsWoven (copy_weaving f Early SS) m f G
  woven_g = with_copies_woven m k f slots Early sizes keeps fit

  g_keeps : KeepsFunctionRules m k G
  g_keeps = with_copies_keeps m k f slots Early sizes keeps once fit

  g_once : AreIncomingOnce G
  g_once = incoming_woven (copy_weaving f Early SS) m f G woven_g once

  woven_n : IsWoven (turning_weaving G stays_all) m G N
  woven_n = markers_woven m k G marked g_keeps

  n_keeps : KeepsFunctionRules m k N
  n_keeps = rules_woven (turning_weaving G stays_all) m k G N woven_n g_keeps g_once

  n_once : AreIncomingOnce N
  n_once = incoming_woven (turning_weaving G stays_all) m G N woven_n g_once

  passes : Passes f H begin
  passes =
      passes_both f G H begin (woven_passes (copy_weaving f Early SS) m k f G begin woven_g keeps once refl)
      (passes_both G N H begin (woven_passes (turning_weaving G stays_all) m k G N begin woven_n g_keeps g_once refl)
      (woven_passes (turning_weaving N stays_all) m k N H begin (left_woven m k G marked g_keeps g_once) n_keeps n_once refl))

  valued_low : (v : ℕ) (kind : Kind) → value_kind f v ≡ Some kind → v < First
  valued_low v kind e = valued_old (copy_weaving f Early SS) m f G woven_g (names_below k f keeps.tabled) v (ap (λ (o : Option Kind). is_some o) e)

  frame_low : (v : ℕ) → lies_in_frame offsets v ≡ true → v < First
  frame_low v e = let x = in_frame offsets v e in valued_low v Kind.Ptr (all.pointers v x.0 x.1)

  same_kind : (v : ℕ) (kind : Kind) → value_kind f v ≡ Some kind → value_kind G v ≡ Some kind
  same_kind v kind e = old_kind (copy_weaving f Early SS) m f G v (valued_low v kind e) refl woven_g ∙ e

  -- ---- one block

  module _ (at : ℕ) (b : Block) (there : slice_get f.blocks at ≡ Some b) where
    abbrev P : List ℕ → Operand → Type 0
    P made = IsBehind H begin offsets at made

    abbrev Left : List ℕ → Instr → Type 0
    Left = IsLeft H begin offsets at marked

    abbrev All : List ℕ → List Instr → Type 0
    All = AllLeft H begin offsets at marked

    abbrev More : List ℕ → List ℕ → Type 0
    More = IsMore H begin offsets at

    own : IsBlockBehind f begin slots offsets at b
    own = all.blocks at b there

    new_behind : (made : List ℕ) (n : ℕ) → First ≤ n → P made (Operand.Local n)
    new_behind made n low e = let high : n < First = frame_low n e in absurd (omega (arith, low, high))

    numbers_new : AreNumbered First SS
    numbers_new = numbered Used sizes First (entry_instrs f.blocks)

    cell_behind : (made : List ℕ) (s : EarlySlot) → IsListed s SS → P made (Operand.Local s.cell)
    cell_behind made s l = new_behind made s.cell (front_range First s.cell SS numbers_new (cell_named SS s l)).0

    temporary_behind : (made : List ℕ) (s : EarlySlot) → IsListed s SS → P made (Operand.Local s.temporary)
    temporary_behind made s l = new_behind made s.temporary (front_range First s.temporary SS numbers_new (temporary_named SS s l)).0

    -- what is put in

    alloca_left : (made : List ℕ) (j : Instr) → IsFrontOf SS j → Left made j
    alloca_left made _ (Temporary s l) = record { kept = λ e. tt; gone = λ e. absurd (cc) }
    alloca_left made _ (Cell s l) = record { kept = λ e. tt; gone = λ e. absurd (cc) }

    put_left : (made : List ℕ) (v : ℕ) (s : EarlySlot) → IsListed s SS → P made (Operand.Local v) → Left made (put v s.cell)
    put_left made v s l h = record { kept = λ e. (h, (cell_behind made s l, tt)); gone = λ e l. l }

    copy_left : (made : List ℕ) (s : EarlySlot) → IsListed s SS → P made (Operand.Local s.slot) → Left made (copy s)
    copy_left made s l h = record { kept = λ e. (h, (temporary_behind made s l, (tt, (tt, tt)))); gone = λ e l. l }

    load_left : (made : List ℕ) (j : Instr) → IsLoaded SS j → Left made j
    load_left made j x = subst (Left made) (sym x.same) (record { kept = λ e. (cell_behind made x.slot x.listed, tt); gone = λ e. absurd (cc) })

    front_left : (front : List Instr) (made : List ℕ) (j : Instr) → (front ≡ []) ⊎ (front ≡ entry_front SS) → IsListed j front → Left made j
    front_left front made j (inl e) l = absurd (subst (IsListed j) e l)
    front_left front made j (inr e) l =
        ⊎_elim (λ a. alloca_left made j (front_allocas SS j a))
        (λ p. let x = one_of (λ (s : EarlySlot). put s.temporary s.cell) SS j p in subst (Left made) (sym x.1.1) (put_left made x.0.temporary x.0 x.1.0 (temporary_behind made x.0 x.1.0)))
        (listed_either j (slot_allocas SS) (map (λ (s : EarlySlot). put s.temporary s.cell) SS) (subst (IsListed j) e l))

    resumed_left : (made : List ℕ) (j : Instr) → IsListed j (block_front C b.label) → Left made j
    resumed_left made j l = on (flag_at (resumed_at f) b.label) refl l
      where
        on : (c : Bool) → flag_at (resumed_at f) b.label ≡ c → IsListed j (if c then puts SS else []) → Left made j
        on true d h = let x = one_of (λ (s : EarlySlot). put s.slot s.cell) SS j h in subst (Left made) (sym x.1.1) (put_left made x.0.slot x.0 x.1.0 (λ e r none no_param. absurd (all.again at b there (leads_again f b.label d) (passes.path at r))))
        on false d h = absurd h

    -- instructions of the function

    flagged_behind : (made : List ℕ) (x : Operand) → is_flagged marked x ≡ true → P made x
    flagged_behind made (Operand.Local v) e = λ d. let t : true ≡ false = sym d ∙ all.unmarked v e in absurd (cc)
    flagged_behind made _ e = absurd (cc)

    gone_otherwise : (i : Instr) → IsListed i b.instrs → stays marked i ≡ false → IsListed begin (made_by i) → ⊥
    gone_otherwise i l e made = gone_no_begin marked i e (same_begin i ∙ all.alone at b i there l (listed_result (result_of i) begin made))

    -- where the instruction is behind begin or accesses nothing, nothing is fetched
    accesses_behind : (seen made : List ℕ) (i : Instr) → (IsListed begin seen → IsListed begin made) → (is_before : Bool) → is_fetched is_before i ≡ false → (is_before ≡ false → IsThere f at seen begin) → Each (P made) (access_operands i)
    accesses_behind seen made i up true e region = subst (Each (P made)) (sym (no_access i e)) tt
    accesses_behind seen made i up false e region = each_listed (P made) (access_operands i) (λ x l. of_one x)
      where
        of_one : (x : Operand) → P made x
        of_one (Operand.Local v) = λ d. there_still f H begin offsets passes at seen made up (region refl)
        of_one _ = tt

    others_behind : (seen made : List ℕ) (i : Instr) → (IsListed begin seen → IsListed begin made) → Each (IsBehind f begin offsets at seen) (other_operands i) → Each (P made) (other_operands i)
    others_behind seen made i up h = operands_still f H begin offsets passes at seen made up (other_operands i) h

    plain_left : (seen made : List ℕ) (i : Instr) → IsListed i b.instrs → (IsListed begin seen → IsListed begin made) → Each (IsBehind f begin offsets at seen) (other_operands i) → Each (P made) (access_operands i) → Left made i
    plain_left seen made i l up h k = record { kept = λ e. left_operands (P made) tt marked (flagged_behind made) i e (others_behind seen made i up h) k; gone = gone_otherwise i l }

    -- an access before begin

    -- what instructions in front of begin access is marked
    abbrev AreMarked : List Instr → Type 0
    AreMarked is = (v : ℕ) → IsAccessed v is → flag_at slots v ≡ true → v < First → flag_at Used v ≡ true

    unfetched_behind : (seen made : List ℕ) (i : Instr) (is : List Instr) → (IsListed begin seen → IsListed begin made) → AreMarked (i ∷ is) → (x : Operand) → IsListed x (access_operands i) → MayBeAccessed f begin slots offsets at seen x → fetch_of T x ≡ None → P made x
    unfetched_behind seen made i is up marks (Operand.Local v) l may none =
        λ d. ⊎_elim
        (λ s. absurd (slot_fetched f SS v (slot_listed Used sizes First (entry_instrs f.blocks) v (marks v (inl l) s.flagged (frame_low v d)) s.alloca) (frame_low v d) none))
        (λ t. there_still f H begin offsets passes at seen made up t)
        (may d)
    unfetched_behind seen made i is up marks _ l may none = tt

    access_left : (seen made : List ℕ) (n : ℕ) (i : Instr) (is : List Instr) → is_access i ≡ true → First ≤ n → (IsListed begin seen → IsListed begin made) → AreMarked (i ∷ is) → Each (IsBehind f begin offsets at seen) (other_operands i) → Each (MayBeAccessed f begin slots offsets at seen) (access_operands i) → Left made (with_fetched T n i)
    access_left seen made n i is e low up marks h may =
        record {
          kept = λ d.
              access_turned (P made) T First (new_behind made) n i e low (others_behind seen made i up h)
              (each_listed (λ (x : Operand). fetch_of T x ≡ None → P made x) (access_operands i) (λ x l. unfetched_behind seen made i is up marks x l (of_listed (MayBeAccessed f begin slots offsets at seen) (access_operands i) may x l)));
          gone = λ d. let t : true ≡ false = sym (access_stays T n marked i e) ∙ d in absurd (cc);
        }

    -- what may stand behind an instruction, once more is made
    abbrev Goes : List ℕ → List Instr → Type 0
    Goes now tail = (later : List ℕ) → (IsListed begin now → IsListed begin later) → All later tail

    instr_left : (seen made : List ℕ) (is_before : Bool) (n : ℕ) (i : Instr) (is tail : List Instr) → IsListed i b.instrs → First ≤ n → (IsListed begin seen → IsListed begin made) → (is_before ≡ false → IsThere f at seen begin) → (is_before ≡ true → AreMarked (i ∷ is)) → Each (IsBehind f begin offsets at seen) (other_operands i) → Each (MayBeAccessed f begin slots offsets at seen) (access_operands i) → Goes (made_by i ++ seen) tail → All made ((if is_fetched is_before i then fetched_instr T n i else i ∷ []) ++ tail)
    instr_left seen made is_before n i is tail l low up region marks h may rest = on (is_fetched is_before i) refl
      where
        before_of : (c : Bool) → (c && is_access i) ≡ true → (c ≡ true) × (is_access i ≡ true)
        before_of true e = (refl, e)
        before_of false e = absurd (cc)

        on : (c : Bool) → is_fetched is_before i ≡ c → All made ((if c then fetched_instr T n i else i ∷ []) ++ tail)
        on true e =
            let x = before_of is_before e in
            let fs : List Instr = fetches_of_all T n (instr_operands i) in
            let j : Instr = with_fetched T n i in
            subst (All made) (sym (append_assoc fs (j ∷ []) tail))
            (each_left_well H begin offsets at marked made fs (j ∷ tail) (λ y k later more. load_left later y (all_loaded f SS n (instr_operands i) y k))
            (λ later same.
            let grown : IsListed begin seen → IsListed begin later = λ s. subst (IsListed begin) (sym same) (made_grows fs made begin (up s)) in (
              access_left seen later n i is x.1 low grown (marks x.0) h may,
              rest (made_by j ++ later)
                  (λ s. ⊎_elim
                  (λ a. listed_left begin (made_by j) later (subst (λ (o : Option ℕ). IsListed begin (option_to_list o)) (sym (same_fetched T n i)) a)) (λ c. listed_right begin (made_by j) later (grown c))
                  (listed_either begin (made_by i) seen s)),
            )))
        on false e =
            (plain_left seen made i l up h (accesses_behind seen made i up is_before e region), rest (made_by i ++ made) (λ s. ⊎_elim (λ a. listed_left begin (made_by i) made a) (λ c. listed_right begin (made_by i) made (up c)) (listed_either begin (made_by i) seen s)))

    begin_listed : (i : Instr) → IsListed i b.instrs → is_begin i ≡ true → IsListed begin (made_by i)
    begin_listed i l e = is_result (result_of i) begin (all.named at b i there l (sym (same_begin i) ∙ e))

    behind_left : (now made : List ℕ) (i : Instr) (tail : List Instr) → (is_begin i ≡ true → IsListed begin now) → (IsListed begin now → IsListed begin made) → Goes now tail → All made (behind C i ++ tail)
    behind_left now made i tail begun up rest = on (is_begin i) refl
      where
        on : (c : Bool) → is_begin i ≡ c → All made ((if c then begin_copies SS else []) ++ tail)
        on false e = rest made up
        on true e =
            each_left_well H begin offsets at marked made (begin_copies SS) tail
            (λ j l later more.
            let x = copied_are SS j l in
            let slot : P later (Operand.Local x.0.slot) = λ d r none no_param. none (more (up (begun e))) in
            ⊎_elim (λ d. subst (Left later) (sym d) (copy_left later x.0 x.1.0 slot)) (λ d. subst (Left later) (sym d) (put_left later x.0.slot x.0 x.1.0 slot)) x.1.1)
            (λ later same. rest later (λ s. subst (IsListed begin) (sym same) (made_grows (begin_copies SS) made begin (up s))))

    still_region : (seen : List ℕ) (is_before : Bool) (i : Instr) → IsListed i b.instrs → (is_before ≡ false → IsThere f at seen begin) → still_before is_before i ≡ false → IsThere f at (made_by i ++ seen) begin
    still_region seen is_before i l region = on (is_begin i) refl
      where
        on : (c : Bool) → is_begin i ≡ c → (if c then false else is_before) ≡ false → IsThere f at (made_by i ++ seen) begin
        on true e d r none no_param = none (listed_left begin (made_by i) seen (begin_listed i l e))
        on false e d r none no_param = region d r (λ s. none (listed_right begin (made_by i) seen s)) no_param

    still_marked : (is_before : Bool) (i : Instr) (is : List Instr) → (is_before ≡ true → AreMarked (i ∷ is)) → still_before is_before i ≡ true → AreMarked is
    still_marked is_before i is marks = on (is_begin i) refl
      where
        on : (c : Bool) → is_begin i ≡ c → (if c then false else is_before) ≡ true → AreMarked is
        on true e d = absurd (cc)
        on false e d = λ v a. marks d v (inr (e, a))

    low_still : (is_before : Bool) (n : ℕ) (i : Instr) → First ≤ n → First ≤ after_instr C is_before n i
    low_still is_before n i low = on (is_fetched is_before i)
      where
        on : (c : Bool) → First ≤ (if c then next_after_instr T n i else n)
        on true = let up : n ≤ next_after_instr T n i = fetch_rises T n (instr_operands i) in omega (arith, low, up)
        on false = low

    instrs_left : (is_before : Bool) (n : ℕ) (seen made : List ℕ) (is : List Instr) → ((i : Instr) → IsListed i is → IsListed i b.instrs) → First ≤ n → (IsListed begin seen → IsListed begin made) → (is_before ≡ false → IsThere f at seen begin) → (is_before ≡ true → AreMarked is) → AreBehind f begin slots offsets at seen is → All made (copied_instrs C is_before n is)
    instrs_left is_before n seen made [] inside low up region marks h = tt
    instrs_left is_before n seen made (i ∷ is) inside low up region marks h =
        let now : List ℕ = made_by i ++ seen in
        let later : Bool = still_before is_before i in
        let next : ℕ = after_instr C is_before n i in
        let one : List Instr = if is_fetched is_before i then fetched_instr T n i else i ∷ [] in
        let rest : List Instr = copied_instrs C later next is in
        let l : IsListed i b.instrs = inside i (inl refl) in
        let goes : Goes now rest = λ last more. instrs_left later next now last is (λ j m. inside j (inr m)) (low_still is_before n i low) more (still_region seen is_before i l region) (still_marked is_before i is marks) h.1.1 in
        subst (All made) (sym (append_assoc one (behind C i) rest))
        (instr_left seen made is_before n i is (behind C i ++ rest) l low up region marks h.0 h.1.0
        (λ last more. behind_left now last i rest (λ e. listed_left begin (made_by i) seen (begin_listed i l e)) more goes))

    -- the block

    replicated : (n : ℕ) → length (replicate n false) ≡ n
    replicated n = flags_length n

    block_region : flag_at Early b.label ≡ false → IsThere f at (phi_values b) begin
    block_region e r none no_param =
        let t : true ≡ false = sym (flagged_here m k f keeps (begin_block f ∷ before) at b (before_told f begin all.named before are at b there r) there) ∙ e in
        absurd (cc)

    block_marked : flag_at Early b.label ≡ true → AreMarked b.instrs
    block_marked e v a flagged low = blocks_here slots Early (replicate First false) f.blocks at b v there e a flagged (let same = replicated First in omega (arith, same, low))

    copies_left : (front : List Instr) (n : ℕ) → (front ≡ []) ⊎ (front ≡ entry_front SS) → First ≤ n → All (phi_values b) (with_copies C Early marked front n b)
    copies_left front n fronts low =
        let resumed : List Instr = block_front C b.label in
        let is : List Instr = copied_instrs C (flag_at Early b.label) n b.instrs in
        subst (All (phi_values b)) (sym (append_assoc front resumed is))
        (each_left_well H begin offsets at marked (phi_values b) front (resumed ++ is) (λ j l later more. front_left front later j fronts l)
        (λ made same. each_left_well H begin offsets at marked made resumed is (λ j l later more. resumed_left later j l)
        (λ now other. instrs_left (flag_at Early b.label) n (phi_values b) now b.instrs (λ i l. l) low
        (λ s. subst (IsListed begin) (sym other) (made_grows resumed made begin (subst (IsListed begin) (sym same) (made_grows front (phi_values b) begin s))))
        block_region block_marked own.instrs)))

    block_left : (d : Block) → slice_get H.blocks at ≡ Some d → IsCopyOf C Early marked First f.blocks at d → Each (HasBegin H begin offsets) (block_uses H k at d)
    block_left d found x =
        let both : Some x.block ≡ Some b = sym x.there ∙ there in
        let same : x.block ≡ b = cc in
        let is_copy : d ≡ left_block C Early marked (copied_block C Early x.front x.next b) = x.same ∙ ap (λ (c : Block). left_block C Early marked (copied_block C Early x.front x.next c)) same in
        let more : IsListed begin (block_values b) → IsListed begin (block_values d) =
        λ l. subst (λ (o : Option Block). IsListed begin (values_in o)) found (passes.made at (subst (λ (o : Option Block). IsListed begin (values_in o)) (sym there) l)) in
        block_has H begin offsets k at marked d (with_copies C Early marked x.front x.next b) (ap (λ (c : Block). c.instrs) is_copy)
        (record {
          phis = subst (λ (c : Block). Each (λ p. Each (IsIncomingBehind H begin offsets) p.incoming) c.phis) (sym is_copy) (phis_still f H begin offsets passes b.phis own.phis);
          instrs = subst (λ (c : Block). All (phi_values c) (with_copies C Early marked x.front x.next b)) (sym is_copy) (copies_left x.front x.next x.fronts x.low);
          term = subst (λ (c : Block). Each (IsBehind H begin offsets at (block_values d)) (ending_operands c.term)) (sym is_copy) (operands_still f H begin offsets passes at (block_values b) (block_values d) more (ending_operands b.term) own.term);
        })

  -- ---- all of it

  behind_begin : Each (HasBegin H begin offsets) (uses_of k H)
  behind_begin =
      all_uses (HasBegin H begin offsets) H k
      (λ at d e.
      let x : IsCopyOf C Early marked First f.blocks at d = copy_there C Early marked First (entry_front SS) (first_fetched f C) f.blocks at d (inr refl) (omega arith) e in
      block_left at x.block x.there d e x)

  pub addresses_fit : length offsets ≤ length G.names → AddressesFit k G begin offsets marked
  addresses_fit sized =
      record {
        sized = sized;
        pointer = same_kind begin Kind.Ptr all.pointer;
        outside = all.outside;
        slots = λ v d e. same_kind v Kind.Ptr (all.pointers v d e);
        near = all.near;
        unmarked = all.unmarked;
        behind = behind_begin;
      }
