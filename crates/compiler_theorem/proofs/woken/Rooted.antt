-- The table of roots tells of which kept values distances are kept: of addresses of slots that are made anew.
use Rattle.std.proofs.Common.{◌≡◌, ⊎_elim, ℕ, zero, suc, ◌+◌, ◌<◌, ◌≤◌, ◌^◌, Bool, true, false, List, [], Option, Some, None, length, replicate, refl, sym, ap, ◌∙◌, subst, arith}
use Rattle.std.specs.Prelude.{if◌then◌else◌, slice_get, unwrap_or}
use Rattle.compiler_theorem.proofs.theorem.Needed.{named_in, some_class, stands_at}
use Rattle.compiler_theorem.proofs.theorem.Built.{sources_built}
use Rattle.compiler_theorem.proofs.theorem.shown.Contents.{class_once}
use Rattle.compiler_theorem.proofs.woken.Doubling.{Path, by_long, mapped_entry, root_ends, root_leads}
use Rattle.compiler_theorem.proofs.woken.FewNames.{names_few, path_short}
use Rattle.compiler_theorem.proofs.woken.Handed.{framing, now_listed, of_class, own, rules_own, same_edged}
use Rattle.compiler_theorem.proofs.woken.Marks.{value_cell}
use Rattle.compiler_theorem.proofs.woken.Paths.{unbased, way_back}
use Rattle.compiler_theorem.specs.theorem.Anew.{Anew, IsAnewOf, IsSlotOf}
use Rattle.compiler_theorem.specs.theorem.Built.{building}
use Rattle.compiler_theorem.specs.theorem.Entries.{Run}
use Rattle.compiler_theorem.specs.theorem.Lowered.{IsLowered, Lowered, early}
use Rattle.compiler_theorem.specs.woken.Roots.{AreRootsTold}
use Rattle.compiler.proofs.flow_facts.Chained.{address-complete}
use Rattle.compiler.specs.flow_solver.Paths.{IsListed}
use Rattle.compiler.specs.frame_classes.Classes.{IsOf}
use Rattle.compiler.specs.frame_classes.declared.class.SlotClass.{SlotClass}
use Rattle.compiler.proofs.ir_laws.facts.Lists.{below, blank_length, flags_length}
use Rattle.compiler.proofs.ir_laws.paths.begin_order.Framed.{get_listed}
use Rattle.compiler.specs.ir_model.Names.{function_at}
use Rattle.compiler.specs.ir_model.Ty.{Ty}
use Rattle.compiler.specs.ir_model.declared.instr.Instr.{Instr}
use Rattle.compiler.specs.ir_model.declared.module.Function.{Function}
use Rattle.compiler.specs.ir_paths.Slots.{addresses_of, allocas_of, has_name, is_gep}
use Rattle.compiler.specs.ir_paths.Windows.{points_where}
use Rattle.compiler.specs.pass_cells.Kept.{entry, flag_or_false, is_flagged, value_types}
use Rattle.compiler.specs.pass_cells.Links.{bases_of, cell_name, field_name, roots_of, slot_by, slots_of}
use Rattle.compiler.specs.pass_cells.Plan.{kept_value, type_at}
use Rattle.compiler.specs.pass_cells.declared.plan.KeptValue.{KeptValue}
use Rattle.compiler.specs.pass_copies.Uses.{flag_at}
use Rattle.compiler.specs.pass_edges.EdgeBlocks.{with_edge_blocks}
use Rattle.compiler.specs.pass_frames.Tables.{is_of}
use Rattle.pass_frames_meaning.proofs.woken.Unkept.{alloca_unkept}
use Rattle.pass_frames_meaning.proofs.pass_frames_proof.code.Names.{Count, First, Kept, keeping, local}
use Rattle.pass_frames_meaning.specs.pass_frames_proof.Framings.{IsFraming}
use Rattle.pass_frames_meaning.specs.pass_frames_proof.Places.{Framing, edged, plan}
use Rattle.pass_frames_meaning.specs.pass_frames_proof.Related.{IsKeptValue}
use Rattle.compiler.proofs.pass_kept_proof.Read.{listed_by_name}
use Rattle.compiler.proofs.pass_proofs.cells.rules.Keepable.{IsKeepable}
use Rattle.compiler.proofs.pass_proofs.cells.rules.Keeping.{place_within}
use Rattle.compiler.proofs.pass_proofs.cells.rules.Plans.{kept_of}
use Rattle.compiler.proofs.pass_proofs.copies.begin_order.Marks.{none_flagged}
use Rattle.compiler.proofs.pass_proofs.frames.begin_order.Tables.{IsOfClass, flagged_slot, slot_flagged}
use Rattle.compiler.proofs.rule_laws.rules.source_rules.Locals.{result_below}
use Rattle.compiler.proofs.rule_laws.rules.source_rules.Slots.{alloca_of}

-- ---- tables

same_flag : (flags : List Bool) (v : ℕ) → is_flagged flags v ≡ flag_at flags v
same_flag flags v = on (slice_get flags v)
  where
    on : (o : Option Bool) → flag_or_false o ≡ unwrap_or o false
    on None = refl
    on (Some b) = refl

slot_is : (flags : List Bool) (o : Option ℕ) (s : ℕ) → slot_by flags o ≡ Some s
    → (o ≡ Some s) × (is_flagged flags s ≡ true)
slot_is flags None s e = absurd (cc)
slot_is flags (Some u) s e = on (is_flagged flags u) refl e
  where
    on : (b : Bool) → is_flagged flags u ≡ b → (if b then Some u else None) ≡ Some s
        → (Some u ≡ Some s) × (is_flagged flags s ≡ true)
    on true d k = let same : u ≡ s = cc in (k, ap (is_flagged flags) (sym same) ∙ d)
    on false d k = absurd (cc)

module _ (l : Lowered) (low : IsLowered l) (a : Anew) (anew : IsAnewOf (early l) a) (r : Run) (func : ℕ)
    (is : (function_at (early l) func).coroutine ≡ true) where
  abbrev f : Function
  f = function_at (early l) func

  abbrev x : Framing
  x = (building l low.is_framed r.answers).framing func

  framed : IsFraming x
  framed = framing l low a anew r func is

  abbrev E : Function
  E = edged x

  abbrev flags : List Bool
  flags = local x framed

  abbrev bases : List (Option ℕ)
  bases = bases_of E

  abbrev slots : List (Option ℕ)
  slots = slots_of flags bases

  -- ---- local slots

  slot_flag : (v : ℕ) → is_flagged flags v ≡ true → a.flags func v ≡ true
  slot_flag v e =
      let y : IsOfClass SlotClass.Local x.contents.classes 0 (allocas_of x.function) v =
      ⊎_elim (λ h. let t : true ≡ false = sym h ∙ none_flagged (length x.function.names) v in absurd (cc)) (λ y. y)
      (slot_flagged SlotClass.Local x.contents.classes 0 (allocas_of x.function)
      (replicate (length x.function.names) false) v (sym (same_flag flags v) ∙ e)) in
      let same = own l low a anew r func is in
      ((anew func).flags_are v).1 (record {
        coroutine = is;
        is_alloca = named_in v (allocas_of f) (subst (λ (h : Function). IsListed v (allocas_of h)) same
            (get_listed (allocas_of x.function) y.number v y.slot));
        is_of = subst (λ (h : Function). IsOf h v SlotClass.Local) same
            (of_class l low a anew r func is SlotClass.Local v y);
      })

  module _ (v : ℕ) (slot : IsSlotOf f SlotClass.Local v) where
    listed : IsListed v (allocas_of x.function)
    listed = subst (λ (h : Function). IsListed v (allocas_of h)) (sym (own l low a anew r func is))
        (listed_by_name (allocas_of f) v slot.is_alloca)

    flag_slot : is_flagged flags v ≡ true
    flag_slot =
        let at = stands_at v (allocas_of x.function) listed in
        let are = framed.frameable.contents.classes_are in
        let c = some_class x.contents.classes at.at (subst (λ (n : ℕ). at.at < n) (sym are.count)
        (below (allocas_of x.function) at.at v at.there)) in
        let same : c.0 ≡ SlotClass.Local =
        class_once x.function v c.0 SlotClass.Local (are.each at.at v c.0 at.there c.1)
        (subst (λ (h : Function). IsOf h v SlotClass.Local) (sym (own l low a anew r func is)) slot.is_of) in
        let one = alloca_of x.function v listed in
        let names = result_below func x.function (rules_own l low a anew r func is).tabled one.point
        (Instr.Alloca v one.ty one.align) v one.stands refl in
        same_flag flags v
        ∙ flagged_slot SlotClass.Local x.contents.classes 0 (allocas_of x.function)
        (replicate (length x.function.names) false) at.at v at.there
        (start at.at ∙ ap (is_of SlotClass.Local) (c.1 ∙ ap (λ (k : SlotClass). Some k) same))
        (subst (λ (n : ℕ). v < n) (sym (flags_length (length x.function.names))) names)
      where
        start : (n : ℕ) → is_of SlotClass.Local (slice_get x.contents.classes (0 + n))
            ≡ is_of SlotClass.Local (slice_get x.contents.classes n)
        start n = let same : 0 + n ≡ n = omega arith in
            ap (λ (j : ℕ). is_of SlotClass.Local (slice_get x.contents.classes j)) same

    now : IsListed v (allocas_of E)
    now = now_listed l low a anew r func is v (listed_by_name (allocas_of f) v slot.is_alloca)

  -- ---- a kept value

  module _ (v : ℕ) (k : KeptValue) (kept : IsKeptValue x v k) where
    here : slice_get (Kept x framed).values kept.number ≡ Some v
    here = (keeping x framed).there v kept.number kept.told

    long : length bases ≡ length E.names
    long =
        by_long (replicate {A = Option ℕ} (length E.names) None) E.blocks ∙ blank_length (length E.names)

    few : length bases < 2 ^ 64
    few =
        let same = long in
        let names = names_few l low func is in
        let own : length (with_edge_blocks f).names ≡ length E.names =
        ap (λ (g : Function). length g.names) (sym (same_edged l low a anew r func is)) in
        let other : length (edged ((building l low.is_framed []).framing func)).names
        ≡ length (with_edge_blocks f).names =
        ap (λ (g : Function). length (with_edge_blocks g).names)
        ((sources_built l low []).coroutines func is).function in
        omega (arith, same, names, own, other)

    known : v < length bases
    known =
        let lt : v < length E.names =
        place_within (First x framed) (IsKeepable x.code E) (Kept x framed) v kept.number
        (keeping x framed) kept.told in
        let same = long in
        omega (arith, lt, same)

    -- its slot is that of the table of slots
    keeps_slot : k.slot ≡ entry slots v
    keeps_slot =
        let types : List Ty = value_types E (Kept x framed) in
        let y = kept_of (First x framed) (Count x framed) types (plan x).cells slots
        (Kept x framed).values kept.number k
        kept.there in
        let both : Some y.0 ≡ Some v = sym y.1 ∙ here in
        let same : y.0 ≡ v = cc in
        ap (λ (z : KeptValue). z.slot) y.2
        ∙ by types y.0 same (entry (plan x).cells y.0) refl
      where
        missing : (u : ℕ) → u ≡ v → entry (plan x).cells u ≡ None → (o : Option ℕ) → entry slots u ≡ o → o ≡ None
        missing u same e None d = refl
        missing u same e (Some s) d =
            let cell = value_cell (First x framed) (Count x framed) (Kept x framed).places bases slots
            (Kept x framed).values v s (ap (entry slots) (sym same) ∙ d) known
            (get_listed (Kept x framed).values kept.number v here) in
            let both : None ≡ Some cell.0 = sym e ∙ ap (entry (plan x).cells) same ∙ cell.1 in
            absurd (cc)

        by : (types : List Ty) (u : ℕ) → u ≡ v → (o : Option ℕ) → entry (plan x).cells u ≡ o
            → (kept_value (cell_name (First x framed) kept.number)
            (field_name (First x framed) (Count x framed) kept.number) (type_at types kept.number) o
            (entry slots u)).slot ≡ entry slots v
        by types u same None e =
            sym (missing u same e (entry slots u) refl) ∙ ap (entry slots) same
        by types u same (Some c) e = ap (entry slots) same

    -- an address of its slot has that root
    rooted : (s : ℕ) → entry slots v ≡ Some s → a.roots func v ≡ Some s
    rooted s e =
        let y = slot_is flags (entry (roots_of bases) v) s
        (sym (mapped_entry (slot_by flags) refl (roots_of bases) v) ∙ e) in
        ((anew func).roots_are v s).1 (
          slot_flag s y.1,
          subst (λ (g : Function). has_name (addresses_of g s) v ≡ true) (same_edged l low a anew r func is)
              (address-complete E s v (root_leads E v s y.0)),
        )

    -- and what has a root has it as its slot
    slotted : (s : ℕ) → a.roots func v ≡ Some s → entry slots v ≡ Some s
    slotted s e =
        let y = ((anew func).roots_are v s).0 e in
        let slot = ((anew func).flags_are s).0 y.0 in
        let address = subst (λ (g : Function). IsListed v (addresses_of g s)) (sym (same_edged l low a anew r func is))
        (listed_by_name (addresses_of (with_edge_blocks f) s) v y.1) in
        let way = way_back x.code framed.position E framed.frameable.rules (length (points_where is_gep E)) s v
        address in
        let end = unbased x.code framed.position E framed.frameable.rules s (alloca_of E s (now s slot)) in
        let short : way.0 ≤ length bases = path_short bases s end way.0 v way.1 in
        let names = few in
        let root = root_ends bases way.0 v s (some way.0 way.1 slot) (omega (arith, short, names)) end way.1 in
        mapped_entry (slot_by flags) refl (roots_of bases) v ∙ ap (slot_by flags) root
        ∙ ap (λ (b : Bool). if b then Some s else None) (flag_slot s slot)
      where
        -- an alloca isn't kept
        some : (n : ℕ) → Path bases n v s → IsSlotOf f SlotClass.Local s → 1 ≤ n
        some zero same slot =
            let none = alloca_unkept x framed s (now s slot) in
            let both : None ≡ Some kept.number =
            sym none ∙ ap (entry (plan x).places) (sym same) ∙ kept.told in
            absurd (cc)
        some (suc n) p slot = omega arith

    pub root_kept : a.roots func v ≡ k.slot
    root_kept = on (a.roots func v) refl (entry slots v) refl ∙ sym keeps_slot
      where
        on : (o : Option ℕ) → a.roots func v ≡ o → (q : Option ℕ) → entry slots v ≡ q → a.roots func v ≡ entry slots v
        on None e None d = e ∙ sym d
        on None e (Some s) d = rooted s d ∙ sym d
        on (Some s) e q d = e ∙ sym (slotted s e)

pub roots_told : (l : Lowered) (low : IsLowered l) (a : Anew) → IsAnewOf (early l) a → (r : Run)
    → AreRootsTold l low a r
roots_told l low a anew r func is v k kept = root_kept l low a anew r func is v k kept
