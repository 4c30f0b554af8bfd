-- Slots of a ramp and those that are made anew lie in no frame, and all others do.
use Rattle.std.proofs.Common.{◌≡◌, ℕ, ◌<◌, ◌==◌, ◌&&◌, ◌||◌, Bool, true, false, Option, Some, refl, sym, ap, ◌∙◌, subst}
use Rattle.std.specs.List.{list_any}
use Rattle.std.specs.Prelude.{if◌then◌else◌, not, option_map, slice_get, unwrap_or}
use Rattle.std.proofs.lemmas.Option.{slice_get-map}
use Rattle.compiler_theorem.proofs.kinds.Classes.{flagged_class, frame_class, ramp_class}
use Rattle.compiler_theorem.proofs.kinds.Held.{frame_inside, slot_listed}
use Rattle.compiler_theorem.proofs.theorem.Needed.{named_in, some_class, stands_at}
use Rattle.compiler_theorem.proofs.theorem.shown.Contents.{class_once}
use Rattle.compiler_theorem.specs.theorem.Anew.{Anew, IsAnewOf, IsSlotOf}
use Rattle.compiler_theorem.specs.theorem.Lowered.{IsLowered, Lowered, early, edged}
use Rattle.compiler.specs.flow_solver.Paths.{IsListed}
use Rattle.compiler.specs.frame_classes.Classes.{IsOf}
use Rattle.compiler.specs.frame_classes.declared.class.SlotClass.{SlotClass}
use Rattle.compiler.proofs.ir_laws.facts.Lists.{below}
use Rattle.compiler.specs.ir_model.Names.{function_at, no_function}
use Rattle.compiler.specs.ir_model.Ty.{Ty}
use Rattle.compiler.specs.ir_model.declared.instr.Instr.{Instr}
use Rattle.compiler.specs.ir_model.declared.module.Function.{Function}
use Rattle.compiler.proofs.ir_paths.Right.{facts_of_right}
use Rattle.compiler.specs.ir_paths.Facts.{all_facts, facts_of}
use Rattle.compiler.specs.ir_paths.Slots.{IsRampSlot, allocas_of, has_name}
use Rattle.compiler.specs.ir_paths.declared.point.Facts.{Facts}
use Rattle.compiler.specs.pass_cells.Kept.{is_flagged}
use Rattle.compiler.specs.pass_edges.EdgeBlocks.{with_edge_blocks}
use Rattle.compiler.proofs.pass_proofs.kept.sources.Whole.{edges_kept}
use Rattle.compiler.specs.pass_proofs.edges.states.MovedState.{KeepsEdges, edge_function}
use Rattle.compiler.specs.pass_frames.Tables.{class_flags}
use Rattle.pass_frames_meaning.proofs.others.Names.{result_low}
use Rattle.pass_frames_meaning.specs.pass_frames_proof.Framings.{IsFraming}
use Rattle.pass_frames_meaning.specs.pass_frames_proof.Places.{Framing, framed, instrs_at, marked, offsets}
use Rattle.pass_frames_meaning.specs.pass_frames_proof.Places.{edged as edged_function}
use Rattle.compiler.specs.pass_copies.Uses.{flag_at}
use Rattle.pass_frames_meaning.proofs.pass_frames_proof.ramps.Markers.{none_marked}
use Rattle.compiler.specs.run_step.Step.{has_markers}
use Rattle.compiler.proofs.pass_proofs.edges.paths.Slots.{same_allocas, same_ramp_slots}
use Rattle.compiler.specs.pass_proofs.addresses.rules.Addresses.{lies_in_frame}
use Rattle.pass_frames_meaning.proofs.pass_renewed_meaning.Tables.{plain_facts, renewed_are}
use Rattle.pass_frames_meaning.proofs.pass_renewed_proof.RampSlots.{both_names}
use Rattle.pass_frames_meaning.specs.pass_renewed_proof.Renewed.{facts_from}
use Rattle.compiler.specs.rule_laws.rules.function_rules.Kept.{KeepsFunctionRules}
use Rattle.compiler.specs.run_source_tables.Given.{facts_at}

module _ (l : Lowered) (low : IsLowered l) (a : Anew) (anew : IsAnewOf (early l) a) (func : ℕ) (f : Function)
    (there : slice_get (early l).functions func ≡ Some f) (coroutine : f.coroutine ≡ true) where
  abbrev h : Function
  h = with_edge_blocks f

  now : slice_get (edged l).functions func ≡ Some h
  now = slice_get-map edge_function (early l).functions func ∙ ap (option_map edge_function) there
      ∙ ap (λ (b : Bool). Some (if b then with_edge_blocks f else f)) coroutine

  here : function_at (edged l) func ≡ h
  here = ap (λ (o : Option Function). unwrap_or o no_function) now

  stands : slice_get (edged l).functions func ≡ Some (function_at (edged l) func)
  stands = now ∙ ap Some (sym here)

  edges : KeepsEdges f
  edges = edges_kept l.text l.source low.source.stands low.source.accepted func f there coroutine

  -- which slots no instance has
  pub ramps_are : (v : ℕ)
      → list_any (λ (n : ℕ). n == v) (facts_at (facts_from a.flags (edged l).functions) func).ramp_slots
      ≡ ((a.flags func v && has_name (allocas_of (with_edge_blocks f)) v) || has_name (facts_of f).ramp_slots v)
  ramps_are v =
      ap (λ (z : Facts). list_any (λ (n : ℕ). n == v) z.ramp_slots) (renewed_are (edged l) a.flags func stands)
      ∙ both_names (function_at (edged l) func) (a.flags func) (facts_at (all_facts (edged l)) func)
      (record { alloca = v; block = 0 })
      ∙ ap (λ (z : Facts). (a.flags func v && has_name (allocas_of (function_at (edged l) func)) v)
      || has_name z.ramp_slots v) (plain_facts (edged l) func stands)
      ∙ ap (λ (g : Function). (a.flags func v && has_name (allocas_of g) v) || has_name (facts_of g).ramp_slots v) here
      ∙ ap (λ (b : Bool). (a.flags func v && has_name (allocas_of h) v) || b)
      (same_ramp_slots f edges.labels edges.once edges.phis v)

  module _ (x : Framing) (is : IsFraming x) (function : x.function ≡ f)
      (rules : KeepsFunctionRules x.code func x.function)
      (local : (v : ℕ) → a.flags func v ≡ is_flagged (class_flags x.function x.contents.classes SlotClass.Local) v)
      (at v align : ℕ) (ty : Ty) (alloca : slice_get (instrs_at x 0) at ≡ Some (Instr.Alloca v ty align)) where
    listed : IsListed v (allocas_of f)
    listed = subst (λ (g : Function). IsListed v (allocas_of g)) function (slot_listed x is func rules at v align ty alloca)

    class : (c : SlotClass) × IsOf f v c
    class =
        let s = stands_at v (allocas_of x.function)
        (subst (λ (g : Function). IsListed v (allocas_of g)) (sym function) listed) in
        let k = is.frameable.contents.classes_are in
        let c = some_class x.contents.classes s.at (subst (λ (n : ℕ). s.at < n) (sym k.count)
        (below (allocas_of x.function) s.at v s.there)) in
        (c.0, subst (λ (g : Function). IsOf g v c.0) function (k.each s.at v c.0 s.there c.1))

    outside : (c : SlotClass) → IsOf f v c → (c ≡ SlotClass.Frame → ⊥) → lies_in_frame (offsets x) v ≡ false
    outside c of other = on (lies_in_frame (offsets x) v) refl
      where
        on : (b : Bool) → lies_in_frame (offsets x) v ≡ b → b ≡ false
        on false e = refl
        on true e = absurd (other (class_once f v c SlotClass.Frame of
            (subst (λ (g : Function). IsOf g v SlotClass.Frame) function
            (frame_class x is v (result_low x is 0 at v (Instr.Alloca v ty align) alloca refl) e))))

    no_ramp : (IsRampSlot f v → ⊥) → has_name (facts_of f).ramp_slots v ≡ false
    no_ramp none = on (has_name (facts_of f).ramp_slots v) refl
      where
        on : (b : Bool) → has_name (facts_of f).ramp_slots v ≡ b → b ≡ false
        on false e = refl
        on true e = absurd (none (((facts_of_right f).ramp_slots v).0 e).1)

    unflagged : (c : SlotClass) → IsOf f v c → (c ≡ SlotClass.Local → ⊥) → a.flags func v ≡ false
    unflagged c of other = on (a.flags func v) refl
      where
        on : (b : Bool) → a.flags func v ≡ b → b ≡ false
        on false e = refl
        on true e = absurd (other (class_once f v c SlotClass.Local of
            (subst (λ (g : Function). IsSlotOf g SlotClass.Local v) at_own (((anew func).flags_are v).0 e)).is_of))
          where
            at_own : function_at (early l) func ≡ f
            at_own = ap (λ (o : Option Function). unwrap_or o no_function) there

    abbrev Says : Type 0
    Says = ((a.flags func v && has_name (allocas_of h) v) || has_name (facts_of f).ramp_slots v)
        ≡ not (lies_in_frame (offsets x) v)

    by_class : (c : SlotClass) → IsOf f v c → Says
    by_class SlotClass.Ramp of =
        let ramp : has_name (facts_of f).ramp_slots v ≡ true =
        ((facts_of_right f).ramp_slots v).1 (named_in v (allocas_of f) listed, of) in
        (λ j. (a.flags func v && has_name (allocas_of h) v) || ramp j)
        ∙ or_true (a.flags func v && has_name (allocas_of h) v)
        ∙ sym (ap not (outside SlotClass.Ramp of (λ e. absurd (cc))))
      where
        or_true : (b : Bool) → (b || true) ≡ true
        or_true true = refl
        or_true false = refl
    by_class SlotClass.Local of =
        let flag : a.flags func v ≡ true =
        ((anew func).flags_are v).1 (subst (λ (g : Function). IsSlotOf g SlotClass.Local v) (sym at_own) (record {
          coroutine = coroutine;
          is_alloca = named_in v (allocas_of f) listed;
          is_of = of;
        })) in
        let named : has_name (allocas_of h) v ≡ true =
        named_in v (allocas_of h) (subst (IsListed v) (sym (same_allocas f)) listed) in
        (λ j. (flag j && named j) || has_name (facts_of f).ramp_slots v)
        ∙ sym (ap not (outside SlotClass.Local of (λ e. absurd (cc))))
      where
        at_own : function_at (early l) func ≡ f
        at_own = ap (λ (o : Option Function). unwrap_or o no_function) there
    by_class SlotClass.Frame of =
        (λ j. (unflagged SlotClass.Frame of (λ e. absurd (cc)) j && has_name (allocas_of h) v) || no_ramp of.0 j)
        ∙ sym (ap not (frame_inside x is func rules at v align ty alloca
        (subst (λ (g : Function). IsOf g v SlotClass.Frame) (sym function) of)))

    pub classes_are : list_any (λ (n : ℕ). n == v) (facts_at (facts_from a.flags (edged l).functions) func).ramp_slots
        ≡ not (lies_in_frame (offsets x) v)
    classes_are = ramps_are v ∙ by_class class.0 class.1

    -- ---- markers

    unmarked : (IsOf f v SlotClass.Ramp → ⊥) → flag_at (marked x) v ≡ false
    unmarked none = on (flag_at (marked x) v) refl
      where
        on : (b : Bool) → flag_at (marked x) v ≡ b → b ≡ false
        on false e = refl
        on true e = absurd (none (subst (λ (g : Function). IsOf g v SlotClass.Ramp) function (ramp_class x is v e)))

    -- of a slot of the ramp all markers are left, and of one that is made anew none
    pub marks_are : KeepsFunctionRules (early l) func (framed x)
        → (flag_at (marked x) v ≡ true → has_markers (framed x) v ≡ has_markers (edged_function x) v)
        → lies_in_frame (offsets x) v ≡ false
        → has_markers (framed x) v ≡ (if a.flags func v then false else has_markers (edged_function x) v)
    marks_are kept ramp lies = by class.0 class.1
      where
        by : (c : SlotClass) → IsOf f v c
            → has_markers (framed x) v ≡ (if a.flags func v then false else has_markers (edged_function x) v)
        by SlotClass.Ramp of =
            ramp (flagged_class x is func x.code rules SlotClass.Ramp v
            (subst (λ (g : Function). IsListed v (allocas_of g)) (sym function) listed)
            (subst (λ (g : Function). IsOf g v SlotClass.Ramp) (sym function) of))
            ∙ ap (λ (b : Bool). if b then false else has_markers (edged_function x) v)
            (sym (unflagged SlotClass.Ramp of (λ e. absurd (cc))))
        by SlotClass.Local of =
            none_marked (early l) func x is kept v
            (unmarked (λ ramp_too. let no = class_once f v SlotClass.Ramp SlotClass.Local ramp_too of in absurd (cc)))
            ∙ ap (λ (b : Bool). if b then false else has_markers (edged_function x) v) (sym flag)
          where
            at_own : function_at (early l) func ≡ f
            at_own = ap (λ (o : Option Function). unwrap_or o no_function) there

            flag : a.flags func v ≡ true
            flag = ((anew func).flags_are v).1 (subst (λ (g : Function). IsSlotOf g SlotClass.Local v) (sym at_own)
                (record {
                  coroutine = coroutine;
                  is_alloca = named_in v (allocas_of f) listed;
                  is_of = of;
                }))
        by SlotClass.Frame of =
            let inside = frame_inside x is func rules at v align ty alloca
            (subst (λ (g : Function). IsOf g v SlotClass.Frame) (sym function) of) in
            let no : true ≡ false = sym inside ∙ lies in
            absurd (cc)
