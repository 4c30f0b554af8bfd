-- What a resume of an accepted source hands on, and which slots its activation makes anew, by what coroutines were
-- framed by.
use Rattle.std.proofs.Common.{◌≡◌, ◌⊎◌, inl, inr, ⊎_elim, ℕ, ◌+◌, ◌++◌, Bool, true, false, Some, None, Option, length, refl, sym, ap, ◌∙◌, subst, arith}
use Rattle.std.specs.List.{Contains}
use Rattle.std.specs.Prelude.{◌<◌, ◌≤◌, replicate, slice_get}
use Rattle.compiler_theorem.proofs.theorem.Built.{coroutine_there, framings, sources_built}
use Rattle.compiler_theorem.proofs.theorem.shown.Contents.{class_once}
use Rattle.compiler_theorem.proofs.woken.Crossings.{pair_crosses, value_paired}
use Rattle.compiler_theorem.proofs.woken.Forms.{begins}
use Rattle.compiler_theorem.specs.theorem.Anew.{Anew, IsAnewOf, IsSlotOf}
use Rattle.compiler_theorem.specs.theorem.Asked.{asking}
use Rattle.compiler_theorem.specs.theorem.Built.{building}
use Rattle.compiler_theorem.specs.theorem.Entries.{Run}
use Rattle.compiler_theorem.specs.theorem.Lowered.{IsLowered, Lowered, early}
use Rattle.compiler_theorem.proofs.theorem.Framing.{sources_given}
use Rattle.compiler_theorem.proofs.woken.FrameSlots.{frame_lies}
use Rattle.compiler.specs.ir_laws.facts.sound_states.Named.{HasNamedLocals}
use Rattle.compiler.proofs.pass_proofs.edges.simulation.Names.{locals_named}
use Rattle.compiler.proofs.pass_proofs.edges.sources.Accepted.{locals_now}
use Rattle.compiler.proofs.rule_laws.frames.alike_crossing.Counted.{values_named}
use Rattle.compiler.specs.rule_laws.rules.function_rules.Kept.{KeepsFunctionRules}
use Rattle.compiler.specs.flow_solver.Paths.{IsListed}
use Rattle.compiler.specs.frame_classes.Classes.{IsOf}
use Rattle.compiler.specs.frame_classes.declared.class.SlotClass.{SlotClass}
use Rattle.compiler.specs.frame_contents.Frames.{AreContents}
use Rattle.compiler.specs.frame_crossing.Crossing.{AreCrossing, Crosses, suspends_of}
use Rattle.compiler.specs.frame_crossing.Values.{values_of}
use Rattle.compiler.proofs.ir_laws.paths.path_rules.Windows.{got_has}
use Rattle.compiler.specs.ir_model.Names.{function_at}
use Rattle.compiler.specs.ir_model.declared.module.Function.{Function}
use Rattle.compiler.specs.ir_model.declared.module.Module.{Module}
use Rattle.compiler.specs.ir_paths.Slots.{allocas_of}
use Rattle.compiler.specs.ir_paths.declared.point.Point.{Point}
use Rattle.compiler.specs.pass_copies.Uses.{flag_at}
use Rattle.compiler.specs.pass_edges.EdgeBlocks.{with_edge_blocks}
use Rattle.compiler.specs.pass_frames.Framed.{begin_of}
use Rattle.compiler.specs.pass_frames.Tables.{is_of}
use Rattle.compiler.specs.run_framed.Framed.{begin_name}
use Rattle.compiler.specs.pass_proofs.frames.begin_order.Frames.{slot_offsets}
use Rattle.compiler.proofs.pass_proofs.kept.sources.Modules.{early_has_shape, early_rules}
use Rattle.pass_frames_meaning.specs.Woken.{IsHandedOn}
use Rattle.pass_frames_meaning.proofs.pass_frames_proof.from_edges.Front.{kept_there, listed_contains}
use Rattle.pass_frames_meaning.proofs.pass_frames_proof.lines.Cells.{contained}
use Rattle.compiler.specs.pass_copies.Slots.{slot_names}
use Rattle.pass_frames_meaning.proofs.pass_frames_proof.code.Left.{longer}
use Rattle.pass_frames_meaning.proofs.pass_frames_proof.stepping.Names.{edged_named, named_written}
use Rattle.pass_frames_meaning.specs.pass_frames_proof.Framings.{IsFraming}
use Rattle.pass_frames_meaning.specs.pass_frames_proof.Places.{Framing, copies, edged, marked, named, offsets, with_copies, written}
use Rattle.pass_frames_meaning.specs.pass_frames_proof.Related.{IsSuspendNumber}
use Rattle.compiler.proofs.pass_kept_proof.Read.{listed_by_name}
use Rattle.compiler.proofs.pass_proofs.cells.crossing.Complete.{pair_placed}
use Rattle.compiler.proofs.pass_proofs.edges.paths.Slots.{same_allocas}
use Rattle.compiler.proofs.pass_proofs.edges.rules.Kept.{crossing_kept}
use Rattle.compiler.proofs.pass_proofs.frames.begin_order.Framed.{alloca_pointer, in_either, old_slot, pointer_low}
use Rattle.compiler.proofs.pass_proofs.frames.begin_order.Tables.{IsOfClass, slot_flagged}
use Rattle.compiler.proofs.pass_proofs.copies.begin_order.Marks.{none_flagged}
use Rattle.compiler.specs.pass_proofs.addresses.rules.Addresses.{lies_in_frame}
use Rattle.compiler.specs.pass_proofs.frames.begin_order.Fields.{IsField, values_kept}

one_class : (class : SlotClass) (o : Option SlotClass) → is_of class o ≡ true → o ≡ Some class
one_class class None e = absurd (cc)
one_class SlotClass.Ramp (Some SlotClass.Ramp) e = refl
one_class SlotClass.Ramp (Some SlotClass.Local) e = absurd (cc)
one_class SlotClass.Ramp (Some SlotClass.Frame) e = absurd (cc)
one_class SlotClass.Local (Some SlotClass.Ramp) e = absurd (cc)
one_class SlotClass.Local (Some SlotClass.Local) e = refl
one_class SlotClass.Local (Some SlotClass.Frame) e = absurd (cc)
one_class SlotClass.Frame (Some SlotClass.Ramp) e = absurd (cc)
one_class SlotClass.Frame (Some SlotClass.Local) e = absurd (cc)
one_class SlotClass.Frame (Some SlotClass.Frame) e = refl

-- a flag is one of two
refuted : (b : Bool) → (b ≡ true → ⊥) → b ≡ false
refuted true h = absurd (h refl)
refuted false h = refl

module _ (l : Lowered) (low_is : IsLowered l) (a : Anew) (anew : IsAnewOf (early l) a) (r : Run) (func : ℕ)
    (is : (function_at (early l) func).coroutine ≡ true) where
  abbrev f : Function
  f = function_at (early l) func

  abbrev x : Framing
  x = (building l low_is.is_framed r.answers).framing func

  pub framing : IsFraming x
  framing = framings l low_is r.answers func is

  pub own : x.function ≡ f
  own = ((sources_built l low_is r.answers).coroutines func is).function

  pub same_edged : edged x ≡ with_edge_blocks f
  same_edged = ap with_edge_blocks own

  contents : AreContents (early l) f x.contents
  contents =
      let built = (sources_built l low_is r.answers).coroutines func is in
      subst (λ (h : Function). AreContents (early l) h x.contents) own
      (subst (λ (m : Module). AreContents m x.function x.contents) built.code framing.frameable.contents)

  rules : KeepsFunctionRules (early l) func f
  rules = early_rules l.text l.source low_is.source.stands low_is.source.accepted func f
      (coroutine_there l low_is r.answers func is)

  pub rules_own : KeepsFunctionRules x.code func x.function
  rules_own =
      let built = (sources_built l low_is r.answers).coroutines func is in
      subst (λ (m : Module). KeepsFunctionRules m func x.function) (sym built.code)
      (subst (KeepsFunctionRules (early l) func) (sym own) rules)

  -- ---- slots that are made anew

  local : (v : ℕ) → a.flags func v ≡ true → IsSlotOf f SlotClass.Local v
  local v e = ((anew func).flags_are v).0 e

  local_class : (v : ℕ) → a.flags func v ≡ true → IsOf x.function v SlotClass.Local
  local_class v e = subst (λ (h : Function). IsOf h v SlotClass.Local) (sym own) (local v e).is_of

  pub now_listed : (v : ℕ) → IsListed v (allocas_of f) → IsListed v (allocas_of (edged x))
  now_listed v l =
      subst (λ (h : Function). IsListed v (allocas_of h)) (sym same_edged)
      (subst (IsListed v) (sym (same_allocas f)) l)

  pub low : (v : ℕ) → IsListed v (allocas_of (edged x)) → v < length (edged x).names
  low v l =
      let h = framing.frameable in
      pointer_low x.code framing.position x.layout x.function x.contents framing.begin
      (length (with_copies x).names) h v
      (alloca_pointer x.code framing.position x.layout x.function x.contents framing.begin
      (length (with_copies x).names) h v l)

  low_copied : (v : ℕ) → v < length (edged x).names → v < length (with_copies x).names
  low_copied v lt =
      let count : ℕ = length (copies x).slots in
      let a : length (edged x).names ≤ length (named x).names = edged_named x in
      let b : length (named x).names ≤ length (written x).names = named_written x in
      let c : length (written x).names ≤ length ((written x).names ++ slot_names count) =
      longer (written x).names (slot_names count) in
      let d : length ((written x).names ++ slot_names count) ≤ length (with_copies x).names =
      longer ((written x).names ++ slot_names count) _ in
      omega (arith, lt, a, b, c, d)

  -- a slot of a class by its number is of the class
  pub of_class : (class : SlotClass) (v : ℕ) → IsOfClass class x.contents.classes 0 (allocas_of x.function) v
      → IsOf x.function v class
  of_class class v y =
      let n : ℕ = y.number in
      let same : 0 + n ≡ n = omega arith in
      framing.frameable.contents.classes_are.each y.number v class y.slot
      (one_class class (slice_get x.contents.classes y.number)
      (ap (λ (j : ℕ). is_of class (slice_get x.contents.classes j)) (sym same) ∙ y.class_is))

  two_classes : (c d : SlotClass) (v : ℕ) → IsOf x.function v c → IsOf x.function v d → (c ≡ d → ⊥) → ⊥
  two_classes c d v one other apart = apart (class_once x.function v c d one other)

  pub flags_outside : (v : ℕ) → a.flags func v ≡ true → lies_in_frame (offsets x) v ≡ false
  flags_outside v e = refuted (lies_in_frame (offsets x) v) (λ lies. ⊎_elim old field
      (in_either x.code framing.position x.layout x.function x.contents framing.begin (length (with_copies x).names)
      framing.frameable v lies))
    where
      old : lies_in_frame (slot_offsets x.layout x.contents (length (with_copies x).names)) v ≡ true → ⊥
      old o =
          two_classes SlotClass.Local SlotClass.Frame v (local_class v e)
          (of_class SlotClass.Frame v (old_slot x.code framing.position x.layout x.function x.contents framing.begin
          (length (with_copies x).names) framing.frameable v o)) (λ d. absurd (cc))

      field : IsField (length (edged x).names) (length (values_kept (edged x) x.contents.crossing).values) v → ⊥
      field y =
          let lt : v < length (edged x).names =
          low v (now_listed v (listed_by_name (allocas_of f) v (local v e).is_alloca)) in
          let up : length (edged x).names + length (values_kept (edged x) x.contents.crossing).values ≤ v = y.low in
          absurd (omega (arith, lt, up))

  pub flags_unmarked : (v : ℕ) → a.flags func v ≡ true → flag_at (marked x) v ≡ false
  flags_unmarked v e = refuted (flag_at (marked x) v) (λ m. ⊎_elim
      (λ h. let t : true ≡ false = sym h ∙ none_flagged (length x.function.names) v in absurd (cc))
      (λ y. two_classes SlotClass.Local SlotClass.Ramp v (local_class v e) (of_class SlotClass.Ramp v y)
      (λ d. absurd (cc)))
      (slot_flagged SlotClass.Ramp x.contents.classes 0 (allocas_of x.function)
      (replicate (length x.function.names) false) v m))

  -- ---- what is handed on

  module _ (j : ℕ) (p : Point) (v : ℕ) (number : IsSuspendNumber x j p) where
    suspend : slice_get (suspends_of (with_edge_blocks f)) j ≡ Some p
    suspend = subst (λ (h : Function). slice_get (suspends_of h) j ≡ Some p) same_edged number

    crossing : AreCrossing (with_edge_blocks f) x.contents.crossing
    crossing =
        let there = coroutine_there l low_is r.answers func is in
        (crossing_kept (early l) func f rules is
        (early_has_shape l.text l.source low_is.source.stands low_is.source.accepted func f there).switches
        x.contents.crossing).0 contents.crossing_are

    abbrev Handed : Type 0
    Handed = Crosses (with_edge_blocks f) v p
        ⊎ ((begin_name (with_edge_blocks f) ≡ Some v) ⊎ (IsSlotOf f SlotClass.Local v ⊎ IsSlotOf f SlotClass.Frame v))

    pub crossing_handed : Contains x.contents.crossing (v, j) → a.keep func p v ≡ true
    crossing_handed c =
        ((anew func).keep_is p v (got_has (suspends_of (with_edge_blocks f)) j p suspend)).1
        (inl (pair_crosses (with_edge_blocks f) (values_of (with_edge_blocks f)) x.contents.crossing crossing v j p
        suspend (contained x.contents.crossing (v, j) c)))

    crosses : Crosses (with_edge_blocks f) v p → IsHandedOn (asking l low_is a r) func x j v
    crosses c =
        let pair = value_paired (with_edge_blocks f) (values_of (with_edge_blocks f)) x.contents.crossing crossing v
        c.is_value j p suspend c in
        let at = pair_placed (length (edged x).names) x.contents.crossing (v, j) (value_low c) pair in
        let kept = kept_there x framing v at.0 at.1 in
        inl (listed_contains x.contents.crossing (v, j) pair, kept.0, kept.1)
      where
        value_low : Crosses (with_edge_blocks f) v p → v < length (edged x).names
        value_low c =
            values_named (edged x) (subst HasNamedLocals ((sources_given l low_is a r).coroutines func is)
            (locals_named (early l) (locals_now l.text l.source low_is.source.stands low_is.source.accepted) func)) v
            (subst (λ (h : Function). IsListed v (values_of h)) (sym same_edged) c.is_value)

    memory : (class : SlotClass) → IsSlotOf f class v
        → (IsListed v (allocas_of (edged x)) → (a.flags func v ≡ true) ⊎ (lies_in_frame (offsets x) v ≡ true))
        → IsHandedOn (asking l low_is a r) func x j v
    memory class y how =
        let listed = now_listed v (listed_by_name (allocas_of f) v y.is_alloca) in
        inr (inr (listed, how listed))

    handed : Handed → IsHandedOn (asking l low_is a r) func x j v
    handed (inl c) = crosses c
    handed (inr (inl b)) =
        let both : Some v ≡ Some (begin_of x.function) =
        sym b ∙ ap begin_name (sym same_edged) ∙ begins l low_is r.answers func is in
        let same : v ≡ begin_of x.function = cc in
        inr (inl same)
    handed (inr (inr (inl y))) = memory SlotClass.Local y (λ listed. inl (((anew func).flags_are v).1 y))
    handed (inr (inr (inr y))) = memory SlotClass.Frame y (λ listed. inr (lies y listed))
      where
        lies : IsSlotOf f SlotClass.Frame v → IsListed v (allocas_of (edged x)) → lies_in_frame (offsets x) v ≡ true
        lies y listed = frame_lies x framing func rules_own v
            (subst (λ (h : Function). IsListed v (allocas_of h)) (sym own)
            (listed_by_name (allocas_of f) v y.is_alloca))
            (subst (λ (h : Function). IsOf h v SlotClass.Frame) (sym own) y.is_of) (low v listed)
            (low_copied v (low v listed))

    pub handed_alone : a.keep func p v ≡ true → IsHandedOn (asking l low_is a r) func x j v
    handed_alone e =
        handed (((anew func).keep_is p v (got_has (suspends_of (with_edge_blocks f)) j p suspend)).0 e)
