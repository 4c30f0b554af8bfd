-- What lies in the frame of a coroutine of an accepted source is a slot of its instances.
use Rattle.std.proofs.Common.{◌≡◌, ◌⊎◌, inl, inr, ⊎_elim, ℕ, ◌+◌, ◌<◌, ◌≤◌, Bool, true, false, not, List, [], ◌∷◌}
use Rattle.std.proofs.Common.{◌++◌, ◌||◌, length}
use Rattle.std.proofs.Common.{Option, Some, None, refl, sym, ap, ◌∙◌, subst, arith}
use Rattle.std.proofs.lemmas.Bool.{and_from, eqb-true}
use Rattle.std.specs.Prelude.{filter, if◌then◌else◌, slice_get, unwrap_or, ◌==◌}
use Rattle.compiler_theorem.proofs.known.Names.{framed, framed_function, there_of}
use Rattle.compiler_theorem.proofs.theorem.Built.{coroutine_there, sources_built}
use Rattle.compiler_theorem.proofs.theorem.Needed.{named_in}
use Rattle.compiler_theorem.specs.known.Counts.{counts, is_slot_of, stays_own}
use Rattle.compiler_theorem.specs.theorem.Anew.{Anew, IsAnewOf}
use Rattle.compiler_theorem.specs.theorem.Asked.{asking}
use Rattle.compiler_theorem.specs.theorem.Entries.{IsEntryCall, Run}
use Rattle.compiler_theorem.specs.theorem.Lowered.{HasFewBytes, IsLowered, Lowered, early, edged}
use Rattle.compiler.specs.frame_classes.Classes.{IsOf}
use Rattle.compiler.specs.frame_classes.declared.class.SlotClass.{SlotClass}
use Rattle.compiler.specs.ir_model.Names.{function_at}
use Rattle.compiler.specs.ir_model.declared.module.Function.{Function}
use Rattle.compiler.proofs.ir_paths.Right.{facts_of_right}
use Rattle.compiler.specs.ir_paths.Facts.{all_facts}
use Rattle.compiler.specs.ir_paths.Slots.{IsRampSlot, allocas_of, has_name}
use Rattle.compiler.specs.ir_paths.declared.point.Facts.{Facts}
use Rattle.compiler.specs.pass_addresses.Placing.{is_none}
use Rattle.compiler.specs.pass_cells.Kept.{entry, joined}
use Rattle.compiler.specs.pass_edges.EdgeBlocks.{with_edge_blocks}
use Rattle.compiler.specs.pass_frames.Tables.{is_of}
use Rattle.pass_frames_meaning.specs.pass_frames_proof.Framings.{IsFraming}
use Rattle.pass_frames_meaning.specs.pass_frames_proof.Places.{Framing, offsets, with_copies}
use Rattle.pass_frames_meaning.specs.pass_frames_proof.Places as place
use Rattle.compiler.proofs.pass_proofs.edges.paths.Slots.{same_ramp_slots}
use Rattle.compiler.proofs.pass_proofs.frames.begin_order.Framed.{frame_alone, in_either, old_slot, slot_alloca}
use Rattle.compiler.proofs.pass_proofs.frames.begin_order.Tables.{IsOfClass}
use Rattle.compiler.proofs.pass_proofs.kept.sources.Whole.{edges_kept}
use Rattle.compiler.specs.pass_proofs.addresses.rules.Addresses.{lies_in_frame}
use Rattle.compiler.specs.pass_proofs.edges.states.MovedState.{KeepsEdges}
use Rattle.compiler.specs.pass_proofs.frames.begin_order.Fields.{IsField, values_kept}
use Rattle.pass_frames_meaning.proofs.pass_renewed_meaning.Tables.{facts_are, renewed_are}
use Rattle.pass_frames_meaning.specs.pass_renewed_proof.Renewed.{renewed_facts}
use Rattle.compiler.specs.run_source_tables.Given.{facts_at}

-- what a table tells of a name
pub in_frame : (t : List (Option ℕ)) (v d : ℕ) → entry t v ≡ Some d → lies_in_frame t v ≡ true
in_frame t v d e = on (slice_get t v) e
  where
    on : (o : Option (Option ℕ)) → joined o ≡ Some d → not (is_none (unwrap_or o None)) ≡ true
    on None h = absurd (cc)
    on (Some None) h = absurd (cc)
    on (Some (Some n)) h = refl

has_either : (xs ys : List ℕ) (v : ℕ) → has_name (xs ++ ys) v ≡ true
    → (has_name xs v ≡ true) ⊎ (has_name ys v ≡ true)
has_either [] ys v h = inr h
has_either (x ∷ xs) ys v h = on (x == v) h (has_either xs ys v)
  where
    on : (t : Bool) → (t || has_name (xs ++ ys) v) ≡ true
        → (has_name (xs ++ ys) v ≡ true → (has_name xs v ≡ true) ⊎ (has_name ys v ≡ true))
        → ((t || has_name xs v) ≡ true) ⊎ (has_name ys v ≡ true)
    on true e rest = inl refl
    on false e rest = rest e

filtered : (p : ℕ → Bool) (xs : List ℕ) (v : ℕ) → has_name (filter p xs) v ≡ true → p v ≡ true
filtered p [] v h = absurd (cc)
filtered p (x ∷ xs) v h = on (p x) refl h (λ e. filtered p xs v e)
  where
    on : (b : Bool) → p x ≡ b → has_name (if b then x ∷ filter p xs else filter p xs) v ≡ true
        → (has_name (filter p xs) v ≡ true → p v ≡ true) → p v ≡ true
    on false d e rest = rest e
    on true d e rest = here (x == v) refl e
      where
        here : (t : Bool) → (x == v) ≡ t → (t || has_name (filter p xs) v) ≡ true → p v ≡ true
        here true same k = sym (ap p (eqb-true x v same)) ∙ d
        here false same k = rest k

module _ (l : Lowered) (low : IsLowered l) (few : HasFewBytes l) (a : Anew) (anew : IsAnewOf (early l) a) (r : Run)
    (entered : IsEntryCall l.source r) (func : ℕ) (coroutine : (function_at (early l) func).coroutine ≡ true) where
  abbrev x : Framing
  x = (asking l low a r).b.framing func

  is : IsFraming ((asking l low a r).b.framing func)
  is = framed l low few a anew r entered func coroutine

  abbrev g : Function
  g = function_at (early l) func

  function_is : ((asking l low a r).b.framing func).function ≡ function_at (early l) func
  function_is = ((sources_built l low r.answers).coroutines func coroutine).function

  now : function_at (edged l) func ≡ with_edge_blocks (function_at (early l) func)
  now = framed_function l low few a anew r entered func coroutine ∙ ap with_edge_blocks function_is

  abbrev names : ℕ
  names = length (with_copies x).names

  module _ (v d : ℕ) (low_name : v < length (place.edged ((asking l low a r).b.framing func)).names)
      (offset : entry (offsets ((asking l low a r).b.framing func)) v ≡ Some d) where
    class_is : IsOfClass SlotClass.Frame x.contents.classes 0 (allocas_of x.function) v
    class_is = ⊎_elim
        (λ o. old_slot x.code is.position x.layout x.function x.contents is.begin names is.frameable v o)
        (λ (y : IsField (length (place.edged x).names)
        (length (values_kept (place.edged x) x.contents.crossing).values) v).
        let up : length (place.edged x).names
        + length (values_kept (place.edged x) x.contents.crossing).values ≤ v = y.low in
        absurd (omega (arith, up, low_name)))
        (in_either x.code is.position x.layout x.function x.contents is.begin names is.frameable v
        (in_frame (offsets x) v d offset))

    is_frame : IsOf (function_at (early l) func) v SlotClass.Frame
    is_frame =
        let n : ℕ = class_is.number in
        let same : 0 + n ≡ n = omega arith in
        subst (λ (z : Function). IsOf z v SlotClass.Frame) function_is
        (is.frameable.contents.classes_are.each n v SlotClass.Frame class_is.slot
        (frame_alone (slice_get x.contents.classes n)
        (ap (λ (j : ℕ). is_of SlotClass.Frame (slice_get x.contents.classes j)) (sym same) ∙ class_is.class_is)))

    is_slot : is_slot_of l func v ≡ true
    is_slot = ap (λ (z : Function). has_name (allocas_of z) v)
        (framed_function l low few a anew r entered func coroutine)
        ∙ named_in v (allocas_of (place.edged x))
        (slot_alloca x.code is.position x.layout x.function x.contents is.begin names is.frameable v SlotClass.Frame
        class_is)

    edges : KeepsEdges (function_at (early l) func)
    edges = edges_kept l.text l.source low.source.stands low.source.accepted func (function_at (early l) func)
        (coroutine_there l low r.answers func coroutine) coroutine

    -- it is no ramp slot
    no_ramp : IsRampSlot (function_at (edged l) func) v → ⊥
    no_ramp ramp =
        let there : IsRampSlot (with_edge_blocks g) v = subst (λ (z : Function). IsRampSlot z v) now ramp in
        let among : has_name (allocas_of (with_edge_blocks g)) v ≡ true =
        subst (λ (z : Function). has_name (allocas_of z) v ≡ true) now is_slot in
        let named = ((facts_of_right (with_edge_blocks g)).ramp_slots v).1 (among, there) in
        let before = ((facts_of_right g).ramp_slots v).0
        (sym (same_ramp_slots g edges.labels edges.once edges.phis v) ∙ named) in
        is_frame.0 before.1

    not_own : stays_own l a r func v ≡ false
    not_own = on (stays_own l a r func v) refl
      where
        on : (b : Bool) → stays_own l a r func v ≡ b → b ≡ false
        on false e = refl
        on true e =
            let there = there_of l low few a anew r entered func v is_slot in
            let h : has_name (renewed_facts (a.flags func) (function_at (edged l) func)
            (facts_at (all_facts (edged l)) func)).ramp_slots v ≡ true =
            sym (ap (λ (z : Facts). has_name z.ramp_slots v) (renewed_are (edged l) a.flags func there)) ∙ e in
            absurd (⊎_elim
            (λ k. (((anew func).flags_are v).0
            (filtered (a.flags func) (allocas_of (function_at (edged l) func)) v k)).is_of.1 is_frame.1)
            (λ k. no_ramp (((facts_are (edged l) func there).ramp_slots v).0 k).1)
            (has_either (filter (a.flags func) (allocas_of (function_at (edged l) func))) _ v h))

    pub counted : counts l a r func v ≡ true
    counted = and_from (is_slot_of l func v) (not (stays_own l a r func v)) is_slot (ap not not_own)
