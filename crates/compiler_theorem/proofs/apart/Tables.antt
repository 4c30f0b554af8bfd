-- Slots of a coroutine's instances that aren't made anew lie in frames, and resumes hand their addresses on.
use Rattle.std.proofs.Common.{◌≡◌, inl, inr, ℕ, Bool, true, false, ◌&&◌, ◌||◌, Option, Some, refl, sym, ap, ◌∙◌, subst}
use Rattle.std.specs.Prelude.{slice_get, unwrap_or}
use Rattle.compiler_theorem.proofs.kinds.Ramps.{ramps_are}
use Rattle.compiler_theorem.proofs.theorem.Needed.{memory}
use Rattle.compiler_theorem.specs.theorem.Anew.{Anew, IsAnewOf, IsMemorySlot, IsSlotOf}
use Rattle.compiler_theorem.specs.theorem.Lowered.{IsLowered, Lowered, early, edged}
use Rattle.compiler.specs.frame_classes.declared.class.SlotClass.{SlotClass}
use Rattle.compiler.specs.ir_model.Names.{function_at, no_function}
use Rattle.compiler.specs.ir_model.declared.module.Function.{Function}
use Rattle.compiler.proofs.ir_paths.Right.{facts_of_right}
use Rattle.compiler.specs.ir_paths.Facts.{facts_of}
use Rattle.compiler.specs.ir_paths.Slots.{IsRampSlot, allocas_of, has_name}
use Rattle.compiler.specs.pass_edges.EdgeBlocks.{with_edge_blocks}
use Rattle.compiler.proofs.pass_proofs.edges.paths.Slots.{same_ramp_slots}
use Rattle.compiler.proofs.pass_proofs.kept.sources.Whole.{edges_kept}
use Rattle.compiler.specs.pass_proofs.edges.states.MovedState.{KeepsEdges}
use Rattle.pass_frames_meaning.specs.pass_renewed_proof.Renewed.{facts_from}
use Rattle.pass_frames_meaning.specs.pass_renewed_proof.SlotRules.{IsMadeOnce}
use Rattle.compiler.specs.run_source_tables.Given.{facts_at}

or_true : (b : Bool) → (b || true) ≡ true
or_true true = refl
or_true false = refl

module _ (l : Lowered) (low : IsLowered l) (a : Anew) (anew : IsAnewOf (early l) a) (func : ℕ) (f : Function)
    (there : slice_get (early l).functions func ≡ Some f) (coroutine : f.coroutine ≡ true) where
  abbrev h : Function
  h = with_edge_blocks f

  edges : KeepsEdges f
  edges = edges_kept l.text l.source low.source.stands low.source.accepted func f there coroutine

  at_own : function_at (early l) func ≡ f
  at_own = ap (λ (o : Option Function). unwrap_or o no_function) there

  abbrev named : ℕ → Bool
  named v = has_name (facts_at (facts_from a.flags (edged l).functions) func).ramp_slots v

  -- a ramp slot where edges have blocks is one without them
  pub ramp_named : (v : ℕ) → has_name (allocas_of (with_edge_blocks f)) v ≡ true → IsRampSlot (with_edge_blocks f) v
      → has_name (facts_of f).ramp_slots v ≡ true
  ramp_named v among ramp = sym (same_ramp_slots f edges.labels edges.once edges.phis v)
      ∙ ((facts_of_right (with_edge_blocks f)).ramp_slots v).1 (among, ramp)

  -- what the table doesn't name is no ramp slot
  pub unnamed : (v : ℕ) → has_name (allocas_of (with_edge_blocks f)) v ≡ true
      → has_name (facts_at (facts_from a.flags (edged l).functions) func).ramp_slots v ≡ false
      → IsRampSlot (with_edge_blocks f) v → ⊥
  unnamed v among none ramp =
      let yes : named v ≡ true = ramps_are l low a anew func f there coroutine v
      ∙ ap (λ (b : Bool). (a.flags func v && has_name (allocas_of h) v) || b) (ramp_named v among ramp)
      ∙ or_true (a.flags func v && has_name (allocas_of h) v) in
      let no : true ≡ false = sym yes ∙ none in absurd (cc)

  -- a slot that is none, and isn't made anew, lies in the frame
  pub frame_slot : (v : ℕ) → IsMadeOnce (with_edge_blocks f) v → (IsRampSlot (with_edge_blocks f) v → ⊥)
      → a.flags func v ≡ false → IsSlotOf f SlotClass.Frame v
  frame_slot v made apart off = on (memory l low a anew func f there coroutine v made apart)
    where
      on : IsMemorySlot f v → IsSlotOf f SlotClass.Frame v
      on (inl local) =
          let yes : a.flags func v ≡ true =
          ((anew func).flags_are v).1 (subst (λ (g : Function). IsSlotOf g SlotClass.Local v) (sym at_own) local) in
          let no : true ≡ false = sym yes ∙ off in absurd (cc)
      on (inr frame) = frame

  -- and the table doesn't name it
  pub not_named : (v : ℕ) → has_name (allocas_of (with_edge_blocks f)) v ≡ true
      → (IsRampSlot (with_edge_blocks f) v → ⊥) → a.flags func v ≡ false
      → has_name (facts_at (facts_from a.flags (edged l).functions) func).ramp_slots v ≡ false
  not_named v among apart off = on (has_name (facts_of f).ramp_slots v) refl
    where
      here : (b : Bool) → has_name (facts_of f).ramp_slots v ≡ b
          → has_name (facts_at (facts_from a.flags (edged l).functions) func).ramp_slots v ≡ b
      here b e = ramps_are l low a anew func f there coroutine v
          ∙ (λ j. (off j && has_name (allocas_of h) v) || e j)

      on : (b : Bool) → has_name (facts_of f).ramp_slots v ≡ b
          → has_name (facts_at (facts_from a.flags (edged l).functions) func).ramp_slots v ≡ false
      on false e = here false e
      on true e = absurd (apart (((facts_of_right (with_edge_blocks f)).ramp_slots v).0
          (same_ramp_slots f edges.labels edges.once edges.phis v ∙ e)).1)
