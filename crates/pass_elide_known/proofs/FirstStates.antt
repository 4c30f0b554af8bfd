-- What is known of states holds where the runs start.
use Rattle.std.proofs.Common.{◌≡◌, ◌<◌, ◌^◌, ◌⊎◌, ◌∙◌, ℕ, Bool, false, List, Option, ap, inl, inr, refl, sym}
use Rattle.std.specs.Prelude.{None, Some}
use Rattle.pass_elide_known.specs.Keeping.{KeepsMore, is_marker}
use Rattle.pass_elide_known.specs.States.{Allocates, IsKnownFramed, IsKnownGiving}
use Rattle.pass_elide_proof.proofs.Allocas.{knows_allocas}
use Rattle.pass_elide_proof.proofs.Facts.{not_both}
use Rattle.pass_elide_proof.proofs.OwnSlots.{counted_own, start_counts}
use Rattle.pass_elide_proof.proofs.PlacingKnown.{first_known}
use Rattle.pass_elide_proof.proofs.PlacingStarts.{first_shapes}
use Rattle.pass_elide_proof.proofs.ReleasedKept.{released_first, slotted_runs}
use Rattle.pass_elide_proof.proofs.SoundSteps.{states_sound}
use Rattle.pass_elide_proof.specs.Elision.{Elision, Shape, elided, elided_code, framed, function_in, no_shape}
use Rattle.pass_elide_proof.specs.Placing.{HasShape, KeepsPlaces}
use Rattle.pass_elide_proof.specs.pass_proofs.flow_blocks.Reach.{Start}
use Rattle.pass_elide_proof.specs.pass_proofs.ir_base.declared.outcome.Word.{Word}
use Rattle.pass_elide_proof.specs.pass_proofs.ir_model.Ty.{Ty}
use Rattle.pass_elide_proof.specs.pass_proofs.ir_model.declared.instr.Instr.{Instr}
use Rattle.pass_elide_proof.specs.pass_proofs.ir_model.declared.operand.Allocator.{Allocator}
use Rattle.pass_elide_proof.specs.pass_proofs.ir_model.declared.operand.Arg.{Arg}
use Rattle.pass_elide_proof.specs.pass_proofs.ir_model.declared.operand.Callee.{Callee}
use Rattle.pass_elide_proof.specs.pass_proofs.run_source.Source.{first_state}

module _ (e : Elision) (keeps : KeepsPlaces e) (more : KeepsMore e) (entry : ℕ) (args : List Word)
    (plain : (function_in e entry).coroutine ≡ false) where
  -- the entry has the shape of none
  unshaped : (e.shape entry ≡ no_shape) ⊎ HasShape e entry → e.shape entry ≡ no_shape
  unshaped (inl none) = none
  unshaped (inr k) = absurd (not_both (function_in e entry).coroutine k.coroutine plain)

  none : e.shape entry ≡ no_shape
  none = unshaped (keeps.shapes entry)

  no_waits : (block other : ℕ) → (e.shape entry).waits block ≡ Some other → ⊥
  no_waits block other is = apart (sym (ap (λ (x : Shape). x.waits block) none) ∙ is)
    where
      apart : None ≡ Some other → ⊥
      apart h = cc

  no_aside : (block other : ℕ) → (e.shape entry).aside block ≡ Some other → ⊥
  no_aside block other is = apart (sym (ap (λ (x : Shape). x.aside block) none) ∙ is)
    where
      apart : None ≡ Some other → ⊥
      apart h = cc

  -- sizes that an allocator is asked for there are those of the entry's arguments, or written
  pub framed_start : ((a : Allocator) (result : Option ℕ) (must_tail : Bool) (ty : Option Ty) (values : List Arg)
      (word : Word) → Allocates e (first_state e.code entry args) a result must_tail ty values word
      → word.bits < 2 ^ 64) → IsKnownFramed e (first_state e.code entry args)
  framed_start small = record {
    known = first_known e.code entry args;
    slots = (tt, tt);
    slotted = slotted_runs (framed e) entry args keeps.ungiven 0;
    sound = states_sound (framed e) (knows_allocas e.code e.layouts.coroutines e.answers) more.nests entry args 0;
    released = released_first e entry args;
    reached = Start 0 (inl refl);
    inside = λ is mode. not_both (function_in e entry).coroutine is plain;
    resumed = λ mode alone. absurd (cc);
    entering = λ from label mode. absurd (cc);
    saves = λ result must_tail ty values there x is. absurd (cc);
    suspends = λ result must_tail ty values there none x is. absurd (cc);
    ends = λ result must_tail ty values there stays x is. absurd (cc);
    own = λ result must_tail ty values there mode. absurd (cc);
    small = small;
    exact = λ result must_tail ty values there mode. absurd (cc);
    marks = λ j result must_tail ty values marker there.
        absurd (not_both (is_marker (Instr.Call result must_tail ty (Callee.Intrinsic j) values)) marker
        (more.unmarked entry (Instr.Call result must_tail ty (Callee.Intrinsic j) values) there));
  }

  pub giving_start : IsKnownGiving e (first_state (elided_code e) entry args)
  giving_start = record {
    known = first_known (elided_code e) entry args;
    sound = states_sound (elided e) (knows_allocas (elided_code e) e.layouts.coroutines e.answers) more.nests entry
        args 0;
    own = counted_own (first_state (elided_code e) entry args) (start_counts (elided_code e) entry args);
    shapes = first_shapes e entry args;
    blocks = λ number y is. absurd (cc);
    callees = (λ number y is. absurd (cc), (λ frame is. absurd (cc), tt));
    called = λ c below is. absurd (cc);
    first = λ is block at. refl;
    aside = λ k is. absurd (no_aside k.after k.beside k.aside);
    marks = λ j result must_tail ty values marker there b i x leads is. absurd (cc);
  }
