-- What ends of blocks ask of states holds of the first ones.
use Rattle.std.proofs.Common.{◌≡◌, ◌⊎◌, inl, inr, ℕ, false, List, refl, ap}
use Rattle.std.specs.Prelude.{Some, map, slice_get}
use Rattle.pass_elide_edges.specs.States.{EndsElided, EndsFramed, StandApart}
use Rattle.pass_elide_proof.proofs.Facts.{not_both, some_none}
use Rattle.pass_elide_proof.proofs.OwnSlots.{start_counts}
use Rattle.pass_elide_proof.proofs.PlacingKnown.{first_known}
use Rattle.pass_elide_proof.proofs.Starts.{unowned}
use Rattle.pass_elide_proof.specs.Elision.{Elision, Shape, elided_code, framed, function_in, no_shape}
use Rattle.pass_elide_proof.specs.Match.{sides}
use Rattle.pass_elide_proof.specs.Placing.{HasShape, KeepsPlaces}
use Rattle.pass_elide_proof.specs.Sound.{IsSoundState}
use Rattle.pass_elide_proof.specs.pass_proofs.ir_base.declared.outcome.Word.{Word}
use Rattle.pass_elide_proof.specs.pass_proofs.ir_model.declared.module.GlobalItem.{GlobalItem}
use Rattle.pass_elide_proof.specs.pass_proofs.run_framed.Framed.{FramedGiven}
use Rattle.pass_elide_proof.specs.pass_proofs.run_memory.declared.block.MemoryBlock.{MemoryBlock}
use Rattle.pass_elide_proof.specs.pass_proofs.run_source.Source.{first_state}
use Rattle.pass_elide_proof.specs.pass_proofs.run_step.Step.{global_block}
use Rattle.run_hooks.specs.Meanings.{framed_hooks}
use Rattle.run_slots.proofs.Meanings.{framed_keeps_slots}
use Rattle.run_slots.proofs.Steps.{states_slotted}

first_sound : (g : FramedGiven) (entry : ℕ) (args : List Word) → IsSoundState g (first_state g.given.code entry args)
first_sound g entry args = record {
  blocks = record {
    starts = λ i x at. absurd (cc);
    owners = λ b k z at kind own. absurd (none g.given.code.globals b k z at own);
  };
  acts = (
    record {
      known = λ i is. absurd (cc);
      coroutine = λ i x is there. absurd (cc);
      own = tt;
      given = λ frame i x is at there. absurd (cc);
    },
    tt,
  );
}
  where
    none : (gs : List GlobalItem) (b k : ℕ) (z : MemoryBlock)
        → slice_get (map (global_block g.given.code) gs) b ≡ Some z → z.owned ≡ Some k → ⊥
    none gs b k z at own = some_none z.owned k own (unowned g.given.code gs b z at)

module _ (e : Elision) (entry : ℕ) (args : List Word) (keeps : KeepsPlaces e)
    (plain : (function_in e entry).coroutine ≡ false) where
  no_shape_there : e.shape entry ≡ no_shape
  no_shape_there = on (keeps.shapes entry)
    where
      on : (e.shape entry ≡ no_shape) ⊎ HasShape e entry → e.shape entry ≡ no_shape
      on (inl none) = none
      on (inr k) = absurd (not_both (function_in e entry).coroutine k.coroutine plain)

  no_aside : (block other : ℕ) → (e.shape entry).aside block ≡ Some other → ⊥
  no_aside block other is =
      some_none ((e.shape entry).aside block) other is (ap (λ (x : Shape). x.aside block) no_shape_there)

  pub framed_start : EndsFramed e (first_state e.code entry args)
  framed_start = record {
    known = first_known e.code entry args;
    sound = first_sound (framed e) entry args;
    slotted = states_slotted (framed_hooks (framed e)) (framed_keeps_slots (framed e) keeps.ungiven) entry args 0;
  }

  pub elided_start : EndsElided e (first_state (elided_code e) entry args)
  elided_start = record {
    known = first_known (elided_code e) entry args;
    slots = start_counts (elided_code e) entry args;
    bare = record { slots = λ plain block at. refl };
  }

  pub start_apart : StandApart e (sides (first_state e.code entry args) (first_state (elided_code e) entry args))
      (first_state e.code entry args).top (first_state (elided_code e) entry args).top
  start_apart = record {
    beside = λ given k is. no_aside k.after k.beside k.aside;
    after = λ given k is. no_aside k.after k.beside k.aside;
    asked = λ given k here is. no_aside k.after k.beside k.aside;
    tested = λ given q aside is. no_aside q.after q.beside aside.aside;
    freed = λ given q aside is. no_aside q.after q.beside aside.aside;
  }
