-- What a begin does to the framed run where the frame was given.
use Rattle.std.proofs.Common.{◌≡◌, ℕ, Bool, true, false, not, List, [], ◌∷◌, ◌++◌, length, Option, Some, None, Ok, Err, Result, refl, sym, ap, ◌∙◌, subst, ◌&&◌, ◌==◌, if◌then◌else◌}
use Rattle.std.proofs.lemmas.Bool.{and_parts, false≢true}
use Rattle.std.specs.Prelude.{is_none, is_some, nat_le, slice_get}
use Rattle.std.specs.Option.{option_map_or}
use Rattle.pass_proofs.specs.ir_base.declared.cause.Cause.{Cause}
use Rattle.pass_proofs.proofs.ir_laws.facts.Truth.{equal_numbers}
use Rattle.pass_split_proof.proofs.begins.Begun.{all_kept, none_kept}
use Rattle.pass_split_proof.specs.given_begins.Beginning.{HasBegunWithin, InBlock, InField, IsGivenBlock}
use Rattle.pass_split_proof.specs.steps.Begins.{begun_to}
use Rattle.pass_proofs.specs.run_agreement.Machines.{IsFine}
use Rattle.pass_proofs.specs.run_framed.Framed.{FramedGiven, are_finished_at, begin_given, begin_given_at, begin_in_block, begin_in_frame, frame_around, framed_step, has_room, has_size}
use Rattle.pass_proofs.specs.run_laws.access.Lines.{pointer_at}
use Rattle.pass_proofs.specs.run_laws.changed.Changed.{Each}
use Rattle.pass_proofs.specs.run_memory.Memory.{check, is_live, may_be_owned, owned_to, same_kind, with_block}
use Rattle.pass_proofs.specs.run_memory.declared.block.Kind.{Kind}
use Rattle.pass_proofs.specs.run_memory.declared.block.MemoryBlock.{MemoryBlock}
use Rattle.pass_proofs.specs.run_memory.declared.pointer.Offset.{Offset}
use Rattle.pass_proofs.specs.run_memory.declared.pointer.Pointer.{Pointer}
use Rattle.pass_proofs.specs.run_memory.declared.pointer.Value.{Value}
use Rattle.pass_proofs.proofs.run_source.Beginning.{begun-is}
use Rattle.pass_proofs.specs.run_source.Source.{begin_at, begun, is_among, is_live_at, new_instance}
use Rattle.pass_proofs.specs.run_source.State.{gives, or_undefined, own_facts, own_frame, with_memory}
use Rattle.pass_proofs.specs.run_source.declared.state.State.{State}
use Rattle.pass_proofs.specs.run_step.Results.{and_then, found, ok_if}
use Rattle.pass_proofs.specs.run_step.Step.{block_of}
use Rattle.pass_proofs.specs.run_step.Values.{with_value}
use Rattle.pass_proofs.specs.run_step.declared.world.Slot.{Slot}

-- ---- the block

kind_is : (k : Kind) → same_kind k Kind.Stack ≡ true → k ≡ Kind.Stack
kind_is Kind.Stack e = refl
kind_is Kind.Allocator e = absurd (cc)
kind_is Kind.Slot e = absurd (cc)
kind_is Kind.Global e = absurd (cc)
kind_is Kind.Constant e = absurd (cc)

not_true : (b : Bool) → not b ≡ true → b ≡ false
not_true true e = absurd (cc)
not_true false e = refl

none_alone : (o : Option ℕ) → is_none o ≡ true → o ≡ None
none_alone None e = refl
none_alone (Some i) e = absurd (cc)

given_block : (size : ℕ) (u : MemoryBlock) → (u.size == size) ≡ true → may_be_owned Kind.Stack size (Some u) ≡ true
    → IsGivenBlock size u
given_block size u fits e =
    let c = and_parts (is_live u.life && same_kind u.kind Kind.Stack && not (is_some u.owned)) (nat_le size u.size) e in
    let b = and_parts (is_live u.life && same_kind u.kind Kind.Stack) (not (is_some u.owned)) c.0 in
    let a = and_parts (is_live u.life) (same_kind u.kind Kind.Stack) b.0 in
    record {
      live = a.0;
      kind = kind_is u.kind a.1;
      unowned = not_true (is_some u.owned) b.1;
      fits = equal_numbers u.size size fits;
    }

-- ---- the step

module _ (g : FramedGiven) (s : State) (name : ℕ) (frame : Value) (fine : IsFine (framed_step g s).outcome)
    (does : framed_step g s ≡ or_undefined g.given s (begin_given g s (Some name) frame))
    (slots : Each (λ (x : Slot). is_among (own_facts g.given s).ramp_slots x ≡ true) s.top.slots) where
  abbrev size : ℕ
  size = (own_frame g.given s).size

  -- what follows where the frame begins
  abbrev goes : Value → Result State Cause → State
  goes v u = or_undefined g.given s (and_then u (λ (z : State). Ok (gives z (Some name) v)))

  not_fine : (c : Cause) → framed_step g s ≡ or_undefined g.given s (Err c) → ⊥
  not_fine c e = subst (λ (x : State). IsFine x.outcome) e fine

  -- begun with its slots
  started : (b o : ℕ) (after : List MemoryBlock) → gives (begun g.given (with_memory s after) b o) (Some name)
      (pointer_at b o) ≡ begun_to s (new_instance s.top.func b o) after (with_value s.top.values name (pointer_at b o))
  started b o after = ap (λ (z : State). gives z (Some name) (pointer_at b o))
      (sym (begun-is g.given (with_memory s after) b o (length s.instances)
      (s.instances ++ new_instance s.top.func b o ∷ []) [] s.top.slots refl refl
      (sym (none_kept (is_among (own_facts g.given s).ramp_slots) s.top.slots slots))
      (sym (all_kept (is_among (own_facts g.given s).ramp_slots) s.top.slots slots))))

  module _ (alone : s.top.instance ≡ None) (finished : are_finished_at s.instances frame ≡ true) (b : ℕ) (o : Offset)
      (at : frame ≡ Value.Ptr (Pointer.At b o)) where
    abbrev v : Value
    v = Value.Ptr (Pointer.At b o)

    -- ---- in a field

    module _ (room : has_room g o.bits size (frame_around g s.instances b o.bits) ≡ true)
        (d : framed_step g s ≡ goes v (begin_in_frame g s b o)) where
      in_field : (t : Bool) → is_live_at s.world.memory b ≡ t → HasBegunWithin g s name frame
      in_field false e = absurd (not_fine Cause.Begin (d
          ∙ ap (λ (t : Bool). goes v (ok_if t Cause.Begin (begun g.given s b o.bits))) e))
      in_field true e = record {
        alone = alone;
        block = b;
        start = o.bits;
        leads = at;
        finished = finished;
        after = s.world.memory;
        within = InField room e refl;
        is = d ∙ ap (λ (t : Bool). goes v (ok_if t Cause.Begin (begun g.given s b o.bits))) e
            ∙ started b o.bits s.world.memory;
      }

    -- ---- in a block

    abbrev in_first : Bool → Result State Cause
    in_first fits = and_then (ok_if fits Cause.Begin s) (λ (z : State). begin_at g.given z v Kind.Stack)

    abbrev in_second : Bool → Result State Cause
    in_second owns = and_then (check owns Cause.Begin (Ok (with_block s.world.memory b (owned_to size))))
        (λ (memory : List MemoryBlock). and_then (found Cause.Begin (block_of v)) (λ (k : ℕ).
        Ok (begun g.given (with_memory s memory) k 0)))

    module _ (d : framed_step g s ≡ goes v (begin_in_block g s b o)) where
      in_block : (c : Option MemoryBlock) → slice_get s.world.memory b ≡ c → (fits : Bool)
          → ((o.bits == 0) && has_size s.world.memory b size) ≡ fits → (owns : Bool)
          → ((o.bits == 0) && may_be_owned Kind.Stack size (slice_get s.world.memory b)) ≡ owns
          → HasBegunWithin g s name frame
      in_block c there false e owns e' = absurd (not_fine Cause.Begin (d
          ∙ ap (λ (t : Bool). goes v (in_first t)) e))
      in_block c there true e false e' = absurd (not_fine Cause.Begin (d
          ∙ ap (λ (t : Bool). goes v (in_first t)) e ∙ ap (λ (t : Bool). goes v (in_second t)) e'))
      in_block None there true e true e' = absurd (false≢true (ap (λ (k : Option MemoryBlock). option_map_or
          (λ (x : MemoryBlock). x.size == size) k false) (sym there)
          ∙ (and_parts (o.bits == 0) (has_size s.world.memory b size) e).1))
      in_block (Some u) there true e true e' =
          let zero : o.bits ≡ 0 = equal_numbers o.bits 0 (and_parts (o.bits == 0) (has_size s.world.memory b size) e).0
          in
          let at_start : v ≡ pointer_at b 0 = ap (pointer_at b) zero in
          record {
            alone = alone;
            block = b;
            start = 0;
            leads = at ∙ at_start;
            finished = finished;
            after = with_block s.world.memory b (owned_to size);
            within = InBlock u refl there (given_block size u
                (ap (λ (k : Option MemoryBlock). option_map_or (λ (x : MemoryBlock). x.size == size) k false)
                (sym there) ∙ (and_parts (o.bits == 0) (has_size s.world.memory b size) e).1)
                (ap (may_be_owned Kind.Stack size) (sym there) ∙ (and_parts (o.bits == 0) (may_be_owned Kind.Stack size
                (slice_get s.world.memory b)) e').1)) refl;
            is = d ∙ ap (λ (t : Bool). goes v (in_first t)) e ∙ ap (λ (t : Bool). goes v (in_second t)) e'
                ∙ ap (gives (begun g.given (with_memory s (with_block s.world.memory b (owned_to size))) b 0) (Some name))
                at_start
                ∙ started b 0 (with_block s.world.memory b (owned_to size));
          }

    by_room : (t : Bool) → has_room g o.bits size (frame_around g s.instances b o.bits) ≡ t
        → framed_step g s ≡ goes v (if t then begin_in_frame g s b o else begin_in_block g s b o)
        → HasBegunWithin g s name frame
    by_room true e d = in_field e d (is_live_at s.world.memory b) refl
    by_room false e d = in_block d (slice_get s.world.memory b) refl
        ((o.bits == 0) && has_size s.world.memory b size) refl
        ((o.bits == 0) && may_be_owned Kind.Stack size (slice_get s.world.memory b)) refl

  by_value : s.top.instance ≡ None → are_finished_at s.instances frame ≡ true → (v : Value) → frame ≡ v
      → framed_step g s ≡ goes v (begin_given_at g s v) → HasBegunWithin g s name frame
  by_value alone finished Value.Poison at d = absurd (not_fine Cause.Begin d)
  by_value alone finished (Value.Int x) at d = absurd (not_fine Cause.Begin d)
  by_value alone finished (Value.Ptr Pointer.Null) at d = absurd (not_fine Cause.Begin d)
  by_value alone finished (Value.Ptr (Pointer.Func f)) at d = absurd (not_fine Cause.Begin d)
  by_value alone finished (Value.Ptr (Pointer.At b o)) at d = by_room alone finished b o at
      (has_room g o.bits size (frame_around g s.instances b o.bits)) refl d

  by_test : (t : Bool) → (is_none s.top.instance && are_finished_at s.instances frame) ≡ t
      → HasBegunWithin g s name frame
  by_test false e = absurd (not_fine Cause.Begin (does ∙ ap (λ (t : Bool). or_undefined g.given s
      (and_then (ok_if t Cause.Begin s) (λ (z : State). and_then (begin_given_at g z frame)
      (λ (y : State). Ok (gives y (Some name) frame))))) e))
  by_test true e =
      let p = and_parts (is_none s.top.instance) (are_finished_at s.instances frame) e in
      by_value (none_alone s.top.instance p.0) p.1 frame refl (does ∙ ap (λ (t : Bool). or_undefined g.given s
      (and_then (ok_if t Cause.Begin s) (λ (z : State). and_then (begin_given_at g z frame)
      (λ (y : State). Ok (gives y (Some name) frame))))) e)

  pub has_begun_within : HasBegunWithin g s name frame
  has_begun_within = by_test (is_none s.top.instance && are_finished_at s.instances frame) refl
