-- What a begin in a block of an allocator does to the framed run.
use Rattle.std.proofs.Common.{◌≡◌, ℕ, ◌≤◌, Bool, true, false, List, [], ◌∷◌, ◌++◌, length, Option, Some, None, Ok, Err, refl, sym, ap, ◌∙◌, subst, arith}
use Rattle.std.proofs.lemmas.Bool.{and_parts}
use Rattle.std.specs.Prelude.{cond, filter, is_none, is_some, nat_le, not, slice_get, ◌&&◌, ◌==◌}
use Rattle.pass_proofs.specs.ir_base.declared.cause.Cause.{Cause}
use Rattle.pass_proofs.proofs.ir_laws.facts.Truth.{equal_numbers}
use Rattle.pass_split_proof.specs.states.Begun.{IsFreshBlock}
use Rattle.pass_split_proof.specs.steps.Begins.{begun_to}
use Rattle.pass_proofs.specs.run_agreement.Machines.{IsFine}
use Rattle.pass_proofs.specs.run_framed.Framed.{FramedGiven, framed_step}
use Rattle.pass_proofs.specs.run_laws.access.Lines.{pointer_at}
use Rattle.pass_proofs.specs.run_laws.changed.Changed.{Each}
use Rattle.pass_proofs.specs.run_memory.Memory.{check, is_live, may_be_owned, owned_to, same_kind, with_block}
use Rattle.pass_proofs.specs.run_memory.declared.block.Kind.{Kind}
use Rattle.pass_proofs.specs.run_memory.declared.block.MemoryBlock.{MemoryBlock}
use Rattle.pass_proofs.specs.run_memory.declared.pointer.Offset.{Offset}
use Rattle.pass_proofs.specs.run_memory.declared.pointer.Pointer.{Pointer}
use Rattle.pass_proofs.specs.run_memory.declared.pointer.Value.{Value}
use Rattle.pass_proofs.proofs.run_source.Beginning.{begun-is}
use Rattle.pass_proofs.specs.run_source.Source.{begin, begin_at, begun, is_among, new_instance}
use Rattle.pass_proofs.specs.run_source.State.{gives, or_undefined, own_facts, own_frame, with_memory}
use Rattle.pass_proofs.specs.run_source.declared.state.State.{State}
use Rattle.pass_proofs.specs.run_step.Results.{and_then, found, ok_if}
use Rattle.pass_proofs.specs.run_step.Step.{block_of}
use Rattle.pass_proofs.specs.run_step.Values.{with_value}
use Rattle.pass_proofs.specs.run_step.declared.world.Slot.{Slot}

-- ---- all slots are the ramp's

pub all_kept : (test : Slot → Bool) (xs : List Slot) → Each (λ (x : Slot). test x ≡ true) xs → filter test xs ≡ xs
all_kept test [] e = refl
all_kept test (x ∷ xs) e = ap (λ (b : Bool). cond b (x ∷ filter test xs) (filter test xs)) e.0
    ∙ ap (λ (ys : List Slot). x ∷ ys) (all_kept test xs e.1)

pub none_kept : (test : Slot → Bool) (xs : List Slot) → Each (λ (x : Slot). test x ≡ true) xs
    → filter (λ x. not (test x)) xs ≡ []
none_kept test [] e = refl
none_kept test (x ∷ xs) e = ap (λ (b : Bool). cond (not b) (x ∷ filter (λ y. not (test y)) xs)
    (filter (λ y. not (test y)) xs)) e.0 ∙ none_kept test xs e.1

-- ---- the block

kind_is : (k : Kind) → same_kind k Kind.Allocator ≡ true → k ≡ Kind.Allocator
kind_is Kind.Allocator e = refl
kind_is Kind.Stack e = absurd (cc)
kind_is Kind.Slot e = absurd (cc)
kind_is Kind.Global e = absurd (cc)
kind_is Kind.Constant e = absurd (cc)

not_true : (b : Bool) → not b ≡ true → b ≡ false
not_true true e = absurd (cc)
not_true false e = refl

room_is : (a b : ℕ) → nat_le a b ≡ true → a ≤ b
room_is a b e = grind arith

fresh_block : (size : ℕ) (u : MemoryBlock) → may_be_owned Kind.Allocator size (Some u) ≡ true → IsFreshBlock size u
fresh_block size u e =
    let c = and_parts (is_live u.life && same_kind u.kind Kind.Allocator && not (is_some u.owned)) (nat_le size u.size) e
    in
    let b = and_parts (is_live u.life && same_kind u.kind Kind.Allocator) (not (is_some u.owned)) c.0 in
    let a = and_parts (is_live u.life) (same_kind u.kind Kind.Allocator) b.0 in
    record {
      live = a.0;
      kind = kind_is u.kind a.1;
      unowned = not_true (is_some u.owned) b.1;
      room = room_is size u.size c.1;
    }

-- ---- the step

-- a begin that isn't undefined has the address of a fresh block
pub record HasBegun (g : FramedGiven) (s : State) (name : ℕ) (mem : Value) : Type 0 where
  pub alone : s.top.instance ≡ None
  pub block : ℕ
  pub leads : mem ≡ pointer_at block 0
  pub source : MemoryBlock
  pub there : slice_get s.world.memory block ≡ Some source
  pub fresh : IsFreshBlock (own_frame g.given s).size source
  pub is : framed_step g s ≡ begun_to s (new_instance s.top.func block 0)
      (with_block s.world.memory block (owned_to (own_frame g.given s).size))
      (with_value s.top.values name (pointer_at block 0))

module _ (g : FramedGiven) (s : State) (name : ℕ) (mem : Value) (fine : IsFine (framed_step g s).outcome)
    (does : framed_step g s ≡ or_undefined g.given s (begin g.given s (Some name) mem))
    (slots : Each (λ (x : Slot). is_among (own_facts g.given s).ramp_slots x ≡ true) s.top.slots) where
  abbrev size : ℕ
  size = (own_frame g.given s).size

  not_fine : (c : Cause) → framed_step g s ≡ or_undefined g.given s (Err c) → ⊥
  not_fine c e = subst (λ (x : State). IsFine x.outcome) e fine

  -- begun with its slots
  started : (b : ℕ) → gives (begun g.given (with_memory s (with_block s.world.memory b (owned_to size))) b 0) (Some name)
      (pointer_at b 0) ≡ begun_to s (new_instance s.top.func b 0) (with_block s.world.memory b (owned_to size))
      (with_value s.top.values name (pointer_at b 0))
  started b = ap (λ (z : State). gives z (Some name) (pointer_at b 0))
      (sym (begun-is g.given (with_memory s (with_block s.world.memory b (owned_to size))) b 0 (length s.instances)
      (s.instances ++ new_instance s.top.func b 0 ∷ []) [] s.top.slots refl refl
      (sym (none_kept (is_among (own_facts g.given s).ramp_slots) s.top.slots slots))
      (sym (all_kept (is_among (own_facts g.given s).ramp_slots) s.top.slots slots))))

  by_block : (b : ℕ) (o : Offset) → s.top.instance ≡ None → mem ≡ Value.Ptr (Pointer.At b o)
      → framed_step g s ≡ or_undefined g.given s (and_then (begin_at g.given s (Value.Ptr (Pointer.At b o))
      Kind.Allocator) (λ (z : State). Ok (gives z (Some name) (Value.Ptr (Pointer.At b o)))))
      → (c : Option MemoryBlock) → slice_get s.world.memory b ≡ c
      → (t : Bool) → ((o.bits == 0) && may_be_owned Kind.Allocator size c) ≡ t → HasBegun g s name mem
  by_block b o alone at d c there false e = absurd (not_fine Cause.Begin (d
      ∙ ap (λ (t : Bool). or_undefined g.given s (and_then (and_then (check t Cause.Begin
      (Ok (with_block s.world.memory b (owned_to size)))) (λ (memory : List MemoryBlock).
      and_then (found Cause.Begin (block_of (Value.Ptr (Pointer.At b o)))) (λ (k : ℕ).
      Ok (begun g.given (with_memory s memory) k 0))))
      (λ (z : State). Ok (gives z (Some name) (Value.Ptr (Pointer.At b o))))))
      (ap (λ (c : Option MemoryBlock). (o.bits == 0) && may_be_owned Kind.Allocator size c) there ∙ e)))
  by_block b o alone at d None there true e
      = absurd (none (and_parts (o.bits == 0) (may_be_owned Kind.Allocator size None) e).1)
    where
      none : false ≡ true → ⊥
      none h = cc
  by_block b o alone at d (Some u) there true e =
      let parts = and_parts (o.bits == 0) (may_be_owned Kind.Allocator size (Some u)) e in
      let zero : o.bits ≡ 0 = equal_numbers o.bits 0 parts.0 in
      let at_start : Value.Ptr (Pointer.At b o) ≡ pointer_at b 0 = ap (pointer_at b) zero in
      record {
        alone = alone;
        block = b;
        leads = at ∙ at_start;
        source = u;
        there = there;
        fresh = fresh_block size u parts.1;
        is = d
            ∙ ap (λ (t : Bool). or_undefined g.given s (and_then (and_then (check t Cause.Begin
            (Ok (with_block s.world.memory b (owned_to size)))) (λ (memory : List MemoryBlock).
            and_then (found Cause.Begin (block_of (Value.Ptr (Pointer.At b o)))) (λ (k : ℕ).
            Ok (begun g.given (with_memory s memory) k 0))))
            (λ (z : State). Ok (gives z (Some name) (Value.Ptr (Pointer.At b o))))))
            (ap (λ (c : Option MemoryBlock). (o.bits == 0) && may_be_owned Kind.Allocator size c) there ∙ e)
            ∙ ap (gives (begun g.given (with_memory s (with_block s.world.memory b (owned_to size))) b 0) (Some name))
            at_start
            ∙ started b;
      }

  by_value : (v : Value) → mem ≡ v → s.top.instance ≡ None
      → framed_step g s ≡ or_undefined g.given s (and_then (begin_at g.given s v Kind.Allocator)
      (λ (z : State). Ok (gives z (Some name) v))) → HasBegun g s name mem
  by_value Value.Poison at alone d = absurd (not_fine Cause.Begin d)
  by_value (Value.Int x) at alone d = absurd (not_fine Cause.Begin d)
  by_value (Value.Ptr Pointer.Null) at alone d = absurd (not_fine Cause.Begin d)
  by_value (Value.Ptr (Pointer.Func f)) at alone d = absurd (not_fine Cause.Begin d)
  by_value (Value.Ptr (Pointer.At b o)) at alone d = by_block b o alone at d (slice_get s.world.memory b) refl
      ((o.bits == 0) && may_be_owned Kind.Allocator size (slice_get s.world.memory b)) refl

  by_instance : (o : Option ℕ) → s.top.instance ≡ o → HasBegun g s name mem
  by_instance (Some i) e = absurd (not_fine Cause.Begin (does ∙ ap (λ (o : Option ℕ). or_undefined g.given s
      (and_then (ok_if (is_none o) Cause.Begin s) (λ (s : State). and_then (begin_at g.given s mem Kind.Allocator)
      (λ (z : State). Ok (gives z (Some name) mem))))) e))
  by_instance None e = by_value mem refl e (does ∙ ap (λ (o : Option ℕ). or_undefined g.given s
      (and_then (ok_if (is_none o) Cause.Begin s) (λ (s : State). and_then (begin_at g.given s mem Kind.Allocator)
      (λ (z : State). Ok (gives z (Some name) mem))))) e)

  pub has_begun : HasBegun g s name mem
  has_begun = by_instance s.top.instance refl
