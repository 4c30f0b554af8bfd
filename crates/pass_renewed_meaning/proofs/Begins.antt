-- coro.begin in both runs: the block becomes owned, and the instance begins with its slots.
use Rattle.std.proofs.Common.{◌≡◌, ℕ, suc, ◌+◌, ◌%◌, ◌^◌, Bool, true, false, not, List, [], ◌∷◌, ◌++◌, length, Option}
use Rattle.std.proofs.Common.{Some, None, Result, Ok, Err, refl, sym, ap, ◌∙◌, subst, append-nil, ◌==◌, ◌&&◌}
use Rattle.std.proofs.lemmas.Bool.{eqb-true, false≢true}
use Rattle.std.specs.Prelude.{filter, is_none, is_some, slice_get, slice_set}
use Rattle.run_types.specs.ir_base.declared.cause.Cause.{Cause}
use Rattle.run_types.specs.ir_model.Names.{function_at}
use Rattle.run_types.specs.ir_model.declared.instr.Instr.{Instr}
use Rattle.run_types.specs.ir_model.declared.module.Function.{Function}
use Rattle.run_types.specs.ir_model.declared.module.Module.{Module}
use Rattle.run_types.specs.ir_model.declared.operand.Intrinsic.{Intrinsic}
use Rattle.run_types.specs.ir_paths.Facts.{AreFactsOf}
use Rattle.run_types.specs.ir_paths.Windows.{is_call_of}
use Rattle.run_types.specs.ir_paths.declared.point.Facts.{Facts}
use Rattle.run_types.proofs.frame_slots.Points.{where_complete}
use Rattle.run_types.specs.rule_windows.Sets.{RunsOut}
use Rattle.run_types.specs.run_laws.memory.Pointers.{Home, IsValue, home_of}
use Rattle.run_types.specs.run_memory.Memory.{check, is_live, may_be_owned, own, owned_to, same_kind, with_block}
use Rattle.run_types.specs.run_memory.Pointers.{moved}
use Rattle.run_types.specs.run_memory.declared.block.Kind.{Kind}
use Rattle.run_types.specs.run_memory.declared.block.MemoryBlock.{MemoryBlock}
use Rattle.run_types.specs.run_memory.declared.pointer.Offset.{Offset}
use Rattle.run_types.specs.run_memory.declared.pointer.Pointer.{Pointer}
use Rattle.run_types.specs.run_memory.declared.pointer.Value.{Value}
use Rattle.run_types.specs.run_source.Source.{begin, begin_at, begun, is_among, new_instance}
use Rattle.run_types.specs.run_source.State.{function_of, gives, own_facts, own_frame, with_memory}
use Rattle.run_types.specs.run_source.declared.state.Activation.{Activation}
use Rattle.run_types.specs.run_source.declared.state.Instance.{Instance}
use Rattle.run_types.specs.run_source.declared.state.State.{State}
use Rattle.run_types.specs.run_source_tables.Given.{Given, frame_of}
use Rattle.run_types.specs.run_step.Results.{and_then, found, ok_if}
use Rattle.run_types.specs.run_step.Step.{block_of}
use Rattle.run_types.specs.run_step.Values.{with_result}
use Rattle.run_types.specs.run_step.declared.world.Slot.{Slot}
use Rattle.pass_renewed_meaning.proofs.BegunStates.{begun_states}
use Rattle.pass_renewed_meaning.proofs.Owned.{both_owned}
use Rattle.pass_renewed_meaning.specs.Begins.{IsBeginOf}
use Rattle.run_types.proofs.pass_renewed_proof.Ahead.{next_edge}
use Rattle.run_types.proofs.pass_renewed_proof.Dying.{AreCarriedOver}
use Rattle.run_types.proofs.pass_renewed_proof.Giving.{IsGivenName, envs, of_giving, others, unset}
use Rattle.run_types.proofs.pass_renewed_proof.Left.{instr_there}
use Rattle.run_types.proofs.pass_renewed_proof.Passing.{edge_on, passed_beside, unended, unstarted}
use Rattle.run_types.proofs.pass_renewed_proof.RampSlots.{no_ramp_slot, renewed_ramp_slot, same_ramp_slot}
use Rattle.run_types.proofs.pass_renewed_proof.Sets.{result_elsewhere}
use Rattle.run_types.specs.pass_renewed_proof.Beside.{AreInstancesBeside, IsBeside, place_in}
use Rattle.run_types.specs.pass_renewed_proof.Ledger.{IsMate, Ledger, Seat}
use Rattle.run_types.specs.pass_renewed_proof.Left.{behind}
use Rattle.run_types.specs.pass_renewed_proof.Renewed.{Flags, Roots, renewed_facts}
use Rattle.run_types.specs.pass_renewed_proof.SlotRules.{KeepsSlots}

both_first : (a b : Bool) → (a && b) ≡ true → a ≡ true
both_first true b e = refl
both_first false b e = absurd (false≢true e)

both_second : (a b : Bool) → (a && b) ≡ true → b ≡ true
both_second true b e = e
both_second false b e = absurd (false≢true e)

-- ---- what a begin leaves

set_last : {A : Type 0} (xs : List A) (x y : A) → slice_set (xs ++ x ∷ []) (length xs) y ≡ xs ++ y ∷ []
set_last [] x y = refl
set_last (z ∷ xs) x y = ap (λ zs. z ∷ zs) (set_last xs x y)

-- the instance gets the slots that aren't ramp slots
begun_is : (g : Given) (s : State) (b : ℕ) → begun g s b 0 ≡ record s {
  instances = s.instances ++ record (new_instance s.top.func b 0) {
    slots = filter (λ slot. not (is_among (own_facts g s).ramp_slots slot)) s.top.slots;
  } ∷ [];
  top = record s.top {
    instance = Some (length s.instances);
    slots = filter (is_among (own_facts g s).ramp_slots) s.top.slots;
  };
}
begun_is g s b = λ i. record s {
  instances = (set_last s.instances (new_instance s.top.func b 0) _ ∙ ap (λ (slots : List Slot). s.instances ++ record
      (new_instance s.top.func b 0) { slots = slots } ∷ []) (append-nil (filter (λ slot. not (is_among (own_facts g
      s).ramp_slots slot)) s.top.slots))) i;
  top = record s.top {
    instance = Some (length s.instances);
    slots = append-nil (filter (is_among (own_facts g s).ramp_slots) s.top.slots) i;
  };
}

-- what a begin finds
pub record IsOwned (n : List MemoryBlock) (b : ℕ) (o : Offset) (size : ℕ) : Type 0 where
  start : (o.bits == 0) ≡ true
  block : MemoryBlock
  there : slice_get n b ≡ Some block
  may : may_be_owned Kind.Allocator size (Some block) ≡ true

owned_at : (n : List MemoryBlock) (b : ℕ) (o : Offset) (size : ℕ) → ((o.bits == 0) && may_be_owned Kind.Allocator size
    (slice_get n b)) ≡ true → IsOwned n b o size
owned_at n b o size e = on (slice_get n b) refl (both_second (o.bits == 0) _ e)
  where
    on : (z : Option MemoryBlock) → slice_get n b ≡ z → may_be_owned Kind.Allocator size z ≡ true → IsOwned n b o size
    on None at may = absurd (false≢true may)
    on (Some x) at may = record { start = both_first (o.bits == 0) _ e; block = x; there = at; may = may }

no_owner : (size : ℕ) (x : MemoryBlock) → may_be_owned Kind.Allocator size (Some x) ≡ true → x.owned ≡ None
no_owner size x may = on x.owned refl
  where
    third : not (is_some x.owned) ≡ true
    third = both_second (is_live x.life && same_kind x.kind Kind.Allocator) _ (both_first ((is_live x.life && same_kind
        x.kind Kind.Allocator) && not (is_some x.owned)) _ may)

    on : (o : Option ℕ) → x.owned ≡ o → x.owned ≡ None
    on None e = e
    on (Some n) e = absurd (false≢true (ap (λ o. not (is_some o)) (sym e) ∙ third))

of_allocator : (size : ℕ) (x : MemoryBlock) → may_be_owned Kind.Allocator size (Some x) ≡ true
    → same_kind x.kind Kind.Allocator ≡ true
of_allocator size x may = both_second (is_live x.life) _ (both_first (is_live x.life && same_kind x.kind Kind.Allocator)
    _ (both_first ((is_live x.life && same_kind x.kind Kind.Allocator) && not (is_some x.owned)) _ may))

from_zero : (n : ℕ) → (n == 0) ≡ true → ((n + 0) % 2 ^ 64 == 0) ≡ true
from_zero n e = subst (λ k. ((k + 0) % 2 ^ 64 == 0) ≡ true) (sym (eqb-true n 0 e)) refl

-- there are as many instances
as_many : (m : Module) (flags : Flags) (roots : Roots) (l : Ledger) (memory : List MemoryBlock) (i : ℕ) (xs ys : List
    Instance) → AreInstancesBeside m flags roots l memory i xs ys → length xs ≡ length ys
as_many m flags roots l memory i [] [] h = refl
as_many m flags roots l memory i [] (y ∷ ys) h = absurd h
as_many m flags roots l memory i (x ∷ xs) [] h = absurd h
as_many m flags roots l memory i (x ∷ xs) (y ∷ ys) h = ap suc (as_many m flags roots l memory (i + 1) xs ys h.1)

-- ---- the states

module _ (m : Module) (flags : Flags) (roots : Roots) (keeps : (func : ℕ)
    → KeepsSlots m (function_at m func) (flags func) (roots func)) (s t : State) (beside : IsBeside m flags roots s t)
    (i : Instr) (result : Option ℕ) (is : IsBeginOf m roots s.top i result) (fresh : s.top.instance ≡ None) where
  abbrev l : Ledger
  l = beside.ledger

  abbrev f : Function
  f = function_at m s.top.func

  runs : RunsOut (function_at m s.top.func) (behind (place_in s.top))
  runs = record {
    start = place_in s.top;
    is_start = where_complete (is_call_of Intrinsic.CoroBegin) f (place_in s.top) i (instr_there f (place_in s.top) i
        is.giving.here) is.is;
    path = record { between = []; is_path = next_edge f s.top.block s.top.at i is.giving.here };
  }

  module _ (b : ℕ) (o : Offset) (size : ℕ) (found : IsOwned s.world.memory b o size) (seen : (home_of
      beside.ledger.homes b).is_seen ≡ true) (p q : Value) (stands : IsValue beside.ledger.homes p q) where
    none : beside.ledger.seats b ≡ None
    none = on (l.seats b) refl
      where
        on : (z : Option Seat) → l.seats b ≡ z → l.seats b ≡ None
        on None e = e
        on (Some seat) e = absurd (false≢true (sym (beside.entered.kinds b seat found.block e found.there)
            ∙ of_allocator size found.block found.may))

    pub mate : IsMate beside.ledger t.world.memory b found.block
    mate = beside.entered.mates b found.block none found.there

    abbrev memory : List MemoryBlock
    memory = with_block s.world.memory b (owned_to size)

    abbrev target : List MemoryBlock
    target = with_block t.world.memory mate.block (owned_to size)

    owned : AreCarriedOver m beside.ledger s.world.memory memory t.world.memory target
    owned = both_owned m l s.world.memory t.world.memory b mate.block size beside.entered none mate.home mate.owner
        mate.shown (record {
          memory = beside.world.memory;
          nulls = beside.world.nulls;
          bounds = beside.world.bounds;
        }) found.block found.there (no_owner size found.block found.may)

    name : IsGivenName m flags roots beside.ledger s.top result p q
    name = (of_giving m flags roots l s.top i result p q is.giving).name

    -- both go on behind it, with the block owned
    abbrev passed : IsBeside m flags roots (record s {
      world = record s.world { memory = with_block s.world.memory b (owned_to size) };
      top = record s.top { at = s.top.at + 1; values = with_result s.top.values result p };
    }) (record t {
      world = record t.world { memory = with_block t.world.memory mate.block (owned_to size) };
      top = record t.top { at = t.top.at + 1; values = with_result beside.top.values result q };
    })
    passed = passed_beside m flags roots s t beside l (record s.world { memory = memory }) (record t.world {
      memory = target;
    }) owned.carried owned.kept (with_result s.top.values result p) (with_result beside.top.values result q)
        (edge_on m flags roots l s.instances s.world.memory t.world.memory (length s.below) s.top t.top beside.top
        is.giving.place i is.giving.here)
        (λ slot d flagged at. unstarted f (place_in s.top) i is.giving.here is.giving.no_start slot)
        (λ slot d flagged at live. unended f (place_in s.top) i is.giving.here is.giving.no_end slot)
        is.giving.place
        (envs m flags roots keeps s t beside l (record s.world { memory = memory }) (record t.world {
          memory = target;
        }) owned.carried result p q name stands)
        (others m flags roots keeps s t beside l (record s.world { memory = memory }) (record t.world {
          memory = target;
        }) owned.carried result p q name stands)
        (λ slot flagged. (
          result_elsewhere s.top.values result slot p (unset m flags roots keeps s t beside l (record s.world {
            memory = memory;
          }) (record t.world { memory = target }) owned.carried result p q name stands slot flagged),
          result_elsewhere beside.top.values result slot q (unset m flags roots keeps s t beside l (record s.world {
            memory = memory;
          }) (record t.world { memory = target }) owned.carried result p q name stands slot flagged),
        ))
        (record {
          memory = owned.standing.memory;
          nulls = owned.standing.nulls;
          bounds = owned.standing.bounds;
          events = beside.world.events;
          answers = beside.world.answers;
          allocs = beside.world.allocs;
        }) owned.entered

    module _ (g h : Given) (ours : AreFactsOf (function_at m s.top.func) (own_facts g s)) (theirs : own_facts h t ≡
        renewed_facts (flags s.top.func) (function_at m s.top.func) (own_facts g s)) where
      abbrev ramp : List ℕ
      ramp = (own_facts g s).ramp_slots

      abbrev facts : Facts
      facts = renewed_facts (flags s.top.func) (function_at m s.top.func) (own_facts g s)

      func_is : s.top.func ≡ t.top.func
      func_is = ap (λ (z : Activation). z.func) (sym beside.top.is)

      values_are : beside.top.values ≡ t.top.values
      values_are = ap (λ (z : Activation). z.values) (sym beside.top.is)

      many : length s.instances ≡ length t.instances
      many = as_many m flags roots l s.world.memory 0 s.instances t.instances beside.instances

      pub states : IsBeside m flags roots (gives (begun g (with_memory s memory) b 0) result p) (gives (begun h (with_memory t
          target) mate.block 0) result q)
      states = subst (λ (z : State). IsBeside m flags roots z (gives (begun h (with_memory t target) mate.block 0)
          result q)) (ap (λ (z : State). gives z result p) (sym (begun_is g (with_memory s memory) b))) (subst (λ (z :
          State). IsBeside m flags roots (gives (record s {
            world = record s.world { memory = memory };
            instances = s.instances ++ record (new_instance s.top.func b 0) {
              slots = filter (λ slot. not (is_among ramp slot)) s.top.slots;
            } ∷ [];
            top = record s.top { instance = Some (length s.instances); slots = filter (is_among ramp) s.top.slots };
          }) result p) z) (sym (ap (λ (z : State). gives z result q) (begun_is h (with_memory t target) mate.block)))
          (subst (λ (z : State). IsBeside m flags roots (gives (record s {
            world = record s.world { memory = memory };
            instances = s.instances ++ record (new_instance s.top.func b 0) {
              slots = filter (λ slot. not (is_among ramp slot)) s.top.slots;
            } ∷ [];
            top = record s.top { instance = Some (length s.instances); slots = filter (is_among ramp) s.top.slots };
          }) result p) z) same_state (begun_states m flags roots _ _ passed b mate.block mate.home none fresh is.stays
          runs ramp facts.ramp_slots
          (λ slot flagged. no_ramp_slot m f (flags s.top.func) (roots s.top.func) (keeps s.top.func) slot flagged
          (own_facts g s) ours)
          (λ slot flagged. renewed_ramp_slot m f (flags s.top.func) (roots s.top.func) (keeps s.top.func) (own_facts g
          s) slot flagged)
          (λ slot off. same_ramp_slot f (flags s.top.func) (own_facts g s) slot off))))
        where
          same_state : record t {
            world = record t.world { memory = target };
            instances = t.instances ++ record (new_instance s.top.func mate.block 0) {
              slots = filter (λ slot. not (is_among facts.ramp_slots slot)) t.top.slots;
            } ∷ [];
            top = record t.top {
              at = t.top.at + 1;
              values = with_result beside.top.values result q;
              instance = Some (length s.instances);
              slots = filter (is_among facts.ramp_slots) t.top.slots;
            };
          } ≡ gives (record t {
            world = record t.world { memory = target };
            instances = t.instances ++ record (new_instance t.top.func mate.block 0) {
              slots = filter (λ slot. not (is_among (own_facts h t).ramp_slots slot)) t.top.slots;
            } ∷ [];
            top = record t.top {
              instance = Some (length t.instances);
              slots = filter (is_among (own_facts h t).ramp_slots) t.top.slots;
            };
          }) result q
          same_state = λ j. record t {
            world = record t.world { memory = target };
            instances = t.instances ++ record (new_instance (func_is j) mate.block 0) {
              slots = filter (λ slot. not (is_among (sym theirs j).ramp_slots slot)) t.top.slots;
            } ∷ [];
            top = record t.top {
              at = t.top.at + 1;
              values = with_result (values_are j) result q;
              instance = Some (many j);
              slots = filter (is_among (sym theirs j).ramp_slots) t.top.slots;
            };
          }

-- ---- the step

module _ (flags : Flags) (roots : Roots) (g h : Given) (code : h.code ≡ g.code) (sizes : h.sizes ≡ g.sizes)
    (keeps : (func : ℕ) → KeepsSlots g.code (function_at g.code func) (flags func) (roots func)) (s t : State)
    (beside : IsBeside g.code flags roots s t) (i : Instr) (result : Option ℕ) (is : IsBeginOf g.code roots s.top i
    result) (ours : AreFactsOf (function_of g s) (own_facts g s)) (theirs : own_facts h t ≡ renewed_facts (flags
    s.top.func) (function_of g s) (own_facts g s)) where
  same_ok : {A : Type 0} {a c : A} → ◌≡◌ {A = Result A Cause} (Ok a) (Ok c) → a ≡ c
  same_ok e = cc

  -- what the second run does, by what the first has done
  abbrev Goes : State → Value → Type 0
  Goes after q = (other : State) × (begin h t result q ≡ Ok other) × IsBeside g.code flags roots after other

  frames : own_frame h t ≡ own_frame g s
  frames = λ j. frame_of (sizes j) (beside.top.is j).func

  abbrev size : ℕ
  size = (own_frame g s).size

  module _ (b : ℕ) (o : Offset) (q : Value) (stands : IsValue beside.ledger.homes (Value.Ptr (Pointer.At b o)) q)
      (after : State) where
    abbrev begins_with : State → Result (List MemoryBlock) Cause → Result State Cause
    begins_with z r = and_then (and_then r (λ memory. and_then (found Cause.Begin (Some b)) (λ d. Ok (begun g (with_memory
        z memory) d 0)))) (λ u. Ok (gives u result (Value.Ptr (Pointer.At b o))))

    on_owned : s.top.instance ≡ None → (u : Bool) → ((o.bits == 0) && may_be_owned Kind.Allocator size (slice_get
        s.world.memory b)) ≡ u → begins_with s (check u Cause.Begin (Ok (with_block s.world.memory b (owned_to size))))
        ≡ Ok after → Goes after q
    on_owned fresh false e k = let c : Err Cause.Begin ≡ Ok after = k in absurd (cc)
    on_owned fresh true e k =
        let owned = owned_at s.world.memory b o size e in
        let mate = mate g.code flags roots keeps s t beside i result is fresh b o size owned stands.0 (Value.Ptr
        (Pointer.At b o)) q stands in
        let at : q ≡ Value.Ptr (Pointer.At mate.block (moved o 0)) = stands.1 ∙ ap (λ (z : Home). Value.Ptr (Pointer.At
        z.block (moved o z.offset))) mate.home in
        let may : ((moved o 0).bits == 0) && may_be_owned Kind.Allocator (own_frame h t).size (slice_get t.world.memory
        mate.block) ≡ true = (λ j. from_zero o.bits owned.start j && may_be_owned Kind.Allocator (frames j).size
        (mate.there j)) ∙ owned.may in (
          gives (begun h (with_memory t (with_block t.world.memory mate.block (owned_to size))) mate.block 0) result q,
          ap (begin h t result) at
              ∙ ap (λ w. and_then (ok_if (is_none w) Cause.Begin t) (λ z. and_then (begin_at h z (Value.Ptr (Pointer.At
              mate.block (moved o 0))) Kind.Allocator) (λ u. Ok (gives u result (Value.Ptr (Pointer.At mate.block (moved
              o 0))))))) (none_there fresh)
              ∙ ap (λ w. and_then (and_then (check w Cause.Begin (Ok (with_block t.world.memory mate.block (owned_to
              (own_frame h t).size)))) (λ memory. and_then (found Cause.Begin (Some mate.block)) (λ d. Ok (begun h
              (with_memory t memory) d 0)))) (λ u. Ok (gives u result (Value.Ptr (Pointer.At mate.block (moved o 0))))))
              may
              ∙ (λ j. Ok (gives (begun h (with_memory t (with_block t.world.memory mate.block (owned_to (frames
              j).size))) mate.block 0) result (sym at j))),
          subst (λ z. IsBeside g.code flags roots z (gives (begun h (with_memory t (with_block t.world.memory mate.block
              (owned_to size))) mate.block 0) result q)) (same_ok k) (states g.code flags roots keeps s t beside i result
              is fresh b o size owned stands.0 (Value.Ptr (Pointer.At b o)) q stands g h ours theirs),
        )
      where
        none_there : s.top.instance ≡ None → t.top.instance ≡ None
        none_there fresh = ap (λ (z : Activation). z.instance) beside.top.is ∙ fresh

    pub begins_at : (z : Option ℕ) → s.top.instance ≡ z → and_then (ok_if (is_none z) Cause.Begin s) (λ u. and_then
        (begin_at g u (Value.Ptr (Pointer.At b o)) Kind.Allocator) (λ w. Ok (gives w result (Value.Ptr (Pointer.At b
        o))))) ≡ Ok after → Goes after q
    begins_at (Some n) e k = let c : Err Cause.Begin ≡ Ok after = k in absurd (cc)
    begins_at None e k = on_owned e ((o.bits == 0) && may_be_owned Kind.Allocator size (slice_get s.world.memory b))
        refl k

  fails : (p : Value) (after : State) → ((n : List MemoryBlock) (size : ℕ) → own n p size Kind.Allocator ≡ Err
      Cause.Begin) → begin g s result p ≡ Ok after → ⊥
  fails p after never k = on s.top.instance refl (never s.world.memory size)
    where
      on : (z : Option ℕ) → s.top.instance ≡ z → own s.world.memory p size Kind.Allocator ≡ Err Cause.Begin → ⊥
      on (Some n) e r =
          let c : Err Cause.Begin ≡ Ok after = ap (λ w. and_then (ok_if (is_none w) Cause.Begin s) (λ u. and_then
          (begin_at g u p Kind.Allocator) (λ w. Ok (gives w result p)))) (sym e) ∙ k in
          absurd (cc)
      on None e r =
          let c : Err Cause.Begin ≡ Ok after = ap (λ w. and_then (and_then w (λ memory. and_then (found Cause.Begin
          (block_of p)) (λ d. Ok (begun g (with_memory s memory) d 0)))) (λ w. Ok (gives w result p))) (sym r)
          ∙ ap (λ w. and_then (ok_if (is_none w) Cause.Begin s) (λ u. and_then (begin_at g u p Kind.Allocator) (λ w. Ok
          (gives w result p)))) (sym e) ∙ k in
          absurd (cc)

  pub begins_beside : (p q : Value) → IsValue beside.ledger.homes p q → (after : State) → begin g s result p ≡ Ok after
      → Goes after q
  begins_beside Value.Poison q stands after k = absurd (fails Value.Poison after (λ n size. refl) k)
  begins_beside (Value.Int n) q stands after k = absurd (fails (Value.Int n) after (λ m size. refl) k)
  begins_beside (Value.Ptr Pointer.Null) q stands after k = absurd (fails (Value.Ptr Pointer.Null) after (λ n size.
      refl) k)
  begins_beside (Value.Ptr (Pointer.Func f)) q stands after k = absurd (fails (Value.Ptr (Pointer.Func f)) after (λ n
      size. refl) k)
  begins_beside (Value.Ptr (Pointer.At b o)) q stands after k = begins_at b o q stands after s.top.instance refl k
