-- A ramp that allocates begins in both runs.
use Rattle.std.proofs.Common.{◌≡◌, ◌≢◌, ◌<◌, ◌≤◌, ◌+◌, ◌^◌, ℕ, Bool, true, false, not, List, [], ◌∷◌, length, Ok, refl, sym, ap, ◌∙◌, subst, arith, if◌then◌else◌, ◌&&◌, ◌||◌, ◌==◌}
use Rattle.std.proofs.lemmas.Bool.{and_parts}
use Rattle.std.specs.Option.{option_map_or}
use Rattle.std.specs.Prelude.{None, Option, Some, filter, is_some, nat_le, slice_get}
use Rattle.pass_elide_proof.proofs.Addresses.{block_within, home_seen, moved_from_start, twin_back}
use Rattle.pass_elide_proof.proofs.AtCalls.{arg_stands, both_step, goes_on, own_place}
use Rattle.pass_elide_proof.proofs.BeginSteps.{HasBegunAt, begins, begun_in, framed_begins, has_begun_at}
use Rattle.pass_elide_proof.proofs.Begun.{HasBegun, begun_beside, filter_one, given_still}
use Rattle.pass_elide_proof.proofs.Setting.{IsOwnPlace, SetsAlike, went}
use Rattle.pass_elide_proof.proofs.Sides.{Anything, HaveOthers}
use Rattle.pass_elide_proof.proofs.Turning.{IsAllowed, both_allowed, shown_live, world_turned}
use Rattle.pass_elide_proof.specs.Beginning.{IsAtBegin, IsKnownTo}
use Rattle.pass_elide_proof.specs.Counts.{given_frames}
use Rattle.pass_elide_proof.specs.Elision.{Elision, differs_in, elided, elided_code, framed}
use Rattle.pass_elide_proof.specs.Match.{AreElided, AreModes, Given, IsNoGivenFrame, Same, Sides, held_name, holds_one, instance_in, is_given_mode, sides, was_given}
use Rattle.pass_proofs.proofs.ir_laws.facts.Lists.{get_last, get_within}
use Rattle.pass_proofs.proofs.run_laws.memory.Written.{changed_here, same_some}
use Rattle.pass_proofs.specs.ir_model.Ty.{Ty}
use Rattle.pass_proofs.specs.ir_model.declared.instr.Instr.{Instr}
use Rattle.pass_proofs.specs.ir_model.declared.operand.Arg.{Arg}
use Rattle.pass_proofs.specs.ir_model.declared.operand.Callee.{Callee}
use Rattle.pass_proofs.specs.ir_model.declared.operand.Intrinsic.{Intrinsic}
use Rattle.pass_proofs.specs.run_agreement.Machines.{IsFine}
use Rattle.pass_proofs.specs.run_framed.Framed.{allocates, frame_rights, framed_next, framed_step, is_given}
use Rattle.pass_proofs.specs.run_laws.changed.Changed.{Each}
use Rattle.pass_proofs.specs.run_laws.embedded.Making.{whole_home}
use Rattle.pass_proofs.specs.run_laws.memory.Pointers.{Home, IsValue, home_of}
use Rattle.pass_proofs.specs.run_laws.memory.Standing.{HasRights}
use Rattle.pass_proofs.specs.run_memory.Memory.{is_live, may_be_owned, owned_to, same_kind, with_block}
use Rattle.pass_proofs.specs.run_memory.Pointers.{moved, offset_of}
use Rattle.pass_proofs.specs.run_memory.declared.block.Byte.{Byte}
use Rattle.pass_proofs.specs.run_memory.declared.block.Kind.{Kind}
use Rattle.pass_proofs.specs.run_memory.declared.block.MemoryBlock.{MemoryBlock}
use Rattle.pass_proofs.specs.run_memory.declared.pointer.Pointer.{Pointer}
use Rattle.pass_proofs.specs.run_memory.declared.pointer.Value.{Value}
use Rattle.pass_proofs.specs.run_source.Source.{begin, new_instance}
use Rattle.pass_proofs.specs.run_source.State.{gives, own_frame}
use Rattle.pass_proofs.specs.run_source.declared.state.Activation.{Activation}
use Rattle.pass_proofs.specs.run_source.declared.state.Instance.{Instance}
use Rattle.pass_proofs.specs.run_source.declared.state.Mode.{Mode}
use Rattle.pass_proofs.specs.run_source.declared.state.State.{State}
use Rattle.pass_proofs.specs.run_source_tables.Given.{frame_of}
use Rattle.pass_proofs.specs.run_step.Step.{AtInstr}
use Rattle.pass_proofs.specs.run_step.Values.{arg_values, nth, pointer_to}
use Rattle.pass_proofs.specs.run_step.declared.world.Slot.{Slot}

pub no_both : (m : Bool) → m ≡ false → m ≡ true → ⊥
no_both true f h = absurd (cc)
no_both false f h = absurd (cc)

each_anything : (ss : List Slot) → Each (λ (z : Slot). Anything z.block) ss
each_anything [] = tt
each_anything (z ∷ ss) = (tt, each_anything ss)

known_others : (e : Elision) (ys : List Instance) (bs cs : List Activation) → Each (IsKnownTo ys) cs
    → HaveOthers e Anything (IsKnownTo ys) bs cs
known_others e ys [] cs h = tt
known_others e ys (a ∷ bs) [] h = tt
known_others e ys (a ∷ bs) (c ∷ cs) h = (
  record { slots = each_anything a.slots; held = λ name block is at. tt; is_known = h.0 },
  known_others e ys bs cs h.1,
)

-- no allocator's block is a stack block
pub heap_no_stack : (k : Kind) → same_kind k Kind.Allocator ≡ true → same_kind k Kind.Stack ≡ false
heap_no_stack Kind.Allocator h = refl
heap_no_stack Kind.Stack h = absurd (cc)
heap_no_stack Kind.Slot h = refl
heap_no_stack Kind.Global h = refl
heap_no_stack Kind.Constant h = refl

-- what may be owned
pub record IsFreeBlock (kind : Kind) (size : ℕ) (z : MemoryBlock) : Type 0 where
  pub live : is_live z.life ≡ true
  pub made : same_kind z.kind kind ≡ true
  pub unowned : z.owned ≡ None
  pub large : nat_le size z.size ≡ true

pub free_block : (kind : Kind) (size : ℕ) (z : MemoryBlock) → may_be_owned kind size (Some z) ≡ true
    → IsFreeBlock kind size z
free_block kind size z may =
    let all = and_parts (is_live z.life && same_kind z.kind kind && not (is_some z.owned)) (nat_le size z.size) may in
    let some = and_parts (is_live z.life && same_kind z.kind kind) (not (is_some z.owned)) all.0 in
    let two = and_parts (is_live z.life) (same_kind z.kind kind) some.0 in
    record { live = two.0; made = two.1; unowned = nobody z.owned some.1; large = all.1 }
  where
    nobody : (o : Option ℕ) → not (is_some o) ≡ true → o ≡ None
    nobody None h = refl
    nobody (Some n) h = absurd (cc)

asks_itself : (mode : Mode) → is_given_mode mode ≡ false → allocates mode ≡ true
asks_itself mode h = by (allocates mode) h
  where
    by : (b : Bool) → (if b then false else true) ≡ false → b ≡ true
    by true h = refl
    by false h = absurd (cc)

asks_too : (a c : Mode) → AreModes a c → allocates c ≡ true → allocates a ≡ true
asks_too _ _ (Same mode asks) h = asks
asks_too _ _ (Given block offset) h = absurd (cc)

module _ (e : Elision) (s t : State) (result : Option ℕ) (must_tail : Bool) (ty : Option Ty) (args : List Arg)
    (r : AreElided e s t) (fine : IsFine (framed_step (framed e) s).outcome)
    (at : IsAtBegin e s t result must_tail ty args) where
  abbrev call : Instr
  call = Instr.Call result must_tail ty (Callee.Intrinsic Intrinsic.CoroBegin) args

  abbrev d : Sides
  d = sides s t

  abbrev mem : Value
  mem = nth (arg_values e.code s.top.values args) 1

  abbrev mem' : Value
  mem' = nth (arg_values (elided_code e) t.top.values args) 1

  abbrev size : ℕ
  size = (own_frame (framed e).given s).size

  abbrev most : ℕ
  most = (own_frame (elided e).given t).size

  same_size : most ≡ size
  same_size = ap (λ (n : ℕ). (frame_of (framed e).given.sizes n).size) r.top.func

  asks : allocates t.top.mode ≡ true
  asks = asks_itself t.top.mode at.ramp

  asks_first : allocates s.top.mode ≡ true
  asks_first = asks_too s.top.mode t.top.mode r.top.mode asks

  its_begin : HasBegunAt (framed e).given s mem
  its_begin =
      let goes = goes_on e s t Intrinsic.CoroBegin result must_tail ty args r at.call fine in
      has_begun_at (framed e).given s goes.0 result mem
      (sym (framed_begins (framed e) s result mem s.top.mode asks_first) ∙ goes.1)

  module _ (began : HasBegunAt (framed e).given s mem) where
    abbrev b : ℕ
    b = began.block

    abbrev z : MemoryBlock
    z = began.there

    free_z : IsFreeBlock Kind.Allocator size z
    free_z = free_block Kind.Allocator size z began.may

    alone_too : t.top.instance ≡ None
    alone_too = r.top.instance ∙ began.none

    not_given : was_given d t.top ≡ false
    not_given =
        (λ i. if at.ramp i then true else option_map_or (is_given d.other) (instance_in d.second (alone_too i)) false)

    none_differs : (v : ℕ) → differs_in (e.shape s.top.func) (is_given_mode t.top.mode) (was_given d t.top) v ≡ false
    none_differs v = λ i. differs_in (e.shape s.top.func) (at.ramp i) (not_given i) v

    value : IsValue r.homes mem mem'
    value = arg_stands e r.homes r.globals s.top t.top (was_given d t.top) r.top.values args 1 (λ v is. none_differs v)

    stands : IsValue r.homes (pointer_to b) mem'
    stands = subst (λ (v : Value). IsValue r.homes v mem') began.is value

    shown : r.hides b ≡ false
    shown = by (r.hides b) refl
      where
        by : (m : Bool) → r.hides b ≡ m → r.hides b ≡ false
        by true is = absurd (no_both (home_of r.homes b).is_seen (r.hidden b is) stands.0)
        by false is = is

    low : b < length s.world.memory
    low = get_within s.world.memory b z began.is_there

    none : (i : ℕ) (x : Instance) → slice_get s.instances i ≡ Some x → x.block ≢ b
    none i x there same =
        at.frames.owned i x z there (ap (slice_get s.world.memory) same ∙ began.is_there) free_z.live free_z.unowned

    free : IsNoGivenFrame d b
    free i x y there to given same = none i x there same

    record HasMate : Type 0 where
      block : ℕ
      bytes : List Byte
      home : home_of r.homes b ≡ whole_home block
      there : slice_get t.world.memory block ≡ Some (record z { bytes = bytes })

    its_mate : HasMate
    its_mate =
        let h = r.mates.each b z began.is_there shown free in
        record { block = h.0; bytes = h.1; home = h.2; there = h.3 }

    module _ (mate : HasMate) where
      abbrev k : ℕ
      k = mate.block

      abbrev v : MemoryBlock
      v = record z { bytes = mate.bytes }

      other_is : mem' ≡ pointer_to k
      other_is =
          stands.1
          ∙ ((λ i. Value.Ptr (Pointer.At (mate.home i).block (moved (offset_of 0) (mate.home i).offset)))
          ∙ ap (λ o. Value.Ptr (Pointer.At k o)) (moved_from_start 0 small))
        where
          small : 0 < 2 ^ 64
          small = omega arith

      -- nothing that was given lies in the home
      not_given_there : (y : Instance) → y.block ≡ k → y.start ≡ 0 → is_given t.world.memory y ≡ false
      not_given_there y same start =
          (λ i. option_map_or (λ (x : MemoryBlock). same_kind x.kind Kind.Stack)
          ((ap (slice_get t.world.memory) same ∙ mate.there) i) false || not (start i == 0))
          ∙ ap (λ (m : Bool). m || not (0 == 0)) (heap_no_stack z.kind free_z.made)

      homes_there : (c : ℕ) → (home_of r.homes c).block ≡ k → IsNoGivenFrame d c
      homes_there c same i x y there to given is =
          let inst = r.instances i x y there to in
          let block : y.block ≡ k
          = sym (ap (λ (q : Home). q.block) inst.home) ∙ (ap (λ (n : ℕ). (home_of r.homes n).block) is ∙ same) in
          no_both (is_given t.world.memory y) (not_given_there y block (at.frames.starts i y to)) given

      alone_here : (c : ℕ) → c < length s.world.memory → r.hides c ≡ false → (home_of r.homes c).block ≡ k → c ≡ b
      alone_here c lt calm same =
          r.mates.alone c b lt low calm shown (homes_there c same) free
          (same ∙ sym (ap (λ (q : Home). q.block) mate.home))

      apart : (c : ℕ) (p : MemoryBlock) → c ≢ b → slice_get s.world.memory c ≡ Some p → r.hides c ≡ false
          → is_live p.life ≡ true → (home_of r.homes c).block ≢ k
      apart c p ne there calm live same = ne (alone_here c (get_within s.world.memory c p there) calm same)

      never : (i : ℕ) (y : Instance) → slice_get t.instances i ≡ Some y → y.block ≢ k
      never i y to same =
          let x = twin_back e s t r i y to in
          let inst = r.instances i x.0 y x.1 to in
          none i x.0 x.1
          (alone_here x.0.block (block_within e s t r x.0 y inst) (calm x.0.block (home_seen e s t r x.0 y inst))
          (ap (λ (q : Home). q.block) inst.home ∙ same))
        where
          calm : (c : ℕ) → (home_of r.homes c).is_seen ≡ true → r.hides c ≡ false
          calm c seen = by (r.hides c) refl
            where
              by : (m : Bool) → r.hides c ≡ m → r.hides c ≡ false
              by true is = absurd (no_both (home_of r.homes c).is_seen (r.hidden c is) seen)
              by false is = is

      own : IsAllowed e s t r b k size most none apart
      own p q there live to =
          let ours = shown_live r.hides (with_block s.world.memory b (owned_to size)) b p there live in
          let is : owned_to size z ≡ p
          = same_some (owned_to size z) p
          (sym (changed_here s.world.memory b (owned_to size) z began.is_there) ∙ ours.1) in
          let other : owned_to most v ≡ q
          = same_some (owned_to most v) q
          (sym (changed_here t.world.memory k (owned_to most) v mate.there)
          ∙ (ap (slice_get (with_block t.world.memory k (owned_to most))) (sym (ap (λ (h : Home). h.block) mate.home))
          ∙ to)) in
          subst (λ (h : Home). HasRights (frame_rights (framed e) (begun_in s b size).instances)
          (frame_rights (elided e) (begun_in t k most).instances) h b p q) (sym mate.home)
          (both_allowed (framed e) (elided e) s.instances t.instances s.top.func t.top.func b k p.size p q refl
          r.top.func
          (sym (ap (λ (x : MemoryBlock). x.align) other) ∙ ap (λ (x : MemoryBlock). x.align) is) none never
          (same p.size))
        where
          same : (n : ℕ) → n ≤ n
          same n = omega arith

      abbrev y : Instance
      y = new_instance t.top.func k 0

      new_not_given : is_given (begun_in t k most).world.memory y ≡ false
      new_not_given =
          ap (λ (f : Instance → Bool). f y) (given_still t.world.memory k most) ∙ not_given_there y refl refl

      abbrev q : Sides
      q = sides (begun_in s b size) (begun_in t k most)

      behind_not_given : was_given q (begun_in t k most).top ≡ false
      behind_not_given =
          (λ i. if at.ramp i then true
          else option_map_or (is_given q.other) (get_last t.instances y i) false) ∙ new_not_given

      before_not_given : was_given q t.top ≡ false
      before_not_given =
          (λ i. if at.ramp i then true else option_map_or (is_given q.other) (instance_in q.second (alone_too i)) false)

      has_begun : HasBegun e s t r b k size most r.homes r.hides Anything
      has_begun = record {
        long = refl;
        extends = record { each = λ c h. refl };
        homes = λ c ne. refl;
        hides = λ c ne. refl;
        home = mate.home;
        shown = shown;
        none = none;
        alone = began.none;
        low = low;
        there = v;
        is_there = mate.there;
        live = free_z.live;
        apart = λ c ne lt calm unused same. ne (alone_here c lt calm same);
        mate = λ p there unused. (
          mate.bytes,
          changed_here t.world.memory k (owned_to most) v mate.there
              ∙ ((λ i. Some (record z { bytes = mate.bytes; owned = Some (same_size i) }))
              ∙ ap (λ (x : MemoryBlock). Some (record x { bytes = mate.bytes }))
              (same_some (owned_to size z) p
              (sym (changed_here s.world.memory b (owned_to size) z began.is_there) ∙ there))),
        );
        was = λ unused. record { low = low; shown = shown; free = free; home = refl };
        world = world_turned e s t r b k size most none apart own;
        others = λ n is. refl;
        held = λ n is hidden same. no_both (r.hides b) shown (ap r.hides (sym same) ∙ hidden);
        slots = each_anything s.top.slots;
        below = known_others e t.instances s.below t.below at.frames.known.1;
        mode = behind_not_given ∙ sym before_not_given;
      }

      place : IsOwnPlace e (begun_in s b size).top (begun_in t k most).top
      place =
          let p = own_place e s t Intrinsic.CoroBegin result must_tail ty args r at.call in
          record { block = p.block; own = p.own; starts = p.starts }

      sets : SetsAlike e r.homes q (begun_in s b size).top (begun_in t k most).top result (pointer_to b)
          (pointer_to k)
      sets = record {
        names = at.call.names;
        alike = λ n set calm. subst (λ (x : Value). IsValue r.homes (pointer_to b) x) other_is stands;
        asked = λ n set ramp need. absurd (no_both (is_given_mode t.top.mode) at.ramp ramp);
        freed = λ n set given is. absurd (no_both (was_given q (begun_in t k most).top) behind_not_given given);
        tested = λ n is_eq set given is.
            absurd (no_both (was_given q (begun_in t k most).top) behind_not_given given);
      }

      held_none : (a : Activation) → held_name e (is_given_mode t.top.mode) a ≡ None
      held_none a = λ i. held_name e (at.ramp i) a

      counts : given_frames (begun_in t k most)
          ≡ given_frames t + holds_one (held_name e (is_given_mode t.top.mode) s.top)
      counts =
          filter_one (is_given (begun_in t k most).world.memory) t.instances y
          ∙ (λ i. length (filter (given_still t.world.memory k most i) t.instances)
          + (if new_not_given i then 1 else 0))
          ∙ ap (λ (o : Option ℕ). given_frames t + holds_one o) (sym (held_none s.top))

      goes_first : framed_next (framed e) s (AtInstr call) ≡ Ok (gives (begun_in s b size) result (pointer_to b))
      goes_first =
          framed_begins (framed e) s result mem s.top.mode asks_first
          ∙ (ap (begin (framed e).given s result) began.is
          ∙ begins (framed e).given s b Kind.Allocator at.frames.slots began.none refl
          (ap (may_be_owned Kind.Allocator size) began.is_there ∙ began.may) result)

      may_too : may_be_owned Kind.Allocator most (slice_get t.world.memory k) ≡ true
      may_too =
          ap (may_be_owned Kind.Allocator most) mate.there
          ∙ ((λ i. may_be_owned Kind.Allocator (same_size i) (Some v)) ∙ began.may)

      goes_second : framed_next (elided e) t (AtInstr call) ≡ Ok (gives (begun_in t k most) result (pointer_to k))
      goes_second =
          framed_begins (elided e) t result mem' t.top.mode asks
          ∙ (ap (begin (elided e).given t result) other_is
          ∙ begins (elided e).given t k Kind.Allocator at.frames.others alone_too refl may_too result)

      both_begin : AreElided e (framed_step (framed e) s) (framed_step (elided e) t)
      both_begin =
          both_step e s t Intrinsic.CoroBegin result must_tail ty args r at.call
          (gives (begun_in s b size) result (pointer_to b)) (gives (begun_in t k most) result (pointer_to k))
          goes_first goes_second
          (begun_beside e s t r b k size most r.homes r.hides Anything has_begun result (pointer_to b) (pointer_to k)
          place sets (held_none (went (begun_in s b size).top result (pointer_to b) s.top.has_left)) counts)

    begins_both : AreElided e (framed_step (framed e) s) (framed_step (elided e) t)
    begins_both = both_begin its_mate

  pub begin_beside : AreElided e (framed_step (framed e) s) (framed_step (elided e) t)
  begin_beside = begins_both its_begin
