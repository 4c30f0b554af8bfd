-- A ramp that was given its frame begins there, and the other one in the block that it holds.
use Rattle.std.proofs.Common.{◌≡◌, ◌≢◌, ◌<◌, ◌≤◌, ◌+◌, ◌^◌, ℕ, zero, suc, Bool, true, false, not, List, [], ◌∷◌, ◌++◌, get_or-set_other, get_or-set_same, length, set, Ok, refl, sym, ap, ◌∙◌, subst, arith, if◌then◌else◌, ◌||◌, ◌==◌}
use Rattle.std.proofs.lemmas.Bool.{le-leb}
use Rattle.std.proofs.lemmas.List.{length-set}
use Rattle.std.specs.Option.{option_map_or}
use Rattle.std.specs.Prelude.{None, Option, Some, filter, option_map, slice_get}
use Rattle.pass_elide_proof.proofs.Addresses.{moved_from_start}
use Rattle.pass_elide_proof.proofs.AtCalls.{both_step, goes_on, own_place}
use Rattle.pass_elide_proof.proofs.BeginSteps.{begins, begins_given, begun_in, framed_begins, has_begun_at, sizes_are}
use Rattle.pass_elide_proof.proofs.Begins.{no_both}
use Rattle.pass_elide_proof.proofs.Begun.{HasBegun, begun_beside, filter_one, given_still}
use Rattle.pass_elide_proof.proofs.Setting.{IsOwnPlace, SetsAlike, went}
use Rattle.pass_elide_proof.proofs.Sides.{HaveOthers}
use Rattle.pass_elide_proof.proofs.Turning.{IsAllowed, frame_allowed, frames_compare, shown_live, shown_there, world_turned}
use Rattle.pass_elide_proof.specs.Beginning.{HasNoHeapSlot, IsAtGivenBegin, IsKnownTo, IsNoHeapSlot}
use Rattle.pass_elide_proof.specs.Counts.{counted, given_frames}
use Rattle.pass_elide_proof.specs.Elision.{Elision, elided, elided_code, framed}
use Rattle.pass_elide_proof.specs.Match.{AreElided, AreModes, Given, HoldsBlock, IsHeld, IsNoGivenFrame, Same, Sides, frame_size, held_name, holds_one, instance_in, is_given_mode, sides, was_given}
use Rattle.pass_proofs.proofs.ir_laws.facts.Lists.{get_last, get_within}
use Rattle.pass_proofs.proofs.run_laws.memory.Homes.{move_extends}
use Rattle.pass_proofs.proofs.run_laws.memory.Written.{changed_elsewhere, changed_here, same_some}
use Rattle.pass_proofs.proofs.run_laws.transfer.Places.{blank_room, muted_at, seated, showing_it, showing_others}
use Rattle.pass_proofs.specs.ir_model.Ty.{Ty}
use Rattle.pass_proofs.specs.ir_model.declared.instr.Instr.{Instr}
use Rattle.pass_proofs.specs.ir_model.declared.module.Module.{Module}
use Rattle.pass_proofs.specs.ir_model.declared.operand.Arg.{Arg}
use Rattle.pass_proofs.specs.ir_model.declared.operand.Callee.{Callee}
use Rattle.pass_proofs.specs.ir_model.declared.operand.Intrinsic.{Intrinsic}
use Rattle.pass_proofs.specs.ir_model.declared.operand.Operand.{Operand}
use Rattle.pass_proofs.specs.ir_paths.Windows.{operand_at}
use Rattle.pass_proofs.specs.run_agreement.Machines.{IsFine}
use Rattle.pass_proofs.specs.run_framed.Framed.{allocates, frame_rights, framed_begin, framed_next, framed_step, is_given}
use Rattle.pass_proofs.specs.run_laws.changed.Changed.{Each}
use Rattle.pass_proofs.specs.run_laws.embedded.Making.{whole_home}
use Rattle.pass_proofs.specs.run_laws.memory.Pointers.{Home, IsValue, home_of, nowhere}
use Rattle.pass_proofs.specs.run_laws.memory.Standing.{HasBounds, blank_block}
use Rattle.pass_proofs.specs.run_laws.transfer.Muted.{ended_if, muted}
use Rattle.pass_proofs.specs.run_laws.transfer.Places.{AreStanding, HasRoom, IsBlank, IsSeated, showing}
use Rattle.pass_proofs.specs.run_laws.transfer.Transfer.{AreOver}
use Rattle.pass_proofs.specs.run_memory.Memory.{Rights, is_live, may_be_owned, owned_to, same_kind, with_block}
use Rattle.pass_proofs.specs.run_memory.Pointers.{moved, offset_of}
use Rattle.pass_proofs.specs.run_memory.declared.block.Kind.{Kind}
use Rattle.pass_proofs.specs.run_memory.declared.block.MemoryBlock.{MemoryBlock}
use Rattle.pass_proofs.specs.run_memory.declared.pointer.Pointer.{Pointer}
use Rattle.pass_proofs.specs.run_memory.declared.pointer.Value.{Value}
use Rattle.pass_proofs.specs.run_source.Source.{begin, new_instance}
use Rattle.pass_proofs.specs.run_source.State.{gives, own_frame}
use Rattle.pass_proofs.specs.run_source.declared.state.Activation.{Activation}
use Rattle.pass_proofs.specs.run_source.declared.state.Instance.{Instance}
use Rattle.pass_proofs.specs.run_source.declared.state.Mode.{Mode}
use Rattle.pass_proofs.specs.run_source.declared.state.State.{State}
use Rattle.pass_proofs.specs.run_source_tables.Given.{frame_of}
use Rattle.pass_proofs.specs.run_step.Step.{AtInstr}
use Rattle.pass_proofs.specs.run_step.Values.{Env, arg_values, nth, operand_value, pointer_to, value_in}
use Rattle.pass_proofs.specs.run_step.declared.world.Slot.{Slot}

-- an argument that is a local
local_arg : (m : Module) (env : Env) (args : List Arg) (k v : ℕ) → operand_at args k ≡ Operand.Local v
    → nth (arg_values m env args) k ≡ value_in env v
local_arg m env [] k v is = absurd (cc)
local_arg m env (x ∷ args) zero v is = ap (operand_value m env x.ty) is
local_arg m env (x ∷ args) (suc k) v is = local_arg m env args k v is

-- a given ramp stands beside one that allocates
asks_beside : (a c : Mode) → AreModes a c → is_given_mode c ≡ true → allocates a ≡ true
asks_beside _ _ (Same mode asks) h = asks
asks_beside _ _ (Given block offset) h = refl

-- no slot is a block of an allocator
slots_apart : (m : List MemoryBlock) (b : ℕ) (z : MemoryBlock) → slice_get m b ≡ Some z → z.kind ≡ Kind.Allocator
    → (ss : List Slot) → Each (IsNoHeapSlot m) ss → Each (λ (y : Slot). y.block ≢ b) ss
slots_apart m b z there heap [] h = tt
slots_apart m b z there heap (y ∷ ss) h =
    (λ same. h.0 z (ap (slice_get m) same ∙ there) heap, slots_apart m b z there heap ss h.1)

module _ (e : Elision) (m : List MemoryBlock) (ys : List Instance) (b : ℕ) (z : MemoryBlock)
    (there : slice_get m b ≡ Some z) (heap : z.kind ≡ Kind.Allocator) where
  abbrev HoldsNone : List Activation → List Activation → Type 0
  HoldsNone bs cs =
      (j name : ℕ) (a c : Activation) → slice_get bs j ≡ Some a → slice_get cs j ≡ Some c
      → held_name e (is_given_mode c.mode) a ≡ Some name → value_in a.values name ≢ pointer_to b

  others_below : (bs cs : List Activation) → Each (HasNoHeapSlot m) bs → Each (IsKnownTo ys) cs → HoldsNone bs cs
      → HaveOthers e (λ n. n ≢ b) (IsKnownTo ys) bs cs
  others_below [] cs heaps known none = tt
  others_below (a ∷ bs) [] heaps known none = tt
  others_below (a ∷ bs) (c ∷ cs) heaps known none = (
    record {
      slots = slots_apart m b z there heap a.slots heaps.0;
      held = λ name block is at same. none 0 name a c refl refl is (at ∙ ap pointer_to same);
      is_known = known.0;
    },
    others_below bs cs heaps.1 known.1 (λ j name p q at to is. none (suc j) name p q at to is),
  )

module _ (e : Elision) (s t : State) (r : AreElided e s t) (result : Option ℕ) (must_tail : Bool) (ty : Option Ty)
    (args : List Arg) (fine : IsFine (framed_step (framed e) s).outcome)
    (at : IsAtGivenBegin e s t r result must_tail ty args) where
  abbrev call : Instr
  call = Instr.Call result must_tail ty (Callee.Intrinsic Intrinsic.CoroBegin) args

  abbrev d : Sides
  d = sides s t

  abbrev k : ℕ
  k = at.block

  abbrev v : MemoryBlock
  v = at.room.there

  abbrev full : ℕ
  full = frame_size e s.top.func

  abbrev z : MemoryBlock
  z = blank_block full 16 Kind.Allocator

  abbrev size : ℕ
  size = (own_frame (framed e).given s).size

  abbrev most : ℕ
  most = (own_frame (elided e).given t).size

  size_is : size ≡ full
  size_is = sizes_are e.layouts.coroutines s.top.func

  most_is : most ≡ full
  most_is = ap (λ (n : ℕ). (frame_of (framed e).given.sizes n).size) r.top.func ∙ size_is

  ramp : is_given_mode t.top.mode ≡ true
  ramp = ap is_given_mode at.mode

  asks_first : allocates s.top.mode ≡ true
  asks_first = asks_beside s.top.mode t.top.mode r.top.mode ramp

  abbrev mem : Value
  mem = nth (arg_values e.code s.top.values args) 1

  abbrev mem' : Value
  mem' = nth (arg_values (elided_code e) t.top.values args) 1

  alone : s.top.instance ≡ None
  alone =
      let goes = goes_on e s t Intrinsic.CoroBegin result must_tail ty args r at.call fine in
      (has_begun_at (framed e).given s goes.0 result mem
      (sym (framed_begins (framed e) s result mem s.top.mode asks_first) ∙ goes.1)).none

  alone_too : t.top.instance ≡ None
  alone_too = r.top.instance ∙ alone

  name_is : held_name e (is_given_mode t.top.mode) s.top ≡ Some at.memory
  name_is = (λ i. held_name e (ramp i) s.top) ∙ at.holds

  held_block : IsHeld r.hides s.world.memory s.top at.memory
  held_block = subst (λ (o : Option ℕ). HoldsBlock r.hides s.world.memory s.top o) name_is r.top.held

  module _ (held : IsHeld r.hides s.world.memory s.top at.memory) where
    abbrev b : ℕ
    b = held.block

    mem_is : mem ≡ pointer_to b
    mem_is = local_arg e.code s.top.values args 1 at.memory at.takes ∙ held.address

    -- its size is the frame's
    its_block : slice_get s.world.memory b ≡ Some z
    its_block =
        held.there
        ∙ ap (λ (n : ℕ). Some (blank_block n 16 Kind.Allocator))
        (at.exact b (blank_block held.size 16 Kind.Allocator) mem_is held.there)

    none : (i : ℕ) (x : Instance) → slice_get s.instances i ≡ Some x → x.block ≢ b
    none i x there same =
        at.frames.owned i x z there (ap (slice_get s.world.memory) same ∙ its_block) refl refl

    low : b < length s.world.memory
    low = get_within s.world.memory b z its_block

    low_home : b < length r.homes
    low_home = let lt = low in let same = r.known in omega (arith, lt, same)

    hidden_home : (home_of r.homes b).is_seen ≡ false
    hidden_home = r.hidden b held.hidden

    -- ---- no other block stands where it was given

    apart : (c : ℕ) (p : MemoryBlock) → c ≢ b → slice_get s.world.memory c ≡ Some p → r.hides c ≡ false
        → is_live p.life ≡ true → (home_of r.homes c).block ≢ k
    apart c p ne there calm live same =
        at.room.free c (get_within s.world.memory c p there) calm
        (λ i x y first second given is.
        let block : y.block ≡ k
        = sym (ap (λ (q : Home). q.block) (r.instances i x y first second).home)
        ∙ (ap (λ (n : ℕ). (home_of r.homes n).block) is ∙ same) in
        no_both (is_live p.life)
        (at.room.gone i x y p first second block (ap (slice_get s.world.memory) is ∙ there)) live) same

    own : IsAllowed e s t r b k size most none apart
    own p q there live to =
        let ours = shown_live r.hides (with_block s.world.memory b (owned_to size)) b p there live in
        absurd (no_both (r.hides b) ours.0 held.hidden)

    -- ---- the home

    abbrev more : List Home
    more = set r.homes b (whole_home k)

    abbrev now : ℕ → Bool
    now = showing r.hides b

    abbrev m : List MemoryBlock
    m = with_block s.world.memory b (owned_to size)

    abbrev n : List MemoryBlock
    n = with_block t.world.memory k (owned_to most)

    abbrev after : Rights
    after = frame_rights (framed e) (begun_in s b size).instances

    abbrev behind : Rights
    behind = frame_rights (elided e) (begun_in t k most).instances

    home : home_of more b ≡ whole_home k
    home = get_or-set_same r.homes b (whole_home k) nowhere low_home

    other_home : (c : ℕ) → c ≢ b → home_of more c ≡ home_of r.homes c
    other_home c ne = get_or-set_other r.homes b c (whole_home k) nowhere ne

    turned : AreOver after behind r.homes r.hides (λ a. a)
        (counted t.world.allocs (record s.world { memory = m })) (record t.world { memory = n })
    turned = world_turned e s t r b k size most none apart own

    old_stands : AreStanding after behind r.homes (muted r.hides m) n
    old_stands = record { memory = turned.memory; nulls = turned.nulls; bounds = turned.bounds }

    abbrev new : MemoryBlock
    new = owned_to size z

    abbrev room : MemoryBlock
    room = owned_to most v

    room_there : slice_get n k ≡ Some room
    room_there = changed_here t.world.memory k (owned_to most) v at.room.is_there

    new_there : slice_get (muted now m) b ≡ Some new
    new_there =
        shown_there now m b new (showing_it r.hides b)
        (changed_here s.world.memory b (owned_to size) z its_block)

    is_new : (x : MemoryBlock) → slice_get (muted now m) b ≡ Some x → new ≡ x
    is_new x there = same_some new x (sym new_there ∙ there)

    fits : 0 + full ≤ v.size
    fits = let same = at.room.sized in omega (arith, same)

    small : v.size < 2 ^ 64
    small = let same = at.room.sized in let lt = at.small in omega (arith, same, lt)

    room_new : HasRoom after behind n (whole_home k) b new
    room_new = record {
      block = room;
      there = room_there;
      live = at.room.live;
      whole = at.room.full;
      fits = fits;
      small = small;
      writable = λ h. ap (λ (q : Kind). same_kind q Kind.Constant) at.room.kind;
      allowed = frame_allowed (framed e) (elided e) s.instances t.instances s.top.func t.top.func b k new room refl
          r.top.func none refl;
    }

    bounds_new : HasBounds n (whole_home k) full
    bounds_new = record { block = room; there = room_there; fits = fits; small = small }

    is_seated : IsSeated after behind r.homes more (muted r.hides m) (muted now m) n b
    is_seated = record {
      extends = move_extends r.homes b (whole_home k) hidden_home;
      long = let same = length-set r.homes b (whole_home k) in omega (arith, same);
      others = other_home;
      same = λ c ne.
          muted_at now m c
          ∙ ((λ i. option_map (ended_if (showing_others r.hides b c ne i)) (slice_get m c))
          ∙ sym (muted_at r.hides m c));
      stands = λ x there live.
          blank_room after behind more n b x (let same = length-set r.homes b (whole_home k) in
          let lt = low_home in omega (arith, lt, same))
          (subst IsBlank (is_new x there) refl)
          (subst (λ (p : Home × MemoryBlock). HasRoom after behind n p.0 b p.1)
          (λ i. (sym home i, is_new x there i)) room_new);
      apart = λ x there live c p ne to living same.
          let shown = shown_live r.hides m c p to living in
          absurd (apart c p ne (sym (changed_elsewhere s.world.memory b c (owned_to size) ne) ∙ shown.1) shown.0 living
          (same ∙ ap (λ (q : Home). q.block) home));
      seen = λ is. record {
        nulls = λ o may.
            frames_compare (elided e) (begun_in t k most).instances (home_of more b).block
            (slice_get n (home_of more b).block) (moved o (home_of more b).offset);
        bounds = λ x there.
            subst (λ (p : Home × MemoryBlock). HasBounds n p.0 p.1.size)
            (λ i. (sym home i, is_new x there i)) bounds_new;
      };
    }

    new_stands : AreStanding after behind more (muted now m) n
    new_stands = seated after behind r.homes more (muted r.hides m) (muted now m) n b is_seated old_stands

    world : AreOver after behind more now (λ a. a) (counted t.world.allocs (record s.world { memory = m }))
        (record t.world { memory = n })
    world = record {
      memory = new_stands.memory;
      nulls = new_stands.nulls;
      bounds = new_stands.bounds;
      events = turned.events;
      answers = turned.answers;
      allocs = turned.allocs;
    }

    -- ---- the new instance was given its frame

    abbrev y : Instance
    y = new_instance t.top.func k 0

    abbrev q : Sides
    q = sides (begun_in s b size) (begun_in t k most)

    new_given : is_given n y ≡ true
    new_given =
        ap (λ (f : Instance → Bool). f y) (given_still t.world.memory k most)
        ∙ ((λ i. option_map_or (λ (x : MemoryBlock). same_kind x.kind Kind.Stack) (at.room.is_there i) false
        || not (0 == 0))
        ∙ ap (λ (x : Kind). same_kind x Kind.Stack || not (0 == 0)) at.room.kind)

    no_frame_there : IsNoGivenFrame q b → ⊥
    no_frame_there free =
        free (length s.instances) (new_instance s.top.func b 0) y
        (get_last s.instances (new_instance s.top.func b 0))
        (ap (slice_get (t.instances ++ y ∷ [])) (sym r.count) ∙ get_last t.instances y) new_given refl

    given_top : (c : Activation) → c.mode ≡ t.top.mode → was_given q c ≡ true
    given_top c same =
        by (is_given_mode c.mode) (ap is_given_mode same ∙ ramp)
        (option_map_or (is_given q.other) (instance_in q.second c.instance) false)
      where
        by : (f : Bool) → f ≡ true → (g : Bool) → (if f then true else g) ≡ true
        by true h g = refl
        by false h g = absurd (cc)

    -- ---- what others hold

    holds_none : HoldsNone e s.world.memory t.instances b z its_block refl s.below t.below
    holds_none j name a c there to is same =
        r.once 0 (suc j) at.memory name s.top a t.top c (λ never_so. absurd (cc)) refl there refl to name_is is
        (held.address ∙ sym same)

    has_begun : HasBegun e s t r b k size most more now (λ c. c ≢ b)
    has_begun = record {
      long = length-set r.homes b (whole_home k);
      extends = move_extends r.homes b (whole_home k) hidden_home;
      homes = other_home;
      hides = λ c ne. showing_others r.hides b c ne;
      home = home;
      shown = showing_it r.hides b;
      none = none;
      alone = alone;
      low = low;
      there = v;
      is_there = at.room.is_there;
      live = at.room.live;
      apart = λ c ne lt calm unused. at.room.free c lt calm unused;
      mate = λ p there unused. absurd (no_frame_there unused);
      was = λ unused. absurd (no_frame_there unused);
      world = world;
      others = λ c ne. ap (λ (h : Home). h.block) (other_home c ne);
      held = λ c ne hidden. ne;
      slots = slots_apart s.world.memory b z its_block refl s.top.slots at.frames.heaps.0;
      below = others_below e s.world.memory t.instances b z its_block refl s.below t.below at.frames.heaps.1
          at.frames.known.1 holds_none;
      mode = given_top (begun_in t k most).top refl ∙ sym (given_top t.top refl);
    }

    -- ---- both steps

    place : IsOwnPlace e (begun_in s b size).top (begun_in t k most).top
    place =
        let p = own_place e s t Intrinsic.CoroBegin result must_tail ty args r at.call in
        record { block = p.block; own = p.own; starts = p.starts }

    stands : IsValue more (pointer_to b) (pointer_to k)
    stands = (
      ap (λ (h : Home). h.is_seen) home,
      sym ((λ i. Value.Ptr (Pointer.At (home i).block (moved (offset_of 0) (home i).offset)))
          ∙ ap (λ o. Value.Ptr (Pointer.At k o)) (moved_from_start 0 little)),
    )
      where
        little : 0 < 2 ^ 64
        little = omega arith

    sets : SetsAlike e more q (begun_in s b size).top (begun_in t k most).top result (pointer_to b) (pointer_to k)
    sets = record {
      names = at.call.names;
      alike = λ a set calm. stands;
      asked = λ a set is need. absurd (no_both _ (at.plain a set).need need);
      freed = λ a set given is. absurd (no_both _ (at.plain a set).other.freed is);
      tested = λ a is_eq set given is. absurd (no_some _ is_eq (at.plain a set).other.tested is);
    }
      where
        no_some : (o : Option Bool) (f : Bool) → o ≡ None → o ≡ Some f → ⊥
        no_some None f p g = absurd (cc)
        no_some (Some a) f p g = absurd (cc)

    held_none : held_name e (is_given_mode t.top.mode)
        (went (begun_in s b size).top result (pointer_to b) s.top.has_left) ≡ None
    held_none =
        (λ i. held_name e (ramp i) (went (begun_in s b size).top result (pointer_to b) s.top.has_left)) ∙ at.behind

    counts : given_frames (begun_in t k most)
        ≡ given_frames t + holds_one (held_name e (is_given_mode t.top.mode) s.top)
    counts =
        filter_one (is_given n) t.instances y
        ∙ ((λ i. length (filter (given_still t.world.memory k most i) t.instances) + (if new_given i then 1 else 0))
        ∙ ap (λ (o : Option ℕ). given_frames t + holds_one o) (sym name_is))

    may : may_be_owned Kind.Allocator size (slice_get s.world.memory b) ≡ true
    may =
        ap (may_be_owned Kind.Allocator size) its_block
        ∙ le-leb size full (let same = size_is in omega (arith, same))

    goes_first : framed_next (framed e) s (AtInstr call) ≡ Ok (gives (begun_in s b size) result (pointer_to b))
    goes_first =
        framed_begins (framed e) s result mem s.top.mode asks_first
        ∙ (ap (begin (framed e).given s result) mem_is
        ∙ begins (framed e).given s b Kind.Allocator at.frames.slots alone refl may result)

    goes_second : framed_next (elided e) t (AtInstr call) ≡ Ok (gives (begun_in t k most) result (pointer_to k))
    goes_second =
        ap (framed_begin (elided e) t result mem') at.mode
        ∙ begins_given (elided e) t k v at.room.is_there at.room.kind at.room.live at.room.unowned
        (at.room.sized ∙ sym most_is) at.frames.others alone_too at.room.over result

    begins_both : AreElided e (framed_step (framed e) s) (framed_step (elided e) t)
    begins_both =
        both_step e s t Intrinsic.CoroBegin result must_tail ty args r at.call
        (gives (begun_in s b size) result (pointer_to b)) (gives (begun_in t k most) result (pointer_to k))
        goes_first goes_second
        (begun_beside e s t r b k size most more now (λ c. c ≢ b) has_begun result (pointer_to b) (pointer_to k) place
        sets held_none counts)

  pub given_begin_beside : AreElided e (framed_step (framed e) s) (framed_step (elided e) t)
  given_begin_beside = begins_both held_block
