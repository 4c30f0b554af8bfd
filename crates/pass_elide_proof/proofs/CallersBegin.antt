-- A begin leaves callers of instances on the stack. One in a frame that was given makes an instance, whose caller
-- waits for the ramp.
use Rattle.std.proofs.Common.{◌≡◌, ◌<◌, ◌+◌, ◌∙◌, ◌∷◌, ◌||◌, ◌&&◌, ◌==◌, ◌⊎◌, [], ap, arith, Bool, false, inl, inr, ⊎_elim, List, length, not, Ok, Option, refl, Result, subst, suc, sym, true, zero, ℕ, if◌then◌else◌}
use Rattle.std.specs.List.{Contains}
use Rattle.std.specs.Option.{option_map_or}
use Rattle.std.specs.Prelude.{None, Some, is_none, is_some, nat_le, slice_get}
use Rattle.pass_elide_proof.proofs.Callees.{in_list}
use Rattle.pass_elide_proof.proofs.CallersBlocks.{KeepsStacks, changed_keeps, frames_kept, owned_life, stacks_same}
use Rattle.pass_elide_proof.proofs.CallersInstr.{Keep, next_keeps, was_itself}
use Rattle.pass_elide_proof.proofs.CallersOnward.{called_as, called_goes, called_start, given_as, in_stack, stays_over}
use Rattle.pass_elide_proof.proofs.Stacks.{called_over}
use Rattle.pass_elide_proof.specs.Callers.{GoesOnAs, KeepsFrames, LivesAt, StandsAtInstr, WasBefore}
use Rattle.pass_elide_proof.specs.Elision.{Elision, elided, function_in}
use Rattle.pass_elide_proof.specs.Invariant.{AreGivenBy, Below, Calling, HaveCallers, Here, IsCalledIn, IsGivenBy}
use Rattle.pass_elide_proof.specs.Returning.{HaveOwnSlots, IsAllocaKind}
use Rattle.pass_proofs.proofs.ir_laws.facts.Lists.{get_within, of_row, set_at}
use Rattle.pass_proofs.proofs.ir_laws.facts.Truth.{and_first, and_second, equal_numbers}
use Rattle.pass_proofs.proofs.run_laws.memory.Written.{changed_here}
use Rattle.pass_proofs.specs.ir_base.declared.cause.Cause.{Cause}
use Rattle.pass_proofs.specs.ir_model.Ty.{Ty}
use Rattle.pass_proofs.specs.ir_model.declared.instr.Instr.{Instr}
use Rattle.pass_proofs.specs.ir_model.declared.operand.Arg.{Arg}
use Rattle.pass_proofs.specs.ir_model.declared.operand.Callee.{Callee}
use Rattle.pass_proofs.specs.ir_model.declared.operand.Intrinsic.{Intrinsic}
use Rattle.pass_proofs.specs.run_framed.Framed.{are_finished_at, begin_given_at, begin_in_block, begin_in_frame, frame_around, framed_begin, framed_step, has_room, has_size, is_given, is_stack_block}
use Rattle.pass_proofs.specs.run_memory.Memory.{check, is_live, may_be_owned, owned_to, same_kind, with_block}
use Rattle.pass_proofs.specs.run_memory.Pointers.{offset_of}
use Rattle.pass_proofs.specs.run_memory.declared.block.Kind.{Kind}
use Rattle.pass_proofs.specs.run_memory.declared.block.MemoryBlock.{MemoryBlock}
use Rattle.pass_proofs.specs.run_memory.declared.pointer.Pointer.{Pointer}
use Rattle.pass_proofs.specs.run_memory.declared.pointer.Value.{Value}
use Rattle.pass_proofs.specs.run_source.Source.{begin_at, begun, is_live_at}
use Rattle.pass_proofs.specs.run_source.State.{began_at, gives, is_finished, own_frame, with_memory}
use Rattle.pass_proofs.specs.run_source.declared.state.Activation.{Activation}
use Rattle.pass_proofs.specs.run_source.declared.state.Instance.{Instance}
use Rattle.pass_proofs.specs.run_source.declared.state.Mode.{Mode}
use Rattle.pass_proofs.specs.run_source.declared.state.State.{State}
use Rattle.pass_proofs.specs.run_source.declared.state.Status.{Status}
use Rattle.pass_proofs.specs.run_step.Results.{and_then, ok_if}
use Rattle.pass_proofs.specs.run_step.Values.{arg_values, nth, pointer_to}
use Rattle.pass_proofs.specs.run_step.declared.world.Slot.{Slot}

-- ---- one instance more

-- it begins its block, with the next number
pub record IsBegun (t : State) (place : ℕ) (number : ℕ) (y : Instance) : Type 0 where
  pub next : number ≡ length t.instances
  pub coroutine : y.coroutine ≡ t.top.func
  pub block : y.block ≡ place
  pub start : y.start ≡ 0

pub record Begins (e : Elision) (t u : State) (block : ℕ) : Type 0 where
  pub inside : (function_in e t.top.func).coroutine ≡ true
  pub below : u.below ≡ t.below
  pub func : u.top.func ≡ t.top.func
  pub result : u.top.result ≡ t.top.result
  pub mode : u.top.mode ≡ t.top.mode
  pub none : t.top.instance ≡ None
  pub instance : u.top.instance ≡ Some (length t.instances)
  pub instances : (number : ℕ) (y : Instance) → slice_get u.instances number ≡ Some y
      → WasBefore t.instances number y ⊎ IsBegun t block number y
  pub frames : KeepsFrames t u
  -- what isn't Finished there wasn't given
  pub over : (number : ℕ) (y : Instance) → slice_get t.instances number ≡ Some y → y.block ≡ block → y.start ≡ 0
      → is_given u.world.memory y ≡ true → is_finished y.status ≡ true
  -- no slot leads there, but for those of the caller
  pub apart : (j : ℕ) (a b : Activation) (below : List Activation) (z : Slot) → t.below ≡ b ∷ below
      → slice_get below j ≡ Some a → Contains a.slots z → z.block ≡ block → ⊥
  -- the caller of a new one
  pub called : (y : Instance) → IsBegun t block (length t.instances) y → is_given u.world.memory y ≡ true
      → IsCalledIn e u.world.memory y (length t.instances) (u.top ∷ []) t.below

module _ (e : Elision) (t u : State) (block : ℕ) (k : Begins e t u block) (h : HaveCallers e t) where
  some_none : {A : Type 0} (o : Option A) (x : A) → o ≡ Some x → o ≡ None → ⊥
  some_none None x y n = absurd (cc)
  some_none (Some z) x y n = absurd (cc)

  yes_no : (p : Bool) → p ≡ true → p ≡ false → ⊥
  yes_no true y n = absurd (cc)
  yes_no false y n = absurd (cc)

  goes : GoesOnAs e t.top u.top
  goes = record {
    func = k.func;
    result = k.result;
    instance = λ number is. absurd (some_none t.top.instance number is k.none);
    mode = λ frame is. k.mode ∙ is;
    given = λ frame is. sym k.mode ∙ is;
    begun = λ none. k.none;
    destroys = λ y number d. absurd (some_none t.top.instance number d.instance k.none);
  }

  rows : u.top ∷ u.below ≡ u.top ∷ t.below
  rows = ap (λ (below : List Activation). u.top ∷ below) k.below

  each_on : (number : ℕ) (y : Instance) → is_given u.world.memory y ≡ true → is_finished y.status ≡ false
      → WasBefore t.instances number y ⊎ IsBegun t block number y
      → IsCalledIn e u.world.memory y number [] (u.top ∷ t.below)
  each_on number y given going (inl was) =
      let x = was.before in
      let given_now : is_given u.world.memory x ≡ true
      = sym (given_as e x y number was.coroutine was.block was.start u.world.memory) ∙ given in
      let given_then = k.frames.given number x was.there given_now in
      let going_then = was.going going in
      let called = h.each number x was.there given_then going_then in
      called_as e x y number was.coroutine was.block was.start u.world.memory [] (u.top ∷ t.below)
      (called_over e t.world.memory u.world.memory x number
      (k.frames.lives number x was.there
      (in_stack t.world.memory x given_then (called_start e t.world.memory x number [] (t.top ∷ t.below) called))
      going_then) [] (u.top ∷ t.below)
      (called_goes e x number t.world.memory t.top u.top t.below goes
      (λ caller. absurd (yes_no (function_in e t.top.func).coroutine k.inside caller.site.plain)) called))
  each_on number y given going (inr new) =
      subst (λ (n : ℕ). IsCalledIn e u.world.memory y n [] (u.top ∷ t.below)) (sym new.next)
      (Below u.top [] t.below
      (k.called y (record { next = refl; coroutine = new.coroutine; block = new.block; start = new.start }) given))

  last_on : (number later : ℕ) (y z : Instance) → number < later → is_given u.world.memory y ≡ true
      → began_at y.block y.start z ≡ true → WasBefore t.instances number y ⊎ IsBegun t block number y
      → WasBefore t.instances later z ⊎ IsBegun t block later z → is_finished y.status ≡ true
  last_on number later y z lt given began (inl was) (inl next) =
      let given_now : is_given u.world.memory was.before ≡ true
      = sym (given_as e was.before y number was.coroutine was.block was.start u.world.memory) ∙ given in
      let given_then = k.frames.given number was.before was.there given_now in
      stays_over (is_finished was.before.status) (is_finished y.status)
      (h.last number later was.before next.before was.there next.there lt given_then
      ((λ j. (sym next.block j == sym was.block j) && (sym next.start j == sym was.start j)) ∙ began)) was.going
  last_on number later y z lt given began (inl was) (inr new) =
      let same : z.block ≡ y.block
      = equal_numbers z.block y.block (and_first (z.block == y.block) (z.start == y.start) began) in
      let first : z.start ≡ y.start
      = equal_numbers z.start y.start (and_second (z.block == y.block) (z.start == y.start) began) in
      let given_now : is_given u.world.memory was.before ≡ true
      = sym (given_as e was.before y number was.coroutine was.block was.start u.world.memory) ∙ given in
      stays_over (is_finished was.before.status) (is_finished y.status)
      (k.over number was.before was.there (sym was.block ∙ (sym same ∙ new.block))
      (sym was.start ∙ (sym first ∙ new.start)) given_now) was.going
  last_on number later y z lt given began (inr new) (inl next) =
      let within = get_within t.instances later next.before next.there in
      let at = new.next in
      absurd (omega (arith, lt, within, at))
  last_on number later y z lt given began (inr new) (inr next) =
      let at = new.next in let to = next.next in absurd (omega (arith, lt, at, to))

  -- ---- ramps below that haven't begun

  over_on : (b : ℕ) → (b ≡ block → ⊥) → ((i : ℕ) (x : Instance) → slice_get t.instances i ≡ Some x → x.block ≡ b
      → is_finished x.status ≡ true) → (i : ℕ) (y : Instance) → slice_get u.instances i ≡ Some y → y.block ≡ b
      → is_finished y.status ≡ true
  over_on b ne over i y there same = by (k.instances i y there)
    where
      by : WasBefore t.instances i y ⊎ IsBegun t block i y → is_finished y.status ≡ true
      by (inl was) =
          stays_over (is_finished was.before.status) (is_finished y.status)
          (over i was.before was.there (sym was.block ∙ same)) was.going
      by (inr new) = absurd (ne (sym same ∙ new.block))

  ramps_on : (rows : List Activation) → ((j : ℕ) (a : Activation) (z : Slot) → slice_get rows j ≡ Some a
      → Contains a.slots z → z.block ≡ block → ⊥) → (b : Activation) → AreGivenBy e t.instances (b ∷ rows)
      → AreGivenBy e u.instances (b ∷ rows)
  ramps_on [] apart b given = given
  ramps_on (c ∷ rows) apart b given = (
    λ frame is none.
        let old = given.0 frame is none in
        record {
          call = old.call;
          instr = old.instr;
          name = old.name;
          block = old.block;
          site = old.site;
          stands = old.stands;
          result = old.result;
          address = old.address;
          is = old.is;
          slot = old.slot;
          over = over_on old.block (λ same. apart 0 c (record { alloca = old.name; block = old.block }) refl old.slot
              same) old.over;
        },
    ramps_on rows (λ j a z there has same. apart (suc j) a z there has same) c given.1,
  )

  top_ramps : (rows : List Activation) → t.below ≡ rows → AreGivenBy e t.instances (t.top ∷ rows)
      → AreGivenBy e u.instances (u.top ∷ rows)
  top_ramps [] below given = λ frame is. given frame (sym k.mode ∙ is)
  top_ramps (b ∷ rest) below given = (
    λ frame is none. absurd (some_none u.top.instance (length t.instances) k.instance none),
    ramps_on rest (λ j a z there has same. k.apart j a b rest z below there has same) b given.1,
  )

  pub begins_keep : HaveCallers e u
  begins_keep = record {
    each = λ number y there given going.
        subst (λ (stack : List Activation). IsCalledIn e u.world.memory y number [] stack) (sym rows)
        (each_on number y given going (k.instances number y there));
    last = λ number later y z there after lt given began.
        last_on number later y z lt given began (k.instances number y there) (k.instances later z after);
    ramps =
        subst (λ (stack : List Activation). AreGivenBy e u.instances stack) (sym rows)
        (top_ramps t.below refl h.ramps);
  }

-- ---- the state behind begin

module _ (e : Elision) (t : State) (memory : List MemoryBlock) (block : ℕ) (result : Option ℕ) (v : Value) where
  abbrev now : State
  now = begun (elided e).given (with_memory t memory) block 0

  begun_instances : (number : ℕ) (y : Instance) → slice_get (gives now result v).instances number ≡ Some y
      → WasBefore t.instances number y ⊎ IsBegun t block number y
  begun_instances number y there =
      ⊎_elim
      (λ here. inr (record {
        next = here.0;
        coroutine = ap (λ (x : Instance). x.coroutine) here.1;
        block = ap (λ (x : Instance). x.block) here.1;
        start = ap (λ (x : Instance). x.start) here.1;
      }))
      (λ other. ⊎_elim (λ old. inl (was_itself t.instances number y old))
      (λ new. by new.0 new.1.0 new.1.1) (of_row t.instances _ number y other))
      (set_at _ (length t.instances) _ number y there)
    where
      by : (j : ℕ) → slice_get (record {
        coroutine = t.top.func;
        block = block;
        start = 0;
        slots = [];
        status = Status.Running;
        last_save = None;
        released = false;
        freed = false;
      } ∷ []) j ≡ Some y → number ≡ length t.instances + j → WasBefore t.instances number y ⊎ IsBegun t block number y
      by zero at is =
          let same = one _ y at in
          inr (record {
            next = omega (arith, is);
            coroutine = ap (λ (x : Instance). x.coroutine) (sym same);
            block = ap (λ (x : Instance). x.block) (sym same);
            start = ap (λ (x : Instance). x.start) (sym same);
          })
        where
          one : (x z : Instance) → Some x ≡ Some z → x ≡ z
          one x z e = cc
      by (suc j) at is = absurd (cc)

-- ---- blocks

live_there : (memory : List MemoryBlock) (b : ℕ) → is_live_at memory b ≡ true → LivesAt memory b
live_there memory b is = by (slice_get memory b) refl is
  where
    by : (o : Option MemoryBlock) → slice_get memory b ≡ o → option_map_or (λ x. is_live x.life) o false ≡ true
        → LivesAt memory b
    by None at is = absurd (cc)
    by (Some z) at is = (z, at, is)

record MayBeOwned (kind : Kind) (memory : List MemoryBlock) (b : ℕ) : Type 0 where
  block : MemoryBlock
  there : slice_get memory b ≡ Some block
  live : is_live block.life ≡ true
  kind_is : same_kind block.kind kind ≡ true

may_own : (kind : Kind) (n : ℕ) (memory : List MemoryBlock) (b : ℕ) → may_be_owned kind n (slice_get memory b) ≡ true
    → MayBeOwned kind memory b
may_own kind n memory b is = by (slice_get memory b) refl is
  where
    at : (x : MemoryBlock) → slice_get memory b ≡ Some x → (l s o z : Bool) → is_live x.life ≡ l
        → same_kind x.kind kind ≡ s → (l && s && o && z) ≡ true → MayBeOwned kind memory b
    at x there true true o z live same is = record { block = x; there = there; live = live; kind_is = same }
    at x there false s o z live same is = absurd (cc)
    at x there true false o z live same is = absurd (cc)

    by : (o : Option MemoryBlock) → slice_get memory b ≡ o → may_be_owned kind n o ≡ true → MayBeOwned kind memory b
    by None there is = absurd (cc)
    by (Some x) there is =
        at x there (is_live x.life) (same_kind x.kind kind) (not (is_some x.owned)) (nat_le n x.size) refl refl is

none_is : {A : Type 0} (o : Option A) → is_none o ≡ true → o ≡ None
none_is None is = refl
none_is (Some x) is = absurd (cc)

-- ---- a frame that was given

module _ (e : Elision) (t : State) (result : Option ℕ) (v : Value)
    (inside : (function_in e t.top.func).coroutine ≡ true) (own : HaveOwnSlots t) (h : HaveCallers e t)
    (none : t.top.instance ≡ None) where
  module _ (frame : Value) (mode : t.top.mode ≡ Mode.GivenRamp frame) (b : Activation) (rest : List Activation)
      (below : t.below ≡ b ∷ rest) (g : IsGivenBy e t.instances frame t.top b) where
    abbrev after : List MemoryBlock → State
    after memory = gives (begun (elided e).given (with_memory t memory) g.block 0) result v

    never : (j : ℕ) → 1 ≡ suc (suc j) → ⊥
    never j is = absurd (omega (arith, is))

    no_other : (j : ℕ) (a c : Activation) (more : List Activation) (z : Slot) → t.below ≡ c ∷ more
        → slice_get more j ≡ Some a → Contains a.slots z → z.block ≡ g.block → ⊥
    no_other j a c more z is there has same =
        never j
        (own.once 1 (suc (suc j)) g.slot.0 has.0 (record { alloca = g.name; block = g.block }) z
        (record {
          activation = b;
          there = ap (λ (rows : List Activation). slice_get rows 0) below;
          slot = in_list b.slots g.slot.0 (record { alloca = g.name; block = g.block }) g.slot.1 g.slot.2;
        })
        (record {
          activation = a;
          there = ap (λ (rows : List Activation). slice_get rows (suc j)) is ∙ there;
          slot = in_list a.slots has.0 z has.1 has.2;
        }) (sym same)).0

    given_begins : (memory : List MemoryBlock) → KeepsStacks t.world.memory memory → LivesAt memory g.block
        → HaveCallers e (after memory)
    given_begins memory stacks live =
        begins_keep e t (after memory) g.block (record {
          inside = inside;
          below = refl;
          func = refl;
          result = refl;
          mode = refl;
          none = none;
          instance = refl;
          instances = begun_instances e t memory g.block result v;
          frames = frames_kept t (after memory) stacks;
          over = λ number y there same start given. g.over number y there same;
          apart = no_other;
          called = λ y new given.
              subst (λ (rows : List Activation). IsCalledIn e memory y (length t.instances) ((after memory).top ∷ [])
              rows) (sym below)
              (Here b ((after memory).top ∷ []) rest (record {
                call = g.call;
                instr = g.instr;
                name = g.name;
                site = g.site;
                start = new.start;
                address = g.address ∙ (λ j. pointer_to (sym new.block j));
                slot = subst (λ (n : ℕ). Contains b.slots (record { alloca = g.name; block = n })) (sym new.block)
                    g.slot;
                lives = subst (LivesAt memory) (sym new.block) live;
                holds = Calling (after memory).top [] g.stands (sym new.coroutine) g.result refl (frame, mode);
              }));
        }) h

    abbrev finish_with : Result State Cause → Result State Cause
    finish_with r = and_then r (λ (s : State). Ok (gives s result v))

    in_frame : (l : Bool) → is_live_at t.world.memory g.block ≡ l
        → Keep e (finish_with (ok_if l Cause.Begin (begun (elided e).given t g.block 0)))
    in_frame true is =
        given_begins t.world.memory (stacks_same t.world.memory) (live_there t.world.memory g.block is)
    in_frame false is = tt

    abbrev size : ℕ
    size = (own_frame (elided e).given t).size

    owned : (q : Bool) → may_be_owned Kind.Stack size (slice_get t.world.memory g.block) ≡ q
        → Keep e (finish_with (and_then (check (true && q) Cause.Begin (Ok (with_block t.world.memory g.block
        (owned_to size)))) (λ (memory : List MemoryBlock). Ok (begun (elided e).given (with_memory t memory) g.block
        0))))
    owned true is =
        let x = may_own Kind.Stack size t.world.memory g.block is in
        given_begins (with_block t.world.memory g.block (owned_to size))
        (changed_keeps (owned_to size) t.world.memory g.block (owned_life size))
        (owned_to size x.block, changed_here t.world.memory g.block (owned_to size) x.block x.there, x.live)
    owned false is = tt

    in_block : (q : Bool) → Keep e (finish_with (and_then (ok_if q Cause.Begin t)
        (λ (s : State). begin_at (elided e).given s (pointer_to g.block) Kind.Stack)))
    in_block true = owned (may_be_owned Kind.Stack size (slice_get t.world.memory g.block)) refl
    in_block false = tt

    by_room : (q : Bool) → Keep e (finish_with (if q then begin_in_frame (elided e) t g.block (offset_of 0)
        else begin_in_block (elided e) t g.block (offset_of 0)))
    by_room true = in_frame (is_live_at t.world.memory g.block) refl
    by_room false = in_block ((0 == 0) && has_size t.world.memory g.block size)

    pub begins_in : Keep e (finish_with (begin_given_at (elided e) t frame))
    begins_in =
        subst (λ (p : Value). Keep e (finish_with (begin_given_at (elided e) t p))) (sym g.is)
        (by_room (has_room (elided e) 0 size (frame_around (elided e) t.instances g.block 0)))

  pub begins_by : (frame : Value) → t.top.mode ≡ Mode.GivenRamp frame
      → Keep e (and_then (begin_given_at (elided e) t frame) (λ (s : State). Ok (gives s result v)))
  begins_by frame mode = on t.below refl h.ramps
    where
      on : (rows : List Activation) → t.below ≡ rows → AreGivenBy e t.instances (t.top ∷ rows)
          → Keep e (and_then (begin_given_at (elided e) t frame) (λ (s : State). Ok (gives s result v)))
      on [] below given = absurd (given frame mode)
      on (b ∷ rest) below given = begins_in frame mode b rest below (given.0 frame mode none)

  -- ---- a frame that was allocated

  no_stack : (k : Kind) → same_kind k Kind.Allocator ≡ true → same_kind k Kind.Stack ≡ false
  no_stack Kind.Allocator is = refl
  no_stack Kind.Stack is = absurd (cc)
  no_stack Kind.Slot is = refl
  no_stack Kind.Global is = refl
  no_stack Kind.Constant is = refl

  no_alloca : (k : Kind) → same_kind k Kind.Allocator ≡ true → IsAllocaKind k → ⊥
  no_alloca Kind.Allocator is made = absurd (cc)
  no_alloca Kind.Stack is made = absurd (cc)
  no_alloca Kind.Slot is made = absurd (cc)
  no_alloca Kind.Global is made = absurd (cc)
  no_alloca Kind.Constant is made = absurd (cc)

  yes_not : (p : Bool) → p ≡ true → p ≡ false → ⊥
  yes_not true y n = absurd (cc)
  yes_not false y n = absurd (cc)

  module _ (size block : ℕ) (x : MayBeOwned Kind.Allocator t.world.memory block) where
    abbrev memory : List MemoryBlock
    memory = with_block t.world.memory block (owned_to size)

    abbrev begins_at : State
    begins_at = gives (begun (elided e).given (with_memory t memory) block 0) result v

    ungiven : (y : Instance) → y.block ≡ block → y.start ≡ 0 → is_given memory y ≡ true → ⊥
    ungiven y same start given =
        yes_not (is_given memory y) given
        ((λ j. is_stack_block memory (same j) || not (start j == 0))
        ∙ (ap (λ (o : Option MemoryBlock). option_map_or (λ z. same_kind z.kind Kind.Stack) o false || false)
        (changed_here t.world.memory block (owned_to size) x.block x.there)
        ∙ ap (λ (b : Bool). b || false) (no_stack x.block.kind x.kind_is)))

    slots_apart : (j : ℕ) (a c : Activation) (more : List Activation) (z : Slot) → t.below ≡ c ∷ more
        → slice_get more j ≡ Some a → Contains a.slots z → z.block ≡ block → ⊥
    slots_apart j a c more z is there has same =
        let made = own.blocks (suc (suc j)) has.0 z (record {
          activation = a;
          there = ap (λ (rows : List Activation). slice_get rows (suc j)) is ∙ there;
          slot = in_list a.slots has.0 z has.1 has.2;
        }) in
        let one : x.block ≡ made.block = some_is x.block made.block
        (sym x.there ∙ (ap (slice_get t.world.memory) (sym same) ∙ made.there)) in
        no_alloca made.block.kind (ap (λ (y : MemoryBlock). same_kind y.kind Kind.Allocator) (sym one) ∙ x.kind_is)
        made.made
      where
        some_is : (y z : MemoryBlock) → Some y ≡ Some z → y ≡ z
        some_is y z e = cc

    allocated_begins : HaveCallers e begins_at
    allocated_begins =
        begins_keep e t begins_at block (record {
          inside = inside;
          below = refl;
          func = refl;
          result = refl;
          mode = refl;
          none = none;
          instance = refl;
          instances = begun_instances e t memory block result v;
          frames = frames_kept t begins_at (changed_keeps (owned_to size) t.world.memory block (owned_life size));
          over = λ number y there same start given. absurd (ungiven y same start given);
          apart = slots_apart;
          called = λ y new given. absurd (ungiven y new.block new.start given);
        }) h

  own_at : (bytes block : ℕ) (first q : Bool) → may_be_owned Kind.Allocator bytes (slice_get t.world.memory block) ≡ q
      → Keep e (and_then (and_then (check (first && q) Cause.Begin (Ok (with_block t.world.memory block
      (owned_to bytes)))) (λ (memory : List MemoryBlock). Ok (begun (elided e).given (with_memory t memory) block 0)))
      (λ (s : State). Ok (gives s result v)))
  own_at bytes block true true is = allocated_begins bytes block (may_own Kind.Allocator bytes t.world.memory block is)
  own_at bytes block true false is = tt
  own_at bytes block false q is = tt

  pub begins_at_own : (p : Value) → Keep e (and_then (begin_at (elided e).given t p Kind.Allocator)
      (λ (s : State). Ok (gives s result v)))
  begins_at_own (Value.Ptr (Pointer.At b o)) =
      own_at (own_frame (elided e).given t).size b (o.bits == 0)
      (may_be_owned Kind.Allocator (own_frame (elided e).given t).size (slice_get t.world.memory b)) refl
  begins_at_own (Value.Ptr Pointer.Null) = tt
  begins_at_own (Value.Ptr (Pointer.Func g)) = tt
  begins_at_own Value.Poison = tt
  begins_at_own (Value.Int w) = tt

-- ---- the step

module _ (e : Elision) (t : State) (at : ℕ) (result : Option ℕ) (must_tail : Bool) (ty : Option Ty)
    (args : List Arg)
    (k : StandsAtInstr e t at (Instr.Call result must_tail ty (Callee.Intrinsic Intrinsic.CoroBegin) args))
    (inside : (function_in e t.top.func).coroutine ≡ true) (own : HaveOwnSlots t) (h : HaveCallers e t) where
  given_mode : (frame : Value) → t.top.mode ≡ Mode.GivenRamp frame → (a b : Bool) → is_none t.top.instance ≡ a
      → Keep e (and_then (ok_if (a && b) Cause.Begin t) (λ (s : State). and_then (begin_given_at (elided e) s frame)
      (λ (z : State). Ok (gives z result frame))))
  given_mode frame mode true true is =
      begins_by e t result frame inside own h (none_is t.top.instance is) frame mode
  given_mode frame mode true false is = tt
  given_mode frame mode false b is = tt

  other_mode : (p : Value) (a : Bool) → is_none t.top.instance ≡ a
      → Keep e (and_then (ok_if a Cause.Begin t) (λ (s : State). and_then
      (begin_at (elided e).given s p Kind.Allocator) (λ (z : State). Ok (gives z result p))))
  other_mode p true is = begins_at_own e t result p inside own h (none_is t.top.instance is) p
  other_mode p false is = tt

  by_mode : (p : Value) (mode : Mode) → t.top.mode ≡ mode → Keep e (framed_begin (elided e) t result p mode)
  by_mode p (Mode.GivenRamp frame) is =
      given_mode frame is (is_none t.top.instance) (are_finished_at t.instances frame) refl
  by_mode p Mode.Plain is = other_mode p (is_none t.top.instance) refl
  by_mode p Mode.Ramp is = other_mode p (is_none t.top.instance) refl
  by_mode p Mode.Resumed is = other_mode p (is_none t.top.instance) refl
  by_mode p (Mode.Entering from label) is = other_mode p (is_none t.top.instance) refl

  pub begin_keeps : HaveCallers e (framed_step (elided e) t)
  begin_keeps =
      next_keeps e t at (Instr.Call result must_tail ty (Callee.Intrinsic Intrinsic.CoroBegin) args) k h
      (by_mode (nth (arg_values (elided e).given.code t.top.values args) 1) t.top.mode refl)
