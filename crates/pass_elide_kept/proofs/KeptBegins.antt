-- Keepers stay at a begin. The caller of a ramp that was given its frame keeps the handle of what begins there, and
-- all that began there before is over.
use Rattle.std.proofs.Common.{◌≡◌, ◌<◌, ◌+◌, ◌∙◌, ◌∷◌, ◌||◌, ◌&&◌, ◌==◌, ◌⊎◌, [], ap, arith, Bool, false, inl, inr, ⊎_elim, List, length, not, Ok, Option, refl, Result, subst, suc, sym, true, zero, ℕ, if◌then◌else◌}
use Rattle.std.specs.List.{Contains}
use Rattle.std.specs.Option.{option_map_or}
use Rattle.std.specs.Prelude.{None, Some, is_none, is_some, nat_le, slice_get}
use Rattle.pass_elide_kept.proofs.Keepers.{kept_as, kept_top}
use Rattle.pass_elide_kept.proofs.KeptEdges.{KeepersIf}
use Rattle.pass_elide_kept.proofs.KeptPushed.{next_kept}
use Rattle.pass_elide_kept.proofs.KeptRows.{over_on}
use Rattle.pass_elide_kept.specs.Keepers.{IsOver, IsRenewed, KeepersIn, WasFreed}
use Rattle.pass_elide_kept.specs.Kept.{Calling, IsKeptIn}
use Rattle.pass_elide_proof.proofs.Callees.{in_list}
use Rattle.pass_elide_proof.proofs.CallersBegin.{IsBegun}
use Rattle.pass_elide_proof.proofs.CallersBlocks.{KeepsStacks, changed_keeps, frames_kept, owned_life, stacks_same}
use Rattle.pass_elide_proof.proofs.CallersInstr.{was_itself}
use Rattle.pass_elide_proof.proofs.CallersOnward.{given_as}
use Rattle.pass_elide_proof.proofs.Facts.{not_both, some_none}
use Rattle.pass_elide_proof.specs.Callers.{KeepsFrames, StandsAtInstr, WasBefore}
use Rattle.pass_elide_proof.specs.Elision.{Elision, elided, function_in}
use Rattle.pass_elide_proof.specs.Invariant.{AreGivenBy, IsGivenBy}
use Rattle.pass_elide_proof.specs.Returning.{HaveOwnSlots, IsAllocaKind}
use Rattle.pass_elide_proof.proofs.pass_proofs.ir_laws.facts.Lists.{get_within, of_row, set_at}
use Rattle.pass_elide_proof.proofs.pass_proofs.ir_laws.facts.Truth.{and_first, and_second, equal_numbers}
use Rattle.pass_elide_proof.proofs.pass_proofs.run_laws.memory.Written.{changed_here}
use Rattle.pass_elide_proof.specs.pass_proofs.ir_base.declared.cause.Cause.{Cause}
use Rattle.pass_elide_proof.specs.pass_proofs.ir_model.Ty.{Ty}
use Rattle.pass_elide_proof.specs.pass_proofs.ir_model.declared.instr.Instr.{Instr}
use Rattle.pass_elide_proof.specs.pass_proofs.ir_model.declared.operand.Arg.{Arg}
use Rattle.pass_elide_proof.specs.pass_proofs.ir_model.declared.operand.Callee.{Callee}
use Rattle.pass_elide_proof.specs.pass_proofs.ir_model.declared.operand.Intrinsic.{Intrinsic}
use Rattle.pass_elide_proof.specs.pass_proofs.run_agreement.Machines.{IsFine}
use Rattle.pass_elide_proof.specs.pass_proofs.run_framed.Framed.{are_finished_at, begin_given_at, begin_in_block, begin_in_frame, frame_around, framed_begin, framed_step, has_room, has_size, is_given, is_stack_block}
use Rattle.pass_elide_proof.specs.pass_proofs.run_laws.changed.Changed.{Each}
use Rattle.pass_elide_proof.specs.pass_proofs.run_memory.Memory.{check, is_live, may_be_owned, owned_to, same_kind, with_block}
use Rattle.pass_elide_proof.specs.pass_proofs.run_memory.Pointers.{offset_of}
use Rattle.pass_elide_proof.specs.pass_proofs.run_memory.declared.block.Kind.{Kind}
use Rattle.pass_elide_proof.specs.pass_proofs.run_memory.declared.block.MemoryBlock.{MemoryBlock}
use Rattle.pass_elide_proof.specs.pass_proofs.run_memory.declared.pointer.Pointer.{Pointer}
use Rattle.pass_elide_proof.specs.pass_proofs.run_memory.declared.pointer.Value.{Value}
use Rattle.pass_elide_proof.specs.pass_proofs.run_source.Source.{begin_at, begun, is_live_at}
use Rattle.pass_elide_proof.specs.pass_proofs.run_source.State.{began_at, gives, own_frame, with_memory, address_in}
use Rattle.pass_elide_proof.specs.pass_proofs.run_source.declared.state.Activation.{Activation}
use Rattle.pass_elide_proof.specs.pass_proofs.run_source.declared.state.Instance.{Instance}
use Rattle.pass_elide_proof.specs.pass_proofs.run_source.declared.state.Mode.{Mode}
use Rattle.pass_elide_proof.specs.pass_proofs.run_source.declared.state.State.{State}
use Rattle.pass_elide_proof.specs.pass_proofs.run_source.declared.state.Status.{Status}
use Rattle.pass_elide_proof.specs.pass_proofs.run_step.Results.{and_then, ok_if}
use Rattle.pass_elide_proof.specs.pass_proofs.run_step.Values.{arg_values, nth, pointer_to}
use Rattle.pass_elide_proof.specs.pass_proofs.run_step.declared.world.Slot.{Slot}

-- ---- one instance more

record BeginsOne (e : Elision) (z t u : State) (block : ℕ) : Type 0 where
  pub inside : (function_in e t.top.func).coroutine ≡ true
  pub below : u.below ≡ t.below
  pub func : u.top.func ≡ t.top.func
  pub result : u.top.result ≡ t.top.result
  pub none : t.top.instance ≡ None
  pub instance : u.top.instance ≡ Some (length t.instances)
  pub mode : u.top.mode ≡ t.top.mode
  pub instances : (number : ℕ) (y : Instance) → slice_get u.instances number ≡ Some y
      → WasBefore t.instances number y ⊎ IsBegun t block number y
  pub frames : KeepsFrames t u
  -- what began there before is over
  pub over : (number : ℕ) (y : Instance) → slice_get t.instances number ≡ Some y → y.block ≡ block → y.start ≡ 0
      → is_given u.world.memory y ≡ true → IsOver z number y
  -- no slot leads there, but for those of the caller
  pub apart : (j : ℕ) (a b : Activation) (below : List Activation) (z : Slot) → t.below ≡ b ∷ below
      → slice_get below j ≡ Some a → Contains a.slots z → z.block ≡ block → ⊥
  -- the caller keeps the handle of the new one
  pub kept : (y : Instance) → IsBegun t block (length t.instances) y → is_given u.world.memory y ≡ true
      → IsKeptIn e y (length t.instances) (Some u.top) t.below

module _ (e : Elision) (z t u : State) (block : ℕ) (k : BeginsOne e z t u block) (h : KeepersIn e z t)
    (ramps : AreGivenBy e t.instances (t.top ∷ t.below)) where
  given_before : (number : ℕ) (y : Instance) (was : WasBefore t.instances number y)
      → is_given u.world.memory y ≡ true → is_given u.world.memory was.before ≡ true
  given_before number y was given =
      sym (given_as e was.before y number was.coroutine was.block was.start u.world.memory) ∙ given

  each_on : (number : ℕ) (y : Instance) → is_given u.world.memory y ≡ true
      → WasBefore t.instances number y ⊎ IsBegun t block number y
      → IsOver z number y ⊎ IsKeptIn e y number None (u.top ∷ t.below)
  each_on number y given (inl was) =
      by (h.each number was.before was.there
      (k.frames.given number was.before was.there (given_before number y was given)))
    where
      by : IsOver z number was.before ⊎ IsKeptIn e was.before number None (t.top ∷ t.below)
          → IsOver z number y ⊎ IsKeptIn e y number None (u.top ∷ t.below)
      by (inl over) = inl (over_on z t.instances number y was over)
      by (inr kept) =
          inr (kept_as e was.before y number was.coroutine was.block was.start None (u.top ∷ t.below)
          (kept_top e was.before number t.top u.top t.below
          (λ c. absurd (not_both (function_in e t.top.func).coroutine k.inside c.site.plain)) (record {
            func = k.func;
            result = k.result;
            instance = λ n is. absurd (some_none t.top.instance n is k.none);
            mode = λ frame is. k.mode ∙ is;
          }) (λ d. absurd (some_none t.top.instance number d.instance k.none)) kept))
  each_on number y given (inr new) =
      subst (λ (n : ℕ). IsOver z n y ⊎ IsKeptIn e y n None (u.top ∷ t.below)) (sym new.next)
      (inr (inr (k.kept y (record { next = refl; coroutine = new.coroutine; block = new.block; start = new.start })
      given)))

  replaced_on : (number later : ℕ) (y w : Instance) → number < later → is_given u.world.memory y ≡ true
      → began_at y.block y.start w ≡ true → WasBefore t.instances number y ⊎ IsBegun t block number y
      → WasBefore t.instances later w ⊎ IsBegun t block later w → IsOver z number y
  replaced_on number later y w lt given began (inl was) (inl next) =
      over_on z t.instances number y was
      (h.replaced number later was.before next.before was.there next.there lt
      (k.frames.given number was.before was.there (given_before number y was given))
      ((λ j. (sym next.block j == sym was.block j) && (sym next.start j == sym was.start j)) ∙ began))
  replaced_on number later y w lt given began (inl was) (inr new) =
      let same : w.block ≡ y.block
      = equal_numbers w.block y.block (and_first (w.block == y.block) (w.start == y.start) began) in
      let first : w.start ≡ y.start
      = equal_numbers w.start y.start (and_second (w.block == y.block) (w.start == y.start) began) in
      over_on z t.instances number y was
      (k.over number was.before was.there (sym was.block ∙ (sym same ∙ new.block))
      (sym was.start ∙ (sym first ∙ new.start)) (given_before number y was given))
  replaced_on number later y w lt given began (inr new) (inl next) =
      let within = get_within t.instances later next.before next.there in
      let at = new.next in
      absurd (omega (arith, lt, within, at))
  replaced_on number later y w lt given began (inr new) (inr next) =
      let at = new.next in let to = next.next in absurd (omega (arith, lt, at, to))

  -- ---- ramps below that haven't begun

  ramp_on : (c : Activation) → IsRenewed z t.instances c → ((frame : Value) → c.mode ≡ Mode.GivenRamp frame
      → c.instance ≡ None → frame ≡ pointer_to block → ⊥) → IsRenewed z u.instances c
  ramp_on c old apart place offset none is number y there at from = by (k.instances number y there)
    where
      by : WasBefore t.instances number y ⊎ IsBegun t block number y → WasFreed z number
      by (inl was) =
          old place offset none is number was.before was.there (sym was.block ∙ at) (sym was.start ∙ from)
      by (inr new) =
          absurd (apart (address_in place offset) is none
          (λ j. address_in ((sym at ∙ new.block) j) ((sym from ∙ new.start) j)))

  same_block : (m n : ℕ) → pointer_to m ≡ pointer_to n → m ≡ n
  same_block m n e = cc

  rows_on : (rows : List Activation) → ((j : ℕ) (a : Activation) (s : Slot) → slice_get rows j ≡ Some a
      → Contains a.slots s → s.block ≡ block → ⊥) → (b : Activation) → AreGivenBy e t.instances (b ∷ rows)
      → Each (IsRenewed z t.instances) (b ∷ rows) → Each (IsRenewed z u.instances) (b ∷ rows)
  rows_on [] apart b given old = (ramp_on b old.0 (λ frame is none same. given frame is), tt)
  rows_on (c ∷ rows) apart b given old = (
    ramp_on b old.0
        (λ frame is none same.
        let from = given.0 frame is none in
        apart 0 c (record { alloca = from.name; block = from.block }) refl from.slot
        (same_block from.block block (sym from.is ∙ same))),
    rows_on rows (λ j a s there has same. apart (suc j) a s there has same) c given.1 old.1,
  )

  top_on : (rows : List Activation) → t.below ≡ rows → AreGivenBy e t.instances (t.top ∷ rows)
      → Each (IsRenewed z t.instances) (t.top ∷ rows) → Each (IsRenewed z u.instances) (u.top ∷ rows)
  top_on [] below given old =
      (λ place offset none is. absurd (some_none u.top.instance (length t.instances) k.instance none), tt)
  top_on (b ∷ rest) below given old = (
    λ place offset none is. absurd (some_none u.top.instance (length t.instances) k.instance none),
    rows_on rest (λ j a s there has same. k.apart j a b rest s below there has same) b given.1 old.1,
  )

  begins_keep : KeepersIn e z u
  begins_keep = record {
    each = λ number y there given.
        subst (λ (rows : List Activation). IsOver z number y ⊎ IsKeptIn e y number None (u.top ∷ rows)) (sym k.below)
        (each_on number y given (k.instances number y there));
    replaced = λ number later y w there after lt given began.
        replaced_on number later y w lt given began (k.instances number y there) (k.instances later w after);
    renewed =
        subst (λ (rows : List Activation). Each (IsRenewed z u.instances) (u.top ∷ rows)) (sym k.below)
        (top_on t.below refl ramps h.renewed);
  }

-- ---- the state behind begin

module _ (e : Elision) (t : State) (memory : List MemoryBlock) (block : ℕ) (result : Option ℕ) (v : Value) where
  abbrev now : State
  now = begun (elided e).given (with_memory t memory) block 0

  begun_instances : (number : ℕ) (y : Instance) → slice_get (gives now result v).instances number ≡ Some y
      → WasBefore t.instances number y ⊎ IsBegun t block number y
  begun_instances number y there =
      ⊎_elim
      (λ here. inr (record {
        next = here.0;
        coroutine = ap (λ (x : Instance). x.coroutine) here.1;
        block = ap (λ (x : Instance). x.block) here.1;
        start = ap (λ (x : Instance). x.start) here.1;
      }))
      (λ other. ⊎_elim (λ old. inl (was_itself t.instances number y old))
      (λ new. by new.0 new.1.0 new.1.1) (of_row t.instances _ number y other))
      (set_at _ (length t.instances) _ number y there)
    where
      by : (j : ℕ) → slice_get (record {
        coroutine = t.top.func;
        block = block;
        start = 0;
        slots = [];
        status = Status.Running;
        last_save = None;
        released = false;
        freed = false;
      } ∷ []) j ≡ Some y → number ≡ length t.instances + j → WasBefore t.instances number y ⊎ IsBegun t block number y
      by zero at is =
          let same = one _ y at in
          inr (record {
            next = omega (arith, is);
            coroutine = ap (λ (x : Instance). x.coroutine) (sym same);
            block = ap (λ (x : Instance). x.block) (sym same);
            start = ap (λ (x : Instance). x.start) (sym same);
          })
        where
          one : (x z : Instance) → Some x ≡ Some z → x ≡ z
          one x z e = cc
      by (suc j) at is = absurd (cc)

-- ---- blocks

record MayBeOwned (kind : Kind) (memory : List MemoryBlock) (b : ℕ) : Type 0 where
  block : MemoryBlock
  there : slice_get memory b ≡ Some block
  live : is_live block.life ≡ true
  kind_is : same_kind block.kind kind ≡ true

may_own : (kind : Kind) (n : ℕ) (memory : List MemoryBlock) (b : ℕ) → may_be_owned kind n (slice_get memory b) ≡ true
    → MayBeOwned kind memory b
may_own kind n memory b is = by (slice_get memory b) refl is
  where
    at : (x : MemoryBlock) → slice_get memory b ≡ Some x → (l s o z : Bool) → is_live x.life ≡ l
        → same_kind x.kind kind ≡ s → (l && s && o && z) ≡ true → MayBeOwned kind memory b
    at x there true true o z live same is = record { block = x; there = there; live = live; kind_is = same }
    at x there false s o z live same is = absurd (cc)
    at x there true false o z live same is = absurd (cc)

    by : (o : Option MemoryBlock) → slice_get memory b ≡ o → may_be_owned kind n o ≡ true → MayBeOwned kind memory b
    by None there is = absurd (cc)
    by (Some x) there is =
        at x there (is_live x.life) (same_kind x.kind kind) (not (is_some x.owned)) (nat_le n x.size) refl refl is

none_is : {A : Type 0} (o : Option A) → is_none o ≡ true → o ≡ None
none_is None is = refl
none_is (Some x) is = absurd (cc)

-- ---- a frame that was given

module _ (e : Elision) (z t : State) (result : Option ℕ) (v : Value)
    (inside : (function_in e t.top.func).coroutine ≡ true) (own : HaveOwnSlots t) (h : KeepersIn e z t)
    (ramps : AreGivenBy e t.instances (t.top ∷ t.below)) (none : t.top.instance ≡ None) where
  module _ (frame : Value) (mode : t.top.mode ≡ Mode.GivenRamp frame) (b : Activation) (rest : List Activation)
      (below : t.below ≡ b ∷ rest) (g : IsGivenBy e t.instances frame t.top b) where
    abbrev after : List MemoryBlock → State
    after memory = gives (begun (elided e).given (with_memory t memory) g.block 0) result v

    never : (j : ℕ) → 1 ≡ suc (suc j) → ⊥
    never j is = absurd (omega (arith, is))

    no_other : (j : ℕ) (a c : Activation) (more : List Activation) (z : Slot) → t.below ≡ c ∷ more
        → slice_get more j ≡ Some a → Contains a.slots z → z.block ≡ g.block → ⊥
    no_other j a c more z is there has same =
        never j
        (own.once 1 (suc (suc j)) g.slot.0 has.0 (record { alloca = g.name; block = g.block }) z
        (record {
          activation = b;
          there = ap (λ (rows : List Activation). slice_get rows 0) below;
          slot = in_list b.slots g.slot.0 (record { alloca = g.name; block = g.block }) g.slot.1 g.slot.2;
        })
        (record {
          activation = a;
          there = ap (λ (rows : List Activation). slice_get rows (suc j)) is ∙ there;
          slot = in_list a.slots has.0 z has.1 has.2;
        }) (sym same)).0

    given_begins : (memory : List MemoryBlock) → KeepsStacks t.world.memory memory
        → KeepersIn e z (after memory)
    given_begins memory stacks =
        begins_keep e z t (after memory) g.block (record {
          inside = inside;
          below = refl;
          func = refl;
          result = refl;
          none = none;
          instance = refl;
          mode = refl;
          instances = begun_instances e t memory g.block result v;
          frames = frames_kept t (after memory) stacks;
          over = λ number y there same start given. (
            g.over number y there same,
            h.renewed.0 g.block 0 none (mode ∙ ap Mode.GivenRamp g.is) number y there same start,
          );
          apart = no_other;
          kept = λ y new given.
              subst (λ (rows : List Activation). IsKeptIn e y (length t.instances) (Some (after memory).top) rows)
              (sym below)
              (inl (record {
                call = g.call;
                instr = g.instr;
                name = g.name;
                site = g.site;
                start = new.start;
                address = g.address ∙ (λ j. pointer_to (sym new.block j));
                slot = subst (λ (n : ℕ). Contains b.slots (record { alloca = g.name; block = n })) (sym new.block)
                    g.slot;
                keeps = Calling (after memory).top g.stands (sym new.coroutine) g.result refl (frame, mode);
              }));
        }) h ramps

    abbrev finish_with : Result State Cause → Result State Cause
    finish_with r = and_then r (λ (s : State). Ok (gives s result v))

    in_frame : (l : Bool) → is_live_at t.world.memory g.block ≡ l
        → KeepersIf e z (finish_with (ok_if l Cause.Begin (begun (elided e).given t g.block 0)))
    in_frame true is =
        given_begins t.world.memory (stacks_same t.world.memory)
    in_frame false is = tt

    abbrev size : ℕ
    size = (own_frame (elided e).given t).size

    owned : (q : Bool) → may_be_owned Kind.Stack size (slice_get t.world.memory g.block) ≡ q
        → KeepersIf e z (finish_with (and_then (check (true && q) Cause.Begin (Ok (with_block t.world.memory g.block
        (owned_to size)))) (λ (memory : List MemoryBlock). Ok (begun (elided e).given (with_memory t memory) g.block
        0))))
    owned true is =
        given_begins (with_block t.world.memory g.block (owned_to size))
        (changed_keeps (owned_to size) t.world.memory g.block (owned_life size))
    owned false is = tt

    in_block : (q : Bool) → KeepersIf e z (finish_with (and_then (ok_if q Cause.Begin t)
        (λ (s : State). begin_at (elided e).given s (pointer_to g.block) Kind.Stack)))
    in_block true = owned (may_be_owned Kind.Stack size (slice_get t.world.memory g.block)) refl
    in_block false = tt

    by_room : (q : Bool) → KeepersIf e z (finish_with (if q then begin_in_frame (elided e) t g.block (offset_of 0)
        else begin_in_block (elided e) t g.block (offset_of 0)))
    by_room true = in_frame (is_live_at t.world.memory g.block) refl
    by_room false = in_block ((0 == 0) && has_size t.world.memory g.block size)

    pub begins_in : KeepersIf e z (finish_with (begin_given_at (elided e) t frame))
    begins_in =
        subst (λ (p : Value). KeepersIf e z (finish_with (begin_given_at (elided e) t p))) (sym g.is)
        (by_room (has_room (elided e) 0 size (frame_around (elided e) t.instances g.block 0)))

  pub begins_by : (frame : Value) → t.top.mode ≡ Mode.GivenRamp frame
      → KeepersIf e z (and_then (begin_given_at (elided e) t frame) (λ (s : State). Ok (gives s result v)))
  begins_by frame mode = on t.below refl ramps
    where
      on : (rows : List Activation) → t.below ≡ rows → AreGivenBy e t.instances (t.top ∷ rows)
          → KeepersIf e z (and_then (begin_given_at (elided e) t frame) (λ (s : State). Ok (gives s result v)))
      on [] below given = absurd (given frame mode)
      on (b ∷ rest) below given = begins_in frame mode b rest below (given.0 frame mode none)

  -- ---- a frame that was allocated

  no_stack : (k : Kind) → same_kind k Kind.Allocator ≡ true → same_kind k Kind.Stack ≡ false
  no_stack Kind.Allocator is = refl
  no_stack Kind.Stack is = absurd (cc)
  no_stack Kind.Slot is = refl
  no_stack Kind.Global is = refl
  no_stack Kind.Constant is = refl

  no_alloca : (k : Kind) → same_kind k Kind.Allocator ≡ true → IsAllocaKind k → ⊥
  no_alloca Kind.Allocator is made = absurd (cc)
  no_alloca Kind.Stack is made = absurd (cc)
  no_alloca Kind.Slot is made = absurd (cc)
  no_alloca Kind.Global is made = absurd (cc)
  no_alloca Kind.Constant is made = absurd (cc)

  yes_not : (p : Bool) → p ≡ true → p ≡ false → ⊥
  yes_not true y n = absurd (cc)
  yes_not false y n = absurd (cc)

  module _ (size block : ℕ) (x : MayBeOwned Kind.Allocator t.world.memory block) where
    abbrev memory : List MemoryBlock
    memory = with_block t.world.memory block (owned_to size)

    abbrev begins_at : State
    begins_at = gives (begun (elided e).given (with_memory t memory) block 0) result v

    ungiven : (y : Instance) → y.block ≡ block → y.start ≡ 0 → is_given memory y ≡ true → ⊥
    ungiven y same start given =
        yes_not (is_given memory y) given
        ((λ j. is_stack_block memory (same j) || not (start j == 0))
        ∙ (ap (λ (o : Option MemoryBlock). option_map_or (λ z. same_kind z.kind Kind.Stack) o false || false)
        (changed_here t.world.memory block (owned_to size) x.block x.there)
        ∙ ap (λ (b : Bool). b || false) (no_stack x.block.kind x.kind_is)))

    slots_apart : (j : ℕ) (a c : Activation) (more : List Activation) (z : Slot) → t.below ≡ c ∷ more
        → slice_get more j ≡ Some a → Contains a.slots z → z.block ≡ block → ⊥
    slots_apart j a c more z is there has same =
        let made = own.blocks (suc (suc j)) has.0 z (record {
          activation = a;
          there = ap (λ (rows : List Activation). slice_get rows (suc j)) is ∙ there;
          slot = in_list a.slots has.0 z has.1 has.2;
        }) in
        let one : x.block ≡ made.block = some_is x.block made.block
        (sym x.there ∙ (ap (slice_get t.world.memory) (sym same) ∙ made.there)) in
        no_alloca made.block.kind (ap (λ (y : MemoryBlock). same_kind y.kind Kind.Allocator) (sym one) ∙ x.kind_is)
        made.made
      where
        some_is : (y z : MemoryBlock) → Some y ≡ Some z → y ≡ z
        some_is y z e = cc

    allocated_begins : KeepersIn e z begins_at
    allocated_begins =
        begins_keep e z t begins_at block (record {
          inside = inside;
          below = refl;
          func = refl;
          result = refl;
          none = none;
          instance = refl;
          mode = refl;
          instances = begun_instances e t memory block result v;
          frames = frames_kept t begins_at (changed_keeps (owned_to size) t.world.memory block (owned_life size));
          over = λ number y there same start given. absurd (ungiven y same start given);
          apart = slots_apart;
          kept = λ y new given. absurd (ungiven y new.block new.start given);
        }) h ramps

  own_at : (bytes block : ℕ) (first q : Bool) → may_be_owned Kind.Allocator bytes (slice_get t.world.memory block) ≡ q
      → KeepersIf e z (and_then (and_then (check (first && q) Cause.Begin (Ok (with_block t.world.memory block
      (owned_to bytes)))) (λ (memory : List MemoryBlock). Ok (begun (elided e).given (with_memory t memory) block 0)))
      (λ (s : State). Ok (gives s result v)))
  own_at bytes block true true is = allocated_begins bytes block (may_own Kind.Allocator bytes t.world.memory block is)
  own_at bytes block true false is = tt
  own_at bytes block false q is = tt

  pub begins_at_own : (p : Value) → KeepersIf e z (and_then (begin_at (elided e).given t p Kind.Allocator)
      (λ (s : State). Ok (gives s result v)))
  begins_at_own (Value.Ptr (Pointer.At b o)) =
      own_at (own_frame (elided e).given t).size b (o.bits == 0)
      (may_be_owned Kind.Allocator (own_frame (elided e).given t).size (slice_get t.world.memory b)) refl
  begins_at_own (Value.Ptr Pointer.Null) = tt
  begins_at_own (Value.Ptr (Pointer.Func g)) = tt
  begins_at_own Value.Poison = tt
  begins_at_own (Value.Int w) = tt

-- ---- the step

module _ (e : Elision) (z t : State) (at : ℕ) (result : Option ℕ) (must_tail : Bool) (ty : Option Ty)
    (args : List Arg)
    (k : StandsAtInstr e t at (Instr.Call result must_tail ty (Callee.Intrinsic Intrinsic.CoroBegin) args))
    (inside : (function_in e t.top.func).coroutine ≡ true) (own : HaveOwnSlots t) (h : KeepersIn e z t)
    (ramps : AreGivenBy e t.instances (t.top ∷ t.below)) where
  given_mode : (frame : Value) → t.top.mode ≡ Mode.GivenRamp frame → (a b : Bool) → is_none t.top.instance ≡ a
      → KeepersIf e z (and_then (ok_if (a && b) Cause.Begin t) (λ (s : State). and_then (begin_given_at (elided e) s frame)
      (λ (u : State). Ok (gives u result frame))))
  given_mode frame mode true true is =
      begins_by e z t result frame inside own h ramps (none_is t.top.instance is) frame mode
  given_mode frame mode true false is = tt
  given_mode frame mode false b is = tt

  other_mode : (p : Value) (a : Bool) → is_none t.top.instance ≡ a
      → KeepersIf e z (and_then (ok_if a Cause.Begin t) (λ (s : State). and_then
      (begin_at (elided e).given s p Kind.Allocator) (λ (u : State). Ok (gives u result p))))
  other_mode p true is = begins_at_own e z t result p inside own h ramps (none_is t.top.instance is) p
  other_mode p false is = tt

  by_mode : (p : Value) (mode : Mode) → t.top.mode ≡ mode → KeepersIf e z (framed_begin (elided e) t result p mode)
  by_mode p (Mode.GivenRamp frame) is =
      given_mode frame is (is_none t.top.instance) (are_finished_at t.instances frame) refl
  by_mode p Mode.Plain is = other_mode p (is_none t.top.instance) refl
  by_mode p Mode.Ramp is = other_mode p (is_none t.top.instance) refl
  by_mode p Mode.Resumed is = other_mode p (is_none t.top.instance) refl
  by_mode p (Mode.Entering from label) is = other_mode p (is_none t.top.instance) refl

  pub begins_keep_keepers : IsFine (framed_step (elided e) t).outcome → KeepersIn e z (framed_step (elided e) t)
  begins_keep_keepers fine =
      next_kept e z t at (Instr.Call result must_tail ty (Callee.Intrinsic Intrinsic.CoroBegin) args) k fine
      (by_mode (nth (arg_values (elided e).given.code t.top.values args) 1) t.top.mode refl)
