-- The run in which callees are given frames makes the allocas in front of a function's first place.
use Rattle.std.proofs.Common.{◌≡◌, ◌≤◌, ◌<◌, ◌+◌, ◌*◌, ◌∙◌, ◌++◌, ◌∷◌, [], ap, arith, Bool, false, List, Ok, refl, subst, suc, sym, true, ℕ, zero, length, if◌then◌else◌, append-nil, append_assoc, length-append}
use Rattle.std.specs.List.{Contains}
use Rattle.std.specs.Prelude.{Some, slice_get}
use Rattle.pass_elide.specs.Elided.{frame_allocas}
use Rattle.pass_elide.specs.declared.given.GivenFrame.{GivenFrame}
use Rattle.pass_elide_proof.proofs.Sized.{stepped}
use Rattle.pass_elide_proof.specs.Calling.{IsAligned}
use Rattle.pass_proofs.proofs.run_laws.transfer.Sets.{set_elsewhere, set_length}
use Rattle.pass_proofs.specs.ir_base.declared.cause.Cause.{Cause}
use Rattle.pass_proofs.specs.ir_base.declared.outcome.Outcome.{Outcome}
use Rattle.pass_proofs.specs.ir_model.Layout.{size_of}
use Rattle.pass_proofs.specs.ir_model.Ty.{array, int}
use Rattle.pass_proofs.specs.ir_model.declared.instr.Instr.{Instr}
use Rattle.pass_proofs.specs.ir_model.declared.module.Function.{Function}
use Rattle.pass_proofs.specs.run_agreement.Machines.{iterate}
use Rattle.pass_proofs.specs.run_framed.Framed.{FramedGiven, framed_act, framed_slot, framed_step}
use Rattle.pass_proofs.specs.run_laws.access.Lines.{StandAt}
use Rattle.pass_proofs.specs.run_laws.changed.Changed.{Each}
use Rattle.pass_proofs.specs.run_laws.memory.Standing.{blank_block}
use Rattle.pass_proofs.specs.run_memory.Memory.{end, fresh}
use Rattle.pass_proofs.specs.run_memory.declared.block.Kind.{Kind}
use Rattle.pass_proofs.specs.run_memory.declared.block.MemoryBlock.{MemoryBlock}
use Rattle.pass_proofs.specs.run_memory.declared.pointer.Value.{Value}
use Rattle.pass_proofs.specs.run_source.State.{function_of, settled}
use Rattle.pass_proofs.specs.run_source.declared.state.Mode.{Mode}
use Rattle.pass_proofs.specs.run_source.declared.state.State.{State}
use Rattle.pass_proofs.specs.run_step.Step.{Action, AtInstr, NewSlot, Stuck, Work, fetch, has_markers, is_alignment, set_memory, set_value}
use Rattle.pass_proofs.specs.run_step.Values.{Env, pointer_to, value_in, with_value}
use Rattle.pass_proofs.specs.run_step.declared.world.Slot.{Slot}

-- a name has the address of a blank stack block, which is one of the activation's slots
pub record IsMade (memory : List MemoryBlock) (low : ℕ) (values : Env) (slots : List Slot) (i : Instr) : Type 0 where
  pub name : ℕ
  pub size : ℕ
  pub align : ℕ
  pub is : i ≡ Instr.Alloca name (array size (int 8)) align
  pub block : ℕ
  pub new : low ≤ block
  pub address : value_in values name ≡ pointer_to block
  pub slot : Contains slots (record { alloca = name; block = block })
  pub there : slice_get memory block ≡ Some (blank_block size align Kind.Stack)

-- ---- lists

here : {A : Type 0} (x : A) (xs : List A) → Contains (x ∷ xs) x
here x xs = (0, omega arith, refl)

further : {A : Type 0} (y : A) (xs : List A) (x : A) → Contains xs x → Contains (y ∷ xs) x
further y xs x h = let lt = h.1 in (suc h.0, omega (arith, lt), h.2)

pub set_there : (env : Env) (name : ℕ) (v : Value) → name < length env → value_in (with_value env name v) name ≡ v
set_there [] name v lt = absurd (omega (arith, lt))
set_there (x ∷ env) zero v lt = refl
set_there (x ∷ env) (suc name) v lt = set_there env name v (omega (arith, lt))

get_next : {A : Type 0} (xs ys : List A) (y : A) → slice_get (xs ++ y ∷ ys) (length xs) ≡ Some y
get_next [] ys y = refl
get_next (x ∷ xs) ys y = get_next xs ys y

-- ---- the steps

module _ (g : FramedGiven) (t : State) (runs : t.outcome ≡ Outcome.Running) (mode : t.top.mode ≡ Mode.Plain)
    (plain : (function_of g.given t).coroutine ≡ false) where
  abbrev h : Function
  h = function_of g.given t

  -- the state with another memory, and at another place of the activation
  abbrev pub made_at : List MemoryBlock → Env → List Slot → ℕ → State
  made_at memory values slots at =
      record t {
        world = record t.world { memory = memory };
        top = record t.top { values = values; slots = slots; at = at };
      }

  sized : (size : ℕ) → size_of g.given.code (array size (int 8)) ≡ size
  sized size = once size
    where
      once : (n : ℕ) → n * 1 ≡ n
      once n = omega arith

  module _ (memory : List MemoryBlock) (values : Env) (slots : List Slot) (at name size align : ℕ) where
    abbrev u : State
    u = made_at memory values slots at

    abbrev slot : Slot
    slot = record { alloca = name; block = length memory }

    abbrev work : Work
    work = record { world = record t.world { memory = memory }; values = values }

    abbrev new : ℕ → Bool → Bool → List MemoryBlock
    new n coroutine marked =
        let more = fresh memory n align (if coroutine then Kind.Slot else Kind.Stack) in
        if marked then end more (length memory) else more

    abbrev does : Bool → ℕ → Bool → Bool → Action
    does good n coroutine marked =
        if good then NewSlot (set_memory (set_value work name (pointer_to (length memory))) (new n coroutine marked))
        slot
        else Stuck Cause.Align

    abbrev after : State
    after =
        made_at (memory ++ blank_block size align Kind.Stack ∷ []) (with_value values name (pointer_to (length memory)))
        (slot ∷ slots) (at + 1)

    abbrev behind : State
    behind = settled u (set_memory (set_value work name (pointer_to (length memory))) (new size false false))

    alloca_made : fetch (function_of g.given t) t.top.block at ≡ AtInstr (Instr.Alloca name (array size (int 8)) align)
        → is_alignment align ≡ true → has_markers (function_of g.given t) name ≡ false
        → framed_step g (made_at memory values slots at)
        ≡ made_at (memory ++ blank_block size align Kind.Stack ∷ [])
        (with_value values name (pointer_to (length memory)))
        (record { alloca = name; block = length memory } ∷ slots) (at + 1)
    alloca_made there aligned unmarked =
        stepped g u after (AtInstr (Instr.Alloca name (array size (int 8)) align)) runs there
        ((λ j. framed_act g u (does (aligned j) (sized size j) (plain j) (unmarked j)))
        ∙ ap (λ (m : Mode). Ok (framed_slot g behind slot m)) mode)

  -- ---- all of them

  pub record HasMade (memory : List MemoryBlock) (values : Env) (slots : List Slot) (at n : ℕ) (is : List Instr)
      : Type 0 where
    pub more : List MemoryBlock
    pub values' : Env
    pub slots' : List Slot
    pub comes : iterate (framed_step g) (length is) (made_at memory values slots at)
        ≡ made_at (memory ++ more) values' slots' (at + length is)
    pub long : length slots' ≡ length slots + length is
    pub kept : (z : Slot) → Contains slots z → Contains slots' z
    pub wide : length values' ≡ length values
    pub below : (v : ℕ) → v < n → value_in values' v ≡ value_in values v
    pub each : Each (IsMade (memory ++ more) (length memory) values' slots') is

  weaker : (memory : List MemoryBlock) (low high : ℕ) (values : Env) (slots : List Slot) → low ≤ high
      → (is : List Instr) → Each (IsMade memory high values slots) is → Each (IsMade memory low values slots) is
  weaker memory low high values slots le [] h = tt
  weaker memory low high values slots le (i ∷ is) h =
      let new = h.0.new in (
        record {
          name = h.0.name;
          size = h.0.size;
          align = h.0.align;
          is = h.0.is;
          block = h.0.block;
          new = omega (arith, le, new);
          address = h.0.address;
          slot = h.0.slot;
          there = h.0.there;
        },
        weaker memory low high values slots le is h.1,
      )

  abbrev stack : ℕ → ℕ → MemoryBlock
  stack size align = blank_block size align Kind.Stack

  abbrev next : ℕ → List MemoryBlock → Slot
  next n memory = record { alloca = n; block = length memory }

  pub all_made : (n : ℕ) (rs : List GivenFrame) (memory : List MemoryBlock) (values : Env) (slots : List Slot) (at : ℕ)
      → StandAt (function_of g.given t) t.top.block at (frame_allocas n rs) → Each IsAligned (frame_allocas n rs)
      → ((v : ℕ) → n ≤ v → has_markers (function_of g.given t) v ≡ false) → n + length rs ≤ length values
      → HasMade memory values slots at n (frame_allocas n rs)
  all_made n [] memory values slots at stand aligned unmarked room = record {
    more = [];
    values' = values;
    slots' = slots;
    comes =
        let none : at ≡ at + 0 = omega arith in
        λ j. made_at (sym (append-nil memory) j) values slots (none j);
    long = omega arith;
    kept = λ z h. h;
    wide = refl;
    below = λ v lt. refl;
    each = tt;
  }
  all_made n (GivenFrame.Field base distance ∷ rs) memory values slots at stand aligned unmarked room =
      let r = all_made (n + 1) rs memory values slots at stand aligned
      (λ v le. unmarked v (omega (arith, le))) (omega (arith, room)) in
      record {
        more = r.more;
        values' = r.values';
        slots' = r.slots';
        comes = r.comes;
        long = r.long;
        kept = r.kept;
        wide = r.wide;
        below = λ v lt. r.below v (omega (arith, lt));
        each = r.each;
      }
  all_made n (GivenFrame.Alloca size align ∷ rs) memory values slots at stand aligned unmarked room =
      joined
      (all_made (n + 1) rs (memory ++ stack size align ∷ []) (with_value values n (pointer_to (length memory)))
      (next n memory ∷ slots) (at + 1)
      stand.1 aligned.1 (λ v le. unmarked v (omega (arith, le)))
      (let wide = set_length values n (pointer_to (length memory)) in omega (arith, room, wide)))
    where
      first : framed_step g (made_at memory values slots at) ≡ made_at (memory ++ stack size align ∷ [])
          (with_value values n (pointer_to (length memory))) (next n memory ∷ slots) (at + 1)
      first = alloca_made memory values slots at n size align stand.0 aligned.0 (unmarked n (omega arith))

      fits : n < length values
      fits = omega (arith, room)

      joined : HasMade (memory ++ stack size align ∷ []) (with_value values n (pointer_to (length memory)))
          (next n memory ∷ slots) (at + 1) (n + 1) (frame_allocas (n + 1) rs)
          → HasMade memory values slots at n (frame_allocas n (GivenFrame.Alloca size align ∷ rs))
      joined r =
          let assoc : (memory ++ stack size align ∷ []) ++ r.more ≡ memory ++ (stack size align ∷ r.more) =
          append_assoc memory (stack size align ∷ []) r.more in
          let far : at + 1 + length (frame_allocas (n + 1) rs) ≡ at + suc (length (frame_allocas (n + 1) rs))
          = omega arith in
          let wide = set_length values n (pointer_to (length memory)) in
          record {
            more = stack size align ∷ r.more;
            values' = r.values';
            slots' = r.slots';
            comes = ap (iterate (framed_step g) (length (frame_allocas (n + 1) rs))) first
                ∙ (r.comes ∙ (λ j. made_at (assoc j) r.values' r.slots' (far j)));
            long = let many = r.long in omega (arith, many);
            kept = λ z h. r.kept z (further (next n memory) slots z h);
            wide = r.wide ∙ wide;
            below = λ v lt. r.below v (omega (arith, lt))
                ∙ set_elsewhere values n v (pointer_to (length memory)) (λ e. omega (arith, lt, e));
            each = (
              record {
                name = n;
                size = size;
                align = align;
                is = refl;
                block = length memory;
                new = omega arith;
                address = r.below n (omega arith) ∙ set_there values n (pointer_to (length memory)) fits;
                slot = r.kept (next n memory) (here (next n memory) slots);
                there = get_next memory r.more (stack size align);
              },
              subst (λ (m : List MemoryBlock). Each (IsMade m (length memory) r.values' r.slots')
                  (frame_allocas (n + 1) rs)) assoc
                  (weaker ((memory ++ stack size align ∷ []) ++ r.more) (length memory)
                  (length (memory ++ stack size align ∷ [])) r.values' r.slots'
                  (grown memory) (frame_allocas (n + 1) rs) r.each),
            );
          }
        where
          grown : (m : List MemoryBlock) → length m ≤ length (m ++ stack size align ∷ [])
          grown m = let long = length-append m (stack size align ∷ []) in omega (arith, long)

  -- ---- on the way

  -- another memory, and another place of the activation
  pub record IsOnTheWay (x : State) : Type 0 where
    pub memory : List MemoryBlock
    pub values : Env
    pub slots : List Slot
    pub at : ℕ
    pub is : x ≡ made_at memory values slots at

  pub on_the_way : (n : ℕ) (rs : List GivenFrame) (memory : List MemoryBlock) (values : Env) (slots : List Slot)
      (at : ℕ) → StandAt (function_of g.given t) t.top.block at (frame_allocas n rs)
      → Each IsAligned (frame_allocas n rs)
      → ((v : ℕ) → n ≤ v → has_markers (function_of g.given t) v ≡ false) → (i : ℕ) → i ≤ length (frame_allocas n rs)
      → IsOnTheWay (iterate (framed_step g) i (made_at memory values slots at))
  on_the_way n rs memory values slots at stand aligned unmarked zero le =
      record { memory = memory; values = values; slots = slots; at = at; is = refl }
  on_the_way n [] memory values slots at stand aligned unmarked (suc i) le = absurd (omega (arith, le))
  on_the_way n (GivenFrame.Field base distance ∷ rs) memory values slots at stand aligned unmarked (suc i) le =
      on_the_way (n + 1) rs memory values slots at stand aligned (λ v low. unmarked v (omega (arith, low))) (suc i) le
  on_the_way n (GivenFrame.Alloca size align ∷ rs) memory values slots at stand aligned unmarked (suc i) le =
      let first = alloca_made memory values slots at n size align stand.0 aligned.0 (unmarked n (omega arith)) in
      subst (λ (x : State). IsOnTheWay (iterate (framed_step g) i x)) (sym first)
      (on_the_way (n + 1) rs (memory ++ stack size align ∷ []) (with_value values n (pointer_to (length memory)))
      (next n memory ∷ slots) (at + 1) stand.1 aligned.1 (λ v low. unmarked v (omega (arith, low))) i
      (omega (arith, le)))
