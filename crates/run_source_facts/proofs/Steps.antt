-- Steps of runs whose facts say the same.
use Rattle.std.proofs.Common.{◌≡◌, ℕ, Bool, true, false, ◌&&◌, List, [], ◌∷◌, ◌++◌, refl, ap, Option, Some, None, Ok}
use Rattle.std.specs.Prelude.{ℤ, filter, is_none, not, length, if◌then◌else◌}
use Rattle.std.specs.List.{list_all}
use Rattle.run_memory.specs.Memory.{killed, own}
use Rattle.run_memory.specs.declared.block.Kind.{Kind}
use Rattle.run_memory.specs.declared.pointer.Value.{Value}
use Rattle.ir_base.specs.declared.cause.Cause.{Cause}
use Rattle.ir_base.specs.declared.outcome.Outcome.{Outcome}
use Rattle.ir_base.specs.declared.outcome.Word.{Word}
use Rattle.ir_model.specs.declared.module.Frame.{Frame}
use Rattle.ir_model.specs.declared.module.Module.{Module}
use Rattle.ir_model.specs.declared.operand.Arg.{Arg}
use Rattle.ir_model.specs.declared.operand.Intrinsic.{Intrinsic}
use Rattle.ir_paths.specs.Facts.{all_facts}
use Rattle.ir_paths.specs.Paths.{entry_point}
use Rattle.ir_paths.specs.Slots.{has_name}
use Rattle.ir_paths.specs.Windows.{leaves}
use Rattle.ir_paths.specs.declared.point.Facts.{Facts}
use Rattle.ir_paths.specs.declared.point.Window.{Window}
use Rattle.run_step.specs.Results.{and_then, found, ok_if}
use Rattle.run_step.specs.Runs.{iterate, seen_of}
use Rattle.run_step.specs.Step.{Action, Coro, Deallocate, Done, Enter, GoTo, NewSlot, Return, Stuck, action_of, block_of, fetch}
use Rattle.run_step.specs.Values.{arg_values, nth}
use Rattle.run_step.specs.declared.world.Slot.{Slot}
use Rattle.run_source.specs.Source.{SeenOf, SourceAt, act, advance_by, begin, begin_at, begun, branch_leaving, context_of, continue, coro, enter_block, first_state, go_to, is_over, kill_late, left_windows, may_leave, new_instance, new_slot, state_at, with_new_slots}
use Rattle.run_source_tables.specs.Given.{Given, facts_at}
use Rattle.run_source.specs.State.{function_of, gives, or_undefined, own_frame, own_instance, point_of, settled, with_instance, with_left, with_memory, with_slots, with_status, work_of}
use Rattle.run_source.specs.declared.state.Instance.{Instance}
use Rattle.run_source.specs.declared.state.State.{State}
use Rattle.run_source.specs.declared.state.Status.{Status}
use Rattle.flow_facts.specs.HaveFacts.{HaveFacts}
use Rattle.run_source_facts.proofs.SameFacts.{SameFacts, SameWindow, SameWindows, leaves-same, table-same}

-- ---- windows that are left

filter-same : (t : Window → Bool) (xs ys : List Window) → ((a b : Window) → SameWindow a b → t a ≡ t b) → SameWindows xs ys → SameWindows (filter t xs) (filter t ys)
filter-same t [] [] h s = tt
filter-same t [] (b ∷ ys) h s = absurd s
filter-same t (a ∷ xs) [] h s = absurd s
filter-same t (a ∷ xs) (b ∷ ys) h s = on (t a) (t b) (h a b s.0) (filter-same t xs ys h s.1)
  where
    on : (x y : Bool) → x ≡ y → SameWindows (filter t xs) (filter t ys) → SameWindows (if x then a ∷ filter t xs else filter t xs) (if y then b ∷ filter t ys else filter t ys)
    on true true e r = (s.0, r)
    on true false e r = absurd (cc)
    on false true e r = absurd (cc)
    on false false e r = r

all-same : (depth : ℕ) (x : Instance) (xs ys : List Window) → SameWindows xs ys → list_all (may_leave depth x) xs ≡ list_all (may_leave depth x) ys
all-same depth x [] [] s = refl
all-same depth x [] (b ∷ ys) s = absurd s
all-same depth x (a ∷ xs) [] s = absurd s
all-same depth x (a ∷ xs) (b ∷ ys) s = λ i. may_leave depth x (record { save = s.0.save i; suspend = b.suspend; inside = b.inside }) && all-same depth x xs ys s.1 i

-- ---- slots

new-slots-same : (names others : List ℕ) (o : Option (ℕ × Instance)) (s : State) (slots : List Slot) → ((v : ℕ) → has_name names v ≡ has_name others v) → with_new_slots names o s slots ≡ with_new_slots others o s slots
new-slots-same names others None s slots h = refl
new-slots-same names others (Some (i, x)) s slots h = λ j.
    with_slots
    (with_instance s i (record x { slots = filter (λ (slot : Slot). not (h slot.alloca j)) slots ++ x.slots }))
    (filter (λ (slot : Slot). h slot.alloca j) slots ++ s.top.slots)

kill-same : (names others : List ℕ) (o : Option (ℕ × Instance)) (s : State) (slot : Slot) → ((v : ℕ) → has_name names v ≡ has_name others v) → kill_late names o s slot ≡ kill_late others o s slot
kill-same names others None s slot h = refl
kill-same names others (Some (i, x)) s slot h = λ j. if is_over x && not (h slot.alloca j) then with_memory s (killed s.world.memory slot.block) else s

-- ---- steps

abbrev given_facts : Module → List Frame → List ℤ → List Facts → Given
given_facts m sizes answers facts = record { code = m; sizes = sizes; answers = answers; facts = facts }

module _ (m : Module) (sizes : List Frame) (answers : List ℤ) (f1 f2 : List Facts) (same : (func : ℕ) → SameFacts (facts_at f1 func) (facts_at f2 func)) where
  branch-same : (s : State) (label : ℕ) (xs ys : List Window) → SameWindows xs ys → branch_leaving (given_facts m sizes answers f1) s label xs ≡ branch_leaving (given_facts m sizes answers f2) s label ys
  branch-same s label [] [] h = refl
  branch-same s label [] (b ∷ ys) h = absurd h
  branch-same s label (a ∷ xs) [] h = absurd h
  branch-same s label (a ∷ xs) (b ∷ ys) h = λ j.
      and_then (found Cause.State (own_instance s)) (λ (i, x).
      ok_if (all-same (length s.below) x (a ∷ xs) (b ∷ ys) h j) Cause.State
      (enter_block (given_facts m sizes answers f1) (with_left (with_status s i x Status.Running) false) label))

  pub go_to-same : (s : State) (label : ℕ) → go_to (given_facts m sizes answers f1) s label ≡ go_to (given_facts m sizes answers f2) s label
  go_to-same s label =
      branch-same s label (left_windows (given_facts m sizes answers f1) s label) (left_windows (given_facts m sizes answers f2) s label)
      (filter-same (leaves (point_of s) (entry_point (function_of (given_facts m sizes answers f1) s) label)) (facts_at f1 s.top.func).windows (facts_at f2 s.top.func).windows
      (leaves-same (point_of s) (entry_point (function_of (given_facts m sizes answers f1) s) label)) (same s.top.func).windows)

  new_slot-same : (s : State) (slot : Slot) → new_slot (given_facts m sizes answers f1) s slot ≡ new_slot (given_facts m sizes answers f2) s slot
  new_slot-same s slot = λ j.
      new-slots-same (facts_at f1 s.top.func).ramp_slots (facts_at f2 s.top.func).ramp_slots (own_instance s)
      (kill-same (facts_at f1 s.top.func).ramp_slots (facts_at f2 s.top.func).ramp_slots (own_instance s) s slot (same s.top.func).ramp_slots j)
      (slot ∷ []) (same s.top.func).ramp_slots j

  pub begun-same : (s : State) (block start : ℕ) → begun (given_facts m sizes answers f1) s block start ≡ begun (given_facts m sizes answers f2) s block start
  begun-same s block start =
      let x = new_instance s.top.func block start in
      let i = length s.instances in
      new-slots-same (facts_at f1 s.top.func).ramp_slots (facts_at f2 s.top.func).ramp_slots (Some (i, x))
      (record s { instances = s.instances ++ x ∷ []; top = record s.top { instance = Some i; slots = [] } }) s.top.slots (same s.top.func).ramp_slots

  pub begin_at-same : (s : State) (mem : Value) (kind : Kind) → begin_at (given_facts m sizes answers f1) s mem kind ≡ begin_at (given_facts m sizes answers f2) s mem kind
  begin_at-same s mem kind = λ j.
      and_then (own s.world.memory mem (own_frame (given_facts m sizes answers f1) s).size kind) (λ memory.
      and_then (found Cause.Begin (block_of mem)) (λ b.
      Ok (begun-same (with_memory s memory) b 0 j)))

  pub begin-same : (s : State) (result : Option ℕ) (mem : Value) → begin (given_facts m sizes answers f1) s result mem ≡ begin (given_facts m sizes answers f2) s result mem
  begin-same s result mem = λ j.
      and_then (ok_if (is_none s.top.instance) Cause.Begin s) (λ (t : State).
      and_then (begin_at-same t mem Kind.Allocator j) (λ (u : State). Ok (gives u result mem)))

  coro-same : (s : State) (i : Intrinsic) (args : List Arg) (vs : List Value) (result : Option ℕ) → coro (given_facts m sizes answers f1) (continue (given_facts m sizes answers f1)) s i args vs result ≡ coro (given_facts m sizes answers f2) (continue (given_facts m sizes answers f2)) s i args vs result
  coro-same s Intrinsic.CoroId args vs result = refl
  coro-same s Intrinsic.CoroSizeI32 args vs result = refl
  coro-same s Intrinsic.CoroSizeI64 args vs result = refl
  coro-same s Intrinsic.CoroAlignI32 args vs result = refl
  coro-same s Intrinsic.CoroAlignI64 args vs result = refl
  coro-same s Intrinsic.CoroAlloc args vs result = refl
  coro-same s Intrinsic.CoroBegin args vs result = begin-same s result (nth vs 1)
  coro-same s Intrinsic.CoroFree args vs result = refl
  coro-same s Intrinsic.CoroFrame args vs result = refl
  coro-same s Intrinsic.CoroSave args vs result = refl
  coro-same s Intrinsic.CoroSuspend args vs result = refl
  coro-same s Intrinsic.CoroEnd args vs result = refl
  coro-same s Intrinsic.CoroResume args vs result = refl
  coro-same s Intrinsic.CoroDestroy args vs result = refl
  coro-same s Intrinsic.CoroDone args vs result = refl
  coro-same s Intrinsic.CoroPromise args vs result = refl
  coro-same s Intrinsic.LifetimeStart args vs result = refl
  coro-same s Intrinsic.LifetimeEnd args vs result = refl
  coro-same s Intrinsic.MemcpyI64 args vs result = refl
  coro-same s Intrinsic.MemcpyI32 args vs result = refl

  act-same : (s : State) (a : Action) → act (given_facts m sizes answers f1) (continue (given_facts m sizes answers f1)) s a ≡ act (given_facts m sizes answers f2) (continue (given_facts m sizes answers f2)) s a
  act-same s (Done w) = refl
  act-same s (NewSlot w slot) = ap (λ (t : State). Ok t) (new_slot-same (settled s w) slot)
  act-same s (Enter func args result must_tail) = refl
  act-same s (Coro i args result) = coro-same s i args (arg_values m s.top.values args) result
  act-same s (Deallocate p) = refl
  act-same s (GoTo label) = go_to-same s label
  act-same s (Return v) = refl
  act-same s (Stuck cause) = refl

  advance-same : (s : State) (o : Outcome) → advance_by (given_facts m sizes answers f1) (continue (given_facts m sizes answers f1)) s o ≡ advance_by (given_facts m sizes answers f2) (continue (given_facts m sizes answers f2)) s o
  advance-same s Outcome.Running = λ j.
      or_undefined (given_facts m sizes answers f1) s
      (act-same s (action_of (context_of (given_facts m sizes answers f1) s) (work_of s) (fetch (function_of (given_facts m sizes answers f1) s) s.top.block s.top.at)) j)
  advance-same s (Outcome.Returned v) = refl
  advance-same s (Outcome.Undefined cause place) = refl

  pub states-same : (entry : ℕ) (args : List Word) (n : ℕ) → state_at (given_facts m sizes answers f1) entry args n ≡ state_at (given_facts m sizes answers f2) entry args n
  states-same entry args n = λ j. iterate (λ (s : State). advance-same s s.outcome j) n (first_state m entry args)

pub seen-same : (m : Module) (sizes : List Frame) (answers : List ℤ) (facts : List Facts) (entry : ℕ) (args : List Word) (n : ℕ) → HaveFacts m.functions facts → SeenOf (record { code = m; sizes = sizes; answers = answers; facts = facts }) entry args n ≡ SourceAt m sizes entry args answers n
seen-same m sizes answers facts entry args n h =
    ap (λ (s : State). seen_of m s.world s.outcome) (states-same m sizes answers facts (all_facts m) (table-same m.functions facts h) entry args n)
