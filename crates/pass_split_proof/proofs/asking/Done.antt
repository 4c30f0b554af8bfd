-- Whether a coroutine is at its final suspend: the part compares what its header names with null.
use Rattle.std.proofs.Common.{◌≡◌, ℕ, zero, suc, ◌+◌, ◌<◌, ◌≤◌, ◌^◌, Bool, true, false, ◌∷◌, length, Option, Some, None, Result, Ok, refl, sym, ap, ◌∙◌, subst, arith, if◌then◌else◌}
use Rattle.std.specs.Prelude.{slice_get}
use Rattle.pass_proofs.specs.ir_base.declared.cause.Cause.{Cause}
use Rattle.pass_proofs.specs.ir_base.declared.ops.Pred.{Pred}
use Rattle.pass_proofs.specs.ir_model.Names.{function_at}
use Rattle.pass_proofs.specs.ir_model.Ty.{ptr}
use Rattle.pass_proofs.specs.ir_model.declared.instr.Instr.{Instr}
use Rattle.pass_proofs.specs.ir_model.declared.module.Function.{Function}
use Rattle.pass_proofs.specs.ir_model.declared.operand.Callee.{Callee}
use Rattle.pass_proofs.specs.ir_model.declared.operand.Intrinsic.{Intrinsic}
use Rattle.pass_proofs.specs.ir_model.declared.operand.Operand.{Operand}
use Rattle.pass_proofs.specs.pass_intrinsics.Lowered.{load_pointer}
use Rattle.pass_proofs.specs.pass_intrinsics.declared.shape.Part.{Part}
use Rattle.pass_split_proof.proofs.asking.Placed.{HasStayed, asks_at, goes_related, has_stayed}
use Rattle.pass_split_proof.proofs.begins.SaveFollowed.{held_block}
use Rattle.pass_split_proof.proofs.giving.Constants.{not_again}
use Rattle.pass_split_proof.proofs.giving.Given.{none_given}
use Rattle.pass_split_proof.proofs.held.Moves.{ok_is}
use Rattle.pass_split_proof.proofs.simulation.Knowing.{goes_knows, new_kept, same_places, set_kept}
use Rattle.pass_split_proof.proofs.states.Twins.{twin_at}
use Rattle.pass_split_proof.proofs.states.Values.{values_set}
use Rattle.pass_split_proof.proofs.steps.Followed.{fine_ok, framed_does, here_on, many_followed, still_on}
use Rattle.pass_split_proof.proofs.steps.Saves.{set_there, values_extra}
use Rattle.pass_split_proof.proofs.steps.Settled.{plain_does}
use Rattle.pass_split_proof.proofs.steps.Small.{pointer_loaded}
use Rattle.pass_split_proof.proofs.steps.Woken.{instance_found}
use Rattle.pass_split_proof.proofs.waking.Addressed.{leads}
use Rattle.pass_split_proof.specs.asking.Asking.{IsAsking, IsFrameThere}
use Rattle.pass_split_proof.specs.places.Places.{IsPlace}
use Rattle.pass_split_proof.specs.simulation.Followed.{IsFollowed}
use Rattle.pass_split_proof.specs.simulation.Knowing.{KnowsGiven}
use Rattle.pass_split_proof.specs.states.Activations.{Inside}
use Rattle.pass_split_proof.specs.states.Going.{stands_at}
use Rattle.pass_split_proof.specs.states.Instances.{IsHeadedIn, IsSavedAt, part_position}
use Rattle.pass_split_proof.specs.states.Memories.{homes_of}
use Rattle.pass_split_proof.specs.states.Related.{AreRelated, IsOn, credit_of, fetched_at, weight}
use Rattle.pass_split_proof.specs.states.Values.{AreValuesOf}
use Rattle.pass_split_proof.specs.steps.Woken.{IsWoken}
use Rattle.pass_proofs.specs.run_agreement.Machines.{IsFine, iterate}
use Rattle.pass_proofs.specs.run_framed.Framed.{FramedGiven, framed_step, layout_of}
use Rattle.pass_proofs.proofs.run_laws.transfer.Sets.{set_elsewhere, set_length, sets_name}
use Rattle.pass_proofs.specs.run_laws.access.Lines.{Holds}
use Rattle.pass_proofs.specs.run_laws.memory.Pointers.{IsValue}
use Rattle.pass_proofs.specs.run_memory.Memory.{compare, encode, owner_rights}
use Rattle.pass_proofs.specs.run_memory.declared.pointer.Pointer.{Pointer}
use Rattle.pass_proofs.specs.run_memory.declared.pointer.Value.{Value}
use Rattle.run_access_worked.specs.run_plain.Plain.{PlainGiven, plain_context, plain_function, plain_settled, plain_step, plain_work}
use Rattle.run_access_worked.specs.run_plain.declared.state.PlainState.{PlainState}
use Rattle.pass_proofs.specs.run_source.Source.{Sleeper, done_at, sleeper_of}
use Rattle.pass_proofs.specs.run_source.State.{frame_address_of, function_of, gives, instance_at, or_undefined}
use Rattle.pass_proofs.specs.run_source.declared.state.Instance.{Instance}
use Rattle.pass_proofs.specs.run_source.declared.state.State.{State}
use Rattle.pass_proofs.specs.run_source.declared.state.Status.{Status}
use Rattle.pass_proofs.specs.run_source_tables.Given.{has_final, is_final}
use Rattle.pass_proofs.specs.run_step.Results.{and_then, found, ok_if}
use Rattle.pass_proofs.specs.run_step.Step.{AtInstr, Coro, Done, Fetched, Work, done, instr_action, set_value}
use Rattle.pass_proofs.specs.run_step.Values.{address, arg_value, truth_value, value_in, with_value}

-- ---- the framed run

module _ (g : FramedGiven) (s u : State) (result : Option ℕ) (p : Value) where
  -- it tells of a Suspended instance whether its suspend is final
  abbrev TellsDone : Type 0
  TellsDone = (w : IsWoken s p)
      × (u ≡ gives s result (truth_value (is_final (function_at g.given.code w.instance.coroutine) w.suspend)))

  abbrev told : Sleeper → Result State Cause
  told y = ok_if (has_final (function_at g.given.code y.instance.coroutine)) Cause.State
      (gives s result (truth_value (is_final (function_at g.given.code y.instance.coroutine) y.suspend)))

  tells_by : (i : ℕ) (x : Instance) → slice_get s.instances i ≡ Some x → p ≡ frame_address_of x → (status : Status)
      → x.status ≡ status → and_then (sleeper_of i x status) told ≡ Ok u → TellsDone
  tells_by i x there address Status.Running e h = absurd (cc)
  tells_by i x there address (Status.Suspended suspend values) e h = (
    record {
      number = i;
      instance = x;
      suspend = suspend;
      values = values;
      there = there;
      address = address;
      status = e;
    },
    sym (ok_is (has_final (function_at g.given.code x.coroutine)) Cause.State
        (gives s result (truth_value (is_final (function_at g.given.code x.coroutine) suspend))) u h).1,
  )
  tells_by i x there address Status.Finished e h = absurd (cc)

  tells_done : done_at g.given s result p ≡ Ok u → TellsDone
  tells_done h = on (instance_at s.instances p) refl h
    where
      on : (o : Option (ℕ × Instance)) → instance_at s.instances p ≡ o
          → and_then (and_then (found Cause.Frame o) (λ (q : ℕ × Instance). sleeper_of q.0 q.1 q.1.status)) told ≡ Ok u
          → TellsDone
      on None f h = absurd (cc)
      on (Some (i, x)) f h = let q = instance_found s.instances p i x f in tells_by i x q.0 q.1 x.status refl h

-- ---- both runs

-- what a header names where a suspend is final, and where it isn't
abbrev named_by : Bool → ℕ → Pointer
named_by final func = if final then Pointer.Null else Pointer.Func func

module _ (g : FramedGiven) (h : PlainGiven) (s : State) (t : PlainState) (r : AreRelated g h s t)
    (k : IsAsking g h s t r Intrinsic.CoroDone) (fine : IsFine (framed_step g s).outcome)
    (there : IsFrameThere s (arg_value g.given.code s.top.values k.at.arg)) where
  abbrev f : Function
  f = function_of g.given s

  abbrev q : Function
  q = plain_function h t

  abbrev p : Value
  p = arg_value g.given.code s.top.values k.at.arg

  abbrev here : Option ℕ → Instr
  here result = Instr.Call result k.at.must_tail k.at.ty (Callee.Intrinsic Intrinsic.CoroDone) (k.at.arg ∷ k.at.rest)

  does : framed_step g s ≡ or_undefined g.given s (done_at g.given s k.at.result p)
  does = framed_does g s (AtInstr (here k.at.result)) (Coro Intrinsic.CoroDone (k.at.arg ∷ k.at.rest) k.at.result)
      k.at.running k.at.there refl refl

  next : (u : State) × (done_at g.given s k.at.result p ≡ Ok u)
  next = fine_ok g.given s (done_at g.given s k.at.result p) (subst (λ (x : State). IsFine x.outcome) does fine)

  told_is : TellsDone g s next.0 k.at.result p
  told_is = tells_done g s next.0 k.at.result p next.1

  abbrev w : IsWoken s p
  w = told_is.0

  abbrev x : Instance
  x = w.instance

  abbrev final : Bool
  final = is_final (function_at g.given.code x.coroutine) w.suspend

  is : framed_step g s ≡ gives s k.at.result (truth_value final)
  is = does ∙ ap (or_undefined g.given s) next.1 ∙ told_is.1

  -- what the header names
  headed : IsHeadedIn g s.world.memory t.world.memory x
  headed = r.frames.headed w.number x w.there (there w)

  saved : IsSavedAt g t.world.memory x w.suspend
  saved = headed.saved w.suspend w.values w.status

  abbrev func : ℕ
  func = part_position g x.coroutine Part.Resume

  named : Value.Ptr (named_by final func)
      ≡ (if saved.numbered.suspend.is_final then Value.Ptr Pointer.Null else Value.Ptr (Pointer.Func func))
  named = on final ∙ ap (λ (b : Bool). if b then Value.Ptr Pointer.Null else Value.Ptr (Pointer.Func func))
      (sym saved.numbered.final)
    where
      on : (b : Bool) → Value.Ptr (named_by b func)
          ≡ (if b then Value.Ptr Pointer.Null else Value.Ptr (Pointer.Func func))
      on true = refl
      on false = refl

  stored : Holds owner_rights t.world.memory x.block x.start 8 (encode 8 (Value.Ptr (named_by final func)))
  stored = subst (λ (v : Value). Holds owner_rights t.world.memory x.block x.start 8 (encode 8 v)) (sym named)
      saved.resumes

  low : x.block < length s.world.memory
  low = r.frames.laid.known w.number x w.there

  small : x.start < 2 ^ 64
  small =
      let y = held_block s.world.memory x (there w) in
      below x.start (layout_of g.layouts x.coroutine).size y.0.size
      (r.frames.laid.lies w.number x y.0 w.there y.1).inside
      (twin_at s.world.memory t.world.memory r.world.memory.twins x.block y.0 y.1).is.small
    where
      below : (a b z : ℕ) → a + b ≤ z → z < 2 ^ 64 → a < 2 ^ 64
      below a b z le lt = omega arith

  -- ---- with a name

  module _ (name : ℕ) (e : k.at.result ≡ Some name) where
    at_here : fetched_at g s ≡ AtInstr (here (Some name))
    at_here = k.at.there ∙ ap (λ (o : Option ℕ). AtInstr (here o)) e

    code : HasStayed r.top.shape r.top.part f q s.top.block s.top.at t.top.block t.top.at (here (Some name))
    code = has_stayed r.top.shape r.top.part f q s.top.block s.top.at t.top.block t.top.at (here (Some name))
        (not_again r.top.part (here (Some name)) refl) (λ after. refl) k.at.place at_here

    abbrev n : ℕ
    n = code.name

    abbrev header : Value
    header = Value.Ptr (named_by final func)

    abbrev truth : Value
    truth = truth_value final

    abbrev one : Work
    one = set_value (plain_work t) n header

    abbrev two : Work
    two = set_value one name truth

    room : n < length t.top.values
    room = less n (length q.names) (length t.top.values) code.new.high r.top.room
      where
        less : (n l e : ℕ) → n + 1 ≤ l → e ≡ l → n < e
        less n l e le same = omega arith

    step_one : plain_step h t ≡ plain_settled t one
    step_one = plain_does h t (AtInstr (load_pointer n k.at.arg.value)) (Done one) (r.outcome ∙ k.at.running)
        code.stands.0
        (pointer_loaded (plain_context h t) (plain_work t) n x.block x.start 8 k.at.arg.value (named_by final func)
        (leads g h s t r Intrinsic.CoroDone k.at x w.address small low) stored (omega arith))

    compares : (b : Bool) → instr_action (plain_context h t) (set_value (plain_work t) n (Value.Ptr (named_by b func)))
        (Instr.Icmp name Pred.Eq ptr (Operand.Local n) Operand.Null)
        ≡ Done (set_value (set_value (plain_work t) n (Value.Ptr (named_by b func))) name (truth_value b))
    compares b = ap (λ (v : Value). done (λ same. set_value (set_value (plain_work t) n (Value.Ptr (named_by b func)))
        name (truth_value same)) (compare owner_rights t.world.memory (address v) (Value.Ptr Pointer.Null)))
        (set_there t.top.values n (Value.Ptr (named_by b func)) room) ∙ on b
      where
        on : (b : Bool) → done (λ same. set_value (set_value (plain_work t) n (Value.Ptr (named_by b func))) name
            (truth_value same)) (compare owner_rights t.world.memory (address (Value.Ptr (named_by b func)))
            (Value.Ptr Pointer.Null))
            ≡ Done (set_value (set_value (plain_work t) n (Value.Ptr (named_by b func))) name (truth_value b))
        on true = refl
        on false = refl

    step_two : plain_step h (plain_settled t one) ≡ plain_settled (plain_settled t one) two
    step_two = plain_does h (plain_settled t one)
        (AtInstr (Instr.Icmp name Pred.Eq ptr (Operand.Local n) Operand.Null)) (Done two) (r.outcome ∙ k.at.running)
        code.stands.1.0 (compares final)

    past : length s.top.values ≤ n
    past = subst (λ (l : ℕ). l ≤ n) (sym r.top.whole) code.new.low

    extra : AreValuesOf f (homes_of s.world.memory) s.top.values one.values
    extra = values_extra f (homes_of s.world.memory) s.top.values t.top.values n header past r.top.values

    values : AreValuesOf f (homes_of s.world.memory) (with_value s.top.values name truth) two.values
    values = values_set f (homes_of s.world.memory) (Some name) s.top.values one.values
        (with_value s.top.values name truth) two.values extra
        (sets_name (homes_of s.world.memory) s.top.values one.values extra.room name truth truth (itself final))
      where
        itself : (b : Bool) → IsValue (homes_of s.world.memory) (truth_value b) (truth_value b)
        itself true = refl
        itself false = refl

    begin_stays : (i : ℕ) → s.top.instance ≡ Some i
        → value_in two.values r.top.shape.begin ≡ value_in t.top.values r.top.shape.begin
    begin_stays i own = set_elsewhere one.values name r.top.shape.begin truth
        (λ same. k.others (e ∙ ap (λ (a : ℕ). Some a) same))
        ∙ set_elsewhere t.top.values n r.top.shape.begin header
        (λ same. other n (length f.names) r.top.shape.begin code.new.low (k.at.begin i own) same)
      where
        other : (n l b : ℕ) → l ≤ n → b < l → n ≡ b → ⊥
        other n l b le lt same = omega arith

    related : AreRelated g h (gives s (Some name) truth) (stands_at t t.top.block (t.top.at + 1 + 1) two)
    related = goes_related g h s t r (with_value s.top.values name truth) two.values t.top.block (t.top.at + 1 + 1)
        k.at.settled values (set_length s.top.values name truth)
        (set_length one.values name truth ∙ set_length t.top.values n header) begin_stays
        (Inside s.top.mode k.at.settled (subst (λ (o : ℕ). IsPlace r.top.shape r.top.part f q s.top.block
        (s.top.at + 1) t.top.block o) (two_more t.top.at) code.place))
      where
        two_more : (n : ℕ) → n + 2 ≡ n + 1 + 1
        two_more n = omega arith

    on_way : (i : ℕ) → i < 2 → IsOn g s (iterate (plain_step h) i t)
    on_way zero lt = here_on g h s t r k.at.running
    on_way (suc zero) lt = subst (IsOn g s) (sym step_one)
        (still_on g h s t r k.at.running (r.outcome ∙ k.at.running) refl)
    on_way (suc (suc i)) lt = absurd (none i lt)
      where
        none : (i : ℕ) → suc (suc i) < 2 → ⊥
        none i lt = omega arith

    named_followed : IsFollowed g h s t
    named_followed = many_followed g h s t r k.at.running 2 (gives s (Some name) truth) (omega arith) (omega arith)
        (is ∙ ap (λ (o : Option ℕ). gives s o truth) e)
        (subst (λ (y : Fetched). 2 + credit_of (gives s (Some name) truth) ≤ weight y + credit_of s) (sym k.at.there)
        (reach (credit_of s))) on_way
        (subst (AreRelated g h (gives s (Some name) truth)) (sym (ap (plain_step h) step_one ∙ step_two)) related)
        (λ know. subst (KnowsGiven g (gives s (Some name) truth)) (sym (ap (plain_step h) step_one ∙ step_two))
        (goes_knows g s t s.instances s.world.memory two.values (record { each = λ b e. refl })
        (same_places s.instances s.world.memory) know
        (λ frame mode. set_kept g h s t r one.values truth s.top.block s.top.at (here k.at.result) k.at.there name e
        frame mode
        ∙ new_kept g h s t r t.top.values header t.top.block t.top.at (load_pointer n k.at.arg.value) code.stands.0 n
        refl frame mode)))
      where
        reach : (n : ℕ) → 2 + n ≤ 4 + n
        reach n = omega arith

  by_result : (o : Option ℕ) → k.at.result ≡ o → IsFollowed g h s t
  by_result None e = none_given g h s t r k.at.running Intrinsic.CoroDone (asks_at g h s t r Intrinsic.CoroDone k) e
      (record { begins = not_again r.top.part (here None) refl; cut = λ after. refl; lowered = λ n. refl })
      (is ∙ ap (λ (o : Option ℕ). gives s o (truth_value final)) e)
  by_result (Some name) e = named_followed name e

  pub done_followed : IsFollowed g h s t
  done_followed = by_result k.at.result refl
