-- Callers of instances stay on the stack where an activation returns. The caller of a ramp has the handle then, and an
-- instance that was destroyed is Finished.
use Rattle.std.proofs.Common.{◌≡◌, ◌<◌, ◌∙◌, ◌||◌, ◌&&◌, ◌==◌, ◌∷◌, ◌⊎◌, [], ap, arith, Bool, false, inl, inr, ⊎_elim, List, length, not, Ok, Option, refl, subst, suc, sym, true, ℕ}
use Rattle.std.specs.Prelude.{IsTrue, None, Some, slice_get, unwrap_or}
use Rattle.elide_sites.specs.Sites.{destroys_of, is_ret_at, is_ret_in}
use Rattle.pass_elide_proof.proofs.Callees.{called_at, in_rows, same_place, site_value}
use Rattle.pass_elide_proof.proofs.CallersBlocks.{KeepsStacks, stack_with, stacks_same}
use Rattle.pass_elide_proof.proofs.CallersCoros.{then_keep}
use Rattle.pass_elide_proof.proofs.CallersInstr.{Keep, or_keeps, was_itself}
use Rattle.pass_elide_proof.proofs.CallersOnward.{called_as, called_start, destroys_as, given_as, in_stack, instr_found, last_as, ramps_as}
use Rattle.pass_elide_proof.proofs.CallersValues.{result_elsewhere}
use Rattle.pass_elide_proof.proofs.GivenBack.{is_set}
use Rattle.pass_elide_proof.proofs.GivingMarkers.{plain_put}
use Rattle.pass_elide_proof.proofs.Holding.{called, ends}
use Rattle.pass_elide_proof.proofs.Modules.{finds_alike}
use Rattle.pass_elide_proof.proofs.PhiValues.{value_here}
use Rattle.pass_elide_proof.proofs.Stacks.{called_on, called_over, given_on, next_point}
use Rattle.pass_elide_proof.proofs.Standing.{has_code}
use Rattle.pass_elide_proof.specs.Callers.{KeepsHandles, LivesAt, WasBefore}
use Rattle.pass_elide_proof.specs.CallersStack.{AreCalled, AreCalledBy, GivesBegin, HasBegunIn, IsCalledBy, KeepAllHandles, StandsAtRet}
use Rattle.pass_elide_proof.specs.Elision.{Elision, elided, elided_code, function_in, function_in_elided, rooms}
use Rattle.pass_elide_proof.specs.Invariant.{AreGivenBy, Below, Calling, Destroying, HasCaller, HaveCallers, Held, Here, Holds, IsCalledIn, IsDestroying, IsSiteOf, behind}
use Rattle.pass_elide_proof.specs.Places.{front_at, own_at}
use Rattle.pass_elide_proof.specs.Returning.{HaveOwnSlots}
use Rattle.pass_proofs.proofs.ir_laws.facts.Truth.{itself}
use Rattle.pass_proofs.proofs.run_laws.memory.Written.{changed_elsewhere}
use Rattle.pass_proofs.specs.flow_points.Reached.{IsReached}
use Rattle.pass_proofs.specs.ir_base.declared.outcome.Outcome.{Outcome}
use Rattle.pass_proofs.specs.ir_model.declared.instr.Instr.{Instr}
use Rattle.pass_proofs.specs.ir_model.declared.instr.Terminator.{Terminator}
use Rattle.pass_proofs.specs.ir_model.declared.module.Block.{Block}
use Rattle.pass_proofs.specs.ir_model.declared.module.Function.{Function}
use Rattle.pass_proofs.specs.ir_model.declared.operand.Arg.{Arg}
use Rattle.pass_proofs.specs.ir_parts.Contents.{result_of}
use Rattle.pass_proofs.specs.ir_paths.Paths.{same_point}
use Rattle.pass_proofs.specs.ir_paths.Windows.{instr_at}
use Rattle.pass_proofs.specs.ir_paths.declared.point.Point.{Point}
use Rattle.pass_proofs.specs.rule_windows.Outside.{is_return}
use Rattle.pass_proofs.specs.run_framed.Framed.{framed_advance, framed_next, framed_step, is_given, is_stack_block}
use Rattle.pass_proofs.specs.run_memory.Memory.{killed, killed_block}
use Rattle.pass_proofs.specs.run_memory.declared.block.MemoryBlock.{MemoryBlock}
use Rattle.pass_proofs.specs.run_memory.declared.pointer.Value.{Value}
use Rattle.pass_proofs.specs.run_source.Source.{given_back, pop, return, returned}
use Rattle.pass_proofs.specs.run_source.State.{address_in, began_at, frame_address_of, function_of, is_finished, or_undefined}
use Rattle.pass_proofs.specs.run_source.declared.state.Activation.{Activation}
use Rattle.pass_proofs.specs.run_source.declared.state.Instance.{Instance}
use Rattle.pass_proofs.specs.run_source.declared.state.Mode.{Mode}
use Rattle.pass_proofs.specs.run_source.declared.state.State.{State}
use Rattle.pass_proofs.specs.run_step.Step.{AtTerm, Fetched, fetch, outcome_of, without_slots}
use Rattle.pass_proofs.specs.run_step.Values.{arg_value, operand_value, pointer_to, value_in, with_result}
use Rattle.pass_proofs.specs.run_step.declared.world.Slot.{Slot}
use Rattle.pass_proofs.specs.run_step.declared.world.World.{World}

yes_no : (p : Bool) → p ≡ true → p ≡ false → ⊥
yes_no true y n = absurd (cc)
yes_no false y n = absurd (cc)

none_some : {A : Type 0} (o : Option A) (x : A) → o ≡ None → o ≡ Some x → ⊥
none_some None x n y = absurd (cc)
none_some (Some z) x n y = absurd (cc)

-- ---- slots die

stack_without : (m : List MemoryBlock) (zs : List Slot) (b : ℕ)
    → is_stack_block (without_slots m zs) b ≡ is_stack_block m b
stack_without m [] b = refl
stack_without m (z ∷ zs) b =
    stack_without (killed m z.block) zs b ∙ stack_with killed_block (λ x. refl) m z.block b

lives_without : (m : List MemoryBlock) (zs : List Slot) (b : ℕ)
    → ((k : ℕ) (z : Slot) → slice_get zs k ≡ Some z → b ≡ z.block → ⊥) → LivesAt m b
    → LivesAt (without_slots m zs) b
lives_without m [] b apart live = live
lives_without m (z ∷ zs) b apart live =
    lives_without (killed m z.block) zs b (λ k x at same. apart (suc k) x at same)
    (live.0, changed_elsewhere m z.block b killed_block (apart 0 z refl) ∙ live.1, live.2)

-- ---- an activation returns

module _ (e : Elision) (t : State) (h : HaveCallers e t) (handles : KeepAllHandles e) (own : HaveOwnSlots t)
    (links : AreCalled e t) (world : World) (ys : List Instance)
    (was : (number : ℕ) (y : Instance) → slice_get ys number ≡ Some y → WasBefore t.instances number y)
    (stacks : KeepsStacks t.world.memory world.memory)
    (not_caller : (y : Instance) (number : ℕ) → HasCaller e t.world.memory y number t.top [] → ⊥)
    (over : (number : ℕ) (y : Instance) → slice_get ys number ≡ Some y → IsDestroying e y number t.top
    → is_finished y.status ≡ true) (v : Option Value)
    (returns : (frame : Value) (number : ℕ) → t.top.mode ≡ Mode.GivenRamp frame → t.top.instance ≡ Some number
    → unwrap_or v Value.Poison ≡ frame) where
  -- the state in which its slots die
  abbrev now : State
  now = record t { world = world; instances = ys }

  abbrev dead : List MemoryBlock
  dead = without_slots world.memory t.top.slots

  given_before : (number : ℕ) (y : Instance) → slice_get t.instances number ≡ Some y → is_given dead y ≡ true
      → is_given t.world.memory y ≡ true
  given_before number y there given =
      either (is_stack_block world.memory y.block) (is_stack_block t.world.memory y.block) (not (y.start == 0))
      (stacks.stacks y.block)
      ((λ j. sym (stack_without world.memory t.top.slots y.block) j || not (y.start == 0)) ∙ given)
    where
      either : (a b c : Bool) → (a ≡ true → b ≡ true) → (a || c) ≡ true → (b || c) ≡ true
      either true b c h is = ap (λ (d : Bool). d || c) (h refl)
      either false true c h is = refl
      either false false c h is = is

  -- a frame of another one's lies in no slot that dies
  lives_on : (y : Instance) (number : ℕ) → IsCalledIn e t.world.memory y number (t.top ∷ []) t.below
      → is_stack_block t.world.memory y.block ≡ true → LivesAt t.world.memory y.block → LivesAt dead y.block
  lives_on y number called stack live =
      let row = in_rows e t.world.memory y number (t.top ∷ []) t.below called in
      lives_without world.memory t.top.slots y.block
      (λ k z at same. never row.at
      (own.once 0 (suc row.at) k row.position z row.slot
      (record { activation = t.top; there = refl; slot = at })
      (record { activation = row.row; there = row.there; slot = row.has }) (sym same ∙ sym row.same)).0)
      (stacks.lives y.block stack live)
    where
      never : (n : ℕ) → 0 ≡ suc n → ⊥
      never n is = absurd (omega (arith, is))

  last_back : (number later : ℕ) (y z : Instance) → slice_get ys number ≡ Some y → slice_get ys later ≡ Some z
      → number < later → is_given dead y ≡ true → began_at y.block y.start z ≡ true → is_finished y.status ≡ true
  last_back = last_as e t.instances ys was t.world.memory dead given_before h.last

  -- ---- to a caller

  module _ (b : Activation) (rest : List Activation) (below : t.below ≡ b ∷ rest) where
    abbrev back : Activation
    back = given_back b t.top.result v

    link : (t.top.result ≡ None) ⊎ IsCalledBy e t.top b
    link = (subst (λ (rows : List Activation). AreCalledBy e (t.top ∷ rows)) below links.calls).0

    ramps : AreGivenBy e t.instances (t.top ∷ b ∷ rest)
    ramps = subst (λ (rows : List Activation). AreGivenBy e t.instances (t.top ∷ rows)) below h.ramps

    top_begun : HasBegunIn e t.instances t.top
    top_begun = links.begun.0

    module _ (y : Instance) (number : ℕ) (there : slice_get t.instances number ≡ Some y)
        (going : is_finished y.status ≡ false) (never : IsDestroying e y number t.top → ⊥)
        (c : HasCaller e t.world.memory y number b (t.top ∷ [])) where
      abbrev f : Function
      f = function_in e b.func

      keeps : KeepsHandles e b.func
      keeps = handles b.func c.site.plain

      found : instr_at (function_in e b.func) c.call ≡ Some c.instr
      found = instr_found f c.call c.instr c.site.there

      -- the frame's address
      pointed : frame_address_of y ≡ pointer_to y.block
      pointed = λ j. address_in y.block (c.start j)

      -- what is returned where the handle is set
      set_here : (w : ℕ) → t.top.result ≡ Some w → (w < length b.values) → (x : Value) → unwrap_or v Value.Poison ≡ x
          → value_in back.values w ≡ x
      set_here w is lt x gives =
          ap (λ (o : Option ℕ). value_in (with_result b.values o (unwrap_or v Value.Poison)) w) is
          ∙ (value_here b.values w (unwrap_or v Value.Poison) lt ∙ gives)

      room : (w : ℕ) → t.top.result ≡ Some w → w < length b.values
      room w is = by link
        where
          by : (t.top.result ≡ None) ⊎ IsCalledBy e t.top b → w < length b.values
          by (inl none) = absurd (none_some t.top.result w none is)
          by (inr k) = k.room w is

      -- the name of the alloca isn't set
      other_name : t.top.result ≡ Some c.name → ⊥
      other_name is = by link
        where
          by : (t.top.result ≡ None) ⊎ IsCalledBy e t.top b → ⊥
          by (inl none) = none_some t.top.result c.name none is
          by (inr k) =
              let lt = keeps.once.names k.call k.instr c.name (instr_found f k.call k.instr k.there)
              (sym k.result ∙ is) in
              let at = c.site.is_name in
              absurd (omega (arith, lt, at))

      -- the same call was made again
      again : (w : ℕ) → result_of c.instr ≡ Some w → t.top.result ≡ Some w
          → unwrap_or v Value.Poison ≡ frame_address_of y
      again w is set = by link
        where
          same_instr : (i j : Instr) → Some i ≡ Some j → i ≡ j
          same_instr i j e = cc

          by_instance : t.top.mode ≡ Mode.GivenRamp (pointer_to y.block) → (o : Option ℕ) → t.top.instance ≡ o
              → unwrap_or v Value.Poison ≡ frame_address_of y
          by_instance mode (Some n) own = returns (pointer_to y.block) n mode own ∙ sym pointed
          by_instance mode None own =
              let g = ramps.0 (pointer_to y.block) mode own in
              absurd (yes_no (is_finished y.status) (g.over number y there (same_block y.block g.block g.is)) going)
            where
              same_block : (m n : ℕ) → pointer_to m ≡ pointer_to n → m ≡ n
              same_block m n e = cc

          by : (t.top.result ≡ None) ⊎ IsCalledBy e t.top b → unwrap_or v Value.Poison ≡ frame_address_of y
          by (inl none) = absurd (none_some t.top.result w none set)
          by (inr k) =
              let at : instr_at (function_in e b.func) k.call ≡ Some k.instr
              = instr_found f k.call k.instr k.there in
              let one = keeps.once.alone k.call c.call k.instr c.instr w at found (sym k.result ∙ set) is in
              let points : c.call ≡ k.call
              = λ j. record { block = sym one.0 j; at = sym one.1 j } in
              let instrs : c.instr ≡ k.instr
              = same_instr c.instr k.instr (sym found ∙ (ap (instr_at (function_in e b.func)) points ∙ at)) in
              let site : IsSiteOf e b.func k.call k.instr c.name
              = subst (λ (q : Point × Instr). IsSiteOf e b.func q.0 q.1 c.name) (λ j. (points j, instrs j)) c.site in
              by_instance (k.given c.name site ∙ ap Mode.GivenRamp c.address) t.top.instance refl

      handle_on : (w : ℕ) → result_of c.instr ≡ Some w → value_in b.values w ≡ frame_address_of y
          → value_in back.values w ≡ frame_address_of y
      handle_on w is old =
          ⊎_elim (λ set. set_here w set (room w set) (frame_address_of y) (again w is set))
          (λ ne. result_elsewhere b.values t.top.result (unwrap_or v Value.Poison) w ne ∙ old)
          (is_set t.top.result w)

      caller_back : HasCaller e t.world.memory y number (given_back b t.top.result v) []
      caller_back = record {
        call = c.call;
        instr = c.instr;
        name = c.name;
        site = c.site;
        start = c.start;
        address = result_elsewhere b.values t.top.result (unwrap_or v Value.Poison) c.name other_name ∙ c.address;
        slot = c.slot;
        lives = c.lives;
        holds = by (t.top ∷ []) c.holds refl;
      }
        where
          by : (rows : List Activation) → Holds e y number c.call c.instr b rows → rows ≡ t.top ∷ []
              → Holds e y number c.call c.instr (given_back b t.top.result v) []
          by _ (Calling d rows stands func result instance mode) is =
              let same : d ≡ t.top = cc in
              let own_number : t.top.instance ≡ Some number
              = ap (λ (a : Activation). a.instance) (sym same) ∙ instance in
              let own_mode : t.top.mode ≡ Mode.GivenRamp mode.0
              = ap (λ (a : Activation). a.mode) (sym same) ∙ mode.1 in
              let own_result : t.top.result ≡ result_of c.instr
              = ap (λ (a : Activation). a.result) (sym same) ∙ result in
              let address : unwrap_or v Value.Poison ≡ frame_address_of y
              = returns mode.0 number own_mode own_number
              ∙ top_begun.frame mode.0 number y own_mode own_number there in
              Held (behind c.call) [] (record { block = stands.block; at = stands.at })
              (called f (destroys_of f (result_of c.instr)) c.call (behind c.call) (next_point f c.call c.instr found))
              (λ w gives. set_here w (own_result ∙ gives) (room w (own_result ∙ gives)) (frame_address_of y) address)
          by _ (Held p rows stands reached handle) is =
              Held p [] (record { block = stands.block; at = stands.at }) reached
              (λ w gives. handle_on w gives (handle w gives))
          by _ (Destroying p w d rows stands result destroys) is =
              let same : d ≡ t.top = cc in
              absurd (never (subst (IsDestroying e y number) same destroys))

    abbrev after : State
    after = record (returned now) { top = given_back b t.top.result v; below = rest }

    each_back : (number : ℕ) (y : Instance) → slice_get ys number ≡ Some y → is_given dead y ≡ true
        → is_finished y.status ≡ false → IsCalledIn e dead y number [] (back ∷ rest)
    each_back number y there given going =
        let old = was number y there in
        let x = old.before in
        let given_now : is_given dead x ≡ true
        = sym (given_as e x y number old.coroutine old.block old.start dead) ∙ given in
        let given_then = given_before number x old.there given_now in
        let going_then = old.going going in
        let not_destroyed : IsDestroying e x number t.top → ⊥
        = λ d. yes_no (is_finished y.status) (over number y there
        (destroys_as e x y number old.coroutine old.block old.start t.top d)) going in
        called_as e x y number old.coroutine old.block old.start dead [] (back ∷ rest)
        (first x number old.there going_then given_then not_destroyed
        (called_at e t.world.memory x number [] (t.top ∷ t.below) (h.each number x old.there given_then going_then)))
      where
        in_rest : (x : Instance) → slice_get t.instances number ≡ Some x → is_finished x.status ≡ false
            → (IsDestroying e x number t.top → ⊥) → IsCalledIn e t.world.memory x number (t.top ∷ []) (b ∷ rest)
            → IsCalledIn e t.world.memory x number [] (back ∷ rest)
        in_rest x at going_then never k = by (called_at e t.world.memory x number (t.top ∷ []) (b ∷ rest) k)
          where
            by : HasCaller e t.world.memory x number b (t.top ∷ [])
                ⊎ IsCalledIn e t.world.memory x number (b ∷ t.top ∷ []) rest
                → IsCalledIn e t.world.memory x number [] (back ∷ rest)
            by (inl c) = Here back [] rest (caller_back x number at going_then never c)
            by (inr further) =
                Below back [] rest
                (called_on e t.world.memory x number (b ∷ t.top ∷ []) (back ∷ []) rest
                (record { func = refl; block = refl; result = refl; mode = refl; instance = refl; has_left = refl })
                further)

        first : (x : Instance) (n : ℕ) → slice_get t.instances number ≡ Some x → is_finished x.status ≡ false
            → is_given t.world.memory x ≡ true → (IsDestroying e x number t.top → ⊥)
            → HasCaller e t.world.memory x number t.top []
            ⊎ IsCalledIn e t.world.memory x number (t.top ∷ []) t.below
            → IsCalledIn e dead x number [] (back ∷ rest)
        first x n at going_then given_then never (inl c) = absurd (not_caller x number c)
        first x n at going_then given_then never (inr k) =
            called_over e t.world.memory dead x number
            (λ live. lives_on x number k
            (in_stack t.world.memory x given_then (called_start e t.world.memory x number (t.top ∷ []) t.below k))
            live)
            [] (back ∷ rest)
            (in_rest x at going_then never
            (subst (λ (rows : List Activation). IsCalledIn e t.world.memory x number (t.top ∷ []) rows) below k))

    pub back_keeps : HaveCallers e (record (returned now) { top = given_back b t.top.result v; below = rest })
    back_keeps = record {
      each = each_back;
      last = last_back;
      ramps = ramps_as e t.instances ys was (back ∷ rest) (given_on e t.instances b back rest refl refl refl ramps.1);
    }

  -- ---- of the run

  module _ (below : t.below ≡ []) where
    over_keeps : (o : Outcome) → HaveCallers e (record (returned now) { outcome = o })
    over_keeps o = record {
      each = λ number y there given going.
          let old = was number y there in
          let x = old.before in
          let given_now : is_given dead x ≡ true
          = sym (given_as e x y number old.coroutine old.block old.start dead) ∙ given in
          let given_then = given_before number x old.there given_now in
          absurd (none x number (h.each number x old.there given_then (old.going going)));
      last = last_back;
      ramps =
          ramps_as e t.instances ys was ((returned now).top ∷ t.below)
          (given_on e t.instances t.top (returned now).top t.below refl refl refl h.ramps);
    }
      where
        none : (x : Instance) (number : ℕ) → IsCalledIn e t.world.memory x number [] (t.top ∷ t.below) → ⊥
        none x number k = by (called_at e t.world.memory x number [] (t.top ∷ t.below) k)
          where
            by : HasCaller e t.world.memory x number t.top []
                ⊎ IsCalledIn e t.world.memory x number (t.top ∷ []) t.below → ⊥
            by (inl c) = not_caller x number c
            by (inr further) =
                called_at e t.world.memory x number (t.top ∷ []) []
                (subst (λ (rows : List Activation). IsCalledIn e t.world.memory x number (t.top ∷ []) rows) below
                further)

  pub pops_keep : Keep e (return (record t { world = world; instances = ys }) v)
  pops_keep = on t.below refl
    where
      on : (rows : List Activation) → t.below ≡ rows → Keep e (pop (returned now) v rows)
      on [] below =
          then_keep e (outcome_of v) (λ (o : Outcome). Ok (record (returned now) { outcome = o }))
          (λ o is. over_keeps below o)
      on (b ∷ rest) below = back_keeps b rest below

-- ---- rets

module _ (e : Elision) (t : State) (k : StandsAtRet e t) where
  abbrev pub value_of : Option Arg → Option Value
  value_of None = None
  value_of (Some arg) = Some (arg_value (elided_code e) t.top.values arg)

  pub ret_there : fetch (function_of (elided e).given t) t.top.block t.top.at ≡ AtTerm (Terminator.Ret k.value)
  ret_there =
      (λ j. fetch (function_in_elided e t.top.func) t.top.block (k.stands j))
      ∙ (ap (λ (f : Function). fetch f t.top.block (own_at (rooms e t.top.func) (function_in e t.top.func) t.top.block
      (length k.block.instrs))) ((finds_alike e).functions t.top.func)
      ∙ ((has_code (rooms e t.top.func) (function_in e t.top.func)).term t.top.block k.block k.has_block
      ∙ ap AtTerm k.term))

  pub ret_does : (value : Option Arg)
      → framed_next (elided e) t (AtTerm (Terminator.Ret value)) ≡ return t (value_of value)
  ret_does None = refl
  ret_does (Some arg) = refl

module _ (e : Elision) (t : State) (k : StandsAtRet e t) (h : HaveCallers e t) (handles : KeepAllHandles e)
    (own : HaveOwnSlots t) (links : AreCalled e t) where
  abbrev g : Function
  g = function_in e t.top.func

  ret_here : (p : Point) → p.block ≡ t.top.block → p.at ≡ length k.block.instrs → IsTrue (is_ret_at g p)
  ret_here p block at =
      (λ j. is_ret_in (slice_get g.blocks (block j)) (at j))
      ∙ (ap (λ (o : Option Block). is_ret_in o (length k.block.instrs)) k.has_block
      ∙ ((λ j. (length k.block.instrs == length k.block.instrs) && is_return (k.term j))
      ∙ ap (λ (b : Bool). b && true) (itself (length k.block.instrs))))

  not_held : (y : Instance) (number : ℕ) → HasCaller e t.world.memory y number t.top [] → ⊥
  not_held y number c = by [] c.holds refl
    where
      by : (rows : List Activation) → Holds e y number c.call c.instr t.top rows → rows ≡ [] → ⊥
      by _ (Calling d rows stands func result instance mode) none = absurd (cc)
      by _ (Destroying p v d rows stands result destroys) none = absurd (cc)
      by _ (Held p rows stands reached handle) none =
          let at : p.at ≡ length k.block.instrs
          = same_place e t.top.func (plain_put e t.top.func c.site.plain) t.top.block p.at (length k.block.instrs)
          ((λ j. front_at (rooms e t.top.func) g (stands.block j) p.at) ∙ (sym stands.at ∙ k.stands)) in
          ends g c.call p ((handles t.top.func c.site.plain).destroyed c.call c.instr c.name c.site)
          (subst (λ (o : Option ℕ). IsReached g (c.call ∷ []) (destroys_of g o) p)
          (sym (site_value e t.top.func c.call c.instr c.name c.site)) reached)
          (right (same_point p c.call) (is_ret_at g p) (ret_here p (sym stands.block) at))
        where
          right : (a b : Bool) → b ≡ true → (a || b) ≡ true
          right true b h = refl
          right false b h = h

  -- a ramp that was given its frame returns its address
  gives_frame : (frame : Value) (number : ℕ) → t.top.mode ≡ Mode.GivenRamp frame → t.top.instance ≡ Some number
      → unwrap_or (value_of e t k k.value) Value.Poison ≡ frame
  gives_frame frame number mode instance =
      by k.value ((k.frames frame mode).each t.top.block k.block k.value k.has_block k.term)
    where
      by : (value : Option Arg) → GivesBegin g value → unwrap_or (value_of e t k value) Value.Poison ≡ frame
      by None gives = absurd gives
      by (Some arg) gives =
          ap (operand_value (elided_code e) t.top.values arg.ty) gives.2
          ∙ links.begun.0.value frame number gives.0 mode instance gives.1

  never_destroys : (y : Instance) (number : ℕ) → IsDestroying e y number t.top → ⊥
  never_destroys y number d = by d.entered
    where
      by : ((t.top.mode ≡ Mode.Resumed) × (t.top.block ≡ d.block))
          ⊎ ((from : ℕ) × (label : ℕ) × (t.top.mode ≡ Mode.Entering from label)) → ⊥
      by (inl both) = k.called both.0
      by (inr entering) = k.mode entering.0 entering.1 entering.2

  pub rets_keep : HaveCallers e (framed_step (elided e) t)
  rets_keep =
      subst (HaveCallers e)
      (sym (ap (framed_advance (elided e) t) k.runs
      ∙ (ap (λ (x : Fetched). or_undefined (elided e).given t (framed_next (elided e) t x)) (ret_there e t k)
      ∙ ap (or_undefined (elided e).given t) (ret_does e t k k.value))))
      (or_keeps e t (return t (value_of e t k k.value)) h
      (pops_keep e t h handles own links t.world t.instances (was_itself t.instances) (stacks_same t.world.memory)
      not_held (λ number y at d. absurd (never_destroys y number d)) (value_of e t k k.value) gives_frame))
