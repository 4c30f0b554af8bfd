-- Callers of instances stay on the stack where the topmost activation goes on in its function.
use Rattle.std.proofs.Common.{◌≡◌, ◌<◌, ◌⊎◌, ◌∙◌, ◌||◌, ◌&&◌, ◌==◌, ◌∷◌, [], ap, arith, Bool, false, inl, inr, List, not, Option, refl, subst, sym, true, ℕ}
use Rattle.std.specs.List.{Contains}
use Rattle.std.specs.Prelude.{IsFalse, None, Some, slice_get}
use Rattle.elide_sites.specs.Destroyed.{IsOn}
use Rattle.elide_sites.specs.Sites.{destroys_of, is_ret_at}
use Rattle.elide_sites.specs.declared.destroyed.Way.{Way}
use Rattle.pass_elide_proof.proofs.Callees.{called_at, site_value}
use Rattle.pass_elide_proof.proofs.Holding.{ends, on}
use Rattle.pass_elide_proof.proofs.Stacks.{called_on, called_over}
use Rattle.pass_elide_proof.specs.Callers.{GoesOnAs, GoesOnward, LivesAt, MovesOn, WasBefore}
use Rattle.pass_elide_proof.specs.Calling.{DestroysHandles}
use Rattle.pass_elide_proof.specs.Elision.{Elision, function_in}
use Rattle.pass_elide_proof.specs.Invariant.{AreGivenBy, Below, Calling, Destroying, HasCaller, HaveCallers, Held, Here, Holds, IsCalledIn, IsDestroying, IsGivenBy, IsSiteOf}
use Rattle.pass_elide_proof.specs.Places.{instrs_in, instrs_of}
use Rattle.pass_proofs.specs.flow_points.Reached.{IsReached}
use Rattle.pass_proofs.specs.ir_model.Names.{position_of}
use Rattle.pass_proofs.specs.ir_model.declared.instr.Instr.{Instr}
use Rattle.pass_proofs.specs.ir_model.declared.module.Block.{Block}
use Rattle.pass_proofs.specs.ir_model.declared.module.Function.{Function}
use Rattle.pass_proofs.specs.ir_parts.Contents.{result_of}
use Rattle.pass_proofs.specs.ir_paths.Paths.{has_point, same_point}
use Rattle.pass_proofs.specs.ir_paths.Windows.{instr_at, instr_in}
use Rattle.pass_proofs.specs.ir_paths.declared.point.Point.{Point}
use Rattle.pass_proofs.specs.run_framed.Framed.{is_given, is_stack_block}
use Rattle.pass_proofs.specs.run_memory.declared.block.MemoryBlock.{MemoryBlock}
use Rattle.pass_proofs.specs.run_memory.declared.pointer.Value.{Value}
use Rattle.pass_proofs.specs.run_source.State.{address_in, began_at, frame_address_of, is_finished}
use Rattle.pass_proofs.specs.run_source.declared.state.Activation.{Activation}
use Rattle.pass_proofs.specs.run_source.declared.state.Instance.{Instance}
use Rattle.pass_proofs.specs.run_source.declared.state.State.{State}
use Rattle.pass_proofs.specs.run_step.Values.{pointer_to}

-- ---- what stands at a point

pub instr_found : (f : Function) (p : Point) (i : Instr) → slice_get (instrs_of f p.block) p.at ≡ Some i
    → instr_at f p ≡ Some i
instr_found f p i there = by (slice_get f.blocks p.block) there
  where
    by : (o : Option Block) → slice_get (instrs_in o) p.at ≡ Some i → instr_in o p.at ≡ Some i
    by None there = absurd (cc)
    by (Some b) there = there

pub not_true : (b : Bool) → (b ≡ true → ⊥) → b ≡ false
not_true true never = absurd (never refl)
not_true false never = refl

-- ---- a place where the handle is held isn't the call

module _ (e : Elision) (func : ℕ) (destroyed : DestroysHandles e func) where
  pub held_apart : (call : Point) (i : Instr) (name : ℕ) (p : Point) → IsSiteOf e func call i name
      → IsReached (function_in e func) (call ∷ []) (destroys_of (function_in e func) (result_of i)) p
      → IsFalse (same_point p call)
  held_apart call i name p site reached =
      not_true (same_point p call)
      (λ same. ends (function_in e func) call p (destroyed call i name site)
      (subst (λ (o : Option ℕ). IsReached (function_in e func) (call ∷ []) (destroys_of (function_in e func) o) p)
      (sym (site_value e func call i name site)) reached)
      (λ j. same j || is_ret_at (function_in e func) p))

-- ---- the topmost activation is a caller

module _ (e : Elision) (c d : Activation) (p q : Point) (goes : GoesOnAs e c d) (moves : MovesOn e c d p q)
    (destroyed : DestroysHandles e c.func) where
  abbrev f : Function
  f = function_in e c.func

  pub caller_moves : (memory : List MemoryBlock) (y : Instance) (number : ℕ) (h : HasCaller e memory y number c [])
      → IsFalse (has_point (destroys_of (function_in e c.func) (result_of h.instr)) p)
      → HasCaller e memory y number d []
  caller_moves memory y number h still = record {
    call = h.call;
    instr = h.instr;
    name = h.name;
    site = subst (λ (n : ℕ). IsSiteOf e n h.call h.instr h.name) (sym goes.func) h.site;
    start = h.start;
    address =
        let is = h.site.is_name in moves.added h.name (omega (arith, is)) ∙ h.address;
    slot = moves.slots _ h.slot;
    lives = h.lives;
    holds = by [] h.holds refl;
  }
    where
      by : (above : List Activation) → Holds e y number h.call h.instr c above → above ≡ []
          → Holds e y number h.call h.instr d []
      by _ (Calling x above stands func result instance mode) none = absurd (cc)
      by _ (Destroying r v x above stands result destroys) none = absurd (cc)
      by _ (Held r above at_r reached handle) none =
          let same = moves.stands r at_r in
          let here : r ≡ p = λ j. record { block = same.0 j; at = same.1 j } in
          let reached_p : IsReached f (h.call ∷ []) (destroys_of f (result_of h.instr)) p
          = subst (λ (x : Point). IsReached f (h.call ∷ []) (destroys_of f (result_of h.instr)) x) here reached in
          let apart = held_apart e c.func destroyed h.call h.instr h.name p h.site reached_p in
          Held q [] moves.behind
          (subst (λ (n : ℕ). IsReached (function_in e n) (h.call ∷ []) (destroys_of (function_in e n)
          (result_of h.instr)) q) (sym goes.func)
          (on f (h.call ∷ []) (destroys_of f (result_of h.instr)) p q reached_p still
          moves.next))
          (λ v is. moves.handles h.call h.instr v (instr_found f h.call h.instr h.site.there) is apart ∙ handle v is)

-- ---- the activation right above a caller goes on

module _ (e : Elision) (y : Instance) (number : ℕ) where
  abbrev HeadGoesOn : List Activation → List Activation → Type 0
  HeadGoesOn [] others = Unit {0}
  HeadGoesOn (c ∷ above) [] = ⊥
  HeadGoesOn (c ∷ above) (d ∷ others) = GoesOnAs e c d

  holds_with : (call : Point) (i : Instr) (b : Activation) (above others : List Activation) → HeadGoesOn above others
      → Holds e y number call i b above → Holds e y number call i b others
  holds_with call i b _ [] same (Calling d above stands func result instance mode) = absurd same
  holds_with call i b _ (x ∷ others) same (Calling d above stands func result instance mode) =
      Calling x others stands (same.func ∙ func) (same.result ∙ result) (same.instance number instance)
      (mode.0, same.mode mode.0 mode.1)
  holds_with call i b _ others same (Held p above stands reached handle) = Held p others stands reached handle
  holds_with call i b _ [] same (Destroying p v d above stands result destroys) = absurd same
  holds_with call i b _ (x ∷ others) same (Destroying p v d above stands result destroys) =
      Destroying p v x others stands result (same.destroys y number destroys)

  module _ (memory : List MemoryBlock) where
    caller_with : (b : Activation) (above others : List Activation) → HeadGoesOn above others
        → HasCaller e memory y number b above → HasCaller e memory y number b others
    caller_with b above others same h = record {
      call = h.call;
      instr = h.instr;
      name = h.name;
      site = h.site;
      start = h.start;
      address = h.address;
      slot = h.slot;
      lives = h.lives;
      holds = holds_with h.call h.instr b above others same h.holds;
    }

    -- it goes on, and those below it stay
    pub called_with : (c d : Activation) (below : List Activation) → GoesOnAs e c d
        → IsCalledIn e memory y number (c ∷ []) below → IsCalledIn e memory y number (d ∷ []) below
    called_with c d [] goes h = absurd (called_at e memory y number (c ∷ []) [] h)
    called_with c d (b ∷ below) goes h = by (called_at e memory y number (c ∷ []) (b ∷ below) h)
      where
        by : HasCaller e memory y number b (c ∷ []) ⊎ IsCalledIn e memory y number (b ∷ c ∷ []) below
            → IsCalledIn e memory y number (d ∷ []) (b ∷ below)
        by (inl caller) = Here b (d ∷ []) below (caller_with b (c ∷ []) (d ∷ []) goes caller)
        by (inr further) =
            Below b (d ∷ []) below
            (called_on e memory y number (b ∷ c ∷ []) (b ∷ d ∷ []) below
            (record { func = refl; block = refl; result = refl; mode = refl; instance = refl; has_left = refl })
            further)

    pub called_goes : (c d : Activation) (below : List Activation) → GoesOnAs e c d
        → (HasCaller e memory y number c [] → HasCaller e memory y number d [])
        → IsCalledIn e memory y number [] (c ∷ below) → IsCalledIn e memory y number [] (d ∷ below)
    called_goes c d below goes to h = by (called_at e memory y number [] (c ∷ below) h)
      where
        by : HasCaller e memory y number c [] ⊎ IsCalledIn e memory y number (c ∷ []) below
            → IsCalledIn e memory y number [] (d ∷ below)
        by (inl caller) = Here d [] below (to caller)
        by (inr further) = Below d [] below (called_with c d below goes further)

-- ---- an instance with another status

module _ (e : Elision) (x y : Instance) (number : ℕ) (coroutine : y.coroutine ≡ x.coroutine)
    (block : y.block ≡ x.block) (start : y.start ≡ x.start) where
  pub destroys_as : (d : Activation) → IsDestroying e x number d → IsDestroying e y number d
  destroys_as d h = record {
    func = h.func ∙ sym coroutine;
    instance = h.instance;
    stays = h.stays;
    block = h.block;
    entered = h.entered;
    way = λ mode. subst (λ (n : ℕ). IsOn Way.Destroyed (function_in e n) h.block) (sym coroutine) (h.way mode);
    ahead = λ from label mode.
        subst (λ (n : ℕ). IsOn Way.Destroyed (function_in e n) (position_of (function_in e n) label)) (sym coroutine)
        (h.ahead from label mode);
  }

  same_address : frame_address_of x ≡ frame_address_of y
  same_address = λ j. address_in (sym block j) (sym start j)

  holds_as : (call : Point) (i : Instr) (c : Activation) (above : List Activation)
      → Holds e x number call i c above → Holds e y number call i c above
  holds_as call i c _ (Calling d above stands func result instance mode) =
      Calling d above stands (func ∙ sym coroutine) result instance mode
  holds_as call i c _ (Held p above stands reached handle) =
      Held p above stands reached (λ v is. handle v is ∙ same_address)
  holds_as call i c _ (Destroying p v d above stands result destroys) =
      Destroying p v d above stands result (destroys_as d destroys)

  module _ (memory : List MemoryBlock) where
    caller_as : (c : Activation) (above : List Activation) → HasCaller e memory x number c above
        → HasCaller e memory y number c above
    caller_as c above h = record {
      call = h.call;
      instr = h.instr;
      name = h.name;
      site = h.site;
      start = start ∙ h.start;
      address = h.address ∙ (λ j. pointer_to (sym block j));
      slot = subst (λ (b : ℕ). Contains c.slots (record { alloca = h.name; block = b })) (sym block) h.slot;
      lives = subst (LivesAt memory) (sym block) h.lives;
      holds = holds_as h.call h.instr c above h.holds;
    }

    pub called_as : (above rows : List Activation) → IsCalledIn e memory x number above rows
        → IsCalledIn e memory y number above rows
    called_as above [] h = absurd (called_at e memory x number above [] h)
    called_as above (c ∷ below) h = by (called_at e memory x number above (c ∷ below) h) (called_as (c ∷ above) below)
      where
        by : HasCaller e memory x number c above ⊎ IsCalledIn e memory x number (c ∷ above) below
            → (IsCalledIn e memory x number (c ∷ above) below → IsCalledIn e memory y number (c ∷ above) below)
            → IsCalledIn e memory y number above (c ∷ below)
        by (inl caller) again = Here c above below (caller_as c above caller)
        by (inr further) again = Below c above below (again further)

  pub given_as : (memory : List MemoryBlock) → is_given memory y ≡ is_given memory x
  given_as memory = λ j. is_stack_block memory (block j) || not (start j == 0)

-- what was over is so still
pub stays_over : (b c : Bool) → b ≡ true → (c ≡ false → b ≡ false) → c ≡ true
stays_over b true is going = refl
stays_over true false is going = absurd (let no = going refl in cc)
stays_over false false is going = absurd (cc)

-- ---- ramps that haven't begun

module _ (e : Elision) (xs ys : List Instance)
    (was : (number : ℕ) (y : Instance) → slice_get ys number ≡ Some y → WasBefore xs number y) where
  pub over_as : (b : ℕ) → ((i : ℕ) (x : Instance) → slice_get xs i ≡ Some x → x.block ≡ b
      → is_finished x.status ≡ true) → (i : ℕ) (y : Instance) → slice_get ys i ≡ Some y → y.block ≡ b
      → is_finished y.status ≡ true
  over_as b over i y there same =
      let h = was i y there in
      stays_over (is_finished h.before.status) (is_finished y.status)
      (over i h.before h.there (sym h.block ∙ same)) h.going

  given_by_as : (frame : Value) (c b : Activation) → IsGivenBy e xs frame c b → IsGivenBy e ys frame c b
  given_by_as frame c b h = record {
    call = h.call;
    instr = h.instr;
    name = h.name;
    block = h.block;
    site = h.site;
    stands = h.stands;
    result = h.result;
    address = h.address;
    is = h.is;
    slot = h.slot;
    over = over_as h.block h.over;
  }

  pub ramps_as : (rows : List Activation) → AreGivenBy e xs rows → AreGivenBy e ys rows
  ramps_as [] h = tt
  ramps_as (c ∷ []) h = h
  ramps_as (c ∷ b ∷ below) h = (λ frame is none. given_by_as frame c b (h.0 frame is none), ramps_as (b ∷ below) h.1)

pub ramps_on : (e : Elision) (xs : List Instance) (c d : Activation) (below : List Activation) → GoesOnAs e c d
    → AreGivenBy e xs (c ∷ below) → AreGivenBy e xs (d ∷ below)
ramps_on e xs c d [] goes h = λ frame is. h frame (goes.given frame is)
ramps_on e xs c d (b ∷ below) goes h = (
  λ frame is none.
      let old = h.0 frame (goes.given frame is) (goes.begun none) in
      record {
        call = old.call;
        instr = old.instr;
        name = old.name;
        block = old.block;
        site = old.site;
        stands = old.stands;
        result = goes.result ∙ old.result;
        address = old.address;
        is = old.is;
        slot = old.slot;
        over = old.over;
      },
  h.1,
)

-- ---- the last that began at a place

module _ (e : Elision) (xs ys : List Instance)
    (was : (number : ℕ) (y : Instance) → slice_get ys number ≡ Some y → WasBefore xs number y)
    (m n : List MemoryBlock)
    (given : (number : ℕ) (y : Instance) → slice_get xs number ≡ Some y → is_given n y ≡ true → is_given m y ≡ true)
    (last : (number later : ℕ) (y z : Instance) → slice_get xs number ≡ Some y → slice_get xs later ≡ Some z
    → number < later → is_given m y ≡ true → began_at y.block y.start z ≡ true → is_finished y.status ≡ true) where
  pub last_as : (number later : ℕ) (y z : Instance) → slice_get ys number ≡ Some y → slice_get ys later ≡ Some z
      → number < later → is_given n y ≡ true → began_at y.block y.start z ≡ true → is_finished y.status ≡ true
  last_as number later y z there after lt is began =
      let old = was number y there in
      let next = was later z after in
      let given_now : is_given n old.before ≡ true
      = sym (given_as e old.before y number old.coroutine old.block old.start n) ∙ is in
      stays_over (is_finished old.before.status) (is_finished y.status)
      (last number later old.before next.before old.there next.there lt
      (given number old.before old.there given_now)
      ((λ j. (sym next.block j == sym old.block j) && (sym next.start j == sym old.start j)) ∙ began)) old.going

-- ---- the state

pub called_start : (e : Elision) (memory : List MemoryBlock) (y : Instance) (number : ℕ) (above rows : List Activation)
    → IsCalledIn e memory y number above rows → y.start ≡ 0
called_start e memory y number above [] h = absurd (called_at e memory y number above [] h)
called_start e memory y number above (c ∷ below) h =
    by (called_at e memory y number above (c ∷ below) h) (called_start e memory y number (c ∷ above) below)
  where
    by : HasCaller e memory y number c above ⊎ IsCalledIn e memory y number (c ∷ above) below
        → (IsCalledIn e memory y number (c ∷ above) below → y.start ≡ 0) → y.start ≡ 0
    by (inl caller) again = caller.start
    by (inr further) again = again further

-- a frame that was given and begins its block lies in a stack block
pub in_stack : (memory : List MemoryBlock) (y : Instance) → is_given memory y ≡ true → y.start ≡ 0
    → is_stack_block memory y.block ≡ true
in_stack memory y given start =
    by (is_stack_block memory y.block) ((λ j. is_stack_block memory y.block || not (sym start j == 0)) ∙ given)
  where
    by : (b : Bool) → (b || false) ≡ true → b ≡ true
    by true is = refl
    by false is = is

module _ (e : Elision) (t u : State) (k : GoesOnward e t u) where
  -- a coroutine calls by no site
  moved : (memory : List MemoryBlock) (y : Instance) (number : ℕ) → HasCaller e memory y number t.top []
      → HasCaller e memory y number u.top []
  moved memory y number h =
      caller_moves e t.top u.top k.from k.to k.goes (k.moves h.site.plain) (k.destroyed h.site.plain) memory y
      number h (k.still h.site.plain (result_of h.instr))

  rows : u.top ∷ u.below ≡ u.top ∷ t.below
  rows = ap (λ (below : List Activation). u.top ∷ below) k.below

  each_goes : HaveCallers e t → (number : ℕ) (y : Instance) → slice_get u.instances number ≡ Some y
      → is_given u.world.memory y ≡ true → is_finished y.status ≡ false
      → IsCalledIn e u.world.memory y number [] (u.top ∷ t.below)
  each_goes h number y there given going =
      let was = k.instances number y there in
      let x = was.before in
      let given_now : is_given u.world.memory x ≡ true
      = sym (given_as e x y number was.coroutine was.block was.start u.world.memory) ∙ given in
      let given_then = k.frames.given number x was.there given_now in
      let going_then = was.going going in
      let called = h.each number x was.there given_then going_then in
      called_as e x y number was.coroutine was.block was.start u.world.memory [] (u.top ∷ t.below)
      (called_over e t.world.memory u.world.memory x number
      (k.frames.lives number x was.there
      (in_stack t.world.memory x given_then (called_start e t.world.memory x number [] (t.top ∷ t.below) called))
      going_then) [] (u.top ∷ t.below)
      (called_goes e x number t.world.memory t.top u.top t.below k.goes (moved t.world.memory x number) called))

  last_goes : HaveCallers e t → (number later : ℕ) (y z : Instance) → slice_get u.instances number ≡ Some y
      → slice_get u.instances later ≡ Some z → number < later → is_given u.world.memory y ≡ true
      → began_at y.block y.start z ≡ true → is_finished y.status ≡ true
  last_goes h = last_as e t.instances u.instances k.instances t.world.memory u.world.memory k.frames.given h.last

  pub goes_onward : HaveCallers e t → HaveCallers e u
  goes_onward h = record {
    each = λ number y there given going.
        subst (λ (stack : List Activation). IsCalledIn e u.world.memory y number [] stack) (sym rows)
        (each_goes h number y there given going);
    last = last_goes h;
    ramps =
        subst (λ (stack : List Activation). AreGivenBy e u.instances stack) (sym rows)
        (ramps_as e t.instances u.instances k.instances (u.top ∷ t.below)
        (ramps_on e t.instances t.top u.top t.below k.goes h.ramps));
  }
