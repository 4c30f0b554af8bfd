-- Callers of instances stay on the stack where their activation goes on by one instruction and calls another one.
use Rattle.std.proofs.Common.{◌≡◌, ◌+◌, ◌⊎◌, ◌∙◌, ◌||◌, ◌&&◌, ◌==◌, ◌∷◌, [], ap, arith, false, inl, inr, List, Option, refl, suc, sym, true, ℕ, length, if◌then◌else◌}
use Rattle.std.proofs.lemmas.Bool.{lt-ltb}
use Rattle.std.specs.Prelude.{IsTrue, None, Some, map, slice_get}
use Rattle.elide_sites.specs.Sites.{destroys_of, is_destroy_of}
use Rattle.pass_elide_proof.proofs.Callees.{called_at, same_place}
use Rattle.pass_elide_proof.proofs.Holding.{on}
use Rattle.pass_elide_proof.proofs.GivingMarkers.{plain_put}
use Rattle.pass_elide_proof.specs.Elision.{Elision, function_in, rooms}
use Rattle.pass_elide_proof.specs.Invariant.{AreGivenBy, Below, Calling, Destroying, HasCaller, HaveCallers, Held, Here, Holds, IsCalledIn, IsDestroying, IsGivenBy}
use Rattle.pass_elide_proof.specs.Places.{front_at, instrs_in, instrs_of, own_at}
use Rattle.pass_proofs.proofs.ir_laws.facts.Lists.{get_within}
use Rattle.pass_proofs.proofs.ir_laws.facts.Truth.{itself}
use Rattle.pass_proofs.proofs.ir_laws.paths.renamed.Outside.{where_none}
use Rattle.pass_proofs.specs.ir_laws.facts.renamed.Regular.{passes}
use Rattle.pass_proofs.specs.ir_model.declared.instr.Instr.{Instr}
use Rattle.pass_proofs.specs.ir_model.declared.module.Block.{Block}
use Rattle.pass_proofs.specs.ir_model.declared.module.Function.{Function}
use Rattle.pass_proofs.specs.ir_parts.Contents.{result_of}
use Rattle.pass_proofs.specs.ir_paths.Paths.{entry_point, has_point, nexts, nexts_in, targets}
use Rattle.pass_proofs.specs.ir_paths.Windows.{instr_at, instr_in}
use Rattle.pass_proofs.specs.ir_paths.declared.point.Point.{Point}
use Rattle.pass_proofs.specs.run_memory.Memory.{is_live}
use Rattle.pass_proofs.specs.run_memory.declared.block.MemoryBlock.{MemoryBlock}
use Rattle.pass_proofs.specs.run_memory.declared.pointer.Value.{Value}
use Rattle.pass_proofs.specs.run_source.Source.{push}
use Rattle.pass_proofs.specs.run_source.declared.state.Activation.{Activation}
use Rattle.pass_proofs.specs.run_source.declared.state.Instance.{Instance}
use Rattle.pass_proofs.specs.run_source.declared.state.Mode.{Mode}
use Rattle.pass_proofs.specs.run_source.declared.state.State.{State}

-- ---- the activation above a caller goes on in its block

pub record KeepsHead (d d' : Activation) : Type 0 where
  pub func : d'.func ≡ d.func
  pub block : d'.block ≡ d.block
  pub result : d'.result ≡ d.result
  pub mode : d'.mode ≡ d.mode
  pub instance : d'.instance ≡ d.instance
  pub has_left : d'.has_left ≡ d.has_left

module _ (e : Elision) (memory : List MemoryBlock) (y : Instance) (number : ℕ) where
  -- where there is none above, there may be any
  abbrev SameHead : List Activation → List Activation → Type 0
  SameHead [] others = Unit {0}
  SameHead (d ∷ above) [] = ⊥
  SameHead (d ∷ above) (d' ∷ others) = KeepsHead d d'

  pub destroys_on : (d d' : Activation) → KeepsHead d d' → IsDestroying e y number d → IsDestroying e y number d'
  destroys_on d d' k h = record {
    func = k.func ∙ h.func;
    instance = k.instance ∙ h.instance;
    stays = k.has_left ∙ h.stays;
    block = h.block;
    entered = entered h.entered;
    way = λ mode. h.way (sym k.mode ∙ mode);
    ahead = λ from label mode. h.ahead from label (sym k.mode ∙ mode);
  }
    where
      entered : ((d.mode ≡ Mode.Resumed) × (d.block ≡ h.block))
          ⊎ ((from : ℕ) × (label : ℕ) × (d.mode ≡ Mode.Entering from label))
          → ((d'.mode ≡ Mode.Resumed) × (d'.block ≡ h.block))
          ⊎ ((from : ℕ) × (label : ℕ) × (d'.mode ≡ Mode.Entering from label))
      entered (inl both) = inl (k.mode ∙ both.0, k.block ∙ both.1)
      entered (inr entering) = inr (entering.0, entering.1, k.mode ∙ entering.2)

  holds_on : (call : Point) (i : Instr) (c : Activation) (above others : List Activation) → SameHead above others
      → Holds e y number call i c above → Holds e y number call i c others
  holds_on call i c _ [] same (Calling d above stands func result instance mode) = absurd same
  holds_on call i c _ (d' ∷ others) same (Calling d above stands func result instance mode) =
      Calling d' others stands (same.func ∙ func) (same.result ∙ result) (same.instance ∙ instance)
      (mode.0, same.mode ∙ mode.1)
  holds_on call i c _ others same (Held p above stands reached handle) = Held p others stands reached handle
  holds_on call i c _ [] same (Destroying p v d above stands result destroys) = absurd same
  holds_on call i c _ (d' ∷ others) same (Destroying p v d above stands result destroys) =
      Destroying p v d' others stands result (destroys_on d d' same destroys)

  caller_on : (c : Activation) (above others : List Activation) → SameHead above others
      → HasCaller e memory y number c above → HasCaller e memory y number c others
  caller_on c above others same h = record {
    call = h.call;
    instr = h.instr;
    name = h.name;
    site = h.site;
    start = h.start;
    address = h.address;
    slot = h.slot;
    lives = h.lives;
    holds = holds_on h.call h.instr c above others same h.holds;
  }

  itself_head : (c : Activation) → KeepsHead c c
  itself_head c = record {
    func = refl;
    block = refl;
    result = refl;
    mode = refl;
    instance = refl;
    has_left = refl;
  }

  pub called_on : (above others rows : List Activation) → SameHead above others
      → IsCalledIn e memory y number above rows
      → IsCalledIn e memory y number others rows
  called_on above others [] same h = absurd (called_at e memory y number above [] h)
  called_on above others (c ∷ below) same h =
      by (called_at e memory y number above (c ∷ below) h)
      (called_on (c ∷ above) (c ∷ others) below (itself_head c))
    where
      by : HasCaller e memory y number c above ⊎ IsCalledIn e memory y number (c ∷ above) below
          → (IsCalledIn e memory y number (c ∷ above) below → IsCalledIn e memory y number (c ∷ others) below)
          → IsCalledIn e memory y number others (c ∷ below)
      by (inl caller) again = Here c others below (caller_on c above others same caller)
      by (inr further) again = Below c others below (again further)

  -- another activation comes on top of one that goes on
  pub called_below : (c c' new : Activation) (below : List Activation) → KeepsHead c c'
      → (HasCaller e memory y number c [] → HasCaller e memory y number c' (new ∷ []))
      → IsCalledIn e memory y number [] (c ∷ below) → IsCalledIn e memory y number [] (new ∷ c' ∷ below)
  called_below c c' new below keeps to h =
      Below new [] (c' ∷ below) (by (called_at e memory y number [] (c ∷ below) h))
    where
      by : HasCaller e memory y number c [] ⊎ IsCalledIn e memory y number (c ∷ []) below
          → IsCalledIn e memory y number (new ∷ []) (c' ∷ below)
      by (inl caller) = Here c' (new ∷ []) below (to caller)
      by (inr further) =
          Below c' (new ∷ []) below (called_on (c ∷ []) (c' ∷ new ∷ []) below keeps further)

-- ---- another memory, in which the frame's block lives too

abbrev pub IsLiveIn : List MemoryBlock → ℕ → Type 0
IsLiveIn memory b = (z : MemoryBlock) × (slice_get memory b ≡ Some z) × (is_live z.life ≡ true)

module _ (e : Elision) (memory other : List MemoryBlock) (y : Instance) (number : ℕ)
    (lives : IsLiveIn memory y.block → IsLiveIn other y.block) where
  caller_over : (c : Activation) (above : List Activation) → HasCaller e memory y number c above
      → HasCaller e other y number c above
  caller_over c above h = record {
    call = h.call;
    instr = h.instr;
    name = h.name;
    site = h.site;
    start = h.start;
    address = h.address;
    slot = h.slot;
    lives = lives h.lives;
    holds = h.holds;
  }

  pub called_over : (above rows : List Activation) → IsCalledIn e memory y number above rows
      → IsCalledIn e other y number above rows
  called_over above [] h = absurd (called_at e memory y number above [] h)
  called_over above (c ∷ below) h = by (called_at e memory y number above (c ∷ below) h) (called_over (c ∷ above) below)
    where
      by : HasCaller e memory y number c above ⊎ IsCalledIn e memory y number (c ∷ above) below
          → (IsCalledIn e memory y number (c ∷ above) below → IsCalledIn e other y number (c ∷ above) below)
          → IsCalledIn e other y number above (c ∷ below)
      by (inl caller) again = Here c above below (caller_over c above caller)
      by (inr further) again = Below c above below (again further)

-- the first activation changes, and is no caller itself
pub called_under : (e : Elision) (memory : List MemoryBlock) (y : Instance) (number : ℕ) (c c' : Activation)
    (below : List Activation) → KeepsHead c c' → (HasCaller e memory y number c [] → ⊥)
    → IsCalledIn e memory y number [] (c ∷ below) → IsCalledIn e memory y number [] (c' ∷ below)
called_under e memory y number c c' below keeps never h = by (called_at e memory y number [] (c ∷ below) h)
  where
    by : HasCaller e memory y number c [] ⊎ IsCalledIn e memory y number (c ∷ []) below
        → IsCalledIn e memory y number [] (c' ∷ below)
    by (inl caller) = absurd (never caller)
    by (inr further) =
        Below c' [] below (called_on e memory y number (c ∷ []) (c' ∷ []) below keeps further)

-- ---- the next point of a block

pub next_point : (f : Function) (p : Point) (i : Instr) → instr_at f p ≡ Some i
    → IsTrue (has_point (nexts f p) (record { block = p.block; at = p.at + 1 }))
next_point f p i there = by (slice_get f.blocks p.block) there
  where
    by : (o : Option Block) → instr_in o p.at ≡ Some i
        → IsTrue (has_point (nexts_in f p o) (record { block = p.block; at = p.at + 1 }))
    by None there = absurd (cc)
    by (Some b) there =
        (λ j. has_point (if lt-ltb p.at (length b.instrs) (get_within b.instrs p.at i there) j
        then record { block = p.block; at = p.at + 1 } ∷ []
        else if p.at == length b.instrs then map (entry_point f) (targets b.term) else [])
        (record { block = p.block; at = p.at + 1 }))
        ∙ (λ j. (itself p.block j && itself (p.at + 1) j) || false)

-- ---- a caller goes on behind an instruction that destroys nothing

module _ (e : Elision) (c new : Activation) (at : ℕ) (i : Instr)
    (there : slice_get (instrs_of (function_in e c.func) c.block) at ≡ Some i)
    (stands : c.at ≡ own_at (rooms e c.func) (function_in e c.func) c.block at)
    (destroys : (v : Option ℕ) → is_destroy_of v i ≡ false) where
  abbrev f : Function
  f = function_in e c.func

  abbrev further : Activation
  further = record c { at = c.at + 1 }

  instr_there : (p : Point) → p.block ≡ c.block → p.at ≡ at → instr_at (function_in e c.func) p ≡ Some i
  instr_there p block same =
      (λ j. instr_in (slice_get f.blocks (block j)) (same j)) ∙ by (slice_get f.blocks c.block) there
    where
      by : (o : Option Block) → slice_get (instrs_in o) at ≡ Some i → instr_in o at ≡ Some i
      by None there = absurd (cc)
      by (Some b) there = there

  pub caller_further : (memory : List MemoryBlock) (y : Instance) (number : ℕ) → HasCaller e memory y number c []
      → HasCaller e memory y number (record c { at = c.at + 1 }) (new ∷ [])
  caller_further memory y number h = record {
    call = h.call;
    instr = h.instr;
    name = h.name;
    site = h.site;
    start = h.start;
    address = h.address;
    slot = h.slot;
    lives = h.lives;
    holds = by [] h.holds refl;
  }
    where
      by : (above : List Activation) → Holds e y number h.call h.instr c above → above ≡ []
          → Holds e y number h.call h.instr further (new ∷ [])
      by _ (Calling d above stands func result instance mode) none = absurd (cc)
      by _ (Destroying p v d above stands result destroys) none = absurd (cc)
      by _ (Held p above at_p reached handle) none =
          let front : front_at (rooms e c.func) f p.block p.at ≡ own_at (rooms e c.func) f p.block at
          = sym at_p.at ∙ (stands ∙ ap (λ (b : ℕ). own_at (rooms e c.func) f b at) at_p.block) in
          let same : p.at ≡ at = same_place e c.func (plain_put e c.func h.site.plain) p.block p.at at front in
          let next : suc p.at ≡ p.at + 1 = omega arith in
          Held (record { block = p.block; at = p.at + 1 }) (new ∷ [])
          (record {
            block = at_p.block;
            at = ap (λ (n : ℕ). n + 1) stands
                ∙ ((λ j. own_at (rooms e c.func) f (at_p.block j) (sym same j) + 1)
                ∙ ap (front_at (rooms e c.func) f p.block) next);
          })
          (on f (h.call ∷ []) (destroys_of f (result_of h.instr)) p (record { block = p.block; at = p.at + 1 }) reached
          (where_none (is_destroy_of (result_of h.instr)) f p
          (ap (passes (is_destroy_of (result_of h.instr))) (instr_there p (sym at_p.block) same)
          ∙ destroys (result_of h.instr)))
          (next_point f p i (instr_there p (sym at_p.block) same)))
          handle

-- ---- all of them

pub given_on : (e : Elision) (xs : List Instance) (c c' : Activation) (below : List Activation) → c'.result ≡ c.result
    → c'.mode ≡ c.mode → c'.instance ≡ c.instance → AreGivenBy e xs (c ∷ below) → AreGivenBy e xs (c' ∷ below)
given_on e xs c c' [] result mode instance h = λ frame is. h frame (sym mode ∙ is)
given_on e xs c c' (b ∷ below) result mode instance h = (
  λ frame is none.
      let old = h.0 frame (sym mode ∙ is) (sym instance ∙ none) in
      record {
        call = old.call;
        instr = old.instr;
        name = old.name;
        block = old.block;
        site = old.site;
        stands = old.stands;
        result = result ∙ old.result;
        address = old.address;
        is = old.is;
        slot = old.slot;
        over = old.over;
      },
  h.1,
)

module _ (e : Elision) (t : State) (new : Activation) (at : ℕ) (i : Instr)
    (there : slice_get (instrs_of (function_in e t.top.func) t.top.block) at ≡ Some i)
    (stands : t.top.at ≡ own_at (rooms e t.top.func) (function_in e t.top.func) t.top.block at)
    (destroys : (v : Option ℕ) → is_destroy_of v i ≡ false) where
  -- where the new one was given its frame by the one below it, if it is a ramp that was given one
  pub pushed_callers : ((frame : Value) → new.mode ≡ Mode.GivenRamp frame → new.instance ≡ None
      → IsGivenBy e t.instances frame new (record t.top { at = t.top.at + 1 })) → HaveCallers e t
      → HaveCallers e (push t new)
  pushed_callers ramp h = record {
    each = λ number y is given going.
        called_below e t.world.memory y number t.top (record t.top { at = t.top.at + 1 }) new t.below
        (record { func = refl; block = refl; result = refl; mode = refl; instance = refl; has_left = refl })
        (caller_further e t.top new at i there stands destroys t.world.memory y number)
        (h.each number y is given going);
    last = h.last;
    ramps = (
      ramp,
      given_on e t.instances t.top (record t.top { at = t.top.at + 1 }) t.below refl refl refl h.ramps,
    );
  }
