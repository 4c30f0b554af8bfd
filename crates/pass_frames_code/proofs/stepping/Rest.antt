-- Behind a step that stays in its activation the other ones and the instances stay related.
use Rattle.std.proofs.Common.{◌≡◌, inl, inr, ℕ, zero, suc, ◌<◌, ◌≤◌, Bool, true, false, List, [], ◌∷◌, ◌++◌, length, refl, sym, ap, ◌∙◌, subst, arith}
use Rattle.std.proofs.lemmas.List.{map-append}
use Rattle.std.specs.List.{Contains}
use Rattle.std.specs.Prelude.{None, Option, Some, map, slice_get, ◌&&◌}
use Rattle.pass_proofs.specs.flow_solver.Paths.{IsListed}
use Rattle.pass_proofs.proofs.ir_laws.facts.Lists.{none_past}
use Rattle.pass_proofs.proofs.ir_laws.paths.edges.Lists.{different_both}
use Rattle.pass_proofs.specs.ir_laws.paths.woven_rules.Pairs.{AreDifferent}
use Rattle.pass_proofs.specs.ir_model.Ty.{Ty, ptr}
use Rattle.pass_proofs.specs.ir_paths.declared.point.Point.{Point}
use Rattle.pass_proofs.specs.pass_cells.Kept.{entry}
use Rattle.pass_proofs.specs.pass_cells.declared.plan.KeptValue.{KeptValue}
use Rattle.pass_proofs.specs.pass_fetch.Fetching.{value_bytes}
use Rattle.pass_frames_code.proofs.lines.Cells.{contained}
use Rattle.pass_frames_code.proofs.lines.Names.{distance_of}
use Rattle.pass_frames_code.proofs.lines.Results.{kept_is_cell}
use Rattle.pass_frames_code.proofs.stepping.Names.{cell_is_name, where_is_name}
use Rattle.pass_frames_code.specs.Framings.{IsFraming}
use Rattle.pass_frames_code.specs.Places.{Framing, offsets, plan}
use Rattle.pass_frames_code.specs.Related.{Anything, AreActivations, AreAhead, AreAllAhead, AreBelow, AreBuiltOf, AreCellsRight, AreCellsThere, AreFieldsRight, AreFreeCells, AreInstances, AreMade, AreMates, AreWheresRight, AreWheresThere, Building, HasCells, HasFields, HasValues, IsAhead, IsCell, IsCellName, IsFreeOf, IsKeptValue, IsSuspendNumber, IsOwnSlot, IsSlotBy, IsStatus, instance_in, is_coroutine, is_first, returned_from, slots_below, top_place}
use Rattle.pass_proofs.specs.addresses.rules.Addresses.{lies_in_frame}
use Rattle.pass_proofs.specs.run_framed.Framed.{frame_rights}
use Rattle.pass_proofs.proofs.run_laws.transfer.Muted.{muted_length}
use Rattle.pass_proofs.specs.run_laws.access.Lines.{Holds}
use Rattle.pass_proofs.specs.run_laws.memory.Pointers.{Home, home_of}
use Rattle.pass_proofs.specs.run_laws.transfer.Muted.{muted}
use Rattle.pass_proofs.specs.run_laws.transfer.Transfer.{AreOver}
use Rattle.pass_proofs.specs.run_memory.Memory.{Rights, owner_rights}
use Rattle.pass_proofs.specs.run_memory.declared.block.Byte.{Byte}
use Rattle.pass_proofs.specs.run_memory.declared.block.MemoryBlock.{MemoryBlock}
use Rattle.pass_proofs.specs.run_memory.declared.pointer.Value.{Value}
use Rattle.pass_proofs.specs.run_source.declared.state.Activation.{Activation}
use Rattle.pass_proofs.specs.run_source.declared.state.Instance.{Instance}
use Rattle.pass_proofs.specs.run_source.declared.state.Mode.{Mode}
use Rattle.pass_proofs.specs.run_source.declared.state.State.{State}
use Rattle.pass_proofs.specs.run_source.declared.state.Status.{Status}
use Rattle.pass_proofs.specs.run_step.Values.{Env}
use Rattle.pass_proofs.specs.run_step.declared.world.Slot.{Slot}
use Rattle.pass_proofs.specs.run_step.declared.world.World.{World}

-- ---- lists

got_by : {A : Type 0} (xs : List A) (k : ℕ) → k < length xs → (o : Option A) → slice_get xs k ≡ o
    → (x : A) × (slice_get xs k ≡ Some x)
got_by xs k lt (Some x) e = (x, e)
got_by xs k lt None e = let past : length xs ≤ k = none_past xs k e in absurd (omega (arith, past, lt))

pub got : {A : Type 0} (xs : List A) (k : ℕ) → k < length xs → (x : A) × (slice_get xs k ≡ Some x)
got xs k lt = got_by xs k lt (slice_get xs k) refl

pub seen_known : (homes : List Home) (k : ℕ) → (home_of homes k).is_seen ≡ true → k < length homes
seen_known [] k e = absurd (cc)
seen_known (h ∷ homes) zero e = omega arith
seen_known (h ∷ homes) (suc k) e = let lt : k < length homes = seen_known homes k e in omega (arith, lt)

listed_block : (xs : List Slot) (x : Slot) → IsListed x xs → IsListed x.block (map (λ (slot : Slot). slot.block) xs)
listed_block [] x l = absurd l
listed_block (y ∷ xs) x (inl e) = inl (ap (λ (slot : Slot). slot.block) e)
listed_block (y ∷ xs) x (inr l) = inr (listed_block xs x l)

listed_before : (n : ℕ) (xs ys : List ℕ) → IsListed n xs → IsListed n (xs ++ ys)
listed_before n [] ys l = absurd l
listed_before n (x ∷ xs) ys (inl e) = inl e
listed_before n (x ∷ xs) ys (inr l) = inr (listed_before n xs ys l)

listed_behind : (n : ℕ) (xs ys : List ℕ) → IsListed n ys → IsListed n (xs ++ ys)
listed_behind n [] ys l = l
listed_behind n (x ∷ xs) ys l = inr (listed_behind n xs ys l)

pub slot_block : (xs : List Slot) (x : Slot) → Contains xs x → IsListed x.block (map (λ (slot : Slot). slot.block) xs)
slot_block xs x e = listed_block xs x (contained xs x e)

-- slots of an activation and of those below it
joined_slots : (c : Activation) (cs : List Activation)
    → map (λ (slot : Slot). slot.block) (c.slots ++ slots_below cs)
    ≡ map (λ (slot : Slot). slot.block) c.slots ++ map (λ (slot : Slot). slot.block) (slots_below cs)
joined_slots c cs = map-append (λ (slot : Slot). slot.block) c.slots (slots_below cs)

pub one_below : (c : Activation) (cs : List Activation) (slot : Slot) → Contains c.slots slot
    → IsListed slot.block (map (λ (z : Slot). z.block) (c.slots ++ slots_below cs))
one_below c cs slot e =
    subst (IsListed slot.block) (sym (joined_slots c cs))
    (listed_before slot.block (map (λ (z : Slot). z.block) c.slots) (map (λ (z : Slot). z.block) (slots_below cs))
    (slot_block c.slots slot e))

pub more_below : (c : Activation) (cs : List Activation) (n : ℕ)
    → IsListed n (map (λ (z : Slot). z.block) (slots_below cs))
    → IsListed n (map (λ (z : Slot). z.block) (c.slots ++ slots_below cs))
more_below c cs n l =
    subst (IsListed n) (sym (joined_slots c cs))
    (listed_behind n (map (λ (z : Slot). z.block) c.slots) (map (λ (z : Slot). z.block) (slots_below cs)) l)

-- ---- cells of an activation whose ranges stay

module _ (rights : Rights) (m k : List MemoryBlock) (x : Framing) (is : IsFraming x) (c : Activation)
    (kept : (slot : Slot) → Contains c.slots slot → IsCellName x slot.alloca → (o most : ℕ) (bytes : List Byte)
    → Holds rights m slot.block o most bytes → Holds rights k slot.block o most bytes) where
  pub cell_on : (cell : ℕ) (ty : Ty) (Has : Value → Type 0) → IsCellName x cell → IsCell rights m c cell ty Has
      → IsCell rights k c cell ty Has
  cell_on cell ty Has name h = record {
    block = h.block;
    address = h.address;
    own = h.own;
    bytes = h.bytes;
    sized = h.sized;
    holds = kept (record { alloca = cell; block = h.block }) h.own name 0 (value_bytes ty) h.bytes h.holds;
    has = h.has;
  }

  value_cell : (v : ℕ) (kv : KeptValue) → IsKeptValue x v kv → IsCellName x kv.cell
  value_cell v kv e = cell_is_name x kv.cell (kept_is_cell x is v kv e)

  distance_cell : (v cell : ℕ) → entry (plan x).cells v ≡ Some cell → IsCellName x cell
  distance_cell v cell e = cell_is_name x cell (distance_of x is v cell e)

  pub rights_kept : (homes : List Home) (env : Env) → AreCellsRight x homes rights m env c
      → AreCellsRight x homes rights k env c
  rights_kept homes env h = record {
    values = λ v kv e. cell_on kv.cell kv.ty _ (value_cell v kv e) (h.values v kv e);
    distances = λ v cell slot e root. cell_on cell _ _ (distance_cell v cell e) (h.distances v cell slot e root);
  }

  pub there_kept : AreCellsThere x rights m c → AreCellsThere x rights k c
  there_kept h = record {
    values = λ v kv e. cell_on kv.cell kv.ty Anything (value_cell v kv e) (h.values v kv e);
    distances = λ v cell e. cell_on cell _ Anything (distance_cell v cell e) (h.distances v cell e);
  }

  pub wheres_kept : (own : Option Instance) → AreWheresRight x rights m own c → AreWheresRight x rights k own c
  wheres_kept own h = record { each = λ s e. cell_on s.cell _ _ (where_is_name x s e) (h.each s e) }

  pub where_there_kept : AreWheresThere x rights m c → AreWheresThere x rights k c
  where_there_kept h = record { each = λ s e. cell_on s.cell ptr Anything (where_is_name x s e) (h.each s e) }

  pub made_kept : (mode : Mode) → AreMade x rights m c mode → AreMade x rights k c mode
  made_kept Mode.Plain h = (there_kept h.0, where_there_kept h.1)
  made_kept Mode.Ramp h = (there_kept h.0, where_there_kept h.1)
  made_kept (Mode.GivenRamp frame) h = (there_kept h.0, where_there_kept h.1)
  made_kept Mode.Resumed h = (there_kept h.0, where_there_kept h.1)
  made_kept (Mode.Entering from label) h = tt

  pub has_kept : (homes : List Home) (own : Option Instance) (a : Activation) (from : Option ℕ)
      → ((y : Instance) (j : ℕ) → own ≡ Some y → from ≡ Some j
      → HasFields x homes rights m j a.values y.block y.start a.mode
      → HasFields x homes rights k j a.values y.block y.start a.mode) → HasCells x homes rights m own a c from
      → HasCells x homes rights k own a c from
  has_kept homes own a None fields h = (rights_kept homes a.values h.0, wheres_kept own h.1)
  has_kept homes None a (Some suspend) fields h = absurd h
  has_kept homes (Some y) a (Some suspend) fields h = (fields y suspend refl refl h.0, h.1)

-- ---- the states

-- what a step that stays in its activation leaves of the others and of the instances
pub record LeavesRest (b : Building) (s t : State) (r : AreBuiltOf b s t) (w u : World) : Type 0 where
  pub framings : (func : ℕ) → is_coroutine b func ≡ true → IsFraming (b.framing func)
  pub cells : (c : Activation) → IsListed c t.below → is_coroutine b c.func ≡ true → (slot : Slot)
      → Contains c.slots slot → IsCellName (b.framing c.func) slot.alloca → (o most : ℕ) (bytes : List Byte)
      → Holds (frame_rights b.given t.instances) t.world.memory slot.block o most bytes
      → Holds (frame_rights b.given t.instances) u.memory slot.block o most bytes
  pub fields : (i : ℕ) (x y : Instance) → slice_get s.instances i ≡ Some x → AreInstances b r.homes t x y → (p : Point)
      (env : Env) → x.status ≡ Status.Suspended p env → (j : ℕ) → IsSuspendNumber (b.framing x.coroutine) j p
      → x.freed ≡ false
      → AreFieldsRight (b.framing x.coroutine) r.homes (frame_rights b.given t.instances) t.world.memory j env y.block
      y.start
      → AreFieldsRight (b.framing x.coroutine) r.homes
      (frame_rights b.given t.instances) u.memory j env y.block y.start
  pub returned : (a c : Activation) (y : Instance) (j : ℕ) → IsListed a s.below → is_coroutine b a.func ≡ true
      → instance_in t.instances c.instance ≡ Some y → returned_from (b.framing a.func) a a.mode ≡ Some j
      → HasFields (b.framing a.func) r.homes
      (frame_rights b.given t.instances) t.world.memory j a.values y.block y.start
      a.mode
      → HasFields (b.framing a.func) r.homes (frame_rights b.given t.instances) u.memory j a.values y.block y.start
      a.mode
  pub mates : AreMates r.homes w.memory u.memory
  pub free : (block : ℕ) → IsFreeOf r.homes r.hides s.world.memory block → IsFreeOf r.homes r.hides w.memory block
  pub ahead : (x : Framing) (c : Activation) (name align : ℕ) (ty : Ty) → IsListed c t.below
      → IsAhead x r.homes r.hides s.world.memory t.world.memory c name ty align
      → IsAhead x r.homes r.hides w.memory u.memory c name ty align
  pub known : length w.memory ≡ length s.world.memory

module _ (b : Building) (s t : State) (r : AreBuiltOf b s t) (w u : World) (l : LeavesRest b s t r w u) where
  abbrev R : Rights
  R = frame_rights b.given t.instances

  module _ (c : Activation) (rest : List Activation) where
    abbrev t' : State
    t' = record t { world = u; top = c; below = rest }

    -- ---- instances

    status_kept : (i : ℕ) (x y : Instance) → slice_get s.instances i ≡ Some x → AreInstances b r.homes t x y
        → (q : Status) → x.status ≡ q → IsStatus b r.homes t x y q y.status → IsStatus b r.homes t' x y q y.status
    status_kept i x y e h Status.Running is q = q
    status_kept i x y e h Status.Finished is q = q
    status_kept i x y e h (Status.Suspended p env) is q =
        (q.0, q.1, q.2, q.3, λ live. l.fields i x y e h p env is q.1 q.3 live (q.4 live))

    pub instance_kept : (i : ℕ) (x y : Instance) → slice_get s.instances i ≡ Some x → AreInstances b r.homes t x y
        → AreInstances b r.homes t' x y
    instance_kept i x y e h = record {
      coroutine = h.coroutine;
      is_coroutine = h.is_coroutine;
      block = h.block;
      start = h.start;
      status = status_kept i x y e h x.status refl h.status;
      last_save = h.last_save;
      released = h.released;
      freed = h.freed;
      slots = h.slots;
      no_slots = h.no_slots;
    }

    -- ---- activations

    values_kept : (p q : Activation) → IsListed p s.below → IsListed q t.below → q.func ≡ p.func → (f : Bool)
        → is_coroutine b p.func ≡ f → HasValues b r.homes R t p q f → HasValues b r.homes R t' p q f
    values_kept p q lp lq func true is h = record {
      names = h.names;
      cells = has_kept R t.world.memory u.memory (b.framing p.func) (l.framings p.func is) q kept r.homes
          (instance_in t.instances q.instance) p (returned_from (b.framing p.func) p p.mode)
          (λ y j own from. l.returned p q y j lp is own from) h.cells;
      made = made_kept R t.world.memory u.memory (b.framing p.func) (l.framings p.func is) q kept p.mode h.made;
    }
      where
        kept : (slot : Slot) → Contains q.slots slot → IsCellName (b.framing p.func) slot.alloca → (o most : ℕ)
            (bytes : List Byte) → Holds R t.world.memory slot.block o most bytes
            → Holds R u.memory slot.block o most bytes
        kept slot e name =
            l.cells q lq (subst (λ (k : ℕ). is_coroutine b k ≡ true) (sym func) is) slot e
            (subst (λ (k : ℕ). IsCellName (b.framing k) slot.alloca) (sym func) name)
    values_kept p q lp lq func false is h = h

    pub below_kept : (ps cs : List Activation) → ((p : Activation) → IsListed p ps → IsListed p s.below)
        → ((q : Activation) → IsListed q cs → IsListed q t.below) → AreBelow b r.homes r.hides t ps cs
        → AreBelow b r.homes r.hides t' ps cs
    below_kept [] [] lp lq h = tt
    below_kept [] (q ∷ cs) lp lq h = absurd h
    below_kept (p ∷ ps) [] lp lq h = absurd h
    below_kept (p ∷ ps) (q ∷ cs) lp lq h = (
      record {
        func = h.0.func;
        place = h.0.place;
        result = h.0.result;
        mode = h.0.mode;
        instance = h.0.instance;
        has_left = h.0.has_left;
        values = values_kept p q (lp p (inl refl)) (lq q (inl refl)) h.0.func (is_coroutine b p.func) refl h.0.values;
        slots = h.0.slots;
      },
      below_kept ps cs (λ z k. lp z (inr k)) (λ z k. lq z (inr k)) h.1,
    )

  -- ---- cells stay free, and so does what is made ahead

  pub free_kept : (cs : List Activation) → AreFreeCells b r.homes r.hides s.world.memory cs
      → AreFreeCells b r.homes r.hides w.memory cs
  free_kept [] h = tt
  free_kept (c ∷ cs) h = ((λ is slot e name. l.free slot.block (h.0 is slot e name)), free_kept cs h.1)

  pub all_ahead_kept : (ps cs : List Activation) → ((q : Activation) → IsListed q cs → IsListed q t.below)
      → AreAllAhead b r.homes r.hides s.world.memory t.world.memory ps cs
      → AreAllAhead b r.homes r.hides w.memory u.memory ps cs
  all_ahead_kept [] cs lq h = tt
  all_ahead_kept (a ∷ ps) [] lq h = tt
  all_ahead_kept (a ∷ ps) (c ∷ cs) lq h = (
    λ is first here. one (h.0 is first here),
    all_ahead_kept ps cs (λ z k. lq z (inr k)) h.1,
  )
    where
      one : AreAhead (b.framing a.func) r.homes r.hides s.world.memory t.world.memory a c
          → AreAhead (b.framing a.func) r.homes r.hides w.memory u.memory a c
      one k = record {
        slots = λ at v align ty e le outside.
            l.ahead (b.framing a.func) c v align ty (lq c (inl refl)) (k.slots at v align ty e le outside);
        temporaries = λ z at align ty listed e le.
            l.ahead (b.framing a.func) c z.temporary z.align z.ty (lq c (inl refl))
            (k.temporaries z at align ty listed e le);
      }

  -- ---- the activation on top goes on in its own block or another one

  module _ (sb sa tb ta : ℕ) (env other : Env) where
    abbrev on_s : Activation
    on_s = record s.top { block = sb; at = sa; values = env }

    abbrev on_t : Activation
    on_t = record t.top { block = tb; at = ta; values = other }

    slot_by : (slot : Slot) (f : Bool) → IsSlotBy b r.homes r.hides s.top t.top slot f
        → IsSlotBy b r.homes r.hides on_s on_t slot f
    slot_by slot true h = h
    slot_by slot false h = record { block = h.block; home = h.home; own = h.own }

    -- its slots stay
    pub own_slots : (slot : Slot) → Contains s.top.slots slot → IsOwnSlot b r.homes r.hides on_s on_t slot
    own_slots slot e =
        slot_by slot
        (is_coroutine b s.top.func && lies_in_frame (offsets (b.framing s.top.func)) slot.alloca) (r.top.slots slot e)

    pub rest_related : AreOver owner_rights R r.homes r.hides (λ d. d) w u
        → (is_coroutine b s.top.func ≡ true → is_first s.top.mode ≡ true → sb ≡ 0
        → AreAhead (b.framing s.top.func) r.homes r.hides w.memory u.memory on_s on_t)
        → AreActivations b r.homes r.hides (record t { world = u; top = on_t }) (top_place b) on_s on_t
        → AreBuiltOf b (record s { world = w; top = on_s }) (record t { world = u; top = on_t })
    rest_related over ahead top = record {
      homes = r.homes;
      hides = r.hides;
      world = over;
      known = r.known ∙ sym l.known;
      globals = r.globals;
      mates = l.mates;
      hidden = r.hidden;
      count = r.count;
      instances = λ i x y e d. instance_kept on_t t.below i x y e (r.instances i x y e d);
      top = top;
      below = below_kept on_t t.below s.below t.below (λ z k. k) (λ z k. k) r.below;
      once = r.once;
      cells = free_kept (t.top ∷ t.below) r.cells;
      ahead = (ahead, all_ahead_kept s.below t.below (λ z k. k) r.ahead.1);
      outcome = r.outcome;
    }

    -- blocks stand where they stood
    pub rest_homes : (over : AreOver owner_rights R r.homes r.hides (λ d. d) w u)
        (ahead : is_coroutine b s.top.func ≡ true → is_first s.top.mode ≡ true → sb ≡ 0
        → AreAhead (b.framing s.top.func) r.homes r.hides w.memory u.memory on_s on_t)
        (top : AreActivations b r.homes r.hides (record t { world = u; top = on_t }) (top_place b) on_s on_t)
        → (rest_related over ahead top).homes ≡ r.homes
    unfolding rest_related
    rest_homes over ahead top = refl

-- ---- blocks of cells are no others

module _ (b : Building) (s t : State) (r : AreBuiltOf b s t) where
  -- no block into which pointers may be about stands where nothing of the source does
  pub stood_apart : (block n : ℕ) → IsFreeOf r.homes r.hides s.world.memory block → n < length s.world.memory
      → (home_of r.homes n).is_seen ≡ true → (home_of r.homes n).block ≡ block → ⊥
  stood_apart block n free lt seen same =
      let long : length (muted r.hides s.world.memory) ≡ length s.world.memory = muted_length r.hides s.world.memory in
      let z = got (muted r.hides s.world.memory) n (omega (arith, lt, long)) in
      free n z.0 z.1 (inl seen) same

  -- slots of activations below lie in other blocks
  pub below_apart : (slot : Slot) → Contains t.top.slots slot
      → IsListed slot.block (map (λ (z : Slot). z.block) (slots_below t.below)) → ⊥
  below_apart slot e l =
      different_both (map (λ (z : Slot). z.block) t.top.slots) (map (λ (z : Slot). z.block) (slots_below t.below))
      slot.block
      (subst AreDifferent (map-append (λ (z : Slot). z.block) t.top.slots (slots_below t.below)) r.once)
      (slot_block t.top.slots slot e) l
