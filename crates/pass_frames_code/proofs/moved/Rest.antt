-- Behind a step the relation is that of other homes, instances and memories: what activations and instances have stays
-- right where the ranges in which it stands do.
use Rattle.std.proofs.Common.{◌≡◌, ◌+◌, ◌&&◌, ◌∷◌, ◌∙◌, [], Bool, List, None, Option, Some, ap, false, inl, inr, length, refl, subst, sym, true, ℕ}
use Rattle.std.specs.List.{Contains}
use Rattle.pass_proofs.specs.flow_solver.Paths.{IsListed}
use Rattle.pass_proofs.specs.frame_contents.Held.{position_of}
use Rattle.pass_proofs.specs.ir_model.Ty.{Ty, int, ptr}
use Rattle.pass_proofs.specs.ir_paths.declared.point.Point.{Point}
use Rattle.pass_proofs.specs.pass_cells.Kept.{entry}
use Rattle.pass_proofs.specs.pass_cells.declared.plan.KeptValue.{KeptValue}
use Rattle.pass_proofs.specs.pass_copies.declared.slot.EarlySlot.{EarlySlot}
use Rattle.pass_proofs.specs.pass_fetch.Fetching.{value_bytes}
use Rattle.pass_proofs.specs.pass_frames.Tables.{offset_at}
use Rattle.pass_frames_code.proofs.lines.Names.{distance_of}
use Rattle.pass_frames_code.proofs.lines.Results.{kept_is_cell}
use Rattle.pass_frames_code.proofs.stepping.Names.{cell_is_name, where_is_name}
use Rattle.pass_frames_code.specs.Framings.{IsFraming}
use Rattle.pass_frames_code.specs.Moved.{AreMoved, IsSamePlace, IsTopMoved, MovesRest}
use Rattle.pass_frames_code.specs.Places.{Framing, offsets, plan}
use Rattle.pass_frames_code.specs.Related.{Anything, AreActivations, AreAhead, AreAllAhead, AreBelow, AreBuiltOf, AreCellsRight, AreCellsThere, AreFieldsRight, AreFreeCells, AreInstances, AreMade, AreWheresRight, AreWheresThere, Building, HasCells, HasFields, HasValues, IsCell, IsCellName, IsHeldAs, IsKeptAs, IsKeptValue, IsSlotBy, IsStatus, IsSuspendNumber, IsWhere, below_place, instance_in, is_coroutine, returned_from, top_place}
use Rattle.pass_proofs.specs.addresses.rules.Addresses.{lies_in_frame}
use Rattle.pass_proofs.specs.run_framed.Framed.{frame_rights}
use Rattle.pass_proofs.proofs.run_laws.memory.Homes.{value_on}
use Rattle.pass_proofs.specs.run_laws.access.Lines.{Holds}
use Rattle.pass_proofs.specs.run_laws.memory.Pointers.{Extends, Home, IsValue, home_of}
use Rattle.pass_proofs.specs.run_memory.Memory.{Rights}
use Rattle.pass_proofs.specs.run_memory.declared.block.Byte.{Byte}
use Rattle.pass_proofs.specs.run_memory.declared.block.MemoryBlock.{MemoryBlock}
use Rattle.pass_proofs.specs.run_memory.declared.pointer.Value.{Value}
use Rattle.pass_proofs.specs.run_source.State.{address_in}
use Rattle.pass_proofs.specs.run_source.declared.state.Activation.{Activation}
use Rattle.pass_proofs.specs.run_source.declared.state.Instance.{Instance}
use Rattle.pass_proofs.specs.run_source.declared.state.Mode.{Mode}
use Rattle.pass_proofs.specs.run_source.declared.state.State.{State}
use Rattle.pass_proofs.specs.run_source.declared.state.Status.{Status}
use Rattle.pass_proofs.specs.run_step.Values.{Env, value_in}
use Rattle.pass_proofs.specs.run_step.declared.world.Slot.{Slot}
use Rattle.pass_proofs.specs.run_step.declared.world.World.{World}

-- ---- what is kept, over more homes

module _ (homes more : List Home) (e : Extends homes more) where
  pub kept_on : (env : Env) (v : ℕ) (k : KeptValue) (o : Option ℕ) (u : Value) → IsKeptAs homes env v k o u
      → IsKeptAs more env v k o u
  kept_on env v k None u h = value_on homes more e (value_in env v) u h
  kept_on env v k (Some slot) u h = h

  pub held_on : (env : Env) (v : ℕ) (o : Option ℕ) (u : Value) → IsHeldAs homes env v o u → IsHeldAs more env v o u
  held_on env v None u h = value_on homes more e (value_in env v) u h
  held_on env v (Some slot) u h = h

-- ---- cells of an activation whose ranges stay

pub same_place : (o : Option Instance) → IsSamePlace o o
same_place None = tt
same_place (Some y) = (refl, refl)

module _ (rights after : Rights) (m k : List MemoryBlock) (homes more : List Home) (e : Extends homes more)
    (x : Framing) (is : IsFraming x) (c : Activation)
    (kept : (slot : Slot) → Contains c.slots slot → IsCellName x slot.alloca → (o most : ℕ) (bytes : List Byte)
    → Holds rights m slot.block o most bytes → Holds after k slot.block o most bytes) where
  cell_on : (cell : ℕ) (ty : Ty) (Has Then : Value → Type 0) → ((v : Value) → Has v → Then v) → IsCellName x cell
      → IsCell rights m c cell ty Has → IsCell after k c cell ty Then
  cell_on cell ty Has Then turns name h = record {
    block = h.block;
    address = h.address;
    own = h.own;
    bytes = h.bytes;
    sized = h.sized;
    holds = kept (record { alloca = cell; block = h.block }) h.own name 0 (value_bytes ty) h.bytes h.holds;
    has = turns _ h.has;
  }

  value_cell : (v : ℕ) (kv : KeptValue) → IsKeptValue x v kv → IsCellName x kv.cell
  value_cell v kv z = cell_is_name x kv.cell (kept_is_cell x is v kv z)

  distance_cell : (v cell : ℕ) → entry (plan x).cells v ≡ Some cell → IsCellName x cell
  distance_cell v cell z = cell_is_name x cell (distance_of x is v cell z)

  pub rights_on : (env : Env) → AreCellsRight x homes rights m env c → AreCellsRight x more after k env c
  rights_on env h = record {
    values = λ v kv z. cell_on kv.cell kv.ty (IsValue homes (value_in env v)) (IsValue more (value_in env v))
        (value_on homes more e (value_in env v)) (value_cell v kv z) (h.values v kv z);
    distances = λ v cell slot z root.
        cell_on cell (int 64) _ _ (λ u d. d) (distance_cell v cell z) (h.distances v cell slot z root);
  }

  pub there_on : AreCellsThere x rights m c → AreCellsThere x after k c
  there_on h = record {
    values = λ v kv z. cell_on kv.cell kv.ty Anything Anything (λ u d. d) (value_cell v kv z) (h.values v kv z);
    distances = λ v cell z. cell_on cell (int 64) Anything Anything (λ u d. d) (distance_cell v cell z)
        (h.distances v cell z);
  }

  where_on : (own now : Option Instance) → IsSamePlace own now → (s : EarlySlot) (v : Value) → IsWhere own x c s v
      → IsWhere now x c s v
  where_on None None same s v h = h
  where_on None (Some z) same s v h = absurd same
  where_on (Some y) None same s v h = absurd same
  where_on (Some y) (Some z) same s v h = (
    h.0,
    h.1,
    h.2 ∙ (λ j. address_in (sym same.0 j) (sym same.1 j + offset_at x.layout h.0)),
  )

  pub wheres_on : (own now : Option Instance) → IsSamePlace own now → AreWheresRight x rights m own c
      → AreWheresRight x after k now c
  wheres_on own now same h = record {
    each = λ s z. cell_on s.cell ptr (IsWhere own x c s) (IsWhere now x c s) (where_on own now same s)
        (where_is_name x s z) (h.each s z);
  }

  pub where_there_on : AreWheresThere x rights m c → AreWheresThere x after k c
  where_there_on h = record {
    each = λ s z. cell_on s.cell ptr Anything Anything (λ u d. d) (where_is_name x s z) (h.each s z);
  }

  pub made_on : (mode : Mode) → AreMade x rights m c mode → AreMade x after k c mode
  made_on Mode.Plain h = (there_on h.0, where_there_on h.1)
  made_on Mode.Ramp h = (there_on h.0, where_there_on h.1)
  made_on (Mode.GivenRamp frame) h = (there_on h.0, where_there_on h.1)
  made_on Mode.Resumed h = (there_on h.0, where_there_on h.1)
  made_on (Mode.Entering from label) h = tt

  pub has_on : (own now : Option Instance) → IsSamePlace own now → (a : Activation) (from : Option ℕ)
      → ((y z : Instance) (j : ℕ) → own ≡ Some y → now ≡ Some z → from ≡ Some j
      → HasFields x homes rights m j a.values y.block y.start a.mode
      → HasFields x more after k j a.values z.block z.start a.mode)
      → HasCells x homes rights m own a c from → HasCells x more after k now a c from
  has_on own now same a None fields h = (rights_on a.values h.0, wheres_on own now same h.1)
  has_on None now same a (Some suspend) fields h = absurd h
  has_on (Some y) None same a (Some suspend) fields h = absurd same
  has_on (Some y) (Some z) same a (Some suspend) fields h = (fields y z suspend refl refl refl h.0, h.1)

-- ---- fields in a range that stays

module _ (rights after : Rights) (m k : List MemoryBlock) (homes more : List Home) (e : Extends homes more)
    (x : Framing) (suspend : ℕ) (env : Env) (block start : ℕ) where
  pub fields_on : ((v position : ℕ) (kv : KeptValue) → IsKeptValue x v kv
      → Contains x.contents.crossing (v, suspend) → position_of x.contents.held v ≡ Some position → (bytes : List Byte)
      → length bytes ≡ value_bytes kv.field_ty
      → Holds rights m block (start + offset_at x.layout position) (value_bytes kv.field_ty) bytes
      → Holds after k block (start + offset_at x.layout position) (value_bytes kv.field_ty) bytes)
      → AreFieldsRight x homes rights m suspend env block start → AreFieldsRight x more after k suspend env block start
  fields_on kept h = record {
    each = λ v position kv is crosses at. let f = h.each v position kv is crosses at in (
      f.0,
      f.1,
      kept v position kv is crosses at f.0 f.1 f.2,
      kept_on homes more e env v kv kv.slot _ f.3,
    );
  }

-- ---- the states

module _ (b : Building) (s t : State) (r : AreBuiltOf b s t) (ups cs : List Activation) (homes : List Home)
    (hides : ℕ → Bool) (xs ys : List Instance) (w u : World) (l : MovesRest b s t r ups cs homes hides ys w u)
    (top : Activation) where
  abbrev R : Rights
  R = frame_rights b.given t.instances

  abbrev Q : Rights
  Q = frame_rights b.given ys

  abbrev t' : State
  t' = record t { world = u; instances = ys; top = top }

  -- ---- instances

  status_on : (x y : Instance) → ((p : Point) (env : Env) → x.status ≡ Status.Suspended p env → x.freed ≡ false
      → (j : ℕ) → IsSuspendNumber (b.framing x.coroutine) j p
      → AreFieldsRight (b.framing x.coroutine) r.homes R t.world.memory j env y.block y.start
      → AreFieldsRight (b.framing x.coroutine) homes Q u.memory j env y.block y.start)
      → (q : Status) → x.status ≡ q → IsStatus b r.homes t x y q y.status → IsStatus b homes t' x y q y.status
  status_on x y fields Status.Running is q = q
  status_on x y fields Status.Finished is q = q
  status_on x y fields (Status.Suspended p env) is q =
      (q.0, q.1, q.2, q.3, λ live. fields p env is live q.1 q.3 (q.4 live))

  -- of an instance that stays, where its fields do
  pub instance_on : (x y : Instance) → ((p : Point) (env : Env) → x.status ≡ Status.Suspended p env → x.freed ≡ false
      → (j : ℕ) → IsSuspendNumber (b.framing x.coroutine) j p
      → AreFieldsRight (b.framing x.coroutine) r.homes R t.world.memory j env y.block y.start
      → AreFieldsRight (b.framing x.coroutine) homes Q u.memory j env y.block y.start)
      → AreInstances b r.homes t x y → AreInstances b homes t' x y
  instance_on x y fields h = record {
    coroutine = h.coroutine;
    is_coroutine = h.is_coroutine;
    block = l.seen.each x.block (ap (λ (q : Home). q.is_seen) h.block) ∙ h.block;
    start = h.start;
    status = status_on x y fields x.status refl h.status;
    last_save = h.last_save;
    released = h.released;
    freed = h.freed;
    slots = λ slot e. let p = h.slots slot e in record {
      position = p.position;
      position_is = p.position_is;
      home = l.seen.each slot.block (ap (λ (q : Home). q.is_seen) p.home) ∙ p.home;
    };
    no_slots = h.no_slots;
  }

  -- ---- activations

  slot_on : (a c : Activation) (slot : Slot) → home_of homes slot.block ≡ home_of r.homes slot.block
      → hides slot.block ≡ r.hides slot.block → (f : Bool) → IsSlotBy b r.homes r.hides a c slot f
      → IsSlotBy b homes hides a c slot f
  slot_on a c slot home hide true (inl h) = inl (hide ∙ h.0, h.1)
  slot_on a c slot home hide true (inr h) = inr (h.0, h.1, h.2, h.3, h.4, home ∙ h.5, hide ∙ h.6)
  slot_on a c slot home hide false h = record { block = h.block; home = home ∙ h.home; own = h.own }

  values_on : (p q : Activation) → IsListed p ups → IsListed q cs → q.func ≡ p.func → (f : Bool)
      → is_coroutine b p.func ≡ f → HasValues b r.homes R t p q f → HasValues b homes Q t' p q f
  values_on p q lp lq func true is h = record {
    names = record {
      each = λ v asks unkept outside. value_on r.homes homes l.seen (value_in p.values v) (value_in q.values v)
          (h.names.each v asks unkept outside);
      room = h.names.room;
    };
    cells = has_on R Q t.world.memory u.memory r.homes homes l.seen (b.framing p.func) (l.framings p.func is) q kept
        (instance_in t.instances q.instance) (instance_in ys q.instance) (l.owners q lq is')
        p (returned_from (b.framing p.func) p p.mode)
        (λ y z j own now from. l.returned p q y z j lp is own now from) h.cells;
    made = made_on R Q t.world.memory u.memory r.homes homes l.seen (b.framing p.func) (l.framings p.func is) q kept
        p.mode h.made;
  }
    where
      is' : is_coroutine b q.func ≡ true
      is' = subst (λ (k : ℕ). is_coroutine b k ≡ true) (sym func) is

      kept : (slot : Slot) → Contains q.slots slot → IsCellName (b.framing p.func) slot.alloca → (o most : ℕ)
          (bytes : List Byte) → Holds R t.world.memory slot.block o most bytes
          → Holds Q u.memory slot.block o most bytes
      kept slot e name =
          l.cells q lq is' slot e (subst (λ (k : ℕ). IsCellName (b.framing k) slot.alloca) (sym func) name)
  values_on p q lp lq func false is h = record {
    each = λ v. value_on r.homes homes l.seen (value_in p.values v) (value_in q.values v) (h.each v);
    room = h.room;
  }

  pub activation_on : (at : Activation → Point) (p q : Activation) → IsListed p ups → IsListed q cs
      → AreActivations b r.homes r.hides t at p q → AreActivations b homes hides t' at p q
  activation_on at p q lp lq h = record {
    func = h.func;
    place = h.place;
    result = h.result;
    mode = h.mode;
    instance = h.instance;
    has_left = h.has_left;
    values = values_on p q lp lq h.func (is_coroutine b p.func) refl h.values;
    slots = λ slot e. slot_on p q slot (l.slots p lp slot e).0 (l.slots p lp slot e).1
        (is_coroutine b p.func && lies_in_frame (offsets (b.framing p.func)) slot.alloca) (h.slots slot e);
  }

  pub below_on : (ps qs : List Activation) → ((p : Activation) → IsListed p ps → IsListed p ups)
      → ((q : Activation) → IsListed q qs → IsListed q cs) → AreBelow b r.homes r.hides t ps qs
      → AreBelow b homes hides t' ps qs
  below_on [] [] lp lq h = tt
  below_on [] (q ∷ qs) lp lq h = absurd h
  below_on (p ∷ ps) [] lp lq h = absurd h
  below_on (p ∷ ps) (q ∷ qs) lp lq h = (
    activation_on (below_place b) p q (lp p (inl refl)) (lq q (inl refl)) h.0,
    below_on ps qs (λ z k. lp z (inr k)) (λ z k. lq z (inr k)) h.1,
  )

  pub free_on : (qs : List Activation) → ((q : Activation) → IsListed q qs → IsListed q cs)
      → AreFreeCells b r.homes r.hides s.world.memory qs → AreFreeCells b homes hides w.memory qs
  free_on [] lq h = tt
  free_on (q ∷ qs) lq h = (
    λ is slot e name. l.free q (lq q (inl refl)) is slot e name (h.0 is slot e name),
    free_on qs (λ z k. lq z (inr k)) h.1,
  )

  pub one_ahead : (x : Framing) (p q : Activation) → IsListed q cs
      → AreAhead x r.homes r.hides s.world.memory t.world.memory p q → AreAhead x homes hides w.memory u.memory p q
  one_ahead x p q lq k = record {
    slots = λ at v align ty e le outside. l.ahead x q v align ty lq (k.slots at v align ty e le outside);
    temporaries = λ z at align ty listed e le.
        l.ahead x q z.temporary z.align z.ty lq (k.temporaries z at align ty listed e le);
  }

  pub ahead_on : (ps qs : List Activation) → ((q : Activation) → IsListed q qs → IsListed q cs)
      → AreAllAhead b r.homes r.hides s.world.memory t.world.memory ps qs
      → AreAllAhead b homes hides w.memory u.memory ps qs
  ahead_on [] qs lq h = tt
  ahead_on (p ∷ ps) [] lq h = tt
  ahead_on (p ∷ ps) (q ∷ qs) lq h = (
    λ is first here. one_ahead (b.framing p.func) p q (lq q (inl refl)) (h.0 is first here),
    ahead_on ps qs (λ z k. lq z (inr k)) h.1,
  )

-- ---- the whole relation

module _ (b : Building) (s t : State) (r : AreBuiltOf b s t) (homes : List Home) (hides : ℕ → Bool)
    (xs ys : List Instance) (w u : World) where
  -- with another activation on top
  pub moved_related : (a c : Activation) → MovesRest b s t r s.below t.below homes hides ys w u
      → AreMoved b t homes hides xs ys w u c → IsTopMoved b s t homes hides ys w u a c
      → AreBuiltOf b (record s { world = w; instances = xs; top = a })
      (record t { world = u; instances = ys; top = c })
  moved_related a c l m k = record {
    homes = homes;
    hides = hides;
    world = m.world;
    known = m.known;
    globals = m.globals;
    mates = m.mates;
    hidden = m.hidden;
    count = m.count;
    instances = m.instances;
    top = k.top;
    below = below_on b s t r s.below t.below homes hides xs ys w u l c s.below t.below (λ z h. h) (λ z h. h) r.below;
    once = k.once;
    cells = (
      k.cells,
      free_on b s t r s.below t.below homes hides xs ys w u l c t.below (λ z h. h) r.cells.1,
    );
    ahead = (
      k.ahead,
      ahead_on b s t r s.below t.below homes hides xs ys w u l c s.below t.below (λ z h. h) r.ahead.1,
    );
    outcome = r.outcome;
  }

  -- with the same activations
  pub related_on : MovesRest b s t r (s.top ∷ s.below) (t.top ∷ t.below) homes hides ys w u
      → AreMoved b t homes hides xs ys w u t.top
      → AreBuiltOf b (record s { world = w; instances = xs }) (record t { world = u; instances = ys })
  related_on l m = record {
    homes = homes;
    hides = hides;
    world = m.world;
    known = m.known;
    globals = m.globals;
    mates = m.mates;
    hidden = m.hidden;
    count = m.count;
    instances = m.instances;
    top = activation_on b s t r (s.top ∷ s.below) (t.top ∷ t.below) homes hides xs ys w u l t.top (top_place b) s.top
        t.top (inl refl) (inl refl) r.top;
    below = below_on b s t r (s.top ∷ s.below) (t.top ∷ t.below) homes hides xs ys w u l t.top s.below t.below
        (λ z h. inr h) (λ z h. inr h) r.below;
    once = r.once;
    cells = free_on b s t r (s.top ∷ s.below) (t.top ∷ t.below) homes hides xs ys w u l t.top (t.top ∷ t.below)
        (λ z h. h) r.cells;
    ahead = ahead_on b s t r (s.top ∷ s.below) (t.top ∷ t.below) homes hides xs ys w u l t.top (s.top ∷ s.below)
        (t.top ∷ t.below) (λ z h. h) r.ahead;
    outcome = r.outcome;
  }

  pub on_homes : (l : MovesRest b s t r (s.top ∷ s.below) (t.top ∷ t.below) homes hides ys w u)
      (m : AreMoved b t homes hides xs ys w u t.top) → (related_on l m).homes ≡ homes
  unfolding related_on
  on_homes l m = refl
