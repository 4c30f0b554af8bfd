-- A slot is made anew in both runs, and the framed run makes some allocas more: what becomes of all but the activation
-- on top.
use Rattle.std.proofs.Common.{◌≡◌, ◌≢◌, ◌⊎◌, ◌+◌, ◌<◌, ◌≤◌, ◌&&◌, ◌∷◌, ◌++◌, ◌∙◌, [], if◌then◌else◌, Bool, List, None, Option, Some, ap, append_assoc, arith, false, inl, inr, length, map, refl, subst, sym, take, true, ℕ, ⊎_elim}
use Rattle.std.proofs.lemmas.Bool.{cases_eq}
use Rattle.std.specs.List.{Contains}
use Rattle.std.specs.Prelude.{slice_get}
use Rattle.pass_frames_steps.specs.flow_solver.Paths.{IsListed}
use Rattle.pass_frames_steps.specs.ir_base.declared.outcome.Outcome.{Outcome}
use Rattle.pass_frames_steps.proofs.ir_laws.facts.Lists.{get_before, get_within}
use Rattle.pass_frames_steps.proofs.ir_laws.facts.Members.{each_left, each_right}
use Rattle.pass_frames_steps.proofs.ir_laws.paths.crossing.Spots.{listed_or}
use Rattle.pass_frames_steps.proofs.ir_laws.paths.edges.Lists.{different_left, different_right}
use Rattle.pass_frames_steps.proofs.ir_laws.paths.source_rules.Locals.{listed_left, listed_right}
use Rattle.pass_frames_steps.specs.ir_laws.paths.woven_rules.Pairs.{AreDifferent}
use Rattle.pass_frames_steps.specs.ir_model.Layout.{size_of}
use Rattle.pass_frames_steps.specs.ir_model.Names.{function_at}
use Rattle.pass_frames_steps.specs.ir_model.Ty.{Ty}
use Rattle.pass_frames_steps.specs.ir_model.declared.instr.Instr.{Instr}
use Rattle.pass_frames_steps.specs.ir_model.declared.module.Function.{Function}
use Rattle.pass_frames_steps.specs.ir_model.declared.module.Module.{Module}
use Rattle.pass_frames_steps.specs.ir_paths.Slots.{allocas_in}
use Rattle.pass_frames_steps.specs.ir_paths.declared.point.Point.{Point}
use Rattle.pass_frames_steps.specs.pass_cells.Cells.{fetched_function}
use Rattle.pass_frames_steps.specs.pass_cells.Kept.{entry}
use Rattle.pass_frames_steps.specs.pass_cells.declared.plan.KeptValue.{KeptValue}
use Rattle.pass_frames_steps.specs.pass_frames.Framed.{begin_of, celled, copied, placed}
use Rattle.pass_frames_steps.proofs.allocating.Both.{mates_together, new_block, seen_below, stands_together}
use Rattle.pass_frames_steps.proofs.allocating.Grown.{first_or_more, home_new, in_all, in_below, more_length}
use Rattle.pass_frames_steps.proofs.allocating.Made.{fields_more, free_made, globals_made, hidden_made, instance_made, known_made, moves_made, over_made}
use Rattle.pass_frames_steps.proofs.allocating.Ramp.{value_here}
use Rattle.pass_frames_steps.proofs.allocating.Steps.{ends_first, slot_step}
use Rattle.pass_frames_steps.proofs.allocating.Whole.{old_slot}
use Rattle.pass_frames_proof.proofs.anew.Lists.{allocas_append}
use Rattle.pass_frames_proof.proofs.entering.Behind.{AreBehind, are_behind}
use Rattle.pass_frames_proof.proofs.entering.Stand.{front_stands}
use Rattle.pass_frames_steps.proofs.followed.Assembly.{events_same}
use Rattle.pass_frames_steps.proofs.lines.Cells.{other_block}
use Rattle.pass_frames_steps.proofs.moved.Rest.{moved_related, same_place}
use Rattle.pass_frames_proof.proofs.returning.Behind.{stand_behind}
use Rattle.pass_frames_steps.proofs.stepping.Fetch.{coroutine_values, own_blocks}
use Rattle.pass_frames_steps.proofs.stepping.Rest.{got, seen_known}
use Rattle.pass_frames_proof.proofs.waking.Grown.{free_new, instance_grown}
use Rattle.pass_frames_steps.specs.Anew.{IsAtAnew}
use Rattle.pass_frames_steps.specs.Entering.{IsGoodAlloca, IsMaking, allocas_up_to, behind_allocas, front_allocas, made_blocks}
use Rattle.pass_frames_steps.specs.Followed.{IsOn}
use Rattle.pass_frames_steps.specs.Framings.{IsFraming}
use Rattle.pass_frames_steps.specs.Moved.{IsSamePlace, MovesRest}
use Rattle.pass_frames_steps.specs.Places.{Framing, alloca_place, edged, framed, instrs_at, offsets, plan}
use Rattle.pass_frames_steps.specs.Related.{AreActivations, AreBuiltOf, AreCoroutines, AreFieldsHeld, AreGone, AreInstances, AreMates, Building, HasCells, IsAsked, IsCellName, IsFreeOf, IsHeldAs, IsKeptValue, IsOffsetOf, IsOwnSlot, IsSlotBy, instance_in, is_coroutine, is_first, place_by, point_of, returned_from, slots_below, top_place}
use Rattle.pass_frames_steps.specs.Slotted.{HasSlotsThere}
use Rattle.pass_frames_steps.specs.Stepping.{AreGiven}
use Rattle.pass_frames_steps.specs.pass_proofs.addresses.rules.Addresses.{lies_in_frame}
use Rattle.pass_frames_steps.specs.pass_renewed_proof.Renewed.{RenewedGiven, renew_after, renewed_from, renewed_slot, renewed_step}
use Rattle.pass_frames_steps.specs.run_framed.Framed.{frame_rights}
use Rattle.pass_frames_steps.proofs.run_laws.access.Held.{grown_held}
use Rattle.pass_frames_steps.proofs.run_laws.memory.Homes.{append_extends, value_on}
use Rattle.pass_frames_steps.proofs.run_laws.transfer.Muted.{muted_length}
use Rattle.pass_frames_steps.proofs.run_laws.transfer.Places.{grown as target_grown, showing_it, showing_others}
use Rattle.pass_frames_steps.proofs.run_laws.transfer.Sets.{set_elsewhere}
use Rattle.pass_frames_steps.specs.run_laws.access.Lines.{Holds, StandAt}
use Rattle.pass_frames_steps.specs.run_laws.changed.Changed.{Each}
use Rattle.pass_frames_steps.specs.run_laws.embedded.Making.{whole_home}
use Rattle.pass_frames_steps.specs.run_laws.memory.Pointers.{Extends, Home, IsValue, home_of}
use Rattle.pass_frames_steps.specs.run_laws.memory.Standing.{blank_block}
use Rattle.pass_frames_steps.specs.run_laws.transfer.Muted.{ended_if, muted}
use Rattle.pass_frames_steps.specs.run_laws.transfer.Places.{AreStanding, AreThere, showing}
use Rattle.pass_frames_steps.specs.run_laws.transfer.Transfer.{AreOver}
use Rattle.pass_frames_steps.specs.run_memory.Memory.{Rights, decode, is_live, owner_rights}
use Rattle.pass_frames_steps.specs.run_memory.Pointers.{moved, offset_of}
use Rattle.pass_frames_steps.specs.run_memory.declared.block.Byte.{Byte}
use Rattle.pass_frames_steps.specs.run_memory.declared.block.Kind.{Kind}
use Rattle.pass_frames_steps.specs.run_memory.declared.block.Life.{Life}
use Rattle.pass_frames_steps.specs.run_memory.declared.block.MemoryBlock.{MemoryBlock}
use Rattle.pass_frames_steps.specs.run_memory.declared.pointer.Pointer.{Pointer}
use Rattle.pass_frames_steps.specs.run_memory.declared.pointer.Value.{Value}
use Rattle.pass_frames_steps.specs.run_source.State.{function_of}
use Rattle.pass_frames_steps.specs.run_source.declared.state.Activation.{Activation}
use Rattle.pass_frames_steps.specs.run_source.declared.state.Instance.{Instance}
use Rattle.pass_frames_steps.specs.run_source.declared.state.Mode.{Mode}
use Rattle.pass_frames_steps.specs.run_source.declared.state.State.{State}
use Rattle.pass_frames_steps.specs.run_step.Step.{alloca_kind, has_markers}
use Rattle.pass_frames_steps.specs.run_step.Values.{Env, access_of, pointer_to, value_in, with_value}
use Rattle.pass_frames_steps.specs.run_step.declared.world.Slot.{Slot}
use Rattle.pass_frames_steps.specs.run_step.declared.world.World.{World}

-- ---- what is shown where the framed run makes allocas

pub allocas_shown : (b : Building) (s t : State) (r : AreBuiltOf b s t)
    → ((func : ℕ) → is_coroutine b func ≡ true → IsFraming (b.framing func)) → t.outcome ≡ Outcome.Running
    → (is : List Instr) → Each IsGoodAlloca is → IsOn b s (behind_allocas b.given t is)
allocas_shown b s t r framings running is good =
    subst (IsOn b s) (sym m.state) (record {
      running = running;
      shown = record {
        homes = r.homes;
        events = events_same b s t r;
        outcome = r.outcome;
        instances = λ j v e suspended.
            let lt : j < length s.instances = get_within s.instances j v e in
            let same : length t.instances ≡ length s.instances = r.count in
            let w = got t.instances j (omega (arith, lt, same)) in (w.0, w.1, beside j v w.0 e w.1);
      };
    })
  where
    m : AreBehind b.given t (behind_allocas b.given t is) is
    m = are_behind b.given t is good

    places : (o : Option ℕ) → IsSamePlace (instance_in t.instances o) (instance_in t.instances o)
    places o = same_place (instance_in t.instances o)

    beside : (j : ℕ) (v w : Instance) → slice_get s.instances j ≡ Some v → slice_get t.instances j ≡ Some w
        → AreInstances b r.homes (record t {
          world = record t.world { memory = (behind_allocas b.given t is).world.memory };
          top = record t.top {
            at = (behind_allocas b.given t is).top.at;
            values = (behind_allocas b.given t is).top.values;
            slots = (behind_allocas b.given t is).top.slots;
          };
        }) v w
    beside j v w e e' =
        subst (λ (mem : List MemoryBlock). AreInstances b r.homes (record t {
          world = record t.world { memory = mem };
          top = record t.top {
            at = (behind_allocas b.given t is).top.at;
            values = (behind_allocas b.given t is).top.values;
            slots = (behind_allocas b.given t is).top.slots;
          };
        }) v w) (sym m.memory)
        (instance_grown b s t r framings t.instances refl places
        (made_blocks b.given.given.code (function_of b.given.given t) is) s.instances
        (record t.top {
          at = (behind_allocas b.given t is).top.at;
          values = (behind_allocas b.given t is).top.values;
          slots = (behind_allocas b.given t is).top.slots;
        }) v w (r.instances j v w e e'))

-- the framed form of a coroutine is one
framed_is_coroutine : (x : Framing) → (framed x).coroutine ≡ x.function.coroutine
unfolding celled copied placed fetched_function
framed_is_coroutine x = refl

-- pointers lead into blocks that are there
there_of : (rights target : Rights) (homes : List Home) (m n : List MemoryBlock) → length homes ≡ length m
    → AreStanding rights target homes m n → AreThere homes n
there_of rights target homes m n known st k seen =
    let lt : k < length homes = seen_known homes k seen in
    let x = got m k (omega (arith, lt, known)) in
    let h = st.bounds.each k x.0 seen x.1 in (h.block, h.there)

-- ---- the states

-- a slot is made anew, and the framed run makes a line of allocas, of which the first is that slot's
pub record MakesAnew (b : Building) (g : RenewedGiven) : Type 0 where
  pub given : AreGiven b g
  pub s : State
  pub t : State
  pub r : AreBuiltOf b s t
  pub name : ℕ
  pub ty : Ty
  pub align : ℕ
  pub from : ℕ
  pub label : ℕ
  pub order : ℕ
  pub h : IsAtAnew b g s name ty align from label order
  pub mine : HasSlotsThere s
  pub theirs : HasSlotsThere t
  pub line : List Instr
  pub rest : List Instr
  pub stands : front_allocas (b.framing s.top.func)
      ≡ allocas_up_to (b.framing s.top.func) s.top.at ++ ((Instr.Alloca name ty align ∷ line) ++ rest)
  pub unhanded : (v : ℕ) → IsListed v (allocas_in line) → value_in s.top.values v ≡ Value.Poison

module _ (b : Building) (g : RenewedGiven) (l : MakesAnew b g) where
  given : AreGiven b g
  given = l.given

  abbrev s : State
  s = l.s

  abbrev t : State
  t = l.t

  abbrev r : AreBuiltOf b s t
  r = l.r

  abbrev name : ℕ
  name = l.name

  abbrev ty : Ty
  ty = l.ty

  abbrev align : ℕ
  align = l.align

  abbrev label : ℕ
  label = l.label

  abbrev order : ℕ
  order = l.order

  abbrev h : IsAtAnew b g s name ty align l.from label order
  h = l.h

  abbrev mine : HasSlotsThere s
  mine = l.mine

  abbrev theirs : HasSlotsThere t
  theirs = l.theirs

  abbrev line : List Instr
  line = l.line

  abbrev rest : List Instr
  rest = l.rest

  stands : front_allocas (b.framing s.top.func)
      ≡ allocas_up_to (b.framing s.top.func) s.top.at ++ ((Instr.Alloca name ty align ∷ line) ++ rest)
  stands = l.stands

  abbrev pub X : Framing
  X = b.framing s.top.func

  abbrev pub R : Rights
  R = frame_rights b.given t.instances

  abbrev pub n : ℕ
  n = length s.world.memory

  abbrev pub k : ℕ
  k = length t.world.memory

  abbrev pub size : ℕ
  size = size_of g.given.code ty

  abbrev pub x : MemoryBlock
  x = new_block false size align Kind.Slot

  abbrev pub slot : Slot
  slot = record { alloca = name; block = n }

  abbrev pub other : Slot
  other = record { alloca = name; block = k }

  abbrev pub env : Env
  env = with_value s.top.values name (pointer_to n)

  abbrev pub before : List Instr
  before = allocas_up_to X s.top.at

  -- the allocas that the framed run makes
  abbrev pub all : List Instr
  all = Instr.Alloca name ty align ∷ line

  abbrev pub v : State
  v = behind_allocas b.given t all

  -- ---- the allocas

  pub running : t.outcome ≡ Outcome.Running
  running = r.outcome ∙ h.here.runs

  pub framed_is : function_of b.given.given t ≡ framed X
  framed_is =
      (λ j. function_at (given.code j) (r.top.func j)) ∙ (given.built.coroutines s.top.func h.here.coroutine).is

  pub place_there : point_of t.top ≡ alloca_place X s.top.at
  place_there =
      r.top.place
      ∙ ap (λ (c : Bool). if c then place_by X s.top s.top.mode else point_of s.top) h.here.coroutine
      ∙ ap (place_by X s.top) h.mode

  pub makes : IsMaking t l.from label
  makes = record {
    runs = running;
    mode = r.top.mode ∙ h.mode;
    entry_block = ap (λ (p : Point). p.block) place_there;
  }

  parts_good : Each IsGoodAlloca (before ++ (all ++ rest))
  parts_good = subst (Each IsGoodAlloca) stands h.fronts.good

  pub good : Each IsGoodAlloca (all ++ rest)
  good = each_right IsGoodAlloca before (all ++ rest) parts_good

  pub all_good : Each IsGoodAlloca all
  all_good = each_left IsGoodAlloca all rest good

  pub stand : StandAt (function_of b.given.given t) 0 t.top.at (all ++ rest)
  stand =
      subst (λ (f : Function). StandAt f 0 t.top.at (all ++ rest)) (sym framed_is)
      (subst (λ (p : Point). StandAt (framed X) 0 p.at (all ++ rest)) (sym place_there)
      (subst (λ (m : ℕ). StandAt (framed X) 0 m (all ++ rest)) (none_before (length before))
      (stand_behind (framed X) 0 0 before (all ++ rest)
      (subst (StandAt (framed X) 0 0) stands (front_stands X s.top.at (Instr.Alloca name ty align) h.here.there)))))
    where
      none_before : (m : ℕ) → 0 + m ≡ m
      none_before m = omega arith

  pub different : AreDifferent (allocas_in (before ++ (all ++ rest)))
  different = subst (λ (is : List Instr). AreDifferent (allocas_in is)) stands h.fronts.different

  pub different_all : AreDifferent (allocas_in all)
  different_all =
      different_left (allocas_in all) (allocas_in rest)
      (subst AreDifferent (allocas_append all rest)
      (different_right (allocas_in before) (allocas_in (all ++ rest))
      (subst AreDifferent (allocas_append before (all ++ rest)) different)))

  -- names of these allocas are among those of all
  pub among : (u : ℕ) → IsListed u (allocas_in all) → IsListed u (allocas_in (front_allocas X))
  among u l =
      subst (λ (is : List Instr). IsListed u (allocas_in is)) (sym stands)
      (subst (IsListed u) (sym (allocas_append before (all ++ rest)))
      (listed_right u (allocas_in before) (allocas_in (all ++ rest))
      (subst (IsListed u) (sym (allocas_append all rest)) (listed_left u (allocas_in all) (allocas_in rest) l))))

  pub old : AreCoroutines X r.homes R t s.top t.top
  old = coroutine_values b r.homes R t s.top t.top (is_coroutine b s.top.func) h.here.coroutine r.top.values

  pub low_all : (u : ℕ) → IsListed u (allocas_in all) → u < length t.top.values
  low_all u l = subst (λ (m : ℕ). u < m) (sym old.names.room) (h.fronts.low u (among u l))

  pub all_behind : AreBehind b.given t v all
  all_behind = are_behind b.given t all all_good

  first_made : (value_in v.top.values name ≡ pointer_to (k + 0))
      × Contains v.top.slots (record { alloca = name; block = k + 0 })
      × (slice_get v.world.memory (k + 0)
      ≡ Some (record (blank_block (size_of b.given.given.code ty) align (alloca_kind (function_of b.given.given t))) {
        life = if has_markers (function_of b.given.given t) name then Life.Ended else Life.Live;
      }))
  first_made = all_behind.made different_all low_all 0 name align ty refl

  none_more : (m : ℕ) → m + 0 ≡ m
  none_more m = omega arith

  pub address : value_in v.top.values name ≡ pointer_to k
  address = first_made.0 ∙ ap pointer_to (none_more k)

  pub own : Contains v.top.slots other
  own = subst (λ (m : ℕ). Contains v.top.slots (record { alloca = name; block = m })) (none_more k) first_made.1

  -- ---- the memory

  abbrev pub news : List MemoryBlock
  news = made_blocks b.given.given.code (function_of b.given.given t) line

  abbrev pub grown_memory : List MemoryBlock
  grown_memory = t.world.memory ++ (x ∷ news)

  pub memory_is : v.world.memory ≡ grown_memory
  memory_is =
      all_behind.memory
      ∙ (λ j. t.world.memory ++ (new_block (marks j) (sized j) align (kind j) ∷ news))
    where
      marks : has_markers (function_of b.given.given t) name ≡ false
      marks = ap (λ (f : Function). has_markers f name) framed_is ∙ h.unmarked

      sized : size_of b.given.given.code ty ≡ size
      sized = ap (λ (m : Module). size_of m ty) given.code ∙ h.sized

      kind : alloca_kind (function_of b.given.given t) ≡ Kind.Slot
      kind =
          ap alloca_kind framed_is
          ∙ ap (λ (c : Bool). if c then Kind.Slot else Kind.Stack)
          (framed_is_coroutine X
          ∙ ap (λ (f : Function). f.coroutine) (given.built.coroutines s.top.func h.here.coroutine).function
          ∙ h.here.coroutine)

  abbrev pub u : World
  u = record t.world { memory = grown_memory }

  pub behind_is : v ≡ record t {
    world = u;
    top = record t.top { at = v.top.at; values = v.top.values; slots = v.top.slots };
  }
  behind_is =
      all_behind.state
      ∙ ap (λ (m : List MemoryBlock). record t {
        world = record t.world { memory = m };
        top = record t.top { at = v.top.at; values = v.top.values; slots = v.top.slots };
      }) memory_is

  abbrev pub shows : ℕ → Bool
  shows = showing r.hides n

  alike : (c : ℕ) → c ≢ n → shows c ≡ r.hides c
  alike c ne = showing_others r.hides n c ne

  not_hidden : shows n ≡ false
  not_hidden = showing_it r.hides n

  below_there : (a : Activation) → IsListed a s.below → (z : Slot) → Contains a.slots z → z.block < n
  below_there a l z c = mine.each z (in_below s a l z c)

  spare : (c : Activation) → IsListed c t.below → (z : Slot) → Contains c.slots z
      → IsFreeOf r.homes r.hides s.world.memory z.block
      → (true ≡ true) ⊎ (is_live (ended_if (shows n) x).life ≡ true) → k ≢ z.block
  spare c l z c' free how e = let lt : z.block < k = theirs.each z (in_below t c l z c') in omega (arith, lt, e)

  grown : (i : ℕ) (z : MemoryBlock) → slice_get t.world.memory i ≡ Some z → slice_get u.memory i ≡ Some z
  grown i z e = get_before t.world.memory (x ∷ news) i z e

  pub held : (e o most : ℕ) (bytes : List Byte) → Holds R t.world.memory e o most bytes
      → Holds R u.memory e o most bytes
  held e o most bytes z = grown_held R t.world.memory (x ∷ news) e o most bytes z

  abbrev pub homes : List Home
  homes = r.homes ++ whole_home k ∷ []

  abbrev pub w : World
  w = record s.world { memory = s.world.memory ++ x ∷ [] }

  pub more : Extends r.homes homes
  more = append_extends r.homes (whole_home k ∷ [])

  pub new_home : home_of homes n ≡ whole_home k
  new_home = home_new r.homes r.hides shows s.world.memory (whole_home k) x r.known alike

  moves : MovesRest b s t r s.below t.below homes shows t.instances w u
  moves = moves_made b s t r given.framings (whole_home k) x shows alike below_there u grown held spare

  joined : (t.world.memory ++ x ∷ []) ++ news ≡ grown_memory
  joined = append_assoc t.world.memory (x ∷ []) news

  first_stands : AreStanding owner_rights R homes (muted r.hides s.world.memory ++ x ∷ []) (t.world.memory ++ x ∷ [])
  first_stands = stands_together b s t r false size align Kind.Slot h.small

  all_stands : AreStanding owner_rights R homes (muted r.hides s.world.memory ++ x ∷ []) grown_memory
  all_stands =
      subst (AreStanding owner_rights R homes (muted r.hides s.world.memory ++ x ∷ [])) joined
      (target_grown owner_rights R homes (muted r.hides s.world.memory ++ x ∷ []) (t.world.memory ++ x ∷ []) news
      (there_of owner_rights R homes (muted r.hides s.world.memory ++ x ∷ []) (t.world.memory ++ x ∷ []) known_muted
      first_stands) first_stands)
    where
      known_muted : length homes ≡ length (muted r.hides s.world.memory ++ x ∷ [])
      known_muted =
          let a = more_length r.homes (whole_home k) in
          let c = more_length (muted r.hides s.world.memory) x in
          let d : length r.homes ≡ n = r.known in
          let e : length (muted r.hides s.world.memory) ≡ n = muted_length r.hides s.world.memory in
          omega (arith, a, c, d, e)

  over : AreOver owner_rights R homes shows (λ d. d) w u
  over =
      over_made b s t r given.framings (whole_home k) x shows alike below_there u grown held spare
      (subst (λ (c : Bool). AreStanding owner_rights R homes (muted r.hides s.world.memory ++ ended_if c x ∷ [])
      u.memory) (sym not_hidden) all_stands) refl

  mates : AreMates homes w.memory u.memory
  mates =
      subst (AreMates homes w.memory) joined (record {
        whole = first.whole;
        each = λ d q z e home.
            let p = first.each d q z e home in
            (p.0, get_before (t.world.memory ++ x ∷ []) news q (record z { bytes = p.0 }) p.1);
        alone = first.alone;
      })
    where
      first : AreMates homes w.memory (t.world.memory ++ x ∷ [])
      first = mates_together b s t r false size align Kind.Slot h.small shows alike

  -- no frame lies in a block that is still to come
  pub frames_low : (i : ℕ) (y : Instance) → slice_get t.instances i ≡ Some y → y.block < k
  frames_low i y e =
      let lt : i < length t.instances = get_within t.instances i y e in
      let many : length t.instances ≡ length s.instances = r.count in
      let xi = got s.instances i (omega (arith, lt, many)) in
      let home = (r.instances i xi.0 y xi.1 e).block in
      let below : (home_of r.homes xi.0.block).block < k =
      seen_below b s t r xi.0.block (ap (λ (q : Home). q.is_seen) home) in
      let at : (home_of r.homes xi.0.block).block ≡ y.block = ap (λ (q : Home). q.block) home in
      omega (arith, below, at)

  -- ---- values

  pub other_value : (m : ℕ) → (name ≡ m → ⊥) → value_in env m ≡ value_in s.top.values m
  other_value m ne = set_elsewhere s.top.values name m (pointer_to n) ne

  pub own_value : value_in env name ≡ pointer_to n
  own_value =
      value_here s.top.values name (pointer_to n) (let lt = h.low in let room = h.room in omega (arith, lt, room))

  pub own_stands : IsValue homes (pointer_to n) (pointer_to k)
  own_stands = (
    ap (λ (q : Home). q.is_seen) new_home,
    ap (λ (q : Home). Value.Ptr (Pointer.At q.block (moved (offset_of 0) q.offset))) (sym new_home),
  )

  -- names stand for each other where they did, and so does the new address; of the others nothing is handed on
  pub value_now : (m : ℕ)
      → ((name ≡ m → ⊥)
      → IsValue r.homes (value_in s.top.values m) (value_in t.top.values m) ⊎ (value_in s.top.values m ≡ Value.Poison))
      → IsValue homes (value_in env m) (value_in v.top.values m)
  value_now m stood =
      ⊎_elim (λ same. by_own same) (λ ne. by_line ne (listed_or m (allocas_in line))) (cases_eq name m)
    where
      by_own : name ≡ m → IsValue homes (value_in env m) (value_in v.top.values m)
      by_own same =
          subst (λ (q : ℕ). IsValue homes (value_in env q) (value_in v.top.values q)) same
          (subst (λ (z : Value × Value). IsValue homes z.0 z.1) (λ j. (sym own_value j, sym address j)) own_stands)

      poison : (name ≡ m → ⊥) → value_in s.top.values m ≡ Value.Poison
          → IsValue homes (value_in env m) (value_in v.top.values m)
      poison ne e =
          subst (λ (z : Value). IsValue homes z (value_in v.top.values m)) (sym (other_value m ne ∙ e)) tt

      by_line : (name ≡ m → ⊥) → IsListed m (allocas_in line) ⊎ (IsListed m (allocas_in line) → ⊥)
          → IsValue homes (value_in env m) (value_in v.top.values m)
      by_line ne (inl lm) = poison ne (l.unhanded m lm)
      by_line ne (inr off) = ⊎_elim
          (λ st.
          subst (λ (z : Value × Value). IsValue homes z.0 z.1)
          (λ j. (sym (other_value m ne) j, sym (all_behind.others m (λ c. ⊎_elim (λ e. ne (sym e)) off c)) j))
          (value_on r.homes homes more (value_in s.top.values m) (value_in t.top.values m) st))
          (λ e. poison ne e) (stood ne)

  -- a name that is kept, or of which the distance is, is another one
  pub not_kept : (m : ℕ) (kv : KeptValue) → IsKeptValue X m kv → name ≡ m → ⊥
  not_kept m kv e same =
      let no : None ≡ Some e.number = sym h.unkept ∙ ap (entry (plan X).places) same ∙ e.told in absurd (cc)

  pub not_celled : (m cell : ℕ) → entry (plan X).cells m ≡ Some cell → name ≡ m → ⊥
  not_celled m cell e same =
      let no : None ≡ Some cell = sym h.uncelled ∙ ap (entry (plan X).cells) same ∙ e in absurd (cc)

  -- what a name had that was asked for on the way
  pub stood_there : (m : ℕ) → entry (plan X).places m ≡ None → lies_in_frame (offsets X) m ≡ false
      → (m ≡ begin_of X.function) ⊎ IsListed m (allocas_in (take s.top.at (instrs_at X 0)))
      → IsValue r.homes (value_in s.top.values m) (value_in t.top.values m)
  stood_there m unkept outside asks =
      old.names.each m (subst (λ (mode : Mode). IsAsked X s.top mode m) (sym h.mode) asks) unkept outside

  -- ---- slots

  module _ (ab aa : ℕ) (am : Mode) (av : Env) (cb ca : ℕ) (cm : Mode) where
    abbrev pub a' : Activation
    a' = record s.top { block = ab; at = aa; mode = am; values = av; slots = slot ∷ s.top.slots }

    abbrev pub c' : Activation
    c' = record t.top { block = cb; at = ca; mode = cm; values = v.top.values; slots = v.top.slots }

    kept_slot : (z : Slot) (f : Bool) → IsSlotBy b homes shows a' t.top z f → IsSlotBy b homes shows a' c' z f
    kept_slot z false p = record { block = p.block; home = p.home; own = all_behind.kept _ p.own }
    kept_slot z true (inl p) = inl p
    kept_slot z true (inr p) = inr (p.0, p.1, p.2, p.3, all_behind.kept _ p.4, p.5, p.6)

    pub slots : (z : Slot) → Contains a'.slots z → IsOwnSlot b homes shows a' c' z
    slots z c = by (first_or_more s.top.slots slot z c)
      where
        by : (slot ≡ z) ⊎ Contains s.top.slots z → IsOwnSlot b homes shows a' c' z
        by (inl e) =
            subst (IsOwnSlot b homes shows a' c') e
            (subst (IsSlotBy b homes shows a' c' slot) (sym (λ j. h.here.coroutine j && h.outside j))
            (record { block = k; home = new_home; own = own }))
        by (inr c) =
            kept_slot z (is_coroutine b s.top.func && lies_in_frame (offsets X) z.alloca)
            (old_slot b s t r (whole_home k) x shows alike a' refl z (mine.each z (in_all s s.top (inl refl) z c))
            (r.top.slots z c))

    -- ---- cells are free of the source's blocks

    own_once : AreDifferent (map (λ (z : Slot). z.block) (v.top.slots ++ slots_below t.below))
    own_once = all_behind.once (slots_below t.below) theirs.each r.once

    cells : is_coroutine b c'.func ≡ true → (z : Slot) → Contains c'.slots z
        → IsCellName (b.framing c'.func) z.alloca → IsFreeOf homes shows w.memory z.block
    cells is z c cell = ⊎_elim (λ o. by_old o) (λ o. by_new o.0) (all_behind.new z c)
      where
        now : (m : ℕ) → k ≢ m → IsFreeOf r.homes r.hides s.world.memory m → IsFreeOf homes shows w.memory m
        now m ne free =
            free_made b s t r given.framings (whole_home k) x shows alike below_there u grown held spare m (λ how. ne)
            free

        by_old : Contains t.top.slots z → IsFreeOf homes shows w.memory z.block
        by_old o =
            now z.block
            (λ e. let lt : z.block < k = theirs.each z (in_all t t.top (inl refl) z o) in omega (arith, lt, e))
            (r.cells.0 is z o cell)

        no_own : name ≢ z.alloca
        no_own e =
            let le : length (edged X).names ≤ z.alloca =
            (subst (λ (q : ℕ). IsCellName (b.framing q) z.alloca) r.top.func cell).new in
            let lt = h.low in
            omega (arith, le, lt, e)

        by_new : k ≤ z.block → IsFreeOf homes shows w.memory z.block
        by_new le =
            now z.block
            (other_block c' name z.alloca k z.block
            (own_blocks (record t { top = c' }) own_once) own c no_own)
            (free_new b s t r given.framings t.instances refl (λ o. same_place (instance_in t.instances o)) (x ∷ news)
            z.block le)

    -- ---- the states

    pub related_with : is_first am ≡ false
        → AreActivations b homes shows (record t { world = u; top = c' }) (top_place b) a' c'
        → AreBuiltOf b (record s { world = w; top = a' }) (record t { world = u; top = c' })
    related_with not_first top =
        moved_related b s t r homes shows s.instances t.instances w u a' c' moves (record {
          world = over;
          known = known_made b s t r given.framings (whole_home k) x shows alike below_there u grown held spare;
          globals = globals_made b s t r given.framings (whole_home k) x shows alike below_there u grown held spare;
          mates = mates;
          hidden = hidden_made b s t r given.framings (whole_home k) x shows alike below_there u grown held spare
              (λ e. let no : true ≡ false = sym e ∙ not_hidden in absurd (cc));
          count = r.count;
          instances = λ i xi yi e e'.
              instance_made b s t r given.framings (whole_home k) x shows alike below_there u grown held spare c' xi yi
              (r.instances i xi yi e e');
        }) (record {
          top = top;
          once = own_once;
          cells = cells;
          ahead = λ is first block. let no : true ≡ false = sym first ∙ not_first in absurd (cc);
        })

  -- ---- the cells that it has on the way

  on_way : HasCells X r.homes R t.world.memory (instance_in t.instances t.top.instance)
      (record s.top { mode = Mode.Entering l.from label }) t.top (Some order)
  on_way =
      subst (λ (o : Option ℕ). HasCells X r.homes R t.world.memory (instance_in t.instances t.top.instance)
      (record s.top { mode = Mode.Entering l.from label }) t.top o) h.returns
      (subst (λ (m : Mode). HasCells X r.homes R t.world.memory (instance_in t.instances t.top.instance)
      (record s.top { mode = m }) t.top (returned_from X (record s.top { mode = m }) m)) h.mode old.cells)

  -- so it has an instance, whose fields hold what was handed on
  pub record IsOnWay : Type 0 where
    pub instance : Instance
    pub there : instance_in t.instances t.top.instance ≡ Some instance
    pub fields : AreFieldsHeld X r.homes R t.world.memory order s.top.values instance.block instance.start
    pub gone : AreGone X order s.top.values

  pub way : IsOnWay
  way = on (instance_in t.instances t.top.instance) refl on_way
    where
      on : (o : Option Instance) → instance_in t.instances t.top.instance ≡ o
          → HasCells X r.homes R t.world.memory o (record s.top { mode = Mode.Entering l.from label }) t.top
          (Some order)
          → IsOnWay
      on None e q = absurd q
      on (Some y) e q = record { instance = y; there = e; fields = q.0; gone = q.1 }

  -- behind the step
  pub held_now : AreFieldsHeld X homes R u.memory order env way.instance.block way.instance.start
  held_now =
      let f = fields_more R R t.world.memory u.memory r.homes homes more way.instance.block (held way.instance.block) X
      order s.top.values way.instance.start (Mode.Entering l.from label) way.fields in
      record {
        each = λ m position kv is crosses at.
            let q = f.each m position kv is crosses at in
            (q.0, q.1, q.2, turned m (not_kept m kv is) kv.slot (decode (access_of kv.field_ty) q.0) q.3);
      }
    where
      turned : (m : ℕ) → (name ≡ m → ⊥) → (o : Option ℕ) (d : Value) → IsHeldAs homes s.top.values m o d
          → IsHeldAs homes env m o d
      turned m ne None d q = subst (λ (z : Value). IsValue homes z d) (sym (other_value m ne)) q
      turned m ne (Some root) d q = subst (λ (z : Value). IsOffsetOf z d) (sym (other_value m ne)) q

  pub gone_now : AreGone X order env
  gone_now = record {
    values = λ m kv is.
        ⊎_elim (λ c. inl c) (λ e. inr (other_value m (not_kept m kv is) ∙ e)) (way.gone.values m kv is);
    links = λ m cell e none. other_value m (not_celled m cell e) ∙ way.gone.links m cell e none;
  }

  -- ---- the step of the first run

  abbrev pub stepped : State
  stepped = record s { world = w; top = record s.top { at = s.top.at + 1; values = env; slots = slot ∷ s.top.slots } }

  pub step_is : renewed_step g s
      ≡ renew_after g stepped l.from label
      (renewed_from (g.flags s.top.func) (function_at g.given.code s.top.func) (s.top.at + 1))
  step_is =
      slot_step b g given s name ty align h.here
      ∙ ap (λ (c : Bool). renewed_slot g (record s {
        world = record s.world {
          memory = s.world.memory ++ new_block (ends_first c (has_markers (edged X) name)) size align Kind.Slot ∷ [];
        };
        top = record s.top { at = s.top.at + 1; values = env };
      }) slot s.top.mode) h.flagged
      ∙ ap (renewed_slot g (record s { world = w; top = record s.top { at = s.top.at + 1; values = env } }) slot) h.mode
