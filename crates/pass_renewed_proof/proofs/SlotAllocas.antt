-- The alloca of a slot that may be made anew makes a block in both runs: in the second it lives, and is the
-- activation's.
use Rattle.std.proofs.Common.{◌≡◌, ℕ, zero, suc, ◌+◌, ◌<◌, ◌^◌, inl, inr, Bool, true, false, List, [], ◌∷◌}
use Rattle.std.proofs.Common.{◌++◌, length, Some, None, refl, sym, ap, ◌∙◌, subst, ⊎_elim, arith}
use Rattle.std.proofs.Common.{if◌then◌else◌}
use Rattle.std.proofs.lemmas.Bool.{false≢true}
use Rattle.std.proofs.lemmas.List.{length-replicate}
use Rattle.std.specs.Prelude.{IsTrue, slice_get, slice_set}
use Rattle.pass_kept_proof.specs.ir_model.Layout.{size_of}
use Rattle.pass_kept_proof.specs.ir_model.Names.{function_at}
use Rattle.pass_kept_proof.specs.ir_model.Ty.{Ty}
use Rattle.pass_kept_proof.specs.ir_model.declared.instr.Instr.{Instr}
use Rattle.pass_kept_proof.specs.ir_model.declared.module.Function.{Function}
use Rattle.pass_kept_proof.specs.ir_model.declared.module.Module.{Module}
use Rattle.pass_kept_proof.specs.ir_model.declared.operand.Intrinsic.{Intrinsic}
use Rattle.pass_kept_proof.specs.ir_paths.Paths.{IsPath, Leads}
use Rattle.pass_kept_proof.specs.ir_paths.declared.point.Point.{Point}
use Rattle.frame_classes.specs.Alive.{MayBeAlive, Unmarked, markers_of}
use Rattle.run_laws.proofs.memory.Written.{same_some}
use Rattle.run_laws.specs.memory.Pointers.{Home}
use Rattle.run_laws.specs.memory.Standing.{blank_block}
use Rattle.pass_kept_proof.specs.run_memory.Memory.{end, ended, fresh, is_live, same_kind}
use Rattle.pass_kept_proof.specs.run_memory.declared.block.Byte.{Byte}
use Rattle.pass_kept_proof.specs.run_memory.declared.block.Kind.{Kind}
use Rattle.pass_kept_proof.specs.run_memory.declared.block.Life.{Life}
use Rattle.pass_kept_proof.specs.run_memory.declared.block.MemoryBlock.{MemoryBlock}
use Rattle.pass_kept_proof.specs.run_source.Source.{is_over}
use Rattle.pass_kept_proof.specs.run_source.State.{settled, with_instance, with_slots}
use Rattle.pass_kept_proof.specs.run_source.declared.state.Instance.{Instance}
use Rattle.pass_kept_proof.specs.run_source.declared.state.State.{State}
use Rattle.pass_kept_proof.specs.run_step.Step.{alloca_kind, has_markers}
use Rattle.pass_kept_proof.specs.run_step.Values.{pointer_to, with_value}
use Rattle.pass_kept_proof.specs.run_step.declared.world.World.{World}
use Rattle.pass_kept_proof.specs.SuspendRules.{IsCallAt}
use Rattle.pass_renewed_proof.proofs.Ahead.{leads_more, next_edge}
use Rattle.pass_renewed_proof.proofs.Anew.{updated_here}
use Rattle.pass_renewed_proof.proofs.Grown.{home_now}
use Rattle.pass_renewed_proof.proofs.Left.{call_listed}
use Rattle.pass_renewed_proof.proofs.Listing.{contains_first, first_listed, first_more, instance_beside}
use Rattle.pass_renewed_proof.proofs.Listing.{instances_grown, instances_set, one_grown, set_here, worlds_beside}
use Rattle.pass_renewed_proof.proofs.Made.{get_last}
use Rattle.pass_renewed_proof.proofs.NewName.{named_beside}
use Rattle.pass_renewed_proof.proofs.NewSlot.{slot_carried, slot_entered, slot_kept_on, slot_stands}
use Rattle.pass_renewed_proof.proofs.Onward.{calm, left_next}
use Rattle.pass_renewed_proof.proofs.Places.{changed_last}
use Rattle.pass_renewed_proof.proofs.Unmarked.{unmarked}
use Rattle.pass_renewed_proof.specs.Ahead.{IsBehindSuspendCall}
use Rattle.pass_renewed_proof.specs.Beside.{AreInstancesBeside, Begun, Early, IsBeside, IsInstanceBeside}
use Rattle.pass_renewed_proof.specs.Beside.{IsOverOf, place_in}
use Rattle.pass_renewed_proof.specs.Ledger.{AreEntered, IsFresh, IsOfAlloca, Ledger, LivesIn, Seat, slot_ledger}
use Rattle.pass_renewed_proof.specs.Left.{AtEnd, AtSuspend, AtSwitch, Behind, Between, IsLeftAt, IsLeftBy, behind}
use Rattle.pass_renewed_proof.specs.Making.{IsAllocaOfSlot, slot_block}
use Rattle.pass_renewed_proof.specs.Muted.{muted}
use Rattle.pass_renewed_proof.specs.Places.{AreStanding, IsBlank, IsReady, unseen}
use Rattle.pass_renewed_proof.specs.Renewed.{Flags, Roots}
use Rattle.pass_renewed_proof.specs.SlotRules.{KeepsSlots}
use Rattle.pass_renewed_proof.specs.Way.{WasAlive}
use Rattle.pass_kept_proof.specs.rule_windows.Points.{ends}
use Rattle.pass_kept_proof.specs.rule_windows.Sets.{IsAfterEnd, RunsOut}
use Rattle.run_laws.specs.embedded.Making.{whole_home}

pub set_same : {A : Type 0} (xs : List A) (i : ℕ) (x : A) → slice_get xs i ≡ Some x → slice_set xs i x ≡ xs
set_same [] i x e = refl
set_same (z ∷ xs) zero x e = ap (λ y. y ∷ xs) (sym (same_some z x e))
set_same (z ∷ xs) (suc i) x e = ap (λ ys. z ∷ ys) (set_same xs i x e)

-- a path is one without points to avoid
any_path : (f : Function) (avoided : List Point) (p : Point) (between : List Point) (q : Point)
    → IsPath f avoided p between q → IsPath f [] p between q
any_path f avoided p [] q h = h
any_path f avoided p (v ∷ between) q h = (h.0, refl, any_path f avoided v between q h.2)

-- a path that another one goes on
leads_along : (f : Function) (r p : Point) → Leads f [] r p → (between : List Point) (q : Point)
    → IsPath f [] p between q → Leads f [] r q
leads_along f r p to [] q path = leads_more f [] r p q to refl path
leads_along f r p to (v ∷ between) q path = leads_along f r v (leads_more f [] r p v to refl path.0) between q path.2

-- it is dead at first if it has markers
pub made_memory : (m : Module) (s : State) (ty : Ty) (align : ℕ) (u : Bool) (n : List MemoryBlock)
    → (if u then end (fresh n (size_of m ty) align (alloca_kind (function_at m s.top.func))) (length n) else fresh n
    (size_of m ty) align (alloca_kind (function_at m s.top.func))) ≡ n ++ slot_block m s ty align u ∷ []
made_memory m s ty align true n = changed_last n (blank_block (size_of m ty) align (alloca_kind (function_at m
    s.top.func))) ended
made_memory m s ty align false n = refl

module _ (m : Module) (flags : Flags) (roots : Roots) (keeps : (func : ℕ)
    → KeepsSlots m (function_at m func) (flags func) (roots func)) (s t : State) (beside : IsBeside m flags roots s t)
    (a : ℕ) (ty : Ty) (align : ℕ) (is : IsAllocaOfSlot m flags s.top a ty align) (small : size_of m ty < 2 ^ 64) where
  abbrev l : Ledger
  l = beside.ledger

  abbrev f : Function
  f = function_at m s.top.func

  abbrev b : ℕ
  b = length s.world.memory

  abbrev c : ℕ
  c = length t.world.memory

  abbrev kind : Kind
  kind = alloca_kind (function_at m s.top.func)

  -- the block of the first run
  abbrev first : Bool → MemoryBlock
  first u = slot_block m s ty align u

  pub writable : same_kind (alloca_kind (function_at m s.top.func)) Kind.Constant ≡ false
  writable = on f.coroutine
    where
      on : (u : Bool) → same_kind (if u then Kind.Slot else Kind.Stack) Kind.Constant ≡ false
      on true = refl
      on false = refl

  pub other : same_kind (alloca_kind (function_at m s.top.func)) Kind.Allocator ≡ false
  other = on f.coroutine
    where
      on : (u : Bool) → same_kind (if u then Kind.Slot else Kind.Stack) Kind.Allocator ≡ false
      on true = refl
      on false = refl

  abbrev seat : Seat
  seat = record { func = s.top.func; alloca = a; depth = length s.below; instance = s.top.instance }

  abbrev k : Ledger
  k = slot_ledger beside.ledger (length s.world.memory) (length t.world.memory) (length s.below) (record {
    func = s.top.func;
    alloca = a;
    depth = length s.below;
    instance = s.top.instance;
  })

  pub st : AreStanding beside.ledger.homes (muted beside.ledger.hides s.world.memory) t.world.memory
  st = record { memory = beside.world.memory; nulls = beside.world.nulls; bounds = beside.world.bounds }

  pub shape : (u : Bool) → IsOfAlloca m (function_at m s.top.func) a (slot_block m s ty align u)
  shape u = record {
    place = place_in s.top;
    ty = ty;
    align = align;
    stands = is.here;
    has_size = refl;
    small = small;
    has_align = refl;
  }

  module _ (u : Bool) where
    abbrev w : World
    w = record s.world { memory = s.world.memory ++ first u ∷ [] }

    abbrev v : World
    v = record t.world {
      memory = fresh t.world.memory (size_of m ty) align (alloca_kind (function_at m s.top.func));
    }

    pub entered : AreEntered m (slot_ledger beside.ledger (length s.world.memory) (length t.world.memory) (length
        s.below) seat) (s.world.memory ++ first u ∷ []) (fresh t.world.memory (size_of m ty) align (alloca_kind
        (function_at m s.top.func)))
    entered = slot_entered m l s.world.memory t.world.memory (first u) kind (length s.below) seat st beside.entered
        small refl writable other (shape u)

    -- both have the block, and nobody has its address
    abbrev pub made : IsBeside m flags roots (record s { world = record s.world { memory = s.world.memory ++ first u ∷ [] } })
        (record t {
          world = record t.world {
            memory = fresh t.world.memory (size_of m ty) align (alloca_kind (function_at m s.top.func));
          };
        })
    made =
        let stands = slot_stands m l s.world.memory t.world.memory (first u) kind (length s.below) seat st
        beside.entered small refl writable other (shape u) in
        worlds_beside m flags roots s t beside k w v
        (slot_carried m l s.world.memory t.world.memory (first u) kind (length s.below) seat st beside.entered small
        refl writable other (shape u))
        (slot_kept_on m l s.world.memory t.world.memory (first u) kind (length s.below) seat st beside.entered small
        refl writable other (shape u))
        (record {
          memory = stands.memory;
          nulls = stands.nulls;
          bounds = stands.bounds;
          events = beside.world.events;
          answers = beside.world.answers;
          allocs = beside.world.allocs;
        }) entered

    pub seat_is : k.seats (length s.world.memory) ≡ Some seat
    seat_is = updated_here l.seats (length s.world.memory) (Some seat)

    pub owner_is : k.owners (length t.world.memory) ≡ Some (length s.below)
    owner_is = updated_here l.owners (length t.world.memory) (Some (length s.below))

    pub tenant_is : k.tenants (length t.world.memory) ≡ Some (length s.world.memory)
    tenant_is = updated_here l.tenants (length t.world.memory) (Some (length s.world.memory))

    pub fresh_is : IsFresh k (s.world.memory ++ first u ∷ []) (length s.world.memory)
    fresh_is = record {
      unseen = ap (λ (q : Home). q.is_seen) (home_now m l s.world.memory t.world.memory (first u) st beside.entered
          (unseen (whole_home (length t.world.memory))));
      blank = λ z at live. subst IsBlank (same_some (first u) z (sym (get_last
          s.world.memory (first u)) ∙ at)) refl;
    }

    pub ready_is : (z : MemoryBlock) → slice_get (s.world.memory ++ first u ∷ []) (length s.world.memory) ≡ Some z
        → IsReady (fresh t.world.memory (size_of m ty) align (alloca_kind (function_at m s.top.func))) (length
        t.world.memory) z
    ready_is z at = subst (IsReady (t.world.memory ++ blank_block (size_of m ty) align kind ∷ []) (length
        t.world.memory)) (same_some (first u) z (sym (get_last s.world.memory (first u)) ∙ at)) (record {
          block = blank_block (size_of m ty) align kind;
          there = get_last t.world.memory (blank_block (size_of m ty) align kind);
          live = refl;
          owner = refl;
          whole = length-replicate (size_of m ty) Byte.Undefined;
          room = omega arith;
          small = small;
          align = refl;
          writable = writable;
        })

    -- a slot that lives has no markers
    lives_unmarked : u ≡ has_markers (function_at m s.top.func) a → LivesIn (s.world.memory ++ first u ∷ []) (length
        s.world.memory) → markers_of (function_at m s.top.func) a ≡ []
    lives_unmarked e h = unmarked f a (sym e ∙ on u (ap (λ (q : MemoryBlock). is_live q.life) (same_some (first u)
        h.block (sym (get_last s.world.memory (first u)) ∙ h.there)) ∙ h.is_live))
      where
        on : (t : Bool) → is_live (if t then Life.Ended else Life.Live) ≡ true → t ≡ false
        on true h = absurd (false≢true h)
        on false h = refl

    -- ---- before begin

    module _ (marks : u ≡ has_markers (function_at m s.top.func) a) (early : s.top.instance ≡ None) (stays :
        s.top.has_left ≡ false) where
      abbrev listed : IsBeside m flags roots (with_slots (record s {
        world = record s.world { memory = s.world.memory ++ first u ∷ [] };
      }) (record { alloca = a; block = length s.world.memory } ∷ s.top.slots)) (record t {
        world = record t.world {
          memory = fresh t.world.memory (size_of m ty) align (alloca_kind (function_at m s.top.func));
        };
      })
      listed = first_listed m flags roots (record s { world = w }) (record t { world = v }) made (record {
        alloca = a;
        block = length s.world.memory;
      }) (record {
        flagged = is.flagged;
        seat = seat_is ∙ ap (λ o. Some (record seat { instance = o })) early;
      })

      pub early_slot : IsBeside m flags roots (with_slots (settled s (record {
        world = record s.world { memory = s.world.memory ++ first u ∷ [] };
        values = with_value s.top.values a (pointer_to (length s.world.memory));
      })) (record { alloca = a; block = length s.world.memory } ∷ s.top.slots)) (with_slots (settled t (record {
        world = record t.world {
          memory = fresh t.world.memory (size_of m ty) align (alloca_kind (function_at m s.top.func));
        };
        values = with_value t.top.values a (pointer_to (length t.world.memory));
      })) (record { alloca = a; block = length t.world.memory } ∷ t.top.slots))
      early_slot = named_beside m flags roots keeps (with_slots (record s { world = w }) (record {
        alloca = a;
        block = length s.world.memory;
      } ∷ s.top.slots)) (record t { world = v }) listed a ty align (length s.world.memory) (length t.world.memory)
          (record {
            place = is.place;
            here = is.here;
            flagged = is.flagged;
            named = is.named;
          }) (Early early (contains_first _ s.top.slots)) seat_is owner_is tenant_is ready_is fresh_is
          (λ h. inl (early, lives_unmarked marks h)) (λ left h. absurd (false≢true (sym stays ∙ left)))

    -- ---- behind begin

    module _ (marks : u ≡ has_markers (function_at m s.top.func) a) (i : ℕ) (x : Instance) (own : s.top.instance ≡
        Some i) (there : slice_get s.instances i ≡ Some x) (going : is_over x ≡ false) (no_after : s.top.has_left ≡ true
        → IsAfterEnd (function_at m s.top.func) (place_in s.top) → ⊥) where
      abbrev ys : List Instance
      ys = slice_set s.instances i (record x {
        slots = record { alloca = a; block = length s.world.memory } ∷ x.slots;
      })

      module _ (same_func : x.coroutine ≡ s.top.func) where
        number : 0 + i ≡ i
        number = omega arith

        instances : (y : Instance) → slice_get t.instances i ≡ Some y
            → IsInstanceBeside m flags roots k (s.world.memory ++ first u ∷ []) (0 + i) x y
            → AreInstancesBeside m flags roots k (s.world.memory ++ first u ∷ []) 0 ys t.instances
        instances y at h = subst (AreInstancesBeside m flags roots k (s.world.memory ++ first u ∷ []) 0 ys) (set_same
            t.instances i y at) (instances_set m flags roots k (s.world.memory ++ first u ∷ []) 0 s.instances
            t.instances i (record x { slots = record { alloca = a; block = length s.world.memory } ∷ x.slots }) y
            made.instances (first_more m flags roots k (s.world.memory ++ first u ∷ []) (0 + i) x y (record {
              alloca = a;
              block = length s.world.memory;
            }) (record {
              flagged = subst (λ g. IsTrue (flags g a)) (sym same_func) is.flagged;
              depth = length s.below;
              seat = seat_is ∙ ap (λ g. Some (record seat { func = g })) (sym same_func)
                  ∙ ap (λ o. Some (record seat { func = x.coroutine; instance = o })) (own ∙ ap Some (sym number));
            }) (λ over. absurd (false≢true (sym going ∙ over))) h))

        abbrev listed_there : IsBeside m flags roots (record s {
          world = record s.world { memory = s.world.memory ++ first u ∷ [] };
          instances = ys;
        }) (record t {
          world = record t.world {
            memory = fresh t.world.memory (size_of m ty) align (alloca_kind (function_at m s.top.func));
          };
        })
        listed_there =
            let y = instance_beside m flags roots k (s.world.memory ++ first u ∷ []) 0 s.instances t.instances i x
            made.instances there in
            instances_grown m flags roots (record s { world = w }) (record t { world = v }) made ys t.instances
            (one_grown s.instances i x (record { alloca = a; block = length s.world.memory }) there) (instances y.0 y.1
            y.2)

        -- begin leads there without the end between
        runs : RunsOut (function_at m s.top.func) (place_in s.top)
        runs = ⊎_elim
            (λ r. r)
            (λ o. absurd (after_not s.top.has_left refl o.0 o.1))
            (beside.top.begun (λ none. let z : Some i ≡ None = sym own ∙ none in absurd (cc)))
          where
            same_number : {n j : ℕ} → Some n ≡ Some j → n ≡ j
            same_number q = cc

            over_not : IsOverOf s.instances s.top → ⊥
            over_not o =
                let n : o.number ≡ i = same_number (sym o.own ∙ own) in
                let z : o.instance ≡ x = same_some o.instance x (sym o.there ∙ ap (slice_get s.instances) n ∙ there) in
                false≢true (sym going ∙ ap is_over (sym z) ∙ o.over)

            after_not : (z : Bool) → s.top.has_left ≡ z → IsAfterEnd (function_at m s.top.func) (place_in s.top)
                → (s.top.has_left ≡ false → IsOverOf s.instances s.top) → ⊥
            after_not true left after over = no_after left after
            after_not false left after over = over_not (over left)

        -- begin leads there, without regard to the end
        runs_there : Leads (function_at m s.top.func) [] runs.start (place_in s.top)
        runs_there = record {
          between = runs.path.between;
          is_path = any_path f (ends f) runs.start runs.path.between (place_in s.top) runs.path.is_path;
        }

        -- where it has left, it is between a save and its suspend, to which a path leads
        was_alive : s.top.has_left ≡ true → LivesIn (s.world.memory ++ first u ∷ []) (length s.world.memory)
            → WasAlive (function_at m s.top.func) a (behind (place_in s.top))
        was_alive left h = on (beside.top.left left)
          where
            to_suspend : (z : Point) → IsCallAt Intrinsic.CoroSuspend (function_at m s.top.func) z
                → IsLeftBy (function_at m s.top.func) z (place_in s.top)
                → Leads (function_at m s.top.func) [] runs.start z
            to_suspend z call (Between k c es w) = leads_along f runs.start (place_in s.top) runs_there
                w.to_suspend.between z (any_path f (k ∷ z ∷ []) (place_in s.top) w.to_suspend.between z
                w.to_suspend.is_path)
            to_suspend z call (AtSuspend at)
                = absurd (is.place.no_suspend (subst (IsCallAt Intrinsic.CoroSuspend f) (sym at) call))
            to_suspend z call (AtSwitch at) = absurd (is.place.no_switch (subst (λ (q : Point). IsBehindSuspendCall f
                q.block q.at) (sym at) (record { before = z.at; next = refl; is_suspend = call })))
            to_suspend z call (AtEnd at first) = absurd (is.place.no_end at first)
            to_suspend z call (Behind after) = absurd (no_after left after)

            on : IsLeftAt (function_at m s.top.func) (place_in s.top)
                → WasAlive (function_at m s.top.func) a (behind (place_in s.top))
            on by = record {
              suspend = by.suspend;
              is_suspend = call_listed f Intrinsic.CoroSuspend by.suspend by.is_call;
              is_alive = Unmarked runs.start (lives_unmarked marks h) runs.is_start (to_suspend by.suspend by.is_call
                  by.by);
              by = left_next f by.suspend (place_in s.top) (Instr.Alloca a ty align) is.here (calm f (place_in s.top)
                  is.place) by.is_call by.by;
            }

        alive_there : LivesIn (s.world.memory ++ first u ∷ []) (length s.world.memory)
            → MayBeAlive (function_at m s.top.func) a (behind (place_in s.top))
        alive_there h = Unmarked runs.start (lives_unmarked marks h) runs.is_start (leads_more f [] runs.start (place_in
            s.top) (behind (place_in s.top)) runs_there refl (next_edge f s.top.block s.top.at (Instr.Alloca a ty align) is.here))

        pub begun_slot : IsBeside m flags roots (with_instance (settled s (record {
          world = record s.world { memory = s.world.memory ++ first u ∷ [] };
          values = with_value s.top.values a (pointer_to (length s.world.memory));
        })) i (record x { slots = record { alloca = a; block = length s.world.memory } ∷ x.slots })) (with_slots
            (settled t (record {
              world = record t.world {
                memory = fresh t.world.memory (size_of m ty) align (alloca_kind (function_at m s.top.func));
              };
              values = with_value t.top.values a (pointer_to (length t.world.memory));
            })) (record { alloca = a; block = length t.world.memory } ∷ t.top.slots))
        begun_slot = named_beside m flags roots keeps (record s { world = w; instances = ys }) (record t { world = v })
            listed_there a ty align (length s.world.memory) (length t.world.memory) (record {
              place = is.place;
              here = is.here;
              flagged = is.flagged;
              named = is.named;
            }) (Begun i (record x { slots = record { alloca = a; block = length s.world.memory } ∷ x.slots }) own
            (set_here s.instances i x _ there) (contains_first _ x.slots)) seat_is owner_is tenant_is ready_is fresh_is
            (λ h. inr (alive_there h)) was_alive
