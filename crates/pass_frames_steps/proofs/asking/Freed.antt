-- coro.free marks the instance released in both runs, and gives what stands for its frame address.
use Rattle.std.proofs.Common.{◌≡◌, ◌<◌, ◌||◌, ◌==◌, ◌∙◌, if◌then◌else◌, Bool, List, None, Ok, Option, Some, ap, arith, false, length, not, refl, subst, sym, true, ℕ}
use Rattle.std.specs.Option.{option_map_or}
use Rattle.std.specs.Prelude.{slice_set}
use Rattle.pass_frames_code.specs.ir_model.Ty.{Ty}
use Rattle.pass_frames_code.specs.ir_model.declared.operand.Arg.{Arg}
use Rattle.pass_frames_code.specs.ir_model.declared.operand.Intrinsic.{Intrinsic}
use Rattle.pass_frames_steps.proofs.asking.Found.{address_stands, own_found}
use Rattle.pass_frames_steps.proofs.here.Intrinsics.{S, intrinsic_followed, now, same_world, us, width}
use Rattle.pass_frames_code.proofs.moved.Instances.{instance_stays, one_homes, one_related, set_same}
use Rattle.pass_frames_code.proofs.stepping.Rest.{got, seen_known}
use Rattle.pass_frames_code.specs.Asking.{AreFound, AreInstancesPlaced, IsAtFreeing, IsFoundBeside, released_in}
use Rattle.pass_frames_code.specs.Followed.{IsFollowed}
use Rattle.pass_frames_code.specs.Framings.{IsFraming}
use Rattle.pass_frames_code.specs.Lined.{lined}
use Rattle.pass_frames_code.specs.Related.{AreBuiltOf, AreInstances, Building, IsStatus, is_coroutine}
use Rattle.pass_frames_code.specs.Stepping.{AreGiven}
use Rattle.pass_frames_code.specs.pass_renewed_proof.Renewed.{RenewedGiven, continue_renewed}
use Rattle.pass_frames_code.specs.run_access_worked.Frames.{IsSameFrame}
use Rattle.pass_frames_code.specs.run_framed.Framed.{framed_coro, freed_address, is_given}
use Rattle.pass_frames_code.specs.run_laws.memory.Pointers.{Home, IsValue, home_of}
use Rattle.pass_frames_code.specs.run_memory.Memory.{same_kind}
use Rattle.pass_frames_code.specs.run_memory.declared.block.Kind.{Kind}
use Rattle.pass_frames_code.specs.run_memory.declared.block.MemoryBlock.{MemoryBlock}
use Rattle.pass_frames_code.specs.run_memory.declared.pointer.Pointer.{Pointer}
use Rattle.pass_frames_code.specs.run_memory.declared.pointer.Value.{Value}
use Rattle.pass_frames_code.specs.run_source.Source.{change_own, coro, frame_address, release}
use Rattle.pass_frames_code.specs.run_source.State.{frame_address_of, gives, own_instance}
use Rattle.pass_frames_code.specs.run_source.declared.state.Instance.{Instance}
use Rattle.pass_frames_code.specs.run_source.declared.state.State.{State}
use Rattle.pass_frames_code.specs.run_source.declared.state.Status.{Status}
use Rattle.pass_frames_code.specs.run_step.Step.{Context, Coro, Work, intrinsic_call}
use Rattle.pass_frames_code.specs.run_step.Values.{arg_values}
use Rattle.pass_frames_code.specs.run_step.declared.world.World.{World}

-- ---- the instance is released

pub release_is : (s : State) → release s ≡ record s { instances = released_in s.instances (own_instance s) }
release_is s = on (own_instance s)
  where
    on : (o : Option (ℕ × Instance))
        → change_own s (λ (x : Instance). record x { released = true }) o
        ≡ record s { instances = released_in s.instances o }
    on None = refl
    on (Some p) = refl

module _ (b : Building) (s t : State) (r : AreBuiltOf b s t)
    (framings : (func : ℕ) → is_coroutine b func ≡ true → IsFraming (b.framing func)) where
  status_turned : (z : State) (x y : Instance) (q u : Status) → IsStatus b r.homes z x y q u
      → IsStatus b r.homes z (record x { released = true }) (record y { released = true }) q u
  status_turned z x y Status.Running u h = h
  status_turned z x y Status.Finished u h = h
  status_turned z x y (Status.Suspended p env) u h = h

  -- both release it, and all homes stay
  pub record AreReleased (o q : Option (ℕ × Instance)) : Type 0 where
    pub related : AreBuiltOf b (record s { instances = released_in s.instances o })
        (record t { instances = released_in t.instances q })
    pub same : related.homes ≡ r.homes

  module _ (p : ℕ × Instance) (q : Option (ℕ × Instance)) (h : IsFoundBeside b r.homes s t p.0 p.1 q) where
    frame : IsSameFrame h.beside (record h.beside { released = true })
    frame = record { coroutine = refl; block = refl; start = refl }

    abbrev turned : List Instance
    turned = slice_set t.instances p.0 (record h.beside { released = true })

    old : AreInstances b r.homes (record t { instances = turned }) p.1 h.beside
    old =
        instance_stays b s t r framings turned
        (set_same b s t r framings p.0 p.1 h.beside (record p.1 { released = true })
        (record h.beside { released = true }) h.source h.target frame) turned p.1 h.beside h.instances

    now_released : AreInstances b r.homes (record t { instances = turned }) (record p.1 { released = true })
        (record h.beside { released = true })
    now_released = record {
      coroutine = old.coroutine;
      is_coroutine = old.is_coroutine;
      block = old.block;
      start = old.start;
      status = status_turned (record t { instances = turned }) p.1 h.beside p.1.status h.beside.status old.status;
      last_save = old.last_save;
      released = refl;
      freed = old.freed;
      slots = λ slot e. let f = old.slots slot e in record {
        position = f.position;
        position_is = f.position_is;
        home = f.home;
      };
      no_slots = old.no_slots;
    }

    one_released : AreReleased (Some p) (Some (p.0, h.beside))
    one_released = record {
      related = one_related b s t r framings p.0 p.1 h.beside (record p.1 { released = true })
          (record h.beside { released = true }) h.source h.target frame now_released;
      same = one_homes b s t r framings p.0 p.1 h.beside (record p.1 { released = true })
          (record h.beside { released = true }) h.source h.target frame now_released;
    }

  pub released : (o q : Option (ℕ × Instance)) → AreFound b r.homes s t o q → AreReleased o q
  released None q h = subst (AreReleased None) (sym h) (record { related = r; same = refl })
  released (Some p) q h = subst (AreReleased (Some p)) (sym h.is) (one_released p q h)

  -- ---- its address

  module _ (placed : AreInstancesPlaced s) where
    not_given : (p : ℕ × Instance) (q : Option (ℕ × Instance)) (h : IsFoundBeside b r.homes s t p.0 p.1 q)
        → is_given t.world.memory h.beside ≡ false
    not_given p q h =
        let seen : (home_of r.homes p.1.block).is_seen ≡ true = ap (λ (z : Home). z.is_seen) h.instances.block in
        let lt : p.1.block < length r.homes = seen_known r.homes p.1.block seen in
        let known : length r.homes ≡ length s.world.memory = r.known in
        let z = got s.world.memory p.1.block (omega (arith, lt, known)) in
        let mate = r.mates.each p.1.block h.beside.block z.0 z.1 h.instances.block in
        (λ j. option_map_or (λ (x : MemoryBlock). same_kind x.kind Kind.Stack) (mate.1 j) false
        || not (h.beside.start == 0))
        ∙ ap (λ (k : Kind). same_kind k Kind.Stack || not (h.beside.start == 0))
        (placed.heaps p.0 p.1 z.0 h.source z.1)
        ∙ ap (λ (n : ℕ). not (n == 0)) (h.instances.start ∙ placed.starts p.0 p.1 h.source)

    pub freed_stands : (o q : Option (ℕ × Instance)) → AreFound b r.homes s t o q
        → IsValue r.homes (frame_address o) (freed_address t.world.memory q)
    freed_stands None q h = tt
    freed_stands (Some p) q h =
        subst (IsValue r.homes (frame_address (Some p))) (same q h) (address_stands b s t r placed (Some p) q h)
      where
        same : (q : Option (ℕ × Instance)) → IsFoundBeside b r.homes s t p.0 p.1 q
            → frame_address q ≡ freed_address t.world.memory q
        same q h =
            ap frame_address h.is
            ∙ ap (λ (k : Bool). if k then Value.Ptr Pointer.Null else frame_address_of h.beside)
            (sym (not_given p q h))
            ∙ ap (freed_address t.world.memory) (sym h.is)

-- ---- the step

module _ (b : Building) (g : RenewedGiven) (given : AreGiven b g) (s t : State) (r : AreBuiltOf b s t)
    (result : Option ℕ) (must_tail : Bool) (ty : Option Ty) (args : List Arg)
    (h : IsAtFreeing b g s result must_tail ty args) where
  acts : (c : Context) (w : Work) (args : List Arg) (vs : List Value)
      → intrinsic_call c w Intrinsic.CoroFree result args vs ≡ Coro Intrinsic.CoroFree args result
  acts c w args vs = refl

  abbrev k : ℕ
  k = width b g given s t r Intrinsic.CoroFree result must_tail ty args h.here acts refl

  abbrev M : Work
  M = S b g given s t r Intrinsic.CoroFree result must_tail ty args h.here acts refl

  abbrev xs : List Instance
  xs = released_in s.instances (own_instance s)

  abbrev ys : List Instance
  ys = released_in t.instances (own_instance t)

  both : AreReleased b s t r given.framings (own_instance s) (own_instance t)
  both = released b s t r given.framings (own_instance s) (own_instance t) (own_found b s t r)

  abbrev v : Value
  v = frame_address (own_instance s)

  abbrev z : Value
  z = freed_address t.world.memory (own_instance t)

  stands : IsValue both.related.homes v z
  stands =
      subst (λ (homes : List Home). IsValue homes v z) (sym both.same) (freed_stands b s t r given.framings h.placed (own_instance s) (own_instance t)
      (own_found b s t r))

  source : coro g.given (continue_renewed g) s Intrinsic.CoroFree args (arg_values g.given.code s.top.values args) result
      ≡ Ok (gives (record s { instances = xs }) result v)
  source = ap (λ (p : State). Ok (gives p result v)) (release_is s)

  target : framed_coro b.given (lined t k M) Intrinsic.CoroFree
      (now b g given s t r Intrinsic.CoroFree result must_tail ty args h.here acts refl)
      (us b g given s t r Intrinsic.CoroFree result must_tail ty args h.here acts refl) result
      ≡ Ok (gives (lined (record t { instances = ys }) k M) result z)
  target =
      ap (λ (p : State). Ok (gives p result (freed_address M.world.memory (own_instance t))))
      (release_is (lined t k M))
      ∙ ap (λ (w : World). Ok (gives (lined (record t { instances = ys }) k M) result
      (freed_address w.memory (own_instance t))))
      (same_world b g given s t r Intrinsic.CoroFree result must_tail ty args h.here acts refl)

  pub coroutine_frees : IsFollowed b g s t
  coroutine_frees =
      intrinsic_followed b g given s t r Intrinsic.CoroFree result must_tail ty args h.here acts refl xs ys both.related v z
      stands
      source target h.storable
