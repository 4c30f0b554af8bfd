-- The framed run makes blocks of its own, and one of its instances has another status: the rest stays related.
use Rattle.std.proofs.Common.{◌≡◌, ◌<◌, ◌≤◌, ◌∷◌, ◌++◌, List, Option, arith, length, refl, subst, sym, true, ℕ, ⊎_elim}
use Rattle.pass_frames_steps.proofs.ir_laws.facts.Lists.{get_before, get_within}
use Rattle.pass_frames_steps.proofs.moved.Rest.{instance_on}
use Rattle.pass_frames_steps.proofs.stepping.Rest.{got, seen_known}
use Rattle.pass_frames_steps.proofs.stepping.Same.{fields_kept}
use Rattle.pass_frames_steps.specs.Framings.{IsFraming}
use Rattle.pass_frames_steps.specs.Moved.{IsSamePlace, MovesRest}
use Rattle.pass_frames_steps.specs.Places.{Framing}
use Rattle.pass_frames_steps.specs.Related.{AreBuiltOf, AreFieldsRight, AreInstances, AreMates, Building, HasFields, IsFreeOf, instance_in, is_coroutine}
use Rattle.pass_frames_steps.specs.run_framed.Framed.{frame_rights}
use Rattle.pass_frames_steps.proofs.run_laws.access.Held.{grown_held}
use Rattle.pass_frames_steps.proofs.run_laws.transfer.Muted.{muted_length}
use Rattle.pass_frames_steps.specs.run_laws.access.Lines.{Holds}
use Rattle.pass_frames_steps.specs.run_laws.memory.Pointers.{home_of}
use Rattle.pass_frames_steps.specs.run_laws.transfer.Muted.{muted}
use Rattle.pass_frames_steps.specs.run_laws.transfer.Places.{AreThere}
use Rattle.pass_frames_steps.specs.run_laws.transfer.Transfer.{AreOver}
use Rattle.pass_frames_steps.specs.run_memory.Memory.{Rights, owner_rights}
use Rattle.pass_frames_steps.specs.run_memory.declared.block.Byte.{Byte}
use Rattle.pass_frames_steps.specs.run_memory.declared.block.MemoryBlock.{MemoryBlock}
use Rattle.pass_frames_steps.specs.run_source.declared.state.Activation.{Activation}
use Rattle.pass_frames_steps.specs.run_source.declared.state.Instance.{Instance}
use Rattle.pass_frames_steps.specs.run_source.declared.state.Mode.{Mode}
use Rattle.pass_frames_steps.specs.run_source.declared.state.State.{State}
use Rattle.pass_frames_steps.specs.run_step.Values.{Env}
use Rattle.pass_frames_steps.specs.run_step.declared.world.World.{World}
use Rattle.pass_frames_steps.proofs.run_laws.transfer.Places.{grown as target_grown}

module _ (b : Building) (s t : State) (r : AreBuiltOf b s t)
    (framings : (func : ℕ) → is_coroutine b func ≡ true → IsFraming (b.framing func)) (ys : List Instance)
    (rights_are : frame_rights b.given ys ≡ frame_rights b.given t.instances)
    (places_are : (o : Option ℕ) → IsSamePlace (instance_in t.instances o) (instance_in ys o))
    (news : List MemoryBlock) where
  abbrev pub R : Rights
  R = frame_rights b.given t.instances

  abbrev pub Q : Rights
  Q = frame_rights b.given ys

  abbrev pub u : World
  u = record t.world { memory = t.world.memory ++ news }

  -- ---- memories

  pub held_grown : (e o most : ℕ) (bytes : List Byte) → Holds R t.world.memory e o most bytes
      → Holds Q u.memory e o most bytes
  held_grown e o most bytes h =
      subst (λ (q : Rights). Holds q u.memory e o most bytes) (sym rights_are)
      (grown_held R t.world.memory news e o most bytes h)

  pub seen_there : AreThere r.homes t.world.memory
  seen_there n seen =
      let lt : n < length r.homes = seen_known r.homes n seen in
      let known : length r.homes ≡ length s.world.memory = r.known in
      let long : length (muted r.hides s.world.memory) ≡ length s.world.memory = muted_length r.hides s.world.memory in
      let x = got (muted r.hides s.world.memory) n (omega (arith, lt, known, long)) in
      let h = r.world.bounds.each n x.0 seen x.1 in
      (h.block, h.there)

  pub over_grown : AreOver owner_rights Q r.homes r.hides (λ d. d) s.world u
  over_grown =
      let st = target_grown owner_rights R r.homes (muted r.hides s.world.memory) t.world.memory news seen_there
      (record { memory = r.world.memory; nulls = r.world.nulls; bounds = r.world.bounds }) in
      subst (λ (q : Rights). AreOver owner_rights q r.homes r.hides (λ d. d) s.world u) (sym rights_are)
      (record {
        memory = st.memory;
        nulls = st.nulls;
        bounds = st.bounds;
        events = r.world.events;
        answers = r.world.answers;
        allocs = r.world.allocs;
      })

  pub mates_grown : AreMates r.homes s.world.memory u.memory
  mates_grown = record {
    whole = r.mates.whole;
    each = λ n k z e home.
        let mate = r.mates.each n k z e home in
        (mate.0, get_before t.world.memory news k (record z { bytes = mate.0 }) mate.1);
    alone = r.mates.alone;
  }

  -- in a block that is still to come nothing of the source stands
  pub free_new : (e : ℕ) → length t.world.memory ≤ e → IsFreeOf r.homes r.hides s.world.memory e
  free_new e le n x there either at = ⊎_elim
      (λ seen.
      let z = seen_there n seen in
      let lt : (home_of r.homes n).block < length t.world.memory =
      get_within t.world.memory (home_of r.homes n).block z.0 z.1 in
      omega (arith, lt, le, at))
      (λ live.
      let z = r.world.memory.each n x there live in
      let lt : (home_of r.homes n).block < length t.world.memory =
      get_within t.world.memory (home_of r.homes n).block z.block z.there in
      omega (arith, lt, le, at)) either

  -- ---- fields

  fields_grown : (x : Framing) (n : ℕ) (env : Env) (block start : ℕ) (mode : Mode)
      → HasFields x r.homes R t.world.memory n env block start mode
      → HasFields x r.homes Q u.memory n env block start mode
  fields_grown x n env block start mode h =
      subst (λ (q : Rights). HasFields x r.homes q u.memory n env block start mode) (sym rights_are)
      (fields_kept R t.world.memory u.memory block
      (λ o most bytes k. grown_held R t.world.memory news block o most bytes k) x r.homes n env start mode h)

  pub right_grown : (x : Framing) (n : ℕ) (env : Env) (block start : ℕ)
      → AreFieldsRight x r.homes R t.world.memory n env block start
      → AreFieldsRight x r.homes Q u.memory n env block start
  right_grown x n env block start = fields_grown x n env block start Mode.Plain

  -- ---- the rest

  pub moves_grown : MovesRest b s t r (s.top ∷ s.below) (t.top ∷ t.below) r.homes r.hides ys s.world u
  moves_grown = record {
    framings = framings;
    seen = record { each = λ k e. refl };
    slots = λ a l slot e. (refl, refl);
    owners = λ c l is. places_are c.instance;
    cells = λ c l is slot e name. held_grown slot.block;
    returned = λ a c p q j l is own now from h.
        let place = subst (λ (z : Option Instance × Option Instance). IsSamePlace z.0 z.1) (λ k. (own k, now k))
        (places_are c.instance) in
        subst (λ (z : ℕ × ℕ). HasFields (b.framing a.func) r.homes Q u.memory j a.values z.0 z.1 a.mode)
        (λ k. (sym place.0 k, sym place.1 k))
        (fields_grown (b.framing a.func) j a.values p.block p.start a.mode h);
    free = λ c l is slot e name k. k;
    ahead = λ x c v align ty l k. record {
      block = k.block;
      address = k.address;
      own = k.own;
      free = k.free;
      bytes = k.bytes;
      sized = k.sized;
      there = get_before t.world.memory news k.block _ k.there;
    };
  }

  -- an instance that stays
  pub instance_grown : (xs : List Instance) (top : Activation) (p q : Instance) → AreInstances b r.homes t p q
      → AreInstances b r.homes (record t { world = u; instances = ys; top = top }) p q
  instance_grown xs top p q h =
      instance_on b s t r (s.top ∷ s.below) (t.top ∷ t.below) r.homes r.hides xs ys s.world u moves_grown top p q
      (λ point env is live n numbered f. right_grown (b.framing p.coroutine) n env q.block q.start f) h
