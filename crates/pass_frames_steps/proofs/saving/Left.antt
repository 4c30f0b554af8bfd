-- Where only the block of the frame of a running instance is written, the rest is left.
use Rattle.std.proofs.Common.{◌≡◌, ◌<◌, ◌∙◌, List, None, Option, Some, ap, arith, false, length, refl, subst, sym, true, ℕ, ⊎_elim}
use Rattle.std.specs.Prelude.{slice_get}
use Rattle.pass_frames_code.specs.flow_solver.Paths.{IsListed}
use Rattle.pass_frames_code.specs.ir_base.declared.outcome.Outcome.{Outcome}
use Rattle.pass_frames_code.proofs.ir_laws.facts.Truth.{is_number}
use Rattle.pass_frames_code.specs.ir_model.Ty.{Ty}
use Rattle.pass_frames_code.specs.ir_paths.declared.point.Point.{Point}
use Rattle.pass_frames_code.proofs.followed.Assembly.{events_same, other_instance}
use Rattle.pass_frames_code.proofs.moved.Rest.{instance_on}
use Rattle.pass_frames_code.proofs.stepping.Rest.{seen_known, stood_apart}
use Rattle.pass_frames_code.proofs.stepping.Stored.{free_below, is_block}
use Rattle.pass_frames_code.specs.Followed.{IsOn}
use Rattle.pass_frames_code.specs.Framings.{IsFraming}
use Rattle.pass_frames_code.specs.Moved.{IsSamePlace, MovesRest}
use Rattle.pass_frames_code.specs.Places.{Framing}
use Rattle.pass_frames_code.specs.Related.{AreBuiltOf, AreFieldsRight, AreInstances, AreMates, Building, IsAhead, IsFreeOf, IsStatus, instance_in, is_coroutine, returned_from}
use Rattle.pass_frames_code.specs.run_framed.Framed.{frame_rights}
use Rattle.pass_frames_code.specs.run_laws.access.Lines.{Holds}
use Rattle.pass_frames_code.specs.run_laws.embedded.Making.{whole_home}
use Rattle.pass_frames_code.specs.run_laws.embedded.Refilled.{AreRefilled}
use Rattle.pass_frames_code.specs.run_laws.memory.Pointers.{Home, home_of}
use Rattle.pass_frames_code.specs.run_memory.Memory.{Rights}
use Rattle.pass_frames_code.specs.run_memory.declared.block.Byte.{Byte}
use Rattle.pass_frames_code.specs.run_source.declared.state.Activation.{Activation}
use Rattle.pass_frames_code.specs.run_source.declared.state.Instance.{Instance}
use Rattle.pass_frames_code.specs.run_source.declared.state.Mode.{Mode}
use Rattle.pass_frames_code.specs.run_source.declared.state.State.{State}
use Rattle.pass_frames_code.specs.run_source.declared.state.Status.{Status}
use Rattle.pass_frames_code.specs.run_step.Values.{Env}
use Rattle.pass_frames_code.specs.run_step.declared.world.World.{World}
use Rattle.pass_frames_code.proofs.stepping.Same.{fields_kept}

module _ (b : Building) (s t : State) (r : AreBuiltOf b s t)
    (framings : (func : ℕ) → is_coroutine b func ≡ true → IsFraming (b.framing func)) (i : ℕ) (x y : Instance)
    (there : slice_get s.instances i ≡ Some x) (h : AreInstances b r.homes t x y) (running : x.status ≡ Status.Running)
    (alone : (j : ℕ) (p : Instance) → slice_get s.instances j ≡ Some p → (j ≡ i → ⊥) → p.freed ≡ false
    → p.block ≡ x.block → ⊥) (runs : t.outcome ≡ Outcome.Running) where
  abbrev pub R : Rights
  R = frame_rights b.given t.instances

  -- the block of the frame is that of a block of the source
  block_seen : (home_of r.homes x.block).is_seen ≡ true
  block_seen = ap (λ (q : Home). q.is_seen) h.block

  known_block : (k : ℕ) → (home_of r.homes k).is_seen ≡ true → k < length s.world.memory
  known_block k seen =
      let lt : k < length r.homes = seen_known r.homes k seen in
      let known : length r.homes ≡ length s.world.memory = r.known in
      omega (arith, lt, known)

  -- in which no block lies that is free of the source
  pub not_free : (k : ℕ) → IsFreeOf r.homes r.hides s.world.memory k → k ≡ y.block → ⊥
  not_free k free e =
      stood_apart b s t r k x.block free (known_block x.block block_seen) block_seen
      (ap (λ (q : Home). q.block) h.block ∙ sym e)

  -- nor the frame of another instance
  frame_apart : (j : ℕ) (p q : Instance) → slice_get s.instances j ≡ Some p → AreInstances b r.homes t p q
      → (j ≡ i → ⊥) → p.freed ≡ false → q.block ≡ y.block → ⊥
  frame_apart j p q e k other live same =
      alone j p e other live
      (r.mates.alone p.block x.block y.block
      (known_block p.block (ap (λ (z : Home). z.is_seen) k.block)) (known_block x.block block_seen)
      (k.block ∙ ap whole_home same) h.block)

  module _ (u : World)
      (others : (e : ℕ) → (e ≡ y.block → ⊥) → slice_get u.memory e ≡ slice_get t.world.memory e) where
    pub kept : (e : ℕ) → (e ≡ y.block → ⊥) → (o most : ℕ) (bytes : List Byte) → Holds R t.world.memory e o most bytes
        → Holds R u.memory e o most bytes
    kept e none o most bytes k = record {
      block = k.block;
      there = others e none ∙ k.there;
      live = k.live;
      writable = k.writable;
      whole = k.whole;
      within = k.within;
      holds = k.holds;
      unclosed = k.unclosed;
      aligned = k.aligned;
    }

    fields_left : (j : ℕ) (p q : Instance) → slice_get s.instances j ≡ Some p → AreInstances b r.homes t p q
        → (point : Point) (env : Env) → p.status ≡ Status.Suspended point env → (n : ℕ) → p.freed ≡ false
        → AreFieldsRight (b.framing p.coroutine) r.homes R t.world.memory n env q.block q.start
        → AreFieldsRight (b.framing p.coroutine) r.homes R u.memory n env q.block q.start
    fields_left j p q e k point env suspended n live f = ⊎_elim own other (is_number j i)
      where
        own : j ≡ i → AreFieldsRight (b.framing p.coroutine) r.homes R u.memory n env q.block q.start
        own same =
            let one : Some x ≡ Some p = sym there ∙ ap (slice_get s.instances) (sym same) ∙ e in
            let two : x ≡ p = cc in
            let no : Status.Running ≡ Status.Suspended point env =
            sym running ∙ ap (λ (z : Instance). z.status) two ∙ suspended in
            absurd (cc)

        other : (j ≡ i → ⊥) → AreFieldsRight (b.framing p.coroutine) r.homes R u.memory n env q.block q.start
        other away =
            fields_kept R t.world.memory u.memory q.block (kept q.block (frame_apart j p q e k away live))
            (b.framing p.coroutine) r.homes n env q.start Mode.Plain f

    -- ---- what is shown

    status_shown : (c : Activation) (j : ℕ) (p q : Instance) → slice_get s.instances j ≡ Some p
        → AreInstances b r.homes t p q → (z : Status) → p.status ≡ z → IsStatus b r.homes t p q z q.status
        → IsStatus b r.homes (record t { world = u; top = c }) p q z q.status
    status_shown c j p q e k Status.Running is z = z
    status_shown c j p q e k Status.Finished is z = z
    status_shown c j p q e k (Status.Suspended point env) is z =
        (z.0, z.1, z.2, z.3, λ live. fields_left j p q e k point env is z.1 live (z.4 live))

    pub block_shown : (c : Activation) → u.events ≡ t.world.events → IsOn b s (record t { world = u; top = c })
    block_shown c events = record {
      running = runs;
      shown = record {
        homes = r.homes;
        events = events ∙ events_same b s t r;
        outcome = r.outcome;
        instances = λ j p e suspended.
            let z = other_instance b s t r j p e in (
              z.0,
              z.1,
              record {
                coroutine = z.2.coroutine;
                is_coroutine = z.2.is_coroutine;
                block = z.2.block;
                start = z.2.start;
                status = status_shown c j p z.0 e z.2 p.status refl z.2.status;
                last_save = z.2.last_save;
                released = z.2.released;
                freed = z.2.freed;
                slots = z.2.slots;
                no_slots = z.2.no_slots;
              },
            );
      };
    }

    -- ---- the rest

    module _ (refilled : AreRefilled t.world.memory u.memory)
        (below : (a : Activation) → IsListed a s.below → is_coroutine b a.func ≡ true
        → returned_from (b.framing a.func) a a.mode ≡ None) (ys : List Instance)
        (rights : frame_rights b.given ys ≡ R)
        (places : (o : Option ℕ) → IsSamePlace (instance_in t.instances o) (instance_in ys o)) where
      pub mates_kept : AreMates r.homes s.world.memory u.memory
      mates_kept = record {
        whole = r.mates.whole;
        each = λ n k z e home.
            let mate = r.mates.each n k z e home in
            let now = is_block t.world.memory u.memory refilled k (record z { bytes = mate.0 }) mate.1 in
            (now.bytes, now.there);
        alone = r.mates.alone;
      }

      pub ahead_kept : (z : Framing) (c : Activation) (v align : ℕ) (ty : Ty)
          → IsAhead z r.homes r.hides s.world.memory t.world.memory c v ty align
          → IsAhead z r.homes r.hides s.world.memory u.memory c v ty align
      ahead_kept z c v align ty k = record {
        block = k.block;
        address = k.address;
        own = k.own;
        free = k.free;
        bytes = k.bytes;
        sized = k.sized;
        there = others k.block (not_free k.block k.free) ∙ k.there;
      }

      pub block_moves : MovesRest b s t r s.below t.below r.homes r.hides ys s.world u
      block_moves = record {
        framings = framings;
        seen = record { each = λ k e. refl };
        slots = λ a l slot e. (refl, refl);
        owners = λ c l is. places c.instance;
        cells = λ c l is slot e name o most bytes k.
            subst (λ (q : Rights). Holds q u.memory slot.block o most bytes) (sym rights)
            (kept slot.block
            (not_free slot.block (free_below b r.homes r.hides s.world.memory t.below r.cells.1 c l is slot e name)) o
            most bytes k);
        returned = λ a c z q j l is own now from. let no : None ≡ Some j = sym (below a l is) ∙ from in absurd (cc);
        free = λ c l is slot e name k. k;
        ahead = λ z c v align ty l. ahead_kept z c v align ty;
      }

      -- another instance stays what it is
      pub other_kept : (xs : List Instance) (c : Activation) (j : ℕ) (p q : Instance)
          → slice_get s.instances j ≡ Some p → slice_get t.instances j ≡ Some q
          → AreInstances b r.homes (record t { world = u; instances = ys; top = c }) p q
      other_kept xs c j p q e e' =
          let k = r.instances j p q e e' in
          instance_on b s t r s.below t.below r.homes r.hides xs ys s.world u block_moves c p q
          (λ point env is live n numbered f.
          subst
          (λ (z : Rights). AreFieldsRight (b.framing p.coroutine) r.homes z u.memory n env q.block q.start)
          (sym rights) (fields_left j p q e k point env is n live f)) k
