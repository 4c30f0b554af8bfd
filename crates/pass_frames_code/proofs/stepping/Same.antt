-- Where the source's memory stays, and the target's blocks but some that are touched do, the rest is left.
use Rattle.std.proofs.Common.{◌≡◌, inl, inr, ℕ, ◌+◌, ◌<◌, true, List, [], ◌∷◌, length, sym, ap, ◌∙◌, subst, arith}
use Rattle.std.specs.List.{Contains}
use Rattle.std.specs.Prelude.{None, Option, Some, map, slice_get}
use Rattle.pass_proofs.specs.flow_solver.Paths.{IsListed}
use Rattle.pass_proofs.proofs.ir_laws.facts.Lists.{get_within}
use Rattle.pass_proofs.specs.ir_model.Ty.{Ty}
use Rattle.pass_proofs.specs.pass_fetch.Fetching.{value_bytes}
use Rattle.pass_proofs.specs.pass_frames.Tables.{offset_at}
use Rattle.pass_frames_code.proofs.stepping.Rest.{LeavesRest, got, more_below, one_below, seen_known}
use Rattle.pass_frames_code.specs.Framings.{IsFraming}
use Rattle.pass_frames_code.specs.Places.{Framing}
use Rattle.pass_frames_code.specs.Related.{AreBuiltOf, AreFieldsHeld, AreFieldsRight, AreInstances, AreMates, Building, HasFields, IsAhead, IsFreeOf, instance_in, is_coroutine, slots_below}
use Rattle.pass_proofs.specs.run_framed.Framed.{frame_rights}
use Rattle.pass_proofs.specs.run_laws.access.Lines.{Holds}
use Rattle.pass_proofs.specs.run_laws.memory.Pointers.{Home, home_of}
use Rattle.pass_proofs.specs.run_memory.Memory.{Rights}
use Rattle.pass_proofs.specs.run_memory.declared.block.Byte.{Byte}
use Rattle.pass_proofs.specs.run_memory.declared.block.MemoryBlock.{MemoryBlock}
use Rattle.pass_proofs.specs.run_source.declared.state.Activation.{Activation}
use Rattle.pass_proofs.specs.run_source.declared.state.Instance.{Instance}
use Rattle.pass_proofs.specs.run_source.declared.state.Mode.{Mode}
use Rattle.pass_proofs.specs.run_source.declared.state.State.{State}
use Rattle.pass_proofs.specs.run_step.Values.{Env}
use Rattle.pass_proofs.specs.run_step.declared.world.Slot.{Slot}
use Rattle.pass_proofs.specs.run_step.declared.world.World.{World}

-- ---- fields in a block that stays

module _ (rights : Rights) (m k : List MemoryBlock) (block : ℕ)
    (kept : (o most : ℕ) (bytes : List Byte) → Holds rights m block o most bytes → Holds rights k block o most bytes)
    (x : Framing) (homes : List Home) (suspend : ℕ) (env : Env) (start : ℕ) where
  pub right_kept : AreFieldsRight x homes rights m suspend env block start
      → AreFieldsRight x homes rights k suspend env block start
  right_kept h = record {
    each = λ v position kv is crosses at. let f = h.each v position kv is crosses at in (
      f.0,
      f.1,
      kept (start + offset_at x.layout position) (value_bytes kv.field_ty) f.0 f.2,
      f.3,
    );
  }

  held_kept : AreFieldsHeld x homes rights m suspend env block start
      → AreFieldsHeld x homes rights k suspend env block start
  held_kept h = record {
    each = λ v position kv is crosses at. let f = h.each v position kv is crosses at in (
      f.0,
      f.1,
      kept (start + offset_at x.layout position) (value_bytes kv.field_ty) f.0 f.2,
      f.3,
    );
  }

  pub fields_kept : (mode : Mode) → HasFields x homes rights m suspend env block start mode
      → HasFields x homes rights k suspend env block start mode
  fields_kept Mode.Plain h = right_kept h
  fields_kept Mode.Ramp h = right_kept h
  fields_kept (Mode.GivenRamp frame) h = right_kept h
  fields_kept Mode.Resumed h = right_kept h
  fields_kept (Mode.Entering from label) h = held_kept h

-- ---- slots of one of the activations below

pub slot_listed : (cs : List Activation) (c : Activation) (slot : Slot) → IsListed c cs → Contains c.slots slot
    → IsListed slot.block (map (λ (z : Slot). z.block) (slots_below cs))
slot_listed [] c slot l e = absurd l
slot_listed (q ∷ cs) c slot (inl same) e =
    one_below q cs slot (subst (λ (z : Activation). Contains z.slots slot) same e)
slot_listed (q ∷ cs) c slot (inr l) e = more_below q cs slot.block (slot_listed cs c slot l e)

module _ (b : Building) (s t : State) (r : AreBuiltOf b s t) (w u : World) (Touched : ℕ → Type 0)
    (framings : (func : ℕ) → is_coroutine b func ≡ true → IsFraming (b.framing func))
    (source : w.memory ≡ s.world.memory)
    (same : (e : ℕ) → (Touched e → ⊥) → slice_get u.memory e ≡ slice_get t.world.memory e)
    (stood : (n : ℕ) → n < length s.world.memory → (home_of r.homes n).is_seen ≡ true
    → Touched (home_of r.homes n).block → ⊥)
    (others : (n : ℕ) → IsListed n (map (λ (slot : Slot). slot.block) (slots_below t.below)) → Touched n → ⊥) where
  abbrev R : Rights
  R = frame_rights b.given t.instances

  pub kept : (e : ℕ) → (Touched e → ⊥) → (o most : ℕ) (bytes : List Byte) → Holds R t.world.memory e o most bytes
      → Holds R u.memory e o most bytes
  kept e none o most bytes h = record {
    block = h.block;
    there = same e none ∙ h.there;
    live = h.live;
    writable = h.writable;
    whole = h.whole;
    within = h.within;
    holds = h.holds;
    unclosed = h.unclosed;
    aligned = h.aligned;
  }

  -- a frame lies in a block of the source's
  pub frames : (x y : Instance) → AreInstances b r.homes t x y → Touched y.block → ⊥
  frames x y h touched =
      let seen : (home_of r.homes x.block).is_seen ≡ true = ap (λ (q : Home). q.is_seen) h.block in
      let lt : x.block < length r.homes = seen_known r.homes x.block seen in
      let known : length r.homes ≡ length s.world.memory = r.known in
      stood x.block (omega (arith, lt, known)) seen
      (subst Touched (sym (ap (λ (q : Home). q.block) h.block)) touched)

  pub own_frame : (i : Option ℕ) (y : Instance) → instance_in t.instances i ≡ Some y → Touched y.block → ⊥
  own_frame None y e = absurd (cc)
  own_frame (Some i) y e =
      let lt : i < length t.instances = get_within t.instances i y e in
      let same : length t.instances ≡ length s.instances = r.count in
      let x = got s.instances i (omega (arith, lt, same)) in
      frames x.0 y (r.instances i x.0 y x.1 e)

  old : (n : ℕ) (x : MemoryBlock) → slice_get w.memory n ≡ Some x → slice_get s.world.memory n ≡ Some x
  old n x e = ap (λ (m : List MemoryBlock). slice_get m n) (sym source) ∙ e

  mates_kept : AreMates r.homes w.memory u.memory
  mates_kept = record {
    whole = λ n x e. r.mates.whole n x (old n x e);
    each = λ n k x e home.
        let mate = r.mates.each n k x (old n x e) home in
        let lt : n < length s.world.memory = get_within s.world.memory n x (old n x e) in (
          mate.0,
          same k
              (λ z. stood n lt (ap (λ (q : Home). q.is_seen) home)
              (subst Touched (sym (ap (λ (q : Home). q.block) home)) z))
              ∙ mate.1,
        );
    alone = λ n m k lt lt'.
        r.mates.alone n m k (subst (λ (z : List MemoryBlock). n < length z) source lt)
        (subst (λ (z : List MemoryBlock). m < length z) source lt');
  }

  free_kept : (block : ℕ) → IsFreeOf r.homes r.hides s.world.memory block → IsFreeOf r.homes r.hides w.memory block
  free_kept block = subst (λ (m : List MemoryBlock). IsFreeOf r.homes r.hides m block) (sym source)

  ahead_kept : (x : Framing) (c : Activation) (v align : ℕ) (ty : Ty) → IsListed c t.below
      → IsAhead x r.homes r.hides s.world.memory t.world.memory c v ty align
      → IsAhead x r.homes r.hides w.memory u.memory c v ty align
  ahead_kept x c v align ty l k = record {
    block = k.block;
    address = k.address;
    own = k.own;
    free = free_kept k.block k.free;
    bytes = k.bytes;
    sized = k.sized;
    there = same k.block
        (others k.block (slot_listed t.below c (record { alloca = v; block = k.block }) l k.own)) ∙ k.there;
  }

  pub rest_left : LeavesRest b s t r w u
  rest_left = record {
    framings = framings;
    cells = λ c l is slot e name o most bytes. kept slot.block (others slot.block
        (slot_listed t.below c slot l e)) o most
        bytes;
    fields = λ i x y e h p env is j number live.
        right_kept R t.world.memory u.memory y.block (kept y.block (frames x y h))
        (b.framing x.coroutine) r.homes j env
        y.start;
    returned = λ a c y j l is own from.
        fields_kept R t.world.memory u.memory y.block (kept y.block (own_frame c.instance y own)) (b.framing a.func)
        r.homes j a.values y.start a.mode;
    mates = mates_kept;
    free = free_kept;
    ahead = ahead_kept;
    known = ap (λ (m : List MemoryBlock). length m) source;
  }
