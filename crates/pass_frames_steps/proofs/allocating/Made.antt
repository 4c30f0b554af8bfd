-- The source makes a block, which has a home in the target: activations below and instances stay related.
use Rattle.std.proofs.Common.{◌≡◌, ◌≢◌, ◌⊎◌, ◌+◌, ◌<◌, ◌∷◌, ◌++◌, ◌∙◌, [], Bool, List, Some, ap, arith, false, length, subst, sym, true, ℕ}
use Rattle.std.specs.List.{Contains}
use Rattle.std.specs.Prelude.{slice_get}
use Rattle.pass_frames_code.specs.flow_solver.Paths.{IsListed}
use Rattle.pass_frames_code.specs.ir_model.Ty.{Ty}
use Rattle.pass_frames_code.specs.pass_fetch.Fetching.{value_bytes}
use Rattle.pass_frames_code.specs.pass_frames.Tables.{offset_at}
use Rattle.pass_frames_steps.proofs.allocating.Grown.{free_more, hidden_more, home_old, more_known, muted_more, whole_more}
use Rattle.pass_frames_code.proofs.moved.Rest.{held_on, instance_on, kept_on, same_place}
use Rattle.pass_frames_code.specs.Framings.{IsFraming}
use Rattle.pass_frames_code.specs.Moved.{MovesRest}
use Rattle.pass_frames_code.specs.Places.{Framing}
use Rattle.pass_frames_code.specs.Related.{AreBuiltOf, AreFieldsHeld, AreFieldsRight, AreInstances, Building, HasFields, IsAhead, IsFreeOf, instance_in, is_coroutine}
use Rattle.pass_frames_code.specs.run_framed.Framed.{frame_rights}
use Rattle.pass_frames_code.proofs.run_laws.memory.Homes.{append_extends}
use Rattle.pass_frames_code.proofs.run_laws.memory.Written.{same_some}
use Rattle.pass_frames_code.specs.run_laws.access.Lines.{Holds}
use Rattle.pass_frames_code.specs.run_laws.embedded.Making.{whole_home}
use Rattle.pass_frames_code.specs.run_laws.memory.Pointers.{Extends, Home, home_of}
use Rattle.pass_frames_code.specs.run_laws.memory.Standing.{AreBoundsKept, AreNullsKept, Embeds}
use Rattle.pass_frames_code.specs.run_laws.transfer.Muted.{ended_if, muted}
use Rattle.pass_frames_code.specs.run_laws.transfer.Places.{AreStanding}
use Rattle.pass_frames_code.specs.run_laws.transfer.Transfer.{AreOver}
use Rattle.pass_frames_code.specs.run_memory.Memory.{Rights, is_live, owner_rights}
use Rattle.pass_frames_code.specs.run_memory.declared.block.Byte.{Byte}
use Rattle.pass_frames_code.specs.run_memory.declared.block.MemoryBlock.{MemoryBlock}
use Rattle.pass_frames_code.specs.run_source.declared.state.Activation.{Activation}
use Rattle.pass_frames_code.specs.run_source.declared.state.Instance.{Instance}
use Rattle.pass_frames_code.specs.run_source.declared.state.Mode.{Mode}
use Rattle.pass_frames_code.specs.run_source.declared.state.State.{State}
use Rattle.pass_frames_code.specs.run_step.Values.{Env}
use Rattle.pass_frames_code.specs.run_step.declared.world.Slot.{Slot}
use Rattle.pass_frames_code.specs.run_step.declared.world.World.{World}

-- ---- fields over more homes

module _ (rights after : Rights) (m k : List MemoryBlock) (homes more : List Home) (e : Extends homes more) (block : ℕ)
    (held : (o most : ℕ) (bytes : List Byte) → Holds rights m block o most bytes → Holds after k block o most bytes)
    (x : Framing) (suspend : ℕ) (env : Env) (start : ℕ) where
  pub right_more : AreFieldsRight x homes rights m suspend env block start
      → AreFieldsRight x more after k suspend env block start
  right_more h = record {
    each = λ v position kv is crosses at. let f = h.each v position kv is crosses at in (
      f.0,
      f.1,
      held (start + offset_at x.layout position) (value_bytes kv.field_ty) f.0 f.2,
      kept_on homes more e env v kv kv.slot _ f.3,
    );
  }

  held_more : AreFieldsHeld x homes rights m suspend env block start
      → AreFieldsHeld x more after k suspend env block start
  held_more h = record {
    each = λ v position kv is crosses at. let f = h.each v position kv is crosses at in (
      f.0,
      f.1,
      held (start + offset_at x.layout position) (value_bytes kv.field_ty) f.0 f.2,
      held_on homes more e env v kv.slot _ f.3,
    );
  }

  pub fields_more : (mode : Mode) → HasFields x homes rights m suspend env block start mode
      → HasFields x more after k suspend env block start mode
  fields_more Mode.Plain h = right_more h
  fields_more Mode.Ramp h = right_more h
  fields_more (Mode.GivenRamp frame) h = right_more h
  fields_more Mode.Resumed h = right_more h
  fields_more (Mode.Entering from label) h = held_more h

-- ---- the states

module _ (b : Building) (s t : State) (r : AreBuiltOf b s t)
    (framings : (func : ℕ) → is_coroutine b func ≡ true → IsFraming (b.framing func)) (q : Home) (x : MemoryBlock)
    (shows : ℕ → Bool) (alike : (c : ℕ) → c ≢ length s.world.memory → shows c ≡ r.hides c)
    (slots : (a : Activation) → IsListed a s.below → (slot : Slot) → Contains a.slots slot
    → slot.block < length s.world.memory)
    (u : World)
    (grown : (k : ℕ) (z : MemoryBlock) → slice_get t.world.memory k ≡ Some z → slice_get u.memory k ≡ Some z)
    (held : (e o most : ℕ) (bytes : List Byte)
    → Holds (frame_rights b.given t.instances) t.world.memory e o most bytes
    → Holds (frame_rights b.given t.instances) u.memory e o most bytes)
    (spare : (c : Activation) → IsListed c t.below → (slot : Slot) → Contains c.slots slot
    → IsFreeOf r.homes r.hides s.world.memory slot.block
    → (q.is_seen ≡ true) ⊎ (is_live (ended_if (shows (length s.world.memory)) x).life ≡ true)
    → q.block ≢ slot.block) where
  abbrev pub R : Rights
  R = frame_rights b.given t.instances

  abbrev pub homes : List Home
  homes = r.homes ++ q ∷ []

  abbrev pub w : World
  w = record s.world { memory = s.world.memory ++ x ∷ [] }

  pub extends : Extends r.homes homes
  extends = append_extends r.homes (q ∷ [])

  pub free_made : (block : ℕ)
      → ((q.is_seen ≡ true) ⊎ (is_live (ended_if (shows (length s.world.memory)) x).life ≡ true) → q.block ≢ block)
      → IsFreeOf r.homes r.hides s.world.memory block → IsFreeOf homes shows w.memory block
  free_made = free_more r.homes r.hides shows s.world.memory q x r.known alike

  -- an alloca that is still ahead
  pub ahead_made : (y : Framing) (c : Activation) (name align : ℕ) (ty : Ty)
      → (h : IsAhead y r.homes r.hides s.world.memory t.world.memory c name ty align)
      → ((q.is_seen ≡ true) ⊎ (is_live (ended_if (shows (length s.world.memory)) x).life ≡ true)
      → q.block ≢ h.block)
      → IsAhead y homes shows w.memory u.memory c name ty align
  ahead_made y c name align ty h apart = record {
    block = h.block;
    address = h.address;
    own = h.own;
    free = free_made h.block apart h.free;
    bytes = h.bytes;
    sized = h.sized;
    there = grown h.block _ h.there;
  }

  other_block : (a : Activation) → IsListed a s.below → (slot : Slot) → Contains a.slots slot
      → slot.block ≢ length s.world.memory
  other_block a l slot own e = let lt = slots a l slot own in omega (arith, lt, e)

  pub moves_made : MovesRest b s t r s.below t.below homes shows t.instances w u
  moves_made = record {
    framings = framings;
    seen = extends;
    slots = λ a l slot own. (
      home_old r.homes r.hides shows s.world.memory q x r.known alike slot.block (other_block a l slot own),
      alike slot.block (other_block a l slot own),
    );
    owners = λ c l is. same_place (instance_in t.instances c.instance);
    cells = λ c l is slot own name o most bytes. held slot.block o most bytes;
    returned = λ a c y z j l is own now from h.
        subst (λ (i : Instance). HasFields (b.framing a.func) homes R u.memory j a.values i.block i.start a.mode)
        (same_some y z (sym own ∙ now))
        (fields_more R R t.world.memory u.memory r.homes homes extends y.block (held y.block) (b.framing a.func) j
        a.values y.start a.mode h);
    free = λ c l is slot own name h. free_made slot.block (spare c l slot own h) h;
    ahead = λ y c name align ty l h.
        ahead_made y c name align ty h (spare c l (record { alloca = name; block = h.block }) h.own h.free);
  }

  -- an instance that stays
  pub instance_made : (top : Activation) (xi yi : Instance) → AreInstances b r.homes t xi yi
      → AreInstances b homes (record t { world = u; top = top }) xi yi
  instance_made top xi yi h =
      instance_on b s t r s.below t.below homes shows s.instances t.instances w u moves_made top xi yi
      (λ p env is live j number.
      right_more R R t.world.memory u.memory r.homes homes extends yi.block (held yi.block) (b.framing xi.coroutine) j env
      yi.start) h

  pub known_made : length homes ≡ length w.memory
  known_made = more_known r.homes r.hides shows s.world.memory q x r.known alike

  pub globals_made : (n : ℕ) → n < length b.framed_code.globals → home_of homes n ≡ whole_home n
  globals_made n lt = whole_more r.homes r.hides shows s.world.memory q x r.known alike n n (r.globals n lt)

  pub hidden_made : (shows (length s.world.memory) ≡ true → q.is_seen ≡ false) → (n : ℕ) → shows n ≡ true
      → (home_of homes n).is_seen ≡ false
  hidden_made new = hidden_more r.homes r.hides shows s.world.memory q x r.known alike new r.hidden

  -- the source stands where its old blocks do, and the new one
  pub over_made : AreStanding owner_rights R homes
      (muted r.hides s.world.memory ++ ended_if (shows (length s.world.memory)) x ∷ []) u.memory
      → u ≡ record t.world { memory = u.memory } → AreOver owner_rights R homes shows (λ d. d) w u
  over_made st same = record {
    memory = subst (λ (m : List MemoryBlock). Embeds owner_rights R homes m u.memory) (sym is) st.memory;
    nulls = subst (λ (m : List MemoryBlock). AreNullsKept owner_rights R homes m u.memory) (sym is) st.nulls;
    bounds = subst (λ (m : List MemoryBlock). AreBoundsKept homes m u.memory) (sym is) st.bounds;
    events = ap (λ (z : World). z.events) same ∙ r.world.events;
    answers = ap (λ (z : World). z.answers_used) same ∙ r.world.answers;
    allocs = ap (λ (z : World). z.allocs) same ∙ r.world.allocs;
  }
    where
      is : muted shows (s.world.memory ++ x ∷ [])
          ≡ muted r.hides s.world.memory ++ ended_if (shows (length s.world.memory)) x ∷ []
      is = muted_more r.homes r.hides shows s.world.memory q x r.known alike
