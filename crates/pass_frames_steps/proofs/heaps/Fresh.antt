-- Both runs make a block of an allocator: it stands alone in the framed run's, and the relation holds.
use Rattle.std.proofs.Common.{◌≡◌, ◌≢◌, ◌+◌, ◌<◌, ◌^◌, ◌∷◌, ◌++◌, ◌∙◌, [], Bool, List, None, Some, ap, arith, false, length, subst, sym, true, ℕ}
use Rattle.std.specs.List.{Contains}
use Rattle.std.specs.Prelude.{slice_get}
use Rattle.pass_frames_code.specs.flow_solver.Paths.{IsListed}
use Rattle.pass_frames_code.specs.pass_fetch.Fetching.{value_bytes}
use Rattle.pass_frames_code.specs.pass_frames.Tables.{offset_at}
use Rattle.pass_frames_steps.proofs.allocating.Both.{mates_together, new_block, stands_together}
use Rattle.pass_frames_steps.proofs.allocating.Grown.{free_more, hidden_more, home_new, home_old, in_all, more_known, muted_more, still_get, whole_more}
use Rattle.pass_frames_code.proofs.moved.Rest.{fields_on, instance_on, on_homes, related_on, same_place}
use Rattle.pass_frames_code.specs.Framings.{IsFraming}
use Rattle.pass_frames_code.specs.Moved.{MovesRest}
use Rattle.pass_frames_code.specs.Related.{AreBuiltOf, AreInstances, Building, IsFreeOf, instance_in, is_coroutine, returned_from}
use Rattle.pass_frames_code.specs.Slotted.{HasSlotsThere}
use Rattle.pass_frames_code.specs.run_framed.Framed.{frame_rights}
use Rattle.pass_frames_code.proofs.run_laws.access.Held.{grown_held}
use Rattle.pass_frames_code.proofs.run_laws.memory.Homes.{append_extends}
use Rattle.pass_frames_code.proofs.run_laws.transfer.Places.{showing_it, showing_others}
use Rattle.pass_frames_code.specs.run_laws.access.Lines.{Holds}
use Rattle.pass_frames_code.specs.run_laws.embedded.Making.{whole_home}
use Rattle.pass_frames_code.specs.run_laws.memory.Pointers.{Extends, Home, IsValue, home_of}
use Rattle.pass_frames_code.specs.run_laws.memory.Standing.{AreBoundsKept, AreNullsKept, Embeds}
use Rattle.pass_frames_code.specs.run_laws.transfer.Muted.{ended_if, muted}
use Rattle.pass_frames_code.specs.run_laws.transfer.Places.{AreStanding, showing}
use Rattle.pass_frames_code.specs.run_laws.transfer.Transfer.{AreOver}
use Rattle.pass_frames_code.specs.run_memory.Memory.{Rights, owner_rights}
use Rattle.pass_frames_code.specs.run_memory.Pointers.{moved, offset_of}
use Rattle.pass_frames_code.specs.run_memory.declared.block.Byte.{Byte}
use Rattle.pass_frames_code.specs.run_memory.declared.block.Kind.{Kind}
use Rattle.pass_frames_code.specs.run_memory.declared.block.MemoryBlock.{MemoryBlock}
use Rattle.pass_frames_code.specs.run_memory.declared.pointer.Pointer.{Pointer}
use Rattle.pass_frames_code.specs.run_memory.declared.pointer.Value.{Value}
use Rattle.pass_frames_code.specs.run_source.declared.state.Activation.{Activation}
use Rattle.pass_frames_code.specs.run_source.declared.state.Instance.{Instance}
use Rattle.pass_frames_code.specs.run_source.declared.state.State.{State}
use Rattle.pass_frames_code.specs.run_step.Step.{risen}
use Rattle.pass_frames_code.specs.run_step.Values.{pointer_to}
use Rattle.pass_frames_code.specs.run_step.declared.world.Slot.{Slot}
use Rattle.pass_frames_code.specs.run_step.declared.world.World.{World}

module _ (b : Building) (s t : State) (r : AreBuiltOf b s t)
    (framings : (func : ℕ) → is_coroutine b func ≡ true → IsFraming (b.framing func)) (mine : HasSlotsThere s)
    (theirs : HasSlotsThere t)
    (inside : (a : Activation) → IsListed a (s.top ∷ s.below) → is_coroutine b a.func ≡ true
    → returned_from (b.framing a.func) a a.mode ≡ None) (size : ℕ) (small : size < 2 ^ 64) where
  abbrev R : Rights
  R = frame_rights b.given t.instances

  abbrev n : ℕ
  n = length s.world.memory

  abbrev k : ℕ
  k = length t.world.memory

  abbrev x : MemoryBlock
  x = new_block false size 16 Kind.Allocator

  abbrev shows : ℕ → Bool
  shows = showing r.hides n

  alike : (c : ℕ) → c ≢ n → shows c ≡ r.hides c
  alike c ne = showing_others r.hides n c ne

  not_hidden : shows n ≡ false
  not_hidden = showing_it r.hides n

  abbrev homes : List Home
  homes = r.homes ++ whole_home k ∷ []

  abbrev ups : List Activation
  ups = s.top ∷ s.below

  abbrev cs : List Activation
  cs = t.top ∷ t.below

  -- the worlds behind the call
  abbrev w : World
  w = record s.world { memory = s.world.memory ++ x ∷ []; allocs = risen s.world.allocs }

  abbrev u : World
  u = record t.world { memory = t.world.memory ++ x ∷ []; allocs = risen t.world.allocs }

  extends : Extends r.homes homes
  extends = append_extends r.homes (whole_home k ∷ [])

  old_slot : (a : Activation) → IsListed a ups → (z : Slot) → Contains a.slots z → z.block ≢ n
  old_slot a l z own e = let lt : z.block < n = mine.each z (in_all s a l z own) in omega (arith, lt, e)

  spare : (c : Activation) → IsListed c cs → (z : Slot) → Contains c.slots z → k ≢ z.block
  spare c l z own e = let lt : z.block < k = theirs.each z (in_all t c l z own) in omega (arith, lt, e)

  grown : (i : ℕ) (z : MemoryBlock) → slice_get t.world.memory i ≡ Some z → slice_get u.memory i ≡ Some z
  grown i z e = still_get t.world.memory x z i e

  held : (e o most : ℕ) (bytes : List Byte) → Holds R t.world.memory e o most bytes → Holds R u.memory e o most bytes
  held e o most bytes z = grown_held R t.world.memory (x ∷ []) e o most bytes z

  free_made : (block : ℕ) → k ≢ block → IsFreeOf r.homes r.hides s.world.memory block
      → IsFreeOf homes shows w.memory block
  free_made block ne = free_more r.homes r.hides shows s.world.memory (whole_home k) x r.known alike block (λ how. ne)

  moves : MovesRest b s t r (s.top ∷ s.below) (t.top ∷ t.below) homes shows t.instances w u
  moves = record {
    framings = framings;
    seen = extends;
    slots = λ a l slot own. (
      home_old r.homes r.hides shows s.world.memory (whole_home k) x r.known alike slot.block (old_slot a l slot own),
      alike slot.block (old_slot a l slot own),
    );
    owners = λ c l is. same_place (instance_in t.instances c.instance);
    cells = λ c l is slot own name o most bytes. held slot.block o most bytes;
    returned = λ a c y z j l is own now from h.
        let no : None ≡ Some j = sym (inside a l is) ∙ from in absurd (cc);
    free = λ c l is slot own name. free_made slot.block (spare c l slot own);
    ahead = λ y c name align ty l h. record {
      block = h.block;
      address = h.address;
      own = h.own;
      free = free_made h.block (spare c l (record { alloca = name; block = h.block }) h.own) h.free;
      bytes = h.bytes;
      sized = h.sized;
      there = grown h.block _ h.there;
    };
  }

  new_home : home_of homes n ≡ whole_home k
  new_home = home_new r.homes r.hides shows s.world.memory (whole_home k) x r.known alike

  muted_is : muted shows (s.world.memory ++ x ∷ []) ≡ muted r.hides s.world.memory ++ ended_if false x ∷ []
  muted_is =
      muted_more r.homes r.hides shows s.world.memory (whole_home k) x r.known alike
      ∙ ap (λ (c : Bool). muted r.hides s.world.memory ++ ended_if c x ∷ []) not_hidden

  both : AreStanding owner_rights R homes (muted r.hides s.world.memory ++ ended_if false x ∷ []) u.memory
  both = stands_together b s t r false size 16 Kind.Allocator small

  over : AreOver owner_rights R homes shows (λ d. d) w u
  over = record {
    memory = subst (λ (m : List MemoryBlock). Embeds owner_rights R homes m u.memory) (sym muted_is) both.memory;
    nulls = subst (λ (m : List MemoryBlock). AreNullsKept owner_rights R homes m u.memory) (sym muted_is) both.nulls;
    bounds = subst (λ (m : List MemoryBlock). AreBoundsKept homes m u.memory) (sym muted_is) both.bounds;
    events = r.world.events;
    answers = r.world.answers;
    allocs = ap risen r.world.allocs;
  }

  made_instance : (i : ℕ) (p q : Instance) → slice_get s.instances i ≡ Some p → slice_get t.instances i ≡ Some q
      → AreInstances b homes (record t { world = u }) p q
  made_instance i p q e d =
      instance_on b s t r ups cs homes shows s.instances t.instances w u moves t.top p q
      (λ at env is live j number.
      fields_on R R t.world.memory u.memory r.homes homes extends (b.framing p.coroutine) j env q.block q.start
      (λ v position kv kept crosses at bytes long.
      held q.block (q.start + offset_at (b.framing p.coroutine).layout position) (value_bytes kv.field_ty) bytes))
      (r.instances i p q e d)

  -- both have it, and have counted the call
  pub block_made : AreBuiltOf b
      (record s {
        world = record s.world {
          memory = s.world.memory ++ new_block false size 16 Kind.Allocator ∷ [];
          allocs = risen s.world.allocs;
        };
      })
      (record t {
        world = record t.world {
          memory = t.world.memory ++ new_block false size 16 Kind.Allocator ∷ [];
          allocs = risen t.world.allocs;
        };
      })
  block_made =
      related_on b s t r homes shows s.instances t.instances w u moves (record {
        world = over;
        known = more_known r.homes r.hides shows s.world.memory (whole_home k) x r.known alike;
        globals = λ c lt.
            whole_more r.homes r.hides shows s.world.memory (whole_home k) x r.known alike c c (r.globals c lt);
        mates = mates_together b s t r false size 16 Kind.Allocator small shows alike;
        hidden = hidden_more r.homes r.hides shows s.world.memory (whole_home k) x r.known alike
            (λ e. let no : true ≡ false = sym e ∙ not_hidden in absurd (cc)) r.hidden;
        count = r.count;
        instances = made_instance;
      })

  homes_are : block_made.homes ≡ homes
  unfolding block_made
  homes_are = on_homes b s t r homes shows s.instances t.instances w u moves _

  -- its address stands for the first run's
  pub address_made : IsValue block_made.homes (pointer_to (length s.world.memory)) (pointer_to (length t.world.memory))
  address_made =
      subst (λ (q : List Home). IsValue q (pointer_to n) (pointer_to k)) (sym homes_are) (
        ap (λ (q : Home). q.is_seen) new_home,
        ap (λ (q : Home). Value.Ptr (Pointer.At q.block (moved (offset_of 0) q.offset))) (sym new_home),
      )
