-- Behind a store the rest is left: blocks that stand alone differ in bytes alone, and what is free stays.
use Rattle.std.proofs.Common.{◌≡◌, ◌⊎◌, inl, inr, ℕ, zero, suc, ◌+◌, ◌<◌, Bool, true, false, List, [], ◌∷◌, length, refl, sym, ap, ◌∙◌, subst, arith}
use Rattle.std.specs.List.{Contains}
use Rattle.std.specs.Prelude.{None, Option, Some, option_map, slice_get}
use Rattle.pass_proofs.specs.flow_solver.Paths.{IsListed}
use Rattle.pass_proofs.specs.ir_model.Ty.{Ty}
use Rattle.pass_proofs.specs.pass_fetch.Fetching.{value_bytes}
use Rattle.pass_proofs.specs.pass_frames.Tables.{offset_at}
use Rattle.pass_frames_code.proofs.stepping.Rest.{LeavesRest}
use Rattle.pass_frames_code.specs.Framings.{IsFraming}
use Rattle.pass_frames_code.specs.Places.{Framing}
use Rattle.pass_frames_code.specs.Related.{AreBuiltOf, AreFreeCells, AreMates, Building, IsAhead, IsCellName, IsFreeOf, is_coroutine, is_slot}
use Rattle.pass_frames_code.specs.Stepping.{AreFieldsSpared}
use Rattle.pass_proofs.specs.run_framed.Framed.{frame_rights}
use Rattle.pass_proofs.proofs.run_laws.access.Done.{free_held}
use Rattle.pass_proofs.proofs.run_laws.access.Reading.{as_many}
use Rattle.pass_proofs.specs.run_laws.access.Changed.{KeepsFree}
use Rattle.pass_proofs.specs.run_laws.access.Lines.{Holds}
use Rattle.pass_proofs.specs.run_laws.embedded.Refilled.{AreRefilled, IsRefilled}
use Rattle.pass_proofs.specs.run_laws.memory.Pointers.{Home, home_of}
use Rattle.pass_proofs.specs.run_laws.transfer.Muted.{ended_if, muted}
use Rattle.run_access_worked.proofs.run_laws_worked.Frames.{frame_rights_fit}
use Rattle.pass_proofs.specs.run_memory.Memory.{Rights, bytes_in, is_live, owner_rights}
use Rattle.pass_proofs.specs.run_memory.declared.block.Byte.{Byte}
use Rattle.pass_proofs.specs.run_memory.declared.block.MemoryBlock.{MemoryBlock}
use Rattle.pass_proofs.specs.run_source.declared.state.Activation.{Activation}
use Rattle.pass_proofs.specs.run_source.declared.state.State.{State}
use Rattle.pass_proofs.specs.run_step.declared.world.Slot.{Slot}
use Rattle.pass_proofs.specs.run_step.declared.world.World.{World}

-- ---- blocks whose bytes are others

-- a block and what it was
pub record WasBlock (m k : List MemoryBlock) (n : ℕ) (x : MemoryBlock) : Type 0 where
  pub block : MemoryBlock
  pub there : slice_get m n ≡ Some block
  pub is : x ≡ record block { bytes = x.bytes }

pub was_block : (m k : List MemoryBlock) → AreRefilled m k → (n : ℕ) (x : MemoryBlock) → slice_get k n ≡ Some x
    → WasBlock m k n x
was_block m k h n x e = on (slice_get m n) (slice_get k n) refl e (h.each n)
  where
    on : (p q : Option MemoryBlock) → slice_get m n ≡ p → q ≡ Some x → IsRefilled p q → WasBlock m k n x
    on None None d f r = absurd (cc)
    on None (Some z) d f r = absurd r
    on (Some y) None d f r = absurd r
    on (Some y) (Some z) d f r =
        let same : z ≡ x = cc in
        record {
          block = y;
          there = d;
          is = sym same ∙ r ∙ ap (λ (u : MemoryBlock). record y { bytes = u.bytes }) same;
        }

-- a block and what it is then
pub record IsBlock (k : List MemoryBlock) (n : ℕ) (x : MemoryBlock) : Type 0 where
  pub bytes : List Byte
  pub there : slice_get k n ≡ Some (record x { bytes = bytes })

pub is_block : (m k : List MemoryBlock) → AreRefilled m k → (n : ℕ) (x : MemoryBlock) → slice_get m n ≡ Some x
    → IsBlock k n x
is_block m k h n x e = on (slice_get m n) (slice_get k n) e refl (h.each n)
  where
    on : (p q : Option MemoryBlock) → p ≡ Some x → slice_get k n ≡ q → IsRefilled p q → IsBlock k n x
    on None q d f r = absurd (cc)
    on (Some y) None d f r = absurd r
    on (Some y) (Some z) d f r =
        let same : y ≡ x = cc in
        record {
          bytes = z.bytes;
          there = f ∙ ap Some (r ∙ ap (λ (u : MemoryBlock). record u { bytes = z.bytes }) same);
        }

-- where blocks count as dead they do so then too
pub muted_is : (hides : ℕ → Bool) (m : List MemoryBlock) (n : ℕ)
    → slice_get (muted hides m) n ≡ option_map (ended_if (hides n)) (slice_get m n)
muted_is hides [] n = refl
muted_is hides (x ∷ m) zero = refl
muted_is hides (x ∷ m) (suc n) = muted_is (λ b. hides (suc b)) m n

same_life : (h : Bool) (x : MemoryBlock) (bytes : List Byte)
    → is_live (ended_if h (record x { bytes = bytes })).life ≡ is_live (ended_if h x).life
same_life true x bytes = refl
same_life false x bytes = refl

pub free_on : (homes : List Home) (hides : ℕ → Bool) (m k : List MemoryBlock) → AreRefilled m k → (block : ℕ)
    → IsFreeOf homes hides m block → IsFreeOf homes hides k block
free_on homes hides m k h block free n x e about = on (slice_get k n) refl (sym (muted_is hides k n) ∙ e)
  where
    on : (o : Option MemoryBlock) → slice_get k n ≡ o → option_map (ended_if (hides n)) o ≡ Some x
        → (home_of homes n).block ≡ block → ⊥
    on None d f = absurd (cc)
    on (Some z) d f =
        let was = was_block m k h n z d in
        let one : ended_if (hides n) z ≡ x = cc in
        free n (ended_if (hides n) was.block) (muted_is hides m n ∙ ap (option_map (ended_if (hides n))) was.there)
        (either was.block was.is one about)
      where
        either : (y : MemoryBlock) → z ≡ record y { bytes = z.bytes } → ended_if (hides n) z ≡ x
            → ((home_of homes n).is_seen ≡ true) ⊎ (is_live x.life ≡ true)
            → ((home_of homes n).is_seen ≡ true) ⊎ (is_live (ended_if (hides n) y).life ≡ true)
        either y is one (inl seen) = inl seen
        either y is one (inr live) =
            inr (sym (same_life (hides n) y z.bytes)
            ∙ ap (λ (u : MemoryBlock). is_live (ended_if (hides n) u).life) (sym is)
            ∙ ap (λ (u : MemoryBlock). is_live u.life) one ∙ live)

-- ---- the rest

pub free_below : (b : Building) (homes : List Home) (hides : ℕ → Bool) (m : List MemoryBlock) (cs : List Activation)
    → AreFreeCells b homes hides m cs → (c : Activation) → IsListed c cs → is_coroutine b c.func ≡ true → (slot : Slot)
    → Contains c.slots slot → IsCellName (b.framing c.func) slot.alloca → IsFreeOf homes hides m slot.block
free_below b homes hides m [] h c l = absurd l
free_below b homes hides m (q ∷ cs) h c (inl same) =
    subst
    (λ (z : Activation). is_coroutine b z.func ≡ true → (slot : Slot) → Contains z.slots slot
    → IsCellName (b.framing z.func) slot.alloca → IsFreeOf homes hides m slot.block) (sym same) h.0
free_below b homes hides m (q ∷ cs) h c (inr l) = free_below b homes hides m cs h.1 c l

module _ (b : Building) (s t : State) (r : AreBuiltOf b s t) (w u : World)
    (framings : (func : ℕ) → is_coroutine b func ≡ true → IsFraming (b.framing func))
    (refilled : AreRefilled s.world.memory w.memory)
    (keeps : KeepsFree owner_rights r.homes (muted r.hides s.world.memory) t.world.memory u.memory)
    (spared : AreFieldsSpared b s t r) where
  abbrev R : Rights
  R = frame_rights b.given t.instances

  -- what lies in a block that is free holds what it held
  pub free_kept : (block : ℕ) → IsFreeOf r.homes r.hides s.world.memory block → (o most : ℕ) (bytes : List Byte)
      → Holds R t.world.memory block o most bytes → Holds R u.memory block o most bytes
  free_kept block free o most bytes h =
      free_held owner_rights R r.homes (muted r.hides s.world.memory) t.world.memory u.memory block o most bytes
      (frame_rights_fit b.given t.instances) keeps h
      (λ q less. record { each = λ n k z e live small opens same at. free n z e (inr live) same })

  mates_kept : AreMates r.homes w.memory u.memory
  mates_kept = record {
    whole = λ n x e no_slot.
        let was = was_block s.world.memory w.memory refilled n x e in
        r.mates.whole n was.block was.there
        (ap (λ (z : MemoryBlock). is_slot z) (sym was.is) ∙ no_slot);
    each = λ n k x e home.
        let was = was_block s.world.memory w.memory refilled n x e in
        let mate = r.mates.each n k was.block was.there home in
        let now = is_block t.world.memory u.memory keeps.refilled k (record was.block { bytes = mate.0 }) mate.1 in (
          now.bytes,
          now.there ∙ ap Some (ap (λ (z : MemoryBlock). record z { bytes = now.bytes }) (sym was.is)),
        );
    alone = λ n m k lt lt'.
        r.mates.alone n m k (subst (λ (z : ℕ). n < z) long lt) (subst (λ (z : ℕ). m < z) long lt');
  }
    where
      long : length w.memory ≡ length s.world.memory
      long = as_many s.world.memory w.memory refilled

  pub ahead_kept : (x : Framing) (c : Activation) (v align : ℕ) (ty : Ty)
      → IsAhead x r.homes r.hides s.world.memory t.world.memory c v ty align
      → IsAhead x r.homes r.hides w.memory u.memory c v ty align
  ahead_kept x c v align ty k =
      let now = is_block t.world.memory u.memory keeps.refilled k.block _ k.there in
      record {
        block = k.block;
        address = k.address;
        own = k.own;
        free = free_on r.homes r.hides s.world.memory w.memory refilled k.block k.free;
        bytes = now.bytes;
        sized =
            sym (ap (λ (z : Option MemoryBlock). length (bytes_in z)) now.there)
            ∙ keeps.lengths k.block
            ∙ ap (λ (z : Option MemoryBlock). length (bytes_in z)) k.there
            ∙ k.sized;
        there = now.there;
      }

  pub store_left : LeavesRest b s t r w u
  store_left = record {
    framings = framings;
    cells = λ c l is slot e name o most bytes.
        free_kept slot.block
        (free_below b r.homes r.hides s.world.memory t.below r.cells.1 c l is slot e name) o most bytes;
    fields = λ i x y e h p env is j number live f. record {
      each = λ v position k kept crosses at.
          let z = f.each v position k kept crosses at in
          let long : length z.0 ≡ value_bytes k.field_ty = z.1 in (
            z.0,
            z.1,
            free_held owner_rights R r.homes (muted r.hides s.world.memory) t.world.memory u.memory y.block
                (y.start + offset_at (b.framing x.coroutine).layout position) (value_bytes k.field_ty) z.0
                (frame_rights_fit b.given t.instances) keeps z.2
                (λ q less. spared.fields i x y e h live p env is j number v position k kept crosses at q
                (omega (arith, less, long))),
            z.3,
          );
    };
    returned = λ a c y j l is own from. let no : None ≡ Some j = sym (spared.below a l is) ∙ from in absurd (cc);
    mates = mates_kept;
    free = free_on r.homes r.hides s.world.memory w.memory refilled;
    ahead = λ x c v align ty l. ahead_kept x c v align ty;
    known = as_many s.world.memory w.memory refilled;
  }
