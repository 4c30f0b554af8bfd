-- A block in which no frame is held starts in both runs.
use Rattle.std.proofs.Common.{◌≡◌, ◌≢◌, ℕ, zero, suc, ◌<◌, ◌⊎◌, inl, inr, ⊎_elim, Bool, true, false, List, [], ◌∷◌, Option, Some, None, refl, sym, ap, ◌∙◌, subst, if◌then◌else◌, replicate}
use Rattle.std.specs.Prelude.{slice_get}
use Rattle.std.proofs.lemmas.Bool.{cases_eq, false≢true}
use Rattle.std.proofs.lemmas.List.{length-replicate}
use Rattle.pass_split_proof.proofs.states.Closed.{headed_held, headed_on, lies_by}
use Rattle.pass_split_proof.proofs.states.Killed.{changed_twins, left_too}
use Rattle.pass_split_proof.proofs.states.Standing.{open_bytes, twins_stand}
use Rattle.pass_split_proof.proofs.states.Written.{length-changed}
use Rattle.pass_split_proof.specs.marking.Markers.{HoldsNoFrame}
use Rattle.pass_split_proof.specs.states.Instances.{AreFrames, AreLaidFrames, is_given_in, is_held, is_held_in}
use Rattle.pass_split_proof.specs.states.Memories.{AreBeside, AreTwins, IsTwin, homes_of}
use Rattle.pass_proofs.specs.run_framed.Framed.{FramedGiven}
use Rattle.pass_proofs.proofs.run_laws.access.Held.{same_held}
use Rattle.pass_proofs.proofs.run_laws.memory.Written.{changed_elsewhere, changed_here, same_some}
use Rattle.run_access_worked.proofs.run_laws_worked.Frames.{blank_byte}
use Rattle.pass_proofs.specs.run_laws.memory.Pointers.{IsByte}
use Rattle.pass_proofs.specs.run_laws.memory.Standing.{byte_of, own_homes}
use Rattle.pass_proofs.specs.run_memory.Memory.{is_killed, is_live, owner_rights, start, started, with_block}
use Rattle.pass_proofs.specs.run_memory.declared.block.Byte.{Byte}
use Rattle.pass_proofs.specs.run_memory.declared.block.Kind.{Kind}
use Rattle.pass_proofs.specs.run_memory.declared.block.Life.{Life}
use Rattle.pass_proofs.specs.run_memory.declared.block.MemoryBlock.{MemoryBlock}
use Rattle.pass_proofs.specs.run_source.declared.state.Instance.{Instance}

-- ---- the block

abbrev fresh_bytes : ℕ → List Byte
fresh_bytes n = replicate n Byte.Undefined

abbrev alive : MemoryBlock → MemoryBlock
alive x = record x { life = Life.Live; bytes = fresh_bytes x.size }

starts : (x : MemoryBlock) → is_killed x.life ≡ false → started x ≡ alive x
starts x e = ap (λ (t : Bool). if t then x else alive x) e

stays_dead : (x : MemoryBlock) → is_killed x.life ≡ true → started x ≡ x
stays_dead x e = ap (λ (t : Bool). if t then x else alive x) e

killed_or : (P : Type 0) (x : MemoryBlock) → (is_killed x.life ≡ true → P) → (is_killed x.life ≡ false → P) → P
killed_or P x f g = on (is_killed x.life) refl
  where
    on : (t : Bool) → is_killed x.life ≡ t → P
    on true e = f e
    on false e = g e

alive_twin : (x y : MemoryBlock) → IsTwin x y → IsTwin (alive x) (alive y)
alive_twin x y t = record {
  is = ap (λ (z : MemoryBlock). record z { life = Life.Live; bytes = fresh_bytes y.size }) t.is;
  life = refl;
  long = length-replicate y.size Byte.Undefined ∙ ap (λ (z : MemoryBlock). z.size) t.is
      ∙ sym (length-replicate x.size Byte.Undefined);
  full = λ left. length-replicate x.size Byte.Undefined;
  small = t.small;
  sixteen = t.sixteen;
}

started_twin : (x y : MemoryBlock) → IsTwin x y → IsTwin (started x) (started y)
started_twin x y t = killed_or (IsTwin (started x) (started y)) x
    (λ e. subst (λ (p : MemoryBlock × MemoryBlock). IsTwin p.0 p.1)
    (λ i. (sym (stays_dead x e) i, sym (stays_dead y (same ∙ e)) i)) t)
    (λ e. subst (λ (p : MemoryBlock × MemoryBlock). IsTwin p.0 p.1)
    (λ i. (sym (starts x e) i, sym (starts y (same ∙ e)) i)) (alive_twin x y t))
  where
    same : is_killed y.life ≡ is_killed x.life
    same = left_too x.life y.life t.life

-- what stays, and what it holds where it lives
record IsStarted (u y : MemoryBlock) : Type 0 where
  kind : y.kind ≡ u.kind
  align : y.align ≡ u.align
  size : y.size ≡ u.size
  blank : is_live y.life ≡ true → y.bytes ≡ fresh_bytes y.size

is_started : (u : MemoryBlock) → IsStarted u (started u)
is_started u = killed_or (IsStarted u (started u)) u
    (λ e. subst (IsStarted u) (sym (stays_dead u e)) (record {
      kind = refl;
      align = refl;
      size = refl;
      blank = λ live. absurd (dead u.life e live);
    }))
    (λ e. subst (IsStarted u) (sym (starts u e)) (record {
      kind = refl;
      align = refl;
      size = refl;
      blank = λ live. refl;
    }))
  where
    dead : (l : Life) → is_killed l ≡ true → is_live l ≡ true → ⊥
    dead Life.Live e live = false≢true e
    dead Life.Ended e live = false≢true e
    dead Life.Killed e live = false≢true live

-- ---- memories and frames

module _ (g : FramedGiven) (xs : List Instance) (m n : List MemoryBlock) (b : ℕ) (clear : HoldsNoFrame xs m b) where
  abbrev k : List MemoryBlock
  k = start m b

  abbrev l : List MemoryBlock
  l = start n b

  none_there : (m : List MemoryBlock) (b : ℕ) → slice_get m b ≡ None → slice_get (with_block m b started) b ≡ None
  none_there [] b e = refl
  none_there (u ∷ m) zero e = absurd (cc)
  none_there (u ∷ m) (suc b) e = none_there m b e

  -- a block was there before, and is the same or has started
  record Once (c : ℕ) (y : MemoryBlock) : Type 0 where
    block : MemoryBlock
    there : slice_get m c ≡ Some block
    same : (c ≢ b × (y ≡ block)) ⊎ (c ≡ b × IsStarted block y)

  once : (c : ℕ) (y : MemoryBlock) → slice_get k c ≡ Some y → Once c y
  once c y e = ⊎_elim (λ is. here is (slice_get m b) refl)
      (λ ne. record { block = y; there = sym (changed_elsewhere m b c started ne) ∙ e; same = inl (ne, refl) })
      (cases_eq c b)
    where
      here : c ≡ b → (o : Option MemoryBlock) → slice_get m b ≡ o → Once c y
      here is (Some u) at = record {
        block = u;
        there = ap (slice_get m) is ∙ at;
        same = inr (
          is,
          subst (IsStarted u) (same_some (started u) y (sym (changed_here m b started u at)
              ∙ ap (slice_get k) (sym is) ∙ e)) (is_started u),
        );
      }
      here is None at = absurd (nothing (sym (none_there m b at) ∙ ap (slice_get k) (sym is) ∙ e))
        where
          nothing : None ≡ Some y → ⊥
          nothing h = cc

  kind_was : (c : ℕ) (y : MemoryBlock) (w : Once c y) → y.kind ≡ w.block.kind
  kind_was c y w = ⊎_elim (λ p. ap (λ (z : MemoryBlock). z.kind) p.1) (λ p. p.1.kind) w.same

  -- a block of an allocator is another one
  heap_same : (c : ℕ) (y : MemoryBlock) → slice_get k c ≡ Some y → y.kind ≡ Kind.Allocator → slice_get m c ≡ Some y
  heap_same c y e kind = let w = once c y e in ⊎_elim
      (λ p. w.there ∙ ap (λ (z : MemoryBlock). Some z) (sym p.1))
      (λ p. absurd (clear.heap w.block (ap (slice_get m) (sym p.0) ∙ w.there) (sym (kind_was c y w) ∙ kind)))
      w.same

  -- a frame that is held lies elsewhere
  elsewhere : (i : ℕ) (x : Instance) → slice_get xs i ≡ Some x → is_held k x ≡ true → x.block ≢ b
  elsewhere i x e held is = false≢true (sym (clear.free i x e is) ∙ held)

  was_held : (i : ℕ) (x : Instance) → slice_get xs i ≡ Some x → is_held k x ≡ true → is_held m x ≡ true
  was_held i x e held = ap (λ (o : Option MemoryBlock). is_held_in o x)
      (sym (changed_elsewhere m b x.block started (elsewhere i x e held))) ∙ held

  pub started_laid : AreLaidFrames g xs m → AreLaidFrames g xs k
  started_laid frames = record {
    known = λ i x e. subst (λ (q : ℕ). x.block < q) (sym (length-changed m b started)) (frames.known i x e);
    slots = frames.slots;
    owned = λ i x y e fresh at live kind. frames.owned i x y e fresh (heap_same x.block y at kind) live kind;
    gone = λ i x y e freed at kind. frames.gone i x y e freed (heap_same x.block y at kind) kind;
    lies = λ i x y e at. let w = once x.block y at in
        lies_by g x w.block y
        (⊎_elim (λ p. ap (λ (z : MemoryBlock). z.align) p.1) (λ p. p.1.align) w.same)
        (⊎_elim (λ p. ap (λ (z : MemoryBlock). z.size) p.1) (λ p. p.1.size) w.same)
        (frames.lies i x w.block e w.there);
    closed = λ i x y at e held. frames.closed i x y at e (was_held i x e held);
    apart = λ i j x y at ne e f held held'. frames.apart i j x y at ne e f (was_held i x e held) (was_held j y f held');
  }

  pub started_frames : AreFrames g xs m n → AreFrames g xs k l
  started_frames frames = record {
    laid = started_laid frames.laid;
    headed = λ i x e held. headed_on g m k l x
        (ap (λ (o : Option MemoryBlock). is_given_in o x) (changed_elsewhere m b x.block started (elsewhere i x
        e held)))
        (headed_held g n l x
        (λ o most bytes some control holds. same_held owner_rights n l x.block o most bytes
        (changed_elsewhere n b x.block started (elsewhere i x e held)) holds)
        (frames.headed i x e (was_held i x e held)));
  }

  pub started_beside : AreLaidFrames g xs m → AreBeside g xs m n → AreBeside g xs k l
  started_beside frames beside = record {
    twins = twins;
    stands = twins_stand g xs k l twins (started_laid frames).lies (λ c i u v e at live lt opened.
        let w = once c u e in ⊎_elim
        (λ p. subst (λ (q : ℕ). IsByte (own_homes 0 q) (byte_of u i) (byte_of v i)) (sym (length-changed m b started))
        (open_bytes g xs m n beside.stands c i u v (w.there ∙ ap (λ (z : MemoryBlock). Some z) (sym p.1))
        (sym (changed_elsewhere n b c started p.0) ∙ at) live lt opened))
        (λ p. blank_byte (homes_of k) u u.size i (byte_of v i) (p.1.blank live) lt)
        w.same);
  }
    where
      twins : AreTwins k l
      twins = changed_twins started started started_twin m n b beside.twins
