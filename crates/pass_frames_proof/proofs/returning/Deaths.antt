-- Slots die: what becomes of blocks in which they are, and of a source that stands in a target.
use Rattle.std.proofs.Common.{◌≡◌, ◌⊎◌, inl, inr, ⊎_elim, ℕ, zero, suc, ◌<◌, Bool, true, false, List, [], ◌∷◌, length, refl, sym, ap, ◌∙◌, arith}
use Rattle.std.specs.List.{Contains}
use Rattle.std.specs.Prelude.{None, Option, Some, option_map, slice_get, ◌≢◌, ◌||◌, not}
use Rattle.pass_frames_steps.proofs.ir_laws.facts.Truth.{is_number}
use Rattle.pass_frames_steps.specs.Returning.{IsAmong}
use Rattle.pass_frames_steps.proofs.stepping.Stored.{muted_is}
use Rattle.pass_frames_steps.proofs.pass_renewed_proof.Marked.{length_with}
use Rattle.pass_frames_steps.specs.run_framed.Framed.{FramedGiven, frame_rights}
use Rattle.pass_frames_steps.proofs.run_laws.memory.Itself.{owner_rights_fit}
use Rattle.pass_frames_steps.proofs.run_laws.memory.Written.{changed_elsewhere, changed_here}
use Rattle.pass_frames_steps.proofs.run_laws.transfer.Places.{fewer_stand, given_back}
use Rattle.pass_frames_steps.specs.run_laws.memory.Pointers.{Home, home_of}
use Rattle.pass_frames_steps.specs.run_laws.transfer.Muted.{ended_if, muted}
use Rattle.pass_frames_steps.specs.run_laws.transfer.Places.{AreStanding, HasFewer}
use Rattle.pass_frames_steps.proofs.run_access_worked.run_laws_worked.Frames.{frame_rights_fit}
use Rattle.pass_frames_steps.specs.run_memory.Memory.{Rights, is_live, killed, killed_block, may_compare_at, owner_rights}
use Rattle.pass_frames_steps.specs.run_memory.declared.block.MemoryBlock.{MemoryBlock}
use Rattle.pass_frames_steps.specs.run_memory.declared.pointer.Offset.{Offset}
use Rattle.pass_frames_steps.specs.run_source.declared.state.Instance.{Instance}
use Rattle.pass_frames_steps.specs.run_step.Step.{without_slots}
use Rattle.pass_frames_steps.specs.run_step.declared.world.Slot.{Slot}

-- ---- blocks of slots

pub is_among : (n : ℕ) (ss : List Slot) → IsAmong n ss ⊎ (IsAmong n ss → ⊥)
is_among n [] = inr (λ l. l)
is_among n (s ∷ ss) =
    ⊎_elim (λ e. inl (inl e))
    (λ differ. ⊎_elim (λ l. inl (inr l)) (λ none. inr (λ k. ⊎_elim differ none k)) (is_among n ss))
    (is_number n s.block)

pub slot_among : (n : ℕ) (ss : List Slot) → IsAmong n ss
    → (slot : Slot) × Contains ss slot × (slot.block ≡ n)
slot_among n [] l = absurd l
slot_among n (s ∷ ss) (inl e) = (s, (0, omega arith, refl), sym e)
slot_among n (s ∷ ss) (inr l) =
    let r = slot_among n ss l in
    let lt : r.1.0 < length ss = r.1.1 in (
      r.0,
      (suc r.1.0, omega (arith, lt), r.1.2),
      r.2,
    )

-- ---- what becomes of blocks

pub kept_there : (ss : List Slot) (m : List MemoryBlock) (n : ℕ) → (IsAmong n ss → ⊥)
    → slice_get (without_slots m ss) n ≡ slice_get m n
kept_there [] m n none = refl
kept_there (s ∷ ss) m n none =
    kept_there ss (killed m s.block) n (λ l. none (inr l))
    ∙ changed_elsewhere m s.block n killed_block (λ e. none (inl e))

-- once dead it is so
still_dead : (ss : List Slot) (m : List MemoryBlock) (n : ℕ) (x : MemoryBlock) → slice_get m n ≡ Some (killed_block x)
    → slice_get (without_slots m ss) n ≡ Some (killed_block x)
still_dead [] m n x e = e
still_dead (s ∷ ss) m n x e =
    ⊎_elim
    (λ same. still_dead ss (killed m s.block) n x
    (ap (λ (k : ℕ). slice_get (killed m k) n) (sym same) ∙ changed_here m n killed_block (killed_block x) e))
    (λ differ. still_dead ss (killed m s.block) n x (changed_elsewhere m s.block n killed_block differ ∙ e))
    (is_number n s.block)

pub dead_there : (ss : List Slot) (m : List MemoryBlock) (n : ℕ) (x : MemoryBlock) → IsAmong n ss
    → slice_get m n ≡ Some x → slice_get (without_slots m ss) n ≡ Some (killed_block x)
dead_there [] m n x l e = absurd l
dead_there (s ∷ ss) m n x (inl same) e =
    still_dead ss (killed m s.block) n x
    (ap (λ (k : ℕ). slice_get (killed m k) n) (sym same) ∙ changed_here m n killed_block x e)
dead_there (s ∷ ss) m n x (inr l) e =
    ⊎_elim
    (λ same. still_dead ss (killed m s.block) n x
    (ap (λ (k : ℕ). slice_get (killed m k) n) (sym same) ∙ changed_here m n killed_block x e))
    (λ differ. dead_there ss (killed m s.block) n x l (changed_elsewhere m s.block n killed_block differ ∙ e))
    (is_number n s.block)

pub without_length : (ss : List Slot) (m : List MemoryBlock) → length (without_slots m ss) ≡ length m
without_length [] m = refl
without_length (s ∷ ss) m = without_length ss (killed m s.block) ∙ length_with m s.block killed_block

-- a block behind it, and what it was: it died, or is as it was
pub record WasThere (ss : List Slot) (m : List MemoryBlock) (n : ℕ) (z : MemoryBlock) : Type 0 where
  pub block : MemoryBlock
  pub there : slice_get m n ≡ Some block
  pub is : (IsAmong n ss × (z ≡ killed_block block)) ⊎ ((IsAmong n ss → ⊥) × (z ≡ block))

pub was_there : (ss : List Slot) (m : List MemoryBlock) (n : ℕ) (z : MemoryBlock)
    → slice_get (without_slots m ss) n ≡ Some z → WasThere ss m n z
was_there ss m n z e = on (is_among n ss) (slice_get m n) refl
  where
    none_left : (ks : List Slot) (k : List MemoryBlock) → slice_get k n ≡ None → slice_get (without_slots k ks) n ≡ None
    none_left [] k d = d
    none_left (s ∷ ks) k d =
        none_left ks (killed k s.block)
        (⊎_elim (λ same. on_same k s.block same d) (λ differ. changed_elsewhere k s.block n killed_block differ ∙ d)
        (is_number n s.block))
      where
        none_here : (q : List MemoryBlock) (j : ℕ) → slice_get q j ≡ None → slice_get (killed q j) j ≡ None
        none_here [] j d = refl
        none_here (x ∷ q) zero d = absurd (cc)
        none_here (x ∷ q) (suc j) d = none_here q j d

        on_same : (q : List MemoryBlock) (j : ℕ) → n ≡ j → slice_get q n ≡ None → slice_get (killed q j) n ≡ None
        on_same q j same d = ap (λ (i : ℕ). slice_get (killed q i) n) (sym same) ∙ none_here q n d

    on : IsAmong n ss ⊎ (IsAmong n ss → ⊥) → (o : Option MemoryBlock) → slice_get m n ≡ o → WasThere ss m n z
    on q None d = let no : None ≡ Some z = sym (none_left ss m d) ∙ e in absurd (cc)
    on (inl l) (Some x) d =
        let both : Some (killed_block x) ≡ Some z = sym (dead_there ss m n x l d) ∙ e in
        let one : killed_block x ≡ z = cc in
        record { block = x; there = d; is = inl (l, sym one) }
    on (inr none) (Some x) d =
        let same : Some x ≡ Some z = sym d ∙ sym (kept_there ss m n none) ∙ e in
        let one : x ≡ z = cc in
        record { block = x; there = d; is = inr (none, sym one) }

-- ---- where blocks count as dead, too

dead_ended : (h : Bool) (x : MemoryBlock) → is_live (ended_if h (killed_block x)).life ≡ true → ⊥
dead_ended true x e = absurd (cc)
dead_ended false x e = absurd (cc)

same_size : (h : Bool) (x z : MemoryBlock) → z ≡ killed_block x → (ended_if h x).size ≡ (ended_if h z).size
same_size true x z e = sym (ap (λ (q : MemoryBlock). q.size) e)
same_size false x z e = sym (ap (λ (q : MemoryBlock). q.size) e)

-- what lives is none of them, and is as it was
pub living : (hides : ℕ → Bool) (ss : List Slot) (m : List MemoryBlock) (n : ℕ) (z : MemoryBlock)
    → slice_get (muted hides (without_slots m ss)) n ≡ Some z → is_live z.life ≡ true
    → (IsAmong n ss → ⊥) × (slice_get (muted hides m) n ≡ Some z)
living hides ss m n z e live = on (slice_get (without_slots m ss) n) refl (sym (muted_is hides (without_slots m ss) n) ∙ e)
  where
    on : (o : Option MemoryBlock) → slice_get (without_slots m ss) n ≡ o → option_map (ended_if (hides n)) o ≡ Some z
        → (IsAmong n ss → ⊥) × (slice_get (muted hides m) n ≡ Some z)
    on None d f = absurd (cc)
    on (Some x) d f = by (was_there ss m n x d).is
      where
        w : WasThere ss m n x
        w = was_there ss m n x d

        one : ended_if (hides n) x ≡ z
        one = cc

        by : (IsAmong n ss × (x ≡ killed_block w.block)) ⊎ ((IsAmong n ss → ⊥) × (x ≡ w.block))
            → (IsAmong n ss → ⊥) × (slice_get (muted hides m) n ≡ Some z)
        by (inl k) =
            absurd (dead_ended (hides n) w.block
            (ap (λ (q : MemoryBlock). is_live (ended_if (hides n) q).life) (sym k.1)
            ∙ ap (λ (q : MemoryBlock). is_live q.life) one ∙ live))
        by (inr k) = (
          k.0,
          muted_is hides m n ∙ ap (option_map (ended_if (hides n))) (w.there ∙ ap Some (sym k.1)) ∙ ap Some one,
        )

-- ---- the memories

or_true : (a : Bool) → (a || true) ≡ true
or_true true = refl
or_true false = refl

-- in frames pointers may be compared everywhere
frame_compares : (g : FramedGiven) (ys : List Instance) (b : ℕ) (x : Option MemoryBlock) (o : Offset)
    → may_compare_at (frame_rights g ys) b x o ≡ true
frame_compares g ys b None o = refl
frame_compares g ys b (Some x) o = or_true (not (is_live x.life))

module _ (g : FramedGiven) (ys : List Instance) (homes : List Home) (hides : ℕ → Bool) (m : List MemoryBlock) where
  abbrev R : Rights
  R = frame_rights g ys

  pub fewer : (ss : List Slot) (n : List MemoryBlock)
      → HasFewer R homes (muted hides m) (muted hides (without_slots m ss)) n
  fewer ss n = record {
    live = λ b x e live. (living hides ss m b x e live).1;
    nulls = λ b seen. inr (record {
      each = λ o. frame_compares g ys (home_of homes b).block (slice_get n (home_of homes b).block) _;
    });
    sizes = λ b x e. sizes_by b x (slice_get (without_slots m ss) b) refl
        (sym (muted_is hides (without_slots m ss) b) ∙ e);
  }
    where
      sizes_by : (b : ℕ) (x : MemoryBlock) (o : Option MemoryBlock) → slice_get (without_slots m ss) b ≡ o
          → option_map (ended_if (hides b)) o ≡ Some x
          → (y : MemoryBlock) × (slice_get (muted hides m) b ≡ Some y) × (y.size ≡ x.size)
      sizes_by b x None d f = absurd (cc)
      sizes_by b x (Some z) d f =
          let w = was_there ss m b z d in
          let one : ended_if (hides b) z ≡ x = cc in (
            ended_if (hides b) w.block,
            muted_is hides m b ∙ ap (option_map (ended_if (hides b))) w.there,
            ⊎_elim (λ k. same_size (hides b) w.block z k.1)
                (λ k. ap (λ (q : MemoryBlock). (ended_if (hides b) q).size) (sym k.1)) w.is
                ∙ ap (λ (q : MemoryBlock). q.size) one,
          )

  -- blocks of the target die in which nothing of the source stands
  pub all_given : (k : List MemoryBlock) (ts : List Slot) (n : List MemoryBlock)
      → ((slot : Slot) → Contains ts slot → (b : ℕ) (x : MemoryBlock) → slice_get k b ≡ Some x
      → is_live x.life ≡ true → (home_of homes b).block ≢ slot.block)
      → AreStanding owner_rights R homes k n → AreStanding owner_rights R homes k (without_slots n ts)
  all_given k [] n empty st = st
  all_given k (s ∷ ts) n empty st =
      all_given k ts (killed n s.block) (λ slot c. empty slot (
        suc c.0,
        (let lt : c.0 < length ts = c.1 in
            omega (arith, lt)),
        c.2,
      ))
      (given_back owner_rights R homes k n s.block owner_rights_fit (frame_rights_fit g ys)
      (empty s (0, omega arith, refl)) st)

  pub both_die : (ss ts : List Slot) (n : List MemoryBlock)
      → ((slot : Slot) → Contains ts slot → (b : ℕ) (x : MemoryBlock)
      → slice_get (muted hides (without_slots m ss)) b ≡ Some x → is_live x.life ≡ true
      → (home_of homes b).block ≢ slot.block)
      → AreStanding owner_rights R homes (muted hides m) n
      → AreStanding owner_rights R homes (muted hides (without_slots m ss)) (without_slots n ts)
  both_die ss ts n empty st =
      all_given (muted hides (without_slots m ss)) ts n empty
      (fewer_stand owner_rights R homes (muted hides m) (muted hides (without_slots m ss)) n (fewer ss n) st)
