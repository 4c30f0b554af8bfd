-- Blocks die in both runs: slots as their activation returns, and what is given back to an allocator.
use Rattle.std.proofs.Common.{◌≡◌, ◌≢◌, ℕ, zero, suc, ◌<◌, ◌⊎◌, inl, inr, ⊎_elim, Bool, true, false, List, [], ◌∷◌, Option, Some, None, refl, sym, ap, ◌∙◌, subst, if◌then◌else◌}
use Rattle.std.specs.Prelude.{slice_get}
use Rattle.std.specs.Option.{option_map_or}
use Rattle.std.proofs.lemmas.Bool.{and_parts, cases_eq, false≢true}
use Rattle.pass_split_proof.proofs.states.Closed.{headed_held, headed_on, lies_by}
use Rattle.pass_split_proof.proofs.states.Standing.{open_bytes, twins_stand}
use Rattle.pass_split_proof.proofs.states.Written.{length-changed}
use Rattle.pass_split_proof.specs.states.Instances.{AreFrames, AreLaidFrames, LiesAligned, is_given_in, is_held, is_held_in}
use Rattle.pass_split_proof.specs.states.Memories.{AreBeside, AreTwins, AreTwinsAt, IsTwin, LivesAs}
use Rattle.pass_proofs.specs.run_framed.Framed.{FramedGiven}
use Rattle.pass_proofs.proofs.run_laws.access.Held.{same_held}
use Rattle.pass_proofs.proofs.run_laws.memory.Written.{changed_elsewhere, changed_here, same_some}
use Rattle.pass_proofs.specs.run_laws.memory.Pointers.{IsByte}
use Rattle.pass_proofs.specs.run_laws.memory.Standing.{byte_of, own_homes}
use Rattle.pass_proofs.specs.run_memory.Memory.{ended, is_killed, is_live, killed, killed_block, owner_rights, with_block}
use Rattle.pass_proofs.specs.run_memory.declared.block.Kind.{Kind}
use Rattle.pass_proofs.specs.run_memory.declared.block.Life.{Life}
use Rattle.pass_proofs.specs.run_memory.declared.block.MemoryBlock.{MemoryBlock}
use Rattle.pass_proofs.specs.run_source.declared.state.Instance.{Instance}
use Rattle.pass_proofs.specs.run_step.Step.{without_slots}
use Rattle.pass_proofs.specs.run_step.declared.world.Slot.{Slot}

-- ---- both change a block

module _ (f h : MemoryBlock → MemoryBlock) (keeps : (x y : MemoryBlock) → IsTwin x y → IsTwin (f x) (h y)) where
  changed_at : (m n : List MemoryBlock) (b : ℕ) → ((c : ℕ) → AreTwinsAt (slice_get m c) (slice_get n c)) → (c : ℕ)
      → AreTwinsAt (slice_get (with_block m b f) c) (slice_get (with_block n b h) c)
  changed_at [] [] b t c = tt
  changed_at [] (v ∷ n) b t c = absurd (t 0)
  changed_at (u ∷ m) [] b t c = absurd (t 0)
  changed_at (u ∷ m) (v ∷ n) zero t zero = keeps u v (t 0)
  changed_at (u ∷ m) (v ∷ n) zero t (suc c) = t (suc c)
  changed_at (u ∷ m) (v ∷ n) (suc b) t zero = t 0
  changed_at (u ∷ m) (v ∷ n) (suc b) t (suc c) = changed_at m n b (λ d. t (suc d)) c

  -- twins stay twins where both change alike
  pub changed_twins : (m n : List MemoryBlock) (b : ℕ) → AreTwins m n → AreTwins (with_block m b f) (with_block n b h)
  changed_twins m n b t = record {
    each = changed_at m n b t.each;
    long = length-changed n b h ∙ t.long ∙ sym (length-changed m b f);
  }

killed_twin : (x y : MemoryBlock) → IsTwin x y → IsTwin (killed_block x) (killed_block y)
killed_twin x y t = record {
  is = ap killed_block t.is;
  life = refl;
  long = refl;
  full = λ left. absurd (false≢true (sym left));
  small = t.small;
  sixteen = t.sixteen;
}

is_ended : (x : MemoryBlock) → is_killed x.life ≡ false → ended x ≡ record x { life = Life.Ended }
is_ended x e = ap (λ (t : Bool). if t then x else record x { life = Life.Ended }) e

stays_killed : (x : MemoryBlock) → is_killed x.life ≡ true → ended x ≡ x
stays_killed x e = ap (λ (t : Bool). if t then x else record x { life = Life.Ended }) e

ended_dead : (x : MemoryBlock) (l : Life) → x.life ≡ l → is_live (ended x).life ≡ false
ended_dead x Life.Live e = ap (λ (z : MemoryBlock). is_live z.life) (is_ended x (ap is_killed e))
ended_dead x Life.Ended e = ap (λ (z : MemoryBlock). is_live z.life) (is_ended x (ap is_killed e))
ended_dead x Life.Killed e = ap (λ (z : MemoryBlock). is_live z.life) (stays_killed x (ap is_killed e)) ∙ ap is_live e

ended_align : (x : MemoryBlock) (l : Life) → x.life ≡ l → (ended x).align ≡ x.align
ended_align x Life.Live e = ap (λ (z : MemoryBlock). z.align) (is_ended x (ap is_killed e))
ended_align x Life.Ended e = ap (λ (z : MemoryBlock). z.align) (is_ended x (ap is_killed e))
ended_align x Life.Killed e = ap (λ (z : MemoryBlock). z.align) (stays_killed x (ap is_killed e))

ended_size : (x : MemoryBlock) (l : Life) → x.life ≡ l → (ended x).size ≡ x.size
ended_size x Life.Live e = ap (λ (z : MemoryBlock). z.size) (is_ended x (ap is_killed e))
ended_size x Life.Ended e = ap (λ (z : MemoryBlock). z.size) (is_ended x (ap is_killed e))
ended_size x Life.Killed e = ap (λ (z : MemoryBlock). z.size) (stays_killed x (ap is_killed e))

ended_twins : (x y : MemoryBlock) → is_killed x.life ≡ false → IsTwin x y
    → IsTwin (record x { life = Life.Ended }) (record y { life = Life.Ended })
ended_twins x y left t = record {
  is = ap (λ (z : MemoryBlock). record z { life = Life.Ended }) t.is;
  life = refl;
  long = t.long;
  full = λ same. t.full left;
  small = t.small;
  sixteen = t.sixteen;
}

-- or the second stays as it is
ended_alone : (x y : MemoryBlock) → is_killed x.life ≡ false → is_killed y.life ≡ false → IsTwin x y
    → IsTwin (record x { life = Life.Ended }) y
ended_alone x y left too t = record {
  is = t.is;
  life = too;
  long = t.long;
  full = λ same. t.full left;
  small = t.small;
  sixteen = t.sixteen;
}

pub left_too : (l k : Life) → LivesAs l k → is_killed k ≡ is_killed l
left_too Life.Live k same = ap is_killed same
left_too Life.Ended k same = same
left_too Life.Killed k same = ap is_killed same

module _ (x y : MemoryBlock) (t : IsTwin x y) where
  same_killed : is_killed y.life ≡ is_killed x.life
  same_killed = left_too x.life y.life t.life

  both : is_killed x.life ≡ false → IsTwin (ended x) (ended y)
  both f = subst (λ (p : MemoryBlock × MemoryBlock). IsTwin p.0 p.1)
      (λ i. (sym (is_ended x f) i, sym (is_ended y (same_killed ∙ f)) i)) (ended_twins x y f t)

  neither : is_killed x.life ≡ true → IsTwin (ended x) (ended y)
  neither f = subst (λ (p : MemoryBlock × MemoryBlock). IsTwin p.0 p.1)
      (λ i. (sym (stays_killed x f) i, sym (stays_killed y (same_killed ∙ f)) i)) t

  first : is_killed x.life ≡ false → IsTwin (ended x) y
  first f = subst (λ (z : MemoryBlock). IsTwin z y) (sym (is_ended x f)) (ended_alone x y f (same_killed ∙ f) t)

  first_killed : is_killed x.life ≡ true → IsTwin (ended x) y
  first_killed f = subst (λ (z : MemoryBlock). IsTwin z y) (sym (stays_killed x f)) t

  ended_twin : (l : Life) → x.life ≡ l → IsTwin (ended x) (ended y)
  ended_twin Life.Live e = both (ap is_killed e)
  ended_twin Life.Ended e = both (ap is_killed e)
  ended_twin Life.Killed e = neither (ap is_killed e)

  ended_first : (l : Life) → x.life ≡ l → IsTwin (ended x) y
  ended_first Life.Live e = first (ap is_killed e)
  ended_first Life.Ended e = first (ap is_killed e)
  ended_first Life.Killed e = first_killed (ap is_killed e)

-- ---- a block that dies

-- a way in which a block dies in the framed run, and what becomes of its twin
pub record IsDeath (f h : MemoryBlock → MemoryBlock) : Type 0 where
  pub dead : (x : MemoryBlock) → is_live (f x).life ≡ false
  pub twin : (x y : MemoryBlock) → IsTwin x y → IsTwin (f x) (h y)
  pub align : (x : MemoryBlock) → (f x).align ≡ x.align
  pub size : (x : MemoryBlock) → (f x).size ≡ x.size

pub kills : IsDeath killed_block killed_block
kills = record { dead = λ x. refl; twin = killed_twin; align = λ x. refl; size = λ x. refl }

pub ends : IsDeath ended ended
ends = record {
  dead = λ x. ended_dead x x.life refl;
  twin = λ x y t. ended_twin x y t x.life refl;
  align = λ x. ended_align x x.life refl;
  size = λ x. ended_size x x.life refl;
}

-- the twin of a block that ends may stay
abbrev pub stays : MemoryBlock → MemoryBlock
stays y = y

pub ends_alone : IsDeath ended stays
ends_alone = record {
  dead = λ x. ended_dead x x.life refl;
  twin = λ x y t. ended_first x y t x.life refl;
  align = λ x. ended_align x x.life refl;
  size = λ x. ended_size x x.life refl;
}

pub all_stay : (n : List MemoryBlock) (b : ℕ) → with_block n b stays ≡ n
all_stay [] b = refl
all_stay (y ∷ n) zero = refl
all_stay (y ∷ n) (suc b) = ap (λ (rest : List MemoryBlock). y ∷ rest) (all_stay n b)

module _ (f h : MemoryBlock → MemoryBlock) (death : IsDeath f h) (g : FramedGiven) (xs : List Instance)
    (m n : List MemoryBlock) (b : ℕ) where
  none_there : (m : List MemoryBlock) (b : ℕ) → slice_get m b ≡ None → slice_get (with_block m b f) b ≡ None
  none_there [] b e = refl
  none_there (u ∷ m) zero e = absurd (cc)
  none_there (u ∷ m) (suc b) e = none_there m b e

  dead_at : (o : Option MemoryBlock) → slice_get m b ≡ o → option_map_or (λ (x : MemoryBlock). is_live x.life)
      (slice_get (with_block m b f) b) false ≡ false
  dead_at None e = ap (λ (p : Option MemoryBlock). option_map_or (λ (x : MemoryBlock). is_live x.life) p false)
      (none_there m b e)
  dead_at (Some u) e = ap (λ (p : Option MemoryBlock). option_map_or (λ (x : MemoryBlock). is_live x.life) p false)
      (changed_here m b f u e) ∙ death.dead u

  -- what lives is another block
  lives_elsewhere : (c : ℕ) → option_map_or (λ (x : MemoryBlock). is_live x.life) (slice_get (with_block m b f) c)
      false ≡ true → c ≢ b
  lives_elsewhere c live e = false≢true (sym (dead_at (slice_get m b) refl)
      ∙ ap (λ (k : ℕ). option_map_or (λ (x : MemoryBlock). is_live x.life) (slice_get (with_block m b f) k) false)
      (sym e) ∙ live)

  held_elsewhere : (z : Instance) → is_held (with_block m b f) z ≡ true → z.block ≢ b
  held_elsewhere z held = lives_elsewhere z.block (and_parts _ _ (and_parts _ _ held).1).1

  was_held : (z : Instance) → is_held (with_block m b f) z ≡ true → is_held m z ≡ true
  was_held z held
      = ap (λ (o : Option MemoryBlock). is_held_in o z) (sym (changed_elsewhere m b z.block f (held_elsewhere z held)))
      ∙ held

  live_block : (c : ℕ) (y : MemoryBlock) → slice_get (with_block m b f) c ≡ Some y → is_live y.life ≡ true
      → slice_get m c ≡ Some y
  live_block c y e live
      = sym
      (changed_elsewhere m b c f
      (lives_elsewhere c (ap (λ (o : Option MemoryBlock). option_map_or (λ (x : MemoryBlock). is_live x.life) o false)
      e ∙ live))) ∙ e

  -- a block was there before, and is dead or the same
  record Once (c : ℕ) (y : MemoryBlock) : Type 0 where
    block : MemoryBlock
    there : slice_get m c ≡ Some block
    same : (y ≡ block) ⊎ (y ≡ f block)

  once : (c : ℕ) (y : MemoryBlock) → slice_get (with_block m b f) c ≡ Some y → Once c y
  once c y e =
      ⊎_elim (λ is. here is (slice_get m b) refl)
      (λ ne. record { block = y; there = sym (changed_elsewhere m b c f ne) ∙ e; same = inl refl }) (cases_eq c b)
    where
      here : c ≡ b → (o : Option MemoryBlock) → slice_get m b ≡ o → Once c y
      here is (Some u) at
          = record {
            block = u;
            there = ap (slice_get m) is ∙ at;
            same = inr (same_some y (f u) (sym e ∙ ap (slice_get (with_block m b f)) is ∙ changed_here m b f u at));
          }
      here is None at = absurd (nothing (sym (none_there m b at) ∙ ap (slice_get (with_block m b f)) (sym is) ∙ e))
        where
          nothing : None ≡ Some y → ⊥
          nothing h = cc

  gone_now : (i : ℕ) (z : Instance) (y : MemoryBlock) → AreLaidFrames g xs m → slice_get xs i ≡ Some z → z.freed ≡ true
      → y.kind ≡ Kind.Allocator → Once z.block y → is_live y.life ≡ false
  gone_now i z y frames e freed kind w = ⊎_elim
      (λ same. ap (λ (q : MemoryBlock). is_live q.life) same
      ∙ frames.gone i z w.block e freed w.there (sym (ap (λ (q : MemoryBlock). q.kind) same) ∙ kind))
      (λ same. ap (λ (q : MemoryBlock). is_live q.life) same ∙ death.dead w.block)
      w.same

  lies_now : (i : ℕ) (z : Instance) (y : MemoryBlock) → AreLaidFrames g xs m → slice_get xs i ≡ Some z → Once z.block y
      → LiesAligned g z y
  lies_now i z y frames e w =
      let align : y.align ≡ w.block.align = ⊎_elim (λ same. ap (λ (q : MemoryBlock). q.align) same)
      (λ same. ap (λ (q : MemoryBlock). q.align) same ∙ death.align w.block) w.same in
      let size : y.size ≡ w.block.size = ⊎_elim (λ same. ap (λ (q : MemoryBlock). q.size) same)
      (λ same. ap (λ (q : MemoryBlock). q.size) same ∙ death.size w.block) w.same in
      lies_by g z w.block y align size (frames.lies i z w.block e w.there)

  pub dead_laid : AreLaidFrames g xs m → AreLaidFrames g xs (with_block m b f)
  dead_laid frames = record {
    known = λ i z e. subst (λ (k : ℕ). z.block < k) (sym (length-changed m b f)) (frames.known i z e);
    slots = frames.slots;
    owned = λ i z y e fresh at live kind. frames.owned i z y e fresh (live_block z.block y at live) live kind;
    gone = λ i z y e freed at kind. gone_now i z y frames e freed kind (once z.block y at);
    lies = λ i z y e at. lies_now i z y frames e (once z.block y at);
    closed = λ i z y at e held. frames.closed i z y at e (was_held z held);
    apart = λ i j z w at ne e f held held'. frames.apart i j z w at ne e f (was_held z held) (was_held w held');
  }

  pub dead_frames : AreFrames g xs m n → AreFrames g xs (with_block m b f) (with_block n b h)
  dead_frames frames = record {
    laid = dead_laid frames.laid;
    headed = λ i z e held. headed_on g m (with_block m b f) (with_block n b h) z
        (ap (λ (o : Option MemoryBlock). is_given_in o z) (changed_elsewhere m b z.block f (held_elsewhere z held)))
        (headed_held g n (with_block n b h) z
        (λ o most bytes some control holds. same_held owner_rights n (with_block n b h) z.block o most bytes
        (changed_elsewhere n b z.block h (held_elsewhere z held)) holds)
        (frames.headed i z e (was_held z held)));
  }

  -- the memories stand beside each other without the block
  pub dead_beside : AreLaidFrames g xs m → AreBeside g xs m n → AreBeside g xs (with_block m b f) (with_block n b h)
  dead_beside frames beside = record {
    twins = twins;
    stands = twins_stand g xs (with_block m b f) (with_block n b h) twins (dead_laid frames).lies
        (λ c i u v e at live lt opened.
        let other = lives_elsewhere c
        (ap (λ (o : Option MemoryBlock). option_map_or (λ (x : MemoryBlock). is_live x.life) o false) e ∙ live) in
        subst (λ (k : ℕ). IsByte (own_homes 0 k) (byte_of u i) (byte_of v i)) (sym (length-changed m b f))
        (open_bytes g xs m n beside.stands c i u v (live_block c u e live) (sym (changed_elsewhere n b c h other)
        ∙ at) live lt opened));
  }
    where
      twins : AreTwins (with_block m b f) (with_block n b h)
      twins = changed_twins f h death.twin m n b beside.twins

-- ---- the slots of an activation

module _ (g : FramedGiven) (xs : List Instance) where
  pub returned_frames : (slots : List Slot) (m n : List MemoryBlock) → AreFrames g xs m n
      → AreFrames g xs (without_slots m slots) (without_slots n slots)
  returned_frames [] m n frames = frames
  returned_frames (s ∷ slots) m n frames = returned_frames slots (killed m s.block) (killed n s.block)
      (dead_frames killed_block killed_block kills g xs m n s.block frames)

  pub returned_beside : (slots : List Slot) (m n : List MemoryBlock) → AreLaidFrames g xs m → AreBeside g xs m n
      → AreBeside g xs (without_slots m slots) (without_slots n slots)
  returned_beside [] m n frames beside = beside
  returned_beside (s ∷ slots) m n frames beside = returned_beside slots (killed m s.block) (killed n s.block)
      (dead_laid killed_block killed_block kills g xs m n s.block frames) (dead_beside killed_block killed_block kills g xs m n s.block frames
      beside)
