-- The source has a block more, with a home in the target: what was free stays free, and what stood alone still does.
use Rattle.std.proofs.Common.{◌≡◌, ◌≢◌, ◌⊎◌, ◌+◌, ◌<◌, ◌∷◌, ◌++◌, ◌∙◌, [], Bool, List, Some, ap, arith, false, inl, inr, length, length-append, map, refl, subst, suc, sym, true, zero, ℕ, ⊎_elim}
use Rattle.std.proofs.lemmas.Bool.{cases_eq, cases_lt}
use Rattle.std.specs.List.{Contains}
use Rattle.std.specs.Prelude.{slice_get}
use Rattle.pass_frames_code.specs.flow_solver.Paths.{IsListed}
use Rattle.pass_frames_code.proofs.ir_laws.facts.Lists.{get_within}
use Rattle.pass_frames_code.proofs.lines.Cells.{contained}
use Rattle.pass_frames_code.proofs.stepping.Rest.{seen_known}
use Rattle.pass_frames_code.specs.Related.{AreMates, IsFreeOf, all_slots, is_slot, slots_below}
use Rattle.pass_frames_code.proofs.run_laws.memory.Written.{same_some}
use Rattle.pass_frames_code.proofs.run_laws.transfer.Muted.{muted_length}
use Rattle.pass_frames_code.specs.run_laws.embedded.Making.{whole_home}
use Rattle.pass_frames_code.specs.run_laws.memory.Pointers.{Home, home_of}
use Rattle.pass_frames_code.specs.run_laws.transfer.Muted.{ended_if, muted}
use Rattle.pass_frames_code.specs.run_memory.Memory.{is_live}
use Rattle.pass_frames_code.specs.run_memory.declared.block.Byte.{Byte}
use Rattle.pass_frames_code.specs.run_memory.declared.block.MemoryBlock.{MemoryBlock}
use Rattle.pass_frames_code.specs.run_source.declared.state.Activation.{Activation}
use Rattle.pass_frames_code.specs.run_source.declared.state.State.{State}
use Rattle.pass_frames_code.specs.run_step.declared.world.Slot.{Slot}

-- ---- lists

pub end_home : (homes : List Home) (q : Home) → home_of (homes ++ q ∷ []) (length homes) ≡ q
end_home [] q = refl
end_home (h ∷ homes) q = end_home homes q

pub other_home : (homes : List Home) (q : Home) (d : ℕ) → d ≢ length homes
    → home_of (homes ++ q ∷ []) d ≡ home_of homes d
other_home [] q zero ne = absurd (ne refl)
other_home [] q (suc d) ne = refl
other_home (h ∷ homes) q zero ne = refl
other_home (h ∷ homes) q (suc d) ne = other_home homes q d (λ e. ne (ap suc e))

pub end_get : {A : Type 0} (xs : List A) (x : A) → slice_get (xs ++ x ∷ []) (length xs) ≡ Some x
end_get [] x = refl
end_get (y ∷ xs) x = end_get xs x

pub other_get : {A : Type 0} (xs : List A) (x : A) (k : ℕ) → k ≢ length xs
    → slice_get (xs ++ x ∷ []) k ≡ slice_get xs k
other_get [] x zero ne = absurd (ne refl)
other_get [] x (suc k) ne = refl
other_get (y ∷ xs) x zero ne = refl
other_get (y ∷ xs) x (suc k) ne = other_get xs x k (λ e. ne (ap suc e))

-- what was there is there
pub still_get : {A : Type 0} (xs : List A) (x z : A) (k : ℕ) → slice_get xs k ≡ Some z
    → slice_get (xs ++ x ∷ []) k ≡ Some z
still_get xs x z k e =
    other_get xs x k (λ same. let lt : k < length xs = get_within xs k z e in omega (arith, lt, same)) ∙ e

pub more_length : {A : Type 0} (xs : List A) (x : A) → length (xs ++ x ∷ []) ≡ length xs + 1
more_length xs x = length-append xs (x ∷ [])

-- ---- hidden blocks

muted_end : (hides : ℕ → Bool) (m : List MemoryBlock) (x : MemoryBlock)
    → muted hides (m ++ x ∷ []) ≡ muted hides m ++ ended_if (hides (length m)) x ∷ []
muted_end hides [] x = refl
muted_end hides (y ∷ m) x = ap (λ (n : List MemoryBlock). ended_if (hides 0) y ∷ n) (muted_end (λ b. hides (suc b)) m x)

muted_alike : (hides shows : ℕ → Bool) (m : List MemoryBlock) → ((c : ℕ) → c < length m → shows c ≡ hides c)
    → muted shows m ≡ muted hides m
muted_alike hides shows [] h = refl
muted_alike hides shows (x ∷ m) h =
    λ j. ended_if (h 0 (omega arith) j) x
    ∷ muted_alike (λ b. hides (suc b)) (λ b. shows (suc b)) m (λ c lt. h (suc c) (omega (arith, lt))) j

-- ---- one block more

module _ (homes : List Home) (hides shows : ℕ → Bool) (m : List MemoryBlock) (q : Home) (x : MemoryBlock)
    (known : length homes ≡ length m) (alike : (c : ℕ) → c ≢ length m → shows c ≡ hides c) where
  abbrev pub more : List Home
  more = homes ++ q ∷ []

  -- as it counts
  abbrev pub counted : MemoryBlock
  counted = ended_if (shows (length m)) x

  pub muted_more : muted shows (m ++ x ∷ []) ≡ muted hides m ++ counted ∷ []
  muted_more =
      muted_end shows m x
      ∙ ap (λ (n : List MemoryBlock). n ++ counted ∷ [])
      (muted_alike hides shows m (λ c lt. alike c (λ e. omega (arith, lt, e))))

  pub home_new : home_of more (length m) ≡ q
  home_new = ap (home_of more) (sym known) ∙ end_home homes q

  pub home_old : (d : ℕ) → d ≢ length m → home_of more d ≡ home_of homes d
  home_old d ne = other_home homes q d (λ e. ne (e ∙ known))

  pub more_known : length more ≡ length (m ++ x ∷ [])
  more_known = more_length homes q ∙ ap (λ (n : ℕ). n + 1) known ∙ sym (more_length m x)

  get_new : (z : MemoryBlock) → slice_get (muted shows (m ++ x ∷ [])) (length m) ≡ Some z → counted ≡ z
  get_new z e =
      same_some counted z
      (sym (end_get (muted hides m) counted)
      ∙ ap (slice_get (muted hides m ++ counted ∷ [])) (muted_length hides m)
      ∙ ap (λ (n : List MemoryBlock). slice_get n (length m)) (sym muted_more) ∙ e)

  get_old : (d : ℕ) → d ≢ length m → slice_get (muted shows (m ++ x ∷ [])) d ≡ slice_get (muted hides m) d
  get_old d ne =
      ap (λ (n : List MemoryBlock). slice_get n d) muted_more
      ∙ other_get (muted hides m) counted d (λ e. ne (e ∙ muted_length hides m))

  -- what is free of the source and of the new block
  pub free_more : (block : ℕ) → ((q.is_seen ≡ true) ⊎ (is_live counted.life ≡ true) → q.block ≢ block)
      → IsFreeOf homes hides m block → IsFreeOf more shows (m ++ x ∷ []) block
  free_more block apart free n z e about =
      ⊎_elim (λ same. by_new same about) (λ ne. by_old ne about) (cases_eq n (length m))
    where
      by_new : n ≡ length m → ((home_of more n).is_seen ≡ true) ⊎ (is_live z.life ≡ true)
          → (home_of more n).block ≡ block → ⊥
      by_new same how at =
          let home : home_of more n ≡ q = ap (home_of more) same ∙ home_new in
          let is : counted ≡ z = get_new z (subst (λ (k : ℕ). slice_get (muted shows (m ++ x ∷ [])) k ≡ Some z) same e) in
          apart
          (⊎_elim (λ seen. inl (ap (λ (h : Home). h.is_seen) (sym home) ∙ seen))
          (λ live. inr (ap (λ (u : MemoryBlock). is_live u.life) is ∙ live)) how)
          (ap (λ (h : Home). h.block) (sym home) ∙ at)

      by_old : n ≢ length m → ((home_of more n).is_seen ≡ true) ⊎ (is_live z.life ≡ true)
          → (home_of more n).block ≡ block → ⊥
      by_old ne how at =
          free n z (sym (get_old n ne) ∙ e)
          (⊎_elim (λ seen. inl (ap (λ (h : Home). h.is_seen) (sym (home_old n ne)) ∙ seen)) (λ live. inr live) how)
          (ap (λ (h : Home). h.block) (sym (home_old n ne)) ∙ at)

  -- into what is hidden no pointer is about
  pub hidden_more : (shows (length m) ≡ true → q.is_seen ≡ false)
      → ((n : ℕ) → hides n ≡ true → (home_of homes n).is_seen ≡ false)
      → (n : ℕ) → shows n ≡ true → (home_of more n).is_seen ≡ false
  hidden_more new old n e =
      ⊎_elim
      (λ same.
      ap (λ (h : Home). h.is_seen) (ap (home_of more) same ∙ home_new) ∙ new (ap shows (sym same) ∙ e))
      (λ ne. ap (λ (h : Home). h.is_seen) (home_old n ne) ∙ old n (sym (alike n ne) ∙ e)) (cases_eq n (length m))

  pub whole_more : (n k : ℕ) → home_of homes n ≡ whole_home k → home_of more n ≡ whole_home k
  whole_more n k h =
      home_old n (λ same.
      let lt : n < length homes = seen_known homes n (ap (λ (d : Home). d.is_seen) h) in
      omega (arith, lt, same, known)) ∙ h

  module _ (target goal : List MemoryBlock)
      (grown : (k : ℕ) (z : MemoryBlock) → slice_get target k ≡ Some z → slice_get goal k ≡ Some z)
      (alone : is_slot x ≡ false → (k : ℕ) × (q ≡ whole_home k))
      (mate : (k : ℕ) → q ≡ whole_home k → (bytes : List Byte) × (slice_get goal k ≡ Some (record x { bytes = bytes })))
      (apart : (k d : ℕ) → q ≡ whole_home k → d < length m → home_of homes d ≡ whole_home k → ⊥) where
    now : (z : MemoryBlock) → slice_get (m ++ x ∷ []) (length m) ≡ Some z → x ≡ z
    now z e = same_some x z (sym (end_get m x) ∙ e)

    pub mates_more : AreMates homes m target → AreMates more (m ++ x ∷ []) goal
    mates_more h = record {
      whole = λ n z e no_slot.
          ⊎_elim
          (λ same.
          let is : x ≡ z = now z (subst (λ (k : ℕ). slice_get (m ++ x ∷ []) k ≡ Some z) same e) in
          let k = alone (ap (λ (u : MemoryBlock). is_slot u) is ∙ no_slot) in
          (k.0, ap (home_of more) same ∙ home_new ∙ k.1))
          (λ ne.
          let k = h.whole n z (sym (other_get m x n ne) ∙ e) no_slot in (k.0, home_old n ne ∙ k.1))
          (cases_eq n (length m));
      each = λ n k z e home.
          ⊎_elim
          (λ same.
          let is : x ≡ z = now z (subst (λ (k : ℕ). slice_get (m ++ x ∷ []) k ≡ Some z) same e) in
          let p = mate k (sym home_new ∙ ap (home_of more) (sym same) ∙ home) in
          (p.0, p.1 ∙ ap (λ (u : MemoryBlock). Some (record u { bytes = p.0 })) is))
          (λ ne.
          let p = h.each n k z (sym (other_get m x n ne) ∙ e) (sym (home_old n ne) ∙ home) in
          (p.0, grown k (record z { bytes = p.0 }) p.1))
          (cases_eq n (length m));
      alone = λ n d k lt lt' home home'.
          two n d k (within n lt) (within d lt') home home';
    }
      where
        within : (n : ℕ) → n < length (m ++ x ∷ []) → (n ≡ length m) ⊎ (n < length m)
        within n lt =
            ⊎_elim (λ same. inl same)
            (λ ne. inr (less n (length m) (subst (λ (k : ℕ). n < k) (more_length m x) lt) ne))
            (cases_eq n (length m))
          where
            less : (n l : ℕ) → n < l + 1 → n ≢ l → n < l
            less n l lt ne = ⊎_elim (λ a. a) (λ le. absurd (ne (omega (arith, lt, le)))) (cases_lt n l)

        home_of_new : (n k : ℕ) → n ≡ length m → home_of more n ≡ whole_home k → q ≡ whole_home k
        home_of_new n k same home = sym home_new ∙ ap (home_of more) (sym same) ∙ home

        home_of_old : (n k : ℕ) → n < length m → home_of more n ≡ whole_home k → home_of homes n ≡ whole_home k
        home_of_old n k lt home = sym (home_old n (λ e. omega (arith, lt, e))) ∙ home

        two : (n d k : ℕ) → (n ≡ length m) ⊎ (n < length m) → (d ≡ length m) ⊎ (d < length m)
            → home_of more n ≡ whole_home k → home_of more d ≡ whole_home k → n ≡ d
        two n d k (inl a) (inl c) home home' = a ∙ sym c
        two n d k (inl a) (inr c) home home' =
            absurd (apart k d (home_of_new n k a home) c (home_of_old d k c home'))
        two n d k (inr a) (inl c) home home' =
            absurd (apart k n (home_of_new d k c home') a (home_of_old n k a home))
        two n d k (inr a) (inr c) home home' =
            h.alone n d k a c (home_of_old n k a home) (home_of_old d k c home')

-- ---- one slot more

pub first_in : {A : Type 0} (xs : List A) (x : A) → Contains (x ∷ xs) x
first_in xs x = (0, omega arith, refl)

pub more_in : {A : Type 0} (xs : List A) (x z : A) → Contains xs z → Contains (x ∷ xs) z
more_in xs x z c = (suc c.0, (let lt = c.1 in omega (arith, lt)), c.2)

pub first_or_more : {A : Type 0} (xs : List A) (x z : A) → Contains (x ∷ xs) z → (x ≡ z) ⊎ Contains xs z
first_or_more xs x z (zero, lt, e) = inl e
first_or_more xs x z (suc k, lt, e) = inr (k, omega (arith, lt), e)

pub listed_in : {A : Type 0} (xs : List A) (x : A) → IsListed x xs → Contains xs x
listed_in [] x l = absurd l
listed_in (y ∷ xs) x (inl e) = subst (Contains (y ∷ xs)) (sym e) (first_in xs y)
listed_in (y ∷ xs) x (inr l) = more_in xs y x (listed_in xs x l)

-- slots of activations are among those of all
pub in_these : (cs : List Activation) (a : Activation) → IsListed a cs → (slot : Slot) → Contains a.slots slot
    → IsListed slot (slots_below cs)
in_these [] a l slot own = absurd l
in_these (c ∷ cs) a (inl e) slot own =
    listed_left c.slots (slots_below cs) slot
    (subst (λ (z : Activation). IsListed slot z.slots) e (contained a.slots slot own))
  where
    listed_left : (xs ys : List Slot) (x : Slot) → IsListed x xs → IsListed x (xs ++ ys)
    listed_left [] ys x l = absurd l
    listed_left (y ∷ xs) ys x (inl e) = inl e
    listed_left (y ∷ xs) ys x (inr l) = inr (listed_left xs ys x l)
in_these (c ∷ cs) a (inr l) slot own = listed_right c.slots (slots_below cs) slot (in_these cs a l slot own)
  where
    listed_right : (xs ys : List Slot) (x : Slot) → IsListed x ys → IsListed x (xs ++ ys)
    listed_right [] ys x l = l
    listed_right (y ∷ xs) ys x l = inr (listed_right xs ys x l)

pub in_all : (s : State) (a : Activation) → IsListed a (s.top ∷ s.below) → (slot : Slot) → Contains a.slots slot
    → Contains (all_slots s) slot
in_all s a l slot own = listed_in (all_slots s) slot (in_these (s.top ∷ s.below) a l slot own)

pub in_below : (s : State) (a : Activation) → IsListed a s.below → (slot : Slot) → Contains a.slots slot
    → Contains (all_slots s) slot
in_below s a l slot own = in_all s a (inr l) slot own

-- a block that is listed is one of a slot
pub listed_slot : (xs : List Slot) (n : ℕ) → IsListed n (map (λ (z : Slot). z.block) xs)
    → (z : Slot) × Contains xs z × (z.block ≡ n)
listed_slot [] n l = absurd l
listed_slot (y ∷ xs) n (inl e) = (y, first_in xs y, sym e)
listed_slot (y ∷ xs) n (inr l) = let z = listed_slot xs n l in (z.0, more_in xs y z.0 z.1, z.2)
