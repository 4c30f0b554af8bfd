-- One block of the source changes, which stands alone nowhere: what is free stays so, and so does what stands alone.
use Rattle.std.proofs.Common.{◌≡◌, ◌≢◌, ◌⊎◌, ◌<◌, ◌||◌, ◌==◌, ◌∷◌, ◌∙◌, [], Bool, List, None, Option, Some, ap, arith, false, inl, inr, length, refl, subst, suc, sym, true, zero, ℕ, ⊎_elim}
use Rattle.std.proofs.lemmas.Bool.{cases_eq}
use Rattle.std.specs.Prelude.{option_map, slice_get}
use Rattle.pass_frames_code.proofs.ir_laws.facts.Lists.{get_within}
use Rattle.pass_frames_code.proofs.stepping.Rest.{got}
use Rattle.pass_frames_code.specs.Related.{AreMates, IsFreeOf, is_slot}
use Rattle.pass_frames_code.proofs.run_laws.memory.Written.{same_some}
use Rattle.pass_frames_code.proofs.run_laws.transfer.Muted.{muted_length}
use Rattle.pass_frames_code.proofs.run_laws.transfer.Places.{hiding_others, muted_at}
use Rattle.pass_frames_code.specs.run_laws.embedded.Making.{whole_home}
use Rattle.pass_frames_code.specs.run_laws.memory.Pointers.{Home, home_of}
use Rattle.pass_frames_code.specs.run_laws.transfer.Muted.{ended_if, muted}
use Rattle.pass_frames_code.specs.run_laws.transfer.Places.{hiding}
use Rattle.pass_frames_code.specs.run_memory.Memory.{is_live, with_block}
use Rattle.pass_frames_code.specs.run_memory.declared.block.MemoryBlock.{MemoryBlock}

-- hiding what is hidden changes nothing
pub hiding_same : (hides : ℕ → Bool) (b : ℕ) → hides b ≡ true → hiding hides b ≡ hides
hiding_same hides b e = λ j c. each c j
  where
    each : (c : ℕ) → hiding hides b c ≡ hides c
    each c =
        ⊎_elim
        (λ same.
        let h : hides c ≡ true = ap hides same ∙ e in ap (λ (k : Bool). k || (c == b)) h ∙ sym h)
        (λ ne. hiding_others hides b c ne) (cases_eq c b)

-- a hidden block isn't live
pub hidden_dead : (hides : ℕ → Bool) (m : List MemoryBlock) (n : ℕ) (x : MemoryBlock) → hides n ≡ true
    → slice_get (muted hides m) n ≡ Some x → is_live x.life ≡ true → ⊥
hidden_dead hides m n x hidden e live =
    on (slice_get m n) (sym (muted_at hides m n) ∙ e)
  where
    on : (o : Option MemoryBlock) → option_map (ended_if (hides n)) o ≡ Some x → ⊥
    on None f = cc
    on (Some z) f =
        let same : ended_if (hides n) z ≡ x = same_some (ended_if (hides n) z) x f in
        let dead : false ≡ true =
        ap (λ (k : Bool). is_live (ended_if k z).life) (sym hidden) ∙ ap (λ (u : MemoryBlock). is_live u.life) same
        ∙ live in
        cc

-- as long as a memory with one block changed
pub changed_length : (m : List MemoryBlock) (b : ℕ) (f : MemoryBlock → MemoryBlock)
    → length (with_block m b f) ≡ length m
changed_length [] b f = refl
changed_length (x ∷ m) zero f = refl
changed_length (x ∷ m) (suc b) f = ap suc (changed_length m b f)

module _ (homes : List Home) (hides : ℕ → Bool) (m k : List MemoryBlock) (b : ℕ)
    (others : (d : ℕ) → d ≢ b → slice_get k d ≡ slice_get m d) (long : length k ≡ length m) where
  pub muted_others : (d : ℕ) → d ≢ b → slice_get (muted hides k) d ≡ slice_get (muted hides m) d
  muted_others d ne =
      muted_at hides k d ∙ ap (option_map (ended_if (hides d))) (others d ne) ∙ sym (muted_at hides m d)

  was_there : (n : ℕ) (x : MemoryBlock) → slice_get (muted hides k) n ≡ Some x
      → (y : MemoryBlock) × (slice_get (muted hides m) n ≡ Some y)
  was_there n x e =
      let lt : n < length (muted hides k) = get_within (muted hides k) n x e in
      let a : length (muted hides k) ≡ length k = muted_length hides k in
      let c : length (muted hides m) ≡ length m = muted_length hides m in
      got (muted hides m) n (omega (arith, lt, a, c, long))

  -- where pointers may be about into it, or it is hidden, no more is taken
  pub free_changed : ((home_of homes b).is_seen ≡ true) ⊎ (hides b ≡ true) → (block : ℕ)
      → IsFreeOf homes hides m block → IsFreeOf homes hides k block
  free_changed how block free n x e about =
      ⊎_elim (λ same. by_it how same about) (λ ne. free n x (sym (muted_others n ne) ∙ e) about) (cases_eq n b)
    where
      seen_there : (home_of homes n).is_seen ≡ true → (home_of homes n).block ≡ block → ⊥
      seen_there seen = let y = was_there n x e in free n y.0 y.1 (inl seen)

      by_it : ((home_of homes b).is_seen ≡ true) ⊎ (hides b ≡ true) → n ≡ b
          → ((home_of homes n).is_seen ≡ true) ⊎ (is_live x.life ≡ true) → (home_of homes n).block ≡ block → ⊥
      by_it how same (inl seen) = seen_there seen
      by_it (inl seen) same (inr live) =
          seen_there (subst (λ (q : ℕ). (home_of homes q).is_seen ≡ true) (sym same) seen)
      by_it (inr hidden) same (inr live) =
          absurd (hidden_dead hides k n x (ap hides same ∙ hidden) e live)

  -- the others stand alone as they did
  pub mates_changed : (target : List MemoryBlock) → ((q : ℕ) → home_of homes b ≡ whole_home q → ⊥)
      → ((x : MemoryBlock) → slice_get k b ≡ Some x
      → (y : MemoryBlock) × (slice_get m b ≡ Some y) × (is_slot y ≡ is_slot x))
      → AreMates homes m target → AreMates homes k target
  mates_changed target apart kinds h = record {
    whole = λ n x e no_slot.
        ⊎_elim
        (λ same.
        let y = kinds x (subst (λ (q : ℕ). slice_get k q ≡ Some x) same e) in
        h.whole n y.0 (subst (λ (q : ℕ). slice_get m q ≡ Some y.0) (sym same) y.1) (y.2 ∙ no_slot))
        (λ ne. h.whole n x (sym (others n ne) ∙ e) no_slot) (cases_eq n b);
    each = λ n q x e home.
        ⊎_elim
        (λ same. absurd (apart q (subst (λ (d : ℕ). home_of homes d ≡ whole_home q) same home)))
        (λ ne. h.each n q x (sym (others n ne) ∙ e) home) (cases_eq n b);
    alone = λ n d q lt lt'.
        h.alone n d q (subst (λ (z : ℕ). n < z) long lt) (subst (λ (z : ℕ). d < z) long lt');
  }
