-- Both memories have one block more. What was there before is as it was.
use Rattle.std.proofs.Common.{◌≡◌, ◌≢◌, ℕ, ◌+◌, ◌<◌, ◌^◌, ◌≤◌, Bool, true, false, List, [], ◌∷◌, ◌++◌, length}
use Rattle.std.proofs.Common.{length-append, Some, refl, sym, ap, ◌∙◌, subst, arith, nat_le}
use Rattle.std.specs.Prelude.{slice_get}
use Rattle.pass_kept_proof.specs.ir_model.declared.module.Module.{Module}
use Rattle.run_laws.specs.embedded.Making.{whole_home}
use Rattle.run_laws.specs.memory.Pointers.{Home, home_of}
use Rattle.run_laws.specs.memory.Standing.{blank_block}
use Rattle.pass_kept_proof.specs.run_memory.Memory.{same_kind}
use Rattle.pass_kept_proof.specs.run_memory.declared.block.Byte.{Byte}
use Rattle.pass_kept_proof.specs.run_memory.declared.block.Kind.{Kind}
use Rattle.pass_kept_proof.specs.run_memory.declared.block.MemoryBlock.{MemoryBlock}
use Rattle.pass_kept_proof.specs.run_memory.declared.pointer.Pointer.{Pointer}
use Rattle.pass_renewed_proof.proofs.Anew.{about_there, below_other}
use Rattle.pass_renewed_proof.proofs.Carried.{IsSlotKept}
use Rattle.pass_renewed_proof.proofs.Made.{get_other, get_there, home_last, home_other, made_together}
use Rattle.pass_renewed_proof.proofs.Muted.{muted_append, muted_length}
use Rattle.pass_renewed_proof.proofs.Shown.{each_append, undefined_shown}
use Rattle.pass_renewed_proof.specs.Ledger.{AreEntered, Ledger, LivesIn, Seen}
use Rattle.pass_renewed_proof.specs.Muted.{muted}
use Rattle.pass_renewed_proof.specs.Places.{AreStanding, IsBlank}
use Rattle.pass_renewed_proof.specs.Shown.{AreShownBlocks, AreShownBytes, IsShownByte}

-- ---- blocks into which no pointer leads

-- a test that a block passes if it passes one of two
either_byte : (one other both : ℕ → Bool) → ((b : ℕ) → one b ≡ false → other b ≡ false → both b ≡ false)
    → (c : Byte) → IsShownByte one c → IsShownByte other c → IsShownByte both c
either_byte one other both h Byte.Undefined p q = tt
either_byte one other both h (Byte.Number k) p q = tt
either_byte one other both h (Byte.Part Pointer.Null k) p q = tt
either_byte one other both h (Byte.Part (Pointer.Func f) k) p q = tt
either_byte one other both h (Byte.Part (Pointer.At b o) k) p q = h b p q

either_bytes : (one other both : ℕ → Bool) → ((b : ℕ) → one b ≡ false → other b ≡ false → both b ≡ false)
    → (bytes : List Byte) → AreShownBytes one bytes → AreShownBytes other bytes → AreShownBytes both bytes
either_bytes one other both h [] p q = tt
either_bytes one other both h (c ∷ bytes) p q = (
  either_byte one other both h c p.0 q.0,
  either_bytes one other both h bytes p.1 q.1,
)

pub either_shown : (one other both : ℕ → Bool) → ((b : ℕ) → one b ≡ false → other b ≡ false → both b ≡ false)
    → (m : List MemoryBlock) → AreShownBlocks one m → AreShownBlocks other m → AreShownBlocks both m
either_shown one other both h [] p q = tt
either_shown one other both h (x ∷ m) p q = (
  either_bytes one other both h x.bytes p.0 q.0,
  either_shown one other both h m p.1 q.1,
)

pub shown_append : (hides : ℕ → Bool) (m : List MemoryBlock) (x : MemoryBlock) → AreShownBlocks hides m → IsBlank x
    → AreShownBlocks hides (m ++ x ∷ [])
shown_append hides m x h blank = each_append (λ (z : MemoryBlock). AreShownBytes hides z.bytes) m (x ∷ []) h (
  subst
      (AreShownBytes hides) (sym blank) (undefined_shown hides x.size),
  tt,
)

pub le_itself : (n : ℕ) → nat_le n n ≡ true
le_itself n = grind arith

le_further : (n k b : ℕ) → n ≤ k → nat_le n b ≡ false → nat_le k b ≡ false
le_further n k b le e = grind arith

-- ---- blocks that were there before

module _ (m : Module) (l : Ledger) (memory target : List MemoryBlock) (x : MemoryBlock) (st : AreStanding l.homes
    (muted l.hides memory) target) (e : AreEntered m l memory target) where
  pub not_hidden : l.hides (length memory) ≡ false
  not_hidden = on (l.hides (length memory)) refl
    where
      on : (t : Bool) → l.hides (length memory) ≡ t → l.hides (length memory) ≡ false
      on true h = absurd (below_other (length memory) (length memory) (e.present (length memory) h) refl)
      on false h = h

  there : (b : ℕ) → (home_of l.homes b).is_seen ≡ true
      → (z : MemoryBlock) × (slice_get target (home_of l.homes b).block ≡ Some z)
  there b seen = get_there target (home_of l.homes b).block (about_there l memory target b st e.known (Seen seen))

  pub home_before : (h : Home) (b : ℕ) → b ≢ length memory → home_of (l.homes ++ h ∷ []) b ≡ home_of l.homes b
  home_before h b ne = home_other l.homes h b (λ is. ne (is ∙ e.known))

  pub home_now : (h : Home) → home_of (l.homes ++ h ∷ []) (length memory) ≡ h
  home_now h = ap (home_of (l.homes ++ h ∷ [])) (sym e.known) ∙ home_last l.homes h

  pub lives_was : (b : ℕ) → b ≢ length memory → LivesIn (memory ++ x ∷ []) b → LivesIn memory b
  lives_was b ne h = record { block = h.block; there = sym (get_other memory x b ne) ∙ h.there; is_live = h.is_live }

  pub muted_was : (b : ℕ) → b ≢ length memory → LivesIn (muted l.hides (memory ++ x ∷ [])) b
      → LivesIn (muted l.hides memory) b
  muted_was b ne h =
      let same = get_other (muted l.hides memory) x b (λ is. ne (is ∙ muted_length l.hides memory)) in
      record {
        block = h.block;
        there = sym same
            ∙ ap (λ k. slice_get k b) (muted_append l.hides memory x not_hidden) ∙ h.there;
        is_live = h.is_live;
      }

  pub longer : length (memory ++ x ∷ []) ≡ length memory + 1
  longer = length-append memory (x ∷ [])

  -- the new block stands in the target's new one
  pub block_stands : (kind : Kind) → x.size < 2 ^ 64 → IsBlank x → same_kind kind Kind.Constant ≡ false
      → AreStanding (l.homes ++ whole_home (length target) ∷ []) (muted l.hides (memory ++ x ∷ [])) (target ++
      blank_block x.size x.align kind ∷ [])
  block_stands kind small blank writable =
      let known : length l.homes ≡ length (muted l.hides memory) = e.known ∙ sym (muted_length l.hides memory) in
      let seen = made_together l.homes (muted l.hides memory) target x kind known small blank writable there st in
      subst (λ k. AreStanding (l.homes ++ whole_home (length target) ∷ []) k (target ++ blank_block x.size x.align
      kind ∷ [])) (muted_append l.hides memory x not_hidden) seen

  pub future_more : IsBlank x → AreShownBlocks (λ b. nat_le (length (memory ++ x ∷ [])) b) (memory ++ x ∷ [])
  future_more blank = shown_append _ memory x (either_shown (λ b. nat_le (length memory) b) (λ b. nat_le (length
      memory) b) (λ b. nat_le (length (memory ++ x ∷ [])) b) (λ b h k. let n = longer in le_further (length memory)
      (length (memory ++ x ∷ [])) b (omega arith) h) memory e.future e.future) blank

  -- of a slot that was there before what is said still is, over any home of the new block
  pub kept_before : (k : Ledger) (h : Home) → k.homes ≡ l.homes ++ h ∷ [] → k.hides ≡ l.hides → (b : ℕ)
      → b < length memory → IsSlotKept l k memory (memory ++ x ∷ []) b
  kept_before k h homes hides b lt =
      let ne = below_other b (length memory) lt in
      let home : home_of k.homes b ≡ home_of l.homes b = ap (λ hs. home_of hs b) homes ∙ home_before h b ne in
      record {
        home = home;
        hides = ap (λ f. f b) hides;
        fresh = λ f. record {
          unseen = ap (λ (q : Home). q.is_seen) home ∙ f.unseen;
          blank = λ z at live. f.blank z (sym (get_other memory x b ne) ∙ at) live;
        };
        lives = lives_was b ne;
        gone = λ old z at. old z (sym (get_other memory x b ne) ∙ at);
      }
