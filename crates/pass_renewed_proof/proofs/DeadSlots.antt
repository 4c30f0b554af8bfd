-- The slots that an activation lists die in both runs, one after another.
use Rattle.std.proofs.Common.{◌≡◌, ◌≢◌, ℕ, zero, suc, ◌≤◌, ◌⊎◌, inl, inr, Bool, false, List, [], ◌∷◌}
use Rattle.std.proofs.Common.{length, Option, Some, None, refl, sym, ap, ◌∙◌, subst, ⊎_elim, arith}
use Rattle.std.proofs.lemmas.Bool.{cases_eq, false≢true}
use Rattle.std.specs.List.{Contains}
use Rattle.pass_kept_proof.specs.ir_model.declared.module.Module.{Module}
use Rattle.run_laws.proofs.memory.Written.{changed_elsewhere}
use Rattle.run_laws.specs.changed.Changed.{Each}
use Rattle.run_laws.specs.memory.Pointers.{Home, home_of}
use Rattle.pass_kept_proof.specs.run_memory.Memory.{killed, killed_block}
use Rattle.pass_kept_proof.specs.run_memory.declared.block.MemoryBlock.{MemoryBlock}
use Rattle.pass_kept_proof.specs.run_source.declared.state.Activation.{Activation}
use Rattle.pass_kept_proof.specs.run_source.declared.state.Instance.{Instance}
use Rattle.pass_kept_proof.specs.run_step.Step.{without_slots}
use Rattle.pass_kept_proof.specs.run_step.declared.world.Slot.{Slot}
use Rattle.pass_renewed_proof.proofs.Departing.{AreLeft, both_depart, slot_departs, not_live}
use Rattle.pass_renewed_proof.proofs.Places.{hiding_it}
use Rattle.pass_renewed_proof.proofs.Used.{lives_shown}
use Rattle.pass_renewed_proof.specs.Beside.{AreSlots, Both, First}
use Rattle.pass_renewed_proof.specs.Beside.{NoSlots, Second}
use Rattle.pass_renewed_proof.specs.Ledger.{Ledger, Lives, LivesIn, Seat}
use Rattle.pass_renewed_proof.specs.Muted.{muted}
use Rattle.pass_renewed_proof.specs.Places.{hiding}
use Rattle.pass_renewed_proof.specs.Renewed.{Flags, Roots}
use Rattle.pass_renewed_proof.proofs.GivingBack.{give_back, hide_one, lives_or, same_index}

-- where a block lives that stands there, no pointer into it is about
abbrev pub IsUnseenIn : Ledger → List MemoryBlock → ℕ → Type 0
IsUnseenIn l memory c = (b : ℕ) → l.tenants c ≡ Some b → LivesIn memory b → (home_of l.homes b).block ≡ c
    → (home_of l.homes b).is_seen ≡ false

-- ---- lists of blocks

abbrev pub killed_all : List MemoryBlock → List ℕ → List MemoryBlock
killed_all target [] = target
killed_all target (c ∷ cs) = killed_all (killed target c) cs

killed_swap : (n : List MemoryBlock) (a b : ℕ) → killed (killed n a) b ≡ killed (killed n b) a
killed_swap [] a b = refl
killed_swap (x ∷ n) zero zero = refl
killed_swap (x ∷ n) zero (suc b) = refl
killed_swap (x ∷ n) (suc a) zero = refl
killed_swap (x ∷ n) (suc a) (suc b) = ap (λ k. x ∷ k) (killed_swap n a b)

killed_past : (n : List MemoryBlock) (c : ℕ) (cs : List ℕ) → killed_all (killed n c) cs ≡ killed (killed_all n cs) c
killed_past n c [] = refl
killed_past n c (d ∷ cs) = ap (λ k. killed_all k cs) (killed_swap n c d) ∙ killed_past (killed n d) c cs

-- ---- the blocks that an activation lists

module _ (l : Ledger) (S O : Slot → Type 0) (flags : ℕ → Bool) where
  -- of the second run: those that stand for the first's, and its own
  abbrev pub shared : (ss ts : List Slot) → AreSlots l S O flags ss ts → List ℕ
  shared _ _ NoSlots = []
  shared _ _ (Both alloca b c ss ts off home none rest) = c ∷ shared ss ts rest
  shared _ _ (First s ss ts is rest) = shared ss ts rest
  shared _ _ (Second t ss ts is rest) = shared ss ts rest

  abbrev pub own_blocks : (ss ts : List Slot) → AreSlots l S O flags ss ts → List ℕ
  own_blocks _ _ NoSlots = []
  own_blocks _ _ (Both alloca b c ss ts off home none rest) = own_blocks ss ts rest
  own_blocks _ _ (First s ss ts is rest) = own_blocks ss ts rest
  own_blocks _ _ (Second t ss ts is rest) = t.block ∷ own_blocks ss ts rest

  pub both_lists : (ss ts : List Slot) (h : AreSlots l S O flags ss ts) (target : List MemoryBlock)
      → without_slots target ts ≡ killed_all (killed_all target (shared ss ts h)) (own_blocks ss ts h)
  both_lists _ _ NoSlots target = refl
  both_lists _ _ (Both alloca b c ss ts off home none rest) target = both_lists ss ts rest (killed target c)
  both_lists _ _ (First s ss ts is rest) target = both_lists ss ts rest target
  both_lists _ _ (Second t ss ts is rest) target = both_lists ss ts rest (killed target t.block)
      ∙ ap (λ n. killed_all n (own_blocks ss ts rest)) (killed_past target t.block (shared ss ts rest))

  pub own_are : (P : ℕ → Type 0) → ((t : Slot) → O t → P t.block) → (ss ts : List Slot)
      → (h : AreSlots l S O flags ss ts) → Each P (own_blocks ss ts h)
  own_are P is _ _ NoSlots = tt
  own_are P is _ _ (Both alloca b c ss ts off home none rest) = own_are P is ss ts rest
  own_are P is _ _ (First s ss ts k rest) = own_are P is ss ts rest
  own_are P is _ _ (Second t ss ts k rest) = (is t k, own_are P is ss ts rest)

-- ---- all of them

module _ (m : Module) (flags : Flags) (roots : Roots) (xs ys : List Instance) (name : Option ℕ) (as' bs : List
    Activation) where
  abbrev Hidden : Ledger → List MemoryBlock → List MemoryBlock → Type 0
  Hidden l memory target = (hs : ℕ → Bool) × AreLeft m flags roots (record l { hides = hs }) xs ys memory target name
      as' bs

  module _ (l : Ledger) (memory target : List MemoryBlock) (c depth : ℕ) (owner : l.owners c ≡ Some depth) (less :
      length as' ≤ depth) (unseen : IsUnseenIn l memory c) (h : AreLeft m flags roots l xs ys memory target name as' bs)
    where
      tenant : (d : ℕ) → LivesIn (muted l.hides memory) d → (home_of l.homes d).block ≡ c → l.tenants c ≡ Some d
      tenant d live is = ap l.tenants (sym is) ∙ h.entered.alone d (Lives live)

      keeps : ((d : ℕ) → LivesIn (muted l.hides memory) d → (home_of l.homes d).block ≢ c)
          → Hidden l memory (killed target c)
      keeps free = (
        l.hides,
        give_back m flags roots xs ys name as' bs l memory target c depth owner less h (λ d x at live. free d (record {
          block = x;
          there = at;
          is_live = live;
        })),
      )

      seated : (b : ℕ) → l.tenants c ≡ Some b → (home_of l.homes b).block ≡ c → LivesIn memory b → (o : Option Seat)
          → l.seats b ≡ o → Hidden l memory (killed target c)
      seated b q is live None none =
          let mate = h.entered.mates b live.block none live.there in
          let z : None ≡ Some depth = sym mate.owner ∙ ap l.owners (ap (λ (w : Home). w.block) (sym mate.home) ∙ is)
          ∙ owner in
          absurd (cc)
      seated b q is live (Some seat) s =
          let hidden = hide_one m flags roots xs ys name as' bs l memory target c depth owner less h b seat s (unseen
          b q
          live is) is in (
            hiding l.hides b,
            give_back m flags roots xs ys name as' bs (record l { hides = hiding l.hides b }) memory target c depth
                owner less hidden (λ d x at lives there. free hidden d (record {
                  block = x;
                  there = at;
                  is_live = lives;
                }) there),
          )
        where
          free : AreLeft m flags roots (record l { hides = hiding l.hides b }) xs ys memory target name as' bs → (d : ℕ)
              → LivesIn (muted (hiding l.hides b) memory) d → (home_of l.homes d).block ≡ c → ⊥
          free k d lives there =
              let same : b ≡ d = same_index (sym q ∙ ap l.tenants (sym there) ∙ k.entered.alone d (Lives lives)) in
              false≢true (sym (lives_shown (hiding l.hides b) memory d lives).0 ∙ ap (hiding l.hides b) (sym same)
              ∙ hiding_it l.hides b)

      by : (b : ℕ) → l.tenants c ≡ Some b → (home_of l.homes b).block ≡ c → LivesIn memory b ⊎ (LivesIn memory b → ⊥)
          → Hidden l memory (killed target c)
      by b q is (inr dead) = keeps (λ d live there. dead (subst (LivesIn memory) (sym (same_index (sym q ∙ tenant d live
          there))) (lives_shown l.hides memory d live).1))
      by b q is (inl live) = seated b q is live (l.seats b) refl

      pub second_dies : (hs : ℕ → Bool) × AreLeft m flags roots (record l { hides = hs }) xs ys memory (killed target c)
          name as' bs
      second_dies = on (l.tenants c) refl
        where
          on : (o : Option ℕ) → l.tenants c ≡ o → Hidden l memory (killed target c)
          on None q = keeps (λ d live there. let z : None ≡ Some d = sym q ∙ tenant d live there in absurd (cc))
          on (Some b) q = ⊎_elim
              (λ is. by b q is (lives_or memory b))
              (λ ne. keeps (λ d live there. ne (ap (λ n. (home_of l.homes n).block) (same_index (sym q ∙ tenant d live
              there)) ∙ there)))
              (cases_eq (home_of l.homes b).block c)

  pub all_given : (cs : List ℕ) (depth : ℕ) → length as' ≤ depth → (l : Ledger) (memory target : List MemoryBlock)
      → Each (λ c. (l.owners c ≡ Some depth) × IsUnseenIn l memory c) cs
      → AreLeft m flags roots l xs ys memory target name as' bs
      → (hs : ℕ → Bool) × AreLeft m flags roots (record l { hides = hs }) xs ys memory (killed_all target cs) name as'
      bs
  all_given [] depth less l memory target known h = (l.hides, h)
  all_given (c ∷ cs) depth less l memory target known h =
      let r = second_dies l memory target c depth known.0.0 less known.0.1 h in
      all_given cs depth less (record l { hides = r.0 }) memory (killed target c) known.1 r.1

  -- what both list dies in both, and the slots that may be made anew in the first
  pub all_die : (l : Ledger) (S O : Slot → Type 0) (off : ℕ → Bool) → ((s : Slot) → S s → (seat : Seat)
      × (l.seats s.block ≡ Some seat)) → (ss ts : List Slot) → (slots : AreSlots l S O off ss ts)
      → (memory target : List MemoryBlock) → AreLeft m flags roots l xs ys memory target name as' bs
      → AreLeft m flags roots l xs ys (without_slots memory ss) (killed_all target (shared l S O off ss ts slots)) name
      as' bs
  all_die l S O off seat _ _ NoSlots memory target h = h
  all_die l S O off seat _ _ (Both alloca b c ss ts is_off home none rest) memory target h = all_die l S O off seat
      ss ts
      rest (killed memory b) (killed target c) (both_depart m flags roots xs ys name as' bs l memory target b c home
      none h)
  all_die l S O off seat _ _ (First s ss ts is rest) memory target h =
      let known = seat s is in
      all_die l S O off seat ss ts rest (killed memory s.block) target (slot_departs m flags roots xs ys name as' bs l
      memory target s.block known.0 known.1 h)
  all_die l S O off seat _ _ (Second t ss ts is rest) memory target h = all_die l S O off seat ss ts rest memory
      target h

-- a slot that died doesn't live
still_dead : (memory : List MemoryBlock) (b c : ℕ) → (LivesIn memory b → ⊥) → LivesIn (killed memory c) b → ⊥
still_dead memory b c dead h = ⊎_elim
    (λ is. not_live memory c (subst (LivesIn (killed memory c)) is h))
    (λ ne. dead (record {
      block = h.block;
      there = sym (changed_elsewhere memory c b killed_block ne) ∙ h.there;
      is_live = h.is_live;
    }))
    (cases_eq b c)

dead_without : (slots : List Slot) (memory : List MemoryBlock) (b : ℕ) → (LivesIn memory b → ⊥)
    → LivesIn (without_slots memory slots) b → ⊥
dead_without [] memory b dead h = dead h
dead_without (s ∷ slots) memory b dead h = dead_without slots (killed memory s.block) b (still_dead memory b s.block
    dead)
    h

pub listed_dead : (slots : List Slot) (memory : List MemoryBlock) (slot : Slot) → Contains slots slot
    → LivesIn (without_slots memory slots) slot.block → ⊥
listed_dead [] memory slot (k, lt, e) h = absurd (omega arith)
listed_dead (s ∷ slots) memory slot (zero, lt, e) h = dead_without slots (killed memory s.block) slot.block (λ live.
    not_live memory s.block (subst (LivesIn (killed memory s.block)) (ap (λ (z : Slot). z.block) (sym e)) live)) h
listed_dead (s ∷ slots) memory slot (suc k, lt, e) h = listed_dead slots (killed memory s.block) slot (
  k,
  omega arith,
  e,
) h

pub lived_before : (slots : List Slot) (memory : List MemoryBlock) (b : ℕ) → LivesIn (without_slots memory slots) b
    → LivesIn memory b
lived_before slots memory b h = ⊎_elim (λ live. live) (λ dead. absurd (dead_without slots memory b dead h)) (lives_or
    memory b)
