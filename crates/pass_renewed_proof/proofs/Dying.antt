-- The slots of an instance die: those that may be made anew in the first run alone, the others in both.
use Rattle.std.proofs.Common.{◌≡◌, ℕ, zero, suc, Bool, true, List, [], ◌∷◌, Option, Some, None, refl}
use Rattle.std.proofs.Common.{sym, ap, ◌∙◌, subst, arith}
use Rattle.std.specs.List.{Contains}
use Rattle.pass_kept_proof.specs.ir_model.declared.module.Module.{Module}
use Rattle.run_laws.specs.embedded.Making.{whole_home}
use Rattle.run_laws.specs.memory.Pointers.{Home, home_of}
use Rattle.pass_kept_proof.specs.run_memory.Memory.{is_killed, killed, killed_block}
use Rattle.pass_kept_proof.specs.run_memory.declared.block.MemoryBlock.{MemoryBlock}
use Rattle.pass_kept_proof.specs.run_step.Step.{without_slots}
use Rattle.pass_kept_proof.specs.run_step.declared.world.Slot.{Slot}
use Rattle.pass_renewed_proof.proofs.Alike.{alike_carried, alike_entered, alike_kept}
use Rattle.pass_renewed_proof.proofs.AlikeMarks.{dies_alike, killed_alike}
use Rattle.pass_renewed_proof.proofs.Anew.{present_block}
use Rattle.pass_renewed_proof.proofs.Carried.{IsCarried, IsSlotKept, same_carried, same_kept}
use Rattle.pass_renewed_proof.proofs.Marked.{IsMark, dead_carried, dead_entered, dead_kept, dead_stand, with_from}
use Rattle.pass_renewed_proof.proofs.Ready.{trans_extends}
use Rattle.pass_renewed_proof.specs.Beside.{AreSlots, Both, First, NoSlots, Second}
use Rattle.pass_renewed_proof.specs.Ledger.{AreEntered, IsGone, Ledger, Seat}
use Rattle.pass_renewed_proof.specs.Muted.{muted}
use Rattle.pass_renewed_proof.specs.Places.{AreStanding}

-- ---- what has died doesn't come back

killed_gone : (memory : List MemoryBlock) (b : ℕ) → IsGone (killed memory b) b
killed_gone memory b x at = let from = with_from memory b killed_block x at in ap (λ (q : MemoryBlock). is_killed
    q.life) from.2

killed_stays : (memory : List MemoryBlock) (b c : ℕ) → IsGone memory b → IsGone (killed memory c) b
killed_stays [] b c old x at = absurd (cc)
killed_stays (z ∷ memory) zero zero old x at = ap gone_in (sym at)
  where
    gone_in : Option MemoryBlock → Bool
    gone_in None = true
    gone_in (Some y) = is_killed y.life
killed_stays (z ∷ memory) zero (suc c) old x at = old x at
killed_stays (z ∷ memory) (suc b) zero old x at = old x at
killed_stays (z ∷ memory) (suc b) (suc c) old x at = killed_stays memory b c old x at

pub slots_stay_gone : (ss : List Slot) (memory : List MemoryBlock) (b : ℕ) → IsGone memory b
    → IsGone (without_slots memory ss) b
slots_stay_gone [] memory b old = old
slots_stay_gone (s ∷ ss) memory b old = slots_stay_gone ss (killed memory s.block) b (killed_stays memory b s.block old)

pub slots_gone : (ss : List Slot) (memory : List MemoryBlock) (slot : Slot) → Contains ss slot
    → IsGone (without_slots memory ss) slot.block
slots_gone [] memory slot (k, lt, e) = absurd (omega arith)
slots_gone (s ∷ ss) memory slot (zero, lt, e) = subst (λ (z : Slot). IsGone (without_slots (killed memory s.block) ss)
    z.block) e (slots_stay_gone ss (killed memory s.block) s.block (killed_gone memory s.block))
slots_gone (s ∷ ss) memory slot (suc k, lt, e) = slots_gone ss (killed memory s.block) slot (k, omega arith, e)

-- ---- one after another

pub two_carried : (l : Ledger) (m n o a b c : List MemoryBlock) → IsCarried l l m n a b → IsCarried l l n o b c
    → IsCarried l l m o a c
two_carried l m n o a b c p q = record {
  extends = trans_extends l.homes l.homes l.homes p.extends q.extends;
  seats = λ d seat h. h;
  unseated = λ d seen h. h;
  owners = λ d depth h. h;
  tenants = λ d depth h. refl;
  ready = λ d k depth seat is h old. q.ready d k depth seat is h (p.ready d k depth seat is h old);
}

pub two_kept : (l : Ledger) (m n o : List MemoryBlock) (b : ℕ) → IsSlotKept l l m n b → IsSlotKept l l n o b
    → IsSlotKept l l m o b
two_kept l m n o b p q = record {
  home = refl;
  hides = refl;
  fresh = λ h. q.fresh (p.fresh h);
  lives = λ h. p.lives (q.lives h);
  gone = λ h. q.gone (p.gone h);
}

-- what was said of blocks still is
pub record AreCarriedOver (m : Module) (l : Ledger) (memory after target behind : List MemoryBlock) : Type 0 where
  pub standing : AreStanding l.homes (muted l.hides after) behind
  pub entered : AreEntered m l after behind
  pub carried : IsCarried l l memory after target behind
  pub kept : (b : ℕ) (seat : Seat) → l.seats b ≡ Some seat → IsSlotKept l l memory after b

pub two_over : (m : Module) (l : Ledger) (a b c d e f : List MemoryBlock) → AreCarriedOver m l a b d e
    → AreCarriedOver m l b c e f → AreCarriedOver m l a c d f
two_over m l a b c d e f p q = record {
  standing = q.standing;
  entered = q.entered;
  carried = two_carried l a b c d e f p.carried q.carried;
  kept = λ n seat is. two_kept l a b c n (p.kept n seat is) (q.kept n seat is);
}

pub kills : IsMark killed_block
kills = record {
  size = λ x. refl;
  align = λ x. refl;
  kind = λ x. refl;
  gone = λ x h. refl;
  shown = λ hides x h. tt;
}

module _ (m : Module) (l : Ledger) where
  -- a block that isn't one that may be made anew dies in both
  pub both_die : (memory target : List MemoryBlock) (b c : ℕ) → home_of l.homes b ≡ whole_home c → l.seats b ≡ None
      → AreStanding l.homes (muted l.hides memory) target → AreEntered m l memory target
      → AreCarriedOver m l memory (killed memory b) target (killed target c)
  both_die memory target b c home none st e =
      let there = present_block l memory e.known b (ap (λ (q : Home). q.is_seen) home) in
      let mate = e.mates b there.0 none there.1 in
      let free : l.owners c ≡ None = ap l.owners (ap (λ (q : Home). q.block) (sym home ∙ mate.home)) ∙ mate.owner in
      record {
        standing = dies_alike m l memory target b c e none home free mate.shown st killed_block killed_alike (λ x.
            refl) (λ x. refl);
        entered = alike_entered m l memory target b c killed_block killed_alike e none home free mate.shown;
        carried = alike_carried m l memory target b c killed_block killed_alike e none home free mate.shown;
        kept = alike_kept m l memory target b c killed_block killed_alike e none home free mate.shown;
      }

  -- one that may dies in the first run
  pub first_dies : (memory target : List MemoryBlock) (b : ℕ) (seat : Seat) → l.seats b ≡ Some seat
      → AreStanding l.homes (muted l.hides memory) target → AreEntered m l memory target
      → AreCarriedOver m l memory (killed memory b) target target
  first_dies memory target b seat is st e = record {
    standing = dead_stand m l memory target b killed_block kills (λ x. refl) e seat is st;
    entered = dead_entered m l memory target b killed_block kills (λ x. refl) e seat is;
    carried = dead_carried m l memory target b killed_block kills (λ x. refl) e seat is;
    kept = λ d z at. dead_kept m l memory target b killed_block kills (λ x. refl) e seat is d;
  }

  pub slots_die : (S : Slot → Type 0) (flags : ℕ → Bool) → ((slot : Slot) → S slot → (seat : Seat) × (l.seats slot.block
      ≡ Some seat)) → (ss ts : List Slot) → AreSlots l S (λ t. ⊥) flags ss ts → (memory target : List MemoryBlock)
      → AreStanding l.homes (muted l.hides memory) target → AreEntered m l memory target
      → AreCarriedOver m l memory (without_slots memory ss) target (without_slots target ts)
  slots_die S flags seated _ _ NoSlots memory target st e = record {
    standing = st;
    entered = e;
    carried = same_carried l memory target;
    kept = λ b seat is. same_kept l memory b;
  }
  slots_die S flags seated _ _ (Both al b c ss ts off home none rest) memory target st e =
      let one = both_die memory target b c home none st e in
      two_over m l memory (killed memory b) (without_slots (killed memory b) ss) target (killed target c) (without_slots
      (killed target c) ts) one (slots_die S flags seated ss ts rest (killed memory b) (killed target c) one.standing
      one.entered)
  slots_die S flags seated _ ts (First s ss _ is rest) memory target st e =
      let seat = seated s is in
      let one = first_dies memory target s.block seat.0 seat.1 st e in
      two_over m l memory (killed memory s.block) (without_slots (killed memory s.block) ss) target target
      (without_slots target ts) one (slots_die S flags seated ss ts rest (killed memory s.block) target one.standing
      one.entered)
  slots_die S flags seated ss _ (Second t _ ts is rest) memory target st e = absurd is
