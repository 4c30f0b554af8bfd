-- Slots die with the activation that has them: what is said of all others stays.
use Rattle.std.proofs.Common.{◌≡◌, ℕ, ◌+◌, List, [], ◌∷◌}
use Rattle.std.proofs.Common.{length, Option, Some, None, sym, ap, ◌∙◌, ⊎_elim}
use Rattle.std.proofs.lemmas.Bool.{cases_eq, false≢true}
use Rattle.std.specs.Prelude.{slice_get}
use Rattle.pass_kept_proof.specs.ir_model.declared.module.Module.{Module}
use Rattle.run_laws.proofs.memory.Written.{changed_elsewhere}
use Rattle.run_laws.specs.access.Changed.{IsFull}
use Rattle.run_laws.specs.embedded.Making.{whole_home}
use Rattle.run_laws.specs.memory.Pointers.{home_of}
use Rattle.pass_kept_proof.specs.run_memory.Memory.{is_live, killed, killed_block, with_block}
use Rattle.pass_kept_proof.specs.run_memory.declared.block.MemoryBlock.{MemoryBlock}
use Rattle.pass_kept_proof.specs.run_source.declared.state.Activation.{Activation}
use Rattle.pass_kept_proof.specs.run_source.declared.state.Instance.{Instance}
use Rattle.pass_renewed_proof.proofs.Carried.{AreBelowCarried, IsCarried, IsInstanceCarried}
use Rattle.pass_renewed_proof.proofs.Carried.{IsSlotKept, below_kept, instances_kept, kept_slot_on}
use Rattle.pass_renewed_proof.proofs.Carried.{slot_kept}
use Rattle.pass_renewed_proof.proofs.Dying.{both_die, first_dies}
use Rattle.pass_renewed_proof.proofs.Marked.{with_from}
use Rattle.pass_renewed_proof.proofs.Settled.{seated_in}
use Rattle.pass_renewed_proof.specs.Beside.{AreBelow, AreInstancesBeside}
use Rattle.pass_renewed_proof.specs.Beside.{IsInstanceBeside}
use Rattle.pass_renewed_proof.specs.Ledger.{AreEntered, Ledger, LivesIn}
use Rattle.pass_renewed_proof.specs.Ledger.{Seat}
use Rattle.pass_renewed_proof.specs.Muted.{muted}
use Rattle.pass_renewed_proof.specs.Places.{AreStanding}
use Rattle.pass_renewed_proof.specs.Renewed.{Flags, Roots}

-- what the relation says but for the topmost activation
pub record AreLeft (m : Module) (flags : Flags) (roots : Roots) (l : Ledger) (xs ys : List Instance) (memory target :
    List MemoryBlock) (name : Option ℕ) (as' bs : List Activation) : Type 0 where
  pub standing : AreStanding l.homes (muted l.hides memory) target
  pub entered : AreEntered m l memory target
  pub instances : AreInstancesBeside m flags roots l memory 0 xs ys
  pub below : AreBelow m flags roots l xs memory target name as' bs

-- ---- one killed block

pub not_live : (memory : List MemoryBlock) (b : ℕ) → LivesIn (with_block memory b killed_block) b → ⊥
not_live memory b h = let from = with_from memory b killed_block h.block h.there in false≢true (ap (λ (q : MemoryBlock).
    is_live q.life) (sym from.2) ∙ h.is_live)

pub full_killed : (target : List MemoryBlock) (c d : ℕ) → IsFull target d → IsFull (with_block target c killed_block) d
full_killed target c d full x at live = ⊎_elim
    (λ is. absurd (not_live target c (record {
      block = x;
      there = ap (slice_get (with_block target c killed_block)) (sym is) ∙ at;
      is_live = live;
    })))
    (λ ne. full x (sym (changed_elsewhere target c d killed_block ne) ∙ at) live)
    (cases_eq d c)

pub unowned_killed : (target : List MemoryBlock) (c d : ℕ) (y : MemoryBlock) → ((z : MemoryBlock)
    → slice_get target d ≡ Some z → z.owned ≡ None) → slice_get (with_block target c killed_block) d ≡ Some y
    → y.owned ≡ None
unowned_killed target c d y old at = ⊎_elim
    (λ is. let from = with_from target c killed_block y (ap (slice_get (with_block target c killed_block)) (sym is)
    ∙ at) in ap (λ (q : MemoryBlock). q.owned) from.2)
    (λ ne. old y (sym (changed_elsewhere target c d killed_block ne) ∙ at))
    (cases_eq d c)

module _ (m : Module) (flags : Flags) (roots : Roots) (xs ys : List Instance) (name : Option ℕ) (as' bs : List
    Activation) where
  -- what is said of each slot is said of it afterwards
  left_on : (l k : Ledger) (memory memory' target target' : List MemoryBlock)
      → (c : IsCarried l k memory memory' target target') → ((b : ℕ) (seat : Seat) → l.seats b ≡ Some seat
      → IsSlotKept l k memory memory' b) → AreStanding k.homes (muted k.hides memory') target'
      → AreEntered m k memory' target' → AreLeft m flags roots l xs ys memory target name as' bs
      → AreLeft m flags roots k xs ys memory' target' name as' bs
  left_on l k memory memory' target target' c kept standing entered h = record {
    standing = standing;
    entered = entered;
    instances = instances_kept m flags roots l k xs xs memory memory' target target' c 0 xs ys each h.instances;
    below = below_kept m flags roots l k xs xs memory memory' target target' c name as' bs (all as') h.below;
  }
    where
      each : (j : ℕ) (z y : Instance) → slice_get xs j ≡ Some z → IsInstanceBeside m flags roots l memory (0 + j) z y
          → IsInstanceCarried m flags roots l k xs xs memory memory' target target' c z
      each j z y at ib = record {
        slots = λ p al b suspended flagged old.
            let seated = seated_in l _ _ (flags z.coroutine) z.slots ib.slots ib.listed (record {
              alloca = al;
              block = b;
            }) flagged old.slot in
            kept_slot_on m flags roots l k xs xs memory memory' target target' c z p al b (kept b _ seated.seat) old;
        gone = λ slot is flagged.
            let seated = seated_in l _ _ (flags z.coroutine) z.slots ib.slots ib.listed slot flagged is in
            (kept slot.block _ seated.seat).gone;
      }

      all : (below : List Activation) → AreBelowCarried m flags roots l k xs xs memory memory' target target' c below
      all [] = tt
      all (z ∷ below) = (
        record {
          over = λ stays o. o;
          slots = λ al b d flagged old. slot_kept m flags roots l k xs xs memory memory' target target' c (length
              below) z al b d (record { goes_on = λ goes. goes; slots = λ slot is. is }) (kept b _ old.seat) old;
        },
        all below,
      )

  -- ---- a slot that may be made anew dies in the first run

  pub slot_departs : (l : Ledger) (memory target : List MemoryBlock) (b : ℕ) (seat : Seat) → l.seats b ≡ Some seat
      → AreLeft m flags roots l xs ys memory target name as' bs
      → AreLeft m flags roots l xs ys (killed memory b) target name as' bs
  slot_departs l memory target b seat seated h =
      let o = first_dies m l memory target b seat seated h.standing h.entered in
      left_on l l memory (killed memory b) target target o.carried o.kept o.standing o.entered h

  -- ---- any other dies in both

  pub both_depart : (l : Ledger) (memory target : List MemoryBlock) (b c : ℕ) → home_of l.homes b ≡ whole_home c
      → l.seats b ≡ None → AreLeft m flags roots l xs ys memory target name as' bs
      → AreLeft m flags roots l xs ys (killed memory b) (killed target c) name as' bs
  both_depart l memory target b c home none h =
      let o = both_die m l memory target b c home none h.standing h.entered in
      left_on l l memory (killed memory b) target (killed target c) o.carried o.kept o.standing o.entered h
