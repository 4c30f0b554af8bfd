-- The slots of an activation die, and their homes do.
use Rattle.std.proofs.Common.{ℕ, List, [], ◌∷◌, map, refl}
use Rattle.run_memory.specs.Memory.{Rights, killed, killed_block}
use Rattle.run_memory.specs.declared.block.MemoryBlock.{MemoryBlock}
use Rattle.run_laws.specs.memory.Pointers.{Home, home_of}
use Rattle.run_laws.specs.memory.Standing.{AreByteRights}
use Rattle.run_step.specs.Step.{Work, set_memory, without_slots}
use Rattle.run_step.specs.declared.world.Slot.{Slot}
use Rattle.run_laws.proofs.embedded.Deallocated.{kills_carried}
use Rattle.run_laws.proofs.embedded.Mirrors.{lives_on}
use Rattle.run_laws.specs.embedded.Deaths.{moved_slot}
use Rattle.run_laws.specs.embedded.Marks.{LivesAlone}
use Rattle.run_laws.specs.embedded.Related.{AreWorks}
use Rattle.run_laws.specs.changed.Changed.{Each}

each_alone_on : (homes : List Home) (m : List MemoryBlock) (k : ℕ) (slots : List Slot) → Each (λ (s : Slot). LivesAlone homes m s.block) slots → Each (λ (s : Slot). LivesAlone homes (killed m k) s.block) slots
each_alone_on homes m k [] h = tt
each_alone_on homes m k (s ∷ slots) h = (lives_on homes m s.block k killed_block (λ y. refl) h.0, each_alone_on homes m k slots h.1)

pub slots_carried : (rights target : Rights) (homes : List Home) (moves : ℕ → ℕ) (w x : Work) (slots : List Slot) → AreByteRights rights → AreByteRights target → AreWorks rights target homes moves w x → Each (λ (s : Slot). LivesAlone homes w.world.memory s.block) slots → AreWorks rights target homes moves (set_memory w (without_slots w.world.memory slots)) (set_memory x (without_slots x.world.memory (map (moved_slot homes) slots)))
slots_carried rights target homes moves w x [] law law' works h = works
slots_carried rights target homes moves w x (s ∷ slots) law law' works h =
    slots_carried rights target homes moves (set_memory w (killed w.world.memory s.block)) (set_memory x (killed x.world.memory (home_of homes s.block).block)) slots law law'
    (kills_carried rights target homes moves w x law law' works s.block h.0) (each_alone_on homes w.world.memory s.block slots h.1)
