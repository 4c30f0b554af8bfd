-- Operands are fetched, and then the instruction does what it does in the source.
use Rattle.std.proofs.Common.{ℕ, ◌≤◌, Bool, true, false, List, [], ◌∷◌, length, sym, subst}
use Rattle.std.specs.Prelude.{Option}
use Rattle.pass_proofs.specs.ir_model.declared.instr.Instr.{Instr}
use Rattle.pass_proofs.specs.ir_model.declared.operand.Operand.{Operand}
use Rattle.pass_proofs.specs.ir_parts.Contents.{instr_operands}
use Rattle.pass_proofs.specs.pass_fetch.Fetching.{fetched_operand, next_after}
use Rattle.pass_proofs.specs.pass_fetch.Instrs.{with_fetched}
use Rattle.pass_proofs.specs.pass_fetch.declared.fetch.Fetch.{Fetch}
use Rattle.pass_frames_code.proofs.fetched.Runs.{fetched}
use Rattle.pass_frames_code.proofs.fetched.Shapes.{AreStayed, instr_related}
use Rattle.pass_frames_code.specs.Fetched.{AreFetched, AreSeenAs, IsSeenAs}
use Rattle.pass_frames_code.specs.Ordinary.{IsMade, IsSeenFor, MayBeMade}
use Rattle.pass_proofs.proofs.run_laws.transfer.Over.{step_over}
use Rattle.pass_proofs.specs.run_laws.changed.Changed.{Each}
use Rattle.pass_proofs.specs.run_laws.memory.Pointers.{Home, IsValue}
use Rattle.pass_proofs.specs.run_laws.memory.Standing.{AreByteRights}
use Rattle.pass_proofs.specs.run_laws.transfer.Transfer.{AreJoined, AreOver, IsTransferred, Maps, StandsFor, looks_at}
use Rattle.pass_proofs.specs.run_memory.declared.pointer.Value.{Value}
use Rattle.pass_proofs.specs.run_step.Step.{AtInstr, Context, Work}
use Rattle.pass_proofs.specs.run_step.Values.{operand_value}
use Rattle.pass_proofs.specs.run_step.declared.world.World.{World}

module _ (homes : List Home) (hides : ℕ → Bool) (maps : Maps) (t : List (Option Fetch)) (given : ℕ → Value)
    (c d : Context) (law : AreByteRights c.rights) (law' : AreByteRights d.rights) (w y : Work) (n : ℕ) (i : Instr)
    (m : MayBeMade homes hides maps t given c d w y n i) where
  abbrev Looks : Bool
  Looks = looks_at (AtInstr i)

  pub first : AreFetched t given d n (instr_operands i) y
  first = fetched t given d n (instr_operands i) y m.can m.below m.room

  abbrev Stand : Operand → Operand → Type 0
  Stand = StandsFor Looks (IsValue homes) c d w.values first.work.values

  one_stands : (a b : Operand) → IsSeenFor homes t given c d w y a → IsSeenAs t given d y first.work a b → Stand a b
  one_stands a b h seen = on Looks
    where
      on : (looks : Bool) → StandsFor looks (IsValue homes) c d w.values first.work.values a b
      on false = tt
      on true = λ ty. subst (IsValue homes (operand_value c.code w.values ty a)) (sym (seen ty)) (h ty)

  all_stand : (k : ℕ) (xs : List Operand) → Each (IsSeenFor homes t given c d w y) xs
      → AreSeenAs t given d y first.work k xs → AreStayed t Stand k xs
  all_stand k [] h seen = tt
  all_stand k (a ∷ xs) h seen =
      (one_stands a (fetched_operand t k a) h.0 seen.0, all_stand (next_after t k a) xs h.1 seen.1)

  pub joined : AreJoined homes hides maps c d w first.work
  joined = record {
    over = subst (λ (z : World). AreOver c.rights d.rights homes hides maps.declaration w.world z)
        (sym first.sets.world) m.joined.over;
    hidden = m.joined.hidden;
    answers = m.joined.answers;
    room = subst (λ (k : ℕ). length w.values ≤ k) (sym first.sets.room) m.joined.room;
  }

  pub transferred : IsTransferred (IsValue homes) maps c d w.values first.work.values (AtInstr i)
      (AtInstr (with_fetched t n i))
  transferred = record {
    shape = instr_related t Stand n i (all_stand n (instr_operands i) m.seen first.seen);
    callee = m.callee;
    pointed = m.pointed;
    distance = m.distance first.work first.sets first.seen;
    cases = tt;
    no_slot = m.no_slot;
    bytes = m.bytes;
  }

  abbrev pub made : IsMade homes hides maps t c d w y n i
  made = record {
    work = first.work;
    runs = first.runs;
    sets = first.sets;
    goes = step_over homes hides maps c d w first.work (AtInstr i) (AtInstr (with_fetched t n i)) law law' joined
        transferred;
  }
