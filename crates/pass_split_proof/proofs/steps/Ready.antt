-- An instruction that may be read in a part is of one shape with itself there, and touches the same.
use Rattle.std.proofs.Common.{◌≡◌, ℕ, ◌≤◌, Bool, true, false, List, [], ◌∷◌, length, refl}
use Rattle.std.specs.Prelude.{ℤ}
use Rattle.pass_proofs.specs.ir_model.declared.instr.Instr.{Instr}
use Rattle.pass_proofs.specs.ir_model.declared.module.Function.{Function}
use Rattle.pass_proofs.specs.ir_model.declared.module.Module.{Module}
use Rattle.pass_proofs.specs.ir_model.declared.operand.Operand.{Operand}
use Rattle.pass_split_proof.proofs.steps.Done.{done_too}
use Rattle.pass_split_proof.proofs.steps.Operands.{operand_stands, operands_are}
use Rattle.pass_split_proof.specs.states.Memories.{AreWorldsBeside, homes_of}
use Rattle.pass_split_proof.specs.states.Values.{AreValuesOf}
use Rattle.pass_split_proof.specs.steps.Done.{IsDoneToo, ours, theirs}
use Rattle.pass_split_proof.specs.steps.Operands.{IsReadable}
use Rattle.pass_split_proof.specs.steps.Ready.{IsReadyInPart, moved_functions}
use Rattle.pass_proofs.specs.run_framed.Framed.{FramedGiven}
use Rattle.pass_proofs.proofs.run_laws.access.Touched.{same_touches}
use Rattle.pass_proofs.proofs.run_laws.transfer.Alone.{here_itself}
use Rattle.pass_proofs.specs.run_laws.changed.Changed.{Each, operands_of}
use Rattle.pass_proofs.specs.run_laws.memory.Pointers.{Home, IsValue}
use Rattle.pass_proofs.specs.run_laws.transfer.Transfer.{IsTransferred, StandsFor, looks_at}
use Rattle.pass_proofs.specs.run_source.declared.state.Instance.{Instance}
use Rattle.pass_proofs.specs.run_step.Step.{AtInstr, Context, Done, Work, action_of}

module _ (g : FramedGiven) (instances : List Instance) (m n : Module) (answers : List ℤ) (f q : Function)
    (functions : ℕ → ℕ)
    (w x : Work) (globals : length m.globals ≤ length w.world.memory)
    (values : AreValuesOf f (homes_of w.world.memory) w.values x.values) where
  abbrev c : Context
  c = ours g instances m answers f

  abbrev d : Context
  d = theirs n answers q

  abbrev homes : List Home
  homes = homes_of w.world.memory

  -- an operand stands for itself, where an instruction looks at it
  itself : (t : Bool) (a : Operand) → IsReadable m n f a → StandsFor t (IsValue homes) c d w.values x.values a a
  itself true a h = operand_stands m n f (length w.world.memory) w.values x.values globals values a h
  itself false a h = tt

  all_itself : (t : Bool) (xs : List Operand) → Each (IsReadable m n f) xs
      → Each (λ a. StandsFor t (IsValue homes) c d w.values x.values a a) xs
  all_itself t [] h = tt
  all_itself t (a ∷ xs) h = (itself t a h.0, all_itself t xs h.1)

  module _ (i : Instr) (k : IsReadyInPart functions f c d w.values x.values i) where
    pub transferred : IsTransferred (IsValue homes) (moved_functions functions) c d w.values x.values (AtInstr i)
        (AtInstr i)
    transferred = record {
      shape = here_itself (StandsFor (looks_at (AtInstr i)) (IsValue homes) c d w.values x.values) (AtInstr i)
          (all_itself (looks_at (AtInstr i)) (operands_of i) k.operands);
      callee = k.callee;
      pointed = k.pointed;
      distance = k.distance;
      cases = tt;
      no_slot = k.no_slot;
      bytes = k.bytes;
    }

    pub done : AreWorldsBeside g instances w.world x.world → (v : Work) → action_of c w (AtInstr i) ≡ Done v
        → IsDoneToo g instances d w x (AtInstr i) (AtInstr i) v
    done beside v is = done_too g instances m n answers f q functions (λ label. label) w x beside values.room
        (AtInstr i) (AtInstr i) transferred
        (same_touches homes c d w x (AtInstr i) (operands_are m n f (length w.world.memory) w.values x.values globals
        values c d refl refl (operands_of i) k.operands))
        k.no_slot v is
