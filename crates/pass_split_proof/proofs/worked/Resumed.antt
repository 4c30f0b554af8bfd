-- A worked begin, save and resume: memories stand beside each other behind each.
use Rattle.std.proofs.Common.{inl, false, List, [], ◌∷◌, Option, None, Some, refl}
use Rattle.pass_proofs.specs.pass_intrinsics.declared.shape.Part.{Part}
use Rattle.pass_proofs.specs.split.rules.Reached.{Entry, IsLedTo}
use Rattle.pass_split_proof.proofs.states.Saved.{saves}
use Rattle.pass_split_proof.proofs.states.Worked.{after, laid}
use Rattle.pass_split_proof.proofs.steps.Branches.{left_all, left_beside}
use Rattle.pass_split_proof.specs.code.Numbers.{IsNumbered}
use Rattle.pass_split_proof.specs.states.Begun.{BeginsIn}
use Rattle.pass_split_proof.specs.states.Instances.{IsSavedAt, address_of_part}
use Rattle.pass_split_proof.specs.states.Saved.{SavesIn}
use Rattle.pass_split_proof.specs.steps.Branches.{Left}
use Rattle.pass_split_proof.specs.worked.Resumed.{AreWorked, a_coroutine, a_given, a_suspend, begun_memory, framed_memory, given_frame, saved_memory, sleeping, woken}
use Rattle.pass_proofs.specs.run_laws.memory.Standing.{blank_block}
use Rattle.run_access_worked.specs.run_laws_worked.Worked.{an_instance}
use Rattle.pass_proofs.specs.run_memory.declared.block.Kind.{Kind}
use Rattle.pass_proofs.specs.run_memory.declared.pointer.Value.{Value}

-- ---- the suspend

abbrev numbered : IsNumbered a_coroutine a_suspend 0
numbered = record {
  suspend = record { save = Some 5; is_final = false; block = 1; resume = 2; destroy = 3 };
  stands = refl;
  block = refl;
  resume = refl;
  destroy = refl;
  final = refl;
}

led : IsLedTo a_coroutine 1
led = Entry 1 (inl refl)

-- ---- begin

abbrev begins : BeginsIn given_frame [] an_instance framed_memory (blank_block 48 16 Kind.Allocator ∷ [])
    (address_of_part given_frame 0 Part.Resume) Part.Destroy
begins = after a_given (address_of_part given_frame 0 Part.Resume)

pub begun : AreWorked an_instance begun_memory
begun = record { beside = begins.beside; frames = begins.frames }

-- ---- save

module _ (values : List (Option Value)) where
  stored : SavesIn given_frame (an_instance ∷ []) 0 an_instance framed_memory begun_memory 0
      (address_of_part given_frame 0 Part.Resume) a_suspend values None false
  stored = saves given_frame (an_instance ∷ []) 0 an_instance framed_memory begun_memory refl refl begun.frames
      begun.beside (laid a_given) a_suspend values None false 0 numbered led

  pub saved : AreWorked (sleeping values) saved_memory
  saved = record { beside = stored.beside; frames = stored.frames }

  -- what a resume loads
  pub names_its_suspend : IsSavedAt given_frame saved_memory (sleeping values) a_suspend
  names_its_suspend = (saved.frames.headed 0 (sleeping values) refl refl).saved a_suspend values refl

  -- ---- resume

  pub resumed : AreWorked (woken values) saved_memory
  resumed = record {
    beside = left_beside given_frame framed_memory saved_memory (sleeping values ∷ []) (woken values ∷ [])
        (Left 0 (sleeping values) refl refl) saved.beside;
    frames = left_all given_frame framed_memory saved_memory (sleeping values ∷ []) (woken values ∷ [])
        (Left 0 (sleeping values) refl refl) saved.frames;
  }
