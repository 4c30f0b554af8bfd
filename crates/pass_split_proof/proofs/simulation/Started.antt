-- The states in which the runs start stand beside each other.
use Rattle.std.proofs.Common.{◌≡◌, ℕ, suc, ◌≤◌, arith, false, List, [], ◌∷◌, length, map, refl, sym, ap, ◌∙◌, subst, inr}
use Rattle.std.proofs.lemmas.Bool.{false≢true}
use Rattle.pass_proofs.specs.ir_base.declared.outcome.Word.{Word}
use Rattle.pass_proofs.specs.ir_model.Names.{function_at}
use Rattle.pass_proofs.specs.ir_model.declared.module.Function.{Function}
use Rattle.pass_proofs.specs.pass_intrinsics.declared.shape.Part.{Part}
use Rattle.pass_split_proof.proofs.states.Started.{frames_start, worlds_start}
use Rattle.pass_split_proof.proofs.states.Values.{entries_stand, entry_length}
use Rattle.pass_split_proof.specs.places.Places.{IsCodeOf, IsPlace}
use Rattle.pass_split_proof.specs.states.Activations.{Inside}
use Rattle.pass_split_proof.specs.states.Instances.{part_position}
use Rattle.pass_split_proof.specs.states.Memories.{AreContents, AreWorldsBeside, homes_of}
use Rattle.pass_split_proof.specs.states.Related.{AreRelated}
use Rattle.pass_proofs.specs.pass_split.Parts.{plain_shape}
use Rattle.pass_proofs.specs.run_framed.Framed.{FramedGiven}
use Rattle.pass_proofs.specs.run_laws.embedded.Related.{AreValues}
use Rattle.pass_proofs.specs.run_laws.memory.Pointers.{Home}
use Rattle.pass_proofs.specs.run_memory.declared.pointer.Value.{Value}
use Rattle.run_access_worked.specs.run_plain.Plain.{PlainGiven, plain_first}
use Rattle.pass_proofs.specs.run_source.Source.{first_state}
use Rattle.pass_proofs.specs.run_source.declared.state.Mode.{Mode}
use Rattle.pass_proofs.specs.run_step.Step.{first_world, global_block}
use Rattle.pass_proofs.specs.run_step.declared.world.World.{World}

-- words stand for themselves
pub words_stand : (homes : List Home) (args : List Word) → AreValues homes (map Value.Int args) (map Value.Int args)
words_stand homes [] = tt
words_stand homes (x ∷ args) = (refl, words_stand homes args)

-- a block for each global
length_mapped : {A B : Type 0} (f : A → B) (xs : List A) → length (map f xs) ≡ length xs
length_mapped f [] = refl
length_mapped f (x ∷ xs) = ap suc (length_mapped f xs)

module _ (g : FramedGiven) (h : PlainGiven) (entry other : ℕ) (args : List Word) where
  abbrev f : Function
  f = function_at g.given.code entry

  abbrev q : Function
  q = function_at h.code other

  -- the entry is no coroutine, and the other function is what becomes of it
  pub starts_related : f.coroutine ≡ false → IsCodeOf f q (plain_shape f) Part.Ramp
      → IsPlace (plain_shape f) Part.Ramp f q 0 0 0 0
      → q.params ≡ f.params → length f.names ≤ length q.names → other ≡ part_position g entry Part.Ramp
      → first_world h.code ≡ first_world g.given.code → AreContents g.given.code
      → AreRelated g h (first_state g.given.code entry args) (plain_first h.code other args)
  starts_related plain code place params names moves globals contents = record {
    outcome = refl;
    globals = let l = length_mapped (global_block g.given.code) g.given.code.globals in omega arith;
    world = subst (λ (w : World). AreWorldsBeside g [] (first_world g.given.code) w) (sym globals)
        (worlds_start g g.given.code contents);
    frames = frames_start g (first_world g.given.code).memory (first_world h.code).memory;
    top = record {
      shape = plain_shape f;
      part = Part.Ramp;
      coded = code;
      shaped = inr (plain, refl);
      runs = refl;
      func = moves;
      place = Inside Mode.Plain refl place;
      values = entries_stand f q (homes_of (first_world g.given.code).memory) (map Value.Int args)
          (map Value.Int args) params names (words_stand (homes_of (first_world g.given.code).memory) args);
      whole = entry_length f (map Value.Int args);
      room = entry_length q (map Value.Int args);
      frame = λ i own. absurd (cc);
      result = refl;
      slots = refl;
      own = λ coroutine. absurd (false≢true (sym plain ∙ coroutine));
    };
    below = tt;
    making = λ from label e. absurd (cc);
  }
