-- The machine of the plain meaning, and the state of a run where the calls of coro.id are gone.
use Rattle.std.specs.Prelude.{◌≡◌, ℕ, zero, suc, ℤ, Bool, List, [], ◌∷◌, None, Option, Some, cond, map, slice_get}
use Rattle.run_agreement.specs.Machines.{Machine}
use Rattle.ir_base.specs.declared.outcome.Word.{Word}
use Rattle.pass_cleanup.specs.Cleanup.{is_kept_declaration, is_kept_instr}
use Rattle.ir_model.specs.Names.{function_at}
use Rattle.ir_model.specs.declared.instr.Instr.{Instr}
use Rattle.ir_model.specs.declared.module.Block.{Block}
use Rattle.ir_model.specs.declared.module.Module.{Module}
use Rattle.run_step.specs.Runs.{seen_of}
use Rattle.run_plain.specs.Plain.{plain_first, plain_step}
use Rattle.run_plain.specs.declared.state.PlainActivation.{PlainActivation}
use Rattle.run_plain.specs.declared.state.PlainState.{PlainState}
use Rattle.run_laws.specs.changed.Changed.{Change, changed_world}

-- what is seen of it after n steps is PlainAt
abbrev pub plain_machine : Module → ℕ → List Word → List ℤ → Machine PlainState
plain_machine m entry args answers =
    record {
      start = plain_first m entry args;
      step = plain_step (record { code = m; answers = answers });
      seen = λ s.
          seen_of m s.world s.outcome;
    }

-- the position among those that are kept
abbrev pub kept_before : {A : Type 0} → (A → Bool) → List A → ℕ → ℕ
kept_before keep xs zero = 0
kept_before keep [] (suc n) = suc n
kept_before keep (x ∷ xs) (suc n) = cond (keep x) (suc (kept_before keep xs n)) (kept_before keep xs n)

abbrev pub instrs_of : Option Block → List Instr
instrs_of None = []
instrs_of (Some b) = b.instrs

-- the place of what stands at a place, in the module without the calls of coro.id
abbrev pub moved_in : Option Block → ℕ → ℕ
moved_in b at = kept_before is_kept_instr (instrs_of b) at

abbrev pub change_of : Module → Change
change_of m = record { values = λ env. env; declaration = kept_before is_kept_declaration m.declarations }

abbrev pub moved_at : Module → ℕ → ℕ → ℕ → ℕ
moved_at m func block at = moved_in (slice_get (function_at m func).blocks block) at

abbrev pub cleaned_activation : Module → PlainActivation → PlainActivation
cleaned_activation m a = record a { at = moved_at m a.func a.block a.at }

-- places are moved over the calls that are gone, and events are of other declarations
abbrev pub cleaned : Module → PlainState → PlainState
cleaned m s =
    record {
      world = changed_world (change_of m) s.world;
      top = cleaned_activation m s.top;
      below = map (cleaned_activation m) s.below;
      elided = s.elided;
      outcome = s.outcome;
    }

abbrev pub IsCleanedOf : Module → PlainState → PlainState → Type 0
IsCleanedOf m s t = t ≡ cleaned m s
