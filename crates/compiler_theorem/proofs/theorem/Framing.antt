-- Where the steps of the simulation of frames are followed, the framed form of an accepted source agrees with the run in
-- which a resume hands on some values.
use Rattle.std.proofs.Common.{◌≡◌, zero, suc, arith, Bool, false, List, [], ◌∷◌, length, map, Option, refl, sym, ap, ◌∙◌}
use Rattle.std.proofs.lemmas.List.{length-map}
use Rattle.std.specs.Prelude.{unwrap_or}
use Rattle.compiler_theorem.proofs.parts.Globals.{contents_stand}
use Rattle.compiler_theorem.proofs.parts.Ways.{first_mapped}
use Rattle.compiler_theorem.proofs.theorem.Built.{framings, sources_built}
use Rattle.compiler_theorem.proofs.theorem.Renewing.{all_kept, early_entry}
use Rattle.compiler_theorem.specs.theorem.Anew.{Anew, IsAnewOf}
use Rattle.compiler_theorem.specs.theorem.Built.{building}
use Rattle.compiler_theorem.specs.theorem.Entries.{IsEntryCall, Run}
use Rattle.compiler_theorem.specs.theorem.Lowered.{HasFewBytes, IsLowered, Lowered, early, edged, sizes_of}
use Rattle.compiler_theorem.specs.theorem.Between.{renewing, setting}
use Rattle.compiler.specs.ir_base.declared.name.Name.{Name}
use Rattle.compiler.proofs.ir_laws.facts.Lists.{map_same}
use Rattle.compiler.specs.ir_laws.facts.same_names.Same.{naming}
use Rattle.compiler.specs.ir_model.Names.{first_where, function_at, no_function, same_name}
use Rattle.compiler.specs.ir_model.declared.module.Function.{Function}
use Rattle.compiler.specs.ir_model.declared.module.GlobalItem.{GlobalItem}
use Rattle.compiler.specs.ir_model.declared.module.Module.{Module}
use Rattle.pass_frames_meaning.proofs.covered.Assembly.{kept_agrees}
use Rattle.pass_frames_meaning.specs.Covered.{AgreesWithFrames, AreCoveredStepsFollowed, AreStepsPaid, IsKeptOver}
use Rattle.pass_frames_meaning.proofs.pass_frames_proof.givens.Runs.{given_runs}
use Rattle.pass_frames_meaning.proofs.pass_frames_proof.start.States.{starts_built}
use Rattle.pass_frames_meaning.proofs.pass_frames_proof.stepping.Operands.{AreSameNames, empty_same}
use Rattle.pass_frames_meaning.specs.pass_frames_proof.Related.{AreBuiltOf, Building}
use Rattle.pass_frames_meaning.specs.pass_frames_proof.Stepping.{AreGiven}
use Rattle.compiler.proofs.pass_proofs.frames.headings.Headings.{framed_names}
use Rattle.pass_split_proof.specs.states.Memories.{AreContents}
use Rattle.pass_frames_meaning.specs.pass_renewed_proof.Ledger.{AreSmallGlobals}
use Rattle.pass_frames_meaning.specs.pass_renewed_proof.Prices.{Prices}
use Rattle.run_accepted.proofs.Accepted.{edged_globals}
use Rattle.compiler.proofs.run_laws.memory.Itself.{stands_in_itself}
use Rattle.compiler.specs.run_laws.memory.Standing.{Embeds, own_homes}
use Rattle.compiler.proofs.run_memory.Digits.{length-encode}
use Rattle.compiler.specs.run_memory.Whole.{AreWhole, IsWhole}
use Rattle.compiler.specs.run_memory.Memory.{access_bytes, encode, owner_rights}
use Rattle.compiler.specs.run_memory.declared.block.MemoryBlock.{MemoryBlock}
use Rattle.compiler.specs.run_memory.declared.pointer.Value.{Value}
use Rattle.compiler.specs.run_source.Source.{first_state}
use Rattle.compiler.specs.run_source.declared.state.State.{State}
use Rattle.compiler.specs.run_step.Step.{first_world, global_block}
use Rattle.compiler.specs.run_step.Values.{access_of, stored}

-- ---- functions by their names

named_by : (n : Name) (fs gs : List Function) → map naming gs ≡ map naming fs
    → first_where (λ (f : Function). same_name f.name n) gs ≡ first_where (λ (f : Function). same_name f.name n) fs
named_by n fs gs e =
    first_mapped naming (λ (x : Name × Bool). same_name x.0 n) gs
    ∙ ap (first_where (λ (x : Name × Bool). same_name x.0 n)) e
    ∙ sym (first_mapped naming (λ (x : Name × Bool). same_name x.0 n) fs)

all_whole : (f : GlobalItem → MemoryBlock) (gs : List GlobalItem) → ((g : GlobalItem) → IsWhole (f g)) → AreWhole (map f gs)
all_whole f [] h k d lt = absurd (omega arith)
all_whole f (g ∷ gs) h zero d lt = h g
all_whole f (g ∷ gs) h (suc k) d lt = all_whole f gs h k d (omega arith)

module _ (l : Lowered) (low : IsLowered l) where
  abbrev e : Module
  e = early l

  names : map naming l.framed.functions ≡ map naming (early l).functions
  names = (framed_names l.layouts (early l) l.framed low.is_framed).functions

  count : length l.framed.functions ≡ length (early l).functions
  count = sym (length-map l.framed.functions naming) ∙ ap length names ∙ length-map e.functions naming

  module _ (a : Anew) (r : Run) where
    abbrev built : Building
    built = building l low.is_framed r.answers

    -- what the runs are given is what steps ask
    pub sources_given : AreGiven (building l low.is_framed r.answers) (renewing l a r)
    sources_given =
        given_runs built l.layouts a.keep a.flags a.roots (sizes_of l) r.answers (sources_built l low r.answers) refl
        (framings l low r.answers) (record {
          functions = λ n. named_by n e.functions l.framed.functions names;
          declarations = low.is_framed.declarations;
          globals = low.is_framed.globals;
          count = count;
        })

    same_names : AreSameNames (edged l) l.framed
    same_names = record {
      functions = sources_given.functions;
      declarations = sources_given.declarations;
      globals = sources_given.globals;
      count = sources_given.count;
    }

    -- ---- the start

    worlds : first_world l.framed ≡ first_world (edged l)
    worlds = ap (λ (blocks : List MemoryBlock). record { memory = blocks; events = []; answers_used = 0; allocs = 0 })
        (ap (map (global_block l.framed)) low.is_framed.globals
        ∙ map_same (global_block l.framed) (global_block (edged l)) block_same (edged l).globals)
      where
        block_same : (x : GlobalItem) → global_block l.framed x ≡ global_block (edged l) x
        block_same x = ap (λ (v : Value). record (global_block (edged l) x) {
          bytes = encode (access_bytes (access_of x.ty)) (stored (access_of x.ty) v);
        }) (empty_same (edged l) l.framed same_names x.init x.ty)

    small : AreSmallGlobals (edged l)
    small = edged_globals l.text l.source low.source.stands low.source.accepted

    contents : AreContents (edged l)
    contents = contents_stand (edged l) small

    embeds : Embeds owner_rights owner_rights (own_homes 0 (length (first_world (edged l)).memory))
        (first_world (edged l)).memory (first_world (edged l)).memory
    embeds = stands_in_itself (first_world (edged l)).memory
        (all_whole (global_block (edged l)) (edged l).globals
        (λ g. record { full = length-encode (access_bytes (access_of g.ty)) _ })) contents.small contents.known

    module _ (anew : IsAnewOf (early l) a) (call : IsEntryCall l.source r) where
      pub plain : (function_at e r.entry).coroutine ≡ false
      plain =
          ap (λ (o : Option Function). (unwrap_or o no_function).coroutine) (early_entry l low a anew r call)
          ∙ call.callable.plain

      starts : AreBuiltOf (building l low.is_framed r.answers) (first_state (edged l) r.entry r.args)
          (first_state l.framed r.entry r.args)
      starts = starts_built built (edged l) r.entry r.args (sources_built l low r.answers) plain (sources_given.others r.entry plain) worlds
          embeds contents.small

      pub framing_by : HasFewBytes l → (p : Prices) (Holds : State → Type 0)
          → IsKeptOver (setting l a r) (building l low.is_framed r.answers) Holds
          → AreCoveredStepsFollowed (setting l a r) (building l low.is_framed r.answers) Holds
          → AreStepsPaid (setting l a r) (building l low.is_framed r.answers) p
          → AgreesWithFrames (setting l a r) p (building l low.is_framed r.answers) l.layouts
      framing_by few p Holds over followed pays =
          kept_agrees (setting l a r) p built l.layouts (all_kept l low a anew r call few) refl
          low.is_framed.declarations pays starts Holds over followed

pub framing : (l : Lowered) (low : IsLowered l) → HasFewBytes l → (a : Anew) → IsAnewOf (early l) a → (p : Prices) (r : Run)
    → IsEntryCall l.source r → (Holds : State → Type 0)
    → IsKeptOver (setting l a r) (building l low.is_framed r.answers) Holds
    → AreCoveredStepsFollowed (setting l a r) (building l low.is_framed r.answers) Holds
    → AreStepsPaid (setting l a r) (building l low.is_framed r.answers) p
    → AgreesWithFrames (setting l a r) p (building l low.is_framed r.answers) l.layouts
framing l low few a anew p r call Holds over followed pays =
    framing_by l low a r anew call few p Holds over followed pays
