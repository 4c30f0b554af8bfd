-- An accepted source with blocks on edges keeps what is asked of runs that make slots anew.
use Rattle.std.proofs.Common.{◌≡◌, Bool, Option, Some, sym, ap, ◌∙◌, subst}
use Rattle.std.proofs.lemmas.Option.{slice_get-map}
use Rattle.std.specs.Prelude.{map, option_map, slice_get, unwrap_or, if◌then◌else◌}
use Rattle.compiler_theorem.proofs.narrow.Modules.{edged_steady}
use Rattle.compiler_theorem.proofs.theorem.Slots.{split_slots}
use Rattle.compiler_theorem.specs.theorem.Anew.{Anew, IsAnewOf}
use Rattle.compiler_theorem.specs.theorem.Entries.{IsEntryCall, Run}
use Rattle.compiler_theorem.specs.theorem.Lowered.{HasFewBytes, IsLowered, Lowered, early, edged, sizes_of}
use Rattle.compiler_theorem.specs.theorem.Between.{setting}
use Rattle.compiler.specs.ir_laws.facts.sound_states.Named.{AreLocalsNamed}
use Rattle.compiler.specs.ir_model.Names.{function_at, no_function}
use Rattle.compiler.specs.ir_model.declared.module.Function.{Function}
use Rattle.compiler.specs.pass_early.BeginName.{with_begin_name}
use Rattle.compiler.specs.pass_early.Early.{early_function, early_named}
use Rattle.compiler.specs.pass_edges.EdgeBlocks.{with_edge_blocks}
use Rattle.compiler.proofs.pass_proofs.edges.simulation.Names.{locals_named}
use Rattle.compiler.proofs.pass_proofs.edges.sources.Accepted.{locals_now}
use Rattle.compiler.specs.pass_proofs.edges.states.MovedState.{edge_function}
use Rattle.pass_frames_meaning.specs.pass_renewed_meaning.Rules.{KeepsAll}
use Rattle.pass_frames_meaning.specs.pass_renewed_proof.SlotRules.{KeepsAllSlots}
use Rattle.run_accepted.proofs.Accepted.{edged_globals, edged_places, edged_steps, edged_types}
use Rattle.compiler.specs.run_memory.declared.pointer.Value.{Value}
use Rattle.pass_frames_meaning.specs.run_types.Fitting.{FitParams}
use Rattle.pass_frames_meaning.specs.run_types.States.{AreArguments}

module _ (l : Lowered) (low : IsLowered l) (a : Anew) (anew : IsAnewOf (early l) a) (r : Run)
    (call : IsEntryCall l.source r) where
  locals : AreLocalsNamed (edged l)
  locals = locals_named (early l) (locals_now l.text l.source low.source.stands low.source.accepted)

  -- the entry is no coroutine, so it stays as it is
  abbrev f : Function
  f = call.callable.function

  pub early_entry : slice_get (early l).functions r.entry ≡ Some f
  early_entry = slice_get-map early_function l.source.functions r.entry ∙ ap (option_map early_function)
      call.callable.there ∙ ap (λ (b : Bool). Some (if b then early_named (with_begin_name f) else f)) call.callable.plain

  pub edged_entry : slice_get (edged l).functions r.entry ≡ Some f
  edged_entry = slice_get-map edge_function (early l).functions r.entry ∙ ap (option_map edge_function) early_entry
      ∙ ap (λ (b : Bool). Some (if b then with_edge_blocks f else f)) call.callable.plain

  same_entry : function_at l.source r.entry ≡ function_at (edged l) r.entry
  same_entry = ap (λ (o : Option Function). unwrap_or o no_function) (call.callable.there ∙ sym edged_entry)

  arguments : AreArguments (edged l) r.entry r.args
  arguments = subst (λ (g : Function). FitParams g.params (map Value.Int r.args)) same_entry call.fits

  module _ (few : HasFewBytes l) where
    pub slots_kept : KeepsAllSlots (edged l) a.keep a.flags a.roots
    slots_kept = split_slots l low a anew (edged_steady l low few)

    pub all_kept : KeepsAll (setting l a r)
    all_kept = record {
      slots = slots_kept;
      steps = edged_steps l.text l.source low.source.stands low.source.accepted;
      locals = locals;
      globals = edged_globals l.text l.source low.source.stands low.source.accepted;
      places = (edged_places l.text l.source low.source.stands low.source.accepted (sizes_of l) r.answers).each;
      types = edged_types l.text l.source low.source.stands low.source.accepted;
      arguments = arguments;
    }
